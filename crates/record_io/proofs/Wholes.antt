-- What a segment says of the whole input, for `next_segment`.
use Rattle.std.proofs.Common.{◌≡◌, ◌≢◌, ℕ, ◌+◌, ◌-◌, ◌≤◌, ◌<◌, Bool, false, IsTrue, List, [], ◌∷◌, ◌++◌, length, take}
use Rattle.std.proofs.Common.{refl, sym, ◌∙◌, ap, subst, inl, inr, ⊎_elim, arith, rules, tests, append_assoc}
use Rattle.std.proofs.Common.{length-append}
use Rattle.std.specs.Prelude.{◌*◌, ◌==◌, if◌then◌else◌, Result, Ok, Err, IfOk}
use Rattle.std.specs.List.{All}
use Rattle.std.proofs.lemmas.List.{append-nil}
use Rattle.std.proofs.lemmas.List.Elements.{All-nil, All-append}
use Rattle.record_io.specs.declared.item_cursor.Record.{Record}
use Rattle.record_io.specs.declared.item_cursor.SegmentEnd.{SegmentEnd}
use Rattle.record_io.specs.declared.item_cursor.SegmentEnd.TheVariants.{More, End, Malformed, SourceFault}
use Rattle.record_io.specs.declared.item_cursor.SegmentEnd.TheVariants as ends_as
use Rattle.record_io.specs.declared.reader.ItemKind.TheVariants.{Recorded}
use Rattle.record_io.specs.declared.reader.RecordKind.{RecordKind}
use Rattle.record_io.specs.declared.reader.RecordKind.TheVariants.{Monitor}
use Rattle.record_io.specs.Input.{Item, IsItem, item_octets, items_octets, beginning, AreRead, MOST_OCTETS}
use Rattle.record_io.specs.Places.{Count, behind, first_count, counted}
use Rattle.record_io.specs.Reading.{SourceSeen, Standing, IsReading, HasTaken, ReadsLast, ReadsTo, Loses, HasFaultCause}
use Rattle.record_io.specs.Reading.{GoesOn}
use Rattle.record_io.specs.Steps.{still_counted, Moves, Took, item_of, items_of, AreNumbered, Segment, Wants}
use Rattle.record_io.specs.Steps.{ClosesSegment, due_beginning, Misses, EndsBefore}
use Rattle.record_io.proofs.Items.{items_octets-append, length-item, not_empty}
use Rattle.record_io.proofs.Counting.{counts_more}
use Rattle.record_io.proofs.Placing.{counted-append, counted_some, same_records, numbered_front, numbered_behind}
use Rattle.record_io.proofs.Placing.{closing, no_more_records}
use Rattle.record_io.specs.declared.reader.TheConstants.{SEGMENT_RECORDS}

abbrev read_of : List Item → List ℕ
read_of items = beginning ++ items_octets items

read-append : (xs ys : List Item) → read_of (xs ++ ys) ≡ read_of xs ++ items_octets ys
read-append xs ys = ap (λ l. beginning ++ l) (items_octets-append xs ys)
    ∙ sym (append_assoc beginning (items_octets xs) (items_octets ys))

-- the beginning and these items were read from the start on
pub record HasBegun (start now : SourceSeen) (standing : Standing) (items : List Item) : Type 0 where
  pub items_are : All IsItem items
  pub told : now.told ≡ start.told
  pub moved : IsTrue start.told → start.left ≡ read_of items ++ now.left
  pub taken_is : standing.taken ≡ length (read_of items)
  pub records_are : standing.records ≡ (counted first_count items).index
  pub closed : (counted first_count items).inside ≡ 0

not_zero : (n : ℕ) → 0 < n → (n == 0) ≡ false
not_zero n h = search (rules, tests)

-- what was taken, and the beginning where it is due, is the beginning and the items
octets_due : (read : List ℕ) (items : List Item) (taken : ℕ) → AreRead read items → taken ≡ length read
    → read ++ due_beginning taken ≡ read_of items
octets_due read items taken (inl (none, no_items)) count =
    ap (λ l. l ++ due_beginning taken) none ∙ ap due_beginning (count ∙ ap length none)
    ∙ ap (λ l. beginning ++ items_octets l) (sym no_items)
octets_due read items taken (inr e) count =
    let some : 0 < taken = omega (arith, ap length e, length-append beginning (items_octets items)) in
    ap (λ b. read ++ (if b then beginning else [])) (not_zero taken some) ∙ append-nil read ∙ e

-- the beginning is read where it is due
pub begun : (start old mid : SourceSeen) (before standing : Standing) (items : List Item) (read : List ℕ)
    → IsReading start old before items read → mid.told ≡ old.told
    → Moves old.told (due_beginning before.taken) before.taken standing.taken old.left mid.left
    → standing.records ≡ before.records
    → HasBegun start mid standing items
begun start old mid before standing items read reading told moves same =
    let due : read ++ due_beginning before.taken ≡ read_of items =
    octets_due read items before.taken reading.read_are reading.taken_is in
    record {
      items_are = reading.items_are;
      told = told ∙ reading.told;
      moved = λ t. reading.taken t ∙ ap (λ l. read ++ l) (moves.moved (subst IsTrue (sym reading.told) t))
          ∙ sym (append_assoc read (due_beginning before.taken) mid.left) ∙ ap (λ l. l ++ mid.left) due;
      taken_is = omega (
        arith,
        moves.counted,
        reading.taken_is,
        ap length due,
        length-append read (due_beginning before.taken),
      );
      records_are = same ∙ reading.records_are;
      closed = reading.closed;
    }

module _ (start mid now : SourceSeen) (standing : Standing) (items : List Item) (h : HasBegun start mid standing items)
    (same : now.told ≡ mid.told) where
  -- what was read from the start on, with more
  whole_moved : (more : List Item) (part : List ℕ) → Took mid.told more part standing.taken mid.left now.left
      → IsTrue start.told → start.left ≡ read_of (items ++ more) ++ (part ++ now.left)
  whole_moved more part took t =
      h.moved t ∙ ap (λ l. read_of items ++ l) (took.moved (subst IsTrue (sym h.told) t))
      ∙ sym (append_assoc (read_of items) (items_octets more) (part ++ now.left))
      ∙ ap (λ l. l ++ (part ++ now.left)) (sym (read-append items more))

  size : (more : List Item) → length (read_of (items ++ more)) ≡ standing.taken + length (items_octets more)
  size more = omega (
    arith,
    ap length (read-append items more),
    length-append (read_of items) (items_octets more),
    h.taken_is,
  )

  takes : (more : List Item) (part : List ℕ) → Took mid.told more part standing.taken mid.left now.left
      → HasTaken start now (items ++ more) (read_of (items ++ more)) part
  takes more part took = record {
    items_are = All-append IsItem items more h.items_are took.items_are;
    read_are = inr refl;
    taken = whole_moved more part took;
    few = omega (arith, size more, took.within);
    no_whole = took.no_whole;
  }

  -- the octets of the input that count
  spelled : (more : List Item) (part : List ℕ) → Took mid.told more part standing.taken mid.left now.left
      → IsTrue start.told
      → take MOST_OCTETS start.left
      ≡ read_of (items ++ more)
      ++ (part ++ still_counted (standing.taken + length (items_octets more) + length part) now.left)
  spelled more part took t =
      let read : List ℕ = read_of (items ++ more) in
      let place : 0 + length read ≡ standing.taken + length (items_octets more) = omega (arith, size more) in
      ap (λ l. take (MOST_OCTETS - 0) l) (whole_moved more part took t)
      ∙ counts_more MOST_OCTETS 0 read (part ++ now.left) (omega (arith, size more, took.within))
      ∙ ap (λ n. read ++ take (MOST_OCTETS - n) (part ++ now.left)) place
      ∙ ap (λ l. read ++ l) (counts_more MOST_OCTETS (standing.taken + length (items_octets more)) part now.left
      (omega (arith, took.within)))

  pub last : (records : List Record) (part : List ℕ) → All (λ (r : Record). r.kind ≢ Monitor) records
      → AreNumbered standing.records records → length records < SEGMENT_RECORDS
      → Took mid.told (items_of records) part standing.taken mid.left now.left → ReadsLast start now items records
  last records part plain numbered few took =
      let c : Count = counted first_count items in
      record {
        more = items_of records;
        read = read_of (items ++ items_of records);
        part = part;
        takes = takes (items_of records) part took;
        records_are = sym (same_records records c (subst (λ (n : ℕ). AreNumbered n records) h.records_are numbered));
        one_segment =
            ap (λ (d : Count). d.segment) (counted-append first_count items (items_of records)
            ∙ counted_some records c plain (omega (arith, h.closed)));
      }

  pub segment_reads : (new : Standing) (records : List Record) (end : SegmentEnd)
      → Segment mid.told standing new mid.left now.left records end
      → ((faults : ℕ) → end ≡ SourceFault faults → faults ≡ now.faults)
      → ReadsTo start now new items records end
  unfolding last
  segment_reads new records More segment cause =
      let c : Count = counted first_count items in
      let close : List Item = segment.ends.close in
      let more : List Item = items_of records ++ close in
      let numbered : AreNumbered c.index records =
      subst (λ (n : ℕ). AreNumbered n records) h.records_are
      (numbered_front standing.records records [] segment.numbered) in
      let counts : counted first_count (items ++ more) ≡ record {
        index = c.index + length records;
        segment = c.segment + 1;
        inside = 0;
      } =
      counted-append first_count items more ∙ closing records close c segment.plain h.closed segment.ends.closes in
      let all : HasTaken start now (items ++ more) (read_of (items ++ more)) [] = takes more [] segment.ends.took in
      record {
        more = more;
        read = read_of (items ++ more);
        reading = record {
          items_are = all.items_are;
          read_are = all.read_are;
          told = same ∙ h.told;
          taken = all.taken;
          few = omega (arith, all.few);
          taken_is = omega (arith, segment.ends.counted, size more);
          records_are = omega (
            arith,
            segment.counted,
            length-append records (let none : List Record = [] in none),
            h.records_are,
            ap (λ (d : Count). d.index) counts,
          );
          closed = ap (λ (d : Count). d.inside) counts;
        };
        records_are = sym (no_more_records records close c segment.ends.closes numbered);
        one_segment = ap (λ (d : Count). d.segment) counts;
      }
  segment_reads new records (ends_as.Monitor task) segment cause =
      let c : Count = counted first_count items in
      let more : List Item = items_of records in
      let all_more : List Item = more ++ item_of task ∷ [] in
      let ended = segment.ends.1 in
      let both : (items ++ more) ++ item_of task ∷ [] ≡ items ++ all_more =
      append_assoc items more (item_of task ∷ []) in
      let all : HasTaken start now (items ++ all_more) (read_of (items ++ all_more)) [] =
      takes all_more [] ended.took in
      let numbered : AreNumbered c.index (records ++ task ∷ []) =
      subst (λ (n : ℕ). AreNumbered n (records ++ task ∷ [])) h.records_are segment.numbered in
      let at : counted first_count (items ++ more) ≡ record {
        index = c.index + length records;
        segment = c.segment;
        inside = c.inside + length records;
      } =
      counted-append first_count items more ∙ counted_some records c segment.plain
      (omega (arith, h.closed, segment.ends.0)) in
      let counts : counted first_count ((items ++ more) ++ item_of task ∷ [])
      ≡ record { index = c.index + length records + 1; segment = c.segment + 2; inside = 0 } =
      counted-append first_count (items ++ more) (item_of task ∷ []) ∙ ap (λ (d : Count). behind d (Recorded task.kind))
      at
      ∙ ap (λ (k : RecordKind).
      behind (record { index = c.index + length records; segment = c.segment; inside = c.inside + length records })
      (Recorded k)) ended.is_monitor in
      record {
        more = more;
        monitor = item_of task;
        read = read_of (items ++ all_more);
        reading = record {
          items_are = subst (All IsItem) (sym both) all.items_are;
          read_are = inr (ap read_of (sym both));
          told = same ∙ h.told;
          taken = all.taken;
          few = omega (arith, all.few);
          taken_is = omega (arith, ended.counted, size all_more);
          records_are = omega (
            arith,
            segment.counted,
            length-append records (task ∷ []),
            h.records_are,
            ap (λ (d : Count). d.index) counts,
          );
          closed = ap (λ (d : Count). d.inside) counts;
        };
        records_are = sym (same_records records c (numbered_front c.index records (task ∷ []) numbered));
        one_segment = ap (λ (d : Count). d.segment) at;
        is_monitor = ap Recorded ended.is_monitor;
        task_is = sym (same_records (task ∷ []) (counted first_count (items ++ more))
            ((numbered_behind c.index records (task ∷ []) numbered).0 ∙ ap (λ (d : Count). d.index) (sym at), tt));
      }
  segment_reads new records End segment cause =
      let took = segment.ends.1 in
      let all : ReadsLast start now items records =
      last records [] segment.plain (numbered_front standing.records records [] segment.numbered) segment.ends.0
      took in (
        all,
        refl,
        λ t. record {
          items_are = all.takes.items_are;
          read = read_of (items ++ items_of records);
          rest = [];
          read_are = inr refl;
          spelled = spelled (items_of records) [] took t
              ∙ ap (λ l. read_of (items ++ items_of records) ++ l)
              (ap (λ n. still_counted n now.left) (let e : standing.taken + length (items_octets (items_of records)) + 0
              ≡ standing.taken + length (items_octets (items_of records)) = omega arith in e)
              ∙ segment.ends.2 (subst IsTrue (sym h.told) t));
          ends = (
            not_empty (read_of (items ++ items_of records))
                (omega (arith, length-append beginning (items_octets (items ++ items_of records)))),
            refl,
          );
        },
      )
  segment_reads new records (Malformed offset) segment cause =
      let breaks = segment.ends.1 in
      let all : ReadsLast start now items records =
      last records breaks.part segment.plain (numbered_front standing.records records [] segment.numbered)
      segment.ends.0 breaks.took in
      let place : offset ≡ length (read_of (items ++ items_of records)) =
      omega (arith, breaks.offset_is, size (items_of records)) in (
        all,
        place,
        λ t.
            let told : IsTrue mid.told = subst IsTrue (sym h.told) t in
            record {
              items_are = all.takes.items_are;
              read = read_of (items ++ items_of records);
              rest = breaks.part ++ still_counted (offset + length breaks.part) now.left;
              read_are = inr refl;
              spelled = spelled (items_of records) breaks.part breaks.took t
                  ∙ ap (λ n. read_of (items ++ items_of records)
                  ++ (breaks.part ++ still_counted (n + length breaks.part) now.left)) (sym breaks.offset_is);
              ends = (place, breaks.malformed told, λ _. breaks.some told);
            },
      )
  segment_reads new records (SourceFault faults) segment cause =
      let stopped = segment.ends.1 in (
        last records stopped.0 segment.plain (numbered_front standing.records records [] segment.numbered)
            segment.ends.0
            stopped.1,
        cause faults refl,
      )

  pub wants_reads : Wants mid.told standing.taken mid.left now.left → Loses start now items
  wants_reads (more, part, took) = record {
    more = more;
    read = read_of (items ++ more);
    part = part;
    takes = takes more part took;
  }

-- the beginning was not read
pub nothing_read : (start old : SourceSeen) (before : Standing) (items : List Item) (read : List ℕ)
    → IsReading start old before items read
    → before.taken ≡ 0 → (read ≡ []) × (items ≡ [])
nothing_read start old before items read reading zero =
    ⊎_elim (λ (none : (read ≡ []) × (items ≡ [])). none)
    (λ e. absurd (omega (arith, zero, reading.taken_is, ap length e, length-append beginning (items_octets items))))
    reading.read_are

module _ (start old now : SourceSeen) (new : Standing) (taken : ℕ) (all : IsTrue start.told → start.left ≡ old.left)
    (told : old.told ≡ start.told) where
  missed_last : (part : List ℕ) → Misses old.told part taken old.left now.left → ReadsLast start now [] []
  missed_last part m = record {
    more = [];
    read = [];
    part = part;
    takes = record {
      items_are = All-nil IsItem;
      read_are = inl (refl, refl);
      taken = λ t. all t ∙ m.moved (subst IsTrue (sym told) t);
      few = omega (arith, m.within);
      no_whole = m.no_beginning;
    };
    records_are = refl;
    one_segment = refl;
  }

  missed : (end : SegmentEnd) → EndsBefore old.told taken old.left now.left end
      → ((faults : ℕ) → end ≡ SourceFault faults → faults ≡ now.faults)
      → ReadsTo start now new [] [] end
  unfolding missed_last
  missed More ends cause = absurd ends
  missed (ends_as.Monitor task) ends cause = absurd ends
  missed End ends cause = absurd ends
  missed (Malformed offset) ends cause =
      let part : List ℕ = ends.1.0 in
      let m : Misses old.told part taken old.left now.left = ends.1.1 in (
        missed_last part m,
        ends.0,
        λ t. record {
          items_are = All-nil IsItem;
          read = [];
          rest = part ++ still_counted (length part) now.left;
          read_are = inl (refl, refl);
          spelled = ap (λ l. take (MOST_OCTETS - 0) l) (all t ∙ m.moved (subst IsTrue (sym told) t))
              ∙ counts_more MOST_OCTETS 0 part now.left (omega (arith, m.within))
              ∙ ap (λ n. part ++ still_counted n now.left) (let e : 0 + length part ≡ length part = omega arith in e);
          ends = (ends.0, ends.1.2 (subst IsTrue (sym told) t), λ some. absurd (some refl));
        },
      )
  missed (SourceFault faults) ends cause = (missed_last ends.0 ends.1, cause faults refl)

pub misses_reads : (start old now : SourceSeen) (before new : Standing) (items : List Item) (read : List ℕ)
    → IsReading start old before items read
    → (end : SegmentEnd) → EndsBefore old.told before.taken old.left now.left end
    → ((faults : ℕ) → end ≡ SourceFault faults → faults ≡ now.faults)
    → before.taken ≡ 0 → ReadsTo start now new items [] end
misses_reads start old now before new items read reading end ends cause zero =
    let nothing = nothing_read start old before items read reading zero in
    subst (λ (l : List Item). ReadsTo start now new l [] end) (sym nothing.1)
    (missed start old now new before.taken (λ t. reading.taken t ∙ ap (λ l. l ++ old.left) nothing.0) reading.told end
    ends cause)

-- a beginning that was not read was due
pub due_at_start : (told : Bool) (taken : ℕ) (left_old left_new : List ℕ) (end : SegmentEnd)
    → EndsBefore told taken left_old left_new end → taken ≡ 0
due_at_start told taken left_old left_new More ends = absurd ends
due_at_start told taken left_old left_new (ends_as.Monitor task) ends = absurd ends
due_at_start told taken left_old left_new End ends = absurd ends
due_at_start told taken left_old left_new (Malformed offset) ends = ends.1.1.at_start
due_at_start told taken left_old left_new (SourceFault faults) ends = ends.1.at_start

pub cause_is : (before now : ℕ) (end : SegmentEnd) → HasFaultCause before now end → (faults : ℕ)
    → end ≡ SourceFault faults → faults ≡ now
cause_is before now More cause faults e = cc
cause_is before now (ends_as.Monitor task) cause faults e = cc
cause_is before now End cause faults e = cc
cause_is before now (Malformed offset) cause faults e = cc
cause_is before now (SourceFault count) cause faults e = let f = cause.0 in cc

pub if_ok_of : {T E : Type 0} (result : Result T E) (P Q R : T → Type 0) → ((x : T) → P x → Q x → R x) → IfOk result P
    → IfOk result Q → IfOk result R
if_ok_of (Ok x) P Q R f p q = f x p q
if_ok_of (Err e) P Q R f p q = tt

six_each : (items : List Item) → 6 * length items ≤ length (items_octets items)
six_each [] = omega arith
six_each (item ∷ items) =
    omega (arith, six_each items, length-item item, length-append (item_octets item) (items_octets items))

closed_by_some : (records : List Record) (close : List Item) → ClosesSegment (length records) close
    → 0 < length (items_of records ++ close)
closed_by_some records close (inl (few, item, fence, only)) =
    omega (arith, length-append (items_of records) close, ap length only)
closed_by_some [] close (inr (full, none)) = absurd (omega (arith, full))
closed_by_some (r ∷ records) close (inr (full, none)) = omega (arith, length-append (items_of (r ∷ records)) close)

-- a segment that is ended took octets
pub goes_forth : (told : Bool) (old new : Standing) (left_old left_new : List ℕ) (records : List Record)
    (end : SegmentEnd)
    → Segment told old new left_old left_new records end → GoesOn end → old.taken < new.taken
goes_forth told old new left_old left_new records More segment e =
    let items : List Item = items_of records ++ segment.ends.close in
    omega (arith, segment.ends.counted, six_each items, closed_by_some records segment.ends.close segment.ends.closes)
goes_forth told old new left_old left_new records (ends_as.Monitor task) segment e =
    let items : List Item = items_of records ++ item_of task ∷ [] in
    omega (arith, segment.ends.1.counted, six_each items, length-append (items_of records) (item_of task ∷ []))
goes_forth told old new left_old left_new records End segment e = absurd e
goes_forth told old new left_old left_new records (Malformed offset) segment e = absurd e
goes_forth told old new left_old left_new records (SourceFault faults) segment e = absurd e
