-- Items taken one after the other, for `read_behind`, `read_item` and `read_items`.
use Rattle.std.proofs.Common.{◌≡◌, ◌≢◌, ℕ, zero, suc, ◌+◌, ◌≤◌, ◌<◌, Bool, IsTrue, List, [], ◌∷◌, ◌++◌, length, take}
use Rattle.std.proofs.Common.{refl, sym, ◌∙◌, ap, subst, inl, ⊎_elim, arith, append_assoc, length-append, lit<}
use Rattle.std.specs.Prelude.{Result, Ok, Err, OnErr}
use Rattle.std.proofs.lemmas.List.{append-nil}
use Rattle.std.proofs.lemmas.Grind.{common_steps}
use Rattle.std.proofs.lemmas.List.Elements.{All-nil, All-cons, All-append}
use Rattle.record_io.specs.declared.reader.ItemKind.{ItemKind}
use Rattle.record_io.specs.declared.reader.ItemKind.TheVariants.{Fence, Recorded}
use Rattle.record_io.specs.declared.reader.RecordKind.{RecordKind}
use Rattle.record_io.specs.declared.reader.RecordKind.TheVariants.{Monitor}
use Rattle.std.specs.List.{All}
use Rattle.record_io.specs.Reading.{Standing}
use Rattle.record_io.specs.declared.item_cursor.Record.{Record}
use Rattle.record_io.specs.declared.item_cursor.SegmentEnd.{SegmentEnd}
use Rattle.record_io.specs.declared.item_cursor.SegmentEnd.TheVariants.{More, End, Malformed, SourceFault}
use Rattle.record_io.specs.declared.item_cursor.SegmentEnd.TheVariants as ends_as
use Rattle.record_io.specs.declared.reader.ItemHead.{ItemHead}
use Rattle.record_io.specs.declared.reader.Read.{Read}
use Rattle.record_io.specs.declared.reader.Read.TheVariants as reads
use Rattle.record_io.specs.Input.{Item, IsItem, most_octets, item_octets, items_octets, LacksItem, MOST_OCTETS}
use Rattle.record_io.specs.Heads.{IsHead, IsNoHead}
use Rattle.record_io.specs.Steps.{still_counted, TakesTooFew, Took, item_of, items_of, AreNumbered, ReadsOn, Segment}
use Rattle.record_io.specs.Steps.{task_at, Breaks, EndsBehind, EndsNext, ReadsItem, Wants}
use Rattle.record_io.proofs.Items.{items_octets-append, not_empty, lacks_short, lacks_head, lacks_octets, lacks_front}
use Rattle.record_io.proofs.Items.{length-head, spelled_item, item_is}
use Rattle.record_io.specs.declared.reader.TheConstants.{SEGMENT_RECORDS}

-- nothing was taken
pub took_none : (told : Bool) (old : ℕ) (left : List ℕ) → old ≤ MOST_OCTETS → Took told [] [] old left left
took_none told old left few = record {
  items_are = All-nil IsItem;
  moved = λ _. refl;
  within = omega arith;
  no_whole = lacks_short [] (lit< tt);
}

-- a part of an item was taken
pub took_part : (told : Bool) (part : List ℕ) (old : ℕ) (left_old left_new : List ℕ)
    → (IsTrue told → left_old ≡ part ++ left_new)
    → old + length part ≤ MOST_OCTETS → LacksItem part → Took told [] part old left_old left_new
took_part told part old left_old left_new moved within lacks = record {
  items_are = All-nil IsItem;
  moved = moved;
  within = omega arith;
  no_whole = lacks;
}

-- one item was taken
pub took_one : (told : Bool) (item : Item) (old : ℕ) (left_old left_new : List ℕ) → IsItem item
    → (IsTrue told → left_old ≡ item_octets item ++ left_new)
    → old + length (item_octets item) ≤ MOST_OCTETS → Took told (item ∷ []) [] old left_old left_new
took_one told item old left_old left_new is moved within =
    let whole : items_octets (item ∷ []) ≡ item_octets item = append-nil (item_octets item) in
    record {
      items_are = All-cons IsItem item [] is (All-nil IsItem);
      moved = λ t. moved t ∙ ap (λ l. l ++ left_new) (sym whole);
      within = omega (arith, ap length whole);
      no_whole = lacks_short [] (lit< tt);
    }

-- more was taken
pub took_more : (told : Bool) (xs ys : List Item) (part : List ℕ) (old mid : ℕ) (left_old left_mid left_new : List ℕ)
    → Took told xs [] old left_old left_mid → mid ≡ old + length (items_octets xs)
    → Took told ys part mid left_mid left_new → Took told (xs ++ ys) part old left_old left_new
took_more told xs ys part old mid left_old left_mid left_new first counted second =
    let both : items_octets (xs ++ ys) ≡ items_octets xs ++ items_octets ys = items_octets-append xs ys in
    record {
      items_are = All-append IsItem xs ys first.items_are second.items_are;
      moved = λ t. first.moved t ∙ ap (λ l. items_octets xs ++ l) (second.moved t)
          ∙ sym (append_assoc (items_octets xs) (items_octets ys) (part ++ left_new))
          ∙ ap (λ l. l ++ (part ++ left_new)) (sym both);
      within = omega (arith, second.within, counted, ap length both, length-append (items_octets xs) (items_octets ys));
      no_whole = second.no_whole;
    }

pub took_from : (told : Bool) (items : List Item) (part : List ℕ) (old before : ℕ) (left_old front left_new : List ℕ)
    → before ≡ old → (IsTrue told → left_old ≡ front) → Took told items part before front left_new
    → Took told items part old left_old left_new
took_from told items part old before left_old front left_new same e took = record {
  items_are = took.items_are;
  moved = λ t. e t ∙ took.moved t;
  within = omega (arith, took.within, same);
  no_whole = took.no_whole;
}

-- octets that head no item
pub breaks_at_head : (told : Bool) (old : ℕ) (header left : List ℕ) (offset : ℕ) → offset ≡ old → old + 6 ≤ MOST_OCTETS
    → length header ≡ 6 → IsNoHead header → Breaks told [] old (header ++ left) left offset
breaks_at_head told old header left offset at within six none = record {
  part = header;
  took = took_part told header old (header ++ left) left (λ _. refl) (omega (arith, six))
      (lacks_front header [] (lacks_head header [] six none));
  offset_is = omega (arith, at);
  some = λ _. not_empty (header ++ still_counted (offset + length header) left)
      (omega (arith, length-append header (still_counted (offset + length header) left), six));
  malformed = λ _. lacks_head header (still_counted (offset + length header) left) six none;
}

-- the head of a fence, which ends the segment
pub continues_at_fence : (told : Bool) (old new : ℕ) (header left : List ℕ) (head : ItemHead) → IsHead header head
    → head.kind ≡ Fence
    → new ≡ old + 6 → new ≤ MOST_OCTETS → ReadsOn told 0 [] old new (header ++ left) left
continues_at_fence told old new header left head found fence counted few =
    let none : head.len ≡ 0 =
    omega (arith, subst (λ (kind : ItemKind). head.len ≤ most_octets kind) fence found.short) in
    let item : Item = record { kind = head.kind; lane = head.lane; link = head.link; octets = [] } in
    let spelled : header ≡ item_octets item = sym (append-nil header) ∙ spelled_item header [] head found (sym none) in
    let six : length header ≡ 6 = length-head header head found in
    let whole : items_octets (item ∷ []) ≡ item_octets item = append-nil (item_octets item) in
    record {
      close = item ∷ [];
      closes = inl (lit< tt, item, fence, refl);
      took = took_one told item old (header ++ left) left (item_is header [] head found (sym none))
          (λ _. ap (λ l. l ++ left) spelled) (omega (arith, ap length spelled, six));
      counted = omega (arith, ap length whole, ap length spelled, six);
    }

-- a fault behind the head
pub fails_behind : (told : Bool) (old mid : ℕ) (header left_old left_new : List ℕ) (head : ItemHead)
    → IsHead header head
    → mid ≡ old + 6 → (f : TakesTooFew told head.len mid left_old left_new)
    → Took told [] (header ++ f.part) old (header ++ left_old) left_new
fails_behind told old mid header left_old left_new head found counted f =
    took_part told (header ++ f.part) old (header ++ left_old) left_new
    (λ t. ap (λ l. header ++ l) (f.moved t) ∙ sym (append_assoc header f.part left_new))
    (omega (arith, length-append header f.part, length-head header head found, f.within))
    (lacks_octets header f.part head found f.few)

-- octets that are cut
pub breaks_in_octets : (told : Bool) (old new : ℕ) (header octets left_old left_new : List ℕ) (head : ItemHead)
    (offset : ℕ) → offset ≡ old
    → IsHead header head → length octets < head.len → (IsTrue told → left_old ≡ octets ++ left_new)
    → new ≡ old + 6 + length octets → new ≤ MOST_OCTETS → (IsTrue told → still_counted new left_new ≡ [])
    → Breaks told [] old (header ++ left_old) left_new offset
breaks_in_octets told old new header octets left_old left_new head offset at found cut moved counted few ended =
    let six : length header ≡ 6 = length-head header head found in
    let size : length (header ++ octets) ≡ 6 + length octets = omega (arith, six, length-append header octets) in
    let place : offset + length (header ++ octets) ≡ new = omega (arith, at, size, counted) in
    let whole : IsTrue told → (header ++ octets) ++ still_counted (offset + length (header ++ octets)) left_new
    ≡ header ++ octets =
    λ t. ap (λ n. (header ++ octets) ++ still_counted n left_new) place ∙ ap (λ l. (header ++ octets) ++ l) (ended t)
    ∙ append-nil (header ++ octets) in
    record {
      part = header ++ octets;
      took = took_part told (header ++ octets) old (header ++ left_old) left_new
          (λ t. ap (λ l. header ++ l) (moved t) ∙ sym (append_assoc header octets left_new))
          (omega (arith, size, counted)) (lacks_octets header octets head found cut);
      offset_is = omega (arith, at);
      some = λ t. subst (λ (l : List ℕ). l ≢ []) (sym (whole t)) (not_empty (header ++ octets) (omega (arith, size)));
      malformed = λ t. subst LacksItem (sym (whole t)) (lacks_octets header octets head found cut);
    }

-- memory runs out for the octets behind a head; if there are none, the head is the whole item
pub wants_octets : (told : Bool) (old : ℕ) (header left : List ℕ) (head : ItemHead) (len : ℕ) → len ≡ head.len
    → IsHead header head
    → old + 6 ≤ MOST_OCTETS → Wants told old (header ++ left) left
wants_octets told old header left head zero none found few =
    let item : Item = record { kind = head.kind; lane = head.lane; link = head.link; octets = [] } in
    let spelled : header ≡ item_octets item = sym (append-nil header) ∙ spelled_item header [] head found none in (
      item ∷ [],
      [],
      took_one told item old (header ++ left) left (item_is header [] head found none)
          (λ _. ap (λ l. l ++ left) spelled) (omega (arith, ap length spelled, length-head header head found)),
    )
wants_octets told old header left head (suc n) some found few = (
  [],
  header,
  took_part told header old (header ++ left) left (λ _. refl) (omega (arith, length-head header head found))
      (subst LacksItem (append-nil header) (lacks_octets header [] head found (omega (arith, some)))),
)

-- a record with its octets
pub reads_record : (told : Bool) (old new : ℕ) (header octets left_old left_new : List ℕ) (head : ItemHead)
    (kind : RecordKind)
    → IsHead header head → head.kind ≡ Recorded kind → length octets ≡ head.len
    → (IsTrue told → left_old ≡ octets ++ left_new)
    → new ≡ old + 6 + length octets → new ≤ MOST_OCTETS
    → ReadsItem told old new (header ++ left_old) left_new (reads.Next kind head.lane head.link octets)
reads_record told old new header octets left_old left_new head kind found is same moved counted few =
    let item : ItemKind → Item = λ (k : ItemKind). record {
      kind = k;
      lane = head.lane;
      link = head.link;
      octets = octets;
    } in
    let spelled : header ++ octets ≡ item_octets (item (Recorded kind)) =
    spelled_item header octets head found same ∙ ap (λ k. item_octets (item k)) is in
    let size : length (item_octets (item (Recorded kind))) ≡ 6 + length octets =
    omega (arith, ap length spelled, length-append header octets, length-head header head found) in (
      took_one told (item (Recorded kind)) old (header ++ left_old) left_new
          (subst (λ (k : ItemKind). IsItem (item k)) is (item_is header octets head found same))
          (λ t. ap (λ l. header ++ l) (moved t) ∙ sym (append_assoc header octets left_new)
          ∙ ap (λ l. l ++ left_new) spelled)
          (omega (arith, size, counted)),
      omega (arith, size, counted),
    )

ends_from : (told : Bool) (old before new : ℕ) (left_old front left_new : List ℕ) (end : SegmentEnd)
    → before ≡ old → (IsTrue told → left_old ≡ front)
    → EndsNext told before new front left_new end → EndsNext told old new left_old left_new end
ends_from told old before new left_old front left_new More same e ends = record {
  close = ends.close;
  closes = ends.closes;
  took = took_from told ends.close [] old before left_old front left_new same e ends.took;
  counted = omega (arith, ends.counted, same);
}
ends_from told old before new left_old front left_new (ends_as.Monitor task) same e none = absurd none
ends_from told old before new left_old front left_new End same e (few, took, ended) = (
  few,
  took_from told [] [] old before left_old front left_new same e took,
  subst (λ (n : ℕ). IsTrue told → still_counted (n + 0) left_new ≡ []) same ended,
)
ends_from told old before new left_old front left_new (Malformed offset) same e (few, breaks) = (
  few,
  record {
    part = breaks.part;
    took = took_from told [] breaks.part old before left_old front left_new same e breaks.took;
    offset_is = omega (arith, breaks.offset_is, same);
    some = breaks.some;
    malformed = breaks.malformed;
  },
)
ends_from told old before new left_old front left_new (SourceFault faults) same e (few, stopped) =
    (few, (stopped.0, took_from told [] stopped.0 old before left_old front left_new same e stopped.1))

-- what was read, from the octets that were left before the header
pub read_from : (told : Bool) (old before new : ℕ) (left_old front left_new : List ℕ) (read : Read) → before ≡ old
    → (IsTrue told → left_old ≡ front) → ReadsItem told before new front left_new read
    → ReadsItem told old new left_old left_new read
read_from told old before new left_old front left_new (reads.Next kind lane link octets) same e (took, counted) =
    let item : Item = record { kind = Recorded kind; lane = lane; link = link; octets = octets } in
    (took_from told (item ∷ []) [] old before left_old front left_new same e took, omega (arith, counted, same))
read_from told old before new left_old front left_new (reads.Ends end) same e found =
    ends_from told old before new left_old front left_new end same e found

pub wants_from : (told : Bool) (old before : ℕ) (left_old front left_new : List ℕ) → before ≡ old
    → (IsTrue told → left_old ≡ front) → Wants told before front left_new → Wants told old left_old left_new
wants_from told old before left_old front left_new same e (items, part, took) =
    (items, part, took_from told items part old before left_old front left_new same e took)

pub take_whole : (n : ℕ) (xs : List ℕ) → n ≡ length xs → take n xs ≡ xs
take_whole n xs e = ap (λ k. take k xs) e ∙ grind (arith, common_steps)

-- one record more
pub items_of-push : (records : List Record) (r : Record)
    → items_of (records ++ r ∷ []) ≡ items_of records ++ item_of r ∷ []
items_of-push [] r = refl
items_of-push (x ∷ records) r = ap (λ l. item_of x ∷ l) (items_of-push records r)

pub AreNumbered-push : (n : ℕ) (records : List Record) (r : Record) → AreNumbered n records
    → r.index ≡ n + length records
    → AreNumbered n (records ++ r ∷ [])
AreNumbered-push n [] r numbered index = (omega (arith, index), tt)
AreNumbered-push n (x ∷ records) r (here, numbered) index =
    (here, AreNumbered-push (n + 1) records r numbered (omega (arith, index)))

-- what ends a segment, behind records that were read before
pub ends_after : (told : Bool) (count : ℕ) (items : List Item) (old mid new : ℕ) (left_old left_mid left_new : List ℕ)
    (end : SegmentEnd)
    → Took told items [] old left_old left_mid → mid ≡ old + length (items_octets items) → count < SEGMENT_RECORDS
    → EndsNext told mid new left_mid left_new end → EndsBehind told count items old new left_old left_new end
ends_after told count items old mid new left_old left_mid left_new More first counted few ends = record {
  close = ends.close;
  closes = ⊎_elim (λ fence. inl (few, fence.1, fence.2, fence.3)) (λ full. absurd (omega (arith, full.0))) ends.closes;
  took = took_more told items ends.close [] old mid left_old left_mid left_new first counted ends.took;
  counted = omega (
    arith,
    ends.counted,
    counted,
    ap length (items_octets-append items ends.close),
    length-append (items_octets items) (items_octets ends.close),
  );
}
ends_after told count items old mid new left_old left_mid left_new (ends_as.Monitor task) first counted few none =
    absurd none
ends_after told count items old mid new left_old left_mid left_new End first counted few (_, took, ended) = (
  few,
  subst (λ (l : List Item). Took told l [] old left_old left_new) (append-nil items)
      (took_more told items [] [] old mid left_old left_mid left_new first counted took),
  let place : mid + 0 ≡ old + length (items_octets items) = omega (arith, counted) in
      subst (λ (n : ℕ). IsTrue told → still_counted n left_new ≡ []) place ended,
)
ends_after told count items old mid new left_old left_mid left_new (Malformed offset) first counted few (_, breaks) = (
  few,
  record {
    part = breaks.part;
    took = subst (λ (l : List Item). Took told l breaks.part old left_old left_new) (append-nil items)
        (took_more told items [] breaks.part old mid left_old left_mid left_new first counted breaks.took);
    offset_is = omega (arith, breaks.offset_is, counted);
    some = breaks.some;
    malformed = breaks.malformed;
  },
)
ends_after told count items old mid new left_old left_mid left_new (SourceFault faults) first counted few (_, stopped) = (
  few,
  (
    stopped.0,
    subst (λ (l : List Item). Took told l stopped.0 old left_old left_new) (append-nil items)
        (took_more told items [] stopped.0 old mid left_old left_mid left_new first counted stopped.1),
  ),
)

pub wants_after : (told : Bool) (items : List Item) (old mid : ℕ) (left_old left_mid left_new : List ℕ)
    → Took told items [] old left_old left_mid → mid ≡ old + length (items_octets items)
    → Wants told mid left_mid left_new → Wants told old left_old left_new
wants_after told items old mid left_old left_mid left_new first counted (more, part, took) =
    (items ++ more, part, took_more told items more part old mid left_old left_mid left_new first counted took)

pub on_err : {T E : Type 0} (result : Result T E) (P : Type 0) → P → OnErr result P
on_err (Ok x) P p = tt
on_err (Err e) P p = p

-- fewer octets than a head has
pub breaks_in_head : (told : Bool) (old new : ℕ) (part left_old left_new : List ℕ) (count offset : ℕ) → offset ≡ old
    → length part ≡ count → 0 < count → count < 6 → (IsTrue told → left_old ≡ part ++ left_new) → new ≡ old + count
    → new ≤ MOST_OCTETS
    → (IsTrue told → still_counted new left_new ≡ []) → Breaks told [] old left_old left_new offset
breaks_in_head told old new part left_old left_new count offset at size some short moved counted few ended =
    let place : offset + length part ≡ new = omega (arith, at, size, counted) in
    let whole : IsTrue told → part ++ still_counted (offset + length part) left_new ≡ part =
    λ t. ap (λ n. part ++ still_counted n left_new) place ∙ ap (λ l. part ++ l) (ended t) ∙ append-nil part in
    record {
      part = part;
      took = took_part told part old left_old left_new moved (omega (arith, size, counted))
          (lacks_short part (omega (arith, size)));
      offset_is = omega (arith, at);
      some = λ t. subst (λ (l : List ℕ). l ≢ []) (sym (whole t)) (not_empty part (omega (arith, size)));
      malformed = λ t. subst LacksItem (sym (whole t)) (lacks_short part (omega (arith, size)));
    }

-- the records that were taken, and one more
pub took_record : (told : Bool) (records more : List Record) (r : Record) (old mid : ℕ)
    (left_old left_mid left_new : List ℕ)
    → more ≡ records ++ r ∷ [] → Took told (items_of records) [] old left_old left_mid
    → mid ≡ old + length (items_octets (items_of records))
    → Took told (item_of r ∷ []) [] mid left_mid left_new → Took told (items_of more) [] old left_old left_new
took_record told records more r old mid left_old left_mid left_new pushed first counted second =
    subst (λ (items : List Item). Took told items [] old left_old left_new)
    (sym (ap items_of pushed ∙ items_of-push records r))
    (took_more told (items_of records) (item_of r ∷ []) [] old mid left_old left_mid left_new first counted second)

pub length-record : (records more : List Record) (r : Record) → more ≡ records ++ r ∷ []
    → length (items_octets (items_of more)) ≡ length (items_octets (items_of records))
    + length (item_octets (item_of r))
length-record records more r pushed =
    let e : items_octets (items_of more) ≡ items_octets (items_of records) ++ (item_octets (item_of r) ++ []) =
    ap (λ (l : List Record). items_octets (items_of l)) pushed ∙ ap items_octets (items_of-push records r)
    ∙ items_octets-append (items_of records) (item_of r ∷ []) in
    omega (
      arith,
      ap length e,
      length-append (items_octets (items_of records)) (item_octets (item_of r) ++ []),
      ap length (append-nil (item_octets (item_of r))),
    )

-- no Monitor record is what stands next
no_task : (told : Bool) (old new : ℕ) (left_old left_new : List ℕ) (end : SegmentEnd)
    → EndsNext told old new left_old left_new end → task_at end ≡ []
no_task told old new left_old left_new More ends = refl
no_task told old new left_old left_new (ends_as.Monitor task) ends = absurd ends
no_task told old new left_old left_new End ends = refl
no_task told old new left_old left_new (Malformed offset) ends = refl
no_task told old new left_old left_new (SourceFault faults) ends = refl

module _ (told : Bool) (old mid new : Standing) (left_old left_mid left_new : List ℕ) (records : List Record) where
  -- what stands next ends the segment
  pub ends_segment : (end : SegmentEnd) → All (λ (r : Record). r.kind ≢ Monitor) records
      → AreNumbered old.records records
      → mid.records ≡ old.records + length records → Took told (items_of records) [] old.taken left_old left_mid
      → mid.taken ≡ old.taken + length (items_octets (items_of records)) → length records < SEGMENT_RECORDS
      → EndsNext told mid.taken new.taken left_mid left_new end → new.records ≡ mid.records
      → Segment told old new left_old left_new records end
  ends_segment end plain numbered counted took taken few ends same =
      let none : records ++ task_at end ≡ records =
      ap (λ (l : List Record). records ++ l) (no_task told mid.taken new.taken left_mid left_new end ends)
      ∙ append-nil records in
      record {
        plain = plain;
        numbered = subst (AreNumbered old.records) (sym none) numbered;
        counted = omega (arith, same, counted, ap length none);
        ends = ends_after told (length records) (items_of records) old.taken mid.taken new.taken left_old left_mid
            left_new end took taken few ends;
      }

  -- a Monitor record was read, which ends it
  pub task_segment : (task : Record) → All (λ (r : Record). r.kind ≢ Monitor) records → AreNumbered old.records records
      → mid.records ≡ old.records + length records → Took told (items_of records) [] old.taken left_old left_mid
      → mid.taken ≡ old.taken + length (items_octets (items_of records)) → length records < SEGMENT_RECORDS
      → task.kind ≡ Monitor → task.index ≡ mid.records → new.records ≡ mid.records + 1
      → Took told (item_of task ∷ []) [] mid.taken left_mid left_new
      → new.taken ≡ mid.taken + length (item_octets (item_of task))
      → Segment told old new left_old left_new records (ends_as.Monitor task)
  task_segment task plain numbered counted took taken few monitor index more one octets =
      let whole : items_octets (item_of task ∷ []) ≡ item_octets (item_of task) =
      append-nil (item_octets (item_of task)) in
      let both : items_octets (items_of records ++ item_of task ∷ []) ≡ items_octets (items_of records)
      ++ items_octets (item_of task ∷ []) =
      items_octets-append (items_of records) (item_of task ∷ []) in
      record {
        plain = plain;
        numbered = AreNumbered-push old.records records task numbered (omega (arith, index, counted));
        counted = omega (arith, more, counted, length-append records (task ∷ []));
        ends = (
          few,
          record {
            is_monitor = monitor;
            took = took_more told (items_of records) (item_of task ∷ []) [] old.taken mid.taken left_old left_mid
                left_new took taken one;
            counted = omega (
              arith,
              octets,
              taken,
              ap length both,
              ap length whole,
              length-append (items_octets (items_of records)) (items_octets (item_of task ∷ [])),
            );
          },
        );
      }
