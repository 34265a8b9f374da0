-- Numbers and segments of items one after the other, for `next_segment`.
use Rattle.std.proofs.Common.{◌≡◌, ◌≢◌, ℕ, ◌+◌, ◌<◌, Bool, true, false, List, [], ◌∷◌, ◌++◌, length, refl, sym, ◌∙◌, ap}
use Rattle.std.proofs.Common.{subst, inl, inr, arith, append_assoc}
use Rattle.std.specs.Prelude.{◌==◌, if◌then◌else◌}
use Rattle.std.specs.List.{All}
use Rattle.std.proofs.lemmas.List.{append-nil}
use Rattle.std.proofs.lemmas.List.Elements.{All-head, All-tail}
use Rattle.std.proofs.lemmas.Bool.Decides.{nat_tests}
use Rattle.record_io.specs.declared.reader.ItemKind.{ItemKind}
use Rattle.record_io.specs.declared.reader.ItemKind.TheVariants.{Recorded}
use Rattle.record_io.specs.declared.reader.RecordKind.{RecordKind}
use Rattle.record_io.specs.declared.reader.RecordKind.TheVariants.{Protect, Open, Command, Monitor}
use Rattle.record_io.specs.declared.item_cursor.Record.{Record}
use Rattle.record_io.specs.Input.{Item}
use Rattle.record_io.specs.Places.{Place, Count, behind, behind_record, counted, places_at, places_from, records_of}
use Rattle.record_io.specs.Steps.{items_of, AreNumbered, ClosesSegment}
use Rattle.record_io.specs.declared.reader.TheConstants.{SEGMENT_RECORDS}

pub counted-append : (c : Count) (xs ys : List Item) → counted c (xs ++ ys) ≡ counted (counted c xs) ys
counted-append c [] ys = refl
counted-append c (item ∷ xs) ys = counted-append (behind c item.kind) xs ys

pub places-append : (c : Count) (xs ys : List Item)
    → places_from c (xs ++ ys) ≡ places_from c xs ++ places_from (counted c xs) ys
places-append c [] ys = refl
places-append c (item ∷ xs) ys =
    ap (λ (l : List Place). places_at c item item.kind ++ l) (places-append (behind c item.kind) xs ys)
    ∙ sym (append_assoc (places_at c item item.kind) (places_from (behind c item.kind) xs)
    (places_from (counted (behind c item.kind) xs) ys))

-- behind a record that is not the segment's last, and behind its last
goes_on : (c : Count) → c.inside + 1 < SEGMENT_RECORDS
    → behind_record c ≡ record { index = c.index + 1; segment = c.segment; inside = c.inside + 1 }
goes_on c few =
    let test : (c.inside + 1 == SEGMENT_RECORDS) ≡ false = grind (arith, nat_tests) in
    ap (λ (b : Bool). if b then record { index = c.index + 1; segment = c.segment + 1; inside = 0 }
    else record { index = c.index + 1; segment = c.segment; inside = c.inside + 1 }) test

ends_at : (c : Count) → c.inside + 1 ≡ SEGMENT_RECORDS
    → behind_record c ≡ record { index = c.index + 1; segment = c.segment + 1; inside = 0 }
ends_at c full =
    let test : (c.inside + 1 == SEGMENT_RECORDS) ≡ true = grind (arith, nat_tests) in
    ap (λ (b : Bool). if b then record { index = c.index + 1; segment = c.segment + 1; inside = 0 }
    else record { index = c.index + 1; segment = c.segment; inside = c.inside + 1 }) test

either : (b : Bool) (c d : Count) (n : ℕ) → c.index ≡ n → d.index ≡ n
    → (let e : Count = if b then c else d in e.index) ≡ n
either true c d n e f = e
either false c d n e f = f

-- behind a record that is no Monitor record
plain_behind : (c : Count) (kind : RecordKind) → kind ≢ Monitor → behind c (Recorded kind) ≡ behind_record c
plain_behind c Protect plain = refl
plain_behind c Open plain = refl
plain_behind c Command plain = refl
plain_behind c Monitor plain = absurd (plain refl)

-- a record counts, of whatever kind
record_index : (c : Count) → (behind_record c).index ≡ c.index + 1
record_index c =
    either (c.inside + 1 == SEGMENT_RECORDS) (record { index = c.index + 1; segment = c.segment + 1; inside = 0 })
    (record { index = c.index + 1; segment = c.segment; inside = c.inside + 1 }) (c.index + 1) refl refl

next_index : (c : Count) (kind : RecordKind) → (behind c (Recorded kind)).index ≡ c.index + 1
next_index c Protect = record_index c
next_index c Open = record_index c
next_index c Command = record_index c
next_index c Monitor = refl

same_count : (c : Count) (i s n : ℕ) → c.index ≡ i → c.segment ≡ s → c.inside ≡ n
    → c ≡ record { index = i; segment = s; inside = n }
same_count c i s n e f g =
    ap (λ (k : ℕ). record { index = k; segment = c.segment; inside = c.inside }) e
    ∙ ap (λ (k : ℕ). record { index = i; segment = k; inside = c.inside }) f
    ∙ ap (λ (k : ℕ). record { index = i; segment = s; inside = k }) g

-- records that do not fill a segment
pub counted_some : (records : List Record) (c : Count) → All (λ (r : Record). r.kind ≢ Monitor) records
    → c.inside + length records < SEGMENT_RECORDS
    → counted c (items_of records) ≡ record {
      index = c.index + length records;
      segment = c.segment;
      inside = c.inside + length records;
    }
counted_some [] c plain few = same_count c (c.index + 0) c.segment (c.inside + 0) (omega arith) refl (omega arith)
counted_some (r ∷ records) c plain few =
    let next : Count = record { index = c.index + 1; segment = c.segment; inside = c.inside + 1 } in
    ap (λ (d : Count). counted d (items_of records))
    (plain_behind c r.kind (All-head (λ (r : Record). r.kind ≢ Monitor) r records plain) ∙ goes_on c (omega arith))
    ∙ counted_some records next (All-tail (λ (r : Record). r.kind ≢ Monitor) r records plain) (omega arith)
    ∙ same_count (record {
      index = next.index + length records;
      segment = c.segment;
      inside = next.inside + length records;
    })
    (c.index + length (r ∷ records)) c.segment (c.inside + length (r ∷ records)) (omega arith) refl (omega arith)

-- records that fill a segment
pub counted_full : (records : List Record) (c : Count) → All (λ (r : Record). r.kind ≢ Monitor) records
    → c.inside + length records ≡ SEGMENT_RECORDS → 0 < length records
    → counted c (items_of records) ≡ record { index = c.index + length records; segment = c.segment + 1; inside = 0 }
counted_full [] c plain full some = absurd (omega arith)
counted_full (r ∷ []) c plain full some =
    plain_behind c r.kind (All-head (λ (r : Record). r.kind ≢ Monitor) r [] plain)
    ∙ ends_at c (omega arith)
    ∙ same_count (record { index = c.index + 1; segment = c.segment + 1; inside = 0 }) (c.index + 1) (c.segment + 1) 0
    refl refl refl
counted_full (r ∷ (s ∷ records)) c plain full some =
    let next : Count = record { index = c.index + 1; segment = c.segment; inside = c.inside + 1 } in
    ap (λ (d : Count). counted d (items_of (s ∷ records)))
    (plain_behind c r.kind (All-head (λ (r : Record). r.kind ≢ Monitor) r (s ∷ records) plain)
    ∙ goes_on c (omega arith))
    ∙ counted_full (s ∷ records) next (All-tail (λ (r : Record). r.kind ≢ Monitor) r (s ∷ records) plain) (omega arith)
    (omega arith)
    ∙ same_count (record { index = next.index + length (s ∷ records); segment = c.segment + 1; inside = 0 })
    (c.index + length (r ∷ (s ∷ records))) (c.segment + 1) 0 (omega arith) refl refl

-- the items of records that are numbered on are these records again
pub same_records : (records : List Record) (c : Count) → AreNumbered c.index records
    → records_of (places_from c (items_of records)) ≡ records
same_records [] c numbered = refl
same_records (r ∷ records) c (here, numbered) =
    let d : Count = behind c (Recorded r.kind) in
    let number : AreNumbered d.index records =
    subst (λ (n : ℕ). AreNumbered n records) (sym (next_index c r.kind)) numbered in
    ap (λ (n : ℕ). record { index = n; kind = r.kind; lane = r.lane; link = r.link; octets = r.octets }
    ∷ records_of (places_from d (items_of records))) (sym here)
    ∙ ap (λ (l : List Record). r ∷ l) (same_records records d number)

-- records that are numbered on: a front of them, and those behind it
pub numbered_front : (n : ℕ) (records more : List Record) → AreNumbered n (records ++ more) → AreNumbered n records
numbered_front n [] more numbered = tt
numbered_front n (r ∷ records) more (here, numbered) = (here, numbered_front (n + 1) records more numbered)

pub numbered_behind : (n : ℕ) (records more : List Record) → AreNumbered n (records ++ more)
    → AreNumbered (n + length records) more
numbered_behind n [] more numbered = subst (λ (k : ℕ). AreNumbered k more) (omega arith) numbered
numbered_behind n (r ∷ records) more (here, numbered) =
    subst (λ (k : ℕ). AreNumbered k more) (let e : n + 1 + length records ≡ n + length (r ∷ records) = omega arith in e)
    (numbered_behind (n + 1) records more numbered)

-- what closes a segment has no record
pub closing : (records : List Record) (close : List Item) (c : Count) → All (λ (r : Record). r.kind ≢ Monitor) records
    → c.inside ≡ 0 → ClosesSegment (length records) close
    → counted c (items_of records ++ close) ≡ record {
      index = c.index + length records;
      segment = c.segment + 1;
      inside = 0;
    }
closing records close c plain start (inl (few, item, fence, only)) =
    let some : counted c (items_of records) ≡ record {
      index = c.index + length records;
      segment = c.segment;
      inside = c.inside + length records;
    } =
    counted_some records c plain (omega (arith, start)) in
    ap (λ (l : List Item). counted c (items_of records ++ l)) only
    ∙ counted-append c (items_of records) (item ∷ [])
    ∙ ap (λ (d : Count). behind d item.kind) some
    ∙ ap (λ (k : ItemKind).
    behind (record { index = c.index + length records; segment = c.segment; inside = c.inside + length records }) k)
    fence
closing records close c plain start (inr (full, none)) =
    ap (λ (l : List Item). counted c (items_of records ++ l)) none
    ∙ ap (λ (l : List Item). counted c l) (append-nil (items_of records))
    ∙ counted_full records c plain (omega (arith, start, full)) (omega (arith, full))

pub no_more_records : (records : List Record) (close : List Item) (c : Count) → ClosesSegment (length records) close
    → AreNumbered c.index records → records_of (places_from c (items_of records ++ close)) ≡ records
no_more_records records close c (inl (few, item, fence, only)) numbered =
    let d : Count = counted c (items_of records) in
    let none : places_from d close ≡ [] =
    ap (λ (l : List Item). places_from d l) only ∙ ap (λ (k : ItemKind). places_at d item k ++ []) fence in
    ap records_of (places-append c (items_of records) close
    ∙ ap (λ (l : List Place). places_from c (items_of records) ++ l) none
    ∙ append-nil (places_from c (items_of records)))
    ∙ same_records records c numbered
no_more_records records close c (inr (full, none)) numbered =
    ap (λ (l : List Item). records_of (places_from c l))
    (ap (λ (l : List Item). items_of records ++ l) none ∙ append-nil (items_of records))
    ∙ same_records records c numbered
