-- Which records of an input lie in its first segments, and the numbers that they have: for the loop of a run.
use Rattle.std.proofs.Common.{◌≡◌, ◌≢◌, ◌⊎◌, ℕ, suc, zero, ◌+◌, ◌<◌, ◌≤◌, eqb, nat_lt, List, [], ◌∷◌, ◌++◌, Bool, true}
use Rattle.std.proofs.Common.{false, refl, sym, ◌∙◌, ap, subst, inl, inr, arith, cond}
use Rattle.std.specs.List.{All}
use Rattle.std.proofs.lemmas.Bool.Decides.{nat_tests}
use Rattle.std.proofs.lemmas.List.Elements.{All-append}
use Rattle.record_io.specs.declared.reader.ItemKind.{ItemKind}
use Rattle.record_io.specs.declared.reader.ItemKind.TheVariants.{Fence, Recorded}
use Rattle.record_io.specs.declared.reader.RecordKind.{RecordKind}
use Rattle.record_io.specs.declared.reader.RecordKind.TheVariants.{Protect, Open, Command, Monitor}
use Rattle.record_io.specs.declared.reader.TheConstants.{LANES}
use Rattle.record_io.specs.Input.{Item, IsItem, lanes_of}
use Rattle.record_io.specs.Places.{Place, Count, behind, behind_record, counted, places_at, places_from, segment_of}
use Rattle.record_io.specs.declared.reader.TheConstants.{SEGMENT_RECORDS}
use Rattle.run_promise.specs.Account.{of_first}

-- behind a record
abbrev full_record : Count → Count
full_record c = record { index = c.index + 1; segment = c.segment + 1; inside = 0 }

abbrev next_record : Count → Count
next_record c = record { index = c.index + 1; segment = c.segment; inside = c.inside + 1 }

either_count : (P : Count → Type 0) (b : Bool) (x y : Count) → P x → P y → P (cond b x y)
either_count P true x y p q = p
either_count P false x y p q = q

record_rises : (c : Count) → c.segment ≤ (behind_record c).segment
record_rises c =
    either_count (λ (d : Count). c.segment ≤ d.segment) (eqb (c.inside + 1) SEGMENT_RECORDS) (full_record c)
    (next_record c) (omega arith) (omega arith)

behind_rises : (c : Count) (kind : ItemKind) → c.segment ≤ (behind c kind).segment
behind_rises c Fence = omega arith
behind_rises c (Recorded Protect) = record_rises c
behind_rises c (Recorded Open) = record_rises c
behind_rises c (Recorded Command) = record_rises c
behind_rises c (Recorded Monitor) = omega arith

-- the segment of a record is the one that is on, or the next, and none behind that which is on afterwards
own_low : (c : Count) (kind : RecordKind) → c.segment ≤ segment_of c kind
own_low c Protect = omega arith
own_low c Open = omega arith
own_low c Command = omega arith
own_low c Monitor = omega arith

own_high : (c : Count) (kind : RecordKind) → segment_of c kind ≤ (behind c (Recorded kind)).segment
own_high c Protect = record_rises c
own_high c Open = record_rises c
own_high c Command = record_rises c
own_high c Monitor = omega arith

-- the number of the segment never falls
pub rises : (c : Count) (items : List Item) → c.segment ≤ (counted c items).segment
rises c [] = omega arith
rises c (item ∷ items) = let a = behind_rises c item.kind in let b = rises (behind c item.kind) items in omega arith

record_counts : (c : Count) → c.index + 1 ≤ (behind_record c).index
record_counts c =
    either_count (λ (d : Count). c.index + 1 ≤ d.index) (eqb (c.inside + 1) SEGMENT_RECORDS) (full_record c)
    (next_record c) (omega arith) (omega arith)

-- behind a record its number is taken
pub behind_record_counts : (c : Count) (kind : RecordKind) → c.index + 1 ≤ (behind c (Recorded kind)).index
behind_record_counts c Protect = record_counts c
behind_record_counts c Open = record_counts c
behind_record_counts c Command = record_counts c
behind_record_counts c Monitor = omega arith

behind_counts : (c : Count) (kind : ItemKind) → c.index ≤ (behind c kind).index
behind_counts c Fence = omega arith
behind_counts c (Recorded kind) = let h = behind_record_counts c kind in omega arith

counts_on : (c : Count) (items : List Item) → c.index ≤ (counted c items).index
counts_on c [] = omega arith
counts_on c (item ∷ items) = let a = behind_counts c item.kind in let b = counts_on (behind c item.kind) items in
    omega arith

-- a segment that was begun has ended where a new one begins
record_closes : (c : Count) → (0 < (behind_record c).inside) ⊎ (c.segment < (behind_record c).segment)
record_closes c =
    either_count (λ (d : Count). (0 < d.inside) ⊎ (c.segment < d.segment)) (eqb (c.inside + 1) SEGMENT_RECORDS)
    (full_record c) (next_record c)
    (inr (omega arith)) (inl (omega arith))

behind_closes : (c : Count) (kind : ItemKind) → (0 < (behind c kind).inside) ⊎ (c.segment < (behind c kind).segment)
behind_closes c Fence = inr (omega arith)
behind_closes c (Recorded Protect) = record_closes c
behind_closes c (Recorded Open) = record_closes c
behind_closes c (Recorded Command) = record_closes c
behind_closes c (Recorded Monitor) = inr (omega arith)

closes : (c : Count) (items : List Item) → 0 < c.inside → (counted c items).inside ≡ 0
    → c.segment < (counted c items).segment
closes c [] begun none = absurd (omega arith)
closes c (item ∷ items) begun none = elim (behind_closes c item.kind) [
  | inl on ↦ let a = closes (behind c item.kind) items on none in let b = behind_rises c item.kind in omega arith
  | inr higher ↦ let b = rises (behind c item.kind) items in omega arith
]

-- ---- the first segments

pub first_of : (n : ℕ) (place : Place) (places : List Place) → place.segment < n
    → of_first n (place ∷ places) ≡ place ∷ of_first n places
first_of n place places low =
    let t : nat_lt place.segment n ≡ true = grind (arith, nat_tests) in
    ap (λ (b : Bool). cond b (place ∷ of_first n places) []) t

pub none_of : (n : ℕ) (place : Place) (places : List Place) → n ≤ place.segment → of_first n (place ∷ places) ≡ []
none_of n place places high =
    let t : nat_lt place.segment n ≡ false = grind (arith, nat_tests) in
    ap (λ (b : Bool). cond b (place ∷ of_first n places) []) t

-- no record lies in a segment before the count's
first_none : (n : ℕ) (c : Count) (items : List Item) → n ≤ c.segment → of_first n (places_from c items) ≡ []
first_none n c [] low = refl
first_none n c (item ∷ items) low =
    go item.kind (first_none n (behind c item.kind) items (let a = behind_rises c item.kind in omega arith))
  where
    go : (kind : ItemKind) → of_first n (places_from (behind c kind) items) ≡ []
        → of_first n (places_at c item kind ++ places_from (behind c kind) items) ≡ []
    go Fence none = none
    go (Recorded kind) none = none_of n _ (places_from (behind c (Recorded kind)) items) (let a = own_low c kind in
        omega arith)

-- where items end with a segment, the records of the first segments of a longer input are theirs
pub first_segments : (c : Count) (items more : List Item) → (counted c items).inside ≡ 0
    → of_first (counted c items).segment (places_from c (items ++ more)) ≡ places_from c items
first_segments c [] more closed = first_none c.segment c more (omega arith)
first_segments c (item ∷ items) more closed = go item.kind refl (first_segments (behind c item.kind) items more closed)
  where
    n : ℕ
    n = (counted (behind c item.kind) items).segment

    -- a record that is no Monitor record stands in the segment that is on
    plain_below : (kind : RecordKind) → item.kind ≡ Recorded kind → c.segment < n
    plain_below kind is = elim (behind_closes c item.kind) [
      | inl on ↦ let a = closes (behind c item.kind) items on closed in let b = behind_rises c item.kind in omega arith
      | inr higher ↦ let b = rises (behind c item.kind) items in omega arith
    ]

    below : (kind : RecordKind) → item.kind ≡ Recorded kind → segment_of c kind < n
    below Protect is = plain_below Protect is
    below Open is = plain_below Open is
    below Command is = plain_below Command is
    below Monitor is =
        let a = rises (behind c item.kind) items in
        let b : (behind c item.kind).segment ≡ c.segment + 2 = ap (λ (k : ItemKind). (behind c k).segment) is in
        omega arith

    go : (kind : ItemKind) → item.kind ≡ kind
        → of_first n (places_from (behind c item.kind) (items ++ more)) ≡ places_from (behind c item.kind) items
        → of_first n (places_at c item item.kind ++ places_from (behind c item.kind) (items ++ more))
        ≡ places_at c item item.kind ++ places_from (behind c item.kind) items
    go Fence is rest =
        subst (λ (k : ItemKind). of_first n (places_at c item k ++ places_from (behind c item.kind) (items ++ more))
        ≡ places_at c item k ++ places_from (behind c item.kind) items) (sym is) rest
    go (Recorded kind) is rest =
        subst (λ (k : ItemKind). of_first n (places_at c item k ++ places_from (behind c item.kind) (items ++ more))
        ≡ places_at c item k ++ places_from (behind c item.kind) items) (sym is)
        (first_of n _ (places_from (behind c item.kind) (items ++ more)) (below kind is)
        ∙ ap (λ (l : List Place). places_at c item (Recorded kind) ++ l) rest)

-- ---- numbers, segments and lanes of the records of some items

pub record IsPlacedIn (low high : Count) (place : Place) : Type 0 where
  pub index_low : low.index ≤ place.task.index
  pub index_high : place.task.index < high.index
  pub segment_low : low.segment ≤ place.segment
  pub segment_high : place.segment ≤ high.segment

one_placed : (c high : Count) (item : Item) (kind : ItemKind) → (behind c kind).index ≤ high.index
    → (behind c kind).segment ≤ high.segment
    → All (IsPlacedIn c high) (places_at c item kind)
one_placed c high item Fence index segment k d low = absurd (omega arith)
one_placed c high item (Recorded kind) index segment zero d low =
    let more = behind_record_counts c kind in
    let first = own_low c kind in
    let later = own_high c kind in
    record { index_low = omega arith; index_high = omega arith; segment_low = omega arith; segment_high = omega arith }
one_placed c high item (Recorded kind) index segment (suc k) d low = absurd (omega arith)

pub are_placed : (c : Count) (items : List Item) → All (IsPlacedIn c (counted c items)) (places_from c items)
are_placed c [] k d low = absurd (omega arith)
are_placed c (item ∷ items) k d low =
    All-append (IsPlacedIn c (counted c (item ∷ items))) (places_at c item item.kind)
    (places_from (behind c item.kind) items)
    (one_placed c (counted c (item ∷ items)) item item.kind (counts_on (behind c item.kind) items)
    (rises (behind c item.kind) items))
    (λ k d low.
    let h = are_placed (behind c item.kind) items k d low in
    let a = behind_counts c item.kind in let b = behind_rises c item.kind in
    let x = h.index_low in let y = h.segment_low in
    record {
      index_low = omega arith;
      index_high = h.index_high;
      segment_low = omega arith;
      segment_high = h.segment_high;
    }) k d low

-- a lane is looked at unless the record is a Monitor record
laned : (kind : RecordKind) (lane : ℕ) → lane < lanes_of (Recorded kind) → kind ≢ Monitor → lane < LANES
laned Protect lane few plain = few
laned Open lane few plain = few
laned Command lane few plain = few
laned Monitor lane few plain = absurd (plain refl)

one_lane : (c : Count) (item : Item) (kind : ItemKind) → item.lane < lanes_of kind
    → All (λ (place : Place). place.task.kind ≢ Monitor → place.task.lane < LANES) (places_at c item kind)
one_lane c item Fence few k d low = absurd (omega arith)
one_lane c item (Recorded kind) few zero d low = laned kind item.lane few
one_lane c item (Recorded kind) few (suc k) d low = absurd (omega arith)

pub have_lanes : (c : Count) (items : List Item) → All IsItem items
    → All (λ (place : Place). place.task.kind ≢ Monitor → place.task.lane < LANES) (places_from c items)
have_lanes c [] are k d low = absurd (omega arith)
have_lanes c (item ∷ items) are k d low =
    All-append (λ (place : Place). place.task.kind ≢ Monitor → place.task.lane < LANES) (places_at c item item.kind)
    (places_from (behind c item.kind) items)
    (one_lane c item item.kind (are zero item (omega arith)).lane)
    (have_lanes (behind c item.kind) items (λ k d low. are (suc k) d (omega arith))) k d low
