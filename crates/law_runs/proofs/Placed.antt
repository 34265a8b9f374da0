-- Records of an input in their order, with their answers: for the loop of a run.
use Rattle.std.proofs.Common.{◌≡◌, ℕ, suc, zero, ◌+◌, ◌<◌, ◌≤◌, ◌==◌, eqb, List, [], ◌∷◌, ◌++◌, length, Bool, true}
use Rattle.std.proofs.Common.{false, refl, ◌∙◌, ap, arith, cond}
use Rattle.std.specs.List.{All, AllPairs, slice_index_or}
use Rattle.std.proofs.lemmas.Bool.Decides.{nat_tests}
use Rattle.std.proofs.lemmas.List.Kept.{AllPairs-cons}
use Rattle.record_io.specs.declared.answers.Answer.{Answer}
use Rattle.record_io.specs.declared.reader.ItemKind.{ItemKind}
use Rattle.record_io.specs.declared.reader.ItemKind.TheVariants.{Fence, Recorded}
use Rattle.record_io.specs.declared.item_cursor.Record.{Record}
use Rattle.record_io.specs.Input.{Item}
use Rattle.record_io.specs.Places.{Place, Count, behind, places_at, places_from, records_of}
use Rattle.law_workers.specs.Work.{indexed}
use Rattle.run_promise.specs.Deed.{Deed, deed_of}
use Rattle.law_workers.specs.Deeds.{deeds_of}
use Rattle.run_promise.specs.Account.{deeds_from}
use Rattle.law_runs.proofs.Segments.{are_placed, behind_record_counts}

-- ---- the numbers ascend

abbrev pub IsBefore : Place → Place → Type 0
IsBefore one other = one.task.index < other.task.index

pub places_ascend : (c : Count) (items : List Item) → AllPairs IsBefore (places_from c items)
places_ascend c [] i j d lt low = absurd (omega arith)
places_ascend c (item ∷ items) i j d lt low = go item.kind (places_ascend (behind c item.kind) items) i j d lt low
  where
    go : (kind : ItemKind) → AllPairs IsBefore (places_from (behind c kind) items)
        → AllPairs IsBefore (places_at c item kind ++ places_from (behind c kind) items)
    go Fence rest = rest
    go (Recorded kind) rest = AllPairs-cons IsBefore _ (places_from (behind c (Recorded kind)) items)
        (λ k d low. let h = (are_placed (behind c (Recorded kind)) items k d low).index_low in
        let a = behind_record_counts c kind in omega arith) rest

-- none of the records has a number below them all
none_indexed : (i : ℕ) (places : List Place) → All (λ (place : Place). i < place.task.index) places
    → indexed i (records_of places) ≡ 0
none_indexed i [] above = refl
none_indexed i (place ∷ places) above =
    let h = none_indexed i places (λ k d low. above (suc k) d (omega arith)) in
    let a : i < place.task.index = above zero place (omega arith) in
    let f : eqb place.task.index i ≡ false = grind (arith, nat_tests) in
    go (eqb place.task.index i) f h
  where
    go : (b : Bool) → b ≡ false → indexed i (records_of places) ≡ 0 → cond b 1 0 + indexed i (records_of places) ≡ 0
    go false is h = omega arith
    go true is h = absurd (let t : true ≡ false = is in cc)

pub indexed_once : (i : ℕ) (places : List Place) → AllPairs IsBefore places → indexed i (records_of places) ≤ 1
indexed_once i [] up = omega arith
indexed_once i (place ∷ places) up =
    go (eqb place.task.index i) refl
    (indexed_once i places (λ j k d lt low. up (suc j) (suc k) d (omega arith) (omega arith)))
  where
    go : (b : Bool) → eqb place.task.index i ≡ b → indexed i (records_of places) ≤ 1
        → cond b 1 0 + indexed i (records_of places) ≤ 1
    go false is h = omega arith
    go true is h =
        let same : place.task.index ≡ i = grind (arith, nat_tests) in
        let none = none_indexed i places (λ k d low. let l : place.task.index < (slice_index_or places k d).task.index =
        up zero (suc k) d (omega arith) (omega arith) in omega arith) in
        omega arith

-- ---- lanes and segments by the numbers

abbrev pub lane_at : List Place → ℕ → ℕ
lane_at [] index = 0
lane_at (place ∷ places) index = cond (place.task.index == index) place.task.lane (lane_at places index)

abbrev pub segment_at : List Place → ℕ → ℕ
segment_at [] index = 0
segment_at (place ∷ places) index = cond (place.task.index == index) place.segment (segment_at places index)

pub lane_there : (places : List Place) → AllPairs IsBefore places → (k : ℕ) (d : Place) → k < length places
    → lane_at places (slice_index_or places k d).task.index ≡ (slice_index_or places k d).task.lane
lane_there [] up k d low = absurd (omega arith)
lane_there (place ∷ places) up zero d low =
    let t : eqb place.task.index place.task.index ≡ true = grind (arith, nat_tests) in
    ap (λ (b : Bool). cond b place.task.lane (lane_at places place.task.index)) t
lane_there (place ∷ places) up (suc k) d low =
    let l : place.task.index < (slice_index_or places k d).task.index = up zero (suc k) d (omega arith) low in
    let f : eqb place.task.index (slice_index_or places k d).task.index ≡ false = grind (arith, nat_tests) in
    ap (λ (b : Bool). cond b place.task.lane (lane_at places (slice_index_or places k d).task.index)) f
    ∙ lane_there places (λ i j e lt inside. up (suc i) (suc j) e (omega arith) (omega arith)) k d (omega arith)

pub segment_there : (places : List Place) → AllPairs IsBefore places → (k : ℕ) (d : Place) → k < length places
    → segment_at places (slice_index_or places k d).task.index ≡ (slice_index_or places k d).segment
segment_there [] up k d low = absurd (omega arith)
segment_there (place ∷ places) up zero d low =
    let t : eqb place.task.index place.task.index ≡ true = grind (arith, nat_tests) in
    ap (λ (b : Bool). cond b place.segment (segment_at places place.task.index)) t
segment_there (place ∷ places) up (suc k) d low =
    let l : place.task.index < (slice_index_or places k d).task.index = up zero (suc k) d (omega arith) low in
    let f : eqb place.task.index (slice_index_or places k d).task.index ≡ false = grind (arith, nat_tests) in
    ap (λ (b : Bool). cond b place.segment (segment_at places (slice_index_or places k d).task.index)) f
    ∙ segment_there places (λ i j e lt inside. up (suc i) (suc j) e (omega arith) (omega arith)) k d (omega arith)

-- ---- records with their answers

pub records_both : (a b : List Place) → records_of (a ++ b) ≡ records_of a ++ records_of b
records_both [] b = refl
records_both (place ∷ a) b = ap (λ (l : List Record). place.task ∷ l) (records_both a b)

pub records_length : (places : List Place) → length (records_of places) ≡ length places
records_length [] = refl
records_length (place ∷ places) = let h = records_length places in omega arith

pub deeds_both : (a b : List Place) (xs ys : List Answer) → length xs ≡ length a
    → deeds_from (a ++ b) (xs ++ ys) ≡ deeds_from a xs ++ deeds_from b ys
deeds_both [] b [] ys same = refl
deeds_both [] b (x ∷ xs) ys same = absurd (omega arith)
deeds_both (place ∷ a) b [] ys same = absurd (omega arith)
deeds_both (place ∷ a) b (x ∷ xs) ys same =
    ap (λ (l : List Deed). deed_of place.segment place.task x ∷ l) (deeds_both a b xs ys (omega arith))

-- of one segment
pub deeds_of_segment : (number : ℕ) (places : List Place) (answers : List Answer)
    → All (λ (place : Place). place.segment ≡ number) places
    → deeds_from places answers ≡ deeds_of number (records_of places) answers
deeds_of_segment number [] answers of = refl
deeds_of_segment number (place ∷ places) [] of = refl
deeds_of_segment number (place ∷ places) (answer ∷ answers) of =
    ap (λ (n : ℕ). deed_of n place.task answer ∷ deeds_from places answers) (of zero place (omega arith))
    ∙ ap (λ (l : List Deed). deed_of number place.task answer ∷ l)
    (deeds_of_segment number places answers (λ k d low. of (suc k) d (omega arith)))

-- what holds of the records holds of the answered ones
pub deeds_all : (P : Record → Type 0) (places : List Place) (answers : List Answer)
    → All (λ (place : Place). P place.task) places
    → All (λ (deed : Deed). P deed.task) (deeds_from places answers)
deeds_all P [] answers all k d low = absurd (omega arith)
deeds_all P (place ∷ places) [] all k d low = absurd (omega arith)
deeds_all P (place ∷ places) (answer ∷ answers) all zero d low = all zero place (omega arith)
deeds_all P (place ∷ places) (answer ∷ answers) all (suc k) d low =
    deeds_all P places answers (λ j e inside. all (suc j) e (omega arith)) k d (omega arith)

-- what holds of each answer holds of the answer of each record
pub answers_all : (P : Answer → Type 0) (places : List Place) (answers : List Answer) → All P answers
    → All (λ (deed : Deed). P deed.answer) (deeds_from places answers)
answers_all P [] answers all k d low = absurd (omega arith)
answers_all P (place ∷ places) [] all k d low = absurd (omega arith)
answers_all P (place ∷ places) (answer ∷ answers) all zero d low = all zero answer (omega arith)
answers_all P (place ∷ places) (answer ∷ answers) all (suc k) d low =
    answers_all P places answers (λ j e inside. all (suc j) e (omega arith)) k d (omega arith)

pub deeds_ascend : (places : List Place) (answers : List Answer) → AllPairs IsBefore places
    → AllPairs (λ (one other : Deed). one.task.index < other.task.index) (deeds_from places answers)
deeds_ascend [] answers up i j d lt low = absurd (omega arith)
deeds_ascend (place ∷ places) [] up i j d lt low = absurd (omega arith)
deeds_ascend (place ∷ places) (answer ∷ answers) up i j d lt low =
    AllPairs-cons (λ (one other : Deed). one.task.index < other.task.index) (deed_of place.segment place.task answer)
    (deeds_from places answers)
    (deeds_all (λ (task : Record). place.task.index < task.index) places answers
    (λ k d low. up zero (suc k) d (omega arith) (omega arith)))
    (deeds_ascend places answers (λ i j d lt low. up (suc i) (suc j) d (omega arith) (omega arith))) i j d lt low
