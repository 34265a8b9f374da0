-- The first part of a list, and the others.
use Rattle.std.proofs.Common.{◌≡◌, ◌≢◌, ℕ, zero, suc, ◌+◌, ◌-◌, ◌<◌, ◌≤◌, List, [], ◌∷◌, length, take, drop, get_or}
use Rattle.std.proofs.Common.{refl, ap, Option, Some, None, unwrap_or, arith, eq-eqb, inl, inr}
use Rattle.std.proofs.lemmas.Bool.{ne_eqb, cases_eq}
use Rattle.std.proofs.lemmas.Grind.{common_steps}
use Rattle.std.specs.List.{onto_first}
use denote.Ref.{Bor}
use Rattle.unit_plan.specs.Field.{items_of, items_left}
use Rattle.unit_plan.specs.Lines.{parts, lines_of, words_of, words_left, IsCut}

-- with no mark, a list that is not empty is one part, where the empty list after it counts for nothing
pub whole_part : (mark : ℕ) (xs : List ℕ) → 0 < length xs
    → ((k : ℕ) → k < length xs → get_or xs k 0 ≢ mark) → parts mark [] xs ≡ xs ∷ []
whole_part mark [] some lacks = absurd (omega arith)
whole_part mark (x ∷ []) some lacks = rw (ne_eqb x mark (lacks 0 (omega arith))) refl
whole_part mark (x ∷ y ∷ ys) some lacks =
    rw (ne_eqb x mark (lacks 0 (omega arith)))
    (ap (onto_first x) (whole_part mark (y ∷ ys) (omega arith) (λ k below. lacks (suc k) (omega arith))))

-- the same where it counts as a part
pub whole_word : (mark : ℕ) (xs : List ℕ)
    → ((k : ℕ) → k < length xs → get_or xs k 0 ≢ mark) → parts mark ([] ∷ []) xs ≡ xs ∷ []
whole_word mark [] lacks = refl
whole_word mark (x ∷ xs) lacks =
    rw (ne_eqb x mark (lacks 0 (omega arith)))
    (ap (onto_first x) (whole_word mark xs (λ k below. lacks (suc k) (omega arith))))

-- the first part ends at the first mark
pub first_part : (mark : ℕ) (last : List (List ℕ)) (xs : List ℕ) (at : ℕ) → at < length xs
    → ((k : ℕ) → k < at → get_or xs k 0 ≢ mark) → get_or xs at 0 ≡ mark
    → parts mark last xs ≡ take at xs ∷ parts mark last (drop (suc at) xs)
first_part mark last [] at inside lacks found = absurd (omega arith)
first_part mark last (x ∷ xs) zero inside lacks found = rw (found, eq-eqb mark mark refl) refl
first_part mark last (x ∷ xs) (suc at) inside lacks found =
    rw (ne_eqb x mark (lacks 0 (omega arith)))
    (ap (onto_first x) (first_part mark last xs at (omega arith) (λ k below. lacks (suc k) (omega arith)) found))

-- a text that is cut at its first line feed
pub first_line : (text line : List ℕ) (after : Option (Bor (List ℕ))) (empty : Bor (List ℕ))
    → IsCut 10 text line after → 0 < length text → empty.now ≡ []
    → lines_of text ≡ line ∷ lines_of (unwrap_or after empty).now
first_line text line None empty cut some is_empty = rw (is_empty, cut.0) (whole_part 10 text some cut.1)
first_line text line (Some rest) empty cut some is_empty = cut []

-- a line that is cut at its first space
pub first_word : (line word : List ℕ) (after : Option (Bor (List ℕ)))
    → IsCut 32 line word after → words_of line ≡ word ∷ words_left after
first_word line word None cut = rw cut.0 (whole_word 32 line cut.1)
first_word line word (Some rest) cut = cut ([] ∷ [])

-- a list that is cut at its first comma
pub first_item : (list item : List ℕ) (after : Option (Bor (List ℕ))) → IsCut 44 list item after
    → items_of list ≡ item ∷ items_left after
first_item list item None cut = rw cut.0 (whole_word 44 list cut.1)
first_item list item (Some rest) cut = cut ([] ∷ [])

-- fewer are left behind the first
pub fewer_left : {X : Type 0} (all : List X) (x : X) (others : List X) → all ≡ x ∷ others → length others < length all
fewer_left all x others is = let counted = ap length is in omega arith

-- the first part, with the rest as code reads it
pub first_part_read : (mark : ℕ) (last : List (List ℕ)) (xs : List ℕ) (at : ℕ) → at < length xs
    → ((k : ℕ) → k < at → get_or xs k 0 ≢ mark) → get_or xs at 0 ≡ mark
    → parts mark last xs ≡ take at xs ∷ parts mark last (take (length xs - (at + 1)) (drop (at + 1) xs))
first_part_read mark last xs at inside lacks found =
    let whole : take (length xs - (at + 1)) (drop (at + 1) xs) ≡ drop (suc at) xs = grind (arith, common_steps) in
    rw whole (first_part mark last xs at inside lacks found)

-- a text has no more lines than octets
onto_few : (x n : ℕ) (ps : List (List ℕ)) → length ps ≤ n → length (onto_first x ps) ≤ n + 1
onto_few x n [] few = omega arith
onto_few x n (p ∷ ps) few = let one : length ((x ∷ p) ∷ ps) ≡ length ps + 1 = grind arith in
    let same : length (p ∷ ps) ≡ length ps + 1 = grind arith in omega arith

pub few_parts : (mark : ℕ) (xs : List ℕ) → length (parts mark [] xs) ≤ length xs
few_parts mark [] = omega arith
few_parts mark (x ∷ xs) = elim (cases_eq x mark) [
  | inl is ↦ rw (is, eq-eqb mark mark refl) (let more = few_parts mark xs in grind arith)
  | inr not ↦ rw (ne_eqb x mark not) (let more = onto_few x (length xs) (parts mark [] xs) (few_parts mark xs) in
      grind arith)
]
