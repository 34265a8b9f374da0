-- A list of fields, taken from its front.
use Rattle.std.proofs.Common.{◌≡◌, ℕ, ◌+◌, ◌-◌, ◌≤◌, List, [], ◌∷◌, ◌++◌, length, get_or, take, drop, None, sym, ap}
use Rattle.std.proofs.Common.{◌∙◌, arith}
use Rattle.std.specs.Prelude.{not}
use Rattle.std.specs.Int.{w16, from_be_bytes, is_in_range}
use Rattle.std.proofs.lemmas.List.{take_all, append_assoc}
use Rattle.sdls_base.specs.declared.states.KeyState.{KeyState}
use Rattle.sdls_base.specs.FirstFailing.{first_failing}
use Rattle.sdls_base.specs.Code.{key_state_of}
use Rattle.ep_codec.specs.Field.{is_key}
use Rattle.ep_codec.specs.FieldList.{keys_in, key_checks, rows_in, row_checks}
use Rattle.ep_codec.proofs.Faults.{passed}

-- what stands behind the first octets
abbrev pub behind : ℕ → List ℕ → List ℕ
behind n rest = take (length rest - n) (drop n rest)

two : (rest : List ℕ) → 2 ≤ length rest → rest ≡ get_or rest 0 0 ∷ get_or rest 1 0 ∷ behind 2 rest
two [] h = absurd (omega arith)
two (a ∷ []) h = absurd (omega arith)
two (a ∷ b ∷ rest) h = ap (λ (s : List ℕ). a ∷ b ∷ s) (sym (take_all (length (a ∷ b ∷ rest) - 2) rest (omega arith)))

three : (rest : List ℕ) → 3 ≤ length rest → rest ≡ get_or rest 0 0 ∷ get_or rest 1 0 ∷ get_or rest 2 0 ∷ behind 3 rest
three [] h = absurd (omega arith)
three (a ∷ []) h = absurd (omega arith)
three (a ∷ b ∷ []) h = absurd (omega arith)
three (a ∷ b ∷ c ∷ rest) h =
    ap (λ (s : List ℕ). a ∷ b ∷ c ∷ s) (sym (take_all (length (a ∷ b ∷ c ∷ rest) - 3) rest (omega arith)))

abbrev pub word_of : List ℕ → ℕ
word_of rest = from_be_bytes w16 (get_or rest 0 0 ∷ get_or rest 1 0 ∷ [])

pub behind_two : (rest : List ℕ) → 2 ≤ length rest → length rest ≡ 2 + length (behind 2 rest)
behind_two rest h = omega (arith, ap length (two rest h))

pub behind_three : (rest : List ℕ) → 3 ≤ length rest → length rest ≡ 3 + length (behind 3 rest)
behind_three rest h = omega (arith, ap length (three rest h))

pub keys_faults : (at : ℕ) (rest : List ℕ) → 2 ≤ length rest → first_failing ((not (is_key (word_of rest)), at) ∷ [])
    ≡ None
    → first_failing (key_checks (at + 2) (behind 2 rest)) ≡ first_failing (key_checks at rest)
keys_faults at rest h none =
    sym (ap (λ (s : List ℕ). first_failing (key_checks at s)) (two rest h) ∙ passed (not (is_key (word_of rest)), at)
    (key_checks (at + 2) (behind 2 rest)) none)

pub keys_read : (keys : List ℕ) (rest : List ℕ) → 2 ≤ length rest
    → (keys ++ word_of rest ∷ []) ++ keys_in (behind 2 rest) ≡ keys ++ keys_in rest
keys_read keys rest h = append_assoc keys (word_of rest ∷ []) (keys_in (behind 2 rest))
    ∙ ap (λ (s : List ℕ). keys ++ keys_in s) (sym (two rest h))

pub rows_faults : (at : ℕ) (rest : List ℕ) → 3 ≤ length rest → first_failing ((not (is_key (word_of rest)), at) ∷ [])
    ≡ None
    → first_failing ((not (is_in_range 1 4 (get_or rest 2 0)), at + 2) ∷ []) ≡ None
    → first_failing (row_checks (at + 3) (behind 3 rest)) ≡ first_failing (row_checks at rest)
rows_faults at rest h key state =
    let last = row_checks (at + 3) (behind 3 rest) in
    sym (ap (λ (s : List ℕ). first_failing (row_checks at s)) (three rest h)
    ∙ passed (not (is_key (word_of rest)), at) ((not (is_in_range 1 4 (get_or rest 2 0)), at + 2) ∷ last) key
    ∙ passed (not (is_in_range 1 4 (get_or rest 2 0)), at + 2) last state)

pub rows_read : (rows : List (ℕ × KeyState)) (rest : List ℕ) → 3 ≤ length rest
    → (rows ++ (word_of rest, key_state_of (get_or rest 2 0)) ∷ []) ++ rows_in (behind 3 rest) ≡ rows ++ rows_in rest
rows_read rows rest h =
    append_assoc rows ((word_of rest, key_state_of (get_or rest 2 0)) ∷ []) (rows_in (behind 3 rest))
    ∙ ap (λ (s : List ℕ). rows ++ rows_in s) (sym (three rest h))
