-- What is counted of answers that accept a frame or refuse its number.
use Rattle.std.proofs.Common.{◌≡◌, ◌⊎◌, ℕ, suc, ◌+◌, ◌==◌, ◌<◌, Bool, true, false, cond, List, [], ◌∷◌, length, get_or}
use Rattle.std.proofs.Common.{refl, ◌∙◌, ap, inl, inr, arith}
use Rattle.std.specs.List.{zip}
use Rattle.std.specs.Str.{bytes_eq}
use Rattle.std.proofs.lemmas.Bool.{and_from, and_left, eq-eqb}
use Rattle.std.proofs.lemmas.List.Sums.{sum_by-cons}
use Rattle.record_io.specs.declared.answers.Answer.{Answer}
use Rattle.record_io.specs.declared.code.TheConstants as codes_of
use Rattle.unit_drill.specs.Counting.{count_code, count_given, gives_field}
use Rattle.unit_drill.specs.Frames.{data_field}
use Rattle.unit_drill.proofs.OpenedChunks.{bytes_same}
use Rattle.unit_drill.proofs.SentChunks.{at}

abbrev pub IsJudged : ℕ → Answer → Type 0
IsJudged number answer = ((answer.code ≡ codes_of.ACCEPTED) × (answer.body ≡ data_field number))
    ⊎ (answer.code ≡ codes_of.NUMBER)

-- each is counted once
one_told : (number : ℕ) (answer : Answer) → IsJudged number answer
    → cond {A = ℕ} (gives_field number answer) 1 0 + cond {A = ℕ} (answer.code == codes_of.NUMBER) 1 0 ≡ 1
one_told number answer (inl accepted) =
    let gives : gives_field number answer ≡ true =
    and_from (answer.code == codes_of.ACCEPTED) (bytes_eq answer.body (data_field number))
    (eq-eqb answer.code codes_of.ACCEPTED accepted.0)
    (ap (λ (octets : List ℕ). bytes_eq octets (data_field number)) accepted.1 ∙ bytes_same (data_field number)) in
    let other : (answer.code == codes_of.NUMBER) ≡ false = ap (λ (c : ℕ). c == codes_of.NUMBER) accepted.0 in
    ap (λ (b : Bool). cond {A = ℕ} b 1 0 + cond {A = ℕ} (answer.code == codes_of.NUMBER) 1 0) gives
    ∙ ap (λ (b : Bool). 1 + cond {A = ℕ} b 1 0) other
one_told number answer (inr refused) =
    let gives : gives_field number answer ≡ false =
    and_left (answer.code == codes_of.ACCEPTED) (bytes_eq answer.body (data_field number))
    (ap (λ (c : ℕ). c == codes_of.ACCEPTED) refused) in
    let other : (answer.code == codes_of.NUMBER) ≡ true = eq-eqb answer.code codes_of.NUMBER refused in
    ap (λ (b : Bool). cond {A = ℕ} b 1 0 + cond {A = ℕ} (answer.code == codes_of.NUMBER) 1 0) gives
    ∙ ap (λ (b : Bool). 0 + cond {A = ℕ} b 1 0) other

pub all_told : (numbers : List ℕ) (answers : List Answer) → length answers ≡ length numbers
    → ((j : ℕ) → j < length numbers → IsJudged (get_or numbers j 0) (at answers j))
    → count_given numbers answers + count_code codes_of.NUMBER answers ≡ length numbers
all_told [] [] same each = refl
all_told [] (answer ∷ answers) same each = absurd (omega arith)
all_told (number ∷ numbers) [] same each = absurd (omega arith)
all_told (number ∷ numbers) (answer ∷ answers) same each =
    let here = one_told number answer (each 0 (omega arith)) in
    let rest = all_told numbers answers (omega arith) (λ j low. each (suc j) (omega arith)) in
    let given = sum_by-cons (λ (p : ℕ × Answer). cond (gives_field p.0 p.1) 1 0) (number, answer)
    (zip numbers answers) in
    let refused = sum_by-cons (λ (a : Answer). cond (a.code == codes_of.NUMBER) 1 0) answer answers in omega arith
