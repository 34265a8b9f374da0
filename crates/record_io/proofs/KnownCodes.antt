-- An octet is a code exactly if it is the octet of one, for `is_code`.
use Rattle.std.proofs.Common.{◌≡◌, ℕ, ◌||◌, if◌then◌else◌, Bool, true, false, List, [], ◌∷◌, map, Some, refl, ◌==◌}
use Rattle.std.specs.Prelude.{find, is_some}
use Rattle.std.specs.List.{list_any}
use Rattle.record_io.specs.declared.code.AnswerCode.{AnswerCode}
use Rattle.record_io.specs.AnswerReading.{is_answer_code}
use Rattle.record_io.specs.Codes.{all_codes, code_at, code_octet}

among : (octet : ℕ) (codes : List AnswerCode)
    → is_some (find (λ code. code_octet code == octet) codes) ≡ list_any (λ known. known == octet)
    (map code_octet codes)
among octet [] = refl
among octet (code ∷ codes) = by_test (code_octet code == octet) (among octet codes)
  where
    by_test : (b : Bool) → is_some (find (λ other. code_octet other == octet) codes)
        ≡ list_any (λ known. known == octet) (map code_octet codes)
        → is_some (if b then Some code else find (λ other. code_octet other == octet) codes)
        ≡ (b || list_any (λ known. known == octet) (map code_octet codes))
    by_test true rest = refl
    by_test false rest = rest

pub is_known : (octet : ℕ) → is_some (code_at octet) ≡ is_answer_code octet
unfolding code_at
is_known octet = among octet all_codes
