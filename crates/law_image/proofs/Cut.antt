-- What a crash leaves of an image whose header's gate was being written: for `cut_beginning`.
use Rattle.std.proofs.Common.{◌≡◌, ◌≢◌, ◌⊎◌, ◌==◌, ℕ, zero, suc, false, List, length, get_or, Some, refl, sym, ◌∙◌, inl}
use Rattle.std.proofs.Common.{inr, arith}
use Rattle.std.proofs.lemmas.Bool.{cases_eq, cases_lt, ne_eqb}
use Rattle.std.proofs.lemmas.List.{ext_get_or, get_or-take}
use Rattle.sdls_base.specs.FirstFailing.{first_failing}
use Rattle.disk_journal.specs.declared.layout.TheConstants.{HEADER_LENGTH, OPEN}
use Rattle.disk_journal.specs.Moments.{AllBut}
use Rattle.disk_journal.specs.Header.{header_of}
use Rattle.disk_journal.specs.Fault.{header_checks, image_fault}
use Rattle.disk_journal.specs.declared.layout.HeaderForm.TheVariants.{New}
use Rattle.disk_journal.specs.Initial.{created_image, rest_image}
use Rattle.disk_journal.proofs.Refused.{header_verdict, short_verdict}

gate_first : (header : List ℕ) (size : ℕ) → get_or header 0 0 ≢ OPEN
    → first_failing (header_checks header size) ≡ Some 0
gate_first header size shut = let is : (get_or header 0 0 == OPEN) ≡ false = ne_eqb (get_or header 0 0) OPEN shut in
    rw is refl

shut_fails : (image : List ℕ) → get_or image 0 0 ≢ OPEN → image_fault image ≡ Some 0
shut_fails image shut = elim (cases_lt (length image) HEADER_LENGTH) [
  | inl short ↦ short_verdict image short
  | inr whole ↦
      header_verdict image (header_of image) (length image) 0 refl whole refl
      (gate_first (header_of image) (length image)
      (λ is. shut (sym (get_or-take HEADER_LENGTH image 0 0 (omega arith)) ∙ is)))
]

opens_first : (plan : List ℕ) (slots : ℕ) (text : List ℕ) → get_or (created_image New plan slots text) 0 0 ≡ OPEN
unfolding rest_image
opens_first plan slots text = refl

same_octets : (whole image : List ℕ) → AllBut 0 1 whole image → get_or image 0 0 ≡ get_or whole 0 0 → image ≡ whole
same_octets whole image change first = ext_get_or 0 image whole change.same_length (λ i below. at i)
  where
    at : (i : ℕ) → get_or image i 0 ≡ get_or whole i 0
    at zero = first
    at (suc i) = change.outside (suc i) (inr (omega arith))

pub whole_or_refused : (plan : List ℕ) (slots : ℕ) (text image : List ℕ)
    → AllBut 0 1 (created_image New plan slots text) image
    → (image_fault image ≡ Some 0) ⊎ (image ≡ created_image New plan slots text)
whole_or_refused plan slots text image change = elim (cases_eq (get_or image 0 0) OPEN) [
  | inl is ↦ inr (same_octets (created_image New plan slots text) image change (is ∙ sym (opens_first plan slots text)))
  | inr shut ↦ inl (shut_fails image shut)
]
