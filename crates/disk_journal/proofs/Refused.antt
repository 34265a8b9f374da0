-- An image that is refused by its length or by its header, before its banks are looked at.
use Rattle.std.proofs.Common.{◌≡◌, ℕ, ◌<◌, ◌≤◌, ◌++◌, ◌∙◌, nat_lt, true, List, length, Some, subst, arith}
use Rattle.disk_journal.specs.Fault.{banks_part, gates_part, header_checks, image_fault}
use Rattle.disk_journal.proofs.Calls.{short_test}
use Rattle.disk_journal.proofs.Failing.{failed_append, failed_first, passed_first}
use Rattle.disk_journal.specs.Header.{header_of}
use Rattle.disk_journal.specs.declared.layout.TheConstants.{HEADER_LENGTH}
use Rattle.sdls_base.specs.FirstFailing.{Check, first_failing}
use Rattle.std.proofs.lemmas.Bool.Decides.{nat_tests}

abbrev of_header : List ℕ → List (Check ℕ)
of_header image = header_checks (header_of image) (length image)

short_image : (size : ℕ) → size < HEADER_LENGTH → nat_lt size HEADER_LENGTH ≡ true
short_image size short = grind (arith, nat_tests)

-- an image without a whole header
pub short_verdict : (image : List ℕ) → length image < HEADER_LENGTH → image_fault image ≡ Some 0
unfolding image_fault
short_verdict image short = failed_first (nat_lt (length image) HEADER_LENGTH) 0
    (of_header image ++ (banks_part image ++ gates_part image))
    (short_image (length image) short)

-- a header that fails a check
pub header_verdict : (image octets : List ℕ) (size offset : ℕ) → size ≡ length image → HEADER_LENGTH ≤ size
    → octets ≡ header_of image
    → first_failing (header_checks octets size) ≡ Some offset → image_fault image ≡ Some offset
unfolding image_fault
header_verdict image octets size offset sized whole same failed =
    let here : first_failing (of_header image) ≡ Some offset =
    subst (λ (n : ℕ). first_failing (header_checks (header_of image) n) ≡ Some offset) sized
    (subst (λ (header : List ℕ). first_failing (header_checks header size) ≡ Some offset) same failed) in
    let long : HEADER_LENGTH ≤ length image = omega arith in
    passed_first (nat_lt (length image) HEADER_LENGTH) 0 (of_header image ++ (banks_part image ++ gates_part image))
    (short_test (length image) long)
    ∙ failed_append (of_header image) (banks_part image ++ gates_part image) offset here
