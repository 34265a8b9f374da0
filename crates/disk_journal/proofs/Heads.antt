-- The head of a bank, as it is written.
use Rattle.std.proofs.Common.{◌≡◌, ℕ, ◌+◌, ◌∙◌, List, ◌∷◌, [], ap, subst, Result, Ok, Err}
use Rattle.std.specs.Result.{OnOk}
use Rattle.byteorder.specs.Endian.{big_bytes}
use Rattle.sdls_outside.specs.Moments.{Trace}
use Rattle.sdls_outside.specs.Site.{Writes, overwritten}
use Rattle.disk_journal.specs.Changes.{filled, with_gate}
use Rattle.disk_journal.specs.declared.layout.TheConstants.{CONTENT_AT, GENERATION_AT, GENERATION_LENGTH, OPEN}

-- the generation, then the content
pub head_written : {T E : Type 0} → (result : Result T E) (old : List ℕ) (mid new : Trace) (bank generation : ℕ)
    (number text : List ℕ)
    → mid.now.image ≡ overwritten old (bank + GENERATION_AT) number → number ≡ big_bytes GENERATION_LENGTH generation
    → Writes (bank + CONTENT_AT) text result mid new → OnOk result (new.now.image ≡ filled bank generation text old)
head_written (Ok value) old mid new bank generation number text one is two =
    two.1 ∙ ap (λ (image : List ℕ). overwritten image (bank + CONTENT_AT) text)
    (one ∙ ap (λ (octets : List ℕ). overwritten old (bank + GENERATION_AT) octets) is)
head_written (Err error) old mid new bank generation number text one is two = tt

-- an open gate before them
pub bank_written : {T E : Type 0} → (result : Result T E) (old mid new : List ℕ) (bank generation : ℕ) (text : List ℕ)
    → mid ≡ overwritten old bank (OPEN ∷ []) → OnOk result (new ≡ filled bank generation text mid)
    → OnOk result (new ≡ filled bank generation text (with_gate OPEN bank old))
bank_written result old mid new bank generation text gate head =
    subst (λ (image : List ℕ). OnOk result (new ≡ filled bank generation text image)) gate head
