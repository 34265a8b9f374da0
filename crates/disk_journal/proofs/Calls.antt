-- What calls on a site come to.
use Rattle.std.proofs.Common.{◌≡◌, ℕ, ◌≤◌, nat_lt, false, sym, subst, arith, Result, Ok, Err}
use Rattle.std.specs.Result.{OnOk}
use Rattle.std.proofs.lemmas.Bool.Decides.{nat_tests}
use Rattle.sdls_outside.specs.Moments.{Trace}
use Rattle.sdls_outside.specs.Site.{Synced}
use Rattle.disk_journal.specs.declared.layout.TheConstants.{HEADER_LENGTH}

-- a run begun, a sync, and reads behind it
pub synced_between : (old first mid new : Trace) → first ≡ old → Synced first mid → new ≡ mid → Synced old new
synced_between old first mid new begun synced read =
    subst (λ (trace : Trace). Synced old trace) (sym read) (subst (λ (trace : Trace). Synced trace mid) begun synced)

pub on_ok_so : {T E : Type 0} → (result : Result T E) (P : Type 0) → P → OnOk result P
on_ok_so (Ok value) P holds = holds
on_ok_so (Err error) P holds = tt

pub short_test : (size : ℕ) → HEADER_LENGTH ≤ size → nat_lt size HEADER_LENGTH ≡ false
short_test size whole = grind (arith, nat_tests)
