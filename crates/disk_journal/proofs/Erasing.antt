-- Octets that are zeroed and brought to the disk.
use Rattle.std.proofs.Common.{◌≡◌, ℕ, ◌+◌, ◌≤◌, ◌∙◌, List, length, sym, subst, arith, Result, Ok, Err}
use Rattle.std.specs.Result.{OnOk}
use Rattle.sdls_outside.specs.Disk.{IsSynced}
use Rattle.sdls_outside.specs.Moments.{Trace}
use Rattle.sdls_outside.specs.Site.{Syncs, overwritten}
use Rattle.disk_journal.specs.Changes.{IsErased}
use Rattle.disk_journal.specs.Moments.{AllBut}
use Rattle.disk_journal.specs.Zeros.{zeros}
use Rattle.disk_journal.proofs.Overwriting.{zeroed}
use Rattle.disk_journal.proofs.Ranges.{overwritten_but}
use Rattle.disk_journal.proofs.ZeroLists.{length_zeros}

zeros_but : (image new : List ℕ) (at count : ℕ) → at + count ≤ length image → new ≡ overwritten image at (zeros count)
    → AllBut at count image new
zeros_but image new at count within written =
    let size : length (zeros count) ≡ count = length_zeros count in
    subst (AllBut at count image) (sym written)
    (subst (λ (n : ℕ). AllBut at n image (overwritten image at (zeros count))) size
    (overwritten_but image at (zeros count) (omega arith)))

pub erased : {E : Type 0} → (result : Result (Unit {0}) E) (at count : ℕ) (old mid new : Trace)
    → at + count ≤ length old.now.image → mid.now.image ≡ overwritten old.now.image at (zeros count)
    → Syncs result mid new
    → OnOk result (IsSynced new.now × IsErased at count old.now.image new.now.image)
erased (Ok value) at count old mid new within written synced =
    let filled : new.now.image ≡ overwritten old.now.image at (zeros count) = synced.image ∙ written in (
      synced.is_synced,
      record {
        change = zeros_but old.now.image new.now.image at count within filled;
        zero = (zeroed old.now.image new.now.image at count (omega arith) filled).zero;
      },
    )
erased (Err error) at count old mid new within written synced = tt
