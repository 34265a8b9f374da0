-- Why an opening fails, seen from an earlier moment, and what it leaves: for `inspect`, `show` and `open`.
use Rattle.std.proofs.Common.{◌≡◌, ℕ, List, ap, sym, subst, inl, inr}
use Rattle.std.specs.Prelude.{Result, Ok, Err}
use Rattle.sdls_outside.specs.Moments.{Trace}
use Rattle.disk_journal.specs.Moments.{OnlySyncs}
use Rattle.unit_image.specs.declared.opening_image.OpenFault.{OpenFault}
use Rattle.unit_image.specs.declared.opening_image.OpenFault.TheVariants.{SiteFault, Image, NoMemory}
use Rattle.unit_state.specs.declared.state.State.{State}
use Rattle.disk_journal.specs.declared.layout.JournalFault.{JournalFault}
use Rattle.disk_journal.specs.declared.layout.JournalFault.TheVariants as journal_faults
use Rattle.disk_journal.specs.Journal.{IsCause}
use Rattle.unit_image.specs.Shows.{Shows, ShowsNone}
use Rattle.unit_image.specs.OpeningImage.{HasOpenFault, LeavesShown, ShowsUnlessFailed, as_open_fault}

-- a refusal for a cause is one for each cause that follows from it
with_cause : {T : Type 0} (before now : ℕ) (one other : ℕ → Type 0) (result : Result T OpenFault)
    → ((offset : ℕ) → one offset → other offset) → HasOpenFault before now one result
    → HasOpenFault before now other result
with_cause before now one other (Ok it) follows has =
    record { later = has.later; stood = has.stood; cause = tt; calm = tt }
with_cause before now one other (Err (SiteFault count)) follows has =
    record { later = has.later; stood = tt; cause = has.cause; calm = tt }
with_cause before now one other (Err (Image offset)) follows has =
    record { later = has.later; stood = tt; cause = follows offset has.cause; calm = has.calm }
with_cause before now one other (Err NoMemory) follows has =
    record { later = has.later; stood = tt; cause = tt; calm = has.calm }

-- the count of faults stood between two moments, so the later one's faults are the earlier one's
pub fault_from : {T : Type 0} (before mid now : ℕ) (one other : ℕ → Type 0) (result : Result T OpenFault)
    → mid ≡ before → ((offset : ℕ) → one offset → other offset) → HasOpenFault mid now one result
    → HasOpenFault before now other result
fault_from before mid now one other result stood follows has =
    subst (λ (n : ℕ). HasOpenFault n now other result) stood (with_cause mid now one other result follows has)

-- syncs leave the image
pub same_image : (old new : Trace) → OnlySyncs old new → new.now.image ≡ old.now.image
same_image old new (inl same) = ap (λ (it : Trace). it.now.image) same
same_image old new (inr synced) = synced.image

shown_still : (image : List ℕ) (state : State) (fault : OpenFault) → Shows image state
    → ShowsUnlessFailed image state fault
shown_still image state (SiteFault count) shows = tt
shown_still image state (Image offset) shows = shows
shown_still image state NoMemory shows = shows

-- nothing was written
pub left_by_syncs : (old new : Trace) (fault : OpenFault) → OnlySyncs old new → LeavesShown old new fault
left_by_syncs old new fault syncs = record {
  none = λ offset none. syncs;
  stands = λ state shows. shown_still new.now.image state fault
      (subst (λ (image : List ℕ). Shows image state) (sym (same_image old new syncs)) shows);
}

-- the image shows a state, and the site failed
pub left_by_fault : ((image : List ℕ) (state : State) (offset : ℕ) → Shows image state → ShowsNone image offset → ⊥)
    → (old new : Trace) (state : State) (before now : ℕ) (fault : JournalFault) → Shows old.now.image state
    → IsCause before now (λ (offset : ℕ). ⊥) fault → LeavesShown old new (as_open_fault fault)
left_by_fault never old new state before now (journal_faults.SiteFault count) shows cause = record {
  none = λ offset none. absurd (never old.now.image state offset shows none);
  stands = λ other other_shows. tt;
}
left_by_fault never old new state before now (journal_faults.Image offset) shows cause = absurd cause

-- the image shows the state that it showed
pub left_shown : ((image : List ℕ) (one other : State) → Shows image one → Shows image other → one ≡ other)
    → ((image : List ℕ) (state : State) (offset : ℕ) → Shows image state → ShowsNone image offset → ⊥)
    → (old new : Trace) (start : State) (fault : OpenFault) → Shows old.now.image start → Shows new.now.image start
    → LeavesShown old new fault
left_shown once never old new start fault before after = record {
  none = λ offset none. absurd (never old.now.image start offset before none);
  stands = λ state shows. shown_still new.now.image state fault
      (subst (Shows new.now.image) (once old.now.image start state before shows) after);
}
