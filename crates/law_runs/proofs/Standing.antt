-- What stands in the image when a run has ended: for `run_ends_well` and `refused_run_ends`.
use Rattle.std.proofs.Common.{◌≡◌, ℕ, ◌≤◌, Bool, IsTrue, List, length, sym, ◌∙◌, ap, subst, inr, arith}
use Rattle.sdls_base.specs.declared.entry.Entry.{Entry}
use Rattle.sdls_outside.specs.Disk.{Leaves}
use Rattle.sdls_outside.specs.Faults.{Rose}
use Rattle.unit_image.specs.Image.{held, IsSettled}
use Rattle.unit_image.specs.declared.opening_image.OpenFault.{OpenFault}
use Rattle.unit_image.specs.declared.opening_image.OpenFault.TheVariants as openings
use Rattle.unit_image.specs.OpeningImage.{IsOpenCause, ShowsUnlessFailed}
use Rattle.unit_image.specs.Shows.{Shows}
use Rattle.unit_state.specs.declared.state.State.{State}
use Rattle.unit_state.specs.Restart.{restarted}
use Rattle.unit_state.specs.History.{after_all}
use Rattle.unit_book.specs.Book.{BookView, IsKept}
use Rattle.run_promise.specs.Call.{SiteSeen, CallSeen, image_at_entry}
use Rattle.run_promise.specs.Log.{entries_of}
use Rattle.run_promise.specs.Sound.{ShowsAfter}
use Rattle.run_promise.specs.Account.{Account}
use Rattle.run_promise.specs.Ends.{StandsAtExit}

-- the book is kept at the exit, over the site that the call leaves
pub kept_stands : (told : Bool) (call : CallSeen) (account : Account) (start : State) (last : BookView) → IsTrue told
    → IsKept told last → call.site_after ≡ last.site → call.entries ≡ entries_of last.log → last.start ≡ start
    → last.opened.faults ≡ call.site.faults → last.image ≡ image_at_entry call → StandsAtExit call account start
kept_stands told call account start last is_told kept site_is entries_are started faults_are read_is = record {
  stands = λ well.
      subst (λ (site : SiteSeen). Shows site.trace.now.image (restarted (after_all start call.entries))) (sym site_is)
      (subst (λ (state : State). Shows last.site.trace.now.image (restarted (after_all state call.entries))) started
      (subst (λ (entries : List Entry). Shows last.site.trace.now.image (restarted (after_all last.start entries)))
      (sym entries_are)
      (kept.current is_told (unrisen well)).shows));
  rests = λ well. inr (
    last.journal,
    subst (λ (site : SiteSeen). IsSettled site.trace last.journal) (sym site_is)
        (kept.current is_told (unrisen well)).settled,
  );
  same_plan = λ well. inr (ap (λ (site : SiteSeen). (held site.trace.now.image).plan) site_is
      ∙ (kept.outside is_told (unrisen well)).same_plan ∙ ap (λ (image : List ℕ). (held image).plan) read_is);
  stored = inr (λ image leaves.
      let (p, low, shows) = (kept.history is_told).shows_now image
      (subst (λ (site : SiteSeen). Leaves site.trace.now image) site_is leaves) in
      let few = kept.few_left in (
        p,
        let size = ap length entries_are in omega arith,
        subst (λ (state : State). ShowsAfter state call.entries p image) started
            (subst (λ (entries : List Entry). ShowsAfter last.start entries p image) (sym entries_are) shows),
      ));
}
  where
    unrisen : (Rose call.site.faults call.site_after.faults → ⊥) → Rose last.opened.faults last.site.faults → ⊥
    unrisen well rose = well (let now = ap (λ (s : SiteSeen). s.faults) site_is in omega arith)

-- the opening failed, and left an image that showed a state so: it shows it still, if the site did not fail
pub shown_unless : (before back after : ℕ) (None : ℕ → Type 0) (image : List ℕ) (state : State) (fault : OpenFault)
    → IsOpenCause before back None fault
    → back ≤ after → (Rose before after → ⊥) → ShowsUnlessFailed image state fault → Shows image state
shown_unless before back after None image state (openings.SiteFault count) cause later well shows =
    absurd (well (let rose = cause.0 in omega arith))
shown_unless before back after None image state (openings.Image offset) cause later well shows = shows
shown_unless before back after None image state openings.NoMemory cause later well shows = shows
