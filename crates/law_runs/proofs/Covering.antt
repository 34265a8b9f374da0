-- What covers an answer covers it to the end of the run, over the releases.
use Rattle.std.proofs.Common.{ℕ, ◌≤◌, List, [], ◌∷◌, take, zero, suc, arith}
use Rattle.std.specs.List.{All}
use Rattle.sdls_base.specs.declared.entry.Entry.{Entry}
use Rattle.record_io.specs.declared.item_cursor.Record.{Record}
use Rattle.unit_state.specs.History.{epoch_after}
use Rattle.run_promise.specs.Answers.{Uses}
use Rattle.run_promise.specs.Fits.{Course}
use Rattle.law_history.specs.Laws.{IsBelowReleases}
use Rattle.law_history.proofs.Along.{OfRun, kept_along, below_along}
use Rattle.run_promise.specs.Deed.{Deed}
use Rattle.law_runs.specs.AtEnd.{StaysCovered}

epochs_rise : (entries : List Entry) (p q : ℕ) → p ≤ q → epoch_after (take p entries) ≤ epoch_after (take q entries)
epochs_rise [] zero zero h = omega arith
epochs_rise [] zero (suc q) h = omega arith
epochs_rise [] (suc p) zero h = omega arith
epochs_rise [] (suc p) (suc q) h = omega arith
epochs_rise (x ∷ entries) zero q h = omega arith
epochs_rise (x ∷ entries) (suc p) zero h = absurd (omega arith)
epochs_rise (x ∷ entries) (suc p) (suc q) h = let r = epochs_rise entries p q (omega arith) in omega arith

module _ (course : Course) (records : List Record) (in_turn : ℕ → ℕ → Type 0)
    (of : OfRun course.begin.plan course.begin.start records in_turn course.entries) where
  -- each number used is to be below each word that a release of its key saw
  pub stays_covered : (deeds : List Deed)
      → All (λ (deed : Deed). (key number : ℕ) → Uses deed.answer key number
      → IsBelowReleases course.entries of.run.ends key number) deeds
      → StaysCovered course deeds
  stays_covered deeds under earlier later low within k deed inside h = record {
    entry = λ t. let a = h.entry t in omega arith;
    epoch = λ o. let a = h.epoch o in let r = epochs_rise course.entries earlier later low in omega arith;
    used = λ key number uses_it. below_along course.begin.plan course.begin.start records in_turn course.entries of
        earlier later key number low within
        (under k deed inside key number uses_it) (h.used key number uses_it);
    accepted = λ key number takes_it. let a = h.accepted key number takes_it in
        let r = kept_along course.begin.plan course.begin.start records in_turn course.entries of earlier later key low
        within in omega arith;
  }
