-- What was settled stays so in a longer log, and a legal run is one of the same entries.
use Rattle.std.proofs.Common.{◌≡◌, IsTrue, ℕ, ◌+◌, ◌<◌, ◌≤◌, List, [], ◌∷◌, ◌++◌, length, take, Some, sym, ◌∙◌, ap}
use Rattle.std.proofs.Common.{subst, arith, le_trans, length-append}
use Rattle.std.specs.List.{slice_get}
use Rattle.std.proofs.lemmas.List.{take-append-le, take_all}
use Rattle.sdls_base.specs.declared.entry.Entry.{Entry}
use Rattle.sdls_base.specs.declared.entry.Logged.{Logged}
use Rattle.record_io.specs.declared.item_cursor.Record.{Record}
use Rattle.record_io.specs.Answers.{answer_octets}
use Rattle.unit_plan.specs.PlanLines.{PlanLines}
use Rattle.unit_state.specs.declared.state.State.{State}
use Rattle.unit_state.specs.History.{after_all, after_first, epoch_after}
use Rattle.run_promise.specs.Fits.{Course}
use Rattle.run_promise.specs.History.{IsLegal, IsRelease, LegalRun, NearWord, drawers, reserves_of}
use Rattle.run_promise.specs.Log.{entries_of}
use Rattle.run_promise.specs.Call.{Begin}
use Rattle.run_promise.specs.Deed.{Deed, epoch_told, is_ordered}
use Rattle.law_workers.proofs.Histories.{entries_both}
use Rattle.law_workers.proofs.Logs.{entries_low, told_kept}
use Rattle.law_runs.specs.Settled.{AreSettled, AnswerIsSettled}

module _ (old new : Course) (begin_is : new.begin ≡ old.begin) (stored more : ℕ) (fewer : stored ≤ more)
    (log rest : List Logged)
    (old_entries : old.entries ≡ entries_of log) (new_entries : new.entries ≡ entries_of (log ++ rest)) where
  split : new.entries ≡ old.entries ++ entries_of rest
  split = new_entries ∙ entries_both log rest ∙ ap (λ (l : List Entry). l ++ entries_of rest) (sym old_entries)

  settled_one : (at : ℕ) (deed : Deed) → AnswerIsSettled old stored log at deed
      → AnswerIsSettled new more (log ++ rest) at deed
  settled_one at deed h =
      let inside = h.within in
      let lines : take h.lines (log ++ rest) ≡ take h.lines log = take-append-le h.lines log rest inside in
      let size : length (log ++ rest) ≡ length log + length rest = length-append log rest in
      let low : h.entries ≤ length old.entries =
      (let a = entries_low log h.lines (length log) inside in
      let b = ap (λ (l : List Logged). length (entries_of l)) (take_all (length log) log (omega arith)) in
      let c = ap length old_entries in let e = h.low in omega arith) in
      let first : take h.entries new.entries ≡ take h.entries old.entries =
      ap (take h.entries) split ∙ take-append-le h.entries old.entries (entries_of rest) low in
      let state : after_first new.begin.start new.entries h.entries
      ≡ after_first old.begin.start old.entries h.entries =
      ap (λ (b : Begin). after_all b.start (take h.entries new.entries)) begin_is
      ∙ ap (after_all old.begin.start) first in
      record {
        lines = h.lines;
        within = omega arith;
        before = rw lines h.before;
        entries = h.entries;
        low = rw lines h.low;
        is_stored = le_trans h.is_stored fewer;
        covered = record {
          entry = h.covered.entry;
          epoch = λ o. let a = h.covered.epoch (subst (λ (b : Begin). IsTrue (is_ordered b deed)) begin_is o) in
              let same : epoch_told new.entries deed ≡ epoch_told old.entries deed =
              ap (λ (l : List Entry). epoch_told l deed) split
              ∙ told_kept deed.task.kind _ _ deed.answer.position old.entries (entries_of rest)
              (λ e. le_trans (h.covered.entry e) low)
              (subst (λ (b : Begin). IsTrue (is_ordered b deed)) begin_is o) in
              let here : epoch_after (take h.entries new.entries) ≡ epoch_after (take h.entries old.entries) =
              ap epoch_after first in omega arith;
          used = λ k n u. rw state (h.covered.used k n u);
          accepted = λ k n u. rw state (h.covered.accepted k n u);
        };
      }

  pub settled_more : (at : ℕ) (deeds : List Deed) → AreSettled old stored log at deeds
      → AreSettled new more (log ++ rest) at deeds
  settled_more at [] h = tt
  settled_more at (deed ∷ deeds) h =
      (settled_one at deed h.0, settled_more (at + length (answer_octets deed.answer)) deeds h.1)

-- a legal run of these entries is one of the same
abbrev pub moved_run : (plan : PlanLines) (start : State) (records : List Record) (in_turn : ℕ → ℕ → Type 0)
    (es fs : List Entry) → es ≡ fs
    → LegalRun plan start records in_turn es → LegalRun plan start records in_turn fs
moved_run plan start records in_turn es fs same run = record {
  ends = run.ends;
  within = subst (λ (l : List Entry). run.ends ≤ length l) same run.within;
  each = subst (λ (l : List Entry). (p : ℕ) (entry : Entry) → p < run.ends → slice_get l p ≡ Some entry
      → IsLegal (NearWord start l records) plan (after_first start l p) records entry) same run.each;
  releases = subst (λ (l : List Entry). (p : ℕ) (entry : Entry) → run.ends ≤ p → slice_get l p ≡ Some entry
      → IsRelease (NearWord start l records) (after_first start l p) entry) same run.releases;
  once = subst (λ (l : List Entry). (p q : ℕ) (a b : Entry) (index : ℕ) → p < q → slice_get l p ≡ Some a
      → slice_get l q ≡ Some b
      → a.index ≡ Some index → b.index ≡ Some index → ⊥) same run.once;
  few_entries = run.few_entries;
  few_reserves = subst (λ (l : List Entry). reserves_of (take run.ends l) ≤ drawers records) same run.few_reserves;
  in_order = subst (λ (l : List Entry). (p q i j : ℕ) (a b : Entry) → slice_get l p ≡ Some a → slice_get l q ≡ Some b
      → a.index ≡ Some i → b.index ≡ Some j → i < j → in_turn i j → p < q) same run.in_order;
}
