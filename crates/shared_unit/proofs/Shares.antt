-- No call but a split and a join moves shares.
use Rattle.std.proofs.Common.{◌≡◌, ◌⊎◌, inl, inr, ℕ, ◌≤◌, Bool, List, Option, Result, Ok, Err, ap, ◌∙◌}
use Rattle.sdls_base.specs.declared.entry.Seen.{Seen}
use Rattle.sdls_base.specs.declared.entry.Seen.TheVariants as sights
use Rattle.unit_plan.specs.PlanLines.{PlanLines}
use Rattle.ep_core.specs.declared.judging.Need.{Need}
use Rattle.ep_core.specs.declared.judging.Need.TheVariants as needs
use Rattle.ep_core.specs.declared.refusal.Reply.{Reply}
use Rattle.counter_table.specs.declared.view.Numbers.{Numbers}
use Rattle.counter_table.specs.declared.view.View.{View}
use Rattle.counter_table.specs.Numbers.{top, arming}
use Rattle.unit_book.specs.declared.fault.BookFault.{BookFault}
use Rattle.unit_book.specs.Book.{BookView}
use Rattle.shared_unit.specs.declared.permit.Permit.{Permit}
use Rattle.shared_unit.specs.declared.permit.Protected.{Protected}
use Rattle.shared_unit.specs.declared.permit.Protected.TheVariants as answers
use Rattle.shared_unit.specs.Numbers.{Draws, ComesBack, RunsOut}
use Rattle.shared_unit.specs.Commanding.{Satisfies, IsCommanded}
use Rattle.shared_unit.specs.Protecting.{IsUnder, IsProtectStep}

draws_shares : (row end n : ℕ) (v w : Numbers) → Draws row end n v w → w.shares ≡ v.shares
draws_shares row end n v w d = ap (λ (k : Numbers). k.shares) d.is

comes_shares : (row end n : ℕ) (v w : Numbers) → ComesBack row end n v w → w.shares ≡ v.shares
comes_shares row end n v w b = ap (λ (k : Numbers). k.shares) b.is ∙ draws_shares row end n v b.between b.draws

out_shares : (row end n : ℕ) (v w : Numbers) → RunsOut row end n v w → w.shares ≡ v.shares
out_shares row end n v w o = by_case o.1 where
  by_case : ((top row v.nexts ≤ n) × (w ≡ arming row end n v)) ⊎ Draws row end n v w → w.shares ≡ v.shares
  by_case (inl h) = ap (λ (k : Numbers). k.shares) h.1
  by_case (inr d) = draws_shares row end n v w d

either_shares : (row end n : ℕ) (v w : Numbers) → Draws row end n v w ⊎ ComesBack row end n v w → w.shares ≡ v.shares
either_shares row end n v w (inl d) = draws_shares row end n v w d
either_shares row end n v w (inr b) = comes_shares row end n v w b

module _ (told : Bool) where
  pub kept_shares : (p : Permit) (clear out : List ℕ) (a : Protected) (v w : View) → IsUnder told p clear out a v w
      → w.numbers.shares ≡ v.numbers.shares
  kept_shares p clear out (answers.Done d) v w h = h.0.uses.shares
  kept_shares p clear out answers.Clear v w h = absurd h
  kept_shares p clear out (answers.Refused fault epoch) v w h = ap (λ (k : Numbers). k.shares) h.2
  kept_shares p clear out (answers.Exhausted key n epoch) v w h = out_shares _ _ _ v.numbers w.numbers h.0.3
  kept_shares p clear out (answers.Fault fault position) v w h = either_shares _ _ _ v.numbers w.numbers h.3.2

  pub step_shares : (plan : PlanLines) (link : ℕ) (clear out : List ℕ) (kept : Option Permit) (a : Protected)
      (v w : View)
      → IsProtectStep told plan link clear out kept a v w → w.numbers.shares ≡ v.numbers.shares
  step_shares plan link clear out kept (answers.Done d) v w h = h.3.0.uses.shares
  step_shares plan link clear out kept answers.Clear v w h = ap (λ (k : Numbers). k.shares) h.1
  step_shares plan link clear out kept (answers.Refused fault epoch) v w h = ap (λ (k : Numbers). k.shares) h.1
  step_shares plan link clear out kept (answers.Exhausted key n epoch) v w h =
      out_shares _ _ _ v.numbers w.numbers h.2.0.3
  step_shares plan link clear out kept (answers.Fault fault position) v w h =
      either_shares _ _ _ v.numbers w.numbers h.2.3.2

satisfied_shares : (need : Need) (seen : Seen) (found middle : BookView) (v w : Numbers)
    → Satisfies need seen found middle v w
    → w.shares ≡ v.shares
satisfied_shares needs.Nothing sights.Nothing found middle v w h = ap (λ (k : Numbers). k.shares) h.1
satisfied_shares (needs.Look key) (sights.Word n) found middle v w h = ap (λ (k : Numbers). k.shares) h.1.is
satisfied_shares (needs.Raise key number) (sights.Word n) found middle v w h = ap (λ (k : Numbers). k.shares) h.1.is
satisfied_shares (needs.Number key) (sights.Number n) found middle v w h = h.uses.shares
satisfied_shares (needs.Number key) (sights.Exhausted n) found middle v w h = out_shares _ _ _ v w h.1.out
satisfied_shares need seen found middle v w h = absurd h

pub commanded_shares : (index : ℕ) (pdu : List ℕ) (result : Result (Reply × ℕ) BookFault) (found given : BookView)
    (v w : Numbers)
    → IsCommanded index pdu result found given v w → w.shares ≡ v.shares
commanded_shares index pdu (Ok answer) found given v w h = satisfied_shares h.0 h.1 found h.2 v w h.4
commanded_shares index pdu (Err fault) found given v w (inl h) = ap (λ (k : Numbers). k.shares) h.2
commanded_shares index pdu (Err fault) found given v w (inr (need, is, inl f)) = draws_shares _ _ _ v w f.draws
commanded_shares index pdu (Err fault) found given v w (inr (need, is, inr (seen, middle, s, r))) =
    satisfied_shares need seen found middle v w s
