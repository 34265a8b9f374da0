-- Permits to open: they are true where the book gives them, stay true, and open frames in the book of their epoch.
use Rattle.std.proofs.Common.{◌≡◌, inl, inr, ℕ, Bool, Option, Some, None, sym, ap, subst, ◌∙◌, arith}
use Rattle.std.specs.Prelude.{IsSomeAnd}
use Rattle.unit_plan.specs.PlanLines.{PlanLines}
use Rattle.unit_state.specs.declared.state.State.{State}
use Rattle.unit_state.proofs.StateLaws.{serves_alike}
use Rattle.frame_checks.specs.Trying.{IsOpener}
use Rattle.frame_checks.proofs.Alike.{opener_stays}
use Rattle.counter_table.specs.declared.view.Known.{Known}
use Rattle.counter_table.specs.declared.view.Opening.{Opening}
use Rattle.counter_table.specs.declared.view.Turn.{Turn}
use Rattle.counter_table.specs.Known.{Earlier, IsSparing}
use Rattle.counter_table.specs.Turn.{epoch_seen, taking}
use Rattle.counter_table.specs.Play.{Follows}
use Rattle.unit_book.specs.Book.{BookView, IsKept}
use Rattle.unit_book.specs.Epoch.{epoch_state}
use Rattle.unit_book.proofs.KeptLaws.{kept_still, kept_changes}
use Rattle.shared_unit.specs.declared.permit.OpenPermit.{OpenPermit}
use Rattle.shared_unit.specs.Opening.{IsNewOrKept, IsOpenTrueFor, IsOpenTrueIfKept, IsPermitOf, OpensInBook}
use Rattle.shared_unit.specs.Told.{known_of_book, state_at}
use Rattle.shared_unit.specs.Turn.{KnowsMoreOfBook, TakesOnce}
use Rattle.shared_unit.proofs.Epochs.{state_at_stays, epochs_longer}
use Rattle.shared_unit.proofs.Steps.{takes_grows}

pub open_stays : (p : OpenPermit) (v w : Turn) → KnowsMoreOfBook v w → IsOpenTrueFor p v → IsOpenTrueFor p w
open_stays p v w grows is =
    let more = grows.earlier.log in
    let same : state_at w.known p.epoch ≡ state_at v.known p.epoch =
    state_at_stays v.known w.known more.0 p.epoch grows.opening more.1 is.reached in
    let plan : w.known.opening.plan ≡ v.known.opening.plan = ap (λ (o : Opening). o.plan) grows.opening in
    record {
      seen = (let a = is.seen in let b = grows.epoch in omega arith);
      reached = (let a = is.reached in let b = epochs_longer v.known w.known more.0 more.1 in omega arith);
      opener = subst (λ (l : PlanLines). IsOpener l (state_at w.known p.epoch) p.opener) (sym plan)
          (subst (λ (s : State). IsOpener v.known.opening.plan s p.opener) (sym same) is.opener);
    }

-- in the book that was found, where it is still in the permit's epoch
opens_in_epoch : (told : Bool) (p : OpenPermit) (v : Turn) (book : BookView) → Follows v (known_of_book book)
    → IsKept told book
    → IsOpenTrueFor p v → book.changes ≡ p.epoch → IsOpener book.plan book.state p.opener
opens_in_epoch told p v book follows kept is epoch =
    let more = follows.earlier.log in
    let k : Known = known_of_book book in
    let same : state_at k p.epoch ≡ state_at v.known p.epoch =
    state_at_stays v.known k more.0 p.epoch follows.opening more.1 is.reached in
    let plan : book.plan ≡ v.known.opening.plan = ap (λ (o : Opening). o.plan) follows.opening in
    let then : IsOpener book.plan (state_at k p.epoch) p.opener =
    subst (λ (l : PlanLines). IsOpener l (state_at k p.epoch) p.opener) (sym plan)
    (subst (λ (s : State). IsOpener v.known.opening.plan s p.opener) (sym same) is.opener) in
    let still_same = sym (kept_still told book kept) in
    opener_stays book.plan (epoch_state book) book.state p.opener
    (serves_alike (epoch_state book) book.state still_same) still_same
    (subst (λ (n : ℕ). IsOpener book.plan (state_at k n) p.opener) (sym epoch) then)

pub opens_found : (told : Bool) (o : Option OpenPermit) (v : Turn) (book : BookView) → Follows v (known_of_book book)
    → IsKept told book
    → IsOpenTrueIfKept o v → OpensInBook o book
opens_found told None v book follows kept is = tt
opens_found told (Some p) v book follows kept is = opens_in_epoch told p v book follows kept is

-- a permit of the book is true for the worker that found the book so
permit_of_book : (told : Bool) (p : OpenPermit) (found : BookView) (given : Known) (v w : Turn) → IsPermitOf p found
    → IsKept told found
    → TakesOnce (known_of_book found) given v w → IsOpenTrueFor p w
permit_of_book told p found given v w is kept s =
    let k : Known = known_of_book found in
    let same = kept_still told found kept in
    open_stays p (taking k v) w (record {
      earlier = subst (λ (t : Turn). Earlier k t.known) (sym s.turn) s.earlier;
      sparing = subst (λ (t : Turn). IsSparing k t.known) (sym s.turn) s.sparing;
      opening = ap (λ (t : Turn). t.known.opening) s.turn ∙ s.opening;
      epoch = (let e = ap epoch_seen s.turn in let b = s.earlier.changes in omega arith);
    })
    (record {
      seen = (let e = is.epoch in omega arith);
      reached = (let e = is.epoch in let b = kept_changes told found kept in omega arith);
      opener = subst (λ (n : ℕ). IsOpener found.plan (state_at k n) p.opener) (sym is.epoch)
          (opener_stays found.plan found.state (epoch_state found) p.opener
          (serves_alike found.state (epoch_state found) same) same is.opener);
    })

new_true : (told : Bool) (new : Option OpenPermit) (found : BookView) (given : Known) (v w : Turn)
    → IsSomeAnd new (λ p. IsPermitOf p found) → IsKept told found → TakesOnce (known_of_book found) given v w
    → IsOpenTrueIfKept new w
new_true told None found given v w is kept s = tt
new_true told (Some p) found given v w is kept s = permit_of_book told p found given v w is kept s

kept_true : (o : Option OpenPermit) (found given : Known) (v w : Turn) → TakesOnce found given v w
    → IsOpenTrueIfKept o v → IsOpenTrueIfKept o w
kept_true None found given v w s is = tt
kept_true (Some p) found given v w s is = open_stays p v w (takes_grows found given v w s) is

-- what is kept after a call that took the turn once
pub true_after : (told : Bool) (old new : Option OpenPermit) (found : BookView) (given : Known) (v w : Turn)
    → IsNewOrKept old new found → IsKept told found → TakesOnce (known_of_book found) given v w → IsOpenTrueIfKept old v
    → IsOpenTrueIfKept new w
true_after told old new found given v w (inl same) kept s is =
    subst (λ (o : Option OpenPermit). IsOpenTrueIfKept o w) (sym same)
    (kept_true old (known_of_book found) given v w s is)
true_after told old new found given v w (inr renewed) kept s is = new_true told new found given v w renewed kept s
