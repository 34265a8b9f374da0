-- Permits: they are true where the book gives them, and stay true.
use Rattle.std.proofs.Common.{◌≡◌, ℕ, List, Some, sym, ap, subst, ◌∙◌, arith}
use Rattle.key_book.specs.KeyBook.{place_of}
use Rattle.unit_plan.specs.PlanLines.{PlanLines, link_of}
use Rattle.unit_state.specs.declared.state.State.{State}
use Rattle.frame_checks.specs.ProtectingFrames.{channel_check}
use Rattle.counter_table.specs.declared.view.Known.{Known}
use Rattle.counter_table.specs.declared.view.Opening.{Opening}
use Rattle.counter_table.specs.declared.view.Turn.{Turn}
use Rattle.counter_table.specs.Known.{Earlier, IsSparing}
use Rattle.counter_table.specs.Turn.{epoch_seen, taking}
use Rattle.counter_table.specs.Play.{Follows}
use Rattle.run_promise.specs.Log.{entries_of}
use Rattle.unit_book.specs.Book.{BookView}
use Rattle.shared_unit.specs.declared.permit.Permit.{Permit}
use Rattle.shared_unit.specs.declared.permit.PermitReply.{PermitReply}
use Rattle.shared_unit.specs.declared.permit.PermitReply.TheVariants as replies
use Rattle.shared_unit.specs.Told.{known_of_book, state_at}
use Rattle.shared_unit.specs.Turn.{KnowsMoreOfBook, TakesOnce}
use Rattle.shared_unit.proofs.Kept.{IsLevel}
use Rattle.shared_unit.specs.Permit.{IsTrueFor, IsOfPermit, IfPermit, Permits}
use Rattle.unit_book.specs.Epoch.{binding_on}
use Rattle.shared_unit.proofs.Checks.{check_bound}
use Rattle.shared_unit.proofs.Epochs.{state_at_stays, epochs_longer, row_later}

pub permit_stays : (p : Permit) (v w : Turn) → KnowsMoreOfBook v w → IsTrueFor p v → IsTrueFor p w
permit_stays p v w grows is =
    let more = grows.earlier.log in
    let same : state_at w.known p.epoch ≡ state_at v.known p.epoch =
    state_at_stays v.known w.known more.0 p.epoch grows.opening more.1 is.reached in
    let plan : w.known.opening.plan ≡ v.known.opening.plan = ap (λ (o : Opening). o.plan) grows.opening in
    record {
      seen = (let a = is.seen in let b = grows.epoch in omega arith);
      reached = (let a = is.reached in let b = epochs_longer v.known w.known more.0 more.1 in omega arith);
      line = ap (λ (l : PlanLines). link_of l.links p.link) plan ∙ is.line;
      sender = ap (λ (l : PlanLines). binding_on l (state_at w.known p.epoch) p.binding.link p.channel) plan
          ∙ ap (λ (s : State). binding_on v.known.opening.plan s p.binding.link p.channel) same ∙ is.sender;
      row = ap (λ (s : State). place_of s.keys p.binding.key) same ∙ is.row;
      there = is.there;
      binding = is.binding;
    }

-- the held book has the permit's row for its key
pub row_held : (p : Permit) (v : Turn) (book : BookView) → Follows v (known_of_book book) → IsTrueFor p v
    → IsLevel book → place_of book.state.keys p.binding.key ≡ Some p.row
row_held p v book follows is level =
    let more = follows.earlier.log in
    let k : Known = known_of_book book in
    let same : state_at k p.epoch ≡ state_at v.known p.epoch =
    state_at_stays v.known k more.0 p.epoch follows.opening more.1 is.reached in
    sym (level.rows p.binding.key)
    ∙ row_later book.start (entries_of book.log) p.epoch book.changes p.binding.key p.row
    (let a = is.seen in let b = follows.epoch in let c = follows.earlier.changes in omega arith)
    (ap (λ (s : State). place_of s.keys p.binding.key) same ∙ is.row)

-- what the book permits is true for the worker that found the book so
pub permit_true : (link : ℕ) (clear : List ℕ) (p : Permit) (found : BookView) (given : Known) (v w : Turn)
    → Permits link clear (replies.Permit p) found → IsLevel found → TakesOnce (known_of_book found) given v w
    → IsTrueFor p w
permit_true link clear p found given v w h level s =
    let k : Known = known_of_book found in
    let here = h.0 in
    let epoch : p.epoch ≡ found.changes = h.2 in
    let bound = check_bound found.plan (state_at k found.changes) link clear p.channel p.binding h.1
    (level.binds link clear ∙ h.3) in
    permit_stays p (taking k v) w (record {
      earlier = subst (λ (t : Turn). Earlier k t.known) (sym s.turn) s.earlier;
      sparing = subst (λ (t : Turn). IsSparing k t.known) (sym s.turn) s.sparing;
      opening = ap (λ (t : Turn). t.known.opening) s.turn ∙ s.opening;
      epoch = (let e = ap epoch_seen s.turn in let b = s.earlier.changes in omega arith);
    })
    (record {
      seen = (let e = epoch in omega arith);
      reached = (let b = level.reached in omega arith);
      line = ap (link_of found.plan.links) here ∙ bound.0;
      sender = subst (λ (n : ℕ). binding_on found.plan (state_at k n) p.binding.link p.channel ≡ Some p.binding)
          (sym epoch) bound.1;
      row = subst (λ (n : ℕ). place_of (state_at k n).keys p.binding.key ≡ Some p.row) (sym epoch)
          (level.rows p.binding.key ∙ h.4);
      there = level.places p.binding.key p.row h.4;
      binding = h.5;
    })

-- and is of the frame
pub of_permit : (link : ℕ) (clear : List ℕ) (p : Permit) (found : BookView) (plan : PlanLines)
    → Permits link clear (replies.Permit p) found → found.plan ≡ plan → IsOfPermit plan p clear
of_permit link clear p found plan h same =
    ap (λ (l : PlanLines). channel_check l p.link clear) (sym same) ∙ ap (λ (n : ℕ). channel_check found.plan n clear)
    h.0 ∙ h.1

pub permitted : (plan : PlanLines) (link : ℕ) (clear : List ℕ) (reply : PermitReply) (found : BookView) (given : Known)
    (v w : Turn)
    → Permits link clear reply found → IsLevel found → TakesOnce (known_of_book found) given v w → found.plan ≡ plan
    → IfPermit reply (λ p. IsTrueFor p w × IsOfPermit plan p clear)
permitted plan link clear (replies.Permit p) found given v w h level s same =
    (permit_true link clear p found given v w h level s, of_permit link clear p found plan h same)
permitted plan link clear replies.Clear found given v w h level s same = tt
permitted plan link clear (replies.Refused fault epoch) found given v w h level s same = tt
