-- Permits that lanes keep from one segment to the next: for the clauses `taken`, `left`, `none` and `kept`.
use Rattle.std.proofs.Common.{◌≡◌, ℕ, zero, suc, ◌≤◌, ◌||◌, Bool, true, false, List, [], ◌∷◌, ◌++◌, refl, sym, ap}
use Rattle.std.proofs.Common.{subst, ◌∙◌, arith, Option, Some, None}
use Rattle.std.specs.List.{All, Contains, list_any, slice_index_or}
use Rattle.std.proofs.lemmas.List.Elements.{All-nil}
use Rattle.sdls_base.specs.declared.entry.Logged.{Logged}
use Rattle.key_book.specs.KeyBook.{place_of}
use Rattle.unit_plan.specs.PlanLines.{PlanLines, link_of}
use Rattle.unit_state.specs.declared.state.State.{State}
use Rattle.unit_state.specs.History.{epoch_after}
use Rattle.unit_book.specs.Epoch.{binding_on}
use Rattle.frame_checks.specs.Trying.{IsOpener}
use Rattle.counter_table.specs.declared.view.Opening.{Opening}
use Rattle.counter_table.specs.declared.view.Turn.{Turn}
use Rattle.counter_table.specs.declared.view.View.{View}
use Rattle.record_io.specs.declared.reader.RecordKind.TheVariants.{Command}
use Rattle.record_io.specs.declared.item_cursor.Record.{Record}
use Rattle.run_promise.specs.Log.{entries_of}
use Rattle.shared_unit.specs.declared.permit.OpenPermit.{OpenPermit}
use Rattle.shared_unit.specs.declared.permit.Permit.{Permit}
use Rattle.shared_unit.specs.Opening.{IsOpenTrueFor, IsOpenTrueIfKept}
use Rattle.shared_unit.specs.Permit.{IsTrueFor}
use Rattle.shared_unit.specs.Protecting.{IsTrueIfKept}
use Rattle.shared_unit.specs.Told.{state_at}
use Rattle.shared_unit.proofs.Epochs.{state_at_stays, epochs_longer}
use Rattle.law_workers.specs.Lanes.{Part, MeetAll, meeting_all}
use Rattle.law_workers.specs.Views.{KnowsMore, Meets, meeting, starting}
use Rattle.law_workers.proofs.Joining.{grows_further, grows_itself, known_after, top_both}
use Rattle.frame_workers.specs.declared.lane.KeptPermits.{KeptPermits}
use Rattle.frame_workers.specs.declared.lane.Permits.{Permits}
use Rattle.frame_workers.specs.Permits.{AreKept, AreTrueFor, is_commanded, KeepsNone}

-- what is true for a worker is true for one that knows more
module _ (v w : View) (grows : KnowsMore v w) where
  more : (rest : List Logged) × (w.turn.known.log ≡ v.turn.known.log ++ rest)
  more = grows.earlier.log

  plan : w.turn.known.opening.plan ≡ v.turn.known.opening.plan
  plan = ap (λ (o : Opening). o.plan) grows.opening

  same_state : (epoch : ℕ) → epoch ≤ epoch_after (entries_of v.turn.known.log)
      → state_at w.turn.known epoch ≡ state_at v.turn.known epoch
  same_state epoch reached = state_at_stays v.turn.known w.turn.known more.0 epoch grows.opening more.1 reached

  permit_later : (p : Permit) → IsTrueFor p v.turn → IsTrueFor p w.turn
  permit_later p is =
      let same = same_state p.epoch is.reached in
      record {
        seen = (let a = is.seen in let b = grows.epochs in omega arith);
        reached =
            (let a = is.reached in let b = epochs_longer v.turn.known w.turn.known more.0 more.1 in omega arith);
        line = ap (λ (l : PlanLines). link_of l.links p.link) plan ∙ is.line;
        sender = ap (λ (l : PlanLines). binding_on l (state_at w.turn.known p.epoch) p.binding.link p.channel) plan
            ∙ ap (λ (s : State). binding_on v.turn.known.opening.plan s p.binding.link p.channel) same ∙ is.sender;
        row = ap (λ (s : State). place_of s.keys p.binding.key) same ∙ is.row;
        there = is.there;
        binding = is.binding;
      }

  opener_later : (p : OpenPermit) → IsOpenTrueFor p v.turn → IsOpenTrueFor p w.turn
  opener_later p is =
      let same = same_state p.epoch is.reached in
      record {
        seen = (let a = is.seen in let b = grows.epochs in omega arith);
        reached =
            (let a = is.reached in let b = epochs_longer v.turn.known w.turn.known more.0 more.1 in omega arith);
        opener = subst (λ (l : PlanLines). IsOpener l (state_at w.turn.known p.epoch) p.opener) (sym plan)
            (subst (λ (s : State). IsOpener v.turn.known.opening.plan s p.opener) (sym same) is.opener);
      }

  to_protect_later : (kept : Option Permit) → IsTrueIfKept kept v.turn → IsTrueIfKept kept w.turn
  to_protect_later None is = is
  to_protect_later (Some p) is = permit_later p is

  to_open_later : (kept : Option OpenPermit) → IsOpenTrueIfKept kept v.turn → IsOpenTrueIfKept kept w.turn
  to_open_later None is = is
  to_open_later (Some p) is = opener_later p is

  pub places_later : (places : List Permits) → All (λ permits. AreTrueFor permits v.turn) places
      → All (λ permits. AreTrueFor permits w.turn) places
  places_later places each k d low =
      let permits : Permits = slice_index_or places k d in
      let is : AreTrueFor permits v.turn = each k d low in
      record {
        to_protect = to_protect_later permits.to_protect is.to_protect;
        to_open = to_open_later permits.to_open is.to_open;
      }

  pub kept_later : (kept : KeptPermits) → AreKept kept v.turn → AreKept kept w.turn
  kept_later kept each k d low = places_later (slice_index_or kept.lanes.items k d).items (each k d low)

-- so is what is not there
pub none_true : (kept : KeptPermits) (v : Turn) → KeepsNone kept → AreKept kept v
none_true kept v none k d low =
    subst (λ (places : List Permits). All (λ permits. AreTrueFor permits v) places) (sym (none k d low))
    (All-nil (λ permits. AreTrueFor permits v))

-- a command is found among the records
pub command_found : (rows : List Record) (row : Record) → Contains rows row → row.kind ≡ Command
    → list_any (λ (r : Record). is_commanded r.kind) rows ≡ true
command_found [] row (k, low, here) is = absurd (omega arith)
command_found (r ∷ rows) row (zero, low, here) is =
    let kind : r.kind ≡ Command = ap (λ (x : Record). x.kind) here ∙ is in
    let own : is_commanded r.kind ≡ true = ap is_commanded kind in
    ap (λ (b : Bool). b || list_any (λ (x : Record). is_commanded x.kind) rows) own
command_found (r ∷ rows) row (suc k, low, here) is =
    or_right (is_commanded r.kind) (list_any (λ (x : Record). is_commanded x.kind) rows)
    (command_found rows row (k, omega arith, here) is)
  where
    or_right : (a b : Bool) → b ≡ true → (a || b) ≡ true
    or_right true b h = refl
    or_right false b h = h

-- a worker that was split off knows as much
pub starts_knowing : (v : View) → KnowsMore v (starting v)
starts_knowing v = record {
  nexts = λ r. omega arith;
  earlier = (grows_itself v).earlier;
  opening = refl;
  epochs = omega arith;
}

-- and one that took in others knows more
module _ (rows : ℕ) where
  met : (v w : View) → v.turn.holds ≡ false → v.turn.filled ≡ true → Meets rows v w → KnowsMore v (meeting v w)
  met v w free filled meet = record {
    nexts = λ r. let t = top_both r v.numbers.nexts w.numbers.nexts in omega arith;
    earlier = meet.earlier;
    opening = ap (λ k. k.opening) (known_after v w free filled);
    epochs = let c = ap (λ k. k.changes) (known_after v w free filled) in omega arith;
  }

  pub all_met : (now : View) (parts : List Part) → now.turn.holds ≡ false → now.turn.filled ≡ true
      → MeetAll rows now parts → KnowsMore now (meeting_all now parts)
  all_met now [] free filled meet = grows_itself now
  all_met now (p ∷ parts) free filled meet =
      grows_further now (meeting now p.knows) (meeting_all (meeting now p.knows) parts)
      (met now p.knows free filled meet.0)
      (all_met (meeting now p.knows) parts free (ap (λ (b : Bool). b || p.knows.turn.filled) filled) meet.1)
