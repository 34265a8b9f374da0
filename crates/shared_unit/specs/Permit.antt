-- Permits: what a worker may protect frames under, and what it does with one (CCSDS 355.0-B-2, ApplySecurity; permits
-- profile).
use Rattle.std.specs.Prelude.{◌≡◌, ◌≢◌, ℕ, ◌+◌, ◌<◌, ◌≤◌, List, length, take, Some, None, Ok, Err, ⊤}
use Rattle.sdls_base.specs.KeyId.{end_of}
use Rattle.sdls_base.specs.declared.layout.FrameFault.{FrameFault}
use Rattle.sdls_base.specs.declared.TheConstants.{MOST_KEYS}
use Rattle.key_book.specs.KeyBook.{place_of}
use Rattle.unit_plan.specs.PlanLines.{PlanLines, link_of}
use Rattle.unit_state.specs.History.{epoch_after}
use Rattle.frame_shield.specs.declared.binding.Binding.{Binding}
use Rattle.frame_shield.specs.declared.protecting_frames.ShieldFault.{ShieldFault}
use Rattle.frame_shield.specs.declared.protecting_frames.ShieldFault.TheVariants.{Layout}
use Rattle.frame_shield.specs.Binding.{IsBinding, clear_fault, gain_of}
use Rattle.frame_shield.specs.Protects.{Protects}
use Rattle.frame_shield.specs.ShieldFault.{fault_number}
use Rattle.frame_checks.specs.ProtectingFrames.{channel_check, protect_check}
use Rattle.counter_table.specs.declared.view.Turn.{Turn}
use Rattle.counter_table.specs.declared.view.View.{View}
use Rattle.counter_table.specs.Turn.{epoch_seen}
use Rattle.run_promise.specs.Log.{entries_of}
use Rattle.unit_book.specs.Book.{BookView}
use Rattle.unit_book.specs.Epoch.{binding_on}
use Rattle.shared_unit.specs.declared.permit.Permit.{Permit}
use Rattle.shared_unit.specs.declared.permit.PermitReply.{PermitReply}
use Rattle.shared_unit.specs.declared.permit.PermitReply.TheVariants as replies
use Rattle.shared_unit.specs.declared.permit.Done.{Done}
use Rattle.shared_unit.specs.declared.permit.Ready.{Ready}
use Rattle.shared_unit.specs.declared.permit.Ready.TheVariants as readies
use Rattle.shared_unit.specs.Told.{state_at}
use Rattle.shared_unit.specs.Turn.{Loads}
use Rattle.shared_unit.specs.Numbers.{Spends, ComesBack, RunsOut}

-- The permit is true for a worker that knows this.
pub record IsTrueFor (permit : Permit) (v : Turn) : Type 0 where
  -- its epoch was seen, and the log that was seen reaches it
  pub seen : permit.epoch ≤ epoch_seen v
  pub reached : permit.epoch ≤ epoch_after (entries_of v.known.log)
  -- in the state of its epoch the sender on its channel binds to this, on its link, with the row of the key
  pub line : link_of v.known.opening.plan.links permit.link ≡ Some permit.binding.link
  pub sender : binding_on v.known.opening.plan (state_at v.known permit.epoch) permit.binding.link permit.channel
      ≡ Some permit.binding
  pub row : place_of (state_at v.known permit.epoch).keys permit.binding.key ≡ Some permit.row
  pub there : permit.row < MOST_KEYS
  pub binding : IsBinding permit.binding

-- the clear frame passes the checks for which the plan is enough, on the permit's link, and has its channel
abbrev pub IsOfPermit : PlanLines → Permit → List ℕ → Type 0
IsOfPermit plan permit clear = channel_check plan permit.link clear ≡ Ok (Some permit.channel)

-- a fact of the permit, where there is one
abbrev pub IfPermit : PermitReply → (Permit → Type 0) → Type 0
IfPermit (replies.Permit permit) P = P permit
IfPermit replies.Clear P = ⊤
IfPermit (replies.Refused fault epoch) P = ⊤

-- the answer of `permit`, by the checks in the state of the book
abbrev pub Permits : ℕ → List ℕ → PermitReply → BookView → Type 0
Permits link clear (replies.Permit permit) book =
    (permit.link ≡ link) × (channel_check book.plan link clear ≡ Ok (Some permit.channel))
    × (permit.epoch ≡ book.changes)
    × (protect_check book.plan book.state link clear ≡ Ok (Some permit.binding))
    × (place_of book.state.keys permit.binding.key ≡ Some permit.row) × IsBinding permit.binding
Permits link clear replies.Clear book =
    (channel_check book.plan link clear ≡ Ok None) × (protect_check book.plan book.state link clear ≡ Ok None)
Permits link clear (replies.Refused fault epoch) book =
    (protect_check book.plan book.state link clear ≡ Err fault) × (epoch ≡ book.changes)

-- the clear frame has not its layout: this is the first check that fails
abbrev pub LacksLayout : Binding → List ℕ → ShieldFault → Type 0
LacksLayout binding clear fault =
    (found : FrameFault) × (clear_fault binding clear ≡ Some found) × (fault ≡ Layout (fault_number found))

-- the number is the key's, and the front of the octets is the frame protected with it
pub record IsProtectedUnder (permit : Permit) (clear out : List ℕ) (done : Done) : Type 0 where
  pub key : done.key ≡ permit.binding.key
  pub epoch : done.epoch ≡ permit.epoch
  pub below : done.number < end_of permit.binding.key
  -- so many octets as the clear frame has, and those that it gains
  pub count : done.length ≡ length clear + gain_of permit.binding.suite permit.binding.link.layout
  pub frame : Protects permit.binding done.number clear (take done.length out)

-- unless a frame was protected, the caller's room is as it was
abbrev pub LeavesUnready : Ready → List ℕ → List ℕ → Type 0
LeavesUnready (readies.Done done) old new = ⊤
LeavesUnready (readies.Refused fault) old new = new ≡ old
LeavesUnready (readies.Stale epoch) old new = new ≡ old
LeavesUnready (readies.Exhausted number) old new = new ≡ old
LeavesUnready (readies.NeedBlock ticket) old new = new ≡ old

-- what `protect_ready` does, by its answer
abbrev pub IsReadyStep : Permit → List ℕ → List ℕ → Ready → View → View → Type 0
IsReadyStep p clear out (readies.Refused fault) v w = LacksLayout p.binding clear fault × (w.numbers ≡ v.numbers)
    × (w.turn ≡ v.turn)
IsReadyStep p clear out (readies.Stale epoch) v w =
    (clear_fault p.binding clear ≡ None) × (p.epoch ≢ epoch) × (w.numbers ≡ v.numbers) × Loads epoch v.turn w.turn
IsReadyStep p clear out (readies.Exhausted n) v w =
    (clear_fault p.binding clear ≡ None) × Loads p.epoch v.turn w.turn
    × RunsOut p.row (end_of p.binding.key) n v.numbers w.numbers
IsReadyStep p clear out (readies.NeedBlock ticket) v w =
    (clear_fault p.binding clear ≡ None) × Loads p.epoch v.turn w.turn × (ticket.0 ≡ p.row)
    × (ticket.1 < end_of p.binding.key)
    × ComesBack p.row (end_of p.binding.key) ticket.1 v.numbers w.numbers
IsReadyStep p clear out (readies.Done d) v w =
    (clear_fault p.binding clear ≡ None) × Loads p.epoch v.turn w.turn × IsProtectedUnder p clear out d
    × Spends p.row (end_of p.binding.key) d.number v.numbers w.numbers
