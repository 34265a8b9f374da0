-- What `protect` does, by its answer (CCSDS 355.0-B-2, ApplySecurity; permits profile).
use Rattle.std.specs.Prelude.{◌≡◌, ◌⊎◌, ⊤, ℕ, ◌+◌, ◌<◌, ◌≤◌, Bool, List, Option, Some, None, Result, Ok, Err}
use Rattle.sdls_base.specs.KeyId.{end_of}
use Rattle.unit_plan.specs.PlanLines.{PlanLines}
use Rattle.unit_state.specs.History.{epoch_after}
use Rattle.frame_shield.specs.declared.protecting_frames.ShieldFault.{ShieldFault}
use Rattle.frame_shield.specs.Binding.{clear_fault}
use Rattle.frame_checks.specs.ProtectingFrames.{channel_check}
use Rattle.run_promise.specs.Fits.{protect_reply}
use Rattle.counter_table.specs.declared.view.Turn.{Turn}
use Rattle.counter_table.specs.declared.view.View.{View}
use Rattle.counter_table.specs.Turn.{epoch_seen, loading}
use Rattle.counter_table.specs.Worker.{view, IsSame}
use Rattle.counter_table.specs.declared.counters.Counters.{Counters}
use Rattle.counter_table.specs.declared.counters.Worker.{Worker}
use Rattle.unit_book.specs.declared.fault.BookFault.{BookFault}
use Rattle.run_promise.specs.Log.{entries_of}
use Rattle.unit_book.specs.Book.{BookView}
use Rattle.shared_unit.specs.declared.permit.Permit.{Permit}
use Rattle.shared_unit.specs.declared.permit.Done.{Done}
use Rattle.shared_unit.specs.declared.permit.Protected.{Protected}
use Rattle.shared_unit.specs.declared.permit.Protected.TheVariants as answers
use Rattle.shared_unit.specs.Told.{state_at, entry_count}
use Rattle.shared_unit.specs.Turn.{FindsCovered, IsReady, Visits, Loads, LoadsAtMostOnce}
use Rattle.shared_unit.specs.Numbers.{Draws, ComesBack, RunsOut, UsesNumber}
use Rattle.shared_unit.specs.Permit.{IsTrueFor, IsOfPermit, IsProtectedUnder, LacksLayout}
use Rattle.shared_unit.specs.Funding.{Reserves}

-- The first check that fails in the state of an epoch that was seen. Those for which the plan is enough were passed.
pub record FailsAt (link : ℕ) (clear : List ℕ) (fault : ShieldFault) (epoch : ℕ) (w : Turn) : Type 0 where
  pub seen : epoch ≤ epoch_seen w
  pub reached : epoch ≤ epoch_after (entries_of w.known.log)
  pub passes : (channel : ℕ) × (channel_check w.known.opening.plan link clear ≡ Ok (Some channel))
  pub is : protect_reply w.known.opening.plan (state_at w.known epoch) link clear ≡ Err fault

-- the key had no number left, in an epoch that is no less than the one seen before
abbrev pub RunsOutUnder : Permit → List ℕ → ℕ → ℕ → ℕ → View → View → Type 0
RunsOutUnder p clear key n epoch v w = (clear_fault p.binding clear ≡ None) × (key ≡ p.binding.key) × (epoch ≡ p.epoch)
    × RunsOut p.row (end_of key) n v.numbers w.numbers × (epoch_seen v.turn ≤ epoch)

-- The number was drawn and spent, and the frame is protected with it, in an epoch that is no less than the one seen
-- before.
pub record IsDrawnAndProtected (p : Permit) (clear out : List ℕ) (d : Done) (v w : View) : Type 0 where
  pub fits : clear_fault p.binding clear ≡ None
  pub protected : IsProtectedUnder p clear out d
  pub later : epoch_seen v.turn ≤ d.epoch
  pub back : ℕ
  pub uses : UsesNumber p.row d.number back v.numbers w.numbers

abbrev pub IsTrueIfKept : Option Permit → Turn → Type 0
IsTrueIfKept None w = ⊤
IsTrueIfKept (Some p) w = IsTrueFor p w

-- the permit that was used: it is of the frame and its link, and true afterwards
pub record IsUsed (plan : PlanLines) (link : ℕ) (clear : List ℕ) (p : Permit) (w : Turn) : Type 0 where
  pub linked : p.link ≡ link
  pub frame : IsOfPermit plan p clear
  pub trusted : IsTrueFor p w

-- a fact of the epoch that an answer has
abbrev pub IfEpoch : Protected → (ℕ → Type 0) → Type 0
IfEpoch (answers.Done d) P = P d.epoch
IfEpoch answers.Clear P = ⊤
IfEpoch (answers.Refused fault epoch) P = P epoch
IfEpoch (answers.Exhausted key n epoch) P = P epoch
IfEpoch (answers.Fault fault position) P = ⊤

-- unless a frame was protected, the caller's room is as it was
abbrev pub LeavesUnprotected : Protected → List ℕ → List ℕ → Type 0
LeavesUnprotected (answers.Done done) old new = ⊤
LeavesUnprotected answers.Clear old new = new ≡ old
LeavesUnprotected (answers.Refused fault epoch) old new = new ≡ old
LeavesUnprotected (answers.Exhausted key number epoch) old new = new ≡ old
LeavesUnprotected (answers.Fault fault position) old new = new ≡ old

abbrev pub LeavesUnanswered : Option Protected → List ℕ → List ℕ → Type 0
LeavesUnanswered None old new = new ≡ old
LeavesUnanswered (Some answer) old new = LeavesUnprotected answer old new

-- the turn was taken no more often than a ticket came back
abbrev pub TakesByTicket : View → View → Type 0
TakesByTicket v w = w.turn.turns + v.numbers.tickets ≤ v.turn.turns + w.numbers.tickets

-- the epoch was loaded once at most, and nothing else was done
pub record Looks (v w : Turn) : Type 0 where
  pub count : ℕ
  pub epoch : ℕ
  pub loads : LoadsAtMostOnce count epoch v
  pub is : w ≡ loading count epoch v

-- the epoch was loaded once in between, and is this one
abbrev pub HasLoaded : Turn → Turn → ℕ → Type 0
HasLoaded v w epoch = (w.loads ≡ v.loads + 1) × (w.epoch ≡ epoch)

-- The epoch was loaded once where the permit that is kept is one of the frame's link and channel, and else not at all.
abbrev pub LoadsByKept : PlanLines → ℕ → List ℕ → Option Permit → Turn → Turn → Type 0
LoadsByKept plan link clear None v w = w.loads ≡ v.loads
LoadsByKept plan link clear (Some p) v w =
    (p.link ≡ link → IsOfPermit plan p clear → w.loads ≡ v.loads + 1)
    × ((p.link ≡ link → IsOfPermit plan p clear → ⊥) → w.loads ≡ v.loads)

-- the book was given back as it was found
abbrev pub Rests : BookView → BookView → Type 0
Rests found given = given ≡ found

-- a number of the key was reserved, or its mark was above it already
abbrev pub Funds : ℕ → ℕ → BookView → BookView → Type 0
Funds key n found given = (mark : ℕ) × Reserves key n (Ok mark) found given

module _ (told : Bool) where
  -- The epoch was loaded once at most, and then the turn was taken once: with this done to the book.
  pub record TakesTurn (done : BookView → BookView → Type 0) (v w : Turn) : Type 0 where
    pub count : ℕ
    pub epoch : ℕ
    pub loads : LoadsAtMostOnce count epoch v
    pub found : BookView
    pub given : BookView
    pub visits : Visits told found given (loading count epoch v) w
    pub does : done found given

  -- the turn was taken once at most, with this done to the book
  abbrev pub MayTakeTurn : (BookView → BookView → Type 0) → Turn → Turn → Type 0
  MayTakeTurn done v w = Looks v w ⊎ TakesTurn done v w

  -- The epoch was loaded once at most; or it was, and then the turn was taken once, and the book found is above each
  -- number that the worker had spent before.
  abbrev pub CoversIfTaken : View → View → Type 0
  CoversIfTaken v w = Looks v.turn w.turn
      ⊎ ((count : ℕ) × (epoch : ℕ) × LoadsAtMostOnce count epoch v.turn
      × FindsCovered told (record v { turn = loading count epoch v.turn }) w)

  -- the turn was taken once, and the book found had counted so many changes
  abbrev pub FindsEpoch : Turn → Turn → ℕ → Type 0
  FindsEpoch v w epoch = TakesTurn (λ found given. found.changes ≡ epoch) v w

  -- the epoch is the one that was loaded in between, or that of the book held
  abbrev pub IsEpochOf : Turn → Turn → ℕ → Type 0
  IsEpochOf v w epoch = HasLoaded v w epoch ⊎ FindsEpoch v w epoch

  -- one reserve was stored, or refused, or there was none
  abbrev pub AddsReserve : ℕ → BookView → BookView → Type 0
  AddsReserve key found given = (given ≡ found) ⊎
      ((n : ℕ) × (result : Result ℕ BookFault) × Reserves key n result found given)

  -- the epoch was loaded, and the turn was taken, at most once each, for at most one reserve
  abbrev pub TakesAtMostOnce : Turn → Turn → Type 0
  TakesAtMostOnce v w = MayTakeTurn (λ found given. (key : ℕ) × AddsReserve key found given) v w

  -- the reserve of a number that was drawn was refused, in an epoch that is no less than the one seen before
  abbrev pub IsRefusedUnder : Permit → List ℕ → BookFault → ℕ → View → View → Type 0
  IsRefusedUnder p clear fault position v w = (clear_fault p.binding clear ≡ None) × (epoch_seen v.turn ≤ p.epoch)
      × (position ≡ entry_count w.turn.known)
      × ((n : ℕ) × (n < end_of p.binding.key)
      × (Draws p.row (end_of p.binding.key) n v.numbers w.numbers
      ⊎ ComesBack p.row (end_of p.binding.key) n v.numbers w.numbers)
      × TakesTurn (Reserves p.binding.key n (Err fault)) v.turn w.turn)

  -- What was done under a permit, by the answer. The turn is taken for a reserve of the number that was drawn here, or
  -- the book is given back as it was found.
  abbrev pub IsUnder : Permit → List ℕ → List ℕ → Protected → View → View → Type 0
  IsUnder p clear out (answers.Done d) v w = IsDrawnAndProtected p clear out d v w
      × MayTakeTurn (Funds p.binding.key d.number) v.turn w.turn
  IsUnder p clear out answers.Clear v w = ⊥
  IsUnder p clear out (answers.Refused fault epoch) v w =
      LacksLayout p.binding clear fault × (epoch ≡ p.epoch) × (w.numbers ≡ v.numbers) × (epoch_seen v.turn ≤ epoch)
      × MayTakeTurn Rests v.turn w.turn
  IsUnder p clear out (answers.Exhausted key n epoch) v w = RunsOutUnder p clear key n epoch v w
      × MayTakeTurn Rests v.turn w.turn
  IsUnder p clear out (answers.Fault fault position) v w = IsRefusedUnder p clear fault position v w

  -- With a kept permit the turn is taken for a ticket that came back alone. There is no answer where the epoch went on.
  abbrev pub IsKeptStep : Permit → List ℕ → List ℕ → Option Protected → View → View → Type 0
  IsKeptStep p clear out None v w = (w.numbers ≡ v.numbers)
      × ((epoch : ℕ) × (p.epoch < epoch) × Loads epoch v.turn w.turn)
  IsKeptStep p clear out (Some answer) v w = IsUnder p clear out answer v w × TakesByTicket v w

  -- Where the plan is enough for the check that fails first, nothing is looked at. Else the epoch is no less than the
  -- one seen before.
  abbrev pub IsRefusedAt : PlanLines → ℕ → List ℕ → ShieldFault → ℕ → Turn → Turn → Type 0
  IsRefusedAt plan link clear fault epoch v w =
      ((channel_check plan link clear ≡ Err fault) × (epoch ≡ 0) × (w ≡ v))
      ⊎ (FailsAt link clear fault epoch w × (epoch_seen v ≤ epoch) × MayTakeTurn Rests v w)

  -- What `protect` does, by its answer and the permit that is kept afterwards.
  abbrev pub IsProtectStep : PlanLines → ℕ → List ℕ → List ℕ → Option Permit → Protected → View → View → Type 0
  IsProtectStep plan link clear out kept (answers.Done d) v w =
      (p : Permit) × (kept ≡ Some p) × IsUsed plan link clear p w.turn × IsUnder p clear out (answers.Done d) v w
  IsProtectStep plan link clear out kept answers.Clear v w =
      (channel_check plan link clear ≡ Ok None) × (w.numbers ≡ v.numbers) × (w.turn ≡ v.turn)
  IsProtectStep plan link clear out kept (answers.Refused fault epoch) v w =
      IsRefusedAt plan link clear fault epoch v.turn w.turn × (w.numbers ≡ v.numbers)
  IsProtectStep plan link clear out kept (answers.Exhausted key n epoch) v w =
      (p : Permit) × IsUsed plan link clear p w.turn × IsUnder p clear out (answers.Exhausted key n epoch) v w
  IsProtectStep plan link clear out kept (answers.Fault fault position) v w =
      (p : Permit) × IsUsed plan link clear p w.turn × IsUnder p clear out (answers.Fault fault position) v w

  -- with what is kept, for a frame of a channel
  abbrev pub IsByKept : PlanLines → Option Permit → ℕ → List ℕ → List ℕ → Option Protected → View → View → Type 0
  IsByKept plan kept link clear out None v w = (w.numbers ≡ v.numbers)
      × ((w.turn ≡ v.turn) ⊎ ((epoch : ℕ) × Loads epoch v.turn w.turn))
      × ((p : Permit) → kept ≡ Some p → p.link ≡ link → IsOfPermit plan p clear → p.epoch < w.turn.epoch)
  IsByKept plan kept link clear out (Some answer) v w =
      (p : Permit) × (kept ≡ Some p) × IsUsed plan link clear p w.turn × IsKeptStep p clear out (Some answer) v w

-- What `protect` leaves, with this permit kept before and this one behind it. The worker can make further calls, has
-- the
-- shares that it had, and took the turn once at most.
pub record ProtectsFrame {B : Type 0} (told : Bool) (counters : Counters B) (plan : PlanLines) (link : ℕ)
    (clear room out : List ℕ) (before after : Option Permit) (result : Protected) (old new : Worker B) : Type 0 where
  pub ready : IsReady counters plan new
  pub same : IsSame old new
  pub shares : (view new).numbers.shares ≡ (view old).numbers.shares
  pub turn : TakesAtMostOnce told (view old).turn (view new).turn
  -- the answer is the one that is due, and a permit that is kept is true
  pub step : IsProtectStep told plan link clear out after result (view old) (view new)
  pub kept : IsTrueIfKept after (view new).turn
  pub leaves : LeavesUnprotected result room out
  -- no number was spent by the worker that is not below its row's mark in the book that the call found, if it took the
  -- turn
  pub covered : CoversIfTaken told (view old) (view new)
  -- the epoch beside an answer was loaded in this call, or is that of the book held; where the plan is enough there is
  -- none
  pub epochs : (channel : ℕ) → channel_check plan link clear ≡ Ok (Some channel)
      → IfEpoch result (IsEpochOf told (view old).turn (view new).turn)
  -- with a permit of the frame kept before, the epoch is loaded once in this call, and else not
  pub loads : LoadsByKept plan link clear before (view old).turn (view new).turn
  -- with the kept permit, where its epoch was the one loaded last, the turn is taken for a ticket that came back alone
  pub turns : (p : Permit) (d : Done) → before ≡ Some p → p.link ≡ link → IsOfPermit plan p clear
      → result ≡ answers.Done d → d.epoch ≡ p.epoch → TakesByTicket (view old) (view new)
  pub turns_kept : (p : Permit) → before ≡ Some p → p.link ≡ link → IsOfPermit plan p clear
      → (view new).turn.epoch ≤ p.epoch → TakesByTicket (view old) (view new)
