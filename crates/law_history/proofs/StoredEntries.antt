-- Which entries are stored.
use Rattle.std.proofs.Common.{◌≡◌, ◌≢◌, ℕ, ◌+◌, ◌-◌, ◌<◌, min, Bool, true, false, cond, nat_lt, Option, Some, None}
use Rattle.std.proofs.Common.{is_some, refl, sym, ap, ◌∙◌, arith}
use Rattle.std.specs.Option.{option_and_then}
use Rattle.std.proofs.lemmas.Bool.{false≢true}
use Rattle.std.proofs.lemmas.Bool.Decides.{nat_tests}
use Rattle.sdls_base.specs.KeyId.{end_of}
use Rattle.sdls_base.specs.declared.entry.Change.{Change}
use Rattle.sdls_base.specs.declared.entry.Change.TheVariants as changes
use Rattle.sdls_base.specs.declared.entry.Entry.{Entry}
use Rattle.key_book.specs.declared.key_row.KeyRow.{KeyRow}
use Rattle.unit_plan.specs.PlanLines.{PlanLines}
use Rattle.unit_state.specs.declared.state.State.{State}
use Rattle.unit_state.specs.State.{key_row}
use Rattle.unit_state.specs.Restart.{acceptance_stored, stored_as}
use Rattle.unit_state.proofs.KeyRules.{number_test}
use Rattle.frame_checks.specs.declared.opening_frames.OpenReply.{OpenReply}
use Rattle.frame_checks.specs.declared.opening_frames.OpenReply.TheVariants as opens
use Rattle.run_promise.specs.Numbers.{floor_of}
use Rattle.run_promise.specs.History.{frame_entry, raised_floor}
use Rattle.run_promise.specs.Log.{IsStored}
use Rattle.law_history.specs.Laws.{RaisesFloor}
use Rattle.law_history.proofs.Marks.{floor_is}

-- an acceptance that leaves the floor is not stored
above_by : (plan : PlanLines) (state : State) (key number : ℕ) (held : KeyRow) (b : Bool)
    → nat_lt (floor_of state key) number ≡ b → floor_of state key ≡ held.floor
    → is_some (acceptance_stored key (cond b (min (number + plan.accept - 1) (end_of key - 1)) (floor_of state key))
    held) ≡ true → floor_of state key < number
above_by plan state key number held true test floor stored = grind (arith, nat_tests)
above_by plan state key number held false test floor stored =
    absurd (false≢true (sym (ap (λ (c : Bool). is_some
    (cond c None (Some (changes.Marks key held.mark (floor_of state key)))))
    (number_test held.floor (floor_of state key) (sym floor))) ∙ stored))

above_row : (plan : PlanLines) (state : State) (key number : ℕ) (o : Option KeyRow) → key_row state key ≡ o
    → is_some (option_and_then (acceptance_stored key (raised_floor plan state key number)) o) ≡ true
    → floor_of state key < number
above_row plan state key number None is stored = absurd (false≢true stored)
above_row plan state key number (Some held) is stored =
    above_by plan state key number held (nat_lt (floor_of state key) number) refl (floor_is state key held is) stored

-- the entry of a frame is stored only where a number above the floor is accepted
pub stored_raises : (plan : PlanLines) (state : State) (index : ℕ) (reply : OpenReply)
    → IsStored state (frame_entry plan state index reply) ≡ true
    → RaisesFloor state reply
stored_raises plan state index (opens.Accepted spi key number from to) stored = record {
  spi = spi;
  key = key;
  number = number;
  from = from;
  to = to;
  is = refl;
  above = above_row plan state key number (key_row state key) refl stored;
}
stored_raises plan state index opens.Clear stored = absurd (false≢true stored)
stored_raises plan state index (opens.Layout number) stored = absurd (false≢true stored)
stored_raises plan state index opens.Channel stored = absurd (false≢true stored)
stored_raises plan state index opens.Spi stored = absurd (false≢true stored)
stored_raises plan state index opens.Direction stored = absurd (false≢true stored)
stored_raises plan state index (opens.State held) stored = absurd (false≢true stored)
stored_raises plan state index opens.Coverage stored = absurd (false≢true stored)
stored_raises plan state index opens.Mac stored = absurd (false≢true stored)
stored_raises plan state index (opens.Number key number high width) stored = absurd (false≢true stored)

-- an entry is stored only where something changes
pub stored_changes : (state : State) (entry : Entry) → IsStored state entry ≡ true → entry.change ≢ changes.Nothing
stored_changes state entry stored same =
    false≢true (sym (ap (λ (c : Change). is_some (stored_as state c)) same) ∙ stored)
