-- What a book serves at an epoch (CCSDS 355.0-B-2, ApplySecurity; profile).
use Rattle.std.specs.Prelude.{◌≡◌, ◌↔◌, ℕ, ◌+◌, ◌<◌, ◌≤◌, List, [], ◌∷◌, ◌++◌, length, Option, Some, slice_get}
use Rattle.std.specs.Option.{option_and_then}
use Rattle.sdls_base.specs.declared.TheConstants.{MOST_KEYS}
use Rattle.sdls_base.specs.declared.entry.Entry.{Entry}
use Rattle.sdls_base.specs.declared.entry.Logged.{Logged}
use Rattle.sdls_base.specs.declared.entry.Logged.TheVariants as logged
use Rattle.sdls_base.specs.declared.link.Link.{Link}
use Rattle.key_book.specs.KeyBook.{place_of}
use Rattle.sa_book.specs.SaBook.{sender_on}
use Rattle.unit_plan.specs.PlanLines.{PlanLines}
use Rattle.unit_state.specs.declared.state.State.{State}
use Rattle.unit_state.specs.History.{at_epoch}
use Rattle.frame_shield.specs.declared.binding.Binding.{Binding}
use Rattle.frame_checks.specs.Binding.{binding_of}
use Rattle.frame_checks.specs.ProtectingFrames.{protect_check}
use Rattle.ep_core.specs.declared.judging.Need.{Need}
use Rattle.run_promise.specs.Log.{entries_of}
use Rattle.run_promise.specs.Numbers.{mark_at, mark_of}
use Rattle.unit_book.specs.Marks.{highest_mark}
use Rattle.run_promise.specs.History.{IsNeedOf}
use Rattle.unit_book.specs.Book.{BookView}

-- the state at the epoch of a book: after the last of its entries that counts
abbrev pub epoch_state : BookView → State
epoch_state book = at_epoch book.start (entries_of book.log) book.changes

-- what the sender on a channel of a link binds frames to
abbrev pub binding_on : PlanLines → State → Link → ℕ → Option Binding
binding_on plan state line channel = option_and_then (binding_of plan state line) (sender_on state.associations channel)

-- In both states each frame is checked and bound alike, each key has its place, and each message needs the same to be
-- seen.
pub record ServesAlike (plan : PlanLines) (one other : State) : Type 0 where
  pub checks : (link : ℕ) (clear : List ℕ) → protect_check plan one link clear ≡ protect_check plan other link clear
  pub bindings : (line : Link) (channel : ℕ) → binding_on plan one line channel ≡ binding_on plan other line channel
  pub places : (key : ℕ) → place_of one.keys key ≡ place_of other.keys key
  pub needs : (octets : List ℕ) (need : Need) → IsNeedOf one octets need ↔ IsNeedOf other octets need

-- Keys have places below MOST_KEYS, and marks from 1 to 2 ^ 48; that of a key is the one at its place.
pub record HasBounds (state : State) : Type 0 where
  pub keys : length state.keys ≤ MOST_KEYS
  pub places : (key place : ℕ) → place_of state.keys key ≡ Some place → place < MOST_KEYS
  pub from_one : (place : ℕ) → 1 ≤ mark_at state place
  pub to_highest : (place : ℕ) → mark_at state place ≤ highest_mark
  pub marks : (key place : ℕ) → place_of state.keys key ≡ Some place → mark_at state place ≡ mark_of state key

-- The entry is the last line of the log, and its position the count of entries.
pub record StandsLast (entry : Entry) (old new : List Logged) (position : ℕ) : Type 0 where
  pub log : new ≡ old ++ logged.Entry entry ∷ []
  pub there : slice_get new (length old) ≡ Some (logged.Entry entry)
  pub entries : entries_of new ≡ entries_of old ++ entry ∷ []
  pub position_is : position ≡ length (entries_of old) + 1
