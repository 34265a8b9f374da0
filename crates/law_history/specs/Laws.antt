-- What the laws of histories say.
use Rattle.std.specs.Prelude.{◌≡◌, ⊤, ℕ, ◌<◌, ◌≤◌, List, length, take, slice_get, Some}
use Rattle.sdls_base.specs.declared.entry.Change.{Change}
use Rattle.sdls_base.specs.declared.entry.Change.TheVariants.{Marks, Load, KeyStates, Create, Rekey, SaTo, SetNumber}
use Rattle.sdls_base.specs.declared.entry.Change.TheVariants.{SetWindow, Accepted, Nothing}
use Rattle.sdls_base.specs.declared.entry.Entry.{Entry}
use Rattle.sdls_base.specs.declared.entry.Seen.TheVariants.{Word}
use Rattle.unit_state.specs.declared.state.State.{State}
use Rattle.unit_state.specs.History.{after_first, at_epoch, epoch_after}
use Rattle.frame_checks.specs.declared.opening_frames.OpenReply.{OpenReply}
use Rattle.frame_checks.specs.declared.opening_frames.OpenReply.TheVariants as opens
use Rattle.run_promise.specs.Numbers.{mark_of, floor_of}

-- a change that a command makes: it neither sets marks nor accepts a number
abbrev pub IsOfCommand : Change → Type 0
IsOfCommand (Marks key mark floor) = ⊥
IsOfCommand (Load items) = ⊤
IsOfCommand (KeyStates ids to) = ⊤
IsOfCommand (Create new) = ⊤
IsOfCommand (Rekey spi key number) = ⊤
IsOfCommand (SaTo spi to) = ⊤
IsOfCommand (SetNumber spi number) = ⊤
IsOfCommand (SetWindow spi window) = ⊤
IsOfCommand (Accepted spi key number floor) = ⊥
IsOfCommand Nothing = ⊤

-- of a key neither mark nor floor falls
pub record NumbersRise (old new : State) (key : ℕ) : Type 0 where
  pub mark : mark_of old key ≤ mark_of new key
  pub floor : floor_of old key ≤ floor_of new key

-- the reply accepts a number above the floor of its key
pub record RaisesFloor (state : State) (reply : OpenReply) : Type 0 where
  pub spi : ℕ
  pub key : ℕ
  pub number : ℕ
  pub from : ℕ
  pub to : ℕ
  pub is : reply ≡ opens.Accepted spi key number from to
  pub above : floor_of state key < number

-- the number is below each word that a release of the key saw, of the entries from a place on
abbrev pub IsBelowReleases : List Entry → ℕ → ℕ → ℕ → Type 0
IsBelowReleases entries from key number = (place : ℕ) (entry : Entry) (word mark floor : ℕ) → from ≤ place
    → slice_get entries place ≡ Some entry → entry.seen ≡ Word word → entry.change ≡ Marks key mark floor
    → number < word

-- the epoch began with the state after the first so many entries
pub record BeginsAt (start : State) (entries : List Entry) (epoch place : ℕ) : Type 0 where
  pub within : place ≤ length entries
  pub state : at_epoch start entries epoch ≡ after_first start entries place
  pub counted : epoch_after (take place entries) ≡ epoch
