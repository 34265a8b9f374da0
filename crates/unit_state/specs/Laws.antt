-- What the laws of states say.
use Rattle.std.specs.Prelude.{◌≡◌, ℕ, ◌<◌, ◌≤◌, ⊤, List, [], AllPairs, Some, IfSome, IsSomeAnd}
use Rattle.std.specs.Option.{option_map}
use Rattle.key_book.specs.declared.key_row.KeyRow.{KeyRow}
use Rattle.key_book.specs.KeyBook.{place_of}
use Rattle.sa_book.specs.SaBook.{sender_on}
use Rattle.sdls_base.specs.declared.entry.Change.{Change}
use Rattle.sdls_base.specs.declared.entry.Change.TheVariants.{Marks, Load, KeyStates, Create, Rekey, SaTo, SetNumber}
use Rattle.sdls_base.specs.declared.entry.Change.TheVariants.{SetWindow, Accepted, Nothing}
use Rattle.unit_state.specs.declared.state.State.{State}
use Rattle.unit_state.specs.State.{key_row}
use Rattle.unit_state.specs.Applied.{applied}
use Rattle.unit_state.specs.Allows.{Allows}
use Rattle.unit_state.specs.Restart.{AreAlike, IsStorable, still_key, still_association}

-- numbers of a key that did not fall
pub record RowRises (old new : KeyRow) : Type 0 where
  pub mark : old.mark ≤ new.mark
  pub floor : old.floor ≤ new.floor

-- each key that is there is there again, with numbers that did not fall
abbrev pub Rises : State → State → Type 0
Rises old new = (id : ℕ) → IfSome (key_row old id) (λ held. IsSomeAnd (key_row new id) (RowRises held))

-- Numbers of a key that fall only where those of a change of its marks are below them, and then to these.
pub record FallsOnlyTo (key to_mark to_floor : ℕ) (old new : KeyRow) : Type 0 where
  pub mark : new.mark < old.mark → (old.id ≡ key) × (new.mark ≡ to_mark)
  pub floor : new.floor < old.floor → (old.id ≡ key) × (new.floor ≡ to_floor)

-- each key that is there is there again, with numbers that fell only so
abbrev pub FallOnlyTo : State → State → ℕ → ℕ → ℕ → Type 0
FallOnlyTo old new key mark floor =
    (id : ℕ) → IfSome (key_row old id) (λ held. IsSomeAnd (key_row new id) (FallsOnlyTo key mark floor held))

-- a change but that of marks
abbrev pub IsNoMarks : Change → Type 0
IsNoMarks (Marks key mark floor) = ⊥
IsNoMarks (Load items) = ⊤
IsNoMarks (KeyStates ids to) = ⊤
IsNoMarks (Create new) = ⊤
IsNoMarks (Rekey spi key number) = ⊤
IsNoMarks (SaTo spi to) = ⊤
IsNoMarks (SetNumber spi number) = ⊤
IsNoMarks (SetWindow spi window) = ⊤
IsNoMarks (Accepted spi key number floor) = ⊤
IsNoMarks Nothing = ⊤

-- a key keeps its place
abbrev pub KeepsPlaces : State → State → Type 0
KeepsPlaces old new = (id place : ℕ) → place_of old.keys id ≡ Some place → place_of new.keys id ≡ Some place

-- no two keys that are there have the same octets
abbrev pub HaveOwnBytes : List KeyRow → Type 0
HaveOwnBytes rows = AllPairs (λ a b. a.bytes ≡ b.bytes → a.bytes ≡ []) rows

-- The same sender on each channel, and the same row of each key, but for marks, floors and accepted numbers.
pub record ServeAlike (one other : State) : Type 0 where
  pub sender : (channel : ℕ) → option_map still_association (sender_on one.associations channel)
      ≡ option_map still_association (sender_on other.associations channel)
  pub key : (id : ℕ) → option_map still_key (key_row one id) ≡ option_map still_key (key_row other id)

-- the change that is stored for another may be stored, is allowed, and after a restart leaves the same
pub record StoresWell (state : State) (change stored : Change) : Type 0 where
  pub storable : IsStorable stored
  pub allowed : Allows state stored
  pub alike : AreAlike (applied state change) (applied state stored)
