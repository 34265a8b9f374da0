-- What stands at the places of a body, and when it may stand there (profile).
use Rattle.std.specs.Prelude.{◌≡◌, ⊤, ℕ, zero, suc, ◌+◌, ◌≤◌, List, [], ◌∷◌, take, drop, Option, Result}
use Rattle.std.specs.Prelude.{Ok, Err}
use Rattle.std.specs.Option.{option_map}
use Rattle.sdls_base.specs.Bounds.{AreChannels, IsKeyLength, IsKeyCount}
use Rattle.sdls_base.specs.Code.{key_state_of, new_state_of, direction_of, suite_of}
use Rattle.sdls_base.specs.Places.{octet_at, word_at, number_at}
use Rattle.sdls_base.specs.declared.entry.Change.{Change}
use Rattle.sdls_base.specs.declared.entry.Change.TheVariants.{Marks, Load, KeyStates, Create, Rekey, SaTo, SetNumber}
use Rattle.sdls_base.specs.declared.entry.Change.TheVariants.{SetWindow}
use Rattle.sdls_base.specs.declared.key_id.KeyItem.{KeyItem}
use Rattle.book_record.specs.declared.data.Kind.{Kind}
use Rattle.book_record.specs.declared.data.Kind.TheVariants as kinds
use Rattle.book_record.specs.declared.data.RecordError.{RecordError}
use Rattle.book_record.specs.declared.data.RecordError.TheVariants.{Malformed, NoMemory}
use Rattle.book_record.specs.Kind.{kind_of}
use Rattle.book_record.specs.Record.{IsKey, IsSpi}

-- ---- answers

-- The value is read, unless memory ran out.
abbrev pub IsReadUnlessNoMemory : {X : Type 0} → Result X RecordError → X → Type 0
IsReadUnlessNoMemory (Ok x) value = x ≡ value
IsReadUnlessNoMemory (Err e) value = e ≡ NoMemory

-- the error has this cause; lack of memory needs none
abbrev pub HasCause : RecordError → Type 0 → Type 0
HasCause Malformed Cause = Cause
HasCause NoMemory Cause = ⊤

-- What a reader of a field answers: its value where what stands there may, and else `Malformed`.
abbrev pub JudgesField : {X : Type 0} → Result X RecordError → Type 0 → X → Type 0
JudgesField (Ok x) MayStand value = MayStand × (x ≡ value)
JudgesField (Err e) MayStand value = HasCause e (¬ MayStand)

-- a number from the least to the most
pub record IsWithin (least most n : ℕ) : Type 0 where
  pub from : least ≤ n
  pub to : n ≤ most

-- ---- lists, from a place on

-- so many keys, two octets each
abbrev pub keys_in : ℕ → ℕ → List ℕ → List ℕ
keys_in zero at octets = []
keys_in (suc count) at octets = word_at at octets ∷ keys_in count (at + 2) octets

abbrev pub AreKeys : ℕ → ℕ → List ℕ → Type 0
AreKeys zero at octets = ⊤
AreKeys (suc count) at octets = IsKey (word_at at octets) × AreKeys count (at + 2) octets

-- a key to be loaded, whose length stands behind its identifier
abbrev pub item_at : ℕ → List ℕ → KeyItem
item_at at octets = record { id = word_at at octets; bytes = take (octet_at (at + 2) octets) (drop (at + 3) octets) }

abbrev pub IsItem : ℕ → List ℕ → Type 0
IsItem at octets = IsKey (word_at at octets) × IsKeyLength (octet_at (at + 2) octets)

-- the place behind it
abbrev pub behind_item : ℕ → List ℕ → ℕ
behind_item at octets = at + 3 + octet_at (at + 2) octets

-- so many keys to be loaded
abbrev pub items_in : ℕ → ℕ → List ℕ → List KeyItem
items_in zero at octets = []
items_in (suc count) at octets = item_at at octets ∷ items_in count (behind_item at octets) octets

abbrev pub AreItems : ℕ → ℕ → List ℕ → Type 0
AreItems zero at octets = ⊤
AreItems (suc count) at octets = IsItem at octets × AreItems count (behind_item at octets) octets

-- channels behind their count
abbrev pub channels_at : ℕ → List ℕ → List ℕ
channels_at at octets = take (octet_at at octets) (drop (at + 1) octets)

-- ---- the change that a body of each kind says

unfoldable pub change_at : Kind → List ℕ → Change
change_at kinds.Marks octets = Marks (word_at 3 octets) (number_at 5 octets) (number_at 13 octets)
change_at kinds.Load octets = Load (items_in (octet_at 3 octets) 4 octets)
change_at kinds.KeyStates octets = KeyStates (keys_in (octet_at 4 octets) 5 octets) (key_state_of (octet_at 3 octets))
change_at kinds.Create octets = Create (record {
  spi = word_at 3 octets;
  direction = direction_of (octet_at 5 octets);
  suite = suite_of (octet_at 6 octets);
  window = number_at 7 octets;
  channels = channels_at 15 octets;
})
change_at kinds.Rekey octets = Rekey (word_at 3 octets) (word_at 5 octets) (number_at 7 octets)
change_at kinds.SaTo octets = SaTo (word_at 3 octets) (new_state_of (octet_at 5 octets))
change_at kinds.SetNumber octets = SetNumber (word_at 3 octets) (number_at 5 octets)
change_at kinds.SetWindow octets = SetWindow (word_at 3 octets) (number_at 5 octets)

-- the change that stands at the places of the body's kind, where it has a kind
abbrev pub change_of : List ℕ → Option Change
change_of octets = option_map (λ kind. change_at kind octets) (kind_of (octet_at 0 octets))

-- what stands at the places of the fields may stand there
unfoldable pub MayStand : Kind → List ℕ → Type 0
MayStand kinds.Marks octets = IsKey (word_at 3 octets)
MayStand kinds.Load octets = IsKeyCount (octet_at 3 octets) × AreItems (octet_at 3 octets) 4 octets
MayStand kinds.KeyStates octets =
    IsWithin 2 4 (octet_at 3 octets) × IsKeyCount (octet_at 4 octets) × AreKeys (octet_at 4 octets) 5 octets
MayStand kinds.Create octets =
    IsSpi (word_at 3 octets) × IsWithin 1 2 (octet_at 5 octets) × IsWithin 1 2 (octet_at 6 octets)
    × AreChannels (channels_at 15 octets)
MayStand kinds.Rekey octets = IsSpi (word_at 3 octets) × IsKey (word_at 5 octets)
MayStand kinds.SaTo octets = IsSpi (word_at 3 octets) × (octet_at 5 octets ≤ 3)
MayStand kinds.SetNumber octets = IsSpi (word_at 3 octets)
MayStand kinds.SetWindow octets = IsSpi (word_at 3 octets)
