-- Which keys associations receive with (profile).
use Rattle.std.specs.Prelude.{◌≡◌, ℕ, ◌%◌, Bool, true, false, List, None, slice_index_or}
use Rattle.sa_book.specs.declared.sa_book.SaRow.{SaRow}
use Rattle.sa_book.specs.SaRefusal.{receives_with, receiver_with}
use Rattle.unit_book.specs.declared.accepting.TheConstants.{PLACES}

-- the place of a key
abbrev pub noted_at : ℕ → ℕ
noted_at key = key % PLACES

-- the place of a key is noted
abbrev pub is_noted : ℕ → List Bool → Bool
is_noted key places = slice_index_or places (noted_at key) true

-- a key whose place is not noted is one that none of these associations receives with
abbrev pub TellsReceivers : List SaRow → List Bool → Type 0
TellsReceivers associations places = (key : ℕ) → is_noted key places ≡ false → receiver_with associations key ≡ None

-- one association more is told of: a key whose place is not noted was not before, and it does not receive with it
abbrev pub NotesRow : SaRow → List Bool → List Bool → Type 0
NotesRow row old new = (key : ℕ) → is_noted key new ≡ false → (is_noted key old ≡ false)
    × (receives_with key row ≡ false)
