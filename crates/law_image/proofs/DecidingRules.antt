-- Whether a state keeps its rules, and its rows are of their types: for `refused_exactly`.
use Rattle.std.proofs.Common.{◌≡◌, ◌≢◌, ℕ, ◌^◌, List, [], length, Option, Some, None, IsSomeAnd, refl, inl, inr}
use Rattle.sha2.specs.Sha256.{sha256}
use Rattle.sdls_base.specs.declared.TheConstants.{MOST_ASSOCIATIONS, MOST_KEYS}
use Rattle.sdls_base.specs.KeyId.{class_of, end_of}
use Rattle.sdls_base.specs.Suite.{class_of_suite}
use Rattle.sdls_base.specs.declared.key_id.KeyClass.{KeyClass}
use Rattle.sdls_base.specs.declared.key_id.KeyClass.TheVariants.{Master, Gcm, Cmac}
use Rattle.sdls_base.specs.declared.states.Direction.{Direction}
use Rattle.sdls_base.specs.declared.states.Direction.TheVariants.{Send, Receive}
use Rattle.sdls_base.specs.declared.states.KeyState.{KeyState}
use Rattle.sdls_base.specs.declared.states.KeyState.TheVariants.{PreActive, Active, Deactivated, Destroyed}
use Rattle.sdls_base.specs.declared.states.SaState.{SaState}
use Rattle.sdls_base.specs.declared.states.SaState.TheVariants.{Unkeyed, Keyed, Operational}
use Rattle.key_book.specs.declared.key_row.KeyRow.{KeyRow}
use Rattle.key_book.specs.KeyRow.{HasBytes, IsKeyRow}
use Rattle.key_book.specs.KeyBook.{IsKeyBook, row_of}
use Rattle.sa_book.specs.declared.sa_book.SaRow.{SaRow}
use Rattle.replay_window.specs.declared.TheConstants.{MOST_BACK}
use Rattle.replay_window.specs.Window.{field_of}
use Rattle.sa_book.specs.SaRow.{HasHigh, IsSaRow}
use Rattle.sa_book.specs.SaBook.{IsSaBook, RowsAreApart}
use Rattle.unit_state.specs.declared.state.State.{State}
use Rattle.unit_state.specs.State.{HasKey, KeepsRules, MayHold}
use Rattle.book_record.specs.KeyParts.{HasKeyTypes}
use Rattle.book_record.specs.Record.{IsKey}
use Rattle.book_record.specs.SaParts.{HasSaTypes, sa_parts}
use Rattle.unit_image.specs.ContentReading.{IsTypedKey, IsTypedSa}
use Rattle.law_image.proofs.Deciding.{Decided, decided_all, decided_and, decided_as, decided_channels, decided_eq}
use Rattle.law_image.proofs.Deciding.{decided_four, decided_key_length, decided_le, decided_lt, decided_not, decided_or}
use Rattle.law_image.proofs.Deciding.{decided_some_and, decided_three, decided_width}
use Rattle.law_image.proofs.DecidingLists.{decided_apart, decided_if, decided_if_some, decided_is_none, decided_octets}
use Rattle.law_image.proofs.DecidingLists.{decided_pairs}

-- ---- states, directions, classes

active : (state : KeyState) → Decided (state ≡ Active)
active PreActive = inr (λ is. cc)
active Active = inl refl
active Deactivated = inr (λ is. cc)
active Destroyed = inr (λ is. cc)

unkeyed : (state : SaState) → Decided (state ≡ Unkeyed)
unkeyed Unkeyed = inl refl
unkeyed Keyed = inr (λ is. cc)
unkeyed Operational = inr (λ is. cc)

operational : (state : SaState) → Decided (state ≡ Operational)
operational Unkeyed = inr (λ is. cc)
operational Keyed = inr (λ is. cc)
operational Operational = inl refl

same_direction : (a b : Direction) → Decided (a ≡ b)
same_direction Send Send = inl refl
same_direction Send Receive = inr (λ is. cc)
same_direction Receive Send = inr (λ is. cc)
same_direction Receive Receive = inl refl

same_class : (a b : KeyClass) → Decided (a ≡ b)
same_class Master Master = inl refl
same_class Master Gcm = inr (λ is. cc)
same_class Master Cmac = inr (λ is. cc)
same_class Gcm Master = inr (λ is. cc)
same_class Gcm Gcm = inl refl
same_class Gcm Cmac = inr (λ is. cc)
same_class Cmac Master = inr (λ is. cc)
same_class Cmac Gcm = inr (λ is. cc)
same_class Cmac Cmac = inl refl

-- ---- keys

has_bytes : (state : KeyState) (bytes digest : List ℕ) → Decided (HasBytes state bytes digest)
has_bytes PreActive bytes digest =
    decided_and (decided_key_length (length bytes)) (decided_octets digest (sha256 bytes))
has_bytes Active bytes digest = decided_and (decided_key_length (length bytes)) (decided_octets digest (sha256 bytes))
has_bytes Deactivated bytes digest =
    decided_and (decided_key_length (length bytes)) (decided_octets digest (sha256 bytes))
has_bytes Destroyed bytes digest = decided_octets bytes []

key_rules : (row : KeyRow) → Decided (IsKeyRow row)
key_rules row = decided_as
    (decided_four (has_bytes row.state row.bytes row.digest) (decided_le 1 row.mark)
    (decided_le row.mark (end_of row.id))
    (decided_lt row.floor (end_of row.id)))
    (λ all. record { bytes = all.0; mark_from_one = all.1; mark_to_end = all.2; floor_below_end = all.3 })
    (λ is. (is.bytes, is.mark_from_one, is.mark_to_end, is.floor_below_end))

key_book : (rows : List KeyRow) → Decided (IsKeyBook rows)
key_book rows = decided_as
    (decided_four (decided_le (length rows) MOST_KEYS) (decided_all IsKeyRow key_rules rows)
    (decided_pairs (λ a b. a.id ≢ b.id) (λ a b. decided_not (decided_eq a.id b.id)) rows)
    (decided_pairs (λ a b. a.digest ≢ b.digest) (λ a b. decided_not (decided_octets a.digest b.digest)) rows))
    (λ all. record { most = all.0; rules = record { each = all.1; identifiers = all.2; digests = all.3 } })
    (λ is. (is.most, is.rules.each, is.rules.identifiers, is.rules.digests))

key_types : (row : KeyRow) → Decided (HasKeyTypes row)
key_types row = decided_as
    (decided_four (decided_and (decided_lt 0 row.id) (decided_lt row.id (2 ^ 16))) (decided_eq (length row.digest) 32)
    (decided_lt row.mark (2 ^ 64)) (decided_lt row.floor (2 ^ 64)))
    (λ all. record { id = all.0; digest = all.1; mark = all.2; floor = all.3 })
    (λ is. (is.id, is.digest, is.mark, is.floor))

-- a row is one of its types
pub decided_key : (row : KeyRow) → Decided (IsTypedKey row)
decided_key row = decided_as
    (decided_and (key_types row) (decided_or (decided_eq (length row.bytes) 0) (decided_key_length (length row.bytes))))
    (λ both. record { types = both.0; fits = both.1; spelled = refl })
    (λ is. (is.types, is.fits))

-- ---- associations

has_high : (direction : Direction) (key : Option ℕ) (high : ℕ) → Decided (HasHigh direction key high)
has_high Receive (Some key) high = decided_lt high (end_of key)
has_high Receive None high = decided_eq high 0
has_high Send key high = decided_eq high 0

sa_rules : (row : SaRow) → Decided (IsSaRow row)
sa_rules row = decided_as
    (decided_four
    (decided_and
    (decided_and (decided_if (unkeyed row.state) (decided_is_none row.key))
    (decided_if (decided_is_none row.key) (unkeyed row.state)))
    (decided_if_some (λ key. class_of key ≡ class_of_suite row.suite)
    (λ key. same_class (class_of key) (class_of_suite row.suite)) row.key))
    (has_high row.direction row.key row.window.high)
    (decided_and (decided_width row.window.width) (decided_le row.window.back MOST_BACK))
    (decided_channels row.channels))
    (λ all. record {
      keyless = all.0.0;
      suite = all.0.1;
      high = all.1;
      width = all.2.0;
      back = all.2.1;
      channels = all.3;
    })
    (λ is. ((is.keyless, is.suite), is.high, (is.width, is.back), is.channels))

-- no key is held by both
no_key : (one other : Option ℕ) → Decided ((key : ℕ) → one ≡ Some key → other ≡ Some key → ⊥)
no_key None other = inl (λ key a b. absurd cc)
no_key (Some x) None = inl (λ key a b. absurd cc)
no_key (Some x) (Some y) = elim (decided_eq x y) [
  | inl same ↦ inr (λ off. off x refl cc)
  | inr apart ↦ inl (λ key a b. apart cc)
]

rows_apart : (a b : SaRow) → Decided (RowsAreApart a b)
rows_apart a b = decided_as
    (decided_three (decided_lt a.spi b.spi)
    (decided_if (operational a.state)
    (decided_if (operational b.state) (decided_if (same_direction a.direction b.direction)
    (decided_apart a.channels b.channels))))
    (decided_if (same_direction a.direction Receive)
    (decided_if (same_direction b.direction Receive) (no_key a.key b.key))))
    (λ all. record { order = all.0; channels = all.1; keys = all.2 })
    (λ is. (is.order, is.channels, is.keys))

sa_book : (rows : List SaRow) → Decided (IsSaBook rows)
sa_book rows = decided_as
    (decided_three (decided_le (length rows) MOST_ASSOCIATIONS) (decided_all IsSaRow sa_rules rows)
    (decided_pairs RowsAreApart rows_apart rows))
    (λ all. record { most = all.0; each = all.1; apart = all.2 })
    (λ is. (is.most, is.each, is.apart))

sa_types : (row : SaRow) → Decided (HasSaTypes (sa_parts row))
sa_types row = decided_as
    (decided_three (decided_and (decided_lt 0 row.spi) (decided_lt row.spi 65535))
    (decided_if_some IsKey (λ key. decided_and (decided_lt 0 key) (decided_lt key (2 ^ 16))) row.key)
    (decided_lt (field_of row.window) (2 ^ 64)))
    (λ all. record { spi = all.0; key = all.1; window = all.2 })
    (λ is. (is.spi, is.key, is.window))

pub decided_association : (row : SaRow) → Decided (IsTypedSa row)
decided_association row = decided_as (decided_and (sa_types row) (decided_channels row.channels))
    (λ both. record { types = both.0; fits = both.1; spelled = refl })
    (λ is. (is.types, is.fits))

-- ---- both

may_hold : (row : SaRow) (held : KeyRow) → Decided (MayHold row held)
may_hold row held = decided_as (decided_and (active held.state) (decided_le row.window.high held.floor))
    (λ both. record { active = both.0; floor = both.1 }) (λ is. (is.active, is.floor))

has_key : (keys : List KeyRow) (row : SaRow) → Decided (HasKey keys row)
has_key keys row = decided_if_some (λ key. IsSomeAnd (row_of keys key) (MayHold row))
    (λ key. decided_some_and (MayHold row) (may_hold row) (row_of keys key)) row.key

pub decided_rules : (state : State) → Decided (KeepsRules state)
decided_rules state = decided_as
    (decided_three (key_book state.keys) (sa_book state.associations)
    (decided_all (HasKey state.keys) (has_key state.keys) state.associations))
    (λ all. record { keys = all.0; associations = all.1; held = all.2 })
    (λ is. (is.keys, is.associations, is.held))
