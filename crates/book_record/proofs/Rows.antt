-- A row is read again, and what may stand at its places has a row: for `only` of `read_key_row` and `read_sa_row`.
use Rattle.std.proofs.Common.{◌≡◌, ℕ, ◌≤◌, inl, inr, List, ◌∷◌, ◌++◌, length, take, drop, replicate, Option, Some, None}
use Rattle.std.proofs.Common.{refl, sym, ap, ◌∙◌, subst, arith, append_assoc, length-append}
use Rattle.std.specs.Prelude.{◌-◌, if◌then◌else◌, IfSome}
use Rattle.std.specs.Int.{w16, w64, from_be_bytes, to_be_bytes}
use Rattle.std.proofs.Math.Seq.{take-append_seam}
use Rattle.std.proofs.lemmas.Bool.{ne_eqb}
use Rattle.std.proofs.lemmas.List.{drop-drop, drop-replicate, take-append-drop, length-replicate, length-take-le}
use Rattle.std.proofs.lemmas.List.{length-take, length-drop}
use Rattle.sdls_base.proofs.Codes.{key_state_again, sa_state_again, direction_again, suite_again}
use Rattle.sdls_base.proofs.Endings.{drop_front}
use Rattle.sdls_base.proofs.PlaceFacts.{number_in_front}
use Rattle.sdls_base.specs.Bounds.{AreChannels}
use Rattle.sdls_base.specs.Code.{key_state_code, sa_state_code, direction_code, suite_code}
use Rattle.sdls_base.specs.declared.states.KeyState.{KeyState}
use Rattle.sdls_base.specs.declared.states.KeyState.TheVariants.{PreActive, Active, Deactivated, Destroyed}
use Rattle.sdls_base.specs.declared.states.SaState.{SaState}
use Rattle.sdls_base.specs.declared.states.SaState.TheVariants.{Unkeyed, Keyed, Operational}
use Rattle.book_record.specs.declared.data.TheConstants.{KEY_ROW_LENGTH, SA_ROW_LENGTH, KEY_ROOM, CHANNEL_ROOM}
use Rattle.key_book.specs.declared.key_row.KeyRow.{KeyRow}
use Rattle.replay_window.proofs.Fields.{window_field-parts}
use Rattle.book_record.specs.declared.sa_rows.SaParts.{SaParts}
use Rattle.book_record.specs.Padded.{padded}
use Rattle.book_record.specs.KeyParts.{key_row_octets, IsRowKeyLength, HasKeyTypes, AreKeyRowOctets}
use Rattle.book_record.specs.SaParts.{held_code, sa_parts, sa_row_octets, HasSaTypes, AreSaRowOctets}
use Rattle.sdls_base.specs.Places.{octet_at, word_at, number_at}
use Rattle.book_record.specs.Reading.{IsWithin, channels_at}
use Rattle.book_record.specs.Record.{IsKey, IsSpi}
use Rattle.book_record.specs.RowReading.{key_row_at, MayBeKeyRow, held_of, sa_row_at, MayBeSaRow}
use Rattle.book_record.proofs.Again.{key_again, spi_again, number_again, direction_within, suite_within}

-- ---- octets with zeros behind them

pub row_put : (n end : ℕ) (octets row : List ℕ) → end ≡ length octets → take end row ≡ octets
    → drop end row ≡ drop end (replicate n 0) → row ≡ padded n octets
row_put n end octets row e front rest =
    sym (take-append-drop end row) ∙ ap (λ (s : List ℕ). s ++ drop end row) front
    ∙ ap (λ (s : List ℕ). octets ++ s) (rest ∙ drop-replicate end n 0 ∙ ap (λ (m : ℕ). replicate (n - m) 0) e)

pub padded_length : (width : ℕ) (octets : List ℕ) → length octets ≤ width → length (padded width octets) ≡ width
padded_length width octets fits =
    let none : ℕ = 0 in
    omega (
      arith,
      fits,
      length-append octets (replicate (width - length octets) none),
      length-replicate (width - length octets) none,
    )

-- the octets in front of the zeros
pub padded_front : (width : ℕ) (octets rest : List ℕ) → take (length octets) (padded width octets ++ rest) ≡ octets
padded_front width octets rest =
    let zeros = replicate (width - length octets) 0 in
    ap (λ (s : List ℕ). take (length octets) s) (append_assoc octets zeros rest)
    ∙ take-append_seam octets (zeros ++ rest)

-- ---- a key's row

pub row_key_length_small : (n : ℕ) → IsRowKeyLength n → n ≤ 32
row_key_length_small n (inl e) = omega (arith, e)
row_key_length_small n (inr (inl e)) = omega (arith, e)
row_key_length_small n (inr (inr e)) = omega (arith, e)

any_state_within : (state : KeyState) → IsWithin 1 4 (key_state_code state)
any_state_within PreActive = record { from = omega arith; to = omega arith }
any_state_within Active = record { from = omega arith; to = omega arith }
any_state_within Deactivated = record { from = omega arith; to = omega arith }
any_state_within Destroyed = record { from = omega arith; to = omega arith }

pub record KeyRowSays (parts : KeyRow) (row : List ℕ) : Type 0 where
  pub may : MayBeKeyRow row
  pub value : key_row_at row ≡ parts

key_row_again : (parts : KeyRow) → HasKeyTypes parts → IsRowKeyLength (length parts.bytes)
    → KeyRowSays parts (key_row_octets parts)
unfolding key_row_octets
key_row_again parts types fits =
    let row = key_row_octets parts in
    let room = padded KEY_ROOM parts.bytes in
    let marked = to_be_bytes w64 parts.mark in
    let floored = to_be_bytes w64 parts.floor in
    let front = to_be_bytes w16 parts.id ++ key_state_code parts.state ∷ length parts.bytes
    ∷ (room ++ parts.digest ++ marked ++ floored) in
    let zeros = replicate (KEY_ROW_LENGTH - length front) 0 in
    let numbers = marked ++ (floored ++ zeros) in
    let rest = parts.digest ++ numbers in
    let from_key : drop 4 row ≡ room ++ rest =
    append_assoc (room ++ parts.digest ++ marked) floored zeros
    ∙ append_assoc (room ++ parts.digest) marked (floored ++ zeros) ∙ append_assoc room parts.digest numbers in
    let from_digest : drop 36 row ≡ rest =
    sym (drop-drop 32 4 row) ∙ ap (λ (s : List ℕ). drop 32 s) from_key
    ∙ drop_front room rest 32
    (sym (padded_length KEY_ROOM parts.bytes (row_key_length_small (length parts.bytes) fits))) in
    let from_mark : drop 68 row ≡ numbers =
    sym (drop-drop 32 36 row) ∙ ap (λ (s : List ℕ). drop 32 s) from_digest ∙ drop_front parts.digest numbers 32
    (sym types.digest) in
    let from_floor : drop 76 row ≡ floored ++ zeros =
    sym (drop-drop 8 68 row) ∙ ap (λ (s : List ℕ). drop 8 s) from_mark in
    let id : word_at 0 row ≡ parts.id = key_again parts.id types.id in
    let state = key_state_again parts.state in
    let bytes : take (length parts.bytes) (drop 4 row) ≡ parts.bytes =
    ap (λ (s : List ℕ). take (length parts.bytes) s) from_key ∙ padded_front KEY_ROOM parts.bytes rest in
    let digest : take 32 (drop 36 row) ≡ parts.digest =
    ap (λ (s : List ℕ). take 32 s) from_digest ∙ ap (λ (n : ℕ). take n rest) (sym types.digest)
    ∙ take-append_seam parts.digest numbers in
    let mark : number_at 68 row ≡ parts.mark =
    number_in_front 68 row numbers from_mark ∙ number_again parts.mark types.mark in
    let floor : number_at 76 row ≡ parts.floor =
    number_in_front 76 row (floored ++ zeros) from_floor ∙ number_again parts.floor types.floor in
    record {
      may = (subst IsKey (sym id) types.id, any_state_within parts.state, fits);
      value = λ i. record {
        id = id i;
        state = state i;
        bytes = bytes i;
        digest = digest i;
        mark = mark i;
        floor = floor i;
      };
    }

pub key_row_says : (parts : KeyRow) (row : List ℕ) → AreKeyRowOctets parts row → KeyRowSays parts row
key_row_says parts row is = subst (KeyRowSays parts) (sym is.spelled) (key_row_again parts is.types is.fits)

-- the key that may stand there has a length that a row may have
pub row_bytes_fit : (row : List ℕ) → length row ≡ KEY_ROW_LENGTH → MayBeKeyRow row
    → IsRowKeyLength (length (key_row_at row).bytes)
row_bytes_fit row size may =
    subst IsRowKeyLength (sym (length-take-le (octet_at 3 row) (drop 4 row)
    (omega (arith, size, row_key_length_small (octet_at 3 row) may.2, length-drop 4 row)))) may.2

pub key_row_length : (parts : KeyRow) (row : List ℕ) → AreKeyRowOctets parts row → length row ≡ KEY_ROW_LENGTH
unfolding key_row_octets
key_row_length parts row is =
    let room = padded KEY_ROOM parts.bytes in
    let marked = to_be_bytes w64 parts.mark in
    let floored = to_be_bytes w64 parts.floor in
    let front = to_be_bytes w16 parts.id ++ key_state_code parts.state ∷ length parts.bytes
    ∷ (room ++ parts.digest ++ marked ++ floored) in
    let short : length front ≤ KEY_ROW_LENGTH =
    omega (
      arith,
      padded_length KEY_ROOM parts.bytes (row_key_length_small (length parts.bytes) is.fits),
      is.types.digest,
      length-append (room ++ parts.digest ++ marked) floored,
      length-append (room ++ parts.digest) marked,
      length-append room parts.digest,
    ) in
    ap length is.spelled ∙ padded_length KEY_ROW_LENGTH front short

-- no two keys have one row
pub one_key_row : (a b : KeyRow) (row : List ℕ) → AreKeyRowOctets a row → AreKeyRowOctets b row → a ≡ b
one_key_row a b row is also = sym (key_row_says a row is).value ∙ (key_row_says b row also).value

-- ---- an association's row

sa_state_within : (state : SaState) → IsWithin 1 3 (sa_state_code state)
sa_state_within Unkeyed = record { from = omega arith; to = omega arith }
sa_state_within Keyed = record { from = omega arith; to = omega arith }
sa_state_within Operational = record { from = omega arith; to = omega arith }

held_again : (key : Option ℕ) → IfSome key IsKey → held_of (from_be_bytes w16 (to_be_bytes w16 (held_code key))) ≡ key
held_again None is = refl
held_again (Some key) is =
    ap held_of (key_again key is) ∙ ap (λ b. if b then None else Some key) (ne_eqb key 0 (λ e. omega (arith, e, is.0)))

pub record SaRowSays (parts : SaParts) (row : List ℕ) : Type 0 where
  pub may : MayBeSaRow row
  pub value : sa_parts (sa_row_at row) ≡ parts

sa_row_again : (parts : SaParts) → HasSaTypes parts → AreChannels parts.sa.channels
    → SaRowSays parts (sa_row_octets parts)
unfolding sa_row_octets
sa_row_again parts types fits =
    let row = sa_row_octets parts in
    let new = parts.sa in
    let room = padded CHANNEL_ROOM new.channels in
    let front = to_be_bytes w16 new.spi ++ direction_code new.direction ∷ suite_code new.suite
    ∷ sa_state_code parts.state
    ∷ (to_be_bytes w16 (held_code parts.key) ++ length new.channels ∷ (room ++ to_be_bytes w64 new.window)) in
    let zeros = replicate (SA_ROW_LENGTH - length front) 0 in
    let rest = to_be_bytes w64 new.window ++ zeros in
    let from_channels : drop 8 row ≡ room ++ rest = append_assoc room (to_be_bytes w64 new.window) zeros in
    let from_window : drop 16 row ≡ rest =
    sym (drop-drop 8 8 row) ∙ ap (λ (s : List ℕ). drop 8 s) from_channels ∙ drop_front room rest 8
    (sym (padded_length CHANNEL_ROOM new.channels fits.most)) in
    let spi : word_at 0 row ≡ new.spi = spi_again new.spi types.spi in
    let direction = direction_again new.direction in
    let suite = suite_again new.suite in
    let state = sa_state_again parts.state in
    let key : held_of (word_at 5 row) ≡ parts.key = held_again parts.key types.key in
    let channels : channels_at 7 row ≡ new.channels =
    ap (λ (s : List ℕ). take (length new.channels) s) from_channels ∙ padded_front CHANNEL_ROOM new.channels rest in
    let window : (sa_parts (sa_row_at row)).sa.window ≡ new.window =
    window_field-parts (number_at 16 row) ∙ number_in_front 16 row rest from_window
    ∙ number_again new.window types.window in
    record {
      may = (
        subst IsSpi (sym spi) types.spi,
        direction_within new.direction,
        suite_within new.suite,
        sa_state_within parts.state,
        subst AreChannels (sym channels) fits,
      );
      value = λ i. record {
        sa = record { spi = spi i; direction = direction i; suite = suite i; window = window i; channels = channels i };
        state = state i;
        key = key i;
      };
    }

pub sa_row_says : (parts : SaParts) (row : List ℕ) → AreSaRowOctets parts row → SaRowSays parts row
sa_row_says parts row is = subst (SaRowSays parts) (sym is.spelled) (sa_row_again parts is.types is.fits)

pub sa_row_length : (parts : SaParts) (row : List ℕ) → AreSaRowOctets parts row → length row ≡ SA_ROW_LENGTH
unfolding sa_row_octets
sa_row_length parts row is =
    let new = parts.sa in
    let room = padded CHANNEL_ROOM new.channels in
    let front = to_be_bytes w16 new.spi ++ direction_code new.direction ∷ suite_code new.suite
    ∷ sa_state_code parts.state
    ∷ (to_be_bytes w16 (held_code parts.key) ++ length new.channels ∷ (room ++ to_be_bytes w64 new.window)) in
    let short : length front ≤ SA_ROW_LENGTH =
    omega (
      arith,
      padded_length CHANNEL_ROOM new.channels is.fits.most,
      length-append room (to_be_bytes w64 new.window),
    ) in
    ap length is.spelled ∙ padded_length SA_ROW_LENGTH front short

-- no two associations have one row
pub one_sa_row : (a b : SaParts) (row : List ℕ) → AreSaRowOctets a row → AreSaRowOctets b row → a ≡ b
one_sa_row a b row is also = sym (sa_row_says a row is).value ∙ (sa_row_says b row also).value

-- channels that may stand in a row have room there
pub room_for : (row : List ℕ) → length row ≡ SA_ROW_LENGTH → AreChannels (channels_at 7 row) → octet_at 7 row ≤ 8
room_for row size are = omega (arith, size, are.most, length-take (octet_at 7 row) (drop 8 row), length-drop 8 row)
