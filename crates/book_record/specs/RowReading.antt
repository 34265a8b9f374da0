-- What stands at the places of a row, and when it may stand there (profile).
use Rattle.std.specs.Prelude.{ℕ, ◌==◌, if◌then◌else◌, List, take, drop, Option, Some, None}
use Rattle.sdls_base.specs.Bounds.{AreChannels}
use Rattle.sdls_base.specs.Code.{key_state_of, sa_state_of, direction_of, suite_of}
use Rattle.book_record.specs.declared.data.TheConstants.{DIGEST_LENGTH}
use Rattle.key_book.specs.declared.key_row.KeyRow.{KeyRow}
use Rattle.replay_window.specs.Window.{new_window}
use Rattle.sa_book.specs.declared.sa_book.SaRow.{SaRow}
use Rattle.book_record.specs.KeyParts.{IsRowKeyLength}
use Rattle.sdls_base.specs.Places.{octet_at, word_at, number_at}
use Rattle.book_record.specs.Reading.{IsWithin, channels_at}
use Rattle.book_record.specs.Record.{IsKey, IsSpi}

-- ---- a key's row

abbrev pub key_row_at : List ℕ → KeyRow
key_row_at row = record {
  id = word_at 0 row;
  state = key_state_of (octet_at 2 row);
  bytes = take (octet_at 3 row) (drop 4 row);
  digest = take DIGEST_LENGTH (drop 36 row);
  mark = number_at 68 row;
  floor = number_at 76 row;
}

abbrev pub MayBeKeyRow : List ℕ → Type 0
MayBeKeyRow row = IsKey (word_at 0 row) × IsWithin 1 4 (octet_at 2 row) × IsRowKeyLength (octet_at 3 row)

-- ---- an association's row

-- the key that a number names: 0 names none
abbrev pub held_of : ℕ → Option ℕ
held_of number = if number == 0 then None else Some number

-- its window begins at 0, since the highest number is not in the octets
abbrev pub sa_row_at : List ℕ → SaRow
sa_row_at row = record {
  spi = word_at 0 row;
  direction = direction_of (octet_at 2 row);
  suite = suite_of (octet_at 3 row);
  state = sa_state_of (octet_at 4 row);
  key = held_of (word_at 5 row);
  channels = channels_at 7 row;
  window = new_window 0 (number_at 16 row);
}

abbrev pub MayBeSaRow : List ℕ → Type 0
MayBeSaRow row = IsSpi (word_at 0 row) × IsWithin 1 2 (octet_at 2 row) × IsWithin 1 2 (octet_at 3 row)
    × IsWithin 1 3 (octet_at 4 row) × AreChannels (channels_at 7 row)
