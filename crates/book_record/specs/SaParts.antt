-- The row of a security association in a bank (profile): 32 octets.
use Rattle.std.specs.Prelude.{◌≡◌, ℕ, ◌^◌, ◌<◌, List, ◌∷◌, ◌++◌, length, Option, IfSome, unwrap_or}
use Rattle.std.specs.Int.{w16, w64, to_be_bytes}
use Rattle.sdls_base.specs.Bounds.{AreChannels}
use Rattle.sdls_base.specs.Code.{direction_code, suite_code, sa_state_code}
use Rattle.book_record.specs.declared.data.TheConstants.{SA_ROW_LENGTH, CHANNEL_ROOM}
use Rattle.book_record.specs.declared.sa_rows.SaParts.{SaParts}
use Rattle.book_record.specs.declared.sa_rows.SaView.{SaView}
use Rattle.replay_window.specs.Window.{field_of, new_window}
use Rattle.sa_book.specs.declared.sa_book.SaRow.{SaRow}
use Rattle.book_record.specs.Padded.{padded}
use Rattle.book_record.specs.Record.{IsKey, IsSpi}

-- what the row of an association says: all but the numbers that were accepted
abbrev pub sa_parts : SaRow → SaParts
sa_parts row = record {
  sa = record {
    spi = row.spi;
    direction = row.direction;
    suite = row.suite;
    window = field_of row.window;
    channels = row.channels;
  };
  state = row.state;
  key = row.key;
}

-- the window of an association begins at a number
abbrev pub BeginsAt : ℕ → SaRow → Type 0
BeginsAt high row = row.window ≡ new_window high (field_of row.window)

-- the parts that a view shows
abbrev pub viewed : SaView → SaParts
viewed view = record {
  sa = record {
    spi = view.spi;
    direction = view.direction;
    suite = view.suite;
    window = view.window;
    channels = view.channels.now;
  };
  state = view.state;
  key = view.key;
}

-- the key's identifier, or 0 where there is none
abbrev pub held_code : Option ℕ → ℕ
held_code key = unwrap_or key 0

-- index, direction, suite, state, key, count of channels, channels with zeros behind them, window, zeros to the end
unfoldable pub sa_row_octets : SaParts → List ℕ
sa_row_octets parts = padded SA_ROW_LENGTH
    (to_be_bytes w16 parts.sa.spi ++ direction_code parts.sa.direction ∷ suite_code parts.sa.suite
    ∷ sa_state_code parts.state ∷ (to_be_bytes w16 (held_code parts.key) ++ length parts.sa.channels
    ∷ (padded CHANNEL_ROOM parts.sa.channels ++ to_be_bytes w64 parts.sa.window)))

-- the parts are values of their types
pub record HasSaTypes (parts : SaParts) : Type 0 where
  pub spi : IsSpi parts.sa.spi
  pub key : IfSome parts.key IsKey
  pub window : parts.sa.window < 2 ^ 64

-- the octets are the row of an association with these parts; the width of the window is not bounded here
pub record AreSaRowOctets (parts : SaParts) (row : List ℕ) : Type 0 where
  pub types : HasSaTypes parts
  pub fits : AreChannels parts.sa.channels
  pub spelled : row ≡ sa_row_octets parts
