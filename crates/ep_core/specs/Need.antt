-- What the numbers of a key have to show before a command is decided (profile).
use Rattle.std.specs.Prelude.{ℕ, Bool, true, false, if◌then◌else◌, Option, None, is_some}
use Rattle.std.specs.Option.{option_map_or, option_and_then}
use Rattle.sdls_base.specs.declared.entry.Seen.TheVariants as seen
use Rattle.sdls_base.specs.declared.states.Direction.{Direction}
use Rattle.sdls_base.specs.declared.states.Direction.TheVariants.{Send, Receive}
use Rattle.sa_book.specs.declared.sa_book.SaRow.{SaRow}
use Rattle.unit_state.specs.declared.state.State.{State}
use Rattle.unit_state.specs.State.{association_row}
use Rattle.ep_codec.specs.declared.command.Command.{Command}
use Rattle.ep_codec.specs.declared.command.Command.TheVariants.{Rekeying, Activate, Deactivate, Verify, Destroy}
use Rattle.ep_codec.specs.declared.command.Command.TheVariants.{Inventory, Compose, ReadNumber, Create, Delete}
use Rattle.ep_codec.specs.declared.command.Command.TheVariants.{SetWindow, Rekey, Expire, SetNumber, Start, Stop}
use Rattle.ep_codec.specs.declared.command.Command.TheVariants.{Status}
use Rattle.ep_core.specs.declared.judging.Need.{Need}
use Rattle.ep_core.specs.declared.judging.Need.TheVariants.{Nothing, Look, Raise, Number}
use Rattle.ep_core.specs.Refusals.{refusal_of}

abbrev pub is_sending : Direction → Bool
is_sending Send = true
is_sending Receive = false

-- whether an association sends; a receiving one has its numbers in the state
abbrev pub sends : State → ℕ → Bool
sends state spi = option_map_or (λ row. is_sending row.direction) (association_row state spi) false

-- the key of an association that sends
abbrev pub sending_key_of : SaRow → Option ℕ
sending_key_of row = if is_sending row.direction then row.key else None

abbrev pub sending_key : State → ℕ → Option ℕ
sending_key state spi = option_and_then sending_key_of (association_row state spi)

-- Nothing is needed where a refusal applies whatever the numbers show: with nothing seen, none is below the least
-- lawful one, and none is exhausted.
abbrev pub unless_refused : State → Command → Need → Need
unless_refused state command need = if is_some (refusal_of state command seen.Nothing) then Nothing else need

-- the need of each command
abbrev pub need_of : State → Command → Need
need_of state (Rekeying master vector sealed tag) = Nothing
need_of state (Activate keys) = Nothing
need_of state (Deactivate keys) = Nothing
need_of state (Verify key challenge) = unless_refused state (Verify key challenge) (Number key)
need_of state (Destroy keys) = Nothing
need_of state (Inventory first last) = Nothing
need_of state (Compose master keys) = unless_refused state (Compose master keys) (Number master)
need_of state (ReadNumber spi) = unless_refused state (ReadNumber spi)
    (option_map_or Look (sending_key state spi) Nothing)
need_of state (Create new) = Nothing
need_of state (Delete spi) = Nothing
need_of state (SetWindow spi window) = Nothing
need_of state (Rekey spi key number) =
    unless_refused state (Rekey spi key number) (if sends state spi then Raise key number else Nothing)
need_of state (Expire spi) = Nothing
need_of state (SetNumber spi number) =
    unless_refused state (SetNumber spi number) (option_map_or (λ key. Raise key number) (sending_key state spi)
    Nothing)
need_of state (Start spi) = Nothing
need_of state (Stop spi) = Nothing
need_of state (Status spi) = Nothing
