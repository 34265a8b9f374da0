-- What an association asks of a key and a number that it is given (profile).
use Rattle.std.specs.Prelude.{ℕ, ◌+◌, Option}
use Rattle.sdls_base.specs.declared.states.Direction.{Direction}
use Rattle.sdls_base.specs.declared.states.Direction.TheVariants.{Send, Receive}
use Rattle.key_book.specs.declared.key_row.KeyRow.{KeyRow}
use Rattle.sa_book.specs.declared.sa_book.SaRow.{SaRow}
use Rattle.sa_book.specs.declared.refusals.SaRefusal.{SaRefusal}
use Rattle.sa_book.specs.SaRefusal.{rekey_refusal}
use Rattle.unit_state.specs.declared.state.State.{State}

-- the least lawful number of an association with a key: this word for a sending one, and for a receiving one the number
-- above the key's floor
abbrev pub least_with : ℕ → Direction → KeyRow → ℕ
least_with word Send held = word
least_with word Receive held = held.floor + 1

-- what the association's book says of a key that is there, with the least number by this word
abbrev pub taking_refusal : State → ℕ → ℕ → ℕ → ℕ → SaRow → KeyRow → Option SaRefusal
taking_refusal state spi key number word row held =
    rekey_refusal state.associations spi key held.state number (least_with word row.direction held)
