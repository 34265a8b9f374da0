-- What the rules of a state say of what is found there, for the bounds of numbers and replies.
use Rattle.std.proofs.Common.{◌≡◌, ℕ, ◌+◌, ◌^◌, ◌<◌, ◌≤◌, List, length, Option, Some, None, ap, arith}
use Rattle.std.proofs.lemmas.List.{length-take}
use Rattle.sdls_base.specs.KeyId.{end_of}
use Rattle.sdls_base.specs.declared.states.Direction.{Direction}
use Rattle.sdls_base.specs.declared.states.Direction.TheVariants.{Send, Receive}
use Rattle.key_book.specs.declared.key_book.Inventory.{Inventory}
use Rattle.key_book.specs.declared.key_row.KeyRow.{KeyRow}
use Rattle.key_book.specs.Inventory.{IsInventory}
use Rattle.sa_book.specs.declared.sa_book.SaRow.{SaRow}
use Rattle.sa_book.specs.SaRow.{IsSaRow, HasHigh}
use Rattle.unit_state.specs.declared.state.State.{State}
use Rattle.unit_state.specs.State.{KeepsRules, association_row}
use Rattle.unit_state.proofs.Found.{found}

pub row_rules : (state : State) (spi : ℕ) (row : SaRow) → KeepsRules state → association_row state spi ≡ Some row
    → IsSaRow row
row_rules state spi row rules e = found IsSaRow _ state.associations row e rules.associations.each

end_low : (key : ℕ) → end_of key ≤ 2 ^ 48
end_low key = grind arith

high_low : (direction : Direction) (key : Option ℕ) (high : ℕ) → HasHigh direction key high → high < 2 ^ 48
high_low Send key high has = omega arith
high_low Receive None high has = omega arith
high_low Receive (Some key) high has = omega (arith, end_low key)

pub number_low : (row : SaRow) → IsSaRow row → row.window.high + 1 < 2 ^ 64
number_low row is = omega (arith, high_low row.direction row.key row.window.high is.high)

pub inventory_short : (rows : List KeyRow) (first last : ℕ) (inventory : Inventory)
    → IsInventory rows first last inventory → length inventory.rows ≤ 256
inventory_short rows first last inventory is = omega (arith, ap length is.front, length-take 256 is.sorted)
