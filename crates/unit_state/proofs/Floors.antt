-- The floor of a key is a number that an association with the key may have: for `restarted_high`.
use Rattle.std.proofs.Common.{◌≡◌, ℕ, ◌<◌, List, Option, Some, subst, sym}
use Rattle.sdls_base.specs.KeyId.{end_of}
use Rattle.sdls_base.specs.declared.states.Direction.{Direction}
use Rattle.sdls_base.specs.declared.states.Direction.TheVariants.{Receive}
use Rattle.key_book.specs.declared.key_row.KeyRow.{KeyRow}
use Rattle.key_book.specs.KeyRow.{IsKeyRow}
use Rattle.key_book.specs.KeyBook.{row_of}
use Rattle.sa_book.specs.SaRow.{HasHigh}
use Rattle.unit_state.proofs.Found.{found_passes}
use Rattle.unit_state.proofs.KeyRules.{equal_number}

pub floor_fits : (keys : List KeyRow) (row : KeyRow) (direction : Direction) (held : Option ℕ) (key : ℕ)
    → direction ≡ Receive → held ≡ Some key
    → row_of keys key ≡ Some row → IsKeyRow row → HasHigh direction held row.floor
floor_fits keys row direction held key receives holds is rules =
    let named : row.id ≡ key = equal_number row.id key (found_passes _ keys row is) in
    let below : row.floor < end_of key = subst (λ (id : ℕ). row.floor < end_of id) named rules.floor_below_end in
    subst (λ (d : Direction). HasHigh d held row.floor) (sym receives)
    (subst (λ (own : Option ℕ). HasHigh Receive own row.floor) (sym holds) below)
