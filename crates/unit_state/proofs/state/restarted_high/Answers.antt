use Rattle.std.proofs.Common.{◌≡◌, Some, rules}
use Rattle.sdls_base.specs.declared.states.Direction.TheVariants.{Receive}
use Rattle.key_book.specs.KeyRow.{IsKeyRow}
use Rattle.key_book.specs.KeyBook.{row_of}
use Rattle.unit_state.proofs.Floors.{floor_fits}
use Rattle.unit_state.proofs.state.restarted_high.Goals as goal

pub returns-in-Some-clause-fits : goal.returns-in-Some-clause-fits
returns-in-Some-clause-fits c = λ _.
    let key = c.in-Receive-Some.key in
    let receives : c.args.row.now.direction ≡ Receive = search rules in
    let holds : c.args.row.now.key ≡ Some key = search rules in
    let found : row_of c.args.keys.now key ≡ Some c.in-Some.held.now = search rules in
    let is_row : IsKeyRow c.in-Some.held.now = search rules in
    floor_fits c.args.keys.now c.in-Some.held.now c.args.row.now.direction c.args.row.now.key key receives holds found
    is_row
