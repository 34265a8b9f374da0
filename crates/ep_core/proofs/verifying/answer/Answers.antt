use Rattle.std.proofs.Common.{◌≡◌, Some, sym, arith}
use Rattle.sdls_base.specs.declared.key_id.KeyClass.TheVariants.{Cmac}
use Rattle.unit_state.specs.State.{key_row}
use Rattle.ep_core.proofs.SealedFacts.{verify_length, drawn_low}
use Rattle.ep_core.proofs.verifying.answer.Goals as goal

pub answer_challenge-requires-clause-bytes : goal.answer_challenge-requires-clause-bytes
answer_challenge-requires-clause-bytes c =
    let there : key_row c.args.state.now c.args.key ≡ Some c.unwrap.result.1.now =
    sym (rw c.unwrap.ensures at c.find.ensures.row) in
    verify_length c.args.state.now c.args.key c.unwrap.result.1.now c.args.seen.now c.requires.rules there
    c.requires.free

pub answer_challenge-requires-clause-number : goal.answer_challenge-requires-clause-number
answer_challenge-requires-clause-number c =
    λ class. let there : key_row c.args.state.now c.args.key ≡ Some c.unwrap.result.1.now =
    sym (rw c.unwrap.ensures at c.find.ensures.row) in
    let low = drawn_low c.args.state.now c.args.key c.unwrap.result.1.now c.args.seen.now c.requires.rules there
    c.requires.drawn Cmac class in
    omega (arith, c.number_of-number.ensures)
