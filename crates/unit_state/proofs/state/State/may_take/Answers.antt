use Rattle.std.proofs.Common.{[]}
use Rattle.sa_book.specs.SaBook.{in_use}
use Rattle.unit_state.proofs.Moves.{moves_any, unless_deactivated}
use Rattle.unit_state.proofs.state.State.may_take.Goals as goal

pub returns-in_default : goal.returns-in_default
returns-in_default c =
    rw (← (moves_any c.args.self.now.keys c.args.ids.now c.args.to [] (in_use c.args.self.now.associations)
    (unless_deactivated c.args.to c.in_default.not-Deactivated))) c.follows.ensures
