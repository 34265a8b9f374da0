use Rattle.std.proofs.Common.{◌≡◌, subst, arith}
use Rattle.ep_core.specs.declared.judging.Need.{Need}
use Rattle.ep_core.specs.Seen.{MeetsNeed}
use Rattle.unit_state.specs.declared.state.State.{State}
use Rattle.cases_unit_book.proofs.OneNeed.{same_need}
use Rattle.cases_unit_book.proofs.table.Unit.answered.Goals as goal

-- what was seen fits the need that was told, and there is no other
pub command-requires-clause-seen : goal.command-requires-clause-seen
command-requires-clause-seen g t other h =
    let octets = t.args.message.now in
    let state = t.self.inside.book.state in
    let fits : MeetsNeed state t.in-Ok.need t.args.seen =
    subst (λ (s : State). MeetsNeed s t.in-Ok.need t.args.seen) t.state.ensures
    (t.fits.ensures.0 t.if-not-fits.false) in
    let same : t.in-Ok.need ≡ other =
    same_need octets (λ a b. t.one_command.ensures a b octets)
    (λ command is.
    (t.command_without_fault.ensures octets (λ i. let fits = t.type_inv.message i in omega (arith, fits))).1
    (command, is)) state t.in-Ok.need other t.in-Ok.ensures h in
    subst (λ (need : Need). MeetsNeed state need t.args.seen) same fits
