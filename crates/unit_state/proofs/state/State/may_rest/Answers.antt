use Rattle.std.proofs.Common.{◌≡◌, true, false, sym, ◌∙◌}
use Rattle.std.specs.List.{list_any}
use Rattle.std.proofs.lemmas.Bool.{false≢true}
use Rattle.unit_state.proofs.Moves.{moves_to, moves_from, is_held}
use Rattle.unit_state.proofs.state.State.may_rest.Goals as goal

pub returns-then-are_held : goal.returns-then-are_held
returns-then-are_held c =
    let held : list_any (is_held c.args.self.now.associations) c.args.ids.now ≡ true =
    cc (c.are_held.ensures, c.as_slice.ensures, c.if-are_held.true) in (
      λ e. absurd (false≢true e),
      λ e. sym (moves_to c.args.self.now.keys c.args.ids.now c.args.self.now.associations e).1 ∙ held,
    )

pub returns : goal.returns
returns c =
    let free : list_any (is_held c.args.self.now.associations) c.args.ids.now ≡ false =
    cc (c.are_held.ensures, c.as_slice.ensures, c.if-are_held.false) in (
      λ e. moves_from c.args.self.now.keys c.args.ids.now c.args.self.now.associations (c.follows.ensures.0 e) free,
      λ e. c.follows.ensures.1 (moves_to c.args.self.now.keys c.args.ids.now c.args.self.now.associations e).0,
    )
