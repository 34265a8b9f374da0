use Rattle.std.proofs.Common.{Some, sym, ap, ◌∙◌}
use Rattle.unit_state.specs.State.{association_row}
use Rattle.frame_checks.proofs.Rows.{bound_link, bound_to, named_keeps, named_row}
use Rattle.frame_checks.proofs.opening_frames.opener_of.Goals as goal

pub binding_of-requires-clause-row : goal.binding_of-requires-clause-row
binding_of-requires-clause-row c =
    (named_keeps c.args.state.now c.in-Ok.ensures.found.room c.in-Ok.addressed.row.now c.requires
    c.in-Ok.ensures.found.named).rules

pub binding_of-requires-clause-key : goal.binding_of-requires-clause-key
binding_of-requires-clause-key c =
    (named_keeps c.args.state.now c.in-Ok.ensures.found.room c.in-Ok.addressed.row.now c.requires
    c.in-Ok.ensures.found.named).key

pub returns : goal.returns
returns c =
    let b = c.binding_of.result in
    let row = c.in-Ok.addressed.row.now in
    let line = c.in_ok-line.line.now in
    let bound = bound_to c.args.plan.now c.args.state.now line row b c.binding_of.ensures.bound in
    record {
      line = sym c.in_ok-line.ensures.line ∙ ap Some (sym bound.link);
      binding = c.binding_of.ensures.binding;
      row = row;
      there = ap (association_row c.args.state.now) bound.index ∙ named_row c.args.state.now c.in-Ok.ensures.found.room
          row c.in-Ok.ensures.found.named;
      passes = sym c.refusal_of.ensures ∙ c.in_default-refusal_of.is;
      bound = bound_link c.args.plan.now c.args.state.now line row b c.binding_of.ensures.bound;
    }
