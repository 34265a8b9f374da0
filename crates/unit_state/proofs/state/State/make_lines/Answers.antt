use Rattle.std.proofs.Common.{◌≡◌, ◌≤◌, List, length, drop, ap, ◌∙◌, sym, subst, take}
use Rattle.unit_state.specs.Initial.{in_order, lines_made}
use Rattle.std.specs.List.{All}
use Rattle.std.proofs.lemmas.Result.{err_from_is_err_and}
use Rattle.std.proofs.lemmas.List.Elements.{All-drop}
use Rattle.unit_plan.specs.declared.plan.PlanKey.{PlanKey}
use Rattle.unit_state.proofs.Starts.{IsKey}
use Rattle.unit_state.proofs.Lines.{count_before, turn_more, keys_refused, association_refused, count_within}
use Rattle.unit_state.proofs.state.State.make_lines.Goals as goal

pub loop-found-preserved : goal.loop-found-preserved
loop-found-preserved c =
    let keys : List PlanKey = c.loop-found.rest.now in
    let front : c.split_at.result.0.now ≡ take (count_before c.found-item.result.line keys) keys =
    c.split_at.ensures.front ∙ ap (λ n. take n keys) c.count_before.ensures in
    let back : c.split_at.result.1.now ≡ drop (count_before c.found-item.result.line keys) keys =
    c.split_at.ensures.back ∙ ap (λ n. drop n keys) c.count_before.ensures in
    record {
      made = c.loop-found.invariant.made ∙ turn_more c.loop-found.self c.make_keys.new.self c.make_association.new.self
          keys c.split_at.result.0.now c.split_at.result.1.now c.args.associations.now c.loop-found.found-index
          c.found-item.result c.loop-found-test.true c.found-item.is front back c.in_ok-make_keys.ensures
          c.in_ok-make_association.ensures;
      lengths =
          subst (All IsKey) (sym back)
          (All-drop IsKey (count_before c.found-item.result.line keys) keys c.loop-found.invariant.lengths);
    }

pub split_at-requires : goal.split_at-requires
split_at-requires c = subst (λ n. n ≤ length c.loop-found.rest.now) (sym c.count_before.ensures)
    (count_within c.found-item.result.line c.loop-found.rest.now)

pub returns-in_err-make_keys : goal.returns-in_err-make_keys
returns-in_err-make_keys c =
    let keys : List PlanKey = c.loop-found.rest.now in
    let front : c.split_at.result.0.now ≡ take (count_before c.found-item.result.line keys) keys =
    c.split_at.ensures.front ∙ ap (λ n. take n keys) c.count_before.ensures in
    let refused = keys_refused c.in_err-make_keys.field-0.0 c.loop-found.self c.make_keys.new.self keys
    c.split_at.result.0.now c.args.associations.now c.loop-found.found-index c.found-item.result
    (lines_made c.args.self.now (in_order c.args.keys.now c.args.associations.now)) c.loop-found-test.true
    c.found-item.is front c.loop-found.invariant.made c.in_err-make_keys.ensures in
    let p = err_from_is_err_and c.from_residual.result c.from_residual.ensures.1 in
    rw (p.1, p.2) refused

pub returns-in_err-make_association : goal.returns-in_err-make_association
returns-in_err-make_association c =
    let keys : List PlanKey = c.loop-found.rest.now in
    let front : c.split_at.result.0.now ≡ take (count_before c.found-item.result.line keys) keys =
    c.split_at.ensures.front ∙ ap (λ n. take n keys) c.count_before.ensures in
    let refused = association_refused c.in_err-make_association.field-0.0 c.loop-found.self c.make_keys.new.self
    c.make_association.new.self keys c.split_at.result.0.now c.args.associations.now c.loop-found.found-index
    c.found-item.result (lines_made c.args.self.now (in_order c.args.keys.now c.args.associations.now))
    c.loop-found-test.true c.found-item.is front c.loop-found.invariant.made c.in_ok-make_keys.ensures
    c.in_err-make_association.ensures in
    let p = err_from_is_err_and c.from_residual-in_err-make_association.result
    c.from_residual-in_err-make_association.ensures.1 in
    rw (p.1, p.2) refused
