use Rattle.std.proofs.Common.{◌+◌, ap, arith}
use Rattle.text_streams.proofs.ObjectProgress.{ends_as, forth}
use Rattle.text_streams.proofs.state_line.put_state_objects.Goals as goal

pub returns-in-Some-clause-put : goal.returns-in-Some-clause-put
returns-in-Some-clause-put g c told sunk =
    let so_far = c.lines.invariant.2 told sunk in
    ends_as c.in-Some.end _ _ _ _ _ so_far.0 _ so_far.2 so_far.1 (c.in-Some.ensures.fails told sunk)

pub lines-preserved : goal.lines-preserved
lines-preserved g c = (
  (let low = c.lines.invariant.0 in let more = c.put_next_object.ensures.later in omega arith),
  (let low = c.lines.invariant.1 in let more = c.put_next_object.ensures.later_sink in omega arith),
  λ told sunk.
      let so_far = c.lines.invariant.2 told sunk in (
        so_far.0 + 1,
        ap (λ n. n + 1) so_far.1,
        forth _ _ _ _ _ _ so_far.0 so_far.2 (c.in_default.ensures.puts told sunk),
      ),
)
