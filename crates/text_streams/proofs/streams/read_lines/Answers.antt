use Rattle.std.proofs.Common.{◌+◌, ap, arith}
use Rattle.text_streams.proofs.Progress.{forth, no_more, output_failed, put_on}
use Rattle.text_streams.proofs.streams.read_lines.Goals as goal

pub returns-in-Some-clause-reads : goal.returns-in-Some-clause-reads
returns-in-Some-clause-reads g c told sunk =
    let so_far = c.lines.invariant.2 told sunk in
    no_more _ _ _ _ _ _ _ so_far.0 c.in-Some.end so_far.2 (rw so_far.1 at (c.in-Some.ensures.cause told))
    c.in-Some.ensures.kept

pub returns-in-Err-clause-reads : goal.returns-in-Err-clause-reads
returns-in-Err-clause-reads g c told sunk =
    let so_far = c.lines.invariant.2 told sunk in
    let more = forth _ _ _ _ _ _ _ _ so_far.0 so_far.2 (c.in_default.ensures.adds told) in
    output_failed _ _ _ _ _ _ _ _ (so_far.0 + 1) more (c.in-Err.ensures.front sunk)

pub lines-preserved : goal.lines-preserved
lines-preserved g c = (
  (let low = c.lines.invariant.0 in let more = c.take_next.ensures.later in omega arith),
  (let low = c.lines.invariant.1 in let more = c.put_made.ensures.cause.later in omega arith),
  λ told sunk.
      let so_far = c.lines.invariant.2 told sunk in
      let more = forth _ _ _ _ _ _ _ _ so_far.0 so_far.2 (c.in_default.ensures.adds told) in
      let put = c.in_default-put_made.ensures in (
        so_far.0 + 1,
        ap (λ n. n + 1) so_far.1,
        put_on _ _ _ _ _ _ _ _ (so_far.0 + 1) more (put.least sunk) (put.put sunk),
      ),
)
