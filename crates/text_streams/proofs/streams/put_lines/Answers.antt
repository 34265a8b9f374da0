use Rattle.std.proofs.Common.{inl, arith}
use Rattle.text_streams.proofs.ItemProgress.{ends_as, forth}
use Rattle.text_streams.proofs.streams.put_lines.Goals as goal

pub returns-in-Some-put_next_item-clause-put : goal.returns-in-Some-put_next_item-clause-put
returns-in-Some-put_next_item-clause-put g c told sunk =
    inl (ends_as c.in-Some-put_next_item.end _ _ _ _ _ _ _ (c.items.invariant.2 told sunk)
    (c.in-Some-put_next_item.ensures.fails told sunk))

pub items-preserved : goal.items-preserved
items-preserved g c = (
  (let low = c.items.invariant.0 in let more = c.put_next_item.ensures.later in omega arith),
  (let low = c.items.invariant.1 in let more = c.put_next_item.ensures.later_sink in omega arith),
  λ told sunk. forth _ _ _ _ _ _ _ _ _ (c.items.invariant.2 told sunk) (c.in_default-put_next_item.ensures.puts told sunk),
)
