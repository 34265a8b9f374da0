use Rattle.text_streams.proofs.Progress.{nothing_put, puts_records}
use Rattle.text_streams.proofs.streams.put_records.Goals as goal

pub returns-in-Err-clause-put : goal.returns-in-Err-clause-put
returns-in-Err-clause-put g c told sunk = nothing_put _ _ _ (c.in-Err.ensures.front sunk)

pub returns-clause-put : goal.returns-clause-put
returns-clause-put g c told sunk =
    puts_records _ _ _ _ _ _ _ _ (c.in_default.ensures.put sunk)
    (rw c.new-out.ensures.items at (c.read_lines-end.ensures.reads told sunk))
    (c.put_rest.ensures.put sunk)
