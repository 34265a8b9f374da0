use Rattle.std.proofs.Common.{◌≡◌, ◌-◌, ◌*◌, length}
use Rattle.answer_text.specs.declared.monitor.TheConstants.{EVENT}
use Rattle.answer_text.specs.Monitor.{are_events}
use Rattle.answer_text.proofs.monitor.are_events.Given as goal

-- if those that are left are events, all are
abbrev pub invariant-loop : goal.invariant-loop
invariant-loop l = (are_events (l.count - l.counter) l.rest ≡ are_events l.count l.carried)
    × (length l.rest ≡ EVENT * (l.count - l.counter))
