use Rattle.std.proofs.Common.{◌≡◌, ◌-◌, ◌*◌, ◌++◌, length}
use Rattle.answer_text.specs.declared.monitor.TheConstants.{EVENT}
use Rattle.answer_text.specs.Part.{further_events}
use Rattle.answer_text.proofs.monitor.put_further_events.Given as goal

-- the events put, and those that are left, are all events
abbrev pub invariant-loop : goal.invariant-loop
invariant-loop l =
    (l.text.items ++ further_events (l.count - l.counter) l.rest ≡ l.initial.text.items
    ++ further_events l.count l.carried)
    × (length l.rest ≡ EVENT * (l.count - l.counter))
