use Rattle.std.proofs.Common.{◌≡◌, ◌+◌, ◌*◌, ◌++◌, length, take}
use Rattle.std.specs.List.{flat_map}
use Rattle.fsr_log.specs.declared.kinds.TheConstants.{EVENT}
use Rattle.fsr_log.specs.Reply.{event_octets}
use Rattle.fsr_log.proofs.kinds.put_events.Given as goal

abbrev pub invariant-loop-event : goal.invariant-loop-event
invariant-loop-event l = record {
  octets : l.out.items ≡ l.fn.out.items ++ flat_map event_octets (take l.event-index l.events);
  long : length l.out.items ≡ length l.fn.out.items + EVENT * l.event-index;
}
