use Rattle.std.proofs.Common.{rules, List, ◌+◌, ℕ, refl, sym, subst, take}
use Rattle.link_world.proofs.Marking.{IsOnTheWay, goes_on}
use Rattle.link_world.proofs.link.link_run.Goals as goal

pub loop-event-preserved : goal.loop-event-preserved
loop-event-preserved c =
    subst (λ (l : List ℕ). IsOnTheWay c.args.count c.args.events.now (c.loop-event.event-index + 1)
    c.heed.new.released.items l)
    (sym (c.in_ok-heed.ensures.arrives (take c.loop-event.event-index c.args.events.now) c.loop-event.invariant.marks))
    (goes_on c.args.count c.args.events.now c.loop-event.event-index c.loop-event.released.items
    c.heed.new.released.items c.loop-event.arrived.items _ _
    (search rules) (search rules) c.loop-event.invariant c.in_ok-heed.ensures.size
    (c.in_ok-heed.ensures.marks (take c.loop-event.event-index c.args.events.now) c.loop-event.invariant.marks) refl)
