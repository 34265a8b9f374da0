use Rattle.std.proofs.Common.{◌≡◌, ◌<◌, eqb, true, Some, None, List, ap, ◌∙◌, sym, length, slice_get, subst, arith}
use Rattle.std.proofs.Common.{eq-eqb, ne_eqb}
use Rattle.sdls_world.specs.Core.{Doer, doer_of}
use Rattle.sdls_world.proofs.Places.{found_first, not_found, place_there, more_places}
use Rattle.sdls_world.proofs.world.World.actor.Goals as goal

pub returns-then-id : goal.returns-then-id
returns-then-id c =
    let items = c.deref-actor-items.result.now in
    let actors : items ≡ c.args.self.now.actors =
    c.deref-actor-items.ensures.value ∙ ap (λ w. w.actors) c.self.view_is in
    let place = c.loop-place.place in
    let actor = c.actor-item.result in
    let below : place < length items = omega arith in
    let hit : eqb actor.id c.args.id ≡ true = eq-eqb _ _ (sym c.id.ensures ∙ c.if-id.true) in
    let found = found_first (λ (a : Doer). eqb a.id c.args.id) items place actor below c.actor-item.is hit
    c.loop-place.invariant in
    record {
      found = subst (λ (z : List Doer). doer_of c.args.id z ≡ Some (place, actor)) actors found;
      there = subst (λ (z : List Doer). (place < length z) × (slice_get z place ≡ Some actor)) actors
          (below, place_there items place actor below c.actor-item.is);
    }

pub loop-place-preserved : goal.loop-place-preserved
loop-place-preserved c =
    more_places (λ (a : Doer). eqb a.id c.args.id) c.deref-actor-items.result.now c.loop-place.place c.actor-item.result
    (omega arith) c.actor-item.is
    (ne_eqb _ _ (λ e. c.if-id.false (c.id.ensures ∙ e))) c.loop-place.invariant

pub returns : goal.returns
returns c =
    let items = c.deref-actor-items.result.now in
    let actors : items ≡ c.args.self.now.actors =
    c.deref-actor-items.ensures.value ∙ ap (λ w. w.actors) c.self.view_is in
    let missed = not_found (λ (a : Doer). eqb a.id c.args.id) items
    (λ j d b. c.loop-place.invariant j d (omega arith)) in
    record { found = subst (λ (z : List Doer). doer_of c.args.id z ≡ None) actors missed; there = tt }
