use Rattle.std.proofs.Common.{◌≡◌, ◌<◌, eqb, true, Some, None, List, ap, ◌∙◌, sym, length, slice_get, subst, arith}
use Rattle.sdls_world.specs.declared.world.Key.{Key}
use Rattle.sdls_world.specs.Core.{key_of}
use Rattle.sdls_world.proofs.Places.{found_first, not_found, place_there, more_places}
use Rattle.sdls_world.proofs.world.World.key.Goals as goal

pub returns-then-eq : goal.returns-then-eq
returns-then-eq c =
    let items = c.deref-key-items.result.now in
    let keys : items ≡ c.args.self.now.keys = c.deref-key-items.ensures.value ∙ ap (λ w. w.keys) c.self.view_is in
    let row = c.loop-row.row in
    let key = c.key-item.result in
    let below : row < length items = omega arith in
    let hit : eqb key.id c.args.id ≡ true = sym c.eq.ensures ∙ c.if-eq.true in
    let found = found_first (λ (k : Key). eqb k.id c.args.id) items row key below c.key-item.is hit
    c.loop-row.invariant in
    record {
      found = subst (λ (z : List Key). Some (row, key) ≡ key_of c.args.id z) keys (sym found);
      there = subst (λ (z : List Key). (row < length z) × (slice_get z row ≡ Some key)) keys
          (below, place_there items row key below c.key-item.is);
    }

pub loop-row-preserved : goal.loop-row-preserved
loop-row-preserved c =
    more_places (λ (k : Key). eqb k.id c.args.id) c.deref-key-items.result.now c.loop-row.row c.key-item.result
    (omega arith) c.key-item.is (sym c.eq.ensures ∙ c.if-eq.false) c.loop-row.invariant

pub returns : goal.returns
returns c =
    let items = c.deref-key-items.result.now in
    let keys : items ≡ c.args.self.now.keys = c.deref-key-items.ensures.value ∙ ap (λ w. w.keys) c.self.view_is in
    let missed = not_found (λ (k : Key). eqb k.id c.args.id) items (λ j d b. c.loop-row.invariant j d (omega arith)) in
    record { found = subst (λ (z : List Key). None ≡ key_of c.args.id z) keys (sym missed); there = tt }
