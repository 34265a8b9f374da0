use Rattle.std.proofs.Common.{◌∙◌, IsTrue, refl, rules, sym}
use Rattle.unit_state.specs.Applied.{applied}
use Rattle.unit_image.proofs.Recorded.{has_record}
use Rattle.unit_image.specs.Storing.{Destroys}
use Rattle.unit_image.proofs.Stored.{both, of_two, on_ok, places_kept, stores_record, stores_turn, turned_rest}
use Rattle.unit_image.proofs.storing.store_storable.Goals.{then-destroys, else-destroys}
use Rattle.unit_image.proofs.storing.store_storable.Goals as goal

pub write_record-requires : goal.write_record-requires
write_record-requires g c = has_record c.args.state.now c.args.change.now c.requires.storable c.requires.allowed

pub turn-requires-clause-sized : goal.turn-requires-clause-sized
turn-requires-clause-sized g c = c.write_after.ensures.sized ∙ sym c.requires.version.sized

pub returns-then-used-slots-clause-stores : goal.returns-then-used-slots-clause-stores
returns-then-used-slots-clause-stores g c = record {
  stores = λ told. stores_turn c.args.state.now c.args.change.now c.write_after.new.content c.turn.result
      c.turn.new.self
      (g.O.Site.trace c.args.site.now) (g.O.Site.trace c.turn.new.site) c.write_after.ensures.content
      (of_two (g.O.Site.trace c.args.site.now) c.args.journal.now (c.requires.settled told) c.requires.version)
      (c.turn.ensures.becomes told)
      (both _ _ c.turn.result (c.turn.ensures.stored told) (c.turn.ensures.holds told));
  gone = λ told. turned_rest (Destroys c.args.change.now) (applied c.args.state.now c.args.change.now)
      c.write_after.new.content c.turn.result c.turn.new.self (g.O.Site.trace c.turn.new.site)
      c.write_after.ensures.written (c.turn.ensures.rest told);
  beside = c.turn.ensures.beside;
  places = places_kept c.turn.result c.args.journal.now _ c.turn.new.self refl refl c.turn.ensures.counted
      c.turn.ensures.not_counted;
  not_counted = c.turn.ensures.not_counted;
}

pub returns-else-used-slots-clause-stores : goal.returns-else-used-slots-clause-stores
returns-else-used-slots-clause-stores g c = record {
  stores = λ told. stores_record c.args.state.now c.args.change.now c.write_record.result c.append.result
      c.append.new.self
      (g.O.Site.trace c.args.site.now) (g.O.Site.trace c.append.new.site) c.requires.storable c.requires.allowed
      c.write_record.ensures.record_of
      (c.append.ensures.becomes told)
      (both _ _ c.append.result (c.append.ensures.stored told) (c.append.ensures.holds told));
  gone = λ told. on_ok c.append.result (λ destroys.
      let is : IsTrue c.destroys.result = c.destroys.ensures.1 destroys in
      absurd (elim c.if-destroys.branch [ then-destroys w ↦ search rules | else-destroys w ↦ search rules ]));
  beside = c.append.ensures.beside;
  places = places_kept c.append.result c.args.journal.now _ c.append.new.self refl refl c.append.ensures.counted
      c.append.ensures.not_counted;
  not_counted = c.append.ensures.not_counted;
}
