use Rattle.std.proofs.Common.{ap, sym, ◌∙◌}
use Rattle.std.specs.Option.{option_map}
use Rattle.sdls_base.specs.declared.version.Version.TheVariants.{Two}
use Rattle.unit_state.proofs.Found.{held_rules}
use Rattle.unit_image.proofs.ContentAfter.{marked_rows, marks_written}
use Rattle.unit_image.proofs.storing.write_marks.Goals as goal

pub marked_row-requires : goal.marked_row-requires
marked_row-requires c = held_rules c.args.state.now c.args.key c.unwrap-place.result.1.now c.requires.rules
    (sym c.find.ensures.row ∙ ap (λ found. option_map (λ pair. pair.1.now) found) c.unwrap-place.ensures)

pub returns-clause-written : goal.returns-clause-written
returns-clause-written c =
    marks_written (c.key_row_changes.ensures Two) c.args.state.now c.args.key c.args.mark c.args.floor
    c.unwrap-place.result.0 c.put.result
    c.unwrap-place.result.1.now c.marked_row.result c.args.content.now c.put.new.out c.requires.rules.keys.rules
    c.requires.rows
    (sym c.find.ensures.place ∙ ap (λ found. option_map (λ pair. pair.0) found) c.unwrap-place.ensures)
    (sym c.find.ensures.row ∙ ap (λ found. option_map (λ pair. pair.1.now) found) c.unwrap-place.ensures)
    c.marked_row.ensures c.requires.written c.put.ensures.place c.put.ensures.written c.put.ensures.rest

pub returns-clause-rows : goal.returns-clause-rows
returns-clause-rows c = marked_rows c.args.state.now c.args.key c.args.mark c.args.floor c.ranges.mark.fits
    c.ranges.floor.fits c.requires.rows
