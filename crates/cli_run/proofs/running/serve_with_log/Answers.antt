use Rattle.std.proofs.Common.{[], refl, inl, arith}
use Rattle.record_io.specs.Reading.{Loses, SourceSeen, first_standing}
use Rattle.counter_table.specs.declared.view.View.{View}
use Rattle.counter_table.specs.Worker.{view}
use Rattle.law_runs.proofs.Looping.{begins_way, lacks_none, wants_reading}
use Rattle.cli_run.proofs.running.serve_with_log.Goals as goal

pub returns-in_default-clause-comes : goal.returns-in_default-clause-comes
returns-in_default-clause-comes g c = λ begin began.
    let start : SourceSeen = record {
      told = g.S.Source.told;
      left = g.S.Source.left c.args.source.now;
      faults = g.S.Source.faults c.args.source.now;
    } in
    let first : View = view c.args.worker in
    let loses : Loses start start [] = record {
      more = [];
      read = [];
      part = [];
      takes = record {
        items_are = λ k d low. absurd (omega arith);
        read_are = inl (refl, refl);
        taken = λ t. refl;
        few = omega arith;
        no_whole = lacks_none [];
      };
    } in
    wants_reading start start start first_standing begin first first first.turn.known.put_faults
    first.turn.known.put_faults first.turn.known.standing
    (begins_way start begin first first.turn.known.put_faults first.turn.known.standing c.requires.no_log
    c.requires.none_made) loses
