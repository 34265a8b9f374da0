use Rattle.law_runs.proofs.ByImage.{serves_from}
use Rattle.law_runs.proofs.Ended.{run_ends_so}
use Rattle.law_runs.proofs.life.run_ends_well.Goals as goal

pub returns : goal.returns
returns c = λ told site after source source_after first now came book words entries status ran end.
    let ends = run_ends_so told site after source source_after first now came book words entries status ran end
    c.shows_one.ensures in
    record {
      ends = ends;
      lives = c.sound_call_keeps_lives.ensures _ _ (λ is_told plan state shows.
          (serves_from c.refused_with_one.ensures.none _ ends is_told c.shows_one.ensures plan state shows).sound);
    }
