use Rattle.law_runs.proofs.ByImage.{serves_from}
use Rattle.law_runs.proofs.Refusing.{refused_ends}
use Rattle.law_runs.proofs.life.refused_run_ends.Goals as goal

pub returns : goal.returns
returns c = λ told site back after source fault status refused.
    let ends = refused_ends told site back after source fault status refused c.refused_with_one.ensures.none
    c.refused_with_one.ensures.one c.shown_keeps_rules.ensures.plan c.shown_keeps_rules.ensures.state
    c.shown_keeps_rules.ensures.left c.refused_exactly.ensures.either in
    record {
      ends = ends;
      lives = c.sound_call_keeps_lives.ensures _ _ (λ is_told plan state shows.
          (serves_from c.refused_with_one.ensures.none _ ends is_told c.shows_one.ensures plan state shows).sound);
    }
