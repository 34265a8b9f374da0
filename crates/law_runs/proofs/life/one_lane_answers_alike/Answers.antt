use Rattle.law_runs.proofs.ByImage.{serves_from, shows_alike}
use Rattle.law_runs.proofs.Fronts.{alike}
use Rattle.law_runs.proofs.life.one_lane_answers_alike.Goals as goal

pub returns : goal.returns
returns c = λ call other run again plan state each reach told tells image shows handled one fails refails.
    alike call other run again plan state told tells handled one c.served_once.ensures c.rules_stay_along.ensures
    (serves_from c.refused_with_one.ensures.none call run told c.shows_one.ensures plan state shows)
    (serves_from c.refused_with_one.ensures.none other again tells c.shows_one.ensures plan state
    (shows_alike call other plan state image shows)) each reach fails refails
