use Rattle.record_io.specs.Places.{records_of}
use Rattle.run_promise.specs.History.{TurnIn}
use Rattle.law_history.proofs.Along.{of_places, rules_along}
use Rattle.law_history.proofs.one.rules_stay_along.Goals as goal

pub returns : goal.returns
returns c = λ plan start places entries history.
    rules_along plan start (records_of places) (TurnIn places) entries (of_places plan start places entries history)
