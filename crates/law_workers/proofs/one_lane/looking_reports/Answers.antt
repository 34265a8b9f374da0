use Rattle.law_workers.proofs.Looking.{handles, moves_counted, serves_alone}
use Rattle.law_workers.proofs.one_lane.looking_reports.Goals as goal

pub returns : goal.returns
returns c = λ begin old new segment task answer kind looked is. (
  handles begin old new segment task answer kind looked is,
  serves_alone begin old new segment task answer kind looked is,
  moves_counted begin old new segment task answer kind looked is,
)
