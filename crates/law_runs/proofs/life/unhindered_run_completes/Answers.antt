use Rattle.law_runs.proofs.Statuses.{completes}
use Rattle.law_runs.proofs.life.unhindered_run_completes.Goals as goal

pub returns : goal.returns
returns c = λ call run plan state free. completes call run plan state free c.input_reads_once.ensures
    c.refused_with_one.ensures.none c.shows_one.ensures
