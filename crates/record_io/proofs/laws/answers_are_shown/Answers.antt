use Rattle.record_io.proofs.OneAnswer.{whole_shown, cut_shown}
use Rattle.record_io.proofs.laws.answers_are_shown.Goals as goal

pub returns-clause-whole : goal.returns-clause-whole
returns-clause-whole c = whole_shown

pub returns-clause-cut : goal.returns-clause-cut
returns-clause-cut c = cut_shown
