use Rattle.law_image.proofs.Cut.{whole_or_refused}
use Rattle.law_image.proofs.laws.cut_beginning.Goals as goal

pub returns : goal.returns
returns c = whole_or_refused
