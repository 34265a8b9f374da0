use Rattle.std.proofs.Common.{refl}
use Rattle.law_calls.proofs.Puts.{visiting_works}
use Rattle.law_calls.proofs.putting.visiting_works.Goals as goal

pub returns : goal.returns
returns g c = λ begin v w found tasks h. visiting_works g.O.Site.told begin found found v w h tasks refl
