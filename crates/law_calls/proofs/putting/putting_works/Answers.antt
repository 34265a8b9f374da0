use Rattle.law_calls.proofs.Puts.{putting_works}
use Rattle.law_calls.proofs.putting.putting_works.Goals as goal

pub returns : goal.returns
returns g c = λ begin v w found given tasks octets result h put.
    putting_works g.O.Site.told begin found given v w h tasks octets result put
