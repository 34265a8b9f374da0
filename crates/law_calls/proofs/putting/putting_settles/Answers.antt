use Rattle.law_calls.proofs.Puts.{putting_settles}
use Rattle.law_calls.proofs.putting.putting_settles.Goals as goal

pub returns : goal.returns
returns g c = λ begin v w found given octets result h put covered.
    putting_settles g.O.Site.told begin found given v w h octets result put covered
