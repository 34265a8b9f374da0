use Rattle.std.proofs.Common.{◌≡◌, ℕ, IsTrue, List, refl}
use Rattle.cli_image.proofs.Stopping.{before_reading}
use Rattle.cli_image.proofs.init.read_and_make.Goals as goal

pub returns-in_default-clause-moments : goal.returns-in_default-clause-moments
returns-in_default-clause-moments g c = λ told.
    before_reading (λ (input : List ℕ). IsTrue g.S.Source.told → input ≡ g.S.Source.left c.args.source.now)
    (g.S.Source.left c.args.source.now) (g.O.Site.trace c.args.site.now) (λ known. refl) (c.requires told)
