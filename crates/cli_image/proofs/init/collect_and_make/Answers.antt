use Rattle.std.proofs.Common.{◌≡◌, ℕ, IsTrue, List, refl, rules}
use Rattle.cli_image.proofs.Making.{ends_of_input}
use Rattle.cli_image.proofs.Stopping.{before_reading, of_input}
use Rattle.cli_image.proofs.init.collect_and_make.Goals as goal

pub returns-in-Ok-clause-ends : goal.returns-in-Ok-clause-ends
returns-in-Ok-clause-ends g c =
    ends_of_input (g.S.Source.left c.args.source.now) (g.S.Source.left c.collect.new.source) c.collect.new.buffer
    c.in-Ok.count
    g.S.Source.told g.O.Site.told _ _ _ _ _ c.make_image.result (search rules) c.in-Ok.ensures.collected
    c.make_image.ensures.ends

pub returns-in-Ok-clause-moments : goal.returns-in-Ok-clause-moments
returns-in-Ok-clause-moments g c = λ told.
    of_input (g.S.Source.left c.args.source.now) (g.S.Source.left c.collect.new.source) c.collect.new.buffer
    c.in-Ok.count
    g.S.Source.told (g.O.Site.trace c.args.site.now) (g.O.Site.trace c.make_image.new.site) (search rules)
    c.in-Ok.ensures.collected (c.make_image.ensures.moments told)

pub returns-in-Err-clause-moments : goal.returns-in-Err-clause-moments
returns-in-Err-clause-moments g c = λ told.
    before_reading (λ (input : List ℕ). IsTrue g.S.Source.told → input ≡ g.S.Source.left c.args.source.now)
    (g.S.Source.left c.args.source.now) (g.O.Site.trace c.args.site.now) (λ known. refl) (c.requires.empty told)
