use Rattle.std.proofs.Common.{◌∙◌, inl, inr}
use Rattle.sdls_outside.specs.Site.{Synced}
use Rattle.disk_journal.proofs.Calls.{synced_between, on_ok_so}
use Rattle.disk_journal.proofs.Verdicts.{same_verdict}
use Rattle.disk_journal.proofs.opening_image.inspect_synced.Goals as goal

pub returns-in_err-image_length-clause-unchanged : goal.returns-in_err-image_length-clause-unchanged
returns-in_err-image_length-clause-unchanged g c = λ told. inl (c.begin.ensures.same told)

pub returns-in_err-sync-clause-unchanged : goal.returns-in_err-sync-clause-unchanged
returns-in_err-sync-clause-unchanged g c = λ told. inl (c.in_err-sync.ensures.synced told ∙ c.begin.ensures.same told)

pub returns-clause-found : goal.returns-clause-found
returns-clause-found g c = λ told.
    same_verdict c.inspect.result (g.O.Site.trace c.args.site.now) (g.O.Site.trace c.begin.new.self)
    (g.O.Site.trace c.sync.new.self)
    (c.begin.ensures.same told) (c.in_ok-sync.ensures.synced told) (c.inspect.ensures.found told)

pub returns-clause-synced : goal.returns-clause-synced
returns-clause-synced g c = λ told.
    on_ok_so c.inspect.result (Synced (g.O.Site.trace c.args.site.now) (g.O.Site.trace c.inspect.new.site))
    (synced_between (g.O.Site.trace c.args.site.now) (g.O.Site.trace c.begin.new.self) (g.O.Site.trace c.sync.new.self)
    (g.O.Site.trace c.inspect.new.site)
    (c.begin.ensures.same told) (c.in_ok-sync.ensures.synced told) (c.inspect.ensures.same told))

pub returns-clause-unchanged : goal.returns-clause-unchanged
returns-clause-unchanged g c = λ told. inr
    (synced_between (g.O.Site.trace c.args.site.now) (g.O.Site.trace c.begin.new.self) (g.O.Site.trace c.sync.new.self)
    (g.O.Site.trace c.inspect.new.site)
    (c.begin.ensures.same told) (c.in_ok-sync.ensures.synced told) (c.inspect.ensures.same told))
