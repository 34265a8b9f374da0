use Rattle.cli_image.proofs.Stopping.{before_writing, while_writing}
use Rattle.cli_image.proofs.init.make_image.Goals as goal

pub returns-in-Err-Refused-clause-moments : goal.returns-in-Err-Refused-clause-moments
returns-in-Err-Refused-clause-moments g c = λ told.
    before_writing c.args.text.now (g.O.Site.trace c.args.site.now) (c.requires.empty told)

pub returns-in-Err-NoMemory-clause-moments : goal.returns-in-Err-NoMemory-clause-moments
returns-in-Err-NoMemory-clause-moments g c = λ told.
    before_writing c.args.text.now (g.O.Site.trace c.args.site.now) (c.requires.empty told)

pub returns-in_default-clause-moments : goal.returns-in_default-clause-moments
returns-in_default-clause-moments g c = λ told.
    before_writing c.args.text.now (g.O.Site.trace c.args.site.now) (c.requires.empty told)

pub returns-in_default-zeros-clause-moments : goal.returns-in_default-zeros-clause-moments
returns-in_default-zeros-clause-moments g c = λ told.
    before_writing c.args.text.now (g.O.Site.trace c.args.site.now) (c.requires.empty told)

pub returns-in-Ok-create_image-clause-moments : goal.returns-in-Ok-create_image-clause-moments
returns-in-Ok-create_image-clause-moments g c = λ told.
    let laid = c.in-Ok-create_image.ensures.any_moment told in
    while_writing c.cut_beginning.ensures c.args.text.now c.in-Ok.made.0 c.in-Ok.made.1 (g.O.Site.trace c.args.site.now)
    laid.0
    (g.O.Site.trace c.create_image.new.site) c.in-Ok.ensures laid.1

pub returns-clause-moments : goal.returns-clause-moments
returns-clause-moments g c = λ told.
    let laid = c.in-Err.ensures.any_moment told in
    while_writing c.cut_beginning.ensures c.args.text.now c.in-Ok.made.0 c.in-Ok.made.1 (g.O.Site.trace c.args.site.now)
    laid.0
    (g.O.Site.trace c.create_image.new.site) c.in-Ok.ensures laid.1
