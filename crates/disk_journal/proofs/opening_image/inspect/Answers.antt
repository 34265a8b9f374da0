use Rattle.std.proofs.Common.{ℕ, List, ◌<◌, ap, sym, subst}
use Rattle.disk_journal.specs.declared.layout.TheConstants.{HEADER_LENGTH}
use Rattle.disk_journal.specs.Journal.{IsHeaderOf}
use Rattle.disk_journal.proofs.Refused.{short_verdict, header_verdict}
use Rattle.disk_journal.proofs.Verdicts.{header_found}
use Rattle.disk_journal.proofs.opening_image.inspect.Goals as goal

pub returns-then-image_length-lt-HEADER_LENGTH-clause-found :
    goal.returns-then-image_length-lt-HEADER_LENGTH-clause-found
returns-then-image_length-lt-HEADER_LENGTH-clause-found g c = λ told.
    short_verdict (g.O.Site.trace c.args.site.now).now.image
    (subst (λ (n : ℕ). n < HEADER_LENGTH) (c.requires told) c.if-image_length-lt-HEADER_LENGTH.true)

pub inspect_banks-requires-clause-passed : goal.inspect_banks-requires-clause-passed
inspect_banks-requires-clause-passed g c = λ told.
    subst (λ (image : List ℕ). IsHeaderOf image c.in-Ok.header.plan_length c.in-Ok.header.layout)
    (sym (ap (λ t. t.now.image) (c.in_ok-read_at.ensures.same told)))
    (header_found (g.O.Site.trace c.args.site.now).now.image c.read_at.new.into c.args.image_length
    c.in-Ok.header.plan_length c.in-Ok.header.layout
    (c.requires told) c.if-image_length-lt-HEADER_LENGTH.false
    (c.in_ok-read_at.ensures.read told) c.in-Ok.ensures.checked
    c.in-Ok.ensures.found.0 c.in-Ok.ensures.found.1)

pub returns-in-Err-clause-found : goal.returns-in-Err-clause-found
returns-in-Err-clause-found g c = λ told.
    header_verdict (g.O.Site.trace c.args.site.now).now.image c.read_at.new.into c.args.image_length c.in-Err.offset
    (c.requires told)
    c.if-image_length-lt-HEADER_LENGTH.false (c.in_ok-read_at.ensures.read told) c.in-Err.ensures.checked
