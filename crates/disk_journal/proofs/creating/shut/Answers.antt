use Rattle.std.proofs.Common.{◌∷◌, [], arith}
use Rattle.disk_journal.specs.declared.layout.TheConstants.{CLOSED}
use Rattle.disk_journal.specs.Zeros.{zeros}
use Rattle.disk_journal.proofs.Beginning.{first_written, none_pending, short_each, synced_ok}
use Rattle.disk_journal.proofs.Writing.{row_synced, writes_in}
use Rattle.disk_journal.proofs.creating.shut.Goals as goal

pub returns-in_err-write_at-clause-any_moment : goal.returns-in_err-write_at-clause-any_moment
returns-in_err-write_at-clause-any_moment g c = λ told.
    let old = g.O.Site.trace c.args.site.now in
    let mid = g.O.Site.trace c.write_at.new.self in
    let stays = g.met.O.Site.image_may_stay c.args.site.now told in
    short_each old mid (c.requires told) stays
    (writes_in 0 (CLOSED ∷ []) c.write_at.result old mid (c.write_at.ensures.written told) 0 1 (omega arith)
    (omega arith)
    (none_pending old (c.requires told) stays)).each

pub returns-clause-shut : goal.returns-clause-shut
returns-clause-shut g c = λ told.
    synced_ok c.sync.result (g.O.Site.trace c.write_at.new.self) (g.O.Site.trace c.sync.new.self) (zeros 1)
    (c.sync.ensures.synced told)
    (first_written (g.O.Site.trace c.args.site.now).now.image (g.O.Site.trace c.write_at.new.self).now.image
    (c.requires told)
    (c.in_ok-write_at.ensures.written told).1)

pub returns-clause-any_moment : goal.returns-clause-any_moment
returns-clause-any_moment g c = λ told.
    let old = g.O.Site.trace c.args.site.now in
    let mid = g.O.Site.trace c.write_at.new.self in
    let new = g.O.Site.trace c.sync.new.self in
    let stays = g.met.O.Site.image_may_stay c.args.site.now told in
    short_each old new (c.requires told) stays
    (row_synced c.sync.result 0 1 old mid new
    (writes_in 0 (CLOSED ∷ []) c.write_at.result old mid (c.write_at.ensures.written told) 0 1 (omega arith)
    (omega arith)
    (none_pending old (c.requires told) stays)) (c.sync.ensures.synced told))
