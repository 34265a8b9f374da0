use Rattle.std.proofs.Common.{◌+◌, ◌-◌, length, arith}
use Rattle.disk_journal.specs.declared.layout.TheConstants.{CONTENT_AT}
use Rattle.disk_journal.proofs.Writing.{row_but, row_of, row_synced}
use Rattle.disk_journal.proofs.storing.store_head.Goals as goal

pub returns-in_err-write_head-clause-any_moment : goal.returns-in_err-write_head-clause-any_moment
returns-in_err-write_head-clause-any_moment g c = λ told.
    let old = g.O.Site.trace c.args.site.now in
    let mid = g.O.Site.trace c.write_head.new.site in
    let at = c.args.bank + 1 in
    let count = CONTENT_AT + length c.args.content.now - 1 in
    let within = c.requires.within told in
    row_but at count old mid (c.requires.synced told) (omega (arith, within))
    (row_of at count old mid (c.requires.synced told) (omega (arith, within)) (c.write_head.ensures.row told)).each

pub returns-clause-any_moment : goal.returns-clause-any_moment
returns-clause-any_moment g c = λ told.
    let old = g.O.Site.trace c.args.site.now in
    let mid = g.O.Site.trace c.write_head.new.site in
    let new = g.O.Site.trace c.sync.new.self in
    let at = c.args.bank + 1 in
    let count = CONTENT_AT + length c.args.content.now - 1 in
    let within = c.requires.within told in
    row_but at count old new (c.requires.synced told) (omega (arith, within))
    (row_synced c.sync.result at count old mid new
    (row_of at count old mid (c.requires.synced told) (omega (arith, within)) (c.write_head.ensures.row told))
    (c.sync.ensures.synced told))
