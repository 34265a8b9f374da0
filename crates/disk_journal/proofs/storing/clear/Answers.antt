use Rattle.std.proofs.Common.{arith}
use Rattle.disk_journal.proofs.Erasing.{erased}
use Rattle.disk_journal.proofs.Writing.{row_but, row_of, row_synced}
use Rattle.disk_journal.proofs.storing.clear.Goals as goal

pub returns-in_err-write_zeros-clause-any_moment : goal.returns-in_err-write_zeros-clause-any_moment
returns-in_err-write_zeros-clause-any_moment g c = λ told.
    let old = g.O.Site.trace c.args.site.now in
    let mid = g.O.Site.trace c.write_zeros.new.site in
    let at = c.args.at in
    let count = c.args.count in
    let within = c.requires.within told in
    row_but at count old mid (c.requires.synced told) (omega (arith, within))
    (row_of at count old mid (c.requires.synced told) (omega (arith, within)) (c.write_zeros.ensures.row told)).each

pub returns-clause-any_moment : goal.returns-clause-any_moment
returns-clause-any_moment g c = λ told.
    let old = g.O.Site.trace c.args.site.now in
    let mid = g.O.Site.trace c.write_zeros.new.site in
    let new = g.O.Site.trace c.sync.new.self in
    let at = c.args.at in
    let count = c.args.count in
    let within = c.requires.within told in
    row_but at count old new (c.requires.synced told) (omega (arith, within))
    (row_synced c.sync.result at count old mid new
    (row_of at count old mid (c.requires.synced told) (omega (arith, within)) (c.write_zeros.ensures.row told))
    (c.sync.ensures.synced told))

pub returns-clause-cleared : goal.returns-clause-cleared
returns-clause-cleared g c = λ told.
    erased c.sync.result c.args.at c.args.count (g.O.Site.trace c.args.site.now) (g.O.Site.trace c.write_zeros.new.site)
    (g.O.Site.trace c.sync.new.self) (c.requires.within told) (c.in_ok-write_zeros.ensures.written told)
    (c.sync.ensures.synced told)
