use Rattle.std.proofs.Common.{◌+◌, ◌-◌, length, arith}
use Rattle.disk_journal.specs.declared.layout.TheConstants.{CONTENT_AT, FIRST_GENERATION}
use Rattle.disk_journal.specs.Changes.{WritesIn}
use Rattle.disk_journal.proofs.Laying.{banks_laid, behind_each, laid_ok}
use Rattle.disk_journal.proofs.Overwriting.{zeroed}
use Rattle.disk_journal.proofs.Writing.{in_then, in_wider, row_of, row_synced}
use Rattle.disk_journal.proofs.creating.lay_banks.Goals as goal

pub write_open_bank-requires-clause-within : goal.write_open_bank-requires-clause-within
write_open_bank-requires-clause-within g c = λ told.
    let ends = c.end.ensures in
    let sized = c.requires.sized in
    let left = zeroed (g.O.Site.trace c.args.site.now).now.image
    (g.O.Site.trace c.write_zeros.new.site).now.image c.args.layout.banks
    (c.end.result - c.args.layout.banks) (c.requires.within told) (c.in_ok-write_zeros.ensures.written told) in
    let long = left.long in
    omega (arith, ends, long, sized)

pub returns-in_err-write_zeros-clause-any_moment : goal.returns-in_err-write_zeros-clause-any_moment
returns-in_err-write_zeros-clause-any_moment g c = λ told.
    let old = g.O.Site.trace c.args.site.now in
    let zeroed = g.O.Site.trace c.write_zeros.new.site in
    let from = c.args.layout.banks in
    let count = c.end.result - from in
    behind_each from count old zeroed (c.requires.synced told)
    (row_of from count old zeroed (c.requires.synced told) (c.requires.within told)
    (c.write_zeros.ensures.row told)).each

pub returns-in_err-write_open_bank-clause-any_moment : goal.returns-in_err-write_open_bank-clause-any_moment
returns-in_err-write_open_bank-clause-any_moment g c = λ told.
    let old = g.O.Site.trace c.args.site.now in
    let zeroed = g.O.Site.trace c.write_zeros.new.site in
    let mid = g.O.Site.trace c.write_open_bank.new.site in
    let from = c.args.layout.banks in
    let count = c.end.result - from in
    let ends = c.end.ensures in
    let sized = c.requires.sized in
    behind_each from count old mid (c.requires.synced told)
    (row_of from count old mid (c.requires.synced told) (c.requires.within told)
    (in_then from count old zeroed mid (c.write_zeros.ensures.row told)
    (in_wider from (CONTENT_AT + length c.args.content.now) from count zeroed mid (omega arith)
    (omega (arith, ends, sized))
    (c.write_open_bank.ensures.row told)))).each

pub returns-clause-laid : goal.returns-clause-laid
returns-clause-laid g c = λ told.
    let old = g.O.Site.trace c.args.site.now in
    let zeroed = g.O.Site.trace c.write_zeros.new.site in
    let mid = g.O.Site.trace c.write_open_bank.new.site in
    let new = g.O.Site.trace c.sync.new.self in
    let from = c.args.layout.banks in
    let count = c.end.result - from in
    let ends = c.end.ensures in
    let sized = c.requires.sized in
    let writes : WritesIn from count old mid =
    in_then from count old zeroed mid (c.write_zeros.ensures.row told)
    (in_wider from (CONTENT_AT + length c.args.content.now) from count zeroed mid (omega arith)
    (omega (arith, ends, sized))
    (c.write_open_bank.ensures.row told)) in
    laid_ok c.sync.result c.args.layout FIRST_GENERATION count c.args.content.now old mid new (c.requires.synced told)
    (c.requires.within told)
    writes
    (banks_laid c.args.layout FIRST_GENERATION c.end.result c.args.content.now old.now.image zeroed.now.image
    mid.now.image sized ends
    (c.requires.within told) (c.in_ok-write_zeros.ensures.written told) (c.in_ok-write_open_bank.ensures.written told))
    (c.sync.ensures.synced told)

pub returns-clause-any_moment : goal.returns-clause-any_moment
returns-clause-any_moment g c = λ told.
    let old = g.O.Site.trace c.args.site.now in
    let zeroed = g.O.Site.trace c.write_zeros.new.site in
    let mid = g.O.Site.trace c.write_open_bank.new.site in
    let new = g.O.Site.trace c.sync.new.self in
    let from = c.args.layout.banks in
    let count = c.end.result - from in
    let ends = c.end.ensures in
    let sized = c.requires.sized in
    let writes : WritesIn from count old mid =
    in_then from count old zeroed mid (c.write_zeros.ensures.row told)
    (in_wider from (CONTENT_AT + length c.args.content.now) from count zeroed mid (omega arith)
    (omega (arith, ends, sized))
    (c.write_open_bank.ensures.row told)) in
    behind_each from count old new (c.requires.synced told)
    (row_synced c.sync.result from count old mid new
    (row_of from count old mid (c.requires.synced told) (c.requires.within told) writes) (c.sync.ensures.synced told))
