use Rattle.std.proofs.Common.{◌≡◌, ◌+◌, ◌-◌, length, arith}
use Rattle.disk_journal.specs.declared.layout.TheConstants.{BANKS_AT, CONTENT_AT, MAGIC_AT}
use Rattle.disk_journal.specs.Banks.{image_end, layout_of}
use Rattle.disk_journal.specs.Zeros.{zeros}
use Rattle.disk_journal.proofs.ZeroLists.{zeros_end}
use Rattle.disk_journal.proofs.Beginning.{end_size, head_within, headed_size, laid_ok, shut_each, zeros_to}
use Rattle.disk_journal.proofs.Writing.{in_then, in_wider, row_of, row_synced}
use Rattle.disk_journal.proofs.creating.lay.Goals as goal

pub write_zeros-requires-clause-within : goal.write_zeros-requires-clause-within
write_zeros-requires-clause-within g c = λ told.
    let long : length (g.O.Site.trace c.args.site.now).now.image ≡ 1 =
    zeros_end (g.O.Site.trace c.args.site.now).now.image 1 (c.requires.begun told) in
    omega arith

pub write_header-requires-clause-long : goal.write_header-requires-clause-long
write_header-requires-clause-long g c = λ told.
    let ends : c.end.result ≡ image_end (layout_of c.args.form c.args.slots) =
    end_size c.args.form c.args.slots c.end.result c.new.result c.end.ensures c.new.ensures.is in
    let inside = head_within c.args.form c.args.slots c.end.result
    (length c.args.content.now) c.requires.form ends c.requires.sized in
    let zeroed = (g.O.Site.trace c.write_zeros.new.site).now.image in
    let empty : zeroed ≡ zeros c.end.result =
    zeros_to (g.O.Site.trace c.args.site.now).now.image zeroed c.end.result (omega (arith, inside))
    (c.requires.begun told)
    (c.in_ok-write_zeros.ensures.written told) in
    let long : length zeroed ≡ c.end.result = zeros_end zeroed c.end.result empty in
    omega (arith, inside)

pub write_open_bank-requires-clause-place : goal.write_open_bank-requires-clause-place
write_open_bank-requires-clause-place g c =
    let ends : c.end.result ≡ image_end (layout_of c.args.form c.args.slots) =
    end_size c.args.form c.args.slots c.end.result c.new.result c.end.ensures c.new.ensures.is in
    let inside = head_within c.args.form c.args.slots c.end.result
    (length c.args.content.now) c.requires.form ends c.requires.sized in
    let short = c.new.ensures.layout.short in
    let end = c.end.ensures in
    omega (arith, inside, end, short)

pub write_open_bank-requires-clause-within : goal.write_open_bank-requires-clause-within
write_open_bank-requires-clause-within g c = λ told.
    let ends : c.end.result ≡ image_end (layout_of c.args.form c.args.slots) =
    end_size c.args.form c.args.slots c.end.result c.new.result c.end.ensures c.new.ensures.is in
    let inside = head_within c.args.form c.args.slots c.end.result
    (length c.args.content.now) c.requires.form ends c.requires.sized in
    let zeroed = (g.O.Site.trace c.write_zeros.new.site).now.image in
    let empty : zeroed ≡ zeros c.end.result =
    zeros_to (g.O.Site.trace c.args.site.now).now.image zeroed c.end.result (omega (arith, inside))
    (c.requires.begun told)
    (c.in_ok-write_zeros.ensures.written told) in
    let headed = (g.O.Site.trace c.write_header.new.site).now.image in
    let long : length headed ≡ c.end.result =
    headed_size c.args.form zeroed headed c.args.plan.now c.args.slots c.end.result empty
    (omega (arith, inside)) c.requires.room
    (c.in_ok-write_header.ensures.written told) in
    omega (arith, inside)

pub returns-in_err-write_zeros-clause-any_moment : goal.returns-in_err-write_zeros-clause-any_moment
returns-in_err-write_zeros-clause-any_moment g c = λ told.
    let old = g.O.Site.trace c.args.site.now in
    let zeroed = g.O.Site.trace c.write_zeros.new.site in
    let long : length old.now.image ≡ 1 = zeros_end old.now.image 1 (c.requires.begun told) in
    shut_each (c.end.result - 1) old zeroed (c.requires.synced told) (c.requires.begun told)
    (row_of 1 (c.end.result - 1) old zeroed (c.requires.synced told) (omega arith)
    (c.write_zeros.ensures.row told)).each

pub returns-in_err-write_header-clause-any_moment : goal.returns-in_err-write_header-clause-any_moment
returns-in_err-write_header-clause-any_moment g c = λ told.
    let ends : c.end.result ≡ image_end (layout_of c.args.form c.args.slots) =
    end_size c.args.form c.args.slots c.end.result c.new.result c.end.ensures c.new.ensures.is in
    let inside = head_within c.args.form c.args.slots c.end.result
    (length c.args.content.now) c.requires.form ends c.requires.sized in
    let count = c.end.result - 1 in
    let old = g.O.Site.trace c.args.site.now in
    let zeroed = g.O.Site.trace c.write_zeros.new.site in
    let headed = g.O.Site.trace c.write_header.new.site in
    let long : length old.now.image ≡ 1 = zeros_end old.now.image 1 (c.requires.begun told) in
    shut_each count old headed (c.requires.synced told) (c.requires.begun told)
    (row_of 1 count old headed (c.requires.synced told) (omega arith)
    (in_then 1 count old zeroed headed (c.write_zeros.ensures.row told)
    (in_wider MAGIC_AT (BANKS_AT - MAGIC_AT) 1 count zeroed headed (omega arith) (omega (arith, inside))
    (c.write_header.ensures.row told)))).each

pub returns-in_err-write_open_bank-clause-any_moment : goal.returns-in_err-write_open_bank-clause-any_moment
returns-in_err-write_open_bank-clause-any_moment g c = λ told.
    let ends : c.end.result ≡ image_end (layout_of c.args.form c.args.slots) =
    end_size c.args.form c.args.slots c.end.result c.new.result c.end.ensures c.new.ensures.is in
    let inside = head_within c.args.form c.args.slots c.end.result
    (length c.args.content.now) c.requires.form ends c.requires.sized in
    let count = c.end.result - 1 in
    let old = g.O.Site.trace c.args.site.now in
    let zeroed = g.O.Site.trace c.write_zeros.new.site in
    let headed = g.O.Site.trace c.write_header.new.site in
    let mid = g.O.Site.trace c.write_open_bank.new.site in
    let long : length old.now.image ≡ 1 = zeros_end old.now.image 1 (c.requires.begun told) in
    shut_each count old mid (c.requires.synced told) (c.requires.begun told)
    (row_of 1 count old mid (c.requires.synced told) (omega arith)
    (in_then 1 count old headed mid
    (in_then 1 count old zeroed headed (c.write_zeros.ensures.row told)
    (in_wider MAGIC_AT (BANKS_AT - MAGIC_AT) 1 count zeroed headed (omega arith) (omega (arith, inside))
    (c.write_header.ensures.row told)))
    (in_wider BANKS_AT (CONTENT_AT + length c.args.content.now) 1 count headed mid (omega arith) (omega (arith, inside))
    (c.write_open_bank.ensures.row told)))).each

pub returns-clause-any_moment : goal.returns-clause-any_moment
returns-clause-any_moment g c = λ told.
    let ends : c.end.result ≡ image_end (layout_of c.args.form c.args.slots) =
    end_size c.args.form c.args.slots c.end.result c.new.result c.end.ensures c.new.ensures.is in
    let inside = head_within c.args.form c.args.slots c.end.result
    (length c.args.content.now) c.requires.form ends c.requires.sized in
    let count = c.end.result - 1 in
    let old = g.O.Site.trace c.args.site.now in
    let zeroed = g.O.Site.trace c.write_zeros.new.site in
    let headed = g.O.Site.trace c.write_header.new.site in
    let mid = g.O.Site.trace c.write_open_bank.new.site in
    let new = g.O.Site.trace c.sync.new.self in
    let long : length old.now.image ≡ 1 = zeros_end old.now.image 1 (c.requires.begun told) in
    shut_each count old new (c.requires.synced told) (c.requires.begun told)
    (row_synced c.sync.result 1 count old mid new
    (row_of 1 count old mid (c.requires.synced told) (omega arith)
    (in_then 1 count old headed mid
    (in_then 1 count old zeroed headed (c.write_zeros.ensures.row told)
    (in_wider MAGIC_AT (BANKS_AT - MAGIC_AT) 1 count zeroed headed (omega arith) (omega (arith, inside))
    (c.write_header.ensures.row told)))
    (in_wider BANKS_AT (CONTENT_AT + length c.args.content.now) 1 count headed mid (omega arith) (omega (arith, inside))
    (c.write_open_bank.ensures.row told)))) (c.sync.ensures.synced told))

pub returns-clause-laid : goal.returns-clause-laid
returns-clause-laid g c = λ told.
    let ends : c.end.result ≡ image_end (layout_of c.args.form c.args.slots) =
    end_size c.args.form c.args.slots c.end.result c.new.result c.end.ensures c.new.ensures.is in
    let inside = head_within c.args.form c.args.slots c.end.result
    (length c.args.content.now) c.requires.form ends c.requires.sized in
    let zeroed = (g.O.Site.trace c.write_zeros.new.site).now.image in
    let empty : zeroed ≡ zeros c.end.result =
    zeros_to (g.O.Site.trace c.args.site.now).now.image zeroed c.end.result (omega (arith, inside))
    (c.requires.begun told)
    (c.in_ok-write_zeros.ensures.written told) in
    laid_ok c.sync.result (g.O.Site.trace c.write_open_bank.new.site)
    (g.O.Site.trace c.sync.new.self) c.args.form c.args.plan.now
    c.args.slots c.end.result c.args.content.now zeroed
    (g.O.Site.trace c.write_header.new.site).now.image c.requires.form ends
    c.requires.room c.requires.sized empty (c.in_ok-write_header.ensures.written told)
    (c.in_ok-write_open_bank.ensures.written told)
    (c.sync.ensures.synced told)
