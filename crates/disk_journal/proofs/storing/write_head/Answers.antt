use Rattle.std.proofs.Common.{rules, ◌≡◌, ◌+◌, ◌-◌, length, arith}
use Rattle.disk_journal.specs.declared.layout.TheConstants.{GENERATION_AT, CONTENT_AT}
use Rattle.disk_journal.proofs.Heads.{head_written}
use Rattle.disk_journal.proofs.Writing.{in_then, in_wider, writes_in}
use Rattle.disk_journal.proofs.storing.write_head.Goals as goal

pub returns-in_err-write_at-clause-row : goal.returns-in_err-write_at-clause-row
returns-in_err-write_at-clause-row g c = λ told.
    let size : length c.write_u64.new.buf ≡ 8 = search rules in
    in_wider (c.args.bank + GENERATION_AT) (length c.write_u64.new.buf) (c.args.bank + 1)
    (CONTENT_AT + length c.args.content.now - 1)
    (g.O.Site.trace c.args.site.now) (g.O.Site.trace c.write_at.new.self) (omega arith) (omega arith)
    (writes_in (c.args.bank + GENERATION_AT) c.write_u64.new.buf c.write_at.result (g.O.Site.trace c.args.site.now)
    (g.O.Site.trace c.write_at.new.self) (c.write_at.ensures.written told))

pub returns-clause-row : goal.returns-clause-row
returns-clause-row g c = λ told.
    let size : length c.write_u64.new.buf ≡ 8 = search rules in
    let old = g.O.Site.trace c.args.site.now in
    let mid = g.O.Site.trace c.write_at.new.self in
    let new = g.O.Site.trace c.write_at-2.new.self in
    let count = CONTENT_AT + length c.args.content.now - 1 in
    in_then (c.args.bank + 1) count old mid new
    (in_wider (c.args.bank + GENERATION_AT) (length c.write_u64.new.buf) (c.args.bank + 1) count old mid (omega arith)
    (omega arith)
    (writes_in (c.args.bank + GENERATION_AT) c.write_u64.new.buf c.write_at.result old mid
    (c.write_at.ensures.written told)))
    (in_wider (c.args.bank + CONTENT_AT) (length c.args.content.now) (c.args.bank + 1) count mid new (omega arith)
    (omega arith)
    (writes_in (c.args.bank + CONTENT_AT) c.args.content.now c.write_at-2.result mid new
    (c.write_at-2.ensures.written told)))

pub returns-clause-written : goal.returns-clause-written
returns-clause-written g c = λ told.
    head_written c.write_at-2.result (g.O.Site.trace c.args.site.now).now.image (g.O.Site.trace c.write_at.new.self)
    (g.O.Site.trace c.write_at-2.new.self) c.args.bank c.args.generation c.write_u64.new.buf c.args.content.now
    (c.in_ok-write_at.ensures.written told).1 (search rules) (c.write_at-2.ensures.written told)
