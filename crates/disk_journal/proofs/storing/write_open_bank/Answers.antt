use Rattle.std.proofs.Common.{◌+◌, ◌-◌, ◌∷◌, [], length, arith}
use Rattle.disk_journal.specs.declared.layout.TheConstants.{CONTENT_AT, OPEN}
use Rattle.disk_journal.proofs.Heads.{bank_written}
use Rattle.disk_journal.proofs.Writing.{in_then, in_wider, writes_in}
use Rattle.disk_journal.proofs.storing.write_open_bank.Goals as goal

pub returns-in_err-write_at-clause-row : goal.returns-in_err-write_at-clause-row
returns-in_err-write_at-clause-row g c = λ told.
    in_wider c.args.bank 1 c.args.bank (CONTENT_AT + length c.args.content.now) (g.O.Site.trace c.args.site.now)
    (g.O.Site.trace c.write_at.new.self) (omega arith) (omega arith)
    (writes_in c.args.bank (OPEN ∷ []) c.write_at.result (g.O.Site.trace c.args.site.now)
    (g.O.Site.trace c.write_at.new.self)
    (c.write_at.ensures.written told))

pub returns-clause-row : goal.returns-clause-row
returns-clause-row g c = λ told.
    let old = g.O.Site.trace c.args.site.now in
    let mid = g.O.Site.trace c.write_at.new.self in
    let new = g.O.Site.trace c.write_head.new.site in
    let count = CONTENT_AT + length c.args.content.now in
    in_then c.args.bank count old mid new
    (in_wider c.args.bank 1 c.args.bank count old mid (omega arith) (omega arith)
    (writes_in c.args.bank (OPEN ∷ []) c.write_at.result old mid (c.write_at.ensures.written told)))
    (in_wider (c.args.bank + 1) (count - 1) c.args.bank count mid new (omega arith) (omega arith)
    (c.write_head.ensures.row told))

pub returns-clause-written : goal.returns-clause-written
returns-clause-written g c = λ told.
    bank_written c.write_head.result (g.O.Site.trace c.args.site.now).now.image
    (g.O.Site.trace c.write_at.new.self).now.image
    (g.O.Site.trace c.write_head.new.site).now.image c.args.bank c.args.generation c.args.content.now
    (c.in_ok-write_at.ensures.written told).1 (c.write_head.ensures.written told)
