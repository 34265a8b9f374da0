use Rattle.std.proofs.Common.{◌≡◌, ◌-◌, ◌≤◌, ◌∙◌, ap, length, List, ℕ, arith}
use Rattle.disk_journal.specs.declared.layout.TheConstants.{BANKS_AT, HEADER_LENGTH, MAGIC_AT, PLAN_ROOM}
use Rattle.disk_journal.specs.Initial.{fields_of}
use Rattle.disk_journal.proofs.Beginning.{fields_size, two_written}
use Rattle.disk_journal.proofs.Writing.{in_then, in_wider, writes_in}
use Rattle.disk_journal.proofs.creating.write_header.Goals as goal

pub returns-in_err-write_at-clause-row : goal.returns-in_err-write_at-clause-row
returns-in_err-write_at-clause-row g c = λ told.
    let size : length c.fill_fields.new.fields ≡ 16 =
    ap (λ (octets : List ℕ). length octets) c.fill_fields.ensures ∙ fields_size c.args.form
    (length c.args.plan.now) c.args.slots in
    in_wider MAGIC_AT (length c.fill_fields.new.fields) MAGIC_AT (BANKS_AT - MAGIC_AT) (g.O.Site.trace c.args.site.now)
    (g.O.Site.trace c.write_at.new.self) (omega arith) (omega arith)
    (writes_in MAGIC_AT c.fill_fields.new.fields c.write_at.result (g.O.Site.trace c.args.site.now)
    (g.O.Site.trace c.write_at.new.self)
    (c.write_at.ensures.written told))

pub returns-clause-row : goal.returns-clause-row
returns-clause-row g c = λ told.
    let size : length c.fill_fields.new.fields ≡ 16 =
    ap (λ (octets : List ℕ). length octets) c.fill_fields.ensures ∙ fields_size c.args.form
    (length c.args.plan.now) c.args.slots in
    let room : length c.args.plan.now ≤ PLAN_ROOM = c.requires.room in
    let old = g.O.Site.trace c.args.site.now in
    let mid = g.O.Site.trace c.write_at.new.self in
    let new = g.O.Site.trace c.write_at-2.new.self in
    in_then MAGIC_AT (BANKS_AT - MAGIC_AT) old mid new
    (in_wider MAGIC_AT (length c.fill_fields.new.fields) MAGIC_AT (BANKS_AT - MAGIC_AT) old mid (omega arith)
    (omega arith)
    (writes_in MAGIC_AT c.fill_fields.new.fields c.write_at.result old mid (c.write_at.ensures.written told)))
    (in_wider HEADER_LENGTH (length c.args.plan.now) MAGIC_AT (BANKS_AT - MAGIC_AT) mid new (omega arith) (omega arith)
    (writes_in HEADER_LENGTH c.args.plan.now c.write_at-2.result mid new (c.write_at-2.ensures.written told)))

pub returns-clause-written : goal.returns-clause-written
returns-clause-written g c = λ told.
    two_written c.write_at-2.result (g.O.Site.trace c.args.site.now).now.image (g.O.Site.trace c.write_at.new.self)
    (g.O.Site.trace c.write_at-2.new.self) MAGIC_AT HEADER_LENGTH c.fill_fields.new.fields
    (fields_of c.args.form (length c.args.plan.now) c.args.slots) c.args.plan.now
    (c.in_ok-write_at.ensures.written told).1
    c.fill_fields.ensures (c.write_at-2.ensures.written told)
