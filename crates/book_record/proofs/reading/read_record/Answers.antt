use Rattle.std.proofs.Common.{sym, ap, subst, ◌∙◌}
use Rattle.std.proofs.lemmas.Result.{err_from_is_err_and}
use Rattle.book_record.specs.Record.{HasRecord, record_octets}
use Rattle.book_record.proofs.Again.{record_says, has_record, no_kind, unequal, wants_memory}
use Rattle.book_record.proofs.reading.read_record.Goals as goal

pub returns-in_err-change-clause-only : goal.returns-in_err-change-clause-only
returns-in_err-change-clause-only c =
    let p = err_from_is_err_and c.from_residual.result c.from_residual.ensures.1 in
    λ change is. rw (p.1, p.2) (wants_memory c.in_err-change.field-0.0 c.in_err-change.ensures
    (record_says change c.args.body.now c.in-Some.kind (sym c.of.ensures ∙ c.in-Some.is) is).may)

pub write_record-requires : goal.write_record-requires
write_record-requires c =
    subst HasRecord (sym c.in_ok-change.ensures.1)
    (has_record c.in-Some.kind c.args.body.now c.told-body c.in_ok-change.ensures.0)

pub returns-then-eq-clause-only : goal.returns-then-eq-clause-only
returns-then-eq-clause-only c =
    λ change is. c.in_ok-change.ensures.1
    ∙ (record_says change c.args.body.now c.in-Some.kind (sym c.of.ensures ∙ c.in-Some.is) is).value

pub returns-in_default-clause-only : goal.returns-in_default-clause-only
returns-in_default-clause-only c =
    λ change is. absurd (no_kind change c.args.body.now (sym c.of.ensures ∙ c.in_default.is) is)

pub returns-else-eq-clause-only : goal.returns-else-eq-clause-only
returns-else-eq-clause-only c =
    λ change is.
    let same =
    c.in_ok-change.ensures.1
    ∙ (record_says change c.args.body.now c.in-Some.kind (sym c.of.ensures ∙ c.in-Some.is) is).value in
    absurd (unequal c.write_record.result c.args.body.now c.if-eq.ensures
    (c.write_record.ensures.spelled ∙ ap record_octets same ∙ sym is.spelled))
