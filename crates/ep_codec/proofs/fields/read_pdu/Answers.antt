use Rattle.std.proofs.Common.{arith}
use Rattle.std.proofs.lemmas.Result.{err_from_is_err_and}
use Rattle.ep_codec.proofs.CommandReadings.{header_only, header_fault, fields_found, fields_only, fields_fault}
use Rattle.ep_codec.proofs.fields.read_pdu.Goals as goal

pub returns-in_err-procedure-clause-only : goal.returns-in_err-procedure-clause-only
returns-in_err-procedure-clause-only c =
    let p = err_from_is_err_and c.from_residual.result c.from_residual.ensures.1 in
    λ command is.
    rw (p.1, p.2) (header_only c.args.octets.now c.in_err-procedure.field-0.0 c.in_err-procedure.ensures.judged
    command is)

pub returns-in_err-procedure-clause-fault : goal.returns-in_err-procedure-clause-fault
returns-in_err-procedure-clause-fault c =
    let p = err_from_is_err_and c.from_residual.result c.from_residual.ensures.1 in
    rw (p.1, p.2) (header_fault c.args.octets.now c.in_err-procedure.field-0.0 c.in_err-procedure.ensures.judged)

pub returns-clause-found : goal.returns-clause-found
returns-clause-found c =
    let header = c.in_ok-procedure.ensures.judged in
    fields_found c.args.octets.now c.in_ok-procedure.procedure c.command.result
    (λ i. omega (arith, c.type_inv.octets i)) header.0 header.1 c.command.ensures

pub returns-clause-only : goal.returns-clause-only
returns-clause-only c =
    fields_only c.args.octets.now c.in_ok-procedure.procedure c.command.result c.in_ok-procedure.ensures.judged.1
    c.command.ensures

pub returns-clause-fault : goal.returns-clause-fault
returns-clause-fault c =
    let header = c.in_ok-procedure.ensures.judged in
    fields_fault c.args.octets.now c.in_ok-procedure.procedure c.command.result header.0 header.1 c.command.ensures
