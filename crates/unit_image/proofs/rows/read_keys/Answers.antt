use Rattle.std.proofs.Common.{List, subst}
use Rattle.std.proofs.lemmas.Result.{err_from_is_err_and}
use Rattle.key_book.specs.declared.key_row.KeyRow.{KeyRow}
use Rattle.key_book.specs.KeyBook.{IsKeyBook}
use Rattle.unit_image.specs.ContentReading.{AreKeyRows}
use Rattle.unit_image.proofs.Contents.{same_keys, made, not_made}
use Rattle.unit_image.proofs.RowsRead.{whole_cause}
use Rattle.unit_image.proofs.rows.read_keys.Goals as goal

pub returns-in_err-rows-clause-fault : goal.returns-in_err-rows-clause-fault
returns-in_err-rows-clause-fault c =
    let p = err_from_is_err_and c.from_residual.result c.from_residual.ensures.1 in
    rw (p.1, p.2) (whole_cause c.in_err-rows.field-0.0 (λ none rows rules are. none rows are)
    c.in_err-rows.ensures.fault)

pub returns-clause-found : goal.returns-clause-found
returns-clause-found c =
    made IsKeyBook (λ (rows : List KeyRow). AreKeyRows rows c.args.octets.now) c.keys_of.result c.in_ok-rows.rows.items
    c.keys_of.ensures
    (λ rules. c.in_ok-rows.ensures.found)

pub returns-clause-fault : goal.returns-clause-fault
returns-clause-fault c =
    let rows = c.in_ok-rows.rows.items in
    not_made IsKeyBook c.keys_of.result rows ((others : List KeyRow) → IsKeyBook others
    → ¬ AreKeyRows others c.args.octets.now) c.keys_of.ensures
    (λ broken others rules are.
    broken (subst IsKeyBook (same_keys others rows c.args.octets.now are c.in_ok-rows.ensures.found) rules))
