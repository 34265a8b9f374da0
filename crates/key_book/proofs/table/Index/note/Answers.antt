use Rattle.std.proofs.Common.{is_ok, ap}
use Rattle.key_book.proofs.Indexed.{noted-there, noted-new}
use Rattle.key_book.proofs.table.Index.note.Goals as goal

pub returns-in-Err-clause-noted : goal.returns-in-Err-clause-noted
returns-in-Err-clause-noted c =
    let items = rw (ap is_ok c.unwrap.ensures) at c.insert.ensures.items in
    λ other. rw items (noted-new _ (record { number = c.args.number; place = c.args.place }) _ c.in-Err.ensures.absent
    other)

pub returns-in_default-clause-noted : goal.returns-in_default-clause-noted
returns-in_default-clause-noted c =
    noted-there _ c.args.number c.args.place _ c.requires.ascending c.in_default.ensures.found
