use Rattle.std.proofs.Common.{◌∙◌, ap, Some}
use Rattle.std.specs.Option.{option_map}
use Rattle.book_record.specs.Reading.{change_at}
use Rattle.book_record.proofs.Again.{record_found}
use Rattle.book_record.proofs.laws.change_of_its_kind.Goals as goal

pub returns : goal.returns
returns c = λ change body is.
    let found = record_found change body is in
    ap (option_map (λ kind. change_at kind body)) found.found ∙ ap Some found.value
