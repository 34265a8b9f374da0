use Rattle.std.proofs.Common.{Some, sym, ap, ◌∙◌}
use Rattle.std.proofs.lemmas.List.{get_or_default}
use Rattle.key_book.specs.declared.table.Entry.{Entry}
use Rattle.key_book.proofs.Indexed.{none_at, place_at, place_in_gap}
use Rattle.key_book.proofs.table.Index.place.Goals as goal

pub returns-in-Ok : goal.returns-in-Ok
returns-in-Ok c =
    let found = c.in-Ok.ensures.found in
    let read = c.index.ensures ∙ get_or_default _ _ c.index.result.now none_at found.within in
    ap Some (c.from.ensures ∙ ap (λ (entry : Entry). entry.place) read) ∙ sym (place_at _ _ _ c.requires found)

pub returns-in-Err : goal.returns-in-Err
returns-in-Err c = sym (place_in_gap _ _ _ c.in-Err.ensures.absent)
