use Rattle.std.proofs.Common.{◌≡◌, length, ◌∙◌}
use Rattle.key_book.specs.declared.key_row.KeyRow.{KeyRow}
use Rattle.key_book.specs.Table.{front}
use Rattle.key_book.proofs.Tabled.{IsIndex-push}
use Rattle.key_book.proofs.table.Table.push_reserved.Goals as goal

pub returns-clause-indexed : goal.returns-clause-indexed
returns-clause-indexed c =
    let place : c.len-place.result ≡ length c.args.self.now.rows.items =
    c.len-place.ensures ∙ c.args.self.now.rows.ok.0 in
    let id : c.from.result ≡ c.args.row.id = c.from.ensures ∙ c.get.ensures.number in
    record {
      ids = rw c.push_reserved.ensures.items
          (IsIndex-push (λ (row : KeyRow). row.id) _ c.args.row _ _ c.requires.indexed.ids c.note.ensures.ascending
          (λ other. rw (id, place) at (c.note.ensures.noted other)));
      fronts = rw c.push_reserved.ensures.items
          (IsIndex-push (λ (row : KeyRow). front row.digest) _ c.args.row _ _ c.requires.indexed.fronts
          c.note-2.ensures.ascending (λ other. rw (c.front.ensures, place) at (c.note-2.ensures.noted other)));
    }
