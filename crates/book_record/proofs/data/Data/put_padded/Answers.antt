use Rattle.std.proofs.Common.{◌-◌, ◌++◌, List, ℕ, length, take, replicate, ap, ◌∙◌, append_assoc, arith}
use Rattle.std.proofs.lemmas.List.{take-replicate}
use Rattle.book_record.proofs.data.Data.put_padded.Goals as goal

pub returns : goal.returns
returns c =
    let field = c.args.field.now in
    let more = c.args.width - length field in
    c.put-2.ensures
    ∙ ap (λ (s : List ℕ). s ++ take more (replicate 32 0)) c.put.ensures
    ∙ append_assoc c.args.self.now field (take more (replicate 32 0))
    ∙ ap (λ (s : List ℕ). c.args.self.now ++ (field ++ s)) (take-replicate more 32 0 (omega (arith, c.requires.width)))
