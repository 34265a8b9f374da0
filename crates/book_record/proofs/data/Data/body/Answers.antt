use Rattle.std.proofs.Common.{◌≡◌, ℕ, ◌+◌, List, ◌∷◌, ◌++◌, length, take, drop, replicate, sym, ap, ◌∙◌, arith}
use Rattle.std.specs.Int.{w16, to_be_bytes}
use Rattle.std.proofs.lemmas.List.{length-take-le}
use Rattle.book_record.specs.Record.{body_of}
use Rattle.book_record.proofs.Bodies.{body_put, same_rest}
use Rattle.book_record.proofs.data.Data.body.Goals as goal

pub returns : goal.returns
returns c =
    let filled = take c.self.inside.end c.self.inside.octets in
    let whole : length filled ≡ c.self.inside.end =
    length-take-le c.self.inside.end c.self.inside.octets (omega (arith, c.self.told, c.self.invariant)) in
    let one : c.put-length_at.result ≡ 1 = omega (arith, c.put-length_at.ensures.place) in
    let three : c.put-data_at.result ≡ 3 =
    omega (arith, one, c.put-data_at.ensures.place, ap length c.to_be_bytes.ensures) in
    let end : c.put.result ≡ 3 + length filled = omega (arith, three, c.put.ensures.place) in
    let size : c.to_be_bytes.result ≡ to_be_bytes w16 (length filled) =
    c.to_be_bytes.ensures ∙ ap (to_be_bytes w16) (sym whole) in
    let front : take c.put.result c.put.new.out ≡ (c.args.kind ∷ to_be_bytes w16 (length filled)) ++ filled =
    c.put.ensures.written ∙ ap (λ (s : List ℕ). s ++ filled)
    (c.put-data_at.ensures.written ∙ ap (λ (s : List ℕ). s ++ c.to_be_bytes.result) c.put-length_at.ensures.written
    ∙ ap (λ (s : List ℕ). c.args.kind ∷ s) size) in
    let rest : drop c.put.result c.put.new.out ≡ drop c.put.result (replicate 511 0) =
    c.put.ensures.rest
    ∙ same_rest c.put-data_at.result c.put.result c.put-data_at.new.out c.put-length_at.new.out (omega arith)
    c.put-data_at.ensures.rest
    ∙ same_rest c.put-length_at.result c.put.result c.put-length_at.new.out (replicate 511 0) (omega arith)
    c.put-length_at.ensures.rest in
    body_put c.args.kind filled c.put.new.out c.put.result end front rest ∙ ap (body_of c.args.kind) c.self.view_is
