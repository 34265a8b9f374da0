use Rattle.std.proofs.Common.{ℕ, List, ◌++◌, ◌∙◌, ap, sym, drop}
use Rattle.std.specs.Int.{w16, to_be_bytes}
use Rattle.sdls_base.proofs.Pieces.{written_none, written_more, written_whole}
use Rattle.sdls_header.specs.SecurityHeader.{vector_octets}
use Rattle.sdls_header.proofs.splitting.write_header.Goals as goal

pub returns-in-Wide-clause-written : goal.returns-in-Wide-clause-written
returns-in-Wide-clause-written c =
    let out : List ℕ = c.args.out.now in
    let w1 = written_more _ _ _ _ (written_none out) c.to_be_bytes.result _ _ c.put-spi_end.ensures.place
    c.put-spi_end.ensures.written c.put-spi_end.ensures.rest in
    let w2 = written_more _ _ _ _ w1 c.wide_octets.result _ _ c.put-in-Wide.ensures.place c.put-in-Wide.ensures.written
    c.put-in-Wide.ensures.rest in
    written_whole _ _ _ _ w2
    ∙ ap (λ l. (l ++ c.wide_octets.result) ++ drop c.put-in-Wide.result out)
    (c.to_be_bytes.ensures ∙ ap (λ n. to_be_bytes w16 n) c.get.ensures.number)
    ∙ ap (λ l. (to_be_bytes w16 c.args.header.now.spi ++ l) ++ drop c.put-in-Wide.result out)
    (c.wide_octets.ensures ∙ sym (ap vector_octets c.in-Wide.is))
