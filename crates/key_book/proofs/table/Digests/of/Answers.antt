use Rattle.std.proofs.Common.{◌<◌, length, ap, ◌∙◌, arith}
use Rattle.std.proofs.lemmas.List.{get_or_default, length-set}
use Rattle.sha2.specs.Sha256.{sha256}
use Rattle.sdls_base.specs.declared.key_id.KeyItem.{KeyItem}
use Rattle.key_book.proofs.Digested.{known-more}
use Rattle.key_book.proofs.table.Digests.of.Goals as goal

pub loop-i-preserved : goal.loop-i-preserved
loop-i-preserved c =
    let within : c.loop-i.i < length c.args.items.now = omega (arith, c.loop-i-test.true, c.min-i-end.ensures) in
    let low : c.loop-i.i < length c.loop-i.first =
    omega (arith, c.loop-i-test.true, c.min-i-end.ensures, c.loop-i.invariant.sized) in
    record {
      sized = length-set c.loop-i.first c.loop-i.i c.digest.result ∙ c.loop-i.invariant.sized;
      known = known-more c.loop-i.first c.args.items.now c.loop-i.i c.digest.result low
          (λ item. c.digest.ensures ∙ ap sha256
          (c.as_slice.ensures ∙ ap (λ (x : KeyItem). x.bytes)
          (get_or_default c.args.items.now c.loop-i.i c.index-items-i.result item within)))
          c.loop-i.invariant.known;
    }

pub returns : goal.returns
returns c = λ k d item low there.
    c.loop-i.invariant.known k d item
    (omega (arith, c.loop-i-test.false, c.min-i-end.ensures, c.loop-i.invariant.sized))
