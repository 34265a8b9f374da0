use Rattle.std.proofs.Common.{◌+◌, ◌*◌, ℕ, List, [], get_or, refl, ap, ◌∙◌, arith, map}
use Rattle.aes_block.specs.Aes.{encrypted}
use Rattle.gcm.proofs.CounterFacts.{counted_more, counted_to, pad_at}
use Rattle.gcm.proofs.counter.count_four.Goals as goal

pub pads-init : goal.pads-init
pads-init c = record {
  same_length = refl;
  counted = λ clear counts. counted_to c.args.key.now c.args.iv.now clear c.args.text.now _ _ (omega arith) counts;
}

pub pads-preserved : goal.pads-preserved
pads-preserved c =
    let i : ℕ = c.pads.i in
    let key : List ℕ = c.args.key.now in
    let iv : List ℕ = c.args.iv.now in
    let first : ℕ = c.args.first in
    record {
      same_length = c.xor_pad.ensures.same_length ∙ c.pads.invariant.same_length;
      counted = λ clear counts.
          counted_to key iv clear c.xor_pad.new.text (16 * (first + i + 1)) _ (omega arith)
          (counted_more key iv (get_or c.encrypt4-pads.result i []) clear c.pads.text c.xor_pad.new.text (first + i)
          (ap (λ (l : List (List ℕ)). get_or l i [])
          (c.encrypt4-pads.ensures ∙ ap (map (encrypted key)) c.four_counters.ensures)
          ∙ pad_at key iv first i (omega arith))
          (c.pads.invariant.counted clear counts) c.xor_pad.ensures);
    }

pub returns : goal.returns
returns c = λ clear counts.
    counted_to c.args.key.now c.args.iv.now clear c.pads.text _ _ (omega arith) (c.pads.invariant.counted clear counts)
