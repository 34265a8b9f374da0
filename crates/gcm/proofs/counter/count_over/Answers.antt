use Rattle.std.proofs.Common.{◌*◌, [], ap, get_or, ◌∙◌, arith}
use Rattle.aes_block.specs.Aes.{encrypted}
use Rattle.gcm.proofs.CounterFacts.{counted_none, counted_more, counted_to, counted_all}
use Rattle.gcm.proofs.counter.count_over.Goals as goal

pub fours-init : goal.fours-init
fours-init c =
    let key = c.args.key.now in
    let iv = c.args.iv.now in
    let text = c.args.text.now in
    counted_more key iv (get_or c.args.first.now 2 []) text c.xor_pad.new.text c.xor_pad-2.new.text 1
    (ap (λ l. get_or l 2 []) c.requires.first)
    (counted_more key iv (get_or c.args.first.now 1 []) text text c.xor_pad.new.text 0
    (ap (λ l. get_or l 1 []) c.requires.first) (counted_none key iv text) c.xor_pad.ensures)
    c.xor_pad-2.ensures

pub fours-preserved : goal.fours-preserved
fours-preserved c =
    counted_to c.args.key.now c.args.iv.now c.args.text.now c.count_four.new.text _ _ (omega arith)
    (c.count_four.ensures c.args.text.now c.fours.invariant)

pub rest-init : goal.rest-init
rest-init c =
    counted_to c.args.key.now c.args.iv.now c.args.text.now c.fours.text _ _ (omega arith) c.fours.invariant

pub rest-preserved : goal.rest-preserved
rest-preserved c =
    counted_more c.args.key.now c.args.iv.now c.encrypt-pad.result c.args.text.now c.rest.text
    c.xor_pad-in-rest.new.text
    c.rest.i (c.encrypt-pad.ensures ∙ ap (encrypted c.args.key.now) c.counter_block.ensures)
    c.rest.invariant c.xor_pad-in-rest.ensures

pub returns : goal.returns
returns c =
    counted_all c.args.key.now c.args.iv.now c.args.text.now c.rest.text (16 * c.rest.i) (omega arith) c.rest.invariant
