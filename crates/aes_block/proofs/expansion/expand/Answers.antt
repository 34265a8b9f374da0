use Rattle.std.proofs.Common.{arith, ◌∙◌}
use Rattle.std.proofs.lemmas.List.{length-set}
use Rattle.aes_block.proofs.ScheduleFacts.{firsts_more, others_none, others_more}
use Rattle.aes_block.proofs.expansion.expand.Goals as goal

pub firsts-preserved : goal.firsts-preserved
firsts-preserved c = record {
  long = length-set c.firsts.words c.firsts.i c.word_at.result ∙ c.firsts.invariant.long;
  made = firsts_more c.firsts.words c.args.key.now c.firsts.i c.word_at.result (omega arith)
      c.firsts.invariant.made c.word_at.ensures;
}

pub others-init : goal.others-init
others-init c = record {
  long = c.firsts.invariant.long;
  made = others_none c.args.key_words c.firsts.i c.firsts.words c.args.key.now (omega arith) c.firsts.invariant.made;
}

pub others-preserved : goal.others-preserved
others-preserved c = record {
  long = length-set c.others.words c.others.i c.next_word.result ∙ c.others.invariant.long;
  made = others_more c.args.key_words c.others.words c.args.key.now c.others.i c.next_word.result
      (omega arith) (omega arith) (omega arith) c.others.invariant.made c.next_word.ensures;
}
