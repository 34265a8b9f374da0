use Rattle.std.proofs.Common.{List, ℕ, arith, replicate}
use Rattle.std.proofs.lemmas.List.{length-set}
use Rattle.aes_block.proofs.ScheduleFacts.{keys_none}
use Rattle.aes_block.proofs.expansion.keys_of.Goals as goal

pub rounds-init : goal.rounds-init
rounds-init c =
    let none : List (List ℕ) = replicate 15 (replicate 16 0) in
    record {
      long = length-set none 0 c.round_key.result;
      first = keys_none c.args.words.now c.round_key.result none (omega arith) c.round_key.ensures;
      between = λ m some lt. absurd (omega arith);
    }
