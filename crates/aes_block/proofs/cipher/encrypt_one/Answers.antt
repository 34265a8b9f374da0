use Rattle.std.proofs.Common.{ap, ◌∙◌, arith, map}
use Rattle.aes_block.specs.Aes.{add_round_key, round_key}
use Rattle.aes_block.specs.Basis.{element}
use Rattle.aes_block.proofs.RoundFacts.{round_none, round_more, rounds_all}
use Rattle.aes_block.proofs.cipher.encrypt_one.Goals as goal

pub rounds-init : goal.rounds-init
rounds-init c = λ words holds.
    round_none words c.args.block c.first_round-state.result
    (c.first_round-state.ensures ∙ ap (add_round_key c.args.block) (c.vector.ensures ∙ holds.first))

pub rounds-preserved : goal.rounds-preserved
rounds-preserved c = λ words holds.
    round_more words c.args.block c.rounds.state c.next_round-state.result c.rounds.round (omega arith)
    (c.rounds.invariant words holds)
    (c.next_round-state.ensures (round_key words c.rounds.round)
    (ap (map element) c.vector-in-rounds.ensures ∙ holds.between c.rounds.round (omega arith) (omega arith)))

pub returns : goal.returns
returns c = λ words holds.
    rounds_all words c.args.block c.rounds.state c.last_round.result c.rounds.round c.args.rounds (omega arith)
    (c.rounds.invariant words holds)
    (c.last_round.ensures (round_key words c.args.rounds) (c.vector-2.ensures ∙ holds.last))
