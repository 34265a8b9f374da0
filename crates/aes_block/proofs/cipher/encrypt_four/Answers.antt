use Rattle.std.proofs.Common.{◌≡◌, [], get_or, ap, sym, ◌∙◌, arith, map}
use Rattle.aes_block.specs.Aes.{add_round_key, cipher, round_key}
use Rattle.aes_block.specs.Basis.{element}
use Rattle.aes_block.proofs.RoundFacts.{round_none, round_more, rounds_all}
use Rattle.aes_block.proofs.ScheduleFacts.{four}
use Rattle.aes_block.proofs.cipher.encrypt_four.Goals as goal

pub rounds-init : goal.rounds-init
rounds-init c = record {
  a = λ words holds.
      round_none words (get_or c.args.blocks.now 0 []) c.first_round-a.result
      (c.first_round-a.ensures ∙ ap (λ b. add_round_key b c.vector-first.result) c.vector.ensures
      ∙ ap (add_round_key (get_or c.args.blocks.now 0 [])) (c.vector-first.ensures ∙ holds.first));
  b = λ words holds.
      round_none words (get_or c.args.blocks.now 1 []) c.first_round-b.result
      (c.first_round-b.ensures ∙ ap (λ b. add_round_key b c.vector-first.result) c.vector-2.ensures
      ∙ ap (add_round_key (get_or c.args.blocks.now 1 [])) (c.vector-first.ensures ∙ holds.first));
  c = λ words holds.
      round_none words (get_or c.args.blocks.now 2 []) c.first_round-c.result
      (c.first_round-c.ensures ∙ ap (λ b. add_round_key b c.vector-first.result) c.vector-3.ensures
      ∙ ap (add_round_key (get_or c.args.blocks.now 2 [])) (c.vector-first.ensures ∙ holds.first));
  d = λ words holds.
      round_none words (get_or c.args.blocks.now 3 []) c.first_round-d.result
      (c.first_round-d.ensures ∙ ap (λ b. add_round_key b c.vector-first.result) c.vector-4.ensures
      ∙ ap (add_round_key (get_or c.args.blocks.now 3 [])) (c.vector-first.ensures ∙ holds.first));
}

pub rounds-preserved : goal.rounds-preserved
rounds-preserved c = record {
  a = λ words holds.
      round_more words (get_or c.args.blocks.now 0 []) c.rounds.a c.next_round-a.result c.rounds.round (omega arith)
      (c.rounds.invariant.a words holds)
      (c.next_round-a.ensures (round_key words c.rounds.round)
      (ap (map element) c.vector-key.ensures ∙ holds.between c.rounds.round (omega arith) (omega arith)));
  b = λ words holds.
      round_more words (get_or c.args.blocks.now 1 []) c.rounds.b c.next_round-b.result c.rounds.round (omega arith)
      (c.rounds.invariant.b words holds)
      (c.next_round-b.ensures (round_key words c.rounds.round)
      (ap (map element) c.vector-key.ensures ∙ holds.between c.rounds.round (omega arith) (omega arith)));
  c = λ words holds.
      round_more words (get_or c.args.blocks.now 2 []) c.rounds.c c.next_round-c.result c.rounds.round (omega arith)
      (c.rounds.invariant.c words holds)
      (c.next_round-c.ensures (round_key words c.rounds.round)
      (ap (map element) c.vector-key.ensures ∙ holds.between c.rounds.round (omega arith) (omega arith)));
  d = λ words holds.
      round_more words (get_or c.args.blocks.now 3 []) c.rounds.d c.next_round-d.result c.rounds.round (omega arith)
      (c.rounds.invariant.d words holds)
      (c.next_round-d.ensures (round_key words c.rounds.round)
      (ap (map element) c.vector-key.ensures ∙ holds.between c.rounds.round (omega arith) (omega arith)));
}

pub returns : goal.returns
returns c = λ words holds.
    let a_is : c.last_round.result ≡ cipher words c.args.rounds (get_or c.args.blocks.now 0 []) =
    rounds_all words (get_or c.args.blocks.now 0 []) c.rounds.a c.last_round.result c.rounds.round c.args.rounds
    (omega arith)
    (c.rounds.invariant.a words holds)
    (c.last_round.ensures (round_key words c.args.rounds) (c.vector-last.ensures ∙ holds.last)) in
    let b_is : c.last_round-2.result ≡ cipher words c.args.rounds (get_or c.args.blocks.now 1 []) =
    rounds_all words (get_or c.args.blocks.now 1 []) c.rounds.b c.last_round-2.result c.rounds.round c.args.rounds
    (omega arith)
    (c.rounds.invariant.b words holds)
    (c.last_round-2.ensures (round_key words c.args.rounds) (c.vector-last.ensures ∙ holds.last)) in
    let c_is : c.last_round-3.result ≡ cipher words c.args.rounds (get_or c.args.blocks.now 2 []) =
    rounds_all words (get_or c.args.blocks.now 2 []) c.rounds.c c.last_round-3.result c.rounds.round c.args.rounds
    (omega arith)
    (c.rounds.invariant.c words holds)
    (c.last_round-3.ensures (round_key words c.args.rounds) (c.vector-last.ensures ∙ holds.last)) in
    let d_is : c.last_round-4.result ≡ cipher words c.args.rounds (get_or c.args.blocks.now 3 []) =
    rounds_all words (get_or c.args.blocks.now 3 []) c.rounds.d c.last_round-4.result c.rounds.round c.args.rounds
    (omega arith)
    (c.rounds.invariant.d words holds)
    (c.last_round-4.ensures (round_key words c.args.rounds) (c.vector-last.ensures ∙ holds.last)) in
    rw (a_is, b_is, c_is, d_is) (sym (ap (map (cipher words c.args.rounds)) (four [] c.args.blocks.now c.told-blocks)))
