use Rattle.std.proofs.Common.{codes, refl, sym, ◌∙◌, rules}
use Rattle.input_text.proofs.AskedWords.{at_words_are, other_none, some_line}
use Rattle.input_text.proofs.line.said.Goals as goal

pub returns-in_err-end-in-Some-clause-monitor : goal.returns-in_err-end-in-Some-clause-monitor
returns-in_err-end-in-Some-clause-monitor c = λ lane link asked lane_few link_few is are. absurd
    (other_none lane link asked c.in-Some.word.now (codes "fence") c.args.fields.now _ c.in-Some.ensures are
    (search rules) refl)

pub returns-in_err-lane-in-Some-2-clause-monitor : goal.returns-in_err-lane-in-Some-2-clause-monitor
returns-in_err-lane-in-Some-2-clause-monitor c = λ lane link asked lane_few link_few is are. absurd
    (other_none lane link asked c.in-Some-2.word.now (codes "protect") c.args.fields.now _ c.in-Some-2.ensures are
    (search rules) refl)

pub returns-in_err-lane-in-Some-3-clause-monitor : goal.returns-in_err-lane-in-Some-3-clause-monitor
returns-in_err-lane-in-Some-3-clause-monitor c = λ lane link asked lane_few link_few is are. absurd
    (other_none lane link asked c.in-Some-3.word.now (codes "open") c.args.fields.now _ c.in-Some-3.ensures are
    (search rules) refl)

pub returns-in_ok-end-in-Some-clause-monitor : goal.returns-in_ok-end-in-Some-clause-monitor
returns-in_ok-end-in-Some-clause-monitor c = λ lane link asked lane_few link_few is are. absurd
    (other_none lane link asked c.in-Some.word.now (codes "fence") c.args.fields.now _ c.in-Some.ensures are
    (search rules) refl)

pub returns-in_ok-lane-in-Some-2-clause-monitor : goal.returns-in_ok-lane-in-Some-2-clause-monitor
returns-in_ok-lane-in-Some-2-clause-monitor c = λ lane link asked lane_few link_few is are. absurd
    (other_none lane link asked c.in-Some-2.word.now (codes "protect") c.args.fields.now _ c.in-Some-2.ensures are
    (search rules) refl)

pub returns-in_ok-lane-in-Some-3-clause-monitor : goal.returns-in_ok-lane-in-Some-3-clause-monitor
returns-in_ok-lane-in-Some-3-clause-monitor c = λ lane link asked lane_few link_few is are. absurd
    (other_none lane link asked c.in-Some-3.word.now (codes "open") c.args.fields.now _ c.in-Some-3.ensures are
    (search rules) refl)

pub returns-in-Some-4-clause-monitor : goal.returns-in-Some-4-clause-monitor
returns-in-Some-4-clause-monitor c = λ lane link asked lane_few link_few is are. absurd
    (other_none lane link asked c.in-Some-4.word.now (codes "command") c.args.fields.now _ c.in-Some-4.ensures are
    (search rules) refl)

pub returns-in-Some-5-clause-monitor : goal.returns-in-Some-5-clause-monitor
returns-in-Some-5-clause-monitor c = λ lane link asked lane_few link_few is are.
    let behind = at_words_are lane link asked c.in-Some-5.word.now c.args.fields.now _ c.in-Some-5.ensures are
    (search rules) in
    c.at.ensures.only lane link asked lane_few link_few behind.0 is behind.1

pub returns-in-None-clause-monitor : goal.returns-in-None-clause-monitor
returns-in-None-clause-monitor c = λ lane link asked lane_few link_few is are. absurd
    (some_line lane link asked (sym are ∙ c.in-None.ensures.0))
