use Rattle.std.proofs.Common.{◌≡◌, ◌∷◌, decimal, sym, arith}
use Rattle.input_text.specs.Monitor.{asked_words}
use Rattle.input_text.proofs.Texts.{tail_is}
use Rattle.input_text.proofs.line.at.Goals as goal

pub returns-clause-only : goal.returns-clause-only
returns-clause-only c = λ lane link asked lane_few link_few not is are.
    let words = decimal link ∷ asked_words asked in
    let same : c.in_ok-lane.lane ≡ lane = c.in_ok-lane.ensures.only lane words (omega arith) (omega arith) are in
    let rest = tail_is c.args.fields.now (decimal c.in_ok-lane.lane) (decimal lane) _ words c.in_ok-lane.ensures.read.0
    are in
    let found = c.behind_lane.ensures.only link asked link_few (rw (sym same) at not) is rest in
    rw same at found
