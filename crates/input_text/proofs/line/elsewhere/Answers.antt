use Rattle.std.proofs.Common.{◌∷◌, codes, decimal, ap, sym, ◌∙◌, rules}
use Rattle.input_text.specs.Line.{IsLine}
use Rattle.input_text.proofs.AskedWords.{elsewhere_words}
use Rattle.input_text.proofs.line.elsewhere.Goals as goal

pub returns-in_ok-asked-in-Some-clause-read : goal.returns-in_ok-asked-in-Some-clause-read
unfolding IsLine
returns-in_ok-asked-in-Some-clause-read c =
    let lane = c.args.lane in
    let link = c.args.link in
    let read = c.in_ok-asked-in-Some.ensures.read in (
      ap (λ words. codes "at" ∷ decimal lane ∷ decimal link ∷ words) (c.in-Some.ensures ∙ read.0)
          ∙ sym (elsewhere_words lane link c.in_ok-asked-in-Some.asked c.requires),
      (search rules, search rules, read.1),
    )
