use Rattle.std.proofs.Common.{◌≡◌}
use Rattle.std.specs.List.{list_any}
use Rattle.unit_plan.specs.Lines.{lines_of, words_of}
use Rattle.plan_text.specs.Moved.{puts_on}
use Rattle.plan_text.proofs.check.lies_bare.Given as goal

-- none of the lines so far does
abbrev pub invariant-loop-line : goal.invariant-loop-line
invariant-loop-line l =
    list_any (λ line. puts_on l.plan.links l.channel (words_of line)) (lines_of l.text)
    ≡ list_any (λ line. puts_on l.plan.links l.channel (words_of line)) l.line-iterator
