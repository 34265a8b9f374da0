use Rattle.std.proofs.Common.{All}
use Rattle.plan_text.specs.Wanted.{IsLineOf}
use Rattle.plan_text.proofs.books.refused_lines.Given as goal

-- so far only lines of the plan
abbrev pub invariant-loop-found : goal.invariant-loop-found
invariant-loop-found l = All (λ fault. IsLineOf l.plan fault.0) l.faults.items
