use Rattle.std.proofs.Common.{All}
use Rattle.plan_text.specs.Wanted.{IsLineOf}
use Rattle.plan_text.proofs.books.take_keys.Given as goal

-- so far only lines of the plan
abbrev pub invariant-loop-key : goal.invariant-loop-key
invariant-loop-key l = All (λ fault. IsLineOf l.plan fault.0) l.initial.faults.items
    → All (λ fault. IsLineOf l.plan fault.0) l.faults.items
