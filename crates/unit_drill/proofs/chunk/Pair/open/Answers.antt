use Rattle.std.proofs.Common.{ℕ, List, subst}
use Rattle.counter_table.specs.Worker.{view}
use Rattle.unit_drill.specs.Chunks.{UnitIsOpened}
use Rattle.unit_drill.proofs.chunk.Pair.open.Goals as goal

pub returns-clause-opened : goal.returns-clause-opened
returns-clause-opened g c =
    let sends = c.in_ok-open.ensures.1 in
    let receives = c.in_ok-open-2.ensures.1 in
    record {
      one = sends.0;
      other = receives.0;
      sends = subst (λ (plan : List ℕ). UnitIsOpened plan sends.0 (view c.in_ok-open.field-0.worker))
          c.sender_plan.ensures.lines sends.1;
      receives = subst (λ (plan : List ℕ). UnitIsOpened plan receives.0 (view c.in_ok-open-2.field-0.worker))
          c.receiver_plan.ensures.lines receives.1;
    }
