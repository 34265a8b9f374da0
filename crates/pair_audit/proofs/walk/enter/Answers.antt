use Rattle.std.proofs.Common.{◌∙◌, ap, Bool, cond, Some}
use Rattle.pair_audit.specs.Places.{place_in}
use Rattle.pair_audit.proofs.Keys.{pair_at}
use Rattle.pair_audit.proofs.walk.enter.Goals as goal

pub returns-in_ok-insert-in-None-clause-entered : goal.returns-in_ok-insert-in-None-clause-entered
returns-in_ok-insert-in-None-clause-entered c = λ k n. c.in_ok-insert-in-None.ensures.updates.0 (k, n)
    ∙ ap (λ (b : Bool). cond b (Some c.args.place) (place_in c.args.places.now k n))
    (pair_at c.args.key c.args.number k n)
