use Rattle.std.proofs.Common.{◌≡◌, true, false, nat_eq}
use Rattle.key_book.proofs.Moved.{lowest_holder-takes, lowest_holder-passes}
use Rattle.key_book.proofs.refusals.lowest_holder.Goals as goal
use Rattle.key_book.proofs.refusals.lowest_holder.Goals.{then-eq, else-eq}

pub loop-pair-preserved : goal.loop-pair-preserved
loop-pair-preserved c =
    elim c.if-eq.branch [
      | then-eq w ↦
          let test : nat_eq c.pair-item.result.0 c.args.id ≡ true = cc (c.eq.ensures, w.if-eq.true) in
          let takes = lowest_holder-takes c.args.in_use.now c.loop-pair.pair-index c.args.id c.pair-item.result
          c.loop-pair-test.true c.pair-item.is test in
          cc (takes, w.lowest-is, w.lower.ensures, c.loop-pair.invariant)
      | else-eq w ↦
          let test : nat_eq c.pair-item.result.0 c.args.id ≡ false = cc (c.eq.ensures, w.if-eq.false) in
          let passes = lowest_holder-passes c.args.in_use.now c.loop-pair.pair-index c.args.id c.pair-item.result
          c.loop-pair-test.true c.pair-item.is test in
          cc (passes, w.lowest-is, c.loop-pair.invariant)
    ]
