use Rattle.std.proofs.Common.{◌≡◌, ℕ, IsTrue, List, refl, sym, subst, inl}
use Rattle.sdls_outside.specs.Moments.{Trace}
use Rattle.cli_image.specs.Init.{LeavesNoOther}
use Rattle.cli_image.proofs.Stopping.{before_reading}
use Rattle.cli_image.proofs.init.initialize.Goals as goal

pub returns-in-Err-clause-ends : goal.returns-in-Err-clause-ends
returns-in-Err-clause-ends g c = (c.in-Err.ensures.cause.failed, inl (refl, c.begin.ensures.same))

pub returns-in-Err-clause-moments : goal.returns-in-Err-clause-moments
returns-in-Err-clause-moments g c = λ told empty.
    let old = g.O.Site.trace c.args.site.now in
    let IsLeft = λ (input : List ℕ). IsTrue g.S.Source.told → input ≡ g.S.Source.left c.args.source.now in
    subst (λ (trace : Trace). LeavesNoOther IsLeft old trace) (sym (c.begin.ensures.same told))
    (before_reading IsLeft (g.S.Source.left c.args.source.now) old (λ known. refl) empty)

pub returns-in-Err-clause-untouched : goal.returns-in-Err-clause-untouched
returns-in-Err-clause-untouched g c = λ told there. c.begin.ensures.same told
