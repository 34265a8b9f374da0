use Rattle.std.proofs.Common.{IsTrue, ℕ, subst}
use Rattle.unit_image.specs.Shows.{ShowsNone}
use Rattle.unit_image.proofs.OpenFaults.{fault_from, same_image}
use Rattle.unit_image.proofs.opening_image.inspect.Goals as goal

pub returns-in-Ok-clause-fault : goal.returns-in-Ok-clause-fault
returns-in-Ok-clause-fault g c =
    let old = g.O.Site.trace c.args.site.now in
    let mid = g.O.Site.trace c.open.new.site in
    fault_from _ _ _ (λ (offset : ℕ). IsTrue g.O.Site.told → ShowsNone mid.now.image offset)
    (λ (offset : ℕ). IsTrue g.O.Site.told → ShowsNone old.now.image offset) c.inspect_opened.result
    c.in-Ok.ensures.fault.stood
    (λ offset none told. subst (λ image. ShowsNone image offset) (same_image old mid (c.in-Ok.ensures.unchanged told))
    (none told))
    c.inspect_opened.ensures.fault
