use Rattle.std.proofs.Common.{sym, subst, ◌∙◌}
use Rattle.std.proofs.lemmas.Option.{same_Some, slice_get_within}
use Rattle.kept_threads.proofs.jobs.Asking.done_by.Goals as goal

pub invariant_of-result : goal.invariant_of-result
invariant_of-result g c = (
  c.self.invariant.0,
  slice_get_within c.self.inside.seen.log c.self.inside.place c.self.inside.job c.self.invariant.1,
  λ job same. subst (λ job. g.W.Work.does job c.work.result)
      (same_Some c.self.inside.job job (sym c.self.invariant.1 ∙ same)) c.work.ensures,
)
