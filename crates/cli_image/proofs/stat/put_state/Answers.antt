use Rattle.std.proofs.Common.{◌∙◌, ap}
use Rattle.cli_image.specs.declared.stat.StatEnd.TheVariants.{Told}
use Rattle.status_text.specs.Text.{status_text}
use Rattle.cli_image.proofs.stat.put_state.Goals as goal

pub returns-in-Ok-clause-told : goal.returns-in-Ok-clause-told
returns-in-Ok-clause-told g c = (
  Told,
  c.deref.result.now,
  c.deref.ensures.value ∙ c.in-Ok.ensures ∙ ap (λ state. status_text state c.used.result c.slots.result) c.state.ensures
      ∙ ap (λ used. status_text c.args.book.now.state used c.slots.result) c.used.ensures
      ∙ ap (λ slots. status_text c.args.book.now.state c.args.book.now.journal.used slots)
      (c.slots.ensures.line ∙ ap (λ plan. plan.slots) c.plan.ensures),
  c.put_through.ensures.put,
)
