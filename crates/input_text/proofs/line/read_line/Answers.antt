use Rattle.std.proofs.Common.{sym, ◌∙◌}
use Rattle.input_text.proofs.Skipped.{skipped_says_nothing}
use Rattle.input_text.proofs.line.read_line.Goals as goal

pub returns-then-is_skipped-clause-only : goal.returns-then-is_skipped-clause-only
returns-then-is_skipped-clause-only c line says =
    absurd (skipped_says_nothing c.args.text.now line (sym c.is_skipped.ensures ∙ c.if-is_skipped.true) says)
