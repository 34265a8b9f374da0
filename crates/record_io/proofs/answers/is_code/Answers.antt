use Rattle.std.specs.Prelude.{is_some}
use Rattle.std.proofs.Common.{◌∙◌, ap}
use Rattle.record_io.proofs.KnownCodes.{is_known}
use Rattle.record_io.proofs.answers.is_code.Goals as goal

pub returns : goal.returns
returns c = c.is_some.ensures ∙ ap is_some c.of.ensures ∙ is_known c.args.code
