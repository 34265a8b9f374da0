use Rattle.std.proofs.Common.{◌∙◌, ap, sym, take}
use Rattle.std.proofs.lemmas.List.{take-replicate}
use Rattle.disk_journal.specs.declared.layout.TheConstants.{RUN_LENGTH}
use Rattle.disk_journal.proofs.ZeroLists.{are_zeros}
use Rattle.disk_journal.proofs.storing.zeros_of.Goals as goal

pub returns : goal.returns
returns c =
    ap (take c.args.count) c.requires.zeros ∙ take-replicate c.args.count RUN_LENGTH 0 c.requires.short
    ∙ sym (are_zeros c.args.count)
