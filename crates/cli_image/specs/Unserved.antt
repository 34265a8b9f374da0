-- Which words `run_plain` does not serve.
use Rattle.std.specs.Prelude.{⊤}
use Rattle.command_words.specs.declared.reading.Command.{Command}
use Rattle.command_words.specs.declared.reading.Command.TheVariants.{Check, Init, Stat, Run, Audit, Drill, LinkDrill}
use Rattle.command_words.specs.declared.reading.Command.TheVariants.{Usage}

-- those of no command, and those that need threads
abbrev pub IsUnserved : Command → Type 0
IsUnserved (Check key) = ⊥
IsUnserved Init = ⊥
IsUnserved Stat = ⊥
IsUnserved Run = ⊤
IsUnserved Audit = ⊥
IsUnserved (Drill number) = ⊤
IsUnserved (LinkDrill number) = ⊤
IsUnserved Usage = ⊤
