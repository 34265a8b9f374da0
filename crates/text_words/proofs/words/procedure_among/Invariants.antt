use Rattle.std.proofs.Common.{◌≡◌, drop}
use Rattle.text_words.specs.Names.{procedure_among}
use Rattle.text_words.proofs.words.procedure_among.Given as goal

-- the one that is named is that of those that are left
abbrev pub invariant-loop-procedure : goal.invariant-loop-procedure
invariant-loop-procedure l = procedure_among (drop l.procedure-index l.listed) l.word ≡ procedure_among l.listed l.word
