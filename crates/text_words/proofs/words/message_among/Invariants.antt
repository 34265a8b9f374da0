use Rattle.std.proofs.Common.{◌≡◌, drop}
use Rattle.text_words.specs.Names.{message_among}
use Rattle.text_words.proofs.words.message_among.Given as goal

-- the one that is named is that of those that are left
abbrev pub invariant-loop-name : goal.invariant-loop-name
invariant-loop-name l = message_among (drop l.name-index l.listed) l.word ≡ message_among l.listed l.word
