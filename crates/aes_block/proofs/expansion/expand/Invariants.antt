use Rattle.std.proofs.Common.{◌≡◌, ◌-◌, length, take}
use Rattle.aes_block.specs.Aes.{first_words, schedule}
use Rattle.aes_block.proofs.expansion.expand.Given as goal

-- the words so far are the key's
abbrev pub invariant-firsts : goal.invariant-firsts
invariant-firsts l = record {
  long : length l.words ≡ 60;
  made : take l.i l.words ≡ first_words l.key l.i;
}

-- the words so far are the schedule's
abbrev pub invariant-others : goal.invariant-others
invariant-others l = record {
  long : length l.words ≡ 60;
  made : take l.i l.words ≡ schedule l.key_words l.key (l.i - l.key_words);
}
