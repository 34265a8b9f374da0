use Rattle.command_words.proofs.Keys.{long_key}
use Rattle.command_words.proofs.reading.key_of.Goals as goal

pub returns-then-count-gt-LONGEST_KEY : goal.returns-then-count-gt-LONGEST_KEY
returns-then-count-gt-LONGEST_KEY c = long_key c.args.digits.now c.if-count-gt-LONGEST_KEY.true
