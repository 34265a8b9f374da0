use Rattle.aes_block.proofs.ScheduleFacts.{words_in_vector}
use Rattle.aes_block.proofs.expansion.octets_of_words.Goals as goal

pub returns : goal.returns
returns c =
    words_in_vector c.args.a c.args.b c.args.c c.args.d c.ranges.a.fits c.ranges.b.fits c.ranges.c.fits c.ranges.d.fits
