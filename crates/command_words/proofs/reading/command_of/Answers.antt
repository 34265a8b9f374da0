use Rattle.std.proofs.Common.{◌∙◌, sym}
use Rattle.sdls_base.proofs.Words.{two_words}
use Rattle.command_words.proofs.Words.{asks_many, asks_none, asks_one, asks_three, asks_two, one_word, three_words}
use Rattle.command_words.proofs.reading.command_of.Goals as goal

pub returns-in-len1-clause-asked : goal.returns-in-len1-clause-asked
returns-in-len1-clause-asked c =
    c.of_one.ensures.asked
    ∙ asks_one c.args.words.now c.as_str.result.now
    (one_word c.args.words.now c.word-item.result c.as_str.result.now c.in-len1.len_at_least c.in-len1.len_below
    c.word-item.is c.as_str.ensures.value)

pub returns-in-len2-clause-asked : goal.returns-in-len2-clause-asked
returns-in-len2-clause-asked c =
    c.of_two.ensures.asked
    ∙ asks_two c.args.words.now c.as_str-in-len2.result.now c.as_str-in-len2-2.result.now
    (two_words c.args.words.now c.word-item-then-words-lt3.result c.digits-item.result c.as_str-in-len2.result.now
    c.as_str-in-len2-2.result.now c.in-len2.len_at_least c.in-len2.len_below c.word-item-then-words-lt3.is
    c.digits-item.is
    (sym c.as_str-in-len2.ensures.value) c.as_str-in-len2-2.ensures.value)

pub returns-in-len3-clause-asked : goal.returns-in-len3-clause-asked
returns-in-len3-clause-asked c =
    c.of_three.ensures.asked
    ∙ asks_three c.args.words.now c.as_str-in-len3.result.now c.as_str-in-len3-2.result.now
    c.as_str-in-len3-3.result.now
    (three_words c.args.words.now c.word-item-then-words-lt4.result c.second-item.result
    c.digits-item-then-words-lt4.result
    c.as_str-in-len3.result.now c.as_str-in-len3-2.result.now c.as_str-in-len3-3.result.now c.in-len3.len_at_least
    c.in-len3.len_below c.word-item-then-words-lt4.is c.second-item.is c.digits-item-then-words-lt4.is
    c.as_str-in-len3.ensures.value c.as_str-in-len3-2.ensures.value c.as_str-in-len3-3.ensures.value)

pub returns-in-empty-clause-asked : goal.returns-in-empty-clause-asked
returns-in-empty-clause-asked c = asks_none c.args.words.now c.in-empty.len_below

pub returns-in_default-clause-asked : goal.returns-in_default-clause-asked
returns-in_default-clause-asked c = asks_many c.args.words.now c.in_default.len_at_least
