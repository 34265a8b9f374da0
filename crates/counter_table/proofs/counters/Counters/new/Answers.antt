use Rattle.std.proofs.Common.{◌∙◌}
use Rattle.counter_table.proofs.Ending.{opens}
use Rattle.counter_table.proofs.counters.Counters.new.Goals as goal

pub vacant-requires : goal.vacant-requires
vacant-requires g c = rw (c.deref.ensures.value ∙ c.in_ok-words.ensures) (opens c.args.rows g.B.Counted.told)
