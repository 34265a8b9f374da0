use Rattle.law_links.proofs.Apart.{triples_apart}
use Rattle.law_links.proofs.laws.no_triple_twice.Goals as goal

pub returns : goal.returns
returns c = triples_apart c.one_device_in_a_life.ensures c.used_once_in_a_life.ensures
