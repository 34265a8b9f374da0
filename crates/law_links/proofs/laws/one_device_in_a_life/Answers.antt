use Rattle.law_links.proofs.Devices.{one_device}
use Rattle.law_links.proofs.laws.one_device_in_a_life.Goals as goal

pub returns : goal.returns
returns c = one_device c.shows_one.ensures
