use Rattle.link_world.proofs.Arriving.{all_below, all_delivered, each_arrives}
use Rattle.link_world.proofs.link.arrivals_were_released.Goals as goal

pub returns-clause-below : goal.returns-clause-below
returns-clause-below c = all_below

pub returns-clause-delivered : goal.returns-clause-delivered
returns-clause-delivered c = all_delivered

pub returns-clause-all : goal.returns-clause-all
returns-clause-all c = each_arrives
