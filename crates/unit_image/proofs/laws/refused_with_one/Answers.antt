use Rattle.unit_image.proofs.Shown.{shows_some, refused_once}
use Rattle.unit_image.proofs.laws.refused_with_one.Goals as goal

pub returns : goal.returns
returns c = record {
  none = shows_some c.one_change.ensures c.one_state.ensures;
  one = refused_once c.one_change.ensures c.one_state.ensures;
}
