use Rattle.unit_state.proofs.StateLaws.{places_kept}
use Rattle.unit_state.proofs.laws.places_stay.Goals as goal

pub returns : goal.returns
returns c = places_kept
