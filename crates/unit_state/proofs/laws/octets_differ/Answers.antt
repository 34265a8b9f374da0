use Rattle.unit_state.proofs.StateLaws.{own_bytes}
use Rattle.unit_state.proofs.laws.octets_differ.Goals as goal

pub returns : goal.returns
returns c = λ state ok. own_bytes state.keys ok.keys
