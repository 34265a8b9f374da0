use Rattle.frame_shield.proofs.ProtectedOnce.{protected_one}
use Rattle.frame_shield.proofs.binding.protected_once.Goals as goal

pub returns : goal.returns
returns c = protected_one
