use Rattle.std.proofs.Common.{refl}
use Rattle.tc_frame.specs.TcFrame.{view}
use Rattle.frame_shield.specs.AnyFrame.{tc}
use Rattle.frame_shield.proofs.protecting_frames.tc_body.Goals as goal

pub returns : goal.returns
returns c = record {
  parts = tc (view c.take_apart-parts.result);
  framed = c.take_apart-parts.ensures.found;
  prefix = c.take_apart-parts.ensures.prefix;
  room = refl;
  ocf = refl;
}
