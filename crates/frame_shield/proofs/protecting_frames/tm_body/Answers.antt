use Rattle.std.proofs.Common.{refl}
use Rattle.tm_frame.specs.TmFrame.{view}
use Rattle.frame_shield.specs.AnyFrame.{tm}
use Rattle.frame_shield.proofs.protecting_frames.tm_body.Goals as goal

pub returns : goal.returns
returns c = record {
  parts = tm (view c.take_apart-parts.result);
  framed = c.take_apart-parts.ensures.found;
  prefix = c.take_apart-parts.ensures.prefix;
  room = refl;
  ocf = refl;
}
