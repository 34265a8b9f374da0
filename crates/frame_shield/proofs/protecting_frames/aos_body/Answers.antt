use Rattle.std.proofs.Common.{refl}
use Rattle.aos_frame.specs.AosFrame.{view}
use Rattle.frame_shield.specs.AnyFrame.{aos}
use Rattle.frame_shield.proofs.protecting_frames.aos_body.Goals as goal

pub returns : goal.returns
returns c = record {
  parts = aos (view c.take_apart-parts.result);
  framed = c.take_apart-parts.ensures.found;
  prefix = c.take_apart-parts.ensures.prefix;
  room = refl;
  ocf = refl;
}
