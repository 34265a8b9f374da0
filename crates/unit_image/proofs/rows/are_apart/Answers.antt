use Rattle.std.proofs.Common.{arith}
use Rattle.unit_image.proofs.rows.are_apart.Goals as goal

pub returns : goal.returns
returns c = (
  λ t. record {
    order = omega (arith, c.if-get.false, c.get.ensures.number, c.get-2.ensures.number);
    channels = c.channels_apart.ensures.0 c.if-not-channels_apart.false;
    keys = c.keys_apart.ensures.0 t;
  },
  λ apart. c.keys_apart.ensures.1 apart.keys,
)
