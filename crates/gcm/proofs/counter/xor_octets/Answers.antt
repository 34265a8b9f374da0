use Rattle.std.proofs.Common.{refl, arith}
use Rattle.gcm.proofs.CounterFacts.{xors_none, xors_more, xors_all}
use Rattle.gcm.proofs.counter.xor_octets.Goals as goal

pub octets-init : goal.octets-init
octets-init c = record {
  xored = xors_none c.args.start c.args.pad.now c.args.text.now;
  within = omega arith;
}

pub octets-preserved : goal.octets-preserved
octets-preserved c = record {
  xored = xors_more c.args.start c.octets.k _ c.args.pad.now c.args.text.now c.octets.text (omega arith) (omega arith)
      c.octets.invariant.xored refl;
  within = omega arith;
}

pub returns : goal.returns
returns c =
    xors_all c.args.start c.octets.k c.min-end.result c.args.pad.now c.args.text.now c.octets.text
    c.octets.invariant.xored
    c.min-end.ensures (omega arith) c.octets.invariant.within
