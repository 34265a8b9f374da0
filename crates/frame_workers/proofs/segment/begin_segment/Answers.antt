use Rattle.frame_workers.proofs.segment.begin_segment.Goals as goal

pub returns-clause-split : goal.returns-clause-split
returns-clause-split g c = record {
  many = c.split_lanes.ensures.many;
  given = c.split_lanes.ensures.given;
  split = c.split_lanes.ensures.split;
  apart = c.split_lanes.ensures.apart;
  each = c.split_lanes.ensures.each;
}
