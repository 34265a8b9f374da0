use Rattle.std.proofs.Common.{◌≡◌, ℕ, suc, ◌+◌, ◌/◌, List, ◌++◌, refl, ap, subst, arith}
use Rattle.counter_table.specs.Worker.{view}
use Rattle.unit_drill.specs.declared.counts.Counts.{Counts}
use Rattle.record_io.specs.declared.answers.Answer.{Answer}
use Rattle.unit_drill.specs.Chunks.{AreChunks, IsChunk}
use Rattle.unit_drill.proofs.running.counts_of.Goals as goal

pub loop-chunk-preserved : goal.loop-chunk-preserved
loop-chunk-preserved g c = record {
  ready = c.in_ok-more.ensures.ready;
  chunks = λ one other began_one began_other.
      let so_far = c.loop-chunk.invariant.chunks one other began_one began_other in
      let step = c.in_ok-more.ensures.chunk one other so_far.0 so_far.1 in
      let next : suc c.loop-chunk.chunk ≡ c.loop-chunk.chunk + 1 = omega arith in
      let chunk = subst (λ (end : ℕ). IsChunk one other c.loop-chunk.chunk end (view c.loop-chunk.pair.sender.worker)
      (view c.serve_chunk.new.self.sender.worker) (view c.loop-chunk.pair.receiver.worker)
      (view c.serve_chunk.new.self.receiver.worker)
      c.in_ok-more.more) c.end_of-end.ensures step.2 in
      let answers : List Answer = so_far.2.0 ++ (chunk.sent ++ (chunk.opened ++ chunk.again)) in (
        step.0,
        step.1,
        (
          answers,
          subst (λ (n : ℕ). AreChunks one other c.args.number (view c.in_ok-pair.pair.sender.worker)
              (view c.in_ok-pair.pair.receiver.worker) n
              (view c.serve_chunk.new.self.sender.worker) (view c.serve_chunk.new.self.receiver.worker) answers
              c.plus-counts.result) next (
                view c.loop-chunk.pair.sender.worker,
                view c.loop-chunk.pair.receiver.worker,
                so_far.2.0,
                c.loop-chunk.counts,
                c.in_ok-more.more,
                so_far.2.1,
                chunk,
                refl,
                c.plus-counts.ensures,
              ),
        ),
      );
  protected = let p : c.plus-counts.result.protected ≡ c.loop-chunk.counts.protected + c.in_ok-more.more.protected =
      ap (λ (n : Counts). n.protected) c.plus-counts.ensures in omega (arith, c.in_ok-more.ensures.few.protected);
  lost = let p : c.plus-counts.result.lost ≡ c.loop-chunk.counts.lost + c.in_ok-more.more.lost =
      ap (λ (n : Counts). n.lost) c.plus-counts.ensures in omega (arith, c.in_ok-more.ensures.few.lost);
  accepted = let p : c.plus-counts.result.accepted ≡ c.loop-chunk.counts.accepted + c.in_ok-more.more.accepted =
      ap (λ (n : Counts). n.accepted) c.plus-counts.ensures in omega (arith, c.in_ok-more.ensures.few.accepted);
  rejected = let p : c.plus-counts.result.rejected ≡ c.loop-chunk.counts.rejected + c.in_ok-more.more.rejected =
      ap (λ (n : Counts). n.rejected) c.plus-counts.ensures in omega (arith, c.in_ok-more.ensures.few.rejected);
}

pub returns : goal.returns
returns g c =
    let opened = c.in_ok-pair.ensures.opened in
    let chunks = c.loop-chunk.invariant.chunks opened.one opened.other opened.sends.began opened.receives.began in
    let last : c.loop-chunk.chunk ≡ (c.args.number + 255) / 256 = omega arith in (
      chunks.2.0,
      record {
        sender = opened.one;
        receiver = opened.other;
        s = view c.in_ok-pair.pair.sender.worker;
        t = view c.loop-chunk.pair.sender.worker;
        v = view c.in_ok-pair.pair.receiver.worker;
        w = view c.loop-chunk.pair.receiver.worker;
        sends = opened.sends;
        receives = opened.receives;
        chunks = subst (λ (n : ℕ). AreChunks opened.one opened.other c.args.number
            (view c.in_ok-pair.pair.sender.worker)
            (view c.in_ok-pair.pair.receiver.worker) n (view c.loop-chunk.pair.sender.worker)
            (view c.loop-chunk.pair.receiver.worker)
            chunks.2.0 c.loop-chunk.counts) last chunks.2.1;
      },
    )
