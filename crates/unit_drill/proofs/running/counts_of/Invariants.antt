use Rattle.std.proofs.Common.{◌*◌, ◌≤◌, List}
use Rattle.record_io.specs.declared.answers.Answer.{Answer}
use Rattle.unit_drill.specs.Chunks.{AreChunks, GoOn, MayServeBoth}
use Rattle.unit_drill.proofs.running.counts_of.Given as goal

abbrev pub invariant-loop-chunk : goal.invariant-loop-chunk
invariant-loop-chunk g l = record {
  ready : MayServeBoth l.pair;
  chunks : GoOn (λ one other s t v w. (answers : List Answer)
      × AreChunks one other l.number s v l.chunk t w answers l.counts) l.initial.pair l.pair;
  protected : l.counts.protected ≤ 1024 * l.chunk;
  lost : l.counts.lost ≤ 1024 * l.chunk;
  accepted : l.counts.accepted ≤ 1024 * l.chunk;
  rejected : l.counts.rejected ≤ 1024 * l.chunk;
}
