use Rattle.std.proofs.Common.{◌≤◌, sym, subst, refl, List, arith}
use Rattle.std.proofs.lemmas.Result.{IfOk-weaker, on_err_weaker}
use Rattle.record_io.specs.declared.item_cursor.Record.{Record}
use Rattle.record_io.specs.Reading.{SourceSeen, ReadsTo}
use Rattle.record_io.proofs.Wholes.{begun, segment_reads, wants_reads, misses_reads, due_at_start, cause_is, if_ok_of}
use Rattle.record_io.proofs.Wholes.{goes_forth}
use Rattle.record_io.proofs.reader.Reader.next_segment.Goals as goal

pub returns-in-Some-clause-reads : goal.returns-in-Some-clause-reads
returns-in-Some-clause-reads g c = λ start items read reading.
    let old : SourceSeen = record {
      told = g.S.Source.told;
      left = g.S.Source.left c.args.source.now;
      faults = g.S.Source.faults c.args.source.now;
    } in
    let now : SourceSeen = record {
      told = g.S.Source.told;
      left = g.S.Source.left c.begin.new.source;
      faults = g.S.Source.faults c.begin.new.source;
    } in
    subst (λ (records : List Record). ReadsTo start now c.begin.new.self items records c.in-Some.end)
    (sym c.new.ensures.items)
    (misses_reads start old now c.args.self.now c.begin.new.self items read reading c.in-Some.end
    c.in-Some.ensures.refused
    (cause_is (g.S.Source.faults c.args.source.now) (g.S.Source.faults c.begin.new.source) c.in-Some.end
    c.in-Some.ensures.cause)
    (due_at_start g.S.Source.told c.args.self.now.taken (g.S.Source.left c.args.source.now)
    (g.S.Source.left c.begin.new.source) c.in-Some.end c.in-Some.ensures.refused))

pub returns-in-None-clause-reads : goal.returns-in-None-clause-reads
returns-in-None-clause-reads g c =
    let old : SourceSeen = record {
      told = g.S.Source.told;
      left = g.S.Source.left c.args.source.now;
      faults = g.S.Source.faults c.args.source.now;
    } in
    let mid : SourceSeen = record {
      told = g.S.Source.told;
      left = g.S.Source.left c.begin.new.source;
      faults = g.S.Source.faults c.begin.new.source;
    } in
    let now : SourceSeen = record {
      told = g.S.Source.told;
      left = g.S.Source.left c.read_items.new.source;
      faults = g.S.Source.faults c.read_items.new.source;
    } in
    if_ok_of c.read_items.result _ _ _
    (λ read segment cause. λ start items octets reading.
    segment_reads start mid now c.begin.new.self items
    (begun start old mid c.args.self.now c.begin.new.self items octets reading refl c.in-None.ensures.begun
    c.begin.ensures.same_records)
    refl c.read_items.new.self read.0.items read.1 segment
    (cause_is (g.S.Source.faults c.begin.new.source) (g.S.Source.faults c.read_items.new.source) read.1 cause))
    c.read_items.ensures.segment c.read_items.ensures.cause

pub returns-in-None-clause-loses : goal.returns-in-None-clause-loses
returns-in-None-clause-loses g c =
    let old : SourceSeen = record {
      told = g.S.Source.told;
      left = g.S.Source.left c.args.source.now;
      faults = g.S.Source.faults c.args.source.now;
    } in
    let mid : SourceSeen = record {
      told = g.S.Source.told;
      left = g.S.Source.left c.begin.new.source;
      faults = g.S.Source.faults c.begin.new.source;
    } in
    let now : SourceSeen = record {
      told = g.S.Source.told;
      left = g.S.Source.left c.read_items.new.source;
      faults = g.S.Source.faults c.read_items.new.source;
    } in
    on_err_weaker c.read_items.result
    (λ wants. λ start items octets reading.
    wants_reads start mid now c.begin.new.self items
    (begun start old mid c.args.self.now c.begin.new.self items octets reading refl c.in-None.ensures.begun
    c.begin.ensures.same_records)
    refl wants)
    c.read_items.ensures.wants

pub returns-in-None-clause-forth : goal.returns-in-None-clause-forth
returns-in-None-clause-forth g c =
    let low : c.args.self.now.taken ≤ c.begin.new.self.taken = omega (arith, c.in-None.ensures.begun.counted) in
    IfOk-weaker c.read_items.result _ _
    (λ read segment e. let more = goes_forth _ _ _ _ _ read.0.items read.1 segment e in omega arith)
    c.read_items.ensures.segment
