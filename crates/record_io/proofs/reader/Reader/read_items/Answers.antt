use Rattle.std.specs.List.{All}
use Rattle.std.proofs.lemmas.List.Elements.{All-append, All-cons, All-nil}
use Rattle.record_io.specs.declared.reader.RecordKind.TheVariants.{Monitor}
use Rattle.std.proofs.Common.{◌≡◌, ◌≢◌, ◌+◌, ◌≤◌, List, [], ◌∷◌, ◌++◌, length, refl, ap, sym, subst, ◌∙◌, arith}
use Rattle.std.proofs.Common.{length-append}
use Rattle.record_io.specs.declared.item_cursor.Record.{Record}
use Rattle.record_io.specs.Input.{items_octets}
use Rattle.record_io.specs.Steps.{AreNumbered, Took, items_of}
use Rattle.record_io.proofs.Takings.{took_none, AreNumbered-push, took_record, length-record, wants_after, ends_segment}
use Rattle.record_io.proofs.Takings.{task_segment, on_err}
use Rattle.record_io.proofs.reader.Reader.read_items.Goals as goal
use Rattle.record_io.specs.declared.reader.TheConstants.{SEGMENT_RECORDS}

pub items-init : goal.items-init
items-init g c =
    let left = g.S.Source.left c.args.source.now in
    let P : List Record → Type 0 = λ (records : List Record). (length records ≤ SEGMENT_RECORDS)
    × AreNumbered c.args.self.now.records records
    × (c.args.self.now.records ≡ c.args.self.now.records + length records)
    × Took g.S.Source.told (items_of records) [] c.args.self.now.taken left left
    × (c.args.self.now.taken ≡ c.args.self.now.taken + length (items_octets (items_of records)))
    × (g.S.Source.faults c.args.source.now ≡ g.S.Source.faults c.args.source.now)
    × All (λ (r : Record). r.kind ≢ Monitor) records in
    subst P (sym c.new-records.ensures.items) (
      omega arith,
      tt,
      omega arith,
      took_none g.S.Source.told c.args.self.now.taken left c.requires,
      omega arith,
      refl,
      All-nil (λ (r : Record). r.kind ≢ Monitor),
    )

pub returns-in_err-kind-clause-wants : goal.returns-in_err-kind-clause-wants
returns-in_err-kind-clause-wants g c =
    on_err c.from_residual.result _
    (wants_after g.S.Source.told (items_of c.items.records.items) _ _ _ _ _ c.items.invariant.3 c.items.invariant.4
    c.in_err-kind.ensures.wants)

pub items-preserved : goal.items-preserved
items-preserved g c =
    let r : Record = record {
      index = c.number.result;
      kind = c.in-Next.kind;
      lane = c.in-Next.lane;
      link = c.in-Next.link;
      octets = c.in-Next.octets;
    } in
    let read = rw c.in-Next.is at c.in_ok-kind.ensures.read in
    let counted = rw c.in-Next.is at c.in_ok-kind.ensures.counted in
    let cause = rw c.in-Next.is at c.in_ok-kind.ensures.cause in
    let pushed : c.push.new.self.items ≡ c.items.records.items ++ r ∷ [] = c.in_ok-push-in-Next.ensures.items in
    let longer : length c.push.new.self.items ≡ length c.items.records.items + 1 =
    ap length pushed ∙ length-append c.items.records.items (r ∷ []) in
    let index : r.index ≡ c.args.self.now.records + length c.items.records.items =
    omega (arith, counted.0, c.number.ensures.number, c.items.invariant.2) in
    let P : List Record → Type 0 = AreNumbered c.args.self.now.records in (
      omega (arith, longer, c.items.records.ok.0),
      subst P (sym pushed) (AreNumbered-push c.args.self.now.records c.items.records.items r c.items.invariant.1 index),
      omega (arith, longer, counted.0, ap (λ p. p.records) c.number.ensures.counted, c.items.invariant.2),
      took_record g.S.Source.told c.items.records.items c.push.new.self.items r _ _ _ _ _ pushed c.items.invariant.3
          c.items.invariant.4 read.0,
      omega (
        arith,
        length-record c.items.records.items c.push.new.self.items r pushed,
        read.1,
        c.items.invariant.4,
        ap (λ p. p.taken) c.number.ensures.counted,
      ),
      cause ∙ c.items.invariant.5,
      subst (All (λ (t : Record). t.kind ≢ Monitor)) (sym pushed)
          (All-append (λ (t : Record). t.kind ≢ Monitor) c.items.records.items (r ∷ []) c.items.invariant.6
          (All-cons (λ (t : Record). t.kind ≢ Monitor) r [] (c.is_monitor.ensures.plain c.if-is_monitor.false)
          (All-nil (λ (t : Record). t.kind ≢ Monitor)))),
    )

pub returns-in_err-push-in-Next-clause-wants : goal.returns-in_err-push-in-Next-clause-wants
returns-in_err-push-in-Next-clause-wants g c =
    let read = rw c.in-Next.is at c.in_ok-kind.ensures.read in
    on_err c.from_residual-in_err-push-in-Next.result _
    (wants_after g.S.Source.told (items_of c.items.records.items) _ _ _ _ _ c.items.invariant.3 c.items.invariant.4
    (_, _, read.0))

pub returns-in-Ends-clause-segment : goal.returns-in-Ends-clause-segment
returns-in-Ends-clause-segment g c =
    let read = rw c.in-Ends.is at c.in_ok-kind.ensures.read in
    let counted = rw c.in-Ends.is at c.in_ok-kind.ensures.counted in
    ends_segment g.S.Source.told c.args.self.now c.items.self c.read_item.new.self _ _ _ c.items.records.items
    c.in-Ends.end
    c.items.invariant.6 c.items.invariant.1 c.items.invariant.2 c.items.invariant.3 c.items.invariant.4
    (omega (arith, c.items.records.ok.0)) read counted

pub returns-then-is_monitor-clause-segment : goal.returns-then-is_monitor-clause-segment
returns-then-is_monitor-clause-segment g c =
    let r : Record = record {
      index = c.number.result;
      kind = c.in-Next.kind;
      lane = c.in-Next.lane;
      link = c.in-Next.link;
      octets = c.in-Next.octets;
    } in
    let read = rw c.in-Next.is at c.in_ok-kind.ensures.read in
    let counted = rw c.in-Next.is at c.in_ok-kind.ensures.counted in
    let records : c.number.new.self.records ≡ c.items.self.records + 1 =
    omega (arith, counted.0, ap (λ p. p.records) c.number.ensures.counted) in
    let taken : c.number.new.self.taken ≡ c.read_item.new.self.taken = ap (λ p. p.taken) c.number.ensures.counted in
    task_segment g.S.Source.told c.args.self.now c.items.self c.number.new.self _ _ _ c.items.records.items r
    c.items.invariant.6 c.items.invariant.1 c.items.invariant.2 c.items.invariant.3 c.items.invariant.4
    (omega (arith, c.items.records.ok.0))
    (c.is_monitor.ensures.monitor c.if-is_monitor.true) (omega (arith, counted.0, c.number.ensures.number)) records
    read.0 (omega (arith, read.1, taken))
