use Rattle.std.proofs.Common.{◌<◌, ℕ, ◌∙◌, sym, ap, subst}
use mathlib.Core.Option.{some, some-injective}
use Rattle.std.specs.Mem.Slots.{slots_items}
use Rattle.counter_table.proofs.Ending.{book_there, closes_book}
use Rattle.counter_table.proofs.counters.Counters.close.Goals as goal

pub unreachable-requires : goal.unreachable-requires
unreachable-requires g c =
    let there = book_there g.B.Counted.told c.into_parts-table.result.0.shared.key c.into_seat.result.id
    c.into_seat.result.me.0 c.args.worker.seat.me.0
    (slots_items c.close_with-closed.result.words) (slots_items c.close_with-closed.result.slots)
    c.close_with-closed.ensures.values.2
    (ap (λ s. s.me.0) c.into_seat.ensures) c.requires.all c.requires.free c.requires.filled in
    c.in_default.not-Some there.0 (some-injective _ _ (sym c.take-last.ensures.value ∙ there.1))

pub returns : goal.returns
returns g c =
    let rows = c.into_parts-table.ensures.rows in
    closes_book g.B.Counted.told c.into_parts-table.result.0.shared.key c.into_seat.result.id c.into_seat.result.me.0
    c.args.worker.seat.me.0
    (slots_items c.close_with-closed.result.words) (slots_items c.close_with-closed.result.slots)
    c.close_with-closed.ensures.values.2
    (ap (λ s. s.me.0) c.into_seat.ensures) c.requires.all c.requires.free c.requires.filled
    c.args.self.rows (ap (λ t. t.shared.key) c.into_parts-table.ensures.table ∙ c.args.self.sized.2)
    c.in-Some.book (c.take-last.ensures.value ∙ ap some c.in-Some.is)
    c.nexts_of-nexts.result.items (c.nexts_of-nexts.ensures.rows ∙ rows)
    (λ row b. c.nexts_of-nexts.ensures.nexts row (subst (λ (k : ℕ). row < k) (sym rows) b))
