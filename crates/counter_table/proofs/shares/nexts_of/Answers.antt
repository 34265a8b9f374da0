use Rattle.std.proofs.Common.{ℕ, arith, ap, length-append, get_or, ◌∷◌, [], ◌∙◌, ◌≡◌}
use Rattle.std.specs.Mem.Slots.{slots_items}
use Rattle.counter_table.specs.Rule.{next_at}
use Rattle.counter_table.proofs.Ending.{next_value, value_there}
use Rattle.counter_table.proofs.shares.nexts_of.Goals as goal

pub loop-row-preserved : goal.loop-row-preserved
loop-row-preserved g c =
    let inv = c.loop-row.invariant in
    let pushed = c.push_reserved.ensures in
    let words = slots_items c.args.closed.now.words in
    let found : c.word.result ≡ get_or words (next_at c.loop-row.row) 0 =
    value_there words c.next_word.result c.word.result c.word.ensures ∙ ap (λ k. get_or words k 0)
    c.next_word.ensures in
    record {
      rows = rw pushed.items (let s = inv.rows in
          omega (arith, length-append {A = ℕ} c.loop-row.room.items (c.word.result ∷ [])));
      len = let s = inv.len in let p = pushed.len in omega arith;
      room = let s = inv.room in let p = pushed.capacity in omega arith;
      nexts = rw pushed.items (next_value c.loop-row.room.items c.word.result c.loop-row.row
          (λ (row : ℕ). get_or words (next_at row) 0) inv.rows inv.nexts found);
    }
