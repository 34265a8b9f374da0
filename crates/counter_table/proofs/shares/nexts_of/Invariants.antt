use Rattle.std.proofs.Common.{◌≡◌, ◌≤◌, ◌<◌, ℕ, length, vec_len, vec_capacity, get_or}
use Rattle.std.specs.Mem.Slots.{slots_items}
use Rattle.counter_table.specs.Rule.{next_at}
use Rattle.counter_table.proofs.shares.nexts_of.Given as goal

abbrev pub invariant-loop-row : goal.invariant-loop-row
invariant-loop-row g l = record {
  rows : length l.room.items ≡ l.row;
  len : vec_len l.room ≡ l.row;
  room : l.rows ≤ vec_capacity l.room;
  nexts : (row : ℕ) → row < l.row → get_or l.room.items row 0 ≡ get_or (slots_items l.closed.words) (next_at row) 0;
}
