use Rattle.std.proofs.Common.{◌≡◌, ℕ, ◌<◌, ◌≤◌, ◌+◌, ◌++◌, List, length, take, drop, vec_capacity}
use Rattle.std.specs.List.{All, Contains}
use Rattle.record_io.specs.declared.item_cursor.Record.{Record}
use Rattle.record_io.specs.declared.reader.TheConstants.{LANES}
use Rattle.run_promise.specs.Deed.{Deed}
use Rattle.law_workers.specs.Deeds.{deeds_of}
use Rattle.law_workers.specs.Lanes.{of_lane}
use Rattle.frame_workers.specs.Lanes.{AreAmong, left_at}
use Rattle.frame_workers.proofs.answering.place_answers.Given as goal

abbrev pub invariant-loop-task : goal.invariant-loop-task
invariant-loop-task l = record {
  many : length l.parts ≡ LANES;
  lanes : All (λ (task : Record). task.lane < LANES) l.records;
  room : length l.records ≤ vec_capacity l.answers;
  count : length l.answers.items ≡ l.task-index;
  left : (deeds : List Deed) (segment : ℕ)
      → ((number : ℕ) → AreAmong deeds segment number l.records (left_at number l.initial.parts))
      → ((number : ℕ) → AreAmong deeds segment number (drop l.task-index l.records) (left_at number l.parts))
      × All (Contains deeds) (deeds_of segment (take l.task-index l.records) l.answers.items);
  in_turn : (lane : ℕ) → All (λ (task : Record). task.lane ≡ lane) l.records
      → l.answers.items ++ left_at lane l.parts ≡ left_at lane l.initial.parts;
  given : (number : ℕ) → length (left_at number l.parts) + length (of_lane number (take l.task-index l.records))
      ≡ length (left_at number l.initial.parts);
}
