-- A frame that is protected under the turn (profile).
use Rattle.std.specs.Prelude.{◌≡◌, ℕ, ◌<◌, List, length, None, Ok, Err}
use Rattle.sdls_base.specs.KeyId.{end_of}
use Rattle.frame_shield.specs.Binding.{clear_fault}
use Rattle.counter_table.specs.declared.view.View.{View}
use Rattle.counter_table.specs.Turn.{learning}
use Rattle.unit_book.specs.Book.{BookView}
use Rattle.shared_unit.specs.declared.permit.Permit.{Permit}
use Rattle.shared_unit.specs.declared.permit.Protected.{Protected}
use Rattle.shared_unit.specs.declared.permit.Protected.TheVariants as answers
use Rattle.run_promise.specs.Log.{entries_of}
use Rattle.run_promise.specs.Numbers.{marks_of}
use Rattle.shared_unit.specs.Numbers.{Draws, RunsOut, UsesNumber}
use Rattle.shared_unit.specs.Permit.{IsProtectedUnder, LacksLayout}
use Rattle.shared_unit.specs.Funding.{Reserves}

-- what the holder of the turn does with a permit of the held book, by the answer
abbrev pub IsFinished : Permit → List ℕ → List ℕ → Protected → BookView → BookView → View → View → Type 0
IsFinished p clear out (answers.Done d) found given v w =
    (clear_fault p.binding clear ≡ None) × IsProtectedUnder p clear out d
    × UsesNumber p.row d.number 0 v.numbers w.numbers
    × (w.turn ≡ learning (marks_of given.state) v.turn)
    × ((mark : ℕ) × Reserves p.binding.key d.number (Ok mark) found given)
IsFinished p clear out answers.Clear found given v w = ⊥
IsFinished p clear out (answers.Refused fault epoch) found given v w =
    LacksLayout p.binding clear fault × (epoch ≡ p.epoch) × (w.numbers ≡ v.numbers) × (w.turn ≡ v.turn)
    × (given ≡ found)
IsFinished p clear out (answers.Exhausted key n epoch) found given v w =
    (clear_fault p.binding clear ≡ None) × (key ≡ p.binding.key) × (epoch ≡ p.epoch)
    × RunsOut p.row (end_of key) n v.numbers w.numbers
    × (w.turn ≡ v.turn) × (given ≡ found)
IsFinished p clear out (answers.Fault fault position) found given v w =
    (clear_fault p.binding clear ≡ None) × (position ≡ length (entries_of given.log)) × (w.turn ≡ v.turn)
    × ((n : ℕ) × (n < end_of p.binding.key) × Draws p.row (end_of p.binding.key) n v.numbers w.numbers
    × Reserves p.binding.key n (Err fault) found given)
