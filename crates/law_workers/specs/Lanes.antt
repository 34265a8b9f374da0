-- The lanes of a segment (profile).
use Rattle.std.specs.Prelude.{⊤, ℕ, ◌-◌, ◌==◌, Bool, List, [], ◌∷◌, ◌++◌}
use Rattle.std.specs.List.{filter}
use Rattle.counter_table.specs.declared.view.View.{View}
use Rattle.record_io.specs.declared.item_cursor.Record.{Record}
use Rattle.record_io.specs.declared.answers.Answer.{Answer}
use Rattle.run_promise.specs.Call.{Begin}
use Rattle.law_workers.specs.Views.{starting, meeting, Meets}
use Rattle.run_promise.specs.Deed.{Deed}
use Rattle.law_workers.specs.Deeds.{deeds_of}
use Rattle.law_workers.specs.Order.{Layout, Handled}

abbrev pub is_of_lane : ℕ → Record → Bool
is_of_lane lane task = task.lane == lane

-- the records of a lane
abbrev pub of_lane : ℕ → List Record → List Record
of_lane lane tasks = filter (is_of_lane lane) tasks

-- a worker that gave so many shares away
abbrev pub giving_shares : ℕ → View → View
giving_shares count v = record { numbers = record v.numbers { shares = v.numbers.shares - count }; turn = v.turn }

-- What came back of a lane: its number, what its worker knows, and the answers to its records.
pub record Part : Type 0 where
  pub number : ℕ
  pub knows : View
  pub answers : List Answer

-- the lane's worker was split from one that knew the base, and handled the lane's records
abbrev pub DidPart : Layout → Begin → View → ℕ → List Record → Part → Type 0
DidPart layout begin base segment tasks part = Handled layout begin (starting base) part.knows
    (of_lane part.number tasks)
    (deeds_of segment (of_lane part.number tasks) part.answers)

-- what a worker knows that took in the lanes' workers one by one
abbrev pub meeting_all : View → List Part → View
meeting_all now [] = now
meeting_all now (part ∷ parts) = meeting_all (meeting now part.knows) parts

-- what the joins tell of it
abbrev pub MeetAll : ℕ → View → List Part → Type 0
MeetAll rows now [] = ⊤
MeetAll rows now (part ∷ parts) = Meets rows now part.knows × MeetAll rows (meeting now part.knows) parts

-- the records that the lanes answered, and all that they had
abbrev pub parts_deeds : ℕ → List Record → List Part → List Deed
parts_deeds segment tasks [] = []
parts_deeds segment tasks (part ∷ parts) = deeds_of segment (of_lane part.number tasks) part.answers
    ++ parts_deeds segment tasks parts

abbrev pub parts_tasks : List Record → List Part → List Record
parts_tasks tasks [] = []
parts_tasks tasks (part ∷ parts) = of_lane part.number tasks ++ parts_tasks tasks parts
