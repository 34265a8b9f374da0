-- Records that are read a run at a time (profile).
use Rattle.std.specs.Prelude.{◌≡◌, ℕ, ◌+◌, ◌-◌, ◌*◌, ◌<◌, ◌≤◌, List, take, drop, Some}
use Rattle.std.specs.List.{slice_get}
use Rattle.sdls_base.specs.declared.TheConstants.{BODY_LENGTH}
use Rattle.disk_journal.specs.declared.layout.TheConstants.{SLOT_LENGTH, RUN}
use Rattle.disk_journal.specs.declared.layout.RecordRun.{RecordRun}
use Rattle.disk_journal.specs.Image.{records}

-- the body of a slot of those that were read
abbrev pub body_in : List ℕ → ℕ → List ℕ
body_in slots i = take BODY_LENGTH (drop (SLOT_LENGTH * i + 1) slots)

-- the record with this index is in the run
pub record Has (run : RecordRun) (index : ℕ) : Type 0 where
  pub low : run.first ≤ index
  pub high : index < run.end
  pub room : index - run.first < RUN

-- the bodies in the run are those of the image's records
abbrev pub IsRunOf : List ℕ → RecordRun → Type 0
IsRunOf image run = (i : ℕ) → Has run i → slice_get (records image) i ≡ Some (body_in run.slots (i - run.first))
