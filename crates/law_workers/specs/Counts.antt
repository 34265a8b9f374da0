-- How many lines of a log are of a kind (profile).
use Rattle.std.specs.Prelude.{ℕ, ◌+◌, ◌==◌, Bool, false, if◌then◌else◌, List, [], ◌∷◌, slice_get, Option, Some, None}
use Rattle.sdls_base.specs.declared.entry.Logged.{Logged}
use Rattle.sdls_base.specs.declared.entry.Logged.TheVariants as logged
use Rattle.run_promise.specs.History.{is_none_index}

abbrev pub is_index : ℕ → Option ℕ → Bool
is_index index None = false
is_index index (Some own) = own == index

-- the line is the entry of the record with this number
abbrev pub is_of_record : ℕ → Option Logged → Bool
is_of_record index None = false
is_of_record index (Some (logged.Piece piece)) = false
is_of_record index (Some (logged.Entry entry)) = is_index index entry.index

-- the line is an entry of no record
abbrev pub is_of_none : Option Logged → Bool
is_of_none None = false
is_of_none (Some (logged.Piece piece)) = false
is_of_none (Some (logged.Entry entry)) = is_none_index entry.index

-- how many of the places of the log hold a line that the test takes
abbrev pub count_at : (Option Logged → Bool) → List Logged → List ℕ → ℕ
count_at test log [] = 0
count_at test log (place ∷ places) = (if test (slice_get log place) then 1 else 0) + count_at test log places
