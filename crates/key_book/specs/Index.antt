-- An index: the first place of each number of a list, ascending by number.
use Rattle.std.specs.Prelude.{◌≡◌, ℕ, ◌<◌, ◌≤◌, ◌==◌, if◌then◌else◌, List, length, slice_index_or, Option, Some, None}
use Rattle.std.specs.List.{find}
use Rattle.std.specs.Option.{option_map, option_or}
use Rattle.key_book.specs.declared.table.Entry.{Entry}

-- the place that an index has for a number
abbrev pub place_in : List Entry → ℕ → Option ℕ
place_in entries number = option_map (λ entry. entry.place) (find (λ entry. entry.number == number) entries)

-- the place of a number, once a number was noted: the first place stays
abbrev pub place_noted : Option ℕ → ℕ → ℕ → ℕ → Option ℕ
place_noted before number place other = option_or before (if number == other then Some place else None)

-- the number of an entry
abbrev pub number_at : List Entry → ℕ → ℕ
number_at entries i = let entry = slice_index_or entries i (record { number = 0; place = 0 }) in entry.number

-- the numbers rise, so none comes twice
abbrev pub IsAscending : List Entry → Type 0
IsAscending entries = (i j : ℕ) → i < j → j < length entries → number_at entries i < number_at entries j

-- the entry of a number
pub record IsAt (entries : List Entry) (number i : ℕ) : Type 0 where
  pub within : i < length entries
  pub named : number_at entries i ≡ number

-- where a number that has no entry would stand
pub record IsGapFor (entries : List Entry) (number i : ℕ) : Type 0 where
  pub within : i ≤ length entries
  pub before : (k : ℕ) → k < i → number_at entries k < number
  pub behind : (k : ℕ) → i ≤ k → k < length entries → number < number_at entries k
