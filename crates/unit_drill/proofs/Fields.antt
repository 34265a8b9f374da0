-- An array that has each octet of a data field is that field: for `data_field`.
use Rattle.std.proofs.Common.{◌≡◌, ℕ, ◌<◌, List, length, get_or}
use Rattle.std.proofs.lemmas.List.FromFn.{fill_by_all}
use Rattle.unit_drill.specs.Frames.{field_octet, field_octets}

pub are_octets : (number : ℕ) (xs : List ℕ) (n : ℕ) → length xs ≡ n
    → ((k : ℕ) → k < n → get_or xs k 0 ≡ field_octet number k)
    → xs ≡ field_octets number n
unfolding field_octets
are_octets number xs n sized each = fill_by_all (field_octet number) xs n 0 sized each
