-- The header of an image (profile): the numbers in it, and its form.
use Rattle.std.specs.Prelude.{ℕ, ◌==◌, Bool, if◌then◌else◌, List, take, drop, slice_index}
use Rattle.std.specs.List.{slice_range}
use Rattle.std.specs.Str.{bytes_eq}
use Rattle.byteorder.specs.Endian.{big_number}
use Rattle.disk_journal.specs.declared.layout.HeaderForm.{HeaderForm}
use Rattle.disk_journal.specs.declared.layout.HeaderForm.TheVariants.{Old, Migrated, New}
use Rattle.disk_journal.specs.declared.layout.TheConstants.{HEADER_LENGTH, MAGIC_AT, PLAN_LENGTH_AT, SLOT_COUNT_AT}
use Rattle.disk_journal.specs.declared.layout.TheConstants.{FIELD_LENGTH, OPEN, MAGIC_TWO, MIGRATED_AT}

abbrev pub header_of : List ℕ → List ℕ
header_of image = take HEADER_LENGTH image

abbrev pub plan_length_in : List ℕ → ℕ
plan_length_in header = big_number FIELD_LENGTH (drop PLAN_LENGTH_AT header)

abbrev pub slot_count_in : List ℕ → ℕ
slot_count_in header = big_number FIELD_LENGTH (drop SLOT_COUNT_AT header)

-- whether the header has this magic
abbrev pub has_magic : List ℕ → List ℕ → Bool
has_magic magic header = bytes_eq (slice_range header MAGIC_AT PLAN_LENGTH_AT) magic

-- the form of a header: that of version 2 by its magic, and of version 1 by whether it says that it was migrated
unfoldable pub form_in : List ℕ → HeaderForm
form_in header =
    if has_magic MAGIC_TWO header then New else (if slice_index header MIGRATED_AT == OPEN then Migrated else Old)
