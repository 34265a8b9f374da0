-- An image whose current bank has no records, and whose other banks are zero (profile).
use Rattle.std.specs.Prelude.{◌≡◌, ℕ, ◌+◌, List, take, drop, slice_index}
use Rattle.byteorder.specs.Endian.{big_bytes}
use Rattle.disk_journal.specs.declared.layout.TheConstants.{OPEN, BANKS_AT, GENERATION_AT, GENERATION_LENGTH}
use Rattle.disk_journal.specs.declared.layout.Bank.{Bank}
use Rattle.disk_journal.specs.declared.layout.Layout.{Layout}
use Rattle.disk_journal.specs.Banks.{bank_length, head_length, bank_at, other, bank_content}
use Rattle.disk_journal.specs.Image.{image_layout, current}
use Rattle.disk_journal.specs.Changes.{IsZero}

-- Of two banks this one is current, with this generation and content and slots that are zero; the other one is zero,
-- and so are the old banks of an image that was migrated.
pub record IsRestIn (layout : Layout) (image : List ℕ) (bank : Bank) (generation : ℕ) (text : List ℕ) : Type 0 where
  pub is_current : current image ≡ bank
  pub gate : slice_index image (bank_at layout bank) ≡ OPEN
  pub has_generation : take GENERATION_LENGTH (drop (bank_at layout bank + GENERATION_AT) image)
      ≡ big_bytes GENERATION_LENGTH generation
  pub has_content : bank_content layout image (bank_at layout bank) ≡ text
  pub zero_slots : IsZero (bank_at layout bank + head_length layout) (bank_at layout bank + bank_length layout) image
  pub old_banks : IsZero BANKS_AT layout.banks image
  pub spare : IsZero (bank_at layout (other bank)) (bank_at layout (other bank) + bank_length layout) image

-- each octet of all banks of an image is stated
abbrev pub IsRest : List ℕ → Bank → ℕ → List ℕ → Type 0
IsRest image bank generation text = IsRestIn (image_layout image) image bank generation text
