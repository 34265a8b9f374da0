-- What the contents of an image of each version have room for (profile).
use Rattle.std.specs.Prelude.{ℕ}
use Rattle.sdls_base.specs.declared.TheConstants.{MOST_KEYS, MOST_ASSOCIATIONS}
use Rattle.sdls_base.specs.declared.version.Version.{Version}
use Rattle.sdls_base.specs.declared.version.Version.TheVariants.{One, Two}
use Rattle.sdls_base.specs.declared.version.TheConstants.{CONTENT_LENGTH_ONE, CONTENT_LENGTH_TWO}

abbrev pub most_keys_of : Version → ℕ
most_keys_of One = 512
most_keys_of Two = MOST_KEYS

abbrev pub most_associations_of : Version → ℕ
most_associations_of One = 64
most_associations_of Two = MOST_ASSOCIATIONS

-- the octets of a content: what stands before the rows, and all rows
abbrev pub content_length_of : Version → ℕ
content_length_of One = CONTENT_LENGTH_ONE
content_length_of Two = CONTENT_LENGTH_TWO
