-- What was seen of a key's numbers (profile).
use Rattle.std.specs.Prelude.{◌≡◌, ℕ, ◌<◌, ◌≤◌, IsSomeAnd}
use Rattle.sdls_base.specs.KeyId.{end_of}
use Rattle.sdls_base.specs.declared.entry.Seen.{Seen}
use Rattle.sdls_base.specs.declared.entry.Seen.TheVariants.{Nothing, Word, Number, Exhausted}
use Rattle.unit_state.specs.declared.state.State.{State}
use Rattle.unit_state.specs.State.{key_row}
use Rattle.ep_core.specs.declared.judging.Need.{Need}
use Rattle.ep_core.specs.declared.judging.Need.TheVariants as needs

-- a word that was seen: the next number of a key, at least 1
abbrev pub IsWord : Seen → Type 0
IsWord Nothing = ⊥
IsWord (Word word) = 1 ≤ word
IsWord (Number number) = ⊥
IsWord (Exhausted number) = ⊥

-- a number that was drawn: below the mark of its key, or past the end of it
abbrev pub IsNumberSeen : State → ℕ → Seen → Type 0
IsNumberSeen state key Nothing = ⊥
IsNumberSeen state key (Word word) = ⊥
IsNumberSeen state key (Number number) = IsSomeAnd (key_row state key) (λ held. number < held.mark)
IsNumberSeen state key (Exhausted number) = end_of key ≤ number

-- what was seen is what was needed
abbrev pub MeetsNeed : State → Need → Seen → Type 0
MeetsNeed state needs.Nothing seen = seen ≡ Nothing
MeetsNeed state (needs.Look key) seen = IsWord seen
MeetsNeed state (needs.Raise key number) seen = IsWord seen
MeetsNeed state (needs.Number key) seen = IsNumberSeen state key seen

-- the word that was seen; 0, below every number, where none was
abbrev pub word_of : Seen → ℕ
word_of Nothing = 0
word_of (Word word) = word
word_of (Number number) = 0
word_of (Exhausted number) = 0

-- the number that was drawn for use; 0 where none was
abbrev pub number_of : Seen → ℕ
number_of Nothing = 0
number_of (Word word) = 0
number_of (Number number) = number
number_of (Exhausted number) = 0
