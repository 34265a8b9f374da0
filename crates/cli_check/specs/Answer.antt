-- The lines that `check` writes, and how it ends (profile).
use Rattle.std.specs.Prelude.{◌≡◌, ℕ, ◌⊎◌, Bool, IsTrue, List, ◌++◌, codes, Result, IfOk}
use Rattle.hex.specs.Hex.{encode_lower}
use Rattle.sdls_outside.specs.Moments.{Trace}
use Rattle.cli_check.specs.declared.check.Refusal.{Refusal}
use Rattle.cli_check.specs.declared.check.Refusal.TheVariants.{Short, Long, Version, Spare, Spi, Mac}
use Rattle.record_io.specs.declared.status.TheConstants.{DONE, REFUSED, SOURCE_FAULT}
use Rattle.record_io.specs.Outcome.{Ends, line}
use Rattle.command_words.specs.Lines.{source_fault_text}
use Rattle.cli_check.specs.Check.{PassesChecks, IsFirstFault, data_field}
use Rattle.sdls_outside.specs.Output.{Delivers}

-- the word for a refusal
abbrev pub word : Refusal → List ℕ
word Short = codes "short"
word Long = codes "long"
word Version = codes "version"
word Spare = codes "spare"
word Spi = codes "spi"
word Mac = codes "mac"

abbrev pub refused_text : Refusal → List ℕ
refused_text fault = line (codes "refused " ++ word fault)

-- the data field, each octet as two hexadecimal digits, with lower-case letters
abbrev pub accepted_text : List ℕ → List ℕ
accepted_text field = line (codes "ok " ++ encode_lower field)

-- what `check KEY` writes for an input, and the status that goes with it
abbrev pub CheckOutput : List ℕ → List ℕ → List ℕ → ℕ → Type 0
CheckOutput key input text status =
    (PassesChecks key input × (text ≡ accepted_text (data_field input)) × (status ≡ DONE))
    ⊎ ((fault : Refusal) × IsFirstFault key input fault × (text ≡ refused_text fault) × (status ≡ REFUSED))

-- the text is delivered, and the status that goes with it is answered
pub record DeliversText {E : Type 0} (told : Bool) (text : List ℕ) (due : ℕ) (result : Result ℕ E) (old new : Trace) :
    Type 0 where
  pub status : IfOk result (λ status. status ≡ due)
  pub delivered : IsTrue told → Delivers text result old new

-- The text and the status that are due: those for the input, or where the source failed its own.
abbrev pub CheckDue : List ℕ → (List ℕ → Type 0) → Type 0 → List ℕ → ℕ → Type 0
CheckDue key IsInput source_rose text status =
    ((input : List ℕ) × IsInput input × CheckOutput key input text status)
    ⊎ (source_rose × (text ≡ source_fault_text) × (status ≡ SOURCE_FAULT))

-- How `check KEY` ends: with the text that is due for its input.
abbrev pub EndsCheck : List ℕ → (List ℕ → Type 0) → Type 0 → Bool → Trace → Trace → Type 0 → ℕ → Type 0
EndsCheck key IsInput source_rose told old new site_rose status = (text : List ℕ) × (due : ℕ)
    × CheckDue key IsInput source_rose text due × Ends told old new site_rose text due status
