-- The words of the commands (profile).
use Rattle.std.specs.Prelude.{◌≡◌, ⊤, ℕ, ◌==◌, if◌then◌else◌, codes, decimal, map, List, [], ◌∷◌, ◌++◌}
use Rattle.hex.specs.Hex.{encode_lower, IsBytes}
use Rattle.sdls_base.specs.declared.entry.NewSa.{NewSa}
use Rattle.replay_window.specs.WindowField.{back_of, width_of}
use Rattle.ep_codec.specs.Command.{IsInBounds, HasTypes}
use Rattle.ep_codec.specs.declared.procedure.Procedure.{Procedure}
use Rattle.ep_codec.specs.declared.procedure.Procedure.TheVariants as procedures
use Rattle.ep_codec.specs.CommandReading.{command_procedure}
use Rattle.text_words.specs.Names.{procedure_word}
use Rattle.text_words.specs.Words.{direction_word, suite_word}
use Rattle.ep_codec.specs.declared.command.Command.{Command}
use Rattle.ep_codec.specs.declared.command.Command.TheVariants.{Rekeying, Activate, Deactivate, Verify, Destroy}
use Rattle.ep_codec.specs.declared.command.Command.TheVariants.{Inventory, Compose, ReadNumber, Create, Delete}
use Rattle.ep_codec.specs.declared.command.Command.TheVariants.{SetWindow, Rekey, Expire, SetNumber, Start, Stop}
use Rattle.ep_codec.specs.declared.command.Command.TheVariants.{Status}

-- a back window, if there is one
abbrev pub back_words : ℕ → List (List ℕ)
back_words back = if back == 0 then [] else codes "back" ∷ decimal back ∷ []

-- a window field: its width, and its back window if it has one
abbrev pub window_words : ℕ → List (List ℕ)
window_words field = decimal (width_of field) ∷ back_words (back_of field)

-- the values of a command, a word each, in the order of its message: numbers are decimal, octets hexadecimal
unfoldable pub value_words : Command → List (List ℕ)
value_words (Rekeying master vector sealed tag) =
    decimal master ∷ encode_lower vector ∷ encode_lower sealed ∷ encode_lower tag ∷ []
value_words (Activate keys) = map decimal keys
value_words (Deactivate keys) = map decimal keys
value_words (Verify key challenge) = decimal key ∷ encode_lower challenge ∷ []
value_words (Destroy keys) = map decimal keys
value_words (Inventory first last) = decimal first ∷ decimal last ∷ []
value_words (Compose master keys) = decimal master ∷ map decimal keys
value_words (ReadNumber spi) = decimal spi ∷ []
value_words (Create sa) =
    decimal sa.spi ∷ direction_word sa.direction ∷ suite_word sa.suite
    ∷ (window_words sa.window ++ map decimal sa.channels)
value_words (Delete spi) = decimal spi ∷ []
value_words (SetWindow spi window) = decimal spi ∷ window_words window
value_words (Rekey spi key number) = decimal spi ∷ decimal key ∷ decimal number ∷ []
value_words (Expire spi) = decimal spi ∷ []
value_words (SetNumber spi number) = decimal spi ∷ decimal number ∷ []
value_words (Start spi) = decimal spi ∷ []
value_words (Stop spi) = decimal spi ∷ []
value_words (Status spi) = decimal spi ∷ []

-- its name, and its values
abbrev pub command_words : Command → List (List ℕ)
command_words command = procedure_word (command_procedure command) ∷ value_words command

-- what it carries as octets are octets
unfoldable pub HasOctets : Command → Type 0
HasOctets (Rekeying master vector sealed tag) = IsBytes vector × IsBytes sealed × IsBytes tag
HasOctets (Activate keys) = ⊤
HasOctets (Deactivate keys) = ⊤
HasOctets (Verify key challenge) = IsBytes challenge
HasOctets (Destroy keys) = ⊤
HasOctets (Inventory first last) = ⊤
HasOctets (Compose master keys) = ⊤
HasOctets (ReadNumber spi) = ⊤
HasOctets (Create sa) = ⊤
HasOctets (Delete spi) = ⊤
HasOctets (SetWindow spi window) = ⊤
HasOctets (Rekey spi key number) = ⊤
HasOctets (Expire spi) = ⊤
HasOctets (SetNumber spi number) = ⊤
HasOctets (Start spi) = ⊤
HasOctets (Stop spi) = ⊤
HasOctets (Status spi) = ⊤

-- a command whose values have their types and lie in their bounds
pub record IsCommand (command : Command) : Type 0 where
  pub types : HasTypes command
  pub bounds : IsInBounds command
  pub octets : HasOctets command

-- it is a command of this procedure, and has these values
abbrev pub ReadsAs : Procedure → List (List ℕ) → Command → Type 0
ReadsAs procedure words command =
    (words ≡ value_words command) × IsCommand command × (command_procedure command ≡ procedure)

-- P holds of each command of this procedure
abbrev pub ByProcedure : (Command → Type 0) → Procedure → Type 0
ByProcedure P procedures.Rekeying = (master : ℕ) (vector sealed tag : List ℕ) → P (Rekeying master vector sealed tag)
ByProcedure P procedures.Activate = (keys : List ℕ) → P (Activate keys)
ByProcedure P procedures.Deactivate = (keys : List ℕ) → P (Deactivate keys)
ByProcedure P procedures.Verify = (key : ℕ) (challenge : List ℕ) → P (Verify key challenge)
ByProcedure P procedures.Destroy = (keys : List ℕ) → P (Destroy keys)
ByProcedure P procedures.Inventory = (first last : ℕ) → P (Inventory first last)
ByProcedure P procedures.Compose = (master : ℕ) (keys : List ℕ) → P (Compose master keys)
ByProcedure P procedures.ReadNumber = (spi : ℕ) → P (ReadNumber spi)
ByProcedure P procedures.Create = (sa : NewSa) → P (Create sa)
ByProcedure P procedures.Delete = (spi : ℕ) → P (Delete spi)
ByProcedure P procedures.SetWindow = (spi window : ℕ) → P (SetWindow spi window)
ByProcedure P procedures.Rekey = (spi key number : ℕ) → P (Rekey spi key number)
ByProcedure P procedures.Expire = (spi : ℕ) → P (Expire spi)
ByProcedure P procedures.SetNumber = (spi number : ℕ) → P (SetNumber spi number)
ByProcedure P procedures.Start = (spi : ℕ) → P (Start spi)
ByProcedure P procedures.Stop = (spi : ℕ) → P (Stop spi)
ByProcedure P procedures.Status = (spi : ℕ) → P (Status spi)
