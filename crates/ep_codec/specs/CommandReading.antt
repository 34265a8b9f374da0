-- A command's procedure, and what stands at the places of its fields.
use Rattle.std.specs.Prelude.{ℕ, ◌-◌, List, length, drop, slice_range}
use Rattle.ep_codec.specs.declared.procedure.Procedure.{Procedure}
use Rattle.ep_codec.specs.declared.procedure.Procedure.TheVariants as procedures
use Rattle.ep_codec.specs.declared.command.Command.{Command}
use Rattle.ep_codec.specs.declared.command.Command.TheVariants.{Rekeying, Activate, Deactivate, Verify, Destroy}
use Rattle.ep_codec.specs.declared.command.Command.TheVariants.{Inventory, Compose, ReadNumber, Create, Delete}
use Rattle.ep_codec.specs.declared.command.Command.TheVariants.{SetWindow, Rekey, Expire, SetNumber, Start, Stop}
use Rattle.ep_codec.specs.declared.command.Command.TheVariants.{Status}
use Rattle.sdls_base.specs.Code.{direction_of, suite_of}
use Rattle.sdls_base.specs.Places.{octet_at, word_at, number_at}
use Rattle.ep_codec.specs.FieldList.{keys_in}

-- whose message the command is
abbrev pub command_procedure : Command → Procedure
command_procedure (Rekeying master vector sealed tag) = procedures.Rekeying
command_procedure (Activate keys) = procedures.Activate
command_procedure (Deactivate keys) = procedures.Deactivate
command_procedure (Verify key challenge) = procedures.Verify
command_procedure (Destroy keys) = procedures.Destroy
command_procedure (Inventory first last) = procedures.Inventory
command_procedure (Compose master keys) = procedures.Compose
command_procedure (ReadNumber spi) = procedures.ReadNumber
command_procedure (Create sa) = procedures.Create
command_procedure (Delete spi) = procedures.Delete
command_procedure (SetWindow spi window) = procedures.SetWindow
command_procedure (Rekey spi key number) = procedures.Rekey
command_procedure (Expire spi) = procedures.Expire
command_procedure (SetNumber spi number) = procedures.SetNumber
command_procedure (Start spi) = procedures.Start
command_procedure (Stop spi) = procedures.Stop
command_procedure (Status spi) = procedures.Status

-- the values at the places of the fields
unfoldable pub command_at : Procedure → List ℕ → Command
command_at procedures.Rekeying octets = Rekeying (word_at 3 octets) (slice_range octets 5 17)
    (slice_range octets 17 (length octets - 16)) (slice_range octets (length octets - 16) (length octets))
command_at procedures.Activate octets = Activate (keys_in (drop 3 octets))
command_at procedures.Deactivate octets = Deactivate (keys_in (drop 3 octets))
command_at procedures.Verify octets = Verify (word_at 3 octets) (slice_range octets 5 21)
command_at procedures.Destroy octets = Destroy (keys_in (drop 3 octets))
command_at procedures.Inventory octets = Inventory (word_at 3 octets) (word_at 5 octets)
command_at procedures.Compose octets = Compose (word_at 3 octets) (keys_in (drop 5 octets))
command_at procedures.ReadNumber octets = ReadNumber (word_at 3 octets)
command_at procedures.Create octets = Create (record {
  spi = word_at 3 octets;
  direction = direction_of (octet_at 5 octets);
  suite = suite_of (octet_at 6 octets);
  window = number_at 7 octets;
  channels = drop 16 octets;
})
command_at procedures.Delete octets = Delete (word_at 3 octets)
command_at procedures.SetWindow octets = SetWindow (word_at 3 octets) (number_at 5 octets)
command_at procedures.Rekey octets = Rekey (word_at 3 octets) (word_at 5 octets) (number_at 7 octets)
command_at procedures.Expire octets = Expire (word_at 3 octets)
command_at procedures.SetNumber octets = SetNumber (word_at 3 octets) (number_at 5 octets)
command_at procedures.Start octets = Start (word_at 3 octets)
command_at procedures.Stop octets = Stop (word_at 3 octets)
command_at procedures.Status octets = Status (word_at 3 octets)
