-- A reply's procedure, and what stands at the places of its fields.
use Rattle.std.specs.Prelude.{ℕ, ◌-◌, ◌==◌, if◌then◌else◌, List, length, drop, slice_range}
use Rattle.ep_codec.specs.declared.procedure.Procedure.{Procedure}
use Rattle.ep_codec.specs.declared.procedure.Procedure.TheVariants as procedures
use Rattle.ep_codec.specs.declared.reply_pdu.ReplyPdu.{ReplyPdu}
use Rattle.ep_codec.specs.declared.reply_pdu.ReplyPdu.TheVariants.{Rekeying, Activate, Deactivate, Destroy, Create}
use Rattle.ep_codec.specs.declared.reply_pdu.ReplyPdu.TheVariants.{Delete, SetWindow, Rekey, Expire, SetNumber, Start}
use Rattle.ep_codec.specs.declared.reply_pdu.ReplyPdu.TheVariants.{Stop, VerifyGcm, VerifyCmac, Inventory, Compose}
use Rattle.ep_codec.specs.declared.reply_pdu.ReplyPdu.TheVariants.{ReadNumber, Status}
use Rattle.sdls_base.specs.Code.{sa_state_of, direction_of, suite_of}
use Rattle.sdls_base.specs.Places.{octet_at, word_at, double_word_at, number_at}
use Rattle.ep_codec.specs.Field.{optional_key}
use Rattle.ep_codec.specs.FieldList.{rows_in}

-- whose message the reply is
abbrev pub reply_procedure : ReplyPdu → Procedure
reply_procedure Rekeying = procedures.Rekeying
reply_procedure Activate = procedures.Activate
reply_procedure Deactivate = procedures.Deactivate
reply_procedure Destroy = procedures.Destroy
reply_procedure Create = procedures.Create
reply_procedure Delete = procedures.Delete
reply_procedure SetWindow = procedures.SetWindow
reply_procedure Rekey = procedures.Rekey
reply_procedure Expire = procedures.Expire
reply_procedure SetNumber = procedures.SetNumber
reply_procedure Start = procedures.Start
reply_procedure Stop = procedures.Stop
reply_procedure (VerifyGcm key vector sealed tag) = procedures.Verify
reply_procedure (VerifyCmac key number mac) = procedures.Verify
reply_procedure (Inventory total rows) = procedures.Inventory
reply_procedure (Compose master vector sealed tag) = procedures.Compose
reply_procedure (ReadNumber spi number) = procedures.ReadNumber
reply_procedure (Status spi state direction suite key window) = procedures.Status

-- the values at the places of the fields
unfoldable pub reply_at : Procedure → List ℕ → ReplyPdu
reply_at procedures.Rekeying octets = Rekeying
reply_at procedures.Activate octets = Activate
reply_at procedures.Deactivate octets = Deactivate
reply_at procedures.Verify octets = if length octets == 49
    then VerifyGcm (word_at 3 octets) (slice_range octets 5 17) (slice_range octets 17 33) (slice_range octets 33 49)
    else VerifyCmac (word_at 3 octets) (double_word_at 5 octets) (slice_range octets 9 25)
reply_at procedures.Destroy octets = Destroy
reply_at procedures.Inventory octets = Inventory (word_at 3 octets) (rows_in (drop 5 octets))
reply_at procedures.Compose octets = Compose (word_at 6 octets) (slice_range octets 8 20)
    (slice_range octets 20 (length octets - 16)) (slice_range octets (length octets - 16) (length octets))
reply_at procedures.ReadNumber octets = ReadNumber (word_at 3 octets) (number_at 5 octets)
reply_at procedures.Create octets = Create
reply_at procedures.Delete octets = Delete
reply_at procedures.SetWindow octets = SetWindow
reply_at procedures.Rekey octets = Rekey
reply_at procedures.Expire octets = Expire
reply_at procedures.SetNumber octets = SetNumber
reply_at procedures.Start octets = Start
reply_at procedures.Stop octets = Stop
reply_at procedures.Status octets = Status (word_at 3 octets) (sa_state_of (octet_at 5 octets))
    (direction_of (octet_at 6 octets))
    (suite_of (octet_at 7 octets)) (optional_key (word_at 8 octets)) (number_at 10 octets)
