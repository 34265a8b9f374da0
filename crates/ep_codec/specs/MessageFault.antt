-- The first fault of octets that should be a procedure message (profile). Its tests in their order: that there are
-- three octets; the tag; the length of the data; too few octets; too many; and the fields, from the first to the last.
use Rattle.std.specs.Prelude.{ℕ, ◌+◌, ◌/◌, ◌%◌, ◌==◌, ◌&&◌, nat_lt, not, is_none, Bool, false, if◌then◌else◌, List, []}
use Rattle.std.specs.Prelude.{◌∷◌, ◌++◌, length, drop, slice_index, Option, Some, None}
use Rattle.ep_codec.specs.declared.procedure.PduType.{PduType}
use Rattle.ep_codec.specs.declared.procedure.PduType.TheVariants.{Command, Reply}
use Rattle.ep_codec.specs.declared.procedure.Procedure.{Procedure}
use Rattle.ep_codec.specs.declared.procedure.Procedure.TheVariants.{Rekeying, Activate, Deactivate, Verify, Destroy}
use Rattle.ep_codec.specs.declared.procedure.Procedure.TheVariants.{Inventory, Compose, ReadNumber, Create, Delete}
use Rattle.ep_codec.specs.declared.procedure.Procedure.TheVariants.{SetWindow, Rekey, Expire, SetNumber, Start, Stop}
use Rattle.ep_codec.specs.declared.procedure.Procedure.TheVariants.{Status}
use Rattle.sdls_base.specs.FirstFailing.{Check, first_failing}
use Rattle.sdls_base.specs.Places.{word_at}
use Rattle.ep_codec.specs.Field.{key_check, spi_check, window_check, code_check, sealing_key_check}
use Rattle.ep_codec.specs.Field.{mac_key_check, last_check, count_check, inner_tag_check, inner_length_check}
use Rattle.ep_codec.specs.FieldList.{key_checks, row_checks, channel_checks}
use Rattle.ep_codec.specs.Procedure.{procedure_tagged, has_length}

-- the procedure of a message of this type, by its tag
unfoldable pub procedure_in : PduType → List ℕ → Option Procedure
procedure_in pdu_type octets = procedure_tagged pdu_type (slice_index octets 0)

-- whether the length of the data, in bits, is one that this procedure can have
abbrev pub can_have : PduType → Option Procedure → ℕ → Bool
can_have pdu_type None bits = false
can_have pdu_type (Some procedure) bits = bits % 8 == 0 && has_length pdu_type procedure (bits / 8)

-- the end of the message, by its length
abbrev pub end_in : List ℕ → ℕ
end_in octets = 3 + word_at 1 octets / 8

-- the tests before the fields
unfoldable pub header_checks : PduType → List ℕ → List (Check ℕ)
header_checks pdu_type octets =
    (nat_lt (length octets) 3, length octets)
    ∷ (is_none (procedure_in pdu_type octets), 0)
    ∷ (not (can_have pdu_type (procedure_in pdu_type octets) (word_at 1 octets)), 1)
    ∷ (nat_lt (length octets) (end_in octets), length octets)
    ∷ (nat_lt (end_in octets) (length octets), end_in octets) ∷ []

-- the tests of a command's fields
unfoldable pub command_checks : Procedure → List ℕ → List (Check ℕ)
command_checks Rekeying octets = key_check 3 octets ∷ []
command_checks Activate octets = key_checks 3 (drop 3 octets)
command_checks Deactivate octets = key_checks 3 (drop 3 octets)
command_checks Verify octets = key_check 3 octets ∷ []
command_checks Destroy octets = key_checks 3 (drop 3 octets)
command_checks Inventory octets = last_check 5 octets ∷ []
command_checks Compose octets = key_check 3 octets ∷ key_checks 5 (drop 5 octets)
command_checks ReadNumber octets = spi_check 3 octets ∷ []
command_checks Create octets =
    spi_check 3 octets ∷ code_check 2 5 octets ∷ code_check 2 6 octets ∷ window_check 7 octets
    ∷ count_check 15 octets ∷ channel_checks 16 0 (drop 16 octets)
command_checks Delete octets = spi_check 3 octets ∷ []
command_checks SetWindow octets = spi_check 3 octets ∷ window_check 5 octets ∷ []
command_checks Rekey octets = spi_check 3 octets ∷ key_check 5 octets ∷ []
command_checks Expire octets = spi_check 3 octets ∷ []
command_checks SetNumber octets = spi_check 3 octets ∷ []
command_checks Start octets = spi_check 3 octets ∷ []
command_checks Stop octets = spi_check 3 octets ∷ []
command_checks Status octets = spi_check 3 octets ∷ []

-- the tests of a reply's fields
unfoldable pub reply_checks : Procedure → List ℕ → List (Check ℕ)
reply_checks Rekeying octets = []
reply_checks Activate octets = []
reply_checks Deactivate octets = []
reply_checks Verify octets = (if length octets == 49 then sealing_key_check 3 octets else mac_key_check 3 octets) ∷ []
reply_checks Destroy octets = []
reply_checks Inventory octets = row_checks 5 (drop 5 octets)
reply_checks Compose octets = inner_tag_check 3 octets ∷ inner_length_check 4 octets ∷ key_check 6 octets ∷ []
reply_checks ReadNumber octets = spi_check 3 octets ∷ []
reply_checks Create octets = []
reply_checks Delete octets = []
reply_checks SetWindow octets = []
reply_checks Rekey octets = []
reply_checks Expire octets = []
reply_checks SetNumber octets = []
reply_checks Start octets = []
reply_checks Stop octets = []
reply_checks Status octets =
    spi_check 3 octets ∷ code_check 3 5 octets ∷ code_check 2 6 octets ∷ code_check 2 7 octets ∷ window_check 10 octets
    ∷ []

-- the tests of the fields, by the type of the message
abbrev pub field_checks : PduType → Option Procedure → List ℕ → List (Check ℕ)
field_checks pdu_type None octets = []
field_checks Command (Some procedure) octets = command_checks procedure octets
field_checks Reply (Some procedure) octets = reply_checks procedure octets

-- the offset of the first fault of the octets as a message of this type; there is none where they are one
unfoldable pub message_fault : PduType → List ℕ → Option ℕ
message_fault pdu_type octets =
    first_failing (header_checks pdu_type octets ++ field_checks pdu_type (procedure_in pdu_type octets) octets)

unfoldable pub command_fault : List ℕ → Option ℕ
command_fault octets = message_fault Command octets

unfoldable pub reply_fault : List ℕ → Option ℕ
reply_fault octets = message_fault Reply octets
