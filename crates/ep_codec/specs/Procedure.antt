-- The procedures of the key and association management (the procedures are those of CCSDS 355.1-B-1; tags, layouts and
-- lengths are profile).
use Rattle.std.specs.Prelude.{ℕ, ◌-◌, ◌%◌, ◌==◌, ◌&&◌, ◌||◌, nat_lt, if◌then◌else◌, Bool, List, [], ◌∷◌, Option, None}
use Rattle.std.specs.Prelude.{find}
use Rattle.std.specs.Int.{is_in_range}
use Rattle.ep_codec.specs.declared.procedure.PduType.{PduType}
use Rattle.ep_codec.specs.declared.procedure.PduType.TheVariants.{Command, Reply}
use Rattle.ep_codec.specs.declared.procedure.Procedure.{Procedure}
use Rattle.ep_codec.specs.declared.procedure.Procedure.TheVariants.{Rekeying, Activate, Deactivate, Verify, Destroy}
use Rattle.ep_codec.specs.declared.procedure.Procedure.TheVariants.{Inventory, Compose, ReadNumber, Create, Delete}
use Rattle.ep_codec.specs.declared.procedure.Procedure.TheVariants.{SetWindow, Rekey, Expire, SetNumber, Start, Stop}
use Rattle.ep_codec.specs.declared.procedure.Procedure.TheVariants.{Status}

-- the tag of a procedure's command; that of its reply is 128 more
abbrev pub tag_of : Procedure → ℕ
tag_of Rekeying = 0x01
tag_of Activate = 0x02
tag_of Deactivate = 0x03
tag_of Verify = 0x04
tag_of Destroy = 0x06
tag_of Inventory = 0x07
tag_of Compose = 0x08
tag_of ReadNumber = 0x10
tag_of Create = 0x11
tag_of Delete = 0x14
tag_of SetWindow = 0x15
tag_of Rekey = 0x16
tag_of Expire = 0x19
tag_of SetNumber = 0x1a
tag_of Start = 0x1b
tag_of Stop = 0x1e
tag_of Status = 0x1f

abbrev pub procedures : List Procedure
procedures = Rekeying ∷ Activate ∷ Deactivate ∷ Verify ∷ Destroy ∷ Inventory ∷ Compose ∷ ReadNumber ∷ Create ∷ Delete
    ∷ SetWindow ∷ Rekey ∷ Expire ∷ SetNumber ∷ Start ∷ Stop ∷ Status ∷ []

-- the procedure with this tag
unfoldable pub procedure_of : ℕ → Option Procedure
procedure_of tag = find (λ procedure. tag_of procedure == tag) procedures

-- the lengths in octets that the data of a command can have
abbrev pub has_command_length : Procedure → ℕ → Bool
has_command_length Rekeying n = is_in_range 49 310 n
has_command_length Activate n = is_in_range 2 16 n && n % 2 == 0
has_command_length Deactivate n = is_in_range 2 16 n && n % 2 == 0
has_command_length Verify n = n == 18
has_command_length Destroy n = is_in_range 2 16 n && n % 2 == 0
has_command_length Inventory n = n == 4
has_command_length Compose n = is_in_range 4 18 n && n % 2 == 0
has_command_length ReadNumber n = n == 2
has_command_length Create n = is_in_range 14 21 n
has_command_length Delete n = n == 2
has_command_length SetWindow n = n == 10
has_command_length Rekey n = n == 12
has_command_length Expire n = n == 2
has_command_length SetNumber n = n == 10
has_command_length Start n = n == 2
has_command_length Stop n = n == 2
has_command_length Status n = n == 2

-- the lengths in octets that the data of a reply can have
abbrev pub has_reply_length : Procedure → ℕ → Bool
has_reply_length Rekeying n = n == 0
has_reply_length Activate n = n == 0
has_reply_length Deactivate n = n == 0
has_reply_length Verify n = n == 46 || n == 22
has_reply_length Destroy n = n == 0
has_reply_length Inventory n = is_in_range 2 770 n && n % 3 == 2
has_reply_length Compose n = is_in_range 52 313 n
has_reply_length ReadNumber n = n == 10
has_reply_length Create n = n == 0
has_reply_length Delete n = n == 0
has_reply_length SetWindow n = n == 0
has_reply_length Rekey n = n == 0
has_reply_length Expire n = n == 0
has_reply_length SetNumber n = n == 0
has_reply_length Start n = n == 0
has_reply_length Stop n = n == 0
has_reply_length Status n = n == 15

-- the same by the type of the message

abbrev pub procedure_tagged : PduType → ℕ → Option Procedure
procedure_tagged Command tag = procedure_of tag
procedure_tagged Reply tag = if nat_lt tag 128 then None else procedure_of (tag - 128)

abbrev pub has_length : PduType → Procedure → ℕ → Bool
has_length Command procedure n = has_command_length procedure n
has_length Reply procedure n = has_reply_length procedure n
