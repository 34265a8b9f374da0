-- The replies of the procedures, as messages (the procedures are those of CCSDS 355.1-B-1; tags and layouts are
-- profile).
use Rattle.std.specs.Prelude.{◌≡◌, ⊤, ℕ, ◌^◌, ◌<◌, ◌≤◌, IsTrue, not, List, [], ◌∷◌, ◌++◌, length, IfSome, unwrap_or}
use Rattle.std.specs.List.{flat_map, AllByRecursion}
use Rattle.std.specs.Int.{w16, w32, w64, to_be_bytes}
use Rattle.sdls_base.specs.declared.states.KeyState.{KeyState}
use Rattle.sdls_base.specs.KeyId.{class_of}
use Rattle.replay_window.specs.WindowField.{IsWindowField}
use Rattle.ep_codec.specs.declared.reply_pdu.ReplyPdu.{ReplyPdu}
use Rattle.ep_codec.specs.declared.reply_pdu.ReplyPdu.TheVariants.{Rekeying, Activate, Deactivate, Destroy, Create}
use Rattle.ep_codec.specs.declared.reply_pdu.ReplyPdu.TheVariants.{Delete, SetWindow, Rekey, Expire, SetNumber, Start}
use Rattle.ep_codec.specs.declared.reply_pdu.ReplyPdu.TheVariants.{Stop, VerifyGcm, VerifyCmac, Inventory, Compose}
use Rattle.ep_codec.specs.declared.reply_pdu.ReplyPdu.TheVariants.{ReadNumber, Status}
use Rattle.sdls_base.specs.Code.{key_state_code, sa_state_code, direction_code, suite_code}
use Rattle.ep_codec.specs.Field.{is_key, is_spi, seals}
use Rattle.ep_codec.specs.Command.{message, sealed_data, IsSealedLength}

-- a key with its state
abbrev pub row_octets : ℕ × KeyState → List ℕ
row_octets row = to_be_bytes w16 row.0 ++ key_state_code row.1 ∷ []

-- the one spelling of each reply
unfoldable pub reply_octets : ReplyPdu → List ℕ
reply_octets Rekeying = message 0x81 []
reply_octets Activate = message 0x82 []
reply_octets Deactivate = message 0x83 []
reply_octets (VerifyGcm key vector sealed tag) = message 0x84 (sealed_data key vector sealed tag)
reply_octets (VerifyCmac key number mac) = message 0x84 (to_be_bytes w16 key ++ (to_be_bytes w32 number ++ mac))
reply_octets Destroy = message 0x86 []
reply_octets (Inventory total rows) = message 0x87 (to_be_bytes w16 total ++ flat_map row_octets rows)
reply_octets (Compose master vector sealed tag) = message 0x88 (message 0x01 (sealed_data master vector sealed tag))
reply_octets (ReadNumber spi number) = message 0x90 (to_be_bytes w16 spi ++ to_be_bytes w64 number)
reply_octets Create = message 0x91 []
reply_octets Delete = message 0x94 []
reply_octets SetWindow = message 0x95 []
reply_octets Rekey = message 0x96 []
reply_octets Expire = message 0x99 []
reply_octets SetNumber = message 0x9a []
reply_octets Start = message 0x9b []
reply_octets Stop = message 0x9e []
reply_octets (Status spi state direction suite key window) = message 0x9f
    (to_be_bytes w16 spi ++ sa_state_code state ∷ direction_code direction ∷ suite_code suite
    ∷ (to_be_bytes w16 (unwrap_or key 0) ++ to_be_bytes w64 window))

-- the values lie in the bounds of their fields, where their types leave that open
unfoldable pub IsInBounds : ReplyPdu → Type 0
IsInBounds Rekeying = ⊤
IsInBounds Activate = ⊤
IsInBounds Deactivate = ⊤
IsInBounds (VerifyGcm key vector sealed tag) = IsTrue (seals (class_of key))
IsInBounds (VerifyCmac key number mac) = IsTrue (not (seals (class_of key)))
IsInBounds Destroy = ⊤
IsInBounds (Inventory total rows) = length rows ≤ 256
IsInBounds (Compose master vector sealed tag) = IsSealedLength sealed
IsInBounds (ReadNumber spi number) = ⊤
IsInBounds Create = ⊤
IsInBounds Delete = ⊤
IsInBounds SetWindow = ⊤
IsInBounds Rekey = ⊤
IsInBounds Expire = ⊤
IsInBounds SetNumber = ⊤
IsInBounds Start = ⊤
IsInBounds Stop = ⊤
IsInBounds (Status spi state direction suite key window) = IsWindowField window

-- each row has a key's identifier
abbrev pub AreKeyRows : List (ℕ × KeyState) → Type 0
AreKeyRows rows = AllByRecursion (λ row. IsTrue (is_key row.0)) rows

-- the values are values of their types: keys are not 0, indexes not reserved, numbers and arrays of their widths
unfoldable pub HasTypes : ReplyPdu → Type 0
HasTypes Rekeying = ⊤
HasTypes Activate = ⊤
HasTypes Deactivate = ⊤
HasTypes (VerifyGcm key vector sealed tag) =
    IsTrue (is_key key) × (length vector ≡ 12) × (length sealed ≡ 16) × (length tag ≡ 16)
HasTypes (VerifyCmac key number mac) = IsTrue (is_key key) × (number < 2 ^ 32) × (length mac ≡ 16)
HasTypes Destroy = ⊤
HasTypes (Inventory total rows) = (total < 2 ^ 16) × AreKeyRows rows
HasTypes (Compose master vector sealed tag) = IsTrue (is_key master) × (length vector ≡ 12) × (length tag ≡ 16)
HasTypes (ReadNumber spi number) = IsTrue (is_spi spi) × (number < 2 ^ 64)
HasTypes Create = ⊤
HasTypes Delete = ⊤
HasTypes SetWindow = ⊤
HasTypes Rekey = ⊤
HasTypes Expire = ⊤
HasTypes SetNumber = ⊤
HasTypes Start = ⊤
HasTypes Stop = ⊤
HasTypes (Status spi state direction suite key window) = IsTrue (is_spi spi) × IfSome key (λ key. IsTrue (is_key key))

-- the octets are the message of the reply
pub record IsReplyPdu (reply : ReplyPdu) (octets : List ℕ) : Type 0 where
  pub types : HasTypes reply
  pub bounds : IsInBounds reply
  pub spelled : octets ≡ reply_octets reply
