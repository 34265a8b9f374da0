-- The parts of a reply (profile).
use Rattle.std.specs.Prelude.{ℕ, ◌==◌, if◌then◌else◌, codes, List, [], ◌∷◌, unwrap_or}
use Rattle.replay_window.specs.WindowField.{back_of, width_of}
use Rattle.ep_codec.specs.declared.reply_pdu.ReplyPdu.{ReplyPdu}
use Rattle.ep_codec.specs.declared.reply_pdu.ReplyPdu.TheVariants.{Rekeying, Activate, Deactivate, Destroy, Create}
use Rattle.ep_codec.specs.declared.reply_pdu.ReplyPdu.TheVariants.{Delete, SetWindow, Rekey, Expire, SetNumber, Start}
use Rattle.ep_codec.specs.declared.reply_pdu.ReplyPdu.TheVariants.{Stop, VerifyGcm, VerifyCmac, Inventory, Compose}
use Rattle.ep_codec.specs.declared.reply_pdu.ReplyPdu.TheVariants.{ReadNumber, Status}
use Rattle.ep_codec.specs.ReplyReading.{reply_procedure}
use Rattle.text_words.specs.Names.{procedure_word}
use Rattle.text_words.specs.Words.{sa_state_word, direction_word, suite_word}
use Rattle.answer_text.specs.Part.{Part}
use Rattle.answer_text.specs.Part.Part.{named, number, word, octets, rows}

-- of an inventory the count of the keys
abbrev pub total_parts : ReplyPdu → List Part
total_parts (Inventory total keys) = number (codes "total") total ∷ []
total_parts reply = []

-- the procedure, and of an inventory the count of the keys
unfoldable pub reply_name : ReplyPdu → List Part
reply_name reply = word (codes "reply") (procedure_word (reply_procedure reply)) ∷ total_parts reply

-- what is sealed, behind its vector and before its tag
abbrev pub sealed_parts : List ℕ → List ℕ → List ℕ → List Part
sealed_parts vector sealed tag =
    octets (codes "vector") vector ∷ octets (codes "sealed") sealed ∷ octets (codes "tag") tag ∷ []

-- a window field: its width, and its back window if it has one
abbrev pub window_field_parts : ℕ → List Part
window_field_parts field = named (codes "window") (width_of field)
    ∷ (if back_of field == 0 then [] else named (codes "back") (back_of field) ∷ [])

-- what the reply carries
unfoldable pub reply_values : ReplyPdu → List Part
reply_values Rekeying = []
reply_values Activate = []
reply_values Deactivate = []
reply_values Destroy = []
reply_values Create = []
reply_values Delete = []
reply_values SetWindow = []
reply_values Rekey = []
reply_values Expire = []
reply_values SetNumber = []
reply_values Start = []
reply_values Stop = []
reply_values (VerifyGcm key vector sealed tag) = named (codes "key") key ∷ sealed_parts vector sealed tag
reply_values (VerifyCmac key count mac) =
    named (codes "key") key ∷ named (codes "number") count ∷ octets (codes "mac") mac ∷ []
reply_values (Inventory total keys) = rows keys ∷ []
reply_values (Compose master vector sealed tag) = named (codes "master") master ∷ sealed_parts vector sealed tag
reply_values (ReadNumber spi count) = named (codes "spi") spi ∷ named (codes "number") count ∷ []
reply_values (Status spi state direction suite key window) =
    named (codes "spi") spi ∷ word (codes "direction") (direction_word direction)
    ∷ word (codes "suite") (suite_word suite) ∷ word (codes "state") (sa_state_word state)
    ∷ named (codes "key") (unwrap_or key 0) ∷ window_field_parts window
