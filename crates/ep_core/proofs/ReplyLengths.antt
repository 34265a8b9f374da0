-- No reply is longer than the inventory of all keys, for `write`.
use Rattle.std.proofs.Common.{◌≡◌, ℕ, ◌+◌, ◌≤◌, List, ◌++◌, length, sym, subst, arith, length-append}
use Rattle.ep_codec.specs.declared.reply_pdu.ReplyPdu.{ReplyPdu}
use Rattle.ep_codec.specs.declared.reply_pdu.ReplyPdu.TheVariants.{Rekeying, Activate, Deactivate, Destroy, Create}
use Rattle.ep_codec.specs.declared.reply_pdu.ReplyPdu.TheVariants.{Delete, SetWindow, Rekey, Expire, SetNumber, Start}
use Rattle.ep_codec.specs.declared.reply_pdu.ReplyPdu.TheVariants.{Stop, VerifyGcm, VerifyCmac, Inventory, Compose}
use Rattle.ep_codec.specs.declared.reply_pdu.ReplyPdu.TheVariants.{ReadNumber, Status}
use Rattle.ep_codec.specs.Command.{message, sealed_data}
use Rattle.ep_codec.specs.ReplyPdu.{HasTypes, IsInBounds, IsReplyPdu, reply_octets, row_octets}
use Rattle.ep_codec.proofs.Lengths.{rows_length}
use Rattle.ep_codec.proofs.FieldFacts.{high_bound}
use Rattle.ep_core.specs.declared.refusal.TheConstants.{MOST_REPLY_OCTETS}

sealed_length : (key : ℕ) (vector sealed tag : List ℕ) → length vector ≡ 12 → length tag ≡ 16
    → length (sealed_data key vector sealed tag) ≡ 30 + length sealed
sealed_length key vector sealed tag twelve sixteen =
    omega (arith, length-append vector (sealed ++ tag), length-append sealed tag, twelve, sixteen)

within : (reply : ReplyPdu) → HasTypes reply → IsInBounds reply → length (reply_octets reply) ≤ MOST_REPLY_OCTETS
unfolding HasTypes IsInBounds reply_octets
within Rekeying types bounds = omega arith
within Activate types bounds = omega arith
within Deactivate types bounds = omega arith
within (VerifyGcm key vector sealed tag) types bounds =
    omega (arith, sealed_length key vector sealed tag types.1 types.3, types.2)
within (VerifyCmac key number mac) types bounds = let sixteen = types.2 in omega (arith, sixteen)
within Destroy types bounds = omega arith
within (Inventory total rows) types bounds = omega (arith, rows_length rows, bounds)
within (Compose master vector sealed tag) types bounds =
    let few = high_bound 19 280 (length sealed) bounds in
    omega (arith, sealed_length master vector sealed tag types.1 types.2, few)
within (ReadNumber spi number) types bounds = omega arith
within Create types bounds = omega arith
within Delete types bounds = omega arith
within SetWindow types bounds = omega arith
within Rekey types bounds = omega arith
within Expire types bounds = omega arith
within SetNumber types bounds = omega arith
within Start types bounds = omega arith
within Stop types bounds = omega arith
within (Status spi state direction suite key window) types bounds = omega arith

pub reply_within : (reply : ReplyPdu) (octets : List ℕ) → IsReplyPdu reply octets → length octets ≤ MOST_REPLY_OCTETS
reply_within reply octets is =
    subst (λ (l : List ℕ). length l ≤ MOST_REPLY_OCTETS) (sym is.spelled) (within reply is.types is.bounds)
