-- What reading a reply answers, header and fields together.
use Rattle.std.proofs.Common.{◌≡◌, ℕ, List, [], ◌∷◌, length, Option, Some, None, Result, Ok, Err, refl, sym, ap, subst}
use Rattle.std.proofs.Common.{◌∙◌}
use Rattle.std.specs.Prelude.{IfOk, not, nat_lt, is_none}
use Rattle.ep_codec.specs.declared.reply_pdu.ReplyPdu.{ReplyPdu}
use Rattle.ep_codec.specs.declared.procedure.PduError.{PduError}
use Rattle.ep_codec.specs.declared.procedure.PduError.TheVariants.{Fault, NoMemory}
use Rattle.ep_codec.specs.declared.procedure.PduType.TheVariants as types
use Rattle.ep_codec.specs.declared.procedure.Procedure.{Procedure}
use Rattle.sdls_base.specs.FirstFailing.{first_failing}
use Rattle.ep_codec.specs.Check.{IsFirst, JudgesMessage, IsReadUnlessNoMemory, Carries, HasFault}
use Rattle.ep_codec.specs.ReplyPdu.{IsReplyPdu}
use Rattle.ep_codec.specs.ReplyReading.{reply_at, reply_procedure}
use Rattle.ep_codec.specs.MessageFault.{procedure_in, header_checks, reply_checks, field_checks, message_fault}
use Rattle.ep_codec.specs.MessageFault.{reply_fault, can_have, end_in}
use Rattle.sdls_base.specs.Places.{word_at}
use Rattle.ep_codec.proofs.ReplyAgain.{reply_again}
use Rattle.ep_codec.proofs.ReplyFacts.{reply_found}
use Rattle.ep_codec.proofs.Faults.{passed_append, failed_append, front_passed, first_passed, others_passed}
use Rattle.sdls_base.proofs.PlaceFacts.{AreOctets}
use Rattle.ep_codec.proofs.HeaderFacts.{some_of}

-- a fault of the header, where the octets are a reply
pub header_only : (octets : List ℕ) (e : PduError) → IsFirst e (header_checks types.Reply octets)
    → (reply : ReplyPdu) → IsReplyPdu reply octets → e ≡ NoMemory
header_only octets (Fault offset) first reply is =
    let none = (reply_again reply octets is).header.none in
    absurd cc
header_only octets NoMemory first reply is = refl

pub header_fault : (octets : List ℕ) (e : PduError) → IsFirst e (header_checks types.Reply octets)
    → Carries e (reply_fault octets)
unfolding reply_fault message_fault
header_fault octets (Fault offset) first =
    failed_append (header_checks types.Reply octets) (field_checks types.Reply (procedure_in types.Reply octets) octets)
    offset first
header_fault octets NoMemory first = tt

-- what reading the fields answers
abbrev pub JudgesReply : Result ReplyPdu PduError → Procedure → List ℕ → Type 0
JudgesReply r p octets = JudgesMessage r (reply_checks p octets) (λ reply. reply ≡ reply_at p octets)

pub fields_found : (octets : List ℕ) (p : Procedure) (r : Result ReplyPdu PduError) → AreOctets octets
    → first_failing (header_checks types.Reply octets) ≡ None
    → procedure_in types.Reply octets ≡ Some p → JudgesReply r p octets → IfOk r (λ reply. IsReplyPdu reply octets)
fields_found octets p (Ok reply) are header found judged = rw judged.1 (reply_found octets p are header found judged.0)
fields_found octets p (Err e) are header found judged = tt

same_procedure : (octets : List ℕ) (p : Procedure) (reply : ReplyPdu) → procedure_in types.Reply octets ≡ Some p
    → IsReplyPdu reply octets
    → reply_procedure reply ≡ p
same_procedure octets p reply found is =
    let other = (reply_again reply octets is).header.found in
    cc

pub fields_only : (octets : List ℕ) (p : Procedure) (r : Result ReplyPdu PduError)
    → procedure_in types.Reply octets ≡ Some p → JudgesReply r p octets
    → (reply : ReplyPdu) → IsReplyPdu reply octets → IsReadUnlessNoMemory r reply
fields_only octets p (Ok read) found judged reply is =
    judged.1 ∙ ap (λ (q : Procedure). reply_at q octets) (sym (same_procedure octets p reply found is))
    ∙ (reply_again reply octets is).value
fields_only octets p (Err (Fault offset)) found judged reply is =
    let none : first_failing (reply_checks p octets) ≡ None =
    subst (λ (q : Procedure). first_failing (reply_checks q octets) ≡ None) (same_procedure octets p reply found is)
    (reply_again reply octets is).fields in
    absurd cc
fields_only octets p (Err NoMemory) found judged reply is = refl

all_faults : (octets : List ℕ) (p : Procedure) → first_failing (header_checks types.Reply octets) ≡ None
    → procedure_in types.Reply octets ≡ Some p
    → reply_fault octets ≡ first_failing (reply_checks p octets)
unfolding reply_fault message_fault
all_faults octets p header found =
    passed_append (header_checks types.Reply octets) (field_checks types.Reply (procedure_in types.Reply octets) octets)
    header
    ∙ ap (λ (o : Option Procedure). first_failing (field_checks types.Reply o octets)) found

pub fields_fault : (octets : List ℕ) (p : Procedure) (r : Result ReplyPdu PduError)
    → first_failing (header_checks types.Reply octets) ≡ None
    → procedure_in types.Reply octets ≡ Some p → JudgesReply r p octets → HasFault r (reply_fault octets)
fields_fault octets p (Ok reply) header found judged = all_faults octets p header found ∙ judged.0
fields_fault octets p (Err (Fault offset)) header found judged = all_faults octets p header found ∙ judged
fields_fault octets p (Err NoMemory) header found judged = tt

-- ---- laws

-- a reply's octets have no fault
pub message_has_none : (reply : ReplyPdu) (octets : List ℕ) → IsReplyPdu reply octets → reply_fault octets ≡ None
message_has_none reply octets is =
    let again = reply_again reply octets is in
    all_faults octets (reply_procedure reply) again.header.none again.header.found ∙ again.fields

pub one_value : (a b : ReplyPdu) (octets : List ℕ) → IsReplyPdu a octets → IsReplyPdu b octets → a ≡ b
one_value a b octets p q =
    let first = reply_again a octets p in
    let second = reply_again b octets q in
    let same : reply_procedure a ≡ reply_procedure b =
    same_procedure octets (reply_procedure b) a second.header.found p in
    sym first.value ∙ ap (λ (r : Procedure). reply_at r octets) same ∙ second.value

-- octets without fault have a procedure
has_procedure : (octets : List ℕ) → first_failing (header_checks types.Reply octets) ≡ None
    → (p : Procedure) × (procedure_in types.Reply octets ≡ Some p)
unfolding header_checks
has_procedure octets none =
    let three = (not (can_have types.Reply (procedure_in types.Reply octets) (word_at 1 octets)), 1)
    ∷ (nat_lt (length octets) (end_in octets), length octets) ∷ (nat_lt (end_in octets) (length octets), end_in octets)
    ∷ [] in
    let two = others_passed (nat_lt (length octets) 3) (length octets)
    ((is_none (procedure_in types.Reply octets), 0) ∷ three) none in
    some_of (procedure_in types.Reply octets) (first_passed (is_none (procedure_in types.Reply octets)) 0 three two)

pub none_has_message : (octets : List ℕ) → AreOctets octets → reply_fault octets ≡ None
    → (reply : ReplyPdu) × IsReplyPdu reply octets
unfolding reply_fault message_fault
none_has_message octets are none =
    let header = front_passed (header_checks types.Reply octets)
    (field_checks types.Reply (procedure_in types.Reply octets) octets) none in
    let p = has_procedure octets header in
    let fields = sym (all_faults octets p.0 header p.1) ∙ none in
    (reply_at p.0 octets, reply_found octets p.0 are header p.1 fields)
