-- What reading a command answers, header and fields together.
use Rattle.std.proofs.Common.{◌≡◌, ℕ, List, [], ◌∷◌, length, Option, Some, None, Result, Ok, Err, refl, sym, ap, subst}
use Rattle.std.proofs.Common.{◌∙◌}
use Rattle.std.specs.Prelude.{IfOk, not, nat_lt, is_none}
use Rattle.ep_codec.specs.declared.command.Command.{Command}
use Rattle.ep_codec.specs.declared.procedure.PduError.{PduError}
use Rattle.ep_codec.specs.declared.procedure.PduError.TheVariants.{Fault, NoMemory}
use Rattle.ep_codec.specs.declared.procedure.PduType.TheVariants as types
use Rattle.ep_codec.specs.declared.procedure.Procedure.{Procedure}
use Rattle.sdls_base.specs.FirstFailing.{first_failing}
use Rattle.ep_codec.specs.Check.{IsFirst, JudgesMessage, IsReadUnlessNoMemory, Carries, HasFault}
use Rattle.ep_codec.specs.Command.{IsCommandPdu}
use Rattle.ep_codec.specs.CommandReading.{command_at, command_procedure}
use Rattle.ep_codec.specs.MessageFault.{procedure_in, header_checks, command_checks, field_checks, message_fault}
use Rattle.ep_codec.specs.MessageFault.{command_fault, can_have, end_in}
use Rattle.sdls_base.specs.Places.{word_at}
use Rattle.ep_codec.proofs.CommandAgain.{command_again}
use Rattle.ep_codec.proofs.CommandFacts.{command_found}
use Rattle.ep_codec.proofs.Faults.{passed_append, failed_append, front_passed, first_passed, others_passed}
use Rattle.sdls_base.proofs.PlaceFacts.{AreOctets}
use Rattle.ep_codec.proofs.HeaderFacts.{some_of}

-- a fault of the header, where the octets are a command
pub header_only : (octets : List ℕ) (e : PduError) → IsFirst e (header_checks types.Command octets)
    → (command : Command) → IsCommandPdu command octets → e ≡ NoMemory
header_only octets (Fault offset) first command is =
    let none = (command_again command octets is).header.none in
    absurd cc
header_only octets NoMemory first command is = refl

pub header_fault : (octets : List ℕ) (e : PduError) → IsFirst e (header_checks types.Command octets)
    → Carries e (command_fault octets)
unfolding command_fault message_fault
header_fault octets (Fault offset) first =
    failed_append (header_checks types.Command octets)
    (field_checks types.Command (procedure_in types.Command octets) octets) offset first
header_fault octets NoMemory first = tt

-- what reading the fields answers
abbrev pub JudgesCommand : Result Command PduError → Procedure → List ℕ → Type 0
JudgesCommand r p octets = JudgesMessage r (command_checks p octets) (λ command. command ≡ command_at p octets)

pub fields_found : (octets : List ℕ) (p : Procedure) (r : Result Command PduError) → AreOctets octets
    → first_failing (header_checks types.Command octets) ≡ None
    → procedure_in types.Command octets ≡ Some p → JudgesCommand r p octets
    → IfOk r (λ command. IsCommandPdu command octets)
fields_found octets p (Ok command) are header found judged =
    rw judged.1 (command_found octets p are header found judged.0)
fields_found octets p (Err e) are header found judged = tt

same_procedure : (octets : List ℕ) (p : Procedure) (command : Command) → procedure_in types.Command octets ≡ Some p
    → IsCommandPdu command octets
    → command_procedure command ≡ p
same_procedure octets p command found is =
    let other = (command_again command octets is).header.found in
    cc

pub fields_only : (octets : List ℕ) (p : Procedure) (r : Result Command PduError)
    → procedure_in types.Command octets ≡ Some p → JudgesCommand r p octets
    → (command : Command) → IsCommandPdu command octets → IsReadUnlessNoMemory r command
fields_only octets p (Ok read) found judged command is =
    judged.1 ∙ ap (λ (q : Procedure). command_at q octets) (sym (same_procedure octets p command found is))
    ∙ (command_again command octets is).value
fields_only octets p (Err (Fault offset)) found judged command is =
    let none : first_failing (command_checks p octets) ≡ None =
    subst (λ (q : Procedure). first_failing (command_checks q octets) ≡ None) (same_procedure octets p command found is)
    (command_again command octets is).fields in
    absurd cc
fields_only octets p (Err NoMemory) found judged command is = refl

all_faults : (octets : List ℕ) (p : Procedure) → first_failing (header_checks types.Command octets) ≡ None
    → procedure_in types.Command octets ≡ Some p
    → command_fault octets ≡ first_failing (command_checks p octets)
unfolding command_fault message_fault
all_faults octets p header found =
    passed_append (header_checks types.Command octets)
    (field_checks types.Command (procedure_in types.Command octets) octets) header
    ∙ ap (λ (o : Option Procedure). first_failing (field_checks types.Command o octets)) found

pub fields_fault : (octets : List ℕ) (p : Procedure) (r : Result Command PduError)
    → first_failing (header_checks types.Command octets) ≡ None
    → procedure_in types.Command octets ≡ Some p → JudgesCommand r p octets → HasFault r (command_fault octets)
fields_fault octets p (Ok command) header found judged = all_faults octets p header found ∙ judged.0
fields_fault octets p (Err (Fault offset)) header found judged = all_faults octets p header found ∙ judged
fields_fault octets p (Err NoMemory) header found judged = tt

-- ---- laws

-- a command's octets have no fault
pub message_has_none : (command : Command) (octets : List ℕ) → IsCommandPdu command octets → command_fault octets ≡ None
message_has_none command octets is =
    let again = command_again command octets is in
    all_faults octets (command_procedure command) again.header.none again.header.found ∙ again.fields

pub one_value : (a b : Command) (octets : List ℕ) → IsCommandPdu a octets → IsCommandPdu b octets → a ≡ b
one_value a b octets p q =
    let first = command_again a octets p in
    let second = command_again b octets q in
    let same : command_procedure a ≡ command_procedure b =
    same_procedure octets (command_procedure b) a second.header.found p in
    sym first.value ∙ ap (λ (r : Procedure). command_at r octets) same ∙ second.value

-- octets without fault have a procedure
has_procedure : (octets : List ℕ) → first_failing (header_checks types.Command octets) ≡ None
    → (p : Procedure) × (procedure_in types.Command octets ≡ Some p)
unfolding header_checks
has_procedure octets none =
    let three = (not (can_have types.Command (procedure_in types.Command octets) (word_at 1 octets)), 1)
    ∷ (nat_lt (length octets) (end_in octets), length octets) ∷ (nat_lt (end_in octets) (length octets), end_in octets)
    ∷ [] in
    let two = others_passed (nat_lt (length octets) 3) (length octets)
    ((is_none (procedure_in types.Command octets), 0) ∷ three) none in
    some_of (procedure_in types.Command octets) (first_passed (is_none (procedure_in types.Command octets)) 0 three two)

pub none_has_message : (octets : List ℕ) → AreOctets octets → command_fault octets ≡ None
    → (command : Command) × IsCommandPdu command octets
unfolding command_fault message_fault
none_has_message octets are none =
    let header = front_passed (header_checks types.Command octets)
    (field_checks types.Command (procedure_in types.Command octets) octets) none in
    let p = has_procedure octets header in
    let fields = sym (all_faults octets p.0 header p.1) ∙ none in
    (command_at p.0 octets, command_found octets p.0 are header p.1 fields)
