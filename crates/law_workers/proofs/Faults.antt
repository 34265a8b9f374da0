-- An answer that tells a fault of the site fits only where its count had risen, and tells the count of all entries.
use Rattle.std.proofs.Common.{◌≡◌, ℕ, ◌||◌, nat_lt, Bool, true, false, List, Some, None, Ok, Err, inl, inr, refl, sym}
use Rattle.std.proofs.Common.{ap, ◌∙◌, arith}
use Rattle.std.specs.Prelude.{Result}
use Rattle.std.proofs.lemmas.Option.{none-some, same_Some}
use Rattle.sdls_outside.specs.Faults.{Rose}
use Rattle.frame_shield.specs.declared.protecting_frames.ShieldFault.TheVariants as faults
use Rattle.frame_checks.specs.declared.opening_frames.OpenReply.{OpenReply}
use Rattle.frame_checks.specs.declared.opening_frames.OpenReply.TheVariants as opens
use Rattle.frame_checks.specs.ProtectingFrames as protecting
use Rattle.ep_core.specs.declared.refusal.Reply.{Reply}
use Rattle.ep_core.specs.declared.refusal.Reply.TheVariants as replies
use Rattle.record_io.specs.declared.answers.Answer.{Answer}
use Rattle.record_io.specs.declared.code.TheConstants.{SITE_FAULT, STOPPED}
use Rattle.record_io.specs.declared.reader.RecordKind.{RecordKind}
use Rattle.record_io.specs.declared.reader.RecordKind.TheVariants.{Protect, Open, Command, Monitor}
use Rattle.record_io.specs.declared.item_cursor.Record.{Record}
use Rattle.run_promise.specs.Answers.{SaysSiteFailed, Told, monitored_told, told_by, opened_told, replied_told}
use Rattle.run_promise.specs.Answers.{unbound_told}
use Rattle.run_promise.specs.Fits.{protect_reply, Course, Fits, FitsAny, FitsKind, TellsRisenCount as TellsCount}
use Rattle.run_promise.specs.Fits.{state_in}

abbrev is_other : ℕ → Bool
is_other code = nat_lt code SITE_FAULT || nat_lt STOPPED code

not_fault : (answer : Answer) (told : Told) → told_by answer ≡ told → is_other told.code ≡ true → SaysSiteFailed answer
    → ⊥
not_fault answer told is other (inl fault) =
    let c : told.code ≡ SITE_FAULT = sym (ap (λ (t : Told). t.code) is) ∙ fault in
    let t : false ≡ true = sym (ap is_other c) ∙ other in absurd (let e = t in cc)
not_fault answer told is other (inr fault) =
    let c : told.code ≡ STOPPED = sym (ap (λ (t : Told). t.code) is) ∙ fault in
    let t : false ≡ true = sym (ap is_other c) ∙ other in absurd (let e = t in cc)

unbound_not : (answer : Answer) (found : protecting.Answer) → unbound_told found ≡ Some (told_by answer)
    → SaysSiteFailed answer → ⊥
unbound_not answer (Ok None) is = not_fault answer _ (sym (same_Some _ (told_by answer) is)) refl
unbound_not answer (Ok (Some binding)) is = absurd (none-some (told_by answer) is)
unbound_not answer (Err (faults.Layout fault)) is = not_fault answer _ (sym (same_Some _ (told_by answer) is)) refl
unbound_not answer (Err faults.Channel) is = not_fault answer _ (sym (same_Some _ (told_by answer) is)) refl
unbound_not answer (Err faults.State) is = not_fault answer _ (sym (same_Some _ (told_by answer) is)) refl

open_not : (answer : Answer) (reply : OpenReply) (field : List ℕ) → told_by answer ≡ opened_told reply field
    → SaysSiteFailed answer → ⊥
open_not answer (opens.Accepted spi key number from to) field is = not_fault answer _ is refl
open_not answer opens.Clear field is = not_fault answer _ is refl
open_not answer (opens.Layout fault) field is = not_fault answer _ is refl
open_not answer opens.Channel field is = not_fault answer _ is refl
open_not answer opens.Spi field is = not_fault answer _ is refl
open_not answer opens.Direction field is = not_fault answer _ is refl
open_not answer (opens.State held) field is = not_fault answer _ is refl
open_not answer opens.Coverage field is = not_fault answer _ is refl
open_not answer opens.Mac field is = not_fault answer _ is refl
open_not answer (opens.Number key number high width) field is = not_fault answer _ is refl

command_not : (answer : Answer) (reply : Reply) → told_by answer ≡ replied_told reply → SaysSiteFailed answer → ⊥
command_not answer (replies.Done key number pdu) is = not_fault answer _ is refl
command_not answer (replies.Refused code value) is = not_fault answer _ is refl

monitored_not : (answer : Answer) (said : Result (List ℕ) ℕ) → told_by answer ≡ monitored_told said
    → SaysSiteFailed answer → ⊥
monitored_not answer (Ok reply) is = not_fault answer _ is refl
monitored_not answer (Err offset) is = not_fault answer _ is refl

any_tells : (near : ℕ → ℕ → Type 0) (course : Course) (task : Record) (answer : Answer)
    → FitsAny near course task answer → SaysSiteFailed answer
    → (code : ℕ) × TellsCount course code answer
any_tells near course task answer (inl is) fault = (SITE_FAULT, is.tells)
any_tells near course task answer (inr (inl is)) fault = (STOPPED, is.tells)
any_tells near course task answer (inr (inr is)) fault = absurd (not_fault answer _ is.told refl fault)

kind_tells : (near : ℕ → ℕ → Type 0) (course : Course) (task : Record) (answer : Answer) (kind : RecordKind)
    → FitsKind near course task answer kind
    → SaysSiteFailed answer → (code : ℕ) × TellsCount course code answer
kind_tells near course task answer Protect (inl is) fault = absurd (not_fault answer _ is.told refl fault)
kind_tells near course task answer Protect (inr (inl is)) fault =
    absurd (unbound_not answer (protect_reply course.begin.plan (state_in course answer.position) task.link task.octets)
    is.told fault)
kind_tells near course task answer Protect (inr (inr (inl is))) fault = absurd (not_fault answer _ is.told refl fault)
kind_tells near course task answer Protect (inr (inr (inr any))) fault = any_tells near course task answer any fault
kind_tells near course task answer Open (inl is) fault = absurd (open_not answer is.reply is.field is.told fault)
kind_tells near course task answer Open (inr any) fault = any_tells near course task answer any fault
kind_tells near course task answer Command (inl is) fault = absurd (command_not answer is.reply is.told fault)
kind_tells near course task answer Command (inr any) fault = any_tells near course task answer any fault
kind_tells near course task answer Monitor (inl is) fault = absurd (monitored_not answer is.said is.told fault)
kind_tells near course task answer Monitor (inr is) fault = absurd (not_fault answer _ is.told refl fault)

-- it tells a count of faults that had risen, and the count of all entries
pub fault_tells : (near : ℕ → ℕ → Type 0) (course : Course) (task : Record) (answer : Answer)
    → Fits near course task answer → SaysSiteFailed answer
    → (code : ℕ) × TellsCount course code answer
fault_tells near course task answer fit fault = kind_tells near course task answer task.kind fit fault

pub fault_rose : (near : ℕ → ℕ → Type 0) (course : Course) (task : Record) (answer : Answer)
    → Fits near course task answer → SaysSiteFailed answer
    → Rose course.faults_before course.faults
fault_rose near course task answer fit fault =
    let (code, tells) = fault_tells near course task answer fit fault in let a = tells.rose in let b = tells.counted in
    omega arith
