-- Behind an answer that says that the site failed an Open and a Command make no entry.
use Rattle.std.proofs.Common.{◌≡◌, ◌≢◌, ℕ, Bool, ◌&&◌, nat_le, List, inl, inr, refl, sym, ap, subst}
use Rattle.std.specs.Prelude.{IsTrue}
use Rattle.std.proofs.lemmas.Bool.{false≢true}
use Rattle.frame_checks.specs.declared.opening_frames.OpenReply.{OpenReply}
use Rattle.frame_checks.specs.declared.opening_frames.OpenReply.TheVariants as opens
use Rattle.ep_core.specs.declared.refusal.Reply.{Reply}
use Rattle.ep_core.specs.declared.refusal.Reply.TheVariants as replies
use Rattle.record_io.specs.declared.answers.Answer.{Answer}
use Rattle.record_io.specs.declared.code.TheConstants.{ACCEPTED, NUMBER, SITE_FAULT}
use Rattle.record_io.specs.declared.reader.RecordKind.{RecordKind}
use Rattle.record_io.specs.declared.reader.RecordKind.TheVariants.{Protect, Open, Command, Monitor}
use Rattle.record_io.specs.declared.item_cursor.Record.{Record}
use Rattle.run_promise.specs.Answers.{Told, told_by, opened_told, replied_told, IsUnmade}
use Rattle.run_promise.specs.Deed.{is_entered}
use Rattle.run_promise.specs.Fits.{Course, FitsAny, FitsKind}

-- the code is one of those of an entry
abbrev pub is_of_entry : ℕ → Bool
is_of_entry code = nat_le ACCEPTED code && nat_le code NUMBER

told_entry : (answer : Answer) (told : Told) → told_by answer ≡ told → IsTrue (is_of_entry told.code)
    → IsTrue (is_of_entry answer.code)
told_entry answer told is of = subst (λ (t : Told). IsTrue (is_of_entry t.code)) (sym is) of

opened : (answer : Answer) (reply : OpenReply) (field : List ℕ) → told_by answer ≡ opened_told reply field
    → IsTrue (is_of_entry answer.code)
opened answer (opens.Accepted spi key number from to) field is = told_entry answer _ is refl
opened answer opens.Clear field is = told_entry answer _ is refl
opened answer (opens.Layout fault) field is = told_entry answer _ is refl
opened answer opens.Channel field is = told_entry answer _ is refl
opened answer opens.Spi field is = told_entry answer _ is refl
opened answer opens.Direction field is = told_entry answer _ is refl
opened answer (opens.State held) field is = told_entry answer _ is refl
opened answer opens.Coverage field is = told_entry answer _ is refl
opened answer opens.Mac field is = told_entry answer _ is refl
opened answer (opens.Number key number high width) field is = told_entry answer _ is refl

commanded : (answer : Answer) (reply : Reply) → told_by answer ≡ replied_told reply → IsTrue (is_of_entry answer.code)
commanded answer (replies.Done key number pdu) is = told_entry answer _ is refl
commanded answer (replies.Refused code value) is = told_entry answer _ is refl

unmade_any : (near : ℕ → ℕ → Type 0) (course : Course) (task : Record) (answer : Answer)
    → FitsAny near course task answer → answer.code ≢ SITE_FAULT → IsUnmade answer.code
unmade_any near course task answer (inl is) other = absurd (other (ap (λ (t : Told). t.code) is.tells.told))
unmade_any near course task answer (inr (inl is)) other = inl (ap (λ (t : Told). t.code) is.tells.told)
unmade_any near course task answer (inr (inr is)) other = inr (ap (λ (t : Told). t.code) is.told)

-- the answer to an Open or a Command that is of no entry and reports no fault says that none was made
pub unmade_code : (near : ℕ → ℕ → Type 0) (course : Course) (task : Record) (answer : Answer) (kind : RecordKind)
    → IsTrue (is_entered kind) → FitsKind near course task answer kind → (IsTrue (is_of_entry answer.code) → ⊥)
    → answer.code ≢ SITE_FAULT → IsUnmade answer.code
unmade_code near course task answer Protect entered fit none other = absurd (false≢true entered)
unmade_code near course task answer Open entered (inl h) none other =
    absurd (none (opened answer h.reply h.field h.told))
unmade_code near course task answer Open entered (inr any) none other = unmade_any near course task answer any other
unmade_code near course task answer Command entered (inl h) none other = absurd (none (commanded answer h.reply h.told))
unmade_code near course task answer Command entered (inr any) none other =
    unmade_any near course task answer any other
unmade_code near course task answer Monitor entered fit none other = absurd (false≢true entered)
