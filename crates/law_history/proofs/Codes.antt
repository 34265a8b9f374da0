-- The codes of answers that fit, and what an acceptance says.
use Rattle.std.proofs.Common.{◌≡◌, ◌≢◌, ◌⊎◌, ℕ, ◌-◌, ◌<◌, false, nat_eq, List, Some, None, Ok, Err, inl, inr, ⊎_elim}
use Rattle.std.proofs.Common.{refl, sym, ap, ◌∙◌, subst, arith}
use Rattle.std.specs.List.{slice_get}
use Rattle.std.specs.Prelude.{Result}
use Rattle.std.proofs.lemmas.Bool.{cases_eq, cases_lt, false≢true}
use Rattle.std.proofs.lemmas.Option.{none-some, same_Some}
use Rattle.sdls_base.specs.declared.entry.Entry.{Entry}
use Rattle.frame_shield.specs.declared.protecting_frames.ShieldFault.TheVariants as faults
use Rattle.frame_checks.specs.declared.opening_frames.OpenReply.{OpenReply}
use Rattle.frame_checks.specs.declared.opening_frames.OpenReply.TheVariants as opens
use Rattle.frame_checks.specs.ProtectingFrames as protecting
use Rattle.ep_core.specs.declared.refusal.Reply.{Reply}
use Rattle.ep_core.specs.declared.refusal.Reply.TheVariants as replies
use Rattle.record_io.specs.declared.answers.Answer.{Answer}
use Rattle.record_io.specs.declared.reader.RecordKind.{RecordKind}
use Rattle.record_io.specs.declared.reader.RecordKind.TheVariants.{Protect, Open, Command, Monitor}
use Rattle.record_io.specs.declared.item_cursor.Record.{Record}
use Rattle.record_io.specs.Places.{Place, records_of}
use Rattle.run_promise.specs.History.{frame_entry, raised_floor, AcceptsAt, TurnIn, IsLegalHistory}
use Rattle.run_promise.specs.Fits.{protect_reply, Course, state_in, state_before, IsOpenAnswer, FitsAny, FitsKind, Fits}
use Rattle.run_promise.specs.Answers.{Told, told_by, opened_told, replied_told, unbound_told, monitored_told, IsCodeOf}
use Rattle.run_promise.specs.Answers.{Accepts}
use Rattle.law_history.proofs.Along.{of_places, accepted_twice}

-- ---- codes

-- the code of what is told is one of the kind's
told_code : (kind : RecordKind) (answer : Answer) (told : Told) → told_by answer ≡ told → IsCodeOf kind told.code
    → IsCodeOf kind answer.code
told_code kind answer told is of = subst (λ (t : Told). IsCodeOf kind t.code) (sym is) of

any_code : (near : ℕ → ℕ → Type 0) (course : Course) (task : Record) (kind : RecordKind) (answer : Answer)
    → kind ≢ Monitor → FitsAny near course task answer
    → IsCodeOf kind answer.code
any_code near course task Protect answer other (inl is) = told_code Protect answer _ is.tells.told refl
any_code near course task Protect answer other (inr (inl is)) = told_code Protect answer _ is.tells.told refl
any_code near course task Protect answer other (inr (inr is)) = told_code Protect answer _ is.told refl
any_code near course task Open answer other (inl is) = told_code Open answer _ is.tells.told refl
any_code near course task Open answer other (inr (inl is)) = told_code Open answer _ is.tells.told refl
any_code near course task Open answer other (inr (inr is)) = told_code Open answer _ is.told refl
any_code near course task Command answer other (inl is) = told_code Command answer _ is.tells.told refl
any_code near course task Command answer other (inr (inl is)) = told_code Command answer _ is.tells.told refl
any_code near course task Command answer other (inr (inr is)) = told_code Command answer _ is.told refl
any_code near course task Monitor answer other any = absurd (other refl)

unbound_code : (answer : Answer) (found : protecting.Answer) → unbound_told found ≡ Some (told_by answer)
    → IsCodeOf Protect answer.code
unbound_code answer (Ok None) is = told_code Protect answer _ (sym (same_Some _ (told_by answer) is)) refl
unbound_code answer (Ok (Some binding)) is = absurd (none-some (told_by answer) is)
unbound_code answer (Err (faults.Layout fault)) is =
    told_code Protect answer _ (sym (same_Some _ (told_by answer) is)) refl
unbound_code answer (Err faults.Channel) is = told_code Protect answer _ (sym (same_Some _ (told_by answer) is)) refl
unbound_code answer (Err faults.State) is = told_code Protect answer _ (sym (same_Some _ (told_by answer) is)) refl

open_code : (answer : Answer) (reply : OpenReply) (field : List ℕ) → told_by answer ≡ opened_told reply field
    → IsCodeOf Open answer.code
open_code answer (opens.Accepted spi key number from to) field is = told_code Open answer _ is refl
open_code answer opens.Clear field is = told_code Open answer _ is refl
open_code answer (opens.Layout fault) field is = told_code Open answer _ is refl
open_code answer opens.Channel field is = told_code Open answer _ is refl
open_code answer opens.Spi field is = told_code Open answer _ is refl
open_code answer opens.Direction field is = told_code Open answer _ is refl
open_code answer (opens.State held) field is = told_code Open answer _ is refl
open_code answer opens.Coverage field is = told_code Open answer _ is refl
open_code answer opens.Mac field is = told_code Open answer _ is refl
open_code answer (opens.Number key number high width) field is = told_code Open answer _ is refl

command_code : (answer : Answer) (reply : Reply) → told_by answer ≡ replied_told reply → IsCodeOf Command answer.code
command_code answer (replies.Done key number pdu) is = told_code Command answer _ is refl
command_code answer (replies.Refused code value) is = told_code Command answer _ is refl

monitored_code : (answer : Answer) (said : Result (List ℕ) ℕ) → told_by answer ≡ monitored_told said
    → IsCodeOf Monitor answer.code
monitored_code answer (Ok reply) is = told_code Monitor answer _ is refl
monitored_code answer (Err offset) is = told_code Monitor answer _ is refl

kind_code : (near : ℕ → ℕ → Type 0) (course : Course) (task : Record) (answer : Answer) (kind : RecordKind)
    → FitsKind near course task answer kind
    → IsCodeOf kind answer.code
kind_code near course task answer Protect (inl is) = told_code Protect answer _ is.told refl
kind_code near course task answer Protect (inr (inl is)) =
    unbound_code answer (protect_reply course.begin.plan (state_in course answer.position) task.link task.octets)
    is.told
kind_code near course task answer Protect (inr (inr (inl is))) = told_code Protect answer _ is.told refl
kind_code near course task answer Protect (inr (inr (inr any))) =
    any_code near course task Protect answer (λ e. let k : Protect ≡ Monitor = e in cc) any
kind_code near course task answer Open (inl is) = open_code answer is.reply is.field is.told
kind_code near course task answer Open (inr any) =
    any_code near course task Open answer (λ e. let k : Open ≡ Monitor = e in cc) any
kind_code near course task answer Command (inl is) = command_code answer is.reply is.told
kind_code near course task answer Command (inr any) =
    any_code near course task Command answer (λ e. let k : Command ≡ Monitor = e in cc) any
kind_code near course task answer Monitor (inl is) = monitored_code answer is.said is.told
kind_code near course task answer Monitor (inr is) = told_code Monitor answer _ is.told refl

-- an answer that fits has one of the codes of its record's kind
pub fits_code : (near : ℕ → ℕ → Type 0) (course : Course) (task : Record) (answer : Answer)
    → Fits near course task answer
    → IsCodeOf task.kind answer.code
fits_code near course task answer fits = kind_code near course task answer task.kind fits

-- ---- acceptances

-- the reply accepts the number under the key
pub record IsAcceptance (reply : OpenReply) (key number : ℕ) : Type 0 where
  pub spi : ℕ
  pub from : ℕ
  pub to : ℕ
  pub is : reply ≡ opens.Accepted spi key number from to

not_code : (answer : Answer) (told : Told) (key number : ℕ) → told_by answer ≡ told → Accepts answer key number
    → nat_eq told.code 1 ≡ false → ⊥
not_code answer told key number is accepts other =
    false≢true (sym other ∙ ap (λ (t : Told). nat_eq t.code 1) (sym is) ∙ ap (λ (n : ℕ). nat_eq n 1) accepts.0)

acceptance : (answer : Answer) (reply : OpenReply) (field : List ℕ) (key number : ℕ)
    → told_by answer ≡ opened_told reply field
    → Accepts answer key number → IsAcceptance reply key number
acceptance answer (opens.Accepted spi own counted from to) field key number is accepts =
    let key_is : own ≡ key = ap (λ (t : Told). t.key) (sym is) ∙ accepts.1 in
    let number_is : counted ≡ number = ap (λ (t : Told). t.number) (sym is) ∙ accepts.2 in
    record {
      spi = spi;
      from = from;
      to = to;
      is = ap (λ (k : ℕ). opens.Accepted spi k counted from to) key_is
          ∙ ap (λ (n : ℕ). opens.Accepted spi key n from to) number_is;
    }
acceptance answer opens.Clear field key number is accepts = absurd (not_code answer _ key number is accepts refl)
acceptance answer (opens.Layout fault) field key number is accepts =
    absurd (not_code answer _ key number is accepts refl)
acceptance answer opens.Channel field key number is accepts = absurd (not_code answer _ key number is accepts refl)
acceptance answer opens.Spi field key number is accepts = absurd (not_code answer _ key number is accepts refl)
acceptance answer opens.Direction field key number is accepts = absurd (not_code answer _ key number is accepts refl)
acceptance answer (opens.State held) field key number is accepts = absurd (not_code answer _ key number is accepts refl)
acceptance answer opens.Coverage field key number is accepts = absurd (not_code answer _ key number is accepts refl)
acceptance answer opens.Mac field key number is accepts = absurd (not_code answer _ key number is accepts refl)
acceptance answer (opens.Number own counted high width) field key number is accepts =
    absurd (not_code answer _ key number is accepts refl)

-- an answer that accepts is that of an opening
opening_by : (near : ℕ → ℕ → Type 0) (course : Course) (task : Record) (answer : Answer) (kind : RecordKind)
    (key number : ℕ)
    → FitsKind near course task answer kind → Accepts answer key number → IsOpenAnswer course task answer
opening_by near course task answer Protect key number fits accepts =
    absurd (false≢true (subst (IsCodeOf Protect) accepts.0 (kind_code near course task answer Protect fits)))
opening_by near course task answer Open key number (inl is) accepts = is
opening_by near course task answer Open key number (inr (inl is)) accepts =
    absurd (not_code answer _ key number is.tells.told accepts refl)
opening_by near course task answer Open key number (inr (inr (inl is))) accepts =
    absurd (not_code answer _ key number is.tells.told accepts refl)
opening_by near course task answer Open key number (inr (inr (inr is))) accepts =
    absurd (not_code answer _ key number is.told accepts refl)
opening_by near course task answer Command key number fits accepts =
    absurd (false≢true (subst (IsCodeOf Command) accepts.0 (kind_code near course task answer Command fits)))
opening_by near course task answer Monitor key number fits accepts =
    absurd (false≢true (subst (IsCodeOf Monitor) accepts.0 (kind_code near course task answer Monitor fits)))

-- an answer that accepts is what the checks of an opening told, and no refusal of theirs
pub accepting_opening : (near : ℕ → ℕ → Type 0) (course : Course) (task : Record) (answer : Answer) (key number : ℕ)
    → Fits near course task answer → Accepts answer key number → IsOpenAnswer course task answer
accepting_opening near course task answer key number fits accepts =
    opening_by near course task answer task.kind key number fits accepts

-- the entry before its position accepts the number
pub accepts_at : (course : Course) (task : Record) (answer : Answer) (key number : ℕ) → IsOpenAnswer course task answer
    → Accepts answer key number → AcceptsAt course.entries (answer.position - 1) key number
accepts_at course task answer key number is accepts =
    let acceptance_is = acceptance answer is.reply is.field key number is.told accepts in
    record {
      entry = frame_entry course.begin.plan (state_before course answer) task.index is.reply;
      there = is.stands.there;
      spi = acceptance_is.spi;
      floor = raised_floor course.begin.plan (state_before course answer) key number;
      change_is = ap (λ (r : OpenReply).
          (frame_entry course.begin.plan (state_before course answer) task.index r).change) acceptance_is.is;
    }

-- two records' acceptances stand at two places
apart : (course : Course) (one other : Record) (a b : Answer) → one.index ≢ other.index → IsOpenAnswer course one a
    → IsOpenAnswer course other b
    → a.position - 1 ≢ b.position - 1
apart course one other a b differ is_one is_other same =
    let entries : Some (frame_entry course.begin.plan (state_before course a) one.index is_one.reply)
    ≡ Some (frame_entry course.begin.plan (state_before course b) other.index is_other.reply) =
    sym is_one.stands.there ∙ ap (λ (k : ℕ). slice_get course.entries k) same ∙ is_other.stands.there in
    let index : Some one.index ≡ Some other.index = ap (λ (e : Entry). e.index) (same_Some _ _ entries) in
    differ (same_Some one.index other.index index)

-- the answers to two records accept no number under one key
pub answers_once : (near : ℕ → ℕ → Type 0) (course : Course) (places : List Place) (one other : Record) (a b : Answer)
    (key number : ℕ)
    → IsLegalHistory course.begin.plan course.begin.start places course.entries → one.index ≢ other.index
    → Fits near course one a → Fits near course other b → Accepts a key number → Accepts b key number → ⊥
answers_once near course places one other a b key number history differ fits_one fits_other accepts_one accepts_other =
    let is_one = accepting_opening near course one a key number fits_one accepts_one in
    let is_other = accepting_opening near course other b key number fits_other accepts_other in
    let at_one = accepts_at course one a key number is_one accepts_one in
    let at_other = accepts_at course other b key number is_other accepts_other in
    let of = of_places course.begin.plan course.begin.start places course.entries history in
    ⊎_elim
    (λ (same : a.position - 1 ≡ b.position - 1). apart course one other a b differ is_one is_other same)
    (λ (distinct : a.position - 1 ≢ b.position - 1). ⊎_elim
    (λ (less : a.position - 1 < b.position - 1).
    accepted_twice course.begin.plan course.begin.start (records_of places) (TurnIn places) course.entries of
    (a.position - 1) (b.position - 1) key number less at_one at_other)
    (λ (more : b.position - 1 < a.position - 1).
    accepted_twice course.begin.plan course.begin.start (records_of places) (TurnIn places) course.entries of
    (b.position - 1) (a.position - 1) key number more at_other at_one)
    (let sides : (a.position - 1 < b.position - 1) ⊎ (b.position - 1 < a.position - 1) =
    ⊎_elim (λ x. inl x) (λ x. inr (omega arith)) (cases_lt (a.position - 1) (b.position - 1)) in sides))
    (cases_eq (a.position - 1) (b.position - 1))
