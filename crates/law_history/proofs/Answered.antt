-- What the answer to a command that used a number says of the history.
use Rattle.std.proofs.Common.{◌≡◌, ◌≢◌, ℕ, ◌-◌, ◌<◌, false, nat_eq, List, Option, Some, None, inl, inr, ⊎_elim, refl}
use Rattle.std.proofs.Common.{sym, ap, ◌∙◌, subst}
use Rattle.std.proofs.lemmas.Bool.{false≢true}
use Rattle.std.proofs.lemmas.Option.{none-some, same_Some}
use Rattle.sdls_base.specs.declared.entry.Entry.{Entry}
use Rattle.unit_state.specs.declared.state.State.{State}
use Rattle.ep_core.specs.declared.refusal.Reply.{Reply}
use Rattle.ep_core.specs.declared.refusal.Reply.TheVariants as replies
use Rattle.record_io.specs.declared.answers.Answer.{Answer}
use Rattle.record_io.specs.declared.reader.RecordKind.{RecordKind}
use Rattle.record_io.specs.declared.reader.RecordKind.TheVariants.{Open, Command}
use Rattle.record_io.specs.declared.item_cursor.Record.{Record}
use Rattle.record_io.specs.Places.{Place, records_of}
use Rattle.run_promise.specs.History.{record_entry, SeesFor, NearWord, IsLegalHistory}
use Rattle.run_promise.specs.Numbers.{mark_of}
use Rattle.law_history.specs.Entries.{IsEntry, IsOneOf}
use Rattle.run_promise.specs.Answers.{Told, told_by, replied_told, IsCodeOf, Uses}
use Rattle.run_promise.specs.Fits.{Course, state_before, IsCommandAnswer, FitsKind, Fits}
use Rattle.law_history.proofs.Along.{is_entry}
use Rattle.law_history.proofs.Codes.{fits_code}
use Rattle.law_history.proofs.Marks.{release_entry}
use Rattle.law_history.proofs.Used.{UsesNumber, used_below}

-- ---- the entry of a record is the one of its kind

seen_by : (near : ℕ → ℕ → Type 0) (course : Course) (places : List Place) (state : State) (task : Record)
    (entry : Entry) → IsOneOf places task
    → task.kind ≡ Command → entry.index ≡ Some task.index
    → IsEntry near course.begin.plan state (records_of places) entry → SeesFor state task.octets entry.seen
seen_by near course places state task entry served kind index (inl (inl opening)) =
    let own : Some opening.task.index ≡ Some task.index = sym (ap (λ (e : Entry). e.index) opening.entry_is) ∙ index in
    let same : opening.task ≡ task =
    served.only opening.task opening.there (same_Some opening.task.index task.index own) in
    absurd (let kinds : Open ≡ Command = sym opening.kind_is ∙ ap (λ (r : Record). r.kind) same ∙ kind in cc)
seen_by near course places state task entry served kind index (inl (inr (inl procedure))) =
    let same : procedure.task ≡ task =
    served.only procedure.task procedure.there
    (same_Some procedure.task.index task.index (sym procedure.index_is ∙ index)) in
    subst (λ (r : Record). SeesFor state r.octets entry.seen) same procedure.sees
seen_by near course places state task entry served kind index (inl (inr (inr reserve))) =
    absurd (none-some task.index (sym (ap (λ (e : Entry). e.index) reserve.entry_is) ∙ index))
seen_by near course places state task entry served kind index (inr release) =
    absurd (none-some task.index (sym (release_entry state release.word release.held entry release.releases).index_is
    ∙ index))

-- ---- the reply that an answer tells

used_key : (answer : Answer) (own : Option ℕ) (counted : ℕ) (pdu : List ℕ) (key number : ℕ)
    → told_by answer ≡ replied_told (replies.Done own counted pdu)
    → answer.key ≢ 0 → answer.key ≡ key → answer.number ≡ number → UsesNumber (replies.Done own counted pdu) key number
used_key answer None counted pdu key number told some key_is number_is = absurd (some (ap (λ (t : Told). t.key) told))
used_key answer (Some own) counted pdu key number told some key_is number_is =
    let same_key : own ≡ key = sym (ap (λ (t : Told). t.key) told) ∙ key_is in
    let same_number : counted ≡ number = sym (ap (λ (t : Told). t.number) told) ∙ number_is in
    record {
      pdu = pdu;
      is = ap (λ (k : ℕ). replies.Done (Some k) counted pdu) same_key
          ∙ ap (λ (n : ℕ). replies.Done (Some key) n pdu) same_number;
    }

other_code : (answer : Answer) (told : Told) → told_by answer ≡ told → answer.code ≡ 3 → nat_eq told.code 3 ≡ false → ⊥
other_code answer told is code other =
    false≢true (sym other ∙ ap (λ (t : Told). nat_eq t.code 3) (sym is) ∙ ap (λ (n : ℕ). nat_eq n 3) code)

used_reply : (answer : Answer) (reply : Reply) (key number : ℕ) → told_by answer ≡ replied_told reply → answer.code ≡ 3
    → answer.key ≢ 0
    → answer.key ≡ key → answer.number ≡ number → UsesNumber reply key number
used_reply answer (replies.Done own counted pdu) key number told code some key_is number_is =
    used_key answer own counted pdu key number told some key_is number_is
used_reply answer (replies.Refused refused value) key number told code some key_is number_is =
    absurd (other_code answer _ told code refl)

-- ---- a command that used a number

command_by : (near : ℕ → ℕ → Type 0) (course : Course) (task : Record) (answer : Answer)
    → FitsKind near course task answer Command → answer.code ≡ 3
    → IsCommandAnswer course task answer
command_by near course task answer (inl is) code = is
command_by near course task answer (inr (inl is)) code = absurd (other_code answer _ is.tells.told code refl)
command_by near course task answer (inr (inr (inl is))) code = absurd (other_code answer _ is.tells.told code refl)
command_by near course task answer (inr (inr (inr is))) code = absurd (other_code answer _ is.told code refl)

done_code : (near : ℕ → ℕ → Type 0) (course : Course) (task : Record) (answer : Answer) (key number : ℕ)
    → task.kind ≡ Command
    → Fits near course task answer → Uses answer key number → (answer.code ≡ 3) × (answer.key ≢ 0)
done_code near course task answer key number kind fits uses =
    ⊎_elim
    (λ (protected : answer.code ≡ 0).
    absurd (false≢true (subst (λ (n : ℕ). IsCodeOf Command n) protected
    (subst (λ (k : RecordKind). IsCodeOf k answer.code) kind (fits_code near course task answer fits)))))
    (λ (done : (answer.code ≡ 3) × (answer.key ≢ 0)). done)
    uses.0

-- the number that the answer says was used is below the mark of its key, before the command's entry
pub answered_below : (near : ℕ → ℕ → Type 0) (course : Course) (places : List Place) (task : Record) (answer : Answer)
    (key number : ℕ)
    → IsLegalHistory course.begin.plan course.begin.start places course.entries → IsOneOf places task
    → task.kind ≡ Command → Fits near course task answer
    → Uses answer key number → number < mark_of (state_before course answer) key
answered_below near course places task answer key number history served kind fits uses =
    let done = done_code near course task answer key number kind fits uses in
    let is = command_by near course task answer
    (subst (λ (k : RecordKind). FitsKind near course task answer k) kind fits) done.0 in
    let entry : Entry = record_entry task.index is.seen is.change in
    let state : State = state_before course answer in
    let sees : SeesFor state task.octets is.seen =
    seen_by (NearWord course.begin.start course.entries (records_of places)) course places state task entry served kind
    refl
    (is_entry course.begin.plan course.begin.start (records_of places) _ course.entries history.run
    (answer.position - 1) entry is.stands.there) in
    used_below state task.octets is.seen (is.change, is.reply) key number sees is.step
    (used_reply answer is.reply key number is.told done.0 done.1 uses.1 uses.2)
