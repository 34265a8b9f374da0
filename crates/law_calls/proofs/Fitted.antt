-- When an answer of a call fits its record, by what the run's history was then.
use Rattle.std.proofs.Common.{◌≡◌, ◌≢◌, ◌⊎◌, ℕ, ◌+◌, ◌-◌, ◌≤◌, List, [], ◌∷◌, ◌++◌, length, Some, None, length-append}
use Rattle.std.proofs.Common.{refl, sym, ◌∙◌, ap, subst, arith, inl, inr}
use Rattle.std.specs.List.{slice_get}
use Rattle.std.proofs.lemmas.List.{take-append-le, take_all}
use Rattle.sdls_base.specs.declared.entry.Change.{Change}
use Rattle.sdls_base.specs.declared.entry.Entry.{Entry}
use Rattle.sdls_base.specs.declared.entry.Seen.{Seen}
use Rattle.sdls_outside.specs.Faults.{Rose}
use Rattle.unit_state.specs.declared.state.State.{State}
use Rattle.unit_state.specs.History.{after_all, after_first}
use Rattle.frame_checks.specs.declared.opening_frames.OpenReply.{OpenReply}
use Rattle.frame_checks.specs.OpeningFrames.{IsOpenReply}
use Rattle.ep_core.specs.declared.refusal.Reply.{Reply}
use Rattle.record_io.specs.declared.item_cursor.Record.{Record}
use Rattle.record_io.specs.declared.answers.Answer.{Answer}
use Rattle.record_io.specs.declared.reader.RecordKind.{RecordKind}
use Rattle.record_io.specs.declared.reader.RecordKind.TheVariants.{Protect, Open, Command, Monitor}
use Rattle.record_io.specs.declared.code.TheConstants.{SITE_FAULT, STOPPED}
use Rattle.run_promise.specs.Answers.{counting, opened_told, replied_told}
use Rattle.run_promise.specs.History.{frame_entry, record_entry, IsStepOf}
use Rattle.run_promise.specs.Fits.{Course, Fits, FitsAny, FitsKind, MayAppendOnce, TellsRisenCount, IsWanting}
use Rattle.run_promise.specs.Fits.{state_after}
use Rattle.law_calls.specs.Answering.{answer_of, unserved_answer}

pub after_front : (start : State) (es rest : List Entry) → after_first start (es ++ rest) (length es)
    ≡ after_all start es
after_front start es rest =
    ap (after_all start) (take-append-le (length es) es rest (omega arith) ∙ take_all (length es) es (omega arith))

behind : (es : List Entry) (e : Entry) → slice_get (es ++ e ∷ []) (length es) ≡ Some e
behind [] e = refl
behind (x ∷ es) e = behind es e

module _ (near : ℕ → ℕ → Type 0) (course : Course) (task : Record) where
  by_any : (kind : RecordKind) (answer : Answer) → kind ≢ Monitor → FitsAny near course task answer
      → FitsKind near course task answer kind
  by_any Protect answer plain any = inr (inr (inr any))
  by_any Open answer plain any = inr any
  by_any Command answer plain any = inr any
  by_any Monitor answer plain any = absurd (plain refl)

  pub fits_any : (answer : Answer) → task.kind ≢ Monitor → FitsAny near course task answer
      → Fits near course task answer
  fits_any answer plain any = by_any task.kind answer plain any

  -- memory may run out for a record of any kind
  by_wanting : (kind : RecordKind) (answer : Answer) → IsWanting answer → FitsKind near course task answer kind
  by_wanting Protect answer wants = inr (inr (inr (inr (inr wants))))
  by_wanting Open answer wants = inr (inr (inr wants))
  by_wanting Command answer wants = inr (inr (inr wants))
  by_wanting Monitor answer wants = inr wants

  -- the entry that the answer tells is the last
  module _ (front : List Entry) (state : State) (entry : Entry) (position : ℕ)
      (entries : course.entries ≡ front ++ entry ∷ [])
      (state_is : state ≡ after_all course.begin.start front) (position_is : position ≡ length front + 1) where
    before : position - 1 ≡ length front
    before = omega arith

    pub before_is : state_after course (position - 1) ≡ state
    before_is =
        ap (λ (p : ℕ). after_first course.begin.start course.entries p) before
        ∙ ap (λ (es : List Entry). after_first course.begin.start es (length front)) entries
        ∙ after_front course.begin.start front (entry ∷ []) ∙ sym state_is

    pub there : slice_get course.entries (position - 1) ≡ Some entry
    there = ap (slice_get course.entries) before ∙ ap (λ (es : List Entry). slice_get es (length front)) entries
        ∙ behind front entry

    pub opened_fits : task.kind ≡ Open → (reply : OpenReply) (field : List ℕ)
        → IsOpenReply course.begin.plan state task.link task.octets reply field
        → entry ≡ frame_entry course.begin.plan state task.index reply
        → Fits near course task (answer_of (opened_told reply field) position)
    opened_fits kind reply field replies entry_is =
        subst (λ (k : RecordKind). FitsKind near course task (answer_of (opened_told reply field) position) k)
        (sym kind) (inl (record {
          reply = reply;
          field = field;
          replies = subst (λ (s : State). IsOpenReply course.begin.plan s task.link task.octets reply field)
              (sym before_is) replies;
          stands = record {
            least = omega arith;
            there = there ∙ ap (λ (e : Entry). Some e)
                (entry_is ∙ ap (λ (s : State). frame_entry course.begin.plan s task.index reply) (sym before_is));
          };
          told = refl;
        }))

    pub commanded_fits : task.kind ≡ Command → (seen : Seen) (change : Change) (reply : Reply)
        → IsStepOf state task.octets seen (change, reply)
        → entry ≡ record_entry task.index seen change → Fits near course task (answer_of (replied_told reply) position)
    commanded_fits kind seen change reply step entry_is =
        subst (λ (k : RecordKind). FitsKind near course task (answer_of (replied_told reply) position) k) (sym kind)
        (inl (record {
          seen = seen;
          change = change;
          reply = reply;
          step = subst (λ (s : State). IsStepOf s task.octets seen (change, reply)) (sym before_is) step;
          stands = record { least = omega arith; there = there ∙ ap (λ (e : Entry). Some e) entry_is };
          told = refl;
        }))

  pub wanting_fits : Fits near course task unserved_answer
  wanting_fits = by_wanting task.kind unserved_answer (record { told = refl; position_is = refl })

  tells : (code count position : ℕ) → position ≡ length course.entries → Rose course.faults_before count
      → count ≤ course.faults
      → TellsRisenCount course code (answer_of (counting code 0 count) position)
  tells code count position is rose low = record { told = refl; rose = rose; counted = low; position_is = is }

  pub faulted_fits : task.kind ≢ Monitor → (count position : ℕ) → position ≡ length course.entries
      → Rose course.faults_before count → count ≤ course.faults
      → MayAppendOnce near course task → (front : List Entry) (entry : Entry) → course.entries ≡ front ++ entry ∷ []
      → (entry.index ≡ None) ⊎ (entry.index ≡ Some task.index)
      → Fits near course task (answer_of (counting SITE_FAULT 0 count) position)
  faulted_fits plain count position is rose low may front entry entries own =
      let size : length course.entries ≡ length front + 1 = ap length entries ∙ length-append front (entry ∷ []) in
      let before : position - 1 ≡ length front = omega arith in
      fits_any (answer_of (counting SITE_FAULT 0 count) position) plain (inl (record {
        tells = tells SITE_FAULT count position is rose low;
        may = may;
        entry = entry;
        last = record {
          least = omega arith;
          there = ap (slice_get course.entries) before ∙ ap (λ (es : List Entry). slice_get es (length front)) entries
              ∙ behind front entry;
        };
        own = own;
      }))

  pub stopped_fits : task.kind ≢ Monitor → (count position : ℕ) → position ≡ length course.entries
      → Rose course.faults_before count → count ≤ course.faults
      → (task.kind ≢ Protect) ⊎ MayAppendOnce near course task
      → Fits near course task (answer_of (counting STOPPED 0 count) position)
  stopped_fits plain count position is rose low may = fits_any (answer_of (counting STOPPED 0 count) position) plain
      (inr (inl (record { tells = tells STOPPED count position is rose low; may = may })))
