-- What holds of a book after its calls.
use Rattle.std.proofs.Common.{◌≡◌, ℕ, ◌+◌, ◌<◌, ◌≤◌, ◌⊎◌, Bool, IsTrue, true, false, if◌then◌else◌, List, [], ◌∷◌, ◌++◌}
use Rattle.std.proofs.Common.{length, take, Ok, Err, sym, ◌∙◌, ap, subst, inl, inr, arith, length-append}
use Rattle.std.proofs.lemmas.List.{take_all, take-append-le}
use Rattle.sdls_base.specs.declared.entry.Change.{Change}
use Rattle.sdls_base.specs.declared.entry.Entry.{Entry}
use Rattle.sdls_base.specs.declared.entry.Logged.{Logged}
use Rattle.sdls_base.specs.declared.entry.Logged.TheVariants as logged
use Rattle.sdls_outside.specs.Faults.{Rose}
use Rattle.sdls_outside.specs.Moments.{EachMoment, Trace}
use Rattle.sdls_outside.specs.Site.{Sank}
use Rattle.unit_image.specs.Image.{Becomes, EachImage, Held, held, IsSettled, JournalView, KeepsBeside}
use Rattle.unit_state.specs.declared.state.State.{State}
use Rattle.unit_state.specs.Applied.{applied}
use Rattle.unit_state.specs.Allows.{Allows}
use Rattle.unit_state.specs.Restart.{restarted, counts}
use Rattle.unit_state.specs.History.{after_all, after_first, epoch_after}
use Rattle.unit_state.proofs.RulesKept.{rules_kept}
use Rattle.unit_image.specs.Shows.{SaysState}
use Rattle.unit_image.specs.Storing.{KeepsPlaces, LeavesRest, LeavesRestImage, Stores}
use Rattle.unit_image.specs.declared.storing.SiteFault.{SiteFault}
use Rattle.unit_image.proofs.Outside.{beside_then}
use Rattle.run_promise.specs.Call.{SiteSeen}
use Rattle.run_promise.specs.declared.end.TheConstants.{MOST_ENTRIES}
use Rattle.run_promise.specs.Log.{entries_of}
use Rattle.run_promise.specs.Sound.{HasPlan}
use Rattle.unit_book.specs.Log.{sunk_between}
use Rattle.unit_book.specs.Marks.{is_release, HasNoRelease, KeepsMarks}
use Rattle.unit_book.specs.Book.{BookView, IsKept, CanEnter, Enters, IsAsOpened, LeavesStateAlone, entered, left_out}
use Rattle.unit_book.specs.Book.{with_put}
use Rattle.unit_book.proofs.MarksKept.{no_release_last, marks_then}
use Rattle.unit_book.proofs.PlanStays.{plan_put, plan_stored}
use Rattle.unit_book.proofs.Growing.{after_entry, first_same, first_all, says_held}
use Rattle.unit_book.proofs.Serving.{piece_entries, entry_entries, puts_history, piece_current, NextEntry}
use Rattle.unit_book.proofs.Serving.{failed_history, stored_history}

-- a count that rose since a later time rose since an earlier one
pub rose_earlier : (before mid now : ℕ) → before ≤ mid → Rose mid now → Rose before now
rose_earlier before mid now low rose = omega arith

pub not_rose_earlier : (before mid now : ℕ) → mid ≤ now → ¬ Rose before now → ¬ Rose before mid
not_rose_earlier before mid now low not rose = not (omega arith)

epoch_more : (entries : List Entry) (entry : Entry)
    → epoch_after (entries ++ entry ∷ []) ≡ epoch_after entries + (if counts entry.change then 1 else 0)
epoch_more [] entry = let sum : (if counts entry.change then 1 else 0) + 0
    ≡ 0 + (if counts entry.change then 1 else 0) = omega arith in sum
epoch_more (first ∷ entries) entry =
    let rest : epoch_after (entries ++ entry ∷ []) ≡ epoch_after entries + (if counts entry.change then 1 else 0) =
    epoch_more entries entry in
    omega arith

-- a put leaves the image as it is
put_image : (octets : List ℕ) (old new : Trace) → (new ≡ old) ⊎ Sank octets old new → new.now.image ≡ old.now.image
put_image octets old new (inl same) = ap (λ (trace : Trace). trace.now.image) same
put_image octets old new (inr sank) = sank.image

-- a store leaves what stands outside the banks, and the plan
outside_stored : {T E : Type 0} (read opened : List ℕ) (state : State) (change : Change) (value : T)
    (before after : JournalView) (old new : Trace) → KeepsPlaces before after
    → KeepsBeside before.layout old.now.image new.now.image
    → Stores {T = T} {E = E} state change (Ok value) after old new
    → IsAsOpened read opened old.now.image before → IsAsOpened read opened new.now.image after
outside_stored read opened state change value before after old new places beside stores keeps = record {
  beside = beside_then before after opened old.now.image new.now.image places keeps.beside beside;
  same_plan = ap (λ (what : Held). what.plan) stores.done.1 ∙ stores.same_plan ∙ keeps.same_plan;
}

-- a book after a put
pub kept_put : (told : Bool) (octets : List ℕ) (old : BookView) (site : SiteSeen)
    → old.site.faults ≤ site.faults
    → (IsTrue told → (site.trace ≡ old.site.trace) ⊎ Sank octets old.site.trace site.trace)
    → IsKept told old
    → IsKept told (with_put (sunk_between old.site.trace site.trace) (record old { site = site }))
kept_put told octets old site low puts kept =
    let piece : List ℕ = sunk_between old.site.trace site.trace in
    let same : entries_of (old.log ++ logged.Piece piece ∷ []) ≡ entries_of old.log = piece_entries old.log piece in
    let earlier : old.opened.faults ≤ old.site.faults = kept.later in
    record {
      later = omega arith;
      stands = subst (λ (entries : List Entry). old.standing ≤ length entries) (sym same) kept.stands;
      few_left = subst (λ (entries : List Entry). length entries ≤ old.standing + 1) (sym same) kept.few_left;
      led = subst (λ (entries : List Entry). old.state ≡ after_first old.start entries old.standing)
          (sym same) kept.led;
      begins = kept.begins;
      rules = kept.rules;
      marks = subst (λ (entries : List Entry). HasNoRelease entries → KeepsMarks old.start old.state)
          (sym same) kept.marks;
      room = subst (λ (entries : List Entry). length entries ≤ MOST_ENTRIES) (sym same) kept.room;
      epoch = subst (λ (entries : List Entry). old.changes ≡ epoch_after (take old.standing entries))
          (sym same) kept.epoch;
      whole = λ not. subst (λ (entries : List Entry). old.standing ≡ length entries) (sym same)
          (kept.whole (not_rose_earlier old.opened.faults old.site.faults site.faults low not));
      history = λ is_told. puts_history octets old.opened.trace old.site.trace site.trace old.start old.log old.standing
          kept.stands (puts is_told) (kept.history is_told);
      current = λ is_told not. piece_current octets old.site.trace site.trace old.start old.journal old.log piece
          (puts is_told) (kept.current is_told
          (not_rose_earlier old.opened.faults old.site.faults site.faults low not));
      plan_stays = λ is_told. plan_put octets old.opened.trace old.site.trace site.trace (held old.image).plan
          (puts is_told) (kept.plan_stays is_told);
      outside = λ is_told not.
          subst (λ (image : List ℕ). IsAsOpened old.image old.opened.trace.now.image image old.journal)
          (sym (put_image octets old.site.trace site.trace (puts is_told)))
          (kept.outside is_told (not_rose_earlier old.opened.faults old.site.faults site.faults low not));
    }

-- what is known when an entry is to be made
pub record Ready (told : Bool) (old : BookView) (entry : Entry) : Type 0 where
  pub kept : IsKept told old
  pub can : CanEnter old
  pub allows : Allows old.state entry.change
  pub keeps : is_release entry ≡ false → KeepsMarks old.state (applied old.state entry.change)

module _ (told : Bool) (old : BookView) (entry : Entry)
    (r : Ready told old entry) where
  pub all_stand : old.standing ≡ length (entries_of old.log)
  all_stand = r.kept.whole r.can.0

  pub state_is : old.state ≡ after_all old.start (entries_of old.log)
  state_is =
      let whole : old.standing ≡ length (entries_of old.log) = all_stand in
      r.kept.led ∙ first_all old.start (entries_of old.log) old.standing (omega arith)

  more : entries_of (old.log ++ logged.Entry entry ∷ []) ≡ entries_of old.log ++ entry ∷ []
  more = entry_entries old.log entry

  size : length (entries_of (old.log ++ logged.Entry entry ∷ [])) ≡ length (entries_of old.log) + 1
  size = ap (λ (entries : List Entry). length entries) more ∙ length-append (entries_of old.log) (entry ∷ [])

  led : applied old.state entry.change ≡ after_first old.start (entries_of (old.log ++ logged.Entry entry ∷ []))
      (old.standing + 1)
  led =
      let whole : old.standing ≡ length (entries_of old.log) = all_stand in
      let longer : length (entries_of (old.log ++ logged.Entry entry ∷ [])) ≡ length (entries_of old.log) + 1 = size in
      ap (λ (s : State). applied s entry.change) state_is
      ∙ sym (after_entry old.start (entries_of old.log) entry)
      ∙ ap (after_all old.start) (sym more)
      ∙ sym (first_all old.start (entries_of (old.log ++ logged.Entry entry ∷ [])) (old.standing + 1) (omega arith))

  epoch : old.changes + (if counts entry.change then 1 else 0)
      ≡ epoch_after (take (old.standing + 1) (entries_of (old.log ++ logged.Entry entry ∷ [])))
  epoch =
      let whole : old.standing ≡ length (entries_of old.log) = all_stand in
      let longer : length (entries_of (old.log ++ logged.Entry entry ∷ [])) ≡ length (entries_of old.log) + 1 = size in
      let before : old.changes ≡ epoch_after (entries_of old.log) =
      r.kept.epoch ∙ ap epoch_after (take_all old.standing (entries_of old.log) (omega arith)) in
      ap (λ (n : ℕ). n + (if counts entry.change then 1 else 0)) before
      ∙ sym (epoch_more (entries_of old.log) entry)
      ∙ ap epoch_after (sym (take_all (old.standing + 1) (entries_of (old.log ++ logged.Entry entry ∷ [])) (omega arith)
      ∙ more))

  marks : HasNoRelease (entries_of (old.log ++ logged.Entry entry ∷ []))
      → KeepsMarks old.start (applied old.state entry.change)
  marks none =
      let parts : HasNoRelease (entries_of old.log) × (is_release entry ≡ false) =
      no_release_last (entries_of old.log) entry (subst HasNoRelease more none) in
      marks_then old.start old.state (applied old.state entry.change) (r.kept.marks parts.0) (r.keeps parts.1)

  -- the next says the state after the entry
  next_entry : (next : Held) → (SaysState (held old.site.trace.now.image) (restarted old.state)
      → SaysState next (restarted (applied old.state entry.change)))
      → IsTrue told → NextEntry old.start old.log entry old.site.trace.now.image next
  next_entry next leads is_told =
      let says : SaysState (held old.site.trace.now.image) (restarted (after_all old.start (entries_of old.log))) =
      says_held old.site.trace.now.image (restarted (after_all old.start (entries_of old.log)))
      (r.kept.current is_told r.can.0).shows in
      record {
        says = says;
        then = subst (λ (s : State). SaysState next (restarted s))
            (ap (λ (s : State). applied s entry.change) state_is
            ∙ sym (after_entry old.start (entries_of old.log) entry))
            (leads (subst (λ (s : State). SaysState (held old.site.trace.now.image) (restarted s))
            (sym state_is) says));
      }

  -- the plan stays while the entry is stored
  plan_on : (new : Trace) (next : Held) → IsTrue told → next.plan ≡ (held old.site.trace.now.image).plan
      → EachImage old.site.trace new (Becomes (held old.site.trace.now.image) next)
      → EachMoment old.opened.trace new (λ image sunk. HasPlan (held old.image).plan image)
  plan_on new next is_told same stores =
      plan_stored old.opened.trace old.site.trace new (held old.image).plan next
      (r.kept.outside is_told r.can.0).same_plan same stores (r.kept.plan_stays is_told)

  -- the book, once the entry is stored, or where nothing is stored for it
  pub kept_stored : (site : SiteSeen) (journal : JournalView) → old.site.faults ≤ site.faults
      → (IsTrue told → Stores {T = Unit {0}} {E = SiteFault} old.state entry.change (Ok tt) journal old.site.trace
      site.trace)
      → (IsTrue told → KeepsBeside old.journal.layout old.site.trace.now.image site.trace.now.image)
      → KeepsPlaces old.journal journal
      → IsKept told (entered entry (record old { site = site; journal = journal }))
  kept_stored site journal low stores beside places =
      let whole : old.standing ≡ length (entries_of old.log) = all_stand in
      let longer : length (entries_of (old.log ++ logged.Entry entry ∷ [])) ≡ length (entries_of old.log) + 1 = size in
      let below : length (entries_of old.log) < MOST_ENTRIES = r.can.1 in
      let earlier : old.opened.faults ≤ old.site.faults = r.kept.later in
      record {
        later = omega arith;
        stands = omega arith;
        few_left = omega arith;
        led = led;
        begins = r.kept.begins;
        rules = rules_kept old.state entry.change r.kept.rules r.allows;
        marks = marks;
        room = omega arith;
        epoch = epoch;
        whole = λ not. omega arith;
        history = λ is_told.
            let s = stores is_told in
            stored_history old.opened.trace old.site.trace site.trace old.start journal old.log entry old.standing
            s.next
            (next_entry s.next s.says is_told) (r.kept.history is_told) whole s.moments s.done.0 s.done.1;
        current = λ is_told not.
            let s = stores is_told in
            record {
              settled = s.done.0;
              shows = record {
                what = s.next;
                holds = record { opens = s.done.0.of_image.closed.of_image.opens; is = s.done.1 };
                says = subst (λ (entries : List Entry). SaysState s.next (restarted (after_all old.start entries)))
                    (sym more)
                    (next_entry s.next s.says is_told).then;
              };
            };
        plan_stays = λ is_told. plan_on site.trace (stores is_told).next is_told (stores is_told).same_plan
            (stores is_told).moments;
        outside = λ is_told not. outside_stored {T = Unit {0}} {E = SiteFault} old.image
            old.opened.trace.now.image old.state entry.change tt old.journal journal old.site.trace site.trace places
            (beside is_told) (stores is_told) (r.kept.outside is_told r.can.0);
      }

  -- after a store that leaves each octet of all banks stated
  pub alone_stored : ((opened : List ℕ) (now : Trace) (journal : JournalView) (state : State) → IsSettled now journal
      → KeepsBeside journal.layout opened now.now.image → LeavesRest now journal state
      → LeavesRestImage opened now journal state)
      → (site : SiteSeen) (journal : JournalView) → IsTrue told
      → Stores {T = Unit {0}} {E = SiteFault} old.state entry.change (Ok tt) journal old.site.trace site.trace
      → KeepsBeside old.journal.layout old.site.trace.now.image site.trace.now.image
      → KeepsPlaces old.journal journal → LeavesRest site.trace journal (applied old.state entry.change)
      → LeavesStateAlone (entered entry (record old { site = site; journal = journal }))
  alone_stored whole site journal is_told stores beside places rest = record {
    banks = rest;
    whole = whole old.opened.trace.now.image site.trace journal (applied old.state entry.change) stores.done.0
        (outside_stored {T = Unit {0}} {E = SiteFault} old.image old.opened.trace.now.image old.state entry.change tt
        old.journal journal old.site.trace site.trace places beside stores (r.kept.outside is_told r.can.0)).beside
        rest;
  }

  -- the book, once the store has failed
  pub kept_failed : (site : SiteSeen) (fault : SiteFault) (journal : JournalView) → Rose old.site.faults site.faults
      → old.site.faults ≤ site.faults
      → (IsTrue told → Stores {T = Unit {0}} old.state entry.change (Err fault) journal old.site.trace site.trace)
      → IsKept told (left_out entry (record old { site = site }))
  kept_failed site fault journal rose low stores =
      let whole : old.standing ≡ length (entries_of old.log) = all_stand in
      let longer : length (entries_of (old.log ++ logged.Entry entry ∷ [])) ≡ length (entries_of old.log) + 1 = size in
      let below : length (entries_of old.log) < MOST_ENTRIES = r.can.1 in
      let earlier : old.opened.faults ≤ old.site.faults = r.kept.later in
      let risen : Rose old.opened.faults site.faults =
      rose_earlier old.opened.faults old.site.faults site.faults r.kept.later rose in
      record {
        later = omega arith;
        stands = omega arith;
        few_left = omega arith;
        led = r.kept.led ∙ sym (first_same old.start (entries_of old.log) (entry ∷ []) old.standing (omega arith))
            ∙ ap (λ (entries : List Entry). after_first old.start entries old.standing) (sym more);
        begins = r.kept.begins;
        rules = r.kept.rules;
        marks = λ none. r.kept.marks (no_release_last (entries_of old.log) entry (subst HasNoRelease more none)).0;
        room = omega arith;
        epoch = r.kept.epoch ∙ ap epoch_after
            (sym (take-append-le old.standing (entries_of old.log) (entry ∷ []) (omega arith))
            ∙ ap (take old.standing) (sym more));
        whole = λ not. absurd (not risen);
        history = λ is_told.
            let s = stores is_told in
            failed_history old.opened.trace old.site.trace site.trace old.start old.log entry old.standing s.next
            (next_entry s.next s.says is_told) (r.kept.history is_told) whole s.moments;
        current = λ is_told not. absurd (not risen);
        plan_stays = λ is_told. plan_on site.trace (stores is_told).next is_told (stores is_told).same_plan
            (stores is_told).moments;
        outside = λ is_told not. absurd (not risen);
      }

  -- and so the entry is made
  pub enters : (new : BookView) (site : SiteSeen) (journal : JournalView) (position : ℕ)
      → new ≡ entered entry (record old { site = site; journal = journal }) → position ≡ length (entries_of new.log)
      → Enters entry old new position
  enters new site journal position is position_is = record {
    site = site;
    journal = journal;
    is = is;
    position_is = position_is;
  }

pub one_at_most : (b : Bool) → (if b then 1 else 0) ≤ 1
one_at_most true = omega arith
one_at_most false = omega arith

pub entries_pushed : (items pushed : List Entry) (log lines : List Logged) (entry : Entry) → items ≡ entries_of log
    → pushed ≡ items ++ entry ∷ [] → lines ≡ log ++ logged.Entry entry ∷ [] → pushed ≡ entries_of lines
entries_pushed items pushed log lines entry same push is =
    push ∙ ap (λ (es : List Entry). es ++ entry ∷ []) same ∙ sym (entry_entries log entry) ∙ ap entries_of (sym is)

pub entries_put : (items : List Entry) (log lines : List Logged) (piece : List ℕ) → items ≡ entries_of log
    → lines ≡ log ++ logged.Piece piece ∷ [] → items ≡ entries_of lines
entries_put items log lines piece same is = same ∙ sym (piece_entries log piece) ∙ ap entries_of (sym is)

-- what was known of the old book, as its fields show it
pub ready_of : (told : Bool) (old shown : BookView) (entry : Entry) → shown ≡ old
    → Ready told old entry → Ready told shown entry
ready_of told old shown entry same ready = subst (λ (b : BookView). Ready told b entry) (sym same) ready

-- a book with these parts, once octets were put
pub kept_put_shown : (told : Bool) (octets : List ℕ) (old shown : BookView) (site : SiteSeen) (before : Trace)
    (log : List Logged) → shown ≡ old
    → before ≡ shown.site.trace → log ≡ shown.log ++ logged.Piece (sunk_between before site.trace) ∷ []
    → shown.site.faults ≤ site.faults
    → (IsTrue told → (site.trace ≡ shown.site.trace) ⊎ Sank octets shown.site.trace site.trace)
    → IsKept told old → IsKept told (record shown { site = site; log = log })
kept_put_shown told octets old shown site before log same before_is log_is low puts kept =
    subst (IsKept told) (sym
    (ap (λ (l : List Logged). record shown { site = site; log = l }) log_is
    ∙ ap (λ (t : Trace). with_put (sunk_between t site.trace) (record shown { site = site })) before_is))
    (kept_put told octets shown site low puts (subst (IsKept told) (sym same) kept))

-- a book with these parts, once a store has failed
pub kept_left_out : (told : Bool) (old shown new : BookView) (site : SiteSeen) (other : JournalView) (entry : Entry)
    → shown ≡ old → other ≡ shown.journal → new ≡ left_out entry (record shown { site = site; journal = other })
    → IsKept told (left_out entry (record shown { site = site })) → IsKept told new
kept_left_out told old shown new site other entry same unchanged made kept =
    subst (IsKept told) (sym (made ∙ ap
    (λ (j : JournalView). left_out entry (record shown { site = site; journal = j })) unchanged)) kept

-- the book with these parts leaves the entry out
pub left_out_is : (old shown new : BookView) (site : SiteSeen) (other : JournalView) (entry : Entry) → shown ≡ old
    → other ≡ shown.journal
    → new ≡ left_out entry (record shown { site = site; journal = other })
    → new ≡ left_out entry (record old { site = new.site })
left_out_is old shown new site other entry same unchanged made =
    made ∙ ap (λ (j : JournalView). left_out entry (record shown { site = site; journal = j })) unchanged
    ∙ ap (λ (b : BookView). left_out entry (record b { site = site })) same
    ∙ ap (λ (s : SiteSeen). left_out entry (record old { site = s })) (sym (ap (λ (b : BookView). b.site) made))
