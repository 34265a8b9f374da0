-- What the statuses of a run say, from how it ends: for the laws of `laws`.
use Rattle.std.proofs.Common.{◌≡◌, ◌≢◌, ◌⊎◌, ℕ, suc, ◌+◌, ◌*◌, ◌<◌, ◌≤◌, List, [], ◌∷◌, ◌++◌, length, take, drop, Bool}
use Rattle.std.proofs.Common.{true, false, IsTrue, refl, sym, ◌∙◌, ap, subst, inl, inr, arith, cond, Some, None, Option}
use Rattle.std.proofs.Common.{nat_lt}
use Rattle.std.proofs.Common.{length-append}
use Rattle.std.specs.List.{slice_index_or}
use Rattle.std.specs.Option.{option_map_or}
use Rattle.std.proofs.lemmas.List.{length-take, length-drop}
use Rattle.sdls_base.specs.declared.TheConstants.{MOST_KEYS}
use Rattle.sdls_base.specs.declared.entry.Entry.{Entry}
use Rattle.sdls_outside.specs.Faults.{Rose}
use Rattle.record_io.specs.declared.answers.Answer.{Answer}
use Rattle.record_io.specs.declared.item_cursor.Record.{Record}
use Rattle.record_io.specs.Input.{Item, InputEnd, IsInput, Whole, MalformedAt}
use Rattle.record_io.specs.Places.{Place, places_of, records_of}
use Rattle.unit_plan.specs.PlanLines.{PlanLines}
use Rattle.unit_state.specs.declared.state.State.{State}
use Rattle.unit_state.specs.Applied.{applied}
use Rattle.unit_state.specs.History.{after_first}
use Rattle.unit_image.specs.Shows.{ShowsNone}
use Rattle.run_promise.specs.Numbers.{releases, release_at}
use Rattle.run_promise.specs.History.{drawers, draws}
use Rattle.run_promise.specs.declared.end.TheConstants.{MOST_ENTRIES}
use Rattle.run_promise.specs.declared.end.RunEnd.{RunEnd}
use Rattle.run_promise.specs.declared.end.RunEnd.TheVariants.{Ended, Malformed, SourceFault, SiteFault, NoMemory}
use Rattle.run_promise.specs.declared.end.RunEnd.TheVariants.{NoState, SessionFull, PutFailed}
use Rattle.run_promise.specs.Call.{CallSeen, ShowsAtEntry, image_at_entry}
use Rattle.run_promise.specs.Account.{Account, end_status, AreAnswered, HandledRead, due_octets, of_first, CameBy}
use Rattle.run_promise.specs.Account.{TellsEnd, IsToldFirst}
use Rattle.run_promise.specs.Answers.{SaysSiteFailed}
use Rattle.run_promise.specs.Ends.{HasRefused, RunEnds, due_releases}
use Rattle.law_runs.specs.Says.{DidAll, GoesToItsEnd, EndsWithFullHistory, IsLeftRefused, IsUnhindered}
use Rattle.law_image.proofs.Images.{ShowsOne}
use Rattle.law_runs.proofs.ByImage.{ShowsSome, refused_as, serves_from}

-- ---- which end has which status

zero_is : (end : RunEnd) → end_status end ≡ 0 → end ≡ Ended
zero_is Ended h = refl
zero_is (Malformed offset) h = absurd (omega arith)
zero_is (SourceFault count) h = absurd (omega arith)
zero_is (SiteFault count) h = absurd (omega arith)
zero_is NoMemory h = absurd (omega arith)
zero_is (NoState offset) h = absurd (omega arith)
zero_is SessionFull h = absurd (omega arith)
zero_is PutFailed h = absurd (omega arith)

three_is : (end : RunEnd) → end_status end ≡ 3 → (offset : ℕ) × (end ≡ Malformed offset)
three_is Ended h = absurd (omega arith)
three_is (Malformed offset) h = (offset, refl)
three_is (SourceFault count) h = absurd (omega arith)
three_is (SiteFault count) h = absurd (omega arith)
three_is NoMemory h = absurd (omega arith)
three_is (NoState offset) h = absurd (omega arith)
three_is SessionFull h = absurd (omega arith)
three_is PutFailed h = absurd (omega arith)

-- the end that is told where the reading ended so
abbrev pub told_at : InputEnd → RunEnd
told_at Whole = Ended
told_at (MalformedAt offset) = Malformed offset

four_is : (end : RunEnd) → end_status end ≡ 4 → (count : ℕ) × (end ≡ SourceFault count)
four_is Ended h = absurd (omega arith)
four_is (Malformed offset) h = absurd (omega arith)
four_is (SourceFault count) h = (count, refl)
four_is (SiteFault count) h = absurd (omega arith)
four_is NoMemory h = absurd (omega arith)
four_is (NoState offset) h = absurd (omega arith)
four_is SessionFull h = absurd (omega arith)
four_is PutFailed h = absurd (omega arith)

five_is : (end : RunEnd) → end_status end ≡ 5 → ((count : ℕ) × (end ≡ SiteFault count)) ⊎ (end ≡ PutFailed)
five_is Ended h = absurd (omega arith)
five_is (Malformed offset) h = absurd (omega arith)
five_is (SourceFault count) h = absurd (omega arith)
five_is (SiteFault count) h = inl (count, refl)
five_is NoMemory h = absurd (omega arith)
five_is (NoState offset) h = absurd (omega arith)
five_is SessionFull h = absurd (omega arith)
five_is PutFailed h = inr refl

eight_is : (end : RunEnd) → end_status end ≡ 8 → end ≡ SessionFull
eight_is Ended h = absurd (omega arith)
eight_is (Malformed offset) h = absurd (omega arith)
eight_is (SourceFault count) h = absurd (omega arith)
eight_is (SiteFault count) h = absurd (omega arith)
eight_is NoMemory h = absurd (omega arith)
eight_is (NoState offset) h = absurd (omega arith)
eight_is SessionFull h = refl
eight_is PutFailed h = absurd (omega arith)

fault_status : (count : ℕ) (end : RunEnd) → end ≡ SiteFault count → end_status end ≡ 5
fault_status count end is = ap end_status is

-- ---- a run of a call

module _ (call : CallSeen) (run : RunEnds call) where
  abbrev account : Account
  account = run.account

  -- what holds of what came holds of an end that it is
  cause_of : (end : RunEnd) → run.account.came ≡ end → CameBy call run.account end
  cause_of end is = subst (CameBy call run.account) is run.cause

  answered_of : (end : RunEnd) → run.account.came ≡ end → AreAnswered run.account end
  answered_of end is = subst (AreAnswered run.account) is run.answered

  came_ended : TellsEnd call run.account → run.account.named ≡ Ended → run.account.came ≡ Ended
  came_ended (inl h) is = absurd (let s : end_status (SiteFault run.account.faults_when_put) ≡ end_status Ended =
      ap end_status (sym h.1 ∙ is) in omega arith)
  came_ended (inr (well, inl same)) is = sym same ∙ is
  came_ended (inr (well, inr (ended, which))) is = ended

  pub all_done : call.status ≡ 0 → DidAll call run
  all_done zero_status = elim run.put [
    | inr broken ↦ let s = broken.status_is in absurd (omega arith)
    | inl put ↦
        let told_ended : run.account.named ≡ Ended = zero_is run.account.named (sym put.status_is ∙ zero_status) in
        let ended = came_ended run.tells told_ended in
        record {
          told_is = told_ended;
          whole = (cause_of Ended ended).1;
          handled = (answered_of Ended ended).0;
          answered = (answered_of Ended ended).1;
          no_fault = elim (run.quiet (λ five. absurd (omega arith))) [
            | inl same ↦ same
            | inr off ↦ absurd (subst IsToldFirst ended off.0)
          ];
          none_failed = put.none_failed;
          sunk = put.sunk;
        }
  ]

  pub put_due : call.site_after.put_faults ≡ call.site.put_faults → (call.status ≡ end_status run.account.named)
      × (IsTrue call.told
      → call.site_after.trace.now.sunk ≡ call.site.trace.now.sunk ++ due_octets call run.account)
  put_due same = elim run.put [
    | inl put ↦ (put.status_is, put.sunk)
    | inr broken ↦ let lt = broken.one_failed in absurd (omega arith)
  ]

  pub fault_told : (k : ℕ) (d : Answer) → k < length run.account.answers
      → SaysSiteFailed (slice_index_or run.account.answers k d) → call.status ≡ 5
  fault_told k d low tells = elim run.put [
    | inr broken ↦ broken.status_is
    | inl put ↦ elim run.tells [
      | inl h ↦ put.status_is ∙ fault_status run.account.faults_when_put run.account.named h.1
      | inr h ↦ absurd (h.0 (run.faults_told k d low tells))
    ]
  ]

  pub to_its_end : call.site_after.put_faults ≡ call.site.put_faults → call.status ≡ 5 → call.entries ≢ []
      → run.account.came ≢ NoMemory
      → GoesToItsEnd call run
  to_its_end same five some memory = go run.account.came refl run.cause run.tells
    where
      status_is : (end : RunEnd) → run.account.named ≡ end → call.status ≡ end_status end
      status_is end is = (put_due same).0 ∙ ap end_status is

      go : (came : RunEnd) → run.account.came ≡ came → CameBy call run.account came → TellsEnd call run.account
          → GoesToItsEnd call run
      go Ended is cause tells = inl is
      go (Malformed offset) is cause tells = inr (inl (offset, is))
      go (SourceFault count) is cause tells = inr (inr ((count, is), cause.0))
      go (SiteFault count) is cause tells = absurd (some cause.2)
      go NoMemory is cause tells = absurd (memory is)
      go (NoState offset) is cause tells = absurd (some cause.1)
      go SessionFull is cause (inl failed) = absurd (cause.not_failed failed.0)
      go SessionFull is cause (inr (well, inl told_same)) =
          absurd (let s = status_is SessionFull (told_same ∙ is) in omega arith)
      go SessionFull is cause (inr (well, inr (ended, which))) =
          absurd (let s : end_status SessionFull ≡ end_status Ended = ap end_status (sym is ∙ ended) in omega arith)
      go PutFailed is cause tells = absurd (let lt = cause.0 in omega arith)

  pub refused_left : ShowsSome → IsTrue call.told → (offset : ℕ) → ShowsNone (image_at_entry call) offset
      → IsLeftRefused call
  refused_left some told offset none = record { status_is = which; image_is = refusal.refuses.image_is }
    where
      refusal : HasRefused call run.account
      refusal = refused_as some call run told offset none

      told_as : (run.account.came ≡ Ended → ⊥) → TellsEnd call run.account
          → (run.account.named ≡ run.account.came) ⊎ (run.account.named ≡ SiteFault run.account.faults_when_put)
      told_as other (inl h) = inr h.1
      told_as other (inr (well, inl same)) = inl same
      told_as other (inr (well, inr (ended, more))) = absurd (other ended)

      exact : (end : RunEnd) → run.account.came ≡ end → (end_status end ≡ 0 → ⊥) → (call.status ≡ end_status end)
          ⊎ (call.status ≡ 5)
      exact end is not_zero = elim run.put [
        | inr broken ↦ inr broken.status_is
        | inl put ↦ elim (told_as (λ e. not_zero (ap end_status (sym is ∙ e))) run.tells) [
          | inr fault ↦ inr (put.status_is ∙ ap end_status fault)
          | inl same ↦ inl (put.status_is ∙ ap end_status (same ∙ is))
        ]
      ]

      which : (call.status ≡ 7) ⊎ ((call.status ≡ 5) ⊎ (call.status ≡ 6))
      which = elim refusal.refuses.came_is [
        | inl is ↦ elim (exact (NoState refusal.offset) is (λ z. absurd (omega arith))) [
          | inl seven ↦ inl seven
          | inr five ↦ inr (inl five)
        ]
        | inr rest ↦ elim rest [
          | inl fault ↦ elim (exact (SiteFault fault.0) fault.1 (λ z. absurd (omega arith))) [
            | inl five ↦ inr (inl five)
            | inr five ↦ inr (inl five)
          ]
          | inr memory ↦ elim (exact NoMemory memory (λ z. absurd (omega arith))) [
            | inl six ↦ inr (inr six)
            | inr five ↦ inr (inl five)
          ]
        ]
      ]

  pub what_came : call.status ≢ 5 → call.status ≢ 8 → (run.account.named ≡ run.account.came)
      × (call.status ≡ end_status run.account.came)
  what_came not_five not_eight = elim run.put [
    | inr broken ↦ absurd (not_five broken.status_is)
    | inl put ↦ elim run.tells [
      | inl h ↦ absurd (not_five (put.status_is ∙ fault_status run.account.faults_when_put run.account.named h.1))
      | inr h ↦ elim h.1 [
        | inl same ↦ (same, put.status_is ∙ ap end_status same)
        | inr rest ↦ elim rest.1 [
          | inl fault ↦ absurd (not_five (put.status_is ∙ fault_status fault.0 run.account.named fault.1))
          | inr full ↦ absurd (not_eight (put.status_is ∙ ap end_status full.0))
        ]
      ]
    ]
  ]

  -- With status 0 or 3 the input was read up to this end, each record of it was answered, and this end is told.
  pub all_read : (call.status ≡ 0) ⊎ (call.status ≡ 3) → (end : InputEnd) × (run.account.named ≡ told_at end)
      × (IsTrue call.source.told → IsInput call.source.left run.account.items end)
      × (run.account.handled ≡ places_of run.account.items) × (length run.account.answers ≡ length run.account.handled)
  all_read (inl zero_status) =
      let did = all_done zero_status in (Whole, did.told_is, did.whole, did.handled, did.answered)
  all_read (inr three_status) =
      let (same, is) = what_came (λ five. absurd (omega arith)) (λ eight. absurd (omega arith)) in
      let (offset, came) = three_is run.account.came (sym is ∙ three_status) in
      let answered = answered_of (Malformed offset) came in
      (MalformedAt offset, same ∙ came, (cause_of (Malformed offset) came).1, answered.0, answered.1)

  -- With status 4 each record that was read was answered, and the end that is told is the count of the source's faults.
  pub source_failed : call.status ≡ 4 → (run.account.named ≡ SourceFault call.source_after.faults)
      × (length run.account.answers ≡ length run.account.handled)
  source_failed four =
      let (same, is) = what_came (λ five. absurd (omega arith)) (λ eight. absurd (omega arith)) in
      let (count, came) = four_is run.account.came (sym is ∙ four) in
      (same ∙ came ∙ ap SourceFault (cause_of (SourceFault count) came).1, (answered_of (SourceFault count) came).1)

  pub full_told : call.status ≡ 8 → EndsWithFullHistory call run
  full_told eight = elim run.put [
    | inr broken ↦ absurd (let f = broken.status_is in omega arith)
    | inl put ↦ elim run.tells [
      | inl h ↦ absurd (let f = put.status_is ∙ fault_status run.account.faults_when_put run.account.named h.1 in
          omega arith)
      | inr h ↦ elim h.1 [
        | inl same ↦
            let is : run.account.came ≡ SessionFull =
            eight_is run.account.came (sym (put.status_is ∙ ap end_status same) ∙ eight) in
            record { full = (cause_of SessionFull is).full; by = inl is }
        | inr rest ↦ elim rest.1 [
          | inl fault ↦ absurd (let f = put.status_is ∙ fault_status fault.0 run.account.named fault.1 in omega arith)
          | inr full ↦ record { full = full.1; by = inr (rest.0, full.0) }
        ]
      ]
    ]
  ]

  pub five_rose : call.status ≡ 5 → Rose call.site.faults call.site_after.faults
  five_rose five = elim run.put [
    | inr broken ↦ broken.rose
    | inl put ↦ elim run.tells [
      | inl h ↦ let rose = h.0 in let w = run.after_later in omega arith
      | inr h ↦ elim h.1 [
        | inl same ↦ go put.none_failed (five_is run.account.came (sym (put.status_is ∙ ap end_status same) ∙ five))
        | inr rest ↦ elim rest.1 [
          | inl fault ↦ let rose = fault.2 in let low = fault.3 in let w = run.last_later in omega arith
          | inr full ↦ absurd (let f = put.status_is ∙ ap end_status full.0 in omega arith)
        ]
      ]
    ]
  ]
    where
      go : call.site_after.put_faults ≡ call.site.put_faults → ((count : ℕ) × (run.account.came ≡ SiteFault count))
          ⊎ (run.account.came ≡ PutFailed)
          → Rose call.site.faults call.site_after.faults
      go same (inl (count, is)) = let rose = (cause_of (SiteFault count) is).0 in let w = run.after_later in omega arith
      go same (inr is) = absurd (let lt = (cause_of PutFailed is).0 in omega arith)

-- ---- completeness

drawers_few : (records : List Record) → drawers records ≤ length records
drawers_few [] = omega arith
drawers_few (task ∷ tasks) = one (draws task.kind) (drawers_few tasks)
  where
    one : (b : Bool) → drawers tasks ≤ length tasks → cond b 1 0 + drawers tasks ≤ suc (length tasks)
    one true h = omega arith
    one false h = omega arith

due_few : (state : State) (place : ℕ) (words : List ℕ) → length (releases state place words) ≤ length words
due_few state place [] = omega arith
due_few state place (word ∷ words) =
    go (release_at state place word) (λ entry. due_few (applied state entry.change) (place + 1) words)
    (due_few state (place + 1) words)
  where
    go : (o : Option Entry)
        → ((entry : Entry) → length (releases (applied state entry.change) (place + 1) words) ≤ length words)
        → length (releases state (place + 1) words) ≤ length words
        → length (option_map_or (λ entry. entry ∷ releases (applied state entry.change) (place + 1) words) o
        (releases state (place + 1) words)) ≤ suc (length words)
    go None a b = omega arith
    go (Some entry) a b = let c = a entry in omega arith

first_few : (n : ℕ) (places : List Place) → length (of_first n places) ≤ length places
first_few n [] = omega arith
first_few n (place ∷ places) = go (nat_lt place.segment n) (first_few n places)
  where
    go : (b : Bool) → length (of_first n places) ≤ length places → length (cond b (place ∷ of_first n places) [])
        ≤ suc (length places)
    go true h = omega arith
    go false h = omega arith

length_tasks : (places : List Place) → length (records_of places) ≡ length places
length_tasks [] = refl
length_tasks (place ∷ places) = let h = length_tasks places in omega arith

module _ (call : CallSeen) (run : RunEnds call) where
  -- of the records that were read at most a Monitor record was not handled
  read_few : HandledRead run.account → length run.account.handled ≤ length (places_of run.account.items)
  read_few (inl all) = let e = ap length all in omega arith
  read_few (inr (place, kind, is)) =
      let e = ap length is in let f = length-append run.account.handled (place ∷ []) in omega arith

  handled_few : (came : RunEnd) → AreAnswered run.account came
      → length run.account.handled ≤ length (places_of run.account.items)
  handled_few Ended h = let e = ap length h.0 in omega arith
  handled_few (Malformed offset) h = let e = ap length h.0 in omega arith
  handled_few (SourceFault count) h = let e = ap length h.0 in omega arith
  handled_few (SiteFault count) h = let e = ap length h.0 in omega arith
  handled_few (NoState offset) h = let e = ap length h.0 in omega arith
  handled_few NoMemory h = let e = ap length h.0.1 in let f = first_few h.0.0 (places_of run.account.items) in
      omega arith
  handled_few SessionFull h = read_few h.0
  handled_few PutFailed h = read_few h.0

  -- the entries are at most two a record, and one a key
  few_entries : ShowsSome → ShowsOne → IsTrue call.told → (plan : PlanLines) (state : State)
      → ShowsAtEntry call plan state → length call.entries ≤ 2 * length (places_of run.account.items) + MOST_KEYS
  few_entries some once told plan state shows =
      let serves = serves_from some call run told once plan state shows in
      let s = serves.sound in
      let rel = serves.released in
      let ends : ℕ = s.run.history.run.ends in
      let a = s.run.history.run.few_entries in
      let b = drawers_few (records_of run.account.handled) in
      let c = length_tasks run.account.handled in
      let d = handled_few run.account.came run.answered in
      let due : List Entry = due_releases call state ends rel.words in
      let e : length (drop ends call.entries) ≡ length (take rel.count due) = ap length rel.are_due in
      let f = length-take rel.count due in
      let g = due_few (after_first state call.entries ends) 0 rel.words in
      let h = rel.rows in
      let i = length-drop ends call.entries in
      omega arith

  -- no count rises, the input is well formed, and short enough for the history: then all is done, or memory ran out
  module _ (plan : PlanLines) (state : State) (free : IsUnhindered call run plan state)
      (reads_once : (input : List ℕ) (xs ys : List Item) (e f : InputEnd) → IsInput input xs e → IsInput input ys f
      → (xs ≡ ys) × (e ≡ f))
      (shows_state : ShowsSome) (shows_one : ShowsOne) where
    few : length call.entries < MOST_ENTRIES
    few = let h = few_entries shows_state shows_one free.site_told plan state free.shows in let s = free.short in
        omega arith

    last_same : Rose call.site.faults run.account.faults_when_put → ⊥
    last_same h = let w = run.after_later in free.site_well (omega arith)

    status_is : (end : RunEnd) → run.account.named ≡ end → call.status ≡ end_status end
    status_is end is = elim run.put [
      | inl put ↦ put.status_is ∙ ap end_status is
      | inr broken ↦
          absurd (free.site_well broken.rose)
    ]

    told_is : (came : RunEnd) → run.account.came ≡ came → (came ≡ Ended → ⊥) → TellsEnd call run.account
        → run.account.named ≡ came
    told_is came is other (inl h) = absurd (last_same h.0)
    told_is came is other (inr (well, inl same)) = same ∙ is
    told_is came is other (inr (well, inr (ended, which))) = absurd (other (sym is ∙ ended))

    not_malformed : (offset : ℕ) → CameBy call run.account (Malformed offset) → ⊥
    not_malformed offset cause = whole_malformed offset
        ((reads_once call.source.left free.well_formed.0 run.account.items Whole (MalformedAt offset) free.well_formed.1
        (cause.1 free.source_told)).1)
      where
        whole_malformed : (offset : ℕ) → Whole ≡ MalformedAt offset → ⊥
        whole_malformed offset h = cc

    pub completes : (call.status ≡ 0) ⊎ (call.status ≡ 6)
    completes = go run.account.came refl run.cause run.tells
      where
        go : (came : RunEnd) → run.account.came ≡ came → CameBy call run.account came → TellsEnd call run.account
            → (call.status ≡ 0) ⊎ (call.status ≡ 6)
        go Ended is cause (inl h) = absurd (last_same h.0)
        go Ended is cause (inr (well, inl same)) = inl (status_is Ended (same ∙ is))
        go Ended is cause (inr (well, inr (ended, inl (count, told_count, rose, low)))) =
            absurd (free.site_well (let w = run.last_later in omega arith))
        go Ended is cause (inr (well, inr (ended, inr (told_full, full)))) = absurd (omega (arith, few))
        go (Malformed offset) is cause tells = absurd (not_malformed offset cause)
        go (SourceFault count) is cause tells = absurd (free.source_well cause.0)
        go (SiteFault count) is cause tells = absurd (last_same cause.0)
        go NoMemory is cause tells =
            inr (status_is NoMemory (told_is NoMemory is (λ e. let s : end_status NoMemory ≡ end_status Ended =
            ap end_status e in absurd (omega arith)) tells))
        go (NoState offset) is cause tells =
            absurd (shows_state (image_at_entry call) state offset free.shows.shows (cause.0 free.site_told))
        go SessionFull is cause tells = let f = cause.full in absurd (omega (arith, few))
        go PutFailed is cause tells = elim run.put [
          | inl put ↦ let a = put.none_failed in absurd (omega arith)
          | inr broken ↦ absurd (free.site_well broken.rose)
        ]
