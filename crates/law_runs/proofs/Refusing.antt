-- A call whose book was not opened ends as a run ends: for `refused_run_ends`.
use Rattle.std.proofs.Common.{◌≡◌, ◌≢◌, ◌⊎◌, ℕ, zero, suc, ◌+◌, ◌-◌, ◌<◌, ◌≤◌, Bool, IsTrue, true, min, nat_eq, eq-eqb}
use Rattle.std.proofs.Common.{eqb, List, [], ◌∷◌, ◌++◌, length, take, drop, Option, Some, None, Result, Ok, Err, refl}
use Rattle.std.proofs.Common.{sym, ◌∙◌, ap, subst, inl, inr, arith}
use Rattle.std.specs.Prelude.{MatchResult, map, slice_index}
use Rattle.std.specs.List.{position_or_len, slice_get, slice_index_or}
use Rattle.std.specs.Option.{option_and_then, option_map_or}
use Rattle.std.proofs.Math.Seq.{drop-append_seam, take-append-add}
use Rattle.std.proofs.lemmas.Bool.Decides.{nat_tests}
use Rattle.std.proofs.lemmas.List.{drop_all}
use Rattle.std.proofs.lemmas.List.Folds.{find_at}
use Rattle.std.proofs.lemmas.Option.{get_or_from_slice_get, same_Some, slice_get_within}
use Rattle.sdls_base.specs.declared.TheConstants.{MOST_KEYS}
use Rattle.sdls_base.specs.declared.entry.Entry.{Entry}
use Rattle.sdls_outside.specs.declared.source.Failed.{Failed}
use Rattle.sdls_outside.specs.Disk.{Leaves}
use Rattle.sdls_outside.specs.Faults.{HasCause}
use Rattle.sdls_outside.specs.Moments.{Between, EachMoment, Trace, clock}
use Rattle.sdls_outside.specs.Site as sites
use Rattle.sdls_outside.proofs.Moments.{each_puts, each_then, each_weaker, moment_now}
use Rattle.key_book.specs.declared.key_row.KeyRow.{KeyRow}
use Rattle.key_book.specs.KeyBook.{AreKeyRows, place_of, row_of}
use Rattle.unit_image.specs.Image.{held, OnlySyncs}
use Rattle.unit_image.specs.OpeningImage.{LeftByOpening}
use Rattle.law_image.proofs.Images.{only_syncs_moments, opened_plan}
use Rattle.record_io.specs.declared.status.TheConstants.{DONE, SITE_FAULT}
use Rattle.record_io.specs.Answers.{answer_octets}
use Rattle.record_io.specs.Reading.{SourceSeen, HasTaken}
use Rattle.unit_plan.specs.Plan.{plan_of}
use Rattle.unit_plan.specs.PlanLines.{PlanLines}
use Rattle.unit_plan.specs.PlanRules.{IsPlan}
use Rattle.unit_state.specs.declared.state.State.{State}
use Rattle.unit_state.specs.Applied.{applied}
use Rattle.unit_state.specs.Restart.{restarted}
use Rattle.unit_state.specs.State.{KeepsRules}
use Rattle.unit_image.specs.declared.opening_image.OpenFault.{OpenFault}
use Rattle.unit_image.specs.declared.opening_image.OpenFault.TheVariants as openings
use Rattle.unit_image.specs.OpeningImage.{IsOpenCause}
use Rattle.unit_image.specs.Shows.{Shows, ShowsNone}
use Rattle.unit_image.proofs.OpenFaults.{same_image}
use Rattle.run_promise.specs.Call.{SiteSeen, CallSeen, sunk_since, image_at_entry, plan_at_entry}
use Rattle.run_promise.specs.Numbers.{release_at, release_of, released_floor, releases, mark_at, mark_of, kept_floor}
use Rattle.law_history.proofs.Accepting.{kept_restarted}
use Rattle.run_promise.specs.OneLane.{IsExact}
use Rattle.run_promise.specs.Words.{Kept}
use Rattle.run_promise.specs.Sound.{HasPlan, IsSound}
use Rattle.law_workers.proofs.Rows.{mark_known, row_named, row_placed}
use Rattle.sdls_base.specs.declared.states.KeyState.TheVariants.{PreActive}
use Rattle.run_promise.specs.declared.end.RunEnd.TheVariants as ends
use Rattle.run_promise.specs.Account.{Account, AreAnswered, course_of, end_answer, end_octets, end_status, CameBy}
use Rattle.run_promise.specs.Account.{PutsDue, PutsFront, TellsEnd}
use Rattle.run_promise.specs.Ends.{IsEarly, IsFenced, IsOpenRefusal, IsRefused, IsReleased, IsServed, IsSoundCall}
use Rattle.run_promise.specs.Ends.{HasServed, RunEnds}
use Rattle.run_promise.specs.Ends.{IsUnopened, StandsAtExit}
use Rattle.law_runs.specs.Refused.{Refused, refused_end}
use Rattle.law_runs.proofs.Ended.{failed_put, same_count}
use Rattle.law_runs.proofs.Living.{at_entry}
use Rattle.law_runs.proofs.Resting.{no_records}
use Rattle.law_runs.proofs.Standing.{shown_unless}

-- ---- no release is due in a state that a restart left

place_at : (keys : List KeyRow) (key place : ℕ) → place_of keys key ≡ Some place
    → position_or_len (λ (row : KeyRow). nat_eq row.id key) keys ≡ place
place_at keys key place is = grind (arith, nat_tests)

-- the row at a place is that of its key
row_found : (keys : List KeyRow) (place : ℕ) (held : KeyRow) → AreKeyRows keys → slice_get keys place ≡ Some held
    → row_of keys held.id ≡ Some held
row_found keys place held rules there =
    let low = slice_get_within keys place held there in
    let placed : place_of keys held.id ≡ Some place =
    subst (λ (row : KeyRow). place_of keys row.id ≡ Some place) (get_or_from_slice_get keys place held held there)
    (row_placed keys place held rules low) in
    find_at (λ (row : KeyRow). nat_eq row.id held.id) keys
    ∙ (ap (slice_get keys) (place_at keys held.id place placed) ∙ there)

-- the marks of the keys from a place on, 1 where there is none; opaque, as the count of all keys is a large numeral
marks_from : State → ℕ → ℕ → List ℕ
marks_from state place zero = []
marks_from state place (suc count) = mark_at state place ∷ marks_from state (place + 1) count

marks_counted : (state : State) (place count : ℕ) → length (marks_from state place count) ≡ count
unfolding marks_from
marks_counted state place zero = refl
marks_counted state place (suc count) = ap suc (marks_counted state (place + 1) count)

marks_found : (state : State) (place count k : ℕ) → k < count → slice_index (marks_from state place count) k
    ≡ mark_at state (place + k)
unfolding marks_from
marks_found state place zero k low = absurd (omega arith)
marks_found state place (suc count) zero low = let same : place ≡ place + 0 = omega arith in ap (mark_at state) same
marks_found state place (suc count) (suc k) low =
    let same : (place + 1) + k ≡ place + suc k = omega arith in
    marks_found state (place + 1) count k (omega arith) ∙ ap (mark_at state) same

mark_there : (keys : List KeyRow) (place : ℕ) (held : KeyRow) → slice_get keys place ≡ Some held
    → slice_index_or (map (λ (row : KeyRow). row.mark) keys) place 1 ≡ held.mark
mark_there [] place held is = absurd (let low = slice_get_within [] place held is in omega arith)
mark_there (row ∷ keys) zero held is = ap (λ (r : KeyRow). r.mark) (same_Some row held is)
mark_there (row ∷ keys) (suc place) held is = mark_there keys place held is

module _ (state : State) (rules : KeepsRules state) (left : restarted state ≡ state) where
  floor_left : (place : ℕ) (held : KeyRow) → slice_get state.keys place ≡ Some held
      → released_floor state held ≡ held.floor
  floor_left place held there =
      let found = row_found state.keys place held rules.keys.rules there in
      let kept : kept_floor state held.id ≡ released_floor state held =
      ap (λ (o : Option KeyRow). option_map_or (released_floor state) o 0) found in
      let floor = ap (λ (o : Option KeyRow). option_map_or (λ (row : KeyRow). row.floor) o 0) found in
      let same = kept_restarted state held.id rules left in omega arith

  -- the word is the mark of the key at the place
  none_due_at : (place : ℕ) → release_at state place (mark_at state place) ≡ None
  none_due_at place = go (slice_get state.keys place) refl
    where
      go : (o : Option KeyRow) → slice_get state.keys place ≡ o
          → option_and_then (release_of state (mark_at state place)) o ≡ None
      go None is = refl
      go (Some held) is =
          let mark : mark_at state place ≡ held.mark = mark_there state.keys place held is in
          let same : min held.mark (mark_at state place) ≡ held.mark = omega arith in
          let a : eqb (min held.mark (mark_at state place)) held.mark ≡ true =
          eq-eqb (min held.mark (mark_at state place)) held.mark same in
          let b : eqb (released_floor state held) held.floor ≡ true =
          eq-eqb (released_floor state held) held.floor (floor_left place held is) in
          rw (a, b) refl

  none_due : (place count : ℕ) → releases state place (marks_from state place count) ≡ []
  unfolding marks_from
  none_due place zero = refl
  none_due place (suc count) =
      ap (λ (o : Option Entry).
      option_map_or (λ (entry : Entry). entry ∷ releases (applied state entry.change) (place + 1)
      (marks_from state (place + 1) count)) o
      (releases state (place + 1) (marks_from state (place + 1) count)))
      (none_due_at place) ∙ none_due (place + 1) count

-- ---- what was sunk

own_front : (k : ℕ) (octets : List ℕ) → take (length (take k octets)) octets ≡ take k octets
own_front zero octets = refl
own_front (suc k) [] = refl
own_front (suc k) (octet ∷ octets) = ap (λ (l : List ℕ). octet ∷ l) (own_front k octets)

-- what stands behind the octets sunk before is a front of those that were put
front_since : (base octets sunk : List ℕ) → Between base (base ++ octets) sunk
    → drop (length base) sunk ≡ take (length (drop (length base) sunk)) octets
front_since base octets sunk between =
    let low = between.least in
    let n : ℕ = length sunk - length base in
    let long : length sunk ≡ length base + (length sunk - length base) = omega arith in
    let is : sunk ≡ base ++ take (length sunk - length base) octets =
    between.prefix ∙ ap (λ (k : ℕ). take k (base ++ octets)) long ∙ take-append-add base octets
    (length sunk - length base) in
    let rest : drop (length base) sunk ≡ take (length sunk - length base) octets =
    ap (drop (length base)) is ∙ drop-append_seam base (take (length sunk - length base) octets) in
    rest ∙ sym (ap (λ (l : List ℕ). take (length l) octets) rest ∙ own_front (length sunk - length base) octets)

none_since : (base octets sunk : List ℕ) → sunk ≡ base
    → drop (length base) sunk ≡ take (length (drop (length base) sunk)) octets
none_since base octets sunk same =
    let none : drop (length base) sunk ≡ [] =
    ap (drop (length base)) same ∙ drop_all (length base) base (omega arith) in
    subst (λ (l : List ℕ). l ≡ take (length l) octets) (sym none) refl

put_image : {T E : Type 0} → (octets : List ℕ) (result : Result T E) (old new : Trace)
    → sites.Puts octets result old new → new.now.image ≡ old.now.image
put_image octets (Ok value) old new puts = puts.0.image
put_image octets (Err error) old new (inl same) = ap (λ (t : Trace). t.now.image) same
put_image octets (Err error) old new (inr sank) = sank.image

-- ---- why it ended

not_ended : (fault : OpenFault) → refused_end fault ≡ ends.Ended → ⊥
not_ended (openings.SiteFault count) is = let s = ap end_status is in omega arith
not_ended (openings.Image offset) is = let s = ap end_status is in omega arith
not_ended openings.NoMemory is = let s = ap end_status is in omega arith

not_done : (fault : OpenFault) → end_status (refused_end fault) ≡ DONE → ⊥
not_done (openings.SiteFault count) is = omega arith
not_done (openings.Image offset) is = omega arith
not_done openings.NoMemory is = omega arith

module _ (told : Bool) (site back after : SiteSeen) (source : SourceSeen) (fault : OpenFault) (status : ℕ)
    (refused : Refused told site back after fault status) where
  abbrev pub call : CallSeen
  call = record {
    source = source;
    source_after = source;
    told = told;
    site = site;
    site_after = after;
    status = status;
    entries = [];
  }

  abbrev pub account : Account
  account = record {
    came = refused_end fault;
    named = refused.end;
    items = [];
    read = [];
    part = [];
    handled = [];
    answers = [];
    faults_when_put = back.faults;
  }

  takes : HasTaken source source [] [] []
  takes = record {
    items_are = λ k d low. absurd (omega arith);
    read_are = inl (refl, refl);
    taken = λ is_told. refl;
    few = omega arith;
    no_whole = λ rest is. let size = ap length is in omega arith;
  }

  answered : (f : OpenFault) → AreAnswered account (refused_end f)
  answered (openings.SiteFault count) = (refl, refl)
  answered (openings.Image offset) = (refl, refl)
  answered openings.NoMemory = ((0, refl), refl)

  abbrev Cause : OpenFault → Type 0
  Cause f = IsOpenCause site.faults back.faults (λ offset. IsTrue told → ShowsNone site.trace.now.image offset) f

  cause_of : (f : OpenFault) → Cause f → CameBy call account (refused_end f)
  cause_of (openings.SiteFault count) cause = (cause.0, cause.1, refl, refl)
  cause_of (openings.Image offset) cause = (cause, refl, refl)
  cause_of openings.NoMemory cause = tt

  tells : TellsEnd call account
  tells = elim refused.end_is [
    | inl before ↦ inl before
    | inr well ↦ inr (
      well.0,
      elim well.1 [
        | inl other ↦ inl other.1
        | inr ended ↦ absurd (not_ended fault ended.0)
      ],
    )
  ]

  quiet : status ≢ SITE_FAULT → after.faults ≡ site.faults
  quiet other = go refused.put refused.status_is refused.put_cause
    where
      go : (r : Result (Unit {0}) Failed)
          → MatchResult r (λ _. status ≡ end_status refused.end) (λ _. status ≡ SITE_FAULT)
          → HasCause back.faults after.faults r
          → after.faults ≡ site.faults
      go (Ok done) status_is cause = elim refused.end_is [
        | inl before ↦ absurd (other (status_is ∙ ap end_status before.1))
        | inr well ↦ cause.stood ∙ same_count site.faults back.faults refused.later well.0
      ]
      go (Err failed) status_is cause = absurd (other status_is)

  sunk_same : IsTrue told → back.trace.now.sunk ≡ site.trace.now.sunk
  sunk_same is_told =
      ((refused.opening is_told).each back.trace.now.image back.trace.now.sunk
      (moment_now back.trace (clock site.trace) back.trace.now.image ((refused.stays is_told).1))).1

  puts_end : PutsDue call account ⊎ PutsFront call account
  puts_end = go refused.put refused.sinks refused.counted refused.put_cause refused.status_is
    where
      go : (r : Result (Unit {0}) Failed)
          → (IsTrue told → sites.Puts (answer_octets (end_answer refused.end 0)) r back.trace after.trace)
          → after.put_faults ≡ sites.after_put r back.put_faults → HasCause back.faults after.faults r
          → MatchResult r (λ _. status ≡ end_status refused.end) (λ _. status ≡ SITE_FAULT)
          → PutsDue call account ⊎ PutsFront call account
      go (Ok done) sinks counted cause status_is = inl (record {
        none_failed = counted ∙ refused.same_puts;
        status_is = status_is;
        sunk = λ is_told. (sinks is_told).1 ∙ ap (λ (l : List ℕ). l ++ answer_octets (end_answer refused.end 0))
            (sunk_same is_told);
      })
      go (Err failed) sinks counted cause status_is = inr (record {
        one_failed = let same = refused.same_puts in omega arith;
        status_is = status_is;
        rose = let rose = cause.failed in let low = refused.later in omega arith;
        sunk = λ is_told.
            subst (λ (base : List ℕ). Between base (base ++ answer_octets (end_answer refused.end 0))
            after.trace.now.sunk) (sunk_same is_told)
            (failed_put (answer_octets (end_answer refused.end 0)) back.trace after.trace (sinks is_told));
        earlier = λ is_told place (k, low, is). absurd (omega arith);
      })

  -- ---- its moments

  -- what holds of the image while it is opened holds while End is put
  with_end : (P : List ℕ → Type 0) → IsTrue told
      → EachMoment site.trace back.trace (λ image sunk. P image × (sunk ≡ site.trace.now.sunk))
      → EachMoment site.trace after.trace
      (λ image sunk. P image
      × (sunk_since call sunk ≡ take (length (sunk_since call sunk)) (end_octets call refused.end)))
  with_end P is_told first =
      let Q : List ℕ → List ℕ → Type 0 =
      λ image sunk. P image
      × (sunk_since call sunk ≡ take (length (sunk_since call sunk)) (end_octets call refused.end)) in
      each_then site.trace back.trace after.trace Q
      (each_weaker site.trace back.trace (λ image sunk. P image × (sunk ≡ site.trace.now.sunk)) Q
      (λ image sunk h. (h.0, none_since site.trace.now.sunk (answer_octets (end_answer refused.end 0)) sunk h.1)) first)
      (each_puts (answer_octets (end_answer refused.end 0)) refused.put back.trace after.trace Q (refused.sinks is_told)
      (λ image sunk leaves between.
      let h = first.each image back.trace.now.sunk (moment_now back.trace (clock site.trace) image leaves) in (
        h.0,
        front_since site.trace.now.sunk (answer_octets (end_answer refused.end 0)) sunk
            (subst (λ (base : List ℕ). Between base (base ++ answer_octets (end_answer refused.end 0)) sunk) h.1
            between),
      )))

  early : IsTrue told → OnlySyncs site.trace back.trace → EachMoment site.trace after.trace (IsEarly call refused.end)
  early is_told syncs =
      let P : List ℕ → Type 0 = Leaves site.trace.now in
      each_weaker site.trace after.trace
      (λ image sunk. P image
      × (sunk_since call sunk ≡ take (length (sunk_since call sunk)) (end_octets call refused.end)))
      (IsEarly call refused.end)
      (λ image sunk h. record { leaves = h.0; only_end = h.1 })
      (with_end P is_told (only_syncs_moments site.trace back.trace syncs ((refused.stays is_told).0)).moments)

  -- End leaves the image
  end_stays : IsTrue told → after.trace.now.image ≡ back.trace.now.image
  end_stays is_told = put_image (answer_octets (end_answer refused.end 0)) refused.put back.trace after.trace
      (refused.sinks is_told)

  -- ---- an image that shows a state

  module _ (plan : PlanLines) (state : State) where
    served : (image sunk : List ℕ) → (Leaves site.trace.now image ⊎ LeftByOpening site.trace.now.image image)
        × (sunk_since call sunk ≡ take (length (sunk_since call sunk)) (end_octets call refused.end))
        → IsEarly call refused.end image sunk ⊎ IsServed call account plan state image sunk
    served image sunk (inl leaves, only_end) = inl (record { leaves = leaves; only_end = only_end })
    served image sunk (inr settles, only_end) = inr (record { front = only_end; image_shows = inl (tt, settles) })

    fenced : (image sunk : List ℕ) → (Leaves site.trace.now image ⊎ LeftByOpening site.trace.now.image image)
        × (sunk_since call sunk ≡ take (length (sunk_since call sunk)) (end_octets call refused.end))
        → IsEarly call refused.end image sunk
        ⊎ (LeftByOpening (image_at_entry call) image ⊎ IsFenced call account state image sunk)
    fenced image sunk (inl leaves, only_end) = inl (record { leaves = leaves; only_end = only_end })
    fenced image sunk (inr settles, only_end) = inr (inl settles)

    planned : Shows site.trace.now.image state → (image sunk : List ℕ)
        → (Leaves site.trace.now image ⊎ LeftByOpening site.trace.now.image image)
        × (sunk_since call sunk ≡ take (length (sunk_since call sunk)) (end_octets call refused.end))
        → IsEarly call refused.end image sunk ⊎ HasPlan (plan_at_entry call) image
    planned shows image sunk (inl leaves, only_end) = inl (record { leaves = leaves; only_end = only_end })
    planned shows image sunk (inr settles, only_end) =
        let (here, forms) = opened_plan site.trace.now.image image state shows settles in
        inr (record { here = here; forms = forms })

    sound_run : IsPlan plan → KeepsRules state → IsSound (course_of call account plan state) [] []
    sound_run plan_is rules = no_records _ plan_is rules refl

    sound_call : IsTrue told → Shows site.trace.now.image state → IsPlan plan → KeepsRules state
        → IsSoundCall call account plan state
    sound_call is_told shows plan_is rules = record {
      run = sound_run plan_is rules;
      moments =
          let P : List ℕ → Type 0 = λ image. Leaves site.trace.now image ⊎ LeftByOpening site.trace.now.image image in
          each_weaker site.trace after.trace
          (λ image sunk. P image
          × (sunk_since call sunk ≡ take (length (sunk_since call sunk)) (end_octets call refused.end)))
          (λ image sunk. IsEarly call refused.end image sunk ⊎ IsServed call account plan state image sunk) served
          (with_end P is_told (refused.opening is_told));
      fences =
          let P : List ℕ → Type 0 = λ image. Leaves site.trace.now image ⊎ LeftByOpening site.trace.now.image image in
          each_weaker site.trace after.trace
          (λ image sunk. P image
          × (sunk_since call sunk ≡ take (length (sunk_since call sunk)) (end_octets call refused.end)))
          (λ image sunk. IsEarly call refused.end image sunk
          ⊎ (LeftByOpening (image_at_entry call) image ⊎ IsFenced call account state image sunk)) fenced
          (with_end P is_told (refused.opening is_told));
      same_plan =
          let P : List ℕ → Type 0 = λ image. Leaves site.trace.now image ⊎ LeftByOpening site.trace.now.image image in
          each_weaker site.trace after.trace
          (λ image sunk. P image
          × (sunk_since call sunk ≡ take (length (sunk_since call sunk)) (end_octets call refused.end)))
          (λ image sunk. IsEarly call refused.end image sunk ⊎ HasPlan (plan_at_entry call) image) (planned shows)
          (with_end P is_told (refused.opening is_told));
      end_widths = refused.widths;
    }

    released : KeepsRules state → restarted state ≡ state → (ends : ℕ) → ends ≤ 0
        → (r : IsReleased call account state ends) × (r.words ≡ marks_from state 0 MOST_KEYS)
    released rules left ends low =
        let none : 0 ≡ ends = omega arith in
        subst (λ (n : ℕ). (r : IsReleased call account state n) × (r.words ≡ marks_from state 0 MOST_KEYS)) none (
          record {
            words = marks_from state 0 MOST_KEYS;
            rows = marks_counted state 0 MOST_KEYS;
            count = 0;
            are_due = refl;
            stopped = λ rose. refl;
            filled = λ is. refl;
            refused = λ few. let due = ap length (none_due state rules left 0 MOST_KEYS) in absurd (omega arith);
            full = λ is_ended full. absurd (not_ended fault is_ended);
            uncounted = λ k d low. absurd (omega arith);
            moved = record {
              move_of = λ index. Kept;
              told = λ k d low. absurd (omega arith);
              between = λ index. tt;
              entries = λ p entry index few there of. absurd (omega arith);
              reserves = λ p entry few there none. absurd (omega arith);
              word = λ row low.
                  let a : slice_index (marks_from state 0 MOST_KEYS) row ≡ mark_at state (0 + row) =
                  marks_found state 0 MOST_KEYS row low in
                  let same : 0 + row ≡ row = omega arith in
                  let b = ap (mark_at state) same in omega arith;
            };
            near = λ key row is.
                let in_keys =
                (row_named state.keys key row (record {
                  id = 0;
                  state = PreActive;
                  bytes = [];
                  digest = [];
                  mark = 0;
                  floor = 0;
                }) is).0 in
                let most = rules.keys.most in
                let word : slice_index (marks_from state 0 MOST_KEYS) row ≡ mark_of state key =
                marks_found state 0 MOST_KEYS row (omega arith) ∙ ap (mark_at state) (let e : 0 + row ≡ row =
                omega arith in e) ∙ mark_known state [] key row rules is in
                record { least = omega arith; base = mark_of state key; is_base = inl refl; most = omega arith };
            above = λ k d few. absurd (omega arith);
          },
          refl,
        )

    take_none : (n : ℕ) → take {A = Entry} n [] ≡ []
    take_none zero = refl
    take_none (suc n) = refl

    -- nothing was drawn, and the words are the marks
    exact_none : (words : List ℕ) (ends : ℕ) → words ≡ marks_from state 0 MOST_KEYS
        → IsExact call account plan state words ends
    exact_none words ends is = record {
      moves = [];
      beyond = [];
      few = omega arith;
      each = λ all. refl;
      told = tt;
      runs = tt;
      reserves = λ p entry low there none. absurd (let within = slice_get_within [] p entry there in omega arith);
      last = λ row low.
          let a = ap (λ (l : List ℕ). slice_index l row) is in
          let b : slice_index (marks_from state 0 MOST_KEYS) row ≡ mark_at state (0 + row) =
          marks_found state 0 MOST_KEYS row low in
          let same : 0 + row ≡ row = omega arith in
          let c = ap (mark_at state) same in omega arith;
      served = ([], [], take_none ends, refl, omega arith, λ all quiet. refl);
    }

    -- the opening of an image that shows a state did not come to its end
    never_opened : ((offset : ℕ) → ShowsNone site.trace.now.image offset → ⊥) → IsTrue told → (f : OpenFault)
        → refused_end f ≡ account.came → Cause f
        → IsUnopened call account
    never_opened shows is_told (openings.SiteFault count) is cause =
        record { came_is = inl (count, sym is); source_is = refl; no_entries = refl }
    never_opened shows is_told (openings.Image offset) is cause = absurd (shows offset (cause is_told))
    never_opened shows is_told openings.NoMemory is cause =
        record { came_is = inr (sym is); source_is = refl; no_entries = refl }

    exit : ((offset : ℕ) → ShowsNone site.trace.now.image offset → ⊥) → IsTrue told → Shows site.trace.now.image state
        → restarted state ≡ state
        → StandsAtExit call account state
    exit never is_told shows left = record {
      stands = λ well. subst (λ (image : List ℕ). Shows image (restarted state)) (sym (end_stays is_told))
          (subst (Shows back.trace.now.image) (sym left)
          (shown_unless site.faults back.faults after.faults (λ offset. IsTrue told
          → ShowsNone site.trace.now.image offset) back.trace.now.image state fault
          refused.cause refused.put_cause.later well ((refused.left is_told).stands state shows)));
      rests = λ well. inl (never_opened never is_told fault refl refused.cause);
      same_plan = λ well. inl (never_opened never is_told fault refl refused.cause);
      stored = inl (never_opened never is_told fault refl refused.cause);
    }

  -- ---- an image that shows none

  module _ (never : (image : List ℕ) (state : State) (offset : ℕ) → Shows image state → ShowsNone image offset → ⊥)
      (one : (image : List ℕ) (a b : ℕ) → ShowsNone image a → ShowsNone image b → a ≡ b) where
    refusal : (f : OpenFault) (offset : ℕ) → Cause f → IsTrue told → ShowsNone site.trace.now.image offset
        → IsOpenRefusal offset (refused_end f)
    refusal (openings.SiteFault count) offset cause is_told none = inr (inl (count, refl))
    refusal (openings.Image at) offset cause is_told none =
        inl (ap ends.NoState (one site.trace.now.image at offset (cause is_told) none))
    refusal openings.NoMemory offset cause is_told none = inr (inr refl)

    refused_so : IsTrue told → (offset : ℕ) → ShowsNone site.trace.now.image offset → IsRefused call account offset
    refused_so is_told offset none = record {
      came_is = refusal fault offset refused.cause is_told none;
      source_is = refl;
      no_entries = refl;
      image_is = end_stays is_told ∙ same_image site.trace back.trace ((refused.left is_told).none offset none);
      moments = early is_told ((refused.left is_told).none offset none);
    }

    module _ (plans : (text : List ℕ) (plan : PlanLines) → plan_of text ≡ Ok plan → IsPlan plan)
        (rules : (image : List ℕ) (state : State) → Shows image state → KeepsRules state) where
      served_so : ((image : List ℕ) (state : State) → Shows image state → restarted state ≡ state) → IsTrue told
          → (state : State) → Shows site.trace.now.image state → HasServed call account
      served_so lefts is_told state shown =
          let (plan, shows) = at_entry call state shown in
          let keeps = rules site.trace.now.image state shown in
          let is_plan = plans (held site.trace.now.image).plan plan shows.says in
          let sound = sound_call plan state is_told shown is_plan keeps in
          let (r, words) = released plan state keeps (lefts site.trace.now.image state shown)
          sound.run.history.run.ends sound.run.history.run.within in record {
            plan = plan;
            state = state;
            shows = shows;
            serves = record {
              sound = sound;
              released = r;
              exact = λ one. exact_none plan state r.words sound.run.history.run.ends words;
              exit = exit plan state (λ offset. never site.trace.now.image state offset shown) is_told shown
                  (lefts site.trace.now.image state shown);
            };
          }

      pub refused_ends : ((image : List ℕ) (state : State) → Shows image state → restarted state ≡ state)
          → ((image : List ℕ) → ((state : State) × Shows image state) ⊎ ((offset : ℕ) × ShowsNone image offset))
          → RunEnds call
      refused_ends lefts either = record {
        account = account;
        takes = takes;
        answered = answered fault;
        cause = cause_of fault refused.cause;
        tells = tells;
        put = puts_end;
        faults_told = λ k d low. absurd (omega arith);
        last_later = refused.later;
        after_later = refused.put_cause.later;
        quiet = λ other. inl (quiet other);
        bounded = omega arith;
        reports = tt;
        by_image = λ is_told. elim (either site.trace.now.image) [
          | inl shown ↦ inl (served_so lefts is_told shown.0 shown.1)
          | inr none ↦ inr (record {
            offset = none.0;
            shows_none = none.1;
            refuses = refused_so is_told none.0 none.1;
          })
        ];
      }
