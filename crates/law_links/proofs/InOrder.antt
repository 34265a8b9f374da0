-- The numbers that a unit accepts under a key stand in order over its life.
use Rattle.std.proofs.Common.{ℕ, ◌-◌, ◌<◌, ◌≤◌, List, [], ◌∷◌, ◌++◌, length, inl, sym, subst, arith}
use Rattle.std.specs.List.{All, slice_index_or}
use Rattle.std.proofs.lemmas.List.Elements.{All-append}
use Rattle.std.proofs.lemmas.Option.{slice_get_within}
use Rattle.record_io.specs.Places.{Place, records_of}
use Rattle.unit_state.specs.declared.state.State.{State}
use Rattle.unit_state.specs.State.{association_row}
use Rattle.unit_state.specs.Allows.{Allows, AllowsAccepted}
use Rattle.unit_state.specs.History.{after_first}
use Rattle.unit_state.proofs.RulesKept.{there}
use Rattle.run_promise.specs.Fits.{Course, Fits}
use Rattle.run_promise.specs.History.{AcceptsAt, NearWord, TurnIn, IsLegalHistory}
use Rattle.law_history.proofs.Accepting.{reached}
use Rattle.law_history.proofs.Along.{OfRun, of_places, accepted_taken, allowed_along}
use Rattle.law_history.proofs.Codes.{accepting_opening, accepts_at}
use Rattle.run_promise.specs.Deed.{Deed}
use Rattle.run_promise.specs.Life.{Given, LifeRun, IsRun, FollowFrom, IsLife, answers_begun, given_in}
use Rattle.law_runs.proofs.Lives.{ShowsOnce, IsLeft, begins_left, one_more}
use Rattle.law_links.specs.InOrder.{AcceptsBelow, AcceptsNear, InOrderInRun, given_by, NumbersInOrder}
use Rattle.law_links.proofs.Begun.{all_left, all_right, begun_any, given_all}

-- ---- in one run

module _ (course : Course) (places : List Place)
    (history : IsLegalHistory course.begin.plan course.begin.start places course.entries) where
  abbrev of : OfRun course.begin.plan course.begin.start (records_of places) (TurnIn places) course.entries
  of = of_places course.begin.plan course.begin.start places course.entries history

  places_near : (p q key m n : ℕ) → AcceptsAt course.entries p key m → AcceptsAt course.entries q key n → p < q
      → AcceptsNear (after_first course.begin.start course.entries q) key m n
  places_near p q key m n one other less =
      let state : State = after_first course.begin.start course.entries q in
      let within : q < length course.entries = slice_get_within course.entries q other.entry other.there in
      let allowed : AllowsAccepted state other.spi key n other.floor =
      subst (Allows state) other.change_is (allowed_along course.begin.plan course.begin.start (records_of places)
      (TurnIn places) course.entries of q other.entry other.there) in
      let at = there (association_row state other.spi) _ allowed.row in
      record {
        spi = other.spi;
        row = at.row;
        there = at.is;
        holds = at.holds.1;
        accepts = at.holds.0;
        above = reached state other.spi key m n at.row at.is at.holds.1 at.holds.0
            (accepted_taken course.begin.plan course.begin.start (records_of places) (TurnIn places) course.entries of
            p q key m one less (omega arith));
      }

  deeds_near : (near : ℕ → ℕ → Type 0) (one other : Deed) → Fits near course one.task one.answer
      → Fits near course other.task other.answer
      → (key : ℕ) → InOrderInRun key (record { course = course; deed = one }) (record { course = course; deed = other })
  deeds_near near one other fit also key less m n a b =
      let is = accepting_opening near course one.task one.answer key m fit a in
      let also_is = accepting_opening near course other.task other.answer key n also b in
      let least : 1 ≤ one.answer.position = is.stands.least in
      places_near (one.answer.position - 1) (other.answer.position - 1) key m n
      (accepts_at course one.task one.answer key m is a)
      (accepts_at course other.task other.answer key n also_is b) (omega arith)

module _ (key : ℕ) where
  run_in_order : (run : LifeRun) → IsRun run
      → All (λ (one : Given). All (InOrderInRun key one) (given_by run)) (given_by run)
  run_in_order run is =
      given_all run.course (λ (one : Given). All (InOrderInRun key one) (given_by run))
      (answers_begun (length run.sunk) run.deeds)
      (begun_any (λ (d : Deed). All (InOrderInRun key (record { course = run.course; deed = d })) (given_by run))
      (length run.sunk) run.deeds (λ k d low.
      given_all run.course (InOrderInRun key (record { course = run.course; deed = slice_index_or run.deeds k d }))
      (answers_begun (length run.sunk) run.deeds)
      (begun_any (λ (e : Deed). InOrderInRun key (record { course = run.course; deed = slice_index_or run.deeds k d })
      (record { course = run.course; deed = e }))
      (length run.sunk) run.deeds (λ j e under.
      deeds_near run.course run.places is.sound.history
      (NearWord run.course.begin.start run.course.entries (records_of run.places))
      (slice_index_or run.deeds k d) (slice_index_or run.deeds j e) (is.sound.answers k d low)
      (is.sound.answers j e under) key))))

  -- ---- from run to run

  module _ (once : ShowsOnce) where
    -- what was accepted before is below what a run accepts
    run_above : (run : LifeRun) → IsRun run → (given : List Given) → IsLeft run.start given
        → All (λ (one : Given). All (AcceptsBelow key one) (given_by run)) given
    run_above run is given left k g low =
        given_all run.course (AcceptsBelow key (slice_index_or given k g)) (answers_begun (length run.sunk) run.deeds)
        (begun_any
        (λ (d : Deed). AcceptsBelow key (slice_index_or given k g) (record { course = run.course; deed = d }))
        (length run.sunk) run.deeds
        (λ j d under m n a b.
        let old = (left.known run.course.begin.start (inl is.shows) k g low).floored key m a in
        let new = is.sound.accepted_above j d under key n b in
        omega arith))

    later_above : (image : List ℕ) (given : List Given) (runs : List LifeRun) → IsLeft image given
        → FollowFrom image runs
        → All (λ (one : Given). All (AcceptsBelow key one) (given_in runs)) given
    later_above image given [] left follow = λ k g low j d under. absurd (omega arith)
    later_above image given (run ∷ runs) left (start, is, follow) =
        let here : IsLeft run.start given = subst (λ (i : List ℕ). IsLeft i given) (sym start) left in
        let next : IsLeft run.image (given ++ given_by run) = one_more once run is given here in
        let rest : All (λ (one : Given). All (AcceptsBelow key one) (given_in runs)) given =
        all_left (λ (one : Given). All (AcceptsBelow key one) (given_in runs)) given (given_by run)
        (later_above run.image (given ++ given_by run) runs next follow) in
        λ k g low. All-append (AcceptsBelow key (slice_index_or given k g)) (given_by run) (given_in runs)
        (run_above run is given here k g low) (rest k g low)

    in_order : (image : List ℕ) (given : List Given) (runs : List LifeRun) → IsLeft image given → FollowFrom image runs
        → NumbersInOrder key runs
    in_order image given [] left follow = tt
    in_order image given (run ∷ runs) left (start, is, follow) =
        let here : IsLeft run.start given = subst (λ (i : List ℕ). IsLeft i given) (sym start) left in
        let next : IsLeft run.image (given ++ given_by run) = one_more once run is given here in (
          run_in_order run is,
          all_right (λ (one : Given). All (AcceptsBelow key one) (given_in runs)) given (given_by run)
              (later_above run.image (given ++ given_by run) runs next follow),
          in_order run.image (given ++ given_by run) runs next follow,
        )

pub accepted_in_order : ShowsOnce → (image : List ℕ) (runs : List LifeRun) → IsLife image runs → (key : ℕ)
    → NumbersInOrder key runs
accepted_in_order once image runs life key = in_order key once image [] runs (begins_left image life.begins) life.follow
