-- What the marks and floors of its first image cover, a life uses and accepts no more: for `covered_before_a_life`.
use Rattle.std.proofs.Common.{ℕ, ◌<◌, ◌≤◌, List, [], ◌∷◌, length, inl, inr, sym, subst, arith}
use Rattle.std.specs.List.{All}
use Rattle.std.proofs.lemmas.List.Elements.{All-append}
use Rattle.unit_image.specs.Image.{HasOneClosed}
use Rattle.unit_state.specs.declared.state.State.{State}
use Rattle.unit_state.specs.History.{after_first}
use Rattle.unit_state.specs.Restart.{restarted}
use Rattle.run_promise.specs.Answers.{Uses, Accepts}
use Rattle.run_promise.specs.Deed.{Deed}
use Rattle.run_promise.specs.Life.{FollowFrom, Given, IsLife, IsRun, LifeRun, answers_begun, given_in, given_of}
use Rattle.run_promise.specs.Numbers.{mark_of, floor_of}
use Rattle.law_runs.specs.Known.{IsBelowMarks, IsShown, IsWithinFloors}
use Rattle.law_runs.proofs.Lives.{ShowsOnce, begun_any, below_on, floored_on, given_all, settled_after, shown_at_start}

module _ (once : ShowsOnce) (key number : ℕ) where
  -- what holds of a state that a run reaches from its start, holds of each state that it leaves
  passed_on : (P : State → Type 0) (run : LifeRun) → IsRun run → HasOneClosed run.start
      → ((state : State) → IsShown run.start state → P state)
      → ((p : ℕ) → p ≤ length run.course.entries
      → P (restarted (after_first run.course.begin.start run.course.entries p)))
      → (state : State) → IsShown run.image state → P state
  passed_on P run is settled old later state shown = elim is.moment.image_shows [
    | inl opening ↦ old state (shown_at_start run is settled once opening.1 state shown)
    | inr served ↦ elim shown [
      | inl shows ↦ subst P (once run.image _ state served.shows.shows shows) (later served.p served.shows.within)
      | inr torn ↦
          let (q, above, within, form) = served.shows.forms torn.0 torn.1 in
          subst P (once torn.0 _ state form torn.2) (later q within)
    ]
  ]

  abbrev Unused : Given → Type 0
  Unused given = Uses given.deed.answer key number → ⊥

  abbrev Unaccepted : Given → Type 0
  Unaccepted given = Accepts given.deed.answer key number → ⊥

  run_unused : (run : LifeRun) → IsRun run → IsBelowMarks run.start key number
      → All Unused (given_of run.course (answers_begun (length run.sunk) run.deeds))
  run_unused run is below = given_all run.course Unused (answers_begun (length run.sunk) run.deeds)
      (begun_any (λ (d : Deed). Uses d.answer key number → ⊥) (length run.sunk) run.deeds (λ k d low used.
      let high = is.sound.used_above k d low key number used in
      let old = below run.course.begin.start (inl is.shows) in
      omega arith))

  run_unaccepted : (run : LifeRun) → IsRun run → IsWithinFloors run.start key number
      → All Unaccepted (given_of run.course (answers_begun (length run.sunk) run.deeds))
  run_unaccepted run is within = given_all run.course Unaccepted (answers_begun (length run.sunk) run.deeds)
      (begun_any (λ (d : Deed). Accepts d.answer key number → ⊥) (length run.sunk) run.deeds (λ k d low accepted.
      let high = is.sound.accepted_above k d low key number accepted in
      let old = within run.course.begin.start (inl is.shows) in
      omega arith))

  follow_unused : (image : List ℕ) (runs : List LifeRun) → HasOneClosed image → IsBelowMarks image key number
      → FollowFrom image runs → All Unused (given_in runs)
  follow_unused image [] settled below follow = λ k d low. absurd (omega arith)
  follow_unused image (run ∷ runs) settled below (start, is, follow) =
      let here : IsBelowMarks run.start key number =
      subst (λ (i : List ℕ). IsBelowMarks i key number) (sym start) below in
      let one : HasOneClosed run.start = subst HasOneClosed (sym start) settled in
      let next : IsBelowMarks run.image key number =
      passed_on (λ (s : State). number < mark_of s key) run is one here
      (λ p within. below_on once run is p key number within (here run.course.begin.start (inl is.shows))) in
      All-append Unused (given_of run.course (answers_begun (length run.sunk) run.deeds)) (given_in runs)
      (run_unused run is here) (follow_unused run.image runs (settled_after run is one) next follow)

  follow_unaccepted : (image : List ℕ) (runs : List LifeRun) → HasOneClosed image → IsWithinFloors image key number
      → FollowFrom image runs → All Unaccepted (given_in runs)
  follow_unaccepted image [] settled within follow = λ k d low. absurd (omega arith)
  follow_unaccepted image (run ∷ runs) settled within (start, is, follow) =
      let here : IsWithinFloors run.start key number =
      subst (λ (i : List ℕ). IsWithinFloors i key number) (sym start) within in
      let one : HasOneClosed run.start = subst HasOneClosed (sym start) settled in
      let next : IsWithinFloors run.image key number =
      passed_on (λ (s : State). number ≤ floor_of s key) run is one here
      (λ p low. floored_on once run is p key number low (here run.course.begin.start (inl is.shows))) in
      All-append Unaccepted (given_of run.course (answers_begun (length run.sunk) run.deeds)) (given_in runs)
      (run_unaccepted run is here) (follow_unaccepted run.image runs (settled_after run is one) next follow)

pub unused_in_life : ShowsOnce → (image : List ℕ) (runs : List LifeRun) (key number : ℕ) → IsLife image runs
    → IsBelowMarks image key number → All (λ (given : Given). Uses given.deed.answer key number → ⊥) (given_in runs)
unused_in_life once image runs key number life below =
    follow_unused once key number image runs life.begins.settled below life.follow

pub unaccepted_in_life : ShowsOnce → (image : List ℕ) (runs : List LifeRun) (key number : ℕ) → IsLife image runs
    → IsWithinFloors image key number → All (λ (given : Given). Accepts given.deed.answer key number → ⊥)
    (given_in runs)
unaccepted_in_life once image runs key number life within =
    follow_unaccepted once key number image runs life.begins.settled within life.follow
