-- A sound call continues each life that left the image at its entry: for the laws of `life`.
use Rattle.std.proofs.Common.{◌≡◌, ◌⊎◌, ℕ, IsTrue, List, [], ◌∷◌, ◌++◌, length, refl, sym, ap, subst, inl, inr, ⊎_elim}
use Rattle.std.specs.Prelude.{Ok}
use Rattle.sdls_outside.specs.Disk.{Leaves}
use Rattle.unit_image.specs.Image.{Held, held}
use Rattle.unit_plan.specs.Plan.{plan_of}
use Rattle.unit_plan.specs.PlanLines.{PlanLines}
use Rattle.unit_state.specs.declared.state.State.{State}
use Rattle.unit_image.specs.Shows.{Shows}
use Rattle.run_promise.specs.Sound.{IsSound, SoundMoment}
use Rattle.run_promise.specs.Life.{AreEnd, LifeRun, IsRun, IsLife, FollowFrom, left_by, OnceInLife, run_of, LivesOn}
use Rattle.run_promise.specs.Life.{KeepsLives, KeepsLivesReading, no_account, given_in}
use Rattle.run_promise.specs.Call.{CallSeen, ShowsAtEntry, image_at_entry, sunk_since}
use Rattle.run_promise.specs.Account.{Account, course_of, deeds_in, end_answer, end_octets}
use Rattle.run_promise.specs.Ends.{IsEarly, IsServed, IsSoundCall}
use Rattle.law_runs.specs.Known.{LeavesKnowing}
use Rattle.law_runs.specs.Reads.{ReadsSoundly}

follow_append : (image : List ℕ) (runs : List LifeRun) (run : LifeRun) → FollowFrom image runs
    → run.start ≡ left_by image runs → IsRun run
    → FollowFrom image (runs ++ run ∷ [])
follow_append image [] run follow is is_run = (is, is_run, tt)
follow_append image (one ∷ runs) run follow is is_run =
    (follow.0, follow.1, follow_append one.image runs run follow.2 is is_run)

-- an image at the entry that shows a state says a plan
pub at_entry : (call : CallSeen) (state : State) → Shows (image_at_entry call) state
    → (plan : PlanLines) × ShowsAtEntry call plan state
at_entry call state shows =
    let text : shows.what.plan ≡ (held (image_at_entry call)).plan = sym (ap (λ (h : Held). h.plan) shows.holds.is) in (
      shows.says.begins.plan,
      record {
        says = subst (λ (octets : List ℕ). plan_of octets ≡ Ok shows.says.begins.plan) text shows.says.begins.said.read;
        shows = shows;
      },
    )

-- what holds of every life: no two of its answers share key and number, and what it left shows a state
pub record LivesWell : Type 0 where
  pub once : (image : List ℕ) (runs : List LifeRun) → IsLife image runs → OnceInLife runs
  pub shown : (image : List ℕ) (runs : List LifeRun) → IsLife image runs
      → LeavesKnowing (left_by image runs) (given_in runs)

module _ (well : LivesWell) where
  -- the image that a life left, with which a call begins, says a plan and shows a state
  begins_with : (call : CallSeen) (image : List ℕ) (runs : List LifeRun) → IsLife image runs
      → left_by image runs ≡ image_at_entry call
      → (plan : PlanLines) × (state : State) × ShowsAtEntry call plan state
  begins_with call image runs life left_is =
      let here = (well.shown image runs life).image_shows in
      let found = at_entry call here.state (subst (λ (i : List ℕ). Shows i here.state) left_is here.shows) in
      (found.0, here.state, found.1)

  -- a run of which this moment is sound is one more run of the life
  lives_on : (call : CallSeen) (account : Account) (plan : PlanLines) (state : State) (ends left sunk : List ℕ)
      → ShowsAtEntry call plan state
      → AreEnd ends → IsSound (course_of call account plan state) account.handled (deeds_in account)
      → SoundMoment (course_of call account plan state) (deeds_in account) ends (image_at_entry call) left sunk
      → (image : List ℕ) (runs : List LifeRun) → IsLife image runs → left_by image runs ≡ image_at_entry call
      → LivesOn image runs (run_of call account plan state ends left sunk)
  lives_on call account plan state ends left sunk shows ended sound moment image runs life left_is =
      let longer : FollowFrom image (runs ++ run_of call account plan state ends left sunk ∷ []) =
      follow_append image runs (run_of call account plan state ends left sunk) life.follow (sym left_is) (record {
        says = shows.says;
        shows = shows.shows;
        ended = ended;
        sound = sound;
        moment = moment;
      }) in
      let next : IsLife image (runs ++ run_of call account plan state ends left sunk ∷ []) =
      record { begins = life.begins; follow = longer } in
      record { life = next; once = well.once image _ next }

  pub keeps_lives : (call : CallSeen) (account : Account)
      → (IsTrue call.told → (plan : PlanLines) (state : State) → ShowsAtEntry call plan state
      → IsSoundCall call account plan state)
      → KeepsLives call account
  keeps_lives call account sounds is_told image runs life left_is =
      let (plan, state, shows) = begins_with call image runs life left_is in
      let sound = sounds is_told plan state shows in
      record {
        plan = plan;
        state = state;
        shows = shows;
        moments = record {
          later = sound.moments.later;
          each = λ left sunk m. lift plan state shows sound left sunk (sound.moments.each left sunk m);
          before = λ time left sunk low m.
              ⊎_elim inl (λ p. inr (lift plan state shows sound left sunk p))
              (sound.moments.before time left sunk low m);
        };
      }
    where
      lift : (plan : PlanLines) (state : State) → ShowsAtEntry call plan state → IsSoundCall call account plan state
          → (left sunk : List ℕ)
          → IsEarly call account.named left sunk ⊎ IsServed call account plan state left sunk
          → IsEarly call account.named left sunk
          ⊎ LivesOn image runs (run_of call account plan state (end_octets call account.named) left
          (sunk_since call sunk))
      lift plan state shows sound left sunk (inl early) = inl early
      lift plan state shows sound left sunk (inr served) =
          inr (lives_on call account plan state (end_octets call account.named) left (sunk_since call sunk) shows
          (inr (end_answer account.named (length call.entries), sound.end_widths, refl, refl)) sound.run served image
          runs life left_is)

  pub reading_keeps_lives : (call : CallSeen)
      → ((plan : PlanLines) (state : State) → ShowsAtEntry call plan state
      → IsSound (course_of call (no_account call) plan state) [] [])
      → (IsTrue call.told → (plan : PlanLines) (state : State) → ShowsAtEntry call plan state
      → ReadsSoundly call plan state)
      → KeepsLivesReading call
  reading_keeps_lives call sounds reads is_told image runs life left_is =
      let (plan, state, shows) = begins_with call image runs life left_is in
      let moments = reads is_told plan state shows in
      record {
        plan = plan;
        state = state;
        shows = shows;
        moments = record {
          later = moments.later;
          each = λ left sunk m. lift plan state shows left (moments.each left sunk m);
          before = λ time left sunk low m. ⊎_elim inl (λ p. inr (lift plan state shows left p))
              (moments.before time left sunk low m);
        };
      }
    where
      lift : (plan : PlanLines) (state : State) → ShowsAtEntry call plan state → (left : List ℕ)
          → Leaves call.site.trace.now left
          ⊎ SoundMoment (course_of call (no_account call) plan state) [] [] (image_at_entry call) left []
          → Leaves call.site.trace.now left ⊎ LivesOn image runs (run_of call (no_account call) plan state [] left [])
      lift plan state shows left (inl early) = inl early
      lift plan state shows left (inr moment) =
          inr (lives_on call (no_account call) plan state [] left [] shows (inl refl) (sounds plan state shows) moment
          image runs life left_is)
