-- Calls one after the other are a life: for `calls_are_a_life`.
use Rattle.std.proofs.Common.{◌≡◌, ◌⊎◌, ℕ, IsTrue, List, [], ◌∷◌, ◌++◌, length, take, inl, inr, refl, sym, ◌∙◌, ap}
use Rattle.std.proofs.Common.{subst}
use Rattle.sdls_outside.specs.Disk.{Leaves}
use Rattle.sdls_outside.specs.Moments.{clock, MomentSince}
use Rattle.unit_plan.specs.PlanLines.{PlanLines}
use Rattle.unit_state.specs.declared.state.State.{State}
use Rattle.run_promise.specs.Account.{Account, end_octets}
use Rattle.run_promise.specs.Call.{CallSeen, ShowsAtEntry, image_at_entry, sunk_since}
use Rattle.run_promise.specs.Ends.{IsEarly}
use Rattle.run_promise.specs.Life.{IsBeginning, IsLife, left_by, LifeRun, OnceInLife, LivesOn, no_account, run_of}
use Rattle.sdls_run.specs.Called.{AreLife, AreRuns, as_run, IsBeforeAnswers, IsOtherCall, IsRunCall, MayLeave, PastCall}

left_append : (image : List ℕ) (runs : List LifeRun) (run : LifeRun) → left_by image (runs ++ run ∷ []) ≡ run.image
left_append image [] run = refl
left_append image (one ∷ runs) run = left_append one.image runs run

-- in every life no two answers share key and number
abbrev pub AreOnce : Type 0
AreOnce = (image : List ℕ) (runs : List LifeRun) → IsLife image runs → OnceInLife runs

-- what the last call adds to the life of those before it, at one of its moments
abbrev AddsLast : PastCall → List ℕ → List ℕ → List LifeRun → Type 0
AddsLast last first image runs = IsBeforeAnswers last image
    ⊎ ((plan : PlanLines) × (state : State) × ShowsAtEntry last.call plan state
    × LivesOn first runs (as_run last plan state image))

module _ (last : PastCall) (first image : List ℕ) (runs : List LifeRun) (plan : PlanLines) (state : State)
    (account : Account) (ends put : List ℕ) (account_is : last.account ≡ account) (ends_are : last.ends ≡ ends)
    (put_is : last.put ≡ put) where
  -- the run with what the call did is that of the call
  same_run : run_of last.call account plan state ends image put ≡ as_run last plan state image
  same_run = sym (ap (λ (a : Account). run_of last.call a plan state last.ends image last.put) account_is
      ∙ ap (λ (e : List ℕ). run_of last.call account plan state e image last.put) ends_are
      ∙ ap (λ (p : List ℕ). run_of last.call account plan state ends image p) put_is)

  lives_same : LivesOn first runs (run_of last.call account plan state ends image put)
      → LivesOn first runs (as_run last plan state image)
  lives_same lives = subst (LivesOn first runs) same_run lives

by_run : (last : PastCall) (first image : List ℕ) (runs : List LifeRun) → IsRunCall last → IsTrue last.call.told
    → MomentSince (clock last.call.site.trace) last.call.site_after.trace image last.sunk → IsLife first runs
    → left_by first runs ≡ image_at_entry last.call → AddsLast last first image runs
by_run last first image runs run told moment life left =
    let adds = run.promised.lives told first runs life left in
    by adds.plan adds.state adds.shows (adds.moments.each image last.sunk moment)
  where
    by : (plan : PlanLines) (state : State) → ShowsAtEntry last.call plan state
        → IsEarly last.call run.promised.ends.account.named image last.sunk
        ⊎ LivesOn first runs (run_of last.call run.promised.ends.account plan state
        (end_octets last.call run.promised.ends.account.named) image
        (sunk_since last.call last.sunk))
        → AddsLast last first image runs
    by plan state shows (inl early) = inl (record {
      leaves = early.leaves;
      only_end =
          run.put_is ∙ early.only_end
          ∙ ap (λ (p : List ℕ). take (length p) (end_octets last.call run.promised.ends.account.named))
          (sym run.put_is)
          ∙ ap (λ (e : List ℕ). take (length last.put) e) (sym run.ends_are);
    })
    by plan state shows (inr lives) = inr (
      plan,
      state,
      shows,
      lives_same last first image runs plan state run.promised.ends.account
          (end_octets last.call run.promised.ends.account.named)
          (sunk_since last.call last.sunk) run.account_is run.ends_are run.put_is lives,
    )

by_other : (last : PastCall) (first image : List ℕ) (runs : List LifeRun) → IsOtherCall last → IsTrue last.call.told
    → MomentSince (clock last.call.site.trace) last.call.site_after.trace image last.sunk → IsLife first runs
    → left_by first runs ≡ image_at_entry last.call → AddsLast last first image runs
by_other last first image runs other told moment life left =
    let adds = other.promised told first runs life left in
    by adds.plan adds.state adds.shows (adds.moments.each image last.sunk moment)
  where
    by : (plan : PlanLines) (state : State) → ShowsAtEntry last.call plan state
        → Leaves last.call.site.trace.now image
        ⊎ LivesOn first runs (run_of last.call (no_account last.call) plan state [] image [])
        → AddsLast last first image runs
    by plan state shows (inl leaves) = inl (record {
      leaves = leaves;
      only_end = other.put_is ∙ ap (λ (p : List ℕ). take (length p) last.ends) (sym other.put_is);
    })
    by plan state shows (inr lives) = inr (
      plan,
      state,
      shows,
      lives_same last first image runs plan state (no_account last.call) [] [] other.account_is other.ends_are
          other.put_is lives,
    )

adds_last : (last : PastCall) (first image : List ℕ) (runs : List LifeRun) → IsRunCall last ⊎ IsOtherCall last
    → IsTrue last.call.told
    → MomentSince (clock last.call.site.trace) last.call.site_after.trace image last.sunk → IsLife first runs
    → left_by first runs ≡ image_at_entry last.call → AddsLast last first image runs
adds_last last first image runs (inl run) = by_run last first image runs run
adds_last last first image runs (inr other) = by_other last first image runs other

-- the life of the calls with the last one, by that of those before it
with_last : (first : List ℕ) (last : PastCall) (before : List PastCall) (image : List ℕ)
    (here : AreLife first before (image_at_entry last.call))
    → ((other : List ℕ) → Leaves last.call.site.trace.now other → AreLife first before other)
    → AddsLast last first image here.runs → AreLife first (last ∷ before) image
with_last first last before image here others (inl early) =
    let other = others image early.leaves in record {
      runs = other.runs;
      are_runs = inl (early, other.are_runs);
      life = other.life;
      left = other.left;
      once = other.once;
    }
with_last first last before image here others (inr (plan, state, shows, lives)) = record {
  runs = here.runs ++ as_run last plan state image ∷ [];
  are_runs = inr (here.runs, plan, state, shows, refl, here.are_runs);
  life = lives.life;
  left = left_append first here.runs (as_run last plan state image);
  once = lives.once;
}

module _ (are_once : AreOnce) (first : List ℕ) (begins : IsBeginning first) where
  pub are_life : (calls : List PastCall) (image : List ℕ) → MayLeave first calls image → AreLife first calls image
  are_life [] image is = record {
    runs = [];
    are_runs = refl;
    life = record { begins = begins; follow = tt };
    left = sym is;
    once = are_once first [] (record { begins = begins; follow = tt });
  }
  are_life (last ∷ before) image (which, told, entered, others, moment) =
      let here = are_life before (image_at_entry last.call) entered in
      with_last first last before image here (λ other leaves. are_life before other (others other leaves))
      (adds_last last first image here.runs which told moment here.life here.left)
