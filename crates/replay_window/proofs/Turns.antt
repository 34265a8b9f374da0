-- Steps in turn (`judged_by_the_list`, `accepted_once`, `ascending_without_a_back_window`).
use Rattle.std.proofs.Common.{◌≡◌, ◌≢◌, ℕ, zero, suc, ◌-◌, ◌<◌, ◌≤◌, ◌⊎◌, max, true, false, List, [], ◌∷◌, length}
use Rattle.std.proofs.Common.{get_or, inl, inr, ⊎_elim, sym, ◌∙◌, subst, arith}
use Rattle.std.specs.List.{Contains, AllPairs}
use Rattle.std.specs.FinSet as set
use Rattle.std.specs.Ordering.{nat_cmp}
use Rattle.std.proofs.lemmas.Bool.{false≢true}
use Rattle.std.proofs.lemmas.List.{get_or_default}
use Rattle.replay_window.specs.declared.TheConstants.{MOST_BACK}
use Rattle.replay_window.specs.declared.window.Window.{Window}
use Rattle.replay_window.specs.Window.{IsAhead, IsLate, IsFresh, IsFreshAfter, accepted, begun_at, with_field}
use Rattle.replay_window.specs.Past.{IsPast}
use Rattle.replay_window.specs.Steps.{Step, Accepts, Sets, window_after, MayStepInTurn, numbers_of, SetsNoBack}
use Rattle.replay_window.specs.Steps.{IsAscendingAbove}
use Rattle.replay_window.proofs.Numbers.{listed, from_listed, kept_near, near_kept}
use Rattle.replay_window.proofs.Past.{past_taken, past_accepting, past_refused}

-- ---- elements of a list

contains_more : (n m : ℕ) (ns : List ℕ) → (m ≡ n) ⊎ Contains ns m → Contains (n ∷ ns) m
contains_more n m ns (inl here) = (0, omega arith, sym here)
contains_more n m ns (inr there) = (suc there.0, omega (arith, there.1), there.2)

contains_cases : (n m : ℕ) (ns : List ℕ) → Contains (n ∷ ns) m → (m ≡ n) ⊎ Contains ns m
contains_cases n m ns (zero, low, is) = inl (sym is)
contains_cases n m ns (suc k, low, is) = inr (k, omega (arith, low), is)

no_element : (m : ℕ) → Contains [] m → ⊥
no_element m has = absurd (omega (arith, has.1))

-- ---- the set of a window agrees with a list, as far as the window reaches

abbrev pub Agrees : Window → (ℕ → Type 0) → Type 0
Agrees window Was = (m : ℕ) → window.high - m < 64
    → (Contains (set.items window.taken) m → Was m) × (Was m → Contains (set.items window.taken) m)

agrees_accepted : (window : Window) (n : ℕ) (Was : ℕ → Type 0) → Agrees window Was
    → Agrees (accepted n window) (λ m. Was m ⊎ (m ≡ n))
agrees_accepted window n Was agrees m near =
    let near_before : window.high - m < 64 = omega arith in
    let old = agrees m near_before in (
      (λ has. ⊎_elim (λ here. inr here) (λ there. inl (old.0 (listed window.taken m there)))
          (near_kept window.taken n (max window.high n) m (from_listed _ m has)).which),
      (λ was. listed _ m (kept_near window.taken n (max window.high n) m
          (⊎_elim (λ before. inr (from_listed window.taken m (old.1 before))) (λ here. inl here) was) near)),
    )

agrees_after : (window : Window) (steps : List Step) (Was : ℕ → Type 0) → Agrees window Was
    → Agrees (window_after window steps) (λ m. Was m ⊎ Contains (numbers_of steps) m)
agrees_after window [] Was agrees m near = (
  (λ has. inl ((agrees m near).0 has)),
  (λ was. ⊎_elim (λ before. (agrees m near).1 before) (λ has. absurd (no_element m has)) was),
)
agrees_after window (Accepts n ∷ steps) Was agrees m near =
    let rest = agrees_after (accepted n window) steps (λ m. Was m ⊎ (m ≡ n)) (agrees_accepted window n Was agrees) m
    near in (
      (λ has. ⊎_elim
          (λ (before : Was m ⊎ (m ≡ n)).
          ⊎_elim (λ was. inl was) (λ here. inr (contains_more n m (numbers_of steps) (inl here))) before)
          (λ there. inr (contains_more n m (numbers_of steps) (inr there)))
          (rest.0 has)),
      (λ was. rest.1 (⊎_elim (λ before. inl (inl before))
          (λ (among : Contains (n ∷ numbers_of steps) m).
          ⊎_elim (λ here. inl (inr here)) (λ there. inr there) (contains_cases n m (numbers_of steps) among)) was)),
    )
agrees_after window (Sets field ∷ steps) Was agrees m near =
    agrees_after (with_field field window) steps Was agrees m near

back_after : (window : Window) (steps : List Step) → window.back ≤ MOST_BACK → MayStepInTurn window steps
    → (window_after window steps).back ≤ MOST_BACK
back_after window [] back may = back
back_after window (Accepts n ∷ steps) back may = back_after (accepted n window) steps back may.1
back_after window (Sets field ∷ steps) back may = back_after (with_field field window) steps may.0 may.1

-- two lists that agree as far as the window reaches judge alike
judged_alike : (window : Window) (some other : List ℕ) (n end : ℕ) → window.back ≤ MOST_BACK
    → ((m : ℕ) → window.high - m < 64 → Contains other m → Contains some m)
    → IsFreshAfter window some n end → IsFreshAfter window other n end
judged_alike window some other n end back also fresh = record {
  below_end = fresh.below_end;
  place = ⊎_elim (λ ahead. inl ahead)
      (λ (late : IsLate window some n). inr (record {
        above_base = late.above_base;
        up_to_high = late.up_to_high;
        near = late.near;
        untaken = λ has. late.untaken (also n (omega (arith, late.near)) has);
      }))
      fresh.place;
}

-- in a window that begins, no number was accepted
none_begun : (base : ℕ) (window : Window) → Agrees (begun_at base window) (λ _. ⊥)
none_begun base window m near =
    ((λ has. none (sym (set.contains-empty nat_cmp m) ∙ from_listed set.empty m has)), (λ has. absurd has))
  where
    none : false ≡ true → ⊥
    none e = false≢true e

pub by_the_list : (window : Window) (base n end : ℕ) (steps : List Step) → window.back ≤ MOST_BACK
    → MayStepInTurn (begun_at base window) steps
    → (IsFresh (window_after (begun_at base window) steps) n end
    → IsFreshAfter (window_after (begun_at base window) steps) (numbers_of steps) n end)
    × (IsFreshAfter (window_after (begun_at base window) steps) (numbers_of steps) n end
    → IsFresh (window_after (begun_at base window) steps) n end)
by_the_list window base n end steps back may =
    let late : Window = window_after (begun_at base window) steps in
    let agrees = agrees_after (begun_at base window) steps (λ _. ⊥) (none_begun base window) in
    let low = back_after (begun_at base window) steps back may in (
      judged_alike late (set.items late.taken) (numbers_of steps) n end low (λ m near has. (agrees m near).1 (inr has)),
      judged_alike late (numbers_of steps) (set.items late.taken) n end low
          (λ m near has. ⊎_elim (λ never. absurd never) (λ among. among) ((agrees m near).0 has)),
    )

-- ---- a past number is accepted no more

never_again : (window : Window) (steps : List Step) (m : ℕ) → window.back ≤ MOST_BACK → MayStepInTurn window steps
    → IsPast window m
    → Contains (numbers_of steps) m → ⊥
never_again window [] m back may past has = no_element m has
never_again window (Accepts n ∷ steps) m back may past has =
    ⊎_elim
    (λ (here : m ≡ n). past_refused window m may.0.0 back past
    (subst (λ (k : ℕ). IsFresh window k may.0.0) (sym here) may.0.1))
    (λ there. never_again (accepted n window) steps m back may.1 (past_accepting window n m past) there)
    (contains_cases n m (numbers_of steps) has)
never_again window (Sets field ∷ steps) m back may past has =
    never_again (with_field field window) steps m may.0 may.1
    (record { up_to_high = past.up_to_high; cause = past.cause }) has

pairs_more : (n : ℕ) (ns : List ℕ) → (Contains ns n → ⊥) → AllPairs ◌≢◌ ns → AllPairs ◌≢◌ (n ∷ ns)
pairs_more n ns other pairs zero zero d less low same = absurd (omega arith)
pairs_more n ns other pairs zero (suc j) d less low same =
    other (j, omega (arith, low), default_too ns j d n (omega (arith, low)) (sym same))
  where
    default_too : (ns : List ℕ) (j d n : ℕ) → j < length ns → get_or ns j d ≡ n → get_or ns j n ≡ n
    default_too ns j d n low is = get_or_default ns j n d low ∙ is
pairs_more n ns other pairs (suc i) zero d less low same = absurd (omega arith)
pairs_more n ns other pairs (suc i) (suc j) d less low same =
    pairs i j d (omega (arith, less)) (omega (arith, low)) same

pub once : (window : Window) (steps : List Step) → window.back ≤ MOST_BACK → MayStepInTurn window steps
    → AllPairs ◌≢◌ (numbers_of steps)
once window [] back may = λ i j d less low same. absurd (omega (arith, low))
once window (Accepts n ∷ steps) back may =
    pairs_more n (numbers_of steps) (never_again (accepted n window) steps n back may.1 (past_taken window n))
    (once (accepted n window) steps back may.1)
once window (Sets field ∷ steps) back may = once (with_field field window) steps may.0 may.1

-- ---- no back window

ahead_alone : (window : Window) (n end : ℕ) → window.back ≡ 0 → IsFresh window n end → window.high < n
ahead_alone window n end none fresh =
    ⊎_elim (λ (ahead : IsAhead window n). ahead.above) (λ (late : IsLate window (set.items window.taken) n).
    absurd (omega (arith, late.near, none))) fresh.place

pub ascend : (window : Window) (steps : List Step) → window.back ≡ 0 → SetsNoBack steps → MayStepInTurn window steps
    → IsAscendingAbove window.high (numbers_of steps)
ascend window [] none sets may = tt
ascend window (Accepts n ∷ steps) none sets may =
    let above : window.high < n = ahead_alone window n may.0.0 none may.0.1 in
    let top : max window.high n ≡ n = omega arith in (
      above,
      subst (λ (h : ℕ). IsAscendingAbove h (numbers_of steps)) top
          (ascend (accepted n window) steps none sets may.1),
    )
ascend window (Sets field ∷ steps) none sets may = ascend (with_field field window) steps sets.0 sets.1 may.1
