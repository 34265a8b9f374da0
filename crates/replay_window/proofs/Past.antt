-- Numbers that are past (`past_stays`, `accepted_once`).
use Rattle.std.proofs.Common.{◌≡◌, ℕ, ◌-◌, ◌<◌, ◌≤◌, ◌⊎◌, max, Bool, true, false, cond, nat_lt, refl, inl, inr, ⊎_elim}
use Rattle.std.proofs.Common.{arith}
use Rattle.std.specs.List.{Contains}
use Rattle.std.specs.FinSet as set
use Rattle.std.proofs.lemmas.Bool.{cases_lt}
use Rattle.replay_window.specs.declared.window.Window.{Window}
use Rattle.replay_window.specs.declared.TheConstants.{MOST_BACK}
use Rattle.replay_window.specs.Window.{accepted, begun_at, lowered_to, IsFresh, IsAhead, IsLate}
use Rattle.replay_window.specs.Past.{IsPast}
use Rattle.replay_window.proofs.Numbers.{listed, from_listed, kept_near}

past_by : (window : Window) (n m : ℕ) → m ≤ max window.high n → (m ≡ n) ⊎ (set.contains window.taken m ≡ true)
    → IsPast (accepted n window) m
past_by window n m low which = record {
  up_to_high = low;
  cause = ⊎_elim
      (λ (near : max window.high n - m < 64).
      inr (inr (listed _ m (kept_near window.taken n (max window.high n) m which near))))
      (λ (far : 64 ≤ max window.high n - m). inr (inl far))
      (cases_lt (max window.high n - m) 64);
}

pub past_taken : (window : Window) (n : ℕ) → IsPast (accepted n window) n
past_taken window n = past_by window n n (omega arith) (inl refl)

pub past_accepting : (window : Window) (n m : ℕ) → IsPast window m → IsPast (accepted n window) m
past_accepting window n m past =
    let low : m ≤ max window.high n = omega (arith, past.up_to_high) in
    ⊎_elim
    (λ (below : m ≤ window.base). record { up_to_high = low; cause = inl below })
    (λ (rest : (MOST_BACK ≤ window.high - m) ⊎ Contains (set.items window.taken) m). ⊎_elim
    (λ (far : MOST_BACK ≤ window.high - m). record { up_to_high = low; cause = inr (inl (omega arith)) })
    (λ (has : Contains (set.items window.taken) m). past_by window n m low (inr (from_listed window.taken m has)))
    rest)
    past.cause

pub past_refused : (window : Window) (n end : ℕ) → window.back ≤ MOST_BACK → IsPast window n → IsFresh window n end → ⊥
past_refused window n end back past fresh =
    ⊎_elim (λ (ahead : IsAhead window n). absurd (omega (arith, ahead.above, past.up_to_high)))
    (λ (late : IsLate window (set.items window.taken) n). ⊎_elim
    (λ (below : n ≤ window.base). absurd (omega (arith, late.above_base)))
    (λ (rest : (MOST_BACK ≤ window.high - n) ⊎ Contains (set.items window.taken) n). ⊎_elim
    (λ (far : MOST_BACK ≤ window.high - n). absurd (omega (arith, late.near))) (λ has. late.untaken has) rest)
    past.cause)
    fresh.place

pub past_lowered : (window : Window) (floor m : ℕ) → m ≤ floor → IsPast window m → IsPast (lowered_to floor window) m
past_lowered window floor m low past = by (nat_lt floor window.high)
  where
    by : (b : Bool) → IsPast (cond b (begun_at floor window) window) m
    by true = record { up_to_high = low; cause = inl low }
    by false = past
