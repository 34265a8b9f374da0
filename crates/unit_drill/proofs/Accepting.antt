-- The history of a drill's receiver: each frame, in turn, raises the highest number of its lane. No window has a back
-- window.
use Rattle.std.proofs.Common.{◌≡◌, ℕ, ◌+◌, ◌<◌, ◌≤◌, max, Bool, true, false, nat_eq, if◌then◌else◌, List, [], ◌∷◌, ◌++◌}
use Rattle.std.proofs.Common.{inl, ⊎_elim, refl, ◌∙◌, ap, arith}
use Rattle.std.specs.FinSet as set
use Rattle.sdls_base.specs.declared.entry.Change.TheVariants.{Accepted, Nothing}
use Rattle.sdls_base.specs.declared.entry.Entry.{Entry}
use Rattle.replay_window.specs.declared.window.Window.{Window}
use Rattle.replay_window.specs.Window.{accepted, IsAhead, IsLate, IsFresh}
use Rattle.unit_state.specs.declared.state.State.{State}
use Rattle.unit_state.specs.Applied.{applied}
use Rattle.unit_state.specs.History.{after_all}
use Rattle.unit_state.proofs.Histories.{after_more}
use Rattle.unit_drill.proofs.Judging.{receiving}
use Rattle.unit_drill.proofs.Lanes.{accepted_on, begun, each, key_on, with_on}

-- a window with this highest number, the widest, and no back window
pub record HasNoBack (window : Window) (high : ℕ) : Type 0 where
  pub high_is : window.high ≡ high
  pub width_is : window.width ≡ 4294967296
  pub no_back : window.back ≡ 0

-- the windows, with their highest numbers, and the floors after some entries
pub record Taken (es : List Entry) : Type 0 where
  pub windows : ℕ → Window
  pub highs : ℕ → ℕ
  pub floors : ℕ → ℕ
  pub each_is : (lane : ℕ) → HasNoBack (windows lane) (highs lane)
  pub is : after_all (receiving begun (each 0)) es ≡ receiving windows floors

abbrev pub none_taken : Taken []
none_taken = record {
  windows = begun;
  highs = each 0;
  floors = each 0;
  each_is = λ lane. record { high_is = refl; width_is = refl; no_back = refl };
  is = refl;
}

-- without a back window a fresh number is above the highest
pub fresh_above : (window : Window) (high n end : ℕ) → HasNoBack window high → IsFresh window n end → high < n
fresh_above window high n end is fresh =
    ⊎_elim (λ (ahead : IsAhead window n). omega (arith, ahead.above, is.high_is))
    (λ (late : IsLate window (set.items window.taken) n). absurd (omega (arith, late.near, is.no_back))) fresh.place

-- and a number above it that is not too far is fresh
pub above_fresh : (window : Window) (high n end : ℕ) → HasNoBack window high → high < n → n ≤ high + 4294967296
    → n < end → IsFresh window n end
above_fresh window high n end is above within below = record {
  below_end = below;
  place = inl (record { above = omega (arith, is.high_is); within = omega (arith, is.high_is, is.width_is) });
}

accepted_by : (b : Bool) (number high other_high : ℕ) (window other : Window) → HasNoBack window high
    → HasNoBack other other_high → high < number
    → HasNoBack (if b then accepted number window else other) (if b then number else other_high)
accepted_by true number high other_high window other is is_other above =
    record { high_is = omega (arith, is.high_is); width_is = is.width_is; no_back = is.no_back }
accepted_by false number high other_high window other is is_other above = is_other

-- an entry that changes nothing
pub taken_nothing : (es : List Entry) (entry : Entry) → entry.change ≡ Nothing → (t : Taken es)
    → (more : Taken (es ++ entry ∷ [])) × (more.highs ≡ t.highs)
taken_nothing es entry nothing t = (
  record {
    windows = t.windows;
    highs = t.highs;
    floors = t.floors;
    each_is = t.each_is;
    is = after_more (receiving begun (each 0)) es (entry ∷ [])
        ∙ (ap (applied (after_all (receiving begun (each 0)) es)) nothing ∙ t.is);
  },
  refl,
)

-- a number more is accepted on a lane
pub taken_more : (es : List Entry) (entry : Entry) (lane number floor : ℕ) → lane < 4 → (t : Taken es)
    → t.highs lane < number → entry.change ≡ Accepted (lane + 1) (key_on lane) number floor
    → (more : Taken (es ++ entry ∷ [])) × (more.highs ≡ with_on lane number t.highs)
taken_more es entry lane number floor within t above change = (
  record {
    windows = with_on lane (accepted number (t.windows lane)) t.windows;
    highs = with_on lane number t.highs;
    floors = with_on lane (max (t.floors lane) floor) t.floors;
    each_is = λ other. accepted_by (nat_eq other lane) number (t.highs lane) (t.highs other) (t.windows lane)
        (t.windows other)
        (t.each_is lane) (t.each_is other) above;
    is = after_more (receiving begun (each 0)) es (entry ∷ [])
        ∙ (ap (λ (s : State). applied s entry.change) t.is
        ∙ (ap (applied (receiving t.windows t.floors)) change
        ∙ accepted_on t.windows t.floors number floor lane within));
  },
  refl,
)
