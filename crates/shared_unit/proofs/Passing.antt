-- The parts of a call, put together: what became of the turn.
use Rattle.std.proofs.Common.{◌≡◌, ◌⊎◌, inl, inr, ℕ, ◌+◌, ◌<◌, ◌≤◌, Bool, [], Option, Some, None, Result, Ok, Err, refl}
use Rattle.std.proofs.Common.{sym}
use Rattle.std.proofs.Common.{ap, subst, ◌∙◌, append-nil, arith}
use Rattle.unit_plan.specs.PlanLines.{PlanLines}
use Rattle.counter_table.specs.declared.view.Opening.{Opening}
use Rattle.counter_table.specs.declared.view.Turn.{Turn}
use Rattle.counter_table.specs.declared.counters.Counters.{Counters}
use Rattle.counter_table.specs.declared.counters.Worker.{Worker}
use Rattle.counter_table.specs.Turn.{epoch_seen, loading, seeing}
use Rattle.counter_table.specs.Worker.{view, IsSame}
use Rattle.unit_book.specs.declared.fault.BookFault.{BookFault}
use Rattle.unit_book.specs.declared.fault.BookFault.TheVariants.{SiteFault, Stopped, SessionFull, NoMemory}
use Rattle.unit_book.specs.Book.{BookView, IsBarred, IsUnstored, CanEnter, Made}
use Rattle.run_promise.specs.Numbers.{mark_of, reserve_of}
use Rattle.shared_unit.specs.declared.permit.Permit.{Permit}
use Rattle.shared_unit.specs.Told.{known_of_book}
use Rattle.shared_unit.specs.Turn.{IsReady, Visits, KnowsMoreOfBook, Loads, LoadsAtMostOnce}
use Rattle.shared_unit.specs.Funding.{Reserves}
use Rattle.shared_unit.specs.Protecting.{AddsReserve, Looks, MayTakeTurn, TakesTurn, TakesAtMostOnce, IsTrueIfKept}
use Rattle.shared_unit.proofs.Steps.{takes_grows}
use Rattle.shared_unit.proofs.Trust.{permit_stays}

-- a reserve turns no epoch
pub reserves_changes : (key n : ℕ) (result : Result ℕ BookFault) (found given : BookView)
    → Reserves key n result found given → given.changes ≡ found.changes
reserves_changes key n (Ok mark) found given h = by_case h.2 where
  by_case : ((n < mark_of found.state key) × (given ≡ found))
      ⊎ ((mark_of found.state key ≤ n)
      × ((position : ℕ) × Made (reserve_of found.plan found.state key n) found given position))
      → given.changes ≡ found.changes
  by_case (inl p) = ap (λ (b : BookView). b.changes) p.1
  by_case (inr p) = let e = ap (λ (b : BookView). b.changes) p.1.1.1.is in omega arith
reserves_changes key n (Err fault) found given h = by_case h.1 where
  by_fault : (f : BookFault) → IsUnstored (reserve_of found.plan found.state key n) found given f
      → given.changes ≡ found.changes
  by_fault (SiteFault count) u = ap (λ (b : BookView). b.changes) u.3
  by_fault (Stopped count) u = absurd u
  by_fault SessionFull u = absurd u
  by_fault NoMemory u = absurd u

  by_case : (IsBarred found fault × (given ≡ found))
      ⊎ (CanEnter found × IsUnstored (reserve_of found.plan found.state key n) found given fault)
      → given.changes ≡ found.changes
  by_case (inl p) = ap (λ (b : BookView). b.changes) p.1
  by_case (inr p) = by_fault fault p.1

pub same_twice : {B : Type 0} (a b c : Worker B) → IsSame a b → IsSame b c → IsSame a c
same_twice a b c one two = (two.0 ∙ one.0, two.1 ∙ one.1)

pub loads_from : (e : ℕ) (v u w : Turn) → u ≡ v → epoch_seen u ≤ e → w ≡ seeing e u → Loads e v w
loads_from e v u w same later is =
    record { later = subst (λ (t : Turn). epoch_seen t ≤ e) same later; is = is ∙ ap (seeing e) same }

pub ready_loaded : {B : Type 0} (counters : Counters B) (plan : PlanLines) (one other : Worker B) (e : ℕ)
    → IsReady counters plan one → IsSame one other
    → (view other).turn ≡ seeing e (view one).turn → IsReady counters plan other
ready_loaded counters plan one other e ready same is = record {
  own = same.0 ∙ ready.own;
  free = ap (λ (t : Turn). t.holds) is ∙ ready.free;
  filled = ap (λ (t : Turn). t.filled) is ∙ ready.filled;
  planned = ap (λ (t : Turn). t.known.opening.plan) is ∙ ready.planned;
}

pub ready_kept : {B : Type 0} (counters : Counters B) (plan : PlanLines) (one other : Worker B)
    → IsReady counters plan one → IsSame one other
    → (view other).turn ≡ (view one).turn → IsReady counters plan other
ready_kept counters plan one other ready same is = record {
  own = same.0 ∙ ready.own;
  free = ap (λ (t : Turn). t.holds) is ∙ ready.free;
  filled = ap (λ (t : Turn). t.filled) is ∙ ready.filled;
  planned = ap (λ (t : Turn). t.known.opening.plan) is ∙ ready.planned;
}

-- ---- the epoch was loaded once, or not at all

pub loaded_once : (e : ℕ) (v w : Turn) → Loads e v w → LoadsAtMostOnce 1 e v
loaded_once e v w l = record { later = (let a = l.later in omega arith); once = inl refl }

pub not_loaded : (v : Turn) → LoadsAtMostOnce 0 v.epoch v
not_loaded v = record { later = omega arith; once = inr (refl, refl) }

pub loading_none : (v : Turn) → loading 0 v.epoch v ≡ v
loading_none v = ap (λ (n : ℕ). record v { loads = n }) (let same : v.loads + 0 ≡ v.loads = omega arith in same)

-- where it was not loaded the worker knows what it knew
none_loaded : (count epoch : ℕ) (v : Turn) → LoadsAtMostOnce count epoch v → count ≡ 0 → loading count epoch v ≡ v
none_loaded count epoch v loads none = by_case loads.once where
  by_case : (count ≡ 1) ⊎ ((count ≡ 0) × (epoch ≡ v.epoch)) → loading count epoch v ≡ v
  by_case (inl one) = absurd (omega arith)
  by_case (inr same) = ap (λ (e : ℕ). loading count e v) same.1 ∙ ap (λ (n : ℕ). loading n v.epoch v) none
      ∙ loading_none v

pub loads_looks : (e : ℕ) (v w : Turn) → Loads e v w → Looks v w
loads_looks e v w l = record { count = 1; epoch = e; loads = loaded_once e v w l; is = l.is }

pub none_looks : (v w : Turn) → w ≡ v → Looks v w
none_looks v w is = record { count = 0; epoch = v.epoch; loads = not_loaded v; is = is ∙ sym (loading_none v) }

looks_still : (v w : Turn) → Looks v w → w.loads ≡ v.loads → w ≡ v
looks_still v w l still =
    let more = ap (λ (k : Turn). k.loads) l.is in l.is ∙ none_loaded l.count l.epoch v l.loads (omega arith)

module _ (told : Bool) where
  pub ready_after : {B : Type 0} (counters : Counters B) (plan : PlanLines) (one other : Worker B)
      (found given : BookView)
      → IsReady counters plan one → IsSame one other → Visits told found given (view one).turn (view other).turn
      → IsReady counters plan other
  ready_after counters plan one other found given ready same v =
      let is = v.takes.turn in
      record {
        own = same.0 ∙ ready.own;
        free = ap (λ (t : Turn). t.holds) is;
        filled = ap (λ (t : Turn). t.filled) is ∙ ready.filled;
        planned = ap (λ (t : Turn). t.known.opening.plan) is ∙ ap (λ (o : Opening). o.plan)
            (v.takes.opening ∙ v.takes.follows.opening) ∙ ready.planned;
      }

  pub visit_takes : (done : BookView → BookView → Type 0) (found given : BookView) (v w : Turn)
      → Visits told found given v w → done found given
      → TakesTurn told done v w
  visit_takes done found given v w visits does =
      record {
        count = 0;
        epoch = v.epoch;
        loads = not_loaded v;
        found = found;
        given = given;
        visits = subst (λ (k : Turn). Visits told found given k w) (sym (loading_none v)) visits;
        does = does;
      }

  pub loads_takes : (done : BookView → BookView → Type 0) (e : ℕ) (found given : BookView) (v u w : Turn) → Loads e v u
      → Visits told found given u w → done found given
      → TakesTurn told done v w
  loads_takes done e found given v u w l visits does =
      record {
        count = 1;
        epoch = e;
        loads = loaded_once e v u l;
        found = found;
        given = given;
        visits = subst (λ (k : Turn). Visits told found given k w) l.is visits;
        does = does;
      }

  -- the turn was taken, and the epoch not loaded
  takes_still : (done : BookView → BookView → Type 0) (v w : Turn) (t : TakesTurn told done v w) → w.loads ≡ v.loads
      → Visits told t.found t.given v w
  takes_still done v w t still =
      let more = ap (λ (k : Turn). k.loads) t.visits.takes.turn in
      subst (λ (k : Turn). Visits told t.found t.given k w) (none_loaded t.count t.epoch v t.loads (omega arith))
      t.visits

  pub takes_on : (done : BookView → BookView → Type 0) (v u w : Turn) → ((u ≡ v) ⊎ ((epoch : ℕ) × Loads epoch v u))
      → w.loads ≡ u.loads → TakesTurn told done u w
      → TakesTurn told done v w
  takes_on done v u w (inl same) still t = subst (λ (k : Turn). TakesTurn told done k w) same t
  takes_on done v u w (inr l) still t =
      loads_takes done l.0 t.found t.given v u w l.1 (takes_still done u w t still) t.does

  pub may_on : (done : BookView → BookView → Type 0) (v u w : Turn) → ((u ≡ v) ⊎ ((epoch : ℕ) × Loads epoch v u))
      → w.loads ≡ u.loads → MayTakeTurn told done u w
      → MayTakeTurn told done v w
  may_on done v u w (inl same) still t = subst (λ (k : Turn). MayTakeTurn told done k w) same t
  may_on done v u w (inr l) still (inl look) = inl (record {
    count = 1;
    epoch = l.0;
    loads = loaded_once l.0 v u l.1;
    is = looks_still u w look still ∙ l.1.is;
  })
  may_on done v u w (inr l) still (inr t) = inr (takes_on done v u w (inr l) still t)

  abbrev Once : BookView → BookView → Type 0
  Once found given = (key : ℕ) × AddsReserve told key found given

  pub passes_loads : (e : ℕ) (v w : Turn) → Loads e v w → TakesAtMostOnce told v w
  passes_loads e v w l = inl (loads_looks e v w l)

  pub passes_none : (v w : Turn) → w ≡ v → TakesAtMostOnce told v w
  passes_none v w is = inl (none_looks v w is)

  pub passes_served : (key : ℕ) (found given : BookView) (v w : Turn) → Visits told found given v w
      → AddsReserve told key found given → TakesAtMostOnce told v w
  passes_served key found given v w s a = inr (visit_takes Once found given v w s (key, a))

  pub passes_funded : (p : Permit) (n : ℕ) (result : Result ℕ BookFault) (v u w : Turn) (found given : BookView)
      → Loads p.epoch v u → Visits told found given u w → Reserves p.binding.key n result found given
      → TakesAtMostOnce told v w
  passes_funded p n result v u w found given l s r =
      inr (loads_takes Once p.epoch found given v u w l s (p.binding.key, inr (n, result, r)))

  looks_grows : (v w : Turn) → Looks v w → KnowsMoreOfBook v w
  looks_grows v w l = subst (λ (t : Turn). KnowsMoreOfBook v t) (sym l.is) (record {
    earlier = record {
      log = ([], sym (append-nil v.known.log));
      changes = omega arith;
      faults = omega arith;
      standing = omega arith;
      put_faults = omega arith;
      stopped = λ _. refl;
      stood = λ _. refl;
    };
    sparing = (omega arith, λ rose low all. rose);
    opening = refl;
    epoch = l.loads.later;
  })

  pub passes_grows : (v w : Turn) → TakesAtMostOnce told v w → KnowsMoreOfBook v w
  passes_grows v w (inl look) = looks_grows v w look
  passes_grows v w (inr t) =
      let g = takes_grows (known_of_book t.found) (known_of_book t.given) (loading t.count t.epoch v) w
      t.visits.takes in
      record {
        earlier = record {
          log = g.earlier.log;
          changes = g.earlier.changes;
          faults = g.earlier.faults;
          standing = g.earlier.standing;
          put_faults = g.earlier.put_faults;
          stopped = g.earlier.stopped;
          stood = g.earlier.stood;
        };
        sparing = g.sparing;
        opening = g.opening;
        epoch = (let a = t.loads.later in let b = g.epoch in omega arith);
      }

  pub kept_stays : (o : Option Permit) (v w : Turn) → TakesAtMostOnce told v w → IsTrueIfKept o v → IsTrueIfKept o w
  kept_stays None v w p k = k
  kept_stays (Some q) v w p k = permit_stays q v w (passes_grows v w p) k

  pub passes_on : (v u w : Turn) → ((u ≡ v) ⊎ ((epoch : ℕ) × Loads epoch v u)) → w.loads ≡ u.loads
      → TakesAtMostOnce told u w
      → TakesAtMostOnce told v w
  passes_on v u w h still p = may_on Once v u w h still p
