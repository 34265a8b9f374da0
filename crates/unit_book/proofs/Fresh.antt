-- A book that begins.
use Rattle.std.proofs.Common.{◌≡◌, ℕ, Bool, IsTrue, List, [], ◌∷◌, ◌++◌, length, refl, sym, ap, subst, arith}
use Rattle.std.proofs.lemmas.List.{take_all}
use Rattle.sdls_outside.specs.Disk.{Leaves}
use Rattle.sdls_outside.specs.Moments.{Trace, Between}
use Rattle.sdls_outside.proofs.Moments.{each_same, synced_leaves}
use Rattle.unit_image.specs.Image.{held, IsAtRest, IsSettled, JournalView}
use Rattle.unit_plan.specs.PlanLines.{PlanLines}
use Rattle.unit_state.specs.declared.state.State.{State}
use Rattle.unit_state.specs.State.{KeepsRules}
use Rattle.unit_state.specs.Restart.{restarted}
use Rattle.unit_image.specs.Shows.{Shows}
use Rattle.run_promise.specs.Call.{SiteSeen}
use Rattle.unit_book.specs.Book.{ShowsFrom, Serves, IsHistory, IsKept, begun}
use Rattle.unit_book.proofs.MarksKept.{marks_same}
use Rattle.unit_book.proofs.Growing.{shows_from_all}
use Rattle.unit_book.proofs.PlanStays.{plan_fresh}

append_nil : (octets : List ℕ) → octets ++ [] ≡ octets
append_nil [] = refl
append_nil (o ∷ octets) = ap (λ (rest : List ℕ). o ∷ rest) (append_nil octets)

fresh_history : (now : Trace) (start : State) (journal : JournalView) → IsSettled now journal
    → Shows now.now.image (restarted start)
    → IsHistory now now start [] 0
fresh_history now start journal settled shows =
    let before : List ℕ = now.now.sunk in
    let shows_now : (image : List ℕ) → Leaves now.now image → ShowsFrom start [] 0 image = λ image leaves.
    let same : image ≡ now.now.image = synced_leaves now.now image settled.synced leaves in
    subst (λ (octets : List ℕ). ShowsFrom start [] 0 octets) (sym same)
    (shows_from_all start [] now.now.image shows settled.of_image.closed.rests) in
    let rests : (image : List ℕ) → Leaves now.now image → IsAtRest image = λ image leaves.
    subst IsAtRest (sym (synced_leaves now.now image settled.synced leaves)) settled.of_image.closed.rests in
    let here : Between (before ++ []) (before ++ []) before =
    subst (λ (octets : List ℕ). Between octets octets before) (sym (append_nil before))
    (record { least = omega arith; prefix = sym (take_all (length before) before (omega arith)) }) in
    record {
      sunk = sym (append_nil before);
      moments = each_same now (Serves start [] 0 before) (λ image leaves. record {
        place = 0;
        within = omega arith;
        sinks = here;
        shows = shows_now image leaves;
      });
      shows_now = shows_now;
      idle = λ none. record { moments = each_same now (λ image sunk. IsAtRest image) rests; rests_now = rests };
    }

pub fresh_kept : (told : Bool) (site : SiteSeen) (image : List ℕ) (plan : PlanLines) (start : State)
    (journal : JournalView)
    → KeepsRules start → (IsTrue told → IsSettled site.trace journal)
    → (IsTrue told → Shows site.trace.now.image (restarted start))
    → (IsTrue told → (held site.trace.now.image).plan ≡ (held image).plan)
    → IsKept told (begun site image plan start journal)
fresh_kept told site image plan start journal rules settled shows same_plan = record {
  later = omega arith;
  stands = omega arith;
  few_left = omega arith;
  led = refl;
  begins = rules;
  rules = rules;
  marks = λ none. marks_same start;
  room = omega arith;
  epoch = refl;
  whole = λ not. refl;
  history = λ is_told. fresh_history site.trace start journal (settled is_told) (shows is_told);
  current = λ is_told not. record {
    settled = settled is_told;
    shows = shows is_told;
  };
  plan_stays = λ is_told. plan_fresh site.trace journal (held image).plan (settled is_told) (same_plan is_told);
  outside = λ is_told not. record {
    beside = record { same_length = refl; outside = λ i off. refl };
    same_plan = same_plan is_told;
  };
}

-- the same, as the fields of a new book show it
pub fresh_shown : (told : Bool) (site opened : SiteSeen) (image : List ℕ) (plan : PlanLines) (state start : State)
    (journal : JournalView)
    → opened ≡ site → start ≡ state → KeepsRules state → (IsTrue told → IsSettled site.trace journal)
    → (IsTrue told → Shows site.trace.now.image (restarted state))
    → (IsTrue told → (held site.trace.now.image).plan ≡ (held image).plan)
    → IsKept told (record (begun site image plan state journal) { opened = opened; start = start })
fresh_shown told site opened image plan state start journal same_site same_state rules settled shows same_plan =
    subst (λ (o : SiteSeen). IsKept told (record (begun site image plan state journal) { opened = o; start = start }))
    (sym same_site)
    (subst (λ (s : State). IsKept told (record (begun site image plan state journal) { start = s })) (sym same_state)
    (fresh_kept told site image plan state journal rules settled shows same_plan))
