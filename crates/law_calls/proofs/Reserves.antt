-- The reserve of a number that a call drew: a stage of the call where it was made, and an answer where it was refused.
use Rattle.std.proofs.Common.{◌≡◌, ◌⊎◌, ℕ, ◌+◌, ◌<◌, ◌≤◌, Bool, List, [], ◌∷◌, ◌++◌, length, Some, Ok, Err, refl, sym}
use Rattle.std.proofs.Common.{◌∙◌, ap, subst, arith, inl, inr, length-append, ◌≢◌}
use Rattle.sdls_base.specs.KeyId.{end_of}
use Rattle.sdls_base.specs.declared.entry.Entry.{Entry}
use Rattle.key_book.specs.KeyBook.{place_of}
use Rattle.unit_plan.specs.PlanLines.{PlanLines}
use Rattle.unit_state.specs.declared.state.State.{State}
use Rattle.unit_state.specs.Applied.{applied}
use Rattle.unit_state.specs.History.{after_all}
use Rattle.unit_state.specs.Restart.{still}
use Rattle.unit_state.proofs.StateLaws.{light_still}
use Rattle.record_io.specs.declared.reader.RecordKind.TheVariants.{Monitor}
use Rattle.run_promise.specs.History.{drawers, IsLegal}
use Rattle.run_promise.specs.Fits.{MayAppend, IsUnmarked, state_after}
use Rattle.run_promise.specs.Log.{entries_of}
use Rattle.run_promise.specs.Numbers.{mark_of, reserve_of}
use Rattle.unit_book.specs.declared.fault.BookFault.{BookFault}
use Rattle.unit_book.specs.Book.{BookView, CanEnter, Made}
use Rattle.shared_unit.specs.Funding.{Reserves}
use Rattle.shared_unit.specs.Told.{known_of_book, entry_count}
use Rattle.shared_unit.proofs.Places.{place_there}
use Rattle.law_workers.specs.Views.{IsBetween}
use Rattle.law_workers.specs.Deeds.{course_in}
use Rattle.law_calls.specs.Answering.{Answered, fault_answer}
use Rattle.law_calls.proofs.Behind.{after_both, lines_entries}
use Rattle.law_calls.proofs.Visit.{plan_is, whole, led_known}
use Rattle.law_calls.proofs.Stages.{Call, Stage, Added, stage_found, barred, unstored}

module _ (told : Bool) (c : Call told)
    (may_draw : drawers (c.task ∷ []) ≡ 1) (key n row : ℕ) (place : place_of c.found.state.keys key ≡ Some row)
    (below : n < end_of key)
    (is_near : IsBetween c.begin c.old_view c.new_view key n) where
  abbrev entry : Entry
  entry = reserve_of c.found.plan c.found.state key n

  state_is : CanEnter c.found → c.found.state ≡ after_all c.begin.start (entries_of c.found.log)
  state_is can = (whole told c.begin c.found c.given c.taken c.new_view.turn c.began c.free c.visits can.0).0

  plan_same : c.found.plan ≡ c.begin.plan
  plan_same = plan_is told c.begin c.found c.given c.taken c.new_view.turn c.began c.free c.visits

  legal : CanEnter c.found → mark_of c.found.state key ≤ n
      → IsLegal (IsBetween c.begin c.old_view c.new_view) c.begin.plan
      (after_all c.begin.start (entries_of c.found.log))
      (c.task ∷ [])
      (reserve_of c.found.plan c.found.state key n)
  legal can unmarked =
      subst (λ (s : State). IsLegal (IsBetween c.begin c.old_view c.new_view) c.begin.plan s (c.task ∷ [])
      (reserve_of c.found.plan c.found.state key n)) (state_is can) (inr (inr (record {
        key = key;
        number = n;
        there = place_there c.found.state.keys key row place;
        is_near = is_near;
        unmarked = unmarked;
        below = below;
        entry_is = ap (λ (p : PlanLines). reserve_of p c.found.state key n) plan_same;
      })))

  -- behind the reserve
  made_stage : (middle : BookView) (position : ℕ) → mark_of c.found.state key ≤ n
      → Made (reserve_of c.found.plan c.found.state key n) c.found middle position
      → Stage told c middle (reserve_of c.found.plan c.found.state key n ∷ [])
  made_stage middle position unmarked m =
      let e : Entry = reserve_of c.found.plan c.found.state key n in
      let is = m.1.is in
      let all = c.visits.found_kept.whole m.0.0 in
      let entries : entries_of middle.log ≡ entries_of c.found.log ++ e ∷ [] =
      ap (λ (b : BookView). entries_of b.log) is ∙ lines_entries c.found.log (e ∷ []) in
      let size : length (entries_of middle.log) ≡ length (entries_of c.found.log) + 1 =
      ap length entries ∙ length-append (entries_of c.found.log) (e ∷ []) in
      let stand : middle.standing ≡ c.found.standing + 1 = ap (λ (b : BookView). b.standing) is in
      record {
        log = ap (λ (b : BookView). b.log) is;
        state = λ _. ap (λ (b : BookView). b.state) is ∙ ap (λ (s : State). applied s e.change) (state_is m.0)
            ∙ sym (after_both c.begin.start (entries_of c.found.log) (e ∷ []))
            ∙ ap (after_all c.begin.start) (sym entries);
        opened = ap (λ (b : BookView). b.opened) is;
        clean = λ _. m.0.0;
        standing = omega arith;
        all_stand = λ _. omega arith;
        legal = (legal m.0 unmarked, tt);
        none = λ index. refl;
        few = omega arith;
      }

  -- a reserve that succeeded: the stage behind it, whose state differs in marks alone
  pub record Reserved (middle : BookView) : Type 0 where
    pub es : List Entry
    pub es_are : (es ≡ []) ⊎ (es ≡ reserve_of c.found.plan c.found.state key n ∷ [])
    pub stage : Stage told c middle es
    pub still_is : still middle.state ≡ still c.found.state
    pub plan_still : middle.plan ≡ c.found.plan

  pub reserved : (mark : ℕ) (middle : BookView) → Reserves key n (Ok mark) c.found middle → Reserved middle
  reserved mark middle (above, is, inl (marked, same)) = record {
    es = [];
    es_are = inl refl;
    stage = subst (λ (b : BookView). Stage told c b []) (sym same) (stage_found told c);
    still_is = ap (λ (b : BookView). still b.state) same;
    plan_still = ap (λ (b : BookView). b.plan) same;
  }
  reserved mark middle (above, is, inr (unmarked, (position, m))) = record {
    es = reserve_of c.found.plan c.found.state key n ∷ [];
    es_are = inr refl;
    stage = made_stage middle position unmarked m;
    still_is = ap (λ (b : BookView). still b.state) m.1.is
        ∙ light_still c.found.state (reserve_of c.found.plan c.found.state key n).change tt;
    plan_still = ap (λ (b : BookView). b.plan) m.1.is;
  }

  unmarked_at : (p : ℕ) → state_after (course_in c.begin c.new_view) p ≡ c.found.state → mark_of c.found.state key ≤ n
      → IsUnmarked (IsBetween c.begin c.old_view c.new_view) (state_after (course_in c.begin c.new_view) p) key n
  unmarked_at p same unmarked = subst (λ (s : State). IsUnmarked (IsBetween c.begin c.old_view c.new_view) s key n)
      (sym same)
      (record { is_near = is_near; unmarked = unmarked; below = below })

  -- A reserve that was refused. The record may need it, by what else is known of it.
  pub refused : c.task.kind ≢ Monitor → (numbers : Added told c) (fault : BookFault) (position : ℕ)
      → position ≡ entry_count (known_of_book c.given) → Reserves key n (Err fault) c.found c.given
      → ((p : ℕ) → c.found.standing ≤ p → state_after (course_in c.begin c.new_view) p ≡ c.found.state
      → IsUnmarked (IsBetween c.begin c.old_view c.new_view) (state_after (course_in c.begin c.new_view) p) key n
      → MayAppend (IsBetween c.begin c.old_view c.new_view) (course_in c.begin c.new_view) p c.task)
      → Answered c.layout c.begin c.segment c.old_view c.new_view c.task (fault_answer fault position)
  refused plain numbers fault position is (unmarked, inl (is_barred, same)) may =
      let at : state_after (course_in c.begin c.new_view) c.found.standing ≡ c.found.state =
      sym (led_known told c.begin c.found c.given c.taken c.new_view.turn c.began c.free c.visits) in
      barred told c c.found [] (stage_found told c) numbers same plain fault position is is_barred
      (inr (may c.found.standing (omega arith) at (unmarked_at c.found.standing at unmarked)))
  refused plain numbers fault position is (unmarked, inr (can, fails)) may =
      let low = c.visits.found_kept.stands in
      unstored told c c.found [] (stage_found told c) (reserve_of c.found.plan c.found.state key n) numbers can
      (legal can unmarked) (λ index. omega arith) (omega arith) plain fault position is fails
      (λ same stored. may (length (entries_of c.found.log)) low same
      (unmarked_at (length (entries_of c.found.log)) same unmarked))
