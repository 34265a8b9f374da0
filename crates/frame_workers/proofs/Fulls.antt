-- A history that is full stays so while the views grow apart; and a worker that was split off and joined at once.
use Rattle.std.proofs.Common.{◌≡◌, ℕ, ◌+◌, ◌<◌, List, [], ◌++◌, length, sym, ◌∙◌, ap, subst, inl, inr, ⊎_elim, arith}
use Rattle.std.proofs.Common.{append-nil, append_assoc, length-append, true, false}
use Rattle.sdls_base.specs.declared.entry.Logged.{Logged}
use Rattle.counter_table.specs.declared.view.Opening.{Opening}
use Rattle.counter_table.specs.declared.view.View.{View}
use Rattle.sdls_outside.specs.Faults.{Rose}
use Rattle.record_io.specs.declared.item_cursor.Record.{Record}
use Rattle.run_promise.specs.declared.end.TheConstants.{MOST_ENTRIES}
use Rattle.run_promise.specs.Call.{Begin}
use Rattle.law_workers.specs.Counts.{is_of_record, count_at}
use Rattle.law_workers.specs.Views.{KnowsMore, keeping, starting, meeting, Meets, log_of, entries_in}
use Rattle.law_workers.specs.Work.{indexed}
use Rattle.law_workers.specs.Deeds.{Does}
use Rattle.run_promise.specs.Deed.{Deed}
use Rattle.law_workers.specs.Order.{Layout, Handled}
use Rattle.law_workers.proofs.Logs.{count_at_both, count_kept, same_behind}
use Rattle.law_workers.proofs.Working.{grown_entries, may_later}
use Rattle.law_workers.proofs.Handling.{handled_nothing, handled_then, handled_beside}
use Rattle.law_workers.specs.Ends.{IsFullFor}

pub full_stays : (begin : Begin) (u v w z : View) (task : Record) → KnowsMore u v → KnowsMore w z
    → IsFullFor begin v w task
    → ((made : List ℕ) → z.turn.made ≡ u.turn.made ++ made → count_at (is_of_record task.index) (log_of z) made ≡ 0)
    → IsFullFor begin u z task
full_stays begin u v w z task low high is none = record {
  full = (let (rest, more) = grown_entries w z high in
      let size : length (entries_in z) ≡ length (entries_in w) + length rest =
      ap length more ∙ length-append (entries_in w) rest in
      let few = is.full in omega arith);
  stood = let a = is.stood in let b = high.earlier.standing in omega arith;
  not_failed = λ risen. is.not_failed (
      let f = low.earlier.faults in
      subst (λ (o : Opening). Rose o.faults v.turn.known.faults) (sym low.opening) (omega arith));
  due = ⊎_elim inl (λ may. inr (may_later begin u v w z low high task MOST_ENTRIES is.full may)) is.due;
  unmade = none;
}

-- who made no entry of a record last, and had not its number before, made none
pub none_before : (begin : Begin) (u v w : View) (ts : List Record) (ds : List Deed) (index : ℕ)
    (x : Does begin u v ts ds) → KnowsMore v w
    → (later : List ℕ) → w.turn.made ≡ v.turn.made ++ later → indexed index ts ≡ 0
    → count_at (is_of_record index) (log_of w) later ≡ 0
    → (made : List ℕ) → w.turn.made ≡ u.turn.made ++ made → count_at (is_of_record index) (log_of w) made ≡ 0
none_before begin u v w ts ds index x grows later later_is apart none made is =
    let same : made ≡ x.gains.made ++ later = same_behind u.turn.made made (x.gains.made ++ later)
    (sym is ∙ (later_is ∙ (ap (λ (l : List ℕ). l ++ later) x.gained.made ∙ append_assoc u.turn.made x.gains.made
    later))) in
    let log_is : log_of w ≡ log_of v ++ grows.earlier.log.0 = grows.earlier.log.1 in
    let kept : count_at (is_of_record index) (log_of w) x.gains.made
    ≡ count_at (is_of_record index) (log_of v) x.gains.made =
    ap (λ (l : List Logged). count_at (is_of_record index) l x.gains.made) log_is
    ∙ count_kept (is_of_record index) (log_of v) grows.earlier.log.0 x.gains.made
    (λ place there. (x.works.made place there).1) in
    let few = x.works.one_entry index in
    let both = count_at_both (is_of_record index) (log_of w) x.gains.made later in
    ap (count_at (is_of_record index) (log_of w)) same ∙ (let a = both in let b = none in let c = kept in let d = few in
    let e = apart in omega arith)

-- a worker that is split off and joined at once
pub looked_back : (layout : Layout) (begin : Begin) (u v : View) (ts : List Record) (ds : List Deed)
    → Handled layout begin u v ts ds → 1 < v.numbers.shares
    → v.turn.holds ≡ false → v.turn.filled ≡ true → Meets begin.rows (keeping v) (starting v)
    → Handled layout begin u (meeting (keeping v) (starting v)) ts ds
looked_back layout begin u v ts ds done two free filled meet =
    let z : View = meeting (keeping v) (starting v) in
    let idle : Handled layout begin v z [] [] =
    handled_beside layout begin v (keeping v) (starting v) [] [] [] [] (handled_nothing layout begin (keeping v) [])
    (handled_nothing layout begin (starting v) [])
    two free filled meet (λ i j a b. absurd (omega arith)) (λ i d l j e m. absurd (omega arith)) in
    subst (λ (l : List Record). Handled layout begin u z l ds) (append-nil ts)
    (subst (Handled layout begin u z (ts ++ [])) (append-nil ds)
    (handled_then layout begin u v z ts [] ds [] done idle (λ i j a b. absurd (omega arith))
    (λ i d l j e m. absurd (omega arith))))
