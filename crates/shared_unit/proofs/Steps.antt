-- A book that goes on may be given back, and the worker then took the turn once.
use Rattle.std.proofs.Common.{◌≡◌, ℕ, ◌+◌, ◌≤◌, Bool, List, [], ◌∷◌, ◌++◌, length, Result, Ok, Err, sym, ap, subst, ◌∙◌}
use Rattle.std.proofs.Common.{append-nil, append_assoc, arith}
use Rattle.std.specs.Prelude.{OnOk}
use Rattle.sdls_base.specs.declared.entry.Entry.{Entry}
use Rattle.sdls_base.specs.declared.entry.Logged.{Logged}
use Rattle.sdls_base.specs.declared.entry.Logged.TheVariants as logged
use Rattle.sdls_outside.specs.Faults.{Rose}
use Rattle.sdls_outside.specs.Site.{after_put}
use Rattle.unit_plan.specs.PlanLines.{PlanLines}
use Rattle.unit_state.specs.declared.state.State.{State}
use Rattle.counter_table.specs.declared.view.Known.{Known}
use Rattle.counter_table.specs.declared.view.Opening.{Opening}
use Rattle.counter_table.specs.declared.view.Turn.{Turn}
use Rattle.counter_table.specs.Known.{Earlier, IsSparing, LowersNoMark, MayGive, pieces}
use Rattle.counter_table.specs.Turn.{taking, giving, learning}
use Rattle.counter_table.specs.Play.{Follows}
use Rattle.run_promise.specs.Call.{SiteSeen}
use Rattle.run_promise.specs.Log.{entries_of}
use Rattle.unit_book.specs.Book.{BookView, IsKept}
use Rattle.shared_unit.specs.Told.{known_of_book}
use Rattle.run_promise.specs.Numbers.{marks_of}
use Rattle.unit_book.specs.Marks.{KeepsMarks as StateMarks}
use Rattle.unit_book.specs.declared.fault.BookFault.{BookFault}
use Rattle.unit_book.specs.LeavesBook.{LeavesBook, IsCalm}
use Rattle.shared_unit.specs.Turn.{KnowsMoreOfBook, TakesOnce, Visits}
use Rattle.shared_unit.specs.Going.{GoesUp}
use Rattle.unit_book.proofs.GoingOn.{goes_same}
use Rattle.shared_unit.proofs.Epochs.{entries_counted, entries_of-append}

pub record Continues (found given : Known) : Type 0 where
  pub marks : LowersNoMark found given
  pub earlier : Earlier found given
  pub sparing : IsSparing found given
  pub opening : given.opening ≡ found.opening

pub later_risen : (o a b : ℕ) → a ≤ b → Rose o a → Rose o b
later_risen o a b h p = omega arith

pub earlier_again : (a b c : Known) → Earlier a b → Earlier b c → c.opening ≡ b.opening → Earlier a c
earlier_again a b c one two opening = record {
  log = (
    one.log.0 ++ two.log.0,
    two.log.1 ∙ ap (λ (ls : List Logged). ls ++ two.log.0) one.log.1
        ∙ append_assoc a.log one.log.0 two.log.0,
  );
  changes = (let p = one.changes in let q = two.changes in omega arith);
  faults = (let p = one.faults in let q = two.faults in omega arith);
  standing = (let p = one.standing in let q = two.standing in omega arith);
  put_faults = (let p = one.put_faults in let q = two.put_faults in omega arith);
  stopped = λ r. two.stopped (later_risen _ a.faults b.faults one.faults r)
      ∙ one.stopped (subst (λ (o : Opening). Rose o.faults a.faults) opening r);
  stood = λ r. two.stood (later_risen _ a.faults b.faults one.faults r)
      ∙ one.stood (subst (λ (o : Opening). Rose o.faults a.faults) opening r);
}

pub sparing_again : (a b c : Known) → Earlier a b → Earlier b c → c.opening ≡ b.opening → IsSparing a b → IsSparing b c
    → IsSparing a c
sparing_again a b c first next same ab bc =
    let one = ab.0 in
    let two = bc.0 in
    let f = first.put_faults in
    let n = next.put_faults in (
      omega arith,
      λ rose low all.
          let o : c.opening.faults ≡ b.opening.faults = ap (λ (z : Opening). z.faults) same in
          let mid : Rose c.opening.faults b.faults = bc.1 rose (omega arith) all in
          let log = next.stopped mid in
          let stood = next.stood mid in
          subst (λ (z : ℕ). Rose z a.faults) (sym o)
          (ab.1 (subst (λ (z : ℕ). Rose z b.faults) o mid) (omega arith) (omega arith)),
    )

pub pieces-append : (xs ys : List Logged) → pieces (xs ++ ys) ≡ pieces xs + pieces ys
pieces-append [] ys = omega arith
pieces-append (line ∷ xs) ys = let h = pieces-append xs ys in omega arith

-- after a put no more failed than before, or one more
after_low : (result : Result (Unit {0}) BookFault) (n : ℕ) → (n ≤ after_put result n) × (after_put result n ≤ n + 1)
after_low (Ok done) n = (omega arith, omega arith)
after_low (Err fault) n = (omega arith, omega arith)

-- a call that puts nothing
pub goes_up : (old new : BookView) → LeavesBook old new → StateMarks old.state new.state
    → new.site.put_faults ≡ old.site.put_faults
    → IsCalm old new → GoesUp old new
goes_up old new goes marks same calm =
    let p = ap pieces goes.log in
    let q = pieces-append old.log goes.added in
    record { goes = goes; marks = marks; puts_later = omega arith; sparing = omega arith; calm = λ low. calm }

-- no fault came in a put that did not fail
calm_put : (result : Result (Unit {0}) BookFault) (old new : BookView) → new.opened ≡ old.opened
    → new.site.put_faults ≡ after_put result old.site.put_faults
    → OnOk result (new.site.faults ≡ old.site.faults) → new.site.put_faults ≤ old.site.put_faults → IsCalm old new
calm_put (Ok done) old new opened same still low = λ rose all.
    subst (λ (z : SiteSeen). Rose z.faults old.site.faults) opened (subst (Rose new.opened.faults) still rose)
calm_put (Err fault) old new opened same still low = absurd (omega arith)

-- a put
pub goes_up_put : (piece : List ℕ) (result : Result (Unit {0}) BookFault) (old new : BookView) → LeavesBook old new
    → StateMarks old.state new.state → new.log ≡ old.log ++ logged.Piece piece ∷ []
    → new.site.put_faults ≡ after_put result old.site.put_faults
    → OnOk result (new.site.faults ≡ old.site.faults) → GoesUp old new
goes_up_put piece result old new goes marks made same still =
    let p = ap pieces made in
    let q = pieces-append old.log (logged.Piece piece ∷ []) in
    let l = after_low result old.site.put_faults in
    record {
      goes = goes;
      marks = marks;
      puts_later = omega arith;
      sparing = omega arith;
      calm = λ low. calm_put result old new goes.opened same still low;
    }

pub goes_itself : (book : BookView) → GoesUp book book
goes_itself book = record {
  goes = goes_same book;
  marks = λ row. omega arith;
  puts_later = omega arith;
  sparing = omega arith;
  calm = λ low rose all. rose;
}

pub goes_unchanged : (old new : BookView) → new ≡ old → GoesUp old new
goes_unchanged old new same = subst (λ (book : BookView). GoesUp old book) (sym same) (goes_itself old)

pub goes_opening : (old new : BookView) → GoesUp old new → (known_of_book new).opening ≡ (known_of_book old).opening
goes_opening old new up =
    let g = up.goes in
    ap (λ (i : List ℕ). let o : Opening =
    record {
      image = i;
      plan = new.plan;
      start = new.start;
      trail = new.opened.trace;
      faults = new.opened.faults;
    } in o) g.image
    ∙ ap (λ (p : PlanLines). let o : Opening =
    record {
      image = old.image;
      plan = p;
      start = new.start;
      trail = new.opened.trace;
      faults = new.opened.faults;
    } in o) g.plan
    ∙ ap (λ (s : State). let o : Opening =
    record {
      image = old.image;
      plan = old.plan;
      start = s;
      trail = new.opened.trace;
      faults = new.opened.faults;
    } in o) g.start
    ∙ ap (λ (z : SiteSeen). let o : Opening =
    record { image = old.image; plan = old.plan; start = old.start; trail = z.trace; faults = z.faults } in
    o) g.opened

pub continues : (old new : BookView) → GoesUp old new → Continues (known_of_book old) (known_of_book new)
continues old new up =
    let g = up.goes in
    record {
      marks = up.marks;
      earlier = record {
        log = (g.added, g.log);
        changes = g.changes;
        faults = g.later;
        standing = g.standing;
        put_faults = up.puts_later;
        stood = λ risen. g.stood (subst (λ (z : SiteSeen). Rose z.faults old.site.faults) g.opened risen);
        stopped = λ risen.
            let none : entries_of g.added ≡ [] =
            g.stopped (subst (λ (z : SiteSeen). Rose z.faults old.site.faults) g.opened risen) in
            entries_counted new.log
            ∙ ap length (ap entries_of g.log ∙ entries_of-append old.log g.added
            ∙ ap (λ (es : List Entry). entries_of old.log ++ es) none
            ∙ append-nil (entries_of old.log))
            ∙ sym (entries_counted old.log);
      };
      sparing = (
        up.sparing,
        λ rose low all.
            let counted = entries_counted new.log in
            subst (λ (z : SiteSeen). Rose z.faults old.site.faults) (sym g.opened) (up.calm low rose (omega arith)),
      );
      opening = goes_opening old new up;
    }

-- a book that was found may be given back as it is then, where its changes are known
pub may_give : (known : Known) (found given : BookView) → known ≡ known_of_book found → GoesUp found given
    → given.changes ≡ found.changes → MayGive known (known_of_book given)
may_give known found given same g changes =
    let c = continues found given g in
    subst (λ (k : Known). MayGive k (known_of_book given)) (sym same)
    (record { marks = c.marks; earlier = c.earlier; sparing = c.sparing; opening = c.opening; changes = changes })

-- after a lift the holder knows the held book's marks
pub may_give_learned : (known : Known) (found given : BookView)
    → known ≡ record (known_of_book found) { marks = marks_of given.state }
    → GoesUp found given → given.changes ≡ found.changes → MayGive known (known_of_book given)
may_give_learned known found given same g changes =
    let c = continues found given g in
    subst (λ (k : Known). MayGive k (known_of_book given)) (sym same) (record {
      marks = λ row. omega arith;
      earlier = record {
        log = c.earlier.log;
        changes = c.earlier.changes;
        faults = c.earlier.faults;
        standing = c.earlier.standing;
        put_faults = c.earlier.put_faults;
        stopped = c.earlier.stopped;
        stood = c.earlier.stood;
      };
      sparing = c.sparing;
      opening = c.opening;
      changes = changes;
    })

pub keeps_more : (known : Known) (old new : BookView) → LowersNoMark known (known_of_book old) → GoesUp old new
    → LowersNoMark known (known_of_book new)
keeps_more known old new h g row = let a = h row in let b = g.marks row in omega arith

module _ (told : Bool) where
  pub visits : (found given : BookView) (v m w : Turn) → IsKept told found → IsKept told given
      → Follows v (known_of_book found) → GoesUp found given → m ≡ taking (known_of_book found) v
      → w ≡ giving (known_of_book given) m → Visits told found given v w
  visits found given v m w before after follows g took gave =
      let c = continues found given g in
      record {
        found_kept = before;
        given_kept = after;
        takes = record {
          follows = follows;
          earlier = c.earlier;
          sparing = c.sparing;
          opening = c.opening;
          turn = gave ∙ ap (giving (known_of_book given)) took;
        };
      }

  pub visits_learned : (found given : BookView) (v m w : Turn) → IsKept told found → IsKept told given
      → Follows v (known_of_book found) → GoesUp found given
      → m ≡ learning (marks_of given.state) (taking (known_of_book found) v)
      → w ≡ giving (known_of_book given) m → Visits told found given v w
  visits_learned found given v m w before after follows g took gave =
      let c = continues found given g in
      record {
        found_kept = before;
        given_kept = after;
        takes = record {
          follows = follows;
          earlier = c.earlier;
          sparing = c.sparing;
          opening = c.opening;
          turn = gave ∙ ap (giving (known_of_book given)) took;
        };
      }

-- what a worker knows grows when it takes the turn
pub takes_grows : (found given : Known) (v w : Turn) → TakesOnce found given v w → KnowsMoreOfBook v w
takes_grows found given v w s =
    let P : Turn → Type 0 = λ t. KnowsMoreOfBook v t in
    subst P (sym s.turn) (record {
      earlier = earlier_again v.known found given s.follows.earlier s.earlier s.opening;
      sparing = sparing_again v.known found given s.follows.earlier s.earlier s.opening s.follows.sparing s.sparing;
      opening = s.opening ∙ s.follows.opening;
      epoch = (let a = s.follows.epoch in let b = s.follows.earlier.changes in let c = s.earlier.changes in
          omega arith);
    })
