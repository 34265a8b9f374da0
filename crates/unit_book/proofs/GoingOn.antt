-- A call that leaves a book which goes on.
use Rattle.std.proofs.Common.{◌≡◌, ℕ, ◌+◌, ◌≤◌, false, List, [], ◌∷◌, ◌++◌, length, length-append, Result, Ok, Err}
use Rattle.std.proofs.Common.{refl, sym, ◌∙◌, ap, subst, arith}
use Rattle.std.specs.Prelude.{MatchResult, IfErr, OnOk}
use Rattle.std.proofs.lemmas.List.{append_assoc}
use Rattle.sdls_base.specs.declared.entry.Entry.{Entry}
use Rattle.sdls_base.specs.declared.entry.Logged.{Logged}
use Rattle.sdls_base.specs.declared.entry.Logged.TheVariants as logged
use Rattle.sdls_outside.specs.Faults.{Rose}
use Rattle.unit_state.specs.Applied.{applied}
use Rattle.unit_state.proofs.StateLaws.{places_kept}
use Rattle.run_promise.specs.Call.{SiteSeen}
use Rattle.unit_book.specs.declared.fault.BookFault.{BookFault}
use Rattle.unit_book.specs.declared.fault.BookFault.TheVariants.{SiteFault, Stopped, SessionFull, NoMemory}
use Rattle.run_promise.specs.Log.{entries_of}
use Rattle.unit_book.specs.Marks.{is_release, HasNoRelease, KeepsMarks}
use Rattle.unit_book.specs.Book.{BookView, IsBarred, IsUnstored, CanEnter, Enters, PutFails, left_out, with_put}
use Rattle.unit_book.specs.LeavesBook.{LeavesBook, IsCalm, TellsRise}
use Rattle.unit_book.proofs.MarksKept.{marks_same, marks_then, no_release_parts, no_release_last}

append_none : {X : Type 0} (xs : List X) → xs ≡ xs ++ []
append_none {X} [] = refl
append_none {X} (x ∷ xs) = ap (λ rest. x ∷ rest) (append_none xs)

-- a book that is as it was
pub goes_same : (book : BookView) → LeavesBook book book
goes_same book = record {
  opened = refl;
  image = refl;
  plan = refl;
  start = refl;
  added = [];
  log = append_none book.log;
  later = omega arith;
  standing = omega arith;
  changes = omega arith;
  stopped = λ rose. refl;
  stood = λ rose. refl;
  places = λ id place is. is;
  marks = λ none. marks_same book.state;
}

entries_append : (log more : List Logged) → entries_of (log ++ more) ≡ entries_of log ++ entries_of more
entries_append [] more = refl
entries_append (logged.Entry entry ∷ log) more = ap (λ (rest : List Entry). entry ∷ rest) (entries_append log more)
entries_append (logged.Piece octets ∷ log) more = entries_append log more

-- one call after another
pub goes_then : (old mid new : BookView) → LeavesBook old mid → LeavesBook mid new → LeavesBook old new
goes_then old mid new first next = record {
  opened = next.opened ∙ first.opened;
  image = next.image ∙ first.image;
  plan = next.plan ∙ first.plan;
  start = next.start ∙ first.start;
  added = first.added ++ next.added;
  log = next.log ∙ ap (λ (log : List Logged). log ++ next.added) first.log
      ∙ append_assoc old.log first.added next.added;
  later = let one : old.site.faults ≤ mid.site.faults = first.later in let other : mid.site.faults ≤ new.site.faults =
      next.later in omega arith;
  standing = let one : old.standing ≤ mid.standing = first.standing in let other : mid.standing ≤ new.standing =
      next.standing in omega arith;
  changes = let one : old.changes ≤ mid.changes = first.changes in let other : mid.changes ≤ new.changes =
      next.changes in omega arith;
  stood = λ rose.
      let low : old.site.faults ≤ mid.site.faults = first.later in
      let still : Rose mid.opened.faults mid.site.faults =
      subst (λ (o : SiteSeen). Rose o.faults mid.site.faults) (sym first.opened)
      (rose_later old.opened.faults old.site.faults mid.site.faults low rose) in
      next.stood still ∙ first.stood rose;
  stopped = λ rose.
      let later : old.site.faults ≤ mid.site.faults = first.later in
      let still : Rose mid.opened.faults mid.site.faults =
      subst (λ (o : SiteSeen). Rose o.faults mid.site.faults) (sym first.opened)
      (rose_later old.opened.faults old.site.faults mid.site.faults later rose) in
      entries_append first.added next.added
      ∙ ap (λ (entries : List Entry). entries ++ entries_of next.added) (first.stopped rose) ∙ next.stopped still;
  places = λ id place is. next.places id place (first.places id place is);
  marks = λ none.
      let parts : HasNoRelease (entries_of first.added) × HasNoRelease (entries_of next.added) =
      no_release_parts (entries_of first.added) (entries_of next.added)
      (subst HasNoRelease (entries_append first.added next.added) none) in
      marks_then old.state mid.state new.state (first.marks parts.0) (next.marks parts.1);
}
  where
    rose_later : (before mid now : ℕ) → mid ≤ now → Rose before mid → Rose before now
    rose_later before mid now low rose = omega arith

-- octets were put
pub goes_put : (piece : List ℕ) (old new : BookView) (site : SiteSeen) → old.site.faults ≤ site.faults
    → new ≡ with_put piece (record old { site = site }) → LeavesBook old new
goes_put piece old new site low is = subst (LeavesBook old) (sym is) (record {
  opened = refl;
  image = refl;
  plan = refl;
  start = refl;
  added = logged.Piece piece ∷ [];
  log = refl;
  later = low;
  standing = omega arith;
  changes = omega arith;
  stopped = λ rose. refl;
  stood = λ rose. refl;
  places = λ id place is. is;
  marks = λ none. marks_same old.state;
})

one_entry : (entry : Entry) → HasNoRelease (entry ∷ []) → is_release entry ≡ false
one_entry entry none = (no_release_last [] entry none).1

-- an entry was made
pub goes_entered : (entry : Entry) (old new : BookView) (position : ℕ)
    → (is_release entry ≡ false → KeepsMarks old.state (applied old.state entry.change)) → CanEnter old
    → old.site.faults ≤ new.site.faults → Enters entry old new position → LeavesBook old new
goes_entered entry old new position keeps can low made =
    subst (LeavesBook old) (sym made.is) (record {
      opened = refl;
      image = refl;
      plan = refl;
      start = refl;
      added = logged.Entry entry ∷ [];
      log = refl;
      later = subst (λ (b : BookView). old.site.faults ≤ b.site.faults) made.is low;
      standing = omega arith;
      changes = omega arith;
      stopped = λ rose. absurd (can.0 rose);
      stood = λ rose. absurd (can.0 rose);
      places = places_kept old.state entry.change;
      marks = λ none. keeps (one_entry entry none);
    })

-- an entry was not made, and is the last of the run where its append failed
pub goes_unstored : (entry : Entry) (old new : BookView) (fault : BookFault)
    → CanEnter old → old.site.faults ≤ new.site.faults → IsUnstored entry old new fault → LeavesBook old new
goes_unstored entry old new (SiteFault count) can low unstored =
    let is : new ≡ left_out entry (record old { site = new.site }) = unstored.3 in
    subst (LeavesBook old) (sym is) (record {
      opened = refl;
      image = refl;
      plan = refl;
      start = refl;
      added = logged.Entry entry ∷ [];
      log = refl;
      later = low;
      standing = omega arith;
      changes = omega arith;
      stopped = λ rose. absurd (can.0 rose);
      stood = λ rose. absurd (can.0 rose);
      places = λ id place there. there;
      marks = λ none. marks_same old.state;
    })
goes_unstored entry old new (Stopped count) can low unstored = absurd unstored
goes_unstored entry old new SessionFull can low unstored = absurd unstored
goes_unstored entry old new NoMemory can low unstored = absurd unstored

-- ---- a call in which no fault came, where all entries stand

pub calm_same : (book : BookView) → IsCalm book book
calm_same book = λ rose all. rose

pub calm_entered : (entry : Entry) (old new : BookView) (position : ℕ) → new.site.faults ≡ old.site.faults
    → Enters entry old new position → IsCalm old new
calm_entered entry old new position still made = λ rose all.
    let opened : new.opened.faults ≡ old.opened.faults = ap (λ (b : BookView). b.opened.faults) made.is in
    subst (λ (n : ℕ). Rose n old.site.faults) opened (subst (Rose new.opened.faults) still rose)

-- an entry whose append failed does not stand
pub calm_unstored : (entry : Entry) (old new : BookView) (fault : BookFault)
    → old.standing ≤ length (entries_of old.log)
    → IsUnstored entry old new fault → IsCalm old new
calm_unstored entry old new (SiteFault count) stands unstored = λ rose all.
    let standing : new.standing ≡ old.standing = ap (λ (b : BookView). b.standing) unstored.3 in
    let size : length (entries_of new.log) ≡ length (entries_of old.log) + 1 =
    ap (λ (b : BookView). length (entries_of b.log)) unstored.3
    ∙ ap length (entries_append old.log (logged.Entry entry ∷ [])) ∙ length-append (entries_of old.log)
    (entry ∷ []) in absurd (omega arith)
calm_unstored entry old new (Stopped count) stands unstored = absurd unstored
calm_unstored entry old new SessionFull stands unstored = absurd unstored
calm_unstored entry old new NoMemory stands unstored = absurd unstored

pub calm_committed : (entry : Entry) (old new : BookView) (result : Result ℕ BookFault)
    → old.standing ≤ length (entries_of old.log)
    → OnOk result (new.site.faults ≡ old.site.faults)
    → MatchResult result (Enters entry old new) (IsUnstored entry old new) → IsCalm old new
calm_committed entry old new (Ok position) stands still made = calm_entered entry old new position still made
calm_committed entry old new (Err fault) stands still unstored = calm_unstored entry old new fault stands unstored

-- ---- the count that a refusal tells

pub barred_tells : (book : BookView) (fault : BookFault) → IsBarred book fault → TellsRise book fault
barred_tells book (Stopped count) barred = barred
barred_tells book SessionFull barred = tt
barred_tells book (SiteFault count) barred = absurd barred
barred_tells book NoMemory barred = absurd barred

rose_since : (before mid now : ℕ) → before ≤ mid → Rose mid now → Rose before now
rose_since before mid now low rose = omega arith

pub unstored_tells : (entry : Entry) (old new : BookView) (fault : BookFault) → old.opened.faults ≤ old.site.faults
    → IsUnstored entry old new fault → TellsRise new fault
unstored_tells entry old new (SiteFault count) low unstored =
    let opened : new.opened ≡ old.opened = ap (λ (b : BookView). b.opened) unstored.3 in (
      subst (λ (o : SiteSeen). Rose o.faults new.site.faults) (sym opened)
          (rose_since old.opened.faults old.site.faults new.site.faults low unstored.1),
      unstored.2,
    )
unstored_tells entry old new (Stopped count) low unstored = absurd unstored
unstored_tells entry old new SessionFull low unstored = absurd unstored
unstored_tells entry old new NoMemory low unstored = absurd unstored

pub put_tells : (old new : BookView) (fault : BookFault) → old.opened.faults ≤ old.site.faults
    → new.opened ≡ old.opened → PutFails old.site.faults new.site.faults fault → TellsRise new fault
put_tells old new (SiteFault count) low opened fails = (
  subst (λ (o : SiteSeen). Rose o.faults new.site.faults) (sym opened)
      (rose_since old.opened.faults old.site.faults new.site.faults low fails.0),
  fails.1,
)
put_tells old new (Stopped count) low opened fails = absurd fails
put_tells old new SessionFull low opened fails = absurd fails
put_tells old new NoMemory low opened fails = absurd fails

-- ---- an entry that was to be made

pub goes_committed : (entry : Entry) (old new : BookView) (result : Result ℕ BookFault)
    → (is_release entry ≡ false → KeepsMarks old.state (applied old.state entry.change)) → CanEnter old
    → old.site.faults ≤ new.site.faults → MatchResult result (Enters entry old new) (IsUnstored entry old new)
    → LeavesBook old new
goes_committed entry old new (Ok position) keeps can low made = goes_entered entry old new position keeps can low made
goes_committed entry old new (Err fault) keeps can low unstored = goes_unstored entry old new fault can low unstored

pub marks_committed : (entry : Entry) (old new : BookView) (result : Result ℕ BookFault)
    → (is_release entry ≡ false → KeepsMarks old.state (applied old.state entry.change))
    → MatchResult result (Enters entry old new) (IsUnstored entry old new) → is_release entry ≡ false
    → KeepsMarks old.state new.state
marks_committed entry old new (Ok position) keeps made not =
    subst (λ (b : BookView). KeepsMarks old.state b.state) (sym made.is) (keeps not)
marks_committed entry old new (Err fault) keeps unstored not = marks_unstored entry old new fault unstored
  where
    marks_unstored : (entry : Entry) (old new : BookView) (fault : BookFault)
        → IsUnstored entry old new fault → KeepsMarks old.state new.state
    marks_unstored entry old new (SiteFault count) unstored =
        subst (λ (b : BookView). KeepsMarks old.state b.state) (sym unstored.3) (marks_same old.state)
    marks_unstored entry old new (Stopped count) unstored = absurd unstored
    marks_unstored entry old new SessionFull unstored = absurd unstored
    marks_unstored entry old new NoMemory unstored = absurd unstored

pub tells_committed : (entry : Entry) (old new : BookView) (result : Result ℕ BookFault)
    → old.opened.faults ≤ old.site.faults → MatchResult result (Enters entry old new) (IsUnstored entry old new)
    → IfErr result (TellsRise new)
tells_committed entry old new (Ok position) low made = tt
tells_committed entry old new (Err fault) low unstored = unstored_tells entry old new fault low unstored
