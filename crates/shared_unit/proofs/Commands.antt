-- The parts of a command, put together.
use Rattle.std.proofs.Common.{◌≡◌, ◌⊎◌, inl, inr, ℕ, ◌+◌, ◌<◌, Bool, true, false, if◌then◌else◌, List, ◌++◌, length}
use Rattle.std.proofs.Common.{append-nil, Option, Some, None, IsSome, IsSomeAnd, Ok, refl, sym, ap, subst, ◌∙◌, arith}
use Rattle.std.specs.Option.{option_map_or}
use Rattle.sdls_base.specs.declared.entry.Entry.{Entry}
use Rattle.sdls_base.specs.declared.entry.Seen.{Seen}
use Rattle.sdls_base.specs.declared.entry.Seen.TheVariants as sights
use Rattle.key_book.specs.declared.key_row.KeyRow.{KeyRow}
use Rattle.unit_state.specs.State.{key_row}
use Rattle.unit_state.specs.Restart.{counts, still}
use Rattle.ep_core.specs.declared.judging.Need.{Need}
use Rattle.ep_core.specs.declared.judging.Need.TheVariants as needs
use Rattle.ep_core.specs.declared.refusal.Reply.{Reply}
use Rattle.ep_core.specs.Seen.{MeetsNeed}
use Rattle.counter_table.specs.declared.view.Known.{Known}
use Rattle.counter_table.specs.declared.view.Numbers.{Numbers}
use Rattle.counter_table.specs.declared.view.Turn.{Turn}
use Rattle.counter_table.specs.Known.{MayGive}
use Rattle.counter_table.specs.Turn.{taking, giving, learning}
use Rattle.counter_table.specs.Play.{Follows}
use Rattle.run_promise.specs.History.{IsNeedOf, record_entry}
use Rattle.run_promise.specs.Log.{entries_of}
use Rattle.unit_book.specs.declared.fault.BookFault.{BookFault}
use Rattle.unit_book.specs.declared.fault.BookFault.TheVariants.{SiteFault, Stopped, SessionFull, NoMemory}
use Rattle.unit_book.specs.Marks.{KeepsMarks}
use Rattle.run_promise.specs.Numbers.{marks_of}
use Rattle.unit_book.specs.Book.{BookView, IsKept, IsUnstored}
use Rattle.unit_book.specs.Epoch.{epoch_state}
use Rattle.unit_book.specs.Records.{Handles, RefusesMessage}
use Rattle.run_promise.proofs.Needs.{need_one}
use Rattle.unit_book.proofs.KeptLaws.{kept_still, kept_changes}
use Rattle.unit_book.proofs.EpochStates.{alike_served}
use Rattle.unit_book.proofs.GoingOn.{goes_then}
use Rattle.shared_unit.specs.Told.{known_of_book}
use Rattle.shared_unit.specs.Going.{GoesUp}
use Rattle.shared_unit.specs.Turn.{Visits}
use Rattle.shared_unit.specs.Sharing.{KnowsHeld}
use Rattle.shared_unit.specs.Commanding.{Satisfies, knowing}
use Rattle.shared_unit.proofs.Epochs.{entries_of-append, state_at_stays}
use Rattle.shared_unit.proofs.Places.{place_there}
use Rattle.shared_unit.proofs.Reserved.{reserves_place}
use Rattle.shared_unit.proofs.Steps.{continues, goes_opening}
use Rattle.shared_unit.proofs.Passing.{reserves_changes}

above_held : (o : Option KeyRow) (n : ℕ) → IsSome o → n < option_map_or (λ (held : KeyRow). held.mark) o 1
    → IsSomeAnd o (λ held. n < held.mark)
above_held (Some held) n there h = h
above_held None n there h = absurd (cc)

pub goes_up_then : (a b c : BookView) → GoesUp a b → GoesUp b c → GoesUp a c
goes_up_then a b c one two = record {
  goes = goes_then a b c one.goes two.goes;
  marks = λ row. (let p = one.marks row in let q = two.marks row in omega arith);
  puts_later = (let p = one.puts_later in let q = two.puts_later in omega arith);
  sparing = (let p = one.sparing in let q = two.sparing in omega arith);
  calm = λ low rose all.
      let p = one.puts_later in
      let q = two.puts_later in
      let mid = two.calm (omega arith) rose all in
      let none = two.goes.stopped mid in
      let stood = two.goes.stood mid in
      let log : entries_of c.log ≡ entries_of b.log =
      ap entries_of two.goes.log ∙ entries_of-append b.log two.goes.added
      ∙ ap (λ (es : List Entry). entries_of b.log ++ es) none ∙ append-nil (entries_of b.log) in
      let size = ap length log in one.calm (omega arith) mid (omega arith);
}

-- what the words show turns no epoch
pub satisfies_changes : (need : Need) (seen : Seen) (found middle : BookView) (v w : Numbers)
    → Satisfies need seen found middle v w
    → middle.changes ≡ found.changes
satisfies_changes needs.Nothing sights.Nothing found middle v w h = ap (λ (b : BookView). b.changes) h.0
satisfies_changes (needs.Look key) (sights.Word n) found middle v w h = ap (λ (b : BookView). b.changes) h.0
satisfies_changes (needs.Raise key number) (sights.Word n) found middle v w h = ap (λ (b : BookView). b.changes) h.0
satisfies_changes (needs.Number key) (sights.Number n) found middle v w h =
    reserves_changes key n (Ok h.mark) found middle h.reserved
satisfies_changes (needs.Number key) (sights.Exhausted n) found middle v w h = ap (λ (b : BookView). b.changes) h.0
satisfies_changes need seen found middle v w h = absurd h

fits_need : (need : Need) (seen : Seen) (found middle : BookView) (v w : Numbers) → Satisfies need seen found middle v w
    → MeetsNeed middle.state need seen
fits_need needs.Nothing sights.Nothing found middle v w h = refl
fits_need (needs.Look key) (sights.Word n) found middle v w h = h.1.positive
fits_need (needs.Raise key number) (sights.Word n) found middle v w h = h.1.positive
fits_need (needs.Number key) (sights.Number n) found middle v w h =
    above_held (key_row middle.state key) n
    (place_there middle.state.keys key h.row (reserves_place key n h.mark h.row found middle h.reserved h.place))
    (let a = h.reserved.0 in let b = h.reserved.1 in omega arith)
fits_need (needs.Number key) (sights.Exhausted n) found middle v w h = h.1.out.0
fits_need need seen found middle v w h = absurd h

pub handles_changes : (index : ℕ) (pdu : List ℕ) (seen : Seen) (found given : BookView) (reply : Reply)
    (position before : ℕ)
    → Handles index pdu seen found given reply position → before ≡ found.changes
    → (given.changes ≡ before) ⊎ (given.changes ≡ before + 1)
handles_changes index pdu seen found given reply position before h is =
    one_more (counts h.change) before found.changes given.changes is (ap (λ (b : BookView). b.changes) h.made.1.is)
  where
    one_more : (b : Bool) (m n l : ℕ) → m ≡ n → l ≡ n + (if b then 1 else 0) → (l ≡ m) ⊎ (l ≡ m + 1)
    one_more true m n l a e = inr (omega arith)
    one_more false m n l a e = inl (omega arith)

pub refuses_changes : (index : ℕ) (pdu : List ℕ) (seen : Seen) (found given : BookView) (fault : BookFault)
    → RefusesMessage index pdu seen found given fault → given.changes ≡ found.changes
refuses_changes index pdu seen found given fault (inl h) = ap (λ (b : BookView). b.changes) h.1
refuses_changes index pdu seen found given fault (inr (inl h)) = ap (λ (b : BookView). b.changes) h.1
refuses_changes index pdu seen found given fault (inr (inr h)) = by_fault fault h.1.2 where
  by_fault : (f : BookFault) → IsUnstored (record_entry index seen h.1.0.0) found given f
      → given.changes ≡ found.changes
  by_fault (SiteFault count) u = ap (λ (b : BookView). b.changes) u.3
  by_fault (Stopped count) u = absurd u
  by_fault SessionFull u = absurd u
  by_fault NoMemory u = absurd u

module _ (told : Bool) where
  -- a book that goes on with the same count of changes needs the same
  needs_same : (found middle : BookView) → IsKept told found → IsKept told middle → GoesUp found middle
      → middle.changes ≡ found.changes → still middle.state ≡ still found.state
  needs_same found middle before after up same =
      let k : Known = known_of_book found in
      let l : Known = known_of_book middle in
      let at : epoch_state middle ≡ epoch_state found =
      state_at_stays k l up.goes.added middle.changes (goes_opening found middle up) up.goes.log
      (let a = kept_changes told found before in omega arith)
      ∙ ap (λ (n : ℕ). epoch_state (record found { changes = n })) same in
      kept_still told middle after ∙ ap still at ∙ sym (kept_still told found before)

  pub satisfies_fits : (pdu : List ℕ) (need other : Need) (seen : Seen) (found middle : BookView) (v w : Numbers)
      → Satisfies need seen found middle v w → IsNeedOf found.state pdu need
      → IsKept told found → IsKept told middle → GoesUp found middle
      → IsNeedOf middle.state pdu other → MeetsNeed middle.state other seen
  satisfies_fits pdu need other seen found middle v w h is before after up there =
      let served = alike_served found.plan middle.state found.state
      (needs_same found middle before after up (satisfies_changes need seen found middle v w h)) in
      let one : need ≡ other = need_one found.state pdu need other is ((served.needs pdu other).0 there) in
      subst (λ (n : Need). MeetsNeed middle.state n seen) one (fits_need need seen found middle v w h)

  pub holds_visits : (found given : BookView) (t v w u : Turn) → IsKept told found → IsKept told given
      → Follows t (known_of_book found) → GoesUp found given → v ≡ taking (known_of_book found) t
      → KnowsHeld (known_of_book given) v w → u ≡ giving (known_of_book given) w → Visits told found given t u
  holds_visits found given t v w u before after follows up took holds gave =
      let on = continues found given up in
      record {
        found_kept = before;
        given_kept = after;
        takes = record {
          follows = follows;
          earlier = on.earlier;
          sparing = on.sparing;
          opening = on.opening;
          turn = gave ∙ ap (giving (known_of_book given)) holds.is
              ∙ ap (λ (k : Turn).
              giving (known_of_book given)
              (record k { known = record k.known { marks = holds.marks; changes = given.changes } })) took;
        };
      }

pub holds_here : (given : BookView) (v w : Turn) → v.known ≡ known_of_book given → w ≡ v
    → KnowsHeld (known_of_book given) v w
holds_here given v w known same = record {
  marks = marks_of given.state;
  below = λ row. omega arith;
  is = same ∙ ap (λ (k : Known). record v { known = record v.known { marks = k.marks; changes = k.changes } }) known;
}

pub holds_of : (found middle given : BookView) (v u w : Turn) → v.known ≡ known_of_book found → GoesUp found middle
    → KeepsMarks middle.state given.state → (u ≡ v) ⊎ (u ≡ learning (marks_of middle.state) v)
    → w ≡ knowing given.changes u
    → KnowsHeld (known_of_book given) v w
holds_of found middle given v u w known on keeps (inl same) is = record {
  marks = marks_of found.state;
  below = λ row. (let a = on.marks row in let b = keeps row in omega arith);
  is = is ∙ ap (knowing given.changes) same
      ∙ ap (λ (k : Known). record v { known = record v.known { marks = k.marks; changes = given.changes } }) known;
}
holds_of found middle given v u w known on keeps (inr learned) is = record {
  marks = marks_of middle.state;
  below = λ row. keeps row;
  is = is ∙ ap (knowing given.changes) learned;
}

pub changes_known : (found middle : BookView) (v u : Turn) → v.known ≡ known_of_book found
    → (u ≡ v) ⊎ (u ≡ learning (marks_of middle.state) v) → u.known.changes ≡ found.changes
changes_known found middle v u known (inl same) =
    ap (λ (t : Turn). t.known.changes) same ∙ ap (λ (k : Known). k.changes) known
changes_known found middle v u known (inr learned) =
    ap (λ (t : Turn). t.known.changes) learned ∙ ap (λ (k : Known). k.changes) known

-- where the count of changes is as it was, the holder knows it
pub holds_still : (found middle given : BookView) (v u : Turn) → v.known ≡ known_of_book found → GoesUp found middle
    → KeepsMarks middle.state given.state → middle.changes ≡ found.changes → given.changes ≡ middle.changes
    → (u ≡ v) ⊎ (u ≡ learning (marks_of middle.state) v) → KnowsHeld (known_of_book given) v u
holds_still found middle given v u known on keeps same last turn =
    holds_of found middle given v u u known on keeps turn
    (ap (λ (n : ℕ). knowing n u) (changes_known found middle v u known turn ∙ sym same ∙ sym last))

pub holds_gives : (found given : BookView) (t v w : Turn) → v ≡ taking (known_of_book found) t
    → KnowsHeld (known_of_book given) v w
    → GoesUp found given → MayGive w.known (known_of_book given)
holds_gives found given t v w took holds up =
    let on = continues found given up in
    let known : w.known ≡ record (known_of_book found) { marks = holds.marks; changes = given.changes } =
    ap (λ (k : Turn). k.known) holds.is
    ∙ ap (λ (k : Turn). record k.known { marks = holds.marks; changes = given.changes }) took in
    subst (λ (k : Known). MayGive k (known_of_book given)) (sym known) (record {
      marks = holds.below;
      earlier = record {
        log = on.earlier.log;
        changes = omega arith;
        faults = on.earlier.faults;
        standing = on.earlier.standing;
        put_faults = on.earlier.put_faults;
        stopped = on.earlier.stopped;
        stood = on.earlier.stood;
      };
      sparing = on.sparing;
      opening = on.opening;
      changes = refl;
    })
