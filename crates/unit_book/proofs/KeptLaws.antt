-- What holds of a book that is kept.
use Rattle.std.proofs.Common.{◌≡◌, ℕ, ◌<◌, ◌≤◌, Bool, List, [], ◌∷◌, ◌++◌, length, take, Some, refl, sym, ◌∙◌, ap}
use Rattle.std.proofs.Common.{subst, arith, length-append}
use Rattle.std.specs.List.{slice_get}
use Rattle.std.proofs.lemmas.List.{take_all}
use Rattle.sdls_base.specs.declared.TheConstants.{MOST_KEYS}
use Rattle.sdls_base.specs.declared.entry.Entry.{Entry}
use Rattle.sdls_base.specs.declared.entry.Logged.{Logged}
use Rattle.sdls_base.specs.declared.entry.Logged.TheVariants as logged
use Rattle.sdls_outside.specs.Faults.{Rose}
use Rattle.unit_state.specs.declared.state.State.{State}
use Rattle.unit_state.specs.State.{KeepsRules}
use Rattle.unit_state.specs.Applied.{applied}
use Rattle.unit_state.specs.Restart.{still}
use Rattle.unit_state.specs.History.{after_all, epoch_after}
use Rattle.unit_state.specs.Laws.{KeepsPlaces}
use Rattle.unit_state.proofs.StateLaws.{places_kept}
use Rattle.run_promise.specs.Log.{entries_of}
use Rattle.unit_book.specs.Book.{BookView, IsKept, Made}
use Rattle.unit_book.specs.Epoch.{epoch_state, HasBounds, StandsLast}
use Rattle.unit_book.proofs.Growing.{first_all}
use Rattle.unit_book.proofs.Serving.{entry_entries}
use Rattle.unit_book.proofs.Places.{mark_from_one, mark_to_highest, mark_placed, place_below}
use Rattle.unit_book.proofs.EpochStates.{still_epoch, epoch_first}

pub kept_still : (told : Bool) (book : BookView) → IsKept told book
    → still book.state ≡ still (epoch_state book)
kept_still told book kept =
    ap still kept.led ∙ still_epoch book.start (entries_of book.log) book.standing book.changes kept.epoch

-- the count of changes is not above the epoch of the entries
pub kept_changes : (told : Bool) (book : BookView) → IsKept told book
    → book.changes ≤ epoch_after (entries_of book.log)
kept_changes told book kept =
    let is : book.changes ≡ epoch_after (take book.standing (entries_of book.log)) = kept.epoch in
    let low : epoch_after (take book.standing (entries_of book.log)) ≤ epoch_after (entries_of book.log) =
    epoch_first (entries_of book.log) book.standing in
    omega arith

-- where the site has not failed, all entries stand
pub kept_whole : (told : Bool) (book : BookView) → IsKept told book
    → ¬ Rose book.opened.faults book.site.faults
    → (book.state ≡ after_all book.start (entries_of book.log)) × (book.changes ≡ epoch_after (entries_of book.log))
kept_whole told book kept not =
    let whole : book.standing ≡ length (entries_of book.log) = kept.whole not in
    let all : length (entries_of book.log) ≤ book.standing = omega arith in (
      kept.led ∙ first_all book.start (entries_of book.log) book.standing all,
      kept.epoch ∙ ap epoch_after (take_all book.standing (entries_of book.log) all),
    )

pub bounds_of : (state : State) → KeepsRules state → HasBounds state
bounds_of state rules = record {
  keys = rules.keys.most;
  places = λ key place there.
      let low : place < length state.keys = place_below state key place there in
      let most : length state.keys ≤ MOST_KEYS = rules.keys.most in omega arith;
  from_one = λ place. mark_from_one state place rules;
  to_highest = λ place. mark_to_highest state place rules;
  marks = λ key place there. mark_placed state key place there;
}

pub places_after : (state : State) (entries : List Entry) → KeepsPlaces state (after_all state entries)
places_after state [] id place there = there
places_after state (entry ∷ entries) id place there =
    places_after (applied state entry.change) entries id place (places_kept state entry.change id place there)

-- keys keep the places that they had at the opening
pub kept_places : (told : Bool) (book : BookView) → IsKept told book
    → KeepsPlaces book.start book.state
kept_places told book kept =
    subst (KeepsPlaces book.start) (sym kept.led) (places_after book.start (take book.standing (entries_of book.log)))

last_there : {X : Type 0} (xs : List X) (x : X) → slice_get (xs ++ x ∷ []) (length xs) ≡ Some x
last_there {X} [] x = refl
last_there {X} (y ∷ ys) x = last_there ys x

-- an entry that was made is the last line of the log, and its position the count of entries
pub made_stands : (entry : Entry) (old new : BookView) (position : ℕ) → Made entry old new position
    → StandsLast entry old.log new.log position
made_stands entry old new position made =
    let log : new.log ≡ old.log ++ logged.Entry entry ∷ [] = ap (λ (b : BookView). b.log) made.1.is in
    let entries : entries_of new.log ≡ entries_of old.log ++ entry ∷ [] =
    ap entries_of log ∙ entry_entries old.log entry in
    record {
      log = log;
      there = ap (λ (lines : List Logged). slice_get lines (length old.log)) log
          ∙ last_there old.log (logged.Entry entry);
      entries = entries;
      position_is = made.1.position_is ∙ ap (λ (all : List Entry). length all) entries
          ∙ length-append (entries_of old.log) (entry ∷ []);
    }
