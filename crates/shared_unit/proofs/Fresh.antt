-- A book that was opened and has no line yet.
use Rattle.std.proofs.Common.{◌≡◌, ℕ, zero, suc, Bool, List, [], take, refl, ap, ◌∙◌}
use Rattle.sdls_base.specs.declared.entry.Logged.{Logged}
use Rattle.unit_state.specs.History.{epoch_after}
use Rattle.counter_table.specs.Known.{MayFill}
use Rattle.run_promise.specs.Log.{entries_of}
use Rattle.unit_book.specs.Book.{BookView, IsKept}
use Rattle.unit_book.proofs.KeptLaws.{bounds_of}
use Rattle.shared_unit.specs.Told.{known_of_book}

none_taken : (n : ℕ) → epoch_after (take n []) ≡ 0
none_taken zero = refl
none_taken (suc n) = refl

pub may_fill : (told : Bool) (book : BookView) → IsKept told book → book.log ≡ []
    → MayFill (known_of_book book)
may_fill told book kept first = record {
  marks = λ row. (bounds_of book.state kept.rules).from_one row;
  changes = kept.epoch ∙ ap (λ (log : List Logged). epoch_after (take book.standing (entries_of log))) first
      ∙ none_taken book.standing;
}
