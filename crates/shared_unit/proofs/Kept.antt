-- What holds of each kept book, by the laws of the book.
use Rattle.std.proofs.Common.{◌≡◌, ℕ, ◌<◌, ◌≤◌, Bool, List, Some, sym}
use Rattle.sdls_base.specs.declared.TheConstants.{MOST_KEYS}
use Rattle.key_book.specs.KeyBook.{place_of}
use Rattle.unit_state.specs.History.{epoch_after}
use Rattle.frame_checks.specs.ProtectingFrames.{protect_check}
use Rattle.run_promise.specs.Log.{entries_of}
use Rattle.unit_book.specs.Book.{BookView, IsKept}
use Rattle.unit_book.specs.Epoch.{epoch_state, ServesAlike, HasBounds}
use Rattle.unit_book.proofs.KeptLaws.{kept_still, kept_changes, bounds_of}
use Rattle.unit_book.proofs.EpochStates.{alike_served}

-- What binds frames, and where a key stands, is in the state now as it was when the epoch began.
pub record IsLevel (book : BookView) : Type 0 where
  pub reached : book.changes ≤ epoch_after (entries_of book.log)
  pub binds : (link : ℕ) (clear : List ℕ) → protect_check book.plan (epoch_state book) link clear
      ≡ protect_check book.plan book.state link clear
  pub rows : (key : ℕ) → place_of (epoch_state book).keys key ≡ place_of book.state.keys key
  pub places : (key row : ℕ) → place_of book.state.keys key ≡ Some row → row < MOST_KEYS

pub level_of : (told : Bool) (book : BookView) → IsKept told book → IsLevel book
level_of told book kept =
    let s : ServesAlike book.plan book.state (epoch_state book) =
    alike_served book.plan book.state (epoch_state book) (kept_still told book kept) in
    let b : HasBounds book.state = bounds_of book.state kept.rules in
    record {
      reached = kept_changes told book kept;
      binds = λ link clear. sym (s.checks link clear);
      rows = λ key. sym (s.places key);
      places = λ key row there. b.places key row there;
    }
