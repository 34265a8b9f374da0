-- What stays so of a history and its log while they grow.
use Rattle.std.proofs.Common.{◌≡◌, ℕ, zero, suc, ◌<◌, ◌≤◌, List, [], ◌∷◌, ◌++◌, length, take, Some, None, Option, refl}
use Rattle.std.proofs.Common.{ap, arith}
use Rattle.std.specs.List.{slice_get}
use Rattle.sdls_base.specs.declared.entry.Entry.{Entry}
use Rattle.sdls_base.specs.declared.entry.Logged.{Logged}
use Rattle.sdls_base.specs.declared.entry.Logged.TheVariants as lines
use Rattle.key_book.specs.KeyBook.{place_of}
use Rattle.counter_table.specs.Known.{entries}
use Rattle.unit_state.specs.declared.state.State.{State}
use Rattle.unit_state.specs.Applied.{applied}
use Rattle.unit_state.specs.History.{after_all, after_first, epoch_after}
use Rattle.unit_state.proofs.StateLaws.{places_kept}
use Rattle.run_promise.specs.Log.{entries_of}

pub entries_both : (a b : List Logged) → entries_of (a ++ b) ≡ entries_of a ++ entries_of b
entries_both [] b = refl
entries_both (lines.Entry e ∷ a) b = ap (λ z. e ∷ z) (entries_both a b)
entries_both (lines.Piece p ∷ a) b = entries_both a b

pub entries_counted : (log : List Logged) → entries log ≡ length (entries_of log)
entries_counted [] = refl
entries_counted (lines.Entry e ∷ log) = let h = entries_counted log in omega arith
entries_counted (lines.Piece p ∷ log) = let h = entries_counted log in omega arith

pub get_front : {X : Type 0} (xs ys : List X) (k : ℕ) → k < length xs → slice_get (xs ++ ys) k ≡ slice_get xs k
get_front [] ys k h = absurd (omega arith)
get_front (x ∷ xs) ys zero h = refl
get_front (x ∷ xs) ys (suc k) h = get_front xs ys k (omega arith)

-- a key keeps its row
pub row_kept : (s : State) (es : List Entry) (key row : ℕ) → place_of s.keys key ≡ Some row
    → place_of (after_all s es).keys key ≡ Some row
row_kept s [] key row h = h
row_kept s (e ∷ es) key row h = row_kept (applied s e.change) es key row (places_kept s e.change key row h)

pub row_kept_first : (s : State) (es : List Entry) (p key row : ℕ) → place_of (after_first s es p).keys key ≡ Some row
    → place_of (after_all s es).keys key ≡ Some row
row_kept_first s [] zero key row h = h
row_kept_first s [] (suc p) key row h = h
row_kept_first s (e ∷ es) zero key row h = row_kept s (e ∷ es) key row h
row_kept_first s (e ∷ es) (suc p) key row h = row_kept_first (applied s e.change) es p key row h

pub epoch_first : (es : List Entry) (p : ℕ) → epoch_after (take p es) ≤ epoch_after es
epoch_first [] zero = omega arith
epoch_first [] (suc p) = omega arith
epoch_first (e ∷ es) zero = omega arith
epoch_first (e ∷ es) (suc p) = let h = epoch_first es p in omega arith

-- the place of an entry in the log
pub place_of_entry : (log : List Logged) (p : ℕ) (e : Entry) → slice_get (entries_of log) p ≡ Some e
    → (place : ℕ) × (place < length log) × (slice_get log place ≡ Some (lines.Entry e))
    × (entries_of (take place log) ≡ take p (entries_of log))
place_of_entry [] p e h = absurd (let k : ◌≡◌ {A = Option Entry} None (Some e) = h in cc)
place_of_entry (lines.Entry x ∷ log) zero e h = (0, omega arith, ap (λ (o : Option Entry). logged o) h, refl)
  where
    logged : Option Entry → Option Logged
    logged None = None
    logged (Some y) = Some (lines.Entry y)
place_of_entry (lines.Entry x ∷ log) (suc p) e h =
    let (place, low, there, same) = place_of_entry log p e h in
    (suc place, omega arith, there, ap (λ (z : List Entry). x ∷ z) same)
place_of_entry (lines.Piece x ∷ log) p e h =
    let (place, low, there, same) = place_of_entry log p e h in (suc place, omega arith, there, same)
