-- What was so at an epoch stays so, whatever is added to the log.
use Rattle.std.proofs.Common.{◌≡◌, ℕ, zero, suc, ◌+◌, ◌≤◌, Bool, true, false, if◌then◌else◌, List, [], ◌∷◌, ◌++◌}
use Rattle.std.proofs.Common.{length, Some, refl, ap, ◌∙◌, arith}
use Rattle.sdls_base.specs.declared.entry.Entry.{Entry}
use Rattle.sdls_base.specs.declared.entry.Logged.{Logged}
use Rattle.sdls_base.specs.declared.entry.Logged.TheVariants as logged
use Rattle.key_book.specs.KeyBook.{place_of}
use Rattle.unit_state.specs.declared.state.State.{State}
use Rattle.unit_state.specs.Applied.{applied}
use Rattle.unit_state.specs.Restart.{counts}
use Rattle.unit_state.specs.History.{at_epoch, epoch_after}
use Rattle.unit_state.proofs.StateLaws.{places_kept}
use Rattle.unit_state.proofs.Histories.{at_epoch_more, epochs_more}
use Rattle.counter_table.specs.declared.view.Known.{Known}
use Rattle.counter_table.specs.declared.view.Opening.{Opening}
use Rattle.counter_table.specs.Known.{entries}
use Rattle.run_promise.specs.Log.{entries_of}
use Rattle.shared_unit.specs.Told.{state_at}

pub entries_of-append : (log rest : List Logged) → entries_of (log ++ rest) ≡ entries_of log ++ entries_of rest
entries_of-append [] rest = refl
entries_of-append (logged.Entry e ∷ log) rest = ap (λ (es : List Entry). e ∷ es) (entries_of-append log rest)
entries_of-append (logged.Piece p ∷ log) rest = entries_of-append log rest

-- the counters count the same entries
pub entries_counted : (log : List Logged) → entries log ≡ length (entries_of log)
entries_counted [] = refl
entries_counted (logged.Entry e ∷ log) = let h = entries_counted log in omega arith
entries_counted (logged.Piece p ∷ log) = let h = entries_counted log in omega arith

-- at each later epoch the key has its row too
row_from : (s : State) (es : List Entry) (later key row : ℕ) → place_of s.keys key ≡ Some row
    → place_of (at_epoch s es later).keys key ≡ Some row
row_from s es zero key row h = h
row_from s [] (suc later) key row h = h
row_from s (e ∷ es) (suc later) key row h = from (counts e.change)
    (row_from (applied s e.change) es later key row (places_kept s e.change key row h))
    (row_from (applied s e.change) es (suc later) key row (places_kept s e.change key row h)) where
      from : (t : Bool) → place_of (at_epoch (applied s e.change) es later).keys key ≡ Some row
          → place_of (at_epoch (applied s e.change) es (suc later)).keys key ≡ Some row
          → place_of (at_epoch (applied s e.change) es (if t then later else suc later)).keys key ≡ Some row
      from true a b = a
      from false a b = b

pub row_later : (s : State) (es : List Entry) (epoch later key row : ℕ) → epoch ≤ later
    → place_of (at_epoch s es epoch).keys key ≡ Some row
    → place_of (at_epoch s es later).keys key ≡ Some row
row_later s es zero later key row h r = row_from s es later key row r
row_later s [] (suc epoch) later key row h r = row_from s [] later key row r
row_later s (e ∷ es) (suc epoch) zero key row h r = absurd (omega arith)
row_later s (e ∷ es) (suc epoch) (suc later) key row h r = by_turn (counts e.change)
    (row_later (applied s e.change) es epoch later key row (omega arith))
    (row_later (applied s e.change) es (suc epoch) (suc later) key row h) r where
      by_turn : (t : Bool)
          → (place_of (at_epoch (applied s e.change) es epoch).keys key ≡ Some row
          → place_of (at_epoch (applied s e.change) es later).keys key ≡ Some row)
          → (place_of (at_epoch (applied s e.change) es (suc epoch)).keys key ≡ Some row
          → place_of (at_epoch (applied s e.change) es (suc later)).keys key ≡ Some row)
          → place_of (at_epoch (applied s e.change) es (if t then epoch else suc epoch)).keys key ≡ Some row
          → place_of (at_epoch (applied s e.change) es (if t then later else suc later)).keys key ≡ Some row
      by_turn true a b g = a g
      by_turn false a b g = b g

pub state_at_stays : (k l : Known) (rest : List Logged) (epoch : ℕ) → l.opening ≡ k.opening → l.log ≡ k.log ++ rest
    → epoch ≤ epoch_after (entries_of k.log) → state_at l epoch ≡ state_at k epoch
state_at_stays k l rest epoch opening log reached =
    ap (λ (o : Opening). at_epoch o.start (entries_of l.log) epoch) opening
    ∙ ap (λ (ls : List Logged). at_epoch k.opening.start (entries_of ls) epoch) log
    ∙ ap (λ (es : List Entry). at_epoch k.opening.start es epoch) (entries_of-append k.log rest)
    ∙ at_epoch_more k.opening.start (entries_of k.log) (entries_of rest) epoch reached

pub epochs_longer : (k l : Known) (rest : List Logged) → l.log ≡ k.log ++ rest
    → epoch_after (entries_of k.log) ≤ epoch_after (entries_of l.log)
epochs_longer k l rest log =
    let e : epoch_after (entries_of l.log) ≡ epoch_after (entries_of k.log) + epoch_after (entries_of rest) =
    ap (λ (ls : List Logged). epoch_after (entries_of ls)) log ∙ ap epoch_after (entries_of-append k.log rest)
    ∙ epochs_more (entries_of k.log) (entries_of rest) in
    omega arith
