-- One lane alone: the moves of records one after the other are the machine's.
use Rattle.std.proofs.Common.{◌≡◌, ◌⊎◌, ℕ, zero, suc, ◌+◌, ◌-◌, ◌<◌, ◌≤◌, List, [], ◌∷◌, ◌++◌, length, Some, Option}
use Rattle.std.proofs.Common.{refl, sym, ◌∙◌, ap, subst, inl, inr, arith, append_assoc, append-nil, max, Bool}
use Rattle.std.proofs.Common.{if◌then◌else◌, eq-eqb}
use Rattle.std.specs.List.{All, slice_get, slice_index_or}
use Rattle.std.proofs.lemmas.List.{take-append-le}
use Rattle.std.proofs.lemmas.List.Elements.{All-append, All-cons, All-nil, Contains-append_left, Contains-append_right}
use Rattle.std.proofs.lemmas.Option.{slice_get_within}
use Rattle.sdls_base.specs.declared.entry.Entry.{Entry}
use Rattle.sdls_base.specs.declared.entry.Logged.{Logged}
use Rattle.sdls_base.specs.declared.entry.Seen.{Seen}
use Rattle.sdls_base.specs.declared.entry.Seen.TheVariants as seens
use Rattle.key_book.specs.KeyBook.{place_of}
use Rattle.record_io.specs.declared.reader.RecordKind.{RecordKind}
use Rattle.record_io.specs.declared.reader.RecordKind.TheVariants.{Protect, Open, Command, Monitor}
use Rattle.record_io.specs.declared.item_cursor.Record.{Record}
use Rattle.unit_state.specs.declared.state.State.{State}
use Rattle.unit_state.specs.Applied.{applied}
use Rattle.unit_state.specs.History.{after_all, after_first}
use Rattle.counter_table.specs.declared.view.View.{View}
use Rattle.counter_table.specs.Numbers.{amount, top}
use Rattle.counter_table.specs.Turn.{stands}
use Rattle.counter_table.specs.Whole.{IsWhole}
use Rattle.ep_core.specs.declared.judging.Need.{Need}
use Rattle.ep_core.specs.declared.judging.Need.TheVariants as needs
use Rattle.run_promise.specs.Call.{Begin}
use Rattle.law_workers.specs.Views.{KnowsMore, log_of, entries_in}
use Rattle.run_promise.specs.Deed.{Deed}
use Rattle.law_workers.proofs.Histories.{get_front, row_kept}
use Rattle.law_workers.proofs.Logs.{stands_both}
use Rattle.law_workers.proofs.Working.{grown_entries}
use Rattle.run_promise.specs.Words.{Move, Kept, Found, Drew, Raised, Overdrew, adds, adds_all, IsAt, LiesBetween}
use Rattle.run_promise.specs.Words.{word_after, Runs, Shown, TellsSeen, TellsProtect, TellsCommand, TellsKind, Tells}
use Rattle.run_promise.specs.Words.{TellAll}
use Rattle.law_workers.specs.Exact.{words_in, IsOfMoves, Exact}

after_both : (state : State) (es more : List Entry) → after_all state (es ++ more) ≡ after_all (after_all state es) more
after_both state [] more = refl
after_both state (e ∷ es) more = after_both (applied state e.change) es more

top-append : (row : ℕ) (a b : List (ℕ × ℕ)) → top row (a ++ b) ≡ max (top row a) (top row b)
top-append row [] b = omega arith
top-append row (p ∷ a) b = let h = top-append row a b in omega arith

pub amount-append : (row : ℕ) (a b : List (ℕ × ℕ)) → amount row (a ++ b) ≡ amount row a + amount row b
amount-append row [] b = omega arith
amount-append row (p ∷ a) b = let h = amount-append row a b in omega arith

adds-append : (row : ℕ) (a b : List Move) → adds_all row (a ++ b) ≡ adds_all row a + adds_all row b
adds-append row [] b = omega arith
adds-append row (m ∷ a) b = let h = adds-append row a b in omega arith

at_same : (rows : ℕ) (f g : ℕ → ℕ) → ((row : ℕ) → row < rows → f row ≡ g row) → (m : Move) → IsAt rows f m
    → IsAt rows g m
at_same rows f g same Kept h = tt
at_same rows f g same (Found row word) h = (h.0, h.1 ∙ same row h.0)
at_same rows f g same (Drew row number) h = (h.0, h.1 ∙ same row h.0)
at_same rows f g same (Raised row word number) h = (h.0, h.1 ∙ same row h.0)
at_same rows f g same (Overdrew row number) h = absurd h

pub runs_same : (rows : ℕ) (f g : ℕ → ℕ) → ((row : ℕ) → row < rows → f row ≡ g row) → (moves : List Move)
    → Runs rows f moves → Runs rows g moves
runs_same rows f g same [] h = tt
runs_same rows f g same (m ∷ moves) h = (
  at_same rows f g same m h.0,
  runs_same rows (word_after f m) (word_after g m) (λ row low. let s = same row low in
      omega arith) moves h.1,
)

runs-append : (rows : ℕ) (f : ℕ → ℕ) (a b : List Move) → Runs rows f a → Runs rows (λ row. f row + adds_all row a) b
    → Runs rows f (a ++ b)
runs-append rows f [] b h k = runs_same rows (λ row. f row + 0) f (λ row low. omega arith) b k
runs-append rows f (m ∷ a) b h k = (
  h.0,
  runs-append rows (word_after f m) a b h.1
      (runs_same rows (λ row. f row + adds_all row (m ∷ a)) (λ row. word_after f m row + adds_all row a)
      (λ row low. omega arith) b k),
)

tell-append : (start : State) (entries : List Entry) (ds es : List Deed) (a b : List Move) → TellAll start entries ds a
    → TellAll start entries es b
    → TellAll start entries (ds ++ es) (a ++ b)
tell-append start entries [] es [] b h k = k
tell-append start entries [] es (m ∷ a) b h k = absurd h
tell-append start entries (d ∷ ds) es [] b h k = absurd h
tell-append start entries (d ∷ ds) es (m ∷ a) b h k = (h.0, tell-append start entries ds es a b h.1 k)

module _ (start : State) (es rest : List Entry) where
  row_on : (key row : ℕ) → place_of (after_all start es).keys key ≡ Some row
      → place_of (after_all start (es ++ rest)).keys key ≡ Some row
  row_on key row h = ap (λ (s : State). place_of s.keys key) (after_both start es rest)
      ∙ row_kept (after_all start es) rest key row h

  state_on : (p : ℕ) → p ≤ length es → after_first start (es ++ rest) p ≡ after_first start es p
  state_on p low = ap (after_all start) (take-append-le p es rest low)

  shown_on : (state : State) (task : Record) (need : ℕ → Need) (of : ℕ → Move) (move : Move)
      → Shown start es state task need of move
      → Shown start (es ++ rest) state task need of move
  shown_on state task need of move (key, row, of_key, is_row, is) = (key, row, of_key, row_on key row is_row, is)

  seen_on : (state : State) (task : Record) (seen : Seen) (move : Move) → TellsSeen start es state task seen move
      → TellsSeen start (es ++ rest) state task seen move
  seen_on state task seens.Nothing move h = h
  seen_on state task (seens.Word word) move (inl h) =
      inl (shown_on state task (λ key. needs.Look key) (λ row. Raised row word 1) move h)
  seen_on state task (seens.Word word) move (inr (key, row, number, asks, is_row, is)) =
      inr (key, row, number, asks, row_on key row is_row, is)
  seen_on state task (seens.Number number) move h =
      shown_on state task (λ key. needs.Number key) (λ row. Drew row number) move h
  seen_on state task (seens.Exhausted number) move (inl h) =
      inl (shown_on state task (λ key. needs.Number key) (λ row. Found row number) move h)
  seen_on state task (seens.Exhausted number) move (inr h) =
      inr (shown_on state task (λ key. needs.Number key) (λ row. Overdrew row number) move h)

  protect_on : (d : Deed) (m : Move) → TellsProtect start es d m → TellsProtect start (es ++ rest) d m
  protect_on d m h = record {
    protected = λ c. let (row, is, same) = h.protected c in (row, row_on _ row is, same);
    exhausted = λ c. let (row, is, same) = h.exhausted c in (row, row_on _ row is, same);
    unbound = h.unbound;
    wanting = h.wanting;
  }

  command_on : (d : Deed) (m : Move) → TellsCommand start es d m → TellsCommand start (es ++ rest) d m
  command_on d m h = record {
    entry = λ c.
        let (e, there, tells) = h.entry c in
        let low = slice_get_within es (d.answer.position - 1) e there in
        let st = state_on (d.answer.position - 1) (omega arith) in (
          e,
          get_front es rest (d.answer.position - 1) low ∙ there,
          subst (λ (s : State). TellsSeen start (es ++ rest) s d.task e.seen m) (sym st)
              (seen_on (after_first start es (d.answer.position - 1)) d.task e.seen m tells),
        );
  }

  kind_on : (kind : RecordKind) (d : Deed) (m : Move) → TellsKind start es kind d m
      → TellsKind start (es ++ rest) kind d m
  kind_on Protect d m h = protect_on d m h
  kind_on Open d m h = h
  kind_on Command d m h = command_on d m h
  kind_on Monitor d m h = h

  -- what answers tell of their moves stays so in a longer history
  pub tell_more : (ds : List Deed) (ms : List Move) → TellAll start es ds ms → TellAll start (es ++ rest) ds ms
  tell_more [] [] h = tt
  tell_more [] (m ∷ ms) h = h
  tell_more (d ∷ ds) [] h = h
  tell_more (d ∷ ds) (m ∷ ms) h = (kind_on d.task.kind d m h.0, tell_more ds ms h.1)

-- and while the view grows
pub tell_on : (begin : Begin) (v w : View) → KnowsMore v w → (ds : List Deed) (ms : List Move)
    → TellAll begin.start (entries_in v) ds ms → TellAll begin.start (entries_in w) ds ms
tell_on begin v w grows ds ms h =
    let (rest, is) = grown_entries v w grows in
    subst (λ (l : List Entry). TellAll begin.start l ds ms) (sym is) (tell_more begin.start (entries_in v) rest ds ms h)

-- a move lies between words that are further apart
pub lies_wider : (rows : ℕ) (first last low high : ℕ → ℕ) → ((row : ℕ) → row < rows → low row ≤ first row)
    → ((row : ℕ) → row < rows → last row ≤ high row)
    → (m : Move) → LiesBetween rows first last m → LiesBetween rows low high m
lies_wider rows first last low high under over Kept h = tt
lies_wider rows first last low high under over (Found row word) h = let u = under row h.0 in let o = over row h.0 in
    let a = h.1 in let b = h.2 in (h.0, omega arith, omega arith)
lies_wider rows first last low high under over (Drew row number) h = let u = under row h.0 in let o = over row h.0 in
    let a = h.1 in let b = h.2 in (h.0, omega arith, omega arith)
lies_wider rows first last low high under over (Raised row word number) h = let u = under row h.0 in
    let o = over row h.0 in let a = h.1 in let b = h.2 in (h.0, omega arith, omega arith)
lies_wider rows first last low high under over (Overdrew row number) h = let u = under row h.0 in
    let o = over row h.0 in let a = h.1 in let b = h.2 in (h.0, omega arith, omega arith)

drawn_left : (a b : List Move) (line : Option Logged) → IsOfMoves a line → IsOfMoves (a ++ b) line
drawn_left a b line h entry is none = let (row, number, seen, there) = h entry is none in
    (row, number, seen, Contains-append_left a b (Drew row number) there)

drawn_right : (a b : List Move) (line : Option Logged) → IsOfMoves b line → IsOfMoves (a ++ b) line
drawn_right a b line h entry is none = let (row, number, seen, there) = h entry is none in
    (row, number, seen, Contains-append_right a b (Drew row number) there)

either : (a b : ℕ) → 0 < a + b → (0 < a) ⊎ (0 < b)
either zero b h = inr (omega arith)
either (suc a) b h = inl (omega arith)

-- nothing was done
pub exact_nothing : (begin : Begin) (v : View) → Exact begin v v [] [] []
exact_nothing begin v = record {
  moves = [];
  told = tt;
  reserves = λ place in'. absurd (omega arith);
  added = λ row. omega arith;
  between = λ k d low. absurd (omega arith);
  grown = λ row. omega arith;
  exact = λ h. tt;
}

-- What was done one after the other. Of the first part each record has an answer.
pub exact_then : (begin : Begin) (u v w : View) (m n : List ℕ) (ds es : List Deed) (last : List Move)
    → Exact begin u v m ds [] → ((place : ℕ) → 0 < stands place m → place < length (log_of v)) → KnowsMore v w
    → Exact begin v w n es last
    → Exact begin u w (m ++ n) (ds ++ es) last
exact_then begin u v w m n ds es last a below grows b =
    let sum : (row : ℕ) → adds_all row ((a.moves ++ b.moves) ++ last) ≡ adds_all row a.moves
    + adds_all row (b.moves ++ last) = λ row.
    adds-append row (a.moves ++ b.moves) last ∙ (let x = adds-append row a.moves b.moves in
    let y = adds-append row b.moves last in omega arith) in
    let first : (row : ℕ) → adds_all row (a.moves ++ []) ≡ adds_all row a.moves =
    λ row. ap (adds_all row) (append-nil a.moves) in
    record {
      moves = a.moves ++ b.moves;
      told = tell-append begin.start (entries_in w) ds es a.moves b.moves (tell_on begin v w grows ds a.moves a.told)
          b.told;
      reserves = λ place in'.
          let s = stands_both place m n in
          elim (either (stands place m) (stands place n) (omega arith)) [
            | inl here ↦
                let line : slice_get (log_of w) place ≡ slice_get (log_of v) place =
                ap (λ (l : List Logged). slice_get l place) grows.earlier.log.1 ∙ get_front (log_of v)
                grows.earlier.log.0 place (below place here) in
                let d : IsOfMoves a.moves (slice_get (log_of v) place) =
                subst (λ (l : List Move). IsOfMoves l (slice_get (log_of v) place)) (append-nil a.moves)
                (a.reserves place here) in
                subst (λ (l : List Move). IsOfMoves l (slice_get (log_of w) place))
                (sym (append_assoc a.moves b.moves last))
                (drawn_left a.moves (b.moves ++ last) (slice_get (log_of w) place)
                (subst (IsOfMoves a.moves) (sym line) d))
            | inr there ↦
                subst (λ (l : List Move). IsOfMoves l (slice_get (log_of w) place))
                (sym (append_assoc a.moves b.moves last))
                (drawn_right a.moves (b.moves ++ last) (slice_get (log_of w) place) (b.reserves place there))
          ];
      added = λ row. let p = a.added row in let q = b.added row in let s = sum row in let f = first row in omega arith;
      between = subst (All (LiesBetween begin.rows (words_in u) (words_in w))) (sym (append_assoc a.moves b.moves last))
          (All-append (LiesBetween begin.rows (words_in u) (words_in w)) a.moves (b.moves ++ last)
          (λ k d low. lies_wider begin.rows (words_in u) (words_in v) (words_in u) (words_in w) (λ row few. omega arith)
          (λ row few. let q = b.grown row in omega arith) (slice_index_or a.moves k d)
          (subst (All (LiesBetween begin.rows (words_in u) (words_in v))) (append-nil a.moves) a.between k d low))
          (λ k d low. lies_wider begin.rows (words_in v) (words_in w) (words_in u) (words_in w) (λ row few. let p =
          a.grown row in omega arith)
          (λ row few. omega arith) (slice_index_or (b.moves ++ last) k d) (b.between k d low)));
      grown = λ row. let p = a.grown row in let q = b.grown row in let s = sum row in let f = first row in omega arith;
      exact = λ still.
          let left : Runs begin.rows (words_in u) (a.moves ++ []) =
          a.exact (λ row low. let t = still row low in let p = a.grown row in let q = b.grown row in
          let s = sum row in let f = first row in omega arith) in
          let left' : Runs begin.rows (words_in u) a.moves =
          subst (Runs begin.rows (words_in u)) (append-nil a.moves) left in
          let right : Runs begin.rows (words_in v) (b.moves ++ last) =
          b.exact (λ row low. let t = still row low in let p = a.grown row in let q = b.grown row in
          let s = sum row in let f = first row in omega arith) in
          let same : (row : ℕ) → row < begin.rows → words_in v row ≡ words_in u row + adds_all row a.moves = λ row low.
          (let t = still row low in let p = a.grown row in let q = b.grown row in let s = sum row in
          let f = first row in omega arith) in
          subst (Runs begin.rows (words_in u)) (sym (append_assoc a.moves b.moves last))
          (runs-append begin.rows (words_in u) a.moves (b.moves ++ last) left'
          (runs_same begin.rows (words_in v) (λ row. words_in u row + adds_all row a.moves) same (b.moves ++ last)
          right));
    }

pub nothing_moves : (begin : Begin) (v : View) → (exact_nothing begin v).moves ≡ []
unfolding exact_nothing
nothing_moves begin v = refl

pub then_moves : (begin : Begin) (u v w : View) (m n : List ℕ) (ds es : List Deed) (last : List Move)
    (a : Exact begin u v m ds [])
    (below : (place : ℕ) → 0 < stands place m → place < length (log_of v)) (grows : KnowsMore v w)
    (b : Exact begin v w n es last)
    → (exact_then begin u v w m n ds es last a below grows b).moves ≡ a.moves ++ b.moves
unfolding exact_then
then_moves begin u v w m n ds es last a below grows b = refl

-- one move
pub exact_move : (begin : Begin) (old new : View) (made : List ℕ) (deed : Deed) (move : Move)
    → Tells begin.start (entries_in new) deed move
    → ((place : ℕ) → 0 < stands place made → IsOfMoves (move ∷ []) (slice_get (log_of new) place))
    → ((row : ℕ) → amount row new.numbers.added ≡ amount row old.numbers.added + adds row move)
    → ((row : ℕ) → words_in old row + adds row move ≤ words_in new row)
    → (((row : ℕ) → row < begin.rows → words_in new row ≡ words_in old row + adds row move)
    → IsAt begin.rows (words_in old) move)
    → LiesBetween begin.rows (words_in old) (words_in new) move → Exact begin old new made (deed ∷ []) []
exact_move begin old new made deed move told reserves added grown at between = record {
  moves = move ∷ [];
  told = (told, tt);
  reserves = reserves;
  added = λ row. let a = added row in omega arith;
  between = All-cons (LiesBetween begin.rows (words_in old) (words_in new)) move [] between
      (All-nil (LiesBetween begin.rows (words_in old) (words_in new)));
  grown = λ row. let g = grown row in omega arith;
  exact = λ still. (at (λ row low. let s = still row low in omega arith), tt);
}

pub move_moves : (begin : Begin) (old new : View) (made : List ℕ) (deed : Deed) (move : Move)
    (told : Tells begin.start (entries_in new) deed move)
    (reserves : (place : ℕ) → 0 < stands place made → IsOfMoves (move ∷ []) (slice_get (log_of new) place))
    (added : (row : ℕ) → amount row new.numbers.added ≡ amount row old.numbers.added + adds row move)
    (grown : (row : ℕ) → words_in old row + adds row move ≤ words_in new row)
    (at : ((row : ℕ) → row < begin.rows → words_in new row ≡ words_in old row + adds row move)
    → IsAt begin.rows (words_in old) move)
    (between : LiesBetween begin.rows (words_in old) (words_in new) move)
    → (exact_move begin old new made deed move told reserves added grown at between).moves ≡ move ∷ []
unfolding exact_move
move_moves begin old new made deed move told reserves added grown at between = refl

-- At the end of a run that one worker did alone, what the words grew by is what the moves added: the moves are the
-- machine's.
pub alone : (begin : Begin) (first now : View) (made : List ℕ) (deeds : List Deed) (last : List Move)
    → (a : Exact begin first now made deeds last)
    → IsWhole begin.rows now → ((row : ℕ) → row < begin.rows → words_in first row ≡ 1 + amount row first.numbers.added)
    → Runs begin.rows (words_in first) (a.moves ++ last)
alone begin first now made deeds last a whole begun = a.exact (λ row low.
    let (next, r) = whole.rows row low in
    let p = a.added row in let q = a.grown row in let b = begun row low in let s = r.seen in let g = r.grown in
    omega arith)

-- A number that was drawn alone is the word of the old view; so is a word that was found.
pub drew_alone : (rows : ℕ) (old new : View) (row number : ℕ) → row < rows → words_in old row ≤ number
    → number < words_in new row
    → ((r : ℕ) → r < rows → words_in new r ≡ words_in old r + adds r (Drew row number))
    → IsAt rows (words_in old) (Drew row number)
drew_alone rows old new row number low least most still =
    let s = still row low in
    let one : adds row (Drew row number) ≡ 1 = ap (λ (b : Bool). if b then 1 else 0) (eq-eqb row row refl) in
    (low, omega arith)

pub found_alone : (rows : ℕ) (old new : View) (row word : ℕ) → row < rows → words_in old row ≤ word
    → word ≤ words_in new row
    → ((r : ℕ) → r < rows → words_in new r ≡ words_in old r + adds r (Found row word))
    → IsAt rows (words_in old) (Found row word)
found_alone rows old new row word low least most still = let s = still row low in (low, omega arith)

pub raised_alone : (rows : ℕ) (old new : View) (row word number : ℕ) → row < rows → words_in old row ≤ word
    → max word number ≤ words_in new row
    → ((r : ℕ) → r < rows → words_in new r ≡ words_in old r + adds r (Raised row word number))
    → IsAt rows (words_in old) (Raised row word number)
raised_alone rows old new row word number low least most still =
    let s = still row low in
    let one : adds row (Raised row word number) ≡ number - word =
    ap (λ (b : Bool). if b then number - word else 0) (eq-eqb row row refl) in
    (low, omega arith)
