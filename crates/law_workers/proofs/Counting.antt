-- Entries, reserves and pieces of a whole log, of which one worker made each place.
use Rattle.std.proofs.Common.{◌≡◌, ℕ, zero, suc, ◌+◌, ◌<◌, ◌≤◌, ◌==◌, eqb, nat_lt, List, [], ◌∷◌, ◌++◌, length, Some}
use Rattle.std.proofs.Common.{Option, Bool, true, false, refl, sym, ◌∙◌, ap, subst, inl, inr, arith, if◌then◌else◌}
use Rattle.std.proofs.Common.{eq-eqb, length-append, append_assoc, append-nil}
use Rattle.std.specs.List.{slice_get}
use Rattle.std.proofs.lemmas.Bool.{cases_lt, cases_eq}
use Rattle.std.proofs.lemmas.Bool.Decides.{nat_tests}
use Rattle.std.proofs.lemmas.Option.{slice_get_within}
use Rattle.std.proofs.lemmas.List.{length-take}
use Rattle.sdls_base.specs.declared.entry.Entry.{Entry}
use Rattle.sdls_base.specs.declared.entry.Logged.{Logged}
use Rattle.sdls_base.specs.declared.entry.Logged.TheVariants as lines
use Rattle.counter_table.specs.declared.view.View.{View}
use Rattle.counter_table.specs.Known.{pieces}
use Rattle.counter_table.specs.Turn.{stands, places}
use Rattle.counter_table.specs.Whole.{IsWhole}
use Rattle.record_io.specs.declared.item_cursor.Record.{Record}
use Rattle.run_promise.specs.Log.{entries_of, pieces_of}
use Rattle.law_workers.specs.Counts.{count_at, is_of_record, is_of_none, is_index}
use Rattle.run_promise.specs.History.{reserves_of, drawers}
use Rattle.run_promise.specs.Call.{Begin}
use Rattle.law_workers.specs.Views.{log_of, entries_in}
use Rattle.run_promise.specs.Deed.{Deed}
use Rattle.law_workers.specs.Deeds.{Does}
use Rattle.law_workers.specs.Order.{is_piece, is_line, Lined}
use Rattle.law_workers.proofs.Histories.{place_of_entry}
use Rattle.law_workers.proofs.Logs.{stands_both, piece_count_both, entries_low, count_one}

pub pieces_both : (a b : List Logged) → pieces_of (a ++ b) ≡ pieces_of a ++ pieces_of b
pieces_both [] b = refl
pieces_both (lines.Entry e ∷ a) b = pieces_both a b
pieces_both (lines.Piece o ∷ a) b =
    ap (λ (l : List ℕ). o ++ l) (pieces_both a b) ∙ sym (append_assoc o (pieces_of a) (pieces_of b))

-- without one standing of a place
abbrev without : ℕ → List ℕ → List ℕ
without p [] = []
without p (q ∷ qs) = if q == p then qs else q ∷ without p qs

stands_without : (x p : ℕ) (qs : List ℕ) → 0 < stands p qs
    → stands x qs ≡ (if p == x then 1 else 0) + stands x (without p qs)
stands_without x p [] h = absurd (omega arith)
stands_without x p (q ∷ qs) h = go (eqb q p) refl h (stands_without x p qs)
  where
    go : (t : Bool) → eqb q p ≡ t → 0 < (if t then 1 else 0) + stands p qs
        → (0 < stands p qs → stands x qs ≡ (if eqb p x then 1 else 0) + stands x (without p qs))
        → (if eqb q x then 1 else 0) + stands x qs ≡ (if eqb p x then 1 else 0)
        + stands x (if t then qs else q ∷ without p qs)
    go true is k f = let same : q ≡ p = grind (arith, nat_tests) in rw same refl
    go false is k f = let g = f (omega arith) in omega arith

count_without : (test : Option Logged → Bool) (log : List Logged) (p : ℕ) (qs : List ℕ) → 0 < stands p qs
    → count_at test log qs ≡ (if test (slice_get log p) then 1 else 0) + count_at test log (without p qs)
count_without test log p [] h = absurd (omega arith)
count_without test log p (q ∷ qs) h = go (eqb q p) refl h (count_without test log p qs)
  where
    go : (t : Bool) → eqb q p ≡ t → 0 < (if t then 1 else 0) + stands p qs
        → (0 < stands p qs → count_at test log qs ≡ (if test (slice_get log p) then 1 else 0)
        + count_at test log (without p qs))
        → (if test (slice_get log q) then 1 else 0) + count_at test log qs
        ≡ (if test (slice_get log p) then 1 else 0) + count_at test log (if t then qs else q ∷ without p qs)
    go true is k f = let same : q ≡ p = grind (arith, nat_tests) in rw same refl
    go false is k f = let g = f (omega arith) in omega arith

-- places that stand no oftener than in another list have no more of the lines
pub count_fewer : (test : Option Logged → Bool) (log : List Logged) (ps qs : List ℕ)
    → ((x : ℕ) → stands x ps ≤ stands x qs)
    → count_at test log ps ≤ count_at test log qs
count_fewer test log [] qs h = omega arith
count_fewer test log (p ∷ ps) qs h =
    let one : 0 < stands p qs = (let a = h p in let e : eqb p p ≡ true = eq-eqb p p refl in
    let b : (if true then 1 else 0) + stands p ps ≤ stands p qs =
    subst (λ (t : Bool). (if t then 1 else 0) + stands p ps ≤ stands p qs) e a in omega arith) in
    let c = count_without test log p qs one in
    let k = count_fewer test log ps (without p qs) (λ x. let a = h x in let s = stands_without x p qs one in
    omega arith) in
    omega arith

at_length : (xs ys : List Logged) → slice_get (xs ++ ys) (length xs) ≡ slice_get ys 0
at_length [] ys = refl
at_length (x ∷ xs) ys = at_length xs ys

places_at : (from count : ℕ) (x : ℕ) → stands x (places from count) ≤ (if nat_lt x (from + count) then 1 else 0)
places_at from zero x = omega arith
places_at from (suc count) x = let h = places_at (suc from) count x in let low = places_low (suc from) count x in
    grind (arith, nat_tests)
  where
    places_low : (from count x : ℕ) → 0 < stands x (places from count) → from ≤ x
    places_low from zero x h = absurd (omega arith)
    places_low from (suc count) x h = elim (cases_eq from x) [
      | inl is ↦ omega arith
      | inr off ↦ let f : eqb from x ≡ false = grind (arith, nat_tests) in
          let k : 0 < (if false then 1 else 0) + stands x (places (suc from) count) =
          subst (λ (b : Bool). 0 < (if b then 1 else 0) + stands x (places (suc from) count)) f h in
          let l = places_low (suc from) count x (omega arith) in omega arith
    ]

lines_counted : (before log : List Logged) → count_at is_line (before ++ log) (places (length before) (length log))
    ≡ length (entries_of log)
lines_counted before [] = refl
lines_counted before (line ∷ log) =
    let here : slice_get (before ++ line ∷ log) (length before) ≡ Some line = at_length before (line ∷ log) in
    let size : length (before ++ line ∷ []) ≡ suc (length before) = length-append before (line ∷ []) ∙ omega arith in
    let rest : count_at is_line (before ++ line ∷ log) (places (suc (length before)) (length log))
    ≡ length (entries_of log) =
    subst (λ (n : ℕ). count_at is_line (before ++ line ∷ log) (places n (length log)) ≡ length (entries_of log)) size
    (subst (λ (l : List Logged). count_at is_line l (places (length (before ++ line ∷ [])) (length log))
    ≡ length (entries_of log))
    (append_assoc before (line ∷ []) log) (lines_counted (before ++ line ∷ []) log)) in
    go line here rest
  where
    go : (line : Logged) → slice_get (before ++ line ∷ log) (length before) ≡ Some line
        → count_at is_line (before ++ line ∷ log) (places (suc (length before)) (length log)) ≡ length (entries_of log)
        → count_at is_line (before ++ line ∷ log) (places (length before) (suc (length log)))
        ≡ length (entries_of (line ∷ log))
    go (lines.Entry e) h r = rw h (let k = r in omega arith)
    go (lines.Piece e) h r = rw h (let k = r in omega arith)

-- what a whole log has of reserves
counted : (before log : List Logged) → count_at is_of_none (before ++ log) (places (length before) (length log))
    ≡ reserves_of (entries_of log)
counted before [] = refl
counted before (line ∷ log) =
    let here : slice_get (before ++ line ∷ log) (length before) ≡ Some line = at_length before (line ∷ log) in
    let size : length (before ++ line ∷ []) ≡ suc (length before) = length-append before (line ∷ []) ∙ omega arith in
    let rest : count_at is_of_none (before ++ line ∷ log) (places (suc (length before)) (length log))
    ≡ reserves_of (entries_of log) =
    subst (λ (n : ℕ). count_at is_of_none (before ++ line ∷ log) (places n (length log)) ≡ reserves_of (entries_of log))
    size
    (subst (λ (l : List Logged). count_at is_of_none l (places (length (before ++ line ∷ [])) (length log))
    ≡ reserves_of (entries_of log))
    (append_assoc before (line ∷ []) log) (counted (before ++ line ∷ []) log)) in
    go line here rest
  where
    go : (line : Logged) → slice_get (before ++ line ∷ log) (length before) ≡ Some line
        → count_at is_of_none (before ++ line ∷ log) (places (suc (length before)) (length log))
        ≡ reserves_of (entries_of log)
        → count_at is_of_none (before ++ line ∷ log) (places (length before) (suc (length log)))
        ≡ reserves_of (entries_of (line ∷ log))
    go (lines.Entry e) h r = rw h (let k = r in omega arith)
    go (lines.Piece e) h r = rw h (let k = r in omega arith)

no_pieces : (rest : List Logged) → ((k : ℕ) → k < length rest → is_piece (slice_get rest k) ≡ false)
    → pieces_of rest ≡ []
no_pieces [] h = refl
no_pieces (lines.Entry e ∷ rest) h = no_pieces rest (λ k low. h (suc k) (omega arith))
no_pieces (lines.Piece e ∷ rest) h = absurd (let k : true ≡ false = h 0 (omega arith) in cc)

get_behind : (xs ys : List Logged) (k : ℕ) → slice_get (xs ++ ys) (length xs + k) ≡ slice_get ys k
get_behind [] ys k = let e : 0 + k ≡ k = omega arith in ap (slice_get ys) e
get_behind (x ∷ xs) ys k = let e : suc (length xs) + k ≡ suc (length xs + k) = omega arith in
    ap (slice_get (x ∷ xs ++ ys)) e ∙ get_behind xs ys k

none_counted : (rest : List Logged) → ((k : ℕ) → k < length rest → is_piece (slice_get rest k) ≡ false)
    → pieces rest ≡ 0
none_counted [] h = refl
none_counted (lines.Entry e ∷ rest) h = let k = none_counted rest (λ k low. h (suc k) (omega arith)) in omega arith
none_counted (lines.Piece e ∷ rest) h = absurd (let k : true ≡ false = h 0 (omega arith) in cc)

not_true : (b : Bool) → (b ≡ true → ⊥) → b ≡ false
not_true true h = absurd (h refl)
not_true false h = refl

module _ (begin : Begin) (old new : View) (tasks : List Record) (deeds : List Deed) (d : Does begin old new tasks deeds)
    (whole : IsWhole begin.rows new) where
  -- the worker made each place since, where it had made each one before
  pub made_then : IsWhole begin.rows old → (x : ℕ) → length (log_of old) ≤ x → x < length (log_of new)
      → 0 < stands x d.gains.made
  made_then before x low high =
      let a = before.made x in let b = whole.made x in
      let s : stands x new.turn.made ≡ stands x old.turn.made + stands x d.gains.made =
      ap (stands x) d.gained.made ∙ stands_both x old.turn.made d.gains.made in
      grind (arith, nat_tests)

  -- where no piece was made, none stands behind the log that was known
  none_behind : IsWhole begin.rows old → count_at is_piece (log_of new) d.gains.made ≡ 0
      → (k : ℕ) → k < length d.grows.earlier.log.0 → is_piece (slice_get d.grows.earlier.log.0 k) ≡ false
  none_behind before none k low =
      let rest : List Logged = d.grows.earlier.log.0 in
      let is : log_of new ≡ log_of old ++ rest = d.grows.earlier.log.1 in
      let size : length (log_of new) ≡ length (log_of old) + length rest =
      ap length is ∙ length-append (log_of old) rest in
      not_true (is_piece (slice_get rest k)) (λ yes.
      let here : is_piece (slice_get (log_of new) (length (log_of old) + k)) ≡ true =
      ap (λ (l : List Logged). is_piece (slice_get l (length (log_of old) + k))) is
      ∙ (ap is_piece (get_behind (log_of old) rest k) ∙ yes) in
      let c = count_one is_piece (log_of new) (length (log_of old) + k) d.gains.made
      (made_then before (length (log_of old) + k) (omega arith) (omega arith)) here in
      omega arith)

  -- nothing was put
  pub nothing_put : IsWhole begin.rows old → count_at is_piece (log_of new) d.gains.made ≡ 0
      → pieces_of (log_of new) ≡ pieces_of (log_of old)
  nothing_put before none =
      let rest : List Logged = d.grows.earlier.log.0 in
      let is : log_of new ≡ log_of old ++ rest = d.grows.earlier.log.1 in
      let quiet : pieces_of rest ≡ [] = no_pieces rest (none_behind before none) in
      ap pieces_of is
      ∙ (pieces_both (log_of old) rest
      ∙ (ap (λ (l : List ℕ). pieces_of (log_of old) ++ l) quiet ∙ append-nil (pieces_of (log_of old))))

  -- and no put failed
  pub none_failed : IsWhole begin.rows old → count_at is_piece (log_of new) d.gains.made ≡ 0
      → new.turn.known.put_faults ≡ old.turn.known.put_faults
  none_failed before none =
      let rest : List Logged = d.grows.earlier.log.0 in
      let is : pieces (log_of new) ≡ pieces (log_of old ++ rest) = ap pieces d.grows.earlier.log.1 in
      let both = piece_count_both (log_of old) rest in
      let quiet = none_counted rest (none_behind before none) in
      let sparing = d.sparing.0 in let later = d.grows.earlier.put_faults in omega arith

  -- at most one reserve a record that can draw, in the whole log
  pub few_reserves : ((x : ℕ) → stands x old.turn.made ≡ 0) → reserves_of (entries_in new) ≤ drawers tasks
  few_reserves none =
      let c = counted [] (log_of new) in
      let f = count_fewer is_of_none (log_of new) (places 0 (length (log_of new))) d.gains.made (λ x.
      let p = places_at 0 (length (log_of new)) x in let b = whole.made x in
      let s : stands x new.turn.made ≡ stands x old.turn.made + stands x d.gains.made =
      ap (stands x) d.gained.made ∙ stands_both x old.turn.made d.gains.made in
      let n = none x in grind (arith, nat_tests)) in
      let r = d.works.reserves in omega arith

  -- so many entries at most are made, in the whole log
  pub few_entries : ((x : ℕ) → stands x old.turn.made ≡ 0) → (most : ℕ)
      → count_at is_line (log_of new) d.gains.made ≤ most → length (entries_in new) ≤ most
  few_entries none most h =
      let c = lines_counted [] (log_of new) in
      let f = count_fewer is_line (log_of new) (places 0 (length (log_of new))) d.gains.made (λ x.
      let p = places_at 0 (length (log_of new)) x in let b = whole.made x in
      let s : stands x new.turn.made ≡ stands x old.turn.made + stands x d.gains.made =
      ap (stands x) d.gained.made ∙ stands_both x old.turn.made d.gains.made in
      let n = none x in grind (arith, nat_tests)) in
      omega arith

  -- entries of records that are handled in turn stand in input order
  pub entries_in_order : (in_turn : ℕ → ℕ → Type 0) (lines_made pieces : ℕ)
      → Lined in_turn (log_of new) d.gains.made lines_made pieces → ((x : ℕ) → stands x old.turn.made ≡ 0)
      → (p q i j : ℕ) (a b : Entry) → slice_get (entries_in new) p ≡ Some a → slice_get (entries_in new) q ≡ Some b
      → a.index ≡ Some i → b.index ≡ Some j → i < j → in_turn i j → p < q
  entries_in_order in_turn lines_made pieces lined none p q i j a b at_p at_q is_a is_b lt turn =
      let (x, low_x, here_x, same_x) = place_of_entry (log_of new) p a at_p in
      let (y, low_y, here_y, same_y) = place_of_entry (log_of new) q b at_q in
      let mine : (z : ℕ) → z < length (log_of new) → 0 < stands z d.gains.made = λ z low.
      let s : stands z new.turn.made ≡ stands z old.turn.made + stands z d.gains.made =
      ap (stands z) d.gained.made ∙ stands_both z old.turn.made d.gains.made in
      let w = whole.made z in let n = none z in grind (arith, nat_tests) in
      let before = lined.in_order x y i j (mine x low_x) (mine y low_y)
      (ap (is_of_record i) here_x ∙ (ap (is_index i) is_a ∙ eq-eqb i i refl))
      (ap (is_of_record j) here_y ∙ (ap (is_index j) is_b ∙ eq-eqb j j refl)) lt turn in
      let l = entries_low (log_of new) x y (omega arith) in
      let in_p = slice_get_within (entries_in new) p a at_p in
      let in_q = slice_get_within (entries_in new) q b at_q in
      let size_p = ap length same_x ∙ length-take p (entries_in new) in
      let size_q = ap length same_y ∙ length-take q (entries_in new) in
      elim (cases_lt p q) [
        | inl below ↦ below
        | inr ge ↦
            let same : p ≡ q = omega arith in
            let two : Some a ≡ Some b = sym at_p ∙ (ap (slice_get (entries_in new)) same ∙ at_q) in
            let one : a ≡ b = (let t = two in cc) in
            let e : Some i ≡ Some j = sym is_a ∙ (ap (λ (z : Entry). z.index) one ∙ is_b) in
            let f : i ≡ j = (let t = e in cc) in absurd (omega arith)
      ]

none_below : (from count x : ℕ) → x < from → stands x (places from count) ≡ 0
none_below from zero x low = refl
none_below from (suc count) x low =
    let f : eqb from x ≡ false = grind (arith, nat_tests) in
    let h = none_below (suc from) count x (omega arith) in
    ap (λ (b : Bool). (if b then 1 else 0) + stands x (places (suc from) count)) f ∙ omega arith

-- A worker that had made each place of the log that it knew, took the turn, gave a longer log back, and still has made
-- each
-- place: the log that it found was the one that it knew.
pub found_known : (rows : ℕ) (w z : View) (found count : ℕ) → IsWhole rows w → IsWhole rows z
    → length (log_of w) ≤ found
    → z.turn.made ≡ w.turn.made ++ places found count → length (log_of z) ≡ found + count → found ≡ length (log_of w)
found_known rows w z found count before after low made size = elim (cases_lt (length (log_of w)) found) [
  | inl lt ↦
      let a = before.made (length (log_of w)) in
      let b = after.made (length (log_of w)) in
      let s : stands (length (log_of w)) z.turn.made ≡ stands (length (log_of w)) w.turn.made
      + stands (length (log_of w)) (places found count) =
      ap (stands (length (log_of w))) made ∙ stands_both (length (log_of w)) w.turn.made (places found count) in
      let n = none_below found count (length (log_of w)) lt in
      absurd (grind (arith, nat_tests))
  | inr ge ↦ omega arith
]
