-- What the ways of a number do to the words of rows, as moves of the machine.
use Rattle.std.proofs.Common.{◌≡◌, ℕ, ◌+◌, ◌-◌, ◌<◌, ◌≤◌, ◌==◌, max, Bool, true, false, List, [], ◌∷◌, ◌++◌, refl, sym}
use Rattle.std.proofs.Common.{◌∙◌, ap, subst, arith, inl, inr, if◌then◌else◌, eqb, eq-eqb}
use Rattle.std.proofs.lemmas.Bool.{cases_eq}
use Rattle.std.proofs.lemmas.Bool.Decides.{nat_tests}
use Rattle.sdls_base.specs.Numbers.{tally}
use Rattle.counter_table.specs.declared.view.Numbers.{Numbers}
use Rattle.counter_table.specs.declared.view.View.{View}
use Rattle.counter_table.specs.Numbers.{amount, top, raising}
use Rattle.record_io.specs.declared.item_cursor.Record.{Record}
use Rattle.shared_unit.specs.Numbers.{Draws}
use Rattle.shared_unit.proofs.Tops.{top-append}
use Rattle.run_promise.specs.Call.{Begin}
use Rattle.run_promise.specs.Words.{Move, Kept, Found, Drew, Raised, Overdrew, adds, IsAt, LiesBetween}
use Rattle.law_workers.specs.Exact.{words_in}
use Rattle.law_workers.proofs.Machines.{drew_alone, found_alone, raised_alone}
use Rattle.law_calls.proofs.Counting.{Shows}

amount_both : (row : ℕ) (a b : List (ℕ × ℕ)) → amount row (a ++ b) ≡ amount row a + amount row b
amount_both row [] b = omega arith
amount_both row (p ∷ a) b = let h = amount_both row a b in omega arith

module _ (begin : Begin) (v w : View) where
  -- what was added to the words is what the move adds, which lies between them, and the words grew by it; if by no
  -- more, the
  -- move is the machine's
  pub record Moves (move : Move) : Type 0 where
    pub added : (row : ℕ) → amount row w.numbers.added ≡ amount row v.numbers.added + adds row move
    pub grown : (row : ℕ) → words_in v row + adds row move ≤ words_in w row
    pub between : LiesBetween begin.rows (words_in v) (words_in w) move
    pub at : ((row : ℕ) → row < begin.rows → words_in w row ≡ words_in v row + adds row move)
        → IsAt begin.rows (words_in v) move

  pub moves_none : w.numbers ≡ v.numbers → Moves Kept
  moves_none is = record {
    added = λ row. (let h : amount row w.numbers.added ≡ amount row v.numbers.added =
        ap (λ (k : Numbers). amount row k.added) is in omega arith);
    grown = λ row. (let h : words_in w row ≡ words_in v row = ap (λ (k : Numbers). top row k.nexts) is in omega arith);
    between = tt;
    at = λ still. tt;
  }

  -- a pair at the end of the list of what was added
  last_added : (own x row : ℕ) → w.numbers.added ≡ v.numbers.added ++ (own, x) ∷ []
      → amount row w.numbers.added ≡ amount row v.numbers.added + (if own == row then x else 0)
  last_added own x row is =
      let h : amount row w.numbers.added ≡ amount row (v.numbers.added ++ (own, x) ∷ []) = ap (amount row) is in
      let b = amount_both row v.numbers.added ((own, x) ∷ []) in omega arith

  module _ (task : Record) (row : ℕ) (low : row < begin.rows) where
    pub moves_found : (n : ℕ) → Shows begin task v w row n [] [] [] [] → Moves (Found row n)
    moves_found n s = record {
      added = λ r. (let h : amount r w.numbers.added ≡ amount r (v.numbers.added ++ []) =
          ap (amount r) s.counted.added_is in
          let b = amount_both r v.numbers.added [] in omega arith);
      grown = λ r. (let g = s.counted.nexts r in omega arith);
      between = (low, s.least, s.most);
      at = found_alone begin.rows v w row n low s.least s.most;
    }

    one_more : (n : ℕ) (spent : List (ℕ × ℕ)) → Shows begin task v w row n ((row, n) ∷ []) spent [] ((row, 1) ∷ [])
        → (r : ℕ)
        → words_in v r + (if row == r then 1 else 0) ≤ words_in w r
    one_more n spent s r = elim (cases_eq row r) [
      | inl same ↦
          let least : words_in v r ≤ n = subst (λ (q : ℕ). words_in v q ≤ n) same s.least in
          let above : n < words_in w r =
          subst (λ (q : ℕ). n < words_in w q) same (s.counted.between row n (once row n)).1 in
          let one : eqb row r ≡ true = grind (arith, nat_tests) in
          subst (λ (b : Bool). words_in v r + (if b then 1 else 0) ≤ words_in w r) (sym one) (omega arith)
      | inr off ↦
          let none : eqb row r ≡ false = grind (arith, nat_tests) in
          let g = s.counted.nexts r in
          subst (λ (b : Bool). words_in v r + (if b then 1 else 0) ≤ words_in w r) (sym none) (omega arith)
    ] where
      once : (own x : ℕ) → 0 < tally own x ((own, x) ∷ [])
      once own x = let t : eqb own own ≡ true = eq-eqb own own refl in let u : eqb x x ≡ true = eq-eqb x x refl in
          rw (t, u) (omega arith)

    above : (n : ℕ) (spent : List (ℕ × ℕ)) → Shows begin task v w row n ((row, n) ∷ []) spent [] ((row, 1) ∷ [])
        → n < words_in w row
    above n spent s = (s.counted.between row n (once row n)).1 where
      once : (own x : ℕ) → 0 < tally own x ((own, x) ∷ [])
      once own x = let t : eqb own own ≡ true = eq-eqb own own refl in let u : eqb x x ≡ true = eq-eqb x x refl in
          rw (t, u) (omega arith)

    pub moves_drew : (n : ℕ) (spent : List (ℕ × ℕ))
        → Shows begin task v w row n ((row, n) ∷ []) spent [] ((row, 1) ∷ []) → Moves (Drew row n)
    moves_drew n spent s = record {
      added = λ r. last_added row 1 r s.counted.added_is;
      grown = one_more n spent s;
      between = (low, s.least, above n spent s);
      at = drew_alone begin.rows v w row n low s.least (above n spent s);
    }

    -- a number at or past the end: the word was found below it
    pub moves_over : (end n : ℕ) → end ≤ n → Draws row end n v.numbers w.numbers
        → Shows begin task v w row n ((row, n) ∷ []) [] [] ((row, 1) ∷ [])
        → Moves (Overdrew row n)
    moves_over end n past d s = record {
      added = λ r. last_added row 1 r s.counted.added_is;
      grown = one_more n [] s;
      between = (low, s.least, above n [] s);
      at = λ still.
          let here = still row low in
          let one : adds row (Overdrew row n) ≡ 1 = ap (λ (b : Bool). if b then 1 else 0) (eq-eqb row row refl) in
          let found = d.found in
          let armed = d.armed in
          let more = above n [] s in
          absurd (omega arith);
    }

    pub moves_raised : (n number : ℕ) → top row v.numbers.nexts ≤ n → w.numbers ≡ raising row number n v.numbers
        → Moves (Raised row n number)
    moves_raised n number least is =
        let twice : (r : ℕ) → words_in w r ≡ max (words_in v r) (top r ((row, n) ∷ (row, max n number) ∷ [])) =
        λ r. ap (λ (k : Numbers). top r k.nexts) is ∙ top-append r v.numbers.nexts
        ((row, n) ∷ (row, max n number) ∷ []) in
        let own : top row ((row, n) ∷ (row, max n number) ∷ []) ≡ max n (max (max n number) 0) =
        here_twice row n (max n number) in
        record {
          added = λ r. last_added row (number - n) r (ap (λ (k : Numbers). k.added) is);
          grown = λ r. elim (cases_eq row r) [
            | inl same ↦
                let one : eqb row r ≡ true = grind (arith, nat_tests) in
                let t = twice row in
                let here : words_in v row + (number - n) ≤ words_in w row = omega arith in
                let there : words_in v r + (number - n) ≤ words_in w r =
                subst (λ (q : ℕ). words_in v q + (number - n) ≤ words_in w q) same here in
                subst (λ (b : Bool). words_in v r + (if b then number - n else 0) ≤ words_in w r) (sym one) there
            | inr off ↦
                let none : eqb row r ≡ false = grind (arith, nat_tests) in
                let t = twice r in
                subst (λ (b : Bool). words_in v r + (if b then number - n else 0) ≤ words_in w r) (sym none)
                (omega arith)
          ];
          between = (low, least, let t = twice row in omega arith);
          at = raised_alone begin.rows v w row n number low least (let t = twice row in omega arith);
        } where
          here_twice : (r a b : ℕ) → top r ((r, a) ∷ (r, b) ∷ []) ≡ max a (max b 0)
          here_twice r a b = elim (cases_eq r r) [
            | inl is ↦ let t : eqb r r ≡ true = grind (arith, nat_tests) in rw t refl
            | inr off ↦ absurd (off refl)
          ]
