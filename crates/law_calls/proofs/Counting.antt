-- What the ways of a number add to the lists of one who handles a record.
use Rattle.std.proofs.Common.{◌≡◌, ◌⊎◌, ℕ, ◌+◌, ◌-◌, ◌<◌, ◌≤◌, ◌==◌, max, Bool, true, false, List, [], ◌∷◌, ◌++◌, refl}
use Rattle.std.proofs.Common.{sym, ◌∙◌, ap, subst, arith, inl, inr, append-nil, eqb}
use Rattle.std.proofs.lemmas.Bool.{cases_eq}
use Rattle.std.proofs.lemmas.Bool.Decides.{nat_tests}
use Rattle.sdls_base.specs.Numbers.{one_if, tally}
use Rattle.record_io.specs.declared.item_cursor.Record.{Record}
use Rattle.counter_table.specs.declared.view.Numbers.{Numbers}
use Rattle.counter_table.specs.declared.view.View.{View}
use Rattle.counter_table.specs.Numbers.{count_of, top, arming, raising}
use Rattle.run_promise.specs.History.{drawers}
use Rattle.shared_unit.specs.Numbers.{Draws, ComesBack, RunsOut, UsesNumber}
use Rattle.shared_unit.proofs.Tops.{top-append, top_here}
use Rattle.run_promise.specs.Call.{Begin}
use Rattle.law_workers.specs.Views.{entries_in}
use Rattle.law_workers.specs.Work.{IsAsked}
use Rattle.law_calls.proofs.OneRecord.{Counted, one_all, none_all}

-- the pair is the only one of a list
one_time : (row n r x : ℕ) → 0 < tally r x ((row, n) ∷ []) → (row ≡ r) × (n ≡ x)
one_time row n r x h = elim (cases_eq row r) [
  | inl same ↦ elim (cases_eq n x) [
    | inl is ↦ (same, is)
    | inr off ↦ let f : eqb n x ≡ false = grind (arith, nat_tests) in absurd (grind (arith, nat_tests))
  ]
  | inr off ↦ let f : eqb row r ≡ false = grind (arith, nat_tests) in absurd (grind (arith, nat_tests))
]

rises : (row r n : ℕ) (ps : List (ℕ × ℕ)) → top r ps ≤ top r (ps ++ (row, n) ∷ [])
rises row r n ps = let h = top-append r ps ((row, n) ∷ []) in omega arith

at_most_one : (b : Bool) → one_if b ≤ 1
at_most_one true = omega arith
at_most_one false = omega arith

count_low : (r row n : ℕ) → count_of r ((row, n) ∷ []) ≤ 1
count_low r row n = let h = at_most_one (row == r) in omega arith

module _ (begin : Begin) (task : Record) (v w : View) where
  -- What was shown of a row, and what was added for it. It was no less than each word seen before, and no more than the
  -- one
  -- seen last.
  pub record Shows (row n : ℕ) (drawn spent raised added : List (ℕ × ℕ)) : Type 0 where
    pub counted : Counted begin task v w drawn spent raised added
    pub least : top row v.numbers.nexts ≤ n
    pub most : n ≤ top row w.numbers.nexts

  pub counted_none : w.numbers ≡ v.numbers → Counted begin task v w [] [] [] []
  counted_none is = record {
    drawn_is = ap (λ (k : Numbers). k.drawn) is ∙ sym (append-nil v.numbers.drawn);
    spent_is = ap (λ (k : Numbers). k.spent) is ∙ sym (append-nil v.numbers.spent);
    raised_is = ap (λ (k : Numbers). k.raised) is ∙ sym (append-nil v.numbers.raised);
    added_is = ap (λ (k : Numbers). k.added) is ∙ sym (append-nil v.numbers.added);
    shares = ap (λ (k : Numbers). k.shares) is;
    nexts = λ row. (let h : top row w.numbers.nexts ≡ top row v.numbers.nexts =
        ap (λ (k : Numbers). top row k.nexts) is in omega arith);
    few = λ row. omega arith;
    between = λ r x l. absurd (omega arith);
    of_drawn = λ r x. omega arith;
    raised_by = none_all _;
  }

  -- a word that was found, and nothing more
  pub found_shows : (row end n : ℕ) → top row v.numbers.nexts ≤ n → w.numbers ≡ arming row end n v.numbers
      → Shows row n [] [] [] []
  found_shows row end n least is =
      let nexts : (r : ℕ) → top r w.numbers.nexts ≡ top r (v.numbers.nexts ++ (row, n) ∷ []) =
      λ r. ap (λ (k : Numbers). top r k.nexts) is in
      record {
        counted = record {
          drawn_is = ap (λ (k : Numbers). k.drawn) is ∙ sym (append-nil v.numbers.drawn);
          spent_is = ap (λ (k : Numbers). k.spent) is ∙ sym (append-nil v.numbers.spent);
          raised_is = ap (λ (k : Numbers). k.raised) is ∙ sym (append-nil v.numbers.raised);
          added_is = ap (λ (k : Numbers). k.added) is ∙ sym (append-nil v.numbers.added);
          shares = ap (λ (k : Numbers). k.shares) is;
          nexts = λ r. (let h = nexts r in let k = rises row r n v.numbers.nexts in omega arith);
          few = λ r. omega arith;
          between = λ r x l. absurd (omega arith);
          of_drawn = λ r x. omega arith;
          raised_by = none_all _;
        };
        least = least;
        most = (let h = nexts row in let k = top_here row n v.numbers.nexts in omega arith);
      }

  -- a word that was found, and raised to a number
  pub raise_shows : (row number n : ℕ) → top row v.numbers.nexts ≤ n → w.numbers ≡ raising row number n v.numbers
      → (number ≤ 1) ⊎ IsAsked begin (entries_in w) (task ∷ []) row number
      → Shows row n [] [] ((row, number) ∷ []) ((row, number - n) ∷ [])
  raise_shows row number n least is asked =
      let twice : (r : ℕ) → top r w.numbers.nexts ≡ max (top r v.numbers.nexts)
      (top r ((row, n) ∷ (row, max n number) ∷ [])) =
      λ r. ap (λ (k : Numbers). top r k.nexts) is ∙ top-append r v.numbers.nexts
      ((row, n) ∷ (row, max n number) ∷ []) in
      let own : top row ((row, n) ∷ (row, max n number) ∷ []) ≡ max n (max (max n number) 0) =
      here_twice row n (max n number) in
      record {
        counted = record {
          drawn_is = ap (λ (k : Numbers). k.drawn) is ∙ sym (append-nil v.numbers.drawn);
          spent_is = ap (λ (k : Numbers). k.spent) is ∙ sym (append-nil v.numbers.spent);
          raised_is = ap (λ (k : Numbers). k.raised) is;
          added_is = ap (λ (k : Numbers). k.added) is;
          shares = ap (λ (k : Numbers). k.shares) is;
          nexts = λ r. (let h = twice r in omega arith);
          few = λ r. omega arith;
          between = λ r x l. absurd (omega arith);
          of_drawn = λ r x. omega arith;
          raised_by = one_all (λ (pair : ℕ × ℕ). (pair.1 ≤ 1) ⊎ IsAsked begin (entries_in w) (task ∷ []) pair.0 pair.1)
              (row, number) asked;
        };
        least = least;
        most = (let h = twice row in omega arith);
      } where
        here_twice : (r a b : ℕ) → top r ((r, a) ∷ (r, b) ∷ []) ≡ max a (max b 0)
        here_twice r a b = elim (cases_eq r r) [
          | inl is ↦ let t : eqb r r ≡ true = grind (arith, nat_tests) in rw t refl
          | inr off ↦ absurd (off refl)
        ]

  module _ (may : drawers (task ∷ []) ≡ 1) where
    -- a number that was drawn and not spent, whatever became of limits and tickets
    pub drawn_as : (row end n : ℕ) (u : Numbers) → Draws row end n v.numbers u → w.numbers.drawn ≡ u.drawn
        → w.numbers.spent ≡ u.spent
        → w.numbers.raised ≡ u.raised → w.numbers.added ≡ u.added → w.numbers.shares ≡ u.shares
        → w.numbers.nexts ≡ u.nexts
        → Shows row n ((row, n) ∷ []) [] [] ((row, 1) ∷ [])
    drawn_as row end n u d drawn spent raised added shares nexts =
        let is = d.is in
        let low = d.found in
        let mid = d.follows in
        let tops : (r : ℕ) → top r w.numbers.nexts
        ≡ top r ((v.numbers.nexts ++ (row, d.next) ∷ []) ++ (row, n + 1) ∷ []) =
        λ r. ap (top r) nexts ∙ ap (λ (k : Numbers). top r k.nexts) is in
        let last : top row w.numbers.nexts ≡ max (top row (v.numbers.nexts ++ (row, d.next) ∷ [])) (n + 1) =
        tops row ∙ top_here row (n + 1) (v.numbers.nexts ++ (row, d.next) ∷ []) in
        record {
          counted = record {
            drawn_is = drawn ∙ ap (λ (k : Numbers). k.drawn) is;
            spent_is = spent ∙ ap (λ (k : Numbers). k.spent) is ∙ sym (append-nil v.numbers.spent);
            raised_is = raised ∙ ap (λ (k : Numbers). k.raised) is ∙ sym (append-nil v.numbers.raised);
            added_is = added ∙ ap (λ (k : Numbers). k.added) is;
            shares = shares ∙ ap (λ (k : Numbers). k.shares) is;
            nexts = λ r. (let h = tops r in let a = rises row r d.next v.numbers.nexts in
                let b = rises row r (n + 1) (v.numbers.nexts ++ (row, d.next) ∷ []) in omega arith);
            few = λ r. (let c = count_low r row n in omega arith);
            between = λ r x l.
                let (same, number) = one_time row n r x l in
                let from : top r v.numbers.nexts ≤ x =
                subst (λ (q : ℕ). top q v.numbers.nexts ≤ x) same (omega arith) in
                let to : x < top r w.numbers.nexts = subst (λ (q : ℕ). x < top q w.numbers.nexts) same (omega arith) in
                (from, to);
            of_drawn = λ r x. omega arith;
            raised_by = none_all _;
          };
          least = omega arith;
          most = omega arith;
        }

    drawn_counted : (row end n : ℕ) → Draws row end n v.numbers w.numbers
        → Shows row n ((row, n) ∷ []) [] [] ((row, 1) ∷ [])
    drawn_counted row end n d = drawn_as row end n w.numbers d refl refl refl refl refl refl

    pub draws_shows : (row end n : ℕ) → Draws row end n v.numbers w.numbers
        → Shows row n ((row, n) ∷ []) [] [] ((row, 1) ∷ [])
    draws_shows row end n d = drawn_counted row end n d

    pub back_shows : (row end n : ℕ) → ComesBack row end n v.numbers w.numbers
        → Shows row n ((row, n) ∷ []) [] [] ((row, 1) ∷ [])
    back_shows row end n b =
        let is = b.is in
        drawn_as row end n b.between b.draws (ap (λ (k : Numbers). k.drawn) is) (ap (λ (k : Numbers). k.spent) is)
        (ap (λ (k : Numbers). k.raised) is)
        (ap (λ (k : Numbers). k.added) is) (ap (λ (k : Numbers). k.shares) is) (ap (λ (k : Numbers). k.nexts) is)

    -- a number that was drawn and spent
    pub uses_shows : (row n back : ℕ) → UsesNumber row n back v.numbers w.numbers
        → Shows row n ((row, n) ∷ []) ((row, n) ∷ []) [] ((row, 1) ∷ [])
    uses_shows row n back u =
        let low = u.found in
        let left = u.left in
        record {
          counted = record {
            drawn_is = u.drawn;
            spent_is = u.spent;
            raised_is = u.raised ∙ sym (append-nil v.numbers.raised);
            added_is = u.added;
            shares = u.shares;
            nexts = λ r. elim (cases_eq row r) [
              | inl same ↦ subst (λ (q : ℕ). top q v.numbers.nexts ≤ top q w.numbers.nexts) same (omega arith)
              | inr off ↦ let f : (row == r) ≡ false = grind (arith, nat_tests) in let h = u.others r f in omega arith
            ];
            few = λ r. (let c = count_low r row n in omega arith);
            between = λ r x l.
                let (same, number) = one_time row n r x l in
                let from : top r v.numbers.nexts ≤ x =
                subst (λ (q : ℕ). top q v.numbers.nexts ≤ x) same (omega arith) in
                let to : x < top r w.numbers.nexts = subst (λ (q : ℕ). x < top q w.numbers.nexts) same (omega arith) in
                (from, to);
            of_drawn = λ r x. omega arith;
            raised_by = none_all _;
          };
          least = omega arith;
          most = omega arith;
        }

    -- what was found or drawn when the key had no number left
    pub record OutOf (row n : ℕ) : Type 0 where
      pub drawn : List (ℕ × ℕ)
      pub added : List (ℕ × ℕ)
      pub shows : Shows row n drawn [] [] added

    pub out_shows : (row end n : ℕ) → RunsOut row end n v.numbers w.numbers → OutOf row n
    out_shows row end n (past, inl (least, is)) =
        record { drawn = []; added = []; shows = found_shows row end n least is }
    out_shows row end n (past, inr d) =
        record { drawn = (row, n) ∷ []; added = (row, 1) ∷ []; shows = drawn_counted row end n d }
