-- Entries in input order, of what was done one after the other and at once.
use Rattle.std.proofs.Common.{◌≡◌, ◌⊎◌, ℕ, zero, suc, ◌+◌, ◌<◌, ◌≤◌, List, ◌++◌, length, true, sym, ◌∙◌, ap, inl, inr}
use Rattle.std.proofs.Common.{arith}
use Rattle.std.specs.List.{slice_get}
use Rattle.sdls_base.specs.declared.entry.Logged.{Logged}
use Rattle.counter_table.specs.Turn.{stands}
use Rattle.record_io.specs.declared.item_cursor.Record.{Record}
use Rattle.law_workers.specs.Counts.{is_of_record, count_at}
use Rattle.law_workers.specs.Work.{indexed}
use Rattle.law_workers.specs.Order.{is_piece, is_line, Lined, ComeBefore, AreAside}
use Rattle.law_workers.proofs.Histories.{get_front}
use Rattle.law_workers.proofs.Logs.{stands_both, count_at_both, count_kept, count_one}

either : (a b : ℕ) → 0 < a + b → (0 < a) ⊎ (0 < b)
either zero b h = inr (omega arith)
either (suc a) b h = inl (omega arith)

module _ (in_turn : ℕ → ℕ → Type 0) where
  -- what was made stays so while the log grows
  pub lined_on : (log rest : List Logged) (made : List ℕ) (entries pieces : ℕ)
      → ((x : ℕ) → 0 < stands x made → x < length log)
      → Lined in_turn log made entries pieces → Lined in_turn (log ++ rest) made entries pieces
  lined_on log rest made entries pieces below h = record {
    in_order = λ x y i j a b is_i is_j. h.in_order x y i j a b
        (ap (is_of_record i) (sym (get_front log rest x (below x a))) ∙ is_i)
        (ap (is_of_record j) (sym (get_front log rest y (below y b))) ∙ is_j);
    few_entries = rw (count_kept is_line log rest made below) h.few_entries;
    few_pieces = rw (count_kept is_piece log rest made below) h.few_pieces;
  }

  module _ (log : List Logged) (ts us : List Record) (m n : List ℕ) (f c g d : ℕ)
      (of_first : (i : ℕ) → count_at (is_of_record i) log m ≤ indexed i ts)
      (of_second : (i : ℕ) → count_at (is_of_record i) log n ≤ indexed i us) where
    record_first : (x i : ℕ) → 0 < stands x m → is_of_record i (slice_get log x) ≡ true → 0 < indexed i ts
    record_first x i a is = let k = count_one (is_of_record i) log x m a is in let f = of_first i in omega arith

    record_second : (x i : ℕ) → 0 < stands x n → is_of_record i (slice_get log x) ≡ true → 0 < indexed i us
    record_second x i a is = let k = count_one (is_of_record i) log x n a is in let f = of_second i in omega arith

    few : Lined in_turn log m f c → Lined in_turn log n g d → count_at is_piece log (m ++ n) ≤ c + d
    few a b = let x = count_at_both is_piece log m n in let p = a.few_pieces in let q = b.few_pieces in omega arith

    few_lines : Lined in_turn log m f c → Lined in_turn log n g d → count_at is_line log (m ++ n) ≤ f + g
    few_lines a b = let x = count_at_both is_line log m n in let p = a.few_entries in let q = b.few_entries in
        omega arith

    -- what was made one after the other: the first below this place, the second from it on
    pub lined_then : (middle : ℕ) → ((x : ℕ) → 0 < stands x m → x < middle) → ((x : ℕ) → 0 < stands x n → middle ≤ x)
        → ComeBefore ts us
        → Lined in_turn log m f c → Lined in_turn log n g d → Lined in_turn log (m ++ n) (f + g) (c + d)
    lined_then middle below above turns a b = record {
      in_order = λ x y i j in_x in_y is_i is_j lt turn.
          let s = stands_both x m n in let t = stands_both y m n in
          elim (either (stands x m) (stands x n) (omega arith)) [
            | inl xm ↦ elim (either (stands y m) (stands y n) (omega arith)) [
              | inl ym ↦ a.in_order x y i j xm ym is_i is_j lt turn
              | inr yn ↦ let p = below x xm in let q = above y yn in omega arith
            ]
            | inr xn ↦ elim (either (stands y m) (stands y n) (omega arith)) [
              | inl ym ↦ let k = turns j i (record_first y j ym is_j) (record_second x i xn is_i) in
                  absurd (omega arith)
              | inr yn ↦ b.in_order x y i j xn yn is_i is_j lt turn
            ]
          ];
      few_entries = few_lines a b;
      few_pieces = few a b;
    }

    -- what was made at once, by records of which none is handled in turn with one of the other
    pub lined_beside : AreAside in_turn ts us → Lined in_turn log m f c → Lined in_turn log n g d
        → Lined in_turn log (m ++ n) (f + g) (c + d)
    lined_beside aside a b = record {
      in_order = λ x y i j in_x in_y is_i is_j lt turn.
          let s = stands_both x m n in let t = stands_both y m n in
          elim (either (stands x m) (stands x n) (omega arith)) [
            | inl xm ↦ elim (either (stands y m) (stands y n) (omega arith)) [
              | inl ym ↦ a.in_order x y i j xm ym is_i is_j lt turn
              | inr yn ↦ absurd ((aside i j (record_first x i xm is_i) (record_second y j yn is_j)).0 turn)
            ]
            | inr xn ↦ elim (either (stands y m) (stands y n) (omega arith)) [
              | inl ym ↦ absurd ((aside j i (record_first y j ym is_j) (record_second x i xn is_i)).1 turn)
              | inr yn ↦ b.in_order x y i j xn yn is_i is_j lt turn
            ]
          ];
      few_entries = few_lines a b;
      few_pieces = few a b;
    }
