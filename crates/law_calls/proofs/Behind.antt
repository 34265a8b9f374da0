-- Entries that were put behind a log: their places, what they are, and that each is legal.
use Rattle.std.proofs.Common.{◌≡◌, ℕ, zero, suc, ◌+◌, ◌<◌, ◌≤◌, Bool, true, false, List, [], ◌∷◌, ◌++◌, length, take}
use Rattle.std.proofs.Common.{Option, Some, refl, sym, ◌∙◌, ap, subst, inl, inr, arith, length-append, if◌then◌else◌}
use Rattle.std.proofs.Common.{eqb}
use Rattle.std.specs.Bool.{⊤}
use Rattle.std.specs.List.{slice_get}
use Rattle.std.proofs.lemmas.List.{take_all}
use Rattle.std.proofs.lemmas.Bool.{cases_eq}
use Rattle.std.proofs.lemmas.Bool.Decides.{nat_tests}
use Rattle.sdls_base.specs.Numbers.{one_if}
use Rattle.sdls_base.specs.declared.entry.Entry.{Entry}
use Rattle.sdls_base.specs.declared.entry.Logged.{Logged}
use Rattle.sdls_base.specs.declared.entry.Logged.TheVariants as lines
use Rattle.record_io.specs.declared.item_cursor.Record.{Record}
use Rattle.unit_plan.specs.PlanLines.{PlanLines}
use Rattle.unit_state.specs.declared.state.State.{State}
use Rattle.unit_state.specs.Applied.{applied}
use Rattle.unit_state.specs.History.{after_all}
use Rattle.counter_table.specs.Turn.{places, stands}
use Rattle.run_promise.specs.Log.{entries_of}
use Rattle.run_promise.specs.History.{IsLegal}
use Rattle.law_history.specs.Entries.{IsLegalAt}
use Rattle.law_workers.specs.Counts.{count_at}
use Rattle.law_workers.specs.Deeds.{IsLastAt}
use Rattle.law_workers.specs.Order.{is_line, is_piece}
use Rattle.law_workers.proofs.Logs.{more_stands}

abbrev pub lines_of : List Entry → List Logged
lines_of [] = []
lines_of (entry ∷ entries) = lines.Entry entry ∷ lines_of entries

-- how many of the entries the test takes
abbrev pub tested : (Option Logged → Bool) → List Entry → ℕ
tested test [] = 0
tested test (entry ∷ entries) = (if test (Some (lines.Entry entry)) then 1 else 0) + tested test entries

pub lines_entries : (log : List Logged) (es : List Entry) → entries_of (log ++ lines_of es) ≡ entries_of log ++ es
lines_entries [] [] = refl
lines_entries [] (e ∷ es) = ap (λ (l : List Entry). e ∷ l) (lines_entries [] es)
lines_entries (lines.Entry x ∷ log) es = ap (λ (l : List Entry). x ∷ l) (lines_entries log es)
lines_entries (lines.Piece x ∷ log) es = lines_entries log es

pub lines_length : (es : List Entry) → length (lines_of es) ≡ length es
lines_length [] = refl
lines_length (e ∷ es) = let h = lines_length es in omega arith

pub places_within : (from count x : ℕ) → 0 < stands x (places from count) → (from ≤ x) × (x < from + count)
places_within from zero x h = absurd (omega arith)
places_within from (suc count) x h = elim (cases_eq from x) [
  | inl is ↦ (omega arith, omega arith)
  | inr off ↦
      let f : eqb from x ≡ false = grind (arith, nat_tests) in
      let k = places_within (suc from) count x (more_stands from x (places (suc from) count) f h) in
      (omega arith, omega arith)
]

pub here : (log rest : List Logged) (line : Logged) → slice_get (log ++ line ∷ rest) (length log) ≡ Some line
here [] rest line = refl
here (x ∷ log) rest line = here log rest line

front : (log rest : List Logged) → take (length log) (log ++ rest) ≡ log
front [] rest = refl
front (x ∷ log) rest = ap (λ (l : List Logged). x ∷ l) (front log rest)

pub next : (log rest : List Logged) (line : Logged) → log ++ line ∷ rest ≡ (log ++ line ∷ []) ++ rest
next [] rest line = refl
next (x ∷ log) rest line = ap (λ (l : List Logged). x ∷ l) (next log rest line)

pub longer : (log : List Logged) (line : Logged) → length (log ++ line ∷ []) ≡ suc (length log)
longer [] line = refl
longer (x ∷ log) line = ap suc (longer log line)

pub count_behind : (test : Option Logged → Bool) (log : List Logged) (es : List Entry)
    → count_at test (log ++ lines_of es) (places (length log) (length es)) ≡ tested test es
count_behind test log [] = refl
count_behind test log (e ∷ es) =
    let line : Logged = lines.Entry e in
    let rest : List Logged = lines_of es in
    let first : one_if (test (slice_get (log ++ line ∷ rest) (length log))) ≡ one_if (test (Some line)) =
    ap (λ (o : Option Logged). one_if (test o)) (here log rest line) in
    let others : count_at test (log ++ line ∷ rest) (places (suc (length log)) (length es)) ≡ tested test es =
    ap (λ (l : List Logged). count_at test l (places (suc (length log)) (length es))) (next log rest line)
    ∙ ap (λ (n : ℕ). count_at test ((log ++ line ∷ []) ++ rest) (places n (length es))) (sym (longer log line))
    ∙ count_behind test (log ++ line ∷ []) es in
    omega arith

pub all_lines : (es : List Entry) → tested is_line es ≡ length es
all_lines [] = refl
all_lines (e ∷ es) = let h = all_lines es in omega arith

pub no_pieces : (es : List Entry) → tested is_piece es ≡ 0
no_pieces [] = refl
no_pieces (e ∷ es) = let h = no_pieces es in omega arith

pub after_both : (state : State) (es more : List Entry) → after_all state (es ++ more)
    ≡ after_all (after_all state es) more
after_both state [] more = refl
after_both state (e ∷ es) more = after_both (applied state e.change) es more

module _ (near : ℕ → ℕ → Type 0) (plan : PlanLines) (start : State) (tasks : List Record) where
  -- each is legal in the state that those before it leave
  abbrev pub LegalInTurn : State → List Entry → Type 0
  LegalInTurn state [] = ⊤
  LegalInTurn state (entry ∷ entries) = IsLegal near plan state tasks entry
      × LegalInTurn (applied state entry.change) entries

  after_last : (log : List Logged) (e : Entry) → after_all start (entries_of (log ++ lines.Entry e ∷ []))
      ≡ applied (after_all start (entries_of log)) e.change
  after_last log e = ap (after_all start) (lines_entries log (e ∷ [])) ∙ after_both start (entries_of log) (e ∷ [])

  pub legal_behind : (log : List Logged) (es : List Entry) → LegalInTurn (after_all start (entries_of log)) es → (x : ℕ)
      → 0 < stands x (places (length log) (length es)) → IsLegalAt near plan start tasks (log ++ lines_of es) x
  legal_behind log [] legal x in' = absurd (omega arith)
  legal_behind log (e ∷ es) legal x in' = elim (cases_eq (length log) x) [
    | inl is ↦ subst (IsLegalAt near plan start tasks (log ++ lines.Entry e ∷ lines_of es)) is (λ entry at.
        let same : Some (lines.Entry e) ≡ Some (lines.Entry entry) =
        sym (here log (lines_of es) (lines.Entry e)) ∙ at in
        let entry_is : e ≡ entry = cc in
        rw (front log (lines.Entry e ∷ lines_of es))
        (subst (λ (z : Entry). IsLegal near plan (after_all start (entries_of log)) tasks z) entry_is legal.0))
    | inr off ↦
        let f : eqb (length log) x ≡ false = grind (arith, nat_tests) in
        let rest : 0 < stands x (places (suc (length log)) (length es)) =
        more_stands (length log) x (places (suc (length log)) (length es)) f in' in
        let there : 0 < stands x (places (length (log ++ lines.Entry e ∷ [])) (length es)) =
        subst (λ (n : ℕ). 0 < stands x (places n (length es))) (sym (longer log (lines.Entry e))) rest in
        subst (λ (l : List Logged). IsLegalAt near plan start tasks l x) (sym (next log (lines_of es) (lines.Entry e)))
        (legal_behind (log ++ lines.Entry e ∷ []) es
        (subst (λ (s : State). LegalInTurn s es) (sym (after_last log e)) legal.1) x there)
  ]

pub lines_more : (log : List Logged) (es more : List Entry)
    → log ++ lines_of (es ++ more) ≡ (log ++ lines_of es) ++ lines_of more
lines_more [] [] more = refl
lines_more [] (e ∷ es) more = ap (λ (l : List Logged). lines.Entry e ∷ l) (lines_more [] es more)
lines_more (x ∷ log) es more = ap (λ (l : List Logged). x ∷ l) (lines_more log es more)

pub tested_more : (test : Option Logged → Bool) (es more : List Entry)
    → tested test (es ++ more) ≡ tested test es + tested test more
tested_more test [] more = omega arith
tested_more test (e ∷ es) more = let h = tested_more test es more in omega arith

pub tested_few : (test : Option Logged → Bool) (es : List Entry) → tested test es ≤ length es
tested_few test [] = omega arith
tested_few test (e ∷ es) = let h = tested_few test es in let one = at_most_one (test (Some (lines.Entry e))) in
    omega arith where
      at_most_one : (b : Bool) → (if b then 1 else 0) ≤ 1
      at_most_one true = omega arith
      at_most_one false = omega arith

pub legal_then : (near : ℕ → ℕ → Type 0) (plan : PlanLines) (start state : State) (tasks : List Record)
    (es : List Entry) (e : Entry)
    → LegalInTurn near plan start tasks state es → IsLegal near plan (after_all state es) tasks e
    → LegalInTurn near plan start tasks state (es ++ e ∷ [])
legal_then near plan start state tasks [] e legal own = (own, tt)
legal_then near plan start state tasks (x ∷ es) e legal own =
    (legal.0, legal_then near plan start (applied state x.change) tasks es e legal.1 own)

pub places_stand : (from count x : ℕ) → from ≤ x → x < from + count → 0 < stands x (places from count)
places_stand from zero x low high = absurd (omega arith)
places_stand from (suc count) x low high = elim (cases_eq from x) [
  | inl is ↦ let t : eqb from x ≡ true = grind (arith, nat_tests) in rw t (omega arith)
  | inr off ↦ let h = places_stand (suc from) count x (omega arith) (omega arith) in omega arith
]

-- an entry behind a log is the last
pub last_behind : (log : List Logged) (e : Entry) → IsLastAt (log ++ lines.Entry e ∷ []) (length log)
last_behind log e =
    let all : length (entries_of (log ++ lines.Entry e ∷ [])) ≡ length (entries_of log) + 1 =
    ap length (lines_entries log (e ∷ [])) ∙ length-append (entries_of log) (e ∷ []) in
    let before : length (entries_of (take (length log) (log ++ lines.Entry e ∷ []))) ≡ length (entries_of log) =
    ap (λ (l : List Logged). length (entries_of l)) (front log (lines.Entry e ∷ [])) in
    let size : length (log ++ lines.Entry e ∷ []) ≡ length log + 1 = length-append log (lines.Entry e ∷ []) in (
      omega arith,
      ap (λ (l : List Logged). length (entries_of l))
          (take_all (length log + 1) (log ++ lines.Entry e ∷ []) (omega arith)),
    )
