-- One record moves a word as its answer tells: what is the same for each call.
use Rattle.std.proofs.Common.{◌≡◌, ◌≢◌, ◌⊎◌, ℕ, suc, ◌<◌, ◌≤◌, List, [], ◌∷◌, ◌++◌, length, Option, Some, None, refl}
use Rattle.std.proofs.Common.{sym, ◌∙◌, ap, subst, arith, inl, inr, eqb, false}
use Rattle.std.specs.Bool.{⊤}
use Rattle.std.specs.List.{slice_get}
use Rattle.std.proofs.lemmas.Bool.{cases_eq}
use Rattle.std.proofs.lemmas.List.Elements.{All-cons, All-nil}
use Rattle.std.proofs.lemmas.Bool.Decides.{nat_tests}
use Rattle.sdls_base.specs.declared.entry.Entry.{Entry}
use Rattle.sdls_base.specs.declared.entry.Logged.{Logged}
use Rattle.sdls_base.specs.declared.entry.Logged.TheVariants as lines
use Rattle.record_io.specs.declared.answers.Answer.{Answer}
use Rattle.record_io.specs.declared.code.TheConstants.{SITE_FAULT, STOPPED, NO_MEMORY, CLEAR, DONE, REFUSED, LAYOUT}
use Rattle.record_io.specs.declared.code.TheConstants.{STATE}
use Rattle.record_io.specs.declared.reader.RecordKind.{RecordKind}
use Rattle.record_io.specs.declared.reader.RecordKind.TheVariants.{Protect, Open, Command, Monitor}
use Rattle.record_io.specs.declared.item_cursor.Record.{Record}
use Rattle.counter_table.specs.declared.view.View.{View}
use Rattle.counter_table.specs.Turn.{places, stands}
use Rattle.run_promise.specs.History.{draws}
use Rattle.run_promise.specs.Answers.{counting}
use Rattle.unit_book.specs.declared.fault.BookFault.{BookFault}
use Rattle.unit_book.specs.declared.fault.BookFault.TheVariants as refusals
use Rattle.run_promise.specs.Call.{Begin}
use Rattle.law_workers.specs.Views.{log_of, entries_in}
use Rattle.run_promise.specs.Deed.{deed_of}
use Rattle.law_workers.proofs.Logs.{more_stands}
use Rattle.run_promise.specs.Words.{Move, Kept, LiesBetween, Tells, TellsKind}
use Rattle.law_workers.specs.Exact.{IsOfMoves, words_in}
use Rattle.law_workers.specs.InTurn.{IsClean, IsLevel, AllStand, IsBacked, ServedInTurn}
use Rattle.law_workers.proofs.Machines.{exact_move, move_moves}
use Rattle.law_calls.specs.Answering.{answer_of, unserved_answer, fault_answer, AnsweredExactly}
use Rattle.law_calls.proofs.Behind.{lines_of, here, next, longer}
use Rattle.law_calls.proofs.InTurn.{Passes, ServesSo, served_late, served_turn, unserved_turn}
use Rattle.law_calls.proofs.Moving.{Moves}
use Rattle.law_calls.proofs.OneRecord.{Turned}

-- each of the entries, where it is a reserve, is of a number that one of the moves drew
abbrev pub AreDrawn : List Move → List Entry → Type 0
AreDrawn moves [] = ⊤
AreDrawn moves (entry ∷ entries) = IsOfMoves moves (Some (lines.Entry entry)) × AreDrawn moves entries

pub drawn_at : (moves : List Move) (log : List Logged) (es : List Entry) → AreDrawn moves es → (x : ℕ)
    → 0 < stands x (places (length log) (length es))
    → IsOfMoves moves (slice_get (log ++ lines_of es) x)
drawn_at moves log [] drawn x in' = absurd (omega arith)
drawn_at moves log (e ∷ es) drawn x in' = elim (cases_eq (length log) x) [
  | inl is ↦ subst (λ (n : ℕ). IsOfMoves moves (slice_get (log ++ lines.Entry e ∷ lines_of es) n)) is
      (subst (λ (o : Option Logged). IsOfMoves moves o) (sym (here log (lines_of es) (lines.Entry e))) drawn.0)
  | inr off ↦
      let f : eqb (length log) x ≡ false = grind (arith, nat_tests) in
      let rest : 0 < stands x (places (suc (length log)) (length es)) =
      more_stands (length log) x (places (suc (length log)) (length es)) f in' in
      let there : 0 < stands x (places (length (log ++ lines.Entry e ∷ [])) (length es)) =
      subst (λ (n : ℕ). 0 < stands x (places n (length es))) (sym (longer log (lines.Entry e))) rest in
      subst (λ (l : List Logged). IsOfMoves moves (slice_get l x)) (sym (next log (lines_of es) (lines.Entry e)))
      (drawn_at moves (log ++ lines.Entry e ∷ []) es drawn.1 x there)
]

-- an entry of a record is no reserve
pub of_record : (moves : List Move) (e : Entry) (index : ℕ) → e.index ≡ Some index
    → IsOfMoves moves (Some (lines.Entry e))
of_record moves e index is entry same none =
    let e_is : e ≡ entry = (let s = same in cc) in
    let both : Some index ≡ None = sym is ∙ ap (λ (z : Entry). z.index) e_is ∙ none in absurd (let b = both in cc)

module _ (begin : Begin) (segment : ℕ) (task : Record) (v w : View) (move : Move) (moves : Moves begin v w move)
    (log : List Logged) (es : List Entry) (turned : Turned log es v.turn w.turn) (drawn : AreDrawn (move ∷ []) es)
    (spent : List (ℕ × ℕ)) (passes : Passes begin v w log es turned spent) where
  -- in the history that was found, where no other worker made a line, the record is served so
  abbrev pub IsServed : Answer → Type 0
  IsServed answer =
      log ≡ log_of v → IsLevel v → IsBacked begin w spent
      → ServesSo begin v w log es turned segment task move spent passes answer

  reserves : (place : ℕ) → 0 < stands place (places (length log) (length es))
      → IsOfMoves (move ∷ []) (slice_get (log_of w) place)
  reserves place in' = subst (λ (l : List Logged). IsOfMoves (move ∷ []) (slice_get l place)) (sym turned.log_is)
      (drawn_at (move ∷ []) log es drawn place in')

  pub told_exactly : (answer : Answer) → Tells begin.start (entries_in w) (deed_of segment task answer) move
      → IsServed answer
      → AnsweredExactly begin segment v w task (Some answer)
  told_exactly answer told serves = record {
    moved = record {
      made = places (length log) (length es);
      made_is = turned.made;
      last = [];
      few = omega arith;
      each = λ same. refl;
      exact = exact_move begin v w (places (length log) (length es)) (deed_of segment task answer) move told reserves
          moves.added moves.grown moves.at
          moves.between;
    };
    spent = spent;
    in_turn =
        subst (λ (l : List Move). ServedInTurn begin v w (places (length log) (length es)) spent
        (deed_of segment task answer ∷ []) l [])
        (sym (move_moves begin v w (places (length log) (length es)) (deed_of segment task answer) move told reserves
        moves.added moves.grown moves.at
        moves.between))
        (served_turn begin v w log es turned segment task move spent passes answer serves);
  }

  pub untold_exactly : length es ≤ 1 → IsClean v → AllStand w → AnsweredExactly begin segment v w task None
  untold_exactly few clean now = record {
    moved = record {
      made = places (length log) (length es);
      made_is = turned.made;
      last = move ∷ [];
      few = omega arith;
      each = λ same. absurd (omega arith);
      exact = record {
        moves = [];
        told = tt;
        reserves = reserves;
        added = λ row. (let a = moves.added row in omega arith);
        between = All-cons (LiesBetween begin.rows (words_in v) (words_in w)) move [] moves.between
            (All-nil (LiesBetween begin.rows (words_in v) (words_in w)));
        grown = λ row. (let g = moves.grown row in omega arith);
        exact = λ still. (moves.at (λ row low. let s = still row low in omega arith), tt);
      };
    };
    spent = spent;
    in_turn = unserved_turn begin v w log es turned segment task move spent passes few clean now;
  }

  -- codes from 31 on tell nothing of the move, but that a frame that is opened makes none, nor one that is to be
  -- protected
  -- if memory ran out for it
  late_tells : (kind : RecordKind) → (draws kind ≡ false → move ≡ Kept) → (code n position : ℕ) → SITE_FAULT ≤ code
      → (kind ≡ Protect → code ≡ NO_MEMORY → move ≡ Kept)
      → TellsKind begin.start (entries_in w) kind (deed_of segment task (answer_of (counting code 0 n) position)) move
  late_tells Protect kept code n position late wants = record {
    protected = λ is. absurd (omega arith);
    exhausted = λ is. absurd (omega arith);
    unbound = λ is. absurd (by_code is);
    wanting = wants refl;
  } where
    by_code : (code ≡ CLEAR) ⊎ ((LAYOUT ≤ code) × (code ≤ STATE)) → ⊥
    by_code (inl is) = omega arith
    by_code (inr is) = omega arith
  late_tells Open kept code n position late wants = kept refl
  late_tells Command kept code n position late wants = record { entry = λ is. absurd (by_code is) } where
    by_code : (code ≡ DONE) ⊎ (code ≡ REFUSED) → ⊥
    by_code (inl is) = omega arith
    by_code (inr is) = omega arith
  late_tells Monitor kept code n position late wants = kept refl

  -- where all entries stood they all do
  abbrev pub StaysSo : Type 0
  StaysSo = log ≡ log_of v → AllStand v → AllStand w

  late : (code n position : ℕ) → SITE_FAULT ≤ code → (log ≡ log_of v → (AllStand v → AllStand w) ⊎ (code ≡ SITE_FAULT))
      → IsServed (answer_of (counting code 0 n) position)
  late code n position low ends same level backed =
      served_late begin v w log es turned segment task move spent passes (answer_of (counting code 0 n) position) same
      low (ends same)

  pub wanting_exactly : (draws task.kind ≡ false → move ≡ Kept) → StaysSo → (task.kind ≡ Protect → move ≡ Kept)
      → AnsweredExactly begin segment v w task (Some unserved_answer)
  wanting_exactly kept stays wants =
      told_exactly unserved_answer (late_tells task.kind kept NO_MEMORY 0 0 (omega arith) (λ is _. wants is))
      (late NO_MEMORY 0 0 (omega arith) (λ same. inl (stays same)))

  pub refused_exactly : (draws task.kind ≡ false → move ≡ Kept) → (fault : BookFault) (position : ℕ)
      → (((count : ℕ) → fault ≢ refusals.SiteFault count) → StaysSo)
      → (fault ≡ refusals.SessionFull → (length es ≤ 1) × IsClean v × AllStand w)
      → (task.kind ≡ Protect → fault ≡ refusals.NoMemory → move ≡ Kept)
      → AnsweredExactly begin segment v w task (fault_answer fault position)
  refused_exactly kept (refusals.SiteFault count) position stays few wants =
      told_exactly (answer_of (counting SITE_FAULT 0 count) position)
      (late_tells task.kind kept SITE_FAULT count position (omega arith) (λ _ is. absurd (omega arith)))
      (late SITE_FAULT count position (omega arith) (λ same. inr refl))
  refused_exactly kept (refusals.Stopped count) position stays few wants =
      told_exactly (answer_of (counting STOPPED 0 count) position)
      (late_tells task.kind kept STOPPED count position (omega arith) (λ _ is. absurd (omega arith)))
      (late STOPPED count position (omega arith) (λ same. inl (stays (λ other is. absurd (let no = is in cc)) same)))
  refused_exactly kept refusals.SessionFull position stays few wants =
      untold_exactly (few refl).0 (few refl).1 (few refl).2
  refused_exactly kept refusals.NoMemory position stays few wants =
      wanting_exactly kept (stays (λ other is. absurd (let no = is in cc))) (λ is. wants is refl)
