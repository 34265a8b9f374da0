-- A Monitor record, for which a worker does nothing but look into the book: for `looking_reports`.
use Rattle.std.proofs.Common.{◌≡◌, ◌≢◌, ◌⊎◌, ℕ, zero, ◌+◌, ◌<◌, ◌≤◌, nat_le, ◌&&◌, Bool, true, false, IsTrue, List, []}
use Rattle.std.proofs.Common.{◌∷◌, length, Ok, Err, inl, inr, refl, sym, ap, ◌∙◌, subst, arith, append-nil, eq-eqb}
use Rattle.std.specs.Prelude.{if◌then◌else◌, Result}
use Rattle.std.specs.List.{All}
use Rattle.std.proofs.lemmas.Bool.Decides.{nat_tests}
use Rattle.std.proofs.lemmas.List.{append_cancel_left, length-take-le}
use Rattle.std.proofs.lemmas.List.Elements.{All-cons, All-nil}
use Rattle.record_io.specs.declared.answers.Answer.{Answer}
use Rattle.record_io.specs.declared.reader.RecordKind.{RecordKind}
use Rattle.record_io.specs.declared.reader.RecordKind.TheVariants.{Monitor}
use Rattle.record_io.specs.declared.item_cursor.Record.{Record}
use Rattle.counter_table.specs.declared.view.Numbers.{Numbers}
use Rattle.counter_table.specs.declared.view.View.{View}
use Rattle.counter_table.specs.Numbers.{amount, top}
use Rattle.run_promise.specs.Answers.{Told, monitored_told, told_by, IsUnmade, Uses}
use Rattle.law_workers.specs.Counts.{count_at, is_of_record}
use Rattle.run_promise.specs.History.{drawers}
use Rattle.run_promise.specs.Fits.{Fits, FitsKind}
use Rattle.run_promise.specs.Call.{Begin}
use Rattle.run_promise.specs.Deed.{Deed, deed_of, is_entered, tells_count, tells_entry, is_ordered}
use Rattle.run_promise.specs.Log.{entries_of}
use Rattle.run_promise.specs.Words.{Move, Kept, LiesBetween, Tells, TellsKind}
use Rattle.run_promise.specs.OneLane.{AloneServes, CountsAll, ServesKind, has_failed}
use Rattle.law_workers.specs.Views.{Gains, IsBetween, entries_in, log_of}
use Rattle.law_workers.specs.Work.{indexed}
use Rattle.law_workers.specs.Deeds.{Agree, Answers, IsSpent, IsWithoutEntry, MadeLast, StandsWithin, course_in}
use Rattle.law_workers.specs.Order.{Handled, Layout, Lined, TakeTurns}
use Rattle.law_workers.specs.Exact.{Exact, words_in}
use Rattle.law_workers.specs.InTurn.{AllStand, IsLevel, ServedBetween, stood_in}
use Rattle.law_workers.specs.Alone.{ServedAlone}
use Rattle.law_workers.specs.Words.{MovesCounted, TellsOne}
use Rattle.law_workers.specs.Reporting.{IsReportAt, Looked}
use Rattle.law_workers.proofs.Machines.{exact_move, move_moves}
use Rattle.law_workers.proofs.Turns.{all_on, all_stood, level_on, stood_on}

one_only : {X : Type 0} (P : X → Type 0) (x : X) → P x → All P (x ∷ [])
one_only P x h = All-cons P x [] h (All-nil P)

-- the codes of such an answer: 05, 06 and 33
record IsReportCode (code : ℕ) : Type 0 where
  some : 4 < code
  none_failed : code ≢ 0x31

said_code : (answer : Answer) (said : Result (List ℕ) ℕ) → told_by answer ≡ monitored_told said
    → IsReportCode answer.code
said_code answer (Ok reply) told = let c = ap (λ (t : Told). t.code) told in
    record { some = omega arith; none_failed = λ e. omega arith }
said_code answer (Err offset) told = let c = ap (λ (t : Told). t.code) told in
    record { some = omega arith; none_failed = λ e. omega arith }

code_is : (view : View) (answer : Answer) → IsReportAt view answer → IsReportCode answer.code
code_is view answer (inl (said, told, at)) = said_code answer said told
code_is view answer (inr wants) = let c = ap (λ (t : Told). t.code) wants.told in
    record { some = omega arith; none_failed = λ e. omega arith }

module _ (begin : Begin) (old new : View) (segment : ℕ) (task : Record) (answer : Answer) (kind : task.kind ≡ Monitor)
    (looked : Looked begin old new (task ∷ [])) (is : IsReportAt new answer) where
  abbrev deed : Deed
  deed = deed_of segment task answer

  abbrev gains : Gains
  gains = looked.worked.gains

  is_code : IsReportCode answer.code
  is_code = code_is new answer is

  none_made : gains.made ≡ []
  none_made = append_cancel_left old.turn.made gains.made []
      (sym looked.worked.gained.made ∙ looked.made ∙ sym (append-nil old.turn.made))

  fits : FitsKind (IsBetween begin old new) (course_in begin new) task answer Monitor
  fits = by_is is
    where
      by_is : IsReportAt new answer → FitsKind (IsBetween begin old new) (course_in begin new) task answer Monitor
      by_is (inl (said, told, at)) = inl (record { reached = omega arith; said = said; told = told })
      by_is (inr wants) = inr wants

  no_entry : IsTrue (tells_entry deed) → ⊥
  no_entry e = go task.kind kind e
    where
      go : (k : RecordKind) → k ≡ Monitor → IsTrue (is_entered k && (nat_le 1 answer.code && nat_le answer.code 0x17))
          → ⊥
      go k same e = let f : false ≡ true =
          subst (λ (k : RecordKind). IsTrue (is_entered k && (nat_le 1 answer.code && nat_le answer.code 0x17))) same
          e in cc

  unused : (key number : ℕ) → Uses answer key number → ⊥
  unused key number u = go u.0
    where
      go : (answer.code ≡ 0) ⊎ ((answer.code ≡ 3) × (answer.key ≢ 0)) → ⊥
      go (inl c) = let s = is_code.some in omega arith
      go (inr c) = let s = is_code.some in let d = c.0 in omega arith

  no_order : IsTrue (is_ordered begin deed) → ⊥
  no_order o = let f : false ≡ true = rw (sym (ordered_not kind)) o in cc
    where
      ordered_not : task.kind ≡ Monitor → is_ordered begin deed ≡ false
      ordered_not same = rw same refl

  counted : IsTrue (tells_count deed) → (length (entries_in old) ≤ answer.position)
      × (answer.position ≤ length (entries_in new))
  counted c = by_is is
    where
      count_is : task.kind ≡ Monitor → tells_count deed ≡ (true && nat_le answer.code 6)
      count_is same = rw same refl

      test : (b : Bool) → IsTrue (true && b) → b ≡ true
      test true e = refl
      test false e = (let f : false ≡ true = e in cc)

      by_is : IsReportAt new answer → (length (entries_in old) ≤ answer.position)
          × (answer.position ≤ length (entries_in new))
      by_is (inl (said, told, at)) = let size = ap length (ap entries_of looked.log) in (omega arith, omega arith)
      by_is (inr wants) =
          let low : nat_le answer.code 6 ≡ true = test (nat_le answer.code 6) (rw (sym (count_is kind)) c) in
          let less : answer.code ≤ 6 = grind (arith, nat_tests) in
          let code = ap (λ (t : Told). t.code) wants.told in absurd (omega arith)

  stands_within : StandsWithin begin old new deed
  stands_within = record {
    entry = λ e. absurd (no_entry e);
    stored = λ e. absurd (no_entry e);
    behind = λ e. absurd (no_entry e);
    counted = counted;
    epoch = λ o. absurd (no_order o);
    number = λ c k. absurd (let s = is_code.some in omega arith);
  }

  agrees : Agree begin (entries_in new) deed deed
  agrees = record {
    pairs = λ other key number a b. unused key number a;
    faults = λ other a b. is_code.none_failed a;
    order = λ less turn. absurd (omega arith);
  }

  answers : Answers begin old new gains (deed ∷ [])
  answers = record {
    fit = one_only (λ (d : Deed). Fits (IsBetween begin old new) (course_in begin new) d.task d.answer) deed
        (rw kind fits);
    stand = one_only (StandsWithin begin old new) deed stands_within;
    agree = one_only (λ (d : Deed). All (Agree begin (entries_in new) d) (deed ∷ [])) deed
        (one_only (Agree begin (entries_in new) deed) deed agrees);
    used = one_only (IsSpent begin new gains) deed (λ key number u. absurd (unused key number u));
    failed = one_only (λ (d : Deed). d.answer.code ≡ 0x31 → MadeLast new gains) deed
        (λ e. absurd (is_code.none_failed e));
  }

  without : IsWithoutEntry new gains (task ∷ []) task.index
  without =
      let one : indexed task.index (task ∷ []) ≡ 1 =
      ap (λ (b : Bool). (if b then 1 else 0) + 0) (eq-eqb task.index task.index refl) in
      let none : count_at (is_of_record task.index) (log_of new) gains.made ≡ 0 =
      ap (count_at (is_of_record task.index) (log_of new)) none_made in
      omega arith

  pub handles : (layout : Layout) → Handled layout begin old new (task ∷ []) (deed ∷ [])
  handles layout = record {
    does = record {
      gains = gains;
      gained = looked.worked.gained;
      grows = looked.worked.grows;
      sparing = looked.worked.sparing;
      works = looked.worked.works;
      answers = answers;
      unmade = one_only (λ (d : Deed). IsUnmade d.answer.code → IsWithoutEntry new gains (task ∷ []) d.task.index) deed
          (λ code. without);
    };
    lined = subst (λ (made : List ℕ). Lined (TakeTurns layout) (log_of new) made
        (length (task ∷ []) + drawers (task ∷ [])) 0) (sym none_made)
        (record { in_order = λ x y i j a. absurd (omega arith); few_entries = omega arith; few_pieces = omega arith });
  }

  told : Tells begin.start (entries_in new) deed Kept
  told = subst (λ (k : RecordKind). TellsKind begin.start (entries_in new) k deed Kept) (sym kind) refl

  added : (row : ℕ) → amount row new.numbers.added ≡ amount row old.numbers.added + 0
  added row = let same = ap (λ (n : Numbers). amount row n.added) looked.numbers in omega arith

  grown : (row : ℕ) → words_in old row + 0 ≤ words_in new row
  grown row = let same = ap (λ (n : Numbers). top row n.nexts) looked.numbers in omega arith

  exact : Exact begin old new [] (deed ∷ []) []
  exact = exact_move begin old new [] deed Kept told (λ place h. absurd (omega arith)) added grown (λ still. tt) tt

  same_entries : entries_in new ≡ entries_in old
  same_entries = ap entries_of looked.log

  stood : IsLevel old → stood_in new ≡ stood_in old
  stood level = stood_on old new looked.worked.grows.earlier looked.worked.grows.opening same_entries level

  failed_on : (failed : Bool) → IsTrue failed → IsTrue (has_failed failed answer)
  failed_on true t = refl
  failed_on false t = absurd (let f : false ≡ true = t in cc)

  serves : IsLevel old → AloneServes begin (stood_in old) task answer [] Kept
  serves level = by_is is
    where
      by_is : IsReportAt new answer → AloneServes begin (stood_in old) task answer [] Kept
      by_is (inl (said, told, at)) =
          inr (subst (λ (k : RecordKind). ServesKind begin (stood_in old) k task answer [] Kept) (sym kind)
          (refl, refl))
      by_is (inr wants) = let code = ap (λ (t : Told). t.code) wants.told in inl (omega arith)

  -- the count is that of the entries that stand, and of one more where not all do
  counts : IsLevel old → (failed : Bool) → (¬ AllStand old → IsTrue failed) → IsTrue (tells_count deed)
      → CountsAll failed (stood_in old) answer.position
  counts level failed tells c = by_all (nat_le (length (entries_in old)) old.turn.known.standing) refl
    where
      here : answer.position ≡ length (entries_in old)
      here = let (low, high) = counted c in let size = ap length same_entries in omega arith

      by_all : (b : Bool) → nat_le (length (entries_in old)) old.turn.known.standing ≡ b
          → CountsAll failed (stood_in old) answer.position
      by_all true test =
          let all : length (entries_in old) ≤ old.turn.known.standing = grind (arith, nat_tests) in
          inl (here ∙ sym (ap length (all_stood old all)))
      by_all false test =
          let short : old.turn.known.standing < length (entries_in old) = grind (arith, nat_tests) in
          let size = length-take-le old.turn.known.standing (entries_in old) (omega arith) in
          let few = level.few in
          inr (tells (λ all. omega arith), let is = here in omega arith)

  between : ServedBetween begin old new [] [] (deed ∷ []) (Kept ∷ []) []
  between = record {
    spent_is = ap (λ (n : Numbers). n.spent) looked.numbers ∙ sym (append-nil old.numbers.spent);
    level = λ level. level_on old new looked.worked.grows.earlier looked.worked.grows.opening same_entries
        looked.worked.grows.epochs level;
    served = λ all level backed. (
      [],
      [],
      stood level ∙ sym (append-nil (stood_in old)),
      λ failed tells. (
        ([], [], refl, serves level, counts level failed tells, refl),
        λ not. failed_on failed
            (tells (λ stands.
            not (all_on old new looked.worked.grows.earlier looked.worked.grows.opening same_entries stands))),
      ),
      (λ none. refl, inl refl),
    );
  }

  pub serves_alone : ServedAlone begin old new 1 (deed ∷ [])
  unfolding exact
  serves_alone = record {
    moved = record {
      made = [];
      made_is = looked.made ∙ sym (append-nil old.turn.made);
      last = [];
      few = omega arith;
      each = λ same. refl;
      exact = exact;
    };
    spent = [];
    between = subst (λ (moves : List Move). ServedBetween begin old new [] [] (deed ∷ []) moves [])
        (sym (move_moves begin old new [] deed Kept told (λ place h. absurd (omega arith)) added grown (λ still. tt)
        tt)) between;
  }

  pub moves_counted : MovesCounted begin old new (task ∷ []) (deed ∷ [])
  moves_counted = record {
    moved = record {
      moves = (task.index, Kept) ∷ [];
      few = λ index. omega arith;
      told = one_only (TellsOne begin.start (entries_in new) ((task.index, Kept) ∷ [])) deed
          (Kept, (zero, omega arith, refl), told);
      between = one_only (λ (own : ℕ × Move). LiesBetween begin.rows (words_in old) (words_in new) own.1)
          (task.index, Kept) tt;
      added = λ row. added row;
      made = [];
      made_is = looked.made ∙ sym (append-nil old.turn.made);
      within = λ place h. absurd (omega arith);
      reserves = λ place h. absurd (omega arith);
    };
    entries = λ place h. absurd (omega arith);
    reserves = λ place h. absurd (omega arith);
  }
