-- A message moves the word that it needs, and its answer tells how.
use Rattle.std.proofs.Common.{◌≡◌, ◌≢◌, ◌⊎◌, ℕ, ◌+◌, ◌-◌, ◌<◌, ◌≤◌, Bool, false, List, [], ◌∷◌, ◌++◌, length, Some}
use Rattle.std.proofs.Common.{Result, Ok, Err, refl, sym, ◌∙◌, ap, subst, arith, inl, inr, append-nil, length-append}
use Rattle.std.proofs.Common.{true}
use Rattle.std.specs.Bool.{⊤}
use Rattle.std.proofs.lemmas.List.{append_cancel_left}
use Rattle.sdls_base.specs.KeyId.{end_of}
use Rattle.sdls_base.specs.declared.entry.Change.{Change}
use Rattle.sdls_base.specs.declared.entry.Entry.{Entry}
use Rattle.sdls_base.specs.declared.entry.Logged.{Logged}
use Rattle.sdls_base.specs.declared.entry.Logged.TheVariants as lines
use Rattle.sdls_base.specs.declared.entry.Seen.{Seen}
use Rattle.sdls_base.specs.declared.entry.Seen.TheVariants as sights
use Rattle.sdls_outside.specs.Faults.{Rose}
use Rattle.key_book.specs.KeyBook.{place_of}
use Rattle.ep_core.specs.declared.judging.Need.{Need}
use Rattle.ep_core.specs.declared.judging.Need.TheVariants as needs
use Rattle.ep_core.specs.declared.refusal.Reply.{Reply}
use Rattle.record_io.specs.declared.answers.Answer.{Answer}
use Rattle.record_io.specs.declared.reader.RecordKind.{RecordKind}
use Rattle.record_io.specs.declared.reader.RecordKind.TheVariants.{Command, Protect}
use Rattle.record_io.specs.declared.item_cursor.Record.{Record}
use Rattle.unit_plan.specs.PlanLines.{PlanLines}
use Rattle.unit_state.specs.declared.state.State.{State}
use Rattle.unit_state.specs.History.{after_all, after_first}
use Rattle.counter_table.specs.declared.view.Turn.{Turn}
use Rattle.counter_table.specs.declared.view.View.{View}
use Rattle.counter_table.specs.Known.{Earlier}
use Rattle.counter_table.specs.declared.view.Numbers.{Numbers}
use Rattle.counter_table.specs.Numbers.{top, arming}
use Rattle.counter_table.specs.Turn.{places}
use Rattle.run_promise.specs.History.{draws, record_entry, IsNeedOf, IsStepOf}
use Rattle.run_promise.specs.Answers.{replied_told}
use Rattle.run_promise.specs.Log.{entries_of}
use Rattle.run_promise.specs.Numbers.{mark_of, reserve_of}
use Rattle.unit_book.specs.declared.fault.BookFault.{BookFault}
use Rattle.unit_book.specs.declared.fault.BookFault.TheVariants as refusals
use Rattle.unit_book.specs.Book.{BookView, IsBarred, IsUnstored}
use Rattle.unit_book.specs.Records.{Handles, RefusesMessage}
use Rattle.unit_book.proofs.EpochStates.{alike_served}
use Rattle.shared_unit.specs.Calls.{WithPosition}
use Rattle.shared_unit.specs.Commanding.{FailsFor, Satisfies, IsCommanded}
use Rattle.shared_unit.specs.Funding.{Reserves}
use Rattle.shared_unit.specs.Numbers.{Draws}
use Rattle.shared_unit.specs.Told.{known_of_book}
use Rattle.shared_unit.specs.Turn.{FindsCovered, Visits}
use Rattle.shared_unit.proofs.Steps.{earlier_again}
use Rattle.run_promise.specs.Call.{Begin}
use Rattle.law_workers.specs.Views.{entries_in, log_of}
use Rattle.law_workers.specs.Deeds.{course_in}
use Rattle.run_promise.specs.Deed.{deed_of}
use Rattle.law_workers.specs.Order.{Layout}
use Rattle.run_promise.specs.Words.{Move, Kept, Found, Drew, Raised, Overdrew, TellsSeen, TellsCommand, TellsKind}
use Rattle.run_promise.specs.Words.{Tells}
use Rattle.run_promise.specs.OneLane as machine
use Rattle.law_workers.specs.InTurn.{IsClean, AllStand}
use Rattle.law_workers.specs.Exact.{IsOfMoves}
use Rattle.law_workers.specs.Began.{BeganWith}
use Rattle.law_calls.specs.Answering.{answer_of, fault_answer, commanded_answer, AnsweredExactly}
use Rattle.law_calls.proofs.Behind.{lines_of, lines_more, lines_entries}
use Rattle.law_calls.proofs.Counting.{Shows, found_shows, draws_shows, uses_shows}
use Rattle.law_calls.proofs.Exactness.{AreDrawn, of_record, refused_exactly, told_exactly}
use Rattle.law_calls.proofs.Fitted.{before_is, there}
use Rattle.law_calls.proofs.Moving.{Moves, moves_none, moves_found, moves_drew, moves_over, moves_raised}
use Rattle.law_calls.proofs.OneRecord.{Turned}
use Rattle.law_calls.proofs.InTurn.{CoversSpent, Passes, Stands, clean_found, covers, found_all, given_as}
use Rattle.law_calls.proofs.InTurn.{given_entered, given_stands, plain_uncounted, same_stands, served_clean}
use Rattle.law_calls.proofs.InTurn.{stands_entered, stands_found, takes_pass}
use Rattle.law_calls.proofs.Visit.{log_is, plan_is, row_below, row_known, turned}
use Rattle.law_calls.proofs.Stages.{Call}
use Rattle.law_calls.proofs.Commandings.{call_of, one_drawer, Satisfied, satisfied}

are_drawn_both : (moves : List Move) (es more : List Entry) → AreDrawn moves es → AreDrawn moves more
    → AreDrawn moves (es ++ more)
are_drawn_both moves [] more a b = b
are_drawn_both moves (e ∷ es) more a b = (a.0, are_drawn_both moves es more a.1 b)

-- what was added to a log that is as it was, and to one with a line more
none_added : (log : List Logged) (es : List Entry) → log ≡ log ++ lines_of es → es ≡ []
none_added log [] is = refl
none_added log (e ∷ es) is =
    let size : length log ≡ length log + length (lines_of (e ∷ es)) =
    ap length is ∙ length-append log (lines_of (e ∷ es)) in absurd (omega arith)

one_line : (es : List Entry) (e : Entry) → lines_of es ≡ lines.Entry e ∷ [] → es ≡ e ∷ []
one_line [] e is = absurd (let n : 0 ≡ 1 = ap length is in omega arith)
one_line (x ∷ []) e is = let same : x ≡ e = cc in ap (λ (z : Entry). z ∷ []) same
one_line (x ∷ y ∷ es) e is = absurd (let n : length (lines_of (x ∷ y ∷ es)) ≡ 1 = ap length is in omega arith)

-- the reserve of a number that the move drew
pub reserve_drawn : (row n : ℕ) (e : Entry) → e.seen ≡ sights.Number n
    → IsOfMoves (Drew row n ∷ []) (Some (lines.Entry e))
reserve_drawn row n e seen entry same none =
    let e_is : e ≡ entry = (let s = same in cc) in
    (row, n, ap (λ (z : Entry). z.seen) (sym e_is) ∙ seen, (0, omega arith, refl))

module _ (told : Bool) (c : Call told) (commands : c.task.kind ≡ Command)
    (covers_spent : CoversSpent c.begin c.old_view c.new_view) where
  -- the site had not failed when the book was found
  abbrev FoundClean : Type 0
  FoundClean = ¬ Rose c.found.opened.faults c.found.site.faults

  was_clean : FoundClean → IsClean c.old_view
  was_clean clean = clean_found told c.begin c.found c.given c.taken c.old_view c.new_view c.began c.free c.visits
      c.known clean

  -- all entries stand, where a book was given back in which they did
  all_given : (old : BookView) → c.given ≡ old → old.standing ≡ length (entries_of old.log) → AllStand c.new_view
  all_given old same all = given_as told c.begin c.found c.given c.taken c.old_view c.new_view c.began c.free c.visits
      old same all

  -- what the words showed for a need, as a move
  record Saw (need : Need) (seen : Seen) (middle : BookView) : Type 0 where
    pub move : Move
    pub moves : Moves c.begin c.old_view c.new_view move
    pub tells : (state : State)
        → ((need : Need) → IsNeedOf c.found.state c.task.octets need → IsNeedOf state c.task.octets need)
        → TellsSeen c.begin.start (entries_in c.new_view) state c.task seen move
    pub number : (n : ℕ) → seen ≡ sights.Number n → (row : ℕ) × (move ≡ Drew row n)
    -- where the site had not failed, what is known of the book behind it, and what the machine says of it
    pub stands : FoundClean → Stands c.begin middle
    pub stays : length (entries_of c.found.log) ≤ c.found.standing → length (entries_of middle.log) ≤ middle.standing
    pub shown : FoundClean → (es : List Entry) → middle.log ≡ c.found.log ++ lines_of es
        → machine.AloneShows c.begin (entries_of c.found.log) need seen es move

  -- and where it was given back as it was found, if all stood before
  stays_found : c.given ≡ c.found → c.found.log ≡ log_of c.old_view → AllStand c.old_view → AllStand c.new_view
  stays_found same here all = same_stands told c.begin c.found c.given c.taken c.old_view c.new_view c.began c.free
      c.visits same c.known here all

  stands_first : FoundClean → Stands c.begin c.found
  stands_first clean = stands_found told c.begin c.found c.given c.taken c.old_view c.new_view c.began c.free c.visits
      clean

  stands_same : (middle : BookView) → middle ≡ c.found → FoundClean → Stands c.begin middle
  stands_same middle same clean = subst (Stands c.begin) (sym same) (stands_first clean)

  none_more : (middle : BookView) → middle ≡ c.found → (es : List Entry) → middle.log ≡ c.found.log ++ lines_of es
      → es ≡ []
  none_more middle same es is = none_added c.found.log es (ap (λ (b : BookView). b.log) (sym same) ∙ is)

  -- in the state after the history that was found
  place_now : (key row : ℕ) → place_of c.found.state.keys key ≡ Some row → FoundClean
      → place_of (machine.now c.begin (entries_of c.found.log)).keys key ≡ Some row
  place_now key row place clean = ap (λ (s : State). place_of s.keys key) (sym (stands_first clean)) ∙ place

  need_now : (need : Need) → IsNeedOf c.found.state c.task.octets need → FoundClean
      → IsNeedOf (machine.now c.begin (entries_of c.found.log)) c.task.octets need
  need_now need needed clean = subst (λ (s : State). IsNeedOf s c.task.octets need) (stands_first clean) needed

  mark_now : (key : ℕ) → FoundClean → mark_of c.found.state key ≡ mark_of (machine.now c.begin (entries_of c.found.log))
      key
  mark_now key clean = ap (λ (s : State). mark_of s key) (stands_first clean)

  reserve_now : (key n : ℕ) → FoundClean
      → reserve_of c.found.plan c.found.state key n ≡ reserve_of c.begin.plan
      (machine.now c.begin (entries_of c.found.log)) key n
  reserve_now key n clean =
      ap (λ (p : PlanLines). reserve_of p c.found.state key n)
      (plan_is told c.begin c.found c.given c.taken c.new_view.turn c.began c.free c.visits)
      ∙ ap (λ (s : State). reserve_of c.begin.plan s key n) (stands_first clean)

  -- the number that was drawn is below its mark, or was reserved
  funds_now : (key n mark : ℕ) (middle : BookView) → Reserves key n (Ok mark) c.found middle → FoundClean
      → (es : List Entry)
      → middle.log ≡ c.found.log ++ lines_of es → machine.Funds c.begin (entries_of c.found.log) key n es
  funds_now key n mark middle (above, mark_is, inl (low, same)) clean es is =
      inl (none_more middle same es is, (let m = mark_now key clean in omega arith))
  funds_now key n mark middle (above, mark_is, inr (high, (position, made))) clean es is =
      let entry : Entry = reserve_of c.found.plan c.found.state key n in
      let added : middle.log ≡ c.found.log ++ lines.Entry entry ∷ [] = ap (λ (b : BookView). b.log) made.1.is in
      let lines_are : lines_of es ≡ lines.Entry entry ∷ [] =
      append_cancel_left c.found.log (lines_of es) (lines.Entry entry ∷ []) (sym is ∙ added) in
      inr (
        one_line es entry lines_are ∙ ap (λ (e : Entry). e ∷ []) (reserve_now key n clean),
        (let m = mark_now key clean in omega arith),
      )

  stands_reserved : (key n mark : ℕ) (middle : BookView) → Reserves key n (Ok mark) c.found middle → FoundClean
      → Stands c.begin middle
  stands_reserved key n mark middle (above, mark_is, inl (low, same)) clean = stands_same middle same clean
  stands_reserved key n mark middle (above, mark_is, inr (high, (position, made))) clean =
      stands_entered c.begin c.found (stands_first clean) middle (reserve_of c.found.plan c.found.state key n) position
      made.1

  stays_same : (middle : BookView) → middle ≡ c.found → length (entries_of c.found.log) ≤ c.found.standing
      → length (entries_of middle.log) ≤ middle.standing
  stays_same middle same = subst (λ (b : BookView). length (entries_of b.log) ≤ b.standing) (sym same)

  stays_reserved : (key n mark : ℕ) (middle : BookView) → Reserves key n (Ok mark) c.found middle
      → length (entries_of c.found.log) ≤ c.found.standing
      → length (entries_of middle.log) ≤ middle.standing
  stays_reserved key n mark middle (above, mark_is, inl (low, same)) all = stays_same middle same all
  stays_reserved key n mark middle (above, mark_is, inr (high, (position, made))) all =
      let entry : Entry = reserve_of c.found.plan c.found.state key n in
      let a : middle.standing ≡ c.found.standing + 1 = ap (λ (b : BookView). b.standing) made.1.is in
      let b : length (entries_of middle.log) ≡ length (entries_of c.found.log) + 1 =
      ap length (ap (λ (x : BookView). entries_of x.log) made.1.is ∙ lines_entries c.found.log (entry ∷ []))
      ∙ length-append (entries_of c.found.log) (entry ∷ []) in omega arith

  has_row : (key row : ℕ) → place_of c.found.state.keys key ≡ Some row
      → place_of (after_all c.begin.start (entries_in c.new_view)).keys key ≡ Some row
  has_row key row place = row_known told c.begin c.found c.given c.taken c.new_view.turn c.began c.free c.visits key row
      place

  low_row : (key row : ℕ) → place_of c.found.state.keys key ≡ Some row → row < c.begin.rows
  low_row key row place = row_below told c.begin c.found c.given c.taken c.new_view.turn c.began c.free c.visits key row
      place

  saw : (need : Need) (seen : Seen) (middle : BookView) → IsNeedOf c.found.state c.task.octets need
      → Satisfies need seen c.found middle c.old_view.numbers c.new_view.numbers → Saw need seen middle
  saw needs.Nothing sights.Nothing middle need (same, still_there) = record {
    move = Kept;
    moves = moves_none c.begin c.old_view c.new_view still_there;
    tells = λ state on. refl;
    number = λ n sees. absurd (let no = sees in cc);
    stands = stands_same middle same;
    stays = stays_same middle same;
    shown = λ clean es is. (none_more middle same es is, refl);
  }
  saw (needs.Look key) (sights.Word n) middle need (same, r) = record {
    move = Raised r.row n 1;
    moves = moves_raised c.begin c.old_view c.new_view c.task r.row (low_row key r.row r.place) n 1 r.later r.is;
    tells = λ state on. inl (key, r.row, on (needs.Look key) need, has_row key r.row r.place, refl);
    number = λ n sees. absurd (let no = sees in cc);
    stands = stands_same middle same;
    stays = stays_same middle same;
    shown = λ clean es is. (none_more middle same es is, (r.row, place_now key r.row r.place clean, refl));
  }
  saw (needs.Raise key number) (sights.Word n) middle need (same, r) = record {
    move = Raised r.row n number;
    moves = moves_raised c.begin c.old_view c.new_view c.task r.row (low_row key r.row r.place) n number r.later r.is;
    tells = λ state on. inr (key, r.row, number, on (needs.Raise key number) need, has_row key r.row r.place, refl);
    number = λ n sees. absurd (let no = sees in cc);
    stands = stands_same middle same;
    stays = stays_same middle same;
    shown = λ clean es is. (none_more middle same es is, (r.row, place_now key r.row r.place clean, refl));
  }
  saw (needs.Number key) (sights.Number n) middle need d =
      let shows = uses_shows c.begin c.task c.old_view c.new_view (one_drawer c.task commands) d.row n 0 d.uses in
      record {
        move = Drew d.row n;
        moves = moves_drew c.begin c.old_view c.new_view c.task d.row (low_row key d.row d.place) n ((d.row, n) ∷ [])
            shows;
        tells = λ state on. (key, d.row, on (needs.Number key) need, has_row key d.row d.place, refl);
        number = λ m sees. (d.row, ap (λ (x : ℕ). Drew d.row x) (same_number n m sees));
        stands = stands_reserved key n d.mark middle d.reserved;
        stays = stays_reserved key n d.mark middle d.reserved;
        shown = λ clean es is. (
          d.below,
          funds_now key n d.mark middle d.reserved clean es is,
          (d.row, place_now key d.row d.place clean, refl),
        );
      } where
        same_number : (one other : ℕ) → sights.Number one ≡ sights.Number other → one ≡ other
        same_number one other is = cc
  saw (needs.Number key) (sights.Exhausted n) middle need (same, f) = by_end f.out.1 where
    by_end : ((top f.row c.old_view.numbers.nexts ≤ n)
        × (c.new_view.numbers ≡ arming f.row (end_of key) n c.old_view.numbers))
        ⊎ Draws f.row (end_of key) n c.old_view.numbers c.new_view.numbers
        → Saw (needs.Number key) (sights.Exhausted n) middle
    by_end (inl (least, is)) = record {
      move = Found f.row n;
      moves = moves_found c.begin c.old_view c.new_view c.task f.row (low_row key f.row f.place) n
          (found_shows c.begin c.task c.old_view c.new_view f.row (end_of key) n least is);
      tells = λ state on. inl (key, f.row, on (needs.Number key) need, has_row key f.row f.place, refl);
      number = λ m sees. absurd (let no = sees in cc);
      stands = stands_same middle same;
      stays = stays_same middle same;
      shown = λ clean es is.
          (f.out.0, none_more middle same es is, (f.row, place_now key f.row f.place clean, inl refl));
    }
    by_end (inr d) = record {
      move = Overdrew f.row n;
      moves = moves_over c.begin c.old_view c.new_view c.task f.row (low_row key f.row f.place) (end_of key) n f.out.0 d
          (draws_shows c.begin c.task c.old_view c.new_view (one_drawer c.task commands) f.row (end_of key) n d);
      tells = λ state on. inr (key, f.row, on (needs.Number key) need, has_row key f.row f.place, refl);
      number = λ m sees. absurd (let no = sees in cc);
      stands = stands_same middle same;
      stays = stays_same middle same;
      shown = λ clean es is.
          (f.out.0, none_more middle same es is, (f.row, place_now key f.row f.place clean, inr refl));
    }
  saw need seen middle needed s = absurd s

  not_kept : (move : Move) → draws c.task.kind ≡ false → move ≡ Kept
  not_kept move is = absurd (let both : true ≡ false = ap draws (sym commands) ∙ is in let b = both in cc)

  not_protect : c.task.kind ≡ Protect → ⊥
  not_protect is = let both : Command ≡ Protect = sym commands ∙ is in cc

  by_lines : (es : List Entry) → c.given.log ≡ c.found.log ++ lines_of es
      → Turned c.found.log es c.old_view.turn c.new_view.turn
  by_lines es is =
      c.pass c.found.log es (turned told c.begin c.found c.given c.taken c.new_view.turn c.began c.free c.visits es is)

  passes : (es : List Entry) (is : c.given.log ≡ c.found.log ++ lines_of es) (spent : List (ℕ × ℕ))
      → c.new_view.numbers.spent ≡ c.old_view.numbers.spent ++ spent
      → Passes c.begin c.old_view c.new_view c.found.log es (by_lines es is) spent
  passes es is spent spent_is = takes_pass told c.begin c.found c.given c.taken c.old_view c.new_view c.began c.free
      c.visits es (by_lines es is)
      spent spent_is (covers_spent (places (length c.found.log) (length es)) (by_lines es is).made)

  by_kind : (answer : Answer) (es : List Entry) (move : Move)
      → machine.AloneHandled c.begin (entries_of c.found.log) c.task answer es move
      → machine.AloneServes c.begin (entries_of c.found.log) c.task answer es move
  by_kind answer es move h =
      inr (subst (λ (k : RecordKind). machine.ServesKind c.begin (entries_of c.found.log) k c.task answer es move)
      (sym commands) h)

  by_command : (deed_told : Answer) (move : Move)
      → TellsCommand c.begin.start (entries_in c.new_view) (deed_of c.segment c.task deed_told) move
      → Tells c.begin.start (entries_in c.new_view) (deed_of c.segment c.task deed_told) move
  by_command deed_told move t =
      subst (λ (k : RecordKind). TellsKind c.begin.start (entries_in c.new_view) k (deed_of c.segment c.task deed_told)
      move) (sym commands) t

  module _ (need : Need) (seen : Seen) (middle : BookView) (needed : IsNeedOf c.found.state c.task.octets need)
      (shows : Satisfies need seen c.found middle c.old_view.numbers c.new_view.numbers) where
    abbrev s : Satisfied told c commands need seen middle
    s = satisfied told c commands need seen middle needed shows

    abbrev m : Saw need seen middle
    m = saw need seen middle needed shows

    entries_middle : entries_of middle.log ≡ entries_of c.found.log ++ s.es
    entries_middle = ap entries_of s.stage.log ∙ lines_entries c.found.log s.es

    drawn : AreDrawn ((saw need seen middle needed shows).move ∷ [])
        (satisfied told c commands need seen middle needed shows).es
    drawn = by_es s.es_are where
      by_es : (s.es ≡ [])
          ⊎ ((key : ℕ) × (n : ℕ) × (seen ≡ sights.Number n) × (s.es ≡ reserve_of c.found.plan c.found.state key n ∷ []))
          → AreDrawn (m.move ∷ []) s.es
      by_es (inl is) = subst (AreDrawn (m.move ∷ [])) (sym is) tt
      by_es (inr (key, n, sees, is)) =
          let (row, move_is) = m.number n sees in
          subst (AreDrawn (m.move ∷ [])) (sym is)
          (subst (λ (x : Move). AreDrawn (x ∷ []) (reserve_of c.found.plan c.found.state key n ∷ [])) (sym move_is)
          (reserve_drawn row n (reserve_of c.found.plan c.found.state key n) refl, tt))

    on : (other : Need) → IsNeedOf c.found.state c.task.octets other → IsNeedOf middle.state c.task.octets other
    on other there = ((alike_served c.found.plan middle.state c.found.state s.still_is).needs c.task.octets other).1
        there

    -- in the state after some of the entries that is the stage's
    tells_at : (p : ℕ) → after_first c.begin.start (entries_in c.new_view) p ≡ middle.state
        → TellsSeen c.begin.start (entries_in c.new_view) (after_first c.begin.start (entries_in c.new_view) p) c.task
        seen m.move
    tells_at p same = m.tells (after_first c.begin.start (entries_in c.new_view) p)
        (λ other there. subst (λ (st : State). IsNeedOf st c.task.octets other) (sym same) (on other there))

    -- the machine's step, with this change and reply
    is_shown : FoundClean → (change : Change) (reply : Reply) → IsStepOf middle.state c.task.octets seen (change, reply)
        → machine.AloneShown c.begin (entries_of c.found.log) c.task s.es m.move
    is_shown clean change reply step = record {
      need = need;
      needed = need_now need needed clean;
      seen = seen;
      shows = m.shown clean s.es s.stage.log;
      change = change;
      reply = reply;
      step = subst (λ (st : State). IsStepOf st c.task.octets seen (change, reply))
          (m.stands clean ∙ ap (after_all c.begin.start) entries_middle) step;
    }

    own : Change → Entry
    own change = record_entry c.task.index seen change

    with_own : (change : Change) → c.given.log ≡ middle.log ++ lines.Entry (record_entry c.task.index seen change) ∷ []
        → c.given.log ≡ c.found.log ++ lines_of (s.es ++ record_entry c.task.index seen change ∷ [])
    with_own change is = is ∙ ap (λ (l : List Logged). l ++ lines_of (record_entry c.task.index seen change ∷ []))
        s.stage.log
        ∙ sym (lines_more c.found.log s.es (record_entry c.task.index seen change ∷ []))

    own_drawn : (change : Change) → AreDrawn (m.move ∷ []) (s.es ++ record_entry c.task.index seen change ∷ [])
    own_drawn change = are_drawn_both (m.move ∷ []) s.es (record_entry c.task.index seen change ∷ []) drawn
        (of_record (m.move ∷ []) (record_entry c.task.index seen change) c.task.index refl, tt)

    handled : (reply : Reply) (position : ℕ) → Handles c.task.index c.task.octets seen middle c.given reply position
        → AnsweredExactly c.begin c.segment c.old_view c.new_view c.task
        (Some (answer_of (replied_told reply) position))
    unfolding is_shown
    handled reply position h =
        let e : Entry = record_entry c.task.index seen h.change in
        let added : c.given.log ≡ middle.log ++ lines.Entry e ∷ [] = ap (λ (b : BookView). b.log) h.made.1.is in
        let known : entries_in c.new_view ≡ entries_of middle.log ++ e ∷ [] =
        ap entries_of (log_is told c.begin c.found c.given c.taken c.new_view.turn c.began c.free c.visits ∙ added)
        ∙ lines_entries middle.log (e ∷ []) in
        let given_is : entries_of c.given.log ≡ entries_of middle.log ++ e ∷ [] =
        ap entries_of added ∙ lines_entries middle.log (e ∷ []) in
        let at : position ≡ length (entries_of middle.log) + 1 =
        h.made.1.position_is ∙ ap length given_is ∙ length-append (entries_of middle.log) (e ∷ []) in
        let state : middle.state ≡ after_all c.begin.start (entries_of middle.log) = s.stage.state h.made.0.0 in
        told_exactly c.begin c.segment c.task c.old_view c.new_view m.move m.moves c.found.log
        (s.es ++ record_entry c.task.index seen h.change ∷ [])
        (by_lines (s.es ++ record_entry c.task.index seen h.change ∷ []) (with_own h.change added)) (own_drawn h.change)
        s.numbers.spent (passes (s.es ++ record_entry c.task.index seen h.change ∷ []) (with_own h.change added)
        s.numbers.spent s.numbers.counted.spent_is)
        (answer_of (replied_told reply) position) (by_command (answer_of (replied_told reply) position) m.move (record {
          entry = λ _. (
            record_entry c.task.index seen h.change,
            there (near_any) (course_in c.begin c.new_view) c.task (entries_of middle.log) middle.state
                (record_entry c.task.index seen h.change) position known state at,
            tells_at (position - 1) (before_is (near_any) (course_in c.begin c.new_view) c.task (entries_of middle.log)
                middle.state
                (record_entry c.task.index seen h.change) position known state at),
          );
        }))
        (λ here level backed.
        let clean : FoundClean = s.stage.clean h.made.0.0 in
        served_clean c.begin c.old_view c.new_view c.found.log (s.es ++ record_entry c.task.index seen h.change ∷ [])
        (by_lines (s.es ++ record_entry c.task.index seen h.change ∷ []) (with_own h.change added)) c.segment c.task
        m.move
        s.numbers.spent (passes (s.es ++ record_entry c.task.index seen h.change ∷ []) (with_own h.change added)
        s.numbers.spent s.numbers.counted.spent_is)
        (answer_of (replied_told reply) position) here (level.all (was_clean clean))
        (given_entered told c.begin c.found c.given c.taken c.old_view c.new_view c.began c.free c.visits middle
        (record_entry c.task.index seen h.change) position h.made.1 (s.stage.all_stand h.made.0.0))
        (plain_uncounted c.task.kind Command _ commands refl)
        (by_kind (answer_of (replied_told reply) position) (s.es ++ record_entry c.task.index seen h.change ∷ []) m.move
        (record {
          reserve = s.es;
          is = is_shown clean h.change reply h.step;
          told = refl;
          position_is =
              let size = ap length entries_middle ∙ length-append (entries_of c.found.log) s.es in
              let more = length-append s.es (record_entry c.task.index seen h.change ∷ []) in omega arith;
          own_is = refl;
        }))) where
          near_any : ℕ → ℕ → Type 0
          near_any key n = ⊤

    -- all entries stand, where the book of the step was given back and all stood before
    stays_middle : c.given ≡ middle → c.found.log ≡ log_of c.old_view → AllStand c.old_view → AllStand c.new_view
    stays_middle same here all =
        let a : c.given.standing ≡ middle.standing = ap (λ (b : BookView). b.standing) same in
        let b : length (entries_of c.given.log) ≡ length (entries_of middle.log) =
        ap (λ (x : BookView). length (entries_of x.log)) same in
        let low =
        m.stays (found_all told c.begin c.found c.given c.taken c.old_view c.new_view c.began c.free c.visits
        c.known here all) in
        given_stands told c.begin c.found c.given c.taken c.old_view c.new_view c.began c.free c.visits (omega arith)

    left : c.given ≡ middle → c.given.log ≡ c.found.log ++ lines_of s.es
    left same = ap (λ (b : BookView). b.log) same ∙ s.stage.log

    few_es : length s.es ≤ 1
    few_es = by_es s.es_are where
      by_es : (s.es ≡ [])
          ⊎ ((key : ℕ) × (n : ℕ) × (seen ≡ sights.Number n) × (s.es ≡ reserve_of c.found.plan c.found.state key n ∷ []))
          → length s.es ≤ 1
      by_es (inl is) = let size = ap length is in omega arith
      by_es (inr (key, n, sees, is)) = let size = ap length is in omega arith

    refused : (es : List Entry) → c.given.log ≡ c.found.log ++ lines_of es → AreDrawn (m.move ∷ []) es
        → (fault : BookFault) (position : ℕ)
        → (((count : ℕ) → fault ≢ refusals.SiteFault count) → c.found.log ≡ log_of c.old_view → AllStand c.old_view
        → AllStand c.new_view)
        → (fault ≡ refusals.SessionFull → (length es ≤ 1) × IsClean c.old_view × AllStand c.new_view)
        → AnsweredExactly c.begin c.segment c.old_view c.new_view c.task (fault_answer fault position)
    refused es is are fault position stays few =
        refused_exactly c.begin c.segment c.task c.old_view c.new_view m.move m.moves c.found.log es (by_lines es is)
        are
        s.numbers.spent (passes es is s.numbers.spent s.numbers.counted.spent_is) (not_kept m.move) fault position stays
        few
        (λ protects. absurd (not_protect protects))

    unstored : (change : Change) (fault : BookFault) (position : ℕ)
        → IsUnstored (record_entry c.task.index seen change) middle c.given fault
        → AnsweredExactly c.begin c.segment c.old_view c.new_view c.task (fault_answer fault position)
    unstored change (refusals.SiteFault count) position h =
        refused (s.es ++ record_entry c.task.index seen change ∷ [])
        (with_own change (ap (λ (b : BookView). b.log) h.3)) (own_drawn change)
        (refusals.SiteFault count) position (λ other. absurd (other count refl)) (λ full. absurd (let no = full in cc))
    unstored change (refusals.Stopped count) position h = absurd h
    unstored change refusals.SessionFull position h = absurd h
    unstored change refusals.NoMemory position h = absurd h

    refuses : (fault : BookFault) (position : ℕ) → RefusesMessage c.task.index c.task.octets seen middle c.given fault
        → AnsweredExactly c.begin c.segment c.old_view c.new_view c.task (fault_answer fault position)
    refuses fault position (inl (is_barred, same)) =
        refused s.es (left same) drawn fault position (λ other here all. stays_middle same here all)
        (λ is.
        let full = subst (IsBarred middle) is is_barred in
        (few_es, was_clean (s.stage.clean full.0), all_given middle same (s.stage.all_stand full.0)))
    refuses fault position (inr (inl (none, same))) =
        refused s.es (left same) drawn fault position (λ other here all. stays_middle same here all)
        (λ full. absurd (let no = sym none ∙ full in cc))
    refuses fault position (inr (inr (can, ((change, reply), step, fails)))) = unstored change fault position fails

  -- the reserve was refused
  fails : (need : Need) (fault : BookFault) (position : ℕ)
      → FailsFor need fault c.found c.given c.old_view.numbers c.new_view.numbers
      → AnsweredExactly c.begin c.segment c.old_view c.new_view c.task (fault_answer fault position)
  fails need fault position f = by_refusal fault f.reserved where
    shows : Shows c.begin c.task c.old_view c.new_view f.row f.n ((f.row, f.n) ∷ []) [] [] ((f.row, 1) ∷ [])
    shows = draws_shows c.begin c.task c.old_view c.new_view (one_drawer c.task commands) f.row (end_of f.key) f.n
        f.draws

    moves : Moves c.begin c.old_view c.new_view (Drew f.row f.n)
    moves = moves_drew c.begin c.old_view c.new_view c.task f.row (low_row f.key f.row f.place) f.n [] shows

    ends : (es : List Entry) → c.given.log ≡ c.found.log ++ lines_of es → AreDrawn (Drew f.row f.n ∷ []) es
        → (other : BookFault)
        → (((count : ℕ) → other ≢ refusals.SiteFault count) → c.found.log ≡ log_of c.old_view → AllStand c.old_view
        → AllStand c.new_view)
        → (other ≡ refusals.SessionFull → (length es ≤ 1) × IsClean c.old_view × AllStand c.new_view)
        → AnsweredExactly c.begin c.segment c.old_view c.new_view c.task (fault_answer other position)
    ends es is are other stays few =
        refused_exactly c.begin c.segment c.task c.old_view c.new_view (Drew f.row f.n) moves c.found.log es
        (by_lines es is) are
        [] (passes es is [] shows.counted.spent_is) (not_kept (Drew f.row f.n)) other position stays few
        (λ protects. absurd (not_protect protects))

    none_left : c.given ≡ c.found → c.given.log ≡ c.found.log ++ lines_of []
    none_left same = ap (λ (b : BookView). b.log) same ∙ sym (append-nil c.found.log)

    by_refusal : (other : BookFault) → Reserves f.key f.n (Err other) c.found c.given
        → AnsweredExactly c.begin c.segment c.old_view c.new_view c.task (fault_answer other position)
    by_refusal other (unmarked, inl (is_barred, same)) =
        ends [] (none_left same) tt other (λ other here all. stays_found same here all)
        (λ is.
        let full = subst (IsBarred c.found) is is_barred in
        (omega arith, was_clean full.0, all_given c.found same (c.visits.found_kept.whole full.0)))
    by_refusal (refusals.SiteFault count) (unmarked, inr (can, h)) =
        ends (reserve_of c.found.plan c.found.state f.key f.n ∷ []) (ap (λ (b : BookView). b.log) h.3)
        (reserve_drawn f.row f.n (reserve_of c.found.plan c.found.state f.key f.n) refl, tt) (refusals.SiteFault count)
        (λ other. absurd (other count refl)) (λ same. absurd (let no = same in cc))
    by_refusal (refusals.Stopped count) (unmarked, inr (can, h)) = absurd h
    by_refusal refusals.SessionFull (unmarked, inr (can, h)) = absurd h
    by_refusal refusals.NoMemory (unmarked, inr (can, h)) = absurd h

  pub commands_exactly : (result : Result (Reply × ℕ) (BookFault × ℕ)) → WithPosition result (known_of_book c.given)
      (λ answer. IsCommanded c.task.index c.task.octets answer c.found c.given c.old_view.numbers c.new_view.numbers)
      → AnsweredExactly c.begin c.segment c.old_view c.new_view c.task (commanded_answer result)
  commands_exactly (Ok (reply, position)) (need, seen, middle, needed, shows, handles) =
      handled need seen middle needed shows reply position handles
  commands_exactly (Err (fault, position)) (inl (none, same, numbers), at) =
      refused_exactly c.begin c.segment c.task c.old_view c.new_view Kept
      (moves_none c.begin c.old_view c.new_view numbers) c.found.log []
      (by_lines [] (ap (λ (b : BookView). b.log) same ∙ sym (append-nil c.found.log))) tt []
      (passes [] (ap (λ (b : BookView). b.log) same ∙ sym (append-nil c.found.log)) []
      (ap (λ (k : Numbers). k.spent) numbers ∙ sym (append-nil c.old_view.numbers.spent))) (λ _. refl) fault position
      (λ other here all. stays_found same here all) (λ full. absurd (let no = sym none ∙ full in cc)) (λ _ _. refl)
  commands_exactly (Err (fault, position)) (inr (need, needed, inl f), at) = fails need fault position f
  commands_exactly (Err (fault, position)) (inr (need, needed, inr (seen, middle, shows, r)), at) =
      refuses need seen middle needed shows fault position r

pub commanding_exactly : (told : Bool) (begin : Begin) (layout : Layout) (segment : ℕ)
    (task : Record) (v w : View) (found given : BookView) → BeganWith told begin v.turn.known.opening
    → v.turn.holds ≡ false
    → task.kind ≡ Command → Visits told found given v.turn w.turn → FindsCovered told v w
    → (result : Result (Reply × ℕ) (BookFault × ℕ)) → WithPosition result (known_of_book given)
    (λ answer. IsCommanded task.index task.octets answer found given v.numbers w.numbers)
    → AnsweredExactly begin segment v w task (commanded_answer result)
commanding_exactly told begin layout segment task v w found given began free commands visits covered result handled =
    let earlier : Earlier v.turn.known w.turn.known =
    subst (λ (t : Turn). Earlier v.turn.known t.known) (sym visits.takes.turn)
    (earlier_again v.turn.known (known_of_book found) (known_of_book given) visits.takes.follows.earlier
    visits.takes.earlier visits.takes.opening) in
    commands_exactly told (call_of told begin layout segment task v w found given began free visits) commands
    (covers told begin v v w began free refl (omega arith) refl refl earlier covered) result handled
