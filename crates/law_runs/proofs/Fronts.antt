-- Two runs of one lane over one image that handled the same records: as far as both have answers, these are the same.
use Rattle.std.proofs.Common.{◌≡◌, Bool, false, ℕ, zero, suc, ◌≤◌, IsTrue, List, [], ◌∷◌, ◌++◌, length, map, take, drop}
use Rattle.std.proofs.Common.{refl, sym, ◌∙◌, ap, subst, arith, append_assoc}
use Rattle.std.proofs.lemmas.List.{take_all, take-append-drop}
use Rattle.sdls_base.specs.declared.TheConstants.{MOST_KEYS}
use Rattle.sdls_base.specs.declared.entry.Entry.{Entry}
use Rattle.record_io.specs.declared.answers.Answer.{Answer}
use Rattle.record_io.specs.Places.{Place, records_of}
use Rattle.unit_plan.specs.PlanLines.{PlanLines}
use Rattle.unit_state.specs.declared.state.State.{State}
use Rattle.unit_state.specs.State.{KeepsRules}
use Rattle.unit_state.specs.History.{after_all, after_first}
use Rattle.run_promise.specs.Numbers.{mark_at}
use Rattle.run_promise.specs.History.{IsLegalHistory, NearWord}
use Rattle.run_promise.specs.Call.{Begin, CallSeen}
use Rattle.run_promise.specs.Deed.{Deed}
use Rattle.run_promise.specs.Words.{Move, Runs, word_after}
use Rattle.fsr_log.specs.Noted.{Noted}
use Rattle.run_promise.specs.Sound.{AreReported, noted_of}
use Rattle.law_workers.specs.Served.{AreServed, SameTasks}
use Rattle.run_promise.specs.OneLane.{ServesAll, has_failed, OneLane, IsExact}
use Rattle.run_promise.specs.declared.end.RunEnd.{RunEnd}
use Rattle.run_promise.specs.declared.end.RunEnd.TheVariants as ends
use Rattle.run_promise.specs.Account.{Account, AreAnswered, begin_of, course_of, deeds_from, deeds_in, due_octets}
use Rattle.run_promise.specs.Ends.{IsSoundCall, RunEnds, ServesSoundly}
use Rattle.law_runs.specs.Says.{AnswersAlike, FrontsAlike, IsUnfailed, NoneFails}
use Rattle.law_runs.proofs.Alike.{are_served, began_alike, entries_alike, front_is, rules_front}

-- ---- fronts

front_serves : (begin : Begin) (failed : Bool) (history : List Entry) (n : ℕ) (deeds : List Deed) (moves : List Move)
    (own : List Entry)
    → ServesAll begin failed history deeds moves own
    → (front : List Entry) × (rest : List Entry) × (own ≡ front ++ rest)
    × ServesAll begin failed history (take n deeds) (take n moves) front
front_serves begin failed history zero deeds moves own h = ([], own, refl, refl)
front_serves begin failed history (suc n) [] [] own h = ([], own, refl, refl)
front_serves begin failed history (suc n) [] (move ∷ moves) own h = absurd h
front_serves begin failed history (suc n) (deed ∷ deeds) [] own h = absurd h
front_serves begin failed history (suc n) (deed ∷ deeds) (move ∷ moves) own (first, others, is, one, counts, all) =
    let (front, rest, split, served) =
    front_serves begin (has_failed failed deed.answer) (history ++ first) n deeds moves others all in (
      first ++ front,
      rest,
      is ∙ ap (λ (l : List Entry). first ++ l) split ∙ sym (append_assoc first front rest),
      (first, front, refl, one, counts, served),
    )

front_runs : (rows : ℕ) (words : ℕ → ℕ) (n : ℕ) (moves beyond : List Move) → Runs rows words (moves ++ beyond)
    → Runs rows words (take n moves)
front_runs rows words zero moves beyond h = tt
front_runs rows words (suc n) [] beyond h = tt
front_runs rows words (suc n) (move ∷ moves) beyond h =
    (h.0, front_runs rows (word_after words move) n moves beyond h.1)

front_tasks : (n : ℕ) (places : List Place) (answers others : List Answer) → n ≤ length answers → n ≤ length others
    → SameTasks (take n (deeds_from places answers)) (take n (deeds_from places others))
front_tasks zero places answers others one two = tt
front_tasks (suc n) [] answers others one two = tt
front_tasks (suc n) (place ∷ places) [] others one two = absurd (omega arith)
front_tasks (suc n) (place ∷ places) (answer ∷ answers) [] one two = absurd (omega arith)
front_tasks (suc n) (place ∷ places) (answer ∷ answers) (other ∷ others) one two =
    (refl, front_tasks n places answers others (omega arith) (omega arith))

front_answers : (n : ℕ) (places : List Place) (answers : List Answer) → length answers ≤ length places
    → map (λ (d : Deed). d.answer) (take n (deeds_from places answers)) ≡ take n answers
front_answers zero places answers few = refl
front_answers (suc n) [] [] few = refl
front_answers (suc n) [] (answer ∷ answers) few = absurd (omega arith)
front_answers (suc n) (place ∷ places) [] few = refl
front_answers (suc n) (place ∷ places) (answer ∷ answers) few =
    ap (λ (l : List Answer). answer ∷ l) (front_answers n places answers (omega arith))

-- no more answers than records
few_answers : (account : Account) (came : RunEnd) → AreAnswered account came
    → length account.answers ≤ length account.handled
few_answers account ends.Ended h = let e = h.1 in omega arith
few_answers account (ends.Malformed offset) h = let e = h.1 in omega arith
few_answers account (ends.SourceFault count) h = let e = h.1 in omega arith
few_answers account ends.NoMemory h = let e = h.1 in omega arith
few_answers account ends.SessionFull h = let e = h.1 in omega arith
few_answers account ends.PutFailed h = let e = h.1 in omega arith
few_answers account (ends.SiteFault count) h = let e = ap length h.1 in omega arith
few_answers account (ends.NoState offset) h = let e = ap length h.1 in omega arith

-- the first answers are those of the log too
front_reported : (n : ℕ) (before : List Noted) (deeds : List Deed) → AreReported before deeds
    → AreReported before (take n deeds)
front_reported zero before deeds h = tt
front_reported (suc n) before [] h = tt
front_reported (suc n) before (deed ∷ deeds) h = (h.0, front_reported n (before ++ noted_of deed ∷ []) deeds h.1)

-- the entries begin with a front of those of the lane
front_begins : (entries : List Entry) (ends : ℕ) (own front more rest : List Entry) → take ends entries ≡ own ++ rest
    → own ≡ front ++ more
    → front ≡ take (length front) entries
front_begins entries ends own front more rest is split =
    sym (front_is entries front (more ++ (rest ++ drop ends entries))
    (sym (take-append-drop ends entries) ∙ ap (λ (l : List Entry). l ++ drop ends entries)
    (is ∙ ap (λ (l : List Entry). l ++ rest) split)
    ∙ append_assoc (front ++ more) rest (drop ends entries) ∙ append_assoc front more (rest ++ drop ends entries)))

-- ---- two calls

module _ (call other : CallSeen) (run : RunEnds call) (again : RunEnds other) (plan : PlanLines) (state : State)
    (told : IsTrue call.told) (tells : IsTrue other.told)
    (handled : again.account.handled ≡ run.account.handled)
    (one : OneLane (records_of run.account.handled))
    (once : (begin : Begin) (rows : ℕ) (words : ℕ → ℕ) (before : List Noted) (history : List Entry)
    (deeds others : List Deed) (moves more : List Move)
    (own entries : List Entry) → AreReported before deeds → AreReported before others
    → ((front rest : List Entry) → own ≡ front ++ rest → KeepsRules (after_all begin.start (history ++ front)))
    → SameTasks deeds others → AreServed deeds → AreServed others
    → ServesAll begin false history deeds moves own → ServesAll begin false history others more entries
    → Runs rows words moves → Runs rows words more
    → (map (λ (deed : Deed). deed.answer) deeds ≡ map (λ (deed : Deed). deed.answer) others) × (own ≡ entries)
    × (moves ≡ more))
    (along : (plan : PlanLines) (start : State) (places : List Place) (entries : List Entry)
    → IsLegalHistory plan start places entries
    → (p : ℕ) → p ≤ length entries → KeepsRules (after_first start entries p))
    (one_serves : ServesSoundly call run.account plan state)
    (other_serves : ServesSoundly other again.account plan state) where
  module _ (n : ℕ) (low : n ≤ length run.account.answers) (small : n ≤ length again.account.answers)
      (fails : NoneFails (take n run.account.answers)) (refails : NoneFails (take n again.account.answers)) where
    tasks : SameTasks (take n (deeds_in run.account)) (take n (deeds_in again.account))
    tasks = subst (λ (places : List Place).
        SameTasks (take n (deeds_in run.account)) (take n (deeds_from places again.account.answers))) (sym handled)
        (front_tasks n run.account.handled run.account.answers again.account.answers low small)

    module _ (s : IsSoundCall call run.account plan state) (t : IsSoundCall other again.account plan state)
        (words others : List ℕ)
        (e : IsExact call run.account plan state words s.run.history.run.ends)
        (f : IsExact other again.account plan state others t.run.history.run.ends) where
      same : FrontsAlike call other run.account again.account plan state n
      same =
          let (own, rest, is, serves, few, none) = e.served in
          let (entries, left, at, reserves, few_left, zero_left) = f.served in
          let (front, more, split, served) =
          front_serves (begin_of call plan state) false [] n (deeds_in run.account) e.moves own serves in
          let (back, most, cut, reserved) =
          front_serves (begin_of call plan state) false [] n (deeds_in again.account) f.moves entries
          (subst (λ (b : Begin). ServesAll b false [] (deeds_in again.account) f.moves entries)
          (began_alike call other plan state told tells) reserves) in
          let both = once (begin_of call plan state) MOST_KEYS (mark_at state) [] [] (take n (deeds_in run.account))
          (take n (deeds_in again.account))
          (take n e.moves) (take n f.moves) front back (front_reported n [] (deeds_in run.account) run.reports)
          (front_reported n [] (deeds_in again.account) again.reports)
          (λ (some : List Entry) (behind : List Entry) there.
          rules_front state call.entries s.run.history.run.ends
          (along plan state run.account.handled call.entries s.run.history) some (behind ++ (more ++ rest))
          (is ∙ ap (λ (l : List Entry). l ++ rest) split ∙ append_assoc front more rest
          ∙ ap (λ (l : List Entry). l ++ (more ++ rest)) there
          ∙ append_assoc some behind (more ++ rest)))
          tasks
          (are_served (NearWord state call.entries (records_of run.account.handled))
          (course_of call run.account plan state) n
          run.account.handled run.account.answers s.run.answers fails)
          (are_served (NearWord state other.entries (records_of again.account.handled))
          (course_of other again.account plan state) n
          again.account.handled again.account.answers t.run.answers refails)
          served reserved
          (front_runs MOST_KEYS (mark_at state) n e.moves e.beyond e.runs)
          (front_runs MOST_KEYS (mark_at state) n f.moves f.beyond f.runs) in
          record {
            answers =
                sym (front_answers n again.account.handled again.account.answers
                (few_answers again.account again.account.came again.answered))
                ∙ sym both.0 ∙ front_answers n run.account.handled run.account.answers
                (few_answers run.account run.account.came run.answered);
            own = front;
            moves = take n e.moves;
            made = served;
            begins = front_begins call.entries s.run.history.run.ends own front more rest is split;
            begins_again = subst (λ (l : List Entry). l ≡ take (length l) other.entries) (sym both.1)
                (front_begins other.entries t.run.history.run.ends entries back most left at cut);
          }

  pub fronts_alike : (n : ℕ) → n ≤ length run.account.answers → n ≤ length again.account.answers
      → NoneFails (take n run.account.answers) → NoneFails (take n again.account.answers)
      → FrontsAlike call other run.account again.account plan state n
  fronts_alike n low small fails refails =
      same n low small fails refails one_serves.sound other_serves.sound one_serves.released.words
      other_serves.released.words (one_serves.exact one)
      (other_serves.exact (subst (λ (places : List Place). OneLane (records_of places)) (sym handled) one))

  -- where each record was answered, all answers are the same, and the entries too, where the site did not fail
  pub alike : length run.account.answers ≡ length run.account.handled
      → length again.account.answers ≡ length again.account.handled
      → NoneFails run.account.answers → NoneFails again.account.answers
      → AnswersAlike call other run.account again.account
  alike each reach fails refails =
      let counted : length again.account.answers ≡ length run.account.answers = reach ∙ ap length handled ∙ sym each in
      let all : take (length run.account.answers) run.account.answers ≡ run.account.answers =
      take_all (length run.account.answers) run.account.answers (omega arith) in
      let reall : take (length run.account.answers) again.account.answers ≡ again.account.answers =
      take_all (length run.account.answers) again.account.answers (omega arith) in
      let entries : IsUnfailed call → IsUnfailed other → (other.entries ≡ call.entries)
      × (again.account.named ≡ run.account.named → due_octets other again.account ≡ due_octets call run.account) =
      λ still restill.
      entries_alike call other run again plan state still restill each reach told tells handled one fails refails once
      along one_serves other_serves in
      record {
        answers = sym reall ∙ (fronts_alike (length run.account.answers) (omega arith) (omega arith)
            (subst NoneFails (sym all) fails) (subst NoneFails (sym reall) refails)).answers ∙ all;
        entries = λ still restill. (entries still restill).0;
        due = λ still restill. (entries still restill).1;
      }
