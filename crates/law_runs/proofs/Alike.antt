-- Two runs of one lane over one image that handled the same records, and answered each, made the same entries, where
-- the site did
-- not fail and memory sufficed.
use Rattle.std.proofs.Common.{◌≡◌, ◌≢◌, ℕ, zero, suc, ◌+◌, ◌<◌, ◌≤◌, ◌==◌, Bool, IsTrue, true, false, List, [], ◌∷◌}
use Rattle.std.proofs.Common.{◌++◌, length, map, take, drop, refl, sym, ◌∙◌, ap, subst, inl, inr, arith, append_assoc}
use Rattle.std.proofs.Common.{append-nil, length-append, eqb}
use Rattle.std.specs.Bool.{⊤}
use Rattle.std.specs.List.{All, list_any, slice_index}
use Rattle.std.proofs.lemmas.Bool.{cases_eq, cases_lt}
use Rattle.std.proofs.lemmas.Bool.Decides.{nat_tests}
use Rattle.std.proofs.lemmas.List.{ext_get_or, length-take, take-append-drop, take-append-le, take_all}
use Rattle.sdls_base.specs.declared.TheConstants.{MOST_KEYS}
use Rattle.sdls_base.specs.declared.entry.Entry.{Entry}
use Rattle.sdls_outside.specs.Faults.{Rose}
use Rattle.record_io.specs.declared.answers.Answer.{Answer}
use Rattle.record_io.specs.declared.code.TheConstants.{NO_MEMORY, SITE_FAULT, STOPPED}
use Rattle.record_io.specs.declared.status.TheConstants as status
use Rattle.record_io.specs.declared.reader.RecordKind.{RecordKind}
use Rattle.record_io.specs.declared.reader.RecordKind.TheVariants.{Protect, Open, Command, Monitor}
use Rattle.record_io.specs.Answers.{answer_octets, answers_octets}
use Rattle.record_io.specs.Places.{Place, records_of}
use Rattle.unit_plan.specs.PlanLines.{PlanLines}
use Rattle.unit_state.specs.declared.state.State.{State}
use Rattle.unit_state.specs.State.{KeepsRules}
use Rattle.unit_state.specs.History.{after_all, after_first}
use Rattle.run_promise.specs.Answers.{SaysSiteFailed, codes_of}
use Rattle.run_promise.specs.Fits.{Course, Fits}
use Rattle.run_promise.specs.Numbers.{releases, mark_at}
use Rattle.run_promise.specs.History.{IsLegalHistory, NearWord}
use Rattle.law_history.proofs.Codes.{fits_code}
use Rattle.run_promise.specs.declared.end.TheConstants.{MOST_ENTRIES}
use Rattle.run_promise.specs.Call.{Begin, CallSeen}
use Rattle.run_promise.specs.Deed.{Deed}
use Rattle.run_promise.specs.Words.{Move, Runs, adds_all}
use Rattle.fsr_log.specs.Noted.{Noted}
use Rattle.run_promise.specs.Sound.{AreReported}
use Rattle.law_workers.specs.Served.{AreServed, SameTasks}
use Rattle.run_promise.specs.OneLane.{ServesAll, OneLane, IsExact}
use Rattle.run_promise.specs.declared.end.RunEnd.{RunEnd}
use Rattle.run_promise.specs.declared.end.RunEnd.TheVariants.{Ended, SiteFault}
use Rattle.run_promise.specs.Account.{Account, begin_of, course_of, deeds_from, deeds_in, due_octets, end_answer}
use Rattle.run_promise.specs.Account.{end_octets, end_status, TellsEnd}
use Rattle.run_promise.specs.Ends.{IsReleased, IsSoundCall, RunEnds, ServesSoundly, due_releases}
use Rattle.law_runs.specs.Says.{IsUnfailed, NoneFails, NoneWants}

-- ---- codes

-- each of the codes is at most that of lack of memory
abbrev AreLow : List ℕ → Type 0
AreLow [] = ⊤
AreLow (code ∷ codes) = (code ≤ NO_MEMORY) × AreLow codes

are_low : (kind : RecordKind) → AreLow (codes_of kind)
are_low Protect = (
  omega arith,
  (
    omega arith,
    (omega arith, (omega arith, (omega arith, (omega arith, (omega arith, (omega arith, (omega arith, tt))))))),
  ),
)
are_low Open = (
  omega arith,
  (
    omega arith,
    (
      omega arith,
      (
        omega arith,
        (
          omega arith,
          (
            omega arith,
            (omega arith, (omega arith, (omega arith, (omega arith, (omega arith, (omega arith, (omega arith, tt))))))),
          ),
        ),
      ),
    ),
  ),
)
are_low Command = (omega arith, (omega arith, (omega arith, (omega arith, (omega arith, tt)))))
are_low Monitor = (omega arith, (omega arith, (omega arith, tt)))

low_code : (codes : List ℕ) (code : ℕ) → AreLow codes → IsTrue (list_any (λ own. own == code) codes) → code ≤ NO_MEMORY
low_code [] code low h = absurd (let t : false ≡ true = h in cc)
low_code (c ∷ codes) code low h = elim (cases_eq c code) [
  | inl is ↦ let l = low.0 in omega arith
  | inr off ↦ let f : eqb c code ≡ false = grind (arith, nat_tests) in low_code codes code low.1 (rw f at h)
]

-- ---- records and their answers

answers_of_deeds : (places : List Place) (answers : List Answer) → length answers ≡ length places
    → map (λ (d : Deed). d.answer) (deeds_from places answers) ≡ answers
answers_of_deeds [] [] same = refl
answers_of_deeds [] (answer ∷ answers) same = absurd (omega arith)
answers_of_deeds (place ∷ places) [] same = absurd (omega arith)
answers_of_deeds (place ∷ places) (answer ∷ answers) same =
    ap (λ (l : List Answer). answer ∷ l) (answers_of_deeds places answers (omega arith))

same_tasks : (places : List Place) (answers others : List Answer) → length answers ≡ length places
    → length others ≡ length places
    → SameTasks (deeds_from places answers) (deeds_from places others)
same_tasks [] answers others one two = tt
same_tasks (place ∷ places) [] others one two = absurd (omega arith)
same_tasks (place ∷ places) (answer ∷ answers) [] one two = absurd (omega arith)
same_tasks (place ∷ places) (answer ∷ answers) (other ∷ others) one two =
    (refl, same_tasks places answers others (omega arith) (omega arith))

-- an answer that tells neither a fault of the site nor that memory ran out has no code from 31 on
one_served : (near : ℕ → ℕ → Type 0) (course : Course) (place : Place) (answer : Answer)
    → Fits near course place.task answer
    → ¬ SaysSiteFailed answer → answer.code ≢ NO_MEMORY → answer.code < SITE_FAULT
one_served near course place answer fits fault wants =
    by_code answer.code (low_code (codes_of place.task.kind) answer.code (are_low place.task.kind)
    (fits_code near course place.task answer fits))
    wants (λ is. fault (inl is)) (λ is. fault (inr is))
  where
    by_code : (code : ℕ) → code ≤ NO_MEMORY → (code ≡ NO_MEMORY → ⊥) → (code ≡ SITE_FAULT → ⊥) → (code ≡ STOPPED → ⊥)
        → code < SITE_FAULT
    by_code code low a b c = elim (cases_lt code SITE_FAULT) [
      | inl small ↦ small
      | inr high ↦ absurd (grind arith)
    ]

-- so it is with the first answers
pub are_served : (near : ℕ → ℕ → Type 0) (course : Course) (n : ℕ) (places : List Place) (answers : List Answer)
    → All (λ (deed : Deed). Fits near course deed.task deed.answer) (deeds_from places answers)
    → NoneFails (take n answers) → AreServed (take n (deeds_from places answers))
are_served near course zero places answers fit none = tt
are_served near course (suc n) [] answers fit none = tt
are_served near course (suc n) (place ∷ places) [] fit none = tt
are_served near course (suc n) (place ∷ places) (answer ∷ answers) fit none =
    let f = fit 0 (record { task = place.task; segment = place.segment; answer = answer }) (omega arith) in
    let (fault, wants) = none 0 answer (omega arith) in (
      one_served near course place answer f fault wants,
      are_served near course n places answers (λ k d small. fit (suc k) d (omega arith))
          (λ k d small. none (suc k) d (omega arith)),
    )

all_served : (near : ℕ → ℕ → Type 0) (course : Course) (places : List Place) (answers : List Answer)
    → All (λ (deed : Deed). Fits near course deed.task deed.answer) (deeds_from places answers) → NoneFails answers
    → AreServed (deeds_from places answers)
all_served near course [] answers fit none = tt
all_served near course (place ∷ places) [] fit none = tt
all_served near course (place ∷ places) (answer ∷ answers) fit none =
    let f = fit 0 (record { task = place.task; segment = place.segment; answer = answer }) (omega arith) in
    let (fault, wants) = none 0 answer (omega arith) in (
      one_served near course place answer f fault wants,
      all_served near course places answers (λ k d small. fit (suc k) d (omega arith))
          (λ k d small. none (suc k) d (omega arith)),
    )

-- ---- a run that ended well

rose_later : (before mid now : ℕ) → mid ≤ now → Rose before mid → Rose before now
rose_later before mid now low rose = omega arith

pub not_rose : (call : CallSeen) (account : Account) → TellsEnd call account → account.named ≡ Ended
    → ¬ Rose call.site.faults account.faults_when_put
not_rose call account (inl (rose, told)) is =
    absurd (let both : Ended ≡ SiteFault account.faults_when_put = sym is ∙ told in let b = both in cc)
not_rose call account (inr (not, rest)) is = not

-- with another status than that of a fault of the site its count stood until all answers were put
pub not_failed : (call : CallSeen) (run : RunEnds call) → call.status ≢ status.SITE_FAULT
    → ¬ Rose call.site.faults run.account.faults_when_put
not_failed call run other rose = elim run.put [
  | inr broken ↦ other broken.status_is
  | inl put ↦ elim run.tells [
    | inl failed ↦ other (put.status_is ∙ ap end_status failed.1)
    | inr well ↦ well.0 rose
  ]
]

pub front_is : (xs front rest : List Entry) → xs ≡ front ++ rest → take (length front) xs ≡ front
front_is xs front rest is =
    ap (take (length front)) is ∙ take-append-le (length front) front rest (omega arith)
    ∙ take_all (length front) front (omega arith)

-- the states after the entries of the lane keep the rules
pub rules_front : (state : State) (entries : List Entry) (ends : ℕ)
    → ((p : ℕ) → p ≤ length entries → KeepsRules (after_first state entries p))
    → (front rest : List Entry) → take ends entries ≡ front ++ rest → KeepsRules (after_all state ([] ++ front))
rules_front state entries ends rules front rest is =
    let whole : entries ≡ front ++ (rest ++ drop ends entries) =
    sym (take-append-drop ends entries) ∙ ap (λ (l : List Entry). l ++ drop ends entries) is
    ∙ append_assoc front rest (drop ends entries) in
    let size : length entries ≡ length front + length (rest ++ drop ends entries) =
    ap length whole ∙ length-append front (rest ++ drop ends entries) in
    subst (λ (l : List Entry). KeepsRules (after_all state l))
    (front_is entries front (rest ++ drop ends entries) whole)
    (rules (length front) (omega arith))

no_more_moves : (rows : ℕ) (words : ℕ → ℕ) (moves beyond : List Move) → beyond ≡ [] → Runs rows words (moves ++ beyond)
    → Runs rows words moves
no_more_moves rows words moves beyond none h =
    subst (Runs rows words) (ap (λ (l : List Move). moves ++ l) none ∙ append-nil moves) h

-- nor did the site fail at a release, where its count stood
pub unfailed : (call : CallSeen) (run : RunEnds call) → call.status ≢ status.SITE_FAULT
    → call.site_after.faults ≡ call.site.faults → IsUnfailed call
unfailed call run other stands rose =
    let a = run.last_later in let b = run.after_later in
    let same : run.account.faults_when_put ≡ call.site_after.faults = omega arith in
    not_failed call run other (subst (λ (n : ℕ). Rose call.site.faults n) (sym same) rose)

-- where the site did not fail, no answer tells that it did
pub none_fails : (call : CallSeen) (run : RunEnds call) → IsUnfailed call → NoneWants run.account.answers
    → NoneFails run.account.answers
none_fails call run still wants = λ k d low. (
  λ says. still (rose_later call.site.faults run.account.faults_when_put call.site_after.faults run.after_later
      (run.faults_told k d low says)),
  wants k d low,
)

-- ---- releases

-- of two runs with the same entries of the lane and the same releases due, neither makes more releases than the other
module _ (base due : List Entry) where
  no_fewer : (count more : ℕ) → (count < length due → length (base ++ take count due) ≡ MOST_ENTRIES)
      → length (base ++ take more due) ≤ MOST_ENTRIES → length (take more due) ≤ length (take count due)
  no_fewer count more refused bounded = elim (cases_lt count (length due)) [
    | inr all ↦
        let a = length-take count due in let b = length-take more due in omega arith
    | inl few ↦
        let long = refused few in
        let a = length-append base (take count due) in let b = length-append base (take more due) in omega arith
  ]

  same_front : (count more : ℕ) → length (take more due) ≡ length (take count due) → take more due ≡ take count due
  same_front count more same =
      let a = length-take count due in
      let b = length-take more due in
      by_size count more same
    where
      as_length : (n : ℕ) (l : List Entry) → take n l ≡ take (length (take n l)) l
      as_length zero l = refl
      as_length (suc n) [] = refl
      as_length (suc n) (x ∷ l) = ap (λ (z : List Entry). x ∷ z) (as_length n l)

      by_size : (count more : ℕ) → length (take more due) ≡ length (take count due) → take more due ≡ take count due
      by_size count more same = as_length more due ∙ ap (λ (n : ℕ). take n due) same ∙ sym (as_length count due)

-- ---- two calls

-- what a call began with, by what its caller sees
began_with : Bool → PlanLines → State → Begin
began_with told plan state = record { rows = MOST_KEYS; told = told; plan = plan; start = state }

-- two calls over one image began with the same
pub began_alike : (call other : CallSeen) (plan : PlanLines) (state : State) → IsTrue call.told → IsTrue other.told
    → begin_of other plan state ≡ begin_of call plan state
unfolding began_with
began_alike call other plan state told tells = ap (λ (b : Bool). began_with b plan state) (tells ∙ sym told)

module _ (call other : CallSeen) (run : RunEnds call) (again : RunEnds other) (plan : PlanLines) (state : State)
    (still : IsUnfailed call) (restill : IsUnfailed other)
    (each : length run.account.answers ≡ length run.account.handled)
    (reach : length again.account.answers ≡ length again.account.handled) (told : IsTrue call.told)
    (tells : IsTrue other.told)
    (handled : again.account.handled ≡ run.account.handled)
    (one : OneLane (records_of run.account.handled)) (fails : NoneFails run.account.answers)
    (refails : NoneFails again.account.answers)
    (once : (begin : Begin) (rows : ℕ) (words : ℕ → ℕ) (before : List Noted) (history : List Entry)
    (deeds others : List Deed) (moves more : List Move)
    (own entries : List Entry) → AreReported before deeds → AreReported before others
    → ((front rest : List Entry) → own ≡ front ++ rest → KeepsRules (after_all begin.start (history ++ front)))
    → SameTasks deeds others → AreServed deeds → AreServed others
    → ServesAll begin false history deeds moves own → ServesAll begin false history others more entries
    → Runs rows words moves → Runs rows words more
    → (map (λ (deed : Deed). deed.answer) deeds ≡ map (λ (deed : Deed). deed.answer) others) × (own ≡ entries)
    × (moves ≡ more))
    (along : (plan : PlanLines) (start : State) (places : List Place) (entries : List Entry)
    → IsLegalHistory plan start places entries
    → (p : ℕ) → p ≤ length entries → KeepsRules (after_first start entries p))
    (one_serves : ServesSoundly call run.account plan state)
    (other_serves : ServesSoundly other again.account plan state) where
  -- where each record has its answer the records made all entries of the lane
  served_whole : (c : CallSeen) (account : Account) (ends : ℕ) (words : List ℕ)
      (e : IsExact c account plan state words ends) → ¬ Rose c.site.faults account.faults_when_put
      → length account.answers ≡ length account.handled
      → ServesAll (begin_of c plan state) false [] (deeds_in account) e.moves (take ends c.entries)
  served_whole c account ends words e calm all =
      let (own, rest, is, serves, few, none) = e.served in
      let same : take ends c.entries ≡ own = is ∙ ap (λ (l : List Entry). own ++ l) (none all calm) ∙ append-nil own in
      subst (λ (l : List Entry). ServesAll (begin_of c plan state) false [] (deeds_in account) e.moves l) (sym same)
      serves

  quiet : ¬ Rose call.site.faults run.account.faults_when_put
  quiet rose =
      still (rose_later call.site.faults run.account.faults_when_put call.site_after.faults run.after_later rose)

  requiet : ¬ Rose other.site.faults again.account.faults_when_put
  requiet rose =
      restill (rose_later other.site.faults again.account.faults_when_put other.site_after.faults again.after_later
      rose)

  begins : begin_of other plan state ≡ begin_of call plan state
  begins = began_alike call other plan state told tells

  recounted : length again.account.answers ≡ length run.account.handled
  recounted = reach ∙ ap length handled

  tasks : SameTasks (deeds_in run.account) (deeds_in again.account)
  tasks = subst (λ (places : List Place). SameTasks (deeds_in run.account) (deeds_from places again.account.answers))
      (sym handled)
      (same_tasks run.account.handled run.account.answers again.account.answers each recounted)

  module _ (s : IsSoundCall call run.account plan state) (t : IsSoundCall other again.account plan state)
      (r : IsReleased call run.account state s.run.history.run.ends)
      (q : IsReleased other again.account state t.run.history.run.ends)
      (e : IsExact call run.account plan state r.words s.run.history.run.ends)
      (f : IsExact other again.account plan state q.words t.run.history.run.ends) where
    abbrev base : List Entry
    base = take s.run.history.run.ends call.entries

    abbrev due : List Entry
    due = due_releases call state s.run.history.run.ends r.words

    all_same : (map (λ (deed : Deed). deed.answer) (deeds_in run.account)
        ≡ map (λ (deed : Deed). deed.answer) (deeds_in again.account))
        × (take s.run.history.run.ends call.entries ≡ take t.run.history.run.ends other.entries) × (e.moves ≡ f.moves)
    all_same = once (begin_of call plan state) MOST_KEYS (mark_at state) [] [] (deeds_in run.account)
        (deeds_in again.account) e.moves f.moves
        (take s.run.history.run.ends call.entries) (take t.run.history.run.ends other.entries) run.reports again.reports
        (rules_front state call.entries s.run.history.run.ends
        (along plan state run.account.handled call.entries s.run.history)) tasks
        (all_served (NearWord state call.entries (records_of run.account.handled))
        (course_of call run.account plan state) run.account.handled run.account.answers s.run.answers fails)
        (all_served (NearWord state other.entries (records_of again.account.handled))
        (course_of other again.account plan state) again.account.handled again.account.answers t.run.answers
        refails)
        (served_whole call run.account s.run.history.run.ends r.words e quiet each)
        (subst (λ (b : Begin). ServesAll b false [] (deeds_in again.account) f.moves
        (take t.run.history.run.ends other.entries)) begins
        (served_whole other again.account t.run.history.run.ends q.words f requiet reach))
        (no_more_moves MOST_KEYS (mark_at state) e.moves e.beyond (e.each each) e.runs)
        (no_more_moves MOST_KEYS (mark_at state) f.moves f.beyond (f.each reach) f.runs)

    same_answers : again.account.answers ≡ run.account.answers
    same_answers = sym (answers_of_deeds again.account.handled again.account.answers reach) ∙ sym all_same.0
        ∙ answers_of_deeds run.account.handled run.account.answers each

    same_words : q.words ≡ r.words
    same_words = ext_get_or 0 q.words r.words (q.rows ∙ sym r.rows) (λ row low.
        let size = q.rows in
        let a : slice_index q.words row ≡ mark_at state row + adds_all row (f.moves ++ f.beyond) =
        f.last row (omega arith) in
        let b : slice_index r.words row ≡ mark_at state row + adds_all row (e.moves ++ e.beyond) =
        e.last row (omega arith) in
        let beyond : f.moves ++ f.beyond ≡ e.moves ++ e.beyond =
        ap (λ (l : List Move). f.moves ++ l) (f.each reach ∙ sym (e.each each)) ∙ ap (λ (l : List Move). l ++ e.beyond)
        (sym all_same.2) in
        a ∙ ap (λ (l : List Move). mark_at state row + adds_all row l) beyond ∙ sym b)

    same_due : due_releases other state t.run.history.run.ends q.words
        ≡ due_releases call state s.run.history.run.ends r.words
    same_due = ap (λ (l : List Entry). releases (after_all state l) 0 q.words) (sym all_same.1)
        ∙ ap (λ (ws : List ℕ). releases (after_all state (take s.run.history.run.ends call.entries)) 0 ws) same_words

    entries_are : call.entries ≡ base ++ take r.count due
    entries_are = sym (take-append-drop s.run.history.run.ends call.entries) ∙ ap (λ (l : List Entry). base ++ l)
        r.are_due

    others_are : other.entries ≡ base ++ take q.count due
    others_are = sym (take-append-drop t.run.history.run.ends other.entries)
        ∙ ap (λ (l : List Entry). l ++ drop t.run.history.run.ends other.entries) (sym all_same.1)
        ∙ ap (λ (l : List Entry). base ++ l) (q.are_due ∙ ap (take q.count) same_due)

    refused : r.count < length due → length (base ++ take r.count due) ≡ MOST_ENTRIES
    refused few = elim (r.refused few) [
      | inl rose ↦ absurd (still rose)
      | inr long ↦ ap length (sym entries_are) ∙ long
    ]

    rerefused : q.count < length due → length (base ++ take q.count due) ≡ MOST_ENTRIES
    rerefused few = elim (q.refused (let d = ap length same_due in omega arith)) [
      | inl rose ↦ absurd (restill rose)
      | inr long ↦ ap length (sym others_are) ∙ long
    ]

    same_entries : other.entries ≡ call.entries
    same_entries =
        let a = no_fewer base due r.count q.count refused (let b = again.bounded in let l = ap length others_are in
        omega arith) in
        let c = no_fewer base due q.count r.count rerefused (let b = run.bounded in let l = ap length entries_are in
        omega arith) in
        others_are ∙ ap (λ (l : List Entry). base ++ l) (same_front base due r.count q.count (omega arith))
        ∙ sym entries_are

    same_due_octets : again.account.named ≡ run.account.named
        → due_octets other again.account ≡ due_octets call run.account
    same_due_octets ends = ap (λ (l : List Answer). answers_octets l ++ end_octets other again.account.named)
        same_answers
        ∙ ap (λ (end : RunEnd). answers_octets run.account.answers ++ end_octets other end) ends
        ∙ ap (λ (l : List Entry). answers_octets run.account.answers ++ answer_octets
        (end_answer run.account.named (length l))) same_entries

  -- they made the same entries, and the same octets are due where they tell one end
  pub entries_alike : (other.entries ≡ call.entries)
      × (again.account.named ≡ run.account.named → due_octets other again.account ≡ due_octets call run.account)
  entries_alike =
      let one_exact = one_serves.exact one in
      let other_exact =
      other_serves.exact (subst (λ (places : List Place). OneLane (records_of places)) (sym handled) one) in (
        same_entries one_serves.sound other_serves.sound one_serves.released other_serves.released one_exact
            other_exact,
        same_due_octets one_serves.sound other_serves.sound one_serves.released other_serves.released one_exact
            other_exact,
      )
