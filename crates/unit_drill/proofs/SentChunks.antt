-- The sender of a drill, chunk by chunk.
use Rattle.std.proofs.Common.{◌≡◌, ◌≢◌, ℕ, zero, suc, ◌+◌, ◌-◌, ◌==◌, ◌<◌, ◌≤◌, Bool, true, false, List, [], ◌∷◌, ◌++◌}
use Rattle.std.proofs.Common.{length, get_or, refl, sym, ◌∙◌, ap, subst, inl, inr, arith}
use Rattle.std.specs.List.{All, list_any, range_with_len}
use Rattle.std.proofs.lemmas.Bool.{cases_lt, eq-eqb, or_parts}
use Rattle.std.proofs.lemmas.List.{append-nil, append_assoc, get_or_append_left, get_or-append-add, length-append}
use Rattle.std.proofs.lemmas.List.Elements.{All-map}
use Rattle.std.proofs.lemmas.List.FromFn.{get_or-map-range_with_len, get_or-range_with_len, length-map-range_with_len}
use Rattle.std.proofs.lemmas.List.FromFn.{length-range_with_len, map-range_with_len_more}
use Rattle.sdls_base.specs.declared.TheConstants.{MOST_KEYS}
use Rattle.record_io.specs.declared.answers.Answer.{Answer}
use Rattle.record_io.specs.declared.code.TheConstants as codes_of
use Rattle.record_io.specs.declared.item_cursor.Record.{Record}
use Rattle.counter_table.specs.declared.view.View.{View}
use Rattle.counter_table.specs.Whole.{IsWhole}
use Rattle.run_promise.specs.Fits.{Fits}
use Rattle.run_promise.specs.Call.{Begin}
use Rattle.law_workers.specs.Deeds.{Agree, Ascend, course_in, deeds_of}
use Rattle.run_promise.specs.Deed.{Deed, deed_of}
use Rattle.law_workers.specs.Order.{Handled, Layout}
use Rattle.law_workers.specs.Views.{entries_in}
use Rattle.law_workers.proofs.Handling.{handled_then}
use Rattle.law_workers.proofs.Handling as handling
use Rattle.law_workers.specs.Opened.{IsJustOpened}
use Rattle.law_workers.specs.Ends.{EndsSegment}
use Rattle.unit_drill.specs.Frames.{protect_task, protect_tasks}
use Rattle.unit_drill.specs.Chunks.{HandlesSegment}
use Rattle.unit_drill.specs.UnitRun.{says_fault, says_no_memory}
use Rattle.unit_drill.proofs.Read.{sender_bare}
use Rattle.unit_drill.proofs.Lanes.{each, key_on}
use Rattle.unit_drill.proofs.Lists.{Below, From, ascend_once, ascend_then, come_before, deed_at, deeds_all, deeds_both}
use Rattle.unit_drill.proofs.Lists.{deeds_long, deeds_then, none_pass}
use Rattle.unit_drill.proofs.Beginnings.{Starts}
use Rattle.unit_drill.proofs.Receiving.{AreSent}
use Rattle.unit_drill.proofs.Reserving.{sending}
use Rattle.unit_drill.proofs.Sending.{Done, Sent, few_entries, fits, near, sent_so}
use Rattle.unit_drill.proofs.Tasks.{drill_layout, drill_lies, protect_ascends, protect_lanes}

-- ---- what was done, and more

pub done_more : (layout : Layout) (begin : Begin) (first now next : View) (tasks later : List Record)
    (deeds more : List Deed) (bound : ℕ)
    → Done layout begin first now tasks deeds → Handled layout begin now next later more → IsWhole MOST_KEYS next
    → Ascend tasks → Ascend later
    → All (Below bound) tasks → All (From bound) later → All (λ (deed : Deed). Below bound deed.task) deeds
    → All (λ (deed : Deed). From bound deed.task) more
    → Done layout begin first next (tasks ++ later) (deeds ++ more)
done_more layout begin first now next tasks later deeds more bound done handled whole up up_later below from below_deeds
    from_deeds = record {
      opened = done.opened;
      rows = done.rows;
      handled = handled_then layout begin first now next tasks later deeds more done.handled handled
          (come_before bound tasks later below from)
          (deeds_both bound deeds more below_deeds from_deeds);
      whole = subst (λ (rows : ℕ). IsWhole rows next) (sym done.rows) whole;
      plan_is = done.plan_is;
      rules = done.rules;
      once = λ index. ascend_once index (tasks ++ later) (ascend_then bound tasks later below from up up_later);
    }

-- the history is not full, so all records are answered
pub all_answered : (begin : Begin) (now next : View) (tasks : List Record) (answers : List Answer) (full : Bool)
    → EndsSegment begin now next tasks answers full
    → length (entries_in next) ≤ 1000000 → length answers ≡ length tasks
all_answered begin now next tasks answers false ends few = ends
all_answered begin now next tasks answers true ends few = let full = ends.2.full in absurd (omega arith)

-- ---- answers

abbrev pub blank : Answer
blank = record { code = 51; detail = 0; key = 0; position = 0; number = 0; body = [] }

abbrev pub at : List Answer → ℕ → Answer
at answers i = get_or answers i blank

-- an answer that says no fault, and not that memory ran out
pub record IsGood (answer : Answer) : Type 0 where
  pub no_fault : answer.code ≢ codes_of.SITE_FAULT
  pub not_stopped : answer.code ≢ codes_of.STOPPED
  pub not_wanting : answer.code ≢ codes_of.NO_MEMORY

is_good : (answer : Answer) → says_fault answer ≡ false → says_no_memory answer ≡ false → IsGood answer
is_good answer quiet wants =
    let both = or_parts (answer.code == codes_of.SITE_FAULT) (answer.code == codes_of.STOPPED) quiet in
    record {
      no_fault = λ is. (let t = sym both.0 ∙ eq-eqb answer.code codes_of.SITE_FAULT is in let k : false ≡ true =
          t in cc);
      not_stopped = λ is. (let t = sym both.1 ∙ eq-eqb answer.code codes_of.STOPPED is in let k : false ≡ true =
          t in cc);
      not_wanting = λ is. (let t = sym wants ∙ eq-eqb answer.code codes_of.NO_MEMORY is in let k : false ≡ true =
          t in cc);
    }

pub all_good : (answers : List Answer) → list_any says_fault answers ≡ false → list_any says_no_memory answers ≡ false
    → All IsGood answers
all_good answers quiet wants =
    let a = none_pass says_fault answers quiet in
    let b = none_pass says_no_memory answers wants in
    λ k d low. is_good (get_or answers k d) (a k d low) (b k d low)

-- ---- the sender

protects_then : (m n : ℕ) → protect_tasks 0 (m + n) ≡ protect_tasks 0 m ++ protect_tasks m n
protects_then m zero = (let e : m + 0 ≡ m = omega arith in ap (protect_tasks 0) e)
    ∙ sym (append-nil (protect_tasks 0 m))
protects_then m (suc n) =
    let e : m + suc n ≡ m + n + 1 = omega arith in
    let f : suc n ≡ n + 1 = omega arith in
    ap (protect_tasks 0) e
    ∙ (map-range_with_len_more protect_task 0 (m + n) (m + n) (omega arith)
    ∙ (ap (λ (ts : List Record). ts ++ protect_task (m + n) ∷ []) (protects_then m n)
    ∙ (append_assoc (protect_tasks 0 m) (protect_tasks m n) (protect_task (m + n) ∷ [])
    ∙ ap (λ (ts : List Record). protect_tasks 0 m ++ ts)
    (sym (ap (protect_tasks m) f ∙ map-range_with_len_more protect_task m n (m + n) (omega arith))))))

protects_below : (m : ℕ) → All (Below m) (protect_tasks 0 m)
protects_below m =
    All-map (Below m) protect_task (range_with_len 0 m)
    (λ k d low. let many = length-range_with_len 0 m in let is =
    get_or-range_with_len 0 m k d (omega arith) in omega arith)

pub protects_from : (m n : ℕ) → All (From m) (protect_tasks m n)
protects_from m n =
    All-map (From m) protect_task (range_with_len m n)
    (λ k d low. let many = length-range_with_len m n in let is =
    get_or-range_with_len m n k d (omega arith) in omega arith)

are_frames : (m : ℕ) → All (λ (task : Record). (i : ℕ) × (task ≡ protect_task i)) (protect_tasks 0 m)
are_frames m = All-map (λ (task : Record). (i : ℕ) × (task ≡ protect_task i)) protect_task (range_with_len 0 m)
    (λ k d low. (
      get_or
          (range_with_len 0 m) k d,
      refl,
    ))

-- the first frames were protected, each under a number of its own
pub record SentAll (begin : Begin) (first now : View) (m : ℕ) (sent : List Answer) : Type 0 where
  pub many : length sent ≡ m
  pub done : Done (drill_layout 0) begin first now (protect_tasks 0 m) (deeds_of 0 (protect_tasks 0 m) sent)
  pub each_is : (i : ℕ) → i < m → Sent i (at sent i)

deed_is : (m : ℕ) (sent : List Answer) (i : ℕ) (d : Deed) → length sent ≡ m → i < m
    → get_or (deeds_of 0 (protect_tasks 0 m) sent) i d ≡ deed_of 0 (protect_task i) (at sent i)
deed_is m sent i d many low =
    let count = length-map-range_with_len protect_task 0 m in
    deed_at 0 (protect_tasks 0 m) sent i d (protect_task 0) blank (omega arith) (omega arith)
    ∙ ap (λ (t : Record). deed_of 0 t (at sent i))
    (get_or-map-range_with_len protect_task 0 m i i (protect_task 0) low (omega arith))

pub none_sent : (begin : Begin) (first : View) → IsJustOpened begin first → begin.rows ≡ MOST_KEYS
    → IsWhole MOST_KEYS first → Starts begin sender_bare (sending (each 1))
    → SentAll begin first first 0 []
none_sent begin first opened rows whole starts = record {
  many = refl;
  done = record {
    opened = opened;
    rows = rows;
    handled = handling.handled_nothing (drill_layout 0) begin first [];
    whole = subst (λ (n : ℕ). IsWhole n first) (sym rows) whole;
    plan_is = starts.plan_is;
    rules = starts.rules;
    once = λ index. omega arith;
  };
  each_is = λ i low. absurd (omega arith);
}

module _ (begin : Begin) (first now next : View) (m n : ℕ) (sent later : List Answer)
    (starts : Starts begin sender_bare (sending (each 1)))
    (so_far : SentAll begin first now m sent) (serves : HandlesSegment begin now next (protect_tasks m n) later)
    (few : m + n ≤ 100000)
    (wants : list_any says_no_memory later ≡ false) where
  abbrev both_tasks : List Record
  both_tasks = protect_tasks 0 m ++ protect_tasks m n

  done_both : Done (drill_layout 0) begin first next both_tasks
      (deeds_of 0 (protect_tasks 0 m) sent ++ deeds_of 0 (protect_tasks m n) later)
  done_both =
      done_more (drill_layout 0) begin first now next (protect_tasks 0 m) (protect_tasks m n) _ _ m so_far.done
      (serves.handled (drill_layout 0) 0 (drill_lies 0 (protect_tasks m n) (protect_lanes m n))) serves.whole
      (protect_ascends 0 m) (protect_ascends m n) (protects_below m) (protects_from m n)
      (deeds_all (Below m) 0 (protect_tasks 0 m) sent (protects_below m))
      (deeds_all (From m) 0 (protect_tasks m n) later (protects_from m n))

  frames_both : All (λ (task : Record). (i : ℕ) × (task ≡ protect_task i)) both_tasks
  frames_both = subst (λ (ts : List Record). All (λ (task : Record). (i : ℕ) × (task ≡ protect_task i)) ts)
      (protects_then m n) (are_frames (m + n))

  many_both : length both_tasks ≤ 100000
  many_both = let h = ap length (protects_then m n) in let k =
      length-map-range_with_len protect_task 0 (m + n) in omega arith

  pub answered : length later ≡ n
  answered =
      let e = few_entries (drill_layout 0) begin first next both_tasks _ done_both starts.plan starts.start
      frames_both many_both in
      let all = all_answered begin now next (protect_tasks m n) later serves.full serves.ends (omega arith) in
      all ∙ length-map-range_with_len protect_task m n

  abbrev all_sent : List Answer
  all_sent = sent ++ later

  done_all : Done (drill_layout 0) begin first next (protect_tasks 0 (m + n))
      (deeds_of 0 (protect_tasks 0 (m + n)) all_sent)
  done_all =
      let count = length-map-range_with_len protect_task 0 m in
      let many = so_far.many in
      let deeds = deeds_then 0 (protect_tasks 0 m) (protect_tasks m n) sent later (omega arith) in
      subst (λ (ts : List Record). Done (drill_layout 0) begin first next ts (deeds_of 0 ts all_sent))
      (sym (protects_then m n))
      (subst (λ (ds : List Deed). Done (drill_layout 0) begin first next both_tasks ds) (sym deeds) done_both)

  new_is : (i : ℕ) → m ≤ i → i < m + n → IsGood (at all_sent i) → Sent i (at all_sent i)
  new_is i high low good =
      let many = so_far.many in
      let more = answered in
      let total : length all_sent ≡ m + n = length-append sent later ∙ omega arith in
      let count = length-map-range_with_len protect_task 0 (m + n) in
      let long = deeds_long 0 (protect_tasks 0 (m + n)) all_sent (omega arith) in
      let dummy : Deed = deed_of 0 (protect_task 0) blank in
      let all_fit = fits (drill_layout 0) begin first next (protect_tasks 0
      (m + n)) _ done_all starts.plan starts.start
      (are_frames (m + n)) (omega arith) i dummy (omega arith) in
      let fit = subst (λ (d : Deed). Fits (near (drill_layout 0) begin first next (protect_tasks 0
      (m + n)) _ done_all starts.plan starts.start (are_frames (m + n)) (omega arith)) (course_in begin next) d.task
      d.answer) (deed_is (m + n) all_sent i dummy total low) all_fit in
      sent_so (drill_layout 0) begin first next (protect_tasks 0 (m + n)) _ done_all starts.plan starts.start
      (are_frames (m + n)) (omega arith) i (at all_sent i) fit good.no_fault good.not_stopped good.not_wanting

  pub sent_more : SentAll begin first next (m + n) all_sent
  sent_more =
      let many = so_far.many in
      let more = answered in
      let good = all_good later serves.quiet wants in
      record {
        many = length-append sent later ∙ omega arith;
        done = done_all;
        each_is = λ i low. elim (cases_lt i m) [
          | inl before ↦ subst (Sent i) (sym (get_or_append_left sent later blank i (omega arith)))
              (so_far.each_is i before)
          | inr behind ↦
              let place : i ≡ length sent + (i - m) = omega arith in
              let same : at all_sent i ≡ at later (i - m) =
              ap (at all_sent) place ∙ get_or-append-add sent later (i - m) blank in
              new_is i behind low (subst IsGood (sym same) (good (i - m) blank (omega arith)))
        ];
      }

-- the numbers and the octets of the frames
abbrev pub numbers_in : List Answer → ℕ → ℕ
numbers_in sent i = (at sent i).number

abbrev pub octets_in : List Answer → ℕ → List ℕ
octets_in sent i = (at sent i).body

pub are_sent : (begin : Begin) (first now : View) (m : ℕ) (sent : List Answer) → SentAll begin first now m sent
    → AreSent m (numbers_in sent) (octets_in sent)
are_sent begin first now m sent all = record {
  protects = λ i low. (all.each_is i low).protects;
  least = λ i low. (all.each_is i low).least;
  most = λ i low. (all.each_is i low).most;
  ascend = λ i j before low same.
      let many = all.many in
      let count = length-map-range_with_len protect_task 0 m in
      let long = deeds_long 0 (protect_tasks 0 m) sent (omega arith) in
      let dummy : Deed = deed_of 0 (protect_task 0) blank in
      let agree = all.done.handled.does.answers.agree i dummy (omega arith) j dummy (omega arith) in
      let one = all.each_is i (omega arith) in
      let other = all.each_is j low in
      let own : Agree begin (entries_in now) (deed_of 0 (protect_task i) (at sent i))
      (deed_of 0 (protect_task j) (at sent j)) =
      subst (λ (d : Deed). Agree begin (entries_in now) d (deed_of 0 (protect_task j) (at sent j)))
      (deed_is m sent i dummy many (omega arith))
      (subst (λ (d : Deed). Agree begin (entries_in now) (get_or (deeds_of 0 (protect_tasks 0 m) sent) i dummy) d)
      (deed_is m sent j dummy many low) agree) in
      (own.order before (inl same)).numbers same one.code other.code refl refl
      (one.key ∙ (ap key_on same ∙ sym other.key));
}
