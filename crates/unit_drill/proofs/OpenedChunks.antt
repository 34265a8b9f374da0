-- The receiver of a drill, chunk by chunk.
use Rattle.std.proofs.Common.{◌≡◌, ◌⊎◌, ℕ, suc, ◌+◌, ◌-◌, ◌*◌, ◌/◌, ◌%◌, ◌==◌, ◌<◌, ◌≤◌, nat_eq, if◌then◌else◌, Bool}
use Rattle.std.proofs.Common.{true, false, List, [], ◌∷◌, ◌++◌, length, get_or, refl, sym, ◌∙◌, ap, subst, inl, inr}
use Rattle.std.proofs.Common.{arith, Contains}
use Rattle.std.specs.List.{All, list_any, zip}
use Rattle.std.specs.Str.{bytes_eq}
use Rattle.std.proofs.lemmas.Bool.{and_from, and_left, eq-eqb}
use Rattle.std.proofs.lemmas.List.{length-append}
use Rattle.std.proofs.lemmas.List.Elements.{All-append, All-cons, All-contains, All-contains_itself, All-head, All-nil}
use Rattle.std.proofs.lemmas.List.Elements.{All-tail, All-weaker, Contains-append_left, Contains-append_right}
use Rattle.sdls_base.specs.declared.TheConstants.{MOST_KEYS}
use Rattle.record_io.specs.declared.answers.Answer.{Answer}
use Rattle.record_io.specs.declared.code.TheConstants as codes_of
use Rattle.record_io.specs.declared.item_cursor.Record.{Record}
use Rattle.counter_table.specs.declared.view.View.{View}
use Rattle.counter_table.specs.Whole.{IsWhole}
use Rattle.run_promise.specs.Fits.{Fits}
use Rattle.run_promise.specs.Call.{Begin}
use Rattle.law_workers.specs.Deeds.{Ascend, course_in, deeds_of}
use Rattle.run_promise.specs.Deed.{Deed, deed_of}
use Rattle.law_workers.specs.Order.{Layout, LiesIn}
use Rattle.law_workers.proofs.Handling as handling
use Rattle.law_workers.specs.Opened.{IsJustOpened}
use Rattle.unit_drill.specs.Counting.{count_accepted, count_code, count_fields, gives_field}
use Rattle.unit_drill.specs.Frames.{data_field, open_task, open_tasks, replay_tasks}
use Rattle.unit_drill.specs.Chunks.{HandlesSegment}
use Rattle.unit_drill.specs.UnitRun.{says_no_memory}
use Rattle.unit_drill.proofs.Read.{receiver_bare}
use Rattle.unit_drill.proofs.Judging.{receiving}
use Rattle.unit_drill.proofs.Lanes.{begun, each}
use Rattle.unit_drill.proofs.Lists.{Below, From, all_counted, answers_all, ascend_then, deed_at, deeds_all, deeds_long}
use Rattle.unit_drill.proofs.Lists.{none_counted, pairs_all, zip_long}
use Rattle.unit_drill.proofs.Beginnings.{Starts}
use Rattle.unit_drill.proofs.Opening.{OpensOnce}
use Rattle.unit_drill.proofs.Receiving.{AreSent, Handed, IsTurn, TellsEntry, WasOpened, entry_told, few_made, fits}
use Rattle.unit_drill.proofs.Receiving.{near, opened_by, replayed_by}
use Rattle.unit_drill.proofs.Sending.{Done}
use Rattle.unit_drill.proofs.SentChunks.{IsGood, all_answered, all_good, at, blank, done_more}
use Rattle.unit_drill.proofs.Tasks.{open_ascends}

-- the records of the receiver, each on the lane of its frame
abbrev pub receiver_layout : Layout
receiver_layout = record { lane_of = λ index. (index - index / 257) % 4; segment_of = λ index. 0 }

lane_so : (total : ℕ) (octets : ℕ → List ℕ) (task : Record) → Handed IsTurn total octets task
    → receiver_layout.lane_of task.index ≡ task.lane
lane_so total octets task hand =
    let turn = hand.is_at in
    ap (λ (t : Record). (t.index - t.index / 257) % 4) hand.is ∙ (ap (λ (i : ℕ). (i - i / 257) % 4) turn.is
    ∙ (number hand.frame turn.again turn.again_is ∙ sym (ap (λ (t : Record). t.lane) hand.is)))
  where
    number : (i a : ℕ) → (a ≡ 0) ⊎ ((a ≡ 256) × (i % 256 ≡ 0)) → (i + a + i / 256 - (i + a + i / 256) / 257) % 4 ≡ i % 4
    number i a (inl none) = let e : (i + a + i / 256) / 257 ≡ i / 256 = omega arith in omega arith
    number i a (inr again) = let h = again.0 in let k = again.1 in let e : (i + a + i / 256) / 257 ≡ i / 256 =
        omega arith in omega arith

all_lanes : (total : ℕ) (octets : ℕ → List ℕ) (tasks : List Record) → All (Handed IsTurn total octets) tasks
    → All (λ (task : Record). receiver_layout.lane_of task.index ≡ task.lane) tasks
all_lanes total octets tasks all =
    All-weaker (Handed IsTurn total octets) (λ (task : Record). receiver_layout.lane_of task.index ≡ task.lane)
    (lane_so total octets) tasks all

lies_so : (total : ℕ) (octets : ℕ → List ℕ) (tasks : List Record) → All (Handed IsTurn total octets) tasks
    → LiesIn receiver_layout 0 tasks
lies_so total octets tasks all task there =
    (lane_so total octets task (All-contains (Handed IsTurn total octets) tasks task all there), refl)

-- more frames were sent
pub handed_more : (IsAt : ℕ → ℕ → Type 0) (total more : ℕ) (octets longer : ℕ → List ℕ) (tasks : List Record)
    → total ≤ more → ((i : ℕ) → i < total → octets i ≡ longer i)
    → All (Handed IsAt total octets) tasks → All (Handed IsAt more longer) tasks
handed_more IsAt total more octets longer tasks low same all =
    All-weaker (Handed IsAt total octets) (Handed IsAt more longer) (λ task hand. record {
      frame = hand.frame;
      within = let h = hand.within in omega arith;
      index = hand.index;
      is_at = hand.is_at;
      is = hand.is ∙ ap (open_task hand.index hand.frame) (same hand.frame hand.within);
    }) tasks all

-- ---- the records of a chunk

-- the record opens a frame of the chunk for the first time
pub record InChunk (total : ℕ) (octets : ℕ → List ℕ) (chunk : ℕ) (task : Record) : Type 0 where
  pub hand : Handed IsTurn total octets task
  pub first_time : hand.is_at.again ≡ 0
  pub ahead : task.index ≡ hand.frame + chunk
  pub low : 256 * chunk ≤ hand.frame
  pub high : hand.frame < 256 * chunk + 256

abbrev pub IsSent : Answer → Type 0
IsSent answer = answer.code ≡ codes_of.PROTECTED

opens_in : (total : ℕ) (octets : ℕ → List ℕ) (chunk from : ℕ) (answers : List Answer) → All IsSent answers
    → from + length answers ≤ total
    → 256 * chunk ≤ from → from + length answers ≤ 256 * chunk + 256
    → ((j : ℕ) → j < length answers → octets (from + j) ≡ (at answers j).body)
    → All (InChunk total octets chunk) (open_tasks chunk from answers)
    × (length (open_tasks chunk from answers) ≡ length answers)
opens_in total octets chunk from [] sent most low high same = (All-nil (InChunk total octets chunk), refl)
opens_in total octets chunk from (answer ∷ answers) sent most low high same =
    let rest = opens_in total octets chunk (from + 1) answers (All-tail IsSent answer answers sent) (omega arith)
    (omega arith) (omega arith)
    (λ j below. (let e : from + 1 + j ≡ from + suc j = omega arith in ap octets e) ∙ same (suc j) (omega arith)) in
    let code = All-head IsSent answer answers sent in
    let yes : (answer.code == codes_of.PROTECTED) ≡ true = eq-eqb answer.code codes_of.PROTECTED code in
    let is : open_tasks chunk from (answer ∷ answers) ≡ open_task (from + chunk) from answer.body ∷ open_tasks chunk
    (from + 1) answers =
    ap (λ (b : Bool). if b then open_task (from + chunk) from answer.body ∷ open_tasks chunk
    (from + 1) answers else open_tasks chunk
    (from + 1) answers) yes in
    let own : octets from ≡ answer.body =
    (let e : from ≡ from + 0 = omega arith in ap octets e) ∙ same 0 (omega arith) in
    let chunk_is : from / 256 ≡ chunk = omega arith in
    let index : from + chunk ≡ from + 0 + from / 256 = omega arith in
    let here : InChunk total octets chunk (open_task (from + chunk) from answer.body) = record {
      hand = record {
        frame = from;
        within = omega arith;
        index = from + chunk;
        is_at = record { again = 0; again_is = inl refl; is = index };
        is = ap (open_task (from + chunk) from) (sym own);
      };
      first_time = refl;
      ahead = refl;
      low = low;
      high = omega arith;
    } in (
      subst (λ (ts : List Record). All (InChunk total octets chunk) ts) (sym is)
          (All-cons (InChunk total octets chunk) _ _ here rest.0),
      ap length is ∙ omega (arith, rest.1),
    )

in_hand : (total : ℕ) (octets : ℕ → List ℕ) (chunk : ℕ) (tasks : List Record) → All (InChunk total octets chunk) tasks
    → All (Handed IsTurn total octets) tasks
in_hand total octets chunk tasks all =
    All-weaker (InChunk total octets chunk) (Handed IsTurn total octets) (λ task is. is.hand) tasks all

in_from : (total : ℕ) (octets : ℕ → List ℕ) (chunk : ℕ) (tasks : List Record) → All (InChunk total octets chunk) tasks
    → All (From (257 * chunk)) tasks
in_from total octets chunk tasks all =
    All-weaker (InChunk total octets chunk) (From (257 * chunk))
    (λ task is. let a = is.ahead in let l = is.low in omega arith) tasks all

in_below : (total : ℕ) (octets : ℕ → List ℕ) (chunk : ℕ) (tasks : List Record) → All (InChunk total octets chunk) tasks
    → All (Below (257 * chunk + 256)) tasks
in_below total octets chunk tasks all =
    All-weaker (InChunk total octets chunk) (Below (257 * chunk + 256))
    (λ task is. let a = is.ahead in let h = is.high in omega arith) tasks all

pub further_below : (bound more : ℕ) (tasks : List Record) → bound ≤ more → All (Below bound) tasks
    → All (Below more) tasks
further_below bound more tasks low all = All-weaker (Below bound) (Below more) (λ task is. omega arith) tasks all

pub further_deeds : (bound more : ℕ) (deeds : List Deed) → bound ≤ more
    → All (λ (deed : Deed). Below bound deed.task) deeds
    → All (λ (deed : Deed). Below more deed.task) deeds
further_deeds bound more deeds low all =
    All-weaker (λ (deed : Deed). Below bound deed.task) (λ (deed : Deed). Below more deed.task)
    (λ deed is. omega arith) deeds all

pub all_right : {A : Type 0} (P : A → Type 0) (xs ys : List A) → All P (xs ++ ys) → All P ys
all_right P [] ys all = all
all_right P (x ∷ xs) ys all = all_right P xs ys (All-tail P x (xs ++ ys) all)

all_left : {A : Type 0} (P : A → Type 0) (xs ys : List A) → All P (xs ++ ys) → All P xs
all_left P [] ys all = All-nil P
all_left P (x ∷ xs) ys all = All-cons P x xs (All-head P x (xs ++ ys) all)
    (all_left P xs ys (All-tail P x (xs ++ ys) all))

pub deeds_answers : (P : Answer → Type 0) (segment : ℕ) (tasks : List Record) (answers : List Answer) → All P answers
    → All (λ (deed : Deed). P deed.answer) (deeds_of segment tasks answers)
deeds_answers P segment [] answers all = All-nil (λ (deed : Deed). P deed.answer)
deeds_answers P segment (task ∷ tasks) [] all = All-nil (λ (deed : Deed). P deed.answer)
deeds_answers P segment (task ∷ tasks) (answer ∷ answers) all =
    All-cons (λ (deed : Deed). P deed.answer) (deed_of segment task answer) (deeds_of segment tasks answers)
    (All-head P answer answers all) (deeds_answers P segment tasks answers (All-tail P answer answers all))

pub bytes_same : (octets : List ℕ) → bytes_eq octets octets ≡ true
bytes_same [] = refl
bytes_same (x ∷ xs) = and_from (nat_eq x x) (bytes_eq xs xs) (eq-eqb x x refl) (bytes_same xs)

-- ---- the receiver

-- the receiver handled the records of the first chunks
pub record TakenAll (begin : Begin) (first now : View) (total chunks : ℕ) (octets : ℕ → List ℕ) : Type 0 where
  pub tasks : List Record
  pub deeds : List Deed
  pub done : Done receiver_layout begin first now tasks deeds
  pub handed : All (Handed IsTurn total octets) tasks
  pub ascend : Ascend tasks
  pub below : All (Below (257 * chunks)) tasks
  pub below_deeds : All (λ (deed : Deed). Below (257 * chunks) deed.task) deeds
  pub few : length tasks ≤ total + chunks

pub none_taken : (begin : Begin) (first : View) (octets : ℕ → List ℕ) → IsJustOpened begin first
    → begin.rows ≡ MOST_KEYS → IsWhole MOST_KEYS first
    → Starts begin receiver_bare (receiving begun (each 0)) → TakenAll begin first first 0 0 octets
none_taken begin first octets opened rows whole starts = record {
  tasks = [];
  deeds = [];
  done = record {
    opened = opened;
    rows = rows;
    handled = handling.handled_nothing receiver_layout begin first [];
    whole = subst (λ (n : ℕ). IsWhole n first) (sym rows) whole;
    plan_is = starts.plan_is;
    rules = starts.rules;
    once = λ index. omega arith;
  };
  handed = All-nil (Handed IsTurn 0 octets);
  ascend = λ i j d before low. absurd (omega arith);
  below = All-nil (Below 0);
  below_deeds = All-nil (λ (deed : Deed). Below 0 deed.task);
  few = omega arith;
}

-- One more chunk, from the frame at its front on. All its frames were sent, and no answer of the receiver says that
-- memory ran out.
module _ (once : OpensOnce) (begin : Begin) (first now mid next : View) (chunk : ℕ) (octets longer : ℕ → List ℕ)
    (numbers : ℕ → ℕ)
    (starts : Starts begin receiver_bare (receiving begun (each 0)))
    (so_far : TakenAll begin first now (256 * chunk) chunk octets)
    (head : Answer) (rest : List Answer) (codes : All IsSent (head ∷ rest)) (short : length (head ∷ rest) ≤ 256)
    (few : 256 * chunk + length
    (head ∷ rest) ≤ 100000)
    (same : (i : ℕ) → i < 256 * chunk → octets i ≡ longer i)
    (own : (j : ℕ) → j < length (head ∷ rest) → longer (256 * chunk + j) ≡ (at (head ∷ rest) j).body)
    (sent : AreSent (256 * chunk + length (head ∷ rest)) numbers longer)
    (opened again : List Answer) (opens : HandlesSegment begin now mid (open_tasks chunk (256 * chunk) (head ∷ rest))
    opened)
    (replays : HandlesSegment begin mid next (replay_tasks chunk (256 * chunk) (head ∷ rest)) again)
    (open_wants : list_any says_no_memory opened ≡ false) (again_wants : list_any says_no_memory again ≡ false) where
  abbrev total : ℕ
  total = 256 * chunk + length (head ∷ rest)

  abbrev new : List Record
  new = open_tasks chunk (256 * chunk) (head ∷ rest)

  in_chunk : All (InChunk total longer chunk) new × (length new ≡ length (head ∷ rest))
  in_chunk = opens_in total longer chunk (256 * chunk) (head ∷ rest) codes (omega arith) (omega arith) (omega arith) own

  abbrev old : List Record
  old = so_far.tasks

  old_handed : All (Handed IsTurn total longer) old
  old_handed = handed_more IsTurn (256 * chunk) total octets longer old (omega arith) same so_far.handed

  handed_mid : All (Handed IsTurn total longer) (old ++ new)
  handed_mid = All-append (Handed IsTurn total longer) old new old_handed (in_hand total longer chunk new in_chunk.0)

  abbrev old_deeds : List Deed
  old_deeds = so_far.deeds

  abbrev new_deeds : List Deed
  new_deeds = deeds_of 0 new opened

  done_mid : Done receiver_layout begin first mid (old ++ new) (old_deeds ++ new_deeds)
  done_mid =
      done_more receiver_layout begin first now mid old new old_deeds new_deeds (257 * chunk) so_far.done
      (opens.handled receiver_layout 0 (lies_so total longer new (in_hand total longer chunk new in_chunk.0)))
      opens.whole
      so_far.ascend (open_ascends chunk (256 * chunk) (head ∷ rest)) so_far.below
      (in_from total longer chunk new in_chunk.0)
      so_far.below_deeds (deeds_all (From (257 * chunk)) 0 new opened (in_from total longer chunk new in_chunk.0))

  few_mid : length (old ++ new) ≤ 200000
  few_mid = let a = so_far.few in let b = in_chunk.1 in let c = length-append old new in omega arith

  all_opened : length opened ≡ length new
  all_opened =
      let e = few_made IsTurn once receiver_layout begin first mid (old ++ new) _ done_mid starts.plan starts.start
      total few_mid numbers longer sent handed_mid (all_lanes total longer (old ++ new) handed_mid) in
      all_answered begin now mid new opened opens.full opens.ends (omega arith)

  -- the first frame again
  abbrev repeated : Record
  repeated = open_task (256 * chunk + 256 + chunk) (256 * chunk) head.body

  again_is : replay_tasks chunk (256 * chunk) (head ∷ rest) ≡ repeated ∷ []
  again_is = ap (λ (b : Bool). if b then repeated ∷ [] else [])
      (eq-eqb head.code codes_of.PROTECTED (All-head IsSent head rest codes))

  repeated_hand : Handed IsTurn total longer repeated
  repeated_hand =
      let chunk_is : (256 * chunk) / 256 ≡ chunk = omega arith in
      let index : 256 * chunk + 256 + chunk ≡ 256 * chunk + 256 + 256 * chunk / 256 = omega arith in
      let body : longer (256 * chunk) ≡ head.body = (let e : 256 * chunk ≡ 256 * chunk + 0 = omega arith in ap longer e)
      ∙ own 0 (omega arith) in
      record {
        frame = 256 * chunk;
        within = omega arith;
        index = 256 * chunk + 256 + chunk;
        is_at = record { again = 256; again_is = inr (refl, omega arith); is = index };
        is = ap (open_task (256 * chunk + 256 + chunk) (256 * chunk)) (sym body);
      }

  one_handed : All (Handed IsTurn total longer) (repeated ∷ [])
  one_handed = All-cons (Handed IsTurn total longer) repeated [] repeated_hand (All-nil (Handed IsTurn total longer))

  replays_one : HandlesSegment begin mid next (repeated ∷ []) again
  replays_one = subst (λ (ts : List Record). HandlesSegment begin mid next ts again) again_is replays

  abbrev every : List Record
  every = (old ++ new) ++ repeated ∷ []

  abbrev every_deed : List Deed
  every_deed = (old_deeds ++ new_deeds) ++ deeds_of 0 (repeated ∷ []) again

  handed_all : All (Handed IsTurn total longer) every
  handed_all = All-append (Handed IsTurn total longer) (old ++ new) (repeated ∷ []) handed_mid one_handed

  mid_ascend : Ascend (old ++ new)
  mid_ascend =
      ascend_then (257 * chunk) old new so_far.below (in_from total longer chunk new in_chunk.0) so_far.ascend
      (open_ascends chunk (256 * chunk) (head ∷ rest))

  mid_below : All (Below (257 * chunk + 256)) (old ++ new)
  mid_below = All-append (Below (257 * chunk + 256)) old new
      (further_below (257 * chunk) (257 * chunk + 256) old (omega arith) so_far.below)
      (in_below total longer chunk new in_chunk.0)

  mid_deeds_below : All (λ (deed : Deed). Below (257 * chunk + 256) deed.task) (old_deeds ++ new_deeds)
  mid_deeds_below =
      All-append (λ (deed : Deed). Below (257 * chunk + 256) deed.task) old_deeds new_deeds
      (further_deeds (257 * chunk) (257 * chunk + 256) old_deeds (omega arith) so_far.below_deeds)
      (deeds_all (Below (257 * chunk + 256)) 0 new opened (in_below total longer chunk new in_chunk.0))

  one_from : All (From (257 * chunk + 256)) (repeated ∷ [])
  one_from = All-cons (From (257 * chunk + 256)) repeated [] (omega arith) (All-nil (From (257 * chunk + 256)))

  one_ascend : Ascend (repeated ∷ [])
  one_ascend = λ i j d before low. absurd (omega arith)

  done_all : Done receiver_layout begin first next every every_deed
  done_all =
      done_more receiver_layout begin first mid next (old ++ new) (repeated ∷ []) (old_deeds ++ new_deeds)
      (deeds_of 0 (repeated ∷ []) again)
      (257 * chunk + 256) done_mid
      (replays_one.handled receiver_layout 0 (lies_so total longer (repeated ∷ []) one_handed)) replays_one.whole
      mid_ascend one_ascend
      mid_below one_from mid_deeds_below (deeds_all (From (257 * chunk + 256)) 0 (repeated ∷ []) again one_from)

  few_all : length every ≤ 200000
  few_all = let a = so_far.few in let b = in_chunk.1 in let c = length-append old new in let d =
      length-append (old ++ new) (repeated ∷ []) in omega arith

  all_again : length again ≡ 1
  all_again =
      let e = few_made IsTurn once receiver_layout begin first next every _ done_all starts.plan starts.start
      total few_all numbers longer sent handed_all (all_lanes total longer every handed_all) in
      all_answered begin mid next (repeated ∷ []) again replays_one.full replays_one.ends (omega arith)

  -- ---- what is counted

  abbrev Opened : Record → Answer → Type 0
  Opened task answer = WasOpened IsTurn once receiver_layout begin first next every every_deed done_all starts.plan
      starts.start
      total few_all numbers longer sent handed_all (all_lanes total longer every handed_all) task
      (task.index - chunk) answer

  abbrev FitsHere : Deed → Type 0
  FitsHere deed = Fits (near IsTurn once receiver_layout begin first next every every_deed done_all starts.plan
      starts.start
      total few_all numbers longer sent handed_all (all_lanes total longer every handed_all))
      (course_in begin next) deed.task deed.answer

  all_fit : All FitsHere every_deed
  all_fit = fits IsTurn once receiver_layout begin first next every every_deed done_all starts.plan starts.start
      total few_all numbers longer sent handed_all (all_lanes total longer every handed_all)

  -- a record that was answered well tells its entry
  abbrev Tells : Record → Answer → Type 0
  Tells task answer = TellsEntry IsTurn once receiver_layout begin first next every every_deed done_all starts.plan
      starts.start
      total few_all numbers longer sent handed_all (all_lanes total longer every handed_all) task answer

  tells_so : (deed : Deed) → Handed IsTurn total longer deed.task → FitsHere deed → IsGood deed.answer
      → Tells deed.task deed.answer
  tells_so deed hand fit good =
      entry_told IsTurn once receiver_layout begin first next every every_deed done_all starts.plan starts.start
      total few_all numbers longer sent handed_all
      (all_lanes total longer every handed_all) deed.task hand deed.answer fit good.no_fault good.not_stopped
      good.not_wanting

  among_new : All (Contains every) new
  among_new =
      All-weaker (Contains new) (Contains every)
      (λ task there. Contains-append_left (old ++ new) (repeated ∷ []) task (Contains-append_right old new task there))
      new (All-contains_itself new)

  opened_all : All (λ (deed : Deed). Opened deed.task deed.answer) new_deeds
  opened_all j d low =
      let deed = get_or new_deeds j d in
      let is = deeds_all (InChunk total longer chunk) 0 new opened in_chunk.0 j d low in
      let good = deeds_answers IsGood 0 new opened (all_good opened opens.quiet open_wants) j d low in
      let there = deeds_all (Contains every) 0 new opened among_new j d low in
      let fit = all_right FitsHere old_deeds new_deeds
      (all_left FitsHere (old_deeds ++ new_deeds) (deeds_of 0 (repeated ∷ []) again) all_fit) j d low in
      let ahead = is.ahead in
      let frame : is.hand.frame ≡ deed.task.index - chunk = omega arith in
      subst (λ (i : ℕ). WasOpened IsTurn once receiver_layout begin first next every every_deed done_all starts.plan
      starts.start
      total few_all numbers longer sent handed_all (all_lanes total longer every handed_all) deed.task i deed.answer)
      frame
      (opened_by IsTurn once receiver_layout begin first next every every_deed done_all starts.plan starts.start
      total few_all numbers longer sent handed_all (all_lanes total longer every handed_all)
      (λ frame index turn. turn) deed.task is.hand deed.answer is.first_time there
      (tells_so deed is.hand fit good))

  -- the first frame, when it was opened for the first time
  abbrev first_open : Record
  first_open = open_task (256 * chunk + chunk) (256 * chunk) head.body

  new_is : new ≡ first_open ∷ open_tasks chunk (256 * chunk + 1) rest
  new_is =
      ap (λ (b : Bool). if b then first_open ∷ open_tasks chunk (256 * chunk + 1) rest else open_tasks chunk
      (256 * chunk + 1) rest)
      (eq-eqb head.code codes_of.PROTECTED (All-head IsSent head rest codes))

  first_hand : Handed IsTurn total longer first_open
  first_hand =
      let chunk_is : (256 * chunk) / 256 ≡ chunk = omega arith in
      let index : 256 * chunk + chunk ≡ 256 * chunk + 0 + 256 * chunk / 256 = omega arith in
      let body : longer (256 * chunk) ≡ head.body = (let e : 256 * chunk ≡ 256 * chunk + 0 = omega arith in ap longer e)
      ∙ own 0 (omega arith) in
      record {
        frame = 256 * chunk;
        within = omega arith;
        index = 256 * chunk + chunk;
        is_at = record { again = 0; again_is = inl refl; is = index };
        is = ap (open_task (256 * chunk + chunk) (256 * chunk)) (sym body);
      }

  abbrev OpenedFrame : Record → ℕ → Answer → Type 0
  OpenedFrame task frame answer =
      WasOpened IsTurn once receiver_layout begin first next every every_deed done_all starts.plan starts.start
      total few_all numbers longer sent handed_all (all_lanes total longer every handed_all) task frame answer

  first_opened : OpenedFrame first_open (256 * chunk) (at opened 0)
  first_opened =
      let dummy : Deed = deed_of 0 first_open blank in
      let long = deeds_long 0 new opened all_opened in
      let many = in_chunk.1 in
      let is = opened_all 0 dummy (omega arith) in
      let deed = deed_at 0 new opened 0 dummy first_open blank all_opened (omega arith) in
      let task : get_or new 0 first_open ≡ first_open = ap (λ (ts : List Record). get_or ts 0 first_open) new_is in
      let there : Opened first_open (at opened 0) =
      subst (λ (t : Record). Opened t (at opened 0)) task (subst (λ (d : Deed). Opened d.task d.answer) deed is) in
      let frame : 256 * chunk + chunk - chunk ≡ 256 * chunk = omega arith in
      subst (λ (i : ℕ). OpenedFrame first_open i (at opened 0)) frame there

  first_among : Contains every first_open
  first_among = All-head (Contains every) first_open (open_tasks chunk (256 * chunk + 1) rest)
      (subst (λ (ts : List Record). All
      (Contains every) ts) new_is among_new)

  repeated_among : Contains every repeated
  repeated_among = Contains-append_right (old ++ new) (repeated ∷ []) repeated
      (All-head (Contains (repeated ∷ [])) repeated [] (All-contains_itself
      (repeated ∷ [])))

  again_all : All (λ (deed : Deed). deed.answer.code ≡ codes_of.NUMBER) (deeds_of 0 (repeated ∷ []) again)
  unfolding first_hand repeated_hand
  again_all j d low =
      let deed = get_or (deeds_of 0 (repeated ∷ []) again) j d in
      let is : deed.task ≡ repeated =
      deeds_all (λ (task : Record). task ≡ repeated) 0
      (repeated ∷ []) again (All-cons (λ (task : Record). task ≡ repeated) repeated [] refl (All-nil
      (λ (task : Record). task ≡ repeated))) j d low in
      let good = deeds_answers IsGood 0 (repeated ∷ []) again (all_good again replays.quiet again_wants) j d low in
      let fit = all_right FitsHere (old_deeds ++ new_deeds) (deeds_of 0 (repeated ∷ []) again) all_fit j d low in
      let hand : Handed IsTurn total longer deed.task =
      subst (λ (t : Record). Handed IsTurn total longer t) (sym is) repeated_hand in
      let tells : Tells repeated deed.answer =
      subst (λ (t : Record). Tells t deed.answer) is (tells_so deed hand fit good) in
      replayed_by IsTurn once receiver_layout begin first next every every_deed done_all starts.plan starts.start
      total few_all numbers longer sent handed_all (all_lanes total longer every handed_all) first_open repeated
      first_hand repeated_hand deed.answer
      (at opened 0)
      first_among repeated_among refl (omega arith) first_opened tells

  -- ---- the counts

  again_codes : All (λ (answer : Answer). answer.code ≡ codes_of.NUMBER) again
  again_codes = answers_all (λ (answer : Answer). answer.code ≡ codes_of.NUMBER) 0
      (repeated ∷ []) again all_again again_all

  open_codes : All (λ (answer : Answer). answer.code ≡ codes_of.ACCEPTED) opened
  open_codes = answers_all (λ (answer : Answer). answer.code ≡ codes_of.ACCEPTED) 0 new opened all_opened
      (All-weaker (λ (deed : Deed). Opened deed.task deed.answer)
      (λ (deed : Deed). deed.answer.code ≡ codes_of.ACCEPTED)
      (λ deed is. is.code) new_deeds opened_all)

  gives_so : (task : Record) (answer : Answer) → Opened task answer → gives_field (task.index - chunk) answer ≡ true
  gives_so task answer is =
      and_from (answer.code == codes_of.ACCEPTED) (bytes_eq answer.body (data_field (task.index - chunk)))
      (eq-eqb answer.code codes_of.ACCEPTED is.code)
      (ap (λ (octets_given : List ℕ). bytes_eq octets_given (data_field (task.index - chunk))) is.body
      ∙ bytes_same (data_field (task.index - chunk)))

  accepted_new : count_accepted chunk new opened ≡ length (head ∷ rest)
  accepted_new =
      let pairs = pairs_all (λ (task : Record) (answer : Answer). gives_field (task.index - chunk) answer ≡ true) 0 new
      opened
      (All-weaker (λ (deed : Deed). Opened deed.task deed.answer)
      (λ (deed : Deed). gives_field (deed.task.index - chunk) deed.answer ≡ true)
      (λ deed is. gives_so deed.task deed.answer is) new_deeds opened_all) in
      all_counted (λ (p : Record × Answer). gives_field (p.0.index - chunk) p.1) (zip new opened) pairs
      ∙ (zip_long new opened (sym all_opened) ∙ in_chunk.1)

  accepted_again : count_fields (256 * chunk) again ≡ 0
  accepted_again =
      none_counted (gives_field (256 * chunk)) again
      (All-weaker (λ (answer : Answer). answer.code ≡ codes_of.NUMBER)
      (λ (answer : Answer). gives_field (256 * chunk) answer ≡ false)
      (λ answer is. and_left (answer.code == codes_of.ACCEPTED) (bytes_eq answer.body (data_field (256 * chunk))) (ap
      (λ (c : ℕ). c == codes_of.ACCEPTED) is)) again again_codes)

  rejected_new : count_code codes_of.NUMBER opened ≡ 0
  rejected_new =
      none_counted (λ (answer : Answer). answer.code == codes_of.NUMBER) opened
      (All-weaker (λ (answer : Answer). answer.code ≡ codes_of.ACCEPTED)
      (λ (answer : Answer). (answer.code == codes_of.NUMBER) ≡ false)
      (λ answer is. ap (λ (c : ℕ). c == codes_of.NUMBER) is) opened open_codes)

  rejected_again : count_code codes_of.NUMBER again ≡ 1
  rejected_again =
      all_counted (λ (answer : Answer). answer.code == codes_of.NUMBER) again
      (All-weaker (λ (answer : Answer). answer.code ≡ codes_of.NUMBER)
      (λ (answer : Answer). (answer.code == codes_of.NUMBER) ≡ true)
      (λ answer is. ap (λ (c : ℕ). c == codes_of.NUMBER) is) again again_codes) ∙ all_again

  pub taken_chunk : TakenAll begin first next total (chunk + 1) longer
  taken_chunk = record {
    tasks = every;
    deeds = every_deed;
    done = done_all;
    handed = handed_all;
    ascend = ascend_then (257 * chunk + 256) (old ++ new) (repeated ∷ []) mid_below one_from mid_ascend one_ascend;
    below = All-append (Below (257 * (chunk + 1))) (old ++ new) (repeated ∷ [])
        (further_below (257 * chunk + 256) (257 * (chunk + 1)) (old ++ new)
        (omega arith) mid_below)
        (All-cons (Below (257 * (chunk + 1))) repeated [] (omega arith) (All-nil (Below (257 * (chunk + 1)))));
    below_deeds = All-append (λ (deed : Deed). Below (257 * (chunk + 1)) deed.task) (old_deeds ++ new_deeds)
        (deeds_of 0 (repeated ∷ []) again)
        (further_deeds (257 * chunk + 256) (257 * (chunk + 1)) (old_deeds ++ new_deeds) (omega arith) mid_deeds_below)
        (deeds_all (Below (257 * (chunk + 1))) 0
        (repeated ∷ []) again (All-cons (Below (257 * (chunk + 1))) repeated [] (omega arith) (All-nil (Below
        (257 * (chunk + 1))))));
    few = let a = so_far.few in let b = in_chunk.1 in let c = length-append old new in let d =
        length-append (old ++ new) (repeated ∷ []) in omega arith;
  }

  pub accepted_all : count_accepted chunk new opened + count_fields (256 * chunk) again ≡ length (head ∷ rest)
  accepted_all = let a = accepted_new in let b = accepted_again in omega arith

  pub rejected_all : count_code codes_of.NUMBER opened + count_code codes_of.NUMBER again ≡ 1
  rejected_all = let a = rejected_new in let b = rejected_again in omega arith
