-- The receiver of a drill over a link, chunk by chunk.
use Rattle.std.proofs.Common.{◌≡◌, ℕ, ◌+◌, ◌-◌, ◌*◌, ◌<◌, ◌≤◌, false, List, [], ◌++◌, length, map, get_or, sym, ◌∙◌, ap}
use Rattle.std.proofs.Common.{subst, arith}
use Rattle.std.specs.Prelude.{slice_get}
use Rattle.std.specs.List.{All, list_any}
use Rattle.std.proofs.lemmas.List.{length-append, length-map}
use Rattle.std.proofs.lemmas.List.Elements.{All-append, All-nil, All-weaker}
use Rattle.sdls_base.specs.declared.TheConstants.{MOST_KEYS}
use Rattle.link_world.specs.Chunk.{deliveries}
use Rattle.link_world.proofs.Chunks.{delivered_low}
use Rattle.link_world.proofs.Counting.{few_delivered}
use Rattle.record_io.specs.declared.answers.Answer.{Answer}
use Rattle.record_io.specs.declared.code.TheConstants as codes_of
use Rattle.record_io.specs.declared.item_cursor.Record.{Record}
use Rattle.counter_table.specs.declared.view.View.{View}
use Rattle.counter_table.specs.Whole.{IsWhole}
use Rattle.run_promise.specs.Fits.{Fits}
use Rattle.run_promise.specs.Call.{Begin}
use Rattle.run_promise.specs.Deed.{Deed, deed_of}
use Rattle.law_workers.specs.Deeds.{Ascend, course_in, deeds_of}
use Rattle.law_workers.specs.Opened.{IsJustOpened}
use Rattle.law_workers.proofs.Handling as handling
use Rattle.unit_drill.specs.Arriving.{arrived_frames, arrived_task, arrived_tasks, octets_in}
use Rattle.unit_drill.specs.Counting.{count_code, count_given}
use Rattle.unit_drill.specs.Chunks.{HandlesSegment}
use Rattle.unit_drill.specs.UnitRun.{says_no_memory}
use Rattle.unit_drill.proofs.Read.{receiver_bare}
use Rattle.unit_drill.proofs.Judging.{receiving}
use Rattle.unit_drill.proofs.Lanes.{begun, each}
use Rattle.unit_drill.proofs.Lists.{Below, From, ascend_then, deed_at, deeds_all, deeds_long}
use Rattle.unit_drill.proofs.Beginnings.{Starts}
use Rattle.unit_drill.proofs.OpenedChunks.{IsSent, all_right, deeds_answers, further_below, further_deeds, handed_more}
use Rattle.unit_drill.proofs.Opening.{OpensOnce}
use Rattle.unit_drill.proofs.Receiving.{AreSent, Handed, TellsEntry, entry_told, few_made, fits, judged_by, near}
use Rattle.unit_drill.proofs.Sending.{Done}
use Rattle.unit_drill.proofs.SentChunks.{IsGood, all_answered, all_good, at, blank, done_more}
use Rattle.unit_drill.proofs.Tasks.{OnLane, drill_layout, drill_lies}
use Rattle.unit_drill.proofs.ArrivedFrames.{frames_are}
use Rattle.unit_drill.proofs.ArrivedRecords.{Any, arrived_ascends, arrived_below, arrived_from, arrived_handed}
use Rattle.unit_drill.proofs.ArrivedRecords.{arrived_lanes, many_tasks, number_at, one_handed, task_at}
use Rattle.unit_drill.proofs.Told.{IsJudged, all_told}

-- the receiver handled the records of the first chunks
pub record TakenLink (begin : Begin) (first now : View) (total chunks : ℕ) (octets : ℕ → List ℕ) : Type 0 where
  pub tasks : List Record
  pub deeds : List Deed
  pub done : Done (drill_layout 0) begin first now tasks deeds
  pub handed : All (Handed Any total octets) tasks
  pub lanes : All (OnLane 0) tasks
  pub ascend : Ascend tasks
  pub below : All (Below (4 * (1024 * chunks))) tasks
  pub below_deeds : All (λ (deed : Deed). Below (4 * (1024 * chunks)) deed.task) deeds
  pub few : length tasks ≤ 2 * total

pub none_taken : (begin : Begin) (first : View) (octets : ℕ → List ℕ) → IsJustOpened begin first
    → begin.rows ≡ MOST_KEYS → IsWhole MOST_KEYS first
    → Starts begin receiver_bare (receiving begun (each 0)) → TakenLink begin first first 0 0 octets
none_taken begin first octets opened rows whole starts = record {
  tasks = [];
  deeds = [];
  done = record {
    opened = opened;
    rows = rows;
    handled = handling.handled_nothing (drill_layout 0) begin first [];
    whole = subst (λ (n : ℕ). IsWhole n first) (sym rows) whole;
    plan_is = starts.plan_is;
    rules = starts.rules;
    once = λ index. omega arith;
  };
  handed = All-nil (Handed Any 0 octets);
  lanes = All-nil (OnLane 0);
  ascend = λ i j d before low. absurd (omega arith);
  below = All-nil (Below 0);
  below_deeds = All-nil (λ (deed : Deed). Below 0 deed.task);
  few = omega arith;
}

-- One more chunk. All its frames were sent, and no answer of the receiver says that memory ran out.
module _ (once : OpensOnce) (begin : Begin) (first now next : View) (chunk : ℕ) (octets longer : ℕ → List ℕ)
    (numbers : ℕ → ℕ)
    (starts : Starts begin receiver_bare (receiving begun (each 0)))
    (so_far : TakenLink begin first now (256 * chunk) chunk octets)
    (later : List Answer) (codes : All IsSent later) (short : length later ≤ 256)
    (few : 256 * chunk + length later ≤ 100000)
    (same : (i : ℕ) → i < 256 * chunk → octets i ≡ longer i)
    (own : (j : ℕ) → j < length later → longer (256 * chunk + j) ≡ (at later j).body)
    (sent : AreSent (256 * chunk + length later) numbers longer) (opened : List Answer)
    (opens : HandlesSegment begin now next
    (arrived_tasks (1024 * chunk) (256 * chunk) later (arrived_frames (256 * chunk) later)) opened)
    (wants : list_any says_no_memory opened ≡ false) where
  abbrev total : ℕ
  total = 256 * chunk + length later

  abbrev ks : List ℕ
  ks = deliveries (length later)

  abbrev frames : List ℕ
  frames = map (λ (k : ℕ). 256 * chunk + k) ks

  abbrev new : List Record
  new = arrived_tasks (1024 * chunk) (256 * chunk) later frames

  opens_new : HandlesSegment begin now next new opened
  opens_new =
      subst (λ (ns : List ℕ). HandlesSegment begin now next (arrived_tasks (1024 * chunk) (256 * chunk) later ns)
      opened)
      (frames_are (256 * chunk) later codes) opens

  many_frames : length frames ≡ length ks
  many_frames = length-map ks (λ (k : ℕ). 256 * chunk + k)

  many_new : length new ≡ length ks
  many_new = many_tasks (1024 * chunk) (256 * chunk) later frames ∙ many_frames

  few_new : length ks ≤ 2 * length later
  few_new = few_delivered (length later)

  abbrev old : List Record
  old = so_far.tasks

  abbrev every : List Record
  every = old ++ new

  abbrev old_deeds : List Deed
  old_deeds = so_far.deeds

  abbrev new_deeds : List Deed
  new_deeds = deeds_of 0 new opened

  abbrev every_deed : List Deed
  every_deed = old_deeds ++ new_deeds

  handed_new : All (Handed Any total longer) new
  handed_new = arrived_handed total longer (1024 * chunk) (256 * chunk) later ks (delivered_low (length later))
      (omega arith) own

  handed_all : All (Handed Any total longer) every
  handed_all =
      All-append (Handed Any total longer) old new
      (handed_more Any (256 * chunk) total octets longer old (omega arith) same so_far.handed) handed_new

  lanes_new : All (OnLane 0) new
  lanes_new = arrived_lanes (1024 * chunk) (256 * chunk) later frames

  lanes_all : All (OnLane 0) every
  lanes_all = All-append (OnLane 0) old new so_far.lanes lanes_new

  on_lanes : All (λ (task : Record). (drill_layout 0).lane_of task.index ≡ task.lane) every
  on_lanes = All-weaker (OnLane 0) (λ (task : Record). (drill_layout 0).lane_of task.index ≡ task.lane)
      (λ task is. sym is) every lanes_all

  from_new : All (From (4 * (1024 * chunk))) new
  from_new = arrived_from (1024 * chunk) (256 * chunk) later frames

  below_new : All (Below (4 * (1024 * (chunk + 1)))) new
  below_new =
      let a = many_frames in let b = few_new in
      arrived_below (1024 * (chunk + 1)) (1024 * chunk) (256 * chunk) later frames (omega arith)

  ascend_new : Ascend new
  ascend_new = arrived_ascends (1024 * chunk) (256 * chunk) later frames

  done_all : Done (drill_layout 0) begin first next every every_deed
  done_all =
      done_more (drill_layout 0) begin first now next old new old_deeds new_deeds (4 * (1024 * chunk)) so_far.done
      (opens_new.handled (drill_layout 0) 0 (drill_lies 0 new lanes_new)) opens_new.whole so_far.ascend ascend_new
      so_far.below from_new
      so_far.below_deeds (deeds_all (From (4 * (1024 * chunk))) 0 new opened from_new)

  few_old : length every ≤ 2 * total
  few_old = let a = so_far.few in let b = many_new in let c = few_new in let d = length-append old new in omega arith

  few_all : length every ≤ 200000
  few_all = let a = few_old in omega arith

  answered : length opened ≡ length new
  answered =
      let e = few_made Any once (drill_layout 0) begin first next every every_deed done_all starts.plan starts.start
      total few_all numbers longer sent handed_all on_lanes in
      all_answered begin now next new opened opens_new.full opens_new.ends (omega arith)

  abbrev FitsHere : Deed → Type 0
  FitsHere deed = Fits (near Any once (drill_layout 0) begin first next every every_deed done_all starts.plan
      starts.start total few_all numbers longer sent handed_all on_lanes) (course_in begin next) deed.task deed.answer

  all_fit : All FitsHere every_deed
  all_fit = fits Any once (drill_layout 0) begin first next every every_deed done_all starts.plan starts.start total
      few_all numbers longer sent handed_all on_lanes

  abbrev Tells : Record → Answer → Type 0
  Tells task answer = TellsEntry Any once (drill_layout 0) begin first next every every_deed done_all starts.plan
      starts.start total few_all numbers longer sent handed_all on_lanes task answer

  tells_so : (task : Record) (answer : Answer) → Handed Any total longer task → FitsHere (deed_of 0 task answer)
      → IsGood answer → Tells task answer
  tells_so task answer hand fit good =
      entry_told Any once (drill_layout 0) begin first next every every_deed done_all starts.plan starts.start total
      few_all numbers longer sent handed_all on_lanes task hand answer fit good.no_fault good.not_stopped
      good.not_wanting

  -- the record at a place of the chunk
  abbrev number_on : ℕ → ℕ
  number_on j = get_or frames j 0

  abbrev task_on : ℕ → Record
  task_on j = arrived_task (1024 * chunk + j) (number_on j) (octets_in (slice_get later (number_on j - 256 * chunk)))

  hand_on : (j : ℕ) → j < length ks → Handed Any total longer (task_on j)
  unfolding one_handed
  hand_on j low =
      one_handed total longer (1024 * chunk + j) (256 * chunk) later (get_or ks j 0)
      (delivered_low (length later) j 0 low) (omega arith) own (number_on j)
      (number_at (256 * chunk) ks j low)

  judged : (j : ℕ) → j < length frames → IsJudged (number_on j) (at opened j)
  unfolding hand_on one_handed
  judged j low =
      let a = many_frames in
      let b = many_new in
      let c = answered in
      let dummy : Deed = deed_of 0 (task_on j) blank in
      let long = deeds_long 0 new opened answered in
      let deed : get_or new_deeds j dummy ≡ deed_of 0 (task_on j) (at opened j) =
      deed_at 0 new opened j dummy (task_on j) blank answered (omega arith)
      ∙ ap (λ (t : Record). deed_of 0 t (at opened j))
      (task_at (1024 * chunk) (256 * chunk) later frames j (task_on j) low) in
      let fit : FitsHere (deed_of 0 (task_on j) (at opened j)) =
      subst FitsHere deed (all_right FitsHere old_deeds new_deeds all_fit j dummy (omega arith)) in
      let good : IsGood (at opened j) =
      subst (λ (d : Deed). IsGood d.answer) deed
      (deeds_answers IsGood 0 new opened (all_good opened opens_new.quiet wants) j dummy (omega arith)) in
      judged_by Any once (drill_layout 0) begin first next every every_deed done_all starts.plan starts.start total
      few_all numbers longer sent handed_all on_lanes (task_on j) (hand_on j (omega arith)) (at opened j)
      (tells_so (task_on j) (at opened j) (hand_on j (omega arith)) fit good)

  pub told_all : count_given (arrived_frames (256 * chunk) later) opened + count_code codes_of.NUMBER opened
      ≡ length (deliveries (length later))
  told_all =
      let a = many_frames in
      let b = many_new in
      let c = answered in
      let same_frames = ap (λ (ns : List ℕ). count_given ns opened) (frames_are (256 * chunk) later codes) in
      let count = all_told frames opened (omega arith) judged in omega arith

  pub taken_chunk : TakenLink begin first next total (chunk + 1) longer
  taken_chunk = record {
    tasks = every;
    deeds = every_deed;
    done = done_all;
    handed = handed_all;
    lanes = lanes_all;
    ascend = ascend_then (4 * (1024 * chunk)) old new so_far.below from_new so_far.ascend ascend_new;
    below = All-append (Below (4 * (1024 * (chunk + 1)))) old new
        (further_below (4 * (1024 * chunk)) (4 * (1024 * (chunk + 1))) old (omega arith) so_far.below) below_new;
    below_deeds = All-append (λ (deed : Deed). Below (4 * (1024 * (chunk + 1))) deed.task) old_deeds new_deeds
        (further_deeds (4 * (1024 * chunk)) (4 * (1024 * (chunk + 1))) old_deeds (omega arith) so_far.below_deeds)
        (deeds_all (Below (4 * (1024 * (chunk + 1)))) 0 new opened below_new);
    few = few_old;
  }
