-- What one unit of a drill did so far, segment by segment, and that it is a sound run: for `RunsSoundly`.
use Rattle.std.proofs.Common.{◌≡◌, ℕ, zero, suc, ◌+◌, ◌*◌, ◌<◌, ◌≤◌, Bool, false, List, [], ◌∷◌, ◌++◌, length, map}
use Rattle.std.proofs.Common.{get_or, refl, sym, ◌∙◌, ap, subst, arith, append-nil}
use Rattle.std.specs.Prelude.{◌||◌}
use Rattle.std.specs.List.{All, AllPairs, list_any}
use Rattle.std.proofs.lemmas.List.{length-append, length-map}
use Rattle.std.proofs.lemmas.List.Elements.{All-append, All-map, All-nil}
use Rattle.std.proofs.lemmas.List.Folds.{list_any-append}
use Rattle.std.proofs.lemmas.Option.{slice_get_within}
use Rattle.sdls_base.specs.declared.TheConstants.{MOST_KEYS}
use Rattle.counter_table.specs.declared.view.View.{View}
use Rattle.counter_table.specs.Numbers.{amount}
use Rattle.counter_table.specs.Turn.{stands}
use Rattle.counter_table.specs.Whole.{IsWhole, RowStands}
use Rattle.unit_image.specs.Beginning.{image_of_plan}
use Rattle.law_image.proofs.Planned.{plan_rules}
use Rattle.law_image.proofs.Ruled.{shown_left, shown_rules}
use Rattle.law_runs.specs.AtEnd.{EndsRun, course_at_end}
use Rattle.law_runs.specs.Doing.{HasDone, IsBefore, IsFounded, IsSegment}
use Rattle.law_runs.proofs.Assembled.{sound_run}
use Rattle.law_runs.proofs.Doing.{ends_run}
use Rattle.law_runs.proofs.Placed.{answers_all, records_both, records_length}
use Rattle.law_runs.proofs.Stepping.{goes_on}
use Rattle.law_workers.specs.Deeds.{Ascend, deeds_of}
use Rattle.law_workers.specs.Opened.{IsJustOpened}
use Rattle.law_workers.specs.Order.{Handled, Layout, LiesIn, Lined, TakeTurns}
use Rattle.law_workers.specs.Views.{entries_in, log_of}
use Rattle.law_workers.proofs.Counting.{few_entries}
use Rattle.law_workers.proofs.Joining.{does_nothing}
use Rattle.record_io.specs.declared.answers.Answer.{Answer}
use Rattle.record_io.specs.declared.item_cursor.Record.{Record}
use Rattle.record_io.specs.Answers.{IsAnswer}
use Rattle.record_io.specs.Places.{Place, records_of}
use Rattle.run_promise.specs.Account.{deeds_from}
use Rattle.run_promise.specs.Call.{Begin}
use Rattle.run_promise.specs.History.{drawers}
use Rattle.run_promise.specs.Sound.{IsSound}
use Rattle.unit_image.specs.Image.{held}
use Rattle.unit_drill.specs.Chunks.{HandlesSegment, UnitIsOpened}
use Rattle.unit_drill.specs.UnitRun.{RunsSoundly, in_segment, says_fault}
use Rattle.unit_drill.proofs.Lists.{Below, From, ascend_then}
use Rattle.unit_drill.proofs.OpenedChunks.{further_below}
use Rattle.unit_drill.proofs.Sending.{drawers_few}
use Rattle.unit_drill.proofs.SentChunks.{all_answered}
use Rattle.unit_drill.proofs.Tasks.{IsPlain}

-- ---- places and their records

task_there : (places : List Place) (k : ℕ) (d : Place) → get_or (records_of places) k d.task ≡ (get_or places k d).task
task_there [] k d = refl
task_there (place ∷ places) zero d = refl
task_there (place ∷ places) (suc k) d = task_there places k d

-- what holds of the records holds of the places
places_all : (P : Record → Type 0) (places : List Place) → All P (records_of places)
    → All (λ (place : Place). P place.task) places
places_all P places all k d low =
    let size = records_length places in subst P (task_there places k d) (all k d.task (omega arith))

places_up : (places : List Place) → Ascend (records_of places) → AllPairs IsBefore places
places_up places up i j d before low =
    let size = records_length places in
    let one : (get_or (records_of places) i d.task).index ≡ (get_or places i d).task.index =
    ap (λ (t : Record). t.index) (task_there places i d) in
    let other : (get_or (records_of places) j d.task).index ≡ (get_or places j d).task.index =
    ap (λ (t : Record). t.index) (task_there places j d) in
    let lower : (get_or (records_of places) i d.task).index < (get_or (records_of places) j d.task).index =
    up i j d.task before (omega arith) in
    let e : (get_or places i d).task.index < (get_or places j d).task.index = omega arith in e

-- the records of a segment
pub records_in : (segment : ℕ) (tasks : List Record) → records_of (map (in_segment segment) tasks) ≡ tasks
records_in segment [] = refl
records_in segment (task ∷ tasks) = ap (λ (ts : List Record). task ∷ ts) (records_in segment tasks)

-- ---- what is known of a run without releases

abbrev words_in : View → ℕ → ℕ
words_in now row = 1 + amount row now.numbers.added

ended : (begin : Begin) (first now : View) (places : List Place) (answers : List Answer) → IsFounded begin first
    → HasDone begin first now places answers
    → IsWhole begin.rows now → AllPairs IsBefore places
    → EndsRun begin first now places (deeds_from places answers) (words_in now) [] now.turn.known.faults
ended begin first now places answers founded done whole up =
    ends_run begin first now places answers founded done whole up (words_in now)
    (λ row low. let (next, stand) =
    whole.rows row low in subst (λ (n : ℕ). RowStands row n now.numbers) stand.grown stand)
    [] (λ p entry high there. absurd (
    let low = slice_get_within (entries_in now ++ []) p entry there in
    let size = ap length (append-nil (entries_in now)) in omega arith))
    now.turn.known.faults (omega arith) (λ rose. refl)

-- at most two entries a record
few_made : (begin : Begin) (first now : View) (places : List Place) (answers : List Answer) → IsFounded begin first
    → HasDone begin first now places answers
    → IsWhole begin.rows now → AllPairs IsBefore places → length (entries_in now) ≤ 2 * length places
few_made begin first now places answers founded done whole up =
    let e = ended begin first now places answers founded done whole up in
    let made = few_entries begin first now (records_of places) (deeds_from places answers) e.does e.whole
    (λ x. ap (stands x) done.none_made)
    (length (records_of places) + drawers (records_of places)) e.lined.few_entries in
    let drawn = drawers_few (records_of places) in
    let size = records_length places in
    omega arith

-- ---- segment by segment

-- The unit handled the records of these places, and gave one answer for each. Their numbers ascend, below a bound.
pub record RanSoFar (begin : Begin) (first now : View) (bound : ℕ) (places : List Place) (answers : List Answer) : Type
    0 where
  pub done : HasDone begin first now places answers
  pub answered : length answers ≡ length places
  pub whole : IsWhole MOST_KEYS now
  pub up : Ascend (records_of places)
  pub below : All (Below bound) (records_of places)
  pub plain : All IsPlain (records_of places)
  pub quiet : list_any says_fault answers ≡ false
  pub widths : All IsAnswer answers

-- nothing yet
pub none_ran : (begin : Begin) (first : View) → IsJustOpened begin first → IsWhole MOST_KEYS first
    → RanSoFar begin first first 0 [] []
none_ran begin first opened whole = record {
  done = record {
    none_made = opened.none_made;
    does = does_nothing begin first [];
    lined = λ layout lies. (
      0,
      subst (λ (made : List ℕ). Lined (TakeTurns layout) (log_of first) made 0 0) (sym opened.none_made) (record {
        in_order = λ x other i j a b c d e f. absurd (omega arith);
        few_entries = omega arith;
        few_pieces = omega arith;
      }),
    );
  };
  answered = refl;
  whole = whole;
  up = λ i j d before low. absurd (omega arith);
  below = All-nil (Below 0);
  plain = All-nil IsPlain;
  quiet = refl;
  widths = All-nil IsAnswer;
}

-- a segment more
module _ (begin : Begin) (first now next : View) (bound further segment : ℕ) (places : List Place)
    (answers : List Answer)
    (tasks : List Record) (more : List Answer) (founded : IsFounded begin first)
    (so_far : RanSoFar begin first now bound places answers)
    (serves : HandlesSegment begin now next tasks more) (from : All (From bound) tasks)
    (below : All (Below further) tasks) (wider : bound ≤ further)
    (ascend : Ascend tasks) (plain : All IsPlain tasks) (few : length places + length tasks ≤ 400000) where
  abbrev new : List Place
  new = map (in_segment segment) tasks

  handled_new : (layout : Layout) → LiesIn layout segment (records_of new)
      → Handled layout begin now next (records_of new) (deeds_of segment (records_of new) more)
  handled_new =
      subst (λ (ts : List Record). (layout : Layout) → LiesIn layout segment ts
      → Handled layout begin now next ts (deeds_of segment ts more))
      (sym (records_in segment tasks)) (λ layout lies. serves.handled layout segment lies)

  new_segment : IsSegment segment places new
  new_segment = record {
    next = bound;
    low = places_all (Below bound) places so_far.below;
    high = All-map (λ (place : Place). bound ≤ place.task.index) (in_segment segment) tasks from;
    of = All-map (λ (place : Place). place.segment ≡ segment) (in_segment segment) tasks (λ k d low. refl);
    up = places_up new (subst Ascend (sym (records_in segment tasks)) ascend);
  }

  done_more : HasDone begin first next (places ++ new) (answers ++ more)
  done_more =
      goes_on begin first now next next places new answers more segment so_far.done so_far.answered
      (subst (λ (rows : ℕ). IsWhole rows now) (sym founded.rows) so_far.whole) new_segment handled_new
      (record { does = does_nothing begin next []; entries = refl })

  tasks_are : records_of (places ++ new) ≡ records_of places ++ tasks
  tasks_are = records_both places new ∙ ap (λ (ts : List Record). records_of places ++ ts) (records_in segment tasks)

  up_more : Ascend (records_of (places ++ new))
  up_more = subst Ascend (sym tasks_are)
      (ascend_then bound (records_of places) tasks so_far.below from so_far.up ascend)

  many_places : length (places ++ new) ≡ length places + length tasks
  many_places =
      let all = length-append places new in
      let own = length-map tasks (in_segment segment) in omega arith

  -- the history is not full, so each record has its answer
  pub all_given : length more ≡ length tasks
  all_given =
      let made = few_made begin first next (places ++ new) (answers ++ more) founded done_more
      (subst (λ (rows : ℕ). IsWhole rows next) (sym founded.rows) serves.whole) (places_up (places ++ new) up_more) in
      let many = many_places in
      all_answered begin now next tasks more serves.full serves.ends (omega arith)

  pub ran_more : RanSoFar begin first next further (places ++ new) (answers ++ more)
  ran_more = record {
    done = done_more;
    answered = (
        let given = all_given in
        let before = so_far.answered in
        let all = length-append answers more in
        let many = many_places in omega arith);
    whole = serves.whole;
    up = up_more;
    below = subst (λ (ts : List Record). All (Below further) ts) (sym tasks_are)
        (All-append (Below further) (records_of places) tasks
        (further_below bound further (records_of places) wider so_far.below) below);
    plain = subst (λ (ts : List Record). All IsPlain ts) (sym tasks_are)
        (All-append IsPlain (records_of places) tasks so_far.plain plain);
    quiet = list_any-append says_fault answers more
        ∙ (ap (λ (b : Bool). b || list_any says_fault more) so_far.quiet ∙ serves.quiet);
    widths = All-append IsAnswer answers more so_far.widths serves.widths;
  }

-- ---- the whole run

pub founded_so : (plan : List ℕ) (begin : Begin) (first : View) → UnitIsOpened plan begin first → IsFounded begin first
founded_so plan begin first opened = record {
  rows = opened.began.rows;
  plan_is = plan_rules (held (image_of_plan plan opened.lines opened.first)).plan begin.plan opened.says;
  rules = shown_rules (image_of_plan plan opened.lines opened.first) begin.start opened.shows;
  left = shown_left (image_of_plan plan opened.lines opened.first) begin.start opened.shows;
  opened = opened.opened;
}

sound_so : (begin : Begin) (first now : View) (bound : ℕ) (places : List Place) (answers : List Answer)
    → IsFounded begin first
    → RanSoFar begin first now bound places answers → IsSound (course_at_end begin now [] now.turn.known.faults) places
    (deeds_from places answers)
sound_so begin first now bound places answers founded ran =
    let e = ended begin first now places answers founded ran.done
    (subst (λ (rows : ℕ). IsWhole rows now) (sym founded.rows) ran.whole)
    (places_up places ran.up) in
    sound_run begin first now places (deeds_from places answers) e.opened e.does e.whole e.rows e.plan_is e.rules e.left
    (words_in now) e.words_are [] e.releases_are
    e.pieces e.lined e.once e.ascend now.turn.known.faults e.fewer e.stopped
    (answers_all IsAnswer places answers ran.widths)

pub runs_soundly : (plan : List ℕ) (begin : Begin) (first now : View) (bound : ℕ) (places : List Place)
    (answers : List Answer)
    → UnitIsOpened plan begin first → RanSoFar begin first now bound places answers → RunsSoundly plan places answers
runs_soundly plan begin first now bound places answers opened ran = record {
  lines = opened.lines;
  first = opened.first;
  said = opened.said;
  course = course_at_end begin now [] now.turn.known.faults;
  says = opened.says;
  shows = opened.shows;
  answered = ran.answered;
  quiet = ran.quiet;
  sound = sound_so begin first now bound places answers (founded_so plan begin first opened) ran;
}
