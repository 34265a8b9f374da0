-- The lanes of a drill's records, and that their indexes ascend: for what a segment wants, and for the law on a whole
-- drill.
use Rattle.std.proofs.Common.{◌≡◌, ◌≢◌, ℕ, zero, suc, ◌+◌, ◌-◌, ◌%◌, ◌<◌, ◌≤◌, ◌==◌, Bool, true, false, cond, List, []}
use Rattle.std.proofs.Common.{◌∷◌, get_or, refl, sym, ap, arith}
use Rattle.std.specs.List.{All, range_with_len}
use Rattle.std.proofs.lemmas.List.Elements.{All-nil, All-cons, All-map, All-weaker, All-contains}
use Rattle.std.proofs.lemmas.List.FromFn.{get_or-map-range_with_len, length-map-range_with_len}
use Rattle.record_io.specs.declared.answers.Answer.{Answer}
use Rattle.record_io.specs.declared.code.TheConstants.{PROTECTED}
use Rattle.record_io.specs.declared.item_cursor.Record.{Record}
use Rattle.record_io.specs.declared.reader.RecordKind.TheVariants.{Monitor}
use Rattle.record_io.specs.declared.reader.TheConstants.{LANES}
use Rattle.law_workers.specs.Deeds.{Ascend}
use Rattle.law_workers.specs.Order.{Layout, LiesIn}
use Rattle.unit_drill.specs.declared.records.TheConstants.{CHUNK}
use Rattle.unit_drill.specs.Frames.{open_task, open_tasks, protect_task, protect_tasks, replay_tasks}

abbrev pub OnLane : ℕ → Record → Type 0
OnLane ahead task = task.lane ≡ (task.index - ahead) % 4

abbrev pub IsPlain : Record → Type 0
IsPlain task = task.kind ≢ Monitor

pub below_sixteen : (ahead : ℕ) (tasks : List Record) → All (OnLane ahead) tasks
    → All (λ (task : Record). task.lane < LANES) tasks
below_sixteen ahead tasks all =
    All-weaker (OnLane ahead) (λ (task : Record). task.lane < LANES) (λ task is. omega arith) tasks all

-- the records of one segment
abbrev pub drill_layout : ℕ → Layout
drill_layout ahead = record { lane_of = λ index. (index - ahead) % 4; segment_of = λ index. 0 }

pub drill_lies : (ahead : ℕ) (tasks : List Record) → All (OnLane ahead) tasks → LiesIn (drill_layout ahead) 0 tasks
drill_lies ahead tasks all task there = (sym (All-contains (OnLane ahead) tasks task all there), refl)

-- ---- frames to be protected

pub protect_lanes : (first count : ℕ) → All (OnLane 0) (protect_tasks first count)
protect_lanes first count =
    All-map (OnLane 0) protect_task (range_with_len first count)
    (λ k d low. ap (λ (n : ℕ). n % 4)
    (let e : get_or (range_with_len first count) k d ≡ get_or (range_with_len first count) k d - 0 =
    omega arith in e))

pub protect_plain : (first count : ℕ) → All IsPlain (protect_tasks first count)
protect_plain first count = All-map IsPlain protect_task (range_with_len first count)
    (λ k d low is. absurd (let i = is in cc))

pub protect_ascends : (first count : ℕ) → Ascend (protect_tasks first count)
protect_ascends first count i j d before low =
    let many = length-map-range_with_len protect_task first count in
    let one = get_or-map-range_with_len protect_task first count i (first + i) d (omega arith) refl in
    let other = get_or-map-range_with_len protect_task first count j (first + j) d (omega arith) refl in
    let x : (get_or (protect_tasks first count) i d).index ≡ first + i = ap (λ (t : Record). t.index) one in
    let y : (get_or (protect_tasks first count) j d).index ≡ first + j = ap (λ (t : Record). t.index) other in
    omega arith

-- ---- frames to be opened

all_cond : (P : Record → Type 0) (b : Bool) (task : Record) (tasks : List Record) → P task → All P tasks
    → All P (cond b (task ∷ tasks) tasks)
all_cond P true task tasks here all = All-cons P task tasks here all
all_cond P false task tasks here all = all

lane_ahead : (number ahead : ℕ) → number % 4 ≡ (number + ahead - ahead) % 4
lane_ahead number ahead = ap (λ (n : ℕ). n % 4) (let e : number ≡ number + ahead - ahead = omega arith in e)

pub open_lanes : (ahead first : ℕ) (answers : List Answer) → All (OnLane ahead) (open_tasks ahead first answers)
open_lanes ahead first [] = All-nil (OnLane ahead)
open_lanes ahead first (answer ∷ answers) =
    all_cond (OnLane ahead) (answer.code == PROTECTED) (open_task (first + ahead) first answer.body)
    (open_tasks ahead (first + 1) answers)
    (lane_ahead first ahead) (open_lanes ahead (first + 1) answers)

pub open_plain : (ahead first : ℕ) (answers : List Answer) → All IsPlain (open_tasks ahead first answers)
open_plain ahead first [] = All-nil IsPlain
open_plain ahead first (answer ∷ answers) =
    all_cond IsPlain (answer.code == PROTECTED) (open_task (first + ahead) first answer.body)
    (open_tasks ahead (first + 1) answers)
    (λ is. absurd (let i = is in cc)) (open_plain ahead (first + 1) answers)

open_least : (least ahead first : ℕ) (answers : List Answer) → least ≤ first + ahead
    → All (λ (task : Record). least ≤ task.index) (open_tasks ahead first answers)
open_least least ahead first [] low = All-nil (λ (task : Record). least ≤ task.index)
open_least least ahead first (answer ∷ answers) low =
    all_cond (λ (task : Record). least ≤ task.index) (answer.code == PROTECTED)
    (open_task (first + ahead) first answer.body)
    (open_tasks ahead (first + 1) answers) low (open_least least ahead (first + 1) answers (omega arith))

pub ascend_cons : (task : Record) (tasks : List Record) → All (λ (other : Record). task.index < other.index) tasks
    → Ascend tasks → Ascend (task ∷ tasks)
ascend_cons task tasks above up zero zero d before low = absurd (omega arith)
ascend_cons task tasks above up zero (suc j) d before low = above j d (omega arith)
ascend_cons task tasks above up (suc i) zero d before low = absurd (omega arith)
ascend_cons task tasks above up (suc i) (suc j) d before low = up i j d (omega arith) (omega arith)

ascend_cond : (b : Bool) (task : Record) (tasks : List Record)
    → All (λ (other : Record). task.index < other.index) tasks → Ascend tasks
    → Ascend (cond b (task ∷ tasks) tasks)
ascend_cond true task tasks above up = ascend_cons task tasks above up
ascend_cond false task tasks above up = up

none_ascends : Ascend []
none_ascends i j d before low = absurd (omega arith)

pub open_ascends : (ahead first : ℕ) (answers : List Answer) → Ascend (open_tasks ahead first answers)
open_ascends ahead first [] = none_ascends
open_ascends ahead first (answer ∷ answers) =
    ascend_cond (answer.code == PROTECTED) (open_task (first + ahead) first answer.body)
    (open_tasks ahead (first + 1) answers)
    (open_least (suc (first + ahead)) ahead (first + 1) answers (omega arith)) (open_ascends ahead (first + 1) answers)

-- ---- the first of them again

all_one : (P : Record → Type 0) (b : Bool) (task : Record) → P task → All P (cond b (task ∷ []) [])
all_one P true task here = All-cons P task [] here (All-nil P)
all_one P false task here = All-nil P

chunk_later : (first ahead : ℕ) → first % 4 ≡ (first + 256 + ahead - ahead) % 4
chunk_later first ahead = let e : first + 256 + ahead - ahead ≡ first + 256 = omega arith in omega arith

pub replay_lanes : (ahead first : ℕ) (answers : List Answer) → All (OnLane ahead) (replay_tasks ahead first answers)
replay_lanes ahead first [] = All-nil (OnLane ahead)
replay_lanes ahead first (answer ∷ answers) =
    all_one (OnLane ahead) (answer.code == PROTECTED) (open_task (first + CHUNK + ahead) first answer.body)
    (chunk_later first ahead)

pub replay_plain : (ahead first : ℕ) (answers : List Answer) → All IsPlain (replay_tasks ahead first answers)
replay_plain ahead first [] = All-nil IsPlain
replay_plain ahead first (answer ∷ answers) =
    all_one IsPlain (answer.code == PROTECTED) (open_task (first + CHUNK + ahead) first answer.body)
    (λ is. absurd (let i = is in cc))

one_ascends : (b : Bool) (task : Record) → Ascend (cond b (task ∷ []) [])
one_ascends true task = ascend_cons task [] (All-nil (λ (other : Record). task.index < other.index)) none_ascends
one_ascends false task = none_ascends

pub replay_ascends : (ahead first : ℕ) (answers : List Answer) → Ascend (replay_tasks ahead first answers)
replay_ascends ahead first [] = none_ascends
replay_ascends ahead first (answer ∷ answers) =
    one_ascends (answer.code == PROTECTED) (open_task (first + CHUNK + ahead) first answer.body)
