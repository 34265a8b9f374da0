-- One segment more in the loop of a run, whatever its end.
use Rattle.std.proofs.Common.{◌≡◌, ◌≢◌, ◌⊎◌, ℕ, suc, zero, ◌+◌, ◌<◌, ◌≤◌, nat_lt, IsTrue, Bool, true, false, List, []}
use Rattle.std.proofs.Common.{◌∷◌, ◌++◌, length, take, Some, refl, sym, ◌∙◌, ap, subst, inl, inr, arith, cond}
use Rattle.std.proofs.Common.{append-nil, append_assoc, length-append}
use Rattle.std.specs.Prelude.{map}
use Rattle.std.specs.List.{All, AllPairs, Contains, slice_index_or, slice_get}
use Rattle.fsr_log.specs.Noted.{Noted}
use Rattle.std.proofs.lemmas.List.{get_or_append_left, take-append-le, take_at}
use Rattle.std.proofs.lemmas.List.Elements.{All-append, All-cons, All-contains, All-nil, Contains-append_cases}
use Rattle.std.proofs.lemmas.Bool.{cases_lt}
use Rattle.std.proofs.lemmas.Bool.Decides.{nat_tests}
use Rattle.std.proofs.lemmas.Option.{slice_get_within, same_Some}
use Rattle.counter_table.specs.declared.view.View.{View}
use Rattle.counter_table.specs.Whole.{IsWhole}
use Rattle.record_io.specs.declared.answers.Answer.{Answer}
use Rattle.record_io.specs.declared.reader.TheConstants.{LANES}
use Rattle.record_io.specs.declared.item_cursor.Record.{Record}
use Rattle.record_io.specs.Answers.{IsAnswer, answer_octets, answers_octets}
use Rattle.record_io.specs.declared.reader.ItemKind.{ItemKind}
use Rattle.record_io.specs.declared.reader.RecordKind.TheVariants.{Monitor}
use Rattle.sdls_base.specs.declared.entry.Entry.{Entry}
use Rattle.sdls_base.specs.declared.entry.Logged.{Logged}
use Rattle.sdls_base.specs.declared.entry.Logged.TheVariants as lines
use Rattle.key_book.specs.KeyBook.{place_of}
use Rattle.unit_state.specs.History.{after_all}
use Rattle.record_io.specs.Input.{Item, IsItem, LacksNext, beginning}
use Rattle.record_io.specs.Places.{Place, Count, counted, first_count, places_at, places_from, places_of, records_of}
use Rattle.record_io.specs.Reading.{SourceSeen, Standing, IsReading, Loses, ReadsMore, ReadsMonitor, ReadsLast}
use Rattle.record_io.specs.Reading.{HasTaken, first_standing}
use Rattle.record_io.proofs.Placing.{places-append, counted-append}
use Rattle.law_workers.specs.Counts.{is_of_record, count_at}
use Rattle.run_promise.specs.History.{HasNoEntry}
use Rattle.run_promise.specs.Deed.{Deed, is_entered}
use Rattle.run_promise.specs.Sound.{AreReported, noted_of}
use Rattle.run_promise.specs.Fits.{MayAppend}
use Rattle.run_promise.specs.declared.end.TheConstants.{MOST_ENTRIES}
use Rattle.run_promise.specs.Call.{Begin}
use Rattle.law_workers.specs.Views.{IsBetween, entries_in, log_of}
use Rattle.law_workers.specs.Deeds.{Ascend, course_in, deeds_of}
use Rattle.law_workers.specs.Order.{Layout, LiesIn, Handled, Lined, TakeTurns}
use Rattle.law_workers.proofs.Counting.{pieces_both}
use Rattle.law_workers.proofs.Histories.{get_front}
use Rattle.law_workers.proofs.Joining.{does_nothing}
use Rattle.law_workers.proofs.Counted.{counted_nothing}
use Rattle.law_workers.specs.Words.{MovesCounted}
use Rattle.run_promise.specs.OneLane.{OneLane}
use Rattle.law_workers.specs.Alone.{ServedAlone}
use Rattle.run_promise.specs.Log.{pieces_of}
use Rattle.run_promise.specs.declared.end.RunEnd.{RunEnd}
use Rattle.run_promise.specs.declared.end.RunEnd.TheVariants as ends
use Rattle.run_promise.specs.Account.{AreAnswered, answers_of_first, deeds_from, of_first}
use Rattle.law_runs.proofs.Placed.{IsBefore, deeds_both, deeds_of_segment, places_ascend, records_length}
use Rattle.law_runs.proofs.Segments.{are_placed, first_of, first_segments, have_lanes, none_of}
use Rattle.law_runs.specs.Doing.{AreSettledInside, HasDone, HasFenced, HasSettled, IsFounded, IsSegment, MovedAlone}
use Rattle.law_runs.specs.Doing.{octets_put}
use Rattle.law_runs.specs.Coming.{HasBroken, HasCome, HasPut, StopsAtFullHistory, IsServed, IsUnderWay, PutsBy}
use Rattle.law_runs.specs.Coming.{EndsReading, notes_in}
use Rattle.law_runs.specs.Segment.{HandlesAndPuts, IsFullSegment, PutsBadly, PutsWell}
use Rattle.law_runs.proofs.Appending.{may_append}
use Rattle.law_runs.proofs.Exacting.{alone_nothing, moved_on}
use Rattle.law_runs.proofs.SoundMoments.{pieces_low}
use Rattle.law_runs.proofs.Stepping.{goes_on, none_at_all, none_known, own_does, quiet, settled_on}
use Rattle.law_runs.proofs.Words.{words_segment}

-- ---- the records of one segment

pub same_tail : (place : Place) (xs ys : List Place) → place ∷ xs ≡ place ∷ ys → xs ≡ ys
same_tail place xs ys h = let t = h in cc

pub first_all : (n : ℕ) (places : List Place) → of_first n places ≡ places → (k : ℕ) (d : Place) → k < length places
    → (slice_index_or places k d).segment < n
first_all n [] is k d low = absurd (omega arith)
first_all n (place ∷ places) is k d low =
    go (nat_lt place.segment n) refl is k low (λ same j inside. first_all n places same j d inside)
  where
    go : (b : Bool) → nat_lt place.segment n ≡ b → cond b (place ∷ of_first n places) [] ≡ place ∷ places
        → (k : ℕ) → k < length (place ∷ places)
        → (of_first n places ≡ places → (j : ℕ) → j < length places → (slice_index_or places j d).segment < n)
        → (slice_index_or (place ∷ places) k d).segment < n
    go true test same zero inside rest = grind (arith, nat_tests)
    go true test same (suc k) inside rest = rest (same_tail place (of_first n places) places same) k (omega arith)
    go false test same k inside rest = absurd (let s = ap length same in omega arith)

-- What was read of one segment more: the items of its records, which are to be handled next, and all items that were
-- taken. These are the same, or there is one more, a Monitor record that ended the segment.
pub record Reads (start now : SourceSeen) (items : List Item) (records : List Record) : Type 0 where
  pub more : List Item
  pub all : List Item
  pub read : List ℕ
  pub part : List ℕ
  pub number : ℕ
  pub takes : HasTaken start now all read part
  pub are : All IsItem more
  pub records_are : records ≡ records_of (places_from (counted first_count items) more)
  pub of : All (λ (place : Place). place.segment ≡ number) (places_from (counted first_count items) more)
  pub low : All (λ (place : Place). place.segment < number) (places_of items)
  pub whole : (places_of all ≡ places_of (items ++ more))
      ⊎ ((place : Place) × (place.task.kind ≡ Monitor) × (number ≤ place.segment)
      × (places_of all ≡ places_of (items ++ more) ++ place ∷ []))

pub lacks_none : (read : List ℕ) → LacksNext read []
lacks_none [] = λ rest e. let s = ap length e in let t = length-append beginning rest in
    let u : length beginning ≡ 8 = refl in absurd (omega arith)
lacks_none (octet ∷ read) = λ item rest is e. let s = ap length e in absurd (omega arith)

-- what was read to the end of a segment was taken, and no part of another item
pub reading_takes : (start now : SourceSeen) (standing : Standing) (items : List Item) (read : List ℕ)
    → IsReading start now standing items read → HasTaken start now items read []
reading_takes start now standing items read h = record {
  items_are = h.items_are;
  read_are = h.read_are;
  taken = h.taken;
  few = let f = h.few in omega arith;
  no_whole = lacks_none read;
}

-- the records of items that end with a segment are of the segments before
pub closed_low : (items : List Item) → (counted first_count items).inside ≡ 0
    → All (λ (place : Place). place.segment < (counted first_count items).segment) (places_of items)
closed_low items closed k d low = first_all (counted first_count items).segment (places_of items)
    (ap (λ (l : List Item). of_first (counted first_count items).segment (places_of l)) (sym (append-nil items))
    ∙ first_segments first_count items [] closed) k d low

pub tail_of : (xs ys : List Item) → All IsItem (xs ++ ys) → All IsItem ys
tail_of [] ys all = all
tail_of (x ∷ xs) ys all = tail_of xs ys (λ k d low. all (suc k) d (omega arith))

pub front_of : (xs ys : List Item) → All IsItem (xs ++ ys) → All IsItem xs
front_of xs ys all k d low =
    let size = length-append xs ys in
    subst IsItem (get_or_append_left xs ys d k low) (all k d (omega arith))

-- records read behind items, all of the segment that is on
pub of_one : (items more : List Item) → (counted first_count (items ++ more)).segment
    ≡ (counted first_count items).segment
    → All (λ (place : Place). place.segment ≡ (counted first_count items).segment)
    (places_from (counted first_count items) more)
of_one items more one k d low =
    let p = are_placed (counted first_count items) more k d low in
    let a = p.segment_low in let b = p.segment_high in
    let c : (counted (counted first_count items) more).segment ≡ (counted first_count items).segment =
    ap (λ (k : Count). k.segment) (sym (counted-append first_count items more)) ∙ one in
    omega arith

abbrev pub more_reads : (start now : SourceSeen) (standing : Standing) (items : List Item) (records : List Record)
    → ReadsMore start now standing items records
    → (counted first_count items).inside ≡ 0 → Reads start now items records
more_reads start now standing items records h begun =
    let c : Count = counted first_count items in
    let ends_at : (counted (counted first_count items) h.more).segment ≡ (counted first_count items).segment + 1 =
    ap (λ (k : Count). k.segment) (sym (counted-append first_count items h.more)) ∙ h.one_segment in
    let closed : (counted (counted first_count items) h.more).inside ≡ 0 =
    ap (λ (k : Count). k.inside) (sym (counted-append first_count items h.more)) ∙ h.reading.closed in
    let first : of_first (counted (counted first_count items) h.more).segment
    (places_from (counted first_count items) h.more) ≡ places_from (counted first_count items) h.more =
    ap (λ (l : List Item). of_first (counted (counted first_count items) h.more).segment
    (places_from (counted first_count items) l)) (sym (append-nil h.more))
    ∙ first_segments (counted first_count items) h.more [] closed in
    record {
      more = h.more;
      all = items ++ h.more;
      read = h.read;
      part = [];
      number = (counted first_count items).segment;
      takes = reading_takes start now standing (items ++ h.more) h.read h.reading;
      are = tail_of items h.more h.reading.items_are;
      records_are = h.records_are;
      of = λ k d low.
          let a = (are_placed (counted first_count items) h.more k d low).segment_low in
          let b = first_all (counted (counted first_count items) h.more).segment
          (places_from (counted first_count items) h.more) first k d low in
          omega arith;
      low = closed_low items begun;
      whole = inl refl;
    }

abbrev pub last_reads : (start now : SourceSeen) (items : List Item) (records : List Record)
    → ReadsLast start now items records
    → (counted first_count items).inside ≡ 0 → Reads start now items records
last_reads start now items records h begun = record {
  more = h.more;
  all = items ++ h.more;
  read = h.read;
  part = h.part;
  number = (counted first_count items).segment;
  takes = h.takes;
  are = tail_of items h.more h.takes.items_are;
  records_are = h.records_are;
  of = of_one items h.more h.one_segment;
  low = closed_low items begun;
  whole = inl refl;
}

-- ---- a Monitor record that ended the segment

module _ (start now : SourceSeen) (standing : Standing) (items : List Item) (records : List Record) (task : Record)
    (h : ReadsMonitor start now standing items records task) where
  abbrev own : Count
  own = counted first_count (items ++ h.more)

  abbrev own_place : Place
  own_place = record {
    task = record {
      index = own.index;
      kind = Monitor;
      lane = h.monitor.lane;
      link = h.monitor.link;
      octets = h.monitor.octets;
    };
    segment = own.segment + 1;
  }

  pub its_place : places_from own (h.monitor ∷ []) ≡ own_place ∷ []
  its_place = ap (λ (k : ItemKind). places_at own h.monitor k ++ []) h.is_monitor

  pub all_placed : places_of ((items ++ h.more) ++ h.monitor ∷ []) ≡ places_of (items ++ h.more) ++ own_place ∷ []
  all_placed = places-append first_count (items ++ h.more) (h.monitor ∷ [])
      ∙ ap (λ (l : List Place). places_of (items ++ h.more) ++ l) its_place

  -- the records before it
  abbrev pub before_reads : (counted first_count items).inside ≡ 0 → Reads start now items records
  before_reads begun = record {
    more = h.more;
    all = (items ++ h.more) ++ h.monitor ∷ [];
    read = h.read;
    part = [];
    number = (counted first_count items).segment;
    takes = reading_takes start now standing ((items ++ h.more) ++ h.monitor ∷ []) h.read h.reading;
    are = tail_of items h.more (front_of (items ++ h.more) (h.monitor ∷ []) h.reading.items_are);
    records_are = h.records_are;
    of = of_one items h.more h.one_segment;
    low = closed_low items begun;
    whole = inr (own_place, refl, (let one = h.one_segment in omega arith), all_placed);
  }

  -- the Monitor record itself, behind them
  abbrev pub monitor_reads : Reads start now (items ++ h.more) (task ∷ [])
  monitor_reads = record {
    more = h.monitor ∷ [];
    all = (items ++ h.more) ++ h.monitor ∷ [];
    read = h.read;
    part = [];
    number = own.segment + 1;
    takes = reading_takes start now standing ((items ++ h.more) ++ h.monitor ∷ []) h.read h.reading;
    are = tail_of (items ++ h.more) (h.monitor ∷ []) h.reading.items_are;
    records_are = h.task_is;
    of = subst (All (λ (place : Place). place.segment ≡ own.segment + 1)) (sym its_place)
        (All-cons (λ (place : Place). place.segment ≡ own.segment + 1) own_place [] refl
        (All-nil (λ (place : Place). place.segment ≡ own.segment + 1)));
    low = λ k d low. let a = (are_placed first_count (items ++ h.more) k d low).segment_high in omega arith;
    whole = inl refl;
  }

-- its records have lanes, and ascend
pub reads_lanes : (start now : SourceSeen) (items : List Item) (records : List Record) → Reads start now items records
    → All (λ (task : Record). task.kind ≢ Monitor) records → All (λ (task : Record). task.lane < LANES) records
reads_lanes start now items records r plain k d low = go records r.records_are k low (plain k d low)
  where
    at : (places : List Place) → All (λ (place : Place). place.task.kind ≢ Monitor → place.task.lane < LANES) places
        → (k : ℕ) → k < length (records_of places)
        → (slice_index_or (records_of places) k d).kind ≢ Monitor → (slice_index_or (records_of places) k d).lane
        < LANES
    at [] all k low = absurd (omega arith)
    at (place ∷ places) all zero low = all zero place (omega arith)
    at (place ∷ places) all (suc k) low = at places (λ j e inside. all (suc j) e (omega arith)) k (omega arith)

    go : (rs : List Record) → rs ≡ records_of (places_from (counted first_count items) r.more) → (k : ℕ) → k < length rs
        → (slice_index_or rs k d).kind ≢ Monitor → (slice_index_or rs k d).lane < LANES
    go rs is k low =
        subst (λ (l : List Record). (slice_index_or l k d).kind ≢ Monitor → (slice_index_or l k d).lane < LANES)
        (sym is)
        (at (places_from (counted first_count items) r.more) (have_lanes (counted first_count items) r.more r.are) k
        (let s = ap length is in omega arith))

pub reads_ascend : (start now : SourceSeen) (items : List Item) (records : List Record) → Reads start now items records
    → Ascend records
reads_ascend start now items records r =
    subst Ascend (sym r.records_are) (λ i j d lt low.
    go (places_from (counted first_count items) r.more) (places_ascend (counted first_count items) r.more) i j d lt
    low)
  where
    at : (places : List Place) (k : ℕ) (d : Record) (e : Place) → k < length (records_of places)
        → slice_index_or (records_of places) k d ≡ (slice_index_or places k e).task
    at [] k d e low = absurd (omega arith)
    at (place ∷ places) zero d e low = refl
    at (place ∷ places) (suc k) d e low = at places k d e (omega arith)

    some : (places : List Place) → 0 < length places → Place
    some [] low = absurd (omega arith)
    some (place ∷ places) low = place

    go : (places : List Place) → AllPairs IsBefore places → (i j : ℕ) (d : Record) → i < j
        → j < length (records_of places)
        → (slice_index_or (records_of places) i d).index < (slice_index_or (records_of places) j d).index
    go places up i j d lt low =
        let size = records_length places in
        let e : Place = some places (omega arith) in
        let a = ap (λ (t : Record). t.index) (at places i d (some places (omega arith)) (omega arith)) in
        let b = ap (λ (t : Record). t.index) (at places j d (some places (omega arith)) low) in
        let c : (slice_index_or places i (some places (omega arith))).task.index
        < (slice_index_or places j (some places (omega arith))).task.index =
        up i j (some places (omega arith)) lt (omega arith) in
        omega arith

answers_both : (xs ys : List Answer) → answers_octets (xs ++ ys) ≡ answers_octets xs ++ answers_octets ys
answers_both [] ys = refl
answers_both (x ∷ xs) ys = ap (λ (l : List ℕ). answer_octets x ++ l) (answers_both xs ys)
    ∙ sym (append_assoc (answer_octets x) (answers_octets xs) (answers_octets ys))

place_of_task : (places : List Place) (k : ℕ) (task : Record) → slice_get (records_of places) k ≡ Some task
    → (place : Place) × (slice_get places k ≡ Some place) × (place.task ≡ task)
place_of_task [] k task is = absurd (let low = slice_get_within [] k task is in omega arith)
place_of_task (place ∷ places) zero task is = (place, refl, same_Some place.task task is)
place_of_task (place ∷ places) (suc k) task is = place_of_task places k task is

-- what holds of all holds of one
all_at : (P : Place → Type 0) (places : List Place) (k : ℕ) (place : Place) → slice_get places k ≡ Some place
    → All P places → P place
all_at P [] k place is all = absurd (let low = slice_get_within [] k place is in omega arith)
all_at P (x ∷ places) zero place is all = subst P (same_Some x place is) (all 0 x (omega arith))
all_at P (x ∷ places) (suc k) place is all = all_at P places k place is (λ j d low. all (suc j) d (omega arith))

get_behind : (xs ys : List Place) (k : ℕ) → slice_get (xs ++ ys) (length xs + k) ≡ slice_get ys k
get_behind [] ys k = let e : 0 + k ≡ k = omega arith in ap (slice_get ys) e
get_behind (x ∷ xs) ys k = let e : suc (length xs) + k ≡ suc (length xs + k) = omega arith in
    ap (slice_get (x ∷ xs ++ ys)) e ∙ get_behind xs ys k

-- ---- the answers of the first segments

few_of_first : (a b : ℕ) (places : List Place) → a ≤ b → length (of_first a places) ≤ length (of_first b places)
few_of_first a b [] low = omega arith
few_of_first a b (place ∷ places) low =
    go (nat_lt place.segment a) (nat_lt place.segment b) refl refl (few_of_first a b places low)
  where
    go : (x y : Bool) → nat_lt place.segment a ≡ x → nat_lt place.segment b ≡ y
        → length (of_first a places) ≤ length (of_first b places)
        → length (cond x (place ∷ of_first a places) []) ≤ length (cond y (place ∷ of_first b places) [])
    go false y is other rest = omega arith
    go true true is other rest = omega arith
    go true false is other rest = absurd (grind (arith, nat_tests))

octets_of_take : (n : ℕ) (answers : List Answer) → length (answers_octets (take n answers))
    ≤ length (answers_octets answers)
octets_of_take zero answers = omega arith
octets_of_take (suc n) [] = omega arith
octets_of_take (suc n) (answer ∷ answers) =
    let a = length-append (answer_octets answer) (answers_octets (take n answers)) in
    let b = length-append (answer_octets answer) (answers_octets answers) in
    let c = octets_of_take n answers in omega arith

first_short : (n : ℕ) (places : List Place) → length (of_first n places) ≤ length places
first_short n [] = omega arith
first_short n (place ∷ places) = go (nat_lt place.segment n) (first_short n places)
  where
    go : (b : Bool) → length (of_first n places) ≤ length places
        → length (cond b (place ∷ of_first n places) []) ≤ length (place ∷ places)
    go true rest = omega arith
    go false rest = omega arith

-- records of later segments are none of the first
first_same : (n : ℕ) (xs ys : List Place) → All (λ (place : Place). n ≤ place.segment) ys
    → of_first n (xs ++ ys) ≡ of_first n xs
first_same n [] [] high = refl
first_same n [] (y ∷ ys) high = none_of n y ys (high zero y (omega arith))
first_same n (x ∷ xs) ys high =
    ap (λ (l : List Place). cond (nat_lt x.segment n) (x ∷ l) []) (first_same n xs ys high)

-- ---- one segment more

first_split : (n : ℕ) (xs ys : List Place) → All (λ (place : Place). place.segment < n) xs
    → All (λ (place : Place). n ≤ place.segment) ys
    → of_first n (xs ++ ys) ≡ xs
first_split n [] [] low high = refl
first_split n [] (y ∷ ys) low high = none_of n y ys (high zero y (omega arith))
first_split n (x ∷ xs) ys low high = first_of n x (xs ++ ys) (low zero x (omega arith))
    ∙ ap (λ (l : List Place). x ∷ l) (first_split n xs ys (λ k d inside. low (suc k) d (omega arith)) high)

reported_both : (before : List Noted) (xs ys : List Deed) → AreReported before xs
    → AreReported (before ++ map noted_of xs) ys → AreReported before (xs ++ ys)
reported_both before [] ys a b = subst (λ (l : List Noted). AreReported l ys) (append-nil before) b
reported_both before (x ∷ xs) ys (a, rest) b = (
  a,
  reported_both (before ++ noted_of x ∷ []) xs ys rest
      (subst (λ (l : List Noted). AreReported l ys) (sym (append_assoc before (noted_of x ∷ []) (map noted_of xs))) b),
)

map_both : (xs ys : List Deed) → map noted_of (xs ++ ys) ≡ map noted_of xs ++ map noted_of ys
map_both [] ys = refl
map_both (x ∷ xs) ys = ap (λ (l : List Noted). noted_of x ∷ l) (map_both xs ys)

module _ (start now : SourceSeen) (begin : Begin) (first v : View) (failed_before failed stored : ℕ) (items : List Item)
    (answers : List Answer)
    (way : IsServed begin first v failed_before failed stored items answers) (records : List Record)
    (r : Reads start now items records) where
  segment : IsSegment r.number (places_of items) (places_from (counted first_count items) r.more)
  segment = record {
    next = (counted first_count items).index;
    low = λ k d low. (are_placed first_count items k d low).index_high;
    high = λ k d low. (are_placed (counted first_count items) r.more k d low).index_low;
    of = r.of;
    up = places_ascend (counted first_count items) r.more;
  }

  all_places : places_of (items ++ r.more) ≡ places_of items ++ places_from (counted first_count items) r.more
  all_places = places-append first_count items r.more

  how_many : length (places_of (items ++ r.more)) ≡ length answers + length records
  how_many =
      let a = ap length all_places in
      let b = length-append (places_of items) (places_from (counted first_count items) r.more) in
      let c = records_length (places_from (counted first_count items) r.more) in
      let d = ap length r.records_are in
      let e = way.each in omega arith

  -- no record is of a segment behind this one
  low_segments : All (λ (place : Place). place.segment ≤ r.number) (places_of (items ++ r.more))
  low_segments = subst (All (λ (place : Place). place.segment ≤ r.number)) (sym all_places)
      (All-append (λ (place : Place). place.segment ≤ r.number) (places_of items)
      (places_from (counted first_count items) r.more)
      (λ k d low. let e = r.low k d low in omega arith) (λ k d low. let e = r.of k d low in omega arith))

  -- the records of the segments before are those of the items before
  later_segments : All (λ (place : Place). r.number ≤ place.segment) (places_from (counted first_count items) r.more)
  later_segments k d low = let e = r.of k d low in omega arith

  first_here : of_first r.number (places_of (items ++ r.more)) ≡ places_of items
  first_here = ap (of_first r.number) all_places ∙ first_split r.number (places_of items)
      (places_from (counted first_count items) r.more) r.low later_segments

  first_taken : of_first r.number (places_of r.all) ≡ places_of items
  first_taken = by_whole r.whole
    where
      by_whole : (places_of r.all ≡ places_of (items ++ r.more))
          ⊎ ((place : Place) × (place.task.kind ≡ Monitor) × (r.number ≤ place.segment)
          × (places_of r.all ≡ places_of (items ++ r.more) ++ place ∷ []))
          → of_first r.number (places_of r.all) ≡ places_of items
      by_whole (inl is) = ap (of_first r.number) is ∙ first_here
      by_whole (inr (place, kind, high, is)) =
          ap (of_first r.number) (is ∙ ap (λ (l : List Place). l ++ place ∷ []) all_places
          ∙ append_assoc (places_of items) (places_from (counted first_count items) r.more) (place ∷ []))
          ∙ first_split r.number (places_of items) (places_from (counted first_count items) r.more ++ place ∷ []) r.low
          (All-append (λ (p : Place). r.number ≤ p.segment) (places_from (counted first_count items) r.more)
          (place ∷ []) later_segments
          (All-cons (λ (p : Place). r.number ≤ p.segment) place [] high
          (All-nil (λ (p : Place). r.number ≤ p.segment))))

  -- memory ran out: the records of the segments before are handled
  pub wants : HasCome start now begin first v failed_before failed stored ends.NoMemory
  wants = record {
    items = r.all;
    read = r.read;
    part = r.part;
    of = items;
    answers = answers;
    takes = r.takes;
    reads = tt;
    answered = λ told last. ((r.number, sym first_taken), way.each);
    few = (let e = way.each in omega arith);
    done = way.done;
    put = way.put;
    settled = way.settled;
    exactly = way.exactly;
    moved = way.moved;
    fenced = way.fenced;
    reports = way.reports;
    widths = way.widths;
    full = λ is. absurd (let t : ends.NoMemory ≡ ends.SessionFull = is in cc);
    earlier = λ is_told place there.
        let a = octets_of_take (length (of_first place.segment (places_of items))) answers in
        let b = ap length (way.put.octets is_told) in omega arith;
  }

  module _ (mid w : View) (next : List Answer) (stored_now : ℕ) (fewer : stored ≤ stored_now)
      (whole_v : IsWhole begin.rows v)
      (h : HandlesAndPuts begin v mid w records next stored_now)
      (reported : AreReported (notes_in items answers) (deeds_of r.number records next)) where
    handled : (layout : Layout) → LiesIn layout r.number (records_of (places_from (counted first_count items) r.more))
        → Handled layout begin v mid (records_of (places_from (counted first_count items) r.more))
        (deeds_of r.number (records_of (places_from (counted first_count items) r.more)) next)
    handled layout = subst (λ (rs : List Record). LiesIn layout r.number rs
        → Handled layout begin v mid rs (deeds_of r.number rs next)) r.records_are (h.handled layout r.number)

    pub done_on : HasDone begin first w (places_of (items ++ r.more)) (answers ++ next)
    done_on = subst (λ (ps : List Place). HasDone begin first w ps (answers ++ next)) (sym all_places)
        (goes_on begin first v mid w (places_of items) (places_from (counted first_count items) r.more) answers next
        r.number way.done way.each whole_v segment handled h.puts)

    pub exactly_on : MovedAlone begin first w (places_of (items ++ r.more)) (answers ++ next)
    exactly_on = subst (λ (ps : List Place). MovedAlone begin first w ps (answers ++ next)) (sym all_places)
        (moved_on begin first v mid w (places_of items) (places_from (counted first_count items) r.more) answers next
        r.number stored_now h.settles.entries h.settles.lines way.done.does way.each r.of
        (own_does begin first v mid w (places_of items) (places_from (counted first_count items) r.more) answers next
        r.number way.done way.each whole_v segment handled h.puts)
        h.puts h.same_numbers h.settles.at way.exactly
        (subst (λ (rs : List Record). OneLane rs → ServedAlone begin v mid (length rs) (deeds_of r.number rs next))
        r.records_are
        (λ one. h.exactly one r.number)))

    pub moved_now : MovesCounted begin first w (records_of (places_of (items ++ r.more)))
        (deeds_from (places_of (items ++ r.more)) (answers ++ next))
    moved_now =
        subst (λ (ps : List Place). MovesCounted begin first w (records_of ps) (deeds_from ps (answers ++ next)))
        (sym all_places)
        (words_segment begin first v mid w (places_of items) (places_from (counted first_count items) r.more) answers
        next
        r.number records r.records_are segment way.each way.done.does way.moved
        (own_does begin first v mid w (places_of items) (places_from (counted first_count items) r.more) answers next
        r.number way.done way.each whole_v segment handled h.puts)
        (h.moved r.number) h.puts.does h.same_numbers)

    reported_on : AreReported [] (deeds_from (places_of (items ++ r.more)) (answers ++ next))
    reported_on =
        let more : List Place = places_from (counted first_count items) r.more in
        let both : deeds_from (places_of (items ++ r.more)) (answers ++ next) ≡ deeds_from (places_of items) answers
        ++ deeds_of r.number records next =
        ap (λ (ps : List Place). deeds_from ps (answers ++ next)) all_places ∙ deeds_both (places_of items) more answers
        next way.each
        ∙ ap (λ (ds : List Deed). deeds_from (places_of items) answers ++ ds)
        (deeds_of_segment r.number more next r.of ∙ ap (λ (rs : List Record). deeds_of r.number rs next)
        (sym r.records_are)) in
        subst (AreReported []) (sym both)
        (reported_both [] (deeds_from (places_of items) answers) (deeds_of r.number records next) way.reports
        reported)

    still : octets_put mid ≡ octets_put v
    still = quiet begin first v mid w (places_of items) (places_from (counted first_count items) r.more) answers next
        r.number way.done way.each whole_v segment handled h.puts h.whole_mid

    pub settled_then : IsTrue begin.told → IsFounded begin first
        → HasSettled begin w stored_now (places_of (items ++ r.more)) (answers ++ next)
    settled_then is_told founded =
        subst (λ (ps : List Place). HasSettled begin w stored_now ps (answers ++ next)) (sym all_places)
        (settled_on begin first v mid w (places_of items) (places_from (counted first_count items) r.more) answers next
        r.number way.done way.each whole_v segment handled h.puts founded h.whole_mid h.whole
        (subst (AllPairs IsBefore) all_places (places_ascend first_count (items ++ r.more))) stored stored_now
        (way.settled is_told founded) fewer
        (way.put.octets is_told) h.known h.settles
        (subst (AreSettledInside h.known)
        (sym (deeds_of_segment r.number (places_from (counted first_count items) r.more) next r.of))
        (subst (λ (rs : List Record). AreSettledInside h.known (deeds_of r.number rs next)) r.records_are
        (h.entered r.number))))

    pub well : (failed_now : ℕ) → PutsWell begin mid w next failed failed_now
        → HasPut begin w failed_before failed_now (answers ++ next)
    well failed_now p = record {
      octets = λ is_told. p.octets is_told ∙ ap (λ (l : List ℕ). l ++ answers_octets next)
          (still ∙ way.put.octets is_told) ∙ sym (answers_both answers next);
      none_failed = p.none_failed ∙ way.put.none_failed;
    }

    pub badly : (failed_now : ℕ) → PutsBadly begin mid w next failed failed_now
        → HasBroken begin w failed_before failed_now (answers ++ next)
    badly failed_now p = record {
      octets = λ is_told.
          let b = p.octets is_told in
          record {
            least = omega arith;
            prefix = b.prefix ∙ ap (λ (l : List ℕ). take (length (octets_put w)) (l ++ answers_octets next))
                (still ∙ way.put.octets is_told)
                ∙ ap (take (length (octets_put w))) (sym (answers_both answers next));
          };
      one_failed = (let a = p.one_failed in let b = way.put.none_failed in omega arith);
      rose = p.rose;
    }

    between_on : (k n : ℕ) → IsBetween begin v mid k n → IsBetween begin first w k n
    between_on k n b =
        let a = way.done.does.grows.nexts b.row in
        let c = h.puts.does.grows.nexts b.row in
        let low = b.least in let high = b.most in
        record {
          row = b.row;
          row_is = subst (λ (es : List Entry). place_of (after_all begin.start es).keys k ≡ Some b.row)
              (sym h.puts.entries)
              b.row_is;
          least = omega arith;
          most = omega arith;
        }

    pub full_on : IsFullSegment begin v mid w records next
        → StopsAtFullHistory begin first w (places_of (items ++ r.more)) (answers ++ next)
    full_on f =
        let (place, there, same) = place_of_task (places_from (counted first_count items) r.more) (length next) f.task
        (subst (λ (rs : List Record). slice_get rs (length next) ≡ Some f.task) r.records_are f.first_without) in
        let size : length (answers ++ next) ≡ length (places_of items) + length next =
        (let a = length-append answers next in let b = way.each in omega arith) in
        record {
          place = place;
          first_without = ap (slice_get (places_of (items ++ r.more))) size
              ∙ ap (λ (ps : List Place). slice_get ps (length (places_of items) + length next)) all_places
              ∙ get_behind (places_of items) (places_from (counted first_count items) r.more) (length next) ∙ there;
          last_segment = λ k d low.
              let a = low_segments k d low in
              let b = all_at (λ (p : Place). p.segment ≡ r.number) (places_from (counted first_count items) r.more)
              (length next) place there r.of in omega arith;
          full = (let a = f.full in let b = ap length h.puts.entries in omega arith);
          not_failed = λ low. f.not_failed (let b = ap length h.puts.entries in omega arith);
          due = subst (λ (t : Record). IsTrue (is_entered t.kind)
              ⊎ MayAppend (IsBetween begin first w) (course_in begin w) MOST_ENTRIES t) (sym same) (due f.due);
          unmade = subst (λ (es : List Entry). HasNoEntry es place.task.index) (sym h.puts.entries)
              (none_at_all begin first v mid w (places_of items) (places_from (counted first_count items) r.more)
              answers next
              r.number way.done way.each whole_v segment handled h.puts h.whole_mid place.task.index
              (all_at (λ (p : Place). segment.next ≤ p.task.index) (places_from (counted first_count items) r.more)
              (length next) place there segment.high)
              (subst (λ (t : Record). (made : List ℕ) → mid.turn.made ≡ v.turn.made ++ made
              → count_at (is_of_record t.index) (log_of mid) made ≡ 0) (sym same) f.unmade));
        }
      where
        due : IsTrue (is_entered f.task.kind) ⊎ MayAppend (IsBetween begin v mid) (course_in begin mid) MOST_ENTRIES
            f.task
            → IsTrue (is_entered f.task.kind) ⊎ MayAppend (IsBetween begin first w) (course_in begin w) MOST_ENTRIES
            f.task
        due (inl other) = inl other
        due (inr may) =
            inr (subst (λ (es : List Entry).
            MayAppend (IsBetween begin first w) (record (course_in begin w) { entries = es }) MOST_ENTRIES f.task)
            (sym h.puts.entries)
            (may_append (IsBetween begin v mid) (IsBetween begin first w) between_on begin.plan begin.start
            (entries_in mid) _ _ _ _ _ _ _ _ MOST_ENTRIES f.task may))

    more_put : length (octets_put mid) ≤ length (octets_put w)
    more_put =
        let a = ap length (ap pieces_of h.puts.does.grows.earlier.log.1 ∙ pieces_both (log_of mid)
        h.puts.does.grows.earlier.log.0) in
        let b = length-append (octets_put mid) (pieces_of h.puts.does.grows.earlier.log.0) in omega arith

    -- the answers of the segments before are those so far
    answers_low : (place : Place) → Contains (places_of (items ++ r.more)) place
        → length (answers_octets (answers_of_first place.segment (places_of (items ++ r.more)) (answers ++ next)))
        ≤ length (answers_octets answers)
    answers_low place (k, inside, is) =
        let low : place.segment ≤ r.number =
        subst (λ (p : Place). p.segment ≤ r.number) is (low_segments k place inside) in
        let few = few_of_first place.segment r.number (places_of (items ++ r.more)) low in
        let first = ap length first_here in
        let each = way.each in
        let front : take (length (of_first place.segment (places_of (items ++ r.more)))) (answers ++ next)
        ≡ take (length (of_first place.segment (places_of (items ++ r.more)))) answers =
        take-append-le (length (of_first place.segment (places_of (items ++ r.more)))) answers next (omega arith) in
        let a = octets_of_take (length (of_first place.segment (places_of (items ++ r.more)))) answers in
        let b = ap (λ (l : List Answer). length (answers_octets l)) front in omega arith

    -- what is known goes on from what was
    known_on : (rest : List Logged) × (log_of w ≡ log_of v ++ rest)
    known_on =
        let d = own_does begin first v mid w (places_of items) (places_from (counted first_count items) r.more) answers
        next r.number way.done way.each whole_v segment handled h.puts in (
          d.grows.earlier.log.0 ++ h.puts.does.grows.earlier.log.0,
          h.puts.does.grows.earlier.log.1
              ∙ ap (λ (l : List Logged). l ++ h.puts.does.grows.earlier.log.0) d.grows.earlier.log.1
              ∙ append_assoc (log_of v) d.grows.earlier.log.0 h.puts.does.grows.earlier.log.0,
        )

    -- an entry that was known before is of a record of the places before
    fenced_before : IsTrue begin.told → (place : Place) (at : ℕ) (entry : Entry)
        → Contains (places_of items) place ⊎ Contains (places_from (counted first_count items) r.more) place
        → slice_get (log_of v) at ≡ Some (lines.Entry entry) → entry.index ≡ Some place.task.index
        → length (answers_octets (answers_of_first place.segment (places_of (items ++ r.more)) (answers ++ next)))
        ≤ length (pieces_of (take at (log_of v)))
    fenced_before is_told place at entry (inr there) line is =
        absurd (none_known begin first v mid w (places_of items) (places_from (counted first_count items) r.more)
        answers
        next r.number way.done way.each whole_v segment handled h.puts at entry place.task.index line is
        (All-contains (λ (p : Place). segment.next ≤ p.task.index) (places_from (counted first_count items) r.more)
        place
        segment.high there))
    fenced_before is_told place at entry (inl there) line is =
        let more : List Place = places_from (counted first_count items) r.more in
        let below = All-contains (λ (p : Place). p.segment < r.number) (places_of items) place r.low there in
        let same : of_first place.segment (places_of (items ++ r.more)) ≡ of_first place.segment (places_of items) =
        ap (of_first place.segment) all_places
        ∙ first_same place.segment (places_of items) (places_from (counted first_count items) r.more)
        (λ k d low. let e = later_segments k d low in omega arith) in
        let short = first_short place.segment (places_of items) in
        let each = way.each in
        let front : take (length (of_first place.segment (places_of (items ++ r.more)))) (answers ++ next)
        ≡ take (length (of_first place.segment (places_of items))) answers =
        ap (λ (l : List Place). take (length l) (answers ++ next)) same
        ∙ take-append-le (length (of_first place.segment (places_of items))) answers next (omega arith) in
        let a = ap (λ (l : List Answer). length (answers_octets l)) front in
        let b = way.fenced is_told place at entry there line is in omega arith

    fenced_on : IsTrue begin.told → HasFenced w (places_of (items ++ r.more)) (answers ++ next)
    fenced_on is_told place at entry there line is = go known_on.0 known_on.1 (cases_lt at (length (log_of v)))
      where
        go : (rest : List Logged) → log_of w ≡ log_of v ++ rest → (at < length (log_of v)) ⊎ (length (log_of v) ≤ at)
            → length (answers_octets (answers_of_first place.segment (places_of (items ++ r.more)) (answers ++ next)))
            ≤ length (pieces_of (take at (log_of w)))
        go rest known (inl lt) =
            let old : slice_get (log_of v) at ≡ Some (lines.Entry entry) =
            sym (get_front (log_of v) rest at lt) ∙ ap (λ (l : List Logged). slice_get l at) (sym known) ∙ line in
            let a = fenced_before is_told place at entry
            (Contains-append_cases (places_of items) (places_from (counted first_count items) r.more) place
            (subst (λ (ps : List Place). Contains ps place) all_places there)) old is in
            let b = ap (λ (l : List Logged). length (pieces_of l))
            (ap (take at) known ∙ take-append-le at (log_of v) rest (omega arith)) in omega arith
        go rest known (inr ge) =
            let a = answers_low place there in
            let b = ap length (way.put.octets is_told) in
            let c = ap (λ (l : List Logged). length (pieces_of l))
            (ap (take (length (log_of v))) known ∙ take_at (log_of v) rest (length (log_of v)) refl) in
            let d = pieces_low (log_of w) (length (log_of v)) at ge in omega arith

    earlier_put : IsTrue begin.told → (place : Place) → Contains (places_of (items ++ r.more)) place
        → length (answers_octets (answers_of_first place.segment (places_of (items ++ r.more)) (answers ++ next)))
        ≤ length (octets_put w)
    earlier_put is_told place there =
        let a = answers_low place there in
        let c = ap length (still ∙ way.put.octets is_told) in
        let d = more_put in omega arith

    -- the run came to an end with this segment
    pub comes : (came : RunEnd) (failed_now : ℕ) → EndsReading start now r.all r.read r.part came
        → ((told : RunEnd) (last : ℕ) → AreAnswered (record {
          came = came;
          named = told;
          items = r.all;
          read = r.read;
          part = r.part;
          handled = places_of (items ++ r.more);
          answers = answers ++ next;
          faults_when_put = last;
        }) came)
        → PutsBy begin w failed_before failed_now (answers ++ next) came
        → (came ≡ ends.SessionFull → IsFullSegment begin v mid w records next)
        → HasCome start now begin first w failed_before failed_now stored_now came
    comes came failed_now reads answered put full = record {
      items = r.all;
      read = r.read;
      part = r.part;
      of = items ++ r.more;
      answers = answers ++ next;
      takes = r.takes;
      reads = reads;
      answered = answered;
      few = (let a = how_many in let b = h.few in let c = length-append answers next in omega arith);
      done = done_on;
      put = put;
      settled = settled_then;
      exactly = exactly_on;
      moved = moved_now;
      fenced = fenced_on;
      reports = reported_on;
      widths = All-append IsAnswer answers next way.widths h.widths;
      full = λ is. full_on (full is);
      earlier = earlier_put;
    }

    pub size_all : length next ≡ length records → length (answers ++ next) ≡ length (places_of (items ++ r.more))
    size_all same = let a = how_many in let c = length-append answers next in omega arith

    pub size_few : length next < length records → length (answers ++ next) < length (places_of (items ++ r.more))
    size_few same = let a = how_many in let c = length-append answers next in omega arith

    pub size_most : length (answers ++ next) ≤ length (places_of (items ++ r.more))
    size_most = let a = how_many in let b = h.few in let c = length-append answers next in omega arith

    -- the records were answered, and the answers put
    pub serves_next : (failed_now : ℕ) → PutsWell begin mid w next failed failed_now → length next ≡ length records
        → IsServed begin first w failed_before failed_now stored_now (items ++ r.more) (answers ++ next)
    serves_next failed_now put same = record {
      done = done_on;
      each = size_all same;
      put = well failed_now put;
      settled = settled_then;
      exactly = exactly_on;
      moved = moved_now;
      fenced = fenced_on;
      reports = reported_on;
      widths = All-append IsAnswer answers next way.widths h.widths;
    }

    -- they and the answers so far, as the log takes them
    pub notes_next : notes_in (items ++ r.more) (answers ++ next) ≡ notes_in items answers
        ++ map noted_of (deeds_of r.number records next)
    notes_next =
        let more : List Place = places_from (counted first_count items) r.more in
        ap (map noted_of) (ap (λ (ps : List Place). deeds_from ps (answers ++ next)) all_places
        ∙ deeds_both (places_of items) more answers next way.each)
        ∙ map_both (deeds_from (places_of items) answers) (deeds_from more next)
        ∙ ap (λ (ds : List Deed). notes_in items answers ++ map noted_of ds)
        (deeds_of_segment r.number more next r.of ∙ ap (λ (rs : List Record). deeds_of r.number rs next)
        (sym r.records_are))

-- memory ran out while a segment was read
pub wants_reading : (start before now : SourceSeen) (standing : Standing) (begin : Begin) (first v : View)
    (failed_before failed stored : ℕ)
    (way : IsUnderWay start before standing begin first v failed_before failed stored) → Loses start now way.items
    → HasCome start now begin first v failed_before failed stored ends.NoMemory
wants_reading start before now standing begin first v failed_before failed stored way l = record {
  items = way.items ++ l.more;
  read = l.read;
  part = l.part;
  of = way.items;
  answers = way.answers;
  takes = l.takes;
  reads = tt;
  answered = λ told last. (
    ((counted first_count way.items).segment, sym (first_segments first_count way.items l.more way.reading.closed)),
    way.served.each,
  );
  few = (let e = way.served.each in omega arith);
  done = way.served.done;
  put = way.served.put;
  settled = way.served.settled;
  exactly = way.served.exactly;
  moved = way.served.moved;
  fenced = way.served.fenced;
  reports = way.served.reports;
  widths = way.served.widths;
  full = λ is. absurd (let t : ends.NoMemory ≡ ends.SessionFull = is in cc);
  earlier = λ is_told place there.
      let a = octets_of_take (length (of_first place.segment (places_of way.items))) way.answers in
      let b = ap length (way.served.put.octets is_told) in omega arith;
}

-- nothing was read yet
abbrev pub begins_way : (start : SourceSeen) (begin : Begin) (first : View) (failed stored : ℕ) → log_of first ≡ []
    → first.turn.made ≡ []
    → IsUnderWay start start first_standing begin first first failed failed stored
begins_way start begin first failed stored none none_made = record {
  items = [];
  read = [];
  answers = [];
  reading = record {
    items_are = λ k d low. absurd (omega arith);
    read_are = inl (refl, refl);
    told = refl;
    taken = λ t. refl;
    few = omega arith;
    taken_is = refl;
    records_are = refl;
    closed = refl;
  };
  stood = refl;
  served = record {
    done = record {
      none_made = none_made;
      does = does_nothing begin first [];
      lined = λ layout lies. (
        0,
        subst (λ (m : List ℕ). Lined (TakeTurns layout) (log_of first) m 0 0) (sym none_made) (record {
          in_order = λ x other i j a b c d e f. absurd (omega arith);
          few_entries = omega arith;
          few_pieces = omega arith;
        }),
      );
    };
    each = refl;
    put = record { octets = λ is_told. ap pieces_of none; none_failed = refl };
    settled = λ is_told founded. tt;
    exactly = λ one. alone_nothing begin first;
    moved = counted_nothing begin first [];
    fenced = λ is_told place at entry (k, inside, same) line is. absurd (omega arith);
    reports = tt;
    widths = All-nil IsAnswer;
  };
}
