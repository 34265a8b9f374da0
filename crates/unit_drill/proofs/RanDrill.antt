-- The chunks of a drill are two sound runs: for `drill_is_sound`.
use Rattle.std.proofs.Common.{◌≡◌, ℕ, zero, suc, ◌+◌, ◌-◌, ◌*◌, ◌/◌, ◌==◌, ◌<◌, ◌≤◌, min, false, List, [], ◌++◌, length}
use Rattle.std.proofs.Common.{map, refl, sym, ◌∙◌, ap, subst, arith}
use Rattle.std.specs.List.{All, list_any}
use Rattle.std.proofs.lemmas.List.{append_assoc, length-append, length-map}
use Rattle.std.proofs.lemmas.List.FromFn.{length-map-range_with_len}
use Rattle.counter_table.specs.declared.view.View.{View}
use Rattle.law_runs.specs.Doing.{IsFounded}
use Rattle.record_io.specs.declared.answers.Answer.{Answer}
use Rattle.record_io.specs.declared.code.TheConstants as codes_of
use Rattle.record_io.specs.declared.item_cursor.Record.{Record}
use Rattle.record_io.specs.Places.{Place}
use Rattle.run_promise.specs.Call.{Begin}
use Rattle.unit_drill.specs.declared.counts.Counts.{Counts}
use Rattle.unit_drill.specs.Chunks.{AreChunks, HandlesDrill, HandlesSegment, UnitIsOpened}
use Rattle.unit_drill.specs.Counting.{count_accepted, count_code, count_fields, count_given, no_counts, sum_of}
use Rattle.unit_drill.specs.Drilled.{IsComplete, IsDrilled, opened_frames, opened_places, protected_frames}
use Rattle.unit_drill.specs.Drilled.{replayed_frames}
use Rattle.unit_drill.specs.Frames.{open_tasks, protect_task, protect_tasks, replay_tasks}
use Rattle.unit_drill.specs.Plans.{receiver_plan, sender_plan}
use Rattle.unit_drill.specs.UnitRun.{in_segment, of_chunks, sent_place, sent_places, says_no_memory}
use Rattle.unit_drill.proofs.Joined.{accepted_given, both_want, chunks_more, counted_both, few_opens, few_replays}
use Rattle.unit_drill.proofs.Joined.{fields_given, given_both, opens_below, opens_from, parts_want, protects_below}
use Rattle.unit_drill.proofs.Joined.{replay_at, sent_more}
use Rattle.unit_drill.proofs.Lists.{Below, From}
use Rattle.unit_drill.proofs.SentChunks.{protects_from}
use Rattle.unit_drill.proofs.SoFar.{RanSoFar, all_given, founded_so, none_ran, ran_more, runs_soundly}
use Rattle.unit_drill.proofs.Tasks.{open_ascends, open_plain, protect_ascends, protect_plain, replay_ascends}
use Rattle.unit_drill.proofs.Tasks.{replay_plain}

-- ---- the sender

-- a chunk more
module _ (begin : Begin) (first now next : View) (chunk n : ℕ) (sent later : List Answer)
    (founded : IsFounded begin first)
    (so_far : RanSoFar begin first now (256 * chunk) (sent_places (256 * chunk)) sent)
    (protects : HandlesSegment begin now next (protect_tasks (256 * chunk) n) later) (small : n ≤ 256)
    (few : 256 * chunk + n ≤ 100000) where
  abbrev protect_list : List Record
  protect_list = protect_tasks (256 * chunk) n

  few_both : length (sent_places (256 * chunk)) + length protect_list ≤ 400000
  few_both =
      let old = length-map-range_with_len sent_place 0 (256 * chunk) in
      let new = length-map-range_with_len protect_task (256 * chunk) n in omega arith

  pub many_sent : length later ≡ n
  many_sent =
      all_given begin first now next (256 * chunk) (256 * chunk + n) chunk (sent_places (256 * chunk)) sent protect_list
      later founded so_far protects
      (protects_from (256 * chunk) n) (protects_below (256 * chunk) n) (omega arith) (protect_ascends (256 * chunk) n)
      (protect_plain (256 * chunk) n) few_both
      ∙ length-map-range_with_len protect_task (256 * chunk) n

  pub sends_more : RanSoFar begin first next (256 * chunk + n) (sent_places (256 * chunk + n)) (sent ++ later)
  sends_more =
      subst (λ (ps : List Place). RanSoFar begin first next (256 * chunk + n) ps (sent ++ later))
      (sym (sent_more chunk n small))
      (ran_more begin first now next (256 * chunk) (256 * chunk + n) chunk (sent_places (256 * chunk)) sent protect_list
      later founded so_far protects
      (protects_from (256 * chunk) n) (protects_below (256 * chunk) n) (omega arith) (protect_ascends (256 * chunk) n)
      (protect_plain (256 * chunk) n) few_both)

-- so many answers as frames
pub sent_all : (begin : Begin) (first now : View) (bound frames : ℕ) (sent : List Answer)
    → RanSoFar begin first now bound (sent_places frames) sent
    → length sent ≡ frames
sent_all begin first now bound frames sent ran = ran.answered ∙ length-map-range_with_len sent_place 0 frames

-- ---- both units

-- the first chunks are two runs, with these counts
pub record RanChunks (one other : Begin) (s t v w : View) (frames chunks : ℕ) (answers : List Answer)
    (counts : Counts) : Type 0 where
  pub sent : List Answer
  pub received : List Answer
  pub sends : RanSoFar one s t frames (sent_places frames) sent
  pub receives : RanSoFar other v w (257 * chunks) (of_chunks opened_places chunks sent) received
  pub as_many : length received ≡ length (of_chunks opened_frames chunks sent)
  pub few : length received ≤ 257 * chunks
  pub protected : counts.protected ≡ count_code codes_of.PROTECTED sent
  pub lost : counts.lost ≡ 0
  pub accepted : counts.accepted ≡ count_given (of_chunks opened_frames chunks sent) received
  pub rejected : counts.rejected ≡ count_code codes_of.NUMBER received
  pub wants : list_any says_no_memory (sent ++ received) ≡ false → list_any says_no_memory answers ≡ false

pub none_chunks : (one other : Begin) (s v : View) → RanSoFar one s s 0 [] [] → RanSoFar other v v 0 [] []
    → RanChunks one other s s v v 0 0 [] no_counts
none_chunks one other s v sends receives = record {
  sent = [];
  received = [];
  sends = sends;
  receives = receives;
  as_many = refl;
  few = omega arith;
  protected = refl;
  lost = refl;
  accepted = refl;
  rejected = refl;
  wants = λ none. refl;
}

module _ (one other : Begin) (s t0 t v w0 mid w : View) (chunk n : ℕ) (earlier : List Answer) (before more : Counts)
    (founded : IsFounded one s) (other_founded : IsFounded other v)
    (so_far : RanChunks one other s t0 v w0 (256 * chunk) chunk earlier before)
    (small : n ≤ 256) (few : 256 * chunk + n ≤ 100000) (later opened again : List Answer)
    (protects : HandlesSegment one t0 t (protect_tasks (256 * chunk) n) later)
    (opens : HandlesSegment other w0 mid (open_tasks chunk (256 * chunk) later) opened)
    (replays : HandlesSegment other mid w (replay_tasks chunk (256 * chunk) later) again)
    (protected : more.protected ≡ count_code codes_of.PROTECTED later) (lost : more.lost ≡ 0)
    (accepted : more.accepted ≡ count_accepted chunk (open_tasks chunk (256 * chunk) later) opened + count_fields
    (256 * chunk) again)
    (rejected : more.rejected ≡ count_code codes_of.NUMBER opened + count_code codes_of.NUMBER again) where
  abbrev sent : List Answer
  sent = so_far.sent

  abbrev received : List Answer
  received = so_far.received

  abbrev places : List Place
  places = of_chunks opened_places chunk sent

  abbrev frames : List ℕ
  frames = of_chunks opened_frames chunk sent

  many_later : length later ≡ n
  many_later = many_sent one s t0 t chunk n sent later founded so_far.sends protects small few

  many_before : length sent ≡ 256 * chunk
  many_before = sent_all one s t0 (256 * chunk) (256 * chunk) sent so_far.sends

  -- ---- what was opened

  abbrev tasks : List Record
  tasks = open_tasks chunk (256 * chunk) later

  abbrev repeats : List Record
  repeats = replay_tasks chunk (256 * chunk) later

  from_tasks : All (From (257 * chunk)) tasks
  from_tasks =
      let e : 256 * chunk + chunk ≡ 257 * chunk = omega arith in
      subst (λ (bound : ℕ). All (From bound) tasks) e (opens_from chunk (256 * chunk) later)

  below_tasks : All (Below (257 * chunk + 256)) tasks
  below_tasks =
      let many = many_later in
      let e : 256 * chunk + 256 + chunk ≡ 257 * chunk + 256 = omega arith in
      subst (λ (bound : ℕ). All (Below bound) tasks) e
      (opens_below chunk (256 * chunk) (256 * chunk + 256) later (omega arith))

  few_tasks : length places + length tasks ≤ 400000
  few_tasks =
      let all = so_far.receives.answered in
      let low = so_far.few in
      let opens_few = few_opens chunk (256 * chunk) later in
      let same = opens_few.same in
      let most = opens_few.few in
      let many = many_later in omega arith

  receives_mid : RanSoFar other v mid (257 * chunk + 256) (places ++ map (in_segment (2 * chunk)) tasks)
      (received ++ opened)
  receives_mid =
      ran_more other v w0 mid (257 * chunk) (257 * chunk + 256) (2 * chunk) places received tasks opened other_founded
      so_far.receives opens from_tasks below_tasks
      (omega arith) (open_ascends chunk (256 * chunk) later) (open_plain chunk (256 * chunk) later) few_tasks

  many_opened : length opened ≡ length tasks
  many_opened =
      all_given other v w0 mid (257 * chunk) (257 * chunk + 256) (2 * chunk) places received tasks opened other_founded
      so_far.receives opens from_tasks below_tasks
      (omega arith) (open_ascends chunk (256 * chunk) later) (open_plain chunk (256 * chunk) later) few_tasks

  -- ---- what was opened again

  from_repeats : All (From (257 * chunk + 256)) repeats
  from_repeats = replay_at (From (257 * chunk + 256)) chunk (256 * chunk) later (λ octets. omega arith)

  below_repeats : All (Below (257 * suc chunk)) repeats
  below_repeats = replay_at (Below (257 * suc chunk)) chunk (256 * chunk) later (λ octets. omega arith)

  few_repeats : length (places ++ map (in_segment (2 * chunk)) tasks) + length repeats ≤ 400000
  few_repeats =
      let all = so_far.receives.answered in
      let low = so_far.few in
      let both = length-append places (map (in_segment (2 * chunk)) tasks) in
      let placed = length-map tasks (in_segment (2 * chunk)) in
      let opens_few = few_opens chunk (256 * chunk) later in
      let same = opens_few.same in
      let most = opens_few.few in
      let replays_few = few_replays chunk (256 * chunk) later in
      let same_again = replays_few.same in
      let most_again = replays_few.few in
      let many = many_later in omega arith

  receives_end : RanSoFar other v w (257 * suc chunk)
      ((places ++ map (in_segment (2 * chunk)) tasks) ++ map (in_segment (2 * chunk + 1)) repeats)
      ((received ++ opened) ++ again)
  receives_end =
      ran_more other v mid w (257 * chunk + 256) (257 * suc chunk) (2 * chunk + 1)
      (places ++ map (in_segment (2 * chunk)) tasks) (received ++ opened) repeats again
      other_founded receives_mid replays from_repeats below_repeats (omega arith)
      (replay_ascends chunk (256 * chunk) later)
      (replay_plain chunk (256 * chunk) later) few_repeats

  many_again : length again ≡ length repeats
  many_again =
      all_given other v mid w (257 * chunk + 256) (257 * suc chunk) (2 * chunk + 1)
      (places ++ map (in_segment (2 * chunk)) tasks) (received ++ opened) repeats again
      other_founded receives_mid replays from_repeats below_repeats (omega arith)
      (replay_ascends chunk (256 * chunk) later)
      (replay_plain chunk (256 * chunk) later) few_repeats

  places_are : (places ++ map (in_segment (2 * chunk)) tasks) ++ map (in_segment (2 * chunk + 1)) repeats
      ≡ of_chunks opened_places (suc chunk) (sent ++ later)
  places_are =
      append_assoc places (map (in_segment (2 * chunk)) tasks) (map (in_segment (2 * chunk + 1)) repeats)
      ∙ sym (chunks_more opened_places chunk sent later many_before (let many = many_later in omega arith))

  -- ---- the frames

  abbrev first_frames : List ℕ
  first_frames = protected_frames (256 * chunk) later

  abbrev again_frames : List ℕ
  again_frames = replayed_frames (256 * chunk) later

  frames_are : of_chunks opened_frames (suc chunk) (sent ++ later) ≡ (frames ++ first_frames) ++ again_frames
  frames_are =
      chunks_more opened_frames chunk sent later many_before (let many = many_later in omega arith)
      ∙ sym (append_assoc frames first_frames again_frames)

  as_many : length (received ++ opened) ≡ length (frames ++ first_frames)
  as_many =
      let old = so_far.as_many in
      let new = many_opened in
      let same = (few_opens chunk (256 * chunk) later).same in
      let a = length-append received opened in
      let b = length-append frames first_frames in omega arith

  all_accepted : count_given (of_chunks opened_frames (suc chunk) (sent ++ later)) ((received ++ opened) ++ again)
      ≡ before.accepted + more.accepted
  all_accepted =
      let split = ap (λ (ns : List ℕ). count_given ns ((received ++ opened) ++ again)) frames_are in
      let last = given_both (frames ++ first_frames) again_frames (received ++ opened) again as_many in
      let front = given_both frames first_frames received opened so_far.as_many in
      let opened_is = accepted_given chunk (256 * chunk) later opened in
      let again_is = fields_given chunk (256 * chunk) later again many_again in
      let old = so_far.accepted in
      let new = accepted in omega arith

  all_rejected : count_code codes_of.NUMBER ((received ++ opened) ++ again) ≡ before.rejected + more.rejected
  all_rejected =
      let last = counted_both (λ (answer : Answer). answer.code == codes_of.NUMBER) (received ++ opened) again in
      let front = counted_both (λ (answer : Answer). answer.code == codes_of.NUMBER) received opened in
      let old = so_far.rejected in
      let new = rejected in omega arith

  all_protected : count_code codes_of.PROTECTED (sent ++ later) ≡ before.protected + more.protected
  all_protected =
      let both = counted_both (λ (answer : Answer). answer.code == codes_of.PROTECTED) sent later in
      let old = so_far.protected in
      let new = protected in omega arith

  all_wants : list_any says_no_memory ((sent ++ later) ++ ((received ++ opened) ++ again)) ≡ false
      → list_any says_no_memory (earlier ++ (later ++ (opened ++ again))) ≡ false
  all_wants none =
      let units = parts_want (sent ++ later) ((received ++ opened) ++ again) none in
      let first = parts_want sent later units.0 in
      let second = parts_want (received ++ opened) again units.1 in
      let third = parts_want received opened second.0 in
      both_want earlier (later ++ (opened ++ again)) (so_far.wants (both_want sent received first.0 third.0))
      (both_want later (opened ++ again) first.1 (both_want opened again third.1 second.1))

  pub chunk_more : RanChunks one other s t v w (256 * chunk + n) (suc chunk) (earlier ++ (later ++ (opened ++ again)))
      (sum_of before more)
  chunk_more = record {
    sent = sent ++ later;
    received = (received ++ opened) ++ again;
    sends = sends_more one s t0 t chunk n sent later founded so_far.sends protects small few;
    receives = subst (λ (ps : List Place). RanSoFar other v w (257 * suc chunk) ps ((received ++ opened) ++ again))
        places_are receives_end;
    as_many = (
        let front = as_many in
        let last = many_again in
        let same = (few_replays chunk (256 * chunk) later).same in
        let a = length-append (received ++ opened) again in
        let b = length-append (frames ++ first_frames) again_frames in
        let c = ap length frames_are in omega arith);
    few = (
        let low = so_far.few in
        let a = length-append received opened in
        let b = length-append (received ++ opened) again in
        let c = many_opened in
        let d = many_again in
        let opens_few = few_opens chunk (256 * chunk) later in
        let e = opens_few.same in
        let f = opens_few.few in
        let replays_few = few_replays chunk (256 * chunk) later in
        let g = replays_few.same in
        let h = replays_few.few in
        let many = many_later in omega arith);
    protected = sym all_protected;
    lost = (let old = so_far.lost in let new = lost in omega arith);
    accepted = sym all_accepted;
    rejected = sym all_rejected;
    wants = all_wants;
  }

-- ---- the whole drill

module _ (one other : Begin) (number : ℕ) (s v : View) (few : number ≤ 100000) (sends : UnitIsOpened sender_plan one s)
    (receives : UnitIsOpened receiver_plan other v) where
  chunks_ran : (chunks : ℕ) → 256 * chunks < number + 256 → (t w : View) (answers : List Answer) (counts : Counts)
      → AreChunks one other number s v chunks t w answers counts
      → RanChunks one other s t v w (min number (256 * chunks)) chunks answers counts
  chunks_ran zero low t w answers counts are =
      let none : min number (256 * 0) ≡ 0 = omega arith in
      let ran = none_chunks one other s v (none_ran one s sends.opened sends.whole)
      (none_ran other v receives.opened receives.whole) in
      subst (λ (m : ℕ). RanChunks one other s t v w m 0 answers counts) (sym none)
      (subst (λ (c : Counts). RanChunks one other s t v w 0 0 answers c) (sym are.3)
      (subst (λ (given : List Answer). RanChunks one other s t v w 0 0 given no_counts) (sym are.2)
      (subst (λ (x : View). RanChunks one other s x v w 0 0 [] no_counts) (sym are.0)
      (subst (λ (x : View). RanChunks one other s s v x 0 0 [] no_counts) (sym are.1) ran))))
  chunks_ran (suc chunks) low t w answers counts (t0, w0, earlier, before, more, prior, chunk, answers_are, counts_are)
      =
      let so_far = chunks_ran chunks (omega arith) t0 w0 earlier before prior in
      let whole : min number (256 * chunks) ≡ 256 * chunks = omega arith in
      let n : ℕ = min number (256 * (chunks + 1)) - 256 * chunks in
      let frames : 256 * chunks + n ≡ min number (256 * suc chunks) = omega arith in
      let ran = chunk_more one other s t0 t v w0 chunk.mid w chunks n earlier before more
      (founded_so sender_plan one s sends) (founded_so receiver_plan other v receives)
      (subst (λ (m : ℕ). RanChunks one other s t0 v w0 m chunks earlier before) whole so_far) (omega arith)
      (omega arith)
      chunk.sent chunk.opened chunk.again chunk.protects chunk.opens chunk.replays chunk.protected chunk.lost
      chunk.accepted chunk.rejected in
      subst (λ (c : Counts). RanChunks one other s t v w (min number (256 * suc chunks)) (suc chunks) answers c)
      (sym counts_are)
      (subst (λ (given : List Answer). RanChunks one other s t v w (min number (256 * suc chunks)) (suc chunks) given
      (sum_of before more)) (sym answers_are)
      (subst (λ (m : ℕ). RanChunks one other s t v w m (suc chunks)
      (earlier ++ (chunk.sent ++ (chunk.opened ++ chunk.again))) (sum_of before more)) frames ran))

pub drill_sound : (number : ℕ) (answers : List Answer) (counts : Counts) → number ≤ 100000
    → HandlesDrill number answers counts
    → IsComplete number answers counts → IsDrilled number counts
drill_sound number answers counts few is complete =
    let all : min number (256 * ((number + 255) / 256)) ≡ number = omega arith in
    let ran : RanChunks is.sender is.receiver is.s is.t is.v is.w number ((number + 255) / 256) answers counts =
    subst (λ (m : ℕ). RanChunks is.sender is.receiver is.s is.t is.v is.w m ((number + 255) / 256) answers counts) all
    (chunks_ran is.sender is.receiver number is.s is.v few is.sends is.receives ((number + 255) / 256)
    (omega arith) is.t is.w answers counts is.chunks) in
    record {
      sent = ran.sent;
      received = ran.received;
      sends = runs_soundly sender_plan is.sender is.s is.t number (sent_places number) ran.sent is.sends ran.sends;
      receives = runs_soundly receiver_plan is.receiver is.v is.w (257 * ((number + 255) / 256))
          (of_chunks opened_places ((number + 255) / 256) ran.sent) ran.received
          is.receives ran.receives;
      protected = ran.protected;
      lost = ran.lost;
      accepted = ran.accepted;
      rejected = ran.rejected;
      complete = λ none. complete (ran.wants none);
    }
