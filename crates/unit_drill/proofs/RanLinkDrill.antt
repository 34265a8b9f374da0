-- The chunks of a drill over a link are two sound runs: for `link_drill_is_sound`.
use Rattle.std.proofs.Common.{◌≡◌, ℕ, zero, suc, ◌+◌, ◌-◌, ◌*◌, ◌/◌, ◌==◌, ◌<◌, ◌≤◌, min, false, List, [], ◌∷◌, ◌++◌}
use Rattle.std.proofs.Common.{length, map, refl, sym, ◌∙◌, ap, subst, arith}
use Rattle.std.specs.List.{All, list_any, sum}
use Rattle.std.proofs.lemmas.List.{length-append}
use Rattle.std.proofs.lemmas.List.Sums.{sum_by-append, sum_by-cons}
use Rattle.counter_table.specs.declared.view.View.{View}
use Rattle.law_runs.specs.Doing.{IsFounded}
use Rattle.record_io.specs.declared.answers.Answer.{Answer}
use Rattle.record_io.specs.declared.code.TheConstants as codes_of
use Rattle.record_io.specs.declared.item_cursor.Record.{Record}
use Rattle.record_io.specs.Places.{Place}
use Rattle.run_promise.specs.Call.{Begin}
use Rattle.unit_drill.specs.declared.counts.Counts.{Counts}
use Rattle.unit_drill.specs.Arriving.{arrived_frames, arrived_tasks, count_lost}
use Rattle.unit_drill.specs.Chunks.{HandlesSegment, UnitIsOpened}
use Rattle.unit_drill.specs.Counting.{count_code, count_given, no_counts, sum_of}
use Rattle.unit_drill.specs.Frames.{protect_tasks}
use Rattle.unit_drill.specs.LinkChunks.{AreLinkChunks, HandlesLinkDrill}
use Rattle.unit_drill.specs.OverLink.{IsLinkComplete, IsLinkDrilled, arrived_places, frames_arrived, lost_count}
use Rattle.unit_drill.specs.Plans.{receiver_plan, sender_plan}
use Rattle.unit_drill.specs.UnitRun.{in_segment, of_chunks, sent_places, says_no_memory}
use Rattle.unit_drill.proofs.ArrivedRecords.{arrived_ascends, arrived_below, arrived_from, arrived_plain, many_tasks}
use Rattle.unit_drill.proofs.Joined.{both_want, chunks_more, counted_both, few_frames, given_both, parts_want}
use Rattle.unit_drill.proofs.Lists.{Below}
use Rattle.unit_drill.proofs.RanDrill.{many_sent, sends_more, sent_all}
use Rattle.unit_drill.proofs.SoFar.{RanSoFar, all_given, founded_so, none_ran, ran_more, runs_soundly}

sum_more : (xs : List ℕ) (n : ℕ) → sum (xs ++ n ∷ []) ≡ sum xs + n
sum_more xs n =
    let both = sum_by-append (λ (x : ℕ). x) xs (n ∷ []) in
    let one = sum_by-cons (λ (x : ℕ). x) n [] in omega arith

-- the first chunks are two runs, with these counts
pub record RanLinkChunks (one other : Begin) (s t v w : View) (frames chunks : ℕ) (answers : List Answer)
    (counts : Counts) : Type 0 where
  pub sent : List Answer
  pub received : List Answer
  pub sends : RanSoFar one s t frames (sent_places frames) sent
  pub receives : RanSoFar other v w (4 * (1024 * chunks)) (of_chunks arrived_places chunks sent) received
  pub as_many : length received ≡ length (of_chunks frames_arrived chunks sent)
  pub few : length received ≤ 768 * chunks
  pub protected : counts.protected ≡ count_code codes_of.PROTECTED sent
  pub lost : counts.lost ≡ sum (of_chunks lost_count chunks sent)
  pub accepted : counts.accepted ≡ count_given (of_chunks frames_arrived chunks sent) received
  pub rejected : counts.rejected ≡ count_code codes_of.NUMBER received
  pub wants : list_any says_no_memory (sent ++ received) ≡ false → list_any says_no_memory answers ≡ false

none_chunks : (one other : Begin) (s v : View) → RanSoFar one s s 0 [] [] → RanSoFar other v v 0 [] []
    → RanLinkChunks one other s s v v 0 0 [] no_counts
none_chunks one other s v sends receives = record {
  sent = [];
  received = [];
  sends = sends;
  receives = receives;
  as_many = refl;
  few = omega arith;
  protected = refl;
  lost = refl;
  accepted = refl;
  rejected = refl;
  wants = λ none. refl;
}

-- a chunk more
module _ (one other : Begin) (s t0 t v w0 w : View) (chunk n : ℕ) (earlier : List Answer) (before more : Counts)
    (founded : IsFounded one s) (other_founded : IsFounded other v)
    (so_far : RanLinkChunks one other s t0 v w0 (256 * chunk) chunk earlier before)
    (small : n ≤ 256) (few : 256 * chunk + n ≤ 100000) (later opened : List Answer)
    (protects : HandlesSegment one t0 t (protect_tasks (256 * chunk) n) later)
    (opens : HandlesSegment other w0 w
    (arrived_tasks (1024 * chunk) (256 * chunk) later (arrived_frames (256 * chunk) later)) opened)
    (protected : more.protected ≡ count_code codes_of.PROTECTED later) (lost : more.lost ≡ count_lost later)
    (accepted : more.accepted ≡ count_given (arrived_frames (256 * chunk) later) opened)
    (rejected : more.rejected ≡ count_code codes_of.NUMBER opened) where
  abbrev sent : List Answer
  sent = so_far.sent

  abbrev received : List Answer
  received = so_far.received

  abbrev places : List Place
  places = of_chunks arrived_places chunk sent

  abbrev frames : List ℕ
  frames = of_chunks frames_arrived chunk sent

  abbrev new_frames : List ℕ
  new_frames = arrived_frames (256 * chunk) later

  abbrev tasks : List Record
  tasks = arrived_tasks (1024 * chunk) (256 * chunk) later new_frames

  many_later : length later ≡ n
  many_later = many_sent one s t0 t chunk n sent later founded so_far.sends protects small few

  many_before : length sent ≡ 256 * chunk
  many_before = sent_all one s t0 (256 * chunk) (256 * chunk) sent so_far.sends

  few_new : length new_frames ≤ 768
  few_new = let a = few_frames (256 * chunk) later in let many = many_later in omega arith

  below_tasks : All (Below (4 * (1024 * suc chunk))) tasks
  below_tasks = arrived_below (1024 * suc chunk) (1024 * chunk) (256 * chunk) later new_frames
      (let low = few_new in omega arith)

  few_tasks : length places + length tasks ≤ 400000
  few_tasks =
      let all = so_far.receives.answered in
      let low = so_far.few in
      let new = few_new in
      let same = many_tasks (1024 * chunk) (256 * chunk) later new_frames in omega arith

  receives_end : RanSoFar other v w (4 * (1024 * suc chunk)) (places ++ map (in_segment chunk) tasks)
      (received ++ opened)
  receives_end =
      ran_more other v w0 w (4 * (1024 * chunk)) (4 * (1024 * suc chunk)) chunk places received tasks opened
      other_founded so_far.receives opens
      (arrived_from (1024 * chunk) (256 * chunk) later new_frames) below_tasks (omega arith)
      (arrived_ascends (1024 * chunk) (256 * chunk) later new_frames)
      (arrived_plain (1024 * chunk) (256 * chunk) later new_frames) few_tasks

  many_opened : length opened ≡ length new_frames
  many_opened =
      all_given other v w0 w (4 * (1024 * chunk)) (4 * (1024 * suc chunk)) chunk places received tasks opened
      other_founded so_far.receives opens
      (arrived_from (1024 * chunk) (256 * chunk) later new_frames) below_tasks (omega arith)
      (arrived_ascends (1024 * chunk) (256 * chunk) later new_frames)
      (arrived_plain (1024 * chunk) (256 * chunk) later new_frames) few_tasks
      ∙ many_tasks (1024 * chunk) (256 * chunk) later new_frames

  places_are : of_chunks arrived_places (suc chunk) (sent ++ later) ≡ places ++ map (in_segment chunk) tasks
  places_are = chunks_more arrived_places chunk sent later many_before (let many = many_later in omega arith)

  frames_are : of_chunks frames_arrived (suc chunk) (sent ++ later) ≡ frames ++ new_frames
  frames_are = chunks_more frames_arrived chunk sent later many_before (let many = many_later in omega arith)

  all_protected : count_code codes_of.PROTECTED (sent ++ later) ≡ before.protected + more.protected
  all_protected =
      let both = counted_both (λ (answer : Answer). answer.code == codes_of.PROTECTED) sent later in
      let old = so_far.protected in
      let new = protected in omega arith

  all_lost : sum (of_chunks lost_count (suc chunk) (sent ++ later)) ≡ before.lost + more.lost
  all_lost =
      let split = ap sum (chunks_more lost_count chunk sent later many_before (let many = many_later in omega arith)) in
      let both = sum_more (of_chunks lost_count chunk sent) (count_lost later) in
      let old = so_far.lost in
      let new = lost in omega arith

  all_accepted : count_given (of_chunks frames_arrived (suc chunk) (sent ++ later)) (received ++ opened)
      ≡ before.accepted + more.accepted
  all_accepted =
      let split = ap (λ (ns : List ℕ). count_given ns (received ++ opened)) frames_are in
      let both = given_both frames new_frames received opened so_far.as_many in
      let old = so_far.accepted in
      let new = accepted in omega arith

  all_rejected : count_code codes_of.NUMBER (received ++ opened) ≡ before.rejected + more.rejected
  all_rejected =
      let both = counted_both (λ (answer : Answer). answer.code == codes_of.NUMBER) received opened in
      let old = so_far.rejected in
      let new = rejected in omega arith

  all_wants : list_any says_no_memory ((sent ++ later) ++ (received ++ opened)) ≡ false
      → list_any says_no_memory (earlier ++ (later ++ opened)) ≡ false
  all_wants none =
      let units = parts_want (sent ++ later) (received ++ opened) none in
      let first = parts_want sent later units.0 in
      let second = parts_want received opened units.1 in
      both_want earlier (later ++ opened) (so_far.wants (both_want sent received first.0 second.0))
      (both_want later opened first.1 second.1)

  chunk_more : RanLinkChunks one other s t v w (256 * chunk + n) (suc chunk) (earlier ++ (later ++ opened))
      (sum_of before more)
  chunk_more = record {
    sent = sent ++ later;
    received = received ++ opened;
    sends = sends_more one s t0 t chunk n sent later founded so_far.sends protects small few;
    receives = subst (λ (ps : List Place). RanSoFar other v w (4 * (1024 * suc chunk)) ps (received ++ opened))
        (sym places_are) receives_end;
    as_many = (
        let old = so_far.as_many in
        let new = many_opened in
        let a = length-append received opened in
        let b = length-append frames new_frames in
        let c = ap length frames_are in omega arith);
    few = (
        let low = so_far.few in
        let new = many_opened in
        let most = few_new in
        let a = length-append received opened in omega arith);
    protected = sym all_protected;
    lost = sym all_lost;
    accepted = sym all_accepted;
    rejected = sym all_rejected;
    wants = all_wants;
  }

-- the whole drill
module _ (one other : Begin) (number : ℕ) (s v : View) (few : number ≤ 100000) (sends : UnitIsOpened sender_plan one s)
    (receives : UnitIsOpened receiver_plan other v) where
  chunks_ran : (chunks : ℕ) → 256 * chunks < number + 256 → (t w : View) (answers : List Answer) (counts : Counts)
      → AreLinkChunks one other number s v chunks t w answers counts
      → RanLinkChunks one other s t v w (min number (256 * chunks)) chunks answers counts
  chunks_ran zero low t w answers counts are =
      let none : min number (256 * 0) ≡ 0 = omega arith in
      let ran = none_chunks one other s v (none_ran one s sends.opened sends.whole)
      (none_ran other v receives.opened receives.whole) in
      subst (λ (m : ℕ). RanLinkChunks one other s t v w m 0 answers counts) (sym none)
      (subst (λ (c : Counts). RanLinkChunks one other s t v w 0 0 answers c) (sym are.3)
      (subst (λ (given : List Answer). RanLinkChunks one other s t v w 0 0 given no_counts) (sym are.2)
      (subst (λ (x : View). RanLinkChunks one other s x v w 0 0 [] no_counts) (sym are.0)
      (subst (λ (x : View). RanLinkChunks one other s s v x 0 0 [] no_counts) (sym are.1) ran))))
  chunks_ran (suc chunks) low t w answers counts (t0, w0, earlier, before, more, prior, chunk, answers_are, counts_are)
      =
      let so_far = chunks_ran chunks (omega arith) t0 w0 earlier before prior in
      let whole : min number (256 * chunks) ≡ 256 * chunks = omega arith in
      let n : ℕ = min number (256 * (chunks + 1)) - 256 * chunks in
      let frames : 256 * chunks + n ≡ min number (256 * suc chunks) = omega arith in
      let ran = chunk_more one other s t0 t v w0 w chunks n earlier before more (founded_so sender_plan one s sends)
      (founded_so receiver_plan other v receives)
      (subst (λ (m : ℕ). RanLinkChunks one other s t0 v w0 m chunks earlier before) whole so_far) (omega arith)
      (omega arith)
      chunk.sent chunk.opened chunk.protects chunk.opens chunk.protected chunk.lost chunk.accepted chunk.rejected in
      subst (λ (c : Counts). RanLinkChunks one other s t v w (min number (256 * suc chunks)) (suc chunks) answers c)
      (sym counts_are)
      (subst (λ (given : List Answer). RanLinkChunks one other s t v w (min number (256 * suc chunks))
      (suc chunks) given (sum_of before more)) (sym answers_are)
      (subst (λ (m : ℕ). RanLinkChunks one other s t v w m (suc chunks) (earlier ++ (chunk.sent ++ chunk.opened))
      (sum_of before more)) frames ran))

pub link_sound : (number : ℕ) (answers : List Answer) (counts : Counts) → number ≤ 100000
    → HandlesLinkDrill number answers counts
    → IsLinkComplete number answers counts → IsLinkDrilled number counts
link_sound number answers counts few is complete =
    let all : min number (256 * ((number + 255) / 256)) ≡ number = omega arith in
    let ran : RanLinkChunks is.sender is.receiver is.s is.t is.v is.w number ((number + 255) / 256) answers counts =
    subst (λ (m : ℕ). RanLinkChunks is.sender is.receiver is.s is.t is.v is.w m ((number + 255) / 256) answers counts)
    all
    (chunks_ran is.sender is.receiver number is.s is.v few is.sends is.receives ((number + 255) / 256)
    (omega arith) is.t is.w answers counts is.chunks) in
    record {
      sent = ran.sent;
      received = ran.received;
      sends = runs_soundly sender_plan is.sender is.s is.t number (sent_places number) ran.sent is.sends ran.sends;
      receives = runs_soundly receiver_plan is.receiver is.v is.w (4 * (1024 * ((number + 255) / 256)))
          (of_chunks arrived_places ((number + 255) / 256) ran.sent) ran.received is.receives ran.receives;
      protected = ran.protected;
      lost = ran.lost;
      accepted = ran.accepted;
      rejected = ran.rejected;
      complete = λ none. complete (ran.wants none);
    }
