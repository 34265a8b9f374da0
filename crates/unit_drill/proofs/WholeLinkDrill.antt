-- A whole drill over a link.
use Rattle.std.proofs.Common.{◌≡◌, ℕ, zero, suc, ◌+◌, ◌-◌, ◌*◌, ◌/◌, ◌==◌, ◌<◌, ◌≤◌, min, true, false, List, [], ◌++◌}
use Rattle.std.proofs.Common.{length, refl, sym, ◌∙◌, ap, subst, arith}
use Rattle.std.specs.List.{All, list_any}
use Rattle.std.proofs.lemmas.Bool.{eq-eqb, or_parts}
use Rattle.std.proofs.lemmas.List.{get_or_append_left, get_or-append-add}
use Rattle.std.proofs.lemmas.List.Elements.{All-from_get_or, All-weaker}
use Rattle.std.proofs.lemmas.List.Folds.{list_any-append}
use Rattle.record_io.specs.declared.answers.Answer.{Answer}
use Rattle.record_io.specs.declared.code.TheConstants as codes_of
use Rattle.counter_table.specs.declared.view.View.{View}
use Rattle.run_promise.specs.Call.{Begin}
use Rattle.unit_drill.specs.declared.counts.Counts.{Counts}
use Rattle.unit_drill.specs.Arriving.{arrived_frames, arrived_tasks, count_lost}
use Rattle.unit_drill.specs.Counting.{count_code, count_given, no_counts, sum_of}
use Rattle.unit_drill.specs.Frames.{protect_tasks}
use Rattle.unit_drill.specs.Chunks.{HandlesSegment, UnitIsOpened}
use Rattle.unit_drill.specs.Plans.{receiver_plan, sender_plan}
use Rattle.unit_drill.proofs.Read.{receiver_bare, sender_bare}
use Rattle.unit_drill.proofs.Judging.{receiving}
use Rattle.unit_drill.proofs.Lanes.{begun, each}
use Rattle.unit_drill.proofs.Lists.{all_counted}
use Rattle.unit_drill.proofs.Beginnings.{ShowsOne, Starts, receiver_begins, sender_begins}
use Rattle.unit_drill.proofs.OpenedChunks.{IsSent}
use Rattle.unit_drill.proofs.Opening.{OpensOnce}
use Rattle.unit_drill.proofs.Receiving.{AreSent}
use Rattle.unit_drill.proofs.Reserving.{sending}
use Rattle.unit_drill.proofs.SentChunks.{SentAll, answered, are_sent, at, blank, none_sent, numbers_in, octets_in}
use Rattle.unit_drill.proofs.SentChunks.{sent_more}
use Rattle.unit_drill.specs.LinkChunks.{AreLinkChunks, HandlesLinkDrill}
use Rattle.unit_drill.specs.OverLink.{AreAllCounted, arrived_of, lost_of}
use Rattle.unit_drill.specs.UnitRun.{says_no_memory}
use Rattle.unit_drill.proofs.ArrivedFrames.{arrived_all, lost_all}
use Rattle.unit_drill.proofs.OpenedLinkChunks.{TakenLink, none_taken, taken_chunk, told_all}

-- the first chunks: so many frames, all of them protected, and told as often as they arrived
pub record LinkServed (one other : Begin) (s t v w : View) (frames chunks : ℕ) (counts : Counts) : Type 0 where
  pub sent : List Answer
  pub sent_all : SentAll one s t frames sent
  pub taken : TakenLink other v w frames chunks (octets_in sent)
  pub counted : AreAllCounted frames counts

module _ (once : OpensOnce) (one other : Begin) (s t0 t v w0 w : View) (chunk n : ℕ) (before more : Counts)
    (sends : Starts one sender_bare (sending (each 1)))
    (receives : Starts other receiver_bare (receiving begun (each 0)))
    (so_far : LinkServed one other s t0 v w0 (256 * chunk) chunk before) (short : n ≤ 256)
    (few : 256 * chunk + n ≤ 100000)
    (later opened : List Answer) (protects : HandlesSegment one t0 t (protect_tasks (256 * chunk) n) later)
    (opens : HandlesSegment other w0 w
    (arrived_tasks (1024 * chunk) (256 * chunk) later (arrived_frames (256 * chunk) later)) opened)
    (want_later : list_any says_no_memory later ≡ false) (want_opened : list_any says_no_memory opened ≡ false)
    (protected : more.protected ≡ count_code codes_of.PROTECTED later) (lost : more.lost ≡ count_lost later)
    (accepted : more.accepted ≡ count_given (arrived_frames (256 * chunk) later) opened)
    (rejected : more.rejected ≡ count_code codes_of.NUMBER opened) where
  abbrev sent : List Answer
  sent = so_far.sent

  many : length later ≡ n
  many = answered one s t0 t (256 * chunk) n sent later sends so_far.sent_all protects few want_later

  all : SentAll one s t (256 * chunk + n) (sent ++ later)
  all = sent_more one s t0 t (256 * chunk) n sent later sends so_far.sent_all protects few want_later

  there : (j : ℕ) → at (sent ++ later) (256 * chunk + j) ≡ at later j
  there j =
      let long = so_far.sent_all.many in
      (let e : 256 * chunk + j ≡ length sent + j = omega arith in ap (at (sent ++ later)) e)
      ∙ get_or-append-add sent later j blank

  codes : All IsSent later
  codes =
      let is = many in
      All-from_get_or IsSent later blank
      (λ j low. subst (λ (a : Answer). IsSent a) (there j) (all.each_is (256 * chunk + j) (omega arith)).code)

  same : (i : ℕ) → i < 256 * chunk → octets_in sent i ≡ octets_in (sent ++ later) i
  same i low =
      let long = so_far.sent_all.many in ap (λ (a : Answer). a.body)
      (sym (get_or_append_left sent later blank i (omega arith)))

  own : (j : ℕ) → j < length later → octets_in (sent ++ later) (256 * chunk + j) ≡ (at later j).body
  own j low = ap (λ (a : Answer). a.body) (there j)

  total : 256 * chunk + length later ≡ 256 * chunk + n
  total = ap (λ (m : ℕ). 256 * chunk + m) many

  are : AreSent (256 * chunk + length later) (numbers_in (sent ++ later)) (octets_in (sent ++ later))
  are =
      subst (λ (m : ℕ). AreSent m (numbers_in (sent ++ later)) (octets_in (sent ++ later))) (sym total)
      (are_sent one s t (256 * chunk + n) (sent ++ later) all)

  pub served_by : LinkServed one other s t v w (256 * chunk + n) (chunk + 1) (sum_of before more)
  served_by =
      let is_many = many in
      let sum = total in
      let taken = taken_chunk once other v w0 w chunk (octets_in sent) (octets_in (sent ++ later))
      (numbers_in (sent ++ later)) receives so_far.taken
      later codes (omega arith) (omega arith) same own are opened opens want_opened in
      let told = told_all once other v w0 w chunk (octets_in sent) (octets_in (sent ++ later))
      (numbers_in (sent ++ later)) receives so_far.taken
      later codes (omega arith) (omega arith) same own are opened opens want_opened in
      let all_protected : count_code codes_of.PROTECTED later ≡ length later =
      all_counted (λ (answer : Answer). answer.code == codes_of.PROTECTED) later
      (All-weaker IsSent (λ (answer : Answer). (answer.code == codes_of.PROTECTED) ≡ true)
      (λ answer is. eq-eqb answer.code codes_of.PROTECTED is) later codes) in
      let lost_later = lost_all chunk later codes (omega arith) in
      let arrived_later = arrived_all chunk (length later) (omega arith) in
      let lost_is = ap lost_of sum in
      let arrived_is = ap arrived_of sum in
      let earlier = so_far.counted in
      let a = earlier.protected in
      let b = earlier.lost in
      let c = earlier.told in
      record {
        sent = sent ++ later;
        sent_all = all;
        taken = subst (λ (m : ℕ). TakenLink other v w m (chunk + 1) (octets_in (sent ++ later))) total taken;
        counted = record { protected = omega arith; lost = omega arith; told = omega arith };
      }

module _ (once : OpensOnce) (one_state : ShowsOne) (one other : Begin) (number : ℕ) (s v : View) (few : number ≤ 100000)
    (sends : UnitIsOpened sender_plan one s)
    (receives : UnitIsOpened receiver_plan other v) where
  pub chunks_served : (chunks : ℕ) → 256 * chunks < number + 256
      → (t w : View) (answers : List Answer) (counts : Counts)
      → AreLinkChunks one other number s v chunks t w answers counts → list_any says_no_memory answers ≡ false
      → LinkServed one other s t v w (min number (256 * chunks)) chunks counts
  chunks_served zero low t w answers counts are wants =
      let none : min number (256 * 0) ≡ 0 = omega arith in
      let served : LinkServed one other s s v v 0 0 no_counts = record {
        sent = [];
        sent_all = none_sent one s sends.opened sends.began.rows sends.whole (sender_begins one_state one s sends);
        taken = none_taken other v (octets_in []) receives.opened receives.began.rows receives.whole
            (receiver_begins one_state other v receives);
        counted = record { protected = refl; lost = refl; told = refl };
      } in
      subst (λ (m : ℕ). LinkServed one other s t v w m 0 counts) (sym none)
      (subst (λ (c : Counts). LinkServed one other s t v w 0 0 c) (sym are.3)
      (subst (λ (x : View). LinkServed one other s x v w 0 0 no_counts) (sym are.0)
      (subst (λ (x : View). LinkServed one other s s v x 0 0 no_counts) (sym are.1) served)))
  chunks_served (suc chunks) low t w answers counts
      (t0, w0, earlier, before, more, prior, chunk, answers_are, counts_are) wants =
      let split = or_parts (list_any says_no_memory earlier) (list_any says_no_memory (chunk.sent ++ chunk.opened))
      (sym (list_any-append says_no_memory earlier (chunk.sent ++ chunk.opened))
      ∙ (ap (list_any says_no_memory) (sym answers_are) ∙ wants)) in
      let both = or_parts (list_any says_no_memory chunk.sent) (list_any says_no_memory chunk.opened)
      (sym (list_any-append says_no_memory chunk.sent chunk.opened) ∙ split.1) in
      let so_far = chunks_served chunks (omega arith) t0 w0 earlier before prior split.0 in
      let whole : min number (256 * chunks) ≡ 256 * chunks = omega arith in
      let n : ℕ = min number (256 * (chunks + 1)) - 256 * chunks in
      let frames : 256 * chunks + n ≡ min number (256 * suc chunks) = omega arith in
      let next : chunks + 1 ≡ suc chunks = omega arith in
      let served = served_by once one other s t0 t v w0 w chunks n before more (sender_begins one_state one s sends)
      (receiver_begins one_state other v receives)
      (subst (λ (m : ℕ). LinkServed one other s t0 v w0 m chunks before) whole so_far) (omega arith) (omega arith)
      chunk.sent chunk.opened chunk.protects chunk.opens both.0 both.1 chunk.protected chunk.lost chunk.accepted
      chunk.rejected in
      subst (λ (c : Counts). LinkServed one other s t v w (min number (256 * suc chunks)) (suc chunks) c)
      (sym counts_are)
      (subst (λ (m : ℕ). LinkServed one other s t v w m (suc chunks) (sum_of before more)) frames
      (subst (λ (k : ℕ). LinkServed one other s t v w (256 * chunks + n) k (sum_of before more)) next served))

pub link_complete : OpensOnce → ShowsOne → (number : ℕ) (answers : List Answer) (counts : Counts) → number ≤ 100000
    → HandlesLinkDrill number answers counts
    → list_any says_no_memory answers ≡ false → AreAllCounted number counts
link_complete once one_state number answers counts few is wants =
    let served = chunks_served once one_state is.sender is.receiver number is.s is.v few is.sends is.receives
    ((number + 255) / 256)
    (omega arith) is.t is.w answers counts is.chunks wants in
    let all : min number (256 * ((number + 255) / 256)) ≡ number = omega arith in
    subst (λ (m : ℕ). AreAllCounted m counts) all served.counted
