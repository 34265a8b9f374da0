-- A whole drill.
use Rattle.std.proofs.Common.{◌≡◌, ℕ, zero, suc, ◌+◌, ◌-◌, ◌*◌, ◌/◌, ◌==◌, ◌<◌, ◌≤◌, min, true, false, List, [], ◌∷◌}
use Rattle.std.proofs.Common.{◌++◌, length, refl, sym, ◌∙◌, ap, subst, arith}
use Rattle.std.specs.List.{All, list_any}
use Rattle.std.proofs.lemmas.Bool.{eq-eqb, or_parts}
use Rattle.std.proofs.lemmas.List.{get_or_append_left, get_or-append-add}
use Rattle.std.proofs.lemmas.List.Elements.{All-from_get_or, All-weaker}
use Rattle.std.proofs.lemmas.List.Folds.{list_any-append}
use Rattle.record_io.specs.declared.answers.Answer.{Answer}
use Rattle.record_io.specs.declared.code.TheConstants as codes_of
use Rattle.counter_table.specs.declared.view.View.{View}
use Rattle.run_promise.specs.Call.{Begin}
use Rattle.unit_drill.specs.declared.counts.Counts.{Counts}
use Rattle.unit_drill.specs.Counting.{count_accepted, count_code, count_fields, no_counts, sum_of}
use Rattle.unit_drill.specs.Frames.{open_tasks, protect_tasks, replay_tasks}
use Rattle.unit_drill.specs.Chunks.{AreChunks, HandlesDrill, HandlesSegment, UnitIsOpened}
use Rattle.unit_drill.specs.Drilled.{all_counts}
use Rattle.unit_drill.specs.UnitRun.{says_no_memory}
use Rattle.unit_drill.specs.Plans.{receiver_plan, sender_plan}
use Rattle.unit_drill.proofs.Read.{receiver_bare, sender_bare}
use Rattle.unit_drill.proofs.Judging.{receiving}
use Rattle.unit_drill.proofs.Lanes.{begun, each}
use Rattle.unit_drill.proofs.Lists.{all_counted}
use Rattle.unit_drill.proofs.Beginnings.{ShowsOne, Starts, receiver_begins, sender_begins}
use Rattle.unit_drill.proofs.OpenedChunks.{IsSent, TakenAll, accepted_all, none_taken, rejected_all, taken_chunk}
use Rattle.unit_drill.proofs.Opening.{OpensOnce}
use Rattle.unit_drill.proofs.Receiving.{AreSent}
use Rattle.unit_drill.proofs.Reserving.{sending}
use Rattle.unit_drill.proofs.SentChunks.{SentAll, answered, are_sent, at, blank, none_sent, numbers_in, octets_in}
use Rattle.unit_drill.proofs.SentChunks.{sent_more}

abbrev pub these : ℕ → ℕ → ℕ → ℕ → Counts
these protected lost accepted rejected =
    record { protected = protected; lost = lost; accepted = accepted; rejected = rejected }

same_counts : (a b : Counts) → a.protected ≡ b.protected → a.lost ≡ b.lost → a.accepted ≡ b.accepted
    → a.rejected ≡ b.rejected → a ≡ b
same_counts a b p l q r =
    ap (λ (n : ℕ). these n a.lost a.accepted a.rejected) p
    ∙ (ap (λ (n : ℕ). these b.protected n a.accepted a.rejected) l
    ∙ (ap (λ (n : ℕ). these b.protected b.lost n a.rejected) q ∙ ap (these b.protected b.lost b.accepted) r))

-- the first chunks: so many frames, all of them protected and accepted
pub record Served (one other : Begin) (s t v w : View) (frames chunks : ℕ) (counts : Counts) : Type 0 where
  pub sent : List Answer
  pub sent_all : SentAll one s t frames sent
  pub taken_all : TakenAll other v w frames chunks (octets_in sent)
  pub counts_are : counts ≡ these frames 0 frames chunks

module _ (once : OpensOnce) (one other : Begin) (s t0 t v w0 mid w : View) (chunk n : ℕ) (before more : Counts)
    (sends : Starts one sender_bare (sending (each 1)))
    (receives : Starts other receiver_bare (receiving begun (each 0)))
    (so_far : Served one other s t0 v w0 (256 * chunk) chunk before) (some : 1 ≤ n) (short : n ≤ 256)
    (few : 256 * chunk + n ≤ 100000) where
  abbrev sent : List Answer
  sent = so_far.sent

  served_by : (later opened again : List Answer) → HandlesSegment one t0 t (protect_tasks (256 * chunk) n) later
      → HandlesSegment other w0 mid (open_tasks chunk (256 * chunk) later) opened
      → HandlesSegment other mid w (replay_tasks chunk (256 * chunk) later) again → list_any says_no_memory later
      ≡ false → list_any says_no_memory opened ≡ false
      → list_any says_no_memory again ≡ false → more.protected ≡ count_code codes_of.PROTECTED later → more.lost ≡ 0
      → more.accepted ≡ count_accepted chunk (open_tasks chunk (256 * chunk) later) opened + count_fields
      (256 * chunk) again
      → more.rejected ≡ count_code codes_of.NUMBER opened + count_code codes_of.NUMBER again
      → Served one other s t v w (256 * chunk + n) (chunk + 1) (sum_of before more)
  served_by [] opened again protects opens replays want_later want_opened want_again protected lost accepted rejected =
      let h = answered one s t0 t (256 * chunk) n sent [] sends so_far.sent_all protects few want_later in absurd
      (omega arith)
  served_by (head ∷ rest) opened again protects opens replays want_later want_opened want_again protected lost accepted
      rejected =
      let later : List Answer = head ∷ rest in
      let many = answered one s t0 t (256 * chunk) n sent later sends so_far.sent_all protects few want_later in
      let all = sent_more one s t0 t (256 * chunk) n sent later sends so_far.sent_all protects few want_later in
      let long = so_far.sent_all.many in
      let there : (j : ℕ) → at (sent ++ later) (256 * chunk + j) ≡ at later j =
      λ j. (let e : 256 * chunk + j ≡ length sent + j = omega arith in ap (at (sent ++ later)) e)
      ∙ get_or-append-add sent later j blank in
      let codes : All IsSent later =
      All-from_get_or IsSent later blank
      (λ j low. subst (λ (a : Answer). IsSent a) (there j) (all.each_is (256 * chunk + j) (omega arith)).code) in
      let same : (i : ℕ) → i < 256 * chunk → octets_in sent i ≡ octets_in (sent ++ later) i =
      λ i low. ap (λ (a : Answer). a.body) (sym (get_or_append_left sent later blank i (omega arith))) in
      let own : (j : ℕ) → j < length later → octets_in (sent ++ later) (256 * chunk + j) ≡ (at later j).body =
      λ j low. ap (λ (a : Answer). a.body)
      (there j) in
      let total : 256 * chunk + length later ≡ 256 * chunk + n = omega arith in
      let are : AreSent (256 * chunk + length later) (numbers_in (sent ++ later)) (octets_in (sent ++ later)) =
      subst (λ (m : ℕ). AreSent m (numbers_in (sent ++ later)) (octets_in (sent ++ later))) (sym total)
      (are_sent one s t (256 * chunk + n)
      (sent ++ later) all) in
      let taken = taken_chunk once other v w0 mid w chunk (octets_in sent) (octets_in (sent ++ later))
      (numbers_in (sent ++ later)) receives so_far.taken_all
      head rest codes (omega arith) (omega arith) same own are opened again opens replays want_opened want_again in
      let count_accepted_is = accepted_all once other v w0 mid w chunk (octets_in sent) (octets_in (sent ++ later))
      (numbers_in
      (sent ++ later)) receives so_far.taken_all
      head rest codes (omega arith) (omega arith) same own are opened again opens replays want_opened want_again in
      let count_rejected_is = rejected_all once other v w0 mid w chunk (octets_in sent) (octets_in (sent ++ later))
      (numbers_in
      (sent ++ later)) receives so_far.taken_all
      head rest codes (omega arith) (omega arith) same own are opened again opens replays want_opened want_again in
      let count_protected_is : count_code codes_of.PROTECTED later ≡ length later =
      all_counted (λ (answer : Answer). answer.code == codes_of.PROTECTED) later
      (All-weaker IsSent (λ (answer : Answer). (answer.code == codes_of.PROTECTED) ≡ true)
      (λ answer is. eq-eqb answer.code codes_of.PROTECTED is) later codes) in
      let more_is : more ≡ these n 0 n 1 =
      same_counts more (these n 0 n 1) (omega arith) lost (omega arith) (omega arith) in
      record {
        sent = sent ++ later;
        sent_all = all;
        taken_all = subst (λ (m : ℕ). TakenAll other v w m (chunk + 1) (octets_in (sent ++ later))) total taken;
        counts_are = ap (λ (c : Counts). sum_of c more) so_far.counts_are
            ∙ ap (sum_of (these (256 * chunk) 0 (256 * chunk) chunk)) more_is;
      }

module _ (once : OpensOnce) (one_state : ShowsOne) (one other : Begin) (number : ℕ) (s v : View) (few : number ≤ 100000)
    (sends : UnitIsOpened sender_plan one s)
    (receives : UnitIsOpened receiver_plan other v) where
  pub chunks_served : (chunks : ℕ) → 256 * chunks < number + 256
      → (t w : View) (answers : List Answer) (counts : Counts)
      → AreChunks one other number s v chunks t w answers counts → list_any says_no_memory answers ≡ false
      → Served one other s t v w (min number (256 * chunks)) chunks counts
  chunks_served zero low t w answers counts are wants =
      let none : min number (256 * 0) ≡ 0 = omega arith in
      let served : Served one other s s v v 0 0 (these 0 0 0 0) = record {
        sent = [];
        sent_all = none_sent one s sends.opened sends.began.rows sends.whole (sender_begins one_state one s sends);
        taken_all = none_taken other v (octets_in []) receives.opened receives.began.rows receives.whole
            (receiver_begins one_state other v receives);
        counts_are = refl;
      } in
      subst (λ (m : ℕ). Served one other s t v w m 0 counts) (sym none)
      (subst (λ (c : Counts). Served one other s t v w 0 0 c) (sym are.3)
      (subst (λ (x : View). Served one other s x v w 0 0 no_counts) (sym are.0)
      (subst (λ (x : View). Served one other s s v x 0 0 no_counts)
      (sym are.1) served)))
  chunks_served (suc chunks) low t w answers counts
      (t0, w0, earlier, before, more, prior, chunk, answers_are, counts_are) wants =
      let split = or_parts (list_any says_no_memory earlier)
      (list_any says_no_memory (chunk.sent ++ (chunk.opened ++ chunk.again)))
      (sym (list_any-append says_no_memory earlier (chunk.sent ++ (chunk.opened ++ chunk.again)))
      ∙ (ap (list_any says_no_memory) (sym answers_are) ∙ wants)) in
      let first = or_parts (list_any says_no_memory chunk.sent) (list_any says_no_memory (chunk.opened ++ chunk.again))
      (sym (list_any-append says_no_memory chunk.sent (chunk.opened ++ chunk.again)) ∙ split.1) in
      let last = or_parts (list_any says_no_memory chunk.opened) (list_any says_no_memory chunk.again)
      (sym (list_any-append says_no_memory chunk.opened chunk.again)
      ∙ first.1) in
      let so_far = chunks_served chunks (omega arith) t0 w0 earlier before prior split.0 in
      let whole : min number (256 * chunks) ≡ 256 * chunks = omega arith in
      let n : ℕ = min number (256 * (chunks + 1)) - 256 * chunks in
      let frames : 256 * chunks + n ≡ min number (256 * suc chunks) = omega arith in
      let next : chunks + 1 ≡ suc chunks = omega arith in
      let served = served_by once one other s t0 t v w0 chunk.mid w chunks n before more
      (sender_begins one_state one s sends) (receiver_begins one_state other v receives)
      (subst (λ (m : ℕ). Served one other s t0 v w0 m chunks before) whole so_far) (omega arith) (omega arith)
      (omega arith)
      chunk.sent chunk.opened chunk.again chunk.protects chunk.opens chunk.replays first.0 last.0 last.1 chunk.protected
      chunk.lost chunk.accepted chunk.rejected in
      subst (λ (c : Counts). Served one other s t v w (min number (256 * suc chunks)) (suc chunks) c) (sym counts_are)
      (subst (λ (m : ℕ). Served one other s t v w m (suc chunks) (sum_of before more)) frames
      (subst (λ (k : ℕ). Served one other s t v w (256 * chunks + n) k (sum_of before more)) next served))

pub drill_complete : OpensOnce → ShowsOne → (number : ℕ) (answers : List Answer) (counts : Counts) → number ≤ 100000
    → HandlesDrill number answers counts
    → list_any says_no_memory answers ≡ false → counts ≡ all_counts number
drill_complete once one_state number answers counts few is wants =
    let served = chunks_served once one_state is.sender is.receiver number is.s is.v few is.sends is.receives
    ((number + 255) / 256)
    (omega arith) is.t is.w answers counts is.chunks wants in
    let all : min number (256 * ((number + 255) / 256)) ≡ number = omega arith in
    served.counts_are ∙ ap (λ (m : ℕ). these m 0 m ((number + 255) / 256)) all
