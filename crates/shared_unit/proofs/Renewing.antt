-- What was done with a permit, told from before the take to after the giving back.
use Rattle.std.proofs.Common.{◌≡◌, ◌⊎◌, inl, inr, ℕ, ◌+◌, ◌<◌, ◌≤◌, Bool, List, Option, Some, None, Result, Ok, Err}
use Rattle.std.proofs.Common.{refl, sym, ap, subst, ◌∙◌, arith}
use Rattle.sdls_base.specs.KeyId.{end_of}
use Rattle.unit_plan.specs.PlanLines.{PlanLines}
use Rattle.frame_shield.specs.declared.protecting_frames.ShieldFault.{ShieldFault}
use Rattle.frame_checks.specs.ProtectingFrames.{channel_check}
use Rattle.counter_table.specs.declared.view.Known.{Known}
use Rattle.counter_table.specs.declared.view.Numbers.{Numbers}
use Rattle.counter_table.specs.declared.view.Turn.{Turn}
use Rattle.counter_table.specs.declared.view.View.{View}
use Rattle.counter_table.specs.Known.{MayGive}
use Rattle.counter_table.specs.Numbers.{top, arming}
use Rattle.counter_table.specs.Turn.{epoch_seen, taking, giving, learning}
use Rattle.counter_table.specs.Play.{Follows}
use Rattle.unit_book.specs.declared.fault.BookFault.{BookFault}
use Rattle.unit_book.specs.Book.{BookView, IsKept}
use Rattle.shared_unit.specs.declared.permit.Permit.{Permit}
use Rattle.shared_unit.specs.declared.permit.Done.{Done}
use Rattle.shared_unit.specs.declared.permit.Protected.{Protected}
use Rattle.shared_unit.specs.declared.permit.Protected.TheVariants as answers
use Rattle.shared_unit.specs.declared.permit.Ready.TheVariants as readies
use Rattle.shared_unit.specs.Told.{known_of_book, state_at, entry_count}
use Rattle.run_promise.specs.Numbers.{marks_of}
use Rattle.shared_unit.specs.Turn.{Visits, Loads, taking_once}
use Rattle.shared_unit.specs.Going.{GoesUp}
use Rattle.shared_unit.specs.Numbers.{Draws, ComesBack, RunsOut, UsesNumber}
use Rattle.shared_unit.specs.Permit.{IsOfPermit, LacksLayout, IsReadyStep, Permits}
use Rattle.shared_unit.specs.declared.permit.PermitReply.TheVariants as replies
use Rattle.shared_unit.specs.Funding.{Reserves, IsFundStep}
use Rattle.shared_unit.specs.UnderTurn.{IsFinished}
use Rattle.shared_unit.specs.Protecting.{AddsReserve, FailsAt, Funds, IsByKept, IsKeptStep, IsProtectStep, IsRefusedAt}
use Rattle.shared_unit.specs.Protecting.{IsUnder, IsUsed, Looks, Rests, TakesTurn}
use Rattle.shared_unit.proofs.Checks.{bound_check, refused_answer, unfit_answer}
use Rattle.shared_unit.proofs.Kept.{IsLevel}
use Rattle.shared_unit.proofs.Steps.{may_give, may_give_learned, visits, visits_learned}
use Rattle.shared_unit.proofs.Using.{spends_uses, funded_uses}
use Rattle.shared_unit.proofs.Passing.{loads_looks, loads_takes, may_on, reserves_changes, takes_on, visit_takes}

-- a frame without its layout fails the last check, under a permit that is true
pub fails_at : (plan : PlanLines) (p : Permit) (link : ℕ) (clear : List ℕ) (fault : ShieldFault) (epoch : ℕ) (w : Turn)
    → IsUsed plan link clear p w
    → w.known.opening.plan ≡ plan → LacksLayout p.binding clear fault → epoch ≡ p.epoch
    → FailsAt link clear fault epoch w
fails_at plan p link clear fault epoch w used planned unfit same =
    let is = used.trusted in
    let on : channel_check w.known.opening.plan p.link clear ≡ Ok (Some p.channel) =
    subst (λ (l : PlanLines). channel_check l p.link clear ≡ Ok (Some p.channel)) (sym planned) used.frame in
    subst (λ (n : ℕ). FailsAt link clear fault n w) (sym same)
    (subst (λ (l : ℕ). FailsAt l clear fault p.epoch w) used.linked (record {
      seen = is.seen;
      reached = is.reached;
      passes = (p.channel, on);
      is = unfit_answer w.known.opening.plan (state_at w.known p.epoch) p.link clear p.binding fault
          (bound_check w.known.opening.plan (state_at w.known p.epoch) p.link clear p.channel p.binding on is.line
          is.sender) unfit;
    }))

-- a check that fails in the book that was found fails at its epoch
pub refused_at : (told : Bool) (link : ℕ) (clear : List ℕ) (fault : ShieldFault) (epoch : ℕ)
    (found : BookView) (v w : Turn) → Permits link clear (replies.Refused fault epoch) found → IsLevel found
    → Visits told found found v w → ((channel : ℕ) × (channel_check found.plan link clear ≡ Ok (Some channel)))
    → FailsAt link clear fault epoch w
refused_at told link clear fault epoch found v w h level visit passes =
    let k : Known = known_of_book found in
    subst (λ (t : Turn). FailsAt link clear fault epoch t) (sym visit.takes.turn)
    (subst (λ (n : ℕ). FailsAt link clear fault n (taking_once k k v)) (sym h.1) (record {
      seen = omega arith;
      reached = level.reached;
      passes = passes;
      is = refused_answer found.plan (state_at k found.changes) link clear fault (level.binds link clear ∙ h.0);
    }))

-- a load of the epoch lets none be seen that is less
seen_on : (v u : Turn) → (u ≡ v) ⊎ ((epoch : ℕ) × Loads epoch v u) → epoch_seen v ≤ epoch_seen u
seen_on v u (inl same) = let at : epoch_seen u ≡ epoch_seen v = ap epoch_seen same in omega arith
seen_on v u (inr (epoch, loads)) = let low = loads.later in
    subst (λ (t : Turn). epoch_seen v ≤ epoch_seen t) (sym loads.is) (omega arith)

back_tickets : (row end n : ℕ) (v w : Numbers) → ComesBack row end n v w → w.tickets ≡ v.tickets + 1
back_tickets row end n v w b = let p = ap (λ (k : Numbers). k.tickets) b.is in
    let q = ap (λ (k : Numbers). k.tickets) b.draws.is in omega arith

out_tickets : (row end n : ℕ) (v w : Numbers) → RunsOut row end n v w → w.tickets ≡ v.tickets
out_tickets row end n v w o = by_case o.1 where
  by_case : ((top row v.nexts ≤ n) × (w ≡ arming row end n v)) ⊎ Draws row end n v w → w.tickets ≡ v.tickets
  by_case (inl h) = ap (λ (k : Numbers). k.tickets) h.1
  by_case (inr d) = ap (λ (k : Numbers). k.tickets) d.is

module _ (told : Bool) (p : Permit) (clear out : List ℕ) where
  pub done_ready : (d : Done) (v w : View) → IsReadyStep p clear out (readies.Done d) v w
      → IsKeptStep told p clear out (Some (answers.Done d)) v w
  done_ready d v w h =
      let uses = spends_uses p.row (end_of p.binding.key) d.number v.numbers w.numbers h.3 in
      let turns = ap (λ (t : Turn). t.turns) h.1.is in (
        (
          record {
            fits = h.0;
            protected = h.2;
            later = (let seen = h.1.later in let at = h.2.epoch in omega arith);
            back = 0;
            uses = uses;
          },
          inl (loads_looks p.epoch v.turn w.turn h.1),
        ),
        let t = uses.tickets in omega arith,
      )

  pub done_funded : (d : Done) (t : ℕ × ℕ) (before : List ℕ) (v u w : View)
      → IsReadyStep p clear before (readies.NeedBlock t) v u
      → IsFundStep told p t.1 clear out (Ok d) u w → IsKeptStep told p clear out (Some (answers.Done d)) v w
  done_funded d t before v u w need funded =
      let end = end_of p.binding.key in
      let uses : UsesNumber p.row t.1 1 v.numbers w.numbers =
      funded_uses p.row end t.1 v.numbers u.numbers w.numbers need.4 funded.2 in
      let one = ap (λ (k : Turn). k.turns) need.1.is in
      let visit = (funded.3).3 in
      let two = ap (λ (k : Turn). k.turns) visit.takes.turn in
      let more : w.turn.turns ≡ v.turn.turns + 1 = omega arith in
      let tickets = uses.tickets in
      let funds : Funds p.binding.key d.number funded.3.0 funded.3.1 =
      subst (λ (n : ℕ). Funds p.binding.key n funded.3.0 funded.3.1) (sym funded.0) (funded.3.2, funded.3.4) in (
        (
          record {
            fits = need.0;
            protected = funded.1;
            later = (let seen = need.1.later in let at = funded.1.epoch in omega arith);
            back = 1;
            uses = subst (λ (n : ℕ). UsesNumber p.row n 1 v.numbers w.numbers) (sym funded.0) uses;
          },
          inr (loads_takes told (Funds p.binding.key d.number) p.epoch funded.3.0 funded.3.1 v.turn u.turn w.turn need.1
              visit funds),
        ),
        omega arith,
      )

  pub refused_funded : (fault : BookFault) (position : ℕ) (t : ℕ × ℕ) (before : List ℕ) (v u w : View)
      → IsReadyStep p clear before (readies.NeedBlock t) v u
      → IsFundStep told p t.1 clear out (Err (fault, position)) u w
      → IsKeptStep told p clear out (Some (answers.Fault fault position)) v w
  refused_funded fault position t before v u w need funded =
      let found : BookView = funded.1.0 in
      let given : BookView = funded.1.1 in
      let visit = funded.1.2 in
      let known : w.turn.known ≡ known_of_book given = ap (λ (k : Turn). k.known) visit.takes.turn in
      let one = ap (λ (k : Turn). k.turns) need.1.is in
      let two = ap (λ (k : Turn). k.turns) visit.takes.turn in
      let back = back_tickets p.row (end_of p.binding.key) t.1 v.numbers u.numbers need.4 in
      let same = ap (λ (k : Numbers). k.tickets) funded.0 in (
        (
          need.0,
          need.1.later,
          funded.1.4 ∙ ap entry_count (sym known),
          (
            t.1,
            need.3,
            inr (subst (λ (k : Numbers). ComesBack p.row (end_of p.binding.key) t.1 v.numbers k) (sym funded.0) need.4),
            loads_takes told (Reserves p.binding.key t.1 (Err fault)) p.epoch found given v.turn u.turn w.turn need.1
                visit funded.1.3,
          ),
        ),
        omega arith,
      )

  pub exhausted_ready : (n : ℕ) (v w : View) → IsReadyStep p clear out (readies.Exhausted n) v w
      → IsKeptStep told p clear out (Some (answers.Exhausted p.binding.key n p.epoch)) v w
  exhausted_ready n v w h =
      let turns = ap (λ (t : Turn). t.turns) h.1.is in
      let tickets = out_tickets p.row (end_of p.binding.key) n v.numbers w.numbers h.2 in
      (((h.0, refl, refl, h.2, h.1.later), inl (loads_looks p.epoch v.turn w.turn h.1)), omega arith)

  pub refused_ready : (fault : ShieldFault) (epoch : ℕ) (v u w : View)
      → IsReadyStep p clear out (readies.Refused fault) v u
      → Loads epoch u.turn w.turn → w.numbers ≡ u.numbers → epoch ≡ p.epoch
      → IsKeptStep told p clear out (Some (answers.Refused fault epoch)) v w
  refused_ready fault epoch v u w h loads numbers same =
      let one = ap (λ (t : Turn). t.turns) h.2 in
      let two = ap (λ (t : Turn). t.turns) loads.is in
      let looks : Looks v.turn w.turn =
      subst (λ (t : Turn). Looks t w.turn) h.2 (loads_looks epoch u.turn w.turn loads) in
      let tickets = ap (λ (k : Numbers). k.tickets) (numbers ∙ h.1) in
      let later : epoch_seen v.turn ≤ epoch = subst (λ (t : Turn). epoch_seen t ≤ epoch) h.2 loads.later in
      ((h.0, same, numbers ∙ h.1, later, inl looks), omega arith)

  module _ (found given : BookView) where
    pub finished_changes : (a : Protected) (v w : View) → IsFinished p clear out a found given v w
        → given.changes ≡ found.changes
    finished_changes (answers.Done d) v w h = reserves_changes p.binding.key d.number (Ok h.4.0) found given h.4.1
    finished_changes answers.Clear v w h = absurd h
    finished_changes (answers.Refused fault epoch) v w h = ap (λ (b : BookView). b.changes) h.4
    finished_changes (answers.Exhausted key n epoch) v w h = ap (λ (b : BookView). b.changes) h.5
    finished_changes (answers.Fault fault position) v w h =
        reserves_changes p.binding.key h.3.0 (Err fault) found given h.3.3

    pub finished_adds : (a : Protected) (v w : View) → IsFinished p clear out a found given v w
        → AddsReserve told p.binding.key found given
    finished_adds (answers.Done d) v w h = inr (d.number, Ok h.4.0, h.4.1)
    finished_adds answers.Clear v w h = absurd h
    finished_adds (answers.Refused fault epoch) v w h = inl h.4
    finished_adds (answers.Exhausted key n epoch) v w h = inl h.5
    finished_adds (answers.Fault fault position) v w h = inr (h.3.0, Err fault, h.3.3)

    finished_turn : (a : Protected) (v w : View) → IsFinished p clear out a found given v w
        → (w.turn ≡ v.turn) ⊎ (w.turn ≡ learning (marks_of given.state) v.turn)
    finished_turn (answers.Done d) v w h = inr h.3
    finished_turn answers.Clear v w h = absurd h
    finished_turn (answers.Refused fault epoch) v w h = inl h.3
    finished_turn (answers.Exhausted key n epoch) v w h = inl h.4
    finished_turn (answers.Fault fault position) v w h = inl h.2

    pub finished_gives : (a : Protected) (t : Turn) (v w : View) → IsFinished p clear out a found given v w
        → GoesUp found given
        → v.turn ≡ taking (known_of_book found) t → MayGive w.turn.known (known_of_book given)
    finished_gives a t v w h g took = by_turn (finished_turn a v w h) where
      by_turn : (w.turn ≡ v.turn) ⊎ (w.turn ≡ learning (marks_of given.state) v.turn)
          → MayGive w.turn.known (known_of_book given)
      by_turn (inl same) = may_give w.turn.known found given (ap (λ (k : Turn). k.known) (same ∙ took)) g
          (finished_changes a v w h)
      by_turn (inr learned) = may_give_learned w.turn.known found given
          (ap (λ (k : Turn). k.known) learned ∙ ap (λ (k : Turn). (learning (marks_of given.state) k).known) took) g
          (finished_changes a v w h)

    pub finished_visits : (a : Protected) (t u : Turn) (v w : View) → IsFinished p clear out a found given v w
        → GoesUp found given
        → IsKept told found → IsKept told given → Follows t (known_of_book found)
        → v.turn ≡ taking (known_of_book found) t → u ≡ giving (known_of_book given) w.turn
        → Visits told found given t u
    finished_visits a t u v w h g before after follows took gave = by_turn (finished_turn a v w h) where
      by_turn : (w.turn ≡ v.turn) ⊎ (w.turn ≡ learning (marks_of given.state) v.turn) → Visits told found given t u
      by_turn (inl same) = visits told found given t w.turn u before after follows g (same ∙ took) gave
      by_turn (inr learned) = visits_learned told found given t w.turn u before after follows g
          (learned ∙ ap (learning (marks_of given.state)) took) gave

    pub finished_later : (a : Protected) (d : Done) (v w : View) → a ≡ answers.Done d
        → IsFinished p clear out a found given v w
        → d.epoch ≡ p.epoch
    finished_later (answers.Done e) d v w same h = let one : d ≡ e = cc in ap (λ (x : Done). x.epoch) one ∙ h.1.epoch
    finished_later answers.Clear d v w same h = absurd h
    finished_later (answers.Refused fault epoch) d v w same h = absurd cc
    finished_later (answers.Exhausted key n epoch) d v w same h = absurd cc
    finished_later (answers.Fault fault position) d v w same h = absurd cc

    -- the same step, as it is seen from before the take
    pub finished_under : (a : Protected) (v w x y : View) → IsFinished p clear out a found given v w
        → v.numbers ≡ x.numbers
        → y.numbers ≡ w.numbers → Visits told found given x.turn y.turn → p.epoch ≡ found.changes
        → IsUnder told p clear out a x y
    finished_under a v w x y h before later s at =
        by_answer a
        (subst (λ (k : Numbers). IsFinished p clear out a found given (record v { numbers = x.numbers })
        (record w { numbers = k })) (sym later)
        (subst (λ (k : Numbers). IsFinished p clear out a found given (record v { numbers = k }) w) before h)) where
          known : y.turn.known ≡ known_of_book given
          known = ap (λ (t : Turn). t.known) s.takes.turn

          seen : epoch_seen x.turn ≤ p.epoch
          seen = let a = s.takes.follows.epoch in let b = s.takes.follows.earlier.changes in omega arith

          taken : (done : BookView → BookView → Type 0) → done found given → TakesTurn told done x.turn y.turn
          taken done does = visit_takes told done found given x.turn y.turn s does

          by_answer : (b : Protected) → IsFinished p clear out b found given (record v { numbers = x.numbers })
              (record w { numbers = y.numbers })
              → IsUnder told p clear out b x y
          by_answer (answers.Done d) k = (
            record {
              fits = k.0;
              protected = k.1;
              later = (let low = seen in let same = k.1.epoch in omega arith);
              back = 0;
              uses = k.2;
            },
            inr (taken (Funds p.binding.key d.number) k.4),
          )
          by_answer answers.Clear k = absurd k
          by_answer (answers.Refused fault epoch) k =
              (k.0, k.1, k.2, (let low = seen in let same = k.1 in omega arith), inr (taken Rests k.4))
          by_answer (answers.Exhausted key n epoch) k =
              ((k.0, k.1, k.2, k.3, (let low = seen in let same = k.2 in omega arith)), inr (taken Rests k.5))
          by_answer (answers.Fault fault position) k = (
            k.0,
            seen,
            k.1 ∙ ap entry_count (sym known),
            (k.3.0, k.3.1, inl k.3.2, taken (Reserves p.binding.key k.3.0 (Err fault)) k.3.3),
          )

  pub under_step : (plan : PlanLines) (link : ℕ) (a : Protected) (v w : View) → IsUnder told p clear out a v w
      → IsUsed plan link clear p w.turn → w.turn.known.opening.plan ≡ plan → (o : Option Permit) → o ≡ Some p
      → IsProtectStep told plan link clear out o a v w
  under_step plan link (answers.Done d) v w h used planned o same = (p, same, used, h)
  under_step plan link answers.Clear v w h used planned o same = absurd h
  under_step plan link (answers.Refused fault epoch) v w h used planned o same =
      (inr (fails_at plan p link clear fault epoch w.turn used planned h.0 h.1, h.3, h.4), h.2)
  under_step plan link (answers.Exhausted key n epoch) v w h used planned o same = (p, used, h)
  under_step plan link (answers.Fault fault position) v w h used planned o same = (p, used, h)

  pub by_kept_step : (plan : PlanLines) (kept : Option Permit) (link : ℕ) (o : Option Protected) (v w : View)
      → IsKeptStep told p clear out o v w → kept ≡ Some p → IsUsed plan link clear p w.turn
      → IsByKept told plan kept link clear out o v w
  by_kept_step plan kept link None v w h same used =
      (h.0, inr (h.1.0, h.1.2), λ q other there on_. below q (let one : q ≡ p = cc in one)) where
        below : (q : Permit) → q ≡ p → q.epoch < w.turn.epoch
        below q one =
            let at = ap (λ (t : Turn). t.epoch) h.1.2.is in
            let e : q.epoch ≡ p.epoch = ap (λ (k : Permit). k.epoch) one in
            let low = h.1.1 in omega arith
  by_kept_step plan kept link (Some a) v w h same used = (p, same, used, h)

  -- the same, as it is seen from before a load of the epoch
  under_from : (a : Protected) (v u w : View) → u.numbers ≡ v.numbers
      → ((u.turn ≡ v.turn) ⊎ ((epoch : ℕ) × Loads epoch v.turn u.turn)) → w.turn.loads ≡ u.turn.loads
      → IsUnder told p clear out a u w → IsUnder told p clear out a v w
  under_from (answers.Done d) v u w same turn still h = (
    record {
      fits = h.0.fits;
      protected = h.0.protected;
      later = (let on = seen_on v.turn u.turn turn in let low = h.0.later in omega arith);
      back = h.0.back;
      uses = subst (λ (k : Numbers). UsesNumber p.row d.number h.0.back k w.numbers) same h.0.uses;
    },
    may_on told (Funds p.binding.key d.number) v.turn u.turn w.turn turn still h.1,
  )
  under_from answers.Clear v u w same turn still h = absurd h
  under_from (answers.Refused fault epoch) v u w same turn still h = (
    h.0,
    h.1,
    h.2 ∙ same,
    (let on = seen_on v.turn u.turn turn in let low = h.3 in omega arith),
    may_on told Rests v.turn u.turn w.turn turn still h.4,
  )
  under_from (answers.Exhausted key n epoch) v u w same turn still h = (
    (
      h.0.0,
      h.0.1,
      h.0.2,
      subst (λ (k : Numbers). RunsOut p.row (end_of key) n k w.numbers) same h.0.3,
      let on = seen_on v.turn u.turn turn in let low = h.0.4 in omega arith,
    ),
    may_on told Rests v.turn u.turn w.turn turn still h.1,
  )
  under_from (answers.Fault fault position) v u w same turn still h = (
    h.0,
    (let on = seen_on v.turn u.turn turn in let low = h.1 in omega arith),
    h.2,
    (
      h.3.0,
      h.3.1,
      subst (λ (k : Numbers). Draws p.row (end_of p.binding.key) h.3.0 k w.numbers
          ⊎ ComesBack p.row (end_of p.binding.key) h.3.0 k w.numbers) same h.3.2,
      takes_on told (Reserves p.binding.key h.3.0 (Err fault)) v.turn u.turn w.turn turn still h.3.3,
    ),
  )

module _ (told : Bool) where
  -- a permit of another link or channel is not used
  pub by_other : (plan : PlanLines) (p : Permit) (kept : Option Permit) (link : ℕ) (clear out : List ℕ) (v : View)
      → kept ≡ Some p
      → (p.link ≡ link → IsOfPermit plan p clear → ⊥) → IsByKept told plan kept link clear out None v v
  by_other plan p kept link clear out v same apart =
      (refl, inl refl, λ q other linked on. absurd (on_it q (let one : q ≡ p = cc in one) linked on)) where
        on_it : (q : Permit) → q ≡ p → q.link ≡ link → IsOfPermit plan q clear → ⊥
        on_it q one linked on =
            apart (sym (ap (λ (k : Permit). k.link) one) ∙ linked)
            (subst (λ (k : Permit). IsOfPermit plan k clear) one on)

  pub by_none : (plan : PlanLines) (kept : Option Permit) (link : ℕ) (clear out : List ℕ) (v : View) → kept ≡ None
      → IsByKept told plan kept link clear out None v v
  by_none plan kept link clear out v none = (refl, inl refl, λ q other there on. absurd cc)

  -- with the kept permit
  pub kept_step : (plan : PlanLines) (link : ℕ) (clear out : List ℕ) (kept : Option Permit) (a : Protected) (v w : View)
      → IsByKept told plan kept link clear out (Some a) v w → w.turn.known.opening.plan ≡ plan
      → IsProtectStep told plan link clear out kept a v w
  kept_step plan link clear out kept a v w h planned =
      under_step told h.0 clear out plan link a v w h.3.0 h.2 planned kept h.1

  -- with a new one
  pub step_from : (plan : PlanLines) (link : ℕ) (clear out : List ℕ) (o : Option Permit) (a : Protected) (v u w : View)
      → u.numbers ≡ v.numbers
      → ((u.turn ≡ v.turn) ⊎ ((epoch : ℕ) × Loads epoch v.turn u.turn)) → w.turn.loads ≡ u.turn.loads
      → (channel : ℕ) → channel_check plan link clear ≡ Ok (Some channel)
      → IsProtectStep told plan link clear out o a u w → IsProtectStep told plan link clear out o a v w
  step_from plan link clear out o (answers.Done d) v u w same turn still channel passes h =
      (h.0, h.1, h.2, under_from told h.0 clear out (answers.Done d) v u w same turn still h.3)
  step_from plan link clear out o answers.Clear v u w same turn still channel passes h =
      absurd (no_clear (channel_check plan link clear) passes h.0) where
        no_clear : (r : Result (Option ℕ) ShieldFault) → r ≡ Ok (Some channel) → r ≡ Ok None → ⊥
        no_clear r a b = cc
  step_from plan link clear out o (answers.Refused fault epoch) v u w same turn still channel passes h =
      (by_case h.0, h.1 ∙ same) where
        no_fault : (r : Result (Option ℕ) ShieldFault) → r ≡ Ok (Some channel) → r ≡ Err fault → ⊥
        no_fault r a b = cc

        by_case : IsRefusedAt told plan link clear fault epoch u.turn w.turn
            → IsRefusedAt told plan link clear fault epoch v.turn w.turn
        by_case (inl k) = absurd (no_fault (channel_check plan link clear) passes k.0)
        by_case (inr k) = inr (
          k.0,
          (let on = seen_on v.turn u.turn turn in let low = k.1 in omega arith),
          may_on told Rests v.turn u.turn w.turn turn still k.2,
        )
  step_from plan link clear out o (answers.Exhausted key n epoch) v u w same turn still channel passes h =
      (h.0, h.1, under_from told h.0 clear out (answers.Exhausted key n epoch) v u w same turn still h.2)
  step_from plan link clear out o (answers.Fault fault position) v u w same turn still channel passes h =
      (h.0, h.1, under_from told h.0 clear out (answers.Fault fault position) v u w same turn still h.2)
