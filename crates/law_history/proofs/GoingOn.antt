-- What stays so while a log and its history grow, and more is known to be near.
use Rattle.std.proofs.Common.{◌≡◌, ℕ, zero, suc, ◌+◌, ◌-◌, ◌<◌, ◌≤◌, List, [], ◌∷◌, ◌++◌, length, take, Some, Ok, refl}
use Rattle.std.proofs.Common.{sym, ◌∙◌, ap, subst, inl, inr, ⊎_elim, arith, length-append, append-nil}
use Rattle.std.specs.List.{slice_get}
use Rattle.std.proofs.lemmas.List.{take-append-le}
use Rattle.std.proofs.lemmas.List.Elements.{Contains-append_left}
use Rattle.std.proofs.lemmas.Option.{none-some, same_Some, slice_get_within}
use Rattle.sdls_base.specs.declared.entry.Entry.{Entry}
use Rattle.sdls_base.specs.declared.entry.Logged.{Logged}
use Rattle.sdls_base.specs.declared.entry.Logged.TheVariants as logged
use Rattle.sdls_outside.specs.Faults.{Rose}
use Rattle.unit_plan.specs.PlanLines.{PlanLines}
use Rattle.unit_state.specs.declared.state.State.{State}
use Rattle.unit_state.specs.History.{after_all, after_first, at_epoch, epoch_after}
use Rattle.unit_state.proofs.Histories.{epochs_more, at_epoch_more}
use Rattle.frame_checks.specs.declared.opening_frames.OpenReply.TheVariants.{Accepted}
use Rattle.frame_checks.specs.OpeningFrames.{IsOpenReply}
use Rattle.ep_core.specs.declared.judging.Need.TheVariants.{Number}
use Rattle.record_io.specs.declared.answers.Answer.{Answer}
use Rattle.record_io.specs.declared.code.TheConstants.{SITE_FAULT, STOPPED}
use Rattle.record_io.specs.declared.reader.RecordKind.{RecordKind}
use Rattle.record_io.specs.declared.reader.RecordKind.TheVariants.{Protect, Open, Command, Monitor}
use Rattle.record_io.specs.declared.item_cursor.Record.{Record}
use Rattle.run_promise.specs.Numbers.{floor_of}
use Rattle.run_promise.specs.History.{IsNeedOf, IsStepOf, frame_entry, record_entry, KeyOf, SeesFor, AsksFor, IsLegal}
use Rattle.run_promise.specs.History.{drawers, IsAskedFor, NearWord}
use Rattle.run_promise.specs.Log.{entries_of}
use Rattle.law_history.specs.Entries.{IsLegalAt, grown}
use Rattle.run_promise.specs.Fits.{protect_reply, Course, IsUnmarked, CanReserve, CanRaiseFloor, CanChange, CanDraw}
use Rattle.run_promise.specs.Fits.{CanAppend, MayAppendOnce, IsBound, StandsAt, state_before, TellsRisenCount, FitsAny}
use Rattle.run_promise.specs.Fits.{FitsKind, Fits}
use Rattle.run_promise.specs.Answers.{told_by, unbound_told}
use Rattle.law_history.proofs.Legal.{seen_wider, legal_wider}

-- ---- lists

pub get_front : {X : Type 0} (xs ys : List X) (k : ℕ) → k < length xs → slice_get (xs ++ ys) k ≡ slice_get xs k
get_front {X} [] ys k low = absurd (omega arith)
get_front {X} (x ∷ xs) ys zero low = refl
get_front {X} (x ∷ xs) ys (suc k) low = get_front xs ys k (omega arith)

pub drawers-append : (tasks others : List Record) → drawers (tasks ++ others) ≡ drawers tasks + drawers others
drawers-append [] others = omega arith
drawers-append (task ∷ tasks) others = let rest = drawers-append tasks others in omega arith

pub first_stays : (start : State) (entries more : List Entry) (p : ℕ) → p ≤ length entries
    → after_first start (entries ++ more) p ≡ after_first start entries p
first_stays start entries more p low = ap (after_all start) (take-append-le p entries more low)

-- ---- legal places of a log

-- a place of a log that is legal stays so while the log grows, among more records
pub legal_more : (near wider : ℕ → ℕ → Type 0) → ((key number : ℕ) → near key number → wider key number)
    → (plan : PlanLines) (start : State)
    (tasks others : List Record) (log more : List Logged) (place : ℕ) → place < length log
    → IsLegalAt near plan start tasks log place
    → IsLegalAt wider plan start (tasks ++ others) (log ++ more) place
legal_more near wider nearer plan start tasks others log more place low legal entry there =
    let before : take place (log ++ more) ≡ take place log = take-append-le place log more (omega arith) in
    subst (λ (lines : List Logged). IsLegal wider plan (after_all start (entries_of lines)) (tasks ++ others) entry)
    (sym before)
    (legal_among wider plan (after_all start (entries_of (take place log))) tasks others entry
    (legal_wider near wider nearer plan (after_all start (entries_of (take place log))) tasks entry
    (legal entry (sym (get_front log more place low) ∙ there))))
  where
    legal_among : (near : ℕ → ℕ → Type 0) (plan : PlanLines) (state : State) (tasks others : List Record)
        (entry : Entry)
        → IsLegal near plan state tasks entry → IsLegal near plan state (tasks ++ others) entry
    legal_among near plan state tasks others entry (inl opening) = inl (record {
      task = opening.task;
      there = Contains-append_left tasks others opening.task opening.there;
      kind_is = opening.kind_is;
      reply = opening.reply;
      field = opening.field;
      replies = opening.replies;
      entry_is = opening.entry_is;
    })
    legal_among near plan state tasks others entry (inr (inl procedure)) = inr (inl (record {
      task = procedure.task;
      there = Contains-append_left tasks others procedure.task procedure.there;
      kind_is = procedure.kind_is;
      index_is = procedure.index_is;
      reply = procedure.reply;
      sees = procedure.sees;
      step = procedure.step;
      is_near = procedure.is_near;
    }))
    legal_among near plan state tasks others entry (inr (inr reserve)) = inr (inr reserve)

-- the place of an entry in its log
pub record StandsIn (log : List Logged) (p : ℕ) (entry : Entry) : Type 0 where
  pub place : ℕ
  pub within : place < length log
  pub there : slice_get log place ≡ Some (logged.Entry entry)
  pub before : entries_of (take place log) ≡ take p (entries_of log)

pub stands_in : (log : List Logged) (p : ℕ) (entry : Entry) → slice_get (entries_of log) p ≡ Some entry
    → StandsIn log p entry
stands_in [] p entry is = absurd (none-some entry is)
stands_in (logged.Entry own ∷ log) zero entry is = record {
  place = zero;
  within = omega arith;
  there = ap (λ (e : Entry). Some (logged.Entry e)) (same_Some own entry is);
  before = refl;
}
stands_in (logged.Entry own ∷ log) (suc p) entry is =
    let rest = stands_in log p entry is in
    record {
      place = suc rest.place;
      within = (let low = rest.within in omega arith);
      there = rest.there;
      before = ap (λ (entries : List Entry). own ∷ entries) rest.before;
    }
stands_in (logged.Piece piece ∷ log) p entry is =
    let rest = stands_in log p entry is in
    record {
      place = suc rest.place;
      within = (let low = rest.within in omega arith);
      there = rest.there;
      before = rest.before;
    }

-- a log whose places are legal has a legal history
pub log_legal : (near : ℕ → ℕ → Type 0) (plan : PlanLines) (start : State) (records : List Record) (log : List Logged)
    → ((place : ℕ) → place < length log → IsLegalAt near plan start records log place)
    → (p : ℕ) (entry : Entry) → slice_get (entries_of log) p ≡ Some entry
    → IsLegal near plan (after_first start (entries_of log) p) records entry
log_legal near plan start records log legal p entry is =
    let at = stands_in log p entry is in
    subst (λ (entries : List Entry). IsLegal near plan (after_all start entries) records entry) at.before
    (legal at.place at.within entry at.there)

-- ---- near

-- a word that is near stays so while the history goes on, among more records
pub near_more : (start : State) (entries more : List Entry) (tasks others : List Record) (key word : ℕ)
    → NearWord start entries tasks key word
    → NearWord start (entries ++ more) (tasks ++ others) key word
near_more start entries more tasks others key word near = record {
  least = near.least;
  base = near.base;
  is_base = ⊎_elim (λ at. inl at) (λ asked. inr (asked_more start entries more tasks others key near.base asked))
      near.is_base;
  most = (let most = near.most in let all = drawers-append tasks others in omega arith);
}
  where
    asked_more : (start : State) (entries more : List Entry) (tasks others : List Record) (key number : ℕ)
        → IsAskedFor start entries tasks key number
        → IsAskedFor start (entries ++ more) (tasks ++ others) key number
    asked_more start entries more tasks others key number asked = record {
      p = asked.p;
      within = (let low = asked.within in let all = length-append entries more in omega arith);
      task = asked.task;
      there = Contains-append_left tasks others asked.task asked.there;
      kind_is = asked.kind_is;
      asks = subst (λ (s : State). AsksFor s asked.task.octets key number)
          (sym (first_stays start entries more asked.p asked.within)) asked.asks;
    }

-- ---- answers that fit

module _ (near wider : ℕ → ℕ → Type 0) (nearer : (key number : ℕ) → near key number → wider key number)
    (course : Course) (more : List Entry) (faults : ℕ)
    (later : course.faults ≤ faults) (closed : Rose course.faults_before course.faults → more ≡ []) where
  abbrev new : Course
  new = grown course more faults

  stays : (p : ℕ) → p ≤ length course.entries → after_first course.begin.start (course.entries ++ more) p
      ≡ after_first course.begin.start course.entries p
  stays p low = first_stays course.begin.start course.entries more p low

  epoch_stays : (epoch : ℕ) → epoch ≤ epoch_after course.entries
      → at_epoch course.begin.start (course.entries ++ more) epoch ≡ at_epoch course.begin.start course.entries epoch
  epoch_stays epoch reached = at_epoch_more course.begin.start course.entries more epoch reached

  reached_more : (epoch : ℕ) → epoch ≤ epoch_after course.entries → epoch ≤ epoch_after (course.entries ++ more)
  reached_more epoch reached = let all = epochs_more course.entries more in omega arith

  within_more : (p : ℕ) → p ≤ length course.entries → p ≤ length (course.entries ++ more)
  within_more p low = let all = length-append course.entries more in omega arith

  unmarked_more : (p key number : ℕ) → p ≤ length course.entries
      → IsUnmarked near (after_first course.begin.start course.entries p) key number
      → IsUnmarked wider (after_first course.begin.start (course.entries ++ more) p) key number
  unmarked_more p key number low is =
      subst (λ (s : State). IsUnmarked wider s key number) (sym (stays p low))
      (record { is_near = nearer key number is.is_near; unmarked = is.unmarked; below = is.below })

  reserve_more : (p : ℕ) (task : Record) → p ≤ length course.entries → CanReserve near course p task
      → CanReserve wider new p task
  reserve_more p task low can =
      let earlier : can.earlier ≤ length course.entries = (let first = can.within in omega arith) in
      record {
        earlier = can.earlier;
        within = can.within;
        binding = can.binding;
        bound = subst (λ (s : State). protect_reply course.begin.plan s task.link task.octets ≡ Ok (Some can.binding))
            (sym (stays can.earlier earlier)) can.bound;
        number = can.number;
        is = unmarked_more p can.binding.key can.number low can.is;
      }

  raise_more : (p : ℕ) (task : Record) → p ≤ length course.entries → CanRaiseFloor course p task
      → CanRaiseFloor new p task
  raise_more p task low can = record {
    spi = can.spi;
    key = can.key;
    number = can.number;
    from = can.from;
    to = can.to;
    field = can.field;
    accepts = subst (λ (s : State). IsOpenReply course.begin.plan s task.link task.octets
        (Accepted can.spi can.key can.number can.from can.to) can.field)
        (sym (stays p low)) can.accepts;
    above = subst (λ (s : State). floor_of s can.key < can.number) (sym (stays p low)) can.above;
  }

  change_more : (p : ℕ) (task : Record) → p ≤ length course.entries → CanChange near course p task
      → CanChange wider new p task
  change_more p task low can =
      let same = sym (stays p low) in
      record {
        seen = can.seen;
        change = can.change;
        reply = can.reply;
        sees = subst (λ (s : State). SeesFor s task.octets can.seen) same can.sees;
        is_near = λ key of. seen_wider near wider nearer key can.seen
            (can.is_near key (subst (λ (s : State). KeyOf s task.octets key) (stays p low) of));
        step = subst (λ (s : State). IsStepOf s task.octets can.seen (can.change, can.reply)) same can.step;
        changes = can.changes;
      }

  draw_more : (p : ℕ) (task : Record) → p ≤ length course.entries → CanDraw near course p task
      → CanDraw wider new p task
  draw_more p task low can = record {
    key = can.key;
    number = can.number;
    needs = subst (λ (s : State). IsNeedOf s task.octets (Number can.key)) (sym (stays p low)) can.needs;
    is = unmarked_more p can.key can.number low can.is;
  }

  append_more : (kind : RecordKind) (p : ℕ) (task : Record) → p ≤ length course.entries
      → CanAppend near course p task kind
      → CanAppend wider new p task kind
  append_more Protect p task low can = reserve_more p task low can
  append_more Open p task low can = raise_more p task low can
  append_more Command p task low (inl can) = inl (change_more p task low can)
  append_more Command p task low (inr can) = inr (draw_more p task low can)
  append_more Monitor p task low can = absurd can

  once_more : (task : Record) → MayAppendOnce near course task → MayAppendOnce wider new task
  once_more task once = record {
    p = once.p;
    within = within_more once.p once.within;
    may = append_more task.kind once.p task once.within once.may;
  }

  -- no entry comes after a fault, so that the count of all entries stays
  tells_more : (code : ℕ) (answer : Answer) → TellsRisenCount course code answer → TellsRisenCount new code answer
  tells_more code answer tells =
      let rose : Rose course.faults_before course.faults =
      (let high = tells.rose in let low = tells.counted in omega arith) in
      record {
        told = tells.told;
        rose = tells.rose;
        counted = (let low = tells.counted in omega arith);
        position_is = tells.position_is ∙ ap (λ (entries : List Entry). length entries)
            (sym (append-nil course.entries) ∙ ap (λ (rest : List Entry). course.entries ++ rest) (sym (closed rose)));
      }

  stands_more : (answer : Answer) (entry : Entry) → StandsAt course answer entry → StandsAt new answer entry
  stands_more answer entry is = record {
    least = is.least;
    there = get_front course.entries more (answer.position - 1)
        (slice_get_within course.entries (answer.position - 1) entry is.there) ∙ is.there;
  }

  any_more : (task : Record) (answer : Answer) → FitsAny near course task answer → FitsAny wider new task answer
  any_more task answer (inl is) = inl (record {
    tells = tells_more SITE_FAULT answer is.tells;
    may = once_more task is.may;
    entry = is.entry;
    last = stands_more answer is.entry is.last;
    own = is.own;
  })
  any_more task answer (inr (inl is)) = inr (inl (record {
    tells = tells_more STOPPED answer is.tells;
    may = ⊎_elim (λ other. inl other) (λ once. inr (once_more task once)) is.may;
  }))
  any_more task answer (inr (inr is)) = inr (inr is)

  abbrev bound_more : (task : Record) (answer : Answer) → IsBound course task answer → IsBound new task answer
  bound_more task answer is = record {
    reached = reached_more answer.position is.reached;
    binding = is.binding;
    bound = subst (λ (s : State). protect_reply course.begin.plan s task.link task.octets ≡ Ok (Some is.binding))
        (sym (epoch_stays answer.position is.reached)) is.bound;
    key_is = is.key_is;
  }

  before_stays : (answer : Answer) (entry : Entry) → StandsAt course answer entry
      → state_before new answer ≡ state_before course answer
  before_stays answer entry is =
      let low = slice_get_within course.entries (answer.position - 1) entry is.there in
      stays (answer.position - 1) (omega arith)

  kind_more : (kind : RecordKind) (task : Record) (answer : Answer) → FitsKind near course task answer kind
      → FitsKind wider new task answer kind
  kind_more Protect task answer (inl is) = inl (record {
    is = bound_more task answer is.is;
    told = is.told;
    is_near = nearer answer.key answer.number is.is_near;
    below = is.below;
    protects = is.protects;
  })
  kind_more Protect task answer (inr (inl is)) = inr (inl (record {
    reached = reached_more answer.position is.reached;
    told = subst (λ (s : State). unbound_told (protect_reply course.begin.plan s task.link task.octets)
        ≡ Some (told_by answer))
        (sym (epoch_stays answer.position is.reached)) is.told;
    epoch_looked_at = is.epoch_looked_at;
  }))
  kind_more Protect task answer (inr (inr (inl is))) = inr (inr (inl (record {
    is = bound_more task answer is.is;
    told = is.told;
    is_near = nearer answer.key answer.number is.is_near;
    at_end = is.at_end;
  })))
  kind_more Protect task answer (inr (inr (inr any))) = inr (inr (inr (any_more task answer any)))
  kind_more Open task answer (inl is) =
      let same = sym (before_stays answer
      (frame_entry course.begin.plan (state_before course answer) task.index is.reply) is.stands) in
      inl (record {
        reply = is.reply;
        field = is.field;
        replies = subst (λ (s : State). IsOpenReply course.begin.plan s task.link task.octets is.reply is.field) same
            is.replies;
        stands = subst (λ (s : State). StandsAt new answer (frame_entry course.begin.plan s task.index is.reply)) same
            (stands_more answer (frame_entry course.begin.plan (state_before course answer) task.index is.reply)
            is.stands);
        told = is.told;
      })
  kind_more Open task answer (inr any) = inr (any_more task answer any)
  kind_more Command task answer (inl is) =
      let same = sym (before_stays answer (record_entry task.index is.seen is.change) is.stands) in
      inl (record {
        seen = is.seen;
        change = is.change;
        reply = is.reply;
        step = subst (λ (s : State). IsStepOf s task.octets is.seen (is.change, is.reply)) same is.step;
        stands = stands_more answer (record_entry task.index is.seen is.change) is.stands;
        told = is.told;
      })
  kind_more Command task answer (inr any) = inr (any_more task answer any)
  kind_more Monitor task answer (inl is) = inl
      (record { reached = within_more answer.position is.reached; said = is.said; told = is.told })
  kind_more Monitor task answer (inr is) = inr is

  -- an answer that fits still does when the history has gone on, where after a fault of the site no entry came
  pub fits_more : (task : Record) (answer : Answer) → Fits near course task answer → Fits wider new task answer
  fits_more task answer fits = kind_more task.kind task answer fits
