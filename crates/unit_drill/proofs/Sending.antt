-- What the sender of a drill answers: each frame is protected, if memory did not run out and its site did not fail.
use Rattle.std.proofs.Common.{◌≡◌, ◌≢◌, ℕ, zero, suc, ◌+◌, ◌%◌, ◌<◌, ◌≤◌, Bool, true, false, List, [], ◌∷◌, ◌++◌}
use Rattle.std.proofs.Common.{length, take, map, get_or, Option, None, Some, Ok, refl, sym, ◌∙◌, ap, subst, inl, inr}
use Rattle.std.proofs.Common.{⊎_elim, arith, cond}
use Rattle.std.specs.List.{All, slice_get}
use Rattle.std.proofs.lemmas.List.{length-take, take_all, take_more}
use Rattle.std.proofs.lemmas.List.Elements.{All-contains}
use Rattle.std.proofs.lemmas.Option.{slice_get-get_or}
use Rattle.sdls_base.specs.KeyId.{end_of}
use Rattle.sdls_base.specs.declared.entry.Change.TheVariants as changes
use Rattle.sdls_base.specs.declared.entry.Entry.{Entry}
use Rattle.sdls_base.specs.declared.entry.Seen.TheVariants as seens
use Rattle.sdls_base.specs.declared.states.Direction.TheVariants.{Send}
use Rattle.sdls_base.specs.declared.TheConstants.{MOST_KEYS}
use Rattle.record_io.specs.declared.answers.Answer.{Answer}
use Rattle.record_io.specs.declared.code.TheConstants as codes_of
use Rattle.record_io.specs.declared.reader.RecordKind.TheVariants.{Protect, Open, Command}
use Rattle.record_io.specs.declared.item_cursor.Record.{Record}
use Rattle.record_io.specs.Places.{Place, records_of}
use Rattle.counter_table.specs.declared.view.View.{View}
use Rattle.counter_table.specs.Whole.{IsWhole}
use Rattle.unit_plan.specs.PlanLines.{PlanLines}
use Rattle.unit_plan.specs.PlanRules.{IsPlan}
use Rattle.unit_state.specs.declared.state.State.{State}
use Rattle.unit_state.specs.State.{KeepsRules}
use Rattle.unit_state.specs.History.{after_all, at_epoch, epoch_after}
use Rattle.frame_shield.specs.declared.binding.Binding.{Binding}
use Rattle.frame_shield.specs.Protects.{Protects}
use Rattle.frame_checks.specs.ProtectingFrames as protecting
use Rattle.run_promise.specs.Answers.{Told, told_by, unbound_told}
use Rattle.run_promise.specs.History.{drawers, draws, IsLegal, IsReserve, IsAskedFor, NearWord}
use Rattle.run_promise.specs.Fits.{Course, Fits, IsBound, IsExhausted, IsProtected, IsUnbound, protect_reply}
use Rattle.run_promise.specs.Numbers.{mark_of}
use Rattle.run_promise.specs.Call.{Begin}
use Rattle.run_promise.specs.Deed.{Deed}
use Rattle.law_workers.specs.Deeds.{Does, course_in}
use Rattle.law_workers.specs.Order.{Handled, Layout}
use Rattle.law_workers.specs.Views.{entries_in}
use Rattle.law_workers.specs.Work.{indexed}
use Rattle.law_workers.specs.Opened.{IsJustOpened}
use Rattle.law_workers.proofs.WholeRun.{rules_at_end, IsHistory, answers_fit, legal}
use Rattle.unit_drill.specs.Frames.{clear_frame, field_octet, field_octets, protect_task}
use Rattle.unit_drill.proofs.Read.{sender_bare}
use Rattle.unit_drill.proofs.Binding.{bound_on, bound_to, clear_on, field_by}
use Rattle.unit_drill.proofs.Lanes.{begun, each, end_on, key_on, mark_on, suite_on}
use Rattle.unit_drill.proofs.Reserving.{Reserved, none_reserved, reserved_more, sending}

-- the records that a unit handled since it was opened
pub record Done (layout : Layout) (begin : Begin) (first now : View) (tasks : List Record) (deeds : List Deed) : Type 0
  where
    pub opened : IsJustOpened begin first
    pub rows : begin.rows ≡ MOST_KEYS
    pub handled : Handled layout begin first now tasks deeds
    pub whole : IsWhole begin.rows now
    pub plan_is : IsPlan begin.plan
    pub rules : KeepsRules begin.start
    pub once : (index : ℕ) → indexed index tasks ≤ 1

pub drawers_few : (tasks : List Record) → drawers tasks ≤ length tasks
drawers_few [] = omega arith
drawers_few (task ∷ tasks) = let h = drawers_few tasks in one (draws task.kind) (drawers tasks) (length tasks) h
  where
    one : (b : Bool) (m n : ℕ) → m ≤ n → cond b 1 0 + m ≤ suc n
    one true m n h = omega arith
    one false m n h = omega arith

pub first_epoch : (state : State) (es : List Entry) → at_epoch state es 0 ≡ state
first_epoch state [] = refl
first_epoch state (entry ∷ es) = refl

-- the records as places of one segment
abbrev pub in_one : Record → Place
in_one task = record { task = task; segment = 0 }

pub records_back : (tasks : List Record) → records_of (map in_one tasks) ≡ tasks
records_back [] = refl
records_back (task ∷ tasks) = ap (λ (ts : List Record). task ∷ ts) (records_back tasks)

abbrev IsFrame : Record → Type 0
IsFrame task = (i : ℕ) × (task ≡ protect_task i)

pub clear_is : (i : ℕ) → clear_frame i ≡ clear_on (i % 4) (i % 256) (field_by (field_octet i))
unfolding field_octets
clear_is i = refl

-- the frame is protected under its lane's key
pub record Sent (i : ℕ) (answer : Answer) : Type 0 where
  pub code : answer.code ≡ codes_of.PROTECTED
  pub key : answer.key ≡ key_on (i % 4)
  pub least : 1 ≤ answer.number
  pub most : answer.number ≤ 100001
  pub protects : Protects (bound_to 1 (i % 4 + 1) (suite_on (i % 4)) (key_on (i % 4)) (i % 4 + 1)) answer.number
      (clear_frame i) answer.body

module _ (layout : Layout) (begin : Begin) (first now : View) (tasks : List Record) (deeds : List Deed)
    (done : Done layout begin first now tasks deeds) (plan : begin.plan ≡ sender_bare)
    (start : begin.start ≡ sending (each 1))
    (frames : All IsFrame tasks) (few : length tasks ≤ 100000) where
  abbrev pub entries : List Entry
  entries = entries_in now

  abbrev pub near : ℕ → ℕ → Type 0
  near = NearWord begin.start entries tasks

  kept : KeepsRules (after_all begin.start entries)
  kept = rules_at_end begin first now (map in_one tasks) deeds done.opened
      (subst (λ (ts : List Record). Does begin first now ts deeds) (sym (records_back tasks)) done.handled.does)
      done.whole done.plan_is done.rules

  history : IsHistory near begin tasks entries
  history = legal begin first now tasks deeds done.opened done.handled.does done.whole done.rows done.rules kept
      done.once

  near_low : (lane number : ℕ) → lane < 4 → near (key_on lane) number → number ≤ 1 + length tasks
  near_low lane number low is =
      let least : mark_of begin.start (key_on lane) ≡ 1 = ap (λ (s : State). mark_of s (key_on lane)) start
      ∙ mark_on 1 Send (each 1) begun (each 0) lane low in
      let few_drawn = drawers_few tasks in
      let most = is.most in
      ⊎_elim (λ (base : is.base ≡ mark_of begin.start (key_on lane)).
      (let e : number ≤ 1 + length tasks = omega arith in e))
      (λ (asked : IsAskedFor begin.start entries tasks (key_on lane) is.base).
      let (i, same) = All-contains IsFrame tasks asked.task frames asked.there in
      let kind : Protect ≡ Command = sym (ap (λ (t : Record). t.kind) same) ∙ asked.kind_is in absurd (cc)) is.is_base

  -- each entry is a reserve
  reserve_at : (p : ℕ) (entry : Entry) → slice_get entries p ≡ Some entry
      → IsReserve near sender_bare (after_all (sending (each 1)) (take p entries)) entry
  reserve_at p entry there =
      let legal_so : IsLegal near sender_bare (after_all (sending (each 1)) (take p entries)) tasks entry =
      subst (λ (s : State). IsLegal near sender_bare (after_all s (take p entries)) tasks entry) start
      (subst (λ (l : PlanLines). IsLegal near l (after_all begin.start (take p entries)) tasks entry) plan
      (history.each p entry there)) in
      elim legal_so [
        | inl opening ↦
            let (i, same) = All-contains IsFrame tasks opening.task frames opening.there in
            let kind : Protect ≡ Open = sym (ap (λ (t : Record). t.kind) same) ∙ opening.kind_is in absurd (cc)
        | inr (inl procedure) ↦
            let (i, same) = All-contains IsFrame tasks procedure.task frames procedure.there in
            let kind : Protect ≡ Command = sym (ap (λ (t : Record). t.kind) same) ∙ procedure.kind_is in absurd (cc)
        | inr (inr reserve) ↦ reserve
      ]

  abbrev bound : ℕ
  bound = 1 + length tasks

  -- the history up to a place
  pub reserved : (p : ℕ) → p ≤ length entries → Reserved (take p entries) bound
  reserved zero within = none_reserved bound (omega arith)
  reserved (suc p) within =
      let before = reserved p (omega arith) in
      let blank : Entry = record { index = None; seen = seens.Nothing; change = changes.Nothing } in
      let entry = get_or entries p blank in
      let there : slice_get entries p ≡ Some entry = slice_get-get_or entries p blank (omega arith) in
      let next : take (suc p) entries ≡ take p entries ++ entry ∷ [] =
      (let e : suc p ≡ p + 1 = omega arith in ap (λ (n : ℕ). take n entries) e)
      ∙ take_more entries p blank (omega arith) in
      subst (λ (es : List Entry). Reserved es bound) (sym next)
      (reserved_more near (take p entries) bound entry (omega arith) near_low before (reserve_at p entry there))

  pub few_entries : length entries ≤ 6300
  few_entries =
      let r = reserved (length entries) (omega arith) in
      let a = r.low 0 (omega arith) in
      let b = r.low 1 (omega arith) in
      let c = r.low 2 (omega arith) in
      let d = r.low 3 (omega arith) in
      let sum = r.grown in
      let all = length-take (length entries) entries in
      omega arith

  no_epochs : epoch_after entries ≡ 0
  no_epochs =
      let all : take (length entries) entries ≡ entries = take_all (length entries) entries (omega arith) in
      ap epoch_after (sym all) ∙ (reserved (length entries) (omega arith)).epoch

  abbrev pub course : Course
  course = course_in begin now

  -- the binding of the frame, in the state of each epoch that is reached
  bound_so : (i epoch : ℕ) → epoch ≤ epoch_after entries
      → protect_reply course.begin.plan (at_epoch course.begin.start entries epoch) 0 (clear_frame i)
      ≡ Ok (Some (bound_to 1 (i % 4 + 1) (suite_on (i % 4)) (key_on (i % 4)) (i % 4 + 1)))
  bound_so i epoch reached =
      let none = no_epochs in
      let zero_is : epoch ≡ 0 = omega arith in
      ap (λ (e : ℕ). protect_reply begin.plan (at_epoch begin.start entries e) 0 (clear_frame i)) zero_is
      ∙ (ap (λ (s : State). protect_reply begin.plan s 0 (clear_frame i)) (first_epoch begin.start entries ∙ start)
      ∙ (ap (λ (l : PlanLines). protect_reply l (sending (each 1)) 0 (clear_frame i)) plan
      ∙ (ap (protect_reply sender_bare (sending (each 1)) 0) (clear_is i) ∙ bound_on (i % 256) (field_octet i) (i % 4)
      (omega arith))))

  abbrev ours : ℕ → Binding
  ours i = bound_to 1 (i % 4 + 1) (suite_on (i % 4)) (key_on (i % 4)) (i % 4 + 1)

  same_binding : (i : ℕ) (answer : Answer) (is : IsBound course (protect_task i) answer) → is.binding ≡ ours i
  same_binding i answer is =
      let twice : ◌≡◌ {A = protecting.Answer} (Ok (Some is.binding)) (Ok (Some (ours i))) =
      sym is.bound ∙ bound_so i answer.position is.reached in cc

  sent_by : (i : ℕ) (answer : Answer) → IsProtected near course (protect_task i) answer → Sent i answer
  sent_by i answer is =
      let same = same_binding i answer is.is in
      let key : answer.key ≡ key_on (i % 4) = is.is.key_is ∙ ap (λ (b : Binding). b.key) same in
      let is_near = subst (λ (k : ℕ). near k answer.number) key is.is_near in
      let low = near_low (i % 4) answer.number (omega arith) is_near in
      let first_mark : mark_of begin.start (key_on (i % 4)) ≡ 1 =
      ap (λ (s : State). mark_of s (key_on (i % 4))) start ∙ mark_on 1 Send (each 1) begun (each 0) (i % 4)
      (omega arith) in
      let least = is_near.least in
      record {
        code = ap (λ (t : Told). t.code) is.told;
        key = key;
        least = omega arith;
        most = omega arith;
        protects = subst (λ (b : Binding). Protects b answer.number (clear_frame i) answer.body) same is.protects;
      }

  not_unbound : (i : ℕ) (answer : Answer) → IsUnbound course (protect_task i) answer → ⊥
  not_unbound i answer is =
      let none : ◌≡◌ {A = Option Told} None (Some (told_by answer)) =
      sym (ap unbound_told (bound_so i answer.position is.reached)) ∙ is.told in cc

  not_exhausted : (i : ℕ) (answer : Answer) → IsExhausted near course (protect_task i) answer → ⊥
  not_exhausted i answer is =
      let same = same_binding i answer is.is in
      let key : answer.key ≡ key_on (i % 4) = is.is.key_is ∙ ap (λ (b : Binding). b.key) same in
      let low = near_low (i % 4) answer.number (omega arith) (subst (λ (k : ℕ). near k answer.number) key is.is_near) in
      let end = end_on (i % 4) (omega arith) in
      let high : end_of (key_on (i % 4)) ≤ answer.number = subst (λ (k : ℕ). end_of k ≤ answer.number) key is.at_end in
      omega arith

  pub sent_so : (i : ℕ) (answer : Answer) → Fits near course (protect_task i) answer → answer.code ≢ codes_of.SITE_FAULT
      → answer.code ≢ codes_of.STOPPED
      → answer.code ≢ codes_of.NO_MEMORY → Sent i answer
  sent_so i answer fits no_fault not_stopped not_wanting = elim fits [
    | inl is ↦ sent_by i answer is
    | inr (inl is) ↦ absurd (not_unbound i answer is)
    | inr (inr (inl is)) ↦ absurd (not_exhausted i answer is)
    | inr (inr (inr (inl is))) ↦ absurd (no_fault (ap (λ (t : Told). t.code) is.tells.told))
    | inr (inr (inr (inr (inl is)))) ↦ absurd (not_stopped (ap (λ (t : Told). t.code) is.tells.told))
    | inr (inr (inr (inr (inr is)))) ↦ absurd (not_wanting (ap (λ (t : Told). t.code) is.told))
  ]

  pub fits : All (λ (deed : Deed). Fits near course deed.task deed.answer) deeds
  fits = answers_fit begin first now tasks deeds done.opened done.handled.does done.whole done.rows done.rules kept
