-- What the receiver of a drill answers: it accepts each frame the first time, and refuses its number the second time.
use Rattle.std.proofs.Common.{◌≡◌, ◌≢◌, ◌⊎◌, ℕ, zero, suc, ◌+◌, ◌-◌, ◌/◌, ◌%◌, ◌<◌, ◌≤◌, if◌then◌else◌, nat_eq, Bool}
use Rattle.std.proofs.Common.{true, false, List, [], ◌∷◌, ◌++◌, length, take, map, get_or, Option, None, Some, refl}
use Rattle.std.proofs.Common.{sym, ◌∙◌, ap, subst, inl, inr, ⊎_elim, arith, Contains}
use Rattle.std.specs.List.{All, slice_get}
use Rattle.std.proofs.lemmas.Bool.{cases_lt, eqb-true}
use Rattle.std.proofs.lemmas.Bool.Decides.{nat_tests}
use Rattle.std.proofs.lemmas.List.{take_more}
use Rattle.std.proofs.lemmas.List.Elements.{All-contains, All-head, All-tail}
use Rattle.std.proofs.lemmas.Option.{slice_get-get_or, slice_get_within}
use Rattle.sdls_base.specs.KeyId.{end_of}
use Rattle.sdls_base.specs.declared.entry.Change.TheVariants as changes
use Rattle.sdls_base.specs.declared.entry.Entry.{Entry}
use Rattle.sdls_base.specs.declared.entry.Seen.TheVariants as seens
use Rattle.sdls_base.specs.declared.states.Direction.TheVariants.{Receive}
use Rattle.replay_window.specs.Window.{IsFresh}
use Rattle.record_io.specs.declared.answers.Answer.{Answer}
use Rattle.record_io.specs.declared.code.TheConstants as codes_of
use Rattle.record_io.specs.declared.reader.RecordKind.TheVariants.{Open, Command}
use Rattle.record_io.specs.declared.item_cursor.Record.{Record}
use Rattle.counter_table.specs.Turn.{stands}
use Rattle.counter_table.specs.declared.view.View.{View}
use Rattle.unit_plan.specs.PlanLines.{PlanLines}
use Rattle.unit_state.specs.declared.state.State.{State}
use Rattle.unit_state.specs.State.{KeepsRules}
use Rattle.unit_state.specs.History.{after_all}
use Rattle.frame_shield.specs.Protects.{Protects}
use Rattle.frame_checks.specs.declared.opening_frames.OpenReply.{OpenReply}
use Rattle.frame_checks.specs.declared.opening_frames.OpenReply.TheVariants.{Accepted}
use Rattle.frame_checks.specs.OpeningFrames.{IsOpenReply}
use Rattle.run_promise.specs.Answers.{Told, told_by, opened_told}
use Rattle.run_promise.specs.History.{draws, drawers, is_none_index, reserves_of, frame_change, frame_entry}
use Rattle.run_promise.specs.History.{raised_floor, IsLegal, IsOpening, NearWord}
use Rattle.run_promise.specs.Fits.{Course, Fits, FitsKind, IsOpenAnswer}
use Rattle.run_promise.specs.Call.{Begin}
use Rattle.run_promise.specs.Deed.{Deed}
use Rattle.law_workers.specs.Deeds.{Does, course_in}
use Rattle.law_workers.specs.Order.{Layout, TakeTurns}
use Rattle.law_workers.specs.Views.{entries_in}
use Rattle.law_workers.proofs.WholeRun.{rules_at_end, IsHistory, answers_fit, legal}
use Rattle.law_workers.proofs.Counting.{entries_in_order, few_entries, few_reserves}
use Rattle.unit_drill.specs.Frames.{clear_frame, data_field, field_octet, field_octets, open_task}
use Rattle.unit_drill.proofs.Read.{receiver_bare}
use Rattle.unit_drill.proofs.Accepting.{Taken, none_taken, above_fresh, fresh_above, taken_more, taken_nothing}
use Rattle.unit_drill.proofs.Binding.{bound_to, field_by}
use Rattle.unit_drill.proofs.Judging.{judges_on, receiving}
use Rattle.unit_drill.proofs.Lanes.{begun, each, end_on, key_on, key_own, row_on, suite_on, with_on}
use Rattle.unit_drill.proofs.Opening.{JudgesOpening, OpensOnce, refuses, takes}
use Rattle.unit_drill.proofs.Sending.{Done, clear_is, drawers_few, in_one, records_back}

-- frames that a sender protected: their octets, and the numbers under which they were, which ascend on each lane
pub record AreSent (total : ℕ) (numbers : ℕ → ℕ) (octets : ℕ → List ℕ) : Type 0 where
  pub protects : (i : ℕ) → i < total
      → Protects (bound_to 1 (i % 4 + 1) (suite_on (i % 4)) (key_on (i % 4)) (i % 4 + 1)) (numbers i) (clear_frame i)
      (octets i)
  pub least : (i : ℕ) → i < total → 1 ≤ numbers i
  pub most : (i : ℕ) → i < total → numbers i ≤ 100001
  pub ascend : (i j : ℕ) → i < j → j < total → i % 4 ≡ j % 4 → numbers i < numbers j

-- the record opens one of the frames, and such an index goes with it
pub record Handed (IsAt : ℕ → ℕ → Type 0) (total : ℕ) (octets : ℕ → List ℕ) (task : Record) : Type 0 where
  pub frame : ℕ
  pub within : frame < total
  pub index : ℕ
  pub is_at : IsAt frame index
  pub is : task ≡ open_task index frame (octets frame)

-- the index of a record that opens a frame for the first time, or the first of a chunk again
pub record IsTurn (frame index : ℕ) : Type 0 where
  pub again : ℕ
  pub again_is : (again ≡ 0) ⊎ ((again ≡ 256) × (frame % 256 ≡ 0))
  pub is : index ≡ frame + again + frame / 256

field_is : (i : ℕ) → data_field i ≡ field_by (field_octet i)
unfolding field_octets
field_is i = refl

earlier : (i a j : ℕ) → (a ≡ 0) ⊎ ((a ≡ 256) × (i % 256 ≡ 0)) → i + a + i / 256 < j + 0 + j / 256 → i < j
earlier i a j (inl none) low = omega arith
earlier i a j (inr again) low = let h = again.0 in let k = again.1 in omega arith

-- records that open frames draw no number
none_draws : (IsAt : ℕ → ℕ → Type 0) (total : ℕ) (octets : ℕ → List ℕ) (tasks : List Record)
    → All (Handed IsAt total octets) tasks → drawers tasks ≡ 0
none_draws IsAt total octets [] all = refl
none_draws IsAt total octets (task ∷ tasks) all =
    let h = All-head (Handed IsAt total octets) task tasks all in
    let none : draws task.kind ≡ false = ap (λ (t : Record). draws t.kind) h.is in
    let rest = none_draws IsAt total octets tasks (All-tail (Handed IsAt total octets) task tasks all) in
    let one : if◌then◌else◌ {A = ℕ} (draws task.kind) 1 0 ≡ 0 = ap (λ (b : Bool). if◌then◌else◌ {A = ℕ} b 1 0) none in
    omega arith

none_index_by : (o : Option ℕ) (n : ℕ) → o ≡ None → 1 ≤ (if is_none_index o then 1 else 0) + n
none_index_by None n is = omega arith
none_index_by (Some index) n is = absurd (cc)

reserve_counts : (es : List Entry) (p : ℕ) (entry : Entry) → slice_get es p ≡ Some entry → entry.index ≡ None
    → 1 ≤ reserves_of es
reserve_counts [] p entry there none = absurd (let k : ◌≡◌ {A = Option Entry} None (Some entry) = there in cc)
reserve_counts (one ∷ es) zero entry there none =
    let same : one ≡ entry = (let k : Some one ≡ Some entry = there in cc) in
    none_index_by one.index (reserves_of es) (ap (λ (e : Entry). e.index) same ∙ none)
reserve_counts (one ∷ es) (suc p) entry there none = let h = reserve_counts es p entry there none in omega arith

module _ (IsAt : ℕ → ℕ → Type 0) (once : OpensOnce) (layout : Layout) (begin : Begin) (first now : View)
    (tasks : List Record) (deeds : List Deed)
    (done : Done layout begin first now tasks deeds) (plan : begin.plan ≡ receiver_bare)
    (start : begin.start ≡ receiving begun (each 0))
    (total : ℕ) (few : length tasks ≤ 200000) (numbers : ℕ → ℕ) (octets : ℕ → List ℕ)
    (sent : AreSent total numbers octets)
    (handed : All (Handed IsAt total octets) tasks)
    (lanes : All (λ (task : Record). layout.lane_of task.index ≡ task.lane) tasks) where
  abbrev pub entries : List Entry
  entries = entries_in now

  abbrev pub near : ℕ → ℕ → Type 0
  near = NearWord begin.start entries tasks

  kept : KeepsRules (after_all begin.start entries)
  kept = rules_at_end begin first now (map in_one tasks) deeds done.opened
      (subst (λ (ts : List Record). Does begin first now ts deeds) (sym (records_back tasks)) done.handled.does)
      done.whole done.plan_is done.rules

  history : IsHistory near begin tasks entries
  history = legal begin first now tasks deeds done.opened done.handled.does done.whole done.rows done.rules kept
      done.once

  none_made : (x : ℕ) → stands x first.turn.made ≡ 0
  none_made x = ap (stands x) done.opened.none_made

  -- each entry is that of a frame that was opened
  opening_at : (p : ℕ) (entry : Entry) → slice_get entries p ≡ Some entry
      → IsOpening receiver_bare (after_all (receiving begun (each 0)) (take p entries)) tasks entry
  opening_at p entry there =
      let legal_so : IsLegal near receiver_bare (after_all (receiving begun (each 0)) (take p entries)) tasks entry =
      subst (λ (s : State). IsLegal near receiver_bare (after_all s (take p entries)) tasks entry) start
      (subst (λ (l : PlanLines). IsLegal near l (after_all begin.start (take p entries)) tasks entry) plan
      (history.each p entry there)) in
      elim legal_so [
        | inl opening ↦ opening
        | inr (inl procedure) ↦
            let h = All-contains (Handed IsAt total octets) tasks procedure.task handed procedure.there in
            let kind : Open ≡ Command = sym (ap (λ (t : Record). t.kind) h.is) ∙ procedure.kind_is in absurd (cc)
        | inr (inr reserve) ↦
            let most = few_reserves begin first now tasks deeds done.handled.does done.whole none_made in
            let none = none_draws IsAt total octets tasks handed in
            let least = reserve_counts entries p entry there (ap (λ (e : Entry). e.index) reserve.entry_is) in absurd
            (omega arith)
      ]

  -- the entry is that of a record which opened this frame
  pub record OfFrame (p : ℕ) (lane number : ℕ) : Type 0 where
    pub place : ℕ
    pub before : place < p
    pub entry : Entry
    pub there : slice_get entries place ≡ Some entry
    pub task : Record
    pub among : Contains tasks task
    pub hand : Handed IsAt total octets task
    pub index : entry.index ≡ Some task.index
    pub is_lane : hand.frame % 4 ≡ lane
    pub number_is : numbers hand.frame ≡ number

  abbrev Accepts : ℕ → ℕ → ℕ → Type 0
  Accepts place lane number = (entry : Entry) × (slice_get entries place ≡ Some entry) × (spi : ℕ) × (floor : ℕ)
      × (entry.change ≡ changes.Accepted spi (key_on lane) number floor)

  -- The history up to a place: the highest number of each lane is one that was accepted, and none accepted is above it.
  pub record Took (p : ℕ) (es : List Entry) : Type 0 where
    pub taken : Taken es
    pub from : (lane : ℕ) → lane < 4 → (taken.highs lane ≡ 0) ⊎ OfFrame p lane (taken.highs lane)
    pub above : (place lane number : ℕ) → place < p → lane < 4 → Accepts place lane number → number ≤ taken.highs lane

  further : (p lane number : ℕ) → OfFrame p lane number → OfFrame (suc p) lane number
  further p lane number is = record {
    place = is.place;
    before = let h = is.before in omega arith;
    entry = is.entry;
    there = is.there;
    task = is.task;
    among = is.among;
    hand = is.hand;
    index = is.index;
    is_lane = is.is_lane;
    number_is = is.number_is;
  }

  -- what the receiver replies to a record in the state after some entries
  replies_to : (p : ℕ) (t : Taken (take p entries)) (task : Record) (hand : Handed IsAt total octets task)
      (reply : OpenReply) (field : List ℕ)
      → IsOpenReply receiver_bare
      (after_all (receiving begun (each 0)) (take p entries)) task.link task.octets reply field
      → JudgesOpening (row_on Receive t.windows (hand.frame % 4)) (hand.frame % 4 + 1) (key_on (hand.frame % 4))
      (numbers hand.frame)
      (data_field hand.frame) reply field
  replies_to p t task hand reply field is =
      let i = hand.frame in
      let same : IsOpenReply receiver_bare (receiving t.windows t.floors) 0 (octets i) reply field =
      subst (λ (s : State). IsOpenReply receiver_bare s 0 (octets i) reply field) t.is
      (subst (λ (r : Record). IsOpenReply receiver_bare (after_all (receiving begun (each 0)) (take p entries)) r.link
      r.octets reply field) hand.is is) in
      let protects = subst (λ (c : List ℕ). Protects
      (bound_to 1 (i % 4 + 1) (suite_on (i % 4)) (key_on (i % 4)) (i % 4 + 1)) (numbers i) c (octets i))
      (clear_is i)
      (sent.protects i hand.within) in
      subst (λ (own : List ℕ). JudgesOpening (row_on Receive t.windows (i % 4)) (i % 4 + 1) (key_on (i % 4))
      (numbers i) own reply field) (sym (field_is i))
      (judges_on once t.windows t.floors (numbers i) (i % 256) (field_octet i) (octets i) field reply (i % 4)
      (omega arith) protects same)

  abbrev FromAll : ℕ → (ℕ → ℕ) → Type 0
  FromAll p highs = (lane : ℕ) → lane < 4 → (highs lane ≡ 0) ⊎ OfFrame p lane (highs lane)

  abbrev AboveAll : ℕ → (ℕ → ℕ) → Type 0
  AboveAll p highs = (place lane number : ℕ) → place < p → lane < 4 → Accepts place lane number → number ≤ highs lane

  from_by : (p lane other number old : ℕ) (b : Bool) → nat_eq other lane ≡ b → OfFrame (suc p) lane number
      → (old ≡ 0) ⊎ OfFrame p other old → ((if b then number else old) ≡ 0)
      ⊎ OfFrame (suc p) other (if b then number else old)
  from_by p lane other number old true e here before =
      let same : lane ≡ other = sym (eqb-true other lane e) in inr
      (subst (λ (l : ℕ). OfFrame (suc p) l number) same here)
  from_by p lane other number old false e here (inl none) = inl none
  from_by p lane other number old false e here (inr is) = inr (further p other old is)

  above_by : (b : Bool) (number new old : ℕ) → number ≤ old → old ≤ new → number ≤ (if b then new else old)
  above_by true number new old low up = omega arith
  above_by false number new old low up = low

  here_by : (b : Bool) (lane other number old : ℕ) → nat_eq other lane ≡ b → lane ≡ other
      → number ≤ (if b then number else old)
  here_by true lane other number old e same = omega arith
  here_by false lane other number old e same = absurd (grind (arith, nat_tests))

  old_by : (b : Bool) (lane other number new old : ℕ) → nat_eq other lane ≡ b → number ≤ old
      → (lane ≡ other → old ≤ new) → number ≤ (if b then new else old)
  old_by true lane other number new old e low up = let same : lane ≡ other = grind (arith, nat_tests) in let h =
      up same in omega arith
  old_by false lane other number new old e low up = low

  module _ (p : ℕ) (entry : Entry) (there : slice_get entries p ≡ Some entry) (before : Took p (take p entries)) where
    abbrev opening : IsOpening receiver_bare (after_all (receiving begun (each 0)) (take p entries)) tasks entry
    opening = opening_at p entry there

    abbrev hand : Handed IsAt total octets opening.task
    hand = All-contains (Handed IsAt total octets) tasks opening.task handed opening.there

    abbrev lane : ℕ
    lane = hand.frame % 4

    abbrev number : ℕ
    number = numbers hand.frame

    abbrev highs : ℕ → ℕ
    highs = before.taken.highs

    by_entry : {A : Type 0} (f : Entry → A) (entry_is : slice_get entries p ≡ Some entry) (other : Entry)
        → slice_get entries p ≡ Some other
        → f other ≡ f entry
    by_entry f entry_is other is = let same : other ≡ entry = (let twice = sym is ∙ entry_is in cc) in ap f same

    took_number : (from to : ℕ) → opening.reply ≡ Accepted (lane + 1) (key_on lane) number from to
        → IsFresh (before.taken.windows lane) number (end_of (key_on lane))
        → Took (suc p) (take p entries ++ entry ∷ [])
    took_number from to reply fresh =
        let state = after_all (receiving begun (each 0)) (take p entries) in
        let change : entry.change ≡ changes.Accepted (lane + 1) (key_on lane) number
        (raised_floor receiver_bare (receiving before.taken.windows before.taken.floors)
        (key_on lane) number) =
        ap (λ (e : Entry). e.change) opening.entry_is
        ∙ (ap (frame_change receiver_bare state) reply
        ∙ ap (λ (s : State). changes.Accepted (lane + 1) (key_on lane) number
        (raised_floor receiver_bare s (key_on lane) number)) before.taken.is) in
        let up = fresh_above (before.taken.windows lane) (highs lane) number (end_of (key_on lane))
        (before.taken.each_is lane) fresh in
        let step = taken_more (take p entries) entry lane number _ (omega arith) before.taken up change in
        let mine : OfFrame (suc p) lane number = record {
          place = p;
          before = omega arith;
          entry = entry;
          there = there;
          task = opening.task;
          among = opening.there;
          hand = hand;
          index = ap (λ (e : Entry). e.index) opening.entry_is;
          is_lane = refl;
          number_is = refl;
        } in
        let above_now : AboveAll (suc p) (with_on lane number highs) =
        λ place other n low is_lane accepts. elim (cases_lt place p) [
          | inl earlier_place ↦
              let h = before.above place other n earlier_place is_lane accepts in
              old_by (nat_eq other lane) lane other n number (highs other) refl h
              (λ same. let k : highs lane ≡ highs other = ap highs same in omega arith)
          | inr later_place ↦
              let at : place ≡ p = omega arith in
              let it = subst (λ (x : ℕ). Accepts x other n) at accepts in
              let twice : changes.Accepted it.2 (key_on other) n it.3 ≡ changes.Accepted (lane + 1) (key_on lane) number
              (raised_floor receiver_bare
              (receiving before.taken.windows before.taken.floors) (key_on lane) number) =
              sym it.4 ∙ (by_entry (λ (e : Entry). e.change) there it.0 it.1 ∙ change) in
              let keys : key_on lane ≡ key_on other = (let t = twice in cc) in
              let numbers_are : n ≡ number = (let t = twice in cc) in
              let low_so = here_by (nat_eq other lane) lane other number (highs other) refl
              (key_own lane (omega arith) other is_lane keys) in
              subst (λ (x : ℕ). x ≤ with_on lane number highs other) (sym numbers_are) low_so
        ] in
        record {
          taken = step.0;
          from = subst (FromAll (suc p)) (sym step.1)
              (λ other is_lane. from_by p lane other number (highs other) (nat_eq other lane) refl mine
              (before.from other is_lane));
          above = subst (AboveAll (suc p)) (sym step.1) above_now;
        }

    took_nothing : entry.change ≡ changes.Nothing → Took (suc p) (take p entries ++ entry ∷ [])
    took_nothing change =
        let step = taken_nothing (take p entries) entry change before.taken in
        let from_now : FromAll (suc p) highs =
        λ other is_lane. ⊎_elim (λ none. inl none) (λ is. inr (further p other (highs other) is))
        (before.from other is_lane) in
        let above_now : AboveAll (suc p) highs = λ place other n low is_lane accepts. elim (cases_lt place p) [
          | inl earlier_place ↦ before.above place other n earlier_place is_lane accepts
          | inr later_place ↦
              let at : place ≡ p = omega arith in
              let it = subst (λ (x : ℕ). Accepts x other n) at accepts in
              let twice : changes.Accepted it.2 (key_on other) n it.3 ≡ changes.Nothing =
              sym it.4 ∙ (by_entry (λ (e : Entry). e.change) there it.0 it.1
              ∙ change) in
              absurd (cc)
        ] in
        record {
          taken = step.0;
          from = subst (FromAll (suc p)) (sym step.1) from_now;
          above = subst (AboveAll (suc p)) (sym step.1) above_now;
        }

    took_next : Took (suc p) (take p entries ++ entry ∷ [])
    took_next = elim (replies_to p before.taken opening.task hand opening.reply opening.field opening.replies) [
      | takes from to reply field fresh ↦ took_number from to reply fresh
      | refuses high width reply stale ↦ took_nothing (ap (λ (e : Entry). e.change) opening.entry_is
          ∙ ap (frame_change receiver_bare (after_all (receiving begun (each 0)) (take p entries))) reply)
    ]

  pub took : (p : ℕ) → p ≤ length entries → Took p (take p entries)
  took zero within = record {
    taken = none_taken;
    from = λ lane is_lane. inl refl;
    above = λ place lane number low is_lane accepts. absurd (omega arith);
  }
  took (suc p) within =
      let blank : Entry = record { index = None; seen = seens.Nothing; change = changes.Nothing } in
      let entry = get_or entries p blank in
      let there : slice_get entries p ≡ Some entry = slice_get-get_or entries p blank (omega arith) in
      let next : take (suc p) entries ≡ take p entries ++ entry ∷ [] =
      (let e : suc p ≡ p + 1 = omega arith in ap (λ (n : ℕ). take n entries) e)
      ∙ take_more entries p blank (omega arith) in
      subst (Took (suc p)) (sym next) (took_next p entry there (took p (omega arith)))

  -- ---- the answers

  abbrev pub course : Course
  course = course_in begin now

  -- the entry of the record that this answer is of
  pub record TellsEntry (task : Record) (answer : Answer) : Type 0 where
    pub reply : OpenReply
    pub field : List ℕ
    pub replies : IsOpenReply receiver_bare (after_all (receiving begun (each 0)) (take (answer.position - 1) entries))
        task.link task.octets reply field
    pub there : slice_get entries (answer.position - 1)
        ≡ Some (frame_entry receiver_bare (after_all (receiving begun (each 0)) (take (answer.position - 1) entries))
        task.index reply)
    pub tells : told_by answer ≡ opened_told reply field

  tells_entry : (task : Record) (answer : Answer) → IsOpenAnswer course task answer → TellsEntry task answer
  tells_entry task answer is =
      let place = answer.position - 1 in
      record {
        reply = is.reply;
        field = is.field;
        replies = subst (λ (s : State). IsOpenReply receiver_bare
            (after_all s (take place entries)) task.link task.octets
            is.reply is.field) start
            (subst (λ (l : PlanLines). IsOpenReply l (after_all begin.start (take place entries)) task.link task.octets
            is.reply is.field) plan is.replies);
        there = subst (λ (s : State). slice_get entries place
            ≡ Some (frame_entry receiver_bare (after_all s (take place entries)) task.index is.reply)) start
            (subst (λ (l : PlanLines). slice_get entries place ≡ Some (frame_entry l (after_all begin.start
            (take place entries)) task.index is.reply)) plan is.stands.there);
        tells = is.told;
      }

  -- entries of two records of one lane, of which the one comes first
  in_order : (p q : ℕ) (a b : Entry) (one other : Record) → Contains tasks one → Contains tasks other
      → one.lane ≡ other.lane
      → slice_get entries p ≡ Some a → slice_get entries q ≡ Some b → a.index ≡ Some one.index
      → b.index ≡ Some other.index → one.index < other.index → p < q
  in_order p q a b one other is_one is_other same at_p at_q index_a index_b low =
      let lane_one = All-contains (λ (task : Record). layout.lane_of task.index ≡ task.lane) tasks one lanes is_one in
      let lane_other = All-contains (λ (task : Record). layout.lane_of task.index ≡ task.lane) tasks other lanes
      is_other in
      entries_in_order begin first now tasks deeds done.handled.does done.whole (TakeTurns layout)
      (length tasks + drawers tasks) 0 done.handled.lined none_made
      p q one.index other.index a b at_p at_q index_a index_b low (inl (lane_one ∙ (same ∙ sym lane_other)))

  lane_is : (task : Record) (hand : Handed IsAt total octets task) → task.lane ≡ hand.frame % 4
  lane_is task hand = ap (λ (t : Record). t.lane) hand.is

  index_is : (task : Record) (hand : Handed IsAt total octets task) → task.index ≡ hand.index
  index_is task hand = ap (λ (t : Record). t.index) hand.is

  -- the index tells which turn of the frame it is
  abbrev pub TellsTurn : Type 0
  TellsTurn = (frame index : ℕ) → IsAt frame index → IsTurn frame index

  abbrev pub IsFirst : TellsTurn → (task : Record) → Handed IsAt total octets task → Type 0
  IsFirst turn task hand = (turn hand.frame hand.index hand.is_at).again ≡ 0

  -- the highest number of the lane, before a frame is opened for the first time
  below_number : (turn : TellsTurn) (place : ℕ) (entry : Entry) (task : Record) (hand : Handed IsAt total octets task)
      → IsFirst turn task hand
      → Contains tasks task
      → slice_get entries place ≡ Some entry → entry.index ≡ Some task.index → (high : ℕ)
      → OfFrame place (hand.frame % 4) high → high < numbers hand.frame
  below_number turn place entry task hand first_time among there index high is =
      let same_lane : is.task.lane ≡ task.lane = lane_is is.task is.hand ∙ (is.is_lane ∙ sym (lane_is task hand)) in
      let my_turn = turn hand.frame hand.index hand.is_at in
      let their_turn = turn is.hand.frame is.hand.index is.hand.is_at in
      let mine : task.index ≡ hand.frame + my_turn.again + hand.frame / 256 = index_is task hand ∙ my_turn.is in
      let theirs : is.task.index ≡ is.hand.frame + their_turn.again + is.hand.frame / 256 = index_is is.task is.hand
      ∙ their_turn.is in
      let before = is.before in
      elim (cases_lt is.task.index task.index) [
        | inl low ↦
            let frames : is.hand.frame < hand.frame =
            earlier is.hand.frame their_turn.again hand.frame their_turn.again_is (omega arith) in
            let up = sent.ascend is.hand.frame hand.frame frames hand.within is.is_lane in
            let number_is = is.number_is in omega arith
        | inr ge ↦ elim (cases_lt task.index is.task.index) [
          | inl above ↦
              let after_it = in_order place is.place entry is.entry task is.task among is.among
              (sym same_lane) there is.there index is.index above in absurd (omega arith)
          | inr le ↦
              let same : is.task.index ≡ task.index = omega arith in
              absurd (history.once is.place place is.entry entry task.index before is.there there
              (is.index ∙ ap Some same) index)
        ]
      ]

  -- the frame was accepted, with its data field; this is the entry
  pub record WasOpened (task : Record) (frame : ℕ) (answer : Answer) : Type 0 where
    pub code : answer.code ≡ codes_of.ACCEPTED
    pub body : answer.body ≡ data_field frame
    pub place : ℕ
    pub entry : Entry
    pub there : slice_get entries place ≡ Some entry
    pub index : entry.index ≡ Some task.index
    pub spi : ℕ
    pub floor : ℕ
    pub change : entry.change ≡ changes.Accepted spi (key_on (frame % 4)) (numbers frame) floor

  fresh_number : (turn : TellsTurn) (place : ℕ) (entry : Entry) (task : Record) (hand : Handed IsAt total octets task)
      → IsFirst turn task hand
      → Contains tasks task
      → slice_get entries place ≡ Some entry → entry.index ≡ Some task.index → (t : Took place (take place entries))
      → IsFresh (t.taken.windows (hand.frame % 4)) (numbers hand.frame) (end_of (key_on (hand.frame % 4)))
  fresh_number turn place entry task hand first_time among there index t =
      let lane = hand.frame % 4 in
      let least = sent.least hand.frame hand.within in
      let most = sent.most hand.frame hand.within in
      let end = end_on lane (omega arith) in
      let above : t.taken.highs lane < numbers hand.frame =
      ⊎_elim (λ none. (let e : t.taken.highs lane < numbers hand.frame = omega arith in e))
      (λ is. below_number turn place entry task hand first_time among there index (t.taken.highs lane) is)
      (t.from lane (omega arith)) in
      above_fresh (t.taken.windows lane) (t.taken.highs lane) (numbers hand.frame) (end_of (key_on lane))
      (t.taken.each_is lane) above
      (omega arith) (omega arith)

  pub opened_by : (turn : TellsTurn) (task : Record) (hand : Handed IsAt total octets task) (answer : Answer)
      → IsFirst turn task hand
      → Contains tasks task → TellsEntry task answer
      → WasOpened task hand.frame answer
  opened_by turn task hand answer first_time among is =
      let place = answer.position - 1 in
      let low = slice_get_within entries place _ is.there in
      let t = took place (omega arith) in
      let state = after_all (receiving begun (each 0)) (take place entries) in
      elim (replies_to place t.taken task hand is.reply is.field is.replies) [
        | takes from to reply field fresh ↦
            let tells = is.tells ∙ ap (λ (r : OpenReply). opened_told r is.field) reply in
            record {
              code = ap (λ (x : Told). x.code) tells;
              body = ap (λ (x : Told). x.body) tells ∙ field;
              place = place;
              entry = frame_entry receiver_bare state task.index is.reply;
              there = is.there;
              index = refl;
              spi = hand.frame % 4 + 1;
              floor = raised_floor receiver_bare state (key_on (hand.frame % 4)) (numbers hand.frame);
              change = ap (frame_change receiver_bare state) reply;
            }
        | refuses high width reply stale ↦ absurd
            (stale (fresh_number turn place _ task hand first_time among is.there refl t))
      ]

  -- whatever turn it is, the frame is accepted with its data field, or refused for its number
  pub judged_by : (task : Record) (hand : Handed IsAt total octets task) (answer : Answer) → TellsEntry task answer
      → ((answer.code ≡ codes_of.ACCEPTED) × (answer.body ≡ data_field hand.frame)) ⊎ (answer.code ≡ codes_of.NUMBER)
  judged_by task hand answer is =
      let place = answer.position - 1 in
      let low = slice_get_within entries place _ is.there in
      let t = took place (omega arith) in
      elim (replies_to place t.taken task hand is.reply is.field is.replies) [
        | takes from to reply field fresh ↦
            let tells = is.tells ∙ ap (λ (r : OpenReply). opened_told r is.field) reply in
            inl (ap (λ (x : Told). x.code) tells, ap (λ (x : Told). x.body) tells ∙ field)
        | refuses high width reply stale ↦ inr
            (ap (λ (x : Told). x.code) (is.tells ∙ ap (λ (r : OpenReply). opened_told r is.field) reply))
      ]

  pub replayed_by : (one task : Record) (own : Handed IsAt total octets one) (hand : Handed IsAt total octets task)
      (answer before : Answer) → Contains tasks one
      → Contains tasks task
      → own.frame ≡ hand.frame → one.index < task.index → WasOpened one own.frame before → TellsEntry task answer
      → answer.code ≡ codes_of.NUMBER
  replayed_by one task own hand answer before is_one among same low was is =
      let place = answer.position - 1 in
      let inside = slice_get_within entries place _ is.there in
      let t = took place (omega arith) in
      let lanes_are : one.lane ≡ task.lane = lane_is one own ∙ (ap (λ (i : ℕ). i % 4) same ∙ sym (lane_is task hand)) in
      let behind = in_order was.place place was.entry _ one task is_one among lanes_are was.there is.there was.index
      refl low in
      let accepts : Accepts was.place (hand.frame % 4) (numbers hand.frame) = (
        was.entry,
        was.there,
        was.spi,
        was.floor,
        was.change
            ∙ ap (λ (i : ℕ). changes.Accepted was.spi (key_on (i % 4)) (numbers i) was.floor) same,
      ) in
      let high = t.above was.place (hand.frame % 4) (numbers hand.frame) behind (omega arith) accepts in
      elim (replies_to place t.taken task hand is.reply is.field is.replies) [
        | takes from to reply field fresh ↦ let up =
            fresh_above (t.taken.windows (hand.frame % 4)) (t.taken.highs (hand.frame % 4)) (numbers hand.frame)
            (end_of (key_on (hand.frame % 4))) (t.taken.each_is (hand.frame % 4)) fresh in absurd (omega arith)
        | refuses top width reply stale ↦ ap (λ (x : Told). x.code)
            (is.tells ∙ ap (λ (r : OpenReply). opened_told r is.field) reply)
      ]

  -- an answer that says no fault, and not that memory ran out, tells the record's entry
  pub entry_told : (task : Record) (hand : Handed IsAt total octets task) (answer : Answer)
      → Fits near course task answer → answer.code ≢ codes_of.SITE_FAULT
      → answer.code ≢ codes_of.STOPPED → answer.code ≢ codes_of.NO_MEMORY → TellsEntry task answer
  entry_told task hand answer fits no_fault not_stopped not_wanting =
      let kind : task.kind ≡ Open = ap (λ (t : Record). t.kind) hand.is in
      let is : FitsKind near course task answer Open = subst (FitsKind near course task answer) kind fits in
      elim is [
        | inl is ↦ tells_entry task answer is
        | inr (inl is) ↦ absurd (no_fault (ap (λ (t : Told). t.code) is.tells.told))
        | inr (inr (inl is)) ↦ absurd (not_stopped (ap (λ (t : Told). t.code) is.tells.told))
        | inr (inr (inr is)) ↦ absurd (not_wanting (ap (λ (t : Told). t.code) is.told))
      ]

  pub fits : All (λ (deed : Deed). Fits near course deed.task deed.answer) deeds
  fits = answers_fit begin first now tasks deeds done.opened done.handled.does done.whole done.rows done.rules kept

  pub few_made : length entries ≤ 400000
  few_made =
      let h = few_entries begin first now tasks deeds done.handled.does done.whole none_made
      (length tasks + drawers tasks) done.handled.lined.few_entries in
      let d = drawers_few tasks in omega arith
