-- The answer to a message that was handled, or refused.
use Rattle.std.proofs.Common.{◌≡◌, ◌≢◌, ◌⊎◌, ℕ, ◌+◌, ◌<◌, ◌≤◌, Bool, IsTrue, IsSome, IsSomeAnd, List, [], ◌∷◌, length}
use Rattle.std.proofs.Common.{Option, Some, None, Result, Ok, Err, refl, sym, ◌∙◌, ap, subst, arith, inl, inr, ⊎_elim}
use Rattle.std.proofs.Common.{false, eqb, eq-eqb, true, ◌-◌}
use Rattle.std.specs.Option.{option_map_or}
use Rattle.sdls_base.specs.KeyId.{end_of}
use Rattle.sdls_base.specs.Numbers.{tally}
use Rattle.sdls_base.specs.declared.entry.Change.{Change}
use Rattle.sdls_base.specs.declared.entry.Entry.{Entry}
use Rattle.sdls_base.specs.declared.entry.Seen.{Seen}
use Rattle.sdls_base.specs.declared.entry.Seen.TheVariants as sights
use Rattle.ep_core.specs.declared.judging.Need.{Need}
use Rattle.ep_core.specs.declared.judging.Need.TheVariants as needs
use Rattle.ep_core.specs.declared.refusal.Reply.{Reply}
use Rattle.ep_core.specs.declared.refusal.Reply.TheVariants as replies
use Rattle.ep_core.specs.Seen.{MeetsNeed}
use Rattle.key_book.specs.declared.key_row.KeyRow.{KeyRow}
use Rattle.key_book.specs.KeyBook.{place_of}
use Rattle.record_io.specs.declared.reader.RecordKind.{RecordKind}
use Rattle.record_io.specs.declared.reader.RecordKind.TheVariants.{Protect, Command, Monitor}
use Rattle.record_io.specs.declared.item_cursor.Record.{Record}
use Rattle.record_io.specs.declared.code.TheConstants.{SITE_FAULT}
use Rattle.unit_state.specs.declared.state.State.{State}
use Rattle.unit_state.specs.State.{key_row}
use Rattle.unit_state.specs.History.{after_all}
use Rattle.unit_state.specs.Restart.{still}
use Rattle.counter_table.specs.declared.view.View.{View}
use Rattle.run_promise.specs.Answers.{replied_told, Uses}
use Rattle.run_promise.specs.History.{drawers, record_entry, IsNeedOf, IsStepOf, needed_key, KeyOf, SeesFor, SeenNear}
use Rattle.run_promise.specs.History.{IsLegal}
use Rattle.run_promise.specs.Fits.{CanAppend, CanChange, CanDraw, MayAppend, state_after}
use Rattle.run_promise.specs.Log.{entries_of, IsStored}
use Rattle.run_promise.specs.Numbers.{reserve_of}
use Rattle.law_history.proofs.StoredEntries.{stored_changes}
use Rattle.law_history.proofs.Used.{used_needed}
use Rattle.unit_book.specs.declared.fault.BookFault.{BookFault}
use Rattle.unit_book.specs.Book.{BookView, CanEnter}
use Rattle.unit_book.specs.Records.{Handles, RefusesMessage}
use Rattle.run_promise.proofs.Needs.{need_one}
use Rattle.unit_book.proofs.EpochStates.{alike_served}
use Rattle.shared_unit.specs.Calls.{WithPosition}
use Rattle.shared_unit.specs.Commanding.{RaisesWord, FailsFor, Satisfies, IsCommanded}
use Rattle.shared_unit.specs.Told.{known_of_book, entry_count}
use Rattle.shared_unit.specs.Turn.{Visits}
use Rattle.shared_unit.proofs.Places.{place_there}
use Rattle.shared_unit.proofs.Reserved.{reserves_place}
use Rattle.run_promise.specs.Call.{Begin}
use Rattle.law_workers.specs.Views.{IsBetween, IsRow, entries_in}
use Rattle.law_workers.specs.Work.{IsAsked}
use Rattle.law_workers.specs.Deeds.{course_in}
use Rattle.law_workers.specs.Order.{Layout}
use Rattle.law_workers.specs.Began.{BeganWith}
use Rattle.law_calls.specs.Answering.{Answered, answer_of, fault_answer, commanded_answer}
use Rattle.law_calls.proofs.Counting.{Shows, counted_none, raise_shows, draws_shows, uses_shows, out_shows}
use Rattle.law_calls.proofs.Fitted.{commanded_fits}
use Rattle.law_calls.proofs.Visit.{row_below, row_known, led_known, found_within}
use Rattle.law_calls.proofs.OneRecord.{answered_so}
use Rattle.law_calls.proofs.Stages.{Call, Stage, Added, stage_found, barred, unstored, made, wanting, low_made}
use Rattle.law_calls.proofs.Reserves.{reserved, refused}

not_protect : (kind : RecordKind) → kind ≡ Command → kind ≢ Protect
not_protect kind is other = let both : Command ≡ Protect = sym is ∙ other in cc

not_monitor : (kind : RecordKind) → kind ≡ Command → kind ≢ Monitor
not_monitor kind is other = let both : Command ≡ Monitor = sym is ∙ other in cc

pub one_drawer : (task : Record) → task.kind ≡ Command → drawers (task ∷ []) ≡ 1
one_drawer task is = ap (λ (k : RecordKind). drawers (record task { kind = k } ∷ [])) is

-- a number below the mark of a key that is there
above_held : (o : Option KeyRow) (n : ℕ) → IsSome o → n < option_map_or (λ (held : KeyRow). held.mark) o 1
    → IsSomeAnd o (λ held. n < held.mark)
above_held (Some held) n there h = h
above_held None n there h = absurd (let no = there in cc)

same_key : (one other : ℕ) → Some one ≡ Some other → one ≡ other
same_key one other is = cc

module _ (told : Bool) (c : Call told) (commands : c.task.kind ≡ Command) where
  abbrev near : ℕ → ℕ → Type 0
  near = IsBetween c.begin c.old_view c.new_view

  may_draw : drawers (c.task ∷ []) ≡ 1
  may_draw = one_drawer c.task commands

  -- a word or number of a row that was found is near
  abbrev between : (key n row : ℕ) (drawn spent raised added : List (ℕ × ℕ))
      → place_of c.found.state.keys key ≡ Some row
      → Shows c.begin c.task c.old_view c.new_view row n drawn spent raised added
      → IsBetween c.begin c.old_view c.new_view key n
  between key n row drawn spent raised added place shows = record {
    row = row;
    row_is = row_known told c.begin c.found c.given c.taken c.new_view.turn c.began c.free c.visits key row place;
    least = shows.least;
    most = shows.most;
  }

  abbrev added_by : (row n : ℕ) (drawn spent raised added : List (ℕ × ℕ))
      → Shows c.begin c.task c.old_view c.new_view row n drawn spent raised added
      → Added told c
  added_by row n drawn spent raised added shows =
      record { drawn = drawn; spent = spent; raised = raised; added = added; counted = shows.counted }

  -- What the words showed for a need: the stage of the call behind it.
  pub record Satisfied (need : Need) (seen : Seen) (middle : BookView) : Type 0 where
    pub es : List Entry
    pub es_are : (es ≡ [])
        ⊎ ((key : ℕ) × (n : ℕ) × (seen ≡ sights.Number n) × (es ≡ reserve_of c.found.plan c.found.state key n ∷ []))
    pub stage : Stage told c middle es
    pub numbers : Added told c
    pub still_is : still middle.state ≡ still c.found.state
    pub fits : MeetsNeed middle.state need seen
    pub is_near : (key : ℕ) → needed_key need ≡ Some key → SeenNear (IsBetween c.begin c.old_view c.new_view) key seen
    pub spent : (key number : ℕ) → need ≡ needs.Number key → seen ≡ sights.Number number
        → (row : ℕ) × (row < c.begin.rows) × IsRow c.begin c.new_view key row × (0 < tally row number numbers.spent)

  satisfied_found : (need : Need) (seen : Seen) (middle : BookView) (numbers : Added told c) → middle ≡ c.found
      → MeetsNeed middle.state need seen
      → ((key : ℕ) → needed_key need ≡ Some key → SeenNear (IsBetween c.begin c.old_view c.new_view) key seen)
      → ((key number : ℕ) → need ≡ needs.Number key → seen ≡ sights.Number number → ⊥) → Satisfied need seen middle
  satisfied_found need seen middle numbers same fits near_is none = record {
    es = [];
    es_are = inl refl;
    stage = subst (λ (b : BookView). Stage told c b []) (sym same) (stage_found told c);
    numbers = numbers;
    still_is = ap (λ (b : BookView). still b.state) same;
    fits = fits;
    is_near = near_is;
    spent = λ key number is sees. absurd (none key number is sees);
  }

  raised_word : (key number n : ℕ) (middle : BookView) → (number ≤ 1)
      ⊎ IsNeedOf c.found.state c.task.octets (needs.Raise key number)
      → (r : RaisesWord key number n c.found c.old_view.numbers c.new_view.numbers)
      → Shows c.begin c.task c.old_view c.new_view r.row n [] [] ((r.row, number) ∷ []) ((r.row, number - n) ∷ [])
  raised_word key number n middle asked r =
      raise_shows c.begin c.task c.old_view c.new_view r.row number n r.later r.is (by_ask asked) where
        by_ask : (number ≤ 1) ⊎ IsNeedOf c.found.state c.task.octets (needs.Raise key number)
            → (number ≤ 1) ⊎ IsAsked c.begin (entries_in c.new_view) (c.task ∷ []) r.row number
        by_ask (inl low) = inl low
        by_ask (inr need) =
            let led = led_known told c.begin c.found c.given c.taken c.new_view.turn c.began c.free c.visits in
            inr (record {
              p = c.found.standing;
              within = found_within told c.begin c.found c.given c.taken c.new_view.turn c.began c.free c.visits;
              key = key;
              row_is = ap (λ (s : State). place_of s.keys key) (sym led) ∙ r.place;
              task = c.task;
              there = (0, omega arith, refl);
              is_command = commands;
              asks = subst (λ (s : State). IsNeedOf s c.task.octets (needs.Raise key number)) led need;
            })

  pub satisfied : (need : Need) (seen : Seen) (middle : BookView) → IsNeedOf c.found.state c.task.octets need
      → Satisfies need seen c.found middle c.old_view.numbers c.new_view.numbers → Satisfied need seen middle
  satisfied needs.Nothing sights.Nothing middle need (same, still_there) =
      satisfied_found needs.Nothing sights.Nothing middle
      (record {
        drawn = [];
        spent = [];
        raised = [];
        added = [];
        counted =
            counted_none c.begin c.task c.old_view c.new_view still_there;
      }) same
      refl (λ key is. tt) (λ key number is sees. let no = is in cc)
  satisfied (needs.Look key) (sights.Word n) middle need (same, r) =
      let shows = raised_word key 1 n middle (inl (omega arith)) r in
      satisfied_found (needs.Look key) (sights.Word n) middle
      (added_by r.row n [] [] ((r.row, 1) ∷ []) ((r.row, 1 - n) ∷ []) shows) same r.positive
      (λ other is. subst (λ (k : ℕ). IsBetween c.begin c.old_view c.new_view k n) (same_key key other is)
      (between key n r.row [] [] ((r.row, 1) ∷ []) ((r.row, 1 - n) ∷ []) r.place shows))
      (λ other number is sees. let no = is in cc)
  satisfied (needs.Raise key number) (sights.Word n) middle need (same, r) =
      let shows = raised_word key number n middle (inr need) r in
      satisfied_found (needs.Raise key number) (sights.Word n) middle
      (added_by r.row n [] [] ((r.row, number) ∷ []) ((r.row, number - n) ∷ []) shows) same r.positive
      (λ other is. subst (λ (k : ℕ). IsBetween c.begin c.old_view c.new_view k n) (same_key key other is)
      (between key n r.row [] [] ((r.row, number) ∷ []) ((r.row, number - n) ∷ []) r.place shows))
      (λ other drawn is sees. let no = is in cc)
  satisfied (needs.Number key) (sights.Number n) middle need d =
      let shows = uses_shows c.begin c.task c.old_view c.new_view may_draw d.row n 0 d.uses in
      let is_near = between key n d.row ((d.row, n) ∷ []) ((d.row, n) ∷ []) [] ((d.row, 1) ∷ []) d.place shows in
      let behind = reserved told c may_draw key n d.row d.place d.below is_near d.mark middle d.reserved in
      record {
        es = behind.es;
        es_are = ⊎_elim inl (λ is. inr (key, n, refl, is)) behind.es_are;
        stage = behind.stage;
        numbers = added_by d.row n ((d.row, n) ∷ []) ((d.row, n) ∷ []) [] ((d.row, 1) ∷ []) shows;
        still_is = behind.still_is;
        fits = above_held (key_row middle.state key) n
            (place_there middle.state.keys key d.row
            (reserves_place key n d.mark d.row c.found middle d.reserved d.place))
            (let above = d.reserved.0 in let mark = d.reserved.1 in omega arith);
        is_near = λ other is. subst (λ (k : ℕ). IsBetween c.begin c.old_view c.new_view k n) (same_key key other is)
            is_near;
        spent = λ other number is sees.
            let key_is : key ≡ other = same_number key other is in
            let number_is : n ≡ number = same_sight n number sees in (
              d.row,
              row_below told c.begin c.found c.given c.taken c.new_view.turn c.began c.free c.visits key d.row d.place,
              subst (λ (k : ℕ). IsRow c.begin c.new_view k d.row) key_is is_near.row_is,
              subst (λ (x : ℕ). 0 < tally d.row x ((d.row, n) ∷ [])) number_is (once d.row n),
            );
      } where
        same_number : (one other : ℕ) → needs.Number one ≡ needs.Number other → one ≡ other
        same_number one other is = cc

        same_sight : (one other : ℕ) → sights.Number one ≡ sights.Number other → one ≡ other
        same_sight one other is = cc

        once : (row x : ℕ) → 0 < tally row x ((row, x) ∷ [])
        once row x = let t : eqb row row ≡ true = eq-eqb row row refl in let u : eqb x x ≡ true = eq-eqb x x refl in
            rw (t, u) (omega arith)
  satisfied (needs.Number key) (sights.Exhausted n) middle need (same, f) =
      let out = out_shows c.begin c.task c.old_view c.new_view may_draw f.row (end_of key) n f.out in
      satisfied_found (needs.Number key) (sights.Exhausted n) middle
      (added_by f.row n out.drawn [] [] out.added out.shows) same f.out.0
      (λ other is. subst (λ (k : ℕ). IsBetween c.begin c.old_view c.new_view k n) (same_key key other is)
      (between key n f.row out.drawn [] [] out.added f.place out.shows)) (λ other number is sees. let no = sees in cc)
  satisfied need seen middle needed s = absurd s

  -- the message in the state of the stage
  module _ (need : Need) (seen : Seen) (middle : BookView) (needed : IsNeedOf c.found.state c.task.octets need)
      (s : Satisfied need seen middle) where
    pub same_need : (other : Need) → IsNeedOf middle.state c.task.octets other → need ≡ other
    same_need other there =
        let served = alike_served c.found.plan middle.state c.found.state s.still_is in
        need_one c.found.state c.task.octets need other needed ((served.needs c.task.octets other).0 there)

    sees : SeesFor middle.state c.task.octets seen
    sees other there = subst (λ (n : Need). MeetsNeed middle.state n seen) (same_need other there) s.fits

    pub near_seen : (key : ℕ) → KeyOf middle.state c.task.octets key
        → SeenNear (IsBetween c.begin c.old_view c.new_view) key seen
    near_seen key (other, there, is) = s.is_near key (ap needed_key (same_need other there) ∙ is)

    legal : CanEnter middle → (change : Change) (reply : Reply)
        → IsStepOf middle.state c.task.octets seen (change, reply)
        → IsLegal (IsBetween c.begin c.old_view c.new_view) c.begin.plan
        (after_all c.begin.start (entries_of middle.log))
        (c.task ∷ [])
        (record_entry c.task.index seen change)
    legal can change reply step =
        subst (λ (st : State). IsLegal (IsBetween c.begin c.old_view c.new_view) c.begin.plan st (c.task ∷ [])
        (record_entry c.task.index seen change)) (s.stage.state can.0) (inr (inl (record {
          task = c.task;
          there = (0, omega arith, refl);
          kind_is = commands;
          index_is = refl;
          reply = reply;
          sees = sees;
          step = step;
          is_near = near_seen;
        })))

    may_change : (change : Change) (reply : Reply) → IsStepOf middle.state c.task.octets seen (change, reply) → (p : ℕ)
        → state_after (course_in c.begin c.new_view) p ≡ middle.state
        → IsTrue (IsStored middle.state (record_entry c.task.index seen change))
        → MayAppend (IsBetween c.begin c.old_view c.new_view) (course_in c.begin c.new_view) p c.task
    may_change change reply step p same stored =
        let can_change : CanChange (IsBetween c.begin c.old_view c.new_view) (course_in c.begin c.new_view) p c.task =
        record {
          seen = seen;
          change = change;
          reply = reply;
          sees = subst (λ (st : State). SeesFor st c.task.octets seen) (sym same) sees;
          is_near = λ key of. near_seen key (subst (λ (st : State). KeyOf st c.task.octets key) same of);
          step = subst (λ (st : State). IsStepOf st c.task.octets seen (change, reply)) (sym same) step;
          changes = stored_changes middle.state (record_entry c.task.index seen change) stored;
        } in
        subst (λ (k : RecordKind). CanAppend (IsBetween c.begin c.old_view c.new_view) (course_in c.begin c.new_view) p
        c.task k) (sym commands) (inl can_change)

    -- a number that the reply uses was spent
    used_here : (change : Change) (reply : Reply) (position : ℕ)
        → IsStepOf middle.state c.task.octets seen (change, reply) → (key number : ℕ)
        → Uses (answer_of (replied_told reply) position) key number
        → (row : ℕ) × (row < c.begin.rows) × IsRow c.begin c.new_view key row × (0 < tally row number s.numbers.spent)
    used_here change (replies.Done None n pdu) position step key number (inl is, of_key, of_number) =
        absurd (omega arith)
    used_here change (replies.Done None n pdu) position step key number (inr (is, some), of_key, of_number) =
        absurd (some refl)
    used_here change (replies.Done (Some own) n pdu) position step key number (inl is, of_key, of_number) =
        absurd (omega arith)
    used_here change (replies.Done (Some own) n pdu) position step key number (inr (is, some), key_is, number_is) =
        let needed_own = used_needed middle.state c.task.octets seen (change, replies.Done (Some own) n pdu) own n sees
        step (record { pdu = pdu; is = refl }) in
        s.spent key number (same_need (needs.Number own) needed_own.0 ∙ ap (λ (k : ℕ). needs.Number k) key_is)
        (needed_own.1 ∙ ap (λ (x : ℕ). sights.Number x) number_is)
    used_here change (replies.Refused code value) position step key number (inl is, of_key, of_number) =
        absurd (omega arith)
    used_here change (replies.Refused code value) position step key number (inr (is, some), of_key, of_number) =
        absurd (omega arith)

    plain : (reply : Reply) → (replied_told reply).code ≢ SITE_FAULT
    plain (replies.Done key n pdu) is = absurd (omega arith)
    plain (replies.Refused code value) is = absurd (omega arith)

    low : (reply : Reply) → (replied_told reply).code < SITE_FAULT
    low (replies.Done key n pdu) = omega arith
    low (replies.Refused code value) = omega arith

    own_few : 0 + length s.es ≤ drawers (c.task ∷ [])
    own_few = let f = s.stage.few in omega arith

    handled : (reply : Reply) (position : ℕ) → Handles c.task.index c.task.octets seen middle c.given reply position
        → Answered c.layout c.begin c.segment c.old_view c.new_view c.task
        (Some (answer_of (replied_told reply) position))
    handled reply position h =
        let below = low reply in
        answered_so c.begin c.layout c.segment c.old_view c.new_view c.task (answer_of (replied_told reply) position)
        (λ code. absurd (omega arith))
        (made told c middle s.es s.stage (record_entry c.task.index seen h.change) s.numbers h.made.0
        (legal h.made.0 h.change reply h.step) (λ index. omega arith) own_few (replied_told reply) position h.made.1
        (not_protect c.task.kind commands) (not_monitor c.task.kind commands)
        (λ known at. commanded_fits (IsBetween c.begin c.old_view c.new_view) (course_in c.begin c.new_view) c.task
        (entries_of middle.log) middle.state
        (record_entry c.task.index seen h.change) position known (s.stage.state h.made.0.0) at commands seen h.change
        reply h.step refl)
        (λ key number uses. used_here h.change reply position h.step key number uses) (plain reply)
        (low_made (replied_told reply).code below))

    refuses : (fault : BookFault) (position : ℕ) → position ≡ entry_count (known_of_book c.given)
        → RefusesMessage c.task.index c.task.octets seen middle c.given fault
        → Answered c.layout c.begin c.segment c.old_view c.new_view c.task (fault_answer fault position)
    refuses fault position at (inl (is_barred, same)) =
        barred told c middle s.es s.stage s.numbers same (not_monitor c.task.kind commands) fault position at is_barred
        (inl (not_protect c.task.kind commands))
    refuses fault position at (inr (inl (none, same))) =
        subst (λ (f : BookFault). Answered c.layout c.begin c.segment c.old_view c.new_view c.task
        (fault_answer f position)) (sym none)
        (wanting told c middle s.es s.stage s.numbers same commands)
    refuses fault position at (inr (inr (can, ((change, reply), step, fails)))) =
        unstored told c middle s.es s.stage (record_entry c.task.index seen change) s.numbers can
        (legal can change reply step) (λ index. omega arith) own_few (not_monitor c.task.kind commands) fault position
        at fails
        (λ same stored. may_change change reply step (length (entries_of middle.log)) same stored)

  -- the reserve of a number that the message needs was refused
  fails : (need : Need) (fault : BookFault) (position : ℕ) → position ≡ entry_count (known_of_book c.given)
      → IsNeedOf c.found.state c.task.octets need
      → FailsFor need fault c.found c.given c.old_view.numbers c.new_view.numbers
      → Answered c.layout c.begin c.segment c.old_view c.new_view c.task (fault_answer fault position)
  fails need fault position at needed f =
      let shows = draws_shows c.begin c.task c.old_view c.new_view may_draw f.row (end_of f.key) f.n f.draws in
      let is_near = between f.key f.n f.row ((f.row, f.n) ∷ []) [] [] ((f.row, 1) ∷ []) f.place shows in
      refused told c may_draw f.key f.n f.row f.place f.below is_near (not_monitor c.task.kind commands)
      (added_by f.row f.n ((f.row, f.n) ∷ []) [] [] ((f.row, 1) ∷ []) shows) fault position at f.reserved
      (λ p low same unmarked.
      let can_draw : CanDraw (IsBetween c.begin c.old_view c.new_view) (course_in c.begin c.new_view) p c.task =
      record {
        key = f.key;
        number = f.n;
        needs = subst (λ (st : State). IsNeedOf st c.task.octets (needs.Number f.key)) (sym same)
            (subst (λ (n : Need). IsNeedOf c.found.state c.task.octets n) f.is needed);
        is = unmarked;
      } in
      subst (λ (k : RecordKind). CanAppend (IsBetween c.begin c.old_view c.new_view) (course_in c.begin c.new_view) p
      c.task k) (sym commands) (inr can_draw))

  pub commanded : (result : Result (Reply × ℕ) (BookFault × ℕ)) → WithPosition result (known_of_book c.given)
      (λ answer. IsCommanded c.task.index c.task.octets answer c.found c.given c.old_view.numbers c.new_view.numbers)
      → Answered c.layout c.begin c.segment c.old_view c.new_view c.task (commanded_answer result)
  commanded (Ok (reply, position)) (need, seen, middle, needed, shows, handles) =
      handled need seen middle needed (satisfied need seen middle needed shows) reply position handles
  commanded (Err (fault, position)) (inl (none, same, numbers), at) =
      subst (λ (f : BookFault). Answered c.layout c.begin c.segment c.old_view c.new_view c.task
      (fault_answer f position)) (sym none)
      (wanting told c c.found [] (stage_found told c)
      (record {
        drawn = [];
        spent = [];
        raised = [];
        added = [];
        counted =
            counted_none c.begin c.task c.old_view c.new_view numbers;
      }) same commands)
  commanded (Err (fault, position)) (inr (need, needed, inl f), at) = fails need fault position at needed f
  commanded (Err (fault, position)) (inr (need, needed, inr (seen, middle, shows, r)), at) =
      refuses need seen middle needed (satisfied need seen middle needed shows) fault position at r

-- the call that took the turn at once
abbrev pub call_of : (told : Bool) (begin : Begin) (layout : Layout) (segment : ℕ)
    (task : Record) (v w : View) (found given : BookView) → BeganWith told begin v.turn.known.opening
    → v.turn.holds ≡ false
    → Visits told found given v.turn w.turn → Call told
call_of told begin layout segment task v w found given began free visits = record {
  begin = begin;
  layout = layout;
  segment = segment;
  task = task;
  old_view = v;
  new_view = w;
  taken = v.turn;
  found = found;
  given = given;
  began = began;
  free = free;
  visits = visits;
  known = refl;
  seen = omega arith;
  pass = λ log es t. t;
}

pub commanding_answers : (told : Bool) (begin : Begin) (layout : Layout) (segment : ℕ)
    (task : Record) (v w : View) (found given : BookView) → BeganWith told begin v.turn.known.opening
    → v.turn.holds ≡ false
    → task.kind ≡ Command → Visits told found given v.turn w.turn → (result : Result (Reply × ℕ) (BookFault × ℕ))
    → WithPosition result (known_of_book given)
    (λ answer. IsCommanded task.index task.octets answer found given v.numbers w.numbers)
    → Answered layout begin segment v w task (commanded_answer result)
commanding_answers told begin layout segment task v w found given began free commands visits result handled =
    commanded told (call_of told begin layout segment task v w found given began free visits) commands result handled
