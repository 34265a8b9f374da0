-- A frame that is protected draws the number that its answer tells.
use Rattle.std.proofs.Common.{◌≡◌, ◌≢◌, ◌⊎◌, ℕ, ◌<◌, ◌≤◌, Bool, IsTrue, false, List, [], ◌∷◌, ◌++◌, take, drop}
use Rattle.std.proofs.Common.{append_assoc, Option, Some, Err, refl, sym, ◌∙◌, ap, subst, arith, inl, inr, append-nil}
use Rattle.std.proofs.Common.{length, Ok, Result, true, eqb, eq-eqb, ◌+◌, None}
use Rattle.std.proofs.lemmas.List.{take-append-drop}
use Rattle.sdls_base.specs.Numbers.{tally}
use Rattle.sdls_base.specs.KeyId.{end_of}
use Rattle.sdls_base.specs.declared.entry.Entry.{Entry}
use Rattle.sdls_base.specs.declared.entry.Logged.{Logged}
use Rattle.sdls_outside.specs.Faults.{Rose}
use Rattle.key_book.specs.KeyBook.{place_of}
use Rattle.record_io.specs.declared.answers.Answer.{Answer}
use Rattle.record_io.specs.declared.code.TheConstants.{PROTECTED, CLEAR, EXHAUSTED, LAYOUT, STATE}
use Rattle.record_io.specs.declared.reader.RecordKind.{RecordKind}
use Rattle.record_io.specs.declared.reader.RecordKind.TheVariants.{Protect}
use Rattle.record_io.specs.declared.item_cursor.Record.{Record}
use Rattle.unit_plan.specs.PlanLines.{PlanLines}
use Rattle.unit_state.specs.declared.state.State.{State}
use Rattle.unit_state.specs.History.{after_all, at_epoch, epoch_after}
use Rattle.unit_state.proofs.Histories.{at_epoch_more, epochs_more}
use Rattle.frame_shield.specs.declared.protecting_frames.ShieldFault.{ShieldFault}
use Rattle.frame_shield.specs.declared.protecting_frames.ShieldFault.TheVariants as shield_faults
use Rattle.counter_table.specs.declared.view.Numbers.{Numbers}
use Rattle.counter_table.specs.declared.view.Opening.{Opening}
use Rattle.counter_table.specs.declared.view.Turn.{Turn}
use Rattle.counter_table.specs.declared.view.View.{View}
use Rattle.counter_table.specs.Known.{Earlier}
use Rattle.counter_table.specs.Numbers.{top, arming}
use Rattle.counter_table.specs.Turn.{epoch_seen, loading, places}
use Rattle.frame_shield.specs.Binding.{clear_fault}
use Rattle.frame_checks.specs.ProtectingFrames.{channel_check}
use Rattle.run_promise.specs.History.{draws}
use Rattle.run_promise.specs.Answers.{Told, plain, numbered, fault_told, unbound_told}
use Rattle.run_promise.specs.Log.{entries_of}
use Rattle.run_promise.specs.Numbers.{mark_of, reserve_of}
use Rattle.run_promise.specs.Fits.{protect_reply}
use Rattle.unit_book.specs.declared.fault.BookFault.{BookFault}
use Rattle.unit_book.specs.declared.fault.BookFault.TheVariants as refusals
use Rattle.unit_book.specs.Book.{BookView, IsBarred, IsUnstored, Made}
use Rattle.shared_unit.specs.declared.permit.Permit.{Permit}
use Rattle.shared_unit.specs.declared.permit.Done.{Done}
use Rattle.shared_unit.specs.declared.permit.Protected.{Protected}
use Rattle.shared_unit.specs.declared.permit.Protected.TheVariants as protecteds
use Rattle.shared_unit.specs.Funding.{Reserves}
use Rattle.shared_unit.specs.Numbers.{Draws, ComesBack}
use Rattle.shared_unit.specs.Protecting.{CoversIfTaken, Funds, IsDrawnAndProtected, IsProtectStep, IsRefusedAt, IsUsed}
use Rattle.shared_unit.specs.Protecting.{Looks, MayTakeTurn, Rests, RunsOutUnder, TakesTurn}
use Rattle.shared_unit.specs.Told.{known_of_book}
use Rattle.shared_unit.proofs.Passing.{none_looks}
use Rattle.shared_unit.proofs.Steps.{earlier_again}
use Rattle.run_promise.specs.Call.{Begin}
use Rattle.law_workers.specs.Views.{entries_in, log_of}
use Rattle.run_promise.specs.Deed.{deed_of, tells_count}
use Rattle.law_workers.specs.Order.{Layout}
use Rattle.run_promise.specs.Words.{Move, Kept, Found, Drew, Overdrew, TellsProtect, TellsKind, Tells}
use Rattle.run_promise.specs.OneLane as machine
use Rattle.law_workers.specs.InTurn.{IsClean, IsLevel, AllStand, stood_in, IsBacked}
use Rattle.law_workers.proofs.Turns.{all_stood, stood_on}
use Rattle.law_workers.specs.Began.{BeganWith}
use Rattle.law_calls.specs.Answering.{answer_of, fault_answer, protected_answer, AnsweredExactly}
use Rattle.law_calls.proofs.Behind.{lines_of}
use Rattle.law_calls.proofs.Counting.{Shows, found_shows, draws_shows, back_shows, uses_shows}
use Rattle.law_calls.proofs.Exactness.{AreDrawn, refused_exactly, told_exactly}
use Rattle.law_calls.proofs.InTurn.{CoversSpent, Passes, Stands, clean_found, covers, entries_are, given_as}
use Rattle.law_calls.proofs.InTurn.{given_entered, looks_pass, plain_uncounted, same_stands, stands_found, stays_with}
use Rattle.law_calls.proofs.InTurn.{stood_clean, takes_pass}
use Rattle.law_calls.proofs.Moving.{Moves, moves_none, moves_found, moves_drew, moves_over}
use Rattle.law_calls.proofs.OneRecord.{Turned}
use Rattle.law_calls.proofs.Permitted.{clear_reply, planned_reply, row_last}
use Rattle.law_calls.proofs.Visit.{plan_is, turned}
use Rattle.law_calls.proofs.CommandsExactly.{reserve_drawn}
use Rattle.law_calls.proofs.Protectings.{one_drawer, bound, call_of, looked, opening_same, opening_taken, place_then}
use Rattle.law_calls.proofs.Protectings.{row_is, row_below}

module _ (told : Bool) (begin : Begin) (layout : Layout) (segment : ℕ) (task : Record)
    (v w : View) (began : BeganWith told begin v.turn.known.opening) (free : v.turn.holds ≡ false)
    (protects : task.kind ≡ Protect)
    (covers_spent : (done : BookView → BookView → Type 0) → TakesTurn told done v.turn w.turn → CoversSpent begin v w)
  where
    -- where no other worker made a line, the record is served so in the history that stood
    abbrev IsServedHere : Answer → List Entry → List (ℕ × ℕ) → Move → Type 0
    IsServedHere answer es spent move = IsLevel v → IsBacked begin w spent → stood_in w ≡ stood_in v ++ es
        → machine.AloneServes begin (stood_in v) task answer es move

    -- these entries of the call stand
    abbrev Stand : List Entry → Type 0
    Stand es = IsLevel v → stood_in w ≡ stood_in v ++ es

    -- the record made this move and no entry, whatever the answer that tells it
    abbrev Finishes : List (ℕ × ℕ) → Move → Type 0
    Finishes spent move = (answer : Answer) → Tells begin.start (entries_in w) (deed_of segment task answer) move
        → IsServedHere answer [] spent move
        → AnsweredExactly begin segment v w task (Some answer)

    by_protect : (answer : Answer) (move : Move)
        → TellsProtect begin.start (entries_in w) (deed_of segment task answer) move
        → Tells begin.start (entries_in w) (deed_of segment task answer) move
    by_protect answer move t =
        subst (λ (k : RecordKind). TellsKind begin.start (entries_in w) k (deed_of segment task answer) move)
        (sym protects) t

    not_kept : (move : Move) → draws task.kind ≡ false → move ≡ Kept
    not_kept move is = absurd (let both : true ≡ false = ap draws (sym protects) ∙ is in let b = both in cc)

    -- no answer to a frame tells a count
    uncounted : (answer : Answer) → IsTrue (tells_count (deed_of segment task answer)) → ⊥
    uncounted answer = plain_uncounted task.kind Protect _ protects refl

    -- where none was made, those stand that stood
    none_stand : (log : List Logged) → Turned log [] v.turn w.turn → log ≡ log_of v → Stand []
    none_stand log turn same level =
        stood_on v w turn.earlier turn.opening
        (entries_are begin v w log [] turn ∙ append-nil (entries_of log) ∙ ap entries_of same) level
        ∙ sym (append-nil (stood_in v))

    looks_finish : (move : Move) → Moves begin v w move → (spent : List (ℕ × ℕ))
        → w.numbers.spent ≡ v.numbers.spent ++ spent → Looks v.turn w.turn
        → Finishes spent move
    looks_finish move moves spent spent_is l answer tells serves =
        let turn : Turned v.turn.known.log [] v.turn w.turn =
        looked told begin layout segment task v w began free protects l in
        told_exactly begin segment task v w move moves v.turn.known.log [] turn tt spent
        (looks_pass begin v w spent turn spent_is) answer tells
        (λ same level backed.
        let stood = none_stand v.turn.known.log turn same level in (
          [],
          stood,
          serves level backed stood,
          inl (stays_with begin v w v.turn.known.log [] turn same stood),
          uncounted answer,
        ))

    by_lines : (done : BookView → BookView → Type 0) (t : TakesTurn told done v.turn w.turn) (es : List Entry)
        → t.given.log ≡ t.found.log ++ lines_of es → Turned t.found.log es v.turn w.turn
    by_lines done t es is =
        (call_of told begin layout segment task v w began free protects done t).pass t.found.log es
        (turned told begin t.found t.given (loading t.count t.epoch v.turn) w.turn began free t.visits es is)

    none_left : (found given : BookView) → given ≡ found → given.log ≡ found.log ++ lines_of []
    none_left found given same = ap (λ (b : BookView). b.log) same ∙ sym (append-nil found.log)

    passes : (done : BookView → BookView → Type 0) (t : TakesTurn told done v.turn w.turn) (es : List Entry)
        (is : t.given.log ≡ t.found.log ++ lines_of es) (spent : List (ℕ × ℕ))
        → w.numbers.spent ≡ v.numbers.spent ++ spent
        → Passes begin v w t.found.log es (by_lines done t es is) spent
    passes done t es is spent spent_is =
        takes_pass told begin t.found t.given (loading t.count t.epoch v.turn) v w began free t.visits es
        (by_lines done t es is) spent spent_is
        (covers_spent done t (places (length t.found.log) (length es)) (by_lines done t es is).made)

    -- the turn was taken, and these entries were made
    taken_finish : (done : BookView → BookView → Type 0) (t : TakesTurn told done v.turn w.turn) (es : List Entry)
        → t.given.log ≡ t.found.log ++ lines_of es → (move : Move) → Moves begin v w move → AreDrawn (move ∷ []) es
        → (spent : List (ℕ × ℕ)) → w.numbers.spent ≡ v.numbers.spent ++ spent
        → (answer : Answer) → Tells begin.start (entries_in w) (deed_of segment task answer) move
        → (t.found.log ≡ log_of v → Stand es) → (t.found.log ≡ log_of v → IsServedHere answer es spent move)
        → AnsweredExactly begin segment v w task (Some answer)
    taken_finish done t es is move moves drawn spent spent_is answer tells stand serves =
        told_exactly begin segment task v w move moves t.found.log es (by_lines done t es is) drawn spent
        (passes done t es is spent spent_is) answer tells
        (λ same level backed.
        let stood = stand same level in (
          es,
          stood,
          serves same level backed stood,
          inl (stays_with begin v w t.found.log es (by_lines done t es is) same stood),
          uncounted answer,
        ))

    -- the site had not failed when the book was found
    abbrev FoundClean : (done : BookView → BookView → Type 0) → TakesTurn told done v.turn w.turn → Type 0
    FoundClean done t = ¬ Rose t.found.opened.faults t.found.site.faults

    was_clean : (done : BookView → BookView → Type 0) (t : TakesTurn told done v.turn w.turn) → FoundClean done t
        → IsClean v
    was_clean done t clean = clean_found told begin t.found t.given (loading t.count t.epoch v.turn) v w began free
        t.visits refl
        clean

    stood_v : (done : BookView → BookView → Type 0) (t : TakesTurn told done v.turn w.turn) → FoundClean done t
        → t.found.log ≡ log_of v → IsLevel v → entries_of t.found.log ≡ stood_in v
    stood_v done t clean same level = ap entries_of same ∙ sym (all_stood v (level.all (was_clean done t clean)))

    rests_finish : (move : Move) → Moves begin v w move → (spent : List (ℕ × ℕ))
        → w.numbers.spent ≡ v.numbers.spent ++ spent
        → MayTakeTurn told Rests v.turn w.turn → Finishes spent move
    rests_finish move moves spent spent_is (inl l) = looks_finish move moves spent spent_is l
    rests_finish move moves spent spent_is (inr t) = λ answer tells serves.
        taken_finish Rests t [] (none_left t.found t.given t.does) move moves tt spent spent_is answer tells
        (none_stand t.found.log (by_lines Rests t [] (none_left t.found t.given t.does))) (λ same. serves)

    by_kind : (answer : Answer) (es : List Entry) (move : Move)
        → (machine.AloneUnbound begin (stood_in v) task answer es move
        ⊎ (machine.AloneProtected begin (stood_in v) task answer es move
        ⊎ machine.AloneExhausted begin (stood_in v) task answer es move))
        → machine.AloneServes begin (stood_in v) task answer es move
    by_kind answer es move h =
        inr (subst (λ (k : RecordKind). machine.ServesKind begin (stood_in v) k task answer es move) (sym protects) h)

    -- a code of a frame that is not bound
    kept_tells : (fields : Told) (position : ℕ) → (fields.code ≡ CLEAR)
        ⊎ ((LAYOUT ≤ fields.code) × (fields.code ≤ STATE))
        → Tells begin.start (entries_in w) (deed_of segment task (answer_of fields position)) Kept
    kept_tells fields position which = by_protect (answer_of fields position) Kept (record {
      protected = λ is. absurd (apart which PROTECTED is (inl refl));
      exhausted = λ is. absurd (apart which EXHAUSTED is (inr (omega arith)));
      unbound = λ _. refl;
      wanting = λ _. refl;
    }) where
      apart : (fields.code ≡ CLEAR) ⊎ ((LAYOUT ≤ fields.code) × (fields.code ≤ STATE)) → (code : ℕ) → fields.code ≡ code
          → (code ≡ 0) ⊎ (EXHAUSTED ≤ code) → ⊥
      apart (inl a) code is (inl z) = omega arith
      apart (inl a) code is (inr z) = omega arith
      apart (inr a) code is (inl z) = omega arith
      apart (inr a) code is (inr z) = omega arith

    fault_code : (fault : ShieldFault) → ((fault_told fault).code ≡ CLEAR)
        ⊎ ((LAYOUT ≤ (fault_told fault).code) × ((fault_told fault).code ≤ STATE))
    fault_code (shield_faults.Layout number) = inr (omega arith, omega arith)
    fault_code shield_faults.Channel = inr (omega arith, omega arith)
    fault_code shield_faults.State = inr (omega arith, omega arith)

    module _ (p : Permit) (used : IsUsed v.turn.known.opening.plan task.link task.octets p w.turn) where
      -- the permit's epoch is that of the history that stood, whose checks bind the frame as the permit does
      module _ (opening : w.turn.known.opening ≡ v.turn.known.opening) (es : List Entry) (quiet : epoch_after es ≡ 0)
          (level : IsLevel v)
          (within : epoch_seen w.turn ≤ epoch_after (stood_in w)) (later : epoch_seen v.turn ≤ p.epoch)
          (all : stood_in w ≡ stood_in v ++ es) where
        epoch_now : p.epoch ≡ epoch_after (stood_in v)
        epoch_now =
            let seen = used.trusted.seen in
            let low = level.epoch in
            let more : epoch_after (stood_in w) ≡ epoch_after (stood_in v) + epoch_after es =
            ap epoch_after all ∙ epochs_more (stood_in v) es in omega arith

        reached_now : p.epoch ≤ epoch_after (stood_in v)
        reached_now = let e = epoch_now in omega arith

        behind : entries_in w ≡ stood_in v ++ (es ++ drop w.turn.known.standing (entries_in w))
        behind = sym (take-append-drop w.turn.known.standing (entries_in w))
            ∙ ap (λ (l : List Entry). l ++ drop w.turn.known.standing (entries_in w)) all
            ∙ append_assoc (stood_in v) es (drop w.turn.known.standing (entries_in w))

        state_now : at_epoch begin.start (entries_in w) p.epoch ≡ at_epoch begin.start (stood_in v) p.epoch
        state_now = ap (λ (l : List Entry). at_epoch begin.start l p.epoch) behind
            ∙ at_epoch_more begin.start (stood_in v) (es ++ drop w.turn.known.standing (entries_in w)) p.epoch
            reached_now

        abbrev bound_now : clear_fault p.binding task.octets ≡ None → machine.AloneBound begin (stood_in v) task
        bound_now fits = record {
          binding = p.binding;
          bound = subst (λ (e : ℕ). protect_reply begin.plan (at_epoch begin.start (stood_in v) e) task.link task.octets
              ≡ Ok (Some p.binding)) epoch_now
              (subst (λ (st : State). protect_reply begin.plan st task.link task.octets ≡ Ok (Some p.binding)) state_now
              (bound told begin layout segment task v w began free protects p used opening fits));
          row = p.row;
          row_is = row_last begin.start (stood_in v) p.epoch p.binding.key p.row reached_now
              (subst (λ (st : State). place_of st.keys p.binding.key ≡ Some p.row) state_now
              (place_then told begin layout segment task v w began free protects p used opening));
        }

      stands : (done : BookView → BookView → Type 0) (t : TakesTurn told done v.turn w.turn) → FoundClean done t
          → Stands begin t.found
      stands done t clean = stands_found told begin t.found t.given (loading t.count t.epoch v.turn) v w began free
          t.visits
          clean

      -- the state that was found, and the reserve in it, where the log that was found is the one that was known
      state_here : (done : BookView → BookView → Type 0) (t : TakesTurn told done v.turn w.turn) → FoundClean done t
          → t.found.log ≡ log_of v
          → IsLevel v → t.found.state ≡ machine.now begin (stood_in v)
      state_here done t clean same level =
          stands done t clean ∙ ap (after_all begin.start) (stood_v done t clean same level)

      reserve_here : (done : BookView → BookView → Type 0) (t : TakesTurn told done v.turn w.turn) (n : ℕ)
          → FoundClean done t
          → t.found.log ≡ log_of v → IsLevel v
          → reserve_of t.found.plan t.found.state p.binding.key n
          ≡ reserve_of begin.plan (machine.now begin (stood_in v))
          p.binding.key n
      reserve_here done t n clean same level =
          ap (λ (q : PlanLines). reserve_of q t.found.state p.binding.key n)
          (plan_is told begin t.found t.given (loading t.count t.epoch v.turn) w.turn began free t.visits)
          ∙ ap (λ (st : State). reserve_of begin.plan st p.binding.key n) (state_here done t clean same level)

      done : (out : List ℕ) (d : Done) → IsDrawnAndProtected p task.octets out d v w
          → MayTakeTurn told (Funds p.binding.key d.number) v.turn w.turn
          → AnsweredExactly begin segment v w task
          (Some (answer_of (numbered PROTECTED d.key d.number (take d.length out)) d.epoch))
      done out d is turn =
          let opening = opening_same told begin layout segment task v w began free protects
          (Funds p.binding.key d.number)
          turn in
          by_turn turn (by_protect (answer_of (numbered PROTECTED d.key d.number (take d.length out)) d.epoch)
          (Drew p.row d.number) (record {
            protected = λ _. (
              p.row,
              subst (λ (k : ℕ). place_of (after_all begin.start (entries_in w)).keys k ≡ Some p.row)
                  (sym is.protected.key)
                  (row_is told begin layout segment task v w began free protects p used opening),
              refl,
            );
            exhausted = λ code. absurd (omega arith);
            unbound = λ code. absurd (not_kept code);
            wanting = λ code. absurd (omega arith);
          })) where
            not_kept : (PROTECTED ≡ CLEAR) ⊎ ((LAYOUT ≤ PROTECTED) × (PROTECTED ≤ STATE)) → ⊥
            not_kept (inl a) = omega arith
            not_kept (inr a) = omega arith

            moves : w.turn.known.opening ≡ v.turn.known.opening → Moves begin v w (Drew p.row d.number)
            moves opening =
                moves_drew begin v w task p.row
                (row_below told begin layout segment task v w began free protects p used opening)
                d.number ((p.row, d.number) ∷ [])
                (uses_shows begin task v w (one_drawer task protects) p.row d.number is.back is.uses)

            -- what the machine says of it, once the number is funded
            by_funds : (es : List Entry) → epoch_after es ≡ 0 → w.turn.known.opening ≡ v.turn.known.opening
                → (IsLevel v → IsBacked begin w ((p.row, d.number) ∷ []) → stood_in w ≡ stood_in v ++ es
                → machine.Funds begin (stood_in v) p.binding.key d.number es)
                → IsServedHere (answer_of (numbered PROTECTED d.key d.number (take d.length out)) d.epoch) es
                ((p.row, d.number) ∷ []) (Drew p.row d.number)
            by_funds es quiet opening funds level backed all =
                let later : epoch_seen v.turn ≤ p.epoch =
                (let l = is.later in let e = is.protected.epoch in omega arith) in
                by_kind (answer_of (numbered PROTECTED d.key d.number (take d.length out)) d.epoch) es
                (Drew p.row d.number) (inr (inl (record {
                  is = bound_now opening es quiet level backed.epoch later all is.fits;
                  told = ap (λ (k : ℕ). numbered PROTECTED k d.number (take d.length out)) is.protected.key;
                  position_is = is.protected.epoch ∙ epoch_now opening es quiet level backed.epoch later all;
                  below = is.protected.below;
                  protects = is.protected.frame;
                  funded = funds level backed all;
                  move_is = refl;
                })))

            -- without an entry of its own the number lies below the mark
            by_mark : w.turn.known.opening ≡ v.turn.known.opening
                → IsServedHere (answer_of (numbered PROTECTED d.key d.number (take d.length out)) d.epoch) []
                ((p.row, d.number) ∷ []) (Drew p.row d.number)
            by_mark opening = by_funds [] refl opening (λ level backed all. inl (
              refl,
              subst (λ (l : List Entry). d.number < mark_of (after_all begin.start l) p.binding.key)
                  (all ∙ append-nil (stood_in v))
                  (backed.marks p.binding.key p.row d.number
                  (row_below told begin layout segment task v w began free protects p used opening)
                  (row_is told begin layout segment task v w began free protects p used opening) (once p.row d.number)),
            )) where
              once : (row x : ℕ) → 0 < tally row x ((row, x) ∷ [])
              once row x = let t : eqb row row ≡ true = eq-eqb row row refl in let u : eqb x x ≡ true =
                  eq-eqb x x refl in
                  rw (t, u) (omega arith)

            by_turn : MayTakeTurn told (Funds p.binding.key d.number) v.turn w.turn
                → Tells begin.start (entries_in w)
                (deed_of segment task (answer_of (numbered PROTECTED d.key d.number (take d.length out)) d.epoch))
                (Drew p.row d.number)
                → AnsweredExactly begin segment v w task
                (Some (answer_of (numbered PROTECTED d.key d.number (take d.length out)) d.epoch))
            by_turn (inl l) tells =
                let opening = opening_same told begin layout segment task v w began free protects
                (Funds p.binding.key d.number) (inl l) in
                looks_finish (Drew p.row d.number) (moves opening) ((p.row, d.number) ∷ []) is.uses.spent l
                (answer_of (numbered PROTECTED d.key d.number (take d.length out)) d.epoch) tells (by_mark opening)
            by_turn (inr t) tells = by_reserve t.does.1.2 where
              opening : w.turn.known.opening ≡ v.turn.known.opening
              opening = opening_taken told begin layout segment task v w began free protects
                  (Funds p.binding.key d.number) t

              by_reserve : ((d.number < mark_of t.found.state p.binding.key) × (t.given ≡ t.found))
                  ⊎ ((mark_of t.found.state p.binding.key ≤ d.number) × ((position : ℕ)
                  × Made (reserve_of t.found.plan t.found.state p.binding.key d.number) t.found t.given position))
                  → AnsweredExactly begin segment v w task
                  (Some (answer_of (numbered PROTECTED d.key d.number (take d.length out)) d.epoch))
              by_reserve (inl same) =
                  taken_finish (Funds p.binding.key d.number) t [] (none_left t.found t.given same.1)
                  (Drew p.row d.number) (moves opening) tt
                  ((p.row, d.number) ∷ []) is.uses.spent
                  (answer_of (numbered PROTECTED d.key d.number (take d.length out)) d.epoch) tells
                  (none_stand t.found.log
                  (by_lines (Funds p.binding.key d.number) t [] (none_left t.found t.given same.1)))
                  (λ here. by_mark opening)
              by_reserve (inr made) =
                  taken_finish (Funds p.binding.key d.number) t
                  (reserve_of t.found.plan t.found.state p.binding.key d.number ∷ [])
                  (ap (λ (b : BookView). b.log) made.1.1.1.is) (Drew p.row d.number) (moves opening)
                  (reserve_drawn p.row d.number (reserve_of t.found.plan t.found.state p.binding.key d.number) refl, tt)
                  ((p.row, d.number) ∷ []) is.uses.spent
                  (answer_of (numbered PROTECTED d.key d.number (take d.length out)) d.epoch) tells
                  (λ here level.
                  stood_clean begin v w t.found.log (reserve_of t.found.plan t.found.state p.binding.key d.number ∷ [])
                  (by_lines (Funds p.binding.key d.number) t
                  (reserve_of t.found.plan t.found.state p.binding.key d.number ∷ [])
                  (ap (λ (b : BookView). b.log) made.1.1.1.is))
                  here (level.all (was_clean (Funds p.binding.key d.number) t made.1.1.0.0))
                  (given_entered told begin t.found t.given (loading t.count t.epoch v.turn) v w began free t.visits
                  t.found
                  (reserve_of t.found.plan t.found.state p.binding.key d.number) made.1.0 made.1.1.1
                  (t.visits.found_kept.whole made.1.1.0.0)))
                  (λ here. by_funds (reserve_of t.found.plan t.found.state p.binding.key d.number ∷ []) refl opening
                  (λ level backed all. inr (
                    ap (λ (e : Entry). e ∷ [])
                        (reserve_here (Funds p.binding.key d.number) t d.number made.1.1.0.0 here level),
                    subst (λ (st : State). mark_of st p.binding.key ≤ d.number)
                        (state_here (Funds p.binding.key d.number) t made.1.1.0.0 here level) made.0,
                  )))

      exhausted : (key n epoch : ℕ) → RunsOutUnder p task.octets key n epoch v w → MayTakeTurn told Rests v.turn w.turn
          → AnsweredExactly begin segment v w task (Some (answer_of (numbered EXHAUSTED key n []) epoch))
      exhausted key n epoch (fits, key_is, epoch_is, out, later) turn = by_end out.1 where
        opening : w.turn.known.opening ≡ v.turn.known.opening
        opening = opening_same told begin layout segment task v w began free protects Rests turn

        low : p.row < begin.rows
        low = row_below told begin layout segment task v w began free protects p used opening

        has_row : place_of (after_all begin.start (entries_in w)).keys key ≡ Some p.row
        has_row = subst (λ (k : ℕ). place_of (after_all begin.start (entries_in w)).keys k ≡ Some p.row) (sym key_is)
            (row_is told begin layout segment task v w began free protects p used opening)

        tells : (move : Move) → (move ≡ Found p.row n) ⊎ (move ≡ Overdrew p.row n)
            → Tells begin.start (entries_in w) (deed_of segment task (answer_of (numbered EXHAUSTED key n []) epoch))
            move
        tells move which = by_protect (answer_of (numbered EXHAUSTED key n []) epoch) move (record {
          protected = λ code. absurd (omega arith);
          exhausted = λ _. (p.row, has_row, which);
          unbound = λ code. absurd (not_kept code);
          wanting = λ code. absurd (omega arith);
        }) where
          not_kept : (EXHAUSTED ≡ CLEAR) ⊎ ((LAYOUT ≤ EXHAUSTED) × (EXHAUSTED ≤ STATE)) → ⊥
          not_kept (inl a) = omega arith
          not_kept (inr a) = omega arith

        serves : (move : Move) → (move ≡ Found p.row n) ⊎ (move ≡ Overdrew p.row n)
            → IsServedHere (answer_of (numbered EXHAUSTED key n []) epoch) [] [] move
        serves move which level backed all =
            let low : epoch_seen v.turn ≤ p.epoch = omega (arith, later, epoch_is) in
            by_kind (answer_of (numbered EXHAUSTED key n []) epoch) [] move (inr (inr (record {
              is = bound_now opening [] refl level backed.epoch low all fits;
              told = ap (λ (k : ℕ). numbered EXHAUSTED k n []) key_is;
              position_is = epoch_is ∙ epoch_now opening [] refl level backed.epoch low all;
              at_end = subst (λ (k : ℕ). end_of k ≤ n) key_is out.0;
              own_is = refl;
              move_is = which;
            })))

        by_end : ((top p.row v.numbers.nexts ≤ n) × (w.numbers ≡ arming p.row (end_of key) n v.numbers))
            ⊎ Draws p.row (end_of key) n v.numbers w.numbers
            → AnsweredExactly begin segment v w task (Some (answer_of (numbered EXHAUSTED key n []) epoch))
        by_end (inl (least, is)) =
            rests_finish (Found p.row n)
            (moves_found begin v w task p.row low n (found_shows begin task v w p.row (end_of key) n least is))
            [] (found_shows begin task v w p.row (end_of key) n least is).counted.spent_is turn
            (answer_of (numbered EXHAUSTED key n []) epoch) (tells (Found p.row n) (inl refl))
            (serves (Found p.row n) (inl refl))
        by_end (inr d) =
            rests_finish (Overdrew p.row n) (moves_over begin v w task p.row low (end_of key) n out.0 d
            (draws_shows begin task v w (one_drawer task protects) p.row (end_of key) n d))
            [] (draws_shows begin task v w (one_drawer task protects) p.row (end_of key) n d).counted.spent_is turn
            (answer_of (numbered EXHAUSTED key n []) epoch) (tells (Overdrew p.row n) (inr refl))
            (serves (Overdrew p.row n) (inr refl))

      shows : (n : ℕ)
          → (Draws p.row (end_of p.binding.key) n v.numbers w.numbers
          ⊎ ComesBack p.row (end_of p.binding.key) n v.numbers w.numbers)
          → Shows begin task v w p.row n ((p.row, n) ∷ []) [] [] ((p.row, 1) ∷ [])
      shows n (inl d) = draws_shows begin task v w (one_drawer task protects) p.row (end_of p.binding.key) n d
      shows n (inr b) = back_shows begin task v w (one_drawer task protects) p.row (end_of p.binding.key) n b

      module _ (position n : ℕ)
          (drawn : Draws p.row (end_of p.binding.key) n v.numbers w.numbers
          ⊎ ComesBack p.row (end_of p.binding.key) n v.numbers w.numbers)
          (other : BookFault) (k : TakesTurn told (Reserves p.binding.key n (Err other)) v.turn w.turn) where
        opening : w.turn.known.opening ≡ v.turn.known.opening
        opening = opening_taken told begin layout segment task v w began free protects
            (Reserves p.binding.key n (Err other)) k

        ends : (es : List Entry) → k.given.log ≡ k.found.log ++ lines_of es → AreDrawn (Drew p.row n ∷ []) es
            → (((count : ℕ) → other ≢ refusals.SiteFault count) → k.found.log ≡ log_of v → AllStand v → AllStand w)
            → (other ≡ refusals.SessionFull → (length es ≤ 1) × IsClean v × AllStand w) → other ≢ refusals.NoMemory
            → AnsweredExactly begin segment v w task (fault_answer other position)
        ends es is are stays few remembers = refused_exactly begin segment task v w (Drew p.row n)
            (moves_drew begin v w task p.row
            (row_below told begin layout segment task v w began free protects p used opening) n [] (shows n drawn))
            k.found.log es (by_lines (Reserves p.binding.key n (Err other)) k es is) are
            [] (passes (Reserves p.binding.key n (Err other)) k es is [] (shows n drawn).counted.spent_is)
            (not_kept (Drew p.row n)) other position stays few (λ _ is. absurd (remembers is))

        by_case : Reserves p.binding.key n (Err other) k.found k.given
            → AnsweredExactly begin segment v w task (fault_answer other position)
        by_case (unmarked, inl (is_barred, same)) =
            ends [] (none_left k.found k.given same) tt
            (λ faulty here all. same_stands told begin k.found k.given (loading k.count k.epoch v.turn) v w began free
            k.visits
            same refl here all)
            (λ is.
            let full = subst (IsBarred k.found) is is_barred in (
              omega arith,
              was_clean (Reserves p.binding.key n (Err other)) k full.0,
              given_as told begin k.found k.given (loading k.count k.epoch v.turn) v w began free k.visits k.found same
                  (k.visits.found_kept.whole full.0),
            )) (λ is. subst (IsBarred k.found) is is_barred)
        by_case (unmarked, inr (can, h)) = by_fault other refl h where
          by_fault : (f : BookFault) → other ≡ f
              → IsUnstored (reserve_of k.found.plan k.found.state p.binding.key n) k.found k.given f
              → AnsweredExactly begin segment v w task (fault_answer other position)
          by_fault (refusals.SiteFault count) is u =
              ends (reserve_of k.found.plan k.found.state p.binding.key n ∷ []) (ap (λ (b : BookView). b.log) u.3)
              (reserve_drawn p.row n (reserve_of k.found.plan k.found.state p.binding.key n) refl, tt)
              (λ faulty. absurd (faulty count is)) (λ same. absurd (let no = sym is ∙ same in cc))
              (λ same. let no = sym is ∙ same in cc)
          by_fault (refusals.Stopped count) is u = absurd u
          by_fault refusals.SessionFull is u = absurd u
          by_fault refusals.NoMemory is u = absurd u

      failed : (fault : BookFault) (position n : ℕ)
          → (Draws p.row (end_of p.binding.key) n v.numbers w.numbers
          ⊎ ComesBack p.row (end_of p.binding.key) n v.numbers w.numbers)
          → TakesTurn told (Reserves p.binding.key n (Err fault)) v.turn w.turn
          → AnsweredExactly begin segment v w task (fault_answer fault position)
      failed fault position n drawn t = by_case position n drawn fault t t.does

    no_spent : w.numbers ≡ v.numbers → w.numbers.spent ≡ v.numbers.spent ++ []
    no_spent numbers = ap (λ (k : Numbers). k.spent) numbers ∙ sym (append-nil v.numbers.spent)

    pub protects_exactly : (plan : PlanLines) (kept : Option Permit) (out : List ℕ) (result : Protected)
        → v.turn.known.opening.plan ≡ plan
        → IsProtectStep told plan task.link task.octets out kept result v w
        → AnsweredExactly begin segment v w task (protected_answer result out)
    protects_exactly plan kept out (protecteds.Done d) planned_is (p, kept_is, used, (is, turn)) =
        done p (subst (λ (q : PlanLines). IsUsed q task.link task.octets p w.turn) (sym planned_is) used) out d is turn
    protects_exactly plan kept out protecteds.Clear planned_is (sent_clear, numbers, same) =
        looks_finish Kept (moves_none begin v w numbers) [] (no_spent numbers)
        (none_looks v.turn w.turn same) (answer_of (plain CLEAR 0) 0)
        (kept_tells (plain CLEAR 0) 0 (inl refl))
        (λ level backed all.
        let check : channel_check begin.plan task.link task.octets ≡ Ok None =
        subst (λ (q : PlanLines). channel_check q task.link task.octets ≡ Ok None) (sym planned_is ∙ began.plan)
        sent_clear in
        by_kind (answer_of (plain CLEAR 0) 0) [] Kept (inl (record {
          told = ap unbound_told (clear_reply begin.plan (machine.at_last_epoch begin (stood_in v)) task.link
              task.octets
              check);
          position_is =
              sym (ap (λ (r : Result (Option ℕ) ShieldFault). machine.epoch_beside r (epoch_after (stood_in v))) check);
          own_is = refl;
          move_is = refl;
        })))
    protects_exactly plan kept out (protecteds.Refused fault epoch) planned_is (refused_it, numbers) =
        by_refusal refused_it where
          by_refusal : IsRefusedAt told plan task.link task.octets fault epoch v.turn w.turn
              → AnsweredExactly begin segment v w task (Some (answer_of (fault_told fault) epoch))
          by_refusal (inl (refuses, zero_is, same)) =
              looks_finish Kept (moves_none begin v w numbers) [] (no_spent numbers)
              (none_looks v.turn w.turn same)
              (answer_of (fault_told fault) epoch) (kept_tells (fault_told fault) epoch (fault_code fault))
              (λ level backed all.
              let check : channel_check begin.plan task.link task.octets ≡ Err fault =
              subst (λ (q : PlanLines). channel_check q task.link task.octets ≡ Err fault) (sym planned_is ∙ began.plan)
              refuses in
              by_kind (answer_of (fault_told fault) epoch) [] Kept (inl (record {
                told = ap unbound_told (planned_reply begin.plan (machine.at_last_epoch begin (stood_in v)) task.link
                    task.octets fault check);
                position_is =
                    zero_is ∙ sym
                    (ap (λ (r : Result (Option ℕ) ShieldFault). machine.epoch_beside r (epoch_after (stood_in v)))
                    check);
                own_is = refl;
                move_is = refl;
              })))
          by_refusal (inr (f, low, turn)) =
              rests_finish Kept (moves_none begin v w numbers) [] (no_spent numbers) turn
              (answer_of (fault_told fault) epoch) (kept_tells (fault_told fault) epoch (fault_code fault))
              (λ level backed all.
              let opening = opening_same told begin layout segment task v w began free protects Rests turn in
              let plans : w.turn.known.opening.plan ≡ begin.plan = ap (λ (o : Opening). o.plan) opening ∙ began.plan in
              let starts : w.turn.known.opening.start ≡ begin.start =
              ap (λ (o : Opening). o.start) opening ∙ began.start in
              let same : stood_in w ≡ stood_in v = all ∙ append-nil (stood_in v) in
              let counted = ap epoch_after same in
              let seen = f.seen in
              let least = level.epoch in
              let most = backed.epoch in
              let epoch_is : epoch ≡ epoch_after (stood_in v) = omega arith in
              let reply : protect_reply begin.plan (at_epoch begin.start (entries_in w) epoch) task.link task.octets
              ≡ Err fault =
              subst (λ (st : State). protect_reply begin.plan (at_epoch st (entries_in w) epoch) task.link task.octets
              ≡ Err fault) starts
              (subst (λ (q : PlanLines). protect_reply q (at_epoch w.turn.known.opening.start (entries_in w) epoch)
              task.link
              task.octets ≡ Err fault) plans f.is) in
              let here : protect_reply begin.plan (machine.at_last_epoch begin (stood_in v)) task.link task.octets
              ≡ Err fault =
              let left : List Entry = drop w.turn.known.standing (entries_in w) in
              let behind : entries_in w ≡ stood_in v ++ left =
              sym (take-append-drop w.turn.known.standing (entries_in w)) ∙ ap (λ (l : List Entry). l ++ left) same in
              let state : at_epoch begin.start (entries_in w) epoch ≡ at_epoch begin.start (stood_in v) epoch =
              ap (λ (l : List Entry). at_epoch begin.start l epoch) behind ∙ at_epoch_more begin.start (stood_in v) left
              epoch
              (omega arith) in
              subst (λ (e : ℕ). protect_reply begin.plan (at_epoch begin.start (stood_in v) e) task.link task.octets
              ≡ Err fault) epoch_is
              (subst (λ (st : State). protect_reply begin.plan st task.link task.octets ≡ Err fault) state reply) in
              let check : channel_check begin.plan task.link task.octets ≡ Ok (Some f.passes.0) =
              subst (λ (q : PlanLines). channel_check q task.link task.octets ≡ Ok (Some f.passes.0)) plans
              f.passes.1 in
              by_kind (answer_of (fault_told fault) epoch) [] Kept (inl (record {
                told = ap unbound_told here;
                position_is =
                    epoch_is ∙ sym
                    (ap (λ (r : Result (Option ℕ) ShieldFault). machine.epoch_beside r (epoch_after (stood_in v)))
                    check);
                own_is = refl;
                move_is = refl;
              })))
    protects_exactly plan kept out (protecteds.Exhausted key n epoch) planned_is (p, used, (is, turn)) =
        exhausted p (subst (λ (q : PlanLines). IsUsed q task.link task.octets p w.turn) (sym planned_is) used) key n
        epoch
        is turn
    protects_exactly plan kept out (protecteds.Fault fault position) planned_is
        (p, used, (fits, later, at, (n, below, drawn, t))) =
        failed p (subst (λ (q : PlanLines). IsUsed q task.link task.octets p w.turn) (sym planned_is) used) fault
        position
        n drawn t

-- what the call tells of numbers that were spent before, where it took the turn
pub covers_taken : (told : Bool) (begin : Begin) (v w : View)
    → BeganWith told begin v.turn.known.opening → v.turn.holds ≡ false → CoversIfTaken told v w
    → (done : BookView → BookView → Type 0) → TakesTurn told done v.turn w.turn → CoversSpent begin v w
covers_taken told begin v w began free (inl l) done t =
    let one : w.turn.turns ≡ v.turn.turns = ap (λ (k : Turn). k.turns) l.is in
    let two : w.turn.turns ≡ v.turn.turns + 1 = ap (λ (k : Turn). k.turns) t.visits.takes.turn in absurd (omega arith)
covers_taken told begin v w began free (inr (count, epoch, loads, h)) done t =
    covers told begin v (record v { turn = loading count epoch v.turn }) w began free refl loads.later refl refl earlier
    h
  where
    earlier : Earlier v.turn.known w.turn.known
    earlier = subst (λ (k : Turn). Earlier v.turn.known k.known) (sym h.visits.takes.turn)
        (earlier_again v.turn.known (known_of_book h.found) (known_of_book h.given) h.visits.takes.follows.earlier
        h.visits.takes.earlier
        h.visits.takes.opening)
