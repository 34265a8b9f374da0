-- An acceptance takes its number, a taken number is accepted no more, and the floor that a release would leave never
-- falls.
use Rattle.std.proofs.Common.{◌≡◌, ℕ, ◌+◌, ◌-◌, ◌<◌, ◌≤◌, max, min, Bool, true, false, cond, nat_eq, List, length}
use Rattle.std.proofs.Common.{get_or, Option, Some, None, IsSomeAnd, inl, inr, ⊎_elim, refl, sym, ap, ◌∙◌, subst, arith}
use Rattle.std.specs.Prelude.{IfSome}
use Rattle.std.specs.List.{All}
use Rattle.std.specs.FinSet as set
use Rattle.std.specs.Option.{option_map, option_map_or}
use Rattle.std.proofs.lemmas.Bool.{false≢true}
use Rattle.std.proofs.lemmas.List.{get_or_default}
use Rattle.std.proofs.lemmas.List.Elements.{All-map}
use Rattle.std.proofs.lemmas.List.Quantifiers.{position-Some}
use Rattle.sdls_base.specs.KeyId.{end_of}
use Rattle.sdls_base.specs.declared.entry.Change.{Change}
use Rattle.sdls_base.specs.declared.entry.Change.TheVariants.{Accepted}
use Rattle.sdls_base.specs.declared.entry.Entry.{Entry}
use Rattle.sdls_base.specs.declared.states.Direction.{Direction}
use Rattle.sdls_base.specs.declared.states.Direction.TheVariants.{Receive}
use Rattle.key_book.specs.declared.key_row.KeyRow.{KeyRow}
use Rattle.key_book.specs.KeyBook.{row_of as held_at, changed as keys_changed}
use Rattle.replay_window.specs.declared.window.Window.{Window}
use Rattle.replay_window.specs.declared.TheConstants.{MOST_BACK}
use Rattle.replay_window.specs.Window.{accepted, IsAhead, IsLate, IsFresh}
use Rattle.replay_window.specs.Past.{IsPast}
use Rattle.replay_window.proofs.Past.{past_taken, past_accepting, past_lowered, past_refused}
use Rattle.replay_window.proofs.Lowered.{lowered_high}
use Rattle.sa_book.specs.declared.sa_book.SaRow.{SaRow}
use Rattle.sa_book.specs.SaRow.{IsSaRow, MayAccept}
use Rattle.sa_book.specs.SaRefusal.{receives_with, receiver_with}
use Rattle.sa_book.proofs.Rows.{within_place}
use Rattle.sdls_base.proofs.Searches.{find_none}
use Rattle.unit_plan.specs.PlanLines.{PlanLines}
use Rattle.unit_plan.specs.PlanRules.{IsPlan}
use Rattle.unit_state.specs.declared.state.State.{State}
use Rattle.unit_state.specs.State.{KeepsRules, MayHold, HasKey, key_row, association_row}
use Rattle.unit_state.specs.Applied.{applied}
use Rattle.unit_state.specs.Allows.{Allows, AllowsAccepted}
use Rattle.unit_state.specs.Restart.{restarted, restarted_high, restarted_row}
use Rattle.unit_state.specs.Laws.{IsNoMarks}
use Rattle.unit_state.proofs.Found.{found, found_passes}
use Rattle.unit_state.proofs.Held.{row_of_changed}
use Rattle.unit_state.proofs.KeyRules.{number_test, stands}
use Rattle.unit_state.proofs.RulesKept.{there}
use Rattle.frame_checks.specs.declared.opening_frames.OpenReply.TheVariants as opens
use Rattle.frame_checks.specs.OpeningFrames.{IsOpenReply}
use Rattle.frame_checks.proofs.Replies.{any_reply_may}
use Rattle.record_io.specs.declared.item_cursor.Record.{Record}
use Rattle.run_promise.specs.Numbers.{floor_of, released_floor, kept_floor}
use Rattle.run_promise.specs.History.{IsLegal, IsRelease}
use Rattle.law_history.specs.Entries.{IsEntry}
use Rattle.law_history.specs.Taken.{IsTaken}
use Rattle.law_history.proofs.Legal.{of_step, command_marks, frame_marks, legal_allowed}
use Rattle.law_history.proofs.Marks.{row_named, floor_is, release_entry}
use Rattle.law_history.proofs.Highs.{IsKeptBy, Holds, Covers, receiver, receives, one_receiver, taken_unmarked}
use Rattle.law_history.proofs.Highs.{taken_marked}

key_changed : (keys : List KeyRow) (key : ℕ) (f : KeyRow → KeyRow) (held : KeyRow)
    → ((row : KeyRow) → (f row).id ≡ row.id)
    → held_at keys key ≡ Some held → held.id ≡ key → held_at (keys_changed keys key f) key ≡ Some (f held)
key_changed keys key f held same is named =
    row_of_changed keys key key f same ∙ ap (option_map (λ (row : KeyRow). cond (nat_eq row.id key) (f row) row)) is
    ∙ ap (λ (b : Bool). Some (cond b (f held) held)) (number_test held.id key named)

-- ---- the two facts of a window: that a number is up to the highest one, and that it is past

abbrev pub IsUpTo : Window → ℕ → Type 0
IsUpTo window number = number ≤ window.high

pub up_to_kept : IsKeptBy IsUpTo
up_to_kept = record {
  up_to_high = λ window n up. up;
  taking = λ window n. omega arith;
  accepting = λ window n m up. omega arith;
  setting = λ window field m up. up;
  beginning = λ window high m up. up;
  lowering = λ window floor m low up. subst (λ (h : ℕ). m ≤ h) (sym (lowered_high floor window)) (omega arith);
}

pub past_kept : IsKeptBy IsPast
past_kept = record {
  up_to_high = λ window n past. past.up_to_high;
  taking = past_taken;
  accepting = past_accepting;
  setting = λ window field m past. record { up_to_high = past.up_to_high; cause = past.cause };
  beginning = λ window high m low. record { up_to_high = low; cause = inl low };
  lowering = past_lowered;
}

pub taken_covers : (state : State) (key number : ℕ) → IsTaken state key number → Covers IsPast state key number
taken_covers state key number taken = record { floor = taken.floor; windows = taken.windows }

pub covers_taken : (state : State) (key number : ℕ) → Covers IsPast state key number → IsTaken state key number
covers_taken state key number covers = record { floor = covers.floor; windows = covers.windows }

-- what is past is up to the highest number
pub past_up_to : (state : State) (key number : ℕ) → Covers IsPast state key number → Covers IsUpTo state key number
past_up_to state key number covers =
    record { floor = covers.floor; windows = λ k d within test. (covers.windows k d within test).up_to_high }

module _ (P : Window → ℕ → Type 0) (keeps : IsKeptBy P) where
  -- ---- an acceptance takes its number

  accepted_row : (key number spi : ℕ) (b : Bool) (row : SaRow) → (b ≡ false → receives_with key row ≡ true → ⊥)
      → Holds P key number (cond b (record row { window = accepted number row.window }) row)
  accepted_row key number spi true row other = λ test. keeps.taking row.window number
  accepted_row key number spi false row other = λ test. absurd (other refl test)

  pub covered_at : (state : State) (spi key number floor : ℕ) → KeepsRules state
      → AllowsAccepted state spi key number floor
      → Covers P (applied state (Accepted spi key number floor)) key number
  covered_at state spi key number floor rules allowed =
      let row = there (association_row state spi) _ allowed.row in
      let held = there (key_row state key) _ allowed.held in
      let f : KeyRow → KeyRow = λ row. record row { floor = max row.floor floor } in
      let new : State = applied state (Accepted spi key number floor) in
      let floor_now : floor_of new key ≡ max held.row.floor floor =
      floor_is new key (f held.row) (key_changed state.keys key f held.row (λ row. refl) held.is
      (row_named state key held.row held.is)) in
      let covered : number ≤ floor = allowed.covered in
      let rows : List SaRow = state.associations in
      let at = stands (λ (row : SaRow). nat_eq row.spi spi) rows row.row row.is in
      let own : receives_with key row.row ≡ true =
      receives key row.row (record { direction = row.holds.0.receives; own = row.holds.1 }) in
      record {
        floor = omega arith;
        windows = All-map (Holds P key number)
            (λ (row : SaRow). cond (nat_eq row.spi spi) (record row { window = accepted number row.window }) row) rows
            (λ k d low. accepted_row key number spi (nat_eq (get_or rows k d).spi spi) (get_or rows k d) (λ other test.
            let within : at.index < length rows = within_place rows spi at.index row.row at.place in
            let here : get_or rows at.index d ≡ row.row = get_or_default rows at.index d row.row within ∙ sym at.read in
            let same = one_receiver rows key at.index k d rules.associations within low
            (subst (λ (r : SaRow). receives_with key r ≡ true) (sym here) own) test in
            let is : get_or rows k d ≡ row.row = ap (λ (n : ℕ). get_or rows n d) same ∙ here in
            false≢true (sym other ∙ ap (λ (r : SaRow). nat_eq r.spi spi) is
            ∙ found_passes (λ (row : SaRow). nat_eq row.spi spi) rows row.row row.is)));
      }

  pub acceptance_covers : (state : State) (change : Change) (spi key number floor : ℕ) → KeepsRules state
      → Allows state change
      → change ≡ Accepted spi key number floor → Covers P (applied state change) key number
  acceptance_covers state change spi key number floor rules allowed is =
      subst (λ (c : Change). Covers P (applied state c) key number) (sym is)
      (covered_at state spi key number floor rules (subst (Allows state) is allowed))

  -- ---- covered, and at most the floor that a release would leave

  floor_by_row : (state : State) (key number : ℕ) (held : KeyRow) (o : Option SaRow) → key_row state key ≡ Some held
      → receiver_with state.associations held.id ≡ o → Covers P state key number
      → number ≤ option_map_or (λ (row : SaRow). row.window.high) o held.floor
  floor_by_row state key number held None is none taken =
      subst (λ (n : ℕ). number ≤ n) (floor_is state key held is) taken.floor
  floor_by_row state key number held (Some row) is found_is taken =
      let named : held.id ≡ key = row_named state key held is in
      keeps.up_to_high row.window number (found (Holds P key number) _ state.associations row found_is taken.windows
      (ap (λ (k : ℕ). receives_with k row) (sym named) ∙ found_passes (receives_with held.id) state.associations row
      found_is))

  kept_by : (state : State) (key number : ℕ) (o : Option KeyRow) → key_row state key ≡ o → Covers P state key number
      → number ≤ option_map_or (released_floor state) o 0
  kept_by state key number None is taken =
      subst (λ (n : ℕ). number ≤ n) (ap (λ (o : Option KeyRow). option_map_or (λ (row : KeyRow). row.floor) o 0) is)
      taken.floor
  kept_by state key number (Some held) is taken =
      floor_by_row state key number held (receiver_with state.associations held.id) is refl taken

  pub covered_kept : (state : State) (key number : ℕ) → Covers P state key number → number ≤ kept_floor state key
  covered_kept state key number taken = kept_by state key number (key_row state key) refl taken

  -- ---- no entry takes it away

  pub legal_covers : (near : ℕ → ℕ → Type 0) (plan : PlanLines) (state : State) (records : List Record) (entry : Entry)
      (key number : ℕ) → IsPlan plan
      → KeepsRules state → IsLegal near plan state records entry → Covers P state key number
      → Covers P (applied state entry.change) key number
  legal_covers near plan state records entry key number ok rules (inl opening) taken =
      taken_unmarked P keeps state entry.change key number rules
      (legal_allowed near plan state records entry ok rules (inl opening))
      (subst (λ (e : Entry). IsNoMarks e.change) (sym opening.entry_is) (frame_marks plan state opening.reply)) taken
  legal_covers near plan state records entry key number ok rules (inr (inl procedure)) taken =
      taken_unmarked P keeps state entry.change key number rules
      (legal_allowed near plan state records entry ok rules (inr (inl procedure)))
      (command_marks entry.change (of_step state procedure.task.octets entry.seen (entry.change, procedure.reply)
      procedure.step)) taken
  legal_covers near plan state records entry key number ok rules (inr (inr reserve)) taken =
      subst (λ (e : Entry). Covers P (applied state e.change) key number) (sym reserve.entry_is)
      (taken_marked P keeps state reserve.key (min (reserve.number + plan.block) (end_of reserve.key))
      (floor_of state reserve.key) key number taken
      (λ same. subst (λ (k : ℕ). number ≤ floor_of state k) (sym same) taken.floor))

  pub release_covers : (near : ℕ → ℕ → Type 0) (state : State) (entry : Entry) (key number : ℕ)
      → IsRelease near state entry
      → Covers P state key number → Covers P (applied state entry.change) key number
  release_covers near state entry key number release taken =
      let held : KeyRow = release.held in
      let is = release_entry state release.word held entry release.releases in
      subst (λ (c : Change). Covers P (applied state c) key number) (sym is.change_is)
      (taken_marked P keeps state held.id (min held.mark release.word) (released_floor state held) key number taken
      (λ same. floor_by_row state key number held (receiver_with state.associations held.id)
      (ap (key_row state) (sym same) ∙ release.there) refl taken))

  -- ---- at the start

  restarted_at : (keys : List KeyRow) (direction : Direction) (own : Option ℕ) (key number high : ℕ)
      → direction ≡ Receive → own ≡ Some key
      → number ≤ option_map_or (λ (row : KeyRow). row.floor) (held_at keys key) 0
      → number ≤ restarted_high keys direction own high
  restarted_at keys direction own key number high receives holds low =
      subst (λ (d : Direction). number ≤ restarted_high keys d own high) (sym receives)
      (subst (λ (o : Option ℕ). number ≤ restarted_high keys Receive o high) (sym holds) (by (held_at keys key) low))
    where
      by : (o : Option KeyRow) → number ≤ option_map_or (λ (row : KeyRow). row.floor) o 0
          → number ≤ option_map_or (λ (row : KeyRow). row.floor) o high
      by None low = omega arith
      by (Some held) low = low

  restarted_up : (keys : List KeyRow) (key number : ℕ) (row : SaRow)
      → number ≤ option_map_or (λ (row : KeyRow). row.floor) (held_at keys key) 0
      → Holds P key number (restarted_row keys row)
  restarted_up keys key number row low = λ test.
      let is = receiver key (restarted_row keys row) test in
      keeps.beginning row.window (restarted_high keys row.direction row.key row.window.high) number
      (restarted_at keys row.direction row.key key number row.window.high is.direction is.own low)

  -- a number up to the floor is taken in a state that a restart left
  pub covered_restarted : (state : State) (key number : ℕ) → restarted state ≡ state → number ≤ floor_of state key
      → Covers P state key number
  covered_restarted state key number same low = record {
    floor = low;
    windows = subst (λ (s : State). All (Holds P key number) s.associations) same
        (All-map (Holds P key number) (restarted_row state.keys) state.associations
        (λ k d within. restarted_up state.keys key number (get_or state.associations k d) low));
  }

  -- ---- entries of any kind

  pub entry_covers : (near : ℕ → ℕ → Type 0) (plan : PlanLines) (state : State) (records : List Record) (entry : Entry)
      (key number : ℕ) → IsPlan plan
      → KeepsRules state → IsEntry near plan state records entry → Covers P state key number
      → Covers P (applied state entry.change) key number
  entry_covers near plan state records entry key number ok rules (inl legal) taken =
      legal_covers near plan state records entry key number ok rules legal taken
  entry_covers near plan state records entry key number ok rules (inr release) taken =
      release_covers near state entry key number release taken

-- ---- of numbers that are taken

pub acceptance_takes : (state : State) (change : Change) (spi key number floor : ℕ) → KeepsRules state
    → Allows state change
    → change ≡ Accepted spi key number floor → IsTaken (applied state change) key number
acceptance_takes state change spi key number floor rules allowed is =
    covers_taken (applied state change) key number
    (acceptance_covers IsPast past_kept state change spi key number floor rules allowed is)

-- an acceptance takes its number
pub taken_at : (state : State) (spi key number floor : ℕ) → KeepsRules state → AllowsAccepted state spi key number floor
    → IsTaken (applied state (Accepted spi key number floor)) key number
taken_at state spi key number floor rules allowed =
    covers_taken (applied state (Accepted spi key number floor)) key number
    (covered_at IsPast past_kept state spi key number floor rules allowed)

-- a number that is taken is at most the floor that a release would leave
pub taken_kept : (state : State) (key number : ℕ) → IsTaken state key number → number ≤ kept_floor state key
taken_kept state key number taken = covered_kept IsPast past_kept state key number (taken_covers state key number taken)

-- no entry, a release among them, makes a taken number free
pub entry_takes : (near : ℕ → ℕ → Type 0) (plan : PlanLines) (state : State) (records : List Record) (entry : Entry)
    (key number : ℕ) → IsPlan plan
    → KeepsRules state → IsEntry near plan state records entry → IsTaken state key number
    → IsTaken (applied state entry.change) key number
entry_takes near plan state records entry key number ok rules is taken =
    covers_taken (applied state entry.change) key number
    (entry_covers IsPast past_kept near plan state records entry key number ok rules is
    (taken_covers state key number taken))

-- a number up to the floor is taken in a state that a restart left
pub taken_restarted : (state : State) (key number : ℕ) → restarted state ≡ state → number ≤ floor_of state key
    → IsTaken state key number
taken_restarted state key number same low =
    covers_taken state key number (covered_restarted IsPast past_kept state key number same low)

-- ---- a taken number is not accepted

pub not_fresh : (state : State) (spi key number : ℕ) → KeepsRules state → IsTaken state key number
    → IsSomeAnd (association_row state spi) (λ row. MayAccept row number × (row.key ≡ Some key)) → ⊥
not_fresh state spi key number rules taken may =
    let row = there (association_row state spi) _ may in
    let own : receives_with key row.row ≡ true =
    receives key row.row (record { direction = row.holds.0.receives; own = row.holds.1 }) in
    let past : IsPast row.row.window number =
    found (Holds IsPast key number) _ state.associations row.row row.is taken.windows own in
    let fits : IsSaRow row.row = found IsSaRow _ state.associations row.row row.is rules.associations.each in
    past_refused row.row.window number (end_of row.holds.0.key) fits.back past row.holds.0.fresh

-- a number that is fresh is above one up to the highest, or less far below it than the back window reaches
fresh_reach : (window : Window) (high number end : ℕ) → high ≤ window.high → IsFresh window number end
    → high < number + window.back
fresh_reach window high number end up fresh =
    ⊎_elim (λ (ahead : IsAhead window number). omega (arith, ahead.above))
    (λ (late : IsLate window (set.items window.taken) number). omega (arith, late.near)) fresh.place

-- so is what an association may accept, of each number that is taken
pub reached : (state : State) (spi key high number : ℕ) (row : SaRow) → association_row state spi ≡ Some row
    → row.key ≡ Some key → MayAccept row number
    → IsTaken state key high → high < number + row.window.back
reached state spi key high number row is own may taken =
    let past : IsPast row.window high = found (Holds IsPast key high) _ state.associations row is taken.windows
    (receives key row (record { direction = may.receives; own = own })) in
    fresh_reach row.window high number (end_of may.key) past.up_to_high may.fresh

pub near_fresh : (state : State) (spi key high number : ℕ) → KeepsRules state → IsTaken state key high
    → IsSomeAnd (association_row state spi) (λ row. MayAccept row number × (row.key ≡ Some key))
    → high - number < MOST_BACK
near_fresh state spi key high number rules taken may =
    let row = there (association_row state spi) _ may in
    let above = reached state spi key high number row.row row.is row.holds.1 row.holds.0 taken in
    let fits : IsSaRow row.row = found IsSaRow _ state.associations row.row row.is rules.associations.each in
    let reach : row.row.window.back ≤ 64 = fits.back in
    let near : high - number < 64 = omega arith in near

-- no opening accepts a taken number
pub barred : (plan : PlanLines) (state : State) (link : ℕ) (frame field : List ℕ) (spi key number from to : ℕ)
    → KeepsRules state → IsTaken state key number
    → IsOpenReply plan state link frame (opens.Accepted spi key number from to) field → ⊥
barred plan state link frame field spi key number from to rules taken is =
    not_fresh state spi key number rules taken
    (any_reply_may plan state link frame (opens.Accepted spi key number from to) field is).row

-- ---- at most the floor that a release would leave, and covered

-- an association that holds a key has no higher number than the key's floor
high_low : (keys : List KeyRow) (row : SaRow) (key : ℕ) (held : KeyRow) → HasKey keys row → row.key ≡ Some key
    → held_at keys key ≡ Some held
    → row.window.high ≤ held.floor
high_low keys row key held has own is =
    let may : IsSomeAnd (held_at keys key) (MayHold row) =
    subst (λ (o : Option ℕ). IfSome o (λ key. IsSomeAnd (held_at keys key) (MayHold row))) own has in
    let holds : MayHold row held = subst (λ (o : Option KeyRow). IsSomeAnd o (MayHold row)) is may in
    holds.floor

covered_by_row : (state : State) (key number : ℕ) (held : KeyRow) (o : Option SaRow) → KeepsRules state
    → key_row state key ≡ Some held
    → receiver_with state.associations key ≡ o → number ≤ option_map_or (λ (row : SaRow). row.window.high) o held.floor
    → Covers IsUpTo state key number
covered_by_row state key number held None rules is none low = record {
  floor = subst (λ (n : ℕ). number ≤ n) (sym (floor_is state key held is)) low;
  windows = λ k d within test. absurd
      (false≢true (sym (find_none (receives_with key) state.associations none k d within) ∙ test));
}
covered_by_row state key number held (Some row) rules is found_is low =
    let rows : List SaRow = state.associations in
    let at = stands (receives_with key) rows row found_is in
    let passes : receives_with key row ≡ true = found_passes (receives_with key) rows row found_is in
    let high : row.window.high ≤ held.floor =
    high_low state.keys row key held (found (HasKey state.keys) _ rows row found_is rules.held)
    (receiver key row passes).own is in
    record {
      floor = subst (λ (n : ℕ). number ≤ n) (sym (floor_is state key held is)) (omega arith);
      windows = λ k d within test.
          let below : at.index < length rows = (position-Some (receives_with key) rows at.index row at.place).0 in
          let here : get_or rows at.index d ≡ row = get_or_default rows at.index d row below ∙ sym at.read in
          let same = one_receiver rows key at.index k d rules.associations below within
          (subst (λ (r : SaRow). receives_with key r ≡ true) (sym here) passes) test in
          let one : get_or rows k d ≡ row = ap (λ (n : ℕ). get_or rows n d) same ∙ here in
          subst (λ (r : SaRow). number ≤ r.window.high) (sym one) low;
    }

covered_by : (state : State) (key number : ℕ) (o : Option KeyRow) → KeepsRules state → key_row state key ≡ o
    → number ≤ option_map_or (released_floor state) o 0 → Covers IsUpTo state key number
covered_by state key number None rules is low = record {
  floor = omega arith;
  windows = λ k d within test. omega arith;
}
covered_by state key number (Some held) rules is low =
    let named : held.id ≡ key = row_named state key held is in
    covered_by_row state key number held (receiver_with state.associations key) rules is refl
    (subst (λ (k : ℕ). number ≤ option_map_or (λ (row : SaRow). row.window.high) (receiver_with state.associations k)
    held.floor) named low)

pub kept_covered : (state : State) (key number : ℕ) → KeepsRules state → number ≤ kept_floor state key
    → Covers IsUpTo state key number
kept_covered state key number rules low = covered_by state key number (key_row state key) rules refl low

-- the floor that a release would leave is no higher than the key's
pub kept_low : (state : State) (key : ℕ) → KeepsRules state → kept_floor state key ≤ floor_of state key
kept_low state key rules = (kept_covered state key (kept_floor state key) rules (omega arith)).floor

-- after a restart it is the key's
pub kept_restarted : (state : State) (key : ℕ) → KeepsRules state → restarted state ≡ state
    → kept_floor state key ≡ floor_of state key
kept_restarted state key rules same =
    let low : kept_floor state key ≤ floor_of state key = kept_low state key rules in
    let high : floor_of state key ≤ kept_floor state key =
    covered_kept IsUpTo up_to_kept state key (floor_of state key)
    (covered_restarted IsUpTo up_to_kept state key (floor_of state key) same (omega arith)) in
    omega arith

-- no entry lowers the floor that a release would leave
pub kept_up : (near : ℕ → ℕ → Type 0) (plan : PlanLines) (state : State) (records : List Record) (entry : Entry)
    (key : ℕ) → IsPlan plan
    → KeepsRules state → IsEntry near plan state records entry
    → kept_floor state key ≤ kept_floor (applied state entry.change) key
kept_up near plan state records entry key ok rules is =
    covered_kept IsUpTo up_to_kept (applied state entry.change) key (kept_floor state key)
    (entry_covers IsUpTo up_to_kept near plan state records entry key (kept_floor state key) ok rules is
    (kept_covered state key (kept_floor state key) rules (omega arith)))
