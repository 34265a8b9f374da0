-- What changes leave of the keys that associations hold.
use Rattle.std.proofs.Common.{◌≡◌, ℕ, ◌<◌, ◌≤◌, Bool, true, false, cond, nat_eq, List, ◌++◌, length, get_or, map}
use Rattle.std.proofs.Common.{Option, Some, None, IsSomeAnd, sym, refl, ap, ◌∙◌, subst, arith}
use Rattle.std.specs.Prelude.{IfSome}
use Rattle.std.specs.List.{All}
use Rattle.std.specs.Option.{option_map, option_map_or, option_or}
use Rattle.std.proofs.lemmas.List.Elements.{All-map}
use Rattle.std.proofs.lemmas.List.Folds.{find-append}
use Rattle.sdls_base.proofs.Searches.{find-map}
use Rattle.sdls_base.specs.declared.states.Direction.{Direction}
use Rattle.sdls_base.specs.declared.states.Direction.TheVariants.{Send, Receive}
use Rattle.key_book.specs.declared.key_row.KeyRow.{KeyRow}
use Rattle.key_book.specs.KeyBook as key_rows
use Rattle.replay_window.specs.Window.{begun_at}
use Rattle.sa_book.specs.declared.sa_book.SaRow.{SaRow}
use Rattle.sa_book.specs.SaBook as association_rows
use Rattle.unit_state.specs.State.{MayHold, HasKey}
use Rattle.unit_state.specs.Restart.{restarted_high, restarted_row}

-- Keys of which those that may be held may still be held: their floors do not fall, and their states stay.
pub record StaysHeld (old new : KeyRow) : Type 0 where
  pub state : new.state ≡ old.state
  pub floor : old.floor ≤ new.floor

-- each key that is there is there again, and stays held
abbrev pub Grow : List KeyRow → List KeyRow → Type 0
Grow old new = (key : ℕ) (held : KeyRow) → key_rows.row_of old key ≡ Some held
    → IsSomeAnd (key_rows.row_of new key) (StaysHeld held)

may_still : (row : SaRow) (old new : KeyRow) → MayHold row old → StaysHeld old new → MayHold row new
may_still row old new holds stays =
    record { active = stays.state ∙ holds.active; floor = omega (arith, holds.floor, stays.floor) }

still_some : (row : SaRow) (old : KeyRow) (o : Option KeyRow) → MayHold row old → IsSomeAnd o (StaysHeld old)
    → IsSomeAnd o (MayHold row)
still_some row old None holds stays = stays
still_some row old (Some new) holds stays = may_still row old new holds stays

some_still : (row : SaRow) (o p : Option KeyRow) → IsSomeAnd o (MayHold row)
    → ((held : KeyRow) → o ≡ Some held → IsSomeAnd p (StaysHeld held)) → IsSomeAnd p (MayHold row)
some_still row None p holds grow = absurd holds
some_still row (Some held) p holds grow = still_some row held p holds (grow held refl)

key_still : (row : SaRow) (own : Option ℕ) (old new : List KeyRow) → Grow old new
    → IfSome own (λ key. IsSomeAnd (key_rows.row_of old key) (MayHold row))
    → IfSome own (λ key. IsSomeAnd (key_rows.row_of new key) (MayHold row))
key_still row None old new grow has = has
key_still row (Some key) old new grow has =
    some_still row (key_rows.row_of old key) (key_rows.row_of new key) has (grow key)

-- an association that holds one of the keys holds it still
pub has_still : (old new : List KeyRow) (row : SaRow) → Grow old new → HasKey old row → HasKey new row
has_still old new row grow has = key_still row row.key old new grow has

pub all_still : (old new : List KeyRow) (rows : List SaRow) → Grow old new → All (HasKey old) rows
    → All (HasKey new) rows
all_still old new rows grow has = λ k d low. has_still old new (get_or rows k d) grow (has k d low)

pub grow_same : (keys : List KeyRow) → Grow keys keys
grow_same keys key held e =
    subst (λ o. IsSomeAnd o (StaysHeld held)) (sym e) (record { state = refl; floor = omega arith })

-- further keys
or_some : (o p : Option KeyRow) (held : KeyRow) → o ≡ Some held → option_or o p ≡ Some held
or_some None p held e = absurd (cc)
or_some (Some row) p held e = e

pub grow_loaded : (keys more : List KeyRow) → Grow keys (keys ++ more)
grow_loaded keys more key held e =
    subst (λ o. IsSomeAnd o (StaysHeld held)) (sym (find-append _ keys more ∙ or_some _ _ held e))
    (record { state = refl; floor = omega arith })

-- one key changed
changed_row : (f : KeyRow → KeyRow) (b : Bool) (row : KeyRow) → (f row).id ≡ row.id → (cond b (f row) row).id ≡ row.id
changed_row f true row same = same
changed_row f false row same = refl

changed_stays : (f : KeyRow → KeyRow) (b : Bool) (row : KeyRow) → StaysHeld row (f row)
    → StaysHeld row (cond b (f row) row)
changed_stays f true row stays = stays
changed_stays f false row stays = record { state = refl; floor = omega arith }

pub row_of_changed : (keys : List KeyRow) (id key : ℕ) (f : KeyRow → KeyRow) → ((row : KeyRow) → (f row).id ≡ row.id)
    → key_rows.row_of (key_rows.changed keys id f) key
    ≡ option_map (λ (row : KeyRow). cond (nat_eq row.id id) (f row) row) (key_rows.row_of keys key)
row_of_changed keys id key f same =
    find-map (λ (row : KeyRow). nat_eq row.id key) (λ (row : KeyRow). cond (nat_eq row.id id) (f row) row) keys
    (λ row. ap (λ n. nat_eq n key) (changed_row f (nat_eq row.id id) row (same row)))

pub grow_changed : (keys : List KeyRow) (id : ℕ) (f : KeyRow → KeyRow) → ((row : KeyRow) → (f row).id ≡ row.id)
    → ((row : KeyRow) → StaysHeld row (f row)) → Grow keys (key_rows.changed keys id f)
grow_changed keys id f same stays key held e =
    subst (λ o. IsSomeAnd o (StaysHeld held))
    (sym (row_of_changed keys id key f same
    ∙ ap (option_map (λ (row : KeyRow). cond (nat_eq row.id id) (f row) row)) e))
    (changed_stays f (nat_eq held.id id) held (stays held))

-- associations of which one changed

one_has : (keys : List KeyRow) (f : SaRow → SaRow) (b : Bool) (row : SaRow) → HasKey keys row
    → (b ≡ true → HasKey keys (f row)) → HasKey keys (cond b (f row) row)
one_has keys f true row has made = made refl
one_has keys f false row has made = has

pub all_changed : (keys : List KeyRow) (rows : List SaRow) (spi : ℕ) (f : SaRow → SaRow) → All (HasKey keys) rows
    → ((k : ℕ) (d : SaRow) → k < length rows → nat_eq (get_or rows k d).spi spi ≡ true
    → HasKey keys (f (get_or rows k d))) → All (HasKey keys) (association_rows.changed rows spi f)
all_changed keys rows spi f has made =
    All-map (HasKey keys) (λ (row : SaRow). cond (nat_eq row.spi spi) (f row) row) rows
    (λ k d low. one_has keys f (nat_eq (get_or rows k d).spi spi) (get_or rows k d) (has k d low) (made k d low))

-- what a restart leaves
restarted_holds : (keys : List KeyRow) (row : SaRow) (direction : Direction) (own : Option ℕ)
    → IfSome own (λ key. IsSomeAnd (key_rows.row_of keys key) (MayHold row))
    → IfSome own
    (λ key. IsSomeAnd (key_rows.row_of keys key)
    (MayHold (record row { window = begun_at (restarted_high keys direction own row.window.high) row.window })))
restarted_holds keys row direction None has = tt
restarted_holds keys row Send (Some key) has = kept (key_rows.row_of keys key) has
  where
    kept : (o : Option KeyRow) → IsSomeAnd o (MayHold row)
        → IsSomeAnd o (MayHold (record row { window = begun_at row.window.high row.window }))
    kept None holds = absurd holds
    kept (Some held) holds = record { active = holds.active; floor = holds.floor }
restarted_holds keys row Receive (Some key) has = by (key_rows.row_of keys key) has
  where
    by : (o : Option KeyRow) → IsSomeAnd o (MayHold row)
        → IsSomeAnd o
        (MayHold (record row {
          window =
              begun_at (option_map_or (λ (held : KeyRow). held.floor) o row.window.high) row.window;
        }))
    by None holds = absurd holds
    by (Some held) holds = record { active = holds.active; floor = omega arith }

pub all_restarted : (keys : List KeyRow) (rows : List SaRow) → All (HasKey keys) rows
    → All (HasKey keys) (map (restarted_row keys) rows)
all_restarted keys rows has = All-map (HasKey keys) (restarted_row keys) rows
    (λ k d low. restarted_holds keys (get_or rows k d) (get_or rows k d).direction (get_or rows k d).key (has k d low))
