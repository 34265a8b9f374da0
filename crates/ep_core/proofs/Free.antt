-- What no book refuses: its refusals but lack of memory are told, so that nothing told is nothing refused.
use Rattle.std.proofs.Common.{◌≡◌, ℕ, ◌+◌, ◌≤◌, length, Bool, true, false, not, nat_lt, nat_le, List, [], ◌∷◌, ◌++◌}
use Rattle.std.proofs.Common.{Option, Some, None, IsSome, refl, sym, ap, ◌∙◌, arith}
use Rattle.std.specs.Prelude.{⊤, is_some}
use Rattle.std.specs.List.{AllByRecursion}
use Rattle.std.specs.Option.{option_map, option_map_or, option_or}
use Rattle.std.proofs.lemmas.Bool.Decides.{nat_tests}
use Rattle.sdls_base.specs.FirstFailing.{fails_if, first_told}
use Rattle.sdls_base.specs.KeyId.{class_of, end_of}
use Rattle.sdls_base.specs.Suite.{class_of_suite}
use Rattle.sdls_base.specs.declared.TheConstants.{MOST_KEYS, MOST_ASSOCIATIONS}
use Rattle.sdls_base.specs.declared.entry.NewSa.{NewSa}
use Rattle.sdls_base.specs.declared.key_id.KeyItem.{KeyItem}
use Rattle.sdls_base.specs.declared.states.Direction.{Direction}
use Rattle.sdls_base.specs.declared.states.Direction.TheVariants.{Send, Receive}
use Rattle.sdls_base.specs.declared.states.KeyState.{KeyState}
use Rattle.sdls_base.specs.declared.states.KeyState.TheVariants.{PreActive, Active, Deactivated, Destroyed}
use Rattle.sdls_base.specs.declared.states.SaState.{SaState}
use Rattle.sdls_base.specs.declared.states.SaState.TheVariants.{Unkeyed, Keyed, Operational}
use Rattle.key_book.specs.declared.refusals.KeyRefusal.{KeyRefusal}
use Rattle.key_book.specs.declared.refusals.KeyRefusal.TheVariants as key_book
use Rattle.key_book.specs.declared.key_row.KeyRow.{KeyRow}
use Rattle.key_book.specs.KeyRow.{new_row}
use Rattle.key_book.specs.KeyRefusal.{row_with, key_refusal, items_refusal, load_refusal}
use Rattle.key_book.specs.KeyBook.{row_of}
use Rattle.key_book.specs.Moves as moves
use Rattle.key_book.specs.Moves.{moved, moves_refusal}
use Rattle.sa_book.specs.declared.refusals.SaRefusal.{SaRefusal}
use Rattle.sa_book.specs.declared.refusals.SaRefusal.TheVariants as sa_book
use Rattle.sa_book.specs.declared.sa_book.SaRow.{SaRow}
use Rattle.sa_book.specs.SaBook.{row_of as found_row}
use Rattle.sa_book.specs.SaRefusal as rows
use Rattle.sa_book.specs.SaRefusal.{on_row, number_refusal, number_refusal_of, create_refusal, rekey_refusal}
use Rattle.sa_book.specs.SaRefusal.{set_number_refusal}
use Rattle.ep_core.specs.Refusals.{from_keys, from_associations}
use Rattle.ep_core.proofs.Checks.{one_told}

-- ---- keys

abbrev pub IsTold : Option KeyRefusal → Type 0
IsTold None = ⊤
IsTold (Some (key_book.AlreadyLoaded key)) = ⊤
IsTold (Some (key_book.DuplicateKey key)) = ⊤
IsTold (Some key_book.BookFull) = ⊤
IsTold (Some (key_book.WrongState state)) = ⊤
IsTold (Some (key_book.KeyInUse spi)) = ⊤
IsTold (Some (key_book.UnknownKey key)) = ⊤
IsTold (Some key_book.NoMemory) = ⊥

told_or : (a b : Option KeyRefusal) → IsTold a → IsTold b → IsTold (option_or a b)
told_or None b first second = second
told_or (Some refusal) b first second = first

told_if : (b : Bool) (refusal : KeyRefusal) → IsTold (Some refusal) → IsTold (fails_if b refusal)
told_if true refusal told = told
told_if false refusal told = tt

told_digest : (row : Option KeyRow) → IsTold (option_map (λ row. key_book.DuplicateKey row.id) row)
told_digest None = tt
told_digest (Some row) = tt

told_key : (keys : List KeyRow) (id : ℕ) (digest : List ℕ) → IsTold (key_refusal keys id digest)
told_key keys id digest =
    told_or (fails_if (is_some (row_of keys id)) (key_book.AlreadyLoaded id))
    (option_map (λ (row : KeyRow). key_book.DuplicateKey row.id) (row_with keys digest))
    (told_if (is_some (row_of keys id)) (key_book.AlreadyLoaded id) tt) (told_digest (row_with keys digest))

told_items : (keys : List KeyRow) (items : List KeyItem) → IsTold (items_refusal keys items)
told_items keys [] = tt
told_items keys (item ∷ items) =
    told_or _ (items_refusal (keys ++ new_row item ∷ []) items) (told_key keys item.id _)
    (told_items (keys ++ new_row item ∷ []) items)

pub told_load : (keys : List KeyRow) (items : List KeyItem) → IsTold (load_refusal keys items)
told_load keys items =
    let full = nat_lt MOST_KEYS (length keys + length items) in
    told_or (items_refusal keys items) (fails_if full key_book.BookFull) (told_items keys items)
    (told_if full key_book.BookFull tt)

told_use : (to : KeyState) (holder : Option ℕ) → IsTold (moves.in_use_refusal to holder)
told_use PreActive holder = tt
told_use Active holder = tt
told_use Deactivated None = tt
told_use Deactivated (Some spi) = tt
told_use Destroyed holder = tt

told_move : (row : Option KeyRow) (id : ℕ) (to : KeyState) (holder : Option ℕ)
    → IsTold (option_map_or (λ (row : KeyRow). moves.state_refusal row.state to holder) row
    (Some (key_book.UnknownKey id)))
told_move None id to holder = tt
told_move (Some row) id to holder =
    let other = not (moves.is_next row.state to) in
    told_or (fails_if other (key_book.WrongState row.state)) (moves.in_use_refusal to holder)
    (told_if other (key_book.WrongState row.state) tt) (told_use to holder)

pub told_moves : (keys : List KeyRow) (ids : List ℕ) (to : KeyState) (held : List (ℕ × ℕ))
    → IsTold (moves_refusal keys ids to held)
told_moves keys [] to held = tt
told_moves keys (id ∷ ids) to held =
    told_or (moves.move_refusal keys id to held) (moves_refusal (moved keys (id ∷ []) to) ids to held)
    (told_move (row_of keys id) id to (moves.lowest_holder held id)) (told_moves (moved keys (id ∷ []) to) ids to held)

pub keys_free : (refusal : Option KeyRefusal) → IsTold refusal → from_keys refusal ≡ None → refusal ≡ None
keys_free None told none = refl
keys_free (Some (key_book.AlreadyLoaded key)) told none = absurd cc
keys_free (Some (key_book.DuplicateKey key)) told none = absurd cc
keys_free (Some key_book.BookFull) told none = absurd cc
keys_free (Some (key_book.WrongState state)) told none = absurd cc
keys_free (Some (key_book.KeyInUse spi)) told none = absurd cc
keys_free (Some (key_book.UnknownKey key)) told none = absurd cc
keys_free (Some key_book.NoMemory) told none = absurd told

-- ---- associations; a wrong suite is told of a key that was named

abbrev pub Tells : Option ℕ → Option SaRefusal → Type 0
Tells key None = ⊤
Tells key (Some sa_book.UnknownSpi) = ⊤
Tells key (Some sa_book.SpiTaken) = ⊤
Tells key (Some (sa_book.WrongState state)) = ⊤
Tells key (Some (sa_book.ChannelTaken other)) = ⊤
Tells key (Some (sa_book.KeyNotActive state)) = ⊤
Tells key (Some (sa_book.BelowFloor least)) = ⊤
Tells key (Some sa_book.TableFull) = ⊤
Tells key (Some sa_book.WrongSuite) = IsSome key
Tells key (Some (sa_book.PastEnd end)) = ⊤
Tells key (Some (sa_book.UnknownChannel channel)) = ⊤
Tells key (Some (sa_book.KeyTaken other)) = ⊤
Tells key (Some sa_book.NoMemory) = ⊥

pub associations_free : (spi : ℕ) (key : Option ℕ) (refusal : Option SaRefusal) → Tells key refusal
    → from_associations spi key refusal ≡ None → refusal ≡ None
associations_free spi key None tells none = refl
associations_free spi key (Some sa_book.UnknownSpi) tells none = absurd cc
associations_free spi key (Some sa_book.SpiTaken) tells none = absurd cc
associations_free spi key (Some (sa_book.WrongState state)) tells none = absurd cc
associations_free spi key (Some (sa_book.ChannelTaken other)) tells none = absurd cc
associations_free spi key (Some (sa_book.KeyNotActive state)) tells none = absurd cc
associations_free spi key (Some (sa_book.BelowFloor least)) tells none = absurd cc
associations_free spi key (Some sa_book.TableFull) tells none = absurd cc
associations_free spi None (Some sa_book.WrongSuite) tells none = absurd cc
associations_free spi (Some key) (Some sa_book.WrongSuite) tells none = absurd cc
associations_free spi key (Some (sa_book.PastEnd end)) tells none = absurd cc
associations_free spi key (Some (sa_book.UnknownChannel channel)) tells none = absurd cc
associations_free spi key (Some (sa_book.KeyTaken other)) tells none = absurd cc
associations_free spi key (Some sa_book.NoMemory) tells none = absurd tells

tells_first : (key : Option ℕ) (checks : List (Option SaRefusal)) → AllByRecursion (Tells key) checks
    → Tells key (first_told checks)
tells_first key [] each = tt
tells_first key (None ∷ checks) each = tells_first key checks each.1
tells_first key (Some refusal ∷ checks) each = each.0

tells_if : (key : Option ℕ) (b : Bool) (refusal : SaRefusal) → Tells key (Some refusal) → Tells key (fails_if b refusal)
tells_if key true refusal tells = tells
tells_if key false refusal tells = tt

tells_row : (key : Option ℕ) (row : Option SaRow) (f : SaRow → Option SaRefusal) → ((row : SaRow) → Tells key (f row))
    → Tells key (on_row row f)
tells_row key None f each = tt
tells_row key (Some row) f each = each row

tells_map : {X : Type 0} (key : Option ℕ) (f : X → SaRefusal) (x : Option X) → ((x : X) → Tells key (Some (f x)))
    → Tells key (option_map f x)
tells_map key f None each = tt
tells_map key f (Some x) each = each x

tells_unkeyed : (key : Option ℕ) (state : SaState) → Tells key (rows.unless_unkeyed state)
tells_unkeyed key Unkeyed = tt
tells_unkeyed key Keyed = tt
tells_unkeyed key Operational = tt

tells_keyed : (key : Option ℕ) (state : SaState) → Tells key (rows.unless_keyed state)
tells_keyed key Unkeyed = tt
tells_keyed key Keyed = tt
tells_keyed key Operational = tt

tells_operational : (key : Option ℕ) (state : SaState) → Tells key (rows.unless_operational state)
tells_operational key Unkeyed = tt
tells_operational key Keyed = tt
tells_operational key Operational = tt

tells_some_key : (key : Option ℕ) (state : SaState) → Tells key (rows.if_unkeyed state)
tells_some_key key Unkeyed = tt
tells_some_key key Keyed = tt
tells_some_key key Operational = tt

tells_active : (key : Option ℕ) (state : KeyState) → Tells key (rows.unless_active state)
tells_active key PreActive = tt
tells_active key Active = tt
tells_active key Deactivated = tt
tells_active key Destroyed = tt

tells_taken : (key : Option ℕ) (direction : Direction) (holder : Option SaRow)
    → Tells key (rows.taken_key direction holder)
tells_taken key Send holder = tt
tells_taken key Receive holder = tells_map key (λ (other : SaRow). sa_book.KeyTaken other.spi) holder (λ _. tt)

tells_number : (key : Option ℕ) (held number floor : ℕ) → Tells key (number_refusal held number floor)
tells_number key held number floor =
    let past = fails_if (nat_le (end_of held) number) (sa_book.PastEnd (end_of held)) in
    let below = fails_if (nat_lt number floor) (sa_book.BelowFloor floor) in
    tells_first key (past ∷ below ∷ []) (
      tells_if key _ (sa_book.PastEnd (end_of held)) tt,
      (tells_if key _ (sa_book.BelowFloor floor) tt, tt),
    )

tells_number_of : (key held : Option ℕ) (number floor : ℕ) → Tells key (number_refusal_of held number floor)
tells_number_of key None number floor = tt
tells_number_of key (Some held) number floor = tells_number key held number floor

pub tells_free : (key : Option ℕ) (row : Option SaRow) → Tells key (on_row row (λ row. rows.unless_unkeyed row.state))
tells_free key row = tells_row key row (λ row. rows.unless_unkeyed row.state) (λ row. tells_unkeyed key row.state)

pub tells_create : (associations : List SaRow) (new : NewSa) (known : List ℕ)
    → Tells None (create_refusal associations new known)
tells_create associations new known =
    let unknown = rows.first_unknown new.channels known in
    let taken = is_some (found_row associations new.spi) in
    let full = nat_le MOST_ASSOCIATIONS (length associations) in
    tells_first None (fails_if taken sa_book.SpiTaken ∷ option_map sa_book.UnknownChannel unknown
    ∷ fails_if full sa_book.TableFull ∷ []) (
      tells_if None taken sa_book.SpiTaken tt,
      (tells_map None sa_book.UnknownChannel unknown (λ _. tt), (tells_if None full sa_book.TableFull tt, tt)),
    )

pub tells_rekey : (associations : List SaRow) (spi key : ℕ) (state : KeyState) (number floor : ℕ)
    → Tells (Some key) (rekey_refusal associations spi key state number floor)
tells_rekey associations spi key state number floor =
    tells_row (Some key) (found_row associations spi) (λ row. rows.key_refusal associations row key state number floor)
    (λ row.
    let other = not (rows.is_same_class (class_of key) (class_of_suite row.suite)) in
    let taken = rows.taken_key row.direction (rows.receiver_with associations key) in
    tells_first (Some key)
    (rows.unless_unkeyed row.state ∷ fails_if other sa_book.WrongSuite ∷ rows.unless_active state ∷ taken
    ∷ number_refusal key number floor ∷ []) (
      tells_unkeyed (Some key) row.state,
      (
        tells_if (Some key) other sa_book.WrongSuite refl,
        (
          tells_active (Some key) state,
          (
            tells_taken (Some key) row.direction (rows.receiver_with associations key),
            (tells_number (Some key) key number floor, tt),
          ),
        ),
      ),
    ))

pub tells_set_number : (associations : List SaRow) (spi number floor : ℕ)
    → Tells None (set_number_refusal associations spi number floor)
tells_set_number associations spi number floor =
    tells_row None (found_row associations spi)
    (λ row. first_told (rows.if_unkeyed row.state ∷ number_refusal_of row.key number floor ∷ []))
    (λ row. tells_first None (rows.if_unkeyed row.state ∷ number_refusal_of row.key number floor ∷ [])
    (tells_some_key None row.state, (tells_number_of None row.key number floor, tt)))

pub tells_start : (associations : List SaRow) (spi : ℕ) → Tells None (rows.start_refusal associations spi)
tells_start associations spi =
    tells_row None (found_row associations spi)
    (λ row. first_told (rows.unless_keyed row.state ∷ rows.taken_channel (rows.rival_of associations row) ∷ []))
    (λ row. tells_first None (rows.unless_keyed row.state ∷ rows.taken_channel (rows.rival_of associations row) ∷ []) (
      tells_keyed None row.state,
      (
        tells_map None (λ (other : SaRow). sa_book.ChannelTaken other.spi) (rows.rival_of associations row) (λ _. tt),
        tt,
      ),
    ))

pub tells_stop : (associations : List SaRow) (spi : ℕ) → Tells None (rows.stop_refusal associations spi)
tells_stop associations spi =
    tells_row None (found_row associations spi) (λ row. rows.unless_operational row.state)
    (λ row. tells_operational None row.state)

pub tells_expire : (associations : List SaRow) (spi : ℕ) → Tells None (rows.expire_refusal associations spi)
tells_expire associations spi =
    tells_row None (found_row associations spi) (λ row. rows.unless_keyed row.state) (λ row. tells_keyed None row.state)

pub tells_window : (associations : List SaRow) (spi : ℕ) → Tells None (rows.set_window_refusal associations spi)
tells_window associations spi = tells_row None (found_row associations spi) (λ row. None) (λ row. tt)

-- ---- a number that is not below some least one is not below a lower one

told_weaker : {A : Type 0} (front : List (Option A)) (x y : Option A) → (x ≡ None → y ≡ None)
    → first_told (front ++ x ∷ []) ≡ None
    → first_told (front ++ y ∷ []) ≡ None
told_weaker [] x y weaker none = one_told y ∙ weaker (sym (one_told x) ∙ none)
told_weaker (None ∷ front) x y weaker none = told_weaker front x y weaker none
told_weaker (Some told ∷ front) x y weaker none = absurd cc

row_weaker : (row : Option SaRow) (f g : SaRow → Option SaRefusal) → ((row : SaRow) → f row ≡ None → g row ≡ None)
    → on_row row f ≡ None
    → on_row row g ≡ None
row_weaker None f g weaker none = absurd cc
row_weaker (Some row) f g weaker none = weaker row none

fails_free : {A : Type 0} (b : Bool) (told : A) → fails_if b told ≡ None → b ≡ false
fails_free true told none = absurd cc
fails_free false told none = refl

below_weaker : (number low high : ℕ) → low ≤ high → fails_if (nat_lt number high) (sa_book.BelowFloor high) ≡ None
    → fails_if (nat_lt number low) (sa_book.BelowFloor low) ≡ None
below_weaker number low high le none =
    let above : nat_lt number high ≡ false = fails_free (nat_lt number high) (sa_book.BelowFloor high) none in
    let test : nat_lt number low ≡ false = grind (arith, nat_tests) in
    ap (λ (b : Bool). fails_if b (sa_book.BelowFloor low)) test

number_weaker : (key number low high : ℕ) → low ≤ high → number_refusal key number high ≡ None
    → number_refusal key number low ≡ None
number_weaker key number low high le none =
    told_weaker (fails_if (nat_le (end_of key) number) (sa_book.PastEnd (end_of key)) ∷ [])
    (fails_if (nat_lt number high) (sa_book.BelowFloor high)) (fails_if (nat_lt number low) (sa_book.BelowFloor low))
    (below_weaker number low high le) none

number_of_weaker : (key : Option ℕ) (number low high : ℕ) → low ≤ high → number_refusal_of key number high ≡ None
    → number_refusal_of key number low ≡ None
number_of_weaker None number low high le none = refl
number_of_weaker (Some key) number low high le none = number_weaker key number low high le none

pub rekey_weaker : (associations : List SaRow) (spi key : ℕ) (state : KeyState) (number low high : ℕ) → low ≤ high
    → rekey_refusal associations spi key state number high ≡ None → rekey_refusal associations spi key state number low
    ≡ None
rekey_weaker associations spi key state number low high le none =
    row_weaker (found_row associations spi) (λ row. rows.key_refusal associations row key state number high)
    (λ row. rows.key_refusal associations row key state number low)
    (λ row free. told_weaker
    (rows.unless_unkeyed row.state
    ∷ fails_if (not (rows.is_same_class (class_of key) (class_of_suite row.suite))) sa_book.WrongSuite
    ∷ rows.unless_active state
    ∷ rows.taken_key row.direction (rows.receiver_with associations key)
    ∷ []) (number_refusal key number high) (number_refusal key number low) (number_weaker key number low high le) free)
    none

pub set_number_weaker : (associations : List SaRow) (spi number low high : ℕ) → low ≤ high
    → set_number_refusal associations spi number high ≡ None → set_number_refusal associations spi number low ≡ None
set_number_weaker associations spi number low high le none =
    row_weaker (found_row associations spi)
    (λ row. first_told (rows.if_unkeyed row.state ∷ number_refusal_of row.key number high ∷ []))
    (λ row. first_told (rows.if_unkeyed row.state ∷ number_refusal_of row.key number low ∷ []))
    (λ row free. told_weaker (rows.if_unkeyed row.state ∷ []) (number_refusal_of row.key number high)
    (number_refusal_of row.key number low)
    (number_of_weaker row.key number low high le) free) none
