-- Keys that take a state, judged without the list of the associations that hold them.
use Rattle.std.proofs.Common.{◌≡◌, ◌≢◌, ℕ, Bool, true, false, cond, not, ◌||◌, nat_eq, List, [], ◌∷◌, map, Option, Some}
use Rattle.std.proofs.Common.{None, is_some, sym, refl, ap, ◌∙◌}
use Rattle.std.specs.List.{filter, filter_map, list_any}
use Rattle.std.specs.Option.{option_map, option_or, option_map_or}
use Rattle.std.proofs.lemmas.Bool.{false≢true}
use Rattle.sdls_base.specs.FirstFailing.{fails_if}
use Rattle.sdls_base.specs.declared.states.KeyState.{KeyState}
use Rattle.sdls_base.specs.declared.states.KeyState.TheVariants.{PreActive, Active, Deactivated, Destroyed}
use Rattle.key_book.specs.declared.key_row.KeyRow.{KeyRow}
use Rattle.key_book.specs.declared.refusals.KeyRefusal.TheVariants.{WrongState, UnknownKey}
use Rattle.key_book.specs.KeyBook.{row_of}
use Rattle.key_book.specs.Moves.{is_next, least, lowest_holder, in_use_refusal, state_refusal, move_refusal}
use Rattle.key_book.specs.Moves.{moves_refusal, moved}
use Rattle.sa_book.specs.declared.sa_book.SaRow.{SaRow}
use Rattle.sa_book.specs.SaBook.{in_use}
use Rattle.sa_book.specs.SaRefusal.{is_key}

pub or_none : {X : Type 0} (a b : Option X) → option_or a b ≡ None → (a ≡ None) × (b ≡ None)
or_none None b e = (refl, e)
or_none (Some x) b e = absurd (cc)

pub none_or : {X : Type 0} (a b : Option X) → a ≡ None → b ≡ None → option_or a b ≡ None
none_or a b e f = ap (λ o. option_or o b) e ∙ f

-- a state other than the deactivated one: who holds the key does not matter

move_any : (o : Option KeyRow) (id : ℕ) (to : KeyState) (a b : Option ℕ) → in_use_refusal to a ≡ in_use_refusal to b
    → option_map_or (λ (row : KeyRow). state_refusal row.state to a) o (Some (UnknownKey id))
    ≡ option_map_or (λ (row : KeyRow). state_refusal row.state to b) o (Some (UnknownKey id))
move_any None id to a b e = refl
move_any (Some row) id to a b e = ap (option_or (fails_if (not (is_next row.state to)) (WrongState row.state))) e

pub moves_any : (rows : List KeyRow) (ids : List ℕ) (to : KeyState) (U V : List (ℕ × ℕ))
    → ((a b : Option ℕ) → in_use_refusal to a ≡ in_use_refusal to b)
    → moves_refusal rows ids to U ≡ moves_refusal rows ids to V
moves_any rows [] to U V any = refl
moves_any rows (id ∷ ids) to U V any =
    ap (λ o. option_or o (moves_refusal (moved rows (id ∷ []) to) ids to U))
    (move_any (row_of rows id) id to (lowest_holder U id) (lowest_holder V id) (any _ _))
    ∙ ap (option_or (move_refusal rows id to V)) (moves_any (moved rows (id ∷ []) to) ids to U V any)

pub unless_deactivated : (to : KeyState) → to ≢ Deactivated → (a b : Option ℕ)
    → in_use_refusal to a ≡ in_use_refusal to b
unless_deactivated PreActive other a b = refl
unless_deactivated Active other a b = refl
unless_deactivated Destroyed other a b = refl
unless_deactivated Deactivated other a b = absurd (other refl)

-- who holds a key

abbrev pub is_held : List SaRow → ℕ → Bool
is_held rows id = list_any (λ row. is_key id row.key) rows

some_least : (b : Bool) (spi : ℕ) (pairs : List (ℕ × ℕ)) (c : Bool) → is_some (least (map (λ pair. pair.1) pairs)) ≡ c
    → (key : ℕ) → is_some (least (map (λ pair. pair.1) (cond b ((key, spi) ∷ pairs) pairs))) ≡ (b || c)
some_least true spi pairs c e key = refl
some_least false spi pairs c e key = e

pub holder_found : (rows : List SaRow) (id : ℕ) → is_some (lowest_holder (in_use rows) id) ≡ is_held rows id
holder_found [] id = refl
holder_found (row ∷ rows) id = by row.key (holder_found rows id)
  where
    by : (key : Option ℕ) → is_some (lowest_holder (in_use rows) id) ≡ is_held rows id
        → is_some
        (lowest_holder (filter_map (λ (r : SaRow). option_map (λ k. (k, r.spi)) r.key)
        ((record row { key = key }) ∷ rows)) id) ≡ (is_key id key || is_held rows id)
    by None e = e
    by (Some key) e = some_least (nat_eq key id) row.spi (filter (λ (pair : ℕ × ℕ). nat_eq pair.0 id) (in_use rows))
        (is_held rows id) e key

none_found : {X : Type 0} (o : Option X) → is_some o ≡ false → o ≡ None
none_found None e = refl
none_found (Some x) e = absurd (false≢true (sym e))

-- the deactivated state

holder_none : (holder : Option ℕ) → in_use_refusal Deactivated holder ≡ None → holder ≡ None
holder_none None e = refl
holder_none (Some spi) e = absurd (cc)

move_to : (o : Option KeyRow) (id : ℕ) (holder : Option ℕ)
    → option_map_or (λ (row : KeyRow). state_refusal row.state Deactivated holder) o (Some (UnknownKey id)) ≡ None
    → (option_map_or (λ (row : KeyRow). state_refusal row.state Deactivated None) o (Some (UnknownKey id)) ≡ None)
    × (holder ≡ None)
move_to None id holder e = absurd (cc)
move_to (Some row) id holder e =
    let parts = or_none _ _ e in
    (none_or _ _ parts.0 refl, holder_none holder parts.1)

move_from : (o : Option KeyRow) (id : ℕ) (holder : Option ℕ)
    → option_map_or (λ (row : KeyRow). state_refusal row.state Deactivated None) o (Some (UnknownKey id)) ≡ None
    → holder ≡ None → option_map_or (λ (row : KeyRow). state_refusal row.state Deactivated holder) o
    (Some (UnknownKey id)) ≡ None
move_from o id holder e none =
    ap (λ (h : Option ℕ). option_map_or (λ (row : KeyRow). state_refusal row.state Deactivated h) o
    (Some (UnknownKey id))) none ∙ e

or_false : (a b : Bool) → a ≡ false → b ≡ false → (a || b) ≡ false
or_false false b e f = f
or_false true b e f = absurd (false≢true (sym e))

both_false : (a b : Bool) → (a || b) ≡ false → (a ≡ false) × (b ≡ false)
both_false false b e = (refl, e)
both_false true b e = absurd (false≢true (sym e))

pub moves_to : (rows : List KeyRow) (ids : List ℕ) (associations : List SaRow)
    → moves_refusal rows ids Deactivated (in_use associations) ≡ None → (moves_refusal rows ids Deactivated [] ≡ None)
    × (list_any (is_held associations) ids ≡ false)
moves_to rows [] associations e = (refl, refl)
moves_to rows (id ∷ ids) associations e =
    let parts = or_none _ _ e in
    let here = move_to (row_of rows id) id (lowest_holder (in_use associations) id) parts.0 in
    let rest = moves_to (moved rows (id ∷ []) Deactivated) ids associations parts.1 in (
      none_or _ _ here.0 rest.0,
      or_false _ _ (sym (holder_found associations id) ∙ ap is_some here.1) rest.1,
    )

pub moves_from : (rows : List KeyRow) (ids : List ℕ) (associations : List SaRow)
    → moves_refusal rows ids Deactivated [] ≡ None → list_any (is_held associations) ids ≡ false
    → moves_refusal rows ids Deactivated (in_use associations) ≡ None
moves_from rows [] associations e free = refl
moves_from rows (id ∷ ids) associations e free =
    let parts = or_none _ _ e in
    let ways = both_false _ _ free in
    none_or _ _
    (move_from (row_of rows id) id _ parts.0 (none_found _ (holder_found associations id ∙ ways.0)))
    (moves_from (moved rows (id ∷ []) Deactivated) ids associations parts.1 ways.1)
