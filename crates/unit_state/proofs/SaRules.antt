-- What changes leave of the rules of associations.
use Rattle.std.proofs.Common.{◌≡◌, ◌≢◌, ℕ, ◌<◌, true, nat_eq, List, length, get_or, set, Option, Some, None, inl, inr}
use Rattle.std.proofs.Common.{⊎_elim, ◌⊎◌, sym, refl, ap, ◌∙◌, subst, arith}
use Rattle.std.proofs.lemmas.Bool.{cases_eq, cases_lt, false≢true}
use Rattle.std.proofs.lemmas.List.Quantifiers.{position-Some}
use Rattle.sdls_base.proofs.Searches.{find_placed, find_nowhere, find_none}
use Rattle.sdls_base.specs.declared.states.KeyState.{KeyState}
use Rattle.sdls_base.specs.declared.states.SaState.{SaState}
use Rattle.sdls_base.specs.declared.states.SaState.TheVariants.{Unkeyed, Keyed, Operational}
use Rattle.replay_window.specs.WindowField.{IsWindowField}
use Rattle.replay_window.specs.Window.{accepted, with_field}
use Rattle.sa_book.specs.declared.sa_book.SaRow.{SaRow}
use Rattle.sa_book.specs.declared.refusals.SaRefusal.{SaRefusal}
use Rattle.sa_book.specs.SaRow.{MayAccept, with_key, without_key, following}
use Rattle.sa_book.specs.SaBook.{IsSaBook, row_of, place_of, changed, without}
use Rattle.sa_book.specs.SaRefusal.{on_row, rekey_refusal, start_refusal, stop_refusal, expire_refusal, delete_refusal}
use Rattle.sa_book.specs.SaRefusal.{set_number_refusal, key_refusal}
use Rattle.sa_book.proofs.Rows.{set-changed, within_place, remove-without, IsSaBook-remove}
use Rattle.sa_book.proofs.Changes.{IsSaBook-rekey, IsSaBook-start, IsSaBook-stop, IsSaBook-expire, IsSaBook-set_number}
use Rattle.sa_book.proofs.Changes.{IsSaBook-set_window, IsSaBook-accept}
use Rattle.unit_state.specs.Applied.{in_state}
use Rattle.unit_state.specs.Allows.{state_refusal}
use Rattle.unit_state.proofs.KeyRules.{stands, equal_number, number_test}

-- an association that no call refuses is there
pub record Judged (rows : List SaRow) (spi : ℕ) (f : SaRow → Option SaRefusal) : Type 0 where
  pub row : SaRow
  pub there : row_of rows spi ≡ Some row
  pub free : f row ≡ None

judged_at : (rows : List SaRow) (spi : ℕ) (f : SaRow → Option SaRefusal) (o : Option SaRow) → row_of rows spi ≡ o
    → on_row o f ≡ None → Judged rows spi f
judged_at rows spi f None e free = absurd (cc)
judged_at rows spi f (Some row) e free = record { row = row; there = e; free = free }

pub judged : (rows : List SaRow) (spi : ℕ) (f : SaRow → Option SaRefusal) → on_row (row_of rows spi) f ≡ None
    → Judged rows spi f
judged rows spi f free = judged_at rows spi f (row_of rows spi) refl free

pub rules_changed : (rows : List SaRow) (spi : ℕ) (f : SaRow → SaRow) (row : SaRow) → IsSaBook rows
    → row_of rows spi ≡ Some row → ((i : ℕ) → i < length rows → row ≡ get_or rows i row → IsSaBook (set rows i (f row)))
    → IsSaBook (changed rows spi f)
rules_changed rows spi f row ok there kept =
    let at = stands (λ (row : SaRow). nat_eq row.spi spi) rows row there in
    subst IsSaBook (set-changed rows spi at.index f row ok at.place at.read)
    (kept at.index (within_place rows spi at.index row at.place) at.read)

pub rules_rekeyed : (rows : List SaRow) (spi key : ℕ) (state : KeyState) (number floor : ℕ) → IsSaBook rows
    → rekey_refusal rows spi key state number floor ≡ None → IsSaBook (changed rows spi (with_key key number))
rules_rekeyed rows spi key state number floor ok free =
    let at = judged rows spi (λ row. key_refusal rows row key state number floor) free in
    rules_changed rows spi (with_key key number) at.row ok at.there
    (λ i low read. IsSaBook-rekey rows i at.row key state number floor ok low read at.free)

pub rules_numbered : (rows : List SaRow) (spi number floor : ℕ) → IsSaBook rows
    → set_number_refusal rows spi number floor ≡ None
    → IsSaBook (changed rows spi (λ row. record row { window = following row.direction number row.window }))
rules_numbered rows spi number floor ok free =
    let at = judged rows spi _ free in
    rules_changed rows spi (λ row. record row { window = following row.direction number row.window }) at.row ok at.there
    (λ i low read. IsSaBook-set_number rows i at.row number floor ok low read at.free)

pub rules_widened : (rows : List SaRow) (spi field : ℕ) (row : SaRow) → IsSaBook rows → IsWindowField field
    → row_of rows spi ≡ Some row
    → IsSaBook (changed rows spi (λ row. record row { window = with_field field row.window }))
rules_widened rows spi field row ok bounds there =
    rules_changed rows spi (λ row. record row { window = with_field field row.window }) row ok there
    (λ i low read. IsSaBook-set_window rows i row field ok low read bounds)

pub rules_accepted : (rows : List SaRow) (spi number : ℕ) (row : SaRow) → IsSaBook rows → row_of rows spi ≡ Some row
    → MayAccept row number → IsSaBook (changed rows spi (λ row. record row { window = accepted number row.window }))
rules_accepted rows spi number row ok there may =
    rules_changed rows spi (λ row. record row { window = accepted number row.window }) row ok there
    (λ i low read. IsSaBook-accept rows i row number ok low read may)

rules_stopped : (rows : List SaRow) (spi : ℕ) → IsSaBook rows → stop_refusal rows spi ≡ None
    → IsSaBook (changed rows spi (λ row. record row { state = Keyed }))
rules_stopped rows spi ok free =
    let at = judged rows spi _ free in
    rules_changed rows spi (λ row. record row { state = Keyed }) at.row ok at.there
    (λ i low read. IsSaBook-stop rows i at.row ok low read at.free)

rules_started : (rows : List SaRow) (spi : ℕ) → IsSaBook rows → start_refusal rows spi ≡ None
    → IsSaBook (changed rows spi (λ row. record row { state = Operational }))
rules_started rows spi ok free =
    let at = judged rows spi _ free in
    rules_changed rows spi (λ row. record row { state = Operational }) at.row ok at.there
    (λ i low read. IsSaBook-start rows i at.row ok low read at.free)

rules_expired : (rows : List SaRow) (spi : ℕ) → IsSaBook rows → expire_refusal rows spi ≡ None
    → IsSaBook (changed rows spi without_key)
rules_expired rows spi ok free =
    let at = judged rows spi _ free in
    rules_changed rows spi without_key at.row ok at.there (λ i low read. IsSaBook-expire rows i at.row ok low read)

rules_deleted : (rows : List SaRow) (spi : ℕ) → IsSaBook rows → delete_refusal rows spi ≡ None
    → IsSaBook (without rows spi)
rules_deleted rows spi ok free =
    let at = judged rows spi _ free in
    let stand = stands (λ (row : SaRow). nat_eq row.spi spi) rows at.row at.there in
    subst IsSaBook (remove-without rows spi stand.index at.row ok stand.place stand.read)
    (IsSaBook-remove rows stand.index ok (within_place rows spi stand.index at.row stand.place))

pub rules_in_state : (rows : List SaRow) (spi : ℕ) (to : Option SaState) → IsSaBook rows
    → state_refusal rows spi to ≡ None → IsSaBook (in_state rows spi to)
rules_in_state rows spi None ok free = rules_deleted rows spi ok free
rules_in_state rows spi (Some Unkeyed) ok free = rules_expired rows spi ok free
rules_in_state rows spi (Some Keyed) ok free = rules_stopped rows spi ok free
rules_in_state rows spi (Some Operational) ok free = rules_started rows spi ok free

-- an association has one row

apart_spi : (rows : List SaRow) (i k : ℕ) (d : SaRow) → IsSaBook rows → i < length rows → k < length rows
    → (get_or rows i d).spi ≡ (get_or rows k d).spi → k ≡ i
apart_spi rows i k d ok at_i at_k same =
    ⊎_elim (λ (here : k ≡ i). here)
    (λ (other : k ≢ i). ⊎_elim
    (λ (less : k < i). let o = (ok.apart k i d less at_i).order in absurd (omega (arith, o, same)))
    (λ (more : i < k). let o = (ok.apart i k d more at_k).order in absurd (omega (arith, o, same)))
    (let sides : (k < i) ⊎ (i < k) = ⊎_elim (λ x. inl x) (λ x. inr (omega arith)) (cases_lt k i) in sides))
    (cases_eq k i)

one_row_at : (rows : List SaRow) (spi k : ℕ) (d : SaRow) (o : Option ℕ) → IsSaBook rows → k < length rows
    → (get_or rows k d).spi ≡ spi → place_of rows spi ≡ o → row_of rows spi ≡ Some (get_or rows k d)
one_row_at rows spi k d None ok low named place =
    absurd (false≢true
    (sym (find_none (λ (row : SaRow). nat_eq row.spi spi) rows
    (find_nowhere (λ (row : SaRow). nat_eq row.spi spi) rows place) k d low) ∙ number_test _ _ named))
one_row_at rows spi k d (Some i) ok low named place =
    let at = position-Some (λ (row : SaRow). nat_eq row.spi spi) rows i d place in
    let same : k ≡ i = apart_spi rows i k d ok at.0 low (equal_number _ _ at.1 ∙ sym named) in
    find_placed (λ (row : SaRow). nat_eq row.spi spi) rows i d place ∙ ap (λ n. Some (get_or rows n d)) (sym same)

pub one_row : (rows : List SaRow) (spi k : ℕ) (d : SaRow) → IsSaBook rows → k < length rows
    → nat_eq (get_or rows k d).spi spi ≡ true → row_of rows spi ≡ Some (get_or rows k d)
one_row rows spi k d ok low named = one_row_at rows spi k d (place_of rows spi) ok low (equal_number _ _ named) refl
