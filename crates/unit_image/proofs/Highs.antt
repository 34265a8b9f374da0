-- The windows of a state that a restart leaves as it is: for `read_content`.
use Rattle.std.proofs.Common.{◌≡◌, ℕ, ◌^◌, ◌<◌, arith, List, [], ◌∷◌, Option, Some, None, refl, sym, ap, ◌∙◌, subst}
use Rattle.std.proofs.Common.{All}
use Rattle.std.specs.Prelude.{map, IfSome, IsSomeAnd}
use Rattle.std.specs.Option.{option_map_or}
use Rattle.std.specs.List.{AllByRecursion}
use Rattle.std.proofs.lemmas.List.Elements.{All-from_recursion, recursion_from_All}
use Rattle.sdls_base.specs.declared.states.Direction.{Direction}
use Rattle.sdls_base.specs.declared.states.Direction.TheVariants.{Send, Receive}
use Rattle.book_record.specs.SaParts.{BeginsAt}
use Rattle.key_book.specs.declared.key_row.KeyRow.{KeyRow}
use Rattle.key_book.specs.KeyBook.{row_of}
use Rattle.replay_window.specs.declared.window.Window.{Window}
use Rattle.replay_window.specs.Window.{begun_at, new_window, field_of}
use Rattle.replay_window.proofs.Fields.{new_window-field}
use Rattle.sa_book.specs.declared.sa_book.SaRow.{SaRow}
use Rattle.sa_book.specs.SaRow.{HasHigh, IsSaRow}
use Rattle.unit_state.specs.State.{MayHold, HasKey}
use Rattle.unit_state.specs.Restart.{restarted_high, restarted_row}

-- the window begins at the number that a restart sets
abbrev pub IsLow : List KeyRow → SaRow → Type 0
IsLow keys row = BeginsAt (restarted_high keys row.direction row.key 0) row

-- ---- such a row is left as it is

low_is_left : (keys : List KeyRow) (direction : Direction) (key : Option ℕ) (high : ℕ)
    → high ≡ restarted_high keys direction key 0
    → restarted_high keys direction key high ≡ high
low_is_left keys Receive (Some key) high low = held (row_of keys key) low where
  held : (row : Option KeyRow) → high ≡ option_map_or (λ (row : KeyRow). row.floor) row 0
      → option_map_or (λ (row : KeyRow). row.floor) row high ≡ high
  held (Some row) low = sym low
  held None low = refl
low_is_left keys Receive None high low = refl
low_is_left keys Send key high low = refl

begun_same : (window : Window) (high field : ℕ) → window ≡ new_window high field → begun_at window.high window ≡ window
begun_same window high field new = subst (λ (w : Window). begun_at w.high w ≡ w) (sym new) refl

row_left : (keys : List KeyRow) (row : SaRow) → IsLow keys row → restarted_row keys row ≡ row
row_left keys row low =
    ap (λ (high : ℕ). record row { window = begun_at high row.window })
    (low_is_left keys row.direction row.key row.window.high (ap (λ (window : Window). window.high) low))
    ∙ ap (λ (window : Window). record row { window = window })
    (begun_same row.window (restarted_high keys row.direction row.key 0) (field_of row.window) low)

rows_left_each : (keys : List KeyRow) (rows : List SaRow) → AllByRecursion (IsLow keys) rows
    → map (restarted_row keys) rows ≡ rows
rows_left_each keys [] all = refl
rows_left_each keys (row ∷ rows) all =
    let first = row_left keys row all.0 in
    let others = rows_left_each keys rows all.1 in
    λ i. first i ∷ others i

pub rows_left : (keys : List KeyRow) (rows : List SaRow) → All (IsLow keys) rows → map (restarted_row keys) rows ≡ rows
rows_left keys rows all = rows_left_each keys rows (recursion_from_All (IsLow keys) rows all)

-- ---- a row that is left as it is, is such a row

left_is_low : (keys : List KeyRow) (direction : Direction) (key : Option ℕ) (high : ℕ) → HasHigh direction key high
    → restarted_high keys direction key high ≡ high
    → ((id : ℕ) → key ≡ Some id → (row : KeyRow) × (row_of keys id ≡ Some row))
    → high ≡ restarted_high keys direction key 0
left_is_low keys Receive (Some key) high has left held =
    let row = held key refl in
    sym left ∙ ap (λ (o : Option KeyRow). option_map_or (λ (row : KeyRow). row.floor) o high) row.1
    ∙ ap (λ (o : Option KeyRow). option_map_or (λ (row : KeyRow). row.floor) o 0) (sym row.1)
left_is_low keys Receive None high has left held = has
left_is_low keys Send key high has left held = has

-- the key that is held has a row
some_row : (row : Option KeyRow) (P : KeyRow → Type 0) → IsSomeAnd row P → (held : KeyRow) × (row ≡ Some held)
some_row (Some held) P is = (held, refl)
some_row None P is = absurd is

held_row : (keys : List KeyRow) (row : SaRow) (key : Option ℕ) → row.key ≡ key → HasKey keys row → (id : ℕ)
    → key ≡ Some id → (held : KeyRow) × (row_of keys id ≡ Some held)
held_row keys row key is holds id same = some_row (row_of keys id) (MayHold row)
    (subst (λ (o : Option ℕ). IfSome o (λ key. IsSomeAnd (row_of keys key) (MayHold row))) (is ∙ same) holds)

pub row_low : (keys : List KeyRow) (row : SaRow) → IsSaRow row → HasKey keys row → restarted_row keys row ≡ row
    → IsLow keys row
row_low keys row rules holds left =
    let small : row.window.width < 2 ^ 56 = omega (arith, rules.width.most) in
    let stays : restarted_high keys row.direction row.key row.window.high ≡ row.window.high =
    ap (λ (row : SaRow). row.window.high) left in
    let low = left_is_low keys row.direction row.key row.window.high rules.high stays
    (held_row keys row row.key refl holds) in
    sym (ap (λ (row : SaRow). row.window) left) ∙ ap (λ (high : ℕ). begun_at high row.window) (stays ∙ low)
    ∙ sym (new_window-field (restarted_high keys row.direction row.key 0) row.window small)

rows_low_each : (keys : List KeyRow) (rows : List SaRow) → AllByRecursion IsSaRow rows
    → AllByRecursion (HasKey keys) rows → map (restarted_row keys) rows ≡ rows
    → AllByRecursion (IsLow keys) rows
rows_low_each keys [] rules holds left = tt
rows_low_each keys (row ∷ rows) rules holds left =
    (row_low keys row rules.0 holds.0 cc, rows_low_each keys rows rules.1 holds.1 cc)

pub rows_low : (keys : List KeyRow) (rows : List SaRow) → All IsSaRow rows → All (HasKey keys) rows
    → map (restarted_row keys) rows ≡ rows → All (IsLow keys) rows
rows_low keys rows rules holds left =
    All-from_recursion (IsLow keys) rows
    (rows_low_each keys rows (recursion_from_All IsSaRow rows rules) (recursion_from_All (HasKey keys) rows holds) left)
