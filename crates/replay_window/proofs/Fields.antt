-- A window field and its two parts.
use Rattle.std.proofs.Common.{◌≡◌, ℕ, ◌+◌, ◌*◌, ◌/◌, ◌%◌, ◌^◌, ◌<◌, ◌≤◌, sym, ap, ◌∙◌, subst, arith}
use Rattle.std.proofs.lemmas.Nat.{shr_split, div-mul-add, mod-mul-add}
use Rattle.std.proofs.Math.Nat.{mod-eq_of_lt, div-eq_of_lt}
use Rattle.sdls_base.specs.Bounds.{IsWidth}
use Rattle.replay_window.specs.declared.TheConstants.{MOST_BACK}
use Rattle.replay_window.specs.declared.window.Window.{Window}
use Rattle.replay_window.specs.Window.{begun_at, new_window, field_of}
use Rattle.replay_window.specs.WindowField.{back_of, width_of, window_field, IsWindowField}

pub back_of-field : (back width : ℕ) → width < 2 ^ 56 → back_of (window_field back width) ≡ back
back_of-field back width low = div-mul-add back (2 ^ 56) width low

pub width_of-field : (back width : ℕ) → width < 2 ^ 56 → width_of (window_field back width) ≡ width
width_of-field back width low = mod-mul-add back (2 ^ 56) width low

pub window_field-parts : (field : ℕ) → window_field (back_of field) (width_of field) ≡ field
window_field-parts field = shr_split field 56

pub IsWindowField-field : (back width : ℕ) → back ≤ MOST_BACK → IsWidth width → IsWindowField (window_field back width)
IsWindowField-field back width low bounds =
    let small : width < 2 ^ 56 = omega (arith, bounds.most) in
    record {
      back = subst (λ (n : ℕ). n ≤ MOST_BACK) (sym (back_of-field back width small)) low;
      width = subst IsWidth (sym (width_of-field back width small)) bounds;
    }

-- a field has 64 bits
pub field_small : (field : ℕ) → IsWindowField field → field < 2 ^ 64
field_small field bounds =
    let parts : field / 2 ^ 56 * 2 ^ 56 + field % 2 ^ 56 ≡ field = shr_split field 56 in
    let low : field / 2 ^ 56 ≤ 64 = bounds.back in
    let width : field % 2 ^ 56 ≤ 2 ^ 32 = bounds.width.most in
    omega arith

-- a width alone is a field
pub width_field : (width : ℕ) → IsWidth width → IsWindowField width
width_field width bounds =
    let small : width < 2 ^ 56 = omega (arith, bounds.most) in
    record {
      back = subst (λ (n : ℕ). n ≤ MOST_BACK) (sym (div-eq_of_lt small)) (omega arith);
      width = subst IsWidth (sym (mod-eq_of_lt small)) bounds;
    }

pub width_field-back : (width : ℕ) → IsWidth width → back_of width ≡ 0
width_field-back width bounds = div-eq_of_lt (omega (arith, bounds.most))

pub width_field-width : (width : ℕ) → IsWidth width → width_of width ≡ width
width_field-width width bounds = mod-eq_of_lt (omega (arith, bounds.most))

-- the window that begins at a number with the field of another
pub new_window-field : (high : ℕ) (window : Window) → window.width < 2 ^ 56
    → new_window high (field_of window) ≡ begun_at high window
new_window-field high window low =
    ap (λ (n : ℕ). record (begun_at high window) { width = n; back = back_of (field_of window) })
    (width_of-field window.back window.width low)
    ∙ ap (λ (n : ℕ). record (begun_at high window) { back = n }) (back_of-field window.back window.width low)

pub field_of-new_window : (high field : ℕ) → field_of (new_window high field) ≡ field
field_of-new_window high field = window_field-parts field
