-- What the rules keep where windows begin anew.
use Rattle.std.proofs.Common.{◌≡◌, ℕ, ◌≤◌, Bool, true, false, cond, nat_lt, List, [], ◌∷◌, map, get_or, Option, Some}
use Rattle.std.proofs.Common.{None, sym, refl, ap, ◌∙◌, subst, arith}
use Rattle.std.proofs.lemmas.Bool.{ltb-true}
use Rattle.std.proofs.lemmas.List.{length-map}
use Rattle.std.proofs.lemmas.List.Elements.{All-map}
use Rattle.sdls_base.specs.Bounds.{IsWidth}
use Rattle.sdls_base.specs.declared.TheConstants.{MOST_ASSOCIATIONS}
use Rattle.sdls_base.specs.declared.states.Direction.{Direction}
use Rattle.sdls_base.specs.declared.states.Direction.TheVariants.{Send, Receive}
use Rattle.replay_window.specs.declared.TheConstants.{MOST_BACK}
use Rattle.replay_window.specs.declared.window.Window.{Window}
use Rattle.replay_window.specs.Window.{begun_at, lowered_to}
use Rattle.sa_book.specs.declared.sa_book.SaRow.{SaRow}
use Rattle.sa_book.specs.SaRow.{IsSaRow, HasHigh}
use Rattle.sa_book.specs.SaBook.{RowsAreApart, IsSaBook}
use Rattle.sa_book.specs.SaRefusal.{receives_with}
use Rattle.sa_book.specs.Numbers.{lowered}
use Rattle.sdls_base.proofs.Searches.{pairs_map}

-- an association may have the window
pub record FitsWindow (row : SaRow) (window : Window) : Type 0 where
  pub high : HasHigh row.direction row.key window.high
  pub width : IsWidth window.width
  pub back : window.back ≤ MOST_BACK

pub IsSaRow-window : (row : SaRow) (window : Window) → IsSaRow row → FitsWindow row window
    → IsSaRow (record row { window = window })
IsSaRow-window row window ok fits =
    record {
      keyless = ok.keyless;
      suite = ok.suite;
      high = fits.high;
      width = fits.width;
      back = fits.back;
      channels = ok.channels;
    }

pub IsSaBook-windows : (rows : List SaRow) (w : SaRow → Window) → IsSaBook rows
    → ((row : SaRow) → IsSaRow row → FitsWindow row (w row))
    → IsSaBook (map (λ (row : SaRow). record row { window = w row }) rows)
IsSaBook-windows rows w ok fits =
    let g : SaRow → SaRow = λ row. record row { window = w row } in
    record {
      most = subst (λ n. n ≤ MOST_ASSOCIATIONS) (sym (length-map rows g)) ok.most;
      each = All-map IsSaRow g rows (λ k d low. IsSaRow-window (get_or rows k d) (w (get_or rows k d)) (ok.each k d low)
          (fits (get_or rows k d) (ok.each k d low)));
      apart = pairs_map RowsAreApart g rows
          (λ a b apart. record { order = apart.order; channels = apart.channels; keys = apart.keys }) ok.apart;
    }

same_window : (b : Bool) (row : SaRow) (window : Window) → cond b (record row { window = window }) row
    ≡ record row { window = cond b window row.window }
same_window true row window = refl
same_window false row window = refl

same_maps : (f g : SaRow → SaRow) (rows : List SaRow) → ((row : SaRow) → f row ≡ g row) → map f rows ≡ map g rows
same_maps f g [] same = refl
same_maps f g (row ∷ rows) same = ap (λ r. r ∷ map f rows) (same row) ∙ ap (λ rs. g row ∷ rs) (same_maps f g rows same)

-- lower numbers

lower_high : (direction : Direction) (key : Option ℕ) (high less : ℕ) → HasHigh direction key high → less ≤ high
    → HasHigh direction key less
lower_high Receive (Some key) high less has most = omega arith
lower_high Receive None high less has most = omega arith
lower_high Send key high less has most = omega arith

-- a window that is lowered to a floor where a test says so
lowered_fits : (row : SaRow) (b : Bool) (floor : ℕ) → IsSaRow row
    → FitsWindow row (cond b (lowered_to floor row.window) row.window)
lowered_fits row false floor ok = record { high = ok.high; width = ok.width; back = ok.back }
lowered_fits row true floor ok = by (nat_lt floor row.window.high) refl
  where
    by : (t : Bool) → nat_lt floor row.window.high ≡ t → FitsWindow row (cond t (begun_at floor row.window) row.window)
    by true above =
        record {
          high = lower_high row.direction row.key row.window.high floor ok.high
              (omega (arith, ltb-true _ _ above));
          width = ok.width;
          back = ok.back;
        }
    by false above = record { high = ok.high; width = ok.width; back = ok.back }

pub IsSaBook-lowered : (rows : List SaRow) (key floor : ℕ) → IsSaBook rows → IsSaBook (lowered rows key floor)
IsSaBook-lowered rows key floor ok =
    subst IsSaBook
    (sym (same_maps _ _ rows (λ row. same_window (receives_with key row) row (lowered_to floor row.window))))
    (IsSaBook-windows rows (λ row. cond (receives_with key row) (lowered_to floor row.window) row.window) ok
    (λ row rules. lowered_fits row (receives_with key row) floor rules))
