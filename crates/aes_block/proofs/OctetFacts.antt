-- Functions of one octet are equal where they agree on all 256, by computation.
use Rattle.std.proofs.Common.{◌≡◌, ℕ, ◌+◌, ◌<◌, List, map, slice_index, refl, sym, ap, ◌∙◌, arith}
use Rattle.std.specs.List.{range_with_len}
use Rattle.std.proofs.lemmas.List.FromFn.{get_or-map-range_with_len}
use Rattle.aes_block.specs.Aes.{times_low, octet_product, inverse}

-- a list of the values at 0 to n - 1 has the value at x in place x
pub value_at : (f : ℕ → ℕ) (n x : ℕ) (values : List ℕ) → values ≡ map f (range_with_len 0 n) → x < n
    → slice_index values x ≡ f x
value_at f n x values same lt =
    ap (λ (v : List ℕ). slice_index v x) same ∙ get_or-map-range_with_len f 0 n x x 0 lt (omega arith)

-- two functions with one list of values below n agree there
pub same_at : (f g : ℕ → ℕ) (n x : ℕ) → map f (range_with_len 0 n) ≡ map g (range_with_len 0 n) → x < n → f x ≡ g x
same_at f g n x same lt =
    sym (value_at f n x (map f (range_with_len 0 n)) refl lt) ∙ value_at g n x (map f (range_with_len 0 n)) same lt

pub times_inverse : (x : ℕ) → x < 255 → octet_product (x + 1) (inverse (x + 1)) ≡ 1
unfolding times_low inverse
times_inverse x lt = same_at (λ x. octet_product (x + 1) (inverse (x + 1))) (λ x. 1) 255 x refl lt
