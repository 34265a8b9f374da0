-- Parts that are the same, field by field, and the octets of a primary header.
use Rattle.std.proofs.Common.{◌≡◌, ℕ, ◌+◌, ◌*◌, ◌/◌, ◌%◌, ◌^◌, ◌<◌, List, [], ◌∷◌, refl, arith, ◌∙◌, ap}
use Rattle.std.specs.Prelude.{bit_or, Option, Some, None, is_some}
use Rattle.std.specs.Option.{option_map}
use Rattle.std.proofs.lemmas.Nat.{or_shifted}
use Rattle.sdls_base.specs.Fields.{bit, packed}
use Rattle.sdls_base.proofs.FieldLemmas.{cells_six, bit_small}
use Rattle.tm_frame.specs.TmFrame.{TmParts, primary_header}

pub same_parts : {p q : TmParts} → p.spacecraft ≡ q.spacecraft → p.channel ≡ q.channel → p.master_count ≡ q.master_count
    → p.channel_count ≡ q.channel_count → p.status ≡ q.status → p.secondary ≡ q.secondary → p.room ≡ q.room
    → p.ocf ≡ q.ocf → p ≡ q
same_parts a b c d e f g h = λ i. record {
  spacecraft = a i;
  channel = b i;
  master_count = c i;
  channel_count = d i;
  status = e i;
  secondary = f i;
  room = g i;
  ocf = h i;
}

cells : (sc ch o mc vc st : ℕ) → sc < 2 ^ 10 → ch < 2 ^ 3 → o < 2 → mc < 2 ^ 8 → vc < 2 ^ 8 → st < 2 ^ 16
    → packed ((2, 0) ∷ (10, sc) ∷ (3, ch) ∷ (1, o) ∷ (8, mc) ∷ (8, vc) ∷ (16, st) ∷ [])
    ≡ ((sc / 2 ^ 4) ∷ (sc % 2 ^ 4 * 2 ^ 4 + ch * 2 + o) ∷ mc ∷ vc ∷ (st / 2 ^ 8) ∷ (st % 2 ^ 8) ∷ [])
unfolding packed
cells sc ch o mc vc st h0 h1 h2 h3 h4 h5 =
    cells_six (omega arith) (omega arith) (omega arith) (omega arith) (omega arith) (omega arith)

-- the six octets of a primary header
abbrev pub cells_of : TmParts → List ℕ
cells_of p =
    (p.spacecraft / 2 ^ 4) ∷ (p.spacecraft % 2 ^ 4 * 2 ^ 4 + p.channel * 2 + bit (is_some p.ocf)) ∷ p.master_count
    ∷ p.channel_count
    ∷ (p.status / 2 ^ 8) ∷ (p.status % 2 ^ 8) ∷ []

pub header_cells : (p : TmParts) → p.spacecraft < 2 ^ 10 → p.channel < 2 ^ 3 → p.master_count < 2 ^ 8
    → p.channel_count < 2 ^ 8 → p.status < 2 ^ 16
    → packed (primary_header p) ≡ cells_of p
header_cells p sc ch mc vc st =
    cells p.spacecraft p.channel (bit (is_some p.ocf)) p.master_count p.channel_count p.status sc ch
    (bit_small (is_some p.ocf)) mc vc st

-- the words as the code puts them together
pub low_word : (ch o : ℕ) → ch < 2 ^ 3 → o < 2 → bit_or (ch * 2 ^ 1 % 2 ^ 16) o ≡ ch * 2 + o
low_word ch o h g =
    let e : ch * 2 ^ 1 % 2 ^ 16 ≡ ch * 2 ^ 1 = omega arith in
    ap (λ n. bit_or n o) e ∙ or_shifted ch 1 o g

pub first_word : (sc low : ℕ) → sc < 2 ^ 10 → low < 2 ^ 4 → bit_or (sc * 2 ^ 4 % 2 ^ 16) low ≡ sc * 2 ^ 4 + low
first_word sc low h g =
    let e : sc * 2 ^ 4 % 2 ^ 16 ≡ sc * 2 ^ 4 = omega arith in
    ap (λ n. bit_or n low) e ∙ or_shifted sc 4 low g

pub is_some-option_map : {A B : Type 0} (f : A → B) (o : Option A) → is_some (option_map f o) ≡ is_some o
is_some-option_map f None = refl
is_some-option_map f (Some x) = refl
