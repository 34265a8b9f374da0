-- Parts that are the same, field by field, and numbers from octets.
use Rattle.std.proofs.Common.{◌≡◌, ℕ, ◌+◌, ◌*◌, ◌/◌, ◌%◌, ◌^◌, ◌<◌, [], ◌∷◌, arith, ◌∙◌, ap}
use Rattle.std.specs.Prelude.{bit_or}
use Rattle.std.proofs.lemmas.Nat.{or_shifted}
use Rattle.std.specs.Int.{w32, from_be_bytes}
use Rattle.sdls_base.specs.Fields.{bit, packed}
use Rattle.sdls_base.proofs.FieldLemmas.{cells_six, bit_small}
use Rattle.aos_frame.specs.AosFrame.{AosParts, primary_header}

pub same_parts : {p q : AosParts} → p.spacecraft ≡ q.spacecraft → p.channel ≡ q.channel → p.count ≡ q.count
    → p.replay ≡ q.replay → p.cycle_use ≡ q.cycle_use → p.cycle ≡ q.cycle → p.insert ≡ q.insert → p.room ≡ q.room
    → p.ocf ≡ q.ocf → p ≡ q
same_parts a b c d e f g h o = λ i. record {
  spacecraft = a i;
  channel = b i;
  count = c i;
  replay = d i;
  cycle_use = e i;
  cycle = f i;
  insert = g i;
  room = h i;
  ocf = o i;
}

pub three : (a b c : ℕ) → from_be_bytes w32 (0 ∷ a ∷ b ∷ c ∷ []) ≡ a * 2 ^ 16 + b * 2 ^ 8 + c
three a b c = omega arith

cells : (sc ch cnt cy r u : ℕ) → sc < 2 ^ 8 → ch < 2 ^ 6 → cnt < 2 ^ 24 → cy < 2 ^ 4 → r < 2 → u < 2
    → packed ((2, 1) ∷ (8, sc) ∷ (6, ch) ∷ (24, cnt) ∷ (1, r) ∷ (1, u) ∷ (2, 0) ∷ (4, cy) ∷ [])
    ≡ ((64 + sc / 4) ∷ (sc % 4 * 64 + ch) ∷ (cnt / 2 ^ 16) ∷ (cnt / 2 ^ 8 % 2 ^ 8) ∷ (cnt % 2 ^ 8)
    ∷ (r * 2 ^ 7 + u * 2 ^ 6 + cy) ∷ [])
unfolding packed
cells sc ch cnt cy r u h0 h1 h2 h3 h4 h5 =
    cells_six (omega arith) (omega arith) (omega arith) (omega arith) (omega arith) (omega arith)

-- the six octets of a primary header
pub header_cells : (p : AosParts) → p.spacecraft < 2 ^ 8 → p.channel < 2 ^ 6 → p.count < 2 ^ 24 → p.cycle < 2 ^ 4
    → packed (primary_header p)
    ≡ ((64 + p.spacecraft / 4) ∷ (p.spacecraft % 4 * 64 + p.channel) ∷ (p.count / 2 ^ 16) ∷ (p.count / 2 ^ 8 % 2 ^ 8)
    ∷ (p.count % 2 ^ 8)
    ∷ (bit p.replay * 2 ^ 7 + bit p.cycle_use * 2 ^ 6 + p.cycle) ∷ [])
header_cells p sc ch cnt cy = cells p.spacecraft p.channel p.count p.cycle (bit p.replay) (bit p.cycle_use) sc ch cnt cy
    (bit_small p.replay) (bit_small p.cycle_use)

-- the words as the code puts them together
pub first_word : (sc ch : ℕ) → sc < 2 ^ 8 → ch < 2 ^ 6 → bit_or (bit_or (1 * 2 ^ 14) (sc * 2 ^ 6 % 2 ^ 16)) ch
    ≡ 2 ^ 14 + sc * 2 ^ 6 + ch
first_word sc ch h g =
    let e : sc * 2 ^ 6 % 2 ^ 16 ≡ sc * 2 ^ 6 = omega arith in
    let f : bit_or (1 * 2 ^ 14) (sc * 2 ^ 6) ≡ (2 ^ 8 + sc) * 2 ^ 6 =
    or_shifted 1 14 (sc * 2 ^ 6) (omega arith) ∙ omega arith in
    ap (λ n. bit_or (bit_or (1 * 2 ^ 14) n) ch) e ∙ ap (λ n. bit_or n ch) f ∙ or_shifted (2 ^ 8 + sc) 6 ch g
    ∙ omega arith

pub signals_octet : (r u cy : ℕ) → r < 2 → u < 2 → cy < 2 ^ 4
    → bit_or (bit_or (r * 2 ^ 7 % 2 ^ 8) (u * 2 ^ 6 % 2 ^ 8)) cy ≡ r * 2 ^ 7 + u * 2 ^ 6 + cy
signals_octet r u cy hr hu hc =
    let e : r * 2 ^ 7 % 2 ^ 8 ≡ r * 2 ^ 7 = omega arith in
    let f : u * 2 ^ 6 % 2 ^ 8 ≡ u * 2 ^ 6 = omega arith in
    let g : bit_or (r * 2 ^ 7) (u * 2 ^ 6) ≡ (r * 2 + u) * 2 ^ 6 =
    or_shifted r 7 (u * 2 ^ 6) (omega arith) ∙ omega arith in
    ap (λ n. bit_or (bit_or n (u * 2 ^ 6 % 2 ^ 8)) cy) e ∙ ap (λ n. bit_or (bit_or (r * 2 ^ 7) n) cy) f
    ∙ ap (λ n. bit_or n cy) g
    ∙ or_shifted (r * 2 + u) 6 cy (omega arith) ∙ omega arith
