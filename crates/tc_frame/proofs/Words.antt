-- Parts that are the same, field by field, and the octets of a primary header.
use Rattle.std.proofs.Common.{◌≡◌, ℕ, ◌+◌, ◌-◌, ◌*◌, ◌/◌, ◌%◌, ◌^◌, ◌<◌, ◌≤◌, List, [], ◌∷◌, arith, ◌∙◌, ap}
use Rattle.std.specs.Prelude.{bit_or}
use Rattle.std.proofs.lemmas.Nat.{or_shifted}
use Rattle.sdls_base.specs.Fields.{bit, packed}
use Rattle.sdls_base.proofs.FieldLemmas.{cells_five, bit_small}
use Rattle.tc_frame.specs.TcFrame.{TcParts, primary_header}

pub same_parts : {p q : TcParts} → p.bypass ≡ q.bypass → p.control ≡ q.control → p.spacecraft ≡ q.spacecraft
    → p.channel ≡ q.channel → p.sequence ≡ q.sequence → p.segment ≡ q.segment → p.room ≡ q.room → p ≡ q
same_parts a b c d e f g = λ i. record {
  bypass = a i;
  control = b i;
  spacecraft = c i;
  channel = d i;
  sequence = e i;
  segment = f i;
  room = g i;
}

cells : (r u sc ch m seq : ℕ) → r < 2 → u < 2 → sc < 2 ^ 10 → ch < 2 ^ 6 → m < 2 ^ 10 → seq < 2 ^ 8
    → packed ((2, 0) ∷ (1, r) ∷ (1, u) ∷ (2, 0) ∷ (10, sc) ∷ (6, ch) ∷ (10, m) ∷ (8, seq) ∷ [])
    ≡ ((r * 2 ^ 5 + u * 2 ^ 4 + sc / 2 ^ 8) ∷ (sc % 2 ^ 8) ∷ (ch * 2 ^ 2 + m / 2 ^ 8) ∷ (m % 2 ^ 8) ∷ seq ∷ [])
unfolding packed
cells r u sc ch m seq h0 h1 h2 h3 h4 h5 =
    cells_five (omega arith) (omega arith) (omega arith) (omega arith) (omega arith)

-- the five octets of a primary header
abbrev pub cells_of : TcParts → ℕ → List ℕ
cells_of p n =
    (bit p.bypass * 2 ^ 5 + bit p.control * 2 ^ 4 + p.spacecraft / 2 ^ 8) ∷ (p.spacecraft % 2 ^ 8)
    ∷ (p.channel * 2 ^ 2 + (n - 1) / 2 ^ 8) ∷ ((n - 1) % 2 ^ 8) ∷ p.sequence ∷ []

pub header_cells : (p : TcParts) (n : ℕ) → p.spacecraft < 2 ^ 10 → p.channel < 2 ^ 6 → p.sequence < 2 ^ 8 → n ≤ 2 ^ 10
    → packed (primary_header p n) ≡ cells_of p n
header_cells p n sc ch seq most =
    cells (bit p.bypass) (bit p.control) p.spacecraft p.channel (n - 1) p.sequence (bit_small p.bypass)
    (bit_small p.control) sc ch (omega arith) seq

-- the words as the code puts them together
pub first_word : (r u sc : ℕ) → r < 2 → u < 2 → sc < 2 ^ 10
    → bit_or (bit_or (r * 2 ^ 13 % 2 ^ 16) (u * 2 ^ 12 % 2 ^ 16)) sc ≡ r * 2 ^ 13 + u * 2 ^ 12 + sc
first_word r u sc hr hu h =
    let e : r * 2 ^ 13 % 2 ^ 16 ≡ r * 2 ^ 13 = omega arith in
    let f : u * 2 ^ 12 % 2 ^ 16 ≡ u * 2 ^ 12 = omega arith in
    let g : bit_or (r * 2 ^ 13) (u * 2 ^ 12) ≡ (r * 2 + u) * 2 ^ 12 =
    or_shifted r 13 (u * 2 ^ 12) (omega arith) ∙ omega arith in
    ap (λ n. bit_or (bit_or n (u * 2 ^ 12 % 2 ^ 16)) sc) e ∙ ap (λ n. bit_or (bit_or (r * 2 ^ 13) n) sc) f
    ∙ ap (λ n. bit_or n sc) g
    ∙ or_shifted (r * 2 + u) 12 sc (omega arith) ∙ omega arith

pub second_word : (ch m : ℕ) → ch < 2 ^ 6 → m < 2 ^ 10 → bit_or (ch * 2 ^ 10 % 2 ^ 16) m ≡ ch * 2 ^ 10 + m
second_word ch m h g =
    let e : ch * 2 ^ 10 % 2 ^ 16 ≡ ch * 2 ^ 10 = omega arith in
    ap (λ n. bit_or n m) e ∙ or_shifted ch 10 m g
