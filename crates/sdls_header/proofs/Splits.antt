-- A room splits in one way.
use Rattle.std.proofs.Common.{◌≡◌, ℕ, ◌+◌, ◌≤◌, List, [], ◌∷◌, ◌++◌, length, take, drop, get_or, refl, sym, ◌∙◌, ap}
use Rattle.std.proofs.Common.{arith, append_assoc, length-append}
use Rattle.std.specs.Int.{w32, w64, to_be_bytes, from_be_bytes}
use Rattle.std.proofs.lemmas.List.{length-take-le}
use Rattle.std.proofs.lemmas.Nat.{from_be_bytes-to_be_bytes_4, from_be_bytes-to_be_bytes_8}
use Rattle.sdls_base.specs.declared.states.Suite.{Suite}
use Rattle.sdls_base.specs.declared.states.Suite.TheVariants.{Cmac, Gcm}
use Rattle.sdls_base.specs.Suite.{overhead_of}
use Rattle.sdls_base.proofs.Endings.{take_front, drop_front}
use Rattle.sdls_header.specs.declared.header.Vector.{Vector}
use Rattle.sdls_header.specs.declared.header.Vector.TheVariants.{Sequence, Wide}
use Rattle.sdls_header.specs.SecurityHeader.{Pieces, SplitsInto, IsVectorOf, vector_octets}

vector_length : (suite : Suite) (v : Vector) → IsVectorOf suite v → length (vector_octets v) + 18 ≡ overhead_of suite
vector_length Cmac (Sequence n) is = refl
vector_length Cmac (Wide device n) is = absurd is
vector_length Gcm (Sequence n) is = absurd is
vector_length Gcm (Wide device n) is = omega (arith, length-append device (to_be_bytes w64 n), is.0)

-- two lists with equal fronts of one length
front_same : (a b c d : List ℕ) → length a ≡ length c → a ++ b ≡ c ++ d → a ≡ c
front_same a b c d n e = sym (take_front a b (length a) refl) ∙ ap (λ l. take (length a) l) e
    ∙ take_front c d (length a) n

rest_same : (a b c d : List ℕ) → length a ≡ length c → a ++ b ≡ c ++ d → b ≡ d
rest_same a b c d n e = sym (drop_front a b (length a) refl) ∙ ap (λ l. drop (length a) l) e
    ∙ drop_front c d (length a) n

one_vector : (suite : Suite) (v w : Vector) → IsVectorOf suite v → IsVectorOf suite w
    → vector_octets v ≡ vector_octets w → v ≡ w
one_vector Cmac (Sequence n) (Sequence m) a b e =
    ap Sequence (sym (from_be_bytes-to_be_bytes_4 n a) ∙ ap (λ l. from_be_bytes w32 l) e
    ∙ from_be_bytes-to_be_bytes_4 m b)
one_vector Cmac (Sequence n) (Wide device m) a b e = absurd b
one_vector Cmac (Wide device n) w a b e = absurd a
one_vector Gcm (Sequence n) w a b e = absurd a
one_vector Gcm (Wide device n) (Sequence m) a b e = absurd b
one_vector Gcm (Wide device n) (Wide device' m) a b e =
    let d : device ≡ device' = front_same device (to_be_bytes w64 n) device' (to_be_bytes w64 m) (a.0 ∙ sym b.0) e in
    let f : to_be_bytes w64 n ≡ to_be_bytes w64 m =
    rest_same device (to_be_bytes w64 n) device' (to_be_bytes w64 m) (a.0 ∙ sym b.0) e in
    let g : n ≡ m = sym (from_be_bytes-to_be_bytes_8 n a.1) ∙ ap (λ l. from_be_bytes w64 l) f
    ∙ from_be_bytes-to_be_bytes_8 m b.1 in
    cc

same_pieces : {p q : Pieces} → p.header ≡ q.header → p.vector ≡ q.vector → p.field ≡ q.field → p.mac ≡ q.mac → p ≡ q
same_pieces a b c d = λ i. record { header = a i; vector = b i; field = c i; mac = d i }

header_length : (suite : Suite) (room : List ℕ) (p : Pieces) → SplitsInto suite room p
    → length p.header + 16 ≡ overhead_of suite
header_length suite room p is =
    let long : 2 ≤ length room =
    omega (
      arith,
      ap length is.whole,
      length-append (p.header ++ p.field) p.mac,
      length-append p.header p.field,
      is.mac,
    ) in
    omega (
      arith,
      ap length is.header,
      length-append (take 2 room) (vector_octets p.vector),
      length-take-le 2 room long,
      vector_length suite p.vector is.kind,
    )

pub one_split : (suite : Suite) (room : List ℕ) (p q : Pieces) → SplitsInto suite room p → SplitsInto suite room q
    → p ≡ q
one_split suite room p q a b =
    let n : length p.header ≡ length q.header =
    omega (arith, header_length suite room p a, header_length suite room q b) in
    let e : p.header ++ (p.field ++ p.mac) ≡ q.header ++ (q.field ++ q.mac) =
    sym (append_assoc p.header p.field p.mac) ∙ sym a.whole ∙ b.whole ∙ append_assoc q.header q.field q.mac in
    let headers : p.header ≡ q.header = front_same p.header (p.field ++ p.mac) q.header (q.field ++ q.mac) n e in
    let rests : p.field ++ p.mac ≡ q.field ++ q.mac =
    rest_same p.header (p.field ++ p.mac) q.header (q.field ++ q.mac) n e in
    let m : length p.field ≡ length q.field =
    omega (arith, ap length rests, length-append p.field p.mac, length-append q.field q.mac, a.mac, b.mac) in
    let spelled : take 2 room ++ vector_octets p.vector ≡ take 2 room ++ vector_octets q.vector =
    sym a.header ∙ headers ∙ b.header in
    let vectors : p.vector ≡ q.vector =
    one_vector suite p.vector q.vector a.kind b.kind
    (rest_same (take 2 room) (vector_octets p.vector) (take 2 room) (vector_octets q.vector) refl spelled) in
    same_pieces headers vectors (front_same p.field p.mac q.field q.mac m rests)
    (rest_same p.field p.mac q.field q.mac m rests)

-- four octets, one by one
pub four_cells : (s : List ℕ) → length s ≡ 4 → (get_or s 0 0 ∷ get_or s 1 0 ∷ get_or s 2 0 ∷ get_or s 3 0 ∷ []) ≡ s
four_cells [] n = absurd (omega arith)
four_cells (a ∷ []) n = absurd (omega arith)
four_cells (a ∷ b ∷ []) n = absurd (omega arith)
four_cells (a ∷ b ∷ c ∷ []) n = absurd (omega arith)
four_cells (a ∷ b ∷ c ∷ d ∷ []) n = refl
four_cells (a ∷ b ∷ c ∷ d ∷ e ∷ s) n = absurd (omega arith)
