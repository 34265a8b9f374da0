-- A clear frame under a number has one protected frame.
use Rattle.std.proofs.Common.{◌≡◌, ℕ, ◌+◌, List, ◌++◌, length, refl, sym, ap, ◌∙◌, subst, arith, append_assoc}
use Rattle.std.proofs.Common.{length-append}
use Rattle.std.proofs.lemmas.List.FromFn.{length-map-range_with_len}
use Rattle.std.specs.Int.{w64, to_be_bytes}
use Rattle.gcm.specs.Gcm.{gctr, gctr_octet}
use Rattle.sdls_base.specs.declared.link.AnyLayout.{AnyLayout}
use Rattle.sdls_base.specs.declared.link.AnyLayout.TheVariants.{Tc, Tm, Aos}
use Rattle.sdls_header.specs.declared.header.Vector.{Vector}
use Rattle.sdls_header.specs.declared.header.Vector.TheVariants.{Sequence, Wide}
use Rattle.sdls_header.specs.SecurityHeader.{Pieces, header_octets}
use Rattle.frame_shield.specs.declared.binding.Binding.{Binding}
use Rattle.frame_shield.specs.AnyFrame.{AnyParts, tc, tm, aos, IsFrame, prefix_of, room_of, with_room}
use Rattle.frame_shield.specs.Binding.{clear_layout}
use Rattle.frame_shield.specs.Secured.{IsSecured, sealed, covered, header_of}
use Rattle.frame_shield.specs.Protects.{Protects}
use Rattle.frame_shield.proofs.Lengths.{frame_is}
use Rattle.frame_shield.proofs.OpenFacts.{one_frame}

length-gctr : (key iv text : List ℕ) → length (gctr key iv text) ≡ length text
unfolding gctr
length-gctr key iv text = length-map-range_with_len (gctr_octet key iv text) 0 (length text)

-- a text has as many octets as its data field
length-text : (key : List ℕ) (vector : Vector) (before field : List ℕ)
    → length (sealed key vector before field).0 ≡ length field
length-text key (Sequence n) before field = refl
length-text key (Wide device n) before field = length-gctr key (device ++ to_be_bytes w64 n) field

-- the prefix tells of the room only how many octets it has
prefix_by_length : (layout : AnyLayout) (p : AnyParts) (room other : List ℕ) → length room ≡ length other
    → prefix_of layout (with_room p room) ≡ prefix_of layout (with_room p other)
prefix_by_length (Tc layout) (tc p) room other long = cc
prefix_by_length (Tc layout) (tm p) room other long = refl
prefix_by_length (Tc layout) (aos p) room other long = refl
prefix_by_length (Tm layout) (tc p) room other long = refl
prefix_by_length (Tm layout) (tm p) room other long = refl
prefix_by_length (Tm layout) (aos p) room other long = refl
prefix_by_length (Aos layout) (tc p) room other long = refl
prefix_by_length (Aos layout) (tm p) room other long = refl
prefix_by_length (Aos layout) (aos p) room other long = refl

-- a room is its header, and the text and the MAC of the data field
room_is : (b : Binding) (prefix room : List ℕ) (p : Pieces) (field : List ℕ) → IsSecured b prefix room p field
    → room ≡ header_octets (header_of b p.vector)
    ++ ((sealed b.schedule p.vector (covered b prefix p.vector) field).0
    ++ (sealed b.schedule p.vector (covered b prefix p.vector) field).1)
room_is b prefix room p field is =
    is.split.whole ∙ append_assoc p.header p.field p.mac
    ∙ ap (λ (header : List ℕ). header ++ (p.field ++ p.mac)) is.header
    ∙ ap (λ (seal : List ℕ × List ℕ). header_octets (header_of b p.vector) ++ (seal.0 ++ seal.1)) (sym is.seal)

-- how many octets it has, by the vector and the data field alone
length-room : (b : Binding) (prefix room : List ℕ) (p : Pieces) (field : List ℕ) → IsSecured b prefix room p field
    → length room ≡ length (header_octets (header_of b p.vector)) + (length field + 16)
length-room b prefix room p field is =
    let text : length p.field ≡ length field =
    ap (λ (seal : List ℕ × List ℕ). length seal.0) (sym is.seal) ∙ length-text b.schedule p.vector
    (covered b prefix p.vector) field in
    omega (
      arith,
      ap length is.split.whole,
      ap length is.header,
      text,
      is.split.mac,
      length-append (p.header ++ p.field) p.mac,
      length-append p.header p.field,
    )

-- behind the same octets, with the same vector and data field, stands the same room
same_room : (b : Binding) (layout : AnyLayout) (q : AnyParts) (room other : List ℕ) (p r : Pieces) (field : List ℕ)
    → IsSecured b (prefix_of layout (with_room q room)) room p field
    → IsSecured b (prefix_of layout (with_room q other)) other r field
    → p.vector ≡ r.vector → room ≡ other
same_room b layout q room other p r field is also vectors =
    let long : length room ≡ length other =
    length-room b _ room p field is
    ∙ ap (λ (vector : Vector). length (header_octets (header_of b vector)) + (length field + 16)) vectors
    ∙ sym (length-room b _ other r field also) in
    let prefixes = prefix_by_length layout q room other long in
    let by : List ℕ → Vector → List ℕ = λ prefix vector. header_octets (header_of b vector)
    ++ ((sealed b.schedule vector (covered b prefix vector) field).0
    ++ (sealed b.schedule vector (covered b prefix vector) field).1) in
    room_is b _ room p field is
    ∙ ap (λ (prefix : List ℕ). by prefix p.vector) prefixes
    ∙ ap (λ (vector : Vector). by (prefix_of layout (with_room q other)) vector) vectors
    ∙ sym (room_is b _ other r field also)

-- the octets of a frame are those of its parts
one_spelling : (layout : AnyLayout) (p : AnyParts) (frame other : List ℕ) → IsFrame layout p frame
    → IsFrame layout p other → frame ≡ other
one_spelling layout p frame other is also = frame_is layout p frame is ∙ sym (frame_is layout p other also)

pub protected_one : (b : Binding) (n : ℕ) (clear out other : List ℕ) → Protects b n clear out → Protects b n clear other
    → out ≡ other
protected_one b n clear out other x y =
    let layout : AnyLayout = b.link.layout in
    let parts : y.parts ≡ x.parts =
    one_frame (clear_layout b.suite layout) y.parts x.parts clear y.clear_framed x.clear_framed in
    let secured =
    subst (λ (p : AnyParts). IsSecured b (prefix_of layout (with_room p y.room)) y.room y.pieces (room_of p)) parts
    y.secured in
    let framed = subst (λ (p : AnyParts). IsFrame layout (with_room p y.room) other) parts y.framed in
    let rooms : y.room ≡ x.room =
    sym (same_room b layout x.parts x.room y.room x.pieces y.pieces (room_of x.parts) x.secured secured
    (x.vector ∙ sym y.vector)) in
    one_spelling layout (with_room x.parts x.room) out other x.framed
    (subst (λ (room : List ℕ). IsFrame layout (with_room x.parts room) other) rooms framed)
