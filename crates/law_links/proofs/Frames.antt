-- A protected frame opens elsewhere to the number and the data field with which it was protected.
use Rattle.std.proofs.Common.{◌≡◌, ℕ, List, ◌++◌, refl, sym, ap, ◌∙◌, subst}
use Rattle.std.specs.Prelude.{Some}
use Rattle.std.specs.Int.{w64, to_be_bytes}
use Rattle.sdls_base.specs.Link.{mask_octets}
use Rattle.sdls_base.specs.declared.link.AnyLayout.{AnyLayout}
use Rattle.sdls_base.specs.declared.states.Suite.{Suite}
use Rattle.sdls_header.specs.Authenticated.{authenticated, masked_octets}
use Rattle.sdls_header.specs.SecurityHeader.{Pieces, SplitsInto, header_octets}
use Rattle.sdls_header.specs.declared.header.Vector.{Vector}
use Rattle.sdls_header.specs.declared.header.Vector.TheVariants.{Sequence, Wide}
use Rattle.sdls_header.proofs.Splits.{one_split}
use Rattle.frame_shield.specs.declared.binding.Binding.{Binding}
use Rattle.frame_shield.specs.AnyFrame.{AnyParts, IsFrame, prefix_of, room_of, with_room}
use Rattle.frame_shield.specs.Opens.{Opens}
use Rattle.frame_shield.specs.Protects.{Protects}
use Rattle.frame_shield.specs.Secured.{sealed, covered, header_of, number_of}
use Rattle.frame_shield.proofs.OpenFacts.{one_frame, OpensWhatWasSealed}
use Rattle.law_links.specs.Carried.{AgreeOn, AgreesOnCovered, IsDataField}

-- a protected frame opens
abbrev pub ProtectedOpens : Type 0
ProtectedOpens =
    (b : Binding) (n : ℕ) (clear out : List ℕ) → (protects : Protects b n clear out)
    → Opens b out n (room_of protects.parts)

same_some : (a b : List ℕ) → Some a ≡ Some b → a ≡ b
same_some a b e = cc

one_field : OpensWhatWasSealed → (key : List ℕ) (vector : Vector) (covers field other text mac : List ℕ)
    → sealed key vector covers field ≡ (text, mac) → sealed key vector covers other ≡ (text, mac) → field ≡ other
one_field law key (Sequence n) covers field other text mac a b = ap (λ (p : List ℕ × List ℕ). p.0) (a ∙ sym b)
one_field law key (Wide device n) covers field other text mac a b =
    let iv = device ++ to_be_bytes w64 n in
    same_some field other (sym ((law key iv covers field text mac).1 a) ∙ (law key iv covers other text mac).1 b)

-- two openings of frames that agree on what is covered, under bindings that agree, are one
pub opened_alike : OpensWhatWasSealed → (b c : Binding) (frame arrived : List ℕ) (n m : ℕ) (field other : List ℕ)
    → AgreeOn b c → AgreesOnCovered b frame arrived
    → Opens b frame n field → Opens c arrived m other → (n ≡ m) × (field ≡ other)
opened_alike law b c frame arrived n m field other agree alike x y =
    let framed : IsFrame b.link.layout y.parts arrived =
    subst (λ (l : AnyLayout). IsFrame l y.parts arrived) (sym agree.layout) y.framed in
    let first : x.parts ≡ alike.parts =
    one_frame b.link.layout x.parts alike.parts frame x.framed alike.released_framed in
    let second : y.parts ≡ alike.others =
    one_frame b.link.layout y.parts alike.others arrived framed alike.arrived_framed in
    let rooms : room_of x.parts ≡ room_of y.parts =
    ap room_of first ∙ sym alike.room ∙ ap room_of (sym second) in
    let prefixes : masked_octets (prefix_of b.link.layout y.parts) (mask_octets b.link.mask)
    ≡ masked_octets (prefix_of b.link.layout x.parts) (mask_octets b.link.mask) =
    ap (λ (p : AnyParts). masked_octets (prefix_of b.link.layout p) (mask_octets b.link.mask)) second ∙ alike.masked
    ∙ ap (λ (p : AnyParts). masked_octets (prefix_of b.link.layout p) (mask_octets b.link.mask)) (sym first) in
    let split : SplitsInto b.suite (room_of x.parts) y.pieces =
    subst (λ (r : List ℕ). SplitsInto b.suite r y.pieces) (sym rooms)
    (subst (λ (s : Suite). SplitsInto s (room_of y.parts) y.pieces) (sym agree.suite) y.secured.split) in
    let pieces : x.pieces ≡ y.pieces = one_split b.suite (room_of x.parts) x.pieces y.pieces x.secured.split split in
    let headers : header_octets (header_of c y.pieces.vector) ≡ header_octets (header_of b x.pieces.vector) =
    sym y.secured.header ∙ sym (ap (λ (p : Pieces). p.header) pieces) ∙ x.secured.header in
    let covers : covered c (prefix_of c.link.layout y.parts) y.pieces.vector
    ≡ covered b (prefix_of b.link.layout x.parts) x.pieces.vector =
    ap (λ (h : List ℕ). authenticated (mask_octets c.link.mask) (prefix_of c.link.layout y.parts) h) headers
    ∙ ap (λ (l : AnyLayout). authenticated (mask_octets c.link.mask) (prefix_of l y.parts)
    (header_octets (header_of b x.pieces.vector))) (sym agree.layout)
    ∙ ap (λ (k : List ℕ). authenticated k (prefix_of b.link.layout y.parts)
    (header_octets (header_of b x.pieces.vector))) (sym agree.mask)
    ∙ ap (λ (p : List ℕ). p ++ header_octets (header_of b x.pieces.vector)) prefixes in
    let seal : sealed b.schedule x.pieces.vector (covered b (prefix_of b.link.layout x.parts) x.pieces.vector) other
    ≡ (x.pieces.field, x.pieces.mac) =
    ap (λ (k : List ℕ). sealed k x.pieces.vector (covered b (prefix_of b.link.layout x.parts) x.pieces.vector) other)
    agree.octets
    ∙ ap (λ (v : Vector). sealed c.schedule v (covered b (prefix_of b.link.layout x.parts) x.pieces.vector) other)
    (ap (λ (p : Pieces). p.vector) pieces)
    ∙ ap (λ (t : List ℕ). sealed c.schedule y.pieces.vector t other) (sym covers)
    ∙ y.secured.seal
    ∙ ap (λ (p : Pieces). (p.field, p.mac)) (sym pieces) in (
      sym x.number ∙ ap (λ (p : Pieces). number_of p.vector) pieces ∙ y.number,
      one_field law b.schedule x.pieces.vector (covered b (prefix_of b.link.layout x.parts) x.pieces.vector) field other
          x.pieces.field x.pieces.mac
          x.secured.seal seal,
    )

pub carried_over : ProtectedOpens → OpensWhatWasSealed → (b c : Binding) (n m : ℕ) (clear frame arrived field : List ℕ)
    → Protects b n clear frame → AgreeOn b c → AgreesOnCovered b frame arrived → Opens c arrived m field
    → (m ≡ n) × IsDataField b clear field
carried_over opens law b c n m clear frame arrived field p agree alike o =
    let one = opened_alike law b c frame arrived n m (room_of p.parts) field agree alike (opens b n clear frame p) o in
    (sym one.0, record { parts = p.parts; framed = p.clear_framed; field_is = sym one.1 })

-- a protected frame agrees with itself
pub agrees_with_itself : (b : Binding) (n : ℕ) (clear frame : List ℕ) → Protects b n clear frame
    → AgreesOnCovered b frame frame
agrees_with_itself b n clear frame p = record {
  parts = with_room p.parts p.room;
  others = with_room p.parts p.room;
  released_framed = p.framed;
  arrived_framed = p.framed;
  room = refl;
  masked = refl;
}
