-- A frame opens in one way.
use Rattle.std.proofs.Common.{◌≡◌, ℕ, List, ◌++◌, sym, ap, ◌∙◌, subst}
use Rattle.std.specs.Prelude.{Some, None, ◌↔◌}
use Rattle.gcm.specs.Gcm.{gcm_open, gcm_seal}
use Rattle.sdls_header.specs.declared.header.Vector.{Vector}
use Rattle.sdls_header.specs.declared.header.Vector.TheVariants.{Sequence, Wide}
use Rattle.sdls_header.specs.SecurityHeader.{Pieces}
use Rattle.sdls_header.proofs.Splits.{one_split}
use Rattle.std.specs.Int.{w64, to_be_bytes}
use Rattle.tc_frame.proofs.Frames as tc_facts
use Rattle.tm_frame.proofs.Frames as tm_facts
use Rattle.aos_frame.proofs.Frames as aos_facts
use Rattle.frame_shield.specs.declared.binding.Binding.{Binding}
use Rattle.sdls_base.specs.declared.link.AnyLayout.{AnyLayout}
use Rattle.sdls_base.specs.declared.link.AnyLayout.TheVariants.{Tc, Tm, Aos}
use Rattle.frame_shield.specs.AnyFrame.{AnyParts, tc, tm, aos, IsFrame, first_fault, prefix_of, room_of}
use Rattle.frame_shield.specs.Secured.{sealed, IsSecured, number_of}
use Rattle.frame_shield.specs.Opens.{Opens}

-- a frame has one set of parts
pub one_frame : (layout : AnyLayout) (p q : AnyParts) (frame : List ℕ) → IsFrame layout p frame → IsFrame layout q frame
    → p ≡ q
one_frame (Tc layout) (tc p) (tc q) frame a b =
    ap tc (sym (tc_facts.frame_parts layout p frame a).1 ∙ (tc_facts.frame_parts layout q frame b).1)
one_frame (Tc layout) (tc p) (tm q) frame a b = absurd b
one_frame (Tc layout) (tc p) (aos q) frame a b = absurd b
one_frame (Tc layout) (tm p) q frame a b = absurd a
one_frame (Tc layout) (aos p) q frame a b = absurd a
one_frame (Tm layout) (tc p) q frame a b = absurd a
one_frame (Tm layout) (tm p) (tc q) frame a b = absurd b
one_frame (Tm layout) (tm p) (tm q) frame a b =
    ap tm (sym (tm_facts.frame_parts layout p frame a).1 ∙ (tm_facts.frame_parts layout q frame b).1)
one_frame (Tm layout) (tm p) (aos q) frame a b = absurd b
one_frame (Tm layout) (aos p) q frame a b = absurd a
one_frame (Aos layout) (tc p) q frame a b = absurd a
one_frame (Aos layout) (tm p) q frame a b = absurd a
one_frame (Aos layout) (aos p) (tc q) frame a b = absurd b
one_frame (Aos layout) (aos p) (tm q) frame a b = absurd b
one_frame (Aos layout) (aos p) (aos q) frame a b =
    ap aos (sym (aos_facts.frame_parts layout p frame a).1 ∙ (aos_facts.frame_parts layout q frame b).1)

-- and no fault
pub no_fault : (layout : AnyLayout) (p : AnyParts) (frame : List ℕ) → IsFrame layout p frame
    → first_fault layout frame ≡ None
no_fault (Tc layout) (tc p) frame is = (tc_facts.frame_parts layout p frame is).0
no_fault (Tc layout) (tm p) frame is = absurd is
no_fault (Tc layout) (aos p) frame is = absurd is
no_fault (Tm layout) (tc p) frame is = absurd is
no_fault (Tm layout) (tm p) frame is = (tm_facts.frame_parts layout p frame is).0
no_fault (Tm layout) (aos p) frame is = absurd is
no_fault (Aos layout) (tc p) frame is = absurd is
no_fault (Aos layout) (tm p) frame is = absurd is
no_fault (Aos layout) (aos p) frame is = (aos_facts.frame_parts layout p frame is).0

-- what GCM seals opens to that, and nothing else opens
abbrev pub OpensWhatWasSealed : Type 0
OpensWhatWasSealed = (key iv aad clear text tag : List ℕ)
    → (gcm_open key iv aad text tag ≡ Some clear) ↔ (gcm_seal key iv aad clear ≡ (text, tag))

same_some : (a b : List ℕ) → Some a ≡ Some b → a ≡ b
same_some a b e = cc

-- text and MAC are those of one data field
one_field : OpensWhatWasSealed → (key : List ℕ) (vector : Vector) (covered field other text mac : List ℕ)
    → sealed key vector covered field ≡ (text, mac) → sealed key vector covered other ≡ (text, mac) → field ≡ other
one_field law key (Sequence n) covered field other text mac a b = ap (λ (p : List ℕ × List ℕ). p.0) (a ∙ sym b)
one_field law key (Wide device n) covered field other text mac a b =
    let iv = device ++ to_be_bytes w64 n in
    same_some field other (sym ((law key iv covered field text mac).1 a) ∙ (law key iv covered other text mac).1 b)

pub opened_once : OpensWhatWasSealed → (b : Binding) (frame : List ℕ) (n m : ℕ) (field other : List ℕ)
    → Opens b frame n field → Opens b frame m other → (n ≡ m) × (field ≡ other)
opened_once law b frame n m field other x y =
    let parts : x.parts ≡ y.parts = one_frame b.link.layout x.parts y.parts frame x.framed y.framed in
    let moved = subst (λ (p : AnyParts). IsSecured b (prefix_of b.link.layout p) (room_of p) y.pieces other) (sym parts)
    y.secured in
    let pieces : x.pieces ≡ y.pieces =
    one_split b.suite (room_of x.parts) x.pieces y.pieces x.secured.split moved.split in
    let same = subst (λ (p : Pieces). IsSecured b (prefix_of b.link.layout x.parts) (room_of x.parts) p other)
    (sym pieces) moved in (
      sym x.number ∙ ap (λ (p : Pieces). number_of p.vector) pieces ∙ y.number,
      one_field law b.schedule x.pieces.vector _ field other x.pieces.field x.pieces.mac x.secured.seal same.seal,
    )
