-- What is found in a frame, and whether it opens.
use Rattle.std.proofs.Common.{◌≡◌, ℕ, ◌+◌, ◌-◌, ◌≤◌, Bool, true, false, List, [], ◌++◌, length, take, drop, refl, sym}
use Rattle.std.proofs.Common.{ap, ◌∙◌, subst, arith, append-nil, append_assoc, length-append}
use Rattle.std.specs.Prelude.{unwrap_or, slice_range}
use Rattle.sdls_base.specs.ErrorControl.{with_error_control, error_control}
use Rattle.sdls_base.proofs.Endings.{take_front, drop_front}
use Rattle.sdls_header.specs.SecurityHeader.{Pieces, SplitsInto}
use Rattle.sdls_header.proofs.Splits.{one_split}
use Rattle.frame_shield.specs.declared.binding.Binding.{Binding}
use Rattle.frame_shield.specs.declared.opening_frames.Found.{Found}
use Rattle.frame_shield.specs.AnyFrame.{AnyParts, IsFrame, prefix_of, room_of}
use Rattle.frame_shield.specs.Body.{ocf_of}
use Rattle.frame_shield.specs.Found.{IsFound}
use Rattle.sdls_base.specs.Link.{has_fecf}
use Rattle.frame_shield.specs.Opens.{Opens}
use Rattle.frame_shield.specs.Secured.{IsSecured, sealed, covered, number_of}
use Rattle.frame_shield.proofs.Lengths.{frame_is}
use Rattle.frame_shield.proofs.OpenFacts.{one_frame}

-- a frame begins with its octets before the error control field
ending : (fecf : Bool) (octets : List ℕ) → (end : List ℕ) × (with_error_control fecf octets ≡ octets ++ end)
ending false octets = ([], sym (append-nil octets))
ending true octets = (error_control octets, refl)

regrouped : (prefix header field mac tail end : List ℕ) → ((prefix ++ ((header ++ field) ++ mac)) ++ tail) ++ end
    ≡ (prefix ++ header) ++ (field ++ (mac ++ (tail ++ end)))
regrouped prefix header field mac tail end = simp append_assoc

-- the text stands behind prefix and header
pub text_at : (b : Binding) (p : AnyParts) (frame : List ℕ) (q : Pieces) (start end : ℕ) → IsFrame b.link.layout p frame
    → SplitsInto b.suite (room_of p) q
    → start ≡ length (prefix_of b.link.layout p) + length q.header → end ≡ start + length q.field
    → (slice_range frame start end ≡ q.field) × (end ≤ length frame)
text_at b p frame q start end is split start_is end_is =
    let prefix : List ℕ = prefix_of b.link.layout p in
    let tail : List ℕ = unwrap_or (ocf_of p) [] in
    let last = ending (has_fecf b.link.layout) ((prefix ++ room_of p) ++ tail) in
    let front : List ℕ = prefix ++ q.header in
    let rest : List ℕ = q.mac ++ (tail ++ last.0) in
    let whole : frame ≡ front ++ (q.field ++ rest) =
    frame_is b.link.layout p frame is ∙ last.1 ∙ ap (λ (room : List ℕ). ((prefix ++ room) ++ tail) ++ last.0)
    split.whole ∙ regrouped prefix q.header q.field q.mac tail last.0 in
    let here : start ≡ length front = omega (arith, length-append prefix q.header) in
    let size : end - start ≡ length q.field = omega arith in (
      ap (λ (l : List ℕ). take (end - start) (drop start l)) whole ∙ ap (λ (l : List ℕ). take (end - start) l)
          (drop_front front (q.field ++ rest) start here) ∙ take_front q.field rest (end - start) size,
      omega (arith, here, ap length whole, length-append front (q.field ++ rest), length-append q.field rest),
    )

-- where the frame opens, the MAC that was found is that of the data field
pub opens_sealed : (b : Binding) (frame : List ℕ) (found : Found) (n : ℕ) (field : List ℕ) → IsFound b frame found
    → Opens b frame n field
    → sealed b.schedule found.vector found.covered field ≡ (slice_range frame found.start found.end, found.mac)
opens_sealed b frame found n field f o =
    let parts : o.parts ≡ f.parts = one_frame b.link.layout o.parts f.parts frame o.framed f.framed in
    let moved = subst (λ (p : AnyParts). IsSecured b (prefix_of b.link.layout p) (room_of p) o.pieces field) parts
    o.secured in
    let pieces : o.pieces ≡ f.pieces = one_split b.suite (room_of f.parts) o.pieces f.pieces moved.split f.split in
    let same = subst (λ (p : Pieces). IsSecured b (prefix_of b.link.layout f.parts) (room_of f.parts) p field) pieces
    moved in
    ap (λ (l : List ℕ). sealed b.schedule found.vector l field) f.covered
    ∙ ap (λ v. sealed b.schedule v (covered b (prefix_of b.link.layout f.parts) f.pieces.vector) field) f.vector
    ∙ same.seal
    ∙ ap (λ (l : List ℕ). (l, f.pieces.mac)) (sym f.text)
    ∙ ap (λ (l : List ℕ). (slice_range frame found.start found.end, l)) (sym f.mac)

-- and where that is so, the frame opens
abbrev pub found_opens : (b : Binding) (frame : List ℕ) (found : Found) (n : ℕ) (field : List ℕ) → IsFound b frame found
    → n ≡ number_of found.vector
    → sealed b.schedule found.vector found.covered field ≡ (slice_range frame found.start found.end, found.mac)
    → Opens b frame n field
found_opens b frame found n field f carried e = record {
  parts = f.parts;
  pieces = f.pieces;
  framed = f.framed;
  number = sym (carried ∙ ap number_of f.vector);
  secured = record {
    split = f.split;
    header = f.header;
    seal = ap (λ (l : List ℕ). sealed b.schedule f.pieces.vector l field) (sym f.covered)
        ∙ ap (λ v. sealed b.schedule v found.covered field) (sym f.vector)
        ∙ e
        ∙ ap (λ (l : List ℕ). (l, found.mac)) f.text
        ∙ ap (λ (l : List ℕ). (f.pieces.field, l)) f.mac;
  };
}
