use Rattle.std.proofs.Common.{◌≡◌, ℕ, ◌+◌, ◌≤◌, ◌++◌, List, length, ap, sym, ◌∙◌, subst, take, arith, refl, inl, inr}
use Rattle.std.proofs.lemmas.Bool.{cases_lt, false≢true}
use Rattle.sdls_base.specs.Suite.{overhead_of}
use Rattle.sdls_header.specs.SecurityHeader.{Pieces, SplitsInto, header_octets, vector_octets, view}
use Rattle.sdls_header.specs.Authenticated.{authenticated}
use Rattle.frame_shield.specs.declared.binding.Binding.{Binding}
use Rattle.frame_shield.specs.AnyFrame.{AnyParts, prefix_of, room_of}
use Rattle.sdls_base.specs.Link.{mask_octets}
use Rattle.frame_shield.specs.Secured.{header_of}
use Rattle.frame_shield.proofs.FoundFacts.{text_at}
use Rattle.frame_shield.proofs.Lengths.{bounded_insert, prefix_bounds}
use Rattle.frame_shield.proofs.OpenFacts.{no_fault, one_frame}
use Rattle.frame_shield.proofs.opening_frames.find.Goals as goal

pub body_of-body-requires-clause-faultless : goal.body_of-body-requires-clause-faultless
body_of-body-requires-clause-faultless c =
    no_fault c.args.binding.now.link.layout c.requires.frame.parts c.args.frame.now c.requires.frame.framed

pub returns-in_default-clause-none : goal.returns-in_default-clause-none
returns-in_default-clause-none c = λ none n field o.
    let b : Binding = c.args.binding.now in
    let is = c.body_of-body.ensures in
    let parts : o.parts ≡ is.parts = one_frame b.link.layout o.parts is.parts c.args.frame.now o.framed is.framed in
    c.in_default.ensures.only o.pieces
    (subst (λ (r : List ℕ). SplitsInto b.suite r o.pieces) (ap room_of parts ∙ sym is.room) o.secured.split)

pub new-requires-clause-prefix : goal.new-requires-clause-prefix
new-requires-clause-prefix c =
    let b : Binding = c.args.binding.now in
    let is = c.body_of-body.ensures in
    let bounds = prefix_bounds b.link.layout is.parts c.args.frame.now
    (bounded_insert b.link.layout c.requires.binding.link.layout) is.framed in
    omega (arith, bounds.1, ap length is.prefix)

pub returns-clause-found : goal.returns-clause-found
returns-clause-found c =
    let b : Binding = c.args.binding.now in
    let frame : List ℕ = c.args.frame.now in
    let body = c.body_of-body.result in
    let is = c.body_of-body.ensures in
    let same : is.parts ≡ c.requires.frame.parts =
    one_frame b.link.layout is.parts c.requires.frame.parts frame is.framed c.requires.frame.framed in
    let pieces : Pieces = view c.in-Some.pieces in
    let split : SplitsInto b.suite (room_of is.parts) pieces =
    subst (λ (r : List ℕ). SplitsInto b.suite r pieces) is.room c.in-Some.ensures.found in
    let enough : overhead_of b.suite ≤ length (room_of is.parts) =
    elim (cases_lt (length (room_of is.parts)) (overhead_of b.suite)) [
      | inl below ↦ absurd (false≢true (sym (c.in-Some.ensures.none.1 (omega (arith, below, ap length is.room)))))
      | inr enough ↦ enough
    ] in
    let header : pieces.header ≡ header_octets (header_of b pieces.vector) =
    split.header ∙ ap (λ (l : List ℕ). l ++ vector_octets pieces.vector)
    (ap (λ (p : AnyParts). take 2 (room_of p)) same ∙ c.requires.frame.index
    (subst (λ (p : AnyParts). overhead_of b.suite ≤ length (room_of p)) same enough)) in
    let start : ℕ = length body.prefix.now + length pieces.header in
    let end : ℕ = start + length pieces.field in
    let place = ap (λ (l : List ℕ). length l + length pieces.header) is.prefix in
    let text = text_at b is.parts frame pieces start end is.framed split place refl in
    record {
      parts = is.parts;
      pieces = pieces;
      framed = is.framed;
      split = split;
      header = header;
      vector = refl;
      covered = c.new.ensures
          ∙ ap (λ (l : List ℕ). authenticated l body.prefix.now pieces.header) c.as_slice.ensures
          ∙ ap (λ (l : List ℕ). authenticated (mask_octets b.link.mask) l pieces.header) is.prefix
          ∙ ap (λ (l : List ℕ). authenticated (mask_octets b.link.mask) (prefix_of b.link.layout is.parts) l) header;
      mac = c.mac_of.ensures;
      text = text.0;
      start = place;
      end = refl;
      within = text.1;
    }
