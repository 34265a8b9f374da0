use Rattle.std.proofs.Common.{◌≡◌, ℕ, ◌+◌, List, [], ◌++◌, Bool, length, take, ap, sym, subst, ◌∙◌, arith}
use Rattle.std.proofs.Common.{length-append, length-take-le}
use Rattle.std.specs.Prelude.{Option, unwrap_or, option_copied}
use Rattle.sdls_base.specs.Suite.{overhead_of}
use Rattle.sdls_base.specs.ErrorControl.{with_error_control}
use Rattle.frame_shield.specs.declared.binding.Binding.{Binding}
use Rattle.frame_shield.specs.AnyFrame.{prefix_of, room_of}
use Rattle.frame_shield.specs.Binding.{clear_layout, gain_of}
use Rattle.frame_shield.specs.Body.{ocf_of}
use Rattle.sdls_base.specs.Link.{has_fecf}
use Rattle.frame_shield.specs.Protects.{Protects}
use Rattle.frame_shield.specs.Shield.{prefix_for, room_for}
use Rattle.frame_shield.proofs.Lengths.{length-prefix_for}
use Rattle.frame_shield.proofs.ProtectFacts.{protects}
use Rattle.frame_shield.proofs.Stretches.{drop_later}
use Rattle.frame_shield.proofs.protecting_frames.shield.Goals as goal

pub returns-clause-protected : goal.returns-clause-protected
returns-clause-protected c =
    let b : Binding = c.args.binding.now in
    let layout = b.link.layout in
    let body = c.clear_body-body.result in
    let is = c.clear_body-body.ensures.body in
    let put = c.put_secured-room_end in
    let count : ℕ = length c.args.clear.now + c.gain_of.result in
    let front : List ℕ = prefix_for layout body.prefix.now count in
    let room : List ℕ = room_for b c.vector_for-vector.result front body.room.now in
    let tail : List ℕ = unwrap_or (option_copied body.ocf) [] in
    let front_is : front ≡ prefix_for layout (prefix_of (clear_layout b.suite layout) is.parts)
    (length c.args.clear.now + gain_of b.suite layout) =
    ap (λ (l : List ℕ). prefix_for layout l count) is.prefix
    ∙ ap (λ (k : ℕ). prefix_for layout (prefix_of (clear_layout b.suite layout) is.parts) (length c.args.clear.now + k))
    c.gain_of.ensures in
    let room_is = ap (λ (l : List ℕ). room_for b c.vector_for-vector.result front l) is.room in
    let longer : length room ≡ length (room_of is.parts) + overhead_of b.suite = omega (
      arith,
      put.ensures.place,
      ap length put.ensures.written,
      length-append front room,
      length-prefix_for layout body.prefix.now count c.clear_body-body.ensures.least,
      length-take-le put.result put.new.out (omega arith),
      ap length is.room,
    ) in
    let spelled : take c.put_fecf.result c.put_fecf.new.out ≡ with_error_control (has_fecf layout)
    ((front ++ room) ++ unwrap_or (ocf_of is.parts) []) =
    c.put_fecf.ensures.written
    ∙ ap (λ (fecf : Bool).
    with_error_control fecf (take c.put_optional-body_end.result c.put_optional-body_end.new.out))
    c.has_fecf.ensures
    ∙ ap (λ (l : List ℕ). with_error_control (has_fecf layout) l)
    (c.put_optional-body_end.ensures.written ∙ ap (λ (l : List ℕ). l ++ tail) put.ensures.written)
    ∙ ap (λ (o : Option (List ℕ)). with_error_control (has_fecf layout) ((front ++ room) ++ unwrap_or o [])) is.ocf in
    subst (λ (out : List ℕ). Protects b c.args.number c.args.clear.now out) (sym spelled)
    (protects b c.args.number c.args.clear.now is.parts c.vector_for-vector.result front room c.requires.binding
    is.framed c.vector_for-vector.ensures.kind c.vector_for-vector.ensures.vector front_is room_is longer)

pub returns-clause-rest : goal.returns-clause-rest
returns-clause-rest c =
    let room = c.put_secured-room_end.ensures.rest in
    let ocf = c.put_optional-body_end.ensures.rest ∙ drop_later c.put_secured-room_end.new.out c.args.out.now
    c.put_secured-room_end.result c.put_optional-body_end.result (omega arith) room in
    c.put_fecf.ensures.rest ∙ drop_later c.put_optional-body_end.new.out c.args.out.now c.put_optional-body_end.result
    c.put_fecf.result (omega arith) ocf
