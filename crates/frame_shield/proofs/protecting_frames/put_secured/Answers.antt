use Rattle.std.proofs.Common.{◌≡◌, ℕ, ◌++◌, List, take, drop, length, ap, ◌∙◌, arith, length-take-le}
use Rattle.std.proofs.lemmas.Slice.{drop-append-drop}
use Rattle.sdls_base.specs.Link.{mask_octets}
use Rattle.sdls_base.proofs.Endings.{take_front}
use Rattle.sdls_header.specs.Authenticated.{masked_octets}
use Rattle.frame_shield.specs.declared.binding.Binding.{Binding}
use Rattle.frame_shield.specs.Shield.{prefix_for, room_behind}
use Rattle.frame_shield.proofs.Stretches.{drop_later, front_again}
use Rattle.frame_shield.proofs.protecting_frames.put_secured.Goals as goal

pub returns-clause-written : goal.returns-clause-written
returns-clause-written c =
    let b : Binding = c.args.binding.now in
    let n : ℕ = c.put_prefix-room_start.result in
    let front : List ℕ = prefix_for b.link.layout c.args.prefix.now c.args.count in
    let put : List ℕ = c.put_prefix-room_start.new.out in
    let masked : List ℕ = c.mask_in_place.new.prefix in
    let here : n ≡ length masked = omega (arith, length-take-le n put (omega arith)) in
    let before : List ℕ = masked ++ drop n put in
    let masked_is : take n before ≡ masked_octets front (mask_octets b.link.mask) =
    take_front masked (drop n put) n here ∙ c.mask_in_place.ensures.text
    ∙ ap (λ l. masked_octets l c.as_slice.result.now) c.put_prefix-room_start.ensures.written
    ∙ ap (λ l. masked_octets front l) c.as_slice.ensures in
    let same : c.put_prefix.result ≡ n = omega arith in
    let again : take n c.put_prefix.new.out ≡ front =
    ap (λ k. take k c.put_prefix.new.out) (omega arith) ∙ c.put_prefix.ensures.written in
    let kept : drop n c.put_prefix.new.out ≡ drop n c.put_room-room_end.new.out =
    ap (λ k. drop k c.put_prefix.new.out) (omega arith) ∙ c.put_prefix.ensures.rest
    ∙ ap (λ k. drop k c.put_room-room_end.new.out) same in
    front_again c.put_prefix.new.out c.put_room-room_end.new.out before
    (room_behind b c.args.vector (take n before) c.args.field.now) front n c.put_room-room_end.result
    (omega arith) (omega arith) again kept c.put_room-room_end.ensures.written
    ∙ ap (λ l. front ++ room_behind b c.args.vector l c.args.field.now) masked_is

pub returns-clause-rest : goal.returns-clause-rest
returns-clause-rest c =
    let n : ℕ = c.put_prefix-room_start.result in
    let end : ℕ = c.put_room-room_end.result in
    let masked : List ℕ = c.mask_in_place.new.prefix in
    let here : length masked ≡ n = omega (arith, length-take-le n c.put_prefix-room_start.new.out (omega arith)) in
    drop_later c.put_prefix.new.out c.put_room-room_end.new.out c.put_prefix.result end (omega arith)
    c.put_prefix.ensures.rest
    ∙ c.put_room-room_end.ensures.rest
    ∙ drop-append-drop n c.put_prefix-room_start.new.out masked end (omega arith) here
    ∙ drop_later c.put_prefix-room_start.new.out c.args.out.now n end (omega arith) c.put_prefix-room_start.ensures.rest
