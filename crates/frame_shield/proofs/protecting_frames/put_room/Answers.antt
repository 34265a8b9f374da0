use Rattle.std.proofs.Common.{◌≡◌, ℕ, ◌++◌, List, take, drop, length, sym, ap, ◌∙◌, arith, append_assoc, length-append}
use Rattle.std.proofs.Common.{length-take-le}
use Rattle.std.proofs.lemmas.List.{take-append-drop}
use Rattle.std.proofs.lemmas.Slice.{drop-append-drop}
use Rattle.sdls_base.proofs.Endings.{take_front, drop_front}
use Rattle.sdls_header.specs.SecurityHeader.{header_octets}
use Rattle.frame_shield.specs.declared.binding.Binding.{Binding}
use Rattle.frame_shield.specs.Secured.{header_of, sealed}
use Rattle.frame_shield.proofs.Stretches.{drop_later}
use Rattle.frame_shield.proofs.protecting_frames.put_room.Goals as goal

pub returns-clause-written : goal.returns-clause-written
returns-clause-written c =
    let b : Binding = c.args.binding.now in
    let seal : List ℕ → List ℕ → List ℕ × List ℕ = λ covered field. sealed b.schedule c.args.vector covered field in
    let start : ℕ = c.put_header-text_start.result in
    let end : ℕ = c.put-text_end.result in
    let header : List ℕ = header_octets (header_of b c.args.vector) in
    let covered : List ℕ = take c.args.at c.args.out.now ++ header in
    let old : List ℕ = take end c.put-text_end.new.out in
    let new : List ℕ = c.seal-mac.new.octets in
    let here : start ≡ length covered =
    omega (
      arith,
      c.put_header-text_start.ensures.place,
      length-append (take c.args.at c.args.out.now) header,
      length-take-le c.args.at c.args.out.now (omega arith),
    ) in
    let old_is : old ≡ covered ++ c.args.field.now =
    c.put-text_end.ensures.written ∙ ap (λ l. l ++ c.args.field.now) c.put_header-text_start.ensures.written in
    let front : take start old ≡ covered =
    ap (λ l. take start l) old_is ∙ take_front covered c.args.field.now start here in
    let back : drop start old ≡ c.args.field.now =
    ap (λ l. drop start l) old_is ∙ drop_front covered c.args.field.now start here in
    let made : (drop start new, c.seal-mac.result) ≡ seal covered c.args.field.now =
    c.seal-mac.ensures.text ∙ ap (λ l. seal l (drop start old)) front ∙ ap (λ l. seal covered l) back in
    let text : drop start new ≡ (seal covered c.args.field.now).0 = ap (λ (p : List ℕ × List ℕ). p.0) made in
    let mac : c.seal-mac.result ≡ (seal covered c.args.field.now).1 = ap (λ (p : List ℕ × List ℕ). p.1) made in
    let whole : new ≡ covered ++ (seal covered c.args.field.now).0 =
    sym (take-append-drop start new) ∙ ap (λ l. l ++ drop start new) (c.seal-mac.ensures.covered ∙ front)
    ∙ ap (λ l. covered ++ l) text in
    let ends : end ≡ length new = omega (arith, here, ap length old_is, length-append covered c.args.field.now) in
    let sealed_is = c.put.ensures.written
    ∙ ap (λ l. l ++ c.seal-mac.result) (take_front new (drop end c.put-text_end.new.out) end ends ∙ whole)
    ∙ ap (λ l. (covered ++ (seal covered c.args.field.now).0) ++ l) mac in
    sealed_is ∙ simp append_assoc

pub returns-clause-rest : goal.returns-clause-rest
returns-clause-rest c =
    let end : ℕ = c.put-text_end.result in
    let new : List ℕ = c.seal-mac.new.octets in
    let start : ℕ = c.put_header-text_start.result in
    let header : List ℕ = header_octets (header_of c.args.binding.now c.args.vector) in
    let front : List ℕ = take c.args.at c.args.out.now in
    let before : List ℕ = take start c.put_header-text_start.new.out in
    let ends : length new ≡ end = omega (
      arith,
      c.put_header-text_start.ensures.place,
      ap length c.put_header-text_start.ensures.written,
      length-append front header,
      length-take-le c.args.at c.args.out.now (omega arith),
      ap length c.put-text_end.ensures.written,
      length-append before c.args.field.now,
    ) in
    c.put.ensures.rest
    ∙ drop-append-drop end c.put-text_end.new.out new c.put.result (omega arith) ends
    ∙ drop_later c.put-text_end.new.out c.put_header-text_start.new.out end c.put.result (omega arith)
    c.put-text_end.ensures.rest
    ∙ drop_later c.put_header-text_start.new.out c.args.out.now c.put_header-text_start.result c.put.result
    (omega arith) c.put_header-text_start.ensures.rest
