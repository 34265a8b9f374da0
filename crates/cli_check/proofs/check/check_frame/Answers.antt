use Rattle.std.proofs.Common.{◌≡◌, ◌≤◌, ℕ, List, Bool, true, false, length, take, drop, arith, sym, subst, ◌∙◌}
use Rattle.std.proofs.lemmas.Bool.{false≢true}
use Rattle.std.proofs.lemmas.Result.{err_from_is_err_and}
use Rattle.cli_check.specs.declared.check.Refusal.TheVariants.{Short, Long, Version, Spare, Spi, Mac}
use Rattle.cmac.specs.Cmac.{mac}
use Rattle.cli_check.specs.Check.{IsReserved, covered, parameter_index}
use Rattle.cli_check.proofs.Rooms.{trailer_in_room, field_in_room}
use Rattle.cli_check.proofs.check.check_frame.Goals as goal

-- an index that is not found reserved is not
not_reserved : (frame room : List ℕ) (found : Bool) → room ≡ drop 6 frame → found ≡ false
    → (IsReserved (take 2 room) → found ≡ true) → ¬ IsReserved (parameter_index frame)
not_reserved frame room found is none finds reserved =
    let there : IsReserved (take 2 room) = subst (λ (octets : List ℕ). IsReserved (take 2 octets)) (sym is) reserved in
    false≢true (sym none ∙ finds there)

pub returns-in_err-room-clause-refused : goal.returns-in_err-room-clause-refused
returns-in_err-room-clause-refused c =
    let p = err_from_is_err_and c.from_residual.result c.from_residual.ensures.1 in
    rw (p.1, p.2) (c.in_err-room.ensures.refused c.args.key.now)

pub returns-then-not-is_mac-clause-refused : goal.returns-then-not-is_mac-clause-refused
returns-then-not-is_mac-clause-refused c =
    let frame = c.args.frame.now in
    let room = c.in_ok-room.room.now in
    let before = c.in_ok-room.ensures.accepted.0 c.args.key.now in
    let behind = c.in_ok-room.ensures.accepted.1 in
    let long : 28 ≤ length frame = omega (arith, before Short (omega arith)) in
    record {
      fails = λ same.
          let right : mac c.args.key.now (covered frame) ≡ c.field_and_mac.result.1.now
          = same ∙ sym (c.field_and_mac.ensures.mac ∙ trailer_in_room frame room behind long) in
          false≢true (sym c.if-not-is_mac.true ∙ c.is_mac.ensures.1 right);
      first = elim [
        | Short ↦ λ below. before Short (omega arith)
        | Long ↦ λ below. before Long (omega arith)
        | Version ↦ λ below. before Version (omega arith)
        | Spare ↦ λ below. before Spare (omega arith)
        | Spi ↦ λ below. not_reserved frame room c.has_reserved_spi.result behind c.if-has_reserved_spi.false
            c.has_reserved_spi.ensures.1
        | Mac ↦ λ below. absurd (omega arith)
      ];
    }

pub returns-clause-accepted : goal.returns-clause-accepted
returns-clause-accepted c =
    let frame = c.args.frame.now in
    let room = c.in_ok-room.room.now in
    let before = c.in_ok-room.ensures.accepted.0 c.args.key.now in
    let behind = c.in_ok-room.ensures.accepted.1 in
    let long : 28 ≤ length frame = omega (arith, before Short (omega arith)) in (
      elim [
        | Short ↦ before Short (omega arith)
        | Long ↦ before Long (omega arith)
        | Version ↦ before Version (omega arith)
        | Spare ↦ before Spare (omega arith)
        | Spi ↦ not_reserved frame room c.has_reserved_spi.result behind c.if-has_reserved_spi.false
            c.has_reserved_spi.ensures.1
        | Mac ↦ λ wrong.
            wrong (c.is_mac.ensures.0 c.if-not-is_mac.false ∙ c.field_and_mac.ensures.mac
            ∙ trailer_in_room frame room behind long)
      ],
      c.field_and_mac.ensures.field ∙ field_in_room frame room behind long,
    )
