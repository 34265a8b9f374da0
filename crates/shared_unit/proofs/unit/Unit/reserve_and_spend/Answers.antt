use Rattle.std.proofs.Common.{◌≡◌, ◌<◌, ◌≤◌, ℕ, arith, subst, Ok, ◌∙◌, rules}
use Rattle.counter_table.specs.Numbers.{top}
use Rattle.counter_table.specs.Known.{known_mark}
use Rattle.counter_table.specs.Worker.{view}
use Rattle.unit_book.specs.Book.{BookView}
use Rattle.shared_unit.specs.Told.{known_of_book}
use Rattle.shared_unit.specs.Funding.{Reserves}
use Rattle.shared_unit.proofs.Places.{place_there}
use Rattle.shared_unit.proofs.Reserved.{reserved_mark, lifts}
use Rattle.shared_unit.proofs.Steps.{keeps_more}
use Rattle.shared_unit.proofs.Tops.{funded_after_lift}
use Rattle.shared_unit.proofs.unit.Unit.reserve_and_spend.Goals as goal

pub reserve-requires-clause-there : goal.reserve-requires-clause-there
reserve-requires-clause-there g c = place_there c.args.held.now.book.state.keys c.args.key c.args.row c.requires.place

pub lift-requires-clause-marks : goal.lift-requires-clause-marks
lift-requires-clause-marks g c =
    keeps_more (view c.args.worker.now).turn.known c.args.held.now.book c.reserve.new.self c.requires.marks
    c.reserve.ensures.goes_on

pub unreachable-requires : goal.unreachable-requires
unreachable-requires g c =
    let given : BookView = c.reserve.new.self in
    let r = c.in_ok-reserve.ensures.reserved in
    let p = c.in_default.ensures.found in
    let row = c.requires.ticket.0 in
    let number = c.number-number.ensures in
    let low : c.number-number.result < known_mark (known_of_book given) c.args.row =
    reserved_mark c.args.key c.number-number.result _ c.args.row c.args.held.now.book given r c.requires.place in
    let seen : top c.args.row (view c.lift.new.worker).numbers.limits ≤ p.0 =
    subst (λ (q : ℕ). top q (view c.lift.new.worker).numbers.limits ≤ p.0) row p.1 in
    let below : c.args.ticket.1 < p.0 =
    funded_after_lift c.args.row c.args.ticket.1 (known_mark (known_of_book given) c.args.row) p.0
    (view c.args.worker.now).numbers (view c.lift.new.worker).numbers
    c.lift.ensures.numbers seen (omega arith) in
    let back = p.3.1 in
    omega arith

pub returns-clause-funded : goal.returns-clause-funded
returns-clause-funded g c =
    let found : BookView = c.args.held.now.book in
    let given : BookView = c.reserve.new.self in
    let number : c.number-number.result ≡ c.args.ticket.1 = c.number-number.ensures in
    let r = subst (λ (n : ℕ). Reserves c.args.key n (Ok c.in_ok-reserve.field-0) found given) number
    c.in_ok-reserve.ensures.reserved in
    let p = c.in-Ok.ensures.found in (
      p.3.0 ∙ search rules,
      (_, r),
      lifts c.args.row c.args.ticket.1 (known_mark (known_of_book given) c.args.row) p.0 c.args.ticket.0
          (view c.args.worker.now).numbers (view c.lift.new.worker).numbers
          (view c.peek_limit.new.worker).numbers c.requires.ticket.0 c.lift.ensures.numbers p.2 p.3.1
          (reserved_mark c.args.key c.args.ticket.1 _ c.args.row found given r c.requires.place),
      c.peek_limit.ensures.same.1 ∙ c.lift.ensures.turn,
    )
