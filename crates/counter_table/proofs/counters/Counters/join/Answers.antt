use Rattle.std.proofs.Common.{rules, ℕ, List, ◌≡◌, ◌≤◌, ◌++◌, ◌∙◌, ap, arith, subst}
use Rattle.sdls_base.specs.Numbers.{tally}
use Rattle.counter_table.proofs.Sums.{times-append}
use Rattle.counter_table.specs.Turn.{merged}
use Rattle.counter_table.proofs.Meeting.{meets}
use Rattle.counter_table.proofs.Slots.{no_slots}
use Rattle.counter_table.proofs.Holding.{joins_keep}
use Rattle.counter_table.proofs.counters.Counters.join.Goals as goal

pub join_seat-requires : goal.join_seat-requires
join_seat-requires g c =
    let sized = c.args.self.now.sized in
    let is = c.into_seat-seat.ensures in (
      search rules,
      search rules,
      rw is (no_slots _ _ c.requires.free c.args.other.slots),
      search rules,
      rw is (joins_keep _ _ _ _ _ _ c.args.worker.now.alive c.requires.free),
    )

pub returns-clause-apart : goal.returns-clause-apart
returns-clause-apart g c row x below =
    let mine = c.args.worker.now.seat.me.0.numbers.drawn in
    let its = c.args.other.seat.me.0.numbers.drawn in
    let drawn : c.join_seat.new.seat.me.0.numbers.drawn ≡ mine ++ its =
    ap (λ m. m.0.numbers.drawn) c.join_seat.ensures.2 ∙ ap (λ s. mine ++ s.me.0.numbers.drawn)
    c.into_seat-seat.ensures in
    let once : tally row x (mine ++ its) ≤ 1 =
    subst (λ (z : List (ℕ × ℕ)). tally row x z ≤ 1) drawn (c.look.ensures.apart row x below) in
    omega (arith, times-append row x mine its)

pub returns-clause-meet : goal.returns-clause-meet
returns-clause-meet g c free filled =
    let mine = c.args.worker.now.seat.me.0.turn in
    let is : c.join_seat.new.seat.me.0.turn ≡ merged mine c.args.other.seat.me.0.turn =
    ap (λ m. m.0.turn) c.join_seat.ensures.2 ∙ ap (λ s. merged mine s.me.0.turn) c.into_seat-seat.ensures in
    meets mine c.args.other.seat.me.0.turn c.join_seat.new.seat.me.0.turn is free filled c.look.ensures.look
