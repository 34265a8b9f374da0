use Rattle.std.proofs.Common.{ap, sym, subst, ◌∙◌}
use Rattle.counter_table.specs.declared.view.View.{View}
use Rattle.counter_table.specs.declared.view.Numbers.{Numbers}
use Rattle.counter_table.specs.declared.view.Turn.{Turn}
use Rattle.counter_table.specs.Worker.{view}
use Rattle.counter_table.specs.Numbers.{keeper, joined}
use Rattle.counter_table.specs.Turn.{filling, merged}
use Rattle.counter_table.specs.Known.{MayFill}
use Rattle.unit_book.specs.Book.{BookView}
use Rattle.unit_book.proofs.KeptLaws.{bounds_of}
use Rattle.shared_unit.proofs.Fresh.{may_fill}
use Rattle.shared_unit.specs.Told.{known_of_book}
use Rattle.shared_unit.proofs.Beginning.{begins}
use Rattle.shared_unit.proofs.Commands.{holds_gives, holds_visits}
use Rattle.shared_unit.proofs.Steps.{goes_itself}
use Rattle.shared_unit.proofs.unit.Unit.share_book.Goals as goal

pub fill-requires-clause-book : goal.fill-requires-clause-book
fill-requires-clause-book g c =
    subst (λ (b : BookView). MayFill (known_of_book b)) (sym c.in-Ok-new.ensures)
    (may_fill g.O.Site.told c.args.book c.requires.kept c.requires.first)

pub raise_all-requires-clause-marks : goal.raise_all-requires-clause-marks
raise_all-requires-clause-marks g c =
    λ row. (bounds_of c.take-held.result.book.state c.look.ensures.rules).to_highest row

pub give-requires-clause-book : goal.give-requires-clause-book
give-requires-clause-book g c =
    let found : BookView = c.take-held.result.book in
    holds_gives found found (view c.fill.new.worker).turn (view c.take-held.new.worker).turn
    (view c.raise_all.new.worker).turn
    c.take-held.ensures.turn c.raise_all.ensures.raised.holds (goes_itself found)

pub returns-clause-made : goal.returns-clause-made
returns-clause-made g c =
    let book : BookView = c.args.book in
    let found : BookView = c.take-held.result.book in
    let first = c.in-Ok-new-2.ensures.2 in
    let t : Turn = (view c.fill.new.worker).turn in
    let u : View = view c.give.new.worker in
    let other : View = view c.split-other.result in
    begins g.O.Site.told book found c.in-Ok-new-2.made.0 c.in-Ok.plan c.join.new.worker t
    (view c.take-held.new.worker) (view c.raise_all.new.worker) u
    (c.fill.ensures.turn ∙ ap (λ (b : BookView). filling (known_of_book b) (view c.in-Ok-new-2.made.1).turn)
    c.in-Ok-new.ensures
    ∙ ap (λ (x : View). filling (known_of_book book) x.turn) first)
    c.requires.first
    (holds_visits g.O.Site.told found found t (view c.take-held.new.worker).turn (view c.raise_all.new.worker).turn
    u.turn
    c.look.ensures c.look.ensures c.take-held.ensures.follows (goes_itself found) c.take-held.ensures.turn
    c.raise_all.ensures.raised.holds c.give.ensures.turn).takes
    (c.take-held.ensures.as_known
    (ap (λ (n : Numbers). n.shares) (c.fill.ensures.same.1 ∙ ap (λ (x : View). x.numbers) first)))
    c.requires.kept c.look.ensures
    (c.take-held.ensures.same.1 ∙ c.fill.ensures.same.1 ∙ ap (λ (x : View). x.numbers) first)
    c.raise_all.ensures.raised c.give.ensures.same.1
    (c.join.ensures.joined
    ∙ ap (λ (x : View). let r : View =
    record { numbers = joined x.numbers other.numbers; turn = merged x.turn other.turn } in
    r) c.split-other.ensures.keeper
    ∙ ap (λ (y : View). let r : View =
    record { numbers = joined (keeper u.numbers) y.numbers; turn = merged u.turn y.turn } in
    r) c.split-other.ensures.newcomer)
    c.join.ensures.ready c.join.ensures.whole
