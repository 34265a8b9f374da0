use Rattle.std.proofs.Common.{ℕ, List, [], ◌++◌, ◌∙◌, sym, ap, subst, Ok}
use Rattle.record_io.specs.Answers.{answer_octets}
use Rattle.counter_table.specs.Worker.{view}
use Rattle.cli_run.specs.Putting.{TakesOctets}
use Rattle.cli_run.proofs.Puts.{takes_alone, takes_none}
use Rattle.cli_run.proofs.serving.Session.take_first.Goals as goal

pub returns-then-has_room-clause-takes : goal.returns-then-has_room-clause-takes
returns-then-has_room-clause-takes g c =
    subst (λ w. TakesOctets g.O.Site.told (answer_octets c.args.answer.now) (Ok tt) []
    c.keep_answer.new.self.piece.items (view c.args.self.now.worker) (view w))
    (sym c.keep_answer.ensures.others.1)
    (takes_none g.O.Site.told (answer_octets c.args.answer.now) [] c.keep_answer.new.self.piece.items
    (view c.args.self.now.worker)
    (c.keep_answer.ensures.piece ∙ ap (λ (l : List ℕ). l ++ answer_octets c.args.answer.now) c.requires.empty))

pub returns-clause-takes : goal.returns-clause-takes
returns-clause-takes g c =
    takes_alone g.O.Site.told (answer_octets c.args.answer.now) c.put_answer.new.self.piece.items c.put_answer.result
    (view c.args.self.now.worker) (view c.put_answer.new.self.worker)
    (ap (λ p. p.items) c.put_answer.ensures.piece ∙ c.requires.empty) c.put_answer.ensures.puts
