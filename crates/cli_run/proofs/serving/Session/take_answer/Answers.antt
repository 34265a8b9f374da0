use Rattle.std.proofs.Common.{sym, subst, Ok}
use Rattle.record_io.specs.Answers.{answer_octets}
use Rattle.counter_table.specs.Worker.{view}
use Rattle.cli_run.specs.Putting.{TakesOctets}
use Rattle.cli_run.proofs.Puts.{takes_cut, takes_next, takes_none}
use Rattle.cli_run.proofs.serving.Session.take_answer.Goals as goal

pub returns-then-has_room-clause-takes : goal.returns-then-has_room-clause-takes
returns-then-has_room-clause-takes g c =
    subst (λ w. TakesOctets g.O.Site.told (answer_octets c.args.answer.now) (Ok tt) c.args.self.now.piece.items
    c.keep_answer.new.self.piece.items (view c.args.self.now.worker) (view w))
    (sym c.keep_answer.ensures.others.1)
    (takes_none g.O.Site.told (answer_octets c.args.answer.now) c.args.self.now.piece.items
    c.keep_answer.new.self.piece.items (view c.args.self.now.worker)
    c.keep_answer.ensures.piece)

pub returns-in-Ok-clause-takes : goal.returns-in-Ok-clause-takes
returns-in-Ok-clause-takes g c =
    takes_next g.O.Site.told (answer_octets c.args.answer.now) c.args.self.now.piece.items
    c.take_first.new.self.piece.items c.in-Ok.field-0 c.take_first.result
    (view c.args.self.now.worker) (view c.put_piece.new.self.worker) (view c.take_first.new.self.worker)
    c.in-Ok.ensures.puts c.take_first.ensures.takes

pub returns-in-Err-clause-takes : goal.returns-in-Err-clause-takes
returns-in-Err-clause-takes g c =
    takes_cut g.O.Site.told (answer_octets c.args.answer.now) c.args.self.now.piece.items
    c.put_piece.new.self.piece.items c.in-Err.fault
    (view c.args.self.now.worker) (view c.put_piece.new.self.worker) c.in-Err.ensures.puts
