use Rattle.std.proofs.Common.{◌≡◌, ℕ, List, ◌++◌, ◌∙◌, ap, subst, Err}
use Rattle.record_io.specs.Answers.{answer_octets}
use Rattle.counter_table.specs.Worker.{view}
use Rattle.unit_book.specs.declared.fault.BookFault.{BookFault}
use Rattle.cli_run.specs.Putting.{PutsOctets}
use Rattle.cli_run.proofs.Puts.{octets_cut, octets_then}
use Rattle.cli_run.proofs.serving.Session.put_answer.Goals as goal

pub returns-in-Ok-clause-puts : goal.returns-in-Ok-clause-puts
returns-in-Ok-clause-puts g c =
    let whole : c.answer_header.result ++ c.as_slice.result.now ≡ answer_octets c.args.answer.now =
    ap (λ (l : List ℕ). c.answer_header.result ++ l) c.as_slice.ensures.octets ∙ c.answer_header.ensures.whole in
    subst (λ (l : List ℕ). PutsOctets g.O.Site.told l c.put_alone-in-Ok.result (view c.args.self.now.worker)
    (view c.put_alone-in-Ok.new.worker)) whole
    (octets_then g.O.Site.told c.answer_header.result c.as_slice.result.now c.in-Ok.field-0 c.put_alone-in-Ok.result
    (view c.args.self.now.worker) (view c.put_alone.new.worker)
    (view c.put_alone-in-Ok.new.worker) c.in-Ok.ensures.puts c.put_alone-in-Ok.ensures.puts)

pub returns-in-Err-clause-puts : goal.returns-in-Err-clause-puts
returns-in-Err-clause-puts g c =
    subst (λ (l : List ℕ). PutsOctets {T = Unit {0}} {E = BookFault} g.O.Site.told l (Err c.in-Err.fault)
    (view c.args.self.now.worker) (view c.put_alone.new.worker)) c.answer_header.ensures.whole
    (octets_cut g.O.Site.told c.answer_header.result c.args.answer.now.body c.in-Err.fault (view c.args.self.now.worker)
    (view c.put_alone.new.worker) c.in-Err.ensures.puts)
