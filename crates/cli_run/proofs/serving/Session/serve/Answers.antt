use Rattle.std.proofs.Common.{◌≤◌, List, length, sym, ◌∙◌, subst, Result}
use Rattle.fsr_log.specs.Report.{Report}
use Rattle.record_io.specs.declared.answers.Answer.{Answer}
use Rattle.record_io.specs.Answers.{IsAnswer, answers_octets}
use Rattle.std.specs.List.{All}
use Rattle.counter_table.specs.declared.view.View.{View}
use Rattle.counter_table.specs.Worker.{view}
use Rattle.unit_book.specs.declared.fault.BookFault.{BookFault}
use Rattle.cli_run.specs.Putting.{PutsOctets}
use Rattle.cli_run.specs.Reporting.{NotesAll}
use Rattle.cli_run.specs.Serving.{ServesSegment}
use Rattle.cli_run.specs.declared.serving.Stop.{Stop}
use Rattle.frame_workers.proofs.Kept.{kept_later}
use Rattle.law_workers.specs.Deeds.{deeds_of}
use Rattle.law_workers.proofs.Counted.{counted_plain}
use Rattle.cli_run.proofs.Noting.{plain_at, plain_counts, plain_reported}
use Rattle.cli_run.proofs.Served.{began_with, begin_with, few_answers, same_opening, serves}
use Rattle.cli_run.proofs.serving.Session.serve.Goals as goal

pub note_all-requires : goal.note_all-requires
note_all-requires g c =
    let told = g.O.Site.told in
    let v : View = view c.args.self.now.worker in
    let few = few_answers (begin_with told v.turn.known.opening) v (view c.run_segment_by.new.worker) c.args.records.now
    c.in-Ok.segment.answers.items c.in-Ok.segment.full
    (c.in-Ok.ensures.handles.full (begin_with told v.turn.known.opening) (began_with told v.turn.known.opening)) in
    record { few = subst (λ (l : List Answer). length l ≤ length c.args.records.now) (sym c.deref.ensures.value) few }

pub put_answers-put-requires : goal.put_answers-put-requires
put_answers-put-requires g c = record {
  alone = record {
    ready = c.run_segment_by.ensures.ready;
    shares = c.run_segment_by.ensures.shares ∙ c.requires.alone.shares;
    whole = c.in-Ok.ensures.handles.whole c.requires.alone.shares;
  };
}

pub returns-clause-opening : goal.returns-clause-opening
returns-clause-opening g c =
    let told = g.O.Site.told in
    let v : View = view c.args.self.now.worker in
    let mid : View = view c.run_segment_by.new.worker in
    let w : View = view c.put_answers-put.new.self.worker in
    let answers : List Answer = c.in-Ok.segment.answers.items in
    let result : Result (Unit {0}) BookFault = c.put_answers-put.result in
    let old : Report = c.args.self.now.log in
    let new : Report = c.put_answers-put.new.self.log in
    same_opening told v mid w c.args.records.now c.requires.ascend answers result c.in-Ok.ensures.handles.handled
    c.in-Ok.ensures.handles.alone
    (λ b number b_began. counted_plain b v mid c.args.records.now (deeds_of number c.args.records.now answers)
    (plain_counts number c.args.records.now answers c.requires.plain) (c.in-Ok.ensures.handles.moved b number b_began))
    (subst (λ (l : List Answer). PutsOctets told (answers_octets l) result mid w) c.deref-2.ensures.value
    c.put_answers-put.ensures.puts)
    old new
    (subst (NotesAll c.args.records.now answers old) (sym c.put_answers-put.ensures.logged)
    (subst (λ (l : List Answer). NotesAll c.args.records.now l old c.note_all.new.log) c.deref.ensures.value
    c.note_all.ensures))
    (λ notes number is. plain_reported notes number c.args.records.now answers c.requires.plain)
    (subst (All IsAnswer) c.deref-3.ensures.value c.answers_have_widths.ensures)
    (plain_at c.args.records.now c.requires.plain (length answers))

pub returns-clause-serves : goal.returns-clause-serves
returns-clause-serves g c = λ begin began.
    let told = g.O.Site.told in
    let v : View = view c.args.self.now.worker in
    let mid : View = view c.run_segment_by.new.worker in
    let w : View = view c.put_answers-put.new.self.worker in
    let answers : List Answer = c.in-Ok.segment.answers.items in
    let result : Result (Unit {0}) BookFault = c.put_answers-put.result in
    let old : Report = c.args.self.now.log in
    let new : Report = c.put_answers-put.new.self.log in
    subst (λ (r : Result (Unit {0}) Stop). ServesSegment begin c.args.records.now r v w old new)
    (sym c.stop_after.ensures)
    (serves told v mid w c.args.records.now c.requires.ascend answers result c.in-Ok.ensures.handles.handled
    c.in-Ok.ensures.handles.alone
    (λ b number b_began. counted_plain b v mid c.args.records.now (deeds_of number c.args.records.now answers)
    (plain_counts number c.args.records.now answers c.requires.plain) (c.in-Ok.ensures.handles.moved b number b_began))
    (subst (λ (l : List Answer). PutsOctets told (answers_octets l) result mid w) c.deref-2.ensures.value
    c.put_answers-put.ensures.puts)
    old new
    (subst (NotesAll c.args.records.now answers old) (sym c.put_answers-put.ensures.logged)
    (subst (λ (l : List Answer). NotesAll c.args.records.now l old c.note_all.new.log) c.deref.ensures.value
    c.note_all.ensures))
    (λ notes number is. plain_reported notes number c.args.records.now answers c.requires.plain)
    (subst (All IsAnswer) c.deref-3.ensures.value c.answers_have_widths.ensures)
    (plain_at c.args.records.now c.requires.plain (length answers))
    begin began c.requires.alone.whole (c.in-Ok.ensures.handles.whole c.requires.alone.shares)
    c.put_answers-put.ensures.alone.whole
    c.in-Ok.segment.full (c.in-Ok.ensures.handles.full begin began))

pub returns-clause-kept : goal.returns-clause-kept
returns-clause-kept g c =
    let told = g.O.Site.told in
    let mid : View = view c.run_segment_by.new.worker in
    let w : View = view c.put_answers-put.new.self.worker in
    kept_later mid w (c.put_answers-put.ensures.puts.leaves.puts (begin_with told mid.turn.known.opening)
    (began_with told mid.turn.known.opening)).does.grows c.run_segment_by.new.kept c.run_segment_by.ensures.kept
