use Rattle.std.proofs.Common.{◌≡◌, ◌+◌, ℕ, suc, List, [], ◌∷◌, ◌++◌, take, sym, ◌∙◌, ap, arith, append-nil}
use Rattle.std.proofs.Common.{append_assoc}
use Rattle.std.specs.Prelude.{map}
use Rattle.std.proofs.lemmas.List.{take_all}
use Rattle.fsr_log.specs.Noted.{Noted}
use Rattle.fsr_log.specs.Report.{report_of}
use Rattle.record_io.specs.declared.answers.Answer.{Answer}
use Rattle.record_io.specs.declared.item_cursor.Record.{Record}
use Rattle.run_promise.specs.Deed.{Deed, deed_of}
use Rattle.run_promise.specs.Sound.{noted_of}
use Rattle.law_workers.specs.Deeds.{deeds_of}
use Rattle.cli_run.proofs.Noting.{deeds_none, notes_more}
use Rattle.cli_run.proofs.running.note_all.Goals as goal

pub loop-place-init : goal.loop-place-init
loop-place-init c = λ notes number is.
    is ∙ ap report_of (sym (append-nil notes)) ∙ ap (λ (ds : List Deed). report_of (notes ++ map noted_of ds))
    (sym (deeds_none number c.args.records.now))

pub loop-place-preserved : goal.loop-place-preserved
loop-place-preserved c = λ notes number is.
    let records : List Record = c.args.records.now in
    let answers : List Answer = c.args.answers.now in
    let place : ℕ = c.loop-place.place in
    let so_far : List Noted = map noted_of (deeds_of number records (take place answers)) in
    let next : Noted = noted_of (deed_of number c.index-records-place.result c.index-answers-place.result) in
    let more = notes_more number records answers place c.index-records-place.result c.index-answers-place.result
    (let a = c.loop-place-test.true in let b = c.requires.few in omega arith) c.loop-place-test.true
    c.index-records-place.is c.index-answers-place.is in
    let one : suc place ≡ place + 1 = omega arith in
    c.note.ensures (notes ++ so_far) (c.loop-place.invariant notes number is)
    ∙ ap report_of (append_assoc notes so_far (next ∷ []) ∙ ap (λ (l : List Noted). notes ++ l) (sym more)
    ∙ ap (λ (n : ℕ). notes ++ map noted_of (deeds_of number records (take n answers))) one)

pub returns : goal.returns
returns c = λ notes number is.
    let all : take c.loop-place.place c.args.answers.now ≡ c.args.answers.now =
    take_all c.loop-place.place c.args.answers.now (omega arith) in
    c.loop-place.invariant notes number is
    ∙ ap (λ (l : List Answer). report_of (notes ++ map noted_of (deeds_of number c.args.records.now l))) all
