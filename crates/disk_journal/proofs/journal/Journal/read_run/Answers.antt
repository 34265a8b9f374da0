use Rattle.std.proofs.Common.{◌≡◌, ℕ, ◌+◌, ◌*◌, ◌<◌, ◌≤◌, ◌∙◌, length, take, drop, ap, arith}
use Rattle.std.proofs.lemmas.List.{length-take-le}
use Rattle.disk_journal.specs.declared.layout.TheConstants.{SLOT_LENGTH}
use Rattle.disk_journal.specs.Journal.{JournalView}
use Rattle.disk_journal.proofs.Runs.{body_of_run, run_within}
use Rattle.disk_journal.proofs.journal.Journal.read_run.Goals as goal

pub read_at-requires : goal.read_at-requires
read_at-requires g c = λ told.
    let used : c.self.inside.used ≡ c.args.self.now.used =
    ap (λ (journal : JournalView). journal.used) c.self.view_is in
    let n : ℕ = SLOT_LENGTH * c.min-count.result in
    let whole : length (take n c.args.run.now.slots) ≡ n = length-take-le n c.args.run.now.slots (omega arith) in
    let within = run_within (g.O.Site.trace c.args.site.now) c.args.self.now c.args.index c.min-count.result
    c.record_at.result
    (c.requires.opened told) (omega arith) (omega arith) c.record_at.ensures.is in
    omega (arith, within, whole)

pub returns-clause-run : goal.returns-clause-run
returns-clause-run g c = λ told i has.
    let used : c.self.inside.used ≡ c.args.self.now.used =
    ap (λ (journal : JournalView). journal.used) c.self.view_is in
    let n : ℕ = SLOT_LENGTH * c.min-count.result in
    let slots = c.args.run.now.slots in
    let whole : length (take n slots) ≡ n = length-take-le n slots (omega arith) in
    let within = run_within (g.O.Site.trace c.args.site.now) c.args.self.now c.args.index c.min-count.result
    c.record_at.result
    (c.requires.opened told) (omega arith) (omega arith) c.record_at.ensures.is in
    let low : c.args.index ≤ i = has.low in
    let high : i < c.args.index + c.min-count.result = has.high in
    body_of_run (g.O.Site.trace c.args.site.now) c.args.self.now c.read_at.new.into
    (drop n slots) c.args.index i n c.record_at.result
    (c.requires.opened told) low (omega arith) c.record_at.ensures.is
    (c.in_ok-read_at.ensures.read told
    ∙ ap (λ (size : ℕ). take size (drop c.record_at.result (g.O.Site.trace c.args.site.now).now.image)) whole)
    (omega arith) within
