use Rattle.std.proofs.Common.{◌∙◌, ap, subst, sym}
use Rattle.std.specs.Prelude.{IsTrue}
use Rattle.disk_journal.specs.Journal.{JournalView, IsSettled}
use Rattle.disk_journal.specs.Changes.{KeepsBeside}
use Rattle.disk_journal.proofs.Ends.{Turn, turn_within, turn_moments, turn_stored, turn_rest, turn_beside}
use Rattle.disk_journal.proofs.journal.Journal.turn.Given as given
use Rattle.disk_journal.proofs.journal.Journal.turn.Goals as goal
use Rattle.disk_journal.proofs.journal.Journal.turn.Goals.{After-bank_at-to}

-- the turn that begins
abbrev turn_of : (g : given.Over) (c : After-bank_at-to g) → IsTrue g.O.Site.told → Turn
turn_of g c told =
    let old = g.O.Site.trace c.args.site.now in
    let journal : JournalView = record {
      plan_length = c.self.inside.plan_length;
      layout = c.self.inside.layout;
      bank = c.self.inside.bank;
      generation = c.self.inside.generation;
      used = c.self.inside.used;
    } in
    let settled : IsSettled old journal =
    subst (λ (view : JournalView). IsSettled old view) (sym c.self.view_is) (c.requires.settled told) in
    record {
      old = old;
      journal = journal;
      text = c.args.content.now;
      from = c.bank_at-from.result;
      to = c.bank_at-to.result;
      generation = c.next_generation-generation.result;
      bank = c.other-bank.result;
      of_image = settled.of_image;
      sized = c.requires.sized ∙ ap (λ (view : JournalView). view.layout.content_length) (sym c.self.view_is);
      from_is = c.bank_at-from.ensures;
      bank_is = c.other-bank.ensures;
      to_is = c.bank_at-to.ensures;
      later = c.next_generation-generation.ensures;
    }

pub turn_banks-requires-clause-within : goal.turn_banks-requires-clause-within
turn_banks-requires-clause-within g c = λ told.
    turn_within (turn_of g (goal.at.turn_banks-requires-clause-within g c).After-bank_at-to told)

pub returns-in-Err-clause-becomes : goal.returns-in-Err-clause-becomes
returns-in-Err-clause-becomes g c = λ told.
    let turn = turn_of g (goal.at.returns-in-Err-clause-becomes g c).After-bank_at-to told in
    turn_moments turn (g.O.Site.trace c.turn_banks.new.site) (c.turn_banks.ensures.any_moment told)

pub returns-in-Ok-clause-becomes : goal.returns-in-Ok-clause-becomes
returns-in-Ok-clause-becomes g c = λ told.
    let turn = turn_of g (goal.at.returns-in-Ok-clause-becomes g c).After-bank_at-to told in
    turn_moments turn (g.O.Site.trace c.turn_banks.new.site) (c.turn_banks.ensures.any_moment told)

pub returns-in-Ok-clause-stored : goal.returns-in-Ok-clause-stored
returns-in-Ok-clause-stored g c = λ told.
    let turn = turn_of g (goal.at.returns-in-Ok-clause-stored g c).After-bank_at-to told in
    (turn_stored turn (g.O.Site.trace c.turn_banks.new.site) (c.in-Ok.ensures.turned told)).0

pub returns-in-Ok-clause-holds : goal.returns-in-Ok-clause-holds
returns-in-Ok-clause-holds g c = λ told.
    let turn = turn_of g (goal.at.returns-in-Ok-clause-holds g c).After-bank_at-to told in
    (turn_stored turn (g.O.Site.trace c.turn_banks.new.site) (c.in-Ok.ensures.turned told)).1

pub returns-in-Ok-clause-rest : goal.returns-in-Ok-clause-rest
returns-in-Ok-clause-rest g c = λ told.
    let turn = turn_of g (goal.at.returns-in-Ok-clause-rest g c).After-bank_at-to told in
    turn_rest turn (g.O.Site.trace c.turn_banks.new.site) (c.in-Ok.ensures.turned told)

pub returns-in-Ok-clause-beside : goal.returns-in-Ok-clause-beside
returns-in-Ok-clause-beside g c = λ told.
    let turn = turn_of g (goal.at.returns-in-Ok-clause-beside g c).After-bank_at-to told in
    subst (λ (view : JournalView). KeepsBeside view.layout turn.old.now.image
    (g.O.Site.trace c.turn_banks.new.site).now.image) c.self.view_is
    (turn_beside turn (g.O.Site.trace c.turn_banks.new.site) (c.in-Ok.ensures.turned told))
