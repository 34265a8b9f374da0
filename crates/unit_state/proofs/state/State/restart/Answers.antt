use Rattle.std.proofs.Common.{List, sym, subst}
use Rattle.std.specs.List.{All}
use Rattle.sa_book.specs.declared.sa_book.SaRow.{SaRow}
use Rattle.unit_state.specs.State.{HasKey}
use Rattle.unit_state.proofs.Held.{all_restarted}
use Rattle.unit_state.proofs.state.State.restart.Goals as goal

pub returns-clause-rules : goal.returns-clause-rules
returns-clause-rules c = λ rules. record {
  keys = rules.keys;
  associations = c.to_floors.ensures.rules rules.associations;
  held = subst (λ (rows : List SaRow). All (HasKey c.args.self.now.keys) rows) (sym c.to_floors.ensures.set)
      (all_restarted c.args.self.now.keys c.args.self.now.associations rules.held);
}
