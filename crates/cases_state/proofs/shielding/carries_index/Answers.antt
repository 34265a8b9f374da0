use Rattle.std.proofs.Common.{List, ℕ, ap, sym, take, ◌∙◌}
use Rattle.cases_state.proofs.shielding.carries_index.Goals as goal

pub returns-in-None : goal.returns-in-None
returns-in-None c = λ found. record {
  parts = c.body_of.ensures.parts;
  framed = c.body_of.ensures.framed;
  index = λ enough. ap (λ (l : List ℕ). take 2 l) (sym c.body_of.ensures.room) ∙ c.has_index.ensures found;
}
