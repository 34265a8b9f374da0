use Rattle.std.proofs.Common.{◌≡◌, ◌≤◌, List, ℕ, true, sym, subst, ◌∙◌}
use Rattle.std.specs.List.{All}
use Rattle.std.specs.Prelude.{IsTrue}
use Rattle.std.proofs.lemmas.List.Elements.{All-from_recursion}
use Rattle.sdls_base.specs.Bounds.{AreChannels}
use Rattle.unit_plan.specs.AssociationLine.{are_channel_ids}
use Rattle.input_text.proofs.commands.channels.Goals as goal

pub returns-else-are_channel_ids-clause-only : goal.returns-else-are_channel_ids-clause-only
returns-else-are_channel_ids-clause-only c listed are small spelled =
    let same = c.as_slice.ensures ∙ c.in_ok-numbers.ensures.only listed small are.one are.most spelled in
    absurd (cc (sym (c.are_channel_ids.ensures.bounds.1 (
      subst AreChannels (sym same) are,
      subst (All (λ n. n ≤ 63)) (sym same) (All-from_recursion (λ n. n ≤ 63) listed small),
    )) ∙ c.if-are_channel_ids.false))
