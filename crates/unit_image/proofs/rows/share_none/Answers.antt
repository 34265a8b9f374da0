use Rattle.std.proofs.Common.{ℕ, get_or, refl}
use Rattle.std.specs.Prelude.{Contains}
use Rattle.std.proofs.lemmas.List.Elements.{All-more, All-contains, Contains-get_or}
use Rattle.unit_image.proofs.Lists.{all_done}
use Rattle.unit_image.proofs.rows.share_none.Goals as goal

pub returns-then-covers : goal.returns-then-covers
returns-then-covers c = (
  λ t. absurd cc,
  λ none. absurd (none (get_or c.args.channels.now c.loop-channel.channel-index 0)
      (Contains-get_or c.args.channels.now c.loop-channel.channel-index 0 c.loop-channel-test.true)
      (c.covers.ensures.0 c.if-covers.true)),
)

pub loop-channel-preserved : goal.loop-channel-preserved
loop-channel-preserved c =
    All-more (λ (channel : ℕ). ¬ Contains c.args.others.now channel) c.args.channels.now c.loop-channel.channel-index 0
    c.loop-channel-test.true
    c.loop-channel.invariant (λ has. let told = c.covers.ensures.1 has in let not = c.if-covers.false in absurd cc)

pub returns : goal.returns
returns c =
    let all = all_done (λ (channel : ℕ). ¬ Contains c.args.others.now channel) c.args.channels.now
    c.loop-channel.channel-index c.loop-channel-test.false c.loop-channel.invariant in (
      λ t channel own other. All-contains (λ (channel : ℕ). ¬ Contains c.args.others.now channel) c.args.channels.now
          channel all own other,
      λ none. refl,
    )
