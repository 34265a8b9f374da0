use Rattle.std.proofs.Common.{◌≡◌, ℕ, List, ◌∷◌, [], ◌++◌, ap, ◌∙◌, sym, set, get_or}
use Rattle.sdls_world.specs.Core.{Core}
use Rattle.sdls_world.proofs.Answering.{spend_is}
use Rattle.sdls_world.proofs.world.World.spend.Goals as goal

pub returns-clause-ok : goal.returns-clause-ok
returns-clause-ok c =
    let core = c.args.self.now in
    let actors : c.self.inside.actors.items ≡ core.actors = ap (λ w. w.actors) c.self.view_is in
    let place = c.in-Some.place in
    let b = c.index_mut.result.now in
    let reached : b ≡ get_or core.actors place b = c.index_mut.ensures.value ∙ ap (λ xs. get_or xs place b) actors in
    let pair = c.in-Some-last.pair in
    let a' = c.spend.new.self in
    let moved =
    ap (λ (z : Core). let r : Core = record z { actors = set z.actors place a'; used = z.used ++ pair ∷ [] } in
    r) c.self.view_is in
    let used : c.push_reserved.new.self.items ≡ c.self.inside.used.items ++ pair ∷ [] =
    c.push_reserved.ensures.items ∙ ap (λ xs. xs ++ pair ∷ []) c.in_ok-reserve.ensures.items in
    let grown =
    ap (λ (u : List (ℕ × ℕ)). let r : Core =
    record {
      keys = c.self.inside.keys.items;
      actors = set c.self.inside.actors.items place a';
      holder = c.self.inside.holder;
      epoch = c.self.inside.epoch;
      used = u;
    } in r) used in
    grown ∙ (moved ∙ spend_is core c.args.actor place c.in-Some.found.now b c.in-Some.ensures.found
    c.in-Some.ensures.there.1 reached
    pair a' (sym c.last.ensures ∙ c.in-Some-last.is) (sym c.is_funded.ensures ∙ c.if-not-is_funded.false)
    c.in_ok-spend.ensures.ok)
