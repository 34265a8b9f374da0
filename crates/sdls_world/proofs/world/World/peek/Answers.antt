use Rattle.std.proofs.Common.{rules, ◌≡◌, ◌<◌, List, ap, ◌∙◌, sym, length, set, get_or, arith}
use Rattle.sdls_world.specs.declared.world.Key.{Key}
use Rattle.sdls_world.specs.Core.{Core}
use Rattle.sdls_world.proofs.Answering.{peek_is}
use Rattle.sdls_world.proofs.world.World.peek.Goals as goal

pub returns-clause-ok : goal.returns-clause-ok
returns-clause-ok c =
    let core = c.args.self.now in
    let actors : c.self.inside.actors.items ≡ core.actors = ap (λ w. w.actors) c.self.view_is in
    let place = c.in-Some.place in
    let b = c.index_mut.result.now in
    let reached : b ≡ get_or core.actors place b = c.index_mut.ensures.value ∙ ap (λ xs. get_or xs place b) actors in
    let row = c.in-Some-last.row in
    let number = c.in-Some-last.number in
    let keys : c.self.inside.keys.items ≡ core.keys = ap (λ w. w.keys) c.self.view_is in
    let key = c.index-key.result.now in
    let key_is : key ≡ get_or core.keys row key = c.index-key.ensures ∙ ap (λ xs. get_or xs row key) keys in
    let low : row < length c.self.inside.keys.items = search rules in
    let same_length = ap (λ (xs : List Key). length xs) keys in
    let a' = c.fund.new.self in
    let moved = ap (λ (z : Core). let r : Core = record z { actors = set z.actors place a' } in r) c.self.view_is in
    let below : number < key.limit = omega arith in
    moved ∙ peek_is core c.args.actor place c.in-Some.found.now b c.in-Some.ensures.found c.in-Some.ensures.there.1
    reached
    (row, number) key a' (sym c.last.ensures ∙ c.in-Some-last.is) (sym c.is_funded.ensures ∙ c.if-is_funded.false)
    (omega arith) key_is below c.in_ok-fund.ensures.ok
