use Rattle.std.proofs.Common.{rules, ◌≡◌, ◌+◌, ◌<◌, List, ap, ◌∙◌, sym, length, set, get_or, arith}
use Rattle.sdls_world.specs.declared.world.Key.{Key}
use Rattle.sdls_world.specs.Core.{Core}
use Rattle.sdls_world.proofs.Answering.{draw_is}
use Rattle.sdls_world.proofs.world.World.draw.Goals as goal

pub returns-clause-ok : goal.returns-clause-ok
returns-clause-ok c =
    let core = c.args.self.now in
    let actors : c.self.inside.actors.items ≡ core.actors = ap (λ w. w.actors) c.self.view_is in
    let place = c.in-Some.place in
    let b = c.index_mut.result.now in
    let reached : b ≡ get_or core.actors place b = c.index_mut.ensures.value ∙ ap (λ xs. get_or xs place b) actors in
    let row = c.in-Some-armed.row in
    let keys : c.self.inside.keys.items ≡ core.keys = ap (λ w. w.keys) c.self.view_is in
    let key = c.index-key.result.now in
    let key_is : key ≡ get_or core.keys row key = c.index-key.ensures ∙ ap (λ xs. get_or xs row key) keys in
    let low : row < length c.self.inside.keys.items = search rules in
    let same_length = ap (λ (xs : List Key). length xs) keys in
    let a' = c.draw.new.self in
    let next = c.in-Some-checked_add.next in
    let moved =
    ap (λ (z : Core). let r : Core = record z {
      keys = set z.keys row (record key { next = next });
      actors = set z.actors place a';
    } in r) c.self.view_is in
    let next_is : next ≡ key.next + 1 = search rules in
    moved ∙ draw_is core c.args.actor place c.in-Some.found.now b c.in-Some.ensures.found c.in-Some.ensures.there.1
    reached
    row next key a' (sym c.armed.ensures ∙ c.in-Some-armed.is) (omega arith) key_is next_is c.in_ok-draw.ensures.ok
