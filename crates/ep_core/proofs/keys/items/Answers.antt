use Rattle.std.proofs.Common.{◌≡◌, ℕ, ◌+◌, ◌∷◌, [], ◌++◌, ◌<◌, length, get_or, drop, refl, sym, ap, ◌∙◌, arith}
use Rattle.std.proofs.Common.{length-drop}
use Rattle.std.proofs.lemmas.List.{get_or-drop, take_rest}
use Rattle.sdls_base.specs.declared.key_id.KeyItem.{KeyItem}
use Rattle.ep_core.proofs.ItemFacts.{going, whole, high_not_0, reads_on, read_all}
use Rattle.ep_core.proofs.keys.items.Goals as goal

pub loop-at-init : goal.loop-at-init
loop-at-init c = rw c.new-items.ensures.items (record { within = omega arith; right = c.requires.right; same = refl })

pub item-requires : goal.item-requires
item-requires c =
    let text = c.args.text.now in
    let at = c.loop-at.at in
    let some : 0 < length (drop at text) = omega (arith, length-drop at text) in
    let go = going _ at (drop at text) some c.loop-at.invariant.right in
    rw (take_rest text at) (record {
      whole = whole at (drop at text) go.1;
      session = high_not_0 at (drop at text) go.1;
    })

pub bounds-text-at : goal.bounds-text-at
bounds-text-at c =
    let text = c.args.text.now in
    let at = c.loop-at.at in
    let some : 0 < length (drop at text) = omega (arith, length-drop at text) in
    let go = going _ at (drop at text) some c.loop-at.invariant.right in
    omega (arith, length-drop at text, whole at (drop at text) go.1)

pub loop-at-preserved : goal.loop-at-preserved
loop-at-preserved c =
    let text = c.args.text.now in
    let at = c.loop-at.at in
    let count : c.from.result ≡ get_or (drop at text) 2 0 = c.from.ensures ∙ sym (get_or-drop at text 2 0) in
    let item = rw (take_rest text at) at c.in_ok-item.ensures in
    reads_on text c.loop-at.items.items c.push.new.self.items at (at + (3 + c.from.result)) c.loop-at-test.true
    c.loop-at.invariant
    (c.in_ok-push.ensures.items ∙ ap (λ (x : KeyItem). c.loop-at.items.items ++ x ∷ []) item)
    (ap (λ (n : ℕ). at + (3 + n)) count)

pub returns : goal.returns
returns c = c.new.ensures ∙ read_all c.args.text.now c.loop-at.items.items c.loop-at.at c.loop-at-test.false
    c.loop-at.invariant
