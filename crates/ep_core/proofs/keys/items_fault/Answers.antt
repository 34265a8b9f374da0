use Rattle.std.proofs.Common.{◌≡◌, ℕ, suc, ◌+◌, ◌-◌, ◌<◌, List, length, get_or, drop, None, sym, ap, ◌∙◌, arith}
use Rattle.std.proofs.Common.{length-drop}
use Rattle.std.proofs.lemmas.List.{drop-drop, get_or-drop, take_rest}
use Rattle.ep_core.specs.Sealed.{item_fault, items_fault}
use Rattle.ep_core.proofs.ItemFacts.{whole, ninth, later}
use Rattle.ep_core.proofs.keys.items_fault.Goals as goal

pub returns-then-left-eq0 : goal.returns-then-left-eq0
returns-then-left-eq0 c =
    let text = c.args.text.now in
    let some : 0 < length (drop c.loop-at.at text) = omega (arith, length-drop c.loop-at.at text) in
    sym (ninth c.loop-at.left c.loop-at.at (drop c.loop-at.at text) c.if-left-eq0.true some) ∙ c.loop-at.invariant.same

pub loop-at-preserved : goal.loop-at-preserved
loop-at-preserved c =
    let text = c.args.text.now in
    let at = c.loop-at.at in
    let left = c.loop-at.left in
    let s = drop at text in
    let some : 0 < length s = omega (arith, length-drop at text) in
    let none : item_fault at s ≡ None = sym (rw (take_rest text at) at c.item_fault.ensures) ∙ c.in_default.is in
    let count : c.from.result ≡ get_or s 2 0 = c.from.ensures ∙ sym (get_or-drop at text 2 0) in
    let long = whole at s none in
    let more : left ≡ suc (left - 1) = omega arith in
    rw count (record {
      left = omega arith;
      within = omega (arith, length-drop at text);
      same = sym (later left (left - 1) at s more some none
          ∙ ap (λ (x : List ℕ). items_fault (left - 1) (at + (3 + get_or s 2 0)) x)
          (drop-drop (3 + get_or s 2 0) at text))
          ∙ c.loop-at.invariant.same;
    })
