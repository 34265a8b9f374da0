-- What was copied is the front of what was left.
use Rattle.std.proofs.Common.{◌≡◌, ℕ, ◌+◌, ◌-◌, ◌≤◌, ◌++◌, length, take, drop, List, sym, ◌∙◌, ap, arith, min}
use Rattle.std.proofs.lemmas.List.{take-append-drop, take_at, drop-drop, take_rest}
use Rattle.std.proofs.lemmas.Grind.{common_steps}
use Rattle.sdls_outside.proofs.mem_source.SureSource.move_front.Goals as goal

-- a copied front, the rest of the piece behind it, and what is left after it
front : (octets copied behind : List ℕ) (taken count : ℕ) → count + taken ≤ length octets
    → copied ≡ take count (take (length octets - taken) (drop taken octets))
    → drop taken octets ≡ take count (copied ++ behind) ++ drop (taken + count) octets
front octets copied behind taken count fits same =
    let rest : copied ≡ take count (drop taken octets) = same ∙ ap (take count) (take_rest octets taken) in
    let long : length copied ≡ count = grind (arith, common_steps) in
    rw (take_at copied behind count long, rest, ← drop-drop count taken octets)
    (sym (take-append-drop count (drop taken octets)))

pub returns-clause-moved : goal.returns-clause-moved
returns-clause-moved c =
    let source = c.args.self.now in
    let count = c.min-count.result in
    let shown : ℕ → List ℕ → List ℕ = λ n xs. take n (take (length xs - source.taken) (drop source.taken xs)) in
    let within : source.taken ≤ length source.octets.items = source.within in
    let same : count ≡ min c.min.result
    (length (take (length source.octets.items - source.taken) (drop source.taken source.octets.items))) =
    c.min-count.ensures ∙ ap (λ (xs : List ℕ).
    min c.min.result (length (take (length xs - source.taken) (drop source.taken xs)))) c.deref.ensures.value in
    let fits : count + source.taken ≤ length source.octets.items = grind (arith, common_steps) in
    front source.octets.items _ _ source.taken count fits
    (c.copy_from_slice.ensures.after ∙ ap (shown count) c.deref.ensures.value)
