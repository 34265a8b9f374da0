use Rattle.std.proofs.Common.{◌≡◌, List, ℕ, take, sym, subst, refl, ap, ◌∙◌, ◌+◌, ◌-◌, ◌*◌, ◌/◌, ◌++◌, length, arith}
use Rattle.std.proofs.Common.{min}
use Rattle.std.proofs.lemmas.List.{length-take, take_rest}
use Rattle.aes_block.specs.Aes.{encrypted}
use Rattle.cmac.specs.Cmac.{before_last, xored}
use Rattle.cmac.specs.Running.{Kept, Holds}
use Rattle.cmac.proofs.ChainFacts.{full_is_chained, after_full, chained_holds, put_front}
use Rattle.cmac.proofs.running.Running.chain.Goals as goal

pub returns-clause-more : goal.returns-clause-more
returns-clause-more c = λ m holds_now.
    let octets : List ℕ = c.args.octets.now in
    let s = c.self.inside in
    let kept : Kept = record { key = s.key.now; chained = s.chained; rest = take s.used s.held } in
    let n : ℕ = (length octets - 1) / 16 in
    let holds : Holds kept m = subst (λ (k : Kept). Holds k m) (sym c.self.view_is) holds_now in
    let full : length (take s.used s.held) ≡ 16 = ap (λ (k : Kept). length k.rest) c.self.view_is ∙ c.requires.whole in
    let count : length (take s.used s.held) ≡ min s.used (length s.held) = length-take s.used s.held in
    let all : 16 ≡ s.used = omega (arith, c.self.told.1, c.self.invariant) in
    chained_holds kept m octets c.chained_over.result _ n holds full c.requires.more refl
    (c.chained_over.ensures (m ++ octets) (before_last (length m) + 1)
    (full_is_chained kept m octets c.chained_on-first.result holds full
    (c.chained_on-first.ensures ∙ ap (λ (k : ℕ). encrypted s.key.now (xored s.chained (take k s.held))) all))
    (after_full kept m octets holds full))
    (put_front _ _ _ octets (16 * n) c.copy_from_slice.ensures.after (take_rest octets (16 * n)))
