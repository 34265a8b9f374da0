use Rattle.std.proofs.Common.{◌≡◌, Bool, true, false, ◌&&◌, nat_eq, refl, ap, ◌∙◌}
use Rattle.replay_window.specs.TakenBack.{bits_of-taken_of}
use Rattle.replay_window.proofs.window.WindowPartialEq.eq.Goals as goal

grouped : (h w b k t : Bool) → ((((h && w) && b) && k) && t) ≡ (h && (w && (b && (k && t))))
grouped true true true k t = refl
grouped true true false k t = refl
grouped true false b k t = refl
grouped false w b k t = refl

pub returns : goal.returns
returns c =
    let one = c.t1-1.inside in
    let other = c.t2-1.inside in
    let bits = bits_of-taken_of one.base one.high one.taken c.t1-1.invariant in
    let more = bits_of-taken_of other.base other.high other.taken c.t2-1.invariant in
    rw (← c.t1-1.view_is, ← c.t2-1.view_is, bits, more)
    (c.and_eq-4.ensures
    ∙ ap (λ (b : Bool). b && nat_eq one.taken other.taken) (c.and_eq-3.ensures
    ∙ ap (λ (b : Bool). b && nat_eq one.back other.back) (c.and_eq-2.ensures
    ∙ ap (λ (b : Bool). b && nat_eq one.base other.base) (c.and_eq.ensures
    ∙ ap (λ (b : Bool). b && nat_eq one.width other.width) c.eq.ensures)))
    ∙ grouped (nat_eq one.high other.high) (nat_eq one.width other.width) (nat_eq one.base other.base)
    (nat_eq one.back other.back) (nat_eq one.taken other.taken))
