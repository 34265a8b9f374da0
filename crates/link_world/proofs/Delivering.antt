-- Deliveries one by one: for `add_turns`, `add_lates` and `add_deliveries`.
use Rattle.std.proofs.Common.{◌≡◌, ℕ, suc, ◌+◌, List, [], ◌∷◌, ◌++◌, map, refl, sym, ap, ◌∙◌, arith, append_assoc}
use Rattle.link_world.specs.declared.link.LinkEvent.{LinkEvent}
use Rattle.link_world.specs.declared.link.LinkEvent.TheVariants.{Deliver}
use Rattle.link_world.specs.Fate.{fate_of}
use Rattle.link_world.specs.Chunk.{deliveries, in_turn, late, lates, turns}

pub map_append : (xs ys : List ℕ) → map Deliver (xs ++ ys) ≡ map Deliver xs ++ map Deliver ys
map_append [] ys = refl
map_append (x ∷ xs) ys = ap (λ (l : List LinkEvent). Deliver x ∷ l) (map_append xs ys)

append_none : (xs : List LinkEvent) → xs ≡ xs ++ []
append_none [] = refl
append_none (x ∷ xs) = ap (λ (l : List LinkEvent). x ∷ l) (append_none xs)

pub none_yet : (events : List LinkEvent) → events ≡ events ++ map Deliver []
none_yet events = append_none events

two : (events all : List LinkEvent) (xs ys : List ℕ) → all ≡ events ++ map Deliver xs
    → all ++ map Deliver ys ≡ events ++ map Deliver (xs ++ ys)
two events all xs ys are =
    ap (λ (l : List LinkEvent). l ++ map Deliver ys) are ∙ append_assoc events (map Deliver xs) (map Deliver ys)
    ∙ ap (λ (l : List LinkEvent). events ++ l) (sym (map_append xs ys))

pub one_turn : (events all more : List LinkEvent) (k : ℕ) → all ≡ events ++ map Deliver (turns k)
    → more ≡ all ++ map Deliver (in_turn k (fate_of k)) → more ≡ events ++ map Deliver (turns (k + 1))
one_turn events all more k are is =
    is ∙ two events all (turns k) (in_turn k (fate_of k)) are
    ∙ ap (λ (n : ℕ). events ++ map Deliver (turns n)) (let e : suc k ≡ k + 1 = omega arith in e)

pub one_late : (events all more : List LinkEvent) (k : ℕ) → all ≡ events ++ map Deliver (lates k)
    → more ≡ all ++ map Deliver (late k (fate_of k)) → more ≡ events ++ map Deliver (lates (k + 1))
one_late events all more k are is =
    is ∙ two events all (lates k) (late k (fate_of k)) are
    ∙ ap (λ (n : ℕ). events ++ map Deliver (lates n)) (let e : suc k ≡ k + 1 = omega arith in e)

pub both_parts : (events all more : List LinkEvent) (count : ℕ) → all ≡ events ++ map Deliver (turns count)
    → more ≡ all ++ map Deliver (lates count) → more ≡ events ++ map Deliver (deliveries count)
both_parts events all more count are is = is ∙ two events all (turns count) (lates count) are
