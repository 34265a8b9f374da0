-- What a search finds.
use Rattle.std.proofs.Common.{◌≡◌, ℕ, zero, suc, ◌<◌, Bool, true, false, cond, List, [], ◌∷◌, Option, Some, refl, sym}
use Rattle.std.proofs.Common.{subst, arith}
use Rattle.std.specs.List.{find, All, Any}
use Rattle.std.proofs.lemmas.Option.{same_Some}
use Rattle.sdls_base.specs.KeyId.{end_of}
use Rattle.key_book.specs.declared.key_row.KeyRow.{KeyRow}
use Rattle.key_book.specs.KeyRow.{IsKeyRow}
use Rattle.unit_state.specs.declared.state.State.{State}
use Rattle.unit_state.specs.State.{KeepsRules, key_row}

found_by : {X : Type 0} (P : X → Type 0) (b : Bool) (y x : X) (o : Option X) → P y → (o ≡ Some x → P x)
    → cond b (Some y) o ≡ Some x → P x
found_by P true y x o here there e = subst P (same_Some y x e) here
found_by P false y x o here there e = there e

-- what holds of each holds of what is found
pub found : {X : Type 0} (P : X → Type 0) (p : X → Bool) (xs : List X) (x : X) → find p xs ≡ Some x → All P xs → P x
found P p [] x e each = absurd (cc)
found P p (y ∷ ys) x e each =
    found_by P (p y) y x (find p ys) (each zero y (omega arith))
    (λ e. found P p ys x e (λ k d low. each (suc k) d (omega arith))) e

passes_by : {X : Type 0} (p : X → Bool) (b : Bool) (y x : X) (o : Option X) → p y ≡ b → (o ≡ Some x → p x ≡ true)
    → cond b (Some y) o ≡ Some x → p x ≡ true
passes_by p true y x o here there e = subst (λ z. p z ≡ true) (same_Some y x e) here
passes_by p false y x o here there e = there e

-- and it passes
pub found_passes : {X : Type 0} (p : X → Bool) (xs : List X) (x : X) → find p xs ≡ Some x → p x ≡ true
found_passes p [] x e = absurd (cc)
found_passes p (y ∷ ys) x e = passes_by p (p y) y x (find p ys) refl (λ e. found_passes p ys x e) e

there_by : {X : Type 0} (P : X → Type 0) (b : Bool) (y x : X) (ys : List X) (o : Option X) → P x
    → (o ≡ Some x → Any P ys) → cond b (Some y) o ≡ Some x → Any P (y ∷ ys)
there_by P true y x ys o holds there e = (zero, y, omega arith, refl, subst P (sym (same_Some y x e)) holds)
there_by P false y x ys o holds there e =
    let any = there e in
    let within = any.2 in
    (suc any.0, any.1, omega arith, any.3, any.4)

-- and it is one of them
pub found_there : {X : Type 0} (P : X → Type 0) (p : X → Bool) (xs : List X) (x : X) → find p xs ≡ Some x → P x
    → Any P xs
found_there P p [] x e holds = absurd (cc)
found_there P p (y ∷ ys) x e holds = there_by P (p y) y x ys (find p ys) holds (λ e. found_there P p ys x e holds) e

-- the rules of a key that is held
pub held_rules : (state : State) (key : ℕ) (held : KeyRow) → KeepsRules state → key_row state key ≡ Some held
    → IsKeyRow held
held_rules state key held rules e = found IsKeyRow _ state.keys held e rules.keys.rules.each

pub held_floor : (state : State) (key : ℕ) (held : KeyRow) → KeepsRules state → key_row state key ≡ Some held
    → held.floor < end_of held.id
held_floor state key held rules e = (held_rules state key held rules e).floor_below_end
