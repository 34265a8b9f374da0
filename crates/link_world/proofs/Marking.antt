-- What has arrived so far.
use Rattle.std.proofs.Common.{◌≡◌, ℕ, zero, suc, ◌+◌, ◌<◌, Bool, List, [], ◌∷◌, ◌++◌, length, take, drop, get_or, refl}
use Rattle.std.proofs.Common.{sym, ap, ◌∙◌, subst, arith, append_assoc}
use Rattle.link_world.specs.declared.link.LinkEvent.{LinkEvent}
use Rattle.link_world.specs.Link.{arrival, arrivals_behind, arrivals, AreMarked}

-- the first events were heeded: the marks are theirs, and what is to arrive still comes of the others
pub record IsOnTheWay (count : ℕ) (events : List LinkEvent) (i : ℕ) (released : List Bool)
    (arrived : List ℕ) : Type 0 where
  pub size : length released ≡ count
  pub marks : AreMarked (take i events) released
  pub arrives : arrived ++ arrivals_behind count (take i events) (drop i events) ≡ arrivals count events

take_one : (events : List LinkEvent) (i : ℕ) (d : LinkEvent) → i < length events
    → take (i + 1) events ≡ take i events ++ get_or events i d ∷ []
take_one [] i d low = absurd (omega arith)
take_one (e ∷ es) zero d low = refl
take_one (e ∷ es) (suc i) d low =
    ap (λ (n : ℕ). take n (e ∷ es)) (let n : suc i + 1 ≡ suc (i + 1) = omega arith in n)
    ∙ ap (λ (l : List LinkEvent). e ∷ l) (take_one es i d (omega arith))

drop_one : (events : List LinkEvent) (i : ℕ) (d : LinkEvent) → i < length events
    → drop i events ≡ get_or events i d ∷ drop (i + 1) events
drop_one [] i d low = absurd (omega arith)
drop_one (e ∷ es) zero d low = refl
drop_one (e ∷ es) (suc i) d low =
    drop_one es i d (omega arith) ∙ ap (λ (n : ℕ). get_or es i d ∷ drop n (e ∷ es))
    (let n : suc (i + 1) ≡ suc i + 1 = omega arith in n)

pub goes_on : (count : ℕ) (events : List LinkEvent) (i : ℕ) (released marked : List Bool) (arrived more : List ℕ)
    (event : LinkEvent)
    → i < length events → event ≡ get_or events i event → IsOnTheWay count events i released arrived
    → length marked ≡ length released → AreMarked (take i events ++ event ∷ []) marked
    → more ≡ arrival (length released) (take i events) event
    → IsOnTheWay count events (i + 1) marked (arrived ++ more)
goes_on count events i released marked arrived more event low read way size marks is =
    let next : take (i + 1) events ≡ take i events ++ event ∷ [] =
    take_one events i event low ∙ ap (λ (e : LinkEvent). take i events ++ e ∷ []) (sym read) in
    let rest : drop i events ≡ event ∷ drop (i + 1) events =
    drop_one events i event low ∙ ap (λ (e : LinkEvent). e ∷ drop (i + 1) events) (sym read) in
    record {
      size = size ∙ way.size;
      marks = subst (λ (l : List LinkEvent). AreMarked l marked) (sym next) marks;
      arrives =
          ap (λ (l : List ℕ). (arrived ++ l) ++ arrivals_behind count (take (i + 1) events) (drop (i + 1) events))
          (is ∙ ap (λ (n : ℕ). arrival n (take i events) event) way.size)
          ∙ ap (λ (l : List LinkEvent). (arrived ++ arrival count (take i events) event) ++ arrivals_behind count l
          (drop (i + 1) events)) next
          ∙ append_assoc arrived (arrival count (take i events) event)
          (arrivals_behind count (take i events ++ event ∷ []) (drop (i + 1) events))
          ∙ ap (λ (l : List LinkEvent). arrived ++ arrivals_behind count (take i events) l) (sym rest)
          ∙ way.arrives;
    }
