-- What arrives was released and delivered, for the clauses of `arrivals_were_released`.
use Rattle.std.proofs.Common.{◌≡◌, ℕ, zero, suc, ◌<◌, ◌≤◌, nat_lt, ◌==◌, ◌&&◌, ◌||◌, if◌then◌else◌, Bool, true, false}
use Rattle.std.proofs.Common.{List, [], ◌∷◌, ◌++◌, length, Some, ⊎_elim, refl, sym, ap, ◌∙◌, subst, arith, append_assoc}
use Rattle.std.proofs.Common.{length-append}
use Rattle.std.specs.Prelude.{slice_get}
use Rattle.std.specs.List.{All, Contains, list_any}
use Rattle.std.proofs.lemmas.Bool.{cases_eq}
use Rattle.std.proofs.lemmas.Bool.Decides.{nat_tests}
use Rattle.std.proofs.lemmas.List.Elements.{All-append, All-cons, All-nil, Contains-append_left, Contains-append_right}
use Rattle.std.proofs.lemmas.Option.{none-some, same_Some, slice_get-get_or}
use Rattle.link_world.specs.declared.link.LinkEvent.{LinkEvent}
use Rattle.link_world.specs.declared.link.LinkEvent.TheVariants.{Release, Deliver}
use Rattle.link_world.specs.Delivered.{AreDelivered, IsDeliveredAt}
use Rattle.link_world.specs.Link.{releases_frame, arrival, arrivals_behind, arrivals}

-- ---- places

in_front : (xs ys : List LinkEvent) (k : ℕ) (x : LinkEvent) → slice_get xs k ≡ Some x → slice_get (xs ++ ys) k ≡ Some x
in_front [] ys k x e = absurd (none-some x e)
in_front (z ∷ xs) ys zero x e = e
in_front (z ∷ xs) ys (suc k) x e = in_front xs ys k x e

behind_front : (xs ys : List LinkEvent) (k : ℕ) (x : LinkEvent) → k < length xs → slice_get (xs ++ ys) k ≡ Some x
    → slice_get xs k ≡ Some x
behind_front [] ys k x low e = absurd (omega arith)
behind_front (z ∷ xs) ys zero x low e = e
behind_front (z ∷ xs) ys (suc k) x low e = behind_front xs ys k x (omega arith) e

at_join : (xs : List LinkEvent) (y : LinkEvent) (ys : List LinkEvent) → slice_get (xs ++ y ∷ ys) (length xs) ≡ Some y
at_join [] y ys = refl
at_join (x ∷ xs) y ys = at_join xs y ys

-- a release of the frame stands at some place
abbrev WasReleased : ℕ → List LinkEvent → Type 0
WasReleased frame events = (k : ℕ) × (k < length events) × (slice_get events k ≡ Some (Release frame))

later : (frame : ℕ) (x : LinkEvent) (xs : List LinkEvent) → WasReleased frame xs → WasReleased frame (x ∷ xs)
later frame x xs (k, low, is) = (suc k, omega arith, is)

left_out : (a b : Bool) → a ≡ false → (a || b) ≡ true → b ≡ true
left_out true b is any = absurd (let z : true ≡ false = is in cc)
left_out false b is any = any

found : (frame : ℕ) (events : List LinkEvent) → list_any (releases_frame frame) events ≡ true → WasReleased frame events
found frame [] e = absurd (let z : false ≡ true = e in cc)
found frame (Release other ∷ events) e = go (other == frame) refl (found frame events)
  where
    go : (b : Bool) → (other == frame) ≡ b → (list_any (releases_frame frame) events ≡ true → WasReleased frame events)
        → WasReleased frame (Release other ∷ events)
    go true test rest =
        let same : other ≡ frame = grind (arith, nat_tests) in (0, omega arith, ap (λ (n : ℕ). Some (Release n)) same)
    go false test rest = later frame (Release other) events (rest (left_out (other == frame) _ test e))
found frame (Deliver other ∷ events) e = later frame (Deliver other) events (found frame events e)

same_release : (a b : ℕ) → Release a ≡ Release b → a ≡ b
same_release a b e = cc

same_deliver : (a b : ℕ) → Deliver a ≡ Deliver b → a ≡ b
same_deliver a b e = cc

equal_test : (a b : ℕ) → a ≡ b → (a == b) ≡ true
equal_test a b e = grind (arith, nat_tests)

either : (a b : Bool) → b ≡ true → (a || b) ≡ true
either true b e = refl
either false b e = e

shown : (frame k : ℕ) (events : List LinkEvent) → slice_get events k ≡ Some (Release frame)
    → list_any (releases_frame frame) events ≡ true
shown frame k [] e = absurd (none-some (Release frame) e)
shown frame zero (Release other ∷ events) e =
    let same : other ≡ frame = same_release other frame (same_Some (Release other) (Release frame) e) in
    ap (λ (b : Bool). b || list_any (releases_frame frame) events) (equal_test other frame same)
shown frame zero (Deliver other ∷ events) e =
    absurd (let z : Deliver other ≡ Release frame = same_Some (Deliver other) (Release frame) e in cc)
shown frame (suc k) (event ∷ events) e = either (releases_frame frame event) _ (shown frame k events e)

-- a release of the frame is among the events
pub shown_among : (frame : ℕ) (events : List LinkEvent) → Contains events (Release frame)
    → list_any (releases_frame frame) events ≡ true
shown_among frame events (k, low, is) =
    shown frame k events (slice_get-get_or events k (Release frame) low ∙ ap (λ (e : LinkEvent). Some e) is)

-- ---- what arrives at one event

both : (a b : Bool) → (a && b) ≡ true → (a ≡ true) × (b ≡ true)
both true b e = (refl, e)
both false b e = absurd (let z : false ≡ true = e in cc)

below_one : (count : ℕ) (before : List LinkEvent) (event : LinkEvent)
    → All (λ (frame : ℕ). frame < count) (arrival count before event)
below_one count before (Release frame) = All-nil (λ (frame : ℕ). frame < count)
below_one count before (Deliver frame) = go (nat_lt frame count && list_any (releases_frame frame) before) refl
  where
    go : (b : Bool) → (nat_lt frame count && list_any (releases_frame frame) before) ≡ b
        → All (λ (frame : ℕ). frame < count) (if b then frame ∷ [] else [])
    go false test = All-nil (λ (frame : ℕ). frame < count)
    go true test =
        let t = (both (nat_lt frame count) (list_any (releases_frame frame) before) test).0 in
        let low : frame < count = grind (arith, nat_tests) in
        All-cons (λ (frame : ℕ). frame < count) frame [] low (All-nil (λ (frame : ℕ). frame < count))

earlier : (events : List LinkEvent) (least more : ℕ) (frames : List ℕ) → least ≤ more → AreDelivered events more frames
    → AreDelivered events least frames
earlier events least more [] low is = tt
earlier events least more (frame ∷ frames) low (place, from, here, rest) = (place, omega arith, here, rest)

-- what arrives at an event, and then at later ones
delivered_one : (count : ℕ) (before : List LinkEvent) (event : LinkEvent) (events : List LinkEvent) (frames : List ℕ)
    → AreDelivered (before ++ event ∷ events) (suc (length before)) frames
    → AreDelivered (before ++ event ∷ events) (length before) (arrival count before event ++ frames)
delivered_one count before (Release frame) events frames is =
    earlier (before ++ Release frame ∷ events) (length before) (suc (length before)) frames (omega arith) is
delivered_one count before (Deliver frame) events frames is =
    go (nat_lt frame count && list_any (releases_frame frame) before) refl
  where
    go : (b : Bool) → (nat_lt frame count && list_any (releases_frame frame) before) ≡ b
        → AreDelivered (before ++ Deliver frame ∷ events) (length before) ((if b then frame ∷ [] else []) ++ frames)
    go false test =
        earlier (before ++ Deliver frame ∷ events) (length before) (suc (length before)) frames (omega arith) is
    go true test =
        let (k, low, there) =
        found frame before (both (nat_lt frame count) (list_any (releases_frame frame) before) test).1 in
        let here : IsDeliveredAt (before ++ Deliver frame ∷ events) (length before) frame = record {
          delivers = at_join before (Deliver frame) events;
          release = k;
          before = low;
          releases = in_front before (Deliver frame ∷ events) k (Release frame) there;
        } in
        (length before, omega arith, here, is)

pub arrives_one : (count frame : ℕ) (before : List LinkEvent) → frame < count
    → list_any (releases_frame frame) before ≡ true
    → arrival count before (Deliver frame) ≡ frame ∷ []
arrives_one count frame before low any =
    let test : nat_lt frame count ≡ true = grind (arith, nat_tests) in
    rw (test, any) refl

-- ---- what arrives at all events

one_more : (before : List LinkEvent) (event : LinkEvent) → length (before ++ event ∷ []) ≡ suc (length before)
one_more before event = omega (arith, length-append before (event ∷ []))

below : (count : ℕ) (before events : List LinkEvent)
    → All (λ (frame : ℕ). frame < count) (arrivals_behind count before events)
below count before [] = All-nil (λ (frame : ℕ). frame < count)
below count before (event ∷ events) =
    All-append (λ (frame : ℕ). frame < count) (arrival count before event)
    (arrivals_behind count (before ++ event ∷ []) events)
    (below_one count before event) (below count (before ++ event ∷ []) events)

delivered : (count : ℕ) (before events : List LinkEvent)
    → AreDelivered (before ++ events) (length before) (arrivals_behind count before events)
delivered count before [] = tt
delivered count before (event ∷ events) =
    delivered_one count before event events (arrivals_behind count (before ++ event ∷ []) events)
    (subst (λ (n : ℕ). AreDelivered (before ++ event ∷ events) n (arrivals_behind count (before ++ event ∷ []) events))
    (one_more before event)
    (subst (λ (all : List LinkEvent). AreDelivered all (length (before ++ event ∷ []))
    (arrivals_behind count (before ++ event ∷ []) events))
    (append_assoc before (event ∷ []) events) (delivered count (before ++ event ∷ []) events)))

arrives : (count : ℕ) (before events : List LinkEvent) (place frame : ℕ) → length before ≤ place → frame < count
    → IsDeliveredAt (before ++ events) place frame → Contains (arrivals_behind count before events) frame
arrives count before [] place frame from low is = absurd (past before place (Deliver frame) from is.delivers)
  where
    past : (xs : List LinkEvent) (k : ℕ) (x : LinkEvent) → length xs ≤ k → slice_get (xs ++ []) k ≡ Some x → ⊥
    past [] k x high e = none-some x e
    past (z ∷ xs) zero x high e = absurd (omega arith)
    past (z ∷ xs) (suc k) x high e = past xs k x (omega arith) e
arrives count before (event ∷ events) place frame from low is =
    ⊎_elim
    (λ (same : place ≡ length before).
    let here : Some event ≡ Some (Deliver frame) =
    sym (at_join before event events) ∙ ap (slice_get (before ++ event ∷ events)) (sym same) ∙ is.delivers in
    let release : slice_get before is.release ≡ Some (Release frame) =
    behind_front before (event ∷ events) is.release (Release frame) (let b = is.before in omega arith) is.releases in
    Contains-append_left (arrival count before event) (arrivals_behind count (before ++ event ∷ []) events) frame
    (subst (λ (l : List ℕ). Contains l frame)
    (sym (ap (arrival count before) (same_Some event (Deliver frame) here)
    ∙ arrives_one count frame before low (shown frame is.release before release)))
    (0, omega arith, refl)))
    (λ differ.
    Contains-append_right (arrival count before event) (arrivals_behind count (before ++ event ∷ []) events) frame
    (arrives count (before ++ event ∷ []) events place frame (let n = one_more before event in omega arith) low
    (subst (λ (all : List LinkEvent). IsDeliveredAt all place frame) (sym (append_assoc before (event ∷ []) events))
    is)))
    (cases_eq place (length before))

pub all_below : (count : ℕ) (events : List LinkEvent) → All (λ frame. frame < count) (arrivals count events)
all_below count events = below count [] events

pub all_delivered : (count : ℕ) (events : List LinkEvent) → AreDelivered events 0 (arrivals count events)
all_delivered count events = delivered count [] events

pub each_arrives : (count : ℕ) (events : List LinkEvent) (place frame : ℕ) → frame < count
    → IsDeliveredAt events place frame → Contains (arrivals count events) frame
each_arrives count events place frame low is = arrives count [] events place frame (omega arith) low is
