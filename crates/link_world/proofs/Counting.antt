-- How many frames arrive, and how many a link delivers: for those who count them.
use Rattle.std.proofs.Common.{◌≡◌, ℕ, zero, suc, ◌+◌, ◌*◌, ◌≤◌, nat_lt, ◌&&◌, if◌then◌else◌, Bool, true, false, List}
use Rattle.std.proofs.Common.{[], ◌∷◌, ◌++◌, length, refl, sym, subst, arith, length-append}
use Rattle.std.specs.List.{list_any}
use Rattle.link_world.specs.declared.fates.Fate.{Fate}
use Rattle.link_world.specs.declared.fates.Fate.TheVariants.{Lost, Once, Twice, Late}
use Rattle.link_world.specs.declared.link.LinkEvent.{LinkEvent}
use Rattle.link_world.specs.declared.link.LinkEvent.TheVariants.{Release, Deliver}
use Rattle.link_world.specs.Link.{releases_frame, arrival, arrivals_behind, arrivals}
use Rattle.link_world.specs.Fate.{fate_of}
use Rattle.link_world.specs.Chunk.{deliveries, in_turn, late, lates, delivery_count, turns}

few_one : (count : ℕ) (before : List LinkEvent) (event : LinkEvent) → length (arrival count before event) ≤ 1
few_one count before (Release frame) = omega arith
few_one count before (Deliver frame) = go (nat_lt frame count && list_any (releases_frame frame) before)
  where
    go : (b : Bool) → length (if b then frame ∷ [] else []) ≤ 1
    go true = omega arith
    go false = omega arith

few_behind : (count : ℕ) (before events : List LinkEvent) → length (arrivals_behind count before events) ≤ length events
few_behind count before [] = omega arith
few_behind count before (event ∷ events) =
    let one = few_one count before event in
    let rest = few_behind count (before ++ event ∷ []) events in
    let both = length-append (arrival count before event) (arrivals_behind count (before ++ event ∷ []) events) in
    omega arith

-- no more frames arrive than events happen
pub few_arrive : (count : ℕ) (events : List LinkEvent) (arrived : List ℕ) → arrived ≡ arrivals count events
    → length arrived ≤ length events
few_arrive count events arrived is =
    subst (λ (l : List ℕ). length l ≤ length events) (sym is) (few_behind count [] events)

one_frame : (k : ℕ) (fate : Fate) → length (in_turn k fate) + length (late k fate) ≡ delivery_count fate
one_frame k Lost = refl
one_frame k Once = refl
one_frame k Twice = refl
one_frame k Late = refl

few_times : (fate : Fate) → delivery_count fate ≤ 2
few_times Lost = omega arith
few_times Once = omega arith
few_times Twice = omega arith
few_times Late = omega arith

-- one frame more in a chunk adds its deliveries
pub one_more : (k : ℕ) → length (deliveries (suc k)) ≡ length (deliveries k) + delivery_count (fate_of k)
one_more k =
    let a = length-append (turns k) (in_turn k (fate_of k)) in
    let b = length-append (lates k) (late k (fate_of k)) in
    let c = length-append (turns (suc k)) (lates (suc k)) in
    let d = length-append (turns k) (lates k) in
    let e = one_frame k (fate_of k) in omega arith

pub few_delivered : (count : ℕ) → length (deliveries count) ≤ 2 * count
few_delivered zero = omega arith
few_delivered (suc k) =
    let more = one_more k in let rest = few_delivered k in let two = few_times (fate_of k) in omega arith
