-- The deliveries of a chunk all arrive, if its frames were released: for the law `released_chunk_arrives`.
use Rattle.std.proofs.Common.{◌≡◌, ℕ, zero, suc, ◌<◌, List, [], ◌∷◌, ◌++◌, map, refl, sym, ap, ◌∙◌, arith, append_assoc}
use Rattle.std.specs.List.{All, Contains}
use Rattle.std.proofs.lemmas.List.Elements.{All-append, All-cons, All-head, All-nil, All-tail, All-weaker}
use Rattle.std.proofs.lemmas.List.Elements.{Contains-append_left}
use Rattle.link_world.specs.declared.fates.Fate.{Fate}
use Rattle.link_world.specs.declared.fates.Fate.TheVariants.{Lost, Once, Twice, Late}
use Rattle.link_world.specs.declared.link.LinkEvent.{LinkEvent}
use Rattle.link_world.specs.declared.link.LinkEvent.TheVariants.{Release, Deliver}
use Rattle.link_world.specs.Link.{arrival, arrivals_behind, arrivals}
use Rattle.link_world.specs.Fate.{fate_of}
use Rattle.link_world.specs.Chunk.{deliveries, in_turn, late, lates, turns}
use Rattle.link_world.proofs.Arriving.{arrives_one, shown_among}

-- ---- the frames that are delivered are of the chunk

abbrev pub Under : ℕ → ℕ → Type 0
Under bound frame = frame < bound

turn_low : (k : ℕ) (fate : Fate) → All (Under (suc k)) (in_turn k fate)
turn_low k Lost = All-nil (Under (suc k))
turn_low k Once = All-cons (Under (suc k)) k [] (omega arith) (All-nil (Under (suc k)))
turn_low k Twice =
    All-cons (Under (suc k)) k (k ∷ []) (omega arith)
    (All-cons (Under (suc k)) k [] (omega arith) (All-nil (Under (suc k))))
turn_low k Late = All-nil (Under (suc k))

late_low : (k : ℕ) (fate : Fate) → All (Under (suc k)) (late k fate)
late_low k Lost = All-nil (Under (suc k))
late_low k Once = All-nil (Under (suc k))
late_low k Twice = All-nil (Under (suc k))
late_low k Late = All-cons (Under (suc k)) k [] (omega arith) (All-nil (Under (suc k)))

higher : (k : ℕ) (frames : List ℕ) → All (Under k) frames → All (Under (suc k)) frames
higher k frames all = All-weaker (Under k) (Under (suc k)) (λ frame low. omega arith) frames all

turns_low : (count : ℕ) → All (Under count) (turns count)
turns_low zero = All-nil (Under 0)
turns_low (suc k) =
    All-append (Under (suc k)) (turns k) (in_turn k (fate_of k)) (higher k (turns k) (turns_low k))
    (turn_low k (fate_of k))

lates_low : (count : ℕ) → All (Under count) (lates count)
lates_low zero = All-nil (Under 0)
lates_low (suc k) =
    All-append (Under (suc k)) (lates k) (late k (fate_of k)) (higher k (lates k) (lates_low k))
    (late_low k (fate_of k))

pub delivered_low : (count : ℕ) → All (Under count) (deliveries count)
delivered_low count = All-append (Under count) (turns count) (lates count) (turns_low count) (lates_low count)

-- ---- they arrive

-- each frame of so many was released by one of these events
abbrev pub AllReleased : ℕ → List LinkEvent → Type 0
AllReleased count events = (frame : ℕ) → frame < count → Contains events (Release frame)

deliver_all : (count : ℕ) (before : List LinkEvent) (frames : List ℕ) → AllReleased count before
    → All (Under count) frames
    → arrivals_behind count before (map Deliver frames) ≡ frames
deliver_all count before [] released low = refl
deliver_all count before (frame ∷ frames) released low =
    let here = All-head (Under count) frame frames low in
    let one = arrives_one count frame before here (shown_among frame before (released frame here)) in
    let next : AllReleased count (before ++ Deliver frame ∷ []) =
    λ other under. Contains-append_left before (Deliver frame ∷ []) (Release other) (released other under) in
    ap (λ (l : List ℕ). l ++ arrivals_behind count (before ++ Deliver frame ∷ []) (map Deliver frames)) one
    ∙ ap (λ (l : List ℕ). frame ∷ l)
    (deliver_all count (before ++ Deliver frame ∷ []) frames next (All-tail (Under count) frame frames low))

behind_append : (count : ℕ) (before xs ys : List LinkEvent)
    → arrivals_behind count before (xs ++ ys) ≡ arrivals_behind count before xs ++ arrivals_behind count (before ++ xs)
    ys
behind_append count before [] ys = ap (λ (l : List LinkEvent). arrivals_behind count l ys) (append_none before)
  where
    append_none : (l : List LinkEvent) → l ≡ l ++ []
    append_none [] = refl
    append_none (x ∷ l) = ap (λ (r : List LinkEvent). x ∷ r) (append_none l)
behind_append count before (x ∷ xs) ys =
    ap (λ (l : List ℕ). arrival count before x ++ l) (behind_append count (before ++ x ∷ []) xs ys)
    ∙ (sym (append_assoc (arrival count before x) (arrivals_behind count (before ++ x ∷ []) xs)
    (arrivals_behind count ((before ++ x ∷ []) ++ xs) ys))
    ∙ ap (λ (l : List LinkEvent). arrivals_behind count before (x ∷ xs) ++ arrivals_behind count l ys)
    (append_assoc before (x ∷ []) xs))

pub chunk_arrives : (count : ℕ) (before : List LinkEvent) → AllReleased count before
    → arrivals count (before ++ map Deliver (deliveries count)) ≡ arrivals count before ++ deliveries count
chunk_arrives count before released =
    behind_append count [] before (map Deliver (deliveries count))
    ∙ ap (λ (l : List ℕ). arrivals count before ++ l)
    (deliver_all count before (deliveries count) released (delivered_low count))
