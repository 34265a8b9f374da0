-- One line of a plan after the other.
use Rattle.std.proofs.Common.{◌≡◌, ℕ, suc, ◌+◌, ◌<◌, Bool, true, false, nat_le, List, [], ◌∷◌, ◌++◌, map, length}
use Rattle.std.proofs.Common.{get_or, take, drop, Result, Ok, Err, refl, sym, ap, subst, ◌∙◌, ◌≤◌, arith, not}
use Rattle.std.specs.List.{position_or_len}
use Rattle.std.proofs.lemmas.List.{at_drop_more}
use Rattle.std.proofs.lemmas.List.Sums.{prefix_len-le-length}
use Rattle.unit_plan.specs.declared.plan.PlanKey.{PlanKey}
use Rattle.unit_plan.specs.declared.plan.PlanSa.{PlanSa}
use Rattle.unit_plan.specs.declared.plan_error.PlanFault.{PlanFault}
use Rattle.unit_plan.specs.declared.plan_error.PlanError.{PlanError}
use Rattle.unit_plan.specs.declared.plan_error.PlanError.TheVariants.{Refused as RefusedAt, NoMemory}
use Rattle.unit_plan.specs.PlanError.{◌>>=◌}
use Rattle.unit_state.specs.declared.state.State.{State}
use Rattle.unit_state.specs.Initial.{key_made, association_made, RowLine, OfKey, OfAssociation, line_made, lines_made}
use Rattle.unit_state.specs.Initial.{in_order, MakesLines}

-- how many of the keys have their line before another
abbrev pub count_before : ℕ → List PlanKey → ℕ
count_before line keys = position_or_len (λ key. nat_le line key.line) keys

suc_one : (n : ℕ) → 1 + n ≡ suc n
suc_one n = omega arith

turn_at : (b : Bool) (key : PlanKey) (keys : List PlanKey) (found : PlanSa) (associations : List PlanSa)
    → nat_le found.line key.line ≡ b
    → in_order keys (found ∷ associations) ≡ map OfKey (take (count_before found.line keys) keys) ++ OfAssociation found
    ∷ in_order (drop (count_before found.line keys) keys) associations
    → in_order (key ∷ keys) (found ∷ associations)
    ≡ map OfKey (take (count_before found.line (key ∷ keys)) (key ∷ keys)) ++ OfAssociation found
    ∷ in_order (drop (count_before found.line (key ∷ keys)) (key ∷ keys)) associations
turn_at true key keys found associations is more = rw (is) refl
turn_at false key keys found associations is more =
    rw (is, suc_one (count_before found.line keys)) (ap (λ (lines : List RowLine). OfKey key ∷ lines) more)

-- the keys before an association, the association, and what is behind it
in_turns : (keys : List PlanKey) (found : PlanSa) (associations : List PlanSa)
    → in_order keys (found ∷ associations) ≡ map OfKey (take (count_before found.line keys) keys) ++ OfAssociation found
    ∷ in_order (drop (count_before found.line keys) keys) associations
in_turns [] found associations = refl
in_turns (key ∷ keys) found associations =
    turn_at (nat_le found.line key.line) key keys found associations refl (in_turns keys found associations)

-- a result after another, in two steps
after_both : (made : Result State PlanFault) (f g h : State → Result State PlanFault)
    → ((next : State) → h next ≡ (f next >>= g)) → (made >>= h) ≡ ((made >>= f) >>= g)
after_both (Ok next) f g h same = same next
after_both (Err fault) f g h same = refl

joined : (front back : List RowLine) (state : State) → lines_made state (front ++ back)
    ≡ (lines_made state front >>= λ next. lines_made next back)
joined [] back state = refl
joined (line ∷ front) back state =
    after_both (line_made state line) (λ next. lines_made next front) (λ next. lines_made next back)
    (λ next. lines_made next (front ++ back)) (joined front back)

-- what lines make up to an association and behind it
pub made_in_turns : (state : State) (keys : List PlanKey) (found : PlanSa) (associations : List PlanSa)
    → lines_made state (in_order keys (found ∷ associations))
    ≡ (lines_made state (map OfKey (take (count_before found.line keys) keys)) >>= λ ready.
    association_made ready found >>= λ next.
    lines_made next (in_order (drop (count_before found.line keys) keys) associations))
made_in_turns state keys found associations =
    ap (lines_made state) (in_turns keys found associations)
    ∙ joined (map OfKey (take (count_before found.line keys) keys))
    (OfAssociation found ∷ in_order (drop (count_before found.line keys) keys) associations) state

-- one more key
pub key_more : (state next : State) (keys : List PlanKey) (i : ℕ) (key : PlanKey) → i < length keys
    → key ≡ get_or keys i key → key_made state key ≡ Ok next → lines_made state (map OfKey (drop i keys))
    ≡ lines_made next (map OfKey (drop (i + 1) keys))
key_more state next keys i key within read made =
    at_drop_more (λ rest. lines_made state (map OfKey rest)) keys i key within
    ∙ ap (λ (k : PlanKey). lines_made state (map OfKey (k ∷ drop (i + 1) keys))) (sym read)
    ∙ ap (λ (r : Result State PlanFault). r >>= λ next. lines_made next (map OfKey (drop (i + 1) keys))) made

-- one more association, with the keys before it
pub turn_more : (state ready next : State) (keys front back : List PlanKey) (associations : List PlanSa) (i : ℕ)
    (found : PlanSa) → i < length associations → found ≡ get_or associations i found
    → front ≡ take (count_before found.line keys) keys → back ≡ drop (count_before found.line keys) keys
    → lines_made state (map OfKey front) ≡ Ok ready → association_made ready found ≡ Ok next
    → lines_made state (in_order keys (drop i associations))
    ≡ lines_made next (in_order back (drop (i + 1) associations))
turn_more state ready next keys front back associations i found within read before behind keyed made =
    at_drop_more (λ rest. lines_made state (in_order keys rest)) associations i found within
    ∙ ap (λ (s : PlanSa). lines_made state (in_order keys (s ∷ drop (i + 1) associations))) (sym read)
    ∙ made_in_turns state keys found (drop (i + 1) associations)
    ∙ ap (λ (r : Result State PlanFault). r >>= λ ready. association_made ready found >>= λ next.
    lines_made next (in_order (drop (count_before found.line keys) keys) (drop (i + 1) associations)))
    (ap (λ (keys : List PlanKey). lines_made state (map OfKey keys)) (sym before) ∙ keyed)
    ∙ ap (λ (r : Result State PlanFault). r >>= λ next.
    lines_made next (in_order (drop (count_before found.line keys) keys) (drop (i + 1) associations))) made
    ∙ ap (λ keys. lines_made next (in_order keys (drop (i + 1) associations))) (sym behind)

-- what refuses a step refuses all that was to follow
refused_first : (e : PlanError) (said : Result State PlanFault) (f : State → Result State PlanFault) (state : State)
    → MakesLines (Err e) said state → MakesLines (Err e) (said >>= f) state
refused_first (RefusedAt first) said f state h = ap (λ (r : Result State PlanFault). r >>= f) h
refused_first NoMemory said f state h = tt

-- a key before an association, refused
pub keys_refused : (e : PlanError) (state self : State) (keys front : List PlanKey) (associations : List PlanSa) (i : ℕ)
    (found : PlanSa) (said : Result State PlanFault) → i < length associations → found ≡ get_or associations i found
    → front ≡ take (count_before found.line keys) keys
    → said ≡ lines_made state (in_order keys (drop i associations))
    → MakesLines (Err e) (lines_made state (map OfKey front)) self → MakesLines (Err e) said self
keys_refused e state self keys front associations i found said within read before is h =
    subst (λ (r : Result State PlanFault). MakesLines (Err e) r self)
    (sym (is ∙ at_drop_more (λ rest. lines_made state (in_order keys rest)) associations i found within
    ∙ ap (λ (s : PlanSa). lines_made state (in_order keys (s ∷ drop (i + 1) associations))) (sym read)
    ∙ made_in_turns state keys found (drop (i + 1) associations)))
    (refused_first e (lines_made state (map OfKey (take (count_before found.line keys) keys)))
    (λ ready. association_made ready found >>= λ next.
    lines_made next (in_order (drop (count_before found.line keys) keys) (drop (i + 1) associations))) self
    (subst (λ (keys : List PlanKey). MakesLines (Err e) (lines_made state (map OfKey keys)) self) before h))

-- an association, refused
pub association_refused : (e : PlanError) (state ready self : State) (keys front : List PlanKey)
    (associations : List PlanSa) (i : ℕ) (found : PlanSa) (said : Result State PlanFault) → i < length associations
    → found ≡ get_or associations i found → front ≡ take (count_before found.line keys) keys
    → said ≡ lines_made state (in_order keys (drop i associations)) → lines_made state (map OfKey front) ≡ Ok ready
    → MakesLines (Err e) (association_made ready found) self → MakesLines (Err e) said self
association_refused e state ready self keys front associations i found said within read before is keyed h =
    subst (λ (r : Result State PlanFault). MakesLines (Err e) r self)
    (sym (is ∙ at_drop_more (λ rest. lines_made state (in_order keys rest)) associations i found within
    ∙ ap (λ (s : PlanSa). lines_made state (in_order keys (s ∷ drop (i + 1) associations))) (sym read)
    ∙ made_in_turns state keys found (drop (i + 1) associations)
    ∙ ap (λ (r : Result State PlanFault). r >>= λ ready. association_made ready found >>= λ next.
    lines_made next (in_order (drop (count_before found.line keys) keys) (drop (i + 1) associations)))
    (ap (λ (keys : List PlanKey). lines_made state (map OfKey keys)) (sym before) ∙ keyed)))
    (refused_first e (association_made ready found)
    (λ next. lines_made next (in_order (drop (count_before found.line keys) keys) (drop (i + 1) associations))) self h)

pub count_within : (line : ℕ) (keys : List PlanKey) → count_before line keys ≤ length keys
count_within line keys = prefix_len-le-length (λ key. not (nat_le line key.line)) keys
