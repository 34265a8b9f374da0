-- One frame more that was released, and one more that arrived; and that what is counted is few: for `releases`,
-- `arrived_tasks` and the clauses `few`.
use Rattle.std.proofs.Common.{◌≡◌, ◌≢◌, ℕ, ◌+◌, ◌-◌, ◌*◌, ◌<◌, ◌≤◌, ◌==◌, ◌&&◌, Bool, true, false, cond, List, [], ◌∷◌}
use Rattle.std.proofs.Common.{◌++◌, length, map, take, get_or, refl, sym, ◌∙◌, ap, arith}
use Rattle.std.specs.Prelude.{slice_get}
use Rattle.std.specs.List.{range_with_len, zip}
use Rattle.std.proofs.lemmas.Bool.Decides.{nat_tests}
use Rattle.std.proofs.lemmas.List.{take_more, length-append, length-map, length-take}
use Rattle.std.proofs.lemmas.List.Sums.{count_by-le-length}
use Rattle.std.proofs.lemmas.Slice.Zip.{length-zip}
use Rattle.link_world.specs.declared.link.LinkEvent.{LinkEvent}
use Rattle.link_world.specs.declared.link.LinkEvent.TheVariants.{Release, Deliver}
use Rattle.link_world.specs.Link.{arrivals}
use Rattle.link_world.specs.Fate.{fate_of}
use Rattle.link_world.specs.Chunk.{deliveries, is_lost}
use Rattle.link_world.proofs.Counting.{few_arrive, few_delivered}
use Rattle.record_io.specs.declared.answers.Answer.{Answer}
use Rattle.record_io.specs.declared.code.TheConstants.{PROTECTED}
use Rattle.record_io.specs.declared.item_cursor.Record.{Record}
use Rattle.unit_drill.specs.Arriving.{arrived_task, arrived_tasks, chunk_events, count_lost, octets_in, releases}

-- ---- releases

cond_append : (b : Bool) (event : LinkEvent) (us ws vs : List LinkEvent) → us ≡ ws ++ vs
    → cond b (event ∷ us) us ≡ cond b (event ∷ ws) ws ++ vs
cond_append true event us ws vs is = ap (λ (l : List LinkEvent). event ∷ l) is
cond_append false event us ws vs is = is

release_append : (k at : ℕ) (xs : List Answer) (answer : Answer) → at ≡ k + length xs
    → releases k (xs ++ answer ∷ []) ≡ releases k xs ++ releases at (answer ∷ [])
release_append k at [] answer is = ap (λ (n : ℕ). releases n (answer ∷ [])) (let e : k ≡ at = omega arith in e)
release_append k at (x ∷ xs) answer is =
    cond_append (x.code == PROTECTED) (Release k) (releases (k + 1) (xs ++ answer ∷ [])) (releases (k + 1) xs)
    (releases at (answer ∷ []))
    (release_append (k + 1) at xs answer (omega arith))

at_place : (place : ℕ) (answers : List Answer) (answer : Answer) → place < length answers
    → answer ≡ get_or answers place answer
    → releases 0 (take (place + 1) answers) ≡ releases 0 (take place answers) ++ releases place (answer ∷ [])
at_place place answers answer low is =
    let sized : length (take place answers) ≡ place = grind (arith, length-take) in
    ap (releases 0) (take_more answers place answer low ∙ ap (λ (a : Answer). take place answers ++ a ∷ []) (sym is))
    ∙ release_append 0 place (take place answers) answer (omega arith)

pub release_more : (place : ℕ) (answers : List Answer) (answer : Answer) (events : List LinkEvent)
    → place < length answers
    → answer ≡ get_or answers place answer → events ≡ releases 0 (take place answers) → answer.code ≡ PROTECTED
    → events ++ Release place ∷ [] ≡ releases 0 (take (place + 1) answers)
release_more place answers answer events low there are code =
    let test : (answer.code == PROTECTED) ≡ true = grind (arith, nat_tests) in
    let one : releases place (answer ∷ []) ≡ Release place ∷ [] =
    ap (λ (b : Bool). cond b (Release place ∷ []) []) test in
    ap (λ (l : List LinkEvent). l ++ Release place ∷ []) are
    ∙ (ap (λ (l : List LinkEvent). releases 0 (take place answers) ++ l) (sym one)
    ∙ sym (at_place place answers answer low there))

append_none : {A : Type 0} (xs : List A) → xs ≡ xs ++ []
append_none [] = refl
append_none (x ∷ xs) = ap (λ l. x ∷ l) (append_none xs)

pub release_skips : (place : ℕ) (answers : List Answer) (answer : Answer) (events : List LinkEvent)
    → place < length answers
    → answer ≡ get_or answers place answer → events ≡ releases 0 (take place answers) → answer.code ≢ PROTECTED
    → events ≡ releases 0 (take (place + 1) answers)
release_skips place answers answer events low there are code =
    let test : (answer.code == PROTECTED) ≡ false = grind (arith, nat_tests) in
    let none : releases place (answer ∷ []) ≡ [] = ap (λ (b : Bool). cond b (Release place ∷ []) []) test in
    are ∙ (append_none (releases 0 (take place answers))
    ∙ (ap (λ (l : List LinkEvent). releases 0 (take place answers) ++ l) (sym none)
    ∙ sym (at_place place answers answer low there)))

-- ---- records

arrived_append : (place at first : ℕ) (sent : List Answer) (xs : List ℕ) (number : ℕ) → at ≡ place + length xs
    → arrived_tasks place first sent (xs ++ number ∷ []) ≡ arrived_tasks place first sent xs
    ++ arrived_tasks at first sent (number ∷ [])
arrived_append place at first sent [] number is =
    ap (λ (n : ℕ). arrived_tasks n first sent (number ∷ [])) (let e : place ≡ at = omega arith in e)
arrived_append place at first sent (x ∷ xs) number is =
    ap (λ (l : List Record). arrived_task place x (octets_in (slice_get sent (x - first))) ∷ l)
    (arrived_append (place + 1) at first sent xs number (omega arith))

pub arrived_more : (place at first : ℕ) (sent : List Answer) (numbers : List ℕ) (number : ℕ) (tasks : List Record)
    (task : Record)
    (octets : List ℕ) → at < length numbers → number ≡ get_or numbers at number
    → tasks ≡ arrived_tasks place first sent (take at numbers) → octets ≡ octets_in (slice_get sent (number - first))
    → task ≡ arrived_task (place + at) number octets
    → tasks ++ task ∷ [] ≡ arrived_tasks place first sent (take (at + 1) numbers)
arrived_more place at first sent numbers number tasks task octets low there are own is =
    let sized : length (take at numbers) ≡ at = grind (arith, length-take) in
    let next : take (at + 1) numbers ≡ take at numbers ++ number ∷ [] =
    take_more numbers at number low ∙ ap (λ (n : ℕ). take at numbers ++ n ∷ []) (sym there) in
    ap (λ (l : List Record). l ++ task ∷ []) are
    ∙ (ap (λ (t : Record). arrived_tasks place first sent (take at numbers) ++ t ∷ [])
    (is ∙ ap (arrived_task (place + at) number) own)
    ∙ sym (ap (arrived_tasks place first sent) next
    ∙ arrived_append place (place + at) first sent (take at numbers) number (omega arith)))

-- ---- few

few_released : (k : ℕ) (sent : List Answer) → length (releases k sent) ≤ length sent
few_released k [] = omega arith
few_released k (answer ∷ sent) = one (answer.code == PROTECTED) (few_released (k + 1) sent)
  where
    one : (b : Bool) → length (releases (k + 1) sent) ≤ length sent
        → length (cond b (Release k ∷ releases (k + 1) sent) (releases (k + 1) sent)) ≤ length (answer ∷ sent)
    one true few = omega arith
    one false few = omega arith

pub few_arrived : (sent : List Answer) (arrived : List ℕ) → arrived ≡ arrivals (length sent) (chunk_events sent)
    → length arrived ≤ 3 * length sent
few_arrived sent arrived is =
    let few = few_arrive (length sent) (chunk_events sent) arrived is in
    let events = length-append (releases 0 sent) (map Deliver (deliveries (length sent))) in
    let delivers = length-map (deliveries (length sent)) Deliver in
    let released = few_released 0 sent in
    let delivered = few_delivered (length sent) in omega arith

pub few_lost : (sent : List Answer) → count_lost sent ≤ length sent
few_lost sent =
    let few = count_by-le-length (λ (p : ℕ × Answer). (p.1.code == PROTECTED) && is_lost (fate_of p.0))
    (zip (range_with_len 0 (length sent)) sent) in
    let many = length-zip (range_with_len 0 (length sent)) sent in
    omega arith
