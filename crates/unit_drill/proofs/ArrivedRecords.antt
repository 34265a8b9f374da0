-- The records of the frames that arrived: their lanes and indexes, and the frames that they open.
use Rattle.std.proofs.Common.{◌≡◌, ℕ, zero, suc, ◌+◌, ◌-◌, ◌*◌, ◌%◌, ◌<◌, ◌≤◌, List, [], ◌∷◌, length, map, get_or, refl}
use Rattle.std.proofs.Common.{sym, ◌∙◌, ap, arith}
use Rattle.std.specs.Prelude.{⊤, slice_get}
use Rattle.std.specs.List.{All}
use Rattle.std.proofs.lemmas.List.Elements.{All-cons, All-head, All-nil, All-tail, All-weaker}
use Rattle.std.proofs.lemmas.Option.{slice_get-get_or}
use Rattle.link_world.proofs.Chunks.{Under}
use Rattle.record_io.specs.declared.answers.Answer.{Answer}
use Rattle.record_io.specs.declared.item_cursor.Record.{Record}
use Rattle.unit_drill.specs.Arriving.{arrived_task, arrived_tasks, octets_in}
use Rattle.unit_drill.specs.Frames.{open_task}
use Rattle.law_workers.specs.Deeds.{Ascend}
use Rattle.unit_drill.proofs.Lists.{Below, From}
use Rattle.unit_drill.proofs.Receiving.{Handed}
use Rattle.unit_drill.proofs.SentChunks.{at, blank}
use Rattle.unit_drill.proofs.Tasks.{IsPlain, OnLane, ascend_cons}

pub many_tasks : (place first : ℕ) (sent : List Answer) (numbers : List ℕ)
    → length (arrived_tasks place first sent numbers) ≡ length numbers
many_tasks place first sent [] = refl
many_tasks place first sent (number ∷ numbers) = let rest = many_tasks (place + 1) first sent numbers in omega arith

pub arrived_lanes : (place first : ℕ) (sent : List Answer) (numbers : List ℕ)
    → All (OnLane 0) (arrived_tasks place first sent numbers)
arrived_lanes place first sent [] = All-nil (OnLane 0)
arrived_lanes place first sent (number ∷ numbers) =
    All-cons (OnLane 0) (arrived_task place number (octets_in (slice_get sent (number - first))))
    (arrived_tasks (place + 1) first sent numbers)
    (omega arith) (arrived_lanes (place + 1) first sent numbers)

pub arrived_plain : (place first : ℕ) (sent : List Answer) (numbers : List ℕ)
    → All IsPlain (arrived_tasks place first sent numbers)
arrived_plain place first sent [] = All-nil IsPlain
arrived_plain place first sent (number ∷ numbers) =
    All-cons IsPlain (arrived_task place number (octets_in (slice_get sent (number - first))))
    (arrived_tasks (place + 1) first sent numbers)
    (λ is. absurd (let i = is in cc)) (arrived_plain (place + 1) first sent numbers)

pub arrived_from : (place first : ℕ) (sent : List Answer) (numbers : List ℕ)
    → All (From (4 * place)) (arrived_tasks place first sent numbers)
arrived_from place first sent [] = All-nil (From (4 * place))
arrived_from place first sent (number ∷ numbers) =
    All-cons (From (4 * place)) (arrived_task place number (octets_in (slice_get sent (number - first))))
    (arrived_tasks (place + 1) first sent numbers)
    (omega arith)
    (All-weaker (From (4 * (place + 1))) (From (4 * place)) (λ task high. omega arith)
    (arrived_tasks (place + 1) first sent numbers)
    (arrived_from (place + 1) first sent numbers))

pub arrived_below : (bound place first : ℕ) (sent : List Answer) (numbers : List ℕ) → place + length numbers ≤ bound
    → All (Below (4 * bound)) (arrived_tasks place first sent numbers)
arrived_below bound place first sent [] low = All-nil (Below (4 * bound))
arrived_below bound place first sent (number ∷ numbers) low =
    All-cons (Below (4 * bound)) (arrived_task place number (octets_in (slice_get sent (number - first))))
    (arrived_tasks (place + 1) first sent numbers)
    (omega arith) (arrived_below bound (place + 1) first sent numbers (omega arith))

pub arrived_ascends : (place first : ℕ) (sent : List Answer) (numbers : List ℕ)
    → Ascend (arrived_tasks place first sent numbers)
arrived_ascends place first sent [] = λ i j d before low. absurd (omega arith)
arrived_ascends place first sent (number ∷ numbers) =
    let task = arrived_task place number (octets_in (slice_get sent (number - first))) in
    ascend_cons task (arrived_tasks (place + 1) first sent numbers)
    (All-weaker (From (4 * (place + 1))) (λ (other : Record). task.index < other.index) (λ other high. omega arith)
    (arrived_tasks (place + 1) first sent numbers) (arrived_from (place + 1) first sent numbers))
    (arrived_ascends (place + 1) first sent numbers)

pub task_at : (place first : ℕ) (sent : List Answer) (numbers : List ℕ) (j : ℕ) (d : Record) → j < length numbers
    → get_or (arrived_tasks place first sent numbers) j d
    ≡ arrived_task (place + j) (get_or numbers j 0) (octets_in (slice_get sent (get_or numbers j 0 - first)))
task_at place first sent [] j d low = absurd (omega arith)
task_at place first sent (number ∷ numbers) zero d low =
    (let e : place ≡ place + 0 = omega arith in ap
    (λ (n : ℕ). arrived_task n number (octets_in (slice_get sent (number - first)))) e)
task_at place first sent (number ∷ numbers) (suc j) d low =
    task_at (place + 1) first sent numbers j d (omega arith)
    ∙ (let e : place + 1 + j ≡ place + suc j = omega arith in
    ap (λ (n : ℕ). arrived_task n (get_or numbers j 0) (octets_in (slice_get sent (get_or numbers j 0 - first)))) e)

-- ---- the frames

-- any index goes
abbrev pub Any : ℕ → ℕ → Type 0
Any frame index = ⊤

unfoldable pub one_handed : (total : ℕ) (octets : ℕ → List ℕ) (place first : ℕ) (sent : List Answer) (k : ℕ)
    → k < length sent → first + length sent ≤ total
    → ((j : ℕ) → j < length sent → octets (first + j) ≡ (at sent j).body) → (number : ℕ) → number ≡ first + k
    → Handed Any total octets (arrived_task place number (octets_in (slice_get sent (number - first))))
one_handed total octets place first sent k low most own number is =
    let back : number - first ≡ k = omega arith in
    let there : octets_in (slice_get sent (number - first)) ≡ (at sent k).body =
    ap (λ (n : ℕ). octets_in (slice_get sent n)) back ∙ ap octets_in (slice_get-get_or sent k blank low) in
    let body : octets_in (slice_get sent (number - first)) ≡ octets number =
    there ∙ (sym (own k low) ∙ ap octets (sym is)) in
    record {
      frame = number;
      within = omega arith;
      index = 4 * place + number % 4;
      is_at = tt;
      is = ap (open_task (4 * place + number % 4) number) body;
    }

pub arrived_handed : (total : ℕ) (octets : ℕ → List ℕ) (place first : ℕ) (sent : List Answer) (ks : List ℕ)
    → All (Under (length sent)) ks
    → first + length sent ≤ total → ((j : ℕ) → j < length sent → octets (first + j) ≡ (at sent j).body)
    → All (Handed Any total octets) (arrived_tasks place first sent (map (λ (k : ℕ). first + k) ks))
arrived_handed total octets place first sent [] under most own = All-nil (Handed Any total octets)
arrived_handed total octets place first sent (k ∷ ks) under most own =
    All-cons (Handed Any total octets) (arrived_task place (first + k) (octets_in (slice_get sent (first + k - first))))
    (arrived_tasks (place + 1) first sent (map (λ (k : ℕ). first + k) ks))
    (one_handed total octets place first sent k (All-head (Under (length sent)) k ks under) most own (first + k) refl)
    (arrived_handed total octets (place + 1) first sent ks (All-tail (Under (length sent)) k ks under) most own)

pub number_at : (first : ℕ) (ks : List ℕ) (j : ℕ) → j < length ks → get_or (map (λ (k : ℕ). first + k) ks) j 0
    ≡ first + get_or ks j 0
number_at first [] j low = absurd (omega arith)
number_at first (k ∷ ks) zero low = refl
number_at first (k ∷ ks) (suc j) low = number_at first ks j (omega arith)
