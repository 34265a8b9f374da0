-- Lists that are made chunk by chunk, and what is counted of two lists together: for the two runs of a drill.
use Rattle.std.proofs.Common.{◌≡◌, ℕ, zero, suc, ◌+◌, ◌-◌, ◌*◌, ◌/◌, ◌==◌, ◌≤◌, Bool, true, false, cond, List, [], ◌∷◌}
use Rattle.std.proofs.Common.{◌++◌, length, map, take, drop, refl, sym, ◌∙◌, ap, arith}
use Rattle.std.specs.Prelude.{◌||◌}
use Rattle.std.specs.List.{All, count_by, list_any, range_with_len, zip}
use Rattle.std.proofs.lemmas.Bool.{or_parts}
use Rattle.std.proofs.lemmas.List.{append-nil, append_assoc, drop-append-le, drop_all, length-drop, length-map}
use Rattle.std.proofs.lemmas.List.{map-append, take-append-le, take_all}
use Rattle.std.proofs.lemmas.List.Elements.{All-cons, All-map, All-nil, All-weaker}
use Rattle.std.proofs.lemmas.List.Folds.{list_any-append}
use Rattle.std.proofs.lemmas.List.FromFn.{get_or-range_with_len, length-range_with_len, map-range_with_len_more}
use Rattle.std.proofs.lemmas.List.Sums.{sum_by-append, sum_by-cons}
use Rattle.link_world.specs.Link.{arrivals}
use Rattle.record_io.specs.declared.answers.Answer.{Answer}
use Rattle.record_io.specs.declared.code.TheConstants as codes_of
use Rattle.record_io.specs.declared.item_cursor.Record.{Record}
use Rattle.record_io.specs.Places.{Place}
use Rattle.unit_drill.specs.Arriving.{arrived_frames, chunk_events}
use Rattle.unit_drill.specs.Counting.{count_accepted, count_fields, count_given, gives_field}
use Rattle.unit_drill.specs.Drilled.{protected_frames, replayed_frames}
use Rattle.unit_drill.specs.Frames.{open_task, open_tasks, protect_task, protect_tasks, replay_tasks}
use Rattle.unit_drill.specs.UnitRun.{answers_in, in_segment, of_chunks, sent_place, sent_places, says_no_memory}
use Rattle.unit_drill.proofs.Arrivals.{few_arrived}
use Rattle.unit_drill.proofs.Lists.{Below, From}

-- ---- chunk by chunk

-- the answers of a chunk that is over stay
chunk_kept : (chunk : ℕ) (sent later : List Answer) → 256 * chunk + 256 ≤ length sent → answers_in chunk (sent ++ later)
    ≡ answers_in chunk sent
chunk_kept chunk sent later long =
    let left = length-drop (256 * chunk) sent in
    ap (take 256) (drop-append-le (256 * chunk) sent later (omega arith))
    ∙ take-append-le 256 (drop (256 * chunk) sent) later (omega arith)

-- those of the next chunk are what is added
chunk_added : (chunk : ℕ) (sent later : List Answer) → length sent ≡ 256 * chunk → length later ≤ 256
    → answers_in chunk (sent ++ later) ≡ later
chunk_added chunk sent later long short =
    ap (take 256) (drop-append-le (256 * chunk) sent later (omega arith)
    ∙ ap (λ (l : List Answer). l ++ later) (drop_all (256 * chunk) sent (omega arith)))
    ∙ take_all 256 later short

chunks_kept : {A : Type 0} (each : ℕ → List Answer → List A) (chunks : ℕ) (sent later : List Answer)
    → 256 * chunks ≤ length sent
    → of_chunks each chunks (sent ++ later) ≡ of_chunks each chunks sent
chunks_kept each zero sent later long = refl
chunks_kept each (suc chunks) sent later long =
    ap (λ l. l ++ each chunks (answers_in chunks (sent ++ later))) (chunks_kept each chunks sent later (omega arith))
    ∙ ap (λ (answers : List Answer). of_chunks each chunks sent ++ each chunks answers)
    (chunk_kept chunks sent later (omega arith))

-- a chunk more
pub chunks_more : {A : Type 0} (each : ℕ → List Answer → List A) (chunks : ℕ) (sent later : List Answer)
    → length sent ≡ 256 * chunks
    → length later ≤ 256 → of_chunks each (suc chunks) (sent ++ later) ≡ of_chunks each chunks sent ++ each chunks later
chunks_more each chunks sent later long short =
    ap (λ l. l ++ each chunks (answers_in chunks (sent ++ later))) (chunks_kept each chunks sent later (omega arith))
    ∙ ap (λ (answers : List Answer). of_chunks each chunks sent ++ each chunks answers)
    (chunk_added chunks sent later long short)

-- ---- the records

-- so many frames more, of one chunk
pub sent_more : (chunk n : ℕ) → n ≤ 256
    → sent_places (256 * chunk + n) ≡ sent_places (256 * chunk)
    ++ map (in_segment chunk) (protect_tasks (256 * chunk) n)
sent_more chunk zero small = (let e : 256 * chunk + 0 ≡ 256 * chunk = omega arith in ap sent_places e)
    ∙ sym (append-nil (sent_places (256 * chunk)))
sent_more chunk (suc n) small =
    let e : 256 * chunk + suc n ≡ 256 * chunk + n + 1 = omega arith in
    let f : suc n ≡ n + 1 = omega arith in
    let own : (256 * chunk + n) / 256 ≡ chunk = omega arith in
    let so_far : List Record = protect_tasks (256 * chunk) n in
    let task : Record = protect_task (256 * chunk + n) in
    let longer : protect_tasks (256 * chunk) (suc n) ≡ protect_tasks (256 * chunk) n
    ++ protect_task (256 * chunk + n) ∷ [] =
    ap (protect_tasks (256 * chunk)) f ∙ map-range_with_len_more protect_task (256 * chunk) n (256 * chunk + n)
    (omega arith) in
    ap sent_places e
    ∙ (map-range_with_len_more sent_place 0 (256 * chunk + n) (256 * chunk + n) (omega arith)
    ∙ (ap (λ (ps : List Place). ps ++ sent_place (256 * chunk + n) ∷ []) (sent_more chunk n (omega arith))
    ∙ (append_assoc (sent_places (256 * chunk)) (map (in_segment chunk) so_far) (sent_place (256 * chunk + n) ∷ [])
    ∙ ap (λ (ps : List Place). sent_places (256 * chunk) ++ ps)
    (ap (λ (segment : ℕ). map (in_segment chunk) so_far ++ in_segment segment task ∷ []) own
    ∙ (sym (map-append (in_segment chunk) so_far (task ∷ []))
    ∙ sym (ap (map (in_segment chunk)) longer))))))

pub protects_below : (first n : ℕ) → All (Below (first + n)) (protect_tasks first n)
protects_below first n =
    All-map (Below (first + n)) protect_task (range_with_len first n)
    (λ k d low. let many = length-range_with_len first n in let is =
    get_or-range_with_len first n k d (omega arith) in omega arith)

all_if : (P : Record → Type 0) (b : Bool) (task : Record) (tasks : List Record) → P task → All P tasks
    → All P (cond b (task ∷ tasks) tasks)
all_if P true task tasks here all = All-cons P task tasks here all
all_if P false task tasks here all = all

pub opens_from : (ahead first : ℕ) (answers : List Answer) → All (From (first + ahead)) (open_tasks ahead first answers)
opens_from ahead first [] = All-nil (From (first + ahead))
opens_from ahead first (answer ∷ answers) =
    all_if (From (first + ahead)) (answer.code == codes_of.PROTECTED) (open_task (first + ahead) first answer.body)
    (open_tasks ahead (first + 1) answers)
    (omega arith)
    (All-weaker (From (first + 1 + ahead)) (From (first + ahead)) (λ task high. omega arith)
    (open_tasks ahead (first + 1) answers)
    (opens_from ahead (first + 1) answers))

pub opens_below : (ahead first most : ℕ) (answers : List Answer) → first + length answers ≤ most
    → All (Below (most + ahead)) (open_tasks ahead first answers)
opens_below ahead first most [] low = All-nil (Below (most + ahead))
opens_below ahead first most (answer ∷ answers) low =
    all_if (Below (most + ahead)) (answer.code == codes_of.PROTECTED) (open_task (first + ahead) first answer.body)
    (open_tasks ahead (first + 1) answers)
    (omega arith) (opens_below ahead (first + 1) most answers (omega arith))

all_only : (P : Record → Type 0) (b : Bool) (task : Record) → P task → All P (cond b (task ∷ []) [])
all_only P true task here = All-cons P task [] here (All-nil P)
all_only P false task here = All-nil P

pub replay_at : (P : Record → Type 0) (ahead first : ℕ) (answers : List Answer)
    → ((octets : List ℕ) → P (open_task (first + 256 + ahead) first octets))
    → All P (replay_tasks ahead first answers)
replay_at P ahead first [] each = All-nil P
replay_at P ahead first (answer ∷ answers) each =
    all_only P (answer.code == codes_of.PROTECTED) (open_task (first + 256 + ahead) first answer.body)
    (each answer.body)

-- ---- how many

-- as many records as frames, and no more than answers
pub record Few (tasks : List Record) (frames : List ℕ) (most : ℕ) : Type 0 where
  pub same : length tasks ≡ length frames
  pub few : length frames ≤ most

few_if : (b : Bool) (task : Record) (tasks : List Record) (frame : ℕ) (frames : List ℕ) (most : ℕ)
    → Few tasks frames most
    → Few (cond b (task ∷ tasks) tasks) (cond b (frame ∷ frames) frames) (suc most)
few_if true task tasks frame frames most is = let s = is.same in let f =
    is.few in record { same = omega arith; few = omega arith }
few_if false task tasks frame frames most is = let f = is.few in record { same = is.same; few = omega arith }

pub few_opens : (ahead first : ℕ) (answers : List Answer)
    → Few (open_tasks ahead first answers) (protected_frames first answers) (length answers)
few_opens ahead first [] = record { same = refl; few = omega arith }
few_opens ahead first (answer ∷ answers) =
    few_if (answer.code == codes_of.PROTECTED) (open_task (first + ahead) first answer.body)
    (open_tasks ahead (first + 1) answers)
    first (protected_frames (first + 1) answers) (length answers) (few_opens ahead (first + 1) answers)

few_only : (b : Bool) (task : Record) (frame : ℕ) → Few (cond b (task ∷ []) []) (cond b (frame ∷ []) []) 1
few_only true task frame = record { same = refl; few = omega arith }
few_only false task frame = record { same = refl; few = omega arith }

pub few_replays : (ahead first : ℕ) (answers : List Answer)
    → Few (replay_tasks ahead first answers) (replayed_frames first answers) 1
few_replays ahead first [] = record { same = refl; few = omega arith }
few_replays ahead first (answer ∷ answers) =
    few_only (answer.code == codes_of.PROTECTED) (open_task (first + 256 + ahead) first answer.body) first

pub few_frames : (first : ℕ) (answers : List Answer) → length (arrived_frames first answers) ≤ 3 * length answers
few_frames first answers =
    let few = few_arrived answers (arrivals (length answers) (chunk_events answers)) refl in
    let same = length-map (arrivals (length answers) (chunk_events answers)) (λ (k : ℕ). first + k) in omega arith

-- ---- what is counted

pub counted_both : {A : Type 0} (p : A → Bool) (xs ys : List A) → count_by p (xs ++ ys) ≡ count_by p xs + count_by p ys
counted_both p xs ys = sum_by-append (λ x. cond (p x) 1 0) xs ys

pub given_both : (frames more : List ℕ) (answers later : List Answer) → length answers ≡ length frames
    → count_given (frames ++ more) (answers ++ later) ≡ count_given frames answers + count_given more later
given_both [] more [] later same = let none : count_given [] [] ≡ 0 = refl in omega arith
given_both [] more (answer ∷ answers) later same = absurd (omega arith)
given_both (frame ∷ frames) more [] later same = absurd (omega arith)
given_both (frame ∷ frames) more (answer ∷ answers) later same =
    let rest = given_both frames more answers later (omega arith) in
    let one = sum_by-cons (λ (p : ℕ × Answer). cond (gives_field p.0 p.1) 1 0) (frame, answer) (zip frames answers) in
    let all = sum_by-cons (λ (p : ℕ × Answer). cond (gives_field p.0 p.1) 1 0) (frame, answer)
    (zip (frames ++ more) (answers ++ later)) in omega arith

-- a record that opens a frame, and the frame itself, are counted alike
pub accepted_given : (ahead first : ℕ) (answers opened : List Answer)
    → count_accepted ahead (open_tasks ahead first answers) opened ≡ count_given (protected_frames first answers) opened
accepted_given ahead first [] opened = refl
accepted_given ahead first (answer ∷ answers) opened =
    one (answer.code == codes_of.PROTECTED) opened (accepted_given ahead (first + 1) answers)
  where
    one : (b : Bool) (opened : List Answer)
        → ((opened : List Answer) → count_accepted ahead (open_tasks ahead (first + 1) answers) opened
        ≡ count_given (protected_frames (first + 1) answers) opened)
        → count_accepted ahead (cond b (open_task (first + ahead) first answer.body ∷ open_tasks ahead
        (first + 1) answers) (open_tasks ahead (first + 1) answers)) opened
        ≡ count_given (cond b (first ∷ protected_frames (first + 1) answers) (protected_frames (first + 1) answers))
        opened
    one false opened rest = rest opened
    one true [] rest = refl
    one true (head ∷ tail) rest =
        let back : first + ahead - ahead ≡ first = omega arith in
        let same : cond {A = ℕ} (gives_field (first + ahead - ahead) head) 1 0
        ≡ cond {A = ℕ} (gives_field first head) 1 0 =
        ap (λ (n : ℕ). cond {A = ℕ} (gives_field n head) 1 0) back in
        let left = sum_by-cons (λ (p : Record × Answer). cond (gives_field (p.0.index - ahead) p.1) 1 0)
        (open_task (first + ahead) first answer.body, head)
        (zip (open_tasks ahead (first + 1) answers) tail) in
        let right = sum_by-cons (λ (p : ℕ × Answer). cond (gives_field p.0 p.1) 1 0) (first, head)
        (zip (protected_frames (first + 1) answers) tail) in
        let others = rest tail in omega arith

pub fields_given : (ahead first : ℕ) (answers again : List Answer)
    → length again ≡ length (replay_tasks ahead first answers)
    → count_fields first again ≡ count_given (replayed_frames first answers) again
fields_given ahead first [] [] same = refl
fields_given ahead first [] (answer ∷ again) same = absurd (omega arith)
fields_given ahead first (answer ∷ answers) again same = one (answer.code == codes_of.PROTECTED) again same
  where
    one : (b : Bool) (again : List Answer)
        → length again ≡ length (cond b (open_task (first + 256 + ahead) first answer.body ∷ []) [])
        → count_fields first again ≡ count_given (cond b (first ∷ []) []) again
    one true [] same = absurd (omega arith)
    one true (head ∷ []) same =
        let left = sum_by-cons (λ (answer : Answer). cond (gives_field first answer) 1 0) head [] in
        let right = sum_by-cons (λ (p : ℕ × Answer). cond (gives_field p.0 p.1) 1 0) (first, head) [] in omega arith
    one true (head ∷ next ∷ tail) same = absurd (omega arith)
    one false [] same = refl
    one false (head ∷ tail) same = absurd (omega arith)

-- ---- that memory ran out

pub parts_want : (xs ys : List Answer) → list_any says_no_memory (xs ++ ys) ≡ false
    → (list_any says_no_memory xs ≡ false) × (list_any says_no_memory ys ≡ false)
parts_want xs ys none = or_parts (list_any says_no_memory xs) (list_any says_no_memory ys)
    (sym (list_any-append says_no_memory xs ys) ∙ none)

pub both_want : (xs ys : List Answer) → list_any says_no_memory xs ≡ false → list_any says_no_memory ys ≡ false
    → list_any says_no_memory (xs ++ ys) ≡ false
both_want xs ys none others = list_any-append says_no_memory xs ys
    ∙ (ap (λ (b : Bool). b || list_any says_no_memory ys) none ∙ others)
