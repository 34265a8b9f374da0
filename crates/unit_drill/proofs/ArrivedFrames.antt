-- The frames that arrive if all were protected, and how many they are.
use Rattle.std.proofs.Common.{◌≡◌, ℕ, zero, suc, ◌+◌, ◌*◌, ◌%◌, ◌==◌, ◌&&◌, ◌<◌, ◌≤◌, Bool, true, false, cond, List, []}
use Rattle.std.proofs.Common.{◌∷◌, ◌++◌, length, map, refl, sym, ◌∙◌, ap, subst, arith}
use Rattle.std.specs.List.{All, Contains, count_by, range_with_len, zip}
use Rattle.std.proofs.lemmas.Bool.{eq-eqb}
use Rattle.std.proofs.lemmas.List.Elements.{All-head, All-tail}
use Rattle.std.proofs.lemmas.List.Sums.{sum_by-cons}
use Rattle.link_world.specs.declared.link.LinkEvent.{LinkEvent}
use Rattle.link_world.specs.declared.link.LinkEvent.TheVariants.{Release}
use Rattle.link_world.specs.Link.{arrivals, arrivals_behind}
use Rattle.link_world.specs.Fate.{fate_of}
use Rattle.link_world.specs.Chunk.{deliveries, is_lost, delivery_count}
use Rattle.link_world.proofs.Chunks.{chunk_arrives}
use Rattle.link_world.proofs.Counting.{one_more}
use Rattle.record_io.specs.declared.answers.Answer.{Answer}
use Rattle.record_io.specs.declared.code.TheConstants as codes_of
use Rattle.unit_drill.specs.Arriving.{arrived_frames, chunk_events, count_lost, releases}
use Rattle.unit_drill.proofs.OpenedChunks.{IsSent}
use Rattle.unit_drill.specs.OverLink.{arrived_of, lost_of}

-- ---- which arrive

code_test : (answer : Answer) → IsSent answer → (answer.code == codes_of.PROTECTED) ≡ true
code_test answer is = eq-eqb answer.code codes_of.PROTECTED is

releases_more : (k : ℕ) (answer : Answer) (answers : List Answer) → IsSent answer → releases k (answer ∷ answers)
    ≡ Release k ∷ releases (k + 1) answers
releases_more k answer answers is =
    ap (λ (b : Bool). cond b (Release k ∷ releases (k + 1) answers) (releases (k + 1) answers)) (code_test answer is)

-- each frame of the chunk was released
all_released : (from : ℕ) (sent : List Answer) → All IsSent sent → (k : ℕ) → k < length sent
    → Contains (releases from sent) (Release (from + k))
all_released from [] codes k low = absurd (omega arith)
all_released from (answer ∷ answers) codes zero low =
    let same : from ≡ from + 0 = omega arith in
    subst (λ (es : List LinkEvent). Contains es (Release (from + 0)))
    (sym (releases_more from answer answers (All-head IsSent answer answers codes)))
    (0, omega arith, ap Release same)
all_released from (answer ∷ answers) codes (suc k) low =
    let (at, within, is) = all_released (from + 1) answers (All-tail IsSent answer answers codes) k (omega arith) in
    let same : from + 1 + k ≡ from + suc k = omega arith in
    subst (λ (es : List LinkEvent). Contains es (Release (from + suc k)))
    (sym (releases_more from answer answers (All-head IsSent answer answers codes)))
    (subst (λ (n : ℕ). Contains (Release from ∷ releases (from + 1) answers) (Release n)) same
    (suc at, omega arith, is))

-- nothing arrives before a delivery
nothing_yet : (count k : ℕ) (before : List LinkEvent) (sent : List Answer)
    → arrivals_behind count before (releases k sent) ≡ []
nothing_yet count k before [] = refl
nothing_yet count k before (answer ∷ answers) =
    one (answer.code == codes_of.PROTECTED) (nothing_yet count (k + 1) (before ++ Release k ∷ []) answers)
    (nothing_yet count (k + 1) before answers)
  where
    one : (b : Bool) → arrivals_behind count (before ++ Release k ∷ []) (releases (k + 1) answers) ≡ []
        → arrivals_behind count before (releases (k + 1) answers) ≡ []
        → arrivals_behind count before (cond b (Release k ∷ releases (k + 1) answers) (releases (k + 1) answers)) ≡ []
    one true released other = released
    one false released other = other

pub all_arrive : (sent : List Answer) → All IsSent sent → arrivals (length sent) (chunk_events sent)
    ≡ deliveries (length sent)
all_arrive sent codes =
    let released : (frame : ℕ) → frame < length sent → Contains (releases 0 sent) (Release frame) =
    λ frame low. subst (λ (n : ℕ). Contains (releases 0 sent) (Release n))
    (let e : 0 + frame ≡ frame = omega arith in e)
    (all_released 0 sent codes frame low) in
    chunk_arrives (length sent) (releases 0 sent) released
    ∙ ap (λ (l : List ℕ). l ++ deliveries (length sent)) (nothing_yet (length sent) 0 [] sent)

pub frames_are : (first : ℕ) (sent : List Answer) → All IsSent sent
    → arrived_frames first sent ≡ map (λ (k : ℕ). first + k) (deliveries (length sent))
frames_are first sent codes = ap (map (λ (k : ℕ). first + k)) (all_arrive sent codes)

-- ---- how many

-- the lost ones of a chunk, from this number on, so many
abbrev lost_from : ℕ → ℕ → ℕ
lost_from k zero = 0
lost_from k (suc n) = cond (is_lost (fate_of k)) 1 0 + lost_from (k + 1) n

lost_in : (k : ℕ) (sent : List Answer) → All IsSent sent
    → count_by (λ (p : ℕ × Answer). (p.1.code == codes_of.PROTECTED) && is_lost (fate_of p.0))
    (zip (range_with_len k (length sent)) sent)
    ≡ lost_from k (length sent)
lost_in k [] codes = refl
lost_in k (answer ∷ answers) codes =
    let test = code_test answer (All-head IsSent answer answers codes) in
    let rest = lost_in (k + 1) answers (All-tail IsSent answer answers codes) in
    let one : cond {A = ℕ} ((answer.code == codes_of.PROTECTED) && is_lost (fate_of k)) 1 0
    ≡ cond {A = ℕ} (is_lost (fate_of k)) 1 0 =
    ap (λ (b : Bool). cond {A = ℕ} (b && is_lost (fate_of k)) 1 0) test in
    sum_by-cons (λ (p : ℕ × Answer). cond ((p.1.code == codes_of.PROTECTED) && is_lost (fate_of p.0)) 1 0) (k, answer)
    (zip (range_with_len (k + 1) (length answers)) answers) ∙ omega (arith, rest, one)

lost_to : (c k n : ℕ) → k + n ≤ 256 → lost_of (256 * c + k) + lost_from k n ≡ lost_of (256 * c + (k + n))
lost_to c k zero low = (let e : 256 * c + k ≡ 256 * c + (k + 0) = omega arith in omega (arith, ap lost_of e))
lost_to c k (suc n) low =
    let next : suc (256 * c + k) ≡ 256 * c + (k + 1) = omega arith in
    let all : 256 * c + (k + 1 + n) ≡ 256 * c + (k + suc n) = omega arith in
    let place : (256 * c + k) % 256 ≡ k = omega arith in
    let one : lost_of (256 * c + (k + 1)) ≡ lost_of (256 * c + k) + cond {A = ℕ} (is_lost (fate_of k)) 1 0 =
    ap lost_of (sym next) ∙ ap (λ (m : ℕ). lost_of (256 * c + k) + cond {A = ℕ} (is_lost (fate_of m)) 1 0) place in
    let rest = lost_to c (k + 1) n (omega arith) in
    let last = ap lost_of all in omega arith

pub lost_all : (chunk : ℕ) (sent : List Answer) → All IsSent sent → length sent ≤ 256
    → lost_of (256 * chunk) + count_lost sent ≡ lost_of (256 * chunk + length sent)
lost_all chunk sent codes short =
    let count = lost_in 0 sent codes in
    let sum = lost_to chunk 0 (length sent) (omega arith) in
    let first = ap lost_of (let e : 256 * chunk + 0 ≡ 256 * chunk = omega arith in e) in
    let last = ap lost_of (let e : 256 * chunk + (0 + length sent) ≡ 256 * chunk + length sent =
    omega arith in e) in omega arith

pub arrived_all : (chunk n : ℕ) → n ≤ 256 → arrived_of (256 * chunk) + length (deliveries n)
    ≡ arrived_of (256 * chunk + n)
arrived_all chunk zero low = (let e : 256 * chunk ≡ 256 * chunk + 0 = omega arith in omega (arith, ap arrived_of e))
arrived_all chunk (suc n) low =
    let next : suc (256 * chunk + n) ≡ 256 * chunk + suc n = omega arith in
    let place : (256 * chunk + n) % 256 ≡ n = omega arith in
    let one : arrived_of (256 * chunk + suc n) ≡ arrived_of (256 * chunk + n) + delivery_count (fate_of n) =
    ap arrived_of (sym next) ∙ ap (λ (m : ℕ). arrived_of (256 * chunk + n) + delivery_count (fate_of m)) place in
    let rest = arrived_all chunk n (omega arith) in
    let more = one_more n in omega arith
