-- Over the lives of two units no key octets, device field and number are used twice.
use Rattle.std.proofs.Common.{◌≡◌, ◌≢◌, ℕ, suc, List, [], ◌∷◌, ◌++◌, length, sym, ◌∙◌, arith}
use Rattle.std.specs.List.{All, AllPairs}
use Rattle.std.proofs.lemmas.List.Elements.{All-append, All-tail}
use Rattle.std.proofs.lemmas.List.Kept.{AllPairs-cons}
use Rattle.run_promise.specs.Life.{Given, LifeRun, IsLife, OnceInLife, AreApart, answers_begun, given_of, given_in}
use Rattle.law_links.specs.Triples.{AreTriplesApart, HaveDevice, SaysDevice}
use Rattle.law_links.proofs.Begun.{given_all}

-- the unit of an answer has this device field
abbrev IsOf : List ℕ → Given → Type 0
IsOf device given = given.course.begin.plan.device ≡ device

of_device : (device : List ℕ) (runs : List LifeRun) → HaveDevice device runs → All (IsOf device) (given_in runs)
of_device device [] h = λ k d low. absurd (omega arith)
of_device device (run ∷ runs) h =
    All-append (IsOf device) (given_of run.course (answers_begun (length run.sunk) run.deeds)) (given_in runs)
    (given_all run.course (IsOf device) (answers_begun (length run.sunk) run.deeds) (λ k d low. h 0 run (omega arith)))
    (of_device device runs (All-tail (λ (run : LifeRun). run.course.begin.plan.device ≡ device) run runs h))

apart_triples : (one other : Given) → AreApart one other → AreTriplesApart one other
apart_triples one other apart octets device number a b = apart.by_octets a.key b.key octets number a.uses b.uses

other_device : (device again : List ℕ) (one other : Given) → device ≢ again → IsOf device one → IsOf again other
    → AreTriplesApart one other
other_device device again one other differ is also_is octets field number a b =
    differ (sym is ∙ a.device_is ∙ sym b.device_is ∙ also_is)

pairs_append : {X : Type 0} (R : X → X → Type 0) (xs ys : List X) → AllPairs R xs → AllPairs R ys
    → All (λ (x : X). All (R x) ys) xs → AllPairs R (xs ++ ys)
pairs_append {X} R [] ys first second cross = second
pairs_append {X} R (x ∷ xs) ys first second cross =
    AllPairs-cons R x (xs ++ ys)
    (All-append (R x) xs ys (λ k d low. first 0 (suc k) d (omega arith) (omega arith)) (cross 0 x (omega arith)))
    (pairs_append R xs ys (λ i j d lt low. first (suc i) (suc j) d (omega arith) (omega arith)) second
    (All-tail (λ (x : X). All (R x) ys) x xs cross))

abbrev pub UsedOnce : Type 0
UsedOnce = (image : List ℕ) (runs : List LifeRun) → IsLife image runs → OnceInLife runs

abbrev pub OneDevice : Type 0
OneDevice = (image : List ℕ) (runs : List LifeRun) (device : List ℕ) → IsLife image runs → SaysDevice image device
    → HaveDevice device runs

pub triples_apart : OneDevice → UsedOnce → (image other : List ℕ) (one two : List LifeRun) (device again : List ℕ)
    → IsLife image one → IsLife other two → SaysDevice image device → SaysDevice other again → device ≢ again
    → AllPairs AreTriplesApart (given_in one ++ given_in two)
triples_apart has once image other one two device again life next is also_is differ =
    pairs_append AreTriplesApart (given_in one) (given_in two)
    (λ i j d lt low. apart_triples _ _ (once image one life i j d lt low))
    (λ i j d lt low. apart_triples _ _ (once other two next i j d lt low))
    (λ k g low j h under. other_device device again _ _ differ
    (of_device device one (has image one device life is) k g low)
    (of_device again two (has other two again next also_is) j h under))
