-- The answers of a life that release a frame, and the frame with a number among them.
use Rattle.std.proofs.Common.{◌≡◌, ℕ, ◌<◌, ◌≤◌, ◌==◌, Bool, true, List, length, Some, ⊎_elim, arith}
use Rattle.std.specs.List.{Contains, filter, slice_get}
use Rattle.std.proofs.lemmas.Bool.Decides.{nat_tests}
use Rattle.std.proofs.lemmas.List.Elements.{All-contains, All-contains_itself, All-filter, filter_passes}
use Rattle.std.proofs.lemmas.Option.{slice_get_cases}
use Rattle.run_promise.specs.Life.{Given, LifeRun, given_in}
use Rattle.law_links.specs.Linked.{released_in}

abbrev releases : Given → Bool
releases given = given.deed.answer.code == 0

-- such an answer is one of the life
pub released_there : (runs : List LifeRun) (given : Given) → Contains (released_in runs) given
    → Contains (given_in runs) given
released_there runs given there =
    All-contains (Contains (given_in runs)) (filter releases (given_in runs)) given
    (All-filter releases (Contains (given_in runs)) (given_in runs) (All-contains_itself (given_in runs))) there

-- and its code says so
pub released_code : (runs : List LifeRun) (given : Given) → Contains (released_in runs) given
    → given.deed.answer.code ≡ 0
released_code runs given there =
    let test : (given.deed.answer.code == 0) ≡ true =
    All-contains (λ (x : Given). releases x ≡ true) (filter releases (given_in runs)) given
    (filter_passes releases (given_in runs)) there in
    grind (arith, nat_tests)

-- each number below their count is that of one of them
pub numbered : (xs : List Given) (frame : ℕ) → frame < length xs
    → (x : Given) × (slice_get xs frame ≡ Some x) × Contains xs x
numbered xs frame low =
    ⊎_elim (λ found. let (x, within, there, is) = found in (x, there, (frame, within, is)))
    (λ past. absurd (let high : length xs ≤ frame = past.0 in omega arith))
    (slice_get_cases xs frame).1
