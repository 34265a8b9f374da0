-- Which of two banks is the current one, told by their gates and generations.
use Rattle.std.proofs.Common.{◌≡◌, ◌≢◌, ℕ, ◌⊎◌, ◌==◌, Bool, true, false, None, refl, inl, inr, arith}
use Rattle.disk_journal.specs.Banks.{chosen, next, other}
use Rattle.disk_journal.specs.Fault.{bank_checks}
use Rattle.disk_journal.specs.Image.{is_open}
use Rattle.disk_journal.specs.declared.layout.Bank.{Bank}
use Rattle.disk_journal.specs.declared.layout.Bank.TheVariants.{First, Second}
use Rattle.disk_journal.specs.declared.layout.TheConstants.{OPEN}
use Rattle.sdls_base.specs.FirstFailing.{first_failing}
use Rattle.std.proofs.lemmas.Bool.{cases_eq}
use Rattle.std.proofs.lemmas.Bool.Decides.{nat_tests}

not_both : (a b : ℕ) → a ≡ next b → b ≡ next a → ⊥
not_both a b first second = omega arith

is_true : (a b : ℕ) → a ≡ b → (a == b) ≡ true
is_true a b same = grind (arith, nat_tests)

is_false : (a b : ℕ) → a ≢ b → (a == b) ≡ false
is_false a b other = grind (arith, nat_tests)

-- a bank is open, and if the other one is too, its generation is the later one
abbrev pub IsNewest : ℕ → ℕ → ℕ → ℕ → Type 0
IsNewest gate other_gate generation other_generation =
    (gate ≡ OPEN) × ((other_gate ≢ OPEN) ⊎ (generation ≡ next other_generation))

abbrev choice : ℕ → ℕ → ℕ → ℕ → Bank
choice first second a b = chosen (first == OPEN) (second == OPEN) (b == next a)

pub first_chosen : (first second a b : ℕ) → IsNewest first second a b → choice first second a b ≡ First
first_chosen first second a b (here, inl closed) = rw (is_false second OPEN closed) refl
first_chosen first second a b (here, inr later) =
    rw (is_true first OPEN here) (rw (is_false b (next a) (λ earlier. not_both a b later earlier))
    (elim (cases_eq second OPEN) [
      | inl is_open ↦ rw (is_true second OPEN is_open) refl
      | inr closed ↦ rw (is_false second OPEN closed) refl
    ]))

pub second_chosen : (first second a b : ℕ) → IsNewest second first b a → choice first second a b ≡ Second
second_chosen first second a b (here, inl closed) = rw (is_true second OPEN here) (rw (is_false first OPEN closed) refl)
second_chosen first second a b (here, inr later) =
    rw (is_true second OPEN here) (rw (is_true b (next a) later) (elim (cases_eq first OPEN) [
      | inl is_open ↦ rw (is_true first OPEN is_open) refl
      | inr closed ↦ rw (is_false first OPEN closed) refl
    ]))

-- the checks of the banks pass
pub first_passes : (first second a b low at : ℕ) → IsNewest first second a b
    → first_failing (bank_checks (first == OPEN) (second == OPEN) a b low at) ≡ None
first_passes first second a b low at (here, inl closed) = rw (is_true first OPEN here)
    (rw (is_false second OPEN closed) refl)
first_passes first second a b low at (here, inr later) =
    rw (is_true first OPEN here) (rw (is_true a (next b) later) (elim (cases_eq second OPEN) [
      | inl is_open ↦ rw (is_true second OPEN is_open) (elim (cases_eq b (next a)) [
        | inl same ↦ rw (is_true b (next a) same) refl
        | inr other ↦ rw (is_false b (next a) other) refl
      ])
      | inr closed ↦ rw (is_false second OPEN closed) refl
    ]))

pub second_passes : (first second a b low at : ℕ) → IsNewest second first b a
    → first_failing (bank_checks (first == OPEN) (second == OPEN) a b low at) ≡ None
second_passes first second a b low at (here, inl closed) = rw (is_true second OPEN here)
    (rw (is_false first OPEN closed) refl)
second_passes first second a b low at (here, inr later) =
    rw (is_true second OPEN here) (rw (is_true b (next a) later) (elim (cases_eq first OPEN) [
      | inl is_open ↦ rw (is_true first OPEN is_open) refl
      | inr closed ↦ rw (is_false first OPEN closed) refl
    ]))

-- where they pass, the chosen one is newest
abbrev pub Decided : Bank → ℕ → ℕ → ℕ → ℕ → Type 0
Decided First first second a b = IsNewest first second a b
Decided Second first second a b = IsNewest second first b a

both_open : (first second a b low at : ℕ) (t u : Bool) → (b == next a) ≡ t → (a == next b) ≡ u → first ≡ OPEN
    → second ≡ OPEN
    → first_failing (bank_checks (first == OPEN) (second == OPEN) a b low at) ≡ None → Decided
    (choice first second a b) first second a b
both_open first second a b low at true u e f one two none =
    rw (is_true first OPEN one) (rw (is_true second OPEN two) (rw e (two, inr (grind (arith, nat_tests)))))
both_open first second a b low at false true e f one two none =
    rw (is_true first OPEN one) (rw (is_true second OPEN two) (rw e (one, inr (grind (arith, nat_tests)))))
both_open first second a b low at false false e f one two none =
    absurd (let gone = is_true first OPEN one in let too = is_true second OPEN two in cc)

pub decided : (first second a b low at : ℕ) → first_failing
    (bank_checks (first == OPEN) (second == OPEN) a b low at) ≡ None
    → Decided (choice first second a b) first second a b
decided first second a b low at none = elim (cases_eq first OPEN) [
  | inl one ↦ elim (cases_eq second OPEN) [
    | inl two ↦ both_open first second a b low at (b == next a) (a == next b) refl refl one two none
    | inr closed ↦ rw (is_false second OPEN closed) (one, inl closed)
  ]
  | inr shut ↦ elim (cases_eq second OPEN) [
    | inl two ↦ rw (is_true second OPEN two) (rw (is_false first OPEN shut) (two, inl shut))
    | inr closed ↦ absurd (let gone = is_false first OPEN shut in let too = is_false second OPEN closed in cc)
  ]
]
