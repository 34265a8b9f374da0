use Rattle.std.proofs.Common.{◌≡◌, ℕ, ◌-◌, ◌^◌, ◌<◌, ◌⊎◌, inl, inr, arith}
use Rattle.sdls_outside.specs.Faults.{Rose}
use Rattle.std.proofs.lemmas.Bool.{cases_lt}
use Rattle.sdls_outside.proofs.laws.rose.Goals as goal

sides : (before now : ℕ) → now < 2 ^ 64 → Rose before now → (before < now) ⊎ (now ≡ 2 ^ 64 - 1)
sides before now fits rose = elim (cases_lt before now) [
  | inl greater ↦ inl greater
  | inr other ↦ inr (omega arith)
]

back : (before now : ℕ) → now < 2 ^ 64 → (before < now) ⊎ (now ≡ 2 ^ 64 - 1) → Rose before now
back before now fits (inl greater) = omega arith
back before now fits (inr last) = omega arith

pub returns : goal.returns
returns c = λ before now fits. (sides before now fits, back before now fits)
