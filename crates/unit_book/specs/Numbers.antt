-- The releases that a book makes (profile).
use Rattle.std.specs.Prelude.{◌≡◌, ℕ, List, [], ◌∷◌, ◌++◌, Result, MatchResult}
use Rattle.sdls_base.specs.declared.entry.Entry.{Entry}
use Rattle.run_promise.specs.Numbers.{releases}
use Rattle.unit_book.specs.declared.fault.BookFault.{BookFault}
use Rattle.unit_book.specs.Book.{BookView, Made, Refuses}

-- these entries were made, one after the other
abbrev pub EnteredInTurn : List Entry → BookView → BookView → Type 0
EnteredInTurn [] old new = new ≡ old
EnteredInTurn (entry ∷ entries) old new =
    (next : BookView) × (position : ℕ) × Made entry old next position × EnteredInTurn entries next new

-- how the releases end: all made, or one refused
abbrev pub EndsReleases : List Entry → BookView → BookView → Result (Unit {0}) BookFault → Type 0
EndsReleases [] mid new result = MatchResult result (λ _. new ≡ mid) (λ _. ⊥)
EndsReleases (entry ∷ rest) mid new result = MatchResult result (λ _. ⊥) (Refuses entry mid new)

-- The releases of all keys were made in loading order, up to the first that is refused.
pub record Releases (words : List ℕ) (old new : BookView) (result : Result (Unit {0}) BookFault) : Type 0 where
  pub made : List Entry
  pub rest : List Entry
  pub all : made ++ rest ≡ releases old.state 0 words
  pub mid : BookView
  pub are_made : EnteredInTurn made old mid
  pub ends : EndsReleases rest mid new result
