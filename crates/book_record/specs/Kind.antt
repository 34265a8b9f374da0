-- The kinds of records, by their numbers (profile).
use Rattle.std.specs.Prelude.{ℕ, ◌==◌, List, [], ◌∷◌, Option, find}
use Rattle.book_record.specs.declared.data.Kind.{Kind}
use Rattle.book_record.specs.declared.data.Kind.TheVariants.{Marks, Load, KeyStates, Create, Rekey, SaTo, SetNumber}
use Rattle.book_record.specs.declared.data.Kind.TheVariants.{SetWindow}

abbrev pub number_of : Kind → ℕ
number_of Marks = 1
number_of Load = 2
number_of KeyStates = 3
number_of Create = 4
number_of Rekey = 5
number_of SaTo = 6
number_of SetNumber = 7
number_of SetWindow = 8

abbrev pub kinds : List Kind
kinds = Marks ∷ Load ∷ KeyStates ∷ Create ∷ Rekey ∷ SaTo ∷ SetNumber ∷ SetWindow ∷ []

-- the kind with this number
unfoldable pub kind_of : ℕ → Option Kind
kind_of number = find (λ kind. number_of kind == number) kinds
