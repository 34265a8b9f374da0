-- Reading words from left to right: what is read, and what is left.
use Rattle.std.specs.Prelude.{◌≡◌, ℕ, List, [], ◌∷◌, Option, Some, None, Result, Ok, Err, if◌then◌else◌}
use Rattle.std.specs.Str.{bytes_eq}

infixl 10 ◌>>=◌
abbrev pub ◌>>=◌ : {A B : Type 0} → Option A → (A → Option B) → Option B
(Some x) >>= f = f x
None >>= f = None

-- what a call answered, and what it left, is what reading gives
abbrev pub Reads : {X R : Type 0} → Option X → Option (X × R) → R → Type 0
Reads None read left = read ≡ None
Reads (Some x) read left = read ≡ Some (x, left)

-- the first of a list
abbrev pub first_of : {X : Type 0} → List X → Option (X × List X)
first_of [] = None
first_of (x ∷ xs) = Some (x, xs)

-- past words that are these
unfoldable pub past : List (List ℕ) → List (List ℕ) → Option (Unit {0} × List (List ℕ))
past [] words = Some (tt, words)
past (e ∷ es) [] = None
past (e ∷ es) (w ∷ ws) = if bytes_eq w e then past es ws else None

abbrev pub ok_of : {T E : Type 0} → Result T E → Option T
ok_of (Ok x) = Some x
ok_of (Err e) = None

-- no word is left
abbrev pub end_of : List (List ℕ) → Option (Unit {0})
end_of [] = Some tt
end_of (w ∷ ws) = None
