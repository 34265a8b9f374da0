-- The keys of a range of identifiers.
use Rattle.std.proofs.Common.{◌&&◌, nat_le, sym, subst, ℕ, ◌≤◌, Bool, true, false, cond, List, [], ◌∷◌, length, arith}
use Rattle.std.specs.List.{filter}
use Rattle.std.proofs.lemmas.List.{length-map}
use Rattle.key_book.specs.declared.key_row.KeyRow.{KeyRow}
use Rattle.key_book.specs.Inventory.{listed}

kept_or_not : {X : Type 0} (b : Bool) (x : X) (xs ys : List X) → length ys ≤ length xs
    → length (cond b (x ∷ ys) ys) ≤ length (x ∷ xs)
kept_or_not true x xs ys h = omega arith
kept_or_not false x xs ys h = omega arith

length-kept : {X : Type 0} (p : X → Bool) (xs : List X) → length (filter p xs) ≤ length xs
length-kept p [] = omega arith
length-kept p (x ∷ xs) = kept_or_not (p x) x xs (filter p xs) (length-kept p xs)

pub length-listed : (rows : List KeyRow) (first last : ℕ) → length (listed rows first last) ≤ length rows
length-listed rows first last =
    let inside : KeyRow → Bool = λ row. nat_le first row.id && nat_le row.id last in
    subst (λ n. n ≤ length rows) (sym (length-map (filter inside rows) (λ (row : KeyRow). (row.id, row.state))))
    (length-kept inside rows)
