-- The indexes of the rows of a book.
use Rattle.std.proofs.Common.{◌≡◌, ℕ, Bool, true, false, cond, nat_eq, List, [], ◌∷◌, ◌++◌, length, get_or, set, map}
use Rattle.std.proofs.Common.{Option, Some, None, sym, refl, ap, ◌∙◌, arith}
use Rattle.std.specs.List.{position, list_any}
use Rattle.std.specs.Str.{bytes_eq}
use Rattle.std.proofs.lemmas.Bool.{false≢true}
use Rattle.std.proofs.lemmas.Bool.Decides.{nat_tests}
use Rattle.std.proofs.lemmas.Slice.Eq.{bytes_eq-Decides}
use Rattle.key_book.specs.declared.table.Entry.{Entry}
use Rattle.key_book.specs.declared.key_row.KeyRow.{KeyRow}
use Rattle.sdls_base.specs.declared.states.KeyState.{KeyState}
use Rattle.key_book.specs.KeyRow.{in_state}
use Rattle.key_book.specs.KeyRefusal.{place_with}
use Rattle.key_book.specs.Moves.{moved}
use Rattle.key_book.specs.Index.{place_in, place_noted, IsAscending}
use Rattle.key_book.specs.Table.{front, IsIndex}
use Rattle.key_book.proofs.Positions.{position-push, position-set, position-map, position-none, position-same}

-- the indexes

pub IsIndex-none : (number : KeyRow → ℕ) → IsIndex number [] []
IsIndex-none number = record { ascending = λ i j less low. absurd (omega arith); places = λ n. refl }

pub IsIndex-push : (number : KeyRow → ℕ) (rows : List KeyRow) (row : KeyRow) (before after : List Entry)
    → IsIndex number rows before → IsAscending after
    → ((q : ℕ) → place_in after q ≡ place_noted (place_in before q) (number row) (length rows) q)
    → IsIndex number (rows ++ row ∷ []) after
IsIndex-push number rows row before after ok up noted =
    record {
      ascending = up;
      places = λ n. noted n ∙ ap (λ (o : Option ℕ). place_noted o (number row) (length rows) n) (ok.places n)
          ∙ sym (position-push (λ (r : KeyRow). nat_eq (number r) n) rows row);
    }

pub IsIndex-set : (number : KeyRow → ℕ) (rows : List KeyRow) (entries : List Entry) (i : ℕ) (row new : KeyRow)
    → IsIndex number rows entries → number new ≡ number (get_or rows i row) → IsIndex number (set rows i new) entries
IsIndex-set number rows entries i row new ok same =
    record {
      ascending = ok.ascending;
      places = λ n.
          ok.places n ∙ sym (position-set (λ (r : KeyRow). nat_eq (number r) n) rows i new row
          (ap (λ m. nat_eq m n) same));
    }

pub IsIndex-map : (number : KeyRow → ℕ) (rows : List KeyRow) (entries : List Entry) (g : KeyRow → KeyRow)
    → IsIndex number rows entries → ((row : KeyRow) → number (g row) ≡ number row) → IsIndex number (map g rows) entries
IsIndex-map number rows entries g ok same =
    record {
      ascending = ok.ascending;
      places = λ n.
          ok.places n ∙ sym (position-map (λ (r : KeyRow). nat_eq (number r) n) g
          (λ row. ap (λ m. nat_eq m n) (same row)) rows);
    }

-- keys that took a state
pub IsIndex-moved : (number : KeyRow → ℕ) (rows : List KeyRow) (entries : List Entry) (ids : List ℕ) (to : KeyState)
    → IsIndex number rows entries → ((row : KeyRow) → number (in_state row to) ≡ number row)
    → IsIndex number (moved rows ids to) entries
IsIndex-moved number rows entries ids to ok same =
    IsIndex-map number rows entries (λ row. cond (list_any (λ id. nat_eq id row.id) ids) (in_state row to) row) ok
    (λ row. either (list_any (λ id. nat_eq id row.id) ids) row)
  where
    either : (b : Bool) (row : KeyRow) → number (cond b (in_state row to) row) ≡ number row
    either true row = same row
    either false row = refl

-- a digest

other_front : (digest : List ℕ) (row : KeyRow) → nat_eq (front row.digest) (front digest) ≡ false
    → bytes_eq row.digest digest ≡ false
other_front digest row other = by (bytes_eq row.digest digest) refl
  where
    by : (b : Bool) → bytes_eq row.digest digest ≡ b → bytes_eq row.digest digest ≡ false
    by false e = e
    by true e =
        let same : row.digest ≡ digest = (bytes_eq-Decides row.digest digest).0 e in
        let fronts : front row.digest ≡ front digest = ap front same in
        let equal : nat_eq (front row.digest) (front digest) ≡ true = grind (arith, nat_tests, fronts) in
        absurd (false≢true (sym other ∙ equal))

pub digest-nowhere : (rows : List KeyRow) (digest : List ℕ)
    → position (λ (r : KeyRow). nat_eq (front r.digest) (front digest)) rows ≡ None → place_with rows digest ≡ None
digest-nowhere rows digest nowhere =
    position-none (λ (r : KeyRow). nat_eq (front r.digest) (front digest)) (λ (r : KeyRow). bytes_eq r.digest digest)
    rows (other_front digest) nowhere

pub digest-placed : (rows : List KeyRow) (digest : List ℕ) (i : ℕ) (d : KeyRow)
    → position (λ (r : KeyRow). nat_eq (front r.digest) (front digest)) rows ≡ Some i
    → bytes_eq (get_or rows i d).digest digest ≡ true → place_with rows digest ≡ Some i
digest-placed rows digest i d placed same =
    position-same (λ (r : KeyRow). nat_eq (front r.digest) (front digest)) (λ (r : KeyRow). bytes_eq r.digest digest)
    rows i d (other_front digest) placed same
