-- What stays known of a book while it goes on, and the places of a log.
use Rattle.std.proofs.Common.{◌≡◌, ◌⊎◌, ℕ, zero, suc, ◌+◌, ◌<◌, ◌≤◌, max, ltb, true, false, Bool, List, [], ◌∷◌, ◌++◌}
use Rattle.std.proofs.Common.{length, sym, refl, ap, ◌∙◌, subst, inl, inr, ⊎_elim, le_trans, append_assoc}
use Rattle.std.proofs.Common.{length-append, arith, if◌then◌else◌, ◌==◌}
use Rattle.std.proofs.lemmas.Bool.{cases_lt}
use Rattle.std.proofs.lemmas.Bool.Decides.{nat_tests}
use Rattle.sdls_base.specs.declared.entry.Logged.{Logged}
use Rattle.counter_table.specs.declared.view.Opening.{Opening}
use Rattle.counter_table.specs.declared.view.Known.{Known}
use Rattle.counter_table.specs.declared.view.Turn.{Turn}
use Rattle.counter_table.specs.Known.{entries, is_entry, Earlier, IsSparing, pieces, unknown, longer, later}
use Rattle.sdls_outside.specs.Faults.{Rose}
use Rattle.counter_table.specs.Turn.{places, stands, no_turn, beginner}
use Rattle.sdls_base.specs.Numbers.{once_below}
use Rattle.counter_table.specs.Rule.{KnowsBook}

pub append-nil : (xs : List Logged) → xs ++ [] ≡ xs
append-nil [] = refl
append-nil (x ∷ xs) = ap (λ ys. x ∷ ys) (append-nil xs)

pub entries-append : (xs ys : List Logged) → entries (xs ++ ys) ≡ entries xs + entries ys
entries-append [] ys = omega arith
entries-append (x ∷ xs) ys = let h = entries-append xs ys in omega arith

-- of two beginnings of one log the shorter has no more entries, and no more lines
entries_shorter : (xs ys r s : List Logged) → xs ++ r ≡ ys ++ s → length xs ≤ length ys → entries xs ≤ entries ys
entries_shorter [] ys r s e h = omega arith
entries_shorter (x ∷ xs) [] r s e h = absurd (omega arith)
entries_shorter (x ∷ xs) (y ∷ ys) r s e h =
    let head : x ≡ y = cc in let tail : xs ++ r ≡ ys ++ s = cc in
    let t = entries_shorter xs ys r s tail (omega arith) in
    let i : (if is_entry x then 1 else 0) ≡ (if is_entry y then 1 else 0) =
    ap (λ z. if is_entry z then 1 else 0) head in let P : ℕ → Type 0 =
    λ k. k + entries xs ≤ (if is_entry y then 1 else 0) + entries ys in subst P (sym i) (omega arith)

rose_later : (before mid now : ℕ) → mid ≤ now → Rose before mid → Rose before now
rose_later before mid now later rose = omega arith

-- of two counts of which the higher rose, one rose
rose_either : (before one other : ℕ) → Rose before (max one other) → Rose before one ⊎ Rose before other
rose_either before one other rose = elim (cases_lt one other) [
  | inl lt ↦ inr (omega arith)
  | inr ge ↦ inl (omega arith)
]

pub earlier_itself : (k : Known) → Earlier k k
earlier_itself k = record {
  log = ([], sym (append-nil k.log));
  changes = omega arith;
  faults = omega arith;
  standing = omega arith;
  put_faults = omega arith;
  stopped = λ r. refl;
  stood = λ r. refl;
}

pub earlier_unknown : (k : Known) → Earlier unknown k
earlier_unknown k = record {
  log = (k.log, refl);
  changes = omega arith;
  faults = omega arith;
  standing = omega arith;
  put_faults = omega arith;
  stopped = λ r. absurd (omega arith);
  stood = λ r. absurd (omega arith);
}

pub earlier_further : (a b c : Known) → Earlier a b → Earlier b c → c.opening ≡ b.opening → Earlier a c
earlier_further a b c ab bc same =
    record {
      log = (
        ab.log.0 ++ bc.log.0,
        bc.log.1 ∙ (ap (λ z. z ++ bc.log.0) ab.log.1 ∙ append_assoc a.log ab.log.0 bc.log.0),
      );
      changes = le_trans ab.changes bc.changes;
      faults = le_trans ab.faults bc.faults;
      standing = le_trans ab.standing bc.standing;
      put_faults = le_trans ab.put_faults bc.put_faults;
      stopped = λ r.
          let o : c.opening.faults ≡ b.opening.faults = ap (λ z. z.faults) same in
          let r' : Rose b.opening.faults a.faults = subst (λ z. Rose z a.faults) o r in
          bc.stopped (rose_later c.opening.faults a.faults b.faults ab.faults r) ∙ ab.stopped r';
      stood = λ r.
          let o : c.opening.faults ≡ b.opening.faults = ap (λ z. z.faults) same in
          bc.stood (rose_later c.opening.faults a.faults b.faults ab.faults r)
          ∙ ab.stood (subst (λ z. Rose z a.faults) o r);
    }

-- no more puts failed than pieces were put
pub sparing_itself : (k : Known) → IsSparing k k
sparing_itself k = (omega arith, λ rose low all. rose)

pub sparing_further : (a b c : Known) → Earlier a b → Earlier b c → c.opening ≡ b.opening → IsSparing a b
    → IsSparing b c → IsSparing a c
sparing_further a b c first next same ab bc =
    let one = ab.0 in
    let two = bc.0 in
    let f = first.put_faults in
    let n = next.put_faults in (
      omega arith,
      λ rose low all.
          let o : c.opening.faults ≡ b.opening.faults = ap (λ (z : Opening). z.faults) same in
          let mid : Rose c.opening.faults b.faults = bc.1 rose (omega arith) all in
          let log = next.stopped mid in
          let stood = next.stood mid in
          subst (λ (z : ℕ). Rose z a.faults) (sym o)
          (ab.1 (subst (λ (z : ℕ). Rose z b.faults) o mid) (omega arith) (omega arith)),
    )

-- a log with no line has no piece
pub no_pieces : (log : List Logged) → length log ≡ 0 → pieces log ≡ 0
no_pieces [] e = refl
no_pieces (line ∷ log) e = absurd (omega arith)

-- also by what two workers know together
pub sparing_later : (o : Opening) (a b k : Known)
    → (length b.log ≤ length a.log → k.put_faults + pieces a.log ≤ max a.put_faults b.put_faults + pieces k.log)
    → (length a.log < length b.log → IsSparing b k)
    → (Rose k.opening.faults k.faults → k.put_faults ≤ max a.put_faults b.put_faults → entries k.log ≤ k.standing
    → Rose k.opening.faults (max a.faults b.faults))
    → IsSparing (later o a b) k
sparing_later o a b k ak bk calm = (go (ltb (length a.log) (length b.log)) refl, calm)
  where
    go : (t : Bool) → ltb (length a.log) (length b.log) ≡ t
        → k.put_faults + pieces (if t then b.log else a.log) ≤ max a.put_faults b.put_faults + pieces k.log
    go true is = let lt : length a.log < length b.log = grind (arith, nat_tests) in let h = (bk lt).0 in omega arith
    go false is = let le : length b.log ≤ length a.log = grind (arith, nat_tests) in let h = ak le in omega arith

-- what had risen of one count has of the greater of two
pub rose_left : (before one other : ℕ) → Rose before one → Rose before (max one other)
rose_left before one other rose = omega arith

pub rose_right : (before one other : ℕ) → Rose before other → Rose before (max one other)
rose_right before one other rose = omega arith

pub earlier_length : (a b : Known) → Earlier a b → length a.log ≤ length b.log
earlier_length a b e = let h : length b.log ≡ length (a.log ++ e.log.0) = ap length e.log.1 in
    let l = length-append a.log e.log.0 in omega arith

no_rest : (xs r : List Logged) → [] ≡ xs ++ r → xs ≡ []
no_rest [] r e = refl
no_rest (x ∷ xs) r e = cc

-- what is of an earlier time than nothing is of an earlier time than any book
pub earlier_first : (a k : Known) → Earlier a unknown → Earlier a k
earlier_first a k h =
    let empty : a.log ≡ [] = no_rest a.log h.log.0 h.log.1 in
    let c = h.changes in let f = h.faults in let t = h.standing in let p = h.put_faults in
    record {
      log = (k.log, ap (λ (l : List Logged). l ++ k.log) (sym empty));
      changes = omega arith;
      faults = omega arith;
      standing = omega arith;
      put_faults = omega arith;
      stopped = λ r. absurd (omega arith);
      stood = λ r. absurd (omega arith);
    }

-- of two earlier times the one that knows less is the earlier
pub earlier_between : (a b k : Known) → Earlier a k → Earlier b k → b.opening ≡ k.opening → length a.log ≤ length b.log
    → a.changes ≤ b.changes → a.faults ≤ b.faults → a.standing ≤ b.standing → a.put_faults ≤ b.put_faults → Earlier a b
earlier_between a b k ak bk same shorter fewer less low put =
    record {
      log = prefix a.log b.log ak.log.0 bk.log.0 (sym ak.log.1 ∙ bk.log.1) shorter;
      changes = fewer;
      faults = less;
      standing = low;
      put_faults = put;
      stopped = λ r.
          let o : b.opening.faults ≡ k.opening.faults = ap (λ (z : Opening). z.faults) same in
          let r' : Rose k.opening.faults a.faults = subst (λ (z : ℕ). Rose z a.faults) o r in
          let e = ak.stopped r' in
          let low = entries_shorter a.log b.log ak.log.0 bk.log.0 (sym ak.log.1 ∙ bk.log.1) shorter in
          let whole : entries k.log ≡ entries b.log + entries bk.log.0 =
          ap entries bk.log.1 ∙ entries-append b.log bk.log.0 in omega arith;
      stood = λ r.
          let o : b.opening.faults ≡ k.opening.faults = ap (λ (z : Opening). z.faults) same in
          let e = ak.stood (subst (λ (z : ℕ). Rose z a.faults) o r) in
          let most = bk.standing in omega arith;
    }
  where
    prefix : (xs ys r s : List Logged) → xs ++ r ≡ ys ++ s → length xs ≤ length ys
        → (rest : List Logged) × (ys ≡ xs ++ rest)
    prefix [] ys r s e h = (ys, refl)
    prefix (x ∷ xs) [] r s e h = absurd (omega arith)
    prefix (x ∷ xs) (y ∷ ys) r s e h =
        let head : y ≡ x = cc in let tail : xs ++ r ≡ ys ++ s = cc in
        let (rest, is) = prefix xs ys r s tail (omega arith) in
        (rest, ap (λ (z : Logged). z ∷ ys) head ∙ ap (λ (l : List Logged). x ∷ l) is)

-- what two workers know together is of an earlier time too
pub earlier_later : (o : Opening) (a b k : Known) → Earlier a k → Earlier b k → Earlier (later o a b) k
earlier_later o a b k ak bk = go (ltb (length a.log) (length b.log)) refl
  where
    same : a.log ++ ak.log.0 ≡ b.log ++ bk.log.0
    same = sym ak.log.1 ∙ bk.log.1

    fits : (log : List Logged) → ((rest : List Logged) × (k.log ≡ log ++ rest)) → entries a.log ≤ entries log
        → entries b.log ≤ entries log
        → Earlier record {
          marks = a.marks;
          log = log;
          changes = max a.changes b.changes;
          faults = max a.faults b.faults;
          standing = max a.standing b.standing;
          put_faults = max a.put_faults b.put_faults;
          opening = o;
        } k
    fits log p ea eb =
        record {
          log = p;
          changes = let x = ak.changes in let y = bk.changes in omega arith;
          faults = let x = ak.faults in let y = bk.faults in omega arith;
          standing = let x = ak.standing in let y = bk.standing in omega arith;
          put_faults = let x = ak.put_faults in let y = bk.put_faults in omega arith;
          stopped = λ r.
              let whole : entries k.log ≡ entries log + entries p.0 = ap entries p.1 ∙ entries-append log p.0 in
              ⊎_elim (λ x. let s = ak.stopped x in omega arith) (λ y. let s = bk.stopped y in
              omega arith) (rose_either k.opening.faults a.faults b.faults r);
          stood = λ r.
              let x = ak.standing in
              let y = bk.standing in
              ⊎_elim (λ z. let s = ak.stood z in omega arith) (λ z. let s = bk.stood z in
              omega arith) (rose_either k.opening.faults a.faults b.faults r);
        }

    go : (t : Bool) → ltb (length a.log) (length b.log) ≡ t
        → Earlier record {
          marks = a.marks;
          log = (if t then b.log else a.log);
          changes = max a.changes b.changes;
          faults = max a.faults b.faults;
          standing = max a.standing b.standing;
          put_faults = max a.put_faults b.put_faults;
          opening = o;
        } k
    go true is = let lt : length a.log < length b.log = grind (arith, nat_tests) in
        fits b.log bk.log (entries_shorter a.log b.log ak.log.0 bk.log.0 same (omega arith)) (omega arith)
    go false is = let le : length b.log ≤ length a.log = grind (arith, nat_tests) in
        fits a.log ak.log (omega arith) (entries_shorter b.log a.log bk.log.0 ak.log.0 (sym same) le)

pub longer_length : (xs ys : List Logged) → (length xs ≤ length (longer xs ys)) × (length ys ≤ length (longer xs ys))
longer_length xs ys = go (ltb (length xs) (length ys)) refl
  where
    go : (t : Bool) → ltb (length xs) (length ys) ≡ t → (length xs ≤ length (if t then ys else xs))
        × (length ys ≤ length (if t then ys else xs))
    go true is = let lt : length xs < length ys = grind (arith, nat_tests) in (omega arith, omega arith)
    go false is = let le : length ys ≤ length xs = grind (arith, nat_tests) in (omega arith, omega arith)

-- places
pub stands-append : (p : ℕ) (xs ys : List ℕ) → stands p (xs ++ ys) ≡ stands p xs + stands p ys
stands-append p [] ys = omega arith
stands-append p (x ∷ xs) ys = let h = stands-append p xs ys in omega arith

pub places_next : (p from count : ℕ) → stands p (places from count) + once_below p from ≡ once_below p (from + count)
places_next p from zero = grind (arith, nat_tests)
places_next p from (suc count) = let h = places_next p (suc from) count in let o = one p from in
    let e : suc from + count ≡ from + suc count = omega arith in let k = ap (once_below p) e in omega arith
  where
    one : (p n : ℕ) → (if n == p then 1 else 0) + once_below p n ≡ once_below p (suc n)
    one p n = grind (arith, nat_tests)

pub places_low : (p from count : ℕ) → 0 < stands p (places from count) → p < from + count
places_low p from count h = let e = places_next p from count in lemma (stands p (places from count)) e h
  where
    lemma : (s : ℕ) → s + once_below p from ≡ once_below p (from + count) → 0 < s → p < from + count
    lemma s e h = grind (arith, nat_tests)

-- a worker that ended
pub ended_knows : (book : Known) (filled : Bool) → KnowsBook book filled no_turn
ended_knows book filled =
    record {
      earlier = earlier_unknown book;
      sparing = λ e. absurd (false≢true e);
      epoch = omega arith;
      opening = λ e. absurd (false≢true e);
      blank = λ e. refl;
      made = λ p h. absurd (omega arith);
      one = earlier_unknown book;
      other = earlier_unknown book;
    }
  where
    false≢true : false ≡ true → ⊥
    false≢true e = cc

-- a worker that was split off
pub beginner_knows : (book : Known) (filled : Bool) (v : Turn) → KnowsBook book filled v
    → KnowsBook book filled (beginner v)
beginner_knows book filled v k = record {
  earlier = k.earlier;
  sparing = k.sparing;
  epoch = k.epoch;
  opening = k.opening;
  blank = k.blank;
  made = λ p h. absurd (omega arith);
  one = earlier_unknown book;
  other = earlier_unknown book;
}
