-- The items of a clear text, taken from its front.
use Rattle.std.proofs.Common.{◌≡◌, ◌≢◌, ℕ, zero, suc, ◌+◌, ◌<◌, ◌≤◌, List, [], ◌∷◌, ◌++◌, length, get_or, drop, Option}
use Rattle.std.proofs.Common.{Some, None, refl, sym, ap, ◌∙◌, arith, append_assoc, length-append, length-drop, ◌-◌}
use Rattle.std.proofs.lemmas.List.{append-nil, drop_all, drop-drop}
use Rattle.std.specs.Option.{option_or}
use Rattle.std.proofs.lemmas.Bool.Decides.{nat_tests}
use Rattle.sdls_base.specs.declared.key_id.KeyItem.{KeyItem}
use Rattle.ep_core.specs.Sealed.{item_fault, item_at, items_fault, items_in}

-- an item without a fault is whole
pub whole : (at : ℕ) (s : List ℕ) → item_fault at s ≡ None → 3 + get_or s 2 0 ≤ length s
whole at s none = grind (arith, nat_tests)

pub high_not_0 : (at : ℕ) (s : List ℕ) → item_fault at s ≡ None → get_or s 0 0 ≢ 0
high_not_0 at s none = grind (arith, nat_tests)

pub ninth : (left at : ℕ) (s : List ℕ) → left ≡ 0 → 0 < length s → items_fault left at s ≡ Some at
ninth left at [] e some = absurd (omega arith)
ninth zero at (x ∷ s) e some = refl
ninth (suc left) at (x ∷ s) e some = absurd (omega arith)

pub here : (left at : ℕ) (s : List ℕ) (offset : ℕ) → 0 < left → 0 < length s → item_fault at s ≡ Some offset
    → items_fault left at s ≡ Some offset
here zero at s offset more some fault = absurd (omega arith)
here (suc left) at [] offset more some fault = absurd (omega arith)
here (suc left) at (x ∷ s) offset more some fault =
    ap (λ (o : Option ℕ). option_or o (items_fault left (at + 3 + get_or s 1 0) (drop (2 + get_or s 1 0) s))) fault

pub later : (left k at : ℕ) (s : List ℕ) → left ≡ suc k → 0 < length s → item_fault at s ≡ None
    → items_fault left at s ≡ items_fault k (at + (3 + get_or s 2 0)) (drop (3 + get_or s 2 0) s)
later left k at [] e some none = absurd (omega arith)
later left k at (x ∷ s) e some none =
    let front : (at + 3 + get_or s 1 0) ≡ at + (3 + get_or s 1 0) = omega arith in
    let behind : suc (2 + get_or s 1 0) ≡ 3 + get_or s 1 0 = omega arith in
    ap (λ (n : ℕ). items_fault n at (x ∷ s)) e
    ∙ ap (λ (o : Option ℕ). option_or o (items_fault k (at + 3 + get_or s 1 0) (drop (2 + get_or s 1 0) s))) none
    ∙ ap (λ (n : ℕ). items_fault k n (drop (2 + get_or s 1 0) s)) front
    ∙ ap (λ (n : ℕ). items_fault k (at + (3 + get_or s 1 0)) (drop n (x ∷ s))) behind

-- where nothing is at fault, the item at the front is not, and there is room for it
pub going : (left at : ℕ) (s : List ℕ) → 0 < length s → items_fault left at s ≡ None
    → (0 < left) × (item_fault at s ≡ None)
going left at [] some none = absurd (omega arith)
going zero at (x ∷ s) some none = absurd cc
going (suc left) at (x ∷ s) some none = (omega arith, front (item_fault at (x ∷ s)) none)
  where
    front : (o : Option ℕ) → option_or o (items_fault left (at + 3 + get_or s 1 0) (drop (2 + get_or s 1 0) s)) ≡ None
        → o ≡ None
    front None e = refl
    front (Some n) e = absurd cc

-- the item at the front, and those behind it
pub front_item : (left k : ℕ) (s : List ℕ) → left ≡ suc k → 3 ≤ length s
    → items_in left s ≡ item_at s ∷ items_in k (drop (3 + get_or s 2 0) s)
front_item left k [] e long = absurd (omega arith)
front_item left k (a ∷ []) e long = absurd (omega arith)
front_item left k (a ∷ b ∷ []) e long = absurd (omega arith)
front_item left k (a ∷ b ∷ n ∷ s) e long =
    let behind : suc (suc (suc n)) ≡ 3 + n = omega arith in
    ap (λ (m : ℕ). items_in m (a ∷ b ∷ n ∷ s)) e
    ∙ ap (λ (m : ℕ). item_at (a ∷ b ∷ n ∷ s) ∷ items_in k (drop m (a ∷ b ∷ n ∷ s))) behind

-- so far, items were read up to an offset
pub record ReadsTo (text : List ℕ) (items : List KeyItem) (at : ℕ) : Type 0 where
  pub within : at ≤ length text
  pub right : items_fault (8 - length items) at (drop at text) ≡ None
  pub same : items ++ items_in (8 - length items) (drop at text) ≡ items_in 8 text

pub reads_on : (text : List ℕ) (items new : List KeyItem) (at next : ℕ) → at < length text → ReadsTo text items at
    → new ≡ items ++ item_at (drop at text) ∷ [] → next ≡ at + (3 + get_or (drop at text) 2 0) → ReadsTo text new next
reads_on text items new at next h reads e f =
    let s : List ℕ = drop at text in
    let g : ℕ = get_or s 2 0 in
    let some : 0 < length s = omega (arith, length-drop at text) in
    let go = going (8 - length items) at s some reads.right in
    let long = whole at s go.1 in
    let k : ℕ = 8 - length items - 1 in
    let more : 8 - length items ≡ suc k = omega (arith, go.0) in
    let fewer : 8 - length new ≡ k = omega (arith, ap length e, length-append items (item_at s ∷ [])) in
    let there : drop next text ≡ drop (3 + g) s = ap (λ (n : ℕ). drop n text) f ∙ sym (drop-drop (3 + g) at text) in
    record {
      within = omega (arith, length-drop at text, long);
      right = ap (λ (n : ℕ). items_fault n next (drop next text)) fewer
          ∙ ap (λ (n : ℕ). items_fault k n (drop next text)) f
          ∙ ap (λ (x : List ℕ). items_fault k (at + (3 + g)) x) there
          ∙ sym (later (8 - length items) k at s more some go.1) ∙ reads.right;
      same = ap (λ (n : ℕ). new ++ items_in n (drop next text)) fewer
          ∙ ap (λ (x : List ℕ). new ++ items_in k x) there
          ∙ ap (λ (n : List KeyItem). n ++ items_in k (drop (3 + g) s)) e
          ∙ append_assoc items (item_at s ∷ []) (items_in k (drop (3 + g) s))
          ∙ ap (λ (x : List KeyItem). items ++ x) (sym (front_item (8 - length items) k s more (omega (arith, long))))
          ∙ reads.same;
    }

none_in : (left : ℕ) → items_in left [] ≡ []
none_in zero = refl
none_in (suc left) = refl

pub read_all : (text : List ℕ) (items : List KeyItem) (at : ℕ) → length text ≤ at → ReadsTo text items at
    → items ≡ items_in 8 text
read_all text items at past reads =
    sym (append-nil items)
    ∙ ap (λ (x : List KeyItem). items ++ x)
    (sym (ap (items_in (8 - length items)) (drop_all at text past) ∙ none_in (8 - length items)))
    ∙ reads.same
