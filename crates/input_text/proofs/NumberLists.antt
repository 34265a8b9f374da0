-- Numbers taken from words one after the other, for the lists at the end of a line.
use Rattle.std.proofs.Common.{◌≡◌, ℕ, ◌+◌, ◌<◌, List, [], ◌∷◌, ◌++◌, map, length, refl, sym, ap, ◌∙◌, arith}
use Rattle.std.proofs.Common.{length-append}
use Rattle.std.specs.List.{AllByRecursion}
use Rattle.std.specs.Fmt.{decimal}
use Rattle.std.proofs.lemmas.List.{map-append, append-nil}

-- the list is what was taken and more, which the words left spell
pub record Rest (P : ℕ → Type 0) (ns taken : List ℕ) (left : List (List ℕ)) : Type 0 where
  pub more : List ℕ
  pub split : ns ≡ taken ++ more
  pub left_is : left ≡ map decimal more
  pub each : AllByRecursion P more

-- these numbers were taken, and each list that all the words spell goes on behind them
pub record Taken (P : ℕ → Type 0) (all left : List (List ℕ)) (taken : List ℕ) : Type 0 where
  pub spelled : all ≡ map decimal taken ++ left
  pub each : AllByRecursion P taken
  pub rest : (ns : List ℕ) → AllByRecursion P ns → all ≡ map decimal ns → Rest P ns taken left

head_is : {X : Type 0} (x y : X) (xs ys : List X) → x ∷ xs ≡ y ∷ ys → (x ≡ y) × (xs ≡ ys)
head_is x y xs ys is = grind arith

append_behind : {X : Type 0} (xs : List X) (x : X) (ys : List X) → xs ++ x ∷ ys ≡ (xs ++ x ∷ []) ++ ys
append_behind [] x ys = refl
append_behind (z ∷ xs) x ys = ap (λ zs. z ∷ zs) (append_behind xs x ys)

each_behind : (P : ℕ → Type 0) (xs : List ℕ) (x : ℕ) → AllByRecursion P xs → P x → AllByRecursion P (xs ++ x ∷ [])
each_behind P [] x each is = (is, tt)
each_behind P (z ∷ xs) x each is = (each.0, each_behind P xs x each.1 is)

-- ---- the first number

first_rest : (P : ℕ → Type 0) (n : ℕ) (left : List (List ℕ)) (ns : List ℕ)
    → ((m : ℕ) (behind : List (List ℕ)) → P m → decimal n ∷ left ≡ decimal m ∷ behind → n ≡ m)
    → AllByRecursion P ns → decimal n ∷ left ≡ map decimal ns → Rest P ns (n ∷ []) left
first_rest P n left [] only each is = absurd (grind arith)
first_rest P n left (m ∷ ms) only each is =
    let same = only m (map decimal ms) each.0 is in
    let parts = head_is _ _ _ _ is in
    record { more = ms; split = ap (λ k. k ∷ ms) (sym same); left_is = parts.1; each = each.1 }

pub taken_first : (P : ℕ → Type 0) (all left : List (List ℕ)) (n : ℕ) → all ≡ decimal n ∷ left → P n
    → ((m : ℕ) (behind : List (List ℕ)) → P m → all ≡ decimal m ∷ behind → n ≡ m) → Taken P all left (n ∷ [])
taken_first P all left n is holds only = record {
  spelled = is;
  each = (holds, tt);
  rest = λ ns each spelled. first_rest P n left ns (λ m behind m_holds e. only m behind m_holds (is ∙ e)) each
      (sym is ∙ spelled);
}

-- a list of one number or more
pub first_of : (P : ℕ → Type 0) (ns : List ℕ) → 0 < length ns → AllByRecursion P ns
    → (m : ℕ) × (ms : List ℕ) × P m × (ns ≡ m ∷ ms)
first_of P [] some each = absurd (omega arith)
first_of P (m ∷ ms) some each = (m, ms, each.0, refl)

-- ---- one more number

next_rest : (P : ℕ → Type 0) (n : ℕ) (word : List ℕ) (left : List (List ℕ)) (taken ns more : List ℕ)
    → ((m : ℕ) → P m → word ≡ decimal m → n ≡ m) → ns ≡ taken ++ more → word ∷ left ≡ map decimal more
    → AllByRecursion P more → Rest P ns (taken ++ n ∷ []) left
next_rest P n word left taken ns [] only split left_is each = absurd (grind arith)
next_rest P n word left taken ns (m ∷ ms) only split left_is each =
    let parts = head_is _ _ _ _ left_is in
    let same = only m each.0 parts.0 in
    record {
      more = ms;
      split = split ∙ ap (λ k. taken ++ k ∷ ms) (sym same) ∙ append_behind taken n ms;
      left_is = parts.1;
      each = each.1;
    }

pub taken_next : (P : ℕ → Type 0) (all before left : List (List ℕ)) (taken : List ℕ) (word : List ℕ) (n : ℕ)
    → Taken P all before taken → before ≡ word ∷ left → P n → word ≡ decimal n
    → ((m : ℕ) → P m → word ≡ decimal m → n ≡ m) → Taken P all left (taken ++ n ∷ [])
taken_next P all before left taken word n was is holds spelled only = record {
  spelled = was.spelled ∙ ap (λ words. map decimal taken ++ words) (is ∙ ap (λ w. w ∷ left) spelled)
      ∙ append_behind (map decimal taken) (decimal n) left ∙ ap (λ words. words ++ left)
      (sym (map-append decimal taken (n ∷ [])));
  each = each_behind P taken n was.each holds;
  rest = λ ns each all_is.
      let r = was.rest ns each all_is in
      next_rest P n word left taken ns r.more only r.split (sym is ∙ r.left_is) r.each;
}

-- ---- the end

pub all_taken : (P : ℕ → Type 0) (all left : List (List ℕ)) (taken : List ℕ) → Taken P all left taken → left ≡ []
    → all ≡ map decimal taken
all_taken P all left taken was is = was.spelled ∙ ap (λ words. map decimal taken ++ words) is
    ∙ append-nil (map decimal taken)

nothing_more : (P : ℕ → Type 0) (ns taken more : List ℕ) → ns ≡ taken ++ more → [] ≡ map decimal more → taken ≡ ns
nothing_more P ns taken [] split is = sym (split ∙ append-nil taken)
nothing_more P ns taken (m ∷ ms) split is = absurd (grind arith)

pub only_taken : (P : ℕ → Type 0) (all left : List (List ℕ)) (taken : List ℕ) → Taken P all left taken → left ≡ []
    → (ns : List ℕ) → AllByRecursion P ns → all ≡ map decimal ns → taken ≡ ns
only_taken P all left taken was is ns each spelled =
    let r = was.rest ns each spelled in nothing_more P ns taken r.more r.split (sym is ∙ r.left_is)

-- where a word is left, each list has a number for it
pub record Wants (P : ℕ → Type 0) (word : List ℕ) (taken ns : List ℕ) : Type 0 where
  pub number : ℕ
  pub holds : P number
  pub spelled : word ≡ decimal number
  pub longer : length taken < length ns

wanted : (P : ℕ → Type 0) (word : List ℕ) (left : List (List ℕ)) (taken ns more : List ℕ) → ns ≡ taken ++ more
    → word ∷ left ≡ map decimal more → AllByRecursion P more → Wants P word taken ns
wanted P word left taken ns [] split is each = absurd (grind arith)
wanted P word left taken ns (m ∷ ms) split is each =
    let longer : length ns ≡ length taken + length (m ∷ ms) = ap length split ∙ length-append taken (m ∷ ms) in
    record { number = m; holds = each.0; spelled = (head_is _ _ _ _ is).0; longer = omega (arith, longer) }

pub one_wanted : (P : ℕ → Type 0) (all before left : List (List ℕ)) (taken : List ℕ) (word : List ℕ)
    → Taken P all before taken → before ≡ word ∷ left
    → (ns : List ℕ) → AllByRecursion P ns → all ≡ map decimal ns → Wants P word taken ns
one_wanted P all before left taken word was is ns each spelled =
    let r = was.rest ns each spelled in wanted P word left taken ns r.more r.split (sym is ∙ r.left_is) r.each
