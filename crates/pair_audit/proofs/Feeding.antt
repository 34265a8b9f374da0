-- What an audit knows behind one more answer, and what it tells of it, for `feed`.
use Rattle.std.proofs.Common.{◌≡◌, ◌≢◌, ◌⊎◌, ℕ, ◌+◌, ◌<◌, ◌≤◌, ◌==◌, ◌&&◌, ◌||◌, not, Bool, true, false, cond}
use Rattle.std.proofs.Common.{if◌then◌else◌, List, [], ◌∷◌, ◌++◌, length, take, Option, Some, None, inl, inr, refl, sym}
use Rattle.std.proofs.Common.{ap, ◌∙◌, subst, arith, length-append}
use Rattle.std.specs.Prelude.{MatchOption, unwrap_or}
use Rattle.std.specs.List.{All, count_by, slice_index_or}
use Rattle.std.specs.BTreeMap.{BTreeMap}
use Rattle.std.proofs.lemmas.Bool.Decides.{nat_tests}
use Rattle.std.proofs.lemmas.List.{take-append-le}
use Rattle.std.proofs.lemmas.List.Elements.{All-nil, All-push, All-weaker}
use Rattle.std.proofs.lemmas.List.Sums.{count_by-le-length, sum_by_push}
use Rattle.std.proofs.lemmas.Option.{slice_get_within}
use Rattle.record_io.specs.declared.answers.Answer.{Answer}
use Rattle.run_promise.specs.Answers.{Uses, Accepts}
use Rattle.pair_audit.specs.declared.audit.Audit.{Audit}
use Rattle.pair_audit.specs.declared.audit.Repeat.{Repeat}
use Rattle.pair_audit.specs.Marks.{IsUse, IsAcceptance, SaysAcceptance, SaysUse}
use Rattle.pair_audit.specs.Places.{place_in}
use Rattle.pair_audit.specs.Repeats.{AreUnlike}
use Rattle.pair_audit.specs.Audit.{HasHead, is_use, is_acceptance, StandsFirst, KnowsFirst, KnowsAudit, TellsOf}
use Rattle.pair_audit.specs.Audit.{EntersPlace, repeat_at, FeedsUse, FeedsAcceptance, IsAsBefore}
use Rattle.pair_audit.proofs.Seen.{get_left, get_seam, take_seam, match_more, place_none, place_same}

-- ---- where a number stands first

first_more : (Does : Answer → ℕ → ℕ → Type 0) (fed : List Answer) (answer : Answer) (k n p : ℕ)
    → StandsFirst Does fed k n p
    → StandsFirst Does (fed ++ answer ∷ []) k n p
first_more Does fed answer k n p s =
    let low : p < length fed = slice_get_within fed p s.answer s.at_place in
    record {
      answer = s.answer;
      at_place = get_left fed (answer ∷ []) p low ∙ s.at_place;
      does = s.does;
      none_before = subst (λ (l : List Answer). All (λ (a : Answer). ¬ Does a k n) l)
          (sym (take-append-le p fed (answer ∷ []) (omega arith))) s.none_before;
    }

-- of no answers
none_known : (Does : Answer → ℕ → ℕ → Type 0) (places : BTreeMap (ℕ × ℕ) ℕ) → places.entries ≡ []
    → KnowsFirst Does [] places
none_known Does places empty = λ k n.
    subst (λ (o : Option ℕ). MatchOption o (All (λ (a : Answer). ¬ Does a k n) []) (StandsFirst Does [] k n))
    (sym (place_none places empty k n))
    (All-nil (λ (a : Answer). ¬ Does a k n))

-- of maps with the same entries
known_still : (Does : Answer → ℕ → ℕ → Type 0) (fed : List Answer) (old new : BTreeMap (ℕ × ℕ) ℕ)
    → new.entries ≡ old.entries → KnowsFirst Does fed old
    → KnowsFirst Does fed new
known_still Does fed old new same knows = λ k n.
    subst (λ (o : Option ℕ). MatchOption o (All (λ (a : Answer). ¬ Does a k n) fed) (StandsFirst Does fed k n))
    (sym (place_same old new same k n)) (knows k n)

pub knows_still : (fed : List Answer) (old new : Audit) → IsAsBefore old new → KnowsAudit fed old → KnowsAudit fed new
knows_still fed old new same knows = record {
  uses = known_still Uses fed old.uses new.uses same.uses knows.uses;
  acceptances = known_still Accepts fed old.acceptances new.acceptances same.acceptances knows.acceptances;
  use_count = same.use_count ∙ knows.use_count;
  acceptance_count = same.acceptance_count ∙ knows.acceptance_count;
  count = same.count ∙ knows.count;
}

pub knows_nothing : (audit : Audit) → audit.uses.entries ≡ [] → audit.acceptances.entries ≡ [] → audit.use_count ≡ 0
    → audit.acceptance_count ≡ 0
    → audit.fed ≡ 0 → KnowsAudit [] audit
knows_nothing audit uses acceptances use_count acceptance_count fed = record {
  uses = none_known Uses audit.uses uses;
  acceptances = none_known Accepts audit.acceptances acceptances;
  use_count = use_count;
  acceptance_count = acceptance_count;
  count = fed;
}

-- an answer that does so with no number
knows_kept : (Does : Answer → ℕ → ℕ → Type 0) (fed : List Answer) (answer : Answer) (places : BTreeMap (ℕ × ℕ) ℕ)
    → ((k n : ℕ) → ¬ Does answer k n) → KnowsFirst Does fed places → KnowsFirst Does (fed ++ answer ∷ []) places
knows_kept Does fed answer places none knows = λ k n.
    match_more (place_in places k n)
    (λ (all : All (λ (a : Answer). ¬ Does a k n) fed). All-push (λ (a : Answer). ¬ Does a k n) fed answer all
    (none k n))
    (λ (p : ℕ) (s : StandsFirst Does fed k n p). first_more Does fed answer k n p s) (knows k n)

-- one that does so with this number
module _ (Does : Answer → ℕ → ℕ → Type 0) (fed : List Answer) (answer : Answer) (key number : ℕ)
    (does : Does answer key number)
    (one : (k n : ℕ) → Does answer k n → (key ≡ k) × (number ≡ n)) where
  place_or : (o : Option ℕ) → MatchOption o (All (λ (a : Answer). ¬ Does a key number) fed)
      (StandsFirst Does fed key number)
      → StandsFirst Does (fed ++ answer ∷ []) key number (unwrap_or o (length fed))
  place_or None none = record {
    answer = answer;
    at_place = get_seam fed answer [];
    does = does;
    none_before = subst (λ (l : List Answer). All (λ (a : Answer). ¬ Does a key number) l)
        (sym (take_seam fed (answer ∷ []))) none;
  }
  place_or (Some p) s = first_more Does fed answer key number p s

  abbrev Known : ℕ → ℕ → Option ℕ → Type 0
  Known k n o = MatchOption o (All (λ (a : Answer). ¬ Does a k n) (fed ++ answer ∷ []))
      (StandsFirst Does (fed ++ answer ∷ []) k n)

  other_known : (k n : ℕ) (o : Option ℕ) → ¬ ((key ≡ k) × (number ≡ n))
      → MatchOption o (All (λ (a : Answer). ¬ Does a k n) fed) (StandsFirst Does fed k n) → Known k n o
  other_known k n o apart is =
      match_more o
      (λ (all : All (λ (a : Answer). ¬ Does a k n) fed). All-push (λ (a : Answer). ¬ Does a k n) fed answer all
      (λ d. apart (one k n d)))
      (λ (p : ℕ) (s : StandsFirst Does fed k n p). first_more Does fed answer k n p s) is

  same_known : (k n : ℕ) (o : Option ℕ) → key ≡ k → number ≡ n
      → MatchOption o (All (λ (a : Answer). ¬ Does a key number) fed) (StandsFirst Does fed key number)
      → Known k n (Some (unwrap_or o (length fed)))
  same_known k n o same_key same_number is =
      subst (λ (m : ℕ). Known k m (Some (unwrap_or o (length fed)))) same_number
      (subst (λ (m : ℕ). Known m number (Some (unwrap_or o (length fed)))) same_key (place_or o is))

  known_by : (k n : ℕ) (o before : Option ℕ) (same_key same_number : Bool) → (k == key) ≡ same_key
      → (n == number) ≡ same_number
      → MatchOption before (All (λ (a : Answer). ¬ Does a key number) fed) (StandsFirst Does fed key number)
      → MatchOption o (All (λ (a : Answer). ¬ Does a k n) fed) (StandsFirst Does fed k n)
      → Known k n (if same_key && same_number then Some (unwrap_or before (length fed)) else o)
  known_by k n o before true true e f here is =
      same_known k n before (let g : key ≡ k = grind (arith, nat_tests) in g)
      (let g : number ≡ n = grind (arith, nat_tests) in g) here
  known_by k n o before true false e f here is =
      other_known k n o (λ same. let g : number ≡ n = same.1 in let h : ⊥ = grind (arith, nat_tests) in h) is
  known_by k n o before false same_number e f here is =
      other_known k n o (λ same. let g : key ≡ k = same.0 in let h : ⊥ = grind (arith, nat_tests) in h) is

  knows_entered : (old new : BTreeMap (ℕ × ℕ) ℕ) → KnowsFirst Does fed old → EntersPlace old new key number (length fed)
      → KnowsFirst Does (fed ++ answer ∷ []) new
  knows_entered old new knows entered = λ k n.
      subst (Known k n) (sym (entered k n))
      (known_by k n (place_in old k n) (place_in old key number) (k == key) (n == number) refl refl (knows key number)
      (knows k n))

-- ---- what is told

use_apart : (a b : Answer) → IsUse b → (k n : ℕ) → ¬ Accepts b k n
use_apart a b (inl code) k n accepts = let c = accepts.0 in omega arith
use_apart a b (inr (code, some)) k n accepts = let c = accepts.0 in omega arith

use_unlike : (b : Answer) → IsUse b → (a : Answer) → ¬ Uses a b.key b.number → AreUnlike a b
use_unlike b is a none (inl (k, n, one, other)) = none (one.0, one.1 ∙ sym other.1, one.2 ∙ sym other.2)
use_unlike b is a none (inr (k, n, one, other)) = use_apart a b is k n other

acceptance_apart : (b : Answer) → IsAcceptance b → (k n : ℕ) → ¬ Uses b k n
acceptance_apart b is k n uses = by_code uses.0
  where
    by_code : ((b.code ≡ 0) ⊎ ((b.code ≡ 3) × (b.key ≢ 0))) → ⊥
    by_code (inl c) = omega arith
    by_code (inr (c, some)) = omega arith

acceptance_unlike : (b : Answer) → IsAcceptance b → (a : Answer) → ¬ Accepts a b.key b.number → AreUnlike a b
acceptance_unlike b is a none (inl (k, n, one, other)) = acceptance_apart b is k n other
acceptance_unlike b is a none (inr (k, n, one, other)) = none (one.0, one.1 ∙ sym other.1, one.2 ∙ sym other.2)

neither_unlike : (b : Answer) → ¬ IsUse b → ¬ IsAcceptance b → (a : Answer) → AreUnlike a b
neither_unlike b no_use no_acceptance a (inl (k, n, one, other)) = no_use other.0
neither_unlike b no_use no_acceptance a (inr (k, n, one, other)) = no_acceptance other.0

use_told : (fed : List Answer) (answer : Answer) (count : ℕ) (o : Option ℕ) → IsUse answer → count ≡ length fed
    → MatchOption o (All (λ (a : Answer). ¬ Uses a answer.key answer.number) fed)
    (StandsFirst Uses fed answer.key answer.number)
    → TellsOf fed answer (repeat_at true answer.key answer.number count o)
use_told fed answer count None is size none =
    All-weaker (λ (a : Answer). ¬ Uses a answer.key answer.number) (λ (a : Answer). AreUnlike a answer)
    (use_unlike answer is) fed none
use_told fed answer count (Some p) is size s = record {
  second = size;
  one = s.answer;
  at_first = s.at_place;
  both = inl (refl, s.does, (is, refl, refl));
  none_before = All-weaker (λ (a : Answer). ¬ Uses a answer.key answer.number) (λ (a : Answer). AreUnlike a answer)
      (use_unlike answer is) (take p fed) s.none_before;
}

acceptance_told : (fed : List Answer) (answer : Answer) (count : ℕ) (o : Option ℕ) → IsAcceptance answer
    → count ≡ length fed
    → MatchOption o (All (λ (a : Answer). ¬ Accepts a answer.key answer.number) fed)
    (StandsFirst Accepts fed answer.key answer.number)
    → TellsOf fed answer (repeat_at false answer.key answer.number count o)
acceptance_told fed answer count None is size none =
    All-weaker (λ (a : Answer). ¬ Accepts a answer.key answer.number) (λ (a : Answer). AreUnlike a answer)
    (acceptance_unlike answer is) fed none
acceptance_told fed answer count (Some p) is size s = record {
  second = size;
  one = s.answer;
  at_first = s.at_place;
  both = inr (refl, s.does, (is, refl, refl));
  none_before = All-weaker (λ (a : Answer). ¬ Accepts a answer.key answer.number) (λ (a : Answer). AreUnlike a answer)
      (acceptance_unlike answer is) (take p fed) s.none_before;
}

-- ---- how many

count_more : (p : Answer → Bool) (fed : List Answer) (answer : Answer) (b : Bool) → p answer ≡ b
    → count_by p (fed ++ answer ∷ []) ≡ count_by p fed + cond b 1 0
count_more p fed answer b is =
    sum_by_push (λ (x : Answer). cond (p x) 1 0) fed answer ∙ ap (λ (c : Bool). count_by p fed + cond c 1 0) is

pub one_more : (p : Answer → Bool) (fed : List Answer) (answer : Answer) (old new : ℕ) → p answer ≡ true
    → old ≡ count_by p fed → new ≡ old + 1
    → new ≡ count_by p (fed ++ answer ∷ [])
one_more p fed answer old new is counted more =
    more ∙ ap (λ (n : ℕ). n + 1) counted ∙ sym (count_more p fed answer true is)

pub no_more : (p : Answer → Bool) (fed : List Answer) (answer : Answer) (old new : ℕ) → p answer ≡ false
    → old ≡ count_by p fed → new ≡ old
    → new ≡ count_by p (fed ++ answer ∷ [])
no_more p fed answer old new is counted same =
    let more = count_more p fed answer false is in omega arith

zero_test : (n : ℕ) → n ≢ 0 → not (n == 0) ≡ true
zero_test n some = grind (arith, nat_tests)

use_passes : (answer : Answer) → IsUse answer → is_use answer ≡ true
use_passes answer (inl code) = ap (λ (n : ℕ). (n == 0) || ((n == 3) && not (answer.key == 0))) code
use_passes answer (inr (code, some)) =
    ap (λ (n : ℕ). (n == 0) || ((n == 3) && not (answer.key == 0))) code ∙ zero_test answer.key some

by_parts : (b c d : Bool) → (b ≡ true → ⊥) → (c ≡ true → d ≡ false → ⊥) → (b || (c && not d)) ≡ false
by_parts true c d one other = absurd (one refl)
by_parts false true true one other = refl
by_parts false true false one other = absurd (other refl refl)
by_parts false false d one other = refl

equal_by : (n m : ℕ) → (n == m) ≡ true → n ≡ m
equal_by n m is = grind (arith, nat_tests)

apart_by : (n m : ℕ) → (n == m) ≡ false → n ≢ m
apart_by n m is = grind (arith, nat_tests)

none_passes : (answer : Answer) → ¬ IsUse answer → is_use answer ≡ false
none_passes answer none =
    by_parts (answer.code == 0) (answer.code == 3) (answer.key == 0)
    (λ code. none (inl (equal_by answer.code 0 code)))
    (λ code key. none (inr (equal_by answer.code 3 code, apart_by answer.key 0 key)))

acceptance_passes : (answer : Answer) → IsAcceptance answer → is_acceptance answer ≡ true
acceptance_passes answer code = ap (λ (n : ℕ). n == 1) code

no_acceptance_passes : (answer : Answer) → ¬ IsAcceptance answer → is_acceptance answer ≡ false
no_acceptance_passes answer none = grind (arith, nat_tests)

use_is_no_acceptance : (answer : Answer) → IsUse answer → ¬ IsAcceptance answer
use_is_no_acceptance answer (inl code) is = omega arith
use_is_no_acceptance answer (inr (code, some)) is = omega arith

-- ---- one more answer

more_fed : (fed : List Answer) (answer : Answer) (old new : ℕ) → old ≡ length fed → new ≡ old + 1
    → new ≡ length (fed ++ answer ∷ [])
more_fed fed answer old new counted more = let size = length-append fed (answer ∷ []) in omega arith

uses_one : (answer : Answer) (k n : ℕ) → Uses answer k n → (answer.key ≡ k) × (answer.number ≡ n)
uses_one answer k n uses = (uses.1, uses.2)

accepts_one : (answer : Answer) (k n : ℕ) → Accepts answer k n → (answer.key ≡ k) × (answer.number ≡ n)
accepts_one answer k n accepts = (accepts.1, accepts.2)

pub knows_use : (fed : List Answer) (answer : Answer) (old new : Audit) (told : Option Repeat) → IsUse answer
    → KnowsAudit fed old
    → FeedsUse old new answer.key answer.number told → KnowsAudit (fed ++ answer ∷ []) new
knows_use fed answer old new told is knows feeds = record {
  uses = knows_entered Uses fed answer answer.key answer.number (is, refl, refl) (uses_one answer) old.uses new.uses
      knows.uses
      (subst (EntersPlace old.uses new.uses answer.key answer.number) knows.count feeds.entered);
  acceptances = subst (KnowsFirst Accepts (fed ++ answer ∷ [])) (sym feeds.acceptances)
      (knows_kept Accepts fed answer old.acceptances (use_apart answer answer is) knows.acceptances);
  use_count = one_more is_use fed answer old.use_count new.use_count (use_passes answer is) knows.use_count
      feeds.use_count;
  acceptance_count = no_more is_acceptance fed answer old.acceptance_count new.acceptance_count
      (no_acceptance_passes answer (use_is_no_acceptance answer is)) knows.acceptance_count feeds.acceptance_count;
  count = more_fed fed answer old.fed new.fed knows.count feeds.count;
}

pub tells_use : (fed : List Answer) (answer : Answer) (old new : Audit) (told : Option Repeat) → IsUse answer
    → KnowsAudit fed old
    → FeedsUse old new answer.key answer.number told → TellsOf fed answer told
tells_use fed answer old new told is knows feeds =
    subst (TellsOf fed answer) (sym feeds.told_is)
    (use_told fed answer old.fed (place_in old.uses answer.key answer.number) is knows.count
    (knows.uses answer.key answer.number))

pub knows_acceptance : (fed : List Answer) (answer : Answer) (old new : Audit) (told : Option Repeat)
    → IsAcceptance answer → KnowsAudit fed old
    → FeedsAcceptance old new answer.key answer.number told → KnowsAudit (fed ++ answer ∷ []) new
knows_acceptance fed answer old new told is knows feeds = record {
  uses = subst (KnowsFirst Uses (fed ++ answer ∷ [])) (sym feeds.uses)
      (knows_kept Uses fed answer old.uses (acceptance_apart answer is) knows.uses);
  acceptances = knows_entered Accepts fed answer answer.key answer.number (is, refl, refl)
      (accepts_one answer) old.acceptances new.acceptances knows.acceptances
      (subst (EntersPlace old.acceptances new.acceptances answer.key answer.number) knows.count feeds.entered);
  use_count = no_more is_use fed answer old.use_count new.use_count
      (none_passes answer (λ other. use_is_no_acceptance answer other is)) knows.use_count feeds.use_count;
  acceptance_count = one_more is_acceptance fed answer old.acceptance_count new.acceptance_count
      (acceptance_passes answer is) knows.acceptance_count feeds.acceptance_count;
  count = more_fed fed answer old.fed new.fed knows.count feeds.count;
}

pub tells_acceptance : (fed : List Answer) (answer : Answer) (old new : Audit) (told : Option Repeat)
    → IsAcceptance answer → KnowsAudit fed old
    → FeedsAcceptance old new answer.key answer.number told → TellsOf fed answer told
tells_acceptance fed answer old new told is knows feeds =
    subst (TellsOf fed answer) (sym feeds.told_is)
    (acceptance_told fed answer old.fed (place_in old.acceptances answer.key answer.number) is knows.count
    (knows.acceptances answer.key answer.number))

-- an answer that neither uses nor accepts a number
pub knows_neither : (fed : List Answer) (answer : Answer) (old new : Audit) → ¬ IsUse answer → ¬ IsAcceptance answer
    → KnowsAudit fed old
    → new.uses ≡ old.uses → new.acceptances ≡ old.acceptances → new.use_count ≡ old.use_count
    → new.acceptance_count ≡ old.acceptance_count
    → new.fed ≡ old.fed + 1 → KnowsAudit (fed ++ answer ∷ []) new
knows_neither fed answer old new no_use no_acceptance knows uses acceptances use_count acceptance_count more = record {
  uses = subst (KnowsFirst Uses (fed ++ answer ∷ [])) (sym uses)
      (knows_kept Uses fed answer old.uses (λ k n is. no_use is.0) knows.uses);
  acceptances = subst (KnowsFirst Accepts (fed ++ answer ∷ [])) (sym acceptances)
      (knows_kept Accepts fed answer old.acceptances (λ k n accepts. no_acceptance accepts.0) knows.acceptances);
  use_count = no_more is_use fed answer old.use_count new.use_count (none_passes answer no_use) knows.use_count
      use_count;
  acceptance_count = no_more is_acceptance fed answer old.acceptance_count new.acceptance_count
      (no_acceptance_passes answer no_acceptance)
      knows.acceptance_count acceptance_count;
  count = more_fed fed answer old.fed new.fed knows.count more;
}

pub tells_neither : (fed : List Answer) (answer : Answer) → ¬ IsUse answer → ¬ IsAcceptance answer
    → TellsOf fed answer None
tells_neither fed answer no_use no_acceptance =
    λ k d low. neither_unlike answer no_use no_acceptance (slice_index_or fed k d)

-- ---- an answer that says so

use_as : (code key number : ℕ) (answer : Answer) → HasHead code key number answer → SaysUse code key → IsUse answer
use_as code key number answer says is =
    subst (λ (c : ℕ). SaysUse c answer.key) (sym says.code_is) (subst (SaysUse code) (sym says.key_is) is)

feeds_use_as : (old new : Audit) (code key number : ℕ) (answer : Answer) (told : Option Repeat)
    → HasHead code key number answer
    → FeedsUse old new key number told → FeedsUse old new answer.key answer.number told
feeds_use_as old new code key number answer told says feeds =
    subst (λ (k : ℕ). FeedsUse old new k answer.number told) (sym says.key_is)
    (subst (λ (n : ℕ). FeedsUse old new key n told) (sym says.number_is) feeds)

feeds_acceptance_as : (old new : Audit) (code key number : ℕ) (answer : Answer) (told : Option Repeat)
    → HasHead code key number answer
    → FeedsAcceptance old new key number told → FeedsAcceptance old new answer.key answer.number told
feeds_acceptance_as old new code key number answer told says feeds =
    subst (λ (k : ℕ). FeedsAcceptance old new k answer.number told) (sym says.key_is)
    (subst (λ (n : ℕ). FeedsAcceptance old new key n told) (sym says.number_is) feeds)

pub knows_use_as : (fed : List Answer) (answer : Answer) (code key number : ℕ) (old new : Audit) (told : Option Repeat)
    → HasHead code key number answer
    → SaysUse code key → KnowsAudit fed old → FeedsUse old new key number told → KnowsAudit (fed ++ answer ∷ []) new
knows_use_as fed answer code key number old new told says is knows feeds =
    knows_use fed answer old new told (use_as code key number answer says is) knows
    (feeds_use_as old new code key number answer told says feeds)

pub tells_use_as : (fed : List Answer) (answer : Answer) (code key number : ℕ) (old new : Audit) (told : Option Repeat)
    → HasHead code key number answer
    → SaysUse code key → KnowsAudit fed old → FeedsUse old new key number told → TellsOf fed answer told
tells_use_as fed answer code key number old new told says is knows feeds =
    tells_use fed answer old new told (use_as code key number answer says is) knows
    (feeds_use_as old new code key number answer told says feeds)

pub knows_acceptance_as : (fed : List Answer) (answer : Answer) (code key number : ℕ) (old new : Audit)
    (told : Option Repeat)
    → HasHead code key number answer → SaysAcceptance code → KnowsAudit fed old
    → FeedsAcceptance old new key number told
    → KnowsAudit (fed ++ answer ∷ []) new
knows_acceptance_as fed answer code key number old new told says is knows feeds =
    knows_acceptance fed answer old new told (says.code_is ∙ is) knows
    (feeds_acceptance_as old new code key number answer told says feeds)

pub tells_acceptance_as : (fed : List Answer) (answer : Answer) (code key number : ℕ) (old new : Audit)
    (told : Option Repeat)
    → HasHead code key number answer → SaysAcceptance code → KnowsAudit fed old
    → FeedsAcceptance old new key number told
    → TellsOf fed answer told
tells_acceptance_as fed answer code key number old new told says is knows feeds =
    tells_acceptance fed answer old new told (says.code_is ∙ is) knows
    (feeds_acceptance_as old new code key number answer told says feeds)

neither_use : (code key number : ℕ) (answer : Answer) → HasHead code key number answer → ¬ SaysUse code key
    → ¬ IsUse answer
neither_use code key number answer says none is =
    none (subst (SaysUse code) says.key_is (subst (λ (c : ℕ). SaysUse c answer.key) says.code_is is))

pub knows_neither_as : (fed : List Answer) (answer : Answer) (code key number : ℕ) (audit : Audit)
    → HasHead code key number answer → ¬ SaysUse code key
    → ¬ SaysAcceptance code → KnowsAudit fed audit
    → KnowsAudit (fed ++ answer ∷ []) (record audit { fed = audit.fed + 1 })
knows_neither_as fed answer code key number audit says no_use no_acceptance knows =
    knows_neither fed answer audit (record audit { fed = audit.fed + 1 })
    (neither_use code key number answer says no_use)
    (λ is. no_acceptance (sym says.code_is ∙ is)) knows refl refl refl refl refl

pub tells_neither_as : (fed : List Answer) (answer : Answer) (code key number : ℕ) → HasHead code key number answer
    → ¬ SaysUse code key
    → ¬ SaysAcceptance code → TellsOf fed answer None
tells_neither_as fed answer code key number says no_use no_acceptance =
    tells_neither fed answer (neither_use code key number answer says no_use)
    (λ is. no_acceptance (sym says.code_is ∙ is))

-- the counts leave room for one more
pub use_room : (fed : List Answer) (audit : Audit) → KnowsAudit fed audit → audit.use_count ≤ audit.fed
use_room fed audit knows = let few = count_by-le-length is_use fed in let count = knows.use_count in let all =
    knows.count in omega arith

pub acceptance_room : (fed : List Answer) (audit : Audit) → KnowsAudit fed audit → audit.acceptance_count ≤ audit.fed
acceptance_room fed audit knows =
    let few = count_by-le-length is_acceptance fed in let count = knows.acceptance_count in let all =
    knows.count in omega arith

-- ---- a number entered

pub entered_from : (old new : BTreeMap (ℕ × ℕ) ℕ) (key number place : ℕ) (before : Option ℕ)
    → before ≡ place_in old key number
    → ((k n : ℕ) → place_in new k n
    ≡ (if (k == key) && (n == number) then Some (unwrap_or before place) else place_in old k n))
    → EntersPlace old new key number place
entered_from old new key number place before found entered =
    subst (λ (o : Option ℕ). (k n : ℕ)
    → place_in new k n ≡ (if (k == key) && (n == number) then Some (unwrap_or o place) else place_in old k n)) found
    entered

pub told_from : (pair : Bool) (old : BTreeMap (ℕ × ℕ) ℕ) (key number second : ℕ) (before : Option ℕ)
    (told : Option Repeat) → before ≡ place_in old key number
    → told ≡ repeat_at pair key number second before → told ≡ repeat_at pair key number second (place_in old key number)
told_from pair old key number second before told found is =
    is ∙ ap (λ (o : Option ℕ). repeat_at pair key number second o) found
