-- An audit says one thing of a recording, for `audit_says_one`.
use Rattle.std.proofs.Common.{◌≡◌, ◌⊎◌, ℕ, ◌+◌, ◌-◌, ◌<◌, ◌≤◌, Bool, List, [], ◌∷◌, ◌++◌, length, take, drop, Some, inl}
use Rattle.std.proofs.Common.{inr, ⊎_elim, refl, sym, ap, ◌∙◌, subst, arith, append_assoc, length-append}
use Rattle.std.specs.Prelude.{slice_get}
use Rattle.std.specs.List.{All, slice_index_or}
use Rattle.std.proofs.lemmas.Bool.{cases_lt}
use Rattle.std.proofs.lemmas.List.{length-take-le, take-append-drop}
use Rattle.std.proofs.lemmas.List.Elements.{All-head, All-tail}
use Rattle.std.proofs.lemmas.Option.{get_or_from_slice_get, same_Some, slice_get_within}
use Rattle.record_io.specs.declared.answers.Answer.{Answer}
use Rattle.record_io.specs.Answers.{Header, header_octets, header_of, answer_octets, answers_octets, HasWidths}
use Rattle.record_io.specs.Answers.{IsAnswer}
use Rattle.run_promise.specs.Answers.{Uses, Accepts}
use Rattle.pair_audit.specs.declared.audit.Repeat.{Repeat}
use Rattle.pair_audit.specs.declared.walk.AuditEnd.{AuditEnd}
use Rattle.pair_audit.specs.declared.walk.AuditEnd.TheVariants.{Clean, Repeated, BreaksAt}
use Rattle.pair_audit.specs.Audit.{BothTell, acceptances_in, uses_in}
use Rattle.record_io.specs.AnswerReading.{IsAnswerCode}
use Rattle.pair_audit.specs.Recording.{AuditSays, HasUnknown, IsMalformedAt, IsTheRepeat, LacksRun, RunCounts}
use Rattle.pair_audit.specs.Recording.{RunsCount, run_octets, runs_octets}
use Rattle.pair_audit.specs.Repeats.{AreUnlike, IsFirstRepeat, Repeats, RepeatNothing}
use Rattle.pair_audit.proofs.Fronts.{ShownOnce}
use Rattle.pair_audit.proofs.OneRecording.{not_malformed, one_answer, one_header, one_run, reads_once}
use Rattle.pair_audit.proofs.OneRecording.{run_lacks_unknown, split}
use Rattle.pair_audit.proofs.Seen.{get_left}

-- ---- the first repeat

get_take : {X : Type 0} (n : ℕ) (xs : List X) (i : ℕ) (x : X) → i < n → n ≤ length xs → slice_get xs i ≡ Some x
    → slice_get (take n xs) i ≡ Some x
get_take {X} n xs i x low within is =
    let whole : take n xs ++ drop n xs ≡ xs = take-append-drop n xs in
    sym (get_left (take n xs) (drop n xs) i (let size = length-take-le n xs within in omega arith))
    ∙ ap (λ (l : List X). slice_get l i) whole ∙ is

pub pair_unlike : (answers : List Answer) (i j : ℕ) (a b : Answer) → RepeatNothing answers → i < j
    → slice_get answers i ≡ Some a → slice_get answers j ≡ Some b
    → AreUnlike a b
pair_unlike answers i j a b nothing low at_i at_j =
    let within : j < length answers = slice_get_within answers j b at_j in
    let first : slice_index_or answers i a ≡ a = get_or_from_slice_get answers i a a at_i in
    let second : slice_index_or answers j a ≡ b = get_or_from_slice_get answers j b a at_j in
    subst (λ (x : Answer). AreUnlike x b) first
    (subst (λ (x : Answer). AreUnlike (slice_index_or answers i a) x) second (nothing i j a low within))

pub no_repeat : (answers : List Answer) (first second : ℕ) → RepeatNothing answers
    → ¬ IsFirstRepeat answers first second
no_repeat answers first second nothing is =
    pair_unlike answers first second is.one is.other nothing is.order is.at_first is.at_second is.repeats

not_before : (answers : List Answer) (first second first_2 second_2 : ℕ) → IsFirstRepeat answers first second
    → IsFirstRepeat answers first_2 second_2 → second < second_2 → ⊥
not_before answers first second first_2 second_2 x y low =
    let within : second_2 < length answers = slice_get_within answers second_2 y.other y.at_second in
    let order = x.order in
    pair_unlike (take second_2 answers) first second x.one x.other y.least_second x.order
    (get_take second_2 answers first x.one (omega arith) (omega arith) x.at_first)
    (get_take second_2 answers second x.other low (omega arith) x.at_second) x.repeats

same_second : (answers : List Answer) (first second first_2 second_2 : ℕ) → IsFirstRepeat answers first second
    → IsFirstRepeat answers first_2 second_2 → second ≡ second_2
same_second answers first second first_2 second_2 x y =
    ⊎_elim (λ (low : second < second_2). absurd (not_before answers first second first_2 second_2 x y low))
    (λ (high : second_2 ≤ second). ⊎_elim
    (λ (low : second_2 < second). absurd (not_before answers first_2 second_2 first second y x low))
    (λ (other : second ≤ second_2). let e : second ≡ second_2 = omega arith in e) (cases_lt second_2 second))
    (cases_lt second second_2)

not_earlier : (answers : List Answer) (first second first_2 : ℕ) → IsFirstRepeat answers first second
    → IsFirstRepeat answers first_2 second → first < first_2 → ⊥
not_earlier answers first second first_2 x y low =
    let within : second < length answers = slice_get_within answers second y.other y.at_second in
    let order = y.order in
    let at_first = get_take first_2 answers first x.one low (omega arith) x.at_first in
    let inside : first < length (take first_2 answers) = slice_get_within (take first_2 answers) first x.one at_first in
    let earlier : slice_index_or (take first_2 answers) first x.one ≡ x.one =
    get_or_from_slice_get (take first_2 answers) first x.one x.one at_first in
    let same : x.other ≡ y.other = same_Some x.other y.other (sym x.at_second ∙ y.at_second) in
    let unlike : AreUnlike x.one y.other =
    subst (λ (a : Answer). AreUnlike a y.other) earlier (y.least_first first x.one inside) in
    unlike (subst (Repeats x.one) same x.repeats)

same_first : (answers : List Answer) (first second first_2 : ℕ) → IsFirstRepeat answers first second
    → IsFirstRepeat answers first_2 second → first ≡ first_2
same_first answers first second first_2 x y =
    ⊎_elim (λ (low : first < first_2). absurd (not_earlier answers first second first_2 x y low))
    (λ (high : first_2 ≤ first). ⊎_elim
    (λ (low : first_2 < first). absurd (not_earlier answers first_2 second first y x low))
    (λ (other : first ≤ first_2). let e : first ≡ first_2 = omega arith in e) (cases_lt first_2 first))
    (cases_lt first first_2)

-- what both tell is what the later one says
uses_no_acceptance : (a : Answer) (k n m l : ℕ) → Uses a k n → ¬ Accepts a m l
uses_no_acceptance a k n m l (inl code, key, number) accepts = let c = accepts.0 in omega arith
uses_no_acceptance a k n m l (inr (code, some), key, number) accepts = let c = accepts.0 in omega arith

pub record SameTold (x y : Repeat) : Type 0 where
  pub pair : x.pair ≡ y.pair
  pub key : x.key ≡ y.key
  pub number : x.number ≡ y.number

same_told : (x y : Repeat) (a b c : Answer) → BothTell x a c → BothTell y b c → SameTold x y
same_told x y a b c (inl (p, one, other)) (inl (q, one_2, other_2)) =
    record { pair = p ∙ sym q; key = sym other.1 ∙ other_2.1; number = sym other.2 ∙ other_2.2 }
same_told x y a b c (inl (p, one, other)) (inr (q, one_2, other_2)) =
    absurd (uses_no_acceptance c x.key x.number y.key y.number other other_2)
same_told x y a b c (inr (p, one, other)) (inl (q, one_2, other_2)) =
    absurd (uses_no_acceptance c y.key y.number x.key x.number other_2 other)
same_told x y a b c (inr (p, one, other)) (inr (q, one_2, other_2)) =
    record { pair = p ∙ sym q; key = sym other.1 ∙ other_2.1; number = sym other.2 ∙ other_2.2 }

same_repeat : (x y : Repeat) → SameTold x y → x.first ≡ y.first → x.second ≡ y.second → x ≡ y
same_repeat x y told f s =
    ap (λ (b : Bool). record { pair = b; key = x.key; number = x.number; first = x.first; second = x.second }) told.pair
    ∙ ap (λ (n : ℕ). record { pair = y.pair; key = n; number = x.number; first = x.first; second = x.second }) told.key
    ∙ ap (λ (n : ℕ). record { pair = y.pair; key = y.key; number = n; first = x.first; second = x.second }) told.number
    ∙ ap (λ (n : ℕ). record { pair = y.pair; key = y.key; number = y.number; first = n; second = x.second }) f
    ∙ ap (λ (n : ℕ). record { pair = y.pair; key = y.key; number = y.number; first = y.first; second = n }) s

one_repeat : (answers : List Answer) (x y : Repeat) → IsTheRepeat answers x → IsTheRepeat answers y → x ≡ y
one_repeat answers x y is_x is_y =
    let second = same_second answers x.first x.second y.first y.second is_x.is_first is_y.is_first in
    let y_first : IsFirstRepeat answers y.first x.second =
    subst (IsFirstRepeat answers y.first) (sym second) is_y.is_first in
    let first = same_first answers x.first x.second y.first is_x.is_first y_first in
    let other : is_x.is_first.other ≡ is_y.is_first.other =
    same_Some is_x.is_first.other is_y.is_first.other
    (sym is_x.is_first.at_second ∙ ap (slice_get answers) second ∙ is_y.is_first.at_second) in
    same_repeat x y
    (same_told x y is_x.is_first.one is_y.is_first.one is_y.is_first.other
    (subst (BothTell x is_x.is_first.one) other is_x.both) is_y.both) first second

-- ---- where it is malformed

-- a run that is in order stands whole in front
pub record WholeRun (rest : List ℕ) : Type 0 where
  pub sunk : List ℕ
  pub own : List Answer
  pub behind : List ℕ
  pub counts : RunCounts sunk own
  pub spelled : rest ≡ run_octets sunk ++ behind

compared : (xs ys : List (List ℕ)) (one other : List Answer) (x y : List ℕ) → RunsCount xs one → RunsCount ys other
    → runs_octets xs ++ x ≡ runs_octets ys ++ y → WholeRun y ⊎ (WholeRun x ⊎ (x ≡ y))
compared [] [] one other x y is_x is_y e = inr (inr e)
compared (z ∷ xs) [] one other x y (own, later, counts, runs, told) is_y e =
    inl (record {
      sunk = z;
      own = own;
      behind = runs_octets xs ++ x;
      counts = counts;
      spelled =
          sym e ∙ append_assoc (run_octets z) (runs_octets xs) x;
    })
compared [] (z ∷ ys) one other x y is_x (own, later, counts, runs, told) e =
    inr (inl (record {
      sunk = z;
      own = own;
      behind = runs_octets ys ++ y;
      counts = counts;
      spelled =
          e ∙ append_assoc (run_octets z) (runs_octets ys) y;
    }))
compared (v ∷ xs) (w ∷ ys) one other x y (own, later, counts, runs, told) (own_2, later_2, counts_2, runs_2, told_2) e =
    let first = one_run v w (runs_octets xs ++ x) (runs_octets ys ++ y) counts.short counts_2.short
    (sym (append_assoc (run_octets v) (runs_octets xs) x) ∙ e ∙ append_assoc (run_octets w) (runs_octets ys) y) in
    compared xs ys later later_2 x y runs runs_2 first.1

abbrev Faulty : ℕ → List ℕ → ℕ → Type 0
Faulty size rest offset = (LacksRun rest × (offset ≡ size - length rest))
    ⊎ ((at_octet : ℕ) × HasUnknown rest at_octet × (offset ≡ size - length rest + at_octet))

whole_is_no_fault : (size : ℕ) (rest : List ℕ) (offset : ℕ) → WholeRun rest → ¬ Faulty size rest offset
whole_is_no_fault size rest offset whole (inl (lacks, is)) =
    lacks whole.sunk whole.behind whole.counts.short whole.spelled
whole_is_no_fault size rest offset whole (inr (at_octet, has, is)) =
    run_lacks_unknown whole.sunk whole.own whole.behind rest at_octet whole.counts whole.spelled has

abbrev HasCode : Answer → Type 0
HasCode answer = IsAnswerCode answer.code

unknown_place : (xs ys : List Answer) (h k : Header) (more other : List ℕ) → All IsAnswer xs → All IsAnswer ys
    → All HasCode xs → All HasCode ys
    → HasWidths h → HasWidths k → ¬ IsAnswerCode h.code → ¬ IsAnswerCode k.code
    → answers_octets xs ++ (header_octets h ++ more) ≡ answers_octets ys ++ (header_octets k ++ other)
    → length (answers_octets xs) ≡ length (answers_octets ys)
unknown_place [] [] h k more other are_x are_y known_x known_y fits_h fits_k none_h none_k e = refl
unknown_place [] (y ∷ ys) h k more other are_x are_y known_x known_y fits_h fits_k none_h none_k e =
    let first = one_header h (header_of y) more (y.body ++ (answers_octets ys ++ (header_octets k ++ other))) fits_h
    (All-head IsAnswer y ys are_y)
    (e ∙ append_assoc (answer_octets y) (answers_octets ys) (header_octets k ++ other)
    ∙ split y (answers_octets ys ++ (header_octets k ++ other))) in
    absurd (none_h (subst (λ (l : Header). IsAnswerCode l.code) (sym first.0) (All-head HasCode y ys known_y)))
unknown_place (x ∷ xs) [] h k more other are_x are_y known_x known_y fits_h fits_k none_h none_k e =
    let first = one_header k (header_of x) other (x.body ++ (answers_octets xs ++ (header_octets h ++ more))) fits_k
    (All-head IsAnswer x xs are_x)
    (sym e ∙ append_assoc (answer_octets x) (answers_octets xs) (header_octets h ++ more)
    ∙ split x (answers_octets xs ++ (header_octets h ++ more))) in
    absurd (none_k (subst (λ (l : Header). IsAnswerCode l.code) (sym first.0) (All-head HasCode x xs known_x)))
unknown_place (x ∷ xs) (y ∷ ys) h k more other are_x are_y known_x known_y fits_h fits_k none_h none_k e =
    let first = one_answer x y (answers_octets xs ++ (header_octets h ++ more))
    (answers_octets ys ++ (header_octets k ++ other))
    (All-head IsAnswer x xs are_x) (All-head IsAnswer y ys are_y)
    (sym (append_assoc (answer_octets x) (answers_octets xs) (header_octets h ++ more)) ∙ e
    ∙ append_assoc (answer_octets y) (answers_octets ys) (header_octets k ++ other)) in
    let later = unknown_place xs ys h k more other (All-tail IsAnswer x xs are_x) (All-tail IsAnswer y ys are_y)
    (All-tail HasCode x xs known_x) (All-tail HasCode y ys known_y)
    fits_h fits_k none_h none_k first.1 in
    let here : length (answer_octets x) ≡ length (answer_octets y) =
    ap (λ (a : Answer). length (answer_octets a)) first.0 in
    let size_x = length-append (answer_octets x) (answers_octets xs) in
    let size_y = length-append (answer_octets y) (answers_octets ys) in
    size_x ∙ ap (λ (n : ℕ). n + length (answers_octets xs)) here ∙ ap (λ (n : ℕ). length (answer_octets y) + n) later
    ∙ sym size_y

one_unknown : (rest : List ℕ) (i j : ℕ) → HasUnknown rest i → HasUnknown rest j → i ≡ j
one_unknown rest i j x y =
    let same = one_run x.sunk y.sunk x.behind y.behind x.short y.short (sym x.spelled ∙ y.spelled) in
    let place = unknown_place x.answers y.answers x.header y.header x.more y.more x.are y.are x.known y.known x.widths
    y.widths x.unknown y.unknown
    (sym x.front ∙ same.0 ∙ y.front) in
    x.at_is ∙ ap (λ (n : ℕ). 4 + n) place ∙ sym y.at_is

one_fault : (size : ℕ) (rest : List ℕ) (i j : ℕ) → Faulty size rest i → Faulty size rest j → i ≡ j
one_fault size rest i j (inl (lacks, is)) (inl (other, is_2)) = is ∙ sym is_2
one_fault size rest i j (inl (lacks, is)) (inr (place, has, is_2)) =
    absurd (lacks has.sunk has.behind has.short has.spelled)
one_fault size rest i j (inr (place, has, is)) (inl (lacks, is_2)) =
    absurd (lacks has.sunk has.behind has.short has.spelled)
one_fault size rest i j (inr (place, has, is)) (inr (place_2, has_2, is_2)) =
    is ∙ ap (λ (n : ℕ). size - length rest + n) (one_unknown rest place place_2 has has_2) ∙ sym is_2

one_offset : (input : List ℕ) (i j : ℕ) → IsMalformedAt input i → IsMalformedAt input j → i ≡ j
one_offset input i j (inl (lacks, is)) (inl (other, is_2)) = is ∙ sym is_2
one_offset input i j (inl (lacks, is)) (inr (runs, answers, rest, reads, some, fault)) =
    absurd (lacks (runs_octets runs ++ rest, reads.spelled))
one_offset input i j (inr (runs, answers, rest, reads, some, fault)) (inl (lacks, is)) =
    absurd (lacks (runs_octets runs ++ rest, reads.spelled))
one_offset input i j (inr (xs, one, x, reads, some, fault)) (inr (ys, other, y, reads_2, some_2, fault_2)) =
    by_compared (compared xs ys one other x y reads.runs_are reads_2.runs_are
    (ap (λ (l : List ℕ). drop 8 l) (sym reads.spelled ∙ reads_2.spelled)))
  where
    by_compared : (WholeRun y ⊎ (WholeRun x ⊎ (x ≡ y))) → i ≡ j
    by_compared (inl whole) = absurd (whole_is_no_fault (length input) y j whole fault_2)
    by_compared (inr (inl whole)) = absurd (whole_is_no_fault (length input) x i whole fault)
    by_compared (inr (inr same)) = one_fault (length input) y i j
        (subst (λ (l : List ℕ). Faulty (length input) l i) same fault) fault_2

-- ---- what an audit says

same_clean : (count count_2 uses uses_2 acceptances acceptances_2 : ℕ) → count ≡ count_2 → uses ≡ uses_2
    → acceptances ≡ acceptances_2
    → Clean count uses acceptances ≡ Clean count_2 uses_2 acceptances_2
same_clean count count_2 uses uses_2 acceptances acceptances_2 e f g =
    ap (λ (n : ℕ). Clean n uses acceptances) e ∙ ap (λ (n : ℕ). Clean count_2 n acceptances) f
    ∙ ap (λ (n : ℕ). Clean count_2 uses_2 n) g

pub one_end : ShownOnce → (input : List ℕ) (x y : AuditEnd) → AuditSays input x → AuditSays input y → x ≡ y
one_end once input (Clean count uses acceptances) (Clean count_2 uses_2 acceptances_2)
    (runs, one, reads, nothing, e, f, g) (runs_2, other, reads_2, nothing_2, e_2, f_2, g_2) =
    let same = reads_once once input runs runs_2 one other reads reads_2 in
    same_clean count count_2 uses uses_2 acceptances acceptances_2
    (e ∙ ap (λ (l : List (List ℕ)). length l) same.0 ∙ sym e_2)
    (f ∙ ap (λ (l : List Answer). uses_in l) same.1 ∙ sym f_2)
    (g ∙ ap (λ (l : List Answer). acceptances_in l) same.1 ∙ sym g_2)
one_end once input (Clean count uses acceptances) (Repeated repeat) (runs, one, reads, nothing, e, f, g)
    (runs_2, other, reads_2, is) =
    let same = reads_once once input runs runs_2 one other reads reads_2 in
    absurd (no_repeat other repeat.first repeat.second (subst RepeatNothing same.1 nothing) is.is_first)
one_end once input (Clean count uses acceptances) (BreaksAt offset) (runs, one, reads, nothing, e, f, g) fault =
    absurd (not_malformed once input runs one offset reads fault)
one_end once input (Repeated repeat) (Clean count uses acceptances) (runs_2, other, reads_2, is)
    (runs, one, reads, nothing, e, f, g) =
    let same = reads_once once input runs runs_2 one other reads reads_2 in
    absurd (no_repeat other repeat.first repeat.second (subst RepeatNothing same.1 nothing) is.is_first)
one_end once input (Repeated repeat) (Repeated repeat_2) (runs, one, reads, is) (runs_2, other, reads_2, is_2) =
    let same = reads_once once input runs runs_2 one other reads reads_2 in
    ap (λ (r : Repeat). Repeated r)
    (one_repeat other repeat repeat_2 (subst (λ (l : List Answer). IsTheRepeat l repeat) same.1 is) is_2)
one_end once input (Repeated repeat) (BreaksAt offset) (runs, one, reads, is) fault =
    absurd (not_malformed once input runs one offset reads fault)
one_end once input (BreaksAt offset) (Clean count uses acceptances) fault (runs, one, reads, nothing, e, f, g) =
    absurd (not_malformed once input runs one offset reads fault)
one_end once input (BreaksAt offset) (Repeated repeat) fault (runs, one, reads, is) =
    absurd (not_malformed once input runs one offset reads fault)
one_end once input (BreaksAt offset) (BreaksAt offset_2) fault fault_2 =
    ap (λ (n : ℕ). BreaksAt n) (one_offset input offset offset_2 fault fault_2)
