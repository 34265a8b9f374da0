-- Records and their answers, one list behind another.
use Rattle.std.proofs.Common.{◌≡◌, ℕ, zero, suc, ◌+◌, ◌<◌, ◌≤◌, nat_eq, cond, Bool, true, false, List, [], ◌∷◌, ◌++◌}
use Rattle.std.proofs.Common.{length, get_or, refl, ◌∙◌, ap, arith}
use Rattle.std.specs.List.{All, count_by, list_any, zip}
use Rattle.std.proofs.lemmas.Bool.{eqb-true, or_parts}
use Rattle.std.proofs.lemmas.List.Elements.{All-append, All-cons, All-contains, All-head, All-nil, All-tail, All-weaker}
use Rattle.std.proofs.lemmas.List.Sums.{sum_by-cons}
use Rattle.unit_drill.proofs.Tasks.{ascend_cons}
use Rattle.record_io.specs.declared.answers.Answer.{Answer}
use Rattle.record_io.specs.declared.item_cursor.Record.{Record}
use Rattle.law_workers.specs.Deeds.{AllBoth, Ascend, deeds_of}
use Rattle.run_promise.specs.Deed.{Deed, deed_of}
use Rattle.law_workers.specs.Order.{ComeBefore}
use Rattle.law_workers.specs.Work.{indexed}
use Rattle.law_workers.proofs.Handling.{record_indexed}

abbrev pub Below : ℕ → Record → Type 0
Below bound task = task.index < bound

abbrev pub From : ℕ → Record → Type 0
From bound task = bound ≤ task.index

ascend_head : (task : Record) (tasks : List Record) → Ascend (task ∷ tasks)
    → All (λ (other : Record). task.index < other.index) tasks
ascend_head task tasks up k d low = up zero (suc k) d (omega arith) (omega arith)

ascend_tail : (task : Record) (tasks : List Record) → Ascend (task ∷ tasks) → Ascend tasks
ascend_tail task tasks up i j d before low = up (suc i) (suc j) d (omega arith) (omega arith)

pub ascend_then : (bound : ℕ) (ts us : List Record) → All (Below bound) ts → All (From bound) us → Ascend ts → Ascend us
    → Ascend (ts ++ us)
ascend_then bound [] us below from up more = more
ascend_then bound (t ∷ ts) us below from up more =
    ascend_cons t (ts ++ us) (above t ts us (All-head (Below bound) t ts below) (ascend_head t ts up) from)
    (ascend_then bound ts us (All-tail (Below bound) t ts below) from (ascend_tail t ts up) more)
  where
    above : (t : Record) (ts us : List Record) → t.index < bound → All (λ (other : Record). t.index < other.index) ts
        → All (From bound) us
        → All (λ (other : Record). t.index < other.index) (ts ++ us)
    above t ts us low front back =
        All-append (λ (other : Record). t.index < other.index) ts us front
        (All-weaker (From bound) (λ (other : Record). t.index < other.index) (λ other high. omega arith) us back)

none_indexed : (i : ℕ) (tasks : List Record) → All (λ (task : Record). i < task.index) tasks → indexed i tasks ≡ 0
none_indexed i [] above = refl
none_indexed i (task ∷ tasks) above =
    let high = All-head (λ (other : Record). i < other.index) task tasks above in
    go (nat_eq task.index i) refl high
    (none_indexed i tasks (All-tail (λ (other : Record). i < other.index) task tasks above))
  where
    go : (b : Bool) → nat_eq task.index i ≡ b → i < task.index → indexed i tasks ≡ 0
        → cond {A = ℕ} b 1 0 + indexed i tasks ≡ 0
    go false is high h = omega arith
    go true is high h = let same = eqb-true task.index i is in absurd (omega arith)

pub ascend_once : (i : ℕ) (tasks : List Record) → Ascend tasks → indexed i tasks ≤ 1
ascend_once i [] up = omega arith
ascend_once i (task ∷ tasks) up = go (nat_eq task.index i) refl (ascend_once i tasks (ascend_tail task tasks up))
  where
    go : (b : Bool) → nat_eq task.index i ≡ b → indexed i tasks ≤ 1 → cond {A = ℕ} b 1 0 + indexed i tasks ≤ 1
    go false is h = omega arith
    go true is h =
        let same = eqb-true task.index i is in
        let none = none_indexed i tasks
        (All-weaker (λ (other : Record). task.index < other.index) (λ (other : Record). i < other.index)
        (λ other high. omega arith) tasks (ascend_head task tasks up)) in
        omega arith

pub come_before : (bound : ℕ) (ts us : List Record) → All (Below bound) ts → All (From bound) us → ComeBefore ts us
come_before bound ts us below from i j at_i at_j =
    let (t, in_ts, is_i) = record_indexed i ts at_i in
    let (u, in_us, is_j) = record_indexed j us at_j in
    let low = All-contains (Below bound) ts t below in_ts in
    let high = All-contains (From bound) us u from in_us in
    omega arith

-- what holds of all records holds of those that were answered
pub deeds_all : (P : Record → Type 0) (segment : ℕ) (tasks : List Record) (answers : List Answer) → All P tasks
    → All (λ (deed : Deed). P deed.task) (deeds_of segment tasks answers)
deeds_all P segment [] answers all = All-nil (λ (deed : Deed). P deed.task)
deeds_all P segment (task ∷ tasks) [] all = All-nil (λ (deed : Deed). P deed.task)
deeds_all P segment (task ∷ tasks) (answer ∷ answers) all =
    All-cons (λ (deed : Deed). P deed.task) (deed_of segment task answer) (deeds_of segment tasks answers)
    (All-head P task tasks all) (deeds_all P segment tasks answers (All-tail P task tasks all))

pub deeds_both : (bound : ℕ) (ds es : List Deed) → All (λ (deed : Deed). Below bound deed.task) ds
    → All (λ (deed : Deed). From bound deed.task) es
    → AllBoth (λ (one other : Deed). one.task.index < other.task.index) ds es
deeds_both bound ds es below from =
    All-weaker (λ (deed : Deed). Below bound deed.task)
    (λ (one : Deed). All (λ (other : Deed). one.task.index < other.task.index) es)
    (λ one low. All-weaker (λ (deed : Deed). From bound deed.task) (λ (other : Deed). one.task.index < other.task.index)
    (λ other high. omega arith) es from) ds below

pub deeds_then : (segment : ℕ) (ts us : List Record) (ys bs : List Answer) → length ys ≡ length ts
    → deeds_of segment (ts ++ us) (ys ++ bs) ≡ deeds_of segment ts ys ++ deeds_of segment us bs
deeds_then segment [] us [] bs same = refl
deeds_then segment [] us (a ∷ ys) bs same = absurd (omega arith)
deeds_then segment (t ∷ ts) us [] bs same = absurd (omega arith)
deeds_then segment (t ∷ ts) us (a ∷ ys) bs same =
    ap (λ (ds : List Deed). deed_of segment t a ∷ ds) (deeds_then segment ts us ys bs (omega arith))

pub deeds_long : (segment : ℕ) (tasks : List Record) (answers : List Answer) → length answers ≡ length tasks
    → length (deeds_of segment tasks answers) ≡ length tasks
deeds_long segment [] answers same = refl
deeds_long segment (t ∷ ts) [] same = absurd (omega arith)
deeds_long segment (t ∷ ts) (a ∷ ys) same = let h = deeds_long segment ts ys (omega arith) in omega arith

pub deed_at : (segment : ℕ) (tasks : List Record) (answers : List Answer) (i : ℕ) (d : Deed) (e : Record)
    (blank : Answer) → length answers ≡ length tasks
    → i < length tasks
    → get_or (deeds_of segment tasks answers) i d ≡ deed_of segment (get_or tasks i e) (get_or answers i blank)
deed_at segment [] answers i d e blank same low = absurd (omega arith)
deed_at segment (t ∷ ts) [] i d e blank same low = absurd (omega arith)
deed_at segment (t ∷ ts) (a ∷ ys) zero d e blank same low = refl
deed_at segment (t ∷ ts) (a ∷ ys) (suc i) d e blank same low =
    deed_at segment ts ys i d e blank (omega arith) (omega arith)

-- the pairs of records and answers
pub pairs_all : (P : Record → Answer → Type 0) (segment : ℕ) (tasks : List Record) (answers : List Answer)
    → All (λ (deed : Deed). P deed.task deed.answer) (deeds_of segment tasks answers)
    → All (λ (p : Record × Answer). P p.0 p.1) (zip tasks answers)
pairs_all P segment [] answers all = All-nil (λ (p : Record × Answer). P p.0 p.1)
pairs_all P segment (t ∷ ts) [] all = All-nil (λ (p : Record × Answer). P p.0 p.1)
pairs_all P segment (t ∷ ts) (a ∷ ys) all =
    All-cons (λ (p : Record × Answer). P p.0 p.1) (t, a) (zip ts ys)
    (All-head (λ (deed : Deed). P deed.task deed.answer) (deed_of segment t a) (deeds_of segment ts ys) all)
    (pairs_all P segment ts ys (All-tail (λ (deed : Deed). P deed.task deed.answer) (deed_of segment t a)
    (deeds_of segment ts ys) all))

pub answers_all : (P : Answer → Type 0) (segment : ℕ) (tasks : List Record) (answers : List Answer)
    → length answers ≡ length tasks
    → All (λ (deed : Deed). P deed.answer) (deeds_of segment tasks answers) → All P answers
answers_all P segment [] [] same all = All-nil P
answers_all P segment [] (a ∷ ys) same all = absurd (omega arith)
answers_all P segment (t ∷ ts) [] same all = All-nil P
answers_all P segment (t ∷ ts) (a ∷ ys) same all =
    All-cons P a ys (All-head (λ (deed : Deed). P deed.answer) (deed_of segment t a) (deeds_of segment ts ys) all)
    (answers_all P segment ts ys (omega arith)
    (All-tail (λ (deed : Deed). P deed.answer) (deed_of segment t a) (deeds_of segment ts ys) all))

pub zip_long : {A B : Type 0} (xs : List A) (ys : List B) → length xs ≡ length ys → length (zip xs ys) ≡ length xs
zip_long [] ys same = refl
zip_long (x ∷ xs) [] same = absurd (omega arith)
zip_long (x ∷ xs) (y ∷ ys) same = let h = zip_long xs ys (omega arith) in omega arith

-- all are counted, or none
pub all_counted : {A : Type 0} (p : A → Bool) (xs : List A) → All (λ (x : A). p x ≡ true) xs → count_by p xs ≡ length xs
all_counted p [] all = refl
all_counted p (x ∷ xs) all =
    let one : cond {A = ℕ} (p x) 1 0 ≡ 1 =
    ap (λ (b : Bool). cond {A = ℕ} b 1 0) (All-head (λ x. p x ≡ true) x xs all) in
    let rest = all_counted p xs (All-tail (λ x. p x ≡ true) x xs all) in
    sum_by-cons (λ y. cond (p y) 1 0) x xs ∙ omega arith

pub none_counted : {A : Type 0} (p : A → Bool) (xs : List A) → All (λ (x : A). p x ≡ false) xs → count_by p xs ≡ 0
none_counted p [] all = refl
none_counted p (x ∷ xs) all =
    let one : cond {A = ℕ} (p x) 1 0 ≡ 0 =
    ap (λ (b : Bool). cond {A = ℕ} b 1 0) (All-head (λ x. p x ≡ false) x xs all) in
    let rest = none_counted p xs (All-tail (λ x. p x ≡ false) x xs all) in
    sum_by-cons (λ y. cond (p y) 1 0) x xs ∙ omega arith

pub none_pass : {A : Type 0} (p : A → Bool) (xs : List A) → list_any p xs ≡ false → All (λ (x : A). p x ≡ false) xs
none_pass p [] none = All-nil (λ x. p x ≡ false)
none_pass p (x ∷ xs) none = let both =
    or_parts (p x) (list_any p xs) none in All-cons (λ x. p x ≡ false) x xs both.0 (none_pass p xs both.1)
