-- A bare plan that is short reads as the plan without keys and associations: for `bare_plan_reads`.
use Rattle.std.proofs.Common.{◌≡◌, ◌≢◌, ℕ, ◌+◌, ◌≤◌, Bool, true, false, List, [], ◌∷◌, ◌++◌, length, Option, Some, None}
use Rattle.std.proofs.Common.{Result, Ok, Err, refl, sym, ap, ◌∙◌, subst, arith, ◌⊎◌, inl, inr}
use Rattle.std.specs.Prelude.{◌==◌, nat_lt, nat_le, if◌then◌else◌, not, ◌||◌, codes, filter}
use Rattle.std.specs.List.{flat_map, onto_first, AllByRecursion}
use Rattle.std.specs.Str.{bytes_eq}
use Rattle.std.proofs.lemmas.Bool.{ne_eqb, cases_eq, le-ltb}
use Rattle.std.proofs.lemmas.Slice.Eq.{bytes_eq-Decides}
use Rattle.unit_plan.specs.declared.plan_error.PlanCause.{PlanCause}
use Rattle.unit_plan.specs.declared.plan_error.PlanCause.TheVariants.{Long, Form, Order, Range, Twice, Unknown}
use Rattle.unit_plan.specs.declared.plan_error.PlanFault.{PlanFault}
use Rattle.unit_plan.specs.Lines.{lines_of, words_of}
use Rattle.unit_plan.specs.Plan.{plan_of, plan_after, taken, is_skipped, version_taken, device_taken, slots_taken}
use Rattle.unit_plan.specs.Plan.{block_taken, accept_taken, link_taken, channel_taken, key_taken, association_taken}
use Rattle.unit_plan.specs.Plan.{association_added, number_in_order, is_on_link, in_order, key_admitted, admitted}
use Rattle.unit_plan.specs.LineForm.{version_said, device_said, number_said, association_of, bounded, channel_id}
use Rattle.unit_plan.specs.LinkLine.{link_said, is_link}
use Rattle.unit_plan.specs.ChannelLine.{channel_said}
use Rattle.unit_plan.specs.Channels.{has_channel, has_place}
use Rattle.unit_plan.specs.KeyLine.{key_said}
use Rattle.unit_plan.specs.AssociationLine.{association_said}
use Rattle.unit_plan.specs.PlanError.{◌>>=◌, fault, check, require}
use Rattle.unit_plan.specs.PlanLines.{PlanLines, no_lines, has_link}
use Rattle.unit_plan.specs.Bare.{names_rows, is_bare, ended, bare_of, without_rows}

-- ---- lines that were written each with a line feed are read again

-- no octet of the line is a line feed
abbrev IsLine : List ℕ → Type 0
IsLine line = AllByRecursion (λ octet. octet ≢ 10) line

line_read : (line rest : List ℕ) → IsLine line → lines_of (ended line ++ rest) ≡ line ∷ lines_of rest
line_read [] rest is = refl
line_read (x ∷ xs) rest is = rw (ne_eqb x 10 is.0) (ap (onto_first x) (line_read xs rest is.1))

lines_read : (lines : List (List ℕ)) → AllByRecursion IsLine lines → lines_of (flat_map ended lines) ≡ lines
lines_read [] are = refl
lines_read (line ∷ lines) are =
    line_read line (flat_map ended lines) are.0 ∙ ap (λ (others : List (List ℕ)). line ∷ others)
    (lines_read lines are.1)

onto_lines : (x : ℕ) (lines : List (List ℕ)) → x ≢ 10 → AllByRecursion IsLine lines
    → AllByRecursion IsLine (onto_first x lines)
onto_lines x [] not are = ((not, tt), tt)
onto_lines x (line ∷ lines) not are = ((not, are.0), are.1)

lines_are : (text : List ℕ) → AllByRecursion IsLine (lines_of text)
lines_are [] = tt
lines_are (x ∷ xs) = elim (cases_eq x 10) [
  | inl is ↦ rw is (tt, lines_are xs)
  | inr other ↦ rw (ne_eqb x 10 other) (onto_lines x (lines_of xs) other (lines_are xs))
]

kept_are : (p : List ℕ → Bool) (lines : List (List ℕ)) → AllByRecursion IsLine lines
    → AllByRecursion IsLine (filter p lines)
kept_are p [] are = tt
kept_are p (line ∷ lines) are = kept (p line) (kept_are p lines are.1) where
  kept : (b : Bool) → AllByRecursion IsLine (filter p lines)
      → AllByRecursion IsLine (if b then line ∷ filter p lines else filter p lines)
  kept true others = (are.0, others)
  kept false others = others

-- ---- the lines take no more room than the text and one line feed

onto_room : (x k : ℕ) (lines : List (List ℕ)) → length (flat_map ended lines) ≤ k + 1
    → length (flat_map ended (onto_first x lines)) ≤ k + 2
onto_room x k [] few = grind arith
onto_room x k (line ∷ lines) few = grind arith

pub lines_room : (text : List ℕ) → length (flat_map ended (lines_of text)) ≤ length text + 1
lines_room [] = omega arith
lines_room (x ∷ xs) = elim (cases_eq x 10) [
  | inl is ↦ rw is (let others = lines_room xs in grind arith)
  | inr other ↦ rw (ne_eqb x 10 other) (let more = onto_room x (length xs) (lines_of xs) (lines_room xs) in grind arith)
]

-- ---- what a line says does not look at keys and associations, nor at its number

abbrev Same : {A : Type 0} → Result A PlanFault → Result A PlanFault → Type 0
Same {A} r s = (a : A) → r ≡ Ok a → s ≡ Ok a

abbrev Bares : Result PlanLines PlanFault → Result PlanLines PlanFault → Type 0
Bares r s = (plan : PlanLines) → r ≡ Ok plan → s ≡ Ok (without_rows plan)

bind_same : {A B : Type 0} (r s : Result A PlanFault) (f g : A → Result B PlanFault) → Same r s
    → ((a : A) → Same (f a) (g a)) → Same (r >>= f) (s >>= g)
bind_same (Ok a) s f g same each = λ b e. rw (same a refl) (each a b e)
bind_same (Err x) s f g same each = λ b e. absurd cc

bind_bares : {A : Type 0} (r s : Result A PlanFault) (f g : A → Result PlanLines PlanFault) → Same r s
    → ((a : A) → Bares (f a) (g a)) → Bares (r >>= f) (s >>= g)
bind_bares (Ok a) s f g same each = λ b e. rw (same a refl) (each a b e)
bind_bares (Err x) s f g same each = λ b e. absurd cc

require_same : {A : Type 0} (n m : ℕ) (cause : PlanCause) (o : Option A) → Same (require n cause o) (require m cause o)
require_same n m cause None = λ a e. absurd cc
require_same n m cause (Some x) = λ a e. e

pub check_same : (n m : ℕ) (cause : PlanCause) (b : Bool) → Same (check n cause b) (check m cause b)
check_same n m cause true = λ a e. e
check_same n m cause false = λ a e. absurd cc

ok_same : {A : Type 0} (a : A) → Same {A = A} (Ok a) (Ok a)
ok_same a = λ b e. e

abbrev bared : Result PlanLines PlanFault → Result PlanLines PlanFault
bared (Ok plan) = Ok (without_rows plan)
bared (Err x) = Err x

ok_bares : (plan other : PlanLines) → other ≡ without_rows plan → Bares (Ok plan) (Ok other)
ok_bares plan other is = λ p e. ap Ok is ∙ ap bared e

version_bares : (n m : ℕ) (plan : PlanLines) (words : List (List ℕ))
    → Bares (version_taken n plan words) (version_taken m (without_rows plan) words)
unfolding version_taken
version_bares n m plan words =
    bind_bares _ _ _ _ (require_same n m Form (version_said words)) (λ said.
    bind_bares _ _ _ _ (check_same n m Order (plan.heads == 0)) (λ ordered. ok_bares _ _ refl))

device_bares : (n m : ℕ) (plan : PlanLines) (words : List (List ℕ))
    → Bares (device_taken n plan words) (device_taken m (without_rows plan) words)
unfolding device_taken
device_bares n m plan words =
    bind_bares _ _ _ _ (require_same n m Form (device_said words)) (λ device.
    bind_bares _ _ _ _ (check_same n m Order (plan.heads == 1)) (λ ordered. ok_bares _ _ refl))

number_same : (n m : ℕ) (plan : PlanLines) (heads least most : ℕ) (words : List (List ℕ))
    → Same (number_in_order n plan heads least most words)
    (number_in_order m (without_rows plan) heads least most words)
number_same n m plan heads least most words =
    bind_same _ _ _ _ (require_same n m Form (number_said words)) (λ said.
    bind_same _ _ _ _ (check_same n m Order (plan.heads == heads))
    (λ ordered. require_same n m Range (bounded least most said)))

slots_bares : (n m : ℕ) (plan : PlanLines) (words : List (List ℕ))
    → Bares (slots_taken n plan words) (slots_taken m (without_rows plan) words)
unfolding slots_taken
slots_bares n m plan words = bind_bares _ _ _ _ (number_same n m plan 2 16 65536 words) (λ number. ok_bares _ _ refl)

block_bares : (n m : ℕ) (plan : PlanLines) (words : List (List ℕ))
    → Bares (block_taken n plan words) (block_taken m (without_rows plan) words)
unfolding block_taken
block_bares n m plan words = bind_bares _ _ _ _ (number_same n m plan 3 1 65536 words) (λ number. ok_bares _ _ refl)

accept_bares : (n m : ℕ) (plan : PlanLines) (words : List (List ℕ))
    → Bares (accept_taken n plan words) (accept_taken m (without_rows plan) words)
unfolding accept_taken
accept_bares n m plan words = bind_bares _ _ _ _ (number_same n m plan 4 1 65536 words) (λ number. ok_bares _ _ refl)

link_bares : (n m : ℕ) (plan : PlanLines) (words : List (List ℕ))
    → Bares (link_taken n plan words) (link_taken m (without_rows plan) words)
unfolding link_taken
link_bares n m plan words =
    bind_bares _ _ _ _ (require_same n m Form (link_said words)) (λ said.
    bind_bares _ _ _ _
    (bind_same _ _ _ _ (check_same n m Order (plan.heads == 5)) (λ ordered.
    bind_same _ _ _ _ (check_same n m Range (is_link said.0 said.1))
    (λ bounds. check_same n m Twice (not (has_link plan.links said.0)))))
    (λ known. ok_bares _ _ refl))

channel_bares : (n m : ℕ) (plan : PlanLines) (words : List (List ℕ))
    → Bares (channel_taken n plan words) (channel_taken m (without_rows plan) words)
unfolding channel_taken
channel_bares n m plan words =
    bind_bares _ _ _ _ (require_same n m Form (channel_said words)) (λ said.
    bind_bares _ _ _ _
    (bind_same _ _ _ _ (check_same n m Order (plan.heads == 5)) (λ ordered.
    bind_same _ _ _ _ (require_same n m Range (channel_id said.0)) (λ id.
    bind_same _ _ _ _ (check_same n m Range (nat_le said.1.link 15)) (λ link.
    bind_same _ _ _ _ (check_same n m Range (is_on_link plan.links said.1)) (λ bounds.
    bind_same _ _ _ _ (check_same n m Twice (not (has_channel plan.channels said.0))) (λ number_once.
    bind_same _ _ _ _ (check_same n m Twice (not (has_place plan.channels said.1))) (λ place_once.
    bind_same _ _ _ _ (check_same n m Unknown (has_link plan.links said.1.link)) (λ known. ok_same id))))))))
    (λ id. ok_bares _ _ refl))

-- ---- the line of a key or an association leaves the rest of a plan

abbrev pub Keeps : PlanLines → Result PlanLines PlanFault → Type 0
Keeps plan r = (next : PlanLines) → r ≡ Ok next → without_rows next ≡ without_rows plan

bind_keeps : {A : Type 0} (plan : PlanLines) (r : Result A PlanFault) (f : A → Result PlanLines PlanFault)
    → ((a : A) → Keeps plan (f a)) → Keeps plan (r >>= f)
bind_keeps plan (Ok a) f each = each a
bind_keeps plan (Err x) f each = λ next e. absurd cc

or_plan : PlanLines → Result PlanLines PlanFault → PlanLines
or_plan plan (Ok next) = next
or_plan plan (Err x) = plan

ok_keeps : (plan other : PlanLines) → without_rows other ≡ without_rows plan → Keeps plan (Ok other)
unfolding or_plan
ok_keeps plan other is = λ next e. ap without_rows (sym (ap (or_plan plan) e)) ∙ is

key_keeps : (n : ℕ) (plan : PlanLines) (words : List (List ℕ)) → Keeps plan (key_taken n plan words)
unfolding key_taken
key_keeps n plan words =
    bind_keeps plan (require n Form (key_said words))
    _ (λ said. bind_keeps plan (key_admitted n plan said.id) _ (λ id. ok_keeps plan _ refl))

association_keeps : (n : ℕ) (plan : PlanLines) (words : List (List ℕ)) → Keeps plan (association_taken n plan words)
unfolding association_taken association_added
association_keeps n plan words =
    bind_keeps plan (require n Form (association_said words)) _ (λ said.
    bind_keeps plan (in_order n plan 5) _ (λ ordered.
    bind_keeps plan (require n Range (association_of n said)) _ (λ found.
    bind_keeps plan (admitted plan found) _ (λ known. ok_keeps plan _ refl))))

-- ---- a line by its first word

-- the word is this one, or the test says that it is not
is_word : (word text : List ℕ) → (word ≡ text) ⊎ (bytes_eq word text ≡ false)
is_word word text = told (bytes_eq word text) (bytes_eq-Decides word text).0 where
  told : (b : Bool) → (b ≡ true → word ≡ text) → (word ≡ text) ⊎ (b ≡ false)
  told true is = inl (is refl)
  told false is = inr refl

pub taken_keeps : (n : ℕ) (plan : PlanLines) (words : List (List ℕ)) → names_rows words ≡ true
    → Keeps plan (taken n plan words)
unfolding taken
taken_keeps n plan [] named = absurd cc
taken_keeps n plan (word ∷ words) named = elim (is_word word (codes "key")) [
  | inl is ↦ subst (λ (w : List ℕ). Keeps plan (taken n plan (w ∷ words))) (sym is) (key_keeps n plan words)
  | inr no_key ↦ elim (is_word word (codes "sa")) [
    | inl is ↦ subst (λ (w : List ℕ). Keeps plan (taken n plan (w ∷ words))) (sym is) (association_keeps n plan words)
    | inr no_sa ↦ (let none = rw (no_key, no_sa) at named in absurd cc)
  ]
]

abbrev TakesAlike : ℕ → ℕ → PlanLines → List (List ℕ) → List ℕ → Type 0
TakesAlike n m plan words word = Bares (taken n plan (word ∷ words)) (taken m (without_rows plan) (word ∷ words))

later_bares : (n m : ℕ) (plan : PlanLines) (word : List ℕ) (words : List (List ℕ)) → bytes_eq word (codes "key") ≡ false
    → bytes_eq word (codes "sa") ≡ false
    → bytes_eq word (codes "sdls") ≡ false → bytes_eq word (codes "device") ≡ false
    → bytes_eq word (codes "slots") ≡ false
    → bytes_eq word (codes "block") ≡ false → bytes_eq word (codes "accept") ≡ false → TakesAlike n m plan words word
unfolding taken
later_bares n m plan word words no_key no_sa no_sdls no_device no_slots no_block no_accept =
    elim (is_word word (codes "link")) [
      | inl is ↦ subst (TakesAlike n m plan words) (sym is) (link_bares n m plan words)
      | inr no_link ↦ elim (is_word word (codes "channel")) [
        | inl is ↦ subst (TakesAlike n m plan words) (sym is) (channel_bares n m plan words)
        | inr no_channel ↦ rw (no_key, no_sa, no_sdls, no_device, no_slots, no_block, no_accept, no_link, no_channel)
            (λ next e. absurd cc)
      ]
    ]

word_bares : (n m : ℕ) (plan : PlanLines) (word : List ℕ) (words : List (List ℕ)) → bytes_eq word (codes "key") ≡ false
    → bytes_eq word (codes "sa") ≡ false
    → TakesAlike n m plan words word
unfolding taken
word_bares n m plan word words no_key no_sa = elim (is_word word (codes "sdls")) [
  | inl is ↦ subst (TakesAlike n m plan words) (sym is) (version_bares n m plan words)
  | inr no_sdls ↦ elim (is_word word (codes "device")) [
    | inl is ↦ subst (TakesAlike n m plan words) (sym is) (device_bares n m plan words)
    | inr no_device ↦ elim (is_word word (codes "slots")) [
      | inl is ↦ subst (TakesAlike n m plan words) (sym is) (slots_bares n m plan words)
      | inr no_slots ↦ elim (is_word word (codes "block")) [
        | inl is ↦ subst (TakesAlike n m plan words) (sym is) (block_bares n m plan words)
        | inr no_block ↦ elim (is_word word (codes "accept")) [
          | inl is ↦ subst (TakesAlike n m plan words) (sym is) (accept_bares n m plan words)
          | inr no_accept ↦ later_bares n m plan word words no_key no_sa no_sdls no_device no_slots no_block no_accept
        ]
      ]
    ]
  ]
]

either_false : (a b : Bool) → (a || b) ≡ false → (a ≡ false) × (b ≡ false)
either_false true b e = absurd cc
either_false false b e = (refl, e)

taken_bares : (n m : ℕ) (plan : PlanLines) (words : List (List ℕ)) → names_rows words ≡ false
    → Bares (taken n plan words) (taken m (without_rows plan) words)
unfolding taken
taken_bares n m plan [] named = λ next e. absurd cc
taken_bares n m plan (word ∷ words) named =
    let none = either_false (bytes_eq word (codes "key")) (bytes_eq word (codes "sa")) named in
    word_bares n m plan word words none.0 none.1

-- ---- all lines, one after the other

-- the lines that are kept lead where all lines lead
abbrev Leads : List (List ℕ) → Type 0
Leads lines = (n m : ℕ) (plan : PlanLines)
    → Bares (plan_after n plan lines) (plan_after m (without_rows plan) (filter is_bare lines))

pub record Bound {A : Type 0} (r : Result A PlanFault) (f : A → Result PlanLines PlanFault) (last : PlanLines) : Type 0
  where
    pub first : A
    pub is : r ≡ Ok first
    pub onward : f first ≡ Ok last

bound : {A : Type 0} (r : Result A PlanFault) (f : A → Result PlanLines PlanFault) (last : PlanLines)
    → (r >>= f) ≡ Ok last → Bound r f last
bound (Ok a) f last e = record { first = a; is = refl; onward = e }
bound (Err x) f last e = absurd cc

leads_on : (line : List ℕ) (lines : List (List ℕ)) (skipped named : Bool) → is_skipped line ≡ skipped
    → names_rows (words_of line) ≡ named
    → Leads lines → Leads (line ∷ lines)
leads_on line lines true named is_so says others n m plan last e = rw is_so (others (n + 1) m plan last (rw is_so at e))
leads_on line lines false true is_so says others n m plan last e =
    let split = bound (taken n plan (words_of line)) (λ next. plan_after (n + 1) next lines) last (rw is_so at e) in
    rw (is_so, says) (subst (λ (bare : PlanLines). plan_after m bare (filter is_bare lines) ≡ Ok (without_rows last))
    (taken_keeps n plan (words_of line) says split.first split.is) (others (n + 1) m split.first last split.onward))
leads_on line lines false false is_so says others n m plan last e =
    let split = bound (taken n plan (words_of line)) (λ next. plan_after (n + 1) next lines) last (rw is_so at e) in
    let first = taken_bares n m plan (words_of line) says split.first split.is in
    rw (is_so, says, is_so, first) (others (n + 1) (m + 1) split.first last split.onward)

leads : (lines : List (List ℕ)) → Leads lines
leads [] = λ n m plan. bind_bares _ _ _ _ (check_same n m Order (plan.heads == 5)) (λ whole. ok_bares plan _ refl)
leads (line ∷ lines) = leads_on line lines (is_skipped line) (names_rows (words_of line)) refl refl (leads lines)

pub not_long : (b : Bool) (r : Result PlanLines PlanFault) (plan : PlanLines)
    → (if b then fault 1 Long else r) ≡ Ok plan → r ≡ Ok plan
not_long true r plan e = absurd cc
not_long false r plan e = e

pub reads_if_short : (text : List ℕ) (plan : PlanLines) → plan_of text ≡ Ok plan → length (bare_of text) ≤ 65536
    → plan_of (bare_of text) ≡ Ok (without_rows plan)
reads_if_short text plan is short =
    let lines = filter is_bare (lines_of text) in
    let read : lines_of (bare_of text) ≡ lines = lines_read lines (kept_are is_bare (lines_of text) (lines_are text)) in
    let all = not_long (nat_lt 65536 (length text)) (plan_after 1 no_lines (lines_of text)) plan is in
    rw (le-ltb 65536 (length (bare_of text)) short, read) (leads (lines_of text) 1 1 no_lines plan all)

-- ---- the line that is written next

pub kept_on : (line : List ℕ) (lines : List (List ℕ))
    → (if is_bare line then ended line else []) ++ flat_map ended (filter is_bare lines)
    ≡ flat_map ended (filter is_bare (line ∷ lines))
kept_on line lines = kept (is_bare line) where
  kept : (b : Bool) → (if b then ended line else []) ++ flat_map ended (filter is_bare lines)
      ≡ flat_map ended (if b then line ∷ filter is_bare lines else filter is_bare lines)
  kept true = refl
  kept false = refl

pub kept_short : (b : Bool) (line : List ℕ) → length (if b then ended line else []) ≤ length (ended line)
kept_short true line = omega arith
kept_short false line = omega arith
