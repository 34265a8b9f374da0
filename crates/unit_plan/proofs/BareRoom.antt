-- A bare plan has few lines, and none of them is long: for `bare_plan_is_short` and `bare_plan_reads`.
use Rattle.std.proofs.Common.{◌≡◌, ◌≢◌, ℕ, zero, suc, ◌+◌, ◌*◌, ◌-◌, ◌<◌, ◌≤◌, Bool, true, false, List, [], ◌∷◌, ◌++◌}
use Rattle.std.proofs.Common.{length, Option, Some, None, Result, Ok, Err, refl, sym, ap, ◌∙◌, subst, arith, inl, inr}
use Rattle.std.proofs.Common.{length-append}
use Rattle.std.specs.Prelude.{◌==◌, ◌&&◌, ◌||◌, not, nat_le, nat_lt, if◌then◌else◌, codes, filter}
use Rattle.std.specs.List.{flat_map, find, list_any}
use Rattle.std.specs.Option.{option_map}
use Rattle.std.specs.Str.{bytes_eq}
use Rattle.std.proofs.lemmas.Bool.{cases_eq, ne_eqb}
use Rattle.std.proofs.lemmas.Bool.Decides.{nat_tests}
use Rattle.sdls_base.specs.declared.link.AnyLayout.{AnyLayout}
use Rattle.sdls_base.specs.declared.link.AnyLayout.TheVariants.{Tc, Tm, Aos}
use Rattle.sdls_base.specs.declared.link.Link.{Link}
use Rattle.unit_plan.specs.declared.link_line.ChannelPlace.{ChannelPlace}
use Rattle.unit_plan.specs.declared.plan_error.PlanCause.{PlanCause}
use Rattle.unit_plan.specs.declared.plan_error.PlanCause.TheVariants.{Form, Order, Range, Twice, Unknown}
use Rattle.unit_plan.specs.declared.plan_error.PlanFault.{PlanFault}
use Rattle.unit_plan.specs.Channels.{has_channel, has_place}
use Rattle.unit_plan.specs.ChannelLine.{channel_said, is_map, is_place}
use Rattle.unit_plan.specs.LineForm.{bounded, channel_id, version_said, device_said, number_said}
use Rattle.unit_plan.specs.Lines.{lines_of, words_of}
use Rattle.unit_plan.specs.LinkLine.{link_said, is_link, is_layout}
use Rattle.unit_plan.specs.Plan.{plan_of, plan_after, taken, is_skipped, version_taken, device_taken, slots_taken}
use Rattle.unit_plan.specs.Plan.{block_taken, accept_taken, link_taken, channel_taken, number_in_order, is_on}
use Rattle.unit_plan.specs.Plan.{is_on_link, link_admitted, channel_admitted}
use Rattle.unit_plan.specs.PlanError.{◌>>=◌, check, require}
use Rattle.unit_plan.specs.PlanLines.{PlanLines, no_lines, has_link}
use Rattle.unit_plan.specs.Bare.{names_rows, is_bare, ended, bare_of, without_rows}
use Rattle.unit_plan.proofs.BareReading.{taken_keeps, not_long, reads_if_short}
use Rattle.unit_plan.proofs.WordCosts.{cost, words_cost, is_word, both_true, version_cost, device_cost, number_cost}
use Rattle.unit_plan.proofs.WordCosts.{link_cost, channel_cost, IsSmall}

-- ---- numbers that have no line yet

free : (ℕ → Bool) → ℕ → ℕ
free taken zero = 0
free taken (suc k) = (if taken k then 0 else 1) + free taken k

free_same : (old new : ℕ → Bool) (k : ℕ) → ((j : ℕ) → j < k → new j ≡ old j) → free new k ≡ free old k
unfolding free
free_same old new zero same = refl
free_same old new (suc k) same =
    ap (λ (b : Bool). (if b then 0 else 1) + free new k) (same k (omega arith))
    ∙ ap (λ (n : ℕ). (if old k then 0 else 1) + n) (free_same old new k (λ j below. same j (omega (arith, below))))

free_less : (old new : ℕ → Bool) (n k : ℕ) → n < k → old n ≡ false → new n ≡ true → ((j : ℕ) → j ≢ n → new j ≡ old j)
    → free new k + 1 ≡ free old k
unfolding free
free_less old new n zero below was is same = absurd (omega arith)
free_less old new n (suc k) below was is same = elim (cases_eq k n) [
  | inl at ↦ (
      let own = subst (λ (m : ℕ). new m ≡ true) (sym at) is in
      let before = subst (λ (m : ℕ). old m ≡ false) (sym at) was in
      let others = free_same old new k (λ j small. same j (λ e. omega (arith, e, at, small))) in
      rw (own, before) (omega (arith, others))
      )
  | inr apart ↦ (
      let others = free_less old new n k (omega (arith, below, apart)) was is same in
      rw (same k apart) (omega (arith, others))
      )
]

any_new : {X : Type 0} (p : X → Bool) (xs : List X) (x : X) → p x ≡ true → list_any p (xs ++ x ∷ []) ≡ true
any_new p [] x is = rw is refl
any_new p (y ∷ ys) x is = ap (λ (b : Bool). p y || b) (any_new p ys x is) ∙ or_true (p y) where
  or_true : (b : Bool) → (b || true) ≡ true
  or_true true = refl
  or_true false = refl

any_old : {X : Type 0} (p : X → Bool) (xs : List X) (x : X) → p x ≡ false → list_any p (xs ++ x ∷ []) ≡ list_any p xs
any_old p [] x is = rw is refl
any_old p (y ∷ ys) x is = ap (λ (b : Bool). p y || b) (any_old p ys x is)

any_found : {X : Type 0} (p : X → Bool) (xs : List X) → list_any p xs ≡ true → (x : X) × (find p xs ≡ Some x)
any_found p [] some = absurd cc
any_found {X} p (x ∷ xs) some = found (p x) some (any_found p xs) where
  found : (b : Bool) → (b || list_any p xs) ≡ true → (list_any p xs ≡ true → (y : X) × (find p xs ≡ Some y))
      → (y : X) × ((if b then Some x else find p xs) ≡ Some y)
  found true some others = (x, refl)
  found false some others = others some

-- ---- how many lines a plan may still have

room : PlanLines → ℕ
room plan = (5 - plan.heads) + free (has_link plan.links) 16 + free (has_channel plan.channels) 64

-- ---- one test after the other

record Took {A B : Type 0} (r : Result A PlanFault) (f : A → Result B PlanFault) (b : B) : Type 0 where
  first : A
  is : r ≡ Ok first
  onward : f first ≡ Ok b

took : {A B : Type 0} (r : Result A PlanFault) (f : A → Result B PlanFault) (b : B) → (r >>= f) ≡ Ok b → Took r f b
took (Ok a) f b e = record { first = a; is = refl; onward = e }
took (Err x) f b e = absurd cc

abbrev fine : {A : Type 0} → A → Result A PlanFault
fine a = Ok a

ok_is : {A : Type 0} (a b : A) → fine a ≡ fine b → a ≡ b
ok_is a b e = cc

required : {A : Type 0} (n : ℕ) (cause : PlanCause) (o : Option A) (a : A) → require n cause o ≡ Ok a → o ≡ Some a
required n cause None a e = absurd cc
required n cause (Some x) a e = ap Some (ok_is x a e)

checked : (n : ℕ) (cause : PlanCause) (b : Bool) (u : Unit {0}) → check n cause b ≡ Ok u → b ≡ true
checked n cause true u e = refl
checked n cause false u e = absurd cc

same_number : (a b : ℕ) → (a == b) ≡ true → a ≡ b
same_number a b e = grind (arith, nat_tests)

at_most : (a b : ℕ) → nat_le a b ≡ true → a ≤ b
at_most a b e = grind (arith, nat_tests)

-- ---- what a line takes of the room, and how long it is

record Spends (plan next : PlanLines) (words : List (List ℕ)) : Type 0 where
  cheap : cost words ≤ 120
  less : room next + 1 ≤ room plan

version_spends : (n : ℕ) (plan next : PlanLines) (words : List (List ℕ)) → version_taken n plan words ≡ Ok next
    → Spends plan next words
unfolding version_taken room
version_spends n plan next words e =
    let a = took (require n Form (version_said words)) _ next e in
    let b = took (check n Order (plan.heads == 0)) _ next a.onward in
    let heads = same_number plan.heads 0 (checked n Order (plan.heads == 0) b.first b.is) in
    record {
      cheap = omega (arith, version_cost words a.first (required n Form (version_said words) a.first a.is));
      less = subst (λ (p : PlanLines). room p + 1 ≤ room plan) (ok_is _ next b.onward) (omega (arith, heads));
    }

device_spends : (n : ℕ) (plan next : PlanLines) (words : List (List ℕ)) → device_taken n plan words ≡ Ok next
    → Spends plan next words
unfolding device_taken room
device_spends n plan next words e =
    let a = took (require n Form (device_said words)) _ next e in
    let b = took (check n Order (plan.heads == 1)) _ next a.onward in
    let heads = same_number plan.heads 1 (checked n Order (plan.heads == 1) b.first b.is) in
    record {
      cheap = omega (arith, device_cost words a.first (required n Form (device_said words) a.first a.is));
      less = subst (λ (p : PlanLines). room p + 1 ≤ room plan) (ok_is _ next b.onward) (omega (arith, heads));
    }

within : (least most n k : ℕ) → bounded least most n ≡ Some k → n ≤ most
within least most n k e = told (nat_le least n) (nat_le n most) refl e where
  told : (a b : Bool) → nat_le n most ≡ b → (if a && b then Some n else None) ≡ Some k → n ≤ most
  told true true is e = at_most n most is
  told true false is e = absurd cc
  told false b is e = absurd cc

number_taken : (n : ℕ) (plan : PlanLines) (heads least most k : ℕ) (words : List (List ℕ)) → most ≤ 65536
    → number_in_order n plan heads least most words ≡ Ok k → (plan.heads ≡ heads) × (cost words ≤ 21)
number_taken n plan heads least most k words low e =
    let a = took (require n Form (number_said words)) _ k e in
    let b = took (check n Order (plan.heads == heads)) _ k a.onward in
    let bounds = within least most a.first k (required n Range (bounded least most a.first) k b.onward) in (
      same_number plan.heads heads (checked n Order (plan.heads == heads) b.first b.is),
      number_cost words a.first (required n Form (number_said words) a.first a.is) (omega (arith, bounds, low)),
    )

slots_spends : (n : ℕ) (plan next : PlanLines) (words : List (List ℕ)) → slots_taken n plan words ≡ Ok next
    → Spends plan next words
unfolding slots_taken room
slots_spends n plan next words e =
    let a = took (number_in_order n plan 2 16 65536 words) _ next e in
    let b = number_taken n plan 2 16 65536 a.first words (omega arith) a.is in
    record {
      cheap = omega (arith, b.1);
      less =
          subst (λ (p : PlanLines). room p + 1 ≤ room plan) (ok_is _ next a.onward) (omega (arith, b.0));
    }

block_spends : (n : ℕ) (plan next : PlanLines) (words : List (List ℕ)) → block_taken n plan words ≡ Ok next
    → Spends plan next words
unfolding block_taken room
block_spends n plan next words e =
    let a = took (number_in_order n plan 3 1 65536 words) _ next e in
    let b = number_taken n plan 3 1 65536 a.first words (omega arith) a.is in
    record {
      cheap = omega (arith, b.1);
      less =
          subst (λ (p : PlanLines). room p + 1 ≤ room plan) (ok_is _ next a.onward) (omega (arith, b.0));
    }

accept_spends : (n : ℕ) (plan next : PlanLines) (words : List (List ℕ)) → accept_taken n plan words ≡ Ok next
    → Spends plan next words
unfolding accept_taken room
accept_spends n plan next words e =
    let a = took (number_in_order n plan 4 1 65536 words) _ next e in
    let b = number_taken n plan 4 1 65536 a.first words (omega arith) a.is in
    record {
      cheap = omega (arith, b.1);
      less =
          subst (λ (p : PlanLines). room p + 1 ≤ room plan) (ok_is _ next a.onward) (omega (arith, b.0));
    }

not_true : (b : Bool) → not b ≡ true → b ≡ false
not_true true e = absurd cc
not_true false e = refl

eq_self : (n : ℕ) → (n == n) ≡ true
eq_self n = grind (arith, nat_tests)

link_spends : (n : ℕ) (plan next : PlanLines) (words : List (List ℕ)) → link_taken n plan words ≡ Ok next
    → Spends plan next words
unfolding link_taken room
link_spends n plan next words e =
    let a = took (require n Form (link_said words)) _ next e in
    let said = a.first in
    let b = took (link_admitted n plan said.0 said.1) _ next a.onward in
    let o = took (check n Order (plan.heads == 5)) _ b.first b.is in
    let r = took (check n Range (is_link said.0 said.1)) _ b.first o.onward in
    let bounds = both_true (nat_le said.0 15) (is_layout said.1.layout)
    (checked n Range (is_link said.0 said.1) r.first r.is) in
    let once =
    not_true (has_link plan.links said.0) (checked n Twice (not (has_link plan.links said.0)) b.first r.onward) in
    let low = at_most said.0 15 bounds.0 in
    let fewer = free_less (has_link plan.links) (has_link (plan.links ++ said ∷ [])) said.0 16 (omega (arith, low)) once
    (any_new (λ (entry : ℕ × Link). entry.0 == said.0) plan.links said (eq_self said.0))
    (λ j other. any_old (λ (entry : ℕ × Link). entry.0 == j) plan.links said
    (ne_eqb said.0 j (λ same. other (sym same)))) in
    record {
      cheap = omega (arith, link_cost words said (required n Form (link_said words) said a.is) low bounds.1);
      less = subst (λ (p : PlanLines). room p + 1 ≤ room plan) (ok_is _ next b.onward) (omega (arith, fewer));
    }

map_small : (wanted : Bool) (map : Option ℕ) → is_map wanted map ≡ true → IsSmall map
map_small wanted None e = tt
map_small wanted (Some n) e = at_most n 63 (both_true wanted (nat_le n 63) e).1

record IsSmallOn (place : ChannelPlace) : Type 0 where
  spacecraft : place.spacecraft ≤ 1023
  channel : place.channel ≤ 63
  map : IsSmall place.map

place_small : (layout : AnyLayout) (place : ChannelPlace) → is_place layout place ≡ true → IsSmallOn place
place_small (Tc layout) place e =
    let a = both_true (nat_le place.spacecraft 1023) (nat_le place.channel 63 && is_map layout.segment place.map) e in
    let b = both_true (nat_le place.channel 63) (is_map layout.segment place.map) a.1 in
    record {
      spacecraft = at_most place.spacecraft 1023 a.0;
      channel = at_most place.channel 63 b.0;
      map = map_small layout.segment place.map b.1;
    }
place_small (Tm layout) place e =
    let a = both_true (nat_le place.spacecraft 1023) (nat_le place.channel 7 && is_map false place.map) e in
    let b = both_true (nat_le place.channel 7) (is_map false place.map) a.1 in
    record {
      spacecraft = at_most place.spacecraft 1023 a.0;
      channel = omega (arith, at_most place.channel 7 b.0);
      map = map_small false place.map b.1;
    }
place_small (Aos layout) place e =
    let a = both_true (nat_le place.spacecraft 255) (nat_le place.channel 62 && is_map false place.map) e in
    let b = both_true (nat_le place.channel 62) (is_map false place.map) a.1 in
    record {
      spacecraft = omega (arith, at_most place.spacecraft 255 a.0);
      channel = omega (arith, at_most place.channel 62 b.0);
      map = map_small false place.map b.1;
    }

on_small : (links : List (ℕ × Link)) (place : ChannelPlace) → has_link links place.link ≡ true → is_on_link links place
    ≡ true
    → IsSmallOn place
on_small links place known on =
    let found = any_found (λ (entry : ℕ × Link). entry.0 == place.link) links known in
    place_small found.0.1.layout place
    (ap (λ (o : Option (ℕ × Link)). is_on (option_map (λ (entry : ℕ × Link). entry.1) o) place) (sym found.1) ∙ on)

id_small : (n id : ℕ) → channel_id n ≡ Some id → (n ≤ 63) × (n ≡ id)
id_small n id e = told (nat_le n 63) refl e where
  told : (b : Bool) → nat_le n 63 ≡ b → (if b then Some n else None) ≡ Some id → (n ≤ 63) × (n ≡ id)
  told true is e = (at_most n 63 is, cc)
  told false is e = absurd cc

channel_spends : (n : ℕ) (plan next : PlanLines) (words : List (List ℕ)) → channel_taken n plan words ≡ Ok next
    → Spends plan next words
unfolding channel_taken room
channel_spends n plan next words e =
    let a = took (require n Form (channel_said words)) _ next e in
    let said = a.first in
    let place = said.1 in
    let b = took (channel_admitted n plan said.0 place) _ next a.onward in
    let o = took (check n Order (plan.heads == 5)) _ b.first b.is in
    let i = took (require n Range (channel_id said.0)) _ b.first o.onward in
    let l = took (check n Range (nat_le place.link 15)) _ b.first i.onward in
    let r = took (check n Range (is_on_link plan.links place)) _ b.first l.onward in
    let t = took (check n Twice (not (has_channel plan.channels said.0))) _ b.first r.onward in
    let p = took (check n Twice (not (has_place plan.channels place))) _ b.first t.onward in
    let k = took (check n Unknown (has_link plan.links place.link)) _ b.first p.onward in
    let small = id_small said.0 i.first (required n Range (channel_id said.0) i.first i.is) in
    let id : b.first ≡ said.0 = sym (ok_is i.first b.first k.onward) ∙ sym small.1 in
    let once =
    not_true (has_channel plan.channels said.0)
    (checked n Twice (not (has_channel plan.channels said.0)) t.first t.is) in
    let on = on_small plan.links place (checked n Unknown (has_link plan.links place.link) k.first k.is)
    (checked n Range (is_on_link plan.links place) r.first r.is) in
    let low = at_most place.link 15 (checked n Range (nat_le place.link 15) l.first l.is) in
    let row : ℕ × ChannelPlace = (b.first, place) in
    let fewer = free_less (has_channel plan.channels) (has_channel (plan.channels ++ row ∷ [])) said.0 64
    (omega (arith, small.0)) once
    (any_new (λ (entry : ℕ × ChannelPlace). entry.0 == said.0) plan.channels row
    (ap (λ (m : ℕ). m == said.0) id ∙ eq_self said.0))
    (λ j other. any_old (λ (entry : ℕ × ChannelPlace). entry.0 == j) plan.channels row
    (ne_eqb b.first j (λ same. other (sym same ∙ id)))) in
    record {
      cheap = omega (
        arith,
        channel_cost words said (required n Form (channel_said words) said a.is)
            (record {
              number_small = small.0;
              link = low;
              spacecraft = on.spacecraft;
              channel = on.channel;
              map = on.map;
            }),
      );
      less = subst (λ (q : PlanLines). room q + 1 ≤ room plan) (ok_is _ next b.onward) (omega (arith, fewer));
    }

abbrev SpendsAs : ℕ → PlanLines → PlanLines → List (List ℕ) → List ℕ → Type 0
SpendsAs n plan next words word = taken n plan (word ∷ words) ≡ Ok next → (length word ≤ 7) × Spends plan next words

word_spends : (n : ℕ) (plan next : PlanLines) (words : List (List ℕ)) (word : List ℕ)
    → bytes_eq word (codes "key") ≡ false → bytes_eq word (codes "sa") ≡ false
    → SpendsAs n plan next words word
unfolding taken
word_spends n plan next words word no_key no_sa = elim (is_word word (codes "sdls")) [
  | inl is ↦ subst (SpendsAs n plan next words) (sym is) (λ e. (omega arith, version_spends n plan next words e))
  | inr no_sdls ↦ elim (is_word word (codes "device")) [
    | inl is ↦ subst (SpendsAs n plan next words) (sym is) (λ e. (omega arith, device_spends n plan next words e))
    | inr no_device ↦ elim (is_word word (codes "slots")) [
      | inl is ↦ subst (SpendsAs n plan next words) (sym is) (λ e. (omega arith, slots_spends n plan next words e))
      | inr no_slots ↦ elim (is_word word (codes "block")) [
        | inl is ↦ subst (SpendsAs n plan next words) (sym is) (λ e. (omega arith, block_spends n plan next words e))
        | inr no_block ↦ elim (is_word word (codes "accept")) [
          | inl is ↦ subst (SpendsAs n plan next words) (sym is) (λ e. (omega arith, accept_spends n plan next words e))
          | inr no_accept ↦ elim (is_word word (codes "link")) [
            | inl is ↦ subst (SpendsAs n plan next words) (sym is) (λ e. (omega arith, link_spends n plan next words e))
            | inr no_link ↦ elim (is_word word (codes "channel")) [
              | inl is ↦ subst (SpendsAs n plan next words) (sym is)
                  (λ e. (omega arith, channel_spends n plan next words e))
              | inr no_channel ↦ rw (
                no_key,
                no_sa,
                no_sdls,
                no_device,
                no_slots,
                no_block,
                no_accept,
                no_link,
                no_channel,
              ) (λ e. absurd cc)
            ]
          ]
        ]
      ]
    ]
  ]
]

either_false : (a b : Bool) → (a || b) ≡ false → (a ≡ false) × (b ≡ false)
either_false true b e = absurd cc
either_false false b e = (refl, e)

line_spends : (n : ℕ) (plan next : PlanLines) (words : List (List ℕ)) → names_rows words ≡ false
    → taken n plan words ≡ Ok next
    → (cost words ≤ 128) × (room next + 1 ≤ room plan)
unfolding taken
line_spends n plan next [] named e = absurd cc
line_spends n plan next (word ∷ words) named e =
    let none = either_false (bytes_eq word (codes "key")) (bytes_eq word (codes "sa")) named in
    let spends = word_spends n plan next words word none.0 none.1 e in
    (omega (arith, spends.0, spends.1.cheap), spends.1.less)

-- ---- all lines, one after the other

abbrev Fits : List (List ℕ) → Type 0
Fits lines = (n : ℕ) (plan last : PlanLines) → plan_after n plan lines ≡ Ok last
    → length (flat_map ended (filter is_bare lines)) ≤ 128 * room plan

same_room : (plan next : PlanLines) → without_rows next ≡ without_rows plan → room next ≡ room plan
unfolding room
same_room plan next same = ap room same

fits_on : (line : List ℕ) (lines : List (List ℕ)) (skipped named : Bool) → is_skipped line ≡ skipped
    → names_rows (words_of line) ≡ named
    → Fits lines → Fits (line ∷ lines)
fits_on line lines true named is_so says others n plan last e = rw is_so (others (n + 1) plan last (rw is_so at e))
fits_on line lines false true is_so says others n plan last e =
    let split = took (taken n plan (words_of line)) (λ next. plan_after (n + 1) next lines) last (rw is_so at e) in
    let same = same_room plan split.first (taken_keeps n plan (words_of line) says split.first split.is) in
    rw (is_so, says) (omega (arith, same, others (n + 1) split.first last split.onward))
fits_on line lines false false is_so says others n plan last e =
    let split = took (taken n plan (words_of line)) (λ next. plan_after (n + 1) next lines) last (rw is_so at e) in
    let spends = line_spends n plan split.first (words_of line) says split.is in
    let rest = others (n + 1) split.first last split.onward in
    rw (is_so, says) (omega (
      arith,
      spends.0,
      spends.1,
      rest,
      words_cost line,
      length-append line (10 ∷ []),
      length-append (ended line) (flat_map ended (filter is_bare lines)),
    ))

fits : (lines : List (List ℕ)) → Fits lines
fits [] n plan last e = omega arith
fits (line ∷ lines) n plan last e =
    fits_on line lines (is_skipped line) (names_rows (words_of line)) refl refl (fits lines) n plan last e

few_octets : (text : List ℕ) (plan : PlanLines) → plan_after 1 no_lines (lines_of text) ≡ Ok plan
    → length (bare_of text) ≤ 10880
unfolding room free
few_octets text plan is = omega (arith, fits (lines_of text) 1 no_lines plan is)

pub bare_plan_is_short : (text : List ℕ) (plan : PlanLines) → plan_of text ≡ Ok plan → length (bare_of text) ≤ 65536
bare_plan_is_short text plan is =
    let all = not_long (nat_lt 65536 (length text)) (plan_after 1 no_lines (lines_of text)) plan is in
    omega (arith, few_octets text plan all)

pub bare_plan_reads : (text : List ℕ) (plan : PlanLines) → plan_of text ≡ Ok plan
    → plan_of (bare_of text) ≡ Ok (without_rows plan)
bare_plan_reads text plan is = reads_if_short text plan is (bare_plan_is_short text plan is)
