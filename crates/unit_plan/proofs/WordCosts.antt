-- How many octets the words of a line take that is read: for `bare_plan_reads`.
use Rattle.std.proofs.Common.{◌≡◌, ℕ, suc, ◌+◌, ◌*◌, ◌-◌, ◌/◌, ◌%◌, ◌^◌, ◌<◌, ◌≤◌, ◌⊎◌, Bool, true, false, List, []}
use Rattle.std.proofs.Common.{◌∷◌, length, Option, Some, None, Result, Err, refl, sym, ap, ◌∙◌, subst, arith, inl, inr}
use Rattle.std.proofs.Common.{min}
use Rattle.std.specs.Prelude.{◌==◌, ◌&&◌, nat_le, if◌then◌else◌, codes}
use Rattle.std.specs.List.{onto_first}
use Rattle.std.specs.Option.{option_map}
use Rattle.std.specs.Str.{bytes_eq}
use Rattle.std.proofs.lemmas.Bool.{ne_eqb, cases_eq}
use Rattle.std.proofs.lemmas.Bool.Decides.{nat_tests}
use Rattle.std.proofs.lemmas.Slice.Eq.{bytes_eq-Decides}
use Rattle.std.proofs.lemmas.Fmt.{length-decimal-le}
use Rattle.sdls_base.specs.declared.link.Mask.{Mask}
use Rattle.sdls_base.specs.declared.link.Link.{Link}
use Rattle.sdls_base.specs.Link.{usual_tc, usual_tm, usual_aos}
use Rattle.unit_plan.proofs.NumberFacts.{decimal-number_of}
use Rattle.unit_plan.specs.Lines.{words_of}
use Rattle.unit_plan.specs.Number.{number_of}
use Rattle.unit_plan.specs.Reading.{◌>>=◌, first_of, past, end_of, ok_of}
use Rattle.unit_plan.specs.Field.{decimal_at, capped_at, optional, optional_at, choice, choice_at, decoded}
use Rattle.unit_plan.specs.LineForm.{version_said, device_said, number_said}
use Rattle.unit_plan.specs.LinkLine.{mask_of, mask_said, mask_at, tc_at, tm_at, aos_at, frame_of, frame_at, link_said}
use Rattle.unit_plan.specs.LinkLine.{is_layout}
use Rattle.unit_plan.specs.ChannelLine.{channel_said}
use Rattle.unit_plan.specs.declared.link_line.ChannelPlace.{ChannelPlace}

-- the octets of words, each with a space
abbrev pub cost : List (List ℕ) → ℕ
cost [] = 0
cost (word ∷ words) = length word + 1 + cost words

onto_cost : (x k : ℕ) (words : List (List ℕ)) → cost words ≡ k + 1 → cost (onto_first x words) ≡ k + 2
onto_cost x k [] e = absurd (omega (arith, e))
onto_cost x k (word ∷ words) e = grind arith

pub words_cost : (line : List ℕ) → cost (words_of line) ≡ length line + 1
words_cost [] = grind arith
words_cost (x ∷ xs) = elim (cases_eq x 32) [
  | inl is ↦ rw is (omega (arith, words_cost xs))
  | inr other ↦
      rw (ne_eqb x 32 other) (onto_cost x (length xs) (words_of xs) (words_cost xs)
      ∙ (let same : length xs + 2 ≡ suc (length xs) + 1 = omega arith in same))
]

-- ---- one reading after the other

pub record Got {A B : Type 0} (o : Option A) (f : A → Option B) (b : B) : Type 0 where
  pub first : A
  pub is : o ≡ Some first
  pub onward : f first ≡ Some b

pub got : {A B : Type 0} (o : Option A) (f : A → Option B) (b : B) → (o >>= f) ≡ Some b → Got o f b
got None f b e = absurd cc
got (Some a) f b e = record { first = a; is = refl; onward = e }

some_same : {A : Type 0} (a b : A) → Some a ≡ Some b → a ≡ b
some_same a b e = cc

record OneWord {X : Type 0} (f : List ℕ → Option X) (words : List (List ℕ)) (x : X) (rest : List (List ℕ)) : Type 0
  where
    word : List ℕ
    is : words ≡ word ∷ rest
    read : f word ≡ Some x

abbrev read_to : {X : Type 0} → X → List (List ℕ) → Option (X × List (List ℕ))
read_to x rest = Some (x, rest)

one_word : {X : Type 0} (f : List ℕ → Option X) (words : List (List ℕ)) (x : X) (rest : List (List ℕ))
    → (first_of words >>= λ word. f word.0 >>= λ n. read_to n word.1) ≡ read_to x rest → OneWord f words x rest
one_word f [] x rest e = absurd cc
one_word {X} f (word ∷ words) x rest e =
    let g = got (f word) (λ n. read_to n words) (x, rest) e in
    let same = some_same (g.first, words) (x, rest) g.onward in
    record {
      word = word;
      is = ap (λ (s : List (List ℕ)). word ∷ s) (λ i. (same i).1);
      read = g.is ∙ ap Some (λ i. (same i).0);
    }

word_cost : (words rest : List (List ℕ)) (word : List ℕ) (k : ℕ) → words ≡ word ∷ rest → length word ≤ k
    → cost words ≤ k + 1 + cost rest
word_cost words rest word k is short = omega (arith, ap cost is, short)

-- ---- fields

number_short : (word : List ℕ) (n : ℕ) → number_of word ≡ Some n → n < 2 ^ 64 - 1 → length word ≤ 20
number_short word n read small =
    omega (
      arith,
      ap length (decimal-number_of word n read small),
      length-decimal-le 20 n (omega arith) (omega (arith, small)) (omega (arith, small)),
    )

pub decimal_cost : (words rest : List (List ℕ)) (n : ℕ) → decimal_at words ≡ Some (n, rest) → n < 2 ^ 64 - 1
    → cost words ≤ 21 + cost rest
unfolding decimal_at
decimal_cost words rest n e small =
    let w = one_word number_of words n rest e in
    word_cost words rest w.word 20 w.is (number_short w.word n w.read small)

pub capped_cost : (most : ℕ) (words rest : List (List ℕ)) (n : ℕ) → most ≤ 65535 → capped_at most words ≡ Some (n, rest)
    → n < most → cost words ≤ 21 + cost rest
unfolding capped_at
capped_cost most words rest n low e small =
    let g = got (decimal_at words) (λ m. Some (min m.0 most, m.1)) (n, rest) e in
    let same = some_same (min g.first.0 most, g.first.1) (n, rest) g.onward in
    let value : min g.first.0 most ≡ n = λ i. (same i).0 in
    let left : g.first.1 ≡ rest = λ i. (same i).1 in
    omega (arith, ap cost left, decimal_cost words g.first.1 g.first.0 g.is (omega (arith, value, small, low)))

-- the word is this one, or the test says that it is not
pub is_word : (word text : List ℕ) → (word ≡ text) ⊎ (bytes_eq word text ≡ false)
is_word word text = told (bytes_eq word text) (bytes_eq-Decides word text).0 where
  told : (b : Bool) → (b ≡ true → word ≡ text) → (word ≡ text) ⊎ (b ≡ false)
  told true is = inl (is refl)
  told false is = inr refl

choice_short : (first second word : List ℕ) (is : Bool) → length first ≤ 6 → length second ≤ 6
    → choice first second word ≡ Some is → length word ≤ 6
choice_short first second word is short also e = elim (is_word word first) [
  | inl same ↦ omega (arith, ap length same, short)
  | inr other ↦ elim (is_word word second) [
    | inl same ↦ omega (arith, ap length same, also)
    | inr none ↦ (let nothing = rw (other, none) at e in absurd cc)
  ]
]

choice_cost : (first second : List ℕ) (words rest : List (List ℕ)) (is : Bool) → length first ≤ 6 → length second ≤ 6
    → choice_at first second words ≡ Some (is, rest) → cost words ≤ 7 + cost rest
unfolding choice_at
choice_cost first second words rest is short also e =
    let w = one_word (choice first second) words is rest e in
    word_cost words rest w.word 6 w.is (choice_short first second w.word is short also w.read)

decoded_half : {E : Type 0} (odd half : Bool) (one other : E) (r : Result (List ℕ) E) (octets : List ℕ)
    → ok_of (if odd then Err one else (if half then r else Err other)) ≡ Some octets → half ≡ true
decoded_half true half one other r octets e = absurd cc
decoded_half false true one other r octets e = refl
decoded_half false false one other r octets e = absurd cc

decoded_short : (count : ℕ) (word octets : List ℕ) → decoded count word ≡ Some octets → length word ≤ 2 * count + 1
decoded_short count word octets e =
    let half = decoded_half (length word % 2 == 1) (length word / 2 == count) _ _ _ octets e in
    grind (arith, nat_tests)

mask_short : (usual mask : Mask) (word : List ℕ) → usual.length ≤ 6 → mask_said usual word ≡ Some mask
    → length word ≤ 13
mask_short usual mask word small e = elim (is_word word (codes "-")) [
  | inl same ↦ omega (arith, ap length same)
  | inr other ↦ (
      let mapped = rw other at e in
      let g = mapped_from (decoded usual.length word) (mask_of usual.length) mask mapped in
      omega (arith, decoded_short usual.length word g.0 g.1, small)
      )
] where
  mapped_from : (o : Option (List ℕ)) (f : List ℕ → Mask) (m : Mask) → option_map f o ≡ Some m
      → (octets : List ℕ) × (o ≡ Some octets)
  mapped_from None f m e = absurd cc
  mapped_from (Some octets) f m e = (octets, refl)

mask_cost : (usual mask : Mask) (words rest : List (List ℕ)) → usual.length ≤ 6
    → mask_at usual words ≡ Some (mask, rest) → cost words ≤ 14 + cost rest
unfolding mask_at
mask_cost usual mask words rest small e =
    let w = one_word (mask_said usual) words mask rest e in
    word_cost words rest w.word 13 w.is (mask_short usual mask w.word small w.read)

end_cost : (words : List (List ℕ)) (u : Unit {0}) → end_of words ≡ Some u → cost words ≡ 0
end_cost [] u e = refl
end_cost (word ∷ words) u e = absurd cc

-- ---- links

usual_short : (segment : Bool) → (usual_tc segment).length ≤ 6
usual_short true = omega arith
usual_short false = omega arith

tc_cost : (words rest : List (List ℕ)) (link : Link) → tc_at words ≡ Some (link, rest) → cost words ≤ 60 + cost rest
unfolding tc_at
tc_cost words rest link e =
    let a = got (choice_at (codes "seg") (codes "noseg") words) _ (link, rest) e in
    let b = got (choice_at (codes "fecf") (codes "nofecf") a.first.1) _ (link, rest) a.onward in
    let c = got (mask_at (usual_tc a.first.0) b.first.1) _ (link, rest) b.onward in
    let left : c.first.1 ≡ rest = λ i. (some_same _ _ c.onward i).1 in
    let one = choice_cost (codes "seg") (codes "noseg") words a.first.1 a.first.0 (omega arith) (omega arith) a.is in
    let two = choice_cost (codes "fecf") (codes "nofecf") a.first.1 b.first.1 b.first.0 (omega arith) (omega arith)
    b.is in
    let three = mask_cost (usual_tc a.first.0) c.first.0 b.first.1 c.first.1 (usual_short a.first.0) c.is in
    omega (arith, one, two, three, ap cost left)

pub both_true : (a b : Bool) → (a && b) ≡ true → (a ≡ true) × (b ≡ true)
both_true true b e = (refl, e)
both_true false b e = absurd cc

tm_cost : (words rest : List (List ℕ)) (link : Link) → tm_at words ≡ Some (link, rest) → is_layout link.layout ≡ true
    → cost words ≤ 60 + cost rest
unfolding tm_at
tm_cost words rest link e layout =
    let a = got (capped_at 65535 words) _ (link, rest) e in
    let b = got (choice_at (codes "fecf") (codes "nofecf") a.first.1) _ (link, rest) a.onward in
    let c = got (mask_at usual_tm b.first.1) _ (link, rest) b.onward in
    let same = some_same _ _ c.onward in
    let left : c.first.1 ≡ rest = λ i. (same i).1 in
    let bounds = ap (λ (pair : Link × List (List ℕ)). is_layout pair.0.layout) same ∙ layout in
    let most = (both_true (nat_le 48 a.first.0) (nat_le a.first.0 2048) bounds).1 in
    let small : a.first.0 ≤ 2048 = grind (arith, nat_tests) in
    let one = capped_cost 65535 words a.first.1 a.first.0 (omega arith) a.is (omega (arith, small)) in
    let two = choice_cost (codes "fecf") (codes "nofecf") a.first.1 b.first.1 b.first.0 (omega arith) (omega arith)
    b.is in
    let three = mask_cost usual_tm c.first.0 b.first.1 c.first.1 (omega arith) c.is in
    omega (arith, one, two, three, ap cost left)

aos_cost : (words rest : List (List ℕ)) (link : Link) → aos_at words ≡ Some (link, rest) → is_layout link.layout ≡ true
    → cost words ≤ 90 + cost rest
unfolding aos_at
aos_cost words rest link e layout =
    let a = got (capped_at 65535 words) _ (link, rest) e in
    let i = got (capped_at 255 a.first.1) _ (link, rest) a.onward in
    let o = got (choice_at (codes "ocf") (codes "noocf") i.first.1) _ (link, rest) i.onward in
    let b = got (choice_at (codes "fecf") (codes "nofecf") o.first.1) _ (link, rest) o.onward in
    let c = got (mask_at usual_aos b.first.1) _ (link, rest) b.onward in
    let same = some_same _ _ c.onward in
    let left : c.first.1 ≡ rest = λ j. (same j).1 in
    let bounds = ap (λ (pair : Link × List (List ℕ)). is_layout pair.0.layout) same ∙ layout in
    let first = both_true (nat_le i.first.0 64) (nat_le (48 + i.first.0) a.first.0 && nat_le a.first.0 2048) bounds in
    let least = first.0 in
    let most = (both_true (nat_le (48 + i.first.0) a.first.0) (nat_le a.first.0 2048) first.1).1 in
    let small : a.first.0 ≤ 2048 = grind (arith, nat_tests) in
    let low : i.first.0 ≤ 64 = grind (arith, nat_tests) in
    let one = capped_cost 65535 words a.first.1 a.first.0 (omega arith) a.is (omega (arith, small)) in
    let insert = capped_cost 255 a.first.1 i.first.1 i.first.0 (omega arith) i.is (omega (arith, low)) in
    let ocf = choice_cost (codes "ocf") (codes "noocf") i.first.1 o.first.1 o.first.0 (omega arith) (omega arith)
    o.is in
    let two = choice_cost (codes "fecf") (codes "nofecf") o.first.1 b.first.1 b.first.0 (omega arith) (omega arith)
    b.is in
    let three = mask_cost usual_aos c.first.0 b.first.1 c.first.1 (omega arith) c.is in
    omega (arith, one, insert, ocf, two, three, ap cost left)

frame_cost : (kind : List ℕ) (words rest : List (List ℕ)) (link : Link) → frame_of kind words ≡ Some (link, rest)
    → is_layout link.layout ≡ true
    → (cost words ≤ 90 + cost rest) × (length kind ≤ 3)
frame_cost kind words rest link e layout = elim (is_word kind (codes "tc")) [
  | inl same ↦ (let own = subst (λ (k : List ℕ). frame_of k words ≡ Some (link, rest)) same e in
      (omega (arith, tc_cost words rest link own), omega (arith, ap length same)))
  | inr no_tc ↦ elim (is_word kind (codes "tm")) [
    | inl same ↦ (let own = subst (λ (k : List ℕ). frame_of k words ≡ Some (link, rest)) same e in
        (omega (arith, tm_cost words rest link own layout), omega (arith, ap length same)))
    | inr no_tm ↦ elim (is_word kind (codes "aos")) [
      | inl same ↦ (let own = subst (λ (k : List ℕ). frame_of k words ≡ Some (link, rest)) same e in
          (aos_cost words rest link own layout, omega (arith, ap length same)))
      | inr no_aos ↦ (let none = rw (no_tc, no_tm, no_aos) at e in absurd cc)
    ]
  ]
]

link_at_cost : (words rest : List (List ℕ)) (link : Link) → frame_at words ≡ Some (link, rest)
    → is_layout link.layout ≡ true → cost words ≤ 94 + cost rest
unfolding frame_at
link_at_cost [] rest link e layout = absurd cc
link_at_cost (kind ∷ words) rest link e layout =
    let both = frame_cost kind words rest link e layout in
    omega (arith, both.0, both.1)

pub link_cost : (words : List (List ℕ)) (said : ℕ × Link) → link_said words ≡ Some said → said.0 ≤ 15
    → is_layout said.1.layout ≡ true → cost words ≤ 115
unfolding link_said
link_cost words said e low layout =
    let a = got (capped_at 255 words) _ said e in
    let b = got (frame_at a.first.1) _ said a.onward in
    let c = got (end_of b.first.1) _ said b.onward in
    let same = some_same _ _ c.onward in
    let number : a.first.0 ≡ said.0 = λ i. (same i).0 in
    let bounds = ap (λ (pair : ℕ × Link). is_layout pair.1.layout) same ∙ layout in
    let one = capped_cost 255 words a.first.1 a.first.0 (omega arith) a.is (omega (arith, number, low)) in
    let two = link_at_cost a.first.1 b.first.1 b.first.0 b.is bounds in
    omega (arith, one, two, end_cost b.first.1 c.first c.is)

-- ---- channels

-- an access point that is no greater than a link allows
abbrev pub IsSmall : Option ℕ → Type 0
IsSmall None = Unit {0}
IsSmall (Some n) = n ≤ 63

optional_short : (word : List ℕ) (map : Option ℕ) → optional word ≡ Some map → IsSmall map → length word ≤ 20
optional_short word map e small = elim (is_word word (codes "-")) [
  | inl same ↦ omega (arith, ap length same)
  | inr other ↦ (
      let spelled = rw other at e in
      let g = got (number_of word) (λ n. Some (Some (min n 255))) map spelled in
      let low = subst IsSmall (sym (some_same (Some (min g.first 255)) map g.onward)) small in
      number_short word g.first g.is (omega (arith, low))
      )
]

optional_cost : (words rest : List (List ℕ)) (map : Option ℕ) → optional_at words ≡ Some (map, rest) → IsSmall map
    → cost words ≤ 21 + cost rest
unfolding optional_at
optional_cost words rest map e small =
    let w = one_word optional words map rest e in
    word_cost words rest w.word 20 w.is (optional_short w.word map w.read small)

pub record IsSmallPlace (number : ℕ) (place : ChannelPlace) : Type 0 where
  pub number_small : number ≤ 63
  pub link : place.link ≤ 15
  pub spacecraft : place.spacecraft ≤ 1023
  pub channel : place.channel ≤ 63
  pub map : IsSmall place.map

pub channel_cost : (words : List (List ℕ)) (said : ℕ × ChannelPlace) → channel_said words ≡ Some said
    → IsSmallPlace said.0 said.1 → cost words ≤ 105
unfolding channel_said
channel_cost words said e small =
    let a = got (capped_at 255 words) _ said e in
    let b = got (capped_at 255 a.first.1) _ said a.onward in
    let c = got (capped_at 65535 b.first.1) _ said b.onward in
    let d = got (capped_at 255 c.first.1) _ said c.onward in
    let m = got (optional_at d.first.1) _ said d.onward in
    let z = got (end_of m.first.1) _ said m.onward in
    let own = subst (λ (pair : ℕ × ChannelPlace). IsSmallPlace pair.0 pair.1) (sym (some_same _ _ z.onward)) small in
    let one = capped_cost 255 words a.first.1 a.first.0 (omega arith) a.is (omega (arith, own.number_small)) in
    let two = capped_cost 255 a.first.1 b.first.1 b.first.0 (omega arith) b.is (omega (arith, own.link)) in
    let three = capped_cost 65535 b.first.1 c.first.1 c.first.0 (omega arith) c.is (omega (arith, own.spacecraft)) in
    let four = capped_cost 255 c.first.1 d.first.1 d.first.0 (omega arith) d.is (omega (arith, own.channel)) in
    let five = optional_cost d.first.1 m.first.1 m.first.0 m.is own.map in
    omega (arith, one, two, three, four, five, end_cost m.first.1 z.first z.is)

-- ---- the first five lines

pub version_cost : (words : List (List ℕ)) (u : Unit {0}) → version_said words ≡ Some u → cost words ≤ 2
unfolding past
version_cost [] u e = absurd cc
version_cost (word ∷ words) u e = elim (is_word word (49 ∷ [])) [
  | inl same ↦ (let rest = rw same at e in omega (arith, ap length same, end_cost words u rest))
  | inr other ↦ (let none = rw other at e in absurd cc)
]

pub device_cost : (words : List (List ℕ)) (device : List ℕ) → device_said words ≡ Some device → cost words ≤ 10
device_cost [] device e = absurd cc
device_cost (word ∷ words) device e =
    let a = got (decoded 4 word) _ device e in
    let b = got (end_of words) _ device a.onward in
    omega (arith, decoded_short 4 word a.first a.is, end_cost words b.first b.is)

pub number_cost : (words : List (List ℕ)) (n : ℕ) → number_said words ≡ Some n → n ≤ 65536 → cost words ≤ 21
number_cost words n e small =
    let a = got (decimal_at words) _ n e in
    let b = got (end_of a.first.1) _ n a.onward in
    let same = some_same _ _ b.onward in
    omega (
      arith,
      decimal_cost words a.first.1 a.first.0 a.is (omega (arith, same, small)),
      end_cost a.first.1 b.first b.is,
    )
