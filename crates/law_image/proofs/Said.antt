-- What the words of a line say lies in its bounds.
use Rattle.std.proofs.Common.{◌≡◌, ◌⊎◌, ℕ, ◌+◌, ◌^◌, ◌≤◌, Bool, true, false, nat_le, ◌&&◌, List, length, codes, Option}
use Rattle.std.proofs.Common.{Some, None, Result, Ok, Err, refl, sym, ◌∙◌, ap, subst, inl, inr, arith, if◌then◌else◌}
use Rattle.std.specs.Option.{option_map, option_or}
use Rattle.std.specs.Str.{bytes_eq}
use Rattle.std.proofs.lemmas.Bool.{and_parts, leb-true}
use Rattle.std.proofs.lemmas.Bool.Decides.{nat_tests}
use Rattle.std.proofs.lemmas.Option.{none-some, same_Some}
use Rattle.hex.proofs.HexLemmas.{decode_of-ok, decode_sized-ok, decode_sized-twice}
use Rattle.hex.specs.Hex.{decode_sized}
use Rattle.sdls_base.specs.Bounds.{IsKeyLength}
use Rattle.sdls_base.specs.declared.TheConstants.{MOST_WINDOW}
use Rattle.sdls_base.specs.declared.link.AnyLayout.{AnyLayout}
use Rattle.sdls_base.specs.declared.link.AnyLayout.TheVariants.{Tc, Tm, Aos}
use Rattle.sdls_base.specs.declared.link.Link.{Link}
use Rattle.sdls_base.specs.declared.link.Mask.{Mask}
use Rattle.sdls_base.specs.Link.{IsInBounds, usual_tc, usual_tm, usual_aos}
use Rattle.unit_plan.specs.declared.plan.PlanSa.{PlanSa}
use Rattle.unit_plan.specs.AssociationLine.{are_channel_ids}
use Rattle.unit_plan.specs.Field.{capped_at, choice_at, decoded}
use Rattle.unit_plan.specs.KeyLine.{before_octets, key_octets, key_said}
use Rattle.unit_plan.specs.LineForm.{association_of, bounded}
use Rattle.unit_plan.specs.LinkLine.{aos_at, frame_at, frame_of, is_layout, link_said, mask_at, mask_of, mask_said}
use Rattle.unit_plan.specs.LinkLine.{tc_at, tm_at}
use Rattle.unit_plan.specs.PlanRules.{IsAssociation}
use Rattle.unit_plan.specs.Reading.{◌>>=◌, end_of, first_of, ok_of}
use Rattle.unit_plan.proofs.ChannelIds.{channel_ids_iff}

-- a value behind another
behind : {A B : Type 0} (o : Option A) (f : A → Option B) (y : B) → (o >>= f) ≡ Some y
    → (x : A) × (o ≡ Some x) × (f x ≡ Some y)
behind (Some x) f y h = (x, refl, h)
behind None f y h = absurd (none-some y h)

carried : {A : Type 0} (x y : A) → Some x ≡ Some y → (P : A → Type 0) → P x → P y
carried x y h P holds = subst P (same_Some x y h) holds

chosen : {A : Type 0} (b : Bool) (o : Option A) (y : A) → (if b then o else None) ≡ Some y → (b ≡ true) × (o ≡ Some y)
chosen true o y h = (refl, h)
chosen false o y h = absurd (none-some y h)

pub bounded_within : (least most n x : ℕ) → bounded least most n ≡ Some x → (least ≤ x) × (x ≤ most)
bounded_within least most n x h =
    let both = chosen (nat_le least n && nat_le n most) (Some n) x h in
    let parts = and_parts (nat_le least n) (nat_le n most) both.0 in
    let same : n ≡ x = same_Some n x both.1 in (
      subst (λ (k : ℕ). least ≤ k) same (leb-true least n parts.0),
      subst (λ (k : ℕ). k ≤ most) same (leb-true n most parts.1),
    )

-- ---- keys

ok_is : {T E : Type 0} (r : Result T E) (x : T) → ok_of r ≡ Some x → r ≡ Ok x
ok_is (Ok y) x h = ap Ok (same_Some y x h)
ok_is (Err e) x h = absurd (none-some x h)

decoded_long : (count : ℕ) (word octets : List ℕ) → decoded count word ≡ Some octets → length octets ≡ count
decoded_long count word octets h =
    let is = ok_is (decode_sized word count) octets h in
    let twice = decode_sized-ok word count octets is in
    let all = decode_of-ok word octets (sym (decode_sized-twice word count twice) ∙ is) in
    let half = all.2 in omega arith

either_is : {A : Type 0} (o p : Option A) (x : A) → option_or o p ≡ Some x → (o ≡ Some x) ⊎ (p ≡ Some x)
either_is (Some y) p x h = inl h
either_is None p x h = inr h

octets_long : (word octets : List ℕ) → key_octets word ≡ Some octets → IsKeyLength (length octets)
octets_long word octets h = elim (either_is (decoded 16 word) (decoded 32 word) octets h) [
  | inl short ↦ inl (decoded_long 16 word octets short)
  | inr long ↦ inr (decoded_long 32 word octets long)
]

pub key_long : (words : List (List ℕ)) (said : _) → key_said words ≡ Some said → IsKeyLength (length said.octets)
unfolding key_said
key_long words said h =
    let before = behind (before_octets words) _ said h in
    let octets = behind (key_octets before.0.2) _ said before.2 in
    carried _ said octets.2 (λ line. IsKeyLength (length line.octets)) (octets_long before.0.2 octets.0 octets.1)

-- ---- links

usual_low : (segment : Bool) → (usual_tc segment).length ≤ 6
usual_low true = omega arith
usual_low false = omega arith

said_low : (usual : Mask) (word : List ℕ) (mask : Mask) → usual.length ≤ 6 → mask_said usual word ≡ Some mask
    → mask.length ≤ 6
said_low usual word mask low h = go (bytes_eq word (codes "-")) (decoded usual.length word) h
  where
    go : (b : Bool) (o : Option (List ℕ)) → (if b then Some usual else option_map (mask_of usual.length) o) ≡ Some mask
        → mask.length ≤ 6
    go true o h = subst (λ (m : Mask). m.length ≤ 6) (same_Some usual mask h) low
    go false None h = absurd (none-some mask h)
    go false (Some octets) h = subst (λ (m : Mask). m.length ≤ 6) (same_Some (mask_of usual.length octets) mask h) low

mask_low : (usual : Mask) (words : List (List ℕ)) (read : Mask × List (List ℕ)) → usual.length ≤ 6
    → mask_at usual words ≡ Some read → read.0.length ≤ 6
unfolding mask_at
mask_low usual words read low h =
    let word = behind (first_of words) _ read h in
    let mask = behind (mask_said usual word.0.0) _ read word.2 in
    subst (λ (r : Mask × List (List ℕ)). r.0.length ≤ 6) (same_Some _ read mask.2)
    (said_low usual word.0.0 mask.0 low mask.1)

-- a link has the mask that was read
with_mask : (layout : AnyLayout) (mask : Mask × List (List ℕ)) (read : Link × List (List ℕ))
    → ◌≡◌ {A = Option (Link × List (List ℕ))} (Some (record { layout = layout; mask = mask.0 }, mask.1)) (Some read)
    → mask.0.length ≤ 6 → read.0.mask.length ≤ 6
with_mask layout mask read h low = carried _ read h (λ (r : Link × List (List ℕ)). r.0.mask.length ≤ 6) low

tc_low : (words : List (List ℕ)) (read : Link × List (List ℕ)) → tc_at words ≡ Some read → read.0.mask.length ≤ 6
unfolding tc_at
tc_low words read h =
    let segment = behind (choice_at (codes "seg") (codes "noseg") words) _ read h in
    let fecf = behind (choice_at (codes "fecf") (codes "nofecf") segment.0.1) _ read segment.2 in
    let mask = behind (mask_at (usual_tc segment.0.0) fecf.0.1) _ read fecf.2 in
    with_mask _ mask.0 read mask.2 (mask_low (usual_tc segment.0.0) fecf.0.1 mask.0 (usual_low segment.0.0) mask.1)

tm_low : (words : List (List ℕ)) (read : Link × List (List ℕ)) → tm_at words ≡ Some read → read.0.mask.length ≤ 6
unfolding tm_at
tm_low words read h =
    let size = behind (capped_at 65535 words) _ read h in
    let fecf = behind (choice_at (codes "fecf") (codes "nofecf") size.0.1) _ read size.2 in
    let mask = behind (mask_at usual_tm fecf.0.1) _ read fecf.2 in
    with_mask _ mask.0 read mask.2 (mask_low usual_tm fecf.0.1 mask.0 (omega arith) mask.1)

aos_low : (words : List (List ℕ)) (read : Link × List (List ℕ)) → aos_at words ≡ Some read → read.0.mask.length ≤ 6
unfolding aos_at
aos_low words read h =
    let size = behind (capped_at 65535 words) _ read h in
    let insert = behind (capped_at 255 size.0.1) _ read size.2 in
    let ocf = behind (choice_at (codes "ocf") (codes "noocf") insert.0.1) _ read insert.2 in
    let fecf = behind (choice_at (codes "fecf") (codes "nofecf") ocf.0.1) _ read ocf.2 in
    let mask = behind (mask_at usual_aos fecf.0.1) _ read fecf.2 in
    with_mask _ mask.0 read mask.2 (mask_low usual_aos fecf.0.1 mask.0 (omega arith) mask.1)

frame_of_low : (kind : List ℕ) (words : List (List ℕ)) (read : Link × List (List ℕ)) → frame_of kind words ≡ Some read
    → read.0.mask.length ≤ 6
frame_of_low kind words read h =
    go (bytes_eq kind (codes "tc")) (bytes_eq kind (codes "tm")) (bytes_eq kind (codes "aos")) h
  where
    go : (tc tm aos : Bool)
        → (if tc then tc_at words else (if tm then tm_at words else (if aos then aos_at words else None))) ≡ Some read
        → read.0.mask.length ≤ 6
    go true tm aos h = tc_low words read h
    go false true aos h = tm_low words read h
    go false false true h = aos_low words read h
    go false false false h = absurd (none-some read h)

frame_low : (words : List (List ℕ)) (read : Link × List (List ℕ)) → frame_at words ≡ Some read → read.0.mask.length ≤ 6
unfolding frame_at
frame_low words read h =
    let kind = behind (first_of words) _ read h in frame_of_low kind.0.0 kind.0.1 read kind.2

pub link_low : (words : List (List ℕ)) (said : ℕ × Link) → link_said words ≡ Some said → said.1.mask.length ≤ 6
unfolding link_said
link_low words said h =
    let number = behind (capped_at 255 words) _ said h in
    let link = behind (frame_at number.0.1) _ said number.2 in
    let ended = behind (end_of link.0.1) _ said link.2 in
    subst (λ (s : ℕ × Link). s.1.mask.length ≤ 6) (same_Some _ said ended.2) (frame_low number.0.1 link.0 link.1)

pub layout_within : (layout : AnyLayout) → is_layout layout ≡ true → IsInBounds layout
layout_within (Tc layout) h = grind (arith, nat_tests)
layout_within (Tm layout) h =
    let parts = and_parts (nat_le 48 layout.length) (nat_le layout.length 2048) h in
    (leb-true 48 layout.length parts.0, leb-true layout.length 2048 parts.1)
layout_within (Aos layout) h =
    let parts =
    and_parts (nat_le layout.insert 64) (nat_le (48 + layout.insert) layout.length && nat_le layout.length 2048)
    h in
    let sizes = and_parts (nat_le (48 + layout.insert) layout.length) (nat_le layout.length 2048) parts.1 in (
      leb-true layout.insert 64 parts.0,
      leb-true (48 + layout.insert) layout.length sizes.0,
      leb-true layout.length 2048 sizes.1,
    )

-- ---- associations

pub association_within : (line : ℕ) (said : _) (found : PlanSa) → association_of line said ≡ Some found
    → IsAssociation found
unfolding association_of
association_within line said found h =
    let spi = behind (bounded 1 65534 said.before.spi) _ found h in
    let key = behind (bounded 1 65535 said.before.key) _ found spi.2 in
    let first = behind (bounded 0 (2 ^ 48) said.before.number) _ found key.2 in
    let window = behind (bounded 1 MOST_WINDOW said.before.window) _ found first.2 in
    let channels = chosen (are_channel_ids said.channels) _ found window.2 in
    let bounds = (channel_ids_iff said.channels).0 channels.0 in
    let number = bounded_within 0 (2 ^ 48) said.before.number first.0 first.1 in
    let width = bounded_within 1 MOST_WINDOW said.before.window window.0 window.1 in
    subst IsAssociation (same_Some _ found channels.1) (record {
      number = number.1;
      window = record { least = width.0; most = width.1 };
      channels = bounds.0;
      identifiers = bounds.1;
    })
