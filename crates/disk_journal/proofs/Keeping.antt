-- What a change in one bank, or in a part of it, keeps.
use Rattle.std.proofs.Common.{◌≡◌, ◌≢◌, ℕ, ◌+◌, ◌-◌, ◌*◌, ◌^◌, ◌<◌, ◌≤◌, ◌⊎◌, ◌==◌, ◌||◌, ◌&&◌, ◌∷◌, ◌∙◌, not, nat_lt}
use Rattle.std.proofs.Common.{Bool, false, List, [], length, get_or, take, drop, None, refl, sym, ap, subst, inl, inr}
use Rattle.std.proofs.Common.{arith, append-nil}
use Rattle.disk_journal.proofs.Stands.{HasFront, Stands, apart, behind}
use Rattle.disk_journal.specs.Banks.{bank_at, bank_length, slot_body, bank_content, slot_gate, bank_generation}
use Rattle.disk_journal.specs.Banks.{head_length, image_end, layout_of, next, other, slot_at, zeros_at_of}
use Rattle.disk_journal.specs.Header.{form_in, has_magic, header_of, plan_length_in, slot_count_in}
use Rattle.disk_journal.specs.Changes.{IsZero, KeepsBeside, filled}
use Rattle.disk_journal.specs.Fault.{header_checks}
use Rattle.disk_journal.specs.Image.{image_layout, plan_of}
use Rattle.disk_journal.specs.declared.layout.Bank.{Bank}
use Rattle.disk_journal.specs.declared.layout.Bank.TheVariants.{First, Second}
use Rattle.disk_journal.specs.declared.layout.Layout.{Layout}
use Rattle.disk_journal.specs.declared.layout.TheConstants.{CONTENT_AT, GENERATION_AT, GENERATION_LENGTH, MAGIC_ONE}
use Rattle.disk_journal.specs.declared.layout.TheConstants.{MAGIC_TWO, CLOSED, HEADER_LENGTH, LEAST_SLOTS, MAGIC_AT}
use Rattle.disk_journal.specs.declared.layout.TheConstants.{MOST_SLOTS, OPEN, PLAN_LENGTH_AT, PLAN_ROOM, SLOT_COUNT_AT}
use Rattle.byteorder.specs.Endian.{big_bytes, big_number}
use Rattle.byteorder.specs.Numbers.{big_number-reads_back}
use Rattle.disk_journal.proofs.Failing.{all_passed}
use Rattle.disk_journal.proofs.Gating.{records_stay}
use Rattle.disk_journal.proofs.Ranges.{all_but_same, all_but_then, all_but_wider, overwritten_but, overwritten_length}
use Rattle.disk_journal.proofs.Ranges.{overwritten_stretch, same_front, same_stretch}
use Rattle.disk_journal.specs.Moments.{AllBut}
use Rattle.sdls_base.specs.FirstFailing.{first_failing}
use Rattle.sdls_base.specs.declared.TheConstants.{BODY_LENGTH}
use Rattle.sdls_outside.specs.Site.{overwritten}
use Rattle.std.proofs.lemmas.Bool.Decides.{nat_tests}
use Rattle.std.specs.List.{list_any}

-- the numbers of a header that passes
pub record Bounds (header : List ℕ) (image_length : ℕ) : Type 0 where
  pub plan : plan_length_in header ≤ PLAN_ROOM
  pub most : slot_count_in header ≤ MOST_SLOTS
  pub long : image_end (layout_of (form_in header) (slot_count_in header)) ≤ image_length

bounds_of : (header : List ℕ) (image_length plan slots end : ℕ) → plan ≡ plan_length_in header
    → slots ≡ slot_count_in header
    → end ≡ image_end (layout_of (form_in header) (slot_count_in header))
    → nat_lt PLAN_ROOM plan ≡ false → (nat_lt slots LEAST_SLOTS || nat_lt MOST_SLOTS slots) ≡ false
    → nat_lt image_length end ≡ false → Bounds header image_length
bounds_of header image_length plan slots end plan_is slots_is end_is plan_fits slots_fit long =
    let room : plan ≤ PLAN_ROOM = grind (arith, nat_tests) in
    let most : slots ≤ MOST_SLOTS = grind (arith, nat_tests) in
    let whole : end ≤ image_length = grind (arith, nat_tests) in
    record {
      plan = subst (λ (n : ℕ). n ≤ PLAN_ROOM) plan_is room;
      most = subst (λ (n : ℕ). n ≤ MOST_SLOTS) slots_is most;
      long = subst (λ (n : ℕ). n ≤ image_length) end_is whole;
    }

-- each check of a header passes
pub record AllPass (header : List ℕ) (image_length : ℕ) : Type 0 where
  pub gate : not (get_or header 0 0 == OPEN) ≡ false
  pub magic : (not (has_magic MAGIC_ONE header) && not (has_magic MAGIC_TWO header)) ≡ false
  pub plan : nat_lt PLAN_ROOM (plan_length_in header) ≡ false
  pub slots : (nat_lt (slot_count_in header) LEAST_SLOTS || nat_lt MOST_SLOTS (slot_count_in header)) ≡ false
  pub long : nat_lt image_length (image_end (layout_of (form_in header) (slot_count_in header))) ≡ false
  pub rest : list_any (λ octet. not (octet == 0)) (drop (zeros_at_of (form_in header)) header) ≡ false

six_passed : (a b c d e f : Bool) (h i j k l m : ℕ)
    → first_failing ((a, h) ∷ (b, i) ∷ (c, j) ∷ (d, k) ∷ (e, l) ∷ (f, m) ∷ []) ≡ None
    → (a ≡ false) × (b ≡ false) × (c ≡ false) × (d ≡ false) × (e ≡ false) × (f ≡ false)
six_passed a b c d e f h i j k l m none =
    let first = all_passed a h ((b, i) ∷ (c, j) ∷ (d, k) ∷ (e, l) ∷ (f, m) ∷ []) none in
    let second = all_passed b i ((c, j) ∷ (d, k) ∷ (e, l) ∷ (f, m) ∷ []) first.others in
    let third = all_passed c j ((d, k) ∷ (e, l) ∷ (f, m) ∷ []) second.others in
    let fourth = all_passed d k ((e, l) ∷ (f, m) ∷ []) third.others in
    let fifth = all_passed e l ((f, m) ∷ []) fourth.others in
    let sixth = all_passed f m [] fifth.others in
    (first.first, second.first, third.first, fourth.first, fifth.first, sixth.first)

all_six : (a b c d e f : Bool) (h i j k l m : ℕ) → a ≡ false → b ≡ false → c ≡ false → d ≡ false → e ≡ false → f ≡ false
    → first_failing ((a, h) ∷ (b, i) ∷ (c, j) ∷ (d, k) ∷ (e, l) ∷ (f, m) ∷ []) ≡ None
all_six a b c d e f h i j k l m t u v w x y = rw t (rw u (rw v (rw w (rw x (rw y refl)))))

pub header_passes : (header : List ℕ) (image_length : ℕ) → AllPass header image_length
    → first_failing (header_checks header image_length) ≡ None
header_passes header image_length pass =
    all_six (not (get_or header 0 0 == OPEN)) (not (has_magic MAGIC_ONE header) && not (has_magic MAGIC_TWO header))
    (nat_lt PLAN_ROOM (plan_length_in header))
    (nat_lt (slot_count_in header) LEAST_SLOTS || nat_lt MOST_SLOTS (slot_count_in header))
    (nat_lt image_length (image_end (layout_of (form_in header) (slot_count_in header))))
    (list_any (λ octet. not (octet == 0)) (drop (zeros_at_of (form_in header)) header))
    0 MAGIC_AT PLAN_LENGTH_AT SLOT_COUNT_AT image_length (zeros_at_of (form_in header))
    pass.gate pass.magic pass.plan pass.slots pass.long pass.rest

pub header_passed : (header : List ℕ) (image_length : ℕ) → first_failing (header_checks header image_length) ≡ None
    → AllPass header image_length
header_passed header image_length none =
    let passed = six_passed (not (get_or header 0 0 == OPEN))
    (not (has_magic MAGIC_ONE header) && not (has_magic MAGIC_TWO header))
    (nat_lt PLAN_ROOM (plan_length_in header))
    (nat_lt (slot_count_in header) LEAST_SLOTS || nat_lt MOST_SLOTS (slot_count_in header))
    (nat_lt image_length (image_end (layout_of (form_in header) (slot_count_in header))))
    (list_any (λ octet. not (octet == 0)) (drop (zeros_at_of (form_in header)) header))
    0 MAGIC_AT PLAN_LENGTH_AT SLOT_COUNT_AT image_length (zeros_at_of (form_in header)) none in
    record { gate = passed.0; magic = passed.1; plan = passed.2; slots = passed.3; long = passed.4; rest = passed.5 }

pub header_bounds : (header : List ℕ) (image_length : ℕ) → first_failing (header_checks header image_length) ≡ None
    → Bounds header image_length
header_bounds header image_length none =
    let pass = header_passed header image_length none in
    bounds_of header image_length (plan_length_in header) (slot_count_in header)
    (image_end (layout_of (form_in header) (slot_count_in header))) refl refl refl pass.plan pass.slots pass.long

pub front_bounds : (image : List ℕ) (layout : Layout) → HasFront image layout → image_end layout ≤ length image
unfolding image_layout
front_bounds image layout front =
    subst (λ (one : Layout). image_end one ≤ length image) front.same_layout
    (header_bounds (header_of image) (length image) front.header).long

-- the front stays
pub front_kept : (at count : ℕ) (layout : Layout) (old new : List ℕ) → AllBut at count old new
    → HEADER_LENGTH + PLAN_ROOM ≤ at → HasFront old layout → HasFront new layout
unfolding image_layout
front_kept at count layout old new change behind front =
    let same : header_of new ≡ header_of old = same_front at count HEADER_LENGTH old new change (omega arith) in
    record {
      whole = subst (λ (n : ℕ). HEADER_LENGTH ≤ n) (sym change.same_length) front.whole;
      header = ap (λ (header : List ℕ). first_failing (header_checks header (length new))) same
          ∙ ap (λ (size : ℕ). first_failing (header_checks (header_of old) size)) change.same_length ∙ front.header;
      same_layout = ap (λ (header : List ℕ). layout_of (form_in header) (slot_count_in header)) same
          ∙ front.same_layout;
      behind_plan = front.behind_plan;
    }

pub plan_kept : (at count : ℕ) (layout : Layout) (old new : List ℕ) → AllBut at count old new
    → HEADER_LENGTH + PLAN_ROOM ≤ at → HasFront old layout → plan_of new ≡ plan_of old
unfolding plan_of
plan_kept at count layout old new change behind front =
    let room : plan_length_in (header_of old) ≤ PLAN_ROOM =
    (header_bounds (header_of old) (length old) front.header).plan in
    ap (λ (header : List ℕ). take (plan_length_in header) (drop HEADER_LENGTH new))
    (same_front at count HEADER_LENGTH old new change (omega arith))
    ∙ same_stretch at count HEADER_LENGTH (plan_length_in (header_of old)) old new change (inl (omega arith))

-- a bank stays, past its gate
pub record SameBank (bank : ℕ) (layout : Layout) (old new : List ℕ) : Type 0 where
  pub generation : bank_generation new bank ≡ bank_generation old bank
  pub content : bank_content layout new bank ≡ bank_content layout old bank
  pub gates : (k : ℕ) → k < layout.slots → slot_gate layout new bank k ≡ slot_gate layout old bank k
  pub bodies : (k : ℕ) → k < layout.slots → slot_body layout new bank k ≡ slot_body layout old bank k

pub bank_kept : (at count bank : ℕ) (layout : Layout) (old new : List ℕ) → AllBut at count old new
    → (bank + bank_length layout ≤ at) ⊎ (at + count ≤ bank + 1) → SameBank bank layout old new
bank_kept at count bank layout old new change apart = record {
  generation = ap (big_number GENERATION_LENGTH)
      (same_stretch at count (bank + GENERATION_AT) GENERATION_LENGTH old new change
      (elim apart [ inl before ↦ inl (omega arith) | inr after ↦ inr (omega arith) ]));
  content = same_stretch at count (bank + CONTENT_AT) layout.content_length old new change
      (elim apart [ inl before ↦ inl (omega arith) | inr after ↦ inr (omega arith) ]);
  gates = λ k below. change.outside (slot_at layout bank k)
      (elim apart [ inl before ↦ inl (omega arith) | inr after ↦ inr (omega arith) ]);
  bodies = λ k below. same_stretch at count (slot_at layout bank k + 1) BODY_LENGTH old new change
      (elim apart [ inl before ↦ inl (omega arith) | inr after ↦ inr (omega arith) ]);
}

-- a bank that stays current
pub stands_same : (old new : List ℕ) (layout : Layout) (bank : Bank) (bodies : List (List ℕ))
    → Stands old layout bank bodies → HasFront new layout
    → SameBank (bank_at layout bank) layout old new → get_or new (bank_at layout bank) 0 ≡ OPEN
    → get_or new (bank_at layout (other bank)) 0 ≢ OPEN → Stands new layout bank bodies
stands_same old new layout bank bodies stands front same here closed =
    let within : length bodies ≤ layout.slots = stands.are.within in
    record {
      front = front;
      newest = (here, inl closed);
      are = records_stay (slot_gate layout old (bank_at layout bank)) (slot_gate layout new (bank_at layout bank))
          (slot_body layout old (bank_at layout bank))
          (slot_body layout new (bank_at layout bank)) layout.slots bodies stands.are
          (record { gates = λ k below. same.gates k (omega arith); bodies = λ k below. same.bodies k (omega arith) })
          (λ room. subst (λ (gate : ℕ). gate ≢ OPEN) (sym (same.gates (length bodies) room)) (stands.are.closed room));
      quiet = λ k above below. same.gates k below ∙ stands.quiet k above below;
    }

-- what was written into a bank, and zero slots behind it
pub record Fresh (bank : ℕ) (layout : Layout) (generation : ℕ) (text image : List ℕ) : Type 0 where
  pub has_generation : take GENERATION_LENGTH
      (drop (bank + GENERATION_AT) image) ≡ big_bytes GENERATION_LENGTH generation
  pub has_content : bank_content layout image bank ≡ text
  pub zero : IsZero (bank + head_length layout) (bank + bank_length layout) image

pub fresh_kept : (at count bank : ℕ) (layout : Layout) (generation : ℕ) (text old new : List ℕ)
    → AllBut at count old new
    → (bank + bank_length layout ≤ at) ⊎ (at + count ≤ bank + 1) → Fresh bank layout generation text old
    → Fresh bank layout generation text new
fresh_kept at count bank layout generation text old new change apart fresh = record {
  has_generation = same_stretch at count (bank + GENERATION_AT) GENERATION_LENGTH old new change
      (elim apart [ inl before ↦ inl (omega arith) | inr after ↦ inr (omega arith) ]) ∙ fresh.has_generation;
  has_content = same_stretch at count (bank + CONTENT_AT) layout.content_length old new change
      (elim apart [ inl before ↦ inl (omega arith) | inr after ↦ inr (omega arith) ]) ∙ fresh.has_content;
  zero = λ i low high. change.outside i (elim apart [ inl before ↦ inl (omega arith) | inr after ↦ inr (omega arith) ])
      ∙ fresh.zero i low high;
}

pub fresh_generation : (bank : ℕ) (layout : Layout) (generation : ℕ) (text image : List ℕ)
    → Fresh bank layout generation text image → generation < 2 ^ 64
    → bank_generation image bank ≡ generation
fresh_generation bank layout generation text image fresh fits =
    ap (big_number GENERATION_LENGTH) (fresh.has_generation ∙ sym (append-nil (big_bytes GENERATION_LENGTH generation)))
    ∙ big_number-reads_back 8 generation [] (let low : generation < 256 ^ 8 = omega arith in low)

-- a fresh bank that is the current one has no records
pub stands_fresh : (image : List ℕ) (layout : Layout) (generation : ℕ) (bank : Bank) (text : List ℕ)
    → HasFront image layout
    → Fresh (bank_at layout bank) layout generation text image → get_or image (bank_at layout bank) 0 ≡ OPEN
    → (get_or image (bank_at layout (other bank)) 0 ≢ OPEN)
    ⊎ (bank_generation image (bank_at layout bank) ≡ next (bank_generation image (bank_at layout (other bank))))
    → Stands image layout bank []
stands_fresh image layout generation bank text front fresh here newest =
    let shut : (k : ℕ) → k < layout.slots → slot_gate layout image (bank_at layout bank) k ≡ CLOSED =
    λ k below. fresh.zero (slot_at layout (bank_at layout bank) k) (omega arith) (omega arith) in
    record {
      front = front;
      newest = (here, newest);
      are = record {
        within = omega arith;
        opened = λ k below. absurd (omega arith);
        are = λ k below. absurd (omega arith);
        closed = λ room open_now. let closed = shut 0 room in absurd (omega (arith, closed, open_now));
      };
      quiet = λ k above below. shut k below;
    }

-- what filling a bank writes
pub record Filling (bank : ℕ) (layout : Layout) (generation : ℕ) (text old new : List ℕ) : Type 0 where
  pub change : AllBut (bank + 1) (head_length layout - 1) old new
  pub fresh : Fresh bank layout generation text new

generation_size : (generation : ℕ) → length (big_bytes GENERATION_LENGTH generation) ≡ GENERATION_LENGTH
generation_size generation = refl

pub filling : (bank : ℕ) (layout : Layout) (generation : ℕ) (text old : List ℕ) → length text ≡ layout.content_length
    → bank + bank_length layout ≤ length old
    → IsZero (bank + head_length layout) (bank + bank_length layout) old → Filling bank layout generation text old
    (filled bank generation text old)
filling bank layout generation text old sized within empty =
    let octets = big_bytes GENERATION_LENGTH generation in
    let size : length octets ≡ GENERATION_LENGTH = generation_size generation in
    let mid = overwritten old (bank + GENERATION_AT) octets in
    let new = overwritten mid (bank + CONTENT_AT) text in
    let first_fits : bank + GENERATION_AT + length octets ≤ length old = omega arith in
    let same : length mid ≡ length old = overwritten_length old (bank + GENERATION_AT) octets first_fits in
    let then_fits : bank + CONTENT_AT + length text ≤ length mid = omega arith in
    let first : AllBut (bank + GENERATION_AT) (length octets) old mid = overwritten_but old
    (bank + GENERATION_AT) octets first_fits in
    let second : AllBut (bank + CONTENT_AT) (length text) mid new = overwritten_but mid
    (bank + CONTENT_AT) text then_fits in
    let change : AllBut (bank + 1) (head_length layout - 1) old new =
    all_but_then (bank + 1) (head_length layout - 1) old mid new
    (all_but_wider (bank + GENERATION_AT) (length octets) (bank + 1) (head_length layout - 1) old mid (omega arith)
    (omega arith) first)
    (all_but_wider (bank + CONTENT_AT) (length text) (bank + 1) (head_length layout - 1) mid new (omega arith)
    (omega arith) second) in
    record {
      change = change;
      fresh = record {
        has_generation = same_stretch (bank + CONTENT_AT) (length text)
            (bank + GENERATION_AT) GENERATION_LENGTH mid new second (inl (omega arith))
            ∙ subst (λ (n : ℕ). take n (drop (bank + GENERATION_AT) mid) ≡ octets) size
            (overwritten_stretch old (bank + GENERATION_AT) octets first_fits);
        has_content = subst (λ (n : ℕ). take n (drop (bank + CONTENT_AT) new) ≡ text) sized
            (overwritten_stretch mid (bank + CONTENT_AT) text then_fits);
        zero = λ i low high. change.outside i (inr (omega arith)) ∙ empty i low high;
      };
    }

-- what changes in a bank leaves what stands beside the banks
pub low_bank : (layout : Layout) (bank : Bank) → layout.banks ≤ bank_at layout bank
low_bank layout First = omega arith
low_bank layout Second = omega arith

high_bank : (layout : Layout) (bank : Bank)
    → bank_at layout bank + bank_length layout ≤ layout.banks + 2 * bank_length layout
high_bank layout First = omega arith
high_bank layout Second = omega arith

pub beside_of : (at count : ℕ) (layout : Layout) (bank : Bank) (old new : List ℕ) → AllBut at count old new
    → bank_at layout bank ≤ at
    → at + count ≤ bank_at layout bank + bank_length layout → KeepsBeside layout old new
beside_of at count layout bank old new change low high =
    let from = low_bank layout bank in
    let to = high_bank layout bank in
    all_but_wider at count layout.banks (2 * bank_length layout) old new (omega (arith, from, low))
    (omega (arith, to, high)) change

pub beside_then : (layout : Layout) (old mid new : List ℕ) → KeepsBeside layout old mid → KeepsBeside layout mid new
    → KeepsBeside layout old new
beside_then layout old mid new first second = all_but_then layout.banks
    (2 * bank_length layout) old mid new first second

pub beside_same : (layout : Layout) (image : List ℕ) → KeepsBeside layout image image
beside_same layout image = all_but_same layout.banks (2 * bank_length layout) image
