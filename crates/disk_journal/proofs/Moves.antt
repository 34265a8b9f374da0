-- An image of version 1 that is migrated: what a crash leaves.
use Rattle.std.proofs.Common.{◌≡◌, ◌≢◌, ℕ, ◌+◌, ◌-◌, ◌<◌, ◌≤◌, ◌∷◌, ◌∙◌, List, [], length, get_or, set, refl, sym, ap}
use Rattle.std.proofs.Common.{subst, inl, inr, arith}
use Rattle.disk_journal.proofs.Headers.{front_migrated, old_layout}
use Rattle.disk_journal.proofs.Keeping.{Fresh, SameBank, front_bounds, front_kept, plan_kept, stands_fresh}
use Rattle.disk_journal.proofs.Moving.{KeepsBanks, moved_alike, moved_bank, moved_gate, moved_plan, moved_stands}
use Rattle.disk_journal.proofs.Stands.{HasFront, Stands, closed_in, holds_of}
use Rattle.disk_journal.proofs.Turns.{Starts, after, before, rest_becomes, torn_becomes}
use Rattle.disk_journal.specs.Banks.{bank_at, bank_content, image_end, layout_of, other, slot_at}
use Rattle.disk_journal.specs.Changes.{HasNewBanks, IsLaidBehind, KeepsBelow, Migrates, with_migration}
use Rattle.disk_journal.specs.Forms.{Becomes, Holds}
use Rattle.disk_journal.specs.Image.{IsAtRest, IsClosedGate, plan_of}
use Rattle.disk_journal.specs.declared.layout.Bank.{Bank}
use Rattle.disk_journal.specs.declared.layout.Bank.TheVariants.{First, Second}
use Rattle.disk_journal.specs.declared.layout.HeaderForm.TheVariants.{Old, Migrated}
use Rattle.disk_journal.specs.declared.layout.Layout.{Layout}
use Rattle.disk_journal.specs.declared.layout.TheConstants.{BANKS_AT, CONTENT_AT, GENERATION_AT, GENERATION_LENGTH}
use Rattle.disk_journal.specs.declared.layout.TheConstants.{MIGRATED_AT, CLOSED, HEADER_LENGTH, OPEN}
use Rattle.disk_journal.proofs.Ranges.{all_but_then, overwritten_but, overwritten_one, same_stretch, set_but}
use Rattle.disk_journal.specs.Moments.{AllBut}
use Rattle.disk_journal.specs.Header.{header_of, slot_count_in}
use Rattle.std.proofs.lemmas.Bool.{cases_eq}
use Rattle.std.proofs.lemmas.List.{get_or-set_same}

-- an image at rest in which a migration begins
pub record Moves (old : List ℕ) (layout : Layout) (bank : Bank) (bodies : List (List ℕ)) : Type 0 where
  pub starts : Starts old layout bank bodies
  pub old_form : layout.form ≡ Old

-- the layout that the image is migrated to
abbrev pub migrated_layout : Layout → Layout
migrated_layout layout = layout_of Migrated layout.slots

-- where the banks of an image of version 1 end, the new ones begin
pub migrated_at : (old : List ℕ) (layout : Layout) (bank : Bank) (bodies : List (List ℕ)) → Moves old layout bank bodies
    → image_end layout ≡ (migrated_layout layout).banks
migrated_at old layout bank bodies moves =
    let is : layout ≡ layout_of Old
    (slot_count_in (header_of old)) = (old_layout old layout moves.starts.stands.front moves.old_form).1 in
    let count : layout.slots ≡ slot_count_in (header_of old) = ap (λ (one : Layout). one.slots) is in
    ap (λ (one : Layout). image_end one) is ∙ ap (λ (n : ℕ). (layout_of Migrated n).banks) (sym count)

-- what is kept of the old banks
keeps_laid : (old : List ℕ) (layout : Layout) (bank : Bank) (bodies : List (List ℕ)) (laid : List ℕ)
    → Moves old layout bank bodies
    → KeepsBelow (migrated_layout layout).banks old laid → KeepsBanks layout old laid
keeps_laid old layout bank bodies laid moves keeps =
    let at : image_end layout ≡ (migrated_layout layout).banks = migrated_at old layout bank bodies moves in
    record { no_shorter = keeps.no_shorter; same = λ i low away. keeps.below i (omega arith) }

keeps_octet : (layout : Layout) (old mid new : List ℕ) → KeepsBanks layout old mid → AllBut MIGRATED_AT 1 mid new
    → KeepsBanks layout old new
keeps_octet layout old mid new keeps change = record {
  no_shorter = subst (λ (n : ℕ). length old ≤ n) (sym change.same_length) keeps.no_shorter;
  same = λ i low away. change.outside i away ∙ keeps.same i low away;
}

-- the old banks are there, and the octet that migrates is not 1
pub record IsOld (old : List ℕ) (layout : Layout) (bank : Bank) (bodies : List (List ℕ)) (image : List ℕ) : Type 0 where
  pub whole : HEADER_LENGTH ≤ length image
  pub holds : Holds image (before old layout bank bodies)
  pub one : (at : ℕ) → IsClosedGate image at → at ≡ MIGRATED_AT

is_old : (old : List ℕ) (layout : Layout) (bank : Bank) (bodies : List (List ℕ)) (image : List ℕ)
    → Moves old layout bank bodies
    → KeepsBanks layout old image → get_or image MIGRATED_AT 0 ≢ OPEN → IsOld old layout bank bodies image
is_old old layout bank bodies image moves keeps other_octet =
    let front = moves.starts.stands.front in
    let at = bank_at layout bank in
    let stands : Stands image layout bank bodies =
    moved_stands old image layout bank bodies moves.starts.stands moves.old_form keeps other_octet in
    let same : SameBank at layout old image = moved_bank layout bank old image keeps
    (front_bounds old layout front) front.behind_plan in
    record {
      whole = stands.front.whole;
      holds = holds_of image layout bank bodies (plan_of old) (bank_content layout old at) stands
          (moved_plan layout old image front keeps) same.content;
      one = λ gate closed.
          let here = closed_in image layout bank bodies gate stands closed in
          elim here.1 [
            | inl slot ↦ absurd (here.0 (ap (λ (k : ℕ). get_or image k 0) slot.1 ∙ same.gates (length bodies) slot.0
                ∙ moves.starts.free slot.0))
            | inr others ↦ elim others [
              | inl spare ↦ absurd (here.0 (ap (λ (k : ℕ). get_or image k 0) spare ∙ moved_gate layout
                  (other bank) old image keeps front.behind_plan
                  ∙ moves.starts.spare (bank_at layout (other bank)) (omega arith) (omega arith)))
              | inr octet ↦ octet.1
            ]
          ];
    }

-- while the new banks are written
pub laying_becomes : (old : List ℕ) (layout : Layout) (bank : Bank) (bodies : List (List ℕ)) (text image : List ℕ)
    → Moves old layout bank bodies
    → KeepsBelow (migrated_layout layout).banks old image
    → Becomes (before old layout bank bodies) (after old (migrated_layout layout) text) image
laying_becomes old layout bank bodies text image moves keeps =
    let shut : get_or image MIGRATED_AT 0 ≡ CLOSED = keeps.below MIGRATED_AT (omega arith)
    ∙ moves.starts.still moves.old_form in
    let still = is_old old layout bank bodies image moves (keeps_laid old layout bank bodies image moves keeps)
    (λ open_now. absurd (omega (arith, shut, open_now))) in
    rest_becomes (before old layout bank bodies) (after old (migrated_layout layout) text) image (inl still.holds)
    (λ gate closed. closed.0 (ap (λ (k : ℕ). get_or image k 0) (still.one gate closed) ∙ shut))

-- the image is migrated
pub record IsMigrated (old : List ℕ) (layout : Layout) (generation : ℕ) (text image : List ℕ) : Type 0 where
  pub form : layout.form ≡ Migrated
  pub front : HasFront image layout
  pub plan : plan_of image ≡ plan_of old
  pub banks : HasNewBanks layout generation text image

pub migrated_fresh : (old : List ℕ) (layout : Layout) (generation : ℕ) (text image : List ℕ)
    → IsMigrated old layout generation text image
    → Fresh (bank_at layout First) layout generation text image
migrated_fresh old layout generation text image moved = record {
  has_generation = moved.banks.has_generation;
  has_content = moved.banks.has_content;
  zero = λ i low high. moved.banks.zero i low (omega arith);
}

pub migrated_stands : (old : List ℕ) (layout : Layout) (generation : ℕ) (text image : List ℕ)
    → IsMigrated old layout generation text image
    → Stands image layout First []
migrated_stands old layout generation text image moved =
    let beside : get_or image (bank_at layout Second) 0 ≡ CLOSED = moved.banks.zero (bank_at layout Second)
    (omega arith) (omega arith) in
    stands_fresh image layout generation First text moved.front
    (migrated_fresh old layout generation text image moved) moved.banks.gate
    (inl (λ open_now. absurd (omega (arith, beside, open_now))))

pub migrated_holds : (old : List ℕ) (layout : Layout) (generation : ℕ) (text image : List ℕ)
    → IsMigrated old layout generation text image
    → Holds image (after old layout text)
migrated_holds old layout generation text image moved =
    holds_of image layout First [] (plan_of old) text
    (migrated_stands old layout generation text image moved) moved.plan moved.banks.has_content

pub migrated_rests : (old : List ℕ) (layout : Layout) (generation : ℕ) (text image : List ℕ)
    → IsMigrated old layout generation text image → IsAtRest image
migrated_rests old layout generation text image moved gate closed =
    let here = closed_in image layout First [] gate (migrated_stands old layout generation text image moved) closed in
    elim here.1 [
      | inl slot ↦ here.0 (ap (λ (k : ℕ). get_or image k 0) slot.1
          ∙ moved.banks.zero (slot_at layout (bank_at layout First) 0) (omega arith)
          (let room : 0 < layout.slots = slot.0 in omega arith))
      | inr others ↦ elim others [
        | inl spare ↦ here.0 (ap (λ (k : ℕ). get_or image k 0) spare ∙ moved.banks.zero (bank_at layout Second)
            (omega arith) (omega arith))
        | inr octet ↦ absurd (let form : layout.form ≡ Migrated = moved.form in let was : layout.form ≡ Old =
            octet.0 in cc)
      ]
    ]

pub migrated_becomes : (old : List ℕ) (layout : Layout) (generation : ℕ) (bank : Bank) (bodies : List (List ℕ))
    (text image : List ℕ)
    → IsMigrated old (migrated_layout layout) generation text image
    → Becomes (before old layout bank bodies) (after old (migrated_layout layout) text) image
migrated_becomes old layout generation bank bodies text image moved =
    rest_becomes (before old layout bank bodies) (after old (migrated_layout layout) text) image
    (inr (migrated_holds old (migrated_layout layout) generation text image moved))
    (migrated_rests old (migrated_layout layout) generation text image moved)

-- once the octet is 1
pub is_migrated : (old : List ℕ) (layout : Layout) (generation : ℕ) (bank : Bank) (bodies : List (List ℕ))
    (text image : List ℕ)
    → Moves old layout bank bodies → KeepsBanks layout old image → get_or image MIGRATED_AT 0 ≡ OPEN
    → HasNewBanks (migrated_layout layout) generation text image → IsMigrated old
    (migrated_layout layout) generation text image
is_migrated old layout generation bank bodies text image moves keeps octet banks =
    let front = moves.starts.stands.front in
    record {
      form = refl;
      front = front_migrated old image layout front moves.old_form
          (moved_alike layout old image front keeps) banks.long octet;
      plan = moved_plan layout old image front keeps;
      banks = banks;
    }

-- what changes before the new banks leaves them
pub banks_kept : (at count : ℕ) (layout : Layout) (generation : ℕ) (text old new : List ℕ) → AllBut at count old new
    → at + count ≤ layout.banks
    → HasNewBanks layout generation text old → HasNewBanks layout generation text new
banks_kept at count layout generation text old new change below banks = record {
  long = subst (λ (n : ℕ). image_end layout ≤ n) (sym change.same_length) banks.long;
  gate = change.outside layout.banks (inr below) ∙ banks.gate;
  has_generation = same_stretch at count (layout.banks + GENERATION_AT) GENERATION_LENGTH old new change
      (inr (omega arith)) ∙ banks.has_generation;
  has_content = same_stretch at count (layout.banks + CONTENT_AT) layout.content_length old new change
      (inr (omega arith)) ∙ banks.has_content;
  zero = λ i low high. change.outside i (inr (omega arith)) ∙ banks.zero i low high;
}

-- with 1 as that octet
pub octet_migrated : (old : List ℕ) (layout : Layout) (generation : ℕ) (bank : Bank) (bodies : List (List ℕ))
    (text laid image : List ℕ)
    → Moves old layout bank bodies → IsLaidBehind (migrated_layout layout) generation text old laid
    → AllBut MIGRATED_AT 1 laid image
    → get_or image MIGRATED_AT 0 ≡ OPEN → IsMigrated old (migrated_layout layout) generation text image
octet_migrated old layout generation bank bodies text laid image moves is_laid change octet =
    is_migrated old layout generation bank bodies text image moves
    (keeps_octet layout old laid image (keeps_laid old layout bank bodies laid moves is_laid.keeps) change) octet
    (banks_kept MIGRATED_AT 1 (migrated_layout layout) generation text laid image change (omega arith) is_laid.banks)

-- with any octet there
pub octet_becomes : (old : List ℕ) (layout : Layout) (generation : ℕ) (bank : Bank) (bodies : List (List ℕ))
    (text laid image : List ℕ)
    → Moves old layout bank bodies → IsLaidBehind (migrated_layout layout) generation text old laid
    → AllBut MIGRATED_AT 1 laid image
    → Becomes (before old layout bank bodies) (after old (migrated_layout layout) text) image
octet_becomes old layout generation bank bodies text laid image moves is_laid change =
    let new_layout = migrated_layout layout in
    elim (cases_eq (get_or image MIGRATED_AT 0) OPEN) [
      | inl here ↦ migrated_becomes old layout generation bank bodies text image
          (octet_migrated old layout generation bank bodies text laid image moves is_laid change here)
      | inr shut ↦
          let still = is_old old layout bank bodies image moves
          (keeps_octet layout old laid image (keeps_laid old layout bank bodies laid moves is_laid.keeps) change) shut
          in
          let whole : HEADER_LENGTH ≤ length image = still.whole in
          torn_becomes MIGRATED_AT (before old layout bank bodies) (after old new_layout text) image
          (inl still.holds) still.one
          (λ torn.
          let form = set image MIGRATED_AT OPEN in
          let moved : IsMigrated old new_layout generation text form =
          octet_migrated old layout generation bank bodies text laid form moves is_laid
          (all_but_then MIGRATED_AT 1 laid image form change (set_but image MIGRATED_AT OPEN))
          (get_or-set_same image MIGRATED_AT OPEN 0 (omega arith)) in
          record {
            holds = migrated_holds old new_layout generation text form moved;
            open_gates = λ gate closed. absurd (migrated_rests old new_layout generation text form moved gate closed);
          })
    ]

-- while the old banks are zeroed
pub erasing_migrated : (old : List ℕ) (layout : Layout) (generation : ℕ) (bank : Bank) (bodies : List (List ℕ))
    (text laid image : List ℕ)
    → Moves old layout bank bodies → IsLaidBehind (migrated_layout layout) generation text old laid
    → AllBut BANKS_AT ((migrated_layout layout).banks - BANKS_AT) (with_migration laid) image → IsMigrated old
    (migrated_layout layout) generation text image
erasing_migrated old layout generation bank bodies text laid image moves is_laid change =
    let new_layout = migrated_layout layout in
    let count = new_layout.banks - BANKS_AT in
    let mid = with_migration laid in
    let long : image_end new_layout ≤ length laid = is_laid.banks.long in
    let made : IsMigrated old new_layout generation text mid =
    octet_migrated old layout generation bank bodies text laid mid moves is_laid
    (overwritten_but laid MIGRATED_AT (OPEN ∷ []) (omega arith))
    (overwritten_one laid MIGRATED_AT OPEN (omega arith)) in
    record {
      form = refl;
      front = front_kept BANKS_AT count new_layout mid image change (omega arith) made.front;
      plan = plan_kept BANKS_AT count new_layout mid image change (omega arith) made.front ∙ made.plan;
      banks = banks_kept BANKS_AT count new_layout generation text mid image change (omega arith) made.banks;
    }

-- each moment
pub moves_become : (old : List ℕ) (layout : Layout) (generation : ℕ) (bank : Bank) (bodies : List (List ℕ))
    (text image : List ℕ)
    → Moves old layout bank bodies → Migrates (migrated_layout layout) generation text old image
    → Becomes (before old layout bank bodies) (after old (migrated_layout layout) text) image
moves_become old layout generation bank bodies text image moves
    (inl keeps) = laying_becomes old layout bank bodies text image moves keeps
moves_become old layout generation bank bodies text image moves (inr (laid, is_laid, inl change)) =
    octet_becomes old layout generation bank bodies text laid image moves is_laid change
moves_become old layout generation bank bodies text image moves (inr (laid, is_laid, inr change)) =
    migrated_becomes old layout generation bank bodies text image
    (erasing_migrated old layout generation bank bodies text laid image moves is_laid change)
