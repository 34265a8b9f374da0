-- A whole migration.
use Rattle.std.proofs.Common.{◌≡◌, ℕ, ◌+◌, ◌-◌, ◌^◌, ◌<◌, ◌≤◌, ◌⊎◌, ◌∷◌, ◌∙◌, List, [], length, get_or, sym, ap, subst}
use Rattle.std.proofs.Common.{inl, inr, arith}
use Rattle.disk_journal.proofs.Ends.{fresh_view, starts_of}
use Rattle.disk_journal.proofs.Keeping.{front_bounds, fresh_generation}
use Rattle.disk_journal.proofs.Moves.{IsMigrated, Moves, erasing_migrated, migrated_at, migrated_fresh, migrated_holds}
use Rattle.disk_journal.proofs.Moves.{migrated_layout, migrated_rests, migrated_stands, moves_become}
use Rattle.disk_journal.proofs.Stands.{Stands, stands_at, stands_current, stands_opens, stands_records}
use Rattle.disk_journal.proofs.Turns.{after}
use Rattle.disk_journal.specs.Banks.{bank_at, bank_length, bank_generation, image_end, other}
use Rattle.disk_journal.specs.Changes.{IsErased, IsLaidBehind, IsZero, KeepsPast, Migrates, with_migration}
use Rattle.disk_journal.specs.Forms.{Becomes, Holds}
use Rattle.disk_journal.specs.Image.{current, held, image_layout, migrated, plan_of, records}
use Rattle.disk_journal.specs.Journal.{IsSettled, IsSettledImage, JournalView}
use Rattle.disk_journal.specs.Rest.{IsRest, IsRestIn}
use Rattle.disk_journal.specs.declared.layout.Bank.{Bank}
use Rattle.disk_journal.specs.declared.layout.Bank.TheVariants.{First, Second}
use Rattle.disk_journal.specs.declared.layout.HeaderForm.TheVariants.{Old}
use Rattle.disk_journal.specs.declared.layout.Layout.{Layout}
use Rattle.disk_journal.specs.declared.layout.TheConstants.{BANKS_AT, MIGRATED_AT, OPEN}
use Rattle.disk_journal.proofs.Moments.{image_weaker, synced_holds}
use Rattle.disk_journal.proofs.Ranges.{overwritten_but}
use Rattle.disk_journal.specs.Moments.{AllBut, EachImage}
use Rattle.sdls_outside.specs.Disk.{IsSynced, Leaves}
use Rattle.sdls_outside.specs.Moments.{Trace}

-- A journal at rest of an image of version 1: the plan and the layout that it has once it is migrated.
pub record IsMoving (image : List ℕ) (journal : JournalView) (plan_length : ℕ) (layout : Layout) : Type 0 where
  pub of_image : IsSettledImage image journal
  pub old_form : journal.layout.form ≡ Old
  pub plan : plan_length ≡ length (plan_of image)
  pub layout_is : layout ≡ migrated_layout (image_layout image)

pub is_moving : (image : List ℕ) (journal inside : JournalView) (layout : Layout) → inside ≡ journal
    → IsSettledImage image journal
    → journal.layout.form ≡ Old → layout ≡ migrated_layout inside.layout
    → IsMoving image journal inside.plan_length layout
is_moving image journal inside layout same settled old_is layout_is = record {
  of_image = settled;
  old_form = old_is;
  plan = ap (λ (view : JournalView). view.plan_length) same ∙ settled.closed.of_image.plan;
  layout_is = layout_is ∙ ap (λ (view : JournalView). migrated_layout view.layout) same
      ∙ ap migrated_layout settled.closed.of_image.layout;
}

moves_of : (image : List ℕ) (journal : JournalView) (plan_length : ℕ) (layout : Layout)
    → IsMoving image journal plan_length layout
    → Moves image (image_layout image) (current image) (records image)
moves_of image journal plan_length layout moving = record {
  starts = starts_of image journal moving.of_image;
  old_form = ap (λ (one : Layout). one.form) (sym moving.of_image.closed.of_image.layout) ∙ moving.old_form;
}

pub move_within : (image : List ℕ) (journal : JournalView) (plan_length : ℕ) (layout : Layout)
    → IsMoving image journal plan_length layout
    → layout.banks ≤ length image
move_within image journal plan_length layout moving =
    let moves = moves_of image journal plan_length layout moving in
    let long : image_end (image_layout image) ≤ length image = front_bounds image
    (image_layout image) moves.starts.stands.front in
    subst (λ (one : Layout). one.banks ≤ length image) (sym moving.layout_is)
    (subst (λ (n : ℕ). n ≤ length image)
    (migrated_at image (image_layout image) (current image) (records image) moves) long)

pub move_moments : (journal : JournalView) (plan_length generation : ℕ) (layout : Layout) (text : List ℕ)
    (old new : Trace)
    → IsMoving old.now.image journal plan_length layout → EachImage old new
    (Migrates layout generation text old.now.image)
    → EachImage old new (Becomes (held old.now.image) (migrated text (held old.now.image)))
move_moments journal plan_length generation layout text old new moving each =
    let image = old.now.image in
    image_weaker old new (Migrates layout generation text image) (Becomes (held image) (migrated text (held image)))
    (λ left migrates.
    moves_become image (image_layout image) generation (current image) (records image) text left
    (moves_of image journal plan_length layout moving)
    (subst (λ (one : Layout). Migrates one generation text image left) moving.layout_is migrates))
    each

-- the end
pub record HasMoved (old : List ℕ) (layout : Layout) (generation : ℕ) (text image : List ℕ) : Type 0 where
  pub of_image : (plan_length : ℕ) → plan_length ≡ length (plan_of old)
      → IsSettledImage image (fresh_view plan_length layout First generation)
  pub holds : Holds image (after old layout text)
  pub rest : IsRest image First generation text

migrated_end : (old : List ℕ) (layout : Layout) (generation : ℕ) (text image : List ℕ)
    → IsMigrated old layout generation text image
    → generation < 2 ^ 64 → IsZero BANKS_AT layout.banks image → HasMoved old layout generation text image
migrated_end old layout generation text image moved fits old_banks =
    let stands : Stands image layout First [] = migrated_stands old layout generation text image moved in
    let count : image_layout image ≡ layout = moved.front.same_layout in
    let is_current : current image ≡ First = stands_current image layout First [] stands in
    let spare : IsZero (bank_at layout Second) (bank_at layout Second + bank_length layout) image =
    λ i low high. moved.banks.zero i (omega arith) (omega arith) in
    record {
      of_image = λ plan_length planned. record {
        closed = record {
          of_image = record {
            opens = stands_opens image layout First [] stands;
            plan = planned ∙ ap (λ (octets : List ℕ). length octets) (sym moved.plan);
            layout = sym count;
            bank = sym is_current;
            generation = sym (ap (λ (at : ℕ). bank_generation image at) (stands_at image layout First [] stands)
                ∙ fresh_generation (bank_at layout First) layout generation text image
                (migrated_fresh old layout generation text image moved) fits);
            used = ap (λ (some : List (List ℕ)). length some) (sym (stands_records image layout First [] stands));
          };
          rests = migrated_rests old layout generation text image moved;
          spare = subst (λ (one : Layout). IsZero (bank_at one (other (current image)))
              (bank_at one (other (current image)) + bank_length one) image) (sym count)
              (subst (λ (one : Bank). IsZero (bank_at layout (other one))
              (bank_at layout (other one) + bank_length layout) image) (sym is_current) spare);
        };
        old_banks = subst (λ (one : Layout). IsZero BANKS_AT one.banks image) (sym count) old_banks;
      };
      holds = migrated_holds old layout generation text image moved;
      rest = subst (λ (one : Layout). IsRestIn one image First generation text) (sym count) (record {
        is_current = is_current;
        gate = moved.banks.gate;
        has_generation = moved.banks.has_generation;
        has_content = moved.banks.has_content;
        zero_slots = λ i low high. moved.banks.zero i low (omega arith);
        old_banks = old_banks;
        spare = spare;
      });
    }

-- what a migration that is Ok has done
abbrev pub IsMigration : Layout → ℕ → List ℕ → List ℕ → List ℕ → Type 0
IsMigration layout generation text old new = (laid : List ℕ) × IsLaidBehind layout generation text old laid
    × IsErased BANKS_AT (layout.banks - BANKS_AT) (with_migration laid) new

has_moved : (journal : JournalView) (plan_length generation : ℕ) (layout : Layout) (text old new : List ℕ)
    → IsMoving old journal plan_length layout → generation < 2 ^ 64 → IsMigration layout generation text old new
    → HasMoved old layout generation text new
has_moved journal plan_length generation layout text old new moving fits done =
    let to = migrated_layout (image_layout old) in
    let here : IsMigration to generation text old new =
    subst (λ (one : Layout). IsMigration one generation text old new) moving.layout_is done in
    subst (λ (one : Layout). HasMoved old one generation text new) (sym moving.layout_is)
    (migrated_end old to generation text new
    (erasing_migrated old (image_layout old) generation (current old) (records old) text here.0 new
    (moves_of old journal plan_length layout moving) here.1 here.2.change)
    fits (λ i low high. here.2.zero i low (omega arith)))

pub move_settled : (journal : JournalView) (plan_length generation : ℕ) (layout : Layout) (text : List ℕ)
    (old new : Trace)
    → IsMoving old.now.image journal plan_length layout → generation < 2 ^ 64
    → IsSynced new.now × IsMigration layout generation text old.now.image new.now.image
    → IsSettled new (fresh_view plan_length layout First generation)
move_settled journal plan_length generation layout text old new moving fits done = record {
  synced = done.0;
  of_image = (has_moved journal plan_length generation layout text old.now.image new.now.image moving fits
      done.1).of_image plan_length moving.plan;
}

pub move_holds : (journal : JournalView) (plan_length generation : ℕ) (layout : Layout) (text : List ℕ)
    (old new : Trace)
    → IsMoving old.now.image journal plan_length layout → generation < 2 ^ 64
    → IsSynced new.now × IsMigration layout generation text old.now.image new.now.image
    → held new.now.image ≡ migrated text (held old.now.image)
move_holds journal plan_length generation layout text old new moving fits done =
    (has_moved journal plan_length generation layout text old.now.image new.now.image moving fits done.1).holds.is
    ∙ ap (λ (one : Layout). after old.now.image one text) moving.layout_is

pub move_rest : (journal : JournalView) (plan_length generation : ℕ) (layout : Layout) (text : List ℕ) (old new : Trace)
    → IsMoving old.now.image journal plan_length layout → generation < 2 ^ 64
    → IsSynced new.now × IsMigration layout generation text old.now.image new.now.image
    → (image : List ℕ) → Leaves new.now image → IsRest image First generation text
move_rest journal plan_length generation layout text old new moving fits done image leaves =
    synced_holds new.now (λ left. IsRest left First generation text) done.0
    (has_moved journal plan_length generation layout text old.now.image new.now.image moving fits done.1).rest image
    leaves

-- what stands before all banks
pub move_before : (generation : ℕ) (layout : Layout) (text old new : List ℕ)
    → IsMigration layout generation text old new
    → BANKS_AT ≤ layout.banks → (i : ℕ) → (i < MIGRATED_AT) ⊎ ((MIGRATED_AT < i) × (i < BANKS_AT))
    → get_or new i 0 ≡ get_or old i 0
move_before generation layout text old new done behind i away =
    let low : i < BANKS_AT = elim away [ inl before ↦ omega arith | inr after ↦ after.1 ] in
    let beside : (i < MIGRATED_AT) ⊎ (MIGRATED_AT + 1 ≤ i) =
    elim away [ inl before ↦ inl before | inr after ↦ inr (let above : MIGRATED_AT < i = after.0 in omega arith) ] in
    let long : image_end layout ≤ length done.0 = done.1.banks.long in
    done.2.change.outside i (inl low)
    ∙ (overwritten_but done.0 MIGRATED_AT (OPEN ∷ []) (omega arith)).outside i beside
    ∙ done.1.keeps.below i (omega arith)

-- what stands past them
pub move_past : (generation : ℕ) (layout : Layout) (text old new : List ℕ) → IsMigration layout generation text old new
    → BANKS_AT ≤ layout.banks → KeepsPast (image_end layout) old new
move_past generation layout text old new done behind =
    let laid = done.0 in
    let long : image_end layout ≤ length laid = done.1.banks.long in
    let octet : AllBut MIGRATED_AT 1 laid (with_migration laid) = overwritten_but laid MIGRATED_AT (OPEN ∷ [])
    (omega arith) in
    record {
      length_is = done.2.change.same_length ∙ octet.same_length ∙ done.1.past.length_is;
      past = λ i high. done.2.change.outside i (inr (omega arith)) ∙ octet.outside i (inr (omega arith))
          ∙ done.1.past.past i high;
    }
