-- The call that adds a record.
use Rattle.std.proofs.Common.{◌≡◌, ℕ, ◌+◌, ◌<◌, ◌≤◌, ◌++◌, ◌∷◌, ◌∙◌, List, [], length, get_or, take, drop, sym, ap}
use Rattle.std.proofs.Common.{subst, inl, inr, arith, length-append}
use Rattle.disk_journal.proofs.Appends.{Appends, body_step, gate_step, in_slot, open_stands, opens_to}
use Rattle.disk_journal.proofs.Ends.{starts_of}
use Rattle.disk_journal.proofs.Keeping.{beside_of, low_bank}
use Rattle.disk_journal.proofs.Stands.{apart, stands_at, stands_current, stands_records}
use Rattle.disk_journal.proofs.Turns.{after, bank_within, before}
use Rattle.disk_journal.specs.Banks.{bank_at, bank_length, slot_body, slot_gate, bank_generation, other, slot_at}
use Rattle.disk_journal.specs.Changes.{IsZero, KeepsBeside}
use Rattle.disk_journal.specs.Forms.{Becomes}
use Rattle.disk_journal.specs.Image.{Held, current, current_at, first_closed, grown, held, image_layout, other_at}
use Rattle.disk_journal.specs.Image.{records, slot_count}
use Rattle.disk_journal.specs.Journal.{IsSettled, IsSettledImage, JournalView}
use Rattle.disk_journal.specs.declared.layout.Bank.{Bank}
use Rattle.disk_journal.specs.declared.layout.Layout.{Layout}
use Rattle.disk_journal.specs.declared.layout.TheConstants.{BANKS_AT, OPEN, SLOT_LENGTH}
use Rattle.disk_journal.proofs.Moments.{image_weaker}
use Rattle.disk_journal.proofs.Ranges.{all_but_then, all_but_wider, overwritten_but, overwritten_length}
use Rattle.disk_journal.proofs.Ranges.{overwritten_one, overwritten_stretch, same_stretch}
use Rattle.disk_journal.proofs.SlotWrites.{Storing}
use Rattle.disk_journal.specs.Moments.{AllBut, EachImage}
use Rattle.sdls_base.specs.declared.TheConstants.{BODY_LENGTH}
use Rattle.sdls_outside.specs.Disk.{IsSynced}
use Rattle.sdls_outside.specs.Moments.{Trace}
use Rattle.sdls_outside.specs.Site.{overwritten}

-- where the call writes, told by its journal
pub record Writing (image : List ℕ) (journal : JournalView) (at : ℕ) (body : List ℕ) : Type 0 where
  pub of_image : IsSettledImage image journal
  pub at_is : at ≡ slot_at journal.layout (bank_at journal.layout journal.bank) journal.used
  pub room : journal.used < journal.layout.slots
  pub sized : length body ≡ BODY_LENGTH

at_place : (image : List ℕ) (journal : JournalView) (at : ℕ) (body : List ℕ) → Writing image journal at body
    → at ≡ slot_at (image_layout image) (current_at image) (first_closed image)
at_place image journal at body writing =
    let of_image = writing.of_image.closed.of_image in
    writing.at_is ∙ ap (λ (n : Layout). slot_at n (bank_at n journal.bank) journal.used) of_image.layout
    ∙ ap (λ (one : Bank). slot_at (image_layout image) (bank_at (image_layout image) one) journal.used) of_image.bank
    ∙ ap (slot_at (image_layout image) (current_at image)) of_image.used

appends_of : (image : List ℕ) (journal : JournalView) (at : ℕ) (body : List ℕ) → Writing image journal at body
    → Appends image (image_layout image) (current image) (records image) body
appends_of image journal at body writing =
    let used : journal.used ≡ first_closed image = writing.of_image.closed.of_image.used in
    let slots : journal.layout.slots ≡ slot_count image =
    ap (λ (one : Layout). one.slots) writing.of_image.closed.of_image.layout in
    let room : journal.used < journal.layout.slots = writing.room in
    record { starts = starts_of image journal writing.of_image; room = omega arith; sized = writing.sized }

pub append_within : (old : Trace) (journal : JournalView) (at : ℕ) (body : List ℕ)
    → Writing old.now.image journal at body
    → at + SLOT_LENGTH ≤ length old.now.image
append_within old journal at body writing =
    let image = old.now.image in
    let appends = appends_of image journal at body writing in
    let place : at ≡ slot_at (image_layout image) (current_at image)
    (first_closed image) = at_place image journal at body writing in
    let within : current_at image + bank_length (image_layout image) ≤ length image =
    bank_within image (image_layout image) (current image) appends.starts.stands.front in
    let room : first_closed image < slot_count image = appends.room in
    omega arith

pub append_moments : (old new : Trace) (journal : JournalView) (at : ℕ) (body : List ℕ)
    → Writing old.now.image journal at body
    → EachImage old new (Storing at body old.now.image) → EachImage old new
    (Becomes (held old.now.image) (grown body (held old.now.image)))
append_moments old new journal at body writing each =
    let image = old.now.image in
    let appends = appends_of image journal at body writing in
    image_weaker old new (Storing at body image) (Becomes (held image) (grown body (held image)))
    (λ left storing. elim (subst (λ (k : ℕ). Storing k body image left)
    (at_place image journal at body writing) storing) [
      | inl first ↦ body_step image left (image_layout image) (current image) (records image) body appends first
      | inr second ↦ gate_step image left (image_layout image) (current image) (records image) body appends second
    ]) each

abbrev pub one_more : JournalView → JournalView
one_more journal = record journal { used = journal.used + 1 }

pub record Grown (old new body : List ℕ) (journal : JournalView) : Type 0 where
  pub of_image : IsSettledImage new (one_more journal)
  pub same : held new ≡ grown body (held old)
  pub beside : KeepsBeside journal.layout old new

appended : (old body : List ℕ) (at : ℕ) (journal : JournalView) → Writing old journal at body
    → Grown old (overwritten (overwritten old (at + 1) body) at (OPEN ∷ [])) body journal
appended old body at journal writing =
    let from = current_at old in
    let before_it = writing.of_image.closed.of_image in
    let layout = image_layout old in
    let appends = appends_of old journal at body writing in
    let place : at ≡ slot_at layout from (first_closed old) = at_place old journal at body writing in
    let within : from + bank_length layout ≤ length old = bank_within old layout
    (current old) appends.starts.stands.front in
    let room : first_closed old < layout.slots = appends.room in
    let sized : length body ≡ BODY_LENGTH = writing.sized in
    let written = overwritten old (at + 1) body in
    let new = overwritten written at (OPEN ∷ []) in
    let body_fits : at + 1 + length body ≤ length old = omega arith in
    let long : length written ≡ length old = overwritten_length old (at + 1) body body_fits in
    let gate_change : AllBut at 1 written new = overwritten_but written at (OPEN ∷ []) (omega arith) in
    let wide_at : AllBut at SLOT_LENGTH old new = all_but_then at SLOT_LENGTH old written new
    (all_but_wider (at + 1) (length body) at SLOT_LENGTH old written (omega arith) (omega arith)
    (overwritten_but old (at + 1) body body_fits))
    (all_but_wider at 1 at SLOT_LENGTH written new (omega arith) (omega arith) gate_change) in
    let wide : AllBut (slot_at layout from (first_closed old)) SLOT_LENGTH old new =
    subst (λ (k : ℕ). AllBut k SLOT_LENGTH old new) place wide_at in
    let here : slot_gate layout new from (first_closed old) ≡ OPEN = subst (λ (k : ℕ). get_or new k 0 ≡ OPEN) place
    (overwritten_one written at OPEN (omega arith)) in
    let read : take BODY_LENGTH (drop (at + 1) new) ≡ body =
    same_stretch at 1 (at + 1) BODY_LENGTH written new gate_change (inr (omega arith))
    ∙ subst (λ (n : ℕ). take n (drop (at + 1) written) ≡ body) sized
    (overwritten_stretch old (at + 1) body body_fits) in
    let body_here : slot_body layout new from
    (first_closed old) ≡ body = subst (λ (k : ℕ). take BODY_LENGTH (drop (k + 1) new) ≡ body) place read in
    let stands = open_stands old new layout (current old) (records old) body appends wide here body_here in
    let opened = opens_to old new layout (current old) (records old) body appends wide here body_here in
    let keeps = in_slot old new layout (current old) (records old) appends.starts.stands wide in
    let count : image_layout new ≡ layout = stands.front.same_layout in
    let one : current new ≡ current old = stands_current new layout (current old) (records old ++ body ∷ []) stands in
    let bodies : records new ≡ records old ++ body ∷ [] = stands_records new layout (current old)
    (records old ++ body ∷ []) stands in
    let spare : IsZero (other_at old) (other_at old + bank_length layout) new =
    λ i low high. wide.outside i (elim
    (apart layout (current old)) [ inl before ↦ inr (omega arith) | inr after ↦ inl (omega arith) ])
    ∙ appends.starts.spare i low high in
    record {
      of_image = record {
        closed = record {
          of_image = record {
            opens = opened.0.opens;
            plan = before_it.plan ∙ sym (ap (λ (what : Held). length what.plan) opened.0.is);
            layout = before_it.layout ∙ sym count;
            bank = before_it.bank ∙ sym one;
            generation = before_it.generation
                ∙ sym (ap (λ (at : ℕ). bank_generation new at)
                (stands_at new layout (current old) (records old ++ body ∷ []) stands) ∙ keeps.same_generation);
            used = ap (λ (n : ℕ). n + 1) before_it.used
                ∙ sym (ap (λ (some : List (List ℕ)). length some) bodies ∙ length-append (records old) (body ∷ []));
          };
          rests = opened.1;
          spare = subst (λ (n : Layout). IsZero (bank_at n (other (current new)))
              (bank_at n (other (current new)) + bank_length n) new) (sym count)
              (subst (λ (bank : Bank). IsZero (bank_at layout (other bank))
              (bank_at layout (other bank) + bank_length layout) new) (sym one) spare);
        };
        old_banks = subst (λ (n : Layout). IsZero BANKS_AT n.banks new) (sym count)
            (λ i low high. wide.outside i (inl (omega (arith, high, low_bank layout (current old))))
            ∙ appends.starts.old_banks i low high);
      };
      same = opened.0.is;
      beside = subst (λ (one : Layout). KeepsBeside one old new) (sym before_it.layout)
          (beside_of (slot_at layout from (first_closed old)) SLOT_LENGTH layout (current old) old new wide
          (omega arith) (omega arith));
    }

pub append_beside : (old new : Trace) (journal : JournalView) (at : ℕ) (body : List ℕ)
    → Writing old.now.image journal at body
    → IsSynced new.now × (new.now.image ≡ overwritten (overwritten old.now.image (at + 1) body) at (OPEN ∷ []))
    → KeepsBeside journal.layout old.now.image new.now.image
append_beside old new journal at body writing stored =
    subst (λ (image : List ℕ). KeepsBeside journal.layout old.now.image image) (sym stored.1)
    (appended old.now.image body at journal writing).beside

pub append_stored : (old new : Trace) (journal : JournalView) (at : ℕ) (body : List ℕ)
    → Writing old.now.image journal at body
    → IsSynced new.now × (new.now.image ≡ overwritten (overwritten old.now.image (at + 1) body) at (OPEN ∷ []))
    → IsSettled new (one_more journal) × (held new.now.image ≡ grown body (held old.now.image))
append_stored old new journal at body writing stored =
    let done : Grown old.now.image new.now.image body journal =
    subst (λ (image : List ℕ). Grown old.now.image image body journal) (sym stored.1)
    (appended old.now.image body at journal writing) in
    (record { synced = stored.0; of_image = done.of_image }, done.same)
