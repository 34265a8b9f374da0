-- What a crash may leave during writes that are brought to the disk.
use Rattle.std.proofs.Common.{◌≡◌, ℕ, ◌+◌, ◌<◌, ◌≤◌, ◌⊎◌, List, [], ◌∷◌, length, get_or, max, refl, sym, ◌∙◌, ap, subst}
use Rattle.std.proofs.Common.{inl, inr, arith, Result, Ok, Err}
use Rattle.std.proofs.lemmas.Bool.{cases_lt}
use Rattle.std.proofs.Math.ListN.{get_or-eq_default}
use Rattle.sdls_outside.specs.Disk.{Disk, Leaves, IsSynced, Outside}
use Rattle.sdls_outside.specs.Moments.{Trace}
use Rattle.sdls_outside.specs.Site.{overwritten, Wrote, Writes, Syncs}
use Rattle.sdls_outside.proofs.Moments.{synced_leaves, each_same, each_then, each_weaker, each_writes, each_syncs}
use Rattle.disk_journal.specs.Moments.{AllBut, EachImage, OnlySyncs}
use Rattle.disk_journal.proofs.Ranges.{all_but_same, overwritten_but}

-- nothing has changed
pub image_same : (old new : Trace) (P : List ℕ → Type 0) → new ≡ old →
    ((image : List ℕ) → Leaves old.now image → P image)
    → EachImage old new P
image_same old new P same holds =
    let here : EachImage old old P = record {
      moments = each_same old (λ image sunk. P image × (sunk ≡ old.now.sunk))
          (λ image leaves. (holds image leaves, refl));
      sunk = refl;
    } in
    subst (λ (trace : Trace). EachImage old trace P) (sym same) here

-- one part after the other
pub image_then : (old mid new : Trace) (P : List ℕ → Type 0) → EachImage old mid P → EachImage mid new P
    → EachImage old new P
image_then old mid new P first second = record {
  moments = each_then old mid new (λ image sunk. P image × (sunk ≡ old.now.sunk)) first.moments
      (each_weaker mid new (λ image sunk. P image × (sunk ≡ mid.now.sunk))
      (λ image sunk. P image × (sunk ≡ old.now.sunk))
      (λ image sunk holds. (holds.0, holds.1 ∙ first.sunk)) second.moments);
  sunk = second.sunk ∙ first.sunk;
}

pub image_weaker : (old new : Trace) (P Q : List ℕ → Type 0) → ((image : List ℕ) → P image → Q image)
    → EachImage old new P → EachImage old new Q
image_weaker old new P Q weaker each = record {
  moments = each_weaker old new (λ image sunk. P image × (sunk ≡ old.now.sunk))
      (λ image sunk. Q image × (sunk ≡ old.now.sunk))
      (λ image sunk holds. (weaker image holds.0, holds.1)) each.moments;
  sunk = each.sunk;
}

-- what a crash leaves of a synced image
pub synced_holds : (disk : Disk) (P : List ℕ → Type 0) → IsSynced disk → P disk.image → (image : List ℕ)
    → Leaves disk image → P image
synced_holds disk P synced here image leaves = subst P (sym (synced_leaves disk image synced leaves)) here

-- some of a write over a synced image, within it
pub torn_leaves : (at count : ℕ) (old new : Trace) → IsSynced old.now → at + count ≤ length old.now.image
    → Wrote at count old new
    → (image : List ℕ) → Leaves new.now image → AllBut at count old.now.image image
torn_leaves at count old new synced within wrote image leaves =
    let was : new.now.synced ≡ old.now.image = wrote.synced ∙ synced.1 in
    let ranges : new.now.ranges ≡ (at, count) ∷ [] = wrote.ranges
    ∙ ap (λ (rest : List (ℕ × ℕ)). (at, count) ∷ rest) synced.0 in
    let size : length new.now.synced ≡ length old.now.image = ap (λ (octets : List ℕ). length octets) was in
    let shorter : length new.now.synced ≤ length image = leaves.no_shorter in
    let longer : length image ≤ length new.now.image = leaves.no_longer in
    let bound : length new.now.image ≤ max (length old.now.image) (at + count) = wrote.torn.no_longer in
    let long : length image ≡ length old.now.image = omega arith in
    record {
      same_length = long;
      outside = λ i away. elim (cases_lt i (length old.now.image)) [
        | inl low ↦
            let low_then : i < length new.now.synced = omega arith in
            leaves.outside i low_then (subst (λ (all : List (ℕ × ℕ)). Outside all i) (sym ranges) (away, tt))
            ∙ ap (λ (octets : List ℕ). get_or octets i 0) was
        | inr high ↦
            let past : length image ≤ i = omega arith in
            get_or-eq_default image 0 past ∙ sym (get_or-eq_default old.now.image 0 high)
      ];
    }

-- a write over a synced image, within it
pub write_moments : {T E : Type 0} → (at : ℕ) (octets : List ℕ) (result : Result T E) (old new : Trace)
    → IsSynced old.now
    → at + length octets ≤ length old.now.image → Writes at octets result old new
    → EachImage old new (AllBut at (length octets) old.now.image)
write_moments {E = E} at octets (Ok value) old new synced within writes = record {
  moments = each_writes {E = E} at octets (Ok value) old new
      (λ image sunk. AllBut at (length octets) old.now.image image × (sunk ≡ old.now.sunk)) writes
      (λ image leaves. (
        synced_holds old.now (AllBut at (length octets) old.now.image) synced
            (all_but_same at (length octets) old.now.image) image leaves,
        refl,
      ))
      (λ wrote image leaves. (torn_leaves at (length octets) old new synced within wrote image leaves, refl));
  sunk = writes.0.sunk;
}
write_moments at octets (Err error) old new synced within (inl same) =
    image_same old new (AllBut at (length octets) old.now.image) same
    (synced_holds old.now (AllBut at (length octets) old.now.image) synced
    (all_but_same at (length octets) old.now.image))
write_moments {T = T} at octets (Err error) old new synced within (inr wrote) = record {
  moments = each_writes {T = T} at octets (Err error) old new
      (λ image sunk. AllBut at (length octets) old.now.image image × (sunk ≡ old.now.sunk)) (inr wrote)
      (λ image leaves. (
        synced_holds old.now (AllBut at (length octets) old.now.image) synced
            (all_but_same at (length octets) old.now.image) image leaves,
        refl,
      ))
      (λ wrote image leaves. (torn_leaves at (length octets) old new synced within wrote image leaves, refl));
  sunk = wrote.sunk;
}

-- one that failed
pub failed_moments : (at : ℕ) (octets : List ℕ) (old new : Trace) → IsSynced old.now
    → at + length octets ≤ length old.now.image
    → (new ≡ old) ⊎ Wrote at (length octets) old new → EachImage old new (AllBut at (length octets) old.now.image)
failed_moments at octets old new synced within writes = write_moments {T = ℕ} {E = ℕ} at octets
    (Err 0) old new synced within writes

-- a sync
pub sync_moments : {T E : Type 0} → (result : Result T E) (old new : Trace) (P : List ℕ → Type 0) → Syncs result old new
    → ((image : List ℕ) → Leaves old.now image → P image) → P old.now.image → EachImage old new P
sync_moments {E = E} (Ok value) old new P syncs before after = record {
  moments = each_syncs {E = E} (Ok value) old new (λ image sunk. P image × (sunk ≡ old.now.sunk)) syncs
      (λ image leaves. (before image leaves, refl)) (after, refl);
  sunk = syncs.sunk;
}
sync_moments (Err error) old new P same before after = image_same old new P same before

-- a write that is Ok, and the sync behind it
pub stored_moments : {T E : Type 0} → (at : ℕ) (octets : List ℕ) (result : Result T E) (old mid new : Trace)
    → IsSynced old.now
    → at + length octets ≤ length old.now.image
    → Wrote at (length octets) old mid × (mid.now.image ≡ overwritten old.now.image at octets) → Syncs result mid new
    → EachImage old new (AllBut at (length octets) old.now.image)
stored_moments at octets result old mid new synced within writes syncs =
    let P = AllBut at (length octets) old.now.image in
    image_then old mid new P (write_moments {T = ℕ} {E = ℕ} at octets (Ok 0) old mid synced within writes)
    (sync_moments result mid new P syncs (torn_leaves at (length octets) old mid synced within writes.0)
    (subst P (sym writes.1) (overwritten_but old.now.image at octets within)))

-- a sync, or nothing
pub only_syncs_moments : (old new : Trace) → OnlySyncs old new → Leaves old.now old.now.image → EachImage old new
    (Leaves old.now)
only_syncs_moments old new (inl same) stays = image_same old new (Leaves old.now) same (λ image leaves. leaves)
only_syncs_moments old new (inr synced) stays = sync_moments {T = ℕ} {E = ℕ} (Ok 0) old new (Leaves old.now) synced
    (λ image leaves. leaves) stays
