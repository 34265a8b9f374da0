-- Rows of writes in a range, which one sync brings to the disk.
use Rattle.std.proofs.Common.{◌≡◌, ℕ, ◌+◌, ◌-◌, ◌<◌, ◌≤◌, ◌∙◌, List, length, get_or, max, refl, sym, ap, subst, inl}
use Rattle.std.proofs.Common.{inr, arith, Result, Ok, Err}
use Rattle.std.proofs.Math.ListN.{get_or-eq_default}
use Rattle.std.proofs.lemmas.Bool.{cases_lt}
use Rattle.std.proofs.lemmas.List.{get_or-drop, get_or-take}
use Rattle.sdls_outside.proofs.Moments.{each_writes}
use Rattle.sdls_outside.specs.Disk.{Disk, IsSynced, Leaves, Outside}
use Rattle.sdls_outside.specs.Moments.{Trace}
use Rattle.sdls_outside.specs.Site.{Syncs, Torn, Writes, Wrote}
use Rattle.disk_journal.specs.Changes.{IsPendingIn, KeepsBelow, KeepsOutside, Row, WritesIn}
use Rattle.disk_journal.specs.Moments.{AllBut, EachImage}
use Rattle.disk_journal.proofs.Moments.{image_same, image_then, image_weaker, sync_moments}

-- what stands outside of a range
outside_same : (at count : ℕ) (image : List ℕ) → KeepsOutside at count image image
outside_same at count image = record { no_shorter = omega arith; no_longer = omega arith; outside = λ i away. refl }

outside_wider : (at count from size : ℕ) (old new : List ℕ) → from ≤ at → at + count ≤ from + size
    → KeepsOutside at count old new → KeepsOutside from size old new
outside_wider at count from size old new low high keeps =
    let longer : length new ≤ max (length old) (at + count) = keeps.no_longer in
    record {
      no_shorter = keeps.no_shorter;
      no_longer = omega arith;
      outside = λ i away.
          keeps.outside i (elim away [ inl before ↦ inl (omega arith) | inr after ↦ inr (omega arith) ]);
    }

outside_then : (at count : ℕ) (old mid new : List ℕ) → KeepsOutside at count old mid → KeepsOutside at count mid new
    → KeepsOutside at count old new
outside_then at count old mid new first second =
    let long : length old ≤ length mid = first.no_shorter in
    let longer : length mid ≤ length new = second.no_shorter in
    let bound : length mid ≤ max (length old) (at + count) = first.no_longer in
    let bounds : length new ≤ max (length mid) (at + count) = second.no_longer in
    record {
      no_shorter = omega arith;
      no_longer = omega arith;
      outside = λ i away. second.outside i away ∙ first.outside i away;
    }

torn_outside : (at count : ℕ) (old new : List ℕ) → Torn at count old new → KeepsOutside at count old new
torn_outside at count old new torn = record {
  no_shorter = torn.no_shorter;
  no_longer = torn.no_longer;
  outside = λ i away. elim away [
    | inl before ↦
        sym (get_or-take at new i 0 before) ∙ ap (λ (front : List ℕ). get_or front i 0) torn.before
        ∙ get_or-take at old i 0 before
    | inr after ↦
        let same : at + count + (i - (at + count)) ≡ i = omega arith in
        ap (λ (k : ℕ). get_or new k 0) (sym same) ∙ sym (get_or-drop (at + count) new (i - (at + count)) 0)
        ∙ ap (λ (back : List ℕ). get_or back (i - (at + count)) 0) torn.after
        ∙ get_or-drop (at + count) old (i - (at + count)) 0 ∙ ap (λ (k : ℕ). get_or old k 0) same
  ];
}

-- within the image
pub outside_but : (at count : ℕ) (old new : List ℕ) → at + count ≤ length old → KeepsOutside at count old new
    → AllBut at count old new
outside_but at count old new within keeps =
    let shorter : length old ≤ length new = keeps.no_shorter in
    let longer : length new ≤ max (length old) (at + count) = keeps.no_longer in
    record { same_length = omega arith; outside = keeps.outside }

-- before the range
pub outside_below : (at count : ℕ) (old new : List ℕ) → KeepsOutside at count old new → KeepsBelow at old new
outside_below at count old new keeps =
    record { no_shorter = keeps.no_shorter; below = λ i low. keeps.outside i (inl low) }

-- what is pending
pub pending_synced : (at count : ℕ) (disk : Disk) → IsSynced disk → at ≤ length disk.image → IsPendingIn at count disk
pending_synced at count disk synced within = record {
  within = subst (λ (octets : List ℕ). at ≤ length octets) (sym synced.1) within;
  away = λ i below outside. subst (λ (ranges : List (ℕ × ℕ)). Outside ranges i) (sym synced.0) tt;
  keeps = subst (KeepsOutside at count disk.synced) synced.1 (outside_same at count disk.synced);
}

pending_leaves : (at count : ℕ) (disk : Disk) → IsPendingIn at count disk → (image : List ℕ) → Leaves disk image
    → KeepsOutside at count disk.synced image
pending_leaves at count disk pending image leaves =
    let low : at ≤ length disk.synced = pending.within in
    let longer : length image ≤ length disk.image = leaves.no_longer in
    let bound : length disk.image ≤ max (length disk.synced) (at + count) = pending.keeps.no_longer in
    record {
      no_shorter = leaves.no_shorter;
      no_longer = omega arith;
      outside = λ i away. elim (cases_lt i (length disk.synced)) [
        | inl below ↦ leaves.outside i below (pending.away i below away)
        | inr above ↦
            let past : length image ≤ i = elim away [ inl before ↦ absurd (omega arith) | inr after ↦ omega arith ] in
            get_or-eq_default image 0 past ∙ sym (get_or-eq_default disk.synced 0 above)
      ];
    }

pending_wrote : (at count from size : ℕ) (old new : Trace) → from ≤ at → at + count ≤ from + size
    → IsPendingIn from size old.now → Wrote at count old new → IsPendingIn from size new.now
pending_wrote at count from size old new low high pending wrote = record {
  within = subst (λ (octets : List ℕ). from ≤ length octets) (sym wrote.synced) pending.within;
  away = λ i below away.
      let here : i < length old.now.synced = subst (λ (octets : List ℕ). i < length octets) wrote.synced below in
      subst (λ (ranges : List (ℕ × ℕ)). Outside ranges i) (sym wrote.ranges)
      (elim away [ inl before ↦ inl (omega arith) | inr after ↦ inr (omega arith) ], pending.away i here away);
  keeps = subst (λ (octets : List ℕ). KeepsOutside from size octets new.now.image) (sym wrote.synced)
      (outside_then from size old.now.synced old.now.image new.now.image pending.keeps
      (outside_wider at count from size old.now.image new.now.image low high
      (torn_outside at count old.now.image new.now.image wrote.torn)));
}

abbrev Kept : ℕ → ℕ → Trace → List ℕ → List ℕ → Type 0
Kept at count old image sunk = KeepsOutside at count old.now.synced image × (sunk ≡ old.now.sunk)

-- no write
pub none_in : (at count : ℕ) (old new : Trace) → new ≡ old → WritesIn at count old new
none_in at count old new same from size low high pending =
    subst (λ (trace : Trace). Row from size old trace) (sym same) (record {
      each = image_same old old (KeepsOutside from size old.now.synced) refl (pending_leaves from size old.now pending);
      pending = pending;
      synced = refl;
    })

wrote_in : {T E : Type 0} → (at : ℕ) (octets : List ℕ) (result : Result T E) (old new : Trace)
    → Writes at octets result old new → Wrote at (length octets) old new → WritesIn at (length octets) old new
wrote_in at octets result old new writes wrote from size low high pending =
    let after : IsPendingIn from size new.now =
    pending_wrote at (length octets) from size old new low high pending wrote in
    record {
      each = record {
        moments = each_writes at octets result old new (Kept from size old) writes
            (λ image leaves. (pending_leaves from size old.now pending image leaves, refl))
            (λ again image leaves. (
              subst (λ (synced : List ℕ). KeepsOutside from size synced image) wrote.synced
                  (pending_leaves from size new.now after image leaves),
              refl,
            ));
        sunk = wrote.sunk;
      };
      pending = after;
      synced = wrote.synced;
    }

-- one write
pub writes_in : {T E : Type 0} → (at : ℕ) (octets : List ℕ) (result : Result T E) (old new : Trace)
    → Writes at octets result old new → WritesIn at (length octets) old new
writes_in {T = T} {E = E} at octets (Ok value) old new writes = wrote_in {T = T} {E = E} at octets
    (Ok value) old new writes writes.0
writes_in at octets (Err error) old new (inl same) = none_in at (length octets) old new same
writes_in {T = T} {E = E} at octets (Err error) old new (inr wrote) =
    wrote_in {T = T} {E = E} at octets (Err error) old new (inr wrote) wrote

-- a part of the range
pub in_wider : (at count low_at size_of : ℕ) (old new : Trace) → low_at ≤ at → at + count ≤ low_at + size_of
    → WritesIn at count old new → WritesIn low_at size_of old new
in_wider at count low_at size_of old new below above writes from size low high =
    writes from size (omega arith) (omega arith)

-- one row after the other
pub in_then : (at count : ℕ) (old mid new : Trace) → WritesIn at count old mid → WritesIn at count mid new
    → WritesIn at count old new
in_then at count old mid new first second from size low high pending =
    let one = first from size low high pending in
    let two = second from size low high one.pending in
    record {
      each = image_then old mid new (KeepsOutside from size old.now.synced) one.each
          (subst (λ (octets : List ℕ). EachImage mid new (KeepsOutside from size octets)) one.synced two.each);
      pending = two.pending;
      synced = two.synced ∙ one.synced;
    }

-- a row that begins with nothing pending
pub row_of : (at count : ℕ) (old new : Trace) → IsSynced old.now → at ≤ length old.now.image → WritesIn at count old new
    → Row at count old new
row_of at count old new synced within writes =
    writes at count (omega arith) (omega arith) (pending_synced at count old.now synced within)

-- the sync behind it
pub row_synced : {T E : Type 0} → (result : Result T E) (at count : ℕ) (old mid new : Trace) → Row at count old mid
    → Syncs result mid new → EachImage old new (KeepsOutside at count old.now.synced)
row_synced result at count old mid new row syncs =
    let P = KeepsOutside at count old.now.synced in
    image_then old mid new P row.each
    (sync_moments result mid new P syncs
    (λ image leaves. subst (λ (octets : List ℕ). KeepsOutside at count octets image) row.synced
    (pending_leaves at count mid.now row.pending image leaves))
    (subst (λ (octets : List ℕ). KeepsOutside at count octets mid.now.image) row.synced row.pending.keeps))

-- moments of a row within the image
pub row_but : (at count : ℕ) (old new : Trace) → IsSynced old.now → at + count ≤ length old.now.image
    → EachImage old new (KeepsOutside at count old.now.synced) → EachImage old new (AllBut at count old.now.image)
row_but at count old new synced within each =
    image_weaker old new (KeepsOutside at count old.now.synced) (AllBut at count old.now.image)
    (λ image keeps. outside_but at count old.now.image image within
    (subst (λ (octets : List ℕ). KeepsOutside at count octets image) synced.1 keeps)) each
