-- Moments of a run that goes on, for this crate's laws and the crates above.
use Rattle.std.proofs.Common.{◌≡◌, ℕ, suc, zero, ◌<◌, ◌+◌, ◌-◌, ◌≤◌, ◌⊎◌, List, [], ◌∷◌, ◌++◌, length, get_or, min}
use Rattle.std.proofs.Common.{take, drop, refl, sym, ◌∙◌, ap, subst, inl, inr, arith, Result, Ok, Err, length-append}
use Rattle.std.proofs.lemmas.List.{drop-append-le, drop_at, drop-drop, drop_all, take_all, take_at, take-take}
use Rattle.std.proofs.lemmas.List.{length-take, ext_get_or}
use Rattle.sdls_outside.specs.Disk.{Disk, Leaves, IsSynced, Outside}
use Rattle.sdls_outside.specs.Moments.{Trace, clock, Between, sunk_next, Moments, MomentSince, EachMoment, Continues}
use Rattle.sdls_outside.specs.Site.{Passes, Wrote, Writes, Syncs, Sank, Puts}

-- all that was sunk before a call, and nothing of what it adds
pub between-old : (old new : List ℕ) → take (length old) new ≡ old → Between old new old
between-old old new front = record { least = omega arith; prefix = sym front }

-- what is sunk is between itself and itself alone
pub between-same : (old sunk : List ℕ) → Between old old sunk → sunk ≡ old
between-same old sunk between = between.prefix ∙ take_all (length sunk) old between.least

-- what was sunk once the first calls were done does not see the later ones
next_same : (first : List Disk) (disk : Disk) (since : List Disk) (now : Disk)
    → sunk_next (first ++ disk ∷ since) now ≡ sunk_next first disk
next_same [] disk since now = refl
next_same (other ∷ first) disk since now = refl

split : (first : List Disk) (disk : Disk) (since : List Disk) (now : Disk) (image sunk : List ℕ)
    → Moments (first ++ disk ∷ since) now image sunk → Moments first disk image sunk
    ⊎ Moments (disk ∷ since) now image sunk
split [] disk since now image sunk moment = inr moment
split (other ∷ first) disk since now image sunk (inl here) =
    inl (inl (here.0, subst (λ (next : List ℕ). Between other.sunk next sunk) (next_same first disk since now) here.1))
split (other ∷ first) disk since now image sunk (inr later) =
    elim (split first disk since now image sunk later) [ inl moment ↦ inl (inr moment) | inr moment ↦ inr moment ]

-- a crash now, at the end of all calls
at_end : (past : List Disk) (now : Disk) (image : List ℕ) → Leaves now image → Moments past now image now.sunk
at_end [] now image leaves = (leaves, refl)
at_end (disk ∷ past) now image leaves = inr (at_end past now image leaves)

-- what a crash may leave now is left at a moment since any time
pub moment_now : (trace : Trace) (time : ℕ) (image : List ℕ) → Leaves trace.now image
    → MomentSince time trace image trace.now.sunk
moment_now trace time image leaves = at_end (drop time trace.past) trace.now image leaves

dropped : (n : ℕ) (past : List Disk) (now : Disk) (image sunk : List ℕ)
    → Moments (drop n past) now image sunk → Moments past now image sunk
dropped zero past now image sunk moment = moment
dropped (suc n) [] now image sunk moment = moment
dropped (suc n) (disk ∷ past) now image sunk moment = inr (dropped n past now image sunk moment)

-- a moment since a later time is one since an earlier time
pub moment_earlier : (trace : Trace) (early late : ℕ) (image sunk : List ℕ) → early ≤ late
    → MomentSince late trace image sunk → MomentSince early trace image sunk
moment_earlier trace early late image sunk later moment =
    let same : drop (late - early) (drop early trace.past) ≡ drop late trace.past =
    drop-drop (late - early) early trace.past ∙ ap (λ (n : ℕ). drop n trace.past)
    (let sum : early + (late - early) ≡ late = omega arith in sum) in
    dropped (late - early) (drop early trace.past) trace.now image sunk
    (subst (λ (past : List Disk). Moments past trace.now image sunk) (sym same) moment)

-- the calls since the old trace
since_old : (old new : Trace) (since : List Disk) → new.past ≡ old.past ++ old.now ∷ since
    → drop (clock old) new.past ≡ old.now ∷ since
since_old old new since more = ap (drop (clock old)) more ∙ drop_at old.past (old.now ∷ since) (clock old) refl

split_since : (old new : Trace) (since : List Disk) (time : ℕ) (image sunk : List ℕ)
    → new.past ≡ old.past ++ old.now ∷ since → time ≤ clock old
    → MomentSince time new image sunk → MomentSince time old image sunk ⊎ MomentSince (clock old) new image sunk
split_since old new since time image sunk more early moment =
    let whole : drop time new.past ≡ drop time old.past ++ old.now ∷ since =
    ap (drop time) more ∙ drop-append-le time old.past (old.now ∷ since) early in
    let P : List Disk → Type 0 = λ past. Moments past new.now image sunk in
    elim (split (drop time old.past) old.now since new.now image sunk (subst P whole moment)) [
      | inl first ↦ inl first
      | inr rest ↦ inr (subst P (sym (since_old old new since more)) rest)
    ]

-- a moment of a longer run is a moment of its first part, or of its rest
pub moment_split : (old new : Trace) (time : ℕ) (image sunk : List ℕ) → Continues old new → time ≤ clock old
    → MomentSince time new image sunk → MomentSince time old image sunk ⊎ MomentSince (clock old) new image sunk
moment_split old new time image sunk (inl same) early moment =
    inl (subst (λ (trace : Trace). MomentSince time trace image sunk) same moment)
moment_split old new time image sunk (inr (since, more)) early moment =
    split_since old new since time image sunk more early moment

-- after a sync a crash leaves what a read gives
pub synced_leaves : (disk : Disk) (image : List ℕ) → IsSynced disk → Leaves disk image → image ≡ disk.image
synced_leaves disk image synced leaves =
    let reads : length disk.synced ≡ length disk.image = ap (λ (octets : List ℕ). length octets) synced.1 in
    let shorter : length disk.synced ≤ length image = leaves.no_shorter in
    let longer : length image ≤ length disk.image = leaves.no_longer in
    let long : length image ≡ length disk.synced = omega arith in
    ext_get_or 0 image disk.synced long
    (λ i below. leaves.outside i (let low : i < length disk.synced = omega arith in low)
    (subst (λ (ranges : List (ℕ × ℕ)). Outside ranges i) (sym synced.0) tt))
    ∙ synced.1

-- a call that changes something goes on from what stood
pub passes_continues : (old new : Trace) → Passes old new → Continues old new
passes_continues old new passes = inr ([], passes)

-- at each moment P, where nothing has changed
pub each_same : (trace : Trace) (P : List ℕ → List ℕ → Type 0)
    → ((image : List ℕ) → Leaves trace.now image → P image trace.now.sunk) → EachMoment trace trace P
each_same trace P now = record {
  later = omega arith;
  each = λ image sunk moment.
      let here : Moments [] trace.now image sunk =
      subst (λ (past : List Disk). Moments past trace.now image sunk) (drop_all (clock trace) trace.past (omega arith))
      moment in
      subst (λ (octets : List ℕ). P image octets) (sym here.1) (now image here.0);
  before = λ time image sunk early moment. inl moment;
}

-- at each moment P, where one call has changed something
pub each_passes : (old new : Trace) (P : List ℕ → List ℕ → Type 0) → Passes old new
    → ((image sunk : List ℕ) → Leaves old.now image → Between old.now.sunk new.now.sunk sunk → P image sunk)
    → ((image : List ℕ) → Leaves new.now image → P image new.now.sunk) → EachMoment old new P
each_passes old new P passes during after =
    let each : (image sunk : List ℕ) → MomentSince (clock old) new image sunk → P image sunk =
    λ image sunk moment.
    let calls : Moments (old.now ∷ []) new.now image sunk =
    subst (λ (past : List Disk). Moments past new.now image sunk) (since_old old new [] passes) moment in
    elim calls [
      | inl call ↦ during image sunk call.0 call.1
      | inr here ↦ subst (λ (octets : List ℕ). P image octets) (sym here.1) (after image here.0)
    ] in
    record {
      later = let longer : clock new ≡ clock old + 1 =
          ap (λ (past : List Disk). length past) passes ∙ length-append old.past (old.now ∷ []) in omega arith;
      each = each;
      before = λ time image sunk early moment.
          elim (moment_split old new time image sunk (passes_continues old new passes) early moment) [
            | inl first ↦ inl first
            | inr rest ↦ inr (each image sunk rest)
          ];
    }

-- at each moment P, in one part and then in the next
pub each_then : (old mid new : Trace) (P : List ℕ → List ℕ → Type 0)
    → EachMoment old mid P → EachMoment mid new P → EachMoment old new P
each_then old mid new P first second =
    let low : clock old ≤ clock mid = first.later in
    let high : clock mid ≤ clock new = second.later in
    record {
      later = omega arith;
      each = λ image sunk moment. elim (second.before (clock old) image sunk low moment) [
        | inl early ↦ first.each image sunk early
        | inr late ↦ late
      ];
      before = λ time image sunk early moment.
          let within : time ≤ clock mid = omega arith in
          elim (second.before time image sunk within moment) [
            | inl part ↦ first.before time image sunk early part
            | inr late ↦ inr late
          ];
    }

-- a weaker claim
pub each_weaker : (old new : Trace) (P Q : List ℕ → List ℕ → Type 0)
    → ((image sunk : List ℕ) → P image sunk → Q image sunk) → EachMoment old new P → EachMoment old new Q
each_weaker old new P Q weaker each = record {
  later = each.later;
  each = λ image sunk moment. weaker image sunk (each.each image sunk moment);
  before = λ time image sunk early moment. elim (each.before time image sunk early moment) [
    | inl part ↦ inl part
    | inr now ↦ inr (weaker image sunk now)
  ];
}

-- two ends that are one leave nothing between them but themselves
stays : (old new : List ℕ) (P : List ℕ → Type 0) → new ≡ old → P old → (sunk : List ℕ) → Between old new sunk → P sunk
stays old new P same holds sunk between =
    let here : sunk ≡ old = between-same old sunk (subst (λ (end : List ℕ). Between old end sunk) same between) in
    subst P (sym here) holds

-- the moments of some of a write
each_wrote : (at count : ℕ) (old new : Trace) (P : List ℕ → List ℕ → Type 0) → Wrote at count old new
    → ((image : List ℕ) → Leaves old.now image → P image old.now.sunk)
    → ((image : List ℕ) → Leaves new.now image → P image old.now.sunk) → EachMoment old new P
each_wrote at count old new P wrote before after = each_passes old new P wrote.passes
    (λ image sunk leaves between. stays old.now.sunk new.now.sunk (λ octets. P image octets) wrote.sunk
    (before image leaves) sunk between)
    (λ image leaves. subst (λ (octets : List ℕ). P image octets) (sym wrote.sunk) (after image leaves))

-- where nothing has changed
each_unchanged : (old new : Trace) (P : List ℕ → List ℕ → Type 0) → new ≡ old
    → ((image : List ℕ) → Leaves old.now image → P image old.now.sunk) → EachMoment old new P
each_unchanged old new P same before =
    subst (λ (trace : Trace). EachMoment old trace P) (sym same) (each_same old P before)

-- the moments of a write: those of the disk before it, and those of the disk with its range pending
pub each_writes : {T E : Type 0} → (at : ℕ) (octets : List ℕ) (result : Result T E) (old new : Trace)
    (P : List ℕ → List ℕ → Type 0) → Writes at octets result old new
    → ((image : List ℕ) → Leaves old.now image → P image old.now.sunk)
    → (Wrote at (length octets) old new → (image : List ℕ) → Leaves new.now image → P image old.now.sunk)
    → EachMoment old new P
each_writes at octets (Ok value) old new P writes before after =
    each_wrote at (length octets) old new P writes.0 before (after writes.0)
each_writes at octets (Err error) old new P (inl same) before after = each_unchanged old new P same before
each_writes at octets (Err error) old new P (inr wrote) before after =
    each_wrote at (length octets) old new P wrote before (after wrote)

-- the moments of a sync: those of the disk before it, and the image as it reads
pub each_syncs : {T E : Type 0} → (result : Result T E) (old new : Trace) (P : List ℕ → List ℕ → Type 0)
    → Syncs result old new → ((image : List ℕ) → Leaves old.now image → P image old.now.sunk)
    → P old.now.image old.now.sunk → EachMoment old new P
each_syncs (Ok value) old new P synced before after = each_passes old new P synced.passes
    (λ image sunk leaves between. stays old.now.sunk new.now.sunk (λ octets. P image octets) synced.sunk
    (before image leaves) sunk between)
    (λ image leaves.
    let reads : image ≡ old.now.image = synced_leaves new.now image synced.is_synced leaves ∙ synced.image in
    subst (λ (octets : List ℕ). P image octets) (sym synced.sunk)
    (subst (λ (left : List ℕ). P left old.now.sunk) (sym reads) after))
each_syncs (Err error) old new P same before after = each_unchanged old new P same before

-- a disk with the same image, sync and ranges leaves the same
pub leaves_same : (old new : Disk) → new.image ≡ old.image → new.synced ≡ old.synced → new.ranges ≡ old.ranges
    → (image : List ℕ) → Leaves new image → Leaves old image
leaves_same old new same_image same_synced same_ranges image leaves = record {
  no_shorter = subst (λ (synced : List ℕ). length synced ≤ length image) same_synced leaves.no_shorter;
  no_longer = subst (λ (reads : List ℕ). length image ≤ length reads) same_image leaves.no_longer;
  outside = λ i below away.
      leaves.outside i (subst (λ (synced : List ℕ). i < length synced) (sym same_synced) below)
      (subst (λ (ranges : List (ℕ × ℕ)). Outside ranges i) (sym same_ranges) away)
      ∙ ap (λ (synced : List ℕ). get_or synced i 0) same_synced;
}

-- a part of a part is a part
between_within : (old mid new sunk : List ℕ) → Between old new mid → Between old mid sunk → Between old new sunk
between_within old mid new sunk outer inner =
    let same : length sunk ≡ min (length sunk) (length mid) =
    ap (λ (octets : List ℕ). length octets) inner.prefix ∙ length-take (length sunk) mid in
    let shorter : length sunk ≤ length mid = omega arith in
    record {
      least = inner.least;
      prefix = inner.prefix ∙ ap (take (length sunk)) outer.prefix ∙ take-take (length sunk) (length mid) new shorter;
    }

each_sank : (octets : List ℕ) (old new : Trace) (P : List ℕ → List ℕ → Type 0) → Sank octets old new
    → ((image sunk : List ℕ) → Leaves old.now image → Between old.now.sunk (old.now.sunk ++ octets) sunk → P image sunk)
    → EachMoment old new P
each_sank octets old new P sank holds = each_passes old new P sank.passes
    (λ image sunk leaves between. holds image sunk leaves
    (between_within old.now.sunk new.now.sunk (old.now.sunk ++ octets) sunk sank.sunk between))
    (λ image leaves. holds image new.now.sunk
    (leaves_same old.now new.now sank.image sank.synced sank.ranges image leaves) sank.sunk)

-- the moments of a put: those of the disk, with a front of the octets sunk
pub each_puts : {T E : Type 0} → (octets : List ℕ) (result : Result T E) (old new : Trace)
    (P : List ℕ → List ℕ → Type 0) → Puts octets result old new
    → ((image sunk : List ℕ) → Leaves old.now image → Between old.now.sunk (old.now.sunk ++ octets) sunk → P image sunk)
    → EachMoment old new P
each_puts octets (Ok value) old new P puts holds = each_sank octets old new P puts.0 holds
each_puts octets (Err error) old new P (inl same) holds = each_unchanged old new P same
    (λ image leaves. holds image old.now.sunk leaves
    (between-old old.now.sunk (old.now.sunk ++ octets) (take_at old.now.sunk octets (length old.now.sunk) refl)))
each_puts octets (Err error) old new P (inr sank) holds = each_sank octets old new P sank holds

-- a put leaves all that is synced as it is
pub sank_synced : (octets : List ℕ) (old new : Trace) → Sank octets old new → IsSynced old.now → IsSynced new.now
sank_synced octets old new sank synced =
    (sank.ranges ∙ synced.0, sank.synced ∙ synced.1 ∙ sym sank.image)

pub puts_synced : {T E : Type 0} → (octets : List ℕ) (result : Result T E) (old new : Trace)
    → Puts octets result old new → IsSynced old.now → IsSynced new.now
puts_synced octets (Ok value) old new puts synced = sank_synced octets old new puts.0 synced
puts_synced octets (Err error) old new (inl same) synced =
    subst (λ (trace : Trace). IsSynced trace.now) (sym same) synced
puts_synced octets (Err error) old new (inr sank) synced = sank_synced octets old new sank synced
