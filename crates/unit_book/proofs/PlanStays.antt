-- The plan in the image stays while a book is opened, puts octets and stores entries: for `plan_stays` of `IsKept`.
use Rattle.std.proofs.Common.{◌≡◌, ◌⊎◌, List, ℕ, sym, ◌∙◌, ap, subst, inl, inr}
use Rattle.sdls_outside.specs.Disk.{Leaves}
use Rattle.sdls_outside.specs.Moments.{Trace, clock, EachMoment}
use Rattle.sdls_outside.specs.Site.{Sank}
use Rattle.sdls_outside.proofs.Moments.{each_passes, each_same, each_then, each_weaker, leaves_same, moment_now}
use Rattle.sdls_outside.proofs.Moments.{synced_leaves}
use Rattle.unit_image.specs.Image.{Becomes, EachImage, Held, held, IsSettled, JournalView}
use Rattle.run_promise.specs.Sound.{HasPlan}

-- the image is at rest, and no crash leaves another one
pub plan_fresh : (now : Trace) (journal : JournalView) (plan : List ℕ) → IsSettled now journal
    → (held now.now.image).plan ≡ plan → EachMoment now now (λ image sunk. HasPlan plan image)
plan_fresh now journal plan settled same =
    each_same now (λ image sunk. HasPlan plan image) (λ image leaves.
    subst (HasPlan plan) (sym (synced_leaves now.now image settled.synced leaves))
    (record { here = same; forms = λ form is. absurd (settled.of_image.closed.rests is.0 is.1) }))

-- a put leaves the image as it is
pub plan_put : (octets : List ℕ) (opened old new : Trace) (plan : List ℕ) → (new ≡ old) ⊎ Sank octets old new
    → EachMoment opened old (λ image sunk. HasPlan plan image)
    → EachMoment opened new (λ image sunk. HasPlan plan image)
plan_put octets opened old new plan (inl same) each =
    subst (λ (trace : Trace). EachMoment opened trace (λ image sunk. HasPlan plan image)) (sym same) each
plan_put octets opened old new plan (inr sank) each =
    let has : (image : List ℕ) → Leaves old.now image → HasPlan plan image =
    λ image leaves. each.each image old.now.sunk (moment_now old (clock opened) image leaves) in
    each_then opened old new (λ image sunk. HasPlan plan image) each
    (each_passes old new (λ image sunk. HasPlan plan image) sank.passes
    (λ image sunk leaves between. has image leaves)
    (λ image leaves. has image (leaves_same old.now new.now sank.image sank.synced sank.ranges image leaves)))

-- what is on the way from what was held to what is held next has the plan of both
becomes_plan : (old next : Held) (plan image : List ℕ) → old.plan ≡ plan → next.plan ≡ plan → Becomes old next image
    → HasPlan plan image
becomes_plan old next plan image before behind becomes = record {
  here = elim becomes.holds [
    | inl holds ↦ ap (λ (what : Held). what.plan) holds.is ∙ before
    | inr holds ↦ ap (λ (what : Held). what.plan) holds.is ∙ behind
  ];
  forms = λ form is. ap (λ (what : Held). what.plan) (becomes.forms form is).is ∙ behind;
}

-- so it is while an entry is stored, whatever comes of it
pub plan_stored : (opened old new : Trace) (plan : List ℕ) (next : Held) → (held old.now.image).plan ≡ plan
    → next.plan ≡ (held old.now.image).plan → EachImage old new (Becomes (held old.now.image) next)
    → EachMoment opened old (λ image sunk. HasPlan plan image)
    → EachMoment opened new (λ image sunk. HasPlan plan image)
plan_stored opened old new plan next same kept stores each =
    each_then opened old new (λ image sunk. HasPlan plan image) each
    (each_weaker old new (λ image sunk. Becomes (held old.now.image) next image × (sunk ≡ old.now.sunk))
    (λ image sunk. HasPlan plan image)
    (λ image sunk moment. becomes_plan (held old.now.image) next plan image same (kept ∙ same) moment.0)
    stores.moments)
