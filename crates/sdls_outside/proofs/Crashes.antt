-- What each kind of crash leaves is one of the images that a crash may leave.
use Rattle.std.proofs.Common.{◌≡◌, ℕ, ◌≤◌, List, length, refl, sym, ◌∙◌, subst, arith}
use Rattle.sdls_outside.specs.Disk.{Disk, Leaves}
use Rattle.sdls_outside.specs.Crash.{LeftBy}
use Rattle.sdls_outside.specs.declared.mem_site.Crash.{Crash}
use Rattle.sdls_outside.specs.declared.mem_site.Crash.TheVariants.{Kept, Lost, Filled}

pub left-leaves : (how : Crash) (disk : Disk) (image : List ℕ) → Leaves disk disk.image → LeftBy how disk image
    → Leaves disk image
left-leaves Kept disk image stays left = subst (λ (octets : List ℕ). Leaves disk octets) (sym left) stays
left-leaves Lost disk image stays left =
    let synced : Leaves disk disk.synced =
    record { no_shorter = omega arith; no_longer = stays.no_shorter; outside = λ i below away. refl } in
    subst (λ (octets : List ℕ). Leaves disk octets) (sym left) synced
left-leaves (Filled octet) disk image stays left =
    let long : length image ≡ length disk.image = left.same_length in
    let shorter : length disk.synced ≤ length disk.image = stays.no_shorter in
    record {
      no_shorter = omega arith;
      no_longer = omega arith;
      outside = λ i below away. left.outside i away ∙ stays.outside i below away;
    }
