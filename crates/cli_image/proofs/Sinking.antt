-- Where nothing was done but to put octets, a crash leaves what one before may have left, for `run_stat`.
use Rattle.std.proofs.Common.{◌≡◌, ◌≢◌, ◌⊎◌, inl, inr, Some, None, ℕ, ◌<◌, ◌≤◌, List, [], ◌∷◌, ◌++◌, length, drop}
use Rattle.std.proofs.Common.{get_or, refl, sym, ◌∙◌, ap, subst, arith, append_assoc, append-nil}
use Rattle.std.proofs.lemmas.List.{drop_at, drop_all, length-append}
use Rattle.sdls_outside.specs.Disk.{Disk, Leaves, Outside}
use Rattle.sdls_outside.specs.Moments.{Trace, clock, Moments, MomentSince, EachMoment, Continues}
use Rattle.sdls_outside.proofs.Moments.{moment_split}
use Rattle.sdls_outside.specs.Output.{states, SameDisk, AllSameDisk, OnlySinks}
use Rattle.disk_journal.proofs.Refused.{short_verdict}
use Rattle.unit_state.specs.declared.state.State.{State}
use Rattle.unit_image.specs.Shows.{Shows}

leaves_back : (old new : Disk) → SameDisk old new → (image : List ℕ) → Leaves new image → Leaves old image
leaves_back old new same image leaves = record {
  no_shorter = subst (λ (synced : List ℕ). length synced ≤ length image) same.synced leaves.no_shorter;
  no_longer = subst (λ (reads : List ℕ). length image ≤ length reads) same.image leaves.no_longer;
  outside = λ i below away.
      leaves.outside i (subst (λ (synced : List ℕ). i < length synced) (sym same.synced) below)
      (subst (λ (ranges : List (ℕ × ℕ)). Outside ranges i) (sym same.ranges) away)
      ∙ ap (λ (synced : List ℕ). get_or synced i 0) same.synced;
}

moments_back : (base : Disk) (past : List Disk) (now : Disk) (image sunk : List ℕ) → AllSameDisk base past
    → SameDisk base now
    → Moments past now image sunk → Leaves base image
moments_back base [] now image sunk all same moment = leaves_back base now same image moment.0
moments_back base (disk ∷ past) now image sunk all same (inl call) = leaves_back base disk all.0 image call.0
moments_back base (disk ∷ past) now image sunk all same (inr rest) =
    moments_back base past now image sunk all.1 same rest

snoc_same : (xs ys : List Disk) (x y : Disk) → xs ++ x ∷ [] ≡ ys ++ y ∷ [] → (xs ≡ ys) × (x ≡ y)
snoc_same [] [] x y is = (refl, cc)
snoc_same [] (b ∷ ys) x y is =
    let l : 1 ≡ length (b ∷ ys ++ y ∷ []) = ap length is in let m = length-append ys (y ∷ []) in absurd (omega arith)
snoc_same (a ∷ xs) [] x y is =
    let l : length (a ∷ xs ++ x ∷ []) ≡ 1 = ap length is in let m = length-append xs (x ∷ []) in absurd (omega arith)
snoc_same (a ∷ xs) (b ∷ ys) x y is =
    let head : a ≡ b = cc in let tail : xs ++ x ∷ [] ≡ ys ++ y ∷ [] = cc in
    let rest = snoc_same xs ys x y tail in
    (ap (λ (d : Disk). d ∷ xs) head ∙ ap (λ (l : List Disk). b ∷ l) rest.0, rest.1)

last_of : (xs : List Disk) → (xs ≡ []) ⊎ ((front : List Disk) × (last : Disk) × (xs ≡ front ++ last ∷ []))
last_of [] = inl refl
last_of (x ∷ xs) = elim (last_of xs) [
  | inl none ↦ inr ([], x, ap (λ (l : List Disk). x ∷ l) none)
  | inr some ↦ inr (x ∷ some.0, some.1, ap (λ (l : List Disk). x ∷ l) some.2)
]

all_front : (base : Disk) (xs ys : List Disk) → AllSameDisk base (xs ++ ys) → AllSameDisk base xs
all_front base [] ys all = tt
all_front base (x ∷ xs) ys all = (all.0, all_front base xs ys all.1)

itself : (disk : Disk) → SameDisk disk disk
itself disk = record { image = refl; synced = refl; ranges = refl }

-- how the trace goes on, and that all that stood since is the disk as it was
abbrev Goes : Trace → Trace → Type 0
Goes old new =
    (new ≡ old) ⊎ ((since : List Disk) × (new.past ≡ old.past ++ old.now ∷ since) × AllSameDisk old.now since)

goes : (old new : Trace) → OnlySinks old new → Goes old new
goes old new sinks = elim (last_of sinks.more) [
  | inl none ↦
      let same : states new ≡ states old = sinks.goes_on ∙ ap (λ (l : List Disk). states old ++ l) none
      ∙ append-nil (states old) in
      let both = snoc_same new.past old.past new.now old.now same in
      inl (ap (λ (past : List Disk). record { now = new.now; past = past }) both.0
      ∙ ap (λ (now : Disk). record { now = now; past = old.past }) both.1)
  | inr some ↦
      let same : states new ≡ (states old ++ some.0) ++ some.1 ∷ [] =
      sinks.goes_on ∙ ap (λ (l : List Disk). states old ++ l) some.2
      ∙ sym (append_assoc (states old) some.0 (some.1 ∷ [])) in
      let both = snoc_same new.past (states old ++ some.0) new.now some.1 same in
      inr (
        some.0,
        both.0 ∙ append_assoc old.past (old.now ∷ []) some.0,
        all_front old.now some.0 (some.1 ∷ []) (subst (AllSameDisk old.now) some.2 sinks.same_disk),
      )
]

continues : (old new : Trace) → Goes old new → Continues old new
continues old new (inl same) = inl same
continues old new (inr more) = inr (more.0, more.1)

each_back : (old new : Trace) → OnlySinks old new → Goes old new → (image sunk : List ℕ)
    → MomentSince (clock old) new image sunk
    → Leaves old.now image
each_back old new sinks (inl same) image sunk moment =
    let here : Moments [] old.now image sunk =
    subst (λ (past : List Disk). Moments past old.now image sunk) (drop_all (clock old) old.past (omega arith))
    (subst (λ (trace : Trace). MomentSince (clock old) trace image sunk) same moment) in
    here.0
each_back old new sinks (inr more) image sunk moment =
    let since : drop (clock old) new.past ≡ old.now ∷ more.0 =
    ap (drop (clock old)) more.1 ∙ drop_at old.past (old.now ∷ more.0) (clock old) refl in
    moments_back old.now (old.now ∷ more.0) new.now image sunk (itself old.now, more.2) sinks.stands
    (subst (λ (past : List Disk). Moments past new.now image sunk) since moment)

later : (old new : Trace) → Goes old new → clock old ≤ clock new
later old new (inl same) = let l : clock new ≡ clock old = ap clock same in omega arith
later old new (inr more) =
    let l : clock new ≡ length (old.past ++ old.now ∷ more.0) = ap (λ (past : List Disk). length past) more.1 in
    let m = length-append old.past (old.now ∷ more.0) in omega arith

pub sinks_leave : (old new : Trace) → OnlySinks old new → EachMoment old new (λ image sunk. Leaves old.now image)
sinks_leave old new sinks =
    let on = goes old new sinks in
    record {
      later = later old new on;
      each = each_back old new sinks on;
      before = λ time image sunk early moment.
          elim (moment_split old new time image sunk (continues old new on) early moment) [
            | inl first ↦ inl first
            | inr rest ↦ inr (each_back old new sinks on image sunk rest)
          ];
    }

some_none : (offset : ℕ) → None ≡ Some offset → ⊥
some_none offset is = cc

-- an image that shows a state is there
pub is_there : (image : List ℕ) (state : State) → Shows image state → image ≢ []
is_there image state shows none =
    let sized : length image ≡ 0 = ap length none in
    some_none 0 (sym shows.holds.opens ∙ short_verdict image (omega arith))
