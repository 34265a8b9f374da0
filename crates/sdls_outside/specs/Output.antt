-- What was put on a site, in any number of pieces.
use Rattle.std.specs.Prelude.{◌≡◌, ℕ, ⊤, List, [], ◌∷◌, ◌++◌, Result, MatchResult}
use Rattle.sdls_outside.specs.Disk.{Disk}
use Rattle.sdls_outside.specs.Moments.{Trace}

-- what stood outside, from the beginning to now
abbrev pub states : Trace → List Disk
states trace = trace.past ++ trace.now ∷ []

-- the image, what is pending of it and what was synced are the same
pub record SameDisk (old new : Disk) : Type 0 where
  pub image : new.image ≡ old.image
  pub synced : new.synced ≡ old.synced
  pub ranges : new.ranges ≡ old.ranges

abbrev pub AllSameDisk : Disk → List Disk → Type 0
AllSameDisk old [] = ⊤
AllSameDisk old (disk ∷ disks) = SameDisk old disk × AllSameDisk old disks

-- the disk stands as it was, and stood so after each call since
pub record OnlySinks (old new : Trace) : Type 0 where
  pub stands : SameDisk old.now new.now
  pub more : List Disk
  pub goes_on : states new ≡ states old ++ more
  pub same_disk : AllSameDisk old.now more

-- the whole text was sunk, and nothing else was done
pub record Sinks (text : List ℕ) (old new : Trace) : Type 0 where
  pub only_sinks : OnlySinks old new
  pub sunk : new.now.sunk ≡ old.now.sunk ++ text

-- a front of the text was sunk, and nothing else was done
pub record SinksFront (text : List ℕ) (old new : Trace) : Type 0 where
  pub only_sinks : OnlySinks old new
  pub front : List ℕ
  pub rest : List ℕ
  pub is_front : text ≡ front ++ rest
  pub sunk : new.now.sunk ≡ old.now.sunk ++ front

-- Ok: the whole text was sunk. Err: a front of it.
abbrev pub Delivers : {T E : Type 0} → List ℕ → Result T E → Trace → Trace → Type 0
Delivers text result old new = MatchResult result (λ _. Sinks text old new) (λ _. SinksFront text old new)
