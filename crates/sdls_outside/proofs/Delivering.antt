-- What puts deliver, one after the other. For the crates above, whose texts are put in pieces.
use Rattle.std.proofs.Common.{◌≡◌, ℕ, ◌+◌, ◌-◌, List, [], ◌∷◌, ◌++◌, length, take, drop, Result, Ok, Err, inl, inr}
use Rattle.std.proofs.Common.{refl, ap, sym, ◌∙◌, subst, arith, append_assoc, append-nil}
use Rattle.std.proofs.Math.Seq.{take-append-add}
use Rattle.std.proofs.lemmas.List.{take-append-drop}
use Rattle.sdls_outside.specs.Disk.{Disk}
use Rattle.sdls_outside.specs.Moments.{Trace, Between}
use Rattle.sdls_outside.specs.Site.{Sank, Puts}
use Rattle.sdls_outside.specs.Output.{states, SameDisk, AllSameDisk, OnlySinks, Sinks, SinksFront, Delivers}

same_refl : (d : Disk) → SameDisk d d
same_refl d = record { image = refl; synced = refl; ranges = refl }

same_trans : (a b c : Disk) → SameDisk a b → SameDisk b c → SameDisk a c
same_trans a b c ab bc = record {
  image = bc.image ∙ ab.image;
  synced = bc.synced ∙ ab.synced;
  ranges = bc.ranges ∙ ab.ranges;
}

all_same_on : (a b : Disk) (ds : List Disk) → SameDisk a b → AllSameDisk b ds → AllSameDisk a ds
all_same_on a b [] ab all = tt
all_same_on a b (d ∷ ds) ab all = (same_trans a b d ab all.0, all_same_on a b ds ab all.1)

all_same_append : (a : Disk) (ds es : List Disk) → AllSameDisk a ds → AllSameDisk a es → AllSameDisk a (ds ++ es)
all_same_append a [] es all more = more
all_same_append a (d ∷ ds) es all more = (all.0, all_same_append a ds es all.1 more)

pub sinks_refl : (t : Trace) → OnlySinks t t
sinks_refl t = record { stands = same_refl t.now; more = []; goes_on = sym (append-nil (states t)); same_disk = tt }

pub sinks_trans : (a b c : Trace) → OnlySinks a b → OnlySinks b c → OnlySinks a c
sinks_trans a b c ab bc = record {
  stands = same_trans a.now b.now c.now ab.stands bc.stands;
  more = ab.more ++ bc.more;
  goes_on = bc.goes_on ∙ ap (λ (s : List Disk). s ++ bc.more) ab.goes_on ∙ append_assoc (states a) ab.more bc.more;
  same_disk = all_same_append a.now ab.more bc.more ab.same_disk
      (all_same_on a.now b.now bc.more ab.stands bc.same_disk);
}

sinks_from_sank : (octets : List ℕ) (old new : Trace) → Sank octets old new → OnlySinks old new
sinks_from_sank octets old new sank =
    let stands : SameDisk old.now new.now = record { image = sank.image; synced = sank.synced; ranges = sank.ranges } in
    record {
      stands = stands;
      more = new.now ∷ [];
      goes_on = ap (λ (p : List Disk). p ++ new.now ∷ []) sank.passes;
      same_disk = (stands, tt);
    }

front_from_between : (octets : List ℕ) (old new : Trace) → OnlySinks old new
    → Between old.now.sunk (old.now.sunk ++ octets) new.now.sunk → SinksFront octets old new
front_from_between octets old new only between =
    let count : ℕ = length new.now.sunk - length old.now.sunk in
    let sized : length new.now.sunk ≡ length old.now.sunk + count = omega (arith, between.least) in
    record {
      only_sinks = only;
      front = take count octets;
      rest = drop count octets;
      is_front = sym (take-append-drop count octets);
      sunk = between.prefix ∙ ap (λ (n : ℕ). take n (old.now.sunk ++ octets)) sized
          ∙ take-append-add old.now.sunk octets count;
    }

front_none : (octets : List ℕ) (t : Trace) → SinksFront octets t t
front_none octets t =
    record { only_sinks = sinks_refl t; front = []; rest = octets; is_front = refl; sunk = sym (append-nil t.now.sunk) }

-- one put delivers its octets
pub delivers_put : {T E : Type 0} (octets : List ℕ) (r : Result T E) (old new : Trace) → Puts octets r old new
    → Delivers octets r old new
delivers_put octets (Ok x) old new puts = record { only_sinks = sinks_from_sank octets old new puts.0; sunk = puts.1 }
delivers_put octets (Err e) old new puts = elim puts [
  | inl same ↦ subst (λ (t : Trace). SinksFront octets old t) (sym same) (front_none octets old)
  | inr sank ↦ front_from_between octets old new (sinks_from_sank octets old new sank) sank.sunk
]

-- nothing is put: the empty text
pub sinks_none : (t : Trace) → Sinks [] t t
sinks_none t = record { only_sinks = sinks_refl t; sunk = sym (append-nil t.now.sunk) }

-- one text after another
pub sinks_then : (first second : List ℕ) (a b c : Trace) → Sinks first a b → Sinks second b c
    → Sinks (first ++ second) a c
sinks_then first second a b c ab bc = record {
  only_sinks = sinks_trans a b c ab.only_sinks bc.only_sinks;
  sunk = bc.sunk ∙ ap (λ (s : List ℕ). s ++ second) ab.sunk ∙ append_assoc a.now.sunk first second;
}

-- a text, and a front of the next
pub front_then : (first second : List ℕ) (a b c : Trace) → Sinks first a b → SinksFront second b c
    → SinksFront (first ++ second) a c
front_then first second a b c ab bc = record {
  only_sinks = sinks_trans a b c ab.only_sinks bc.only_sinks;
  front = first ++ bc.front;
  rest = bc.rest;
  is_front = ap (λ (s : List ℕ). first ++ s) bc.is_front ∙ sym (append_assoc first bc.front bc.rest);
  sunk = bc.sunk ∙ ap (λ (s : List ℕ). s ++ bc.front) ab.sunk ∙ append_assoc a.now.sunk first bc.front;
}

-- a front of the first text is a front of both
pub front_cut : (first second : List ℕ) (a b : Trace) → SinksFront first a b → SinksFront (first ++ second) a b
front_cut first second a b ab = record {
  only_sinks = ab.only_sinks;
  front = ab.front;
  rest = ab.rest ++ second;
  is_front = ap (λ (s : List ℕ). s ++ second) ab.is_front ∙ append_assoc ab.front ab.rest second;
  sunk = ab.sunk;
}

-- a front of the second text, after the whole first one, before a third
pub front_middle : (first second third : List ℕ) (a b c : Trace) → Sinks first a b → SinksFront second b c
    → SinksFront (first ++ (second ++ third)) a c
front_middle first second third a b c ab bc =
    front_then first (second ++ third) a b c ab (front_cut second third b c bc)

-- a text, and what a call delivers of the next
pub delivers_then : {T E : Type 0} (first second : List ℕ) (r : Result T E) (a b c : Trace) → Sinks first a b
    → Delivers second r b c → Delivers (first ++ second) r a c
delivers_then first second (Ok x) a b c ab bc = sinks_then first second a b c ab bc
delivers_then first second (Err e) a b c ab bc = front_then first second a b c ab bc
