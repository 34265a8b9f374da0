-- One lane more is joined.
use Rattle.std.proofs.Common.{◌≡◌, ◌≢◌, ℕ, zero, suc, ◌+◌, ◌<◌, ◌==◌, eqb, List, [], ◌∷◌, ◌++◌, length, Bool, true}
use Rattle.std.proofs.Common.{false, refl, sym, ◌∙◌, ap, subst, inl, inr, arith, length-append, if◌then◌else◌}
use Rattle.std.specs.List.{All, AllPairs, Contains, slice_index_or}
use Rattle.std.proofs.lemmas.Bool.{cases_eq}
use Rattle.std.proofs.lemmas.Bool.Decides.{nat_tests}
use Rattle.std.proofs.lemmas.List.{get_or_append_left, get_or-append-add}
use Rattle.std.proofs.lemmas.List.Elements.{All-nil, All-push, All-contains_itself, Contains-push, Contains-append_left}
use Rattle.std.proofs.lemmas.List.Elements.{Contains-append_right}
use Rattle.std.proofs.lemmas.List.Quantifiers.{all_pairs_push}
use Rattle.counter_table.specs.declared.view.View.{View}
use Rattle.record_io.specs.declared.item_cursor.Record.{Record}
use Rattle.record_io.specs.declared.answers.Answer.{Answer}
use Rattle.law_workers.specs.Views.{meeting, Meets}
use Rattle.law_workers.specs.Deeds.{deeds_of}
use Rattle.law_workers.specs.Lanes.{of_lane, Part, meeting_all, MeetAll, parts_deeds}
use Rattle.frame_workers.specs.declared.lane.Lane.{Lane}
use Rattle.frame_workers.specs.Lanes.{part_of, parts_of, answers_of, HaveOwnNumbers, AreAmong}

pub parts_push : {B : Type 0} (xs : List (Lane B)) (x : Lane B) → parts_of (xs ++ x ∷ []) ≡ part_of x ∷ parts_of xs
parts_push [] x = refl
parts_push (y ∷ xs) x = ap (λ (l : List Part). l ++ part_of y ∷ []) (parts_push xs x)

-- a fact of each lane is one of each part
pub parts_all : {B : Type 0} (P : Part → Type 0) (lanes : List (Lane B))
    → All (λ (lane : Lane B). P (part_of lane)) lanes → All P (parts_of lanes)
parts_all P [] h = All-nil P
parts_all {B} P (lane ∷ lanes) h =
    All-push P (parts_of lanes) (part_of lane) (parts_all P lanes (λ k d l. h (suc k) d (omega arith)))
    (h 0 lane (omega arith))

pub parts_counted : {B : Type 0} (lanes : List (Lane B)) → length (parts_of lanes) ≡ length lanes
parts_counted [] = refl
parts_counted (lane ∷ lanes) = length-append (parts_of lanes) (part_of lane ∷ [])
    ∙ ap (λ (n : ℕ). n + 1) (parts_counted lanes) ∙ omega arith

-- the parts of lanes that are apart are so
pub parts_apart : {B : Type 0} (lanes : List (Lane B)) → AllPairs HaveOwnNumbers lanes
    → AllPairs (λ (p q : Part). p.number ≢ q.number) (parts_of lanes)
parts_apart [] h = λ i j d lt l. absurd (omega arith)
parts_apart {B} (lane ∷ lanes) h =
    let other : All (λ (p : Part). p.number ≢ lane.number) (parts_of lanes) =
    parts_all (λ (p : Part). p.number ≢ lane.number) lanes
    (λ k d l e. h 0 (suc k) d (omega arith) (omega arith) (sym e)) in
    all_pairs_push (λ (p q : Part). p.number ≢ q.number) (parts_of lanes) (part_of lane)
    (parts_apart lanes (λ i j d lt l. h (suc i) (suc j) d (omega arith) (omega arith))) (λ k d l. other k d l)

module _ (rows : ℕ) (now new w : View) (old left : List Part) (part : Part) (is : old ≡ part ∷ left)
    (met : new ≡ meeting now w) (view_is : w ≡ part.knows) where
  here : new ≡ meeting now part.knows
  here = met ∙ ap (meeting now) view_is

  pub joined_next : meeting_all new left ≡ meeting_all now old
  joined_next = ap (λ (v : View). meeting_all v left) here ∙ ap (meeting_all now) (sym is)

  pub meet_next : Meets rows now w → MeetAll rows new left → MeetAll rows now old
  meet_next m all = subst (MeetAll rows now) (sym is)
      (subst (Meets rows now) view_is m, subst (λ (v : View). MeetAll rows v left) here all)

-- the answers of the lane with this number: of one that is to be joined, or else what is kept of it
abbrev pub answers_or : ℕ → List Part → List Answer → List Answer
answers_or number [] kept = kept
answers_or number (part ∷ parts) kept = if part.number == number then part.answers else answers_or number parts kept

pub none_kept : (number : ℕ) (parts : List Part) → answers_or number parts [] ≡ answers_of number parts
none_kept number [] = refl
none_kept number (part ∷ parts) =
    ap (λ (l : List Answer). if part.number == number then part.answers else l) (none_kept number parts)

-- where none of the lanes that are left has the number, what is kept stays
pub kept_stays : (number : ℕ) (parts : List Part) (kept : List Answer) → All (λ (p : Part). p.number ≢ number) parts
    → answers_or number parts kept ≡ kept
kept_stays number [] kept h = refl
kept_stays number (part ∷ parts) kept h =
    let off : part.number ≢ number = h 0 part (omega arith) in
    let f : eqb part.number number ≡ false = grind (arith, nat_tests) in
    let rest = kept_stays number parts kept (λ k d l. h (suc k) d (omega arith)) in
    rw f rest

-- one more is kept under its number
pub keeps_next : (part : Part) (left : List Part) (before after : ℕ → List Answer)
    → All (λ (p : Part). p.number ≢ part.number) left
    → after part.number ≡ part.answers → ((n : ℕ) → n ≢ part.number → after n ≡ before n)
    → (n : ℕ) → answers_or n left (after n) ≡ answers_or n (part ∷ left) (before n)
keeps_next part left before after apart own others n = elim (cases_eq part.number n) [
  | inl is ↦
      let t : eqb part.number n ≡ true = grind (arith, nat_tests) in
      let h : answers_or part.number left (after part.number) ≡ part.answers =
      kept_stays part.number left (after part.number) apart ∙ own in
      let g : answers_or n left (after n) ≡ part.answers =
      subst (λ (m : ℕ). answers_or m left (after m) ≡ part.answers) is h in
      g ∙ sym (ap (λ (b : Bool). if b then part.answers else answers_or n left (before n)) t)
  | inr off ↦
      let f : eqb part.number n ≡ false = grind (arith, nat_tests) in
      let same : after n ≡ before n = others n (λ e. off (sym e)) in
      ap (answers_or n left) same ∙ sym (ap (λ (b : Bool). if b then part.answers else answers_or n left (before n)) f)
]

-- the answers of each lane are among those of all
pub each_among : (segment : ℕ) (tasks : List Record) (parts : List Part) (number : ℕ)
    → AreAmong (parts_deeds segment tasks parts) segment number tasks (answers_of number parts)
each_among segment tasks [] number = none (of_lane number tasks)
  where
    none : (ts : List Record) → All (Contains []) (deeds_of segment ts [])
    none [] = All-nil (Contains [])
    none (t ∷ ts) = All-nil (Contains [])
each_among segment tasks (part ∷ parts) number = elim (cases_eq part.number number) [
  | inl is ↦
      let t : eqb part.number number ≡ true = grind (arith, nat_tests) in
      rw t (subst (λ (n : ℕ).
      All (Contains (deeds_of segment (of_lane part.number tasks) part.answers ++ parts_deeds segment tasks parts))
      (deeds_of segment (of_lane n tasks) part.answers)) is
      (λ k d l. Contains-append_left (deeds_of segment (of_lane part.number tasks) part.answers)
      (parts_deeds segment tasks parts) _
      (All-contains_itself (deeds_of segment (of_lane part.number tasks) part.answers) k d l)))
  | inr off ↦
      let f : eqb part.number number ≡ false = grind (arith, nat_tests) in
      let rest = each_among segment tasks parts number in
      rw f (λ k d l. Contains-append_right (deeds_of segment (of_lane part.number tasks) part.answers)
      (parts_deeds segment tasks parts) _ (rest k d l))
]

pub part_among : {B : Type 0} (lanes : List (Lane B)) (k : ℕ) (d : Lane B) → k < length lanes
    → Contains (parts_of lanes) (part_of (slice_index_or lanes k d))
part_among [] k d l = absurd (omega arith)
part_among (x ∷ lanes) zero d l = Contains-push (parts_of lanes) (part_of x)
part_among (x ∷ lanes) (suc k) d l =
    Contains-append_left (parts_of lanes) (part_of x ∷ []) _ (part_among lanes k d (omega arith))

-- the answers of a lane that is there
pub answers_found : {B : Type 0} (lanes : List (Lane B)) (k : ℕ) (d : Lane B) → AllPairs HaveOwnNumbers lanes
    → k < length lanes
    → answers_of (slice_index_or lanes k d).number (parts_of lanes) ≡ (slice_index_or lanes k d).answers.items
answers_found {B} lanes k d apart low =
    all_found (parts_of lanes) (parts_apart lanes apart) (slice_index_or lanes k d) (part_among lanes k d low)
  where
    all_found : (parts : List Part) → AllPairs (λ (p q : Part). p.number ≢ q.number) parts → (lane : Lane B)
        → Contains parts (part_of lane)
        → answers_of lane.number parts ≡ lane.answers.items
    all_found [] h lane c = absurd (let l = c.1 in omega arith)
    all_found (p ∷ ps) h lane (zero, l, is) = (let e : p ≡ part_of lane = is in
        subst (λ (q : Part). answers_of lane.number (q ∷ ps) ≡ lane.answers.items) (sym e)
        (let t : eqb lane.number lane.number ≡ true = grind (arith, nat_tests) in rw t refl))
    all_found (p ∷ ps) h lane (suc i, l, is) =
        let here : slice_index_or ps i (part_of lane) ≡ part_of lane = is in
        let off : p.number ≢ lane.number =
        λ e. h 0 (suc i) (part_of lane) (omega arith) (omega arith) (e ∙ ap (λ (q : Part). q.number) (sym here)) in
        let f : eqb p.number lane.number ≡ false = grind (arith, nat_tests) in
        let rest = all_found ps (λ i j d lt m. h (suc i) (suc j) d (omega arith) (omega arith)) lane
        (i, omega arith, is) in
        rw f rest

-- of a list whose last element is taken
pub pairs_pop : {X : Type 0} (R : X → X → Type 0) (xs ys : List X) (x : X) → xs ≡ ys ++ x ∷ [] → AllPairs R xs
    → AllPairs R ys × All (λ y. R y x) ys
pairs_pop {X} R xs ys x is all =
    let whole : AllPairs R (ys ++ x ∷ []) = subst (AllPairs R) is all in
    let size = length-append ys (x ∷ []) in (
      λ i j d lt low. subst (R (slice_index_or ys i d)) (get_or_append_left ys (x ∷ []) d j low)
          (subst (λ (z : X). R z (slice_index_or (ys ++ x ∷ []) j d)) (get_or_append_left ys (x ∷ []) d i (omega arith))
          (whole i j d lt (omega arith))),
      λ i d low. subst (R (slice_index_or ys i d)) (get_or-append-add ys (x ∷ []) 0 d)
          (subst (λ (z : X). R z (slice_index_or (ys ++ x ∷ []) (length ys + 0) d))
          (get_or_append_left ys (x ∷ []) d i low) (whole i (length ys + 0) d (omega arith) (omega arith))),
    )
