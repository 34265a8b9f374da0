-- In every life no two answers use one number under one key, and no two accept one, by identifier or by octets; and
-- each
-- image that it left shows a state.
use Rattle.std.proofs.Common.{◌≡◌, ◌≢◌, ◌⊎◌, ℕ, zero, suc, ◌+◌, ◌-◌, ◌<◌, ◌≤◌, nat_lt, List, [], ◌∷◌, ◌++◌, length}
use Rattle.std.proofs.Common.{take, Some, None, Option, IsSomeAnd, Bool, true, false, refl, sym, ◌∙◌, ap, subst, inl}
use Rattle.std.proofs.Common.{inr, arith, append_assoc, append-nil, if◌then◌else◌}
use Rattle.std.specs.List.{All, AllPairs, slice_index_or}
use Rattle.std.proofs.lemmas.List.Elements.{All-append}
use Rattle.std.proofs.lemmas.List.Kept.{AllPairs-cons}
use Rattle.std.proofs.lemmas.Bool.Decides.{nat_tests}
use Rattle.sdls_base.specs.declared.entry.Entry.{Entry}
use Rattle.unit_image.specs.Image.{held, HasOneClosed, IsOpenedForm}
use Rattle.unit_image.specs.OpeningImage.{LeftByOpening}
use Rattle.law_image.specs.Keeping.{IsShown, KeepsForms}
use Rattle.law_image.proofs.Images.{shown_before, shows_next, stays_opened}
use Rattle.key_book.specs.declared.key_row.KeyRow.{KeyRow}
use Rattle.record_io.specs.declared.reader.RecordKind.{RecordKind}
use Rattle.record_io.specs.declared.reader.RecordKind.TheVariants.{Protect, Open, Command, Monitor}
use Rattle.record_io.specs.declared.answers.Answer.{Answer}
use Rattle.record_io.specs.Answers.{answer_octets}
use Rattle.record_io.specs.Places.{records_of}
use Rattle.unit_state.specs.declared.state.State.{State}
use Rattle.unit_state.specs.State.{KeepsRules, key_row}
use Rattle.unit_state.specs.Applied.{applied}
use Rattle.unit_state.specs.Restart.{restarted, counts}
use Rattle.unit_state.specs.History.{after_all, after_first, at_epoch, epoch_after}
use Rattle.unit_state.proofs.Histories.{after_more, at_epoch_more}
use Rattle.unit_state.proofs.StateLaws.{restarted_twice}
use Rattle.unit_image.specs.Shows.{Shows}
use Rattle.run_promise.specs.Numbers.{mark_of, floor_of, released_floor, kept_floor}
use Rattle.run_promise.specs.Answers.{Uses, Accepts, Told, told_by, unbound_told, IsCodeOf}
use Rattle.run_promise.specs.Fits.{Course, Fits, FitsKind, state_in, protect_reply, layout_check}
use Rattle.law_history.specs.Laws.{IsBelowReleases}
use Rattle.run_promise.specs.History.{NearWord, TurnIn}
use Rattle.law_history.specs.Taken.{IsLoadedWith}
use Rattle.law_history.proofs.Codes.{fits_code}
use Rattle.law_history.proofs.Accepting.{taken_kept, kept_low as floor_kept_low, taken_restarted}
use Rattle.law_history.proofs.Along.{OfRun, rules_along, kept_along, below_along, of_places}
use Rattle.law_history.proofs.Loaded.{loaded_along, octets_loaded, one_key}
use Rattle.law_history.proofs.Marks.{release_entry}
use Rattle.std.specs.Prelude.{unwrap_or, is_none, min, Ok, Err}
use Rattle.std.specs.Option.{option_map_or}
use Rattle.std.proofs.lemmas.List.{length-take, take-take}
use Rattle.std.proofs.lemmas.Option.{none-some, same_Some}
use Rattle.sdls_base.specs.FirstFailing.{first_failing}
use Rattle.sdls_base.specs.declared.link.Link.{Link}
use Rattle.sdls_base.specs.declared.entry.Change.TheVariants as changes
use Rattle.sdls_base.specs.declared.entry.Seen.TheVariants as seens
use Rattle.frame_shield.specs.declared.binding.Binding.{Binding}
use Rattle.frame_shield.specs.declared.protecting_frames.ShieldFault.TheVariants as faults
use Rattle.frame_checks.specs.Header.{lacks_header, is_clear, channel_of}
use Rattle.frame_checks.specs.ProtectingFrames.{protect_check, answer_on, channel_on, sender_of, has_channel}
use Rattle.frame_checks.specs.ProtectingFrames.{tells_channel}
use Rattle.frame_checks.specs.ProtectingFrames as protecting
use Rattle.record_io.specs.declared.code.TheConstants.{PROTECTED, DONE}
use Rattle.unit_plan.specs.PlanLines.{PlanLines, link_of}
use Rattle.run_promise.specs.Deed.{is_protected, Deed, is_ordered, tells_entry, Differ}
use Rattle.run_promise.specs.Sound.{EachBegun, IsCoveredBy}
use Rattle.run_promise.specs.Life.{LifeRun, IsRun, IsBeginning, FollowFrom, IsLife, left_by, Given, answers_begun}
use Rattle.run_promise.specs.Life.{given_of, given_in, state_told, UsesOctets, AcceptsOctets, AreApart, OnceInLife}
use Rattle.law_runs.specs.Known.{Knows, LeavesKnowing}

all_cons : {X : Type 0} (P : X → Type 0) (x : X) (xs : List X) → P x → All P xs → All P (x ∷ xs)
all_cons P x xs h t zero d low = h
all_cons P x xs h t (suc k) d low = t k d (omega arith)

all_tail : {X : Type 0} (P : X → Type 0) (x : X) (xs : List X) → All P (x ∷ xs) → All P xs
all_tail P x xs h k d low = h (suc k) d (omega arith)

pairs_head : {X : Type 0} (R : X → X → Type 0) (x : X) (xs : List X) → AllPairs R (x ∷ xs) → All (R x) xs
pairs_head R x xs h k d low = h 0 (suc k) d (omega arith) (omega arith)

pairs_tail : {X : Type 0} (R : X → X → Type 0) (x : X) (xs : List X) → AllPairs R (x ∷ xs) → AllPairs R xs
pairs_tail R x xs h i j d lt low = h (suc i) (suc j) d (omega arith) (omega arith)

pairs_append : {X : Type 0} (R : X → X → Type 0) (xs ys : List X) → AllPairs R xs → AllPairs R ys
    → All (λ (x : X). All (R x) ys) xs → AllPairs R (xs ++ ys)
pairs_append {X} R [] ys first second cross = second
pairs_append {X} R (x ∷ xs) ys first second cross =
    AllPairs-cons R x (xs ++ ys) (All-append (R x) xs ys (pairs_head R x xs first) (cross 0 x (omega arith)))
    (pairs_append R xs ys (pairs_tail R x xs first) second (all_tail (λ (x : X). All (R x) ys) x xs cross))

pub begun_any : (P : Deed → Type 0) (count : ℕ) (ds : List Deed) → All P ds → All P (answers_begun count ds)
begun_any P count [] h = h
begun_any P count (d ∷ ds) h =
    go (nat_lt 0 count) (begun_any P (count - length (answer_octets d.answer)) ds (all_tail P d ds h))
  where
    go : (b : Bool) → All P (answers_begun (count - length (answer_octets d.answer)) ds)
        → All P (if b then d ∷ answers_begun (count - length (answer_octets d.answer)) ds else [])
    go true rest = all_cons P d (answers_begun (count - length (answer_octets d.answer)) ds) (h 0 d (omega arith)) rest
    go false rest = λ k e low. absurd (omega arith)

begun_all : (P : Deed → Type 0) (count : ℕ) (ds : List Deed) → EachBegun P count ds → All P (answers_begun count ds)
begun_all P count [] h = λ k e low. absurd (omega arith)
begun_all P count (d ∷ ds) h = go (nat_lt 0 count) refl (begun_all P (count - length (answer_octets d.answer)) ds h.1)
  where
    go : (b : Bool) → nat_lt 0 count ≡ b → All P (answers_begun (count - length (answer_octets d.answer)) ds)
        → All P (if b then d ∷ answers_begun (count - length (answer_octets d.answer)) ds else [])
    go true is rest = all_cons P d (answers_begun (count - length (answer_octets d.answer)) ds)
        (h.0 (grind (arith, nat_tests))) rest
    go false is rest = λ k e low. absurd (omega arith)

begun_pairs : (R : Deed → Deed → Type 0) (count : ℕ) (ds : List Deed) → AllPairs R ds
    → AllPairs R (answers_begun count ds)
begun_pairs R count [] h = h
begun_pairs R count (d ∷ ds) h =
    go (nat_lt 0 count) (begun_pairs R (count - length (answer_octets d.answer)) ds (pairs_tail R d ds h))
  where
    go : (b : Bool) → AllPairs R (answers_begun (count - length (answer_octets d.answer)) ds)
        → AllPairs R (if b then d ∷ answers_begun (count - length (answer_octets d.answer)) ds else [])
    go true rest = AllPairs-cons R d (answers_begun (count - length (answer_octets d.answer)) ds)
        (begun_any (R d) (count - length (answer_octets d.answer)) ds (pairs_head R d ds h)) rest
    go false rest = λ i j e lt low. absurd (omega arith)

module _ (course : Course) where
  abbrev pub as_given : Deed → Given
  as_given deed = record { course = course; deed = deed }

  pub given_all : (P : Given → Type 0) (ds : List Deed) → All (λ (d : Deed). P (as_given d)) ds
      → All P (given_of course ds)
  given_all P [] h = λ k e low. absurd (omega arith)
  given_all P (d ∷ ds) h = all_cons P (as_given d) (given_of course ds) (h 0 d (omega arith))
      (given_all P ds (all_tail (λ (d : Deed). P (as_given d)) d ds h))

  given_pairs : (R : Given → Given → Type 0) (ds : List Deed)
      → AllPairs (λ (d e : Deed). R (as_given d) (as_given e)) ds → AllPairs R (given_of course ds)
  given_pairs R [] h = λ i j e lt low. absurd (omega arith)
  given_pairs R (d ∷ ds) h = AllPairs-cons R (as_given d) (given_of course ds)
      (given_all (R (as_given d)) ds (pairs_head (λ (d e : Deed). R (as_given d) (as_given e)) d ds h))
      (given_pairs R ds (pairs_tail (λ (d e : Deed). R (as_given d) (as_given e)) d ds h))

-- what a state knows of an answer that was given, and that the keys of its numbers were loaded with their octets
pub record IsKnown (state : State) (given : Given) : Type 0 where
  pub below : (key number : ℕ) → Uses given.deed.answer key number → number < mark_of state key
  pub floored : (key number : ℕ) → Accepts given.deed.answer key number → number ≤ floor_of state key
  pub named : (key : ℕ) (octets : List ℕ) (number : ℕ) → UsesOctets given key octets number
      → IsLoadedWith state key octets
  pub opened : (key : ℕ) (octets : List ℕ) (number : ℕ) → AcceptsOctets given key octets number
      → IsLoadedWith state key octets

-- a state that an image shows is one that a restart left
left_restarted : (image : List ℕ) (state : State) → Shows image state → restarted state ≡ state
left_restarted image state shows =
    ap restarted shows.says.left ∙ (restarted_twice shows.says.last ∙ sym shows.says.left)

-- the state of an epoch that was reached is that after some of the entries
epoch_place : (start : State) (entries : List Entry) (epoch : ℕ) → epoch ≤ epoch_after entries
    → (k : ℕ) × (k ≤ length entries) × (at_epoch start entries epoch ≡ after_first start entries k)
epoch_place start entries zero low = (0, omega arith, refl)
epoch_place start [] (suc epoch) low = absurd (omega arith)
epoch_place start (entry ∷ entries) (suc epoch) low = go (counts entry.change) low
    (λ e l. epoch_place (applied start entry.change) entries e l)
  where
    go : (b : Bool) → suc epoch ≤ (if b then 1 else 0) + epoch_after entries
        → ((e : ℕ) → e ≤ epoch_after entries → (k : ℕ) × (k ≤ length entries)
        × (at_epoch (applied start entry.change) entries e ≡ after_first (applied start entry.change) entries k))
        → (k : ℕ) × (k ≤ suc (length entries))
        × (at_epoch (applied start entry.change) entries (if b then epoch else suc epoch)
        ≡ after_first start (entry ∷ entries) k)
    go true l f = let (k, within, is) = f epoch (omega arith) in (suc k, omega arith, is)
    go false l f = let (k, within, is) = f (suc epoch) (omega arith) in (suc k, omega arith, is)

-- what a key was loaded with at a place it was loaded with at each later one
loaded_later : (start : State) (entries : List Entry) (p q key : ℕ) (octets : List ℕ) → p ≤ q
    → IsLoadedWith (after_first start entries p) key octets
    → IsLoadedWith (after_first start entries q) key octets
loaded_later start entries p q key octets low h =
    let (rest, is) = front entries p q low in
    subst (λ (es : List Entry). IsLoadedWith (after_all start es) key octets) (sym is)
    (subst (λ (s : State). IsLoadedWith s key octets) (sym (after_more start (take p entries) rest))
    (loaded_along (after_first start entries p) rest key octets h))
  where
    front : (entries : List Entry) (p q : ℕ) → p ≤ q → (rest : List Entry) × (take q entries ≡ take p entries ++ rest)
    front [] zero zero low = ([], refl)
    front [] zero (suc q) low = ([], refl)
    front [] (suc p) zero low = ([], refl)
    front [] (suc p) (suc q) low = ([], refl)
    front (e ∷ es) zero q low = (take q (e ∷ es), refl)
    front (e ∷ es) (suc p) zero low = absurd (omega arith)
    front (e ∷ es) (suc p) (suc q) low = let (rest, is) = front es p q (omega arith) in
        (rest, ap (λ (l : List Entry). e ∷ l) is)

-- ---- the state in which an answer found its key

abbrev Bound : protecting.Answer → Type 0
Bound answer = (b : Binding) × (answer ≡ Ok (Some b))

-- a frame that is bound is of a channel
bound_channel : (plan : PlanLines) (state : State) (link : ℕ) (clear : List ℕ) (binding : Binding)
    → protect_reply plan state link clear ≡ Ok (Some binding) → has_channel plan link clear ≡ true
bound_channel plan state link clear binding is =
    by_line (link_of plan.links link) (checked (protect_check plan state link clear) refl is)
  where
    checked : (answer : protecting.Answer) → protect_check plan state link clear ≡ answer
        → layout_check clear answer ≡ Ok (Some binding) → Bound answer
    checked (Ok (Some b)) here e = (b, refl)
    checked (Ok None) here e = absurd (let k : ◌≡◌ {A = protecting.Answer} (Ok None) (Ok (Some binding)) = e in cc)
    checked (Err fault) here e = absurd (let k : ◌≡◌ {A = protecting.Answer} (Err fault) (Ok (Some binding)) = e in cc)

    told : (a b c d : Bool) (last : protecting.Answer)
        → Bound (unwrap_or
        (first_failing ((a, Err (faults.Layout 1)) ∷ (b, Ok None) ∷ (c, Err faults.Channel) ∷ (d, Err faults.State)
        ∷ [])) last)
        → (a ≡ false) × (b ≡ false) × (c ≡ false)
    told true b c d last (x, e) = absurd (let k : ◌≡◌ {A = protecting.Answer} (Err (faults.Layout 1)) (Ok (Some x)) =
        e in cc)
    told false true c d last (x, e) = absurd (let k : ◌≡◌ {A = protecting.Answer} (Ok None) (Ok (Some x)) = e in cc)
    told false false true d last (x, e) =
        absurd (let k : ◌≡◌ {A = protecting.Answer} (Err faults.Channel) (Ok (Some x)) = e in cc)
    told false false false d last h = (refl, refl, refl)

    found : (a b : Bool) (channel : Option ℕ) → a ≡ false → b ≡ false → is_none channel ≡ false
        → tells_channel
        (unwrap_or
        (first_failing ((a, Err (faults.Layout 1)) ∷ (b, Ok None) ∷ (is_none channel, Err faults.Channel) ∷ []))
        (Ok channel)) ≡ true
    found true b channel p q r = absurd cc
    found false true channel p q r = absurd cc
    found false false None p q r = absurd (let k : true ≡ false = r in cc)
    found false false (Some channel) p q r = refl

    by_line : (o : Option Link) → Bound (option_map_or (answer_on plan state link clear) o (Err (faults.Layout 0)))
        → tells_channel (option_map_or (channel_on plan link clear) o (Err (faults.Layout 0))) ≡ true
    by_line None (x, e) = absurd (let k : ◌≡◌ {A = protecting.Answer} (Err (faults.Layout 0)) (Ok (Some x)) = e in cc)
    by_line (Some line) h =
        let t = told (lacks_header line.layout clear) (is_clear line.layout clear)
        (is_none (channel_of plan link line.layout clear))
        (is_none (sender_of plan state link line clear)) _ h in
        found _ _ (channel_of plan link line.layout clear) t.0 t.1 t.2

module _ (near : ℕ → ℕ → Type 0) (course : Course) where
  -- a protected frame tells its epoch
  told_epoch : (deed : Deed) (kind : RecordKind) → deed.task.kind ≡ kind → kind ≡ Protect → deed.answer.code ≡ PROTECTED
      → FitsKind near course deed.task deed.answer kind → is_ordered course.begin deed ≡ true
  told_epoch deed Protect is p code (inl h) =
      let bound : has_channel course.begin.plan deed.task.link deed.task.octets ≡ true =
      bound_channel course.begin.plan (state_in course deed.answer.position) deed.task.link deed.task.octets
      h.is.binding h.is.bound in
      rw is (rw bound (rw code refl))
  told_epoch deed Protect is p code (inr (inl h)) =
      absurd (not_told (protect_reply course.begin.plan (state_in course deed.answer.position) deed.task.link
      deed.task.octets) deed.answer h.told code)
    where
      not_told : (reply : protecting.Answer) (answer : Answer) → unbound_told reply ≡ Some (told_by answer)
          → answer.code ≡ PROTECTED → ⊥
      not_told (Ok None) answer e c = let k = ap (λ (t : Told). t.code) (same_Some _ (told_by answer) e) in
          absurd (omega arith)
      not_told (Ok (Some b)) answer e c = absurd (none-some (told_by answer) e)
      not_told (Err (faults.Layout n)) answer e c = let k =
          ap (λ (t : Told). t.code) (same_Some _ (told_by answer) e) in absurd (omega arith)
      not_told (Err faults.Channel) answer e c = let k = ap (λ (t : Told). t.code) (same_Some _ (told_by answer) e) in
          absurd (omega arith)
      not_told (Err faults.State) answer e c = let k = ap (λ (t : Told). t.code) (same_Some _ (told_by answer) e) in
          absurd (omega arith)
  told_epoch deed Protect is p code (inr (inr (inl h))) = let k = ap (λ (t : Told). t.code) h.told in
      absurd (omega arith)
  told_epoch deed Protect is p code (inr (inr (inr (inl h)))) = let k = ap (λ (t : Told). t.code) h.tells.told in
      absurd (omega arith)
  told_epoch deed Protect is p code (inr (inr (inr (inr (inl h))))) = let k = ap (λ (t : Told). t.code) h.tells.told in
      absurd (omega arith)
  told_epoch deed Protect is p code (inr (inr (inr (inr (inr h))))) = let k = ap (λ (t : Told). t.code) h.told in
      absurd (omega arith)
  told_epoch deed Open is p code h = absurd (let k : Open ≡ Protect = p in cc)
  told_epoch deed Command is p code h = absurd (let k : Command ≡ Protect = p in cc)
  told_epoch deed Monitor is p code h = absurd (let k : Monitor ≡ Protect = p in cc)

-- an image shows at most one state
abbrev pub ShowsOnce : Type 0
ShowsOnce = (image : List ℕ) (one other : State) → Shows image one → Shows image other → one ≡ other

-- the image shows a state
abbrev pub ShowsSome : List ℕ → Type 0
ShowsSome image = (state : State) × Shows image state

-- what runs leave: an image, and the answers so far
pub record IsLeft (image : List ℕ) (given : List Given) : Type 0 where
  pub image_shows : ShowsSome image
  pub forms_show : (form : List ℕ) → IsOpenedForm image form → ShowsSome form
  pub settled : HasOneClosed image
  pub apart : AllPairs AreApart given
  pub known : (state : State) → IsShown image state → All (IsKnown state) given

-- an image that a life begins with, before a run
pub begins_left : (image : List ℕ) → IsBeginning image → IsLeft image []
begins_left image begins = record {
  image_shows = begins.shows;
  forms_show = begins.forms;
  settled = begins.settled;
  apart = λ i j d lt low. absurd (omega arith);
  known = λ s shown k d low. absurd (omega arith);
}

-- a run from an image of which at most one closed gate is not 0
module _ (run : LifeRun) (is_run : IsRun run) (settled : HasOneClosed run.start) where
  -- an opening that was cut off left nothing but the forms of the image at the start, or its migration
  kept : LeftByOpening run.start run.image → KeepsForms run.start run.image
  kept left = stays_opened run.start run.image is_run.shows.holds.opens settled left

  pub shown_at_start : ShowsOnce → LeftByOpening run.start run.image → (state : State) → IsShown run.image state
      → IsShown run.start state
  shown_at_start once left state shown =
      shown_before once run.start run.image state is_run.shows.holds.opens (kept left) shown

  pub settled_after : HasOneClosed run.image
  settled_after = elim is_run.moment.image_shows [
    | inl opening ↦ (kept opening.1).settled
    | inr served ↦ served.shows.settled
  ]

module _ (once : ShowsOnce) (run : LifeRun) (is_run : IsRun run) where
  abbrev entries : List Entry
  entries = run.course.entries

  abbrev start : State
  start = run.course.begin.start

  abbrev of : OfRun run.course.begin.plan run.course.begin.start (records_of run.places) (TurnIn run.places)
      run.course.entries
  of = of_places run.course.begin.plan run.course.begin.start run.places run.course.entries is_run.sound.history

  abbrev new : List Given
  new = given_of run.course (answers_begun (length run.sunk) run.deeds)

  rules_at : (p : ℕ) → p ≤ length entries → KeepsRules (after_first start entries p)
  rules_at p within = rules_along run.course.begin.plan start (records_of run.places) (TurnIn run.places) entries of p
      within

  -- the floor that a release would leave is no higher than the floor, and in the state of an image no lower
  kept_low : (p key : ℕ) → p ≤ length entries → kept_floor (after_first start entries p) key
      ≤ floor_of (after_first start entries p) key
  kept_low p key within = floor_kept_low (after_first start entries p) key (rules_at p within)

  kept_at_start : (key : ℕ) → floor_of start key ≤ kept_floor start key
  kept_at_start key = taken_kept start key (floor_of start key)
      (taken_restarted start key (floor_of start key) (left_restarted run.start start is_run.shows) (omega arith))

  -- a number that the start knows is below each word that a release saw
  under : (key number : ℕ) → number < mark_of start key → IsBelowReleases entries of.run.ends key number
  under key number below place entry word mark floor high there seen change =
      let r = of.run.releases place entry high there in
      let e = release_entry (after_first start entries place) r.word r.held entry r.releases in
      let keys : changes.Marks key mark floor ≡ changes.Marks r.held.id (min r.held.mark r.word)
      (released_floor (after_first start entries place) r.held) = sym change ∙ e.change_is in
      let same : key ≡ r.held.id = (let c = keys in cc) in
      let words : seens.Word word ≡ seens.Word r.word = sym seen ∙ e.seen_is in
      let is : word ≡ r.word = (let w = words in cc) in
      let least = r.is_near.least in
      let low : number < mark_of start r.held.id = subst (λ (k : ℕ). number < mark_of start k) same below in
      omega arith

  -- what is below a mark at the start stays so
  pub below_on : (p key number : ℕ) → p ≤ length entries → number < mark_of start key
      → number < mark_of (after_first start entries p) key
  below_on p key number within low =
      below_along run.course.begin.plan start (records_of run.places) (TurnIn run.places) entries of 0 p key number
      (omega arith) within
      (under key number low) low

  -- and what is within a floor
  pub floored_on : (p key number : ℕ) → p ≤ length entries → number ≤ floor_of start key
      → number ≤ floor_of (after_first start entries p) key
  floored_on p key number within low =
      let f = kept_along run.course.begin.plan start (records_of run.places) (TurnIn run.places) entries of 0 p key
      (omega arith) within in
      let s = kept_at_start key in let l = kept_low p key within in omega arith

  -- what the state at the start knows, each state of the run knows
  known_on : (p : ℕ) → p ≤ length entries → (g : Given) → IsKnown start g → IsKnown (after_first start entries p) g
  known_on p within g h = record {
    below = λ key number u. below_on p key number within (h.below key number u);
    floored = λ key number a. floored_on p key number within (h.floored key number a);
    named = λ key octets number u. loaded_later start entries 0 p key octets (omega arith)
        (h.named key octets number u);
    opened = λ key octets number u. loaded_later start entries 0 p key octets (omega arith)
        (h.opened key octets number u);
  }

  restarted_knows : (s : State) (g : Given) → IsKnown s g → IsKnown (restarted s) g
  restarted_knows s g h = record { below = h.below; floored = h.floored; named = h.named; opened = h.opened }

  octets_at : (k key : ℕ) (octets : List ℕ) → k ≤ length entries → octets ≢ []
      → IsSomeAnd (key_row (after_first start entries k) key) (λ (held : KeyRow). held.bytes ≡ octets)
      → IsLoadedWith (after_first start entries k) key octets
  octets_at k key octets within some has = by_row (key_row (after_first start entries k) key) refl has
    where
      by_row : (o : Option KeyRow) → key_row (after_first start entries k) key ≡ o
          → IsSomeAnd o (λ (held : KeyRow). held.bytes ≡ octets)
          → IsLoadedWith (after_first start entries k) key octets
      by_row None is h = absurd h
      by_row (Some held) is h = subst (λ (l : List ℕ). IsLoadedWith (after_first start entries k) key l) h
          (octets_loaded (after_first start entries k) key held (rules_at k within) is (λ e. some (sym h ∙ e)))

  -- the state that the answer tells is of no later place than one that covers it
  told_before : (p : ℕ) → p ≤ length entries → (d : Deed)
      → Fits (NearWord start entries (records_of run.places)) run.course d.task d.answer → IsCoveredBy run.course p d
      → (key number : ℕ) → Uses d.answer key number
      → (k : ℕ) × (k ≤ p) × (state_told d.task.kind run.course d.answer ≡ after_first start entries k)
  told_before p within d fit h key number uses_it =
      by_kind d.task.kind refl (fits_code (NearWord start entries (records_of run.places)) run.course d.task d.answer
      fit)
    where
      by_kind : (kind : RecordKind) → d.task.kind ≡ kind → IsCodeOf d.task.kind d.answer.code
          → (k : ℕ) × (k ≤ p) × (state_told kind run.course d.answer ≡ after_first start entries k)
      by_kind Protect is code_of =
          let code : d.answer.code ≡ PROTECTED =
          only uses_it.0 (subst (λ (z : RecordKind). IsCodeOf z d.answer.code) is code_of) in
          let ordered = told_epoch (NearWord start entries (records_of run.places)) run.course d d.task.kind refl is
          code fit in
          let epoch : d.answer.position ≤ epoch_after (take p entries) =
          subst (λ (z : RecordKind). (if is_protected z then d.answer.position
          else epoch_after (take d.answer.position entries)) ≤ epoch_after (take p entries)) is
          (h.epoch ordered) in
          let (k, low, same) = epoch_place start (take p entries) d.answer.position epoch in
          let (rest, split) = front p entries in
          let here : at_epoch start entries d.answer.position ≡ at_epoch start (take p entries) d.answer.position =
          ap (λ (es : List Entry). at_epoch start es d.answer.position) split ∙ at_epoch_more start (take p entries)
          rest d.answer.position epoch in
          let size = length-take p entries in
          let inner : after_first start (take p entries) k ≡ after_first start entries k =
          ap (after_all start) (take-take k p entries (omega arith)) in
          (k, omega arith, here ∙ (same ∙ inner))
        where
          only : (d.answer.code ≡ PROTECTED) ⊎ ((d.answer.code ≡ DONE) × (d.answer.key ≢ 0))
              → IsCodeOf Protect d.answer.code → d.answer.code ≡ PROTECTED
          only (inl e) c = e
          only (inr e) c = absurd (let z : false ≡ true = subst (IsCodeOf Protect) e.0 c in cc)

          front : (n : ℕ) (es : List Entry) → (rest : List Entry) × (es ≡ take n es ++ rest)
          front zero [] = ([], refl)
          front zero (e ∷ es) = (e ∷ es, refl)
          front (suc n) [] = ([], refl)
          front (suc n) (e ∷ es) = let (rest, s) = front n es in (rest, ap (λ (l : List Entry). e ∷ l) s)
      by_kind Open is code_of =
          absurd (none uses_it.0 (subst (λ (z : RecordKind). IsCodeOf z d.answer.code) is code_of))
        where
          none : (d.answer.code ≡ PROTECTED) ⊎ ((d.answer.code ≡ DONE) × (d.answer.key ≢ 0))
              → IsCodeOf Open d.answer.code → ⊥
          none (inl e) c = let z : false ≡ true = subst (IsCodeOf Open) e c in cc
          none (inr e) c = let z : false ≡ true = subst (IsCodeOf Open) e.0 c in cc
      by_kind Command is code_of =
          let code : d.answer.code ≡ DONE =
          only uses_it.0 (subst (λ (z : RecordKind). IsCodeOf z d.answer.code) is code_of) in
          let at : d.answer.position ≤ p = h.entry (rw is (rw code refl)) in
          (d.answer.position - 1, omega arith, refl)
        where
          only : (d.answer.code ≡ PROTECTED) ⊎ ((d.answer.code ≡ DONE) × (d.answer.key ≢ 0))
              → IsCodeOf Command d.answer.code → d.answer.code ≡ DONE
          only (inl e) c = absurd (let z : false ≡ true = subst (IsCodeOf Command) e c in cc)
          only (inr e) c = e.0
      by_kind Monitor is code_of =
          absurd (none uses_it.0 (subst (λ (z : RecordKind). IsCodeOf z d.answer.code) is code_of))
        where
          none : (d.answer.code ≡ PROTECTED) ⊎ ((d.answer.code ≡ DONE) × (d.answer.key ≢ 0))
              → IsCodeOf Monitor d.answer.code → ⊥
          none (inl e) c = let z : false ≡ true = subst (IsCodeOf Monitor) e c in cc
          none (inr e) c = let z : false ≡ true = subst (IsCodeOf Monitor) e.0 c in cc

  -- an answer that accepts tells an entry
  tells : (d : Deed) → Fits (NearWord start entries (records_of run.places)) run.course d.task d.answer
      → d.answer.code ≡ 1 → tells_entry d ≡ true
  tells d fit code =
      by_kind d.task.kind refl (fits_code (NearWord start entries (records_of run.places)) run.course d.task d.answer
      fit)
    where
      by_kind : (kind : RecordKind) → d.task.kind ≡ kind → IsCodeOf d.task.kind d.answer.code → tells_entry d ≡ true
      by_kind Protect is of =
          absurd (let z : false ≡ true =
          subst (IsCodeOf Protect) code (subst (λ (k : RecordKind). IsCodeOf k d.answer.code) is of) in cc)
      by_kind Open is of = rw is (rw code refl)
      by_kind Command is of =
          absurd (let z : false ≡ true =
          subst (IsCodeOf Command) code (subst (λ (k : RecordKind). IsCodeOf k d.answer.code) is of) in cc)
      by_kind Monitor is of =
          absurd (let z : false ≡ true =
          subst (IsCodeOf Monitor) code (subst (λ (k : RecordKind). IsCodeOf k d.answer.code) is of) in cc)

  covered_known : (p : ℕ) → p ≤ length entries → (d : Deed)
      → Fits (NearWord start entries (records_of run.places)) run.course d.task d.answer
      → IsCoveredBy run.course p d → IsKnown (after_first start entries p) (record { course = run.course; deed = d })
  covered_known p within d fit h = record {
    below = h.used;
    floored = λ key number a. let l = kept_low p key within in let b = h.accepted key number a in omega arith;
    named = λ key octets number u.
        let (k, low, is) = told_before p within d fit h key number u.uses_number in
        loaded_later start entries k p key octets low
        (octets_at k key octets (omega arith) u.some
        (subst (λ (s : State). IsSomeAnd (key_row s key) (λ (held : KeyRow). held.bytes ≡ octets)) is u.has));
    opened = λ key octets number u.
        let at : d.answer.position ≤ p = h.entry (tells d fit u.accepts_number.0) in
        loaded_later start entries (d.answer.position - 1) p key octets (omega arith)
        (octets_at (d.answer.position - 1) key octets (omega arith) u.some u.has);
  }

  -- the answers that were begun fit, as all do
  begun_fit : All (λ (d : Deed). Fits (NearWord start entries (records_of run.places)) run.course d.task d.answer)
      (answers_begun (length run.sunk) run.deeds)
  begun_fit = begun_any (λ (d : Deed). Fits (NearWord start entries (records_of run.places)) run.course d.task d.answer)
      (length run.sunk) run.deeds is_run.sound.answers

  module _ (given : List Given) (left : IsLeft run.start given) where
    served_known : (p : ℕ) → p ≤ length entries → EachBegun (IsCoveredBy run.course p) (length run.sunk) run.deeds
        → All (IsKnown (after_first start entries p)) (given ++ new)
    served_known p within covers = All-append (IsKnown (after_first start entries p)) given new
        (λ k g low. known_on p within (slice_index_or given k g) (left.known start (inl is_run.shows) k g low))
        (given_all run.course (IsKnown (after_first start entries p)) (answers_begun (length run.sunk) run.deeds)
        (λ k d low. covered_known p within (slice_index_or (answers_begun (length run.sunk) run.deeds) k d)
        (begun_fit k d low)
        (begun_all (IsCoveredBy run.course p) (length run.sunk) run.deeds covers k d low)))

    none_new : EachBegun (λ (d : Deed). ⊥) (length run.sunk) run.deeds → (P : Given → Type 0) → All P new
    none_new none P = given_all run.course P (answers_begun (length run.sunk) run.deeds)
        (λ k d low. absurd (begun_all (λ (d : Deed). ⊥) (length run.sunk) run.deeds none k d low))

    to_shown : (p : ℕ) (state : State) → restarted (after_first start entries p) ≡ state
        → All (IsKnown (after_first start entries p)) (given ++ new) → All (IsKnown state) (given ++ new)
    to_shown p state is h k g low = subst (λ (s : State). IsKnown s (slice_index_or (given ++ new) k g)) is
        (restarted_knows (after_first start entries p) (slice_index_or (given ++ new) k g) (h k g low))

    known_after : (state : State) → IsShown run.image state → All (IsKnown state) (given ++ new)
    known_after state shown = elim is_run.moment.image_shows [
      | inl opening ↦ All-append (IsKnown state) given new
          (left.known state (shown_at_start run is_run left.settled once opening.1 state shown))
          (none_new opening.0 (IsKnown state))
      | inr served ↦ elim shown [
        | inl shows ↦ to_shown served.p state (once run.image _ state served.shows.shows shows)
            (served_known served.p served.shows.within (served.still_covers served.p (omega arith) served.shows.within))
        | inr torn ↦
            let (q, above, within, form) = served.shows.forms torn.0 torn.1 in
            let low : served.p ≤ q = omega arith in
            to_shown q state (once torn.0 _ state form torn.2)
            (served_known q within (served.still_covers q low within))
      ]
    ]

    -- two answers that one state knows, and that use and accept different numbers, are apart by octets too
    apart_known : (state : State) (a b : Given) → KeepsRules state → IsKnown state a → IsKnown state b
        → ((key number : ℕ) → Uses a.deed.answer key number → Uses b.deed.answer key number → ⊥)
        → ((key number : ℕ) → Accepts a.deed.answer key number → Accepts b.deed.answer key number → ⊥) → AreApart a b
    apart_known state a b rules x y pairs accepts = record {
      by_identifier = pairs;
      by_octets = λ k l octets number u v.
          let one : k ≡ l = one_key state k l octets rules (x.named k octets number u) (y.named l octets number v) in
          pairs l number (subst (λ (key : ℕ). Uses a.deed.answer key number) one u.uses_number) v.uses_number;
      accepted = accepts;
      accepted_octets = λ k l octets number u v.
          let one : k ≡ l = one_key state k l octets rules (x.opened k octets number u) (y.opened l octets number v) in
          accepts l number (subst (λ (key : ℕ). Accepts a.deed.answer key number) one u.accepts_number)
          v.accepts_number;
    }

    apart_after : AllPairs AreApart (given ++ new)
    apart_after = elim is_run.moment.image_shows [
      | inl opening ↦ pairs_append AreApart given new left.apart
          (λ i j g lt low. absurd (none_new opening.0 (λ (g : Given). ⊥) j g low))
          (λ k g low. none_new opening.0 (AreApart (slice_index_or given k g)))
      | inr served ↦
          let within : served.p ≤ length entries = served.shows.within in
          let covers = served.still_covers served.p (omega arith) within in
          let all : All (IsKnown (after_first start entries served.p)) new =
          given_all run.course (IsKnown (after_first start entries served.p))
          (answers_begun (length run.sunk) run.deeds)
          (λ k d low. covered_known served.p within (slice_index_or (answers_begun (length run.sunk) run.deeds) k d)
          (begun_fit k d low)
          (begun_all (IsCoveredBy run.course served.p) (length run.sunk) run.deeds covers k d low)) in
          pairs_append AreApart given new left.apart
          (given_pairs run.course AreApart (answers_begun (length run.sunk) run.deeds) (λ i j d lt low.
          apart_known (after_first start entries served.p) _ _ (rules_at served.p within)
          (covered_known served.p within (slice_index_or (answers_begun (length run.sunk) run.deeds) i d)
          (begun_fit i d (omega arith))
          (begun_all (IsCoveredBy run.course served.p) (length run.sunk) run.deeds covers i d (omega arith)))
          (covered_known served.p within (slice_index_or (answers_begun (length run.sunk) run.deeds) j d)
          (begun_fit j d low)
          (begun_all (IsCoveredBy run.course served.p) (length run.sunk) run.deeds covers j d low))
          (begun_pairs (Differ Uses) (length run.sunk) run.deeds is_run.sound.used_once i j d lt low)
          (begun_pairs (Differ Accepts) (length run.sunk) run.deeds is_run.sound.accepted i j d lt low)))
          (λ k g low. given_all run.course (AreApart (slice_index_or given k g))
          (answers_begun (length run.sunk) run.deeds) (λ j d in'.
          let old = left.known start (inl is_run.shows) k g low in
          apart_known (after_first start entries served.p) (slice_index_or given k g) _ (rules_at served.p within)
          (known_on served.p within (slice_index_or given k g) old)
          (covered_known served.p within (slice_index_or (answers_begun (length run.sunk) run.deeds) j d)
          (begun_fit j d in')
          (begun_all (IsCoveredBy run.course served.p) (length run.sunk) run.deeds covers j d in'))
          (λ key number u v.
          let a = old.below key number u in
          let b = begun_any (λ (d : Deed). (key number : ℕ) → Uses d.answer key number → mark_of start key ≤ number)
          (length run.sunk) run.deeds
          is_run.sound.used_above j d in' key number v in omega arith)
          (λ key number u v.
          let a = old.floored key number u in
          let b = begun_any (λ (d : Deed). (key number : ℕ) → Accepts d.answer key number → floor_of start key < number)
          (length run.sunk) run.deeds
          is_run.sound.accepted_above j d in' key number v in omega arith)))
    ]

    -- while it was opened, the image shows what that at the start shows, or what an opened form of it shows
    shown_after : ShowsSome run.image
    shown_after = elim is_run.moment.image_shows [
      | inl opening ↦ elim (kept run is_run left.settled opening.1).holds [
        | inl next ↦ (start, shows_next once run.start run.image start next is_run.shows)
        | inr opened ↦ left.forms_show run.image opened
      ]
      | inr served ↦ (restarted (after_first start entries served.p), served.shows.shows)
    ]

    forms_after : (form : List ℕ) → IsOpenedForm run.image form → ShowsSome form
    forms_after form opened = elim is_run.moment.image_shows [
      | inl opening ↦ elim ((kept run is_run left.settled opening.1).forms form opened) [
        | inl next ↦ (start, shows_next once run.start form start next is_run.shows)
        | inr before ↦ left.forms_show form before
      ]
      | inr served ↦ let (q, above, within, shows) = served.shows.forms form opened in
          (restarted (after_first start entries q), shows)
    ]

    pub one_more : IsLeft run.image (given ++ new)
    one_more = record {
      image_shows = shown_after;
      forms_show = forms_after;
      settled = settled_after run is_run left.settled;
      apart = apart_after;
      known = known_after;
    }

-- each life leaves such an image
pub lives : ShowsOnce → (image : List ℕ) (given : List Given) (runs : List LifeRun) → IsLeft image given
    → FollowFrom image runs
    → IsLeft (left_by image runs) (given ++ given_in runs)
lives once image given [] left follow = subst (IsLeft image) (sym (append-nil given)) left
lives once image given (run ∷ runs) left (start, is_run, follow) =
    let next = one_more once run is_run given (subst (λ (i : List ℕ). IsLeft i given) (sym start) left) in
    subst (IsLeft (left_by run.image runs))
    (append_assoc given (given_of run.course (answers_begun (length run.sunk) run.deeds)) (given_in runs))
    (lives once run.image (given ++ given_of run.course (answers_begun (length run.sunk) run.deeds)) runs next follow)

life_left : ShowsOnce → (image : List ℕ) (runs : List LifeRun) → IsLife image runs
    → IsLeft (left_by image runs) (given_in runs)
life_left once image runs life = lives once image [] runs (begins_left image life.begins) life.follow

-- what a life left, another may begin with
pub left_begins : ShowsOnce → (image : List ℕ) (runs : List LifeRun) → IsLife image runs
    → IsBeginning (left_by image runs)
left_begins once image runs life =
    let left : IsLeft (left_by image runs) (given_in runs) = life_left once image runs life in
    record { shows = left.image_shows; forms = left.forms_show; settled = left.settled }

-- no two uses of all runs have one key, by identifier or by octets, and one number, and no two acceptances
pub once_in_life : ShowsOnce → (image : List ℕ) (runs : List LifeRun) → IsLife image runs → OnceInLife runs
once_in_life once image runs life = (life_left once image runs life).apart

-- each state that the image left shows, or one of its opened forms, knows each answer of the life
pub known_in_life : ShowsOnce → (image : List ℕ) (runs : List LifeRun) → IsLife image runs → (state : State)
    → IsShown (left_by image runs) state
    → All (Knows state) (given_in runs)
known_in_life once image runs life state shown k d low =
    let known = (life_left once image runs life).known state shown k d low in
    record { below = known.below; floored = known.floored }

-- the image left shows a state that knows each answer of the life, and so does each of its opened forms
pub shown_in_life : ShowsOnce → (image : List ℕ) (runs : List LifeRun) → IsLife image runs
    → LeavesKnowing (left_by image runs) (given_in runs)
shown_in_life once image runs life =
    let left : IsLeft (left_by image runs) (given_in runs) = life_left once image runs life in
    record {
      image_shows = record {
        state = left.image_shows.0;
        shows = left.image_shows.1;
        knows = known_in_life once image runs life left.image_shows.0 (inl left.image_shows.1);
      };
      forms_show = λ form opened.
          let shown = left.forms_show form opened in
          record {
            state = shown.0;
            shows = shown.1;
            knows = known_in_life once image runs life shown.0 (inr (form, opened, shown.1));
          };
    }
