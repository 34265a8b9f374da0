-- What stands outside the banks of an image: for `bring_up`, `open` and `rest_stays_whole`.
use Rattle.std.proofs.Common.{◌≡◌, ℕ, ◌+◌, ◌*◌, ◌<◌, ◌≤◌, ◌⊎◌, ◌∙◌, List, length, get_or, take, max, refl, sym, ap}
use Rattle.std.proofs.Common.{subst, inl, inr, arith, Result, Ok, Err, OnOk}
use Rattle.std.proofs.lemmas.List.{ext_get_or, get_or-take, length-take-le, take-take}
use Rattle.sdls_outside.specs.Disk.{Leaves}
use Rattle.sdls_outside.specs.Moments.{Trace}
use Rattle.sdls_outside.proofs.Moments.{synced_leaves}
use Rattle.sdls_base.specs.declared.version.Version.TheVariants.{Two}
use Rattle.disk_journal.specs.Header.{header_of, slot_count_in}
use Rattle.disk_journal.specs.declared.layout.TheConstants.{HEADER_LENGTH, OPEN}
use Rattle.unit_image.specs.Content.{content_of}
use Rattle.unit_state.specs.declared.state.State.{State}
use Rattle.disk_journal.proofs.Keeping.{front_bounds}
use Rattle.disk_journal.proofs.Stands.{opens_stands}
use Rattle.disk_journal.specs.Banks.{banks_of, image_end, layout_of}
use Rattle.disk_journal.specs.Changes.{KeepsBeside, KeepsPast, KeepsPlan}
use Rattle.disk_journal.specs.Header.{form_in}
use Rattle.disk_journal.specs.Image.{Held, held, image_layout}
use Rattle.disk_journal.specs.Initial.{front_image, rest_image}
use Rattle.disk_journal.specs.Journal.{IsJournalOf, IsSettled, JournalView}
use Rattle.disk_journal.specs.Rest.{IsRest}
use Rattle.disk_journal.specs.declared.layout.Bank.{Bank}
use Rattle.disk_journal.specs.declared.layout.HeaderForm.{HeaderForm}
use Rattle.disk_journal.specs.declared.layout.HeaderForm.TheVariants.{Old, Migrated, New}
use Rattle.disk_journal.specs.declared.layout.Layout.{Layout}
use Rattle.disk_journal.specs.declared.layout.TheConstants.{BANKS_AT, MIGRATED_AT}
use Rattle.unit_image.specs.OpeningImage.{IsBroughtUp, StaysOutside}
use Rattle.unit_image.specs.Storing.{HasPlanAlone, KeepsPlaces, LeavesRest, LeavesRestImage}

-- ---- an opening

-- the banks of an image that opens end within it
ends_within : (image : List ℕ) (journal : JournalView) → IsJournalOf image journal
    → image_end journal.layout ≤ length image
ends_within image journal is = subst (λ (layout : Layout). image_end layout ≤ length image) (sym is.layout)
    (front_bounds image (image_layout image) (opens_stands image is.opens).front)

-- an image of version 2 was only brought to rest
pub outside_same : (journal : JournalView) (old now : List ℕ) → IsJournalOf now journal
    → KeepsPlan journal.layout old now
    → StaysOutside journal.layout old now
outside_same journal old now is keeps =
    let long : image_end journal.layout ≤ length now = ends_within now journal is in
    let same : length now ≡ length old = keeps.same_length in
    record {
      before = λ i low. elim low [
        | inl front ↦ keeps.outside i (inl front)
        | inr behind ↦
            keeps.outside i (inr (inl behind))
      ];
      past = record { length_is = omega arith; past = λ i high. keeps.outside i (inr (inr high)) };
    }

layout_as : (image : List ℕ) → image_layout image ≡ layout_of (image_layout image).form (image_layout image).slots
unfolding image_layout
layout_as image = refl

-- the new banks of a migrated image stand behind the old ones
old_ends : (slots : ℕ) → image_end (layout_of Old slots) ≤ image_end (layout_of Migrated slots)
old_ends slots = omega arith

ends_before : (layout : Layout) → layout ≡ layout_of layout.form layout.slots → layout.form ≡ Old
    → image_end layout ≤ image_end (layout_of Migrated layout.slots)
ends_before layout is old =
    subst (λ (n : ℕ). n ≤ image_end (layout_of Migrated layout.slots))
    (sym (ap (λ (some : Layout). image_end some) (is ∙ ap (λ (form : HeaderForm). layout_of form layout.slots) old)))
    (old_ends layout.slots)

-- an image of version 1 was brought to rest and migrated
pub outside_migrated : (journal : JournalView) (layout : Layout) (old mid new : List ℕ) → IsJournalOf mid journal
    → journal.layout.form ≡ Old → layout ≡ layout_of Migrated journal.layout.slots
    → ((i : ℕ) → (i < MIGRATED_AT) ⊎ ((MIGRATED_AT < i) × (i < BANKS_AT)) → get_or new i 0 ≡ get_or mid i 0)
    → KeepsPast (image_end layout) mid new → KeepsPlan journal.layout old mid → StaysOutside layout old new
outside_migrated journal layout old mid new is form layout_is before past keeps =
    let is_layout : journal.layout ≡ layout_of journal.layout.form journal.layout.slots =
    subst (λ (some : Layout). some ≡ layout_of some.form some.slots) (sym is.layout) (layout_as mid) in
    let behind : image_end journal.layout ≤ image_end layout =
    subst (λ (some : Layout). image_end journal.layout ≤ image_end some) (sym layout_is)
    (ends_before journal.layout is_layout form) in
    let same : length mid ≡ length old = keeps.same_length in
    let longer : length new ≡ max (length mid) (image_end layout) = past.length_is in
    record {
      before = λ i low. before i low
          ∙ (elim low [ inl front ↦ keeps.outside i (inl front) | inr between ↦ keeps.outside i (inr (inl between)) ]);
      past = record {
        length_is = omega arith;
        past = λ i high. past.past i high ∙ keeps.outside i
            (inr (inr (let low : image_end journal.layout ≤ i = omega arith in low)));
      };
    }

pub outside_after : {Value Error : Type 0} (result : Result Value Error) (journal next after : JournalView)
    (mid new : List ℕ)
    → IsJournalOf mid journal → journal.layout.form ≡ Old → next.layout ≡ layout_of Migrated journal.layout.slots
    → OnOk result ((i : ℕ) → (i < MIGRATED_AT) ⊎ ((MIGRATED_AT < i) × (i < BANKS_AT)) → get_or new i 0 ≡ get_or mid i 0)
    → OnOk result (KeepsPast (image_end after.layout) mid new) → OnOk result (after ≡ next)
    → OnOk result ((old : List ℕ) → KeepsPlan journal.layout old mid → StaysOutside after.layout old new)
outside_after (Ok value) journal next after mid new is form layout before past counted = λ old keeps.
    outside_migrated journal after.layout old mid new is form (ap (λ (one : JournalView). one.layout) counted ∙ layout)
    before past
    keeps
outside_after (Err error) journal next after mid new is form layout before past counted = tt

-- the plan is held still
pub brought_plan : (state : State) (read mid new : List ℕ) (next : Held) → held mid ≡ held read
    → IsBroughtUp state (held mid) next
    → held new ≡ next → (held new).plan ≡ (held read).plan
brought_plan state read mid new next same (inl is) done = ap (λ (what : Held). what.plan) (done ∙ is ∙ same)
brought_plan state read mid new next same (inr (of_one, content, is)) done =
    ap (λ (what : Held). what.plan) (done ∙ is) ∙ ap (λ (what : Held). what.plan) same

-- ---- a store, and what stood before it

pub beside_then : (before after : JournalView) (first mid last : List ℕ) → KeepsPlaces before after
    → KeepsBeside before.layout first mid → KeepsBeside before.layout mid last → KeepsBeside after.layout first last
beside_then before after first mid last places one other =
    subst (λ (layout : Layout). KeepsBeside layout first last) (sym places.layout) (record {
      same_length = other.same_length ∙ one.same_length;
      outside = λ i off. other.outside i off ∙ one.outside i off;
    })

-- ---- a rest image

banks_behind : (form : HeaderForm) (slots : ℕ) → BANKS_AT ≤ banks_of form slots
banks_behind Old slots = omega arith
banks_behind Migrated slots = omega arith
banks_behind New slots = omega arith

layout_behind : (image : List ℕ) → BANKS_AT ≤ (image_layout image).banks
unfolding image_layout
layout_behind image = banks_behind (form_in (header_of image)) (slot_count_in (header_of image))

-- an image and another with the same octets before the banks
same_before : (old new : List ℕ) → length new ≡ length old → BANKS_AT ≤ length old
    → ((i : ℕ) → i < BANKS_AT → get_or new i 0 ≡ get_or old i 0) → take BANKS_AT new ≡ take BANKS_AT old
same_before old new sized long same =
    let new_long : length (take BANKS_AT new) ≡ BANKS_AT = length-take-le BANKS_AT new (omega arith) in
    let old_long : length (take BANKS_AT old) ≡ BANKS_AT = length-take-le BANKS_AT old (omega arith) in
    ext_get_or 0 (take BANKS_AT new) (take BANKS_AT old) (omega arith) (λ i below.
    let low : i < BANKS_AT = omega arith in
    get_or-take BANKS_AT new i 0 low ∙ same i low ∙ sym (get_or-take BANKS_AT old i 0 low))

same_layout : (old new : List ℕ) → take BANKS_AT new ≡ take BANKS_AT old → image_layout new ≡ image_layout old
unfolding image_layout
same_layout old new same =
    let header : header_of new ≡ header_of old = sym (take-take HEADER_LENGTH BANKS_AT new (omega arith))
    ∙ ap (λ (front : List ℕ). take HEADER_LENGTH front) same ∙ take-take HEADER_LENGTH BANKS_AT old (omega arith) in
    ap (λ (octets : List ℕ). layout_of (form_in octets) (slot_count_in octets)) header

-- a plan alone stands outside the banks still
plan_alone : (form : HeaderForm) (plan : List ℕ) (slots : ℕ) (journal : JournalView) (old new : List ℕ)
    → IsJournalOf new journal
    → KeepsBeside journal.layout old new → HasPlanAlone form plan slots old → HasPlanAlone form plan slots new
plan_alone form plan slots journal old new is keeps alone =
    let behind : BANKS_AT ≤ journal.layout.banks =
    subst (λ (layout : Layout). BANKS_AT ≤ layout.banks) (sym is.layout) (layout_behind new) in
    let long : image_end journal.layout ≤ length new = ends_within new journal is in
    let sized : length new ≡ length old = keeps.same_length in
    let front : take BANKS_AT new ≡ take BANKS_AT old = same_before old new sized (omega arith)
    (λ i low. keeps.outside i (inl (let before : i < journal.layout.banks = omega arith in before))) in
    record {
      layout = same_layout old new front ∙ alone.layout;
      front = front ∙ alone.front;
      ends = sized ∙ alone.ends;
    }

-- the law of the journal: an image of which each octet is stated
abbrev pub RestIsWhole : Type 0
RestIsWhole = (form : HeaderForm) (image plan text : List ℕ) (slots generation : ℕ) (bank : Bank)
    → image_layout image ≡ layout_of form slots → length image ≡ image_end (layout_of form slots)
    → take BANKS_AT image ≡ front_image form OPEN plan slots → IsRest image bank generation text
    → image ≡ rest_image form OPEN plan slots text generation bank

pub rest_image_left : RestIsWhole → (opened : List ℕ) (now : Trace) (journal : JournalView) (state : State)
    → IsSettled now journal
    → KeepsBeside journal.layout opened now.now.image → LeavesRest now journal state
    → LeavesRestImage opened now journal state
rest_image_left whole opened now journal state settled keeps rest form plan slots alone image leaves =
    let same : image ≡ now.now.image = synced_leaves now.now image settled.synced leaves in
    let here : HasPlanAlone form plan slots image = subst (HasPlanAlone form plan slots) (sym same)
    (plan_alone form plan slots journal opened now.now.image settled.of_image.closed.of_image keeps alone) in
    whole form image plan (content_of Two state) slots journal.generation journal.bank here.layout here.ends here.front
    (rest image leaves)
