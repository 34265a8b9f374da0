-- The reads of an open journal, and of an image that is opened.
use Rattle.std.proofs.Common.{◌≡◌, ℕ, zero, suc, ◌+◌, ◌-◌, ◌<◌, ◌≤◌, ◌++◌, ◌∷◌, ◌∙◌, List, [], length, get_or, take}
use Rattle.std.proofs.Common.{drop, min, Some, None, refl, sym, ap, subst, arith, length-drop}
use Rattle.disk_journal.proofs.Keeping.{Bounds, header_bounds}
use Rattle.disk_journal.proofs.Stands.{banks_behind, opens_stands}
use Rattle.disk_journal.proofs.Turns.{bank_within}
use Rattle.disk_journal.specs.Banks.{bank_at, bank_length, slot_body, bank_generation, image_end, layout_of, slot_at}
use Rattle.disk_journal.specs.Fault.{image_fault}
use Rattle.disk_journal.specs.Header.{form_in, header_of, plan_length_in, slot_count_in}
use Rattle.disk_journal.specs.Image.{content, current_at, first_closed, image_layout, plan_of, record_at, records}
use Rattle.disk_journal.specs.Image.{slot_count}
use Rattle.disk_journal.specs.Journal.{IsJournalOf, IsOpen, JournalView}
use Rattle.disk_journal.specs.declared.layout.Layout.{Layout}
use Rattle.disk_journal.specs.declared.layout.TheConstants.{CONTENT_AT, GENERATION_AT, GENERATION_LENGTH, HEADER_LENGTH}
use Rattle.disk_journal.specs.declared.layout.TheConstants.{PLAN_ROOM}
use Rattle.byteorder.specs.Endian.{big_number}
use Rattle.sdls_base.specs.declared.TheConstants.{BODY_LENGTH}
use Rattle.sdls_outside.specs.Moments.{Trace}
use Rattle.std.proofs.Math.Seq.{take-append_seam}
use Rattle.std.proofs.lemmas.List.{drop-drop, drop-take, get_or-drop, get_or-take, length-take, length-take-le}
use Rattle.std.proofs.lemmas.List.{take-take}
use Rattle.std.specs.List.{slice_get}

pub banks_within : (image : List ℕ) (journal : JournalView) → IsJournalOf image journal
    → bank_at journal.layout journal.bank + bank_length journal.layout ≤ length image
banks_within image journal of_image =
    let stands = opens_stands image of_image.opens in
    subst (λ (one : Layout). bank_at one journal.bank + bank_length one ≤ length image) (sym of_image.layout)
    (bank_within image (image_layout image) journal.bank stands.front)

bank_is : (image : List ℕ) (journal : JournalView) → IsJournalOf image journal
    → bank_at journal.layout journal.bank ≡ current_at image
bank_is image journal of_image =
    ap (λ (one : Layout). bank_at one journal.bank) of_image.layout ∙ ap (bank_at (image_layout image)) of_image.bank

-- where a record and the content stand
pub record_place : (image : List ℕ) (journal : JournalView) (index at : ℕ) → at ≡ slot_at journal.layout
    (bank_at journal.layout journal.bank) index
    → IsJournalOf image journal → at ≡ record_at image index
record_place image journal index at place of_image =
    place ∙ ap (λ (bank : ℕ). slot_at journal.layout bank index) (bank_is image journal of_image)
    ∙ ap (λ (one : Layout). slot_at one (current_at image) index) of_image.layout

pub content_place : (image : List ℕ) (journal : JournalView) (at : ℕ)
    → at ≡ bank_at journal.layout journal.bank + CONTENT_AT
    → IsJournalOf image journal → at ≡ current_at image + CONTENT_AT
content_place image journal at place of_image = place ∙ ap (λ (bank : ℕ). bank + CONTENT_AT)
    (bank_is image journal of_image)

-- the content
pub content_within : (old : Trace) (journal : JournalView) (at size : ℕ) → IsOpen old journal
    → at ≡ bank_at journal.layout journal.bank + CONTENT_AT
    → size ≡ journal.layout.content_length → at + size ≤ length old.now.image
content_within old journal at size opened place sized =
    let within = banks_within old.now.image journal opened.of_image in
    omega (arith, within, place, sized)

pub content_read : (old : Trace) (journal : JournalView) (at size : ℕ) (into : List ℕ) → IsOpen old journal
    → at ≡ bank_at journal.layout journal.bank + CONTENT_AT → size ≡ journal.layout.content_length
    → into ≡ take size (drop at old.now.image) → into ≡ content old.now.image
content_read old journal at size into opened place sized read =
    let image = old.now.image in
    let long : size ≡ (image_layout image).content_length = sized
    ∙ ap (λ (one : Layout). one.content_length) opened.of_image.layout in
    read ∙ ap (λ (n : ℕ). take n (drop at image)) long
    ∙ ap (λ (from : ℕ). take (image_layout image).content_length (drop from image))
    (content_place image journal at place opened.of_image)

-- a record's body
body_inside : (layout : Layout) (bank index used size : ℕ) → index < used → used ≤ layout.slots
    → bank + bank_length layout ≤ size
    → slot_at layout bank index + 1 + BODY_LENGTH ≤ size
body_inside layout bank index used size below fits within = omega arith

pub body_within : (old : Trace) (journal : JournalView) (index at : ℕ) → IsOpen old journal → index < journal.used
    → at ≡ slot_at journal.layout (bank_at journal.layout journal.bank) index
    → at + 1 + BODY_LENGTH ≤ length old.now.image
body_within old journal index at opened below place =
    let image = old.now.image in
    let used : journal.used ≡ first_closed image = opened.of_image.used in
    let slots : journal.layout.slots ≡ slot_count image = ap (λ (one : Layout). one.slots) opened.of_image.layout in
    let few : first_closed image ≤ slot_count image = (opens_stands image opened.of_image.opens).are.within in
    let fits : journal.used ≤ journal.layout.slots = omega arith in
    subst (λ (k : ℕ). k + 1 + BODY_LENGTH ≤ length image) (sym place)
    (body_inside journal.layout (bank_at journal.layout journal.bank) index journal.used (length image) below fits
    (banks_within image journal opened.of_image))

get_at : (bodies : List (List ℕ)) (i : ℕ) → i < length bodies → slice_get bodies i ≡ Some (get_or bodies i [])
get_at [] i below = absurd (omega arith)
get_at (body ∷ bodies) zero below = refl
get_at (body ∷ bodies) (suc i) below = get_at bodies i (omega arith)

record_read : (image : List ℕ) (index : ℕ) → image_fault image ≡ None → index < first_closed image
    → slice_get (records image) index ≡ Some (slot_body (image_layout image) image (current_at image) index)
record_read image index none below =
    let are = (opens_stands image none).are in
    get_at (records image) index below ∙ ap (λ (body : List ℕ). Some body) (are.are index below)

pub body_read : (old : Trace) (journal : JournalView) (index at : ℕ) (into : List ℕ) → IsOpen old journal
    → index < journal.used
    → at ≡ slot_at journal.layout (bank_at journal.layout journal.bank) index → into ≡ take BODY_LENGTH
    (drop (at + 1) old.now.image)
    → slice_get (records old.now.image) index ≡ Some into
body_read old journal index at into opened below place read =
    let image = old.now.image in
    let low : index < first_closed image = let used : journal.used ≡ first_closed image =
    opened.of_image.used in omega arith in
    let here : into ≡ slot_body (image_layout image) image (current_at image) index =
    read ∙ ap (λ (k : ℕ). take BODY_LENGTH (drop (k + 1) image))
    (record_place image journal index at place opened.of_image) in
    record_read image index opened.of_image.opens low ∙ ap (λ (body : List ℕ). Some body) (sym here)

-- the plan's text
bounds_in : (image : List ℕ) (journal : JournalView) → IsJournalOf image journal → Bounds (header_of image)
    (length image)
bounds_in image journal of_image = header_bounds (header_of image) (length image)
    (opens_stands image of_image.opens).front.header

pub plan_size : (image : List ℕ) → Bounds (header_of image) (length image) → plan_length_in (header_of image) ≡ length
    (plan_of image)
unfolding plan_of
plan_size image bounds =
    let room : plan_length_in (header_of image) ≤ PLAN_ROOM = bounds.plan in
    let long : image_end (layout_of (form_in (header_of image)) (slot_count_in (header_of image))) ≤ length image =
    bounds.long in
    let far : HEADER_LENGTH + PLAN_ROOM ≤ length image =
    let behind = banks_behind (form_in (header_of image)) (slot_count_in (header_of image)) in omega
    (arith, long, behind) in
    let behind : length (drop HEADER_LENGTH image) ≡ length image - HEADER_LENGTH = length-drop HEADER_LENGTH image in
    sym (length-take-le (plan_length_in (header_of image)) (drop HEADER_LENGTH image) (omega arith))

plan_in : (image : List ℕ) → take (plan_length_in (header_of image)) (drop HEADER_LENGTH image) ≡ plan_of image
unfolding plan_of
plan_in image = refl

pub plan_within : (old : Trace) (journal : JournalView) (out : List ℕ) → IsOpen old journal
    → HEADER_LENGTH + length (take journal.plan_length out) ≤ length old.now.image
plan_within old journal out opened =
    let image = old.now.image in
    let bounds = bounds_in image journal opened.of_image in
    let room : plan_length_in (header_of image) ≤ PLAN_ROOM = bounds.plan in
    let long : image_end (layout_of (form_in (header_of image)) (slot_count_in (header_of image))) ≤ length image =
    bounds.long in
    let far : HEADER_LENGTH + PLAN_ROOM ≤ length image =
    let behind = banks_behind (form_in (header_of image)) (slot_count_in (header_of image)) in omega
    (arith, long, behind) in
    let same : journal.plan_length ≡ plan_length_in (header_of image) = opened.of_image.plan
    ∙ sym (plan_size image bounds) in
    let cut : length (take journal.plan_length out) ≡ min journal.plan_length
    (length out) = length-take journal.plan_length out in
    omega arith

pub plan_read : (old : Trace) (journal : JournalView) (out into : List ℕ) → IsOpen old journal → length out ≡ PLAN_ROOM
    → into ≡ take (length (take journal.plan_length out)) (drop HEADER_LENGTH old.now.image)
    → take journal.plan_length (into ++ drop journal.plan_length out) ≡ plan_of old.now.image
plan_read old journal out into opened sized read =
    let image = old.now.image in
    let bounds = bounds_in image journal opened.of_image in
    let room : plan_length_in (header_of image) ≤ PLAN_ROOM = bounds.plan in
    let same : journal.plan_length ≡ plan_length_in (header_of image) = opened.of_image.plan
    ∙ sym (plan_size image bounds) in
    let whole : length (take journal.plan_length out) ≡ journal.plan_length = length-take-le journal.plan_length out
    (omega arith) in
    let plan_is : into ≡ plan_of image = read ∙ ap (λ (n : ℕ). take n (drop HEADER_LENGTH image)) (whole ∙ same)
    ∙ plan_in image in
    let long_plan : length into ≡ journal.plan_length = ap (λ (octets : List ℕ). length octets) plan_is
    ∙ sym opened.of_image.plan in
    subst (λ (n : ℕ). take n (into ++ drop journal.plan_length out) ≡ into) long_plan
    (take-append_seam into (drop journal.plan_length out))
    ∙ plan_is

-- the front of a bank
pub front_gate : (image octets : List ℕ) (bank : ℕ) → octets ≡ take CONTENT_AT (drop bank image)
    → get_or octets 0 0 ≡ get_or image bank 0
front_gate image octets bank read =
    let same : bank + 0 ≡ bank = omega arith in
    ap (λ (some : List ℕ). get_or some 0 0) read ∙ get_or-take CONTENT_AT (drop bank image) 0 0 (omega arith)
    ∙ get_or-drop bank image 0 0 ∙ ap (λ (k : ℕ). get_or image k 0) same

pub front_generation : (image octets : List ℕ) (bank : ℕ) → octets ≡ take CONTENT_AT (drop bank image)
    → big_number GENERATION_LENGTH (take GENERATION_LENGTH (drop GENERATION_AT octets)) ≡ bank_generation image bank
front_generation image octets bank read =
    ap (λ (some : List ℕ). big_number GENERATION_LENGTH (take GENERATION_LENGTH (drop GENERATION_AT some))) read
    ∙ ap (λ (some : List ℕ). big_number GENERATION_LENGTH (take GENERATION_LENGTH some))
    (drop-take GENERATION_AT GENERATION_LENGTH (drop bank image)
    ∙ ap (take GENERATION_LENGTH) (drop-drop GENERATION_AT bank image))
    ∙ ap (big_number GENERATION_LENGTH)
    (take-take GENERATION_LENGTH GENERATION_LENGTH (drop (bank + GENERATION_AT) image) (omega arith))
