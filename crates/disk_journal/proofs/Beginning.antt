-- The writes of the image that a journal begins with.
use Rattle.std.proofs.Common.{◌≡◌, ℕ, zero, suc, ◌+◌, ◌-◌, ◌*◌, ◌≤◌, ◌⊎◌, ◌++◌, ◌∷◌, ◌∙◌, List, [], length, get_or}
use Rattle.std.proofs.Common.{take, drop, replicate, max, Some, refl, sym, ap, subst, inl, inr, arith, append-nil}
use Rattle.std.proofs.Common.{append_assoc, length-append, Result, Ok, Err}
use Rattle.disk_journal.proofs.Refused.{header_verdict, short_verdict}
use Rattle.disk_journal.specs.Banks.{bank_length, banks_of, image_end, layout_of, version_of}
use Rattle.disk_journal.specs.Changes.{IsPendingIn, KeepsOutside, filled, with_gate}
use Rattle.disk_journal.specs.Fault.{header_checks, image_fault}
use Rattle.disk_journal.specs.Initial.{IsLaid, banks_at_rest, created_image, fields_of, front_image, laid_image}
use Rattle.disk_journal.specs.Initial.{rest_image}
use Rattle.disk_journal.specs.declared.layout.Bank.{Bank}
use Rattle.disk_journal.specs.declared.layout.Bank.TheVariants.{First}
use Rattle.disk_journal.specs.declared.layout.HeaderForm.{HeaderForm}
use Rattle.disk_journal.specs.declared.layout.HeaderForm.TheVariants.{Old, Migrated, New}
use Rattle.disk_journal.specs.declared.layout.Layout.{Layout}
use Rattle.disk_journal.specs.declared.layout.TheConstants.{BANKS_AT, CONTENT_AT, FIRST_GENERATION, GENERATION_AT}
use Rattle.disk_journal.specs.declared.layout.TheConstants.{GENERATION_LENGTH, CLOSED, HEADER_LENGTH, MAGIC_AT, OPEN}
use Rattle.disk_journal.specs.declared.layout.TheConstants.{PLAN_ROOM, SLOT_LENGTH}
use Rattle.byteorder.specs.Endian.{big_bytes}
use Rattle.disk_journal.proofs.ZeroLists.{length_zeros, more_zeros, zeros_end}
use Rattle.disk_journal.proofs.Moments.{image_then, image_weaker}
use Rattle.disk_journal.proofs.Ranges.{overwritten_length}
use Rattle.disk_journal.specs.Moments.{AllBut, EachImage}
use Rattle.disk_journal.specs.Header.{header_of}
use Rattle.disk_journal.specs.Zeros.{zeros}
use Rattle.sdls_base.specs.FirstFailing.{first_failing}
use Rattle.sdls_base.specs.Version.{content_length_of}
use Rattle.sdls_outside.specs.Disk.{IsSynced, Leaves}
use Rattle.sdls_outside.specs.Moments.{Trace}
use Rattle.sdls_outside.specs.Site.{Syncs, Writes, overwritten}
use Rattle.std.proofs.Math.ListN.{get_or-eq_default, replicate-append-replicate}
use Rattle.std.proofs.Math.Seq.{drop-append-add, take-append-add}
use Rattle.std.proofs.lemmas.Bool.{cases_lt}
use Rattle.std.proofs.lemmas.List.{drop-replicate, get_or-take, take-replicate}
use Rattle.std.specs.Result.{OnOk}

-- an image whose first octet is 0
abbrev pub ShutImage : List ℕ → Type 0
ShutImage image = get_or image 0 0 ≡ CLOSED

pub first_zero : zeros 1 ≡ CLOSED ∷ []
unfolding zeros
first_zero = refl

-- moments of writes behind the first octet
pub shut_each : (count : ℕ) (old new : Trace) → IsSynced old.now → old.now.image ≡ zeros 1
    → EachImage old new (KeepsOutside 1 count old.now.synced) → EachImage old new ShutImage
shut_each count old new synced begun each =
    let first : get_or old.now.synced 0 0 ≡ CLOSED =
    ap (λ (octets : List ℕ). get_or octets 0 0) (synced.1 ∙ begun ∙ first_zero) in
    image_weaker old new (KeepsOutside 1 count old.now.synced) ShutImage
    (λ image keeps. keeps.outside 0 (inl (omega arith)) ∙ first) each

-- where there is no image, nothing is pending
pub none_pending : (old : Trace) → old.now.image ≡ [] → Leaves old.now old.now.image → IsPendingIn 0 1 old.now
none_pending old empty stays =
    let none : length old.now.image ≡ 0 = ap (λ (octets : List ℕ). length octets) empty in
    let shorter : length old.now.synced ≤ length old.now.image = stays.no_shorter in
    record {
      within = omega arith;
      away = λ i below away. absurd (omega arith);
      keeps = record {
        no_shorter = shorter;
        no_longer = omega arith;
        outside = λ i away. get_or-eq_default old.now.image 0 (omega arith)
            ∙ sym (get_or-eq_default old.now.synced 0 (omega arith));
      };
    }

pub short_each : (old new : Trace) → old.now.image ≡ [] → Leaves old.now old.now.image
    → EachImage old new (KeepsOutside 0 1 old.now.synced) → EachImage old new (λ image. length image ≤ 1)
short_each old new empty stays each =
    let none : length old.now.image ≡ 0 = ap (λ (octets : List ℕ). length octets) empty in
    let shorter : length old.now.synced ≤ length old.now.image = stays.no_shorter in
    image_weaker old new (KeepsOutside 0 1 old.now.synced) (λ image. length image ≤ 1)
    (λ image keeps. let longer : length image ≤ max (length old.now.synced) (0 + 1) = keeps.no_longer in omega arith)
    each

pub synced_ok : {T E : Type 0} → (result : Result T E) (old new : Trace) (image : List ℕ) → Syncs result old new
    → old.now.image ≡ image
    → OnOk result (IsSynced new.now × (new.now.image ≡ image))
synced_ok (Ok value) old new image synced is = (synced.is_synced, synced.image ∙ is)
synced_ok (Err error) old new image same is = tt

-- zeros up to an end
pub zeros_to : (old new : List ℕ) (end : ℕ) → 1 ≤ end → old ≡ zeros 1 → new ≡ overwritten old 1 (zeros (end - 1))
    → new ≡ zeros end
zeros_to old new end some begun written =
    let whole : 1 + (end - 1) ≡ end = omega arith in
    written ∙ ap (λ (image : List ℕ). overwritten image 1 (zeros (end - 1))) begun ∙ more_zeros 1 (end - 1)
    ∙ ap zeros whole

pub first_written : (old mid : List ℕ) → old ≡ [] → mid ≡ overwritten old 0 (CLOSED ∷ []) → mid ≡ zeros 1
first_written old mid empty written = written ∙ ap (λ (image : List ℕ). overwritten image 0 (CLOSED ∷ [])) empty
    ∙ sym first_zero

-- what such an image is refused with
gate_first : (header : List ℕ) (size : ℕ) → get_or header 0 0 ≡ CLOSED → first_failing
    (header_checks header size) ≡ Some 0
gate_first header size shut = rw shut refl

pub shut_fails : (image : List ℕ) → ShutImage image → image_fault image ≡ Some 0
shut_fails image shut = elim (cases_lt (length image) HEADER_LENGTH) [
  | inl short ↦ short_verdict image short
  | inr whole ↦
      header_verdict image (header_of image) (length image) 0 refl whole refl
      (gate_first (header_of image) (length image) (get_or-take HEADER_LENGTH image 0 0 (omega arith) ∙ shut))
]

pub short_fails : (image : List ℕ) → length image ≤ 1 → image_fault image ≡ Some 0
short_fails image short = short_verdict image (omega arith)

-- octets written into zeros behind others
over_zeros : (n k : ℕ) (front octets : List ℕ) → k + length octets ≤ n
    → overwritten (front ++ zeros n) (length front + k) octets ≡ (front ++ zeros k ++ octets) ++ zeros
    (n - (k + length octets))
unfolding zeros
over_zeros n k front octets within =
    let first : take (length front + k) (front ++ replicate n 0) ≡ front ++ replicate k 0 =
    take-append-add front (replicate n 0) k ∙ ap (λ (some : List ℕ). front ++ some)
    (take-replicate k n 0 (omega arith)) in
    let place : length front + k + length octets ≡ length front + (k + length octets) = omega arith in
    let last : drop (length front + k + length octets) (front ++ replicate n 0) ≡ replicate
    (n - (k + length octets)) 0 =
    ap (λ (at : ℕ). drop at (front ++ replicate n 0)) place ∙ drop-append-add front (replicate n 0) (k + length octets)
    ∙ drop-replicate (k + length octets) n 0 in
    ap (λ (some : List ℕ). some ++ octets ++ drop (length front + k + length octets) (front ++ replicate n 0)) first
    ∙ ap (λ (some : List ℕ). front ++ replicate k 0 ++ octets ++ some) last

written_zeros : (n k m at : ℕ) (front octets image : List ℕ) → image ≡ front ++ zeros n → at ≡ length front + k
    → k + length octets ≤ n
    → m ≡ n - (k + length octets) → overwritten image at octets ≡ (front ++ zeros k ++ octets) ++ zeros m
written_zeros n k m at front octets image is place within left =
    ap (λ (some : List ℕ). overwritten some at octets) is
    ∙ ap (λ (from : ℕ). overwritten (front ++ zeros n) from octets) place
    ∙ over_zeros n k front octets within ∙ ap (λ (rest : ℕ). (front ++ zeros k ++ octets) ++ zeros rest) (sym left)

longer : (front octets : List ℕ) (k : ℕ) → length (front ++ zeros k ++ octets) ≡ length front + k + length octets
longer front octets k =
    length-append (front ++ zeros k) octets ∙ ap (λ (n : ℕ). n + length octets) (length-append front (zeros k)
    ∙ ap (λ (n : ℕ). length front + n) (length_zeros k))

pub fields_size : (form : HeaderForm) (plan_length slots : ℕ) → length (fields_of form plan_length slots) ≡ 16
fields_size Old plan_length slots = refl
fields_size Migrated plan_length slots = refl
fields_size New plan_length slots = refl

no_zeros : zeros 0 ≡ []
unfolding zeros
no_zeros = refl

pub zeros_joined : (m n : ℕ) → zeros m ++ zeros n ≡ zeros (m + n)
unfolding zeros
zeros_joined m n = replicate-append-replicate m n 0

-- the parts of the banks, one after the other
parts_join : (front number text slots spare : List ℕ)
    → (((front ++ OPEN ∷ []) ++ number) ++ text) ++ (slots ++ spare) ≡ front ++
    ((OPEN ∷ number) ++ text ++ slots ++ spare)
parts_join front number text slots spare =
    ap (λ (some : List ℕ). (some ++ text) ++ (slots ++ spare)) (append_assoc front (OPEN ∷ []) number)
    ∙ ap (λ (some : List ℕ). some ++ (slots ++ spare)) (append_assoc front (OPEN ∷ number) text)
    ∙ append_assoc front ((OPEN ∷ number) ++ text) (slots ++ spare)
    ∙ ap (λ (some : List ℕ). front ++ some) (sym (append_assoc ((OPEN ∷ number) ++ text) slots spare))

-- an image that begins with a journal has no other banks before its own
abbrev pub IsBegun : HeaderForm → Type 0
IsBegun form = (form ≡ Old) ⊎ (form ≡ New)

pub first_banks : (form : HeaderForm) (slots : ℕ) → IsBegun form → banks_of form slots ≡ BANKS_AT
first_banks form slots (inl is) = ap (λ (one : HeaderForm). banks_of one slots) is
first_banks form slots (inr is) = ap (λ (one : HeaderForm). banks_of one slots) is

-- all that stands before the banks
abbrev before_banks : HeaderForm → List ℕ → ℕ → List ℕ
before_banks form plan slots = (((0 ∷ []) ++ fields_of form (length plan) slots) ++ zeros 495 ++ plan) ++ zeros
    (PLAN_ROOM - length plan)

front_is : (form : HeaderForm) (plan : List ℕ) (slots : ℕ) → IsBegun form
    → before_banks form plan slots ≡ front_image form CLOSED plan slots
unfolding zeros
front_is form plan slots (inl is) = rw is refl
front_is form plan slots (inr is) = rw is refl

-- then its image has no gap before the banks
pub without_gap : (form : HeaderForm) (gate : ℕ) (plan : List ℕ) (slots : ℕ) (text : List ℕ) (generation : ℕ)
    (bank : Bank) → IsBegun form
    → rest_image form gate plan slots text generation bank
    ≡ front_image form gate plan slots ++ banks_at_rest (layout_of form slots) generation text bank
unfolding rest_image
without_gap form gate plan slots text generation bank begun =
    let banks = banks_at_rest (layout_of form slots) generation text bank in
    let front = front_image form gate plan slots in
    let none : banks_of form slots - BANKS_AT ≡ 0 = let at = first_banks form slots begun in omega (arith, at) in
    ap (λ (n : ℕ). (front ++ zeros n) ++ banks) none ∙ ap (λ (some : List ℕ). (front ++ some) ++ banks) no_zeros
    ∙ ap (λ (some : List ℕ). some ++ banks) (append-nil front)

parts_of : (form : HeaderForm) (plan : List ℕ) (slots generation : ℕ) (text : List ℕ) → IsBegun form
    → before_banks form plan slots ++ banks_at_rest (layout_of form slots) generation text First
    ≡ rest_image form CLOSED plan slots text generation First
parts_of form plan slots generation text begun =
    ap (λ (some : List ℕ). some ++ banks_at_rest (layout_of form slots) generation text First)
    (front_is form plan slots begun)
    ∙ sym (without_gap form CLOSED plan slots text generation First begun)

bank_join : (form : HeaderForm) (plan : List ℕ) (slots generation left : ℕ) (text : List ℕ) → IsBegun form
    → left ≡ SLOT_LENGTH * slots + bank_length (layout_of form slots)
    → (((before_banks form plan slots ++ OPEN ∷ []) ++ zeros 0 ++ big_bytes GENERATION_LENGTH generation) ++ zeros 0 ++
    text) ++ zeros left
    ≡ rest_image form CLOSED plan slots text generation First
bank_join form plan slots generation left text begun sized =
    let front = before_banks form plan slots in
    let number = big_bytes GENERATION_LENGTH generation in
    let size = bank_length (layout_of form slots) in
    let one : (front ++ OPEN ∷ []) ++ zeros 0 ≡ front ++ OPEN ∷ [] =
    ap (λ (some : List ℕ). (front ++ OPEN ∷ []) ++ some) no_zeros ∙ append-nil (front ++ OPEN ∷ []) in
    let two : ((front ++ OPEN ∷ []) ++ number) ++ zeros 0 ≡ (front ++ OPEN ∷ []) ++ number =
    ap (λ (some : List ℕ). ((front ++ OPEN ∷ []) ++ number) ++ some) no_zeros ∙ append-nil
    ((front ++ OPEN ∷ []) ++ number) in
    ap (λ (some : List ℕ). ((some ++ number) ++ zeros 0 ++ text) ++ zeros left) one
    ∙ ap (λ (some : List ℕ). (some ++ text) ++ zeros left) two
    ∙ ap (λ (n : ℕ). (((front ++ OPEN ∷ []) ++ number) ++ text) ++ zeros n) sized
    ∙ ap (λ (some : List ℕ). (((front ++ OPEN ∷ []) ++ number) ++ text) ++ some)
    (sym (zeros_joined (SLOT_LENGTH * slots) size))
    ∙ parts_join front number text (zeros (SLOT_LENGTH * slots)) (zeros size)
    ∙ parts_of form plan slots generation text begun

-- all of the writes
pub laid_is : (form : HeaderForm) (plan : List ℕ) (slots generation size : ℕ) (text : List ℕ) → IsBegun form
    → size ≡ image_end (layout_of form slots) → length plan ≤ PLAN_ROOM → length text ≡ content_length_of
    (version_of form)
    → filled BANKS_AT generation text (with_gate OPEN BANKS_AT
    (overwritten (overwritten (zeros size) MAGIC_AT (fields_of form (length plan) slots)) HEADER_LENGTH plan))
    ≡ rest_image form CLOSED plan slots text generation First
laid_is form plan slots generation size text begun sized room long =
    let fields = fields_of form (length plan) slots in
    let number = big_bytes GENERATION_LENGTH generation in
    let k = PLAN_ROOM - length plan in
    let end = 66057 + length text in
    let at : banks_of form slots ≡ BANKS_AT = first_banks form slots begun in
    let f1 : List ℕ = (0 ∷ []) ++ fields in
    let f2 : List ℕ = f1 ++ zeros 495 ++ plan in
    let f3 : List ℕ = f2 ++ zeros k ++ OPEN ∷ [] in
    let f4 : List ℕ = f3 ++ zeros 0 ++ number in
    let s0 : length fields ≡ 16 = fields_size form (length plan) slots in
    let s1 : length f1 ≡ 17 = ap suc s0 in
    let s2 : length f2 ≡ length f1 + 495 + length plan = longer f1 plan 495 in
    let s3 : length f3 ≡ length f2 + k + 1 = longer f2 (OPEN ∷ []) k in
    let s4 : length f4 ≡ length f3 + 0 + length number = longer f3 number 0 in
    let s5 : length number ≡ 8 = refl in
    let whole : size ≡ 66057 + length text + (SLOT_LENGTH * slots + bank_length (layout_of form slots)) = omega
    (arith, at, sized, long) in
    let e0 : overwritten (zeros size) MAGIC_AT fields ≡ f1 ++ zeros (size - 17) =
    written_zeros size 1 (size - 17) MAGIC_AT [] fields (zeros size) refl refl (omega (arith, s0, whole))
    (omega (arith, s0))
    ∙ ap (λ (some : List ℕ). (some ++ fields) ++ zeros (size - 17)) first_zero in
    let headed = overwritten (overwritten (zeros size) MAGIC_AT fields) HEADER_LENGTH plan in
    let e1 : headed ≡ f2 ++ zeros (size - (512 + length plan)) =
    written_zeros (size - 17) 495 (size - (512 + length plan)) HEADER_LENGTH f1 plan
    (overwritten (zeros size) MAGIC_AT fields) e0
    (omega (arith, s1)) (omega (arith, room, whole)) (omega arith) in
    let gated = with_gate OPEN BANKS_AT headed in
    let e2 : gated ≡ f3 ++ zeros (size - 66049) =
    written_zeros (size - (512 + length plan)) k (size - 66049) BANKS_AT f2 (OPEN ∷ []) headed e1
    (omega (arith, s1, s2, room)) (omega (arith, room, whole)) (omega (arith, room)) in
    let numbered = overwritten gated (BANKS_AT + GENERATION_AT) number in
    let e3 : numbered ≡ f4 ++ zeros (size - 66057) =
    written_zeros (size - 66049) 0 (size - 66057) (BANKS_AT + GENERATION_AT) f3 number gated e2
    (omega (arith, s1, s2, s3, room)) (omega (arith, s5, whole)) (omega (arith, s5)) in
    let e4 : overwritten numbered (BANKS_AT + CONTENT_AT) text ≡ (f4 ++ zeros 0 ++ text) ++ zeros (size - end) =
    written_zeros (size - 66057) 0 (size - end) (BANKS_AT + CONTENT_AT) f4 text numbered e3
    (omega (arith, s1, s2, s3, s4, s5, room)) (omega (arith, whole)) (omega arith) in
    e4 ∙ bank_join form plan slots generation (size - end) text begun (omega (arith, whole))

-- the calls, one after the other
pub two_written : {T E : Type 0} → (result : Result T E) (old : List ℕ) (mid new : Trace) (at next : ℕ)
    (first named second : List ℕ)
    → mid.now.image ≡ overwritten old at first → first ≡ named → Writes next second result mid new
    → OnOk result (new.now.image ≡ overwritten (overwritten old at named) next second)
two_written (Ok value) old mid new at next first named second one name two =
    two.1 ∙ ap (λ (image : List ℕ). overwritten image next second)
    (one ∙ ap (λ (octets : List ℕ). overwritten old at octets) name)
two_written (Err error) old mid new at next first named second one name two = tt

pub wrote_size : (old new octets : List ℕ) (at : ℕ) → new ≡ overwritten old at octets → at + length octets ≤ length old
    → length new ≡ length old
wrote_size old new octets at written within = ap (λ (image : List ℕ). length image) written
    ∙ overwritten_length old at octets within

pub laid_ok : {T E : Type 0} → (result : Result T E) (old new : Trace) (form : HeaderForm) (plan : List ℕ)
    (slots size : ℕ)
    (text zeroed headed : List ℕ) → IsBegun form → size ≡ image_end (layout_of form slots) → length plan ≤ PLAN_ROOM
    → length text ≡ content_length_of (version_of form) → zeroed ≡ zeros size
    → headed ≡ overwritten (overwritten zeroed MAGIC_AT (fields_of form (length plan) slots)) HEADER_LENGTH plan
    → old.now.image ≡ filled BANKS_AT FIRST_GENERATION text (with_gate OPEN BANKS_AT headed)
    → Syncs result old new → OnOk result (IsSynced new.now × (new.now.image ≡ laid_image form plan slots text))
laid_ok result old new form plan slots size text zeroed headed begun sized room long empty head bank syncs =
    synced_ok result old new (laid_image form plan slots text) syncs
    (bank ∙ ap (λ (image : List ℕ). filled BANKS_AT FIRST_GENERATION text (with_gate OPEN BANKS_AT image))
    (head ∙ ap (λ (image : List ℕ). overwritten
    (overwritten image MAGIC_AT (fields_of form (length plan) slots)) HEADER_LENGTH plan) empty)
    ∙ laid_is form plan slots FIRST_GENERATION size text begun sized room long)

-- the gate
pub opened_is : (form : HeaderForm) (plan : List ℕ) (slots : ℕ) (text : List ℕ) → overwritten
    (laid_image form plan slots text) 0 (OPEN ∷ []) ≡ created_image form plan slots text
unfolding rest_image
opened_is form plan slots text = refl

pub laid_length : (form : HeaderForm) (plan : List ℕ) (slots : ℕ) (text : List ℕ) → 1 ≤ length
    (laid_image form plan slots text)
unfolding rest_image
laid_length form plan slots text = omega arith

beyond : (gate octet : ℕ) (rest : List ℕ) (i : ℕ) → 0 + 1 ≤ i → get_or (gate ∷ rest) i 0 ≡ get_or (octet ∷ rest) i 0
beyond gate octet rest zero above = absurd (omega arith)
beyond gate octet rest (suc i) above = refl

gate_apart : (gate octet : ℕ) (rest image : List ℕ) → AllBut 0 1 (gate ∷ rest) image → AllBut 0 1 (octet ∷ rest) image
gate_apart gate octet rest image change = record {
  same_length = change.same_length;
  outside = λ i away. elim away [
    | inl before ↦ absurd (omega arith)
    | inr after ↦ change.outside i (inr after) ∙ beyond gate octet rest i after
  ];
}

but_for_gate : (form : HeaderForm) (plan : List ℕ) (slots : ℕ) (text image : List ℕ) → AllBut 0 1
    (laid_image form plan slots text) image
    → AllBut 0 1 (created_image form plan slots text) image
unfolding rest_image
but_for_gate form plan slots text image change = gate_apart CLOSED OPEN _ image change

abbrev RefusedFirst : List ℕ → Type 0
RefusedFirst image = image_fault image ≡ Some 0

pub first_refused : (old mid : Trace) → EachImage old mid (λ image. length image ≤ 1) → EachImage old mid RefusedFirst
first_refused old mid each = image_weaker old mid (λ image. length image ≤ 1) RefusedFirst short_fails each

pub then_refused : (old mid new : Trace) → EachImage old mid (λ image. length image ≤ 1) → EachImage mid new ShutImage
    → EachImage old new RefusedFirst
then_refused old mid new first second =
    image_then old mid new RefusedFirst (first_refused old mid first)
    (image_weaker mid new ShutImage RefusedFirst shut_fails second)

pub laid_late : (form : HeaderForm) (plan : List ℕ) (slots : ℕ) (text : List ℕ) (old mid new : Trace)
    → EachImage old mid RefusedFirst → IsSynced mid.now
    → mid.now.image ≡ laid_image form plan slots text → EachImage mid new (AllBut 0 1 mid.now.image)
    → IsLaid form plan slots text old mid new
laid_late form plan slots text old mid new early synced laid late = record {
  early = early;
  late = inr (
    synced,
    laid,
    image_weaker mid new (AllBut 0 1 mid.now.image) (AllBut 0 1 (created_image form plan slots text))
        (λ image change. but_for_gate form plan slots text image
        (subst (λ (octets : List ℕ). AllBut 0 1 octets image) laid change)) late,
  );
}

pub created_ok : {T E : Type 0} → (result : Result T E) (form : HeaderForm) (plan : List ℕ) (slots : ℕ) (text : List ℕ)
    (mid new : Trace)
    → mid.now.image ≡ laid_image form plan slots text
    → OnOk result (IsSynced new.now × (new.now.image ≡ overwritten mid.now.image 0 (OPEN ∷ [])))
    → OnOk result (IsSynced new.now × (new.now.image ≡ created_image form plan slots text))
created_ok (Ok value) form plan slots text mid new laid stored = (
  stored.0,
  stored.1 ∙ ap (λ (image : List ℕ). overwritten image 0 (OPEN ∷ [])) laid
      ∙ opened_is form plan slots text,
)
created_ok (Err error) form plan slots text mid new laid stored = tt

pub gate_within : (form : HeaderForm) (plan : List ℕ) (slots : ℕ) (text image : List ℕ)
    → image ≡ laid_image form plan slots text → 0 + 1 ≤ length image
gate_within form plan slots text image laid = subst (λ (octets : List ℕ). 1 ≤ length octets) (sym laid)
    (laid_length form plan slots text)

pub headed_size : (form : HeaderForm) (zeroed headed plan : List ℕ) (slots size : ℕ) → zeroed ≡ zeros size
    → BANKS_AT ≤ size → length plan ≤ PLAN_ROOM
    → headed ≡ overwritten (overwritten zeroed MAGIC_AT (fields_of form (length plan) slots)) HEADER_LENGTH plan
    → length headed ≡ size
headed_size form zeroed headed plan slots size empty far room written =
    let fields = fields_of form (length plan) slots in
    let sixteen : length fields ≡ 16 = fields_size form (length plan) slots in
    let long : length zeroed ≡ size = zeros_end zeroed size empty in
    let first : length (overwritten zeroed MAGIC_AT fields) ≡ length zeroed = overwritten_length zeroed MAGIC_AT fields
    (omega arith) in
    wrote_size (overwritten zeroed MAGIC_AT fields) headed plan HEADER_LENGTH written (omega arith) ∙ first ∙ long

pub end_size : (form : HeaderForm) (slots end : ℕ) (layout : Layout) → end ≡ image_end layout
    → layout ≡ layout_of form slots
    → end ≡ image_end (layout_of form slots)
end_size form slots end layout ends is = ends ∙ ap image_end is

-- the head of the first bank lies within the zeros
pub head_within : (form : HeaderForm) (slots end count : ℕ) → IsBegun form → end ≡ image_end (layout_of form slots)
    → count ≡ content_length_of (version_of form) → BANKS_AT + CONTENT_AT + count ≤ end
head_within form slots end count begun ends sized =
    let at : banks_of form slots ≡ BANKS_AT = first_banks form slots begun in
    omega (arith, at, ends, sized)
