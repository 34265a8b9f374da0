-- A whole image whose octets are stated, for `rest_is_whole`.
use Rattle.std.proofs.Common.{◌≡◌, ℕ, suc, ◌+◌, ◌-◌, ◌*◌, ◌<◌, ◌≤◌, ◌++◌, ◌∷◌, ◌∙◌, List, [], length, get_or, take}
use Rattle.std.proofs.Common.{drop, replicate, sym, ap, subst, inl, inr, arith, append_assoc, length-drop}
use Rattle.disk_journal.proofs.Beginning.{zeros_joined}
use Rattle.disk_journal.proofs.Stands.{banks_behind}
use Rattle.disk_journal.specs.Banks.{bank_at, bank_length, banks_of, head_length, image_end, layout_of}
use Rattle.disk_journal.specs.Changes.{IsZero}
use Rattle.disk_journal.specs.Image.{image_layout}
use Rattle.disk_journal.specs.Initial.{banks_at_rest, front_image, rest_image}
use Rattle.disk_journal.specs.Rest.{IsRest, IsRestIn}
use Rattle.disk_journal.specs.declared.layout.Bank.{Bank}
use Rattle.disk_journal.specs.declared.layout.Bank.TheVariants.{First, Second}
use Rattle.disk_journal.specs.declared.layout.HeaderForm.{HeaderForm}
use Rattle.disk_journal.specs.declared.layout.Layout.{Layout}
use Rattle.disk_journal.specs.declared.layout.TheConstants.{BANKS_AT, CONTENT_AT, GENERATION_AT, GENERATION_LENGTH}
use Rattle.disk_journal.specs.declared.layout.TheConstants.{OPEN, SLOT_LENGTH}
use Rattle.byteorder.specs.Endian.{big_bytes}
use Rattle.disk_journal.proofs.ZeroLists.{length_zeros}
use Rattle.disk_journal.specs.Zeros.{zeros}
use Rattle.std.proofs.Math.ListN.{get_or-eq_default, get_or-replicate}
use Rattle.std.proofs.lemmas.Bool.{cases_lt}
use Rattle.std.proofs.lemmas.List.{drop-drop, ext_get_or, get_or-drop, get_or-take, length-replicate, length-take-le}
use Rattle.std.proofs.lemmas.List.{take-append-drop}

zeros_at : (n i : ℕ) → get_or (zeros n) i 0 ≡ 0
unfolding zeros
zeros_at n i = elim (cases_lt i n) [
  | inl below ↦ get_or-replicate n i 0 0 below
  | inr above ↦ get_or-eq_default (replicate n 0) 0 (subst (λ (k : ℕ). k ≤ i) (sym (length-replicate n 0)) above)
]

all_zeros : (octets : List ℕ) (n : ℕ) → length octets ≡ n → ((i : ℕ) → i < n → get_or octets i 0 ≡ 0) → octets ≡ zeros n
all_zeros octets n sized zero_there =
    ext_get_or 0 octets (zeros n) (sized ∙ sym (length_zeros n)) (λ i below.
    let low : i < n = omega arith in zero_there i low ∙ sym (zeros_at n i))

zero_part : (image : List ℕ) (at n : ℕ) → at + n ≤ length image → IsZero at (at + n) image → take n
    (drop at image) ≡ zeros n
zero_part image at n within empty =
    let long : length (drop at image) ≡ length image - at = length-drop at image in
    all_zeros (take n (drop at image)) n (length-take-le n (drop at image) (omega arith)) (λ i below.
    get_or-take n (drop at image) i 0 below ∙ get_or-drop at image i 0 ∙ empty (at + i) (omega arith) (omega arith))

-- a bank, by its parts
pub record HasParts (octets number text : List ℕ) (m n : ℕ) : Type 0 where
  pub sized : length octets ≡ CONTENT_AT + m + n
  pub gate : get_or octets 0 0 ≡ OPEN
  pub has_number : take GENERATION_LENGTH (drop GENERATION_AT octets) ≡ number
  pub has_text : take m (drop CONTENT_AT octets) ≡ text
  pub none : (i : ℕ) → CONTENT_AT + m ≤ i → i < CONTENT_AT + m + n → get_or octets i 0 ≡ 0

parts_are : (octets number text : List ℕ) (m n : ℕ) → HasParts octets number text m n → octets ≡ (OPEN ∷ number) ++
    (text ++ zeros n)
parts_are [] number text m n parts = absurd (let sized : 0 ≡ CONTENT_AT + m + n = parts.sized in omega arith)
parts_are (gate ∷ octets) number text m n parts =
    let sized : length (gate ∷ octets) ≡ CONTENT_AT + m + n = parts.sized in
    let behind : length (drop (8 + m) octets) ≡ n =
    length-drop (8 + m) octets ∙ (let less : length octets ≡ 8 + m + n = omega arith in omega arith) in
    let last : drop (8 + m) octets ≡ zeros n = all_zeros (drop (8 + m) octets) n behind (λ i below.
    let place : suc (8 + m + i) ≡ CONTENT_AT + m + i = omega arith in
    get_or-drop (8 + m) octets i 0 ∙ ap (λ (k : ℕ). get_or (gate ∷ octets) k 0) place
    ∙ parts.none (CONTENT_AT + m + i) (omega arith) (omega arith)) in
    let rest : drop m (drop 8 octets) ≡ zeros n = drop-drop m 8 octets ∙ last in
    ap (λ (octet : ℕ). octet ∷ octets) parts.gate
    ∙ ap (λ (some : List ℕ). OPEN ∷ some) (sym (take-append-drop 8 octets)
    ∙ ap (λ (some : List ℕ). some ++ drop 8 octets) parts.has_number
    ∙ ap (λ (some : List ℕ). number ++ some) (sym (take-append-drop m (drop 8 octets))
    ∙ ap (λ (some : List ℕ). some ++ drop m (drop 8 octets)) parts.has_text
    ∙ ap (λ (some : List ℕ). text ++ some) rest))

-- the octets of the banks
bank_parts : (layout : Layout) (image text : List ℕ) (generation n : ℕ) (bank : Bank)
    → IsRestIn layout image bank generation text
    → length (drop (bank_at layout bank) image) ≡ head_length layout + n
    → ((i : ℕ) → bank_at layout bank + head_length layout ≤ i → i < bank_at layout bank + head_length layout + n
    → get_or image i 0 ≡ 0)
    → drop (bank_at layout bank) image ≡ (OPEN ∷ big_bytes GENERATION_LENGTH generation) ++ (text ++ zeros n)
bank_parts layout image text generation n bank rest sized empty =
    let at = bank_at layout bank in
    let same : at + 0 ≡ at = omega arith in
    parts_are (drop at image) (big_bytes GENERATION_LENGTH generation) text layout.content_length n (record {
      sized = sized;
      gate = get_or-drop at image 0 0 ∙ ap (λ (k : ℕ). get_or image k 0) same ∙ rest.gate;
      has_number = ap (take GENERATION_LENGTH) (drop-drop GENERATION_AT at image) ∙ rest.has_generation;
      has_text = ap (take layout.content_length) (drop-drop CONTENT_AT at image) ∙ rest.has_content;
      none = λ i low high. get_or-drop at image i 0 ∙ empty (at + i) (omega arith) (omega arith);
    })

banks_whole : (layout : Layout) (image text : List ℕ) (generation : ℕ) (bank : Bank) → length image ≡ image_end layout
    → IsRestIn layout image bank generation text → drop layout.banks image ≡ banks_at_rest layout generation text bank
banks_whole layout image text generation First sized rest =
    let s = SLOT_LENGTH * layout.slots in
    let b = bank_length layout in
    let written = (OPEN ∷ big_bytes GENERATION_LENGTH generation) ++ text in
    let long : length (drop layout.banks image) ≡ head_length layout + (s + b) = length-drop layout.banks image
    ∙ omega arith in
    bank_parts layout image text generation (s + b) First rest long
    (λ i low high. elim (cases_lt i (layout.banks + b)) [
      | inl below ↦ rest.zero_slots i low below
      | inr above ↦ rest.spare i above (omega arith)
    ])
    ∙ sym (append_assoc (OPEN ∷ big_bytes GENERATION_LENGTH generation) text (zeros (s + b)))
    ∙ ap (λ (some : List ℕ). written ++ some) (sym (zeros_joined s b))
    ∙ sym (append_assoc written (zeros s) (zeros b))
banks_whole layout image text generation Second sized rest =
    let s = SLOT_LENGTH * layout.slots in
    let b = bank_length layout in
    let second = layout.banks + b in
    let written = (OPEN ∷ big_bytes GENERATION_LENGTH generation) ++ text in
    let long : length (drop second image) ≡ head_length layout + s = length-drop second image ∙ omega arith in
    let open_bank : drop second image ≡ written ++ zeros s =
    bank_parts layout image text generation s Second rest long (λ i low high. rest.zero_slots i low (omega arith))
    ∙ sym (append_assoc (OPEN ∷ big_bytes GENERATION_LENGTH generation) text (zeros s)) in
    let first_bank : take b (drop layout.banks image) ≡ zeros b = zero_part image layout.banks b
    (omega arith) rest.spare in
    sym (take-append-drop b (drop layout.banks image))
    ∙ ap (λ (some : List ℕ). some ++ drop b (drop layout.banks image)) first_bank
    ∙ ap (λ (some : List ℕ). zeros b ++ some) (drop-drop b layout.banks image ∙ open_bank)

-- what stands behind the plan: the old banks of an image that was migrated, and its banks
behind_whole : (form : HeaderForm) (image text : List ℕ) (slots generation : ℕ) (bank : Bank) → length image ≡ image_end
    (layout_of form slots)
    → IsRestIn (layout_of form slots) image bank generation text
    → drop BANKS_AT image ≡ zeros (banks_of form slots - BANKS_AT) ++ banks_at_rest
    (layout_of form slots) generation text bank
behind_whole form image text slots generation bank sized rest =
    let banks = banks_of form slots in
    let gap = banks - BANKS_AT in
    let behind = banks_behind form slots in
    let same : BANKS_AT + gap ≡ banks = omega (arith, behind) in
    let zero : take gap (drop BANKS_AT image) ≡ zeros gap =
    zero_part image BANKS_AT gap (omega (arith, same, sized))
    (λ i low high. rest.old_banks i low (omega (arith, same, high))) in
    sym (take-append-drop gap (drop BANKS_AT image))
    ∙ ap (λ (some : List ℕ). some ++ drop gap (drop BANKS_AT image)) zero
    ∙ ap (λ (some : List ℕ). zeros gap ++ some) (drop-drop gap BANKS_AT image ∙ ap (λ (at : ℕ). drop at image) same
    ∙ banks_whole (layout_of form slots) image text generation bank sized rest)

pub rest_whole : (form : HeaderForm) (image plan text : List ℕ) (slots generation : ℕ) (bank : Bank)
    → image_layout image ≡ layout_of form slots → length image ≡ image_end (layout_of form slots)
    → take BANKS_AT image ≡ front_image form OPEN plan slots → IsRest image bank generation text
    → image ≡ rest_image form OPEN plan slots text generation bank
unfolding rest_image
rest_whole form image plan text slots generation bank layout_is sized front rest =
    let there : IsRestIn (layout_of form slots) image bank generation text =
    subst (λ (one : Layout). IsRestIn one image bank generation text) layout_is rest in
    sym (take-append-drop BANKS_AT image)
    ∙ ap (λ (some : List ℕ). some ++ drop BANKS_AT image) front
    ∙ ap (λ (some : List ℕ). front_image form OPEN plan slots ++ some)
    (behind_whole form image text slots generation bank sized there)
    ∙ sym (append_assoc (front_image form OPEN plan slots) (zeros (banks_of form slots - BANKS_AT))
    (banks_at_rest (layout_of form slots) generation text bank))
