-- What was sealed opens, and nothing else.
use Rattle.std.proofs.Common.{◌≡◌, ℕ, Bool, true, false, List, Some, None, if◌then◌else◌, bit_xor, refl, sym, ap, ◌∙◌}
use Rattle.std.specs.Str.{bytes_eq}
use Rattle.std.proofs.lemmas.Slice.Eq.{bytes_eq-Decides}
use Rattle.std.specs.Int.{w128, to_be_bytes, from_be_bytes}
use Rattle.aes_block.specs.Aes.{encrypted}
use Rattle.gcm.specs.Field.{ghash}
use Rattle.gcm.specs.Gcm.{blocks, gctr, counter_block, gcm_open, gcm_seal, hash_subkey, hashed, tag_of}
use Rattle.gcm.proofs.CounterFacts.{counted_twice}

chosen : (b : Bool) (text clear : List ℕ) → (if b then Some text else None) ≡ Some clear → (b ≡ true) × (text ≡ clear)
chosen true text clear is = (refl, (cc))
chosen false text clear is = absurd (cc)

pub opened_was_sealed : (key iv aad clear text tag : List ℕ)
    → gcm_open key iv aad text tag ≡ Some clear → gcm_seal key iv aad clear ≡ (text, tag)
opened_was_sealed key iv aad clear text tag opened =
    let parts = chosen (bytes_eq tag (tag_of key iv aad text)) (gctr key iv text) clear opened in
    let right : tag ≡ tag_of key iv aad text = (bytes_eq-Decides tag (tag_of key iv aad text)).0 parts.0 in
    let back : gctr key iv clear ≡ text = sym (ap (gctr key iv) parts.1) ∙ counted_twice key iv text in
    ap (λ (t : List ℕ). (t, tag_of key iv aad t)) back ∙ ap (λ (t : List ℕ). (text, t)) (sym right)

pub sealed_opens : (key iv aad clear text tag : List ℕ)
    → gcm_seal key iv aad clear ≡ (text, tag) → gcm_open key iv aad text tag ≡ Some clear
sealed_opens key iv aad clear text tag sealed =
    let same_text : gctr key iv clear ≡ text = ap (λ (p : List ℕ × List ℕ). p.0) sealed in
    let same_tag : tag_of key iv aad (gctr key iv clear) ≡ tag = ap (λ (p : List ℕ × List ℕ). p.1) sealed in
    let right : bytes_eq tag (tag_of key iv aad text) ≡ true =
    (bytes_eq-Decides tag (tag_of key iv aad text)).1 (sym same_tag ∙ ap (tag_of key iv aad) same_text) in
    let back : gctr key iv text ≡ clear = sym (ap (gctr key iv) same_text) ∙ counted_twice key iv clear in
    ap (λ (b : Bool). if b then Some (gctr key iv text) else None) right ∙ ap (λ (t : List ℕ). Some t) back

-- the tag from its parts
pub tag_is : (key iv aad text : List ℕ) (h mask s : ℕ) → h ≡ hash_subkey key
    → mask ≡ from_be_bytes w128 (encrypted key (counter_block iv 0)) → s ≡ ghash h (blocks (hashed aad text))
    → to_be_bytes w128 (bit_xor s mask) ≡ tag_of key iv aad text
unfolding tag_of
tag_is key iv aad text h mask s h_is mask_is s_is =
    ap (λ (x : ℕ). to_be_bytes w128 (bit_xor x mask))
    (s_is ∙ ap (λ (x : ℕ). ghash x (blocks (hashed aad text))) h_is)
    ∙ ap (λ (x : ℕ). to_be_bytes w128 (bit_xor (ghash (hash_subkey key) (blocks (hashed aad text))) x)) mask_is
