-- More octets in a text: what they leave of the chain and of the octets held back.
use Rattle.std.proofs.Common.{◌≡◌, ℕ, zero, suc, ◌+◌, ◌-◌, ◌*◌, ◌/◌, ◌<◌, ◌≤◌, List, [], ◌++◌, length, take, drop, refl}
use Rattle.std.proofs.Common.{sym, ap, ◌∙◌, arith}
use Rattle.std.proofs.lemmas.List.{length-append, length-drop, take-append-le, take_all, drop-append-le, drop-drop}
use Rattle.std.proofs.lemmas.List.{drop_at}
use Rattle.aes_block.specs.Aes.{encrypted}
use Rattle.cmac.specs.Cmac.{xored, zero_block, before_last, last_block, chain, mac}
use Rattle.cmac.specs.Running.{Kept, Holds}

-- blocks that lie in m are those of m
chain-append : (key m more : List ℕ) (n : ℕ) → 16 * n ≤ length m → chain key (m ++ more) n ≡ chain key m n
unfolding chain
chain-append key m more zero le = refl
chain-append key m more (suc n) le =
    let before : chain key (m ++ more) n ≡ chain key m n = chain-append key m more n (omega arith) in
    let block : take 16 (drop (16 * n) (m ++ more)) ≡ take 16 (drop (16 * n) m) =
    ap (take 16) (drop-append-le (16 * n) m more (omega arith))
    ∙ take-append-le 16 (drop (16 * n) m) more (omega (arith, length-drop (16 * n) m)) in
    ap (λ (c : List ℕ). encrypted key (xored c (take 16 (drop (16 * n) (m ++ more))))) before
    ∙ ap (λ (b : List ℕ). encrypted key (xored (chain key m n) b)) block

-- ---- more of the chain

pub chain_none : (key m : List ℕ) (n : ℕ) → chain key m n ≡ chain key m (n + 0)
chain_none key m n = let same : n ≡ n + 0 = omega arith in ap (chain key m) same

-- one block more, in a part of the text that begins after some blocks
pub chain_more : (key m part last next : List ℕ) (before i : ℕ) → last ≡ chain key m (before + i)
    → part ≡ drop (16 * before) m → next ≡ encrypted key (xored last (take 16 (drop (16 * i) part)))
    → next ≡ chain key m (before + (i + 1))
unfolding chain
chain_more key m part last next before i so_far at is =
    let place : 16 * before + 16 * i ≡ 16 * (before + i) = omega arith in
    let count : suc (before + i) ≡ before + (i + 1) = omega arith in
    let block : drop (16 * i) part ≡ drop (16 * (before + i)) m =
    ap (drop (16 * i)) at ∙ drop-drop (16 * i) (16 * before) m ∙ ap (λ (k : ℕ). drop k m) place in
    is ∙ ap (λ (c : List ℕ). encrypted key (xored c (take 16 (drop (16 * i) part)))) so_far
    ∙ ap (λ (b : List ℕ). encrypted key (xored (chain key m (before + i)) (take 16 b))) block
    ∙ ap (chain key m) count

-- ---- what is held back

-- how many octets are held back
held_count : (kept : Kept) (m : List ℕ) → Holds kept m → length kept.rest ≡ length m - 16 * before_last (length m)
held_count kept m holds = ap length holds.rest ∙ length-drop (16 * before_last (length m)) m

-- where there is room, the octets join those held back
pub holds_more : (kept : Kept) (m more : List ℕ) → Holds kept m → length kept.rest + length more ≤ 16
    → Holds (record kept { rest = kept.rest ++ more }) (m ++ more)
holds_more kept m more holds room =
    let b : ℕ = before_last (length m) in
    let count : length kept.rest ≡ length m - 16 * b = held_count kept m holds in
    let longer : length (m ++ more) ≡ length m + length more = length-append m more in
    let same : before_last (length (m ++ more)) ≡ b = omega arith in
    record {
      chained = holds.chained ∙ sym (chain-append kept.key m more b (omega arith))
          ∙ sym (ap (chain kept.key (m ++ more)) same);
      rest = ap (λ (l : List ℕ). l ++ more) holds.rest ∙ sym (drop-append-le (16 * b) m more (omega arith))
          ∙ sym (ap (λ (n : ℕ). drop (16 * n) (m ++ more)) same);
    }

-- where a whole block is held back, it is the next of the chain, and the octets after it begin after it
pub full_is_chained : (kept : Kept) (m more first : List ℕ) → Holds kept m → length kept.rest ≡ 16
    → first ≡ encrypted kept.key (xored kept.chained kept.rest)
    → first ≡ chain kept.key (m ++ more) (before_last (length m) + 1)
unfolding chain
full_is_chained kept m more first holds full is =
    let b : ℕ = before_last (length m) in
    let count : length kept.rest ≡ length m - 16 * b = held_count kept m holds in
    let here : suc b ≡ b + 1 = omega arith in
    let whole : kept.rest ≡ take 16 (drop (16 * b) m) =
    holds.rest ∙ sym (take_all 16 (drop (16 * b) m) (omega (arith, length-drop (16 * b) m))) in
    is ∙ ap (λ (c : List ℕ). encrypted kept.key (xored c kept.rest)) holds.chained
    ∙ ap (λ (l : List ℕ). encrypted kept.key (xored (chain kept.key m b) l)) whole
    ∙ sym (chain-append kept.key m more (suc b) (omega arith)) ∙ ap (chain kept.key (m ++ more)) here

pub after_full : (kept : Kept) (m more : List ℕ) → Holds kept m → length kept.rest ≡ 16
    → more ≡ drop (16 * (before_last (length m) + 1)) (m ++ more)
after_full kept m more holds full =
    let b : ℕ = before_last (length m) in
    let count : length kept.rest ≡ length m - 16 * b = held_count kept m holds in
    sym (drop_at m more (16 * (b + 1)) (omega arith))

-- the blocks of the octets that cannot be the last are chained, and the others held back
pub chained_holds : (kept : Kept) (m more chained rest : List ℕ) (n : ℕ) → Holds kept m → length kept.rest ≡ 16
    → 0 < length more → n ≡ (length more - 1) / 16
    → chained ≡ chain kept.key (m ++ more) (before_last (length m) + 1 + n) → rest ≡ drop (16 * n) more
    → Holds (record { key = kept.key; chained = chained; rest = rest }) (m ++ more)
chained_holds kept m more chained rest n holds full some count_is chained_is rest_is =
    let b : ℕ = before_last (length m) in
    let count : length kept.rest ≡ length m - 16 * b = held_count kept m holds in
    let longer : length (m ++ more) ≡ length m + length more = length-append m more in
    let all : b + 1 + n ≡ before_last (length (m ++ more)) = omega arith in
    let place : 16 * (b + 1) + 16 * n ≡ 16 * (b + 1 + n) = omega arith in
    record {
      chained = chained_is ∙ ap (chain kept.key (m ++ more)) all;
      rest = rest_is ∙ ap (drop (16 * n)) (after_full kept m more holds full)
          ∙ drop-drop (16 * n) (16 * (b + 1)) (m ++ more) ∙ ap (λ (k : ℕ). drop k (m ++ more)) place
          ∙ ap (λ (k : ℕ). drop (16 * k) (m ++ more)) all;
    }

pub holds_nothing : (key chained held : List ℕ) → chained ≡ zero_block
    → Holds (record { key = key; chained = chained; rest = take 0 held }) []
unfolding chain
holds_nothing key chained held is = record { chained = is; rest = refl }

-- the MAC of what is held is that of the text
pub closed_is : (kept : Kept) (m : List ℕ) → Holds kept m
    → encrypted kept.key (xored kept.chained (last_block kept.key kept.rest)) ≡ mac kept.key m
unfolding mac
closed_is kept m holds =
    ap (λ (c : List ℕ). encrypted kept.key (xored c (last_block kept.key kept.rest))) holds.chained
    ∙ ap (λ (r : List ℕ).
    encrypted kept.key (xored (chain kept.key m (before_last (length m))) (last_block kept.key r))) holds.rest

-- octets written to the front of a buffer
pub put_front : (x y z m : List ℕ) (k : ℕ) → y ≡ x → x ≡ drop k m → take (length x) (y ++ z) ≡ drop k m
put_front x y z m k same is =
    ap (λ (l : List ℕ). take (length x) (l ++ z)) same ∙ take-append-le (length x) x z (omega arith)
    ∙ take_all (length x) x (omega arith) ∙ is
