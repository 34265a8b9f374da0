-- Octets collected piece by piece, for `collect`.
use Rattle.std.proofs.Common.{◌≡◌, ℕ, ◌+◌, ◌≤◌, List, ◌++◌, length, take, ap, sym, ◌∙◌, append_assoc, subst}
use Rattle.std.proofs.Math.Seq.{take-append-add}
use Rattle.std.proofs.lemmas.List.{length-take-le, take-append-le}
use borrow.Rule.Slice.PartMut.{put_mid, post_of}

-- the front of the buffer grows by what the piece behind it was given
pub take-put_mid_more : (filled count room : ℕ) (buffer piece : List ℕ) → filled ≤ length buffer → count ≤ length piece
    → take (filled + count) (put_mid filled room buffer piece) ≡ take filled buffer ++ take count piece
take-put_mid_more filled count room buffer piece here within =
    let front = take filled buffer in
    let sized : length front ≡ filled = length-take-le filled buffer here in
    let past : take (length front + count) (front ++ (piece ++ post_of filled room buffer))
    ≡ front ++ take count (piece ++ post_of filled room buffer)
    = take-append-add front (piece ++ post_of filled room buffer) count in
    let seen : take (filled + count) (put_mid filled room buffer piece)
    ≡ front ++ take count (piece ++ post_of filled room buffer)
    = subst (λ (n : ℕ). take (n + count) (put_mid filled room buffer piece)
    ≡ front ++ take count (piece ++ post_of filled room buffer)) sized past in
    seen ∙ ap (λ (rest : List ℕ). front ++ rest) (take-append-le count piece (post_of filled room buffer) within)

-- what was taken so far grows by what one call moved
pub collected_more : (filled count room : ℕ) (buffer piece first rest last : List ℕ) → filled ≤ length buffer
    → count ≤ length piece → first ≡ take filled buffer ++ rest → rest ≡ take count piece ++ last
    → first ≡ take (filled + count) (put_mid filled room buffer piece) ++ last
collected_more filled count room buffer piece first rest last here within before moved =
    before ∙ ap (λ (tail : List ℕ). take filled buffer ++ tail) moved
    ∙ sym (append_assoc (take filled buffer) (take count piece) last)
    ∙ ap (λ (front : List ℕ). front ++ last) (sym (take-put_mid_more filled count room buffer piece here within))
