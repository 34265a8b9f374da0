-- The octets of a key in their room.
use Rattle.std.proofs.Common.{◌≡◌, ℕ, ◌≤◌, List, ◌++◌, length, replicate, take, drop, sym, ap, ◌∙◌}
use Rattle.std.proofs.Math.Seq.{take-append_seam}
use Rattle.std.proofs.lemmas.List.{drop-replicate}
use Rattle.key_book.specs.declared.key_row.TheConstants.{MOST_OCTETS}
use Rattle.key_book.specs.KeyOctets.{padded, IsPadded}

-- octets that were written over the front of a room of zeros
pub written : (octets zeros : List ℕ) → length octets ≤ MOST_OCTETS → zeros ≡ replicate MOST_OCTETS 0
    → IsPadded (octets ++ drop (length octets) zeros) (length octets)
written octets zeros most blank =
    let seen : take (length octets) (octets ++ drop (length octets) zeros) ≡ octets =
    take-append_seam octets (drop (length octets) zeros) in
    record {
      within = most;
      seen = ap length seen;
      zeros = ap padded seen ∙ ap (λ (rest : List ℕ). octets ++ rest)
          (sym (ap (drop (length octets)) blank ∙ drop-replicate (length octets) MOST_OCTETS 0));
    }
