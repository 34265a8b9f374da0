use Rattle.std.proofs.Common.{◌≡◌, ℕ, ◌<◌, List, length, get_or}
use Rattle.sha2.specs.Sha256.{sha256}
use Rattle.sdls_base.specs.declared.TheConstants.{MOST_KEYS_AT_ONCE}
use Rattle.sdls_base.specs.declared.key_id.KeyItem.{KeyItem}
use Rattle.key_book.proofs.table.Digests.of.Given as goal

abbrev pub invariant-loop-i : goal.invariant-loop-i
invariant-loop-i l = record {
  sized : length l.first ≡ MOST_KEYS_AT_ONCE;
  known : (k : ℕ) (d : List ℕ) (item : KeyItem) → k < l.i → get_or l.first k d ≡ sha256 (get_or l.items k item).bytes;
}
