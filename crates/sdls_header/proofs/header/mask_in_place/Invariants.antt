use Rattle.std.proofs.Common.{◌≡◌, ℕ, ◌<◌, ◌≤◌, length, get_or}
use Rattle.std.specs.Prelude.{bit_and}
use Rattle.sdls_header.proofs.header.mask_in_place.Given as goal

-- the octets so far are under the mask, and the others as they were
abbrev pub invariant-octets : goal.invariant-octets
invariant-octets l = record {
  long : length l.prefix ≡ length l.fn.prefix;
  done : (k : ℕ) → k < l.i → get_or l.prefix k 0 ≡ bit_and (get_or l.fn.prefix k 0) (get_or l.mask k 0);
  others : (k : ℕ) → l.i ≤ k → get_or l.prefix k 0 ≡ get_or l.fn.prefix k 0;
}

abbrev pub invariant-rest : goal.invariant-rest
invariant-rest l = record {
  long : length l.prefix ≡ length l.fn.prefix;
  done : (k : ℕ) → k < l.i → get_or l.prefix k 0 ≡ bit_and (get_or l.fn.prefix k 0) (get_or l.mask k 0);
}
