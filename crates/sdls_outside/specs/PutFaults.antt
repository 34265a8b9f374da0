-- How many calls of `put` of a site have failed (profile).
use Rattle.std.specs.Prelude.{ℕ, ◌+◌}
use Rattle.sdls_outside.specs.declared.site.PutFaults.{PutFaults, Zero, OneMore', Same'}

abbrev pub count_of : PutFaults → ℕ
count_of Zero = 0
count_of (OneMore' marker count) = count_of count + 1
count_of (Same' marker count) = count_of count
