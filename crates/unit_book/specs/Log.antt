-- The log of a run: its entries and the pieces that it put, in order.
use Rattle.std.specs.Prelude.{ℕ, List, [], ◌∷◌, ◌++◌, length, drop}
use Rattle.sdls_base.specs.declared.entry.Logged.{Logged}
use Rattle.sdls_base.specs.declared.entry.Logged.TheVariants as logged
use Rattle.sdls_outside.specs.Moments.{Trace}
use Rattle.unit_book.specs.declared.opening_image.Log.{Log, Begun, Entered', Put'}

-- the octets that were sunk between two times of a site
abbrev pub sunk_between : Trace → Trace → List ℕ
sunk_between old new = drop (length old.now.sunk) new.now.sunk

abbrev pub lines : {O : Type 0} → (O → Trace) → Log O → List Logged
lines trace Begun = []
lines trace (Entered' marker log entry) = lines trace log ++ logged.Entry entry.value ∷ []
lines trace (Put' marker log before now) = lines trace log
    ++ logged.Piece (sunk_between (trace before.value) (trace now.value)) ∷ []
