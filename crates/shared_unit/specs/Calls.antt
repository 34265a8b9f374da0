-- What clauses on the calls say of their answers (profile).
use Rattle.std.specs.Prelude.{◌≡◌, ℕ, Bool, IsTrue, List, Result, Ok, Err, IfErr}
use Rattle.sdls_outside.specs.Site as sites
use Rattle.counter_table.specs.declared.view.Known.{Known}
use Rattle.unit_book.specs.declared.fault.BookFault.{BookFault}
use Rattle.unit_book.specs.Log.{sunk_between}
use Rattle.unit_book.specs.Book.{BookView, PutFails, with_put}
use Rattle.shared_unit.specs.Told.{entry_count}

-- the answer is one of the book, with the count of the entries beside a fault
abbrev pub WithPosition : {T : Type 0} → Result T (BookFault × ℕ) → Known → (Result T BookFault → Type 0) → Type 0
WithPosition (Ok t) given P = P (Ok t)
WithPosition (Err refused) given P = P (Err refused.0) × (refused.1 ≡ entry_count given)

-- The octets were put, or a front of them, and are the next line of the log. One more put failed where the answer is a
-- fault.
pub record IsPut (told : Bool) (octets : List ℕ) (result : Result (Unit {0}) BookFault)
    (found given : BookView) : Type 0 where
  pub made : given ≡ with_put (sunk_between found.site.trace given.site.trace) (record found { site = given.site })
  pub put : IsTrue told → sites.Puts octets result found.site.trace given.site.trace
  pub counted : given.site.put_faults ≡ sites.after_put result found.site.put_faults
  pub fault : IfErr result (PutFails found.site.faults given.site.faults)
