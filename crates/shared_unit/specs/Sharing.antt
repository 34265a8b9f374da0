-- The words at the beginning of a run (profile).
use Rattle.std.specs.Prelude.{◌≡◌, ℕ, ◌+◌, ◌<◌, ◌≤◌, max, Bool, IsTrue, List, [], slice_index_or, Ok}
use Rattle.sdls_base.specs.declared.TheConstants.{MOST_KEYS}
use Rattle.sdls_outside.specs.Disk.{Leaves}
use Rattle.sdls_outside.specs.Moments.{EachMoment}
use Rattle.unit_image.specs.Image.{held}
use Rattle.unit_plan.specs.Plan.{plan_of}
use Rattle.unit_plan.specs.PlanLines.{PlanLines}
use Rattle.unit_image.specs.OpeningImage.{Opening}
use Rattle.unit_image.specs.Shows.{Shows}
use Rattle.counter_table.specs.declared.view.Known.{Known}
use Rattle.counter_table.specs.declared.view.Turn.{Turn}
use Rattle.counter_table.specs.declared.view.View.{View}
use Rattle.counter_table.specs.Known.{known_mark}
use Rattle.counter_table.specs.Numbers.{amount, top, ALL_SHARES}
use Rattle.counter_table.specs.Whole.{IsWhole}
use Rattle.counter_table.specs.Worker.{view}
use Rattle.counter_table.specs.declared.counters.Counters.{Counters}
use Rattle.counter_table.specs.declared.counters.Worker.{Worker}
use Rattle.run_promise.specs.Call.{SiteSeen}
use Rattle.unit_book.specs.Book.{BookView, IsKept, begun}
use Rattle.run_promise.specs.Numbers.{mark_at}
use Rattle.shared_unit.specs.Told.{known_of_book}
use Rattle.shared_unit.specs.Turn.{IsReady}

-- The holder of the turn knows these marks of the held book, and its count of changes.
pub record KnowsHeld (given : Known) (v w : Turn) : Type 0 where
  pub marks : List ℕ
  pub below : (row : ℕ) → slice_index_or marks row 1 ≤ known_mark given row
  pub is : w ≡ record v { known = record v.known { marks = marks; changes = given.changes } }

-- The words of so many rows were raised to their marks
pub record IsRaised (book : Known) (count : ℕ) (v w : View) : Type 0 where
  pub holds : KnowsHeld book v.turn w.turn
  pub drawn : w.numbers.drawn ≡ v.numbers.drawn
  pub spent : w.numbers.spent ≡ v.numbers.spent
  pub shares : w.numbers.shares ≡ v.numbers.shares
  pub raised : (row : ℕ) → row < count → known_mark book row ≤ top row w.numbers.nexts
  pub low : (row : ℕ) → top row w.numbers.raised ≤ max (top row v.numbers.raised) (known_mark book row)

-- The book that was opened on the site, as the opening left both.
pub record BookIsOpened (told : Bool) (site : SiteSeen) (book : BookView) : Type 0 where
  pub kept : IsKept told book
  pub begun_is : book ≡ begun book.site site.trace.now.image book.plan book.start book.journal
  pub shows : IsTrue told → Shows site.trace.now.image book.start × Shows book.site.trace.now.image book.start
  pub plan : IsTrue told → plan_of (held site.trace.now.image).plan ≡ Ok book.plan
  pub any_moment : IsTrue told → EachMoment site.trace book.site.trace (Opening site.trace)
  pub stays : IsTrue told → Leaves book.site.trace.now book.site.trace.now.image
  pub later : site.faults ≤ book.site.faults
  pub stood : book.site.faults ≡ site.faults
  pub puts_same : book.site.put_faults ≡ site.put_faults

-- The first worker, which has all shares: it drew, spent and made nothing yet, and each word is its key's mark, 1 where
-- there is no key.
pub record Begins {B : Type 0} (book : BookView) (counters : Counters B) (plan : PlanLines)
    (worker : Worker B) : Type 0 where
  pub ready : IsReady counters plan worker
  pub shares : (view worker).numbers.shares ≡ ALL_SHARES
  pub drawn : (view worker).numbers.drawn ≡ []
  pub spent : (view worker).numbers.spent ≡ []
  pub made : (view worker).turn.made ≡ []
  pub log : (view worker).turn.known.log ≡ []
  pub opening : (view worker).turn.known.opening ≡ (known_of_book book).opening
  pub whole : IsWhole MOST_KEYS (view worker)
  pub standing : (view worker).turn.known.standing ≡ book.standing
  pub put_faults : (view worker).turn.known.put_faults ≡ book.site.put_faults
  pub faults_same : (view worker).turn.known.faults ≡ book.site.faults
  pub words : (row : ℕ) → row < MOST_KEYS → top row (view worker).numbers.nexts ≡ mark_at book.start row
  pub raised : (row : ℕ) → row < MOST_KEYS → top row (view worker).numbers.raised ≤ mark_at book.start row
  pub added : (row : ℕ) → row < MOST_KEYS → top row (view worker).numbers.nexts
      ≡ 1 + amount row (view worker).numbers.added
