use Rattle.std.proofs.Common.{◌≡◌, ◌≤◌, length}
use Rattle.unit_book.specs.Book.{IsKept}
use Rattle.unit_book.specs.LeavesBook.{LeavesBook}
use Rattle.unit_book.specs.Receivers.{TellsReceivers}
use Rattle.unit_book.proofs.Released.{SoFar}
use Rattle.unit_book.proofs.book.Book.release.Given as goal

abbrev pub invariant-loop-place : goal.invariant-loop-place
invariant-loop-place g l = record {
  kept : IsKept g.O.Site.told l.self;
  keys : length l.self.state.keys ≡ length l.initial.self.state.keys;
  so_far : SoFar l.next l.place l.initial.self l.self;
  receivers : TellsReceivers l.self.state.associations l.receivers.places;
  goes_on : LeavesBook l.initial.self l.self;
  puts : l.self.site.put_faults ≡ l.initial.self.site.put_faults;
  later : l.initial.self.site.faults ≤ l.self.site.faults;
}
