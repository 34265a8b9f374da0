-- A unit may be shared by threads where its site may go to another thread.
-- A book's log is an enum over snapshots of itself. Of a snapshot nothing is asked, so each row is put together from
-- those of its fields.
use mir.Syntax.{Sym}
use denote.RattleType.{RattleType}
use denote.Builtin.{u8}
use denote.Struct.Field.{row_field, u64-field}
use denote.Struct.Tuple.{TupleAt, type_at}
use denote.Param.Send.{IsSend, IsSync, shr_send, view_send, sendable}
use denote.Param.SendFields.{as_row_send, as_row_sync, declared_send, declared_sync, variants_send}
use denote.Hole.{as_row}
use denote.Ref.{NamedLft}
use Rattle.std.specs.Prelude.{[], ◌∷◌}
use Rattle.std.specs.contracts.snapshot.Snapshot as Snapshot
use Rattle.std.proofs.Crossing.{crosses, Arc-send, Box-send, Vec-send, Vec-sync}
use Rattle.sdls_base.specs.contracts.entry.Entry as Entry
use Rattle.sdls_base.proofs.entry.Entry.TheSendSync as entry
use Rattle.sdls_outside.specs.declared.site.Site as Site
use Rattle.unit_plan.specs.contracts.plan.Plan as Plan
use Rattle.unit_plan.proofs.plan.Plan.TheSendSync as plan
use Rattle.unit_state.specs.contracts.state.State as State
use Rattle.unit_state.proofs.state.State.TheSendSync as state
use Rattle.disk_journal.specs.contracts.journal.Journal as Journal
use Rattle.disk_journal.proofs.journal.Journal.TheSendSync as journal
use Rattle.counter_table.proofs.counters.Counters.TheSendSync as counters
use Rattle.unit_book.specs.contracts.opening_image.Log as Log
use Rattle.unit_book.specs.contracts.book.Book as Book
use Rattle.unit_book.specs.contracts.book.Book.TheInside as BookFields
use Rattle.record_io.specs.contracts.item_cursor.Record as Record
use Rattle.record_io.proofs.item_cursor.Record.TheSendSync as row
use Rattle.shared_unit.specs.contracts.shared_book.SharedBook as SharedBook
use Rattle.shared_unit.specs.contracts.shared_book.SharedBook.TheInside as SharedBookFields
use Rattle.shared_unit.specs.contracts.shared_book.SharedBookCounted.TheImpl as counted
use Rattle.shared_unit.specs.contracts.unit.Unit as TheUnit
use Rattle.frame_workers.specs.contracts.crew.LaneTask as LaneTask
use Rattle.frame_workers.proofs.lane.Lane.TheSendSync as lane

snapshot_send : (T : RattleType) → IsSend (Snapshot.the_row T)
snapshot_send T = search crosses

number_send : IsSend (as_row u64-field)
number_send = search sendable

octet_send : IsSend u8
octet_send = search sendable

log_send : (O : RattleType) → IsSend (Log.the_row O)
log_send O =
    let before = snapshot_send (Log.the_hole O) in let site = snapshot_send O in
    variants_send (Log.enum O) (tt, ((before, (snapshot_send Entry.the_row, tt)), ((before, (site, (site, tt))), tt)))

module _ (O : RattleType) (g : Site.Ghosts O.Denot) (s : IsSend O) where
  book_send : IsSend (Book.the_row O g)
  book_send = view_send _ _ _ _ _ (declared_send (BookFields.the_type O g) (
    as_row_send (row_field O) s,
    (
      snapshot_send O,
      (
        snapshot_send O,
        (
          number_send,
          (
            as_row_send (row_field Plan.the_row) plan.the_send,
            (
              snapshot_send State.the_row,
              (
                state.the_send,
                (
                  as_row_send (row_field Journal.the_row) journal.the_send,
                  (
                    Vec-send Entry.the_row entry.the_send,
                    (number_send, (number_send, (log_send O, (Vec-send u8 octet_send, tt)))),
                  ),
                ),
              ),
            ),
          ),
        ),
      ),
    ),
  ))

  pub shared_book_send : IsSend (SharedBook.the_row O g)
  shared_book_send =
      view_send _ _ _ _ _ (declared_send (SharedBookFields.the_type O g) (Box-send (Book.the_row O g) book_send, tt))

  pub unit_sync : IsSync (TheUnit.the_row O g)
  unit_sync = declared_sync (TheUnit.the_type O g) (
    counters.the_sync (SharedBook.the_row O g) (counted.ghosts O g counted.no_dict) shared_book_send,
    (as_row_sync (row_field Plan.the_row) plan.the_sync, tt),
  )

-- a lane's task may go to another thread
pub task_send : (a : NamedLft) (O : RattleType) (g : Site.Ghosts O.Denot) → IsSend O → IsSend (LaneTask.the_row a O g)
task_send a O g s = declared_send (LaneTask.the_type a O g) (
  shr_send _ _ _ (unit_sync O g s),
  (
    Arc-send _ (Vec-send Record.the_row row.the_send) (Vec-sync Record.the_row row.the_sync),
    (lane.the_send (SharedBook.the_row O g) (shared_book_send O g s), tt),
  ),
)

-- what a closure captures may be shared
pub captures_sync : (ν : Sym) (A B C D E : RattleType) → IsSync A → IsSync B → IsSync C → IsSync D → IsSync E
    → IsSync (TupleAt ν (A ∷ B ∷ C ∷ D ∷ E ∷ []))
captures_sync ν A B C D E a b c d e = declared_sync (type_at ν (A ∷ B ∷ C ∷ D ∷ E ∷ [])) (
  as_row_sync (row_field A) a,
  (
    as_row_sync (row_field B) b,
    (
      as_row_sync (row_field C) c,
      (as_row_sync (row_field D) d, (as_row_sync (row_field E) e, tt)),
    ),
  ),
)
