-- A unit over a site in memory, and its workers, may go to other threads.
-- Of a snapshot nothing is asked, so the row of a count of faults is put together from those of its fields.
use mir.Syntax.{Sym}
use denote.RattleType.{RattleType}
use denote.Struct.Field.{row_field}
use denote.Struct.Tuple.{TupleAt, type_at}
use denote.Param.Send.{IsSend, IsSync}
use denote.Param.SendFields.{as_row_send, declared_send, variants_send}
use Rattle.std.specs.Prelude.{[], ◌∷◌}
use Rattle.std.specs.contracts.snapshot.Snapshot as Snapshot
use Rattle.std.proofs.Crossing.{crosses, send, Vec-send}
use Rattle.sdls_outside.specs.contracts.mem_site.MemSite as MemSite
use Rattle.sdls_outside.specs.contracts.mem_site.MemSiteSite.TheImpl as site
use Rattle.sdls_outside.specs.contracts.site.PutFaults as PutFaults
use Rattle.sdls_outside.specs.contracts.history.History as History
use Rattle.sdls_outside.specs.contracts.mem_site.Held as Held
use Rattle.sdls_outside.proofs.mem_site.Held.TheSendSync as held
use Rattle.sdls_outside.proofs.calls.Calls.TheSendSync as calls
use Rattle.counter_table.specs.contracts.counters.Worker as TheWorker
use Rattle.counter_table.proofs.counters.Worker.TheSendSync as worker
use Rattle.shared_unit.specs.contracts.shared_book.SharedBook as SharedBook
use Rattle.shared_unit.specs.contracts.unit.Unit as TheUnit
use Rattle.frame_workers.proofs.Crossing as crossing

snapshot_send : (T : RattleType) → IsSend (Snapshot.the_row T)
snapshot_send T = search crosses

put_faults_send : IsSend PutFaults.the_row
put_faults_send = let before = snapshot_send PutFaults.the_hole in
    variants_send PutFaults.enum (tt, ((before, tt), ((before, tt), tt)))

history_send : IsSend History.the_row
history_send =
    declared_send History.the_type (
      send,
      (held.the_send, (Vec-send (Snapshot.the_row Held.the_row) (snapshot_send Held.the_row), tt)),
    )

site_send : IsSend MemSite.the_row
site_send = declared_send MemSite.the_type (history_send, (calls.the_send, (put_faults_send, tt)))

pub unit_sync : IsSync (TheUnit.the_row MemSite.the_row site.ghosts)
unit_sync = crossing.unit_sync MemSite.the_row site.ghosts site_send

pub worker_send : IsSend (TheWorker.the_row (SharedBook.the_row MemSite.the_row site.ghosts))
worker_send = worker.the_send (SharedBook.the_row MemSite.the_row site.ghosts)
    (crossing.shared_book_send MemSite.the_row site.ghosts site_send)

-- what a closure takes with it may go to another thread
pub three_send : (ν : Sym) (A B C : RattleType) → IsSend A → IsSend B → IsSend C → IsSend (TupleAt ν (A ∷ B ∷ C ∷ []))
three_send ν A B C a b c = declared_send (type_at ν (A ∷ B ∷ C ∷ []))
    (as_row_send (row_field A) a, (as_row_send (row_field B) b, (as_row_send (row_field C) c, tt)))

pub four_send : (ν : Sym) (A B C D : RattleType) → IsSend A → IsSend B → IsSend C → IsSend D
    → IsSend (TupleAt ν (A ∷ B ∷ C ∷ D ∷ []))
four_send ν A B C D a b c d = declared_send (type_at ν (A ∷ B ∷ C ∷ D ∷ [])) (
  as_row_send (row_field A) a,
  (as_row_send (row_field B) b, (as_row_send (row_field C) c, (as_row_send (row_field D) d, tt))),
)
