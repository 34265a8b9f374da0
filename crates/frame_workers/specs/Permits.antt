-- The permits of a lane (profile).
use Rattle.std.specs.Prelude.{◌≡◌, Bool, true, false, []}
use Rattle.std.specs.List.{All}
use Rattle.counter_table.specs.declared.view.Turn.{Turn}
use Rattle.record_io.specs.declared.reader.RecordKind.{RecordKind}
use Rattle.record_io.specs.declared.reader.RecordKind.TheVariants.{Protect, Open, Command, Monitor}
use Rattle.shared_unit.specs.Opening.{IsOpenTrueIfKept}
use Rattle.shared_unit.specs.Protecting.{IsTrueIfKept}
use Rattle.frame_workers.specs.declared.lane.KeptPermits.{KeptPermits}
use Rattle.frame_workers.specs.declared.lane.Permits.{Permits}

-- each permit that is kept is true for a worker that knows this
pub record AreTrueFor (permits : Permits) (v : Turn) : Type 0 where
  pub to_protect : IsTrueIfKept permits.to_protect v
  pub to_open : IsOpenTrueIfKept permits.to_open v

-- so is each that is kept of the lanes between two segments
abbrev pub AreKept : KeptPermits → Turn → Type 0
AreKept kept v = All (λ places. All (λ permits. AreTrueFor permits v) places.items) kept.lanes.items

-- no lane has a permit
abbrev pub KeepsNone : KeptPermits → Type 0
KeepsNone kept = All (λ places. places.items ≡ []) kept.lanes.items

-- the record is a command
abbrev pub is_commanded : RecordKind → Bool
is_commanded Protect = false
is_commanded Open = false
is_commanded Command = true
is_commanded Monitor = false
