-- The trace that a site in memory keeps (profile).
use Rattle.std.specs.Prelude.{map}
use Rattle.sdls_outside.specs.Disk.{Disk}
use Rattle.sdls_outside.specs.Moments.{Trace}
use Rattle.sdls_outside.specs.Held.{disk_from}
use Rattle.sdls_outside.specs.declared.mem_site.Held.{Held}
use Rattle.sdls_outside.specs.declared.history.History.{History}

-- what was synced is the image with the writes since undone
abbrev pub disk_of : Held → Disk
disk_of held = disk_from held.image.items held.undos.items held.sunk.items

abbrev pub trace_of : History → Trace
trace_of history = record { now = disk_of history.held; past = map (λ before. disk_of before.value) history.past.items }
