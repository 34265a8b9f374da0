-- The disk and the sink that a site in memory keeps (profile).
use Rattle.std.specs.Prelude.{ℕ, List, map}
use Rattle.sdls_outside.specs.Disk.{Disk}
use Rattle.sdls_outside.specs.Undo.{played_back, range_of}
use Rattle.sdls_outside.specs.declared.history.Undo.{Undo}

-- the image, what undoes the writes since the last sync, the newest first, and what was sunk
abbrev pub disk_from : List ℕ → List Undo → List ℕ → Disk
disk_from image undos sunk = record {
  image = image;
  synced = played_back undos image;
  ranges = map range_of undos;
  sunk = sunk;
}
