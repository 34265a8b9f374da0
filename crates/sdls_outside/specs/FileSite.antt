-- The file of the image with standard output: its path, and its counts of faults (profile).
use Rattle.std.specs.Prelude.{ℕ, List}
use Rattle.sdls_outside.specs.PutFaults.{count_of}
use Rattle.sdls_outside.specs.declared.file_site.FileSite.{FileSite}

abbrev pub image_path : FileSite → List ℕ
image_path site = site.path.now

abbrev pub output_faults : FileSite → ℕ
output_faults site = site.faults

-- how many calls of `put` have failed
abbrev pub output_put_faults : FileSite → ℕ
output_put_faults site = count_of site.put_faults
