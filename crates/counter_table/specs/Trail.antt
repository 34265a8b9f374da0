-- What a site held before any call.
use Rattle.std.specs.Prelude.{[]}
use Rattle.sdls_outside.specs.Moments.{Trace}

abbrev pub no_trace : Trace
no_trace = record { now = record { image = []; synced = []; ranges = []; sunk = [] }; past = [] }
