-- What a run began with, by what the opening shows (profile).
use Rattle.std.specs.Prelude.{◌≡◌, Bool}
use Rattle.sdls_base.specs.declared.TheConstants.{MOST_KEYS}
use Rattle.counter_table.specs.declared.view.Opening.{Opening}
use Rattle.run_promise.specs.Call.{Begin}

-- the run began with what the opening shows, on a table of MOST_KEYS rows
pub record BeganWith (told : Bool) (begin : Begin) (opening : Opening) : Type 0 where
  pub rows : begin.rows ≡ MOST_KEYS
  pub tells : begin.told ≡ told
  pub plan : opening.plan ≡ begin.plan
  pub start : opening.start ≡ begin.start
