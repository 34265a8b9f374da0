-- A call of the unit, as its caller sees it: its site, what a run began with, and what came of it (profile).
use Rattle.std.specs.Prelude.{ℕ, Bool, ◌≡◌, List, length, drop, Ok}
use Rattle.sdls_base.specs.declared.entry.Entry.{Entry}
use Rattle.sdls_outside.specs.Moments.{Trace}
use Rattle.unit_plan.specs.PlanLines.{PlanLines}
use Rattle.unit_plan.specs.Plan.{plan_of}
use Rattle.unit_state.specs.declared.state.State.{State}
use Rattle.unit_image.specs.Image.{held}
use Rattle.unit_image.specs.Shows.{Shows}
use Rattle.record_io.specs.Reading.{SourceSeen}

-- ---- the site

-- what it holds and held, its count of faults, and how often a put has failed
pub record SiteSeen : Type 0 where
  pub trace : Trace
  pub faults : ℕ
  pub put_faults : ℕ

-- a site of some type, by what the type says of it
abbrev pub site_seen : {O : Type 0} → (O → Trace) → (O → ℕ) → (O → ℕ) → O → SiteSeen
site_seen trace faults puts site = record { trace = trace site; faults = faults site; put_faults = puts site }

-- ---- what a run began with

-- How many rows the counters have; whether the site shows what it holds; the plan of the image, and the state that it
-- shows.
pub record Begin : Type 0 where
  pub rows : ℕ
  pub told : Bool
  pub plan : PlanLines
  pub start : State

-- ---- the call

-- a call: source and site before and after it, whether the site shows what it holds, and the status and the entries
-- that
-- it answers
pub record CallSeen : Type 0 where
  pub source : SourceSeen
  pub source_after : SourceSeen
  pub told : Bool
  pub site : SiteSeen
  pub site_after : SiteSeen
  pub status : ℕ
  pub entries : List Entry

-- a call, by its source and its site before and after it, its status and its entries
abbrev pub call_seen : {S O : Type 0} → (S → SourceSeen) → (O → SiteSeen) → Bool → S → S → O → O → ℕ → List Entry
    → CallSeen
call_seen source_of site_of told source source_after site site_after status entries = record {
  source = source_of source;
  source_after = source_of source_after;
  told = told;
  site = site_of site;
  site_after = site_of site_after;
  status = status;
  entries = entries;
}

-- the image at the call's entry
abbrev pub image_at_entry : CallSeen → List ℕ
image_at_entry call = call.site.trace.now.image

-- the octets of the plan in it
abbrev pub plan_at_entry : CallSeen → List ℕ
plan_at_entry call = (held (image_at_entry call)).plan

-- it says this plan, and shows this state
pub record ShowsAtEntry (call : CallSeen) (plan : PlanLines) (state : State) : Type 0 where
  pub says : plan_of (plan_at_entry call) ≡ Ok plan
  pub shows : Shows (image_at_entry call) state

-- what was sunk since the call's entry
abbrev pub sunk_since : CallSeen → List ℕ → List ℕ
sunk_since call sunk = drop (length call.site.trace.now.sunk) sunk
