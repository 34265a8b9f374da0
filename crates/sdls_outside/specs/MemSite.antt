-- What a site in memory holds, and which of its calls fail (profile).
use Rattle.std.specs.Prelude.{ℕ}
use Rattle.sdls_outside.specs.Moments.{Trace}
use Rattle.sdls_outside.specs.Calls.{Plan, plan_of}
use Rattle.sdls_outside.specs.History.{trace_of}
use Rattle.sdls_outside.specs.PutFaults.{count_of}
use Rattle.sdls_outside.specs.declared.mem_site.MemSite.{MemSite}

abbrev pub site_trace : MemSite → Trace
site_trace site = trace_of site.history

abbrev pub site_plan : MemSite → Plan
site_plan site = plan_of site.calls

abbrev pub site_faults : MemSite → ℕ
site_faults site = site.calls.faults

abbrev pub site_put_faults : MemSite → ℕ
site_put_faults site = count_of site.put_faults
