use Rattle.std.proofs.Common.{◌++◌, ◌∙◌, sym, subst, rules}
use Rattle.pair_audit.specs.Audit.{KnowsAudit}
use Rattle.pair_audit.specs.Recording.{recording_beginning}
use Rattle.pair_audit.specs.Walk.{NextSaid}
use Rattle.pair_audit.specs.declared.walk.NextRun.TheVariants as nexts
use Rattle.pair_audit.proofs.Runs.{found_whole, malformed_at, read_more}
use Rattle.pair_audit.proofs.walk.audit_runs.Goals as goal

pub runs-preserved : goal.runs-preserved
runs-preserved g c =
    let told : NextSaid g.S.Source.told c.runs.taken c.runs.audit c.audit_next.new.audit c.runs.first
    (g.S.Source.left c.runs.source)
    (g.S.Source.left c.audit_next.new.source) (nexts.Taken c.in-Taken.octets c.in-Taken.later) =
    rw c.in-Taken.is at c.in_ok-octets.ensures.said in (
      c.audit_next.ensures.sized ∙ c.runs.invariant.0,
      search rules,
      read_more g.S.Source.told c.runs.taken c.runs.count c.in-Taken.octets c.runs.audit c.audit_next.new.audit
          c.runs.first c.in-Taken.later
          (recording_beginning ++ g.S.Source.left c.args.source.now) _ _ told.0 c.runs.invariant.2 told.1 told.2 told.3,
    )

pub returns-in-Broken-clause-found : goal.returns-in-Broken-clause-found
returns-in-Broken-clause-found g c =
    let told : NextSaid g.S.Source.told c.runs.taken c.runs.audit c.audit_next.new.audit c.runs.first
    (g.S.Source.left c.runs.source)
    (g.S.Source.left c.audit_next.new.source) (nexts.Broken c.in-Broken.at) =
    rw c.in-Broken.is at c.in_ok-octets.ensures.said in
    malformed_at g.S.Source.told c.runs.taken c.runs.count c.in-Broken.at c.runs.audit c.runs.first
    (recording_beginning ++ g.S.Source.left c.args.source.now) (g.S.Source.left c.runs.source)
    (search rules) c.runs.invariant.2 told

pub returns-in-End-clause-found : goal.returns-in-End-clause-found
returns-in-End-clause-found g c =
    let told : NextSaid g.S.Source.told c.runs.taken c.runs.audit c.audit_next.new.audit c.runs.first
    (g.S.Source.left c.runs.source)
    (g.S.Source.left c.audit_next.new.source) nexts.End =
    rw c.in-End.is at c.in_ok-octets.ensures.said in
    found_whole g.S.Source.told c.runs.taken c.runs.count c.runs.audit c.runs.first
    (recording_beginning ++ g.S.Source.left c.args.source.now)
    (g.S.Source.left c.runs.source) c.end_of.result (search rules) c.runs.invariant.2 told.1
    (λ input read fed reads knows outcome count. c.end_of.ensures input read fed reads
    (subst (KnowsAudit fed) (sym told.0) knows) outcome count)
