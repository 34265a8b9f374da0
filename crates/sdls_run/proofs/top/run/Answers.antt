use Rattle.std.proofs.Common.{◌∙◌, subst, sym}
use Rattle.sdls_outside.specs.Faults.{Rose}
use Rattle.record_io.specs.Reading.{source_seen}
use Rattle.run_promise.specs.Call.{CallSeen, call_seen, site_seen}
use Rattle.command_words.specs.Words.{command_of}
use Rattle.command_words.proofs.Sinking.{ends_only_sinks}
use Rattle.cli_image.specs.Unserved.{IsUnserved}
use Rattle.sdls_run.proofs.Reading.{by_stat, init_is_not_stat}
use Rattle.sdls_run.proofs.top.run.Goals as goal

pub returns-in-Drill-clause-other_lives : goal.returns-in-Drill-clause-other_lives
returns-in-Drill-clause-other_lives g c = λ other.
    let site = c.args.site in let last = c.drill.result.site in let ends = c.drill.ensures.ends in
    let call : CallSeen =
    call_seen (source_seen g.S.Source.told g.S.Source.left g.S.Source.faults)
    (site_seen g.O.Site.trace g.O.Site.faults g.O.Site.put_faults) g.O.Site.told c.args.source.now c.args.source.now
    site last
    c.drill.result.status c.drill.result.entries.items in
    c.sinking_keeps_lives.ensures call c.drill.ensures.no_history
    (λ told there. ends_only_sinks g.O.Site.told (g.O.Site.trace site) (g.O.Site.trace last)
    (Rose (g.O.Site.faults site) (g.O.Site.faults last)) ends.0 ends.1 c.drill.result.status ends.3 told)

pub returns-in-LinkDrill-clause-other_lives : goal.returns-in-LinkDrill-clause-other_lives
returns-in-LinkDrill-clause-other_lives g c = λ other.
    let site = c.args.site in let last = c.drill_link.result.site in let ends = c.drill_link.ensures.ends in
    let call : CallSeen =
    call_seen (source_seen g.S.Source.told g.S.Source.left g.S.Source.faults)
    (site_seen g.O.Site.trace g.O.Site.faults g.O.Site.put_faults) g.O.Site.told c.args.source.now c.args.source.now
    site last
    c.drill_link.result.status c.drill_link.result.entries.items in
    c.sinking_keeps_lives.ensures call c.drill_link.ensures.no_history
    (λ told there. ends_only_sinks g.O.Site.told (g.O.Site.trace site) (g.O.Site.trace last)
    (Rose (g.O.Site.faults site) (g.O.Site.faults last)) ends.0 ends.1 c.drill_link.result.status ends.3 told)

pub returns-in_default : goal.returns-in_default
returns-in_default g c =
    let plain = c.run_plain.ensures in let asked = c.command_of.ensures.asked in
    let call : CallSeen =
    call_seen (source_seen g.S.Source.told g.S.Source.left g.S.Source.faults)
    (site_seen g.O.Site.trace g.O.Site.faults g.O.Site.put_faults) g.O.Site.told c.args.source.now
    c.run_plain.new.source
    c.args.site c.run_plain.result.site c.run_plain.result.status c.run_plain.result.entries.items in
    record {
      run = λ is. absurd (c.in_default.not-Run (asked ∙ is));
      check = λ key is. record { ends = plain.check key is; takes = plain.check_takes key is };
      init = λ is. record {
        ends = plain.init is;
        takes = plain.init_takes is;
        leaves = plain.only_sinks (λ stat. init_is_not_stat (sym is ∙ stat));
      };
      stat = plain.stat;
      audit = plain.audit;
      drill = λ number is. absurd (c.in_default.not-Drill number (asked ∙ is));
      drill_link = λ number is. absurd (c.in_default.not-LinkDrill number (asked ∙ is));
      usage = λ is. plain.usage (subst IsUnserved (sym is) tt);
      unread = plain.unread;
      other_lives = λ other.
          by_stat (command_of c.args.words.now) (λ is. c.stat_keeps_lives.ensures call plain.no_history (plain.stat is))
          (λ no_stat. c.sinking_keeps_lives.ensures call plain.no_history (plain.only_sinks no_stat));
      quiet = λ other. plain.quiet;
      heard = λ other. plain.heard;
      no_history = λ other. plain.no_history;
    }
