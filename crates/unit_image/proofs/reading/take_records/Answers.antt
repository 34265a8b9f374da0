use Rattle.std.proofs.Common.{◌∙◌, subst}
use Rattle.sdls_outside.specs.Moments.{Trace}
use Rattle.disk_journal.specs.Image.{records}
use Rattle.disk_journal.specs.Runs.{IsRunOf}
use Rattle.unit_image.specs.OpeningImage.{TakesRecord}
use Rattle.unit_image.proofs.Leading.{led_next}
use Rattle.unit_image.proofs.reading.take_records.Goals as goal

pub loop-index-preserved : goal.loop-index-preserved
loop-index-preserved g c = record {
  stood = c.in_ok-take_record.ensures.fault.stood ∙ c.loop-index.invariant.stood;
  puts = c.take_record.ensures.puts ∙ c.loop-index.invariant.puts;
  same = λ told. c.take_record.ensures.same told ∙ c.loop-index.invariant.same told;
  run = λ told. subst (λ (trace : Trace). IsRunOf trace.now.image c.take_record.new.run)
      (c.loop-index.invariant.same told)
      (c.in_ok-take_record.ensures.run told);
  led = λ told. led_next c.args.state.now (records (g.O.Site.trace c.args.site.now).now.image) c.loop-index.index
      c.loop-index.state c.take_record.new.state (c.loop-index.invariant.led told)
      (subst (λ (trace : Trace). TakesRecord (records trace.now.image) c.loop-index.index c.loop-index.state
      c.take_record.new.state)
      (c.loop-index.invariant.same told) (c.in_ok-take_record.ensures.taken told));
  rules = c.take_record.ensures.rules;
}
