use Rattle.std.proofs.Common.{◌≡◌, ℕ, ◌≤◌, ◌<◌, ◌+◌, ◌-◌, ◌∙◌, length, refl, sym, ap, arith}
use Rattle.sdls_outside.specs.Site.{overwritten}
use Rattle.disk_journal.specs.Zeros.{zeros}
use Rattle.disk_journal.proofs.Overwriting.{overwritten_none, zeroed, zeros_more}
use Rattle.disk_journal.proofs.Writing.{in_then, in_wider, none_in, writes_in}
use Rattle.disk_journal.proofs.ZeroLists.{zeros_end}
use Rattle.disk_journal.proofs.storing.write_zeros.Goals as goal

pub loop-done-init : goal.loop-done-init
loop-done-init g c = record {
  stood = refl;
  puts = refl;
  within = omega arith;
  written = λ told. sym (overwritten_none (g.O.Site.trace c.args.site.now).now.image c.args.at);
  row = λ told. none_in c.args.at c.args.count (g.O.Site.trace c.args.site.now) (g.O.Site.trace c.args.site.now) refl;
}

pub write_at-requires : goal.write_at-requires
write_at-requires g c = λ told.
    (zeroed (g.O.Site.trace c.args.site.now).now.image
    (g.O.Site.trace c.loop-done.site).now.image c.args.at c.loop-done.done
    (c.requires.within told) (c.loop-done.invariant.written told)).long

pub returns-in_err-write_at-clause-row : goal.returns-in_err-write_at-clause-row
returns-in_err-write_at-clause-row g c = λ told.
    let below : c.loop-done.done < c.args.count = c.loop-done-test.true in
    let within : c.piece_of-piece.result ≤ c.args.count - c.loop-done.done = c.piece_of-piece.ensures.within in
    let size : length c.zeros_of.result.now ≡ c.piece_of-piece.result =
    zeros_end c.zeros_of.result.now c.piece_of-piece.result c.zeros_of.ensures in
    in_then c.args.at c.args.count (g.O.Site.trace c.args.site.now) (g.O.Site.trace c.loop-done.site)
    (g.O.Site.trace c.write_at.new.self)
    (c.loop-done.invariant.row told)
    (in_wider (c.args.at + c.loop-done.done) (length c.zeros_of.result.now) c.args.at c.args.count
    (g.O.Site.trace c.loop-done.site)
    (g.O.Site.trace c.write_at.new.self) (omega arith) (omega arith)
    (writes_in (c.args.at + c.loop-done.done) c.zeros_of.result.now c.write_at.result (g.O.Site.trace c.loop-done.site)
    (g.O.Site.trace c.write_at.new.self) (c.write_at.ensures.written told)))

pub loop-done-preserved : goal.loop-done-preserved
loop-done-preserved g c =
    let below : c.loop-done.done < c.args.count = c.loop-done-test.true in
    let within : c.piece_of-piece.result ≤ c.args.count - c.loop-done.done = c.piece_of-piece.ensures.within in
    let size : length c.zeros_of.result.now ≡ c.piece_of-piece.result =
    zeros_end c.zeros_of.result.now c.piece_of-piece.result c.zeros_of.ensures in
    record {
      stood = c.in_ok-write_at.ensures.cause.stood ∙ c.loop-done.invariant.stood;
      puts = c.in_ok-write_at.ensures.puts ∙ c.loop-done.invariant.puts;
      within = omega arith;
      written = λ told.
          zeros_more (g.O.Site.trace c.args.site.now).now.image (g.O.Site.trace c.loop-done.site).now.image
          (g.O.Site.trace c.write_at.new.self).now.image c.args.at c.loop-done.done c.piece_of-piece.result
          (c.requires.within told)
          (c.loop-done.invariant.written told)
          ((c.in_ok-write_at.ensures.written told).1
          ∙ ap (overwritten (g.O.Site.trace c.loop-done.site).now.image (c.args.at + c.loop-done.done))
          c.zeros_of.ensures);
      row = λ told.
          in_then c.args.at c.args.count (g.O.Site.trace c.args.site.now) (g.O.Site.trace c.loop-done.site)
          (g.O.Site.trace c.write_at.new.self)
          (c.loop-done.invariant.row told)
          (in_wider (c.args.at + c.loop-done.done) (length c.zeros_of.result.now) c.args.at c.args.count
          (g.O.Site.trace c.loop-done.site)
          (g.O.Site.trace c.write_at.new.self) (omega arith) (omega arith)
          (writes_in (c.args.at + c.loop-done.done) c.zeros_of.result.now c.write_at.result
          (g.O.Site.trace c.loop-done.site)
          (g.O.Site.trace c.write_at.new.self) (c.write_at.ensures.written told)));
    }

pub returns-clause-written : goal.returns-clause-written
returns-clause-written g c = λ told.
    let within : c.loop-done.done ≤ c.args.count = c.loop-done.invariant.within in
    let end : c.loop-done.done ≡ c.args.count = omega arith in
    c.loop-done.invariant.written told
    ∙ ap (λ (n : ℕ). overwritten (g.O.Site.trace c.args.site.now).now.image c.args.at (zeros n)) end
