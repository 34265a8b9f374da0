use Rattle.std.proofs.Common.{length}
use Rattle.disk_journal.proofs.Zeros.{zero_read}
use Rattle.disk_journal.proofs.storing.reads_zeros.Goals as goal

pub returns-clause-zero : goal.returns-clause-zero
returns-clause-zero g c = λ told.
    zero_read c.args.at (length c.args.octets.now) c.read_at.new.into
    (g.O.Site.trace c.args.site.now).now.image c.has_other.result
    (c.in_ok-read_at.ensures.read told) c.has_other.ensures
