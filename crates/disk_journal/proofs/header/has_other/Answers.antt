use Rattle.std.proofs.Common.{◌≡◌, ◌==◌, ◌∙◌, not, ℕ, ap, rules}
use Rattle.std.specs.Int.Bits.{bit_or}
use Rattle.std.specs.List.{fold}
use Rattle.disk_journal.proofs.Joined.{joined_other}
use Rattle.disk_journal.proofs.header.has_other.Goals as goal

pub returns : goal.returns
returns c =
    let joined : c.fold.result ≡ fold bit_or 0 c.args.octets.now = search rules in
    ap (λ (x : ℕ). not (x == 0)) joined ∙ joined_other 0 c.args.octets.now
