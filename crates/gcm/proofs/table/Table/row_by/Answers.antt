use Rattle.std.proofs.Common.{◌*◌, ◌^◌, ℕ, [], ap, get_or, ◌∙◌}
use Rattle.aes_block.proofs.BasisFacts.{lower_bits, lower_fits, upper_bits, upper_fits}
use Rattle.gcm.specs.Field.{times_low}
use Rattle.gcm.specs.Rows.{octet_at, xor_sum}
use Rattle.gcm.proofs.RowFacts.{rows_by}
use Rattle.gcm.proofs.table.Table.row_by.Goals as goal

pub look_up-upper-requires : goal.look_up-upper-requires
look_up-upper-requires c = upper_fits c.args.octets c.fits-octets.1 _ (upper_bits c.args.octets c.fits-octets.0)

pub look_up-lower-requires : goal.look_up-lower-requires
look_up-lower-requires c = lower_fits c.args.octets c.fits-octets.1 _ (lower_bits c.args.octets c.fits-octets.0)

pub returns : goal.returns
returns c =
    let s = c.self.inside in
    let place : ℕ = c.args.place in
    rows_by s.subkey place c.args.octets (get_or s.upper place []) (get_or s.lower place []) c.look_up-upper.result
    c.look_up-lower.result c.fits-octets.0 c.fits-octets.1 (c.self.invariant.upper_rows place c.requires)
    (c.self.invariant.lower_rows place c.requires) c.look_up-upper.ensures c.look_up-lower.ensures
    ∙ ap (λ h. xor_sum (λ p. octet_at (times_low 8 (get_or c.args.octets p 0) h) place * 2 ^ (8 * p)) 16) c.self.view_is
