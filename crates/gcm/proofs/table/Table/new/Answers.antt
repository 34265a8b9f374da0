use Rattle.std.proofs.Common.{ℕ, ◌≡◌, subst, ap, ◌∙◌}
use Rattle.gcm.specs.Field.{by_x}
use Rattle.gcm.specs.Rows.{AreRows, by_powers}
use Rattle.gcm.proofs.table.Table.new.Goals as goal

pub invariant_of-result : goal.invariant_of-result
unfolding by_powers
invariant_of-result c =
    let fourth : c.by_x-4.result ≡ by_powers 4 c.from_be_bytes-subkey.result =
    c.by_x-4.ensures
    ∙ ap by_x (c.by_x-3.ensures ∙ ap by_x (c.by_x-2.ensures ∙ ap by_x c.by_x.ensures)) in
    record {
      fits = c.from_be_bytes-subkey.type_inv;
      upper_rows = c.rows_of.ensures;
      lower_rows = subst (λ (v : ℕ). AreRows v c.rows_of-2.result) fourth c.rows_of-2.ensures;
    }
