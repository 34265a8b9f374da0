use Rattle.std.proofs.Common.{◌-◌, ◌<◌, ◌^◌, ℕ, arith, subst, ap, ◌∙◌}
use Rattle.gcm.specs.Rows.{by_powers, sum_of}
use Rattle.gcm.proofs.PairFacts.{all_rows_are, first_rows, next_rows, row_of_product, rows_octet_free}
use Rattle.gcm.proofs.TableFacts.{product_is}
use Rattle.gcm.proofs.table.Table.product.Goals as goal

pub rows-init : goal.rows-init
rows-init c =
    let octets = c.octets_of-octets.result in
    let a : ℕ = c.args.a in
    let h : ℕ = c.args.self.now in
    first_rows a h c.row_by-high.result c.row_by-middle.result
    (c.row_by-high.ensures ∙ row_of_product octets a h 15 c.octets_of-octets.ensures)
    (c.row_by-middle.ensures ∙ row_of_product octets a h 7 c.octets_of-octets.ensures)

pub rows-preserved : goal.rows-preserved
rows-preserved c =
    let octets = c.octets_of-octets.result in
    let a : ℕ = c.args.a in
    let h : ℕ = c.args.self.now in
    let i : ℕ = c.rows.i in
    c.with_rows.ensures
    ∙ next_rows a h i (sum_of c.rows.high c.rows.middle c.rows.low) c.row_by-upper.result c.row_by-lower.result
    (omega arith)
    (c.row_by-upper.ensures ∙ row_of_product octets a h (15 - i) c.octets_of-octets.ensures)
    (c.row_by-lower.ensures ∙ row_of_product octets a h (7 - i) c.octets_of-octets.ensures) c.rows.invariant

pub reduced-requires : goal.reduced-requires
reduced-requires c =
    rows_octet_free c.args.a c.args.self.now c.rows.i (sum_of c.rows.high c.rows.middle c.rows.low) (omega arith)
    c.rows.invariant

pub returns : goal.returns
returns c =
    let a : ℕ = c.args.a in
    let h : ℕ = c.args.self.now in
    c.reduced.ensures
    ∙ ap (by_powers 128)
    (all_rows_are a h c.rows.i (sum_of c.rows.high c.rows.middle c.rows.low) (omega arith) c.rows.invariant)
    ∙ product_is a h (subst (λ (k : ℕ). k < 2 ^ 128) c.self.view_is c.self.invariant.fits)
