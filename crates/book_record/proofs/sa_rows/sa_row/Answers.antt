use Rattle.std.proofs.Common.{◌≡◌, ◌+◌, ◌-◌, ◌∙◌, ap, subst, ℕ, take, drop, arith}
use Rattle.std.proofs.lemmas.Result.{err_from_is_err_and}
use Rattle.replay_window.specs.Window.{new_window}
use Rattle.sdls_base.specs.Bounds.{AreChannels}
use Rattle.sdls_base.specs.Places.{octet_at}
use Rattle.book_record.proofs.Lists.{fails}
use Rattle.book_record.proofs.Rows.{room_for}
use Rattle.book_record.proofs.sa_rows.sa_row.Goals as goal

pub returns-in_err-count : goal.returns-in_err-count
returns-in_err-count c =
    let p = err_from_is_err_and c.from_residual-in_err-count.result c.from_residual-in_err-count.ensures.1 in
    rw (p.1, p.2) (fails c.in_err-count.field-0.0 (λ may. room_for c.args.row.now c.requires may.4)
    c.in_err-count.ensures)

pub returns : goal.returns
returns c =
    let row = c.args.row.now in
    let width : (8 + c.in_ok-count.count) - 8 ≡ octet_at 7 row = omega (arith, c.in_ok-count.ensures.1) in
    let slice = ap (λ (n : ℕ). take n (drop 8 row)) width in
    let same = c.new.ensures ∙ c.in_ok-from_slice.ensures.items ∙ slice in
    let are = c.are_channels.ensures.0 c.if-not-are_channels.false in
    let spi = c.in_ok-spi.ensures in
    let direction = c.in_ok-direction.ensures in
    let suite = c.in_ok-suite.ensures in
    let state = c.in_ok-state.ensures in
    let window = c.new-2.ensures ∙ ap (new_window 0) c.number_at.ensures in (
      (spi.0, direction.0, suite.0, state.0, subst AreChannels slice are),
      λ i. record {
        spi = spi.1 i;
        direction = direction.1 i;
        suite = suite.1 i;
        state = state.1 i;
        key = c.held_key.ensures i;
        channels = same i;
        window = window i;
      },
    )
