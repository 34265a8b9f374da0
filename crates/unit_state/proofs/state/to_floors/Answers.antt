use Rattle.std.proofs.Common.{◌≡◌, ◌<◌, ◌≤◌, ◌++◌, List, length, map, drop, get_or, set, sym, ap, subst, ◌∙◌, refl}
use Rattle.std.proofs.Common.{arith}
use Rattle.std.proofs.lemmas.List.{append-nil, drop_all, get_or_default, length-set, take_all}
use Rattle.std.proofs.lemmas.List.Edits.{map_over_more}
use Rattle.sa_book.specs.declared.sa_book.SaRow.{SaRow}
use Rattle.sa_book.specs.Numbers.{with_high}
use Rattle.sa_book.specs.SaBook.{IsSaBook}
use Rattle.sa_book.specs.SaRow.{HasHigh, IsSaRow}
use Rattle.unit_state.specs.Restart.{restarted_row}
use Rattle.sa_book.proofs.Changes.{IsSaBook-begin}
use Rattle.unit_state.proofs.state.to_floors.Goals as goal

pub loop-place-init : goal.loop-place-init
loop-place-init c = record { set = refl; many = refl; rules = λ rules. rules }

pub bounds-rows-place : goal.bounds-rows-place
bounds-rows-place c =
    let end = ap (λ (rows : List SaRow). length rows) c.rows-place-end.ensures.rows in
    let here = ap (λ (rows : List SaRow). length rows) c.rows.ensures.rows in
    omega (arith, end, here, c.loop-place.invariant.many, c.loop-place-test.true)

pub begin_window-requires-clause-there : goal.begin_window-requires-clause-there
begin_window-requires-clause-there c =
    let end = ap (λ (rows : List SaRow). length rows) c.rows-place-end.ensures.rows in
    omega (arith, end, c.loop-place.invariant.many, c.loop-place-test.true)

pub begin_window-requires-clause-high : goal.begin_window-requires-clause-high
begin_window-requires-clause-high c = λ row is.
    let rows : List SaRow = c.loop-place.associations in
    let place = c.loop-place.place in
    let own : SaRow = c.index-rows-place.result in
    let there : place < length rows = begin_window-requires-clause-there c in
    let read : own ≡ get_or rows place own =
    c.index-rows-place.is ∙ ap (λ (some : List SaRow). get_or some place own) c.rows.ensures.rows in
    let same : own ≡ row = read ∙ get_or_default rows place own row there ∙ sym is in
    let rules : IsSaRow own = subst IsSaRow (sym read) (c.rows.ensures.rules.each place own there) in
    subst (λ (some : SaRow). HasHigh some.direction some.key c.restarted_high-high.result) same
    (c.restarted_high-high.ensures.fits rules)

pub loop-place-preserved : goal.loop-place-preserved
loop-place-preserved c =
    let rows : List SaRow = c.loop-place.associations in
    let place = c.loop-place.place in
    let own : SaRow = c.index-rows-place.result in
    let end = ap (λ (some : List SaRow). length some) c.rows-place-end.ensures.rows in
    let low : place < length c.args.associations.now = omega (arith, end, c.loop-place-test.true) in
    let read : own ≡ get_or rows place own =
    c.index-rows-place.is ∙ ap (λ (some : List SaRow). get_or some place own) c.rows.ensures.rows in
    let there : place < length rows = omega (arith, low, c.loop-place.invariant.many) in
    let new = c.begin_window.ensures own read in
    record {
      set = new
          ∙ ap (λ high. set rows place (with_high own high)) c.restarted_high-high.ensures.high
          ∙ map_over_more (restarted_row c.args.keys.now) c.args.associations.now rows place own low
          c.loop-place.invariant.set read;
      rules = λ _.
          subst IsSaBook (sym new) (IsSaBook-begin rows place own c.restarted_high-high.result c.rows.ensures.rules
          there read
          (c.restarted_high-high.ensures.fits (subst IsSaRow (sym read) (c.rows.ensures.rules.each place own there))));
      many = ap (λ (some : List SaRow). length some) new
          ∙ length-set rows place (with_high own c.restarted_high-high.result) ∙ c.loop-place.invariant.many;
    }

pub returns-clause-set : goal.returns-clause-set
returns-clause-set c =
    let old : List SaRow = c.args.associations.now in
    let place = c.loop-place.place in
    let end = ap (λ (some : List SaRow). length some) c.rows-place-end.ensures.rows in
    let all : length old ≤ place = omega (arith, end, c.loop-place-test.false) in
    c.loop-place.invariant.set
    ∙ ap (λ (some : List SaRow). map (restarted_row c.args.keys.now) some ++ drop place old) (take_all place old all)
    ∙ ap (λ (some : List SaRow). map (restarted_row c.args.keys.now) old ++ some) (drop_all place old all)
    ∙ append-nil (map (restarted_row c.args.keys.now) old)

pub returns-clause-rules : goal.returns-clause-rules
returns-clause-rules c = c.loop-place.invariant.rules
