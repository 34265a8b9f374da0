use Rattle.std.proofs.Common.{◌≡◌, ℕ, ◌+◌, ◌≤◌, List, [], ◌∷◌, length, sym, ◌∙◌, ap, subst, arith, length-append}
use Rattle.sdls_base.specs.declared.entry.Entry.{Entry}
use Rattle.unit_state.specs.Restart.{counts}
use Rattle.unit_book.proofs.Keeping.{one_at_most, entries_pushed}
use Rattle.unit_book.proofs.book.Book.enter.Goals as goal

pub invariant_of-self : goal.invariant_of-self
invariant_of-self g c =
    let longer : length c.push_reserved.new.self.items ≡ length c.self.inside.entries.items + 1 =
    ap (λ (es : List Entry). length es) c.push_reserved.ensures.items ∙ length-append c.self.inside.entries.items
    (c.args.entry ∷ []) in
    let one : c.changes_of.result ≤ 1 =
    subst (λ (n : ℕ). n ≤ 1) (sym c.changes_of.ensures) (one_at_most (counts c.args.entry.change)) in
    let (same, is, low, few, room, sized, two) = c.self.invariant in
    let grows = c.push_reserved.ensures.capacity in (
      same,
      entries_pushed _ _ _ _ _ is c.push_reserved.ensures.items (c.with_entry.ensures g.O.Site.trace),
      omega arith,
      omega arith,
      omega arith,
      sized,
      two,
    )
