use Rattle.std.proofs.Common.{[], List, ℕ, sym, ap, ◌∙◌, arith}
use Rattle.std.specs.Str.{bytes_eq}
use Rattle.sha2.specs.Sha256.{sha256}
use Rattle.sdls_base.specs.declared.key_id.KeyItem.{KeyItem}
use Rattle.key_book.proofs.Positions.{position-at, position-absent}
use Rattle.key_book.proofs.table.Digests.place.Goals as goal

no_item : KeyItem
no_item = record { id = 0; bytes = [] }

pub returns-then-eq : goal.returns-then-eq
returns-then-eq c =
    sym (position-at (λ (item : KeyItem). bytes_eq (sha256 item.bytes) c.args.own.now) c.args.items.now c.loop-i.i
    no_item c.loop-i-test.true
    (λ k low. c.loop-i.invariant k no_item low)
    (ap (λ (digest : List ℕ). bytes_eq digest c.args.own.now) (sym (c.at.ensures no_item)) ∙ sym c.eq.ensures
    ∙ c.if-eq.true))

pub returns : goal.returns
returns c =
    sym (position-absent (λ (item : KeyItem). bytes_eq (sha256 item.bytes) c.args.own.now) c.args.items.now
    (λ k item low. c.loop-i.invariant k item (omega (arith, c.loop-i-test.false, low))))
