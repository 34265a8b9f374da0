use Rattle.std.proofs.Common.{◌≡◌, false, take_all, All, subst}
use Rattle.std.proofs.lemmas.List.Elements.{All-more, All-nil}
use Rattle.sa_book.specs.declared.sa_book.SaRow.{SaRow}
use Rattle.sa_book.specs.SaRefusal.{receives_with}
use Rattle.unit_book.proofs.Released.{none_found}
use Rattle.unit_book.proofs.accepting.Receivers.of.Goals as goal

pub loop-row-init : goal.loop-row-init
loop-row-init c = λ key not. All-nil (λ (row : SaRow). receives_with key row ≡ false)

pub loop-row-preserved : goal.loop-row-preserved
loop-row-preserved c = λ key not.
    let told = c.note.ensures key not in
    All-more (λ (row : SaRow). receives_with key row ≡ false) c.args.associations.now c.loop-row.row-index
    c.row-item.result c.loop-row-test.true
    (c.loop-row.invariant key told.0) (subst (λ (row : SaRow). receives_with key row ≡ false) c.row-item.is told.1)

pub returns : goal.returns
returns c = λ key not.
    none_found (receives_with key) c.args.associations.now
    (subst (All (λ (row : SaRow). receives_with key row ≡ false))
    (take_all c.loop-row.row-index c.args.associations.now c.loop-row-test.false)
    (c.loop-row.invariant key not))
