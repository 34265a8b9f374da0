use Rattle.std.proofs.Common.{◌≡◌, true, false, nat_eq, Some, sym, ap, ◌∙◌}
use Rattle.std.specs.List.{list_any}
use Rattle.sdls_base.specs.declared.states.KeyState.{KeyState}
use Rattle.key_book.specs.KeyBook.{place_of}
use Rattle.key_book.specs.Moves.{state_refusal, lowest_holder}
use Rattle.key_book.proofs.Moved.{move_refusal-unknown, move_refusal-first, move_refusal-again}
use Rattle.key_book.proofs.refusals.judge_move.Goals as goal
use Rattle.key_book.proofs.refusals.judge_move.Goals.{then-contains, else-contains}

pub returns-in_default : goal.returns-in_default
returns-in_default c =
    sym (move_refusal-unknown c.args.table.now.rows.items c.args.done.now c.args.id c.args.to c.args.in_use.now
    (sym c.in_default.ensures))

pub returns : goal.returns
returns c =
    let place : place_of c.args.table.now.rows.items c.args.id ≡ Some c.in-Some.i = sym c.in-Some.ensures in
    let judged = c.judge_state.ensures ∙ ap (state_refusal c.if-contains.from c.args.to) c.lowest_holder.ensures in
    judged ∙ elim c.if-contains.branch [
      | then-contains w ↦
          let again : list_any (λ other. nat_eq other c.args.id) c.args.done.now ≡ true =
          sym c.contains.ensures.value ∙ w.if-contains.true in
          ap (λ (from : KeyState). state_refusal from c.args.to (lowest_holder c.args.in_use.now c.args.id)) w.from-is
          ∙ sym (move_refusal-again c.args.table.now.rows.items c.args.done.now c.args.id c.in-Some.i c.args.to
          c.args.in_use.now place again)
      | else-contains w ↦
          let first : list_any (λ other. nat_eq other c.args.id) c.args.done.now ≡ false =
          sym c.contains.ensures.value ∙ w.if-contains.false in
          ap (λ (from : KeyState). state_refusal from c.args.to (lowest_holder c.args.in_use.now c.args.id)) w.from-is
          ∙ sym (move_refusal-first c.args.table.now.rows.items c.args.done.now c.args.id c.in-Some.i c.args.to
          c.args.in_use.now w.index.result.now place w.index.ensures first)
    ]
