use Rattle.std.proofs.Common.{◌≡◌, Option, Some, length, sym, ap, ◌∙◌}
use Rattle.std.specs.Option.{option_and_then}
use Rattle.gcm.specs.Gcm.{gcm_open}
use Rattle.key_book.specs.declared.key_row.KeyRow.{KeyRow}
use Rattle.unit_state.specs.State.{key_row}
use Rattle.ep_codec.specs.declared.command.Command.TheVariants.{Rekeying}
use Rattle.ep_codec.proofs.FieldFacts.{high_bound}
use Rattle.ep_core.specs.Refusals.{opened}
use Rattle.ep_core.specs.Sealed.{front}
use Rattle.ep_core.specs.Step.{IsStep, IsLoading}
use Rattle.ep_core.proofs.ComposeFacts.{master_length}
use Rattle.ep_core.proofs.Steps.{step_loading, ok_too, opened_length}
use Rattle.ep_core.proofs.keys.rekeying.Goals as goal

pub open_text-requires-clause-bytes : goal.open_text-requires-clause-bytes
open_text-requires-clause-bytes c =
    let there : key_row c.args.state.now c.args.master ≡ Some c.unwrap.result.1.now =
    sym (rw c.unwrap.ensures at c.find.ensures.row) in
    master_length c.args.state.now c.args.master c.unwrap.result.1.now c.requires.rules there
    (sym c.master_refusal.ensures ∙ c.in_default.is)

pub loading-requires : goal.loading-requires
loading-requires c =
    opened_length c.unwrap.result.1.now.bytes c.args.vector.now (front c.args.master (length c.args.sealed.now))
    c.args.sealed.now c.args.tag.now c.in_ok-text.text
    (sym c.in_ok-text.ensures) (high_bound 19 280 (length c.args.sealed.now) c.requires.bounds)

pub returns : goal.returns
returns c =
    let state = c.args.state.now in
    let there : key_row state c.args.master ≡ Some c.unwrap.result.1.now =
    sym (rw c.unwrap.ensures at c.find.ensures.row) in
    let text : c.in_ok-text.text ≡ opened state c.args.master c.args.vector.now c.args.sealed.now c.args.tag.now =
    c.in_ok-text.ensures
    ∙ sym (ap (λ (row : Option KeyRow).
    option_and_then (λ held. gcm_open held.bytes c.args.vector.now (front c.args.master (length c.args.sealed.now))
    c.args.sealed.now c.args.tag.now) row) there) in
    ok_too (IsLoading state c.in_ok-text.text)
    (IsStep state (Rekeying c.args.master c.args.vector.now c.args.sealed.now c.args.tag.now) c.args.seen.now)
    c.loading.result
    (λ step is. step_loading state c.args.master c.args.vector.now c.args.sealed.now c.args.tag.now c.args.seen.now step
    c.in_ok-text.text (sym c.master_refusal.ensures ∙ c.in_default.is) text is)
    c.loading.ensures
