use Rattle.std.proofs.Common.{sym, ap, ◌∙◌, Bor}
use Rattle.std.specs.Option.{option_map}
use Rattle.sa_book.specs.declared.sa_book.SaRow.{SaRow}
use Rattle.frame_checks.proofs.Rows.{sender_keeps, sender_operational}
use Rattle.frame_checks.proofs.protecting_frames.binding.Goals as goal

pub binding_of-requires-clause-row : goal.binding_of-requires-clause-row
binding_of-requires-clause-row c =
    let there = sym (ap (option_map (λ (row : Bor SaRow). row.now)) c.in-Some-sender_on.is) ∙ c.sender_on.ensures in
    (sender_keeps c.args.state.now c.in-Some-channel_of.channel c.in-Some-sender_on.row.now c.requires there).rules

pub binding_of-requires-clause-key : goal.binding_of-requires-clause-key
binding_of-requires-clause-key c =
    let there = sym (ap (option_map (λ (row : Bor SaRow). row.now)) c.in-Some-sender_on.is) ∙ c.sender_on.ensures in
    (sender_keeps c.args.state.now c.in-Some-channel_of.channel c.in-Some-sender_on.row.now c.requires there).key

pub binding_of-requires-clause-operational : goal.binding_of-requires-clause-operational
binding_of-requires-clause-operational c =
    let there = sym (ap (option_map (λ (row : Bor SaRow). row.now)) c.in-Some-sender_on.is) ∙ c.sender_on.ensures in
    sender_operational c.args.state.now c.in-Some-channel_of.channel c.in-Some-sender_on.row.now there
