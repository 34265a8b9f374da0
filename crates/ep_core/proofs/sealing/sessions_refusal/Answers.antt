use Rattle.std.proofs.Common.{◌≡◌, ℕ, ◌+◌, ◌<◌, ◌≤◌, List, length, get_or, drop, Option, sym, ap, ◌∙◌}
use Rattle.std.proofs.lemmas.List.{drop_all}
use Rattle.std.specs.List.{flat_map}
use Rattle.std.specs.Option.{option_or}
use Rattle.sdls_base.specs.FirstFailing.{first_told}
use Rattle.ep_core.specs.declared.refusal.Refusal.{Refusal}
use Rattle.ep_core.specs.Refusals.{session_checks}
use Rattle.ep_core.proofs.Checks.{sessions_from}
use Rattle.ep_core.proofs.sealing.sessions_refusal.Goals as goal

pub loop-key-preserved : goal.loop-key-preserved
loop-key-preserved c =
    let state = c.args.state.now in
    let keys = c.args.keys.now in
    let i = c.loop-key.key-index in
    let within : i < length keys = rw (← c.as_slice-key-items.ensures) c.loop-key-test.true in
    let read : c.key-item.result ≡ get_or keys i c.key-item.result =
    rw (← c.as_slice-key-items.ensures) c.key-item.is in
    let first = sym c.session_refusal.ensures ∙ c.in_default.is in
    sym (sessions_from state keys i c.key-item.result within read
    ∙ ap (λ (o : Option Refusal). option_or o (first_told (flat_map (session_checks state) (drop (i + 1) keys)))) first)
    ∙ c.loop-key.invariant

pub returns-in-Some : goal.returns-in-Some
returns-in-Some c =
    let state = c.args.state.now in
    let keys = c.args.keys.now in
    let i = c.loop-key.key-index in
    let within : i < length keys = rw (← c.as_slice-key-items.ensures) c.loop-key-test.true in
    let read : c.key-item.result ≡ get_or keys i c.key-item.result =
    rw (← c.as_slice-key-items.ensures) c.key-item.is in
    let first = sym c.session_refusal.ensures ∙ c.in-Some.is in
    sym (sessions_from state keys i c.key-item.result within read
    ∙ ap (λ (o : Option Refusal). option_or o (first_told (flat_map (session_checks state) (drop (i + 1) keys)))) first)
    ∙ c.loop-key.invariant

pub returns : goal.returns
returns c =
    let state = c.args.state.now in
    let keys = c.args.keys.now in
    let past : length keys ≤ c.loop-key.key-index = rw (← c.as_slice-key-items.ensures) c.loop-key-test.false in
    sym (ap (λ (s : List ℕ). first_told (flat_map (session_checks state) s)) (drop_all c.loop-key.key-index keys past))
    ∙ c.loop-key.invariant
