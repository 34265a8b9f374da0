use Rattle.std.proofs.Common.{◌≡◌, ◌++◌, ◌∷◌, [], Some, sym, arith}
use Rattle.std.specs.List.{flat_map}
use Rattle.unit_state.specs.State.{key_row}
use Rattle.ep_core.specs.Refusals.{master_checks, session_checks, if_exhausted}
use Rattle.ep_core.proofs.ComposeFacts.{none_append, master_length, clear_length}
use Rattle.ep_core.proofs.sealing.seal_keys.Goals as goal

pub seal_reply-requires-clause-bytes : goal.seal_reply-requires-clause-bytes
seal_reply-requires-clause-bytes c =
    let state = c.args.state.now in
    let there : key_row state c.args.master ≡ Some c.unwrap.result.1.now =
    sym (rw c.unwrap.ensures at c.find.ensures.row) in
    let free = none_append (master_checks state c.args.master)
    (flat_map (session_checks state) c.args.keys.now ++ if_exhausted c.args.seen.now ∷ []) c.requires.free in
    master_length state c.args.master c.unwrap.result.1.now c.requires.rules there free.0

pub seal_reply-requires-clause-least : goal.seal_reply-requires-clause-least
seal_reply-requires-clause-least c =
    let state = c.args.state.now in
    let free = none_append (master_checks state c.args.master)
    (flat_map (session_checks state) c.args.keys.now ++ if_exhausted c.args.seen.now ∷ []) c.requires.free in
    let sessions = none_append (flat_map (session_checks state) c.args.keys.now) (if_exhausted c.args.seen.now ∷ [])
    free.1 in
    let long = clear_length state c.args.keys.now c.requires.rules sessions.0 in
    omega (arith, long.least, c.requires.count.least)

pub seal_reply-requires-clause-most : goal.seal_reply-requires-clause-most
seal_reply-requires-clause-most c =
    let state = c.args.state.now in
    let free = none_append (master_checks state c.args.master)
    (flat_map (session_checks state) c.args.keys.now ++ if_exhausted c.args.seen.now ∷ []) c.requires.free in
    let sessions = none_append (flat_map (session_checks state) c.args.keys.now) (if_exhausted c.args.seen.now ∷ [])
    free.1 in
    let long = clear_length state c.args.keys.now c.requires.rules sessions.0 in
    omega (arith, long.most, c.requires.count.most)
