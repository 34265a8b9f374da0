use Rattle.std.proofs.Common.{ℕ, List, length, sym, ap, ◌∙◌, subst, Bor}
use Rattle.std.specs.Option.{option_map}
use Rattle.sdls_base.specs.Bounds.{IsKeyLength}
use Rattle.key_book.specs.declared.key_row.KeyRow.{KeyRow}
use Rattle.frame_checks.proofs.Rows.{key_octets}
use Rattle.frame_checks.proofs.protecting_frames.binding_of.Goals as goal

pub unwrap-requires-2 : goal.unwrap-requires-2
unwrap-requires-2 c =
    let there = sym c.find.ensures.row ∙ ap (option_map (λ (found : ℕ × Bor KeyRow). found.1.now)) c.unwrap.ensures in
    let octets = key_octets c.args.state.now c.args.row.now c.unwrap-key.result c.unwrap.result.1.now c.requires.rules
    c.requires.key c.unwrap-key.ensures there in
    c.new.ensures.when.1 (subst (λ (l : List ℕ). IsKeyLength (length l)) (sym c.as_slice.ensures) octets)
