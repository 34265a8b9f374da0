use Rattle.std.proofs.Common.{ℕ, length, ap, subst, arith, [], List}
use Rattle.std.specs.Prelude.{unwrap_or, Option}
use Rattle.sdls_base.specs.ErrorControl.{error_control_length}
use Rattle.sdls_base.specs.declared.link.AnyLayout.{AnyLayout}
use Rattle.frame_shield.specs.Binding.{clear_layout}
use Rattle.frame_shield.specs.Body.{IsBody}
use Rattle.frame_shield.proofs.Lengths.{length-frame, prefix_bounds, clear_insert, gains, most_short, no_clear_fecf}
use Rattle.frame_shield.proofs.protecting_frames.clear_body.Goals as goal

pub returns-clause-body : goal.returns-clause-body
returns-clause-body c = subst (λ (layout : AnyLayout). IsBody layout c.args.clear.now c.body_of.result)
    c.clear_layout.ensures c.body_of.ensures

pub returns-clause-least : goal.returns-clause-least
returns-clause-least c =
    let b = returns-clause-body c in
    let layout : AnyLayout = clear_layout c.args.binding.now.suite c.args.binding.now.link.layout in
    let bounds =
    prefix_bounds layout b.parts c.args.clear.now
    (clear_insert c.args.binding.now.suite c.args.binding.now.link.layout c.requires.binding.link.layout)
    b.framed in
    omega (arith, bounds.0, ap length b.prefix)

pub returns-clause-most : goal.returns-clause-most
returns-clause-most c =
    let b = returns-clause-body c in
    let layout : AnyLayout = clear_layout c.args.binding.now.suite c.args.binding.now.link.layout in
    let bounds =
    prefix_bounds layout b.parts c.args.clear.now
    (clear_insert c.args.binding.now.suite c.args.binding.now.link.layout c.requires.binding.link.layout)
    b.framed in
    omega (arith, bounds.1, ap length b.prefix)

pub returns-clause-whole : goal.returns-clause-whole
returns-clause-whole c =
    let b = returns-clause-body c in
    let suite = c.args.binding.now.suite in
    let link = c.args.binding.now.link.layout in
    let fields = ap (λ (o : Option (List ℕ)). length (unwrap_or o [])) b.ocf in
    omega (
      arith,
      length-frame (clear_layout suite link) b.parts c.args.clear.now b.framed,
      ap error_control_length (no_clear_fecf suite link),
      ap length b.prefix,
      ap length b.room,
      fields,
    )

pub returns-clause-gain : goal.returns-clause-gain
returns-clause-gain c =
    let b = returns-clause-body c in
    gains c.args.binding.now.suite c.args.binding.now.link.layout b.parts c.args.clear.now
    c.requires.binding.link.layout b.framed

pub returns-clause-short : goal.returns-clause-short
returns-clause-short c = most_short c.args.binding.now.link.layout c.requires.binding.link.layout
