use Rattle.std.proofs.Common.{◌≡◌, ◌∙◌, sym, ap, subst}
use Rattle.std.specs.Prelude.{MatchOption}
use Rattle.sdls_base.specs.declared.version.Version.TheVariants.{Two}
use Rattle.unit_state.specs.declared.state.State.{State}
use Rattle.unit_state.specs.Applied.{applied}
use Rattle.unit_state.specs.Restart.{IsLight, restarted}
use Rattle.unit_state.proofs.RulesKept.{rules_kept}
use Rattle.unit_state.proofs.StateLaws.{restarted_twice}
use Rattle.unit_image.specs.Content.{content_of}
use Rattle.unit_image.specs.ContentReading.{HasRows, IsContent}
use Rattle.unit_image.proofs.ContentAfter.{left_content}
use Rattle.unit_image.proofs.storing.write_after.Goals as goal

pub returns-in-Some-clause-content : goal.returns-in-Some-clause-content
returns-in-Some-clause-content c =
    let next : State = applied c.args.state.now c.args.change.now in
    let is : c.in-Some.next.now ≡ next =
    subst (λ o. MatchOption o (IsLight c.args.change.now) (λ n. n.now ≡ next)) c.in-Some.is c.requires.next in
    subst (IsContent Two (restarted next)) (sym (c.write_content_two.ensures.written ∙ ap (content_of Two) is))
    (left_content next (restarted_twice next) (c.restart_leaves_content.ensures Two next)
    (rules_kept c.args.state.now c.args.change.now c.requires.rules c.requires.allowed)
    (subst (HasRows Two) is c.write_content_two.ensures.rows))

pub returns-in-None-clause-content : goal.returns-in-None-clause-content
returns-in-None-clause-content c =
    let next : State = applied c.args.state.now c.args.change.now in
    subst (IsContent Two (restarted next)) (sym c.write_marked.ensures.written)
    (left_content next (restarted_twice next) (c.restart_leaves_content.ensures Two next)
    (rules_kept c.args.state.now c.args.change.now c.requires.rules c.requires.allowed) c.write_marked.ensures.rows)
