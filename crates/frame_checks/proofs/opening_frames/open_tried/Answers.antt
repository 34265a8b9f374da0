use Rattle.std.proofs.Common.{◌≡◌, sym, subst, ◌∙◌}
use Rattle.std.proofs.lemmas.Option.{same_Some}
use Rattle.sa_book.specs.declared.sa_book.SaRow.{SaRow}
use Rattle.frame_checks.specs.Accepting.{field_in}
use Rattle.frame_checks.specs.OpeningFrames.{IsJudged}
use Rattle.frame_checks.proofs.Tried.{reply_tried}
use Rattle.frame_checks.proofs.opening_frames.open_tried.Goals as goal

pub returns-clause-reply : goal.returns-clause-reply
returns-clause-reply c =
    let a = c.args in
    let o = c.requires.opener in
    let reply = c.judge_number.result in
    let same : c.in-Ok.row.now ≡ o.row = same_Some _ _ (sym c.in-Ok.ensures.row ∙ o.there) in
    reply_tried a.plan.now a.state.now a.opener.now a.link a.octets.now o c.requires.tried.frame reply
    (field_in reply a.frame.now)
    (subst (λ (row : SaRow). IsJudged row a.opener.now.binding a.octets.now reply (field_in reply a.frame.now)) same
    (c.judge_number.ensures.judged a.octets.now a.frame.now c.requires.tried.unshielded))
