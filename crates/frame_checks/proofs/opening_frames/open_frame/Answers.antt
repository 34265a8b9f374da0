use Rattle.std.proofs.Common.{◌≡◌, refl, sym, ap, ◌∙◌, Bor}
use Rattle.std.specs.Option.{option_map}
use Rattle.sdls_base.specs.FirstFailing.{first_failing}
use Rattle.sdls_base.specs.declared.link.Link.{Link}
use Rattle.unit_plan.specs.PlanLines.{link_of}
use Rattle.frame_checks.specs.Accepting.{LeavesOctets, MayBeAccepted, OnAccepted, field_in}
use Rattle.frame_checks.specs.declared.opening_frames.OpenReply.TheVariants.{Layout}
use Rattle.frame_checks.specs.OpeningFrames.{IsReplyOn, IsReplyUnder, frame_checks}
use Rattle.frame_checks.proofs.Replies.{early, on_line, without_line, told_first, reply_may}
use Rattle.frame_checks.proofs.opening_frames.open_frame.Goals as goal

pub returns-in_default-clause-reply : goal.returns-in_default-clause-reply
returns-in_default-clause-reply c =
    let a = c.args in
    without_line (IsReplyOn a.plan.now a.state.now a.link a.frame.now (Layout 0) (field_in (Layout 0) a.frame.now))
    (Layout 0 ≡ Layout 0) (link_of a.plan.now.links a.link)
    (sym (ap (option_map (λ (line : Bor Link). line.now)) c.in_default.is) ∙ c.link.ensures.line) refl

pub returns-in-Ok-clause-reply : goal.returns-in-Ok-clause-reply
returns-in-Ok-clause-reply c =
    let a = c.args in
    let reply = c.open_under.result in
    on_line (IsReplyOn a.plan.now a.state.now a.link a.frame.now reply (field_in reply c.open_under.new.frame))
    (reply ≡ Layout 0) (link_of a.plan.now.links a.link) c.in-Some.line.now
    (sym (ap (option_map (λ (line : Bor Link). line.now)) c.in-Some.is) ∙ c.link.ensures.line)
    c.open_under.ensures.reply

pub returns-in-Ok-clause-accepted : goal.returns-in-Ok-clause-accepted
returns-in-Ok-clause-accepted c =
    reply_may c.args.plan.now c.args.state.now c.args.link c.in-Some.line.now c.args.frame.now c.open_under.result
    (field_in c.open_under.result c.open_under.new.frame)
    c.open_under.ensures.reply

pub returns-in-Err-clause-reply : goal.returns-in-Err-clause-reply
returns-in-Err-clause-reply c =
    let a = c.args in
    let is = c.in-Err.ensures.refused in
    let reply = c.in-Err.reply in
    let field = field_in reply a.frame.now in
    on_line (IsReplyOn a.plan.now a.state.now a.link a.frame.now reply field) (reply ≡ Layout 0)
    (link_of a.plan.now.links a.link) c.in-Some.line.now
    (sym (ap (option_map (λ (line : Bor Link). line.now)) c.in-Some.is) ∙ c.link.ensures.line)
    (record {
      room = is.room;
      has_room = is.has_room;
      told = told_first
          (first_failing (frame_checks a.plan.now a.state.now a.link c.in-Some.line.now a.frame.now is.room)) reply
          (IsReplyUnder a.plan.now a.state.now a.link c.in-Some.line.now a.frame.now is.room reply field) is.told;
    })

pub returns-in-Err-clause-octets : goal.returns-in-Err-clause-octets
returns-in-Err-clause-octets c =
    let is = c.in-Err.ensures.refused in
    early (λ r. LeavesOctets r c.args.frame.now c.args.frame.now) c.args.plan.now c.args.state.now c.args.link
    c.in-Some.line.now c.args.frame.now is.room c.in-Err.reply
    (λ n. refl) refl refl refl is.told

pub returns-in-Err-clause-accepted : goal.returns-in-Err-clause-accepted
returns-in-Err-clause-accepted c =
    let is = c.in-Err.ensures.refused in
    early (λ r. OnAccepted r (MayBeAccepted c.args.state.now)) c.args.plan.now c.args.state.now c.args.link
    c.in-Some.line.now c.args.frame.now is.room c.in-Err.reply
    (λ n. tt) tt tt tt is.told
