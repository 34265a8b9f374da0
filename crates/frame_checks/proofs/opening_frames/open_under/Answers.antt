use Rattle.std.proofs.Common.{sym, ◌∙◌}
use Rattle.sdls_base.specs.FirstFailing.{first_failing}
use Rattle.frame_checks.specs.Accepting.{field_in}
use Rattle.frame_checks.specs.OpeningFrames.{IsOpenedUnder, IsReplyUnder, association_checks, frame_checks}
use Rattle.frame_checks.proofs.Replies.{told_first, told_later, carries}
use Rattle.frame_checks.proofs.Rows.{named_keeps}
use Rattle.frame_checks.proofs.opening_frames.open_under.Goals as goal

pub returns-in-Some-clause-reply : goal.returns-in-Some-clause-reply
returns-in-Some-clause-reply c =
    let at = c.requires.addressed in
    let a = c.args in
    let found = a.addressed.now in
    let reply = c.in-Some.reply in
    record {
      room = at.room;
      has_room = λ none. at.has_room;
      told = told_later (first_failing (frame_checks a.plan.now a.state.now a.link a.line.now a.frame.now at.room))
          reply
          (IsReplyUnder a.plan.now a.state.now a.link a.line.now a.frame.now at.room reply (field_in reply a.frame.now))
          at.passed (record {
            channel = found.channel;
            row = found.row.now;
            on = at.on;
            named = at.named;
            told = told_first (first_failing (association_checks found.row.now found.channel)) reply
                (IsOpenedUnder a.plan.now a.state.now a.line.now found.row.now a.frame.now reply
                (field_in reply a.frame.now))
                (sym c.refusal_of.ensures ∙ c.in-Some.is);
          });
    }

pub binding_of-binding-requires-clause-row : goal.binding_of-binding-requires-clause-row
binding_of-binding-requires-clause-row c =
    (named_keeps c.args.state.now c.requires.addressed.room c.args.addressed.now.row.now c.requires.rules
    c.requires.addressed.named).rules

pub binding_of-binding-requires-clause-key : goal.binding_of-binding-requires-clause-key
binding_of-binding-requires-clause-key c =
    (named_keeps c.args.state.now c.requires.addressed.room c.args.addressed.now.row.now c.requires.rules
    c.requires.addressed.named).key

pub judge-requires-clause-window : goal.judge-requires-clause-window
judge-requires-clause-window c =
    (named_keeps c.args.state.now c.requires.addressed.room c.args.addressed.now.row.now c.requires.rules
    c.requires.addressed.named).rules.back

pub judge-requires-clause-frame : goal.judge-requires-clause-frame
judge-requires-clause-frame c =
    carries c.args.plan.now c.args.state.now c.args.link c.args.line.now c.args.frame.now c.args.addressed.now.channel
    c.args.addressed.now.row.now
    c.binding_of-binding.result c.requires.addressed c.binding_of-binding.ensures.bound

pub returns-clause-reply : goal.returns-clause-reply
returns-clause-reply c =
    let at = c.requires.addressed in
    let a = c.args in
    let found = a.addressed.now in
    let reply = c.judge.result in
    let field = field_in reply c.judge.new.frame in
    record {
      room = at.room;
      has_room = λ none. at.has_room;
      told = told_later (first_failing (frame_checks a.plan.now a.state.now a.link a.line.now a.frame.now at.room))
          reply
          (IsReplyUnder a.plan.now a.state.now a.link a.line.now a.frame.now at.room reply field) at.passed (record {
            channel = found.channel;
            row = found.row.now;
            on = at.on;
            named = at.named;
            told = told_later (first_failing (association_checks found.row.now found.channel)) reply
                (IsOpenedUnder a.plan.now a.state.now a.line.now found.row.now a.frame.now reply field)
                (sym c.refusal_of.ensures ∙ c.in_default.is)
                (record {
                  binding = c.binding_of-binding.result;
                  bound = c.binding_of-binding.ensures.bound;
                  judged = c.judge.ensures.judged;
                });
          });
    }
