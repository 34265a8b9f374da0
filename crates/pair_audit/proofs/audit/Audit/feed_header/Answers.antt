use Rattle.std.proofs.Common.{List, [], ◌∷◌, ◌++◌}
use Rattle.record_io.specs.declared.answers.Answer.{Answer}
use Rattle.pair_audit.specs.Audit.{FeedsAcceptance, FeedsUse, KnowsAudit, HasHead, TellsOf}
use Rattle.pair_audit.proofs.Feeding.{knows_acceptance_as, knows_neither_as, knows_use_as, tells_acceptance_as}
use Rattle.pair_audit.proofs.Feeding.{tells_neither_as, tells_use_as}
use Rattle.pair_audit.proofs.Seen.{ok_more}
use Rattle.pair_audit.proofs.audit.Audit.feed_header.Goals as goal

pub returns-in-Uses-clause-knows : goal.returns-in-Uses-clause-knows
returns-in-Uses-clause-knows c =
    ok_more c.feed_use.result (FeedsUse c.args.self.now c.feed_use.new.self c.args.key c.args.number)
    (λ told. (fed : List Answer) (answer : Answer) → HasHead c.args.code c.args.key c.args.number answer
    → KnowsAudit fed c.args.self.now
    → KnowsAudit (fed ++ answer ∷ []) c.feed_use.new.self)
    (λ told feeds fed answer says knows. knows_use_as fed answer c.args.code c.args.key c.args.number c.args.self.now
    c.feed_use.new.self told says
    c.in-Uses.ensures knows feeds)
    c.feed_use.ensures.fed

pub returns-in-Uses-clause-told : goal.returns-in-Uses-clause-told
returns-in-Uses-clause-told c =
    ok_more c.feed_use.result (FeedsUse c.args.self.now c.feed_use.new.self c.args.key c.args.number)
    (λ told. (fed : List Answer) (answer : Answer) → HasHead c.args.code c.args.key c.args.number answer
    → KnowsAudit fed c.args.self.now
    → TellsOf fed answer told)
    (λ told feeds fed answer says knows. tells_use_as fed answer c.args.code c.args.key c.args.number c.args.self.now
    c.feed_use.new.self told says
    c.in-Uses.ensures knows feeds)
    c.feed_use.ensures.fed

pub returns-in-Accepts-clause-knows : goal.returns-in-Accepts-clause-knows
returns-in-Accepts-clause-knows c =
    ok_more c.feed_acceptance.result
    (FeedsAcceptance c.args.self.now c.feed_acceptance.new.self c.args.key c.args.number)
    (λ told. (fed : List Answer) (answer : Answer) → HasHead c.args.code c.args.key c.args.number answer
    → KnowsAudit fed c.args.self.now
    → KnowsAudit (fed ++ answer ∷ []) c.feed_acceptance.new.self)
    (λ told feeds fed answer says knows. knows_acceptance_as fed answer c.args.code c.args.key c.args.number
    c.args.self.now c.feed_acceptance.new.self told says
    c.in-Accepts.ensures knows feeds)
    c.feed_acceptance.ensures.fed

pub returns-in-Accepts-clause-told : goal.returns-in-Accepts-clause-told
returns-in-Accepts-clause-told c =
    ok_more c.feed_acceptance.result
    (FeedsAcceptance c.args.self.now c.feed_acceptance.new.self c.args.key c.args.number)
    (λ told. (fed : List Answer) (answer : Answer) → HasHead c.args.code c.args.key c.args.number answer
    → KnowsAudit fed c.args.self.now
    → TellsOf fed answer told)
    (λ told feeds fed answer says knows. tells_acceptance_as fed answer c.args.code c.args.key c.args.number
    c.args.self.now c.feed_acceptance.new.self told says
    c.in-Accepts.ensures knows feeds)
    c.feed_acceptance.ensures.fed

pub returns-in-Neither-clause-knows : goal.returns-in-Neither-clause-knows
returns-in-Neither-clause-knows c = λ fed answer says knows.
    knows_neither_as fed answer c.args.code c.args.key c.args.number c.args.self.now says c.in-Neither.ensures.0
    c.in-Neither.ensures.1 knows

pub returns-in-Neither-clause-told : goal.returns-in-Neither-clause-told
returns-in-Neither-clause-told c = λ fed answer says knows.
    tells_neither_as fed answer c.args.code c.args.key c.args.number says c.in-Neither.ensures.0 c.in-Neither.ensures.1
