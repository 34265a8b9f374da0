use Rattle.std.proofs.Common.{List, [], ◌∷◌, ◌++◌, refl}
use Rattle.record_io.specs.declared.answers.Answer.{Answer}
use Rattle.pair_audit.specs.Audit.{KnowsAudit, HasHead, TellsOf}
use Rattle.pair_audit.proofs.Seen.{ok_more}
use Rattle.pair_audit.proofs.audit.Audit.feed.Goals as goal

pub returns-clause-knows : goal.returns-clause-knows
returns-clause-knows c =
    let answer = c.args.answer.now in
    ok_more c.feed_header.result
    (λ told. (fed : List Answer) (other : Answer) → HasHead answer.code answer.key answer.number other
    → KnowsAudit fed c.args.self.now
    → KnowsAudit (fed ++ other ∷ []) c.feed_header.new.self)
    (λ told. (fed : List Answer) → KnowsAudit fed c.args.self.now
    → KnowsAudit (fed ++ answer ∷ []) c.feed_header.new.self)
    (λ told feeds fed knows. feeds fed answer (record { code_is = refl; key_is = refl; number_is = refl }) knows)
    c.feed_header.ensures.knows

pub returns-clause-told : goal.returns-clause-told
returns-clause-told c =
    let answer = c.args.answer.now in
    ok_more c.feed_header.result
    (λ told. (fed : List Answer) (other : Answer) → HasHead answer.code answer.key answer.number other
    → KnowsAudit fed c.args.self.now
    → TellsOf fed other told)
    (λ told. (fed : List Answer) → KnowsAudit fed c.args.self.now → TellsOf fed answer told)
    (λ told feeds fed knows. feeds fed answer (record { code_is = refl; key_is = refl; number_is = refl }) knows)
    c.feed_header.ensures.told
