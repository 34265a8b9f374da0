use Rattle.run_promise.proofs.Needs.{need_one}
use Rattle.law_history.proofs.one.messages_need_one.Goals as goal

pub returns : goal.returns
returns c = need_one
