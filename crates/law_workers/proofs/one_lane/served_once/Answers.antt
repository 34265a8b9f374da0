use Rattle.law_workers.proofs.Once.{all_once}
use Rattle.law_workers.proofs.one_lane.served_once.Goals as goal

pub returns : goal.returns
returns c = λ begin rows words before history deeds others moves more own entries rep re rules same served also first
    second runs again.
    all_once begin c.messages_need_one.ensures c.messages_have_one_step.ensures c.openings_tell_one.ensures
    c.protected_once.ensures c.one_message.ensures rows
    before history words deeds others moves more own entries rep re rules same served also first second runs again
