use Rattle.frame_checks.proofs.opening_frames.judge_number.Goals as goal

pub returns-in-BadMac-clause-judged : goal.returns-in-BadMac-clause-judged
returns-in-BadMac-clause-judged c = λ old new is number opened opens. is.bad_mac c.in-BadMac.is number opened opens
