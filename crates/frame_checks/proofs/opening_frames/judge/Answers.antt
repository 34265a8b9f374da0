use Rattle.frame_checks.proofs.opening_frames.judge.Goals as goal

pub returns-clause-judged : goal.returns-clause-judged
returns-clause-judged c =
    let e = c.unshield-opened.ensures in
    c.judge_number.ensures.judged c.args.frame.now c.unshield-opened.new.frame
    (record { field = e.field; bad_mac = λ bad. e.bad_mac.0 bad; unchanged = λ bad. e.unchanged bad })

pub returns-clause-octets : goal.returns-clause-octets
returns-clause-octets c =
    let e = c.unshield-opened.ensures in
    c.judge_number.ensures.octets c.args.frame.now c.unshield-opened.new.frame
    (record { field = e.field; bad_mac = λ bad. e.bad_mac.0 bad; unchanged = λ bad. e.unchanged bad })
