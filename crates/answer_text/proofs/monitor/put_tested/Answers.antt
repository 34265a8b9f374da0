use Rattle.std.proofs.Common.{◌++◌, codes, ap}
use Rattle.std.proofs.lemmas.List.{append-nil}
use Rattle.answer_text.specs.Part.{part_text}
use Rattle.answer_text.specs.Part.Part.{octets}
use Rattle.answer_text.proofs.Behind.{two_put}
use Rattle.answer_text.proofs.monitor.put_tested.Goals as goal

pub returns : goal.returns
returns c =
    let enciphered = part_text c.args.form (octets (codes "enciphered") c.args.block.now) in
    let mac = part_text c.args.form (octets (codes "mac") c.args.mac.now) in
    two_put _ enciphered mac _ _ _ c.in_ok-put_named_octets.ensures c.in_ok-put_named_octets-2.ensures
    (ap (λ text. enciphered ++ text) (append-nil mac))
