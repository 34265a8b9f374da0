use Rattle.gcm.proofs.SealFacts.{opened_was_sealed, sealed_opens}
use Rattle.gcm.proofs.seal.opens_what_was_sealed.Goals as goal

pub returns : goal.returns
returns c = λ key iv aad clear text tag.
    (opened_was_sealed key iv aad clear text tag, sealed_opens key iv aad clear text tag)
