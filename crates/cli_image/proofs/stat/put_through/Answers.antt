use Rattle.std.proofs.Common.{refl, inl}
use Rattle.cli_image.proofs.stat.put_through.Goals as goal

pub returns-in-Ok-clause-put : goal.returns-in-Ok-clause-put
returns-in-Ok-clause-put g c = inl (refl, λ told. (c.in-Ok.ensures.put told).1)
