use Rattle.aes_block.proofs.BasisFacts.{places_ok, look_up_is}
use Rattle.gcm.proofs.table.look_up.Goals as goal

pub swizzle : goal.swizzle
swizzle c = places_ok c.args.places c.fits-places.0 c.requires

pub returns : goal.returns
returns c = look_up_is c.args.row c.args.places c.fits-places.0
