use Rattle.link_world.proofs.Chunks.{chunk_arrives}
use Rattle.link_world.proofs.link.released_chunk_arrives.Goals as goal

pub returns : goal.returns
returns c = chunk_arrives
