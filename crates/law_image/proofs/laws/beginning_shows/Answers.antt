use Rattle.law_image.proofs.Beginning.{beginning_holds, beginning_rests, beginning_shows, first_content}
use Rattle.law_image.proofs.laws.beginning_shows.Goals as goal

pub returns : goal.returns
returns c = record {
  shows = beginning_shows;
  content = first_content;
  rests = beginning_rests;
  holds = beginning_holds;
}
