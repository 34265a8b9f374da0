use Rattle.law_image.proofs.Images.{holds_same, shown_before, stays_opened}
use Rattle.law_image.proofs.laws.opening_keeps_forms.Goals as goal

pub returns : goal.returns
returns c = record {
  regated = c.opening_stays.ensures;
  rewritten = holds_same;
  keeps = stays_opened;
  shown = λ image left state opens one opening.
      shown_before c.shows_one.ensures image left state opens (stays_opened image left opens one opening);
}
