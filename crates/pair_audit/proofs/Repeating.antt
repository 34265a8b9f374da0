-- The first repeat that is told is the first, for the laws of repeats.
use Rattle.std.proofs.Common.{ℕ, ◌<◌, List, ◌∷◌, ◌++◌, length, take, inl, inr, sym, ◌∙◌, ap, subst, arith}
use Rattle.std.specs.Prelude.{slice_get}
use Rattle.std.specs.List.{All}
use Rattle.std.proofs.lemmas.List.{take-append-le}
use Rattle.std.proofs.lemmas.Option.{slice_get_within}
use Rattle.record_io.specs.declared.answers.Answer.{Answer}
use Rattle.pair_audit.specs.declared.audit.Repeat.{Repeat}
use Rattle.pair_audit.specs.Repeats.{AreUnlike, Repeats, RepeatNothing, IsFirstRepeat}
use Rattle.pair_audit.specs.Audit.{BothTell, TellsRepeat}
use Rattle.pair_audit.proofs.Seen.{get_left, get_seam, take_seam}

pub both_repeat : (repeat : Repeat) (one other : Answer) → BothTell repeat one other → Repeats one other
both_repeat repeat one other (inl (pair, a, b)) = inl (repeat.key, repeat.number, a, b)
both_repeat repeat one other (inr (pair, a, b)) = inr (repeat.key, repeat.number, a, b)

pub first_told : (fed : List Answer) (answer : Answer) (later : List Answer) (repeat : Repeat) → RepeatNothing fed
    → TellsRepeat fed answer repeat → IsFirstRepeat (fed ++ answer ∷ later) repeat.first repeat.second
first_told fed answer later repeat nothing told =
    let low : repeat.first < length fed = slice_get_within fed repeat.first told.one told.at_first in
    let second = told.second in
    record {
      order = omega arith;
      one = told.one;
      other = answer;
      at_first = get_left fed (answer ∷ later) repeat.first low ∙ told.at_first;
      at_second = ap (slice_get (fed ++ answer ∷ later)) second ∙ get_seam fed answer later;
      repeats = both_repeat repeat told.one answer told.both;
      least_first = subst (λ (l : List Answer). All (λ (a : Answer). AreUnlike a answer) l)
          (sym (take-append-le repeat.first fed (answer ∷ later) (omega arith))) told.none_before;
      least_second = subst RepeatNothing
          (sym (ap (λ (n : ℕ). take n (fed ++ answer ∷ later)) second ∙ take_seam fed (answer ∷ later))) nothing;
    }
