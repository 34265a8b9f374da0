use Rattle.std.proofs.Common.{◌≡◌, ℕ, List, true, ap, ◌∙◌, refl, inl, sym, subst}
use Rattle.logbook.specs.Pages.{Cell, cell, keeps}
use Rattle.kept_threads.proofs.Noting.{added, there}
use Rattle.kept_threads.proofs.jobs.note.Goals as goal

-- src/asked.rt:44:5
pub compare_exchange-requires : goal.compare_exchange-requires
compare_exchange-requires g c = (
  c.requires.word.0,
  c.requires.word.2,
  c.no_pen-pen.ensures.0 ∙ c.requires.word.2,
  c.plain-offer.ensures.0,
  λ cs log h known away. let key : c.args.word.now.key ≡ 0 = c.requires.word.1 in
      let a = added cs log c.args.place c.plain-offer.result.ask h c.args.word.now.key key in (
        there cs c.args.word.now.key key (ap (λ (v : Cell). v.1) h),
        subst (λ (k : ℕ). (cell cs k).1 ≡ true) (sym key) (ap (λ (v : Cell). v.1) h),
        (
          keeps,
          a.0,
          c.plain-offer.result.state,
          tt {0},
          a.1,
          inl (refl, refl),
          a.2,
        ),
      ),
)
