-- A unit that was opened on a site in memory: for `DrillUnit::open`.
use Rattle.std.proofs.Common.{◌≡◌, ℕ, true, List, refl, ◌∙◌, ap, subst, Ok}
use Rattle.sdls_base.specs.declared.TheConstants.{MOST_KEYS}
use Rattle.sdls_outside.specs.Moments.{Trace}
use Rattle.sdls_outside.specs.Crash.{fresh}
use Rattle.unit_image.specs.Beginning.{SaysPlan, image_of_plan}
use Rattle.unit_image.specs.Image.{held}
use Rattle.unit_plan.specs.Plan.{plan_of}
use Rattle.unit_plan.specs.PlanLines.{PlanLines}
use Rattle.unit_state.specs.declared.state.State.{State}
use Rattle.unit_image.specs.Shows.{Shows}
use Rattle.counter_table.specs.declared.counters.Counters.{Counters}
use Rattle.counter_table.specs.declared.counters.Worker.{Worker}
use Rattle.counter_table.specs.declared.view.Opening.{Opening}
use Rattle.counter_table.specs.Worker.{view}
use Rattle.run_promise.specs.Call.{SiteSeen, Begin}
use Rattle.unit_book.specs.Book.{BookView}
use Rattle.shared_unit.specs.Sharing.{Begins}
use Rattle.shared_unit.specs.Sharing as sharing
use Rattle.unit_drill.specs.Chunks.{MayServe, UnitIsOpened}

module _ {B : Type 0} (site : SiteSeen) (book : BookView) (counters : Counters B) (planned : PlanLines)
    (worker : Worker B) (opened : sharing.BookIsOpened true site book)
    (begins : Begins book counters planned worker) (plan : List ℕ) (lines : PlanLines) (first : State)
    (said : SaysPlan plan lines first) (holds : site.trace ≡ fresh (image_of_plan plan lines first)) where
  image_is : site.trace.now.image ≡ image_of_plan plan lines first
  image_is = ap (λ (t : Trace). t.now.image) holds

  abbrev begin : Begin
  begin = record {
    rows = MOST_KEYS;
    told = true;
    plan = book.plan;
    start = book.start;
  }

  pub opened_begins : MayServe counters planned worker × ((begin : Begin) × UnitIsOpened plan begin (view worker))
  opened_begins = (
    record { ready = begins.ready; shares = begins.shares },
    (
      begin,
      record {
        lines = lines;
        first = first;
        said = said;
        began = record {
          rows = refl;
          tells = refl;
          plan = ap (λ (o : Opening). o.plan) begins.opening;
          start = ap (λ (o : Opening). o.start) begins.opening;
        };
        image = ap (λ (o : Opening). o.image) begins.opening
            ∙ (ap (λ (b : BookView). b.image) opened.begun_is ∙ image_is);
        says = subst (λ (i : List ℕ). plan_of (held i).plan ≡ Ok book.plan) image_is (opened.plan refl);
        shows = subst (λ (i : List ℕ). Shows i book.start) image_is (opened.shows refl).0;
        whole = begins.whole;
        unspent = begins.spent;
        opened = record {
          none_drawn = begins.drawn;
          none_made = begins.made;
          no_log = begins.log;
          nexts = begins.words;
          raised = begins.raised;
          added = begins.added;
        };
      },
    ),
  )
