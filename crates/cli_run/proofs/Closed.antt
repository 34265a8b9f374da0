-- A run whose book was opened, served by one worker and closed: for `run_recorded`.
use Rattle.std.proofs.Common.{◌≡◌, ℕ, ◌≤◌, Bool, IsTrue, List, Ok, refl, sym, ◌∙◌, ap, subst, inl, inr}
use Rattle.sdls_base.specs.declared.entry.Entry.{Entry}
use Rattle.sdls_outside.specs.Disk.{Leaves}
use Rattle.sdls_outside.specs.Moments.{Trace, EachMoment, clock}
use Rattle.sdls_outside.proofs.Moments.{moment_now}
use Rattle.counter_table.specs.declared.counters.Counters.{Counters}
use Rattle.counter_table.specs.declared.counters.Worker.{Worker}
use Rattle.counter_table.specs.declared.view.Opening as openings
use Rattle.counter_table.specs.Numbers.{top}
use Rattle.counter_table.specs.Worker.{view}
use Rattle.unit_image.specs.Image.{held}
use Rattle.record_io.specs.Reading.{SourceSeen}
use Rattle.unit_plan.specs.Plan.{plan_of}
use Rattle.unit_plan.specs.PlanLines.{PlanLines}
use Rattle.unit_plan.specs.PlanRules.{IsPlan}
use Rattle.unit_state.specs.declared.state.State.{State}
use Rattle.unit_state.specs.Restart.{restarted}
use Rattle.unit_image.specs.OpeningImage.{Opening}
use Rattle.unit_image.specs.Shows.{Shows}
use Rattle.run_promise.specs.Call.{SiteSeen}
use Rattle.unit_book.specs.Book.{BookView}
use Rattle.run_promise.specs.Numbers.{mark_at}
use Rattle.shared_unit.specs.Sharing.{Begins, BookIsOpened}
use Rattle.shared_unit.specs.Told.{known_of_book}
use Rattle.law_workers.specs.Began.{BeganWith}
use Rattle.law_runs.specs.Coming.{HasCome}
use Rattle.law_runs.specs.Ending.{PutsEnd}
use Rattle.law_runs.specs.Ran.{Ran, begin_by}
use Rattle.run_promise.specs.declared.end.RunEnd.{RunEnd}
use Rattle.cli_run.specs.Running.{RunsUnit}

-- the octets sunk stand where they stood while the image is opened
pub opened_sunk : (old new : Trace) → EachMoment old new (Opening old) → Leaves new.now new.now.image
    → new.now.sunk ≡ old.now.sunk
opened_sunk old new each leaves =
    (each.each new.now.image new.now.sunk (moment_now new (clock old) new.now.image leaves)).1

-- the image that is known of stays while End is put
image_stays : (told : Bool) (came end : RunEnd) (old new : BookView) (status : ℕ)
    → PutsEnd told came end old new status → new.image ≡ old.image
image_stays told came end old new status (inl (came_is, same, status_is)) = ap (λ (b : BookView). b.image) same
image_stays told came end old new status (inr (came_is, put)) = ap (λ (b : BookView). b.image) put.made

module _ {B : Type 0} (told : Bool) (site after : SiteSeen) (opened : BookView) (counters : Counters B)
    (plan : PlanLines)
    (worker : Worker B) (here : BookIsOpened told site opened) (begins : Begins opened counters plan worker)
    (source source_after : SourceSeen) (entries : List Entry) (status : ℕ)
    (runs : RunsUnit told site.faults source source_after (view worker) after entries status) where
  -- what the book was opened with
  same_opening : (known_of_book runs.book).opening ≡ (known_of_book opened).opening
  same_opening = runs.closes.follows.opening ∙ runs.opening ∙ begins.opening

  image_is : runs.book.image ≡ site.trace.now.image
  image_is = ap (λ (o : openings.Opening). o.image) same_opening ∙ ap (λ (b : BookView). b.image) here.begun_is

  plan_is : runs.book.plan ≡ opened.plan
  plan_is = ap (λ (o : openings.Opening). o.plan) same_opening

  start_is : runs.book.start ≡ opened.start
  start_is = ap (λ (o : openings.Opening). o.start) same_opening

  trail_is : runs.book.opened.trace ≡ opened.site.trace
  trail_is = ap (λ (o : openings.Opening). o.trail) same_opening ∙ ap (λ (b : BookView). b.opened.trace) here.begun_is

  faults_are : runs.book.opened.faults ≡ site.faults
  faults_are = ap (λ (o : openings.Opening). o.faults) same_opening ∙ ap (λ (b : BookView). b.opened.faults)
      here.begun_is ∙ here.stood

  pub says : IsTrue told → plan_of (held site.trace.now.image).plan ≡ Ok runs.book.plan
  says is_told = subst (λ (p : PlanLines). plan_of (held site.trace.now.image).plan ≡ Ok p) (sym plan_is)
      (here.plan is_told)

  shows : IsTrue told → Shows site.trace.now.image runs.book.start
  shows is_told = subst (Shows site.trace.now.image) (sym start_is) (here.shows is_told).0

  began : BeganWith told (begin_by told runs.book.plan runs.book.start) (view worker).turn.known.opening
  began =
      let first : (known_of_book runs.book).opening ≡ (view worker).turn.known.opening =
      runs.closes.follows.opening ∙ runs.opening in
      record {
        rows = refl;
        tells = refl;
        plan = ap (λ (o : openings.Opening). o.plan) (sym first);
        start = ap (λ (o : openings.Opening). o.start) (sym first);
      }

  come : HasCome source source_after (begin_by told runs.book.plan runs.book.start) (view worker) runs.now
      site.put_faults runs.book.site.put_faults runs.book.standing runs.came
  come =
      let before : (view worker).turn.known.put_faults ≡ site.put_faults = begins.put_faults ∙ here.puts_same in
      subst (λ (n : ℕ). HasCome source source_after (begin_by told runs.book.plan runs.book.start) (view worker)
      runs.now
      n runs.book.site.put_faults runs.book.standing runs.came) before
      (subst (λ (n : ℕ). HasCome source source_after (begin_by told runs.book.plan runs.book.start) (view worker)
      runs.now
      (view worker).turn.known.put_faults n runs.book.standing runs.came) (sym runs.closes.as_known.put_faults)
      (subst (λ (n : ℕ). HasCome source source_after (begin_by told runs.book.plan runs.book.start) (view worker)
      runs.now
      (view worker).turn.known.put_faults runs.now.turn.known.put_faults n runs.came)
      (sym runs.closes.as_known.standing)
      (runs.comes (begin_by told runs.book.plan runs.book.start) began)))

  pub has_run : ((text : List ℕ) (plan : PlanLines) → plan_of text ≡ Ok plan → IsPlan plan)
      → ((image : List ℕ) (state : State) → Shows image state → restarted state ≡ state)
      → Ran told site source source_after (view worker) runs.now runs.came runs.book runs.words
  has_run plans left = record {
    says = says;
    shows = shows;
    opening = λ is_told. subst (λ (t : Trace). EachMoment site.trace t (Opening site.trace)) (sym trail_is)
        (here.any_moment is_told);
    sunk = λ is_told. ap (λ (t : Trace). t.now.sunk) trail_is ∙ opened_sunk site.trace opened.site.trace
        (here.any_moment is_told) (here.stays is_told);
    read = image_is;
    same_faults = faults_are;
    founded = λ is_told. record {
      rows = refl;
      plan_is = plans (held site.trace.now.image).plan runs.book.plan (says is_told);
      rules = runs.kept.begins;
      left = left site.trace.now.image runs.book.start (shows is_told);
      opened = record {
        none_drawn = begins.drawn;
        none_made = begins.made;
        no_log = begins.log;
        nexts = λ row low. begins.words row low ∙ ap (λ (s : State). mark_at s row) (sym start_is);
        raised = λ row low. subst (λ (s : State). top row (view worker).numbers.raised ≤ mark_at s row) (sym start_is)
            (begins.raised row low);
        added = λ row low. begins.added row low;
      };
    };
    come = come;
    whole = runs.whole;
    kept = runs.kept;
    log = runs.closes.log;
    known = sym runs.closes.as_known.faults;
    known_first = ap (λ (o : openings.Opening). o.faults) (sym runs.closes.follows.opening);
    rows = runs.closes.rows;
    stand = runs.closes.each;
  }
