use Rattle.std.proofs.Common.{◌≡◌, ◌≤◌, IsTrue, Ok, Err, sym, ap, subst, arith, ◌∙◌}
use Rattle.run_promise.specs.Log.{IsStored}
use Rattle.unit_book.specs.declared.fault.BookFault.TheVariants.{SiteFault}
use Rattle.unit_book.specs.Book.{BookView, Enters, IsKept, IsUnstored, LeavesStateAlone}
use Rattle.unit_book.proofs.Keeping.{Ready, ready_of, alone_stored, kept_stored, kept_failed, enters, kept_left_out}
use Rattle.unit_book.proofs.Keeping.{left_out_is}
use Rattle.unit_book.proofs.GoingOn.{goes_entered, goes_unstored, calm_entered, calm_unstored, marks_committed}
use Rattle.unit_book.proofs.GoingOn.{unstored_tells}
use Rattle.unit_book.proofs.book.Book.commit.Goals as goal

pub returns-in-Ok : goal.returns-in-Ok
returns-in-Ok g c =
    let told = g.O.Site.told in
    let old : BookView = c.args.self.now in
    let new : BookView = c.enter.new.self in
    let ready : Ready told _ c.args.entry = ready_of told old _ c.args.entry c.self.view_is
    (record { kept = c.requires.kept; can = c.requires.can; allows = c.requires.allows; keeps = c.requires.marks }) in
    let made : Enters c.args.entry old new c.count.result =
    subst (λ (b : BookView). Enters c.args.entry b new c.count.result) c.self.view_is
    (enters told _ c.args.entry ready new _ _ c.count.result c.enter.ensures c.count.ensures) in
    let faults_old = ap (λ (b : BookView). b.site.faults) c.self.view_is in
    let faults_new = ap (λ (b : BookView). b.site.faults) c.enter.ensures in
    let later : old.site.faults ≤ new.site.faults = (let low = c.store.ensures.later in omega arith) in
    let stood : new.site.faults ≡ old.site.faults = (let same = c.in-Ok.ensures.stood in omega arith) in
    record {
      kept = subst (IsKept told) (sym c.enter.ensures)
          (kept_stored told _ c.args.entry ready _ _ c.store.ensures.later c.in-Ok.ensures.stores.stores
          c.in-Ok.ensures.stores.beside c.in-Ok.ensures.stores.places);
      made = made;
      gone = λ is_told destroys. subst LeavesStateAlone (sym c.enter.ensures)
          (alone_stored told _ c.args.entry ready c.rest_stays_whole.ensures _ _ is_told
          (c.in-Ok.ensures.stores.stores is_told) (c.in-Ok.ensures.stores.beside is_told) c.in-Ok.ensures.stores.places
          (c.in-Ok.ensures.stores.gone is_told destroys));
      goes_on = goes_entered c.args.entry old new c.count.result c.requires.marks c.requires.can later made;
      marks = marks_committed c.args.entry old new (Ok c.count.result) c.requires.marks made;
      risen = tt;
      calm = calm_entered c.args.entry old new c.count.result stood made;
      sunk = λ is_told. ap (λ (b : BookView). b.site.trace.now.sunk) c.enter.ensures
          ∙ (c.in-Ok.ensures.stores.stores is_told).moments.sunk
          ∙ ap (λ (b : BookView). b.site.trace.now.sunk) c.self.view_is;
      puts = ap (λ (b : BookView). b.site.put_faults) c.enter.ensures ∙ c.store.ensures.puts
          ∙ ap (λ (b : BookView). b.site.put_faults) c.self.view_is;
      later = later;
    }

pub returns-in-Err : goal.returns-in-Err
returns-in-Err g c =
    let told = g.O.Site.told in
    let old : BookView = c.args.self.now in
    let new : BookView = c.note_failed.new.self in
    let ready : Ready told _ c.args.entry = ready_of told old _ c.args.entry c.self.view_is
    (record { kept = c.requires.kept; can = c.requires.can; allows = c.requires.allows; keeps = c.requires.marks }) in
    let faults_old = ap (λ (b : BookView). b.site.faults) c.self.view_is in
    let faults_new = ap (λ (b : BookView). b.site.faults) c.note_failed.ensures in
    let later : old.site.faults ≤ new.site.faults = (let low = c.store.ensures.later in omega arith) in
    let unstored : IsUnstored c.args.entry old new (SiteFault c.in-Err.field-0.0) = (
      subst (λ (b : BookView). IsTrue (IsStored b.state c.args.entry)) c.self.view_is c.in-Err.ensures.needed,
      (let rose = c.in-Err.ensures.cause.0 in omega arith),
      (let is = c.in-Err.ensures.cause.1 in omega arith),
      left_out_is old _ new _ _ c.args.entry c.self.view_is c.in-Err.ensures.stores.not_counted c.note_failed.ensures,
    ) in
    record {
      kept = kept_left_out told old _ new _ _ c.args.entry c.self.view_is c.in-Err.ensures.stores.not_counted
          c.note_failed.ensures
          (kept_failed told _ c.args.entry ready _ _ _ c.in-Err.ensures.cause.0 c.store.ensures.later
          c.in-Err.ensures.stores.stores);
      made = unstored;
      gone = λ is_told. tt;
      goes_on = goes_unstored c.args.entry old new (SiteFault c.in-Err.field-0.0) c.requires.can later unstored;
      marks = marks_committed c.args.entry old new (Err (SiteFault c.in-Err.field-0.0)) c.requires.marks unstored;
      risen = unstored_tells c.args.entry old new (SiteFault c.in-Err.field-0.0) c.requires.kept.later unstored;
      calm = calm_unstored c.args.entry old new (SiteFault c.in-Err.field-0.0) c.requires.kept.stands unstored;
      sunk = λ is_told. ap (λ (b : BookView). b.site.trace.now.sunk) c.note_failed.ensures
          ∙ (c.in-Err.ensures.stores.stores is_told).moments.sunk
          ∙ ap (λ (b : BookView). b.site.trace.now.sunk) c.self.view_is;
      puts = ap (λ (b : BookView). b.site.put_faults) c.note_failed.ensures ∙ c.store.ensures.puts
          ∙ ap (λ (b : BookView). b.site.put_faults) c.self.view_is;
      later = later;
    }
