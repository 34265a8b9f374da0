use Rattle.std.proofs.Common.{◌≡◌, ℕ, IsTrue, List, subst, sym, ap, arith}
use Rattle.sdls_outside.specs.Faults.{Rose}
use Rattle.sdls_outside.specs.Moments.{EachMoment}
use Rattle.unit_image.specs.Image.{held}
use Rattle.unit_image.specs.Shows.{Shows, ShowsNone}
use Rattle.run_promise.specs.Sound.{HasPlan}
use Rattle.unit_book.specs.Book.{BookView}
use Rattle.cli_image.specs.Stat.{end_of_open, fault_text, stat_status}
use Rattle.cli_image.proofs.Telling.{all_moments, all_plans, alone_now, ends_put, fault_due, fault_leaves, not_told}
use Rattle.cli_image.proofs.Telling.{plan_now, puts_from, refused_left, refused_moments, refused_plans, still_shown}
use Rattle.cli_image.proofs.Telling.{sunk_same, told_due}
use Rattle.cli_image.proofs.stat.run_stat.Goals as goal

pub returns-in-Ok-clause-ends : goal.returns-in-Ok-clause-ends
returns-in-Ok-clause-ends g c =
    let site = c.args.site in let book = c.in-Ok.book in let last = c.tell_state.result.site in
    let told = c.tell_state.ensures.told in
    let start : book.state ≡ book.start = ap (λ (b : BookView). b.state) c.in-Ok.ensures.begun in
    let low = c.in-Ok.ensures.later in
    let read : book.image ≡ (g.O.Site.trace site).now.image =
    ap (λ (b : BookView). b.image) c.in-Ok.ensures.begun in
    let stays : IsTrue g.O.Site.told → EachMoment book.site.trace (g.O.Site.trace last)
    (λ image sunk. HasPlan (held (g.O.Site.trace site).now.image).plan image) =
    λ is. subst (λ (image_read : List ℕ). EachMoment book.site.trace (g.O.Site.trace last)
    (λ image sunk. HasPlan (held image_read).plan image)) read (c.tell_state.ensures.plans is) in
    record {
      end = told.0;
      text = told.1;
      due = told_due g.O.Site.told _ (g.O.Site.trace site).now.image told.1 book told.0 told.2 c.in-Ok.ensures.plan
          (λ is. subst (Shows (g.O.Site.trace site).now.image) (sym start) (c.in-Ok.ensures.shows is).0)
          c.in-Ok.ensures.used;
      put = puts_from g.O.Site.told told.1 (stat_status told.0) c.tell_state.result.status (g.O.Site.trace site)
          book.site.trace (g.O.Site.trace last)
          (Rose (g.O.Site.faults site) (g.O.Site.faults last)) (Rose book.site.faults (g.O.Site.faults last))
          (λ late. omega (arith, late))
          (λ is. sunk_same (g.O.Site.trace site) book.site.trace (c.in-Ok.ensures.stays is)
          (c.in-Ok.ensures.any_moment is)) told.3;
      moments = λ is. all_moments (g.O.Site.trace site) book.site.trace (g.O.Site.trace last) book.start
          (c.in-Ok.ensures.shows is).0
          (c.in-Ok.ensures.any_moment is) (c.tell_state.ensures.moments is);
      refused = λ is offset none.
          absurd (c.refused_with_one.ensures.none (g.O.Site.trace site).now.image book.start offset
          (c.in-Ok.ensures.shows is).0 none);
      stands = λ is state shows other.
          still_shown c.shows_one.ensures (g.O.Site.trace site) (g.O.Site.trace last) book.start
          (c.in-Ok.ensures.shows is).0
          (alone_now book.site.trace (g.O.Site.trace last) book.start (c.tell_state.ensures.moments is)
          (g.met.O.Site.image_may_stay last is)) state shows;
      alone = λ is ends.
          (alone_now book.site.trace (g.O.Site.trace last) book.start (c.tell_state.ensures.moments is)
          (g.met.O.Site.image_may_stay last is)).no_form;
      same_plan = λ is state shows. all_plans (g.O.Site.trace site) book.site.trace (g.O.Site.trace last) state shows
          (c.in-Ok.ensures.any_moment is) (stays is);
      plan_stands = λ is ends. plan_now book.site.trace (g.O.Site.trace last)
          (held (g.O.Site.trace site).now.image).plan
          (stays is) (g.met.O.Site.image_may_stay last is);
    }

pub returns-in-Err-clause-ends : goal.returns-in-Err-clause-ends
returns-in-Err-clause-ends g c =
    let site = c.args.site in let mid = c.in-Err.site in let last = c.tell_fault.result.site in
    let fault = c.in-Err.fault in
    let low = c.in-Err.ensures.later in
    record {
      end = end_of_open fault;
      text = fault_text (end_of_open fault);
      due = fault_due g.O.Site.told (g.O.Site.trace site).now.image (g.O.Site.faults site) (g.O.Site.faults mid)
          (g.O.Site.faults last)
          (λ offset. IsTrue g.O.Site.told → ShowsNone (g.O.Site.trace site).now.image offset) fault
          c.tell_fault.ensures.later (λ offset none is. none is) c.in-Err.ensures.refused;
      put = puts_from g.O.Site.told (fault_text (end_of_open fault)) (stat_status (end_of_open fault))
          c.tell_fault.result.status (g.O.Site.trace site)
          (g.O.Site.trace mid) (g.O.Site.trace last) (Rose (g.O.Site.faults site) (g.O.Site.faults last))
          (Rose (g.O.Site.faults mid) (g.O.Site.faults last))
          (λ late. omega (arith, late))
          (λ is. sunk_same (g.O.Site.trace site) (g.O.Site.trace mid) (g.met.O.Site.image_may_stay mid is)
          (c.in-Err.ensures.any_moment is))
          (ends_put g.O.Site.told (fault_text (end_of_open fault)) (stat_status (end_of_open fault))
          c.tell_fault.result.status (g.O.Site.trace mid) (g.O.Site.trace last)
          (Rose (g.O.Site.faults mid) (g.O.Site.faults last)) c.tell_fault.ensures.ends);
      moments = λ is. refused_moments g.O.Site.told (fault_text (end_of_open fault)) (stat_status (end_of_open fault))
          c.tell_fault.result.status
          (g.O.Site.trace site) (g.O.Site.trace mid) (g.O.Site.trace last)
          (Rose (g.O.Site.faults mid) (g.O.Site.faults last))
          (c.in-Err.ensures.any_moment is) c.tell_fault.ensures.ends is;
      refused = λ is offset none. refused_left g.O.Site.told (fault_text (end_of_open fault))
          (stat_status (end_of_open fault)) c.tell_fault.result.status
          (g.O.Site.trace site) (g.O.Site.trace mid) (g.O.Site.trace last)
          (Rose (g.O.Site.faults mid) (g.O.Site.faults last))
          ((c.in-Err.ensures.left is).none offset none) (g.met.O.Site.image_may_stay site is) c.tell_fault.ensures.ends
          is;
      stands = λ is state shows other. fault_leaves g.O.Site.told (g.O.Site.trace site) (g.O.Site.trace mid)
          (g.O.Site.trace last)
          (Rose (g.O.Site.faults mid) (g.O.Site.faults last)) fault c.tell_fault.result.status
          (c.in-Err.ensures.left is) c.tell_fault.ensures.ends is
          state shows other;
      alone = λ is ends. absurd (not_told fault ends);
      same_plan = λ is state shows. refused_plans g.O.Site.told (fault_text (end_of_open fault))
          (stat_status (end_of_open fault)) c.tell_fault.result.status
          (g.O.Site.trace site) (g.O.Site.trace mid) (g.O.Site.trace last)
          (Rose (g.O.Site.faults mid) (g.O.Site.faults last)) state shows
          (c.in-Err.ensures.any_moment is) c.tell_fault.ensures.ends is;
      plan_stands = λ is ends. absurd (not_told fault ends);
    }
