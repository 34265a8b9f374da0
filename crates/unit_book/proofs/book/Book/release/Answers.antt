use Rattle.std.proofs.Common.{◌≡◌, ◌<◌, ◌≤◌, List, length, get_or, refl, arith, ap, subst, ◌∙◌}
use Rattle.sa_book.specs.declared.sa_book.SaRow.{SaRow}
use Rattle.unit_book.specs.Book.{BookView}
use Rattle.unit_book.proofs.GoingOn.{goes_same, goes_then}
use Rattle.unit_book.specs.Receivers.{TellsReceivers}
use Rattle.unit_book.proofs.Released.{none_so_far, so_far_more, releases_refused, releases_done, still_tells}
use Rattle.unit_book.proofs.book.Book.release.Goals as goal

pub loop-place-init : goal.loop-place-init
loop-place-init g c = record {
  kept = c.requires.kept;
  keys = refl;
  so_far = none_so_far c.args.next.now c.args.self.now;
  receivers = subst (λ (rows : List SaRow). TellsReceivers rows c.of-receivers.result.places)
      (c.rows.ensures.rows ∙ ap (λ (b : BookView). b.state.associations) c.self.view_is) c.of-receivers.ensures;
  goes_on = goes_same c.args.self.now;
  puts = refl;
  later = omega arith;
}

pub loop-place-preserved : goal.loop-place-preserved
loop-place-preserved g c =
    let size : length c.rows-place-end.result.now ≡ length c.args.self.now.state.keys =
    ap (λ rows. length rows) c.rows-place-end.ensures.rows
    ∙ ap (λ (b : BookView). length b.state.keys) c.self.view_is in
    let words : length c.args.self.now.state.keys ≤ length c.args.next.now = c.requires.words in
    let below : c.loop-place.place < length c.rows-place-end.result.now = c.loop-place-test.true in
    let later : c.loop-place.self.site.faults ≤ c.release_at.new.self.site.faults = c.release_at.ensures.later in
    let earlier : c.args.self.now.site.faults ≤ c.loop-place.self.site.faults = c.loop-place.invariant.later in
    record {
      kept = c.release_at.ensures.kept;
      keys = c.release_at.ensures.keys ∙ c.loop-place.invariant.keys;
      so_far = so_far_more c.args.next.now c.loop-place.place 0 c.args.self.now c.loop-place.self c.release_at.new.self
          c.release_at.result (omega arith) c.loop-place.invariant.so_far c.release_at.ensures.made c.in-Ok.is;
      receivers = still_tells c.loop-place.place (get_or c.args.next.now c.loop-place.place 0) c.loop-place.self
          c.release_at.new.self
          c.release_at.result c.of-receivers.result.places c.release_at.ensures.made c.in-Ok.is
          c.loop-place.invariant.receivers;
      goes_on = goes_then c.args.self.now c.loop-place.self c.release_at.new.self c.loop-place.invariant.goes_on
          c.release_at.ensures.goes_on;
      puts = c.release_at.ensures.puts ∙ c.loop-place.invariant.puts;
      later = omega arith;
    }

pub returns-in-Err-clause-released : goal.returns-in-Err-clause-released
returns-in-Err-clause-released g c =
    let size : length c.rows-place-end.result.now ≡ length c.args.self.now.state.keys =
    ap (λ rows. length rows) c.rows-place-end.ensures.rows
    ∙ ap (λ (b : BookView). length b.state.keys) c.self.view_is in
    let words : length c.args.self.now.state.keys ≤ length c.args.next.now = c.requires.words in
    let below : c.loop-place.place < length c.rows-place-end.result.now = c.loop-place-test.true in
    releases_refused c.args.next.now c.loop-place.place 0 c.args.self.now c.loop-place.self c.release_at.new.self
    c.in-Err.fault (omega arith) c.loop-place.invariant.so_far c.in-Err.ensures.made

pub returns-in-Err-clause-goes_on : goal.returns-in-Err-clause-goes_on
returns-in-Err-clause-goes_on g c =
    goes_then c.args.self.now c.loop-place.self c.release_at.new.self c.loop-place.invariant.goes_on
    c.release_at.ensures.goes_on

pub returns-in-Err-clause-puts : goal.returns-in-Err-clause-puts
returns-in-Err-clause-puts g c = c.release_at.ensures.puts ∙ c.loop-place.invariant.puts

pub returns-clause-goes_on : goal.returns-clause-goes_on
returns-clause-goes_on g c = c.loop-place.invariant.goes_on

pub returns-clause-puts : goal.returns-clause-puts
returns-clause-puts g c = c.loop-place.invariant.puts

pub returns-clause-released : goal.returns-clause-released
returns-clause-released g c =
    let size : length c.rows-place-end.result.now ≡ length c.args.self.now.state.keys =
    ap (λ rows. length rows) c.rows-place-end.ensures.rows
    ∙ ap (λ (b : BookView). length b.state.keys) c.self.view_is in
    let same : length c.loop-place.self.state.keys ≡ length c.args.self.now.state.keys = c.loop-place.invariant.keys in
    let done : length c.rows-place-end.result.now ≤ c.loop-place.place = c.loop-place-test.false in
    releases_done c.args.next.now c.loop-place.place c.args.self.now c.loop-place.self
    (omega arith) c.loop-place.invariant.so_far
