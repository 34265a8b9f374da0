use Rattle.std.proofs.Common.{◌≡◌, ◌++◌, ◌∙◌, ℕ, List, [], length, take, drop, sym, ap, refl, arith, append_assoc}
use Rattle.std.proofs.Common.{length-append}
use Rattle.std.specs.List.{flat_map}
use Rattle.std.specs.Prelude.{filter, if◌then◌else◌}
use Rattle.std.proofs.lemmas.List.{drop-drop}
use Rattle.unit_plan.specs.Lines.{lines_of}
use Rattle.unit_plan.specs.Bare.{is_bare, ended}
use Rattle.unit_plan.proofs.BareReading.{lines_room, kept_on, kept_short}
use Rattle.unit_plan.proofs.bare.write_bare_plan.Goals as goal

pub loop-line-init : goal.loop-line-init
loop-line-init c =
    let same : c.into_iter-line-iterator.result ≡ lines_of c.args.text.now =
    c.into_iter-line-iterator.ensures.into_iter_gives ∙ c.of-line-items.ensures in
    let room = lines_room c.args.text.now in
    rw same (record { written = refl; rest = refl; room = omega arith })

pub loop-line-preserved : goal.loop-line-preserved
loop-line-preserved c =
    let line = c.in-Some.line.now in
    let lines = c.next.new.self in
    let more = if is_bare line then ended line else [] in
    let front = take c.loop-line.end c.loop-line.out in
    let steps = c.in-Some.ensures.steps in
    let put = c.put_bare-end.ensures in
    let behind : (xs : List ℕ) → drop (length more) (drop c.loop-line.end xs) ≡ drop c.put_bare-end.result xs =
    λ xs. drop-drop (length more) c.loop-line.end xs ∙ ap (λ (n : ℕ). drop n xs) (sym put.place) in
    let left = ap (λ (all : List (List ℕ)). length (flat_map ended all)) steps in
    let both = length-append (ended line) (flat_map ended lines) in
    let short = kept_short (is_bare line) line in
    record {
      written = ap (λ (s : List ℕ). s ++ flat_map ended (filter is_bare lines)) put.written
          ∙ append_assoc front more (flat_map ended (filter is_bare lines))
          ∙ ap (λ (s : List ℕ). front ++ s) (kept_on line lines)
          ∙ ap (λ (all : List (List ℕ)). front ++ flat_map ended (filter is_bare all)) (sym steps)
          ∙ c.loop-line.invariant.written;
      rest = put.rest ∙ sym (behind c.loop-line.out) ∙ ap (λ (s : List ℕ). drop (length more) s)
          c.loop-line.invariant.rest ∙ behind c.args.out.now;
      room = omega (arith, left, both, short, put.place, c.loop-line.invariant.room);
    }
