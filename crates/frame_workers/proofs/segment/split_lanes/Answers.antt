use Rattle.std.proofs.Common.{rules, ◌≡◌, ℕ, ◌≤◌, ◌<◌, ◌+◌, length, [], ◌∷◌, true, false, refl, sym, ap, subst, ◌∙◌}
use Rattle.std.proofs.Common.{arith, length-append, inl, inr}
use Rattle.std.specs.List.{All, AllPairs, list_any}
use Rattle.std.proofs.lemmas.Bool.{cases_eq}
use Rattle.std.proofs.lemmas.List.Elements.{All-push}
use Rattle.std.proofs.lemmas.List.Quantifiers.{all_pairs_push}
use Rattle.counter_table.specs.declared.view.View.{View}
use Rattle.record_io.specs.declared.reader.TheConstants.{LANES}
use Rattle.counter_table.specs.Worker.{view}
use Rattle.shared_unit.specs.Turn.{IsReady}
use Rattle.law_workers.specs.Lanes.{giving_shares, is_of_lane}
use Rattle.law_workers.specs.Views.{starting}
use Rattle.frame_workers.specs.Lanes.{HaveOwnNumbers, IsRoom, IsSplit, IsThere}
use Rattle.frame_workers.specs.Permits.{AreTrueFor}
use Rattle.frame_workers.proofs.Kept.{places_later, starts_knowing}
use Rattle.frame_workers.proofs.Splits.{gives_more, starts_so, there_push, there_last, room_last, rooms_left}
use Rattle.frame_workers.proofs.Used.{used_at}
use Rattle.frame_workers.proofs.segment.split_lanes.Goals as goal

pub rooms-preserved : goal.rooms-preserved
rooms-preserved g c =
    let inv = c.rooms.invariant in
    let base : View = view c.args.worker.now in
    let pushed = c.push_reserved.ensures in
    let items = c.in-Some.ensures.items in
    let left = c.pop.new.self.items in
    let ok = c.pop.new.self.ok in let len = c.len-number.ensures in
    let number : c.len-number.result ≡ length left = omega arith in
    let less : length c.rooms.rooms.items ≡ length left + 1 =
    ap length items ∙ length-append left (c.in-Some.answers ∷ []) in
    let more : length c.push_reserved.new.self.items ≡ length c.rooms.lanes.items + 1 =
    ap length pushed.items ∙ length-append c.rooms.lanes.items _ in
    let many = inv.many in
    let room : IsRoom c.args.records.now c.len-number.result c.in-Some.answers =
    subst (λ (n : ℕ). IsRoom c.args.records.now n c.in-Some.answers) (sym number)
    (room_last c.args.records.now c.rooms.rooms.items left c.in-Some.answers items inv.rooms) in
    let used : list_any (is_of_lane c.len-number.result) c.args.records.now ≡ true =
    used_at c.args.records.now c.args.used.now.lanes c.len-number.result c.from.result true c.requires.used
    (omega arith) c.from.ensures c.if-not-used-from.false in
    let from : view c.split-split.result ≡ starting base =
    starts_so base (view c.rooms.worker) (view c.split-split.result) (length c.rooms.lanes.items)
    inv.given c.split-split.ensures.newcomer in
    record {
      is_ready = c.split-split.ensures.ready;
      kept = c.take.ensures.left base.turn inv.kept;
      left = λ v is. c.take.ensures.left v (inv.left v is);
      given = subst (λ (n : ℕ). view c.split-split.new.worker ≡ giving_shares n base) (sym more)
          (gives_more base (view c.rooms.worker) (view c.split-split.new.worker) (length c.rooms.lanes.items) inv.given
          c.split-split.ensures.keeper);
      shares = inv.shares;
      many = omega arith;
      rooms = rooms_left c.args.records.now c.rooms.rooms.items left c.in-Some.answers items inv.rooms;
      room = let a = pushed.capacity in let b = inv.room in omega arith;
      split = subst (λ l. All (IsSplit (IsReady c.args.unit.now.counters c.args.unit.now.plan) c.args.records.now base)
          l) (sym pushed.items)
          (All-push (IsSplit (IsReady c.args.unit.now.counters c.args.unit.now.plan) c.args.records.now base)
          c.rooms.lanes.items _ inv.split (record {
            below = omega arith;
            used = used;
            can = record {
              is_ready = c.split-split.ensures.new;
              kept = subst (λ (u : View). All (λ permits. AreTrueFor permits u.turn) c.take.result.items) (sym from)
                  (places_later base (starting base) (starts_knowing base) c.take.result.items
                  (c.take.ensures.taken base.turn inv.kept));
              empty = room.empty;
              room = room.roomy used;
              going = refl;
            };
            from = from;
          }));
      above = subst (λ l. All (λ lane. length left ≤ lane.number) l) (sym pushed.items)
          (All-push (λ lane. length left ≤ lane.number) c.rooms.lanes.items _ (λ k d l. let a = inv.above k d l in
          omega arith) (omega arith));
      apart = subst (λ l. AllPairs HaveOwnNumbers l) (sym pushed.items)
          (all_pairs_push HaveOwnNumbers c.rooms.lanes.items _ inv.apart (λ k d l e. let a = inv.above k d l in
          absurd (omega arith)));
      each = λ n low high there. elim (cases_eq (length left) n) [
        | inl is ↦ subst (IsThere n) (sym pushed.items) (there_last n c.rooms.lanes.items _ (number ∙ is))
        | inr off ↦
            subst (IsThere n) (sym pushed.items)
            (there_push n c.rooms.lanes.items _ (inv.each n (omega arith) high there))
      ];
    }

-- a lane without records
pub rooms-preserved-then-not-used-from : goal.rooms-preserved-then-not-used-from
rooms-preserved-then-not-used-from g c =
    let inv = c.rooms.invariant in
    let items = c.in-Some.ensures.items in
    let left = c.pop.new.self.items in
    let ok = c.pop.new.self.ok in let len = c.len-number.ensures in
    let number : c.len-number.result ≡ length left = omega arith in
    let less : length c.rooms.rooms.items ≡ length left + 1 =
    ap length items ∙ length-append left (c.in-Some.answers ∷ []) in
    let below : c.len-number.result < LANES = (let m = inv.many in omega arith) in
    let unused : list_any (is_of_lane c.len-number.result) c.args.records.now ≡ false =
    used_at c.args.records.now c.args.used.now.lanes c.len-number.result c.from.result false c.requires.used below
    c.from.ensures c.if-not-used-from.true in
    let many = inv.many in
    record {
      is_ready = inv.is_ready;
      given = inv.given;
      shares = inv.shares;
      many = omega arith;
      rooms = rooms_left c.args.records.now c.rooms.rooms.items left c.in-Some.answers items inv.rooms;
      room = inv.room;
      split = inv.split;
      kept = inv.kept;
      left = inv.left;
      above = λ k d l. let a = inv.above k d l in omega arith;
      apart = inv.apart;
      each = λ n low high there. elim (cases_eq (length left) n) [
        | inl is ↦ absurd (
            let here : true ≡ false = sym there ∙ ap (λ (m : ℕ). list_any (is_of_lane m) c.args.records.now)
            (sym (number ∙ is)) ∙ unused in cc)
        | inr off ↦ inv.each n (omega arith) high there
      ];
    }

pub returns-clause-each : goal.returns-clause-each
returns-clause-each g c =
    let none : c.rooms.rooms.items ≡ [] = search rules in
    let size : length c.rooms.rooms.items ≡ 0 = ap length none in
    λ number low there. c.rooms.invariant.each number (omega arith) low there
