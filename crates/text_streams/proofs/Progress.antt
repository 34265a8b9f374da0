-- What was read and put so far, for `read_lines` and `put_records`.
use Rattle.std.proofs.Common.{◌≡◌, ◌≢◌, ℕ, ◌+◌, ◌-◌, ◌^◌, ◌≤◌, List, [], ◌++◌, length, take, inl, inr, refl, sym, ap}
use Rattle.std.proofs.Common.{◌∙◌, arith, append_assoc, length-append}
use Rattle.std.proofs.lemmas.List.{append-nil}
use Rattle.sdls_outside.specs.Moments.{Between}
use Rattle.record_io.specs.Input.{Item, beginning, items_octets}
use Rattle.text_streams.specs.declared.ends.End.{End}
use Rattle.text_streams.specs.declared.ends.End.TheVariants.{Done, LineFault, LongLine, CutAnswer, NoAnswer, NoItem}
use Rattle.text_streams.specs.declared.ends.End.TheVariants.{SourceFault, OutputFault, NoMemory}
use Rattle.text_streams.specs.TextLine.{AddsNext, EndsBehind, EndsNext, PutsRecords, PutsRest, Reads, ReadsLines, Stand}
use Rattle.text_streams.specs.TextLine.{StandAt, WasPut}
use Rattle.text_streams.proofs.Items.{one_more}

-- so many lines were read
pub record Progress (left sunk out left_now sunk_now out_now : List ℕ) (count : ℕ) : Type 0 where
  pub items : List Item
  pub reads : Reads left left_now count items
  pub stand : Stand (items_octets items) sunk out sunk_now out_now

pub begun : (left sunk out : List ℕ) → Progress left sunk out left sunk out 0
begun left sunk out = record {
  items = [];
  reads = record { lines = []; lines_are = refl; count_is = refl; said = refl };
  stand = record { least = omega arith; all = ap (λ out. sunk ++ out) (sym (append-nil out)) };
}

-- ---- one line more

stands_more : (octets more all sunk out sunk_now out_now out_next : List ℕ) → Stand octets sunk out sunk_now out_now
    → out_next ≡ out_now ++ more → all ≡ octets ++ more → Stand all sunk out sunk_now out_next
stands_more octets more all sunk out sunk_now out_now out_next stand added are = record {
  least = stand.least;
  all = ap (λ xs. sunk_now ++ xs) added ∙ sym (append_assoc sunk_now out_now more) ∙ ap (λ xs. xs ++ more) stand.all
      ∙ append_assoc sunk (out ++ octets) more ∙ ap (λ xs. sunk ++ xs)
      (append_assoc out octets more ∙ ap (λ xs. out ++ xs) (sym are));
}

pub forth : (left sunk out left_now sunk_now out_now left_next out_next : List ℕ) (count : ℕ)
    → Progress left sunk out left_now sunk_now out_now count → AddsNext left_now left_next out_now out_next
    → Progress left sunk out left_next sunk_now out_next (count + 1)
forth left sunk out left_now sunk_now out_now left_next out_next count so_far next =
    let more = one_more left left_now left_next count so_far.items out_now out_next so_far.reads next in
    record {
      items = more.all;
      reads = more.reads;
      stand = stands_more (items_octets so_far.items) more.octets (items_octets more.all) sunk out sunk_now out_now
          out_next
          so_far.stand more.added more.are;
    }

pub put_on : (left sunk out left_now sunk_now out_now sunk_next out_next : List ℕ) (count : ℕ)
    → Progress left sunk out left_now sunk_now out_now count → length sunk_now ≤ length sunk_next
    → sunk_next ++ out_next ≡ sunk_now ++ out_now → Progress left sunk out left_now sunk_next out_next count
put_on left sunk out left_now sunk_now out_now sunk_next out_next count so_far least same =
    let before = so_far.stand.least in
    record {
      items = so_far.items;
      reads = so_far.reads;
      stand = record { least = omega (arith, before, least); all = same ∙ so_far.stand.all };
    }

-- ---- the ends

between_on : (octets sunk out sunk_now out_now sunk_new : List ℕ) → Stand octets sunk out sunk_now out_now
    → Between sunk_now (sunk_now ++ out_now) sunk_new → Between sunk (sunk ++ (out ++ octets)) sunk_new
between_on octets sunk out sunk_now out_now sunk_new stand between =
    let before = stand.least in let least = between.least in
    record {
      least = omega (arith, before, least);
      prefix = between.prefix ∙ ap (λ xs. take (length sunk_new) xs) stand.all;
    }

pub output_failed : (left sunk out left_now sunk_now out_now sunk_new out_new : List ℕ) (count : ℕ)
    → Progress left sunk out left_now sunk_now out_now count → Between sunk_now (sunk_now ++ out_now) sunk_new
    → ReadsLines left sunk out sunk_new out_new OutputFault
output_failed left sunk out left_now sunk_now out_now sunk_new out_new count so_far between = record {
  left_new = left_now;
  count = count;
  items = so_far.items;
  reads = so_far.reads;
  ends = tt;
  stand = between_on (items_octets so_far.items) sunk out sunk_now out_now sunk_new so_far.stand between;
}

stands_at : (end : End) (number : ℕ) (left octets sunk out sunk_new out_new : List ℕ) → EndsNext number left end
    → Stand octets sunk out sunk_new out_new → StandAt end octets sunk out sunk_new out_new
stands_at Done number left octets sunk out sunk_new out_new ends stand = stand
stands_at (LineFault at fault) number left octets sunk out sunk_new out_new ends stand = stand
stands_at (LongLine at) number left octets sunk out sunk_new out_new ends stand = stand
stands_at (CutAnswer offset) number left octets sunk out sunk_new out_new ends stand = stand
stands_at (NoAnswer offset) number left octets sunk out sunk_new out_new ends stand = stand
stands_at (NoItem offset) number left octets sunk out sunk_new out_new ends stand = stand
stands_at SourceFault number left octets sunk out sunk_new out_new ends stand = stand
stands_at OutputFault number left octets sunk out sunk_new out_new ends stand = absurd ends
stands_at NoMemory number left octets sunk out sunk_new out_new ends stand = stand

ends_behind : (end : End) (count : ℕ) (left : List ℕ) → EndsNext (count + 1) left end → EndsBehind count left end
ends_behind Done count left ends = inl ends
ends_behind (LineFault at fault) count left ends = ends
ends_behind (LongLine at) count left ends = ends
ends_behind (CutAnswer offset) count left ends = ends
ends_behind (NoAnswer offset) count left ends = ends
ends_behind (NoItem offset) count left ends = ends
ends_behind SourceFault count left ends = tt
ends_behind OutputFault count left ends = tt
ends_behind NoMemory count left ends = tt

pub no_more : (left sunk out left_now sunk_now out_now out_new : List ℕ) (count : ℕ) (end : End)
    → Progress left sunk out left_now sunk_now out_now count → EndsNext (count + 1) left_now end → out_new ≡ out_now
    → ReadsLines left sunk out sunk_now out_new end
no_more left sunk out left_now sunk_now out_now out_new count end so_far ends same = rw same (record {
  left_new = left_now;
  count = count;
  items = so_far.items;
  reads = so_far.reads;
  ends = ends_behind end count left_now ends;
  stand = stands_at end (count + 1) left_now (items_octets so_far.items) sunk out sunk_now out_now ends so_far.stand;
})

pub all_read : (left sunk out left_now sunk_now out_now : List ℕ) (count : ℕ)
    → Progress left sunk out left_now sunk_now out_now count → count ≡ 2 ^ 64 - 2
    → ReadsLines left sunk out sunk_now out_now Done
all_read left sunk out left_now sunk_now out_now count so_far most = record {
  left_new = left_now;
  count = count;
  items = so_far.items;
  reads = so_far.reads;
  ends = inr most;
  stand = so_far.stand;
}

-- ---- the whole

stands : (end : End) (octets sunk out sunk_new out_new : List ℕ) → end ≢ OutputFault
    → StandAt end octets sunk out sunk_new out_new
    → Stand octets sunk out sunk_new out_new
stands Done octets sunk out sunk_new out_new not stand = stand
stands (LineFault at fault) octets sunk out sunk_new out_new not stand = stand
stands (LongLine at) octets sunk out sunk_new out_new not stand = stand
stands (CutAnswer offset) octets sunk out sunk_new out_new not stand = stand
stands (NoAnswer offset) octets sunk out sunk_new out_new not stand = stand
stands (NoItem offset) octets sunk out sunk_new out_new not stand = stand
stands SourceFault octets sunk out sunk_new out_new not stand = stand
stands OutputFault octets sunk out sunk_new out_new not stand = absurd (not refl)
stands NoMemory octets sunk out sunk_new out_new not stand = stand

was_put : (end : End) (octets old new : List ℕ) → end ≢ OutputFault → new ≡ old ++ octets → WasPut end octets old new
was_put Done octets old new not is = is
was_put (LineFault at fault) octets old new not is = is
was_put (LongLine at) octets old new not is = is
was_put (CutAnswer offset) octets old new not is = is
was_put (NoAnswer offset) octets old new not is = is
was_put (NoItem offset) octets old new not is = is
was_put SourceFault octets old new not is = is
was_put OutputFault octets old new not is = absurd (not refl)
was_put NoMemory octets old new not is = is

from_old : (old octets begun out new : List ℕ) → begun ≡ old ++ beginning
    → begun ++ ([] ++ octets) ≡ old ++ (beginning ++ octets)
from_old old octets begun out new is = ap (λ xs. xs ++ octets) is ∙ append_assoc old beginning octets

between_old : (old octets begun new : List ℕ) → begun ≡ old ++ beginning → Between begun (begun ++ ([] ++ octets)) new
    → Between old (old ++ (beginning ++ octets)) new
between_old old octets begun new is between =
    let longer = length-append old beginning in let same = ap length is in let least = between.least in
    record {
      least = omega (arith, longer, same, least);
      prefix = between.prefix ∙ ap (λ xs. take (length new) xs) (from_old old octets begun [] new is);
    }

pub puts_records : (left old begun sunk out new : List ℕ) (end result : End) → begun ≡ old ++ beginning
    → ReadsLines left begun [] sunk out end → PutsRest end result sunk out new → PutsRecords left old new result
puts_records left old begun sunk out new end result is reads rest = elim rest [
  | inl (same, put, not) ↦
      let stand = stands end (items_octets reads.items) begun [] sunk out not reads.stand in
      rw same (record {
        left_new = reads.left_new;
        count = reads.count;
        items = reads.items;
        reads = reads.reads;
        ends = reads.ends;
        put_is = was_put end (beginning ++ items_octets reads.items) old new not
            (put ∙ stand.all ∙ from_old old (items_octets reads.items) begun [] new is);
      })
  | inr (inl (same, not, between)) ↦
      let stand = stands end (items_octets reads.items) begun [] sunk out not reads.stand in
      rw same (record {
        left_new = reads.left_new;
        count = reads.count;
        items = reads.items;
        reads = reads.reads;
        ends = tt;
        put_is = between_old old (items_octets reads.items) begun new is
            (between_on (items_octets reads.items) begun [] sunk out new stand between);
      })
  | inr (inr (same, failed, put)) ↦
      let stand = rw failed at reads.stand in
      rw (same, put) (record {
        left_new = reads.left_new;
        count = reads.count;
        items = reads.items;
        reads = reads.reads;
        ends = tt;
        put_is = between_old old (items_octets reads.items) begun sunk is stand;
      })
]

pub nothing_put : (left old new : List ℕ) → Between old (old ++ beginning) new → PutsRecords left old new OutputFault
nothing_put left old new between = record {
  left_new = left;
  count = 0;
  items = [];
  reads = record { lines = []; lines_are = refl; count_is = refl; said = refl };
  ends = tt;
  put_is = rw (append-nil beginning) between;
}
