use Rattle.std.proofs.Common.{rules, ◌≡◌, ◌≤◌, ◌∙◌, ℕ, List, length, subst, sym}
use Rattle.input_text.specs.Line.{IsLine}
use Rattle.text_streams.proofs.printing.line_of.Goals as goal

-- a bound on the length of octets that were moved
short : (octets held : List ℕ) (most : ℕ) → held ≡ octets → length octets ≤ most → length held ≤ most
short octets held most same few = subst (λ (o : List ℕ). length o ≤ most) (sym same) few

long : (octets held : List ℕ) (least : ℕ) → held ≡ octets → least ≤ length octets → least ≤ length held
long octets held least same some = subst (λ (o : List ℕ). least ≤ length o) (sym same) some

pub returns-in-Protect-clause-bounds : goal.returns-in-Protect-clause-bounds
unfolding IsLine
returns-in-Protect-clause-bounds c is = (
  (let laned = is.lane in rw c.in-Protect.is at laned),
  (let all = c.well_formed in search rules),
  record {
    each = rw c.as_slice.ensures at c.hold_octets.ensures;
    few = short c.args.recorded.octets c.new-octets.result 2048 (c.new-octets.ensures ∙ c.into_vec.ensures.octets)
        is.short;
  },
)

pub returns-in-Open-clause-bounds : goal.returns-in-Open-clause-bounds
unfolding IsLine
returns-in-Open-clause-bounds c is = (
  (let laned = is.lane in rw c.in-Open.is at laned),
  (let all = c.well_formed in search rules),
  record {
    each = rw c.as_slice.ensures at c.hold_octets.ensures;
    few = short c.args.recorded.octets c.new-octets.result 2048 (c.new-octets.ensures ∙ c.into_vec.ensures.octets)
        is.short;
  },
)

pub returns-in-Command-clause-bounds : goal.returns-in-Command-clause-bounds
unfolding IsLine
returns-in-Command-clause-bounds c is =
    c.command_line.ensures.bounds (
      (let laned = is.lane in rw c.in-Command.is at laned),
      record {
        each = rw c.as_slice.ensures at c.hold_octets.ensures;
        few = short c.args.recorded.octets c.new-octets.result 2048 (c.new-octets.ensures ∙ c.into_vec.ensures.octets)
            is.short;
      },
    )

pub returns-in-Monitor-clause-bounds : goal.returns-in-Monitor-clause-bounds
unfolding IsLine
returns-in-Monitor-clause-bounds c is =
    let laned = is.lane in
    let least = is.long in
    let same = c.new-octets.ensures ∙ c.into_vec.ensures.octets in (
      rw c.in-Monitor.is at laned,
      (let all = c.well_formed in search rules),
      c.asked_of.ensures.bounds (record {
        each = rw c.as_slice.ensures at c.hold_octets.ensures;
        some = long c.args.recorded.octets c.new-octets.result 3 same (rw c.in-Monitor.is at least);
        few = short c.args.recorded.octets c.new-octets.result 2048 same is.short;
      }),
    )
