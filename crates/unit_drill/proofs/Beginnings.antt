-- What the units of a drill begin with.
use Rattle.std.proofs.Common.{◌≡◌, ℕ, List, Ok, sym, ◌∙◌, ap, subst}
use Rattle.unit_plan.specs.Bare.{without_rows}
use Rattle.unit_plan.proofs.BareRoom.{bare_plan_reads}
use Rattle.unit_image.specs.Beginning.{image_of_plan}
use Rattle.unit_image.specs.Image.{Held, held}
use Rattle.unit_image.specs.Shows.{Shows}
use Rattle.sdls_base.specs.declared.states.Direction.TheVariants.{Receive, Send}
use Rattle.counter_table.specs.declared.view.View.{View}
use Rattle.law_image.proofs.Beginning.{beginning_holds, beginning_shows}
use Rattle.law_image.proofs.Planned.{plan_rules, same_ok}
use Rattle.law_image.proofs.Ruled.{shown_rules}
use Rattle.unit_plan.specs.Plan.{plan_of}
use Rattle.unit_plan.specs.PlanLines.{PlanLines}
use Rattle.unit_plan.specs.PlanRules.{IsPlan}
use Rattle.unit_state.specs.declared.state.State.{State}
use Rattle.unit_state.specs.Initial.{initial}
use Rattle.unit_state.specs.Restart.{restarted}
use Rattle.unit_state.specs.State.{KeepsRules}
use Rattle.run_promise.specs.Call.{Begin}
use Rattle.unit_drill.specs.Chunks.{UnitIsOpened}
use Rattle.unit_drill.specs.Plans.{receiver_lines, receiver_plan, sender_lines, sender_plan}
use Rattle.unit_drill.proofs.Judging.{receiving}
use Rattle.unit_drill.proofs.Lanes.{begun, each, first_is}
use Rattle.unit_drill.proofs.Read.{receiver_bare, receiver_read, sender_bare, sender_read}
use Rattle.unit_drill.proofs.Reserving.{sending}
use Rattle.unit_drill.proofs.Starting.{receiver_starts, sender_starts}

pub record Starts (begin : Begin) (lines : PlanLines) (state : State) : Type 0 where
  pub plan : begin.plan ≡ lines
  pub start : begin.start ≡ state
  pub plan_is : IsPlan begin.plan
  pub rules : KeepsRules begin.start

-- an image shows one state, as a law of images says
abbrev pub ShowsOne : Type 0
ShowsOne = (image : List ℕ) (one other : State) → Shows image one → Shows image other → one ≡ other

module _ (once : ShowsOne) (text : List ℕ) (lines : PlanLines) (state : State) (read : plan_of text ≡ Ok lines)
    (starts : (first : State) → initial lines ≡ Ok first → restarted first ≡ state) (begin : Begin) (v : View)
    (opened : UnitIsOpened text begin v) where
  abbrev image : List ℕ
  image = image_of_plan text opened.lines opened.first

  same_lines : opened.lines ≡ lines
  same_lines = same_ok opened.lines lines (sym opened.said.read ∙ read)

  -- the plan of the image is the bare one
  plan_there : plan_of (held image).plan ≡ Ok (without_rows opened.lines)
  plan_there = ap (λ (what : Held). plan_of what.plan) (beginning_holds text opened.lines opened.first opened.said).is
      ∙ bare_plan_reads text opened.lines opened.said.read

  made : initial lines ≡ Ok opened.first
  made = subst (λ (said : PlanLines). initial said ≡ Ok opened.first) same_lines opened.said.made

  pub begins_so : Starts begin (without_rows lines) state
  begins_so = record {
    plan = same_ok begin.plan (without_rows opened.lines) (sym opened.says ∙ plan_there) ∙ ap without_rows same_lines;
    start = once image begin.start (restarted opened.first) opened.shows
        (beginning_shows text opened.lines opened.first opened.said) ∙ starts opened.first made;
    plan_is = plan_rules (held image).plan begin.plan opened.says;
    rules = shown_rules image begin.start opened.shows;
  }

pub sender_begins : ShowsOne → (begin : Begin) (v : View) → UnitIsOpened sender_plan begin v
    → Starts begin sender_bare (sending (each 1))
sender_begins once begin v opened =
    begins_so once sender_plan sender_lines (sending (each 1)) sender_read
    (λ first made. sender_starts first made ∙ first_is 1 Send) begin v opened

pub receiver_begins : ShowsOne → (begin : Begin) (v : View) → UnitIsOpened receiver_plan begin v
    → Starts begin receiver_bare (receiving begun (each 0))
receiver_begins once begin v opened =
    begins_so once receiver_plan receiver_lines (receiving begun (each 0)) receiver_read
    (λ first made. receiver_starts first made
    ∙ first_is 2 Receive) begin v opened
