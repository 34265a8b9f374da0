-- The image that a plan begins with shows its state, at rest and with no records: for `beginning_shows`.
use Rattle.std.proofs.Common.{ℕ, List, refl, sym, inr}
use Rattle.sdls_base.specs.declared.version.Version.TheVariants.{Two}
use Rattle.unit_plan.specs.PlanLines.{PlanLines}
use Rattle.unit_state.specs.declared.state.State.{State}
use Rattle.unit_state.specs.Restart.{restarted}
use Rattle.unit_state.specs.State.{KeepsRules}
use Rattle.unit_state.proofs.Starts.{initial_rules}
use Rattle.unit_state.proofs.StateLaws.{restarted_twice}
use Rattle.unit_plan.proofs.BareRoom.{bare_plan_is_short, bare_plan_reads}
use Rattle.unit_plan.specs.Bare.{bare_of, without_rows}
use Rattle.unit_image.specs.Content.{content_of}
use Rattle.unit_image.specs.ContentReading.{HasRows, IsContent}
use Rattle.unit_image.proofs.Contents.{content_sized}
use Rattle.disk_journal.specs.declared.layout.HeaderForm.TheVariants.{New}
use Rattle.disk_journal.specs.Image.{IsAtRest}
use Rattle.disk_journal.specs.Forms.{Holds}
use Rattle.disk_journal.specs.Initial.{BeginsAtRest}
use Rattle.disk_journal.proofs.InitialImage.{begins}
use Rattle.unit_image.specs.Shows.{Shows}
use Rattle.unit_image.specs.Beginning.{SaysPlan, held_of_plan, image_of_plan}
use Rattle.law_image.proofs.Planned.{plan_rules}
use Rattle.law_image.proofs.Contents.{has_rows, is_content}
use Rattle.law_image.proofs.PlanIds.{plan_ids}
use Rattle.law_image.proofs.StateIds.{IsOfPlan, first_of_plan}

module _ (text : List ℕ) (plan : PlanLines) (first : State) (said : SaysPlan text plan first) where
  rules : KeepsRules first
  rules =
      let lines = plan_rules text plan said.read in
      initial_rules plan first lines.keys lines.associations said.made

  of_plan : IsOfPlan plan first
  of_plan = first_of_plan plan first (plan_ids text plan said.read) said.made

  pub first_rows : HasRows Two first
  first_rows = has_rows first rules of_plan.named

  pub first_content : IsContent Two (restarted first) (content_of Two first)
  first_content = is_content Two first rules first_rows

  pub begins_at_rest : BeginsAtRest New (bare_of text) plan.slots (content_of Two first)
  begins_at_rest =
      let slots = (plan_rules text plan said.read).slots in
      begins New (bare_of text) (content_of Two first) plan.slots (inr refl) (bare_plan_is_short text plan said.read)
      slots.0 slots.1
      (content_sized Two first first_rows)

  pub beginning_shows : Shows (image_of_plan text plan first) (restarted first)
  beginning_shows = record {
    what = held_of_plan text plan first;
    holds = begins_at_rest.holds;
    says = record {
      first = restarted first;
      begins = record {
        plan = without_rows plan;
        said = record { read = bare_plan_reads text plan said.read; no_keys = refl; no_associations = refl };
        same_slots = refl;
        content = record { channels = of_plan.channels; device = of_plan.device; spelled = first_content };
      };
      last = restarted first;
      led = refl;
      left = sym (restarted_twice first);
    };
  }

  pub beginning_rests : IsAtRest (image_of_plan text plan first)
  beginning_rests = begins_at_rest.settled.closed.rests

  pub beginning_holds : Holds (image_of_plan text plan first) (held_of_plan text plan first)
  beginning_holds = begins_at_rest.holds
