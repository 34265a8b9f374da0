-- Profile: what holds of every plan.
use Rattle.std.specs.Prelude.{◌^◌, ◌≤◌, length, All}
use Rattle.sdls_base.specs.Bounds.{AreChannels, IsWidth, IsKeyLength}
use Rattle.sdls_base.specs.Link.{IsLink}
use Rattle.unit_plan.specs.declared.plan.PlanSa.{PlanSa}
use Rattle.unit_plan.specs.PlanLines.{PlanLines}

pub record IsAssociation (found : PlanSa) : Type 0 where
  pub number : found.number ≤ 2 ^ 48
  pub window : IsWidth found.sa.window
  pub channels : AreChannels found.sa.channels
  pub identifiers : All (λ n. n ≤ 63) found.sa.channels

pub record IsPlan (plan : PlanLines) : Type 0 where
  pub slots : (16 ≤ plan.slots) × (plan.slots ≤ 65536)
  pub block : (1 ≤ plan.block) × (plan.block ≤ 65536)
  pub accept : (1 ≤ plan.accept) × (plan.accept ≤ 65536)
  pub links : All (λ entry. IsLink entry.1) plan.links
  pub keys : All (λ key. IsKeyLength (length key.item.bytes)) plan.keys
  pub associations : All IsAssociation plan.associations
