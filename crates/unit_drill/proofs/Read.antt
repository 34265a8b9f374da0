-- The texts of the plans are read, and what the plans of the images say.
use Rattle.std.proofs.Common.{◌≡◌, Ok, refl}
use Rattle.unit_plan.specs.Bare.{without_rows}
use Rattle.hex.specs.Hex.{decode_pairs}
use Rattle.unit_plan.specs.AssociationLine.{association_said, before_list}
use Rattle.unit_plan.specs.ChannelLine.{channel_said}
use Rattle.unit_plan.specs.Field.{capped_at, choice_at, decimal_at, optional_at}
use Rattle.unit_plan.specs.KeyLine.{before_octets, key_said}
use Rattle.unit_plan.specs.LineForm.{association_of}
use Rattle.unit_plan.specs.LinkLine.{frame_at, link_said, mask_at, tc_at}
use Rattle.unit_plan.specs.Number.{number_of}
use Rattle.unit_plan.specs.PlanLines.{PlanLines}
use Rattle.unit_plan.specs.Plan.{accept_taken, association_added, association_taken, block_taken, channel_taken}
use Rattle.unit_plan.specs.Plan.{device_taken, key_taken, link_taken, plan_of, slots_taken, taken, version_taken}
use Rattle.unit_plan.specs.Reading.{past}
use Rattle.unit_drill.specs.Plans.{sender_plan, receiver_plan, sender_lines, receiver_lines}

pub sender_read : plan_of sender_plan ≡ Ok sender_lines
unfolding sender_plan taken version_taken past device_taken decode_pairs slots_taken decimal_at number_of block_taken
    accept_taken link_taken link_said capped_at frame_at tc_at choice_at association_said before_list channel_said
    optional_at before_octets key_said association_of mask_at association_added association_taken channel_taken
    key_taken
sender_read = refl

pub receiver_read : plan_of receiver_plan ≡ Ok receiver_lines
unfolding receiver_plan taken version_taken past device_taken decode_pairs slots_taken decimal_at number_of block_taken
    accept_taken link_taken link_said capped_at frame_at tc_at choice_at association_said before_list channel_said
    optional_at before_octets key_said association_of mask_at association_added association_taken channel_taken
    key_taken
receiver_read = refl

-- the plans of the images have no keys and no associations
abbrev pub sender_bare : PlanLines
sender_bare = without_rows sender_lines

abbrev pub receiver_bare : PlanLines
receiver_bare = without_rows receiver_lines
