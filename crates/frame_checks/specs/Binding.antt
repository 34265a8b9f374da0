-- What an association binds frames to (profile).
use Rattle.std.specs.Prelude.{Option}
use Rattle.std.specs.Option.{option_map, option_and_then}
use Rattle.sdls_base.specs.declared.link.Link.{Link}
use Rattle.sa_book.specs.declared.sa_book.SaRow.{SaRow}
use Rattle.unit_plan.specs.PlanLines.{PlanLines}
use Rattle.unit_state.specs.declared.state.State.{State}
use Rattle.unit_state.specs.State.{key_row}
use Rattle.frame_shield.specs.declared.binding.Binding.{Binding}

-- its index and suite, its key with the octets that the state has of it, the plan's device field, and the link
abbrev pub binding_of : PlanLines → State → Link → SaRow → Option Binding
binding_of plan state line row = option_and_then (λ key. option_map (λ held. record {
  spi = row.spi;
  suite = row.suite;
  key = key;
  schedule = held.bytes;
  device = plan.device;
  link = line;
}) (key_row state key)) row.key
