use Rattle.std.proofs.Common.{◌≡◌, ◌+◌, ◌≤◌, ◌++◌, length, take, drop}
use Rattle.std.specs.List.{flat_map}
use Rattle.std.specs.Prelude.{filter}
use Rattle.unit_plan.specs.Bare.{is_bare, ended, bare_of}
use Rattle.unit_plan.proofs.bare.write_bare_plan.Given as goal

abbrev pub invariant-loop-line : goal.invariant-loop-line
invariant-loop-line l = record {
  written : take l.end l.out ++ flat_map ended (filter is_bare l.line-iterator) ≡ bare_of l.text;
  rest : drop l.end l.out ≡ drop l.end l.fn.out;
  room : l.end + length (flat_map ended l.line-iterator) ≤ length l.text + 1;
}
