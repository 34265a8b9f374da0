-- The same records, and records that neither the site nor memory failed (profile).
use Rattle.std.specs.Prelude.{◌≡◌, ⊤, ◌<◌, List, [], ◌∷◌}
use Rattle.record_io.specs.declared.code.TheConstants.{SITE_FAULT}
use Rattle.run_promise.specs.Deed.{Deed}

-- the same records, one by one
abbrev pub SameTasks : List Deed → List Deed → Type 0
SameTasks [] [] = ⊤
SameTasks [] (other ∷ others) = ⊥
SameTasks (one ∷ ones) [] = ⊥
SameTasks (one ∷ ones) (other ∷ others) = (one.task ≡ other.task) × SameTasks ones others

-- for none of them the site failed or memory ran out
abbrev pub AreServed : List Deed → Type 0
AreServed [] = ⊤
AreServed (deed ∷ deeds) = (deed.answer.code < SITE_FAULT) × AreServed deeds
