-- Profile: what the lines of a plan say, each kind in the order of the lines.
use Rattle.std.specs.Prelude.{ℕ, ◌==◌, Bool, List, [], ◌∷◌, Option}
use Rattle.std.specs.List.{list_any, find}
use Rattle.std.specs.Option.{option_map}
use Rattle.sdls_base.specs.declared.link.Link.{Link}
use Rattle.unit_plan.specs.declared.link_line.ChannelPlace.{ChannelPlace}
use Rattle.unit_plan.specs.declared.plan.PlanKey.{PlanKey}
use Rattle.unit_plan.specs.declared.plan.PlanSa.{PlanSa}

pub record PlanLines : Type 0 where
  -- how many of the first five lines there are
  pub heads : ℕ
  pub device : List ℕ
  pub slots : ℕ
  pub block : ℕ
  pub accept : ℕ
  -- with their numbers
  pub links : List (ℕ × Link)
  pub channels : List (ℕ × ChannelPlace)
  pub keys : List PlanKey
  pub associations : List PlanSa

-- before their lines, the numbers are the least
abbrev pub no_lines : PlanLines
no_lines = record {
  heads = 0;
  device = 0 ∷ 0 ∷ 0 ∷ 0 ∷ [];
  slots = 16;
  block = 1;
  accept = 1;
  links = [];
  channels = [];
  keys = [];
  associations = [];
}

-- what the line of a link says
abbrev pub link_of : List (ℕ × Link) → ℕ → Option Link
link_of links n = option_map (λ entry. entry.1) (find (λ entry. entry.0 == n) links)

-- the lines there are of a link, a key, an association
abbrev pub has_link : List (ℕ × Link) → ℕ → Bool
has_link links n = list_any (λ entry. entry.0 == n) links

abbrev pub has_key : List PlanKey → ℕ → Bool
has_key keys id = list_any (λ key. key.item.id == id) keys

abbrev pub has_association : List PlanSa → ℕ → Bool
has_association associations spi = list_any (λ known. known.sa.spi == spi) associations
