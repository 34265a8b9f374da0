-- The identifiers that the line of an association gives are of their types, for `beginning_shows`.
use Rattle.std.proofs.Common.{◌≡◌, ℕ, ◌≤◌, ◌^◌, Bool, true, false, Option, Some, None, refl, subst, arith}
use Rattle.std.proofs.Common.{if◌then◌else◌}
use Rattle.std.proofs.lemmas.Option.{none-some, same_Some}
use Rattle.sdls_base.specs.declared.TheConstants.{MOST_WINDOW}
use Rattle.book_record.specs.Record.{IsKey, IsSpi}
use Rattle.unit_plan.specs.AssociationLine.{are_channel_ids}
use Rattle.unit_plan.specs.LineForm.{association_of, bounded}
use Rattle.unit_plan.specs.Reading.{◌>>=◌}
use Rattle.unit_plan.specs.declared.plan.PlanSa.{PlanSa}
use Rattle.law_image.proofs.Said.{bounded_within}

-- a value behind another
behind : {A B : Type 0} (o : Option A) (f : A → Option B) (y : B) → (o >>= f) ≡ Some y
    → (x : A) × (o ≡ Some x) × (f x ≡ Some y)
behind (Some x) f y h = (x, refl, h)
behind None f y h = absurd (none-some y h)

chosen : {A : Type 0} (b : Bool) (o : Option A) (y : A) → (if b then o else None) ≡ Some y → o ≡ Some y
chosen true o y h = h
chosen false o y h = absurd (none-some y h)

pub key_within : (n : ℕ) → 1 ≤ n → n ≤ 65535 → IsKey n
key_within n low high = (omega arith, omega arith)

spi_within : (n : ℕ) → 1 ≤ n → n ≤ 65534 → IsSpi n
spi_within n low high = (omega arith, omega arith)

-- the association of a line, and its key
abbrev pub NamesRows : PlanSa → Type 0
NamesRows found = IsSpi found.sa.spi × IsKey found.key

pub association_named : (line : ℕ) (said : _) (found : PlanSa) → association_of line said ≡ Some found → NamesRows found
unfolding association_of
association_named line said found h =
    let spi = behind (bounded 1 65534 said.before.spi) _ found h in
    let key = behind (bounded 1 65535 said.before.key) _ found spi.2 in
    let first = behind (bounded 0 (2 ^ 48) said.before.number) _ found key.2 in
    let window = behind (bounded 1 MOST_WINDOW said.before.window) _ found first.2 in
    let whole = chosen (are_channel_ids said.channels) _ found window.2 in
    let spi_in = bounded_within 1 65534 said.before.spi spi.0 spi.1 in
    let key_in = bounded_within 1 65535 said.before.key key.0 key.1 in
    subst NamesRows (same_Some _ found whole) (spi_within spi.0 spi_in.0 spi_in.1, key_within key.0 key_in.0 key_in.1)
