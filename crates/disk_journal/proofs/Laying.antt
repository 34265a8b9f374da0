-- Banks that are laid behind an image, and the octet that makes them its banks.
use Rattle.std.proofs.Common.{◌≡◌, ℕ, ◌+◌, ◌-◌, ◌≤◌, ◌∷◌, ◌∙◌, List, [], length, take, drop, refl, sym, subst, inl, inr}
use Rattle.std.proofs.Common.{arith, Result, Ok, Err}
use Rattle.byteorder.specs.Endian.{big_bytes}
use Rattle.disk_journal.proofs.Overwriting.{zeroed}
use Rattle.disk_journal.proofs.Writing.{outside_below, row_of}
use Rattle.disk_journal.specs.Banks.{image_end}
use Rattle.disk_journal.specs.Changes.{HasNewBanks, IsErased, IsLaidBehind, IsZero, KeepsBelow, KeepsPast, KeepsOutside}
use Rattle.disk_journal.specs.Changes.{Migrates, WritesIn, filled, with_gate, with_migration}
use Rattle.disk_journal.specs.declared.layout.Layout.{Layout}
use Rattle.disk_journal.specs.declared.layout.TheConstants.{BANKS_AT, CONTENT_AT, GENERATION_AT, GENERATION_LENGTH}
use Rattle.disk_journal.specs.declared.layout.TheConstants.{MIGRATED_AT, OPEN}
use Rattle.disk_journal.proofs.Moments.{image_then, image_weaker}
use Rattle.disk_journal.proofs.Ranges.{overwritten_but, overwritten_length, overwritten_one, overwritten_stretch}
use Rattle.disk_journal.proofs.Ranges.{same_stretch}
use Rattle.disk_journal.specs.Moments.{AllBut, EachImage}
use Rattle.disk_journal.specs.Zeros.{zeros}
use Rattle.sdls_outside.specs.Disk.{IsSynced}
use Rattle.sdls_outside.specs.Moments.{Trace}
use Rattle.sdls_outside.specs.Site.{Syncs, overwritten}
use Rattle.std.specs.Result.{OnOk}

-- what stands in the new banks, and past them
pub record BanksIn (layout : Layout) (generation : ℕ) (content old new : List ℕ) : Type 0 where
  pub banks : HasNewBanks layout generation content new
  pub past : KeepsPast (image_end layout) old new

pub new_banks : (layout : Layout) (generation : ℕ) (content old mid new : List ℕ)
    → length content ≡ layout.content_length
    → IsZero layout.banks (image_end layout) mid → image_end layout ≤ length mid → KeepsPast (image_end layout) old mid
    → new ≡ filled layout.banks generation content (with_gate OPEN layout.banks mid)
    → BanksIn layout generation content old new
new_banks layout generation content old mid new sized empty long past written =
    let at = layout.banks in
    let number = big_bytes GENERATION_LENGTH generation in
    let eight : length number ≡ 8 = refl in
    let one : length (OPEN ∷ []) ≡ 1 = refl in
    let gated = with_gate OPEN at mid in
    let fronted = overwritten gated (at + GENERATION_AT) number in
    let made = overwritten fronted (at + CONTENT_AT) content in
    let gated_long : length gated ≡ length mid = overwritten_length mid at (OPEN ∷ []) (omega arith) in
    let fronted_long : length fronted ≡ length gated = overwritten_length gated (at + GENERATION_AT) number
    (omega arith) in
    let made_long : length made ≡ length fronted = overwritten_length fronted (at + CONTENT_AT) content (omega arith) in
    let first : AllBut at 1 mid gated = overwritten_but mid at (OPEN ∷ []) (omega arith) in
    let second : AllBut (at + GENERATION_AT) (length number) gated fronted = overwritten_but gated
    (at + GENERATION_AT) number (omega arith) in
    let third : AllBut (at + CONTENT_AT) (length content) fronted made = overwritten_but fronted
    (at + CONTENT_AT) content (omega arith) in
    let banks : HasNewBanks layout generation content made = record {
      long = omega arith;
      gate = third.outside at (inl (omega arith)) ∙ second.outside at (inl (omega arith)) ∙ overwritten_one mid at OPEN
          (omega arith);
      has_generation = same_stretch (at + CONTENT_AT) (length content)
          (at + GENERATION_AT) GENERATION_LENGTH fronted made third (inl (omega arith))
          ∙ subst (λ (n : ℕ). take n (drop (at + GENERATION_AT) fronted) ≡ number) eight
          (overwritten_stretch gated (at + GENERATION_AT) number (omega arith));
      has_content = subst (λ (n : ℕ). take n (drop (at + CONTENT_AT) made) ≡ content) sized
          (overwritten_stretch fronted (at + CONTENT_AT) content (omega arith));
      zero = λ i low high.
          third.outside i (inr (omega arith)) ∙ second.outside i (inr (omega arith)) ∙ first.outside i
          (inr (omega arith))
          ∙ empty i (omega arith) high;
    } in
    subst (BanksIn layout generation content old) (sym written) (record {
      banks = banks;
      past = record {
        length_is = made_long ∙ fronted_long ∙ gated_long ∙ past.length_is;
        past = λ i high.
            third.outside i (inr (omega arith)) ∙ second.outside i (inr (omega arith)) ∙ first.outside i
            (inr (omega arith)) ∙ past.past i high;
      };
    })

-- once zeros are written from the first bank on, and over them a bank
pub banks_laid : (layout : Layout) (generation end : ℕ) (content old mid new : List ℕ)
    → length content ≡ layout.content_length
    → end ≡ image_end layout → layout.banks ≤ length old → mid ≡ overwritten old layout.banks
    (zeros (end - layout.banks))
    → new ≡ filled layout.banks generation content (with_gate OPEN layout.banks mid)
    → BanksIn layout generation content old new
banks_laid layout generation end content old mid new sized ends within blank written =
    let same : layout.banks + (end - layout.banks) ≡ image_end layout = omega (arith, ends) in
    let left = zeroed old mid layout.banks (end - layout.banks) within blank in
    new_banks layout generation content old mid new sized
    (subst (λ (to : ℕ). IsZero layout.banks to mid) same left.zero)
    (subst (λ (to : ℕ). to ≤ length mid) same left.long)
    (subst (λ (to : ℕ). KeepsPast to old mid) same left.past) written

-- once they are on the disk
pub laid_ok : {T E : Type 0} → (result : Result T E) (layout : Layout) (generation count : ℕ) (content : List ℕ)
    (old mid new : Trace)
    → IsSynced old.now → layout.banks ≤ length old.now.image → WritesIn layout.banks count old mid
    → BanksIn layout generation content old.now.image mid.now.image → Syncs result mid new
    → OnOk result (IsSynced new.now × IsLaidBehind layout generation content old.now.image new.now.image)
laid_ok (Ok value) layout generation count content old mid new synced within writes banks syncs =
    let row = row_of layout.banks count old mid synced within writes in (
      syncs.is_synced,
      subst (IsLaidBehind layout generation content old.now.image) (sym syncs.image) (record {
        keeps = outside_below layout.banks count old.now.image mid.now.image
            (subst (λ (octets : List ℕ). KeepsOutside layout.banks count octets mid.now.image)
            (row.synced ∙ synced.1) row.pending.keeps);
        past = banks.past;
        banks = banks.banks;
      }),
    )
laid_ok (Err error) layout generation count content old mid new synced within writes banks syncs = tt

-- moments of writes behind an image
pub behind_each : (at count : ℕ) (old new : Trace) → IsSynced old.now → EachImage old new
    (KeepsOutside at count old.now.synced)
    → EachImage old new (KeepsBelow at old.now.image)
behind_each at count old new synced each =
    image_weaker old new (KeepsOutside at count old.now.synced) (KeepsBelow at old.now.image)
    (λ image keeps. outside_below at count old.now.image image
    (subst (λ (octets : List ℕ). KeepsOutside at count octets image) synced.1 keeps)) each

-- each moment
abbrev Moves : Layout → ℕ → List ℕ → Trace → List ℕ → Type 0
Moves layout generation content old image = Migrates layout generation content old.now.image image

pub laid_moments : (layout : Layout) (generation : ℕ) (content : List ℕ) (old new : Trace)
    → EachImage old new (KeepsBelow layout.banks old.now.image) → EachImage old new
    (Migrates layout generation content old.now.image)
laid_moments layout generation content old new each =
    image_weaker old new (KeepsBelow layout.banks old.now.image) (Moves layout generation content old)
    (λ image keeps. inl keeps) each

pub octet_moments : (layout : Layout) (generation : ℕ) (content : List ℕ) (old mid new : Trace)
    → EachImage old mid (KeepsBelow layout.banks old.now.image)
    → IsLaidBehind layout generation content old.now.image mid.now.image
    → EachImage mid new (AllBut MIGRATED_AT 1 mid.now.image) → EachImage old new
    (Migrates layout generation content old.now.image)
octet_moments layout generation content old mid new first laid second =
    image_then old mid new (Moves layout generation content old) (laid_moments layout generation content old mid first)
    (image_weaker mid new (AllBut MIGRATED_AT 1 mid.now.image) (Moves layout generation content old)
    (λ image change. inr (mid.now.image, laid, inl change)) second)

pub erased_moments : (layout : Layout) (generation : ℕ) (content : List ℕ) (old mid last new : Trace)
    → EachImage old last (Migrates layout generation content old.now.image)
    → IsLaidBehind layout generation content old.now.image mid.now.image
    → last.now.image ≡ with_migration mid.now.image → EachImage last new
    (AllBut BANKS_AT (layout.banks - BANKS_AT) last.now.image)
    → EachImage old new (Migrates layout generation content old.now.image)
erased_moments layout generation content old mid last new first laid written second =
    let size = layout.banks - BANKS_AT in
    image_then old last new (Moves layout generation content old) first
    (image_weaker last new (AllBut BANKS_AT size last.now.image) (Moves layout generation content old)
    (λ image change. inr (
      mid.now.image,
      laid,
      inr (subst (λ (octets : List ℕ). AllBut BANKS_AT size octets image) written change),
    )) second)

-- and the end
pub migrated_ok : {T E : Type 0} → (result : Result T E) (layout : Layout) (generation : ℕ) (content old : List ℕ)
    (mid last new : Trace)
    → IsLaidBehind layout generation content old mid.now.image → last.now.image ≡ with_migration mid.now.image
    → OnOk result (IsSynced new.now × IsErased BANKS_AT (layout.banks - BANKS_AT) last.now.image new.now.image)
    → OnOk result (IsSynced new.now × ((laid : List ℕ) × IsLaidBehind layout generation content old laid
    × IsErased BANKS_AT (layout.banks - BANKS_AT) (with_migration laid) new.now.image))
migrated_ok (Ok value) layout generation content old mid last new laid written erased = (
  erased.0,
  (
    mid.now.image,
    laid,
    subst (λ (octets : List ℕ). IsErased BANKS_AT (layout.banks - BANKS_AT) octets new.now.image) written erased.1,
  ),
)
migrated_ok (Err error) layout generation content old mid last new laid written erased = tt
