-- Whether octets are the content of a state under a plan: for `refused_exactly`.
use Rattle.std.proofs.Common.{ℕ, List, length, map, sym, subst}
use Rattle.sdls_base.specs.Version.{most_associations_of, most_keys_of}
use Rattle.sdls_base.specs.declared.version.Version.{Version}
use Rattle.unit_plan.specs.PlanLines.{PlanLines}
use Rattle.unit_state.specs.declared.state.State.{State}
use Rattle.unit_image.specs.Content.{content_of}
use Rattle.unit_image.specs.ContentReading.{FitsVersion, HasRows, IsContent, IsTypedKey, IsTypedSa}
use Rattle.unit_image.specs.Shows.{IsContentUnder}
use Rattle.law_image.proofs.Deciding.{Decided, decided_all, decided_and, decided_as, decided_le, decided_three}
use Rattle.law_image.proofs.ContentRead.{read_beside, read_left, state_at, state_back}
use Rattle.law_image.proofs.DecidingLists.{decided_octets}
use Rattle.law_image.proofs.DecidingRules.{decided_association, decided_key, decided_rules}

-- whether the rows of a state fit the version
fits : (version : Version) (state : State) → Decided (FitsVersion version state)
fits version state = decided_as
    (decided_and (decided_le (length state.keys) (most_keys_of version))
    (decided_le (length state.associations) (most_associations_of version)))
    (λ both. record { keys = both.0; associations = both.1 }) (λ is. (is.keys, is.associations))

has_rows : (version : Version) (state : State) → Decided (HasRows version state)
has_rows version state = decided_as
    (decided_three (decided_all IsTypedKey decided_key state.keys)
    (decided_all IsTypedSa decided_association state.associations) (fits version state))
    (λ all. record { keys = all.0; associations = all.1; fits = all.2 }) (λ is. (is.keys, is.associations, is.fits))

-- whether they are that of the state that is read off them
decided_read : (version : Version) (channels device content : List ℕ)
    → Decided (IsContent version (state_at version channels device content) content)
decided_read version channels device content =
    let read = state_at version channels device content in
    decided_as (decided_three (decided_rules read) (has_rows version read)
    (decided_octets content (content_of version read)))
    (λ all. record { rules = all.0; rows = all.1; left = read_left version channels device content; spelled = all.2 })
    (λ is. (is.rules, is.rows, is.spelled))

pub decided_content : (plan : PlanLines) (version : Version) (content : List ℕ)
    → Decided ((state : State) × IsContentUnder plan version content state)
decided_content plan version content =
    let channels : List ℕ = map (λ row. row.0) plan.channels in
    let beside = read_beside version channels plan.device content in
    decided_as (decided_read version channels plan.device content)
    (λ is. (
      state_at version channels plan.device content,
      record { channels = beside.0; device = beside.1; spelled = is },
    ))
    (λ (state, under).
    subst (λ (s : State). IsContent version s content)
    (sym (state_back version channels plan.device content state under.spelled under.channels under.device))
    under.spelled)
