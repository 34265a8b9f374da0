-- Replies of the first check that fails, for the clauses of `open_frame`.
use Rattle.std.proofs.Common.{◌≡◌, ℕ, Bool, true, false, List, [], ◌∷◌, take, Option, Some, None, IsSomeAnd, sym, refl}
use Rattle.std.proofs.Common.{ap, ◌∙◌, subst}
use Rattle.std.specs.Prelude.{IsSome, MatchOption, not}
use Rattle.std.specs.Int.{w16, to_be_bytes}
use Rattle.std.proofs.lemmas.Option.{same_Some}
use Rattle.sdls_base.specs.FirstFailing.{first_failing}
use Rattle.sdls_base.specs.declared.link.Link.{Link}
use Rattle.sdls_base.specs.declared.states.Direction as directions
use Rattle.sdls_base.specs.declared.states.Direction.TheVariants.{Send, Receive}
use Rattle.sdls_base.specs.declared.states.SaState.{SaState}
use Rattle.sdls_base.specs.declared.states.SaState.TheVariants.{Unkeyed, Keyed, Operational}
use Rattle.sa_book.specs.declared.sa_book.SaRow.{SaRow}
use Rattle.sa_book.specs.SaRow.{MayAccept}
use Rattle.sa_book.specs.SaBook.{is_operational}
use Rattle.sa_book.specs.SaRefusal.{is_receiving}
use Rattle.unit_plan.specs.PlanLines.{PlanLines, link_of}
use Rattle.unit_state.specs.declared.state.State.{State}
use Rattle.unit_state.specs.State.{key_row, association_row}
use Rattle.frame_shield.specs.AnyFrame.{IsFrame}
use Rattle.frame_shield.specs.Opens.{CarriesIndex}
use Rattle.frame_shield.specs.declared.binding.Binding.{Binding}
use Rattle.frame_checks.specs.declared.opening_frames.OpenReply.{OpenReply}
use Rattle.frame_checks.specs.declared.opening_frames.OpenReply.TheVariants.{Accepted, Clear, Layout, Channel, Spi}
use Rattle.frame_checks.specs.declared.opening_frames.OpenReply.TheVariants.{Direction, State as NotOperational, Coverage}
use Rattle.frame_checks.specs.declared.opening_frames.OpenReply.TheVariants.{Mac, Number}
use Rattle.frame_checks.specs.Accepting.{MayBeAccepted, OnAccepted}
use Rattle.frame_checks.specs.Addressed.{IsAddressed}
use Rattle.frame_checks.specs.Binding.{binding_of}
use Rattle.frame_checks.specs.OpeningFrames.{IsOpenReply, IsAccepted, IsJudged, IsToldOr, IsOpenedUnder, IsReplyUnder}
use Rattle.frame_checks.specs.OpeningFrames.{IsReplyOn, association_checks, frame_checks}
use Rattle.frame_checks.proofs.Rows.{IsBoundTo, bound_to, named_row}

-- a reply is told by a check, or by what comes after the checks
pub told_first : (o : Option OpenReply) (reply : OpenReply) (later : Type 0) → o ≡ Some reply → IsToldOr o reply later
told_first o reply later e = subst (λ p. IsToldOr p reply later) (sym e) refl

pub told_later : (o : Option OpenReply) (reply : OpenReply) (later : Type 0) → o ≡ None → later → IsToldOr o reply later
told_later o reply later e is = subst (λ p. IsToldOr p reply later) (sym e) is

told_cases : (o : Option OpenReply) (reply : OpenReply) (later goal : Type 0) → IsToldOr o reply later
    → (o ≡ Some reply → goal) → (o ≡ None → later → goal) → goal
told_cases None reply later goal told first after = after refl told
told_cases (Some early) reply later goal told first after = first (ap Some (sym told))

-- on a link with a line, and without
pub on_line : (P : Link → Type 0) (Q : Type 0) (o : Option Link) (line : Link) → Some line ≡ o → P line
    → MatchOption o Q P
on_line P Q o line e is = subst (λ p. MatchOption p Q P) e is

pub without_line : (P : Link → Type 0) (Q : Type 0) (o : Option Link) → None ≡ o → Q → MatchOption o Q P
without_line P Q o e is = subst (λ p. MatchOption p Q P) e is

-- what holds of the replies that the checks of a frame tell
early_by : (P : OpenReply → Type 0) (a b c d e : Bool) (n : ℕ) (reply : OpenReply) → ((n : ℕ) → P (Layout n)) → P Clear
    → P Channel → P Spi
    → first_failing ((a, Layout n) ∷ (b, Clear) ∷ (c, Layout 1) ∷ (d, Channel) ∷ (e, Spi) ∷ []) ≡ Some reply → P reply
early_by P true b c d e n reply layout clear channel spi is = subst P (same_Some _ _ is) (layout n)
early_by P false true c d e n reply layout clear channel spi is = subst P (same_Some _ _ is) clear
early_by P false false true d e n reply layout clear channel spi is = subst P (same_Some _ _ is) (layout 1)
early_by P false false false true e n reply layout clear channel spi is = subst P (same_Some _ _ is) channel
early_by P false false false false true n reply layout clear channel spi is = subst P (same_Some _ _ is) spi
early_by P false false false false false n reply layout clear channel spi is = absurd (cc)

pub early : (P : OpenReply → Type 0) (plan : PlanLines) (state : State) (link : ℕ) (line : Link) (frame room : List ℕ)
    (reply : OpenReply)
    → ((n : ℕ) → P (Layout n)) → P Clear → P Channel → P Spi
    → first_failing (frame_checks plan state link line frame room) ≡ Some reply → P reply
early P plan state link line frame room reply layout clear channel spi is =
    early_by P _ _ _ _ _ _ reply layout clear channel spi is

-- of those that the checks of an association tell
middle_by : (P : OpenReply → Type 0) (a b c : Bool) (s : SaState) (reply : OpenReply) → P Direction
    → P (NotOperational s) → P Coverage
    → first_failing ((a, Direction) ∷ (b, NotOperational s) ∷ (c, Coverage) ∷ []) ≡ Some reply → P reply
middle_by P true b c s reply direction other coverage is = subst P (same_Some _ _ is) direction
middle_by P false true c s reply direction other coverage is = subst P (same_Some _ _ is) other
middle_by P false false true s reply direction other coverage is = subst P (same_Some _ _ is) coverage
middle_by P false false false s reply direction other coverage is = absurd (cc)

-- where they pass, it receives and is operational
receives_by : (d : directions.Direction) (b c : Bool) (s : SaState)
    → first_failing ((not (is_receiving d), Direction) ∷ (b, NotOperational s) ∷ (c, Coverage) ∷ []) ≡ None
    → d ≡ Receive
receives_by Send b c s e = absurd (cc)
receives_by Receive b c s e = refl

operational_by : (d : directions.Direction) (c : Bool) (s : SaState)
    → first_failing ((not (is_receiving d), Direction) ∷ (not (is_operational s), NotOperational s) ∷ (c, Coverage)
    ∷ []) ≡ None → s ≡ Operational
operational_by Send c s e = absurd (cc)
operational_by Receive c Unkeyed e = absurd (cc)
operational_by Receive c Keyed e = absurd (cc)
operational_by Receive c Operational e = refl

pub passed_receives : (row : SaRow) (channel : ℕ) → first_failing (association_checks row channel) ≡ None
    → row.direction ≡ Receive
passed_receives row channel e = receives_by row.direction _ _ row.state e

pub passed_operational : (row : SaRow) (channel : ℕ) → first_failing (association_checks row channel) ≡ None
    → row.state ≡ Operational
passed_operational row channel e = operational_by row.direction _ row.state e

-- what an accepted number is
accepted_may : (state : State) (line : Link) (row : SaRow) (b : Binding) (frame : List ℕ) (spi key number : ℕ)
    (field : List ℕ)
    → association_row state row.spi ≡ Some row → row.direction ≡ Receive → row.state ≡ Operational
    → IsBoundTo state line row b
    → IsAccepted row b frame spi key number field → MayBeAccepted state spi key number
accepted_may state line row b frame spi key number field there receives operational bound is =
    let own : row.key ≡ Some key = bound.key ∙ ap Some (sym is.held) in
    let may : MayAccept row number = record {
      operational = operational;
      receives = receives;
      key = key;
      holds = own;
      fresh = is.fresh;
    } in
    record {
      row = subst (λ o. IsSomeAnd o (λ (r : SaRow). MayAccept r number × (r.key ≡ Some key)))
          (sym (ap (association_row state) (is.index ∙ bound.index) ∙ there)) (may, own);
      held = subst (λ k. IsSome (key_row state k)) (sym is.held) bound.held;
      below_end = is.fresh.below_end;
    }

judged_may : (state : State) (line : Link) (row : SaRow) (b : Binding) (frame : List ℕ) (reply : OpenReply)
    (field : List ℕ)
    → association_row state row.spi ≡ Some row → row.direction ≡ Receive → row.state ≡ Operational
    → IsBoundTo state line row b
    → IsJudged row b frame reply field → OnAccepted reply (MayBeAccepted state)
judged_may state line row b frame (Accepted spi key number from to) field there receives operational bound is =
    accepted_may state line row b frame spi key number field there receives operational bound is
judged_may state line row b frame Clear field there receives operational bound is = tt
judged_may state line row b frame (Layout n) field there receives operational bound is = tt
judged_may state line row b frame Channel field there receives operational bound is = tt
judged_may state line row b frame Spi field there receives operational bound is = tt
judged_may state line row b frame Direction field there receives operational bound is = tt
judged_may state line row b frame (NotOperational s) field there receives operational bound is = tt
judged_may state line row b frame Coverage field there receives operational bound is = tt
judged_may state line row b frame Mac field there receives operational bound is = tt
judged_may state line row b frame (Number key number high width) field there receives operational bound is = tt

pub reply_may : (plan : PlanLines) (state : State) (link : ℕ) (line : Link) (frame : List ℕ) (reply : OpenReply)
    (field : List ℕ)
    → IsReplyOn plan state link frame reply field line → OnAccepted reply (MayBeAccepted state)
reply_may plan state link line frame reply field is =
    told_cases (first_failing (frame_checks plan state link line frame is.room)) reply
    (IsReplyUnder plan state link line frame is.room reply field) (OnAccepted reply (MayBeAccepted state)) is.told
    (λ e. early (λ r. OnAccepted r (MayBeAccepted state)) plan state link line frame is.room reply (λ n. tt) tt tt tt e)
    (λ none under. told_cases (first_failing (association_checks under.row under.channel)) reply
    (IsOpenedUnder plan state line under.row frame reply field) (OnAccepted reply (MayBeAccepted state)) under.told
    (λ e. middle_by (λ r. OnAccepted r (MayBeAccepted state)) _ _ _ under.row.state reply tt tt tt e)
    (λ passed opened. judged_may state line under.row opened.binding frame reply field
    (named_row state is.room under.row under.named)
    (passed_receives under.row under.channel passed) (passed_operational under.row under.channel passed)
    (bound_to plan state line under.row opened.binding opened.bound) opened.judged))

-- the frame carries the index of the binding of the association that it names
pub carries : (plan : PlanLines) (state : State) (link : ℕ) (line : Link) (frame : List ℕ) (channel : ℕ) (row : SaRow)
    (b : Binding)
    → IsAddressed plan state link line frame channel row → binding_of plan state line row ≡ Some b
    → CarriesIndex b frame
carries plan state link line frame channel row b is e =
    let bound = bound_to plan state line row b e in
    let has = is.has_room in
    record {
      parts = has.parts;
      framed = subst (λ (l : Link). IsFrame l.layout has.parts frame) (sym bound.link) has.framed;
      index = λ enough. ap (λ (l : List ℕ). take 2 l) (sym has.room_is) ∙ sym is.index
          ∙ ap (to_be_bytes w16) (sym bound.index);
    }

by_line : (plan : PlanLines) (state : State) (link : ℕ) (o : Option Link) (frame : List ℕ) (reply : OpenReply)
    (field : List ℕ)
    → MatchOption o (reply ≡ Layout 0) (IsReplyOn plan state link frame reply field)
    → OnAccepted reply (MayBeAccepted state)
by_line plan state link None frame reply field is = subst (λ r. OnAccepted r (MayBeAccepted state)) (sym is) tt
by_line plan state link (Some line) frame reply field is = reply_may plan state link line frame reply field is

pub any_reply_may : (plan : PlanLines) (state : State) (link : ℕ) (frame : List ℕ) (reply : OpenReply) (field : List ℕ)
    → IsOpenReply plan state link frame reply field → OnAccepted reply (MayBeAccepted state)
any_reply_may plan state link frame reply field is =
    by_line plan state link (link_of plan.links link) frame reply field is
