-- What the checks of an opening tell, and what a step changes, is one.
use Rattle.std.proofs.Common.{◌≡◌, ℕ, Bool, true, false, cond, List, [], ◌∷◌, Option, Some, None, is_some, refl, sym}
use Rattle.std.proofs.Common.{ap, ◌∙◌, subst}
use Rattle.std.specs.Prelude.{MatchOption}
use Rattle.std.specs.List.{AllByRecursion}
use Rattle.std.proofs.lemmas.Option.{none-some, same_Some}
use Rattle.sdls_base.specs.FirstFailing.{Check, first_failing}
use Rattle.sdls_base.specs.KeyId.{end_of}
use Rattle.sdls_base.specs.declared.layout.FrameFault.{FrameFault}
use Rattle.sdls_base.specs.declared.link.Link.{Link}
use Rattle.replay_window.specs.Window.{IsFresh}
use Rattle.sa_book.specs.declared.sa_book.SaRow.{SaRow}
use Rattle.unit_plan.specs.PlanLines.{PlanLines, link_of}
use Rattle.unit_state.specs.declared.state.State.{State}
use Rattle.frame_shield.specs.declared.binding.Binding.{Binding}
use Rattle.frame_shield.specs.AnyFrame.{first_fault, room_of}
use Rattle.frame_shield.specs.Opens.{Opens}
use Rattle.frame_shield.proofs.OpenFacts.{one_frame}
use Rattle.frame_checks.specs.declared.opening_frames.OpenReply.{OpenReply}
use Rattle.frame_checks.specs.declared.opening_frames.OpenReply.TheVariants as opens
use Rattle.frame_checks.specs.OpeningFrames.{IsOpenReply, IsReplyOn, IsReplyUnder, IsOpenedUnder, IsJudged, IsToldOr}
use Rattle.frame_checks.specs.OpeningFrames.{frame_checks, association_checks, number_of_fault}
use Rattle.run_promise.specs.History.{frame_change}
use Rattle.run_promise.specs.Answers.{opened_told}

-- ---- openings

-- a frame opens to at most one number and data field
abbrev pub OpensOnce : Type 0
OpensOnce = (b : Binding) (frame : List ℕ) (n m : ℕ) (field other : List ℕ) → Opens b frame n field
    → Opens b frame m other → (n ≡ m) × (field ≡ other)

-- two replies, with their data fields, tell the same and change the same
pub record TellsOne (plan : PlanLines) (state : State) (reply : OpenReply) (field : List ℕ) (other : OpenReply)
    (again : List ℕ) : Type 0 where
  pub told : opened_told reply field ≡ opened_told other again
  pub change : frame_change plan state reply ≡ frame_change plan state other

-- a reply whose data field is not told
abbrev IsPlain : OpenReply → Type 0
IsPlain reply = (field again : List ℕ) → opened_told reply field ≡ opened_told reply again

same_plain : (plan : PlanLines) (state : State) (reply other told : OpenReply) (field again : List ℕ) → reply ≡ told
    → other ≡ told → IsPlain told
    → TellsOne plan state reply field other again
same_plain plan state reply other told field again is also plain = record {
  told = ap (λ (r : OpenReply). opened_told r field) is
      ∙ plain field again ∙ ap (λ (r : OpenReply). opened_told r again) (sym also);
  change = ap (frame_change plan state) (is ∙ sym also);
}

told_by_check : {A : Type 0} (P : A → Type 0) (b : Bool) (own told : A) (later : Option A) → P own
    → (later ≡ Some told → P told)
    → cond b (Some own) later ≡ Some told → P told
told_by_check {A} P true own told later here there is = subst P (same_Some own told is) here
told_by_check {A} P false own told later here there is = there is

-- what holds of all that checks may tell holds of what the first that fails tells
each_told : {A : Type 0} (P : A → Type 0) (checks : List (Check A)) (told : A)
    → AllByRecursion (λ check. P check.1) checks
    → first_failing checks ≡ Some told → P told
each_told {A} P [] told all is = absurd (none-some told is)
each_told {A} P (check ∷ checks) told all is =
    told_by_check P check.0 check.1 told (first_failing checks) all.0 (λ later. each_told P checks told all.1 later) is

told_some : (o : Option OpenReply) (reply told : OpenReply) (later : Type 0) → o ≡ Some told → IsToldOr o reply later
    → reply ≡ told
told_some o reply told later is says =
    subst (λ (p : Option OpenReply). IsToldOr p reply later → reply ≡ told) (sym is) (λ same. same) says

told_none : (o : Option OpenReply) (reply : OpenReply) (later : Type 0) → o ≡ None → IsToldOr o reply later → later
told_none o reply later is says =
    subst (λ (p : Option OpenReply). IsToldOr p reply later → later) (sym is) (λ same. same) says

-- what the checks behind the first tell
abbrev rest_of : List (Check OpenReply) → Option OpenReply
rest_of [] = None
rest_of (check ∷ checks) = first_failing checks

module _ (once : OpensOnce) (plan : PlanLines) (state : State) where
  accepted_one : (row : SaRow) (b : Binding) (frame : List ℕ) (spi key number from to spi' key' number' from' to' : ℕ)
      (field again : List ℕ)
      → IsJudged row b frame (opens.Accepted spi key number from to) field
      → IsJudged row b frame (opens.Accepted spi' key' number' from' to') again
      → TellsOne plan state (opens.Accepted spi key number from to) field (opens.Accepted spi' key' number' from' to')
      again
  accepted_one row b frame spi key number from to spi' key' number' from' to' field again is also =
      let one = once b frame number number' field again is.opens also.opens in
      let keys : key ≡ key' = is.held ∙ sym also.held in
      let spis : spi ≡ spi' = is.index ∙ sym also.index in
      record {
        told = ap (λ (k : ℕ). opened_told (opens.Accepted spi k number from to) field) keys
            ∙ ap (λ (n : ℕ). opened_told (opens.Accepted spi key' n from to) field) one.0
            ∙ ap (λ (f : List ℕ). opened_told (opens.Accepted spi key' number' from to) f) one.1;
        change = ap (λ (s : ℕ). frame_change plan state (opens.Accepted s key number from to)) spis
            ∙ ap (λ (k : ℕ). frame_change plan state (opens.Accepted spi' k number from to)) keys
            ∙ ap (λ (n : ℕ). frame_change plan state (opens.Accepted spi' key' n from to)) one.0;
      }

  stale_one : (row : SaRow) (b : Binding) (frame : List ℕ) (key number high width key' number' high' width' : ℕ)
      (field again : List ℕ)
      → IsJudged row b frame (opens.Number key number high width) field
      → IsJudged row b frame (opens.Number key' number' high' width') again
      → TellsOne plan state (opens.Number key number high width) field (opens.Number key' number' high' width') again
  stale_one row b frame key number high width key' number' high' width' field again is also =
      let one = once b frame number number' is.field also.field is.opens also.opens in
      record {
        told = ap (λ (k : ℕ). opened_told (opens.Number k number high width) field) (is.held ∙ sym also.held)
            ∙ ap (λ (n : ℕ). opened_told (opens.Number key' n high width) field) one.0
            ∙ ap (λ (h : ℕ). opened_told (opens.Number key' number' h width) field) (is.high_is ∙ sym also.high_is)
            ∙ ap (λ (w : ℕ). opened_told (opens.Number key' number' high' w) field) (is.width_is ∙ sym also.width_is);
        change = refl;
      }

  -- a number is fresh under the key of the binding, or not
  not_both : (row : SaRow) (b : Binding) (frame : List ℕ) (spi key number from to key' number' high width : ℕ)
      (field again : List ℕ)
      → IsJudged row b frame (opens.Accepted spi key number from to) field
      → IsJudged row b frame (opens.Number key' number' high width) again → ⊥
  not_both row b frame spi key number from to key' number' high width field again is also =
      let one = once b frame number number' field also.field is.opens also.opens in
      also.stale (subst (λ (n : ℕ). IsFresh row.window n (end_of key')) one.0
      (subst (λ (k : ℕ). IsFresh row.window number (end_of k)) (is.held ∙ sym also.held) is.fresh))

  judged_one : (row : SaRow) (b : Binding) (frame : List ℕ) (reply : OpenReply) (field : List ℕ) (other : OpenReply)
      (again : List ℕ)
      → IsJudged row b frame reply field
      → IsJudged row b frame other again → TellsOne plan state reply field other again
  judged_one row b frame (opens.Accepted spi key number from to) field (opens.Accepted spi' key' number' from' to')
      again is also = accepted_one row b frame spi key number from to spi' key' number' from' to' field again is also
  judged_one row b frame (opens.Accepted spi key number from to) field opens.Clear again is also = absurd also
  judged_one row b frame (opens.Accepted spi key number from to) field (opens.Layout fault') again is also = absurd also
  judged_one row b frame (opens.Accepted spi key number from to) field opens.Channel again is also = absurd also
  judged_one row b frame (opens.Accepted spi key number from to) field opens.Spi again is also = absurd also
  judged_one row b frame (opens.Accepted spi key number from to) field opens.Direction again is also = absurd also
  judged_one row b frame (opens.Accepted spi key number from to) field (opens.State held') again is also = absurd also
  judged_one row b frame (opens.Accepted spi key number from to) field opens.Coverage again is also = absurd also
  judged_one row b frame (opens.Accepted spi key number from to) field opens.Mac again is also =
      absurd (also number field is.opens)
  judged_one row b frame (opens.Accepted spi key number from to) field (opens.Number key' number' high' width') again is
      also = absurd (not_both row b frame spi key number from to key' number' high' width' field again is also)
  judged_one row b frame opens.Clear field other again is also = absurd is
  judged_one row b frame (opens.Layout fault) field other again is also = absurd is
  judged_one row b frame opens.Channel field other again is also = absurd is
  judged_one row b frame opens.Spi field other again is also = absurd is
  judged_one row b frame opens.Direction field other again is also = absurd is
  judged_one row b frame (opens.State held) field other again is also = absurd is
  judged_one row b frame opens.Coverage field other again is also = absurd is
  judged_one row b frame opens.Mac field (opens.Accepted spi' key' number' from' to') again is also =
      absurd (is number' again also.opens)
  judged_one row b frame opens.Mac field opens.Clear again is also = absurd also
  judged_one row b frame opens.Mac field (opens.Layout fault') again is also = absurd also
  judged_one row b frame opens.Mac field opens.Channel again is also = absurd also
  judged_one row b frame opens.Mac field opens.Spi again is also = absurd also
  judged_one row b frame opens.Mac field opens.Direction again is also = absurd also
  judged_one row b frame opens.Mac field (opens.State held') again is also = absurd also
  judged_one row b frame opens.Mac field opens.Coverage again is also = absurd also
  judged_one row b frame opens.Mac field opens.Mac again is also = record { told = refl; change = refl }
  judged_one row b frame opens.Mac field (opens.Number key' number' high' width') again is also =
      absurd (is number' also.field also.opens)
  judged_one row b frame (opens.Number key number high width) field (opens.Accepted spi' key' number' from' to')
      again is also = absurd (not_both row b frame spi' key' number' from' to' key number high width again field also
      is)
  judged_one row b frame (opens.Number key number high width) field opens.Clear again is also = absurd also
  judged_one row b frame (opens.Number key number high width) field (opens.Layout fault') again is also = absurd also
  judged_one row b frame (opens.Number key number high width) field opens.Channel again is also = absurd also
  judged_one row b frame (opens.Number key number high width) field opens.Spi again is also = absurd also
  judged_one row b frame (opens.Number key number high width) field opens.Direction again is also = absurd also
  judged_one row b frame (opens.Number key number high width) field (opens.State held') again is also = absurd also
  judged_one row b frame (opens.Number key number high width) field opens.Coverage again is also = absurd also
  judged_one row b frame (opens.Number key number high width) field opens.Mac again is also =
      absurd (also number is.field is.opens)
  judged_one row b frame (opens.Number key number high width) field (opens.Number key' number' high' width') again is
      also = stale_one row b frame key number high width key' number' high' width' field again is also

  -- the association's checks, and the last two
  under_one : (line : Link) (row : SaRow) (channel : ℕ) (frame : List ℕ) (reply : OpenReply) (field : List ℕ)
      (other : OpenReply) (again : List ℕ) (o : Option OpenReply)
      → first_failing (association_checks row channel) ≡ o
      → IsToldOr (first_failing (association_checks row channel)) reply
      (IsOpenedUnder plan state line row frame reply field)
      → IsToldOr (first_failing (association_checks row channel)) other
      (IsOpenedUnder plan state line row frame other again)
      → TellsOne plan state reply field other again
  under_one line row channel frame reply field other again (Some told) o is also =
      same_plain plan state reply other told field again (told_some _ reply told _ o is)
      (told_some _ other told _ o also)
      (each_told IsPlain (association_checks row channel) told ((λ f g. refl), ((λ f g. refl), ((λ f g. refl), tt))) o)
  under_one line row channel frame reply field other again None o is also =
      let one = told_none _ reply _ o is in
      let two = told_none _ other _ o also in
      let same : one.binding ≡ two.binding = same_Some _ _ (sym one.bound ∙ two.bound) in
      judged_one row two.binding frame reply field other again
      (subst (λ (b : Binding). IsJudged row b frame reply field) same one.judged) two.judged

  reply_under_one : (link : ℕ) (line : Link) (frame room : List ℕ) (reply : OpenReply) (field : List ℕ)
      (other : OpenReply) (again : List ℕ)
      → IsReplyUnder plan state link line frame room reply field
      → IsReplyUnder plan state link line frame room other again
      → TellsOne plan state reply field other again
  reply_under_one link line frame room reply field other again is also =
      let channels : also.channel ≡ is.channel = same_Some _ _ (sym also.on ∙ is.on) in
      let rows : also.row ≡ is.row = same_Some _ _ (sym also.named ∙ is.named) in
      under_one line is.row is.channel frame reply field other
      again (first_failing (association_checks is.row is.channel)) refl is.told
      (subst (λ (row : SaRow). IsToldOr (first_failing (association_checks row is.channel)) other
      (IsOpenedUnder plan state line row frame other again)) rows
      (subst (λ (channel : ℕ). IsToldOr (first_failing (association_checks also.row channel)) other
      (IsOpenedUnder plan state line also.row frame other again)) channels also.told))

  -- the frame's checks
  in_room_one : (link : ℕ) (line : Link) (frame room : List ℕ) (reply : OpenReply) (field : List ℕ) (other : OpenReply)
      (again : List ℕ) (o : Option OpenReply)
      → first_failing (frame_checks plan state link line frame room) ≡ o
      → IsToldOr (first_failing (frame_checks plan state link line frame room)) reply
      (IsReplyUnder plan state link line frame room reply field)
      → IsToldOr (first_failing (frame_checks plan state link line frame room)) other
      (IsReplyUnder plan state link line frame room other again)
      → TellsOne plan state reply field other again
  in_room_one link line frame room reply field other again (Some told) o is also =
      same_plain plan state reply other told field again (told_some _ reply told _ o is)
      (told_some _ other told _ o also)
      (each_told IsPlain (frame_checks plan state link line frame room) told
      ((λ f g. refl), ((λ f g. refl), ((λ f g. refl), ((λ f g. refl), ((λ f g. refl), tt))))) o)
  in_room_one link line frame room reply field other again None o is also =
      reply_under_one link line frame room reply field other again (told_none _ reply _ o is)
      (told_none _ other _ o also)

  -- a frame that has not its layout
  faulty_told : (link : ℕ) (line : Link) (frame room : List ℕ) (fault : FrameFault) → first_fault line.layout frame
      ≡ Some fault
      → first_failing (frame_checks plan state link line frame room)
      ≡ Some (opens.Layout (number_of_fault (first_fault line.layout frame)))
  faulty_told link line frame room fault is =
      ap (λ (b : Bool). cond b (Some (opens.Layout (number_of_fault (first_fault line.layout frame))))
      (rest_of (frame_checks plan state link line frame room)))
      (ap (λ (o : Option FrameFault). is_some o) is)

  on_line_one : (link : ℕ) (frame : List ℕ) (line : Link) (reply : OpenReply) (field : List ℕ) (other : OpenReply)
      (again : List ℕ) (o : Option FrameFault)
      → first_fault line.layout frame ≡ o → IsReplyOn plan state link frame reply field line
      → IsReplyOn plan state link frame other again line
      → TellsOne plan state reply field other again
  on_line_one link frame line reply field other again (Some fault) o is also =
      same_plain plan state reply other (opens.Layout (number_of_fault (first_fault line.layout frame))) field again
      (told_some _ reply _ _ (faulty_told link line frame is.room fault o) is.told)
      (told_some _ other _ _ (faulty_told link line frame also.room fault o) also.told) (λ f g. refl)
  on_line_one link frame line reply field other again None o is also =
      let here = is.has_room o in
      let there = also.has_room o in
      let rooms : also.room ≡ is.room =
      there.room_is ∙ ap room_of (one_frame line.layout there.parts here.parts frame there.framed here.framed)
      ∙ sym here.room_is in
      in_room_one link line frame is.room reply field other
      again (first_failing (frame_checks plan state link line frame is.room)) refl is.told
      (subst (λ (room : List ℕ). IsToldOr (first_failing (frame_checks plan state link line frame room)) other
      (IsReplyUnder plan state link line frame room other again))
      rooms also.told)

  by_line_one : (link : ℕ) (frame : List ℕ) (reply : OpenReply) (field : List ℕ) (other : OpenReply) (again : List ℕ)
      (o : Option Link)
      → MatchOption o (reply ≡ opens.Layout 0) (IsReplyOn plan state link frame reply field)
      → MatchOption o (other ≡ opens.Layout 0) (IsReplyOn plan state link frame other again)
      → TellsOne plan state reply field other again
  by_line_one link frame reply field other again None is also =
      same_plain plan state reply other (opens.Layout 0) field again is also (λ f g. refl)
  by_line_one link frame reply field other again (Some line) is also =
      on_line_one link frame line reply field other again (first_fault line.layout frame) refl is also

  pub opening_one : (link : ℕ) (frame : List ℕ) (reply : OpenReply) (field : List ℕ) (other : OpenReply)
      (again : List ℕ)
      → IsOpenReply plan state link frame reply field
      → IsOpenReply plan state link frame other again → TellsOne plan state reply field other again
  opening_one link frame reply field other again is also =
      by_line_one link frame reply field other again (link_of plan.links link) is also
