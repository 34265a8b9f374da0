-- What an answer of a life says that protects a frame, and what one that accepts a frame.
use Rattle.std.proofs.Common.{◌≡◌, ◌≢◌, ℕ, Bool, true, false, cond, nat_eq, List, [], ◌∷◌, Option, Some, None, Ok, Err}
use Rattle.std.proofs.Common.{is_some, inl, inr, refl, sym, ap, ◌∙◌, subst, arith}
use Rattle.std.specs.Prelude.{MatchOption, IsSomeAnd, length}
use Rattle.std.specs.Option.{option_map, option_and_then}
use Rattle.std.proofs.lemmas.Bool.{false≢true}
use Rattle.std.proofs.lemmas.Option.{none-some, same_Some}
use Rattle.sdls_base.specs.FirstFailing.{first_failing}
use Rattle.sdls_base.specs.declared.states.SaState.{SaState}
use Rattle.sdls_base.specs.declared.layout.FrameFault.{FrameFault}
use Rattle.sdls_base.specs.declared.link.Link.{Link}
use Rattle.sa_book.specs.declared.sa_book.SaRow.{SaRow}
use Rattle.frame_shield.specs.declared.binding.Binding.{Binding}
use Rattle.frame_shield.specs.declared.protecting_frames.ShieldFault.TheVariants as faults
use Rattle.frame_shield.specs.AnyFrame.{first_fault}
use Rattle.frame_shield.specs.Opens.{Opens}
use Rattle.frame_shield.specs.Protects.{Protects}
use Rattle.frame_checks.specs.declared.opening_frames.OpenReply.{OpenReply}
use Rattle.frame_checks.specs.declared.opening_frames.OpenReply.TheVariants as opens
use Rattle.frame_checks.specs.Binding.{binding_of}
use Rattle.frame_checks.specs.Header.{HasRoom}
use Rattle.frame_checks.specs.OpeningFrames.{IsOpenReply, IsReplyOn, IsReplyUnder, IsOpenedUnder, IsJudged, IsToldOr}
use Rattle.frame_checks.specs.OpeningFrames.{association_in, association_checks, frame_checks}
use Rattle.frame_checks.specs.ProtectingFrames as protecting
use Rattle.frame_checks.proofs.Replies.{early}
use Rattle.frame_checks.proofs.Rows.{named_keeps, key_octets}
use Rattle.key_book.specs.declared.key_row.KeyRow.{KeyRow}
use Rattle.sdls_base.specs.Bounds.{IsKeyLength}
use Rattle.record_io.specs.declared.answers.Answer.{Answer}
use Rattle.record_io.specs.declared.reader.RecordKind.{RecordKind}
use Rattle.record_io.specs.declared.reader.RecordKind.TheVariants.{Protect, Open, Command, Monitor}
use Rattle.record_io.specs.declared.item_cursor.Record.{Record}
use Rattle.unit_plan.specs.PlanLines.{PlanLines, link_of}
use Rattle.unit_state.specs.declared.state.State.{State}
use Rattle.unit_state.specs.State.{KeepsRules, key_row}
use Rattle.run_promise.specs.Answers.{Told, told_by, opened_told, unbound_told, IsCodeOf}
use Rattle.run_promise.specs.Fits.{protect_reply, Course, FitsKind, Fits, IsProtected, state_in, state_before}
use Rattle.law_history.proofs.Codes.{accepting_opening, fits_code}
use Rattle.run_promise.specs.Life.{Given, AcceptsOctets}
use Rattle.law_links.specs.Carried.{IsReceivedUnder, IsSentUnder}

-- ---- protected

-- the frame was protected under the binding that the checks found
pub record IsSent (given : Given) : Type 0 where
  pub binding : Binding
  pub under : IsSentUnder given binding
  pub held : given.deed.answer.key ≡ binding.key
  pub protects : Protects binding given.deed.answer.number given.deed.task.octets given.deed.answer.body

module _ (near : ℕ → ℕ → Type 0) (course : Course) (task : Record) (answer : Answer) (code : answer.code ≡ 0) where
  other_code : (told : Told) → told_by answer ≡ told → nat_eq told.code 0 ≡ false → ⊥
  other_code told is other =
      false≢true (sym other ∙ ap (λ (t : Told). nat_eq t.code 0) (sym is) ∙ ap (λ (n : ℕ). nat_eq n 0) code)

  not_unbound : (reply : protecting.Answer) → unbound_told reply ≡ Some (told_by answer) → ⊥
  not_unbound (Ok None) e = other_code _ (sym (same_Some _ (told_by answer) e)) refl
  not_unbound (Ok (Some binding)) e = none-some (told_by answer) e
  not_unbound (Err (faults.Layout n)) e = other_code _ (sym (same_Some _ (told_by answer) e)) refl
  not_unbound (Err faults.Channel) e = other_code _ (sym (same_Some _ (told_by answer) e)) refl
  not_unbound (Err faults.State) e = other_code _ (sym (same_Some _ (told_by answer) e)) refl

  protected_by : (kind : RecordKind) → FitsKind near course task answer kind → IsCodeOf kind answer.code
      → IsProtected near course task answer
  protected_by Protect (inl h) of = h
  protected_by Protect (inr (inl h)) of =
      absurd (not_unbound (protect_reply course.begin.plan (state_in course answer.position) task.link task.octets)
      h.told)
  protected_by Protect (inr (inr (inl h))) of = absurd (other_code _ h.told refl)
  protected_by Protect (inr (inr (inr (inl h)))) of = absurd (other_code _ h.tells.told refl)
  protected_by Protect (inr (inr (inr (inr (inl h))))) of = absurd (other_code _ h.tells.told refl)
  protected_by Protect (inr (inr (inr (inr (inr h))))) of = absurd (other_code _ h.told refl)
  protected_by Open h of = absurd (false≢true (subst (IsCodeOf Open) code of))
  protected_by Command h of = absurd (false≢true (subst (IsCodeOf Command) code of))
  protected_by Monitor h of = absurd (false≢true (subst (IsCodeOf Monitor) code of))

pub sent : (near : ℕ → ℕ → Type 0) (given : Given) → Fits near given.course given.deed.task given.deed.answer
    → given.deed.answer.code ≡ 0 → IsSent given
sent near given fits code =
    let is = protected_by near given.course given.deed.task given.deed.answer code given.deed.task.kind fits
    (fits_code near given.course given.deed.task given.deed.answer fits) in
    record { binding = is.is.binding; under = is.is.bound; held = is.is.key_is; protects = is.protects }

-- ---- accepted

-- the frame was opened under the binding of the association that it names
pub record IsGot (given : Given) : Type 0 where
  pub binding : Binding
  pub under : IsReceivedUnder given binding
  pub held : given.deed.answer.key ≡ binding.key
  pub opens : Opens binding given.deed.task.octets given.deed.answer.number given.deed.answer.body
  pub octets : AcceptsOctets given given.deed.answer.key binding.schedule given.deed.answer.number

-- what an opening found that accepts a frame
pub record IsFound (plan : PlanLines) (state : State) (link : ℕ) (frame : List ℕ) (key number : ℕ)
    (field : List ℕ) : Type 0 where
  pub line : Link
  pub has_line : link_of plan.links link ≡ Some line
  pub room : List ℕ
  pub has_room : HasRoom line.layout frame room
  pub row : SaRow
  pub named : association_in state room ≡ Some row
  pub binding : Binding
  pub bound : binding_of plan state line row ≡ Some binding
  pub held : key ≡ binding.key
  pub opens : Opens binding frame number field

-- what is found where the reply accepts
abbrev Finds : PlanLines → State → ℕ → List ℕ → List ℕ → OpenReply → Type 0
Finds plan state link frame field (opens.Accepted spi key number from to) =
    IsFound plan state link frame key number field
Finds plan state link frame field opens.Clear = Unit {0}
Finds plan state link frame field (opens.Layout n) = Unit {0}
Finds plan state link frame field opens.Channel = Unit {0}
Finds plan state link frame field opens.Spi = Unit {0}
Finds plan state link frame field opens.Direction = Unit {0}
Finds plan state link frame field (opens.State s) = Unit {0}
Finds plan state link frame field opens.Coverage = Unit {0}
Finds plan state link frame field opens.Mac = Unit {0}
Finds plan state link frame field (opens.Number key number high width) = Unit {0}

told_cases : (o : Option OpenReply) (reply : OpenReply) (later goal : Type 0) → IsToldOr o reply later
    → (o ≡ Some reply → goal) → (o ≡ None → later → goal) → goal
told_cases None reply later goal told first after = after refl told
told_cases (Some early) reply later goal told first after = first (ap Some (sym told))

-- a check that was passed does not hold
passed : (a : Bool) (told : OpenReply) (later : Option OpenReply) → cond a (Some told) later ≡ None → a ≡ false
passed true told later e = absurd (none-some told (sym e))
passed false told later e = refl

no_fault : (o : Option FrameFault) → is_some o ≡ false → o ≡ None
no_fault None e = refl
no_fault (Some fault) e = absurd (let k : true ≡ false = e in cc)

-- of the replies that the checks of an association tell
middle_by : (P : OpenReply → Type 0) (a b c : Bool) (s : SaState) (reply : OpenReply) → P opens.Direction
    → P (opens.State s) → P opens.Coverage
    → first_failing ((a, opens.Direction) ∷ (b, opens.State s) ∷ (c, opens.Coverage) ∷ []) ≡ Some reply → P reply
middle_by P true b c s reply direction other coverage is = subst P (same_Some _ _ is) direction
middle_by P false true c s reply direction other coverage is = subst P (same_Some _ _ is) other
middle_by P false false true s reply direction other coverage is = subst P (same_Some _ _ is) coverage
middle_by P false false false s reply direction other coverage is = absurd (cc)

module _ (plan : PlanLines) (state : State) (link : ℕ) (frame field : List ℕ) where
  judged_finds : (line : Link) (room : List ℕ) (row : SaRow) (b : Binding) (reply : OpenReply)
      → link_of plan.links link ≡ Some line
      → HasRoom line.layout frame room → association_in state room ≡ Some row → binding_of plan state line row ≡ Some b
      → IsJudged row b frame reply field → Finds plan state link frame field reply
  judged_finds line room row b (opens.Accepted spi key number from to) has_line has_room named bound is = record {
    line = line;
    has_line = has_line;
    room = room;
    has_room = has_room;
    row = row;
    named = named;
    binding = b;
    bound = bound;
    held = is.held;
    opens = is.opens;
  }
  judged_finds line room row b opens.Clear has_line has_room named bound is = tt
  judged_finds line room row b (opens.Layout n) has_line has_room named bound is = tt
  judged_finds line room row b opens.Channel has_line has_room named bound is = tt
  judged_finds line room row b opens.Spi has_line has_room named bound is = tt
  judged_finds line room row b opens.Direction has_line has_room named bound is = tt
  judged_finds line room row b (opens.State s) has_line has_room named bound is = tt
  judged_finds line room row b opens.Coverage has_line has_room named bound is = tt
  judged_finds line room row b opens.Mac has_line has_room named bound is = tt
  judged_finds line room row b (opens.Number key number high width) has_line has_room named bound is = tt

  on_finds : (line : Link) (reply : OpenReply) → link_of plan.links link ≡ Some line
      → IsReplyOn plan state link frame reply field line
      → Finds plan state link frame field reply
  on_finds line reply has_line is =
      told_cases (first_failing (frame_checks plan state link line frame is.room)) reply
      (IsReplyUnder plan state link line frame is.room reply field)
      (Finds plan state link frame field reply) is.told
      (λ e. early (Finds plan state link frame field) plan state link line frame is.room reply (λ n. tt) tt tt tt e)
      (λ none under.
      let fault : first_fault line.layout frame ≡ None = no_fault (first_fault line.layout frame) (passed _ _ _ none) in
      told_cases (first_failing (association_checks under.row under.channel)) reply
      (IsOpenedUnder plan state line under.row frame reply field)
      (Finds plan state link frame field reply) under.told
      (λ e. middle_by (Finds plan state link frame field) _ _ _ under.row.state reply tt tt tt e)
      (λ ok opened. judged_finds line is.room under.row opened.binding reply has_line (is.has_room fault) under.named
      opened.bound opened.judged))

  by_line : (o : Option Link) (reply : OpenReply) → link_of plan.links link ≡ o
      → MatchOption o (reply ≡ opens.Layout 0) (IsReplyOn plan state link frame reply field)
      → Finds plan state link frame field reply
  by_line None reply here is = subst (Finds plan state link frame field) (sym is) tt
  by_line (Some line) reply here is = on_finds line reply here is

  pub reply_finds : (reply : OpenReply) → IsOpenReply plan state link frame reply field
      → Finds plan state link frame field reply
  reply_finds reply is = by_line (link_of plan.links link) reply refl is

module _ (plan : PlanLines) (state : State) (link : ℕ) (frame : List ℕ) (answer : Answer) (code : answer.code ≡ 1) where
  other : (told : Told) → told_by answer ≡ told → nat_eq told.code 1 ≡ false → ⊥
  other told is else =
      false≢true (sym else ∙ ap (λ (t : Told). nat_eq t.code 1) (sym is) ∙ ap (λ (n : ℕ). nat_eq n 1) code)

  found_by : (reply : OpenReply) (field : List ℕ) → told_by answer ≡ opened_told reply field
      → Finds plan state link frame field reply
      → IsFound plan state link frame answer.key answer.number answer.body
  found_by (opens.Accepted spi key number from to) field told is = record {
    line = is.line;
    has_line = is.has_line;
    room = is.room;
    has_room = is.has_room;
    row = is.row;
    named = is.named;
    binding = is.binding;
    bound = is.bound;
    held = ap (λ (t : Told). t.key) told ∙ is.held;
    opens = subst (λ (n : ℕ). Opens is.binding frame n answer.body) (ap (λ (t : Told). t.number) (sym told))
        (subst (Opens is.binding frame number) (ap (λ (t : Told). t.body) (sym told)) is.opens);
  }
  found_by opens.Clear field told is = absurd (other _ told refl)
  found_by (opens.Layout n) field told is = absurd (other _ told refl)
  found_by opens.Channel field told is = absurd (other _ told refl)
  found_by opens.Spi field told is = absurd (other _ told refl)
  found_by opens.Direction field told is = absurd (other _ told refl)
  found_by (opens.State s) field told is = absurd (other _ told refl)
  found_by opens.Coverage field told is = absurd (other _ told refl)
  found_by opens.Mac field told is = absurd (other _ told refl)
  found_by (opens.Number key number high width) field told is = absurd (other _ told refl)

abbrev made : PlanLines → Link → SaRow → ℕ → KeyRow → Binding
made plan line row key held = record {
  spi = row.spi;
  suite = row.suite;
  key = key;
  schedule = held.bytes;
  device = plan.device;
  link = line;
}

-- the key of a binding has its octets in the state
held_by : (plan : PlanLines) (state : State) (line : Link) (row : SaRow) (b : Binding)
    → binding_of plan state line row ≡ Some b
    → (held : KeyRow) × (row.key ≡ Some b.key) × (key_row state b.key ≡ Some held) × (b.schedule ≡ held.bytes)
held_by plan state line row b is = by_key row.key refl is
  where
    by_row : (key : ℕ) (o : Option KeyRow) → row.key ≡ Some key → key_row state key ≡ o
        → option_map (made plan line row key) o ≡ Some b
        → (held : KeyRow) × (row.key ≡ Some b.key) × (key_row state b.key ≡ Some held) × (b.schedule ≡ held.bytes)
    by_row key None own here e = absurd (none-some b e)
    by_row key (Some held) own here e =
        let same = same_Some _ b e in
        let keys : key ≡ b.key = ap (λ (x : Binding). x.key) same in
        (held, own ∙ ap Some keys, ap (key_row state) (sym keys) ∙ here, sym (ap (λ (x : Binding). x.schedule) same))

    by_key : (o : Option ℕ) → row.key ≡ o
        → option_and_then (λ (key : ℕ). option_map (made plan line row key) (key_row state key)) o ≡ Some b
        → (held : KeyRow) × (row.key ≡ Some b.key) × (key_row state b.key ≡ Some held) × (b.schedule ≡ held.bytes)
    by_key None own e = absurd (none-some b e)
    by_key (Some key) own e = by_row key (key_row state key) own refl e

-- the octets of a key have a length that is not 0
not_empty : (octets : List ℕ) → IsKeyLength (length octets) → octets ≢ []
not_empty [] is e = absurd (elim is [ inl a ↦ omega arith | inr b ↦ omega arith ])
not_empty (x ∷ xs) is e = absurd (cc)

accepts_octets : (given : Given) (line : Link) (room : List ℕ) (row : SaRow) (b : Binding)
    → KeepsRules (state_before given.course given.deed.answer)
    → given.deed.answer.code ≡ 1 → given.deed.answer.key ≡ b.key
    → association_in (state_before given.course given.deed.answer) room ≡ Some row
    → binding_of given.course.begin.plan (state_before given.course given.deed.answer) line row ≡ Some b
    → AcceptsOctets given given.deed.answer.key b.schedule given.deed.answer.number
accepts_octets given line room row b rules code key named bound =
    let state : State = state_before given.course given.deed.answer in
    let (held, own, there, bytes) =
    held_by given.course.begin.plan (state_before given.course given.deed.answer) line row b bound in
    let keeps = named_keeps (state_before given.course given.deed.answer) room row rules named in
    let long = key_octets (state_before given.course given.deed.answer) row b.key held rules keeps.key own there in
    record {
      accepts_number = (code, refl, refl);
      some = λ e. not_empty held.bytes long (sym bytes ∙ e);
      has =
          subst (λ (o : Option KeyRow). IsSomeAnd o (λ (held : KeyRow). held.bytes ≡ b.schedule))
          (sym (ap (key_row (state_before given.course given.deed.answer)) key ∙ there)) (sym bytes);
    }

pub got : (near : ℕ → ℕ → Type 0) (given : Given) → KeepsRules (state_before given.course given.deed.answer)
    → Fits near given.course given.deed.task given.deed.answer → given.deed.answer.code ≡ 1 → IsGot given
got near given rules fits code =
    let is =
    accepting_opening near given.course given.deed.task given.deed.answer given.deed.answer.key
    given.deed.answer.number fits (code, refl, refl) in
    let state : State = state_before given.course given.deed.answer in
    let found : IsFound given.course.begin.plan (state_before given.course given.deed.answer) given.deed.task.link
    given.deed.task.octets given.deed.answer.key
    given.deed.answer.number given.deed.answer.body =
    found_by given.course.begin.plan (state_before given.course given.deed.answer) given.deed.task.link
    given.deed.task.octets
    given.deed.answer code is.reply is.field is.told
    (reply_finds given.course.begin.plan (state_before given.course given.deed.answer) given.deed.task.link
    given.deed.task.octets is.field is.reply is.replies) in
    record {
      binding = found.binding;
      under = record {
        line = found.line;
        has_line = found.has_line;
        room = found.room;
        has_room = found.has_room;
        row = found.row;
        named = found.named;
        bound = found.bound;
      };
      held = found.held;
      opens = found.opens;
      octets =
          accepts_octets given found.line found.room found.row found.binding rules code found.held found.named
          found.bound;
    }
