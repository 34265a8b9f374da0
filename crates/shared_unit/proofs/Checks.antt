-- The checks for which the plan is enough, and those in a state.
use Rattle.std.proofs.Common.{◌≡◌, ℕ, Bool, true, false, List, [], ◌∷◌, Option, Some, None, is_none, is_some, IsSome}
use Rattle.std.proofs.Common.{unwrap_or, IsSomeAnd, Result, Ok, Err, refl, sym, ap, subst, ◌∙◌}
use Rattle.std.specs.Option.{option_map, option_and_then, option_map_or}
use Rattle.sdls_base.specs.FirstFailing.{first_failing}
use Rattle.sdls_base.specs.declared.layout.FrameFault.{FrameFault}
use Rattle.sdls_base.specs.declared.link.Link.{Link}
use Rattle.key_book.specs.declared.key_row.KeyRow.{KeyRow}
use Rattle.sa_book.specs.declared.sa_book.SaRow.{SaRow}
use Rattle.sa_book.specs.SaBook.{sender_on}
use Rattle.unit_plan.specs.PlanLines.{PlanLines, link_of}
use Rattle.unit_state.specs.declared.state.State.{State}
use Rattle.unit_state.specs.State.{key_row}
use Rattle.frame_shield.specs.declared.binding.Binding.{Binding}
use Rattle.frame_shield.specs.declared.protecting_frames.ShieldFault.{ShieldFault}
use Rattle.frame_shield.specs.declared.protecting_frames.ShieldFault.TheVariants.{Layout, Channel, State as NoSender}
use Rattle.frame_shield.specs.ShieldFault.{fault_number}
use Rattle.frame_checks.specs.Header.{lacks_header, is_clear, channel_of}
use Rattle.frame_checks.specs.Binding.{binding_of}
use Rattle.frame_checks.specs.ProtectingFrames.{Answer, answer_on, channel_check, channel_on, protect_check}
use Rattle.frame_checks.specs.ProtectingFrames.{IsSentClear}
use Rattle.unit_book.specs.Epoch.{binding_on}
use Rattle.run_promise.specs.Fits.{layout_check, protect_reply}
use Rattle.shared_unit.specs.Permit.{LacksLayout}

-- the first three checks, and all four, of what they look at
abbrev chan : Bool → Bool → Option ℕ → Result (Option ℕ) ShieldFault
chan lacks clear channel =
    unwrap_or (first_failing ((lacks, Err (Layout 1)) ∷ (clear, Ok None) ∷ (is_none channel, Err Channel) ∷ []))
    (Ok channel)

abbrev answer : Bool → Bool → Option ℕ → (ℕ → Option SaRow) → (SaRow → Option Binding) → Answer
answer lacks clear channel sender bind = unwrap_or
    (first_failing ((lacks, Err (Layout 1)) ∷ (clear, Ok None) ∷ (is_none channel, Err Channel)
    ∷ (is_none (option_and_then sender channel), Err NoSender) ∷ []))
    (Ok (option_and_then bind (option_and_then sender channel)))

answer_some : (lacks clear : Bool) (channel : Option ℕ) (sender : ℕ → Option SaRow) (bind : SaRow → Option Binding)
    (c : ℕ) (b : Binding)
    → chan lacks clear channel ≡ Ok (Some c) → answer lacks clear channel sender bind ≡ Ok (Some b)
    → option_and_then bind (sender c) ≡ Some b
answer_some true clear channel sender bind c b h k = absurd cc
answer_some false true channel sender bind c b h k = absurd cc
answer_some false false None sender bind c b h k = absurd cc
answer_some false false (Some d) sender bind c b h k =
    subst (λ (n : ℕ). option_and_then bind (sender n) ≡ Some b) (let e : d ≡ c = cc in e) (by_sender (sender d) k) where
      by_sender : (s : Option SaRow) → unwrap_or (first_failing ((is_none s, Err NoSender) ∷ []))
          (Ok (option_and_then bind s)) ≡ Ok (Some b)
          → option_and_then bind s ≡ Some b
      by_sender None k = absurd cc
      by_sender (Some r) k = cc

some_answer : (lacks clear : Bool) (channel : Option ℕ) (sender : ℕ → Option SaRow) (bind : SaRow → Option Binding)
    (c : ℕ) (b : Binding)
    → chan lacks clear channel ≡ Ok (Some c) → option_and_then bind (sender c) ≡ Some b
    → answer lacks clear channel sender bind ≡ Ok (Some b)
some_answer true clear channel sender bind c b h k = absurd cc
some_answer false true channel sender bind c b h k = absurd cc
some_answer false false None sender bind c b h k = absurd cc
some_answer false false (Some d) sender bind c b h k =
    by_sender (sender d) (subst (λ (n : ℕ). option_and_then bind (sender n) ≡ Some b) (let e : c ≡ d = cc in e) k) where
      by_sender : (s : Option SaRow) → option_and_then bind s ≡ Some b
          → unwrap_or (first_failing ((is_none s, Err NoSender) ∷ [])) (Ok (option_and_then bind s)) ≡ Ok (Some b)
      by_sender None k = absurd cc
      by_sender (Some r) k = ap (λ (o : Option Binding). Ok o) k

-- a binding has the link that it was made on
bound_link : (plan : PlanLines) (state : State) (line : Link) (row : SaRow) (b : Binding)
    → binding_of plan state line row ≡ Some b → b.link ≡ line
bound_link plan state line row b h = by_key row.key h where
  by_held : (key : ℕ) (o : Option KeyRow)
      → option_map (λ (held : KeyRow). record {
        spi = row.spi;
        suite = row.suite;
        key = key;
        schedule = held.bytes;
        device = plan.device;
        link = line;
      }) o ≡ Some b
      → b.link ≡ line
  by_held key None k = absurd cc
  by_held key (Some held) k =
      let made : Binding = record {
        spi = row.spi;
        suite = row.suite;
        key = key;
        schedule = held.bytes;
        device = plan.device;
        link = line;
      } in
      let e : b ≡ made = cc in ap (λ (c : Binding). c.link) e

  by_key : (o : Option ℕ)
      → option_and_then (λ (key : ℕ).
      option_map (λ (held : KeyRow). record {
        spi = row.spi;
        suite = row.suite;
        key = key;
        schedule = held.bytes;
        device = plan.device;
        link = line;
      }) (key_row state key)) o ≡ Some b
      → b.link ≡ line
  by_key None k = absurd cc
  by_key (Some key) k = by_held key (key_row state key) k

bound_on_link : (plan : PlanLines) (state : State) (line : Link) (channel : ℕ) (b : Binding)
    → binding_on plan state line channel ≡ Some b → b.link ≡ line
bound_on_link plan state line channel b h = by_row (sender_on state.associations channel) h where
  by_row : (o : Option SaRow) → option_and_then (binding_of plan state line) o ≡ Some b → b.link ≡ line
  by_row None k = absurd cc
  by_row (Some row) k = bound_link plan state line row b k

-- what a check answers on a channel is what the sender binds to
pub check_bound : (plan : PlanLines) (state : State) (link : ℕ) (clear : List ℕ) (channel : ℕ) (b : Binding)
    → channel_check plan link clear ≡ Ok (Some channel) → protect_check plan state link clear ≡ Ok (Some b)
    → (link_of plan.links link ≡ Some b.link) × (binding_on plan state b.link channel ≡ Some b)
check_bound plan state link clear channel b h k = by_line (link_of plan.links link) refl h k where
  by_line : (o : Option Link) → link_of plan.links link ≡ o
      → option_map_or (channel_on plan link clear) o (Err (Layout 0)) ≡ Ok (Some channel)
      → option_map_or (answer_on plan state link clear) o (Err (Layout 0)) ≡ Ok (Some b)
      → (link_of plan.links link ≡ Some b.link) × (binding_on plan state b.link channel ≡ Some b)
  by_line None is p q = absurd cc
  by_line (Some line) is p q =
      let bound : binding_on plan state line channel ≡ Some b =
      answer_some (lacks_header line.layout clear) (is_clear line.layout clear) (channel_of plan link line.layout clear)
      (sender_on state.associations) (binding_of plan state line) channel b p q in
      let same : b.link ≡ line = bound_on_link plan state line channel b bound in (
        is ∙ ap (λ (l : Link). Some l) (sym same),
        subst (λ (l : Link). binding_on plan state l channel ≡ Some b) (sym same) bound,
      )

pub bound_check : (plan : PlanLines) (state : State) (link : ℕ) (clear : List ℕ) (channel : ℕ) (b : Binding)
    → channel_check plan link clear ≡ Ok (Some channel) → link_of plan.links link ≡ Some b.link
    → binding_on plan state b.link channel ≡ Some b
    → protect_check plan state link clear ≡ Ok (Some b)
bound_check plan state link clear channel b h is bound =
    ap (λ (o : Option Link). option_map_or (answer_on plan state link clear) o (Err (Layout 0))) is
    ∙ some_answer (lacks_header b.link.layout clear) (is_clear b.link.layout clear)
    (channel_of plan link b.link.layout clear)
    (sender_on state.associations) (binding_of plan state b.link) channel b
    (sym (ap (λ (o : Option Link). option_map_or (channel_on plan link clear) o (Err (Layout 0))) is) ∙ h) bound

-- a frame that is sent as it stands has no channel
pub clear_channel : (plan : PlanLines) (link : ℕ) (clear : List ℕ) → IsSentClear plan link clear
    → channel_check plan link clear ≡ Ok None
clear_channel plan link clear h = by_line (link_of plan.links link) h where
  by_checks : (lacks clear_ : Bool) (channel : Option ℕ) → lacks ≡ false → clear_ ≡ true
      → chan lacks clear_ channel ≡ Ok None
  by_checks true clear_ channel p q = absurd cc
  by_checks false false channel p q = absurd cc
  by_checks false true channel p q = refl

  by_line : (o : Option Link)
      → IsSomeAnd o (λ line. (lacks_header line.layout clear ≡ false) × (is_clear line.layout clear ≡ true))
      → option_map_or (channel_on plan link clear) o (Err (Layout 0)) ≡ Ok None
  by_line None p = absurd p
  by_line (Some line) p = by_checks (lacks_header line.layout clear) (is_clear line.layout clear)
      (channel_of plan link line.layout clear) p.0 p.1

-- a clear frame that has not its layout fails the last check
pub unfit_answer : (plan : PlanLines) (state : State) (link : ℕ) (clear : List ℕ) (b : Binding) (fault : ShieldFault)
    → protect_check plan state link clear ≡ Ok (Some b) → LacksLayout b clear fault
    → protect_reply plan state link clear ≡ Err fault
unfit_answer plan state link clear b fault h u =
    ap (layout_check clear) h
    ∙ ap (λ (o : Option FrameFault). let a : Answer =
    option_map_or (λ (f : FrameFault). Err (Layout (fault_number f))) o (Ok (Some b)) in a) u.1
    ∙ ap (λ (f : ShieldFault). Err f) (sym u.2)

-- a check that fails in a state fails at the end of all checks
pub refused_answer : (plan : PlanLines) (state : State) (link : ℕ) (clear : List ℕ) (fault : ShieldFault)
    → protect_check plan state link clear ≡ Err fault → protect_reply plan state link clear ≡ Err fault
refused_answer plan state link clear fault h = ap (layout_check clear) h

-- the key of a binding is there
pub bound_there : (plan : PlanLines) (state : State) (link : ℕ) (clear : List ℕ) (channel : ℕ) (b : Binding)
    → channel_check plan link clear ≡ Ok (Some channel) → protect_check plan state link clear ≡ Ok (Some b)
    → IsSome (key_row state b.key)
bound_there plan state link clear channel b h k =
    by_row (sender_on state.associations channel) (check_bound plan state link clear channel b h k).1 where
      by_held : (row : SaRow) (key : ℕ) (o : Option KeyRow) → key_row state key ≡ o
          → option_map (λ (held : KeyRow). record {
            spi = row.spi;
            suite = row.suite;
            key = key;
            schedule = held.bytes;
            device = plan.device;
            link = b.link;
          }) o ≡ Some b
          → IsSome (key_row state b.key)
      by_held row key None is q = absurd cc
      by_held row key (Some held) is q =
          let e : b.key ≡ key = cc in ap (λ (n : ℕ). is_some (key_row state n)) e ∙ ap is_some is

      by_key : (row : SaRow) (o : Option ℕ)
          → option_and_then (λ (key : ℕ).
          option_map (λ (held : KeyRow). record {
            spi = row.spi;
            suite = row.suite;
            key = key;
            schedule = held.bytes;
            device = plan.device;
            link = b.link;
          }) (key_row state key)) o ≡ Some b
          → IsSome (key_row state b.key)
      by_key row None q = absurd cc
      by_key row (Some key) q = by_held row key (key_row state key) refl q

      by_row : (o : Option SaRow) → option_and_then (binding_of plan state b.link) o ≡ Some b
          → IsSome (key_row state b.key)
      by_row None q = absurd cc
      by_row (Some row) q = by_key row row.key q
