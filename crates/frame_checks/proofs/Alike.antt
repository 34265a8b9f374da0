-- States that serve alike bind frames alike, for the laws `binding_stays` and `opener_stays`.
use Rattle.std.proofs.Common.{◌≡◌, ℕ, Bool, nat_eq, List, [], ◌∷◌, map, Option, Some, None, refl, sym, ap, ◌∙◌}
use Rattle.std.specs.Prelude.{is_none, unwrap_or, Ok, Err}
use Rattle.std.specs.List.{find}
use Rattle.std.specs.Option.{option_map, option_map_or, option_and_then}
use Rattle.std.proofs.lemmas.Option.{same_Some}
use Rattle.sdls_base.proofs.Searches.{find-map}
use Rattle.sdls_base.specs.FirstFailing.{first_failing}
use Rattle.sdls_base.specs.declared.link.Link.{Link}
use Rattle.sdls_base.specs.declared.states.Suite.{Suite}
use Rattle.key_book.specs.declared.key_row.KeyRow.{KeyRow}
use Rattle.sa_book.specs.declared.sa_book.SaRow.{SaRow}
use Rattle.sa_book.specs.SaBook.{sender_on}
use Rattle.unit_plan.specs.PlanLines.{PlanLines, link_of}
use Rattle.unit_state.specs.declared.state.State.{State}
use Rattle.unit_state.specs.State.{association_row, key_row}
use Rattle.unit_state.specs.Restart.{still, still_key, still_association}
use Rattle.unit_state.specs.Laws.{ServeAlike}
use Rattle.frame_shield.specs.declared.binding.Binding.{Binding}
use Rattle.frame_shield.specs.declared.protecting_frames.ShieldFault.TheVariants.{Layout, Channel, State as NoSender}
use Rattle.frame_checks.specs.Binding.{binding_of}
use Rattle.frame_checks.specs.Header.{lacks_header, is_clear, channel_of}
use Rattle.frame_checks.specs.declared.opening_frames.Opener.{Opener}
use Rattle.frame_checks.specs.OpeningFrames.{association_checks}
use Rattle.frame_checks.specs.Trying.{IsOpener}
use Rattle.frame_checks.specs.ProtectingFrames.{Answer, sender_of, answer_on, protect_check}

abbrev made : PlanLines → Link → ℕ → Suite → ℕ → KeyRow → Binding
made plan line spi suite key held = record {
  spi = spi;
  suite = suite;
  key = key;
  schedule = held.bytes;
  device = plan.device;
  link = line;
}

-- the binding by the fields of an association that do not move
abbrev bound : PlanLines → State → Link → ℕ → Suite → Option ℕ → Option Binding
bound plan state line spi suite own =
    option_and_then (λ key. option_map (made plan line spi suite key) (key_row state key)) own

made_alike : (plan : PlanLines) (line : Link) (spi : ℕ) (suite : Suite) (key : ℕ) (p q : Option KeyRow)
    → option_map still_key p ≡ option_map still_key q → option_map (made plan line spi suite key) p
    ≡ option_map (made plan line spi suite key) q
made_alike plan line spi suite key None None e = refl
made_alike plan line spi suite key None (Some b) e = absurd (cc)
made_alike plan line spi suite key (Some a) None e = absurd (cc)
made_alike plan line spi suite key (Some a) (Some b) e =
    ap (λ (row : KeyRow). Some (made plan line spi suite key row)) (same_Some (still_key a) (still_key b) e)

bound_alike : (plan : PlanLines) (one other : State) (line : Link) (spi : ℕ) (suite : Suite) (own : Option ℕ)
    → ServeAlike one other
    → bound plan one line spi suite own ≡ bound plan other line spi suite own
bound_alike plan one other line spi suite None alike = refl
bound_alike plan one other line spi suite (Some key) alike =
    made_alike plan line spi suite key (key_row one key) (key_row other key) (alike.key key)

-- senders that are the same but for their numbers
pub record SendAlike (plan : PlanLines) (one other : State) (line : Link) (s t : Option SaRow) : Type 0 where
  pub none : is_none s ≡ is_none t
  pub binding : option_and_then (binding_of plan one line) s ≡ option_and_then (binding_of plan other line) t

send_alike : (plan : PlanLines) (one other : State) (line : Link) (s t : Option SaRow) → ServeAlike one other
    → option_map still_association s ≡ option_map still_association t → SendAlike plan one other line s t
send_alike plan one other line None None alike e = record { none = refl; binding = refl }
send_alike plan one other line None (Some b) alike e = absurd (cc)
send_alike plan one other line (Some a) None alike e = absurd (cc)
send_alike plan one other line (Some a) (Some b) alike e =
    let same : still_association a ≡ still_association b = same_Some _ _ e in
    record {
      none = refl;
      binding = ap (λ (row : SaRow). bound plan one line row.spi row.suite row.key) same
          ∙ bound_alike plan one other line b.spi b.suite b.key alike;
    }

senders : (one other : State) (o : Option ℕ) → ServeAlike one other
    → option_map still_association (option_and_then (sender_on one.associations) o)
    ≡ option_map still_association (option_and_then (sender_on other.associations) o)
senders one other None alike = refl
senders one other (Some channel) alike = alike.sender channel

-- the answer by what it takes from the state
abbrev answered : PlanLines → ℕ → List ℕ → Link → Bool → Option Binding → Answer
answered plan link clear line none binding = unwrap_or (first_failing (
    (lacks_header line.layout clear, Err (Layout 1))
    ∷ (is_clear line.layout clear, Ok None)
    ∷ (is_none (channel_of plan link line.layout clear), Err Channel)
    ∷ (none, Err NoSender) ∷ [])) (Ok binding)

answers : (plan : PlanLines) (one other : State) (link : ℕ) (clear : List ℕ) (line : Link) → ServeAlike one other
    → answer_on plan one link clear line ≡ answer_on plan other link clear line
answers plan one other link clear line alike =
    let same = send_alike plan one other line (sender_of plan one link line clear)
    (sender_of plan other link line clear) alike
    (senders one other (channel_of plan link line.layout clear) alike) in
    ap (λ n. answered plan link clear line n
    (option_and_then (binding_of plan one line) (sender_of plan one link line clear))) same.none
    ∙ ap (λ b. answered plan link clear line (is_none (sender_of plan other link line clear)) b) same.binding

on_links : (o : Option Link) (f g : Link → Answer) (d : Answer) → ((line : Link) → f line ≡ g line)
    → option_map_or f o d ≡ option_map_or g o d
on_links None f g d same = refl
on_links (Some line) f g d same = same line

pub checks_alike : (plan : PlanLines) (one other : State) (link : ℕ) (clear : List ℕ) → ServeAlike one other
    → protect_check plan one link clear ≡ protect_check plan other link clear
checks_alike plan one other link clear alike =
    on_links (link_of plan.links link) (answer_on plan one link clear) (answer_on plan other link clear)
    (Err (Layout 0)) (λ line. answers plan one other link clear line alike)

-- ---- what frames are opened under

find_still : {X : Type 0} (p : X → Bool) (g : X → X) (xs : List X) → ((x : X) → p (g x) ≡ p x)
    → option_map g (find p xs) ≡ find p (map g xs)
find_still p g xs same = sym (find-map p g xs same)

rows_alike : (one other : State) (spi : ℕ) → still one ≡ still other
    → option_map still_association (association_row one spi) ≡ option_map still_association (association_row other spi)
rows_alike one other spi e =
    find_still (λ (row : SaRow). nat_eq row.spi spi) still_association one.associations (λ _. refl)
    ∙ ap (λ (s : State). find (λ (row : SaRow). nat_eq row.spi spi) s.associations) e
    ∙ sym (find_still (λ (row : SaRow). nat_eq row.spi spi) still_association other.associations (λ _. refl))

-- a row that differs in its highest number alone
pub record HasLike (o : Option SaRow) (row : SaRow) : Type 0 where
  pub like : SaRow
  pub there : o ≡ Some like
  pub still : still_association row ≡ still_association like

like_in : (o : Option SaRow) (row : SaRow) → option_map still_association (Some row) ≡ option_map still_association o
    → HasLike o row
like_in None row e = absurd (cc)
like_in (Some like) row e =
    record { like = like; there = refl; still = same_Some (still_association row) (still_association like) e }

pub opener_stays : (plan : PlanLines) (one other : State) (opener : Opener) → ServeAlike one other
    → still one ≡ still other
    → IsOpener plan one opener → IsOpener plan other opener
opener_stays plan one other opener alike same is =
    let spi = opener.binding.spi in
    let line = opener.binding.link in
    let o = like_in (association_row other spi) is.row
    (ap (option_map still_association) (sym is.there) ∙ rows_alike one other spi same) in
    record {
      line = is.line;
      binding = is.binding;
      row = o.like;
      there = o.there;
      passes = ap (λ (row : SaRow). first_failing (association_checks row opener.channel)) (sym o.still) ∙ is.passes;
      bound = sym (bound_alike plan one other line o.like.spi o.like.suite o.like.key alike)
          ∙ ap (λ (row : SaRow). bound plan one line row.spi row.suite row.key) (sym o.still) ∙ is.bound;
    }
