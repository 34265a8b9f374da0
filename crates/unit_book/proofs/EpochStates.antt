-- What a book serves is that of its epoch.
use Rattle.std.proofs.Common.{◌≡◌, ℕ, zero, suc, ◌+◌, ◌≤◌, Bool, true, false, cond, nat_eq, nat_lt, List, [], ◌∷◌}
use Rattle.std.proofs.Common.{length, take, drop, map, not, Option, Some, None, refl, sym, ◌∙◌, ap, inl, inr, arith}
use Rattle.std.specs.List.{position_or_len}
use Rattle.std.specs.Option.{option_map, option_and_then}
use Rattle.std.proofs.lemmas.List.{take-append-drop, length-map}
use Rattle.std.proofs.lemmas.Option.{same_Some}
use Rattle.sdls_base.specs.declared.entry.Change.{Change}
use Rattle.sdls_base.specs.declared.entry.Change.TheVariants.{Marks, Load, KeyStates, Create, Rekey, SaTo, SetNumber}
use Rattle.sdls_base.specs.declared.entry.Change.TheVariants.{SetWindow, Accepted, Nothing}
use Rattle.sdls_base.specs.declared.entry.Entry.{Entry}
use Rattle.sdls_base.specs.declared.link.Link.{Link}
use Rattle.sdls_base.specs.declared.states.Suite.{Suite}
use Rattle.key_book.specs.declared.key_row.KeyRow.{KeyRow}
use Rattle.key_book.specs.KeyBook.{place_of}
use Rattle.sa_book.specs.declared.sa_book.SaRow.{SaRow}
use Rattle.sa_book.specs.SaBook.{sender_on}
use Rattle.unit_plan.specs.PlanLines.{PlanLines}
use Rattle.unit_state.specs.declared.state.State.{State}
use Rattle.unit_state.specs.State.{key_row}
use Rattle.unit_state.specs.Applied.{applied}
use Rattle.unit_state.specs.Restart.{IsLight, counts, still, still_key, still_association}
use Rattle.unit_state.specs.History.{after_all, after_first, at_epoch, epoch_after}
use Rattle.unit_state.specs.Laws.{ServeAlike}
use Rattle.unit_state.proofs.Histories.{at_epoch_more, epochs_more}
use Rattle.unit_state.proofs.StateLaws.{light_still, serves_alike}
use Rattle.frame_shield.specs.declared.binding.Binding.{Binding}
use Rattle.frame_checks.specs.Binding.{binding_of}
use Rattle.frame_checks.proofs.Alike.{checks_alike}
use Rattle.ep_core.specs.declared.judging.Need.{Need}
use Rattle.ep_core.proofs.NeedsAlike.{same_need}
use Rattle.run_promise.specs.History.{IsNeedOf}
use Rattle.unit_book.specs.Epoch.{ServesAlike}

-- ---- the state at an epoch

-- a change that does not count moves numbers alone
light_by : (change : Change) → counts change ≡ false → IsLight change
light_by (Marks key mark floor) not = tt
light_by (Load items) not = absurd cc
light_by (KeyStates ids to) not = absurd cc
light_by (Create new) not = absurd cc
light_by (Rekey spi key number) not = absurd cc
light_by (SaTo spi to) not = absurd cc
light_by (SetNumber spi number) not = absurd cc
light_by (SetWindow spi window) not = absurd cc
light_by (Accepted spi key number floor) not = tt
light_by Nothing not = tt

-- the state where no entry counted, and the same of the last one that did
at_first : (state : State) (entries : List Entry) → at_epoch state entries zero ≡ state
at_first state [] = refl
at_first state (entry ∷ entries) = refl

none_counts : (b : Bool) (rest : ℕ) → 0 ≡ cond b 1 0 + rest → (b ≡ false) × (0 ≡ rest)
none_counts true rest e = absurd (let no : ⊥ = omega arith in no)
none_counts false rest e = (refl, omega arith)

one_less : (b : Bool) (n rest : ℕ) → suc n ≡ cond b 1 0 + rest → cond b n (suc n) ≡ rest
one_less true n rest e = omega arith
one_less false n rest e = omega arith

still_at : (state : State) (entries : List Entry) (epoch : ℕ) → epoch ≡ epoch_after entries
    → still (after_all state entries) ≡ still (at_epoch state entries epoch)
still_at state [] zero e = refl
still_at state [] (suc epoch) e = absurd (let no : ⊥ = omega arith in no)
still_at state (entry ∷ entries) zero e =
    let (light, none) = none_counts (counts entry.change) (epoch_after entries) e in
    still_at (applied state entry.change) entries zero none
    ∙ ap still (at_first (applied state entry.change) entries)
    ∙ light_still state entry.change (light_by entry.change light)
still_at state (entry ∷ entries) (suc epoch) e =
    still_at (applied state entry.change) entries (cond (counts entry.change) epoch (suc epoch))
    (one_less (counts entry.change) epoch (epoch_after entries) e)

-- the epoch of some of the entries is not above that of all
pub epoch_first : (entries : List Entry) (p : ℕ) → epoch_after (take p entries) ≤ epoch_after entries
epoch_first entries p =
    let whole : epoch_after entries ≡ epoch_after (take p entries) + epoch_after (drop p entries) =
    ap epoch_after (sym (take-append-drop p entries)) ∙ epochs_more (take p entries) (drop p entries) in
    omega arith

-- the state after some of the entries, and that of their epoch among all
pub still_epoch : (state : State) (entries : List Entry) (p epoch : ℕ) → epoch ≡ epoch_after (take p entries)
    → still (after_first state entries p) ≡ still (at_epoch state entries epoch)
still_epoch state entries p epoch is =
    let low : epoch ≤ epoch_after (take p entries) = omega arith in
    still_at state (take p entries) epoch is
    ∙ ap still (sym (at_epoch_more state (take p entries) (drop p entries) epoch low)
    ∙ ap (λ (all : List Entry). at_epoch state all epoch) (take-append-drop p entries))

-- ---- what is served alike

abbrev bound_with : PlanLines → Link → ℕ → Suite → ℕ → KeyRow → Binding
bound_with plan line spi suite key held =
    record { spi = spi; suite = suite; key = key; schedule = held.bytes; device = plan.device; link = line }

key_by : (plan : PlanLines) (line : Link) (spi : ℕ) (suite : Suite) (key : ℕ) (one other : Option KeyRow)
    → option_map still_key one ≡ option_map still_key other
    → option_map (bound_with plan line spi suite key) one ≡ option_map (bound_with plan line spi suite key) other
key_by plan line spi suite key None None same = refl
key_by plan line spi suite key None (Some held) same = absurd cc
key_by plan line spi suite key (Some held) None same = absurd cc
key_by plan line spi suite key (Some held) (Some now) same =
    ap (λ (row : KeyRow). Some (bound_with plan line spi suite key row))
    (same_Some (still_key held) (still_key now) same)

abbrev bound_by : PlanLines → State → Link → ℕ → Suite → Option ℕ → Option Binding
bound_by plan state line spi suite own =
    option_and_then (λ key. option_map (bound_with plan line spi suite key) (key_row state key)) own

own_by : (plan : PlanLines) (one other : State) (line : Link) (spi : ℕ) (suite : Suite) (own : Option ℕ)
    → ServeAlike one other
    → bound_by plan one line spi suite own ≡ bound_by plan other line spi suite own
own_by plan one other line spi suite None alike = refl
own_by plan one other line spi suite (Some key) alike =
    key_by plan line spi suite key (key_row one key) (key_row other key) (alike.key key)

bindings_by : (plan : PlanLines) (one other : State) (line : Link) (sender later : Option SaRow) → ServeAlike one other
    → option_map still_association sender ≡ option_map still_association later
    → option_and_then (binding_of plan one line) sender ≡ option_and_then (binding_of plan other line) later
bindings_by plan one other line None None alike same = refl
bindings_by plan one other line None (Some row) alike same = absurd cc
bindings_by plan one other line (Some row) None alike same = absurd cc
bindings_by plan one other line (Some row) (Some now) alike same =
    ap (λ (still : SaRow). bound_by plan one line still.spi still.suite still.key)
    (same_Some (still_association row) (still_association now) same)
    ∙ own_by plan one other line now.spi now.suite now.key alike

same_place : (p : KeyRow → Bool) (rows : List KeyRow) → ((row : KeyRow) → p (still_key row) ≡ p row)
    → position_or_len p (map still_key rows) ≡ position_or_len p rows
same_place p [] same = refl
same_place p (row ∷ rows) same =
    ap (λ (b : Bool). cond b (1 + position_or_len p (map still_key rows)) 0) (ap not (same row))
    ∙ ap (λ (n : ℕ). cond (not (p row)) (1 + n) 0) (same_place p rows same)

place_still : (rows : List KeyRow) (key : ℕ) → place_of (map still_key rows) key ≡ place_of rows key
place_still rows key =
    let first : position_or_len (λ (row : KeyRow). nat_eq row.id key) (map still_key rows)
    ≡ position_or_len (λ (row : KeyRow). nat_eq row.id key) rows =
    same_place (λ (row : KeyRow). nat_eq row.id key) rows (λ row. refl) in
    ap (λ (n : ℕ). cond (nat_lt n (length (map still_key rows))) (Some n) None) first
    ∙ ap (λ (size : ℕ). cond (nat_lt (position_or_len (λ (row : KeyRow). nat_eq row.id key) rows) size)
    (Some (position_or_len (λ (row : KeyRow). nat_eq row.id key) rows)) None) (length-map rows still_key)

need_by : (one other : State) (octets : List ℕ) (need : Need) → still one ≡ still other → IsNeedOf one octets need
    → IsNeedOf other octets need
need_by one other octets need same (inl (command, spelled, is)) = inl
    (command, spelled, is ∙ same_need one other command same)
need_by one other octets need same (inr (offset, fault, is)) = inr (offset, fault, is)

-- states that differ in marks, floors and highest numbers alone
pub alike_served : (plan : PlanLines) (one other : State) → still one ≡ still other → ServesAlike plan one other
alike_served plan one other same =
    let alike : ServeAlike one other = serves_alike one other same in
    record {
      checks = λ link clear. checks_alike plan one other link clear alike;
      bindings = λ line channel. bindings_by plan one other line (sender_on one.associations channel)
          (sender_on other.associations channel)
          alike (alike.sender channel);
      places = λ key. sym (place_still one.keys key) ∙ ap (λ (s : State). place_of s.keys key) same
          ∙ place_still other.keys key;
      needs = λ octets need. (need_by one other octets need same, need_by other one octets need (sym same));
    }
