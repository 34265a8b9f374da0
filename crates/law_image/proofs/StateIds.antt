-- The identifiers and digests of a state's rows are of their types: each change keeps that, and so the lines of a plan
-- make such a state. For `beginning_shows`.
use Rattle.std.proofs.Common.{◌≡◌, ℕ, Bool, true, false, nat_le, ◌==◌, List, [], ◌∷◌, length, get_or, map, take, drop}
use Rattle.std.proofs.Common.{Option, Some, None, IfSome, is_none, Ok, refl, sym, subst, if◌then◌else◌}
use Rattle.std.specs.Bool.{⊤}
use Rattle.std.specs.List.{All, AllByRecursion, insert}
use Rattle.std.proofs.lemmas.List.Elements.{All-append, All-cons, All-drop, All-filter, All-map, All-nil, All-take}
use Rattle.std.proofs.lemmas.List.Elements.{recursion_from_All}
use Rattle.sha2.proofs.Facts256.{length-sha256}
use Rattle.sdls_base.specs.declared.entry.Change.{Change}
use Rattle.sdls_base.specs.declared.entry.Change.TheVariants.{Marks, Load, KeyStates, Create, Rekey, SaTo, SetNumber}
use Rattle.sdls_base.specs.declared.entry.Change.TheVariants.{SetWindow, Accepted, Nothing}
use Rattle.sdls_base.specs.declared.key_id.KeyItem.{KeyItem}
use Rattle.sdls_base.specs.declared.states.Direction.{Direction}
use Rattle.sdls_base.specs.declared.states.Direction.TheVariants.{Send, Receive}
use Rattle.sdls_base.specs.declared.states.KeyState.{KeyState}
use Rattle.sdls_base.specs.declared.states.KeyState.TheVariants.{PreActive, Active, Deactivated, Destroyed}
use Rattle.sdls_base.specs.declared.states.SaState.{SaState}
use Rattle.sdls_base.specs.declared.states.SaState.TheVariants.{Unkeyed, Keyed, Operational}
use Rattle.key_book.specs.declared.key_row.KeyRow.{KeyRow}
use Rattle.key_book.specs.KeyRow as keys
use Rattle.key_book.specs.KeyRefusal.{load_refusal}
use Rattle.key_book.specs.Moves.{moves_refusal}
use Rattle.sa_book.specs.declared.sa_book.SaRow.{SaRow}
use Rattle.sa_book.specs.SaRefusal.{create_refusal, start_refusal}
use Rattle.sa_book.specs.SaRow.{new_row}
use Rattle.unit_plan.specs.declared.plan.PlanKey.{PlanKey}
use Rattle.unit_plan.specs.declared.plan.PlanSa.{PlanSa}
use Rattle.unit_plan.specs.declared.plan_error.PlanCause.TheVariants.{Refused}
use Rattle.unit_plan.specs.PlanError.{◌>>=◌, check}
use Rattle.unit_plan.specs.PlanLines.{PlanLines}
use Rattle.unit_state.specs.declared.state.State.{State}
use Rattle.unit_state.specs.Applied.{applied, direction_of, in_state, key_held, numbered}
use Rattle.unit_state.specs.Initial.{activated_if, bare, created, in_order, initial, keyed, line_made, lines_made}
use Rattle.unit_state.specs.Initial.{loaded, started, takes_key, RowLine, OfKey, OfAssociation}
use Rattle.book_record.specs.Record.{IsKey, IsSpi}
use Rattle.law_image.proofs.Planned.{behind, same_ok}
use Rattle.law_image.proofs.SaidIds.{NamesRows}
use Rattle.law_image.proofs.PlanIds.{HasIds, NamesKey}

abbrev pub IsNamedKey : KeyRow → Type 0
IsNamedKey row = IsKey row.id × (length row.digest ≡ 32)

abbrev pub IsNamedSa : SaRow → Type 0
IsNamedSa row = IsSpi row.spi × IfSome row.key IsKey

pub record IsNamed (state : State) : Type 0 where
  pub keys : All IsNamedKey state.keys
  pub associations : All IsNamedSa state.associations

-- the identifiers that a change brings are of their types
abbrev pub BringsNames : Change → Type 0
BringsNames (Marks key mark floor) = ⊤
BringsNames (Load items) = All (λ item. IsKey item.id) items
BringsNames (KeyStates ids to) = ⊤
BringsNames (Create new) = IsSpi new.spi
BringsNames (Rekey spi key number) = IsKey key
BringsNames (SaTo spi to) = ⊤
BringsNames (SetNumber spi number) = ⊤
BringsNames (SetWindow spi window) = ⊤
BringsNames (Accepted spi key number floor) = ⊤
BringsNames Nothing = ⊤

-- ---- lists

picked : {X : Type 0} (P : X → Type 0) (b : Bool) (x y : X) → P x → P y → P (if b then x else y)
picked P true x y p q = p
picked P false x y p q = q

all_mapped : {X : Type 0} (P : X → Type 0) (f : X → X) (xs : List X) → ((x : X) → P x → P (f x)) → All P xs
    → All P (map f xs)
all_mapped P f xs keeps all = All-map P f xs (λ k d low. keeps (get_or xs k d) (all k d low))

all_picked : {X : Type 0} (P : X → Type 0) (p : X → Bool) (f : X → X) (xs : List X) → ((x : X) → P x → P (f x))
    → All P xs
    → All P (map (λ x. if p x then f x else x) xs)
all_picked P p f xs keeps all =
    all_mapped P (λ x. if p x then f x else x) xs (λ x named. picked P (p x) (f x) x (keeps x named) named) all

all_inserted : {X : Type 0} (P : X → Type 0) (xs : List X) (n : ℕ) (x : X) → P x → All P xs → All P (insert xs n x)
all_inserted P xs n x own all =
    All-append P (take n xs) (x ∷ drop n xs) (All-take P n xs all) (All-cons P x (drop n xs) own (All-drop P n xs all))

-- ---- one change

new_named : (items : List KeyItem) → AllByRecursion (λ (item : KeyItem). IsKey item.id) items
    → All IsNamedKey (map keys.new_row items)
new_named [] each = All-nil IsNamedKey
new_named (item ∷ items) each =
    All-cons IsNamedKey (keys.new_row item) (map keys.new_row items) (each.0, length-sha256 item.bytes)
    (new_named items each.1)

numbered_named : (rows : List KeyRow) (direction : Option Direction) (key : Option ℕ) (number : ℕ) → All IsNamedKey rows
    → All IsNamedKey (numbered rows direction key number)
numbered_named rows (Some Send) (Some key) number all =
    all_picked IsNamedKey (λ row. row.id == key) (λ row. record row { mark = _ }) rows (λ row named. (named.0, named.1))
    all
numbered_named rows (Some Receive) (Some key) number all =
    all_picked IsNamedKey (λ row. row.id == key) (λ row. record row { floor = _ }) rows
    (λ row named. (named.0, named.1)) all
numbered_named rows None key number all = all
numbered_named rows (Some direction) None number all = all

taken_state : (rows : List SaRow) (spi : ℕ) (to : Option SaState) → All IsNamedSa rows
    → All IsNamedSa (in_state rows spi to)
taken_state rows spi None all = All-filter _ IsNamedSa rows all
taken_state rows spi (Some Unkeyed) all =
    all_picked IsNamedSa (λ row. row.spi == spi) _ rows (λ row named. (named.0, tt)) all
taken_state rows spi (Some Keyed) all =
    all_picked IsNamedSa (λ row. row.spi == spi) _ rows (λ row named. (named.0, named.1)) all
taken_state rows spi (Some Operational) all =
    all_picked IsNamedSa (λ row. row.spi == spi) _ rows (λ row named. (named.0, named.1)) all

pub applied_named : (state : State) (change : Change) → BringsNames change → IsNamed state
    → IsNamed (applied state change)
applied_named state (Marks key mark floor) brings named = record {
  keys = all_picked IsNamedKey (λ row. row.id == key) _ state.keys (λ row own. (own.0, own.1)) named.keys;
  associations = all_picked IsNamedSa _ _ state.associations (λ row own. (own.0, own.1)) named.associations;
}
applied_named state (Load items) brings named = record {
  keys = All-append IsNamedKey state.keys (map keys.new_row items) named.keys
      (new_named items (recursion_from_All (λ (item : KeyItem). IsKey item.id) items brings));
  associations = named.associations;
}
applied_named state (KeyStates ids to) brings named = record {
  keys = all_picked IsNamedKey _ (λ row. keys.in_state row to) state.keys (λ row own. (own.0, own.1)) named.keys;
  associations = named.associations;
}
applied_named state (Create new) brings named = record {
  keys = named.keys;
  associations = all_inserted IsNamedSa state.associations _ (new_row new) (brings, tt) named.associations;
}
applied_named state (Rekey spi key number) brings named = record {
  keys = numbered_named state.keys (direction_of state spi) (Some key) number named.keys;
  associations = all_picked IsNamedSa (λ row. row.spi == spi) _ state.associations (λ row own. (own.0, brings))
      named.associations;
}
applied_named state (SaTo spi to) brings named = record {
  keys = named.keys;
  associations = taken_state state.associations spi to named.associations;
}
applied_named state (SetNumber spi number) brings named = record {
  keys = numbered_named state.keys (direction_of state spi) (key_held state spi) number named.keys;
  associations = all_picked IsNamedSa (λ row. row.spi == spi) _ state.associations (λ row own. (own.0, own.1))
      named.associations;
}
applied_named state (SetWindow spi window) brings named = record {
  keys = named.keys;
  associations = all_picked IsNamedSa (λ row. row.spi == spi) _ state.associations (λ row own. (own.0, own.1))
      named.associations;
}
applied_named state (Accepted spi key number floor) brings named = record {
  keys = all_picked IsNamedKey (λ row. row.id == key) _ state.keys (λ row own. (own.0, own.1)) named.keys;
  associations = all_picked IsNamedSa (λ row. row.spi == spi) _ state.associations (λ row own. (own.0, own.1))
      named.associations;
}
applied_named state Nothing brings named = named

-- a change leaves the channels and the device field
pub applied_beside : (state : State) (change : Change)
    → ((applied state change).channels ≡ state.channels) × ((applied state change).device ≡ state.device)
applied_beside state (Marks key mark floor) = (refl, refl)
applied_beside state (Load items) = (refl, refl)
applied_beside state (KeyStates ids to) = (refl, refl)
applied_beside state (Create new) = (refl, refl)
applied_beside state (Rekey spi key number) = (refl, refl)
applied_beside state (SaTo spi to) = (refl, refl)
applied_beside state (SetNumber spi number) = (refl, refl)
applied_beside state (SetWindow spi window) = (refl, refl)
applied_beside state (Accepted spi key number floor) = (refl, refl)
applied_beside state Nothing = (refl, refl)

-- ---- the lines of a plan

abbrev IsNamedLine : RowLine → Type 0
IsNamedLine (OfKey key) = NamesKey key
IsNamedLine (OfAssociation found) = NamesRows found

-- what each change keeps, the lines of a plan keep
module _ (P : State → Type 0) (kept : (state : State) (change : Change) → BringsNames change → P state
    → P (applied state change)) where
  activated_kept : (state next : State) (key : PlanKey) (to : KeyState) → P state → activated_if state key to ≡ Ok next
      → P next
  activated_kept state next key PreActive holds h = subst P (same_ok state next h) holds
  activated_kept state next key Active holds h =
      let taken = behind (check key.line Refused (is_none (moves_refusal state.keys (key.item.id ∷ []) Active [])))
      _ next h in
      subst P (same_ok _ next taken.2) (kept state (KeyStates (key.item.id ∷ []) Active) tt holds)
  activated_kept state next key Deactivated holds h = subst P (same_ok state next h) holds
  activated_kept state next key Destroyed holds h = subst P (same_ok state next h) holds

  loaded_kept : (state next : State) (key : PlanKey) → NamesKey key → P state → loaded state key ≡ Ok next → P next
  loaded_kept state next key named holds h =
      let taken = behind (check key.line Refused (is_none (load_refusal state.keys (key.item ∷ [])))) _ next h in
      subst P (same_ok _ next taken.2)
      (kept state (Load (key.item ∷ []))
      (All-cons (λ (item : KeyItem). IsKey item.id) key.item [] named (All-nil (λ (item : KeyItem). IsKey item.id)))
      holds)

  created_kept : (state next : State) (found : PlanSa) → NamesRows found → P state → created state found ≡ Ok next
      → P next
  created_kept state next found named holds h =
      let taken =
      behind (check found.line Refused (is_none (create_refusal state.associations found.sa state.channels))) _ next
      h in
      subst P (same_ok _ next taken.2) (kept state (Create found.sa) named.0 holds)

  keyed_kept : (state next : State) (found : PlanSa) → NamesRows found → P state → keyed state found ≡ Ok next → P next
  keyed_kept state next found named holds h =
      let taken = behind (check found.line Refused (takes_key state found)) _ next h in
      subst P (same_ok _ next taken.2) (kept state (Rekey found.sa.spi found.key found.number) named.1 holds)

  started_kept : (state next : State) (found : PlanSa) → P state → started state found ≡ Ok next → P next
  started_kept state next found holds h =
      let taken = behind (check found.line Refused (is_none (start_refusal state.associations found.sa.spi))) _ next
      h in
      subst P (same_ok _ next taken.2) (kept state (SaTo found.sa.spi (Some Operational)) tt holds)

  line_kept : (state next : State) (line : RowLine) → IsNamedLine line → P state → line_made state line ≡ Ok next
      → P next
  line_kept state next (OfKey key) named holds h =
      let ready = behind (loaded state key) (λ mid. activated_if mid key key.state) next h in
      activated_kept ready.0 next key key.state (loaded_kept state ready.0 key named holds ready.1) ready.2
  line_kept state next (OfAssociation found) named holds h =
      let unkeyed = behind (created state found) (λ mid. keyed mid found >>= λ stopped. started stopped found) next h in
      let stopped = behind (keyed unkeyed.0 found) (λ mid. started mid found) next unkeyed.2 in
      started_kept stopped.0 next found
      (keyed_kept unkeyed.0 stopped.0 found named (created_kept state unkeyed.0 found named holds unkeyed.1) stopped.1)
      stopped.2

  pub lines_kept : (state next : State) (lines : List RowLine) → AllByRecursion IsNamedLine lines → P state
      → lines_made state lines ≡ Ok next → P next
  lines_kept state next [] named holds h = subst P (same_ok state next h) holds
  lines_kept state next (line ∷ lines) named holds h =
      let mid = behind (line_made state line) (λ mid. lines_made mid lines) next h in
      lines_kept mid.0 next lines named.1 (line_kept state mid.0 line named.0 holds mid.1) mid.2

named_keys : (some : List PlanKey) → AllByRecursion NamesKey some → AllByRecursion IsNamedLine (map OfKey some)
named_keys [] named = tt
named_keys (key ∷ some) named = (named.0, named_keys some named.1)

named_lines : (some : List PlanKey) (associations : List PlanSa) → AllByRecursion NamesKey some
    → AllByRecursion NamesRows associations
    → AllByRecursion IsNamedLine (in_order some associations)
named_lines some [] own named = named_keys some own
named_lines [] (found ∷ associations) own named = (named.0, named_lines [] associations own named.1)
named_lines (key ∷ some) (found ∷ associations) own named =
    picked (AllByRecursion IsNamedLine) (nat_le found.line key.line)
    (OfAssociation found ∷ in_order (key ∷ some) associations)
    (OfKey key ∷ in_order some (found ∷ associations)) (named.0, named_lines (key ∷ some) associations own named.1)
    (own.0, named_lines some (found ∷ associations) own.1 named)

-- the state that a plan's lines make: it is named, and has the channels and the device field of the plan
pub record IsOfPlan (plan : PlanLines) (state : State) : Type 0 where
  pub named : IsNamed state
  pub channels : state.channels ≡ map (λ row. row.0) plan.channels
  pub device : state.device ≡ plan.device

pub first_of_plan : (plan : PlanLines) (first : State) → HasIds plan → initial plan ≡ Ok first → IsOfPlan plan first
first_of_plan plan first ids made =
    lines_kept (IsOfPlan plan)
    (λ state change brings of.
    let beside = applied_beside state change in
    record {
      named = applied_named state change brings of.named;
      channels = subst (λ (ns : List ℕ). ns ≡ map (λ row. row.0) plan.channels) (sym beside.0) of.channels;
      device = subst (λ (ns : List ℕ). ns ≡ plan.device) (sym beside.1) of.device;
    })
    (bare plan) first (in_order plan.keys plan.associations)
    (named_lines plan.keys plan.associations (recursion_from_All NamesKey plan.keys ids.keys)
    (recursion_from_All NamesRows plan.associations ids.associations))
    (record {
      named = record { keys = All-nil IsNamedKey; associations = All-nil IsNamedSa };
      channels = refl;
      device = refl;
    })
    made
