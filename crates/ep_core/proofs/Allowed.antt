-- The change of a step is one that its state allows.
use Rattle.std.proofs.Common.{◌≡◌, ◌≢◌, ℕ, zero, suc, ◌+◌, ◌<◌, ◌≤◌, Bool, true, false, not, nat_eq, List, [], ◌∷◌}
use Rattle.std.proofs.Common.{length, length-drop, get_or, take, drop, Option, Some, None, IsSome, IsSomeAnd, refl, sym}
use Rattle.std.proofs.Common.{ap, ◌∙◌, subst, arith}
use Rattle.std.specs.Prelude.{MatchOption, if◌then◌else◌, is_none, is_some, IfSome, IsNone}
use Rattle.std.specs.List.{AllByRecursion, Any}
use Rattle.std.specs.Option.{option_map, option_map_or, option_and_then}
use Rattle.std.specs.Str.{bytes_eq}
use Rattle.std.proofs.lemmas.Bool.Decides.{nat_tests}
use Rattle.std.proofs.lemmas.List.{length-take}
use Rattle.gcm.specs.Gcm.{gcm_open, gctr, tag_of}
use Rattle.sdls_base.specs.Bounds.{IsKeyLength}
use Rattle.sdls_base.specs.FirstFailing.{fails_if, first_told}
use Rattle.sdls_base.specs.KeyId.{class_of}
use Rattle.sdls_base.specs.declared.key_id.KeyClass.{KeyClass}
use Rattle.sdls_base.specs.declared.key_id.KeyClass.TheVariants.{Master, Gcm, Cmac}
use Rattle.sdls_base.specs.declared.entry.Change.{Change}
use Rattle.sdls_base.specs.declared.entry.Change.TheVariants as changes
use Rattle.sdls_base.specs.declared.entry.Seen.{Seen}
use Rattle.sdls_base.specs.declared.entry.Seen.TheVariants as seen
use Rattle.sdls_base.specs.declared.states.Direction.{Direction}
use Rattle.sdls_base.specs.declared.states.Direction.TheVariants.{Send, Receive}
use Rattle.sdls_base.specs.declared.states.KeyState.{KeyState}
use Rattle.sdls_base.specs.declared.states.KeyState.TheVariants.{PreActive, Active, Deactivated, Destroyed}
use Rattle.sdls_base.specs.declared.states.SaState.{SaState}
use Rattle.sdls_base.specs.declared.states.SaState.TheVariants.{Unkeyed, Keyed, Operational}
use Rattle.sdls_base.proofs.FieldLemmas.{word}
use Rattle.key_book.specs.declared.key_row.KeyRow.{KeyRow}
use Rattle.key_book.specs.KeyRefusal.{load_refusal}
use Rattle.key_book.specs.Moves.{moves_refusal}
use Rattle.sa_book.specs.declared.sa_book.SaRow.{SaRow}
use Rattle.sa_book.specs.SaRow.{IsSaRow}
use Rattle.sa_book.specs.SaBook.{in_use}
use Rattle.sa_book.specs.SaRefusal.{unless_unkeyed, if_unkeyed, number_refusal_of, set_number_refusal}
use Rattle.unit_state.specs.declared.state.State.{State}
use Rattle.unit_state.specs.State.{KeepsRules, HasKey, MayHold, key_row, association_row}
use Rattle.unit_state.specs.Allows.{Allows, IsActiveMaster, AllowsLoad, AllowsStates, AllowsRekey, AllowsNumber}
use Rattle.unit_state.specs.Allows.{IsSessionKey}
use Rattle.unit_state.specs.Taking.{least_with, taking_refusal}
use Rattle.unit_state.proofs.Found.{found, found_passes, found_there}
use Rattle.unit_state.proofs.KeyRules.{equal_number}
use Rattle.unit_state.proofs.RulesKept.{there, some_there, some_and}
use Rattle.unit_state.proofs.SaRules.{judged}
use Rattle.sdls_base.specs.Bounds.{IsKeyCount}
use Rattle.ep_codec.specs.Command.{IsInBounds}
use Rattle.ep_codec.specs.declared.command.Command.{Command}
use Rattle.ep_codec.specs.declared.command.Command.TheVariants.{Rekeying, Activate, Deactivate, Verify, Destroy}
use Rattle.ep_codec.specs.declared.command.Command.TheVariants.{Inventory, Compose, ReadNumber, Create, Delete}
use Rattle.ep_codec.specs.declared.command.Command.TheVariants.{SetWindow, Rekey, Expire, SetNumber, Start, Stop}
use Rattle.ep_codec.specs.declared.command.Command.TheVariants.{Status}
use Rattle.ep_codec.specs.declared.reply_pdu.ReplyPdu.{ReplyPdu}
use Rattle.ep_codec.specs.declared.reply_pdu.ReplyPdu.TheVariants as replies
use Rattle.ep_codec.proofs.FieldFacts.{low_bound}
use Rattle.ep_core.specs.declared.judging.Need.TheVariants as needs
use Rattle.ep_core.specs.declared.refusal.Refusal.{Refusal}
use Rattle.ep_core.specs.declared.refusal.Refusal.TheVariants.{BadTag, BadItems, NotMaster}
use Rattle.ep_core.specs.declared.refusal.Reply.{Reply}
use Rattle.ep_core.specs.Need.{sends, is_sending, sending_key, sending_key_of, need_of}
use Rattle.ep_core.specs.Refusals.{by_state, from_keys, is_master, from_associations, refusal_of, opened, items_of}
use Rattle.ep_core.specs.Refusals.{master_checks, text_checks, unless_free, unless_known, unless_takes, least_at}
use Rattle.ep_core.specs.Refusals.{least_of, unless_active}
use Rattle.ep_core.specs.Sealed.{front, item_fault, item_at, items_fault, items_in}
use Rattle.ep_core.specs.Seen.{MeetsNeed, IsWord, word_of}
use Rattle.ep_core.specs.Step.{IsStep, IsDone, refused, done}
use Rattle.ep_core.proofs.Checks.{rekey_told}
use Rattle.ep_core.proofs.ComposeFacts.{none_append}
use Rattle.ep_core.proofs.Free.{told_load, told_moves, keys_free, associations_free, tells_free, tells_create}
use Rattle.ep_core.proofs.Free.{tells_rekey, tells_set_number, tells_start, tells_stop, tells_expire, tells_window}
use Rattle.ep_core.proofs.Free.{rekey_weaker, set_number_weaker}
use Rattle.ep_core.proofs.ItemFacts.{whole, high_not_0, going, later, front_item}
use Rattle.ep_core.proofs.Rules.{row_rules}
use Rattle.ep_core.proofs.SealedFacts.{passed_both}
use Rattle.ep_core.proofs.Steps.{each_of, length-gctr}

-- ---- keys to be loaded

session_class : (id : ℕ) → 256 ≤ id → class_of id ≢ Master
session_class id high e = grind (arith, nat_tests)

item_length : (at : ℕ) (s : List ℕ) → item_fault at s ≡ None → IsKeyLength (get_or s 2 0)
item_length at s none = grind (arith, nat_tests)

session_item : (at : ℕ) (s : List ℕ) → item_fault at s ≡ None → IsSessionKey (item_at s)
session_item at s none =
    let long = whole at s none in
    let some = high_not_0 at s none in
    let octets : length (take (get_or s 2 0) (drop 3 s)) ≡ get_or s 2 0 =
    omega (arith, length-take (get_or s 2 0) (drop 3 s), length-drop 3 s) in
    record {
      class = session_class (item_at s).id (omega (arith, some, word (get_or s 0 0) (get_or s 1 0)));
      length = subst IsKeyLength (sym octets) (item_length at s none);
    }

session_items : (left at : ℕ) (s : List ℕ) → items_fault left at s ≡ None
    → AllByRecursion IsSessionKey (items_in left s)
session_items zero at s none = tt
session_items (suc k) at [] none = tt
session_items (suc k) at (x ∷ s) none =
    let text : List ℕ = x ∷ s in
    let some : 0 < length text = omega arith in
    let fine = (going (suc k) at text some none).1 in
    let rest = sym (later (suc k) k at text refl some fine) ∙ none in
    let long : 3 ≤ length text = omega (arith, whole at text fine) in
    subst (AllByRecursion IsSessionKey) (sym (front_item (suc k) k text refl long))
    (session_item at text fine, session_items k (at + (3 + get_or text 2 0)) (drop (3 + get_or text 2 0) text) rest)

items_most : (left at : ℕ) (s : List ℕ) → items_fault left at s ≡ None → length (items_in left s) ≤ left
items_most zero at s none = omega arith
items_most (suc k) at [] none = omega arith
items_most (suc k) at (x ∷ s) none =
    let text : List ℕ = x ∷ s in
    let some : 0 < length text = omega arith in
    let fine = (going (suc k) at text some none).1 in
    let rest = sym (later (suc k) k at text refl some fine) ∙ none in
    let long : 3 ≤ length text = omega (arith, whole at text fine) in
    let behind = items_most k (at + (3 + get_or text 2 0)) (drop (3 + get_or text 2 0) text) rest in
    omega (arith, ap length (front_item (suc k) k text refl long), behind)

items_least : (k at : ℕ) (s : List ℕ) → 0 < length s → items_fault (suc k) at s ≡ None → 1 ≤ length (items_in (suc k) s)
items_least k at s some none =
    let fine = (going (suc k) at s some none).1 in
    let long : 3 ≤ length s = omega (arith, whole at s fine) in
    omega (arith, ap length (front_item (suc k) k s refl long))

-- a text that was opened is as long as what was sealed
record Opened (opened : Option (List ℕ)) (sealed : List ℕ) : Type 0 where
  text : List ℕ
  is : opened ≡ Some text
  same : length text ≡ length sealed

gcm_opened : (key iv aad sealed tag : List ℕ) (o : Option (List ℕ)) → gcm_open key iv aad sealed tag ≡ o
    → is_none o ≡ false → Opened o sealed
gcm_opened key iv aad sealed tag o e some =
    by (bytes_eq tag (tag_of key iv aad sealed)) o e some
  where
    by : (b : Bool) (o : Option (List ℕ)) → (if b then Some (gctr key iv sealed) else None) ≡ o → is_none o ≡ false
        → Opened o sealed
    by true o e some = record { text = gctr key iv sealed; is = sym e; same = length-gctr key iv sealed }
    by false o e some = absurd (let none : true ≡ false = ap is_none e ∙ some in cc)

opened_text : (row : Option KeyRow) (vector aad sealed tag : List ℕ)
    → is_none (option_and_then (λ (held : KeyRow). gcm_open held.bytes vector aad sealed tag) row) ≡ false
    → Opened (option_and_then (λ (held : KeyRow). gcm_open held.bytes vector aad sealed tag) row) sealed
opened_text None vector aad sealed tag some = absurd cc
opened_text (Some held) vector aad sealed tag some = gcm_opened held.bytes vector aad sealed tag _ refl some

there_is : {A : Type 0} (o : Option A) (refusal : Refusal) → fails_if (is_none o) refusal ≡ None → is_none o ≡ false
there_is None refusal none = absurd cc
there_is (Some x) refusal none = refl

not_mapped : {A B : Type 0} (f : A → B) (o : Option A) → option_map f o ≡ None → o ≡ None
not_mapped f None none = refl
not_mapped f (Some x) none = absurd cc

load_allowed : (state : State) (text : Option (List ℕ)) (sealed : List ℕ) → Any IsActiveMaster state.keys
    → Opened text sealed → 0 < length sealed
    → first_told (text_checks state text) ≡ None → AllowsLoad state (items_of text)
load_allowed state text sealed master is some none =
    let items_check = option_map BadItems (option_and_then (items_fault 8 0) text) in
    let book_check = from_keys (load_refusal state.keys (items_of text)) in
    let behind = (passed_both (fails_if (is_none text) BadTag) (items_check ∷ book_check ∷ []) none).1 in
    let checks = passed_both items_check (book_check ∷ []) behind in
    let book = (passed_both book_check [] checks.1).0 in
    let right : items_fault 8 0 is.text ≡ None =
    sym (ap (λ (o : Option (List ℕ)). option_and_then (items_fault 8 0) o) is.is)
    ∙ not_mapped BadItems (option_and_then (items_fault 8 0) text) checks.0 in
    let long : 0 < length is.text = omega (arith, is.same) in
    let items : items_of text ≡ items_in 8 is.text = ap items_of is.is in
    record {
      master = master;
      count = record {
        least = omega (arith, ap length items, items_least 7 0 is.text long right);
        most = omega (arith, ap length items, items_most 8 0 is.text right);
      };
      each = each_of IsSessionKey (items_of text)
          (subst (AllByRecursion IsSessionKey) (sym items) (session_items 8 0 is.text right));
      book = keys_free _ (told_load state.keys (items_of text)) book;
    }

master_of : (class : KeyClass) (id : ℕ) → fails_if (not (is_master class)) (NotMaster id) ≡ None → class ≡ Master
master_of Master id none = refl
master_of Gcm id none = absurd cc
master_of Cmac id none = absurd cc

active_of : (state : KeyState) → unless_active state ≡ None → state ≡ Active
active_of PreActive none = absurd cc
active_of Active none = refl
active_of Deactivated none = absurd cc
active_of Destroyed none = absurd cc

master_there : (state : State) (master : ℕ) (row : Option KeyRow) → key_row state master ≡ row
    → unless_known master row ≡ None
    → fails_if (not (is_master (class_of master))) (NotMaster master) ≡ None → by_state unless_active row ≡ None
    → Any IsActiveMaster state.keys
master_there state master None there known class active = absurd cc
master_there state master (Some held) there known class active =
    let same =
    equal_number held.id master (found_passes (λ (row : KeyRow). nat_eq row.id master) state.keys held there) in
    found_there IsActiveMaster (λ (row : KeyRow). nat_eq row.id master) state.keys held there
    (record {
      class = ap class_of same ∙ master_of (class_of master) master class;
      state = active_of held.state active;
    })

active_master : (state : State) (master : ℕ) → first_told (master_checks state master) ≡ None
    → Any IsActiveMaster state.keys
active_master state master none =
    let class = fails_if (not (is_master (class_of master))) (NotMaster master) in
    let active = by_state unless_active (key_row state master) in
    let one = passed_both (unless_known master (key_row state master)) (class ∷ active ∷ []) none in
    let two = passed_both class (active ∷ []) one.1 in
    let three = passed_both active [] two.1 in
    master_there state master (key_row state master) refl one.0 two.0 three.0

rekeying_allowed : (state : State) (master : ℕ) (vector sealed tag : List ℕ) → 19 ≤ length sealed
    → first_told (master_checks state master) ≡ None
    → first_told (text_checks state (opened state master vector sealed tag)) ≡ None
    → AllowsLoad state (items_of (opened state master vector sealed tag))
rekeying_allowed state master vector sealed tag long known none =
    let text = opened state master vector sealed tag in
    let items_check = option_map BadItems (option_and_then (items_fault 8 0) text) in
    let book_check = from_keys (load_refusal state.keys (items_of text)) in
    let some =
    there_is text BadTag (passed_both (fails_if (is_none text) BadTag) (items_check ∷ book_check ∷ []) none).0 in
    load_allowed state text sealed (active_master state master known)
    (opened_text (key_row state master) vector (front master (length sealed)) sealed tag some) (omega (arith, long))
    none

-- ---- keys that take a state

states_allowed : (state : State) (keys : List ℕ) (to : KeyState) → IsKeyCount (length keys)
    → from_keys (moves_refusal state.keys keys to (in_use state.associations)) ≡ None → AllowsStates state keys to
states_allowed state keys to count none =
    record {
      count = count;
      book = keys_free _ (told_moves state.keys keys to (in_use state.associations)) none;
    }

-- ---- the word that was seen

is_word : (seen : Seen) → IsWord seen → 1 ≤ word_of seen
is_word seen.Nothing is = absurd is
is_word (seen.Word word) is = is
is_word (seen.Number number) is = absurd is
is_word (seen.Exhausted number) is = absurd is

word_seen : (state : State) (command : Command) (s : Seen) (key number : ℕ) (o : Option Refusal)
    → refusal_of state command seen.Nothing ≡ o
    → MeetsNeed state (if is_some o then needs.Nothing else needs.Raise key number) s
    → refusal_of state command s ≡ None → 1 ≤ word_of s
word_seen state command s key number None e fits none = is_word s fits
word_seen state command s key number (Some refusal) e fits none =
    absurd (let wrong : Some refusal ≡ None = sym e ∙ sym (ap (refusal_of state command) fits) ∙ none in cc)

least_below : (direction : Direction) (held : KeyRow) (word : ℕ) → (direction ≡ Send → 1 ≤ word)
    → least_with 1 direction held ≤ least_with word direction held
least_below Send held word seen = seen refl
least_below Receive held word seen = omega arith

-- ---- a key for an association

known_key : (key : ℕ) (row : Option KeyRow) → unless_known key row ≡ None → IsSome row
known_key key None none = absurd cc
known_key key (Some held) none = refl

unkeyed : (s : SaState) → unless_unkeyed s ≡ None → s ≡ Unkeyed
unkeyed Unkeyed none = refl
unkeyed Keyed none = absurd cc
unkeyed Operational none = absurd cc

-- the word behind a sending association that takes a key
rekey_word : (state : State) (spi key number : ℕ) (s : Seen) (b : Bool) → b ≡ true
    → MeetsNeed state (if is_some (refusal_of state (Rekey spi key number) seen.Nothing) then needs.Nothing
    else (if b then needs.Raise key number else needs.Nothing)) s
    → refusal_of state (Rekey spi key number) s ≡ None → 1 ≤ word_of s
rekey_word state spi key number s true sends fits none =
    word_seen state (Rekey spi key number) s key number _ refl fits none
rekey_word state spi key number s false sends fits none = absurd cc

sends_with : (state : State) (spi : ℕ) (row : SaRow) → association_row state spi ≡ Some row → row.direction ≡ Send
    → sends state spi ≡ true
sends_with state spi row e send =
    ap (λ (o : Option SaRow). option_map_or (λ (row : SaRow). is_sending row.direction) o false) e ∙ ap is_sending send

rekey_allowed : (state : State) (spi key number : ℕ) (s : Seen)
    → MeetsNeed state (need_of state (Rekey spi key number)) s
    → refusal_of state (Rekey spi key number) s ≡ None → AllowsRekey state spi key number
rekey_allowed state spi key number s fits none =
    let free_check = from_associations spi None (unless_free state spi) in
    let key_check = unless_known key (key_row state key) in
    let takes_check = from_associations spi (Some key) (unless_takes state spi key number (word_of s)) in
    let one = passed_both free_check (key_check ∷ takes_check ∷ []) none in
    let known = (passed_both key_check (takes_check ∷ []) one.1).0 in
    let at = judged state.associations spi (λ (row : SaRow). unless_unkeyed row.state)
    (associations_free spi None (unless_free state spi) (tells_free None (association_row state spi)) one.0) in
    let t = some_there (key_row state key) (known_key key (key_row state key) known) in
    let takes : taking_refusal state spi key number (word_of s) at.row t.row ≡ None =
    associations_free spi (Some key)
    _ (tells_rekey state.associations spi key t.row.state number (least_with (word_of s) at.row.direction t.row))
    (sym (rekey_told state spi key number (word_of s) at.row t.row at.there (unkeyed at.row.state at.free) t.is)
    ∙ none) in
    let least = least_below at.row.direction t.row (word_of s)
    (λ send. rekey_word state spi key number s (sends state spi) (sends_with state spi at.row at.there send) fits
    none) in
    some_and _ at.row _ at.there
    (some_and _ t.row _ t.is
    (rekey_weaker state.associations spi key t.row.state number (least_with 1 at.row.direction t.row)
    (least_with (word_of s) at.row.direction t.row) least takes))

-- ---- a number for an association

number_word : (state : State) (spi number : ℕ) (s : Seen) (o : Option ℕ) → IsSome o
    → MeetsNeed state (if is_some (refusal_of state (SetNumber spi number) seen.Nothing) then needs.Nothing
    else option_map_or (λ key. needs.Raise key number) o needs.Nothing) s
    → refusal_of state (SetNumber spi number) s ≡ None → 1 ≤ word_of s
number_word state spi number s None some fits none = absurd cc
number_word state spi number s (Some key) some fits none =
    word_seen state (SetNumber spi number) s key number _ refl fits none

sends_key : (state : State) (spi key : ℕ) (row : SaRow) → association_row state spi ≡ Some row → row.key ≡ Some key
    → row.direction ≡ Send
    → sending_key state spi ≡ Some key
sends_key state spi key row e holds send =
    ap (λ (o : Option SaRow). option_and_then sending_key_of o) e
    ∙ ap (λ (d : Direction). if is_sending d then row.key else None) send ∙ holds

has_key : (row : SaRow) (o : Option ℕ) → IsSaRow row → row.key ≡ o → if_unkeyed row.state ≡ None → IsSome o
has_key row None is e none =
    absurd (let state : row.state ≡ Unkeyed = is.keyless.1 (subst IsNone (sym e) refl) in
    let wrong : if_unkeyed Unkeyed ≡ None = sym (ap if_unkeyed state) ∙ none in cc)
has_key row (Some key) is e none = refl

least_is : (state : State) (spi key word : ℕ) (row : SaRow) (held : KeyRow) → association_row state spi ≡ Some row
    → row.key ≡ Some key
    → key_row state key ≡ Some held → least_at state spi word ≡ least_with word row.direction held
least_is state spi key word row held e holds is =
    ap (λ (o : Option SaRow). option_map_or (least_of state word) o word) e
    ∙ ap (λ (o : Option ℕ). option_map_or (least_with word row.direction) (option_and_then (key_row state) o) word)
    holds
    ∙ ap (λ (o : Option KeyRow). option_map_or (least_with word row.direction) o word) is

number_allowed : (state : State) (spi number : ℕ) (s : Seen) → KeepsRules state
    → MeetsNeed state (need_of state (SetNumber spi number)) s
    → refusal_of state (SetNumber spi number) s ≡ None → AllowsNumber state spi number
number_allowed state spi number s rules fits none =
    let least : ℕ = least_at state spi (word_of s) in
    let free : set_number_refusal state.associations spi number least ≡ None =
    associations_free spi None _ (tells_set_number state.associations spi number least) none in
    let at = judged state.associations spi
    (λ (row : SaRow). first_told (if_unkeyed row.state ∷ number_refusal_of row.key number least ∷ [])) free in
    let row : SaRow = at.row in
    let keyed = (passed_both (if_unkeyed row.state) (number_refusal_of row.key number least ∷ []) at.free).0 in
    let k = some_there row.key (has_key row row.key (row_rules state spi row rules at.there) refl keyed) in
    let has : HasKey state.keys row = found (HasKey state.keys) _ state.associations row at.there rules.held in
    let t = there (key_row state k.row) (MayHold row)
    (subst (λ (o : Option ℕ). IfSome o (λ key. IsSomeAnd (key_row state key) (MayHold row))) k.is has) in
    let below = least_below row.direction t.row (word_of s)
    (λ send. number_word state spi number s (sending_key state spi)
    (subst IsSome (sym (sends_key state spi k.row row at.there k.is send)) refl) fits none) in
    let le : least_with 1 row.direction t.row ≤ least =
    omega (arith, below, least_is state spi k.row (word_of s) row t.row at.there k.is t.is) in
    some_and _ row _ at.there
    (some_and _ k.row _ k.is
    (some_and _ t.row _ t.is
    (set_number_weaker state.associations spi number (least_with 1 row.direction t.row) least le free)))

-- ---- all commands

record Free (state : State) (command : Command) (s : Seen) (step : Change × Reply) : Type 0 where
  told : refusal_of state command s ≡ None
  is : IsDone state command s step

step_free : (state : State) (command : Command) (s : Seen) (step : Change × Reply) (o : Option Refusal)
    → refusal_of state command s ≡ o
    → MatchOption o (IsDone state command s step) (λ refusal. step ≡ refused refusal) → step.0 ≢ changes.Nothing
    → Free state command s step
step_free state command s step None e is some = record { told = e; is = is }
step_free state command s step (Some refusal) e is some = absurd (some (ap (λ (step : Change × Reply). step.0) is))

-- a step whose change is known
with_change : (state : State) (change : Change) (pdu : ReplyPdu) (step : Change × Reply) → step ≡ done change pdu
    → Allows state change → Allows state step.0
with_change state change pdu step is allowed =
    subst (Allows state) (sym (ap (λ (step : Change × Reply). step.0) is)) allowed

-- or that changes nothing
no_change : {A : Type 0} (o : Option A) (step : Change × Reply) (made : A → Change × Reply)
    → ((x : A) → (made x).0 ≡ changes.Nothing)
    → IsSomeAnd o (λ x. step ≡ made x) → step.0 ≡ changes.Nothing
no_change None step made nothing is = absurd is
no_change (Some x) step made nothing is = ap (λ (step : Change × Reply). step.0) is ∙ nothing x

done_allowed : (state : State) (command : Command) (s : Seen) (step : Change × Reply) → KeepsRules state
    → IsInBounds command
    → MeetsNeed state (need_of state command) s → refusal_of state command s ≡ None → IsDone state command s step
    → step.0 ≢ changes.Nothing
    → Allows state step.0
unfolding IsInBounds
done_allowed state (Rekeying master vector sealed tag) s step rules bounds fits none is some =
    let text = opened state master vector sealed tag in
    let both = none_append (master_checks state master) (text_checks state text) none in
    with_change state _ replies.Rekeying step is
    (rekeying_allowed state master vector sealed tag (low_bound 19 280 (length sealed) bounds) both.0 both.1)
done_allowed state (Activate keys) s step rules bounds fits none is some =
    with_change state _ replies.Activate step is (states_allowed state keys Active bounds none)
done_allowed state (Deactivate keys) s step rules bounds fits none is some =
    with_change state _ replies.Deactivate step is (states_allowed state keys Deactivated bounds none)
done_allowed state (Verify key challenge) s step rules bounds fits none is some =
    absurd (some (no_change (key_row state key) step _ (λ _. refl) is))
done_allowed state (Destroy keys) s step rules bounds fits none is some =
    with_change state _ replies.Destroy step is (states_allowed state keys Destroyed bounds none)
done_allowed state (Inventory first last) s step rules bounds fits none is some =
    absurd (some (ap (λ (step : Change × Reply). step.0) is.2))
done_allowed state (Compose master keys) s step rules bounds fits none is some =
    absurd (some (no_change (key_row state master) step _ (λ _. refl) is))
done_allowed state (ReadNumber spi) s step rules bounds fits none is some =
    absurd (some (no_change (association_row state spi) step _ (λ _. refl) is))
done_allowed state (Create new) s step rules bounds fits none is some =
    with_change state _ replies.Create step is
    (record {
      window = bounds.0;
      channels = bounds.1;
      numbers = each_of (λ channel. channel ≤ 63) new.channels bounds.2;
      book = associations_free new.spi None _ (tells_create state.associations new state.channels) none;
    })
done_allowed state (Delete spi) s step rules bounds fits none is some =
    with_change state _ replies.Delete step is
    (associations_free spi None _ (tells_free None (association_row state spi)) none)
done_allowed state (SetWindow spi window) s step rules bounds fits none is some =
    with_change state _ replies.SetWindow step is
    (record { bounds = bounds; book = associations_free spi None _ (tells_window state.associations spi) none })
done_allowed state (Rekey spi key number) s step rules bounds fits none is some =
    with_change state _ replies.Rekey step is (rekey_allowed state spi key number s fits none)
done_allowed state (Expire spi) s step rules bounds fits none is some =
    with_change state _ replies.Expire step is
    (associations_free spi None _ (tells_expire state.associations spi) none)
done_allowed state (SetNumber spi number) s step rules bounds fits none is some =
    with_change state _ replies.SetNumber step is (number_allowed state spi number s rules fits none)
done_allowed state (Start spi) s step rules bounds fits none is some =
    with_change state _ replies.Start step is
    (associations_free spi None _ (tells_start state.associations spi) none)
done_allowed state (Stop spi) s step rules bounds fits none is some =
    with_change state _ replies.Stop step is
    (associations_free spi None _ (tells_stop state.associations spi) none)
done_allowed state (Status spi) s step rules bounds fits none is some =
    absurd (some (no_change (association_row state spi) step _ (λ _. refl) is))

some_allowed : (state : State) (command : Command) (s : Seen) (step : Change × Reply) → KeepsRules state
    → IsInBounds command
    → MeetsNeed state (need_of state command) s → IsStep state command s step → step.0 ≢ changes.Nothing
    → Allows state step.0
some_allowed state command s step rules bounds fits is some =
    let free = step_free state command s step (refusal_of state command s) refl is some in
    done_allowed state command s step rules bounds fits free.told free.is some

-- nothing is allowed always
allowed_always : (state : State) (change : Change) → (change ≢ changes.Nothing → Allows state change)
    → Allows state change
allowed_always state (changes.Marks key mark floor) some = some (λ e. absurd (cc))
allowed_always state (changes.Load items) some = some (λ e. absurd (cc))
allowed_always state (changes.KeyStates ids to) some = some (λ e. absurd (cc))
allowed_always state (changes.Create new) some = some (λ e. absurd (cc))
allowed_always state (changes.Rekey spi key number) some = some (λ e. absurd (cc))
allowed_always state (changes.SaTo spi to) some = some (λ e. absurd (cc))
allowed_always state (changes.SetNumber spi number) some = some (λ e. absurd (cc))
allowed_always state (changes.SetWindow spi window) some = some (λ e. absurd (cc))
allowed_always state (changes.Accepted spi key number floor) some = some (λ e. absurd (cc))
allowed_always state changes.Nothing some = tt

pub change_allowed : (state : State) (command : Command) (s : Seen) (step : Change × Reply) → KeepsRules state
    → IsInBounds command
    → MeetsNeed state (need_of state command) s → IsStep state command s step → Allows state step.0
change_allowed state command s step rules bounds fits is =
    allowed_always state step.0 (some_allowed state command s step rules bounds fits is)
