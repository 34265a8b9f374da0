-- Releases, one key after another.
use Rattle.std.proofs.Common.{◌≡◌, ℕ, zero, suc, ◌+◌, ◌<◌, ◌≤◌, min, Bool, true, false, cond, List, [], ◌∷◌, ◌++◌}
use Rattle.std.proofs.Common.{length, get_or, drop, Option, Some, None, Result, Ok, Err, refl, sym, ◌∙◌, ap, subst}
use Rattle.std.proofs.Common.{arith}
use Rattle.std.specs.Prelude.{MatchOption, MatchResult}
use Rattle.std.specs.List.{find, slice_get, All}
use Rattle.std.specs.Option.{option_map, option_map_or, option_and_then}
use Rattle.std.proofs.lemmas.List.{append_assoc, drop_more}
use Rattle.std.proofs.lemmas.List.Elements.{All-head, All-tail}
use Rattle.std.proofs.lemmas.Option.{none-some, same_Some}
use Rattle.sdls_base.proofs.Searches.{find-map, left_out}
use Rattle.sdls_base.specs.declared.entry.Change.TheVariants.{Marks}
use Rattle.sdls_base.specs.declared.entry.Entry.{Entry}
use Rattle.sdls_base.specs.declared.entry.Seen.TheVariants.{Word}
use Rattle.key_book.specs.declared.key_row.KeyRow.{KeyRow}
use Rattle.sa_book.specs.declared.sa_book.SaRow.{SaRow}
use Rattle.sa_book.specs.Numbers.{with_floor, lowered}
use Rattle.sa_book.specs.SaRefusal.{receives_with, receiver_with}
use Rattle.unit_state.specs.declared.state.State.{State}
use Rattle.unit_state.specs.Applied.{applied}
use Rattle.unit_book.specs.declared.fault.BookFault.{BookFault}
use Rattle.unit_book.specs.Book.{BookView, Made, Refuses}
use Rattle.run_promise.specs.Numbers.{released_floor, is_released, release_of, release_at, releases}
use Rattle.unit_book.specs.Numbers.{EnteredInTurn, Releases}
use Rattle.unit_book.specs.Receivers.{TellsReceivers}

-- the releases before a place are made, and those from it on are what is left
pub record SoFar (words : List ℕ) (place : ℕ) (old mid : BookView) : Type 0 where
  pub made : List Entry
  pub are_made : EnteredInTurn made old mid
  pub all : made ++ releases mid.state place (drop place words) ≡ releases old.state 0 words

-- how one release ends
abbrev pub IsRelease : Option Entry → BookView → BookView → Result (Unit {0}) BookFault → Type 0
IsRelease release old new result = MatchOption release ((result ≡ Ok tt) × (new ≡ old))
    (λ entry. MatchResult result (λ _. (position : ℕ) × Made entry old new position) (Refuses entry old new))

pub none_so_far : (words : List ℕ) (old : BookView) → SoFar words 0 old old
none_so_far words old = record { made = []; are_made = refl; all = refl }

all_made_more : (made : List Entry) (entry : Entry) (old mid new : BookView) (position : ℕ)
    → EnteredInTurn made old mid → Made entry mid new position → EnteredInTurn (made ++ entry ∷ []) old new
all_made_more [] entry old mid new position are made =
    (new, position, subst (λ (b : BookView). Made entry b new position) are made, refl)
all_made_more (first ∷ rest) entry old mid new position (next, at, is, are) made =
    (next, at, is, all_made_more rest entry next mid new position are made)

state_after : (entry : Entry) (old new : BookView) (position : ℕ) → Made entry old new position
    → new.state ≡ applied old.state entry.change
state_after entry old new position made = ap (λ (b : BookView). b.state) made.1.is

-- what is left from a place on, by the release at it
left_none : (state : State) (place word : ℕ) (rest : List ℕ) → release_at state place word ≡ None
    → releases state place (word ∷ rest) ≡ releases state (place + 1) rest
left_none state place word rest is =
    ap (λ (o : Option Entry). option_map_or
    (λ (entry : Entry). entry ∷ releases (applied state entry.change) (place + 1) rest) o
    (releases state (place + 1) rest)) is

left_some : (state : State) (place word : ℕ) (rest : List ℕ) (entry : Entry) → release_at state place word ≡ Some entry
    → releases state place (word ∷ rest) ≡ entry ∷ releases (applied state entry.change) (place + 1) rest
left_some state place word rest entry is =
    ap (λ (o : Option Entry). option_map_or
    (λ (entry : Entry). entry ∷ releases (applied state entry.change) (place + 1) rest) o
    (releases state (place + 1) rest)) is

more_by : (words : List ℕ) (place word : ℕ) (old mid new : BookView) (result : Result (Unit {0}) BookFault)
    (release : Option Entry)
    → release_at mid.state place word ≡ release → drop place words ≡ word ∷ drop (place + 1) words
    → SoFar words place old mid
    → IsRelease release mid new result → result ≡ Ok tt → SoFar words (place + 1) old new
more_by words place word old mid new result None is cut so_far release ok =
    subst (λ (b : BookView). SoFar words (place + 1) old b) (sym release.1)
    (record {
      made = so_far.made;
      are_made = so_far.are_made;
      all = ap (λ (entries : List Entry). so_far.made ++ entries)
          (sym (ap (releases mid.state place) cut ∙ left_none mid.state place word (drop (place + 1) words) is))
          ∙ so_far.all;
    })
more_by words place word old mid new (Err fault) (Some entry) is cut so_far release ok = absurd cc
more_by words place word old mid new (Ok done) (Some entry) is cut so_far (position, made) ok = record {
  made = so_far.made ++ entry ∷ [];
  are_made = all_made_more so_far.made entry old mid new position so_far.are_made made;
  all = append_assoc so_far.made (entry ∷ []) (releases new.state (place + 1) (drop (place + 1) words))
      ∙ ap (λ (state : State). so_far.made ++ entry ∷ releases state (place + 1) (drop (place + 1) words))
      (state_after entry mid new position made)
      ∙ ap (λ (entries : List Entry). so_far.made ++ entries)
      (sym (ap (releases mid.state place) cut ∙ left_some mid.state place word (drop (place + 1) words) entry is))
      ∙ so_far.all;
}

pub so_far_more : (words : List ℕ) (place d : ℕ) (old mid new : BookView) (result : Result (Unit {0}) BookFault)
    → place < length words → SoFar words place old mid
    → IsRelease (release_at mid.state place (get_or words place d)) mid new result → result ≡ Ok tt
    → SoFar words (place + 1) old new
so_far_more words place d old mid new result low so_far release ok =
    more_by words place (get_or words place d) old mid new result (release_at mid.state place (get_or words place d))
    refl
    (drop_more words place d low) so_far release ok

not_ok : (result : Result (Unit {0}) BookFault) (fault : BookFault) → result ≡ Err fault → ¬ (result ≡ Ok tt)
not_ok result fault is ok = cc

refused_by : (words : List ℕ) (place word : ℕ) (old mid new : BookView) (fault : BookFault) (release : Option Entry)
    → release_at mid.state place word ≡ release → drop place words ≡ word ∷ drop (place + 1) words
    → SoFar words place old mid
    → IsRelease release mid new (Err fault) → Releases words old new (Err fault)
refused_by words place word old mid new fault None is cut so_far release =
    absurd (not_ok (Err fault) fault refl release.0)
refused_by words place word old mid new fault (Some entry) is cut so_far release = record {
  made = so_far.made;
  rest = entry ∷ releases (applied mid.state entry.change) (place + 1) (drop (place + 1) words);
  all = ap (λ (entries : List Entry). so_far.made ++ entries)
      (sym (ap (releases mid.state place) cut ∙ left_some mid.state place word (drop (place + 1) words) entry is))
      ∙ so_far.all;
  mid = mid;
  are_made = so_far.are_made;
  ends = release;
}

pub releases_refused : (words : List ℕ) (place d : ℕ) (old mid new : BookView) (fault : BookFault)
    → place < length words → SoFar words place old mid
    → IsRelease (release_at mid.state place (get_or words place d)) mid new (Err fault)
    → Releases words old new (Err fault)
releases_refused words place d old mid new fault low so_far release =
    refused_by words place (get_or words place d) old mid new fault (release_at mid.state place (get_or words place d))
    refl
    (drop_more words place d low) so_far release

-- behind the last key nothing is left
none_there : (rows : List KeyRow) (place : ℕ) → length rows ≤ place → slice_get rows place ≡ None
none_there [] place low = refl
none_there (row ∷ rows) zero low = absurd (let no : ⊥ = omega arith in no)
none_there (row ∷ rows) (suc place) low = none_there rows place (omega arith)

none_left : (state : State) (place : ℕ) (words : List ℕ) → length state.keys ≤ place → releases state place words ≡ []
none_left state place [] low = refl
none_left state place (word ∷ words) low =
    left_none state place word words
    (ap (λ (o : Option KeyRow). option_and_then (release_of state word) o) (none_there state.keys place low))
    ∙ none_left state (place + 1) words (omega arith)

pub releases_done : (words : List ℕ) (place : ℕ) (old mid : BookView) → length mid.state.keys ≤ place
    → SoFar words place old mid → Releases words old mid (Ok tt)
releases_done words place old mid low so_far = record {
  made = so_far.made;
  rest = [];
  all = ap (λ (entries : List Entry). so_far.made ++ entries) (sym (none_left mid.state place (drop place words) low))
      ∙ so_far.all;
  mid = mid;
  are_made = so_far.are_made;
  ends = refl;
}

-- ---- a release leaves each association its key

-- what each element fails nothing is found by
pub none_found : {X : Type 0} (p : X → Bool) (xs : List X) → All (λ x. p x ≡ false) xs → find p xs ≡ None
none_found p [] all = refl
none_found p (x ∷ xs) all =
    left_out (p x) (Some x) (find p xs) (All-head (λ x. p x ≡ false) x xs all)
    ∙ none_found p xs (All-tail (λ x. p x ≡ false) x xs all)

row_receives : (b : Bool) (row : SaRow) (floor id : ℕ) → receives_with id (cond b (with_floor row floor) row)
    ≡ receives_with id row
row_receives true row floor id = refl
row_receives false row floor id = refl

none_lowered : (rows : List SaRow) (key floor id : ℕ) → receiver_with rows id ≡ None
    → receiver_with (lowered rows key floor) id ≡ None
none_lowered rows key floor id none =
    let f : SaRow → SaRow = λ row. cond (receives_with key row) (with_floor row floor) row in
    find-map (receives_with id) f rows (λ row. row_receives (receives_with key row) row floor id)
    ∙ ap (option_map f) none

told_by : (state : State) (word : ℕ) (held : KeyRow) (b : Bool) (entry : Entry) (places : List Bool)
    → cond b None
    (Some (record {
      index = None;
      seen = Word word;
      change =
          Marks held.id (min held.mark word) (released_floor state held);
    })) ≡ Some entry
    → TellsReceivers state.associations places → TellsReceivers (applied state entry.change).associations places
told_by state word held true entry places is tells = absurd (none-some entry is)
told_by state word held false entry places is tells =
    subst (λ (e : Entry). TellsReceivers (applied state e.change).associations places) (same_Some _ entry is)
    (λ key not. none_lowered state.associations held.id (released_floor state held) key (tells key not))

told_at : (state : State) (word : ℕ) (o : Option KeyRow) (entry : Entry) (places : List Bool)
    → option_and_then (release_of state word) o ≡ Some entry
    → TellsReceivers state.associations places → TellsReceivers (applied state entry.change).associations places
told_at state word None entry places is tells = absurd (none-some entry is)
told_at state word (Some held) entry places is tells =
    told_by state word held (is_released state held word) entry places is tells

told_then : (place word : ℕ) (mid new : BookView) (result : Result (Unit {0}) BookFault) (places : List Bool)
    (release : Option Entry)
    → release_at mid.state place word ≡ release → IsRelease release mid new result → result ≡ Ok tt
    → TellsReceivers mid.state.associations places → TellsReceivers new.state.associations places
told_then place word mid new result places None is release ok tells =
    subst (λ (b : BookView). TellsReceivers b.state.associations places) (sym release.1) tells
told_then place word mid new (Err fault) places (Some entry) is release ok tells = absurd cc
told_then place word mid new (Ok done) places (Some entry) is (position, made) ok tells =
    subst (λ (state : State). TellsReceivers state.associations places) (sym (state_after entry mid new position made))
    (told_at mid.state word (slice_get mid.state.keys place) entry places is tells)

pub still_tells : (place word : ℕ) (mid new : BookView) (result : Result (Unit {0}) BookFault) (places : List Bool)
    → IsRelease (release_at mid.state place word) mid new result → result ≡ Ok tt
    → TellsReceivers mid.state.associations places → TellsReceivers new.state.associations places
still_tells place word mid new result places release ok tells =
    told_then place word mid new result places (release_at mid.state place word) refl release ok tells
