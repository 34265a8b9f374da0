-- What the store of a change does to the image: for `store_storable`, `store_change` and `store`.
use Rattle.std.proofs.Common.{◌≡◌, ℕ, Bool, IsTrue, List, None, Some, refl, sym, ◌∙◌, ap, subst, inl, Result, Ok, Err}
use Rattle.std.proofs.Common.{OnOk}
use Rattle.std.specs.Prelude.{OnErr}
use Rattle.sdls_base.specs.declared.entry.Change.{Change}
use Rattle.sdls_base.specs.declared.entry.Change.TheVariants.{Marks, Load, KeyStates, Create, Rekey, SaTo, SetNumber}
use Rattle.sdls_base.specs.declared.entry.Change.TheVariants.{SetWindow, Accepted, Nothing}
use Rattle.sdls_base.specs.declared.version.Version.{Version}
use Rattle.sdls_base.specs.declared.version.Version.TheVariants.{Two}
use Rattle.sdls_outside.specs.Disk.{Leaves}
use Rattle.sdls_outside.specs.Moments.{Trace}
use Rattle.sdls_outside.proofs.Moments.{each_same, synced_leaves}
use Rattle.disk_journal.specs.Moments.{EachImage}
use Rattle.book_record.specs.Record.{IsRecord}
use Rattle.unit_state.specs.declared.state.State.{State}
use Rattle.unit_state.specs.Applied.{applied}
use Rattle.unit_state.specs.Allows.{Allows}
use Rattle.unit_state.specs.Restart.{IsStorable, restarted, stored_as}
use Rattle.unit_state.specs.State.{KeepsRules}
use Rattle.unit_state.proofs.Alike.{stores_well, unstored_alike}
use Rattle.unit_state.proofs.StateLaws.{restarted_twice}
use Rattle.unit_image.specs.Content.{content_of}
use Rattle.unit_image.specs.ContentReading.{IsContent}
use Rattle.disk_journal.specs.Banks.{version_of}
use Rattle.disk_journal.specs.declared.layout.Layout.{Layout}
use Rattle.disk_journal.specs.Image.{held, grown, turned, version_in}
use Rattle.disk_journal.specs.Forms.{Becomes}
use Rattle.disk_journal.specs.Journal.{IsSettled, JournalView}
use Rattle.disk_journal.specs.Rest.{IsRest}
use Rattle.disk_journal.proofs.Turns.{rest_becomes}
use Rattle.unit_image.specs.Image.{IsOfTwo}
use Rattle.unit_image.specs.Shows.{SaysState}
use Rattle.unit_image.specs.Storing.{Destroys, KeepsPlaces, LeavesRest, Stores, StoresChange}
use Rattle.unit_image.proofs.Turned.{says_grown, says_turned}

-- nothing was written: an image at rest stays so
pub resting : (now : Trace) (journal : JournalView) → IsSettled now journal
    → EachImage now now (Becomes (held now.now.image) (held now.now.image))
resting now journal settled = record {
  moments = each_same now (λ image sunk. Becomes (held now.now.image) (held now.now.image) image
      × (sunk ≡ now.now.sunk))
      (λ image leaves. (
        subst (Becomes (held now.now.image) (held now.now.image))
            (sym (synced_leaves now.now image settled.synced leaves)) here,
        refl,
      ));
  sunk = refl;
}
  where
    here : Becomes (held now.now.image) (held now.now.image) now.now.image
    here = rest_becomes (held now.now.image) (held now.now.image) now.now.image
        (inl (record { opens = settled.of_image.closed.of_image.opens; is = refl })) settled.of_image.closed.rests

pub on_ok : {T E P : Type 0} (result : Result T E) → P → OnOk result P
on_ok (Ok value) p = p
on_ok (Err error) p = tt

-- nothing is stored for the change
pub stores_none : {T E : Type 0} (state : State) (change : Change) (result : Result T E) (journal : JournalView)
    (now : Trace)
    → KeepsRules state → Allows state change → stored_as state change ≡ None → IsSettled now journal
    → Stores state change result journal now now
stores_none state change result journal now rules allowed none settled = record {
  next = held now.now.image;
  same_plan = refl;
  same_slots = refl;
  same_version = refl;
  says = λ says. subst (SaysState (held now.now.image)) (sym (unstored_alike state change rules allowed none)) says;
  moments = resting now journal settled;
  done = on_ok result (settled, refl);
}

-- another change was stored for it
pub stores_as : {T E : Type 0} (state : State) (change stored : Change) (result : Result T E) (journal : JournalView)
    (old new : Trace)
    → KeepsRules state → Allows state change → stored_as state change ≡ Some stored
    → Stores state stored result journal old new
    → Stores state change result journal old new
stores_as state change stored result journal old new rules allowed is stores = record {
  next = stores.next;
  same_plan = stores.same_plan;
  same_slots = stores.same_slots;
  same_version = stores.same_version;
  says = λ says. subst (SaysState stores.next) (sym (stores_well state change stored rules allowed is).alike)
      (stores.says says);
  moments = stores.moments;
  done = stores.done;
}

-- a record was appended, or its append failed
pub stores_record : {T E : Type 0} (state : State) (change : Change) (body : List ℕ) (result : Result T E)
    (journal : JournalView) (old new : Trace)
    → IsStorable change → Allows state change → IsRecord change body
    → EachImage old new (Becomes (held old.now.image) (grown body (held old.now.image)))
    → OnOk result (IsSettled new journal × (held new.now.image ≡ grown body (held old.now.image)))
    → Stores state change result journal old new
stores_record state change body result journal old new storable allowed is_record becomes done = record {
  next = grown body (held old.now.image);
  same_plan = refl;
  same_slots = refl;
  same_version = refl;
  says = λ says. says_grown (held old.now.image) state change change body says
      (record { storable = storable; allowed = allowed; alike = refl }) is_record;
  moments = becomes;
  done = done;
}

-- the content of the state after the change was written by a turn, or the turn failed
pub stores_turn : {T E : Type 0} (state : State) (change : Change) (content : List ℕ) (result : Result T E)
    (journal : JournalView) (old new : Trace)
    → IsContent Two (restarted (applied state change)) content → version_in old.now.image ≡ Two
    → EachImage old new (Becomes (held old.now.image) (turned content (held old.now.image)))
    → OnOk result (IsSettled new journal × (held new.now.image ≡ turned content (held old.now.image)))
    → Stores state change result journal old new
stores_turn state change content result journal old new is of_two becomes done = record {
  next = turned content (held old.now.image);
  same_plan = refl;
  same_slots = refl;
  same_version = refl;
  says = λ says. says_turned restarted_twice (held old.now.image) state change content says
      (subst (λ (version : Version). IsContent version (restarted (applied state change)) content) (sym of_two) is);
  moments = becomes;
  done = done;
}

-- the journal of an image of version 2
pub of_two : (now : Trace) (journal : JournalView) → IsSettled now journal → IsOfTwo journal
    → version_in now.now.image ≡ Two
of_two now journal settled two =
    ap (λ (layout : Layout). version_of layout.form) (sym settled.of_image.closed.of_image.layout) ∙ two.version

pub both : {T E : Type 0} (P Q : Type 0) (result : Result T E) → OnOk result P → OnOk result Q → OnOk result (P × Q)
both P Q (Ok value) p q = (p, q)
both P Q (Err error) p q = tt

-- each image that a crash leaves has the content that was turned in
pub turned_rest : {T E : Type 0} (Destroyed : Type 0) (state : State) (content : List ℕ) (result : Result T E)
    (journal : JournalView) (new : Trace)
    → content ≡ content_of Two state
    → OnOk result ((image : List ℕ) → Leaves new.now image → IsRest image journal.bank journal.generation content)
    → OnOk result (Destroyed → LeavesRest new journal state)
turned_rest Destroyed state content (Ok value) journal new is rest =
    λ _ image leaves. subst (IsRest image journal.bank journal.generation) is (rest image leaves)
turned_rest Destroyed state content (Err error) journal new is rest = tt

-- the journal after Ok has its places where it had them, and after an Err it is as it was
pub places_kept : {T E : Type 0} (result : Result T E) (before next after : JournalView)
    → next.plan_length ≡ before.plan_length
    → next.layout ≡ before.layout → OnOk result (after ≡ next) → OnErr result (after ≡ before)
    → KeepsPlaces before after
places_kept (Ok value) before next after length layout counted not_counted = record {
  plan_length = ap (λ (it : JournalView). it.plan_length) counted ∙ length;
  layout = ap (λ (it : JournalView). it.layout) counted ∙ layout;
}
places_kept (Err error) before next after length layout counted not_counted = record {
  plan_length = ap (λ (it : JournalView). it.plan_length) not_counted;
  layout = ap (λ (it : JournalView). it.layout) not_counted;
}

-- something is stored for a change that takes away the octets of keys
destroying_is_stored : (state : State) (change : Change) → Destroys change → stored_as state change ≡ None → ⊥
destroying_is_stored state (KeyStates ids to) destroys is = cc
destroying_is_stored state (Marks key mark floor) destroys is = destroys
destroying_is_stored state (Load items) destroys is = destroys
destroying_is_stored state (Create new) destroys is = destroys
destroying_is_stored state (Rekey spi key number) destroys is = destroys
destroying_is_stored state (SaTo spi to) destroys is = destroys
destroying_is_stored state (SetNumber spi number) destroys is = destroys
destroying_is_stored state (SetWindow spi window) destroys is = destroys
destroying_is_stored state (Accepted spi key number floor) destroys is = destroys
destroying_is_stored state Nothing destroys is = destroys

-- nothing is stored for the change, and nothing was done
pub none_stored : {T E : Type 0} (told : Bool) (state : State) (change : Change) (value : T) (journal : JournalView)
    (now : Trace)
    → KeepsRules state → Allows state change → stored_as state change ≡ None → (IsTrue told → IsSettled now journal)
    → (let stored : Result T E = Ok value in StoresChange told state change stored journal journal now now)
none_stored told state change value journal now rules allowed none settled = record {
  stores = λ is_told. stores_none state change (Ok value) journal now rules allowed none (settled is_told);
  gone = λ is_told destroys. absurd (destroying_is_stored state change destroys none);
  beside = λ is_told. record { same_length = refl; outside = λ i off. refl };
  places = record { plan_length = refl; layout = refl };
  not_counted = tt;
}

-- another change was stored for one that takes away no octets of keys
pub stored_for : {T E : Type 0} (told : Bool) (state : State) (change stored : Change) (result : Result T E)
    (before after : JournalView) (old new : Trace)
    → KeepsRules state → Allows state change → stored_as state change ≡ Some stored → (Destroys change → ⊥)
    → StoresChange told state stored result before after old new
    → StoresChange told state change result before after old new
stored_for told state change stored result before after old new rules allowed is keeps does = record {
  stores = λ is_told. stores_as state change stored result after old new rules allowed is (does.stores is_told);
  gone = λ is_told. on_ok result (λ destroys. absurd (keeps destroys));
  beside = does.beside;
  places = does.places;
  not_counted = does.not_counted;
}
