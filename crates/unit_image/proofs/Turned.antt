-- A record more, or a turn: for `says_grown` and `says_turned`.
use Rattle.std.proofs.Common.{◌≡◌, ℕ, List, [], ◌∷◌, refl, sym, ◌∙◌, ap}
use Rattle.sdls_base.specs.declared.entry.Change.{Change}
use Rattle.book_record.specs.Record.{IsRecord}
use Rattle.unit_state.specs.declared.state.State.{State}
use Rattle.unit_state.specs.Applied.{applied}
use Rattle.unit_state.specs.Restart.{restarted}
use Rattle.unit_state.specs.Laws.{StoresWell}
use Rattle.unit_state.proofs.Again.{applied_alike}
use Rattle.unit_state.proofs.Allowed.{allowed_alike}
use Rattle.sdls_base.specs.declared.entry.Change.TheVariants.{Marks, Load, KeyStates, Create, Rekey, SaTo, SetNumber}
use Rattle.sdls_base.specs.declared.entry.Change.TheVariants.{SetWindow, Accepted, Nothing}
use Rattle.unit_image.specs.Shows.{LeadTo}
use Rattle.unit_image.specs.ContentReading.{IsContent}
use Rattle.sdls_base.specs.declared.version.Version.TheVariants.{Two}
use Rattle.disk_journal.specs.Image.{Held, grown, migrated, turned}
use Rattle.unit_image.specs.Shows.{SaysState}
use Rattle.unit_image.proofs.Leading.{led_more}

-- What stands in an image that holds one record more: the state after the change that it is stored for.
pub says_grown : (what : Held) (state : State) (change stored : Change) (body : List ℕ)
    → SaysState what (restarted state)
    → StoresWell state change stored → IsRecord stored body
    → SaysState (grown body what) (restarted (applied state change))
says_grown what state change stored body says well is_record = record {
  first = says.first;
  begins = record {
    plan = says.begins.plan;
    said = says.begins.said;
    same_slots = says.begins.same_slots;
    content = says.begins.content;
  };
  last = applied says.last stored;
  led = led_more says.first what.records says.last body stored says.led is_record
      (allowed_alike state says.last stored well.storable says.left well.allowed);
  left = well.alike ∙ applied_alike state says.last stored says.left;
}

-- a change leaves the channels and the device field of the plan
same_channels : (state : State) (change : Change) → (applied state change).channels ≡ state.channels
same_channels state (Marks key mark floor) = refl
same_channels state (Load items) = refl
same_channels state (KeyStates ids to) = refl
same_channels state (Create new) = refl
same_channels state (Rekey spi key number) = refl
same_channels state (SaTo spi to) = refl
same_channels state (SetNumber spi number) = refl
same_channels state (SetWindow spi window) = refl
same_channels state (Accepted spi key number floor) = refl
same_channels state Nothing = refl

same_device : (state : State) (change : Change) → (applied state change).device ≡ state.device
same_device state (Marks key mark floor) = refl
same_device state (Load items) = refl
same_device state (KeyStates ids to) = refl
same_device state (Create new) = refl
same_device state (Rekey spi key number) = refl
same_device state (SaTo spi to) = refl
same_device state (SetNumber spi number) = refl
same_device state (SetWindow spi window) = refl
same_device state (Accepted spi key number floor) = refl
same_device state Nothing = refl

led_channels : (state : State) (bodies : List (List ℕ)) (last : State) → LeadTo state bodies last
    → last.channels ≡ state.channels
led_channels state [] last led = ap (λ (s : State). s.channels) led
led_channels state (body ∷ bodies) last (change, is_record, allows, rest) =
    led_channels (applied state change) bodies last rest ∙ same_channels state change

led_device : (state : State) (bodies : List (List ℕ)) (last : State) → LeadTo state bodies last
    → last.device ≡ state.device
led_device state [] last led = ap (λ (s : State). s.device) led
led_device state (body ∷ bodies) last (change, is_record, allows, rest) =
    led_device (applied state change) bodies last rest ∙ same_device state change

-- What stands in an image behind a turn: the state whose content was written.
pub says_turned : ((state : State) → restarted (restarted state) ≡ restarted state)
    → (what : Held) (state : State) (change : Change)
    (content : List ℕ) → SaysState what (restarted state)
    → IsContent what.version (restarted (applied state change)) content
    → SaysState (turned content what) (restarted (applied state change))
says_turned once what state change content says is = record {
  first = restarted (applied state change);
  begins = record {
    plan = says.begins.plan;
    said = says.begins.said;
    same_slots = says.begins.same_slots;
    content = record {
      channels = same_channels state change ∙ ap (λ (s : State). s.channels) says.left
          ∙ led_channels says.first what.records says.last says.led ∙ says.begins.content.channels;
      device = same_device state change ∙ ap (λ (s : State). s.device) says.left
          ∙ led_device says.first what.records says.last says.led ∙ says.begins.content.device;
      spelled = is;
    };
  };
  last = restarted (applied state change);
  led = refl;
  left = sym (once (applied state change));
}

-- What stands in an image that was migrated: the state whose content was written.
pub says_migrated : (what : Held) (state : State) (content : List ℕ) → SaysState what state
    → IsContent Two state content
    → SaysState (migrated content what) state
says_migrated what state content says is = record {
  first = state;
  begins = record {
    plan = says.begins.plan;
    said = says.begins.said;
    same_slots = says.begins.same_slots;
    content = record {
      channels = ap (λ (s : State). s.channels) says.left ∙ led_channels says.first what.records says.last says.led
          ∙ says.begins.content.channels;
      device = ap (λ (s : State). s.device) says.left ∙ led_device says.first what.records says.last says.led
          ∙ says.begins.content.device;
      spelled = is;
    };
  };
  last = state;
  led = refl;
  left = sym is.left;
}
