-- What a reply leaves of the frame's octets, and what holds of a number that is accepted (profile).
use Rattle.std.specs.Prelude.{◌≡◌, ⊤, ℕ, ◌<◌, ◌≤◌, List, [], take, drop, slice_range, Some, IsSome, IsSomeAnd}
use Rattle.sdls_base.specs.KeyId.{end_of}
use Rattle.sa_book.specs.SaRow.{MayAccept}
use Rattle.unit_state.specs.declared.state.State.{State}
use Rattle.unit_state.specs.State.{key_row, association_row}
use Rattle.frame_checks.specs.declared.opening_frames.OpenReply.{OpenReply}
use Rattle.frame_checks.specs.declared.opening_frames.OpenReply.TheVariants.{Accepted, Clear, Layout, Channel, Spi}
use Rattle.frame_checks.specs.declared.opening_frames.OpenReply.TheVariants.{Direction, State as NotOperational, Coverage}
use Rattle.frame_checks.specs.declared.opening_frames.OpenReply.TheVariants.{Mac, Number}

-- where a data field stands, and that the octets around it are as they were
pub record IsInPlace (from to : ℕ) (old new : List ℕ) : Type 0 where
  pub order : from ≤ to
  pub before : take from new ≡ take from old
  pub after : drop to new ≡ drop to old

-- the octets after a reply; where the number is not fresh, the data field may be in clear
abbrev pub LeavesOctets : OpenReply → List ℕ → List ℕ → Type 0
LeavesOctets (Accepted spi key number from to) old new = IsInPlace from to old new
LeavesOctets Clear old new = new ≡ old
LeavesOctets (Layout number) old new = new ≡ old
LeavesOctets Channel old new = new ≡ old
LeavesOctets Spi old new = new ≡ old
LeavesOctets Direction old new = new ≡ old
LeavesOctets (NotOperational state) old new = new ≡ old
LeavesOctets Coverage old new = new ≡ old
LeavesOctets Mac old new = new ≡ old
LeavesOctets (Number key number high width) old new = ⊤

-- the data field, in octets that were opened in place
abbrev pub field_in : OpenReply → List ℕ → List ℕ
field_in (Accepted spi key number from to) octets = slice_range octets from to
field_in Clear octets = []
field_in (Layout number) octets = []
field_in Channel octets = []
field_in Spi octets = []
field_in Direction octets = []
field_in (NotOperational state) octets = []
field_in Coverage octets = []
field_in Mac octets = []
field_in (Number key number high width) octets = []

-- the association may accept the number with the key, which is there
pub record MayBeAccepted (state : State) (spi key number : ℕ) : Type 0 where
  pub row : IsSomeAnd (association_row state spi) (λ row. MayAccept row number × (row.key ≡ Some key))
  pub held : IsSome (key_row state key)
  pub below_end : number < end_of key

-- a fact of association, key and number, where a frame is accepted
abbrev pub OnAccepted : OpenReply → (ℕ → ℕ → ℕ → Type 0) → Type 0
OnAccepted (Accepted spi key number from to) P = P spi key number
OnAccepted Clear P = ⊤
OnAccepted (Layout number) P = ⊤
OnAccepted Channel P = ⊤
OnAccepted Spi P = ⊤
OnAccepted Direction P = ⊤
OnAccepted (NotOperational state) P = ⊤
OnAccepted Coverage P = ⊤
OnAccepted Mac P = ⊤
OnAccepted (Number key number high width) P = ⊤
