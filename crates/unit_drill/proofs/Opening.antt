-- What the receiver of a drill replies to a frame that its sender protected.
use Rattle.std.proofs.Common.{◌≡◌, ℕ, ◌+◌, ◌-◌, ◌*◌, ◌/◌, ◌%◌, ◌^◌, ◌<◌, ◌≤◌, nat_lt, Bool, true, false, is_some}
use Rattle.std.proofs.Common.{is_none, List, [], ◌∷◌, ◌++◌, length, Option, None, Some, refl, sym, ◌∙◌, ap, subst}
use Rattle.std.proofs.Common.{arith}
use Rattle.std.specs.Int.{w16, to_be_bytes}
use Rattle.std.proofs.lemmas.Bool.{le-ltb}
use Rattle.sdls_base.specs.ErrorControl.{error_control}
use Rattle.sdls_base.specs.FirstFailing.{first_failing}
use Rattle.sdls_base.specs.KeyId.{end_of}
use Rattle.sdls_base.specs.declared.states.Suite.{Suite}
use Rattle.sdls_base.specs.declared.states.Suite.TheVariants as suites
use Rattle.replay_window.specs.Window.{IsFresh}
use Rattle.sa_book.specs.declared.sa_book.SaRow.{SaRow}
use Rattle.sdls_header.specs.SecurityHeader.{Pieces, vector_octets}
use Rattle.tc_frame.specs.TcFrame.{TcFrame, TcParts, frame_length, prefix_of}
use Rattle.tc_frame.proofs.Frames.{frame_parts}
use Rattle.tc_frame.proofs.Words.{header_cells}
use Rattle.unit_state.specs.declared.state.State.{State}
use Rattle.frame_shield.specs.AnyFrame.{AnyParts, tc, tm, aos, IsFrame, first_fault, room_of, with_room}
use Rattle.frame_shield.specs.AnyFrame as any_frames
use Rattle.frame_shield.specs.Binding.{clear_layout}
use Rattle.frame_shield.specs.Opens.{Opens}
use Rattle.frame_shield.specs.Protects.{Protects}
use Rattle.frame_shield.specs.Secured.{IsSecured, number_of, vector_for}
use Rattle.frame_shield.specs.declared.binding.Binding.{Binding}
use Rattle.frame_shield.proofs.OpenFacts.{no_fault, one_frame}
use Rattle.frame_checks.specs.declared.opening_frames.OpenReply.{OpenReply}
use Rattle.frame_checks.specs.declared.opening_frames.OpenReply.TheVariants.{Accepted, Clear, Layout, Channel, Spi}
use Rattle.frame_checks.specs.declared.opening_frames.OpenReply.TheVariants.{Direction, State as NotOperational, Coverage}
use Rattle.frame_checks.specs.declared.opening_frames.OpenReply.TheVariants.{Mac, Number}
use Rattle.frame_checks.specs.Binding.{binding_of}
use Rattle.frame_checks.specs.Header.{channel_of, is_clear}
use Rattle.frame_checks.specs.OpeningFrames.{IsJudged, IsOpenedUnder, IsOpenReply, IsReplyOn, IsReplyUnder, IsToldOr}
use Rattle.frame_checks.specs.OpeningFrames.{association_checks, association_in}
use Rattle.unit_drill.specs.Plans.{link_line}
use Rattle.unit_drill.proofs.Read.{receiver_bare}
use Rattle.unit_drill.proofs.Binding.{bound_to, clear_on, field_by}

-- a frame opens to at most one number and data field
abbrev pub OpensOnce : Type 0
OpensOnce = (b : Binding) (frame : List ℕ) (n m : ℕ) (field other : List ℕ) → Opens b frame n field
    → Opens b frame m other → (n ≡ m) × (field ≡ other)

-- the reply accepts the number, which is fresh, with this data field; or it tells that the number is not fresh
pub data JudgesOpening (row : SaRow) (spi key n : ℕ) (own : List ℕ) (reply : OpenReply) (field : List ℕ) : Type 0 where
  takes : (from to : ℕ) → reply ≡ Accepted spi key n from to → field ≡ own → IsFresh row.window n (end_of key)
      → JudgesOpening row spi key n own reply field
  refuses : (high width : ℕ) → reply ≡ Number key n high width → (IsFresh row.window n (end_of key) → ⊥)
      → JudgesOpening row spi key n own reply field

-- the parts of a clear frame
abbrev plain : ℕ → ℕ → List ℕ → TcParts
plain channel sequence room = record {
  bypass = false;
  control = false;
  spacecraft = 1;
  channel = channel;
  sequence = sequence;
  segment = None;
  room = room;
}

none_failing : (a b c d e : Bool) (n : ℕ) → a ≡ false → b ≡ false → c ≡ false → d ≡ false → e ≡ false
    → first_failing ((a, Layout n) ∷ (b, Clear) ∷ (c, Layout 1) ∷ (d, Channel) ∷ (e, Spi) ∷ []) ≡ None
none_failing false false false false false n ha hb hc hd he = refl
none_failing true b c d e n ha hb hc hd he = absurd (cc)
none_failing false true c d e n ha hb hc hd he = absurd (cc)
none_failing false false true d e n ha hb hc hd he = absurd (cc)
none_failing false false false true e n ha hb hc hd he = absurd (cc)
none_failing false false false false true n ha hb hc hd he = absurd (cc)

some_same : {A : Type 0} (x y : A) (o : Option A) → o ≡ Some x → o ≡ Some y → x ≡ y
some_same x y o h k = let twice = sym h ∙ k in cc

none_there : {A : Type 0} (x : A) (o : Option A) → o ≡ Some x → is_none o ≡ false
none_there x o h = ap is_none h

faultless : {A : Type 0} (o : Option A) → o ≡ None → is_some o ≡ false
faultless o h = ap is_some h

-- A lane of a drill, by its channel: association, suite, key and its octets. The receiver's state has the association's
-- row.
module _ (once : OpensOnce) (state : State) (channel spi : ℕ) (suite : Suite) (key octet : ℕ) (row : SaRow)
    (low : channel < 4)
    (index : to_be_bytes w16 spi ≡ 0 ∷ spi ∷ [])
    (named : (rest : List ℕ) → association_in state (0 ∷ spi ∷ rest) ≡ Some row)
    (on : (c d e : ℕ) (rest : List ℕ) → c / 2 ^ 2 ≡ channel
    → channel_of receiver_bare 0 link_line.layout (0 ∷ 1 ∷ c ∷ d ∷ e ∷ rest) ≡ Some channel)
    (passes : first_failing (association_checks row channel) ≡ None)
    (binds : binding_of receiver_bare state link_line row ≡ Some (bound_to 2 spi suite key octet)) where
  abbrev sends : Binding
  sends = bound_to 1 spi suite key octet

  abbrev receives : Binding
  receives = bound_to 2 spi suite key octet

  -- the first octets of a frame on the link
  front : (s : ℕ) (room out : List ℕ) → TcFrame (record { segment = false; fecf = true; most = 1024 })
      (plain channel s room) out
      → (c d : ℕ) × (rest : List ℕ) × (out ≡ 0 ∷ 1 ∷ c ∷ d ∷ s ∷ rest) × (c / 2 ^ 2 ≡ channel)
  front s room out is =
      let p = plain channel s room in
      let n = frame_length (record { segment = false; fecf = true; most = 1024 }) p in
      let header = header_cells p n (omega arith) (omega arith) is.fits.sequence is.fits.field in
      let most : n ≤ 1024 = is.fits.field in (
        channel * 2 ^ 2 + (n - 1) / 2 ^ 8,
        (n - 1) % 2 ^ 8,
        room ++ error_control (0 ∷ 1 ∷ (channel * 2 ^ 2 + (n - 1) / 2 ^ 8) ∷ ((n - 1) % 2 ^ 8) ∷ s ∷ room),
        is.spelled ∙ ap (λ (l : List ℕ). ((l ++ []) ++ room) ++ error_control ((l ++ []) ++ room)) header,
        omega arith,
      )

  clear_parts : (s : ℕ) (g : ℕ → ℕ) (parts : AnyParts)
      → IsFrame (clear_layout suite link_line.layout) parts (clear_on channel s (field_by g))
      → parts ≡ tc (plain channel s (field_by g))
  clear_parts s g (tc p) is =
      let four : 4 * channel / 2 ^ 2 ≡ channel = omega arith in
      ap tc (sym (frame_parts _ p (clear_on channel s (field_by g)) is).1 ∙ ap (λ (c : ℕ). plain c s (field_by g)) four)
  clear_parts s g (tm p) is = absurd is
  clear_parts s g (aos p) is = absurd is

  room_front : (room field : List ℕ) (pieces : Pieces) (prefix : List ℕ) → IsSecured sends prefix room pieces field
      → (rest : List ℕ) × (room ≡ 0 ∷ spi ∷ rest)
  room_front room field pieces prefix is =
      let header = is.header ∙ ap (λ (l : List ℕ). l ++ vector_octets pieces.vector) index in (
        (vector_octets pieces.vector ++ pieces.field) ++ pieces.mac,
        is.split.whole ∙ ap (λ (l : List ℕ). (l ++ pieces.field) ++ pieces.mac) header,
      )

  -- what is secured is opened by the receiver's binding too
  opens_too : (n s : ℕ) (room out field : List ℕ) (pieces : Pieces)
      → TcFrame (record { segment = false; fecf = true; most = 1024 }) (plain channel s room) out
      → IsSecured sends (prefix_of (record { segment = false; fecf = true; most = 1024 }) (plain channel s room)) room
      pieces field
      → number_of pieces.vector ≡ n → Opens receives out n field
  opens_too n s room out field pieces framed secured number = record {
    parts = tc (plain channel s room);
    pieces = pieces;
    framed = framed;
    number = number;
    secured = record { split = secured.split; header = secured.header; seal = secured.seal };
  }

  judged : (n : ℕ) (out own field : List ℕ) → Opens receives out n own → (reply : OpenReply)
      → IsJudged row receives out reply field
      → JudgesOpening row spi key n own reply field
  judged n out own field opens (Accepted spi_told key_told number from to) is =
      let same = once receives out number n field own is.opens opens in
      let named_so : Accepted spi_told key_told number from to ≡ Accepted spi key n from to =
      ap (λ (i : ℕ). Accepted i key_told number from to) is.index
      ∙ ap (λ (k : ℕ). Accepted spi k number from to) is.held
      ∙ ap (λ (m : ℕ). Accepted spi key m from to) same.0 in
      takes from to named_so same.1
      (subst (λ (m : ℕ). IsFresh row.window m (end_of key)) same.0
      (subst (λ (k : ℕ). IsFresh row.window number (end_of k)) is.held is.fresh))
  judged n out own field opens Clear is = absurd is
  judged n out own field opens (Layout number) is = absurd is
  judged n out own field opens Channel is = absurd is
  judged n out own field opens Spi is = absurd is
  judged n out own field opens Direction is = absurd is
  judged n out own field opens (NotOperational held) is = absurd is
  judged n out own field opens Coverage is = absurd is
  judged n out own field opens Mac is = absurd (is n own opens)
  judged n out own field opens (Number key_told number high width) is =
      let same = once receives out number n is.field own is.opens opens in
      let named_so : Number key_told number high width ≡ Number key n high width =
      ap (λ (k : ℕ). Number k number high width) is.held ∙ ap (λ (m : ℕ). Number key m high width) same.0 in
      refuses high width named_so
      (λ fresh. is.stale (subst (λ (k : ℕ). IsFresh row.window number (end_of k)) (sym is.held)
      (subst (λ (m : ℕ). IsFresh row.window m (end_of key)) (sym same.0) fresh)))

  replied : (n s : ℕ) (room out own field rest : List ℕ) (reply : OpenReply)
      → TcFrame (record { segment = false; fecf = true; most = 1024 }) (plain channel s room) out
      → room ≡ 0 ∷ spi ∷ rest → Opens receives out n own → IsReplyOn receiver_bare state 0 out reply field link_line
      → JudgesOpening row spi key n own reply field
  replied n s room out own field rest reply framed begins opens r =
      let none : first_fault link_line.layout out ≡ None =
      no_fault link_line.layout (tc (plain channel s room)) out framed in
      let has = r.has_room none in
      let same_parts = one_frame link_line.layout has.parts (tc (plain channel s room)) out has.framed framed in
      let same_room : r.room ≡ 0 ∷ spi ∷ rest = has.room_is ∙ (ap room_of same_parts ∙ begins) in
      let octets = front s room out framed in
      let on_channel : channel_of receiver_bare 0 link_line.layout out ≡ Some channel =
      ap (channel_of receiver_bare 0 link_line.layout) octets.3 ∙ on octets.0 octets.1 s octets.2 octets.4 in
      let in_clear : is_clear link_line.layout out ≡ false = ap (is_clear link_line.layout) octets.3 in
      let names : association_in state r.room ≡ Some row = ap (association_in state) same_room ∙ named rest in
      let long : nat_lt (length r.room) 2 ≡ false = le-ltb (length r.room) 2 (omega (arith, ap length same_room)) in
      let passed = none_failing _ _ _ _ _ _ (faultless _ none) in_clear long (none_there channel _ on_channel)
      (none_there row _ names) in
      let under : IsReplyUnder receiver_bare state 0 link_line out r.room reply field =
      subst (λ (o : Option OpenReply). IsToldOr o reply
      (IsReplyUnder receiver_bare state 0 link_line out r.room reply field)) passed r.told in
      let same_channel : under.channel ≡ channel = some_same under.channel channel _ under.on on_channel in
      let same_row : under.row ≡ row = some_same under.row row _ under.named names in
      let told = subst (λ (c : ℕ). IsToldOr (first_failing (association_checks row c)) reply
      (IsOpenedUnder receiver_bare state link_line row out reply field)) same_channel
      (subst (λ (x : SaRow). IsToldOr (first_failing (association_checks x under.channel)) reply
      (IsOpenedUnder receiver_bare state link_line x out reply field)) same_row under.told) in
      let opened : IsOpenedUnder receiver_bare state link_line row out reply field =
      subst (λ (o : Option OpenReply). IsToldOr o reply
      (IsOpenedUnder receiver_bare state link_line row out reply field)) passes told in
      let bound : opened.binding ≡ receives = some_same opened.binding receives _ opened.bound binds in
      judged n out own field opens reply (subst (λ (b : Binding). IsJudged row b out reply field) bound opened.judged)

  number_back : (s : Suite) (device : List ℕ) (n : ℕ) → number_of (vector_for s device n) ≡ n
  number_back suites.Cmac device n = refl
  number_back suites.Gcm device n = refl

  pub judges : (n s : ℕ) (g : ℕ → ℕ) (out field : List ℕ) (reply : OpenReply)
      → Protects sends n (clear_on channel s (field_by g)) out
      → IsOpenReply receiver_bare state 0 out reply field → JudgesOpening row spi key n (field_by g) reply field
  judges n s g out field reply is replies =
      let parts = clear_parts s g is.parts is.clear_framed in
      let framed : TcFrame (record { segment = false; fecf = true; most = 1024 }) (plain channel s is.room) out =
      subst (λ (p : AnyParts). IsFrame link_line.layout (with_room p is.room) out) parts is.framed in
      let secured : IsSecured sends (prefix_of (record { segment = false; fecf = true; most = 1024 })
      (plain channel s is.room)) is.room is.pieces
      (field_by g) =
      subst (λ (p : AnyParts). IsSecured sends (any_frames.prefix_of link_line.layout (with_room p is.room)) is.room
      is.pieces (room_of p)) parts is.secured in
      let begins = room_front is.room (field_by g) is.pieces _ secured in
      let number : number_of is.pieces.vector ≡ n = ap number_of is.vector ∙ number_back suite sends.device n in
      let opens = opens_too n s is.room out (field_by g) is.pieces framed secured number in
      replied n s is.room out (field_by g) field begins.0 reply framed begins.1 opens replies
