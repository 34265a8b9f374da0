-- Octets spell items in one way, for the law `input_reads_once`.
use Rattle.std.proofs.Common.{◌≡◌, ◌≢◌, ℕ, List, [], ◌∷◌, ◌++◌, length, take, drop, get_or, refl, sym, ◌∙◌, ap, subst}
use Rattle.std.proofs.Common.{inl, inr, arith, append_assoc, length-append}
use Rattle.std.specs.Prelude.{◌==◌, if◌then◌else◌}
use Rattle.std.specs.List.{All}
use Rattle.std.proofs.lemmas.List.Elements.{All-head, All-tail}
use Rattle.std.specs.Int.{w16, from_be_bytes}
use Rattle.std.proofs.lemmas.List.{append_cancel_left}
use Rattle.std.proofs.lemmas.Nat.{from_be_bytes-to_be_bytes_2}
use Rattle.sdls_base.proofs.Endings.{take_front, drop_front}
use Rattle.record_io.specs.declared.reader.RecordKind.TheVariants.{Protect, Open, Command, Monitor}
use Rattle.record_io.specs.declared.reader.ItemKind.{ItemKind}
use Rattle.record_io.specs.declared.reader.ItemKind.TheVariants.{Fence, Recorded}
use Rattle.record_io.specs.Input.{Item, IsItem, kind_octet, item_header, item_octets, items_octets, beginning, AreRead}
use Rattle.record_io.specs.Input.{LacksItem, LacksBeginning, InputEnd, Whole, MalformedAt, EndsAs, IsInput}
use Rattle.record_io.proofs.Items.{length-header, most_small, lacks_short}

-- the kind that an octet says
kind_back : ℕ → ItemKind
kind_back n = if n == 0 then Fence
    else (if n == 1 then Recorded Protect
    else (if n == 2 then Recorded Open else (if n == 3 then Recorded Command else Recorded Monitor)))

kind_again : (kind : ItemKind) → kind_back (kind_octet kind) ≡ kind
unfolding kind_back
kind_again Fence = refl
kind_again (Recorded Protect) = refl
kind_again (Recorded Open) = refl
kind_again (Recorded Command) = refl
kind_again (Recorded Monitor) = refl

one_kind : (k l : ItemKind) → kind_octet k ≡ kind_octet l → k ≡ l
one_kind k l e = sym (kind_again k) ∙ ap kind_back e ∙ kind_again l

same_item : (x y : Item) → x.kind ≡ y.kind → x.lane ≡ y.lane → x.link ≡ y.link → x.octets ≡ y.octets → x ≡ y
same_item x y e f g h =
    ap (λ (kind : ItemKind). record { kind = kind; lane = x.lane; link = x.link; octets = x.octets }) e
    ∙ ap (λ (lane : ℕ). record { kind = y.kind; lane = lane; link = x.link; octets = x.octets }) f
    ∙ ap (λ (link : ℕ). record { kind = y.kind; lane = y.lane; link = link; octets = x.octets }) g
    ∙ ap (λ (octets : List ℕ). record { kind = y.kind; lane = y.lane; link = y.link; octets = octets }) h

-- two items in front of the same octets are one
one_item : (x y : Item) (a b : List ℕ) → IsItem x → IsItem y → item_octets x ++ a ≡ item_octets y ++ b
    → (x ≡ y) × (a ≡ b)
one_item x y a b is_x is_y e =
    let whole : item_header x ++ (x.octets ++ a) ≡ item_header y ++ (y.octets ++ b) =
    sym (append_assoc (item_header x) x.octets a) ∙ e ∙ append_assoc (item_header y) y.octets b in
    let headers : item_header x ≡ item_header y =
    sym (take_front (item_header x) (x.octets ++ a) 6 (sym (length-header x))) ∙ ap (λ l. take 6 l) whole
    ∙ take_front (item_header y) (y.octets ++ b) 6 (sym (length-header y)) in
    let behind : x.octets ++ a ≡ y.octets ++ b =
    sym (drop_front (item_header x) (x.octets ++ a) 6 (sym (length-header x))) ∙ ap (λ l. drop 6 l) whole
    ∙ drop_front (item_header y) (y.octets ++ b) 6 (sym (length-header y)) in
    let sizes : length x.octets ≡ length y.octets =
    sym (from_be_bytes-to_be_bytes_2 (length x.octets) (omega (arith, is_x.short, most_small x.kind)))
    ∙ ap (λ l. from_be_bytes w16 (drop 4 l)) headers
    ∙ from_be_bytes-to_be_bytes_2 (length y.octets) (omega (arith, is_y.short, most_small y.kind)) in
    let octets : x.octets ≡ y.octets =
    sym (take_front x.octets a (length x.octets) refl) ∙ ap (λ l. take (length x.octets) l) behind
    ∙ take_front y.octets b (length x.octets) sizes in (
      same_item x y (one_kind x.kind y.kind (ap (λ l. get_or l 0 0) headers)) (ap (λ l. get_or l 1 0) headers)
          (ap (λ l. get_or l 2 0) headers) octets,
      sym (drop_front x.octets a (length x.octets) refl) ∙ ap (λ l. drop (length x.octets) l) behind
          ∙ drop_front y.octets b (length x.octets) sizes,
    )

-- items behind which no item stands
one_list : (xs ys : List Item) (r s : List ℕ) → All IsItem xs → All IsItem ys → LacksItem r → LacksItem s
    → items_octets xs ++ r ≡ items_octets ys ++ s → (xs ≡ ys) × (r ≡ s)
one_list [] [] r s is_xs is_ys no_r no_s e = (refl, e)
one_list [] (y ∷ ys) r s is_xs is_ys no_r no_s e =
    absurd (no_r y (items_octets ys ++ s) (All-head IsItem y ys is_ys)
    (e ∙ append_assoc (item_octets y) (items_octets ys) s))
one_list (x ∷ xs) [] r s is_xs is_ys no_r no_s e =
    absurd (no_s x (items_octets xs ++ r) (All-head IsItem x xs is_xs)
    (sym e ∙ append_assoc (item_octets x) (items_octets xs) r))
one_list (x ∷ xs) (y ∷ ys) r s is_xs is_ys no_r no_s e =
    let first = one_item x y (items_octets xs ++ r) (items_octets ys ++ s) (All-head IsItem x xs is_xs)
    (All-head IsItem y ys is_ys)
    (sym (append_assoc (item_octets x) (items_octets xs) r) ∙ e ∙ append_assoc (item_octets y) (items_octets ys) s) in
    let rest = one_list xs ys r s (All-tail IsItem x xs is_xs) (All-tail IsItem y ys is_ys) no_r no_s first.1 in
    (ap (λ (l : Item). l ∷ xs) first.0 ∙ ap (λ (l : List Item). y ∷ l) rest.0, rest.1)

-- behind the beginning and items an input ends where no item stands
no_item : (octet : ℕ) (read rest : List ℕ) (end : InputEnd) → EndsAs (octet ∷ read) rest end → LacksItem rest
no_item octet read rest Whole ends = subst LacksItem (sym ends.1) (lacks_short [] (omega arith))
no_item octet read rest (MalformedAt offset) ends = ends.1

one_end : (r s a b : List ℕ) (e f : InputEnd) → r ≡ s → a ≡ b → r ≢ [] → EndsAs r a e → EndsAs s b f → e ≡ f
one_end r s a b Whole Whole same rest some x y = refl
one_end r s a b Whole (MalformedAt n) same rest some x y = absurd (y.2 (λ none. some (same ∙ none)) (sym rest ∙ x.1))
one_end r s a b (MalformedAt m) Whole same rest some x y = absurd (x.2 some (rest ∙ y.1))
one_end r s a b (MalformedAt m) (MalformedAt n) same rest some x y = ap MalformedAt (x.0 ∙ ap length same ∙ sym y.0)

-- an input of which nothing was read is malformed at its start
at_start : (rest : List ℕ) (end : InputEnd) → EndsAs [] rest end → (end ≡ MalformedAt 0) × LacksBeginning rest
at_start rest Whole ends = absurd (ends.0 refl)
at_start rest (MalformedAt offset) ends = (ap MalformedAt ends.0, ends.1)

starts : (items : List Item) (octets : List ℕ) → octets ≡ beginning ++ items_octets items → octets ≢ []
starts items octets e none =
    absurd (omega (arith, ap length (sym e ∙ none), length-append beginning (items_octets items)))

pub input_once : (input : List ℕ) (xs ys : List Item) (e f : InputEnd) → IsInput input xs e → IsInput input ys f
    → (xs ≡ ys) × (e ≡ f)
input_once input xs ys e f x y = go x.read_are y.read_are
  where
    same : x.read ++ x.rest ≡ y.read ++ y.rest
    same = sym x.spelled ∙ y.spelled

    go : AreRead x.read xs → AreRead y.read ys → (xs ≡ ys) × (e ≡ f)
    go (inl (none, no_xs)) (inl (nothing, no_ys)) =
        let a = at_start x.rest e (subst (λ (l : List ℕ). EndsAs l x.rest e) none x.ends) in
        let b = at_start y.rest f (subst (λ (l : List ℕ). EndsAs l y.rest f) nothing y.ends) in
        (no_xs ∙ sym no_ys, a.0 ∙ sym b.0)
    go (inl (none, no_xs)) (inr spelled) =
        let a = at_start x.rest e (subst (λ (l : List ℕ). EndsAs l x.rest e) none x.ends) in
        absurd (a.1 (items_octets ys ++ y.rest)
        (ap (λ l. l ++ x.rest) (sym none) ∙ same ∙ ap (λ l. l ++ y.rest) spelled
        ∙ append_assoc beginning (items_octets ys) y.rest))
    go (inr spelled) (inl (nothing, no_ys)) =
        let b = at_start y.rest f (subst (λ (l : List ℕ). EndsAs l y.rest f) nothing y.ends) in
        absurd (b.1 (items_octets xs ++ x.rest)
        (ap (λ l. l ++ y.rest) (sym nothing) ∙ sym same ∙ ap (λ l. l ++ x.rest) spelled
        ∙ append_assoc beginning (items_octets xs) x.rest))
    go (inr spelled) (inr written) =
        let both : beginning ++ (items_octets xs ++ x.rest) ≡ beginning ++ (items_octets ys ++ y.rest) =
        sym (append_assoc beginning (items_octets xs) x.rest) ∙ ap (λ l. l ++ x.rest) (sym spelled) ∙ same
        ∙ ap (λ l. l ++ y.rest) written ∙ append_assoc beginning (items_octets ys) y.rest in
        let no_x : LacksItem x.rest = no_item _ _ x.rest e (subst (λ (l : List ℕ). EndsAs l x.rest e) spelled x.ends) in
        let no_y : LacksItem y.rest = no_item _ _ y.rest f (subst (λ (l : List ℕ). EndsAs l y.rest f) written y.ends) in
        let lists = one_list xs ys x.rest y.rest x.items_are y.items_are no_x no_y
        (append_cancel_left beginning (items_octets xs ++ x.rest) (items_octets ys ++ y.rest) both) in
        let reads : x.read ≡ y.read = spelled ∙ ap (λ (l : List Item). beginning ++ items_octets l) lists.0
        ∙ sym written in
        (lists.0, one_end x.read y.read x.rest y.rest e f reads lists.1 (starts xs x.read spelled) x.ends y.ends)
