-- What puts do to the sink, for `recording.rt`; and a front of a line, for `AnswerProgress` and `ItemProgress`.
use Rattle.std.proofs.Common.{◌≡◌, ℕ, Bool, IsTrue, IfOk, List, [], ◌++◌, length, take, Result, Ok, Err, ap, sym, ◌∙◌}
use Rattle.std.proofs.Common.{arith, append_assoc, length-append}
use Rattle.sdls_outside.specs.Moments.{Between, Trace}
use Rattle.sdls_outside.specs.Site.{Puts}
use Rattle.sdls_outside.specs.Output.{Delivers, OnlySinks}
use Rattle.sdls_outside.proofs.Delivering.{delivers_put, sinks_then}
use Rattle.text_streams.specs.Recording.{Copied}

only_delivered : {T E : Type 0} (text : List ℕ) (r : Result T E) (old new : Trace) → Delivers text r old new
    → OnlySinks old new
only_delivered text (Ok x) old new sinks = sinks.only_sinks
only_delivered text (Err e) old new front = front.only_sinks

pub only_put : {T E : Type 0} (octets : List ℕ) (r : Result T E) (old new : Trace) → Puts octets r old new
    → OnlySinks old new
only_put octets r old new puts = only_delivered octets r old new (delivers_put octets r old new puts)

pub copied_more : (source_told sink_told : Bool) (done more first middle last : List ℕ) (old mid new : Trace)
    → Copied source_told sink_told done first middle old mid → Copied source_told sink_told more middle last mid new
    → Copied source_told sink_told (done ++ more) first last old new
copied_more source_told sink_told done more first middle last old mid new x y = record {
  moved = λ is. x.moved is ∙ ap (λ (l : List ℕ). done ++ l) (y.moved is) ∙ sym (append_assoc done more last);
  sinks = λ is. sinks_then done more old mid new (x.sinks is) (y.sinks is);
}

-- what is so if nothing is left
pub if_ended : {T E : Type 0} (r : Result T E) (told : Bool) (left : List ℕ) (P : Type 0)
    → (IsTrue told → IfOk r (λ _. left ≡ []))
    → ((IsTrue told → left ≡ []) → P) → IfOk r (λ _. P)
if_ended (Ok x) told left P ended is = is ended
if_ended (Err e) told left P ended is = tt

-- a front of a line behind a text is a front of both behind what was there
pub between_behind : (old text line now new : List ℕ) → now ≡ old ++ text → Between now (now ++ line) new
    → Between old (old ++ (text ++ line)) new
between_behind old text line now new is between =
    let longer = length-append old text in let same = ap length is in let least = between.least in
    record {
      least = omega (arith, longer, same, least);
      prefix = between.prefix ∙ ap (λ octets. take (length new) octets)
          (ap (λ octets. octets ++ line) is ∙ append_assoc old text line);
    }
