-- A frame that was tried is answered as one that was opened at once, for the clauses of `open_tried`.
use Rattle.std.proofs.Common.{◌≡◌, ℕ, Bool, true, false, List, [], ◌∷◌, Some, None, sym, refl, ap, ◌∙◌}
use Rattle.std.specs.Prelude.{is_none, is_some}
use Rattle.std.specs.Option.{option_and_then}
use Rattle.sdls_base.specs.FirstFailing.{first_failing}
use Rattle.unit_plan.specs.PlanLines.{PlanLines, link_of}
use Rattle.unit_state.specs.declared.state.State.{State}
use Rattle.unit_state.specs.State.{association_row}
use Rattle.frame_checks.specs.declared.opening_frames.OpenReply.{OpenReply}
use Rattle.frame_checks.specs.declared.opening_frames.OpenReply.TheVariants.{Clear, Layout, Channel, Spi}
use Rattle.frame_checks.specs.declared.opening_frames.Opener.{Opener}
use Rattle.frame_checks.specs.OpeningFrames.{IsJudged, IsOpenReply, IsOpenedUnder, IsReplyOn, IsReplyUnder}
use Rattle.frame_checks.specs.OpeningFrames.{association_checks, association_in, frame_checks}
use Rattle.frame_checks.specs.Trying.{IsOpener, IsOfOpener}
use Rattle.frame_checks.proofs.Replies.{on_line, told_later}

none_fails : (a b c d e : Bool) (n : ℕ) → a ≡ false → b ≡ false → c ≡ false → d ≡ false → e ≡ false
    → first_failing ((a, Layout n) ∷ (b, Clear) ∷ (c, Layout 1) ∷ (d, Channel) ∷ (e, Spi) ∷ []) ≡ None
none_fails true b c d e n one two three four five = absurd (cc)
none_fails false true c d e n one two three four five = absurd (cc)
none_fails false false true d e n one two three four five = absurd (cc)
none_fails false false false true e n one two three four five = absurd (cc)
none_fails false false false false true n one two three four five = absurd (cc)
none_fails false false false false false n one two three four five = refl

module _ (plan : PlanLines) (state : State) (opener : Opener) (link : ℕ) (frame : List ℕ)
    (is : IsOpener plan state opener)
    (of : IsOfOpener plan opener link frame) where
  -- the association that the frame names is the opener's
  pub named_tried : association_in state of.room ≡ Some is.row
  named_tried = ap (option_and_then (association_row state)) of.named ∙ is.there

  pub passes_tried : first_failing (frame_checks plan state link opener.binding.link frame of.room) ≡ None
  passes_tried = none_fails _ _ _ _ _ _ (ap is_some of.layout) of.secured of.roomy (ap is_none of.on)
      (ap is_none named_tried)

  -- the reply, by what was judged of the number
  pub reply_tried : (reply : OpenReply) (field : List ℕ) → IsJudged is.row opener.binding frame reply field
      → IsOpenReply plan state link frame reply field
  reply_tried reply field judged =
      on_line (IsReplyOn plan state link frame reply field) (reply ≡ Layout 0) (link_of plan.links link)
      opener.binding.link
      (sym (ap (link_of plan.links) of.linked ∙ is.line))
      (record {
        room = of.room;
        has_room = λ none. of.has_room;
        told = told_later (first_failing (frame_checks plan state link opener.binding.link frame of.room)) reply
            (IsReplyUnder plan state link opener.binding.link frame of.room reply field) passes_tried (record {
              channel = opener.channel;
              row = is.row;
              on = of.on;
              named = named_tried;
              told = told_later (first_failing (association_checks is.row opener.channel)) reply
                  (IsOpenedUnder plan state opener.binding.link is.row frame reply field) is.passes
                  (record { binding = opener.binding; bound = is.bound; judged = judged });
            });
      })
