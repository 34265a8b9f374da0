use Rattle.std.proofs.Common.{◌≡◌, ℕ, List, [], ◌∷◌, None, drop, refl}
use Rattle.std.proofs.lemmas.List.{take_rest}
use Rattle.sdls_base.specs.declared.states.Direction.{Direction}
use Rattle.sdls_base.specs.declared.states.Suite.{Suite}
use Rattle.sdls_base.specs.Code.{direction_of, suite_of}
use Rattle.sdls_base.specs.FirstFailing.{Check, first_failing}
use Rattle.ep_codec.specs.declared.procedure.Procedure.TheVariants as procedures
use Rattle.ep_codec.specs.declared.command.Command.TheVariants.{Create}
use Rattle.ep_codec.specs.MessageFault.{command_checks}
use Rattle.ep_codec.specs.CommandReading.{command_at}
use Rattle.sdls_base.specs.Places.{octet_at, word_at, number_at}
use Rattle.ep_codec.specs.Field.{spi_check, code_check, window_check, count_check}
use Rattle.ep_codec.specs.FieldList.{channel_checks}
use Rattle.ep_codec.proofs.Faults.{six_passed}
use Rattle.ep_codec.proofs.command_reading.create.Goals as goal

-- a field was read, as its test and its place say
abbrev Read : {X : Type 0} → Check ℕ → X → X → Type 0
Read check read value = (first_failing (check ∷ []) ≡ None) × (read ≡ value)

created : (o rest : List ℕ) (spi : ℕ) (direction : Direction) (suite : Suite) (window : ℕ) (channels : List ℕ)
    → rest ≡ drop 16 o
    → Read (spi_check 3 o) spi (word_at 3 o) → Read (code_check 2 5 o) direction (direction_of (octet_at 5 o))
    → Read (code_check 2 6 o) suite (suite_of (octet_at 6 o))
    → Read (window_check 7 o) window (number_at 7 o) → first_failing (count_check 15 o ∷ []) ≡ None
    → (first_failing (channel_checks 16 0 rest) ≡ None) × (channels ≡ rest)
    → (first_failing (command_checks procedures.Create o) ≡ None)
    × (Create (record { spi = spi; direction = direction; suite = suite; window = window; channels = channels })
    ≡ command_at procedures.Create o)
unfolding command_checks command_at
created o rest spi direction suite window channels is s d t w n h = (
  six_passed (spi_check 3 o) (code_check 2 5 o) (code_check 2 6 o) (window_check 7 o) (count_check 15 o)
      (channel_checks 16 0 (drop 16 o)) s.0 d.0 t.0 w.0 n (rw is at h.0),
  rw (s.1, d.1, t.1, w.1, h.1, is) refl,
)

pub returns : goal.returns
returns c =
    created c.args.octets.now _ c.in_ok-spi.spi c.in_ok-direction.direction c.in_ok-suite.suite c.in_ok-window.window
    c.in_ok-channels.channels
    (take_rest c.args.octets.now 16) c.in_ok-spi.ensures c.in_ok-direction.ensures c.in_ok-suite.ensures
    c.in_ok-window.ensures c.in_ok-count.ensures.0 c.in_ok-channels.ensures
