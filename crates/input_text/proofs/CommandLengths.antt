-- The message of a command fits into a record.
use Rattle.std.proofs.Common.{ℕ, ◌≤◌, ◌∷◌, ◌++◌, length, arith, IsTrue, length-append}
use Rattle.std.specs.Int.{w64, to_be_bytes, is_in_range}
use Rattle.std.proofs.lemmas.Bool.Decides.{nat_tests}
use Rattle.record_io.specs.declared.reader.TheConstants.{MOST_RECORD_OCTETS}
use Rattle.ep_codec.specs.Command.{IsInBounds, HasTypes, command_octets}
use Rattle.ep_codec.specs.declared.command.Command.{Command}
use Rattle.ep_codec.specs.declared.command.Command.TheVariants.{Rekeying, Activate, Deactivate, Verify, Destroy}
use Rattle.ep_codec.specs.declared.command.Command.TheVariants.{Inventory, Compose, ReadNumber, Create, Delete}
use Rattle.ep_codec.specs.declared.command.Command.TheVariants.{SetWindow, Rekey, Expire, SetNumber, Start, Stop}
use Rattle.ep_codec.specs.declared.command.Command.TheVariants.{Status}
use Rattle.ep_codec.proofs.Lengths.{keys_length}

up_to : (least greatest n : ℕ) → IsTrue (is_in_range least greatest n) → n ≤ greatest
up_to least greatest n is = grind (arith, nat_tests)

pub command_short : (command : Command) → IsInBounds command → HasTypes command
    → length (command_octets command) ≤ MOST_RECORD_OCTETS
unfolding IsInBounds HasTypes command_octets
command_short (Rekeying master vector sealed tag) bounds types =
    let few = up_to 19 280 (length sealed) bounds in
    let twelve = types.1 in
    let sixteen = types.2 in
    let inner = length-append sealed tag in
    let outer = length-append vector (sealed ++ tag) in
    omega (arith, inner, outer)
command_short (Activate keys) bounds types = let few = bounds.most in omega (arith, keys_length keys)
command_short (Deactivate keys) bounds types = let few = bounds.most in omega (arith, keys_length keys)
command_short (Verify key challenge) bounds types = let sixteen = types.1 in omega arith
command_short (Destroy keys) bounds types = let few = bounds.most in omega (arith, keys_length keys)
command_short (Inventory first last) bounds types = omega arith
command_short (Compose master keys) bounds types = let few = bounds.most in omega (arith, keys_length keys)
command_short (ReadNumber spi) bounds types = omega arith
command_short (Create sa) bounds types =
    let few = bounds.1.most in
    let inner = length-append (to_be_bytes w64 sa.window) (length sa.channels ∷ sa.channels) in
    omega (arith, inner)
command_short (Delete spi) bounds types = omega arith
command_short (SetWindow spi window) bounds types = omega arith
command_short (Rekey spi key number) bounds types = omega arith
command_short (Expire spi) bounds types = omega arith
command_short (SetNumber spi number) bounds types = omega arith
command_short (Start spi) bounds types = omega arith
command_short (Stop spi) bounds types = omega arith
command_short (Status spi) bounds types = omega arith
