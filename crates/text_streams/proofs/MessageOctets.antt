-- What a message carries as octets are octets, where the message is, for `command_line` and `asked_of`.
use Rattle.std.proofs.Common.{◌≡◌, ℕ, zero, suc, ◌*◌, List, [], ◌∷◌, ◌++◌, length, arith}
use Rattle.std.specs.Int.{w16, to_be_bytes}
use Rattle.hex.specs.Hex.{IsBytes}
use Rattle.ep_codec.specs.Command.{command_octets, message, sealed_data}
use Rattle.ep_codec.specs.declared.command.Command.{Command}
use Rattle.ep_codec.specs.declared.command.Command.TheVariants.{Rekeying, Activate, Deactivate, Verify, Destroy}
use Rattle.ep_codec.specs.declared.command.Command.TheVariants.{Inventory, Compose, ReadNumber, Create, Delete}
use Rattle.ep_codec.specs.declared.command.Command.TheVariants.{SetWindow, Rekey, Expire, SetNumber, Start, Stop}
use Rattle.ep_codec.specs.declared.command.Command.TheVariants.{Status}
use Rattle.input_text.specs.Command.{HasOctets}
use Rattle.fsr_log.specs.declared.messages.Monitoring.{Monitoring}
use Rattle.fsr_log.specs.declared.messages.Monitoring.TheVariants as messages
use Rattle.fsr_log.specs.declared.messages.TheConstants.{SELF_TEST}
use Rattle.fsr_log.specs.Message.{monitoring_octets}
use Rattle.input_text.specs.Monitor.{HasBytes}

behind_one : (x : ℕ) (xs : List ℕ) → IsBytes (x ∷ xs) → IsBytes xs
behind_one x xs are i = are (suc i)

behind : (xs ys : List ℕ) → IsBytes (xs ++ ys) → IsBytes ys
behind [] ys are = are
behind (x ∷ xs) ys are = behind xs ys (behind_one x (xs ++ ys) are)

before : (xs ys : List ℕ) → IsBytes (xs ++ ys) → IsBytes xs
before [] ys are i = omega arith
before (x ∷ xs) ys are zero = are 0
before (x ∷ xs) ys are (suc i) = before xs ys (behind_one x (xs ++ ys) are) i

data_of : (tag : ℕ) (body : List ℕ) → IsBytes (message tag body) → IsBytes body
data_of tag body are =
    let bits = to_be_bytes w16 (8 * length body) in
    behind bits body (behind_one tag (bits ++ body) are)

pub has_octets : (command : Command) (octets : List ℕ) → IsBytes octets → octets ≡ command_octets command
    → HasOctets command
unfolding command_octets HasOctets
has_octets (Rekeying master vector sealed tag) octets are spelled =
    let body = data_of 0x01 (sealed_data master vector sealed tag) (rw spelled at are) in
    let from_vector = behind (to_be_bytes w16 master) (vector ++ (sealed ++ tag)) body in
    let from_sealed = behind vector (sealed ++ tag) from_vector in
    (before vector (sealed ++ tag) from_vector, before sealed tag from_sealed, behind sealed tag from_sealed)
has_octets (Verify key challenge) octets are spelled =
    behind (to_be_bytes w16 key) challenge (data_of 0x04 (to_be_bytes w16 key ++ challenge) (rw spelled at are))
has_octets (Activate keys) octets are spelled = tt
has_octets (Deactivate keys) octets are spelled = tt
has_octets (Destroy keys) octets are spelled = tt
has_octets (Inventory first last) octets are spelled = tt
has_octets (Compose master keys) octets are spelled = tt
has_octets (ReadNumber spi) octets are spelled = tt
has_octets (Create sa) octets are spelled = tt
has_octets (Delete spi) octets are spelled = tt
has_octets (SetWindow spi window) octets are spelled = tt
has_octets (Rekey spi key number) octets are spelled = tt
has_octets (Expire spi) octets are spelled = tt
has_octets (SetNumber spi number) octets are spelled = tt
has_octets (Start spi) octets are spelled = tt
has_octets (Stop spi) octets are spelled = tt
has_octets (Status spi) octets are spelled = tt

-- the same of a monitoring message, for `asked_of`
pub has_bytes : (asked : Monitoring) (octets : List ℕ) → IsBytes octets → octets ≡ monitoring_octets asked
    → HasBytes asked
has_bytes messages.Ping octets are spelled = tt
has_bytes messages.LogStatus octets are spelled = tt
has_bytes messages.DumpLog octets are spelled = tt
has_bytes messages.EraseLog octets are spelled = tt
has_bytes (messages.SelfTest block) octets are spelled = data_of SELF_TEST block (rw spelled at are)
has_bytes messages.AlarmReset octets are spelled = tt
