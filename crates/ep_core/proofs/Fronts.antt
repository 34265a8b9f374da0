-- The front of a Rekeying message.
use Rattle.std.proofs.Common.{◌≡◌, ℕ, ◌+◌, ◌*◌, ◌∷◌, ◌++◌, List, length, take, sym, ap, arith, length-append}
use Rattle.std.specs.Int.{w16, to_be_bytes}
use Rattle.ep_codec.specs.Command.{command_octets, sealed_data}
use Rattle.ep_codec.specs.declared.command.Command.TheVariants.{Rekeying}
use Rattle.ep_core.specs.Sealed.{front}

pub message_front : (master : ℕ) (vector sealed tag : List ℕ) → length vector ≡ 12 → length tag ≡ 16
    → front master (length sealed) ≡ take 5 (command_octets (Rekeying master vector sealed tag))
unfolding command_octets
message_front master vector sealed tag v t =
    let octets : length (sealed_data master vector sealed tag) ≡ 2 + 12 + 16 + length sealed =
    omega (
      arith,
      v,
      t,
      length-append (to_be_bytes w16 master) (vector ++ (sealed ++ tag)),
      length-append vector (sealed ++ tag),
      length-append sealed tag,
    ) in
    ap (λ (n : ℕ). take 5 (0x01 ∷ to_be_bytes w16 (8 * n) ++ sealed_data master vector sealed tag)) (sym octets)
