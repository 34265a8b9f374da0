-- The refusals of commands: the detail that names each in a reply, and its value (profile).
use Rattle.std.specs.Prelude.{ℕ, Option, Some, None}
use Rattle.std.specs.Option.{option_map}
use Rattle.sdls_base.specs.declared.TheConstants.{MOST_KEYS, MOST_ASSOCIATIONS}
use Rattle.key_book.specs.declared.refusals.KeyRefusal.{KeyRefusal}
use Rattle.key_book.specs.declared.refusals.KeyRefusal.TheVariants as key_book
use Rattle.sa_book.specs.declared.refusals.SaRefusal.{SaRefusal}
use Rattle.sa_book.specs.declared.refusals.SaRefusal.TheVariants as sa_book
use Rattle.sdls_base.specs.Code.{key_state_code, sa_state_code}
use Rattle.ep_core.specs.declared.refusal.Refusal.{Refusal}
use Rattle.ep_core.specs.declared.refusal.Refusal.TheVariants.{AlreadyLoaded, DuplicateKey, BookFull, KeyInState}
use Rattle.ep_core.specs.declared.refusal.Refusal.TheVariants.{KeyInUse, UnknownKey, UnknownSpi, SpiTaken, SaInState}
use Rattle.ep_core.specs.declared.refusal.Refusal.TheVariants.{ChannelTaken, KeyNotActive, BelowFloor, TableFull}
use Rattle.ep_core.specs.declared.refusal.Refusal.TheVariants.{WrongSuite, PastEnd, UnknownChannel, KeyTaken, BadTag}
use Rattle.ep_core.specs.declared.refusal.Refusal.TheVariants.{BadItems, Exhausted, PduFault, NotMaster, NotSession}

abbrev pub code_of : Refusal → ℕ
code_of (AlreadyLoaded key) = 0x11
code_of (DuplicateKey key) = 0x12
code_of BookFull = 0x13
code_of (KeyInState state) = 0x14
code_of (KeyInUse spi) = 0x15
code_of (UnknownKey key) = 0x16
code_of (UnknownSpi spi) = 0x21
code_of (SpiTaken spi) = 0x22
code_of (SaInState state) = 0x23
code_of (ChannelTaken spi) = 0x24
code_of (KeyNotActive state) = 0x25
code_of (BelowFloor least) = 0x26
code_of TableFull = 0x27
code_of (WrongSuite key) = 0x28
code_of (PastEnd end) = 0x29
code_of (UnknownChannel channel) = 0x2a
code_of (KeyTaken spi) = 0x2b
code_of BadTag = 0x31
code_of (BadItems offset) = 0x32
code_of (Exhausted number) = 0x33
code_of (PduFault offset) = 0x34
code_of (NotMaster key) = 0x35
code_of (NotSession key) = 0x36

abbrev pub value_of : Refusal → ℕ
value_of (AlreadyLoaded key) = key
value_of (DuplicateKey key) = key
value_of BookFull = MOST_KEYS
value_of (KeyInState state) = key_state_code state
value_of (KeyInUse spi) = spi
value_of (UnknownKey key) = key
value_of (UnknownSpi spi) = spi
value_of (SpiTaken spi) = spi
value_of (SaInState state) = sa_state_code state
value_of (ChannelTaken spi) = spi
value_of (KeyNotActive state) = key_state_code state
value_of (BelowFloor least) = least
value_of TableFull = MOST_ASSOCIATIONS
value_of (WrongSuite key) = key
value_of (PastEnd end) = end
value_of (UnknownChannel channel) = channel
value_of (KeyTaken spi) = spi
value_of BadTag = 0
value_of (BadItems offset) = offset
value_of (Exhausted number) = number
value_of (PduFault offset) = offset
value_of (NotMaster key) = key
value_of (NotSession key) = key

-- ---- what the books refuse; lack of memory is no refusal

abbrev pub of_keys : KeyRefusal → Option Refusal
of_keys (key_book.AlreadyLoaded key) = Some (AlreadyLoaded key)
of_keys (key_book.DuplicateKey key) = Some (DuplicateKey key)
of_keys key_book.BookFull = Some BookFull
of_keys (key_book.WrongState state) = Some (KeyInState state)
of_keys (key_book.KeyInUse spi) = Some (KeyInUse spi)
of_keys (key_book.UnknownKey key) = Some (UnknownKey key)
of_keys key_book.NoMemory = None

-- of an association, and of a key where the command names one
abbrev pub of_association : ℕ → Option ℕ → SaRefusal → Option Refusal
of_association spi key sa_book.UnknownSpi = Some (UnknownSpi spi)
of_association spi key sa_book.SpiTaken = Some (SpiTaken spi)
of_association spi key (sa_book.WrongState state) = Some (SaInState state)
of_association spi key (sa_book.ChannelTaken other) = Some (ChannelTaken other)
of_association spi key (sa_book.KeyNotActive state) = Some (KeyNotActive state)
of_association spi key (sa_book.BelowFloor least) = Some (BelowFloor least)
of_association spi key sa_book.TableFull = Some TableFull
of_association spi key sa_book.WrongSuite = option_map WrongSuite key
of_association spi key (sa_book.PastEnd end) = Some (PastEnd end)
of_association spi key (sa_book.UnknownChannel channel) = Some (UnknownChannel channel)
of_association spi key (sa_book.KeyTaken other) = Some (KeyTaken other)
of_association spi key sa_book.NoMemory = None
