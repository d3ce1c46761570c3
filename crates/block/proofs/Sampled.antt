-- The sample blocks, computed; numbers as in a script.
use mathlib.Core.List.{[], ◌∷◌}
use mathlib.Core.Path.{◌≡◌, refl}
use Prim.Native.Nat.{ℕ, ◌/◌, ◌%◌, ◌^◌}
use native.Mathlib.Omega.{arith}
use Rattle.model.specs.Records.{bytes_of}
use Rattle.model.proofs.Computed.{everything}
use Rattle.ranges.specs.Ranges as ranges
use Rattle.block.specs.Block as block
use Rattle.block.specs.Loading as loading
use Rattle.block.specs.Sample.{Numbers, Samples}

pub samples : Samples
unfolding everything block.control_bytes block.errors_bytes block.mailbox_bytes block.queue_bytes block.fifo_bytes block.filters_bytes block.word_bytes block.banks_bytes block.transmit_bytes block.core_bytes block.saved block.mode_at block.sender_at block.order_at block.control_at block.errors_at block.mailbox_at block.queue_at block.frame_at block.fifo_at block.filters_at block.words_of block.transmit_at block.core_at block.decoded block.header_ok block.headers_ok block.order_ok block.flag_ok block.flags_ok block.form_ok block.canonical loading.right_length loading.accepts loading.load_code loading.loaded ranges.queue_ok ranges.mailbox_ok ranges.transmit_ok ranges.none_behind ranges.frame_ok ranges.is_no_frame ranges.place_ok ranges.fifo_ok ranges.filters_ok ranges.control_ok ranges.errors_ok ranges.recovery_ok ranges.wire_ok ranges.followed_ok ranges.in_range
samples = record { resets = refl; saves = refl; code = refl; loads = refl; too_high = refl; no_request = refl }

pub numbers : (n : ℕ) → Numbers n
unfolding bytes_of
numbers n =
    let a : n / 2 ^ 16 ≡ n / 256 / 256 = omega arith in
    let b : n / 2 ^ 24 ≡ n / 256 / 256 / 256 = omega arith in
    record { two = refl; four = λ i. n % 256 ∷ n / 256 % 256 ∷ a i % 256 ∷ b i % 256 ∷ [] }
