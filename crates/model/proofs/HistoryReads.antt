-- What registers show of a controller, as the tie from the history reads it.
use mathlib.Core.Bool.{Bool, true, false}
use mathlib.Core.Path.{◌≡◌, refl, ap, ◌∙◌}
use mathlib.Core.List.{List, [], ◌∷◌}
use Prim.Native.Nat.{ℕ, zero, suc, ◌+◌, ◌*◌, ◌/◌, ◌%◌}
use native.Mathlib.Omega.{arith}
use lib.ListN.{length, get_or}
use Rattle.base.specs.Base.{bits, one}
use Rattle.model.specs.Queue.{holds}
use Rattle.model.specs.Mailboxes.{at, sent_identifier}
use Rattle.model.specs.Search.{acceptance}
use Rattle.model.specs.Reception.{sent_frame}
use Rattle.model.specs.Registers.{bank_count, register_at, filter_register, bank_register, bank_word, read_word}
use Rattle.model.specs.Step.{step, answered, refusal, word_of}
use Rattle.model.specs.Reachable.{InRange}
use Rattle.model.specs.History.{words_from, filters_shown, filtered, frame_in}
use Rattle.model.specs.Shown.{ti}
use Rattle.model.specs.declared.Mailbox.{Mailbox}
use Rattle.model.specs.declared.MailboxState.{MailboxState}
use Rattle.model.specs.declared.Controller.{Controller}
use Rattle.model.specs.declared.Step as steps
use Rattle.model.proofs.ShownWords.{ti-shown, tdt-shown, tdl-shown, tdh-shown}
use Rattle.model.proofs.ReadFields.{finit-read}

pub code_is : (z : Controller) (s : steps.Step) → (step z s).code ≡ refusal z.core s
unfolding step answered
code_is z s = refl

pub filters-read : (z : Controller) → filters_shown z ≡ z.core.filters
unfolding step answered refusal word_of register_at filter_register read_word
filters-read z = λ j. record { mode = z.core.filters.mode; scale = z.core.filters.scale; assignment = z.core.filters.assignment; activation = z.core.filters.activation; finit = finit-read z j }

-- the n words of a list from place i on
places : List ℕ → ℕ → ℕ → List ℕ
places v i zero = []
places v i (suc n) = get_or v i 0 ∷ places v (suc i) n

places-past : (x : ℕ) (v : List ℕ) (i n : ℕ) → places (x ∷ v) (suc i) n ≡ places v i n
unfolding places
places-past x v i zero = refl
places-past x v i (suc n) = ap (λ (l : List ℕ). get_or v i 0 ∷ l) (places-past x v (suc i) n)

all-places : (v : List ℕ) (n : ℕ) → length v ≡ n → places v 0 n ≡ v
unfolding places
all-places [] zero e = refl
all-places [] (suc n) e = absurd (omega arith)
all-places (x ∷ v) zero e = absurd (omega arith)
all-places (x ∷ v) (suc n) e = ap (λ (l : List ℕ). x ∷ l) (places-past x v 0 n ∙ all-places v n (omega arith))

pub banks-read : (z : Controller) → length z.banks ≡ 2 * bank_count → words_from z 0x240 (2 * bank_count) ≡ z.banks
unfolding step answered refusal word_of register_at filter_register bank_register read_word bank_word words_from places
banks-read z h = all-places z.banks 28 h

without-txrq : (n : ℕ) (b : Bool) → n / 2 * 2 ≡ n → (n / 2 * 2 + one b) / 2 * 2 ≡ n
without-txrq n true e = omega arith
without-txrq n false e = omega arith

low_digit : (n : ℕ) → bits 0 4 n ≡ n % 16
low_digit n = omega arith

pub frame-read : (z : Controller) (m : Mailbox) → InRange z → frame_in z m ≡ sent_frame (at z.core.transmit.mailboxes m)
unfolding sent_frame
frame-read z m i =
    let x : MailboxState = at z.core.transmit.mailboxes m in
    let e : ti m z / 2 * 2 ≡ x.ti = ap (λ (w : ℕ). w / 2 * 2) (ti-shown m z) ∙ without-txrq x.ti (holds z.core.transmit.queue.order m) (i.core.transmit.mailboxes m).even in
    λ j. record { identifier = sent_identifier (e j); low = tdl-shown m z j; high = tdh-shown m z j; length = (ap (λ (w : ℕ). bits 0 4 w) (tdt-shown m z) ∙ low_digit x.tdt) j }

pub filtered-read : (z : Controller) (w : ℕ) → InRange z → filtered z w ≡ acceptance bank_count z.core.filters z.banks w
filtered-read z w i = λ j. acceptance bank_count (filters-read z j) (banks-read z i.bank_words j) w
