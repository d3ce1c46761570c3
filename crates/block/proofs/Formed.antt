-- A block of the one form is what saving the state in it gives; and what saving gives has that form.
use Rattle.std.proofs.Common.{Option, Some, None}
use mathlib.Core.Bool.{Bool, true, false, ◌&&◌}
use mathlib.Core.List.{List, [], ◌∷◌}
use mathlib.Core.Path.{◌≡◌, refl, sym, subst, ◌∙◌}
use Prim.Native.Nat.{ℕ, zero, suc, ◌+◌, ◌*◌, ◌≤◌, ◌<◌}
use native.Mathlib.Omega.{arith}
use lib.Dec.{eqb, leb}
use lib.ListN.{length, drop, length-drop}
use lib.Seq.{take_all, get_or-drop}
use borrow.Author.Tests.{eqb-true, leb-true}
use Rattle.base.specs.Base.{one}
use Rattle.base.proofs.Choices.{Is, and_l, and_r}
use Rattle.model.specs.Control.{mode_bits}
use Rattle.model.specs.Records.{Bytes}
use Rattle.model.specs.Script.{byte_at, number16, number32}
use Rattle.model.specs.declared.Mailbox.TheVariants.{M0, M1, M2}
use Rattle.model.specs.declared.Mode.{Mode}
use Rattle.model.specs.declared.Mode.TheVariants.{Sleep, Initialization, Normal}
use Rattle.model.specs.declared.RequestOrder.{RequestOrder}
use Rattle.model.specs.declared.Controller.{Controller}
use Rattle.model.proofs.Orders.{each}
use Rattle.ranges.proofs.Tests.{to_each, from_each}
use Rattle.block.specs.Block.{bytes16, bytes32, words4, flag_at, mode_at, sender_byte, order_byte0, order_byte1, order_byte2, control_bytes, errors_bytes, mailbox_bytes, queue_bytes, fifo_bytes, filters_bytes, word_bytes, banks_bytes, transmit_bytes, core_bytes, saved, control_at, errors_at, mailbox_at, queue_at, frame_at, fifo_at, filters_at, words_of, transmit_at, core_at, decoded, header_ok, order_ok, flag_ok, flags_ok, header_tests, headers_ok, form_tests, form_ok, canonical}
use Rattle.block.proofs.Stores.{run}
use Rattle.block.proofs.Pieces.{Stands, pieces, stands_append, stands_byte, stands_word, stands_half}
use Rattle.block.proofs.Lengths.{control-length, errors-length, mailbox-length, transmit-length, fifo-length, core-length, saved-length}
use Rattle.block.proofs.Banks.{words-length}
use Rattle.block.proofs.Small.{flag_of, mode_of, sender_of, order_of}
use Rattle.model.specs.declared.Mailbox.{Mailbox}

-- ---- from the form to the bytes

both : (a b : Bool) → Is (a && b) → Is a × Is b
both a b h = (and_l a b h, and_r a b h)

module _ (b : List ℕ) where
  header_stands : (i t n : ℕ) → i + 3 ≤ length b → Is (header_ok b i t n) → Stands b i (t ∷ n ∷ 0 ∷ [])
  unfolding header_ok
  header_stands i t n l h =
      let k = both (eqb (byte_at b i) t) _ h in
      let m = both (eqb (byte_at b (i + 1)) n) _ k.1 in
      pieces b (t ∷ []) (run (i + 1) (n ∷ []) ∷ run (i + 2) (0 ∷ []) ∷ []) i
      (stands_byte b i t (omega arith) (sym (eqb-true _ _ k.0))) (omega arith)
      (stands_byte b (i + 1) n (omega arith) (sym (eqb-true _ _ m.0)), (stands_byte b (i + 2) 0 (omega arith) (sym (eqb-true _ _ m.1)), tt))

  flag_stands : (i : ℕ) → i < length b → Is (flag_ok b i) → Stands b i (one (flag_at b i) ∷ [])
  unfolding flag_ok
  flag_stands i l h = stands_byte b i (one (flag_at b i)) l (flag_of (byte_at b i) (leb-true (byte_at b i) 1 h))

  four-flags : (i : ℕ) → Is (flags_ok b i) → (Is (flag_ok b i)) × (Is (flag_ok b (i + 1))) × (Is (flag_ok b (i + 2))) × (Is (flag_ok b (i + 3)))
  unfolding flags_ok
  four-flags i h =
      let k = both (flag_ok b i) (flag_ok b (i + 1) && (flag_ok b (i + 2) && flag_ok b (i + 3))) h in
      let m = both (flag_ok b (i + 1)) (flag_ok b (i + 2) && flag_ok b (i + 3)) k.1 in
      let p = both (flag_ok b (i + 2)) (flag_ok b (i + 3)) m.1 in
      (k.0, m.0, p.0, p.1)

  flags_stand : (i : ℕ) → i + 4 ≤ length b → Is (flags_ok b i) → Stands b i (one (flag_at b i) ∷ one (flag_at b (i + 1)) ∷ one (flag_at b (i + 2)) ∷ one (flag_at b (i + 3)) ∷ [])
  flags_stand i l h =
      let k = four-flags i h in
      pieces b (one (flag_at b i) ∷ []) (run (i + 1) (one (flag_at b (i + 1)) ∷ []) ∷ run (i + 2) (one (flag_at b (i + 2)) ∷ []) ∷ run (i + 3) (one (flag_at b (i + 3)) ∷ []) ∷ []) i
      (flag_stands i (omega arith) k.0) (omega arith)
      (flag_stands (i + 1) (omega arith) k.1, (flag_stands (i + 2) (omega arith) k.2, (flag_stands (i + 3) (omega arith) k.3, tt)))

module _ (b : List ℕ) (bytes : Bytes b) (n : length b ≡ 354) where
  words4_stand : (i : ℕ) → i + 16 ≤ length b → Stands b i (words4 (number32 b i) (number32 b (i + 4)) (number32 b (i + 8)) (number32 b (i + 12)))
  words4_stand i l =
      pieces b (bytes32 (number32 b i)) (run (i + 4) (bytes32 (number32 b (i + 4))) ∷ run (i + 8) (bytes32 (number32 b (i + 8))) ∷ run (i + 12) (bytes32 (number32 b (i + 12))) ∷ []) i
      (stands_word b bytes i (omega arith)) (omega arith)
      (stands_word b bytes (i + 4) (omega arith), (stands_word b bytes (i + 8) (omega arith), (stands_word b bytes (i + 12) (omega arith), tt)))

  control_stands : Is (header_ok b 0 0x40 20) → Is (leb (byte_at b 17) 2) → Is (flags_ok b 19) → Stands b 0 (control_bytes (control_at b))
  unfolding control_bytes control_at
  control_stands h m f =
      pieces b (0x40 ∷ 20 ∷ 0 ∷ []) (run 3 (bytes32 (number32 b 3)) ∷ run 7 (bytes32 (number32 b 7)) ∷ run 11 (bytes32 (number32 b 11)) ∷ run 15 (bytes16 (number16 b 15))
      ∷ run 17 (mode_bits (mode_at (byte_at b 17)) ∷ []) ∷ run 18 (byte_at b 18 ∷ []) ∷ run 19 (one (flag_at b 19) ∷ one (flag_at b 20) ∷ one (flag_at b 21) ∷ one (flag_at b 22) ∷ []) ∷ []) 0
      (header_stands b 0 0x40 20 (omega arith) h) (omega arith) (
        stands_word b bytes 3 (omega arith),
        (
          stands_word b bytes 7 (omega arith),
          (
            stands_word b bytes 11 (omega arith),
            (
              stands_half b bytes 15 (omega arith),
              (stands_byte b 17 _ (omega arith) (mode_of (byte_at b 17) (leb-true _ 2 m)), (stands_byte b 18 _ (omega arith) refl, (flags_stand b 19 (omega arith) f, tt))),
            ),
          ),
        ),
      )

  errors_stand : Is (header_ok b 23 0x41 4) → Stands b 23 (errors_bytes (errors_at b))
  unfolding errors_bytes errors_at
  errors_stand h =
      pieces b (0x41 ∷ 4 ∷ 0 ∷ []) (run 26 (bytes16 (number16 b 26)) ∷ run 28 (byte_at b 28 ∷ []) ∷ run 29 (byte_at b 29 ∷ []) ∷ []) 23
      (header_stands b 23 0x41 4 (omega arith) h) (omega arith)
      (stands_half b bytes 26 (omega arith), (stands_byte b 28 _ (omega arith) refl, (stands_byte b 29 _ (omega arith) refl, tt)))

  mailbox_stands : (i t : ℕ) → i + 23 ≤ length b → Is (header_ok b i t 20) → Is (flags_ok b (i + 19)) → Stands b i (mailbox_bytes t (mailbox_at b i))
  unfolding mailbox_bytes mailbox_at
  mailbox_stands i t l h f =
      pieces b (t ∷ 20 ∷ 0 ∷ []) (run (i + 3) (bytes32 (number32 b (i + 3))) ∷ run (i + 7) (bytes32 (number32 b (i + 7))) ∷ run (i + 11) (bytes32 (number32 b (i + 11))) ∷ run (i + 15) (bytes32 (number32 b (i + 15)))
      ∷ run (i + 19) (one (flag_at b (i + 19)) ∷ []) ∷ run (i + 20) (one (flag_at b (i + 20)) ∷ []) ∷ run (i + 21) (one (flag_at b (i + 21)) ∷ []) ∷ run (i + 22) (one (flag_at b (i + 22)) ∷ []) ∷ []) i
      (header_stands b i t 20 (omega arith) h) (omega arith)
      (stands_word b bytes (i + 3) (omega arith), (stands_word b bytes (i + 7) (omega arith), (stands_word b bytes (i + 11) (omega arith), (stands_word b bytes (i + 15) (omega arith), four f))))
    where
      at : (j k : ℕ) → j ≡ k → Is (flag_ok b j) → Is (flag_ok b k)
      at j k e h = subst (λ (x : ℕ). Is (flag_ok b x)) e h

      four : Is (flags_ok b (i + 19)) → Stands b (i + 19) (one (flag_at b (i + 19)) ∷ []) × (Stands b (i + 20) (one (flag_at b (i + 20)) ∷ []) × (Stands b (i + 21) (one (flag_at b (i + 21)) ∷ []) × (Stands b (i + 22) (one (flag_at b (i + 22)) ∷ []) × Unit {0})))
      four h = tail (four-flags b (i + 19) h)
        where
          tail : (Is (flag_ok b (i + 19))) × (Is (flag_ok b (i + 19 + 1))) × (Is (flag_ok b (i + 19 + 2))) × (Is (flag_ok b (i + 19 + 3)))
              → Stands b (i + 19) (one (flag_at b (i + 19)) ∷ []) × (Stands b (i + 20) (one (flag_at b (i + 20)) ∷ []) × (Stands b (i + 21) (one (flag_at b (i + 21)) ∷ []) × (Stands b (i + 22) (one (flag_at b (i + 22)) ∷ []) × Unit {0})))
          tail k = (
            flag_stands b (i + 19) (omega arith) k.0,
            (
              flag_stands b (i + 20) (omega arith) (at (i + 19 + 1) (i + 20) (omega arith) k.1),
              (
                flag_stands b (i + 21) (omega arith) (at (i + 19 + 2) (i + 21) (omega arith) k.2),
                (flag_stands b (i + 22) (omega arith) (at (i + 19 + 3) (i + 22) (omega arith) k.3), tt),
              ),
            ),
          )

  queue_stands : Is (header_ok b 99 0x45 7) → Is (order_ok (byte_at b 102) (byte_at b 103) (byte_at b 104)) → Is (leb (byte_at b 105) 3) → Is (flag_ok b 106) → Is (flag_ok b 107) → Is (flag_ok b 108)
      → Stands b 99 (queue_bytes (queue_at b))
  unfolding queue_bytes queue_at
  queue_stands h o s f g k =
      let q = order_of (byte_at b 102) (byte_at b 103) (byte_at b 104) o in
      pieces b (0x45 ∷ 7 ∷ 0 ∷ []) (run 102 (order_byte0 (queue_at b).order ∷ []) ∷ run 103 (order_byte1 (queue_at b).order ∷ []) ∷ run 104 (order_byte2 (queue_at b).order ∷ []) ∷ run 105 (sender_byte (queue_at b).transmitting ∷ [])
      ∷ run 106 (one (flag_at b 106) ∷ []) ∷ run 107 (one (flag_at b 107) ∷ []) ∷ run 108 (one (flag_at b 108) ∷ []) ∷ []) 99
      (header_stands b 99 0x45 7 (omega arith) h) (omega arith) (
        stands_byte b 102 _ (omega arith) q.byte0,
        (
          stands_byte b 103 _ (omega arith) q.byte1,
          (
            stands_byte b 104 _ (omega arith) q.byte2,
            (
              stands_byte b 105 _ (omega arith) (sender_of (byte_at b 105) (leb-true _ 3 s)),
              (flag_stands b 106 (omega arith) f, (flag_stands b 107 (omega arith) g, (flag_stands b 108 (omega arith) k, tt))),
            ),
          ),
        ),
      )

  fifo_stands : (i t : ℕ) → i + 55 ≤ length b → Is (header_ok b i t 52) → Is (flag_ok b (i + 53)) → Is (flag_ok b (i + 54)) → Stands b i (fifo_bytes t (fifo_at b i))
  unfolding fifo_bytes fifo_at frame_at
  fifo_stands i t l h f g =
      pieces b (t ∷ 52 ∷ 0 ∷ [])
      (run (i + 3) (words4 (number32 b (i + 3)) (number32 b (i + 3 + 4)) (number32 b (i + 3 + 8)) (number32 b (i + 3 + 12)))
      ∷ run (i + 19) (words4 (number32 b (i + 19)) (number32 b (i + 19 + 4)) (number32 b (i + 19 + 8)) (number32 b (i + 19 + 12)))
      ∷ run (i + 35) (words4 (number32 b (i + 35)) (number32 b (i + 35 + 4)) (number32 b (i + 35 + 8)) (number32 b (i + 35 + 12)))
      ∷ run (i + 51) (bytes16 (number16 b (i + 51))) ∷ run (i + 53) (one (flag_at b (i + 53)) ∷ []) ∷ run (i + 54) (one (flag_at b (i + 54)) ∷ []) ∷ []) i
      (header_stands b i t 52 (omega arith) h) (omega arith)
      (words4_stand (i + 3) (omega arith), (words4_stand (i + 19) (omega arith), (words4_stand (i + 35) (omega arith), (stands_half b bytes (i + 51) (omega arith), (flag_stands b (i + 53) (omega arith) f, (flag_stands b (i + 54) (omega arith) g, tt))))))

  filters_stand : Is (header_ok b 219 0x48 17) → Is (flag_ok b 238) → Stands b 219 (filters_bytes (filters_at b))
  unfolding filters_bytes filters_at
  filters_stand h f =
      pieces b (0x48 ∷ 17 ∷ 0 ∷ []) (run 222 (words4 (number32 b 222) (number32 b 226) (number32 b 230) (number32 b 234)) ∷ run 238 (one (flag_at b 238) ∷ []) ∷ []) 219
      (header_stands b 219 0x48 17 (omega arith) h) (omega arith)
      (words4_stand 222 (omega arith), (flag_stands b 238 (omega arith) f, tt))

  transmit_stands : Is (headers_ok b) → Is (form_ok b) → Stands b 30 (transmit_bytes (transmit_at b))
  unfolding transmit_bytes transmit_at headers_ok form_ok
  transmit_stands h f =
      let k = (to_each (header_tests b) h).1.1 in
      let g = (to_each (form_tests b) f).1.1 in
      let q = g.1.1.1 in
      pieces b (mailbox_bytes 0x42 (mailbox_at b 30)) (run 53 (mailbox_bytes 0x43 (mailbox_at b 53)) ∷ run 76 (mailbox_bytes 0x44 (mailbox_at b 76)) ∷ run 99 (queue_bytes (queue_at b)) ∷ []) 30
      (mailbox_stands 30 0x42 (omega arith) k.0 g.0)
      (omega (arith, mailbox-length 0x42 (mailbox_at b 30), mailbox-length 0x43 (mailbox_at b 53), mailbox-length 0x44 (mailbox_at b 76)))
      (mailbox_stands 53 0x43 (omega arith) k.1.0 g.1.0, (mailbox_stands 76 0x44 (omega arith) k.1.1.0 g.1.1.0, (queue_stands k.1.1.1.0 q.0 q.1.0 q.1.1.0 q.1.1.1.0 q.1.1.1.1.0, tt)))

  core_stands : Is (headers_ok b) → Is (form_ok b) → Stands b 0 (core_bytes (core_at b))
  unfolding core_bytes core_at headers_ok form_ok
  core_stands h f =
      let k = to_each (header_tests b) h in
      let g = to_each (form_tests b) f in
      let k6 = k.1.1.1.1.1.1 in
      let g10 = g.1.1.1.1.1.1.1.1.1.1 in
      pieces b (control_bytes (control_at b)) (run 23 (errors_bytes (errors_at b)) ∷ run 30 (transmit_bytes (transmit_at b)) ∷ run 109 (fifo_bytes 0x46 (fifo_at b 109)) ∷ run 164 (fifo_bytes 0x47 (fifo_at b 164)) ∷ run 219 (filters_bytes (filters_at b)) ∷ []) 0
      (control_stands k.0 g.0 g.1.0)
      (omega (arith, control-length (control_at b), errors-length (errors_at b), transmit-length (transmit_at b), fifo-length 0x46 (fifo_at b 109), fifo-length 0x47 (fifo_at b 164)))
      (errors_stand k.1.0, (transmit_stands h f, (fifo_stands 109 0x46 (omega arith) k6.0 g10.0 g10.1.0, (fifo_stands 164 0x47 (omega arith) k6.1.0 g10.1.1.0 g10.1.1.1.0, (filters_stand k6.1.1.0 g10.1.1.1.1.0, tt)))))

-- the words of the banks
words_stand : (m : ℕ) (b : List ℕ) → Bytes b → 4 * m ≤ length b → Stands b 0 (word_bytes (words_of m b))
unfolding word_bytes words_of
words_stand zero b bytes l = refl
words_stand (suc m) b bytes l =
    stands_append b 0 (bytes32 (number32 b 0)) (word_bytes (words_of m (drop 4 b))) (stands_word b bytes 0 (omega arith))
    (words_stand m (drop 4 b) (λ i. rw (get_or-drop 4 b i 0) (bytes (4 + i))) (omega (arith, length-drop 4 b)))

-- ---- a block of the one form

all_stand : (b w : List ℕ) → Stands b 0 (core_bytes (core_at b)) → Stands b 239 (0x49 ∷ 112 ∷ 0 ∷ []) → Stands b 242 (word_bytes w) → Stands b 0 (saved (record { core = core_at b; banks = w }))
unfolding saved banks_bytes
all_stand b w c h s =
    let e : 239 ≡ 0 + length (core_bytes (core_at b)) = omega (arith, core-length (core_at b)) in
    stands_append b 0 (core_bytes (core_at b)) (banks_bytes w) c
    (subst (λ (i : ℕ). Stands b i (0x49 ∷ 112 ∷ 0 ∷ word_bytes w)) e (stands_append b 239 (0x49 ∷ 112 ∷ 0 ∷ []) (word_bytes w) h s))

whole : (b x : List ℕ) → length b ≡ length x → Stands b 0 x → x ≡ b
whole b x e s = sym s ∙ take_all (length x) b (omega arith)

pub saved-decoded : (b : List ℕ) → Bytes b → length b ≡ 354 → Is (canonical b) → saved (decoded b) ≡ b
unfolding canonical decoded headers_ok
saved-decoded b bytes n ok =
    let h = and_l (headers_ok b) (form_ok b) ok in
    let k = to_each (header_tests b) h in
    let w : List ℕ = words_of 28 (drop 242 b) in
    whole b _ (n ∙ sym (saved-length (record { core = core_at b; banks = w }) (words-length 28 (drop 242 b))))
    (all_stand b w (core_stands b bytes n h (and_r (headers_ok b) (form_ok b) ok)) (header_stands b 239 0x49 112 (omega arith) k.1.1.1.1.1.1.1.1.1.0)
    (words_stand 28 (drop 242 b) (λ i. rw (get_or-drop 242 b i 0) (bytes (242 + i))) (omega (arith, length-drop 242 b))))

-- ---- what saving gives has the form

flag-form : (f : Bool) → Is (leb (one f) 1)
flag-form true = refl
flag-form false = refl

four-form : (f g h k : Bool) → Is (leb (one f) 1 && (leb (one g) 1 && (leb (one h) 1 && leb (one k) 1)))
four-form f g h k = simp flag-form

mode-form : (m : Mode) → Is (leb (mode_bits m) 2)
mode-form Sleep = refl
mode-form Initialization = refl
mode-form Normal = refl

sender_form : (s : Option Mailbox) → Is (leb (sender_byte s) 3)
sender_form None = refl
sender_form (Some M0) = refl
sender_form (Some M1) = refl
sender_form (Some M2) = refl

order-form : (o : RequestOrder) → Is (order_ok (order_byte0 o) (order_byte1 o) (order_byte2 o))
unfolding order_ok
order-form o = each (λ o m x y. order_ok (order_byte0 o) (order_byte1 o) (order_byte2 o)) refl o M0 M0 M0

module _ (z : Controller) where
  headers_form : Is (headers_ok (saved z))
  unfolding headers_ok header_ok saved core_bytes control_bytes errors_bytes transmit_bytes mailbox_bytes queue_bytes fifo_bytes filters_bytes banks_bytes
  headers_form = refl

  form-form : Is (form_ok (saved z))
  unfolding form_ok flag_ok flags_ok saved core_bytes control_bytes errors_bytes transmit_bytes mailbox_bytes queue_bytes fifo_bytes filters_bytes
  form-form =
      let k = z.core.control in
      let x0 = z.core.transmit.mailboxes.m0 in
      let x1 = z.core.transmit.mailboxes.m1 in
      let x2 = z.core.transmit.mailboxes.m2 in
      let q = z.core.transmit.queue in
      let f0 = z.core.fifo0 in
      let f1 = z.core.fifo1 in
      from_each (form_tests (saved z)) (
        mode-form k.mode,
        (
          four-form k.reinitialized k.erri k.wkui k.slaki,
          (
            four-form x0.rqcp x0.txok x0.alst x0.terr,
            (
              four-form x1.rqcp x1.txok x1.alst x1.terr,
              (
                four-form x2.rqcp x2.txok x2.alst x2.terr,
                (
                  order-form q.order,
                  (
                    sender_form q.transmitting,
                    (
                      flag-form q.aborts.m0,
                      (flag-form q.aborts.m1, (flag-form q.aborts.m2, (flag-form f0.full, (flag-form f0.fovr, (flag-form f1.full, (flag-form f1.fovr, (flag-form z.core.filters.finit, tt))))))),
                    ),
                  ),
                ),
              ),
            ),
          ),
        ),
      )

  pub canonical-saved : Is (canonical (saved z))
  unfolding canonical
  canonical-saved = rw (headers_form, form-form)
