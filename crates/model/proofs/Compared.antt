-- What `==` and `is_none` say of mailboxes is the definitions' `same`, `is_from` and `is_nobody`.
use Rattle.std.specs.Option.{option_eq, is_some}
use Rattle.std.proofs.Common.{Option, Some, None}
use mathlib.Core.Bool.{Bool, true, false, not, true≢false, false≢true}
use mathlib.Core.Path.{◌≡◌, refl}
use Rattle.model.specs.Queue.{same, is_from, is_nobody}
use Rattle.model.specs.contracts.MailboxPartialEq.TheImpl.{eq-value}
use Rattle.model.specs.declared.Mailbox.{Mailbox}
use Rattle.model.specs.declared.Mailbox.TheVariants.{M0, M1, M2}

pub equal_same : (a b : Mailbox) → eq-value.it a b ≡ same a b
equal_same M0 M0 = refl
equal_same M0 M1 = refl
equal_same M0 M2 = refl
equal_same M1 M0 = refl
equal_same M1 M1 = refl
equal_same M1 M2 = refl
equal_same M2 M0 = refl
equal_same M2 M1 = refl
equal_same M2 M2 = refl

pub equal_is_from : (s : Option Mailbox) (m : Mailbox) → option_eq eq-value.it s (Some m) ≡ is_from s m
equal_is_from None m = refl
equal_is_from (Some a) m = equal_same a m

pub none_nobody : (s : Option Mailbox) (b : Bool) → is_some s ≡ not b → b ≡ is_nobody s
none_nobody None true e = refl
none_nobody None false e = absurd (false≢true e)
none_nobody (Some a) true e = absurd (true≢false e)
none_nobody (Some a) false e = refl
