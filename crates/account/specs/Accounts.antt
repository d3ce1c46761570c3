-- What there is to say of a step. a is what the step gives.
use Rattle.model.specs.Registers.{register_at}
use Rattle.model.specs.Replies.{answer_of}
use Rattle.account.specs.Accesses.{offset_of}
use Rattle.model.specs.declared.Controller.{Controller}
use Rattle.model.specs.declared.Stepped.{Stepped}
use Rattle.model.specs.declared.Step as steps
use Rattle.account.specs.Reasons.{bus_of, of_step}
use Rattle.account.specs.Views.{view_of, taken_by}
use Rattle.account.specs.declared.Account.{Account}

unfoldable pub account_of : Controller → steps.Step → Stepped → Account
account_of z e a = record {
  register = register_at (offset_of e);
  answer = answer_of a;
  reason = of_step (bus_of z.core) e (register_at (offset_of e));
  taken = taken_by z.core.filters z.banks e;
  old = view_of z.core;
  new = view_of a.controller.core;
}
