-- The word of the searched banks is part of that of the active banks of the class: `searched-bit`.
use Rattle.std.proofs.Common.{◌^◌, ◌<◌, sym, ◌∙◌, arith}
use Rattle.model.specs.declared.Fifo.TheVariants.{F0, F1}
use Rattle.filter.proofs.BankWords.{searched-bit}
use Rattle.filter.proofs.Classes.{hit-none, found_in, none_of_class, none-compared}
use Rattle.filter.proofs.Comparing.{compared_in-both}
use Rattle.filter.proofs.leading_of.Goals as goal

pub returns-then-part-eq0 : goal.returns-then-part-eq0
returns-then-part-eq0 c =
    let words = c.of_class.ensures in
    let fits : c.args.g.assignment < 2 ^ 32 = omega (arith, c.struct_known-1.given) in
    record {
      within0 = (omega arith, λ h. absurd (omega arith));
      within1 = (omega arith, λ h. absurd (omega arith));
      few = omega arith;
      hit0 = hit-none c.args.g F0 _ (omega arith) ∙ sym (none_of_class c.args.g _ _ c.args.k _ words fits c.if-part-eq0.true F0);
      rest = λ h. absurd (omega arith);
      compared0 = λ h. absurd (omega arith);
      hit1 = λ h. hit-none c.args.g F1 _ (omega arith) ∙ sym (none_of_class c.args.g _ _ c.args.k _ words fits c.if-part-eq0.true F1);
      compared1 = λ h. sym (none-compared c.args.g _ _ c.args.k _ words fits c.if-part-eq0.true);
    }

pub returns-then-f0-lt128 : goal.returns-then-f0-lt128
returns-then-f0-lt128 c =
    let fits : c.args.g.assignment < 2 ^ 32 = omega (arith, c.struct_known-1.given) in
    let first = c.first_match-x.ensures in
    let in0 = found_in c.args.g _ _ c.args.k F0 _ _ first (λ b h. searched-bit c.args.g c.args.k F0 _ b h fits (c.of_class.ensures b h)) in
    record {
      within0 = first.within;
      within1 = (omega arith, λ h. absurd (omega arith));
      few = omega (arith, first.few);
      hit0 = in0.0;
      rest = λ h b l. searched-bit c.args.g c.args.k F1 _ b (omega arith) fits (c.of_class.ensures b (omega arith));
      compared0 = λ h. in0.1;
      hit1 = λ h. absurd (omega arith);
      compared1 = λ h. absurd (omega arith);
    }

pub returns : goal.returns
returns c =
    let fits : c.args.g.assignment < 2 ^ 32 = omega (arith, c.struct_known-1.given) in
    let first = c.first_match-x.ensures in
    let second = c.first_match-y.ensures in
    let in0 = found_in c.args.g _ _ c.args.k F0 _ _ first (λ b h. searched-bit c.args.g c.args.k F0 _ b h fits (c.of_class.ensures b h)) in
    let in1 = found_in c.args.g _ _ c.args.k F1 _ _ second (λ b h. searched-bit c.args.g c.args.k F1 _ b h fits (c.of_class.ensures b h)) in
    let none = sym in0.0 ∙ hit-none c.args.g F0 _ c.if-f0-lt128.false in
    record {
      within0 = (omega arith, λ h. absurd (omega arith));
      within1 = second.within;
      few = omega (arith, first.few, second.few);
      hit0 = hit-none c.args.g F0 _ (omega arith) ∙ sym none;
      rest = λ h. absurd (omega arith);
      compared0 = λ h. absurd (omega arith);
      hit1 = λ h. in1.0;
      compared1 = λ h. omega (arith, compared_in-both 14 c.args.g _ _ c.args.k none, in0.1, in1.1);
    }
