-- A bit of the word for each class: `of_class-bit`.
use Rattle.std.proofs.Common.{arith}
use Rattle.model.specs.declared.FilterClass.TheVariants.{List32, Mask32, List16, Mask16}
use Rattle.filter.proofs.BankWords.{of_class-bit}
use Rattle.filter.proofs.of_class.Goals as goal

pub returns-in-List32 : goal.returns-in-List32
returns-in-List32 c = λ b h. simp c.in-List32.is (of_class-bit c.args.g b h (omega (arith, c.struct_known-1.given)) (omega (arith, c.struct_known-1.given)) List32)

pub returns-in-Mask32 : goal.returns-in-Mask32
returns-in-Mask32 c = λ b h. simp c.in-Mask32.is (of_class-bit c.args.g b h (omega (arith, c.struct_known-in-Mask32-2-1.given)) (omega (arith, c.struct_known-in-Mask32-2-1.given)) Mask32)

pub returns-in-List16 : goal.returns-in-List16
returns-in-List16 c = λ b h. simp c.in-List16.is (of_class-bit c.args.g b h (omega (arith, c.struct_known-in-List16-2-1.given)) (omega (arith, c.struct_known-in-List16-2-1.given)) List16)

pub returns-in-Mask16 : goal.returns-in-Mask16
returns-in-Mask16 c = λ b h. simp c.in-Mask16.is (of_class-bit c.args.g b h (omega (arith, c.struct_known-in-Mask16-2-1.given)) (omega (arith, c.struct_known-in-Mask16-2-1.given)) Mask16)
