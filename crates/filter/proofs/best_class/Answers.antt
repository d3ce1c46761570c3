-- The classes in their order of preference: each test of a class that is left says that it has no match.
use Rattle.std.proofs.Common.{sym, ◌∙◌, arith}
use Rattle.filter.proofs.Classes.{all_classes, first_passes, first-wins, counted_passes, counted-few, counted-wins, last-wins}
use Rattle.filter.proofs.best_class.Goals as goal

pub returns-then-any_place : goal.returns-then-any_place
returns-then-any_place c = first-wins _ _ _ _ _ _ c.leading_of-a.ensures (all_classes _ _ _) (sym c.any_place.ensures ∙ c.if-any_place.true)

pub returns-then-any_place-2 : goal.returns-then-any_place-2
returns-then-any_place-2 c =
    let class1 = c.leading_of-a.ensures in
    let to2 = first_passes _ _ _ _ _ _ class1 (all_classes _ _ _) (sym c.any_place.ensures ∙ c.if-any_place.false) in
    counted-wins _ _ _ _ _ _ _ _ c.leading_of.ensures to2 c.counted-b.ensures
    (omega (arith, class1.few)) (sym c.any_place-2.ensures ∙ c.if-any_place-2.true)

pub counted-c-requires : goal.counted-c-requires
counted-c-requires c =
    let class1 = c.leading_of-a.ensures in
    let to2 = first_passes _ _ _ _ _ _ class1 (all_classes _ _ _) (sym c.any_place.ensures ∙ c.if-any_place.false) in
    let class2 = c.leading_of.ensures in
    let sum2 = c.counted-b.ensures in
    let to3 = counted_passes _ _ _ _ _ _ _ _ class2 to2 sum2 (sym c.any_place-2.ensures ∙ c.if-any_place-2.false) in
    let few2 = counted-few _ _ _ _ _ _ _ _ class2 to2 sum2 in
    (c.leading_of-2.ensures.few, omega (arith, few2, class1.few))

pub returns-then-any_place-3 : goal.returns-then-any_place-3
returns-then-any_place-3 c =
    let class1 = c.leading_of-a.ensures in
    let to2 = first_passes _ _ _ _ _ _ class1 (all_classes _ _ _) (sym c.any_place.ensures ∙ c.if-any_place.false) in
    let class2 = c.leading_of.ensures in
    let sum2 = c.counted-b.ensures in
    let to3 = counted_passes _ _ _ _ _ _ _ _ class2 to2 sum2 (sym c.any_place-2.ensures ∙ c.if-any_place-2.false) in
    let few2 = counted-few _ _ _ _ _ _ _ _ class2 to2 sum2 in
    counted-wins _ _ _ _ _ _ _ _ c.leading_of-2.ensures to3 c.counted-c.ensures
    (omega (arith, few2, class1.few)) (sym c.any_place-3.ensures ∙ c.if-any_place-3.true)

pub counted-d-requires : goal.counted-d-requires
counted-d-requires c =
    let class1 = c.leading_of-a.ensures in
    let to2 = first_passes _ _ _ _ _ _ class1 (all_classes _ _ _) (sym c.any_place.ensures ∙ c.if-any_place.false) in
    let class2 = c.leading_of.ensures in
    let sum2 = c.counted-b.ensures in
    let to3 = counted_passes _ _ _ _ _ _ _ _ class2 to2 sum2 (sym c.any_place-2.ensures ∙ c.if-any_place-2.false) in
    let few2 = counted-few _ _ _ _ _ _ _ _ class2 to2 sum2 in
    let class3 = c.leading_of-2.ensures in
    let sum3 = c.counted-c.ensures in
    let to4 = counted_passes _ _ _ _ _ _ _ _ class3 to3 sum3 (sym c.any_place-3.ensures ∙ c.if-any_place-3.false) in
    let few3 = counted-few _ _ _ _ _ _ _ _ class3 to3 sum3 in
    (c.leading_of-3.ensures.few, omega (arith, few3, few2, class1.few))

pub returns : goal.returns
returns c =
    let class1 = c.leading_of-a.ensures in
    let to2 = first_passes _ _ _ _ _ _ class1 (all_classes _ _ _) (sym c.any_place.ensures ∙ c.if-any_place.false) in
    let class2 = c.leading_of.ensures in
    let sum2 = c.counted-b.ensures in
    let to3 = counted_passes _ _ _ _ _ _ _ _ class2 to2 sum2 (sym c.any_place-2.ensures ∙ c.if-any_place-2.false) in
    let few2 = counted-few _ _ _ _ _ _ _ _ class2 to2 sum2 in
    let class3 = c.leading_of-2.ensures in
    let sum3 = c.counted-c.ensures in
    let to4 = counted_passes _ _ _ _ _ _ _ _ class3 to3 sum3 (sym c.any_place-3.ensures ∙ c.if-any_place-3.false) in
    let few3 = counted-few _ _ _ _ _ _ _ _ class3 to3 sum3 in
    last-wins _ _ _ _ _ _ _ c.leading_of-3.ensures to4 c.counted-d.ensures (omega (arith, few3, few2, class1.few))
