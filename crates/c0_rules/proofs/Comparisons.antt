-- What a comparison doesn't take it takes with no operand on its right.
use Rattle.std.proofs.Common.{◌≡◌, refl, Bool, true, false, Option, Some, None}
use Rattle.std.specs.Prelude.{◌&&◌}
use Rattle.c0_typed.specs.Trees as t
use Rattle.c0_rules.specs.Types.{provided, Environment, ResolvedType, VoidType, IntType, BoolType, CharType, StringType, StructNamed, PointerTo, ArrayOf, same_type}
use Rattle.c0_rules.specs.Expressions.{Typing, Has, IsNull, compared, is_compared, is_equality, null_as}
use Rattle.c0_rules.specs.FaultExpressions.{is_comparable}

without : {A : Type 0} (b : Bool) (o : Option A) → o ≡ None → provided b o ≡ None
without true o e = e
without false o e = refl

refused : {A : Type 0} (b : Bool) (o : Option A) → b ≡ false → provided b o ≡ None
refused true o e = absurd (cc e)
refused false o e = refl

neither : {A : Type 0} (a b : Bool) (o : Option A) → b ≡ false → provided (a && b) o ≡ None
neither true b o e = refused b o e
neither false b o e = refl

-- pointers are compared exactly by equality
pointers : (r : t.Relation) (a : ResolvedType) → is_compared r (PointerTo a) ≡ false → is_equality r ≡ false
pointers t.Equal a h = absurd (cc h)
pointers t.Unequal a h = absurd (cc h)
pointers t.Below a h = refl
pointers t.AtMost a h = refl
pointers t.Above a h = refl
pointers t.AtLeast a h = refl

pub not_compared : (env : Environment) (r : t.Relation) (x y : Typing) → is_comparable r x ≡ false → compared env r x y ≡ None
not_compared env r (Has a e) (Has b z) h = neither (same_type a b) (is_compared r a) _ h
not_compared env r (Has (PointerTo a) e) (IsNull z) h = refused (is_equality r) _ (pointers r a h)
not_compared env r (Has _ e) (IsNull z) h = without (is_equality r) _ refl
not_compared env r (IsNull e) (Has b z) h = refused (is_equality r) _ h
not_compared env r (IsNull e) (IsNull z) h = refused (is_equality r) _ h
