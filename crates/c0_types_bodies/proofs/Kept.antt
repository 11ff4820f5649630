-- What is told of a part, said where the environment and the texts are those of the beginning; and what lacks a part.
use Rattle.std.proofs.Common.{◌≡◌, List, Bor, sym, subst, ap, None, inl, inr}
use Rattle.std.specs.Prelude.{◌⊎◌}
use Rattle.c0_syntax.specs.Trees.{Statement, Statements}
use Rattle.c0_types_bodies.specs.Bodies.{block_in_scope, in_scope, turn_in_scope}
use Rattle.c0_rules.specs.Statements.{Scope, in_body, leave, next, typed_statement, typed_statements}
use Rattle.c0_rules.specs.Types.{Name, Environment, and_so}
use Rattle.c0_types_tables.specs.declared.environment.Environment as d
use Rattle.c0_types_tables.specs.Views.{environment_of}

pub at_start : (P : Environment → List Name → Type 0) {a b : Bor d.Environment} {x y : Bor (List Name)} → a ≡ b → x ≡ y → P (environment_of a.now) x.now → P (environment_of b.now) y.now
at_start P {a = a} {b = b} {x = x} {y = y} e k h = subst (λ z. P (environment_of b.now) z.now) k (subst (λ z. P (environment_of z.now) x.now) e h)

pub in_texts : (P : List Name → Type 0) {x y : Bor (List Name)} → x ≡ y → P y.now → P x.now
in_texts P e h = subst (λ z. P z.now) (sym e) h

-- what lacks a part lacks the whole
pub scope_none : {K : Type 0} (env : Environment) (a : Statement) (s : Scope) → K ⊎ (typed_statement env a s ≡ None) → K ⊎ (in_scope env a s ≡ None)
scope_none env a s (inl k) = inl k
scope_none env a s (inr h) = inr (ap (λ o. and_so o (λ x. next x.statement (leave s x.scope))) h)

pub turn_none : {K : Type 0} (env : Environment) (a : Statement) (s : Scope) → K ⊎ (typed_statement env a (in_body s) ≡ None) → K ⊎ (turn_in_scope env a s ≡ None)
turn_none env a s (inl k) = inl k
turn_none env a s (inr h) = inr (ap (λ o. and_so o (λ x. next x.statement (leave s x.scope))) h)

pub block_none : {K : Type 0} (env : Environment) (rest : Statements) (s : Scope) → K ⊎ (typed_statements env rest s ≡ None) → K ⊎ (block_in_scope env rest s ≡ None)
block_none env rest s (inl k) = inl k
block_none env rest s (inr h) = inr (ap (λ o. and_so o (λ x. next x.statement (leave s x.scope))) h)

-- a cause in a part is one in the whole
pub first_alone : {K A B : Type 0} → K ⊎ A → K ⊎ A ⊎ B
first_alone (inl k) = inl k
first_alone (inr h) = inr (inl h)

pub first_two : {K A B C : Type 0} → K ⊎ A ⊎ B → K ⊎ A ⊎ B ⊎ C
first_two (inl k) = inl k
first_two (inr (inl h)) = inr (inl h)
first_two (inr (inr h)) = inr (inr (inl h))

pub second_of : {K A B C : Type 0} → K ⊎ B → (B → C) → K ⊎ A ⊎ C
second_of (inl k) f = inl k
second_of (inr h) f = inr (inr (f h))

pub third_alone : {K A B C : Type 0} → K ⊎ C → K ⊎ A ⊎ B ⊎ C
third_alone (inl k) = inl k
third_alone (inr h) = inr (inr (inr h))

-- a cause in the parts of a loop beside its body, or in its body, is one in the loop
pub head_told : {K T A B C D : Type 0} → K ⊎ T ⊎ A ⊎ B ⊎ C → K ⊎ T ⊎ A ⊎ B ⊎ C ⊎ D
head_told (inl k) = inl k
head_told (inr (inl h)) = inr (inl h)
head_told (inr (inr (inl h))) = inr (inr (inl h))
head_told (inr (inr (inr (inl h)))) = inr (inr (inr (inl h)))
head_told (inr (inr (inr (inr h)))) = inr (inr (inr (inr (inl h))))

pub body_told : {K T A B C D : Type 0} → K ⊎ D → K ⊎ T ⊎ A ⊎ B ⊎ C ⊎ D
body_told (inl k) = inl k
body_told (inr h) = inr (inr (inr (inr (inr h))))

-- a cause in the loop is one in its `for`
pub loop_told : {K A T L D : Type 0} → K ⊎ T ⊎ L → (L → D) → K ⊎ A ⊎ T ⊎ D
loop_told (inl k) go = inl k
loop_told (inr (inl h)) go = inr (inr (inl h))
loop_told (inr (inr h)) go = inr (inr (inr (go h)))

-- one of two more causes
pub second_more : {K A B : Type 0} → K ⊎ B → K ⊎ A ⊎ B
second_more (inl k) = inl k
second_more (inr h) = inr (inr h)

-- a cause in one of the parts of a loop beside its body
pub condition_told : {K T A B C : Type 0} → K ⊎ A → K ⊎ T ⊎ A ⊎ B ⊎ C
condition_told (inl k) = inl k
condition_told (inr h) = inr (inr (inl h))

pub step_told : {K T A B C : Type 0} → K ⊎ T ⊎ B → K ⊎ T ⊎ A ⊎ B ⊎ C
step_told (inl k) = inl k
step_told (inr (inl h)) = inr (inl h)
step_told (inr (inr h)) = inr (inr (inr (inl h)))

pub notes_told : {K T A B C : Type 0} → K ⊎ C → K ⊎ T ⊎ A ⊎ B ⊎ C
notes_told (inl k) = inl k
notes_told (inr h) = inr (inr (inr (inr h)))
