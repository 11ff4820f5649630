-- Causes of faults, among others.
use Rattle.std.proofs.Common.{◌≡◌, Option, None, inl, inr, Result, Ok, Err}
use Rattle.std.specs.Prelude.{◌⊎◌, IfErr}
use Rattle.c0_source.specs.declared.fault.Fault.{Fault}
use Rattle.c0_source.specs.declared.fault.FaultKind.TheVariants as k
use Rattle.c0_rules.specs.Answers.{Answers}

-- want of memory, or a cause
abbrev pub OrMemory : (Fault → Type 0) → Fault → Type 0
OrMemory X f = (f.kind ≡ k.OutOfMemory) ⊎ X f

pub causes : {T : Type 0} (r : Result T Fault) (X Y : Fault → Type 0) → ((f : Fault) → X f → Y f) → IfErr r (OrMemory X) → IfErr r (OrMemory Y)
causes (Ok z) X Y go h = tt
causes (Err f) X Y go (inl h) = inl h
causes (Err f) X Y go (inr h) = inr (go f h)

-- the same, where the rules give nothing
pub none_causes : {T A : Type 0} (view : T → A) (r : Result T Fault) (o : Option A) (X Y : Fault → Type 0) → ((f : Fault) → o ≡ None → X f → Y f) → Answers view r o → IfErr r (OrMemory X) → IfErr r (OrMemory Y)
none_causes view (Ok z) o X Y go a h = tt
none_causes view (Err f) o X Y go a (inl h) = inl h
none_causes view (Err f) o X Y go (inl a) (inr h) = inl a
none_causes view (Err f) o X Y go (inr a) (inr h) = inr (go f a h)

-- one of more causes
pub among : {A B C : Type 0} → A ⊎ B → A ⊎ B ⊎ C
among (inl a) = inl a
among (inr b) = inr (inl b)

pub beyond : {A B C : Type 0} → A ⊎ C → A ⊎ B ⊎ C
beyond (inl a) = inl a
beyond (inr c) = inr (inr c)

-- three causes, of more
pub first_three : {A B C D : Type 0} → A ⊎ B ⊎ C → A ⊎ B ⊎ C ⊎ D
first_three (inl a) = inl a
first_three (inr (inl b)) = inr (inl b)
first_three (inr (inr c)) = inr (inr (inl c))
