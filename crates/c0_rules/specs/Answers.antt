-- What code answers, beside what the rules give.
use Rattle.std.specs.Prelude.{◌≡◌, ◌⊎◌, Option, Some, None, Result, Ok, Err}
use Rattle.c0_source.specs.declared.fault.Fault.{Fault}
use Rattle.c0_source.specs.declared.fault.FaultKind.TheVariants as k

-- Ok exactly where the rules give something, want of memory aside
abbrev pub Answers : {T A : Type 0} → (T → A) → Result T Fault → Option A → Type 0
Answers view (Ok x) o = o ≡ Some (view x)
Answers view (Err f) o = (f.kind ≡ k.OutOfMemory) ⊎ (o ≡ None)
