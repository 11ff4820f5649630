-- A statement made of the result for its last part: what the rules give of it, and the cause of a fault in it.
use Rattle.std.proofs.Common.{◌≡◌, List, sym, ap, subst, ◌∙◌, Option, Some, None, Result, Ok, Err, inl, inr}
use Rattle.std.specs.Prelude.{◌⊎◌, IfErr, IfOk, IsOkAnd}
use Rattle.c0_source.specs.declared.fault.Fault.{Fault}
use Rattle.c0_source.specs.declared.fault.FaultKind.TheVariants.{OutOfMemory}
use Rattle.c0_typed.specs.Trees as t
use Rattle.c0_typed.specs.Views.{stmt_of}
use Rattle.c0_typed.specs.declared.tree.Statement.{Statement}
use Rattle.c0_types_bodies.specs.Bodies.{Gives, scope_of}
use Rattle.c0_types_bodies.specs.declared.scope.Scope.{Scope}
use Rattle.c0_rules.specs.Statements.{Checked}
use Rattle.c0_rules.specs.Types.{Name}

-- the statement made has its last part in it
abbrev pub Holds : (List Name → t.Stmt → t.Stmt) → Result Statement Fault → Result Statement Fault → Type 0
Holds put last made = IfOk made (λ r. IsOkAnd last (λ b. (texts : List Name) → stmt_of texts r ≡ put texts (stmt_of texts b)))

-- where there is none, it is for want of memory, or for the fault of the last part
abbrev pub Tells : Result Statement Fault → Result Statement Fault → Type 0
Tells last made = IfErr made (λ f. (f.kind ≡ OutOfMemory) ⊎ (last ≡ Err f))

pub made_gives : (put : List Name → t.Stmt → t.Stmt) (texts : List Name) (inner behind : Scope) (last made : Result Statement Fault) (o p : Option Checked) → Holds put last made → Tells last made → Gives texts inner last o
    → ((b : t.Stmt) → o ≡ Some (record { statement = b; scope = scope_of inner }) → p ≡ Some (record { statement = put texts b; scope = scope_of behind }))
    → ((K : Type 0) → K ⊎ (o ≡ None) → K ⊎ (p ≡ None)) → Gives texts behind made p
made_gives put texts inner behind (Ok b) (Ok r) o p holds tells given gives none = gives (stmt_of texts b) given ∙ ap (λ z. Some (record { statement = z; scope = scope_of behind })) (sym (holds texts))
made_gives put texts inner behind (Err g) (Ok r) o p holds tells given gives none = absurd holds
made_gives put texts inner behind last (Err f) o p holds (inl k) given gives none = inl k
made_gives put texts inner behind last (Err f) o p holds (inr e) given gives none = none (f.kind ≡ OutOfMemory) (subst (λ r. Gives texts inner r o) e given)

pub made_told : {P Q : Fault → Type 0} (last made : Result Statement Fault) → Tells last made → IfErr last (λ f. (f.kind ≡ OutOfMemory) ⊎ P f)
    → ((f : Fault) → (f.kind ≡ OutOfMemory) ⊎ P f → (f.kind ≡ OutOfMemory) ⊎ Q f) → IfErr made (λ f. (f.kind ≡ OutOfMemory) ⊎ Q f)
made_told last (Ok r) tells given so = tt
made_told last (Err f) (inl k) given so = inl k
made_told {P = P} last (Err f) (inr e) given so = so f (subst (λ r. IfErr r (λ g. (g.kind ≡ OutOfMemory) ⊎ P g)) e given)
