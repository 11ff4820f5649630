-- The static rules of statements: what one is once its names are replaced, or none where it breaks a rule.
use Rattle.std.specs.Prelude.{ℕ, suc, pos, ◌+◌, Bool, true, false, ◌&&◌, ◌||◌, not, List, [], ◌∷◌, ◌++◌, length, Option, Some, None, is_some}
use Rattle.std.specs.List.{list_all}
use Rattle.cells.specs.declared.int32.Int32Op.{Int32Op}
use Rattle.cells.specs.declared.int32.Int32Op.TheVariants as i
use Rattle.c0_source.specs.declared.kind.Clause.{Clause}
use Rattle.c0_source.specs.declared.kind.Clause.TheVariants as c
use Rattle.c0_syntax.specs.declared.operator.Change.{Change}
use Rattle.c0_syntax.specs.declared.operator.Change.TheVariants as n
use Rattle.c0_syntax.specs.Trees.{Expression, Call, Spec, Contract, Asserts, SimpleStatement, Declare, Initialize, Assign, Update, Step, Evaluate, Statement, Simple, Block, Annotation, Return, ReturnValue, If, IfElse, While, For, Assert, Error, Break, Continue, Statements, nothing, also}
use Rattle.c0_typed.specs.Trees as t
use Rattle.c0_typed.specs.Values as v
use Rattle.c0_rules.specs.Types.{and_so, provided, Name, ResolvedType, VoidType, IntType, BoolType, StringType, same_type, small_type, is_small, Environment, output_named}
use Rattle.c0_rules.specs.Mentions.{condition_of, specs_in, as_variable}
use Rattle.c0_rules.specs.Expressions.{OperatorRule, OnNumbers, operator_rule, Typing, Has, IsNull, Place, Local, Context, local_of, retyped, wanted, typed_expression, typed_place}

-- ---- specs

-- what a spec is for: a contract's part, what holds at each turn of a loop, or what holds at a place
pub data Role : Type 0 where
  Precondition : Role
  Postcondition : Role
  Invariant : Role
  Assertion : Role

-- the role of a word of contracts
abbrev pub clause_role : Clause → Role
clause_role c.Requires = Precondition
clause_role c.Ensures = Postcondition
clause_role c.LoopInvariant = Invariant

-- the role of a spec
abbrev pub role_of : Spec → Role
role_of (Contract clause e) = clause_role clause
role_of (Asserts e) = Assertion

-- equality of roles
abbrev pub same_role : Role → Role → Bool
same_role Precondition Precondition = true
same_role Postcondition Postcondition = true
same_role Invariant Invariant = true
same_role Assertion Assertion = true
same_role _ _ = false

-- whether each spec has this role
abbrev pub all_are : Role → List Spec → Bool
all_are role specs = list_all (λ s. same_role role (role_of s)) specs

-- ---- where a statement stands

-- The locals in scope, the number of parameters, the types of all other locals of the function so far, its result's type, and whether a
-- loop of the function is round it.
pub record Scope : Type 0 where
  pub locals : List Local
  pub parameters : ℕ
  pub declared : List ResolvedType
  pub result : ResolvedType
  pub in_loop : Bool

-- what a statement is, and what is in scope behind it
pub record Checked : Type 0 where
  pub statement : t.Stmt
  pub scope : Scope

-- the end of a scope that began here
abbrev pub leave : Scope → Scope → Scope
leave outer inner = record inner { locals = outer.locals; in_loop = outer.in_loop }

-- where the body of a loop stands
abbrev pub in_body : Scope → Scope
in_body s = record s { in_loop = true }

-- where an expression of a body stands: there is no `\result`
abbrev pub within : Scope → Context
within s = record { locals = s.locals; result = None }

-- the number of the next local: 0 is the result, then come the parameters, then the others as they are declared
abbrev pub next_number : Scope → ℕ
next_number s = suc (s.parameters + length s.declared)

-- with a new local
abbrev pub with_local : Name → ResolvedType → Scope → Scope
with_local n a s = record s {
  locals = s.locals ++ record { name = n; number = next_number s; resolved = a } ∷ [];
  declared = s.declared ++ a ∷ [];
}

-- a destination: a local, or a place of the heap
pub data Destination : Type 0 where
  ToLocal : Local → Destination
  ToPlace : Place → Destination

-- the operator of `op=`, which works on numbers
abbrev pub change_of : OperatorRule → Option Int32Op
change_of (OnNumbers o) = Some o
change_of _ = None

-- `++` adds 1, `--` subtracts it
abbrev pub step_of : Change → Int32Op
step_of n.Increment = i.Add
step_of n.Decrement = i.Sub

-- whether an expression itself is a call
abbrev pub is_call : Expression → Bool
is_call (Call n arguments) = true
is_call _ = false

-- whether a part of a `for` declares a local
abbrev pub declares : Option SimpleStatement → Bool
declares (Some (Declare a n)) = true
declares (Some (Initialize a n e)) = true
declares _ = false

-- the number 1
abbrev pub one : t.Exp
one = t.Constant (v.Number (pos 1))

-- a statement that leaves the scope as it is
abbrev pub next : t.Stmt → Scope → Option Checked
next b s = Some (record { statement = b; scope = s })

module _ (env : Environment) where
  -- an expression of this type
  abbrev pub expression_as : ResolvedType → Scope → Expression → Option t.Exp
  expression_as a s e = wanted env a (typed_expression env (within s) e)

  -- the conditions of the specs of one role
  abbrev pub conditions : Role → Context → List Spec → Option t.Exps
  conditions role at [] = Some t.NoExp
  conditions role at (s ∷ specs) =
      elim (same_role role (role_of s)) [
        | true ↦ and_so (wanted env BoolType (typed_expression env at (condition_of s))) (λ x. and_so (conditions role at specs) (λ xs. Some (t.More x xs)))
        | false ↦ conditions role at specs
      ]

  -- the conditions of specs that must all be of one role
  abbrev pub conditions_of_all : Role → Context → List Spec → Option t.Exps
  conditions_of_all role at specs = provided (all_are role specs) (conditions role at specs)

  -- whether a name is that of a function in scope, or of an output call in use
  abbrev pub is_function : Name → Bool
  is_function n = is_some (env.functions n) || is_some (output_named env.conio n)

  -- whether a new local may not have this name
  abbrev pub is_taken : Scope → Name → Bool
  is_taken s n = is_some (local_of s.locals n) || is_function n

  -- a new local
  abbrev pub declared : Name → ResolvedType → Scope → Option Scope
  declared n a s = provided (not (is_taken s n)) (Some (with_local n a s))

  -- what is assigned to
  abbrev pub destination_by : Option Name → Scope → Expression → Option Destination
  destination_by (Some n) s d = and_so (local_of s.locals n) (λ l. Some (ToLocal l))
  destination_by None s d = and_so (typed_place env (within s) d) (λ q. Some (ToPlace q))

  -- ... by its expression
  abbrev pub destination : Scope → Expression → Option Destination
  destination s d = destination_by (as_variable d) s d

  -- an assignment
  abbrev pub assigned : Scope → Expression → Destination → Option Checked
  assigned s e (ToLocal l) = and_so (expression_as l.resolved s e) (λ x. next (t.Set l.number x) s)
  assigned s e (ToPlace q) = provided (is_small q.resolved) (and_so (expression_as q.resolved s e) (λ x. next (t.Store q.place x) s))

  -- an assignment by an operator, to what holds a number
  abbrev pub updated : Scope → Int32Op → t.Exp → Destination → Option Checked
  updated s o x (ToLocal l) = provided (same_type l.resolved IntType) (next (t.Update l.number o x) s)
  updated s o x (ToPlace q) = provided (same_type q.resolved IntType) (next (t.StoreUpdate q.place o x) s)

  -- an expression as a statement: one with a small value, NULL, or a call
  abbrev pub evaluated : Expression → Typing → Option t.Exp
  evaluated e (Has a x) = provided (is_small a || (is_call e && same_type a VoidType)) (Some x)
  evaluated e (IsNull x) = Some (retyped t.IntTy x)

  -- a simple statement
  abbrev pub typed_simple : SimpleStatement → Scope → Option Checked
  typed_simple (Declare a n) s = and_so (small_type env.typedefs a) (λ r. and_so (declared n r s) (next t.Skip))
  typed_simple (Initialize a n e) s =
      and_so (small_type env.typedefs a) (λ r. and_so (expression_as r s e) (λ x. and_so (declared n r s) (next (t.Set (next_number s) x))))
  typed_simple (Assign d e) s = and_so (destination s d) (assigned s e)
  typed_simple (Update d o e) s =
      and_so (destination s d) (λ q. and_so (change_of (operator_rule o)) (λ k. and_so (expression_as IntType s e) (λ x. updated s k x q)))
  typed_simple (Step d way) s = and_so (destination s d) (updated s (step_of way) one)
  typed_simple (Evaluate e) s = and_so (and_so (typed_expression env (within s) e) (evaluated e)) (λ x. next (t.Do x) s)

  -- the first or the third part of a `for`
  abbrev pub typed_part : Option SimpleStatement → Scope → Option Checked
  typed_part None s = next t.Skip s
  typed_part (Some a) s = typed_simple a s

  abbrev mutual
    -- a statement; bodies of `if` and of loops are scopes, and the first part of a `for` is in scope in all of it
    pub typed_statement : Statement → Scope → Option Checked
    typed_statement (Simple a) s = typed_simple a s
    typed_statement (Block rest) s = and_so (typed_statements rest s) (λ x. next x.statement (leave s x.scope))
    typed_statement (Annotation specs) s = and_so (conditions_of_all Assertion (within s) specs) (λ xs. next (t.Check xs) s)
    typed_statement Return s = provided (same_type s.result VoidType) (next t.Return s)
    typed_statement (ReturnValue e) s = provided (not (same_type s.result VoidType)) (and_so (expression_as s.result s e) (λ x. next (t.ReturnValue x) s))
    typed_statement (If c a) s =
        and_so (expression_as BoolType s c) (λ z. and_so (typed_statement a s) (λ x. next (t.If z x.statement t.Skip) (leave s x.scope)))
    typed_statement (IfElse c a b) s =
        and_so (expression_as BoolType s c) (λ z. and_so (typed_statement a s) (λ x. and_so (typed_statement b (leave s x.scope)) (λ y.
        next (t.If z x.statement y.statement) (leave s y.scope))))
    typed_statement (While c notes a) s =
        and_so (expression_as BoolType s c) (λ z. and_so (conditions_of_all Invariant (within s) (specs_in notes)) (λ xs.
        and_so (typed_statement a (in_body s)) (λ x. next (t.Loop xs z x.statement t.Skip) (leave s x.scope))))
    typed_statement (For first c third notes a) s =
        and_so (typed_part first s) (λ x. and_so (expression_as BoolType x.scope c) (λ z.
        and_so (conditions_of_all Invariant (within x.scope) (specs_in notes)) (λ xs. and_so (typed_statement a (in_body x.scope)) (λ y.
        provided (not (declares third)) (and_so (typed_part third (leave x.scope y.scope)) (λ w.
        next (t.Seq x.statement (t.Seq (t.Loop xs z y.statement w.statement) t.Skip)) (leave s w.scope)))))))
    typed_statement (Assert e) s = and_so (expression_as BoolType s e) (λ x. next (t.Assert x) s)
    typed_statement (Error e) s = and_so (expression_as StringType s e) (λ x. next (t.Error x) s)
    typed_statement Break s = provided s.in_loop (next t.Break s)
    typed_statement Continue s = provided s.in_loop (next t.Continue s)

    -- statements in order
    pub typed_statements : Statements → Scope → Option Checked
    typed_statements nothing s = next t.Skip s
    typed_statements (also a rest) s =
        and_so (typed_statement a s) (λ x. and_so (typed_statements rest x.scope) (λ y. next (t.Seq x.statement y.statement) y.scope))
