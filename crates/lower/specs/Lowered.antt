-- The structured code of typed programs: of statements, functions and whole programs, over that of expressions.
use Rattle.std.specs.Prelude.{ℕ, zero, suc, ◌+◌, Bool, true, false, List, [], ◌∷◌, ◌++◌, length, map, set, slice_get, Option, Some, None}
use Rattle.c0_typed.specs.Trees as t
use Rattle.c0_typed.specs.Views.{struct_of, texts_of, type_of}
use Rattle.c0_typed.specs.declared.tree.ValueType.{ValueType}
use Rattle.c0_typed.specs.declared.tree.Expression.{Expression}
use Rattle.c0_typed.specs.declared.tree.Place.{Place}
use Rattle.c0_typed.specs.declared.tree.Statement.{Statement, Row_of-Statement, end_of-Statement, more_of-Statement, Block', Set, Update, Store, StoreUpdate, Do, If', Loop', Return, ReturnValue, Break, Continue, Assert, Error, Check}
use Rattle.c0_typed.specs.declared.tree.Function.{Function}
use Rattle.c0_typed.specs.declared.tree.Typed.{Typed}
use Rattle.code_form.specs.declared.form.Kind.{Kind}
use Rattle.code_form.specs.declared.form.Kind.TheVariants as kind
use Rattle.code_form.specs.Form.{Head}
use Rattle.code_form.specs.declared.form.Operation.TheVariants as op
use Rattle.middle_form.specs.Form.{Code}
use Rattle.middle_form.specs.Form as m
use Rattle.lower_tables.specs.Kinds.{kind_of, layouts_of}
use Rattle.lower_expressions.specs.Expressions.{checked, local_register, sequence, value_at}
use Rattle.lower_expressions.specs.Expressions as parts
use Rattle.lower.specs.Exits.{deeper, has_continue, inside, whole}
use Rattle.lower.specs.declared.exits.Exits.{Exits}

-- the code of the body of a loop: in a block where it has a `continue`
abbrev pub turn_code : Bool → List Code → List Code
turn_code true cs = m.Block (sequence cs) ∷ []
turn_code false cs = cs

-- the kind of the result of a function of this type
abbrev pub result_kind : ℕ → List Kind → t.Ty → Option Kind
result_kind n singles t.VoidTy = None
result_kind n singles ty = Some (kind_of n singles ty)

-- Over a program: its structs, its texts, its functions and the number of `main`, and the kinds of single cells that have a layout
module _ (structs : List (List t.Ty)) (singles : List Kind) (texts : List (List ℕ)) (functions : List Function) (main : ℕ) where
  -- ---- kinds and code of expressions over it

  abbrev kind_at : ValueType → Kind
  kind_at ty = parts.kind_at structs singles texts functions main ty

  abbrev exp_kinds : Expression → List Kind
  exp_kinds e = parts.exp_kinds structs singles texts functions main e

  abbrev place_kinds : Place → List Kind
  place_kinds q = parts.place_kinds structs singles texts functions main q

  abbrev conditions_kinds : List Expression → List Kind
  conditions_kinds es = parts.conditions_kinds structs singles texts functions main es

  abbrev exp_code : ℕ → Expression → ℕ → List Code
  exp_code locals e d = parts.exp_code structs singles texts functions main locals e d

  abbrev place_code : ℕ → Place → ℕ → List Code
  place_code locals q d = parts.place_code structs singles texts functions main locals q d

  abbrev base_at : ℕ → Place → ℕ → ℕ
  base_at locals q d = parts.base_at structs singles texts functions main locals q d

  abbrev offset_at : ℕ → Place → ℕ → Option ℕ
  offset_at locals q d = parts.offset_at structs singles texts functions main locals q d

  abbrev displacement : ℕ → Place → ℕ
  displacement locals q = parts.displacement structs singles texts functions main locals q

  abbrev conditions_code : ℕ → List Expression → ℕ → List Code
  conditions_code locals es d = parts.conditions_code structs singles texts functions main locals es d

  -- ---- registers beside the locals, by their kinds, in their order

  -- Where contracts are checked or not
  module _ (checks : Bool) where
    abbrev mutual
      -- of a statement
      pub stmt_kinds : Statement → List Kind
      stmt_kinds (Block' shape all) = block_kinds all
      stmt_kinds (Set x a) = exp_kinds a
      stmt_kinds (Update x p a) = exp_kinds a
      stmt_kinds (Store q a) = place_kinds q ++ exp_kinds a
      stmt_kinds (StoreUpdate q p a) = kind.Int ∷ (place_kinds q ++ exp_kinds a)
      stmt_kinds (Do a) = exp_kinds a
      stmt_kinds (If' a p b q s) = exp_kinds a ++ (stmt_kinds b ++ stmt_kinds s)
      stmt_kinds (Loop' invariants a p body q step) = conditions_kinds (checked checks invariants.items) ++ (exp_kinds a ++ (stmt_kinds body ++ stmt_kinds step))
      stmt_kinds Return = []
      stmt_kinds Break = []
      stmt_kinds Continue = []
      stmt_kinds (ReturnValue a) = exp_kinds a
      stmt_kinds (Assert a) = exp_kinds a
      stmt_kinds (Error a) = exp_kinds a
      stmt_kinds (Check es) = conditions_kinds (checked checks es.items)

      -- of the statements of a block
      pub block_kinds : {n : _} → Row_of-Statement n → List Kind
      block_kinds end_of-Statement = []
      block_kinds (more_of-Statement a rest) = stmt_kinds a ++ block_kinds rest

    -- of the statements of a body
    abbrev pub body_kinds : List Statement → List Kind
    body_kinds [] = []
    body_kinds (a ∷ rest) = stmt_kinds a ++ body_kinds rest

  -- ---- code, in a function with so many locals beside its result
  module _ (locals : ℕ) where
    -- where contracts are checked or not
    module _ (checks : Bool) where
      abbrev mutual
        -- the code of a statement, with its registers from d on, left by these exits
        pub stmt_code : Statement → ℕ → Exits → List Code
        stmt_code (Block' shape all) d out = block_code all d out
        stmt_code (Set x a) d out = exp_code locals a d ++ (m.Do (op.Move (local_register locals x) (value_at locals a d)) ∷ [])
        stmt_code (Update x p a) d out = exp_code locals a d ++ (m.Do (op.Binary p (local_register locals x) (local_register locals x) (value_at locals a d)) ∷ [])
        stmt_code (Store q a) d out =
            place_code locals q d ++ (exp_code locals a (d + length (place_kinds q)) ++ (m.Store (base_at locals q d) (offset_at locals q d) (displacement locals q) (value_at locals a (d + length (place_kinds q))) ∷ []))
        stmt_code (StoreUpdate q p a) d out =
            place_code locals q (suc d) ++ (m.Load d (base_at locals q (suc d)) (offset_at locals q (suc d)) (displacement locals q)
            ∷ (exp_code locals a (suc d + length (place_kinds q)) ++ (m.Do (op.Binary p d d (value_at locals a (suc d + length (place_kinds q))))
            ∷ (m.Store (base_at locals q (suc d)) (offset_at locals q (suc d)) (displacement locals q) d ∷ []))))
        stmt_code (Do a) d out = exp_code locals a d
        stmt_code (If' a p b q s) d out =
            exp_code locals a d ++ (m.Choose (value_at locals a d) (sequence (stmt_code b (d + length (exp_kinds a)) out)) (sequence (stmt_code s (d + length (exp_kinds a) + length (stmt_kinds checks b)) out)) ∷ [])
        stmt_code (Loop' invariants a p body q step) d out =
            m.Loop (sequence (conditions_code locals (checked checks invariants.items) d ++ exp_code locals a (d + length (conditions_kinds (checked checks invariants.items)))))
            (value_at locals a (d + length (conditions_kinds (checked checks invariants.items))))
            (sequence (turn_code (has_continue body) (stmt_code body (d + length (conditions_kinds (checked checks invariants.items)) + length (exp_kinds a)) (inside (has_continue body) out))
            ++ stmt_code step (d + length (conditions_kinds (checked checks invariants.items)) + length (exp_kinds a) + length (stmt_kinds checks body)) (deeper out)))
            ∷ []
        stmt_code Return d out = m.Exit out.returns ∷ []
        stmt_code Break d out = m.Exit out.breaks ∷ []
        stmt_code Continue d out = m.Exit out.continues ∷ []
        stmt_code (ReturnValue a) d out = exp_code locals a d ++ (m.Do (op.Move (local_register locals 0) (value_at locals a d)) ∷ (m.Exit out.returns ∷ []))
        stmt_code (Assert a) d out = exp_code locals a d ++ (m.Do (op.Assert (value_at locals a d)) ∷ [])
        stmt_code (Error a) d out = exp_code locals a d ++ (m.Fail (value_at locals a d) ∷ [])
        stmt_code (Check es) d out = conditions_code locals (checked checks es.items) d

        -- of the statements of a block, in order
        pub block_code : {n : _} → Row_of-Statement n → ℕ → Exits → List Code
        block_code end_of-Statement d out = []
        block_code (more_of-Statement a rest) d out = stmt_code a d out ++ block_code rest (d + length (stmt_kinds checks a)) out

      -- of the statements of a body, in order; a return leaves the block round them
      abbrev pub body_code : List Statement → ℕ → List Code
      body_code [] d = []
      body_code (a ∷ rest) d = stmt_code a d whole ++ body_code rest (d + length (stmt_kinds checks a))

  -- ---- functions

  -- the number of a function's locals beside its result
  abbrev pub locals_of : Function → ℕ
  locals_of f = length f.parameters.items + length f.locals.items

  -- the first register behind those of what must hold on entry
  abbrev pub behind_entry : Bool → Function → ℕ
  behind_entry checks f = suc (locals_of f) + length (conditions_kinds (checked checks f.preconditions.items))

  -- The code of a function: what must hold on entry, its body in a block, and what must hold at each return. Its parameters come first, then its
  -- other locals and its result.
  abbrev pub function_code : Bool → Function → m.Function
  function_code checks f = record {
    result = result_kind (length structs) singles (type_of f.result);
    parameters = length f.parameters.items;
    kinds = map kind_at f.parameters.items ++ (map kind_at f.locals.items ++ (kind_at f.result ∷ (conditions_kinds (checked checks f.preconditions.items)
        ++ (body_kinds checks f.body.items ++ conditions_kinds (checked checks f.postconditions.items)))));
    body = sequence (conditions_code (locals_of f) (checked checks f.preconditions.items) (suc (locals_of f))
        ++ (m.Block (sequence (body_code (locals_of f) checks f.body.items (behind_entry checks f)))
        ∷ conditions_code (locals_of f) (checked checks f.postconditions.items) (behind_entry checks f + length (body_kinds checks f.body.items))));
    value = locals_of f;
  }

-- the functions of a text in the order of their numbers in the code
abbrev pub with_main_first : ℕ → List Function → List Function
with_main_first zero fs = fs
with_main_first (suc k) [] = []
with_main_first (suc k) (f ∷ rest) = elim (slice_get rest k) [ None ↦ f ∷ rest | Some g ↦ g ∷ set rest k f ]

-- the code of a program
abbrev pub lowered : List Kind → Bool → Typed → m.Program
lowered singles checks p = record {
  head = record { texts = texts_of p; layouts = layouts_of (map struct_of p.structs.items) singles };
  functions = map (function_code (map struct_of p.structs.items) singles (texts_of p) p.functions.items p.main checks) (with_main_first p.main p.functions.items);
}
