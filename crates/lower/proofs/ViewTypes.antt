-- The types that a program's tree of the definitions tells of: those of each tree that is read as it.
use Rattle.std.proofs.Common.{◌≡◌, ℕ, List, [], ◌∷◌, ◌++◌, length, map, refl, sym, ap, ap₂, ◌∙◌}
use Rattle.std.proofs.lemmas.List.{length-map}
use Rattle.c0_typed.specs.Trees as t
use Rattle.c0_typed.specs.Views.{block_of, block_row, exp_of, exps_of, function_of, place_of, program_of, row_of, stmt_of, struct_of, texts_of, type_of}
use Rattle.c0_typed.specs.declared.tree.Expression.{Expression, Row_of-Expression, end_of-Expression, more_of-Expression, At', Constant, Null, Local, Unary', Binary', Compare', And', Or', Choose', Call', Print', Load', Alloc, AllocArray', Length'}
use Rattle.c0_typed.specs.declared.tree.Place.{Place, Deref', Index', Field'}
use Rattle.c0_typed.specs.declared.tree.Statement.{Statement, Row_of-Statement, end_of-Statement, more_of-Statement, Block', Set, Update, Store, StoreUpdate, Do, If', Loop', Return, ReturnValue, Break, Continue, Assert, Error, Check}
use Rattle.c0_typed.specs.declared.tree.Function.{Function}
use Rattle.c0_typed.specs.declared.tree.Typed.{Typed}
use Rattle.code_form.specs.declared.form.Kind.{Kind}
use Rattle.lower_tables.specs.Gathered as g

abbrev mutual
  -- those of an expression
  pub types_in : t.Exp → List t.Ty
  types_in (t.Constant v) = []
  types_in (t.Null ty) = []
  types_in (t.Local x) = []
  types_in (t.Unary p a) = types_in a
  types_in (t.Binary p a b) = types_in a ++ types_in b
  types_in (t.Compare ty p a b) = types_in a ++ types_in b
  types_in (t.And a b) = types_in a ++ types_in b
  types_in (t.Or a b) = types_in a ++ types_in b
  types_in (t.Choose ty c a b) = types_in c ++ (types_in a ++ types_in b)
  types_in (t.Call f es) = types_in_all es
  types_in (t.Out p es) = types_in_all es
  types_in (t.Load ty q) = types_at q
  types_in (t.Alloc ty) = ty ∷ []
  types_in (t.AllocArray ty a) = ty ∷ types_in a
  types_in (t.Length ty a) = types_in a

  -- of expressions in order
  pub types_in_all : t.Exps → List t.Ty
  types_in_all t.NoExp = []
  types_in_all (t.More a rest) = types_in a ++ types_in_all rest

  -- of a place
  pub types_at : t.Place → List t.Ty
  types_at (t.Deref ty a) = ty ∷ types_in a
  types_at (t.Index ty a i) = ty ∷ (types_in a ++ types_in i)
  types_at (t.Field j q k) = types_at q

-- of a statement
abbrev pub types_of : t.Stmt → List t.Ty
types_of t.Skip = []
types_of (t.Seq a b) = types_of a ++ types_of b
types_of (t.Set x a) = types_in a
types_of (t.Update x p a) = types_in a
types_of (t.Store q a) = types_at q ++ types_in a
types_of (t.StoreUpdate q p a) = types_at q ++ types_in a
types_of (t.Do a) = types_in a
types_of (t.If c a b) = types_in c ++ (types_of a ++ types_of b)
types_of (t.Loop invariants c body step) = types_in_all invariants ++ (types_in c ++ (types_of body ++ types_of step))
types_of t.Return = []
types_of t.Break = []
types_of t.Continue = []
types_of (t.ReturnValue a) = types_in a
types_of (t.Assert a) = types_in a
types_of (t.Error a) = types_in a
types_of (t.Check es) = types_in_all es

-- of functions in order
abbrev pub types_of_functions : List t.Function → List t.Ty
types_of_functions [] = []
types_of_functions (f ∷ rest) = (types_in_all f.requires ++ (types_of f.body ++ types_in_all f.ensures)) ++ types_of_functions rest

-- the kinds of single cells that a program tells of
abbrev pub singles_in : t.Program → List Kind
singles_in p = g.all_learned (length p.structs) [] (types_of_functions p.functions)

module _ (texts : List (List ℕ)) where
  mutual
    exp_types : (e : Expression) → types_in (exp_of texts e) ≡ g.types_in e
    exp_types (At' here q e) = exp_types e
    exp_types (Constant x) = refl
    exp_types (Null ty) = refl
    exp_types (Local x) = refl
    exp_types (Unary' p q a) = exp_types a
    exp_types (Binary' p q a s b) = ap₂ ◌++◌ (exp_types a) (exp_types b)
    exp_types (Compare' ty p q a s b) = ap₂ ◌++◌ (exp_types a) (exp_types b)
    exp_types (And' p a q b) = ap₂ ◌++◌ (exp_types a) (exp_types b)
    exp_types (Or' p a q b) = ap₂ ◌++◌ (exp_types a) (exp_types b)
    exp_types (Choose' ty p a q b s e) = ap₂ ◌++◌ (exp_types a) (ap₂ ◌++◌ (exp_types b) (exp_types e))
    exp_types (Call' f shape es) = row_types es
    exp_types (Print' out shape es) = row_types es
    exp_types (Load' ty p q) = place_types q
    exp_types (Alloc ty) = refl
    exp_types (AllocArray' ty p a) = ap (λ l. type_of ty ∷ l) (exp_types a)
    exp_types (Length' ty p a) = exp_types a

    row_types : {k : _} (es : Row_of-Expression k) → types_in_all (row_of texts es) ≡ g.types_in_row es
    row_types end_of-Expression = refl
    row_types (more_of-Expression a rest) = ap₂ ◌++◌ (exp_types a) (row_types rest)

    place_types : (q : Place) → types_at (place_of texts q) ≡ g.types_at q
    place_types (Deref' ty p a) = ap (λ l. type_of ty ∷ l) (exp_types a)
    place_types (Index' ty p a q i) = ap (λ l. type_of ty ∷ l) (ap₂ ◌++◌ (exp_types a) (exp_types i))
    place_types (Field' j p q k) = place_types q

  all_types : (es : List Expression) → types_in_all (exps_of texts es) ≡ g.types_in_all es
  all_types [] = refl
  all_types (a ∷ rest) = ap₂ ◌++◌ (exp_types a) (all_types rest)

  mutual
    stmt_types : (a : Statement) → types_of (stmt_of texts a) ≡ g.types_of a
    stmt_types (Block' shape all) = block_types all
    stmt_types (Set x a) = exp_types a
    stmt_types (Update x p a) = exp_types a
    stmt_types (Store q a) = ap₂ ◌++◌ (place_types q) (exp_types a)
    stmt_types (StoreUpdate q p a) = ap₂ ◌++◌ (place_types q) (exp_types a)
    stmt_types (Do a) = exp_types a
    stmt_types (If' a p b q s) = ap₂ ◌++◌ (exp_types a) (ap₂ ◌++◌ (stmt_types b) (stmt_types s))
    stmt_types (Loop' invariants a p body q step) = ap₂ ◌++◌ (all_types invariants.items) (ap₂ ◌++◌ (exp_types a) (ap₂ ◌++◌ (stmt_types body) (stmt_types step)))
    stmt_types Return = refl
    stmt_types Break = refl
    stmt_types Continue = refl
    stmt_types (ReturnValue a) = exp_types a
    stmt_types (Assert a) = exp_types a
    stmt_types (Error a) = exp_types a
    stmt_types (Check es) = all_types es.items

    block_types : {k : _} (all : Row_of-Statement k) → types_of (block_row texts all) ≡ g.types_of_block all
    block_types end_of-Statement = refl
    block_types (more_of-Statement a rest) = ap₂ ◌++◌ (stmt_types a) (block_types rest)

  body_types : (all : List Statement) → types_of (block_of texts all) ≡ g.types_of_all all
  body_types [] = refl
  body_types (a ∷ rest) = ap₂ ◌++◌ (stmt_types a) (body_types rest)

  functions_types : (fs : List Function) → types_of_functions (map (function_of texts) fs) ≡ g.types_of_functions fs
  functions_types [] = refl
  functions_types (f ∷ rest) =
      ap₂ ◌++◌ (ap₂ ◌++◌ (all_types f.preconditions.items) (ap₂ ◌++◌ (body_types f.body.items) (all_types f.postconditions.items))) (functions_types rest)

-- a tree tells of the kinds that its program tells of
pub singles_are : (p : Typed) → singles_in (program_of p) ≡ g.singles_of p
singles_are p = ap₂ (λ n ts. g.all_learned n [] ts) (length-map p.structs.items struct_of) (functions_types (texts_of p) p.functions.items)
