-- The numbers that instructions name.
use Rattle.std.proofs.Common.{ℕ, suc, ◌+◌, Bool, true, false, List, [], ◌∷◌, ◌++◌, length}
use Rattle.c0_typed.specs.Trees.{Program, Ty, IntTy, BoolTy, TextTy, StructTy, PointerTy, ArrayTy}
use Rattle.c0_typed.specs.Typing.{AllBool, Fits, FitsFunction, Has, HasAll, Holds, local_types, output_types, unary_type}
use Rattle.c0_typed.specs.Views.{block_of, block_row, exp_of, exps_of, function_of, output_of, place_of, program_of, row_of, stmt_of, texts_of, type_of, unary_of}
use Rattle.c0_typed.specs.declared.tree.Constant.{Constant as ConstantValue}
use Rattle.c0_typed.specs.declared.tree.Constant.TheVariants as c
use Rattle.c0_typed.specs.declared.tree.Output.{Output}
use Rattle.c0_typed.specs.declared.tree.Output.TheVariants as o
use Rattle.c0_typed.specs.declared.tree.Expression.{Expression, Row_of-Expression, end_of-Expression, more_of-Expression, At', Constant, Null, Local, Unary', Binary', Compare', And', Or', Choose', Call', Print', Load', Alloc, AllocArray', Length'}
use Rattle.c0_typed.specs.declared.tree.Place.{Place, Deref', Index', Field'}
use Rattle.c0_typed.specs.declared.tree.Statement.{Statement, Row_of-Statement, end_of-Statement, more_of-Statement, Block', Set, Update, Store, StoreUpdate, Do, If', Loop', Return, ReturnValue, Break, Continue, Assert, Error, Check}
use Rattle.c0_typed.specs.declared.tree.Function.{Function}
use Rattle.c0_typed.specs.declared.tree.Typed.{Typed}
use Rattle.code_form.specs.declared.form.Kind.{Kind}
use Rattle.middle_form.specs.Form.{Code}
use Rattle.middle_form.specs.Form as f
use Rattle.lower_expressions.specs.Expressions as parts
use Rattle.lower.specs.Exits.{WaysOut, deeper, has_continue, inside, whole}
use Rattle.lower.specs.Lowered as l
use Rattle.lower.specs.Lowered.{lowered}
use Rattle.lower_expressions.specs.Expressions.{checked, moved, print_code, sequence, value_at}
use Rattle.c0_well_formed.specs.Laws.{NamesNumber}
use Rattle.c0_well_formed.proofs.CellKinds.{Each, each_append}

-- ---- structured code

-- each simple instruction of the code names such numbers
abbrev pub CodeNames : Code → Type 0
CodeNames f.Nothing = Unit {0}
CodeNames (f.Do x) = NamesNumber x
CodeNames (f.Load to r off disp) = Unit {0}
CodeNames (f.Store r off disp from) = Unit {0}
CodeNames (f.Call to i args) = Unit {0}
CodeNames (f.Fail a) = Unit {0}
CodeNames (f.Then a b) = CodeNames a × CodeNames b
CodeNames (f.Choose r a b) = CodeNames a × CodeNames b
CodeNames (f.Loop test r body) = CodeNames test × CodeNames body
CodeNames (f.Block a) = CodeNames a
CodeNames (f.Exit i) = Unit {0}

pub in_sequence : (cs : List Code) → Each CodeNames cs → CodeNames (sequence cs)
in_sequence [] h = tt
in_sequence (x ∷ rest) h = (h.0, in_sequence rest h.1)

-- ---- expressions and statements

constant_names : (texts : List (List ℕ)) (p : Program) (types : List Ty) (x : ConstantValue) (ty : Ty) (d : ℕ) → Has p types (exp_of texts (Constant x)) ty → NamesNumber (parts.constant_code texts x d)
constant_names texts p types (c.Number z) ty d h = h.1
constant_names texts p types (c.Truth b) ty d h = tt
constant_names texts p types (c.Letter x) ty d h = h.1
constant_names texts p types (c.Text i) ty d h = tt

print_names : (out : Output) (regs : List ℕ) → NamesNumber (print_code out regs)
print_names o.Print [] = tt
print_names o.Print (a ∷ rest) = tt
print_names o.Println [] = tt
print_names o.Println (a ∷ rest) = tt
print_names o.Printint [] = tt
print_names o.Printint (a ∷ rest) = tt
print_names o.Printbool [] = tt
print_names o.Printbool (a ∷ rest) = tt
print_names o.Printchar [] = tt
print_names o.Printchar (a ∷ rest) = tt
print_names o.Flush regs = tt

module _ (typed : Typed) (singles : List Kind) (checks : Bool) (types : List Ty) (locals : ℕ) where
  abbrev p : Program
  p = program_of typed

  abbrev texts : List (List ℕ)
  texts = texts_of typed

  abbrev kinds : Expression → List Kind
  kinds a = parts.exp_kinds p.structs singles (texts_of typed) typed.functions.items typed.main a

  abbrev code : Expression → ℕ → List Code
  code a d = parts.exp_code p.structs singles (texts_of typed) typed.functions.items typed.main locals a d

  abbrev code_row : {i : _} → Row_of-Expression i → ℕ → List Code
  code_row es d = parts.row_code p.structs singles (texts_of typed) typed.functions.items typed.main locals es d

  abbrev code_place : Place → ℕ → List Code
  code_place q d = parts.place_code p.structs singles (texts_of typed) typed.functions.items typed.main locals q d

  moved_names : (a : Expression) (d r : ℕ) → Each CodeNames (code a d) → CodeNames (sequence (moved locals a (code a d) d r))
  moved_names a d r h = in_sequence (moved locals a (code a d) d r) (each_append CodeNames (code a d) _ h (tt, tt))

  mutual
    exp_names : (a : Expression) (ty : Ty) (d : ℕ) → Has p types (exp_of texts a) ty → Each CodeNames (code a d)
    exp_names (At' here q e) ty d h = exp_names e ty d h
    exp_names (Constant x) ty d h = (constant_names texts p types x ty d h, tt)
    exp_names (Null w) ty d h = (tt, tt)
    exp_names (Local x) ty d h = tt
    exp_names (Unary' i w a) ty d h = each_append CodeNames (code a (suc d)) _ (exp_names a (unary_type (unary_of i)) (suc d) h.1) (tt, tt)
    exp_names (Binary' i w a s b) ty d h =
        each_append CodeNames (code a (suc d)) _ (exp_names a IntTy (suc d) h.1) (each_append CodeNames (code b (suc d + length (kinds a))) _ (exp_names b IntTy (suc d + length (kinds a)) h.2) (tt, tt))
    exp_names (Compare' w i v a s b) ty d h =
        each_append CodeNames (code a (suc d)) _ (exp_names a (type_of w) (suc d) h.2) (each_append CodeNames (code b (suc d + length (kinds a))) _ (exp_names b (type_of w) (suc d + length (kinds a)) h.3) (tt, tt))
    exp_names (And' w a s b) ty d h =
        each_append CodeNames (code a (suc d)) _ (exp_names a BoolTy (suc d) h.1)
        (tt, ((moved_names b (suc d + length (kinds a)) d (exp_names b BoolTy (suc d + length (kinds a)) h.2), tt), tt))
    exp_names (Or' w a s b) ty d h =
        each_append CodeNames (code a (suc d)) _ (exp_names a BoolTy (suc d) h.1)
        (tt, ((tt, moved_names b (suc d + length (kinds a)) d (exp_names b BoolTy (suc d + length (kinds a)) h.2)), tt))
    exp_names (Choose' w v a q b s e) ty d h =
        each_append CodeNames (code a (suc d)) _ (exp_names a BoolTy (suc d) h.1) (
          (
            moved_names b (suc d + length (kinds a)) d (exp_names b (type_of w) (suc d + length (kinds a)) h.2),
            moved_names e (suc d + length (kinds a) + length (kinds b)) d (exp_names e (type_of w) (suc d + length (kinds a) + length (kinds b)) h.3),
          ),
          tt,
        )
    exp_names (Call' i shape es) ty d h = each_append CodeNames (code_row es (suc d)) _ (row_names es h.0.parameters (suc d) h.3) (tt, tt)
    exp_names (Print' out shape es) ty d h = each_append CodeNames (code_row es (suc d)) _ (row_names es (output_types (output_of out)) (suc d) h.1) (print_names out _, tt)
    exp_names (Load' w v q) ty d h = each_append CodeNames (code_place q (suc d)) _ (place_names q (type_of w) (suc d) h.2) (tt, tt)
    exp_names (Alloc w) ty d h = (tt, tt)
    exp_names (AllocArray' w v a) ty d h = each_append CodeNames (code a (suc d)) _ (exp_names a IntTy (suc d) h.2) (tt, tt)
    exp_names (Length' w v a) ty d h = each_append CodeNames (code a (suc d)) _ (exp_names a (ArrayTy (type_of w)) (suc d) h.1) (tt, tt)

    row_names : {i : _} (es : Row_of-Expression i) (ts : List Ty) (d : ℕ) → HasAll p types (row_of texts es) ts → Each CodeNames (code_row es d)
    row_names end_of-Expression ts d h = tt
    row_names (more_of-Expression a rest) [] d h = absurd h
    row_names (more_of-Expression a rest) (ty ∷ ts) d h = each_append CodeNames (code a d) _ (exp_names a ty d h.0) (row_names rest ts (d + length (kinds a)) h.1)

    place_names : (q : Place) (ty : Ty) (d : ℕ) → Holds p types (place_of texts q) ty → Each CodeNames (code_place q d)
    place_names (Deref' w v a) ty d h = each_append CodeNames (code a d) _ (exp_names a (PointerTy (type_of w)) d h.1) (tt, tt)
    place_names (Index' w v a s i) ty d h =
        each_append CodeNames (code a (suc d)) _ (exp_names a (ArrayTy (type_of w)) (suc d) h.1) (each_append CodeNames (code i (suc d + length (kinds a))) _ (exp_names i IntTy (suc d + length (kinds a)) h.2) (tt, tt))
    place_names (Field' j v q i) ty d h = place_names q (StructTy j) d h.0

  abbrev kinds_place : Place → List Kind
  kinds_place q = parts.place_kinds p.structs singles (texts_of typed) typed.functions.items typed.main q

  abbrev kinds_all : List Expression → List Kind
  kinds_all es = parts.conditions_kinds p.structs singles (texts_of typed) typed.functions.items typed.main es

  abbrev code_all : List Expression → ℕ → List Code
  code_all es d = parts.conditions_code p.structs singles (texts_of typed) typed.functions.items typed.main locals es d

  abbrev kinds_stmt : Statement → List Kind
  kinds_stmt a = l.stmt_kinds p.structs singles (texts_of typed) typed.functions.items typed.main checks a

  abbrev code_stmt : Statement → ℕ → WaysOut → List Code
  code_stmt a d out = l.stmt_code p.structs singles (texts_of typed) typed.functions.items typed.main locals checks a d out

  abbrev code_block : {m : _} → Row_of-Statement m → ℕ → WaysOut → List Code
  code_block all d out = l.block_code p.structs singles (texts_of typed) typed.functions.items typed.main locals checks all d out

  abbrev code_body : List Statement → ℕ → List Code
  code_body all d = l.body_code p.structs singles (texts_of typed) typed.functions.items typed.main locals checks all d

  conditions_names : (es : List Expression) (d : ℕ) → AllBool p types (exps_of texts es) → Each CodeNames (code_all es d)
  conditions_names [] d h = tt
  conditions_names (a ∷ rest) d h = each_append CodeNames (code a d) _ (exp_names a BoolTy d h.0) (tt, conditions_names rest (d + length (kinds a)) h.1)

  checked_names : (es : List Expression) (d : ℕ) → AllBool p types (exps_of texts es) → Each CodeNames (code_all (checked checks es) d)
  checked_names es d h = by checks
    where
      by : (b : Bool) → Each CodeNames (code_all (checked b es) d)
      by true = conditions_names es d h
      by false = tt

  turn_names : (b : Bool) (cs : List Code) → Each CodeNames cs → Each CodeNames (l.turn_code b cs)
  turn_names true cs h = (in_sequence cs h, tt)
  turn_names false cs h = h

  mutual
    stmt_names : (a : Statement) (d : ℕ) (out : WaysOut) → Fits p types (stmt_of texts a) → Each CodeNames (code_stmt a d out)
    stmt_names (Block' shape all) d out h = block_names all d out h
    stmt_names (Set x a) d out h = each_append CodeNames (code a d) _ (exp_names a h.0 d h.2) (tt, tt)
    stmt_names (Update x i a) d out h = each_append CodeNames (code a d) _ (exp_names a IntTy d h.1) (tt, tt)
    stmt_names (Store q a) d out h =
        each_append CodeNames (code_place q d) _ (place_names q h.0 d h.2) (each_append CodeNames (code a (d + length (kinds_place q))) _ (exp_names a h.0 (d + length (kinds_place q)) h.3) (tt, tt))
    stmt_names (StoreUpdate q i a) d out h =
        each_append CodeNames (code_place q (suc d)) _ (place_names q IntTy (suc d) h.0)
        (tt, each_append CodeNames (code a (suc d + length (kinds_place q))) _ (exp_names a IntTy (suc d + length (kinds_place q)) h.1) (tt, (tt, tt)))
    stmt_names (Do a) d out h = exp_names a h.0 d h.1
    stmt_names (If' a w b q s) d out h =
        each_append CodeNames (code a d) _ (exp_names a BoolTy d h.0) (
          (
            in_sequence (code_stmt b (d + length (kinds a)) out) (stmt_names b (d + length (kinds a)) out h.1),
            in_sequence (code_stmt s (d + length (kinds a) + length (kinds_stmt b)) out) (stmt_names s (d + length (kinds a) + length (kinds_stmt b)) out h.2),
          ),
          tt,
        )
    stmt_names (Loop' invariants a w body q step) d out h =
        let before = kinds_all (checked checks invariants.items) in (
          (
            in_sequence (code_all (checked checks invariants.items) d ++ code a (d + length before))
                (each_append CodeNames (code_all (checked checks invariants.items) d) (code a (d + length before)) (checked_names invariants.items d h.0) (exp_names a BoolTy (d + length before) h.1)),
            in_sequence (l.turn_code (has_continue body) (code_stmt body (d + length before + length (kinds a)) (inside (has_continue body) out)) ++ code_stmt step (d + length before + length (kinds a) + length (kinds_stmt body)) (deeper out))
                (each_append CodeNames (l.turn_code (has_continue body) (code_stmt body (d + length before + length (kinds a)) (inside (has_continue body) out))) (code_stmt step (d + length before + length (kinds a) + length (kinds_stmt body)) (deeper out))
                (turn_names (has_continue body) (code_stmt body (d + length before + length (kinds a)) (inside (has_continue body) out)) (stmt_names body (d + length before + length (kinds a)) (inside (has_continue body) out) h.2))
                (stmt_names step (d + length before + length (kinds a) + length (kinds_stmt body)) (deeper out) h.3)),
          ),
          tt,
        )
    stmt_names Return d out h = (tt, tt)
    stmt_names Break d out h = (tt, tt)
    stmt_names Continue d out h = (tt, tt)
    stmt_names (ReturnValue a) d out h = each_append CodeNames (code a d) _ (exp_names a h.0 d h.2) (tt, (tt, tt))
    stmt_names (Assert a) d out h = each_append CodeNames (code a d) _ (exp_names a BoolTy d h) (tt, tt)
    stmt_names (Error a) d out h = each_append CodeNames (code a d) _ (exp_names a TextTy d h) (tt, tt)
    stmt_names (Check es) d out h = checked_names es.items d h

    block_names : {m : _} (all : Row_of-Statement m) (d : ℕ) (out : WaysOut) → Fits p types (block_row texts all) → Each CodeNames (code_block all d out)
    block_names end_of-Statement d out h = tt
    block_names (more_of-Statement a rest) d out h = each_append CodeNames (code_stmt a d out) _ (stmt_names a d out h.0) (block_names rest (d + length (kinds_stmt a)) out h.1)

  body_names : (all : List Statement) (d : ℕ) → Fits p types (block_of texts all) → Each CodeNames (code_body all d)
  body_names [] d h = tt
  body_names (a ∷ rest) d h = each_append CodeNames (code_stmt a d whole) _ (stmt_names a d whole h.0) (body_names rest (d + length (kinds_stmt a)) h.1)

-- the body of a function's code
pub function_names : (typed : Typed) (singles : List Kind) (checks : Bool) (h : Function) → FitsFunction (program_of typed) (function_of (texts_of typed) h)
    → CodeNames (l.function_code (program_of typed).structs singles (texts_of typed) typed.functions.items typed.main checks h).body
function_names typed singles checks h fits =
    let types = local_types (function_of (texts_of typed) h) in
    let locals = length h.parameters.items + length h.locals.items in
    let inside = l.behind_entry (program_of typed).structs singles (texts_of typed) typed.functions.items typed.main checks h in
    in_sequence _
    (each_append CodeNames (parts.conditions_code (program_of typed).structs singles (texts_of typed) typed.functions.items typed.main locals (checked checks h.preconditions.items) (suc locals)) _
    (checked_names typed singles checks types locals h.preconditions.items (suc locals) fits.3)
    (in_sequence _ (body_names typed singles checks types locals h.body.items inside fits.5), checked_names typed singles checks types locals h.postconditions.items _ fits.4))
