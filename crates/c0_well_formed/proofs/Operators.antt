-- Operators, output and calls take what their types say.
use Rattle.std.proofs.Common.{◌≡◌, ℕ, true, List, [], ◌∷◌, ◌++◌, length, Some, refl}
use Rattle.std.specs.Prelude.{slice_get, map}
use Rattle.c0_typed.specs.Trees.{Program, Ty, VoidTy, IntTy, BoolTy, CharTy, TextTy, StructTy, PointerTy, ArrayTy}
use Rattle.c0_typed.specs.Typing.{IsCompared, output_types}
use Rattle.c0_typed.specs.Views.{output_of, program_of, relation_of, texts_of, type_of}
use Rattle.c0_typed.specs.declared.tree.Output.{Output}
use Rattle.c0_typed.specs.declared.tree.Output.TheVariants as o
use Rattle.c0_typed.specs.declared.tree.Relation.{Relation}
use Rattle.c0_typed.specs.declared.tree.Relation.TheVariants as r
use Rattle.c0_typed.specs.declared.tree.UnaryOperator.{UnaryOperator}
use Rattle.c0_typed.specs.declared.tree.UnaryOperator.TheVariants as u
use Rattle.c0_typed.specs.declared.tree.ValueType.{ValueType}
use Rattle.c0_typed.specs.declared.tree.Typed.{Typed}
use Rattle.code_form.specs.declared.form.Kind.{Kind}
use Rattle.code_form.specs.declared.form.Kind.TheVariants as kind
use Rattle.code_form.specs.declared.form.Operation.TheVariants as op
use Rattle.code_form.specs.Code.{args_fit, has, is_compared, op_fits, result_fits}
use Rattle.code_form.specs.Form.{Head}
use Rattle.lower_tables.specs.Kinds.{kind_of}
use Rattle.lower.specs.Lowered.{result_kind}
use Rattle.lower_expressions.specs.Expressions.{code_relation, kind_at, print_code, result_register, unary_kind, unary_operator}
use Rattle.lower.proofs.Registers.{and_true, has_it}
use Rattle.lower.proofs.Values.{AreOf}

-- what a comparison of the source takes, that of the code does
pub compared_fits : (n : ℕ) (singles : List Kind) (rel : Relation) (ty : Ty) → IsCompared (relation_of rel) ty → is_compared (code_relation rel) (kind_of n singles ty) ≡ true
compared_fits n singles r.Equal VoidTy h = absurd h
compared_fits n singles r.Equal IntTy h = refl
compared_fits n singles r.Equal BoolTy h = refl
compared_fits n singles r.Equal CharTy h = refl
compared_fits n singles r.Equal TextTy h = absurd h
compared_fits n singles r.Equal (StructTy j) h = absurd h
compared_fits n singles r.Equal (PointerTy ty) h = refl
compared_fits n singles r.Equal (ArrayTy ty) h = refl
compared_fits n singles r.Unequal VoidTy h = absurd h
compared_fits n singles r.Unequal IntTy h = refl
compared_fits n singles r.Unequal BoolTy h = refl
compared_fits n singles r.Unequal CharTy h = refl
compared_fits n singles r.Unequal TextTy h = absurd h
compared_fits n singles r.Unequal (StructTy j) h = absurd h
compared_fits n singles r.Unequal (PointerTy ty) h = refl
compared_fits n singles r.Unequal (ArrayTy ty) h = refl
compared_fits n singles r.Below IntTy h = refl
compared_fits n singles r.Below CharTy h = refl
compared_fits n singles r.Below _ h = absurd h
compared_fits n singles r.AtMost IntTy h = refl
compared_fits n singles r.AtMost CharTy h = refl
compared_fits n singles r.AtMost _ h = absurd h
compared_fits n singles r.Above IntTy h = refl
compared_fits n singles r.Above CharTy h = refl
compared_fits n singles r.Above _ h = absurd h
compared_fits n singles r.AtLeast IntTy h = refl
compared_fits n singles r.AtLeast CharTy h = refl
compared_fits n singles r.AtLeast _ h = absurd h

-- an operator on one value
pub unary_fits : (H : Head) (ks : List Kind) (p : UnaryOperator) (d a : ℕ) → has ks d (unary_kind p) ≡ true → has ks a (unary_kind p) ≡ true → op_fits H ks (op.Unary (unary_operator p) d a) ≡ true
unary_fits H ks u.Negate d a h k = and_true (has ks d kind.Int) (has ks a kind.Int) h k
unary_fits H ks u.Complement d a h k = and_true (has ks d kind.Int) (has ks a kind.Int) h k
unary_fits H ks u.Not d a h k = and_true (has ks d kind.Bool) (has ks a kind.Bool) h k

module _ (typed : Typed) (singles : List Kind) (types : List Ty) (locals : ℕ) (ks : List Kind) where
  abbrev p : Program
  p = program_of typed

  abbrev n : ℕ
  n = length p.structs

  -- an output call
  pub print_fits : (H : Head) (out : Output) (regs : List ℕ) → AreOf typed singles types locals ks (output_types (output_of out)) regs → op_fits H ks (print_code out regs) ≡ true
  print_fits H o.Print [] h = absurd h
  print_fits H o.Print (a ∷ rest) h = has_it ks a kind.Text h.0
  print_fits H o.Println [] h = absurd h
  print_fits H o.Println (a ∷ rest) h = has_it ks a kind.Text h.0
  print_fits H o.Printint [] h = absurd h
  print_fits H o.Printint (a ∷ rest) h = has_it ks a kind.Int h.0
  print_fits H o.Printbool [] h = absurd h
  print_fits H o.Printbool (a ∷ rest) h = has_it ks a kind.Bool h.0
  print_fits H o.Printchar [] h = absurd h
  print_fits H o.Printchar (a ∷ rest) h = has_it ks a kind.Char h.0
  print_fits H o.Flush regs h = refl

  -- the arguments of a call
  pub arguments_fit : (ts : List ValueType) (rest : List Kind) (regs : List ℕ) → AreOf typed singles types locals ks (map type_of ts) regs
      → args_fit ks (map (kind_at p.structs singles (texts_of typed) typed.functions.items typed.main) ts ++ rest) (length ts) regs ≡ true
  arguments_fit [] rest [] h = refl
  arguments_fit [] rest (a ∷ regs) h = absurd h
  arguments_fit (x ∷ ts) rest [] h = absurd h
  arguments_fit (x ∷ ts) rest (a ∷ regs) h = and_true _ _ (has_it ks a (kind_of n singles (type_of x)) h.0) (arguments_fit ts rest regs h.1)

  -- its result
  pub result_fits_there : (ty : Ty) (d : ℕ) → slice_get ks d ≡ Some (kind_of n singles ty) → result_fits ks (result_kind n singles ty) (result_register ty d) ≡ true
  result_fits_there VoidTy d h = refl
  result_fits_there IntTy d h = has_it ks d _ h
  result_fits_there BoolTy d h = has_it ks d _ h
  result_fits_there CharTy d h = has_it ks d _ h
  result_fits_there TextTy d h = has_it ks d _ h
  result_fits_there (StructTy j) d h = has_it ks d _ h
  result_fits_there (PointerTy ty) d h = has_it ks d _ h
  result_fits_there (ArrayTy ty) d h = has_it ks d _ h
