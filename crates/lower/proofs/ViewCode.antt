-- The code of a program's trees of the definitions: that of each tree that is read as them.
use Rattle.std.proofs.Common.{◌≡◌, ℕ, zero, suc, ◌+◌, Bool, true, false, cond, List, [], ◌∷◌, ◌++◌, length, Option, Some, None, refl, sym, ap, ◌∙◌}
use Rattle.std.specs.Prelude.{◌||◌}
use Rattle.cells.specs.declared.int32.Int32Op.{Int32Op}
use Rattle.c0_typed.specs.Values as v
use Rattle.c0_typed.specs.Trees as t
use Rattle.c0_typed.specs.Views.{block_of, block_row, constant_of, exp_of, exps_of, output_of, place_of, relation_of, row_of, stmt_of, type_of, unary_of}
use Rattle.c0_typed.specs.declared.tree.UnaryOperator.{UnaryOperator}
use Rattle.c0_typed.specs.declared.tree.UnaryOperator.TheVariants as u
use Rattle.c0_typed.specs.declared.tree.Relation.{Relation}
use Rattle.c0_typed.specs.declared.tree.Relation.TheVariants as r
use Rattle.c0_typed.specs.declared.tree.Constant.{Constant as ConstantValue}
use Rattle.c0_typed.specs.declared.tree.Constant.TheVariants as c
use Rattle.c0_typed.specs.declared.tree.Output.{Output}
use Rattle.c0_typed.specs.declared.tree.Output.TheVariants as o
use Rattle.c0_typed.specs.declared.tree.Expression.{Expression, Row_of-Expression, end_of-Expression, more_of-Expression, At', Constant, Null, Local, Unary', Binary', Compare', And', Or', Choose', Call', Print', Load', Alloc, AllocArray', Length'}
use Rattle.c0_typed.specs.declared.tree.Place.{Place, Deref', Index', Field'}
use Rattle.c0_typed.specs.declared.tree.Statement.{Statement, Row_of-Statement, end_of-Statement, more_of-Statement, Block', Set, Update, Store, StoreUpdate, Do, If', Loop', Return, ReturnValue, Break, Continue, Assert, Error, Check}
use Rattle.c0_typed.specs.declared.tree.Function.{Function}
use Rattle.code_form.specs.declared.form.Kind.{Kind}
use Rattle.code_form.specs.declared.form.Kind.TheVariants as kind
use Rattle.code_form.specs.declared.form.UnaryOperator.{UnaryOperator as CodeOperator}
use Rattle.code_form.specs.declared.form.UnaryOperator.TheVariants as operator
use Rattle.code_form.specs.declared.form.Relation.{Relation as CodeRelation}
use Rattle.code_form.specs.declared.form.Relation.TheVariants as relation
use Rattle.code_form.specs.declared.form.Operation.{Operation}
use Rattle.code_form.specs.declared.form.Operation.TheVariants as op
use Rattle.middle_form.specs.Form.{Code}
use Rattle.middle_form.specs.Form as m
use Rattle.lower_tables.specs.Kinds.{cells_of, field_offset, kind_of, layout_number}
use Rattle.lower_expressions.specs.Expressions as parts
use Rattle.lower.specs.Exits.{deeper, has_continue, inside, some_continue, whole}
use Rattle.lower.specs.declared.exits.Exits.{Exits}
use Rattle.lower.specs.Lowered as l
use Rattle.lower_tables.specs.Texts.{number_among}
use Rattle.lower_expressions.specs.Expressions.{local_register, result_register, sequence, swapped}

-- ---- what code is made of

-- of an expression whose registers begin at a number: their kinds, where its value stands, and its code
pub record Part : Type 0 where
  pub kinds : List Kind
  pub at : ℕ → ℕ
  pub code : ℕ → List Code

-- of arguments
pub record Row : Type 0 where
  pub kinds : List Kind
  pub at : ℕ → List ℕ
  pub code : ℕ → List Code

-- of a place
pub record Spot : Type 0 where
  pub kinds : List Kind
  pub base : ℕ → ℕ
  pub offset : ℕ → Option ℕ
  pub displacement : ℕ
  pub code : ℕ → List Code

-- of conditions that must hold
pub record Conditions : Type 0 where
  pub kinds : List Kind
  pub code : ℕ → List Code

-- of a statement
pub record Step : Type 0 where
  pub kinds : List Kind
  pub code : ℕ → Exits → List Code
  pub continues : Bool

-- ---- operators

abbrev operator_of : t.UnaryOp → CodeOperator
operator_of t.Negate = operator.Negate
operator_of t.Complement = operator.Complement
operator_of t.Not = operator.Not

abbrev operator_kind : t.UnaryOp → Kind
operator_kind t.Negate = kind.Int
operator_kind t.Complement = kind.Int
operator_kind t.Not = kind.Bool

abbrev code_relation : t.Relation → CodeRelation
code_relation t.Equal = relation.Equal
code_relation t.Unequal = relation.NotEqual
code_relation t.Below = relation.Less
code_relation t.AtMost = relation.LessOrEqual
code_relation t.Above = relation.Greater
code_relation t.AtLeast = relation.GreaterOrEqual

abbrev first_or_flush : (ℕ → Operation) → List ℕ → Operation
first_or_flush print [] = op.Flush
first_or_flush print (a ∷ rest) = print a

abbrev print_code : t.Output → List ℕ → Operation
print_code t.Print rs = first_or_flush op.Print rs
print_code t.Println rs = first_or_flush op.Println rs
print_code t.Printint rs = first_or_flush op.Printint rs
print_code t.Printbool rs = first_or_flush op.Printbool rs
print_code t.Printchar rs = first_or_flush op.Printchar rs
print_code t.Flush rs = op.Flush

operator_is : (p : UnaryOperator) → operator_of (unary_of p) ≡ parts.unary_operator p
operator_is u.Negate = refl
operator_is u.Complement = refl
operator_is u.Not = refl

operator_kind_is : (p : UnaryOperator) → operator_kind (unary_of p) ≡ parts.unary_kind p
operator_kind_is u.Negate = refl
operator_kind_is u.Complement = refl
operator_kind_is u.Not = refl

relation_is : (p : Relation) → code_relation (relation_of p) ≡ parts.code_relation p
relation_is r.Equal = refl
relation_is r.Unequal = refl
relation_is r.Below = refl
relation_is r.AtMost = refl
relation_is r.Above = refl
relation_is r.AtLeast = refl

print_is : (p : Output) (rs : List ℕ) → print_code (output_of p) rs ≡ parts.print_code p rs
print_is o.Print [] = refl
print_is o.Print (a ∷ rest) = refl
print_is o.Println [] = refl
print_is o.Println (a ∷ rest) = refl
print_is o.Printint [] = refl
print_is o.Printint (a ∷ rest) = refl
print_is o.Printbool [] = refl
print_is o.Printbool (a ∷ rest) = refl
print_is o.Printchar [] = refl
print_is o.Printchar (a ∷ rest) = refl
print_is o.Flush [] = refl
print_is o.Flush (a ∷ rest) = refl

-- a value into a register; what is no constant gives NULL
abbrev value_code : List (List ℕ) → v.Value → ℕ → Operation
value_code texts (v.Number z) d = op.Const d z
value_code texts (v.Truth b) d = op.BoolOf d b
value_code texts (v.Letter x) d = op.CharOf d x
value_code texts (v.Text bytes) d = op.TextOf d (number_among texts bytes)
value_code texts (v.Ref x) d = op.Null d
value_code texts v.Void d = op.Null d

abbrev value_kind : v.Value → Kind
value_kind (v.Number z) = kind.Int
value_kind (v.Truth b) = kind.Bool
value_kind (v.Letter x) = kind.Char
value_kind (v.Text bytes) = kind.Text
value_kind (v.Ref x) = kind.Int
value_kind v.Void = kind.Int

value_code_is : (texts : List (List ℕ)) (x : ConstantValue) (d : ℕ) → value_code texts (constant_of texts x) d ≡ parts.constant_code texts x d
value_code_is texts (c.Number z) d = refl
value_code_is texts (c.Truth b) d = refl
value_code_is texts (c.Letter x) d = refl
value_code_is texts (c.Text k) d = refl

value_kind_is : (texts : List (List ℕ)) (x : ConstantValue) → value_kind (constant_of texts x) ≡ parts.constant_kind x
value_kind_is texts (c.Number z) = refl
value_kind_is texts (c.Truth b) = refl
value_kind_is texts (c.Letter x) = refl
value_kind_is texts (c.Text k) = refl

-- ---- how parts are put together

-- one operation, whose result has a register of this kind
abbrev leaf : Kind → (ℕ → Operation) → Part
leaf k o = record { kinds = k ∷ []; at = λ d. d; code = λ d. m.Do (o d) ∷ [] }

-- an operation on a value, into a register of this kind
abbrev on_one : Kind → (ℕ → ℕ → Operation) → Part → Part
on_one k o a = record { kinds = k ∷ a.kinds; at = λ d. d; code = λ d. a.code (suc d) ++ (m.Do (o d (a.at (suc d))) ∷ []) }

-- on two
abbrev on_two : Kind → (ℕ → ℕ → ℕ → Operation) → Part → Part → Part
on_two k o a b = record {
  kinds = k ∷ (a.kinds ++ b.kinds);
  at = λ d. d;
  code = λ d. a.code (suc d) ++ (b.code (suc d + length a.kinds) ++ (m.Do (o d (a.at (suc d)) (b.at (suc d + length a.kinds))) ∷ []));
}

-- and then its value moved to a register
abbrev moved : Part → ℕ → ℕ → Code
moved a d to = sequence (a.code d ++ (m.Do (op.Move to (a.at d)) ∷ []))

abbrev both : Part → Part → Part
both a b = record {
  kinds = kind.Bool ∷ (a.kinds ++ b.kinds);
  at = λ d. d;
  code = λ d. a.code (suc d) ++ (m.Do (op.Move d (a.at (suc d))) ∷ (m.Choose d (moved b (suc d + length a.kinds) d) m.Nothing ∷ []));
}

abbrev either : Part → Part → Part
either a b = record {
  kinds = kind.Bool ∷ (a.kinds ++ b.kinds);
  at = λ d. d;
  code = λ d. a.code (suc d) ++ (m.Do (op.Move d (a.at (suc d))) ∷ (m.Choose d m.Nothing (moved b (suc d + length a.kinds) d) ∷ []));
}

abbrev chosen : Kind → Part → Part → Part → Part
chosen k a b e = record {
  kinds = k ∷ (a.kinds ++ (b.kinds ++ e.kinds));
  at = λ d. d;
  code = λ d. a.code (suc d) ++ (m.Choose (a.at (suc d)) (moved b (suc d + length a.kinds) d) (moved e (suc d + length a.kinds + length b.kinds) d) ∷ []);
}

abbrev on_row : Kind → (ℕ → List ℕ → Code) → Row → Part
on_row k o es = record { kinds = k ∷ es.kinds; at = λ d. d; code = λ d. es.code (suc d) ++ (o d (es.at (suc d)) ∷ []) }

abbrev loaded : Kind → Spot → Part
loaded k q = record { kinds = k ∷ q.kinds; at = λ d. d; code = λ d. q.code (suc d) ++ (m.Load d (q.base (suc d)) (q.offset (suc d)) q.displacement ∷ []) }

abbrev no_row : Row
no_row = record { kinds = []; at = λ d. []; code = λ d. [] }

abbrev more_row : Part → Row → Row
more_row a rest = record {
  kinds = a.kinds ++ rest.kinds;
  at = λ d. a.at d ∷ rest.at (d + length a.kinds);
  code = λ d. a.code d ++ rest.code (d + length a.kinds);
}

abbrev behind : Part → Spot
behind a = record { kinds = a.kinds; base = a.at; offset = λ d. None; displacement = 0; code = λ d. a.code d ++ (m.Do (op.CheckNull (a.at d)) ∷ []) }

-- an element of so many cells
abbrev element : Kind → ℕ → Part → Part → Spot
element k size a i = record {
  kinds = k ∷ (a.kinds ++ i.kinds);
  base = λ d. a.at (suc d);
  offset = λ d. Some d;
  displacement = 0;
  code = λ d. a.code (suc d) ++ (i.code (suc d + length a.kinds) ++ (m.Do (op.CheckIndex d (a.at (suc d)) (i.at (suc d + length a.kinds)) size) ∷ []));
}

-- a field with so many cells in front of it
abbrev field : ℕ → Spot → Spot
field before q = record { kinds = q.kinds; base = q.base; offset = q.offset; displacement = q.displacement + before; code = q.code }

abbrev no_conditions : Conditions
no_conditions = record { kinds = []; code = λ d. [] }

abbrev more_conditions : Part → Conditions → Conditions
more_conditions a rest = record {
  kinds = a.kinds ++ rest.kinds;
  code = λ d. a.code d ++ (m.Do (op.Assert (a.at d)) ∷ rest.code (d + length a.kinds));
}

abbrev no_step : Step
no_step = record { kinds = []; code = λ d out. []; continues = false }

abbrev then_step : Step → Step → Step
then_step a b = record { kinds = a.kinds ++ b.kinds; code = λ d out. a.code d out ++ b.code (d + length a.kinds) out; continues = a.continues || b.continues }

-- a value, and then code that has its register, left by these exits
abbrev last_step : (ℕ → Exits → List Code) → Part → Step
last_step o a = record { kinds = a.kinds; code = λ d out. a.code d ++ o (a.at d) out; continues = false }

abbrev stored : Spot → Part → Step
stored q a = record {
  kinds = q.kinds ++ a.kinds;
  code = λ d out. q.code d ++ (a.code (d + length q.kinds) ++ (m.Store (q.base d) (q.offset d) q.displacement (a.at (d + length q.kinds)) ∷ []));
  continues = false;
}

abbrev updated : Int32Op → Spot → Part → Step
updated p q a = record {
  kinds = kind.Int ∷ (q.kinds ++ a.kinds);
  code = λ d out. q.code (suc d) ++ (m.Load d (q.base (suc d)) (q.offset (suc d)) q.displacement
      ∷ (a.code (suc d + length q.kinds) ++ (m.Do (op.Binary p d d (a.at (suc d + length q.kinds)))
      ∷ (m.Store (q.base (suc d)) (q.offset (suc d)) q.displacement d ∷ []))));
  continues = false;
}

abbrev if_step : Part → Step → Step → Step
if_step a b s = record {
  kinds = a.kinds ++ (b.kinds ++ s.kinds);
  code = λ d out. a.code d ++ (m.Choose (a.at d) (sequence (b.code (d + length a.kinds) out)) (sequence (s.code (d + length a.kinds + length b.kinds) out)) ∷ []);
  continues = b.continues || s.continues;
}

abbrev loop_step : Conditions → Part → Step → Step → Step
loop_step cs a body step = record {
  kinds = cs.kinds ++ (a.kinds ++ (body.kinds ++ step.kinds));
  code = λ d out.
      m.Loop (sequence (cs.code d ++ a.code (d + length cs.kinds)))
      (a.at (d + length cs.kinds))
      (sequence (l.turn_code body.continues (body.code (d + length cs.kinds + length a.kinds) (inside body.continues out))
      ++ step.code (d + length cs.kinds + length a.kinds + length body.kinds) (deeper out)))
      ∷ [];
  continues = step.continues;
}

abbrev check_step : Conditions → Step
check_step cs = record { kinds = cs.kinds; code = λ d out. cs.code d; continues = false }

abbrev return_step : Step
return_step = record { kinds = []; code = λ d out. m.Exit out.returns ∷ []; continues = false }

abbrev break_step : Step
break_step = record { kinds = []; code = λ d out. m.Exit out.breaks ∷ []; continues = false }

abbrev continue_step : Step
continue_step = record { kinds = []; code = λ d out. m.Exit out.continues ∷ []; continues = true }

-- ---- the code of the definitions' trees, over a program whose functions give these types, in a function with so many locals
module _ (structs : List (List t.Ty)) (singles : List Kind) (texts : List (List ℕ)) (given : ℕ → t.Ty) (main locals : ℕ) where
  abbrev kind_at : t.Ty → Kind
  kind_at ty = kind_of (length structs) singles ty

  abbrev layout_at : t.Ty → ℕ
  layout_at ty = layout_number (length structs) singles ty

  abbrev mutual
    pub exp_part : t.Exp → Part
    exp_part (t.Constant x) = leaf (value_kind x) (value_code texts x)
    exp_part (t.Null ty) = leaf (kind.Ptr (layout_at ty)) op.Null
    exp_part (t.Local x) = record { kinds = []; at = λ d. local_register locals x; code = λ d. [] }
    exp_part (t.Unary p a) = on_one (operator_kind p) (op.Unary (operator_of p)) (exp_part a)
    exp_part (t.Binary p a b) = on_two kind.Int (op.Binary p) (exp_part a) (exp_part b)
    exp_part (t.Compare ty p a b) = on_two kind.Bool (op.Compare (code_relation p)) (exp_part a) (exp_part b)
    exp_part (t.And a b) = both (exp_part a) (exp_part b)
    exp_part (t.Or a b) = either (exp_part a) (exp_part b)
    exp_part (t.Choose ty a b e) = chosen (kind_at ty) (exp_part a) (exp_part b) (exp_part e)
    exp_part (t.Call f es) = on_row (kind_at (given f)) (λ d rs. m.Call (result_register (given f) d) (swapped main f) rs) (row_part es)
    exp_part (t.Out p es) = on_row kind.Int (λ d rs. m.Do (print_code p rs)) (row_part es)
    exp_part (t.Load ty q) = loaded (kind_at ty) (place_part q)
    exp_part (t.Alloc ty) = leaf (kind.Ptr (layout_at ty)) (λ d. op.Alloc d (layout_at ty))
    exp_part (t.AllocArray ty a) = on_one (kind.Arr (layout_at ty)) (λ d x. op.AllocArray d (layout_at ty) x) (exp_part a)
    exp_part (t.Length ty a) = on_one kind.Int op.Len (exp_part a)

    pub row_part : t.Exps → Row
    row_part t.NoExp = no_row
    row_part (t.More a rest) = more_row (exp_part a) (row_part rest)

    pub place_part : t.Place → Spot
    place_part (t.Deref ty a) = behind (exp_part a)
    place_part (t.Index ty a i) = element (kind.Off (layout_at ty)) (length (cells_of structs singles ty)) (exp_part a) (exp_part i)
    place_part (t.Field j q k) = field (field_offset structs singles j k) (place_part q)

  abbrev all_conditions : t.Exps → Conditions
  all_conditions t.NoExp = no_conditions
  all_conditions (t.More a rest) = more_conditions (exp_part a) (all_conditions rest)

  -- where contracts are checked or not
  abbrev pub conditions : Bool → t.Exps → Conditions
  conditions checks es = cond checks (all_conditions es) no_conditions

  abbrev pub step : Bool → t.Stmt → Step
  step checks t.Skip = no_step
  step checks (t.Seq a b) = then_step (step checks a) (step checks b)
  step checks (t.Set x a) = last_step (λ at out. m.Do (op.Move (local_register locals x) at) ∷ []) (exp_part a)
  step checks (t.Update x p a) = last_step (λ at out. m.Do (op.Binary p (local_register locals x) (local_register locals x) at) ∷ []) (exp_part a)
  step checks (t.Store q a) = stored (place_part q) (exp_part a)
  step checks (t.StoreUpdate q p a) = updated p (place_part q) (exp_part a)
  step checks (t.Do a) = record { kinds = (exp_part a).kinds; code = λ d out. (exp_part a).code d; continues = false }
  step checks (t.If c a b) = if_step (exp_part c) (step checks a) (step checks b)
  step checks (t.Loop invariants c body next) = loop_step (conditions checks invariants) (exp_part c) (step checks body) (step checks next)
  step checks t.Return = return_step
  step checks t.Break = break_step
  step checks t.Continue = continue_step
  step checks (t.ReturnValue a) = last_step (λ at out. m.Do (op.Move (local_register locals 0) at) ∷ (m.Exit out.returns ∷ [])) (exp_part a)
  step checks (t.Assert a) = last_step (λ at out. m.Do (op.Assert at) ∷ []) (exp_part a)
  step checks (t.Error a) = last_step (λ at out. m.Fail at ∷ []) (exp_part a)
  step checks (t.Check es) = check_step (conditions checks es)

-- ---- the same of the trees that are read as them
module _ (structs : List (List t.Ty)) (singles : List Kind) (texts : List (List ℕ)) (functions : List Function) (main locals : ℕ) where
  abbrev pub given : ℕ → t.Ty
  given f = parts.type_given structs singles texts functions main functions f

  abbrev E : t.Exp → Part
  E a = exp_part structs singles texts given main locals a

  abbrev R : t.Exps → Row
  R es = row_part structs singles texts given main locals es

  abbrev P : t.Place → Spot
  P q = place_part structs singles texts given main locals q

  -- of an expression
  abbrev exp_made : Expression → Part
  exp_made a = record {
    kinds = parts.exp_kinds structs singles texts functions main a;
    at = λ d. parts.value_at locals a d;
    code = λ d. parts.exp_code structs singles texts functions main locals a d;
  }

  abbrev row_made : {n : _} → Row_of-Expression n → Row
  row_made es = record {
    kinds = parts.row_kinds structs singles texts functions main es;
    at = λ d. parts.row_at structs singles texts functions main locals es d;
    code = λ d. parts.row_code structs singles texts functions main locals es d;
  }

  abbrev place_made : Place → Spot
  place_made q = record {
    kinds = parts.place_kinds structs singles texts functions main q;
    base = λ d. parts.base_at structs singles texts functions main locals q d;
    offset = λ d. parts.offset_at structs singles texts functions main locals q d;
    displacement = parts.displacement structs singles texts functions main locals q;
    code = λ d. parts.place_code structs singles texts functions main locals q d;
  }

  mutual
    exp_is : (a : Expression) → E (exp_of texts a) ≡ exp_made a
    exp_is (At' here q e) = exp_is e
    exp_is (Constant x) = λ i. leaf (value_kind_is texts x i) (λ d. value_code_is texts x d i)
    exp_is (Null ty) = refl
    exp_is (Local x) = refl
    exp_is (Unary' p q a) = λ i. on_one (operator_kind_is p i) (op.Unary (operator_is p i)) (exp_is a i)
    exp_is (Binary' p q a s b) = λ i. on_two kind.Int (op.Binary p) (exp_is a i) (exp_is b i)
    exp_is (Compare' ty p q a s b) = λ i. on_two kind.Bool (op.Compare (relation_is p i)) (exp_is a i) (exp_is b i)
    exp_is (And' p a q b) = λ i. both (exp_is a i) (exp_is b i)
    exp_is (Or' p a q b) = λ i. either (exp_is a i) (exp_is b i)
    exp_is (Choose' ty p a q b s e) = λ i. chosen (kind_at structs singles texts given main locals (type_of ty)) (exp_is a i) (exp_is b i) (exp_is e i)
    exp_is (Call' f shape es) = λ i. on_row (kind_at structs singles texts given main locals (given f)) (λ d rs. m.Call (result_register (given f) d) (swapped main f) rs) (row_is es i)
    exp_is (Print' p shape es) = λ i. on_row kind.Int (λ d rs. m.Do (print_is p rs i)) (row_is es i)
    exp_is (Load' ty p q) = λ i. loaded (kind_at structs singles texts given main locals (type_of ty)) (place_is q i)
    exp_is (Alloc ty) = refl
    exp_is (AllocArray' ty p a) =
        λ i. on_one (kind.Arr (layout_at structs singles texts given main locals (type_of ty))) (λ d x. op.AllocArray d (layout_at structs singles texts given main locals (type_of ty)) x) (exp_is a i)
    exp_is (Length' ty p a) = λ i. on_one kind.Int op.Len (exp_is a i)

    row_is : {n : _} (es : Row_of-Expression n) → R (row_of texts es) ≡ row_made es
    row_is end_of-Expression = refl
    row_is (more_of-Expression a rest) = λ i. more_row (exp_is a i) (row_is rest i)

    place_is : (q : Place) → P (place_of texts q) ≡ place_made q
    place_is (Deref' ty p a) = λ i. behind (exp_is a i)
    place_is (Index' ty p a q j) =
        λ i. element (kind.Off (layout_at structs singles texts given main locals (type_of ty))) (length (cells_of structs singles (type_of ty))) (exp_is a i) (exp_is j i)
    place_is (Field' j p q k) = λ i. field (field_offset structs singles j k) (place_is q i)

  abbrev all_made : List Expression → Conditions
  all_made es = record {
    kinds = parts.conditions_kinds structs singles texts functions main es;
    code = λ d. parts.conditions_code structs singles texts functions main locals es d;
  }

  all_are : (es : List Expression) → all_conditions structs singles texts given main locals (exps_of texts es) ≡ all_made es
  all_are [] = refl
  all_are (a ∷ rest) = λ i. more_conditions (exp_is a i) (all_are rest i)

  -- of conditions that must hold
  abbrev pub conditions_made : Bool → List Expression → Conditions
  conditions_made checks es = all_made (parts.checked checks es)

  pub conditions_are : (checks : Bool) (es : List Expression) → conditions structs singles texts given main locals checks (exps_of texts es) ≡ conditions_made checks es
  conditions_are true es = all_are es
  conditions_are false es = refl

  abbrev step_made : Bool → Statement → Step
  step_made checks a = record {
    kinds = l.stmt_kinds structs singles texts functions main checks a;
    code = λ d out. l.stmt_code structs singles texts functions main locals checks a d out;
    continues = has_continue a;
  }

  abbrev block_made : {n : _} → Bool → Row_of-Statement n → Step
  block_made checks all = record {
    kinds = l.block_kinds structs singles texts functions main checks all;
    code = λ d out. l.block_code structs singles texts functions main locals checks all d out;
    continues = some_continue all;
  }

  module _ (checks : Bool) where
    abbrev S : t.Stmt → Step
    S a = step structs singles texts given main locals checks a

    mutual
      step_is : (a : Statement) → S (stmt_of texts a) ≡ step_made checks a
      step_is (Block' shape all) = block_is all
      step_is (Set x a) = λ i. last_step (λ at out. m.Do (op.Move (local_register locals x) at) ∷ []) (exp_is a i)
      step_is (Update x p a) = λ i. last_step (λ at out. m.Do (op.Binary p (local_register locals x) (local_register locals x) at) ∷ []) (exp_is a i)
      step_is (Store q a) = λ i. stored (place_is q i) (exp_is a i)
      step_is (StoreUpdate q p a) = λ i. updated p (place_is q i) (exp_is a i)
      step_is (Do a) = λ i. record { kinds = (exp_is a i).kinds; code = λ d out. (exp_is a i).code d; continues = false }
      step_is (If' a p b q s) = λ i. if_step (exp_is a i) (step_is b i) (step_is s i)
      step_is (Loop' invariants a p body q next) = λ i. loop_step (conditions_are checks invariants.items i) (exp_is a i) (step_is body i) (step_is next i)
      step_is Return = refl
      step_is Break = refl
      step_is Continue = refl
      step_is (ReturnValue a) = λ i. last_step (λ at out. m.Do (op.Move (local_register locals 0) at) ∷ (m.Exit out.returns ∷ [])) (exp_is a i)
      step_is (Assert a) = λ i. last_step (λ at out. m.Do (op.Assert at) ∷ []) (exp_is a i)
      step_is (Error a) = λ i. last_step (λ at out. m.Fail at ∷ []) (exp_is a i)
      step_is (Check es) = λ i. check_step (conditions_are checks es.items i)

      block_is : {n : _} (all : Row_of-Statement n) → S (block_row texts all) ≡ block_made checks all
      block_is end_of-Statement = refl
      block_is (more_of-Statement a rest) = λ i. then_step (step_is a i) (block_is rest i)

    -- a body has its code outside of loops and blocks
    pub body_kinds_are : (all : List Statement) → (S (block_of texts all)).kinds ≡ l.body_kinds structs singles texts functions main checks all
    body_kinds_are [] = refl
    body_kinds_are (a ∷ rest) = λ i. (step_is a i).kinds ++ body_kinds_are rest i

    pub body_code_is : (all : List Statement) (d : ℕ) → (S (block_of texts all)).code d whole ≡ l.body_code structs singles texts functions main locals checks all d
    body_code_is [] d = refl
    body_code_is (a ∷ rest) d = (λ i. (step_is a i).code d whole ++ (S (block_of texts rest)).code (d + length (step_is a i).kinds) whole)
        ∙ ap (λ cs. l.stmt_code structs singles texts functions main locals checks a d whole ++ cs) (body_code_is rest (d + length (l.stmt_kinds structs singles texts functions main checks a)))
