-- Code of expressions and its registers under construction, in the words of the definitions.
use Rattle.std.specs.Prelude.{ℕ, zero, suc, ◌+◌, List, [], ◌∷◌, ◌++◌, length, map, Option}
use Rattle.c0_typed.specs.Trees as t
use Rattle.c0_typed.specs.Views.{texts_of}
use Rattle.c0_typed.specs.declared.tree.Expression.{Expression}
use Rattle.c0_typed.specs.declared.tree.Place.{Place}
use Rattle.c0_typed.specs.declared.tree.ValueType.{ValueType}
use Rattle.code_form.specs.declared.form.Kind.{Kind}
use Rattle.middle_form.specs.Form as m
use Rattle.middle_form.specs.Views.{code_of}
use Rattle.middle_form.specs.declared.form.Code.{Code}
use Rattle.lower_expressions.specs.Expressions as l
use Rattle.lower_tables.specs.Tables.{structs_of}
use Rattle.lower_expressions.specs.declared.context.Context.{Context}

-- code in order
abbrev pub codes : List Code → List m.Code
codes cs = map code_of cs

-- the structs of the program
abbrev pub structs_in : Context → List (List t.Ty)
structs_in c = structs_of c.typed.now

-- Over the program of a context
module _ (c : Context) where
  -- the type that a function of the text gives
  abbrev pub type_given : ℕ → t.Ty
  type_given f = l.type_given (structs_in c) c.singles.now (texts_of c.typed.now) c.typed.now.functions.items c.typed.now.main c.typed.now.functions.items f

  -- the kind of a value of a type
  abbrev pub kind_at : ValueType → Kind
  kind_at ty = l.kind_at (structs_in c) c.singles.now (texts_of c.typed.now) c.typed.now.functions.items c.typed.now.main ty

  -- the registers of an expression beside the locals, by their kinds
  abbrev pub exp_kinds : Expression → List Kind
  exp_kinds e = l.exp_kinds (structs_in c) c.singles.now (texts_of c.typed.now) c.typed.now.functions.items c.typed.now.main e

  -- those of a place
  abbrev pub place_kinds : Place → List Kind
  place_kinds q = l.place_kinds (structs_in c) c.singles.now (texts_of c.typed.now) c.typed.now.functions.items c.typed.now.main q

  -- those of conditions that must hold
  abbrev pub conditions_kinds : List Expression → List Kind
  conditions_kinds es = l.conditions_kinds (structs_in c) c.singles.now (texts_of c.typed.now) c.typed.now.functions.items c.typed.now.main (l.checked c.checks es)

  -- the code of an expression, with its registers from d on
  abbrev pub exp_code : Expression → ℕ → List m.Code
  exp_code e d = l.exp_code (structs_in c) c.singles.now (texts_of c.typed.now) c.typed.now.functions.items c.typed.now.main c.locals e d

  -- and then its value moved to a register
  abbrev pub moved : Expression → ℕ → ℕ → m.Code
  moved e d r = l.sequence (l.moved c.locals e (exp_code e d) d r)

  -- that of a place
  abbrev pub place_code : Place → ℕ → List m.Code
  place_code q d = l.place_code (structs_in c) c.singles.now (texts_of c.typed.now) c.typed.now.functions.items c.typed.now.main c.locals q d

  -- the register of the reference that a place begins with
  abbrev pub base_at : Place → ℕ → ℕ
  base_at q d = l.base_at (structs_in c) c.singles.now (texts_of c.typed.now) c.typed.now.functions.items c.typed.now.main c.locals q d

  -- the register of a place's offset
  abbrev pub offset_at : Place → ℕ → Option ℕ
  offset_at q d = l.offset_at (structs_in c) c.singles.now (texts_of c.typed.now) c.typed.now.functions.items c.typed.now.main c.locals q d

  -- how far behind that a place's cell stands
  abbrev pub displacement : Place → ℕ
  displacement q = l.displacement (structs_in c) c.singles.now (texts_of c.typed.now) c.typed.now.functions.items c.typed.now.main c.locals q

  -- that of conditions that must hold
  abbrev pub conditions_code : List Expression → ℕ → List m.Code
  conditions_code es d = l.conditions_code (structs_in c) c.singles.now (texts_of c.typed.now) c.typed.now.functions.items c.typed.now.main c.locals (l.checked c.checks es) d

  -- the registers of arguments, by their kinds
  abbrev pub list_kinds : List Expression → List Kind
  list_kinds [] = []
  list_kinds (e ∷ rest) = exp_kinds e ++ list_kinds rest

  -- the code of arguments
  abbrev pub list_code : List Expression → ℕ → List m.Code
  list_code [] d = []
  list_code (e ∷ rest) d = exp_code e d ++ list_code rest (d + length (exp_kinds e))

  -- where their values stand
  abbrev pub list_at : List Expression → ℕ → List ℕ
  list_at [] d = []
  list_at (e ∷ rest) d = l.value_at c.locals e d ∷ list_at rest (d + length (exp_kinds e))
