-- The code of a function is guarded and uses pointers, and so is that of a program.
use Rattle.std.proofs.Common.{◌≡◌, ℕ, zero, suc, ◌+◌, ◌<◌, Bool, true, List, [], ◌∷◌, ◌++◌, length, Some, refl, arith}
use Rattle.std.specs.Prelude.{slice_get, map}
use Rattle.std.specs.List.{list_all}
use Rattle.std.proofs.lemmas.List.{length-append, length-map}
use Rattle.std.proofs.lemmas.Option.{slice_get_within}
use Rattle.c0_typed.specs.Trees as t
use Rattle.c0_typed.specs.Trees.{Program, Ty}
use Rattle.c0_typed.specs.Typing.{FitsFunction, FitsProgram, local_types}
use Rattle.c0_typed.specs.Views.{function_of, program_of, texts_of, type_of}
use Rattle.c0_typed.specs.declared.tree.Function.{Function}
use Rattle.c0_typed.specs.declared.tree.Typed.{Typed}
use Rattle.code_form.specs.declared.form.Kind.{Kind}
use Rattle.middle_form.specs.Form as f
use Rattle.lower_tables.specs.Gathered.{singles_of}
use Rattle.lower_tables.specs.Known.{KnowsFunction, KnowsFunctions}
use Rattle.lower_expressions.specs.Expressions as parts
use Rattle.lower_expressions.specs.Expressions.{checked, local_register}
use Rattle.lower.specs.Lowered as l
use Rattle.lower.specs.Lowered.{with_main_first}
use Rattle.lower.proofs.Calling.{its_code}
use Rattle.lower.proofs.Registers.{and_true}
use Rattle.middle_form.specs.Guarded.{asks, is_guarded, is_guarded_function, is_nothing_asked, uses_pointers}
use Rattle.c0_well_formed.specs.Laws.{LoweredIsGuarded}
use Rattle.c0_well_formed.proofs.CellKinds.{Each}
use Rattle.c0_well_formed.proofs.Ordered.{in_order}
use Rattle.c0_well_formed.proofs.GuardedCode.{Guards, NoFact, guard_append, guard_then, nothing_asked, one_block}
use Rattle.c0_well_formed.proofs.GuardedPlaces.{AreThere}
use Rattle.c0_well_formed.proofs.GuardedStatements as s
use Rattle.c0_well_formed.proofs.Functions.{function_pointers, program_known}

module _ (typed : Typed) (singles : List Kind) (checks : Bool) (fp : FitsProgram (program_of typed)) where
  abbrev p : Program
  p = program_of typed

  abbrev n : ℕ
  n = length p.structs

  module _ (h : Function) (fits : FitsFunction p (function_of (texts_of typed) h)) (known : KnowsFunction n singles h) where
    abbrev types : List Ty
    types = local_types (function_of (texts_of typed) h)

    abbrev locals : ℕ
    locals = length h.parameters.items + length h.locals.items

    abbrev before : List Kind
    before = parts.conditions_kinds p.structs singles (texts_of typed) typed.functions.items typed.main (checked checks h.preconditions.items)

    abbrev inside : List Kind
    inside = l.body_kinds p.structs singles (texts_of typed) typed.functions.items typed.main checks h.body.items

    there : AreThere types locals
    there zero ty e = omega arith
    there (suc x) ty e =
        let within : suc x < length types = slice_get_within types (suc x) ty e in
        let long : length (map type_of h.parameters.items ++ map type_of h.locals.items) ≡ length (map type_of h.parameters.items) + length (map type_of h.locals.items) = length-append (map type_of h.parameters.items) (map type_of h.locals.items) in
        let first : length (map type_of h.parameters.items) ≡ length h.parameters.items = length-map h.parameters.items type_of in
        let second : length (map type_of h.locals.items) ≡ length h.locals.items = length-map h.locals.items type_of in
        omega (arith, within, long, first, second)

    body_here : Guards NoFact NoFact (l.body_code p.structs singles (texts_of typed) typed.functions.items typed.main locals checks h.body.items (suc locals + length before))
    body_here = s.body_guards typed singles checks types locals there h.body.items (suc locals + length before) (omega arith) fits.5

    code_here : Guards NoFact NoFact (parts.conditions_code p.structs singles (texts_of typed) typed.functions.items typed.main locals (checked checks h.preconditions.items) (suc locals)
        ++ (f.Block (parts.sequence (l.body_code p.structs singles (texts_of typed) typed.functions.items typed.main locals checks h.body.items (suc locals + length before)))
        ∷ parts.conditions_code p.structs singles (texts_of typed) typed.functions.items typed.main locals (checked checks h.postconditions.items) (suc locals + length before + length inside)))
    code_here =
        guard_append _ _ (s.checked_guards typed singles checks types locals there h.preconditions.items (suc locals))
        (guard_then _ _ (one_block (parts.sequence (l.body_code p.structs singles (texts_of typed) typed.functions.items typed.main locals checks h.body.items (suc locals + length before))) body_here.go)
        (s.checked_guards typed singles checks types locals there h.postconditions.items (suc locals + length before + length inside)))

    pub function_guarded : is_guarded_function (its_code typed singles checks h) ≡ true
    function_guarded =
        let whole = code_here.go [] tt in
        and_true _ (uses_pointers (its_code typed singles checks h).kinds (its_code typed singles checks h).body)
        (and_true (is_nothing_asked (asks (its_code typed singles checks h).body [])) (is_guarded (its_code typed singles checks h).body []) (nothing_asked (asks (its_code typed singles checks h).body []) whole.0) whole.1)
        (function_pointers typed singles checks fp h fits known)

  -- ---- all functions

  abbrev HasGuarded : Function → Type 0
  HasGuarded h = is_guarded_function (its_code typed singles checks h) ≡ true

  each_guarded : (fs : List Function) → ((i : ℕ) (g : t.Function) → slice_get (map (function_of (texts_of typed)) fs) i ≡ Some g → FitsFunction p g) → KnowsFunctions n singles fs → Each HasGuarded fs
  each_guarded [] fits known = tt
  each_guarded (h ∷ rest) fits known = (function_guarded h (fits 0 (function_of (texts_of typed) h) refl) known.0, each_guarded rest (λ i g e. fits (suc i) g e) known.1)

  all_of : (fs : List Function) → Each HasGuarded fs → list_all is_guarded_function (map (its_code typed singles checks) fs) ≡ true
  all_of [] h = refl
  all_of (x ∷ rest) h = and_true _ _ h.0 (all_of rest h.1)

  pub program_guarded : KnowsFunctions n singles typed.functions.items → list_all is_guarded_function (map (its_code typed singles checks) (with_main_first typed.main typed.functions.items)) ≡ true
  program_guarded known = all_of (with_main_first typed.main typed.functions.items) (in_order HasGuarded typed.main typed.functions.items (each_guarded typed.functions.items fp.functions known))

pub lowered_guarded : LoweredIsGuarded
lowered_guarded checks typed fp = program_guarded typed (singles_of typed) checks fp (program_known typed)
