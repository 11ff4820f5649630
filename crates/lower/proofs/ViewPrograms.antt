-- The code of a program of the definitions: that of each typed tree that is read as it. So trees of one program have one code.
use Rattle.std.proofs.Common.{◌≡◌, ℕ, zero, suc, ◌+◌, Bool, List, [], ◌∷◌, ◌++◌, length, map, Option, Some, None, refl, sym, ap, ap₂, ◌∙◌}
use Rattle.std.specs.Prelude.{set, slice_get}
use Rattle.std.proofs.lemmas.List.{length-map}
use Rattle.c0_typed.specs.Trees as t
use Rattle.c0_typed.specs.Views.{block_of, exps_of, function_of, program_of, struct_of, texts_of, type_of}
use Rattle.c0_typed.specs.declared.tree.Function.{Function}
use Rattle.c0_typed.specs.declared.tree.Statement.{Statement}
use Rattle.c0_typed.specs.declared.tree.Typed.{Typed}
use Rattle.c0_typed.specs.declared.tree.ValueType.{ValueType}
use Rattle.code_form.specs.declared.form.Kind.{Kind}
use Rattle.middle_form.specs.Form as m
use Rattle.lower_tables.specs.Gathered.{singles_of}
use Rattle.lower_tables.specs.Kinds.{kind_of, layouts_of}
use Rattle.lower.specs.Laws.{SameProgramSameCode}
use Rattle.lower_expressions.specs.Expressions as parts
use Rattle.lower.specs.Exits.{whole}
use Rattle.lower.specs.Lowered as l
use Rattle.lower.specs.Lowered.{lowered, result_kind, with_main_first}
use Rattle.lower_expressions.specs.Expressions.{sequence}
use Rattle.lower.proofs.ViewCode.{Conditions, Step, body_code_is, body_kinds_are, conditions, conditions_are, conditions_made, given, step}
use Rattle.lower.proofs.ViewTypes.{singles_are, singles_in}

-- the type that a function gives
abbrev gives : List t.Function → ℕ → t.Ty
gives [] f = t.VoidTy
gives (g ∷ gs) zero = g.result
gives (g ∷ gs) (suc f) = gives gs f

-- what stands at a number, and what stood first in its place
abbrev at_first : {A : Type 0} → ℕ → List A → List A
at_first zero xs = xs
at_first (suc k) [] = []
at_first (suc k) (x ∷ rest) = elim (slice_get rest k) [ None ↦ x ∷ rest | Some y ↦ y ∷ set rest k x ]

-- a function of these parts, with so many locals
abbrev assembled : (n parameters : ℕ) → Option Kind → List Kind → List Kind → Kind → Conditions → List Kind → (ℕ → List m.Code) → Conditions → m.Function
assembled n parameters result first others own requires kinds code ensures = record {
  result = result;
  parameters = parameters;
  kinds = first ++ (others ++ (own ∷ (requires.kinds ++ (kinds ++ ensures.kinds))));
  body = sequence (requires.code (suc n) ++ (m.Block (sequence (code (suc n + length requires.kinds))) ∷ ensures.code (suc n + length requires.kinds + length kinds)));
  value = n;
}

-- ---- the code of a program of the definitions
module _ (structs : List (List t.Ty)) (singles : List Kind) (texts : List (List ℕ)) (type_given : ℕ → t.Ty) (main : ℕ) (checks : Bool) where
  abbrev kind_at : t.Ty → Kind
  kind_at ty = kind_of (length structs) singles ty

  -- with so many parameters and locals
  abbrev function_with : ℕ → ℕ → t.Function → m.Function
  function_with parameters n f =
      assembled n parameters (result_kind (length structs) singles f.result) (map kind_at f.parameters) (map kind_at f.locals) (kind_at f.result)
      (conditions structs singles texts type_given main n checks f.requires)
      (step structs singles texts type_given main n checks f.body).kinds (λ d. (step structs singles texts type_given main n checks f.body).code d whole)
      (conditions structs singles texts type_given main n checks f.ensures)

  abbrev function_made : t.Function → m.Function
  function_made f = function_with (length f.parameters) (length f.parameters + length f.locals) f

abbrev program_made : List Kind → Bool → t.Program → m.Program
program_made singles checks p = record {
  head = record { texts = p.texts; layouts = layouts_of p.structs singles };
  functions = at_first p.main (map (function_made p.structs singles p.texts (gives p.functions) p.main checks) p.functions);
}

-- ---- the same of a tree that is read as it

map_map : {A B C : Type 0} (f : A → B) (g : B → C) (xs : List A) → map g (map f xs) ≡ map (λ x. g (f x)) xs
map_map f g [] = refl
map_map f g (x ∷ xs) = ap (λ l. g (f x) ∷ l) (map_map f g xs)

map_same : {A B : Type 0} (f g : A → B) → ((x : A) → f x ≡ g x) → (xs : List A) → map f xs ≡ map g xs
map_same f g e [] = refl
map_same f g e (x ∷ xs) = ap₂ ◌∷◌ (e x) (map_same f g e xs)

map_set : {A B : Type 0} (f : A → B) (xs : List A) (k : ℕ) (x : A) → map f (set xs k x) ≡ set (map f xs) k (f x)
map_set f [] k x = refl
map_set f (y ∷ xs) zero x = refl
map_set f (y ∷ xs) (suc k) x = ap (λ l. f y ∷ l) (map_set f xs k x)

get_map : {A B : Type 0} (f : A → B) (xs : List A) (k : ℕ) → slice_get (map f xs) k ≡ elim (slice_get xs k) as (λ (o : Option A). Option B) [ None ↦ None | Some y ↦ Some (f y) ]
get_map f [] k = refl
get_map f (y ∷ xs) zero = refl
get_map f (y ∷ xs) (suc k) = get_map f xs k

first_mapped : {B : Type 0} (f : Function → B) (k : ℕ) (xs : List Function) → at_first k (map f xs) ≡ map f (with_main_first k xs)
first_mapped f zero xs = refl
first_mapped f (suc k) [] = refl
first_mapped {B = B} f (suc k) (x ∷ rest) =
    ap (λ (o : Option B). elim o as (λ (o : Option B). List B) [ None ↦ f x ∷ map f rest | Some y ↦ y ∷ set (map f rest) k (f x) ]) (get_map f rest k) ∙ at (slice_get rest k)
  where
    at : (o : Option Function)
        → elim (elim o as (λ (o : Option Function). Option B) [ None ↦ None | Some y ↦ Some (f y) ]) as (λ (o : Option B). List B) [ None ↦ f x ∷ map f rest | Some y ↦ y ∷ set (map f rest) k (f x) ]
        ≡ map f (elim o as (λ (o : Option Function). List Function) [ None ↦ x ∷ rest | Some y ↦ y ∷ set rest k x ])
    at None = refl
    at (Some y) = ap (λ l. f y ∷ l) (sym (map_set f rest k x))

module _ (structs : List (List t.Ty)) (singles : List Kind) (texts : List (List ℕ)) (main : ℕ) where
  gives_is : (all fs : List Function) (k : ℕ) → gives (map (function_of texts) fs) k ≡ parts.type_given structs singles texts all main fs k
  gives_is all [] k = refl
  gives_is all (g ∷ gs) zero = refl
  gives_is all (g ∷ gs) (suc k) = gives_is all gs k

  module _ (functions : List Function) (checks : Bool) where
    kinds_are : (tys : List ValueType) → map (kind_at structs singles texts (given structs singles texts functions main 0) main checks) (map type_of tys) ≡ map (parts.kind_at structs singles texts functions main) tys
    kinds_are tys = map_map type_of (kind_of (length structs) singles) tys

    function_is : (f : Function) → function_made structs singles texts (given structs singles texts functions main 0) main checks (function_of texts f) ≡ l.function_code structs singles texts functions main checks f
    function_is f = counted ∙ parts
      where
        ps : ℕ
        ps = length f.parameters.items

        n : ℕ
        n = length f.parameters.items + length f.locals.items

        p : length (map type_of f.parameters.items) ≡ length f.parameters.items
        p = length-map f.parameters.items type_of

        q : length (map type_of f.locals.items) ≡ length f.locals.items
        q = length-map f.locals.items type_of

        counted : function_made structs singles texts (given structs singles texts functions main 0) main checks (function_of texts f)
            ≡ function_with structs singles texts (given structs singles texts functions main 0) main checks (length f.parameters.items) (length f.parameters.items + length f.locals.items) (function_of texts f)
        counted = λ i. function_with structs singles texts (given structs singles texts functions main 0) main checks (p i) (p i + q i) (function_of texts f)

        parts : function_with structs singles texts (given structs singles texts functions main 0) main checks (length f.parameters.items) (length f.parameters.items + length f.locals.items) (function_of texts f)
            ≡ l.function_code structs singles texts functions main checks f
        parts = λ i.
            assembled (length f.parameters.items + length f.locals.items) (length f.parameters.items) (result_kind (length structs) singles (type_of f.result)) (kinds_are f.parameters.items i) (kinds_are f.locals.items i) (kind_of (length structs) singles (type_of f.result))
            (conditions_are structs singles texts functions main (length f.parameters.items + length f.locals.items) checks f.preconditions.items i)
            (body_kinds_are structs singles texts functions main (length f.parameters.items + length f.locals.items) checks f.body.items i)
            (λ d. body_code_is structs singles texts functions main (length f.parameters.items + length f.locals.items) checks f.body.items d i)
            (conditions_are structs singles texts functions main (length f.parameters.items + length f.locals.items) checks f.postconditions.items i)

-- the code of a tree is that of its program
program_is : (singles : List Kind) (checks : Bool) (p : Typed) → program_made singles checks (program_of p) ≡ lowered singles checks p
program_is singles checks p = λ i. record { head = record { texts = texts_of p; layouts = layouts_of (map struct_of p.structs.items) singles }; functions = functions_are i }
  where
    structs : List (List t.Ty)
    structs = map struct_of p.structs.items

    functions_are : at_first p.main (map (function_made (map struct_of p.structs.items) singles (texts_of p) (gives (map (function_of (texts_of p)) p.functions.items)) p.main checks) (map (function_of (texts_of p)) p.functions.items))
        ≡ map (l.function_code (map struct_of p.structs.items) singles (texts_of p) p.functions.items p.main checks) (with_main_first p.main p.functions.items)
    functions_are =
        (λ i. at_first p.main (map (function_made (map struct_of p.structs.items) singles (texts_of p) (λ k. gives_is (map struct_of p.structs.items) singles (texts_of p) p.main p.functions.items p.functions.items k i) p.main checks) (map (function_of (texts_of p)) p.functions.items)))
        ∙ ap (at_first p.main) (map_map (function_of (texts_of p)) (function_made (map struct_of p.structs.items) singles (texts_of p) (given (map struct_of p.structs.items) singles (texts_of p) p.functions.items p.main 0) p.main checks) p.functions.items
        ∙ map_same _ (l.function_code (map struct_of p.structs.items) singles (texts_of p) p.functions.items p.main checks) (function_is (map struct_of p.structs.items) singles (texts_of p) p.main p.functions.items checks) p.functions.items)
        ∙ first_mapped (l.function_code (map struct_of p.structs.items) singles (texts_of p) p.functions.items p.main checks) p.main p.functions.items

code_is : (checks : Bool) (p : Typed) → program_made (singles_in (program_of p)) checks (program_of p) ≡ lowered (singles_of p) checks p
code_is checks p = ap (λ singles. program_made singles checks (program_of p)) (singles_are p) ∙ program_is (singles_of p) checks p

pub same_program_same_code : SameProgramSameCode
same_program_same_code checks a b e = sym (code_is checks a) ∙ ap (λ p. program_made (singles_in p) checks p) e ∙ code_is checks b
