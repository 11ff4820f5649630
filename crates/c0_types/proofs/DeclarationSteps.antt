-- Declarations one after the other.
use Rattle.std.proofs.Common.{◌≡◌, inl, inr, ℕ, suc, arith, ◌+◌, ◌<◌, List, [], ◌∷◌, ◌++◌, drop, get_or, length, map, refl, sym, ap, ◌∙◌, subst, Bool, true, false, Option, Some, None}
use Rattle.std.specs.Prelude.{◌||◌, ◌==◌, bytes_eq, cond}
use Rattle.std.proofs.lemmas.Bool.{ne_eqb}
use Rattle.c0_source.specs.declared.fault.Fault.{Fault}
use Rattle.c0_syntax.specs.declared.program.Declaration.{Declaration}
use Rattle.c0_syntax.specs.Trees as tree
use Rattle.c0_syntax.specs.Trees.{DefineFunction, Header, Statements}
use Rattle.c0_syntax.specs.Views.{declaration_of}
use Rattle.c0_typed.specs.Trees as t
use Rattle.c0_rules.specs.FaultPrograms.{InDeclaration, InDeclarations}
use Rattle.c0_rules.specs.Programs.{Elaboration, begins_with_conio, is_defined, names_agree, parameter_types, signature, typed_declaration, typed_declarations, typed_function, with_function}
use Rattle.c0_rules.specs.Types.{Environment, ResolvedType, Signature, and_so, provided, result_type, same_types}
use Rattle.c0_types_tables.specs.Views.{resolved_of}
use Rattle.c0_types_tables.specs.declared.resolved.ResolvedType as r
use Rattle.c0_types.specs.DeclareViews.{in_use_by, use_of_conio}
use Rattle.c0_types_declarations.proofs.HeaderLists.{first_left, same_self}

-- ---- functions

-- what a signature says of its header
signature_says : (env : Environment) (defined : Bool) (h : Header) (f : Signature) → signature env defined h ≡ Some f → (f.name ≡ h.name) × (f.defined ≡ defined)
signature_says env defined h f = at (result_type env.typedefs h.result) (parameter_types env.typedefs h.parameters)
  where
    made : ResolvedType → List ResolvedType → Signature
    made r rs = record { name = h.name; result = r; parameters = rs; defined = defined }

    last : (g : Signature) (b : Bool) → g.name ≡ h.name → g.defined ≡ defined → provided b (Some g) ≡ Some f → (f.name ≡ h.name) × (f.defined ≡ defined)
    last g true n d e = let same : g ≡ f = cc e in (ap (λ s. s.name) (sym same) ∙ n, ap (λ s. s.defined) (sym same) ∙ d)
    last g false n d e = absurd (cc e)

    at : (r : Option ResolvedType) (rs : Option (List ResolvedType)) → and_so r (λ a. and_so rs (λ b. provided (names_agree env h (made a b)) (Some (made a b)))) ≡ Some f → (f.name ≡ h.name) × (f.defined ≡ defined)
    at None rs e = absurd (cc e)
    at (Some r) None e = absurd (cc e)
    at (Some r) (Some rs) e = last (made r rs) (names_agree env h (made r rs)) refl refl e

-- a function that is defined is in scope from then on
pub found_again : (env : Environment) (h : Header) (f : Signature) → signature env true h ≡ Some f → (with_function f env).functions h.name ≡ Some f
found_again env h f e =
    let says = signature_says env true h f e in
    let here : bytes_eq h.name f.name ≡ true = ap (bytes_eq h.name) says.0 ∙ same_self h.name in
    let defined : f.defined || is_defined (env.functions f.name) ≡ f.defined = ap (λ b. b || is_defined (env.functions f.name)) says.1 ∙ sym says.1 in
    let made : record f { defined = f.defined || is_defined (env.functions f.name) } ≡ f = λ i. record f { defined = defined i } in
    ap (λ b. cond b (Some (record f { defined = f.defined || is_defined (env.functions f.name) })) (env.functions h.name)) here ∙ ap Some made

module _ (e : Elaboration) (h : Header) (body : Statements) (f : Signature) (says : signature e.environment true h ≡ Some f) where
  abbrev after : Signature → Option Elaboration
  after f = and_so (typed_function (with_function f e.environment) f h body) (λ g. Some (record e { begun = true; environment = with_function f e.environment; functions = e.functions ++ g ∷ [] }))

  -- a body that breaks a rule
  pub define_none : typed_function (with_function f e.environment) f h body ≡ None → typed_declaration (DefineFunction h body) e ≡ None
  define_none o = ap (λ s. and_so s after) says ∙ ap (λ x. and_so x (λ g. Some (record e { begun = true; environment = with_function f e.environment; functions = e.functions ++ g ∷ [] }))) o

  -- a function with its body
  pub define_some : (g : t.Function) → typed_function (with_function f e.environment) f h body ≡ Some g
      → typed_declaration (DefineFunction h body) e ≡ Some (record e { begun = true; environment = with_function f e.environment; functions = e.functions ++ g ∷ [] })
  define_some g o = ap (λ s. and_so s after) says ∙ ap (λ x. and_so x (λ g. Some (record e { begun = true; environment = with_function f e.environment; functions = e.functions ++ g ∷ [] }))) o

-- ---- in order

-- what is left to look at
pub record Left (first now : Elaboration) (i : ℕ) (declarations : List Declaration) : Type 0 where
  pub answers : typed_declarations (map declaration_of (drop i declarations)) now ≡ typed_declarations (map declaration_of declarations) first
  pub cause : (f : Fault) → InDeclarations f now (drop i declarations) → InDeclarations f first declarations

module _ (first now : Elaboration) (i : ℕ) (declarations : List Declaration) (w : Left first now i declarations) (x : Declaration) (h : i < length declarations) (is : x ≡ get_or declarations i x) where
  left_split : typed_declarations (map declaration_of declarations) first ≡ and_so (typed_declaration (declaration_of x) now) (typed_declarations (map declaration_of (drop (i + 1) declarations)))
  left_split = sym w.answers ∙ ap (λ z. typed_declarations (map declaration_of z) now) (first_left declarations i x h is)

  -- behind a declaration that keeps the rules
  pub left_more : (next : Elaboration) → typed_declaration (declaration_of x) now ≡ Some next → Left first next (i + 1) declarations
  left_more next e = record {
    answers = sym (left_split ∙ ap (λ o. and_so o (typed_declarations (map declaration_of (drop (i + 1) declarations)))) e);
    cause = λ f g. w.cause f (subst (InDeclarations f now) (sym (first_left declarations i x h is)) (inr (next, e, g)));
  }

  -- a declaration that breaks one
  pub left_none : typed_declaration (declaration_of x) now ≡ None → typed_declarations (map declaration_of declarations) first ≡ None
  left_none e = left_split ∙ ap (λ o. and_so o (typed_declarations (map declaration_of (drop (i + 1) declarations)))) e

  pub left_told : (f : Fault) → InDeclaration f now x.kind x.span → InDeclarations f first declarations
  left_told f g = w.cause f (subst (InDeclarations f now) (sym (first_left declarations i x h is)) (inl g))

-- ---- what is defined

-- the first declaration decides, or the others
first_use : (d : tree.Declaration) (others : List tree.Declaration) → begins_with_conio (d ∷ others) ≡ in_use_by (use_of_conio d) (begins_with_conio others)
first_use (tree.UseLibrary in_brackets n) others = refl
first_use _ others = refl

-- the same of what is left
pub use_at : (i : ℕ) (declarations : List Declaration) (x : Declaration) → i < length declarations → x ≡ get_or declarations i x
    → begins_with_conio (map declaration_of (drop i declarations)) ≡ in_use_by (use_of_conio (declaration_of x)) (begins_with_conio (map declaration_of (drop (i + 1) declarations)))
use_at i declarations x h is =
    ap (λ z. begins_with_conio (map declaration_of z)) (first_left declarations i x h is) ∙ first_use (declaration_of x) (map declaration_of (drop (i + 1) declarations))

-- a function without parameters
pub none_taken : (types : List r.ResolvedType) → (length types == 0) ≡ same_types (map resolved_of types) []
none_taken [] = refl
none_taken (x ∷ types) = ne_eqb (suc (length types)) 0 (λ e. absurd (let z : ⊥ = omega (arith, e) in z))
