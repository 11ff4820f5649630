-- What the static rules give of a function is well typed.
use Rattle.std.proofs.Common.{◌≡◌, ℕ, suc, ◌+◌, inl, inr, List, [], ◌∷◌, ◌++◌, length, refl, sym, ap, ◌∙◌, subst, arith, append_assoc, append-nil, Bool, true, false, Option, Some, None}
use Rattle.std.specs.Prelude.{◌&&◌, slice_get, map, not, is_some}
use Rattle.std.proofs.lemmas.List.{length-append}
use Rattle.c0_source.specs.declared.kind.Base.TheVariants as b
use Rattle.c0_syntax.specs.Trees.{ValueType, Basic, StructType, NamedType, Pointer, Array, Spec, Statements, TypedName, Header}
use Rattle.c0_typed.specs.Trees as t
use Rattle.c0_typed.specs.Typing as ty
use Rattle.c0_rules.specs.Types.{Name, are_distinct, ResolvedType, VoidType, IntType, BoolType, CharType, StringType, StructNamed, PointerTo, ArrayOf, Table, small_type, result_type, Signature, Environment, numbered, output_named}
use Rattle.c0_rules.specs.Mentions.{Mention, spec_mentions, specs_in, statements_mentions}
use Rattle.c0_rules.specs.Expressions.{Local, num}
use Rattle.c0_rules.specs.Statements.{Precondition, Postcondition, Scope, conditions, typed_statements}
use Rattle.c0_rules.specs.Programs.{parameter_types, names_of, parameters_from, agrees, are_locals, names_agree, signature, result_of, are_contracts, keeps_parameters, paths_agree, Parts, typed_parts, function_from, typed_function}
use Rattle.c0_rules.proofs.Rules.{both_true, AllSome, all_so, all_go, all_if, some_has}
use Rattle.c0_rules.proofs.Expressions.{small_is, Knows, Sees, AreNamed, named_left, named_right}
use Rattle.c0_rules.proofs.Statements.{small_of, AllSmall, slice_behind, map_long, Scoped, Within, Good, conditions_ok, local_found, statements_ok}

all_of : {A : Type 0} (P : A → Type 0) (o : Option A) → ((a : A) → o ≡ Some a → P a) → AllSome P o
all_of P None h = tt
all_of P (Some a) h = h a refl

smalls_are : (names : List Name) (rs : List ResolvedType) → AllSmall rs → ty.AreSmall (map (numbered names) rs)
smalls_are names [] h = tt
smalls_are names (r ∷ rs) h = (small_is names r h.0, smalls_are names rs h.1)

parameters_small : (typedefs : Table ResolvedType) (xs : List TypedName) → AllSome AllSmall (parameter_types typedefs xs)
parameters_small typedefs [] = tt
parameters_small typedefs (x ∷ xs) =
    all_go AllSmall (small_type typedefs x.value_type) _ (λ r e. all_so AllSmall AllSmall (parameter_types typedefs xs) _ (parameters_small typedefs xs) (λ rs h. (small_of typedefs x.value_type r e, h)))

result_ok : (names : List Name) (typedefs : Table ResolvedType) (a : ValueType) → AllSome (λ r. ty.IsResult (numbered names r)) (result_type typedefs a)
result_ok names typedefs (Basic b.Void) = inl refl
result_ok names typedefs (Basic b.Int) = inr tt
result_ok names typedefs (Basic b.Bool) = inr tt
result_ok names typedefs (Basic b.Char) = inr tt
result_ok names typedefs (Basic b.String) = inr tt
result_ok names typedefs (StructType n) = tt
result_ok names typedefs (NamedType n) = all_of (λ r. ty.IsResult (numbered names r)) (small_type typedefs (NamedType n)) (λ r e. inr (small_is names r (small_of typedefs (NamedType n) r e)))
result_ok names typedefs (Pointer a) = all_of (λ r. ty.IsResult (numbered names r)) (small_type typedefs (Pointer a)) (λ r e. inr (small_is names r (small_of typedefs (Pointer a) r e)))
result_ok names typedefs (Array a) = all_of (λ r. ty.IsResult (numbered names r)) (small_type typedefs (Array a)) (λ r e. inr (small_is names r (small_of typedefs (Array a) r e)))

-- what is known of a header's signature
pub record IsSignature (env : Environment) (defined : Bool) (h : Header) (f : Signature) : Type 0 where
  pub name : f.name ≡ h.name
  pub defined_so : f.defined ≡ defined
  pub result : ty.IsResult (num env f.result)
  pub small : AllSmall f.parameters
  pub agreed : agrees f (env.functions h.name) ≡ true

pub signature_ok : (env : Environment) (defined : Bool) (h : Header) → AllSome (IsSignature env defined h) (signature env defined h)
signature_ok env defined h =
    all_so (λ r. ty.IsResult (num env r)) (IsSignature env defined h) (result_type env.typedefs h.result) _ (result_ok env.struct_names env.typedefs h.result) (λ r hr.
    all_so AllSmall (IsSignature env defined h) (parameter_types env.typedefs h.parameters) _ (parameters_small env.typedefs h.parameters) (λ rs hs.
    let f : Signature = record { name = h.name; result = r; parameters = rs; defined = defined } in
    all_if (IsSignature env defined h) (names_agree env h f) (Some f) (λ e.
    record {
      name = refl;
      defined_so = refl;
      result = hr;
      small = hs;
      agreed = (
          both_true (are_distinct (names_of h.parameters) && not (is_some (output_named env.conio h.name))) (agrees f (env.functions h.name))
          (both_true (are_distinct (names_of h.parameters) && not (is_some (output_named env.conio h.name)) && agrees f (env.functions h.name)) (are_locals env defined h.name (names_of h.parameters)) e).0
          ).1;
    })))

-- the function of a definition
pub record IsBody (env : Environment) (f : Signature) (names : List Mention) (g : t.Function) : Type 0 where
  pub result : g.result ≡ num env f.result
  pub parameters : g.parameters ≡ map (num env) f.parameters
  pub fits : (p : t.Program) → Knows p env → AreNamed p env names → ty.FitsFunction p g

module _ (p : t.Program) (env : Environment) (knows : Knows p env) (types : List t.Ty) where
  params_scoped : (k : ℕ) (xs : List TypedName) (rs : List ResolvedType) (front back : List t.Ty) → types ≡ front ++ (map (num env) rs ++ back) → length front ≡ k
      → Scoped p env knows types (parameters_from k xs rs)
  params_scoped k [] rs front back e l = tt
  params_scoped k (x ∷ xs) [] front back e l = tt
  params_scoped k (x ∷ xs) (r ∷ rs) front back e l =
      let here : slice_get types k ≡ Some (num env r) = ap (λ j. slice_get types j) (sym l) ∙ ap (λ z. slice_get z (length front)) e ∙ slice_behind front (num env r) (map (num env) rs ++ back) in (
        here,
        params_scoped (suc k) xs rs (front ++ (num env r ∷ [])) back
            (e ∙ sym (append_assoc front (num env r ∷ []) (map (num env) rs ++ back))) (length-append front (num env r ∷ []) ∙ (let z : length front + 1 ≡ suc k = omega (arith, l) in z)),
      )

result_of_is : (r a : ResolvedType) → result_of r ≡ Some a → r ≡ a
result_of_is VoidType a e = absurd (cc e)
result_of_is IntType a e = cc e
result_of_is BoolType a e = cc e
result_of_is CharType a e = cc e
result_of_is StringType a e = cc e
result_of_is (StructNamed n) a e = cc e
result_of_is (PointerTo b) a e = cc e
result_of_is (ArrayOf b) a e = cc e

-- the scope at a body's beginning
abbrev opening : Signature → Header → Scope
opening f h = record { locals = parameters_from 1 h.parameters f.parameters; parameters = length f.parameters; declared = []; result = f.result; in_loop = false }

parts_fit : (env : Environment) (f : Signature) (h : Header) (body : Statements) → ty.IsResult (num env f.result) → AllSmall f.parameters
    → (p : t.Program) (knows : Knows p env) → AreNamed p env (spec_mentions (specs_in h.annotations) ++ statements_mentions body) → (x : Parts)
    → conditions env Precondition (record { locals = parameters_from 1 h.parameters f.parameters; result = None }) (specs_in h.annotations) ≡ Some x.requires
    → conditions env Postcondition (record { locals = parameters_from 1 h.parameters f.parameters; result = result_of f.result }) (specs_in h.annotations) ≡ Some x.ensures
    → typed_statements env body (opening f h) ≡ Some x.checked → ty.FitsFunction p (function_from env f x)
parts_fit env f h body hr hs p knows m x e2 e3 e4 =
    let specs = specs_in h.annotations in
    let locals = parameters_from 1 h.parameters f.parameters in
    let types = num env f.result ∷ map (num env) f.parameters ++ map (num env) x.checked.scope.declared in
    let in_contract = named_left p env (spec_mentions specs) (statements_mentions body) m in
    let in_body = named_right p env (spec_mentions specs) (statements_mentions body) m in
    let sc : Scoped p env knows types locals = params_scoped p env knows types 1 h.parameters f.parameters (num env f.result ∷ []) (map (num env) x.checked.scope.declared) refl refl in
    let good : Good p env knows types (opening f h) x.checked = some_has (Good p env knows types (opening f h)) (typed_statements env body (opening f h)) x.checked (statements_ok p env knows types body (opening f h) in_body) e4 in
    let inside : Within p env knows types x.checked.scope = (
      map (num env) f.parameters,
      [],
      ap (λ r. num env r ∷ map (num env) f.parameters ++ map (num env) x.checked.scope.declared) (sym good.0.3) ∙ sym (append-nil _),
      map_long (num env) f.parameters ∙ sym good.0.2,
    ) in
    let sees0 : Sees env types (record { locals = locals; result = None }) = record { locals = λ n l q. local_found p env knows types locals n l sc q; result = λ a q. absurd (cc q) } in
    let sees1 : Sees env types (record { locals = locals; result = result_of f.result }) =
    record { locals = λ n l q. local_found p env knows types locals n l sc q; result = λ a q. ap (λ r. Some (num env r)) (result_of_is f.result a q) } in (
      hr,
      smalls_are env.struct_names f.parameters hs,
      smalls_are env.struct_names x.checked.scope.declared (subst AllSmall (sym good.0.1) good.0.4),
      some_has (ty.AllBool p types) _ x.requires (conditions_ok p env knows types Precondition _ sees0 specs in_contract) e2,
      some_has (ty.AllBool p types) _ x.ensures (conditions_ok p env knows types Postcondition _ sees1 specs in_contract) e3,
      (good.1 inside sc).0,
    )

pub function_ok : (env : Environment) (f : Signature) (h : Header) (body : Statements) → ty.IsResult (num env f.result) → AllSmall f.parameters
    → AllSome (IsBody env f (spec_mentions (specs_in h.annotations) ++ statements_mentions body)) (typed_function env f h body)
function_ok env f h body hr hs =
    all_so FitsAs Body (typed_parts env f h body) _ parts_ok (λ x g. all_if Body (paths_agree f body) _ (λ e. record { result = refl; parameters = refl; fits = g }))
  where
    specs : List Spec
    specs = specs_in h.annotations

    locals : List Local
    locals = parameters_from 1 h.parameters f.parameters

    Body : t.Function → Type 0
    Body = IsBody env f (spec_mentions (specs_in h.annotations) ++ statements_mentions body)

    FitsAs : Parts → Type 0
    FitsAs x = (p : t.Program) → Knows p env → AreNamed p env (spec_mentions (specs_in h.annotations) ++ statements_mentions body) → ty.FitsFunction p (function_from env f x)

    parts_ok : AllSome FitsAs (typed_parts env f h body)
    parts_ok =
        all_if FitsAs (keeps_parameters h body) _ (λ d.
        all_if FitsAs (are_contracts specs) _ (λ e.
        all_go FitsAs (conditions env Precondition (record { locals = locals; result = None }) specs) _ (λ before e2.
        all_go FitsAs (conditions env Postcondition (record { locals = locals; result = result_of f.result }) specs) _ (λ behind e3.
        all_go FitsAs (typed_statements env body (opening f h)) _ (λ x e4.
        λ p knows m. parts_fit env f h body hr hs p knows m (record { requires = before; ensures = behind; checked = x }) e2 e3 e4)))))
