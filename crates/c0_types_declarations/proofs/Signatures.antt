-- What a header declares, from the looks at its parts.
use Rattle.std.proofs.Common.{◌≡◌, List, refl, ap, ◌∙◌, Bool, true, false, Option, None, Some}
use Rattle.std.specs.Prelude.{◌&&◌, ◌||◌, not, is_some}
use Rattle.c0_syntax.specs.Trees.{Header}
use Rattle.c0_rules.specs.Programs.{agrees, are_locals, is_defined, names_agree, names_of, parameter_types, signature}
use Rattle.c0_rules.specs.Types.{Environment, ResolvedType, Signature, and_so, are_distinct, output_named, provided, result_type}

all_hold : (d o a l t : Bool) → (d && l) ≡ true → not (o || t) ≡ true → a ≡ true → (d && not o && a && l) ≡ true
all_hold false o a l t e h q = absurd (cc e)
all_hold true true a l t e h q = absurd (cc h)
all_hold true false a l t e h q = ap (λ z. z && l) q ∙ e

none_hold : (d o a l : Bool) → (d && l) ≡ false → (d && not o && a && l) ≡ false
none_hold false o a l e = refl
none_hold true true a l e = refl
none_hold true false false l e = refl
none_hold true false true l e = e

module _ (env : Environment) (defined : Bool) (h : Header) where
  abbrev declared : ResolvedType → List ResolvedType → Signature
  declared s ss = record { name = h.name; result = s; parameters = ss; defined = defined }

  abbrev by_types : Option ResolvedType → Option (List ResolvedType) → Option Signature
  by_types o p = and_so o (λ s. and_so p (λ ss. provided (names_agree env h (declared s ss)) (Some (declared s ss))))

  -- a header whose names may stand where they do, and whose types those before it have
  pub declares : (r : ResolvedType) (rs : List ResolvedType) → result_type env.typedefs h.result ≡ Some r → parameter_types env.typedefs h.parameters ≡ Some rs
      → (are_distinct (names_of h.parameters) && are_locals env defined h.name (names_of h.parameters)) ≡ true
      → not (is_some (output_named env.conio h.name) || (defined && is_defined (env.functions h.name))) ≡ true
      → agrees (declared r rs) (env.functions h.name) ≡ true
      → signature env defined h ≡ Some (declared r rs)
  declares r rs result parameters p n a =
      ap (λ z. by_types z (parameter_types env.typedefs h.parameters)) result ∙ ap (by_types (Some r)) parameters
      ∙ ap (λ z. provided z (Some (declared r rs))) (all_hold (are_distinct (names_of h.parameters)) (is_some (output_named env.conio h.name)) (agrees (declared r rs) (env.functions h.name)) (are_locals env defined h.name (names_of h.parameters)) (defined && is_defined (env.functions h.name)) p n a)

  refused : (o : Option ResolvedType) (p : Option (List ResolvedType)) → ((s : ResolvedType) (ss : List ResolvedType) → names_agree env h (declared s ss) ≡ false) → by_types o p ≡ None
  refused None p f = refl
  refused (Some s) None f = refl
  refused (Some s) (Some ss) f = ap (λ z. provided z (Some (declared s ss))) (f s ss)

  -- a header of which some name may not stand where it does
  pub refuses : (are_distinct (names_of h.parameters) && are_locals env defined h.name (names_of h.parameters)) ≡ false → signature env defined h ≡ None
  refuses e =
      refused (result_type env.typedefs h.result) (parameter_types env.typedefs h.parameters)
      (λ s ss. none_hold (are_distinct (names_of h.parameters)) (is_some (output_named env.conio h.name)) (agrees (declared s ss) (env.functions h.name)) (are_locals env defined h.name (names_of h.parameters)) e)
