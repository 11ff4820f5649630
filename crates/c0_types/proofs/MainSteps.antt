-- Where `main` is defined, and what is told of it.
use Rattle.std.proofs.Common.{◌≡◌, inl, inr, ℕ, ◌+◌, ◌<◌, List, [], ◌∷◌, drop, get_or, length, map, refl, sym, ap, ◌∙◌, subst, Bool, true, false}
use Rattle.std.specs.Prelude.{◌||◌, bytes_eq}
use Rattle.c0_source.specs.declared.fault.Fault.{Fault}
use Rattle.c0_syntax.specs.Trees as s
use Rattle.c0_syntax.specs.Views.{declaration_of}
use Rattle.c0_syntax.specs.declared.program.Declaration.{Declaration}
use Rattle.c0_rules.specs.FaultPrograms.{MainAmong, MainDefined}
use Rattle.c0_rules.specs.Programs.{function_names_of, main_name}
use Rattle.c0_rules.specs.Types.{is_among}
use Rattle.c0_types_declarations.proofs.HeaderLists.{first_left}

-- whether one of these declarations defines `main`
abbrev pub defines_main : List s.Declaration → Bool
defines_main ds = is_among main_name (function_names_of ds)

split_first : (d : s.Declaration) (ds : List s.Declaration) → defines_main (d ∷ ds) ≡ (defines_main (d ∷ []) || defines_main ds)
split_first (s.DefineFunction h body) ds = at (bytes_eq main_name h.name)
  where
    at : (b : Bool) → (b || defines_main ds) ≡ ((b || false) || defines_main ds)
    at true = refl
    at false = refl
split_first (s.UseLibrary b n) ds = refl
split_first (s.DeclareStruct n) ds = refl
split_first (s.DefineStruct n items) ds = refl
split_first (s.Typedef a n) ds = refl
split_first (s.DeclareFunction h) ds = refl

-- what is left to look at
pub record MainLeft (i : ℕ) (declarations : List Declaration) : Type 0 where
  pub named : defines_main (map declaration_of declarations) ≡ defines_main (map declaration_of (drop i declarations))
  pub among : (f : Fault) → MainAmong f (drop i declarations) → MainAmong f declarations

module _ (i : ℕ) (declarations : List Declaration) (w : MainLeft i declarations) (x : Declaration) (h : i < length declarations) (is : x ≡ get_or declarations i x) where
  left_is : drop i declarations ≡ x ∷ drop (i + 1) declarations
  left_is = first_left declarations i x h is

  now_named : defines_main (map declaration_of declarations) ≡ (defines_main (declaration_of x ∷ []) || defines_main (map declaration_of (drop (i + 1) declarations)))
  now_named = w.named ∙ ap (λ z. defines_main (map declaration_of z)) left_is ∙ split_first (declaration_of x) (map declaration_of (drop (i + 1) declarations))

  pub main_later : defines_main (declaration_of x ∷ []) ≡ false → MainLeft (i + 1) declarations
  main_later e = record {
    named = now_named ∙ ap (λ b. b || defines_main (map declaration_of (drop (i + 1) declarations))) e;
    among = λ f g. w.among f (subst (MainAmong f) (sym left_is) (inr g));
  }

  pub main_here : defines_main (declaration_of x ∷ []) ≡ true → defines_main (map declaration_of declarations) ≡ true
  main_here e = now_named ∙ ap (λ b. b || defines_main (map declaration_of (drop (i + 1) declarations))) e

  pub main_there : (f : Fault) → MainDefined f x.kind → MainAmong f declarations
  main_there f g = w.among f (subst (MainAmong f) (sym left_is) (inl g))
