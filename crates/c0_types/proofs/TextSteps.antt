-- The texts that a program names are those of its contracts and bodies.
use Rattle.std.proofs.Common.{◌≡◌, ℕ, zero, suc, ◌<◌, List, [], ◌∷◌, ◌++◌, length, map, refl, sym, ap, subst, Bool, true, false, Option, Some, None, arith, get_or}
use Rattle.std.specs.Prelude.{◌||◌, bytes_eq, filter_map}
use Rattle.c0_syntax.specs.Trees as s
use Rattle.c0_syntax.specs.Views.{declaration_of}
use Rattle.c0_syntax.specs.declared.program.Declaration.{Declaration}
use Rattle.c0_rules.specs.Mentions.{Mention, OfVariable, OfFunction, OfText, argument_mentions, condition_of, declaration_mentions, mentions, part_mentions, program_mentions, simple_mentions, spec_mentions, specs_in, statement_mentions, statements_mentions, text_of, texts_of}
use Rattle.c0_rules.specs.Types.{Name, is_among, number_in}
use Rattle.c0_types_terms.specs.Terms.{HasTexts, HaveTexts, IsText}
use Rattle.c0_types_bodies.specs.Bodies.{PartHasTexts, SimpleHasTexts, SpecsHaveTexts, StatementHasTexts, StatementsHaveTexts}
use Rattle.c0_types.specs.FunctionViews.{DeclarationHasTexts, DeclarationsHaveTexts}
use Rattle.c0_types_declarations.proofs.HeaderLists.{same_self}

-- ---- one of the texts

number_within : (texts : List Name) (x : Name) → is_among x texts ≡ true → number_in texts x < length texts
number_within [] x e = absurd (cc e)
number_within (y ∷ texts) x e = at (bytes_eq x y) e (number_within texts x)
  where
    at : (b : Bool) → (b || is_among x texts) ≡ true → (is_among x texts ≡ true → number_in texts x < length texts) → (elim b [ true ↦ 0 | false ↦ suc (number_in texts x) ]) < suc (length texts)
    at true e later = omega arith
    at false e later = let h = later e in omega (arith, h)

is_text : (texts : List Name) (x : Name) → is_among x texts ≡ true → IsText texts x
is_text texts x e = (number_in texts x, refl, number_within texts x e)

-- each of these mentions that is a text is one of the texts
abbrev TextsAmong : List Name → List Mention → Type 0
TextsAmong texts [] = Unit {0}
TextsAmong texts (OfVariable n ∷ rest) = TextsAmong texts rest
TextsAmong texts (OfFunction n ∷ rest) = TextsAmong texts rest
TextsAmong texts (OfText x ∷ rest) = IsText texts x × TextsAmong texts rest

all_among : (texts : List Name) (ms : List Mention) → ((x : Name) → is_among x (filter_map text_of ms) ≡ true → IsText texts x) → TextsAmong texts ms
all_among texts [] h = tt
all_among texts (OfVariable n ∷ rest) h = all_among texts rest h
all_among texts (OfFunction n ∷ rest) h = all_among texts rest h
all_among texts (OfText x ∷ rest) h =
    (h x (ap (λ b. b || is_among x (filter_map text_of rest)) (same_self x)), all_among texts rest (λ y e. h y (behind (bytes_eq y x) (is_among y (filter_map text_of rest)) e)))
  where
    behind : (a b : Bool) → b ≡ true → (a || b) ≡ true
    behind true b e = refl
    behind false b e = e

module _ (texts : List Name) where
  among_left : (a b : List Mention) → TextsAmong texts (a ++ b) → TextsAmong texts a
  among_left [] b h = tt
  among_left (OfVariable n ∷ a) b h = among_left a b h
  among_left (OfFunction n ∷ a) b h = among_left a b h
  among_left (OfText x ∷ a) b h = (h.0, among_left a b h.1)

  among_right : (a b : List Mention) → TextsAmong texts (a ++ b) → TextsAmong texts b
  among_right [] b h = h
  among_right (OfVariable n ∷ a) b h = among_right a b h
  among_right (OfFunction n ∷ a) b h = among_right a b h
  among_right (OfText x ∷ a) b h = among_right a b h.1

  mutual
    expression_has : (e : s.Expression) → TextsAmong texts (mentions e) → HasTexts texts e
    expression_has (s.Number n) h = tt
    expression_has (s.Character n) h = tt
    expression_has (s.Truth b) h = tt
    expression_has s.Null h = tt
    expression_has (s.Text x) h = h.0
    expression_has (s.Variable n) h = tt
    expression_has (s.Parenthesized a) h = expression_has a h
    expression_has (s.Call n arguments) h = arguments_have arguments h
    expression_has (s.Alloc u) h = tt
    expression_has (s.AllocArray u a) h = expression_has a h
    expression_has s.Result h = tt
    expression_has (s.Length a) h = expression_has a h
    expression_has (s.Index a b) h = (expression_has a (among_left (mentions a) (mentions b) h), expression_has b (among_right (mentions a) (mentions b) h))
    expression_has (s.Field a n) h = expression_has a h
    expression_has (s.PointerField a n) h = expression_has a h
    expression_has (s.Unary o a) h = expression_has a h
    expression_has (s.Binary o a b) h = (expression_has a (among_left (mentions a) (mentions b) h), expression_has b (among_right (mentions a) (mentions b) h))
    expression_has (s.Conditional c a b) h =
        let front = among_left (mentions c ++ mentions a) (mentions b) h in
        (expression_has c (among_left (mentions c) (mentions a) front), expression_has a (among_right (mentions c) (mentions a) front), expression_has b (among_right (mentions c ++ mentions a) (mentions b) h))

    arguments_have : (es : s.Expressions) → TextsAmong texts (argument_mentions es) → HaveTexts texts es
    arguments_have s.none h = tt
    arguments_have (s.more a rest) h = (expression_has a (among_left (mentions a) (argument_mentions rest) h), arguments_have rest (among_right (mentions a) (argument_mentions rest) h))

  specs_have : (specs : List s.Spec) → TextsAmong texts (spec_mentions specs) → SpecsHaveTexts texts specs
  specs_have [] h = tt
  specs_have (x ∷ rest) h =
      (expression_has (condition_of x) (among_left (mentions (condition_of x)) (spec_mentions rest) h), specs_have rest (among_right (mentions (condition_of x)) (spec_mentions rest) h))

  simple_has : (a : s.SimpleStatement) → TextsAmong texts (simple_mentions a) → SimpleHasTexts texts a
  simple_has (s.Declare a n) h = tt
  simple_has (s.Initialize a n e) h = expression_has e h
  simple_has (s.Assign d e) h = (expression_has d (among_left (mentions d) (mentions e) h), expression_has e (among_right (mentions d) (mentions e) h))
  simple_has (s.Update d o e) h = (expression_has d (among_left (mentions d) (mentions e) h), expression_has e (among_right (mentions d) (mentions e) h))
  simple_has (s.Step d way) h = expression_has d h
  simple_has (s.Evaluate e) h = expression_has e h

  part_has : (o : Option s.SimpleStatement) → TextsAmong texts (part_mentions o) → PartHasTexts texts o
  part_has None h = tt
  part_has (Some a) h = simple_has a h

  mutual
    statement_has : (a : s.Statement) → TextsAmong texts (statement_mentions a) → StatementHasTexts texts a
    statement_has (s.Simple a) h = simple_has a h
    statement_has (s.Block rest) h = statements_have rest h
    statement_has (s.Annotation specs) h = specs_have specs h
    statement_has s.Return h = tt
    statement_has (s.ReturnValue e) h = expression_has e h
    statement_has (s.If c a) h = (expression_has c (among_left (mentions c) (statement_mentions a) h), statement_has a (among_right (mentions c) (statement_mentions a) h))
    statement_has (s.IfElse c a b) h =
        let front = among_left (mentions c ++ statement_mentions a) (statement_mentions b) h in
        (expression_has c (among_left (mentions c) (statement_mentions a) front), statement_has a (among_right (mentions c) (statement_mentions a) front), statement_has b (among_right (mentions c ++ statement_mentions a) (statement_mentions b) h))
    statement_has (s.While c notes a) h =
        let specs = spec_mentions (specs_in notes) in
        let front = among_left (mentions c ++ specs) (statement_mentions a) h in
        (expression_has c (among_left (mentions c) specs front), specs_have (specs_in notes) (among_right (mentions c) specs front), statement_has a (among_right (mentions c ++ specs) (statement_mentions a) h))
    statement_has (s.For first c third notes a) h =
        let test = part_mentions first ++ mentions c in
        let step = test ++ part_mentions third in
        let specs = spec_mentions (specs_in notes) in
        let before_body = among_left (step ++ specs) (statement_mentions a) h in
        let before_specs = among_left step specs before_body in
        let before_third = among_left test (part_mentions third) before_specs in (
          part_has first (among_left (part_mentions first) (mentions c) before_third),
          expression_has c (among_right (part_mentions first) (mentions c) before_third),
          part_has third (among_right test (part_mentions third) before_specs),
          specs_have (specs_in notes) (among_right step specs before_body),
          statement_has a (among_right (step ++ specs) (statement_mentions a) h),
        )
    statement_has (s.Assert e) h = expression_has e h
    statement_has (s.Error e) h = expression_has e h
    statement_has s.Break h = tt
    statement_has s.Continue h = tt

    statements_have : (b : s.Statements) → TextsAmong texts (statements_mentions b) → StatementsHaveTexts texts b
    statements_have s.nothing h = tt
    statements_have (s.also a rest) h = (statement_has a (among_left (statement_mentions a) (statements_mentions rest) h), statements_have rest (among_right (statement_mentions a) (statements_mentions rest) h))

  declaration_has : (d : s.Declaration) → TextsAmong texts (declaration_mentions d) → DeclarationHasTexts texts d
  declaration_has (s.UseLibrary b n) h = tt
  declaration_has (s.DeclareStruct n) h = tt
  declaration_has (s.DefineStruct n items) h = tt
  declaration_has (s.Typedef a n) h = tt
  declaration_has (s.DeclareFunction x) h = tt
  declaration_has (s.DefineFunction x body) h =
      (specs_have (specs_in x.annotations) (among_left (spec_mentions (specs_in x.annotations)) (statements_mentions body) h), statements_have body (among_right (spec_mentions (specs_in x.annotations)) (statements_mentions body) h))

  declarations_have : (program : s.Program) → TextsAmong texts (program_mentions program) → DeclarationsHaveTexts texts program
  declarations_have [] h = tt
  declarations_have (d ∷ rest) h =
      (declaration_has d (among_left (declaration_mentions d) (program_mentions rest) h), declarations_have rest (among_right (declaration_mentions d) (program_mentions rest) h))

-- each text of a program is one of those that it writes
pub program_has : (program : s.Program) → DeclarationsHaveTexts (texts_of program) program
program_has program = declarations_have (texts_of program) program (all_among (texts_of program) (program_mentions program) (is_text (texts_of program)))

-- the texts of one of the declarations
pub declaration_at : (texts : List Name) (xs : List Declaration) (i : ℕ) (x : Declaration) → i < length xs → x ≡ get_or xs i x → DeclarationsHaveTexts texts (map declaration_of xs) → DeclarationHasTexts texts (declaration_of x)
declaration_at texts [] i x l e h = absurd (omega arith)
declaration_at texts (y ∷ xs) zero x l e h = subst (λ z. DeclarationHasTexts texts (declaration_of z)) (sym e) h.0
declaration_at texts (y ∷ xs) (suc i) x l e h = declaration_at texts xs i x (omega arith) e h.1
