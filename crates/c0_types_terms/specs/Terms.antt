-- Expressions as code holds them, where they stand, and what the rules give of them.
use Rattle.std.specs.Prelude.{◌≡◌, ◌<◌, ℕ, List, Option, Some, length, map, option_map}
use Rattle.std.specs.String.{string_bytes}
use Rattle.c0_syntax.specs.Trees.{Expression, Expressions, Text, Parenthesized, Call, AllocArray, Length, Index, Field, PointerField, Unary, Binary, Conditional, none, more}
use Rattle.c0_typed.specs.Views as v
use Rattle.c0_rules.specs.Types as t
use Rattle.c0_rules.specs.Expressions as x
use Rattle.c0_rules.specs.FaultExpressions.{is_value}
use Rattle.c0_types_tables.specs.Views.{environment_of, resolved_of}
use Rattle.c0_types_terms.specs.declared.typing.Typing.{Typing}
use Rattle.c0_types_terms.specs.declared.typing.Typing.TheVariants as d
use Rattle.c0_types_terms.specs.declared.typing.Terms.{Terms}
use Rattle.c0_types_terms.specs.declared.typing.ResolvedPlace.{ResolvedPlace}
use Rattle.c0_types_terms.specs.declared.typing.Local.{Local}

-- what an expression is
abbrev pub typing_of : List t.Name → Typing → x.Typing
typing_of texts (d.Has r e) = x.Has (resolved_of r) (v.exp_of texts e)
typing_of texts (d.Null e) = x.IsNull (v.exp_of texts e)

-- a part of the heap
abbrev pub place_of : List t.Name → ResolvedPlace → x.Place
place_of texts q = record { resolved = resolved_of q.resolved; place = v.place_of texts q.place }

-- a local in scope
abbrev pub local_of : Local → x.Local
local_of l = record { name = string_bytes l.name; number = l.number; resolved = resolved_of l.resolved }

-- what is declared where expressions stand
abbrev pub env_of : Terms → t.Environment
env_of x = environment_of x.environment.now

-- the locals in scope, and the type of `\result`
abbrev pub context_of : Terms → x.Context
context_of x = record { locals = map local_of x.locals.now; result = option_map (λ r. resolved_of r.now) x.result }

-- an expression that has a value
abbrev pub valued : Option x.Typing → Option x.Typing
valued o = t.and_so o (λ x. t.provided (is_value x) (Some x))

-- one of the texts
abbrev pub IsText : List t.Name → t.Name → Type 0
IsText texts text = (k : ℕ) × (t.number_in texts text ≡ k) × (k < length texts)

abbrev mutual
  -- each text in this expression is one of these
  pub HasTexts : List t.Name → Expression → Type 0
  HasTexts texts (Text x) = IsText texts x
  HasTexts texts (Parenthesized a) = HasTexts texts a
  HasTexts texts (Call n arguments) = HaveTexts texts arguments
  HasTexts texts (AllocArray u a) = HasTexts texts a
  HasTexts texts (Length a) = HasTexts texts a
  HasTexts texts (Index a b) = HasTexts texts a × HasTexts texts b
  HasTexts texts (Field a n) = HasTexts texts a
  HasTexts texts (PointerField a n) = HasTexts texts a
  HasTexts texts (Unary o a) = HasTexts texts a
  HasTexts texts (Binary o a b) = HasTexts texts a × HasTexts texts b
  HasTexts texts (Conditional c a b) = HasTexts texts c × HasTexts texts a × HasTexts texts b
  HasTexts texts _ = Unit {0}

  -- the same of arguments
  pub HaveTexts : List t.Name → Expressions → Type 0
  HaveTexts texts none = Unit {0}
  HaveTexts texts (more a rest) = HasTexts texts a × HaveTexts texts rest
