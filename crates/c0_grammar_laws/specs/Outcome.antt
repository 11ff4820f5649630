-- What reading answers, and the next token.
use Rattle.std.specs.Prelude.{◌≡◌, ℕ, Bool, List, [], ◌∷◌, length, drop, Result, Ok, Err, if◌then◌else◌}
use Rattle.c0_source.specs.declared.kind.Kind.{Kind}
use Rattle.c0_source.specs.declared.kind.Kind.TheVariants as k
use Rattle.c0_source.specs.Terminals.{Terminal, Word, Text, Use, Sign}
use Rattle.c0_syntax.specs.Expressions.{is_type_name}
use Rattle.c0_grammar_laws.specs.declared.read_error.ReadError.{ReadError}
use Rattle.c0_grammar_laws.specs.declared.read_error.ReadError.TheVariants.{OutOfMemory, Syntax, TooDeep, TooLarge}

-- what was read, or the fault that was met first
abbrev pub Outcome : Type 0 → Type 0
Outcome A = Result A ReadError

infixl 10 ◌>>=◌
-- reads on with what was read
abbrev pub ◌>>=◌ : {A B : Type 0} → Outcome A → (A → Outcome B) → Outcome B
(Ok x) >>= f = f x
(Err e) >>= f = Err e

-- what was read, and the tokens after it
pub record Read (A : Type 0) : Type 0 where
  pub value : A
  pub rest : List Terminal

-- none of the readings goes on at these tokens
abbrev pub refuse : {A : Type 0} → List Terminal → Outcome A
refuse ts = Err (Syntax (length ts))

-- a node at these tokens is one too deep
abbrev pub too_deep : {A : Type 0} → List Terminal → Outcome A
too_deep ts = Err (TooDeep (length ts))

-- a name at these tokens is one too many
abbrev pub too_large : {A : Type 0} → List Terminal → Outcome A
too_large ts = Err (TooLarge (length ts))

-- a sign that tokens have
abbrev pub real : Kind → Kind
real k.Name = k.EndOfText
real k.TypeName = k.EndOfText
real k.Text = k.EndOfText
real k.Use = k.EndOfText
real kind = kind

-- a name's kind, where it is told whether it is a type's
abbrev pub name_kind : Bool → Kind
name_kind b = if b then k.TypeName else k.Name

-- the kind of the next token, where these names are types
abbrev pub kind_at : List (List ℕ) → List Terminal → Kind
kind_at types [] = k.EndOfText
kind_at types (Word x ∷ ts) = name_kind (is_type_name types x)
kind_at types (Text bs ∷ ts) = k.Text
kind_at types (Use angle x ∷ ts) = k.Use
kind_at types (Sign kind ∷ ts) = real kind

-- the kind of the next token, where no name is a type
abbrev pub plain_at : List Terminal → Kind
plain_at [] = k.EndOfText
plain_at (Word x ∷ ts) = k.Name
plain_at (Text bs ∷ ts) = k.Text
plain_at (Use angle x ∷ ts) = k.Use
plain_at (Sign kind ∷ ts) = real kind

-- the letters of the name that stands next, or the bytes of the text
abbrev pub bytes_at : List Terminal → List ℕ
bytes_at [] = []
bytes_at (Word x ∷ ts) = x
bytes_at (Text bs ∷ ts) = bs
bytes_at (Use angle x ∷ ts) = x
bytes_at (Sign kind ∷ ts) = []

-- the tokens behind the next one
abbrev pub next : List Terminal → List Terminal
next ts = drop 1 ts

-- ---- a token that must stand here

-- `(`, by the kind of the next token
abbrev pub lparen_by : Kind → List Terminal → Outcome (List Terminal)
lparen_by k.LParen ts = Ok (next ts)
lparen_by _ ts = refuse ts

-- `)`, by the kind of the next token
abbrev pub rparen_by : Kind → List Terminal → Outcome (List Terminal)
rparen_by k.RParen ts = Ok (next ts)
rparen_by _ ts = refuse ts

-- `]`, by the kind of the next token
abbrev pub rbracket_by : Kind → List Terminal → Outcome (List Terminal)
rbracket_by k.RBracket ts = Ok (next ts)
rbracket_by _ ts = refuse ts

-- `;`, by the kind of the next token
abbrev pub semi_by : Kind → List Terminal → Outcome (List Terminal)
semi_by k.Semi ts = Ok (next ts)
semi_by _ ts = refuse ts

-- `,`, by the kind of the next token
abbrev pub comma_by : Kind → List Terminal → Outcome (List Terminal)
comma_by k.Comma ts = Ok (next ts)
comma_by _ ts = refuse ts

-- `:`, by the kind of the next token
abbrev pub colon_by : Kind → List Terminal → Outcome (List Terminal)
colon_by k.Colon ts = Ok (next ts)
colon_by _ ts = refuse ts

-- a name that may be a type's (plain_at) or may not (kind_at)
abbrev pub name_by : Kind → List Terminal → Outcome (Read (List ℕ))
name_by k.Name ts = Ok (record { value = bytes_at ts; rest = next ts })
name_by _ ts = refuse ts

-- `(`
abbrev pub lparen : List Terminal → Outcome (List Terminal)
lparen ts = lparen_by (plain_at ts) ts

-- `)`
abbrev pub rparen : List Terminal → Outcome (List Terminal)
rparen ts = rparen_by (plain_at ts) ts

-- `]`
abbrev pub rbracket : List Terminal → Outcome (List Terminal)
rbracket ts = rbracket_by (plain_at ts) ts

-- `;`
abbrev pub semi : List Terminal → Outcome (List Terminal)
semi ts = semi_by (plain_at ts) ts

-- `,`
abbrev pub comma : List Terminal → Outcome (List Terminal)
comma ts = comma_by (plain_at ts) ts

-- `:`
abbrev pub colon : List Terminal → Outcome (List Terminal)
colon ts = colon_by (plain_at ts) ts

-- a name, which may be a type's
abbrev pub any_name : List Terminal → Outcome (Read (List ℕ))
any_name ts = name_by (plain_at ts) ts

-- a name, which may be none of these of types
abbrev pub new_name : List (List ℕ) → List Terminal → Outcome (Read (List ℕ))
new_name types ts = name_by (kind_at types ts) ts

-- What a function returned, seen by view, is what reading gives, unless memory ran out.
abbrev pub Fails : {Y : Type 0} → ReadError → Outcome Y → Type 0
Fails OutOfMemory read_expression = Unit {0}
Fails (Syntax n) read_expression = read_expression ≡ Err (Syntax n)
Fails (TooDeep n) read_expression = read_expression ≡ Err (TooDeep n)
Fails (TooLarge n) read_expression = read_expression ≡ Err (TooLarge n)

-- A function that returned this gives what is read, seen by `view`, unless memory ran out.
abbrev pub Gives : {X Y : Type 0} → (X → Y) → Result X ReadError → Outcome Y → Type 0
Gives view (Ok x) read_expression = read_expression ≡ Ok (view x)
Gives view (Err e) read_expression = Fails e read_expression
