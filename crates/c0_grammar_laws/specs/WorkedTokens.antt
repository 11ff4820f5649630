-- Tokens on the last level that there is, and where reading stops in them.
use Rattle.std.specs.Prelude.{◌≡◌, ℕ, zero, suc, false, List, [], ◌∷◌, Err}
use Rattle.c0_source.specs.declared.kind.Base.TheVariants as b
use Rattle.c0_source.specs.declared.kind.Kind.TheVariants as k
use Rattle.c0_source.specs.Terminals.{Terminal, Word, Sign}
use Rattle.c0_grammar_laws.specs.declared.read_error.ReadError.TheVariants.{Syntax, TooDeep}
use Rattle.c0_grammar_laws.specs.ReadPrograms.{read_program}

-- so many times `{`, and these tokens
abbrev pub braces : ℕ → List Terminal → List Terminal
braces zero ts = ts
braces (suc n) ts = Sign k.LBrace ∷ braces n ts

-- `int f() {`, so many times `{`, and these tokens
abbrev pub nested : ℕ → List Terminal → List Terminal
nested n ts = Sign (k.Base b.Int) ∷ Word (102 ∷ []) ∷ Sign k.LParen ∷ Sign k.RParen ∷ Sign k.LBrace ∷ braces n ts

-- `if` on the last level, where no condition has room, and `;`: the fault is one of syntax, at the `;`
abbrev pub IfOnLastLevel : Type 0
IfOnLastLevel = read_program false (nested 198 (Sign k.If ∷ Sign k.Semi ∷ [])) ≡ Err (Syntax 1)

-- `if (` there, and `;`: the fault is one of depth, at the `;`, where a condition has to begin
abbrev pub ConditionOnLastLevel : Type 0
ConditionOnLastLevel = read_program false (nested 198 (Sign k.If ∷ Sign k.LParen ∷ Sign k.Semi ∷ [])) ≡ Err (TooDeep 1)

-- a statement below the last level: the fault is one of depth, at its first token
abbrev pub StatementBelow : Type 0
StatementBelow = read_program false (nested 199 (Sign k.Return ∷ Sign k.Semi ∷ [])) ≡ Err (TooDeep 2)
