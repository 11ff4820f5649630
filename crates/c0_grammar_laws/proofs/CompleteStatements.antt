-- What reads as an annotation or a statement is read as it.
use Rattle.std.proofs.Common.{◌≡◌, ℕ, zero, suc, ◌+◌, ◌<◌, ◌≤◌, Bool, false, List, [], ◌∷◌, length, Option, Some, None, Ok, refl, ap, ◌∙◌, arith}
use Rattle.c0_source.specs.declared.kind.Kind.{Kind}
use Rattle.c0_source.specs.declared.kind.Kind.TheVariants as k
use Rattle.c0_syntax.specs.declared.operator.Change.{Change}
use Rattle.c0_syntax.specs.declared.operator.Change.TheVariants as c
use Rattle.c0_source.specs.Terminals.{Terminal, Word, Sign}
use Rattle.c0_syntax.specs.Trees.{ValueType, Expression, Spec, Contract, Asserts, SimpleStatement, Declare, Initialize, Assign, Update, Step, Evaluate, Statement, Simple, Block, Annotation, Return, ReturnValue, If, IfElse, While, For, Assert, Error, Break, Continue, Statements, nothing, also}
use Rattle.c0_syntax.specs.Expressions.{emit_type, emit_expression, FormedExpression, height_expression, begins_star}
use Rattle.c0_syntax.specs.Statements.{emit_spec, emit_specs, emit_annotations, FormedSpec, FormedSpecs, FormedAnnotations, height_spec, height_specs, height_annotations, change_sign, emit_simple, FormedSimple, height_simple, locals_simple, emit_option, FormedOption, height_option, locals_option, emit_statement, emit_statements, TakesNoElse, IsLoopBody, FormedStatement, FormedStatements, height_statement, height_statements, locals_statement, locals_statements}
use Rattle.c0_grammar_laws.specs.Outcome.{Outcome, ◌>>=◌, Read, kind_at, plain_at}
use Rattle.c0_grammar_laws.specs.ReadExpressions.{ReadExpression, read_expression}
use Rattle.c0_grammar_laws.specs.ReadStatements.{Counted, read_spec, specs_by, read_specs, annotations_by, read_annotations, value_by, local_declaration, behind_by, simple_by, read_simple, given, first_by, third_by, read_condition, call_of, with_semi, return_by, else_by, statements_by, read_statements, if_of, Body, loop_body, while_of, for_end, for_test, for_of, statement_by, read_statement}
use Rattle.c0_grammar_laws.proofs.Types.{complete_type}
use Rattle.c0_grammar_laws.proofs.Turns.{Names, pull_by, pull, found, BeginsExpression, begins_expression}
use Rattle.c0_grammar_laws.proofs.Complete.{complete}
use Rattle.c0_grammar_laws.proofs.Begins.{begins_at, BeginsType, begins_type, BeginsSimple, begins_simple, BeginsStatement, begins_statement, BeginsBody, begins_body, not_else, longer_specs, longer_annotations, count_statements, longer_statements}

abbrev pub got : {A : Type 0} → A → List Terminal → Read A
got x rest = record { value = x; rest = rest }

abbrev pub had : {A : Type 0} → A → ℕ → List Terminal → Counted A
had x room rest = record { value = x; room = room; rest = rest }

bare : (all room : ℕ) → all ≡ 0 + room → all ≡ room
bare all room e = omega arith

-- ---- annotations

pub complete_spec : (types : Names) (s : Spec) (d : ℕ) (rest : List Terminal) → FormedSpec types s → height_spec s ≤ d → read_spec types d (emit_spec s rest) ≡ Ok (got s rest)
unfolding read_spec
complete_spec types (Contract c e) zero rest w h = absurd (omega arith)
complete_spec types (Contract c e) (suc d) rest w h = let r = complete types e d 1 (Sign k.Semi ∷ rest) w (omega arith) (omega arith) (omega arith) in rw r refl
complete_spec types (Asserts e) zero rest w h = absurd (omega arith)
complete_spec types (Asserts e) (suc d) rest w h = let r = complete types e d 1 (Sign k.Semi ∷ rest) w (omega arith) (omega arith) (omega arith) in rw r refl

specs_go : (types : Names) (d : ℕ) (go_on : List Terminal → Outcome (Read (List Spec))) (s : Spec) (rest ts : List Terminal)
    → specs_by types d go_on (plain_at (emit_spec s rest)) ts ≡ (read_spec types d ts >>= λ s. go_on s.rest >>= λ ss. Ok (record { value = s.value ∷ ss.value; rest = ss.rest }))
specs_go types d go_on (Contract c e) rest ts = refl
specs_go types d go_on (Asserts e) rest ts = refl

pub complete_specs : (types : Names) (ss : List Spec) (d n : ℕ) (rest : List Terminal) → FormedSpecs types ss → height_specs ss ≤ d → length ss < n → read_specs types d n (emit_specs ss rest) ≡ Ok (got ss rest)
unfolding read_specs
complete_specs types [] d zero rest w h lt = absurd (omega arith)
complete_specs types [] d (suc n) rest w h lt = refl
complete_specs types (s ∷ ss) d zero rest w h lt = absurd (omega arith)
complete_specs types (s ∷ ss) d (suc n) rest w h lt =
    let r = complete_spec types s d (emit_specs ss rest) w.0 (omega arith) in
    let q = complete_specs types ss d n rest w.1 (omega arith) (omega arith) in
    specs_go types d (read_specs types d n) s (emit_specs ss rest) (emit_spec s (emit_specs ss rest)) ∙ rw (r, q) refl

annotations_stop : (types : Names) (d : ℕ) (go_on : List Terminal → Outcome (Read (List (List Spec)))) (kind : Kind) (ts : List Terminal) → BeginsBody kind → annotations_by types d go_on kind ts ≡ Ok (got [] ts)
annotations_stop types d go_on k.Begin ts b = absurd b
annotations_stop types d go_on _ ts b = refl

pub complete_annotations : (types : Names) (ns : List (List Spec)) (d n : ℕ) (rest : List Terminal) → FormedAnnotations types ns → height_annotations ns ≤ d → length ns < n → BeginsBody (plain_at rest) → read_annotations types d n (emit_annotations ns rest) ≡ Ok (got ns rest)
unfolding read_annotations
complete_annotations types [] d zero rest w h lt b = absurd (omega arith)
complete_annotations types [] d (suc n) rest w h lt b = annotations_stop types d (read_annotations types d n) (plain_at rest) rest b
complete_annotations types (a ∷ ns) d zero rest w h lt b = absurd (omega arith)
complete_annotations types (a ∷ ns) d (suc n) rest w h lt b =
    let r = complete_specs types a d (suc (length (emit_specs a (emit_annotations ns rest)))) (emit_annotations ns rest) w.0 (omega arith) (omega (arith, longer_specs a (emit_annotations ns rest))) in
    let q = complete_annotations types ns d n rest w.1 (omega arith) (omega arith) b in
    rw (r, q) refl

-- ---- simple statements

-- what follows a simple statement
abbrev pub EndsSimple : Kind → Type 0
EndsSimple k.Semi = Unit {0}
EndsSimple k.RParen = Unit {0}
EndsSimple _ = ⊥

ends_pull : (kind : Kind) → EndsSimple kind → pull_by kind < 1
ends_pull k.Semi e = omega arith
ends_pull k.RParen e = omega arith
ends_pull _ e = absurd e

ends_value : (types : Names) (d room : ℕ) (kind : Kind) (t : ValueType) (x : Read (List ℕ)) → EndsSimple kind → value_by types d room kind t x ≡ Ok (had (Declare t x.value) room x.rest)
ends_value types d room k.Semi t x e = refl
ends_value types d room k.RParen t x e = refl
ends_value types d room _ t x e = absurd e

ends_do : (types : Names) (d room : ℕ) (kind : Kind) (a : ReadExpression) → EndsSimple kind → behind_by types d room kind a ≡ Ok (had (Evaluate a.tree) room a.rest)
ends_do types d room k.Semi a e = refl
ends_do types d room k.RParen a e = refl
ends_do types d room _ a e = absurd e

simple_type : (types : Names) (d room : ℕ) (kind : Kind) (ts : List Terminal) → BeginsType kind → simple_by types d room kind ts ≡ local_declaration types d room ts
simple_type types d room (k.Base b) ts e = refl
simple_type types d room k.Struct ts e = refl
simple_type types d room k.TypeName ts e = refl
simple_type types d room _ ts e = absurd e

simple_expression : (types : Names) (d room : ℕ) (kind : Kind) (ts : List Terminal) → BeginsExpression kind → simple_by types d room kind ts ≡ (read_expression types d 1 ts >>= λ e. behind_by types d room (plain_at e.rest) e)
simple_expression types d room (k.Base b) ts e = absurd e
simple_expression types d room k.Struct ts e = absurd e
simple_expression types d room k.TypeName ts e = absurd e
simple_expression types d room _ ts e = refl

abbrev Reached : Names → ℕ → ℕ → ℕ → SimpleStatement → List Terminal → Type 0
Reached types d all room s rest = simple_by types d all (kind_at types (emit_simple s rest)) (emit_simple s rest) ≡ Ok (had s room rest)

step_is : (types : Names) (d room : ℕ) (a : Expression) (way : Change) (rest : List Terminal) → begins_star a ≡ false → behind_by types d room (change_sign way) (found a (Sign (change_sign way) ∷ rest)) ≡ Ok (had (Step a way) room rest)
step_is types d room a c.Increment rest e = rw e refl
step_is types d room a c.Decrement rest e = rw e refl

step_pull : (way : Change) (rest : List Terminal) → pull (Sign (change_sign way) ∷ rest) < 1
step_pull c.Increment rest = omega arith
step_pull c.Decrement rest = omega arith

step_at : (way : Change) (rest : List Terminal) → plain_at (Sign (change_sign way) ∷ rest) ≡ change_sign way
step_at c.Increment rest = refl
step_at c.Decrement rest = refl

reached : (types : Names) (s : SimpleStatement) (d all room : ℕ) (rest : List Terminal) → FormedSimple types s → height_simple s ≤ suc d → all ≡ locals_simple s + room → EndsSimple (plain_at rest) → Reached types d all room s rest
unfolding local_declaration
reached types (Declare t x) d zero room rest w h e b = absurd (omega arith)
reached types (Declare t x) d (suc all) room rest w h e b =
    let same : all ≡ room = omega arith in
    let r = complete_type types t d (Word x ∷ rest) w.0 (omega arith) tt in
    simple_type types d (suc all) (kind_at types (emit_type t (Word x ∷ rest))) (emit_type t (Word x ∷ rest)) (begins_type types t (Word x ∷ rest) w.0)
    ∙ (rw (r, w.1) (ends_value types d all (plain_at rest) t (got x rest) b) ∙ ap (λ (n : ℕ). Ok (had (Declare t x) n rest)) same)
reached types (Initialize t x v) d zero room rest w h e b = absurd (omega arith)
reached types (Initialize t x v) d (suc all) room rest w h e b =
    let same : all ≡ room = omega arith in
    let us = Word x ∷ Sign k.Assign ∷ emit_expression v rest in
    let r = complete_type types t d us w.0 (omega arith) tt in
    let q = complete types v d 1 rest w.2 (omega arith) (ends_pull (plain_at rest) b) (omega arith) in
    simple_type types d (suc all) (kind_at types (emit_type t us)) (emit_type t us) (begins_type types t us w.0)
    ∙ (rw (r, w.1, q) refl ∙ ap (λ (n : ℕ). Ok (had (Initialize t x v) n rest)) same)
reached types (Assign a v) d all room rest w h e b =
    let r = complete types a d 1 (Sign k.Assign ∷ emit_expression v rest) w.0 (omega arith) (omega arith) (omega arith) in
    let q = complete types v d 1 rest w.1 (omega arith) (ends_pull (plain_at rest) b) (omega arith) in
    let us = emit_expression a (Sign k.Assign ∷ emit_expression v rest) in
    simple_expression types d all (kind_at types us) us (begins_at types 1 a (Sign k.Assign ∷ emit_expression v rest) w.0) ∙ (rw (r, q) refl ∙ ap (λ (n : ℕ). Ok (had (Assign a v) n rest)) (bare all room e))
reached types (Update a op v) d all room rest w h e b =
    let r = complete types a d 1 (Sign (k.Update op) ∷ emit_expression v rest) w.0 (omega arith) (omega arith) (omega arith) in
    let q = complete types v d 1 rest w.1 (omega arith) (ends_pull (plain_at rest) b) (omega arith) in
    let us = emit_expression a (Sign (k.Update op) ∷ emit_expression v rest) in
    simple_expression types d all (kind_at types us) us (begins_at types 1 a (Sign (k.Update op) ∷ emit_expression v rest) w.0) ∙ (rw (r, q) refl ∙ ap (λ (n : ℕ). Ok (had (Update a op v) n rest)) (bare all room e))
reached types (Step a way) d all room rest w h e b =
    let r = complete types a d 1 (Sign (change_sign way) ∷ rest) w.0 (omega arith) (step_pull way rest) (omega arith) in
    let us = emit_expression a (Sign (change_sign way) ∷ rest) in
    simple_expression types d all (kind_at types us) us (begins_at types 1 a (Sign (change_sign way) ∷ rest) w.0)
    ∙ (rw (r, step_at way rest) (step_is types d all a way rest w.1) ∙ ap (λ (n : ℕ). Ok (had (Step a way) n rest)) (bare all room e))
reached types (Evaluate v) d all room rest w h e b =
    let r = complete types v d 1 rest w (omega arith) (ends_pull (plain_at rest) b) (omega arith) in
    simple_expression types d all (kind_at types (emit_expression v rest)) (emit_expression v rest) (begins_at types 1 v rest w)
    ∙ (rw r (ends_do types d all (plain_at rest) (found v rest) b) ∙ ap (λ (n : ℕ). Ok (had (Evaluate v) n rest)) (bare all room e))

one-le_simple : (s : SimpleStatement) → 1 ≤ height_simple s
one-le_simple (Evaluate e) = omega arith
one-le_simple _ = omega arith

pub complete_simple : (types : Names) (s : SimpleStatement) (d all room : ℕ) (rest : List Terminal) → FormedSimple types s → height_simple s ≤ d → all ≡ locals_simple s + room → EndsSimple (plain_at rest) → read_simple types d all (emit_simple s rest) ≡ Ok (had s room rest)
unfolding read_simple
complete_simple types s zero all room rest w h e b = absurd (omega (arith, one-le_simple s))
complete_simple types s (suc d) all room rest w h e b = reached types s d all room rest w h e b

first_go : (types : Names) (d room : ℕ) (kind : Kind) (ts : List Terminal) → BeginsSimple kind → first_by types d room kind ts ≡ (read_simple types d room ts >>= λ s. Ok (given s))
first_go types d room k.Semi ts b = absurd b
first_go types d room _ ts b = refl

third_go : (types : Names) (d room : ℕ) (kind : Kind) (ts : List Terminal) → BeginsSimple kind → third_by types d room kind ts ≡ (read_simple types d room ts >>= λ s. Ok (given s))
third_go types d room k.RParen ts b = absurd b
third_go types d room _ ts b = refl

first_is : (types : Names) (s : Option SimpleStatement) (d all room : ℕ) (rest : List Terminal) → FormedOption types s → height_option s ≤ d → all ≡ locals_option s + room
    → first_by types d all (plain_at (emit_option s (Sign k.Semi ∷ rest))) (emit_option s (Sign k.Semi ∷ rest)) ≡ Ok (had s room (Sign k.Semi ∷ rest))
first_is types None d all room rest w h e = ap (λ (n : ℕ). Ok (had None n (Sign k.Semi ∷ rest))) (bare all room e)
first_is types (Some s) d all room rest w h e =
    let r = complete_simple types s d all room (Sign k.Semi ∷ rest) w h e tt in
    first_go types d all (plain_at (emit_simple s (Sign k.Semi ∷ rest))) (emit_simple s (Sign k.Semi ∷ rest)) (begins_simple s (Sign k.Semi ∷ rest)) ∙ rw r refl

third_is : (types : Names) (s : Option SimpleStatement) (d all room : ℕ) (rest : List Terminal) → FormedOption types s → height_option s ≤ d → all ≡ locals_option s + room
    → third_by types d all (plain_at (emit_option s (Sign k.RParen ∷ rest))) (emit_option s (Sign k.RParen ∷ rest)) ≡ Ok (had s room (Sign k.RParen ∷ rest))
third_is types None d all room rest w h e = ap (λ (n : ℕ). Ok (had None n (Sign k.RParen ∷ rest))) (bare all room e)
third_is types (Some s) d all room rest w h e =
    let r = complete_simple types s d all room (Sign k.RParen ∷ rest) w h e tt in
    third_go types d all (plain_at (emit_simple s (Sign k.RParen ∷ rest))) (emit_simple s (Sign k.RParen ∷ rest)) (begins_simple s (Sign k.RParen ∷ rest)) ∙ rw r refl

-- ---- statements

abbrev Inner : Type 0
Inner = ℕ → List Terminal → Outcome (Counted Statement)

abbrev Complete : Names → Bool → Statement → Type 0
Complete types loops s = (d all room : ℕ) (rest : List Terminal) → FormedStatement types loops s → height_statement s ≤ d → all ≡ locals_statement s + room → (plain_at rest ≡ k.Else → TakesNoElse s) → read_statement types loops d all (emit_statement s rest) ≡ Ok (had s room rest)

abbrev CompleteAll : Names → Bool → Statements → Type 0
CompleteAll types loops ss = (d n all room : ℕ) (rest : List Terminal) → FormedStatements types loops ss → height_statements ss ≤ d → all ≡ locals_statements ss + room → count_statements ss < n
    → read_statements types loops (read_statement types loops d) d n all (emit_statements ss rest) ≡ Ok (had ss room rest)

test_is : (types : Names) (c : Expression) (d : ℕ) (ts : List Terminal) → FormedExpression types 1 c → height_expression c ≤ d → read_condition types d (Sign k.LParen ∷ emit_expression c (Sign k.RParen ∷ ts)) ≡ Ok (got c ts)
unfolding read_condition
test_is types c d ts l h = rw (complete types c d 1 (Sign k.RParen ∷ ts) l h (omega arith) (omega arith)) refl

call_is : (types : Names) (c : Expression) (d : ℕ) (ts : List Terminal) → FormedExpression types 1 c → height_expression c ≤ d → call_of types d (Sign k.LParen ∷ emit_expression c (Sign k.RParen ∷ Sign k.Semi ∷ ts)) ≡ Ok (got c ts)
unfolding call_of
call_is types c d ts l h = rw (test_is types c d (Sign k.Semi ∷ ts) l h) refl

no_else : (types : Names) (loops : Bool) (inner : Inner) (d : ℕ) (kind : Kind) (c : Expression) (a : Counted Statement) → (kind ≡ k.Else → ⊥) → else_by types loops inner d kind c a ≡ Ok (had (If c a.value) a.room a.rest)
no_else types loops inner d k.Else c a h = absurd (h refl)
no_else types loops inner d _ c a h = refl

statement_simple : (types : Names) (loops : Bool) (inner : Inner) (d room : ℕ) (kind : Kind) (ts : List Terminal) → BeginsSimple kind
    → statement_by types loops inner d kind room ts ≡ (read_simple types (suc d) room ts >>= λ s. with_semi (Simple s.value) s.room s.rest)
statement_simple types loops inner d room k.LBrace ts b = absurd b
statement_simple types loops inner d room k.Begin ts b = absurd b
statement_simple types loops inner d room k.Return ts b = absurd b
statement_simple types loops inner d room k.If ts b = absurd b
statement_simple types loops inner d room k.While ts b = absurd b
statement_simple types loops inner d room k.For ts b = absurd b
statement_simple types loops inner d room k.Assert ts b = absurd b
statement_simple types loops inner d room k.Error ts b = absurd b
statement_simple types loops inner d room k.Break ts b = absurd b
statement_simple types loops inner d room k.Continue ts b = absurd b
statement_simple types loops inner d room _ ts b = refl

return_go : (types : Names) (d room : ℕ) (kind : Kind) (ts : List Terminal) → BeginsExpression kind → return_by types d room kind ts ≡ (read_expression types d 1 ts >>= λ e. with_semi (ReturnValue e.tree) room e.rest)
return_go types d room k.Semi ts b = absurd b
return_go types d room _ ts b = refl

complete_plain : (types : Names) (loops : Bool) (s : SimpleStatement) → Complete types loops (Simple s)
unfolding read_statement
complete_plain types loops s zero all room rest w h e ends = absurd (omega (arith, one-le_simple s))
complete_plain types loops s (suc d) all room rest w h e ends =
    let r = complete_simple types s (suc d) all room (Sign k.Semi ∷ rest) w h e tt in
    let us = emit_simple s (Sign k.Semi ∷ rest) in
    statement_simple types loops (read_statement types loops d) d all (plain_at us) us (begins_simple s (Sign k.Semi ∷ rest)) ∙ rw r refl

complete_block : (types : Names) (loops : Bool) (ss : Statements) → CompleteAll types loops ss → Complete types loops (Block ss)
unfolding read_statement
complete_block types loops ss whole zero all room rest w h e ends = absurd (omega arith)
complete_block types loops ss whole (suc d) all room rest w h e ends =
    let r = whole d (suc (length (emit_statements ss rest))) all room rest w (omega arith) e (omega (arith, longer_statements ss rest)) in
    rw r refl

complete_noted : (types : Names) (loops : Bool) (a : List Spec) → Complete types loops (Annotation a)
unfolding read_statement
complete_noted types loops a zero all room rest w h e ends = absurd (omega arith)
complete_noted types loops a (suc d) all room rest w h e ends =
    let r = complete_specs types a d (suc (length (emit_specs a rest))) rest w (omega arith) (omega (arith, longer_specs a rest)) in
    rw (r, bare all room e) refl

complete_return : (types : Names) (loops : Bool) → Complete types loops Return
unfolding read_statement
complete_return types loops zero all room rest w h e ends = absurd (omega arith)
complete_return types loops (suc d) all room rest w h e ends = rw (bare all room e) refl

complete_value : (types : Names) (loops : Bool) (v : Expression) → Complete types loops (ReturnValue v)
unfolding read_statement
complete_value types loops v zero all room rest w h e ends = absurd (omega arith)
complete_value types loops v (suc d) all room rest w h e ends =
    let r = complete types v d 1 (Sign k.Semi ∷ rest) w (omega arith) (omega arith) (omega arith) in
    let us = emit_expression v (Sign k.Semi ∷ rest) in
    return_go types d all (plain_at us) us (begins_expression v (Sign k.Semi ∷ rest)) ∙ rw (r, bare all room e) refl

complete_if : (types : Names) (loops : Bool) (c : Expression) (a : Statement) → Complete types loops a → Complete types loops (If c a)
unfolding read_statement if_of
complete_if types loops c a whole zero all room rest w h e ends = absurd (omega arith)
complete_if types loops c a whole (suc d) all room rest w h e ends =
    let t = test_is types c d (emit_statement a rest) w.0 (omega arith) in
    let r = whole d all room rest w.1 (omega arith) e (λ e. absurd (ends e)) in
    rw (t, r) (no_else types loops (read_statement types loops d) d (plain_at rest) c (had a room rest) ends)

complete_else : (types : Names) (loops : Bool) (c : Expression) (a b : Statement) → Complete types loops a → Complete types loops b → Complete types loops (IfElse c a b)
unfolding read_statement if_of
complete_else types loops c a b first second zero all room rest w h e ends = absurd (omega arith)
complete_else types loops c a b first second (suc d) all room rest w h e ends =
    let t = test_is types c d (emit_statement a (Sign k.Else ∷ emit_statement b rest)) w.0 (omega arith) in
    let r = first d all (locals_statement b + room) (Sign k.Else ∷ emit_statement b rest) w.1 (omega arith) (omega arith) (λ e. w.2) in
    let q = second d (locals_statement b + room) room rest w.3 (omega arith) refl ends in
    rw (t, r, q) refl

abbrev body_of : List (List Spec) → Statement → ℕ → List Terminal → Body
body_of ns s room rest = record { annotations = ns; body = s; room = room; rest = rest }

body_is : (types : Names) (loops : Bool) (ns : List (List Spec)) (s : Statement) → Complete types loops s → (d all room : ℕ) (rest : List Terminal) → FormedAnnotations types ns → FormedStatement types loops s → IsLoopBody s → height_annotations ns ≤ d → height_statement s ≤ d → all ≡ locals_statement s + room → (plain_at rest ≡ k.Else → TakesNoElse s)
    → loop_body types loops (read_statement types loops d) d all (emit_annotations ns (emit_statement s rest)) ≡ Ok (body_of ns s room rest)
unfolding loop_body
body_is types loops ns s whole d all room rest wn ws wb hn hs e ends =
    let q = complete_annotations types ns d (suc (length (emit_annotations ns (emit_statement s rest)))) (emit_statement s rest) wn hn (omega (arith, longer_annotations ns (emit_statement s rest))) (begins_body s rest wb) in
    let r = whole d all room rest ws hs e ends in
    rw (q, r) refl

complete_while : (types : Names) (loops : Bool) (c : Expression) (ns : List (List Spec)) (s : Statement) → Complete types loops s → Complete types loops (While c ns s)
unfolding read_statement while_of
complete_while types loops c ns s whole zero all room rest w h e ends = absurd (omega arith)
complete_while types loops c ns s whole (suc d) all room rest w h e ends =
    let t = test_is types c d (emit_annotations ns (emit_statement s rest)) w.0 (omega arith) in
    let b = body_is types loops ns s whole d all room rest w.1 w.2 w.3 (omega arith) (omega arith) e ends in
    rw (t, b) refl

complete_for : (types : Names) (loops : Bool) (i : Option SimpleStatement) (c : Expression) (n : Option SimpleStatement) (ns : List (List Spec)) (s : Statement) → Complete types loops s → Complete types loops (For i c n ns s)
unfolding read_statement for_of for_test for_end
complete_for types loops i c n ns s whole zero all room rest w h e ends = absurd (omega arith)
complete_for types loops i c n ns s whole (suc d) all room rest w h e ends =
    let body = emit_annotations ns (emit_statement s rest) in
    let a = first_is types i d all (locals_option n + (locals_statement s + room)) (emit_expression c (Sign k.Semi ∷ emit_option n (Sign k.RParen ∷ body))) w.0 (omega arith) (omega arith) in
    let t = complete types c d 1 (Sign k.Semi ∷ emit_option n (Sign k.RParen ∷ body)) w.1 (omega arith) (omega arith) (omega arith) in
    let b = third_is types n d (locals_option n + (locals_statement s + room)) (locals_statement s + room) body w.2 (omega arith) refl in
    let q = body_is types loops ns s whole d (locals_statement s + room) room rest w.3 w.4 w.5 (omega arith) (omega arith) refl ends in
    rw (a, t, b, q) refl

complete_assert : (types : Names) (loops : Bool) (v : Expression) → Complete types loops (Assert v)
unfolding read_statement
complete_assert types loops v zero all room rest w h e ends = absurd (omega arith)
complete_assert types loops v (suc d) all room rest w h e ends = rw (call_is types v d rest w (omega arith), bare all room e) refl

complete_error : (types : Names) (loops : Bool) (v : Expression) → Complete types loops (Error v)
unfolding read_statement
complete_error types loops v zero all room rest w h e ends = absurd (omega arith)
complete_error types loops v (suc d) all room rest w h e ends = rw (call_is types v d rest w (omega arith), bare all room e) refl

complete_break : (types : Names) (loops : Bool) → Complete types loops Break
unfolding read_statement
complete_break types loops zero all room rest w h e ends = absurd (omega arith)
complete_break types loops (suc d) all room rest w h e ends = rw (w, bare all room e) refl

complete_continue : (types : Names) (loops : Bool) → Complete types loops Continue
unfolding read_statement
complete_continue types loops zero all room rest w h e ends = absurd (omega arith)
complete_continue types loops (suc d) all room rest w h e ends = rw (w, bare all room e) refl

complete_nothing : (types : Names) (loops : Bool) → CompleteAll types loops nothing
unfolding read_statements
complete_nothing types loops d zero all room rest w h e lt = absurd (omega arith)
complete_nothing types loops d (suc n) all room rest w h e lt = rw (bare all room e) refl

statements_go : (types : Names) (loops : Bool) (inner : Inner) (d : ℕ) (kind : Kind) (go_on : ℕ → List Terminal → Outcome (Counted Statements)) (room : ℕ) (ts : List Terminal) → BeginsStatement kind
    → statements_by types loops inner d kind go_on room ts ≡ (inner room ts >>= λ s. go_on s.room s.rest >>= λ ss. Ok (record { value = also s.value ss.value; room = ss.room; rest = ss.rest }))
statements_go types loops inner d k.RBrace go_on room ts b = absurd b
statements_go types loops inner d _ go_on room ts b = refl

complete_also : (types : Names) (loops : Bool) (s : Statement) (ss : Statements) → Complete types loops s → CompleteAll types loops ss → CompleteAll types loops (also s ss)
unfolding read_statements
complete_also types loops s ss one others d zero all room rest w h e lt = absurd (omega arith)
complete_also types loops s ss one others d (suc n) all room rest w h e lt =
    let r = one d all (locals_statements ss + room) (emit_statements ss rest) w.0 (omega arith) (omega arith) (λ e. absurd (not_else ss rest e)) in
    let q = others d n (locals_statements ss + room) room rest w.1 (omega arith) refl (omega arith) in
    let us = emit_statement s (emit_statements ss rest) in
    statements_go types loops (read_statement types loops d) d (plain_at us) (read_statements types loops (read_statement types loops d) d n) all us (begins_statement s (emit_statements ss rest)) ∙ rw (r, q) refl

mutual
  pub complete_statement : (types : Names) (loops : Bool) (s : Statement) → Complete types loops s
  complete_statement types loops (Simple s) = complete_plain types loops s
  complete_statement types loops (Block ss) = complete_block types loops ss (complete_statements types loops ss)
  complete_statement types loops (Annotation a) = complete_noted types loops a
  complete_statement types loops Return = complete_return types loops
  complete_statement types loops (ReturnValue v) = complete_value types loops v
  complete_statement types loops (If c a) = complete_if types loops c a (complete_statement types loops a)
  complete_statement types loops (IfElse c a b) = complete_else types loops c a b (complete_statement types loops a) (complete_statement types loops b)
  complete_statement types loops (While c ns s) = complete_while types loops c ns s (complete_statement types loops s)
  complete_statement types loops (For i c n ns s) = complete_for types loops i c n ns s (complete_statement types loops s)
  complete_statement types loops (Assert v) = complete_assert types loops v
  complete_statement types loops (Error v) = complete_error types loops v
  complete_statement types loops Break = complete_break types loops
  complete_statement types loops Continue = complete_continue types loops

  pub complete_statements : (types : Names) (loops : Bool) (ss : Statements) → CompleteAll types loops ss
  complete_statements types loops nothing = complete_nothing types loops
  complete_statements types loops (also s ss) = complete_also types loops s ss (complete_statement types loops s) (complete_statements types loops ss)
