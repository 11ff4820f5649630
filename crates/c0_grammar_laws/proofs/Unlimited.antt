-- A program of any depth and with any number of names is read with enough levels, or a name too many is met; so it meets no syntax fault.
use Rattle.std.proofs.Common.{◌≡◌, ℕ, zero, suc, ◌+◌, ◌-◌, ◌≤◌, max, Bool, false, List, [], ◌∷◌, ◌++◌, length, Option, Some, None, Ok, Err, refl, sym, ap, subst, ◌∙◌, inl, inr, arith}
use Rattle.c0_source.specs.declared.kind.Kind.TheVariants as k
use Rattle.c0_source.specs.Terminals.{Terminal, Word, Sign}
use Rattle.c0_syntax.specs.Trees.{ValueType, TypedName, Statements, Header, Declaration, UseLibrary, DeclareStruct, DefineStruct, Typedef, DeclareFunction, DefineFunction, Program}
use Rattle.c0_syntax.specs.Expressions.{is_type_name, FormedType, height_type}
use Rattle.c0_syntax.specs.Statements.{emit_annotations, emit_statements, FormedStatements, height_statements, locals_statements}
use Rattle.c0_syntax.specs.Programs.{emit_fields, emit_parameters, emit_declaration, emit_program, FormedFields, FormedHeader, FormedDeclaration, type_names_after, FormedProgram, height_typed_names, height_header, height_declaration}
use Rattle.c0_grammar_laws.specs.declared.read_error.ReadError.TheVariants.{Syntax}
use Rattle.c0_grammar_laws.specs.Limits.{Within, ReadsWithin}
use Rattle.c0_grammar_laws.specs.Outcome.{Outcome, ◌>>=◌, plain_at}
use Rattle.c0_grammar_laws.specs.ReadStatements.{Counted, read_statement, read_body}
use Rattle.c0_grammar_laws.specs.ReadPrograms.{ReadDeclaration, end_by, function, declaration_by, read_program}
use Rattle.c0_grammar_laws.proofs.Alike.{Alike}
use Rattle.c0_grammar_laws.proofs.AlikePrograms.{program_form, program_alike, twin_at}
use Rattle.c0_grammar_laws.proofs.Turns.{Names}
use Rattle.c0_grammar_laws.proofs.Types.{complete_type}
use Rattle.c0_grammar_laws.proofs.Begins.{longer_statements}
use Rattle.c0_grammar_laws.proofs.CompleteStatements.{complete_statements}
use Rattle.c0_grammar_laws.proofs.CompletePrograms.{complete_fields, longer_fields, header_is, declaration_go, declaration_of, longer_program, longer_declaration}
use Rattle.c0_grammar_laws.proofs.LessRoom.{Less, raise_statements, statements_less, statement_less}
use Rattle.c0_grammar_laws.proofs.Shallow.{IsOrLarge, Gives, defined_by_less, AllOrLarge, no_fault}
use Rattle.c0_grammar_laws.proofs.Deeper.{Deeper}
use Rattle.c0_grammar_laws.proofs.DeeperPrograms.{read_levels, program_deeper}

-- reading a declaration of so many levels
abbrev read_level : Names → Bool → ℕ → ℕ → List Terminal → Outcome ReadDeclaration
read_level types loops d all ts = declaration_by types loops d all (plain_at ts) ts

end_free : (types : Names) (loops : Bool) (d all at : ℕ) (over : Option ℕ) (h : Header) (body : Statements) (rest : List Terminal) → FormedStatements types loops body → height_statements body ≤ d
    → IsOrLarge (end_by types loops d all at over k.LBrace h (Sign k.LBrace ∷ emit_statements body rest)) (Gives (DefineFunction h body) rest)
end_free types loops d zero at over h body rest w low = inr (at, refl)
end_free types loops d (suc all) at (Some o) h body rest w low = inr (o, refl)
end_free types loops d (suc all) at None h body rest w low =
    let us = emit_statements body rest in
    let m = 1024 - length h.parameters in
    let extra = locals_statements body in
    let n = suc (length us) in
    let q = complete_statements types loops body d n (m + extra) m rest w low (omega arith) (omega (arith, longer_statements body rest)) in
    let l = statements_less types extra loops (read_statement types loops d) d (statement_less types extra loops d) n m us in
    defined_by_less types extra h all body m rest (read_body types loops d m us) (subst (λ (z : Outcome (Counted Statements)). Less (raise_statements types extra) (read_body types loops d m us) z) q l)

defined_free : (types : Names) (loops : Bool) (d : ℕ) (h : Header) (body : Statements) (all : ℕ) (rest : List Terminal) → FormedHeader types h → FormedStatements types loops body → suc (max (height_header h) (height_statements body)) ≤ suc d
    → IsOrLarge (read_level types loops d all (emit_declaration (DefineFunction h body) rest)) (Gives (DefineFunction h body) rest)
unfolding function
defined_free types loops d h body all rest w wb low =
    let g = header_is types h d (Sign k.LBrace ∷ emit_statements body rest) w (omega arith) tt in
    let us = Word h.name ∷ Sign k.LParen ∷ emit_parameters h.parameters (emit_annotations h.annotations (Sign k.LBrace ∷ emit_statements body rest)) in
    let s = end_free types loops d all g.at g.over h body rest wb (omega arith) in
    let e : read_level types loops d all (emit_declaration (DefineFunction h body) rest) ≡ end_by types loops d all g.at g.over k.LBrace h (Sign k.LBrace ∷ emit_statements body rest) =
    declaration_go types loops d all h.result us tt ∙ rw g.is refl in
    subst (λ (z : Outcome ReadDeclaration). IsOrLarge z (Gives (DefineFunction h body) rest)) (sym e) s

-- reading gives the declaration
abbrev IsRead : Names → Bool → ℕ → ℕ → Declaration → List Terminal → Type 0
IsRead types loops d all x rest = read_level types loops d all (emit_declaration x rest) ≡ Ok (declaration_of x all rest)

declared_free : (types : Names) (loops : Bool) (d : ℕ) (h : Header) (all : ℕ) (rest : List Terminal) → FormedHeader types h → suc (height_header h) ≤ suc d → IsRead types loops d all (DeclareFunction h) rest
unfolding function
declared_free types loops d h all rest w low =
    let g = header_is types h d (Sign k.Semi ∷ rest) w (omega arith) tt in
    let us = Word h.name ∷ Sign k.LParen ∷ emit_parameters h.parameters (emit_annotations h.annotations (Sign k.Semi ∷ rest)) in
    declaration_go types loops d all h.result us tt ∙ rw g.is refl

typedef_free : (types : Names) (loops : Bool) (d : ℕ) (t : ValueType) (x : List ℕ) (all : ℕ) (rest : List Terminal) → FormedType types t → is_type_name types x ≡ false → suc (height_type t) ≤ suc d → IsRead types loops d all (Typedef t x) rest
typedef_free types loops d t x all rest w free low =
    let r = complete_type types t d (Word x ∷ Sign k.Semi ∷ rest) w (omega arith) tt in
    rw (r, free) refl

fields_free : (types : Names) (loops : Bool) (d : ℕ) (x : List ℕ) (fs : List TypedName) (all : ℕ) (rest : List Terminal) → FormedFields types fs → suc (height_typed_names fs) ≤ suc d → IsRead types loops d all (DefineStruct x fs) rest
fields_free types loops d x fs all rest w low =
    let us = emit_fields fs (Sign k.Semi ∷ rest) in
    let r = complete_fields types fs d (suc (suc (suc (length us)))) (Sign k.Semi ∷ rest) w (omega arith) (omega (arith, longer_fields fs (Sign k.Semi ∷ rest))) in
    rw r refl

read_is : (types : Names) (loops : Bool) (d : ℕ) (x : Declaration) (all : ℕ) (rest : List Terminal) → IsRead types loops d all x rest → IsOrLarge (read_level types loops d all (emit_declaration x rest)) (Gives x rest)
read_is types loops d x all rest e = inl (declaration_of x all rest, e, (refl, refl))

declaration_free : (types : Names) (loops : Bool) (d : ℕ) (x : Declaration) (all : ℕ) (rest : List Terminal) → FormedDeclaration types loops x → height_declaration x ≤ suc d → IsOrLarge (read_level types loops d all (emit_declaration x rest)) (Gives x rest)
declaration_free types loops d (UseLibrary angle x) all rest w low = read_is types loops d (UseLibrary angle x) all rest refl
declaration_free types loops d (DeclareStruct x) all rest w low = read_is types loops d (DeclareStruct x) all rest refl
declaration_free types loops d (DefineStruct x fs) all rest w low = read_is types loops d (DefineStruct x fs) all rest (fields_free types loops d x fs all rest w low)
declaration_free types loops d (Typedef t x) all rest w low = read_is types loops d (Typedef t x) all rest (typedef_free types loops d t x all rest w.0 w.1 low)
declaration_free types loops d (DeclareFunction h) all rest w low = read_is types loops d (DeclareFunction h) all rest (declared_free types loops d h all rest w low)
declaration_free types loops d (DefineFunction h body) all rest w low = defined_free types loops d h body all rest w.0 w.1 low

step_levels : (types : Names) (loops : Bool) (d n room : ℕ) (ts : List Terminal) → suc 0 ≤ length ts
    → read_levels types loops d (suc n) room ts ≡ (read_level types loops d room ts >>= λ x. read_levels (type_names_after types x.declaration) loops d n x.room x.rest >>= λ ds. Ok (x.declaration ∷ ds))
unfolding read_levels
step_levels types loops d n room [] lt = absurd (omega arith)
step_levels types loops d n room (t ∷ ts) lt = refl

declarations_free : (loops : Bool) (d locals : ℕ) (ds : Program) (types : Names) (n all : ℕ) → FormedProgram types loops ds → Within (suc d) locals ds → length ds ≤ n → AllOrLarge (read_levels types loops d n all (emit_program ds)) ds
unfolding read_levels
declarations_free loops d locals [] types zero all w h le = inl refl
declarations_free loops d locals [] types (suc n) all w h le = inl refl
declarations_free loops d locals (x ∷ ds) types zero all w h le = absurd (omega arith)
declarations_free loops d locals (x ∷ ds) types (suc n) all w h le =
    let rest = emit_program ds in
    let go : ReadDeclaration → Outcome Program = λ x. read_levels (type_names_after types x.declaration) loops d n x.room x.rest >>= λ ds. Ok (x.declaration ∷ ds) in
    let e = step_levels types loops d n all (emit_declaration x rest) (omega (arith, longer_declaration x rest)) in
    elim (declaration_free types loops d x all rest w.0 h.0) [
      | inl r ↦
          let first : r.0 ≡ record { declaration = x; room = r.0.room; rest = r.0.rest } = ap (λ (z : Declaration). record { declaration = z; room = r.0.room; rest = r.0.rest }) r.2.0 in
          let same : r.0 ≡ declaration_of x r.0.room rest = first ∙ ap (λ (z : List Terminal). declaration_of x r.0.room z) r.2.1 in
          let read : (read_level types loops d all (emit_declaration x rest) >>= go) ≡ go (declaration_of x r.0.room rest) = ap (λ (z : Outcome ReadDeclaration). z >>= go) r.1 ∙ ap go same in
          elim (declarations_free loops d locals ds (type_names_after types x) n r.0.room w.1 h.2 (omega arith)) [
            | inl q ↦ inl (e ∙ (read ∙ ap (λ (z : Outcome Program). z >>= λ ds. Ok (x ∷ ds)) q))
            | inr q ↦ inr (q.0, e ∙ (read ∙ ap (λ (z : Outcome Program). z >>= λ ds. Ok (x ∷ ds)) q.1))
          ]
      | inr r ↦ inr (r.0, e ∙ ap (λ (z : Outcome ReadDeclaration). z >>= go) r.1)
    ]

-- more nodes may be on a path
wider : (n m locals : ℕ) (ds : Program) → n ≤ m → Within n locals ds → Within m locals ds
wider n m locals [] le h = tt
wider n m locals (d ∷ ds) le h = (omega (arith, h.0), h.1, wider n m locals ds le h.2)

-- where reading meets a syntax fault at a token, no program begins with the tokens up to and with that one, whatever its limits
pub none_at_all : (loops : Bool) (before : List Terminal) (t : Terminal) (behind : List Terminal) → read_program loops (before ++ t ∷ behind) ≡ Err (Syntax (suc (length behind)))
    → (nodes locals functions : ℕ) (others : List Terminal) (program : Program) → ReadsWithin nodes locals functions loops (before ++ t ∷ others) program → ⊥
unfolding read_program
none_at_all loops before t behind met nodes locals functions others program reads =
    let ts = before ++ t ∷ behind in
    let us = before ++ t ∷ others in
    let a = program_alike behind others loops (length ts) (length us) false (length ts) (length us) [] 4096 ts us (omega arith) (omega arith) (twin_at before t behind others, omega arith, omega arith) in
    at (subst (λ (z : Outcome Program). Alike behind others program_form false (length ts) (length us) z (read_program loops us)) met a)
  where
    -- with so many levels there is room for the program
    levels : ℕ
    levels = 199 + nodes

    deep : AllOrLarge (read_levels [] loops levels (length (before ++ t ∷ others)) 4096 (before ++ t ∷ others)) program
    deep =
        subst (λ (z : List Terminal). AllOrLarge (read_levels [] loops levels (length z) 4096 z) program) (sym reads.spelled)
        (declarations_free loops levels locals program [] (length (emit_program program)) 4096 reads.formed (wider nodes (suc levels) locals program (omega arith) reads.within) (longer_program program))

    at : Alike behind others program_form false (length (before ++ t ∷ behind)) (length (before ++ t ∷ others)) (Err (Syntax (suc (length behind)))) (read_program loops (before ++ t ∷ others)) → ⊥
    at (inl a) = omega (arith, a)
    at (inr a) =
        let n = suc (a.0 + length others) in
        let q = subst (λ (z : Outcome Program). Deeper z (read_levels [] loops levels (length (before ++ t ∷ others)) 4096 (before ++ t ∷ others))) a.2 (program_deeper loops levels (omega arith) (length (before ++ t ∷ others)) [] 4096 (before ++ t ∷ others)) in
        no_fault (read_levels [] loops levels (length (before ++ t ∷ others)) 4096 (before ++ t ∷ others)) program (Syntax n) deep q (λ n e. cc)
