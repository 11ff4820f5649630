-- A program of at most 200 nodes on a path is read, or a name too many is met, however many names it declares.
use Rattle.std.proofs.Common.{◌≡◌, ℕ, zero, suc, ◌+◌, ◌-◌, ◌≤◌, ◌⊎◌, max, Bool, false, List, [], ◌∷◌, ◌++◌, length, Option, Some, None, Ok, Err, refl, sym, ap, subst, ◌∙◌, inl, inr, arith}
use Rattle.c0_source.specs.declared.kind.Kind.TheVariants as k
use Rattle.c0_source.specs.Terminals.{Terminal, Word, Sign}
use Rattle.c0_syntax.specs.Trees.{Statements, Header, Declaration, UseLibrary, DeclareStruct, DefineStruct, Typedef, DeclareFunction, DefineFunction, Program}
use Rattle.c0_syntax.specs.Statements.{emit_annotations, emit_statements, FormedStatements, height_statements, locals_statements}
use Rattle.c0_syntax.specs.Programs.{emit_parameters, emit_declaration, emit_program, FormedHeader, FormedDeclaration, type_names_after, FormedProgram, height_header, height_declaration}
use Rattle.c0_grammar_laws.specs.declared.read_error.ReadError.{ReadError}
use Rattle.c0_grammar_laws.specs.declared.read_error.ReadError.TheVariants.{OutOfMemory, Syntax, TooDeep, TooLarge}
use Rattle.c0_grammar_laws.specs.Laws.{IsAt}
use Rattle.c0_grammar_laws.specs.Limits.{Within, ReadsWithin}
use Rattle.c0_grammar_laws.specs.Outcome.{Outcome, ◌>>=◌}
use Rattle.c0_grammar_laws.specs.ReadStatements.{Counted, read_statement, read_body}
use Rattle.c0_grammar_laws.specs.ReadPrograms.{ReadDeclaration, end_by, function, read_declaration, read_declarations, read_program}
use Rattle.c0_grammar_laws.proofs.Alike.{Alike}
use Rattle.c0_grammar_laws.proofs.AlikePrograms.{program_form, program_alike, twin_at}
use Rattle.c0_grammar_laws.proofs.Basics.{ok_is}
use Rattle.c0_grammar_laws.proofs.Turns.{Names}
use Rattle.c0_grammar_laws.proofs.Begins.{longer_statements}
use Rattle.c0_grammar_laws.proofs.CompleteStatements.{had, complete_statements}
use Rattle.c0_grammar_laws.proofs.CompletePrograms.{header_is, declaration_go, declaration_of, IsRead, complete_declaration, longer_program, longer_declaration, step_declarations}
use Rattle.c0_grammar_laws.proofs.LessRoom.{Less, raise_statements, statements_less, statement_less}

-- this is given, or a name too many is met
abbrev pub IsOrLarge : {A : Type 0} → Outcome A → (A → Type 0) → Type 0
IsOrLarge o P = ((x : _) × (o ≡ Ok x) × P x) ⊎ ((n : ℕ) × (o ≡ Err (TooLarge n)))

-- a declaration is given, with some number of functions left
abbrev pub Gives : Declaration → List Terminal → ReadDeclaration → Type 0
Gives x rest r = (r.declaration ≡ x) × (r.rest ≡ rest)

-- a definition behind its body
abbrev pub defined : Header → ℕ → Counted Statements → Outcome ReadDeclaration
defined h room body = Ok (record { declaration = DefineFunction h body.value; room = room; rest = body.rest })

pub defined_by_less : (types : Names) (extra : ℕ) (h : Header) (room : ℕ) (body : Statements) (left : ℕ) (rest : List Terminal) (o : Outcome (Counted Statements)) → Less (raise_statements types extra) o (Ok (had body left rest))
    → IsOrLarge (o >>= defined h room) (Gives (DefineFunction h body) rest)
defined_by_less types extra h room body left rest (Ok r) l =
    let e = ok_is (had body left rest) (raise_statements types extra r) l in
    inl (record { declaration = DefineFunction h r.value; room = room; rest = r.rest }, refl, (ap (λ (z : Counted Statements). DefineFunction h z.value) (sym e), ap (λ (z : Counted Statements). z.rest) (sym e)))
defined_by_less types extra h room body left rest (Err OutOfMemory) l = absurd cc
defined_by_less types extra h room body left rest (Err (Syntax n)) l = absurd cc
defined_by_less types extra h room body left rest (Err (TooDeep n)) l = absurd cc
defined_by_less types extra h room body left rest (Err (TooLarge n)) l = inr (n, refl)

end_shallow : (types : Names) (loops : Bool) (all at : ℕ) (over : Option ℕ) (h : Header) (body : Statements) (rest : List Terminal) → FormedStatements types loops body → height_statements body ≤ 199
    → IsOrLarge (end_by types loops 199 all at over k.LBrace h (Sign k.LBrace ∷ emit_statements body rest)) (Gives (DefineFunction h body) rest)
end_shallow types loops zero at over h body rest w low = inr (at, refl)
end_shallow types loops (suc all) at (Some o) h body rest w low = inr (o, refl)
end_shallow types loops (suc all) at None h body rest w low =
    let us = emit_statements body rest in
    let m = 1024 - length h.parameters in
    let extra = locals_statements body in
    let n = suc (length us) in
    let q = complete_statements types loops body 199 n (m + extra) m rest w low (omega arith) (omega (arith, longer_statements body rest)) in
    let l = statements_less types extra loops (read_statement types loops 199) 199 (statement_less types extra loops 199) n m us in
    defined_by_less types extra h all body m rest (read_body types loops 199 m us) (subst (λ (z : Outcome (Counted Statements)). Less (raise_statements types extra) (read_body types loops 199 m us) z) q l)

defined_shallow : (types : Names) (loops : Bool) (h : Header) (body : Statements) (all : ℕ) (rest : List Terminal) → FormedHeader types h → FormedStatements types loops body → suc (max (height_header h) (height_statements body)) ≤ 200
    → IsOrLarge (read_declaration types loops all (emit_declaration (DefineFunction h body) rest)) (Gives (DefineFunction h body) rest)
unfolding function
defined_shallow types loops h body all rest w wb low =
    let g = header_is types h 199 (Sign k.LBrace ∷ emit_statements body rest) w (omega arith) tt in
    let us = Word h.name ∷ Sign k.LParen ∷ emit_parameters h.parameters (emit_annotations h.annotations (Sign k.LBrace ∷ emit_statements body rest)) in
    let s = end_shallow types loops all g.at g.over h body rest wb (omega arith) in
    let e : read_declaration types loops all (emit_declaration (DefineFunction h body) rest) ≡ end_by types loops 199 all g.at g.over k.LBrace h (Sign k.LBrace ∷ emit_statements body rest) =
    declaration_go types loops 199 all h.result us tt ∙ rw g.is refl in
    subst (λ (z : Outcome ReadDeclaration). IsOrLarge z (Gives (DefineFunction h body) rest)) (sym e) s

read_is : (types : Names) (loops : Bool) (x : Declaration) (all : ℕ) (rest : List Terminal) → IsRead types loops all all x rest → IsOrLarge (read_declaration types loops all (emit_declaration x rest)) (Gives x rest)
read_is types loops x all rest e = inl (declaration_of x all rest, e, (refl, refl))

shallow_declaration : (types : Names) (loops : Bool) (x : Declaration) (all : ℕ) (rest : List Terminal) → FormedDeclaration types loops x → height_declaration x ≤ 200 → IsOrLarge (read_declaration types loops all (emit_declaration x rest)) (Gives x rest)
shallow_declaration types loops (UseLibrary angle x) all rest w low = read_is types loops (UseLibrary angle x) all rest (complete_declaration types loops (UseLibrary angle x) all all rest w low (omega arith) (omega arith))
shallow_declaration types loops (DeclareStruct x) all rest w low = read_is types loops (DeclareStruct x) all rest (complete_declaration types loops (DeclareStruct x) all all rest w low (omega arith) (omega arith))
shallow_declaration types loops (DefineStruct x fs) all rest w low = read_is types loops (DefineStruct x fs) all rest (complete_declaration types loops (DefineStruct x fs) all all rest w low (omega arith) (omega arith))
shallow_declaration types loops (Typedef t x) all rest w low = read_is types loops (Typedef t x) all rest (complete_declaration types loops (Typedef t x) all all rest w low (omega arith) (omega arith))
shallow_declaration types loops (DeclareFunction h) all rest w low = read_is types loops (DeclareFunction h) all rest (complete_declaration types loops (DeclareFunction h) all all rest w low (omega arith) (omega arith))
shallow_declaration types loops (DefineFunction h body) all rest w low = defined_shallow types loops h body all rest w.0 w.1 low

-- all of the program is read, or a name too many is met
abbrev pub AllOrLarge : Outcome Program → Program → Type 0
AllOrLarge o ds = (o ≡ Ok ds) ⊎ ((n : ℕ) × (o ≡ Err (TooLarge n)))

shallow_declarations : (loops : Bool) (locals : ℕ) (ds : Program) (types : Names) (n all : ℕ) → FormedProgram types loops ds → Within 200 locals ds → length ds ≤ n → AllOrLarge (read_declarations types loops n all (emit_program ds)) ds
unfolding read_declarations
shallow_declarations loops locals [] types zero all w h le = inl refl
shallow_declarations loops locals [] types (suc n) all w h le = inl refl
shallow_declarations loops locals (x ∷ ds) types zero all w h le = absurd (omega arith)
shallow_declarations loops locals (x ∷ ds) types (suc n) all w h le =
    let rest = emit_program ds in
    let go : ReadDeclaration → Outcome Program = λ d. read_declarations (type_names_after types d.declaration) loops n d.room d.rest >>= λ ds. Ok (d.declaration ∷ ds) in
    let e = step_declarations types loops n all (emit_declaration x rest) (omega (arith, longer_declaration x rest)) in
    elim (shallow_declaration types loops x all rest w.0 h.0) [
      | inl r ↦
          let first : r.0 ≡ record { declaration = x; room = r.0.room; rest = r.0.rest } = ap (λ (z : Declaration). record { declaration = z; room = r.0.room; rest = r.0.rest }) r.2.0 in
          let same : r.0 ≡ declaration_of x r.0.room rest = first ∙ ap (λ (z : List Terminal). declaration_of x r.0.room z) r.2.1 in
          let read : (read_declaration types loops all (emit_declaration x rest) >>= go) ≡ go (declaration_of x r.0.room rest) = ap (λ (z : Outcome ReadDeclaration). z >>= go) r.1 ∙ ap go same in
          elim (shallow_declarations loops locals ds (type_names_after types x) n r.0.room w.1 h.2 (omega arith)) [
            | inl q ↦ inl (e ∙ (read ∙ ap (λ (z : Outcome Program). z >>= λ ds. Ok (x ∷ ds)) q))
            | inr q ↦ inr (q.0, e ∙ (read ∙ ap (λ (z : Outcome Program). z >>= λ ds. Ok (x ∷ ds)) q.1))
          ]
      | inr r ↦ inr (r.0, e ∙ ap (λ (z : Outcome ReadDeclaration). z >>= go) r.1)
    ]

shallow_program : (locals functions : ℕ) (loops : Bool) (ts : List Terminal) (program : Program) → ReadsWithin 200 locals functions loops ts program → AllOrLarge (read_program loops ts) program
unfolding read_program
shallow_program locals functions loops ts program r =
    subst (λ (z : List Terminal). AllOrLarge (read_program loops z) program) (sym r.spelled) (shallow_declarations loops locals program [] (length (emit_program program)) 4096 r.formed r.within (longer_program program))

pub no_fault : (o : Outcome Program) (program : Program) (e : ReadError) → AllOrLarge o program → o ≡ Err e → ((n : ℕ) → e ≡ TooLarge n → ⊥) → ⊥
no_fault o program e (inl h) is never = cc
no_fault o program e (inr h) is never = let same : e ≡ TooLarge h.0 = cc in never h.0 same

-- where reading meets a fault at a token, no program of at most 200 nodes on a path begins with the tokens up to and with that one
pub none_shallow : (loops : Bool) (before : List Terminal) (t : Terminal) (behind : List Terminal) (error : ReadError) → IsAt error (suc (length behind)) → read_program loops (before ++ t ∷ behind) ≡ Err error
    → (locals functions : ℕ) (others : List Terminal) (program : Program) → ReadsWithin 200 locals functions loops (before ++ t ∷ others) program → ⊥
unfolding read_program
none_shallow loops before t behind error is met locals functions others program reads =
    let ts = before ++ t ∷ behind in
    let us = before ++ t ∷ others in
    let a = program_alike behind others loops (length ts) (length us) false (length ts) (length us) [] 4096 ts us (omega arith) (omega arith) (twin_at before t behind others, omega arith, omega arith) in
    at error is (subst (λ (z : Outcome Program). Alike behind others program_form false (length ts) (length us) z (read_program loops us)) met a)
  where
    at : (error : ReadError) → IsAt error (suc (length behind)) → Alike behind others program_form false (length (before ++ t ∷ behind)) (length (before ++ t ∷ others)) (Err error) (read_program loops (before ++ t ∷ others)) → ⊥
    at OutOfMemory is a = is
    at (Syntax n) is (inl a) = omega (arith, is, a)
    at (Syntax n) is (inr a) = no_fault (read_program loops (before ++ t ∷ others)) program (Syntax (suc (a.0 + length others))) (shallow_program locals functions loops (before ++ t ∷ others) program reads) a.2 (λ n e. cc)
    at (TooDeep n) is (inl a) = omega (arith, is, a)
    at (TooDeep n) is (inr a) = no_fault (read_program loops (before ++ t ∷ others)) program (TooDeep (suc (a.0 + length others))) (shallow_program locals functions loops (before ++ t ∷ others) program reads) a.2 (λ n e. cc)
    at (TooLarge n) is a = is
