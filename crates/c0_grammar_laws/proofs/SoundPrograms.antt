-- What is read as a program reads as it, and no tokens read as two programs.
use Rattle.std.proofs.Common.{◌≡◌, ℕ, zero, suc, ◌+◌, ◌-◌, ◌≤◌, ◌⊎◌, Bool, List, [], ◌∷◌, length, Option, Some, None, Ok, Err, refl, sym, ap, subst, ◌∙◌, inl, inr, arith}
use Rattle.c0_source.specs.declared.kind.Kind.{Kind}
use Rattle.c0_source.specs.declared.kind.Kind.TheVariants as k
use Rattle.c0_source.specs.Terminals.{Terminal, Word, Text, Use, Sign}
use Rattle.c0_syntax.specs.Trees.{Spec, TypedName, Header, DefineStruct, Typedef, DefineFunction, Program}
use Rattle.c0_syntax.specs.Expressions.{emit_type}
use Rattle.c0_syntax.specs.Statements.{emit_annotations, emit_statements}
use Rattle.c0_syntax.specs.Programs.{emit_fields, emit_more_parameters, emit_parameters, emit_header, emit_declaration, emit_program, FormedFields, FormedParameters, FormedHeader, FormedDeclaration, type_names_after, FormedProgram, height_typed_names, height_header, height_declaration, locals_declaration, defined_by, defined_functions, WithinLimits, Reads}
use Rattle.c0_grammar_laws.specs.declared.read_error.ReadError.{ReadError}
use Rattle.c0_grammar_laws.specs.Outcome.{Outcome, ◌>>=◌, Read, real, plain_at, bytes_at, next, lparen, semi, any_name, new_name}
use Rattle.c0_grammar_laws.specs.ReadExpressions.{ReadType, read_type}
use Rattle.c0_grammar_laws.specs.ReadStatements.{read_annotations, read_statement, read_body}
use Rattle.c0_grammar_laws.specs.ReadPrograms.{fields_by, read_fields, ReadParameters, over_by, add_parameter, less, after_parameter, read_parameters, parameters_by, ReadDeclaration, small, end_by, ReadHeader, read_header, function, struct_by, struct_of, use_of, declaration_by, read_declaration, read_declarations, read_program}
use Rattle.c0_grammar_laws.proofs.Basics.{bind_ok, ok_is, sign_at, word_at, lparen_ok, semi_ok, any_name_ok, new_name_ok}
use Rattle.c0_grammar_laws.proofs.Types.{read_type_sound}
use Rattle.c0_grammar_laws.proofs.Turns.{Names}
use Rattle.c0_grammar_laws.proofs.SoundStatements.{read_annotations_sound, read_statement_sound, statements_sound}
use Rattle.c0_grammar_laws.proofs.CompletePrograms.{complete_program}

abbrev after : Kind → List Terminal → List Terminal
after kind us = Sign kind ∷ us

abbrev pub typed : ReadType → Read (List ℕ) → TypedName
typed t x = record { value_type = t.value_type; name = x.value }

-- ---- fields

pub record SoundFields (types : Names) (d : ℕ) (ts : List Terminal) (r : Read (List TypedName)) : Type 0 where
  pub spelled : ts ≡ emit_fields r.value r.rest
  pub formed : FormedFields types r.value
  pub shallow : height_typed_names r.value ≤ d

fields_ok : (types : Names) (d : ℕ) (go_on : List Terminal → Outcome (Read (List TypedName))) (kind : Kind) (ts : List Terminal) (r : Read (List TypedName)) → fields_by types d go_on kind ts ≡ Ok r
    → ((kind ≡ k.RBrace) × (record { value = []; rest = next ts } ≡ r))
    ⊎ ((read_type types d ts >>= λ t. any_name t.rest >>= λ x. semi x.rest >>= λ us. go_on us >>= λ xs. Ok (record { value = record { value_type = t.value_type; name = x.value } ∷ xs.value; rest = xs.rest })) ≡ Ok r)
fields_ok types d go_on k.RBrace ts r e = inl (refl, ok_is _ _ e)
fields_ok types d go_on _ ts r e = inr e

pub fields_sound : (types : Names) (d n : ℕ) (ts : List Terminal) (r : Read (List TypedName)) → read_fields types d n ts ≡ Ok r → SoundFields types d ts r
unfolding read_fields
fields_sound types d zero ts r e = absurd cc
fields_sound types d (suc n) ts r e =
    elim (fields_ok types d (read_fields types d n) (plain_at ts) ts r e) [
      | inl h ↦ subst (SoundFields types d ts) h.1 (record { spelled = sign_at ts k.RBrace h.0 tt; formed = tt; shallow = omega arith })
      | inr h ↦
          let b = bind_ok (read_type types d ts) (λ t. any_name t.rest >>= λ x. semi x.rest >>= λ us. read_fields types d n us >>= λ xs. Ok (record { value = typed t x ∷ xs.value; rest = xs.rest })) r h in
          let t = (read_type_sound types d ts b.0 b.1).spans in
          let bx = bind_ok (any_name b.0.rest) (λ x. semi x.rest >>= λ us. read_fields types d n us >>= λ xs. Ok (record { value = typed b.0 x ∷ xs.value; rest = xs.rest })) r b.2 in
          let bu = bind_ok (semi bx.0.rest) (λ us. read_fields types d n us >>= λ xs. Ok (record { value = typed b.0 bx.0 ∷ xs.value; rest = xs.rest })) r bx.2 in
          let bo = bind_ok (read_fields types d n bu.0) (λ xs. Ok (record { value = typed b.0 bx.0 ∷ xs.value; rest = xs.rest })) r bu.2 in
          let o = fields_sound types d n bu.0 bo.0 bo.1 in
          let behind : b.0.rest ≡ Word bx.0.value ∷ Sign k.Semi ∷ emit_fields bo.0.value bo.0.rest = any_name_ok b.0.rest bx.0 bx.1 ∙ ap (λ (us : List Terminal). Word bx.0.value ∷ us) (semi_ok bx.0.rest bu.0 bu.1 ∙ ap (after k.Semi) o.spelled) in
          subst (SoundFields types d ts) (ok_is _ r bo.2) (record { spelled = t.spelled ∙ ap (emit_type b.0.value_type) behind; formed = (t.formed, o.formed); shallow = omega (arith, t.shallow, o.shallow) })
    ]

-- ---- parameters

-- behind a parameter
pub record SoundMore (types : Names) (d room : ℕ) (ts : List Terminal) (r : ReadParameters) : Type 0 where
  pub spelled : ts ≡ emit_more_parameters r.parameters r.rest
  pub formed : FormedParameters types r.parameters
  pub shallow : height_typed_names r.parameters ≤ d
  pub few : r.over ≡ None → length r.parameters ≤ room

-- at least one
pub record SoundParameters (types : Names) (d room : ℕ) (ts : List Terminal) (r : ReadParameters) : Type 0 where
  pub spelled : ts ≡ emit_parameters r.parameters r.rest
  pub formed : FormedParameters types r.parameters
  pub shallow : height_typed_names r.parameters ≤ d
  pub few : r.over ≡ None → length r.parameters ≤ room
  pub head : TypedName
  pub tail : List TypedName
  pub is : r.parameters ≡ head ∷ tail

few_by : (room : ℕ) (at : ℕ) (later : Option ℕ) (count : ℕ) → (later ≡ None → count ≤ less room) → over_by room at later ≡ None → suc count ≤ room
few_by zero at later count h e = absurd cc
few_by (suc room) at later count h e = let le = h e in omega arith

more_of : (types : Names) (d room : ℕ) (ts : List Terminal) (r : ReadParameters) → plain_at ts ≡ k.Comma → SoundParameters types d room (next ts) r → SoundMore types d room ts r
more_of types d room ts r is s =
    let others : emit_more_parameters r.parameters r.rest ≡ Sign k.Comma ∷ emit_parameters r.parameters r.rest = rw s.is refl in
    record { spelled = sign_at ts k.Comma is tt ∙ (ap (after k.Comma) s.spelled ∙ sym others); formed = s.formed; shallow = s.shallow; few = s.few }

after_sound : (types : Names) (d room : ℕ) (others : List Terminal → Outcome ReadParameters) → ((ts : List Terminal) (r : ReadParameters) → others ts ≡ Ok r → SoundParameters types d room ts r)
    → (kind : Kind) (ts : List Terminal) (r : ReadParameters) → plain_at ts ≡ kind → after_parameter others kind ts ≡ Ok r → SoundMore types d room ts r
after_sound types d room others ih k.Comma ts r is e = more_of types d room ts r is (ih (next ts) r e)
after_sound types d room others ih k.RParen ts r is e = subst (SoundMore types d room ts) (ok_is _ r e) (record { spelled = sign_at ts k.RParen is tt; formed = tt; shallow = omega arith; few = λ _. omega arith })
after_sound types d room others ih _ ts r is e = absurd cc

parameters_sound : (types : Names) (d n room : ℕ) (ts : List Terminal) (r : ReadParameters) → read_parameters types d room n ts ≡ Ok r → SoundParameters types d room ts r
unfolding read_parameters
parameters_sound types d zero room ts r e = absurd cc
parameters_sound types d (suc n) room ts r e =
    let b = bind_ok (read_type types d ts) (λ t. new_name types t.rest >>= λ x. after_parameter (read_parameters types d (less room) n) (plain_at x.rest) x.rest >>= λ xs. Ok (add_parameter room t x xs)) r e in
    let t = (read_type_sound types d ts b.0 b.1).spans in
    let bx = bind_ok (new_name types b.0.rest) (λ x. after_parameter (read_parameters types d (less room) n) (plain_at x.rest) x.rest >>= λ xs. Ok (add_parameter room b.0 x xs)) r b.2 in
    let x = new_name_ok types b.0.rest bx.0 bx.1 in
    let bo = bind_ok (after_parameter (read_parameters types d (less room) n) (plain_at bx.0.rest) bx.0.rest) (λ xs. Ok (add_parameter room b.0 bx.0 xs)) r bx.2 in
    let o = after_sound types d (less room) (read_parameters types d (less room) n) (λ us q h. parameters_sound types d n (less room) us q h) (plain_at bx.0.rest) bx.0.rest bo.0 refl bo.1 in
    let behind : b.0.rest ≡ Word bx.0.value ∷ emit_more_parameters bo.0.parameters bo.0.rest = x.0 ∙ ap (λ (us : List Terminal). Word bx.0.value ∷ us) o.spelled in
    subst (SoundParameters types d room ts) (ok_is _ r bo.2) (record {
      spelled = t.spelled ∙ ap (emit_type b.0.value_type) behind;
      formed = (t.formed, x.1, o.formed);
      shallow = omega (arith, t.shallow, o.shallow);
      few = λ h. few_by room (length b.0.rest) bo.0.over (length bo.0.parameters) o.few h;
      head = typed b.0 bx.0;
      tail = bo.0.parameters;
      is = refl;
    })

pub record SoundAll (types : Names) (d : ℕ) (ts : List Terminal) (r : ReadParameters) : Type 0 where
  pub spelled : ts ≡ emit_parameters r.parameters r.rest
  pub formed : FormedParameters types r.parameters
  pub shallow : height_typed_names r.parameters ≤ d
  pub few : r.over ≡ None → length r.parameters ≤ 1024

pub all_sound : (types : Names) (d : ℕ) (kind : Kind) (ts : List Terminal) (r : ReadParameters) → plain_at ts ≡ kind → parameters_by types d kind ts ≡ Ok r → SoundAll types d ts r
all_sound types d k.RParen ts r is e = subst (SoundAll types d ts) (ok_is _ r e) (record { spelled = sign_at ts k.RParen is tt; formed = tt; shallow = omega arith; few = λ _. omega arith })
all_sound types d _ ts r is e = let s = parameters_sound types d (length ts) 1024 ts r e in record { spelled = s.spelled; formed = s.formed; shallow = s.shallow; few = s.few }

-- ---- headers

pub record SoundHeader (types : Names) (d : ℕ) (ts : List Terminal) (r : ReadHeader) : Type 0 where
  pub spelled : ts ≡ emit_header r.header r.rest
  pub formed : FormedHeader types r.header
  pub shallow : height_header r.header ≤ d
  pub few : r.over ≡ None → length r.header.parameters ≤ 1024

abbrev header_by : ReadType → Read (List ℕ) → ReadParameters → Read (List (List Spec)) → ReadHeader
header_by t x ps ns = record { header = record { result = t.value_type; name = x.value; parameters = ps.parameters; annotations = ns.value }; at = length t.rest; over = ps.over; rest = ns.rest }

pub header_sound : (types : Names) (d : ℕ) (ts : List Terminal) (r : ReadHeader) → read_header types d ts ≡ Ok r → SoundHeader types d ts r
unfolding read_header
header_sound types d ts r e =
    let b = bind_ok (read_type types d ts) (λ t. new_name types t.rest >>= λ x. lparen x.rest >>= λ us. parameters_by types d (plain_at us) us >>= λ ps. read_annotations types d (suc (length ps.rest)) ps.rest >>= λ ns. Ok (header_by t x ps ns)) r e in
    let t = (read_type_sound types d ts b.0 b.1).spans in
    let bx = bind_ok (new_name types b.0.rest) (λ x. lparen x.rest >>= λ us. parameters_by types d (plain_at us) us >>= λ ps. read_annotations types d (suc (length ps.rest)) ps.rest >>= λ ns. Ok (header_by b.0 x ps ns)) r b.2 in
    let x = new_name_ok types b.0.rest bx.0 bx.1 in
    let bu = bind_ok (lparen bx.0.rest) (λ us. parameters_by types d (plain_at us) us >>= λ ps. read_annotations types d (suc (length ps.rest)) ps.rest >>= λ ns. Ok (header_by b.0 bx.0 ps ns)) r bx.2 in
    let bp = bind_ok (parameters_by types d (plain_at bu.0) bu.0) (λ ps. read_annotations types d (suc (length ps.rest)) ps.rest >>= λ ns. Ok (header_by b.0 bx.0 ps ns)) r bu.2 in
    let p = all_sound types d (plain_at bu.0) bu.0 bp.0 refl bp.1 in
    let bn = bind_ok (read_annotations types d (suc (length bp.0.rest)) bp.0.rest) (λ ns. Ok (header_by b.0 bx.0 bp.0 ns)) r bp.2 in
    let n = read_annotations_sound types d (suc (length bp.0.rest)) bp.0.rest bn.0 bn.1 in
    let behind : bu.0 ≡ emit_parameters bp.0.parameters (emit_annotations bn.0.value bn.0.rest) = p.spelled ∙ ap (emit_parameters bp.0.parameters) n.spelled in
    let named : b.0.rest ≡ Word bx.0.value ∷ Sign k.LParen ∷ emit_parameters bp.0.parameters (emit_annotations bn.0.value bn.0.rest) =
    x.0 ∙ ap (λ (us : List Terminal). Word bx.0.value ∷ us) (lparen_ok bx.0.rest bu.0 bu.1 ∙ ap (after k.LParen) behind) in
    subst (SoundHeader types d ts) (ok_is _ r bn.2) (record {
      spelled = t.spelled ∙ ap (emit_type b.0.value_type) named;
      formed = (t.formed, x.1, p.formed, n.formed);
      shallow = omega (arith, t.shallow, p.shallow, n.shallow);
      few = p.few;
    })

-- ---- declarations

pub record SoundDeclaration (types : Names) (loops : Bool) (all : ℕ) (ts : List Terminal) (r : ReadDeclaration) : Type 0 where
  pub spelled : ts ≡ emit_declaration r.declaration r.rest
  pub formed : FormedDeclaration types loops r.declaration
  pub shallow : height_declaration r.declaration ≤ 200
  pub few : locals_declaration r.declaration ≤ 1024
  pub rooms : all ≡ defined_by r.declaration + r.room

pub small_ok : (over : Option ℕ) (n : ℕ) → small over ≡ Ok n → over ≡ None
small_ok None n e = refl
small_ok (Some at) n e = absurd cc

end_sound : (types : Names) (loops : Bool) (all : ℕ) (start : List Terminal) (at : ℕ) (over : Option ℕ) (kind : Kind) (h : Header) (ts : List Terminal) (r : ReadDeclaration) → SoundHeader types 199 start (record { header = h; at = at; over = over; rest = ts })
    → plain_at ts ≡ kind → end_by types loops 199 all at over kind h ts ≡ Ok r → SoundDeclaration types loops all start r
end_sound types loops all start at over k.Semi h ts r s is e =
    subst (SoundDeclaration types loops all start) (ok_is _ r e) (record { spelled = s.spelled ∙ ap (emit_header h) (sign_at ts k.Semi is tt); formed = s.formed; shallow = omega (arith, s.shallow); few = omega arith; rooms = omega arith })
end_sound types loops zero start at over k.LBrace h ts r s is e = absurd cc
end_sound types loops (suc all) start at over k.LBrace h ts r s is e =
    let bs = bind_ok (small over) (λ _. read_body types loops 199 (1024 - length h.parameters) (next ts) >>= λ body. Ok (record { declaration = DefineFunction h body.value; room = all; rest = body.rest })) r e in
    let few = s.few (small_ok over bs.0 bs.1) in
    let bb = bind_ok (read_body types loops 199 (1024 - length h.parameters) (next ts)) (λ body. Ok (record { declaration = DefineFunction h body.value; room = all; rest = body.rest })) r bs.2 in
    let b = statements_sound types loops 199 (read_statement types loops 199) (read_statement_sound types loops 199) (suc (length (next ts))) (1024 - length h.parameters) (next ts) bb.0 bb.1 in
    let behind : ts ≡ Sign k.LBrace ∷ emit_statements bb.0.value bb.0.rest = sign_at ts k.LBrace is tt ∙ ap (after k.LBrace) b.spelled in
    subst (SoundDeclaration types loops (suc all) start) (ok_is _ r bb.2) (record {
      spelled = s.spelled ∙ ap (emit_header h) behind;
      formed = (s.formed, b.formed);
      shallow = omega (arith, s.shallow, b.shallow);
      few = omega (arith, few, b.rooms);
      rooms = omega arith;
    })
end_sound types loops all start at over _ h ts r s is e = absurd cc

function_sound : (types : Names) (loops : Bool) (all : ℕ) (ts : List Terminal) (r : ReadDeclaration) → function types loops 199 all ts ≡ Ok r → SoundDeclaration types loops all ts r
unfolding function
function_sound types loops all ts r e =
    let b = bind_ok (read_header types 199 ts) (λ h. end_by types loops 199 all h.at h.over (plain_at h.rest) h.header h.rest) r e in
    end_sound types loops all ts b.0.at b.0.over (plain_at b.0.rest) b.0.header b.0.rest r (header_sound types 199 ts b.0 b.1) refl b.2

struct_sound : (types : Names) (loops : Bool) (all : ℕ) (kind : Kind) (ts : List Terminal) (r : ReadDeclaration) → plain_at ts ≡ k.Struct → plain_at (next ts) ≡ k.Name → plain_at (next (next ts)) ≡ kind → struct_by types loops 199 all kind ts ≡ Ok r → SoundDeclaration types loops all ts r
struct_sound types loops all k.Semi ts r is name at e =
    let spelled : ts ≡ Sign k.Struct ∷ Word (bytes_at (next ts)) ∷ Sign k.Semi ∷ next (next (next ts)) =
    sign_at ts k.Struct is tt ∙ ap (after k.Struct) (word_at (next ts) name ∙ ap (λ (us : List Terminal). Word (bytes_at (next ts)) ∷ us) (sign_at (next (next ts)) k.Semi at tt)) in
    subst (SoundDeclaration types loops all ts) (ok_is _ r e) (record { spelled = spelled; formed = tt; shallow = omega arith; few = omega arith; rooms = omega arith })
struct_sound types loops all k.LBrace ts r is name at e =
    let us = next (next (next ts)) in
    let b = bind_ok (read_fields types 199 (length ts) us) (λ fs. semi fs.rest >>= λ rest. Ok (record { declaration = DefineStruct (bytes_at (next ts)) fs.value; room = all; rest = rest })) r e in
    let f = fields_sound types 199 (length ts) us b.0 b.1 in
    let q = bind_ok (semi b.0.rest) (λ rest. Ok (record { declaration = DefineStruct (bytes_at (next ts)) b.0.value; room = all; rest = rest })) r b.2 in
    let closed = semi_ok b.0.rest q.0 q.1 in
    let spelled : ts ≡ Sign k.Struct ∷ Word (bytes_at (next ts)) ∷ Sign k.LBrace ∷ emit_fields b.0.value (Sign k.Semi ∷ q.0) =
    sign_at ts k.Struct is tt ∙ ap (after k.Struct) (word_at (next ts) name ∙ ap (λ (vs : List Terminal). Word (bytes_at (next ts)) ∷ vs) (sign_at (next (next ts)) k.LBrace at tt ∙ ap (after k.LBrace) (f.spelled ∙ ap (emit_fields b.0.value) closed))) in
    subst (SoundDeclaration types loops all ts) (ok_is _ r q.2) (record { spelled = spelled; formed = f.formed; shallow = omega (arith, f.shallow); few = omega arith; rooms = omega arith })
struct_sound types loops all _ ts r is name at e = function_sound types loops all ts r e

struct_of_sound : (types : Names) (loops : Bool) (all : ℕ) (kind : Kind) (ts : List Terminal) (r : ReadDeclaration) → plain_at ts ≡ k.Struct → plain_at (next ts) ≡ kind → struct_of types loops 199 all kind ts ≡ Ok r → SoundDeclaration types loops all ts r
struct_of_sound types loops all k.Name ts r is name e = struct_sound types loops all (plain_at (next (next ts))) ts r is name refl e
struct_of_sound types loops all _ ts r is name e = absurd cc

not_use : (kind : Kind) → real kind ≡ k.Use → ⊥
not_use k.Name e = cc
not_use k.TypeName e = cc
not_use k.Text e = cc
not_use k.Use e = cc
not_use _ e = cc

use_sound : (types : Names) (loops : Bool) (all : ℕ) (ts : List Terminal) → plain_at ts ≡ k.Use → SoundDeclaration types loops all ts (record { declaration = use_of ts; room = all; rest = next ts })
use_sound types loops all [] e = absurd cc
use_sound types loops all (Word x ∷ ts) e = absurd cc
use_sound types loops all (Text x ∷ ts) e = absurd cc
use_sound types loops all (Use angle x ∷ ts) e = record { spelled = refl; formed = tt; shallow = omega arith; few = omega arith; rooms = omega arith }
use_sound types loops all (Sign kind ∷ ts) e = absurd (not_use kind e)

pub declaration_sound : (types : Names) (loops : Bool) (all : ℕ) (kind : Kind) (ts : List Terminal) (r : ReadDeclaration) → plain_at ts ≡ kind → declaration_by types loops 199 all kind ts ≡ Ok r → SoundDeclaration types loops all ts r
declaration_sound types loops all k.Use ts r is e = subst (SoundDeclaration types loops all ts) (ok_is _ r e) (use_sound types loops all ts is)
declaration_sound types loops all k.Struct ts r is e = struct_of_sound types loops all (plain_at (next ts)) ts r is refl e
declaration_sound types loops all k.Typedef ts r is e =
    let b = bind_ok (read_type types 199 (next ts)) (λ t. new_name types t.rest >>= λ x. semi x.rest >>= λ rest. Ok (record { declaration = Typedef t.value_type x.value; room = all; rest = rest })) r e in
    let t = (read_type_sound types 199 (next ts) b.0 b.1).spans in
    let bx = bind_ok (new_name types b.0.rest) (λ x. semi x.rest >>= λ rest. Ok (record { declaration = Typedef b.0.value_type x.value; room = all; rest = rest })) r b.2 in
    let x = new_name_ok types b.0.rest bx.0 bx.1 in
    let q = bind_ok (semi bx.0.rest) (λ rest. Ok (record { declaration = Typedef b.0.value_type bx.0.value; room = all; rest = rest })) r bx.2 in
    let behind : b.0.rest ≡ Word bx.0.value ∷ Sign k.Semi ∷ q.0 = x.0 ∙ ap (λ (us : List Terminal). Word bx.0.value ∷ us) (semi_ok bx.0.rest q.0 q.1) in
    let spelled : ts ≡ emit_declaration (Typedef b.0.value_type bx.0.value) q.0 = sign_at ts k.Typedef is tt ∙ ap (after k.Typedef) (t.spelled ∙ ap (emit_type b.0.value_type) behind) in
    subst (SoundDeclaration types loops all ts) (ok_is _ r q.2) (record { spelled = spelled; formed = (t.formed, x.1); shallow = omega (arith, t.shallow); few = omega arith; rooms = omega arith })
declaration_sound types loops all _ ts r is e = function_sound types loops all ts r e

-- ---- programs

record SoundProgram (types : Names) (loops : Bool) (all : ℕ) (ts : List Terminal) (ds : Program) : Type 0 where
  spelled : ts ≡ emit_program ds
  formed : FormedProgram types loops ds
  within : WithinLimits ds
  few : defined_functions ds ≤ all

declarations_sound : (loops : Bool) (n : ℕ) (types : Names) (all : ℕ) (ts : List Terminal) (ds : Program) → read_declarations types loops n all ts ≡ Ok ds → SoundProgram types loops all ts ds
unfolding read_declarations
declarations_sound loops zero types all [] ds e = subst (SoundProgram types loops all []) (ok_is _ ds e) (record { spelled = refl; formed = tt; within = tt; few = omega arith })
declarations_sound loops (suc n) types all [] ds e = subst (SoundProgram types loops all []) (ok_is _ ds e) (record { spelled = refl; formed = tt; within = tt; few = omega arith })
declarations_sound loops zero types all (t ∷ ts) ds e = absurd cc
declarations_sound loops (suc n) types all (t ∷ ts) ds e =
    let us = t ∷ ts in
    let b = bind_ok (read_declaration types loops all us) (λ d. read_declarations (type_names_after types d.declaration) loops n d.room d.rest >>= λ ds. Ok (d.declaration ∷ ds)) ds e in
    let s = declaration_sound types loops all (plain_at us) us b.0 refl b.1 in
    let c = bind_ok (read_declarations (type_names_after types b.0.declaration) loops n b.0.room b.0.rest) (λ ds. Ok (b.0.declaration ∷ ds)) ds b.2 in
    let o = declarations_sound loops n (type_names_after types b.0.declaration) b.0.room b.0.rest c.0 c.1 in
    subst (SoundProgram types loops all us) (ok_is _ ds c.2) (record {
      spelled = s.spelled ∙ ap (emit_declaration b.0.declaration) o.spelled;
      formed = (s.formed, o.formed);
      within = (s.shallow, s.few, o.within);
      few = omega (arith, s.rooms, o.few);
    })

-- What is read as a program reads as it.
pub sound_program : (loops : Bool) (ts : List Terminal) (program : Program) → read_program loops ts ≡ Ok program → Reads loops ts program
unfolding read_program
sound_program loops ts program e =
    let s = declarations_sound loops (length ts) [] 4096 ts program e in
    record { spelled = s.spelled; formed = s.formed; within = s.within; few = s.few }

abbrev given : Program → Outcome Program
given p = Ok p

same_given : (p q : Program) → given p ≡ given q → p ≡ q
same_given p q e = cc

-- no tokens read as two programs
pub one_program : (loops : Bool) (ts : List Terminal) (p q : Program) → Reads loops ts p → Reads loops ts q → p ≡ q
one_program loops ts p q h k = same_given p q (sym (complete_program loops ts p h) ∙ complete_program loops ts q k)

-- where a fault is met, no program reads from the tokens
pub fault_excludes : (loops : Bool) (ts : List Terminal) (program : Program) (e : ReadError) → read_program loops ts ≡ Err e → Reads loops ts program → ⊥
fault_excludes loops ts program e is h = let ok = complete_program loops ts program h in cc
