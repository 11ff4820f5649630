-- Where reading a program meets a fault, the tokens before it begin a program of at most one level, one local and one function too many.
use Rattle.std.proofs.Common.{◌≡◌, ℕ, zero, suc, ◌+◌, ◌-◌, ◌≤◌, ◌⊎◌, Bool, List, [], ◌∷◌, length, Option, Some, None, Ok, Err, refl, sym, ap, subst, ◌∙◌, inl, inr, arith}
use Rattle.c0_source.specs.declared.kind.Kind.{Kind}
use Rattle.c0_source.specs.declared.kind.Kind.TheVariants as k
use Rattle.c0_source.specs.declared.kind.Base.TheVariants as b
use Rattle.c0_source.specs.Terminals.{Terminal, Word, Use, Sign}
use Rattle.c0_syntax.specs.Trees.{ValueType, Basic, Spec, Statements, TypedName, Header, Declaration, UseLibrary, DeclareStruct, DefineStruct, Typedef, DeclareFunction, DefineFunction, Program, nothing}
use Rattle.c0_syntax.specs.Statements.{locals_statements}
use Rattle.c0_syntax.specs.Programs.{emit_fields, emit_more_parameters, emit_parameters, emit_header, emit_declaration, emit_program, FormedFields, FormedParameters, FormedHeader, FormedDeclaration, type_names_after, FormedProgram, height_typed_names, height_header, height_declaration, locals_declaration, defined_by, defined_functions}
use Rattle.c0_grammar_laws.specs.declared.read_error.ReadError.{ReadError}
use Rattle.c0_grammar_laws.specs.declared.read_error.ReadError.TheVariants.{OutOfMemory, Syntax, TooDeep, TooLarge}
use Rattle.c0_grammar_laws.specs.Limits.{AreSigns, Within, OneTooMany}
use Rattle.c0_grammar_laws.specs.Outcome.{Outcome, ◌>>=◌, Read, refuse, plain_at, bytes_at, next, lparen, semi, any_name, new_name}
use Rattle.c0_grammar_laws.specs.ReadExpressions.{ReadType, read_type}
use Rattle.c0_grammar_laws.specs.ReadStatements.{read_annotations, read_statement, read_body}
use Rattle.c0_grammar_laws.specs.ReadPrograms.{fields_by, read_fields, ReadParameters, over_by, add_parameter, less, after_parameter, read_parameters, parameters_by, ReadDeclaration, small, end_by, ReadHeader, read_header, function, struct_by, struct_of, declaration_by, read_declaration, read_declarations, read_program}
use Rattle.c0_grammar_laws.proofs.Basics.{bind_ok, ok_is, sign_at, word_at, lparen_ok, semi_ok, any_name_ok, new_name_ok}
use Rattle.c0_grammar_laws.proofs.Types.{read_type_sound}
use Rattle.c0_grammar_laws.proofs.Turns.{Names}
use Rattle.c0_grammar_laws.proofs.SoundStatements.{read_statement_sound}
use Rattle.c0_grammar_laws.proofs.SoundPrograms.{typed, SoundHeader, fields_sound, all_sound, header_sound, small_ok, declaration_sound}
use Rattle.c0_grammar_laws.proofs.Whole.{failed, bind_err, NotLarge, Goes, at_refuse, at_large, lparen_stops, semi_stops, any_name_stops, new_name_stops, fresh, fresh_is, step, along, under_type, under_annotations, under_statements}
use Rattle.c0_grammar_laws.proofs.WholeTypes.{type_whole}
use Rattle.c0_grammar_laws.proofs.WholeStatements.{Counts, annotations_whole}
use Rattle.c0_grammar_laws.proofs.WholeBodies.{statements_whole, statement_whole}

-- ---- the same tokens before

module _ {e : ReadError} where
  under_fields : (xs : List TypedName) {ts us : List Terminal} → Goes e ts us → Goes e (emit_fields xs ts) (emit_fields xs us)
  under_fields [] g = step (Sign k.RBrace) g
  under_fields (x ∷ xs) g = under_type x.value_type (step (Word x.name) (step (Sign k.Semi) (under_fields xs g)))

  under_more_parameters : (xs : List TypedName) {ts us : List Terminal} → Goes e ts us → Goes e (emit_more_parameters xs ts) (emit_more_parameters xs us)
  under_more_parameters [] g = step (Sign k.RParen) g
  under_more_parameters (x ∷ xs) g = step (Sign k.Comma) (under_type x.value_type (step (Word x.name) (under_more_parameters xs g)))

  under_parameters : (xs : List TypedName) {ts us : List Terminal} → Goes e ts us → Goes e (emit_parameters xs ts) (emit_parameters xs us)
  under_parameters [] g = step (Sign k.RParen) g
  under_parameters (x ∷ xs) g = under_type x.value_type (step (Word x.name) (under_more_parameters xs g))

  under_header : (h : Header) {ts us : List Terminal} → Goes e ts us → Goes e (emit_header h ts) (emit_header h us)
  under_header h g = under_type h.result (step (Word h.name) (step (Sign k.LParen) (under_parameters h.parameters (under_annotations h.annotations g))))

  under_declaration : (d : Declaration) {ts us : List Terminal} → Goes e ts us → Goes e (emit_declaration d ts) (emit_declaration d us)
  under_declaration (UseLibrary angle x) g = step (Use angle x) g
  under_declaration (DeclareStruct x) g = step (Sign k.Struct) (step (Word x) (step (Sign k.Semi) g))
  under_declaration (DefineStruct x fs) g = step (Sign k.Struct) (step (Word x) (step (Sign k.LBrace) (under_fields fs (step (Sign k.Semi) g))))
  under_declaration (Typedef t x) g = step (Sign k.Typedef) (under_type t (step (Word x) (step (Sign k.Semi) g)))
  under_declaration (DeclareFunction h) g = under_header h (step (Sign k.Semi) g)
  under_declaration (DefineFunction h body) g = under_header h (step (Sign k.LBrace) (under_statements body g))

-- ---- fields

record WholeFields (types : Names) (d : ℕ) (e : ReadError) (ts end : List Terminal) : Type 0 where
  tree : List TypedName
  formed : FormedFields types tree
  low : height_typed_names tree ≤ suc d
  plain : NotLarge e
  goes : Goes e ts (emit_fields tree end)

fields_err : (types : Names) (d : ℕ) (e : ReadError) (go_on : List Terminal → Outcome (Read (List TypedName))) (kind : Kind) (ts : List Terminal) → fields_by types d go_on kind ts ≡ Err e
    → (read_type types d ts >>= λ t. any_name t.rest >>= λ x. semi x.rest >>= λ us. go_on us >>= λ xs. Ok (record { value = typed t x ∷ xs.value; rest = xs.rest })) ≡ failed (Read (List TypedName)) e
fields_err types d e go_on k.RBrace ts h = absurd cc
fields_err types d e go_on _ ts h = h

fields_whole : (types : Names) (d : ℕ) (e : ReadError) (n : ℕ) (ts end : List Terminal) → read_fields types d n ts ≡ Err e → WholeFields types d e ts end
unfolding read_fields
fields_whole types d e zero ts end h =
    let q = at_refuse {A = Read (List TypedName)} e ts (Sign k.RBrace ∷ end) h in
    record { tree = []; formed = tt; low = omega arith; plain = q.0; goes = q.1 }
fields_whole types d e (suc n) ts end h =
    let f = fields_err types d e (read_fields types d n) (plain_at ts) ts h in
    elim (bind_err (read_type types d ts) (λ t. any_name t.rest >>= λ x. semi x.rest >>= λ us. read_fields types d n us >>= λ xs. Ok (record { value = typed t x ∷ xs.value; rest = xs.rest })) e f) [
      | inl g ↦
          let w = type_whole types d e ts g (Word [] ∷ Sign k.Semi ∷ Sign k.RBrace ∷ end) in
          record { tree = record { value_type = w.tree; name = [] } ∷ []; formed = (w.formed, tt); low = omega (arith, w.low); plain = w.plain; goes = w.goes }
      | inr b ↦
          let t = (read_type_sound types d ts b.0 b.1).spans in
          elim (bind_err (any_name b.0.rest) (λ x. semi x.rest >>= λ us. read_fields types d n us >>= λ xs. Ok (record { value = typed b.0 x ∷ xs.value; rest = xs.rest })) e b.2) [
            | inl g ↦
                let q = any_name_stops e b.0.rest (Word [] ∷ Sign k.Semi ∷ Sign k.RBrace ∷ end) g in
                record { tree = record { value_type = b.0.value_type; name = [] } ∷ []; formed = (t.formed, tt); low = omega (arith, t.shallow); plain = q.0; goes = along t.spelled (under_type b.0.value_type q.1) }
            | inr bx ↦
                let named = any_name_ok b.0.rest bx.0 bx.1 in
                elim (bind_err (semi bx.0.rest) (λ us. read_fields types d n us >>= λ xs. Ok (record { value = typed b.0 bx.0 ∷ xs.value; rest = xs.rest })) e bx.2) [
                  | inl g ↦
                      let q = semi_stops e bx.0.rest (Sign k.Semi ∷ Sign k.RBrace ∷ end) g in
                      record { tree = typed b.0 bx.0 ∷ []; formed = (t.formed, tt); low = omega (arith, t.shallow); plain = q.0; goes = along t.spelled (under_type b.0.value_type (along named (step (Word bx.0.value) q.1))) }
                  | inr bu ↦
                      let ended = semi_ok bx.0.rest bu.0 bu.1 in
                      elim (bind_err (read_fields types d n bu.0) (λ xs. Ok (record { value = typed b.0 bx.0 ∷ xs.value; rest = xs.rest })) e bu.2) [
                        | inl g ↦
                            let w = fields_whole types d e n bu.0 end g in
                            record { tree = typed b.0 bx.0 ∷ w.tree; formed = (t.formed, w.formed); low = omega (arith, t.shallow, w.low); plain = w.plain; goes = along t.spelled (under_type b.0.value_type (along named (step (Word bx.0.value) (along ended (step (Sign k.Semi) w.goes))))) }
                        | inr g ↦ absurd (let bad = g.2 in cc)
                      ]
                ]
          ]
    ]

-- ---- parameters

-- one parameter or more, and the closing parenthesis
record WholeParameters (types : Names) (d : ℕ) (e : ReadError) (ts end : List Terminal) : Type 0 where
  head : TypedName
  tail : List TypedName
  formed : FormedParameters types (head ∷ tail)
  low : height_typed_names (head ∷ tail) ≤ suc d
  plain : NotLarge e
  goes : Goes e ts (emit_parameters (head ∷ tail) end)

parameter_err : (e : ReadError) (others : List Terminal → Outcome ReadParameters) (kind : Kind) (ts : List Terminal) → after_parameter others kind ts ≡ Err e
    → ((kind ≡ k.Comma) × (others (next ts) ≡ Err e)) ⊎ (refuse {A = ReadParameters} ts ≡ Err e)
parameter_err e others k.Comma ts h = inl (refl, h)
parameter_err e others k.RParen ts h = absurd cc
parameter_err e others _ ts h = inr h

parameters_whole : (types : Names) (d room : ℕ) (e : ReadError) (n : ℕ) (ts end : List Terminal) → read_parameters types d room n ts ≡ Err e → WholeParameters types d e ts end
unfolding read_parameters
parameters_whole types d room e zero ts end h =
    let q = at_refuse {A = ReadParameters} e ts (Sign (k.Base b.Int) ∷ Word (fresh types) ∷ Sign k.RParen ∷ end) h in
    record { head = record { value_type = Basic b.Int; name = fresh types }; tail = []; formed = (tt, fresh_is types, tt); low = omega arith; plain = q.0; goes = q.1 }
parameters_whole types d room e (suc n) ts end h =
    elim (bind_err (read_type types d ts) (λ t. new_name types t.rest >>= λ x. after_parameter (read_parameters types d (less room) n) (plain_at x.rest) x.rest >>= λ xs. Ok (add_parameter room t x xs)) e h) [
      | inl g ↦
          let w = type_whole types d e ts g (Word (fresh types) ∷ Sign k.RParen ∷ end) in
          record { head = record { value_type = w.tree; name = fresh types }; tail = []; formed = (w.formed, fresh_is types, tt); low = omega (arith, w.low); plain = w.plain; goes = w.goes }
      | inr a ↦
          let t = (read_type_sound types d ts a.0 a.1).spans in
          elim (bind_err (new_name types a.0.rest) (λ x. after_parameter (read_parameters types d (less room) n) (plain_at x.rest) x.rest >>= λ xs. Ok (add_parameter room a.0 x xs)) e a.2) [
            | inl g ↦
                let q = new_name_stops types e a.0.rest (Word (fresh types) ∷ Sign k.RParen ∷ end) g in
                record { head = record { value_type = a.0.value_type; name = fresh types }; tail = []; formed = (t.formed, fresh_is types, tt); low = omega (arith, t.shallow); plain = q.0; goes = along t.spelled (under_type a.0.value_type q.1) }
            | inr bx ↦
                let x = new_name_ok types a.0.rest bx.0 bx.1 in
                elim (bind_err (after_parameter (read_parameters types d (less room) n) (plain_at bx.0.rest) bx.0.rest) (λ xs. Ok (add_parameter room a.0 bx.0 xs)) e bx.2) [
                  | inl g ↦ elim (parameter_err e (read_parameters types d (less room) n) (plain_at bx.0.rest) bx.0.rest g) [
                    | inl r ↦
                        let w = parameters_whole types d (less room) e n (next bx.0.rest) end r.1 in
                        let comma = sign_at bx.0.rest k.Comma r.0 tt in
                        record {
                          head = typed a.0 bx.0;
                          tail = w.head ∷ w.tail;
                          formed = (t.formed, x.1, w.formed);
                          low = omega (arith, t.shallow, w.low);
                          plain = w.plain;
                          goes = along t.spelled (under_type a.0.value_type (along x.0 (step (Word bx.0.value) (along comma (step (Sign k.Comma) w.goes)))));
                        }
                    | inr r ↦
                        let q = at_refuse {A = ReadParameters} e bx.0.rest (Sign k.RParen ∷ end) r in
                        record { head = typed a.0 bx.0; tail = []; formed = (t.formed, x.1, tt); low = omega (arith, t.shallow); plain = q.0; goes = along t.spelled (under_type a.0.value_type (along x.0 (step (Word bx.0.value) q.1))) }
                  ]
                  | inr g ↦ absurd (let bad = g.2 in cc)
                ]
          ]
    ]

parameters_by_err : (types : Names) (d : ℕ) (e : ReadError) (kind : Kind) (ts : List Terminal) → parameters_by types d kind ts ≡ Err e → read_parameters types d 1024 (length ts) ts ≡ Err e
parameters_by_err types d e k.RParen ts h = absurd cc
parameters_by_err types d e _ ts h = h

-- ---- the first parameter too many

-- parameters up to the one of which the fault is told, and the closing parenthesis
record LargeParameters (types : Names) (d room at : ℕ) (ts end : List Terminal) : Type 0 where
  head : TypedName
  tail : List TypedName
  formed : FormedParameters types (head ∷ tail)
  low : height_typed_names (head ∷ tail) ≤ suc d
  many : length (head ∷ tail) ≡ suc room
  goes : Goes (TooLarge at) ts (emit_parameters (head ∷ tail) end)

over_case : (room here at : ℕ) (others : Option ℕ) → over_by room here others ≡ Some at → ((room ≡ 0) × (here ≡ at)) ⊎ ((others ≡ Some at) × (suc (less room) ≡ room))
over_case zero here at others h = let same : here ≡ at = cc in inl (refl, same)
over_case (suc room) here at others h = inr (h, refl)

no_over : (at : ℕ) (ts : List Terminal) (r : ReadParameters) → record { parameters = []; over = None; rest = ts } ≡ r → r.over ≡ Some at → ⊥
no_over at ts r same h = let none : r.over ≡ None = sym (ap (λ (z : ReadParameters). z.over) same) in cc

after_over : (at : ℕ) (others : List Terminal → Outcome ReadParameters) (kind : Kind) (ts : List Terminal) (r : ReadParameters) → after_parameter others kind ts ≡ Ok r → r.over ≡ Some at → (kind ≡ k.Comma) × (others (next ts) ≡ Ok r)
after_over at others k.Comma ts r e h = (refl, e)
after_over at others k.RParen ts r e h = absurd (no_over at (next ts) r (ok_is _ r e) h)
after_over at others _ ts r e h = absurd cc

large_parameters : (types : Names) (d room at n : ℕ) (ts end : List Terminal) (r : ReadParameters) → AreSigns end → read_parameters types d room n ts ≡ Ok r → r.over ≡ Some at → LargeParameters types d room at ts end
unfolding read_parameters
large_parameters types d room at zero ts end r signs e h = absurd cc
large_parameters types d room at (suc n) ts end r signs e h =
    let a = bind_ok (read_type types d ts) (λ t. new_name types t.rest >>= λ x. after_parameter (read_parameters types d (less room) n) (plain_at x.rest) x.rest >>= λ xs. Ok (add_parameter room t x xs)) r e in
    let t = (read_type_sound types d ts a.0 a.1).spans in
    let bx = bind_ok (new_name types a.0.rest) (λ x. after_parameter (read_parameters types d (less room) n) (plain_at x.rest) x.rest >>= λ xs. Ok (add_parameter room a.0 x xs)) r a.2 in
    let x = new_name_ok types a.0.rest bx.0 bx.1 in
    let bo = bind_ok (after_parameter (read_parameters types d (less room) n) (plain_at bx.0.rest) bx.0.rest) (λ xs. Ok (add_parameter room a.0 bx.0 xs)) r bx.2 in
    let over : over_by room (length a.0.rest) bo.0.over ≡ Some at = ap (λ (z : ReadParameters). z.over) (ok_is (add_parameter room a.0 bx.0 bo.0) r bo.2) ∙ h in
    elim (over_case room (length a.0.rest) at bo.0.over over) [
      | inl g ↦
          let named = at_large (TooLarge at) at bx.0.value a.0.rest bx.0.rest (Sign k.RParen ∷ end) refl (sym g.1) x.0 signs in
          record { head = typed a.0 bx.0; tail = []; formed = (t.formed, x.1, tt); low = omega (arith, t.shallow); many = omega (arith, g.0); goes = along t.spelled (under_type a.0.value_type named) }
      | inr g ↦
          let f = after_over at (read_parameters types d (less room) n) (plain_at bx.0.rest) bx.0.rest bo.0 bo.1 g.0 in
          let w = large_parameters types d (less room) at n (next bx.0.rest) end bo.0 signs f.1 g.0 in
          let comma = sign_at bx.0.rest k.Comma f.0 tt in
          record {
            head = typed a.0 bx.0;
            tail = w.head ∷ w.tail;
            formed = (t.formed, x.1, w.formed);
            low = omega (arith, t.shallow, w.low);
            many = omega (arith, w.many, g.1);
            goes = along t.spelled (under_type a.0.value_type (along x.0 (step (Word bx.0.value) (along comma (step (Sign k.Comma) w.goes)))));
          }
    ]

parameters_by_over : (types : Names) (d at : ℕ) (kind : Kind) (ts : List Terminal) (r : ReadParameters) → parameters_by types d kind ts ≡ Ok r → r.over ≡ Some at → read_parameters types d 1024 (length ts) ts ≡ Ok r
parameters_by_over types d at k.RParen ts r e h = absurd (no_over at (next ts) r (ok_is _ r e) h)
parameters_by_over types d at _ ts r e h = e

-- ---- headers

record WholeHeader (types : Names) (d : ℕ) (e : ReadError) (ts end : List Terminal) : Type 0 where
  tree : Header
  formed : FormedHeader types tree
  low : height_header tree ≤ suc d
  plain : NotLarge e
  goes : Goes e ts (emit_header tree end)

abbrev header_by : ReadType → Read (List ℕ) → ReadParameters → Read (List (List Spec)) → ReadHeader
header_by t x ps ns = record { header = record { result = t.value_type; name = x.value; parameters = ps.parameters; annotations = ns.value }; at = length t.rest; over = ps.over; rest = ns.rest }

abbrev bare : ValueType → List ℕ → List TypedName → List (List Spec) → Header
bare t x ps ns = record { result = t; name = x; parameters = ps; annotations = ns }

header_whole : (types : Names) (d : ℕ) (e : ReadError) (ts end : List Terminal) → read_header types d ts ≡ Err e → WholeHeader types d e ts end
unfolding read_header
header_whole types d e ts end h =
    let closing : List Terminal = Sign k.RParen ∷ end in
    elim (bind_err (read_type types d ts) (λ t. new_name types t.rest >>= λ x. lparen x.rest >>= λ us. parameters_by types d (plain_at us) us >>= λ ps. read_annotations types d (suc (length ps.rest)) ps.rest >>= λ ns. Ok (header_by t x ps ns)) e h) [
      | inl g ↦
          let w = type_whole types d e ts g (Word (fresh types) ∷ Sign k.LParen ∷ closing) in
          record { tree = bare w.tree (fresh types) [] []; formed = (w.formed, fresh_is types, tt, tt); low = omega (arith, w.low); plain = w.plain; goes = w.goes }
      | inr a ↦
          let t = (read_type_sound types d ts a.0 a.1).spans in
          elim (bind_err (new_name types a.0.rest) (λ x. lparen x.rest >>= λ us. parameters_by types d (plain_at us) us >>= λ ps. read_annotations types d (suc (length ps.rest)) ps.rest >>= λ ns. Ok (header_by a.0 x ps ns)) e a.2) [
            | inl g ↦
                let q = new_name_stops types e a.0.rest (Word (fresh types) ∷ Sign k.LParen ∷ closing) g in
                record { tree = bare a.0.value_type (fresh types) [] []; formed = (t.formed, fresh_is types, tt, tt); low = omega (arith, t.shallow); plain = q.0; goes = along t.spelled (under_type a.0.value_type q.1) }
            | inr bx ↦
                let x = new_name_ok types a.0.rest bx.0 bx.1 in
                elim (bind_err (lparen bx.0.rest) (λ us. parameters_by types d (plain_at us) us >>= λ ps. read_annotations types d (suc (length ps.rest)) ps.rest >>= λ ns. Ok (header_by a.0 bx.0 ps ns)) e bx.2) [
                  | inl g ↦
                      let q = lparen_stops e bx.0.rest (Sign k.LParen ∷ closing) g in
                      record { tree = bare a.0.value_type bx.0.value [] []; formed = (t.formed, x.1, tt, tt); low = omega (arith, t.shallow); plain = q.0; goes = along t.spelled (under_type a.0.value_type (along x.0 (step (Word bx.0.value) q.1))) }
                  | inr bu ↦
                      let opened = lparen_ok bx.0.rest bu.0 bu.1 in
                      elim (bind_err (parameters_by types d (plain_at bu.0) bu.0) (λ ps. read_annotations types d (suc (length ps.rest)) ps.rest >>= λ ns. Ok (header_by a.0 bx.0 ps ns)) e bu.2) [
                        | inl g ↦
                            let w = parameters_whole types d 1024 e (length bu.0) bu.0 end (parameters_by_err types d e (plain_at bu.0) bu.0 g) in
                            record {
                              tree = bare a.0.value_type bx.0.value (w.head ∷ w.tail) [];
                              formed = (t.formed, x.1, w.formed, tt);
                              low = omega (arith, t.shallow, w.low);
                              plain = w.plain;
                              goes = along t.spelled (under_type a.0.value_type (along x.0 (step (Word bx.0.value) (along opened (step (Sign k.LParen) w.goes)))));
                            }
                        | inr bp ↦
                            let p = all_sound types d (plain_at bu.0) bu.0 bp.0 refl bp.1 in
                            elim (bind_err (read_annotations types d (suc (length bp.0.rest)) bp.0.rest) (λ ns. Ok (header_by a.0 bx.0 bp.0 ns)) e bp.2) [
                              | inl g ↦
                                  let w = annotations_whole types d e (suc (length bp.0.rest)) bp.0.rest end g in
                                  record {
                                    tree = bare a.0.value_type bx.0.value bp.0.parameters w.tree;
                                    formed = (t.formed, x.1, p.formed, w.formed);
                                    low = omega (arith, t.shallow, p.shallow, w.low);
                                    plain = w.plain;
                                    goes = along t.spelled (under_type a.0.value_type (along x.0 (step (Word bx.0.value) (along opened (step (Sign k.LParen) (along p.spelled (under_parameters bp.0.parameters w.goes)))))));
                                  }
                              | inr g ↦ absurd (let bad = g.2 in cc)
                            ]
                      ]
                ]
          ]
    ]

-- a function whose name, or whose parameter, the fault is told of, with a body of nothing
record LargeHeader (types : Names) (d many at : ℕ) (ts end : List Terminal) : Type 0 where
  tree : Header
  formed : FormedHeader types tree
  low : height_header tree ≤ suc d
  counts : length tree.parameters ≡ many
  goes : Goes (TooLarge at) ts (emit_header tree (Sign k.LBrace ∷ Sign k.RBrace ∷ end))

-- what is told of a header's name, and of a parameter
abbrev IsLarge : Names → ℕ → List Terminal → List Terminal → ReadHeader → Type 0
IsLarge types d ts end r = LargeHeader types d 0 r.at ts end × ((at : ℕ) → r.over ≡ Some at → LargeHeader types d 1025 at ts end)

header_large : (types : Names) (d : ℕ) (ts end : List Terminal) (r : ReadHeader) → AreSigns end → read_header types d ts ≡ Ok r → IsLarge types d ts end r
unfolding read_header
header_large types d ts end r signs e =
    let a = bind_ok (read_type types d ts) (λ t. new_name types t.rest >>= λ x. lparen x.rest >>= λ us. parameters_by types d (plain_at us) us >>= λ ps. read_annotations types d (suc (length ps.rest)) ps.rest >>= λ ns. Ok (header_by t x ps ns)) r e in
    let t = (read_type_sound types d ts a.0 a.1).spans in
    let bx = bind_ok (new_name types a.0.rest) (λ x. lparen x.rest >>= λ us. parameters_by types d (plain_at us) us >>= λ ps. read_annotations types d (suc (length ps.rest)) ps.rest >>= λ ns. Ok (header_by a.0 x ps ns)) r a.2 in
    let x = new_name_ok types a.0.rest bx.0 bx.1 in
    let bu = bind_ok (lparen bx.0.rest) (λ us. parameters_by types d (plain_at us) us >>= λ ps. read_annotations types d (suc (length ps.rest)) ps.rest >>= λ ns. Ok (header_by a.0 bx.0 ps ns)) r bx.2 in
    let bp = bind_ok (parameters_by types d (plain_at bu.0) bu.0) (λ ps. read_annotations types d (suc (length ps.rest)) ps.rest >>= λ ns. Ok (header_by a.0 bx.0 ps ns)) r bu.2 in
    let bn = bind_ok (read_annotations types d (suc (length bp.0.rest)) bp.0.rest) (λ ns. Ok (header_by a.0 bx.0 bp.0 ns)) r bp.2 in
    let opened = lparen_ok bx.0.rest bu.0 bu.1 in
    let named = at_large (TooLarge (length a.0.rest)) (length a.0.rest) bx.0.value a.0.rest bx.0.rest (Sign k.LParen ∷ Sign k.RParen ∷ Sign k.LBrace ∷ Sign k.RBrace ∷ end) refl refl x.0 signs in
    let first : LargeHeader types d 0 (length a.0.rest) ts end =
    record { tree = bare a.0.value_type bx.0.value [] []; formed = (t.formed, x.1, tt, tt); low = omega (arith, t.shallow); counts = refl; goes = along t.spelled (under_type a.0.value_type named) } in
    subst (IsLarge types d ts end) (ok_is (header_by a.0 bx.0 bp.0 bn.0) r bn.2) (
      first,
      λ at h.
          let w = large_parameters types d 1024 at (length bu.0) bu.0 (Sign k.LBrace ∷ Sign k.RBrace ∷ end) bp.0 signs (parameters_by_over types d at (plain_at bu.0) bu.0 bp.0 bp.1 h) h in
          record {
            tree = bare a.0.value_type bx.0.value (w.head ∷ w.tail) [];
            formed = (t.formed, x.1, w.formed, tt);
            low = omega (arith, t.shallow, w.low);
            counts = w.many;
            goes = along t.spelled (under_type a.0.value_type (along x.0 (step (Word bx.0.value) (along opened (step (Sign k.LParen) w.goes)))));
          },
    )

-- ---- declarations

-- a local or a function too many where that is the fault, else no function too many
abbrev Excess : ReadError → ℕ → Declaration → Type 0
Excess OutOfMemory all d = defined_by d ≤ all
Excess (Syntax n) all d = defined_by d ≤ all
Excess (TooDeep n) all d = defined_by d ≤ all
Excess (TooLarge n) all d = (locals_declaration d ≡ 1025) ⊎ (defined_by d ≡ suc all)

record WholeDeclaration (types : Names) (loops : Bool) (all : ℕ) (e : ReadError) (ts end : List Terminal) : Type 0 where
  tree : Declaration
  formed : FormedDeclaration types loops tree
  low : height_declaration tree ≤ 201
  few : locals_declaration tree ≤ 1025
  most : defined_by tree ≤ suc all
  excess : Excess e all tree
  goes : Goes e ts (emit_declaration tree end)

no_excess : (e : ReadError) (all : ℕ) (d : Declaration) → NotLarge e → defined_by d ≤ all → Excess e all d
no_excess OutOfMemory all d plain le = le
no_excess (Syntax n) all d plain le = le
no_excess (TooDeep n) all d plain le = le
no_excess (TooLarge n) all d plain le = absurd plain

small_err : (over : Option ℕ) (e : ReadError) → small over ≡ Err e → (at : ℕ) × (over ≡ Some at) × (TooLarge at ≡ e)
small_err None e h = absurd cc
small_err (Some at) e h = let same : TooLarge at ≡ e = cc in (at, refl, same)

-- the locals of a definition whose body has so many
body_few : (e : ReadError) (parameters n : ℕ) → parameters ≤ 1024 → Counts e (1024 - parameters) n → parameters + n ≤ 1025
body_few OutOfMemory parameters n le h = omega arith
body_few (Syntax m) parameters n le h = omega arith
body_few (TooDeep m) parameters n le h = omega arith
body_few (TooLarge m) parameters n le h = omega arith

body_excess : (e : ReadError) (all : ℕ) (h : Header) (body : Statements) → length h.parameters ≤ 1024 → Counts e (1024 - length h.parameters) (locals_statements body) → Excess e (suc all) (DefineFunction h body)
body_excess OutOfMemory all h body le c = omega arith
body_excess (Syntax m) all h body le c = omega arith
body_excess (TooDeep m) all h body le c = omega arith
body_excess (TooLarge m) all h body le c = inl (omega arith)

end_whole : (types : Names) (loops : Bool) (all : ℕ) (e : ReadError) (start end : List Terminal) (at : ℕ) (over : Option ℕ) (kind : Kind) (h : Header) (ts : List Terminal) → AreSigns end
    → SoundHeader types 199 start (record { header = h; at = at; over = over; rest = ts }) → IsLarge types 199 start end (record { header = h; at = at; over = over; rest = ts })
    → plain_at ts ≡ kind → end_by types loops 199 all at over kind h ts ≡ Err e → WholeDeclaration types loops all e start end
end_whole types loops all e start end at over k.Semi h ts signs s l is f = absurd cc
end_whole types loops zero e start end at over k.LBrace h ts signs s l is f =
    let same : TooLarge at ≡ e = cc in
    let w = l.0 in
    subst (λ (z : ReadError). WholeDeclaration types loops 0 z start end) same (record {
      tree = DefineFunction w.tree nothing;
      formed = (w.formed, tt);
      low = omega (arith, w.low);
      few = omega (arith, w.counts);
      most = omega arith;
      excess = inr refl;
      goes = w.goes;
    })
end_whole types loops (suc all) e start end at over k.LBrace h ts signs s l is f =
    elim (bind_err (small over) (λ _. read_body types loops 199 (1024 - length h.parameters) (next ts) >>= λ body. Ok (record { declaration = DefineFunction h body.value; room = all; rest = body.rest })) e f) [
      | inl g ↦
          let o = small_err over e g in
          let w = l.1 o.0 o.1 in
          subst (λ (z : ReadError). WholeDeclaration types loops (suc all) z start end) o.2 (record {
            tree = DefineFunction w.tree nothing;
            formed = (w.formed, tt);
            low = omega (arith, w.low);
            few = omega (arith, w.counts);
            most = omega arith;
            excess = inl (omega (arith, w.counts));
            goes = w.goes;
          })
      | inr g ↦
          let few = s.few (small_ok over g.0 g.1) in
          elim (bind_err (read_body types loops 199 (1024 - length h.parameters) (next ts)) (λ body. Ok (record { declaration = DefineFunction h body.value; room = all; rest = body.rest })) e g.2) [
            | inl r ↦
                let w = statements_whole types loops 199 (read_statement types loops 199) (read_statement_sound types loops 199) (statement_whole types loops 199) e (suc (length (next ts))) (1024 - length h.parameters) (next ts) end signs r in
                record {
                  tree = DefineFunction h w.tree;
                  formed = (s.formed, w.formed);
                  low = omega (arith, s.shallow, w.low);
                  few = body_few e (length h.parameters) (locals_statements w.tree) few w.counts;
                  most = omega arith;
                  excess = body_excess e all h w.tree few w.counts;
                  goes = along s.spelled (under_header h (along (sign_at ts k.LBrace is tt) (step (Sign k.LBrace) w.goes)));
                }
            | inr r ↦ absurd (let bad = r.2 in cc)
          ]
    ]
end_whole types loops all e start end at over _ h ts signs s l is f =
    let q = at_refuse {A = ReadDeclaration} e ts (Sign k.Semi ∷ end) f in
    record { tree = DeclareFunction h; formed = s.formed; low = omega (arith, s.shallow); few = omega arith; most = omega arith; excess = no_excess e all (DeclareFunction h) q.0 (omega arith); goes = along s.spelled (under_header h q.1) }

function_whole : (types : Names) (loops : Bool) (all : ℕ) (e : ReadError) (ts end : List Terminal) → AreSigns end → function types loops 199 all ts ≡ Err e → WholeDeclaration types loops all e ts end
unfolding function
function_whole types loops all e ts end signs h =
    elim (bind_err (read_header types 199 ts) (λ h. end_by types loops 199 all h.at h.over (plain_at h.rest) h.header h.rest) e h) [
      | inl g ↦
          let w = header_whole types 199 e ts (Sign k.Semi ∷ end) g in
          record { tree = DeclareFunction w.tree; formed = w.formed; low = omega (arith, w.low); few = omega arith; most = omega arith; excess = no_excess e all (DeclareFunction w.tree) w.plain (omega arith); goes = w.goes }
      | inr g ↦ end_whole types loops all e ts end g.0.at g.0.over (plain_at g.0.rest) g.0.header g.0.rest signs (header_sound types 199 ts g.0 g.1) (header_large types 199 ts end g.0 signs g.1) refl g.2
    ]

struct_whole : (types : Names) (loops : Bool) (all : ℕ) (e : ReadError) (kind : Kind) (ts end : List Terminal) → AreSigns end → plain_at ts ≡ k.Struct → plain_at (next ts) ≡ k.Name → plain_at (next (next ts)) ≡ kind → struct_by types loops 199 all kind ts ≡ Err e → WholeDeclaration types loops all e ts end
struct_whole types loops all e k.Semi ts end signs is name at h = absurd cc
struct_whole types loops all e k.LBrace ts end signs is name at h =
    let us = next (next (next ts)) in
    let x = bytes_at (next ts) in
    let begun = sign_at ts k.Struct is tt in
    let named = word_at (next ts) name in
    let opened = sign_at (next (next ts)) k.LBrace at tt in
    elim (bind_err (read_fields types 199 (length ts) us) (λ fs. semi fs.rest >>= λ rest. Ok (record { declaration = DefineStruct x fs.value; room = all; rest = rest })) e h) [
      | inl g ↦
          let w = fields_whole types 199 e (length ts) us (Sign k.Semi ∷ end) g in
          record {
            tree = DefineStruct x w.tree;
            formed = w.formed;
            low = omega (arith, w.low);
            few = omega arith;
            most = omega arith;
            excess = no_excess e all (DefineStruct x w.tree) w.plain (omega arith);
            goes = along begun (step (Sign k.Struct) (along named (step (Word x) (along opened (step (Sign k.LBrace) w.goes)))));
          }
      | inr g ↦
          let f = fields_sound types 199 (length ts) us g.0 g.1 in
          elim (bind_err (semi g.0.rest) (λ rest. Ok (record { declaration = DefineStruct x g.0.value; room = all; rest = rest })) e g.2) [
            | inl r ↦
                let q = semi_stops e g.0.rest (Sign k.Semi ∷ end) r in
                record {
                  tree = DefineStruct x g.0.value;
                  formed = f.formed;
                  low = omega (arith, f.shallow);
                  few = omega arith;
                  most = omega arith;
                  excess = no_excess e all (DefineStruct x g.0.value) q.0 (omega arith);
                  goes = along begun (step (Sign k.Struct) (along named (step (Word x) (along opened (step (Sign k.LBrace) (along f.spelled (under_fields g.0.value q.1)))))));
                }
            | inr r ↦ absurd (let bad = r.2 in cc)
          ]
    ]
struct_whole types loops all e _ ts end signs is name at h = function_whole types loops all e ts end signs h

struct_of_whole : (types : Names) (loops : Bool) (all : ℕ) (e : ReadError) (kind : Kind) (ts end : List Terminal) → AreSigns end → plain_at ts ≡ k.Struct → plain_at (next ts) ≡ kind → struct_of types loops 199 all kind ts ≡ Err e → WholeDeclaration types loops all e ts end
struct_of_whole types loops all e k.Name ts end signs is name h = struct_whole types loops all e (plain_at (next (next ts))) ts end signs is name refl h
struct_of_whole types loops all e _ ts end signs is name h =
    let q = at_refuse {A = ReadDeclaration} e (next ts) (Word [] ∷ Sign k.Semi ∷ end) h in
    record { tree = DeclareStruct []; formed = tt; low = omega arith; few = omega arith; most = omega arith; excess = no_excess e all (DeclareStruct []) q.0 (omega arith); goes = along (sign_at ts k.Struct is tt) (step (Sign k.Struct) q.1) }

typedef_whole : (types : Names) (loops : Bool) (all : ℕ) (e : ReadError) (ts end : List Terminal) → plain_at ts ≡ k.Typedef
    → (read_type types 199 (next ts) >>= λ t. new_name types t.rest >>= λ x. semi x.rest >>= λ rest. Ok (record { declaration = Typedef t.value_type x.value; room = all; rest = rest })) ≡ failed ReadDeclaration e → WholeDeclaration types loops all e ts end
typedef_whole types loops all e ts end is h =
    let begun = sign_at ts k.Typedef is tt in
    let x = fresh types in
    elim (bind_err (read_type types 199 (next ts)) (λ t. new_name types t.rest >>= λ x. semi x.rest >>= λ rest. Ok (record { declaration = Typedef t.value_type x.value; room = all; rest = rest })) e h) [
      | inl g ↦
          let w = type_whole types 199 e (next ts) g (Word x ∷ Sign k.Semi ∷ end) in
          record { tree = Typedef w.tree x; formed = (w.formed, fresh_is types); low = omega (arith, w.low); few = omega arith; most = omega arith; excess = no_excess e all (Typedef w.tree x) w.plain (omega arith); goes = along begun (step (Sign k.Typedef) w.goes) }
      | inr a ↦
          let t = (read_type_sound types 199 (next ts) a.0 a.1).spans in
          let u = a.0.value_type in
          elim (bind_err (new_name types a.0.rest) (λ x. semi x.rest >>= λ rest. Ok (record { declaration = Typedef u x.value; room = all; rest = rest })) e a.2) [
            | inl g ↦
                let q = new_name_stops types e a.0.rest (Word x ∷ Sign k.Semi ∷ end) g in
                record { tree = Typedef u x; formed = (t.formed, fresh_is types); low = omega (arith, t.shallow); few = omega arith; most = omega arith; excess = no_excess e all (Typedef u x) q.0 (omega arith); goes = along begun (step (Sign k.Typedef) (along t.spelled (under_type u q.1))) }
            | inr bx ↦
                let name = new_name_ok types a.0.rest bx.0 bx.1 in
                elim (bind_err (semi bx.0.rest) (λ rest. Ok (record { declaration = Typedef u bx.0.value; room = all; rest = rest })) e bx.2) [
                  | inl g ↦
                      let q = semi_stops e bx.0.rest (Sign k.Semi ∷ end) g in
                      record {
                        tree = Typedef u bx.0.value;
                        formed = (t.formed, name.1);
                        low = omega (arith, t.shallow);
                        few = omega arith;
                        most = omega arith;
                        excess = no_excess e all (Typedef u bx.0.value) q.0 (omega arith);
                        goes = along begun (step (Sign k.Typedef) (along t.spelled (under_type u (along name.0 (step (Word bx.0.value) q.1)))));
                      }
                  | inr g ↦ absurd (let bad = g.2 in cc)
                ]
          ]
    ]

declaration_whole : (types : Names) (loops : Bool) (all : ℕ) (e : ReadError) (kind : Kind) (ts end : List Terminal) → AreSigns end → plain_at ts ≡ kind → declaration_by types loops 199 all kind ts ≡ Err e → WholeDeclaration types loops all e ts end
declaration_whole types loops all e k.Use ts end signs is h = absurd cc
declaration_whole types loops all e k.Struct ts end signs is h = struct_of_whole types loops all e (plain_at (next ts)) ts end signs is refl h
declaration_whole types loops all e k.Typedef ts end signs is h = typedef_whole types loops all e ts end is h
declaration_whole types loops all e _ ts end signs is h = function_whole types loops all e ts end signs h

-- ---- programs

-- the same of a whole program
abbrev pub ExcessIn : ReadError → ℕ → Program → Type 0
ExcessIn OutOfMemory all ds = defined_functions ds ≤ all
ExcessIn (Syntax n) all ds = defined_functions ds ≤ all
ExcessIn (TooDeep n) all ds = defined_functions ds ≤ all
ExcessIn (TooLarge n) all ds = OneTooMany all ds

pub record WholeProgram (types : Names) (loops : Bool) (all : ℕ) (e : ReadError) (ts : List Terminal) : Type 0 where
  pub tree : Program
  pub formed : FormedProgram types loops tree
  pub within : Within 201 1025 tree
  pub most : defined_functions tree ≤ suc all
  pub excess : ExcessIn e all tree
  pub goes : Goes e ts (emit_program tree)

excess_last : (e : ReadError) (all : ℕ) (d : Declaration) → Excess e all d → ExcessIn e all (d ∷ [])
excess_last OutOfMemory all d h = omega arith
excess_last (Syntax n) all d h = omega arith
excess_last (TooDeep n) all d h = omega arith
excess_last (TooLarge n) all d (inl h) = inl h
excess_last (TooLarge n) all d (inr h) = inr (omega arith)

many_before : (all room : ℕ) (d : Declaration) (ds : Program) → OneTooMany room ds → all ≡ defined_by d + room → OneTooMany all (d ∷ ds)
many_before all room d [] (inl h) is = absurd (omega arith)
many_before all room d [] (inr h) is = absurd (omega arith)
many_before all room d (x ∷ ds) (inl h) is = inl h
many_before all room d (x ∷ ds) (inr h) is = inr (omega arith)

excess_before : (e : ReadError) (all room : ℕ) (d : Declaration) (ds : Program) → ExcessIn e room ds → all ≡ defined_by d + room → ExcessIn e all (d ∷ ds)
excess_before OutOfMemory all room d ds h is = omega arith
excess_before (Syntax n) all room d ds h is = omega arith
excess_before (TooDeep n) all room d ds h is = omega arith
excess_before (TooLarge n) all room d ds h is = many_before all room d ds h is

no_program : (e : ReadError) (all : ℕ) → NotLarge e → ExcessIn e all []
no_program OutOfMemory all plain = omega arith
no_program (Syntax n) all plain = omega arith
no_program (TooDeep n) all plain = omega arith
no_program (TooLarge n) all plain = absurd plain

declarations_whole : (loops : Bool) (n : ℕ) (types : Names) (all : ℕ) (e : ReadError) (ts : List Terminal) → read_declarations types loops n all ts ≡ Err e → WholeProgram types loops all e ts
unfolding read_declarations
declarations_whole loops zero types all e [] h = absurd cc
declarations_whole loops (suc n) types all e [] h = absurd cc
declarations_whole loops zero types all e (t ∷ ts) h =
    let q = at_refuse {A = Program} e (t ∷ ts) [] h in
    record { tree = []; formed = tt; within = tt; most = omega arith; excess = no_program e all q.0; goes = q.1 }
declarations_whole loops (suc n) types all e (t ∷ ts) h =
    let us = t ∷ ts in
    elim (bind_err (read_declaration types loops all us) (λ d. read_declarations (type_names_after types d.declaration) loops n d.room d.rest >>= λ ds. Ok (d.declaration ∷ ds)) e h) [
      | inl g ↦
          let w = declaration_whole types loops all e (plain_at us) us [] tt refl g in
          record { tree = w.tree ∷ []; formed = (w.formed, tt); within = (w.low, w.few, tt); most = omega (arith, w.most); excess = excess_last e all w.tree w.excess; goes = w.goes }
      | inr g ↦
          let s = declaration_sound types loops all (plain_at us) us g.0 refl g.1 in
          elim (bind_err (read_declarations (type_names_after types g.0.declaration) loops n g.0.room g.0.rest) (λ ds. Ok (g.0.declaration ∷ ds)) e g.2) [
            | inl r ↦
                let w = declarations_whole loops n (type_names_after types g.0.declaration) g.0.room e g.0.rest r in
                record {
                  tree = g.0.declaration ∷ w.tree;
                  formed = (s.formed, w.formed);
                  within = (omega (arith, s.shallow), omega (arith, s.few), w.within);
                  most = omega (arith, s.rooms, w.most);
                  excess = excess_before e all g.0.room g.0.declaration w.tree w.excess s.rooms;
                  goes = along s.spelled (under_declaration g.0.declaration w.goes);
                }
            | inr r ↦ absurd (let bad = r.2 in cc)
          ]
    ]

pub program_whole : (loops : Bool) (e : ReadError) (ts : List Terminal) → read_program loops ts ≡ Err e → WholeProgram [] loops 4096 e ts
unfolding read_program
program_whole loops e ts h = declarations_whole loops (length ts) [] 4096 e ts h
