-- What is read as an annotation or a statement reads as it.
use Rattle.std.proofs.Common.{◌≡◌, ℕ, zero, suc, ◌+◌, ◌≤◌, ◌⊎◌, Bool, true, false, List, [], ◌∷◌, length, Option, Ok, refl, ap, subst, ◌∙◌, inl, inr, arith}
use Rattle.c0_source.specs.declared.kind.Kind.{Kind}
use Rattle.c0_source.specs.declared.kind.Kind.TheVariants as k
use Rattle.c0_syntax.specs.declared.operator.Change.{Change}
use Rattle.c0_syntax.specs.declared.operator.Change.TheVariants as c
use Rattle.c0_source.specs.Terminals.{Terminal, Word, Sign}
use Rattle.c0_syntax.specs.Trees.{Expression, Spec, Contract, Asserts, SimpleStatement, Initialize, Assign, Update, Step, Statement, Simple, Block, Annotation, ReturnValue, If, IfElse, While, For, Assert, Error, Break, Continue, Statements, nothing, also}
use Rattle.c0_syntax.specs.Expressions.{is_type_name, emit_type, emit_expression, FormedType, FormedExpression, height_type, height_expression, begins_star}
use Rattle.c0_syntax.specs.Statements.{emit_spec, emit_specs, emit_annotations, FormedSpec, FormedSpecs, FormedAnnotations, height_spec, height_specs, height_annotations, change_sign, emit_simple, FormedSimple, height_simple, locals_simple, emit_option, FormedOption, height_option, locals_option, emit_statement, emit_statements, TakesNoElse, IsLoopBody, FormedStatement, FormedStatements, height_statement, height_statements, locals_statement, locals_statements}
use Rattle.c0_grammar_laws.specs.Outcome.{Outcome, ◌>>=◌, Read, kind_at, plain_at, next, lparen, rparen, semi, new_name}
use Rattle.c0_grammar_laws.specs.ReadExpressions.{ReadType, ReadExpression, read_type, read_expression}
use Rattle.c0_grammar_laws.specs.ReadStatements.{Counted, spec_by, read_spec, specs_by, read_specs, annotations_by, read_annotations, value_by, room_by, local_declaration, step_by, behind_by, simple_by, read_simple, given, first_by, third_by, read_condition, call_of, with_semi, return_by, leave_by, else_by, statements_by, read_statements, if_of, Body, loop_body, while_of, ForEnd, for_end, ForTest, for_test, for_of, statement_by, read_statement}
use Rattle.c0_grammar_laws.proofs.Basics.{bind_ok, ok_is, sign_at, lparen_ok, rparen_ok, semi_ok, new_name_ok}
use Rattle.c0_grammar_laws.proofs.Types.{read_type_sound}
use Rattle.c0_grammar_laws.proofs.Turns.{Names}
use Rattle.c0_grammar_laws.proofs.Sound.{Sound, read_sound}
use Rattle.c0_grammar_laws.proofs.Begins.{BeginsBody}

abbrev after : Kind → List Terminal → List Terminal
after kind us = Sign kind ∷ us

-- ---- annotations

pub record SoundSpec (types : Names) (d : ℕ) (ts : List Terminal) (r : Read Spec) : Type 0 where
  pub spelled : ts ≡ emit_spec r.value r.rest
  pub formed : FormedSpec types r.value
  pub shallow : height_spec r.value ≤ d

spec_sound : (types : Names) (d : ℕ) (kind : Kind) (ts : List Terminal) (r : Read Spec) → plain_at ts ≡ kind → spec_by types d kind ts ≡ Ok r → SoundSpec types (suc d) ts r
spec_sound types d (k.Clause c) ts r is e =
    let b = bind_ok (read_expression types d 1 (next ts)) (λ e. semi e.rest >>= λ rest. Ok (record { value = Contract c e.tree; rest = rest })) r e in
    let s = read_sound types d 1 (next ts) b.0 (omega arith) (omega arith) b.1 in
    let q = bind_ok (semi b.0.rest) (λ rest. Ok (record { value = Contract c b.0.tree; rest = rest })) r b.2 in
    let spelled : ts ≡ emit_spec (Contract c b.0.tree) q.0 = sign_at ts (k.Clause c) is tt ∙ ap (after (k.Clause c)) (s.spelled ∙ ap (emit_expression b.0.tree) (semi_ok b.0.rest q.0 q.1)) in
    subst (SoundSpec types (suc d) ts) (ok_is _ r q.2) (record { spelled = spelled; formed = s.layered; shallow = omega (arith, s.shallow) })
spec_sound types d k.Assert ts r is e =
    let b = bind_ok (read_expression types d 1 (next ts)) (λ e. semi e.rest >>= λ rest. Ok (record { value = Asserts e.tree; rest = rest })) r e in
    let s = read_sound types d 1 (next ts) b.0 (omega arith) (omega arith) b.1 in
    let q = bind_ok (semi b.0.rest) (λ rest. Ok (record { value = Asserts b.0.tree; rest = rest })) r b.2 in
    let spelled : ts ≡ emit_spec (Asserts b.0.tree) q.0 = sign_at ts k.Assert is tt ∙ ap (after k.Assert) (s.spelled ∙ ap (emit_expression b.0.tree) (semi_ok b.0.rest q.0 q.1)) in
    subst (SoundSpec types (suc d) ts) (ok_is _ r q.2) (record { spelled = spelled; formed = s.layered; shallow = omega (arith, s.shallow) })
spec_sound types d _ ts r is e = absurd cc

pub read_spec_sound : (types : Names) (d : ℕ) (ts : List Terminal) (r : Read Spec) → read_spec types d ts ≡ Ok r → SoundSpec types d ts r
unfolding read_spec
read_spec_sound types zero ts r e = absurd cc
read_spec_sound types (suc d) ts r e = spec_sound types d (plain_at ts) ts r refl e

pub record SoundSpecs (types : Names) (d : ℕ) (ts : List Terminal) (r : Read (List Spec)) : Type 0 where
  pub spelled : ts ≡ emit_specs r.value r.rest
  pub formed : FormedSpecs types r.value
  pub shallow : height_specs r.value ≤ d

specs_ok : (types : Names) (d : ℕ) (go_on : List Terminal → Outcome (Read (List Spec))) (kind : Kind) (ts : List Terminal) (r : Read (List Spec)) → specs_by types d go_on kind ts ≡ Ok r
    → ((kind ≡ k.End) × (record { value = []; rest = next ts } ≡ r)) ⊎ ((read_spec types d ts >>= λ s. go_on s.rest >>= λ ss. Ok (record { value = s.value ∷ ss.value; rest = ss.rest })) ≡ Ok r)
specs_ok types d go_on k.End ts r e = inl (refl, ok_is _ _ e)
specs_ok types d go_on _ ts r e = inr e

pub read_specs_sound : (types : Names) (d n : ℕ) (ts : List Terminal) (r : Read (List Spec)) → read_specs types d n ts ≡ Ok r → SoundSpecs types d ts r
unfolding read_specs
read_specs_sound types d zero ts r e = absurd cc
read_specs_sound types d (suc n) ts r e =
    elim (specs_ok types d (read_specs types d n) (plain_at ts) ts r e) [
      | inl h ↦ subst (SoundSpecs types d ts) h.1 (record { spelled = sign_at ts k.End h.0 tt; formed = tt; shallow = omega arith })
      | inr h ↦
          let b = bind_ok (read_spec types d ts) (λ s. read_specs types d n s.rest >>= λ ss. Ok (record { value = s.value ∷ ss.value; rest = ss.rest })) r h in
          let s = read_spec_sound types d ts b.0 b.1 in
          let q = bind_ok (read_specs types d n b.0.rest) (λ ss. Ok (record { value = b.0.value ∷ ss.value; rest = ss.rest })) r b.2 in
          let o = read_specs_sound types d n b.0.rest q.0 q.1 in
          subst (SoundSpecs types d ts) (ok_is _ r q.2) (record { spelled = s.spelled ∙ ap (emit_spec b.0.value) o.spelled; formed = (s.formed, o.formed); shallow = omega (arith, s.shallow, o.shallow) })
    ]

-- with what tells that no annotation follows
pub record SoundAnnotations (types : Names) (d : ℕ) (ts : List Terminal) (r : Read (List (List Spec))) : Type 0 where
  pub spelled : ts ≡ emit_annotations r.value r.rest
  pub formed : FormedAnnotations types r.value
  pub shallow : height_annotations r.value ≤ d
  pub ends : BeginsBody (plain_at r.rest)

annotations_ok : (types : Names) (d : ℕ) (go_on : List Terminal → Outcome (Read (List (List Spec)))) (kind : Kind) (ts : List Terminal) (r : Read (List (List Spec))) → annotations_by types d go_on kind ts ≡ Ok r
    → ((kind ≡ k.Begin) × ((read_specs types d (length ts) (next ts) >>= λ a. go_on a.rest >>= λ ns. Ok (record { value = a.value ∷ ns.value; rest = ns.rest })) ≡ Ok r))
    ⊎ (BeginsBody kind × (record { value = []; rest = ts } ≡ r))
annotations_ok types d go_on k.Begin ts r e = inl (refl, e)
annotations_ok types d go_on _ ts r e = inr (tt, ok_is _ _ e)

pub read_annotations_sound : (types : Names) (d n : ℕ) (ts : List Terminal) (r : Read (List (List Spec))) → read_annotations types d n ts ≡ Ok r → SoundAnnotations types d ts r
unfolding read_annotations
read_annotations_sound types d zero ts r e = absurd cc
read_annotations_sound types d (suc n) ts r e =
    elim (annotations_ok types d (read_annotations types d n) (plain_at ts) ts r e) [
      | inl h ↦
          let b = bind_ok (read_specs types d (length ts) (next ts)) (λ a. read_annotations types d n a.rest >>= λ ns. Ok (record { value = a.value ∷ ns.value; rest = ns.rest })) r h.1 in
          let s = read_specs_sound types d (length ts) (next ts) b.0 b.1 in
          let q = bind_ok (read_annotations types d n b.0.rest) (λ ns. Ok (record { value = b.0.value ∷ ns.value; rest = ns.rest })) r b.2 in
          let o = read_annotations_sound types d n b.0.rest q.0 q.1 in
          let spelled : ts ≡ emit_annotations (b.0.value ∷ q.0.value) q.0.rest = sign_at ts k.Begin h.0 tt ∙ ap (after k.Begin) (s.spelled ∙ ap (emit_specs b.0.value) o.spelled) in
          subst (SoundAnnotations types d ts) (ok_is _ r q.2) (record { spelled = spelled; formed = (s.formed, o.formed); shallow = omega (arith, s.shallow, o.shallow); ends = o.ends })
      | inr h ↦ subst (SoundAnnotations types d ts) h.1 (record { spelled = refl; formed = tt; shallow = omega arith; ends = h.0 })
    ]

-- ---- simple statements

pub record SoundSimple (types : Names) (d all : ℕ) (ts : List Terminal) (r : Counted SimpleStatement) : Type 0 where
  pub spelled : ts ≡ emit_simple r.value r.rest
  pub formed : FormedSimple types r.value
  pub shallow : height_simple r.value ≤ d
  pub rooms : all ≡ locals_simple r.value + r.room

room_ok : (all : ℕ) (ts : List Terminal) (go_on : ℕ → Outcome (Counted SimpleStatement)) (r : Counted SimpleStatement) → room_by all ts go_on ≡ Ok r → (left : ℕ) × (all ≡ suc left) × (go_on left ≡ Ok r)
room_ok zero ts go_on r e = absurd cc
room_ok (suc left) ts go_on r e = (left, refl, e)

value_sound : (types : Names) (d all left : ℕ) (kind : Kind) (ts : List Terminal) (t : ReadType) (x : Read (List ℕ)) (r : Counted SimpleStatement) → all ≡ suc left → ts ≡ emit_type t.value_type (Word x.value ∷ x.rest) → FormedType types t.value_type → height_type t.value_type ≤ d → is_type_name types x.value ≡ false
    → plain_at x.rest ≡ kind → value_by types d left kind t.value_type x ≡ Ok r → SoundSimple types (suc d) all ts r
value_sound types d all left k.Assign ts t x r room spelled formed shallow free is e =
    let b = bind_ok (read_expression types d 1 (next x.rest)) (λ e. Ok (record { value = Initialize t.value_type x.value e.tree; room = left; rest = e.rest })) r e in
    let s = read_sound types d 1 (next x.rest) b.0 (omega arith) (omega arith) b.1 in
    let behind : x.rest ≡ Sign k.Assign ∷ emit_expression b.0.tree b.0.rest = sign_at x.rest k.Assign is tt ∙ ap (after k.Assign) s.spelled in
    subst (SoundSimple types (suc d) all ts) (ok_is _ r b.2) (record { spelled = spelled ∙ ap (λ (us : List Terminal). emit_type t.value_type (Word x.value ∷ us)) behind; formed = (formed, free, s.layered); shallow = omega (arith, s.shallow); rooms = omega arith })
value_sound types d all left _ ts t x r room spelled formed shallow free is e =
    subst (SoundSimple types (suc d) all ts) (ok_is _ r e) (record { spelled = spelled; formed = (formed, free); shallow = omega arith; rooms = omega arith })

declaration_sound : (types : Names) (d all : ℕ) (ts : List Terminal) (r : Counted SimpleStatement) → local_declaration types d all ts ≡ Ok r → SoundSimple types (suc d) all ts r
unfolding local_declaration
declaration_sound types d all ts r e =
    let b = bind_ok (read_type types d ts) (λ t. new_name types t.rest >>= λ x. room_by all t.rest (λ left. value_by types d left (plain_at x.rest) t.value_type x)) r e in
    let s = (read_type_sound types d ts b.0 b.1).spans in
    let x = bind_ok (new_name types b.0.rest) (λ x. room_by all b.0.rest (λ left. value_by types d left (plain_at x.rest) b.0.value_type x)) r b.2 in
    let name = new_name_ok types b.0.rest x.0 x.1 in
    let left = room_ok all b.0.rest (λ left. value_by types d left (plain_at x.0.rest) b.0.value_type x.0) r x.2 in
    value_sound types d all left.0 (plain_at x.0.rest) ts b.0 x.0 r left.1 (s.spelled ∙ ap (emit_type b.0.value_type) name.0) s.formed s.shallow name.1 refl left.2

step_ok : (all : ℕ) (b : Bool) (s : SimpleStatement) (a : ReadExpression) (r : Counted SimpleStatement) → step_by all b s a ≡ Ok r → (b ≡ false) × (record { value = s; room = all; rest = next a.rest } ≡ r)
step_ok all true s a r e = absurd cc
step_ok all false s a r e = (refl, ok_is _ _ e)

step_sound : (types : Names) (d all : ℕ) (way : Change) (ts : List Terminal) (a : ReadExpression) (r : Counted SimpleStatement) → Sound types d 1 ts a → a.rest ≡ Sign (change_sign way) ∷ next a.rest
    → step_by all (begins_star a.tree) (Step a.tree way) a ≡ Ok r → SoundSimple types (suc d) all ts r
step_sound types d all way ts a r s is e =
    let q = step_ok all (begins_star a.tree) (Step a.tree way) a r e in
    subst (SoundSimple types (suc d) all ts) q.1 (record { spelled = s.spelled ∙ ap (emit_expression a.tree) is; formed = (s.layered, q.0); shallow = omega (arith, s.shallow); rooms = omega arith })

behind_sound : (types : Names) (d all : ℕ) (kind : Kind) (ts : List Terminal) (a : ReadExpression) (r : Counted SimpleStatement) → Sound types d 1 ts a → plain_at a.rest ≡ kind → behind_by types d all kind a ≡ Ok r → SoundSimple types (suc d) all ts r
behind_sound types d all k.Assign ts a r s is e =
    let b = bind_ok (read_expression types d 1 (next a.rest)) (λ b. Ok (record { value = Assign a.tree b.tree; room = all; rest = b.rest })) r e in
    let q = read_sound types d 1 (next a.rest) b.0 (omega arith) (omega arith) b.1 in
    let behind : a.rest ≡ Sign k.Assign ∷ emit_expression b.0.tree b.0.rest = sign_at a.rest k.Assign is tt ∙ ap (after k.Assign) q.spelled in
    subst (SoundSimple types (suc d) all ts) (ok_is _ r b.2) (record { spelled = s.spelled ∙ ap (emit_expression a.tree) behind; formed = (s.layered, q.layered); shallow = omega (arith, s.shallow, q.shallow); rooms = omega arith })
behind_sound types d all (k.Update op) ts a r s is e =
    let b = bind_ok (read_expression types d 1 (next a.rest)) (λ b. Ok (record { value = Update a.tree op b.tree; room = all; rest = b.rest })) r e in
    let q = read_sound types d 1 (next a.rest) b.0 (omega arith) (omega arith) b.1 in
    let behind : a.rest ≡ Sign (k.Update op) ∷ emit_expression b.0.tree b.0.rest = sign_at a.rest (k.Update op) is tt ∙ ap (after (k.Update op)) q.spelled in
    subst (SoundSimple types (suc d) all ts) (ok_is _ r b.2) (record { spelled = s.spelled ∙ ap (emit_expression a.tree) behind; formed = (s.layered, q.layered); shallow = omega (arith, s.shallow, q.shallow); rooms = omega arith })
behind_sound types d all k.PlusPlus ts a r s is e = step_sound types d all c.Increment ts a r s (sign_at a.rest k.PlusPlus is tt) e
behind_sound types d all k.MinusMinus ts a r s is e = step_sound types d all c.Decrement ts a r s (sign_at a.rest k.MinusMinus is tt) e
behind_sound types d all _ ts a r s is e =
    subst (SoundSimple types (suc d) all ts) (ok_is _ r e) (record { spelled = s.spelled; formed = s.layered; shallow = omega (arith, s.shallow); rooms = omega arith })

simple_ok : (types : Names) (d all : ℕ) (kind : Kind) (ts : List Terminal) (r : Counted SimpleStatement) → simple_by types d all kind ts ≡ Ok r
    → (local_declaration types d all ts ≡ Ok r) ⊎ ((read_expression types d 1 ts >>= λ e. behind_by types d all (plain_at e.rest) e) ≡ Ok r)
simple_ok types d all (k.Base b) ts r e = inl e
simple_ok types d all k.Struct ts r e = inl e
simple_ok types d all k.TypeName ts r e = inl e
simple_ok types d all _ ts r e = inr e

pub read_simple_sound : (types : Names) (d all : ℕ) (ts : List Terminal) (r : Counted SimpleStatement) → read_simple types d all ts ≡ Ok r → SoundSimple types d all ts r
unfolding read_simple
read_simple_sound types zero all ts r e = absurd cc
read_simple_sound types (suc d) all ts r e =
    elim (simple_ok types d all (kind_at types ts) ts r e) [
      | inl h ↦ declaration_sound types d all ts r h
      | inr h ↦
          let b = bind_ok (read_expression types d 1 ts) (λ e. behind_by types d all (plain_at e.rest) e) r h in
          behind_sound types d all (plain_at b.0.rest) ts b.0 r (read_sound types d 1 ts b.0 (omega arith) (omega arith) b.1) refl b.2
    ]

-- ---- the parts of `for`

pub record SoundOption (types : Names) (d all : ℕ) (ts : List Terminal) (r : Counted (Option SimpleStatement)) : Type 0 where
  pub spelled : ts ≡ emit_option r.value r.rest
  pub formed : FormedOption types r.value
  pub shallow : height_option r.value ≤ d
  pub rooms : all ≡ locals_option r.value + r.room

given_sound : (types : Names) (d all : ℕ) (ts : List Terminal) (r : Counted (Option SimpleStatement)) → (read_simple types d all ts >>= λ s. Ok (given s)) ≡ Ok r → SoundOption types d all ts r
given_sound types d all ts r e =
    let b = bind_ok (read_simple types d all ts) (λ s. Ok (given s)) r e in
    let s = read_simple_sound types d all ts b.0 b.1 in
    subst (SoundOption types d all ts) (ok_is _ r b.2) (record { spelled = s.spelled; formed = s.formed; shallow = s.shallow; rooms = s.rooms })

pub first_sound : (types : Names) (d all : ℕ) (kind : Kind) (ts : List Terminal) (r : Counted (Option SimpleStatement)) → first_by types d all kind ts ≡ Ok r → SoundOption types d all ts r
first_sound types d all k.Semi ts r e = subst (SoundOption types d all ts) (ok_is _ r e) (record { spelled = refl; formed = tt; shallow = omega arith; rooms = omega arith })
first_sound types d all _ ts r e = given_sound types d all ts r e

pub third_sound : (types : Names) (d all : ℕ) (kind : Kind) (ts : List Terminal) (r : Counted (Option SimpleStatement)) → third_by types d all kind ts ≡ Ok r → SoundOption types d all ts r
third_sound types d all k.RParen ts r e = subst (SoundOption types d all ts) (ok_is _ r e) (record { spelled = refl; formed = tt; shallow = omega arith; rooms = omega arith })
third_sound types d all _ ts r e = given_sound types d all ts r e

-- ---- statements

abbrev pub Inner : Type 0
Inner = ℕ → List Terminal → Outcome (Counted Statement)

pub record SoundStatement (types : Names) (loops : Bool) (d all : ℕ) (ts : List Terminal) (r : Counted Statement) : Type 0 where
  pub spelled : ts ≡ emit_statement r.value r.rest
  pub formed : FormedStatement types loops r.value
  pub shallow : height_statement r.value ≤ d
  pub rooms : all ≡ locals_statement r.value + r.room
  pub ends : plain_at r.rest ≡ k.Else → TakesNoElse r.value

pub record SoundStatements (types : Names) (loops : Bool) (d all : ℕ) (ts : List Terminal) (r : Counted Statements) : Type 0 where
  pub spelled : ts ≡ emit_statements r.value r.rest
  pub formed : FormedStatements types loops r.value
  pub shallow : height_statements r.value ≤ d
  pub rooms : all ≡ locals_statements r.value + r.room

abbrev pub IsSound : Names → Bool → ℕ → Inner → Type 0
IsSound types loops d inner = (all : ℕ) (ts : List Terminal) (r : Counted Statement) → inner all ts ≡ Ok r → SoundStatement types loops d all ts r

-- `(` exp `)`
pub record SoundTest (types : Names) (d : ℕ) (ts : List Terminal) (r : Read Expression) : Type 0 where
  pub spelled : ts ≡ Sign k.LParen ∷ emit_expression r.value (Sign k.RParen ∷ r.rest)
  pub layered : FormedExpression types 1 r.value
  pub shallow : height_expression r.value ≤ d

pub test_sound : (types : Names) (d : ℕ) (ts : List Terminal) (r : Read Expression) → read_condition types d ts ≡ Ok r → SoundTest types d ts r
unfolding read_condition
test_sound types d ts r e =
    let a = bind_ok (lparen ts) (λ us. read_expression types d 1 us >>= λ e. rparen e.rest >>= λ rest. Ok (record { value = e.tree; rest = rest })) r e in
    let b = bind_ok (read_expression types d 1 a.0) (λ e. rparen e.rest >>= λ rest. Ok (record { value = e.tree; rest = rest })) r a.2 in
    let s = read_sound types d 1 a.0 b.0 (omega arith) (omega arith) b.1 in
    let q = bind_ok (rparen b.0.rest) (λ rest. Ok (record { value = b.0.tree; rest = rest })) r b.2 in
    let whole : ts ≡ Sign k.LParen ∷ emit_expression b.0.tree (Sign k.RParen ∷ q.0) = lparen_ok ts a.0 a.1 ∙ ap (after k.LParen) (s.spelled ∙ ap (emit_expression b.0.tree) (rparen_ok b.0.rest q.0 q.1)) in
    subst (SoundTest types d ts) (ok_is _ r q.2) (record { spelled = whole; layered = s.layered; shallow = s.shallow })

pub record SoundCall (types : Names) (d : ℕ) (ts : List Terminal) (r : Read Expression) : Type 0 where
  pub spelled : ts ≡ Sign k.LParen ∷ emit_expression r.value (Sign k.RParen ∷ Sign k.Semi ∷ r.rest)
  pub layered : FormedExpression types 1 r.value
  pub shallow : height_expression r.value ≤ d

pub call_sound : (types : Names) (d : ℕ) (ts : List Terminal) (r : Read Expression) → call_of types d ts ≡ Ok r → SoundCall types d ts r
unfolding call_of
call_sound types d ts r e =
    let a = bind_ok (read_condition types d ts) (λ e. semi e.rest >>= λ rest. Ok (record { value = e.value; rest = rest })) r e in
    let t = test_sound types d ts a.0 a.1 in
    let q = bind_ok (semi a.0.rest) (λ rest. Ok (record { value = a.0.value; rest = rest })) r a.2 in
    let whole : ts ≡ Sign k.LParen ∷ emit_expression a.0.value (Sign k.RParen ∷ Sign k.Semi ∷ q.0) = t.spelled ∙ ap (λ (us : List Terminal). Sign k.LParen ∷ emit_expression a.0.value (Sign k.RParen ∷ us)) (semi_ok a.0.rest q.0 q.1) in
    subst (SoundCall types d ts) (ok_is _ r q.2) (record { spelled = whole; layered = t.layered; shallow = t.shallow })

semi_sound : (s : Statement) (room : ℕ) (ts : List Terminal) (r : Counted Statement) → with_semi s room ts ≡ Ok r → (ts ≡ Sign k.Semi ∷ r.rest) × (record { value = s; room = room; rest = r.rest } ≡ r)
semi_sound s room ts r e =
    let q = bind_ok (semi ts) (λ rest. Ok (record { value = s; room = room; rest = rest })) r e in
    subst (λ (x : Counted Statement). (ts ≡ Sign k.Semi ∷ x.rest) × (record { value = s; room = room; rest = x.rest } ≡ x)) (ok_is _ r q.2) (semi_ok ts q.0 q.1, refl)

else_ok : (types : Names) (loops : Bool) (inner : Inner) (d : ℕ) (kind : Kind) (c : Expression) (a r : Counted Statement) → else_by types loops inner d kind c a ≡ Ok r
    → ((kind ≡ k.Else) × ((inner a.room (next a.rest) >>= λ b. Ok (record { value = IfElse c a.value b.value; room = b.room; rest = b.rest })) ≡ Ok r)) ⊎ ((kind ≡ k.Else → ⊥) × (record { value = If c a.value; room = a.room; rest = a.rest } ≡ r))
else_ok types loops inner d k.Else c a r e = inl (refl, e)
else_ok types loops inner d _ c a r e = inr (λ f. cc, ok_is _ _ e)

if_sound : (types : Names) (loops : Bool) (d all : ℕ) (inner : Inner) → IsSound types loops d inner → (ts : List Terminal) (r : Counted Statement) → plain_at ts ≡ k.If → if_of types loops inner d all (next ts) ≡ Ok r → SoundStatement types loops (suc d) all ts r
unfolding if_of
if_sound types loops d all inner sound ts r is e =
    let bc = bind_ok (read_condition types d (next ts)) (λ c. inner all c.rest >>= λ a. else_by types loops inner d (plain_at a.rest) c.value a) r e in
    let t = test_sound types d (next ts) bc.0 bc.1 in
    let ba = bind_ok (inner all bc.0.rest) (λ a. else_by types loops inner d (plain_at a.rest) bc.0.value a) r bc.2 in
    let s = sound all bc.0.rest ba.0 ba.1 in
    let begun = sign_at ts k.If is tt in
    elim (else_ok types loops inner d (plain_at ba.0.rest) bc.0.value ba.0 r ba.2) [
      | inl h ↦
          let bb = bind_ok (inner ba.0.room (next ba.0.rest)) (λ b. Ok (record { value = IfElse bc.0.value ba.0.value b.value; room = b.room; rest = b.rest })) r h.1 in
          let q = sound ba.0.room (next ba.0.rest) bb.0 bb.1 in
          let between : ba.0.rest ≡ Sign k.Else ∷ emit_statement bb.0.value bb.0.rest = sign_at ba.0.rest k.Else h.0 tt ∙ ap (after k.Else) q.spelled in
          let arms : bc.0.rest ≡ emit_statement ba.0.value (Sign k.Else ∷ emit_statement bb.0.value bb.0.rest) = s.spelled ∙ ap (emit_statement ba.0.value) between in
          let whole : ts ≡ emit_statement (IfElse bc.0.value ba.0.value bb.0.value) bb.0.rest =
          begun ∙ ap (after k.If) (t.spelled ∙ ap (λ (us : List Terminal). Sign k.LParen ∷ emit_expression bc.0.value (Sign k.RParen ∷ us)) arms) in
          subst (SoundStatement types loops (suc d) all ts) (ok_is _ r bb.2) (record { spelled = whole; formed = (t.layered, s.formed, s.ends h.0, q.formed); shallow = omega (arith, t.shallow, s.shallow, q.shallow); rooms = omega (arith, s.rooms, q.rooms); ends = q.ends })
      | inr h ↦
          let whole : ts ≡ emit_statement (If bc.0.value ba.0.value) ba.0.rest =
          begun ∙ ap (after k.If) (t.spelled ∙ ap (λ (us : List Terminal). Sign k.LParen ∷ emit_expression bc.0.value (Sign k.RParen ∷ us)) s.spelled) in
          subst (SoundStatement types loops (suc d) all ts) h.1 (record { spelled = whole; formed = (t.layered, s.formed); shallow = omega (arith, t.shallow, s.shallow); rooms = s.rooms; ends = h.0 })
    ]

-- what follows the annotations is no annotation
body_by : (s : Statement) (rest : List Terminal) → BeginsBody (plain_at (emit_statement s rest)) → IsLoopBody s
body_by (Annotation a) rest b = b
body_by _ rest b = tt

record SoundBody (types : Names) (loops : Bool) (d all : ℕ) (ts : List Terminal) (r : Body) : Type 0 where
  spelled : ts ≡ emit_annotations r.annotations (emit_statement r.body r.rest)
  annotations : FormedAnnotations types r.annotations
  formed : FormedStatement types loops r.body
  is_body : IsLoopBody r.body
  low : height_annotations r.annotations ≤ d
  shallow : height_statement r.body ≤ d
  rooms : all ≡ locals_statement r.body + r.room
  ends : plain_at r.rest ≡ k.Else → TakesNoElse r.body

body_sound : (types : Names) (loops : Bool) (d all : ℕ) (inner : Inner) → IsSound types loops d inner → (ts : List Terminal) (r : Body) → loop_body types loops inner d all ts ≡ Ok r → SoundBody types loops d all ts r
unfolding loop_body
body_sound types loops d all inner sound ts r e =
    let bn = bind_ok (read_annotations types d (suc (length ts)) ts) (λ ns. inner all ns.rest >>= λ s. Ok (record { annotations = ns.value; body = s.value; room = s.room; rest = s.rest })) r e in
    let n = read_annotations_sound types d (suc (length ts)) ts bn.0 bn.1 in
    let ba = bind_ok (inner all bn.0.rest) (λ s. Ok (record { annotations = bn.0.value; body = s.value; room = s.room; rest = s.rest })) r bn.2 in
    let s = sound all bn.0.rest ba.0 ba.1 in
    let body = body_by ba.0.value ba.0.rest (subst (λ (us : List Terminal). BeginsBody (plain_at us)) s.spelled n.ends) in
    subst (SoundBody types loops d all ts) (ok_is _ r ba.2) (record { spelled = n.spelled ∙ ap (emit_annotations bn.0.value) s.spelled; annotations = n.formed; formed = s.formed; is_body = body; low = n.shallow; shallow = s.shallow; rooms = s.rooms; ends = s.ends })

while_sound : (types : Names) (loops : Bool) (d all : ℕ) (inner : Inner) → IsSound types loops d inner → (ts : List Terminal) (r : Counted Statement) → plain_at ts ≡ k.While → while_of types loops inner d all (next ts) ≡ Ok r → SoundStatement types loops (suc d) all ts r
unfolding while_of
while_sound types loops d all inner sound ts r is e =
    let bc = bind_ok (read_condition types d (next ts)) (λ c. loop_body types loops inner d all c.rest >>= λ b. Ok (record { value = While c.value b.annotations b.body; room = b.room; rest = b.rest })) r e in
    let t = test_sound types d (next ts) bc.0 bc.1 in
    let bb = bind_ok (loop_body types loops inner d all bc.0.rest) (λ b. Ok (record { value = While bc.0.value b.annotations b.body; room = b.room; rest = b.rest })) r bc.2 in
    let s = body_sound types loops d all inner sound bc.0.rest bb.0 bb.1 in
    let whole : ts ≡ emit_statement (While bc.0.value bb.0.annotations bb.0.body) bb.0.rest =
    sign_at ts k.While is tt ∙ ap (after k.While) (t.spelled ∙ ap (λ (us : List Terminal). Sign k.LParen ∷ emit_expression bc.0.value (Sign k.RParen ∷ us)) s.spelled) in
    subst (SoundStatement types loops (suc d) all ts) (ok_is _ r bb.2) (record { spelled = whole; formed = (t.layered, s.annotations, s.formed, s.is_body); shallow = omega (arith, t.shallow, s.low, s.shallow); rooms = s.rooms; ends = s.ends })

record SoundEnd (types : Names) (loops : Bool) (d all : ℕ) (ts : List Terminal) (r : ForEnd) : Type 0 where
  spelled : ts ≡ emit_option r.step (Sign k.RParen ∷ emit_annotations r.body.annotations (emit_statement r.body.body r.body.rest))
  step : FormedOption types r.step
  annotations : FormedAnnotations types r.body.annotations
  formed : FormedStatement types loops r.body.body
  is_body : IsLoopBody r.body.body
  flat : height_option r.step ≤ d
  low : height_annotations r.body.annotations ≤ d
  shallow : height_statement r.body.body ≤ d
  rooms : all ≡ locals_option r.step + (locals_statement r.body.body + r.body.room)
  ends : plain_at r.body.rest ≡ k.Else → TakesNoElse r.body.body

end_sound : (types : Names) (loops : Bool) (d all : ℕ) (inner : Inner) → IsSound types loops d inner → (ts : List Terminal) (r : ForEnd) → for_end types loops inner d all ts ≡ Ok r → SoundEnd types loops d all ts r
unfolding for_end
end_sound types loops d all inner sound ts r e =
    let bn = bind_ok (third_by types d all (plain_at ts) ts) (λ n. rparen n.rest >>= λ us. loop_body types loops inner d n.room us >>= λ b. Ok (record { step = n.value; body = b })) r e in
    let n = third_sound types d all (plain_at ts) ts bn.0 bn.1 in
    let bu = bind_ok (rparen bn.0.rest) (λ us. loop_body types loops inner d bn.0.room us >>= λ b. Ok (record { step = bn.0.value; body = b })) r bn.2 in
    let bb = bind_ok (loop_body types loops inner d bn.0.room bu.0) (λ b. Ok (record { step = bn.0.value; body = b })) r bu.2 in
    let s = body_sound types loops d bn.0.room inner sound bu.0 bb.0 bb.1 in
    let closed = rparen_ok bn.0.rest bu.0 bu.1 in
    subst (SoundEnd types loops d all ts) (ok_is _ r bb.2) (record { spelled = n.spelled ∙ ap (emit_option bn.0.value) (closed ∙ ap (after k.RParen) s.spelled); step = n.formed; annotations = s.annotations; formed = s.formed; is_body = s.is_body; flat = n.shallow; low = s.low; shallow = s.shallow; rooms = omega (arith, n.rooms, s.rooms); ends = s.ends })

record SoundForTest (types : Names) (loops : Bool) (d all : ℕ) (ts : List Terminal) (r : ForTest) (us : List Terminal) : Type 0 where
  spelled : ts ≡ emit_expression r.test (Sign k.Semi ∷ us)
  layered : FormedExpression types 1 r.test
  tall : height_expression r.test ≤ d
  ended : SoundEnd types loops d all us r.end

for_test_sound : (types : Names) (loops : Bool) (d all : ℕ) (inner : Inner) → IsSound types loops d inner → (ts : List Terminal) (r : ForTest) → for_test types loops inner d all ts ≡ Ok r → (us : List Terminal) × SoundForTest types loops d all ts r us
unfolding for_test
for_test_sound types loops d all inner sound ts r e =
    let bc = bind_ok (read_expression types d 1 ts) (λ c. semi c.rest >>= λ us. for_end types loops inner d all us >>= λ e. Ok (record { test = c.tree; end = e })) r e in
    let c = read_sound types d 1 ts bc.0 (omega arith) (omega arith) bc.1 in
    let bu = bind_ok (semi bc.0.rest) (λ us. for_end types loops inner d all us >>= λ e. Ok (record { test = bc.0.tree; end = e })) r bc.2 in
    let be = bind_ok (for_end types loops inner d all bu.0) (λ e. Ok (record { test = bc.0.tree; end = e })) r bu.2 in
    let s = end_sound types loops d all inner sound bu.0 be.0 be.1 in
    let behind = semi_ok bc.0.rest bu.0 bu.1 in
    (bu.0, subst (λ (x : ForTest). SoundForTest types loops d all ts x bu.0) (ok_is _ r be.2) (record { spelled = c.spelled ∙ ap (emit_expression bc.0.tree) behind; layered = c.layered; tall = c.shallow; ended = s }))

for_sound : (types : Names) (loops : Bool) (d all : ℕ) (inner : Inner) → IsSound types loops d inner → (ts : List Terminal) (r : Counted Statement) → plain_at ts ≡ k.For → for_of types loops inner d all (next ts) ≡ Ok r → SoundStatement types loops (suc d) all ts r
unfolding for_of
for_sound types loops d all inner sound ts r is e =
    let bu = bind_ok (lparen (next ts)) (λ us. first_by types d all (plain_at us) us >>= λ i. semi i.rest >>= λ vs. for_test types loops inner d i.room vs >>= λ t. Ok (record { value = For i.value t.test t.end.step t.end.body.annotations t.end.body.body; room = t.end.body.room; rest = t.end.body.rest })) r e in
    let bi = bind_ok (first_by types d all (plain_at bu.0) bu.0) (λ i. semi i.rest >>= λ vs. for_test types loops inner d i.room vs >>= λ t. Ok (record { value = For i.value t.test t.end.step t.end.body.annotations t.end.body.body; room = t.end.body.room; rest = t.end.body.rest })) r bu.2 in
    let i = first_sound types d all (plain_at bu.0) bu.0 bi.0 bi.1 in
    let bv = bind_ok (semi bi.0.rest) (λ vs. for_test types loops inner d bi.0.room vs >>= λ t. Ok (record { value = For bi.0.value t.test t.end.step t.end.body.annotations t.end.body.body; room = t.end.body.room; rest = t.end.body.rest })) r bi.2 in
    let bt = bind_ok (for_test types loops inner d bi.0.room bv.0) (λ t. Ok (record { value = For bi.0.value t.test t.end.step t.end.body.annotations t.end.body.body; room = t.end.body.room; rest = t.end.body.rest })) r bv.2 in
    let s = for_test_sound types loops d bi.0.room inner sound bv.0 bt.0 bt.1 in
    let t = s.1 in
    let x = t.ended in
    let behind : bu.0 ≡ emit_option bi.0.value (Sign k.Semi ∷ emit_expression bt.0.test (Sign k.Semi ∷ emit_option bt.0.end.step (Sign k.RParen ∷ emit_annotations bt.0.end.body.annotations (emit_statement bt.0.end.body.body bt.0.end.body.rest)))) =
    i.spelled ∙ ap (emit_option bi.0.value) (semi_ok bi.0.rest bv.0 bv.1 ∙ ap (after k.Semi) (t.spelled ∙ ap (λ (us : List Terminal). emit_expression bt.0.test (Sign k.Semi ∷ us)) x.spelled)) in
    let whole : ts ≡ emit_statement (For bi.0.value bt.0.test bt.0.end.step bt.0.end.body.annotations bt.0.end.body.body) bt.0.end.body.rest =
    sign_at ts k.For is tt ∙ ap (after k.For) (lparen_ok (next ts) bu.0 bu.1 ∙ ap (after k.LParen) behind) in
    subst (SoundStatement types loops (suc d) all ts) (ok_is _ r bt.2) (record {
      spelled = whole;
      formed = (i.formed, t.layered, x.step, x.annotations, x.formed, x.is_body);
      shallow = omega (arith, i.shallow, t.tall, x.flat, x.low, x.shallow);
      rooms = omega (arith, i.rooms, x.rooms);
      ends = x.ends;
    })

return_sound : (types : Names) (loops : Bool) (d all : ℕ) (kind : Kind) (ts : List Terminal) (r : Counted Statement) → plain_at ts ≡ k.Return → plain_at (next ts) ≡ kind → return_by types d all kind (next ts) ≡ Ok r → SoundStatement types loops (suc d) all ts r
return_sound types loops d all k.Semi ts r is at e =
    subst (SoundStatement types loops (suc d) all ts) (ok_is _ r e) (record { spelled = sign_at ts k.Return is tt ∙ ap (after k.Return) (sign_at (next ts) k.Semi at tt); formed = tt; shallow = omega arith; rooms = omega arith; ends = λ _. tt })
return_sound types loops d all _ ts r is at e =
    let b = bind_ok (read_expression types d 1 (next ts)) (λ e. with_semi (ReturnValue e.tree) all e.rest) r e in
    let s = read_sound types d 1 (next ts) b.0 (omega arith) (omega arith) b.1 in
    let q = semi_sound (ReturnValue b.0.tree) all b.0.rest r b.2 in
    let whole : ts ≡ emit_statement (ReturnValue b.0.tree) r.rest = sign_at ts k.Return is tt ∙ ap (after k.Return) (s.spelled ∙ ap (emit_expression b.0.tree) q.0) in
    subst (SoundStatement types loops (suc d) all ts) q.1 (record { spelled = whole; formed = s.layered; shallow = omega (arith, s.shallow); rooms = omega arith; ends = λ _. tt })

leave_ok : (loops : Bool) (s : Statement) (room : ℕ) (ts : List Terminal) (r : Counted Statement) → leave_by loops s room ts ≡ Ok r → (loops ≡ true) × (with_semi s room (next ts) ≡ Ok r)
leave_ok true s room ts r e = (refl, e)
leave_ok false s room ts r e = absurd cc

plain_sound : (types : Names) (loops : Bool) (d all : ℕ) (ts : List Terminal) (r : Counted Statement) → (read_simple types (suc d) all ts >>= λ s. with_semi (Simple s.value) s.room s.rest) ≡ Ok r → SoundStatement types loops (suc d) all ts r
plain_sound types loops d all ts r e =
    let b = bind_ok (read_simple types (suc d) all ts) (λ s. with_semi (Simple s.value) s.room s.rest) r e in
    let s = read_simple_sound types (suc d) all ts b.0 b.1 in
    let q = semi_sound (Simple b.0.value) b.0.room b.0.rest r b.2 in
    subst (SoundStatement types loops (suc d) all ts) q.1 (record { spelled = s.spelled ∙ ap (emit_simple b.0.value) q.0; formed = s.formed; shallow = s.shallow; rooms = s.rooms; ends = λ _. tt })

statements_ok : (types : Names) (loops : Bool) (inner : Inner) (d : ℕ) (kind : Kind) (go_on : ℕ → List Terminal → Outcome (Counted Statements)) (all : ℕ) (ts : List Terminal) (r : Counted Statements) → statements_by types loops inner d kind go_on all ts ≡ Ok r
    → ((kind ≡ k.RBrace) × (record { value = nothing; room = all; rest = next ts } ≡ r)) ⊎ ((inner all ts >>= λ s. go_on s.room s.rest >>= λ ss. Ok (record { value = also s.value ss.value; room = ss.room; rest = ss.rest })) ≡ Ok r)
statements_ok types loops inner d k.RBrace go_on all ts r e = inl (refl, ok_is _ _ e)
statements_ok types loops inner d _ go_on all ts r e = inr e

pub statements_sound : (types : Names) (loops : Bool) (d : ℕ) (inner : Inner) → IsSound types loops d inner → (n all : ℕ) (ts : List Terminal) (r : Counted Statements) → read_statements types loops inner d n all ts ≡ Ok r → SoundStatements types loops d all ts r
unfolding read_statements
statements_sound types loops d inner sound zero all ts r e = absurd cc
statements_sound types loops d inner sound (suc n) all ts r e =
    elim (statements_ok types loops inner d (plain_at ts) (read_statements types loops inner d n) all ts r e) [
      | inl h ↦ subst (SoundStatements types loops d all ts) h.1 (record { spelled = sign_at ts k.RBrace h.0 tt; formed = tt; shallow = omega arith; rooms = omega arith })
      | inr h ↦
          let b = bind_ok (inner all ts) (λ s. read_statements types loops inner d n s.room s.rest >>= λ ss. Ok (record { value = also s.value ss.value; room = ss.room; rest = ss.rest })) r h in
          let s = sound all ts b.0 b.1 in
          let q = bind_ok (read_statements types loops inner d n b.0.room b.0.rest) (λ ss. Ok (record { value = also b.0.value ss.value; room = ss.room; rest = ss.rest })) r b.2 in
          let o = statements_sound types loops d inner sound n b.0.room b.0.rest q.0 q.1 in
          subst (SoundStatements types loops d all ts) (ok_is _ r q.2) (record { spelled = s.spelled ∙ ap (emit_statement b.0.value) o.spelled; formed = (s.formed, o.formed); shallow = omega (arith, s.shallow, o.shallow); rooms = omega (arith, s.rooms, o.rooms) })
    ]

statement_sound_by : (types : Names) (loops : Bool) (d all : ℕ) (inner : Inner) → IsSound types loops d inner → (kind : Kind) (ts : List Terminal) (r : Counted Statement) → plain_at ts ≡ kind → statement_by types loops inner d kind all ts ≡ Ok r → SoundStatement types loops (suc d) all ts r
statement_sound_by types loops d all inner sound k.LBrace ts r is e =
    let b = bind_ok (read_statements types loops inner d (length ts) all (next ts)) (λ ss. Ok (record { value = Block ss.value; room = ss.room; rest = ss.rest })) r e in
    let s = statements_sound types loops d inner sound (length ts) all (next ts) b.0 b.1 in
    subst (SoundStatement types loops (suc d) all ts) (ok_is _ r b.2) (record { spelled = sign_at ts k.LBrace is tt ∙ ap (after k.LBrace) s.spelled; formed = s.formed; shallow = omega (arith, s.shallow); rooms = s.rooms; ends = λ _. tt })
statement_sound_by types loops d all inner sound k.Begin ts r is e =
    let b = bind_ok (read_specs types d (length ts) (next ts)) (λ a. Ok (record { value = Annotation a.value; room = all; rest = a.rest })) r e in
    let s = read_specs_sound types d (length ts) (next ts) b.0 b.1 in
    subst (SoundStatement types loops (suc d) all ts) (ok_is _ r b.2) (record { spelled = sign_at ts k.Begin is tt ∙ ap (after k.Begin) s.spelled; formed = s.formed; shallow = omega (arith, s.shallow); rooms = omega arith; ends = λ _. tt })
statement_sound_by types loops d all inner sound k.Return ts r is e = return_sound types loops d all (plain_at (next ts)) ts r is refl e
statement_sound_by types loops d all inner sound k.If ts r is e = if_sound types loops d all inner sound ts r is e
statement_sound_by types loops d all inner sound k.While ts r is e = while_sound types loops d all inner sound ts r is e
statement_sound_by types loops d all inner sound k.For ts r is e = for_sound types loops d all inner sound ts r is e
statement_sound_by types loops d all inner sound k.Assert ts r is e =
    let b = bind_ok (call_of types d (next ts)) (λ e. Ok (record { value = Assert e.value; room = all; rest = e.rest })) r e in
    let s = call_sound types d (next ts) b.0 b.1 in
    subst (SoundStatement types loops (suc d) all ts) (ok_is _ r b.2) (record { spelled = sign_at ts k.Assert is tt ∙ ap (after k.Assert) s.spelled; formed = s.layered; shallow = omega (arith, s.shallow); rooms = omega arith; ends = λ _. tt })
statement_sound_by types loops d all inner sound k.Error ts r is e =
    let b = bind_ok (call_of types d (next ts)) (λ e. Ok (record { value = Error e.value; room = all; rest = e.rest })) r e in
    let s = call_sound types d (next ts) b.0 b.1 in
    subst (SoundStatement types loops (suc d) all ts) (ok_is _ r b.2) (record { spelled = sign_at ts k.Error is tt ∙ ap (after k.Error) s.spelled; formed = s.layered; shallow = omega (arith, s.shallow); rooms = omega arith; ends = λ _. tt })
statement_sound_by types loops d all inner sound k.Break ts r is e =
    let l = leave_ok loops Break all ts r e in
    let q = semi_sound Break all (next ts) r l.1 in
    subst (SoundStatement types loops (suc d) all ts) q.1 (record { spelled = sign_at ts k.Break is tt ∙ ap (after k.Break) q.0; formed = l.0; shallow = omega arith; rooms = omega arith; ends = λ _. tt })
statement_sound_by types loops d all inner sound k.Continue ts r is e =
    let l = leave_ok loops Continue all ts r e in
    let q = semi_sound Continue all (next ts) r l.1 in
    subst (SoundStatement types loops (suc d) all ts) q.1 (record { spelled = sign_at ts k.Continue is tt ∙ ap (after k.Continue) q.0; formed = l.0; shallow = omega arith; rooms = omega arith; ends = λ _. tt })
statement_sound_by types loops d all inner sound _ ts r is e = plain_sound types loops d all ts r e

pub read_statement_sound : (types : Names) (loops : Bool) (d : ℕ) → IsSound types loops d (read_statement types loops d)
unfolding read_statement
read_statement_sound types loops zero all ts r e = absurd cc
read_statement_sound types loops (suc d) all ts r e = statement_sound_by types loops d all (read_statement types loops d) (read_statement_sound types loops d) (plain_at ts) ts r refl e
