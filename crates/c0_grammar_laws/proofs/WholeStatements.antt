-- Where reading an annotation or a statement meets a fault, the tokens before it begin one.
use Rattle.std.proofs.Common.{◌≡◌, ℕ, zero, suc, ◌+◌, ◌≤◌, ◌⊎◌, Bool, true, false, List, [], ◌∷◌, length, Option, Some, None, Ok, Err, refl, ap, subst, inl, inr, arith}
use Rattle.c0_source.specs.declared.kind.Kind.{Kind}
use Rattle.c0_source.specs.declared.kind.Kind.TheVariants as k
use Rattle.c0_syntax.specs.declared.operator.Change.TheVariants as c
use Rattle.c0_source.specs.Terminals.{Terminal, Word, Sign}
use Rattle.c0_syntax.specs.Trees.{Expression, Number, Spec, Contract, Asserts, SimpleStatement, Declare, Initialize, Assign, Update, Step, Evaluate, Statement}
use Rattle.c0_syntax.specs.Expressions.{emit_type, emit_expression, FormedType, FormedExpression, height_type, height_expression, begins_star, is_type_name}
use Rattle.c0_syntax.specs.Statements.{emit_spec, emit_specs, emit_annotations, FormedSpec, FormedSpecs, FormedAnnotations, height_spec, height_specs, height_annotations, emit_simple, FormedSimple, height_simple, locals_simple, emit_option, FormedOption, height_option, locals_option}
use Rattle.c0_grammar_laws.specs.declared.read_error.ReadError.{ReadError}
use Rattle.c0_grammar_laws.specs.declared.read_error.ReadError.TheVariants.{OutOfMemory, Syntax, TooDeep, TooLarge}
use Rattle.c0_grammar_laws.specs.Limits.{AreSigns}
use Rattle.c0_grammar_laws.specs.Outcome.{Outcome, ◌>>=◌, Read, refuse, too_deep, kind_at, plain_at, next, lparen, rparen, semi, new_name}
use Rattle.c0_grammar_laws.specs.ReadExpressions.{ReadType, ReadExpression, read_type, read_expression}
use Rattle.c0_grammar_laws.specs.ReadStatements.{Counted, spec_by, read_spec, specs_by, read_specs, annotations_by, read_annotations, value_by, room_by, local_declaration, step_by, behind_by, simple_by, read_simple, given, first_by, third_by, read_condition, call_of, with_semi}
use Rattle.c0_grammar_laws.proofs.Basics.{sign_at, lparen_ok, new_name_ok}
use Rattle.c0_grammar_laws.proofs.Types.{read_type_sound}
use Rattle.c0_grammar_laws.proofs.Turns.{Names}
use Rattle.c0_grammar_laws.proofs.Sound.{Sound, read_sound}
use Rattle.c0_grammar_laws.proofs.SoundStatements.{read_spec_sound, read_specs_sound, test_sound}
use Rattle.c0_grammar_laws.proofs.Whole.{failed, bind_err, NotLarge, Goes, at_refuse, at_deep, at_large, lparen_stops, rparen_stops, semi_stops, new_name_stops, fresh, fresh_is, step, along, under_type, under_expression, under_spec, under_specs}
use Rattle.c0_grammar_laws.proofs.WholeTypes.{type_whole}
use Rattle.c0_grammar_laws.proofs.WholeExpressions.{expression_whole}

-- ---- how many locals there are, where there may be so many

-- one too many where that is the fault, else at most one too many
abbrev pub Counts : ReadError → ℕ → ℕ → Type 0
Counts OutOfMemory all n = n ≤ suc all
Counts (Syntax m) all n = n ≤ suc all
Counts (TooDeep m) all n = n ≤ suc all
Counts (TooLarge m) all n = n ≡ suc all

pub counted : (e : ReadError) (all n : ℕ) → NotLarge e → n ≤ suc all → Counts e all n
counted OutOfMemory all n plain le = le
counted (Syntax m) all n plain le = le
counted (TooDeep m) all n plain le = le
counted (TooLarge m) all n plain le = absurd plain

pub later : (e : ReadError) (all room before n : ℕ) → Counts e room n → all ≡ before + room → Counts e all (before + n)
later OutOfMemory all room before n h is = omega arith
later (Syntax m) all room before n h is = omega arith
later (TooDeep m) all room before n h is = omega arith
later (TooLarge m) all room before n h is = omega arith

pub as_many : (e : ReadError) (all n m : ℕ) → Counts e all n → n ≡ m → Counts e all m
as_many e all n m h is = subst (Counts e all) is h

-- ---- annotations

record WholeSpec (types : Names) (d : ℕ) (e : ReadError) (ts end : List Terminal) : Type 0 where
  tree : Spec
  formed : FormedSpec types tree
  low : height_spec tree ≤ suc d
  plain : NotLarge e
  goes : Goes e ts (emit_spec tree end)

spec_whole : (types : Names) (d : ℕ) (e : ReadError) (kind : Kind) (ts end : List Terminal) → plain_at ts ≡ kind → spec_by types d kind ts ≡ Err e → WholeSpec types (suc d) e ts end
spec_whole types d e (k.Clause x) ts end is h =
    let begun = sign_at ts (k.Clause x) is tt in
    elim (bind_err (read_expression types d 1 (next ts)) (λ a. semi a.rest >>= λ rest. Ok (record { value = Contract x a.tree; rest = rest })) e h) [
      | inl g ↦
          let w = expression_whole types d 1 e (next ts) (omega arith) (omega arith) g (Sign k.Semi ∷ end) in
          record { tree = Contract x w.tree; formed = w.layered; low = omega (arith, w.low); plain = w.plain; goes = along begun (step (Sign (k.Clause x)) w.goes) }
      | inr g ↦
          let s = read_sound types d 1 (next ts) g.0 (omega arith) (omega arith) g.1 in
          elim (bind_err (semi g.0.rest) (λ rest. Ok (record { value = Contract x g.0.tree; rest = rest })) e g.2) [
            | inl r ↦
                let q = semi_stops e g.0.rest (Sign k.Semi ∷ end) r in
                record { tree = Contract x g.0.tree; formed = s.layered; low = omega (arith, s.shallow); plain = q.0; goes = along begun (step (Sign (k.Clause x)) (along s.spelled (under_expression g.0.tree q.1))) }
            | inr r ↦ absurd (let bad = r.2 in cc)
          ]
    ]
spec_whole types d e k.Assert ts end is h =
    let begun = sign_at ts k.Assert is tt in
    elim (bind_err (read_expression types d 1 (next ts)) (λ a. semi a.rest >>= λ rest. Ok (record { value = Asserts a.tree; rest = rest })) e h) [
      | inl g ↦
          let w = expression_whole types d 1 e (next ts) (omega arith) (omega arith) g (Sign k.Semi ∷ end) in
          record { tree = Asserts w.tree; formed = w.layered; low = omega (arith, w.low); plain = w.plain; goes = along begun (step (Sign k.Assert) w.goes) }
      | inr g ↦
          let s = read_sound types d 1 (next ts) g.0 (omega arith) (omega arith) g.1 in
          elim (bind_err (semi g.0.rest) (λ rest. Ok (record { value = Asserts g.0.tree; rest = rest })) e g.2) [
            | inl r ↦
                let q = semi_stops e g.0.rest (Sign k.Semi ∷ end) r in
                record { tree = Asserts g.0.tree; formed = s.layered; low = omega (arith, s.shallow); plain = q.0; goes = along begun (step (Sign k.Assert) (along s.spelled (under_expression g.0.tree q.1))) }
            | inr r ↦ absurd (let bad = r.2 in cc)
          ]
    ]
spec_whole types d e _ ts end is h =
    let q = at_refuse {A = Read Spec} e ts (Sign k.Assert ∷ Sign (k.Number 0) ∷ Sign k.Semi ∷ end) h in
    record { tree = Asserts (Number 0); formed = tt; low = omega arith; plain = q.0; goes = q.1 }

pub record WholeSpecs (types : Names) (d : ℕ) (e : ReadError) (ts end : List Terminal) : Type 0 where
  pub tree : List Spec
  pub formed : FormedSpecs types tree
  pub low : height_specs tree ≤ suc d
  pub plain : NotLarge e
  pub goes : Goes e ts (emit_specs tree end)

-- a spec that fails; where it may have no level, the annotation ends before it
one_spec : (types : Names) (d : ℕ) (e : ReadError) (ts end : List Terminal) → read_spec types d ts ≡ Err e → WholeSpecs types d e ts end
unfolding read_spec
one_spec types zero e ts end h =
    let q = at_deep {A = Read Spec} e ts (Sign k.End ∷ end) h in
    record { tree = []; formed = tt; low = omega arith; plain = q.0; goes = q.1 }
one_spec types (suc d) e ts end h =
    let w = spec_whole types d e (plain_at ts) ts (Sign k.End ∷ end) refl h in
    record { tree = w.tree ∷ []; formed = (w.formed, tt); low = omega (arith, w.low); plain = w.plain; goes = w.goes }

specs_err : (types : Names) (d : ℕ) (e : ReadError) (go_on : List Terminal → Outcome (Read (List Spec))) (kind : Kind) (ts : List Terminal) → specs_by types d go_on kind ts ≡ Err e
    → (read_spec types d ts >>= λ s. go_on s.rest >>= λ ss. Ok (record { value = s.value ∷ ss.value; rest = ss.rest })) ≡ failed (Read (List Spec)) e
specs_err types d e go_on k.End ts h = absurd cc
specs_err types d e go_on _ ts h = h

pub specs_whole : (types : Names) (d : ℕ) (e : ReadError) (n : ℕ) (ts end : List Terminal) → read_specs types d n ts ≡ Err e → WholeSpecs types d e ts end
unfolding read_specs
specs_whole types d e zero ts end h =
    let q = at_refuse {A = Read (List Spec)} e ts (Sign k.End ∷ end) h in
    record { tree = []; formed = tt; low = omega arith; plain = q.0; goes = q.1 }
specs_whole types d e (suc n) ts end h =
    let f = specs_err types d e (read_specs types d n) (plain_at ts) ts h in
    elim (bind_err (read_spec types d ts) (λ s. read_specs types d n s.rest >>= λ ss. Ok (record { value = s.value ∷ ss.value; rest = ss.rest })) e f) [
      | inl g ↦ one_spec types d e ts end g
      | inr g ↦
          let s = read_spec_sound types d ts g.0 g.1 in
          elim (bind_err (read_specs types d n g.0.rest) (λ ss. Ok (record { value = g.0.value ∷ ss.value; rest = ss.rest })) e g.2) [
            | inl r ↦
                let w = specs_whole types d e n g.0.rest end r in
                record { tree = g.0.value ∷ w.tree; formed = (s.formed, w.formed); low = omega (arith, s.shallow, w.low); plain = w.plain; goes = along s.spelled (under_spec g.0.value w.goes) }
            | inr r ↦ absurd (let bad = r.2 in cc)
          ]
    ]

pub record WholeAnnotations (types : Names) (d : ℕ) (e : ReadError) (ts end : List Terminal) : Type 0 where
  pub tree : List (List Spec)
  pub formed : FormedAnnotations types tree
  pub low : height_annotations tree ≤ suc d
  pub plain : NotLarge e
  pub goes : Goes e ts (emit_annotations tree end)

annotations_err : (types : Names) (d : ℕ) (e : ReadError) (go_on : List Terminal → Outcome (Read (List (List Spec)))) (kind : Kind) (ts : List Terminal) → annotations_by types d go_on kind ts ≡ Err e
    → (kind ≡ k.Begin) × ((read_specs types d (length ts) (next ts) >>= λ a. go_on a.rest >>= λ ns. Ok (record { value = a.value ∷ ns.value; rest = ns.rest })) ≡ failed (Read (List (List Spec))) e)
annotations_err types d e go_on k.Begin ts h = (refl, h)
annotations_err types d e go_on _ ts h = absurd cc

pub annotations_whole : (types : Names) (d : ℕ) (e : ReadError) (n : ℕ) (ts end : List Terminal) → read_annotations types d n ts ≡ Err e → WholeAnnotations types d e ts end
unfolding read_annotations
annotations_whole types d e zero ts end h =
    let q = at_refuse {A = Read (List (List Spec))} e ts end h in
    record { tree = []; formed = tt; low = omega arith; plain = q.0; goes = q.1 }
annotations_whole types d e (suc n) ts end h =
    let f = annotations_err types d e (read_annotations types d n) (plain_at ts) ts h in
    let begun = sign_at ts k.Begin f.0 tt in
    elim (bind_err (read_specs types d (length ts) (next ts)) (λ a. read_annotations types d n a.rest >>= λ ns. Ok (record { value = a.value ∷ ns.value; rest = ns.rest })) e f.1) [
      | inl g ↦
          let w = specs_whole types d e (length ts) (next ts) end g in
          record { tree = w.tree ∷ []; formed = (w.formed, tt); low = omega (arith, w.low); plain = w.plain; goes = along begun (step (Sign k.Begin) w.goes) }
      | inr g ↦
          let s = read_specs_sound types d (length ts) (next ts) g.0 g.1 in
          elim (bind_err (read_annotations types d n g.0.rest) (λ ns. Ok (record { value = g.0.value ∷ ns.value; rest = ns.rest })) e g.2) [
            | inl r ↦
                let w = annotations_whole types d e n g.0.rest end r in
                record { tree = g.0.value ∷ w.tree; formed = (s.formed, w.formed); low = omega (arith, s.shallow, w.low); plain = w.plain; goes = along begun (step (Sign k.Begin) (along s.spelled (under_specs g.0.value w.goes))) }
            | inr r ↦ absurd (let bad = r.2 in cc)
          ]
    ]

-- ---- simple statements

pub record WholeSimple (types : Names) (d all : ℕ) (e : ReadError) (ts end : List Terminal) : Type 0 where
  pub tree : SimpleStatement
  pub formed : FormedSimple types tree
  pub low : height_simple tree ≤ suc d
  pub counts : Counts e all (locals_simple tree)
  pub goes : Goes e ts (emit_simple tree end)

value_err : (types : Names) (d left : ℕ) (e : ReadError) (kind : Kind) (t : ReadType) (x : Read (List ℕ)) → value_by types d left kind t.value_type x ≡ Err e
    → (kind ≡ k.Assign) × ((read_expression types d 1 (next x.rest) >>= λ a. Ok (record { value = Initialize t.value_type x.value a.tree; room = left; rest = a.rest })) ≡ failed (Counted SimpleStatement) e)
value_err types d left e k.Assign t x h = (refl, h)
value_err types d left e _ t x h = absurd cc

-- behind the name: no room for it, or a value that fails
room_whole : (types : Names) (d all : ℕ) (e : ReadError) (ts end : List Terminal) (t : ReadType) (x : Read (List ℕ)) → AreSigns end → ts ≡ emit_type t.value_type t.rest → t.rest ≡ Word x.value ∷ x.rest → FormedType types t.value_type → height_type t.value_type ≤ d
    → is_type_name types x.value ≡ false → room_by all t.rest (λ left. value_by types d left (plain_at x.rest) t.value_type x) ≡ Err e → WholeSimple types (suc d) all e ts end
room_whole types d zero e ts end t x signs spelled named formed shallow free h =
    let same : TooLarge (length t.rest) ≡ e = cc in
    let g = at_large e (length t.rest) x.value t.rest x.rest end same refl named signs in
    record { tree = Declare t.value_type x.value; formed = (formed, free); low = omega arith; counts = subst (λ (z : ReadError). Counts z 0 1) same refl; goes = along spelled (under_type t.value_type g) }
room_whole types d (suc left) e ts end t x signs spelled named formed shallow free h =
    let f = value_err types d left e (plain_at x.rest) t x h in
    let begun = sign_at x.rest k.Assign f.0 tt in
    elim (bind_err (read_expression types d 1 (next x.rest)) (λ a. Ok (record { value = Initialize t.value_type x.value a.tree; room = left; rest = a.rest })) e f.1) [
      | inl g ↦
          let w = expression_whole types d 1 e (next x.rest) (omega arith) (omega arith) g end in
          record {
            tree = Initialize t.value_type x.value w.tree;
            formed = (formed, free, w.layered);
            low = omega (arith, w.low);
            counts = counted e (suc left) 1 w.plain (omega arith);
            goes = along spelled (under_type t.value_type (along named (step (Word x.value) (along begun (step (Sign k.Assign) w.goes)))));
          }
      | inr g ↦ absurd (let bad = g.2 in cc)
    ]

local_whole : (types : Names) (d all : ℕ) (e : ReadError) (ts end : List Terminal) → AreSigns end → local_declaration types d all ts ≡ Err e → WholeSimple types (suc d) all e ts end
unfolding local_declaration
local_whole types d all e ts end signs h =
    let x = fresh types in
    elim (bind_err (read_type types d ts) (λ t. new_name types t.rest >>= λ x. room_by all t.rest (λ left. value_by types d left (plain_at x.rest) t.value_type x)) e h) [
      | inl g ↦
          let w = type_whole types d e ts g (Word x ∷ end) in
          record { tree = Declare w.tree x; formed = (w.formed, fresh_is types); low = omega (arith, w.low); counts = counted e all 1 w.plain (omega arith); goes = w.goes }
      | inr g ↦
          let s = (read_type_sound types d ts g.0 g.1).spans in
          elim (bind_err (new_name types g.0.rest) (λ x. room_by all g.0.rest (λ left. value_by types d left (plain_at x.rest) g.0.value_type x)) e g.2) [
            | inl r ↦
                let q = new_name_stops types e g.0.rest (Word x ∷ end) r in
                record { tree = Declare g.0.value_type x; formed = (s.formed, fresh_is types); low = omega (arith, s.shallow); counts = counted e all 1 q.0 (omega arith); goes = along s.spelled (under_type g.0.value_type q.1) }
            | inr r ↦
                let name = new_name_ok types g.0.rest r.0 r.1 in
                room_whole types d all e ts end g.0 r.0 signs s.spelled name.0 s.formed s.shallow name.1 r.2
          ]
    ]

step_err : (all : ℕ) (b : Bool) (s : SimpleStatement) (a : ReadExpression) (e : ReadError) → step_by all b s a ≡ Err e → refuse {A = Counted SimpleStatement} a.rest ≡ Err e
step_err all true s a e h = h
step_err all false s a e h = absurd cc

stopped : (types : Names) (d all : ℕ) (e : ReadError) (ts end : List Terminal) (a : ReadExpression) → Sound types d 1 ts a → refuse {A = Counted SimpleStatement} a.rest ≡ Err e → WholeSimple types (suc d) all e ts end
stopped types d all e ts end a s h =
    let q = at_refuse {A = Counted SimpleStatement} e a.rest end h in
    record { tree = Evaluate a.tree; formed = s.layered; low = omega (arith, s.shallow); counts = counted e all 0 q.0 (omega arith); goes = along s.spelled (under_expression a.tree q.1) }

behind_whole : (types : Names) (d all : ℕ) (e : ReadError) (kind : Kind) (ts end : List Terminal) (a : ReadExpression) → Sound types d 1 ts a → plain_at a.rest ≡ kind → behind_by types d all kind a ≡ Err e → WholeSimple types (suc d) all e ts end
behind_whole types d all e k.Assign ts end a s is h =
    elim (bind_err (read_expression types d 1 (next a.rest)) (λ b. Ok (record { value = Assign a.tree b.tree; room = all; rest = b.rest })) e h) [
      | inl g ↦
          let w = expression_whole types d 1 e (next a.rest) (omega arith) (omega arith) g end in
          record { tree = Assign a.tree w.tree; formed = (s.layered, w.layered); low = omega (arith, s.shallow, w.low); counts = counted e all 0 w.plain (omega arith); goes = along s.spelled (under_expression a.tree (along (sign_at a.rest k.Assign is tt) (step (Sign k.Assign) w.goes))) }
      | inr g ↦ absurd (let bad = g.2 in cc)
    ]
behind_whole types d all e (k.Update op) ts end a s is h =
    elim (bind_err (read_expression types d 1 (next a.rest)) (λ b. Ok (record { value = Update a.tree op b.tree; room = all; rest = b.rest })) e h) [
      | inl g ↦
          let w = expression_whole types d 1 e (next a.rest) (omega arith) (omega arith) g end in
          record { tree = Update a.tree op w.tree; formed = (s.layered, w.layered); low = omega (arith, s.shallow, w.low); counts = counted e all 0 w.plain (omega arith); goes = along s.spelled (under_expression a.tree (along (sign_at a.rest (k.Update op) is tt) (step (Sign (k.Update op)) w.goes))) }
      | inr g ↦ absurd (let bad = g.2 in cc)
    ]
behind_whole types d all e k.PlusPlus ts end a s is h = stopped types d all e ts end a s (step_err all (begins_star a.tree) (Step a.tree c.Increment) a e h)
behind_whole types d all e k.MinusMinus ts end a s is h = stopped types d all e ts end a s (step_err all (begins_star a.tree) (Step a.tree c.Decrement) a e h)
behind_whole types d all e _ ts end a s is h = absurd cc

simple_err : (types : Names) (d all : ℕ) (e : ReadError) (kind : Kind) (ts : List Terminal) → simple_by types d all kind ts ≡ Err e
    → (local_declaration types d all ts ≡ Err e) ⊎ ((read_expression types d 1 ts >>= λ a. behind_by types d all (plain_at a.rest) a) ≡ Err e)
simple_err types d all e (k.Base x) ts h = inl h
simple_err types d all e k.Struct ts h = inl h
simple_err types d all e k.TypeName ts h = inl h
simple_err types d all e _ ts h = inr h

pub simple_whole : (types : Names) (d all : ℕ) (e : ReadError) (ts end : List Terminal) → AreSigns end → read_simple types (suc d) all ts ≡ Err e → WholeSimple types (suc d) all e ts end
unfolding read_simple
simple_whole types d all e ts end signs h =
    elim (simple_err types d all e (kind_at types ts) ts h) [
      | inl g ↦ local_whole types d all e ts end signs g
      | inr g ↦ elim (bind_err (read_expression types d 1 ts) (λ a. behind_by types d all (plain_at a.rest) a) e g) [
        | inl r ↦
            let w = expression_whole types d 1 e ts (omega arith) (omega arith) r end in
            record { tree = Evaluate w.tree; formed = w.layered; low = omega (arith, w.low); counts = counted e all 0 w.plain (omega arith); goes = w.goes }
        | inr r ↦ behind_whole types d all e (plain_at r.0.rest) ts end r.0 (read_sound types d 1 ts r.0 (omega arith) (omega arith) r.1) refl r.2
      ]
    ]

-- ---- the parts of `for`

pub record WholeOption (types : Names) (d all : ℕ) (e : ReadError) (ts end : List Terminal) : Type 0 where
  pub tree : Option SimpleStatement
  pub formed : FormedOption types tree
  pub low : height_option tree ≤ suc d
  pub counts : Counts e all (locals_option tree)
  pub goes : Goes e ts (emit_option tree end)

-- where it may have no level, there is none
given_whole : (types : Names) (d all : ℕ) (e : ReadError) (ts end : List Terminal) → AreSigns end → (read_simple types d all ts >>= λ s. Ok (given s)) ≡ Err e → WholeOption types d all e ts end
unfolding read_simple
given_whole types zero all e ts end signs h =
    let same : TooDeep (length ts) ≡ e = cc in
    let again : too_deep {A = Counted SimpleStatement} ts ≡ Err e = ap (λ (z : ReadError). Err z) same in
    let q = at_deep {A = Counted SimpleStatement} e ts end again in
    record { tree = None; formed = tt; low = omega arith; counts = counted e all 0 q.0 (omega arith); goes = q.1 }
given_whole types (suc d) all e ts end signs h =
    elim (bind_err (read_simple types (suc d) all ts) (λ s. Ok (given s)) e h) [
      | inl g ↦
          let w = simple_whole types d all e ts end signs g in
          record { tree = Some w.tree; formed = w.formed; low = w.low; counts = w.counts; goes = w.goes }
      | inr g ↦ absurd (let bad = g.2 in cc)
    ]

pub first_whole : (types : Names) (d all : ℕ) (e : ReadError) (kind : Kind) (ts end : List Terminal) → AreSigns end → first_by types d all kind ts ≡ Err e → WholeOption types d all e ts end
first_whole types d all e k.Semi ts end signs h = absurd cc
first_whole types d all e _ ts end signs h = given_whole types d all e ts end signs h

pub third_whole : (types : Names) (d all : ℕ) (e : ReadError) (kind : Kind) (ts end : List Terminal) → AreSigns end → third_by types d all kind ts ≡ Err e → WholeOption types d all e ts end
third_whole types d all e k.RParen ts end signs h = absurd cc
third_whole types d all e _ ts end signs h = given_whole types d all e ts end signs h

-- ---- statements

-- `(` exp `)`
pub record WholeTest (types : Names) (d : ℕ) (e : ReadError) (ts end : List Terminal) : Type 0 where
  pub tree : Expression
  pub layered : FormedExpression types 1 tree
  pub low : height_expression tree ≤ suc d
  pub plain : NotLarge e
  pub goes : Goes e ts (Sign k.LParen ∷ emit_expression tree (Sign k.RParen ∷ end))

pub test_whole : (types : Names) (d : ℕ) (e : ReadError) (ts end : List Terminal) → read_condition types d ts ≡ Err e → WholeTest types d e ts end
unfolding read_condition
test_whole types d e ts end h =
    elim (bind_err (lparen ts) (λ us. read_expression types d 1 us >>= λ a. rparen a.rest >>= λ rest. Ok (record { value = a.tree; rest = rest })) e h) [
      | inl g ↦
          let q = lparen_stops e ts (Sign k.LParen ∷ Sign (k.Number 0) ∷ Sign k.RParen ∷ end) g in
          record { tree = Number 0; layered = tt; low = omega arith; plain = q.0; goes = q.1 }
      | inr a ↦
          let opened = lparen_ok ts a.0 a.1 in
          elim (bind_err (read_expression types d 1 a.0) (λ x. rparen x.rest >>= λ rest. Ok (record { value = x.tree; rest = rest })) e a.2) [
            | inl g ↦
                let w = expression_whole types d 1 e a.0 (omega arith) (omega arith) g (Sign k.RParen ∷ end) in
                record { tree = w.tree; layered = w.layered; low = w.low; plain = w.plain; goes = along opened (step (Sign k.LParen) w.goes) }
            | inr g ↦
                let s = read_sound types d 1 a.0 g.0 (omega arith) (omega arith) g.1 in
                elim (bind_err (rparen g.0.rest) (λ rest. Ok (record { value = g.0.tree; rest = rest })) e g.2) [
                  | inl r ↦
                      let q = rparen_stops e g.0.rest (Sign k.RParen ∷ end) r in
                      record { tree = g.0.tree; layered = s.layered; low = omega (arith, s.shallow); plain = q.0; goes = along opened (step (Sign k.LParen) (along s.spelled (under_expression g.0.tree q.1))) }
                  | inr r ↦ absurd (let bad = r.2 in cc)
                ]
          ]
    ]

-- `(` exp `)` `;`
pub call_whole : (types : Names) (d : ℕ) (e : ReadError) (ts end : List Terminal) → call_of types d ts ≡ Err e → WholeTest types d e ts (Sign k.Semi ∷ end)
unfolding call_of
call_whole types d e ts end h =
    elim (bind_err (read_condition types d ts) (λ x. semi x.rest >>= λ rest. Ok (record { value = x.value; rest = rest })) e h) [
      | inl g ↦ test_whole types d e ts (Sign k.Semi ∷ end) g
      | inr g ↦
          let s = test_sound types d ts g.0 g.1 in
          elim (bind_err (semi g.0.rest) (λ rest. Ok (record { value = g.0.value; rest = rest })) e g.2) [
            | inl r ↦
                let q = semi_stops e g.0.rest (Sign k.Semi ∷ end) r in
                record { tree = g.0.value; layered = s.layered; low = omega (arith, s.shallow); plain = q.0; goes = along s.spelled (step (Sign k.LParen) (under_expression g.0.value (step (Sign k.RParen) q.1))) }
            | inr r ↦ absurd (let bad = r.2 in cc)
          ]
    ]

pub semi_whole : (s : Statement) (room : ℕ) (e : ReadError) (ts : List Terminal) → with_semi s room ts ≡ Err e → semi ts ≡ Err e
semi_whole s room e ts h =
    elim (bind_err (semi ts) (λ rest. Ok (record { value = s; room = room; rest = rest })) e h) [
      | inl g ↦ g
      | inr g ↦ absurd (let bad = g.2 in cc)
    ]
