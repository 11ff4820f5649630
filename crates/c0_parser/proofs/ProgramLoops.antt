-- The loops over fields, parameters and declarations.
use Rattle.std.proofs.Common.{◌≡◌, ℕ, zero, suc, ◌<◌, Bool, List, [], ◌∷◌, ◌++◌, length, Option, Some, None, Ok, Err, refl, sym, ◌∙◌, arith}
use Rattle.std.proofs.lemmas.List.{append-nil}
use mathlib.Core.List.{append_assoc}
use Rattle.c0_source.specs.declared.kind.Kind.{Kind}
use Rattle.c0_source.specs.declared.kind.Kind.TheVariants as k
use Rattle.c0_source.specs.Terminals.{Terminal}
use Rattle.c0_syntax.specs.Trees.{TypedName, Declaration, Program}
use Rattle.c0_syntax.specs.Programs.{type_names_after}
use Rattle.c0_grammar_laws.specs.declared.read_error.ReadError.{ReadError}
use Rattle.c0_grammar_laws.specs.Outcome.{Outcome, ◌>>=◌, Read, Fails, plain_at, next, refuse, any_name, new_name, semi}
use Rattle.c0_grammar_laws.specs.ReadExpressions.{ReadType, read_type}
use Rattle.c0_grammar_laws.specs.ReadPrograms.{ReadParameters, ReadDeclaration, fields_by, read_fields, over_by, add_parameter, less, after_parameter, read_parameters, read_declaration, read_declarations, read_program}
use Rattle.c0_parser.specs.FoundPrograms.{ReadParameter, one_field, one_parameter, first_known}
use Rattle.c0_parser_cursor.proofs.Turned.{fails_along, fails_bind}
use Rattle.c0_parser.proofs.ListLoops.{before_others, one_more}

abbrev Names : Type 0
Names = List (List ℕ)

-- ---- fields

semi_assoc : (s : Outcome (List Terminal)) (x : TypedName) (go_on : List Terminal → Outcome (Read (List TypedName)))
    → (s >>= λ us. go_on us >>= λ xs. Ok (before_others x xs)) ≡ one_more (s >>= λ us. Ok (record { value = x; rest = us })) go_on
semi_assoc (Ok us) x go_on = refl
semi_assoc (Err e) x go_on = refl

name_assoc : (n : Outcome (Read (List ℕ))) (t : ReadType) (go_on : List Terminal → Outcome (Read (List TypedName)))
    → (n >>= λ x. semi x.rest >>= λ us. go_on us >>= λ xs. Ok (before_others (record { value_type = t.value_type; name = x.value }) xs)) ≡ one_more (n >>= λ x. semi x.rest >>= λ us. Ok (record { value = record { value_type = t.value_type; name = x.value }; rest = us })) go_on
name_assoc (Ok x) t go_on = semi_assoc (semi x.rest) (record { value_type = t.value_type; name = x.value }) go_on
name_assoc (Err e) t go_on = refl

type_assoc : (r : Outcome ReadType) (go_on : List Terminal → Outcome (Read (List TypedName)))
    → (r >>= λ t. any_name t.rest >>= λ x. semi x.rest >>= λ us. go_on us >>= λ xs. Ok (before_others (record { value_type = t.value_type; name = x.value }) xs))
    ≡ one_more (r >>= λ t. any_name t.rest >>= λ x. semi x.rest >>= λ us. Ok (record { value = record { value_type = t.value_type; name = x.value }; rest = us })) go_on
type_assoc (Ok t) go_on = name_assoc (any_name t.rest) t go_on
type_assoc (Err e) go_on = refl

fields_other : (types : Names) (d : ℕ) (go_on : List Terminal → Outcome (Read (List TypedName))) (kind : Kind) (ts : List Terminal) → (kind ≡ k.RBrace → ⊥) → fields_by types d go_on kind ts ≡ one_more (one_field types d ts) go_on
fields_other types d go_on k.RBrace ts h = absurd (h refl)
fields_other types d go_on _ ts h = type_assoc (read_type types d ts) go_on

pub fields_step : (types : Names) (d m n : ℕ) (ts : List Terminal) → m ≡ suc n → (plain_at ts ≡ k.RBrace → ⊥) → read_fields types d m ts ≡ one_more (one_field types d ts) (read_fields types d n)
unfolding read_fields
fields_step types d m n ts e h = rw e (fields_other types d (read_fields types d n) (plain_at ts) ts h)

pub fields_last : (types : Names) (d m n : ℕ) (ts : List Terminal) → m ≡ suc n → plain_at ts ≡ k.RBrace → read_fields types d m ts ≡ Ok (record { value = []; rest = next ts })
unfolding read_fields
fields_last types d m n ts e is = rw (e, is) refl

pub fields_none : (types : Names) (d m : ℕ) (ts : List Terminal) → m ≡ 0 → read_fields types d m ts ≡ refuse ts
unfolding read_fields
fields_none types d m ts e = rw e refl

-- ---- parameters

-- the parameters read before, with those that are read from here on
abbrev pub with_parameters : List TypedName → Option ℕ → Outcome ReadParameters → Outcome ReadParameters
with_parameters front over o = o >>= λ r. Ok (record { parameters = front ++ r.parameters; over = first_known over r.over; rest = r.rest })

known_again : (over : Option ℕ) (room at : ℕ) (later : Option ℕ) → first_known over (over_by room at later) ≡ first_known (first_known over (over_by room at None)) later
known_again None zero at later = refl
known_again None (suc room) at later = refl
known_again (Some x) room at later = refl

pub no_parameters : (o : Outcome ReadParameters) → with_parameters [] None o ≡ o
no_parameters (Ok r) = refl
no_parameters (Err e) = refl

-- one parameter before the others
abbrev put_first : ℕ → ReadParameter → ReadParameters → ReadParameters
put_first room p xs = record { parameters = p.parameter ∷ xs.parameters; over = over_by room p.at xs.over; rest = xs.rest }

regroup : (front : List TypedName) (over : Option ℕ) (room : ℕ) (p : ReadParameter) (o : Outcome ReadParameters)
    → with_parameters front over (o >>= λ xs. Ok (put_first room p xs)) ≡ with_parameters (front ++ p.parameter ∷ []) (first_known over (over_by room p.at None)) o
regroup front over room p (Ok r) = rw (known_again over room p.at r.over, append_assoc front (p.parameter ∷ []) r.parameters) refl
regroup front over room p (Err e) = refl

-- a parameter and what stands behind it
abbrev one_and_more : ℕ → Outcome ReadParameter → (List Terminal → Outcome ReadParameters) → Outcome ReadParameters
one_and_more room i others = i >>= λ p. after_parameter others (plain_at p.rest) p.rest >>= λ xs. Ok (put_first room p xs)

parameter_name : (n : Outcome (Read (List ℕ))) (room : ℕ) (t : ReadType) (others : List Terminal → Outcome ReadParameters)
    → (n >>= λ x. after_parameter others (plain_at x.rest) x.rest >>= λ xs. Ok (add_parameter room t x xs)) ≡ one_and_more room (n >>= λ x. Ok (record { parameter = record { value_type = t.value_type; name = x.value }; at = length t.rest; rest = x.rest })) others
parameter_name (Ok x) room t others = refl
parameter_name (Err e) room t others = refl

parameter_type : (types : Names) (r : Outcome ReadType) (room : ℕ) (others : List Terminal → Outcome ReadParameters)
    → (r >>= λ t. new_name types t.rest >>= λ x. after_parameter others (plain_at x.rest) x.rest >>= λ xs. Ok (add_parameter room t x xs))
    ≡ one_and_more room (r >>= λ t. new_name types t.rest >>= λ x. Ok (record { parameter = record { value_type = t.value_type; name = x.value }; at = length t.rest; rest = x.rest })) others
parameter_type types (Ok t) room others = parameter_name (new_name types t.rest) room t others
parameter_type types (Err e) room others = refl

after_other : (others : List Terminal → Outcome ReadParameters) (kind : Kind) (ts : List Terminal) → (kind ≡ k.Comma → ⊥) → (kind ≡ k.RParen → ⊥) → after_parameter others kind ts ≡ refuse ts
after_other others k.Comma ts p q = absurd (p refl)
after_other others k.RParen ts p q = absurd (q refl)
after_other others _ ts p q = refl

module _ (types : Names) (d : ℕ) where
  parameters_step : (room m n : ℕ) (ts : List Terminal) → m ≡ suc n → read_parameters types d room m ts ≡ one_and_more room (one_parameter types d ts) (read_parameters types d (less room) n)
  unfolding read_parameters
  parameters_step room m n ts e = rw e (parameter_type types (read_type types d ts) room (read_parameters types d (less room) n))

  pub parameters_fail : (front : List TypedName) (over : Option ℕ) (room m n : ℕ) (ts : List Terminal) (f : ReadError) (total : Outcome ReadParameters) → m ≡ suc n → Fails f (one_parameter types d ts)
      → with_parameters front over (read_parameters types d room m ts) ≡ total → Fails f total
  parameters_fail front over room m n ts f total e bad so_far =
      let go = λ (p : ReadParameter). after_parameter (read_parameters types d (less room) n) (plain_at p.rest) p.rest >>= λ xs. Ok (put_first room p xs) in
      let one : with_parameters front over (read_parameters types d room m ts) ≡ with_parameters front over (one_parameter types d ts >>= go) = rw (parameters_step room m n ts e) refl in
      fails_along f _ total (sym one ∙ so_far) (fails_bind f (one_parameter types d ts >>= go) (λ r. Ok (record { parameters = front ++ r.parameters; over = first_known over r.over; rest = r.rest })) (fails_bind f (one_parameter types d ts) go bad))

  pub parameters_more : (front : List TypedName) (over : Option ℕ) (room m n : ℕ) (ts : List Terminal) (p : ReadParameter) (total : Outcome ReadParameters) → m ≡ suc n → one_parameter types d ts ≡ Ok p → plain_at p.rest ≡ k.Comma
      → with_parameters front over (read_parameters types d room m ts) ≡ total
      → with_parameters (front ++ p.parameter ∷ []) (first_known over (over_by room p.at None)) (read_parameters types d (less room) n (next p.rest)) ≡ total
  parameters_more front over room m n ts p total e ok comma so_far =
      let one : with_parameters front over (read_parameters types d room m ts) ≡ with_parameters front over (read_parameters types d (less room) n (next p.rest) >>= λ xs. Ok (put_first room p xs)) = rw (parameters_step room m n ts e, ok, comma) refl in
      sym (regroup front over room p (read_parameters types d (less room) n (next p.rest))) ∙ (sym one ∙ so_far)

  pub parameters_done : (front : List TypedName) (over : Option ℕ) (room m n : ℕ) (ts : List Terminal) (p : ReadParameter) (total : Outcome ReadParameters) → m ≡ suc n → one_parameter types d ts ≡ Ok p → plain_at p.rest ≡ k.RParen
      → with_parameters front over (read_parameters types d room m ts) ≡ total
      → total ≡ Ok (record { parameters = front ++ p.parameter ∷ []; over = first_known over (over_by room p.at None); rest = next p.rest })
  parameters_done front over room m n ts p total e ok closed so_far =
      let one : with_parameters front over (read_parameters types d room m ts) ≡ Ok (record { parameters = front ++ p.parameter ∷ []; over = first_known over (over_by room p.at None); rest = next p.rest }) = rw (parameters_step room m n ts e, ok, closed) refl in
      sym so_far ∙ one

  pub parameters_refuse : (front : List TypedName) (over : Option ℕ) (room m n : ℕ) (ts : List Terminal) (p : ReadParameter) (total : Outcome ReadParameters) → m ≡ suc n → one_parameter types d ts ≡ Ok p → (plain_at p.rest ≡ k.Comma → ⊥) → (plain_at p.rest ≡ k.RParen → ⊥)
      → with_parameters front over (read_parameters types d room m ts) ≡ total → total ≡ refuse p.rest
  parameters_refuse front over room m n ts p total e ok a b so_far =
      let one : with_parameters front over (read_parameters types d room m ts) ≡ refuse p.rest = rw (parameters_step room m n ts e, ok, after_other (read_parameters types d (less room) n) (plain_at p.rest) p.rest a b) refl in
      sym so_far ∙ one

  pub parameters_none : (front : List TypedName) (over : Option ℕ) (room m : ℕ) (ts : List Terminal) (total : Outcome ReadParameters) → m ≡ 0
      → with_parameters front over (read_parameters types d room m ts) ≡ total → total ≡ refuse ts
  unfolding read_parameters
  parameters_none front over room m ts total e so_far =
      let one : with_parameters front over (read_parameters types d room m ts) ≡ refuse ts = rw e refl in
      sym so_far ∙ one

-- ---- declarations

-- the declarations read before, with those that are read from here on
abbrev pub with_declarations : Program → Outcome Program → Outcome Program
with_declarations front o = o >>= λ ds. Ok (front ++ ds)

no_declarations : (o : Outcome Program) → with_declarations [] o ≡ o
no_declarations (Ok ds) = refl
no_declarations (Err e) = refl

-- all of it, before the first turn
pub program_starts : (loops : Bool) (n : ℕ) (ts : List Terminal) → n ≡ length ts → with_declarations [] (read_declarations [] loops n 4096 ts) ≡ read_program loops ts
unfolding read_program
program_starts loops n ts e = rw e (no_declarations (read_declarations [] loops (length ts) 4096 ts))

declarations_again : (front : Program) (d : Declaration) (o : Outcome Program) → with_declarations front (o >>= λ ds. Ok (d ∷ ds)) ≡ with_declarations (front ++ d ∷ []) o
declarations_again front d (Ok ds) = rw (append_assoc front (d ∷ []) ds) refl
declarations_again front d (Err e) = refl

module _ (types : Names) (loops : Bool) where
  declarations_step : (m n room : ℕ) (ts : List Terminal) → m ≡ suc n → 0 < length ts
      → read_declarations types loops m room ts ≡ (read_declaration types loops room ts >>= λ d. read_declarations (type_names_after types d.declaration) loops n d.room d.rest >>= λ ds. Ok (d.declaration ∷ ds))
  unfolding read_declarations
  declarations_step m n room [] e lt = absurd (omega arith)
  declarations_step m n room (t ∷ ts) e lt = rw e refl

  pub declarations_fail : (front : Program) (m n room : ℕ) (ts : List Terminal) (f : ReadError) (total : Outcome Program) → m ≡ suc n → 0 < length ts → Fails f (read_declaration types loops room ts)
      → with_declarations front (read_declarations types loops m room ts) ≡ total → Fails f total
  declarations_fail front m n room ts f total e lt bad so_far =
      let go = λ (d : ReadDeclaration). read_declarations (type_names_after types d.declaration) loops n d.room d.rest >>= λ ds. Ok (d.declaration ∷ ds) in
      let one : with_declarations front (read_declarations types loops m room ts) ≡ with_declarations front (read_declaration types loops room ts >>= go) = rw (declarations_step m n room ts e lt) refl in
      fails_along f _ total (sym one ∙ so_far) (fails_bind f (read_declaration types loops room ts >>= go) (λ ds. Ok (front ++ ds)) (fails_bind f (read_declaration types loops room ts) go bad))

  pub declarations_more : (front : Program) (m n room : ℕ) (ts : List Terminal) (d : ReadDeclaration) (total : Outcome Program) → m ≡ suc n → 0 < length ts → read_declaration types loops room ts ≡ Ok d
      → with_declarations front (read_declarations types loops m room ts) ≡ total → with_declarations (front ++ d.declaration ∷ []) (read_declarations (type_names_after types d.declaration) loops n d.room d.rest) ≡ total
  declarations_more front m n room ts d total e lt ok so_far =
      let rest = read_declarations (type_names_after types d.declaration) loops n d.room d.rest in
      let one : with_declarations front (read_declarations types loops m room ts) ≡ with_declarations front (rest >>= λ ds. Ok (d.declaration ∷ ds)) = rw (declarations_step m n room ts e lt, ok) refl in
      sym (declarations_again front d.declaration rest) ∙ (sym one ∙ so_far)

  pub declarations_done : (front : Program) (m room : ℕ) (ts : List Terminal) (total : Outcome Program) → length ts ≡ 0 → with_declarations front (read_declarations types loops m room ts) ≡ total → total ≡ Ok front
  unfolding read_declarations
  declarations_done front m room [] total e so_far =
      let one : with_declarations front (read_declarations types loops m room []) ≡ Ok front = rw (append-nil front) refl in
      sym so_far ∙ one
  declarations_done front m room (t ∷ ts) total e so_far = absurd (omega arith)

  pub declarations_none : (front : Program) (m room : ℕ) (ts : List Terminal) (total : Outcome Program) → m ≡ 0 → 0 < length ts → with_declarations front (read_declarations types loops m room ts) ≡ total → total ≡ refuse ts
  unfolding read_declarations
  declarations_none front m room [] total e lt so_far = absurd (omega arith)
  declarations_none front m room (t ∷ ts) total e lt so_far =
      let one : with_declarations front (read_declarations types loops m room (t ∷ ts)) ≡ refuse (t ∷ ts) = rw e refl in
      sym so_far ∙ one
