-- Reading programs of more levels gives the same, unless a tree was too deep.
use Rattle.std.proofs.Common.{ℕ, zero, suc, ◌-◌, ◌≤◌, Bool, List, [], ◌∷◌, length, Option, Ok, refl}
use Rattle.c0_source.specs.declared.kind.Kind.{Kind}
use Rattle.c0_source.specs.declared.kind.Kind.TheVariants as k
use Rattle.c0_source.specs.Terminals.{Terminal}
use Rattle.c0_syntax.specs.Trees.{Spec, TypedName, Header, DefineStruct, Typedef, DefineFunction, Program, Statements}
use Rattle.c0_syntax.specs.Programs.{type_names_after}
use Rattle.c0_grammar_laws.specs.Outcome.{Outcome, ◌>>=◌, Read, refuse, plain_at, bytes_at, next, lparen, semi, any_name, new_name}
use Rattle.c0_grammar_laws.specs.ReadExpressions.{ReadType, read_type}
use Rattle.c0_grammar_laws.specs.ReadStatements.{Counted, read_annotations, read_statement, read_body}
use Rattle.c0_grammar_laws.specs.ReadPrograms.{fields_by, read_fields, ReadParameters, add_parameter, less, after_parameter, read_parameters, parameters_by, ReadDeclaration, small, end_by, ReadHeader, read_header, function, struct_by, struct_of, declaration_by, read_declaration, read_declarations}
use Rattle.c0_grammar_laws.proofs.Turns.{Names}
use Rattle.c0_grammar_laws.proofs.Deeper.{Deeper, same, both, one, type_deeper}
use Rattle.c0_grammar_laws.proofs.DeeperStatements.{notes_deeper, statements_deeper, statement_deeper}

-- declarations of so many levels up to the end of the tokens
unfoldable pub read_levels : Names → Bool → ℕ → ℕ → ℕ → List Terminal → Outcome Program
read_levels types loops d n room [] = Ok []
read_levels types loops d zero room (t ∷ ts) = refuse (t ∷ ts)
read_levels types loops d (suc n) room (t ∷ ts) =
    declaration_by types loops d room (plain_at (t ∷ ts)) (t ∷ ts) >>= λ x. read_levels (type_names_after types x.declaration) loops d n x.room x.rest >>= λ ds. Ok (x.declaration ∷ ds)

module _ (types : Names) (d e : ℕ) (le : d ≤ e) where
  field_deeper : (go others : List Terminal → Outcome (Read (List TypedName))) → ((ts : List Terminal) → Deeper (go ts) (others ts)) → (kind : Kind) (ts : List Terminal) → Deeper (fields_by types d go kind ts) (fields_by types e others kind ts)
  field_deeper go others goes k.RBrace ts = refl
  field_deeper go others goes _ ts =
      let made : ReadType → Read (List ℕ) → Read (List TypedName) → Outcome (Read (List TypedName)) = λ t x xs. Ok (record { value = record { value_type = t.value_type; name = x.value } ∷ xs.value; rest = xs.rest }) in
      both (read_type types d ts) (read_type types e ts) (λ t. any_name t.rest >>= λ x. semi x.rest >>= λ us. go us >>= made t x) (λ t. any_name t.rest >>= λ x. semi x.rest >>= λ us. others us >>= made t x) (type_deeper types d e le ts) (λ t.
      one (any_name t.rest) (λ x. semi x.rest >>= λ us. go us >>= made t x) (λ x. semi x.rest >>= λ us. others us >>= made t x) (λ x.
      one (semi x.rest) (λ us. go us >>= made t x) (λ us. others us >>= made t x) (λ us. both (go us) (others us) (made t x) (made t x) (goes us) (λ xs. refl))))

  fields_deeper : (n : ℕ) (ts : List Terminal) → Deeper (read_fields types d n ts) (read_fields types e n ts)
  unfolding read_fields
  fields_deeper zero ts = refl
  fields_deeper (suc n) ts = field_deeper (read_fields types d n) (read_fields types e n) (fields_deeper n) (plain_at ts) ts

  parameter_deeper : (go others : List Terminal → Outcome ReadParameters) → ((ts : List Terminal) → Deeper (go ts) (others ts)) → (kind : Kind) (ts : List Terminal) → Deeper (after_parameter go kind ts) (after_parameter others kind ts)
  parameter_deeper go others goes k.Comma ts = goes (next ts)
  parameter_deeper go others goes k.RParen ts = refl
  parameter_deeper go others goes _ ts = refl

  parameters_deeper : (n room : ℕ) (ts : List Terminal) → Deeper (read_parameters types d room n ts) (read_parameters types e room n ts)
  unfolding read_parameters
  parameters_deeper zero room ts = refl
  parameters_deeper (suc n) room ts =
      let go : List Terminal → Outcome ReadParameters = read_parameters types d (less room) n in
      let others : List Terminal → Outcome ReadParameters = read_parameters types e (less room) n in
      let made : ReadType → Read (List ℕ) → ReadParameters → Outcome ReadParameters = λ t x xs. Ok (add_parameter room t x xs) in
      both (read_type types d ts) (read_type types e ts) (λ t. new_name types t.rest >>= λ x. after_parameter go (plain_at x.rest) x.rest >>= made t x) (λ t. new_name types t.rest >>= λ x. after_parameter others (plain_at x.rest) x.rest >>= made t x) (type_deeper types d e le ts) (λ t.
      one (new_name types t.rest) (λ x. after_parameter go (plain_at x.rest) x.rest >>= made t x) (λ x. after_parameter others (plain_at x.rest) x.rest >>= made t x) (λ x.
      both (after_parameter go (plain_at x.rest) x.rest) (after_parameter others (plain_at x.rest) x.rest) (made t x) (made t x) (parameter_deeper go others (parameters_deeper n (less room)) (plain_at x.rest) x.rest) (λ xs. refl)))

  parameters_by_deeper : (kind : Kind) (ts : List Terminal) → Deeper (parameters_by types d kind ts) (parameters_by types e kind ts)
  parameters_by_deeper k.RParen ts = refl
  parameters_by_deeper _ ts = parameters_deeper (length ts) 1024 ts

  header_deeper : (ts : List Terminal) → Deeper (read_header types d ts) (read_header types e ts)
  unfolding read_header
  header_deeper ts =
      let made : ReadType → Read (List ℕ) → ReadParameters → Read (List (List Spec)) → Outcome ReadHeader =
      λ t x ps ns. Ok (record { header = record { result = t.value_type; name = x.value; parameters = ps.parameters; annotations = ns.value }; at = length t.rest; over = ps.over; rest = ns.rest }) in
      let noted : ℕ → ReadType → Read (List ℕ) → ReadParameters → Outcome ReadHeader = λ d t x ps. read_annotations types d (suc (length ps.rest)) ps.rest >>= made t x ps in
      let listed : ℕ → ReadType → Read (List ℕ) → List Terminal → Outcome ReadHeader = λ d t x us. parameters_by types d (plain_at us) us >>= noted d t x in
      both (read_type types d ts) (read_type types e ts) (λ t. new_name types t.rest >>= λ x. lparen x.rest >>= listed d t x) (λ t. new_name types t.rest >>= λ x. lparen x.rest >>= listed e t x) (type_deeper types d e le ts) (λ t.
      one (new_name types t.rest) (λ x. lparen x.rest >>= listed d t x) (λ x. lparen x.rest >>= listed e t x) (λ x.
      one (lparen x.rest) (listed d t x) (listed e t x) (λ us.
      both (parameters_by types d (plain_at us) us) (parameters_by types e (plain_at us) us) (noted d t x) (noted e t x) (parameters_by_deeper (plain_at us) us) (λ ps.
      both (read_annotations types d (suc (length ps.rest)) ps.rest) (read_annotations types e (suc (length ps.rest)) ps.rest) (made t x ps) (made t x ps) (notes_deeper types d e le (suc (length ps.rest)) ps.rest) (λ ns. refl)))))

  body_deeper : (loops : Bool) (room : ℕ) (ts : List Terminal) → Deeper (read_body types loops d room ts) (read_body types loops e room ts)
  body_deeper loops room ts = statements_deeper types loops (read_statement types loops d) (read_statement types loops e) (λ room ts. statement_deeper types loops d e le room ts) d e le (suc (length ts)) room ts

  end_deeper : (loops : Bool) (room at : ℕ) (over : Option ℕ) (kind : Kind) (h : Header) (ts : List Terminal) → Deeper (end_by types loops d room at over kind h ts) (end_by types loops e room at over kind h ts)
  end_deeper loops room at over k.Semi h ts = refl
  end_deeper loops zero at over k.LBrace h ts = refl
  end_deeper loops (suc room) at over k.LBrace h ts =
      let f : Counted Statements → Outcome ReadDeclaration = λ body. Ok (record { declaration = DefineFunction h body.value; room = room; rest = body.rest }) in
      one (small over) (λ _. read_body types loops d (1024 - length h.parameters) (next ts) >>= f) (λ _. read_body types loops e (1024 - length h.parameters) (next ts) >>= f) (λ x.
      both (read_body types loops d (1024 - length h.parameters) (next ts)) (read_body types loops e (1024 - length h.parameters) (next ts)) f f (body_deeper loops (1024 - length h.parameters) (next ts)) (λ body. refl))
  end_deeper loops room at over _ h ts = refl

  function_deeper : (loops : Bool) (room : ℕ) (ts : List Terminal) → Deeper (function types loops d room ts) (function types loops e room ts)
  unfolding function
  function_deeper loops room ts =
      both (read_header types d ts) (read_header types e ts) (λ h. end_by types loops d room h.at h.over (plain_at h.rest) h.header h.rest) (λ h. end_by types loops e room h.at h.over (plain_at h.rest) h.header h.rest) (header_deeper ts)
      (λ h. end_deeper loops room h.at h.over (plain_at h.rest) h.header h.rest)

  struct_deeper : (loops : Bool) (room : ℕ) (kind : Kind) (ts : List Terminal) → Deeper (struct_by types loops d room kind ts) (struct_by types loops e room kind ts)
  struct_deeper loops room k.Semi ts = refl
  struct_deeper loops room k.LBrace ts =
      let us = next (next (next ts)) in
      let f : Read (List TypedName) → Outcome ReadDeclaration = λ fs. semi fs.rest >>= λ rest. Ok (record { declaration = DefineStruct (bytes_at (next ts)) fs.value; room = room; rest = rest }) in
      both (read_fields types d (length ts) us) (read_fields types e (length ts) us) f f (fields_deeper (length ts) us) (λ fs. same (f fs))
  struct_deeper loops room _ ts = function_deeper loops room ts

  struct_of_deeper : (loops : Bool) (room : ℕ) (kind : Kind) (ts : List Terminal) → Deeper (struct_of types loops d room kind ts) (struct_of types loops e room kind ts)
  struct_of_deeper loops room k.Name ts = struct_deeper loops room (plain_at (next (next ts))) ts
  struct_of_deeper loops room _ ts = refl

  declaration_deeper : (loops : Bool) (room : ℕ) (kind : Kind) (ts : List Terminal) → Deeper (declaration_by types loops d room kind ts) (declaration_by types loops e room kind ts)
  declaration_deeper loops room k.Use ts = refl
  declaration_deeper loops room k.Struct ts = struct_of_deeper loops room (plain_at (next ts)) ts
  declaration_deeper loops room k.Typedef ts =
      let f : ReadType → Outcome ReadDeclaration = λ t. new_name types t.rest >>= λ x. semi x.rest >>= λ rest. Ok (record { declaration = Typedef t.value_type x.value; room = room; rest = rest }) in
      both (read_type types d (next ts)) (read_type types e (next ts)) f f (type_deeper types d e le (next ts)) (λ t. same (f t))
  declaration_deeper loops room _ ts = function_deeper loops room ts

pub program_deeper : (loops : Bool) (e : ℕ) → 199 ≤ e → (n : ℕ) (types : Names) (room : ℕ) (ts : List Terminal) → Deeper (read_declarations types loops n room ts) (read_levels types loops e n room ts)
unfolding read_declarations read_levels
program_deeper loops e le zero types room [] = refl
program_deeper loops e le (suc n) types room [] = refl
program_deeper loops e le zero types room (t ∷ ts) = refl
program_deeper loops e le (suc n) types room (t ∷ ts) =
    let us = t ∷ ts in
    let f : ReadDeclaration → Outcome Program = λ x. read_declarations (type_names_after types x.declaration) loops n x.room x.rest >>= λ ds. Ok (x.declaration ∷ ds) in
    let g : ReadDeclaration → Outcome Program = λ x. read_levels (type_names_after types x.declaration) loops e n x.room x.rest >>= λ ds. Ok (x.declaration ∷ ds) in
    both (read_declaration types loops room us) (declaration_by types loops e room (plain_at us) us) f g (declaration_deeper types 199 e le loops room (plain_at us) us) (λ x.
    both (read_declarations (type_names_after types x.declaration) loops n x.room x.rest) (read_levels (type_names_after types x.declaration) loops e n x.room x.rest) (λ ds. Ok (x.declaration ∷ ds)) (λ ds. Ok (x.declaration ∷ ds)) (program_deeper loops e le n (type_names_after types x.declaration) x.room x.rest) (λ ds. refl))
