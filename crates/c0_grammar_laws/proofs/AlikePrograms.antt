-- Declarations and programs read from tokens that are alike up to a place.
use Rattle.std.proofs.Common.{◌≡◌, ℕ, zero, suc, ◌+◌, ◌-◌, ◌≤◌, Bool, true, false, List, [], ◌∷◌, ◌++◌, length, Option, Some, None, is_some, Ok, Err, refl, sym, ap, subst, ◌∙◌, inl, inr, arith}
use Rattle.c0_source.specs.declared.kind.Kind.{Kind}
use Rattle.c0_source.specs.declared.kind.Kind.TheVariants as k
use Rattle.c0_source.specs.Terminals.{Terminal, Word, Text, Use, Sign}
use Rattle.c0_syntax.specs.Trees.{StructType, Spec, TypedName, Header, Declaration, DeclareStruct, DefineStruct, Typedef, DeclareFunction, DefineFunction, Program, Statements}
use Rattle.c0_syntax.specs.Programs.{Reads as IsRead, type_names_after}
use Rattle.c0_grammar_laws.specs.declared.read_error.ReadError.{ReadError}
use Rattle.c0_grammar_laws.specs.declared.read_error.ReadError.TheVariants.{OutOfMemory, Syntax, TooDeep, TooLarge}
use Rattle.c0_grammar_laws.specs.Laws.{IsAt}
use Rattle.c0_grammar_laws.specs.Outcome.{Outcome, ◌>>=◌, Read, refuse, plain_at, kind_at, bytes_at, next, lparen, semi, any_name, new_name, name_by}
use Rattle.c0_grammar_laws.specs.ReadExpressions.{ReadType, base_by, leaf_type, suffixes, read_type}
use Rattle.c0_grammar_laws.specs.ReadStatements.{Counted, read_annotations, read_body}
use Rattle.c0_grammar_laws.specs.ReadPrograms.{fields_by, read_fields, ReadParameters, over_by, add_parameter, less, after_parameter, read_parameters, parameters_by, ReadDeclaration, small, end_by, ReadHeader, read_header, function, struct_by, struct_of, use_of, declaration_by, read_declaration, read_declarations, read_program}
use Rattle.c0_grammar_laws.proofs.Alike.{Form, tokens, Twin, Left, Short, Alike, bind, done, refused, large, on_next, same_bytes, by_plain, by_plain_is, wider, weaker, nothing_left, nothing_left_there, each, one_less, Enough, loop, Loops, looped}
use Rattle.c0_grammar_laws.proofs.AlikeTypes.{simple, read_form, type_form, Reads, lparen_alike, semi_alike, any_name_alike, new_name_alike, type_alike, suffixes_alike}
use Rattle.c0_grammar_laws.proofs.AlikeStatements.{counted_form, all_notes, function_body_alike}
use Rattle.c0_grammar_laws.proofs.Basics.{sign_at}
use Rattle.c0_grammar_laws.proofs.SoundPrograms.{fault_excludes}

abbrev pub parameters_form : Form ReadParameters
parameters_form = record {
  get = λ r. r.rest;
  P = List Terminal × Option ℕ;
  put = λ r p. record r { over = p.1; rest = p.0 };
  tail = λ p. p.0;
  fits = λ r p. is_some r.over ≡ is_some p.1;
  own = λ r. (r.rest, r.over);
  own_fits = λ r. refl;
  own_tail = λ r. refl;
}

abbrev pub header_form : Form ReadHeader
header_form = record {
  get = λ r. r.rest;
  P = List Terminal × ℕ × Option ℕ;
  put = λ r p. record r { at = p.1; over = p.2; rest = p.0 };
  tail = λ p. p.0;
  fits = λ r p. is_some r.over ≡ is_some p.2;
  own = λ r. (r.rest, r.at, r.over);
  own_fits = λ r. refl;
  own_tail = λ r. refl;
}

abbrev pub declaration_form : Form ReadDeclaration
declaration_form = simple (λ r. r.rest) (λ r p. record r { rest = p })

abbrev pub program_form : Form Program
program_form = record { get = λ r. []; P = Unit {0}; put = λ r p. r; tail = λ p. []; fits = λ r p. Unit {0}; own = λ r. tt; own_fits = λ r. tt; own_tail = λ r. refl }

abbrev Fields : Form (Read (List TypedName))
Fields = read_form (List TypedName)

module _ (b c : List Terminal) where
  -- ---- fields and parameters

  module _ (types : List (List ℕ)) (d : ℕ) where
    field_alike : (go other : List Terminal → Outcome (Read (List TypedName))) (w : Bool) (l m : ℕ)
        → ((v : Bool) (xs ys : List Terminal) → Left b c v l m xs ys → Alike b c Fields v l m (go xs) (other ys))
        → (ts us : List Terminal) → Left b c w (suc l) (suc m) ts us → (kind : Kind) → Alike b c Fields w l m (fields_by types d go kind ts) (fields_by types d other kind us)
    field_alike go other w l m goes ts us h k.RBrace =
        on_next b c Fields w l m ts us (λ z. Ok (record { value = []; rest = z })) (λ z. Ok (record { value = []; rest = z })) h (λ v xs ys q. done b c Fields v l m (record { value = []; rest = xs }) ys tt q)
    field_alike go other w l m goes ts us h _ =
        let made : ReadType → Read (List ℕ) → Read (List TypedName) → Outcome (Read (List TypedName)) = λ t x xs. Ok (record { value = record { value_type = t.value_type; name = x.value } ∷ xs.value; rest = xs.rest }) in
        bind b c type_form Fields w l m (read_type types d ts) (read_type types d us) (λ t. any_name t.rest >>= λ x. semi x.rest >>= λ us. go us >>= made t x) (λ t. any_name t.rest >>= λ x. semi x.rest >>= λ us. other us >>= made t x)
        (type_alike b c types d w l m ts us h) (λ v t p _ q.
        bind b c (read_form (List ℕ)) Fields v l m (any_name t.rest) (any_name p) (λ x. semi x.rest >>= λ us. go us >>= made t x) (λ x. semi x.rest >>= λ us. other us >>= made t x) (any_name_alike b c v l m t.rest p (wider b c v l m t.rest p q)) (λ u x s _ z.
        bind b c tokens Fields u l m (semi x.rest) (semi s) (λ us. go us >>= made t x) (λ us. other us >>= made t x) (semi_alike b c u l m x.rest s (wider b c u l m x.rest s z)) (λ v zs bs _ y.
        bind b c Fields Fields v l m (go zs) (other bs) (made t x) (made t x) (goes v zs bs y) (λ u xs e _ n.
        done b c Fields u l m (record { value = record { value_type = t.value_type; name = x.value } ∷ xs.value; rest = xs.rest }) e tt n))))

    field_turn : (n k : ℕ) (w : Bool) (l m : ℕ) → ((x : Unit {0}) (v : Bool) (xs ys : List Terminal) → Left b c v l m xs ys → Alike b c Fields v l m (read_fields types d n xs) (read_fields types d k ys))
        → (x : Unit {0}) (ts us : List Terminal) → Left b c w (suc l) (suc m) ts us → Alike b c Fields w l m (read_fields types d (suc n) ts) (read_fields types d (suc k) us)
    unfolding read_fields
    field_turn n k w l m goes x ts us h =
        by_plain b c Fields w l m (suc l) (suc m) ts us (λ z. fields_by types d (read_fields types d n) z ts) (λ z. fields_by types d (read_fields types d k) z us) h
        (field_alike (read_fields types d n) (read_fields types d k) w l m (λ v xs ys q. goes tt v xs ys q) ts us h)

    no_fields : (x : Unit {0}) (ts : List Terminal) → read_fields types d 0 ts ≡ refuse ts
    unfolding read_fields
    no_fields x ts = refl

    fields_loop : Loops b c Fields (read_fields types d)
    fields_loop n k w l m ts us e f h = loop b c Fields (λ n x. read_fields types d n) no_fields field_turn n k w l m tt ts us e f h

    parameter_alike : (go other : List Terminal → Outcome ReadParameters) (w : Bool) (l m : ℕ)
        → ((v : Bool) (xs ys : List Terminal) → Left b c v l m xs ys → Alike b c parameters_form v l m (go xs) (other ys))
        → (ts us : List Terminal) → Left b c w l m ts us → (kind : Kind) → Alike b c parameters_form w l m (after_parameter go kind ts) (after_parameter other kind us)
    parameter_alike go other w l m goes ts us h k.Comma = on_next b c parameters_form w l m ts us go other (wider b c w l m ts us h) goes
    parameter_alike go other w l m goes ts us h k.RParen =
        on_next b c parameters_form w l m ts us (λ z. Ok (record { parameters = []; over = None; rest = z })) (λ z. Ok (record { parameters = []; over = None; rest = z })) (wider b c w l m ts us h) (λ v xs ys q.
        done b c parameters_form v l m (record { parameters = []; over = None; rest = xs }) (ys, None) refl q)
    parameter_alike go other w l m goes ts us h _ = refused b c parameters_form w l m l m ts us h

    over_alike : (room x y : ℕ) (o q : Option ℕ) → is_some o ≡ is_some q → is_some (over_by room x o) ≡ is_some (over_by room y q)
    over_alike zero x y o q e = refl
    over_alike (suc room) x y o q e = e

    parameter_turn : (n k : ℕ) (w : Bool) (l m : ℕ) → ((room : ℕ) (v : Bool) (xs ys : List Terminal) → Left b c v l m xs ys → Alike b c parameters_form v l m (read_parameters types d room n xs) (read_parameters types d room k ys))
        → (room : ℕ) (ts us : List Terminal) → Left b c w (suc l) (suc m) ts us → Alike b c parameters_form w l m (read_parameters types d room (suc n) ts) (read_parameters types d room (suc k) us)
    unfolding read_parameters
    parameter_turn n k w l m goes room ts us h =
        let go : List Terminal → Outcome ReadParameters = read_parameters types d (less room) n in
        let other : List Terminal → Outcome ReadParameters = read_parameters types d (less room) k in
        bind b c type_form parameters_form w l m (read_type types d ts) (read_type types d us) (λ t. new_name types t.rest >>= λ x. after_parameter go (plain_at x.rest) x.rest >>= λ xs. Ok (add_parameter room t x xs))
        (λ t. new_name types t.rest >>= λ x. after_parameter other (plain_at x.rest) x.rest >>= λ xs. Ok (add_parameter room t x xs)) (type_alike b c types d w l m ts us h) (λ v t p _ q.
        bind b c (read_form (List ℕ)) parameters_form v l m (new_name types t.rest) (new_name types p) (λ x. after_parameter go (plain_at x.rest) x.rest >>= λ xs. Ok (add_parameter room t x xs))
        (λ x. after_parameter other (plain_at x.rest) x.rest >>= λ xs. Ok (add_parameter room (record t { rest = p }) x xs)) (new_name_alike b c types v l m t.rest p (wider b c v l m t.rest p q)) (λ u x s _ z.
        bind b c parameters_form parameters_form u l m (after_parameter go (plain_at x.rest) x.rest) (after_parameter other (plain_at s) s) (λ xs. Ok (add_parameter room t x xs)) (λ xs. Ok (add_parameter room (record t { rest = p }) (record x { rest = s }) xs))
        (by_plain b c parameters_form u l m l m x.rest s (λ k. after_parameter go k x.rest) (λ k. after_parameter other k s) z (parameter_alike go other u l m (goes (less room)) x.rest s z)) (λ v xs e f y.
        done b c parameters_form v l m (add_parameter room t x xs) (e.0, over_by room (length p) e.1) (over_alike room (length t.rest) (length p) xs.over e.1 f) y)))

    no_parameters : (room : ℕ) (ts : List Terminal) → read_parameters types d room 0 ts ≡ refuse ts
    unfolding read_parameters
    no_parameters room ts = refl

    parameters_loop : (room : ℕ) → Loops b c parameters_form (λ n. read_parameters types d room n)
    parameters_loop room n k w l m ts us e f h = loop b c parameters_form (λ n room. read_parameters types d room n) no_parameters parameter_turn n k w l m room ts us e f h

    parameters_alike : (w : Bool) (l m : ℕ) (ts us : List Terminal) → Left b c w l m ts us → (kind : Kind) → Alike b c parameters_form w l m (parameters_by types d kind ts) (parameters_by types d kind us)
    parameters_alike w l m ts us h k.RParen =
        on_next b c parameters_form w l m ts us (λ z. Ok (record { parameters = []; over = None; rest = z })) (λ z. Ok (record { parameters = []; over = None; rest = z })) (wider b c w l m ts us h) (λ v xs ys q.
        done b c parameters_form v l m (record { parameters = []; over = None; rest = xs }) (ys, None) refl q)
    parameters_alike w l m ts us h _ = looped b c parameters_form (λ n. read_parameters types d 1024 n) (parameters_loop 1024) w l m ts us h

    -- ---- functions

    -- a header behind its type
    header_behind : (v : Bool) (l m : ℕ) (t : ReadType) (p : List Terminal) → Left b c v l m t.rest p
        → Alike b c header_form v l m
        (new_name types t.rest >>= λ x. lparen x.rest >>= λ us. parameters_by types d (plain_at us) us >>= λ ps. read_annotations types d (suc (length ps.rest)) ps.rest
        >>= λ ns. Ok (record { header = record { result = t.value_type; name = x.value; parameters = ps.parameters; annotations = ns.value }; at = length t.rest; over = ps.over; rest = ns.rest }))
        (new_name types p >>= λ x. lparen x.rest >>= λ us. parameters_by types d (plain_at us) us >>= λ ps. read_annotations types d (suc (length ps.rest)) ps.rest
        >>= λ ns. Ok (record { header = record { result = t.value_type; name = x.value; parameters = ps.parameters; annotations = ns.value }; at = length p; over = ps.over; rest = ns.rest }))
    header_behind v l m t p q =
        let made : ℕ → Read (List ℕ) → ReadParameters → Read (List (List Spec)) → Outcome ReadHeader
        = λ at x ps ns. Ok (record { header = record { result = t.value_type; name = x.value; parameters = ps.parameters; annotations = ns.value }; at = at; over = ps.over; rest = ns.rest }) in
        let noted : ℕ → Read (List ℕ) → ReadParameters → Outcome ReadHeader = λ at x ps. read_annotations types d (suc (length ps.rest)) ps.rest >>= made at x ps in
        let listed : ℕ → Read (List ℕ) → List Terminal → Outcome ReadHeader = λ at x us. parameters_by types d (plain_at us) us >>= noted at x in
        bind b c (read_form (List ℕ)) header_form v l m (new_name types t.rest) (new_name types p) (λ x. lparen x.rest >>= listed (length t.rest) x) (λ x. lparen x.rest >>= listed (length p) x)
        (new_name_alike b c types v l m t.rest p (wider b c v l m t.rest p q)) (λ u x s _ z.
        bind b c tokens header_form u l m (lparen x.rest) (lparen s) (listed (length t.rest) x) (listed (length p) x) (lparen_alike b c u l m x.rest s (wider b c u l m x.rest s z)) (λ v zs bs _ y.
        bind b c parameters_form header_form v l m (parameters_by types d (plain_at zs) zs) (parameters_by types d (plain_at bs) bs) (noted (length t.rest) x) (noted (length p) x)
        (by_plain b c parameters_form v l m l m zs bs (λ k. parameters_by types d k zs) (λ k. parameters_by types d k bs) y (parameters_alike v l m zs bs y)) (λ u ps e f n.
        bind b c (read_form (List (List Spec))) header_form u l m (read_annotations types d (suc (length ps.rest)) ps.rest) (read_annotations types d (suc (length e.0)) e.0) (made (length t.rest) x ps) (made (length p) x (record ps { over = e.1; rest = e.0 }))
        (all_notes b c types d u l m ps.rest e.0 n) (λ v ns g _ i.
        done b c header_form v l m (record { header = record { result = t.value_type; name = x.value; parameters = ps.parameters; annotations = ns.value }; at = length t.rest; over = ps.over; rest = ns.rest }) (g, length p, e.1) f i))))

    header_from : (w : Bool) (l m : ℕ) (o q : Outcome ReadType) → Alike b c type_form w l m o q
        → Alike b c header_form w l m
        (o >>= λ t. new_name types t.rest >>= λ x. lparen x.rest >>= λ us. parameters_by types d (plain_at us) us >>= λ ps. read_annotations types d (suc (length ps.rest)) ps.rest
        >>= λ ns. Ok (record { header = record { result = t.value_type; name = x.value; parameters = ps.parameters; annotations = ns.value }; at = length t.rest; over = ps.over; rest = ns.rest }))
        (q >>= λ t. new_name types t.rest >>= λ x. lparen x.rest >>= λ us. parameters_by types d (plain_at us) us >>= λ ps. read_annotations types d (suc (length ps.rest)) ps.rest
        >>= λ ns. Ok (record { header = record { result = t.value_type; name = x.value; parameters = ps.parameters; annotations = ns.value }; at = length t.rest; over = ps.over; rest = ns.rest }))
    header_from w l m o q a =
        let g : ReadType → Outcome ReadHeader = λ t. new_name types t.rest >>= λ x. lparen x.rest >>= λ us. parameters_by types d (plain_at us) us >>= λ ps. read_annotations types d (suc (length ps.rest)) ps.rest
        >>= λ ns. Ok (record { header = record { result = t.value_type; name = x.value; parameters = ps.parameters; annotations = ns.value }; at = length t.rest; over = ps.over; rest = ns.rest }) in
        bind b c type_form header_form w l m o q g g a (λ v t p _ z. header_behind v l m t p z)

    header_alike : Reads b c header_form (read_header types d)
    unfolding read_header
    header_alike w l m ts us h = header_from w l m (read_type types d ts) (read_type types d us) (type_alike b c types d w l m ts us h)

    module _ (loops : Bool) where
      body_alike : (room : ℕ) (h : Header) (over : Option ℕ) (w : Bool) (l m : ℕ) (ts : List Terminal) (us : List Terminal) (other : Option ℕ) → is_some over ≡ is_some other → Left b c w l m ts us
          → Alike b c declaration_form w l m (small over >>= λ _. read_body types loops d (1024 - length h.parameters) (next ts) >>= λ body. Ok (record { declaration = DefineFunction h body.value; room = room; rest = body.rest }))
          (small other >>= λ _. read_body types loops d (1024 - length h.parameters) (next us) >>= λ body. Ok (record { declaration = DefineFunction h body.value; room = room; rest = body.rest }))
      body_alike room h None w l m ts us None e q =
          let g : Counted Statements → Outcome ReadDeclaration = λ body. Ok (record { declaration = DefineFunction h body.value; room = room; rest = body.rest }) in
          let f : List Terminal → Outcome ReadDeclaration = λ z. read_body types loops d (1024 - length h.parameters) z >>= g in
          on_next b c declaration_form w l m ts us f f (wider b c w l m ts us q) (λ v xs ys z.
          bind b c (counted_form Statements) declaration_form v l m (read_body types loops d (1024 - length h.parameters) xs) (read_body types loops d (1024 - length h.parameters) ys) g g
          (function_body_alike b c types loops d (1024 - length h.parameters) v l m xs ys z) (λ u body p _ y.
          done b c declaration_form u l m (record { declaration = DefineFunction h body.value; room = room; rest = body.rest }) p tt y))
      body_alike room h (Some x) w l m ts us (Some y) e q = large b c declaration_form w l m x y
      body_alike room h None w l m ts us (Some y) e q = absurd (cc e)
      body_alike room h (Some x) w l m ts us None e q = absurd (cc e)

      end_alike : (room : ℕ) (w : Bool) (l m : ℕ) (h : ReadHeader) (p : List Terminal × ℕ × Option ℕ) → is_some h.over ≡ is_some p.2 → Left b c w l m h.rest p.0 → (kind : Kind)
          → Alike b c declaration_form w l m (end_by types loops d room h.at h.over kind h.header h.rest) (end_by types loops d room p.1 p.2 kind h.header p.0)
      end_alike room w l m h p e q k.Semi =
          on_next b c declaration_form w l m h.rest p.0 (λ z. Ok (record { declaration = DeclareFunction h.header; room = room; rest = z })) (λ z. Ok (record { declaration = DeclareFunction h.header; room = room; rest = z })) (wider b c w l m h.rest p.0 q) (λ v xs ys z.
          done b c declaration_form v l m (record { declaration = DeclareFunction h.header; room = room; rest = xs }) ys tt z)
      end_alike zero w l m h p e q k.LBrace = large b c declaration_form w l m h.at p.1
      end_alike (suc room) w l m h p e q k.LBrace = body_alike room h.header h.over w l m h.rest p.0 p.2 e q
      end_alike room w l m h p e q _ = refused b c declaration_form w l m l m h.rest p.0 q

      behind_alike : (room : ℕ) (w : Bool) (l m : ℕ) (o q : Outcome ReadHeader) → Alike b c header_form w l m o q
          → Alike b c declaration_form w l m (o >>= λ h. end_by types loops d room h.at h.over (plain_at h.rest) h.header h.rest) (q >>= λ h. end_by types loops d room h.at h.over (plain_at h.rest) h.header h.rest)
      behind_alike room w l m o q a =
          bind b c header_form declaration_form w l m o q (λ h. end_by types loops d room h.at h.over (plain_at h.rest) h.header h.rest) (λ h. end_by types loops d room h.at h.over (plain_at h.rest) h.header h.rest) a (λ v h p f z.
          by_plain b c declaration_form v l m l m h.rest p.0 (λ k. end_by types loops d room h.at h.over k h.header h.rest) (λ k. end_by types loops d room p.1 p.2 k h.header p.0) z (end_alike room v l m h p f z))

      function_alike : (room : ℕ) → Reads b c declaration_form (function types loops d room)
      unfolding function
      function_alike room w l m ts us h = behind_alike room w l m (read_header types d ts) (read_header types d us) (header_alike w l m ts us h)

      -- ... where nothing before the place is left behind its type
      function_short : (room : ℕ) (ts : List Terminal) → Short b c type_form (read_type types d ts) → Short b c declaration_form (function types loops d room ts)
      unfolding function read_header
      function_short room ts a = behind_alike room true 0 0 (read_header types d ts) (read_header types d ts) (header_from true 0 0 (read_type types d ts) (read_type types d ts) a)

  -- ---- structs

  -- a type that begins with `struct` and a name behind which nothing before the place is left
  type_short : (types : List (List ℕ)) (d : ℕ) (ts : List Terminal) → plain_at ts ≡ k.Struct → Short b c (read_form (List ℕ)) (any_name (next ts)) → Short b c type_form (read_type types (suc d) ts)
  unfolding read_type
  type_short types d ts e a =
      let leaf : Read (List ℕ) → Outcome ReadType = λ x. Ok (leaf_type (StructType x.value) x.rest) in
      subst (λ (z : List Terminal). Short b c type_form (base_by (kind_at types z) z >>= suffixes (suc d) (suc d))) (sym (sign_at ts k.Struct e tt)) (
      bind b c type_form type_form true 0 0 (any_name (next ts) >>= leaf) (any_name (next ts) >>= leaf) (suffixes (suc d) (suc d)) (suffixes (suc d) (suc d))
      (bind b c (read_form (List ℕ)) type_form true 0 0 (any_name (next ts)) (any_name (next ts)) leaf leaf a (λ u r p _ z. done b c type_form u 0 0 (leaf_type (StructType r.value) r.rest) p tt z))
      (λ v r p f z. suffixes_alike b c (suc d) (suc d) v 0 0 r p f z))

  name_short : (ts : List Terminal) → plain_at ts ≡ k.Name → length (next ts) ≤ length b → Short b c (read_form (List ℕ)) (any_name ts)
  name_short ts e low = subst (λ (z : Kind). Short b c (read_form (List ℕ)) (name_by z ts)) (sym e) low

  fewer : (ts : List Terminal) → length (next ts) ≤ length ts
  fewer [] = omega arith
  fewer (t ∷ ts) = omega arith

  module _ (types : List (List ℕ)) (loops : Bool) (d room : ℕ) where
    defined_short : (ts : List Terminal) → length ts ≤ length b → (x : List ℕ) → (n : ℕ) → Short b c declaration_form (read_fields types (suc d) n ts >>= λ fs. semi fs.rest >>= λ rest. Ok (record { declaration = DefineStruct x fs.value; room = room; rest = rest }))
    defined_short ts low x n =
        bind b c Fields declaration_form true 0 0 (read_fields types (suc d) n ts) (read_fields types (suc d) n ts) (λ fs. semi fs.rest >>= λ rest. Ok (record { declaration = DefineStruct x fs.value; room = room; rest = rest }))
        (λ fs. semi fs.rest >>= λ rest. Ok (record { declaration = DefineStruct x fs.value; room = room; rest = rest })) (fields_loop types (suc d) n n true 0 0 ts ts tt tt (low, refl)) (λ v fs p _ q.
        defined_behind v 0 0 x fs p q)
      where
        defined_behind : (v : Bool) (l m : ℕ) (x : List ℕ) (fs : Read (List TypedName)) (p : List Terminal) → Left b c v l m fs.rest p
            → Alike b c declaration_form v l m (semi fs.rest >>= λ rest. Ok (record { declaration = DefineStruct x fs.value; room = room; rest = rest })) (semi p >>= λ rest. Ok (record { declaration = DefineStruct x fs.value; room = room; rest = rest }))
        defined_behind v l m x fs p q =
            bind b c tokens declaration_form v l m (semi fs.rest) (semi p) (λ rest. Ok (record { declaration = DefineStruct x fs.value; room = room; rest = rest })) (λ rest. Ok (record { declaration = DefineStruct x fs.value; room = room; rest = rest }))
            (semi_alike b c v l m fs.rest p (wider b c v l m fs.rest p q)) (λ u zs bs _ y. done b c declaration_form u l m (record { declaration = DefineStruct x fs.value; room = room; rest = zs }) bs tt y)

    -- behind `struct` and a name, by the kind of the next token
    struct_by_short : (ts : List Terminal) → length (next (next (next ts))) ≤ length b → Short b c type_form (read_type types (suc d) ts) → (kind : Kind) → Short b c declaration_form (struct_by types loops (suc d) room kind ts)
    struct_by_short ts low a k.Semi = low
    struct_by_short ts low a k.LBrace = defined_short (next (next (next ts))) low (bytes_at (next ts)) (length ts)
    struct_by_short ts low a _ = function_short types (suc d) loops room ts a

    struct_of_short : (ts : List Terminal) → plain_at ts ≡ k.Struct → length (next ts) ≤ length b → (kind : Kind) → Short b c declaration_form (struct_of types loops (suc d) room kind ts)
    struct_of_short ts e low k.Name =
        struct_by_short ts (omega (arith, low, fewer (next ts), fewer (next (next ts)))) (type_short types d ts e (any_name_alike b c true 0 0 (next ts) (next ts) (low, refl))) (plain_at (next (next ts)))
    struct_of_short ts e low _ = low

    struct_by_alike : (l m : ℕ) (ts us : List Terminal) → Left b c false (suc l) (suc m) ts us → Twin b c (next ts) (next us) → Twin b c (next (next ts)) (next (next us)) → (kind : Kind)
        → Alike b c declaration_form false l m (struct_by types loops (suc d) room kind ts) (struct_by types loops (suc d) room kind us)
    struct_by_alike l m ts us h x y k.Semi =
        subst (λ (z : List ℕ). Alike b c declaration_form false l m (struct_by types loops (suc d) room k.Semi ts) (Ok (record { declaration = DeclareStruct z; room = room; rest = next (next (next us)) })))
        (same_bytes b c false (length (next ts)) (length (next us)) (next ts) (next us) (x, omega arith, omega arith)) (
        on_next b c declaration_form false l m (next (next ts)) (next (next us)) (λ z. Ok (record { declaration = DeclareStruct (bytes_at (next ts)); room = room; rest = z })) (λ z. Ok (record { declaration = DeclareStruct (bytes_at (next ts)); room = room; rest = z }))
        (y, omega (arith, h.1, fewer ts, fewer (next ts)), omega (arith, h.2, fewer us, fewer (next us))) (λ v xs ys q.
        done b c declaration_form v l m (record { declaration = DeclareStruct (bytes_at (next ts)); room = room; rest = xs }) ys tt q))
    struct_by_alike l m ts us h x y k.LBrace = at (length ts) (length us) refl refl
      where
        made : List ℕ → Read (List TypedName) → Outcome ReadDeclaration
        made x fs = semi fs.rest >>= λ rest. Ok (record { declaration = DefineStruct x fs.value; room = room; rest = rest })

        made_alike : (x : List ℕ) (v : Bool) (l m : ℕ) (fs : Read (List TypedName)) (p : List Terminal) → Left b c v l m fs.rest p → Alike b c declaration_form v l m (made x fs) (made x (record fs { rest = p }))
        made_alike x v l m fs p q =
            bind b c tokens declaration_form v l m (semi fs.rest) (semi p) (λ rest. Ok (record { declaration = DefineStruct x fs.value; room = room; rest = rest })) (λ rest. Ok (record { declaration = DefineStruct x fs.value; room = room; rest = rest }))
            (semi_alike b c v l m fs.rest p (wider b c v l m fs.rest p q)) (λ u zs bs _ y. done b c declaration_form u l m (record { declaration = DefineStruct x fs.value; room = room; rest = zs }) bs tt y)

        room_for : (v : Bool) (i : ℕ) → Enough b c v i (suc i)
        room_for true i = tt
        room_for false i = omega arith

        at : (i j : ℕ) → length ts ≡ i → length us ≡ j
            → Alike b c declaration_form false l m (read_fields types (suc d) i (next (next (next ts))) >>= made (bytes_at (next ts))) (read_fields types (suc d) j (next (next (next us))) >>= made (bytes_at (next us)))
        at zero j e f = absurd (nothing_left b c ts us h.0 (omega (arith, e)))
        at (suc i) zero e f = absurd (nothing_left_there b c ts us h.0 (omega (arith, f)))
        at (suc i) (suc j) e f =
            subst (λ (z : List ℕ). Alike b c declaration_form false l m (read_fields types (suc d) (suc i) (next (next (next ts))) >>= made (bytes_at (next ts))) (read_fields types (suc d) (suc j) (next (next (next us))) >>= made z))
            (same_bytes b c false (length (next ts)) (length (next us)) (next ts) (next us) (x, omega arith, omega arith)) (
            weaker b c declaration_form false i j l m _ _ (omega (arith, e, h.1)) (omega (arith, f, h.2)) (
            on_next b c declaration_form false i j (next (next ts)) (next (next us)) (λ z. read_fields types (suc d) (suc i) z >>= made (bytes_at (next ts))) (λ z. read_fields types (suc d) (suc j) z >>= made (bytes_at (next ts)))
            (y, omega (arith, e, fewer ts, fewer (next ts)), omega (arith, f, fewer us, fewer (next us))) (λ v xs ys q.
            bind b c Fields declaration_form v i j (read_fields types (suc d) (suc i) xs) (read_fields types (suc d) (suc j) ys) (made (bytes_at (next ts))) (made (bytes_at (next ts)))
            (fields_loop types (suc d) (suc i) (suc j) v i j xs ys (room_for v i) (room_for v j) q) (λ u fs p _ z. made_alike (bytes_at (next ts)) u i j fs p z))))
    struct_by_alike l m ts us h x y _ = function_alike types (suc d) loops room false l m ts us h

    -- behind `struct`
    struct_alike : (w : Bool) (l m : ℕ) (ts us : List Terminal) → plain_at ts ≡ k.Struct → Left b c w (suc l) (suc m) ts us
        → Alike b c declaration_form w l m (struct_of types loops (suc d) room (plain_at (next ts)) ts) (struct_of types loops (suc d) room (plain_at (next us)) us)
    struct_alike true l m ts us e h = struct_of_short ts e (omega (arith, h.0, fewer ts)) (plain_at (next ts))
    struct_alike false l m ts us e h = at h.0.0 h.0.1 h.0.2 h.0.3
      where
        Goal : Type 0
        Goal = Alike b c declaration_form false l m (struct_of types loops (suc d) room (plain_at (next ts)) ts) (struct_of types loops (suc d) room (plain_at (next us)) us)

        named : Twin b c (next ts) (next us) → (kind : Kind) → plain_at (next ts) ≡ kind → (p : List Terminal) (x : Terminal) → next ts ≡ x ∷ (p ++ b) → next us ≡ x ∷ (p ++ c)
            → Alike b c declaration_form false l m (struct_of types loops (suc d) room kind ts) (struct_of types loops (suc d) room kind us)
        named t k.Name n [] x f g =
            inl (struct_by_short ts (omega (arith, ap (λ (z : List Terminal). length (next z)) f, fewer (next (next ts)))) (type_short types d ts e (name_short (next ts) n (omega (arith, ap (λ (z : List Terminal). length (next z)) f)))) (plain_at (next (next ts))))
        named t k.Name n (y ∷ p) x f g =
            let nn : Twin b c (next (next ts)) (next (next us)) = (y, p, ap next f, ap next g) in
            by_plain b c declaration_form false l m (length (next (next ts))) (length (next (next us))) (next (next ts)) (next (next us)) (λ z. struct_by types loops (suc d) room z ts) (λ z. struct_by types loops (suc d) room z us) (nn, omega arith, omega arith)
            (struct_by_alike l m ts us h t nn)
        named t _ n p x f g = refused b c declaration_form false l m (length (next ts)) (length (next us)) (next ts) (next us) (t, omega arith, omega arith)

        at : (t : Terminal) (p : List Terminal) → ts ≡ t ∷ (p ++ b) → us ≡ t ∷ (p ++ c) → Goal
        at t [] f g = inl (struct_of_short ts e (omega (arith, ap (λ (z : List Terminal). length (next z)) f)) (plain_at (next ts)))
        at t (x ∷ p) f g =
            let n : Twin b c (next ts) (next us) = (x, p, ap next f, ap next g) in
            by_plain_is b c declaration_form l m (next ts) (next us) (λ z. struct_of types loops (suc d) room z ts) (λ z. struct_of types loops (suc d) room z us) n (λ kind q. named n kind q p x (ap next f) (ap next g))

    -- ---- declarations

    use_head : (t : Terminal) (xs ys : List Terminal) → use_of (t ∷ xs) ≡ use_of (t ∷ ys)
    use_head (Word x) xs ys = refl
    use_head (Text x) xs ys = refl
    use_head (Use a x) xs ys = refl
    use_head (Sign k) xs ys = refl

    same_use : (w : Bool) (l m : ℕ) (ts us : List Terminal) → Left b c w l m ts us → use_of ts ≡ use_of us
    same_use true l m ts us h = sym (ap use_of h.1)
    same_use false l m ts us h = ap use_of h.0.2 ∙ use_head h.0.0 (h.0.1 ++ b) (h.0.1 ++ c) ∙ sym (ap use_of h.0.3)

    declaration_alike_by : (w : Bool) (l m : ℕ) (ts us : List Terminal) → Left b c w (suc l) (suc m) ts us → (kind : Kind) → plain_at ts ≡ kind
        → Alike b c declaration_form w l m (declaration_by types loops (suc d) room kind ts) (declaration_by types loops (suc d) room kind us)
    declaration_alike_by w l m ts us h k.Use e =
        subst (λ (z : Declaration). Alike b c declaration_form w l m (declaration_by types loops (suc d) room k.Use ts) (Ok (record { declaration = z; room = room; rest = next us }))) (same_use w (suc l) (suc m) ts us h) (
        on_next b c declaration_form w l m ts us (λ z. Ok (record { declaration = use_of ts; room = room; rest = z })) (λ z. Ok (record { declaration = use_of ts; room = room; rest = z })) h (λ v xs ys q.
        done b c declaration_form v l m (record { declaration = use_of ts; room = room; rest = xs }) ys tt q))
    declaration_alike_by w l m ts us h k.Struct e = struct_alike w l m ts us e h
    declaration_alike_by w l m ts us h k.Typedef e =
        let made : ReadType → Read (List ℕ) → Outcome ReadDeclaration = λ t x. semi x.rest >>= λ rest. Ok (record { declaration = Typedef t.value_type x.value; room = room; rest = rest }) in
        let f : List Terminal → Outcome ReadDeclaration = λ z. read_type types (suc d) z >>= λ t. new_name types t.rest >>= made t in
        on_next b c declaration_form w l m ts us f f h (λ v xs ys q.
        bind b c type_form declaration_form v l m (read_type types (suc d) xs) (read_type types (suc d) ys) (λ t. new_name types t.rest >>= made t) (λ t. new_name types t.rest >>= made t) (type_alike b c types (suc d) v l m xs ys (wider b c v l m xs ys q)) (λ u t p _ z.
        bind b c (read_form (List ℕ)) declaration_form u l m (new_name types t.rest) (new_name types p) (made t) (made t) (new_name_alike b c types u l m t.rest p (wider b c u l m t.rest p z)) (λ v x s _ y.
        bind b c tokens declaration_form v l m (semi x.rest) (semi s) (λ rest. Ok (record { declaration = Typedef t.value_type x.value; room = room; rest = rest })) (λ rest. Ok (record { declaration = Typedef t.value_type x.value; room = room; rest = rest }))
        (semi_alike b c v l m x.rest s (wider b c v l m x.rest s y)) (λ u zs bs _ n. done b c declaration_form u l m (record { declaration = Typedef t.value_type x.value; room = room; rest = zs }) bs tt n))))
    declaration_alike_by w l m ts us h _ e = function_alike types (suc d) loops room w l m ts us h

  declaration_alike : (types : List (List ℕ)) (loops : Bool) (room : ℕ) → Reads b c declaration_form (read_declaration types loops room)
  declaration_alike types loops room true l m ts us h = declaration_alike_by types loops 198 room true l m ts us h (plain_at ts) refl
  declaration_alike types loops room false l m ts us h =
      by_plain_is b c declaration_form l m ts us (λ z. declaration_by types loops 199 room z ts) (λ z. declaration_by types loops 199 room z us) h.0 (declaration_alike_by types loops 198 room false l m ts us h)

  -- ---- programs

  program_turn : (loops : Bool) (n k : ℕ) (w : Bool) (l m : ℕ)
      → ((types : List (List ℕ)) (room : ℕ) (v : Bool) (xs ys : List Terminal) → Left b c v l m xs ys → Alike b c program_form v l m (read_declarations types loops n room xs) (read_declarations types loops k room ys))
      → (types : List (List ℕ)) (room : ℕ) (ts us : List Terminal) → Left b c w (suc l) (suc m) ts us
      → Alike b c program_form w l m (read_declaration types loops room ts >>= λ d. read_declarations (type_names_after types d.declaration) loops n d.room d.rest >>= λ ds. Ok (d.declaration ∷ ds))
      (read_declaration types loops room us >>= λ d. read_declarations (type_names_after types d.declaration) loops k d.room d.rest >>= λ ds. Ok (d.declaration ∷ ds))
  program_turn loops n k w l m goes types room ts us h =
      bind b c declaration_form program_form w l m (read_declaration types loops room ts) (read_declaration types loops room us) (λ d. read_declarations (type_names_after types d.declaration) loops n d.room d.rest >>= λ ds. Ok (d.declaration ∷ ds))
      (λ d. read_declarations (type_names_after types d.declaration) loops k d.room d.rest >>= λ ds. Ok (d.declaration ∷ ds)) (declaration_alike types loops room w l m ts us h) (λ v d p _ q.
      bind b c program_form program_form v l m (read_declarations (type_names_after types d.declaration) loops n d.room d.rest) (read_declarations (type_names_after types d.declaration) loops k d.room p) (λ ds. Ok (d.declaration ∷ ds)) (λ ds. Ok (d.declaration ∷ ds))
      (goes (type_names_after types d.declaration) d.room v d.rest p q) (λ u ds e _ z. done b c program_form u l m (d.declaration ∷ ds) tt tt z))

  pub program_alike : (loops : Bool) (n k : ℕ) (w : Bool) (l m : ℕ) (types : List (List ℕ)) (room : ℕ) (ts us : List Terminal) → Enough b c w l n → Enough b c w m k → Left b c w l m ts us
      → Alike b c program_form w l m (read_declarations types loops n room ts) (read_declarations types loops k room us)
  unfolding read_declarations
  program_alike loops n k true l m types room [] us e f h = omega arith
  program_alike loops n k false l m types room [] us e f h = inl (omega arith)
  program_alike loops zero k true l m types room (t ∷ ts) us e f h = h.0
  program_alike loops zero k false l m types room (t ∷ ts) us e f h = absurd (nothing_left b c (t ∷ ts) us h.0 (omega (arith, e, h.1)))
  program_alike loops (suc n) k true l m types room (t ∷ ts) us e f h = program_turn loops n n true 0 0 (λ types room v xs ys q.
      each b c program_form 0 0 (read_declarations types loops n room) (read_declarations types loops n room) (λ xs ys q. program_alike loops n n true 0 0 types room xs ys tt tt q) (λ xs ys q. absurd (nothing_left b c xs ys q.0 q.1)) v xs ys q)
      types room (t ∷ ts) (t ∷ ts) (h.0, refl)
  program_alike loops (suc n) zero false l m types room (t ∷ ts) us e f h = absurd (nothing_left_there b c (t ∷ ts) us h.0 (omega (arith, f, h.2)))
  program_alike loops (suc n) (suc k) false l m types room (t ∷ ts) [] e f h = absurd (nothing_left_there b c (t ∷ ts) [] h.0 (omega arith))
  program_alike loops (suc n) (suc k) false zero m types room (t ∷ ts) (u ∷ us) e f h = absurd (nothing_left b c (t ∷ ts) (u ∷ us) h.0 h.1)
  program_alike loops (suc n) (suc k) false (suc l) zero types room (t ∷ ts) (u ∷ us) e f h = absurd (nothing_left_there b c (t ∷ ts) (u ∷ us) h.0 h.2)
  program_alike loops (suc n) (suc k) false (suc l) (suc m) types room (t ∷ ts) (u ∷ us) e f h =
      weaker b c program_form false l m (suc l) (suc m) (read_declarations types loops (suc n) room (t ∷ ts)) (read_declarations types loops (suc k) room (u ∷ us)) (omega arith) (omega arith) (program_turn loops n k false l m (λ types room v xs ys q.
      each b c program_form l m (read_declarations types loops n room) (read_declarations types loops k room) (λ xs ys q. program_alike loops n k true l m types room xs ys tt tt q)
      (λ xs ys q. program_alike loops n k false l m types room xs ys (one_less l n e) (one_less m k f) q) v xs ys q) types room (t ∷ ts) (u ∷ us) h)

-- ---- the causes

pub twin_at : (before : List Terminal) (t : Terminal) (behind others : List Terminal) → Twin behind others (before ++ t ∷ behind) (before ++ t ∷ others)
twin_at [] t behind others = (t, [], refl, refl)
twin_at (x ∷ xs) t behind others = let h = twin_at xs t behind others in (x, h.0 ∷ h.1, ap (λ (z : List Terminal). x ∷ z) h.2, ap (λ (z : List Terminal). x ∷ z) h.3)

pub caused : (loops : Bool) (before : List Terminal) (t : Terminal) (behind : List Terminal) (error : ReadError) → IsAt error (suc (length behind)) → read_program loops (before ++ t ∷ behind) ≡ Err error
    → (others : List Terminal) (program : Program) → IsRead loops (before ++ t ∷ others) program → ⊥
unfolding read_program
caused loops before t behind error is met others program reads =
    let ts = before ++ t ∷ behind in
    let us = before ++ t ∷ others in
    let a = program_alike behind others loops (length ts) (length us) false (length ts) (length us) [] 4096 ts us (omega arith) (omega arith) (twin_at before t behind others, omega arith, omega arith) in
    at error is (subst (λ (z : Outcome Program). Alike behind others program_form false (length ts) (length us) z (read_program loops us)) met a)
  where
    at : (error : ReadError) → IsAt error (suc (length behind)) → Alike behind others program_form false (length (before ++ t ∷ behind)) (length (before ++ t ∷ others)) (Err error) (read_program loops (before ++ t ∷ others)) → ⊥
    at OutOfMemory is a = is
    at (Syntax n) is (inl a) = omega (arith, is, a)
    at (Syntax n) is (inr a) = fault_excludes loops (before ++ t ∷ others) program (Syntax (suc (a.0 + length others))) a.2 reads
    at (TooDeep n) is (inl a) = omega (arith, is, a)
    at (TooDeep n) is (inr a) = fault_excludes loops (before ++ t ∷ others) program (TooDeep (suc (a.0 + length others))) a.2 reads
    at (TooLarge n) is a = is
