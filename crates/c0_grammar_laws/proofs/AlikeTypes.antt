-- Tokens that must stand at a place, and types, read from tokens that are alike up to a place.
use Rattle.std.proofs.Common.{ℕ, zero, suc, Bool, true, false, List, Ok, refl, subst}
use Rattle.std.specs.Prelude.{nat_lt, if◌then◌else◌}
use Rattle.c0_source.specs.declared.kind.Kind.{Kind}
use Rattle.c0_source.specs.declared.kind.Kind.TheVariants as k
use Rattle.c0_source.specs.declared.kind.Operator.TheVariants as o
use Rattle.c0_source.specs.Terminals.{Terminal}
use Rattle.c0_syntax.specs.Trees.{Basic, StructType, NamedType, Pointer}
use Rattle.c0_grammar_laws.specs.Outcome.{Outcome, ◌>>=◌, Read, too_deep, kind_at, bytes_at, next, lparen_by, rparen_by, rbracket_by, semi_by, comma_by, colon_by, name_by, lparen, rparen, rbracket, semi, comma, colon, any_name, new_name}
use Rattle.c0_grammar_laws.specs.ReadExpressions.{ReadType, leaf_type, base_by, array_of, suffix_by, suffixes, read_type}
use Rattle.c0_grammar_laws.proofs.Alike.{Form, tokens, Left, Alike, bind, done, refused, deep, passed, on_next, same_bytes, by_plain, by_kind, wider}

-- a reading whose tokens alone may differ
abbrev pub simple : {A : Type 0} → (A → List Terminal) → (A → List Terminal → A) → Form A
simple get put = record { get = get; P = List Terminal; put = put; tail = λ p. p; fits = λ r p. Unit {0}; own = get; own_fits = λ r. tt; own_tail = λ r. refl }

abbrev pub read_form : (A : Type 0) → Form (Read A)
read_form A = simple (λ r. r.rest) (λ r p. record r { rest = p })

abbrev pub type_form : Form ReadType
type_form = simple (λ r. r.rest) (λ r p. record r { rest = p })

module _ (b c : List Terminal) where
  -- what a reading gives of tokens that are alike is alike
  abbrev pub Reads : {A : Type 0} → Form A → (List Terminal → Outcome A) → Type 0
  Reads F f = (w : Bool) (l m : ℕ) (ts us : List Terminal) → Left b c w (suc l) (suc m) ts us → Alike b c F w l m (f ts) (f us)

  -- the same of a loop over what stands behind what was read
  abbrev pub Goes : {A : Type 0} (F : Form A) → (A → Outcome A) → Type 0
  Goes F f = (w : Bool) (l m : ℕ) (r : _) (p : F.P) → F.fits r p → Left b c w l m (F.get r) (F.tail p) → Alike b c F w l m (f r) (f (F.put r p))

  pub pick : {A : Type 0} (F : Form A) (w : Bool) (l m : ℕ) (x : Bool) (o q u v : Outcome A) → Alike b c F w l m o u → Alike b c F w l m q v → Alike b c F w l m (if x then o else q) (if x then u else v)
  pick F w l m true o q u v a d = a
  pick F w l m false o q u v a d = d

  -- ---- a token that must stand here

  pub lparen_alike : Reads tokens lparen
  lparen_alike w l m ts us h = by_plain b c tokens w l m (suc l) (suc m) ts us (λ k. lparen_by k ts) (λ k. lparen_by k us) h at
    where
      at : (kind : Kind) → Alike b c tokens w l m (lparen_by kind ts) (lparen_by kind us)
      at k.LParen = passed b c w l m ts us h
      at _ = refused b c tokens w l m (suc l) (suc m) ts us h

  pub rparen_alike : Reads tokens rparen
  rparen_alike w l m ts us h = by_plain b c tokens w l m (suc l) (suc m) ts us (λ k. rparen_by k ts) (λ k. rparen_by k us) h at
    where
      at : (kind : Kind) → Alike b c tokens w l m (rparen_by kind ts) (rparen_by kind us)
      at k.RParen = passed b c w l m ts us h
      at _ = refused b c tokens w l m (suc l) (suc m) ts us h

  pub rbracket_alike : Reads tokens rbracket
  rbracket_alike w l m ts us h = by_plain b c tokens w l m (suc l) (suc m) ts us (λ k. rbracket_by k ts) (λ k. rbracket_by k us) h at
    where
      at : (kind : Kind) → Alike b c tokens w l m (rbracket_by kind ts) (rbracket_by kind us)
      at k.RBracket = passed b c w l m ts us h
      at _ = refused b c tokens w l m (suc l) (suc m) ts us h

  pub semi_alike : Reads tokens semi
  semi_alike w l m ts us h = by_plain b c tokens w l m (suc l) (suc m) ts us (λ k. semi_by k ts) (λ k. semi_by k us) h at
    where
      at : (kind : Kind) → Alike b c tokens w l m (semi_by kind ts) (semi_by kind us)
      at k.Semi = passed b c w l m ts us h
      at _ = refused b c tokens w l m (suc l) (suc m) ts us h

  pub comma_alike : Reads tokens comma
  comma_alike w l m ts us h = by_plain b c tokens w l m (suc l) (suc m) ts us (λ k. comma_by k ts) (λ k. comma_by k us) h at
    where
      at : (kind : Kind) → Alike b c tokens w l m (comma_by kind ts) (comma_by kind us)
      at k.Comma = passed b c w l m ts us h
      at _ = refused b c tokens w l m (suc l) (suc m) ts us h

  pub colon_alike : Reads tokens colon
  colon_alike w l m ts us h = by_plain b c tokens w l m (suc l) (suc m) ts us (λ k. colon_by k ts) (λ k. colon_by k us) h at
    where
      at : (kind : Kind) → Alike b c tokens w l m (colon_by kind ts) (colon_by kind us)
      at k.Colon = passed b c w l m ts us h
      at _ = refused b c tokens w l m (suc l) (suc m) ts us h

  name_alike : (w : Bool) (l m : ℕ) (ts us : List Terminal) → Left b c w (suc l) (suc m) ts us → (kind : Kind) → Alike b c (read_form (List ℕ)) w l m (name_by kind ts) (name_by kind us)
  name_alike w l m ts us h k.Name =
      let F : Form (Read (List ℕ)) = read_form (List ℕ) in
      subst (λ (z : List ℕ). Alike b c F w l m (name_by k.Name ts) (Ok (record { value = z; rest = next us }))) (same_bytes b c w (suc l) (suc m) ts us h) (
      on_next b c F w l m ts us (λ x. Ok (record { value = bytes_at ts; rest = x })) (λ x. Ok (record { value = bytes_at ts; rest = x })) h (λ v xs ys q.
      done b c F v l m (record { value = bytes_at ts; rest = xs }) ys tt q))
  name_alike w l m ts us h _ = refused b c (read_form (List ℕ)) w l m (suc l) (suc m) ts us h

  pub any_name_alike : Reads (read_form (List ℕ)) any_name
  any_name_alike w l m ts us h = by_plain b c (read_form (List ℕ)) w l m (suc l) (suc m) ts us (λ k. name_by k ts) (λ k. name_by k us) h (name_alike w l m ts us h)

  pub new_name_alike : (types : List (List ℕ)) → Reads (read_form (List ℕ)) (new_name types)
  new_name_alike types w l m ts us h = by_kind b c (read_form (List ℕ)) types w l m (suc l) (suc m) ts us (λ k. name_by k ts) (λ k. name_by k us) h (name_alike w l m ts us h)

  -- ---- types

  base_alike : (w : Bool) (l m : ℕ) (ts us : List Terminal) → Left b c w (suc l) (suc m) ts us → (kind : Kind) → Alike b c type_form w l m (base_by kind ts) (base_by kind us)
  base_alike w l m ts us h (k.Base x) =
      on_next b c type_form w l m ts us (λ z. Ok (leaf_type (Basic x) z)) (λ z. Ok (leaf_type (Basic x) z)) h (λ v xs ys q. done b c type_form v l m (leaf_type (Basic x) xs) ys tt q)
  base_alike w l m ts us h k.Struct =
      let f : List Terminal → Outcome ReadType = λ z. any_name z >>= λ x. Ok (leaf_type (StructType x.value) x.rest) in
      on_next b c type_form w l m ts us f f h (λ v xs ys q.
      bind b c (read_form (List ℕ)) type_form v l m (any_name xs) (any_name ys) (λ x. Ok (leaf_type (StructType x.value) x.rest)) (λ x. Ok (leaf_type (StructType x.value) x.rest))
      (any_name_alike v l m xs ys (wider b c v l m xs ys q)) (λ u r p _ z. done b c type_form u l m (leaf_type (StructType r.value) r.rest) p tt z))
  base_alike w l m ts us h k.TypeName =
      subst (λ (z : List ℕ). Alike b c type_form w l m (base_by k.TypeName ts) (Ok (leaf_type (NamedType z) (next us)))) (same_bytes b c w (suc l) (suc m) ts us h) (
      on_next b c type_form w l m ts us (λ x. Ok (leaf_type (NamedType (bytes_at ts)) x)) (λ x. Ok (leaf_type (NamedType (bytes_at ts)) x)) h (λ v xs ys q.
      done b c type_form v l m (leaf_type (NamedType (bytes_at ts)) xs) ys tt q))
  base_alike w l m ts us h _ = refused b c type_form w l m (suc l) (suc m) ts us h

  suffix_alike : (limit : ℕ) (go : ReadType → Outcome ReadType) → Goes type_form go → (w : Bool) (l m : ℕ) (t : ReadType) (p : List Terminal) → Left b c w l m t.rest p → (kind : Kind)
      → Alike b c type_form w l m (suffix_by limit go kind t) (suffix_by limit go kind (record t { rest = p }))
  suffix_alike limit go goes w l m t p h (k.Infix o.Multiply) =
      let f : List Terminal → Outcome ReadType = λ z. go (record { value_type = Pointer t.value_type; height = suc t.height; rest = z }) in
      pick type_form w l m (nat_lt t.height limit) (f (next t.rest)) (too_deep t.rest) (f (next p)) (too_deep p) (
      on_next b c type_form w l m t.rest p f f (wider b c w l m t.rest p h) (λ v xs ys q. goes v l m (record { value_type = Pointer t.value_type; height = suc t.height; rest = xs }) ys tt q))
      (deep b c type_form w l m l m t.rest p h)
  suffix_alike limit go goes w l m t p h k.LBracket =
      let f : List Terminal → Outcome ReadType = λ z. rbracket z >>= λ rest. go (array_of t rest) in
      pick type_form w l m (nat_lt t.height limit) (f (next t.rest)) (too_deep t.rest) (f (next p)) (too_deep p) (
      on_next b c type_form w l m t.rest p f f (wider b c w l m t.rest p h) (λ v xs ys q.
      bind b c tokens type_form v l m (rbracket xs) (rbracket ys) (λ rest. go (array_of t rest)) (λ rest. go (array_of t rest)) (rbracket_alike v l m xs ys (wider b c v l m xs ys q)) (λ u r s _ z.
      goes u l m (array_of t r) s tt z)))
      (deep b c type_form w l m l m t.rest p h)
  suffix_alike limit go goes w l m t p h _ = done b c type_form w l m t p tt h

  pub suffixes_alike : (limit n : ℕ) → Goes type_form (suffixes limit n)
  unfolding suffixes
  suffixes_alike limit zero w l m t p _ h = deep b c type_form w l m l m t.rest p h
  suffixes_alike limit (suc n) w l m t p _ h =
      by_plain b c type_form w l m l m t.rest p (λ k. suffix_by limit (suffixes limit n) k t) (λ k. suffix_by limit (suffixes limit n) k (record t { rest = p })) h
      (suffix_alike limit (suffixes limit n) (suffixes_alike limit n) w l m t p h)

  pub type_alike : (types : List (List ℕ)) (d : ℕ) → Reads type_form (read_type types d)
  unfolding read_type
  type_alike types zero w l m ts us h = deep b c type_form w l m (suc l) (suc m) ts us h
  type_alike types (suc d) w l m ts us h =
      bind b c type_form type_form w l m (base_by (kind_at types ts) ts) (base_by (kind_at types us) us) (suffixes (suc d) (suc d)) (suffixes (suc d) (suc d))
      (by_kind b c type_form types w l m (suc l) (suc m) ts us (λ k. base_by k ts) (λ k. base_by k us) h (base_alike w l m ts us h))
      (λ v r p f z. suffixes_alike (suc d) (suc d) v l m r p f z)
