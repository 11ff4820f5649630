-- Types, both ways.
use Rattle.std.proofs.Common.{◌≡◌, ℕ, zero, suc, ◌+◌, ◌<◌, ◌≤◌, ◌⊎◌, true, ltb, List, ◌∷◌, length, Ok, refl, ap, subst, ◌∙◌, inl, inr, arith}
use Rattle.std.proofs.lemmas.Bool.{lt-ltb, ltb-true}
use Rattle.c0_source.specs.declared.kind.Kind.{Kind}
use Rattle.c0_source.specs.declared.kind.Kind.TheVariants as k
use Rattle.c0_source.specs.declared.kind.Operator.TheVariants as o
use Rattle.c0_source.specs.Terminals.{Terminal, Word, Sign}
use Rattle.c0_syntax.specs.Trees.{ValueType, Basic, StructType, NamedType, Pointer, Array}
use Rattle.c0_syntax.specs.Expressions.{emit_type, FormedType, height_type}
use Rattle.c0_grammar_laws.specs.Outcome.{Outcome, ◌>>=◌, kind_at, plain_at, next, rbracket, any_name}
use Rattle.c0_grammar_laws.specs.ReadExpressions.{ReadType, leaf_type, base_by, pointer_to, array_of, suffix_by, suffixes, read_type}
use Rattle.c0_grammar_laws.proofs.Basics.{bind_ok, ok_is, chosen, sign_at, kind_sign, type_at, rbracket_ok, any_name_ok}

abbrev pub found_type : ValueType → List Terminal → ReadType
found_type t rest = record { value_type = t; height = height_type t; rest = rest }

-- what ends a type
abbrev pub EndsType : Kind → Type 0
EndsType (k.Infix o.Multiply) = ⊥
EndsType k.LBracket = ⊥
EndsType _ = Unit {0}

pub one-le_height_type : (t : ValueType) → 1 ≤ height_type t
one-le_height_type (Basic b) = omega arith
one-le_height_type (StructType x) = omega arith
one-le_height_type (NamedType x) = omega arith
one-le_height_type (Pointer t) = omega arith
one-le_height_type (Array t) = omega arith

pub longer_type : (t : ValueType) (rest : List Terminal) → length rest < length (emit_type t rest)
longer_type (Basic b) rest = omega arith
longer_type (StructType x) rest = omega arith
longer_type (NamedType x) rest = omega arith
longer_type (Pointer t) rest = omega (arith, longer_type t (Sign (k.Infix o.Multiply) ∷ rest))
longer_type (Array t) rest = omega (arith, longer_type t (Sign k.LBracket ∷ Sign k.RBracket ∷ rest))

-- ---- what reads as a type is read as it

-- reading a type leads to the loop over `*` and `[]` with it
abbrev Steps : List (List ℕ) → ValueType → Type 0
Steps types t = (d : ℕ) (rest : List Terminal) → FormedType types t → height_type t ≤ suc d
    → (f : ℕ) × (suc d < f + height_type t) × ((base_by (kind_at types (emit_type t rest)) (emit_type t rest) >>= suffixes (suc d) (suc d)) ≡ suffixes (suc d) f (found_type t rest))

pointer_turn : (limit f h : ℕ) (t : ValueType) (rest : List Terminal) → h < limit
    → suffixes limit (suc f) (record { value_type = t; height = h; rest = Sign (k.Infix o.Multiply) ∷ rest }) ≡ suffixes limit f (record { value_type = Pointer t; height = suc h; rest = rest })
unfolding suffixes
pointer_turn limit f h t rest lt =
    let e : ltb h limit ≡ true = lt-ltb _ _ lt in
    rw e refl

array_turn : (limit f h : ℕ) (t : ValueType) (rest : List Terminal) → h < limit
    → suffixes limit (suc f) (record { value_type = t; height = h; rest = Sign k.LBracket ∷ Sign k.RBracket ∷ rest }) ≡ suffixes limit f (record { value_type = Array t; height = suc h; rest = rest })
unfolding suffixes
array_turn limit f h t rest lt =
    let e : ltb h limit ≡ true = lt-ltb _ _ lt in
    rw e refl

pointer_at : (t : ValueType) (d f : ℕ) (rest : List Terminal) → height_type (Pointer t) ≤ suc d → suc d < f + height_type t
    → (g : ℕ) × (suc d < g + height_type (Pointer t)) × (suffixes (suc d) f (found_type t (Sign (k.Infix o.Multiply) ∷ rest)) ≡ suffixes (suc d) g (found_type (Pointer t) rest))
pointer_at t d zero rest h lt = absurd (omega arith)
pointer_at t d (suc f) rest h lt = (f, omega arith, pointer_turn (suc d) f (height_type t) t rest (omega arith))

array_at : (t : ValueType) (d f : ℕ) (rest : List Terminal) → height_type (Array t) ≤ suc d → suc d < f + height_type t
    → (g : ℕ) × (suc d < g + height_type (Array t)) × (suffixes (suc d) f (found_type t (Sign k.LBracket ∷ Sign k.RBracket ∷ rest)) ≡ suffixes (suc d) g (found_type (Array t) rest))
array_at t d zero rest h lt = absurd (omega arith)
array_at t d (suc f) rest h lt = (f, omega arith, array_turn (suc d) f (height_type t) t rest (omega arith))

steps : (types : List (List ℕ)) (t : ValueType) → Steps types t
steps types (Basic b) d rest w h = (suc d, omega arith, refl)
steps types (StructType x) d rest w h = (suc d, omega arith, refl)
steps types (NamedType x) d rest w h = (suc d, omega arith, rw w refl)
steps types (Pointer t) d rest w h =
    let s = steps types t d (Sign (k.Infix o.Multiply) ∷ rest) w (omega arith) in
    let p = pointer_at t d s.0 rest h s.1 in
    (p.0, p.1, s.2 ∙ p.2)
steps types (Array t) d rest w h =
    let s = steps types t d (Sign k.LBracket ∷ Sign k.RBracket ∷ rest) w (omega arith) in
    let p = array_at t d s.0 rest h s.1 in
    (p.0, p.1, s.2 ∙ p.2)

stops_by : (limit : ℕ) (go_on : ReadType → Outcome ReadType) (kind : Kind) (t : ReadType) → EndsType kind → suffix_by limit go_on kind t ≡ Ok t
stops_by limit go_on (k.Infix o.Multiply) t s = absurd s
stops_by limit go_on k.LBracket t s = absurd s
stops_by limit go_on _ t s = refl

suffixes_done : (limit f : ℕ) (t : ReadType) → 0 < f → EndsType (plain_at t.rest) → suffixes limit f t ≡ Ok t
unfolding suffixes
suffixes_done limit zero t lt s = absurd (omega arith)
suffixes_done limit (suc f) t lt s = stops_by limit (suffixes limit f) (plain_at t.rest) t s

pub complete_type : (types : List (List ℕ)) (t : ValueType) (d : ℕ) (rest : List Terminal) → FormedType types t → height_type t ≤ d → EndsType (plain_at rest) → read_type types d (emit_type t rest) ≡ Ok (found_type t rest)
unfolding read_type
complete_type types t zero rest w h s = absurd (omega (arith, one-le_height_type t))
complete_type types t (suc d) rest w h s =
    let c = steps types t d rest w h in
    c.2 ∙ suffixes_done (suc d) c.0 (found_type t rest) (omega (arith, c.1)) s

-- ---- what is read as a type reads as it

pub record SpansType (types : List (List ℕ)) (d : ℕ) (ts : List Terminal) (r : ReadType) : Type 0 where
  pub spelled : ts ≡ emit_type r.value_type r.rest
  pub formed : FormedType types r.value_type
  pub tall : r.height ≡ height_type r.value_type
  pub shallow : height_type r.value_type ≤ d

pub base_spans : (types : List (List ℕ)) (d : ℕ) (kind : Kind) (ts : List Terminal) (r : ReadType) → kind_at types ts ≡ kind → base_by kind ts ≡ Ok r → SpansType types (suc d) ts r
base_spans types d (k.Base b) ts r is e =
    subst (SpansType types (suc d) ts) (ok_is _ r e) (record { spelled = kind_sign types ts (k.Base b) is tt; formed = tt; tall = refl; shallow = omega arith })
base_spans types d k.Struct ts r is e =
    let b = bind_ok (any_name (next ts)) (λ x. Ok (leaf_type (StructType x.value) x.rest)) r e in
    let spelled : ts ≡ Sign k.Struct ∷ Word b.0.value ∷ b.0.rest = kind_sign types ts k.Struct is tt ∙ ap (λ (us : List Terminal). Sign k.Struct ∷ us) (any_name_ok (next ts) b.0 b.1) in
    subst (SpansType types (suc d) ts) (ok_is _ r b.2) (record { spelled = spelled; formed = tt; tall = refl; shallow = omega arith })
base_spans types d k.TypeName ts r is e =
    let w = type_at types ts is in
    subst (SpansType types (suc d) ts) (ok_is _ r e) (record { spelled = w.0; formed = w.1; tall = refl; shallow = omega arith })
base_spans types d _ ts r is e = absurd cc

suffix_ok : (limit : ℕ) (go_on : ReadType → Outcome ReadType) (kind : Kind) (t r : ReadType) → suffix_by limit go_on kind t ≡ Ok r
    → ((kind ≡ k.Infix o.Multiply) × (t.height < limit) × (go_on (pointer_to t) ≡ Ok r))
    ⊎ (((kind ≡ k.LBracket) × (t.height < limit) × ((rbracket (next t.rest) >>= (λ rest. go_on (array_of t rest))) ≡ Ok r)) ⊎ ((t ≡ r) × EndsType kind))
suffix_ok limit go_on (k.Infix o.Multiply) t r e =
    elim (chosen (ltb t.height limit) _ _ _ e) [
      | inl h ↦ inl (refl, ltb-true _ _ h.0, h.1)
      | inr h ↦ absurd (let bad = h.1 in cc)
    ]
suffix_ok limit go_on k.LBracket t r e =
    elim (chosen (ltb t.height limit) _ _ _ e) [
      | inl h ↦ inr (inl (refl, ltb-true _ _ h.0, h.1))
      | inr h ↦ absurd (let bad = h.1 in cc)
    ]
suffix_ok limit go_on _ t r e = inr (inr (ok_is _ _ e, tt))

-- what ends it doesn't go on with it
pub record SoundType (types : List (List ℕ)) (d : ℕ) (ts : List Terminal) (r : ReadType) : Type 0 where
  pub spans : SpansType types d ts r
  pub ends : EndsType (plain_at r.rest)

suffixes_sound : (types : List (List ℕ)) (d f : ℕ) (start : List Terminal) (t r : ReadType) → SpansType types (suc d) start t → suffixes (suc d) f t ≡ Ok r → SoundType types (suc d) start r
unfolding suffixes
suffixes_sound types d zero start t r s e = absurd cc
suffixes_sound types d (suc f) start t r s e =
    elim (suffix_ok (suc d) (suffixes (suc d) f) (plain_at t.rest) t r e) [
      | inl h ↦
          let star = sign_at t.rest (k.Infix o.Multiply) h.0 tt in
          let low : height_type t.value_type < suc d = omega (arith, h.1, s.tall) in
          let one : SpansType types (suc d) start (pointer_to t) = record { spelled = s.spelled ∙ ap (emit_type t.value_type) star; formed = s.formed; tall = ap suc s.tall; shallow = omega arith } in
          suffixes_sound types d f start (pointer_to t) r one h.2
      | inr (inl h) ↦
          let b = bind_ok (rbracket (next t.rest)) (λ rest. suffixes (suc d) f (array_of t rest)) r h.2 in
          let opened = sign_at t.rest k.LBracket h.0 tt in
          let closed = rbracket_ok (next t.rest) b.0 b.1 in
          let low : height_type t.value_type < suc d = omega (arith, h.1, s.tall) in
          let one : SpansType types (suc d) start (array_of t b.0) =
          record { spelled = s.spelled ∙ ap (emit_type t.value_type) (opened ∙ ap (λ (us : List Terminal). Sign k.LBracket ∷ us) closed); formed = s.formed; tall = ap suc s.tall; shallow = omega arith } in
          suffixes_sound types d f start (array_of t b.0) r one b.2
      | inr (inr h) ↦ subst (SoundType types (suc d) start) h.0 (record { spans = s; ends = h.1 })
    ]

pub read_type_sound : (types : List (List ℕ)) (d : ℕ) (ts : List Terminal) (r : ReadType) → read_type types d ts ≡ Ok r → SoundType types d ts r
unfolding read_type
read_type_sound types zero ts r e = absurd cc
read_type_sound types (suc d) ts r e =
    let b = bind_ok (base_by (kind_at types ts) ts) (suffixes (suc d) (suc d)) r e in
    suffixes_sound types d (suc d) ts b.0 r (base_spans types d (kind_at types ts) ts b.0 refl b.1) b.2
