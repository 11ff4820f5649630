-- Where reading a type meets a fault, the tokens before it begin a type.
use Rattle.std.proofs.Common.{◌≡◌, ℕ, zero, suc, ◌<◌, ◌≤◌, ◌⊎◌, ltb, List, [], ◌∷◌, Ok, Err, refl, ap, ◌∙◌, inl, inr, arith}
use Rattle.std.proofs.lemmas.Bool.{ltb-true}
use Rattle.c0_source.specs.declared.kind.Base.TheVariants as b
use Rattle.c0_source.specs.declared.kind.Kind.{Kind}
use Rattle.c0_source.specs.declared.kind.Kind.TheVariants as k
use Rattle.c0_source.specs.declared.kind.Operator.TheVariants as o
use Rattle.c0_source.specs.Terminals.{Terminal, Word, Sign}
use Rattle.c0_syntax.specs.Trees.{ValueType, Basic, StructType, Array}
use Rattle.c0_syntax.specs.Expressions.{emit_type, FormedType, height_type}
use Rattle.c0_grammar_laws.specs.declared.read_error.ReadError.{ReadError}
use Rattle.c0_grammar_laws.specs.Outcome.{Outcome, ◌>>=◌, too_deep, kind_at, plain_at, next, rbracket, any_name}
use Rattle.c0_grammar_laws.specs.ReadExpressions.{ReadType, leaf_type, base_by, pointer_to, array_of, suffix_by, suffixes, read_type}
use Rattle.c0_grammar_laws.proofs.Basics.{sign_at, kind_sign, rbracket_ok}
use Rattle.c0_grammar_laws.proofs.Types.{SpansType, base_spans}
use Rattle.c0_grammar_laws.proofs.Turns.{Names, InnerType}
use Rattle.c0_grammar_laws.proofs.Whole.{bind_err, chosen_err, NotLarge, Goes, at_refuse, at_deep, rbracket_stops, any_name_stops, step, along, under_type}

-- a type that goes on with `end`, and whose tokens are these up to the fault
pub record WholeType (types : Names) (d : ℕ) (e : ReadError) (ts end : List Terminal) : Type 0 where
  pub tree : ValueType
  pub formed : FormedType types tree
  pub low : height_type tree ≤ suc d
  pub plain : NotLarge e
  pub goes : Goes e ts (emit_type tree end)

abbrev pub IsWholeType : Names → ℕ → InnerType → Type 0
IsWholeType types d inner_type = (e : ReadError) (ts : List Terminal) → inner_type ts ≡ Err e → (end : List Terminal) → WholeType types d e ts end

base_whole : (types : Names) (d : ℕ) (e : ReadError) (kind : Kind) (ts : List Terminal) → kind_at types ts ≡ kind → base_by kind ts ≡ Err e → (end : List Terminal) → WholeType types d e ts end
base_whole types d e (k.Base x) ts is h end = absurd cc
base_whole types d e k.Struct ts is h end =
    elim (bind_err (any_name (next ts)) (λ x. Ok (leaf_type (StructType x.value) x.rest)) e h) [
      | inl g ↦
          let s = any_name_stops e (next ts) (Word [] ∷ end) g in
          record { tree = StructType []; formed = tt; low = omega arith; plain = s.0; goes = along (kind_sign types ts k.Struct is tt) (step (Sign k.Struct) s.1) }
      | inr g ↦ absurd (let bad = g.2 in cc)
    ]
base_whole types d e k.TypeName ts is h end = absurd cc
base_whole types d e _ ts is h end =
    let s = at_refuse {A = ReadType} e ts (Sign (k.Base b.Int) ∷ end) h in
    record { tree = Basic b.Int; formed = tt; low = omega arith; plain = s.0; goes = s.1 }

suffix_err : (limit : ℕ) (go_on : ReadType → Outcome ReadType) (e : ReadError) (kind : Kind) (t : ReadType) → suffix_by limit go_on kind t ≡ Err e
    → ((kind ≡ k.Infix o.Multiply) × (t.height < limit) × (go_on (pointer_to t) ≡ Err e))
    ⊎ (((kind ≡ k.LBracket) × (t.height < limit) × ((rbracket (next t.rest) >>= (λ rest. go_on (array_of t rest))) ≡ Err e)) ⊎ (too_deep {A = ReadType} t.rest ≡ Err e))
suffix_err limit go_on e (k.Infix o.Multiply) t h =
    elim (chosen_err (ltb t.height limit) _ _ _ h) [
      | inl g ↦ inl (refl, ltb-true _ _ g.0, g.1)
      | inr g ↦ inr (inr g.1)
    ]
suffix_err limit go_on e k.LBracket t h =
    elim (chosen_err (ltb t.height limit) _ _ _ h) [
      | inl g ↦ inr (inl (refl, ltb-true _ _ g.0, g.1))
      | inr g ↦ inr (inr g.1)
    ]
suffix_err limit go_on e _ t h = absurd cc

deep_type : (types : Names) (d : ℕ) (e : ReadError) (start : List Terminal) (t : ReadType) → SpansType types (suc d) start t → too_deep {A = ReadType} t.rest ≡ Err e → (end : List Terminal) → WholeType types (suc d) e start end
deep_type types d e start t s h end =
    let g = at_deep {A = ReadType} e t.rest end h in
    record { tree = t.value_type; formed = s.formed; low = omega (arith, s.shallow); plain = g.0; goes = along s.spelled (under_type t.value_type g.1) }

suffixes_whole : (types : Names) (d : ℕ) (e : ReadError) (f : ℕ) (start : List Terminal) (t : ReadType) → SpansType types (suc d) start t → suffixes (suc d) f t ≡ Err e → (end : List Terminal) → WholeType types (suc d) e start end
unfolding suffixes
suffixes_whole types d e zero start t s h end = deep_type types d e start t s h end
suffixes_whole types d e (suc f) start t s h end =
    elim (suffix_err (suc d) (suffixes (suc d) f) e (plain_at t.rest) t h) [
      | inl g ↦
          let star = sign_at t.rest (k.Infix o.Multiply) g.0 tt in
          let low : height_type t.value_type < suc d = omega (arith, g.1, s.tall) in
          let one : SpansType types (suc d) start (pointer_to t) = record { spelled = s.spelled ∙ ap (emit_type t.value_type) star; formed = s.formed; tall = ap suc s.tall; shallow = omega arith } in
          suffixes_whole types d e f start (pointer_to t) one g.2 end
      | inr (inl g) ↦
          let low : height_type t.value_type < suc d = omega (arith, g.1, s.tall) in
          let opened = sign_at t.rest k.LBracket g.0 tt in
          elim (bind_err (rbracket (next t.rest)) (λ rest. suffixes (suc d) f (array_of t rest)) e g.2) [
            | inl r ↦
                let c = rbracket_stops e (next t.rest) (Sign k.RBracket ∷ end) r in
                record { tree = Array t.value_type; formed = s.formed; low = omega arith; plain = c.0; goes = along s.spelled (under_type t.value_type (along opened (step (Sign k.LBracket) c.1))) }
            | inr r ↦
                let closed = rbracket_ok (next t.rest) r.0 r.1 in
                let one : SpansType types (suc d) start (array_of t r.0) =
                record { spelled = s.spelled ∙ ap (emit_type t.value_type) (opened ∙ ap (λ (us : List Terminal). Sign k.LBracket ∷ us) closed); formed = s.formed; tall = ap suc s.tall; shallow = omega arith } in
                suffixes_whole types d e f start (array_of t r.0) one r.2 end
          ]
      | inr (inr g) ↦ deep_type types d e start t s g end
    ]

pub type_whole : (types : Names) (d : ℕ) → IsWholeType types d (read_type types d)
unfolding read_type
type_whole types zero e ts h end =
    let s = at_deep {A = ReadType} e ts (Sign (k.Base b.Int) ∷ end) h in
    record { tree = Basic b.Int; formed = tt; low = omega arith; plain = s.0; goes = s.1 }
type_whole types (suc d) e ts h end =
    elim (bind_err (base_by (kind_at types ts) ts) (suffixes (suc d) (suc d)) e h) [
      | inl g ↦ base_whole types (suc d) e (kind_at types ts) ts refl g end
      | inr g ↦ suffixes_whole types d e (suc d) ts g.0 (base_spans types d (kind_at types ts) ts g.0 refl g.1) g.2 end
    ]
