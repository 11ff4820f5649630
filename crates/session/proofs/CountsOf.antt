-- How many scopes hold an object.
use Rattle.std.proofs.Common.{◌≡◌, ◌≢◌, inl, inr, ℕ, zero, suc, ◌+◌, ◌<◌, ◌≤◌, Bool, true, false, cond, List, [], ◌∷◌, length, refl, sym, ap, arith, eq-eqb}
use Rattle.std.specs.Prelude.{◌==◌, Option, Some, None, slice_set}
use Rattle.std.proofs.lemmas.Bool.Decides.{eqb_tells}
use Rattle.std.proofs.lemmas.List.{get_or-set_other}
use Rattle.session.specs.declared.hold.Hold.{Hold}
use Rattle.session.specs.State.{hold_at}
use Rattle.session.specs.Keeping.{count_of, has_object, one}

pub one_is : (h : Hold) → one h.object (Some h) ≡ 1
one_is h = ap (λ (b : Bool). cond b 1 0) (eq-eqb h.object h.object refl)

pub one_not : (o : ℕ) (h : Hold) → o ≢ h.object → one o (Some h) ≡ 0
one_not o h ne = elim (eqb_tells h.object o) [ inl e ↦ absurd (ne (sym e.1)) | inr e ↦ ap (λ (b : Bool). cond b 1 0) e.0 ]

pub one_small : (o : ℕ) (x : Option Hold) → one o x ≤ 1
one_small o None = omega arith
one_small o (Some h) = elim (h.object == o) as (λ b. cond b 1 0 ≤ 1) [ true ↦ omega arith | false ↦ omega arith ]

pub count-set : (o : ℕ) (hs : List (Option Hold)) (k : ℕ) (x : Option Hold) → k < length hs → count_of o (slice_set hs k x) + one o (hold_at hs k) ≡ count_of o hs + one o x
count-set o [] k x l = absurd (omega arith)
count-set o (h ∷ hs) zero x l = omega arith
count-set o (h ∷ hs) (suc k) x l = let e = count-set o hs k x (omega arith) in omega arith

pub one_le : (o : ℕ) (hs : List (Option Hold)) (k : ℕ) → one o (hold_at hs k) ≤ count_of o hs
one_le o [] k = omega arith
one_le o (h ∷ hs) zero = omega arith
one_le o (h ∷ hs) (suc k) = let e = one_le o hs k in omega arith

pub two_le : (o : ℕ) (hs : List (Option Hold)) (j k : ℕ) → k < length hs → j ≢ k → one o (hold_at hs j) + one o (hold_at hs k) ≤ count_of o hs
two_le o hs j k l ne =
    let a = count-set o hs k None l in
    let b = one_le o (slice_set hs k None) j in
    let e : hold_at (slice_set hs k None) j ≡ hold_at hs j = get_or-set_other hs k j None None ne in
    let d : one o (hold_at (slice_set hs k None) j) ≡ one o (hold_at hs j) = ap (one o) e in
    omega arith

pub count_few : (o : ℕ) (hs : List (Option Hold)) → count_of o hs ≤ length hs
count_few o [] = omega arith
count_few o (h ∷ hs) = let e = count_few o hs in let d = one_small o h in omega arith

pub count_room : (o : ℕ) (hs : List (Option Hold)) (k : ℕ) → k < length hs → hold_at hs k ≡ None → count_of o hs < length hs
count_room o [] k l e = absurd (omega arith)
count_room o (h ∷ hs) zero l e = let a = count_few o hs in let b : one o h ≡ 0 = ap (one o) e in omega arith
count_room o (h ∷ hs) (suc k) l e = let a = count_room o hs k (omega arith) e in let d = one_small o h in omega arith

-- one hold more is counted
pub one_of : (o : ℕ) (x : Option Hold) → one o x ≡ cond (has_object x o) 1 0
one_of o None = refl
one_of o (Some h) = refl
