-- Which of the scoped samples keep the discipline.
use Rattle.std.proofs.Common.{◌≡◌, zero, suc, Bool, true, false, cond, Some, None, [], ◌∷◌, refl, subst, arith}
use Rattle.std.specs.Prelude.{◌==◌, slice_get}
use Rattle.std.proofs.lemmas.List.Elements.{All-cons, All-head, All-nil}
use Rattle.code_form.specs.Effects.{upd}
use Rattle.code_form.specs.Known.{Knows, KnownShut, KnownAimed}
use Rattle.middle_form.specs.Scoped.{Code}
use Rattle.middle_form.specs.Discipline.{AreShut, Brings, IsDisciplined, IsScoped, IsScopedFunction, Table, after, at_entry}
use Rattle.middle_form.specs.ScopedSamples.{left_open, left_shut, program_of, registers, shared}

one_shut : (k : Table) → k 0 ≡ KnownShut → AreShut 1 k
one_shut k h zero lt = h
one_shut k h (suc s) lt = absurd (omega arith)

-- code of `main`
kept : (a : Code) → IsDisciplined registers 1 [] a at_entry → after a at_entry 0 ≡ KnownShut → IsScoped (program_of a)
kept a d s = All-cons IsScopedFunction _ [] (record { few = omega arith; body = d; shut = one_shut (after a at_entry) s }) (All-nil IsScopedFunction)

pub shared_kept : IsScoped shared
shared_kept =
    kept _ ((λ e s lt. refl), ((λ e s lt. refl), (omega arith, ((omega arith, refl), ((omega arith, refl, refl), ((omega arith, refl, refl), omega arith)))))) refl

shut_again : (z : Knows) (b : Bool) → cond b KnownShut (cond b z KnownShut) ≡ KnownShut
shut_again z true = refl
shut_again z false = refl

-- an aim and a leave of one scope
left_again : (z : Knows) → Brings (upd (upd at_entry 0 z) 0 KnownShut) at_entry
left_again z s = shut_again z (s == 0)

pub left_shut_kept : IsScoped left_shut
left_shut_kept =
    let k : Table = upd (upd at_entry 0 (KnownAimed 3 None 0)) 0 KnownShut in
    let h : Brings k at_entry = left_again (KnownAimed 3 None 0) in
    kept _ (((omega arith, refl), (omega arith, λ e q. out k h e q)), h) refl
  where
    out : (k : Table) → Brings k at_entry → (e : Table) → slice_get (at_entry ∷ []) 0 ≡ Some e → Brings k e
    out k h e q = let same : at_entry ≡ e = cc q in subst (Brings k) same h

pub left_open_refused : IsScoped left_open → ⊥
left_open_refused p =
    let f = All-head IsScopedFunction _ [] p in
    let h : KnownAimed 3 None 0 ≡ KnownShut = f.body.0.1 at_entry refl 0 in
    cc h
