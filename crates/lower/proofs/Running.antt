-- How single instructions run, and what they leave.
use Rattle.std.proofs.Common.{◌≡◌, ◌≢◌, ℕ, zero, suc, ◌+◌, ◌<◌, ◌≤◌, Bool, true, false, List, [], ◌∷◌, ◌++◌, length, Option, Some, None, refl, sym, ap, ◌∙◌, subst, arith, cond}
use Rattle.std.specs.Prelude.{slice_get, slice_index, slice_set, map}
use Rattle.std.proofs.lemmas.List.{length-set}
use Rattle.c0_typed.specs.Values.{Value}
use Rattle.c0_typed.specs.Trees.{Program, Ty}
use Rattle.c0_typed.specs.Meaning.{State, Outcome}
use Rattle.c0_typed.specs.Typing.{Kept, Is, IsState}
use Rattle.code_form.specs.declared.form.Kind.{Kind}
use Rattle.code_form.specs.Code.{Fails, Goes, Sets, op_did, op_does, op_fits}
use Rattle.code_form.specs.declared.form.Operation.{Operation}
use Rattle.code_form.specs.Form.{Head}
use Rattle.middle_form.specs.Form.{Code}
use Rattle.middle_form.specs.Form as f
use Rattle.middle_form.specs.Meaning as m
use Rattle.lower.specs.Coded.{Coded}
use Rattle.lower_expressions.specs.Expressions.{sequence}
use Rattle.lower.proofs.Joint.{run_one}
use Rattle.lower.proofs.Registers.{Keeps, keeps_less, keeps_put, keeps_refl, keeps_then, Matched, matched_keep, put_same}
use Rattle.lower.proofs.Sides.{Alike, Going, Valued}

module _ (P : f.Program) (call : ℕ → List ℕ → m.State → m.Outcome ℕ) (ks : List Kind) where
  abbrev pub does_so : Operation → List ℕ → m.State → m.Outcome m.Left
  does_so o xs w = m.operated (op_does P.head w.allocations xs o) xs w

  -- an operation whose operands fit
  pub does : (o : Operation) (xs : List ℕ) (w : m.State) → op_fits P.head ks o ≡ true → m.run P call ks (f.Do o) xs w ≡ does_so o xs w
  does o xs w e = ap (λ b. m.operated (cond b (op_does P.head w.allocations xs o) Fails) xs w) e

  -- it stands last
  pub does_last : (o : Operation) (xs : List ℕ) (w : m.State) → op_fits P.head ks o ≡ true → m.run P call ks (sequence (f.Do o ∷ [])) xs w ≡ does_so o xs w
  does_last o xs w e = run_one P call ks (f.Do o) xs w ∙ does o xs w e

  -- it sets a register, and others follow it
  pub sets_then : (o : Operation) (rest : List Code) (xs : List ℕ) (w : m.State) (d n : ℕ) → op_fits P.head ks o ≡ true → op_does P.head w.allocations xs o ≡ Sets d n
      → m.run P call ks (sequence (f.Do o ∷ rest)) xs w ≡ m.run P call ks (sequence rest) (slice_set xs d n) w
  sets_then o rest xs w d n e q = ap (λ z. m.then_do z (m.falls (m.run P call ks (sequence rest)))) (does o xs w e ∙ ap (λ z. m.operated z xs w) q)

  -- it does nothing that is seen, and others follow it
  pub goes_then : (o : Operation) (rest : List Code) (xs : List ℕ) (w : m.State) → op_fits P.head ks o ≡ true → op_does P.head w.allocations xs o ≡ Goes
      → m.run P call ks (sequence (f.Do o ∷ rest)) xs w ≡ m.run P call ks (sequence rest) xs w
  goes_then o rest xs w e q = ap (λ z. m.then_do z (m.falls (m.run P call ks (sequence rest)))) (does o xs w e ∙ ap (λ z. m.operated z xs w) q)

module _ (p : Program) (H : Head) (types : List Ty) (locals : ℕ) where
  -- the code begins here
  pub going_start : (d e : ℕ) (rs xs : List ℕ) (made : List Kept) (s : State) (w : m.State) → Going p H types locals d rs made s xs w → Going p H types locals e xs made s xs w
  going_start d e rs xs made s w g = record { state = g.state; keeps = keeps_refl e xs; long = refl; matched = g.matched; alike = g.alike }

  -- one part behind the other
  pub going_then : (d e : ℕ) (rs xs ys : List ℕ) (made new : List Kept) (s u : State) (w y : m.State) → d ≤ e → Going p H types locals d rs made s xs w → Going p H types locals e xs new u ys y → Going p H types locals d rs new u ys y
  going_then d e rs xs ys made new s u w y le g h = record {
    state = h.state;
    keeps = keeps_then d e rs xs ys le g.keeps h.keeps;
    long = h.long ∙ g.long;
    matched = h.matched;
    alike = h.alike;
  }

  -- a register that is no local's is set
  pub going_set : (d e : ℕ) (rs xs : List ℕ) (n : ℕ) (made : List Kept) (s : State) (w : m.State) → suc locals ≤ d → d ≤ e → Going p H types locals e rs made s xs w → Going p H types locals d rs made s (slice_set xs d n) w
  going_set d e rs xs n made s w low le g = record {
    state = g.state;
    keeps = keeps_put d rs xs n (keeps_less d e rs xs le g.keeps);
    long = length-set xs d n ∙ g.long;
    matched = matched_keep H locals s.locals xs (slice_set xs d n) d low g.matched (keeps_put d xs xs n (keeps_refl d xs));
    alike = g.alike;
  }

  -- the value is what was set
  pub set_valued : (d e : ℕ) (rs xs : List ℕ) (t : Ty) (v : Value) (n : ℕ) (made : List Kept) (s : State) (w : m.State) → suc locals ≤ d → d ≤ e → d < length rs → Going p H types locals e rs made s xs w → Is p made t v → Coded H v n
      → Valued p H types locals d t d rs made v s (0, slice_set xs d n) w
  set_valued d e rs xs t v n made s w low le short g i c = record {
    falls = refl;
    is = i;
    coded = subst (Coded H v) (sym (put_same xs d n (subst (λ z. d < z) (sym g.long) short))) c;
    going = going_set d e rs xs n made s w low le g;
  }

  -- fewer registers are told of
  pub going_less : (d e : ℕ) (rs xs : List ℕ) (made : List Kept) (s : State) (w : m.State) → d ≤ e → Going p H types locals e rs made s xs w → Going p H types locals d rs made s xs w
  going_less d e rs xs made s w le g = record { state = g.state; keeps = keeps_less d e rs xs le g.keeps; long = g.long; matched = g.matched; alike = g.alike }
