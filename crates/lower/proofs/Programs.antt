-- Calls at every depth, and whole programs.
use Rattle.std.proofs.Common.{◌≡◌, ◌≢◌, ℕ, zero, suc, ◌+◌, ◌-◌, ◌<◌, ◌≤◌, ◌⊎◌, inl, inr, Bool, true, false, List, [], ◌∷◌, ◌++◌, length, get_or, Option, Some, None, pos, refl, sym, ap, ◌∙◌, subst, arith, cond}
use Rattle.std.specs.Prelude.{◌==◌, slice_get, slice_index, map}
use Rattle.std.proofs.lemmas.Bool.Decides.{eqb_tells}
use Rattle.std.proofs.lemmas.List.{length-append, length-map}
use Rattle.std.proofs.lemmas.Option.{get_or_from_slice_get}
use Rattle.cells.specs.Stops.{Ended}
use Rattle.cells.specs.Outcomes.{Done, Stopped, Cut, then_do}
use Rattle.c0_typed.specs.Values.{Value, Tree, as_number}
use Rattle.c0_typed.specs.Trees as t
use Rattle.c0_typed.specs.Trees.{Program, Ty, IntTy}
use Rattle.c0_typed.specs.Meaning.{State, Outcome, call, in_function, locals_at_entry, mean, no_function, struct_defaults, told, turn}
use Rattle.c0_typed.specs.Typing.{AreAll, FitsFunction, FitsProgram, FreshSound, Is, IsHeap, Kept, local_types}
use Rattle.c0_typed.specs.Views.{function_of, program_of, texts_of, type_of}
use Rattle.c0_typed.proofs.Soundness.{blanks_are, fresh_fits, result_blank}
use Rattle.c0_typed.specs.declared.tree.ValueType.{ValueType}
use Rattle.c0_typed.specs.declared.tree.Function.{Function}
use Rattle.c0_typed.specs.declared.tree.Typed.{Typed}
use Rattle.code_form.specs.declared.form.Kind.{Kind}
use Rattle.code_form.specs.Code.{int_of}
use Rattle.code_form.specs.Form.{Head}
use Rattle.middle_form.specs.Form as f
use Rattle.middle_form.specs.Meaning as m
use Rattle.lower.specs.Coded.{Heaps}
use Rattle.lower_tables.specs.Known.{KnowsFunction, KnowsFunctions, KnowsProgram}
use Rattle.lower.specs.Laws.{LoweredMeansTheSame}
use Rattle.lower.specs.Lowered.{lowered}
use Rattle.lower_expressions.specs.Expressions.{kind_at, swapped}
use Rattle.lower.proofs.Joint.{Joint, joint_turn}
use Rattle.lower.proofs.Operators.{coded_number}
use Rattle.lower.proofs.Registers.{keeps_refl}
use Rattle.lower.proofs.Sides.{Alike, Going, HeapFacts}
use Rattle.lower.proofs.Arguments.{AllCoded, CallsOk, Returned}
use Rattle.lower.proofs.Calling.{FunctionAt, function_at, its_code}
use Rattle.lower.proofs.Entry.{coded_long, filled_long, matched_entry, zeros}
use Rattle.lower.proofs.Facts.{heap_facts}
use Rattle.lower.proofs.Functions.{function_ok}
use Rattle.lower.proofs.Steps.{are_long}

known_function : (n : ℕ) (singles : List Kind) (fs : List Function) (k : ℕ) (h : Function) → KnowsFunctions n singles fs → slice_get fs k ≡ Some h → KnowsFunction n singles h
known_function n singles [] k h kn e = absurd (cc e)
known_function n singles (g ∷ fs) zero h kn e = let z : g ≡ h = cc e in subst (KnowsFunction n singles) z kn.0
known_function n singles (g ∷ fs) (suc k) h kn e = known_function n singles fs k h kn.1 e

prefix_long : (xs ys : List Kind) → length xs ≤ length (xs ++ ys)
prefix_long [] ys = omega arith
prefix_long (x ∷ xs) ys = let l = prefix_long xs ys in omega (arith, l)

swapped_main : (k : ℕ) → swapped k k ≡ 0
swapped_main k = at (eqb_tells k k)
  where
    at : (((k == k) ≡ true) × (k ≡ k)) ⊎ (((k == k) ≡ false) × (k ≢ k)) → cond (k == k) 0 (cond (k == 0) k k) ≡ 0
    at (inl q) = ap (λ b. cond b 0 (cond (k == 0) k k)) q.0
    at (inr q) = absurd (q.1 refl)

module _ (typed : Typed) (singles : List Kind) (checks : Bool) (fp : FitsProgram (program_of typed)) (known : KnowsProgram singles typed) where
  abbrev p : Program
  p = program_of typed

  abbrev P : f.Program
  P = lowered singles checks typed

  abbrev H : Head
  H = P.head

  abbrev ds : List Tree
  ds = struct_defaults [] p.structs

  facts : HeapFacts p singles H
  facts = heap_facts typed singles checks fp

  -- what a function begins with
  entry_going : (h : Function) → FitsFunction p (function_of (texts_of typed) h) → (made : List Kept) (vs : List Value) (ns : List ℕ) (s : State) (w : m.State) → AreAll p made (map type_of h.parameters.items) vs → AllCoded H vs ns → IsHeap p made s.heap → Alike p H made s w
      → (length (m.first_registers (its_code typed singles checks h) ns) ≡ length (its_code typed singles checks h).kinds)
      × Going p H (local_types (function_of (texts_of typed) h)) (length h.parameters.items + length h.locals.items) 0 (m.first_registers (its_code typed singles checks h) ns) made (record s { locals = locals_at_entry (function_of (texts_of typed) h) vs })
      (m.first_registers (its_code typed singles checks h) ns) w
  entry_going h fit made vs ns s w are co heap al = (
    filled_long ns (length kinds) few_kinds,
    record {
      state = (heap, (result_blank p made (type_of h.result) fit.0, blanks_are p made (map type_of h.parameters.items) (map type_of h.locals.items) vs are fit.2));
      keeps = keeps_refl 0 rs;
      long = refl;
      matched = matched_entry H (length h.parameters.items + length h.locals.items) (type_of h.result) vs ns (map type_of h.locals.items) (length kinds - length ns) few co;
      alike = record { turns = al.turns; output = al.output; heap = al.heap };
    },
  )
    where
      kinds : List Kind
      kinds = (its_code typed singles checks h).kinds

      rs : List ℕ
      rs = m.first_registers (its_code typed singles checks h) ns

      kind_here : ValueType → Kind
      kind_here ty = kind_at p.structs singles (texts_of typed) typed.functions.items typed.main ty

      many : length ns ≡ length h.parameters.items
      many = coded_long H vs ns co ∙ are_long p made (map type_of h.parameters.items) vs are ∙ length-map h.parameters.items type_of

      few : length ns ≤ length h.parameters.items + length h.locals.items
      few = omega (arith, many)

      few_kinds : length ns ≤ length kinds
      few_kinds = subst (λ z. z ≤ length kinds) (sym (many ∙ sym (length-map h.parameters.items kind_here))) (prefix_long (map kind_here h.parameters.items) _)

  -- a function that begins
  entered_ok : (d : ℕ) → CallsOk typed singles checks (call checks p d) (m.call P d) → (h : Function) → FitsFunction p (function_of (texts_of typed) h) → KnowsFunction (length p.structs) singles h
      → (made : List Kept) (vs : List Value) (ns : List ℕ) (s : State) (w : m.State) (i : ℕ) → AreAll p made (map type_of h.parameters.items) vs → AllCoded H vs ns → IsHeap p made s.heap → Alike p H made (record s { turns = i }) w
      → Joint made (Returned typed singles checks (function_of (texts_of typed) h) s) (in_function checks ds (call checks p d) (function_of (texts_of typed) h) vs (record s { turns = i })) (m.entered P (m.call P d) (Some (its_code typed singles checks h)) ns w)
  entered_ok d calls h fit kn made vs ns s w i are co heap al =
      let begins = entry_going h fit made vs ns (record s { turns = i }) w are co heap al in
      function_ok typed singles checks (call checks p d) (m.call P d) fp fresh_fits facts calls h fit kn made s (record s { turns = i; locals = locals_at_entry (function_of (texts_of typed) h) vs }) (m.first_registers (its_code typed singles checks h) ns) w begins.0 begins.1

  -- calls of so many at once
  pub calls_ok : (d : ℕ) → CallsOk typed singles checks (call checks p d) (m.call P d)
  calls_ok zero k g made vs ns s w e are co heap al = ap m.Cut (sym al.output)
  calls_ok (suc d) k g made vs ns s w e are co heap al =
      joint_turn made (Returned typed singles checks g s) s w (in_function checks ds (call checks p d) (get_or p.functions k no_function) vs) (m.entered P (m.call P d) (slice_get P.functions (swapped typed.main k)) ns) al.turns al.output (λ i. inside (calls_ok d) i)
    where
      there : FunctionAt typed singles checks k g
      there = function_at typed singles checks k g fp.main.0 fp.main.1 e

      h : Function
      h = there.0

      inside : CallsOk typed singles checks (call checks p d) (m.call P d) → (i : ℕ)
          → Joint made (Returned typed singles checks g s) (in_function checks ds (call checks p d) (get_or p.functions k no_function) vs (record s { turns = i })) (m.entered P (m.call P d) (slice_get P.functions (swapped typed.main k)) ns (record w { turns = i }))
      inside calls i =
          subst (λ z. Joint made (Returned typed singles checks z s) (in_function checks ds (call checks p d) (get_or p.functions k no_function) vs (record s { turns = i })) (m.entered P (m.call P d) (slice_get P.functions (swapped typed.main k)) ns (record w { turns = i }))) (sym there.2)
          (subst (λ z. Joint made (Returned typed singles checks (function_of (texts_of typed) h) s) (in_function checks ds (call checks p d) z vs (record s { turns = i })) (m.entered P (m.call P d) (slice_get P.functions (swapped typed.main k)) ns (record w { turns = i }))) (sym (get_or_from_slice_get p.functions k g no_function e ∙ there.2))
          (subst (λ z. Joint made (Returned typed singles checks (function_of (texts_of typed) h) s) (in_function checks ds (call checks p d) (function_of (texts_of typed) h) vs (record s { turns = i })) (m.entered P (m.call P d) z ns (record w { turns = i }))) (sym there.3)
          (entered_ok d calls h (subst (FitsFunction p) there.2 (fp.functions k g e)) (known_function (length p.structs) singles typed.functions.items k h known there.1) made vs ns s (record w { turns = i }) i
          (subst (λ (z : t.Function). AreAll p made z.parameters vs) there.2 are) co heap (record { turns = refl; output = al.output; heap = al.heap }))))

  -- what is told of `main`
  told_same : (g : t.Function) (s : State) (o : Outcome Value) (x : m.Outcome ℕ) → g.result ≡ IntTy → Joint [] (Returned typed singles checks g s) o x → m.told x ≡ Some (told o)
  told_same g s (Done v u) (m.Done cell w) e j =
      let r = j.2 in
      let number : int_of cell ≡ as_number v = coded_number H p j.0 v cell (subst (λ z. Is p j.0 z v) e r.is) r.coded in
      ap (λ z. Some (record { stop = Some (Ended z); output = w.output })) number ∙ ap (λ z. Some (record { stop = Some (Ended (as_number v)); output = z })) (sym r.alike.output)
  told_same g s (Done v u) (m.Stopped z o) e j = absurd j
  told_same g s (Done v u) (m.Cut o) e j = absurd j
  told_same g s (Done v u) m.Stuck e j = absurd j
  told_same g s (Stopped z o) x e j = ap m.told j
  told_same g s (Cut o) x e j = ap m.told j

  opening_alike : (i : ℕ) → Alike p H [] (record { turns = i; heap = []; locals = []; output = [] }) (m.opening i)
  opening_alike i = record {
    turns = refl;
    output = refl;
    heap = record { count = refl; cells = λ r a e. absurd (cc e); lengths = λ r n t e. absurd (cc e); coded = λ r x a v e. absurd (cc e); fresh = λ r x l. refl };
  }

  -- the whole program
  pub program_ok : (i : ℕ) → m.means P i ≡ Some (mean p checks i)
  program_ok i =
      let start : State = record { turns = i; heap = []; locals = []; output = [] } in
      subst (λ z. m.told (m.call P i z [] (m.opening i)) ≡ Some (mean p checks i)) (swapped_main typed.main)
      (told_same fp.main.0 start (call checks p i p.main [] start) (m.call P i (swapped typed.main typed.main) [] (m.opening i)) fp.main.3
      (calls_ok i p.main fp.main.0 [] [] [] start (m.opening i) fp.main.1 (subst (λ z. AreAll p [] z []) (sym fp.main.2) tt) tt tt (opening_alike i)))

pub lowered_means_the_same : LoweredMeansTheSame
lowered_means_the_same singles checks typed fp known i = program_ok typed singles checks fp known i
