-- Calls and whole programs.
use Rattle.std.proofs.Common.{◌≡◌, ℕ, zero, suc, ◌≤◌, List, [], ◌∷◌, ◌++◌, length, Option, Some, None, Bool, true, false, cond, refl, sym, ap, ◌∙◌, subst, arith, append_assoc, length-append}
use Rattle.std.specs.Prelude.{map, is_none, slice_get, slice_index}
use Rattle.std.specs.Option.{option_map}
use Rattle.std.proofs.lemmas.Option.{slice_get-map}
use Rattle.cells.specs.Outcomes.{Meant}
use Rattle.cells.specs.Stops.{Ended, Stop}
use Rattle.code_form.specs.declared.form.Kind.{Kind}
use Rattle.code_form.specs.declared.form.Fact.{Fact}
use Rattle.code_form.specs.Form.{Image, Instruction, Call, Return, ReturnVoid}
use Rattle.code_form.specs.Form as image
use Rattle.code_form.specs.Effects.{Wrong, run_effect}
use Rattle.code_form.specs.Code.{Core, Frame, Running, begins, call_fits, code, enters_at, has, int_of, on_kind, returns}
use Rattle.code_form.specs.Code as machine
use Rattle.middle_form.specs.Scoped.{Function, Program}
use Rattle.middle_form.specs.Meaning.{Outcome, Done, Stopped, Cut, Stuck, State, opening, then_do, told, turn, where_so}
use Rattle.middle_form.specs.ScopedMeaning.{Left, Local, call, entered, entry, gives, result_of, run, scoped_means}
use Rattle.codegen.specs.Generated.{block_with, blocks_with, extra, facts_of, first, function_of, generated, last}
use Rattle.codegen.proofs.Lands.{Halts, HasBlocks, Lands, Lasts, Machine, at, frame_of, lands_after, moves, then_lands}
use Rattle.codegen.proofs.Generates.{code_lands, settled, settles, there, turn_lands}

get_seam : (ws : List (List Fact)) (pre : List (List Instruction)) (x : List Instruction) (xs : List (List Instruction)) → (w : List Fact) × (slice_get (blocks_with ws (pre ++ x ∷ xs)) (length pre) ≡ Some (block_with w x))
get_seam [] [] x xs = ([], refl)
get_seam (w ∷ ws) [] x xs = (w, refl)
get_seam [] (p ∷ pre) x xs = get_seam [] pre x xs
get_seam (w ∷ ws) (p ∷ pre) x xs = get_seam ws pre x xs

has_all : (f : image.Function) (ws : List (List Fact)) (xs pre : List (List Instruction)) → f.blocks ≡ blocks_with ws (pre ++ xs) → HasBlocks f (length pre) xs
has_all f ws [] pre h = tt
has_all f ws (x ∷ xs) pre h =
    let n : length (pre ++ x ∷ []) ≡ suc (length pre) = omega (arith, length-append pre (x ∷ [])) in
    let seam = get_seam ws pre x xs in (
      (seam.0, ap (λ (bs : List image.Block). slice_get bs (length pre)) h ∙ seam.1),
      subst (λ k. HasBlocks f k xs) n (has_all f ws xs (pre ++ x ∷ []) (h ∙ ap (blocks_with ws) (sym (append_assoc pre (x ∷ []) xs)))),
    )

-- the machine does what is told of a run: it stops so, or runs still behind p steps
abbrev pub EndsAs : Image → Machine → ℕ → Option Stop → List ℕ → Type 0
EndsAs C c p None out = Lasts C c p out
EndsAs C c p (Some x) out = Halts C c x out

-- of stuck code nothing is said
abbrev pub Ends : Image → Machine → ℕ → Option Meant → Type 0
Ends C c p None = Unit {0}
Ends C c p (Some m) = EndsAs C c p m.stop m.output

module _ (cells : ℕ) (P : Program) where
  function_at : (f : ℕ) (g : Function) → slice_get P.functions f ≡ Some g → slice_get (generated cells P).functions f ≡ Some (function_of g)
  function_at f g h = slice_get-map function_of P.functions f ∙ ap (option_map function_of) h

  -- where the machine is behind a call: in the caller, with the result in its register
  abbrev called : image.Function → Option ℕ → List Frame → List Instruction → Local → Option ℕ → ℕ → State → Machine
  called fn dest st next l to v s = at fn dest st next (gives to v l) s

  -- a frame that a result is given to
  given : (fn : image.Function) (dest : Option ℕ) (st : List Frame) (next : List Instruction) (l : Local) (to : Option ℕ) (v : ℕ) (s : State) → (Running (machine.gives (frame_of fn dest next l) to v) st s.allocations s.output, s.heap) ≡ called fn dest st next l to v s
  given fn dest st next l None v s = refl
  given fn dest st next l (Some d) v s = refl

  -- A way back: from a value that is returned the machine comes to where T says
  abbrev Back : (ℕ → State → Machine) → Option ℕ → List Frame → Type 0
  Back T to st = (v : ℕ) (s : State) (c : Core) → run_effect (returns v to st s.allocations s.output) c s.heap ≡ T v s

  -- the end of a function, by its result
  return_lands : (T : ℕ → State → Machine) (g : Function) (to : Option ℕ) (st : List Frame) → Back T to st → (l : Local) (s : State) (o : Option Kind) → g.result ≡ o
      → Lands (generated cells P) T (settled (generated cells P) (function_of g) to st (elim o [ None ↦ ReturnVoid ∷ [] | Some k ↦ Return g.value ∷ [] ]) l s) s.turns
      (elim o as (λ k. Outcome ℕ) [ None ↦ Done 0 s | Some k ↦ where_so (has g.kinds g.value k) (Done (slice_index l.registers g.value) s) ])
  return_lands T g to st back l s None e =
      let c : Core = (at (function_of g) to st (ReturnVoid ∷ []) l s).0 in
      moves (generated cells P) _ _ s.turns 1
      (ap (λ r. run_effect (cond (is_none r) (returns 0 to st s.allocations s.output) (Wrong (machine.Stuck s.allocations s.output))) c s.heap) e ∙ back 0 s c)
  return_lands T g to st back l s (Some k) e = by_kind (has g.kinds g.value k) refl
    where
      by_kind : (b : Bool) → has g.kinds g.value k ≡ b → Lands (generated cells P) T (at (function_of g) to st (Return g.value ∷ []) l s) s.turns (where_so b (Done (slice_index l.registers g.value) s))
      by_kind false h = tt
      by_kind true h =
          let c : Core = (at (function_of g) to st (Return g.value ∷ []) l s).0 in
          let v : ℕ = slice_index l.registers g.value in
          moves (generated cells P) _ _ s.turns 1
          (ap (λ r. run_effect (cond (on_kind (λ j. has g.kinds g.value j) r) (returns v to st s.allocations s.output) (Wrong (machine.Stuck s.allocations s.output))) c s.heap) e
          ∙ ap (λ b. run_effect (cond b (returns v to st s.allocations s.output) (Wrong (machine.Stuck s.allocations s.output))) c s.heap) h ∙ back v s c)

  result_lands : (T : ℕ → State → Machine) (g : Function) (to : Option ℕ) (st : List Frame) → Back T to st → (x : Left) (s : State)
      → Lands (generated cells P) T (there (generated cells P) (function_of g) to st (last g) [] x s) s.turns (result_of g x s)
  result_lands T g to st back (zero, l) s = return_lands T g to st back l s g.result refl
  result_lands T g to st back (suc k, l) s = tt

  -- all calls with so many turns land in their callers
  abbrev CallsLand : ℕ → Type 0
  CallsLand depth = (fn : image.Function) (dest : Option ℕ) (st : List Frame) (to : Option ℕ) (f : ℕ) (args : List ℕ) (g : Function) → slice_get P.functions f ≡ Some g → call_fits fn.kinds g.result g.parameters g.kinds to args ≡ true
      → (next : List Instruction) (l : Local) (s : State) → s.turns ≤ depth
      → Lands (generated cells P) (called fn dest st next l to) (at fn dest st (Call to f args ∷ next) l s) s.turns (call P depth f (map (slice_index l.registers) args) s)

  -- a function, from its entry to where it comes back to
  body_lands : (depth : ℕ) → CallsLand depth → (T : ℕ → State → Machine) (g : Function) (to : Option ℕ) (st : List Frame) → Back T to st → (args : List ℕ) (s : State) → s.turns ≤ depth
      → Lands (generated cells P) T (at (function_of g) to st (first g.body 1 (last g) []) (entry g args) s) s.turns (entered P (call P depth) (Some g) args s)
  body_lands depth deeper T g to st back args s le =
      let begin : List Instruction = first g.body 1 (last g) [] in
      let run_it = run P (call P depth) g.kinds g.body (entry g args) s in
      lands_after (generated cells P) T _ (settled (generated cells P) (function_of g) to st begin (entry g args) s) s.turns s.turns (then_do run_it (result_of g)) (settles (generated cells P) (function_of g) to st begin (entry g args) s)
      (then_lands (generated cells P) (there (generated cells P) (function_of g) to st (last g) []) T _ s.turns run_it (result_of g)
      (code_lands (generated cells P) (function_of g) to st P refl (call P depth) depth (deeper (function_of g) to st) g.body 1 (last g) []
      (has_all (function_of g) (facts_of g) (extra g.body 1 (last g) []) (first g.body 1 (last g) [] ∷ []) refl) (entry g args) s le)
      (λ x t less. result_lands T g to st back x t))

  call_lands : (depth : ℕ) → CallsLand depth
  call_lands zero fn dest st to f args g h fit next l s le = record { many = 0; least = le; runs = refl }
  call_lands (suc depth) fn dest st to f args g h fit next l s le =
      subst (λ o. Lands (generated cells P) (called fn dest st next l to) (at fn dest st (Call to f args ∷ next) l s) s.turns (turn s (entered P (call P depth) o (map (slice_index l.registers) args)))) (sym h)
      (turn_lands (generated cells P) fn dest st (called fn dest st next l to) s.turns s _ (at (function_of g) to (fr ∷ st) (first g.body 1 (last g) []) (entry g (map (slice_index l.registers) args)) s) (entered P (call P depth) (Some g) (map (slice_index l.registers) args))
      (ap (λ o. run_effect (machine.calls o to args next (frame_of fn dest (Call to f args ∷ next) l) st s.allocations s.output) here s.heap) (function_at f g h)
      ∙ ap (λ b. run_effect (cond b (enters_at (slice_get (function_of g).blocks 0) (function_of g) (map (slice_index l.registers) args) to (fr ∷ st) s.allocations s.output) (Wrong (machine.Stuck s.allocations s.output))) here s.heap) fit)
      refl
      (λ p lt. body_lands depth (call_lands depth) (called fn dest st next l to) g to (fr ∷ st) (λ v t c. given fn dest st next l to v t) (map (slice_index l.registers) args) (record s { turns = p }) (omega arith)))
    where
      fr : Frame
      fr = frame_of fn dest next l

      here : Core
      here = (at fn dest st (Call to f args ∷ next) l s).0

  -- where the machine is behind `main`
  abbrev ended : ℕ → State → Machine
  ended v s = (machine.Stopped (Ended (int_of v)) s.allocations s.output, s.heap)

  -- where it begins
  abbrev pub begun : Machine
  begun = (begins (slice_get (generated cells P).functions 0), λ _ _. 0)

  main_lands : (d : ℕ) (g : Function) → slice_get P.functions 0 ≡ Some g → Lands (generated cells P) ended begun d (entered P (call P d) (Some g) [] (opening d))
  main_lands d g h =
      subst (λ (c : Machine). Lands (generated cells P) ended c d (entered P (call P d) (Some g) [] (opening d))) (sym (ap (λ o. (begins o, λ (q x : ℕ). 0)) (function_at 0 g h)))
      (body_lands d (call_lands d) ended g None [] (λ v s c. refl) [] (opening d) (omega arith))

  ends_of : (c : Machine) (d : ℕ) (m : Outcome ℕ) → Lands (generated cells P) ended c d m → Ends (generated cells P) c d (told m)
  ends_of c d (Done v s) h = record { many = h.many; al = s.allocations; eq = ap (λ (z : Machine). z.0) h.eq }
  ends_of c d (Stopped x out) h = h
  ends_of c d (Cut out) h = h
  ends_of c d Stuck h = tt

  -- the machine does what the code means with one turn more
  pub follows : (d : ℕ) → Ends (generated cells P) begun d (scoped_means P (suc d))
  follows d = by_main (slice_get P.functions 0) refl
    where
      by_main : (o : Option Function) → slice_get P.functions 0 ≡ o → Ends (generated cells P) begun d (told (entered P (call P d) o [] (opening d)))
      by_main None h = tt
      by_main (Some g) h = ends_of begun d (entered P (call P d) (Some g) [] (opening d)) (main_lands d g h)
