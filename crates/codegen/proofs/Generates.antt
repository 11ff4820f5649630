-- The blocks of scoped code do what the code does, scope by scope.
use Rattle.std.proofs.Common.{◌≡◌, ℕ, zero, suc, ◌+◌, ◌<◌, ◌≤◌, List, [], ◌∷◌, ◌++◌, length, Option, Some, None, Bool, true, false, cond, refl, sym, ap, ◌∙◌, subst, arith, inl, inr, length-append}
use Rattle.std.specs.Prelude.{◌&&◌, ◌⊎◌, map, nat_lt, slice_get, slice_index}
use Rattle.code_form.specs.declared.form.Kind.TheVariants as kind
use Rattle.code_form.specs.declared.form.Operation.{Operation}
use Rattle.code_form.specs.Form.{Instruction, Simple, Aim, Load, Store, Leave, Call, Jump, Branch, Return, ReturnVoid, Error, Image}
use Rattle.code_form.specs.Form as image
use Rattle.code_form.specs.Effects.{Leaves, Loads, Stores, Wrong, run_effect, with_cell, steps}
use Rattle.code_form.specs.Code.{Did, Goes, Tells, Sets, Makes, Prints, Stops, Fails, Aimed, Core, Frame, Running, Scope, Shut, Stale, after, aims_at, call_fits, can_use, code, errs, has, if_zero, jumps, load_by, offset, op_did, place_fits, store_by, text_at}
use Rattle.code_form.specs.Code as machine
use Rattle.middle_form.specs.Scoped.{Code, Nothing, Do, LoadBy, StoreBy, Loose, Fail, Then, Choose, Loop, Block, Exit, Function, Program}
use Rattle.middle_form.specs.Scoped as scoped
use Rattle.middle_form.specs.Meaning.{Outcome, Done, Stopped, Cut, Stuck, State, then_do, turn, where_so}
use Rattle.middle_form.specs.ScopedMeaning.{Left, Local, aimed, behind, called, failed, falls, gives, loads, loop, on, operated, run, set_to, stores, with_scope}
use Rattle.codegen.specs.Generated.{count, exit_from, extra, first, is_passed, onward, target, tested}
use Rattle.codegen.proofs.Lands.{Comes, HasBlocks, HasCode, IsRunning, Lands, Machine, at, blocks_back, blocks_front, comes_on, frame_of, lands_after, moves, then_lands, turns_on}

pub length-extra : (s : Code) (b : ℕ) (next : List Instruction) (exits : List (List Instruction)) → length (extra s b next exits) ≡ count s
length-extra Nothing b next exits = refl
length-extra (Do o) b next exits = refl
length-extra (scoped.Load to z r off disp) b next exits = refl
length-extra (scoped.Store z r off disp from) b next exits = refl
length-extra (LoadBy to z r off disp) b next exits = refl
length-extra (StoreBy z r off disp from) b next exits = refl
length-extra (scoped.Aim z r off disp) b next exits = refl
length-extra (scoped.Leave z) b next exits = refl
length-extra (Loose z) b next exits = refl
length-extra (scoped.Call to f args) b next exits = refl
length-extra (Fail a) b next exits = refl
length-extra (Then a c) b next exits =
    length-append (extra c b next exits) (extra a (b + count c) (first c b next exits) exits)
    ∙ ap (λ n. n + length (extra a (b + count c) (first c b next exits) exits)) (length-extra c b next exits) ∙ ap (λ n. count c + n) (length-extra a (b + count c) (first c b next exits) exits)
length-extra (Choose r a c) b next exits =
    let j = onward b next in
    let n = suc b in
    let m = suc (suc b + count a) in
    let fc = first c m j exits in
    ap suc (length-append (extra a n j exits) (first a n j exits ∷ (extra c m j exits ++ fc ∷ []))
    ∙ ap (λ k. k + suc (length (extra c m j exits ++ fc ∷ []))) (length-extra a n j exits)
    ∙ ap (λ k. count a + suc k) (length-append (extra c m j exits) (fc ∷ []) ∙ ap (λ k. k + 1) (length-extra c m j exits)))
length-extra (Loop test r body) b next exits =
    let n = suc (suc b) in
    let xs = onward (suc b) next ∷ exits in
    let m = suc (suc (suc b) + count body) in
    let j = tested r body b next exits in
    let i = Jump b ∷ [] in
    ap (λ k. suc (suc k)) (length-append (extra body n i xs) (first body n i xs ∷ extra test m j xs)
    ∙ ap (λ k. k + suc (length (extra test m j xs))) (length-extra body n i xs) ∙ ap (λ k. count body + suc k) (length-extra test m j xs))
length-extra (Block a) b next exits = ap suc (length-extra a (suc b) (onward b next) (onward b next ∷ exits))
length-extra (Exit k) b next exits = refl

-- what is left to do at a way out
abbrev pub exit_rest : List Instruction → List (List Instruction) → ℕ → List Instruction
exit_rest next exits zero = next
exit_rest next exits (suc k) = exit_from exits k

-- how many steps these instructions take to where a branch to their block leads: one jump is passed over
abbrev pub passes : List Instruction → ℕ
passes (Jump k ∷ []) = 1
passes _ = 0

-- instructions are one jump, or a branch leads to their block itself
abbrev pub Led : List Instruction → Type 0
Led is = ((k : ℕ) × (is ≡ Jump k ∷ [])) ⊎ (((b : ℕ) → target b is ≡ b) × (passes is ≡ 0))

pub led : (is : List Instruction) → Led is
led [] = inr ((λ b. refl), refl)
led (Simple o ∷ is) = inr ((λ b. refl), refl)
led (Aim z r off disp ∷ is) = inr ((λ b. refl), refl)
led (Load to z ∷ is) = inr ((λ b. refl), refl)
led (Store z from ∷ is) = inr ((λ b. refl), refl)
led (Leave z ∷ is) = inr ((λ b. refl), refl)
led (Call to f args ∷ is) = inr ((λ b. refl), refl)
led (Jump k ∷ []) = inl (k, refl)
led (Jump k ∷ (i ∷ is)) = inr ((λ b. refl), refl)
led (Branch r a c ∷ is) = inr ((λ b. refl), refl)
led (Return a ∷ is) = inr ((λ b. refl), refl)
led (ReturnVoid ∷ is) = inr ((λ b. refl), refl)
led (Error a ∷ is) = inr ((λ b. refl), refl)

module _ (C : Image) (fn : image.Function) (dest : Option ℕ) (st : List Frame) where
  -- where the machine goes on with these instructions
  abbrev pub settled : List Instruction → Local → State → Machine
  settled is l s = steps (code C) (passes is) (at fn dest st is l s)

  -- where the machine is behind code
  abbrev pub there : List Instruction → List (List Instruction) → Left → State → Machine
  there next exits x s = settled (exit_rest next exits x.0) x.1 s

  pub settles : (is : List Instruction) (l : Local) (s : State) → Comes C (at fn dest st is l s) (settled is l s) s.turns s.turns
  settles is l s = moves C _ _ s.turns (passes is) refl

  -- some steps that use no turn, to these instructions
  arrives : (c : Machine) (n : ℕ) (is : List Instruction) (l : Local) (s : State) → steps (code C) n c ≡ at fn dest st is l s → Comes C c (settled is l s) s.turns s.turns
  arrives c n is l s e = comes_on C c (at fn dest st is l s) (settled is l s) s.turns s.turns s.turns (moves C c (at fn dest st is l s) s.turns n e) (settles is l s)

  jump_step : (b : ℕ) (is : List Instruction) (l : Local) (s : State) → HasCode fn b is → steps (code C) 1 (at fn dest st (Jump b ∷ []) l s) ≡ at fn dest st is l s
  jump_step b is l s e =
      let c : Core = (at fn dest st (Jump b ∷ []) l s).0 in
      ap (λ o. run_effect (jumps o (frame_of fn dest (Jump b ∷ []) l) st s.allocations s.output) c s.heap) e.1

  -- a jump that is taken
  jumped : (b : ℕ) (is : List Instruction) → HasCode fn b is → (l : Local) (s : State) → Comes C (settled (Jump b ∷ []) l s) (settled is l s) s.turns s.turns
  jumped b is h l s = arrives (settled (Jump b ∷ []) l s) 0 is l s (jump_step b is l s h)

  -- how code goes on at a block
  goes_on : (b : ℕ) (is : List Instruction) → HasCode fn b is → (l : Local) (s : State) → Comes C (settled (onward b is) l s) (settled is l s) s.turns s.turns
  goes_on b is h l s = by (is_passed is)
    where
      by : (passed : Bool) → Comes C (settled (cond passed is (Jump b ∷ [])) l s) (settled is l s) s.turns s.turns
      by true = moves C _ _ s.turns 0 refl
      by false = jumped b is h l s

  same_jump : (o : Option image.Block) (js ks : List Instruction) (l : Local) (s : State) (c d : Core) → run_effect (jumps o (frame_of fn dest js l) st s.allocations s.output) c s.heap ≡ run_effect (jumps o (frame_of fn dest ks l) st s.allocations s.output) d s.heap
  same_jump None js ks l s c d = refl
  same_jump (Some x) js ks l s c d = refl

  -- where a branch leads
  branched : (b : ℕ) (is js : List Instruction) (l : Local) (s : State) (c : Core) → HasCode fn b is → run_effect (jumps (slice_get fn.blocks (target b is)) (frame_of fn dest js l) st s.allocations s.output) c s.heap ≡ settled is l s
  branched b is js l s c h = by (led is)
    where
      by : Led is → run_effect (jumps (slice_get fn.blocks (target b is)) (frame_of fn dest js l) st s.allocations s.output) c s.heap ≡ settled is l s
      by (inl (k, e)) =
          subst (λ (z : List Instruction). run_effect (jumps (slice_get fn.blocks (target b z)) (frame_of fn dest js l) st s.allocations s.output) c s.heap ≡ settled z l s) (sym e)
          (same_jump (slice_get fn.blocks k) js (Jump k ∷ []) l s c (at fn dest st (Jump k ∷ []) l s).0)
      by (inr (t, p)) =
          ap (λ (n : ℕ). run_effect (jumps (slice_get fn.blocks n) (frame_of fn dest js l) st s.allocations s.output) c s.heap) (t b)
          ∙ ap (λ (o : Option image.Block). run_effect (jumps o (frame_of fn dest js l) st s.allocations s.output) c s.heap) h.1
          ∙ sym (ap (λ (n : ℕ). steps (code C) n (at fn dest st is l s)) p)

  do_lands : (o : Operation) (next : List Instruction) (exits : List (List Instruction)) (l : Local) (s : State) (e : Did) → op_did C.head fn.kinds s.allocations l.registers o ≡ e → Lands C (there next exits) (at fn dest st (Simple o ∷ next) l s) s.turns (operated e l s)
  do_lands o next exits l s e h =
      let c : Core = (at fn dest st (Simple o ∷ next) l s).0 in
      by_did e (ap (λ z. run_effect (after z next (frame_of fn dest (Simple o ∷ next) l) st s.allocations s.output) c s.heap) h)
    where
      by_did : (e : Did) → steps (code C) 1 (at fn dest st (Simple o ∷ next) l s) ≡ run_effect (after e next (frame_of fn dest (Simple o ∷ next) l) st s.allocations s.output) (at fn dest st (Simple o ∷ next) l s).0 s.heap → Lands C (there next exits) (at fn dest st (Simple o ∷ next) l s) s.turns (operated e l s)
      by_did Goes z = arrives _ 1 next l s z
      by_did (Tells w) z = arrives _ 1 next l s z
      by_did (Sets d v) z = arrives _ 1 next (set_to d v l) s z
      by_did (Makes d a) z = arrives _ 1 next (set_to d (suc (length s.allocations)) l) (record s { allocations = a ∷ s.allocations }) z
      by_did (Prints b) z = arrives _ 1 next l (record s { output = s.output ++ b }) z
      by_did (Stops f) z = record { many = 1; al = s.allocations; eq = ap (λ (z : Machine). z.0) z }
      by_did Fails z = tt

  -- ---- scopes

  aim_step : (z r : ℕ) (off : Option ℕ) (disp : ℕ) (rest : List Instruction) (l : Local) (s : State) → (place_fits fn.kinds r off && nat_lt z (length l.scopes)) ≡ true
      → steps (code C) 1 (at fn dest st (Aim z r off disp ∷ rest) l s) ≡ at fn dest st rest (with_scope z (aimed r off disp l.registers) l) s
  aim_step z r off disp rest l s e =
      let f : Frame = frame_of fn dest (Aim z r off disp ∷ rest) l in
      ap (λ b. run_effect (cond b (aims_at z r off disp (slice_index l.registers r) (offset l.registers off + disp) rest f st s.allocations s.output) (Wrong (machine.Stuck s.allocations s.output))) (Running f st s.allocations s.output) s.heap) e

  aim_lands : (z r : ℕ) (off : Option ℕ) (disp : ℕ) (next : List Instruction) (exits : List (List Instruction)) (l : Local) (s : State) (b : Bool) → (place_fits fn.kinds r off && nat_lt z (length l.scopes)) ≡ b
      → Lands C (there next exits) (at fn dest st (Aim z r off disp ∷ next) l s) s.turns (where_so b (on (with_scope z (aimed r off disp l.registers) l) s))
  aim_lands z r off disp next exits l s false e = tt
  aim_lands z r off disp next exits l s true e = arrives _ 1 next (with_scope z (aimed r off disp l.registers) l) s (aim_step z r off disp next l s e)

  -- an aim in front of what uses it
  aimed_lands : (z r : ℕ) (off : Option ℕ) (disp : ℕ) (rest next : List Instruction) (exits : List (List Instruction)) (l : Local) (s : State) (go : Local → State → Outcome Left) (b : Bool) → (place_fits fn.kinds r off && nat_lt z (length l.scopes)) ≡ b
      → Lands C (there next exits) (at fn dest st rest (with_scope z (aimed r off disp l.registers) l) s) s.turns (go (with_scope z (aimed r off disp l.registers) l) s)
      → Lands C (there next exits) (at fn dest st (Aim z r off disp ∷ rest) l s) s.turns (then_do (where_so b (on (with_scope z (aimed r off disp l.registers) l) s)) (falls go))
  aimed_lands z r off disp rest next exits l s go false e h = tt
  aimed_lands z r off disp rest next exits l s go true e h =
      let m : Local = with_scope z (aimed r off disp l.registers) l in
      lands_after C (there next exits) _ (at fn dest st rest m s) s.turns s.turns (go m s) (moves C _ _ s.turns 1 (aim_step z r off disp rest l s e)) h

  leave_lands : (z : ℕ) (next : List Instruction) (exits : List (List Instruction)) (l : Local) (s : State) (b : Bool) → nat_lt z (length l.scopes) ≡ b
      → Lands C (there next exits) (at fn dest st (Leave z ∷ next) l s) s.turns (where_so b (on (with_scope z Shut l) s))
  leave_lands z next exits l s false e = tt
  leave_lands z next exits l s true e =
      let f : Frame = frame_of fn dest (Leave z ∷ next) l in
      arrives _ 1 next (with_scope z Shut l) s
      (ap (λ b. run_effect (cond b (Leaves z (Running (machine.scoped f next z Shut) st s.allocations s.output)) (Wrong (machine.Stuck s.allocations s.output))) (Running f st s.allocations s.output) s.heap) e)

  load_lands : (to z : ℕ) (next : List Instruction) (exits : List (List Instruction)) (l : Local) (s : State) (o : Option Scope) → slice_get l.scopes z ≡ o
      → Lands C (there next exits) (at fn dest st (Load to z ∷ next) l s) s.turns (loads C.head fn.kinds to o l s)
  load_lands to z next exits l s None e = tt
  load_lands to z next exits l s (Some Shut) e = tt
  load_lands to z next exits l s (Some (Stale q x)) e = tt
  load_lands to z next exits l s (Some (Aimed r off disp q x)) e = by_use (can_use C.head fn.kinds s.allocations to r disp q x) refl
    where
      by_use : (b : Bool) → can_use C.head fn.kinds s.allocations to r disp q x ≡ b → Lands C (there next exits) (at fn dest st (Load to z ∷ next) l s) s.turns (where_so b (on (set_to to (s.heap q x) l) s))
      by_use false h = tt
      by_use true h =
          let f : Frame = frame_of fn dest (Load to z ∷ next) l in
          let c : Core = Running f st s.allocations s.output in
          arrives _ 1 next (set_to to (s.heap q x) l) s
          (ap (λ a. run_effect (load_by C.head a to z next f st s.allocations s.output) c s.heap) e
          ∙ ap (λ b. run_effect (cond b (Loads z q x (λ v. Running (machine.set_to f next to v) st s.allocations s.output)) (Wrong (machine.Stuck s.allocations s.output))) c s.heap) h)

  store_lands : (z from : ℕ) (next : List Instruction) (exits : List (List Instruction)) (l : Local) (s : State) (o : Option Scope) → slice_get l.scopes z ≡ o
      → Lands C (there next exits) (at fn dest st (Store z from ∷ next) l s) s.turns (stores C.head fn.kinds o from l s)
  store_lands z from next exits l s None e = tt
  store_lands z from next exits l s (Some Shut) e = tt
  store_lands z from next exits l s (Some (Stale q x)) e = tt
  store_lands z from next exits l s (Some (Aimed r off disp q x)) e = by_use (can_use C.head fn.kinds s.allocations from r disp q x) refl
    where
      by_use : (b : Bool) → can_use C.head fn.kinds s.allocations from r disp q x ≡ b
          → Lands C (there next exits) (at fn dest st (Store z from ∷ next) l s) s.turns (where_so b (on l (record s { heap = with_cell s.heap q x (slice_index l.registers from) })))
      by_use false h = tt
      by_use true h =
          let f : Frame = frame_of fn dest (Store z from ∷ next) l in
          let c : Core = Running f st s.allocations s.output in
          arrives _ 1 next l (record s { heap = with_cell s.heap q x (slice_index l.registers from) })
          (ap (λ a. run_effect (store_by C.head a z from next f st s.allocations s.output) c s.heap) e
          ∙ ap (λ b. run_effect (cond b (Stores z q x (slice_index l.registers from) (Running (machine.on f next) st s.allocations s.output)) (Wrong (machine.Stuck s.allocations s.output))) c s.heap) h)

  fail_lands : (a : ℕ) (next : List Instruction) (exits : List (List Instruction)) (l : Local) (s : State) (fits : Bool) (t : Option (List ℕ)) → has fn.kinds a kind.Text ≡ fits → text_at C.head (slice_index l.registers a) ≡ t
      → Lands C (there next exits) (at fn dest st (Error a ∷ []) l s) s.turns (where_so fits (failed t s))
  fail_lands a next exits l s false t h k = tt
  fail_lands a next exits l s true None h k = tt
  fail_lands a next exits l s true (Some t) h k =
      let c : Core = (at fn dest st (Error a ∷ []) l s).0 in
      record {
        many = 1;
        al = s.allocations;
        eq =
            ap (λ b. (run_effect (cond b (errs (text_at C.head (slice_index l.registers a)) s.allocations s.output) (Wrong (machine.Stuck s.allocations s.output))) c s.heap).0) h
            ∙ ap (λ o. (run_effect (errs o s.allocations s.output) c s.heap).0) k;
      }

  -- the branch of a register of the right kind
  branch_step : (r b c x : ℕ) (l : Local) (s : State) → has fn.kinds r kind.Bool ≡ true → slice_index l.registers r ≡ x
      → steps (code C) 1 (at fn dest st (Branch r b c ∷ []) l s) ≡ run_effect (if_zero x (jumps (slice_get fn.blocks c) (frame_of fn dest (Branch r b c ∷ []) l) st s.allocations s.output) (jumps (slice_get fn.blocks b) (frame_of fn dest (Branch r b c ∷ []) l) st s.allocations s.output)) (at fn dest st (Branch r b c ∷ []) l s).0 s.heap
  branch_step r b c x l s k z =
      let f : Frame = frame_of fn dest (Branch r b c ∷ []) l in
      let m : Core = Running f st s.allocations s.output in
      ap (λ t. run_effect (cond t (if_zero (slice_index l.registers r) (jumps (slice_get fn.blocks c) f st s.allocations s.output) (jumps (slice_get fn.blocks b) f st s.allocations s.output)) (Wrong (machine.Stuck s.allocations s.output))) m s.heap) k
      ∙ ap (λ y. run_effect (if_zero y (jumps (slice_get fn.blocks c) f st s.allocations s.output) (jumps (slice_get fn.blocks b) f st s.allocations s.output)) m s.heap) z

  branch_zero : (r b c : ℕ) (js : List Instruction) (l : Local) (s : State) → has fn.kinds r kind.Bool ≡ true → slice_index l.registers r ≡ 0 → HasCode fn c js → steps (code C) 1 (at fn dest st (Branch r b (target c js) ∷ []) l s) ≡ settled js l s
  branch_zero r b c js l s k z h =
      let is : List Instruction = Branch r b (target c js) ∷ [] in
      branch_step r b (target c js) 0 l s k z ∙ branched c js is l s (at fn dest st is l s).0 h

  branch_one : (r b c x : ℕ) (is : List Instruction) (l : Local) (s : State) → has fn.kinds r kind.Bool ≡ true → slice_index l.registers r ≡ suc x → HasCode fn b is → steps (code C) 1 (at fn dest st (Branch r (target b is) c ∷ []) l s) ≡ settled is l s
  branch_one r b c x is l s k z h =
      let js : List Instruction = Branch r (target b is) c ∷ [] in
      branch_step r (target b is) c (suc x) l s k z ∙ branched b is js l s (at fn dest st js l s).0 h

  choose_lands : {A : Type 0} (T : A → State → Machine) (r b c x : ℕ) (fits : Bool) (is js : List Instruction) (l : Local) (s : State) (m n : Outcome A) → has fn.kinds r kind.Bool ≡ fits → slice_index l.registers r ≡ x → HasCode fn b is → HasCode fn c js
      → Lands C T (settled is l s) s.turns m → Lands C T (settled js l s) s.turns n → Lands C T (at fn dest st (Branch r (target b is) (target c js) ∷ []) l s) s.turns (where_so fits (if_zero x n m))
  choose_lands T r b c x false is js l s m n k z hb hc lm ln = tt
  choose_lands T r b c zero true is js l s m n k z hb hc lm ln = lands_after C T _ (settled js l s) s.turns s.turns n (moves C _ _ s.turns 1 (branch_zero r (target b is) c js l s k z hc)) ln
  choose_lands T r b c (suc x) true is js l s m n k z hb hc lm ln = lands_after C T _ (settled is l s) s.turns s.turns m (moves C _ _ s.turns 1 (branch_one r b (target c js) x is l s k z hb)) lm

  -- a turn is taken with a step
  pub turn_lands : {A : Type 0} (T : A → State → Machine) (q : ℕ) (s : State) (c d : Machine) (g : State → Outcome A) → steps (code C) 1 c ≡ d → IsRunning c.0 s.output → ((p : ℕ) → p < q → Lands C T d p (g (record s { turns = p }))) → Lands C T c q (turn (record s { turns = q }) g)
  turn_lands T zero s c d g e h k = record { many = 0; least = omega arith; runs = h }
  turn_lands T (suc p) s c d g e h k = lands_after C T c d (suc p) p (g (record s { turns = p })) (turns_on C c d p 0 e) (k p (omega arith))

  -- what code falls through to
  falls_lands : (mid next : List Instruction) (exits : List (List Instruction)) (g : Local → State → Outcome Left) (p : ℕ) → ((l : Local) (s : State) → s.turns ≤ p → Lands C (there next exits) (settled mid l s) s.turns (g l s)) → (x : Left) (s : State) → s.turns ≤ p → Lands C (there next exits) (there mid exits x s) s.turns (falls g x s)
  falls_lands mid next exits g p h (zero, l) s le = h l s le
  falls_lands mid next exits g p h (suc k, l) s le = moves C _ _ s.turns 0 refl

  -- at what follows
  joined_lands : (b : ℕ) (next : List Instruction) (exits : List (List Instruction)) → HasCode fn b next → (c : Machine) (p : ℕ) (m : Outcome Left) → Lands C (there (onward b next) exits) c p m → Lands C (there next exits) c p m
  joined_lands b next exits e c p (Done (zero, l) s) h = comes_on C c _ _ p s.turns s.turns h (goes_on b next e l s)
  joined_lands b next exits e c p (Done (suc k, l) s) h = h
  joined_lands b next exits e c p (Stopped x out) h = h
  joined_lands b next exits e c p (Cut out) h = h
  joined_lands b next exits e c p Stuck h = tt

  block_lands : (b : ℕ) (next : List Instruction) (exits : List (List Instruction)) → HasCode fn b next → (x : Left) (s : State) → Lands C (there next exits) (there (onward b next) (onward b next ∷ exits) x s) s.turns (behind x s)
  block_lands b next exits e (zero, l) s = goes_on b next e l s
  block_lands b next exits e (suc zero, l) s = goes_on b next e l s
  block_lands b next exits e (suc (suc k), l) s = moves C _ _ s.turns 0 refl

  -- out of a loop
  out_lands : (o : ℕ) (next : List Instruction) (exits : List (List Instruction)) → HasCode fn o next → (x : Left) (s : State) → Lands C (there next exits) (there next (onward o next ∷ exits) x s) s.turns (behind x s)
  out_lands o next exits e (zero, l) s = moves C _ _ s.turns 0 refl
  out_lands o next exits e (suc zero, l) s = goes_on o next e l s
  out_lands o next exits e (suc (suc k), l) s = moves C _ _ s.turns 0 refl

  module _ (depth b n o r : ℕ) (is_bool : has fn.kinds r kind.Bool ≡ true) (head body next way : List Instruction) (exits : List (List Instruction)) (test go_on : Local → State → Outcome Left)
      (head_is : HasCode fn b head) (body_is : HasCode fn n body) (next_is : HasCode fn o next)
      (test_runs : (l : Local) (s : State) → s.turns ≤ depth → Lands C (there (Branch r (target n body) (target o next) ∷ []) (way ∷ exits)) (settled head l s) s.turns (test l s))
      (body_runs : (l : Local) (s : State) → s.turns ≤ depth → Lands C (there (Jump b ∷ []) (way ∷ exits)) (settled body l s) s.turns (go_on l s)) where
    -- where the machine is behind a loop
    abbrev over : Left → State → Machine
    over = there next (way ∷ exits)

    -- behind the body the test comes again
    again_lands : (k : ℕ) (again : Local → State → Outcome Left) → ((l : Local) (s : State) → s.turns < k → Lands C over (settled head l s) s.turns (again l s)) → (x : Left) (s : State) → s.turns < k → Lands C over (there (Jump b ∷ []) (way ∷ exits) x s) s.turns (falls again x s)
    again_lands k again h (zero, l) s le = lands_after C over _ (settled head l s) s.turns s.turns (again l s) (jumped b head head_is l s) (h l s le)
    again_lands k again h (suc z, l) s le = moves C _ _ s.turns 0 refl

    -- behind the test, where a turn is left for the body or none is
    tested_lands : (x : ℕ) (m : Outcome Left) (l : Local) (s : State) → slice_index l.registers r ≡ x → ((y : ℕ) → x ≡ suc y → Lands C over (at fn dest st (Branch r (target n body) (target o next) ∷ []) l s) s.turns m) → Lands C over (at fn dest st (Branch r (target n body) (target o next) ∷ []) l s) s.turns (if_zero x (on l s) m)
    tested_lands zero m l s z h = moves C _ _ s.turns 1 (branch_zero r (target n body) o next l s is_bool z next_is)
    tested_lands (suc y) m l s z h = h y refl

    body_lands : (k y : ℕ) (again : Local → State → Outcome Left) → ((l : Local) (s : State) → s.turns < k → Lands C over (settled head l s) s.turns (again l s)) → (l : Local) (s : State) → slice_index l.registers r ≡ suc y → s.turns ≤ k → s.turns ≤ depth → Lands C over (at fn dest st (Branch r (target n body) (target o next) ∷ []) l s) s.turns (turn s (λ u. then_do (go_on l u) (falls again)))
    body_lands k y again h l s z le le' =
        turn_lands over s.turns s _ (settled body l s) (λ u. then_do (go_on l u) (falls again)) (branch_one r n (target o next) y body l s is_bool z body_is) refl (λ p lt.
        then_lands C (there (Jump b ∷ []) (way ∷ exits)) over (settled body l s) p (go_on l (record s { turns = p })) (falls again) (body_runs l (record s { turns = p }) (omega arith)) (λ x t less. again_lands k again h x t (omega arith)))

    loop_lands : (k : ℕ) → k ≤ depth → (l : Local) (s : State) → s.turns ≤ k → Lands C over (settled head l s) s.turns (loop test r go_on k l s)
    loop_lands zero le l s less =
        then_lands C (there (Branch r (target n body) (target o next) ∷ []) (way ∷ exits)) over (settled head l s) s.turns (test l s) (falls (λ own t. if_zero (slice_index own.registers r) (on own t) (Cut t.output))) (test_runs l s (omega arith)) by_way
      where
        by_way : (x : Left) (t : State) → t.turns ≤ s.turns → Lands C over (there (Branch r (target n body) (target o next) ∷ []) (way ∷ exits) x t) t.turns (falls (λ own t. if_zero (slice_index own.registers r) (on own t) (Cut t.output)) x t)
        by_way (zero, own) t fewer = tested_lands (slice_index own.registers r) (Cut t.output) own t refl (λ y z. record { many = 0; least = omega arith; runs = refl })
        by_way (suc z, own) t fewer = moves C _ _ t.turns 0 refl
    loop_lands (suc k) le l s less =
        then_lands C (there (Branch r (target n body) (target o next) ∷ []) (way ∷ exits)) over (settled head l s) s.turns (test l s) (falls (λ own t. if_zero (slice_index own.registers r) (on own t) (turn t (λ u. then_do (go_on own u) (falls (loop test r go_on k)))))) (test_runs l s (omega arith))
        (by_way (loop test r go_on k) (λ own t lt. loop_lands k (omega arith) own t (omega arith)))
      where
        by_way : (again : Local → State → Outcome Left) → ((own : Local) (t : State) → t.turns < suc k → Lands C over (settled head own t) t.turns (again own t))
            → (x : Left) (t : State) → t.turns ≤ s.turns → Lands C over (there (Branch r (target n body) (target o next) ∷ []) (way ∷ exits) x t) t.turns (falls (λ own t. if_zero (slice_index own.registers r) (on own t) (turn t (λ u. then_do (go_on own u) (falls again)))) x t)
        by_way again h (zero, own) t fewer =
            tested_lands (slice_index own.registers r) (turn t (λ u. then_do (go_on own u) (falls again))) own t refl
            (λ y z. body_lands (suc k) y again h own t z (omega arith) (omega arith))
        by_way again h (suc z, own) t fewer = moves C _ _ t.turns 0 refl

  -- a loop, from its jump to its test on
  whole_loop_lands : (depth b n o r : ℕ) (fits : Bool) → has fn.kinds r kind.Bool ≡ fits → (head body next : List Instruction) (exits : List (List Instruction)) (test go_on : Local → State → Outcome Left)
      → HasCode fn b head → HasCode fn n body → HasCode fn o next
      → ((l : Local) (s : State) → s.turns ≤ depth → Lands C (there (Branch r (target n body) (target o next) ∷ []) (onward o next ∷ exits)) (settled head l s) s.turns (test l s))
      → ((l : Local) (s : State) → s.turns ≤ depth → Lands C (there (Jump b ∷ []) (onward o next ∷ exits)) (settled body l s) s.turns (go_on l s))
      → (l : Local) (s : State) → s.turns ≤ depth → Lands C (there next exits) (settled (Jump b ∷ []) l s) s.turns (where_so fits (then_do (loop test r go_on s.turns l s) behind))
  whole_loop_lands depth b n o r false is_bool head body next exits test go_on head_is body_is next_is test_runs body_runs l s le = tt
  whole_loop_lands depth b n o r true is_bool head body next exits test go_on head_is body_is next_is test_runs body_runs l s le =
      let way : List Instruction = onward o next in
      then_lands C (there next (way ∷ exits)) (there next exits) _ s.turns (loop test r go_on s.turns l s) behind
      (lands_after C (there next (way ∷ exits)) _ (settled head l s) s.turns s.turns (loop test r go_on s.turns l s) (jumped b head head_is l s)
      (loop_lands depth b n o r is_bool head body next way exits test go_on head_is body_is next_is test_runs body_runs s.turns le l s (omega arith)))
      (λ x t less. out_lands o next exits next_is x t)

  -- In what follows calls are made by `call`, and each lands where its callee returns.
  module _ (P : Program) (head_is : P.head ≡ C.head) (call : ℕ → List ℕ → State → Outcome ℕ) (depth : ℕ)
      (calls_run : (to : Option ℕ) (f : ℕ) (args : List ℕ) (g : Function) → slice_get P.functions f ≡ Some g → call_fits fn.kinds g.result g.parameters g.kinds to args ≡ true
      → (next : List Instruction) (l : Local) (s : State) → s.turns ≤ depth → Lands C (λ v t. at fn dest st next (gives to v l) t) (at fn dest st (Call to f args ∷ next) l s) s.turns (call f (map (slice_index l.registers) args) s)) where
    call_lands : (to : Option ℕ) (f : ℕ) (args : List ℕ) (o : Option Function) → slice_get P.functions f ≡ o → (next : List Instruction) (exits : List (List Instruction)) (l : Local) (s : State) → s.turns ≤ depth
        → Lands C (there next exits) (at fn dest st (Call to f args ∷ next) l s) s.turns (called P call fn.kinds o to f args l s)
    call_lands to f args None h next exits l s le = tt
    call_lands to f args (Some g) h next exits l s le = by_fit (call_fits fn.kinds g.result g.parameters g.kinds to args) refl
      where
        by_fit : (b : Bool) → call_fits fn.kinds g.result g.parameters g.kinds to args ≡ b → Lands C (there next exits) (at fn dest st (Call to f args ∷ next) l s) s.turns (where_so b (then_do (call f (map (slice_index l.registers) args) s) (λ v t. on (gives to v l) t)))
        by_fit false k = tt
        by_fit true k =
            then_lands C (λ v t. at fn dest st next (gives to v l) t) (there next exits) _ s.turns (call f (map (slice_index l.registers) args) s) (λ v t. on (gives to v l) t) (calls_run to f args g h k next l s le) (λ v t less. settles next (gives to v l) t)

    -- an access by a scope is that of the image's own head
    head_loads : (T : Left → State → Machine) (c : Machine) (p to : ℕ) (o : Option Scope) (l : Local) (s : State) → Lands C T c p (loads C.head fn.kinds to o l s) → Lands C T c p (loads P.head fn.kinds to o l s)
    head_loads T c p to o l s h = subst (λ H. Lands C T c p (loads H fn.kinds to o l s)) (sym head_is) h

    head_stores : (T : Left → State → Machine) (c : Machine) (p from : ℕ) (o : Option Scope) (l : Local) (s : State) → Lands C T c p (stores C.head fn.kinds o from l s) → Lands C T c p (stores P.head fn.kinds o from l s)
    head_stores T c p from o l s h = subst (λ H. Lands C T c p (stores H fn.kinds o from l s)) (sym head_is) h

    pub code_lands : (a : Code) (b : ℕ) (next : List Instruction) (exits : List (List Instruction)) → HasBlocks fn b (extra a b next exits) → (l : Local) (s : State) → s.turns ≤ depth → Lands C (there next exits) (settled (first a b next exits) l s) s.turns (run P call fn.kinds a l s)
    code_lands Nothing b next exits has' l s le = moves C _ _ s.turns 0 refl
    code_lands (Do o) b next exits has' l s le = do_lands o next exits l s (op_did P.head fn.kinds s.allocations l.registers o) (ap (λ H. op_did H fn.kinds s.allocations l.registers o) (sym head_is))
    code_lands (scoped.Load to z r off disp) b next exits has' l s le =
        let m : Local = with_scope z (aimed r off disp l.registers) l in
        aimed_lands z r off disp (Load to z ∷ next) next exits l s (λ k t. loads P.head fn.kinds to (slice_get k.scopes z) k t) _ refl
        (head_loads (there next exits) (at fn dest st (Load to z ∷ next) m s) s.turns to (slice_get m.scopes z) m s (load_lands to z next exits m s (slice_get m.scopes z) refl))
    code_lands (scoped.Store z r off disp from) b next exits has' l s le =
        let m : Local = with_scope z (aimed r off disp l.registers) l in
        aimed_lands z r off disp (Store z from ∷ next) next exits l s (λ k t. stores P.head fn.kinds (slice_get k.scopes z) from k t) _ refl
        (head_stores (there next exits) (at fn dest st (Store z from ∷ next) m s) s.turns from (slice_get m.scopes z) m s (store_lands z from next exits m s (slice_get m.scopes z) refl))
    code_lands (LoadBy to z r off disp) b next exits has' l s le =
        head_loads (there next exits) (at fn dest st (Load to z ∷ next) l s) s.turns to (slice_get l.scopes z) l s (load_lands to z next exits l s (slice_get l.scopes z) refl)
    code_lands (StoreBy z r off disp from) b next exits has' l s le =
        head_stores (there next exits) (at fn dest st (Store z from ∷ next) l s) s.turns from (slice_get l.scopes z) l s (store_lands z from next exits l s (slice_get l.scopes z) refl)
    code_lands (scoped.Aim z r off disp) b next exits has' l s le = aim_lands z r off disp next exits l s _ refl
    code_lands (scoped.Leave z) b next exits has' l s le = leave_lands z next exits l s _ refl
    code_lands (Loose z) b next exits has' l s le = moves C _ _ s.turns 0 refl
    code_lands (scoped.Call to f args) b next exits has' l s le = call_lands to f args (slice_get P.functions f) refl next exits l s le
    code_lands (Fail a) b next exits has' l s le = fail_lands a next exits l s _ _ refl (ap (λ H. text_at H (slice_index l.registers a)) (sym head_is))
    code_lands (Then a c) b next exits has' l s le =
        let n = first c b next exits in
        then_lands C (there n exits) (there next exits) _ s.turns (run P call fn.kinds a l s) (falls (run P call fn.kinds c))
        (code_lands a (b + count c) n exits (blocks_back fn b (extra c b next exits) _ (b + count c) (ap (λ k. b + k) (sym (length-extra c b next exits))) has') l s le)
        (falls_lands n next exits (run P call fn.kinds c) s.turns (λ own t less. code_lands c b next exits (blocks_front fn b (extra c b next exits) _ has') own t (omega arith)))
    code_lands (Choose r a c) b next exits has' l s le =
        let j = onward b next in
        let m = suc (suc b + count a) in
        let fa = first a (suc b) j exits in
        let fc = first c m j exits in
        let behind_a = blocks_back fn (suc b) (extra a (suc b) j exits) (fa ∷ (extra c m j exits ++ fc ∷ [])) (suc b + count a) (ap (λ k. suc b + k) (sym (length-extra a (suc b) j exits))) has'.1 in
        let behind_c = blocks_back fn m (extra c m j exits) (fc ∷ []) (m + count c) (ap (λ k. m + k) (sym (length-extra c m j exits))) behind_a.1 in
        choose_lands (there next exits) r (suc b + count a) (m + count c) (slice_index l.registers r) (has fn.kinds r kind.Bool) fa fc l s _ _ refl refl behind_a.0 behind_c.0
        (joined_lands b next exits has'.0 _ _ (run P call fn.kinds a l s) (code_lands a (suc b) j exits (blocks_front fn (suc b) (extra a (suc b) j exits) _ has'.1) l s le))
        (joined_lands b next exits has'.0 _ _ (run P call fn.kinds c l s) (code_lands c m j exits (blocks_front fn m (extra c m j exits) _ behind_a.1) l s le))
    code_lands (Loop test r body) b next exits has' l s le =
        let n = suc (suc b) in
        let i = Jump b ∷ [] in
        let xs = onward (suc b) next ∷ exits in
        let m = suc (suc (suc b) + count body) in
        let j = tested r body b next exits in
        let fa = first body n i xs in
        let fc = first test m j xs in
        let behind_a = blocks_back fn n (extra body n i xs) (fa ∷ extra test m j xs) (n + count body) (ap (λ k. n + k) (sym (length-extra body n i xs))) has'.1.1 in
        whole_loop_lands depth b (n + count body) (suc b) r (has fn.kinds r kind.Bool) refl fc fa next exits (run P call fn.kinds test) (run P call fn.kinds body) has'.0 behind_a.0 has'.1.0
        (λ own t less. code_lands test m j xs behind_a.1 own t less)
        (λ own t less. code_lands body n i xs (blocks_front fn n (extra body n i xs) _ has'.1.1) own t less)
        l s le
    code_lands (Block a) b next exits has' l s le =
        then_lands C (there (onward b next) (onward b next ∷ exits)) (there next exits) _ s.turns (run P call fn.kinds a l s) behind (code_lands a (suc b) (onward b next) (onward b next ∷ exits) has'.1 l s le) (λ x t less. block_lands b next exits has'.0 x t)
    code_lands (Exit k) b next exits has' l s le = moves C _ _ s.turns 0 refl
