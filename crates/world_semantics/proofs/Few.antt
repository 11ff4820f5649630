-- a program has no more scopes than its function with the most
use Rattle.std.proofs.Common.{◌≡◌, ℕ, zero, suc, ◌+◌, ◌<◌, ◌≤◌, Bool, true, false, cond, ◌&&◌, List, [], ◌∷◌, length, Option, Some, None, refl, arith}
use Rattle.std.specs.Prelude.{map, nat_lt, replicate, slice_get, slice_index, is_none}
use Rattle.std.proofs.lemmas.Bool.Decides.{nat_tests}
use Rattle.std.proofs.lemmas.List.{length-map, length-replicate, length-set}
use Rattle.code_form.specs.declared.allocation.Allocation.{Allocation}
use Rattle.code_form.specs.declared.form.Kind.TheVariants as kind
use Rattle.code_form.specs.declared.touch.Cell.{Cell}
use Rattle.code_form.specs.declared.touch.Touch.TheVariants as touch
use Rattle.code_form.specs.Form.{Block, Function, Image, Instruction, Simple, Aim, Load, Store, Leave, Call, Jump, Branch, Return, ReturnVoid, Error}
use Rattle.code_form.specs.Effects.{Effect, Plain, Hints, Aims, Loads, Stores, Leaves, Allocs, Ends, Wrong, Nothing}
use Rattle.code_form.specs.Code.{if_zero, has, on_kind, place_fits, Frame, Core, Running, Stopped, Stuck, Did, Goes, Tells, Sets, Makes, Prints, Stops, Fails, op_did, text_at, Scope, Shut, Aimed, Stale, on, gives, written, act, after, begins, calls, can_use, call_fits, effect, entered, enters_at, held, held_by, jumps, load_by, most_scopes, offset, returns, errs, store_by}
use Rattle.code_form.specs.Touches.{resumed, touch_of}

-- none of these calls has more scopes than n
abbrev pub FewIn : ℕ → List Frame → Type 0
FewIn n [] = Unit {0}
FewIn n (f ∷ fs) = (length f.scopes ≤ n) × FewIn n fs

-- no call of a program has
abbrev pub FewScopes : ℕ → Core → Type 0
FewScopes n (Running f st al o) = (length f.scopes ≤ n) × FewIn n st
FewScopes n (Stopped s al o) = Unit {0}
FewScopes n (Stuck al o) = Unit {0}

-- an instruction leads to no more, and aims no scope at n or above
abbrev FewAfter : ℕ → Effect Core → Type 0
FewAfter n (Plain d) = FewScopes n d
FewAfter n (Hints w d) = FewScopes n d
FewAfter n (Aims s w d) = (s < n) × FewScopes n d
FewAfter n (Loads s r x k) = (v : ℕ) → FewScopes n (k v)
FewAfter n (Stores s r x v d) = FewScopes n d
FewAfter n (Leaves s d) = FewScopes n d
FewAfter n (Allocs c d) = FewScopes n d
FewAfter n (Ends d) = FewScopes n d
FewAfter n (Wrong d) = FewScopes n d
FewAfter n Nothing = Unit {0}

pub among : (gs : List Function) (k : ℕ) (g : Function) → slice_get gs k ≡ Some g → g.scopes ≤ most_scopes gs
among [] k g e = cc
among (x ∷ gs) zero g e = let same : x ≡ g = cc in let count : x.scopes ≡ g.scopes = cc in omega arith
among (x ∷ gs) (suc k) g e = let rest = among gs k g e in omega arith

last_of_both : (a : Bool) (s n : ℕ) → (a && nat_lt s n) ≡ true → s < n
last_of_both true s n e = grind (arith, nat_tests)
last_of_both false s n e = cc

module _ (C : Image) (rest : List Instruction) (f : Frame) (st : List Frame) (al : List Allocation) (o : List ℕ)
    (few : length f.scopes ≤ most_scopes C.functions) (waits : FewIn (most_scopes C.functions) st) where
  abbrev So : Effect Core → Type 0
  So x = FewAfter (most_scopes C.functions) x

  pick : (b : Bool) (x y : Effect Core) → (b ≡ true → So x) → So y → So (cond b x y)
  pick true x y p q = p refl
  pick false x y p q = q

  after_few : (d : Did) → So (after d rest f st al o)
  after_few Goes = (few, waits)
  after_few (Tells w) = (few, waits)
  after_few (Sets d v) = let e : length (map (written d) f.scopes) ≡ length f.scopes = length-map f.scopes (written d) in (omega arith, waits)
  after_few (Makes d a) = let e : length (map (written d) f.scopes) ≡ length f.scopes = length-map f.scopes (written d) in (omega arith, waits)
  after_few (Prints b) = (few, waits)
  after_few (Stops s) = tt
  after_few Fails = tt

  load_few : (z : Option Scope) (d s : ℕ) → So (load_by C.head z d s rest f st al o)
  load_few None d s = tt
  load_few (Some Shut) d s = tt
  load_few (Some (Stale q x)) d s = tt
  load_few (Some (Aimed r off i q x)) d s = pick (can_use C.head f.function.kinds al d r i q x) _ _
      (λ _ v. let e : length (map (written d) f.scopes) ≡ length f.scopes = length-map f.scopes (written d) in (omega arith, waits)) tt

  store_few : (z : Option Scope) (s a : ℕ) → So (store_by C.head z s a rest f st al o)
  store_few None s a = tt
  store_few (Some Shut) s a = tt
  store_few (Some (Stale q x)) s a = tt
  store_few (Some (Aimed r off i q x)) s a = pick (can_use C.head f.function.kinds al a r i q x) _ _ (λ _. (few, waits)) tt

  jump_few : (b : Option Block) → So (jumps b f st al o)
  jump_few None = tt
  jump_few (Some b) = (few, waits)

  branch_few : (x : ℕ) (a b : Option Block) → So (if_zero x (jumps a f st al o) (jumps b f st al o))
  branch_few zero a b = jump_few a
  branch_few (suc x) a b = jump_few b

  enter_few : (b : Option Block) (g : Function) (args : List ℕ) (d : Option ℕ) → g.scopes ≤ most_scopes C.functions → So (enters_at b g args d (on f rest ∷ st) al o)
  enter_few None g args d l = tt
  enter_few (Some b) g args d l = let e : length (replicate g.scopes Shut) ≡ g.scopes = length-replicate g.scopes Shut in (omega arith, (few, waits))

  call_few : (k : ℕ) (g : Option Function) → slice_get C.functions k ≡ g → (d : Option ℕ) (args : List ℕ) → So (calls g d args rest f st al o)
  call_few k None e d args = tt
  call_few k (Some g) e d args = pick (call_fits f.function.kinds g.result g.parameters g.kinds d args) _ _ (λ _. enter_few (slice_get g.blocks 0) g (map (slice_index f.registers) args) d (among C.functions k g e)) tt

  gives_few : (g : Frame) (d : Option ℕ) (v : ℕ) → length g.scopes ≤ most_scopes C.functions → length (gives g d v).scopes ≤ most_scopes C.functions
  gives_few g None v l = l
  gives_few g (Some d) v l = let e : length (map (written d) g.scopes) ≡ length g.scopes = length-map g.scopes (written d) in omega arith

  return_few : (v : ℕ) (d : Option ℕ) (fs : List Frame) → FewIn (most_scopes C.functions) fs → So (returns v d fs al o)
  return_few v d [] w = tt
  return_few v d (g ∷ fs) w = (gives_few g d v w.0, w.1)

  error_few : (text : Option (List ℕ)) → So (errs text al o)
  error_few None = tt
  error_few (Some text) = tt

act_few : (C : Image) (is : List Instruction) (f : Frame) (st : List Frame) (al : List Allocation) (o : List ℕ) → length f.scopes ≤ most_scopes C.functions → FewIn (most_scopes C.functions) st
    → FewAfter (most_scopes C.functions) (act C is f st al o)
act_few C [] f st al o few w = tt
act_few C (Simple op ∷ rest) f st al o few w = after_few C rest f st al o few w (op_did C.head f.function.kinds al f.registers op)
act_few C (Aim k r off i ∷ rest) f st al o few w = pick C rest f st al o few w (place_fits f.function.kinds r off && nat_lt k (length f.scopes)) _ _
    (λ e. let l : k < length f.scopes = last_of_both (place_fits f.function.kinds r off) k (length f.scopes) e in
    let n = length-set f.scopes k (Aimed r off i (slice_index f.registers r) (offset f.registers off + i)) in (omega arith, (omega (arith, n), w))) tt
act_few C (Load d k ∷ rest) f st al o few w = load_few C rest f st al o few w (slice_get f.scopes k) d k
act_few C (Store k a ∷ rest) f st al o few w = store_few C rest f st al o few w (slice_get f.scopes k) k a
act_few C (Leave k ∷ rest) f st al o few w = pick C rest f st al o few w (nat_lt k (length f.scopes)) _ _ (λ _. let n = length-set f.scopes k Shut in (omega (arith, n), w)) tt
act_few C (Call d g args ∷ rest) f st al o few w = call_few C rest f st al o few w g (slice_get C.functions g) refl d args
act_few C (Jump b ∷ rest) f st al o few w = jump_few C rest f st al o few w (slice_get f.function.blocks b)
act_few C (Branch a b d ∷ rest) f st al o few w = pick C rest f st al o few w (has f.function.kinds a kind.Bool) _ _
    (λ _. branch_few C rest f st al o few w (slice_index f.registers a) (slice_get f.function.blocks d) (slice_get f.function.blocks b)) tt
act_few C (Return a ∷ rest) f st al o few w = pick C rest f st al o few w (on_kind (λ k. has f.function.kinds a k) f.function.result) _ _
    (λ _. return_few C rest f st al o few w (slice_index f.registers a) f.destination st w) tt
act_few C (ReturnVoid ∷ rest) f st al o few w = pick C rest f st al o few w (is_none f.function.result) _ _ (λ _. return_few C rest f st al o few w 0 f.destination st w) tt
act_few C (Error a ∷ rest) f st al o few w = pick C rest f st al o few w (has f.function.kinds a kind.Text) _ _ (λ _. error_few C rest f st al o few w (text_at C.head (slice_index f.registers a))) tt

few_after : (C : Image) (c : Core) → FewScopes (most_scopes C.functions) c → FewAfter (most_scopes C.functions) (effect C c)
few_after C (Running f st al o) few = act_few C f.rest f st al o few.0 few.1
few_after C (Stopped s al o) few = tt
few_after C (Stuck al o) few = tt

few_on : (n : ℕ) (e : Effect Core) (c : Core) (v : ℕ) → FewScopes n c → FewAfter n e → FewScopes n (resumed e c v)
few_on n (Plain d) c v here few = few
few_on n (Hints w d) c v here few = few
few_on n (Aims s w d) c v here few = few.1
few_on n (Loads s r x k) c v here few = few v
few_on n (Stores s r x u d) c v here few = few
few_on n (Leaves s d) c v here few = few
few_on n (Allocs a d) c v here few = few
few_on n (Ends d) c v here few = few
few_on n (Wrong d) c v here few = few
few_on n Nothing c v here few = here

-- an instruction leaves no more scopes than there may be
pub few_resumed : (C : Image) (c : Core) (v : ℕ) → FewScopes (most_scopes C.functions) c → FewScopes (most_scopes C.functions) (resumed (effect C c) c v)
few_resumed C c v few = few_on (most_scopes C.functions) (effect C c) c v few (few_after C c few)

aimed_below : (n : ℕ) (e : Effect Core) (s : ℕ) (w : Option Cell) → FewAfter n e → touch_of e ≡ touch.Aims s w → s < n
aimed_below n (Plain d) s w few e = cc
aimed_below n (Hints u d) s w few e = cc
aimed_below n (Aims k u d) s w few e = let same : k ≡ s = cc in let l : k < n = few.0 in omega arith
aimed_below n (Loads k r x u) s w few e = cc
aimed_below n (Stores k r x u d) s w few e = cc
aimed_below n (Leaves k d) s w few e = cc
aimed_below n (Allocs a d) s w few e = cc
aimed_below n (Ends d) s w few e = cc
aimed_below n (Wrong d) s w few e = cc
aimed_below n Nothing s w few e = cc

-- a scope that is aimed next is one of them
pub few_aimed : (C : Image) (c : Core) (s : ℕ) (w : Option Cell) → FewScopes (most_scopes C.functions) c → touch_of (effect C c) ≡ touch.Aims s w → s < most_scopes C.functions
few_aimed C c s w few e = aimed_below (most_scopes C.functions) (effect C c) s w (few_after C c few) e

scope_below : (al : List Allocation) (zs : List Scope) (s : ℕ) (a : ℕ × ℕ) → held_by al (slice_get zs s) ≡ Some a → s < length zs
scope_below al [] s a e = cc
scope_below al (z ∷ zs) zero a e = omega arith
scope_below al (z ∷ zs) (suc s) a e = let l = scope_below al zs s a e in omega arith

-- and so is one that holds something
pub few_held : (n : ℕ) (c : Core) (s : ℕ) (a : ℕ × ℕ) → FewScopes n c → held c s ≡ Some a → s < n
few_held n (Running f st al o) s a few e = let l : s < length f.scopes = scope_below al f.scopes s a e in let k : length f.scopes ≤ n = few.0 in omega arith
few_held n (Stopped r al o) s a few e = cc
few_held n (Stuck al o) s a few e = cc

-- at the beginning
pub few_begins : (gs : List Function) (main : Option Function) → slice_get gs 0 ≡ main → FewScopes (most_scopes gs) (begins main)
few_begins gs None e = tt
few_begins gs (Some g) e = at_block (slice_get g.blocks 0)
  where
    at_block : (b : Option Block) → FewScopes (most_scopes gs) (elim b [ None ↦ Stuck [] [] | Some x ↦ entered g [] None x [] [] [] ])
    at_block None = tt
    at_block (Some x) = let n = length-replicate g.scopes Shut in let l = among gs 0 g e in (omega (arith, n, l), tt)
