-- The machine follows scoped code: what a run of the code says of the machine, and how this composes.
use Rattle.std.proofs.Common.{◌≡◌, ℕ, zero, suc, ◌+◌, ◌≤◌, List, [], ◌∷◌, ◌++◌, length, Option, Some, sym, ap, ◌∙◌, subst, arith}
use Rattle.std.specs.Prelude.{slice_get}
use Rattle.cells.specs.Stops.{Stop}
use Rattle.code_form.specs.declared.form.Fact.{Fact}
use Rattle.code_form.specs.Form.{Function, Image, Instruction}
use Rattle.code_form.specs.Effects.{Heap, step, steps}
use Rattle.code_form.specs.declared.allocation.Allocation.{Allocation}
use Rattle.code_form.specs.Code.{Core, Frame, Running, code}
use Rattle.code_form.specs.Code as machine
use Rattle.middle_form.specs.Meaning.{Outcome, Done, Stopped, Cut, Stuck, State, then_do}
use Rattle.middle_form.specs.ScopedMeaning.{Local}
use Rattle.codegen.specs.Generated.{block_with}

-- block b of a function has these instructions, whatever its entry facts
abbrev pub HasCode : Function → ℕ → List Instruction → Type 0
HasCode f b is = (w : List Fact) × (slice_get f.blocks b ≡ Some (block_with w is))

-- these blocks of a function stand from number b on
abbrev pub HasBlocks : Function → ℕ → List (List Instruction) → Type 0
HasBlocks f b [] = Unit {0}
HasBlocks f b (is ∷ bs) = HasCode f b is × HasBlocks f (suc b) bs

pub blocks_front : (f : Function) (b : ℕ) (xs ys : List (List Instruction)) → HasBlocks f b (xs ++ ys) → HasBlocks f b xs
blocks_front f b [] ys h = tt
blocks_front f b (x ∷ xs) ys h = (h.0, blocks_front f (suc b) xs ys h.1)

pub blocks_back : (f : Function) (b : ℕ) (xs ys : List (List Instruction)) (c : ℕ) → c ≡ b + length xs → HasBlocks f b (xs ++ ys) → HasBlocks f c ys
blocks_back f b [] ys c e h = let z : b ≡ c = omega arith in subst (λ n. HasBlocks f n ys) z h
blocks_back f b (x ∷ xs) ys c e h = blocks_back f (suc b) xs ys c (omega arith) h.1

-- a state of the machine
abbrev pub Machine : Type 0
Machine = Core × Heap

-- a frame with these registers and scopes
abbrev pub frame_of : Function → Option ℕ → List Instruction → Local → Frame
frame_of f d is l = record { function = f; rest = is; registers = l.registers; scopes = l.scopes; destination = d }

-- the machine where scoped code is in this state
abbrev pub at : Function → Option ℕ → List Frame → List Instruction → Local → State → Machine
at f d st is l s = (Running (frame_of f d is l) st s.allocations s.output, s.heap)

-- it runs, and has printed this
abbrev pub IsRunning : Core → List ℕ → Type 0
IsRunning (Running f st al o) out = o ≡ out
IsRunning (machine.Stopped x al o) out = ⊥
IsRunning (machine.Stuck al o) out = ⊥

module _ (C : Image) where
  pub steps-add : (i j : ℕ) (c : Machine) → steps (code C) (i + j) c ≡ steps (code C) j (steps (code C) i c)
  steps-add zero j c = let e : zero + j ≡ j = omega arith in ap (λ n. steps (code C) n c) e
  steps-add (suc i) j c = let e : suc i + j ≡ suc (i + j) = omega arith in ap (λ n. steps (code C) n c) e ∙ steps-add i j (step (code C) c)

  -- from c, with p turns left, the machine comes to d, with q left: it makes no fewer steps than it uses turns
  pub record Comes (c d : Machine) (p q : ℕ) : Type 0 where
    pub many : ℕ
    pub eq : steps (code C) many c ≡ d
    pub least : p ≤ q + many
    pub less : q ≤ p

  -- it stops
  pub record Halts (c : Machine) (x : Stop) (out : List ℕ) : Type 0 where
    pub many : ℕ
    pub al : List Allocation
    pub eq : (steps (code C) many c).0 ≡ machine.Stopped x al out

  -- it runs still behind p steps
  pub record Lasts (c : Machine) (p : ℕ) (out : List ℕ) : Type 0 where
    pub many : ℕ
    pub least : p ≤ many
    pub runs : IsRunning (steps (code C) many c).0 out

  -- The machine does from c what the run says, T a s being where it is behind a value. Of stuck code nothing is said
  abbrev pub Lands : {A : Type 0} → (A → State → Machine) → Machine → ℕ → Outcome A → Type 0
  Lands T c p (Done a s) = Comes c (T a s) p s.turns
  Lands T c p (Stopped x out) = Halts c x out
  Lands T c p (Cut out) = Lasts c p out
  Lands T c p Stuck = Unit {0}

  pub comes_on : (c d e : Machine) (p q r : ℕ) → Comes c d p q → Comes d e q r → Comes c e p r
  comes_on c d e p q r h k = record {
    many = h.many + k.many;
    eq = steps-add h.many k.many c ∙ ap (steps (code C) k.many) h.eq ∙ k.eq;
    least = (let a = h.least in let b = k.least in omega arith);
    less = (let a = h.less in let b = k.less in omega arith);
  }

  pub lands_after : {A : Type 0} (T : A → State → Machine) (c d : Machine) (p q : ℕ) (m : Outcome A) → Comes c d p q → Lands T d q m → Lands T c p m
  lands_after T c d p q (Done a s) h k = comes_on c d (T a s) p q s.turns h k
  lands_after T c d p q (Stopped x out) h k = record { many = h.many + k.many; al = k.al; eq = ap (λ (z : Machine). z.0) (steps-add h.many k.many c ∙ ap (steps (code C) k.many) h.eq) ∙ k.eq }
  lands_after T c d p q (Cut out) h k = record {
    many = h.many + k.many;
    least = (let a = h.least in let b = k.least in omega arith);
    runs = subst (λ (z : Machine). IsRunning z.0 out) (sym (steps-add h.many k.many c ∙ ap (steps (code C) k.many) h.eq)) k.runs;
  }
  lands_after T c d p q Stuck h k = tt

  pub then_lands : {A B : Type 0} (T : A → State → Machine) (U : B → State → Machine) (c : Machine) (p : ℕ) (m : Outcome A) (f : A → State → Outcome B) → Lands T c p m → ((a : A) (s : State) → s.turns ≤ p → Lands U (T a s) s.turns (f a s)) → Lands U c p (then_do m f)
  then_lands T U c p (Done a s) f h k = lands_after U c (T a s) p s.turns (f a s) h (k a s h.less)
  then_lands T U c p (Stopped x out) f h k = h
  then_lands T U c p (Cut out) f h k = h
  then_lands T U c p Stuck f h k = tt

  -- some steps that use no turn
  pub moves : (c d : Machine) (p n : ℕ) → steps (code C) n c ≡ d → Comes c d p p
  moves c d p n e = record { many = n; eq = e; least = omega arith; less = omega arith }

  -- steps that use one turn, at least one step
  pub turns_on : (c d : Machine) (p n : ℕ) → steps (code C) (suc n) c ≡ d → Comes c d (suc p) p
  turns_on c d p n e = record { many = suc n; eq = e; least = omega arith; less = omega arith }
