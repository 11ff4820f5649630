-- Where the meaning and the code are alike, in a function.
use Rattle.std.proofs.Common.{◌≡◌, ℕ, zero, suc, ◌+◌, ◌*◌, ◌<◌, ◌≤◌, Bool, true, false, List, [], ◌∷◌, ◌++◌, length, Option, Some, None, refl, sym, ap, ◌∙◌, subst, arith}
use Rattle.std.specs.Prelude.{slice_get, slice_index}
use Rattle.cells.specs.Outcomes.{Done, Stopped, Cut, then_do}
use Rattle.c0_typed.specs.Values.{Value, Spot, Tree, Node, copies, as_ref, array_length, load, store, count}
use Rattle.c0_typed.specs.Trees.{Program, Ty, StructTy, ArrayTy}
use Rattle.c0_typed.specs.Meaning.{State, Outcome, default, struct_defaults}
use Rattle.c0_typed.specs.Typing.{Kept, One, Many, Extends, Is, IsHeap, IsHeld, IsMade, IsPlace, IsSmall, IsState, IsWayIn}
use Rattle.code_form.specs.declared.form.Kind.{Kind}
use Rattle.code_form.specs.declared.allocation.Allocation.{Allocation}
use Rattle.code_form.specs.Code.{cells_of, length_of, sizes}
use Rattle.code_form.specs.Effects.{Heap, with_cell}
use Rattle.code_form.specs.Form.{Head}
use Rattle.middle_form.specs.Form.{Code}
use Rattle.middle_form.specs.Form as f
use Rattle.middle_form.specs.Meaning as m
use Rattle.lower.specs.Coded.{Coded, Heaps, inner_path, kept_offset, kept_type, type_offset}
use Rattle.lower_tables.specs.Kinds as k
use Rattle.lower_tables.specs.Known.{IsKnown}
use Rattle.lower_expressions.specs.Expressions.{sequence}
use Rattle.lower.proofs.Joint.{Joint, Lands, joint_from, run_append}
use Rattle.lower.proofs.Registers.{Keeps, Matched}

-- what is used of heaps
pub record HeapFacts (p : Program) (singles : List Kind) (H : Head) : Type 0 where
  pub layout : (t : Ty) → IsKnown (length p.structs) singles t → slice_get H.layouts (k.layout_number (length p.structs) singles t) ≡ Some (k.cells_of p.structs singles t)
  pub kind : (kept : Kept) (path : List ℕ) (u : Ty) → IsWayIn p kept path u → IsSmall u
      → slice_get (k.cells_of p.structs singles (kept_type kept)) (type_offset p.structs singles (kept_type kept) (inner_path kept path)) ≡ Some (k.kind_of (length p.structs) singles u)
  pub onward : (kept : Kept) (path : List ℕ) (j i : ℕ) → IsWayIn p kept path (StructTy j)
      → type_offset p.structs singles (kept_type kept) (inner_path kept (path ++ i ∷ [])) ≡ type_offset p.structs singles (kept_type kept) (inner_path kept path) + k.field_offset p.structs singles j i
  pub load : (made : List Kept) (trees : List Tree) (al : List Allocation) (h : Heap) (u : Ty) (at : Spot) → Heaps H made trees al h → IsHeap p made trees → (q : IsPlace p made u at) → IsSmall u
      → Coded H (load trees at) (h at.allocation (kept_offset p.structs singles q.kept at.path))
  pub there : (made : List Kept) (trees : List Tree) (al : List Allocation) (h : Heap) (u : Ty) (at : Spot) → Heaps H made trees al h → IsHeap p made trees → (q : IsPlace p made u at) → IsSmall u
      → kept_offset p.structs singles q.kept at.path < cells_of (sizes al) at.allocation
  pub store : (made : List Kept) (trees : List Tree) (al : List Allocation) (h : Heap) (u : Ty) (at : Spot) (v : Value) (n : ℕ) → Heaps H made trees al h → IsHeap p made trees → (q : IsPlace p made u at) → IsSmall u → Is p made u v → Coded H v n
      → Heaps H made (store trees at v) al (with_cell h at.allocation (kept_offset p.structs singles q.kept at.path) n)
  pub alloc : (made : List Kept) (trees : List Tree) (al : List Allocation) (h : Heap) (l : ℕ) (t : Ty) → IsHeld (length p.structs) t → Heaps H made trees al h → IsHeap p made trees
      → Heaps H (made ++ One t ∷ []) (trees ++ default (struct_defaults [] p.structs) t ∷ []) (record { layout = l; length = 1; cells = 1 * length (k.cells_of p.structs singles t) } ∷ al) h
  pub array : (made : List Kept) (trees : List Tree) (al : List Allocation) (h : Heap) (l n : ℕ) (t : Ty) → IsHeld (length p.structs) t → Heaps H made trees al h → IsHeap p made trees
      → Heaps H (made ++ Many n t ∷ []) (trees ++ Node (copies n (default (struct_defaults [] p.structs) t)) ∷ []) (record { layout = l; length = n; cells = n * length (k.cells_of p.structs singles t) } ∷ al) h
  pub long : (made : List Kept) (trees : List Tree) (al : List Allocation) (h : Heap) (t : Ty) (v : Value) → Heaps H made trees al h → IsHeap p made trees → Is p made (ArrayTy t) v → length_of al (as_ref v) ≡ array_length trees (as_ref v)

module _ (p : Program) (H : Head) where
  -- the heap, the output and the turns that are left
  pub record Alike (made : List Kept) (s : State) (w : m.State) : Type 0 where
    pub turns : s.turns ≡ w.turns
    pub output : s.output ≡ w.output
    pub heap : Heaps H made s.heap w.allocations w.heap

  module _ (types : List Ty) (locals : ℕ) where
    -- the state, the registers of locals, and the registers below d as before
    pub record Going (d : ℕ) (rs : List ℕ) (made : List Kept) (s : State) (xs : List ℕ) (w : m.State) : Type 0 where
      pub state : IsState p types made s
      pub keeps : Keeps d rs xs
      pub long : length xs ≡ length rs
      pub matched : Matched H locals s.locals xs
      pub alike : Alike made s w

    -- a value of a type, in register r
    pub record Valued (r : ℕ) (t : Ty) (d : ℕ) (rs : List ℕ) (made : List Kept) (v : Value) (s : State) (x : m.Left) (w : m.State) : Type 0 where
      pub falls : x.0 ≡ 0
      pub is : Is p made t v
      pub coded : Coded H v (slice_index x.1 r)
      pub going : Going d rs made s x.1 w

    -- a value is at hand, and both go on with it
    pub joint_valued : {C : Type 0} (made : List Kept) (r : ℕ) (t : Ty) (d : ℕ) (rs : List ℕ) (o : Outcome Value) (n : m.Outcome m.Left) (go : Value → State → Outcome C) (on : List ℕ → m.State → m.Outcome m.Left)
        (S : List Kept → C → State → m.Left → m.State → Type 0)
        → Joint made (Valued r t d rs) o n
        → ((new : List Kept) (v : Value) (s : State) (xs : List ℕ) (w : m.State) → Extends made new → Is p new t v → Coded H v (slice_index xs r) → Going d rs new s xs w → Joint new S (go v s) (on xs w))
        → Joint made S (then_do o go) (m.then_do n (m.falls on))
    joint_valued made r t d rs (Done a s) (m.Done (zero, xs) w) go on S h k = joint_from made h.0 S (go a s) (on xs w) h.1 (k h.0 a s xs w h.1 h.2.is h.2.coded h.2.going)
    joint_valued made r t d rs (Done a s) (m.Done (suc i, xs) w) go on S h k = let z = h.2.falls in absurd (cc z)
    joint_valued made r t d rs (Done a s) (m.Stopped x out) go on S h k = absurd h
    joint_valued made r t d rs (Done a s) (m.Cut out) go on S h k = absurd h
    joint_valued made r t d rs (Done a s) m.Stuck go on S h k = absurd h
    joint_valued made r t d rs (Stopped x out) n go on S h k = ap (λ z. m.then_do z (m.falls on)) h
    joint_valued made r t d rs (Cut out) n go on S h k = ap (λ z. m.then_do z (m.falls on)) h
