-- What holds of each state of a run of a verified image.
use Rattle.std.proofs.Common.{◌≡◌, ◌≢◌, ◌⊎◌, ℕ, suc, ◌+◌, ◌*◌, ◌<◌, ◌≤◌, true, cond, Option, Some, None, List, [], ◌∷◌, length}
use Rattle.std.specs.Prelude.{◌==◌, slice_get, slice_index}
use Rattle.std.specs.List.{Contains}
use Rattle.code_form.specs.declared.form.Kind.{Kind}
use Rattle.code_form.specs.declared.form.Kind.TheVariants as kind
use Rattle.code_form.specs.Form.{Instruction, Function, Head, Image}
use Rattle.code_form.specs.Effects.{Effect, Heap, run_effect}
use Rattle.code_form.specs.declared.allocation.Allocation.{Allocation}
use Rattle.code_form.specs.Code.{Core, Frame, Running, Scope, Stopped, Stuck, Aimed, Shut, is_pointer, length_of, offset, on_kind, result_fits, text_at}
use Rattle.code_form.specs.Known.{Known, Knows, KnownAimed, KnownShut, Unknown, wrote_some}
use Rattle.code_verification.specs.Verified.{AreGuarded}
use Rattle.code_verification.specs.WellFormed.{IsRest}

-- ---- values

-- the allocation of a number
abbrev pub allocation_at : List Allocation → ℕ → Option Allocation
allocation_at [] q = None
allocation_at (a ∷ older) q = cond (q == suc (length older)) (Some a) (allocation_at older q)

-- a reference to an allocation of a layout with at least n elements
abbrev pub Refers : List Allocation → ℕ → ℕ → ℕ → Type 0
Refers al l n q = (a : Allocation) × (allocation_at al q ≡ Some a) × (a.layout ≡ l) × (n ≤ a.length)

-- a value of a kind
abbrev pub IsKind : Head → List Allocation → Kind → ℕ → Type 0
IsKind H al kind.Int v = Unit {0}
IsKind H al kind.Bool v = Unit {0}
IsKind H al kind.Char v = Unit {0}
IsKind H al kind.Text v = (t : List ℕ) × (text_at H v ≡ Some t)
IsKind H al (kind.Ptr l) v = (v ≡ 0) ⊎ Refers al l 1 v
IsKind H al (kind.Arr l) v = (v ≡ 0) ⊎ Refers al l 0 v
IsKind H al (kind.Off l) v = Unit {0}

-- each register holds a value of its kind
abbrev pub AreTyped : Head → List Allocation → List Kind → List ℕ → Type 0
AreTyped H al ks rs = (r : ℕ) (k : Kind) → slice_get ks r ≡ Some k → IsKind H al k (slice_index rs r)

-- each allocation has the cells of its layout, each cell holds a value of its kind, and where there is no allocation yet all is 0
pub record IsTypedHeap (H : Head) (al : List Allocation) (h : Heap) : Type 0 where
  pub sized : (q : ℕ) (a : Allocation) → allocation_at al q ≡ Some a → (cs : List Kind) × (slice_get H.layouts a.layout ≡ Some cs) × (a.cells ≡ a.length * length cs)
  pub cells : (q i d : ℕ) (a : Allocation) (cs : List Kind) (k : Kind) → allocation_at al q ≡ Some a → slice_get H.layouts a.layout ≡ Some cs → i < a.length → slice_get cs d ≡ Some k → IsKind H al k (h q (i * length cs + d))
  pub fresh : (q x : ℕ) → length al < q → h q x ≡ 0

-- ---- what is known

-- a scope is as it is known
abbrev pub ScopeIs : List ℕ → Knows → Option Scope → Type 0
ScopeIs rs Unknown z = Unit {0}
ScopeIs rs KnownShut z = z ≡ Some Shut
ScopeIs rs (KnownAimed r off disp) z = z ≡ Some (Aimed r off disp (slice_index rs r) (offset rs off + disp))

-- register d holds the offset of an element of the array in register r
pub record IsOffset (H : Head) (al : List Allocation) (ks : List Kind) (rs : List ℕ) (d r : ℕ) : Type 0 where
  pub layout : ℕ
  pub cells : List Kind
  pub index : ℕ
  pub array : slice_get ks r ≡ Some (kind.Arr layout)
  pub offsets : slice_get ks d ≡ Some (kind.Off layout)
  pub element : slice_get H.layouts layout ≡ Some cells
  pub place : slice_index rs d ≡ index * length cells
  pub inside : index < length_of al (slice_index rs r)

-- all that is known is so
pub record Holds (H : Head) (al : List Allocation) (ks : List Kind) (rs : List ℕ) (scopes : List Scope) (k : Known) : Type 0 where
  pub nonnull : (r : ℕ) → Contains k.nonnull r → (on_kind is_pointer (slice_get ks r) ≡ true) × (slice_index rs r ≢ 0)
  pub inside : (d r : ℕ) → Contains k.inside (d, r) → IsOffset H al ks rs d r
  pub scope : (s : ℕ) → s < length scopes → ScopeIs rs (k.scope s) (slice_get scopes s)

-- ---- calls

-- these instructions may come where so much is known
abbrev pub Checks : Image → Function → Known → List Instruction → Type 0
Checks C f k is = IsRest C f k is × AreGuarded k is

-- a call whose instructions may come behind what is known of it, once the register that waits for a result is written
pub record IsGood (C : Image) (al : List Allocation) (f : Frame) (to : Option ℕ) : Type 0 where
  pub number : ℕ
  pub is : slice_get C.functions number ≡ Some f.function
  pub known : Known
  pub checks : Checks C f.function (wrote_some to known) f.rest
  pub holds : Holds C.head al f.function.kinds f.registers f.scopes known
  pub typed : AreTyped C.head al f.function.kinds f.registers
  pub registers : length f.registers ≡ length f.function.kinds
  pub scopes : length f.scopes ≡ f.function.scopes

-- calls that wait, the first of them for a result of this kind, in this register
abbrev pub AllWait : Image → List Allocation → Option Kind → Option ℕ → List Frame → Type 0
AllWait C al result to [] = Unit {0}
AllWait C al result to (g ∷ st) = (result_fits g.function.kinds result to ≡ true) × IsGood C al g to × AllWait C al g.function.result g.destination st

-- a state
abbrev pub IsGoodState : Image → Core → Heap → Type 0
IsGoodState C (Running f st al o) h = IsTypedHeap C.head al h × IsGood C al f None × AllWait C al f.function.result f.destination st
IsGoodState C (Stopped s al o) h = Unit {0}
IsGoodState C (Stuck al o) h = ⊥

-- an effect leads to such a state
abbrev pub LeadsOn : Image → Core → Heap → Effect Core → Type 0
LeadsOn C c h x = IsGoodState C (run_effect x c h).0 (run_effect x c h).1
