-- What code holds of what is known before an instruction. A clock goes on at each write of a register and at the head of each block; what was learned at
-- a time still holds where the block began no later, and no register that it names was written later.
use Rattle.std.specs.Prelude.{◌≡◌, ℕ, ◌<◌, ◌≤◌, Bool, true, ◌&&◌, ◌==◌, cond, nat_le, All, List, [], map, length, Option, Some, None, Result, OnOk, slice_index, slice_index_or}
use Rattle.std.specs.List.{list_any}
use Rattle.std.specs.declared.vec.Vec.{Vec}
use Rattle.std.specs.declared.alloc.Global.{Global}
use Rattle.code_form.specs.declared.form.Fact.{Fact}
use Rattle.code_form.specs.declared.form.Fact.TheVariants as fact
use Rattle.code_form.specs.declared.form.Operation.{Operation}
use Rattle.code_form.specs.declared.form.Operation.TheVariants.{CheckNull}
use Rattle.code_form.specs.Form.{Instruction, Simple, Aim, Load, Leave, Call, Function}
use Rattle.code_form.specs.Known.{Known, Knows, Unknown, KnownShut, KnownAimed, with_inside, with_nonnull, with_scope, written_by}
use Rattle.scope_verifier.specs.declared.knowledge.Check.{Check}
use Rattle.scope_verifier.specs.declared.knowledge.Knowledge.{Knowledge}
use Rattle.scope_verifier.specs.declared.knowledge.ScopeState.{ScopeState}
use Rattle.scope_verifier.specs.declared.knowledge.ScopeState.TheVariants as state
use Rattle.scope_verifier.specs.declared.knowledge.Told.{Told}
use Rattle.scope_verifier.specs.Answers.{Finds, Tells}
use Rattle.scope_verifier_laws.specs.declared.fault.VerifyFault.{VerifyFault}
use Rattle.scope_verifier_laws.specs.Decided.{is_inside, is_nonnull}

-- what was learned at a time, in a block that began at another, of a register that was last written at a third
abbrev pub is_fresh : (since written at : ℕ) → Bool
is_fresh since written at = nat_le since at && nat_le written at

-- the check of an offset, by when it and the array were last written
abbrev pub is_check : (since offset_at array_at array : ℕ) → Check → Bool
is_check since offset_at array_at array c = (c.array == array) && (is_fresh since offset_at c.at && nat_le array_at c.at)

-- the checks of each offset
abbrev pub checks : List (Vec Check Global) → List (List Check)
checks lists = map (λ l. l.items) lists

-- a state of a scope
abbrev pub state_of : ScopeState → Knows
state_of state.Unknown = Unknown
state_of state.Shut = KnownShut
state_of (state.Aimed r off disp) = KnownAimed r off disp

-- the offset that a place names, if any, was last written by this time
abbrev pub offset_fresh : List ℕ → Option ℕ → ℕ → Bool
offset_fresh written None at = true
offset_fresh written (Some d) at = nat_le (slice_index written d) at

-- what stays of a state that was learned at a time
abbrev pub kept : List ℕ → ℕ → ScopeState → Knows
kept written at state.Unknown = Unknown
kept written at state.Shut = KnownShut
kept written at (state.Aimed r off disp) = cond (nat_le (slice_index written r) at && offset_fresh written off at) (KnownAimed r off disp) Unknown

-- what holds of a scope
abbrev pub told_now : ℕ → List ℕ → Told → Knows
told_now since written t = cond (nat_le since t.at) (kept written t.at t.state) Unknown

-- nothing was told
abbrev pub never : Told
never = record { state = state.Unknown; at = 0 }

-- a register holds no NULL
abbrev pub shows_nonnull : Knowledge → ℕ → Bool
shows_nonnull n r = is_fresh n.since (slice_index n.written.items r) (slice_index n.nonnull.items r)

-- register d holds the offset of an element of the array in register r
abbrev pub shows_inside : Knowledge → ℕ → ℕ → Bool
shows_inside n d r = list_any (is_check n.since (slice_index n.written.items d) (slice_index n.written.items r) r) (slice_index_or (checks n.inside.items) d [])

-- the state of a scope
abbrev pub shows_scope : Knowledge → ℕ → Knows
shows_scope n s = told_now n.since n.written.items (slice_index_or n.scopes.items s never)

-- there is a place for each of so many registers and scopes, and all times have come
pub record IsReady (registers scopes : ℕ) (n : Knowledge) : Type 0 where
  pub since : n.since ≤ n.clock
  pub written : All (λ t. t ≤ n.clock) n.written.items
  pub nonnull : All (λ t. t ≤ n.clock) n.nonnull.items
  pub inside : All (All (λ (c : Check). c.at ≤ n.clock)) (checks n.inside.items)
  pub told : All (λ (t : Told). t.at ≤ n.clock) n.scopes.items
  pub written_all : length n.written.items ≡ registers
  pub nonnull_all : length n.nonnull.items ≡ registers
  pub inside_all : length n.inside.items ≡ registers
  pub scopes_all : length n.scopes.items ≡ scopes

-- and what is shown is what is known
pub record Shows (registers scopes : ℕ) (n : Knowledge) (k : Known) : Type 0 where
  pub ready : IsReady registers scopes n
  pub nonnull : (r : ℕ) → shows_nonnull n r ≡ is_nonnull k r
  pub inside : (d r : ℕ) → shows_inside n d r ≡ is_inside k d r
  pub scope : (s : ℕ) → shows_scope n s ≡ k.scope s

-- code that showed what was known shows it behind a step too, where there is a place for what the step changes
abbrev pub Follows : Knowledge → Knowledge → (ℕ → ℕ → Type 0) → (Known → Known) → Type 0
Follows n m HasPlaces step = (registers scopes : ℕ) (k : Known) → Shows registers scopes n k → HasPlaces registers scopes → Shows registers scopes m (step k)

-- an entry fact becomes known
abbrev pub learned : Fact → Known → Known
learned (fact.Nonnull r) k = with_nonnull r k
learned (fact.Inside d r) k = with_inside d r k
learned (fact.Aimed s r off disp) k = with_scope s (KnownAimed r off disp) k
learned (fact.Shut s) k = with_scope s KnownShut k

-- ---- what there has to be a place for

-- a number that is given is below another
abbrev pub OptionBelow : ℕ → Option ℕ → Type 0
OptionBelow n None = Unit {0}
OptionBelow n (Some d) = d < n

-- for what a simple instruction writes or checks
abbrev pub OperationHasPlace : ℕ → Operation → Type 0
OperationHasPlace registers (CheckNull r) = r < registers
OperationHasPlace registers o = OptionBelow registers (written_by o)

-- for what an instruction writes, checks, aims or shuts
abbrev pub HasPlace : (registers scopes : ℕ) → Instruction → Type 0
HasPlace registers scopes (Simple o) = OperationHasPlace registers o
HasPlace registers scopes (Aim s r off disp) = s < scopes
HasPlace registers scopes (Load d s) = d < registers
HasPlace registers scopes (Leave s) = s < scopes
HasPlace registers scopes (Call d g args) = OptionBelow registers d
HasPlace registers scopes _ = Unit {0}

-- for what an entry fact tells
abbrev pub FactHasPlace : (registers scopes : ℕ) → Fact → Type 0
FactHasPlace registers scopes (fact.Nonnull r) = r < registers
FactHasPlace registers scopes (fact.Inside d r) = d < registers
FactHasPlace registers scopes (fact.Aimed s r off disp) = s < scopes
FactHasPlace registers scopes (fact.Shut s) = s < scopes

-- ---- what code answers of what it shows

-- a test of what is known
abbrev pub TestsKnown : Knowledge → Bool → (Known → Bool) → Type 0
TestsKnown n result test = (registers scopes : ℕ) (k : Known) → Shows registers scopes n k → result ≡ test k

-- a fault by what is known
abbrev pub TellsKnown : {T : Type 0} → Knowledge → Result T VerifyFault → (Known → Option VerifyFault) → Type 0
TellsKnown n result fault = (registers scopes : ℕ) (k : Known) → Shows registers scopes n k → Tells result (fault k)

-- a fault of a function or a want of memory; where there is none, what code holds is ready for the next block
abbrev pub Goes : {T : Type 0} → Knowledge → Function → Result T VerifyFault → Option VerifyFault → Type 0
Goes n f result fault = Finds result fault × OnOk result (IsReady (length f.kinds) f.scopes n)
