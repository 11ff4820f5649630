-- Which registers a loop only raises, and which offsets are those of elements at such an index. A loop raises a register where each of its assignments
-- there adds a constant above 0 to it. Where a register is assigned in a loop, that loop decides, and else the loops round it do.
use Rattle.std.specs.Prelude.{ℕ, ◌==◌, ◌&&◌, ◌||◌, pos, int_lt, Bool, false, cond, Option, Some, None, List, [], ◌∷◌, ◌++◌}
use Rattle.std.specs.List.{filter, list_all}
use Rattle.cells.specs.declared.int32.Int32Op.TheVariants.{Add}
use Rattle.code_form.specs.declared.form.Operation.{Operation}
use Rattle.code_form.specs.declared.form.Operation.TheVariants.{Binary, CheckIndex, Const, Move}
use Rattle.code_form.specs.Code.{is_register}
use Rattle.code_form.specs.Known.{written_by}
use Rattle.middle_form.specs.Scoped.{Code, Do, Load, LoadBy, Call, Then, Choose, Loop, Block}

-- register r is one of these
abbrev pub is_among : List ℕ → ℕ → Bool
is_among [] r = false
is_among (q ∷ qs) r = (r == q) || is_among qs r

-- ---- how code assigns a register

-- one more assignment, where it is so: by a simple instruction, or by a load or a call
abbrev pub noted_where : Bool → Option Operation → List (Option Operation) → List (Option Operation)
noted_where b c cs = cond b (cs ++ c ∷ []) cs

-- the assignments of register r in code too
abbrev pub changes_with : ℕ → Code → List (Option Operation) → List (Option Operation)
changes_with r (Do o) cs = noted_where (is_register r (written_by o)) (Some o) cs
changes_with r (Load to s q off disp) cs = noted_where (r == to) None cs
changes_with r (LoadBy to s q off disp) cs = noted_where (r == to) None cs
changes_with r (Call to f args) cs = noted_where (is_register r to) None cs
changes_with r (Then a b) cs = changes_with r b (changes_with r a cs)
changes_with r (Choose c a b) cs = changes_with r b (changes_with r a cs)
changes_with r (Loop test c body) cs = changes_with r body (changes_with r test cs)
changes_with r (Block a) cs = changes_with r a cs
changes_with r _ cs = cs

-- those in a loop of this test and body
abbrev pub changes_of : ℕ → (test body : Code) → List (Option Operation)
changes_of r test body = changes_with r body (changes_with r test [])

-- ---- registers that are only raised

-- a register gets a constant above 0
abbrev pub is_positive : Option Operation → Bool
is_positive (Some (Const d z)) = int_lt (pos 0) z
is_positive _ = false

-- there are some, and each is so
abbrev pub is_each : (Option Operation → Bool) → List (Option Operation) → Bool
is_each p [] = false
is_each p (c ∷ cs) = list_all p (c ∷ cs)

-- Over a loop of this test and body
module _ (test body : Code) where
  -- register c has constants above 0 alone
  abbrev pub is_step : ℕ → Bool
  is_step c = is_each is_positive (changes_of c test body)

  -- a register gets the sum of r and such a register
  abbrev pub is_sum : ℕ → Option Operation → Bool
  is_sum r (Some (Binary Add d a b)) = (a == r) && is_step b
  is_sum r _ = false

  -- register r, which is assigned, is raised: it gets such a sum, or what a register holds that has such sums alone
  abbrev pub is_raise : ℕ → Option Operation → Bool
  is_raise r (Some (Move d t)) = is_each (is_sum r) (changes_of t test body)
  is_raise r c = is_sum r c

  -- with these assignments in the loop, register r is only raised, where these are round it
  abbrev pub is_raised_by : List ℕ → ℕ → List (Option Operation) → Bool
  is_raised_by rs r [] = is_among rs r
  is_raised_by rs r (c ∷ cs) = list_all (is_raise r) (c ∷ cs)

  -- so it is with those that the loop has
  abbrev pub is_raised : List ℕ → ℕ → Bool
  is_raised rs r = is_raised_by rs r (changes_of r test body)

-- ---- the registers that a loop may raise

-- the register to which an instruction adds another, beside these
abbrev pub with_summand : Operation → List ℕ → List ℕ
with_summand (Binary Add d a b) rs = cond (is_among rs a) rs (rs ++ a ∷ [])
with_summand _ rs = rs

-- those of code
abbrev pub summands_with : Code → List ℕ → List ℕ
summands_with (Do o) rs = with_summand o rs
summands_with (Then a b) rs = summands_with b (summands_with a rs)
summands_with (Choose c a b) rs = summands_with b (summands_with a rs)
summands_with (Loop test c body) rs = summands_with body (summands_with test rs)
summands_with (Block a) rs = summands_with a rs
summands_with _ rs = rs

-- the registers that are only raised in a loop, where these are round it
abbrev pub raised_in : List ℕ → (test body : Code) → List ℕ
raised_in rs test body = filter (is_raised test body rs) (summands_with body (summands_with test rs))

-- ---- offsets

-- the register of an offset at one of these indices, beside these offsets
abbrev pub with_offset : List ℕ → Operation → List ℕ → List ℕ
with_offset rs (CheckIndex d r i size) ds = cond (is_among rs i) (ds ++ d ∷ []) ds
with_offset rs _ ds = ds

-- those of code where these registers are only raised
abbrev pub offsets_with : Code → (raised : List ℕ) → List ℕ → List ℕ
offsets_with (Do o) rs ds = with_offset rs o ds
offsets_with (Then a b) rs ds = offsets_with b rs (offsets_with a rs ds)
offsets_with (Choose c a b) rs ds = offsets_with b rs (offsets_with a rs ds)
offsets_with (Loop test c body) rs ds = offsets_with body (raised_in rs test body) (offsets_with test (raised_in rs test body) ds)
offsets_with (Block a) rs ds = offsets_with a rs ds
offsets_with _ rs ds = ds
