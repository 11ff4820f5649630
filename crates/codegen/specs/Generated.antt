-- The image of scoped code. Code is taken from behind: `first` is the instructions that come in its place and in that of `next`, which follows it,
-- and `extra` are the blocks that it needs beside them, from number b on. `exits` are the ways out of the loops and blocks round it, the innermost first.
use Rattle.std.specs.Prelude.{ℕ, zero, suc, ◌+◌, Bool, true, false, cond, List, [], ◌∷◌, ◌++◌, map, Some, None}
use Rattle.code_form.specs.declared.form.Fact.{Fact}
use Rattle.code_form.specs.declared.form.Fact.TheVariants as fact
use Rattle.code_form.specs.Known.{Knows, Unknown, KnownShut, KnownAimed}
use Rattle.code_form.specs.Form.{Instruction, Simple, Aim, Load, Store, Leave, Call, Jump, Branch, Return, ReturnVoid, Error, Image}
use Rattle.code_form.specs.Form as image
use Rattle.middle_form.specs.Scoped.{Code, Nothing, Do, LoadBy, StoreBy, Loose, Fail, Then, Choose, Loop, Block, Exit, Function, Program, plain}
use Rattle.middle_form.specs.Scoped as scoped
use Rattle.middle_form.specs.Discipline.{Table, after, at_entry, join}
use Rattle.middle_form.specs.Guarded.{asked_inside, asks}

-- how many blocks code needs beside its first instructions
abbrev pub count : Code → ℕ
count Nothing = 0
count (Do o) = 0
count (scoped.Load to s r off disp) = 0
count (scoped.Store s r off disp from) = 0
count (LoadBy to s r off disp) = 0
count (StoreBy s r off disp from) = 0
count (scoped.Aim s r off disp) = 0
count (scoped.Leave s) = 0
count (Loose s) = 0
count (scoped.Call to f args) = 0
count (Fail a) = 0
count (Then a c) = count c + count a
count (Choose r a c) = suc (count a + suc (count c + 1))
count (Loop test r body) = suc (suc (count body + suc (count test)))
count (Block a) = suc (count a)
count (Exit k) = 0

-- instructions that are one jump or one return
abbrev pub is_passed : List Instruction → Bool
is_passed (Jump k ∷ []) = true
is_passed (Return a ∷ []) = true
is_passed (ReturnVoid ∷ []) = true
is_passed _ = false

-- how to go on at block b, in which these instructions stand: one jump or one return stands for itself
abbrev pub onward : ℕ → List Instruction → List Instruction
onward b is = cond (is_passed is) is (Jump b ∷ [])

-- where a branch leads that would lead to block b, in which these instructions stand: where they are one jump, to where that goes
abbrev pub target : ℕ → List Instruction → ℕ
target b (Jump k ∷ []) = k
target b _ = b

-- the way out by exit k; to the first block where nothing is round it
abbrev pub exit_from : List (List Instruction) → ℕ → List Instruction
exit_from [] k = Jump 0 ∷ []
exit_from (x ∷ exits) zero = x
exit_from (x ∷ exits) (suc k) = exit_from exits k

-- The instructions in place of code and of what follows it. A load or a store that aims its scope itself has an aim in front
abbrev pub first : Code → ℕ → List Instruction → List (List Instruction) → List Instruction
first Nothing b next exits = next
first (Do o) b next exits = Simple o ∷ next
first (scoped.Load to s r off disp) b next exits = Aim s r off disp ∷ Load to s ∷ next
first (scoped.Store s r off disp from) b next exits = Aim s r off disp ∷ Store s from ∷ next
first (LoadBy to s r off disp) b next exits = Load to s ∷ next
first (StoreBy s r off disp from) b next exits = Store s from ∷ next
first (scoped.Aim s r off disp) b next exits = Aim s r off disp ∷ next
first (scoped.Leave s) b next exits = Leave s ∷ next
first (Loose s) b next exits = next
first (scoped.Call to f args) b next exits = Call to f args ∷ next
first (Fail a) b next exits = Error a ∷ []
first (Then a c) b next exits = first a (b + count c) (first c b next exits) exits
first (Choose r a c) b next exits =
    Branch r (target (suc b + count a) (first a (suc b) (onward b next) exits)) (target (suc (suc b + count a) + count c) (first c (suc (suc b + count a)) (onward b next) exits)) ∷ []
first (Loop test r body) b next exits = Jump b ∷ []
first (Block a) b next exits = first a (suc b) (onward b next) (onward b next ∷ exits)
first (Exit k) b next exits = exit_from exits k

-- behind the test of a loop: a branch to its body or to what follows
abbrev pub tested : ℕ → Code → ℕ → List Instruction → List (List Instruction) → List Instruction
tested r body b next exits =
    Branch r (target (suc (suc b) + count body) (first body (suc (suc b)) (Jump b ∷ []) (onward (suc b) next ∷ exits))) (target (suc b) next) ∷ []

-- The blocks that code needs beside them. Of a choice: what follows, and each side behind its own blocks. Of a loop: the test, which is where the
-- loop begins and where each turn of its body goes back to, what follows, and the body
abbrev pub extra : Code → ℕ → List Instruction → List (List Instruction) → List (List Instruction)
extra Nothing b next exits = []
extra (Do o) b next exits = []
extra (scoped.Load to s r off disp) b next exits = []
extra (scoped.Store s r off disp from) b next exits = []
extra (LoadBy to s r off disp) b next exits = []
extra (StoreBy s r off disp from) b next exits = []
extra (scoped.Aim s r off disp) b next exits = []
extra (scoped.Leave s) b next exits = []
extra (Loose s) b next exits = []
extra (scoped.Call to f args) b next exits = []
extra (Fail a) b next exits = []
extra (Then a c) b next exits = extra c b next exits ++ extra a (b + count c) (first c b next exits) exits
extra (Choose r a c) b next exits =
    next
    ∷ (extra a (suc b) (onward b next) exits
    ++ (first a (suc b) (onward b next) exits
    ∷ (extra c (suc (suc b + count a)) (onward b next) exits
    ++ first c (suc (suc b + count a)) (onward b next) exits ∷ [])))
extra (Loop test r body) b next exits =
    first test (suc (suc (suc b) + count body)) (tested r body b next exits) (onward (suc b) next ∷ exits)
    ∷ next
    ∷ (extra body (suc (suc b)) (Jump b ∷ []) (onward (suc b) next ∷ exits)
    ++ (first body (suc (suc b)) (Jump b ∷ []) (onward (suc b) next ∷ exits)
    ∷ extra test (suc (suc (suc b) + count body)) (tested r body b next exits) (onward (suc b) next ∷ exits)))
extra (Block a) b next exits = next ∷ extra a (suc b) (onward b next) (onward b next ∷ exits)
extra (Exit k) b next exits = []

-- the last instruction of a function: it returns with its result, where it has one
abbrev pub last : Function → List Instruction
last g = elim g.result [ None ↦ ReturnVoid ∷ [] | Some k ↦ Return g.value ∷ [] ]

-- all blocks of a function; its code is in no loop and no block
abbrev pub blocks : Function → List (List Instruction)
blocks g = first g.body 1 (last g) [] ∷ extra g.body 1 (last g) []

-- ---- entry facts

-- What is known of the scopes at the entry of each of the blocks that code needs beside its first instructions, in their order. What follows code,
-- and the test of a loop, is where ways join
abbrev pub known_inside : Code → Table → List Table
known_inside Nothing k = []
known_inside (Do o) k = []
known_inside (scoped.Load to s r off disp) k = []
known_inside (scoped.Store s r off disp from) k = []
known_inside (LoadBy to s r off disp) k = []
known_inside (StoreBy s r off disp from) k = []
known_inside (scoped.Aim s r off disp) k = []
known_inside (scoped.Leave s) k = []
known_inside (Loose s) k = []
known_inside (scoped.Call to f args) k = []
known_inside (Fail a) k = []
known_inside (Then a c) k = known_inside c (after a k) ++ known_inside a k
known_inside (Choose r a c) k = join (Choose r a c) k ∷ (known_inside a k ++ (k ∷ (known_inside c k ++ k ∷ [])))
known_inside (Loop test r body) k =
    join (Loop test r body) k
    ∷ join (Loop test r body) k
    ∷ (known_inside body (after test (join (Loop test r body) k)) ++ (after test (join (Loop test r body) k) ∷ known_inside test (join (Loop test r body) k)))
known_inside (Block a) k = join (Block a) k ∷ known_inside a k
known_inside (Exit j) k = []

-- what is known at the entry of each block of a function
abbrev pub known_of : Function → List Table
known_of g = at_entry ∷ known_inside g.body at_entry

-- which checks are asked at the entry of each block of a function
abbrev pub asked_of : Function → List (List Fact)
asked_of g = asks (plain g.body) [] ∷ asked_inside (plain g.body) []

-- what is known of scope s, as facts
abbrev pub scope_fact : ℕ → Knows → List Fact
scope_fact s Unknown = []
scope_fact s KnownShut = fact.Shut s ∷ []
scope_fact s (KnownAimed r off disp) = fact.Aimed s r off disp ∷ []

-- so of so many scopes
abbrev pub listed : ℕ → Table → List Fact
listed zero k = []
listed (suc n) k = scope_fact n (k n) ++ listed n k

-- the entry facts of blocks: what is known of so many scopes, and the checks that are asked
abbrev pub entry_facts : ℕ → List Table → List (List Fact) → List (List Fact)
entry_facts n [] ws = []
entry_facts n (k ∷ ks) [] = []
entry_facts n (k ∷ ks) (w ∷ ws) = (listed n k ++ w) ∷ entry_facts n ks ws

-- the entry facts of each block of a function
abbrev pub facts_of : Function → List (List Fact)
facts_of g = entry_facts g.scopes (known_of g) (asked_of g)

-- ---- functions and programs

-- a block with these facts at its entry
abbrev pub block_with : List Fact → List Instruction → image.Block
block_with w is = record { facts = w; code = is }

-- so of some blocks
abbrev pub blocks_with : List (List Fact) → List (List Instruction) → List image.Block
blocks_with ws [] = []
blocks_with [] (is ∷ bs) = block_with [] is ∷ blocks_with [] bs
blocks_with (w ∷ ws) (is ∷ bs) = block_with w is ∷ blocks_with ws bs

-- a function
abbrev pub function_of : Function → image.Function
function_of g = record {
  result = g.result;
  parameters = g.parameters;
  kinds = g.kinds;
  scopes = g.scopes;
  blocks = blocks_with (facts_of g) (blocks g);
}

-- a program, for pieces of so many cells
abbrev pub generated : ℕ → Program → Image
generated cells P = record { piece = cells; head = P.head; functions = map function_of P.functions }
