-- The plain run over a context, in the words of the meaning.
use Rattle.std.specs.Prelude.{◌≡◌, ℕ, zero, suc, Bool, List, [], map, get_or, Option, Some, None, Result, IfOk}
use Rattle.std.specs.declared.vec.Vec.{Vec}
use Rattle.std.specs.declared.alloc.Global.{Global}
use Rattle.cells.specs.Stops.{Stop, stop_of}
use Rattle.cells.specs.declared.ending.Stop.{Stop as RustStop}
use Rattle.cells.specs.declared.ending.Want.{Want}
use Rattle.cells.specs.Outcomes as o
use Rattle.c0_typed.specs.Values as v
use Rattle.c0_typed.specs.Trees as t
use Rattle.c0_typed.specs.Meaning as m
use Rattle.c0_typed.specs.Views.{program_of, texts_of}
use Rattle.c0_values.specs.declared.value.Value.{Value}
use Rattle.c0_meaning.specs.declared.context.Context.{Context}
use Rattle.c0_values.specs.declared.plain_state.Halt.{Halt}
use Rattle.c0_meaning.specs.declared.run.Meant.{Meant}
use Rattle.c0_values.specs.PlainStates.{Agrees, Texts, value_of}

-- what a call of a function comes to
abbrev pub Calls : Type 0
Calls = ℕ → List v.Value → m.State → m.Outcome v.Value

-- The calls of a program, of which no more than d are under way at once, over what fresh memory of structs holds
abbrev pub calls_over : List v.Tree → Bool → t.Program → ℕ → Calls
calls_over structs checks p zero f args s = o.Cut s.output
calls_over structs checks p (suc d) f args s =
    m.turn s (m.in_function checks structs (calls_over structs checks p d) (get_or p.functions f m.no_function) args)

-- the texts of the program
abbrev pub texts_in : Context → Texts
texts_in c = texts_of c.program.now

-- what fresh memory of the program's structs holds
abbrev pub structs_in : Context → List v.Tree
structs_in c = m.struct_defaults [] (program_of c.program.now).structs

-- values in order
abbrev pub values_of : Texts → Vec Value Global → List v.Value
values_of texts vs = map (value_of texts) vs.items

-- how a program ended
abbrev pub ended_of : Option RustStop → Option Stop
ended_of None = None
ended_of (Some x) = Some (stop_of x)

-- what is told of it
abbrev pub meant_of : Meant → o.Meant
meant_of r = record { stop = ended_of r.stop; output = r.output.items }

-- what is told is what the meaning tells of the outcome with which the run agrees
abbrev pub Tells : Result Value Halt → List ℕ → Result Meant Want → Type 0
Tells came printed r = (texts : Texts) (outcome : m.Outcome v.Value) (u : m.State) → u.output ≡ printed → Agrees (value_of texts) came outcome u → IfOk r (λ x. meant_of x ≡ m.told outcome)
