-- Small trees, of which worked programs are made.
use Rattle.std.specs.Prelude.{ℕ, zero, suc, ◌+◌, true, List, [], ◌∷◌, ◌++◌, codes}
use Rattle.c0_source.specs.declared.kind.Base.TheVariants as b
use Rattle.c0_source.specs.declared.kind.Operator.TheVariants as o
use Rattle.c0_syntax.specs.declared.operator.PrefixOperator.TheVariants as q
use Rattle.c0_syntax.specs.declared.operator.Change.TheVariants as c
use Rattle.c0_syntax.specs.Trees.{ValueType, Basic, StructType, Expression, Number, Variable, Call, Unary, Binary, none, more, Spec, Declare, Initialize, Assign, Update, Step, Evaluate, Statement, Simple, Block, ReturnValue, Statements, nothing, also, TypedName, Header, Declaration, UseLibrary, DefineStruct, DeclareFunction, DefineFunction, Program}
use Rattle.c0_rules.specs.Types.{Name}

-- ---- names and types

-- the name x
abbrev pub x : Name
x = codes "x"

-- the name y
abbrev pub y : Name
y = codes "y"

-- the name f
abbrev pub f : Name
f = codes "f"

-- the name g
abbrev pub g : Name
g = codes "g"

-- the name s
abbrev pub s : Name
s = codes "s"

-- the name t
abbrev pub t : Name
t = codes "t"

-- the name main
abbrev pub main : Name
main = codes "main"

-- the name print
abbrev pub print : Name
print = codes "print"

-- the name flush
abbrev pub flush : Name
flush = codes "flush"

-- the type int
abbrev pub int : ValueType
int = Basic b.Int

-- the type bool
abbrev pub bool : ValueType
bool = Basic b.Bool

-- the type char
abbrev pub char : ValueType
char = Basic b.Char

-- the type string
abbrev pub string : ValueType
string = Basic b.String

-- the type void
abbrev pub void : ValueType
void = Basic b.Void

-- the type struct s
abbrev pub struct_s : ValueType
struct_s = StructType s

-- the type struct t
abbrev pub struct_t : ValueType
struct_t = StructType t

-- ---- expressions

-- a number
abbrev pub num : ℕ → Expression
num n = Number n

-- a variable
abbrev pub var : Name → Expression
var n = Variable n

-- a call without arguments
abbrev pub call0 : Name → Expression
call0 n = Call n none

-- a call with one argument
abbrev pub call1 : Name → Expression → Expression
call1 n a = Call n (more a none)

-- a call with two arguments
abbrev pub call2 : Name → Expression → Expression → Expression
call2 n a d = Call n (more a (more d none))

-- *a
abbrev pub star : Expression → Expression
star a = Unary q.Dereference a

-- a == d
abbrev pub equal : Expression → Expression → Expression
equal a d = Binary o.Equal a d

-- a < d
abbrev pub less : Expression → Expression → Expression
less a d = Binary o.Less a d

-- a + d
abbrev pub plus : Expression → Expression → Expression
plus a d = Binary o.Add a d

-- ---- statements

-- t n;
abbrev pub declare : ValueType → Name → Statement
declare u n = Simple (Declare u n)

-- t n = e;
abbrev pub initialize : ValueType → Name → Expression → Statement
initialize u n e = Simple (Initialize u n e)

-- d = e;
abbrev pub assign : Expression → Expression → Statement
assign d e = Simple (Assign d e)

-- d += e;
abbrev pub add_to : Expression → Expression → Statement
add_to d e = Simple (Update d o.Add e)

-- d++;
abbrev pub increment : Expression → Statement
increment d = Simple (Step d c.Increment)

-- e;
abbrev pub evaluate : Expression → Statement
evaluate e = Simple (Evaluate e)

-- statements in order
abbrev pub in_order : List Statement → Statements
in_order [] = nothing
in_order (a ∷ rest) = also a (in_order rest)

-- { .. }
abbrev pub block : List Statement → Statement
block rest = Block (in_order rest)

-- ---- declarations

-- one parameter or field
abbrev pub item : ValueType → Name → TypedName
item u n = record { value_type = u; name = n }

-- a function up to its body, with its specs in one annotation
abbrev pub header : ValueType → Name → List TypedName → List Spec → Header
header u n items specs = record { result = u; name = n; parameters = items; annotations = specs ∷ [] }

-- a function without specs
abbrev pub function : ValueType → Name → List TypedName → List Statement → Declaration
function u n items body = DefineFunction (header u n items []) (in_order body)

-- int f(int x) with these specs and statements
abbrev pub f_with : List Spec → List Statement → Declaration
f_with specs body = DefineFunction (header int f (item int x ∷ []) specs) (in_order body)

-- int f(int x) { return 1; }
abbrev pub an_f : Declaration
an_f = f_with [] (ReturnValue (num 1) ∷ [])

-- int f(int x);
abbrev pub f_declared : Declaration
f_declared = DeclareFunction (header int f (item int x ∷ []) [])

-- struct s { int x; };
abbrev pub s_defined : Declaration
s_defined = DefineStruct s (item int x ∷ [])

-- struct t { int x; };
abbrev pub t_defined : Declaration
t_defined = DefineStruct t (item int x ∷ [])

-- #use <conio>
abbrev pub use_conio : Declaration
use_conio = UseLibrary true (codes "conio")

-- int main() with these statements
abbrev pub main_with : List Statement → Declaration
main_with body = function int main [] body

-- int main() { return 0; }
abbrev pub a_main : Declaration
a_main = main_with (ReturnValue (num 0) ∷ [])

-- declarations, and then a main that does these statements and returns 0
abbrev pub then_main : List Declaration → List Statement → Program
then_main declarations body = declarations ++ main_with (body ++ ReturnValue (num 0) ∷ []) ∷ []

-- a main alone that does these statements and returns 0
abbrev pub only_main : List Statement → Program
only_main body = then_main [] body

-- ---- large structs

-- the struct number k: sa, sb and so on
abbrev pub large_name : ℕ → Name
large_name k = 115 ∷ (97 + k) ∷ []

-- struct sa { int x; int y; }; struct sb { struct sa x; struct sa y; }; and so on up to the one of 2^(k+1) cells
abbrev pub large_structs : ℕ → List Declaration
large_structs zero = DefineStruct (large_name 0) (item int x ∷ item int y ∷ []) ∷ []
large_structs (suc k) = large_structs k ++ DefineStruct (large_name (suc k)) (item (StructType (large_name k)) x ∷ item (StructType (large_name k)) y ∷ []) ∷ []

-- a struct of 4,096 cells
abbrev pub largest : ValueType
largest = StructType (large_name 11)
