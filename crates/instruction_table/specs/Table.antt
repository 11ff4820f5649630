-- The table of the instructions: their codes, words and operands, and the instruction that a name and values of its operands make.
use Rattle.std.specs.Prelude.{ℕ, ℤ, ◌==◌, Bool, List, [], ◌∷◌, Option, Some, None, codes, if◌then◌else◌}
use Rattle.cells.specs.declared.int32.Int32Op.{Int32Op}
use Rattle.cells.specs.declared.int32.Int32Op.TheVariants as b
use Rattle.code_form.specs.declared.form.UnaryOperator.{UnaryOperator}
use Rattle.code_form.specs.declared.form.UnaryOperator.TheVariants as u
use Rattle.code_form.specs.declared.form.Relation.{Relation}
use Rattle.code_form.specs.declared.form.Relation.TheVariants as r
use Rattle.code_form.specs.declared.form.Operation.TheVariants as p
use Rattle.code_form.specs.Form as form
use Rattle.code_form.specs.Form.{Instruction}
use Rattle.instruction_table.specs.declared.name.Name.{Name}
use Rattle.instruction_table.specs.declared.name.Name.TheVariants as n
use Rattle.instruction_table.specs.declared.name.TheConstants.{NAMES}
use Rattle.instruction_table.specs.declared.operand.Operand.{Operand}
use Rattle.instruction_table.specs.declared.operand.Operand.TheVariants.{Register, OptionalRegister, Scope, Block, Function, Layout, TextNumber, Number, Integer, Truth, Character, Registers}

-- the codes of the operators on two numbers
abbrev pub arithmetic_code : Int32Op → ℕ
arithmetic_code b.Add = 16
arithmetic_code b.Sub = 17
arithmetic_code b.Mul = 18
arithmetic_code b.Div = 19
arithmetic_code b.Mod = 20
arithmetic_code b.And = 21
arithmetic_code b.Or = 22
arithmetic_code b.Xor = 23
arithmetic_code b.Shl = 24
arithmetic_code b.Shr = 25

-- ... of those on one value
abbrev pub unary_code : UnaryOperator → ℕ
unary_code u.Negate = 26
unary_code u.Complement = 27
unary_code u.Not = 28

-- ... and of the comparisons
abbrev pub relation_code : Relation → ℕ
relation_code r.Equal = 32
relation_code r.NotEqual = 33
relation_code r.Less = 34
relation_code r.LessOrEqual = 35
relation_code r.Greater = 36
relation_code r.GreaterOrEqual = 37

-- the code of an instruction: the byte that stands for its name
abbrev pub code_of : Name → ℕ
code_of n.Const = 1
code_of n.TextOf = 2
code_of n.BoolOf = 3
code_of n.CharOf = 4
code_of n.Null = 5
code_of n.Move = 6
code_of (n.Binary o) = arithmetic_code o
code_of (n.Unary o) = unary_code o
code_of (n.Compare o) = relation_code o
code_of n.CheckNull = 48
code_of n.CheckIndex = 49
code_of n.Len = 50
code_of n.Aim = 51
code_of n.Load = 52
code_of n.Store = 53
code_of n.Leave = 54
code_of n.Prefetch = 55
code_of n.Alloc = 64
code_of n.AllocArray = 65
code_of n.Call = 80
code_of n.Print = 81
code_of n.Println = 82
code_of n.Printint = 83
code_of n.Printbool = 84
code_of n.Printchar = 85
code_of n.Flush = 86
code_of n.Assert = 87
code_of n.Jump = 96
code_of n.Branch = 97
code_of n.Return = 98
code_of n.ReturnVoid = 99
code_of n.Error = 100

-- the first of these names that has this code
abbrev pub name_among : List Name → ℕ → Option Name
name_among [] code = None
name_among (name ∷ names) code = if code_of name == code then Some name else name_among names code

-- the name with this code
abbrev pub name_with : ℕ → Option Name
name_with code = name_among NAMES code

-- the words of the operators on two numbers
abbrev pub arithmetic_word : Int32Op → List ℕ
arithmetic_word b.Add = codes "add"
arithmetic_word b.Sub = codes "sub"
arithmetic_word b.Mul = codes "mul"
arithmetic_word b.Div = codes "div"
arithmetic_word b.Mod = codes "mod"
arithmetic_word b.And = codes "and"
arithmetic_word b.Or = codes "or"
arithmetic_word b.Xor = codes "xor"
arithmetic_word b.Shl = codes "shl"
arithmetic_word b.Shr = codes "shr"

-- ... of those on one value
abbrev pub unary_word : UnaryOperator → List ℕ
unary_word u.Negate = codes "neg"
unary_word u.Complement = codes "not"
unary_word u.Not = codes "lnot"

-- ... and of the comparisons
abbrev pub relation_word : Relation → List ℕ
relation_word r.Equal = codes "eq"
relation_word r.NotEqual = codes "ne"
relation_word r.Less = codes "lt"
relation_word r.LessOrEqual = codes "le"
relation_word r.Greater = codes "gt"
relation_word r.GreaterOrEqual = codes "ge"

-- the word of an instruction: what a listing calls it
abbrev pub word_of : Name → List ℕ
word_of n.Const = codes "const"
word_of n.TextOf = codes "text"
word_of n.BoolOf = codes "bool"
word_of n.CharOf = codes "char"
word_of n.Null = codes "null"
word_of n.Move = codes "move"
word_of (n.Binary o) = arithmetic_word o
word_of (n.Unary o) = unary_word o
word_of (n.Compare o) = relation_word o
word_of n.CheckNull = codes "chk_null"
word_of n.CheckIndex = codes "chk_index"
word_of n.Len = codes "len"
word_of n.Aim = codes "aim"
word_of n.Load = codes "ld"
word_of n.Store = codes "st"
word_of n.Leave = codes "leave"
word_of n.Prefetch = codes "prefetch"
word_of n.Alloc = codes "alloc"
word_of n.AllocArray = codes "alloc_array"
word_of n.Call = codes "call"
word_of n.Print = codes "print"
word_of n.Println = codes "println"
word_of n.Printint = codes "printint"
word_of n.Printbool = codes "printbool"
word_of n.Printchar = codes "printchar"
word_of n.Flush = codes "flush"
word_of n.Assert = codes "assert"
word_of n.Jump = codes "jump"
word_of n.Branch = codes "branch"
word_of n.Return = codes "ret"
word_of n.ReturnVoid = codes "retv"
word_of n.Error = codes "error"

-- the kinds of an instruction's operands, in the order in which they are written
abbrev pub cases_of : Name → List Operand
cases_of n.Const = Register ∷ Integer ∷ []
cases_of n.TextOf = Register ∷ TextNumber ∷ []
cases_of n.BoolOf = Register ∷ Truth ∷ []
cases_of n.CharOf = Register ∷ Character ∷ []
cases_of n.Null = Register ∷ []
cases_of n.Move = Register ∷ Register ∷ []
cases_of (n.Binary o) = Register ∷ Register ∷ Register ∷ []
cases_of (n.Unary o) = Register ∷ Register ∷ []
cases_of (n.Compare o) = Register ∷ Register ∷ Register ∷ []
cases_of n.CheckNull = Register ∷ []
cases_of n.CheckIndex = Register ∷ Register ∷ Register ∷ Number ∷ []
cases_of n.Len = Register ∷ Register ∷ []
cases_of n.Aim = Scope ∷ Register ∷ OptionalRegister ∷ Number ∷ []
cases_of n.Load = Register ∷ Scope ∷ []
cases_of n.Store = Scope ∷ Register ∷ []
cases_of n.Leave = Scope ∷ []
cases_of n.Prefetch = Register ∷ OptionalRegister ∷ Number ∷ []
cases_of n.Alloc = Register ∷ Layout ∷ []
cases_of n.AllocArray = Register ∷ Layout ∷ Register ∷ []
cases_of n.Call = OptionalRegister ∷ Function ∷ Registers ∷ []
cases_of n.Print = Register ∷ []
cases_of n.Println = Register ∷ []
cases_of n.Printint = Register ∷ []
cases_of n.Printbool = Register ∷ []
cases_of n.Printchar = Register ∷ []
cases_of n.Flush = []
cases_of n.Assert = Register ∷ []
cases_of n.Jump = Block ∷ []
cases_of n.Branch = Register ∷ Block ∷ Block ∷ []
cases_of n.Return = Register ∷ []
cases_of n.ReturnVoid = []
cases_of n.Error = Register ∷ []

-- what an operand of this kind is
abbrev pub Value : Operand → Type 0
Value Register = ℕ
Value OptionalRegister = Option ℕ
Value Scope = ℕ
Value Block = ℕ
Value Function = ℕ
Value Layout = ℕ
Value TextNumber = ℕ
Value Number = ℕ
Value Integer = ℤ
Value Truth = Bool
Value Character = ℕ
Value Registers = List ℕ

-- operands of these kinds
abbrev pub Values : List Operand → Type 0
Values [] = Unit {0}
Values (c ∷ cs) = Value c × Values cs

-- the instruction with this name and these operands
abbrev pub made : (name : Name) → Values (cases_of name) → Instruction
made n.Const v = form.Simple (p.Const v.0 v.1.0)
made n.TextOf v = form.Simple (p.TextOf v.0 v.1.0)
made n.BoolOf v = form.Simple (p.BoolOf v.0 v.1.0)
made n.CharOf v = form.Simple (p.CharOf v.0 v.1.0)
made n.Null v = form.Simple (p.Null v.0)
made n.Move v = form.Simple (p.Move v.0 v.1.0)
made (n.Binary o) v = form.Simple (p.Binary o v.0 v.1.0 v.1.1.0)
made (n.Unary o) v = form.Simple (p.Unary o v.0 v.1.0)
made (n.Compare o) v = form.Simple (p.Compare o v.0 v.1.0 v.1.1.0)
made n.CheckNull v = form.Simple (p.CheckNull v.0)
made n.CheckIndex v = form.Simple (p.CheckIndex v.0 v.1.0 v.1.1.0 v.1.1.1.0)
made n.Len v = form.Simple (p.Len v.0 v.1.0)
made n.Aim v = form.Aim v.0 v.1.0 v.1.1.0 v.1.1.1.0
made n.Load v = form.Load v.0 v.1.0
made n.Store v = form.Store v.0 v.1.0
made n.Leave v = form.Leave v.0
made n.Prefetch v = form.Simple (p.Prefetch v.0 v.1.0 v.1.1.0)
made n.Alloc v = form.Simple (p.Alloc v.0 v.1.0)
made n.AllocArray v = form.Simple (p.AllocArray v.0 v.1.0 v.1.1.0)
made n.Call v = form.Call v.0 v.1.0 v.1.1.0
made n.Print v = form.Simple (p.Print v.0)
made n.Println v = form.Simple (p.Println v.0)
made n.Printint v = form.Simple (p.Printint v.0)
made n.Printbool v = form.Simple (p.Printbool v.0)
made n.Printchar v = form.Simple (p.Printchar v.0)
made n.Flush v = form.Simple p.Flush
made n.Assert v = form.Simple (p.Assert v.0)
made n.Jump v = form.Jump v.0
made n.Branch v = form.Branch v.0 v.1.0 v.1.1.0
made n.Return v = form.Return v.0
made n.ReturnVoid v = form.ReturnVoid
made n.Error v = form.Error v.0

-- the name of an instruction, and its operands
abbrev pub coded : Instruction → (name : Name) × Values (cases_of name)
coded (form.Simple (p.Const d z)) = (n.Const, (d, (z, tt)))
coded (form.Simple (p.TextOf d k)) = (n.TextOf, (d, (k, tt)))
coded (form.Simple (p.BoolOf d t)) = (n.BoolOf, (d, (t, tt)))
coded (form.Simple (p.CharOf d c)) = (n.CharOf, (d, (c, tt)))
coded (form.Simple (p.Null d)) = (n.Null, (d, tt))
coded (form.Simple (p.Move d a)) = (n.Move, (d, (a, tt)))
coded (form.Simple (p.Binary o d a c)) = (n.Binary o, (d, (a, (c, tt))))
coded (form.Simple (p.Unary o d a)) = (n.Unary o, (d, (a, tt)))
coded (form.Simple (p.Compare o d a c)) = (n.Compare o, (d, (a, (c, tt))))
coded (form.Simple (p.CheckNull a)) = (n.CheckNull, (a, tt))
coded (form.Simple (p.CheckIndex d a i size)) = (n.CheckIndex, (d, (a, (i, (size, tt)))))
coded (form.Simple (p.Len d a)) = (n.Len, (d, (a, tt)))
coded (form.Simple (p.Prefetch a off disp)) = (n.Prefetch, (a, (off, (disp, tt))))
coded (form.Simple (p.Alloc d l)) = (n.Alloc, (d, (l, tt)))
coded (form.Simple (p.AllocArray d l a)) = (n.AllocArray, (d, (l, (a, tt))))
coded (form.Simple (p.Print a)) = (n.Print, (a, tt))
coded (form.Simple (p.Println a)) = (n.Println, (a, tt))
coded (form.Simple (p.Printint a)) = (n.Printint, (a, tt))
coded (form.Simple (p.Printbool a)) = (n.Printbool, (a, tt))
coded (form.Simple (p.Printchar a)) = (n.Printchar, (a, tt))
coded (form.Simple p.Flush) = (n.Flush, tt)
coded (form.Simple (p.Assert a)) = (n.Assert, (a, tt))
coded (form.Aim s a off disp) = (n.Aim, (s, (a, (off, (disp, tt)))))
coded (form.Load d s) = (n.Load, (d, (s, tt)))
coded (form.Store s a) = (n.Store, (s, (a, tt)))
coded (form.Leave s) = (n.Leave, (s, tt))
coded (form.Call d f args) = (n.Call, (d, (f, (args, tt))))
coded (form.Jump k) = (n.Jump, (k, tt))
coded (form.Branch a k l) = (n.Branch, (a, (k, (l, tt))))
coded (form.Return a) = (n.Return, (a, tt))
coded form.ReturnVoid = (n.ReturnVoid, tt)
coded (form.Error a) = (n.Error, (a, tt))
