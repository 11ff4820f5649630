-- For each fault, programs that are refused for it, and beside each one that differs little and is accepted.
use Rattle.std.specs.Prelude.{◌≡◌, ℕ, ◌==◌, nat_le, Bool, true, false, List, [], ◌∷◌, ◌++◌, map, length, replicate, Some, None, codes, count_by, is_some}
use Rattle.std.specs.List.{list_all}
use Rattle.c0_source.specs.declared.kind.Clause.TheVariants as k
use Rattle.c0_source.specs.declared.kind.Operator.TheVariants as o
use Rattle.c0_syntax.specs.declared.operator.Change.TheVariants as c
use Rattle.c0_syntax.specs.Trees.{NamedType, Pointer, Array, Character, Truth, Null, Text, Parenthesized, Alloc, AllocArray, Result, Length, Index, Field, PointerField, Conditional, Contract, Asserts, Declare, Initialize, Step, Update, Simple, Annotation, Return, ReturnValue, If, IfElse, While, For, Assert, Error, Break, Continue, UseLibrary, DeclareStruct, DefineStruct, Typedef, DeclareFunction, DefineFunction, Program}
use Rattle.c0_rules.specs.Programs.{typed_program}
use Rattle.c0_rules.specs.WorkedTrees.{x, y, f, g, s, t, main, print, flush, int, bool, void, struct_s, struct_t, num, var, call0, call1, call2, star, equal, less, plus, declare, initialize, assign, add_to, increment, evaluate, in_order, block, item, header, function, f_with, an_f, f_declared, s_defined, t_defined, use_conio, main_with, a_main, then_main, only_main, large_structs, largest}

-- a program that is refused, by the number of its fault, and one that is accepted
pub record Pair : Type 0 where
  pub number : ℕ
  pub refused : Program
  pub accepted : Program

-- a pair
abbrev pub pair : ℕ → Program → Program → Pair
pair n refused accepted = record { number = n; refused = refused; accepted = accepted }

-- structs of more than 4,096 cells, and of 4,096; an array is one cell
abbrev pub too_large : List Pair
too_large =
    pair 22 (large_structs 11 ++ DefineStruct t (item largest x ∷ item int y ∷ []) ∷ a_main ∷ []) (large_structs 11 ++ DefineStruct t (item largest x ∷ []) ∷ a_main ∷ [])
    ∷ pair 22 (large_structs 12 ++ a_main ∷ []) (large_structs 11 ++ a_main ∷ [])
    ∷ pair 22 (large_structs 11 ++ DefineStruct t (item largest x ∷ item (Array largest) y ∷ []) ∷ a_main ∷ []) (large_structs 11 ++ DefineStruct t (item (Array largest) x ∷ item (Array largest) y ∷ []) ∷ a_main ∷ [])
    ∷ []

-- names that are not declared before their use
abbrev pub unknown_name : List Pair
unknown_name =
    -- x;   and   int x = 1; x;
    pair 30 (only_main (evaluate (var x) ∷ [])) (only_main (initialize int x (num 1) ∷ evaluate (var x) ∷ []))
    -- f(1);   without and with f declared before
    ∷ pair 30 (only_main (evaluate (call1 f (num 1)) ∷ [])) (then_main (an_f ∷ []) (evaluate (call1 f (num 1)) ∷ []))
    -- f defined behind its call, and declared before it, too
    ∷ pair 30 (only_main (evaluate (call1 f (num 1)) ∷ []) ++ an_f ∷ []) (then_main (f_declared ∷ []) (evaluate (call1 f (num 1)) ∷ []) ++ an_f ∷ [])
    -- int x = x;   and   int x = 1;
    ∷ pair 30 (only_main (initialize int x (var x) ∷ [])) (only_main (initialize int x (num 1) ∷ []))
    -- { int x = 1; } x = 2;   and   int x = 1; x = 2;
    ∷ pair 30 (only_main (block (initialize int x (num 1) ∷ []) ∷ assign (var x) (num 2) ∷ [])) (only_main (initialize int x (num 1) ∷ assign (var x) (num 2) ∷ []))
    -- if (true) int x = 1; x = 2;   and a block between
    ∷ pair 30 (only_main (If (Truth true) (initialize int x (num 1)) ∷ assign (var x) (num 2) ∷ [])) (only_main (If (Truth true) (initialize int x (num 1)) ∷ initialize int x (num 2) ∷ []))
    -- print("");   without and with #use <conio>
    ∷ pair 30 (only_main (evaluate (call1 print (Text [])) ∷ [])) (then_main (use_conio ∷ []) (evaluate (call1 print (Text [])) ∷ []))
    -- a function calls itself: its name is in scope from its header on
    ∷ pair 30 (f_with [] (ReturnValue (call1 g (var x)) ∷ []) ∷ a_main ∷ []) (f_with [] (ReturnValue (call1 f (var x)) ∷ []) ∷ a_main ∷ [])
    ∷ []

-- fields that a struct doesn't have
abbrev pub unknown_field : List Pair
unknown_field =
    -- alloc(struct s)->y;   and   ->x
    pair 31 (then_main (s_defined ∷ []) (evaluate (PointerField (Alloc struct_s) y) ∷ [])) (then_main (s_defined ∷ []) (evaluate (PointerField (Alloc struct_s) x) ∷ []))
    -- (*alloc(struct s)).y;   and   .x
    ∷ pair 31 (then_main (s_defined ∷ []) (evaluate (Field (Parenthesized (star (Alloc struct_s))) y) ∷ [])) (then_main (s_defined ∷ []) (evaluate (Field (Parenthesized (star (Alloc struct_s))) x) ∷ []))
    ∷ []

-- names that are given twice
abbrev pub duplicate_name : List Pair
duplicate_name =
    -- f defined twice; declared, defined, declared
    pair 32 (an_f ∷ an_f ∷ a_main ∷ []) (f_declared ∷ an_f ∷ f_declared ∷ a_main ∷ [])
    -- struct s defined twice; declared, defined, declared
    ∷ pair 32 (s_defined ∷ s_defined ∷ a_main ∷ []) (DeclareStruct s ∷ s_defined ∷ DeclareStruct s ∷ a_main ∷ [])
    -- struct s { int x; int x; };   and   { int x; int y; }
    ∷ pair 32 (DefineStruct s (item int x ∷ item int x ∷ []) ∷ a_main ∷ []) (DefineStruct s (item int x ∷ item int y ∷ []) ∷ a_main ∷ [])
    -- int f(int x, int x);   and   int f(int x, int y);
    ∷ pair 32 (DeclareFunction (header int f (item int x ∷ item int x ∷ []) []) ∷ a_main ∷ []) (DeclareFunction (header int f (item int x ∷ item int y ∷ []) []) ∷ a_main ∷ [])
    -- int x; int x;   and   { int x; } bool x;
    ∷ pair 32 (only_main (declare int x ∷ declare int x ∷ [])) (only_main (block (declare int x ∷ []) ∷ declare bool x ∷ []))
    -- int x; { int x; }   and   { int x; } { int x; }
    ∷ pair 32 (only_main (declare int x ∷ block (declare int x ∷ []) ∷ [])) (only_main (block (declare int x ∷ []) ∷ block (declare int x ∷ []) ∷ []))
    -- a local of the first part of `for`, in its body and behind it
    ∷ pair 32 (only_main (For (Some (Initialize int x (num 0))) (Truth true) None [] (declare int x) ∷ [])) (only_main (For (Some (Initialize int x (num 0))) (Truth true) None [] (declare int y) ∷ declare int x ∷ []))
    -- a local named as a function that is declared before, and behind
    ∷ pair 32 (then_main (an_f ∷ []) (declare int f ∷ [])) (only_main (declare int f ∷ []) ++ an_f ∷ [])
    -- a local named as an output call, with and without #use <conio>
    ∷ pair 32 (then_main (use_conio ∷ []) (declare int print ∷ [])) (only_main (declare int print ∷ []))
    -- a function named as an output call
    ∷ pair 32 (use_conio ∷ function int print [] (ReturnValue (num 1) ∷ []) ∷ a_main ∷ []) (function int print [] (ReturnValue (num 1) ∷ []) ∷ a_main ∷ [])
    -- a parameter named as a function that is declared before, of a definition and of a declaration
    ∷ pair 32 (an_f ∷ function int g (item int f ∷ []) (ReturnValue (num 1) ∷ []) ∷ a_main ∷ []) (an_f ∷ DeclareFunction (header int g (item int f ∷ []) []) ∷ a_main ∷ [])
    -- a parameter named as an output call in use
    ∷ pair 32 (use_conio ∷ function int g (item int print ∷ []) (ReturnValue (num 1) ∷ []) ∷ a_main ∷ []) (function int g (item int print ∷ []) (ReturnValue (num 1) ∷ []) ∷ a_main ∷ [])
    -- a parameter named as its function
    ∷ pair 32 (function int g (item int g ∷ []) (ReturnValue (num 1) ∷ []) ∷ a_main ∷ []) (function int g (item int f ∷ []) (ReturnValue (num 1) ∷ []) ∷ a_main ∷ [])
    -- a local named as a parameter
    ∷ pair 32 (f_with [] (declare int x ∷ ReturnValue (num 1) ∷ []) ∷ a_main ∷ []) (f_with [] (declare int y ∷ ReturnValue (num 1) ∷ []) ∷ a_main ∷ [])
    ∷ []

-- operands, conditions, arguments and values of another type
abbrev pub type_mismatch : List Pair
type_mismatch =
    -- if (1) {}   and   if (1 < 2) {}
    pair 33 (only_main (If (num 1) (block []) ∷ [])) (only_main (If (less (num 1) (num 2)) (block []) ∷ []))
    -- bool x = 1;   and   int x = 1;
    ∷ pair 33 (only_main (initialize bool x (num 1) ∷ [])) (only_main (initialize int x (num 1) ∷ []))
    -- return;   in a function of int, and of void
    ∷ pair 33 (function int f [] (Return ∷ []) ∷ a_main ∷ []) (function void f [] (Return ∷ []) ∷ a_main ∷ [])
    -- return 1;   in a function of void, and of int
    ∷ pair 33 (function void f [] (ReturnValue (num 1) ∷ []) ∷ a_main ∷ []) (function int f [] (ReturnValue (num 1) ∷ []) ∷ a_main ∷ [])
    -- int[] x = NULL;   and   int* x = NULL;
    ∷ pair 33 (only_main (initialize (Array int) x Null ∷ [])) (only_main (initialize (Pointer int) x Null ∷ []))
    -- struct s* x = alloc(struct t);   of two structs of one shape
    ∷ pair 33 (then_main (s_defined ∷ t_defined ∷ []) (initialize (Pointer struct_s) x (Alloc struct_t) ∷ [])) (then_main (s_defined ∷ t_defined ∷ []) (initialize (Pointer struct_s) x (Alloc struct_s) ∷ []))
    -- two structs that are never defined are not equal
    ∷ pair 33 (function void f (item (Pointer struct_s) x ∷ []) (initialize (Pointer struct_t) y (var x) ∷ []) ∷ a_main ∷ []) (function void f (item (Pointer struct_s) x ∷ []) (initialize (Pointer struct_s) y (var x) ∷ []) ∷ a_main ∷ [])
    -- "" == "";   and   'a' == 'a';
    ∷ pair 33 (only_main (evaluate (equal (Text []) (Text [])) ∷ [])) (only_main (evaluate (equal (Character 97) (Character 97)) ∷ []))
    -- true < false;   and   'a' < 'b';
    ∷ pair 33 (only_main (evaluate (less (Truth true) (Truth false)) ∷ [])) (only_main (evaluate (less (Character 97) (Character 98)) ∷ []))
    -- NULL < NULL;   and   NULL == NULL;
    ∷ pair 33 (only_main (evaluate (less Null Null) ∷ [])) (only_main (evaluate (equal Null Null) ∷ []))
    -- 1 + 'a';   and   1 + 1;
    ∷ pair 33 (only_main (evaluate (plus (num 1) (Character 97)) ∷ [])) (only_main (evaluate (plus (num 1) (num 1)) ∷ []))
    -- true ? 1 : false;   and   true ? 1 : 2;
    ∷ pair 33 (only_main (evaluate (Conditional (Truth true) (num 1) (Truth false)) ∷ [])) (only_main (evaluate (Conditional (Truth true) (num 1) (num 2)) ∷ []))
    -- int x = true ? NULL : NULL;   and   int* x
    ∷ pair 33 (only_main (initialize int x (Conditional (Truth true) Null Null) ∷ [])) (only_main (initialize (Pointer int) x (Conditional (Truth true) Null Null) ∷ []))
    -- f(true);   and   f(1);
    ∷ pair 33 (then_main (an_f ∷ []) (evaluate (call1 f (Truth true)) ∷ [])) (then_main (an_f ∷ []) (evaluate (call1 f (num 1)) ∷ []))
    -- alloc_array(int, true);   and   alloc_array(int, 1);
    ∷ pair 33 (only_main (evaluate (AllocArray int (Truth true)) ∷ [])) (only_main (evaluate (AllocArray int (num 1)) ∷ []))
    -- NULL[0];   and   alloc_array(int, 1)[0];
    ∷ pair 33 (only_main (evaluate (Index Null (num 0)) ∷ [])) (only_main (evaluate (Index (AllocArray int (num 1)) (num 0)) ∷ []))
    -- bool x = true; x++;   and   int x = 1; x++;
    ∷ pair 33 (only_main (initialize bool x (Truth true) ∷ increment (var x) ∷ [])) (only_main (initialize int x (num 1) ∷ increment (var x) ∷ []))
    -- error(1);   and   error("");
    ∷ pair 33 (only_main (Error (num 1) ∷ [])) (only_main (Error (Text []) ∷ []))
    -- a typedef stands for its type
    ∷ pair 33 (then_main (Typedef (Pointer int) t ∷ []) (initialize (NamedType t) x (Alloc bool) ∷ [])) (then_main (Typedef (Pointer int) t ∷ []) (initialize (NamedType t) x (Alloc int) ∷ []))
    ∷ []

-- structs where a small value is needed
abbrev pub not_small : List Pair
not_small =
    -- struct s x;   and   struct s* x;
    pair 34 (then_main (s_defined ∷ []) (declare struct_s x ∷ [])) (then_main (s_defined ∷ []) (declare (Pointer struct_s) x ∷ []))
    -- *alloc(struct s);   and   (*alloc(struct s)).x;
    ∷ pair 34 (then_main (s_defined ∷ []) (evaluate (star (Alloc struct_s)) ∷ [])) (then_main (s_defined ∷ []) (evaluate (Field (Parenthesized (star (Alloc struct_s))) x) ∷ []))
    -- a parameter
    ∷ pair 34 (s_defined ∷ function void f (item struct_s x ∷ []) [] ∷ a_main ∷ []) (s_defined ∷ function void f (item (Pointer struct_s) x ∷ []) [] ∷ a_main ∷ [])
    -- a result
    ∷ pair 34 (s_defined ∷ DeclareFunction (header struct_s f [] []) ∷ a_main ∷ []) (s_defined ∷ DeclareFunction (header (Pointer struct_s) f [] []) ∷ a_main ∷ [])
    -- what is assigned
    ∷ pair 34 (then_main (s_defined ∷ []) (initialize (Pointer struct_s) x (Alloc struct_s) ∷ assign (star (var x)) (star (var x)) ∷ []))
    (then_main (s_defined ∷ []) (initialize (Pointer struct_s) x (Alloc struct_s) ∷ assign (PointerField (var x) x) (PointerField (var x) x) ∷ []))
    -- an element of an array
    ∷ pair 34 (then_main (s_defined ∷ []) (evaluate (Index (AllocArray struct_s (num 1)) (num 0)) ∷ [])) (then_main (s_defined ∷ []) (evaluate (Field (Index (AllocArray struct_s (num 1)) (num 0)) x) ∷ []))
    ∷ []

-- void where a value is needed
abbrev pub void_use : List Pair
void_use =
    -- void x;   and   int x;
    pair 35 (only_main (declare void x ∷ [])) (only_main (declare int x ∷ []))
    -- void* x;   and   int* x;
    ∷ pair 35 (only_main (declare (Pointer void) x ∷ [])) (only_main (declare (Pointer int) x ∷ []))
    -- (flush());   and   flush();
    ∷ pair 35 (then_main (use_conio ∷ []) (evaluate (Parenthesized (call0 flush)) ∷ [])) (then_main (use_conio ∷ []) (evaluate (call0 flush) ∷ []))
    -- flush() + 1;   and the two apart
    ∷ pair 35 (then_main (use_conio ∷ []) (evaluate (plus (call0 flush) (num 1)) ∷ [])) (then_main (use_conio ∷ []) (evaluate (call0 flush) ∷ evaluate (num 1) ∷ []))
    -- true ? f() : f();   of a function of void, and of int
    ∷ pair 35 (then_main (function void f [] [] ∷ []) (evaluate (Conditional (Truth true) (call0 f) (call0 f)) ∷ [])) (then_main (function int f [] (ReturnValue (num 1) ∷ []) ∷ []) (evaluate (Conditional (Truth true) (call0 f) (call0 f)) ∷ []))
    -- a parameter, a field and a typedef
    ∷ pair 35 (DeclareFunction (header int f (item void x ∷ []) []) ∷ a_main ∷ []) (DeclareFunction (header void f (item int x ∷ []) []) ∷ a_main ∷ [])
    ∷ pair 35 (DefineStruct s (item void x ∷ []) ∷ a_main ∷ []) (DefineStruct s (item int x ∷ []) ∷ a_main ∷ [])
    ∷ pair 35 (Typedef void t ∷ a_main ∷ []) (Typedef int t ∷ a_main ∷ [])
    ∷ []

-- calls with another number of arguments
abbrev pub argument_count : List Pair
argument_count =
    -- f();   and   f(1);
    pair 36 (then_main (an_f ∷ []) (evaluate (call0 f) ∷ [])) (then_main (an_f ∷ []) (evaluate (call1 f (num 1)) ∷ []))
    -- f(1, 2);   and   f(1);
    ∷ pair 36 (then_main (an_f ∷ []) (evaluate (call2 f (num 1) (num 2)) ∷ [])) (then_main (an_f ∷ []) (evaluate (call1 f (num 2)) ∷ []))
    -- flush(1);   and   flush();
    ∷ pair 36 (then_main (use_conio ∷ []) (evaluate (call1 flush (num 1)) ∷ [])) (then_main (use_conio ∷ []) (evaluate (call0 flush) ∷ []))
    ∷ []

-- assignments to what is no destination
abbrev pub not_destination : List Pair
not_destination =
    -- 1 = 2;   and   int x; (x) = 2;
    pair 37 (only_main (assign (num 1) (num 2) ∷ [])) (only_main (declare int x ∷ assign (Parenthesized (var x)) (num 2) ∷ []))
    -- x + 1 = 2;   and   x = 2;
    ∷ pair 37 (only_main (initialize int x (num 1) ∷ assign (plus (var x) (num 1)) (num 2) ∷ [])) (only_main (initialize int x (num 1) ∷ assign (var x) (num 2) ∷ []))
    -- f(1) = 2;   and   alloc_array(int, 1)[0] = 2;
    ∷ pair 37 (then_main (an_f ∷ []) (assign (call1 f (num 1)) (num 2) ∷ [])) (then_main (an_f ∷ []) (assign (Index (AllocArray int (num 1)) (num 0)) (num 2) ∷ []))
    -- f(1)++;   and   (*alloc(int))++;
    ∷ pair 37 (then_main (an_f ∷ []) (increment (call1 f (num 1)) ∷ [])) (then_main (an_f ∷ []) (increment (Parenthesized (star (Alloc int))) ∷ []))
    ∷ []

-- locals that are read where some path has not assigned them
abbrev pub not_assigned : List Pair
not_assigned =
    -- int x; if (true) x = 1; x;   and an `else` that assigns it, too
    pair 38 (only_main (declare int x ∷ If (Truth true) (assign (var x) (num 1)) ∷ evaluate (var x) ∷ []))
    (only_main (declare int x ∷ IfElse (Truth true) (assign (var x) (num 1)) (assign (var x) (num 2)) ∷ evaluate (var x) ∷ []))
    -- an `else` that assigns another local, and one that ends in error
    ∷ pair 38 (only_main (declare int x ∷ declare int y ∷ IfElse (Truth true) (assign (var x) (num 1)) (assign (var y) (num 2)) ∷ evaluate (var x) ∷ []))
    (only_main (declare int x ∷ declare int y ∷ IfElse (Truth true) (assign (var x) (num 1)) (Error (Text [])) ∷ evaluate (var x) ∷ []))
    -- int x; while (true) x = 1; x;   and   x = 1; before
    ∷ pair 38 (only_main (declare int x ∷ While (Truth true) [] (assign (var x) (num 1)) ∷ evaluate (var x) ∷ []))
    (only_main (declare int x ∷ assign (var x) (num 1) ∷ While (Truth true) [] (assign (var x) (num 1)) ∷ evaluate (var x) ∷ []))
    -- int x; x += 1;   and   int x = 1; x += 1;
    ∷ pair 38 (only_main (declare int x ∷ add_to (var x) (num 1) ∷ [])) (only_main (initialize int x (num 1) ∷ add_to (var x) (num 1) ∷ []))
    -- int x; x++;   and   int x = 1; x++;
    ∷ pair 38 (only_main (declare int x ∷ increment (var x) ∷ [])) (only_main (initialize int x (num 1) ∷ increment (var x) ∷ []))
    -- int* x; *x = 1;   and   x = alloc(int); between
    ∷ pair 38 (only_main (declare (Pointer int) x ∷ assign (star (var x)) (num 1) ∷ [])) (only_main (declare (Pointer int) x ∷ assign (var x) (Alloc int) ∷ assign (star (var x)) (num 1) ∷ []))
    -- the third part of `for` sees what its body assigned, and the condition does not
    ∷ pair 38 (only_main (declare int x ∷ For None (less (var x) (num 1)) None [] (assign (var x) (num 1)) ∷ []))
    (only_main (declare int x ∷ For None (Truth true) (Some (Step (var x) c.Increment)) [] (assign (var x) (num 1)) ∷ []))
    -- behind `return` everything counts as assigned, locals declared there, too; not behind assert(false)
    ∷ pair 38 (main_with (Assert (Truth false) ∷ declare int x ∷ ReturnValue (var x) ∷ []) ∷ []) (main_with (ReturnValue (num 0) ∷ declare int x ∷ ReturnValue (var x) ∷ []) ∷ [])
    -- what a loop's body assigns does not count in an invariant
    ∷ pair 38 (only_main (declare int x ∷ While (Truth true) ((Contract k.LoopInvariant (equal (var x) (num 1)) ∷ []) ∷ []) (assign (var x) (num 1)) ∷ []))
    (only_main (initialize int x (num 1) ∷ While (Truth true) ((Contract k.LoopInvariant (equal (var x) (num 1)) ∷ []) ∷ []) (assign (var x) (num 1)) ∷ []))
    -- for (; true; x++) { if (true) continue; x = 1; }   and   { x = 1; if (true) continue; }
    ∷ pair 38 (only_main (declare int x ∷ For None (Truth true) (Some (Step (var x) c.Increment)) [] (block (If (Truth true) Continue ∷ assign (var x) (num 1) ∷ [])) ∷ []))
    (only_main (declare int x ∷ For None (Truth true) (Some (Step (var x) c.Increment)) [] (block (assign (var x) (num 1) ∷ If (Truth true) Continue ∷ [])) ∷ []))
    -- a `continue` behind an assignment, and beside it another, or a `break`, which skips the third part
    ∷ pair 38 (only_main (declare int x ∷ For None (Truth true) (Some (Step (var x) c.Increment)) [] (IfElse (Truth true) (block (assign (var x) (num 1) ∷ Continue ∷ [])) Continue) ∷ []))
    (only_main (declare int x ∷ For None (Truth true) (Some (Step (var x) c.Increment)) [] (IfElse (Truth true) (block (assign (var x) (num 1) ∷ Continue ∷ [])) Break) ∷ []))
    -- the `continue` of a loop in the body ends no turn of this one: for (; true; x++) { while (true) { x = 1; continue; } }   and   { while (true) continue; x = 1; }
    ∷ pair 38 (only_main (declare int x ∷ For None (Truth true) (Some (Step (var x) c.Increment)) [] (While (Truth true) [] (block (assign (var x) (num 1) ∷ Continue ∷ []))) ∷ []))
    (only_main (declare int x ∷ For None (Truth true) (Some (Step (var x) c.Increment)) [] (block (While (Truth true) [] Continue ∷ assign (var x) (num 1) ∷ [])) ∷ []))
    -- while (true) { x = 1; break; } x;   and   x = 1; before
    ∷ pair 38 (only_main (declare int x ∷ While (Truth true) [] (block (assign (var x) (num 1) ∷ Break ∷ [])) ∷ evaluate (var x) ∷ []))
    (only_main (declare int x ∷ assign (var x) (num 1) ∷ While (Truth true) [] Break ∷ evaluate (var x) ∷ []))
    -- behind `break` and `continue` everything counts as assigned, and not behind the choice of one
    ∷ pair 38 (only_main (declare int x ∷ While (Truth true) [] (block (If (Truth true) Break ∷ evaluate (var x) ∷ [])) ∷ []))
    (only_main (declare int x ∷ While (Truth true) [] (block (IfElse (Truth true) Break Continue ∷ evaluate (var x) ∷ [])) ∷ []))
    -- what follows in a scope of its own
    ∷ pair 38 (only_main (block (initialize int x (num 1) ∷ []) ∷ declare int x ∷ evaluate (var x) ∷ [])) (only_main (block (declare int x ∷ []) ∷ initialize int x (num 1) ∷ evaluate (var x) ∷ []))
    ∷ []

-- paths that don't end in `return` or `error`
abbrev pub no_return : List Pair
no_return =
    -- if (true) return 1;   and an `else` that returns, too
    pair 39 (main_with (If (Truth true) (ReturnValue (num 1)) ∷ []) ∷ []) (main_with (IfElse (Truth true) (ReturnValue (num 1)) (ReturnValue (num 2)) ∷ []) ∷ [])
    -- while (true) { return 1; }   and a `return` behind it
    ∷ pair 39 (main_with (While (Truth true) [] (block (ReturnValue (num 1) ∷ [])) ∷ []) ∷ []) (main_with (While (Truth true) [] (block (ReturnValue (num 1) ∷ [])) ∷ ReturnValue (num 2) ∷ []) ∷ [])
    -- for (; true; ) return 1;   and a block
    ∷ pair 39 (main_with (For None (Truth true) None [] (ReturnValue (num 1)) ∷ []) ∷ []) (main_with (block (ReturnValue (num 1) ∷ []) ∷ []) ∷ [])
    -- while (true) break;   and a `return` behind it
    ∷ pair 39 (main_with (While (Truth true) [] Break ∷ []) ∷ []) (main_with (While (Truth true) [] Break ∷ ReturnValue (num 0) ∷ []) ∷ [])
    -- assert(false);   and   error("");
    ∷ pair 39 (main_with (Assert (Truth false) ∷ []) ∷ []) (main_with (Error (Text []) ∷ []) ∷ [])
    -- nothing, in a function of int and of void
    ∷ pair 39 (function int f [] [] ∷ a_main ∷ []) (function void f [] [] ∷ a_main ∷ [])
    ∷ []

-- calls of functions that have no definition
abbrev pub not_defined : List Pair
not_defined =
    -- int f(int x);   that is called, and that is not
    pair 40 (then_main (f_declared ∷ []) (evaluate (call1 f (num 1)) ∷ [])) (then_main (f_declared ∷ []) (evaluate (num 1) ∷ []))
    -- ... and that is defined behind
    ∷ pair 40 (then_main (f_declared ∷ []) (evaluate (call1 f (num 1)) ∷ [])) (then_main (f_declared ∷ []) (evaluate (call1 f (num 1)) ∷ []) ++ an_f ∷ [])
    -- in a contract of a function that is never called
    ∷ pair 40 (f_declared ∷ DefineFunction (header void g [] (Contract k.Requires (equal (call1 f (num 1)) (num 1)) ∷ [])) (in_order []) ∷ a_main ∷ [])
    (f_declared ∷ DefineFunction (header void g [] (Contract k.Requires (equal (num 1) (num 1)) ∷ [])) (in_order []) ∷ a_main ∷ [])
    -- behind a `return`
    ∷ pair 40 (f_declared ∷ main_with (ReturnValue (num 0) ∷ evaluate (call1 f (num 1)) ∷ []) ∷ []) (f_declared ∷ main_with (ReturnValue (num 0) ∷ evaluate (num 1) ∷ []) ∷ [])
    ∷ []

-- a main that is missing, or another one
abbrev pub bad_main : List Pair
bad_main =
    -- no main
    pair 41 (an_f ∷ []) (an_f ∷ a_main ∷ [])
    -- bool main() and int main()
    ∷ pair 41 (function bool main [] (ReturnValue (Truth true) ∷ []) ∷ []) (function int main [] (ReturnValue (num 1) ∷ []) ∷ [])
    -- int main(int x) and int main()
    ∷ pair 41 (function int main (item int x ∷ []) (ReturnValue (num 1) ∷ []) ∷ []) (function int main [] (ReturnValue (num 1) ∷ []) ∷ [])
    -- int main(); alone, and with its definition
    ∷ pair 41 (DeclareFunction (header int main [] []) ∷ []) (DeclareFunction (header int main [] []) ∷ a_main ∷ [])
    ∷ []

-- structs before their definition
abbrev pub struct_not_complete : List Pair
struct_not_complete =
    -- alloc(struct s);   without and with its definition
    pair 42 (only_main (evaluate (Alloc struct_s) ∷ [])) (then_main (s_defined ∷ []) (evaluate (Alloc struct_s) ∷ []))
    -- alloc_array(struct s, 1);
    ∷ pair 42 (only_main (evaluate (AllocArray struct_s (num 1)) ∷ []) ++ s_defined ∷ []) (then_main (s_defined ∷ []) (evaluate (AllocArray struct_s (num 1)) ∷ []))
    -- struct t { struct s x; };   and   struct t { struct s* x; };
    ∷ pair 42 (DefineStruct t (item struct_s x ∷ []) ∷ s_defined ∷ a_main ∷ []) (DefineStruct t (item (Pointer struct_s) x ∷ []) ∷ s_defined ∷ a_main ∷ [])
    -- struct s { struct s x; };   and   struct s { struct s[] x; };
    ∷ pair 42 (DefineStruct s (item struct_s x ∷ []) ∷ a_main ∷ []) (DefineStruct s (item (Array struct_s) x ∷ []) ∷ a_main ∷ [])
    -- x->x;   before and behind the definition
    ∷ pair 42 (function int f (item (Pointer struct_s) x ∷ []) (ReturnValue (PointerField (var x) x) ∷ []) ∷ s_defined ∷ a_main ∷ []) (s_defined ∷ function int f (item (Pointer struct_s) x ∷ []) (ReturnValue (PointerField (var x) x) ∷ []) ∷ a_main ∷ [])
    -- x[0].x;   before and behind the definition
    ∷ pair 42 (function int f (item (Array struct_s) x ∷ []) (ReturnValue (Field (Index (var x) (num 0)) x) ∷ []) ∷ s_defined ∷ a_main ∷ []) (s_defined ∷ function int f (item (Array struct_s) x ∷ []) (ReturnValue (Field (Index (var x) (num 0)) x) ∷ []) ∷ a_main ∷ [])
    ∷ []

-- NULL itself
abbrev pub null_dereference : List Pair
null_dereference =
    -- *NULL = 1;   and   int* x = NULL; *x = 1;
    pair 43 (only_main (assign (star Null) (num 1) ∷ [])) (only_main (initialize (Pointer int) x Null ∷ assign (star (var x)) (num 1) ∷ []))
    -- NULL->x;   and   struct s* x = NULL; x->x;
    ∷ pair 43 (then_main (s_defined ∷ []) (evaluate (PointerField Null x) ∷ [])) (then_main (s_defined ∷ []) (initialize (Pointer struct_s) x Null ∷ evaluate (PointerField (var x) x) ∷ []))
    -- *(true ? NULL : NULL);   and   *(true ? NULL : alloc(int));
    ∷ pair 43 (only_main (evaluate (star (Parenthesized (Conditional (Truth true) Null Null))) ∷ [])) (only_main (evaluate (star (Parenthesized (Conditional (Truth true) Null (Alloc int)))) ∷ []))
    ∷ []

-- specs in a place not their own
abbrev pub bad_contract : List Pair
bad_contract =
    -- requires \result == 1   and   ensures \result == 1
    pair 44 (f_with (Contract k.Requires (equal Result (num 1)) ∷ []) (ReturnValue (num 1) ∷ []) ∷ a_main ∷ []) (f_with (Contract k.Ensures (equal Result (num 1)) ∷ []) (ReturnValue (num 1) ∷ []) ∷ a_main ∷ [])
    -- \result in the body
    ∷ pair 44 (f_with [] (ReturnValue Result ∷ []) ∷ a_main ∷ []) (f_with [] (ReturnValue (var x) ∷ []) ∷ a_main ∷ [])
    -- \result of a function of void, and of int
    ∷ pair 44 (DefineFunction (header void f [] (Contract k.Ensures (equal Result Result) ∷ [])) (in_order []) ∷ a_main ∷ [])
    (DefineFunction (header int f [] (Contract k.Ensures (equal Result Result) ∷ [])) (in_order (ReturnValue (num 1) ∷ [])) ∷ a_main ∷ [])
    -- loop_invariant at a function, and requires
    ∷ pair 44 (f_with (Contract k.LoopInvariant (Truth true) ∷ []) (ReturnValue (num 1) ∷ []) ∷ a_main ∷ []) (f_with (Contract k.Requires (Truth true) ∷ []) (ReturnValue (num 1) ∷ []) ∷ a_main ∷ [])
    -- assert at a function
    ∷ pair 44 (f_with (Asserts (Truth true) ∷ []) (ReturnValue (num 1) ∷ []) ∷ a_main ∷ []) (f_with [] (Annotation (Asserts (Truth true) ∷ []) ∷ ReturnValue (num 1) ∷ []) ∷ a_main ∷ [])
    -- ensures as a statement, and assert
    ∷ pair 44 (only_main (Annotation (Contract k.Ensures (Truth true) ∷ []) ∷ [])) (only_main (Annotation (Asserts (equal (Length (AllocArray int (num 3))) (num 3)) ∷ []) ∷ []))
    -- requires at a loop, and loop_invariant
    ∷ pair 44 (only_main (While (Truth true) ((Contract k.Requires (Truth true) ∷ []) ∷ []) (block []) ∷ [])) (only_main (While (Truth true) ((Contract k.LoopInvariant (Truth true) ∷ []) ∷ []) (block []) ∷ []))
    -- a spec on a declaration without body, and an annotation without specs
    ∷ pair 44 (DeclareFunction (header int f [] (Contract k.Requires (Truth true) ∷ [])) ∷ a_main ∷ []) (DeclareFunction (header int f [] []) ∷ a_main ∷ [])
    -- a parameter in ensures that is assigned, and one that is not
    ∷ pair 44 (f_with (Contract k.Ensures (equal (var x) (num 1)) ∷ []) (assign (var x) (num 2) ∷ ReturnValue (num 1) ∷ []) ∷ a_main ∷ []) (f_with (Contract k.Ensures (equal (var x) (num 1)) ∷ []) (ReturnValue (num 1) ∷ []) ∷ a_main ∷ [])
    -- ... by ++ in a loop; in requires it may be assigned
    ∷ pair 44 (f_with (Contract k.Ensures (equal (var x) (num 1)) ∷ []) (While (Truth true) [] (increment (var x)) ∷ ReturnValue (num 1) ∷ []) ∷ a_main ∷ []) (f_with (Contract k.Requires (equal (var x) (num 1)) ∷ []) (While (Truth true) [] (increment (var x)) ∷ ReturnValue (num 1) ∷ []) ∷ a_main ∷ [])
    ∷ []

-- declarations of one function with unequal types
abbrev pub decl_mismatch : List Pair
decl_mismatch =
    -- int f(bool x); int f(int x) { .. }   and   int f(int y);
    pair 45 (DeclareFunction (header int f (item bool x ∷ []) []) ∷ an_f ∷ a_main ∷ []) (DeclareFunction (header int f (item int y ∷ []) []) ∷ an_f ∷ a_main ∷ [])
    -- bool f(int x);   and   int f(int x);
    ∷ pair 45 (DeclareFunction (header bool f (item int x ∷ []) []) ∷ f_declared ∷ a_main ∷ []) (DeclareFunction (header int f (item int x ∷ []) []) ∷ f_declared ∷ a_main ∷ [])
    -- int f();   and   int f(int x);
    ∷ pair 45 (an_f ∷ DeclareFunction (header int f [] []) ∷ a_main ∷ []) (an_f ∷ f_declared ∷ a_main ∷ [])
    -- typedef bool t;   and   typedef int t;   with   int f(t x);
    ∷ pair 45 (Typedef bool t ∷ DeclareFunction (header int f (item (NamedType t) x ∷ []) []) ∷ an_f ∷ a_main ∷ []) (Typedef int t ∷ DeclareFunction (header int f (item (NamedType t) x ∷ []) []) ∷ an_f ∷ a_main ∷ [])
    ∷ []

-- third parts of `for` that declare
abbrev pub step_declares : List Pair
step_declares =
    -- for (; true; int x) {}   and   for (int x; true; ) {}
    pair 46 (only_main (For None (Truth true) (Some (Declare int x)) [] (block []) ∷ [])) (only_main (For (Some (Declare int x)) (Truth true) None [] (block []) ∷ []))
    -- for (int x = 0; true; int y = 1) {}   and   for (int x = 0; true; x++) {}
    ∷ pair 46 (only_main (For (Some (Initialize int x (num 0))) (Truth true) (Some (Initialize int y (num 1))) [] (block []) ∷ []))
    (only_main (For (Some (Initialize int x (num 0))) (Truth true) (Some (Step (var x) c.Increment)) [] (block []) ∷ []))
    ∷ []

-- uses of other libraries, or behind a declaration
abbrev pub bad_use : List Pair
bad_use =
    -- #use "conio"   and   #use <conio>
    pair 47 (UseLibrary false (codes "conio") ∷ a_main ∷ []) (UseLibrary true (codes "conio") ∷ a_main ∷ [])
    -- #use <string>   and   #use <conio>, twice
    ∷ pair 47 (UseLibrary true (codes "string") ∷ a_main ∷ []) (use_conio ∷ use_conio ∷ a_main ∷ [])
    -- #use <conio> behind a struct, and before it
    ∷ pair 47 (s_defined ∷ use_conio ∷ a_main ∷ []) (use_conio ∷ s_defined ∷ a_main ∷ [])
    ∷ []

-- `break` and `continue` outside of the loops of their function
abbrev pub not_in_loop : List Pair
not_in_loop =
    -- break;   and   while (true) break;
    pair 48 (only_main (Break ∷ [])) (only_main (While (Truth true) [] Break ∷ []))
    -- continue;   and   for (; true; ) continue;
    ∷ pair 48 (only_main (Continue ∷ [])) (only_main (For None (Truth true) None [] Continue ∷ []))
    -- if (true) break; else {}   and the same in a loop's body, with continue
    ∷ pair 48 (only_main (IfElse (Truth true) Break (block []) ∷ [])) (only_main (While (Truth true) [] (IfElse (Truth true) Break (block (Continue ∷ []))) ∷ []))
    -- while (true) {} break;   and   while (true) { while (true) {} break; }
    ∷ pair 48 (only_main (While (Truth true) [] (block []) ∷ Break ∷ [])) (only_main (While (Truth true) [] (block (While (Truth true) [] (block []) ∷ Break ∷ [])) ∷ []))
    -- for (; true; ) {} { continue; }   and   for (; true; ) { { continue; } }
    ∷ pair 48 (only_main (For None (Truth true) None [] (block []) ∷ block (Continue ∷ []) ∷ [])) (only_main (For None (Truth true) None [] (block (block (Continue ∷ []) ∷ [])) ∷ []))
    -- a loop round the call of a function is none of that function
    ∷ pair 48 (then_main (f_with [] (Break ∷ ReturnValue (num 1) ∷ []) ∷ []) (While (Truth true) [] (evaluate (call1 f (num 1))) ∷ []))
    (then_main (f_with [] (While (Truth true) [] Break ∷ ReturnValue (num 1) ∷ []) ∷ []) (While (Truth true) [] (evaluate (call1 f (num 1))) ∷ []))
    ∷ []

-- trees that no text reads as: an operator of another kind in `op=`, a letter or a text beyond ASCII
abbrev pub not_readable : List Pair
not_readable =
    pair 20 (only_main (initialize int x (num 1) ∷ Simple (Update (var x) o.Less (num 1)) ∷ [])) (only_main (initialize int x (num 1) ∷ Simple (Update (var x) o.ShiftLeft (num 1)) ∷ []))
    ∷ pair 11 (only_main (evaluate (Character 128) ∷ [])) (only_main (evaluate (Character 127) ∷ []))
    ∷ pair 11 (only_main (evaluate (Text (195 ∷ 169 ∷ [])) ∷ [])) (only_main (evaluate (Text (127 ∷ [])) ∷ []))
    ∷ []

-- all of them
abbrev pub pairs : List Pair
pairs =
    too_large ++ unknown_name ++ unknown_field ++ duplicate_name ++ type_mismatch ++ not_small ++ void_use ++ argument_count ++ not_destination ++ not_assigned ++ no_return
    ++ not_defined ++ bad_main ++ struct_not_complete ++ null_dereference ++ bad_contract ++ decl_mismatch ++ step_declares ++ bad_use ++ not_in_loop ++ not_readable

-- the numbers of the faults of the static rules
abbrev pub numbers : List ℕ
numbers = 22 ∷ 30 ∷ 31 ∷ 32 ∷ 33 ∷ 34 ∷ 35 ∷ 36 ∷ 37 ∷ 38 ∷ 39 ∷ 40 ∷ 41 ∷ 42 ∷ 43 ∷ 44 ∷ 45 ∷ 46 ∷ 47 ∷ 48 ∷ []

-- whether a program has a typed tree
abbrev pub is_well_typed : Program → Bool
is_well_typed program = is_some (typed_program program)

-- the first program of each pair is refused
abbrev pub AreRefused : Type 0
AreRefused = map (λ p. is_well_typed p.refused) pairs ≡ replicate (length pairs) false

-- the second program of each pair is accepted
abbrev pub AreAccepted : Type 0
AreAccepted = map (λ p. is_well_typed p.accepted) pairs ≡ replicate (length pairs) true

-- each number has two pairs or more
abbrev pub AreTold : Type 0
AreTold = list_all (λ n. nat_le 2 (count_by (λ p. p.number == n) pairs)) numbers ≡ true
