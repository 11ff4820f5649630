-- What is used of heaps holds of the code of each program.
use Rattle.std.proofs.Common.{◌≡◌, ℕ, zero, suc, ◌+◌, ◌⊎◌, List, [], ◌∷◌, ◌++◌, length, Some, refl, sym, ap, ◌∙◌, subst}
use Rattle.std.specs.Prelude.{slice_get}
use Rattle.c0_typed.specs.Values.{Value, Ref, as_ref, array_length, Tree}
use Rattle.c0_typed.specs.Trees.{Program, Ty, StructTy, ArrayTy}
use Rattle.c0_typed.specs.Typing.{FitsProgram, Is, IsHeap, IsMade, IsSmall, IsWayIn, Kept, One, Many}
use Rattle.c0_typed.specs.Views.{program_of}
use Rattle.c0_typed.specs.declared.tree.Typed.{Typed}
use Rattle.code_form.specs.declared.allocation.Allocation.{Allocation}
use Rattle.code_form.specs.declared.form.Kind.{Kind}
use Rattle.code_form.specs.Code.{length_of}
use Rattle.code_form.specs.Effects.{Heap}
use Rattle.lower.specs.Coded.{Heaps, inner_path, kept_type, type_offset}
use Rattle.lower_tables.specs.Kinds as k
use Rattle.lower.specs.Lowered.{lowered}
use Rattle.lower.proofs.Heaps.{alloc_heaps, array_heaps, array_length_is, load_coded, load_there, store_heaps}
use Rattle.lower.proofs.Layouts.{kind_there, number_known, type_offset_on}
use Rattle.lower.proofs.Sides.{HeapFacts}

pub heap_facts : (typed : Typed) (singles : List Kind) (checks : _) → FitsProgram (program_of typed) → HeapFacts (program_of typed) singles (lowered singles checks typed).head
heap_facts typed singles checks fp = record {
  layout = λ t k. number_known (program_of typed).structs singles t k;
  kind = kind;
  onward = onward;
  load = λ made trees al h u at same is q small. load_coded (program_of typed) fp singles (lowered singles checks typed).head made trees al h same is u at q small;
  there = λ made trees al h u at same is q small. (load_there (program_of typed) fp singles (lowered singles checks typed).head made trees al h same is u at q small).0;
  store = λ made trees al h u at v n same is q small i c. store_heaps (program_of typed) fp singles (lowered singles checks typed).head made trees al h same is u at q v n small c;
  alloc = λ made trees al h l t held same is. alloc_heaps (program_of typed) fp singles (lowered singles checks typed).head made trees al h same is l t held;
  array = λ made trees al h l n t held same is. array_heaps (program_of typed) fp singles (lowered singles checks typed).head made trees al h same is l n t held;
  long = λ made trees al h t v same is i.
      subst (λ z. length_of al (as_ref z) ≡ array_length trees (as_ref z)) (sym i.1) (array_length_is (program_of typed) fp singles (lowered singles checks typed).head made trees al h same is i.0 t i.2);
}
  where
    kind : (kept : Kept) (path : List ℕ) (u : Ty) → IsWayIn (program_of typed) kept path u → IsSmall u
        → slice_get (k.cells_of (program_of typed).structs singles (kept_type kept)) (type_offset (program_of typed).structs singles (kept_type kept) (inner_path kept path)) ≡ Some (k.kind_of (length (program_of typed).structs) singles u)
    kind (One t) path u way small = kind_there (program_of typed) singles fp path t u way small
    kind (Many n t) [] u way small = absurd way
    kind (Many n t) (i ∷ path) u way small = kind_there (program_of typed) singles fp path t u way.1 small

    onward : (kept : Kept) (path : List ℕ) (j i : ℕ) → IsWayIn (program_of typed) kept path (StructTy j)
        → type_offset (program_of typed).structs singles (kept_type kept) (inner_path kept (path ++ i ∷ [])) ≡ type_offset (program_of typed).structs singles (kept_type kept) (inner_path kept path) + k.field_offset (program_of typed).structs singles j i
    onward (One t) path j i way = type_offset_on (program_of typed) singles path t j i way
    onward (Many n t) [] j i way = absurd way
    onward (Many n t) (x ∷ path) j i way = type_offset_on (program_of typed) singles path t j i way.1
