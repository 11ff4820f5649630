-- A verified image has no fault, where its kinds name layouts that are there.
use Rattle.std.proofs.Common.{◌≡◌, ℕ, ◌<◌, ◌≤◌, Bool, true, false, Option, Some, None, List, [], ◌∷◌, length, refl, subst, arith}
use Rattle.std.specs.Prelude.{◌||◌, All, is_none, nat_le, nat_lt, not, slice_get}
use Rattle.std.proofs.lemmas.Bool.{le-leb}
use Rattle.std.proofs.lemmas.List.Elements.{All-cons, All-head, All-nil, All-tail, All-weaker}
use Rattle.std.proofs.lemmas.Option.{slice_get_within}
use Rattle.code_form.specs.declared.form.Kind.{Kind}
use Rattle.code_form.specs.declared.form.Kind.TheVariants as kind
use Rattle.code_form.specs.declared.form.Fact.{Fact}
use Rattle.code_form.specs.Form.{Instruction, Simple, Aim, Load, Store, Leave, Call, Jump, Branch, Return, ReturnVoid, Error, Block, Function, Image}
use Rattle.code_form.specs.Code.{cell_kind, has, most_scopes, needs_shut, on_kind, op_fits, place_fits}
use Rattle.code_form.specs.Known.{AreKnown, Known, Knows, KnownAimed, KnownShut, Unknown, after, at_entry, facts_known}
use Rattle.code_form.specs.Asked.{Enters, Fits, IsAimChecked, IsAimedAt, IsAllowed, IsGuarded, callee_fits, leads_out}
use Rattle.code_verification.specs.Verified.{AreGuarded, IsGuardedBlock, IsGuardedFunction, IsVerified, NamesFact, NamesFacts}
use Rattle.code_verification.specs.WellFormed.{IsRest, IsWellFormedBlock, IsWellFormedFunction, main_fits}
use Rattle.scope_verifier_laws.specs.declared.fault.VerifyFault.TheVariants.{NotChecked, OpenScope, OutOfCode, OperandKind, EntryFacts, TooManyScopes}
use Rattle.scope_verifier_laws.specs.Decided.{are_known, are_shut, is_checked, is_known, names_fact}
use Rattle.scope_verifier_laws.specs.Faults.{beginning, beginning_fault, block_fault, code_fault, content_fault, entering_fault, fault_of, fitting_fault, function_fault, instruction_fault, kinds_and_facts, naming_fault, open_fault, place_fault}
use Rattle.scope_verifier_laws.specs.First.{first_in, first_of, unless}
use Rattle.scope_verifier_laws.specs.Laws.{NamesItsLayouts, NamesLayouts}
use Rattle.scope_verifier_laws.specs.Numbers.{block_numbers, cell_fault, code_numbers, fact_numbers, function_numbers, instruction_numbers, is_cell_kind, is_placed, is_result_kind, kind_fault, layout_fault, names_layout, numbers, outer_numbers, scope_fault}
use Rattle.scope_verifier_laws.proofs.Firsts.{both, in_none, true_where, unless_true}
use Rattle.scope_verifier_laws.proofs.Deciding.{all_decides, below_shut, checked_decides, is_less, known_decides, names_decides}
use Rattle.scope_verifier_laws.proofs.Ranges.{entry_fact, instruction}

module _ (C : Image) (f : Function) where
  -- ---- an instruction

  contents : (a : ℕ) (o : Option Kind) → on_kind (λ k. has f.kinds a k) o ≡ true → content_fault f a o ≡ None
  contents a None h = absurd (cc h)
  contents a (Some k) h = unless_true (has f.kinds a k) OperandKind h

  place : (k : Known) (z : Knows) (a : ℕ) → IsAimedAt C f z a → IsAimChecked k z → place_fault C f k z a ≡ None
  place k Unknown a h g = absurd h
  place k KnownShut a h g = absurd h
  place k (KnownAimed r off disp) a h g =
      let c = unless (is_checked k r off) NotChecked in
      let t = content_fault f a (cell_kind C.head f.kinds r disp) in
      both (unless (place_fits f.kinds r off) OperandKind) (first_of c t) (unless_true (place_fits f.kinds r off) OperandKind h.0)
      (both c t (unless_true (is_checked k r off) NotChecked ((checked_decides k r off).1 g)) (contents a (cell_kind C.head f.kinds r disp) h.1))

  scope : (s : ℕ) → s < f.scopes → scope_fault f s ≡ None
  scope s l = unless_true (nat_lt s f.scopes) TooManyScopes (is_less s f.scopes l)

  enters : (k : Known) (b : ℕ) → Enters C f k b → entering_fault k (slice_get f.blocks b) ≡ None
  enters k b h = rw h.1 (unless_true (are_known k h.0.facts) EntryFacts ((all_decides k h.0.facts).1 h.2))

  aimed : (k : Known) (s a : ℕ) → s < f.scopes → IsAimedAt C f (k.scope s) a → IsAimChecked k (k.scope s) → first_of (scope_fault f s) (place_fault C f k (k.scope s) a) ≡ None
  aimed k s a l h g = both (scope_fault f s) (place_fault C f k (k.scope s) a) (scope s l) (place k (k.scope s) a h g)

  fits : (k : Known) (i : Instruction) → Fits C f k i → IsGuarded k i → fitting_fault C f k i ≡ None
  fits k (Simple o) h g = unless_true (op_fits C.head f.kinds o) OperandKind h
  fits k (Aim s r off disp) h g = both (scope_fault f s) (unless (place_fits f.kinds r off) OperandKind) (scope s h.1) (unless_true (place_fits f.kinds r off) OperandKind h.0)
  fits k (Load to s) h g = aimed k s to h.0 h.1 g
  fits k (Store s from) h g = aimed k s from h.0 h.1 g
  fits k (Leave s) h g = scope s h
  fits k (Call to i args) h g = unless_true (callee_fits C f (slice_get C.functions i) to args) OperandKind h
  fits k (Jump b) h g = enters k b h
  fits k (Branch a b c) h g =
      let x = entering_fault k (slice_get f.blocks b) in
      let y = entering_fault k (slice_get f.blocks c) in
      both (unless (has f.kinds a kind.Bool) OperandKind) (first_of x y) (unless_true (has f.kinds a kind.Bool) OperandKind h.0) (both x y (enters k b h.1) (enters k c h.2))
  fits k (Return a) h g = unless_true (on_kind (λ j. has f.kinds a j) f.result) OperandKind h
  fits k ReturnVoid h g = unless_true (is_none f.result) OperandKind h
  fits k (Error a) h g = unless_true (has f.kinds a kind.Text) OperandKind h

  allowed : (k : Known) (i : Instruction) → IsAllowed C f k i → IsGuarded k i → instruction_fault C f k i ≡ None
  allowed k i h g =
      both (fitting_fault C f k i) (open_fault f k i) (fits k i h.1 g)
      (unless_true (not (needs_shut i) || are_shut k f.scopes) OpenScope (true_where (needs_shut i) (are_shut k f.scopes) (λ e. below_shut k f.scopes (h.0 e))))

  -- ---- instructions

  -- behind the last instruction there is none, and behind another one there are more
  last : (b : Bool) (X Y : Type 0) → b ≡ true → elim b as (λ b. Type 0) [ true ↦ X | false ↦ Y ] → X
  last true X Y e h = h
  last false X Y e h = absurd (cc e)

  goes : (b : Bool) (X Y : Type 0) → b ≡ false → elim b as (λ b. Type 0) [ true ↦ X | false ↦ Y ] → Y
  goes true X Y e h = absurd (cc e)
  goes false X Y e h = h

  only : (b : Bool) (X Y : Type 0) → (Y → ⊥) → elim b as (λ b. Type 0) [ true ↦ X | false ↦ Y ] → b ≡ true
  only true X Y n h = refl
  only false X Y n h = absurd (n h)

  other : (b : Bool) (X Y : Type 0) → (X → ⊥) → elim b as (λ b. Type 0) [ true ↦ X | false ↦ Y ] → (not b ≡ true) × Y
  other true X Y n h = absurd (n h)
  other false X Y n h = (refl, h)

  abbrev Behind : Known → Instruction → List Instruction → Type 0
  Behind k i rest = elim (leads_out i) as (λ b. Type 0) [ true ↦ rest ≡ [] | false ↦ IsRest C f (after i k) rest ]

  placed : (k : Known) (i : Instruction) (rest : List Instruction) → Behind k i rest → is_placed i rest ≡ true
  placed k i [] h = let none : List Instruction = [] in only (leads_out i) (none ≡ none) (IsRest C f (after i k) none) (λ r. r) h
  placed k i (j ∷ rest) h = (other (leads_out i) (j ∷ rest ≡ []) (IsRest C f (after i k) (j ∷ rest)) (λ e. cc e) h).0

  -- what is asked of these instructions, where there are some
  abbrev Asked : Known → List Instruction → Type 0
  Asked k [] = Unit {0}
  Asked k (i ∷ rest) = IsRest C f k (i ∷ rest)

  more : (k : Known) (i : Instruction) (rest : List Instruction) → Behind k i rest → Asked (after i k) rest
  more k i [] h = tt
  more k i (j ∷ rest) h = (other (leads_out i) (j ∷ rest ≡ []) (IsRest C f (after i k) (j ∷ rest)) (λ e. cc e) h).1

  in_range : (k : Known) (is : List Instruction) → Asked k is → code_numbers C f is ≡ None
  in_range k [] h = refl
  in_range k (i ∷ rest) h =
      both (unless (is_placed i rest) OutOfCode) (first_of (instruction_numbers C f i) (code_numbers C f rest)) (unless_true (is_placed i rest) OutOfCode (placed k i rest h.1))
      (both (instruction_numbers C f i) (code_numbers C f rest) (instruction C f k i h.0.1) (in_range (after i k) rest (more k i rest h.1)))

  unfaulted : (k : Known) (is : List Instruction) → Asked k is → AreGuarded k is → code_fault C f k is ≡ None
  unfaulted k [] h g = refl
  unfaulted k (i ∷ rest) h g = both (instruction_fault C f k i) (code_fault C f (after i k) rest) (allowed k i h.0 g.0) (unfaulted (after i k) rest (more k i rest h.1) g.1)

  begun : (k : Known) (is : List Instruction) → IsRest C f k is → Asked k is × (0 < length is)
  begun k [] h = absurd h
  begun k (i ∷ rest) h = (h, omega arith)

  -- ---- blocks

  block_numbered : (b : Block) → IsWellFormedBlock C f b → All (NamesFact f.kinds f.scopes) b.facts → block_numbers C f b ≡ None
  block_numbered b h n =
      let some = unless (nat_lt 0 (length b.code)) OutOfCode in
      let q = begun (facts_known b.facts) b.code h in
      both (first_in (fact_numbers f) b.facts) (first_of some (code_numbers C f b.code))
      (in_none (fact_numbers f) b.facts (All-weaker (NamesFact f.kinds f.scopes) (λ x. fact_numbers f x ≡ None) (entry_fact C f) b.facts n))
      (both some (code_numbers C f b.code) (unless_true (nat_lt 0 (length b.code)) OutOfCode (is_less 0 (length b.code) q.1)) (in_range (facts_known b.facts) b.code q.0))

  named : (x : Fact) → NamesFact f.kinds f.scopes x → naming_fault f x ≡ None
  named x h = unless_true (names_fact f.kinds f.scopes x) OperandKind ((names_decides f.kinds f.scopes x).1 h)

  block_unfaulted : (b : Block) → IsWellFormedBlock C f b → All (NamesFact f.kinds f.scopes) b.facts → IsGuardedBlock b → block_fault C f b ≡ None
  block_unfaulted b h n g =
      both (first_in (naming_fault f) b.facts) (code_fault C f (facts_known b.facts) b.code)
      (in_none (naming_fault f) b.facts (All-weaker (NamesFact f.kinds f.scopes) (λ x. naming_fault f x ≡ None) named b.facts n))
      (unfaulted (facts_known b.facts) b.code (begun (facts_known b.facts) b.code h).0 g)

  known_first : (facts : List Fact) → All (NamesFact f.kinds f.scopes) facts → AreKnown at_entry facts → first_in (beginning_fault f) facts ≡ None
  known_first [] n h = refl
  known_first (x ∷ facts) n h =
      both (beginning_fault f x) (first_in (beginning_fault f) facts)
      (both (naming_fault f x) (unless (is_known at_entry x) EntryFacts) (named x (All-head (NamesFact f.kinds f.scopes) x facts n)) (unless_true (is_known at_entry x) EntryFacts ((known_decides at_entry x).1 h.0)))
      (known_first facts (All-tail (NamesFact f.kinds f.scopes) x facts n) h.1)

  -- ---- a function

  abbrev Named : Block → Type 0
  Named b = All (NamesFact f.kinds f.scopes) b.facts

  first_named : (b : Block) → slice_get f.blocks 0 ≡ Some b → All Named f.blocks → Named b
  first_named b e all = from f.blocks e all where
    from : (bs : List Block) → slice_get bs 0 ≡ Some b → All Named bs → Named b
    from [] i h = absurd (cc i)
    from (x ∷ xs) i h = let s : x ≡ b = cc i in subst Named s (All-head Named x xs h)

  pub function_numbered : IsWellFormedFunction C f → NamesFacts f → f.scopes ≤ 4 → NamesLayouts (length C.head.layouts) f → function_numbers C f ≡ None
  function_numbered h n l y =
      let some = unless (nat_lt 0 (length f.blocks)) OutOfCode in
      let result = unless (is_result_kind (length C.head.layouts) f.result) OperandKind in
      let few = unless (nat_le f.parameters (length f.kinds)) OperandKind in
      let four = unless (nat_le f.scopes 4) TooManyScopes in
      let kinds = first_in (kind_fault (length C.head.layouts)) f.kinds in
      let outer = both result (first_of few (first_of kinds four)) (unless_true (is_result_kind (length C.head.layouts) f.result) OperandKind y.result)
      (both few (first_of kinds four) (unless_true (nat_le f.parameters (length f.kinds)) OperandKind (le-leb f.parameters (length f.kinds) h.parameters))
      (both kinds four
      (in_none (kind_fault (length C.head.layouts)) f.kinds (All-weaker (λ k. names_layout (length C.head.layouts) k ≡ true) (λ k. kind_fault (length C.head.layouts) k ≡ None) (λ k t. unless_true (names_layout (length C.head.layouts) k) OperandKind t) f.kinds y.kinds))
      (unless_true (nat_le f.scopes 4) TooManyScopes (le-leb f.scopes 4 l)))) in
      both (outer_numbers C f) (first_of some (first_in (block_numbers C f) f.blocks)) outer
      (both some (first_in (block_numbers C f) f.blocks) (unless_true (nat_lt 0 (length f.blocks)) OutOfCode (is_less 0 (length f.blocks) (slice_get_within f.blocks 0 h.begins.0 h.begins.1)))
      (in_none (block_numbers C f) f.blocks (λ i d b. block_numbered _ (h.blocks i d b) (n i d b))))

  pub function_unfaulted : IsWellFormedFunction C f → NamesFacts f → IsGuardedFunction f → function_fault C f ≡ None
  function_unfaulted h n g =
      both (beginning f (slice_get f.blocks 0)) (first_in (block_fault C f) f.blocks) (rw h.begins.1 (known_first h.begins.0.facts (first_named h.begins.0 h.begins.1 n) h.begins.2))
      (in_none (block_fault C f) f.blocks (λ i d b. block_unfaulted _ (h.blocks i d b) (n i d b) (g i d b)))

-- ---- an image

each : (gs : List Function) → most_scopes gs ≤ 4 → All (λ (g : Function). g.scopes ≤ 4) gs
each [] l = All-nil (λ (g : Function). g.scopes ≤ 4)
each (g ∷ gs) l = All-cons (λ (h : Function). h.scopes ≤ 4) g gs (omega (arith, l)) (each gs (omega (arith, l)))

layout : (count : ℕ) (cells : List Kind) → All (λ k. is_cell_kind count k ≡ true) cells → layout_fault count cells ≡ None
layout count cells h = in_none (cell_fault count) cells (All-weaker (λ k. is_cell_kind count k ≡ true) (λ k. cell_fault count k ≡ None) (λ k t. unless_true (is_cell_kind count k) OperandKind t) cells h)

pub unfaulted_image : (C : Image) → IsVerified C → NamesItsLayouts C → fault_of C ≡ None
unfaulted_image C h y =
    let count = length C.head.layouts in
    let few = each C.functions h.few in
    let whole = both (first_in (layout_fault count) C.head.layouts) (first_in (function_numbers C) C.functions)
    (in_none (layout_fault count) C.head.layouts (All-weaker (All (λ k. is_cell_kind count k ≡ true)) (λ cells. layout_fault count cells ≡ None) (layout count) C.head.layouts y.layouts))
    (in_none (function_numbers C) C.functions (λ i d l. function_numbered C _ (h.formed.functions i d l) (h.facts i d l) (few i d l) (y.functions i d l))) in
    let main = unless (main_fits (slice_get C.functions 0)) OperandKind in
    both (numbers C) (kinds_and_facts C) whole
    (both main (first_in (function_fault C) C.functions) (unless_true (main_fits (slice_get C.functions 0)) OperandKind h.formed.main)
    (in_none (function_fault C) C.functions (λ i d l. function_unfaulted C _ (h.formed.functions i d l) (h.facts i d l) (h.guarded i d l))))
