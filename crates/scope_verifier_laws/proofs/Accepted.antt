-- An image without a fault is verified.
use Rattle.std.proofs.Common.{◌≡◌, ℕ, ◌<◌, ◌≤◌, Bool, true, false, Option, Some, None, List, [], ◌∷◌, length, refl, arith}
use Rattle.std.specs.Prelude.{◌||◌, All, is_none, nat_le, nat_lt, not, slice_get}
use Rattle.std.proofs.lemmas.Bool.{leb-true}
use Rattle.std.proofs.lemmas.List.Elements.{All-head, All-tail, All-weaker}
use Rattle.code_form.specs.declared.form.Kind.{Kind}
use Rattle.code_form.specs.declared.form.Kind.TheVariants as kind
use Rattle.code_form.specs.declared.form.Fact.{Fact}
use Rattle.code_form.specs.Form.{Instruction, Simple, Aim, Load, Store, Leave, Call, Jump, Branch, Return, ReturnVoid, Error, Block, Function, Image}
use Rattle.code_form.specs.Code.{cell_kind, has, most_scopes, needs_shut, on_kind, op_fits, place_fits}
use Rattle.code_form.specs.Known.{AreKnown, Known, Knows, KnownAimed, KnownShut, Unknown, after, at_entry, facts_known}
use Rattle.code_form.specs.Asked.{Enters, Fits, IsAimChecked, IsAimedAt, IsAllowed, IsGuarded, callee_fits, leads_out}
use Rattle.code_verification.specs.Verified.{AreGuarded, IsGuardedBlock, IsGuardedFunction, IsVerified, NamesFact, NamesFacts}
use Rattle.code_verification.specs.WellFormed.{IsRest, IsWellFormedBlock, IsWellFormedFunction, main_fits}
use Rattle.scope_verifier_laws.specs.declared.fault.VerifyFault.TheVariants.{NotChecked, OpenScope, OutOfCode, OperandKind, EntryFacts, TooManyScopes}
use Rattle.scope_verifier_laws.specs.Decided.{are_known, are_shut, is_checked, is_known, names_fact}
use Rattle.scope_verifier_laws.specs.Faults.{beginning, beginning_fault, block_fault, code_fault, content_fault, entering_fault, fault_of, fitting_fault, function_fault, instruction_fault, kinds_and_facts, naming_fault, open_fault, place_fault}
use Rattle.scope_verifier_laws.specs.First.{first_in, first_of, unless}
use Rattle.scope_verifier_laws.specs.Numbers.{block_numbers, code_numbers, fact_numbers, function_numbers, instruction_numbers, is_placed, is_result_kind, kind_fault, layout_fault, numbers, outer_numbers, scope_fault}
use Rattle.scope_verifier_laws.proofs.Firsts.{holds, neither, none_in, where_true}
use Rattle.scope_verifier_laws.proofs.Deciding.{all_decides, checked_decides, known_decides, less, names_decides, shut_below}

module _ (C : Image) (f : Function) where
  -- ---- an instruction

  contents : (a : ℕ) (o : Option Kind) → content_fault f a o ≡ None → on_kind (λ k. has f.kinds a k) o ≡ true
  contents a None e = absurd (cc e)
  contents a (Some k) e = holds (has f.kinds a k) OperandKind e

  place : (k : Known) (z : Knows) (a : ℕ) → place_fault C f k z a ≡ None → IsAimedAt C f z a × IsAimChecked k z
  place k Unknown a e = absurd (cc e)
  place k KnownShut a e = absurd (cc e)
  place k (KnownAimed r off disp) a e =
      let p = unless (place_fits f.kinds r off) OperandKind in
      let c = unless (is_checked k r off) NotChecked in
      let t = content_fault f a (cell_kind C.head f.kinds r disp) in
      let q = neither p (first_of c t) e in
      let w = neither c t q.1 in
      ((holds (place_fits f.kinds r off) OperandKind q.0, contents a (cell_kind C.head f.kinds r disp) w.1), (checked_decides k r off).0 (holds (is_checked k r off) NotChecked w.0))

  scope : (s : ℕ) → scope_fault f s ≡ None → s < f.scopes
  scope s e = less s f.scopes (holds (nat_lt s f.scopes) TooManyScopes e)

  enters : (k : Known) (b : ℕ) (o : Option Block) → slice_get f.blocks b ≡ o → entering_fault k o ≡ None → Enters C f k b
  enters k b None i e = absurd (cc e)
  enters k b (Some x) i e = (x, i, (all_decides k x.facts).0 (holds (are_known k x.facts) EntryFacts e))

  aimed : (k : Known) (s a : ℕ) → first_of (scope_fault f s) (place_fault C f k (k.scope s) a) ≡ None → ((s < f.scopes) × IsAimedAt C f (k.scope s) a) × IsAimChecked k (k.scope s)
  aimed k s a e =
      let q = neither (scope_fault f s) (place_fault C f k (k.scope s) a) e in
      let p = place k (k.scope s) a q.1 in
      ((scope s q.0, p.0), p.1)

  pub fits : (k : Known) (i : Instruction) → fitting_fault C f k i ≡ None → Fits C f k i × IsGuarded k i
  fits k (Simple o) e = (holds (op_fits C.head f.kinds o) OperandKind e, tt)
  fits k (Aim s r off disp) e =
      let q = neither (scope_fault f s) (unless (place_fits f.kinds r off) OperandKind) e in
      ((holds (place_fits f.kinds r off) OperandKind q.1, scope s q.0), tt)
  fits k (Load to s) e = aimed k s to e
  fits k (Store s from) e = aimed k s from e
  fits k (Leave s) e = (scope s e, tt)
  fits k (Call to g args) e = (holds (callee_fits C f (slice_get C.functions g) to args) OperandKind e, tt)
  fits k (Jump b) e = (enters k b (slice_get f.blocks b) refl e, tt)
  fits k (Branch a b c) e =
      let x = entering_fault k (slice_get f.blocks b) in
      let y = entering_fault k (slice_get f.blocks c) in
      let q = neither (unless (has f.kinds a kind.Bool) OperandKind) (first_of x y) e in
      let w = neither x y q.1 in
      ((holds (has f.kinds a kind.Bool) OperandKind q.0, enters k b (slice_get f.blocks b) refl w.0, enters k c (slice_get f.blocks c) refl w.1), tt)
  fits k (Return a) e = (holds (on_kind (λ j. has f.kinds a j) f.result) OperandKind e, tt)
  fits k ReturnVoid e = (holds (is_none f.result) OperandKind e, tt)
  fits k (Error a) e = (holds (has f.kinds a kind.Text) OperandKind e, tt)

  pub allowed : (k : Known) (i : Instruction) → instruction_fault C f k i ≡ None → IsAllowed C f k i × IsGuarded k i
  allowed k i e =
      let q = neither (fitting_fault C f k i) (open_fault f k i) e in
      let w = fits k i q.0 in
      let o = holds (not (needs_shut i) || are_shut k f.scopes) OpenScope q.1 in
      (((λ n. shut_below k f.scopes (where_true (needs_shut i) (are_shut k f.scopes) o n)), w.0), w.1)

  -- ---- instructions

  last : (b : Bool) (X Y : Type 0) → b ≡ true → X → elim b as (λ b. Type 0) [ true ↦ X | false ↦ Y ]
  last true X Y e x = x
  last false X Y e x = absurd (cc e)

  goes : (b : Bool) (X Y : Type 0) → not b ≡ true → Y → elim b as (λ b. Type 0) [ true ↦ X | false ↦ Y ]
  goes true X Y e y = absurd (cc e)
  goes false X Y e y = y

  behind : (k : Known) (i : Instruction) (rest : List Instruction) → is_placed i rest ≡ true → (0 < length rest → IsRest C f (after i k) rest)
      → elim (leads_out i) as (λ b. Type 0) [ true ↦ rest ≡ [] | false ↦ IsRest C f (after i k) rest ]
  behind k i [] e h = let none : List Instruction = [] in last (leads_out i) (none ≡ none) (IsRest C f (after i k) []) e refl
  behind k i (j ∷ rest) e h = goes (leads_out i) (j ∷ rest ≡ []) (IsRest C f (after i k) (j ∷ rest)) e (h (omega arith))

  pub rests : (k : Known) (is : List Instruction) → 0 < length is → code_numbers C f is ≡ None → code_fault C f k is ≡ None → IsRest C f k is
  rests k [] l n e = absurd (let z : ⊥ = omega arith in z)
  rests k (i ∷ rest) l n e =
      let p = neither (unless (is_placed i rest) OutOfCode) (first_of (instruction_numbers C f i) (code_numbers C f rest)) n in
      let m = neither (instruction_numbers C f i) (code_numbers C f rest) p.1 in
      let q = neither (instruction_fault C f k i) (code_fault C f (after i k) rest) e in
      ((allowed k i q.0).0, behind k i rest (holds (is_placed i rest) OutOfCode p.0) (λ t. rests (after i k) rest t m.1 q.1))

  pub guarded : (k : Known) (is : List Instruction) → code_fault C f k is ≡ None → AreGuarded k is
  guarded k [] e = tt
  guarded k (i ∷ rest) e = let q = neither (instruction_fault C f k i) (code_fault C f (after i k) rest) e in ((allowed k i q.0).1, guarded (after i k) rest q.1)

  -- ---- blocks

  block_formed : (b : Block) → block_numbers C f b ≡ None → block_fault C f b ≡ None → IsWellFormedBlock C f b
  block_formed b n e =
      let some = unless (nat_lt 0 (length b.code)) OutOfCode in
      let p = neither (first_in (fact_numbers f) b.facts) (first_of some (code_numbers C f b.code)) n in
      let m = neither some (code_numbers C f b.code) p.1 in
      let q = neither (first_in (naming_fault f) b.facts) (code_fault C f (facts_known b.facts) b.code) e in
      rests (facts_known b.facts) b.code (less 0 (length b.code) (holds (nat_lt 0 (length b.code)) OutOfCode m.0)) m.1 q.1

  block_guarded : (b : Block) → block_fault C f b ≡ None → IsGuardedBlock b
  block_guarded b e = let q = neither (first_in (naming_fault f) b.facts) (code_fault C f (facts_known b.facts) b.code) e in guarded (facts_known b.facts) b.code q.1

  named : (x : Fact) → naming_fault f x ≡ None → NamesFact f.kinds f.scopes x
  named x e = (names_decides f.kinds f.scopes x).0 (holds (names_fact f.kinds f.scopes x) OperandKind e)

  block_named : (b : Block) → block_fault C f b ≡ None → All (NamesFact f.kinds f.scopes) b.facts
  block_named b e =
      let q = neither (first_in (naming_fault f) b.facts) (code_fault C f (facts_known b.facts) b.code) e in
      All-weaker (λ x. naming_fault f x ≡ None) (NamesFact f.kinds f.scopes) named b.facts (none_in (naming_fault f) b.facts q.0)

  known_first : (facts : List Fact) → first_in (beginning_fault f) facts ≡ None → AreKnown at_entry facts
  known_first [] e = tt
  known_first (x ∷ facts) e =
      let q = neither (beginning_fault f x) (first_in (beginning_fault f) facts) e in
      let w = neither (naming_fault f x) (unless (is_known at_entry x) EntryFacts) q.0 in
      ((known_decides at_entry x).0 (holds (is_known at_entry x) EntryFacts w.1), known_first facts q.1)

  begins : (o : Option Block) → slice_get f.blocks 0 ≡ o → beginning f o ≡ None → Enters C f at_entry 0
  begins None i e = absurd (cc e)
  begins (Some b) i e = (b, i, known_first b.facts e)

  -- ---- a function

  all_blocks : function_fault C f ≡ None → All (λ b. block_fault C f b ≡ None) f.blocks
  all_blocks e = none_in (block_fault C f) f.blocks (neither (beginning f (slice_get f.blocks 0)) (first_in (block_fault C f) f.blocks) e).1

  pub function_formed : function_numbers C f ≡ None → function_fault C f ≡ None → IsWellFormedFunction C f
  function_formed n e =
      let some = unless (nat_lt 0 (length f.blocks)) OutOfCode in
      let result = unless (is_result_kind (length C.head.layouts) f.result) OperandKind in
      let few = unless (nat_le f.parameters (length f.kinds)) OperandKind in
      let kinds = first_of (first_in (kind_fault (length C.head.layouts)) f.kinds) (unless (nat_le f.scopes 4) TooManyScopes) in
      let p = neither (outer_numbers C f) (first_of some (first_in (block_numbers C f) f.blocks)) n in
      let m = neither some (first_in (block_numbers C f) f.blocks) p.1 in
      let o = neither few kinds (neither result (first_of few kinds) p.0).1 in
      let all = none_in (block_numbers C f) f.blocks m.1 in
      let right = all_blocks e in
      record {
        parameters = leb-true f.parameters (length f.kinds) (holds (nat_le f.parameters (length f.kinds)) OperandKind o.0);
        begins = begins (slice_get f.blocks 0) refl (neither (beginning f (slice_get f.blocks 0)) (first_in (block_fault C f) f.blocks) e).0;
        blocks = λ i d l. block_formed _ (all i d l) (right i d l);
      }

  pub function_few : function_numbers C f ≡ None → f.scopes ≤ 4
  function_few n =
      let some = unless (nat_lt 0 (length f.blocks)) OutOfCode in
      let result = unless (is_result_kind (length C.head.layouts) f.result) OperandKind in
      let few = unless (nat_le f.parameters (length f.kinds)) OperandKind in
      let four = unless (nat_le f.scopes 4) TooManyScopes in
      let kinds = first_in (kind_fault (length C.head.layouts)) f.kinds in
      let p = neither (outer_numbers C f) (first_of some (first_in (block_numbers C f) f.blocks)) n in
      let o = neither few (first_of kinds four) (neither result (first_of few (first_of kinds four)) p.0).1 in
      leb-true f.scopes 4 (holds (nat_le f.scopes 4) TooManyScopes (neither kinds four o.1).1)

  pub function_named : function_fault C f ≡ None → NamesFacts f
  function_named e = All-weaker (λ b. block_fault C f b ≡ None) (λ (b : Block). All (NamesFact f.kinds f.scopes) b.facts) block_named f.blocks (all_blocks e)

  pub function_guarded : function_fault C f ≡ None → IsGuardedFunction f
  function_guarded e = All-weaker (λ b. block_fault C f b ≡ None) IsGuardedBlock block_guarded f.blocks (all_blocks e)

-- ---- an image

most : (gs : List Function) → All (λ (g : Function). g.scopes ≤ 4) gs → most_scopes gs ≤ 4
most [] h = omega arith
most (g ∷ gs) h =
    let a : g.scopes ≤ 4 = All-head (λ (g : Function). g.scopes ≤ 4) g gs h in
    let b : most_scopes gs ≤ 4 = most gs (All-tail (λ (g : Function). g.scopes ≤ 4) g gs h) in
    omega (arith, a, b)

pub accepted : (C : Image) → fault_of C ≡ None → IsVerified C
accepted C e =
    let main = unless (main_fits (slice_get C.functions 0)) OperandKind in
    let q = neither (numbers C) (kinds_and_facts C) e in
    let w = neither main (first_in (function_fault C) C.functions) q.1 in
    let all = none_in (function_numbers C) C.functions (neither (first_in (layout_fault (length C.head.layouts)) C.head.layouts) (first_in (function_numbers C) C.functions) q.0).1 in
    let right = none_in (function_fault C) C.functions w.1 in
    record {
      formed = record {
        main = holds (main_fits (slice_get C.functions 0)) OperandKind w.0;
        functions = λ i d l. function_formed C _ (all i d l) (right i d l);
      };
      few = most C.functions (All-weaker (λ g. function_numbers C g ≡ None) (λ (g : Function). g.scopes ≤ 4) (function_few C) C.functions all);
      facts = All-weaker (λ g. function_fault C g ≡ None) NamesFacts (function_named C) C.functions right;
      guarded = All-weaker (λ g. function_fault C g ≡ None) IsGuardedFunction (function_guarded C) C.functions right;
    }
