-- The first fault of an image: the first of its numbers that is out of range, or else, in reading order, the first kind that does not fit or fact that is
-- not known where it is asked. What is known at the head of a block are its entry facts alone, whether or not anything leads to it.
use Rattle.std.specs.Prelude.{ℕ, not, ◌||◌, List, [], ◌∷◌, Option, Some, None, is_none, slice_get}
use Rattle.code_form.specs.declared.form.Kind.{Kind}
use Rattle.code_form.specs.declared.form.Kind.TheVariants as kind
use Rattle.code_form.specs.declared.form.Fact.{Fact}
use Rattle.code_form.specs.Form.{Instruction, Simple, Aim, Load, Store, Leave, Call, Jump, Branch, Return, ReturnVoid, Error, Block, Function, Image}
use Rattle.code_form.specs.Code.{cell_kind, has, needs_shut, on_kind, op_fits, place_fits}
use Rattle.code_form.specs.Known.{Known, Knows, KnownAimed, after, at_entry, facts_known}
use Rattle.code_form.specs.Asked.{callee_fits}
use Rattle.code_verification.specs.WellFormed.{main_fits}
use Rattle.scope_verifier_laws.specs.declared.fault.VerifyFault.{VerifyFault}
use Rattle.scope_verifier_laws.specs.declared.fault.VerifyFault.TheVariants.{NotAimed, NotChecked, OpenScope, OutOfCode, OperandKind, EntryFacts}
use Rattle.scope_verifier_laws.specs.Decided.{are_known, are_shut, is_checked, is_known, names_fact}
use Rattle.scope_verifier_laws.specs.First.{first_in, first_of, unless}
use Rattle.scope_verifier_laws.specs.Numbers.{numbers, scope_fault}

-- the entry facts of a block, which is there, are known
abbrev pub entering_fault : Known → Option Block → Option VerifyFault
entering_fault k None = Some OutOfCode
entering_fault k (Some b) = unless (are_known k b.facts) EntryFacts

module _ (f : Function) where
  -- register a has the kind of a cell, which is there
  abbrev pub content_fault : ℕ → Option Kind → Option VerifyFault
  content_fault a None = Some NotChecked
  content_fault a (Some k) = unless (has f.kinds a k) OperandKind

  -- all scopes are shut at a call, a return and an allocation
  abbrev pub open_fault : Known → Instruction → Option VerifyFault
  open_fault k i = unless (not (needs_shut i) || are_shut k f.scopes) OpenScope

  -- what an entry fact names
  abbrev pub naming_fault : Fact → Option VerifyFault
  naming_fault x = unless (names_fact f.kinds f.scopes x) OperandKind

  -- an entry fact of the first block holds at the entry of the function
  abbrev pub beginning_fault : Fact → Option VerifyFault
  beginning_fault x = first_of (naming_fault x) (unless (is_known at_entry x) EntryFacts)

  -- so does each of them
  abbrev pub beginning : Option Block → Option VerifyFault
  beginning None = Some OutOfCode
  beginning (Some b) = first_in beginning_fault b.facts

module _ (C : Image) (f : Function) where
  -- a scope is aimed at a place that was checked, at a cell of the kind of register a
  abbrev pub place_fault : Known → Knows → ℕ → Option VerifyFault
  place_fault k (KnownAimed r off disp) a =
      first_of (unless (place_fits f.kinds r off) OperandKind) (first_of (unless (is_checked k r off) NotChecked) (content_fault f a (cell_kind C.head f.kinds r disp)))
  place_fault k _ a = Some NotAimed

  -- the kinds of an instruction, and the facts that it asks
  abbrev pub fitting_fault : Known → Instruction → Option VerifyFault
  fitting_fault k (Simple o) = unless (op_fits C.head f.kinds o) OperandKind
  fitting_fault k (Aim s r off disp) = first_of (scope_fault f s) (unless (place_fits f.kinds r off) OperandKind)
  fitting_fault k (Load to s) = first_of (scope_fault f s) (place_fault k (k.scope s) to)
  fitting_fault k (Store s from) = first_of (scope_fault f s) (place_fault k (k.scope s) from)
  fitting_fault k (Leave s) = scope_fault f s
  fitting_fault k (Call to g args) = unless (callee_fits C f (slice_get C.functions g) to args) OperandKind
  fitting_fault k (Jump b) = entering_fault k (slice_get f.blocks b)
  fitting_fault k (Branch a b c) = first_of (unless (has f.kinds a kind.Bool) OperandKind) (first_of (entering_fault k (slice_get f.blocks b)) (entering_fault k (slice_get f.blocks c)))
  fitting_fault k (Return a) = unless (on_kind (λ j. has f.kinds a j) f.result) OperandKind
  fitting_fault k ReturnVoid = unless (is_none f.result) OperandKind
  fitting_fault k (Error a) = unless (has f.kinds a kind.Text) OperandKind

  -- the fault of an instruction before which so much is known
  abbrev pub instruction_fault : Known → Instruction → Option VerifyFault
  instruction_fault k i = first_of (fitting_fault k i) (open_fault f k i)

  -- the first fault of instructions
  abbrev pub code_fault : Known → List Instruction → Option VerifyFault
  code_fault k [] = None
  code_fault k (i ∷ rest) = first_of (instruction_fault k i) (code_fault (after i k) rest)

  -- the first fault of a block
  abbrev pub block_fault : Block → Option VerifyFault
  block_fault b = first_of (first_in (naming_fault f) b.facts) (code_fault (facts_known b.facts) b.code)

  -- the first fault of a function
  abbrev pub function_fault : Option VerifyFault
  function_fault = first_of (beginning f (slice_get f.blocks 0)) (first_in block_fault f.blocks)

-- the kinds and facts of an image, `main` first
abbrev pub kinds_and_facts : Image → Option VerifyFault
kinds_and_facts C = first_of (unless (main_fits (slice_get C.functions 0)) OperandKind) (first_in (function_fault C) C.functions)

-- the first fault of an image
abbrev pub fault_of : Image → Option VerifyFault
fault_of C = first_of (numbers C) (kinds_and_facts C)
