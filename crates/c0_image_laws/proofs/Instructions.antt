-- Instructions and entry facts that fit an image whose lists have few items can be written.
use Rattle.std.proofs.Common.{◌≡◌, ℕ, zero, suc, ◌<◌, ◌≤◌, Bool, true, false, Option, Some, None, List, [], ◌∷◌, length, refl, sym, subst, arith}
use Rattle.std.specs.Prelude.{◌&&◌, is_some, nat_lt, slice_get}
use Rattle.std.specs.List.{AllByRecursion, list_all}
use Rattle.std.proofs.lemmas.Bool.{ltb-true}
use Rattle.code_form.specs.declared.form.Fact.{Fact}
use Rattle.code_form.specs.declared.form.Fact.TheVariants as fact
use Rattle.code_form.specs.declared.form.Kind.{Kind}
use Rattle.code_form.specs.declared.form.Kind.TheVariants as kind
use Rattle.code_form.specs.declared.form.Operation.{Operation}
use Rattle.code_form.specs.declared.form.Operation.TheVariants.{Const, TextOf, BoolOf, CharOf, Null, Move, Binary, Unary, Compare, CheckNull, CheckIndex, Len, Prefetch, Alloc, AllocArray, Print, Println, Printint, Printbool, Printchar, Flush, Assert}
use Rattle.code_form.specs.declared.form.Relation.{Relation}
use Rattle.code_form.specs.declared.form.UnaryOperator.TheVariants as operator
use Rattle.code_form.specs.Form.{Instruction, Simple, Aim, Load, Store, Leave, Call, Jump, Branch, Return, ReturnVoid, Error, Function, Image}
use Rattle.code_form.specs.Code.{args_fit, has, has_size, is_array, is_array_of, is_compared, is_pointer, is_reference, on_kind, op_fits, place_fits, result_fits}
use Rattle.code_form.specs.Counts.{few_arguments, is_few}
use Rattle.code_form.specs.Known.{Known, after}
use Rattle.code_form.specs.Asked.{Enters, callee_fits, leads_out}
use Rattle.code_verification.specs.Verified.{NamesFact}
use Rattle.code_verification.specs.WellFormed.{IsRest}
use Rattle.image_bytes.specs.Encodable.{FactFits, InstructionFits, IsByte, IsWord, OptionalFits}
use Rattle.scope_verifier_laws.proofs.Firsts.{both_true}
use Rattle.scope_verifier_laws.proofs.Ranges.{aimed_there, array_there, found, has_there, like_there, offset_there, on_there, there, to_there}
use Rattle.c0_well_formed.specs.Laws.{NamesNumber, NamesNumbers, TellsNumber}
use Rattle.c0_image_laws.proofs.Numbers.{HasFew, count_fits, item_fits, optional_fits, size_fits}

module _ (C : Image) (f : Function) (few : HasFew C) (kinds : is_few f.kinds ≡ true) (blocks : is_few f.blocks ≡ true) (scopes : f.scopes ≤ 4) where
  -- ---- registers, scopes, blocks and functions

  register : (r : ℕ) → nat_lt r (length f.kinds) ≡ true → IsWord r
  register r h = item_fits f.kinds r kinds h

  optional : (r : ℕ) → nat_lt r (length f.kinds) ≡ true → OptionalFits (Some r)
  optional r h = optional_fits f.kinds r kinds h

  of_kind : (r : ℕ) (k : Kind) → has f.kinds r k ≡ true → IsWord r
  of_kind r k h = register r (has_there f.kinds r k h)

  place : (r : ℕ) (off : Option ℕ) → place_fits f.kinds r off ≡ true → IsWord r × OptionalFits off
  place r None h = (register r (on_there f.kinds is_reference r h), tt)
  place r (Some d) h = (register r (array_there f.kinds d r h), optional d (offset_there f.kinds d r h))

  compared : (r : Relation) (b : ℕ) (o : Option Kind) → on_kind (λ k. is_compared r k && has f.kinds b k) o ≡ true → IsWord b
  compared r b None h = absurd (cc h)
  compared r b (Some k) h = of_kind b k (both_true (is_compared r k) (has f.kinds b k) h).1

  scope : (s : ℕ) → s < f.scopes → IsByte s
  scope s l = omega (arith, l, scopes)

  block : (k : Known) (b : ℕ) → Enters C f k b → IsWord b
  block k b h = item_fits f.blocks b blocks (found f.blocks b h.0 h.1)

  -- ---- instructions

  operation_fits : (o : Operation) → op_fits C.head f.kinds o ≡ true → NamesNumber o → InstructionFits (Simple o)
  operation_fits (Const d z) h n = (of_kind d kind.Int h, (n, tt))
  operation_fits (TextOf d t) h n =
      let q = both_true (has f.kinds d kind.Text) (nat_lt t (suc (length C.head.texts))) h in
      let l : t < suc (length C.head.texts) = ltb-true t (suc (length C.head.texts)) q.1 in
      let m : length C.head.texts < 4294967296 = count_fits C.head.texts few.texts in
      let word : IsWord t = omega (arith, l, m) in
      (of_kind d kind.Text q.0, (word, tt))
  operation_fits (BoolOf d b) h n = (of_kind d kind.Bool h, (tt, tt))
  operation_fits (CharOf d c) h n = (of_kind d kind.Char h, (n, tt))
  operation_fits (Null d) h n = (register d (on_there f.kinds is_reference d h), tt)
  operation_fits (Move d a) h n = (register d (like_there f.kinds d (slice_get f.kinds a) h), (register a (on_there f.kinds (λ k. has f.kinds d k) a h), tt))
  operation_fits (Binary o d a b) h n =
      let q = both_true (has f.kinds d kind.Int) (has f.kinds a kind.Int && has f.kinds b kind.Int) h in
      let w = both_true (has f.kinds a kind.Int) (has f.kinds b kind.Int) q.1 in
      (of_kind d kind.Int q.0, (of_kind a kind.Int w.0, (of_kind b kind.Int w.1, tt)))
  operation_fits (Unary operator.Not d a) h n = let q = both_true (has f.kinds d kind.Bool) (has f.kinds a kind.Bool) h in (of_kind d kind.Bool q.0, (of_kind a kind.Bool q.1, tt))
  operation_fits (Unary operator.Negate d a) h n = let q = both_true (has f.kinds d kind.Int) (has f.kinds a kind.Int) h in (of_kind d kind.Int q.0, (of_kind a kind.Int q.1, tt))
  operation_fits (Unary operator.Complement d a) h n = let q = both_true (has f.kinds d kind.Int) (has f.kinds a kind.Int) h in (of_kind d kind.Int q.0, (of_kind a kind.Int q.1, tt))
  operation_fits (Compare r d a b) h n =
      let q = both_true (has f.kinds d kind.Bool) (on_kind (λ k. is_compared r k && has f.kinds b k) (slice_get f.kinds a)) h in
      (of_kind d kind.Bool q.0, (register a (on_there f.kinds (λ k. is_compared r k && has f.kinds b k) a q.1), (compared r b (slice_get f.kinds a) q.1, tt)))
  operation_fits (CheckNull r) h n = (register r (on_there f.kinds is_pointer r h), tt)
  operation_fits (CheckIndex d r i size) h n =
      let q = both_true (is_array_of (slice_get f.kinds d) (slice_get f.kinds r)) (has f.kinds i kind.Int && has_size C.head size (slice_get f.kinds r)) h in
      let w = both_true (has f.kinds i kind.Int) (has_size C.head size (slice_get f.kinds r)) q.1 in
      (register d (offset_there f.kinds d r q.0), (register r (array_there f.kinds d r q.0), (of_kind i kind.Int w.0, (size_fits C.head few.each_layout size (slice_get f.kinds r) w.1, tt))))
  operation_fits (Len d r) h n = let q = both_true (has f.kinds d kind.Int) (on_kind is_array (slice_get f.kinds r)) h in (of_kind d kind.Int q.0, (register r (on_there f.kinds is_array r q.1), tt))
  operation_fits (Prefetch r off disp) h n = let q = place r off h in (q.0, (q.1, (n, tt)))
  operation_fits (Alloc d l) h n =
      let q = both_true (has f.kinds d (kind.Ptr l)) (is_some (slice_get C.head.layouts l)) h in
      (of_kind d (kind.Ptr l) q.0, (item_fits C.head.layouts l few.layouts (there C.head.layouts l q.1), tt))
  operation_fits (AllocArray d l a) h n =
      let q = both_true (has f.kinds d (kind.Arr l)) (has f.kinds a kind.Int && is_some (slice_get C.head.layouts l)) h in
      let w = both_true (has f.kinds a kind.Int) (is_some (slice_get C.head.layouts l)) q.1 in
      (of_kind d (kind.Arr l) q.0, (item_fits C.head.layouts l few.layouts (there C.head.layouts l w.1), (of_kind a kind.Int w.0, tt)))
  operation_fits (Print a) h n = (of_kind a kind.Text h, tt)
  operation_fits (Println a) h n = (of_kind a kind.Text h, tt)
  operation_fits (Printint a) h n = (of_kind a kind.Int h, tt)
  operation_fits (Printbool a) h n = (of_kind a kind.Bool h, tt)
  operation_fits (Printchar a) h n = (of_kind a kind.Char h, tt)
  operation_fits Flush h n = tt
  operation_fits (Assert a) h n = (of_kind a kind.Bool h, tt)

  arguments_fit : (theirs : List Kind) (n : ℕ) (args : List ℕ) → args_fit f.kinds theirs n args ≡ true → AllByRecursion IsWord args
  arguments_fit theirs n [] h = tt
  arguments_fit theirs zero (a ∷ args) h = absurd (cc h)
  arguments_fit [] (suc n) (a ∷ args) h = absurd (cc h)
  arguments_fit (k ∷ theirs) (suc n) (a ∷ args) h =
      let q = both_true (has f.kinds a k) (args_fit f.kinds theirs n args) h in
      (of_kind a k q.0, arguments_fit theirs n args q.1)

  to_fits : (result : Option Kind) (to : Option ℕ) → result_fits f.kinds result to ≡ true → OptionalFits to
  to_fits result None h = tt
  to_fits result (Some d) h = optional d (to_there C f result d h)

  call_fits : (o : Option Function) (to : Option ℕ) (g : ℕ) (args : List ℕ) → slice_get C.functions g ≡ o → callee_fits C f o to args ≡ true → is_few args ≡ true → InstructionFits (Call to g args)
  call_fits None to g args e h short = absurd (cc h)
  call_fits (Some x) to g args e h short =
      let q = both_true (args_fit f.kinds x.kinds x.parameters args) (result_fits f.kinds x.result to) h in
      (to_fits x.result to q.1, (item_fits C.functions g few.functions (found C.functions g x e), ((count_fits args short, arguments_fit x.kinds x.parameters args q.0), tt)))

  instruction_fits : (i : Instruction) (rest : List Instruction) (k : Known) → IsRest C f k (i ∷ rest) → NamesNumbers i → few_arguments i ≡ true → InstructionFits i
  instruction_fits (Simple o) rest k h n short = operation_fits o h.0.1 n
  instruction_fits (Aim s r off disp) rest k h n short = let q = place r off h.0.1.0 in (scope s h.0.1.1, (q.0, (q.1, (n, tt))))
  instruction_fits (Load to s) rest k h n short = (register to (aimed_there C f (k.scope s) to h.0.1.1), (scope s h.0.1.0, tt))
  instruction_fits (Store s from) rest k h n short = (scope s h.0.1.0, (register from (aimed_there C f (k.scope s) from h.0.1.1), tt))
  instruction_fits (Leave s) rest k h n short = (scope s h.0.1, tt)
  instruction_fits (Call to g args) rest k h n short = call_fits (slice_get C.functions g) to g args refl h.0.1 short
  instruction_fits (Jump b) rest k h n short = (block k b h.0.1, tt)
  instruction_fits (Branch a b c) rest k h n short = (of_kind a kind.Bool h.0.1.0, (block k b h.0.1.1, (block k c h.0.1.2, tt)))
  instruction_fits (Return a) rest k h n short = (register a (like_there f.kinds a f.result h.0.1), tt)
  instruction_fits ReturnVoid rest k h n short = tt
  instruction_fits (Error a) rest k h n short = (of_kind a kind.Text h.0.1, tt)

  -- what stands behind an instruction, where something stands there
  behind : (Q : List Instruction → Type 0) (out : Bool) (rest : List Instruction) (k : Known) → Q [] → (IsRest C f k rest → Q rest) → elim out as (λ b. Type 0) [ true ↦ rest ≡ [] | false ↦ IsRest C f k rest ] → Q rest
  behind Q true rest k none go e = subst Q (sym e) none
  behind Q false rest k none go h = go h

  pub code_fits : (is : List Instruction) (k : Known) → IsRest C f k is → AllByRecursion NamesNumbers is → list_all few_arguments is ≡ true → AllByRecursion InstructionFits is
  code_fits [] k h n short = tt
  code_fits (i ∷ rest) k h n short =
      let q = both_true (few_arguments i) (list_all few_arguments rest) short in
      (instruction_fits i rest k h n.0 q.0, behind (AllByRecursion InstructionFits) (leads_out i) rest (after i k) tt (λ r. code_fits rest (after i k) r n.1 q.1) h.1)

  -- ---- entry facts

  pub fact_fits : (x : Fact) → NamesFact f.kinds f.scopes x → TellsNumber x → FactFits x
  fact_fits (fact.Nonnull r) h n = register r (on_there f.kinds is_pointer r h)
  fact_fits (fact.Inside d r) h n = (register d (offset_there f.kinds d r h), register r (array_there f.kinds d r h))
  fact_fits (fact.Aimed s r off disp) h n = let q = place r off h.1 in (scope s h.0, (q.0, (q.1, n)))
  fact_fits (fact.Shut s) h n = scope s h
