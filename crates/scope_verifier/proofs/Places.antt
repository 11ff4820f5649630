-- Where an instruction and an entry fact fit, there is a place for what they change.
use Rattle.std.proofs.Common.{◌≡◌, ℕ, ◌<◌, true, Option, Some, None, List, length}
use Rattle.std.specs.Prelude.{nat_lt, slice_get}
use Rattle.code_form.specs.declared.form.Kind.{Kind}
use Rattle.code_form.specs.declared.form.Kind.TheVariants as kind
use Rattle.code_form.specs.declared.form.Fact.{Fact}
use Rattle.code_form.specs.declared.form.Fact.TheVariants as fact
use Rattle.code_form.specs.declared.form.Operation.{Operation}
use Rattle.code_form.specs.declared.form.Operation.TheVariants.{Const, TextOf, BoolOf, CharOf, Null, Move, Binary, Unary, Compare, CheckNull, CheckIndex, Len, Prefetch, Alloc, AllocArray, Print, Println, Printint, Printbool, Printchar, Flush, Assert}
use Rattle.code_form.specs.declared.form.UnaryOperator.TheVariants as operator
use Rattle.code_form.specs.Form.{Instruction, Simple, Aim, Load, Store, Leave, Call, Jump, Branch, Return, ReturnVoid, Error, Function, Head, Image}
use Rattle.code_form.specs.Code.{args_fit, has, is_array_of, is_pointer, is_reference, op_fits, result_fits}
use Rattle.code_form.specs.Known.{Known}
use Rattle.code_form.specs.Asked.{Fits, callee_fits}
use Rattle.scope_verifier_laws.specs.declared.fault.VerifyFault.TheVariants.{OperandKind}
use Rattle.scope_verifier_laws.specs.Decided.{names_fact}
use Rattle.scope_verifier_laws.specs.Faults.{instruction_fault, naming_fault}
use Rattle.scope_verifier_laws.proofs.Accepted.{allowed}
use Rattle.scope_verifier_laws.proofs.Deciding.{less, names_decides}
use Rattle.scope_verifier_laws.proofs.Firsts.{both_true, holds}
use Rattle.scope_verifier_laws.proofs.Ranges.{aimed_there, has_there, like_there, offset_there, on_there, to_there}
use Rattle.scope_verifier.specs.Shown.{FactHasPlace, HasPlace, OperationHasPlace, OptionBelow}

module _ (H : Head) (ks : List Kind) where
  has_place : (d : ℕ) (k : Kind) → has ks d k ≡ true → d < length ks
  has_place d k h = less d (length ks) (has_there ks d k h)

  operation : (o : Operation) → op_fits H ks o ≡ true → OperationHasPlace (length ks) o
  operation (Const d z) h = has_place d kind.Int h
  operation (TextOf d n) h = has_place d kind.Text (both_true (has ks d kind.Text) _ h).0
  operation (BoolOf d b) h = has_place d kind.Bool h
  operation (CharOf d c) h = has_place d kind.Char h
  operation (Null d) h = less d (length ks) (on_there ks is_reference d h)
  operation (Move d a) h = less d (length ks) (like_there ks d (slice_get ks a) h)
  operation (Binary o d a b) h = has_place d kind.Int (both_true (has ks d kind.Int) _ h).0
  operation (Unary operator.Not d a) h = has_place d kind.Bool (both_true (has ks d kind.Bool) _ h).0
  operation (Unary operator.Negate d a) h = has_place d kind.Int (both_true (has ks d kind.Int) _ h).0
  operation (Unary operator.Complement d a) h = has_place d kind.Int (both_true (has ks d kind.Int) _ h).0
  operation (Compare r d a b) h = has_place d kind.Bool (both_true (has ks d kind.Bool) _ h).0
  operation (CheckNull r) h = less r (length ks) (on_there ks is_pointer r h)
  operation (CheckIndex d r i size) h = less d (length ks) (offset_there ks d r (both_true (is_array_of (slice_get ks d) (slice_get ks r)) _ h).0)
  operation (Len d r) h = has_place d kind.Int (both_true (has ks d kind.Int) _ h).0
  operation (Prefetch r off disp) h = tt
  operation (Alloc d l) h = has_place d (kind.Ptr l) (both_true (has ks d (kind.Ptr l)) _ h).0
  operation (AllocArray d l n) h = has_place d (kind.Arr l) (both_true (has ks d (kind.Arr l)) _ h).0
  operation (Print a) h = tt
  operation (Println a) h = tt
  operation (Printint a) h = tt
  operation (Printbool a) h = tt
  operation (Printchar a) h = tt
  operation Flush h = tt
  operation (Assert a) h = tt

module _ (C : Image) (f : Function) where
  call : (o : Option Function) (to : Option ℕ) (args : List ℕ) → callee_fits C f o to args ≡ true → OptionBelow (length f.kinds) to
  call None to args h = absurd (cc h)
  call (Some g) None args h = tt
  call (Some g) (Some d) args h =
      less d (length f.kinds) (to_there C f g.result d (both_true (args_fit f.kinds g.kinds g.parameters args) (result_fits f.kinds g.result (Some d)) h).1)

  fitted : (k : Known) (i : Instruction) → Fits C f k i → HasPlace (length f.kinds) f.scopes i
  fitted k (Simple o) h = operation C.head f.kinds o h
  fitted k (Aim s r off disp) h = h.1
  fitted k (Load to s) h = less to (length f.kinds) (aimed_there C f (k.scope s) to h.1)
  fitted k (Store s from) h = tt
  fitted k (Leave s) h = h
  fitted k (Call to g args) h = call (slice_get C.functions g) to args h
  fitted k (Jump b) h = tt
  fitted k (Branch a b c) h = tt
  fitted k (Return a) h = tt
  fitted k ReturnVoid h = tt
  fitted k (Error a) h = tt

  pub placed : (k : Known) (i : Instruction) → instruction_fault C f k i ≡ None → HasPlace (length f.kinds) f.scopes i
  placed k i e = fitted k i (allowed C f k i e).0.1

pub fact_placed : (f : Function) (x : Fact) → naming_fault f x ≡ None → FactHasPlace (length f.kinds) f.scopes x
fact_placed f (fact.Nonnull r) e = less r (length f.kinds) (on_there f.kinds is_pointer r (holds (names_fact f.kinds f.scopes (fact.Nonnull r)) OperandKind e))
fact_placed f (fact.Inside d r) e = less d (length f.kinds) (offset_there f.kinds d r (holds (names_fact f.kinds f.scopes (fact.Inside d r)) OperandKind e))
fact_placed f (fact.Aimed s r off disp) e = ((names_decides f.kinds f.scopes (fact.Aimed s r off disp)).0 (holds (names_fact f.kinds f.scopes (fact.Aimed s r off disp)) OperandKind e)).0
fact_placed f (fact.Shut s) e = less s f.scopes (holds (nat_lt s f.scopes) OperandKind e)
