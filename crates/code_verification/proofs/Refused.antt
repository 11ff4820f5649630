-- Images that are well formed, and images that are not.
use Rattle.std.specs.Prelude.{◌==◌, cond}
use Rattle.std.proofs.Common.{◌≡◌, ◌<◌, ℕ, zero, suc, true, false, Option, Some, None, List, [], ◌∷◌, pos, refl, subst, arith}
use Rattle.std.proofs.lemmas.List.Elements.{All-cons, All-nil}
use Rattle.code_form.specs.Computed.{image_v}
use Rattle.code_form.specs.Form.{Aim, Block, Call, Function, Image, Instruction, Jump, Leave, Load, Return, Simple, Store}
use Rattle.code_form.specs.declared.form.Fact.{Fact}
use Rattle.code_form.specs.declared.form.Fact.TheVariants as fact
use Rattle.code_form.specs.declared.form.Kind.TheVariants as kind
use Rattle.code_form.specs.declared.form.Operation.TheVariants.{Alloc, CheckIndex, CheckNull, Const, Null}
use Rattle.code_form.specs.Known.{AreKnown, Known, Knows, KnownAimed, KnownShut, Unknown, at_entry, facts_known, with_scope}
use Rattle.code_verification.specs.WellFormed.{IsRest, IsWellFormed, IsWellFormedBlock, IsWellFormedFunction}
use Rattle.code_verification.specs.Worked.{function_of_blocks, idle, idle_block, image_of_blocks, image_of_code, image_through_jump, loading_block, shut_block}

-- what is known where the scope is shut, and where it was aimed by the pointer
abbrev shut_known : Known
shut_known = facts_known (fact.Shut 0 ∷ [])

abbrev aimed_known : Known
aimed_known = with_scope 0 (KnownAimed 0 None 0) shut_known

its_block : (is : List Instruction) → IsWellFormed (image_of_code is) → IsRest (image_of_code is) (function_of_blocks (shut_block is ∷ [])) shut_known is
its_block is h = (h.functions 0 idle (omega arith)).blocks 0 (shut_block []) (omega arith)

pub no_end : IsWellFormed (image_of_code []) → ⊥
no_end h = its_block [] h

pub goes_on : IsWellFormed (image_of_code (Return 1 ∷ Return 1 ∷ [])) → ⊥
goes_on h = let e = (its_block (Return 1 ∷ Return 1 ∷ []) h).1 in cc e

pub outside : IsWellFormed (image_of_code (Jump 1 ∷ [])) → ⊥
outside h = let e = (its_block (Jump 1 ∷ []) h).0.1.1 in cc e

pub shut : IsWellFormed (image_of_code (Load 1 0 ∷ Return 1 ∷ [])) → ⊥
shut h = (its_block (Load 1 0 ∷ Return 1 ∷ []) h).0.1.1

pub another_kind : IsWellFormed (image_of_code (Return 0 ∷ [])) → ⊥
another_kind h = let e = (its_block (Return 0 ∷ []) h).0.1 in cc e

pub no_function : IsWellFormed (image_of_code (Call None 2 [] ∷ Return 1 ∷ [])) → ⊥
no_function h = let e = (its_block (Call None 2 [] ∷ Return 1 ∷ []) h).0.1 in cc e

-- ---- scopes

pub written : IsWellFormed (image_of_code (Aim 0 0 None 0 ∷ Simple (Null 0) ∷ Load 1 0 ∷ Leave 0 ∷ Return 1 ∷ [])) → ⊥
written h = (its_block (Aim 0 0 None 0 ∷ Simple (Null 0) ∷ Load 1 0 ∷ Leave 0 ∷ Return 1 ∷ []) h).1.1.0.1.1

pub offset_written : IsWellFormed (image_of_code (Aim 0 3 (Some 4) 0 ∷ Simple (CheckIndex 4 3 1 1) ∷ Load 1 0 ∷ Leave 0 ∷ Return 1 ∷ [])) → ⊥
offset_written h = (its_block (Aim 0 3 (Some 4) 0 ∷ Simple (CheckIndex 4 3 1 1) ∷ Load 1 0 ∷ Leave 0 ∷ Return 1 ∷ []) h).1.1.0.1.1

-- a scope that is aimed is not shut
not_shut : aimed_known.scope 0 ≡ KnownShut → ⊥
not_shut e = cc e

pub open_call : IsWellFormed (image_of_code (Aim 0 0 None 0 ∷ Call None 1 [] ∷ Leave 0 ∷ Return 1 ∷ [])) → ⊥
open_call h = not_shut ((its_block (Aim 0 0 None 0 ∷ Call None 1 [] ∷ Leave 0 ∷ Return 1 ∷ []) h).1.0.0 refl 0 (omega arith))

pub open_return : IsWellFormed (image_of_code (Aim 0 0 None 0 ∷ Return 1 ∷ [])) → ⊥
open_return h = not_shut ((its_block (Aim 0 0 None 0 ∷ Return 1 ∷ []) h).1.0.0 refl 0 (omega arith))

pub open_allocation : IsWellFormed (image_of_code (Aim 0 0 None 0 ∷ Simple (Alloc 0 0) ∷ Leave 0 ∷ Return 1 ∷ [])) → ⊥
open_allocation h = not_shut ((its_block (Aim 0 0 None 0 ∷ Simple (Alloc 0 0) ∷ Leave 0 ∷ Return 1 ∷ []) h).1.0.0 refl 0 (omega arith))

-- ---- entry facts

-- what a jump asks of a block behind it
asked : (off : Option ℕ) (facts : List Fact) → IsWellFormed (image_through_jump off facts) → AreKnown (with_scope 0 (KnownAimed 3 off 0) shut_known) facts
asked off facts h =
    let e = ((h.functions 0 idle (omega arith)).blocks 0 (shut_block []) (omega arith)).1.0.1 in
    let same : e.0 ≡ loading_block facts = cc e.1 in
    subst (λ (x : Block). AreKnown (with_scope 0 (KnownAimed 3 off 0) shut_known) x.facts) same e.2

pub another_offset : IsWellFormed (image_through_jump None (fact.Aimed 0 3 (Some 4) 0 ∷ [])) → ⊥
another_offset h = let e = (asked None (fact.Aimed 0 3 (Some 4) 0 ∷ []) h).0 in cc e

pub not_brought : IsWellFormed (image_through_jump (Some 4) (fact.Nonnull 0 ∷ fact.Aimed 0 3 (Some 4) 0 ∷ [])) → ⊥
not_brought h = let e = (asked (Some 4) (fact.Nonnull 0 ∷ fact.Aimed 0 3 (Some 4) 0 ∷ []) h).0.1 in let z : ⊥ = omega (arith, e) in z

-- a function begins where nothing is known but that its scopes are shut
pub not_at_entry : IsWellFormed (image_of_blocks (record { facts = fact.Shut 0 ∷ fact.Nonnull 0 ∷ []; code = Return 1 ∷ [] } ∷ [])) → ⊥
not_at_entry h =
    let b : Block = record { facts = fact.Shut 0 ∷ fact.Nonnull 0 ∷ []; code = Return 1 ∷ [] } in
    let e = (h.functions 0 idle (omega arith)).begins in
    let same : e.0 ≡ b = cc e.1 in
    let q = (subst (λ (x : Block). AreKnown at_entry x.facts) same e.2).1.0.1 in
    let z : ⊥ = omega (arith, q) in z

-- ---- images that are well formed

-- the block of the image that writes 5 into a new struct, and its function
abbrev pub block_v : Block
block_v = record {
  facts = fact.Shut 0 ∷ [];
  code = Simple (Alloc 0 0) ∷ Simple (Const 1 (pos 5)) ∷ Simple (CheckNull 0) ∷ Aim 0 0 None 0 ∷ Store 0 1 ∷ Leave 0 ∷ Aim 0 0 None 0 ∷ Load 1 0 ∷ Leave 0 ∷ Return 1 ∷ [];
}

abbrev pub main_v : Function
main_v = record { result = Some kind.Int; parameters = 0; kinds = kind.Ptr 0 ∷ kind.Int ∷ []; scopes = 1; blocks = block_v ∷ [] }

-- the one scope is shut, whatever is known of others
pub shut_one : (z : ℕ → Knows) (s : ℕ) → s < 1 → cond (s == 0) KnownShut (z s) ≡ KnownShut
shut_one z zero l = refl
shut_one z (suc s) l = absurd (let z : ⊥ = omega arith in z)

-- an instruction that needs no scope shut
pub needs_none : {A : Type 0} → false ≡ true → A
needs_none e = absurd (cc e)

pub one : 0 < 1
one = omega arith

block_formed : IsWellFormedBlock image_v main_v block_v
block_formed = (
  ((λ q. shut_one (λ s. Unknown)), refl),
  (
    (needs_none, refl),
    (
      (needs_none, refl),
      ((needs_none, (refl, one)), ((needs_none, (one, (refl, refl))), ((needs_none, one), ((needs_none, (refl, one)), ((needs_none, (one, (refl, refl))), ((needs_none, one), (((λ q. shut_one _), refl), refl))))))),
    ),
  ),
)

pub main_formed : IsWellFormedFunction image_v main_v
main_formed = record {
  parameters = omega arith;
  begins = (block_v, refl, (refl, tt));
  blocks = All-cons (IsWellFormedBlock image_v main_v) block_v [] block_formed (All-nil (IsWellFormedBlock image_v main_v));
}

pub accepted : IsWellFormed image_v
accepted = record { main = refl; functions = All-cons (IsWellFormedFunction image_v) main_v [] main_formed (All-nil (IsWellFormedFunction image_v)) }

-- an aim that goes through a jump
abbrev aiming : Image
aiming = image_through_jump (Some 4) (fact.Aimed 0 3 (Some 4) 0 ∷ [])

abbrev first_block : Block
first_block = shut_block (Aim 0 3 (Some 4) 0 ∷ Jump 1 ∷ [])

abbrev second_block : Block
second_block = loading_block (fact.Aimed 0 3 (Some 4) 0 ∷ [])

abbrev main_of : Function
main_of = function_of_blocks (first_block ∷ second_block ∷ [])

first_formed : IsWellFormedBlock aiming main_of first_block
first_formed = ((needs_none, (refl, one)), ((needs_none, (second_block, refl, (refl, tt))), refl))

second_formed : IsWellFormedBlock aiming main_of second_block
second_formed = ((needs_none, (one, (refl, refl))), ((needs_none, one), (((λ q. shut_one _), refl), refl)))

aiming_formed : IsWellFormedFunction aiming main_of
aiming_formed = record {
  parameters = omega arith;
  begins = (first_block, refl, (refl, tt));
  blocks =
      All-cons (IsWellFormedBlock aiming main_of) first_block (second_block ∷ []) first_formed
      (All-cons (IsWellFormedBlock aiming main_of) second_block [] second_formed (All-nil (IsWellFormedBlock aiming main_of)));
}

-- the function that does nothing, in any image
pub idle_formed : (C : Image) → IsWellFormedFunction C idle
idle_formed C = record {
  parameters = omega arith;
  begins = (idle_block, refl, tt);
  blocks = All-cons (IsWellFormedBlock C idle) idle_block [] (((λ q s l. absurd (let z : ⊥ = omega arith in z)), refl), refl) (All-nil (IsWellFormedBlock C idle));
}

pub aimed : IsWellFormed aiming
aimed = record {
  main = refl;
  functions = All-cons (IsWellFormedFunction aiming) main_of (idle ∷ []) aiming_formed (All-cons (IsWellFormedFunction aiming) idle [] (idle_formed aiming) (All-nil (IsWellFormedFunction aiming)));
}
