-- Small images that are well formed, and not verified.
use Rattle.std.proofs.Common.{◌≡◌, ℕ, Some, None, List, [], ◌∷◌, inl, inr, refl, ap, arith}
use Rattle.std.specs.List.{Contains}
use Rattle.std.proofs.lemmas.List.Elements.{All-cons, All-nil}
use Rattle.code_form.specs.declared.form.Fact.TheVariants as fact
use Rattle.code_form.specs.declared.form.Operation.TheVariants.{CheckIndex, CheckNull, Null}
use Rattle.code_form.specs.Form.{Aim, Block, Function, Instruction, Jump, Leave, Load, Return, Simple}
use Rattle.code_form.specs.Known.{Unknown}
use Rattle.code_verification.specs.Verified.{AreGuarded, IsVerified}
use Rattle.code_verification.specs.WellFormed.{IsWellFormed, IsWellFormedBlock, IsWellFormedFunction}
use Rattle.code_verification.specs.Worked.{IsRefused, function_with_arrays, idle, image_of_blocks, image_of_code, image_through_jump, image_with_arrays, many_scopes, shut_block, turning}
use Rattle.code_verification.proofs.Refused.{aimed, needs_none, one, shut_one}
use Rattle.code_verification.proofs.Holding.{cases, none}
use Rattle.code_verification.proofs.Accepted.{C, blocks_formed, code_formed, main, shut_known}

-- what is asked of the loads and stores of an image of one block
guards : (is : List Instruction) → IsVerified (image_of_code is) → AreGuarded shut_known is
guards is h = (h.guarded 0 idle (omega arith)) 0 (shut_block []) (omega arith)

pub unchecked : IsRefused (image_of_code (Aim 0 0 None 0 ∷ Load 1 0 ∷ Leave 0 ∷ Return 1 ∷ []))
unchecked = (
  code_formed (Aim 0 0 None 0 ∷ Load 1 0 ∷ Leave 0 ∷ Return 1 ∷ []) ((needs_none, (refl, one)), ((needs_none, (one, (refl, refl))), ((needs_none, one), (((λ q. shut_one _), refl), refl)))),
  λ h. none 0 (guards (Aim 0 0 None 0 ∷ Load 1 0 ∷ Leave 0 ∷ Return 1 ∷ []) h).1.0,
)

pub overwritten : IsRefused (image_of_code (Simple (CheckNull 0) ∷ Simple (Null 0) ∷ Aim 0 0 None 0 ∷ Load 1 0 ∷ Leave 0 ∷ Return 1 ∷ []))
overwritten = (
  code_formed (Simple (CheckNull 0) ∷ Simple (Null 0) ∷ Aim 0 0 None 0 ∷ Load 1 0 ∷ Leave 0 ∷ Return 1 ∷ [])
      ((needs_none, refl), ((needs_none, refl), ((needs_none, (refl, one)), ((needs_none, (one, (refl, refl))), ((needs_none, one), (((λ q. shut_one _), refl), refl)))))),
  λ h. none 0 (guards (Simple (CheckNull 0) ∷ Simple (Null 0) ∷ Aim 0 0 None 0 ∷ Load 1 0 ∷ Leave 0 ∷ Return 1 ∷ []) h).1.1.1.0,
)

-- ---- another array

abbrev crossing : List Instruction
crossing = Simple (CheckIndex 4 3 1 1) ∷ Aim 0 5 (Some 4) 0 ∷ Load 1 0 ∷ Leave 0 ∷ Return 1 ∷ []

abbrev crossed : Function
crossed = function_with_arrays crossing

crossed_formed : IsWellFormedFunction (image_with_arrays crossing) crossed
crossed_formed = record {
  parameters = omega arith;
  begins = (shut_block crossing, refl, (refl, tt));
  blocks = All-cons (IsWellFormedBlock (image_with_arrays crossing) crossed) (shut_block crossing) []
      ((needs_none, refl), ((needs_none, (refl, one)), ((needs_none, (one, (refl, refl))), ((needs_none, one), (((λ q. shut_one _), refl), refl)))))
      (All-nil (IsWellFormedBlock (image_with_arrays crossing) crossed));
}

not_inside : Contains {X = ℕ × ℕ} ((4, 3) ∷ []) (4, 5) → ⊥
not_inside h = elim (cases (4, 3) (4, 5) [] h) [
  | inl e ↦ let z : 3 ≡ 5 = ap (λ (p : ℕ × ℕ). p.1) e in cc z
  | inr t ↦ none (4, 5) t
]

pub another_array : IsRefused (image_with_arrays (Simple (CheckIndex 4 3 1 1) ∷ Aim 0 5 (Some 4) 0 ∷ Load 1 0 ∷ Leave 0 ∷ Return 1 ∷ []))
another_array = (
  record {
    main = refl;
    functions = All-cons (IsWellFormedFunction (image_with_arrays crossing)) crossed [] crossed_formed (All-nil (IsWellFormedFunction (image_with_arrays crossing)));
  },
  λ h. not_inside ((h.guarded 0 idle (omega arith)) 0 (shut_block []) (omega arith)).1.1.0,
)

-- ---- entry facts

pub not_brought : IsRefused (image_through_jump (Some 4) (fact.Aimed 0 3 (Some 4) 0 ∷ []))
not_brought = (aimed, λ h. none (4, 3) ((h.guarded 0 idle (omega arith)) 1 (shut_block []) (omega arith)).0)

abbrev returning : Block
returning = shut_block (Return 1 ∷ [])

abbrev telling : Block
telling = record { facts = fact.Nonnull 1 ∷ fact.Shut 0 ∷ []; code = Return 1 ∷ [] }

abbrev told : List Block
told = returning ∷ telling ∷ []

told_formed : IsWellFormed (image_of_blocks told)
told_formed =
    let P = IsWellFormedBlock (C told) (main told) in
    blocks_formed told (returning, refl, (refl, tt))
    (All-cons P returning (telling ∷ []) (((λ q. shut_one (λ s. Unknown)), refl), refl) (All-cons P telling [] (((λ q. shut_one (λ s. Unknown)), refl), refl) (All-nil P)))

pub no_pointer : IsRefused (image_of_blocks (shut_block (Return 1 ∷ []) ∷ record { facts = fact.Nonnull 1 ∷ fact.Shut 0 ∷ []; code = Return 1 ∷ [] } ∷ []))
no_pointer = (told_formed, λ h. let e = h.facts 0 idle (omega arith) 1 returning (omega arith) 0 (fact.Shut 0) (omega arith) in cc e)

-- ---- scopes

abbrev turn : Block
turn = record { facts = []; code = Jump 0 ∷ [] }

turning_formed : IsWellFormedFunction many_scopes turning
turning_formed = record {
  parameters = omega arith;
  begins = (turn, refl, tt);
  blocks = All-cons (IsWellFormedBlock many_scopes turning) turn [] ((needs_none, (turn, refl, tt)), refl) (All-nil (IsWellFormedBlock many_scopes turning));
}

pub scopes : IsRefused many_scopes
scopes = (
  record { main = refl; functions = All-cons (IsWellFormedFunction many_scopes) turning [] turning_formed (All-nil (IsWellFormedFunction many_scopes)) },
  λ h. let few = h.few in omega (arith, few),
)
