-- Small images that are verified.
use Rattle.std.proofs.Common.{◌<◌, Some, None, List, [], ◌∷◌, refl, arith}
use Rattle.std.specs.Prelude.{All}
use Rattle.std.specs.List.{Contains}
use Rattle.std.proofs.lemmas.List.Elements.{All-cons, All-nil}
use Rattle.code_form.specs.Computed.{image_v}
use Rattle.code_form.specs.declared.form.Fact.{Fact}
use Rattle.code_form.specs.declared.form.Fact.TheVariants as fact
use Rattle.code_form.specs.declared.form.Operation.TheVariants.{CheckIndex, CheckNull}
use Rattle.code_form.specs.Form.{Aim, Block, Call, Function, Image, Instruction, Jump, Leave, Load, Return, Simple}
use Rattle.code_form.specs.Known.{Known, Unknown, at_entry, facts_known}
use Rattle.code_form.specs.Asked.{Enters}
use Rattle.code_verification.specs.Verified.{AreGuarded, IsGuardedBlock, IsGuardedFunction, IsVerified, NamesFact, NamesFacts}
use Rattle.code_verification.specs.WellFormed.{IsRest, IsWellFormed, IsWellFormedBlock, IsWellFormedFunction}
use Rattle.code_verification.specs.Worked.{brings, function_of_blocks, idle, idle_block, image_of_blocks, image_of_code, loading_block, shut_block}
use Rattle.code_verification.proofs.Refused.{accepted, block_v, idle_formed, main_v, needs_none, one, shut_one}

-- the first of a list stands in it
front : {A : Type 0} (x : A) (xs : List A) → Contains (x ∷ xs) x
front x xs = (0, omega arith, refl)

-- the entry fact that the scope is shut names one that is there
shut_named : (f : Function) → 0 < f.scopes → All (NamesFact f.kinds f.scopes) (fact.Shut 0 ∷ [])
shut_named f l = All-cons (NamesFact f.kinds f.scopes) (fact.Shut 0) [] l (All-nil (NamesFact f.kinds f.scopes))

-- ---- images of blocks

module _ (bs : List Block) where
  abbrev pub C : Image
  C = image_of_blocks bs

  abbrev pub main : Function
  main = function_of_blocks bs

  pub blocks_formed : Enters C main at_entry 0 → All (IsWellFormedBlock C main) bs → IsWellFormed C
  blocks_formed e all = record {
    main = refl;
    functions = All-cons (IsWellFormedFunction C) main (idle ∷ []) (record { parameters = omega arith; begins = e; blocks = all })
        (All-cons (IsWellFormedFunction C) idle [] (idle_formed C) (All-nil (IsWellFormedFunction C)));
  }

  idle_named : NamesFacts idle
  idle_named = All-cons (λ (b : Block). All (NamesFact idle.kinds idle.scopes) b.facts) idle_block [] (All-nil (NamesFact idle.kinds idle.scopes)) (All-nil (λ (b : Block). All (NamesFact idle.kinds idle.scopes) b.facts))

  idle_guarded : IsGuardedFunction idle
  idle_guarded = All-cons IsGuardedBlock idle_block [] (tt, tt) (All-nil IsGuardedBlock)

  pub blocks_verified : IsWellFormed C → NamesFacts main → All IsGuardedBlock bs → IsVerified C
  blocks_verified formed named all = record {
    formed = formed;
    few = omega arith;
    facts = All-cons NamesFacts main (idle ∷ []) named (All-cons NamesFacts idle [] idle_named (All-nil NamesFacts));
    guarded = All-cons IsGuardedFunction main (idle ∷ []) all (All-cons IsGuardedFunction idle [] idle_guarded (All-nil IsGuardedFunction));
  }

-- ---- images of one block

-- what is known where the scope is shut
abbrev pub shut_known : Known
shut_known = facts_known (fact.Shut 0 ∷ [])

module _ (is : List Instruction) where
  abbrev pub bs : List Block
  bs = shut_block is ∷ []

  pub code_formed : IsRest (C bs) (main bs) shut_known is → IsWellFormed (image_of_code is)
  code_formed r = blocks_formed bs (shut_block is, refl, (refl, tt)) (All-cons (IsWellFormedBlock (C bs) (main bs)) (shut_block is) [] r (All-nil (IsWellFormedBlock (C bs) (main bs))))

  code_verified : IsRest (C bs) (main bs) shut_known is → AreGuarded shut_known is → IsVerified (image_of_code is)
  code_verified r g =
      let named : NamesFacts (main bs) =
      All-cons (λ (b : Block). All (NamesFact (main bs).kinds (main bs).scopes) b.facts) (shut_block is) [] (shut_named (main bs) one) (All-nil (λ (b : Block). All (NamesFact (main bs).kinds (main bs).scopes) b.facts)) in
      blocks_verified bs (code_formed r) named (All-cons IsGuardedBlock (shut_block is) [] g (All-nil IsGuardedBlock))

pub element : IsVerified (image_of_code (Simple (CheckIndex 4 3 1 1) ∷ Aim 0 3 (Some 4) 0 ∷ Load 1 0 ∷ Leave 0 ∷ Return 1 ∷ []))
element =
    code_verified (Simple (CheckIndex 4 3 1 1) ∷ Aim 0 3 (Some 4) 0 ∷ Load 1 0 ∷ Leave 0 ∷ Return 1 ∷ [])
    ((needs_none, refl), ((needs_none, (refl, one)), ((needs_none, (one, (refl, refl))), ((needs_none, one), (((λ q. shut_one _), refl), refl)))))
    (tt, (tt, (front (4, 3) [], (tt, (tt, tt)))))

pub called : IsVerified (image_of_code (Simple (CheckNull 0) ∷ Call None 1 [] ∷ Aim 0 0 None 0 ∷ Load 1 0 ∷ Leave 0 ∷ Return 1 ∷ []))
called =
    code_verified (Simple (CheckNull 0) ∷ Call None 1 [] ∷ Aim 0 0 None 0 ∷ Load 1 0 ∷ Leave 0 ∷ Return 1 ∷ [])
    ((needs_none, refl), (((λ q. shut_one (λ s. Unknown)), refl), ((needs_none, (refl, one)), ((needs_none, (one, (refl, refl))), ((needs_none, one), (((λ q. shut_one _), refl), refl))))))
    (tt, (tt, (tt, (front 0 [], (tt, (tt, tt))))))

-- ---- a check and an aim that go through a jump

abbrev first_block : Block
first_block = shut_block (Simple (CheckIndex 4 3 1 1) ∷ Aim 0 3 (Some 4) 0 ∷ Jump 1 ∷ [])

abbrev brought_facts : List Fact
brought_facts = fact.Inside 4 3 ∷ fact.Aimed 0 3 (Some 4) 0 ∷ []

abbrev second_block : Block
second_block = loading_block brought_facts

abbrev both_blocks : List Block
both_blocks = first_block ∷ second_block ∷ []

first_formed : IsWellFormedBlock brings (main both_blocks) first_block
first_formed = ((needs_none, refl), ((needs_none, (refl, one)), ((needs_none, (second_block, refl, (front (4, 3) [], (refl, tt)))), refl)))

second_formed : IsWellFormedBlock brings (main both_blocks) second_block
second_formed = ((needs_none, (one, (refl, refl))), ((needs_none, one), (((λ q. shut_one _), refl), refl)))

brought_formed : IsWellFormed brings
brought_formed =
    let P = IsWellFormedBlock brings (main both_blocks) in
    blocks_formed both_blocks (first_block, refl, (refl, tt)) (All-cons P first_block (second_block ∷ []) first_formed (All-cons P second_block [] second_formed (All-nil P)))

brought_named : NamesFacts (main both_blocks)
brought_named =
    let N = NamesFact (main both_blocks).kinds 1 in
    let P : Block → Type 0 = λ (b : Block). All (NamesFact (main both_blocks).kinds 1) b.facts in
    All-cons P first_block (second_block ∷ []) (shut_named (main both_blocks) one)
    (All-cons P second_block [] (All-cons N (fact.Inside 4 3) (fact.Aimed 0 3 (Some 4) 0 ∷ []) refl (All-cons N (fact.Aimed 0 3 (Some 4) 0) [] (one, refl) (All-nil N))) (All-nil P))

pub brought : IsVerified brings
brought =
    blocks_verified both_blocks brought_formed brought_named
    (All-cons IsGuardedBlock first_block (second_block ∷ []) (tt, (tt, (tt, tt))) (All-cons IsGuardedBlock second_block [] (front (4, 3) [], (tt, (tt, tt))) (All-nil IsGuardedBlock)))

-- ---- a new struct

pub pointed : IsVerified image_v
pointed = record {
  formed = accepted;
  few = omega arith;
  facts = All-cons NamesFacts main_v [] (All-cons (λ (b : Block). All (NamesFact main_v.kinds 1) b.facts) block_v [] (shut_named main_v one) (All-nil (λ (b : Block). All (NamesFact main_v.kinds 1) b.facts))) (All-nil NamesFacts);
  guarded = All-cons IsGuardedFunction main_v [] (All-cons IsGuardedBlock block_v [] (tt, (tt, (tt, (tt, (front 0 [], (tt, (tt, (front 0 [], (tt, (tt, tt)))))))))) (All-nil IsGuardedBlock)) (All-nil IsGuardedFunction);
}
