-- What is known of the functions and blocks of a verified image, and of a call at the entry of a function.
use Rattle.std.proofs.Common.{◌≡◌, ℕ, true, Option, Some, None, List, length, refl, subst}
use Rattle.std.specs.Prelude.{All, replicate, slice_get}
use Rattle.std.proofs.lemmas.List.{length-replicate}
use Rattle.std.proofs.lemmas.List.Elements.{All-get_or}
use Rattle.std.proofs.lemmas.Option.{get_or_from_slice_get, slice_get_within}
use Rattle.code_form.specs.declared.allocation.Allocation.{Allocation}
use Rattle.code_form.specs.Form.{Block, Function, Image}
use Rattle.code_form.specs.Code.{Shut, entry, first_registers}
use Rattle.code_form.specs.Known.{AreKnown, at_entry, facts_known}
use Rattle.code_form.specs.Asked.{Enters}
use Rattle.code_verification.specs.Verified.{IsGuardedBlock, IsGuardedFunction, IsVerified, NamesFact, NamesFacts}
use Rattle.code_verification.specs.WellFormed.{IsWellFormedBlock, IsWellFormedFunction, main_fits}
use Rattle.code_verification.proofs.States.{AreTyped, Checks, IsGood}
use Rattle.code_verification.proofs.Holding.{holds_entered}
use Rattle.code_verification.proofs.Scopes.{holds_at_entry}

-- what holds of all elements holds of the one at a number
pub at_number : {A : Type 0} (R : A → Type 0) (xs : List A) (k : ℕ) (x : A) → All R xs → slice_get xs k ≡ Some x → R x
at_number R xs k x all e = subst R (get_or_from_slice_get xs k x x e) (All-get_or R xs k x (slice_get_within xs k x e) all)

main_is : (o : Option Function) → main_fits o ≡ true → (g : Function) × (o ≡ Some g)
main_is None e = absurd (cc e)
main_is (Some g) e = (g, refl)

module _ (C : Image) (V : IsVerified C) where
  pub main_there : (g : Function) × (slice_get C.functions 0 ≡ Some g)
  main_there = main_is (slice_get C.functions 0) V.formed.main

  formed_at : (n : ℕ) (g : Function) → slice_get C.functions n ≡ Some g → IsWellFormedFunction C g
  formed_at n g e = at_number (IsWellFormedFunction C) C.functions n g V.formed.functions e

  -- a function begins at a block whose entry facts are known where all scopes are shut
  pub begins_at : (n : ℕ) (g : Function) → slice_get C.functions n ≡ Some g → Enters C g at_entry 0
  begins_at n g e = (formed_at n g e).begins

  -- the instructions of a block may come where its entry facts are known
  pub block_checks : (n k : ℕ) (g : Function) (b : Block) → slice_get C.functions n ≡ Some g → slice_get g.blocks k ≡ Some b → Checks C g (facts_known b.facts) b.code
  block_checks n k g b e h = (at_number (IsWellFormedBlock C g) g.blocks k b (formed_at n g e).blocks h, at_number IsGuardedBlock g.blocks k b (at_number IsGuardedFunction C.functions n g V.guarded e) h)

  -- its entry facts name what is there
  pub block_named : (n k : ℕ) (g : Function) (b : Block) → slice_get C.functions n ≡ Some g → slice_get g.blocks k ≡ Some b → All (NamesFact g.kinds g.scopes) b.facts
  block_named n k g b e h = at_number (λ (x : Block). All (NamesFact g.kinds g.scopes) x.facts) g.blocks k b (at_number NamesFacts C.functions n g V.facts e) h

  -- a call at the entry of a function
  pub entry_good : (al : List Allocation) (n : ℕ) (g : Function) (b : Block) (values : List ℕ) (to : Option ℕ) → slice_get C.functions n ≡ Some g → slice_get g.blocks 0 ≡ Some b → AreKnown at_entry b.facts
      → AreTyped C.head al g.kinds (first_registers g values) → length (first_registers g values) ≡ length g.kinds → IsGood C al (entry g values to b) None
  entry_good al n g b values to e h a typed long = record {
    number = n;
    is = e;
    known = facts_known b.facts;
    checks = block_checks n 0 g b e h;
    holds = holds_entered C.head al g.kinds (first_registers g values) (replicate g.scopes Shut) at_entry b.facts a (holds_at_entry C.head al g.kinds (first_registers g values) g.scopes);
    typed = typed;
    registers = long;
    scopes = length-replicate g.scopes Shut;
  }
