-- What code shows behind an instruction, and at the entry facts of a block.
use Rattle.std.proofs.Common.{◌≡◌, ℕ, List, ◌∷◌, Ok, Err, Result, refl}
use Rattle.std.specs.Prelude.{MatchResult}
use Rattle.code_form.specs.declared.form.Fact.{Fact}
use Rattle.code_form.specs.declared.form.Fact.TheVariants as fact
use Rattle.code_form.specs.declared.form.Operation.{Operation}
use Rattle.code_form.specs.declared.form.Operation.TheVariants.{Const, TextOf, BoolOf, CharOf, Null, Move, Binary, Unary, Compare, CheckNull, CheckIndex, Len, Prefetch, Alloc, AllocArray, Print, Println, Printint, Printbool, Printchar, Flush, Assert}
use Rattle.code_form.specs.Known.{after_operation, facts_known, written_by, wrote_some}
use Rattle.scope_verifier_laws.specs.declared.fault.VerifyFault.{VerifyFault}
use Rattle.scope_verifier_laws.specs.declared.fault.VerifyFault.TheVariants.{OutOfMemory}
use Rattle.scope_verifier.specs.declared.knowledge.Knowledge.{Knowledge}
use Rattle.scope_verifier.specs.Shown.{Follows, OperationHasPlace, OptionBelow, learned}

-- what follows from what holds where memory was given
pub weaker : (r : Result (Unit {0}) VerifyFault) (P Q : Type 0) → (P → Q) → MatchResult r (λ _. P) (λ f. f ≡ OutOfMemory) → MatchResult r (λ _. Q) (λ f. f ≡ OutOfMemory)
weaker (Ok x) P Q f h = f h
weaker (Err e) P Q f h = h

-- a simple instruction that checks nothing
pub others : (n m : Knowledge) (o : Operation) → ((r : ℕ) → o ≡ CheckNull r → ⊥) → ((d r i size : ℕ) → o ≡ CheckIndex d r i size → ⊥)
    → Follows n m (λ registers _. OptionBelow registers (written_by o)) (wrote_some (written_by o)) → Follows n m (λ registers _. OperationHasPlace registers o) (after_operation o)
others n m (Const d z) a b h = h
others n m (TextOf d k) a b h = h
others n m (BoolOf d t) a b h = h
others n m (CharOf d k) a b h = h
others n m (Null d) a b h = h
others n m (Move d x) a b h = h
others n m (Binary o d x y) a b h = h
others n m (Unary u d x) a b h = h
others n m (Compare r d x y) a b h = h
others n m (CheckNull r) a b h = absurd (a r refl)
others n m (CheckIndex d r i size) a b h = absurd (b d r i size refl)
others n m (Len d r) a b h = h
others n m (Prefetch r off disp) a b h = h
others n m (Alloc d l) a b h = h
others n m (AllocArray d l x) a b h = h
others n m (Print x) a b h = h
others n m (Println x) a b h = h
others n m (Printint x) a b h = h
others n m (Printbool x) a b h = h
others n m (Printchar x) a b h = h
others n m Flush a b h = h
others n m (Assert x) a b h = h

pub one_more : (x : Fact) (rest : List Fact) → learned x (facts_known rest) ≡ facts_known (x ∷ rest)
one_more (fact.Nonnull r) rest = refl
one_more (fact.Inside d r) rest = refl
one_more (fact.Aimed s r off disp) rest = refl
one_more (fact.Shut s) rest = refl
