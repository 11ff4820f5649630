-- Which lists fit, item by item, and that an instruction fits where its parts do.
use Rattle.std.proofs.Common.{◌≡◌, ◌<◌, ℕ, zero, suc, List, [], ◌∷◌, Some, None, false, length, get_or, map, sym, subst, arith}
use Rattle.std.specs.List.{AllByRecursion}
use Rattle.std.specs.Bool.{IsTrue}
use Rattle.code_form.specs.declared.form.Operation.TheVariants as p
use Rattle.code_form.specs.Form as form
use Rattle.code_form.specs.Form.{Instruction}
use Rattle.instruction_table.specs.Arguments.{arguments_of, registers_of}
use Rattle.image_bytes.specs.Encodable.{AreFew, InstructionFits}
use Rattle.image_bytes.specs.Parts.{ArgumentFits, OptionalsFit, RegistersFit}

-- an item of a list whose items fit
pub each_at : {A : Type 0} (P : A → Type 0) (xs : List A) (i : ℕ) (x : A) → i < length xs → x ≡ get_or xs i x → AllByRecursion P xs → P x
each_at P [] i x h is all = absurd (let q : ⊥ = omega (arith, h) in q)
each_at P (y ∷ ys) zero x h is all = subst P (sym is) all.0
each_at P (y ∷ ys) (suc i) x h is all = each_at P ys i x (omega (arith, h)) is all.1

-- items, and what is read of them
pub of_each : {A B : Type 0} (P : B → Type 0) (f : A → B) (xs : List A) → AllByRecursion P (map f xs) → AllByRecursion (λ x. P (f x)) xs
of_each P f [] all = tt
of_each P f (x ∷ xs) all = (all.0, of_each P f xs all.1)

-- an instruction fits where its parts do
pub parts_fit : (i : Instruction) → OptionalsFit i → AllByRecursion ArgumentFits (arguments_of i) → RegistersFit (registers_of i) → InstructionFits i
parts_fit (form.Simple (p.Prefetch r None disp)) o all rs = all
parts_fit (form.Simple (p.Prefetch r (Some off) disp)) o all rs = (all.0, (o, all.1.1))
parts_fit (form.Aim s r None disp) o all rs = all
parts_fit (form.Aim s r (Some off) disp) o all rs = (all.0, (all.1.0, (o, all.1.1.1)))
parts_fit (form.Call None f xs) o all rs = (o, (all.1.0, (rs, tt)))
parts_fit (form.Call (Some to) f xs) o all rs = (o, (all.1.0, (rs, tt)))
parts_fit i o all rs = all

-- an optional register that fits is a register
as_word : (r : ℕ) → r < 4294967295 → r < 4294967296
as_word r h = omega (arith, h)

-- ... and only there
pub fits_parts : (i : Instruction) → InstructionFits i → OptionalsFit i × AllByRecursion ArgumentFits (arguments_of i) × RegistersFit (registers_of i)
fits_parts (form.Simple (p.Prefetch r None disp)) h = (tt, h, tt)
fits_parts (form.Simple (p.Prefetch r (Some off) disp)) h = (h.1.0, (h.0, (as_word off h.1.0, h.1.1)), tt)
fits_parts (form.Aim s r None disp) h = (tt, h, tt)
fits_parts (form.Aim s r (Some off) disp) h = (h.1.1.0, (h.0, (h.1.0, (as_word off h.1.1.0, h.1.1.1))), tt)
fits_parts (form.Call None f xs) h = (tt, (tt, (h.1.0, tt)), h.1.1.0)
fits_parts (form.Call (Some to) f xs) h = (h.0, (as_word to h.0, (h.1.0, tt)), h.1.1.0)
fits_parts i h = (tt, h, tt)

-- a list of which an item does not fit
pub unfit_at : {A B : Type 0} (P : B → Type 0) (f : A → B) (xs : List A) (i : ℕ) (x : A) → i < length xs → x ≡ get_or xs i x → (P (f x) → IsTrue false)
    → (IsTrue false → AreFew P (map f xs)) × (AreFew P (map f xs) → IsTrue false)
unfit_at P f xs i x h is refused = ((λ e. absurd (cc e)), (λ all. refused (each_at (λ y. P (f y)) xs i x h is (of_each P f xs all.1))))
