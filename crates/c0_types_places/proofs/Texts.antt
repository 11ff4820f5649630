-- Texts by their numbers.
use Rattle.std.proofs.Common.{◌≡◌, ℕ, suc, ◌+◌, ◌<◌, List, [], ◌∷◌, length, get_or, refl, sym, ap, ◌∙◌, arith, Bool, true, false, Option, Some, None, add-one}
use Rattle.std.specs.Prelude.{bytes_eq}
use Rattle.c0_typed.specs.Views.{text_at}
use Rattle.c0_types_tables.specs.Numbered.{place_in}
use Rattle.c0_rules.specs.Types.{Name, number_in}
use Rattle.c0_types_terms.specs.Terms.{IsText}
use Rattle.c0_types_tables.proofs.Numbers.{number_at, number_past}
use Rattle.c0_rules.proofs.Rules.{same_name_is}

-- what stands at a text's number is the text
there : (texts : List Name) (x : Name) → number_in texts x < length texts → get_or texts (number_in texts x) [] ≡ x
there [] x h = absurd (omega (arith, h))
there (y ∷ texts) x h = at (bytes_eq x y) refl (there texts x) h
  where
    at : (b : Bool) → bytes_eq x y ≡ b → (number_in texts x < length texts → get_or texts (number_in texts x) [] ≡ x) → (elim b [ true ↦ 0 | false ↦ suc (number_in texts x) ]) < suc (length texts) → get_or (y ∷ texts) (elim b [ true ↦ 0 | false ↦ suc (number_in texts x) ]) [] ≡ x
    at true q go h = sym (same_name_is x y q)
    at false q go h = go (omega (arith, h))

pub text_there : (texts : List Name) (x : Name) (n : ℕ) → IsText texts x → place_in 0 texts x ≡ Some n → text_at texts (n + 1) ≡ x
text_there texts x n is e =
    let number : n ≡ number_in texts x = omega (arith, number_at 0 texts x n e) in
    let within : number_in texts x < length texts = omega (arith, is.1, is.2) in
    rw add-one (ap (λ k. get_or texts k []) number ∙ there texts x within)

pub text_missing : (texts : List Name) (x : Name) → IsText texts x → ◌≡◌ {A = Option ℕ} (place_in 0 texts x) None → ⊥
text_missing texts x is e = omega (arith, number_past 0 texts x e, is.1, is.2)
