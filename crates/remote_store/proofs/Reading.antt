-- A row whose header is as expected is what the last put wrote.
use Rattle.std.proofs.Common.{◌≡◌, ◌≢◌, ℕ, zero, suc, ◌<◌, List, [], ◌∷◌, length, get_or, take, drop, refl, sym, ap, ◌∙◌, ⊎_elim, arith}
use Rattle.std.specs.Prelude.{Option, Some}
use Rattle.remote_store.specs.Kept.{Reads, Keeps}

pub headed : (n : ℕ) (row : List ℕ) (o v : ℕ) (ws : List ℕ) → length row ≡ suc (suc (suc n)) → get_or row 0 0 ≡ o → get_or row 1 0 ≡ v → get_or row 2 0 ≡ n → Reads (o ∷ v ∷ n ∷ ws) row → drop 3 row ≡ ws
headed n [] o v ws l a b c r = absurd (omega arith)
headed n (x ∷ []) o v ws l a b c r = absurd (omega arith)
headed n (x ∷ y ∷ []) o v ws l a b c r = absurd (omega arith)
headed n (x ∷ y ∷ w ∷ xs) o v ws l a b c r = ⊎_elim (λ (e : (x ∷ y ∷ w ∷ xs) ≡ (o ∷ v ∷ n ∷ ws)). let g : xs ≡ ws = (cc) in g) (λ (ne : take 3 (x ∷ y ∷ w ∷ xs) ≢ take 3 (o ∷ v ∷ n ∷ ws)). absurd (ne (λ i. a i ∷ b i ∷ c i ∷ []))) r

whole : (n : ℕ) (ws : List ℕ) → length ws ≡ n → take n ws ≡ ws
whole zero [] e = refl
whole zero (x ∷ xs) e = absurd (omega arith)
whole (suc n) [] e = absurd (omega arith)
whole (suc n) (x ∷ xs) e = ap (λ (ys : List ℕ). x ∷ ys) (whole n xs (omega arith))

-- a row is its header and what follows that
pub split : (n o v : ℕ) (row : List ℕ) → length row ≡ suc (suc (suc n)) → get_or row 0 0 ≡ o → get_or row 1 0 ≡ v → get_or row 2 0 ≡ n → row ≡ o ∷ v ∷ n ∷ take n (drop 3 row)
split n o v [] l a b c = absurd (omega arith)
split n o v (x ∷ []) l a b c = absurd (omega arith)
split n o v (x ∷ y ∷ []) l a b c = absurd (omega arith)
split n o v (x ∷ y ∷ w ∷ xs) l a b c = let e : take n xs ≡ xs = whole n xs (omega arith) in (λ i. a i ∷ b i ∷ c i ∷ sym e i)

-- what follows the header is what the last put wrote
pub gets : (n o v : ℕ) (held : Option (List ℕ)) (row ws : List ℕ) → 0 < v → length row ≡ suc (suc (suc n)) → get_or row 0 0 ≡ o → get_or row 1 0 ≡ v → get_or row 2 0 ≡ n
    → {b : ℕ} → length row ≡ b → ((us : List ℕ) → held ≡ Some us → length us ≡ b → Reads us row) → Keeps n v held o ws → take n (drop 3 row) ≡ ws
gets n o v held row ws some_version l a c d long reads k = ⊎_elim (λ (z : (v ≡ 0) × ((i : ℕ) → i < n → get_or ws i 0 ≡ 0)). let e = z.0 in absurd (omega arith))
    (λ (p : (0 < v) × (length ws ≡ n) × (held ≡ Some (o ∷ v ∷ n ∷ ws))). ap (take n) (headed n row o v ws l a c d (reads _ p.2 (ap (λ (k : ℕ). suc (suc (suc k))) p.1 ∙ sym l ∙ long))) ∙ whole n ws p.1) k

-- a row that is just what the cell holds has the header of the last put
pub header_told : (n o v : ℕ) (held : Option (List ℕ)) (row ws : List ℕ) → 0 < v → length row ≡ suc (suc (suc n)) → {b : ℕ} → length row ≡ b → ((us : List ℕ) → held ≡ Some us → length us ≡ b → row ≡ us) → Keeps n v held o ws → row ≡ o ∷ v ∷ n ∷ ws
header_told n o v held row ws some_version l long same k = ⊎_elim (λ (z : (v ≡ 0) × ((i : ℕ) → i < n → get_or ws i 0 ≡ 0)). let e = z.0 in absurd (omega arith))
    (λ (p : (0 < v) × (length ws ≡ n) × (held ≡ Some (o ∷ v ∷ n ∷ ws))). same _ p.2 (ap (λ (k : ℕ). suc (suc (suc k))) p.1 ∙ sym l ∙ long)) k
