-- The cells of an allocation, by its place in a list of allocations from the oldest on.
use Rattle.std.proofs.Common.{◌≡◌, ℕ, zero, suc, ◌+◌, ◌-◌, ◌<◌, ◌≤◌, List, [], ◌∷◌, length, get_or, refl, ap, ◌∙◌, arith}
use Rattle.std.specs.Prelude.{reverse}
use Rattle.std.proofs.lemmas.Bool.Decides.{nat_tests}
use Rattle.std.proofs.lemmas.List.{get_or-reverse, length-reverse, length-map}
use Rattle.code_form.specs.Code.{sizes, cells_of, length_of}
use Rattle.code_form.specs.declared.allocation.Allocation.{Allocation}

pub none_at_zero : (cs : List ℕ) → cells_of cs 0 ≡ 0
none_at_zero [] = refl
none_at_zero (c ∷ older) = let rest = none_at_zero older in grind (arith, nat_tests)

pub none_past : (cs : List ℕ) (r : ℕ) → length cs < r → cells_of cs r ≡ 0
none_past [] r h = refl
none_past (c ∷ older) r h = let rest = none_past older r (omega arith) in grind (arith, nat_tests)

sizes_length : (al : List Allocation) → length (sizes al) ≡ length al
sizes_length al = length-map al (λ (a : Allocation). a.cells)

at : (al : List Allocation) (k r : ℕ) (d : Allocation) → k < length al → r + k ≡ length al → cells_of (sizes al) r ≡ (get_or al k d).cells
at [] k r d h e = absurd (omega arith)
at (a ∷ older) zero r d h e = let l = sizes_length older in grind (arith, nat_tests)
at (a ∷ older) (suc k) r d h e =
    let rest = at older k r d (omega arith) (omega arith) in
    let l = sizes_length older in
    grind (arith, nat_tests)

pub none_before : (al : List Allocation) → cells_of (sizes (reverse al)) 0 ≡ 0
none_before al = none_at_zero (sizes (reverse al))

pub none_behind : (al : List Allocation) (r : ℕ) → length al < r → cells_of (sizes (reverse al)) r ≡ 0
none_behind al r h = none_past (sizes (reverse al)) r (omega (arith, sizes_length (reverse al), length-reverse al))

pub cells_at : (al : List Allocation) (r : ℕ) (d : Allocation) → 0 < r → r ≤ length al → cells_of (sizes (reverse al)) r ≡ (get_or al (r - 1) d).cells
cells_at al r d low high =
    let size = length-reverse al in
    let mirrored = get_or-reverse al (length al - r) d (omega arith) in
    let place : length al - 1 - (length al - r) ≡ r - 1 = omega arith in
    at (reverse al) (length al - r) r d (omega arith) (omega arith) ∙ ap (λ (a : Allocation). a.cells) mirrored ∙ ap (λ k. (get_or al k d).cells) place

pub no_length_at_zero : (al : List Allocation) → length_of al 0 ≡ 0
no_length_at_zero [] = refl
no_length_at_zero (a ∷ older) = let rest = no_length_at_zero older in grind (arith, nat_tests)

no_length_past : (al : List Allocation) (r : ℕ) → length al < r → length_of al r ≡ 0
no_length_past [] r h = refl
no_length_past (a ∷ older) r h = let rest = no_length_past older r (omega arith) in grind (arith, nat_tests)

length_from : (al : List Allocation) (k r : ℕ) (d : Allocation) → k < length al → r + k ≡ length al → length_of al r ≡ (get_or al k d).length
length_from [] k r d h e = absurd (omega arith)
length_from (a ∷ older) zero r d h e = grind (arith, nat_tests)
length_from (a ∷ older) (suc k) r d h e = let rest = length_from older k r d (omega arith) (omega arith) in grind (arith, nat_tests)

pub no_length_behind : (al : List Allocation) (r : ℕ) → length al < r → length_of (reverse al) r ≡ 0
no_length_behind al r h = no_length_past (reverse al) r (omega (arith, length-reverse al))

pub length_at : (al : List Allocation) (r : ℕ) (d : Allocation) → 0 < r → r ≤ length al → length_of (reverse al) r ≡ (get_or al (r - 1) d).length
length_at al r d low high =
    let size = length-reverse al in
    let mirrored = get_or-reverse al (length al - r) d (omega arith) in
    let place : length al - 1 - (length al - r) ≡ r - 1 = omega arith in
    length_from (reverse al) (length al - r) r d (omega arith) (omega arith) ∙ ap (λ (a : Allocation). a.length) mirrored ∙ ap (λ k. (get_or al k d).length) place
