-- Reading items one behind the other, as a loop does.
use Rattle.std.proofs.Common.{◌≡◌, ℕ, suc, ◌-◌, ◌+◌, ◌≤◌, ◌<◌, List, [], ◌∷◌, ◌++◌, Result, Ok, Err, refl, sym, ap, ◌∙◌, append_assoc, arith}
use Rattle.std.proofs.lemmas.List.{append-nil}
use Rattle.instruction_table.specs.declared.fault.ImageFault.{ImageFault}
use Rattle.image_reader.specs.declared.failure.Failure.{Failure}
use Rattle.image_reader.specs.declared.failure.Failure.TheVariants as f
use Rattle.image_reader.specs.Outcome.{Fails}
use Rattle.image_reader.specs.Reading.{◌>>=◌, Reading, items_at, list_at, number_at}

-- what was read before, and what is still read
abbrev pub with_front : {A : Type 0} → List A → Result (List A × List ℕ) ImageFault → Result (List A × List ℕ) ImageFault
with_front front read = read >>= λ xs. Ok (front ++ xs.0, xs.1)

regroup : {A : Type 0} (front : List A) (x : A) (read : Result (List A × List ℕ) ImageFault) → with_front front (read >>= λ xs. Ok (x ∷ xs.0, xs.1)) ≡ with_front (front ++ x ∷ []) read
regroup {A} front x (Ok xs) = ap (λ (ys : List A). Ok (ys, xs.1)) (sym (append_assoc front (x ∷ []) xs.0))
regroup front x (Err e) = refl

with_nothing : {A : Type 0} (read : Result (List A × List ℕ) ImageFault) → with_front [] read ≡ read
with_nothing (Ok xs) = refl
with_nothing (Err e) = refl

pub begins : {A : Type 0} (r : Reading A) (count : ℕ) (bytes rest : List ℕ) → number_at bytes ≡ Ok (count, rest) → with_front [] (items_at r (count - 0) rest) ≡ list_at r bytes
unfolding list_at
begins r count bytes rest h =
    let k : count - 0 ≡ count = omega arith in
    rw (k, h) (with_nothing (items_at r count rest))

pub goes_on : {A : Type 0} (r : Reading A) (front : List A) (count i : ℕ) (bytes : List ℕ) (x : A) (after : List ℕ) (total : Result (List A × List ℕ) ImageFault) → i < count → r bytes ≡ Ok (x, after)
    → with_front front (items_at r (count - i) bytes) ≡ total → with_front (front ++ x ∷ []) (items_at r (count - (i + 1)) after) ≡ total
unfolding items_at
goes_on r front count i bytes x after total lt h so_far =
    let k : count - i ≡ suc (count - (i + 1)) = omega arith in
    let one : with_front front (items_at r (count - i) bytes) ≡ with_front (front ++ x ∷ []) (items_at r (count - (i + 1)) after) = rw (k, h) (regroup front x (items_at r (count - (i + 1)) after)) in
    sym one ∙ so_far

pub ends : {A : Type 0} (r : Reading A) (e : Failure) (front : List A) (count i : ℕ) (bytes : List ℕ) (total : Result (List A × List ℕ) ImageFault) → i < count → Fails e (r bytes)
    → with_front front (items_at r (count - i) bytes) ≡ total → Fails e total
unfolding items_at
ends r f.Memory front count i bytes total lt h so_far = tt
ends r (f.Fault fault) front count i bytes total lt h so_far =
    let k : count - i ≡ suc (count - (i + 1)) = omega arith in
    let one : with_front front (items_at r (count - i) bytes) ≡ Err fault = rw (k, h) refl in
    sym so_far ∙ one

pub is_done : {A : Type 0} (r : Reading A) (front : List A) (count i : ℕ) (bytes : List ℕ) (total : Result (List A × List ℕ) ImageFault) → count ≤ i → with_front front (items_at r (count - i) bytes) ≡ total → total ≡ Ok (front, bytes)
unfolding items_at
is_done {A} r front count i bytes total le so_far =
    let k : count - i ≡ 0 = omega arith in
    let one : with_front front (items_at r (count - i) bytes) ≡ Ok (front, bytes) = rw k (ap (λ (xs : List A). Ok (xs, bytes)) (append-nil front)) in
    sym so_far ∙ one
