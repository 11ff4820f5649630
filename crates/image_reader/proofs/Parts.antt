-- Reading undoes writing, and writing reading: of the fields of an image, its kinds and its entry facts.
use Rattle.std.proofs.Common.{◌≡◌, ℕ, zero, suc, ◌<◌, Bool, true, false, cond, eqb, ltb, List, [], ◌∷◌, ◌++◌, Option, Some, None, Ok, refl, sym, subst, arith}
use Rattle.std.specs.Int.{w32, cast_signed, cast_unsigned}
use Rattle.std.specs.Int.RustNames.{FitsSigned}
use Rattle.std.proofs.Math.Facts.{Fits-lt-pow, Fits-of_lt, Fits-of_z, sfits_to_z}
use Rattle.std.proofs.lemmas.Int.{of_z-to_z, to_z-of_z}
use Rattle.std.proofs.lemmas.Bool.{eqb-true, eqb-false, ltb-true, lt-ltb}
use Rattle.code_form.specs.declared.form.Kind.{Kind}
use Rattle.code_form.specs.declared.form.Kind.TheVariants as k
use Rattle.code_form.specs.declared.form.Fact.{Fact}
use Rattle.code_form.specs.declared.form.Fact.TheVariants.{Nonnull, Inside, Aimed, Shut}
use Rattle.instruction_table.specs.declared.fault.ImageFault.TheVariants.{BadOperand}
use Rattle.image_bytes.specs.Bytes.{fact_bytes, kind_bytes, optional_bytes, result_bytes, truth_byte, word}
use Rattle.image_bytes.specs.Encodable.{CellFits, FactFits, IsByte, IsLetter, IsWord, KindFits, OptionalFits, ResultFits}
use Rattle.image_reader.specs.Laws.{IsBytes}
use Rattle.image_reader.specs.Reading.{byte_at, cell_at, cell_cases, fact_at, fact_cases, integer_at, kind_at, kind_cases, letter_at, mapped, number_at, optional_at, pair_at, place_at, register_or_none, result_at, tested, truth_at}
use Rattle.image_reader.proofs.Readers.{IsBytes-rest, IsReader, Takes, bind_ok, byte_reader, mapped_again, mapped_reader, number_reader, ok_is, pair_reader, same_reader, tag_alone, tag_before, tagged_takes, tested_reader}

-- ---- a register, or none

-- the number that stands for it
register_number : Option ℕ → ℕ
register_number None = 4294967295
register_number (Some r) = r

chosen_register : (n : ℕ) (test : Bool) → eqb n 4294967295 ≡ test → IsWord n → (register_number (cond test None (Some n)) ≡ n) × OptionalFits (cond test None (Some n))
unfolding register_number
chosen_register n true e fits = (sym (eqb-true n 4294967295 e), tt)
chosen_register n false e fits = let other : n ≡ 4294967295 → ⊥ = eqb-false n 4294967295 e in (refl, omega arith)

other_number : (r : ℕ) (test : Bool) → eqb r 4294967295 ≡ test → r < 4294967295 → cond test None (Some r) ≡ Some r
other_number r true e lt = let same : r ≡ 4294967295 = eqb-true r 4294967295 e in absurd (omega arith)
other_number r false e lt = refl

register_back : (r : Option ℕ) → OptionalFits r → (register_or_none (register_number r) ≡ r) × IsWord (register_number r)
unfolding register_number
register_back None fits = (refl, omega arith)
register_back (Some r) fits = (other_number r (eqb r 4294967295) refl fits, omega arith)

register_word : (r : Option ℕ) → word (register_number r) ≡ optional_bytes r
unfolding register_number
register_word None = refl
register_word (Some r) = refl

pub optional_reader : IsReader optional_at optional_bytes OptionalFits
unfolding optional_at
optional_reader = same_reader (mapped register_or_none number_at) (λ r. word (register_number r)) optional_bytes OptionalFits register_word
    (mapped_reader number_at word IsWord OptionalFits register_or_none register_number (λ n fits. chosen_register n (eqb n 4294967295) refl fits) register_back number_reader)

-- ---- numbers with a sign, truth values and characters

pub integer_reader : IsReader integer_at (λ z. word (cast_unsigned w32 z)) (FitsSigned w32)
unfolding integer_at
integer_reader = mapped_reader number_at word IsWord (FitsSigned w32) (cast_signed w32) (cast_unsigned w32) (λ n fits. (of_z-to_z w32 n fits, sfits_to_z {w = w32} {n = n} (Fits-of_lt {w = w32} {n = n} fits))) (λ z fits. (to_z-of_z w32 z fits, Fits-lt-pow {w = w32} {n = cast_unsigned w32 z} (Fits-of_z {w = w32} {z = z} fits))) number_reader

truth_forth : (b : ℕ) → b < 2 → (truth_byte (eqb b 1) ≡ b) × Unit {0}
truth_forth zero lt = (refl, tt)
truth_forth (suc zero) lt = (refl, tt)
truth_forth (suc (suc b)) lt = absurd (omega arith)

truth_back : (t : Bool) → Unit {0} → (eqb (truth_byte t) 1 ≡ t) × (truth_byte t < 2)
truth_back true fits = (refl, omega arith)
truth_back false fits = (refl, omega arith)

pub truth_reader : IsReader truth_at (λ t. truth_byte t ∷ []) (λ t. Unit {0})
unfolding truth_at
truth_reader = mapped_reader (tested (λ b. ltb b 2) BadOperand byte_at) (λ b. b ∷ []) (λ b. b < 2) (λ t. Unit {0}) (λ b. eqb b 1) truth_byte truth_forth truth_back
    (tested_reader byte_at (λ b. b ∷ []) IsByte (λ b. b < 2) (λ b. ltb b 2) BadOperand (λ b e. ltb-true b 2 e) (λ b lt. (lt-ltb b 2 lt, omega arith)) byte_reader)

pub letter_reader : IsReader letter_at (λ b. b ∷ []) IsLetter
unfolding letter_at
letter_reader = tested_reader byte_at (λ b. b ∷ []) IsByte IsLetter (λ b. ltb b 128) BadOperand (λ b e. ltb-true b 128 e) (λ b lt. (lt-ltb b 128 lt, omega arith)) byte_reader

-- ---- kinds

cell_takes : (bytes : List ℕ) (x : Kind × List ℕ) → IsBytes bytes → cell_at bytes ≡ Ok x → Takes bytes (kind_bytes x.0) x.1 × CellFits x.0
unfolding cell_at
cell_takes bytes x fits e = tagged_takes kind_bytes CellFits cell_cases (
  tag_alone kind_bytes CellFits 1 k.Int refl tt,
  (
    tag_alone kind_bytes CellFits 2 k.Bool refl tt,
    (
      tag_alone kind_bytes CellFits 3 k.Char refl tt,
      (
        tag_alone kind_bytes CellFits 4 k.Text refl tt,
        (
          tag_before number_at word IsWord kind_bytes CellFits 5 k.Ptr number_reader (λ l. refl) (λ l h. h),
          (tag_before number_at word IsWord kind_bytes CellFits 6 k.Arr number_reader (λ l. refl) (λ l h. h), tt),
        ),
      ),
    ),
  ),
) bytes x fits e

cell_again : (kind : Kind) (rest : List ℕ) → CellFits kind → cell_at (kind_bytes kind ++ rest) ≡ Ok (kind, rest)
unfolding cell_at byte_at
cell_again k.Int rest fits = refl
cell_again k.Bool rest fits = refl
cell_again k.Char rest fits = refl
cell_again k.Text rest fits = refl
cell_again (k.Ptr l) rest fits = mapped_again number_at word IsWord k.Ptr number_reader l rest fits
cell_again (k.Arr l) rest fits = mapped_again number_at word IsWord k.Arr number_reader l rest fits
cell_again (k.Off l) rest fits = absurd fits

pub cell_reader : IsReader cell_at kind_bytes CellFits
cell_reader = record { takes = cell_takes; again = cell_again }

kind_takes : (bytes : List ℕ) (x : Kind × List ℕ) → IsBytes bytes → kind_at bytes ≡ Ok x → Takes bytes (kind_bytes x.0) x.1 × KindFits x.0
unfolding kind_at
kind_takes bytes x fits e = tagged_takes kind_bytes KindFits kind_cases (
  tag_before number_at word IsWord kind_bytes KindFits 7 k.Off number_reader (λ l. refl) (λ l h. h),
  (
    tag_alone kind_bytes KindFits 1 k.Int refl tt,
    (
      tag_alone kind_bytes KindFits 2 k.Bool refl tt,
      (
        tag_alone kind_bytes KindFits 3 k.Char refl tt,
        (
          tag_alone kind_bytes KindFits 4 k.Text refl tt,
          (
            tag_before number_at word IsWord kind_bytes KindFits 5 k.Ptr number_reader (λ l. refl) (λ l h. h),
            (tag_before number_at word IsWord kind_bytes KindFits 6 k.Arr number_reader (λ l. refl) (λ l h. h), tt),
          ),
        ),
      ),
    ),
  ),
) bytes x fits e

kind_again : (kind : Kind) (rest : List ℕ) → KindFits kind → kind_at (kind_bytes kind ++ rest) ≡ Ok (kind, rest)
unfolding kind_at byte_at
kind_again k.Int rest fits = refl
kind_again k.Bool rest fits = refl
kind_again k.Char rest fits = refl
kind_again k.Text rest fits = refl
kind_again (k.Ptr l) rest fits = mapped_again number_at word IsWord k.Ptr number_reader l rest fits
kind_again (k.Arr l) rest fits = mapped_again number_at word IsWord k.Arr number_reader l rest fits
kind_again (k.Off l) rest fits = mapped_again number_at word IsWord k.Off number_reader l rest fits

pub kind_reader : IsReader kind_at kind_bytes KindFits
kind_reader = record { takes = kind_takes; again = kind_again }

some_takes : (bytes : List ℕ) (x : Option Kind × List ℕ) → IsBytes bytes → mapped Some kind_at bytes ≡ Ok x → Takes bytes (result_bytes x.0) x.1 × ResultFits x.0
some_takes bytes x fits e =
    let a = bind_ok (kind_at bytes) (λ y. Ok (Some y.0, y.1)) x e in
    subst (λ (y : Option Kind × List ℕ). Takes bytes (result_bytes y.0) y.1 × ResultFits y.0) (ok_is (Some a.0.0, a.0.1) x a.2) (kind_takes bytes a.0 fits a.1)

result_takes : (bytes : List ℕ) (x : Option Kind × List ℕ) → IsBytes bytes → result_at bytes ≡ Ok x → Takes bytes (result_bytes x.0) x.1 × ResultFits x.0
unfolding result_at
result_takes [] x fits e = some_takes [] x fits e
result_takes (zero ∷ bytes) x fits e = subst (λ (y : Option Kind × List ℕ). Takes (0 ∷ bytes) (result_bytes y.0) y.1 × ResultFits y.0) (ok_is (None, bytes) x e) (record { parts = refl; rest_fits = IsBytes-rest 0 bytes fits }, tt)
result_takes (suc tag ∷ bytes) x fits e = some_takes (suc tag ∷ bytes) x fits e

some_again : (kind : Kind) (rest : List ℕ) → KindFits kind → mapped Some kind_at (kind_bytes kind ++ rest) ≡ Ok (Some kind, rest)
some_again kind rest fits = mapped_again kind_at kind_bytes KindFits Some kind_reader kind rest fits

result_again : (kind : Option Kind) (rest : List ℕ) → ResultFits kind → result_at (result_bytes kind ++ rest) ≡ Ok (kind, rest)
unfolding result_at
result_again None rest fits = refl
result_again (Some k.Int) rest fits = some_again k.Int rest fits
result_again (Some k.Bool) rest fits = some_again k.Bool rest fits
result_again (Some k.Char) rest fits = some_again k.Char rest fits
result_again (Some k.Text) rest fits = some_again k.Text rest fits
result_again (Some (k.Ptr l)) rest fits = some_again (k.Ptr l) rest fits
result_again (Some (k.Arr l)) rest fits = some_again (k.Arr l) rest fits
result_again (Some (k.Off l)) rest fits = some_again (k.Off l) rest fits

pub result_reader : IsReader result_at result_bytes ResultFits
result_reader = record { takes = result_takes; again = result_again }

-- ---- entry facts

abbrev place_bytes : ℕ × (Option ℕ × ℕ) → List ℕ
place_bytes x = word x.0 ++ (optional_bytes x.1.0 ++ word x.1.1)

abbrev PlaceFits : ℕ × (Option ℕ × ℕ) → Type 0
PlaceFits x = IsWord x.0 × (OptionalFits x.1.0 × IsWord x.1.1)

place_reader : IsReader place_at place_bytes PlaceFits
place_reader = pair_reader number_at word IsWord (pair_at optional_at number_at) (λ x. optional_bytes x.0 ++ word x.1) (λ x. OptionalFits x.0 × IsWord x.1) number_reader
    (pair_reader optional_at optional_bytes OptionalFits number_at word IsWord optional_reader number_reader)

abbrev words : ℕ × ℕ → List ℕ
words x = word x.0 ++ word x.1

abbrev AreWords : ℕ × ℕ → Type 0
AreWords x = IsWord x.0 × IsWord x.1

words_reader : IsReader (pair_at number_at number_at) words AreWords
words_reader = pair_reader number_at word IsWord number_at word IsWord number_reader number_reader

abbrev aim_bytes : ℕ × (ℕ × (Option ℕ × ℕ)) → List ℕ
aim_bytes x = x.0 ∷ place_bytes x.1

abbrev AimFits : ℕ × (ℕ × (Option ℕ × ℕ)) → Type 0
AimFits x = IsByte x.0 × PlaceFits x.1

aim_reader : IsReader (pair_at byte_at place_at) aim_bytes AimFits
aim_reader = pair_reader byte_at (λ b. b ∷ []) IsByte place_at place_bytes PlaceFits byte_reader place_reader

abbrev inside : ℕ × ℕ → Fact
inside x = Inside x.0 x.1

abbrev aimed : ℕ × (ℕ × (Option ℕ × ℕ)) → Fact
aimed x = Aimed x.0 x.1.0 x.1.1.0 x.1.1.1

fact_takes : (bytes : List ℕ) (x : Fact × List ℕ) → IsBytes bytes → fact_at bytes ≡ Ok x → Takes bytes (fact_bytes x.0) x.1 × FactFits x.0
unfolding fact_at
fact_takes bytes x fits e = tagged_takes fact_bytes FactFits fact_cases (
  tag_before number_at word IsWord fact_bytes FactFits 1 Nonnull number_reader (λ r. refl) (λ r h. h),
  (
    tag_before (pair_at number_at number_at) words AreWords fact_bytes FactFits 2 inside words_reader (λ y. refl) (λ y h. h),
    (
      tag_before (pair_at byte_at place_at) aim_bytes AimFits fact_bytes FactFits 3 aimed aim_reader (λ y. refl) (λ y h. h),
      (tag_before byte_at (λ b. b ∷ []) IsByte fact_bytes FactFits 4 Shut byte_reader (λ s. refl) (λ s h. h), tt),
    ),
  ),
) bytes x fits e

fact_again : (fact : Fact) (rest : List ℕ) → FactFits fact → fact_at (fact_bytes fact ++ rest) ≡ Ok (fact, rest)
unfolding fact_at byte_at
fact_again (Nonnull r) rest fits = mapped_again number_at word IsWord Nonnull number_reader r rest fits
fact_again (Inside d r) rest fits = mapped_again (pair_at number_at number_at) words AreWords inside words_reader (d, r) rest fits
fact_again (Aimed s r off disp) rest fits = mapped_again (pair_at byte_at place_at) aim_bytes AimFits aimed aim_reader (s, (r, (off, disp))) rest fits
fact_again (Shut s) rest fits = refl

pub fact_reader : IsReader fact_at fact_bytes FactFits
fact_reader = record { takes = fact_takes; again = fact_again }
