-- What std reads as a number is what the words' meaning reads.
use Rattle.std.proofs.Common.{◌≡◌, ◌<◌, ◌^◌, ◌&&◌, ℕ, Bool, true, false, [], ◌∷◌, length, Some, None, Result, Ok, Err, refl, sym, ap, subst, nat_lt, true≢false, lt-ltb, ltb-true, eqb-true}
use Rattle.std.specs.Char.{digit_value}
use Rattle.std.specs.List.{list_all}
use Rattle.std.specs.Result.{OkIff, result_ok}
use Rattle.std.specs.Str.Parse.{AllDigits, IsNumeral, ParsesUnsigned, digits_value, without_leading_plus}
use Rattle.clap.specs.Words.{Text}
use Rattle.command_line.specs.Shell.{is_number, is_signed, number_in}

digits_pass : (ds : Text) → AllDigits 10 ds → list_all (λ d. nat_lt (digit_value d) 10) ds ≡ true
digits_pass [] h = refl
digits_pass (d ∷ ds) h = rw (lt-ltb (digit_value d) 10 h.0) (digits_pass ds h.1)

both : (a b : Bool) → (a && b) ≡ true → (a ≡ true) × (b ≡ true)
both true b e = (refl, e)
both false b e = absurd (true≢false (sym e))

digits_from : (ds : Text) → list_all (λ d. nat_lt (digit_value d) 10) ds ≡ true → AllDigits 10 ds
digits_from [] e = tt
digits_from (d ∷ ds) e = let parts = both _ _ e in (ltb-true _ _ parts.0, digits_from ds parts.1)

-- what may be read as a number of 64 bits
abbrev IsRead : Text → Type 0
IsRead ds = IsNumeral 10 ds × (digits_value 10 ds < 2 ^ 64)

read : {E : Type 0} (ds : Text) (r : Result ℕ E) → OkIff r (IsRead ds) (digits_value 10 ds) → result_ok r ≡ number_in ds
read ds (Ok n) h = rw (lt-ltb 0 (length ds) h.0.0.0, digits_pass ds h.0.0.1, lt-ltb (digits_value 10 ds) (2 ^ 64) h.0.1) (ap Some h.1)
read ds (Err e) h = go (is_number ds) refl
  where
    go : (b : Bool) → is_number ds ≡ b → None ≡ number_in ds
    go false t = rw t refl
    go true t =
        let outer = both _ _ t in
        let inner = both _ _ outer.1 in
        absurd (h ((ltb-true _ _ inner.0, digits_from ds outer.0), ltb-true _ _ inner.1))

-- without a plus, the text is read as it is
as_it_is : (text : Text) → is_signed text ≡ false → without_leading_plus text ≡ text
as_it_is [] e = refl
as_it_is (b ∷ bs) e = rw e refl

pub number_read : {E : Type 0} (text : Text) (r : Result ℕ E) → is_signed text ≡ false → ParsesUnsigned 64 10 text r → result_ok r ≡ number_in text
number_read text r plain h = read text r (subst (λ ds. OkIff r (IsRead ds) (digits_value 10 ds)) (as_it_is text plain) h)

-- a plus is no digit
plus_fails : (b : ℕ) (bs : Text) → b ≡ 43 → is_number (b ∷ bs) ≡ false
plus_fails b bs e = rw e refl

pub no_number : (text : Text) → is_signed text ≡ true → None ≡ number_in text
no_number [] e = absurd (true≢false (sym e))
no_number (b ∷ bs) e = rw (plus_fails b bs (eqb-true b 43 e)) refl
