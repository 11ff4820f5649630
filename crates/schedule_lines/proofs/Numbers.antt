-- numbers at the beginning of a text
use Rattle.std.proofs.Common.{◌≡◌, ◌≢◌, inl, inr, ℕ, zero, suc, ◌+◌, ◌-◌, ◌*◌, ◌<◌, ◌≤◌, ◌^◌, Bool, true, false, cond, List, [], ◌∷◌, ◌++◌, length, map, length-append, get_or, take, drop, Option, Some, None, Bor, MatchOption, append_assoc, refl, sym, ap, ◌∙◌, subst, arith}
use Rattle.std.proofs.Math.Seq.{take-length}
use Rattle.std.specs.Char.{IsAsciiDigit, IsNotAsciiDigit}
use Rattle.std.specs.Prelude.{◌==◌, nat_lt, codes, decimal}
use Rattle.std.specs.Int.Digits.{digits_of}
use Rattle.std.proofs.lemmas.Int.Digits.{first_digits_of}
use Rattle.std.proofs.lemmas.Fmt.{decimal-digits_of, decimal-digits_value, decimal_is_IsNumeral, decimal_digit, digits_decimal, digits_value-decimal}
use Rattle.std.proofs.lemmas.Str.Parse.{IsDigitsTest, FoldsDigits, IsNumeralModel, numerals_by_fold}
use Rattle.std.proofs.lemmas.Bool.Decides.{nat_tests}
use Rattle.world_semantics.specs.declared.event.Actor.{Actor}
use Rattle.world_semantics.specs.declared.event.Actor.TheVariants as actor
use Rattle.world_semantics.specs.declared.event.Choice.{Choice}
use Rattle.world_semantics.specs.declared.event.Choice.TheVariants as choice
use Rattle.schedule_lines.specs.Lines.{IsActor32, IsLine, IsNoDigit, IsNoLine, spell, spell_actor, spell_choice}
use Rattle.schedule_lines.specs.Numerals.{AreDigits, value_behind, HasDigits, IsTooGreat, is_plain, IsNumber, IsNoNumber, IsNumbered, IsNotNumbered, IsLast, IsNotLast, IsPair, IsNoPair, IsChosen, IsNotChosen, IsNamed, IsNotNamed}

model : IsNumeralModel AreDigits (value_behind 0)
model = numerals_by_fold AreDigits (record { empty = tt; parts = λ c cs p. ((p.0, p.1), p.2); more = λ c cs r p. (r.0, r.1, p) }) value_behind (record { empty = λ n. refl; more = λ n c cs r. refl })

-- ---- digits, one by one

pub no_digits : (n : ℕ) (text : List ℕ) → IsNoDigit text → HasDigits n text n text
no_digits n text no_digit = ([], refl, tt, no_digit, refl)

pub one_digit : (n b v : ℕ) (text rest : List ℕ) → 48 ≤ b → b ≤ 57 → HasDigits (n * 10 + (b - 48)) text v rest → HasDigits n (b ∷ text) v rest
one_digit n b v text rest low high h = (b ∷ h.0, ap (λ xs. b ∷ xs) h.1, (low, high, h.2), h.3, h.4)

no_less : (n : ℕ) (ds : List ℕ) → n ≤ value_behind n ds
no_less n [] = omega arith
no_less n (b ∷ bs) = omega (arith, no_less (n * 10 + (b - 48)) bs)

first_of : (b c : ℕ) (bs cs : List ℕ) → b ∷ bs ≡ c ∷ cs → b ≡ c
first_of b c bs cs e = cc

rest_of : (b c : ℕ) (bs cs : List ℕ) → b ∷ bs ≡ c ∷ cs → bs ≡ cs
rest_of b c bs cs e = cc

-- where no digit begins the rest, a digit of the text is one of its digits
begins : (Q : List ℕ → Type 0) (b : ℕ) (text ds rest : List ℕ) → 48 ≤ b → b ≤ 57 → b ∷ text ≡ ds ++ rest → AreDigits ds → IsNoDigit rest
    → ((ds : List ℕ) → text ≡ ds ++ rest → AreDigits ds → Q (b ∷ ds)) → Q ds
begins Q b text [] rest low high e are no_digit go = absurd (subst IsNoDigit (sym e) no_digit low high)
begins Q b text (c ∷ cs) rest low high e are no_digit go =
    subst (λ x. Q (x ∷ cs)) (first_of b c text (cs ++ rest) e) (go cs (rest_of b c text (cs ++ rest) e) are.2)

pub too_great_behind : (n b : ℕ) (text : List ℕ) → 48 ≤ b → b ≤ 57 → IsTooGreat (n * 10 + (b - 48)) text → IsTooGreat n (b ∷ text)
too_great_behind n b text low high great ds rest e are no_digit =
    begins (λ xs. 2 ^ 32 ≤ value_behind n xs) b text ds rest low high e are no_digit (λ es f those. great es rest f those no_digit)

pub too_great_already : (n b : ℕ) (text : List ℕ) → 48 ≤ b → b ≤ 57 → 2 ^ 32 ≤ n * 10 + (b - 48) → IsTooGreat n (b ∷ text)
too_great_already n b text low high great ds rest e are no_digit =
    begins (λ xs. 2 ^ 32 ≤ value_behind n xs) b text ds rest low high e are no_digit (λ es f those. omega (arith, great, no_less (n * 10 + (b - 48)) es))

tail_of : (b : ℕ) (bs : List ℕ) → take (length (b ∷ bs) - 1) (drop 1 (b ∷ bs)) ≡ bs
tail_of b bs = ap (λ n. take n bs) {x = length (b ∷ bs) - 1} {y = length bs} (omega arith) ∙ take-length bs

-- so of a text that is cut behind its first digit
pub behind : (n next : ℕ) (text : List ℕ) (r : Option (ℕ × Bor (List ℕ))) → 1 ≤ length text → IsAsciiDigit (get_or text 0 0) → next ≡ n * 10 + (get_or text 0 0 - 48)
    → MatchOption r (IsTooGreat next (take (length text - 1) (drop 1 text))) (λ p. HasDigits next (take (length text - 1) (drop 1 text)) p.0 p.1.now)
    → MatchOption r (IsTooGreat n text) (λ p. HasDigits n text p.0 p.1.now)
behind n next [] r some digit is told = absurd (omega arith)
behind n next (b ∷ bs) None some digit is told =
    too_great_behind n b bs digit.0 digit.1 (subst (λ v. IsTooGreat v bs) is (subst (IsTooGreat next) (tail_of b bs) told))
behind n next (b ∷ bs) (Some p) some digit is told =
    one_digit n b p.0 bs p.1.now digit.0 digit.1 (subst (λ v. HasDigits v bs p.0 p.1.now) is (subst (λ xs. HasDigits next xs p.0 p.1.now) (tail_of b bs) told))

-- what is told of the digits that begin a text, behind those of n
abbrev pub Told : ℕ → List ℕ → Option (ℕ × Bor (List ℕ)) → Type 0
Told n text r = MatchOption r (IsTooGreat n text) (λ p. HasDigits n text p.0 p.1.now)

-- what is told of this rest behind the digits of n is told of the whole text
abbrev pub TellsOf : ℕ → List ℕ → List ℕ → Type 0
TellsOf n rest text = (r : Option (ℕ × Bor (List ℕ))) → Told n rest r → Told 0 text r

-- where the text begins with a byte that is no digit, or is empty, the digits end
pub not_digit : (text : List ℕ) → 1 ≤ length text → IsNotAsciiDigit (get_or text 0 0) → IsNoDigit text
not_digit [] some other = tt
not_digit (b ∷ bs) some (inl less) = λ low high. omega (arith, less, low)
not_digit (b ∷ bs) some (inr more) = λ low high. omega (arith, more, high)

pub no_more : (text : List ℕ) → length text < 1 → IsNoDigit text
no_more [] few = tt
no_more (b ∷ bs) few = absurd (omega (arith, few))

-- one digit more and there are too many
pub too_great_with : (n : ℕ) (text : List ℕ) → 1 ≤ length text → IsAsciiDigit (get_or text 0 0) → 2 ^ 32 ≤ n * 10 + (get_or text 0 0 - 48) → IsTooGreat n text
too_great_with n [] some digit great = absurd (omega arith)
too_great_with n (b ∷ bs) some digit great = too_great_already n b bs digit.0 digit.1 great

-- ---- what is printed of a number

-- digits are cut from what follows in one way
pub one_cut : (ds es r s : List ℕ) → AreDigits ds → AreDigits es → IsNoDigit r → IsNoDigit s → ds ++ r ≡ es ++ s → (ds ≡ es) × (r ≡ s)
one_cut [] [] r s a b c d e = (refl, e)
one_cut [] (x ∷ es) r s a b c d e = absurd (subst IsNoDigit e c b.0 b.1)
one_cut (x ∷ ds) [] r s a b c d e = absurd (subst IsNoDigit (sym e) d a.0 a.1)
one_cut (x ∷ ds) (y ∷ es) r s a b c d e =
    let more = one_cut ds es r s a.2 b.2 c d (rest_of x y (ds ++ r) (es ++ s) e) in
    ((λ i. first_of x y (ds ++ r) (es ++ s) e i ∷ more.0 i), more.1)

-- as many digits as are printed of a number
abbrev IsPlain : List ℕ → Type 0
IsPlain ds = (0 < length ds) × (get_or ds 0 0 ≡ 48 → length ds ≡ 1)

above : (xs : List ℕ) → 0 < get_or xs 0 0 → get_or (map (λ d. 48 + d) xs) 0 0 ≡ 48 → ⊥
above [] low e = omega arith
above (x ∷ xs) low e = omega arith

-- what is printed of a number is no longer than it needs to be
printed_plain : (n : ℕ) → n < 2 ^ 32 → IsPlain (decimal n)
printed_plain zero small = let e = decimal_digit 0 (omega arith) in subst IsPlain (sym e) (omega arith, λ z. refl)
printed_plain (suc n) small = (
  (decimal_is_IsNumeral (suc n) (omega arith)).0.0,
  λ e. absurd (above (digits_of 10 (suc n)) (first_digits_of 10 (suc n) (omega arith) (omega arith)) (sym (ap (λ xs. get_or xs 0 0) (decimal-digits_of (suc n) (omega arith) (omega arith))) ∙ e)),
)

printed_digits : (n : ℕ) → n < 2 ^ 32 → AreDigits (decimal n)
printed_digits n small = digits_decimal model n (omega arith)

plain_yes : (ds rest : List ℕ) → is_plain (ds ++ rest) (length ds) ≡ true → IsPlain ds
plain_yes [] [] e = cc
plain_yes [] (b ∷ bs) e = absurd (by_first (b == 48) e)
  where
    by_first : (t : Bool) → cond t (0 == 1) (nat_lt 0 0) ≡ true → ⊥
    by_first true e = cc
    by_first false e = cc
plain_yes (d ∷ ds) rest e = (omega arith, λ z. grind (arith, nat_tests))

plain_no : (ds rest : List ℕ) → is_plain (ds ++ rest) (length ds) ≡ false → IsPlain ds → ⊥
plain_no [] rest e plain = omega (arith, plain.0)
plain_no (d ∷ ds) rest e plain = grind (arith, nat_tests)

-- the digits that begin the text are a number, or they are none
pub is_number : (v : ℕ) (text rest : List ℕ) → v < 2 ^ 32 → HasDigits 0 text v rest → is_plain text (length text - length rest) ≡ true → IsNumber v rest text
is_number v text rest small h plain =
    let ds = h.0 in
    let n = length text - length rest in
    let long : length ds ≡ n = omega (arith, ap length h.1, length-append ds rest) in
    let p : IsPlain ds = plain_yes ds rest (ap (is_plain (ds ++ rest)) long ∙ ap (λ xs. is_plain xs n) (sym h.1) ∙ plain) in
    let same : decimal v ≡ ds = ap decimal h.4 ∙ decimal-digits_value model ds h.2 p.0 p.1 (omega (arith, h.4)) in
    (small, h.1 ∙ ap (λ xs. xs ++ rest) (sym same), h.3)

pub is_no_number : (v : ℕ) (text rest : List ℕ) → HasDigits 0 text v rest → is_plain text (length text - length rest) ≡ false → IsNoNumber text
is_no_number v text rest h plain m more small no_digit e =
    let ds = h.0 in
    let n = length text - length rest in
    let long : length ds ≡ n = omega (arith, ap length h.1, length-append ds rest) in
    let one = one_cut ds (decimal m) rest more h.2 (printed_digits m small) h.3 no_digit (sym h.1 ∙ e) in
    plain_no ds rest (ap (is_plain (ds ++ rest)) long ∙ ap (λ xs. is_plain xs n) (sym h.1) ∙ plain) (subst IsPlain (sym one.0) (printed_plain m small))

pub no_great_number : (text : List ℕ) → IsTooGreat 0 text → IsNoNumber text
no_great_number text great m more small no_digit e =
    let v : value_behind 0 (decimal m) ≡ m = digits_value-decimal model m (omega arith) in
    omega (arith, great (decimal m) more e (printed_digits m small) no_digit, v)

-- a text begins with one number
pub same_number : (n m : ℕ) (text r s : List ℕ) → IsNumber n r text → m < 2 ^ 32 → IsNoDigit s → text ≡ decimal m ++ s → (m ≡ n) × (s ≡ r)
same_number n m text r s is small no_digit e =
    let one = one_cut (decimal n) (decimal m) r s (printed_digits n is.0) (printed_digits m small) is.2 no_digit (sym is.1 ∙ e) in
    (sym (digits_value-decimal model m (omega arith)) ∙ ap (value_behind 0) (sym one.0) ∙ digits_value-decimal model n (omega (arith, is.0)), sym one.1)

-- ---- words and numbers

-- what stands behind one word is one text
pub same_behind : (word r s : List ℕ) → word ++ r ≡ word ++ s → r ≡ s
same_behind [] r s e = e
same_behind (b ∷ bs) r s e = same_behind bs r s (rest_of b b (bs ++ r) (bs ++ s) e)

pub number_behind : (word text rest : List ℕ) (r : Option (ℕ × Bor (List ℕ))) → text ≡ word ++ rest → MatchOption r (IsNoNumber rest) (λ p. IsNumber p.0 p.1.now rest)
    → MatchOption r (IsNotNumbered word text) (λ p. IsNumbered word p.0 p.1.now text)
number_behind word text rest None cut told = λ n more small no_digit e. told n more small no_digit (same_behind word rest (decimal n ++ more) (sym cut ∙ e))
number_behind word text rest (Some p) cut told = (told.0, cut ∙ ap (λ xs. word ++ xs) told.1, told.2)

pub not_last : (word text rest : List ℕ) (n : ℕ) → IsNumbered word n rest text → ((more : List ℕ) → rest ≢ codes "\n" ++ more) → IsNotLast word text
not_last word text rest n is none m more small e =
    let cut = same_behind word (decimal n ++ rest) (decimal m ++ (codes "\n" ++ more)) (sym is.1 ∙ e) in
    none more (sym (same_number n m (decimal n ++ rest) rest (codes "\n" ++ more) (is.0, refl, is.2) small (λ low high. omega arith) cut).1)

joined : (word : List ℕ) (o f : ℕ) (rest : List ℕ) → (word ++ (decimal o ++ (codes " " ++ decimal f))) ++ (codes "\n" ++ rest) ≡ word ++ (decimal o ++ (codes " " ++ (decimal f ++ (codes "\n" ++ rest))))
joined word o f rest =
    append_assoc word (decimal o ++ (codes " " ++ decimal f)) (codes "\n" ++ rest) ∙ ap (λ xs. word ++ xs) (append_assoc (decimal o) (codes " " ++ decimal f) (codes "\n" ++ rest))

-- two numbers behind a word
pub is_pair : (word text more rest : List ℕ) (o f : ℕ) → IsNumbered word o more text → IsLast (codes " ") f rest more → IsPair word o f rest text
is_pair word text more rest o f a b = (a.0, b.0, a.1 ∙ ap (λ xs. word ++ (decimal o ++ xs)) b.1 ∙ sym (joined word o f rest))

pub no_pair : (word text : List ℕ) → IsNotNumbered word text → IsNoPair word text
no_pair word text none o f rest small low e = none o (codes " " ++ (decimal f ++ (codes "\n" ++ rest))) small (λ low high. omega arith) (e ∙ joined word o f rest)

pub not_pair : (word text rest : List ℕ) (n : ℕ) → IsNumbered word n rest text → IsNotLast (codes " ") rest → IsNoPair word text
not_pair word text rest n is none o f more small low e =
    let line : List ℕ = codes " " ++ (decimal f ++ (codes "\n" ++ more)) in
    let cut : decimal n ++ rest ≡ decimal o ++ line = same_behind word (decimal n ++ rest) (decimal o ++ line) (sym is.1 ∙ e ∙ joined word o f more) in
    none f more low (sym (same_number n o (decimal n ++ rest) rest line (is.0, refl, is.2) small (λ low high. omega arith) cut).1)

-- ---- lines

-- a text begins with one actor
same_actor : (a b : Actor) (text r s : List ℕ) → IsNamed a r text → IsActor32 b → IsNoDigit s → text ≡ spell_actor b ++ s → s ≡ r
same_actor (actor.Program k) (actor.Program j) text r s is small no_digit e =
    (same_number k j (decimal k ++ r) r s (is.0, refl, is.2) small no_digit (same_behind (codes "p") (decimal k ++ r) (decimal j ++ s) (sym is.1 ∙ e))).1
same_actor (actor.Evacuator k) (actor.Evacuator j) text r s is small no_digit e =
    (same_number k j (decimal k ++ r) r s (is.0, refl, is.2) small no_digit (same_behind (codes "e") (decimal k ++ r) (decimal j ++ s) (sym is.1 ∙ e))).1
same_actor (actor.Fetcher k) (actor.Fetcher j) text r s is small no_digit e =
    (same_number k j (decimal k ++ r) r s (is.0, refl, is.2) small no_digit (same_behind (codes "f") (decimal k ++ r) (decimal j ++ s) (sym is.1 ∙ e))).1
same_actor (actor.Program k) (actor.Evacuator j) text r s is small no_digit e = absurd (omega (arith, first_of 112 101 (decimal k ++ r) (decimal j ++ s) (sym is.1 ∙ e)))
same_actor (actor.Program k) (actor.Fetcher j) text r s is small no_digit e = absurd (omega (arith, first_of 112 102 (decimal k ++ r) (decimal j ++ s) (sym is.1 ∙ e)))
same_actor (actor.Evacuator k) (actor.Program j) text r s is small no_digit e = absurd (omega (arith, first_of 101 112 (decimal k ++ r) (decimal j ++ s) (sym is.1 ∙ e)))
same_actor (actor.Evacuator k) (actor.Fetcher j) text r s is small no_digit e = absurd (omega (arith, first_of 101 102 (decimal k ++ r) (decimal j ++ s) (sym is.1 ∙ e)))
same_actor (actor.Fetcher k) (actor.Program j) text r s is small no_digit e = absurd (omega (arith, first_of 102 112 (decimal k ++ r) (decimal j ++ s) (sym is.1 ∙ e)))
same_actor (actor.Fetcher k) (actor.Evacuator j) text r s is small no_digit e = absurd (omega (arith, first_of 102 101 (decimal k ++ r) (decimal j ++ s) (sym is.1 ∙ e)))

-- no digit begins a choice
behind_actor : (c : Choice) (rest : List ℕ) → IsNoDigit (spell_choice c ++ (codes "\n" ++ rest))
behind_actor choice.Next rest = λ low high. omega arith
behind_actor (choice.Look f) rest = λ low high. omega arith
behind_actor (choice.Claim f) rest = λ low high. omega arith
behind_actor (choice.Mark o f) rest = λ low high. omega arith
behind_actor (choice.Leave o f) rest = λ low high. omega arith
behind_actor (choice.Begin o) rest = λ low high. omega arith

spelled : (a : Actor) (c : Choice) (rest : List ℕ) → spell (record { actor = a; choice = c }) ++ rest ≡ spell_actor a ++ (spell_choice c ++ (codes "\n" ++ rest))
spelled a c rest = append_assoc (spell_actor a) (spell_choice c ++ codes "\n") rest ∙ ap (λ xs. spell_actor a ++ xs) (append_assoc (spell_choice c) (codes "\n") rest)

pub is_line : (a : Actor) (c : Choice) (text r rest : List ℕ) → IsNamed a r text → IsChosen c rest r → IsLine (record { actor = a; choice = c }) rest text
is_line a c text r rest named chosen = ((named.0, chosen.0), named.1 ∙ ap (λ xs. spell_actor a ++ xs) chosen.1 ∙ sym (spelled a c rest))

pub no_actor : (text : List ℕ) → IsNotNamed text → IsNoLine text
no_actor text none x rest small e = none x.actor (spell_choice x.choice ++ (codes "\n" ++ rest)) small.0 (behind_actor x.choice rest) (e ∙ spelled x.actor x.choice rest)

pub no_choice : (a : Actor) (text r : List ℕ) → IsNamed a r text → IsNotChosen r → IsNoLine text
no_choice a text r named none x rest small e =
    let s : List ℕ = spell_choice x.choice ++ (codes "\n" ++ rest) in
    none x.choice rest small.1 (sym (same_actor a x.actor text r s named small.0 (behind_actor x.choice rest) (e ∙ spelled x.actor x.choice rest)))

pub not_named : (text : List ℕ) → IsNotNumbered (codes "p") text → IsNotNumbered (codes "e") text → IsNotNumbered (codes "f") text → IsNotNamed text
not_named text p e f (actor.Program k) rest small no_digit is = p k rest small no_digit is
not_named text p e f (actor.Evacuator k) rest small no_digit is = e k rest small no_digit is
not_named text p e f (actor.Fetcher k) rest small no_digit is = f k rest small no_digit is

pub not_chosen : (text : List ℕ) → ((rest : List ℕ) → text ≢ codes "\n" ++ rest) → IsNotLast (codes " look ") text → IsNotLast (codes " claim ") text → IsNotLast (codes " begin ") text
    → IsNoPair (codes " mark ") text → IsNoPair (codes " leave ") text → IsNotChosen text
not_chosen text next look claim begin mark leave choice.Next rest small is = next rest is
not_chosen text next look claim begin mark leave (choice.Look f) rest small is = look f rest small is
not_chosen text next look claim begin mark leave (choice.Claim f) rest small is = claim f rest small is
not_chosen text next look claim begin mark leave (choice.Begin o) rest small is = begin o rest small is
not_chosen text next look claim begin mark leave (choice.Mark o f) rest small is = mark o f rest small.0 small.1 is
not_chosen text next look claim begin mark leave (choice.Leave o f) rest small is = leave o f rest small.0 small.1 is
