-- Tests of lists, of which one element settles the answer.
use Rattle.std.proofs.Common.{◌≡◌, ◌⊎◌, inl, inr, List, [], ◌∷◌, ◌++◌, refl, sym, ◌∙◌, Bool, true, false}
use Rattle.std.specs.Prelude.{◌&&◌, ◌||◌, filter_map}
use Rattle.std.specs.List.{list_all, list_any}
use Rattle.c0_rules.specs.Types.{Name}
use Rattle.c0_rules.specs.Mentions.{Mention, OfVariable, OfFunction, OfText, variable_of, function_of, text_of}
use Rattle.c0_rules_faults.proofs.Refused.{and_false, false_and}

pub true_or : (a b : Bool) → a ≡ true → (a || b) ≡ true
true_or true b h = refl
true_or false b h = absurd (cc h)

pub or_true : (a b : Bool) → b ≡ true → (a || b) ≡ true
or_true true b h = refl
or_true false b h = h

pub one_is : (a b : Bool) → (a || b) ≡ true → (a ≡ true) ⊎ (b ≡ true)
one_is true b h = inl refl
one_is false b h = inr h

pub any_front : {A : Type 0} (test : A → Bool) (xs ys : List A) → list_any test xs ≡ true → list_any test (xs ++ ys) ≡ true
any_front test [] ys h = absurd (cc h)
any_front test (x ∷ xs) ys h = elim (one_is (test x) (list_any test xs) h) [ inl q ↦ true_or (test x) _ q | inr q ↦ or_true (test x) _ (any_front test xs ys q) ]

pub any_back : {A : Type 0} (test : A → Bool) (xs ys : List A) → list_any test ys ≡ true → list_any test (xs ++ ys) ≡ true
any_back test [] ys h = h
any_back test (x ∷ xs) ys h = or_true (test x) _ (any_back test xs ys h)

all_rest : (b rest more : Bool) → (rest ≡ false → more ≡ false) → (b && rest) ≡ false → (b && more) ≡ false
all_rest true rest more go q = go q
all_rest false rest more go q = refl

pub all_front : {A : Type 0} (test : A → Bool) (xs ys : List A) → list_all test xs ≡ false → list_all test (xs ++ ys) ≡ false
all_front test [] ys h = absurd (cc h)
all_front test (x ∷ xs) ys h = all_rest (test x) (list_all test xs) (list_all test (xs ++ ys)) (all_front test xs ys) h

pub all_back : {A : Type 0} (test : A → Bool) (xs ys : List A) → list_all test ys ≡ false → list_all test (xs ++ ys) ≡ false
all_back test [] ys h = h
all_back test (x ∷ xs) ys h = and_false (test x) _ (all_back test xs ys h)

-- ---- mentions of one sort

-- where the test takes only variables that pass another, one of the variables does
pub variables_among : (test : Mention → Bool) (is : Name → Bool) → ((x : Name) → test (OfVariable x) ≡ true → is x ≡ true) → ((x : Name) → test (OfFunction x) ≡ false)
    → ((x : Name) → test (OfText x) ≡ false) → (ms : List Mention) → list_any test ms ≡ true → list_any is (filter_map variable_of ms) ≡ true
variables_among test is v f t [] h = absurd (cc h)
variables_among test is v f t (OfVariable x ∷ ms) h =
    elim (one_is (test (OfVariable x)) (list_any test ms) h) [ inl q ↦ true_or (is x) _ (v x q) | inr q ↦ or_true (is x) _ (variables_among test is v f t ms q) ]
variables_among test is v f t (OfFunction x ∷ ms) h =
    elim (one_is (test (OfFunction x)) (list_any test ms) h) [ inl q ↦ (let z : true ≡ false = sym q ∙ f x in absurd (cc z)) | inr q ↦ variables_among test is v f t ms q ]
variables_among test is v f t (OfText x ∷ ms) h =
    elim (one_is (test (OfText x)) (list_any test ms) h) [ inl q ↦ (let z : true ≡ false = sym q ∙ t x in absurd (cc z)) | inr q ↦ variables_among test is v f t ms q ]

-- where the test takes only functions that fail another, not all of the functions pass that
pub functions_fail : (test : Mention → Bool) (is : Name → Bool) → ((x : Name) → test (OfVariable x) ≡ false) → ((x : Name) → test (OfFunction x) ≡ true → is x ≡ false)
    → ((x : Name) → test (OfText x) ≡ false) → (ms : List Mention) → list_any test ms ≡ true → list_all is (filter_map function_of ms) ≡ false
functions_fail test is v f t [] h = absurd (cc h)
functions_fail test is v f t (OfVariable x ∷ ms) h =
    elim (one_is (test (OfVariable x)) (list_any test ms) h) [ inl q ↦ (let z : true ≡ false = sym q ∙ v x in absurd (cc z)) | inr q ↦ functions_fail test is v f t ms q ]
functions_fail test is v f t (OfFunction x ∷ ms) h =
    elim (one_is (test (OfFunction x)) (list_any test ms) h) [ inl q ↦ false_and (is x) _ (f x q) | inr q ↦ and_false (is x) _ (functions_fail test is v f t ms q) ]
functions_fail test is v f t (OfText x ∷ ms) h =
    elim (one_is (test (OfText x)) (list_any test ms) h) [ inl q ↦ (let z : true ≡ false = sym q ∙ t x in absurd (cc z)) | inr q ↦ functions_fail test is v f t ms q ]

-- the same of texts
pub texts_fail : (test : Mention → Bool) (is : Name → Bool) → ((x : Name) → test (OfVariable x) ≡ false) → ((x : Name) → test (OfFunction x) ≡ false)
    → ((x : Name) → test (OfText x) ≡ true → is x ≡ false) → (ms : List Mention) → list_any test ms ≡ true → list_all is (filter_map text_of ms) ≡ false
texts_fail test is v f t [] h = absurd (cc h)
texts_fail test is v f t (OfVariable x ∷ ms) h =
    elim (one_is (test (OfVariable x)) (list_any test ms) h) [ inl q ↦ (let z : true ≡ false = sym q ∙ v x in absurd (cc z)) | inr q ↦ texts_fail test is v f t ms q ]
texts_fail test is v f t (OfFunction x ∷ ms) h =
    elim (one_is (test (OfFunction x)) (list_any test ms) h) [ inl q ↦ (let z : true ≡ false = sym q ∙ f x in absurd (cc z)) | inr q ↦ texts_fail test is v f t ms q ]
texts_fail test is v f t (OfText x ∷ ms) h =
    elim (one_is (test (OfText x)) (list_any test ms) h) [ inl q ↦ false_and (is x) _ (t x q) | inr q ↦ and_false (is x) _ (texts_fail test is v f t ms q) ]
