-- What the assignments of a loop tell, with one assignment more at a time.
use Rattle.std.proofs.Common.{◌≡◌, ℕ, ◌&&◌, ◌++◌, [], ◌∷◌, Bool, true, false, cond, List, Option, Some, None, refl, sym, ap, ◌∙◌, map, inl, inr}
use Rattle.std.specs.Prelude.{◌==◌, nat_eq, unwrap_or}
use Rattle.std.specs.List.{list_all}
use Rattle.std.specs.Option.{option_eq}
use Rattle.std.proofs.lemmas.Bool.{eq-eqb, ne_eqb, cases_eq}
use Rattle.std.proofs.lemmas.List.{map-append}
use Rattle.std.proofs.lemmas.List.Folds.{list_all-append}
use Rattle.code_form.specs.declared.form.Operation.{Operation}
use Rattle.code_form.specs.Code.{is_register}
use Rattle.prefetch_pass.specs.declared.changes.Assignment.{Assignment}
use Rattle.prefetch_pass.specs.Gathered.{adds_to, changes_among, common, each_of, is_one, joined}
use Rattle.prefetch_pass.specs.Raised.{is_each}

and_true : (b : Bool) → b && true ≡ b
and_true true = refl
and_true false = refl

-- ---- assignments

one_behind : (p q : Bool) (c d : Option Operation) (ys : List (Option Operation))
    → cond p (c ∷ cond q (ys ++ d ∷ []) ys) (cond q (ys ++ d ∷ []) ys) ≡ cond q (cond p (c ∷ ys) ys ++ d ∷ []) (cond p (c ∷ ys) ys)
one_behind true true c d ys = refl
one_behind true false c d ys = refl
one_behind false true c d ys = refl
one_behind false false c d ys = refl

pub among_more : (r : ℕ) (xs : List Assignment) (a : Assignment) → changes_among r (xs ++ a ∷ []) ≡ cond (r == a.to) (changes_among r xs ++ a.change ∷ []) (changes_among r xs)
among_more r [] a = refl
among_more r (b ∷ xs) a = ap (λ (l : List (Option Operation)). cond (r == b.to) (b.change ∷ l) l) (among_more r xs a) ∙ one_behind (r == b.to) (r == a.to) b.change a.change (changes_among r xs)

among_here : (r : ℕ) (xs : List Assignment) (a : Assignment) → r ≡ a.to → changes_among r (xs ++ a ∷ []) ≡ changes_among r xs ++ a.change ∷ []
among_here r xs a e = among_more r xs a ∙ ap (λ (b : Bool). cond b (changes_among r xs ++ a.change ∷ []) (changes_among r xs)) (eq-eqb r a.to e)

among_elsewhere : (r : ℕ) (xs : List Assignment) (a : Assignment) → (r ≡ a.to → ⊥) → changes_among r (xs ++ a ∷ []) ≡ changes_among r xs
among_elsewhere r xs a e = among_more r xs a ∙ ap (λ (b : Bool). cond b (changes_among r xs ++ a.change ∷ []) (changes_among r xs)) (ne_eqb r a.to e)

-- ---- tables, by what they tell of the assignments so far: at the register that is assigned, and at the others

-- a table told this of the changes of each register before, and after one assignment more has this at its register and what it had at the others
pub table_more : {X : Type 0} (tells : ℕ → List (Option Operation) → Option X) (f g : ℕ → Option X) (now : Option X) (xs : List Assignment) (a : Assignment)
    → ((r : ℕ) → f r ≡ tells r (changes_among r xs)) → ((r : ℕ) → g r ≡ cond (a.to == r) now (f r))
    → now ≡ tells a.to (changes_among a.to xs ++ a.change ∷ []) → (r : ℕ) → g r ≡ tells r (changes_among r (xs ++ a ∷ []))
table_more tells f g now xs a before behind new r = elim (cases_eq r a.to) [
  | inl e ↦ behind r ∙ (ap (λ (b : Bool). cond b now (f r)) (eq-eqb a.to r (sym e)) ∙ (new
      ∙ (ap (λ (q : ℕ). tells q (changes_among q xs ++ a.change ∷ [])) (sym e) ∙ ap (tells r) (sym (among_here r xs a e)))))
  | inr n ↦ behind r ∙ (ap (λ (b : Bool). cond b now (f r)) (ne_eqb a.to r (λ e. n (sym e))) ∙ (before r ∙ ap (tells r) (sym (among_elsewhere r xs a n))))
]

-- ---- marks

pub each_more : (p : Option Operation → Bool) (cs : List (Option Operation)) (c : Option Operation) → Some (unwrap_or (each_of p cs) true && p c) ≡ each_of p (cs ++ c ∷ [])
each_more p [] c = ap Some (sym (and_true (p c)))
each_more p (d ∷ cs) c = ap Some (sym (list_all-append p (d ∷ cs) (c ∷ []) ∙ ap (λ (b : Bool). list_all p (d ∷ cs) && b) (and_true (p c))))

pub mark_is : (p : Option Operation → Bool) (cs : List (Option Operation)) → unwrap_or (each_of p cs) false ≡ is_each p cs
mark_is p [] = refl
mark_is p (c ∷ cs) = refl

-- ---- what is common

no_one : (b : Bool) → ◌≡◌ {A = Option ℕ} (cond b None None) None
no_one true = refl
no_one false = refl

join_last : (b : Bool) (s t : Option ℕ) → cond (option_eq nat_eq (cond b s None) t) (cond b s None) None ≡ cond (b && option_eq nat_eq s t) s None
join_last true s t = refl
join_last false s t = no_one (option_eq nat_eq None t)

pub common_more : (ss : List (Option ℕ)) (t : Option ℕ) → Some (joined (common ss) t) ≡ common (ss ++ t ∷ [])
common_more [] t = refl
common_more (s ∷ ss) t =
    let same : Option ℕ → Bool = option_eq nat_eq s in
    ap Some (join_last (list_all same ss) s t
    ∙ ap (λ (b : Bool). cond b s None) (sym (list_all-append same ss (t ∷ []) ∙ ap (λ (b : Bool). list_all same ss && b) (and_true (same t)))))

-- register r is common to these exactly where it is each of them
each_is : (r a : ℕ) → r ≡ a → (ss : List (Option ℕ)) → list_all (option_eq nat_eq (Some a)) ss ≡ list_all (is_register r) ss
each_is r a e [] = refl
each_is r a e (None ∷ ss) = refl
each_is r a e (Some b ∷ ss) = λ i. (sym e i == b) && each_is r a e ss i

one_or_none : (r : ℕ) (b : Bool) (s : Option ℕ) → is_register r (cond b s None) ≡ b && is_register r s
one_or_none r true s = refl
one_or_none r false s = refl

and_false : (b : Bool) → b && false ≡ false
and_false true = refl
and_false false = refl

pub one_is : (r : ℕ) (s : Option ℕ) (ss : List (Option ℕ)) → is_one r (common (s ∷ ss)) ≡ list_all (is_register r) (s ∷ ss)
one_is r None ss = ap (is_register r) (no_one (list_all (option_eq nat_eq None) ss))
one_is r (Some a) ss =
    let alike : Bool = list_all (option_eq nat_eq (Some a)) ss in
    let each : Bool = list_all (is_register r) ss in
    one_or_none r alike (Some a) ∙ elim (cases_eq r a) [
      | inl e ↦ ap (λ (z : Bool). alike && z) (eq-eqb r a e) ∙ (and_true alike ∙ (each_is r a e ss ∙ sym (ap (λ (z : Bool). z && each) (eq-eqb r a e))))
      | inr n ↦ ap (λ (z : Bool). alike && z) (ne_eqb r a n) ∙ (and_false alike ∙ sym (ap (λ (z : Bool). z && each) (ne_eqb r a n)))
    ]

-- ---- the tables of a loop, with one assignment more

pub marks_more : (p : ℕ → Option Operation → Bool) (f g : ℕ → Option Bool) (holds : Bool) (xs : List Assignment) (a : Assignment) → ((r : ℕ) → f r ≡ each_of (p r) (changes_among r xs))
    → ((r : ℕ) → g r ≡ cond (a.to == r) (Some (unwrap_or (f a.to) true && holds)) (f r)) → holds ≡ p a.to a.change → (r : ℕ) → g r ≡ each_of (p r) (changes_among r (xs ++ a ∷ []))
marks_more p f g holds xs a before updates e =
    table_more (λ (q : ℕ) (cs : List (Option Operation)). each_of (p q) cs) f g (Some (unwrap_or (f a.to) true && holds)) xs a before updates
    (ap (λ (b : Bool). Some (unwrap_or (f a.to) true && b)) e
    ∙ (ap (λ (o : Option Bool). Some (unwrap_or o true && p a.to a.change)) (before a.to) ∙ each_more (p a.to) (changes_among a.to xs) a.change))

pub sums_more : (step : ℕ → Bool) (f g : ℕ → Option (Option ℕ)) (s : Option ℕ) (xs : List Assignment) (a : Assignment)
    → ((r : ℕ) → f r ≡ common (map (adds_to step) (changes_among r xs))) → ((r : ℕ) → g r ≡ cond (a.to == r) (Some (joined (f a.to) s)) (f r)) → s ≡ adds_to step a.change
    → (r : ℕ) → g r ≡ common (map (adds_to step) (changes_among r (xs ++ a ∷ [])))
sums_more step f g s xs a before updates e =
    let cs = changes_among a.to xs in
    table_more (λ (q : ℕ) (cs : List (Option Operation)). common (map (adds_to step) cs)) f g (Some (joined (f a.to) s)) xs a before updates
    (ap (λ (x : Option ℕ). Some (joined (f a.to) x)) e
    ∙ (ap (λ (o : Option (Option ℕ)). Some (joined o (adds_to step a.change))) (before a.to)
    ∙ (common_more (map (adds_to step) cs) (adds_to step a.change) ∙ ap common (sym (map-append (adds_to step) cs (a.change ∷ []))))))
