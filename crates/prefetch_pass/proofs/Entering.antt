-- A loop is entered: the registers that are only raised in it are those that its table marks, and, of those that it does not assign, those of the loops
-- round it.
use Rattle.std.proofs.Common.{◌≡◌, ℕ, ◌&&◌, ◌||◌, ◌++◌, ◌⊎◌, [], ◌∷◌, Bool, true, false, cond, List, Option, Some, None, HashSet, BuildHasherDefault, FoldHasher, refl, sym, ap, ◌∙◌, subst, inl, inr}
use Rattle.std.specs.Prelude.{◌==◌, nat_eq, unwrap_or}
use Rattle.std.specs.List.{filter, list_all, list_any}
use Rattle.std.specs.HashMap.{get}
use Rattle.std.specs.HashSet.{contains}
use Rattle.std.proofs.lemmas.Bool.{eqb-true, eq-eqb, ne_eqb, cases_eq, and_parts, or_cases, or_left, or_parts, or_right}
use Rattle.std.proofs.lemmas.List.Folds.{list_any-append}
use Rattle.std.proofs.lemmas.List.Sums.{fold-append}
use Rattle.cells.specs.declared.int32.Int32Op.TheVariants.{Add}
use Rattle.code_form.specs.declared.form.Operation.{Operation}
use Rattle.code_form.specs.declared.form.Operation.TheVariants.{Binary, CheckIndex, Move}
use Rattle.code_form.specs.Code.{is_register}
use Rattle.code_form.specs.Known.{written_by}
use Rattle.middle_form.specs.Scoped.{Code, Do, Load, LoadBy, Call, Then, Choose, Loop, Block}
use Rattle.scoped_building.proofs.Tests.{or_false}
use Rattle.prefetch_pass.specs.Gathered.{AreRaised, HasJust, Marks, each_of, has_checks, is_check}
use Rattle.prefetch_pass.specs.Raised.{changes_of, changes_with, is_among, is_each, is_raise, is_raised, is_raised_by, is_step, is_sum, noted_where, offsets_with, raised_in, summands_with, with_offset, with_summand}

-- ---- registers among others

or_assoc : (a b c : Bool) → a || (b || c) ≡ (a || b) || c
or_assoc true b c = refl
or_assoc false b c = refl

pub among_more : (rs : List ℕ) (a r : ℕ) → is_among (rs ++ a ∷ []) r ≡ is_among rs r || (r == a)
among_more [] a r = or_false (r == a)
among_more (q ∷ rs) a r = ap (λ (b : Bool). (r == q) || b) (among_more rs a r) ∙ or_assoc (r == q) (is_among rs r) (r == a)

and_false : (b : Bool) → b && false ≡ false
and_false true = refl
and_false false = refl

filter_here : (r x : ℕ) (ys : List ℕ) (a c : Bool) → (r == x) ≡ true → is_among ys r ≡ a && c → (b : Bool) → b ≡ c → is_among (cond b (x ∷ ys) ys) r ≡ c
filter_here r x ys a c e h true k = or_left (r == x) (is_among ys r) e ∙ k
filter_here r x ys a c e h false k = h ∙ (ap (λ (z : Bool). a && z) (sym k) ∙ (and_false a ∙ k))

filter_elsewhere : (r x : ℕ) (ys : List ℕ) → (r == x) ≡ false → (b : Bool) → is_among (cond b (x ∷ ys) ys) r ≡ is_among ys r
filter_elsewhere r x ys e true = ap (λ (z : Bool). z || is_among ys r) e
filter_elsewhere r x ys e false = refl

in_filter : (p : ℕ → Bool) (xs : List ℕ) (r : ℕ) → is_among (filter p xs) r ≡ is_among xs r && p r
in_filter p [] r = refl
in_filter p (x ∷ xs) r = elim (cases_eq r x) [
  | inl e ↦ filter_here r x (filter p xs) (is_among xs r) (p r) (eq-eqb r x e) (in_filter p xs r) (p x) (ap p (sym e))
      ∙ sym (ap (λ (z : Bool). (z || is_among xs r) && p r) (eq-eqb r x e))
  | inr n ↦ filter_elsewhere r x (filter p xs) (ne_eqb r x n) (p x) ∙ (in_filter p xs r ∙ sym (ap (λ (z : Bool). (z || is_among xs r) && p r) (ne_eqb r x n)))
]

-- one register more in a set
pub just_more : (s n : HashSet ℕ (BuildHasherDefault FoldHasher)) (rs : List ℕ) (k : ℕ) → HasJust s rs → ((r : ℕ) → contains nat_eq n r ≡ cond (k == r) true (contains nat_eq s r))
    → HasJust n (rs ++ k ∷ [])
just_more s n rs k before behind r = elim (cases_eq r k) [
  | inl e ↦ behind r ∙ (ap (λ (b : Bool). cond b true (contains nat_eq s r)) (eq-eqb k r (sym e)) ∙ sym (among_more rs k r ∙ or_right (is_among rs r) (r == k) (eq-eqb r k e)))
  | inr n ↦ behind r ∙ (ap (λ (b : Bool). cond b true (contains nat_eq s r)) (ne_eqb k r (λ e. n (sym e)))
      ∙ (before r ∙ sym (among_more rs k r ∙ (ap (λ (b : Bool). is_among rs r || b) (ne_eqb r k n) ∙ or_false (is_among rs r)))))
]

-- ---- summands are kept, and each sum has its own

summand_keeps : (o : Operation) (rs : List ℕ) (r : ℕ) → is_among rs r ≡ true → is_among (with_summand o rs) r ≡ true
summand_keeps (Binary Add d a b) rs r h =
    elim (is_among rs a) as (λ x. is_among (cond x rs (rs ++ a ∷ [])) r ≡ true) [ true ↦ h | false ↦ among_more rs a r ∙ or_left (is_among rs r) (r == a) h ]
summand_keeps o rs r h = h

summands_keep : (code : Code) (rs : List ℕ) (r : ℕ) → is_among rs r ≡ true → is_among (summands_with code rs) r ≡ true
summands_keep (Do o) rs r h = summand_keeps o rs r h
summands_keep (Then a b) rs r h = summands_keep b (summands_with a rs) r (summands_keep a rs r h)
summands_keep (Choose c a b) rs r h = summands_keep b (summands_with a rs) r (summands_keep a rs r h)
summands_keep (Loop a c b) rs r h = summands_keep b (summands_with a rs) r (summands_keep a rs r h)
summands_keep (Block a) rs r h = summands_keep a rs r h
summands_keep code rs r h = h

summand_there : (a r : ℕ) (rs : List ℕ) → (a == r) ≡ true → (x : Bool) → is_among rs a ≡ x → is_among (cond x rs (rs ++ a ∷ [])) r ≡ true
summand_there a r rs e true h = subst (λ (q : ℕ). is_among rs q ≡ true) (eqb-true a r e) h
summand_there a r rs e false h = among_more rs a r ∙ or_right (is_among rs r) (r == a) (eq-eqb r a (sym (eqb-true a r e)))

-- register r gets another added
abbrev adds : ℕ → Option Operation → Bool
adds r (Some (Binary Add d a b)) = a == r
adds r _ = false

-- where one of these assignments adds to register r, it is among these registers
abbrev Noted : ℕ → List (Option Operation) → List ℕ → Type 0
Noted r cs rs = list_any (adds r) cs ≡ true → is_among rs r ≡ true

last_or_before : (r : ℕ) (b : Bool) (c : Option Operation) (cs : List (Option Operation))
    → list_any (adds r) (noted_where b c cs) ≡ true → (list_any (adds r) cs ≡ true) ⊎ (adds r c ≡ true)
last_or_before r true c cs e =
    let parts : list_any (adds r) cs || adds r c ≡ true = ap (λ (b : Bool). list_any (adds r) cs || b) (sym (or_false (adds r c))) ∙ (sym (list_any-append (adds r) cs (c ∷ [])) ∙ e) in
    or_cases (list_any (adds r) cs) (adds r c) parts
last_or_before r false c cs e = inl e

none_added : (r : ℕ) (b : Bool) (c : Option Operation) (cs : List (Option Operation)) (rs : List ℕ) → adds r c ≡ false → Noted r cs rs → Noted r (noted_where b c cs) rs
none_added r b c cs rs n h e = elim (last_or_before r b c cs e) [ inl before ↦ h before | inr last ↦ absurd (cc (n, last)) ]

noted : (r q : ℕ) (o : Operation) (cs : List (Option Operation)) (rs : List ℕ) → Noted r cs rs → Noted r (noted_where (is_register q (written_by o)) (Some o) cs) (with_summand o rs)
noted r q (Binary Add d a b) cs rs h e = elim (last_or_before r (q == d) (Some (Binary Add d a b)) cs e) [
  | inl before ↦ summand_keeps (Binary Add d a b) rs r (h before)
  | inr last ↦ summand_there a r rs last (is_among rs a) refl
]
noted r q o cs rs h e = none_added r (is_register q (written_by o)) (Some o) cs rs refl h e

all_noted : (r q : ℕ) (code : Code) (cs : List (Option Operation)) (rs : List ℕ) → Noted r cs rs → Noted r (changes_with q code cs) (summands_with code rs)
all_noted r q (Do o) cs rs h = noted r q o cs rs h
all_noted r q (Load to s p off disp) cs rs h = none_added r (q == to) None cs rs refl h
all_noted r q (LoadBy to s p off disp) cs rs h = none_added r (q == to) None cs rs refl h
all_noted r q (Call to f args) cs rs h = none_added r (is_register q to) None cs rs refl h
all_noted r q (Then a b) cs rs h = all_noted r q b (changes_with q a cs) (summands_with a rs) (all_noted r q a cs rs h)
all_noted r q (Choose c a b) cs rs h = all_noted r q b (changes_with q a cs) (summands_with a rs) (all_noted r q a cs rs h)
all_noted r q (Loop a c b) cs rs h = all_noted r q b (changes_with q a cs) (summands_with a rs) (all_noted r q a cs rs h)
all_noted r q (Block a) cs rs h = all_noted r q a cs rs h
all_noted r q code cs rs h = h

-- ---- what is raised is a summand, or among those round the loop

module _ (test body : Code) (r : ℕ) where
  sum_adds : (c : Option Operation) → is_sum test body r c ≡ true → adds r c ≡ true
  sum_adds (Some (Binary Add d a b)) e = (and_parts (a == r) (is_step test body b) e).0
  sum_adds c e = e

  each_adds : (cs : List (Option Operation)) → is_each (is_sum test body r) cs ≡ true → list_any (adds r) cs ≡ true
  each_adds [] e = e
  each_adds (c ∷ cs) e = or_left (adds r c) (list_any (adds r) cs) (sum_adds c (and_parts (is_sum test body r c) (list_all (is_sum test body r) cs) e).0)

  in_loop : (rs : List ℕ) (q : ℕ) → list_any (adds r) (changes_of q test body) ≡ true → is_among (summands_with body (summands_with test rs)) r ≡ true
  in_loop rs q = all_noted r q body (changes_with q test []) (summands_with test rs) (all_noted r q test [] rs (λ e. absurd (cc e)))

  raise_there : (rs : List ℕ) (c : Option Operation) → (adds r c ≡ true → is_among (summands_with body (summands_with test rs)) r ≡ true)
      → is_raise test body r c ≡ true → is_among (summands_with body (summands_with test rs)) r ≡ true
  raise_there rs (Some (Move d t)) own e = in_loop rs t (each_adds (changes_of t test body) e)
  raise_there rs (Some (Binary Add d a b)) own e = own (and_parts (a == r) (is_step test body b) e).0
  raise_there rs c own e = absurd (cc e)

  raised_there : (rs : List ℕ) (cs : List (Option Operation)) → (list_any (adds r) cs ≡ true → is_among (summands_with body (summands_with test rs)) r ≡ true)
      → is_raised_by test body rs r cs ≡ true → is_among (summands_with body (summands_with test rs)) r ≡ true
  raised_there rs [] own e = summands_keep body (summands_with test rs) r (summands_keep test rs r e)
  raised_there rs (c ∷ cs) own e =
      raise_there rs c (λ a. own (or_left (adds r c) (list_any (adds r) cs) a)) (and_parts (is_raise test body r c) (list_all (is_raise test body r) cs) e).0

  with_marks : (rs : List ℕ) (cs : List (Option Operation)) → unwrap_or (each_of (is_raise test body r) cs) (is_among rs r) ≡ is_raised_by test body rs r cs
  with_marks rs [] = refl
  with_marks rs (c ∷ cs) = refl

implied : (x y : Bool) → (y ≡ true → x ≡ true) → y ≡ x && y
implied true y h = refl
implied false true h = sym (h refl)
implied false false h = refl

-- the table of a loop is put behind those of the loops round it
entered : (ms : List Marks) (m : Marks) (test body : Code) (rs : List ℕ)
    → ((r : ℕ) → get nat_eq m r ≡ each_of (is_raise test body r) (changes_of r test body)) → AreRaised ms rs → AreRaised (ms ++ m ∷ []) (raised_in rs test body)
entered ms m test body rs tells round r =
    let there = summands_with body (summands_with test rs) in
    let cs = changes_of r test body in
    fold-append (λ (b : Bool) (x : Marks). unwrap_or (get nat_eq x r) b) false ms (m ∷ [])
    ∙ (ap (λ (b : Bool). unwrap_or (get nat_eq m r) b) (round r)
    ∙ (ap (λ (o : Option Bool). unwrap_or o (is_among rs r)) (tells r)
    ∙ (with_marks test body r rs cs
    ∙ (implied (is_among there r) (is_raised test body rs r) (raised_there test body r rs cs (in_loop test body r rs r))
    ∙ sym (in_filter (is_raised test body rs) there r)))))

-- the offsets of the test and then of the body, each with that table behind the others, are those of the loop
pub loop_offsets : (ms pushed kept : List Marks) (m : Marks) (test body : Code) (rs ds first second : List ℕ)
    → ((r : ℕ) → get nat_eq m r ≡ each_of (is_raise test body r) (changes_of r test body)) → AreRaised ms rs → pushed ≡ ms ++ m ∷ [] → kept ≡ pushed
    → ((qs : List ℕ) → AreRaised pushed qs → first ≡ offsets_with test qs ds) → ((qs : List ℕ) → AreRaised kept qs → second ≡ offsets_with body qs first)
    → second ≡ offsets_with body (raised_in rs test body) (offsets_with test (raised_in rs test body) ds)
loop_offsets ms pushed kept m test body rs ds first second tells round p k f g =
    let inner = raised_in rs test body in
    let inside : AreRaised pushed inner = subst (λ (l : List Marks). AreRaised l inner) (sym p) (entered ms m test body rs tells round) in
    let still : AreRaised kept inner = subst (λ (l : List Marks). AreRaised l inner) (sym k) inside in
    g inner still ∙ ap (offsets_with body inner) (f inner inside)

-- ---- code without checks has no offsets

no_offset : (o : Operation) (rs ds : List ℕ) → is_check o ≡ false → with_offset rs o ds ≡ ds
no_offset (CheckIndex d r i size) rs ds e = absurd (cc e)
no_offset o rs ds e = refl

pub no_offsets : (code : Code) (rs ds : List ℕ) → has_checks code ≡ false → offsets_with code rs ds ≡ ds
no_offsets (Do o) rs ds e = no_offset o rs ds e
no_offsets (Then a b) rs ds e =
    let parts = or_parts (has_checks a) (has_checks b) e in
    no_offsets b rs (offsets_with a rs ds) parts.1 ∙ no_offsets a rs ds parts.0
no_offsets (Choose c a b) rs ds e =
    let parts = or_parts (has_checks a) (has_checks b) e in
    no_offsets b rs (offsets_with a rs ds) parts.1 ∙ no_offsets a rs ds parts.0
no_offsets (Loop a c b) rs ds e =
    let parts = or_parts (has_checks a) (has_checks b) e in
    let inner = raised_in rs a b in
    no_offsets b inner (offsets_with a inner ds) parts.1 ∙ no_offsets a inner ds parts.0
no_offsets (Block a) rs ds e = no_offsets a rs ds e
no_offsets code rs ds e = refl
