-- counting frames
use Rattle.std.proofs.Common.{◌≡◌, ◌≢◌, ◌⊎◌, inl, inr, ℕ, zero, suc, ◌+◌, ◌<◌, ◌≤◌, Bool, true, false, ◌&&◌, not, refl, sym, ap, ◌∙◌, subst, arith}
use Rattle.std.specs.Prelude.{◌==◌}
use Rattle.std.proofs.lemmas.Bool.Decides.{eqb_tells}
use Rattle.pointer_word.specs.Hands.{upd}
use Rattle.pointer_word.proofs.Upd.{same_or, upd-same, upd-other}

abbrev tally : Bool → ℕ
tally true = 1
tally false = 0

-- how many below n pass
abbrev how_many : (ℕ → Bool) → ℕ → ℕ
how_many h zero = 0
how_many h (suc n) = how_many h n + tally (h n)

-- each held frame has a ticket below limit, no two the same
pub record Ticketed (frames limit : ℕ) (held : ℕ → Bool) (ticket : ℕ → ℕ) : Type 0 where
  pub below : (f : ℕ) → f < frames → held f ≡ true → ticket f < limit
  pub apart : (f g : ℕ) → f < frames → g < frames → held f ≡ true → held g ≡ true → ticket f ≡ ticket g → f ≡ g

truth : (b : Bool) → (b ≡ true) ⊎ (b ≡ false)
truth true = inl refl
truth false = inr refl

-- the first of something, or none
search_below : (p : ℕ → Bool) (n : ℕ) → ((f : ℕ) × (f < n) × (p f ≡ true)) ⊎ ((f : ℕ) → f < n → p f ≡ false)
search_below p zero = inr (λ f l. absurd (omega arith))
search_below p (suc n) =
    elim (search_below p n) [
      | inl h ↦ inl (h.0, omega arith, h.2)
      | inr none ↦ elim (truth (p n)) [
        | inl e ↦ inl (n, omega arith, e)
        | inr e ↦ inr (λ f l. elim (same_or f n) [ inl q ↦ ap p q ∙ e | inr d ↦ none f (omega arith) ])
      ]
    ]

past : (h : ℕ → Bool) (k : ℕ) (b : Bool) (n : ℕ) → n ≤ k → how_many (upd h k b) n ≡ how_many h n
past h k b zero l = refl
past h k b (suc n) l =
    let e = past h k b n (omega arith) in
    let q : upd h k b n ≡ h n = upd-other h k b n (λ z. absurd (omega arith)) in
    ap (λ x. x + tally (upd h k b n)) e ∙ ap (λ x. how_many h n + tally x) q

at_most_one : (b : Bool) → tally b ≤ 1
at_most_one true = omega arith
at_most_one false = omega arith

one_less : (h : ℕ → Bool) (k : ℕ) (n : ℕ) → how_many h n ≤ how_many (upd h k false) n + 1
one_less h k zero = omega arith
one_less h k (suc n) =
    elim (same_or n k) [
      | inl q ↦ let e = past h k false n (omega arith) in let b = at_most_one (h n) in omega arith
      | inr d ↦ let e = one_less h k n in let q : tally (upd h k false n) ≡ tally (h n) = ap tally (upd-other h k false n d) in omega arith
    ]

none_at_all : (h : ℕ → Bool) (n : ℕ) → ((f : ℕ) → f < n → h f ≡ false) → how_many h n ≡ 0
none_at_all h zero e = refl
none_at_all h (suc n) e =
    let a = none_at_all h n (λ f l. e f (omega arith)) in
    let b : tally (h n) ≡ 0 = ap tally (e n (omega arith)) in omega arith

all_of_them : (h : ℕ → Bool) (n : ℕ) → ((f : ℕ) → f < n → h f ≡ true) → how_many h n ≡ n
all_of_them h zero e = refl
all_of_them h (suc n) e =
    let a = all_of_them h n (λ f l. e f (omega arith)) in
    let b : tally (h n) ≡ 1 = ap tally (e n (omega arith)) in omega arith

and_true : (a b : Bool) → (a && b) ≡ true → (a ≡ true) × (b ≡ true)
and_true true b e = (refl, e)
and_true false b e = cc

and_false : (a b : Bool) → (a && b) ≡ false → a ≡ true → b ≡ false
and_false true b e q = e
and_false false b e q = cc

-- no more are held than there are tickets
pub as_many : (n t : ℕ) (h : ℕ → Bool) (ticket : ℕ → ℕ) → Ticketed n t h ticket → how_many h n ≤ t
as_many n zero h ticket ok =
    let e = none_at_all h n (λ f l. elim (truth (h f)) [ inl q ↦ let z = ok.below f l q in absurd (omega arith) | inr q ↦ q ]) in omega arith
as_many n (suc t) h ticket ok =
    elim (search_below (λ f. h f && (ticket f == t)) n) [
      | inl k ↦
          let held = and_true (h k.0) (ticket k.0 == t) k.2 in
          let here : ticket k.0 ≡ t = elim (eqb_tells (ticket k.0) t) [ inl z ↦ z.1 | inr z ↦ cc ] in
          let less : how_many (upd h k.0 false) n ≤ t =
          as_many n t (upd h k.0 false) ticket (record {
            below = λ f l q. elim (same_or f k.0) [
              | inl z ↦ let w : false ≡ true = sym (upd-same h k.0 false f z) ∙ q in cc
              | inr d ↦
                  let hf : h f ≡ true = sym (upd-other h k.0 false f d) ∙ q in
                  let a = ok.below f l hf in
                  let b : ticket f ≢ t = λ z. d (ok.apart f k.0 l k.1 hf held.0 (z ∙ sym here)) in omega arith
            ];
            apart = λ f g lf lg qf qg e. elim (same_or f k.0) [
              | inl z ↦ let w : false ≡ true = sym (upd-same h k.0 false f z) ∙ qf in cc
              | inr df ↦ elim (same_or g k.0) [
                | inl z ↦ let w : false ≡ true = sym (upd-same h k.0 false g z) ∙ qg in cc
                | inr dg ↦ ok.apart f g lf lg (sym (upd-other h k.0 false f df) ∙ qf) (sym (upd-other h k.0 false g dg) ∙ qg) e
              ]
            ];
          }) in
          let one = one_less h k.0 n in omega arith
      | inr none ↦
          let less : how_many h n ≤ t =
          as_many n t h ticket (record {
            below = λ f l q.
                let a = ok.below f l q in
                let b : (ticket f == t) ≡ false = and_false (h f) (ticket f == t) (none f l) q in
                elim (eqb_tells (ticket f) t) [ inl z ↦ cc | inr z ↦ let d = z.1 in omega arith ];
            apart = ok.apart;
          }) in omega arith
    ]

-- with one ticket unused, and no fewer frames than tickets, a frame is unheld
pub enough : (frames limit : ℕ) (held : ℕ → Bool) (ticket : ℕ → ℕ) (unused : ℕ) → limit ≤ frames → Ticketed frames limit held ticket → unused < limit
    → ((f : ℕ) → f < frames → held f ≡ true → ticket f ≢ unused) → (f : ℕ) × (f < frames) × (held f ≡ false)
enough n t h ticket k fits ok l spare =
    elim (search_below (λ f. not (h f)) n) [
      | inl f ↦ (f.0, f.1, elim (truth (h f.0)) [ inl q ↦ let w : false ≡ true = sym (ap not q) ∙ f.2 in cc | inr q ↦ q ])
      | inr all ↦
          let every : how_many h n ≡ n = all_of_them h n (λ f b. elim (truth (h f)) [ inl q ↦ q | inr q ↦ let w : true ≡ false = sym (ap not q) ∙ all f b in cc ]) in
          let more : how_many (upd h n true) (suc n) ≤ t =
          as_many (suc n) t (upd h n true) (upd ticket n k) (record {
            below = λ f b q. elim (same_or f n) [
              | inl z ↦ subst (λ x. x < t) (sym (upd-same ticket n k f z)) l
              | inr d ↦ subst (λ x. x < t) (sym (upd-other ticket n k f d)) (ok.below f (omega arith) (sym (upd-other h n true f d) ∙ q))
            ];
            apart = λ f g bf bg qf qg e. elim (same_or f n) [
              | inl zf ↦ elim (same_or g n) [
                | inl zg ↦ zf ∙ sym zg
                | inr dg ↦ absurd (spare g (omega arith) (sym (upd-other h n true g dg) ∙ qg) (sym (upd-other ticket n k g dg) ∙ (sym e ∙ upd-same ticket n k f zf)))
              ]
              | inr df ↦ elim (same_or g n) [
                | inl zg ↦ absurd (spare f (omega arith) (sym (upd-other h n true f df) ∙ qf) (sym (upd-other ticket n k f df) ∙ (e ∙ upd-same ticket n k g zg)))
                | inr dg ↦ ok.apart f g (omega arith) (omega arith) (sym (upd-other h n true f df) ∙ qf) (sym (upd-other h n true g dg) ∙ qg)
                    (sym (upd-other ticket n k f df) ∙ (e ∙ upd-other ticket n k g dg))
              ]
            ];
          }) in
          let a = past h n true n (omega arith) in
          let b : tally (upd h n true n) ≡ 1 = ap tally (upd-same h n true n refl) in
          absurd (omega arith)
    ]
