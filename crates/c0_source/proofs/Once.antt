-- A text is cut in one way.
use Rattle.std.proofs.Common.{◌≡◌, ℕ, ◌≤◌, List, [], ◌∷◌, ◌++◌, length, take, drop, Option, Some, refl, sym, ap, subst, ◌∙◌, inl, inr, arith}
use Rattle.std.proofs.lemmas.Bool.{cases_lt}
use Rattle.c0_source.specs.declared.kind.Mode.{Mode}
use Rattle.c0_source.specs.declared.kind.Mode.TheVariants as m
use Rattle.c0_source.specs.declared.kind.Piece.{Piece}
use Rattle.c0_source.specs.declared.fault.FaultKind.{FaultKind}
use Rattle.c0_source.specs.declared.fault.FaultKind.TheVariants as f
use Rattle.c0_source.specs.Spelling.{piece_of, Cut, after, Pieces, Lexeme, lexemes, Leads, Ends, ending, Spells, NoCut, Cause, Stops}

some_is : (p q : Piece) (o : Option Piece) → o ≡ Some p → o ≡ Some q → p ≡ q
some_is p q o e f = cc

not_longer : (mode : Mode) (bytes : List ℕ) (n m : ℕ) (p q : Piece) → Cut mode bytes n p → Cut mode bytes m q → m ≤ n
not_longer mode bytes n m p q a b =
    elim (cases_lt n m) [
      | inl lt ↦ absurd (let none = a.longest m lt b.within in let some = b.shape in cc)
      | inr le ↦ le
    ]

pub cut_once : (mode : Mode) (bytes : List ℕ) (n m : ℕ) (p q : Piece) → Cut mode bytes n p → Cut mode bytes m q → (n ≡ m) × (p ≡ q)
cut_once mode bytes n m p q a b =
    let ge = not_longer mode bytes n m p q a b in
    let le = not_longer mode bytes m n q p b a in
    let same : n ≡ m = omega arith in
    (same, some_is p q (piece_of mode (take m bytes)) (subst (λ (k : ℕ). piece_of mode (take k bytes) ≡ Some p) same a.shape) b.shape)

pub no_cut : (mode : Mode) → NoCut mode []
no_cut mode n what c = let s = c.some in let w = c.within in omega arith

pub record Same (ps qs : Pieces) (m n : Mode) (r s : List ℕ) : Type 0 where
  pub pieces : ps ≡ qs
  pub last : m ≡ n
  pub rest : r ≡ s

-- Two ways that both can't go on are one.
pub one_way : (ps qs : Pieces) (mode m n : Mode) (bytes r s : List ℕ) → Leads mode bytes ps m r → NoCut m r → Leads mode bytes qs n s → NoCut n s → Same ps qs m n r s
one_way [] [] mode m n bytes r s h dead k nor = record { pieces = refl; last = sym h.0 ∙ k.0; rest = sym h.1 ∙ k.1 }
one_way [] (y ∷ qs) mode m n bytes r s h dead k nor = absurd (dead y.0 y.1 (subst (λ (b : List ℕ). Cut m b y.0 y.1) h.1 (subst (λ (x : Mode). Cut x bytes y.0 y.1) h.0 k.0)))
one_way (x ∷ ps) [] mode m n bytes r s h dead k nor = absurd (nor x.0 x.1 (subst (λ (b : List ℕ). Cut n b x.0 x.1) k.1 (subst (λ (y : Mode). Cut y bytes x.0 x.1) k.0 h.0)))
one_way ((a, p) ∷ ps) ((b, q) ∷ qs) mode m n bytes r s h dead k nor =
    let c = cut_once mode bytes a b p q h.0 k.0 in
    let moved : Leads (after mode p) (drop a bytes) qs n s = subst (λ (w : Piece). Leads (after mode w) (drop a bytes) qs n s) (sym c.1) (subst (λ (i : ℕ). Leads (after mode q) (drop i bytes) qs n s) (sym c.0) k.1) in
    let ih = one_way ps qs (after mode p) m n (drop a bytes) r s h.1 dead moved nor in
    record { pieces = rw (c.0, c.1, ih.pieces) refl; last = ih.last; rest = ih.rest }

-- no text spells two lists of tokens
pub one_spelling : (bytes : List ℕ) (ts us : List Lexeme) → Spells bytes ts → Spells bytes us → ts ≡ us
one_spelling bytes ts us h k =
    let w = one_way h.pieces k.pieces m.Plain h.last k.last bytes [] [] h.leads (no_cut h.last) k.leads (no_cut k.last) in
    h.tokens ∙ (ap (λ (ps : Pieces). lexemes 0 bytes ps ++ ending h.last (length bytes)) w.pieces ∙ (ap (λ (n : Mode). lexemes 0 bytes k.pieces ++ ending n (length bytes)) w.last ∙ sym k.tokens))

cause_stuck : (fault : FaultKind) (at : ℕ) (mode : Mode) (ps : Pieces) (rest : List ℕ) → Cause fault at mode ps rest → NoCut mode rest
cause_stuck f.BadToken at mode ps rest c = c.2
cause_stuck f.OpenComment at m.Block ps rest c = c.1
cause_stuck f.OpenComment at m.Plain ps rest c = c.1
cause_stuck f.OpenComment at m.Line ps rest c = c.1
cause_stuck _ at mode ps rest c = absurd c

cause_open : (fault : FaultKind) (at : ℕ) (mode : Mode) (ps : Pieces) → Cause fault at mode ps [] → Ends mode → ⊥
cause_open f.BadToken at mode ps c e = let lt = c.1 in omega arith
cause_open f.OpenComment at m.Block ps c e = e
cause_open f.OpenComment at m.Plain ps c e = let b = c.2 in cc
cause_open f.OpenComment at m.Line ps c e = let b = c.2 in cc
cause_open _ at mode ps c e = absurd c

-- a text with a fault spells nothing
pub fault_excludes : (bytes : List ℕ) (fault : FaultKind) (at : ℕ) (ts : List Lexeme) → Stops bytes fault at → Spells bytes ts → ⊥
fault_excludes bytes fault at ts s h =
    let w = one_way s.pieces h.pieces m.Plain s.last h.last bytes s.rest [] s.leads (cause_stuck fault at s.last s.pieces s.rest s.cause) h.leads (no_cut h.last) in
    cause_open fault at s.last s.pieces (subst (Cause fault at s.last s.pieces) w.rest s.cause) (subst Ends (sym w.last) h.ends)

-- the cause of a byte that is no token excludes that of an open comment
apart_causes : (at here : ℕ) (mode : Mode) (ps : Pieces) (rest : List ℕ) → Cause f.BadToken at mode ps rest → Cause f.OpenComment here mode ps rest → ⊥
apart_causes at here m.Block ps rest c d = let a = c.3 in let b = d.2 c.1 in cc
apart_causes at here m.Plain ps rest c d = let a = c.3 in let b = d.2 in cc
apart_causes at here m.Line ps rest c d = let a = c.3 in let b = d.2 in cc

same_opening : (at here : ℕ) (mode : Mode) (ps : Pieces) (rest : List ℕ) → Cause f.OpenComment at mode ps rest → Cause f.OpenComment here mode ps rest → at ≡ here
same_opening at here m.Block ps rest c d = c.0 ∙ sym d.0
same_opening at here m.Plain ps rest c d = c.0 ∙ sym d.0
same_opening at here m.Line ps rest c d = c.0 ∙ sym d.0

same_bad : (g : FaultKind) (at here : ℕ) (mode : Mode) (ps : Pieces) (rest : List ℕ) → Cause f.BadToken at mode ps rest → Cause g here mode ps rest → (f.BadToken ≡ g) × (at ≡ here)
same_bad f.BadToken at here mode ps rest c d = (refl, c.0 ∙ sym d.0)
same_bad f.OpenComment at here mode ps rest c d = absurd (apart_causes at here mode ps rest c d)
same_bad _ at here mode ps rest c d = absurd d

same_open : (g : FaultKind) (at here : ℕ) (mode : Mode) (ps : Pieces) (rest : List ℕ) → Cause f.OpenComment at mode ps rest → Cause g here mode ps rest → (f.OpenComment ≡ g) × (at ≡ here)
same_open f.BadToken at here mode ps rest c d = absurd (apart_causes here at mode ps rest d c)
same_open f.OpenComment at here mode ps rest c d = (refl, same_opening at here mode ps rest c d)
same_open _ at here mode ps rest c d = absurd d

same_cause : (f g : FaultKind) (at here : ℕ) (mode : Mode) (ps : Pieces) (rest : List ℕ) → Cause f at mode ps rest → Cause g here mode ps rest → (f ≡ g) × (at ≡ here)
same_cause f.BadToken g at here mode ps rest c d = same_bad g at here mode ps rest c d
same_cause f.OpenComment g at here mode ps rest c d = same_open g at here mode ps rest c d
same_cause _ g at here mode ps rest c d = absurd c

-- no text has two faults
pub one_fault : (bytes : List ℕ) (f g : FaultKind) (at here : ℕ) → Stops bytes f at → Stops bytes g here → (f ≡ g) × (at ≡ here)
one_fault bytes f g at here s t =
    let w = one_way s.pieces t.pieces m.Plain s.last t.last bytes s.rest t.rest s.leads (cause_stuck f at s.last s.pieces s.rest s.cause) t.leads (cause_stuck g here t.last t.pieces t.rest t.cause) in
    let moved : Cause g here s.last s.pieces s.rest =
    subst (λ (r : List ℕ). Cause g here s.last s.pieces r) (sym w.rest) (subst (λ (n : Mode). Cause g here n s.pieces t.rest) (sym w.last) (subst (λ (ps : Pieces). Cause g here t.last ps t.rest) (sym w.pieces) t.cause)) in
    same_cause f g at here s.last s.pieces s.rest s.cause moved
