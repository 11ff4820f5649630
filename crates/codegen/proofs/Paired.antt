-- What is asked at the entry of each block, and the blocks, side by side.
use Rattle.std.proofs.Common.{◌≡◌, ℕ, zero, suc, List, [], ◌∷◌, ◌++◌, refl, sym, ap, ◌∙◌, append_assoc}
use Rattle.std.specs.Prelude.{All, map, slice_set}
use Rattle.std.proofs.lemmas.List.{map-append}
use Rattle.std.proofs.lemmas.List.Elements.{All-cons, All-nil}
use Rattle.std.specs.declared.vec.Vec.{Vec}
use Rattle.std.specs.declared.alloc.Global.{Global}
use Rattle.code_form.specs.declared.form.Fact.{Fact}
use Rattle.code_form.specs.Form.{Instruction}
use Rattle.code_form.specs.Form as image
use Rattle.middle_form.specs.Scoped.{Code, Then, plain}
use Rattle.codegen.specs.Building.{lists}
use Rattle.codegen.specs.Generated.{block_with, blocks_with}
use Rattle.codegen.proofs.Entries.{Entry, facts_at}
use Rattle.middle_form.specs.Guarded.{asked_inside, asks}

pub lists_push : (ws : List (Vec Fact Global)) (w : Vec Fact Global) → lists (ws ++ w ∷ []) ≡ lists ws ++ w.items ∷ []
lists_push ws w = map-append (λ (x : Vec Fact Global). x.items) ws (w ∷ [])

pub lists_set : (ws : List (Vec Fact Global)) (i : ℕ) (w : Vec Fact Global) → lists (slice_set ws i w) ≡ slice_set (lists ws) i w.items
lists_set [] i w = refl
lists_set (x ∷ ws) zero w = refl
lists_set (x ∷ ws) (suc i) w = ap (λ (l : List (List Fact)). x.items ∷ l) (lists_set ws i w)

pub asks_then : (k a d : Code) (w rest is : List Fact) → k ≡ Then a d → rest ≡ asks (plain d) w → is ≡ asks (plain a) rest → is ≡ asks (plain k) w
asks_then k a d w rest is ek er ei = ei ∙ ap (asks (plain a)) er ∙ ap (λ c. asks (plain c) w) (sym ek)

pub inside_then : (k a d : Code) (old m new : List (List Fact)) (w rest : List Fact) → k ≡ Then a d → rest ≡ asks (plain d) w → m ≡ old ++ asked_inside (plain d) w → new ≡ m ++ asked_inside (plain a) rest → new ≡ old ++ asked_inside (plain k) w
inside_then k a d old m new w rest ek er em en =
    en ∙ ap (λ r. m ++ asked_inside (plain a) r) er ∙ ap (λ l. l ++ asked_inside (plain a) (asks (plain d) w)) em
    ∙ append_assoc old (asked_inside (plain d) w) (asked_inside (plain a) (asks (plain d) w)) ∙ ap (λ c. old ++ asked_inside (plain c) w) (sym ek)

-- each of some lists with the one beside it, of as many others
abbrev pub AllPaired : {A B : Type 0} → (A → B → Type 0) → List A → List B → Type 0
AllPaired R [] [] = Unit {0}
AllPaired R (x ∷ xs) (b ∷ bs) = R x b × AllPaired R xs bs
AllPaired R _ _ = ⊥

pub paired_append : {A B : Type 0} (R : A → B → Type 0) (xs cs : List A) (bs ds : List B) → AllPaired R xs bs → AllPaired R cs ds → AllPaired R (xs ++ cs) (bs ++ ds)
paired_append R [] cs [] ds h k = k
paired_append R [] cs (b ∷ bs) ds h k = absurd h
paired_append R (x ∷ xs) cs [] ds h k = absurd h
paired_append R (x ∷ xs) cs (b ∷ bs) ds h k = (h.0, paired_append R xs cs bs ds h.1 k)

-- what holds of blocks with what is told at their entries
pub paired_all : (R : Entry → List Instruction → Type 0) (Q : image.Block → Type 0) (n : ℕ) → ((e : Entry) (is : List Instruction) → R e is → Q (block_with (facts_at n e) is))
    → (es : List Entry) (bs : List (List Instruction)) → AllPaired R es bs → All Q (blocks_with (map (facts_at n) es) bs)
paired_all R Q n f [] [] h = All-nil Q
paired_all R Q n f [] (is ∷ bs) h = absurd h
paired_all R Q n f (e ∷ es) [] h = absurd h
paired_all R Q n f (e ∷ es) (is ∷ bs) h = All-cons Q (block_with (facts_at n e) is) (blocks_with (map (facts_at n) es) bs) (f e is h.0) (paired_all R Q n f es bs h.1)
