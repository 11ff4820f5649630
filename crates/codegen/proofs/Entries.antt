-- What is told at the entry of each block: what is known of the scopes, and the checks that are asked, side by side.
use Rattle.std.proofs.Common.{◌≡◌, ℕ, suc, Bool, true, false, cond, Option, Some, None, List, [], ◌∷◌, ◌++◌, length, refl, sym, ap, ◌∙◌, arith, length-append}
use Rattle.std.specs.Prelude.{◌||◌, ◌==◌, map}
use Rattle.std.proofs.lemmas.List.{map-append}
use Rattle.code_form.specs.declared.form.Fact.{Fact}
use Rattle.code_form.specs.declared.form.Kind.{Kind}
use Rattle.code_form.specs.Code.{is_register, place_fits}
use Rattle.code_form.specs.Effects.{upd}
use Rattle.code_form.specs.Known.{Knows, Unknown, KnownAimed, KnownShut, forget, written_by}
use Rattle.middle_form.specs.Scoped.{Code, Nothing, Do, LoadBy, StoreBy, Loose, Fail, Then, Choose, Loop, Block, Exit, plain}
use Rattle.middle_form.specs.Scoped as scoped
use Rattle.middle_form.specs.Discipline.{IsDisciplined, Table, after, is_lost, join, stays, touches, writes}
use Rattle.middle_form.specs.Discipline as table
use Rattle.middle_form.specs.Guarded.{asked_inside, asks}
use Rattle.codegen.specs.Generated.{count, entry_facts, known_inside, listed}

-- what is told at the entry of a block
abbrev pub Entry : Type 0
Entry = Table × List Fact

-- as facts, of so many scopes
abbrev pub facts_at : ℕ → Entry → List Fact
facts_at n e = listed n e.0 ++ e.1

-- what is told at the entry of each of the blocks that code needs beside its first instructions, in their order
abbrev pub entries_inside : Code → Table → List Fact → List Entry
entries_inside Nothing k w = []
entries_inside (Do o) k w = []
entries_inside (scoped.Load to s r off disp) k w = []
entries_inside (scoped.Store s r off disp from) k w = []
entries_inside (LoadBy to s r off disp) k w = []
entries_inside (StoreBy s r off disp from) k w = []
entries_inside (scoped.Aim s r off disp) k w = []
entries_inside (scoped.Leave s) k w = []
entries_inside (Loose s) k w = []
entries_inside (scoped.Call to f args) k w = []
entries_inside (Fail a) k w = []
entries_inside (Then a c) k w = entries_inside c (after a k) w ++ entries_inside a k (asks (plain c) w)
entries_inside (Choose r a c) k w =
    (join (Choose r a c) k, w) ∷ (entries_inside a k w ++ ((k, asks (plain a) w) ∷ (entries_inside c k w ++ (k, asks (plain c) w) ∷ [])))
entries_inside (Loop test r body) k w =
    (join (Loop test r body) k, [])
    ∷ (join (Loop test r body) k, w)
    ∷ (entries_inside body (after test (join (Loop test r body) k)) []
    ++ ((after test (join (Loop test r body) k), asks (plain body) []) ∷ entries_inside test (join (Loop test r body) k) []))
entries_inside (Block a) k w = (join (Block a) k, w) ∷ entries_inside a k []
entries_inside (Exit j) k w = []

-- ---- as many of each as blocks

pub length-entries : (a : Code) (k : Table) (w : List Fact) → length (entries_inside a k w) ≡ count a
length-entries Nothing k w = refl
length-entries (Do o) k w = refl
length-entries (scoped.Load to s r off disp) k w = refl
length-entries (scoped.Store s r off disp from) k w = refl
length-entries (LoadBy to s r off disp) k w = refl
length-entries (StoreBy s r off disp from) k w = refl
length-entries (scoped.Aim s r off disp) k w = refl
length-entries (scoped.Leave s) k w = refl
length-entries (Loose s) k w = refl
length-entries (scoped.Call to g args) k w = refl
length-entries (Fail a) k w = refl
length-entries (Then a c) k w =
    let x = length-entries c (after a k) w in
    let y = length-entries a k (asks (plain c) w) in
    let z = length-append (entries_inside c (after a k) w) (entries_inside a k (asks (plain c) w)) in
    omega arith
length-entries (Choose r a c) k w =
    let x = length-entries a k w in
    let y = length-entries c k w in
    let side : List Entry = (k, asks (plain c) w) ∷ [] in
    let z = length-append (entries_inside a k w) ((k, asks (plain a) w) ∷ (entries_inside c k w ++ side)) in
    let v = length-append (entries_inside c k w) side in
    omega arith
length-entries (Loop test r body) k w =
    let h = join (Loop test r body) k in
    let t = after test h in
    let x = length-entries body t [] in
    let y = length-entries test h [] in
    let z = length-append (entries_inside body t []) ((t, asks (plain body) []) ∷ entries_inside test h []) in
    omega arith
length-entries (Block a) k w = ap suc (length-entries a k [])
length-entries (Exit j) k w = refl

pub length-known : (a : Code) (k : Table) → length (known_inside a k) ≡ count a
length-known Nothing k = refl
length-known (Do o) k = refl
length-known (scoped.Load to s r off disp) k = refl
length-known (scoped.Store s r off disp from) k = refl
length-known (LoadBy to s r off disp) k = refl
length-known (StoreBy s r off disp from) k = refl
length-known (scoped.Aim s r off disp) k = refl
length-known (scoped.Leave s) k = refl
length-known (Loose s) k = refl
length-known (scoped.Call to g args) k = refl
length-known (Fail a) k = refl
length-known (Then a c) k =
    let x = length-known c (after a k) in
    let y = length-known a k in
    let z = length-append (known_inside c (after a k)) (known_inside a k) in
    omega arith
length-known (Choose r a c) k =
    let x = length-known a k in
    let y = length-known c k in
    let side : List Table = k ∷ [] in
    let z = length-append (known_inside a k) (k ∷ (known_inside c k ++ side)) in
    let v = length-append (known_inside c k) side in
    omega arith
length-known (Loop test r body) k =
    let h = join (Loop test r body) k in
    let t = after test h in
    let x = length-known body t in
    let y = length-known test h in
    let z = length-append (known_inside body t) (t ∷ known_inside test h) in
    omega arith
length-known (Block a) k = ap suc (length-known a k)
length-known (Exit j) k = refl

pub length-asked : (a : Code) (w : List Fact) → length (asked_inside (plain a) w) ≡ count a
length-asked Nothing w = refl
length-asked (Do o) w = refl
length-asked (scoped.Load to s r off disp) w = refl
length-asked (scoped.Store s r off disp from) w = refl
length-asked (LoadBy to s r off disp) w = refl
length-asked (StoreBy s r off disp from) w = refl
length-asked (scoped.Aim s r off disp) w = refl
length-asked (scoped.Leave s) w = refl
length-asked (Loose s) w = refl
length-asked (scoped.Call to g args) w = refl
length-asked (Fail a) w = refl
length-asked (Then a c) w =
    let x = length-asked c w in
    let y = length-asked a (asks (plain c) w) in
    let z = length-append (asked_inside (plain c) w) (asked_inside (plain a) (asks (plain c) w)) in
    omega arith
length-asked (Choose r a c) w =
    let x = length-asked a w in
    let y = length-asked c w in
    let side : List (List Fact) = asks (plain c) w ∷ [] in
    let z = length-append (asked_inside (plain a) w) (asks (plain a) w ∷ (asked_inside (plain c) w ++ side)) in
    let v = length-append (asked_inside (plain c) w) side in
    omega arith
length-asked (Loop test r body) w =
    let x = length-asked body [] in
    let y = length-asked test [] in
    let z = length-append (asked_inside (plain body) []) (asks (plain body) [] ∷ asked_inside (plain test) []) in
    omega arith
length-asked (Block a) w = ap suc (length-asked a [])
length-asked (Exit j) w = refl

-- ---- the entry facts are those of the entries

facts_append : (n : ℕ) (ks js : List Table) (ws vs : List (List Fact)) → length ks ≡ length ws → entry_facts n (ks ++ js) (ws ++ vs) ≡ entry_facts n ks ws ++ entry_facts n js vs
facts_append n [] js [] vs l = refl
facts_append n [] js (w ∷ ws) vs l = absurd (let z : ⊥ = omega arith in z)
facts_append n (k ∷ ks) js [] vs l = absurd (let z : ⊥ = omega arith in z)
facts_append n (k ∷ ks) js (w ∷ ws) vs l = ap (λ (x : List (List Fact)). (listed n k ++ w) ∷ x) (facts_append n ks js ws vs (omega arith))

-- two rows, one behind the other
together : (n : ℕ) (ks js : List Table) (ws vs : List (List Fact)) (es ds : List Entry) → length ks ≡ length ws → entry_facts n ks ws ≡ map (facts_at n) es → entry_facts n js vs ≡ map (facts_at n) ds
    → entry_facts n (ks ++ js) (ws ++ vs) ≡ map (facts_at n) (es ++ ds)
together n ks js ws vs es ds l h k =
    facts_append n ks js ws vs l ∙ ap (λ (x : List (List Fact)). x ++ entry_facts n js vs) h ∙ ap (λ (x : List (List Fact)). map (facts_at n) es ++ x) k ∙ sym (map-append (facts_at n) es ds)

-- one more in front
one_more : (n : ℕ) (k : Table) (w : List Fact) (ks : List Table) (ws : List (List Fact)) (es : List Entry) → entry_facts n ks ws ≡ map (facts_at n) es → entry_facts n (k ∷ ks) (w ∷ ws) ≡ map (facts_at n) ((k, w) ∷ es)
one_more n k w ks ws es h = ap (λ (x : List (List Fact)). (listed n k ++ w) ∷ x) h

pub facts_together : (n : ℕ) (a : Code) (k : Table) (w : List Fact) → entry_facts n (known_inside a k) (asked_inside (plain a) w) ≡ map (facts_at n) (entries_inside a k w)
facts_together n Nothing k w = refl
facts_together n (Do o) k w = refl
facts_together n (scoped.Load to s r off disp) k w = refl
facts_together n (scoped.Store s r off disp from) k w = refl
facts_together n (LoadBy to s r off disp) k w = refl
facts_together n (StoreBy s r off disp from) k w = refl
facts_together n (scoped.Aim s r off disp) k w = refl
facts_together n (scoped.Leave s) k w = refl
facts_together n (Loose s) k w = refl
facts_together n (scoped.Call to g args) k w = refl
facts_together n (Fail a) k w = refl
facts_together n (Then a c) k w =
    together n (known_inside c (after a k)) (known_inside a k) (asked_inside (plain c) w) (asked_inside (plain a) (asks (plain c) w)) (entries_inside c (after a k) w) (entries_inside a k (asks (plain c) w))
    (length-known c (after a k) ∙ sym (length-asked c w)) (facts_together n c (after a k) w) (facts_together n a k (asks (plain c) w))
facts_together n (Choose r a c) k w =
    let h = join (Choose r a c) k in
    let va = asks (plain a) w in
    let vc = asks (plain c) w in
    let ks : List Table = k ∷ [] in
    let ws : List (List Fact) = vc ∷ [] in
    let es : List Entry = (k, vc) ∷ [] in
    let inner = together n (known_inside c k) ks (asked_inside (plain c) w) ws (entries_inside c k w) es (length-known c k ∙ sym (length-asked c w)) (facts_together n c k w) refl in
    let middle = one_more n k va (known_inside c k ++ ks) (asked_inside (plain c) w ++ ws) (entries_inside c k w ++ es) inner in
    one_more n h w (known_inside a k ++ (k ∷ (known_inside c k ++ ks))) (asked_inside (plain a) w ++ (va ∷ (asked_inside (plain c) w ++ ws))) (entries_inside a k w ++ ((k, va) ∷ (entries_inside c k w ++ es)))
    (together n (known_inside a k) (k ∷ (known_inside c k ++ ks)) (asked_inside (plain a) w) (va ∷ (asked_inside (plain c) w ++ ws)) (entries_inside a k w) ((k, va) ∷ (entries_inside c k w ++ es))
    (length-known a k ∙ sym (length-asked a w)) (facts_together n a k w) middle)
facts_together n (Loop test r body) k w =
    let h = join (Loop test r body) k in
    let t = after test h in
    let v = asks (plain body) [] in
    let inner = one_more n t v (known_inside test h) (asked_inside (plain test) []) (entries_inside test h []) (facts_together n test h []) in
    let all = together n (known_inside body t) (t ∷ known_inside test h) (asked_inside (plain body) []) (v ∷ asked_inside (plain test) []) (entries_inside body t []) ((t, v) ∷ entries_inside test h [])
    (length-known body t ∙ sym (length-asked body [])) (facts_together n body t []) inner in
    one_more n h [] (h ∷ (known_inside body t ++ (t ∷ known_inside test h))) (w ∷ (asked_inside (plain body) [] ++ (v ∷ asked_inside (plain test) []))) ((h, w) ∷ (entries_inside body t [] ++ ((t, v) ∷ entries_inside test h [])))
    (one_more n h w (known_inside body t ++ (t ∷ known_inside test h)) (asked_inside (plain body) [] ++ (v ∷ asked_inside (plain test) [])) (entries_inside body t [] ++ ((t, v) ∷ entries_inside test h [])) all)
facts_together n (Block a) k w = one_more n (join (Block a) k) w (known_inside a k) (asked_inside (plain a) []) (entries_inside a k []) (facts_together n a k [])
facts_together n (Exit j) k w = refl

-- ---- aims of places that are there

-- what is known of a scope names registers of the right kinds
abbrev pub FitsKnows : List Kind → Knows → Type 0
FitsKnows ks Unknown = Unit {0}
FitsKnows ks KnownShut = Unit {0}
FitsKnows ks (KnownAimed r off disp) = place_fits ks r off ≡ true

-- so does what is known of each
abbrev pub FitsTable : List Kind → Table → Type 0
FitsTable ks t = (s : ℕ) → FitsKnows ks (t s)

fits_forget : (ks : List Kind) (d : ℕ) (z : Knows) → FitsKnows ks z → FitsKnows ks (forget d z)
fits_forget ks d Unknown h = tt
fits_forget ks d KnownShut h = tt
fits_forget ks d (KnownAimed r off disp) h = by ((d == r) || is_register d off)
  where
    by : (b : Bool) → FitsKnows ks (cond b Unknown (KnownAimed r off disp))
    by true = tt
    by false = h

fits_wrote : (ks : List Kind) (d : Option ℕ) (t : Table) → FitsTable ks t → FitsTable ks (table.wrote d t)
fits_wrote ks None t h = h
fits_wrote ks (Some d) t h = λ s. fits_forget ks d (t s) (h s)

fits_stays : (ks : List Kind) (touched : Bool) (written : ℕ → Bool) (z : Knows) → FitsKnows ks z → FitsKnows ks (stays touched written z)
fits_stays ks touched written Unknown h = tt
fits_stays ks touched written KnownShut h = tt
fits_stays ks touched written (KnownAimed r off disp) h = by (touched || is_lost written r off)
  where
    by : (b : Bool) → FitsKnows ks (cond b Unknown (KnownAimed r off disp))
    by true = tt
    by false = h

fits_scope : (ks : List Kind) (t : Table) (s : ℕ) (z : Knows) → FitsKnows ks z → FitsTable ks t → FitsTable ks (upd t s z)
fits_scope ks t s z e h u = by (u == s)
  where
    by : (b : Bool) → FitsKnows ks (cond b z (t u))
    by true = e
    by false = h u

pub fits_join : (ks : List Kind) (a : Code) (t : Table) → FitsTable ks t → FitsTable ks (join a t)
fits_join ks a t h s = fits_stays ks (touches a s) (writes a) (t s) (h s)

pub fits_after : (ks : List Kind) (n : ℕ) (exits : List Table) (a : Code) (t : Table) → IsDisciplined ks n exits a t → FitsTable ks t → FitsTable ks (after a t)
fits_after ks n exits Nothing t q h = h
fits_after ks n exits (Do o) t q h = fits_wrote ks (written_by o) t h
fits_after ks n exits (scoped.Load to s r off disp) t q h = fits_scope ks (table.wrote (Some to) t) s Unknown tt (fits_wrote ks (Some to) t h)
fits_after ks n exits (scoped.Store s r off disp from) t q h = fits_scope ks t s Unknown tt h
fits_after ks n exits (LoadBy to s r off disp) t q h = fits_wrote ks (Some to) t h
fits_after ks n exits (StoreBy s r off disp from) t q h = h
fits_after ks n exits (scoped.Aim s r off disp) t q h = fits_scope ks t s (KnownAimed r off disp) q.1 h
fits_after ks n exits (scoped.Leave s) t q h = fits_scope ks t s KnownShut tt h
fits_after ks n exits (Loose s) t q h = fits_scope ks t s Unknown tt h
fits_after ks n exits (scoped.Call to g args) t q h = fits_wrote ks to t h
fits_after ks n exits (Fail a) t q h = h
fits_after ks n exits (Then a c) t q h = fits_after ks n exits c (after a t) q.1 (fits_after ks n exits a t q.0 h)
fits_after ks n exits (Choose r a c) t q h = fits_join ks (Choose r a c) t h
fits_after ks n exits (Loop test r body) t q h = fits_join ks (Loop test r body) t h
fits_after ks n exits (Block a) t q h = fits_join ks (Block a) t h
fits_after ks n exits (Exit j) t q h = h
