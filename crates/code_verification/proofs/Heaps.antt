-- The cells of the heap keep their kinds.
use Rattle.std.proofs.Common.{◌≡◌, ◌≢◌, inl, inr, ℕ, zero, suc, ◌+◌, ◌*◌, ◌%◌, ◌<◌, cond, Some, List, ◌∷◌, length, sym, ap, ◌∙◌, subst, arith}
use Rattle.std.specs.Prelude.{slice_get}
use Rattle.std.proofs.lemmas.Bool.Decides.{eqb_tells}
use Rattle.std.proofs.lemmas.Nat.{mod-mul-add}
use Rattle.std.proofs.lemmas.Option.{slice_get_within}
use Rattle.code_form.specs.declared.form.Kind.{Kind}
use Rattle.code_form.specs.Form.{Head}
use Rattle.code_form.specs.Effects.{Heap, with_cell, upd}
use Rattle.code_form.specs.declared.allocation.Allocation.{Allocation}
use Rattle.code_form.specs.Code.{cells_of, sizes}
use Rattle.code_verification.proofs.States.{IsKind, IsTypedHeap, allocation_at}
use Rattle.code_verification.proofs.SameKinds.{same_or}
use Rattle.code_verification.proofs.Allocations.{cells_at, kind_grown, some_le, zero_is}

scaled : (i n c d : ℕ) → i < n → d < c → i * c + d < n * c
scaled i zero c d lt le = absurd (omega arith)
scaled zero (suc n) c d lt le = let z : suc n * c ≡ c + n * c = omega arith in omega arith
scaled (suc i) (suc n) c d lt le = let z = scaled i n c d (omega arith) le in let y : suc n * c ≡ c + n * c = omega arith in let x : suc i * c ≡ c + i * c = omega arith in omega arith

-- the cell d of element i is there
pub is_within : (H : Head) (al : List Allocation) (h : Heap) (v : ℕ) (a : Allocation) (cs : List Kind) (i d : ℕ) → IsTypedHeap H al h → allocation_at al v ≡ Some a → slice_get H.layouts a.layout ≡ Some cs → i < a.length → d < length cs
    → i * length cs + d < cells_of (sizes al) v
is_within H al h v a cs i d typed e l lt le =
    let s = typed.sized v a e in
    let same : s.0 ≡ cs = let z : Some s.0 ≡ Some cs = sym s.1 ∙ l in cc z in
    let size : a.cells ≡ a.length * length cs = s.2 ∙ ap (λ (q : List Kind). a.length * length q) same in
    let there = cells_at al v a e in
    let z = scaled i a.length (length cs) d lt le in
    omega (arith, z, there, size)

upd-same : {A : Type 0} (f : ℕ → A) (k : ℕ) (v : A) (i : ℕ) → i ≡ k → upd f k v i ≡ v
upd-same f k v i e = elim (eqb_tells i k) [ inl t ↦ ap (λ b. cond b v (f i)) t.0 | inr t ↦ absurd (t.1 e) ]

upd-other : {A : Type 0} (f : ℕ → A) (k : ℕ) (v : A) (i : ℕ) → i ≢ k → upd f k v i ≡ f i
upd-other f k v i n = elim (eqb_tells i k) [ inl t ↦ absurd (n t.1) | inr t ↦ ap (λ b. cond b v (f i)) t.0 ]

-- a store of a value of the cell's kind
pub heap_stored : (H : Head) (al : List Allocation) (h : Heap) (v : ℕ) (a : Allocation) (cs : List Kind) (i d : ℕ) (k : Kind) (x : ℕ) → IsTypedHeap H al h → allocation_at al v ≡ Some a → slice_get H.layouts a.layout ≡ Some cs
    → slice_get cs d ≡ Some k → d < length cs → IsKind H al k x → IsTypedHeap H al (with_cell h v (i * length cs + d) x)
heap_stored H al h v a cs i d k x typed e l is lt ok = record {
  sized = typed.sized;
  cells = λ w j g b bs m eb lb ltj isg. elim (same_or w v) [
    | inl s ↦
        let same : b ≡ a = let z : Some b ≡ Some a = sym eb ∙ ap (allocation_at al) s ∙ e in cc z in
        let sames : bs ≡ cs = let z : Some bs ≡ Some cs = sym lb ∙ ap (λ (q : Allocation). slice_get H.layouts q.layout) same ∙ l in cc z in
        elim (same_or (j * length bs + g) (i * length cs + d)) [
          | inl t ↦
              let ltg : g < length bs = slice_get_within bs g m isg in
              let ltg' : g < length cs = subst (λ (q : List Kind). g < length q) sames ltg in
              let t' : j * length cs + g ≡ i * length cs + d = ap (λ (q : List Kind). j * length q + g) (sym sames) ∙ t in
              let g_is : g ≡ d = sym (mod-mul-add j (length cs) g ltg') ∙ ap (λ q. q % length cs) t' ∙ mod-mul-add i (length cs) d lt in
              let m_is : k ≡ m = let z : Some k ≡ Some m = sym is ∙ ap (slice_get cs) (sym g_is) ∙ ap (λ (q : List Kind). slice_get q g) (sym sames) ∙ isg in cc z in
              let val : with_cell h v (i * length cs + d) x w (j * length bs + g) ≡ x =
              ap (λ (f : ℕ → ℕ). f (j * length bs + g)) (upd-same h v (upd (h v) (i * length cs + d) x) w s) ∙ upd-same (h v) (i * length cs + d) x (j * length bs + g) t in
              subst (IsKind H al m) (sym val) (subst (λ q. IsKind H al q x) m_is ok)
          | inr n ↦
              let val : with_cell h v (i * length cs + d) x w (j * length bs + g) ≡ h w (j * length bs + g) =
              ap (λ (f : ℕ → ℕ). f (j * length bs + g)) (upd-same h v (upd (h v) (i * length cs + d) x) w s) ∙ upd-other (h v) (i * length cs + d) x (j * length bs + g) n ∙ ap (λ q. h q (j * length bs + g)) (sym s) in
              subst (IsKind H al m) (sym val) (typed.cells w j g b bs m eb lb ltj isg)
        ]
    | inr n ↦
        let val : with_cell h v (i * length cs + d) x w (j * length bs + g) ≡ h w (j * length bs + g) = ap (λ (f : ℕ → ℕ). f (j * length bs + g)) (upd-other h v (upd (h v) (i * length cs + d) x) w n) in
        subst (IsKind H al m) (sym val) (typed.cells w j g b bs m eb lb ltj isg)
  ];
  fresh = λ w y ltw.
      let le = some_le al v a e in
      ap (λ (f : ℕ → ℕ). f y) (upd-other h v (upd (h v) (i * length cs + d) x) w (λ s. absurd (omega arith))) ∙ typed.fresh w y ltw;
}

-- a new allocation of a layout
pub heap_allocated : (H : Head) (al : List Allocation) (h : Heap) (b : Allocation) (cs : List Kind) → IsTypedHeap H al h → slice_get H.layouts b.layout ≡ Some cs → b.cells ≡ b.length * length cs → IsTypedHeap H (b ∷ al) h
heap_allocated H al h b cs typed l size = record {
  sized = λ v a e. elim (eqb_tells v (suc (length al))) [
    | inl f ↦ let same : b ≡ a = let z : Some b ≡ Some a = sym (ap (λ c. cond c (Some b) (allocation_at al v)) f.0) ∙ e in cc z in
        subst (λ (q : Allocation). (ks : List Kind) × (slice_get H.layouts q.layout ≡ Some ks) × (q.cells ≡ q.length * length ks)) same (cs, l, size)
    | inr f ↦ typed.sized v a (sym (ap (λ c. cond c (Some b) (allocation_at al v)) f.0) ∙ e)
  ];
  cells = λ v i d a ks k e lk lt is. elim (eqb_tells v (suc (length al))) [
    | inl f ↦ let far = f.1 in subst (IsKind H (b ∷ al) k) (sym (typed.fresh v (i * length ks + d) (omega arith))) (zero_is H (b ∷ al) k)
    | inr f ↦ kind_grown H b al k _ (typed.cells v i d a ks k (sym (ap (λ c. cond c (Some b) (allocation_at al v)) f.0) ∙ e) lk lt is)
  ];
  fresh = λ v x lt. typed.fresh v x (omega arith);
}
