-- A log grows by one fill, or by one copy, more.
use Rattle.std.proofs.Common.{◌≡◌, ℕ, zero, suc, ◌<◌, ◌≤◌, Bool, true, false, List, [], ◌∷◌, ◌++◌, append_assoc, length, set, refl, sym, ap, ap₂, ◌∙◌, arith}
use Rattle.std.proofs.lemmas.List.{get_or-set_same, get_or-set_other}
use Rattle.pointer_word.specs.Hands.{listed, upd}
use Rattle.pointer_word.specs.Calls.{Aborts, Arrives, Copies, Fills, Retreats, Unclaims}
use Rattle.pointer_word.proofs.Upd.{upd-same, upd-other}
use Rattle.object_lock.specs.Seats.{Sizes, cell_word, frame_word}
use Rattle.object_lock.specs.Logs.{AddsOne, Adds, Deed, deed}
use Rattle.object_moves.specs.declared.moved.Moved.{Moved}
use Rattle.object_moves.specs.declared.moved.Moved.TheVariants as M
use Rattle.object_moves.specs.Deeds.{AddsFills, BringsLogged, GoesLogged, MovesLogged, arrives, copies, fills, retreats}

-- what is found behind the first k cells is not among them
fills_else : (z : Sizes) (m f : ℕ) (ws : List ℕ) (found : ℕ → ℕ) (j n k : ℕ) → k ≤ j → fills z m f ws (upd found j n) k ≡ fills z m f ws found k
fills_else z m f ws found j n zero l = refl
fills_else z m f ws found j n (suc k) l =
    ap₂ (λ (ds : List Deed) (x : ℕ). ds ++ deed (cell_word z f k) x (Fills m f k (listed ws k)) ∷ []) (fills_else z m f ws found j n k (omega arith)) (upd-other found j n k (λ e. omega arith))

pub one_fill : (z : Sizes) (m f : ℕ) (ws : List ℕ) (k : ℕ) (old now new : List Deed) → AddsFills z m f ws k old now → AddsOne now new (cell_word z f k) (Fills m f k (listed ws k)) → AddsFills z m f ws (suc k) old new
one_fill z m f ws k old now new a b =
    let found : ℕ → ℕ = upd a.0 k b.0 in
    let last : List Deed = deed (cell_word z f k) b.0 (Fills m f k (listed ws k)) ∷ [] in (
      found,
      b.1 ∙ ap (λ (ds : List Deed). ds ++ last) a.1 ∙ append_assoc old (fills z m f ws a.0 k) last
          ∙ ap₂ (λ (ds : List Deed) (x : ℕ). old ++ (ds ++ deed (cell_word z f k) x (Fills m f k (listed ws k)) ∷ [])) (sym (fills_else z m f ws a.0 k b.0 k (omega arith))) (sym (upd-same a.0 k b.0 k refl)),
    )

-- a word behind the first k is not among those that were copied
copies_else : (z : Sizes) (m f : ℕ) (ws : List ℕ) (j n k : ℕ) → k ≤ j → copies z m f (set ws j n) k ≡ copies z m f ws k
copies_else z m f ws j n zero l = refl
copies_else z m f ws j n (suc k) l =
    ap₂ (λ (ds : List Deed) (x : ℕ). ds ++ deed (cell_word z f k) x (Copies m f k) ∷ []) (copies_else z m f ws j n k (omega arith)) (get_or-set_other ws j k n 0 (λ e. omega arith))

pub one_copy : (z : Sizes) (m f : ℕ) (ws : List ℕ) (k n : ℕ) (old now new : List Deed) → k < length ws → now ≡ old ++ copies z m f ws k → Adds now new (cell_word z f k) (Copies m f k) (λ x. x ≡ n)
    → new ≡ old ++ copies z m f (set ws k n) (suc k)
one_copy z m f ws k n old now new l a b =
    b.1 ∙ ap (λ (ds : List Deed). ds ++ deed (cell_word z f k) b.0 (Copies m f k) ∷ []) a ∙ append_assoc old (copies z m f ws k) _
    ∙ ap₂ (λ (ds : List Deed) (x : ℕ). old ++ (ds ++ deed (cell_word z f k) x (Copies m f k) ∷ [])) (sym (copies_else z m f ws k n k (omega arith))) (b.2 ∙ sym (get_or-set_same ws k n 0 l))

-- copies are told by the words below their number alone
copies_same : (z : Sizes) (m f : ℕ) (ws us : List ℕ) (k : ℕ) → ((i : ℕ) → i < k → listed us i ≡ listed ws i) → copies z m f us k ≡ copies z m f ws k
copies_same z m f ws us zero h = refl
copies_same z m f ws us (suc k) h =
    ap₂ (λ (ds : List Deed) (x : ℕ). ds ++ deed (cell_word z f k) x (Copies m f k) ∷ []) (copies_same z m f ws us k (λ i l. h i (omega arith))) (h k (omega arith))

-- the copies, and then what became of the object
then_came : (z : Sizes) (m f : ℕ) (words ws : List ℕ) (old mid new ds : List Deed) → mid ≡ old ++ copies z m f words z.cells → ((i : ℕ) → i < z.cells → listed words i ≡ listed ws i) → new ≡ mid ++ ds
    → new ≡ old ++ (copies z m f ws z.cells ++ ds)
then_came z m f words ws old mid new ds a same b =
    b ∙ ap (λ (xs : List Deed). xs ++ ds) a ∙ append_assoc old (copies z m f words z.cells) ds ∙ ap (λ (xs : List Deed). old ++ (xs ++ ds)) (copies_same z m f ws words z.cells same)

pub moved_so : (z : Sizes) (m o f : ℕ) (words ws : List ℕ) (r : Moved) (old mid new : List Deed) → mid ≡ old ++ copies z m f words z.cells → ((i : ℕ) → i < z.cells → listed words i ≡ listed ws i)
    → GoesLogged z m o f ws r mid new → MovesLogged z m o f ws r old new
moved_so z m o f words ws M.Left old mid new a same h = (h.0, then_came z m f words ws old mid new _ a same h.1)
moved_so z m o f words ws M.Stayed old mid new a same h = (h.0, h.1, h.2, then_came z m f words ws old mid new _ a same h.3)
moved_so z m o f words ws M.Failed old mid new a same h = absurd h

pub failed_so : (z : Sizes) (m o f : ℕ) (words : List ℕ) (old mid new : List Deed) → mid ≡ old ++ copies z m f words z.cells → AddsOne mid new o (Aborts m o f) → MovesLogged z m o f words M.Failed old new
failed_so z m o f words old mid new a h = (h.0, then_came z m f words words old mid new _ a (λ i l. refl) h.1)

-- the fills, and then the arrival
pub brought_so : (honest : Type 0) (z : Sizes) (m o f : ℕ) (own : Bool) (promised ws : List ℕ) (old mid new : List Deed) → length ws ≡ z.cells → (honest → (i : ℕ) → i < z.cells → listed ws i ≡ listed promised i)
    → AddsFills z m f ws z.cells old mid → AddsOne mid new o (Arrives m o f own) → BringsLogged honest z m o f own promised true old new
brought_so honest z m o f own promised ws old mid new wide same a b =
    (ws, (λ _. same), (wide, a.0, b.0, b.1 ∙ ap (λ (xs : List Deed). xs ++ arrives m o f own b.0 ∷ []) a.1 ∙ append_assoc old (fills z m f ws a.0 z.cells) _))

pub given_so : (honest : Type 0) (z : Sizes) (m o f : ℕ) (own : Bool) (promised : List ℕ) (old mid new : List Deed) → AddsOne old mid (frame_word z f) (Unclaims m f) → AddsOne mid new o (Retreats m o) → BringsLogged honest z m o f own promised false old new
given_so honest z m o f own promised old mid new a b = ([], (λ e. absurd (cc)), (a.0, b.0, b.1 ∙ ap (λ (xs : List Deed). xs ++ retreats m o b.0 ∷ []) a.1 ∙ append_assoc old _ _))
