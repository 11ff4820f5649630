-- the tables show a state after a change of one row
use Rattle.std.proofs.Common.{◌≡◌, ◌≢◌, inl, inr, ℕ, suc, ◌+◌, ◌-◌, ◌*◌, ◌/◌, ◌%◌, ◌<◌, Bool, true, false, cond, ◌&&◌, List, length, get_or, Option, None, refl, sym, ap, ◌∙◌, subst, arith}
use Rattle.std.specs.Prelude.{nat_lt}
use Rattle.std.proofs.Math.ListN.{set}
use Rattle.std.proofs.lemmas.List.{get_or-set_same, get_or-set_other, get_or_past, length-set}
use Rattle.std.proofs.lemmas.Bool.Decides.{eqb_tells, nat_tests}
use Rattle.std.proofs.lemmas.Nat.{div-mul-add, mod-mul-add, mul-add-lt}
use Rattle.pointer_word.specs.Words.{Word}
use Rattle.pointer_word.specs.Hands.{Note, upd}
use Rattle.pointer_word.proofs.Upd.{upd-same, upd-other, same_or}
use Rattle.world_memory.specs.declared.memory.Object.{Object}
use Rattle.world_memory.specs.Tables.{Tables, cell_at, frame_at, frame_word, object_at, resting, with_cell, with_frame, with_object}
use Rattle.world_semantics.specs.Worlds.{Sizes}
use Rattle.world_memory.specs.Shown.{IsObject, AreTables}

-- reading behind a write
set_same : {A : Type 0} (xs : List A) (k : ℕ) (x d : A) (i : ℕ) → i ≡ k → k < length xs → get_or (set xs k x) i d ≡ x
set_same xs k x d i e l = ap (λ j. get_or (set xs k x) j d) e ∙ get_or-set_same xs k x d l

-- ---- objects

set_objects : (z : Sizes) (t : Tables) (word : ℕ → Word) (note : ℕ → Note) (frame : ℕ → ℕ) (cell : ℕ → ℕ → ℕ) (o : ℕ) (x : Object) (w : Word) (n : Note)
    → AreTables z t word note frame cell → o < z.objects → IsObject x w n → (i : ℕ) → IsObject (object_at (with_object t o x) i) (upd word o w i) (upd note o n i)
set_objects z t word note frame cell o x w n shown below is i =
    let many = shown.objects_many in
    let inside : o < length t.objects = omega arith in
    elim (same_or i o) [
      | inl e ↦ subst (λ (y : Object). IsObject y (upd word o w i) (upd note o n i)) (sym (set_same t.objects o x resting i e inside))
          (subst (λ (v : Word). IsObject x v (upd note o n i)) (sym (upd-same word o w i e)) (subst (λ (m : Note). IsObject x w m) (sym (upd-same note o n i e)) is))
      | inr d ↦ subst (λ (y : Object). IsObject y (upd word o w i) (upd note o n i)) (sym (get_or-set_other t.objects o i x resting d))
          (subst (λ (v : Word). IsObject (object_at t i) v (upd note o n i)) (sym (upd-other word o w i d)) (subst (λ (m : Note). IsObject (object_at t i) (word i) m) (sym (upd-other note o n i d)) (shown.objects i)))
    ]

-- one object's word and note
pub object_set : (z : Sizes) (t : Tables) (word : ℕ → Word) (note : ℕ → Note) (frame : ℕ → ℕ) (cell : ℕ → ℕ → ℕ) (o : ℕ) (x : Object) (w : Word) (n : Note)
    → AreTables z t word note frame cell → o < z.objects → IsObject x w n → AreTables z (with_object t o x) (upd word o w) (upd note o n) frame cell
object_set z t word note frame cell o x w n shown inside is = record {
  objects = set_objects z t word note frame cell o x w n shown inside is;
  frames = shown.frames;
  cells = shown.cells;
  size = shown.size;
  wide = shown.wide;
  objects_many = length-set t.objects o x ∙ shown.objects_many;
  frames_many = shown.frames_many;
}

-- its word alone
pub word_set : (z : Sizes) (t : Tables) (word : ℕ → Word) (note : ℕ → Note) (frame : ℕ → ℕ) (cell : ℕ → ℕ → ℕ) (o : ℕ) (x : Object) (w : Word)
    → AreTables z t word note frame cell → o < z.objects → IsObject x w (note o) → AreTables z (with_object t o x) (upd word o w) note frame cell
word_set z t word note frame cell o x w shown inside is = record {
  objects = λ i. subst (λ (m : Note). IsObject (object_at (with_object t o x) i) (upd word o w i) m) (same_note i) (set_objects z t word note frame cell o x w (note o) shown inside is i);
  frames = shown.frames;
  cells = shown.cells;
  size = shown.size;
  wide = shown.wide;
  objects_many = length-set t.objects o x ∙ shown.objects_many;
  frames_many = shown.frames_many;
}
  where
    same_note : (i : ℕ) → upd note o (note o) i ≡ note i
    same_note i = elim (same_or i o) [ inl e ↦ upd-same note o (note o) i e ∙ ap note (sym e) | inr d ↦ upd-other note o (note o) i d ]

-- its note alone
pub note_set : (z : Sizes) (t : Tables) (word : ℕ → Word) (note : ℕ → Note) (frame : ℕ → ℕ) (cell : ℕ → ℕ → ℕ) (o : ℕ) (x : Object) (n : Note)
    → AreTables z t word note frame cell → o < z.objects → IsObject x (word o) n → AreTables z (with_object t o x) word (upd note o n) frame cell
note_set z t word note frame cell o x n shown inside is = record {
  objects = λ i. subst (λ (m : Word). IsObject (object_at (with_object t o x) i) m (upd note o n i)) (same_word i) (set_objects z t word note frame cell o x (word o) n shown inside is i);
  frames = shown.frames;
  cells = shown.cells;
  size = shown.size;
  wide = shown.wide;
  objects_many = length-set t.objects o x ∙ shown.objects_many;
  frames_many = shown.frames_many;
}
  where
    same_word : (i : ℕ) → upd word o (word o) i ≡ word i
    same_word i = elim (same_or i o) [ inl e ↦ upd-same word o (word o) i e ∙ ap word (sym e) | inr d ↦ upd-other word o (word o) i d ]

-- a note that differs in its history alone
pub history_set : (z : Sizes) (t : Tables) (word : ℕ → Word) (note : ℕ → Note) (frame : ℕ → ℕ) (cell : ℕ → ℕ → ℕ) (o : ℕ) (n : Note)
    → AreTables z t word note frame cell → n.count ≡ (note o).count → n.frame ≡ (note o).frame → n.writing ≡ (note o).writing → AreTables z t word (upd note o n) frame cell
history_set z t word note frame cell o n shown a b c = record {
  objects = λ i. elim (same_or i o) [
    | inl e ↦ subst (λ (m : Note). IsObject (object_at t i) (word i) m) (sym (upd-same note o n i e)) (here i e)
    | inr d ↦ subst (λ (m : Note). IsObject (object_at t i) (word i) m) (sym (upd-other note o n i d)) (shown.objects i)
  ];
  frames = shown.frames;
  cells = shown.cells;
  size = shown.size;
  wide = shown.wide;
  objects_many = shown.objects_many;
  frames_many = shown.frames_many;
}
  where
    here : (i : ℕ) → i ≡ o → IsObject (object_at t i) (word i) n
    here i e =
        let is = shown.objects i in
        let same : note i ≡ note o = ap note e in
        record {
          word = is.word;
          count = a ∙ (ap (λ (m : Note). m.count) (sym same) ∙ is.count);
          told = b ∙ (ap (λ (m : Note). m.frame) (sym same) ∙ is.told);
          writing = c ∙ (ap (λ (m : Note). m.writing) (sym same) ∙ is.writing);
        }

-- ---- frames

-- one frame's word
pub frame_set : (z : Sizes) (t : Tables) (word : ℕ → Word) (note : ℕ → Note) (frame : ℕ → ℕ) (cell : ℕ → ℕ → ℕ) (f : ℕ) (held : Option ℕ)
    → AreTables z t word note frame cell → f < z.frames → AreTables z (with_frame t f held) word note (upd frame f (frame_word held)) cell
frame_set z t word note frame cell f held shown below =
    let many = shown.frames_many in
    let inside : f < length t.frames = omega arith in
    let as_many : length (set t.frames f held) ≡ length t.frames = length-set t.frames f held in
    record {
      objects = shown.objects;
      frames = λ i. elim (same_or i f) [
        | inl e ↦ upd-same frame f (frame_word held) i e ∙ sym (ap frame_word (set_same t.frames f held None i e inside))
        | inr d ↦ upd-other frame f (frame_word held) i d ∙ (shown.frames i ∙ sym (ap frame_word (get_or-set_other t.frames f i held None d)))
      ];
      cells = λ i j. shown.cells i j ∙ sym (ap (λ (n : ℕ). cond (nat_lt i n && nat_lt j t.size) (get_or t.cells (i * t.size + j) 0) 0) as_many);
      size = shown.size;
      wide = shown.wide;
      objects_many = shown.objects_many;
      frames_many = as_many ∙ shown.frames_many;
    }

-- in rows of n places different cells stand at different places
apart : (n f k i j : ℕ) → k < n → j < n → (i ≡ f → j ≡ k → ⊥) → i * n + j ≢ f * n + k
apart n f k i j a b d e =
    d (sym (div-mul-add i n j b) ∙ (ap (λ (x : ℕ). x / n) e ∙ div-mul-add f n k a)) (sym (mod-mul-add i n j b) ∙ (ap (λ (x : ℕ). x % n) e ∙ mod-mul-add f n k a))

-- each cell of a frame has its place in rows of n
pub place_inside : (n f k frames many : ℕ) → many ≡ frames * n → f < frames → k < n → f * n + k < many
place_inside n f k frames many e a b = omega (arith, mul-add-lt f n k frames a b)

second : (a b : Bool) → (a && b) ≡ true → b ≡ true
second true b e = e
second false b e = cc

lt_of : (a : Bool) (j n : ℕ) → (a && nat_lt j n) ≡ true → j < n
lt_of a j n e = let q = second a (nat_lt j n) e in grind (arith, nat_tests)

both_lt : (i m j n : ℕ) → i < m → j < n → (nat_lt i m && nat_lt j n) ≡ true
both_lt i m j n a b = grind (arith, nat_tests)

-- a cell that isn't written stays
stays : (t : Tables) (f k v i j : ℕ) → k < t.size → (i ≡ f → j ≡ k → ⊥) → (b : Bool) → (nat_lt i (length t.frames) && nat_lt j t.size) ≡ b
    → cond b (get_or (set t.cells (f * t.size + k) v) (i * t.size + j) 0) 0 ≡ cond b (get_or t.cells (i * t.size + j) 0) 0
stays t f k v i j l d true e = get_or-set_other t.cells (f * t.size + k) (i * t.size + j) v 0 (apart t.size f k i j l (lt_of (nat_lt i (length t.frames)) j t.size e) d)
stays t f k v i j l d false e = refl

-- one cell
pub cell_set : (z : Sizes) (t : Tables) (word : ℕ → Word) (note : ℕ → Note) (frame : ℕ → ℕ) (cell : ℕ → ℕ → ℕ) (f k v : ℕ)
    → AreTables z t word note frame cell → f < z.frames → k < z.cells → AreTables z (with_cell t f k v) word note frame (upd cell f (upd (cell f) k v))
cell_set z t word note frame cell f k v shown there below =
    let many = shown.frames_many in
    let size = shown.size in
    let inside : f < length t.frames = omega arith in
    let low : k < t.size = omega arith in
    let at : f * t.size + k < length t.cells = place_inside t.size f k z.frames (length t.cells) (shown.wide ∙ ap (λ (n : ℕ). z.frames * n) (sym size)) there low in
    let other : (i j : ℕ) → (i ≡ f → j ≡ k → ⊥) → cell i j ≡ cell_at (with_cell t f k v) i j =
    λ i j d. shown.cells i j ∙ sym (stays t f k v i j low d (nat_lt i (length t.frames) && nat_lt j t.size) refl) in
    record {
      objects = shown.objects;
      frames = shown.frames;
      cells = λ i j. elim (same_or i f) [
        | inl e ↦ ap (λ (g : ℕ → ℕ). g j) (upd-same cell f (upd (cell f) k v) i e) ∙ elim (same_or j k) [
          | inl q ↦ upd-same (cell f) k v j q ∙ sym (ap (λ b. cond b (get_or (set t.cells (f * t.size + k) v) (i * t.size + j) 0) 0) (both_lt i (length t.frames) j t.size (omega arith) (omega arith))
              ∙ set_same t.cells (f * t.size + k) v 0 (i * t.size + j) (ap (λ (x : ℕ). x * t.size + j) e ∙ ap (λ (x : ℕ). f * t.size + x) q) at)
          | inr d ↦ upd-other (cell f) k v j d ∙ (ap (λ (x : ℕ). cell x j) (sym e) ∙ other i j (λ _ q. d q))
        ]
        | inr d ↦ ap (λ (g : ℕ → ℕ). g j) (upd-other cell f (upd (cell f) k v) i d) ∙ other i j (λ q _. d q)
      ];
      size = size;
      wide = length-set t.cells (f * t.size + k) v ∙ shown.wide;
      objects_many = shown.objects_many;
      frames_many = many;
    }

-- ---- what lies in the tables

-- an object that isn't at rest is in the table
pub in_objects : (t : Tables) (o : ℕ) → object_at t o ≢ resting → o < length t.objects
in_objects t o d = elim (eqb_tells 0 (suc o - length t.objects)) [
  | inl e ↦ let z = e.1 in omega arith
  | inr e ↦ let z = e.1 in absurd (d (get_or_past t.objects o resting (omega arith)))
]

-- a frame whose word isn't 0 is in the table
pub in_frames : (t : Tables) (f : ℕ) → 0 < frame_word (frame_at t f) → f < length t.frames
in_frames t f l = elim (eqb_tells 0 (suc f - length t.frames)) [
  | inl e ↦ let z = e.1 in omega arith
  | inr e ↦ let z = e.1 in let r : frame_word (frame_at t f) ≡ 0 = ap frame_word (get_or_past t.frames f None (omega arith)) in absurd (omega arith)
]
