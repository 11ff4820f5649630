-- turns that are taken
use Rattle.std.proofs.Common.{◌≡◌, ◌≢◌, ℕ, ◌<◌, true, false, cond, length, Some, None, refl, sym, ap, ◌∙◌, subst, arith}
use Rattle.pointer_word.specs.Words.{Place, Away, Coming, Here, Leaving, Word, framed}
use Rattle.pointer_word.specs.Machine.{State, Object, Claimer, Freer}
use Rattle.pointer_word.specs.Calls.{Call, act}
use Rattle.pointer_word.specs.Legal.{legal}
use Rattle.pointer_word.specs.Sound.{Inv, FrameOk, PlaceOk}
use Rattle.world_semantics.specs.declared.event.Step.{Step}
use Rattle.world_semantics.specs.declared.event.Step.TheVariants as step
use Rattle.world_actors.specs.Acting.{Goes, Leads}
use Rattle.world_memory.specs.Shown.{Shown}
use Rattle.world_memory.specs.Tables.{Tables, place_of}
use Rattle.world_semantics.specs.Worlds.{Sizes}
use Rattle.world_semantics.specs.Turns.{Answer, Turn, Calls, after_call, taken}
use Rattle.world_memory.proofs.Showing.{in_frames, in_objects}

-- an answer of a store that does all, where nothing is read
abbrev pub plain : Answer
plain = record { stored = true; read = None; grew = true }

-- a call that may be made
pub taken_call : {A : Type 0} (n : ℕ) (s : State) (c : Call) (go : State → A) → legal n s c ≡ true → taken n s (Calls c go) ≡ Some (act s c, go (act s c))
taken_call n s c go e = ap (λ b. after_call (cond b (Some (act s c)) None) go) e

pub refused_call : {A : Type 0} (n : ℕ) (s : State) (c : Call) (go : State → A) → legal n s c ≡ false → taken n s (Calls c go) ≡ None
refused_call n s c go e = ap (λ b. after_call (cond b (Some (act s c)) None) go) e

pub leads_call : {A : Type 0} (n : ℕ) (s : State) (turn : Answer → Turn A) (honest : Answer → Type 0) (Q : State → A → Type 0) (a : Answer) (c : Call) (go : State → A)
    → honest a → turn a ≡ Calls c go → legal n s c ≡ true → Q (act s c) (go (act s c)) → Leads n s turn honest Q
leads_call n s turn honest Q a c go h e l q = (a, h, ((act s c, go (act s c)), ap (taken n s) e ∙ taken_call n s c go l, q))

-- what is the same, said otherwise
pub goes_same : {A : Type 0} (n : ℕ) (s : State) (turn : Answer → Turn A) (honest : Answer → Type 0) (Q : State → A → Type 0) (same same' : Type 0) (r : Step) → (same → same') → Goes n s turn honest Q same r → Goes n s turn honest Q same' r
goes_same n s turn honest Q same same' step.Took f g = g
goes_same n s turn honest Q same same' step.NotEnabled f g = (g.0, f g.1)

-- what an answer is, said otherwise
pub leads_with : {A : Type 0} (n : ℕ) (s : State) (turn : Answer → Turn A) (honest honest' : Answer → Type 0) (Q : State → A → Type 0) → ((a : Answer) → honest a → honest' a) → Leads n s turn honest Q → Leads n s turn honest' Q
leads_with n s turn honest honest' Q f l = (l.0, f l.0 l.1, l.2)

pub goes_with : {A : Type 0} (n : ℕ) (s : State) (turn : Answer → Turn A) (honest honest' : Answer → Type 0) (Q : State → A → Type 0) (same : Type 0) (r : Step) → ((a : Answer) → honest a → honest' a)
    → Goes n s turn honest Q same r → Goes n s turn honest' Q same r
goes_with n s turn honest honest' Q same step.Took f g = leads_with n s turn honest honest' Q f g
goes_with n s turn honest honest' Q same step.NotEnabled f g = g

-- ---- what lies in the tables

place_inside : (z : Sizes) (t : Tables) (s : State) (o : ℕ) (p : Place) → Shown z t s → (s.word o).place ≡ p → p ≢ Away → o < z.objects
place_inside z t s o p shown e d =
    let many = shown.objects_many in
    let inside : o < length t.objects = in_objects t o (λ r. d (sym e ∙ (ap (λ (w : Word). w.place) (shown.objects o).word ∙ ap (λ x. place_of x.place) r))) in
    omega arith

pub leaving_inside : (h : Type 0) (z : Sizes) (t : Tables) (s : State) (m o : ℕ) → Inv h z.cells s → Shown z t s → (s.hand m).leaving ≡ Some o → o < z.objects
leaving_inside h z t s m o inv shown e =
    let k = (inv.mover m).leaves o e in
    place_inside z t s o (Leaving (s.hand m).source m k.0) shown k.1 (λ q. cc)

pub bringing_inside : (h : Type 0) (z : Sizes) (t : Tables) (s : State) (m o : ℕ) → Inv h z.cells s → Shown z t s → (s.hand m).bringing ≡ Some o → o < z.objects
bringing_inside h z t s m o inv shown e = place_inside z t s o (Coming m) shown ((inv.mover m).brings o e) (λ q. cc)

pub frame_inside : (z : Sizes) (t : Tables) (s : State) (f : ℕ) → Shown z t s → 0 < s.frame f → f < z.frames
frame_inside z t s f shown l =
    let many = shown.frames_many in
    let inside : f < length t.frames = in_frames t f (subst (λ n. 0 < n) (shown.frames f) l) in
    omega arith

pub freed_inside : (h : Type 0) (z : Sizes) (t : Tables) (s : State) (m f : ℕ) → Inv h z.cells s → Shown z t s → (s.hand m).freed ≡ Some f → f < z.frames
freed_inside h z t s m f inv shown e =
    let k : FrameOk s f (Freer m) = subst (FrameOk s f) ((inv.mover m).frees f e) (inv.frame f) in
    frame_inside z t s f shown k.0

pub claimed_inside : (h : Type 0) (z : Sizes) (t : Tables) (s : State) (m f : ℕ) → Inv h z.cells s → Shown z t s → (s.hand m).claimed ≡ Some f → f < z.frames
claimed_inside h z t s m f inv shown e =
    let k : FrameOk s f (Claimer m) = subst (FrameOk s f) ((inv.mover m).claims f e).0 (inv.frame f) in
    frame_inside z t s f shown k.0

-- the frame where an owner was told that its object is
pub told_inside : (h : Type 0) (z : Sizes) (t : Tables) (s : State) (o f : ℕ) → Inv h z.cells s → Shown z t s → (s.note o).frame ≡ Some f → f < z.frames
told_inside h z t s o f inv shown e = at (s.word o).place refl
  where
    none : None ≡ Some f → ⊥
    none q = cc

    one : {i j : ℕ} → Some i ≡ Some j → i ≡ j
    one q = cc

    here : (p : Place) → (s.word o).place ≡ p → framed p ≡ Some f → s.who f ≡ Object o → f < z.frames
    here p q r k = frame_inside z t s f shown (subst (FrameOk s f) k (inv.frame f)).0

    at : (p : Place) → (s.word o).place ≡ p → f < z.frames
    at Away q = absurd (none (ap framed (sym q) ∙ ((inv.owner o).placed f e).0))
    at (Coming m) q = absurd (none (ap framed (sym q) ∙ ((inv.owner o).placed f e).0))
    at (Here g k) q =
        let same : g ≡ f = one (ap framed (sym q) ∙ ((inv.owner o).placed f e).0) in
        let ok : PlaceOk h z.cells s o (Here g k) = subst (PlaceOk h z.cells s o) q (inv.object o) in
        here (Here g k) q (ap Some same) (subst (λ j. s.who j ≡ Object o) same ok.1)
    at (Leaving g m k) q =
        let same : g ≡ f = one (ap framed (sym q) ∙ ((inv.owner o).placed f e).0) in
        let ok : PlaceOk h z.cells s o (Leaving g m k) = subst (PlaceOk h z.cells s o) q (inv.object o) in
        here (Leaving g m k) q (ap Some same) (subst (λ j. s.who j ≡ Object o) same ok.1)
