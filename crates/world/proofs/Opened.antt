-- the opening world, as code makes it, and what is told of a world
use Rattle.std.proofs.Common.{◌≡◌, inl, inr, ℕ, zero, suc, ◌+◌, ◌*◌, ◌/◌, ◌<◌, ◌≤◌, Bool, true, false, cond, ◌&&◌, List, [], ◌∷◌, ◌++◌, length, get_or, Option, Some, None, refl, sym, ap, ◌∙◌, subst, arith}
use Rattle.std.specs.Prelude.{nat_lt, replicate, option_map}
use Rattle.std.proofs.lemmas.Option.{slice_get_within}
use Rattle.std.proofs.lemmas.List.{length-replicate}
use Rattle.code_form.specs.declared.form.Image.{Image as RustImage}
use Rattle.code_form.specs.Form.{Image, image_of}
use Rattle.pointer_word.specs.Words.{Place, Away, Coming, Here, Leaving, Word, counted, framed}
use Rattle.pointer_word.specs.Hands.{blank}
use Rattle.pointer_word.specs.Machine.{Never, State, Object as ObjectHolds}
use Rattle.pointer_word.specs.Sound.{Inv, FrameOk, PlaceOk}
use Rattle.cells.specs.Pieces.{is_piece}
use Rattle.world_actors.specs.declared.evacuator.EvacuatorActor.{EvacuatorActor}
use Rattle.world_fetchers.specs.declared.fetcher.FetcherActor.{FetcherActor}
use Rattle.world_fetchers.specs.declared.fetch.Fetching.{Fetching as RustFetching}
use Rattle.world_memory.specs.declared.memory.Object.{Object}
use Rattle.world_actors.specs.declared.program.Eviction.{Eviction as RustEviction}
use Rattle.world_actors.specs.Acting.{IsProgram}
use Rattle.world.specs.Parts.{Parts}
use Rattle.world.specs.Stepped.{IsWorld}
use Rattle.world.specs.Opened.{AreAtRest, AreBegun, AreIdle, cell_of, images_of, sizes_of}
use Rattle.world_semantics.specs.Pieces.{HaveOnePiece, piece_of}
use Rattle.world_semantics.specs.Programs.{begun}
use Rattle.world_actors.specs.Seats.{Seat, begin, eviction_of}
use Rattle.world_fetchers.specs.Fetching.{fetching_of}
use Rattle.world_memory.proofs.Berthed.{push_tells}
use Rattle.world_memory.specs.Shown.{AreFar, IsObject, Shown}
use Rattle.world_memory.specs.Tables.{FrameFits, Tables, cell_at, frame_word, object_at, opened, place_of, resting}
use Rattle.world_semantics.specs.Worlds.{Sizes, World, setting, start}
use Rattle.world_actors.proofs.Acting.{frame_inside}
use Rattle.world.proofs.Happening.{sound}

same_at : {A : Type 0} (n : ℕ) (a : A) (i : ℕ) → get_or (replicate n a) i a ≡ a
same_at zero a i = refl
same_at (suc n) a zero = refl
same_at (suc n) a (suc i) = same_at n a i

-- one more program at its beginning
pub begun_push : {P : Type 0} (images : List RustImage) (share : ℕ) (seats seats' : List (Seat × P)) (y : Seat × P) → seats' ≡ seats ++ y ∷ [] → AreBegun images share seats
    → y.0 ≡ begin (images_of images (length seats)) (length seats * share) (length seats * share + share) (suc (length seats)) → AreBegun images share seats'
begun_push {P} images share seats seats' y e all new =
    subst (AreBegun images share) (sym e) (λ k x q. elim (push_tells seats y k x q) [
      | inl r ↦ subst (λ (n : ℕ). x.0 ≡ begin (images_of images n) (n * share) (n * share + share) (suc n)) (sym r.0) (ap (λ (v : Seat × P). v.0) r.1 ∙ new)
      | inr r ↦ all k x r
    ])

-- one more evacuator that is idle
pub idle_push : {P : Type 0} (n programs : ℕ) (movers movers' : List (EvacuatorActor × P)) (y : EvacuatorActor × P) → movers' ≡ movers ++ y ∷ [] → AreIdle n programs movers → y.0.eviction ≡ None → y.0.mover ≡ suc (programs + length movers)
    → length y.0.words.items ≡ n → AreIdle n programs movers'
idle_push {P} n programs movers movers' y e all none mover wide =
    subst (AreIdle n programs) (sym e) (λ k x q. elim (push_tells movers y k x q) [
      | inl r ↦ (ap (λ (v : EvacuatorActor × P). v.0.eviction) r.1 ∙ none, ap (λ (v : EvacuatorActor × P). v.0.mover) r.1 ∙ (mover ∙ ap (λ n. suc (programs + n)) (sym r.0)), ap (λ (v : EvacuatorActor × P). length v.0.words.items) r.1 ∙ wide)
      | inr r ↦ all k x r
    ])

-- one more fetcher that is idle
pub rest_push : {P : Type 0} (n before : ℕ) (movers movers' : List (FetcherActor × P)) (y : FetcherActor × P) → movers' ≡ movers ++ y ∷ [] → AreAtRest n before movers → y.0.fetching ≡ None → y.0.mover ≡ suc (before + length movers)
    → length y.0.words.items ≡ n → AreAtRest n before movers'
rest_push {P} n before movers movers' y e all none mover wide =
    subst (AreAtRest n before) (sym e) (λ k x q. elim (push_tells movers y k x q) [
      | inl r ↦ (ap (λ (v : FetcherActor × P). v.0.fetching) r.1 ∙ none, ap (λ (v : FetcherActor × P). v.0.mover) r.1 ∙ (mover ∙ ap (λ n. suc (before + n)) (sym r.0)), ap (λ (v : FetcherActor × P). length v.0.words.items) r.1 ∙ wide)
      | inr r ↦ all k x r
    ])

-- every cell of the opening is 0
no_cells : (m k : ℕ) (b : Bool) → ◌≡◌ {A = ℕ} 0 (cond b (get_or (replicate m 0) k 0) 0)
no_cells m k true = sym (same_at m 0 k)
no_cells m k false = refl

-- the opening world, of pieces of n cells
pub opens_world : {S C : Type 0} (content : C → Option (List ℕ)) (h : Type 0) (images : List RustImage) (frames objects evacuators fetchers n : ℕ) (x : Parts S C) → is_piece n ≡ true → HaveOnePiece (images_of images) (length images)
    → piece_of (images_of images) ≡ n → x.tables ≡ opened objects frames n → objects ≤ 16777216 → frames ≤ 1048576 → length x.berths.items ≡ objects → x.berths.cells ≡ n → AreFar content n x.berths.items (λ _. Never)
    → length x.programs ≡ length images → AreBegun images (objects / length images) x.programs → length x.evacuators ≡ evacuators → AreIdle n (length images) x.evacuators
    → length x.fetchers ≡ fetchers → AreAtRest n (length images + evacuators) x.fetchers
    → IsWorld content h (sizes_of (length images) frames objects evacuators fetchers n) (images_of images) x (start (images_of images))
opens_world {S} {C} content h images frames objects evacuators fetchers n x is_one one_piece first e few few_frames many sized far seats_many begun_all movers_many idle_all fetchers_many rest_all = record {
  shows = record {
    tables = subst (λ (y : Tables). Shown (sizes_of (length images) frames objects evacuators fetchers n) y (start (images_of images)).lock) (sym e) (record {
      objects = λ o. subst (λ (y : Object). IsObject y (counted 0 Away) blank) (sym (same_at objects resting o)) (record { word = refl; count = refl; told = refl; writing = refl });
      frames = λ f. sym (ap frame_word (same_at frames None f));
      cells = λ f i. no_cells (frames * n) (f * n + i) (nat_lt f (length (replicate frames None)) && nat_lt i n);
      size = refl;
      wide = length-replicate (frames * n) 0;
      objects_many = length-replicate objects resting;
      frames_many = length-replicate frames None;
    });
    far = far;
    size = sized;
    many = many;
    objects_few = few;
    frames_few = few_frames;
  };
  programs = λ k y q. let is = begun_all k y q in
      let inside = slice_get_within x.programs k y q in
      let size : (images_of images k).piece ≡ n = one_piece k (omega arith) ∙ first in (
        subst (λ (v : Seat). IsProgram v (begun (images_of images k))) (sym is) (record { core = refl; holds = refl; mode = refl; completed = refl }),
        ap (λ (v : Seat). v.setting) is ∙ ap (λ m. setting (sizes_of (length images) frames objects evacuators fetchers m) (images_of images) k) size,
      );
  evacuators = λ k y q. let is = idle_all k y q in (sym (ap (option_map (λ (v : RustEviction). eviction_of v y.0.words.items)) is.0), is.1, is.2);
  fetchers = λ k y q. let is = rest_all k y q in (sym (ap (option_map (λ (v : RustFetching). fetching_of v y.0.words.items)) is.0), is.1, is.2);
  reached = ([], refl);
  cells = is_one;
  programs_many = seats_many;
  evacuators_many = movers_many;
  fetchers_many = fetchers_many;
}

-- ---- words and cells

framed_inside : (h : Type 0) (z : Sizes) (t : Tables) (s : State) (o f : ℕ) → Inv h z.cells s → Shown z t s → framed (s.word o).place ≡ Some f → f < z.frames
framed_inside h z t s o f inv shown e = at (s.word o).place refl
  where
    holds : (p : Place) → (s.word o).place ≡ p → PlaceOk h z.cells s o p
    holds p q = subst (PlaceOk h z.cells s o) q (inv.object o)

    there : s.who f ≡ ObjectHolds o → f < z.frames
    there k = frame_inside z t s f shown (subst (FrameOk s f) k (inv.frame f)).0

    at : (p : Place) → (s.word o).place ≡ p → f < z.frames
    at Away q = let k : None ≡ Some f = ap framed (sym q) ∙ e in cc
    at (Coming m) q = let k : None ≡ Some f = ap framed (sym q) ∙ e in cc
    at (Here g k) q = let r : Some g ≡ Some f = ap framed (sym q) ∙ e in let i : g ≡ f = cc in there (subst (λ j. s.who j ≡ ObjectHolds o) i (holds (Here g k) q).1)
    at (Leaving g m k) q = let r : Some g ≡ Some f = ap framed (sym q) ∙ e in let i : g ≡ f = cc in there (subst (λ j. s.who j ≡ ObjectHolds o) i (holds (Leaving g m k) q).1)

module _ {S C : Type 0} (content : C → Option (List ℕ)) (h : Type 0) (z : Sizes) (images : ℕ → Image) (x : Parts S C) (w : World) (is : IsWorld content h z images x w) where
  -- a frame's number fits its word
  pub frame_fits : (o : ℕ) → FrameFits (place_of (object_at x.tables o).place)
  frame_fits o f e =
      let shown = is.shows.tables in
      let few = is.shows.frames_few in
      let place : framed (w.lock.word o).place ≡ framed (place_of (object_at x.tables o).place) = ap (λ (y : Word). framed y.place) (shown.objects o).word in
      let inv : Inv h z.cells w.lock = (sound content h z images x w is).lock in
      let inside = framed_inside h z x.tables w.lock o f inv shown (place ∙ e) in
      omega arith

  pub no_cell : (o i : ℕ) → None ≡ framed (place_of (object_at x.tables o).place) → None ≡ cell_of w.lock o i
  no_cell o i e = ap (option_map (λ f. w.lock.cell f i)) (e ∙ sym (ap (λ (y : Word). framed y.place) (is.shows.tables.objects o).word))

  pub the_cell : (o i f v : ℕ) → Some f ≡ framed (place_of (object_at x.tables o).place) → v ≡ cell_at x.tables f i → Some v ≡ cell_of w.lock o i
  the_cell o i f v e q = ap Some (q ∙ sym (is.shows.tables.cells f i)) ∙ ap (option_map (λ g. w.lock.cell g i)) (e ∙ sym (ap (λ (y : Word). framed y.place) (is.shows.tables.objects o).word))

-- an image that was read
pub image_at : (images : List RustImage) (n : ℕ) (x : RustImage) → n < length images → x ≡ get_or images n x → image_of x ≡ images_of images n
image_at [] n x l e = absurd (omega arith)
image_at (y ∷ images) zero x l e = ap image_of e
image_at (y ∷ images) (suc n) x l e = image_at images n x (omega arith) e

-- a program that was made as the next
pub begun_next : (images : List RustImage) (share number n : ℕ) (x : RustImage) (p : Seat) → number ≡ n → n < length images → x ≡ get_or images number x
    → p ≡ begin (image_of x) (number * share) (number * share + share) (number + 1) → p ≡ begin (images_of images n) (n * share) (n * share + share) (suc n)
begun_next images share number n x p same l read e =
    let image : image_of x ≡ images_of images number = image_at images number x (omega arith) read in
    let next : number + 1 ≡ suc number = omega arith in
    e ∙ (ap (λ (y : Image). begin y (number * share) (number * share + share) (number + 1)) image ∙ (ap (begin (images_of images number) (number * share) (number * share + share)) next ∙
    ap (λ k. begin (images_of images k) (k * share) (k * share + share) (suc k)) same))
