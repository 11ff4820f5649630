-- What a step of each call leaves in the word that it changes.
use Rattle.std.proofs.Common.{◌≡◌, ℕ, ap, sym, refl, ◌∙◌}
use Rattle.std.specs.Prelude.{false, true, ◌-◌}
use Rattle.pointer_word.specs.Words.{Place, Away, Here, counted, cleared}
use Rattle.pointer_word.specs.Hands.{upd, Note}
use Rattle.pointer_word.specs.Machine.{State as Machine}
use Rattle.pointer_word.specs.Sound.{Inv}
use Rattle.pointer_word.specs.Calls.{Closes, Clears, Stores, Fills, Arrives, Unclaims, Retreats, Aborts, Releases}
use Rattle.pointer_word.proofs.Upd.{upd-same}
use Rattle.object_lock.specs.Seats.{View, Owns, note, Shows}
use Rattle.object_lock.specs.Plays.{LeavesWord, LeavesAt, LeavesFree, LeavesCell}

module _ (x : Machine) where
  pub free_unclaims : (m f : ℕ) → LeavesFree (Unclaims m f) f x
  free_unclaims m f = upd-same x.frame f 0 f refl

  pub free_releases : (m f : ℕ) → LeavesFree (Releases m f) f x
  free_releases m f = upd-same x.frame f 0 f refl

  written : (f i a : ℕ) → upd x.cell f (upd (x.cell f) i a) f i ≡ a
  written f i a = ap (λ (cells : ℕ → ℕ). cells i) (upd-same x.cell f (upd (x.cell f) i a) f refl) ∙ upd-same (x.cell f) i a i refl

  pub cell_stores : (o f i a : ℕ) → LeavesCell (Stores o f i a) f i a x
  cell_stores o f i a = written f i a

  pub cell_fills : (m f i a : ℕ) → LeavesCell (Fills m f i a) f i a x
  cell_fills m f i a = written f i a

  pub word_retreats : (m o : ℕ) → LeavesAt (Retreats m o) o Away x
  word_retreats m o = upd-same x.word o (counted (x.word o).count Away) o refl

  pub word_aborts : (m o f : ℕ) → LeavesAt (Aborts m o f) o (Here f false) x
  word_aborts m o f = upd-same x.word o (counted (x.word o).count (Here f false)) o refl

  pub word_brings : (m o f : ℕ) → LeavesAt (Arrives m o f false) o (Here f true) x
  word_brings m o f = upd-same x.word o (counted (x.word o).count (Here f true)) o refl

  -- an object that the seat owns has the holds that the seat counts
  module _ (honest : Type 0) (v : View) (sound : Inv honest v.sizes.cells x) (knew : Shows v x) (o : ℕ) (own : Owns v o) where
    counts : (x.word o).count ≡ (note v o).count
    counts = (sound.owner o).counts ∙ ap (λ (y : Note). y.count) (sym (knew.1 o own))

    with_count : (p : Place) → upd x.word o (counted (x.word o).count p) o ≡ counted (note v o).count p
    with_count p = upd-same x.word o (counted (x.word o).count p) o refl ∙ ap (λ (n : ℕ). counted n p) counts

    pub word_closes : LeavesWord (Closes o) o ((note v o).count - 1) (x.word o).place x
    word_closes = upd-same x.word o (counted ((x.word o).count - 1) (x.word o).place) o refl ∙ ap (λ (n : ℕ). counted (n - 1) (x.word o).place) counts

    pub word_clears : LeavesWord (Clears o) o (note v o).count (cleared (x.word o).place) x
    word_clears = with_count (cleared (x.word o).place)

    pub word_arrives : (m f : ℕ) → LeavesWord (Arrives m o f true) o (note v o).count (Here f true) x
    word_arrives m f = with_count (Here f true)
