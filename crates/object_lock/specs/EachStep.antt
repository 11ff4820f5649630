-- Every kind of step of the table, as one call of the machine.
use Rattle.std.specs.Prelude.{◌≡◌, ℕ, suc, ◌+◌, ◌%◌, ◌<◌, true, false, eqb, List, [], ◌∷◌, Some, None, bit_and, length}
use mathlib.Core.Option as maybe
use prog.Atomic.{either}
use Rattle.atomic_table.specs.Table.{Me, rest, step}
use Rattle.pointer_word.specs.Words.{Coming, Here, Leaving, face, keep_plain, keep_here, keep_coming, arrival}
use Rattle.pointer_word.specs.Hands.{or_zero, seen, listed}
use Rattle.pointer_word.specs.Machine.{Kept}
use Rattle.pointer_word.specs.Calls.{Opens, Closes, Clears, Stores, Begins, Claims, Fills, Arrives, Unclaims, Retreats, Marks, Copies, Puts, Commits, Aborts, Leaves, Releases, Filled}
use Rattle.object_lock.specs.Seats.{Sizes, View, Owns, note, frame_word, cell_word}
use Rattle.object_lock.specs.Plays.{mine, frame_at, index_at, IsCell, told_open, told_close, told_clear, told_load, told_store, told_peek, told_look, told_begin, told_begin_own, told_claim, told_fill, told_arrive, told_arrive_own, told_mark, told_copy, told_commit, told_leave, told_abort, told_retreat, told_unclaim, told_release}
use Rattle.object_lock.specs.Carrying.{Carries}

module _ {S : Type 0} (kept : S → ℕ → List ℕ → Type 0) (there : S → Type 0) (honest : Type 0) where
  -- Whatever a table is, each step of a seat carries its rule from a machine to the machine that the call leaves, under what is known from
  -- the seat's view and the berths in its hands
  pub record EachStep : Type 0 where
    -- an owner opens a hold
    pub opens : (z : Sizes) (slots id : ℕ) (me : Me S View) (o : ℕ) → Owns me.0 o → (note me.0 o).count < 4 → Carries kept there honest z slots id me o (λ n. (n + 1) % 18446744073709551616) (Opens o ∷ []) (told_open honest (step slots o 1 0 maybe.none) me)
    -- an owner closes a hold
    pub closes : (z : Sizes) (slots id : ℕ) (me : Me S View) (o : ℕ) → Owns me.0 o → 0 < (note me.0 o).count → Carries kept there honest z slots id me o (λ n. (n + 18446744073709551615) % 18446744073709551616) (Closes o ∷ []) (told_close honest (step slots o 1 0 maybe.none) me)
    -- an owner begins to write
    pub clears : (z : Sizes) (slots id : ℕ) (me : Me S View) (o : ℕ) → Owns me.0 o → 0 < (note me.0 o).count → Carries kept there honest z slots id me o (λ n. bit_and n keep_plain) (Clears o ∷ []) (told_clear honest (step slots o keep_plain 0 maybe.none) me)
    -- an owner loads a cell
    pub loads : (z : Sizes) (slots id : ℕ) (me : Me S View) (k : ℕ) → Carries kept there honest z slots id me k (λ n. n) [] (told_load honest (step slots k 0 0 maybe.none) me)
    -- an owner stores in a cell
    pub stores : (z : Sizes) (slots id : ℕ) (me : Me S View) (k o f i a : ℕ) → IsCell me.0 k o f i → (note me.0 o).writing ≡ true → Carries kept there honest z slots id me k (λ _. a) (Stores o f i a ∷ []) (λ _. told_store honest (step slots k a 0 maybe.none) me a)
    -- a seat looks at an object's word
    pub peeks : (z : Sizes) (slots id : ℕ) (me : Me S View) (o : ℕ) → o < me.0.sizes.objects → Carries kept there honest z slots id me o (λ n. n) [] (told_peek honest (step slots o 0 0 maybe.none) me)
    -- a seat looks at a frame's word
    pub looks : (z : Sizes) (slots id : ℕ) (me : Me S View) (k g : ℕ) → k ≡ frame_word me.0.sizes g → g < me.0.sizes.frames → Carries kept there honest z slots id me k (λ n. n) [] (told_look honest (step slots k 0 0 maybe.none) me)
    -- a fetcher tries to begin
    pub begins : (z : Sizes) (slots id : ℕ) (me : Me S View) (o c new : ℕ) → o < z.objects → c < 65536 → me.0.hand.bringing ≡ None → new ≡ face (Coming me.0.number) c → Carries kept there honest z slots id me o (λ n. either (eqb n c) new n) (Begins me.0.number o c false ∷ []) (told_begin honest kept there (step slots o c new maybe.none) me)
    -- an owner tries to begin
    pub begins_own : (z : Sizes) (slots id : ℕ) (me : Me S View) (o c new : ℕ) → Owns me.0 o → 0 < (note me.0 o).count → c < 65536 → me.0.hand.bringing ≡ None → new ≡ face (Coming me.0.number) c → Carries kept there honest z slots id me o (λ n. either (eqb n c) new n) (Begins me.0.number o c true ∷ []) (told_begin_own honest kept there (step slots o c new maybe.none) me)
    -- a mover tries to claim a frame
    pub claims : (z : Sizes) (slots id : ℕ) (me : Me S View) (k g o new : ℕ) → k ≡ frame_word me.0.sizes g → g < me.0.sizes.frames → me.0.hand.bringing ≡ Some o → me.0.hand.claimed ≡ None → new ≡ suc (or_zero me.0.hand.bringing) → Carries kept there honest z slots id me k (λ n. either (eqb n 0) new n) (Claims me.0.number (or_zero me.0.hand.bringing) (frame_at me.0 k) ∷ []) (told_claim honest (step slots k 0 new maybe.none) me)
    -- a mover fills a cell of its frame
    pub fills : (z : Sizes) (slots id : ℕ) (me : Me S View) (k i a : ℕ) → k ≡ cell_word me.0.sizes (mine me.0) i → i < me.0.sizes.cells → me.0.hand.claimed ≡ Some (mine me.0) → Carries kept there honest z slots id me k (λ _. a) (Fills me.0.number (mine me.0) (index_at me.0 (mine me.0) k) a ∷ []) (λ _. told_fill honest (step slots k a 0 maybe.none) me a)
    -- a fetcher arrives
    pub arrives : (z : Sizes) (slots id : ℕ) (me : Me S View) (o f by : ℕ) (b : S) → me.0.hand.bringing ≡ Some o → me.0.hand.claimed ≡ Some f → Filled honest z.cells me.0.hand → me.1 ≡ (o, b) ∷ rest me.1 → kept b o me.0.hand.promised → by ≡ arrival me.0.number (mine me.0) → Carries kept there honest z slots id me o (λ n. (n + by) % 18446744073709551616) (Arrives me.0.number o (mine me.0) false ∷ []) (told_arrive honest (step slots o by 0 maybe.none) me)
    -- an owner arrives
    pub arrives_own : (z : Sizes) (slots id : ℕ) (me : Me S View) (o f by : ℕ) (b : S) → Owns me.0 o → 0 < (note me.0 o).count → me.0.hand.bringing ≡ Some o → me.0.hand.claimed ≡ Some f → Filled honest z.cells me.0.hand → me.1 ≡ (o, b) ∷ rest me.1 → kept b o me.0.hand.promised → by ≡ arrival me.0.number (mine me.0) → Carries kept there honest z slots id me o (λ n. (n + by) % 18446744073709551616) (Arrives me.0.number o (mine me.0) true ∷ []) (told_arrive_own honest kept there (step slots o by 0 maybe.none) me)
    -- a mover tries to mark
    pub marks : (z : Sizes) (slots id : ℕ) (me : Me S View) (o f old new : ℕ) → o < z.objects → f < z.frames → me.0.hand.leaving ≡ None → old ≡ face (Here f false) 0 → new ≡ face (Leaving f me.0.number true) 0 → Carries kept there honest z slots id me o (λ n. either (eqb n old) new n) (Marks me.0.number o f ∷ []) (told_mark honest kept there (step slots o old new maybe.none) me)
    -- a mover copies a cell
    pub copies : (z : Sizes) (slots id : ℕ) (me : Me S View) (k o i : ℕ) → k ≡ cell_word me.0.sizes me.0.hand.source i → i < me.0.sizes.cells → me.0.hand.leaving ≡ Some o → Carries kept there honest z slots id me k (λ n. n) (Copies me.0.number me.0.hand.source (index_at me.0 me.0.hand.source k) ∷ []) (told_copy honest (step slots k 0 0 maybe.none) me)
    -- a mover tries to commit, after a put that its store cell shows
    pub commits : (z : Sizes) (slots id : ℕ) (me : Me S View) (o old : ℕ) (b : S) (ws : List ℕ) → me.0.hand.leaving ≡ Some o → me.0.hand.freed ≡ None → me.1 ≡ (o, b) ∷ rest me.1 → kept b o ws → length ws ≡ z.cells → ((i : ℕ) → i < z.cells → seen me.0.hand.copied i ≡ Some (listed ws i)) → old ≡ face (Leaving me.0.hand.source me.0.number true) 0 → Carries kept there honest z slots id me o (λ n. either (eqb n old) 0 n) (Puts me.0.number o (Kept ws) ∷ Commits me.0.number o me.0.hand.source ∷ []) (told_commit honest (step slots o old 0 maybe.none) me)
    -- a mover has a clean object leave
    pub leaves : (z : Sizes) (slots id : ℕ) (me : Me S View) (o f old : ℕ) → o < z.objects → f < z.frames → me.0.hand.freed ≡ None → old ≡ face (Here f true) 0 → Carries kept there honest z slots id me o (λ n. either (eqb n old) 0 n) (Leaves me.0.number o f ∷ []) (told_leave honest (step slots o old 0 maybe.none) me)
    -- a mover aborts
    pub aborts : (z : Sizes) (slots id : ℕ) (me : Me S View) (o : ℕ) (b : S) → me.0.hand.leaving ≡ Some o → me.1 ≡ (o, b) ∷ rest me.1 → there b → Carries kept there honest z slots id me o (λ n. bit_and n keep_here) (Aborts me.0.number o me.0.hand.source ∷ []) (told_abort honest (step slots o keep_here 0 maybe.none) me)
    -- a mover retreats
    pub retreats : (z : Sizes) (slots id : ℕ) (me : Me S View) (o : ℕ) (b : S) → me.0.hand.bringing ≡ Some o → me.1 ≡ (o, b) ∷ rest me.1 → kept b o me.0.hand.promised → Carries kept there honest z slots id me o (λ n. bit_and n keep_coming) (Retreats me.0.number o ∷ []) (told_retreat honest (step slots o keep_coming 0 maybe.none) me)
    -- a mover gives up a claimed frame
    pub unclaims : (z : Sizes) (slots id : ℕ) (me : Me S View) (k g : ℕ) → k ≡ frame_word me.0.sizes g → me.0.hand.claimed ≡ Some g → Carries kept there honest z slots id me k (λ _. 0) (Unclaims me.0.number (frame_at me.0 k) ∷ []) (λ _. told_unclaim honest (step slots k 0 0 maybe.none) me 0)
    -- a mover releases a freed frame
    pub releases : (z : Sizes) (slots id : ℕ) (me : Me S View) (k g : ℕ) → k ≡ frame_word me.0.sizes g → me.0.hand.freed ≡ Some g → Carries kept there honest z slots id me k (λ _. 0) (Releases me.0.number (frame_at me.0 k) ∷ []) (λ _. told_release honest (step slots k 0 0 maybe.none) me 0)
