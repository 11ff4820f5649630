-- what a call asks of its caller keeps the machine sound
use Rattle.std.proofs.Common.{ℕ}
use Rattle.pointer_word.specs.Machine.{State}
use Rattle.pointer_word.specs.Calls.{Call, Opens, Closes, Clears, Stores, Begins, Claims, Fills, Arrives, Unclaims, Retreats, Marks, Copies, Puts, Commits, Aborts, Leaves, Releases, May}
use Rattle.pointer_word.specs.Asked.{Asked}

pub asked_may : (owner : ℕ → ℕ) (h : Type 0) (n : ℕ) (s : State) (a : ℕ) (c : Call) → Asked owner h n s a c → May h n s c
asked_may owner h n s a (Opens o) k = k.1
asked_may owner h n s a (Closes o) k = k.1
asked_may owner h n s a (Clears o) k = k.1
asked_may owner h n s a (Stores o f i v) k = k.2
asked_may owner h n s a (Begins m o c own) k = (k.1.0, λ e. (k.2 e).1)
asked_may owner h n s a (Claims m o f) k = k.3.0
asked_may owner h n s a (Fills m f i v) k = k.2
asked_may owner h n s a (Arrives m o f own) k = k.2
asked_may owner h n s a (Unclaims m f) k = k.1
asked_may owner h n s a (Retreats m o) k = k.2
asked_may owner h n s a (Marks m o f) k = k.1.0
asked_may owner h n s a (Copies m f i) k = k.2
asked_may owner h n s a (Puts m o x) k = k.1
asked_may owner h n s a (Commits m o f) k = k.2
asked_may owner h n s a (Aborts m o f) k = k.1
asked_may owner h n s a (Leaves m o f) k = k.1.1.1
asked_may owner h n s a (Releases m f) k = k.1
