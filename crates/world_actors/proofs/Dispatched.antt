-- a program's turn by its mode, as code takes it
use Rattle.std.proofs.Common.{◌≡◌, ℕ, suc, ◌<◌, ◌≤◌, true, false, cond, List, None, refl, sym, ap, ◌∙◌, arith}
use Rattle.std.specs.Prelude.{nat_lt}
use Rattle.std.proofs.lemmas.Bool.Decides.{nat_tests}
use Rattle.pointer_word.specs.Hands.{listed}
use Rattle.pointer_word.specs.Machine.{State}
use Rattle.pointer_word.specs.Calls.{Arrives, Fills}
use Rattle.world_semantics.specs.declared.event.Choice.{Choice}
use Rattle.world_semantics.specs.declared.event.Choice.TheVariants as choice
use Rattle.world_actors.specs.declared.program.Mode.{Mode as RustMode}
use Rattle.world_actors.specs.declared.program.Mode.TheVariants as m
use Rattle.world_actors.specs.Acting.{IsProgram}
use Rattle.world_semantics.specs.Fetchers as fetching
use Rattle.world_semantics.specs.Programs.{Filling, Program, Setting, finished, in_mode}
use Rattle.world_actors.specs.Seats.{Seat, mode_of}
use Rattle.world_semantics.specs.Turns.{Answer, Turn, NotEnabled, Calls, as_next, by_mode, program_brings, program_turn, taken}

pub below_true : (a b : ℕ) → a < b → nat_lt a b ≡ true
below_true a b l = grind (arith, nat_tests)

pub below_false : (a b : ℕ) → b ≤ a → nat_lt a b ≡ false
below_false a b l = grind (arith, nat_tests)

-- it fills a cell, or is at the end
pub fills_cell : (g : Setting) (p : Program) (a : Answer) (o f k : ℕ) (words : List ℕ) → k < g.size
    → program_brings g p a (fetching.Filling o f words k) ≡ Calls (Fills g.mover f k (listed words k)) (λ t. in_mode p (Filling o f words (suc k)))
fills_cell g p a o f k words l =
    ap (λ b. cond b (Calls (Fills g.mover f k (listed words k)) (λ (t : State). in_mode p (Filling o f words (suc k)))) (Calls (Arrives g.mover o f true) (λ t. finished g p 0)))
    (below_true k g.size l)

pub fills_all : (g : Setting) (p : Program) (a : Answer) (o f k : ℕ) (words : List ℕ) → g.size ≤ k
    → program_brings g p a (fetching.Filling o f words k) ≡ Calls (Arrives g.mover o f true) (λ t. finished g p 0)
fills_all g p a o f k words l =
    ap (λ b. cond b (Calls (Fills g.mover f k (listed words k)) (λ (t : State). in_mode p (Filling o f words (suc k)))) (Calls (Arrives g.mover o f true) (λ t. finished g p 0)))
    (below_false k g.size l)

-- a turn that isn't what is next
not_next : (c : Choice) (x : Turn Program) → (c ≡ choice.Next → ⊥) → as_next c x ≡ NotEnabled
not_next choice.Next x d = absurd (d refl)
not_next (choice.Look f) x d = refl
not_next (choice.Claim f) x d = refl
not_next (choice.Mark o f) x d = refl
not_next (choice.Leave o f) x d = refl
not_next (choice.Begin o) x d = refl

idle : (g : Setting) (s : State) (p : Program) (y : RustMode) (words : List ℕ) (c : Choice) (a : Answer) → ((o : ℕ) → y ≡ m.Bringing o → ⊥) → (c ≡ choice.Next → ⊥) → by_mode g s p (mode_of y words) c a ≡ NotEnabled
idle g s p m.Ready words c a d n = not_next c _ n
idle g s p (m.Missing o) words c a d n = not_next c _ n
idle g s p (m.Bringing o) words c a d n = absurd (d o refl)
idle g s p (m.Reading o f) words c a d n = not_next c _ n
idle g s p (m.Filling o f k) words c a d n = not_next c _ n
idle g s p (m.Clearing o f k) words c a d n = not_next c _ n
idle g s p (m.Evicting o e) words c a d n = not_next c _ n
idle g s p (m.Releasing o f) words c a d n = not_next c _ n
idle g s p (m.Retreating o) words c a d n = not_next c _ n
idle g s p m.Closing words c a d n = not_next c _ n
idle g s p (m.Wanted w) words c a d n = refl

-- its turn is that of its mode
pub turn_is : (x : Seat) (s : State) (p : Program) (y : RustMode) (c : Choice) (a : Answer) → IsProgram x p → y ≡ x.mode → program_turn x.setting s p c a ≡ by_mode x.setting s p (mode_of y x.words) c a
turn_is x s p y c a is e = ap (λ k. by_mode x.setting s p k c a) (is.mode ∙ ap (λ k. mode_of k x.words) (sym e))

pub not_enabled : (n : ℕ) (x : Seat) (s : State) (p : Program) (y : RustMode) (c : Choice) (a : Answer) → IsProgram x p → y ≡ x.mode → ((o : ℕ) → y ≡ m.Bringing o → ⊥) → (c ≡ choice.Next → ⊥)
    → taken n s (program_turn x.setting s p c a) ≡ None
not_enabled n x s p y c a is e d other = ap (taken n s) (turn_is x s p y c a is e ∙ idle x.setting s p y x.words c a d other)
