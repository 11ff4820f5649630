-- Single events of a program between two instructions.
use Rattle.std.proofs.Common.{◌≡◌, ℕ, ◌<◌, ◌%◌, Bool, true, false, cond, List, [], ◌∷◌, length, refl, sym, ap, ◌∙◌, subst}
use Rattle.std.specs.Prelude.{◌==◌, Option, Some, None}
use Rattle.std.proofs.lemmas.Bool.{eq-eqb, lt-ltb}
use Rattle.pointer_word.specs.Calls.{Clears, Closes, Opens, Stores}
use Rattle.pointer_word.specs.Words.{Away, Word, counted, framed}
use Rattle.pointer_word.specs.Hands.{Hand, Note, added, closed, opened, upd, writable}
use Rattle.pointer_word.specs.Machine.{Far, Never, Nobody, State, after_clear, after_close, after_open, after_store}
use Rattle.code_form.specs.Code.{is_blocked}
use Rattle.code_form.specs.declared.touch.Cell.{Cell}
use Rattle.code_form.specs.declared.touch.Touch.{Touch}
use Rattle.code_form.specs.declared.touch.Touch.TheVariants as touch
use Rattle.world_semantics.specs.declared.event.Choice.{Choice}
use Rattle.world_semantics.specs.declared.event.Choice.TheVariants as choice
use Rattle.world_semantics.specs.declared.hold.Hold.{Hold}
use Rattle.world_semantics.specs.Programs.{Program, Ready, Setting, finished, hold_at, holding, next_touch, object_of, object_or_none}
use Rattle.world_semantics.specs.Turns.{Alone, Answer, Calls, NotEnabled, Turn, aims_at, by_mode, closes, leaves_by, loads_by, loads_from, program_turn, ready, stores_by, stores_to, taken}
use Rattle.mover_events.specs.Going.{Event}
use Rattle.session_events.specs.Knowing.{Goes, Known}

-- ---- events, one behind the other

-- a state in which each object has this word, each store cell keeps this, each cell has this value, each mover has in hand what the seat has, and each object's owner knows what the seat knows
abbrev pub stage : Word → Far → ℕ → Known → State
stage w far v k = record { word = λ _. w; frame = λ _. 0; cell = λ _ _. v; far = λ _. far; hand = λ _. k.hand; note = k.notes; who = λ _. Nobody }

-- the store answers so, and memory grows
abbrev pub answers : Bool → Answer
answers b = record { stored = b; read = None; grew = true }

pub upd_same : {A : Type 0} (f : ℕ → A) (k : ℕ) (v : A) → upd f k v k ≡ v
upd_same f k v = ap (λ b. cond b v (f k)) (eq-eqb k k refl)

-- what is known with this in hand, and with this note of the object o
abbrev pub with_hand : Known → Hand → Known
with_hand k x = record k { hand = x }

abbrev pub with_note : Known → ℕ → Note → Known
with_note k o n = record k { notes = upd k.notes o n }

-- some events lead there
abbrev pub Reaches : Setting → Program → Known → Program → Known → Type 0
Reaches g p k q l = (es : List Event) × Goes g p k es q l

pub stays : (g : Setting) (p : Program) (k : Known) → Reaches g p k p k
stays g p k = ([], (refl, refl, λ o w. refl))

known_is : (h : Hand) (n : ℕ → Note) (y : Known) → h ≡ y.hand → n ≡ y.notes → record { hand = h; notes = n } ≡ y
known_is h n y e f =
    let know : Hand → (ℕ → Note) → Known = λ a b. record { hand = a; notes = b } in
    ap (λ a. know a n) e ∙ ap (λ b. know y.hand b) f

-- one event at a state that the seat's knowledge makes, and then others
pub step : (g : Setting) (p c q : Program) (k y l : Known) (s t : State) (x : Choice) (a : Answer) → s.hand g.mover ≡ k.hand → s.note ≡ k.notes
    → taken g.size s (program_turn g s p x a) ≡ Some (t, c) → t.hand g.mover ≡ y.hand → t.note ≡ y.notes → Reaches g c y q l → Reaches g p k q l
step g p c q k y l s t x a at notes does hand kept rest = (
  record { state = s; choice = x; answer = a } ∷ rest.0,
  ((at, λ o w. ap (λ (n : ℕ → Note). n o) notes), (t, c, does, subst (λ z. Goes g c z rest.0 q l) (sym (known_is (t.hand g.mover) t.note y hand kept)) rest.1)),
)

-- ---- the next instruction

-- the program is between two instructions, of which the next is not blocked and touches this
pub record IsReady (g : Setting) (p : Program) (x : Touch) : Type 0 where
  pub mode : p.mode ≡ Ready
  pub free : is_blocked p.core ≡ false
  pub is : next_touch g p ≡ x

pub turn_of : (g : Setting) (s : State) (p : Program) (a : Answer) (x : Touch) → IsReady g p x → program_turn g s p choice.Next a ≡ ready g s p a x
turn_of g s p a x r =
    ap (λ m. by_mode g s p m choice.Next a) r.mode ∙ ap (λ b. cond b NotEnabled (ready g s p a (next_touch g p))) r.free ∙ ap (ready g s p a) r.is

-- an event of the next instruction, and then others
pub next_step : (g : Setting) (p c q : Program) (k y l : Known) (s t : State) (x : Touch) → IsReady g p x → s.hand g.mover ≡ k.hand → s.note ≡ k.notes
    → taken g.size s (ready g s p (answers true) x) ≡ Some (t, c) → t.hand g.mover ≡ y.hand → t.note ≡ y.notes → Reaches g c y q l → Reaches g p k q l
next_step g p c q k y l s t x r at notes does hand kept rest =
    step g p c q k y l s t choice.Next (answers true) at notes (ap (taken g.size s) (turn_of g s p (answers true) x r) ∙ does) hand kept rest

-- the next instruction is completed with no call, at a state whose cells have this value
pub alone : (g : Setting) (p c q : Program) (k l : Known) (v : ℕ) (x : Touch) → IsReady g p x → let s : State = stage (counted 0 Away) Never v k in
    ready g s p (answers true) x ≡ Alone c → Reaches g c k q l → Reaches g p k q l
alone g p c q k l v x r e rest =
    let s : State = stage (counted 0 Away) Never v k in
    next_step g p c q k k l s s x r refl refl (ap (taken g.size s) e) refl refl rest

-- ---- calls of an owner

-- what is known where a hold of the object is closed, and where its holds are for writing
abbrev pub with_closed : Known → ℕ → Known
with_closed k o = with_note k o (closed (k.notes o))

abbrev pub with_opened : Known → ℕ → Option ℕ → Known
with_opened k o f = with_note k o (opened (k.notes o) f)

closed_at : (n o : ℕ) (k : Known) (c : Program) → 0 < (k.notes o).count → let s : State = stage (counted 0 Away) Never 0 k in
    taken n s (Calls (Closes o) (λ t. c)) ≡ Some (after_close s o, c)
closed_at n o k c some = simp (lt-ltb 0 (k.notes o).count some) refl

-- a hold is closed
pub closing : (g : Setting) (p c q : Program) (k l : Known) (x : Touch) (o : ℕ) → IsReady g p x → let s : State = stage (counted 0 Away) Never 0 k in
    ready g s p (answers true) x ≡ Calls (Closes o) (λ t. c) → 0 < (k.notes o).count → Reaches g c (with_closed k o) q l → Reaches g p k q l
closing g p c q k l x o r e some rest =
    let s : State = stage (counted 0 Away) Never 0 k in
    next_step g p c q k (with_closed k o) l s (after_close s o) x r refl refl (ap (taken g.size s) e ∙ closed_at g.size o k c some) refl refl rest

opened_at : (n o : ℕ) (k : Known) (w : Word) (c : State → Program) → (k.notes o).count < 4 → let s : State = stage w Never 0 k in
    taken n s (Calls (Opens o) c) ≡ Some (after_open s o, c (after_open s o))
opened_at n o k w c few = simp (lt-ltb (k.notes o).count 4 few) refl

-- a hold is opened of an object that is in this frame, or away
pub opening : (g : Setting) (p c q : Program) (k l : Known) (x : Touch) (o : ℕ) (w : Word) (go : State → Program) → IsReady g p x → let s : State = stage w Never 0 k in
    ready g s p (answers true) x ≡ Calls (Opens o) go → (k.notes o).count < 4 → go (after_open s o) ≡ c
    → Reaches g c (with_opened k o (framed w.place)) q l → Reaches g p k q l
opening g p c q k l x o w go r e few goes rest =
    let s : State = stage w Never 0 k in
    next_step g p c q k (with_opened k o (framed w.place)) l s (after_open s o) x r refl refl
    (ap (taken g.size s) e ∙ opened_at g.size o k w go few ∙ ap (λ d. Some (after_open s o, d)) goes) refl refl rest

cleared_at : (n o : ℕ) (k : Known) (c : Program) → 0 < (k.notes o).count → let s : State = stage (counted 0 Away) Never 0 k in
    taken n s (Calls (Clears o) (λ t. c)) ≡ Some (after_clear s o, c)
cleared_at n o k c some = simp (lt-ltb 0 (k.notes o).count some) refl

-- its holds are made ones for writing
pub clearing : (g : Setting) (p c q : Program) (k l : Known) (x : Touch) (o : ℕ) → IsReady g p x → let s : State = stage (counted 0 Away) Never 0 k in
    ready g s p (answers true) x ≡ Calls (Clears o) (λ t. c) → 0 < (k.notes o).count → Reaches g c (with_note k o (writable (k.notes o))) q l → Reaches g p k q l
clearing g p c q k l x o r e some rest =
    let s : State = stage (counted 0 Away) Never 0 k in
    next_step g p c q k (with_note k o (writable (k.notes o))) l s (after_clear s o) x r refl refl (ap (taken g.size s) e ∙ cleared_at g.size o k c some) refl refl rest

stored_at : (n o f i v : ℕ) (k : Known) (c : Program) → (k.notes o).frame ≡ Some f → (k.notes o).writing ≡ true → let s : State = stage (counted 0 Away) Never 0 k in
    taken n s (Calls (Stores o f i v) (λ t. c)) ≡ Some (after_store s o f i v, c)
stored_at n o f i v k c there writes = simp (there, writes, eq-eqb f f refl) refl

-- a value is stored
pub storing : (g : Setting) (p c q : Program) (k l : Known) (x : Touch) (o f i v : ℕ) → IsReady g p x → let s : State = stage (counted 0 Away) Never 0 k in
    ready g s p (answers true) x ≡ Calls (Stores o f i v) (λ t. c) → (k.notes o).frame ≡ Some f → (k.notes o).writing ≡ true
    → Reaches g c (with_note k o (added (k.notes o) i v)) q l → Reaches g p k q l
storing g p c q k l x o f i v r e there writes rest =
    let s : State = stage (counted 0 Away) Never 0 k in
    next_step g p c q k (with_note k o (added (k.notes o) i v)) l s (after_store s o f i v) x r refl refl (ap (taken g.size s) e ∙ stored_at g.size o f i v k c there writes) refl refl rest

-- ---- which turn an instruction takes

pub aims_turn : (g : Setting) (s : State) (p : Program) (a : Answer) (k : ℕ) (w : Option Cell) (h : Option Hold) (o : Option ℕ) → k < length p.holds → hold_at p.holds k ≡ h → object_or_none g p w ≡ o
    → ready g s p a (touch.Aims k w) ≡ aims_at g p k h o
aims_turn g s p a k w h o low held wanted =
    ap (λ b. cond b (aims_at g p k (hold_at p.holds k) (object_or_none g p w)) NotEnabled) (lt-ltb k (length p.holds) low)
    ∙ ap (λ y. aims_at g p k y (object_or_none g p w)) held ∙ ap (aims_at g p k h) wanted

pub aims_held : (g : Setting) (p : Program) (k o : ℕ) (h : Hold) → h.object ≡ o → aims_at g p k (Some h) (Some o) ≡ Alone (finished g p 0)
aims_held g p k o h e = ap (λ b. cond b (Alone (finished g p 0)) (closes p k h)) (eq-eqb h.object o e)

pub aims_elsewhere : (g : Setting) (p : Program) (k o : ℕ) (h : Hold) → (h.object == o) ≡ false → aims_at g p k (Some h) (Some o) ≡ closes p k h
aims_elsewhere g p k o h e = ap (λ b. cond b (Alone (finished g p 0)) (closes p k h)) e

pub loads_turn : (g : Setting) (s : State) (p : Program) (a : Answer) (k o f : ℕ) (x : Cell) (h : Hold) → hold_at p.holds k ≡ Some h → h.object ≡ o → object_of g p x ≡ o → (s.note o).frame ≡ Some f
    → ready g s p a (touch.Loads k x) ≡ Alone (finished g p (s.cell f (x.index % g.size)))
loads_turn g s p a k o f x h held same is there =
    let i : ℕ = x.index % g.size in
    ap (λ y. loads_by g s p y (object_of g p x) i) held ∙ ap (λ y. loads_by g s p (Some h) y i) is
    ∙ ap (λ b. cond b (loads_from g s p (s.note o).frame i) NotEnabled) (eq-eqb h.object o same) ∙ ap (λ y. loads_from g s p y i) there

-- a store by a hold that is one for writing, or is not yet
abbrev pub store_or_clear : Setting → State → Program → ℕ → ℕ → ℕ → ℕ → Bool → Turn Program
store_or_clear g s p k o i v writes = cond writes (stores_to g p (s.note o).frame o i v) (Calls (Clears o) (λ t. holding p k (Some (record { object = o; writes = true }))))

pub stores_turn : (g : Setting) (s : State) (p : Program) (a : Answer) (k o : ℕ) (x : Cell) (v : ℕ) (h : Hold) → hold_at p.holds k ≡ Some h → h.object ≡ o → object_of g p x ≡ o
    → ready g s p a (touch.Stores k x v) ≡ store_or_clear g s p k o (x.index % g.size) v h.writes
stores_turn g s p a k o x v h held same is =
    let i : ℕ = x.index % g.size in
    ap (λ y. stores_by g s p k y (object_of g p x) i v) held ∙ ap (λ y. stores_by g s p k (Some h) y i v) is
    ∙ ap (λ b. cond b (store_or_clear g s p k o i v h.writes) NotEnabled) (eq-eqb h.object o same)

pub leaves_turn : (g : Setting) (s : State) (p : Program) (a : Answer) (k : ℕ) (h : Option Hold) → hold_at p.holds k ≡ h → ready g s p a (touch.Leaves k) ≡ leaves_by g p k h
leaves_turn g s p a k h held = ap (leaves_by g p k) held
