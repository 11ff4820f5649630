-- What is known of each scope behind scoped code, and the discipline of scopes: each access that relies on an aim finds it fresh, all scopes are shut
-- where that is asked, and what is known where ways join is a function of what is known before the code that has them.
use Rattle.std.specs.Prelude.{◌≡◌, ℕ, ◌==◌, ◌||◌, ◌<◌, ◌≤◌, Bool, true, false, cond, All, List, [], ◌∷◌, Option, Some, None, slice_get}
use Rattle.code_form.specs.declared.form.Kind.{Kind}
use Rattle.code_form.specs.Form.{Simple}
use Rattle.code_form.specs.Code.{is_register, needs_shut, place_fits}
use Rattle.code_form.specs.Effects.{upd}
use Rattle.code_form.specs.Known.{Knows, Unknown, KnownShut, KnownAimed, forget, written_by}
use Rattle.middle_form.specs.Scoped.{Code, Nothing, Do, Load, Store, LoadBy, StoreBy, Aim, Leave, Loose, Call, Fail, Then, Choose, Loop, Block, Exit, Function, Program}

-- what is known of each scope
abbrev pub Table : Type 0
Table = ℕ → Knows

-- at the entry of a function all its scopes are shut
abbrev pub at_entry : Table
at_entry = λ s. KnownShut

-- ---- what code writes, and which scopes it touches

-- code writes register r somewhere
abbrev pub writes : Code → ℕ → Bool
writes Nothing r = false
writes (Do o) r = is_register r (written_by o)
writes (Load to s q off disp) r = r == to
writes (Store s q off disp from) r = false
writes (LoadBy to s q off disp) r = r == to
writes (StoreBy s q off disp from) r = false
writes (Aim s q off disp) r = false
writes (Leave s) r = false
writes (Loose s) r = false
writes (Call to f args) r = is_register r to
writes (Fail a) r = false
writes (Then a b) r = writes a r || writes b r
writes (Choose c a b) r = writes a r || writes b r
writes (Loop test c body) r = writes test r || writes body r
writes (Block a) r = writes a r
writes (Exit k) r = false

-- code aims, leaves or loosens scope t somewhere
abbrev pub touches : Code → ℕ → Bool
touches Nothing t = false
touches (Do o) t = false
touches (Load to s r off disp) t = t == s
touches (Store s r off disp from) t = t == s
touches (LoadBy to s r off disp) t = false
touches (StoreBy s r off disp from) t = false
touches (Aim s r off disp) t = t == s
touches (Leave s) t = t == s
touches (Loose s) t = t == s
touches (Call to f args) t = false
touches (Fail a) t = false
touches (Then a b) t = touches a t || touches b t
touches (Choose c a b) t = touches a t || touches b t
touches (Loop test c body) t = touches test t || touches body t
touches (Block a) t = touches a t
touches (Exit k) t = false

-- ---- what is known

-- a register was written, where there is one
abbrev pub wrote : Option ℕ → Table → Table
wrote None k = k
wrote (Some d) k = λ s. forget d (k s)

-- a register that an aim names is among those written
abbrev pub is_lost : (ℕ → Bool) → ℕ → Option ℕ → Bool
is_lost written r None = written r
is_lost written r (Some d) = written r || written d

-- what stays known of a scope where ways of some code join: that it is shut, since the code shuts it again on each of its ways; and its aim, unless the
-- code touches the scope or writes a register of the aim
abbrev pub stays : Bool → (ℕ → Bool) → Knows → Knows
stays touched written Unknown = Unknown
stays touched written KnownShut = KnownShut
stays touched written (KnownAimed r off disp) = cond (touched || is_lost written r off) Unknown (KnownAimed r off disp)

-- what is known where the ways of some code join, where so much is known before it
abbrev pub join : Code → Table → Table
join a k = λ s. stays (touches a s) (writes a) (k s)

-- what is known behind code
abbrev pub after : Code → Table → Table
after Nothing k = k
after (Do o) k = wrote (written_by o) k
after (Load to s r off disp) k = upd (wrote (Some to) k) s Unknown
after (Store s r off disp from) k = upd k s Unknown
after (LoadBy to s r off disp) k = wrote (Some to) k
after (StoreBy s r off disp from) k = k
after (Aim s r off disp) k = upd k s (KnownAimed r off disp)
after (Leave s) k = upd k s KnownShut
after (Loose s) k = upd k s Unknown
after (Call to f args) k = wrote to k
after (Fail a) k = k
after (Then a b) k = after b (after a k)
after (Choose c a b) k = join (Choose c a b) k
after (Loop test c body) k = join (Loop test c body) k
after (Block a) k = join (Block a) k
after (Exit j) k = k

-- ---- the discipline

-- what is asked of a scope is known of it
abbrev pub IsKnownAs : (asked known : Knows) → Type 0
IsKnownAs Unknown known = Unit {0}
IsKnownAs KnownShut known = known ≡ KnownShut
IsKnownAs (KnownAimed r off disp) known = known ≡ KnownAimed r off disp

-- so is all that is asked
abbrev pub Brings : (known asked : Table) → Type 0
Brings known asked = (s : ℕ) → IsKnownAs (asked s) (known s)

-- so many scopes are shut
abbrev pub AreShut : ℕ → Table → Type 0
AreShut n k = (s : ℕ) → s < n → k s ≡ KnownShut

-- of a function with registers of these kinds and n scopes
module _ (ks : List Kind) (n : ℕ) where
  -- Code keeps the discipline where so much is known before it. `exits` is what has to be known at the ways out of the loops and blocks round it, the
  -- innermost first; of an exit that leads nowhere nothing is asked, since it is stuck, and no well-formed code has one
  abbrev pub IsDisciplined : List Table → Code → Table → Type 0
  IsDisciplined exits Nothing k = Unit {0}
  IsDisciplined exits (Do o) k = needs_shut (Simple o) ≡ true → AreShut n k
  IsDisciplined exits (Load to s r off disp) k = s < n
  IsDisciplined exits (Store s r off disp from) k = s < n
  IsDisciplined exits (LoadBy to s r off disp) k = (s < n) × (place_fits ks r off ≡ true) × (k s ≡ KnownAimed r off disp)
  IsDisciplined exits (StoreBy s r off disp from) k = (s < n) × (place_fits ks r off ≡ true) × (k s ≡ KnownAimed r off disp)
  IsDisciplined exits (Aim s r off disp) k = (s < n) × (place_fits ks r off ≡ true)
  IsDisciplined exits (Leave s) k = s < n
  IsDisciplined exits (Loose s) k = s < n
  IsDisciplined exits (Call to f args) k = AreShut n k
  IsDisciplined exits (Fail a) k = Unit {0}
  IsDisciplined exits (Then a b) k = IsDisciplined exits a k × IsDisciplined exits b (after a k)
  IsDisciplined exits (Choose c a b) k =
      IsDisciplined exits a k × Brings (after a k) (join (Choose c a b) k) × IsDisciplined exits b k × Brings (after b k) (join (Choose c a b) k)
  IsDisciplined exits (Loop test c body) k =
      IsDisciplined (join (Loop test c body) k ∷ exits) test (join (Loop test c body) k)
      × Brings (after test (join (Loop test c body) k)) (join (Loop test c body) k)
      × IsDisciplined (join (Loop test c body) k ∷ exits) body (after test (join (Loop test c body) k))
      × Brings (after body (after test (join (Loop test c body) k))) (join (Loop test c body) k)
  IsDisciplined exits (Block a) k = IsDisciplined (join (Block a) k ∷ exits) a k × Brings (after a k) (join (Block a) k)
  IsDisciplined exits (Exit j) k = (e : Table) → slice_get exits j ≡ Some e → Brings k e

-- a function: it has at most four scopes, keeps the discipline from its entry on, and has all its scopes shut behind its code
pub record IsScopedFunction (g : Function) : Type 0 where
  pub few : g.scopes ≤ 4
  pub body : IsDisciplined g.kinds g.scopes [] g.body at_entry
  pub shut : AreShut g.scopes (after g.body at_entry)

-- a program
abbrev pub IsScoped : Program → Type 0
IsScoped P = All IsScopedFunction P.functions
