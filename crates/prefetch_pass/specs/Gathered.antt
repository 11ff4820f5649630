-- What is gathered of a loop: its assignments in order, and for each register that it assigns what these tell of it.
use Rattle.std.specs.Prelude.{◌≡◌, ℕ, ◌==◌, nat_eq, Bool, false, cond, Option, Some, None, List, [], ◌∷◌, unwrap_or, fold, true, ◌||◌}
use Rattle.std.specs.List.{list_all}
use Rattle.std.specs.Option.{option_eq}
use Rattle.std.specs.HashMap.{HashMap, get}
use Rattle.std.specs.HashSet.{HashSet, contains}
use Rattle.std.specs.declared.hash.FoldHasher.{FoldHasher}
use Rattle.std.specs.declared.hash.BuildHasherDefault.{BuildHasherDefault}
use Rattle.cells.specs.declared.int32.Int32Op.TheVariants.{Add}
use Rattle.code_form.specs.declared.form.Operation.{Operation}
use Rattle.code_form.specs.declared.form.Operation.TheVariants.{Binary, CheckIndex, Move}
use Rattle.code_form.specs.Code.{is_register}
use Rattle.middle_form.specs.Scoped.{Code, Do, Then, Choose, Loop, Block}
use Rattle.prefetch_pass.specs.declared.changes.Assignment.{Assignment}
use Rattle.prefetch_pass.specs.Raised.{is_among}

-- those of register r, in order
abbrev pub changes_among : ℕ → List Assignment → List (Option Operation)
changes_among r [] = []
changes_among r (a ∷ xs) = cond (r == a.to) (a.change ∷ changes_among r xs) (changes_among r xs)

-- whether each is so, where there are some
abbrev pub each_of : (Option Operation → Bool) → List (Option Operation) → Option Bool
each_of p [] = None
each_of p (c ∷ cs) = Some (list_all p (c ∷ cs))

-- ---- sums

-- the register to which such a step is added
abbrev pub adds_to : (is_step : ℕ → Bool) → Option Operation → Option ℕ
adds_to is_step (Some (Binary Add d a b)) = cond (is_step b) (Some a) None
adds_to is_step _ = None

-- what all of these are, where there are some: None where they differ
abbrev pub common : List (Option ℕ) → Option (Option ℕ)
common [] = None
common (s ∷ ss) = Some (cond (list_all (option_eq nat_eq s) ss) s None)

-- what is common to what these have in common and one more
abbrev pub joined : Option (Option ℕ) → Option ℕ → Option ℕ
joined None s = s
joined (Some t) s = cond (option_eq nat_eq t s) t None

-- it is register r
abbrev pub is_one : ℕ → Option (Option ℕ) → Bool
is_one r None = false
is_one r (Some s) = is_register r s

-- register r is raised by an assignment, where these are steps, and each register has sums of this one alone
abbrev pub raises : (is_step : ℕ → Bool) → (sums : ℕ → Option (Option ℕ)) → ℕ → Option Operation → Bool
raises is_step sums r (Some (Move d t)) = is_one r (sums t)
raises is_step sums r c = is_register r (adds_to is_step c)

-- ---- tables

-- registers, each marked or not
abbrev pub Marks : Type 0
Marks = HashMap ℕ Bool (BuildHasherDefault FoldHasher)

-- register r is marked
abbrev pub is_marked : Marks → ℕ → Bool
is_marked m r = unwrap_or (get nat_eq m r) false

-- the last of these tables that has register r marks it
abbrev pub last_mark : List Marks → ℕ → Bool
last_mark ms r = fold (λ b m. unwrap_or (get nat_eq m r) b) false ms

-- these are the registers that are so marked
abbrev pub AreRaised : List Marks → List ℕ → Type 0
AreRaised ms rs = (r : ℕ) → last_mark ms r ≡ is_among rs r

-- a set has just these registers
abbrev pub HasJust : HashSet ℕ (BuildHasherDefault FoldHasher) → List ℕ → Type 0
HasJust s rs = (r : ℕ) → contains nat_eq s r ≡ is_among rs r

-- ---- what concerns no offset

-- an instruction checks an index
abbrev pub is_check : Operation → Bool
is_check (CheckIndex d r i size) = true
is_check o = false

-- code has such an instruction
abbrev pub has_checks : Code → Bool
has_checks (Do o) = is_check o
has_checks (Then a b) = has_checks a || has_checks b
has_checks (Choose c a b) = has_checks a || has_checks b
has_checks (Loop test c body) = has_checks test || has_checks body
has_checks (Block a) = has_checks a
has_checks _ = false
