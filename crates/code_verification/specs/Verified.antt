-- Images that run safely without a look at what they do: they are well formed, each load and store is of a place whose check was made, and entry facts
-- name what is there.
use Rattle.std.specs.Prelude.{◌≡◌, ℕ, ◌<◌, ◌≤◌, true, List, [], ◌∷◌, All, slice_get}
use Rattle.code_form.specs.declared.form.Kind.{Kind}
use Rattle.code_form.specs.declared.form.Fact.{Fact}
use Rattle.code_form.specs.declared.form.Fact.TheVariants as fact
use Rattle.code_form.specs.Form.{Instruction, Block, Function, Image}
use Rattle.code_form.specs.Code.{is_array_of, is_pointer, most_scopes, on_kind, place_fits}
use Rattle.code_form.specs.Known.{Known, after, facts_known}
use Rattle.code_form.specs.Asked.{IsGuarded}
use Rattle.code_verification.specs.WellFormed.{IsWellFormed}

-- each load and store of these instructions is of a place whose check was made, where so much is known before them
abbrev pub AreGuarded : Known → List Instruction → Type 0
AreGuarded k [] = Unit {0}
AreGuarded k (i ∷ rest) = IsGuarded k i × AreGuarded (after i k) rest

-- so it is in a block where its entry facts are known
abbrev pub IsGuardedBlock : Block → Type 0
IsGuardedBlock b = AreGuarded (facts_known b.facts) b.code

-- and in each block of a function
abbrev pub IsGuardedFunction : Function → Type 0
IsGuardedFunction f = All IsGuardedBlock f.blocks

-- a fact at the entry of a block names registers that are there, of the right kinds, and one of so many scopes
abbrev pub NamesFact : List Kind → ℕ → Fact → Type 0
NamesFact ks scopes (fact.Nonnull r) = on_kind is_pointer (slice_get ks r) ≡ true
NamesFact ks scopes (fact.Inside d r) = is_array_of (slice_get ks d) (slice_get ks r) ≡ true
NamesFact ks scopes (fact.Aimed s r off disp) = (s < scopes) × (place_fits ks r off ≡ true)
NamesFact ks scopes (fact.Shut s) = s < scopes

-- so does each entry fact of a function
abbrev pub NamesFacts : Function → Type 0
NamesFacts f = All (λ (b : Block). All (NamesFact f.kinds f.scopes) b.facts) f.blocks

-- a verified image
pub record IsVerified (C : Image) : Type 0 where
  pub formed : IsWellFormed C
  -- no function has more than four scopes
  pub few : most_scopes C.functions ≤ 4
  pub facts : All NamesFacts C.functions
  pub guarded : All IsGuardedFunction C.functions
